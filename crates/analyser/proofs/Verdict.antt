-- Laws of the answer by what is left of the two sequences of writes, and of a turn over the log's entries.
use Rattle.std.proofs.Common.{◌≡◌, ℕ, suc, ◌+◌, ◌<◌, ◌≤◌, Bool, true, false, not, ◌&&◌, List, [], ◌∷◌, length, drop, sym, refl, true≢false, arith, add-zero, zero-add, add-one, drop-cons, drop_of_length-le}
use Rattle.std.specs.Prelude.{slice_index_or}
use mir.Val.{bool_byte}
use Rattle.pages.specs.Written.{Write}
use Rattle.analyser.specs.declared.Comparison.{Comparison}
use Rattle.analyser.specs.declared.Comparison.TheVariants.{Equal, Differ, LogEnded, AnalyserEnded}
use Rattle.analyser.specs.Comparison.{is_write, write_in, writes_logged, writes_caught, same_write, common, parted, verdict}

-- the answer where n writes were the same before
unfoldable pub ahead : ℕ → List Write → List Write → Comparison
ahead n vs ws = parted (drop (common vs ws) vs) (drop (common vs ws) ws) (n + common vs ws)

-- of all of both
pub from_start : (vs ws : List Write) → verdict vs ws ≡ ahead 0 vs ws
unfolding verdict ahead
from_start vs ws = rw zero-add refl

-- by the first writes of what is left
pub ahead_equal : (n : ℕ) → ahead n [] [] ≡ Equal
unfolding ahead common
ahead_equal n = refl

pub ahead_common : (n : ℕ) (v w : Write) (vs ws : List Write) → same_write v w ≡ true → ahead n (v ∷ vs) (w ∷ ws) ≡ ahead (n + 1) vs ws
unfolding ahead common
ahead_common n v w vs ws e =
    let next : n + suc (common vs ws) ≡ n + 1 + common vs ws = omega arith in
    rw (e, next) refl

pub ahead_differ : (n : ℕ) (v w : Write) (vs ws : List Write) → same_write v w ≡ false → ahead n (v ∷ vs) (w ∷ ws) ≡ Differ n
unfolding ahead common
ahead_differ n v w vs ws e = rw (e, add-zero) refl

pub ahead_log_ended : (n : ℕ) (w : Write) (ws : List Write) → ahead n [] (w ∷ ws) ≡ LogEnded n
unfolding ahead common
ahead_log_ended n w ws = rw add-zero refl

pub ahead_analyser_ended : (n : ℕ) (v : Write) (vs : List Write) → ahead n (v ∷ vs) [] ≡ AnalyserEnded n
unfolding ahead common
ahead_analyser_ended n v vs = rw add-zero refl

-- an entry, and those after it
entry_first : (l : List ℕ) (i : ℕ) → i < length l → drop i l ≡ slice_index_or l i 0 ∷ drop (i + 1) l
entry_first l i h = rw add-one (drop-cons l i 0 h)

-- a write that is not the same
write_differs : (w s : Bool) → (w && not s) ≡ true → (w ≡ true) × (s ≡ false)
write_differs true false e = (refl, refl)
write_differs true true e = absurd (true≢false (sym e))
write_differs false s e = absurd (true≢false (sym e))

-- a turn over the entry at i of the log, where n writes were the same
module _ (log analyser : List ℕ) (i n : ℕ) where
  abbrev entry : ℕ
  entry = slice_index_or log i 0

  abbrev other : ℕ
  other = slice_index_or analyser n 0

  abbrev same : Bool
  same = same_write (write_in entry) (write_in other)

  -- the answer where the log is left from i on, and the analyser's list from n on
  abbrev left : ℕ → ℕ → Comparison
  left i n = ahead n (writes_logged (drop i log)) (writes_caught (drop n analyser))

  logged_write : i < length log → is_write entry ≡ true → writes_logged (drop i log) ≡ write_in entry ∷ writes_logged (drop (i + 1) log)
  unfolding writes_logged
  logged_write h e = rw (entry_first log i h, e) refl

  -- a read is passed over, and a write that both have is counted
  read_next : i < length log → is_write entry ≡ false → left i n ≡ left (i + 1) n
  unfolding writes_logged
  read_next h e = rw (entry_first log i h, e) refl

  write_next : i < length log → n < length analyser → is_write entry ≡ true → same ≡ true → left i n ≡ left (i + 1) (n + 1)
  write_next h k e s = rw (logged_write h e, entry_first analyser n k) (ahead_common n _ _ _ _ s)

  -- so the count goes up by the mark
  pub turn_read : (m : ℕ) → i < length log → is_write entry ≡ false → m ≡ bool_byte (is_write entry) → left i n ≡ left (i + 1) (n + m)
  turn_read m h e c = rw (c, e, add-zero) (read_next h e)

  pub turn_next : (m : ℕ) → i < length log → n < length analyser → (is_write entry && not same) ≡ false → m ≡ bool_byte (is_write entry)
      → left i n ≡ left (i + 1) (n + m)
  turn_next m h k d c = go (is_write entry) refl same refl
    where
      go : (b : Bool) → is_write entry ≡ b → (t : Bool) → same ≡ t → left i n ≡ left (i + 1) (n + m)
      go false e t s = turn_read m h e c
      go true e true s = rw (c, e) (write_next h k e s)
      go true e false s = absurd (true≢false (rw (e, s) at d))

  -- or it is the last one
  pub turn_differ : i < length log → n < length analyser → (is_write entry && not same) ≡ true → left i n ≡ Differ n
  turn_differ h k d =
      let each = write_differs _ _ d in
      rw (logged_write h each.0, entry_first analyser n k) (ahead_differ n _ _ _ _ each.1)

  pub turn_ended : i < length log → length analyser ≤ n → is_write entry ≡ true → left i n ≡ AnalyserEnded n
  turn_ended h k e = rw (logged_write h e, drop_of_length-le analyser k) (ahead_analyser_ended n _ _)

  -- after the last entry
  pub end_left : length log ≤ i → n < length analyser → left i n ≡ LogEnded n
  unfolding writes_logged
  end_left h k = rw (drop_of_length-le log h, entry_first analyser n k) (ahead_log_ended n _ _)

  pub end_equal : length log ≤ i → length analyser ≤ n → left i n ≡ Equal
  unfolding writes_logged
  end_equal h k = rw (drop_of_length-le log h, drop_of_length-le analyser k) (ahead_equal n)
