-- The list, item by item.
use Rattle.std.proofs.Common.{◌≡◌, ℕ, zero, suc, ◌<◌, ◌≤◌, Bool, true, false, List, length, ap, ap₂, arith, le-ltb, lt-ltb}
use Rattle.std.specs.Prelude.{Option, None, Some}
use Rattle.std.specs.Int.{from_bool}
use Rattle.replay.specs.declared.Item.{Item}
use Rattle.replay.specs.declared.Items.{Items}
use Rattle.replay.specs.declared.Tally.{Tally}
use Rattle.replay.specs.Calls.{item_value, differs_of, item_in, with_call, with_item, replay_from, replay_of, GivesItem}

-- a call that differs counts as 1
pub from_bool_small : (b : Bool) → from_bool b ≤ 1
from_bool_small true = omega arith
from_bool_small false = omega arith

-- what is counted so far, with the items that are left, is the whole list's tally
pub record Counted (bytes left : List ℕ) (tally : Tally) : Type 0 where
  pub more : ℕ
  pub enough : length left ≤ more
  pub is : replay_from more left tally ≡ replay_of bytes

pub none_counted : (bytes : List ℕ) {tally : Tally} → (tally.calls ≡ 0) × (tally.differ ≡ 0) → Counted bytes bytes tally
unfolding replay_of
none_counted bytes {tally} none =
    let zeros : tally ≡ record { calls = 0; differ = 0 } = ap₂ (λ (c d : ℕ). record { calls = c; differ = d }) none.0 none.1 in
    record { more = length bytes; enough = omega arith; is = ap (replay_from (length bytes) bytes) zeros }

module _ {bytes left : List ℕ} {tally : Tally} (c : Counted bytes left tally) where
  -- the next item is counted, and then those after it
  next_counted : 0 < length left → (more : ℕ) × (length left ≤ suc more) × (with_item tally (item_in left) (replay_from more) ≡ replay_of bytes)
  unfolding replay_from
  next_counted h = go c.more c.enough c.is
    where
      go : (more : ℕ) → length left ≤ more → replay_from more left tally ≡ replay_of bytes → (more : ℕ) × (length left ≤ suc more) × (with_item tally (item_in left) (replay_from more) ≡ replay_of bytes)
      go zero n i = absurd (omega arith)
      go (suc more) n i = (more, n, rw (lt-ltb 0 (length left) h) at i)

  pub all_counted : length left ≤ 0 → tally ≡ replay_of bytes
  unfolding replay_from
  all_counted h = go c.more c.is
    where
      go : (more : ℕ) → replay_from more left tally ≡ replay_of bytes → tally ≡ replay_of bytes
      go zero i = i
      go (suc more) i = rw (le-ltb 0 (length left) h) at i

-- does the item's call differ? One that is cut off does
abbrev pub item_differs : Option Item → Bool
item_differs None = true
item_differs (Some item) = differs_of (item_value item)

-- the next item is counted, and what is left is shorter
pub item_counted : {bytes : List ℕ} {tally : Tally} (old : Items) (item : Option Item) (new : Items) → Counted bytes old.left.now tally → GivesItem old (Some item) new
    → (length new.left.now < length old.left.now) × Counted bytes new.left.now (with_call tally (item_differs item))
unfolding replay_from
item_counted old None new c g =
    let next = next_counted c g.1 in
    (omega (arith, g.1, g.2), record { more = 0; enough = omega (arith, g.2); is = rw g.0 at next.2 })
item_counted old (Some item) new c g =
    let some : 0 < length old.left.now = omega (arith, g.1) in
    let next = next_counted c some in
    (g.1, record { more = next.0; enough = omega (arith, g.1, next.1); is = rw g.0 at next.2 })
