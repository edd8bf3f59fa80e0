-- The writes compared of a run's log are the run's writes, so a faithful analyser's list is equal to it.
use Rattle.std.proofs.Common.{◌≡◌, ℕ, ◌+◌, ◌%◌, ◌<◌, ◌≤◌, ◌↔◌, Bool, true, false, cond, eqb, ltb, ltb-true, ltb-false, zero, suc, ◌-◌, List, [], ◌∷◌, ◌++◌, map, length, take, sym, refl, ap, ap₂, ◌∙◌, append-nil, arith, length-append, length-take-le, take_at}
use Rattle.std.specs.Prelude.{Some, slice_index_or}
use lib.ListN.{length-map}
use Rattle.arithmetic.specs.declared.record.Lh5801.{Lh5801}
use Rattle.arithmetic.specs.Widths.{Widths}
use Rattle.pages.specs.declared.ReadOnly.{ReadOnly}
use Rattle.pages.specs.Pages.{Pages, pages, at}
use Rattle.pages.specs.Prog.{Access, read_of, write_of}
use Rattle.pages.specs.Widths.{AllBytes, AllFit}
use Rattle.pages.specs.Written.{Write, writes}
use Rattle.bus.specs.Log.{entry_of}
use Rattle.bus.proofs.Entries.{entry_read, entry_write}
use Rattle.run.specs.declared.Settings.{Settings}
use Rattle.run.specs.BusLog.{Log, free_in, with_entries}
use Rattle.run.specs.CampaignFile.{Bytes}
use Rattle.run.specs.RecordNumbers.{record_of}
use Rattle.run.specs.Run.{CallResult, writes_of, call_of}
use Rattle.run.proofs.CutLog.{call_entries, beyond_none, call_beyond}
use Rattle.run.proofs.Widths.{call_widths}
use Rattle.analyser.specs.declared.Comparison.TheVariants.{Equal}
use Rattle.analyser.specs.Comparison.{write_in, writes_logged, writes_caught, comparison_of}
use Rattle.analyser.proofs.Answers.{equal_iff}
use Rattle.analyser.proofs.Unchanged.{logged_append}
use Rattle.analyser.proofs.Writes.{write_is}
use Rattle.lh5801.specs.Words.{taken_of, cpu_of}
use Rattle.lh5801.specs.Faithful.{used_entries, entries_of}

-- the entry of a write tells it
write_back : (a v : ℕ) → a < 0x20000 → v < 0x100 → write_in (entry_of (write_of a v)) ≡ record { address = a; byte = v }
write_back a v h k =
    let parts = entry_write a v h k in
    write_is parts.1 parts.0

-- the entries of accesses tell their writes
entries_logged : (l : List Access) → AllFit l → writes_logged (map entry_of l) ≡ writes l
unfolding writes_logged writes
entries_logged [] f = refl
entries_logged (read_of a b ∷ l) f =
    rw (ap (λ k. eqb (k % 2) 1) (entry_read a b f.0.0 f.0.1).2) (entries_logged l f.1)
entries_logged (write_of a v ∷ l) f =
    rw (ap (λ k. eqb (k % 2) 1) (entry_write a v f.0.0 f.0.1).2)
    (ap₂ (λ w ws. w ∷ ws) (write_back a v f.0.0 f.0.1) (entries_logged l f.1))

-- and those of writes alone, as an analyser's
entries_caught : (l : List Access) → AllFit l → writes_caught (entries_of (writes l)) ≡ writes l
unfolding writes
entries_caught [] f = refl
entries_caught (read_of a b ∷ l) f = entries_caught l f.1
entries_caught (write_of a v ∷ l) f = ap₂ (λ w ws. w ∷ ws) (write_back a v f.0.0 f.0.1) (entries_caught l f.1)

module _ (s : Settings) (byte : s.inputs.keyboard < 0x100) (log : Log) (m : Lh5801) (w : Widths m) (p : Pages) (bytes : AllBytes p) where
  abbrev o : CallResult
  o = call_of s (free_in (Some log)) m p

  abbrev after : Log
  after = with_entries log o.bus

  fit : AllFit o.bus
  fit = (call_widths s byte (free_in (Some log)) m p w bytes).bus

  -- the writes in the entries that a call appends are the call's
  pub appended_logged : writes_logged (map entry_of o.bus) ≡ writes_of o
  appended_logged = entries_logged o.bus fit

  -- so exactly the lists that tell them too are equal to these entries
  pub faithful_iff : (list : List ℕ) → comparison_of (map entry_of o.bus) list ≡ Equal ↔ (writes_of o ≡ writes_caught list)
  faithful_iff list = rw (← appended_logged) (equal_iff (map entry_of o.bus) list)

  -- the writes as entries are such a list
  pub faithful_list : writes_of o ≡ writes_caught (entries_of (writes_of o))
  faithful_list = sym (entries_caught o.bus fit)

  -- all used entries after the call tell the writes that they told before, and then the call's
  abbrev AreTold : Type 0
  AreTold = writes_logged (used_entries after) ≡ writes_logged (used_entries log) ++ writes_of o

  -- and they do: where the count is within the list, as the call's entries stand behind those before; where it is beyond, as the call has no access
  pub call_logged : AreTold
  unfolding writes
  call_logged = go (ltb (length log.entries) log.used) refl
    where
      within : log.used ≤ length log.entries → AreTold
      within h =
          let there = call_entries s log m p h in
          let long = length-append (take log.used log.entries) (map entry_of o.bus) ∙ ap₂ (λ i j. i + j) (length-take-le log.used log.entries h) (length-map o.bus entry_of) ∙ sym there.1 in
          ap writes_logged (rw there.0 (take_at (take log.used log.entries ++ map entry_of o.bus) _ after.used long))
          ∙ logged_append (take log.used log.entries) (map entry_of o.bus)
          ∙ ap (λ (ws : List Write). writes_logged (take log.used log.entries) ++ ws) appended_logged

      beyond : length log.entries < log.used → AreTold
      beyond h = rw (call_beyond s log m p h, beyond_none s log m p h) (sym (append-nil (writes_logged (used_entries log))))

      go : (b : Bool) → ltb (length log.entries) log.used ≡ b → AreTold
      go true e = beyond (ltb-true (length log.entries) log.used e)
      go false e = within (ltb-false (length log.entries) log.used e)

  -- so exactly the lists that tell all of these are equal to a log that is handed on from call to call
  pub used_iff : (list : List ℕ) → comparison_of (used_entries after) list ≡ Equal ↔ (writes_logged (used_entries log) ++ writes_of o ≡ writes_caught list)
  used_iff list = rw (← call_logged) (equal_iff (used_entries after) list)

-- ---- what the premises ask is so of whatever the code is given

-- the record of the C entry's words
pub given_widths : (words : List ℕ) → Widths (cpu_of words)
unfolding taken_of record_of
given_widths words = record { a = omega arith; t = omega arith; x = omega arith; y = omega arith; u = omega arith; s = omega arith; p = omega arith }

-- pages of bytes
pub given_bytes : (page0 page1 : List ℕ) (r : ReadOnly) → Bytes page0 → Bytes page1 → AllBytes (pages page0 page1 r)
unfolding at
given_bytes page0 page1 r f g a = go (ltb a 0x10000)
  where
    byte_in : (l : List ℕ) → Bytes l → (i : ℕ) → slice_index_or l i 0xFF < 0x100
    byte_in [] h i = omega arith
    byte_in (byte ∷ l) h zero = h.0
    byte_in (byte ∷ l) h (suc i) = byte_in l h.1 i

    go : (b : Bool) → cond b (slice_index_or page0 a 0xFF) (slice_index_or page1 (a - 0x10000) 0xFF) < 0x100
    go true = byte_in page0 f a
    go false = byte_in page1 g (a - 0x10000)
