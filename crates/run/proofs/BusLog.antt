-- Laws of a log: how many entries are free, and what is appended.
use Rattle.std.proofs.Common.{◌≡◌, ℕ, ◌+◌, Bool, true, false, List, [], ◌++◌, length, sym, refl, ap, ◌∙◌, add-zero, add_assoc, arith, length-append}
use Rattle.std.specs.Prelude.{Option, None, Some}
use Rattle.pages.specs.Prog.{Access}
use denote.Triple.Both.{Both}
use Rattle.std.specs.Borrow.{MutBor}
use Rattle.bus.specs.declared.BusLog.{BusLog}
use Rattle.bus.specs.Code.Notes.{Appends}
use Rattle.bus.proofs.Notes.{noted_append, noted_length}
use Rattle.run.specs.BusLog.{Log, log_of, held_log, free_of, free_in, free_after, with_entries, lent_if, appended_if}
use Rattle.run.specs.Answers.{free_if, Logged}

-- no access, and accesses after accesses
pub after_none : (free : Option ℕ) → free_after free [] ≡ free
after_none None = refl
after_none (Some n) = ap Some (omega arith)

pub after_append : (free : Option ℕ) (k l : List Access) → free_after free (k ++ l) ≡ free_after (free_after free k) l
after_append None k l = refl
after_append (Some n) k l = ap Some (omega (arith, length-append k l))

module _ (log : Log) where
  pub appended_none : with_entries log [] ≡ log
  unfolding with_entries
  appended_none = ap (log_of log.entries) (add-zero log.used)

  pub appended_then : (k l : List Access) → with_entries (with_entries log k) l ≡ with_entries log (k ++ l)
  unfolding with_entries
  appended_then k l = rw (noted_append log.entries log.used k l, length-append k l, add_assoc) refl

  -- the used count goes on, the list keeps its length, and the free entries are those that are left
  pub log_used : (l : List Access) → (with_entries log l).used ≡ log.used + length l
  unfolding with_entries
  log_used l = refl

  pub appended_length : (l : List Access) → length (with_entries log l).entries ≡ length log.entries
  unfolding with_entries
  appended_length l = noted_length log.entries log.used l

  pub appended_free : (l : List Access) → Some (free_of (with_entries log l)) ≡ free_after (Some (free_of log)) l
  appended_free l = ap Some (omega (arith, appended_length l, log_used l))

-- the same of a list and a count that are lent as a log or not
pub free_left : (lent : Bool) (log : Log) (l : List Access) → free_in (lent_if lent (appended_if lent log l)) ≡ free_after (free_in (lent_if lent log)) l
unfolding free_in
free_left true log l = appended_free log l
free_left false log l = refl

pub left_then : (lent : Bool) (log : Log) (k l : List Access) → appended_if lent (appended_if lent log k) l ≡ appended_if lent log (k ++ l)
left_then true log k l = appended_then log k l
left_then false log k l = refl

-- a log that is not lent stays as it is
pub logged_unlent : {l : List Access} {log : BusLog} → Logged false l log log
logged_unlent = record { log = refl; lent = refl }

-- a log that may be lent: no access, what was appended, what more is, and how many entries are then free
pub logged_none : {is_lent : Bool} {log : BusLog} → Logged is_lent [] log log
logged_none {is_lent = true} {log} = record { log = sym (appended_none (held_log log)); lent = refl }
logged_none {is_lent = false} = logged_unlent

pub logged_by : {l : List Access} (log : Both (MutBor BusLog) (MutBor BusLog)) → Appends l log → Logged true l log.entry.now log.exit.now
unfolding with_entries
logged_by log a = record { log = rw (a.entries, a.used) refl; lent = a.lent }

pub logged_then : {is_lent : Bool} {k l : List Access} {before now after : BusLog} → Logged is_lent k before now → Logged is_lent l now after
    → Logged is_lent (k ++ l) before after
logged_then {is_lent = true} {k} {l} {before} a b =
    record { log = b.log ∙ ap (λ x. with_entries x l) a.log ∙ appended_then (held_log before) k l; lent = b.lent ∙ a.lent }
logged_then {is_lent = false} a b = record { log = b.log ∙ a.log; lent = b.lent ∙ a.lent }

pub logged_free : {is_lent : Bool} {l : List Access} {before now : BusLog} → Logged is_lent l before now → free_if is_lent now ≡ free_after (free_if is_lent before) l
unfolding free_in
logged_free {is_lent = true} {l} {before} g = ap (λ x. Some (free_of x)) g.log ∙ appended_free (held_log before) l
logged_free {is_lent = false} g = refl
