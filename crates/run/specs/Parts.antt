-- Parts of buffers: bytes of a file at the start of a page, and the run call on the starts of two pages.
use Rattle.std.specs.Prelude.{◌≡◌, ℕ, Bool, List, take, drop, Option}
use Rattle.std.proofs.lemmas.List.Edits.{sets}
use Rattle.arithmetic.specs.declared.record.Lh5801.{Lh5801}
use Rattle.pages.specs.declared.ReadOnly.{ReadOnly}
use Rattle.pages.specs.Pages.{pages}
use Rattle.run.specs.declared.Settings.{Settings}
use Rattle.run.specs.declared.Answer.{Answer}
use Rattle.run.specs.Run.{CallResult, call_of}
use Rattle.bus.specs.declared.BusLog.{BusLog}
use Rattle.run.specs.Answers.{free_if, Logged}

-- so many bytes, from a place on
abbrev pub part : List ℕ → ℕ → ℕ → List ℕ
part bytes at len = take len (drop at bytes)

-- bytes stored from the start of a page on; those past its end are dropped
abbrev pub at_start : List ℕ → List ℕ → List ℕ
at_start page bytes = sets page 0 bytes

-- the run call on the starts of two pages
abbrev pub run_parts_of : Settings → Option ℕ → Lh5801 → List ℕ → ℕ → List ℕ → ℕ → ReadOnly → CallResult
run_parts_of settings free cpu page0 len0 page1 len1 read_only = call_of settings free cpu (pages (take len0 page0) (take len1 page1) read_only)

-- what it answers and leaves: after the starts the pages are as they were
pub record RunParts (settings : Settings) (is_lent : Bool) (before : BusLog) (cpu : Lh5801) (page0 : List ℕ) (len0 : ℕ) (page1 : List ℕ) (len1 : ℕ)
    (read_only : ReadOnly) (r : Answer) (after0 after1 : List ℕ) (now : BusLog) : Type 0 where
  pub answer : r ≡ (run_parts_of settings (free_if is_lent before) cpu page0 len0 page1 len1 read_only).answer
  pub page0_is : take len0 after0 ≡ (run_parts_of settings (free_if is_lent before) cpu page0 len0 page1 len1 read_only).pages.page0
  pub rest0_kept : drop len0 after0 ≡ drop len0 page0
  pub page1_is : take len1 after1 ≡ (run_parts_of settings (free_if is_lent before) cpu page0 len0 page1 len1 read_only).pages.page1
  pub rest1_kept : drop len1 after1 ≡ drop len1 page1
  pub logged : Logged is_lent (run_parts_of settings (free_if is_lent before) cpu page0 len0 page1 len1 read_only).bus before now
