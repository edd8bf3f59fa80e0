-- From a record within its widths, on pages that hold bytes: every access of a call fits, and so do the record and the pages that it leaves.
use Rattle.std.proofs.Common.{ℕ, ◌<◌}
use Rattle.std.specs.Prelude.{Option}
use Rattle.arithmetic.specs.declared.record.Lh5801.{Lh5801}
use Rattle.arithmetic.specs.Widths.{Widths}
use Rattle.pages.specs.Pages.{Pages}
use Rattle.pages.specs.Widths.{AllBytes, AllFit}
use Rattle.pages.proofs.Widths.{fit_append}
use Rattle.execution.specs.declared.Inputs.{Inputs}
use Rattle.execution.proofs.Widths.{step_widths}
use Rattle.run.specs.declared.Settings.{Settings}
use Rattle.run.specs.declared.End.{End}
use Rattle.run.specs.declared.End.TheVariants.{AllSteps, LogFull, Step}
use Rattle.run.specs.Run.{CallResult, no_step, completed, one_step, run_of, call_of}
use Rattle.run.proofs.Steps.{run_each}
use Rattle.run.proofs.Acceptance.{call_each}

-- each access of the call fits, the record that it leaves is within its widths, and its pages hold bytes
pub record CallInWidth (o : CallResult) : Type 0 where
  pub bus : AllFit o.bus
  pub cpu : Widths o.answer.cpu
  pub pages : AllBytes o.pages

no_step_widths : (e : End) (m : Lh5801) (p : Pages) → Widths m → AllBytes p → CallInWidth (no_step e m p)
unfolding no_step
no_step_widths e m p w bytes = record { bus = tt; cpu = w; pages = bytes }

run_widths : (inputs : Inputs) → inputs.keyboard < 0x100
    → (n : ℕ) (free : Option ℕ) (m : Lh5801) (p : Pages) → Widths m → AllBytes p → CallInWidth (run_of n inputs free m p)
unfolding completed
run_widths inputs byte =
    run_each inputs (λ n free m p o. Widths m → AllBytes p → CallInWidth o)
    (λ free m p. no_step_widths AllSteps m p)
    (λ n free m p f. no_step_widths LogFull m p)
    (λ n free m p s f e. no_step_widths (Step s) m p)
    (λ n free m p k t kind f e h w bytes.
    let step = step_widths inputs byte m w p bytes in
    let rest = h (rw e at step.answer) step.pages in
    record { bus = fit_append (one_step inputs m p).accesses _ step.accesses rest.bus; cpu = rest.cpu; pages = rest.pages })

-- any call, a refused one too: that has no access, and leaves the record and the pages as they were given
pub call_widths : (s : Settings) → s.inputs.keyboard < 0x100
    → (free : Option ℕ) (m : Lh5801) (p : Pages) → Widths m → AllBytes p → CallInWidth (call_of s free m p)
call_widths s byte free m p w bytes =
    call_each s free m p CallInWidth (λ e. no_step_widths e m p w bytes) (λ h. run_widths s.inputs byte s.limit free m p w bytes)
