-- The law of a register of 16 bits that wraps downwards, and what the stack keeps of the record.
use Rattle.std.proofs.Common.{◌≡◌, ℕ, false, ◌∙◌}
use Rattle.arithmetic.specs.declared.record.Lh5801.{Lh5801}
use Rattle.arithmetic.specs.Record.{with_t, with_s}
use Rattle.arithmetic.proofs.Status.{status_of, Steady, keeps_s, keeps_p, keeps_lda, steady_t, steady_halted, steady_status, steady_then}
use Rattle.pages.specs.Prog.{◌>>=◌, read, write}
use Rattle.pages.specs.Stack.{mem16_of, push_of, push_word_of, pop_of, push_state_of, accept_of}
use Rattle.pages.proofs.Always.{Always}

module _ (m : Lh5801) where
  -- pushes and pops keep the status
  pub push_keeps : (v : ℕ) → Always (λ k. status_of k ≡ status_of m) (push_of m v)
  unfolding push_of write ◌>>=◌
  push_keeps v = keeps_s m _

  pub push_word_keeps : (w : ℕ) → Always (λ k. status_of k ≡ status_of m) (push_word_of m w)
  unfolding push_word_of push_of write ◌>>=◌
  push_word_keeps w = keeps_s (with_s m _) _ ∙ keeps_s m _

  pub pop_keeps : Always (λ k. status_of k ≡ status_of m) (pop_of m)
  unfolding pop_of read ◌>>=◌
  pop_keeps = λ b. keeps_lda (with_s m _) b ∙ keeps_s m _

  -- an accepted interrupt keeps TM and the ticks, and sets no IR0
  pub accept_steady : (vector : ℕ) → Always (Steady m) (accept_of m vector)
  unfolding accept_of push_state_of push_word_of push_of mem16_of read write ◌>>=◌
  accept_steady vector = λ high low.
      steady_then (steady_status m (with_s m _) (keeps_s m _))
      (steady_then (steady_t (with_s m _) _)
      (steady_then (steady_status (with_t (with_s m _) _) _ (keeps_p (with_s (with_s (with_t (with_s m _) _) _) _) _ ∙ keeps_s (with_s (with_t (with_s m _) _) _) _ ∙ keeps_s (with_t (with_s m _) _) _))
      (steady_halted _ false)))
