use Rattle.std.proofs.Common.{◌≡◌, ◌/◌, inl, inr, sym, arith}
use Rattle.std.proofs.lemmas.Bool.{cases_lt}
use Rattle.execution.specs.OpcodesFd.{decoded_fd}
use Rattle.execution.proofs.Table.{blank}
use Rattle.execution.proofs.opcodes_fd.decode_fd.Goals as goal

pub returns-in-4 : goal.returns-in-4
unfolding decoded_fd
returns-in-4 c = rw (c.in-4.is, c.row_4.ensures, c.listed.ensures, c.listed-in-4.ensures, c.listed-in-4-2.ensures)

pub returns-in-5 : goal.returns-in-5
unfolding decoded_fd
returns-in-5 c = rw (c.in-5.is, c.row_4-in-5.ensures, c.listed-in-5.ensures, c.listed-in-5-2.ensures)

pub returns-in-8 : goal.returns-in-8
unfolding decoded_fd
returns-in-8 c = rw (c.in-8.is, c.row_8.ensures, c.listed-in-8.ensures, c.listed-in-8-2.ensures, c.listed-in-8-3.ensures)

pub returns-in_default : goal.returns-in_default
unfolding decoded_fd
returns-in_default c = elim (cases_lt (c.args.byte / 16) 15) [
  | inl l ↦ let h : c.args.byte / 16 ≡ 7 = omega arith in rw h (sym (blank _))
  | inr l ↦ let h : c.args.byte / 16 ≡ 15 = omega arith in rw h (sym (blank _))
]
