use Rattle.run.specs.Line.{register_fields}
use Rattle.run.specs.Code.LineParts.{written}
use Rattle.run.proofs.PrintedLine.{gathered_is}
use Rattle.run.proofs.line.LineText.registers.Goals as goal

pub returns-clause-bytes : goal.returns-clause-bytes
returns-clause-bytes c =
    rw (c.hex-9.ensures.bytes, c.hex-8.ensures.bytes, c.hex-7.ensures.bytes, c.hex-6.ensures.bytes, c.hex-5.ensures.bytes, c.hex-4.ensures.bytes, c.hex-3.ensures.bytes, c.hex-2.ensures.bytes, c.hex.ensures.bytes, c.from.ensures, c.from-2.ensures, c.flags_of.ensures.0)
    (gathered_is (written c.args.self.now) (register_fields c.args.cpu))
