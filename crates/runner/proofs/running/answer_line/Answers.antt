use Rattle.std.proofs.Common.{Some, None, codes, subst, arith, rules}
use Rattle.lines.specs.Lines.{numbers_in}
use Rattle.lines.specs.declared.writer.Line.TheVariants.{Refused}
use Rattle.lines.proofs.Lay.{length_line}
use Rattle.lines.proofs.Room.{line_room}
use Rattle.runner.specs.Answers.{FitInLine}
use Rattle.runner.proofs.running.answer_line.Goals as goal

pub returns-in-Ok : goal.returns-in-Ok
returns-in-Ok c = record { value = search rules; room = λ h. let k = subst FitInLine c.in-Ok.is h in omega (arith, length_line c.args.letter (codes " ok") (numbers_in c.in-Ok.answer), k) }

pub returns-in-Collateral : goal.returns-in-Collateral
returns-in-Collateral c = record { value = search rules; room = λ h. omega (arith, line_room (Refused c.args.letter c.number.result (Some c.cause.result)) (c.number.type_inv, (c.cause.type_inv, tt))) }

pub returns-in-Book : goal.returns-in-Book
returns-in-Book c = record { value = search rules; room = λ h. omega (arith, line_room (Refused c.args.letter c.number.result None) (c.number.type_inv, tt)) }
