use Rattle.std.proofs.Common.{◌^◌, ◌<◌, arith, rules}
use Rattle.lines.specs.declared.writer.Line.TheVariants.{Unread}
use Rattle.lines.proofs.Lay.{laid_none}
use Rattle.lines.proofs.Room.{line_room}
use Rattle.runner.proofs.running.refuse.Goals as goal
use Rattle.runner.proofs.running.refuse.Goals.{in-LongFile, in-UnknownLetter}

pub returns-in-PageEnd : goal.returns-in-PageEnd
returns-in-PageEnd c = search (rules, laid_none)

pub say-requires : goal.say-requires
say-requires c =
    let far : c.match-why.place < 2 ^ 64 = elim c.match-why.branch [ in-LongFile w ↦ omega (arith, w.place-is) | in-UnknownLetter w ↦ omega (arith, w.place-is, c.ranges.place.fits) ] in
    omega (arith, line_room (Unread c.args.why c.match-why.place) far)
