use Rattle.std.proofs.Common.{rules}
use Rattle.runner.proofs.Room.{two_room}
use Rattle.runner.proofs.answers.CutAnswer.numbers.Goals as goal

pub returns : goal.returns
returns c = search (rules, two_room)
