use Rattle.std.proofs.Common.{rules}
use Rattle.runner.proofs.Room.{one_room}
use Rattle.runner.proofs.answers.U32Answer.numbers.Goals as goal

pub returns : goal.returns
returns c = search (rules, one_room)
