use Rattle.std.proofs.Common.{rules}
use Rattle.runner.proofs.Room.{three_room}
use Rattle.runner.proofs.answers.ReceiptAnswer.numbers.Goals as goal

pub returns : goal.returns
returns c = search (rules, three_room)
