use Rattle.std.proofs.Common.{rules}
use Rattle.lines.proofs.Room.{line_room}
use Rattle.lines.proofs.writer.Line.write.Goals as goal

pub returns-in-Granted : goal.returns-in-Granted
returns-in-Granted c = search (rules, line_room)

pub returns-in-Refused-default-default-None : goal.returns-in-Refused-default-default-None
returns-in-Refused-default-default-None c = search (rules, line_room)

pub returns-in-Refused-default-default-Some : goal.returns-in-Refused-default-default-Some
returns-in-Refused-default-default-Some c = search (rules, line_room)

pub returns-in-Unread : goal.returns-in-Unread
returns-in-Unread c = search (rules, line_room)
