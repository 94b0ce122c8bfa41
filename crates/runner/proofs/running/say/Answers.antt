use Rattle.std.proofs.Common.{rules}
use Rattle.lines.proofs.Lay.{laid_part}
use Rattle.runner.proofs.running.say.Goals as goal

pub returns : goal.returns
returns c = search (rules, laid_part)
