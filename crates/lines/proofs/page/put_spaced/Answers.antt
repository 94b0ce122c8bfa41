use Rattle.std.proofs.Common.{rules}
use Rattle.lines.proofs.Lay.{laid_laid}
use Rattle.lines.proofs.page.put_spaced.Goals as goal

pub returns : goal.returns
returns c = search (rules, laid_laid)
