use Rattle.std.proofs.Common.{drop-drop, rules}
use Rattle.lines.specs.Page.{laid}
use Rattle.lines.proofs.page.put_text.Goals as goal

pub returns : goal.returns
unfolding laid
returns c = search (rules, drop-drop)
