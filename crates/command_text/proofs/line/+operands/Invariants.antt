use Rattle.std.proofs.Common.{length}
use Rattle.command_text.proofs.line.+operands.Given as goal

abbrev pub decreases-operands : goal.decreases-operands
decreases-operands l = length l.widths.now
