use Rattle.std.proofs.Common.{rules}
use Rattle.roll.proofs.Moves.{rest_front}
use Rattle.roll.proofs.rolls.Roll.remove_front.Goals as goal

pub returns : goal.returns
returns g c = let list = rest_front _ _ _ _ c.requires.1 c.close_up.ensures in search rules
