use Rattle.std.proofs.Common.{◌∙◌}
use Rattle.roll.proofs.Moves.{close_front}
use Rattle.roll.proofs.places.close_up.Goals as goal

pub returns : goal.returns
returns g c = c.copy_within.ensures.after ∙ close_front c.args.places.now c.args.gone c.args.n c.requires.0 c.requires.1
