use Rattle.std.proofs.Common.{◌≤◌, arith, length-take, rules}
use Rattle.roll.proofs.Moves.{put_ordered}
use Rattle.roll.proofs.places.insert_in.Goals as goal

pub returns : goal.returns
returns g c =
    let low : c.place_of-at.result ≤ c.args.n = omega (arith, length-take c.args.n c.args.places.now) in
    put_ordered _ _ _ c.args.x low c.requires g.T.Ranked.first _ (search rules) c.rotate_right.ensures.after
