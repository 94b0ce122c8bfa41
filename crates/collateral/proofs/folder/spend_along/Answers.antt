use Rattle.std.proofs.Common.{◌≡◌, length, take, arith, length-take, rules}
use Rattle.roll.specs.Spending.{spent}
use Rattle.roll.proofs.Spending.{spent_within}
use Rattle.collateral.specs.Guarantees.{at_sum, sum_in}
use Rattle.collateral.proofs.folder.spend_along.Goals as goal

pub returns : goal.returns
returns c =
    let n = c.args.n in
    let p = c.args.places.now in
    let len : c.len.result ≡ length (spent sum_in at_sum c.args.sum (take n p)) = search rules in
    record { value = len; within = omega (arith, spent_within sum_in at_sum c.args.sum (take n p), length-take n p); after = search rules }
