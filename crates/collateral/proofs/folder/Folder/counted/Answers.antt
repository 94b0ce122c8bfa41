use Rattle.std.proofs.Common.{◌≡◌, length, ap, arith, rules}
use Rattle.roll.specs.Sums.{sum_of}
use Rattle.collateral.specs.Guarantees.{sum_in}
use Rattle.collateral.proofs.Folders.{lent_is}
use Rattle.collateral.proofs.folder.Folder.counted.Goals as goal

pub returns : goal.returns
returns c =
    let f = c.args.self.now in
    let size : length f.places ≡ 4 = search rules in
    let lent = ap (sum_of sum_in) (lent_is f _ size c.held-n.ensures c.args.day _ c.past_of-gone.ensures.value) in
    omega arith
