use Rattle.std.proofs.Common.{arith}
use Rattle.std.proofs.lemmas.Bool.Decides.{nat_tests}
use Rattle.roll.proofs.Sums.{sum_more}
use Rattle.auction.proofs.shares.Demand.of.Goals as goal

pub loop-b-preserved : goal.loop-b-preserved
loop-b-preserved c = grind (arith, nat_tests, sum_more)
