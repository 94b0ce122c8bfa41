use Rattle.std.proofs.Common.{◌≡◌, ◌-◌, ◌/◌, map, sym, subst, arith}
use Rattle.auction.specs.Award.{share_level, LargestLevel}
use Rattle.auction.specs.Demands.{at_of}
use Rattle.auction.proofs.Levels.{level_reached, level_passed, level_within, largest_level}
use Rattle.auction.proofs.shares.share_level.Goals as goal

pub loop-fits-init : goal.loop-fits-init
loop-fits-init c = (omega arith, level_within c.args.remaining (map at_of c.args.demands.now), omega arith)

pub loop-fits-preserved-then-total_shares-remaining : goal.loop-fits-preserved-then-total_shares-remaining
loop-fits-preserved-then-total_shares-remaining c = (
  level_reached c.args.remaining (map at_of c.args.demands.now) (c.loop-fits.most - (c.loop-fits.most - c.loop-fits.fits) / 2) (omega arith) (omega arith),
  c.loop-fits.invariant.1,
  c.loop-fits.invariant.2,
)

pub loop-fits-preserved : goal.loop-fits-preserved
loop-fits-preserved c =
    let passed = level_passed c.args.remaining (map at_of c.args.demands.now) (c.loop-fits.most - (c.loop-fits.most - c.loop-fits.fits) / 2) (omega arith) in
    (c.loop-fits.invariant.0, omega arith, omega arith)

pub returns : goal.returns
returns c =
    let e : c.loop-fits.fits ≡ share_level c.args.remaining (map at_of c.args.demands.now) = omega arith in
    record { value = e; largest = subst (LargestLevel c.args.remaining (map at_of c.args.demands.now)) (sym e) (largest_level c.args.remaining (map at_of c.args.demands.now)) }
