use Rattle.std.proofs.Common.{◌-◌, ◌≤◌, map}
use Rattle.auction.specs.Award.{share_level}
use Rattle.auction.specs.Demands.{at_of}
use Rattle.auction.proofs.shares.share_level.Given as goal

abbrev pub invariant-loop-fits : goal.invariant-loop-fits
invariant-loop-fits l =
    (l.fits ≤ share_level l.remaining (map at_of l.demands)) × (share_level l.remaining (map at_of l.demands) ≤ l.most) × (l.most ≤ l.remaining)

abbrev pub decreases-loop-fits : goal.decreases-loop-fits
decreases-loop-fits l = l.most - l.fits
