use Rattle.std.proofs.Common.{◌-◌, arith}
use Rattle.roll.proofs.InPlace.{place_step}
use Rattle.rights.specs.Holdings.{with_row, no_hour}
use Rattle.rights.proofs.awards.hold_awarded.Goals as goal

pub loop-hour-preserved : goal.loop-hour-preserved
loop-hour-preserved c = place_step (with_row (c.args.auction.number - 1) c.args.mw.now) _ c.loop-hour.hour-items c.loop-hour.hour-index no_hour _ (omega arith) c.loop-hour.invariant c.hold.ensures
