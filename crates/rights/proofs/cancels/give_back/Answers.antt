use Rattle.std.proofs.Common.{◌+◌, ◌-◌, arith}
use Rattle.roll.proofs.InPlace.{place_step}
use Rattle.rights.specs.Holdings.{no_hour}
use Rattle.rights.specs.Returns.{restored}
use Rattle.rights.proofs.Spans.{part_rest}
use Rattle.rights.proofs.cancels.give_back.Goals as goal

pub restore_hour-requires : goal.restore_hour-requires
restore_hour-requires c =
    let same = part_rest (restored c.args.waiting.now) c.args.span.first (c.end.result - c.args.span.first) c.loop-hour.hour-index c.args.rights.now c.loop-hour.hour-items no_hour (omega arith) c.loop-hour.invariant in
    rw same (c.requires.room (c.args.span.first + c.loop-hour.hour-index) (omega arith) (omega arith))

pub loop-hour-preserved : goal.loop-hour-preserved
loop-hour-preserved c = place_step (restored c.args.waiting.now) _ c.loop-hour.hour-items c.loop-hour.hour-index no_hour _ (omega arith) c.loop-hour.invariant c.restore_hour.ensures
