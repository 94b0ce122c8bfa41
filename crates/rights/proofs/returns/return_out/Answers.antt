use Rattle.std.proofs.Common.{◌+◌, ◌-◌, ◌≤◌, get_or, arith}
use Rattle.std.proofs.lemmas.Bool.{leb-true}
use Rattle.roll.proofs.InPlace.{place_step}
use Rattle.rights.specs.Holdings.{holding, holds, no_hour}
use Rattle.rights.specs.Returns.{taken}
use Rattle.rights.proofs.Spans.{part_rest, part_at}
use Rattle.rights.proofs.returns.return_out.Goals as goal

pub take-requires : goal.take-requires
take-requires c =
    let a = c.args.auction.number - 1 in
    let p = c.args.holder.number - 1 in
    let h = c.args.span.first + c.loop-hour.hour-index in
    let same = part_rest (taken a p c.args.mw) c.args.span.first (c.end.result - c.args.span.first) c.loop-hour.hour-index c.args.rights.now c.loop-hour.hour-items no_hour (omega arith) c.loop-hour.invariant in
    let held : c.args.mw ≤ holding a p (get_or c.args.rights.now h no_hour) = leb-true _ _ (part_at (holds a p c.args.mw) c.args.span.first c.args.span.hours h c.args.rights.now no_hour (omega arith) (omega arith) (omega arith) c.requires.held) in
    rw same held

pub loop-hour-preserved : goal.loop-hour-preserved
loop-hour-preserved c =
    place_step (taken (c.args.auction.number - 1) (c.args.holder.number - 1) c.args.mw) _ c.loop-hour.hour-items c.loop-hour.hour-index no_hour _ (omega arith) c.loop-hour.invariant c.take.ensures
