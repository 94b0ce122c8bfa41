use Rattle.std.proofs.Common.{ℕ, ◌+◌, ◌-◌, ◌≤◌, List, get_or, arith, rules}
use Rattle.std.proofs.lemmas.Bool.{leb-true}
use Rattle.roll.proofs.InPlace.{place_step}
use Rattle.rights.specs.Holdings.{holds, handed, row_at, mw_of, no_hour}
use Rattle.rights.proofs.Bounds.{at_le_sum}
use Rattle.rights.proofs.Spans.{part_rest, part_at}
use Rattle.rights.proofs.transfers.transfer.Goals as goal

pub hand-requires : goal.hand-requires
hand-requires c =
    let a = c.args.auction.number - 1 in
    let giver = c.args.giver.number - 1 in
    let taker = c.args.taker.number - 1 in
    let h = c.args.span.first + c.loop-hour.hour-index in
    let row : List ℕ = row_at a (get_or c.args.rights.now h no_hour) in
    let same = part_rest (handed a giver taker c.args.mw) c.args.span.first (c.end.result - c.args.span.first) c.loop-hour.hour-index c.args.rights.now c.loop-hour.hour-items no_hour (omega arith) c.loop-hour.invariant in
    let full : mw_of row ≤ 5000 = c.requires.room h (omega arith) (omega arith) in
    let held : c.args.mw ≤ get_or row giver 0 = leb-true _ _ (part_at (holds a giver c.args.mw) c.args.span.first c.args.span.hours h c.args.rights.now no_hour (omega arith) (omega arith) (omega arith) c.requires.held) in
    let some : get_or row taker 0 + c.args.mw ≤ 65535 = omega (arith, at_le_sum row taker, at_le_sum row giver) in
    simp same (search rules)

pub loop-hour-preserved : goal.loop-hour-preserved
loop-hour-preserved c =
    place_step (handed (c.args.auction.number - 1) (c.args.giver.number - 1) (c.args.taker.number - 1) c.args.mw) _ c.loop-hour.hour-items c.loop-hour.hour-index no_hour _ (omega arith) c.loop-hour.invariant (search rules)
