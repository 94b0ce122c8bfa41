use Rattle.std.proofs.Common.{◌≡◌, ◌+◌, ◌*◌, ◌≤◌, take}
use Rattle.auction.specs.Award.{mw_above, mw_at}
use Rattle.auction.proofs.shares.Demand.of.Given as goal

abbrev pub invariant-loop-b : goal.invariant-loop-b
invariant-loop-b l =
    (l.above ≡ mw_above l.price (take l.b-index l.bids.list.now)) × (l.at ≡ mw_at l.price (take l.b-index l.bids.list.now))
    × (l.above + l.at ≤ 65535 * l.b-index)
