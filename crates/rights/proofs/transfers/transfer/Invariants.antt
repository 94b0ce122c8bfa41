use Rattle.std.proofs.Common.{◌≡◌, ◌-◌, ◌++◌, map, take, drop}
use Rattle.rights.specs.Holdings.{handed}
use Rattle.rights.proofs.transfers.transfer.Given as goal

abbrev pub invariant-loop-hour : goal.invariant-loop-hour
invariant-loop-hour l = l.hour-items ≡ map (handed (l.auction.number - 1) (l.giver.number - 1) (l.taker.number - 1) l.mw) (take l.hour-index l.initial.hour-items) ++ drop l.hour-index l.initial.hour-items
