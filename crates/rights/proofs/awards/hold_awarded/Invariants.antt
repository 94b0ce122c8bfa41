use Rattle.std.proofs.Common.{◌≡◌, ◌-◌, ◌++◌, map, take, drop}
use Rattle.rights.specs.Holdings.{with_row}
use Rattle.rights.proofs.awards.hold_awarded.Given as goal

abbrev pub invariant-loop-hour : goal.invariant-loop-hour
invariant-loop-hour l = l.hour-items ≡ map (with_row (l.auction.number - 1) l.mw) (take l.hour-index l.initial.hour-items) ++ drop l.hour-index l.initial.hour-items
