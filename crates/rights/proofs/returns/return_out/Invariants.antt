use Rattle.std.proofs.Common.{◌≡◌, ◌-◌, ◌++◌, map, take, drop}
use Rattle.rights.specs.Returns.{taken}
use Rattle.rights.proofs.returns.return_out.Given as goal

abbrev pub invariant-loop-hour : goal.invariant-loop-hour
invariant-loop-hour l = l.hour-items ≡ map (taken (l.auction.number - 1) (l.holder.number - 1) l.mw) (take l.hour-index l.initial.hour-items) ++ drop l.hour-index l.initial.hour-items
