use Rattle.std.proofs.Common.{◌≡◌, ◌++◌, map, take, drop}
use Rattle.rights.specs.Returns.{restored}
use Rattle.rights.proofs.cancels.give_back.Given as goal

abbrev pub invariant-loop-hour : goal.invariant-loop-hour
invariant-loop-hour l = l.hour-items ≡ map (restored l.waiting) (take l.hour-index l.initial.hour-items) ++ drop l.hour-index l.initial.hour-items
