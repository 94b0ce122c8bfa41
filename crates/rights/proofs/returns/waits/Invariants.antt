use Rattle.std.proofs.Common.{◌≡◌, ◌*◌, length, take, replicate}
use Rattle.rights.specs.Bounds.{AtMost}
use Rattle.rights.specs.Returns.{waits_of}
use Rattle.rights.proofs.returns.waits.Given as goal

abbrev pub invariant-loop-row : goal.invariant-loop-row
invariant-loop-row l =
    (length l.sums ≡ 12) × (l.sums ≡ waits_of (take l.row-index l.waiting.rows) (replicate 12 0)) × AtMost (65535 * l.row-index) l.sums
