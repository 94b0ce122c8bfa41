use Rattle.std.proofs.Common.{◌≡◌, ◌+◌, drop}
use Rattle.roll.specs.Spending.{spent}
use Rattle.roll.specs.Sums.{sum_of}
use Rattle.roll.proofs.spend.emptied.Given as goal

abbrev pub invariant-loop-i : goal.invariant-loop-i
invariant-loop-i g l =
    let t = g.T.Spendable in
    (l.sum + sum_of t.amount (drop l.i l.records) ≡ l.rest + sum_of t.amount l.records) × (spent t.amount t.lowered l.sum l.records ≡ spent t.amount t.lowered l.rest (drop l.i l.records))
