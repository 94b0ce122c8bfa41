use Rattle.std.proofs.Common.{◌+◌, ◌-◌, ◌≤◌, drop, sym, ap, ◌∙◌, arith}
use Rattle.roll.specs.Spending.{spent}
use Rattle.roll.proofs.Spending.{total_more, spent_more}
use Rattle.roll.proofs.spend.emptied.Goals as goal

pub loop-i-preserved : goal.loop-i-preserved
loop-i-preserved g c =
    let t = g.T.Spendable in
    let i = c.loop-i.i in
    let xs = c.args.records.now in
    let x = c.index-records-i.result in
    let m = total_more t.amount xs i x c.loop-i-test.true c.index-records-i.is in
    let h : t.amount x ≤ c.loop-i.rest = omega arith in
    (omega arith, c.loop-i.invariant.1 ∙ spent_more t.amount t.lowered xs i c.loop-i.rest x c.loop-i-test.true c.index-records-i.is h ∙ ap (λ z. spent t.amount t.lowered (c.loop-i.rest - z) (drop (i + 1) xs)) (sym c.amount_of-amount.ensures))
