use Rattle.std.proofs.Common.{◌≡◌, ◌-◌, take, arith}
use native.Mathlib.Nat.{sub-zero}
use Rattle.roll.specs.Spending.{Emptied}
use Rattle.roll.proofs.Spending.{first_short, part_spent, all_spent}
use Rattle.roll.proofs.spend.spend_in.Goals as goal

-- `&places[0..n]` is `take (n - 0)` to the caller of `emptied`: `sub-zero`
pub overflow_sub-amount_of : goal.overflow_sub-amount_of
overflow_sub-amount_of g c =
    let t = g.T.Spendable in
    let r = c.emptied-gone.result in
    let h : Emptied t.amount t.lowered c.args.sum (take c.args.n c.args.places.now) r.0 r.1 = rw sub-zero at c.emptied-gone.ensures in
    omega (arith, (first_short t.amount t.lowered c.args.sum c.args.n c.args.places.now _ r.0 r.1 c.requires h c.close_up.ensures _ c.if-gone-n.true c.index-places-0.is).2)

pub returns-then-gone-n : goal.returns-then-gone-n
returns-then-gone-n g c =
    let t = g.T.Spendable in
    let r = c.emptied-gone.result in
    let x = c.index-places-0.result in
    let h : Emptied t.amount t.lowered c.args.sum (take c.args.n c.args.places.now) r.0 r.1 = rw sub-zero at c.emptied-gone.ensures in
    let low : c.lower.result ≡ t.lowered (t.amount x - r.1) x = cc in
    let done = part_spent t.amount t.lowered c.args.sum c.args.n c.args.places.now _ r.0 r.1 c.requires h c.close_up.ensures _ _ c.if-gone-n.true c.index-places-0.is low in
    record { after = done.0; len = omega arith; left = omega arith }

pub returns : goal.returns
returns g c =
    let t = g.T.Spendable in
    let r = c.emptied-gone.result in
    let h : Emptied t.amount t.lowered c.args.sum (take c.args.n c.args.places.now) r.0 r.1 = rw sub-zero at c.emptied-gone.ensures in
    let done = all_spent t.amount t.lowered c.args.sum c.args.n c.args.places.now _ r.0 r.1 c.requires h c.close_up.ensures c.if-gone-n.false in
    record { after = done.0; len = omega arith; left = omega arith }
