use Rattle.std.proofs.Common.{sym, ap, subst, arith, rules}
use Rattle.roll.specs.Rolls.{Ordered}
use Rattle.roll.specs.Spending.{spent}
use Rattle.roll.specs.Sums.{sum_of}
use Rattle.roll.specs.Views.{list_of, row_of}
use Rattle.roll.proofs.Moves.{laid_front, laid_room}
use Rattle.roll.proofs.Spending.{ordered_spent, spent_total}
use Rattle.roll.proofs.rolls.Roll.spend.Goals as goal

pub returns : goal.returns
returns g c =
    let t = g.T.Spendable in
    let laws = g.met.T.Spendable in
    let first = g.T.Ranked.first in
    let sum = c.args.sum in
    let row = row_of c.args.self.now in
    let was = list_of c.args.self.now in
    let left = spent t.amount t.lowered sum was in
    let done = c.spend_in-len.ensures in
    let list = laid_front left row _ _ (sym done.len) done.after in
    let kept = spent_total t.amount t.lowered laws.lowers sum was in
    let same = ap (sum_of t.amount) list in
    let room = laid_room left row _ done.after in
    record {
      value = search rules;
      list = list;
      row = done.after;
      len = done.len;
      parts = omega arith;
      balance = omega arith;
      size = search rules;
      room = omega arith;
      order = λ h. subst (Ordered first) (sym list) (ordered_spent t.amount t.lowered first laws.stands sum was h);
      lender = search rules;
    }
