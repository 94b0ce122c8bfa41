use Rattle.std.proofs.Common.{sym, subst, rules}
use Rattle.roll.specs.Rolls.{Arrived, Ordered}
use Rattle.roll.specs.Views.{list_of}
use Rattle.roll.proofs.Moves.{put_front}
use Rattle.roll.proofs.Orders.{arrived_inserted, ordered_inserted}
use Rattle.roll.proofs.rolls.Roll.insert.Goals as goal

pub returns : goal.returns
returns g c =
    let first = g.T.Ranked.first in
    let laws = g.met.T.Ranked in
    let x = c.args.x in
    let was = list_of c.args.self.now in
    let list = put_front first x _ _ _ c.if-n-self.false c.insert_in.ensures in
    record {
      value = search rules;
      list = list;
      row = search rules;
      len = search rules;
      size = search rules;
      room = search rules;
      order = λ h. subst (Ordered first) (sym list) (ordered_inserted first laws.either laws.carries x was h);
      level = λ _. subst (Arrived first x was) (sym list) (arrived_inserted first laws.either laws.carries x was);
      lender = search rules;
    }
