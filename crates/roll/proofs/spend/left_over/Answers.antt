use Rattle.std.proofs.Common.{◌≡◌, ◌-◌, ◌∙◌, rules}
use Rattle.std.specs.List.{fold}
use Rattle.roll.proofs.Chains.{less_each}
use Rattle.roll.proofs.spend.left_over.Goals as goal

pub returns : goal.returns
returns g c =
    let e : c.fold.result ≡ fold (λ left x. left - g.T.Spendable.amount x) c.args.sum c.args.records.now = search rules in
    e ∙ less_each g.T.Spendable.amount _ _
