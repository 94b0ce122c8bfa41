use Rattle.std.proofs.Common.{get_or, ap, ◌∙◌, arith}
use Rattle.std.proofs.lemmas.List.{get_or-set_other}
use Rattle.roll.proofs.Rows.{with_end, with_step}
use Rattle.roll.proofs.changing.change_each.Goals as goal

pub loop-i-preserved : goal.loop-i-preserved
loop-i-preserved g c =
    let xs = c.loop-i.xs in
    let i = c.loop-i.i in
    let x = c.index-xs-i.result in
    let v = c.index-vs-i.result in
    let y = c.change.result in
    let own = get_or xs i x in (
      λ k d le. get_or-set_other xs i k y d (λ e. omega arith) ∙ c.loop-i.invariant.0 k d (omega arith),
      λ changed computes. with_step changed c.args.vs.now c.args.xs.now xs v x i y (omega arith) (c.loop-i.invariant.1 changed computes) (computes own v y c.change.ensures ∙ ap (λ w. changed w own) c.index-vs-i.is),
    )

pub returns : goal.returns
returns g c changed computes = c.loop-i.invariant.1 changed computes ∙ with_end changed c.args.vs.now c.args.xs.now c.loop-i.i (omega arith)
