use Rattle.std.proofs.Common.{◌≡◌, min, rules, tests, arith, sym, ◌∙◌}
use Rattle.std.specs.List.{sum_by}
use Rattle.roll.proofs.Sums.{sum_map}
use Rattle.roll.proofs.Chains.{sum_of_is}
use Rattle.auction.specs.declared.shares.Demand.{Demand}
use Rattle.auction.proofs.Chains.{sum_fits}
use Rattle.auction.proofs.shares.total_shares.Goals as goal

pub sum-requires-clause-fits : goal.sum-requires-clause-fits
sum-requires-clause-fits c =
    sum_fits _ _ c.args.demands.now 12 _ (cc) (omega arith) c.map.ensures.closure (omega arith) (λ x r q k. search (rules, tests))

pub returns : goal.returns
returns c =
    let e : c.sum.result ≡ sum_by (λ (d : Demand). min d.at c.args.most) c.args.demands.now = search rules in
    e ∙ (sym (sum_of_is _ _) ∙ sym (sum_map _ _ _))
