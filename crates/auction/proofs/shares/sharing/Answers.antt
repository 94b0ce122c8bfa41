use Rattle.std.proofs.Common.{◌≡◌, map, rules, tests, arith, sym, ◌∙◌}
use Rattle.std.specs.List.{sum_by}
use Rattle.roll.proofs.Sums.{sum_map}
use Rattle.roll.proofs.Chains.{sum_of_is}
use Rattle.std.proofs.lemmas.Bool.Decides.{nat_tests}
use Rattle.roll.specs.Sums.{sum_of}
use Rattle.auction.specs.Demands.{at_of}
use Rattle.auction.proofs.Chains.{sum_fits}
use Rattle.auction.proofs.shares.sharing.Goals as goal

pub sum-asked-requires-clause-fits : goal.sum-asked-requires-clause-fits
sum-asked-requires-clause-fits c =
    sum_fits _ _ c.args.demands.now 12 _ (cc) (omega arith) c.map.ensures.closure (omega arith) (λ x r q k. search (rules, tests))

pub returns-then-asked-remaining : goal.returns-then-asked-remaining
returns-then-asked-remaining c =
    let e : c.sum-asked.result ≡ sum_by at_of c.args.demands.now = search rules in
    let f : c.sum-asked.result ≡ sum_of (λ d. d) (map at_of c.args.demands.now) = e ∙ (sym (sum_of_is _ _) ∙ sym (sum_map _ _ _)) in
    grind (arith, nat_tests)

pub returns-else-asked-remaining : goal.returns-else-asked-remaining
returns-else-asked-remaining c =
    let e : c.sum-asked.result ≡ sum_by at_of c.args.demands.now = search rules in
    let f : c.sum-asked.result ≡ sum_of (λ d. d) (map at_of c.args.demands.now) = e ∙ (sym (sum_of_is _ _) ∙ sym (sum_map _ _ _)) in
    grind (arith, nat_tests)
