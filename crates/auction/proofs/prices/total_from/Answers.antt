use Rattle.std.proofs.Common.{◌≡◌, ◌<◌, rules, tests, arith, sym, ◌∙◌}
use Rattle.std.specs.List.{sum_by}
use Rattle.std.proofs.lemmas.Iterator.{YieldsList-from_slice}
use Rattle.std.proofs.lemmas.Iterator.Adapters.{at_most_from_yields_List}
use Rattle.roll.proofs.Sums.{sum_map}
use Rattle.roll.proofs.Chains.{sum_of_is}
use Rattle.auction.specs.declared.sheets.Sheet.{Sheet}
use Rattle.auction.specs.Bids.{kept_of}
use Rattle.auction.specs.Charge.{mw_from}
use Rattle.auction.proofs.Chains.{sum_under_top, sum_fits}
use Rattle.auction.proofs.prices.total_from.Goals as goal

pub sum-requires-clause-fits : goal.sum-requires-clause-fits
sum-requires-clause-fits c =
    sum_fits _ _ c.args.sheets.now 12 _ (cc) (omega arith) c.map.ensures.closure (omega arith) (λ x r q k. search (rules, tests))

pub returns : goal.returns
returns c =
    let e : c.sum.result ≡ sum_by (λ (s : Sheet). mw_from c.args.price (kept_of s)) c.args.sheets.now = search rules in
    let under : c.sum.result < 3145681 =
    sum_under_top _ _ 12 3145681 _ (c.sum.ensures.runs tt) (at_most_from_yields_List (YieldsList-from_slice c.args.sheets.now cc) (omega arith)) c.map.ensures.closure (omega arith) (λ x r q k. search (rules, tests)) in
    record { value = e ∙ (sym (sum_of_is _ _) ∙ sym (sum_map _ _ _)); within = omega arith }
