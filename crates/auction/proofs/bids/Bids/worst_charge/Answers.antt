use Rattle.std.proofs.Common.{rules, tests, ◌∙◌}
use Rattle.std.proofs.lemmas.Iterator.{YieldsList-from_slice, YieldsList-from_map}
use Rattle.std.proofs.lemmas.Iterator.Consumers.{max_from_yields_List}
use Rattle.roll.proofs.Maxima.{most_map}
use Rattle.auction.specs.declared.bids.Bid.{Bid}
use Rattle.auction.specs.Charge.{charge_at}
use Rattle.auction.proofs.Chains.{largest_or_0}
use Rattle.auction.proofs.bids.Bids.worst_charge.Goals as goal

pub returns : goal.returns
returns c =
    c.unwrap_or.ensures
    ∙ (largest_or_0 c.max.result _ (max_from_yields_List c.map.result c.max.result c.max.ensures.ran (YieldsList-from_map _ (λ (b : Bid). charge_at c.args.product c.args.self.list.now b.price) (YieldsList-from_slice c.args.self.list.now cc) c.map.ensures.closure (λ x r q k. search (rules, tests))))
    ∙ most_map (λ n. n) (λ (b : Bid). charge_at c.args.product c.args.self.list.now b.price) c.args.self.list.now)
