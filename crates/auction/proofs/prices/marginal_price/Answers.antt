use Rattle.std.proofs.Common.{◌≡◌, ℕ, max, Bool, leb, filter, map, rules, tests, sym, ◌∙◌, subst, arith}
use Rattle.std.specs.List.{flat_map, reduce}
use Rattle.std.specs.Option.{option_map}
use Rattle.std.proofs.lemmas.Iterator.{YieldsList-from_slice, YieldsList-from_map}
use Rattle.std.proofs.lemmas.Iterator.Adapters.{YieldsList-from_flat_map}
use Rattle.std.proofs.lemmas.Iterator.Consumers.{YieldsList-at, YieldsList-from_filter, max_from_yields_List}
use Rattle.auction.specs.declared.bids.Bid.{Bid}
use Rattle.auction.specs.Bids.{kept_of}
use Rattle.auction.specs.Award.{kept_lists, total_from, price_of, Clears}
use Rattle.auction.proofs.Marginal.{price_found, price_clears, price_enough, total_zero}
use Rattle.auction.proofs.prices.marginal_price.Goals as goal

pub returns-then-total_from-from : goal.returns-then-total_from-from
returns-then-total_from-from c =
    let e : 0 ≡ price_of c.args.capacity (kept_lists c.args.sheets.now) =
    sym (price_enough c.args.capacity (kept_lists c.args.sheets.now) (omega (arith, total_zero (kept_lists c.args.sheets.now)))) in
    record { value = e; clears = rw e (price_clears c.args.capacity (kept_lists c.args.sheets.now)) }

pub returns : goal.returns
returns c =
    let kept = kept_lists c.args.sheets.now in
    let reaches : ℕ → Bool = λ q. leb c.args.capacity (total_from q kept) in
    let picked : option_map (λ (q : ℕ). q) c.max.result ≡ reduce max (filter reaches (map (λ (b : Bid). b.price) (flat_map kept_of c.args.sheets.now))) =
    max_from_yields_List c.filter.result c.max.result c.max.ensures.ran
    (YieldsList-from_filter _ (λ q. leb c.args.capacity (total_from q kept))
    (YieldsList-at c.filter.ensures.source (YieldsList-from_map _ (λ (b : Bid). b.price)
    (YieldsList-at c.map.ensures.source (YieldsList-from_flat_map _ _ _ (λ y. y.now) kept_of _ (λ x u q k. (search rules, λ j b. YieldsList-from_slice _ (search rules)))
    (YieldsList-from_slice c.args.sheets.now cc) c.flat_map.ensures.closure c.flat_map.ensures.front c.flat_map.ensures.back c.flat_map.ensures.done))
    c.map.ensures.closure (λ x r q k. search (rules, tests))))
    c.filter.ensures.closure (λ x r q k. search (rules, tests))) in
    let e : c.unwrap_or.result ≡ price_of c.args.capacity (kept_lists c.args.sheets.now) = c.unwrap_or.ensures ∙ price_found c.args.capacity c.args.sheets.now c.max.result (omega arith) picked in
    record { value = e; clears = subst (Clears c.args.capacity (kept_lists c.args.sheets.now)) (sym e) (price_clears c.args.capacity (kept_lists c.args.sheets.now)) }
