use Rattle.std.proofs.Common.{◌≡◌, ◌<◌, ◌^◌, get_or, sym, ◌∙◌, arith, rules}
use Rattle.std.specs.List.{sum_by}
use Rattle.roll.proofs.Chains.{sum_of_is}
use Rattle.ledger.specs.declared.auctions.Auction.{Auction}
use Rattle.ledger.specs.Auctions.{no_sheet}
use Rattle.ledger.proofs.Owing.{held_in_all}
use Rattle.ledger.proofs.ledgers.Ledger.held_sums.Goals as goal

pub sum-requires-clause-fits : goal.sum-requires-clause-fits
sum-requires-clause-fits c =
    let held = λ (x : Auction). (get_or x.sheets c.index-place.result no_sheet).held in
    let few : sum_by held c.args.self.now.auctions < 2 ^ 64 = omega (arith, sum_of_is held c.args.self.now.auctions, held_in_all c.args.self.now c.index-place.result c.requires.auctions c.index-place.ensures.within) in
    search rules

pub returns : goal.returns
returns c =
    let held = λ (x : Auction). (get_or x.sheets c.index-place.result no_sheet).held in
    let e : c.sum.result ≡ sum_by held c.args.self.now.auctions = search rules in
    let all = sum_of_is held c.args.self.now.auctions in
    let most = held_in_all c.args.self.now c.index-place.result c.requires.auctions c.index-place.ensures.within in
    record { value = rw c.index-place.ensures.value at (e ∙ sym all); within = omega arith }
