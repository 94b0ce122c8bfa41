use Rattle.std.proofs.Common.{◌≡◌, ◌<◌, ◌^◌, sym, ◌∙◌, arith, rules}
use Rattle.std.specs.List.{sum_by}
use Rattle.roll.proofs.Chains.{sum_of_is}
use Rattle.auction.specs.declared.sheets.Sheet.{Sheet}
use Rattle.ledger.proofs.Sheets.{kept_in_all}
use Rattle.ledger.proofs.auctions.Auction.bids_kept.Goals as goal

pub sum-requires-clause-fits : goal.sum-requires-clause-fits
sum-requires-clause-fits c =
    let few : sum_by (λ (s : Sheet). s.kept) c.args.self.now.sheets < 2 ^ 64 = omega (arith, sum_of_is (λ (s : Sheet). s.kept) c.args.self.now.sheets, kept_in_all c.args.self.now c.requires.0 c.requires.1) in
    search rules

pub returns : goal.returns
returns c =
    let e : c.sum.result ≡ sum_by (λ (s : Sheet). s.kept) c.args.self.now.sheets = search rules in
    e ∙ sym (sum_of_is _ _)
