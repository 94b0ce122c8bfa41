use Rattle.std.proofs.Common.{◌≡◌, ◌-◌, ◌<◌, ◌^◌, sym, ◌∙◌, arith, rules}
use Rattle.std.specs.List.{sum_by}
use Rattle.roll.proofs.Chains.{sum_of_is}
use Rattle.auction.specs.declared.sheets.Sheet.{Sheet}
use Rattle.ledger.proofs.Sheets.{left_in_all}
use Rattle.ledger.proofs.auctions.Auction.bids_left_out.Goals as goal

pub sum-requires-clause-fits : goal.sum-requires-clause-fits
sum-requires-clause-fits c =
    let few : sum_by (λ (s : Sheet). s.count - s.kept) c.args.self.now.sheets < 2 ^ 64 = omega (arith, sum_of_is (λ (s : Sheet). s.count - s.kept) c.args.self.now.sheets, left_in_all c.args.self.now c.requires) in
    search rules

pub returns : goal.returns
returns c =
    let e : c.sum.result ≡ sum_by (λ (s : Sheet). s.count - s.kept) c.args.self.now.sheets = search rules in
    e ∙ sym (sum_of_is _ _)
