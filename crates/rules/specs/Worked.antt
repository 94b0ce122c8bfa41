-- All cases worked by hand, in one theorem.
use Rattle.account.specs.Worked as account
use Rattle.auction.specs.Worked as auction
use Rattle.rights.specs.Worked as rights

pub record WorkedByHand : Type 0 where
  -- worst charges, kept fronts, prices and awards
  pub auctions : auction.WorkedByHand
  -- cut holdings
  pub cuts : rights.WorkedByHand
  -- netted dues and claims
  pub invoices : account.WorkedByHand
