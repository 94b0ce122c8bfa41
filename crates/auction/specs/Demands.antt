-- A participant's demand around a price, as one record.
use Rattle.std.specs.Prelude.{ℕ, ◌+◌, List, Option}
use Rattle.auction.specs.declared.bids.Bid.{Bid}
use Rattle.auction.specs.declared.shares.Demand.{Demand}
use Rattle.auction.specs.Award.{mw_above, mw_at, share}

abbrev pub demand_of : ℕ → List Bid → Demand
demand_of p bs = record { above = mw_above p bs; at = mw_at p bs }

abbrev pub above_of : Demand → ℕ
above_of d = d.above

abbrev pub at_of : Demand → ℕ
at_of d = d.at

-- what a participant with this demand gets
abbrev pub granted_mw : Option ℕ → Demand → ℕ
granted_mw σ d = d.above + share σ d.at
