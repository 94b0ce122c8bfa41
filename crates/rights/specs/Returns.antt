-- Rights returned into an open auction, and given back where that is cancelled.
-- What waits returned in an auction has the shape of an hour: by the auction left and the participant.
use Rattle.std.specs.Prelude.{ℕ, ◌+◌, List, [], ◌∷◌}
use Rattle.roll.specs.Rows.{each_with}
use Rattle.rights.specs.declared.hours.Hour.{Hour}
use Rattle.rights.specs.Spans.{over}
use Rattle.rights.specs.Holdings.{row_at, with_row, fewer, more}

-- a participant's MW of an auction leave its holdings in each hour of the span
abbrev pub taken : ℕ → ℕ → ℕ → Hour → Hour
taken a p mw hour = with_row a (fewer p mw (row_at a hour)) hour

abbrev pub returned : ℕ → ℕ → ℕ → ℕ → ℕ → List Hour → List Hour
returned a p mw first hours rights = over first hours (taken a p mw) rights

-- and wait
abbrev pub waiting_more : ℕ → ℕ → ℕ → Hour → Hour
waiting_more a p mw waiting = with_row a (more p mw (row_at a waiting)) waiting

-- all that waits goes back to the holdings that it left, in each hour of the span
abbrev pub restored : Hour → Hour → Hour
restored waiting hour = record { rows = each_with (each_with (λ back mw. mw + back)) waiting.rows hour.rows }

abbrev pub given_back : Hour → ℕ → ℕ → List Hour → List Hour
given_back waiting first hours rights = over first hours (restored waiting) rights

-- what each participant has waiting, over all auctions left
abbrev pub waits_of : List (List ℕ) → List ℕ → List ℕ
waits_of [] sums = sums
waits_of (row ∷ rows) sums = waits_of rows (each_with (λ mw sum. sum + mw) row sums)
