-- Holdings, transfers of them, and what an award brings. Auctions and participants go by place: 0 for number 1.
use Rattle.std.specs.Prelude.{ℕ, ◌+◌, ◌-◌, Bool, List, [], replicate, nat_le, slice_index, slice_index_or, slice_set}
use Rattle.std.specs.List.{list_all}
use Rattle.roll.specs.Sums.{sum_of}
use Rattle.rights.specs.declared.hours.Hour.{Hour}
use Rattle.rights.specs.Spans.{part, over}

abbrev pub no_hour : Hour
no_hour = record { rows = [] }

-- nothing is held
abbrev pub nothing : Hour
nothing = record { rows = replicate 8 (replicate 12 0) }

-- the MW of a row, one for each participant
abbrev pub mw_of : List ℕ → ℕ
mw_of row = sum_of (λ mw. mw) row

-- the holdings of an auction in an hour, and the hour with others
abbrev pub row_at : ℕ → Hour → List ℕ
row_at a hour = slice_index_or hour.rows a []

abbrev pub with_row : ℕ → List ℕ → Hour → Hour
with_row a row hour = record { rows = slice_set hour.rows a row }

-- what a participant holds of an auction in an hour
abbrev pub holding : ℕ → ℕ → Hour → ℕ
holding a p hour = slice_index (row_at a hour) p

-- whether it holds as many MW in each hour of a span
abbrev pub holds : ℕ → ℕ → ℕ → Hour → Bool
holds a p mw hour = nat_le mw (holding a p hour)

abbrev pub holds_through : ℕ → ℕ → ℕ → ℕ → ℕ → List Hour → Bool
holds_through a p mw first hours rights = list_all (holds a p mw) (part first hours rights)

-- a participant holds fewer MW, or more
abbrev pub fewer : ℕ → ℕ → List ℕ → List ℕ
fewer p mw row = slice_set row p (slice_index row p - mw)

abbrev pub more : ℕ → ℕ → List ℕ → List ℕ
more p mw row = slice_set row p (slice_index row p + mw)

-- a transfer: the MW leave the giver and come to the taker, in each hour of the span
abbrev pub handed : ℕ → ℕ → ℕ → ℕ → Hour → Hour
handed a giver taker mw hour = with_row a (more taker mw (fewer giver mw (row_at a hour))) hour

abbrev pub transferred : ℕ → ℕ → ℕ → ℕ → ℕ → ℕ → List Hour → List Hour
transferred a giver taker mw first hours rights = over first hours (handed a giver taker mw) rights

-- an award: the MW of each participant are held in each hour of the auction
abbrev pub awarded : ℕ → List ℕ → ℕ → ℕ → List Hour → List Hour
awarded a mw first hours rights = over first hours (with_row a mw) rights
