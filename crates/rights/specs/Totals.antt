-- MW in all: of an auction in an hour, in an hour, in all hours.
use Rattle.std.specs.Prelude.{ℕ, List, slice_index_or}
use Rattle.roll.specs.Sums.{sum_of}
use Rattle.rights.specs.declared.hours.Hour.{Hour}
use Rattle.rights.specs.Holdings.{mw_of, row_at, no_hour}

abbrev pub mw_at : ℕ → ℕ → List Hour → ℕ
mw_at a h rights = mw_of (row_at a (slice_index_or rights h no_hour))

abbrev pub hour_mw : Hour → ℕ
hour_mw hour = sum_of mw_of hour.rows

abbrev pub all_mw : List Hour → ℕ
all_mw rights = sum_of hour_mw rights
