-- Which stage allows a call, and the stage after it: seal takes open to sealed, award takes sealed to awarded,
-- cancel takes open or sealed to cancelled.
use Rattle.std.specs.Prelude.{Bool, ◌||◌}
use Rattle.ledger.specs.declared.auctions.Stage.{Stage}
use Rattle.ledger.specs.declared.auctions.Stage.TheVariants.{Sealed, Awarded, Cancelled}
use Rattle.ledger.specs.declared.stages.Turn.{Turn}
use Rattle.ledger.specs.declared.stages.Turn.TheVariants as turn
use Rattle.ledger.specs.Auctions.{is_open, is_sealed}

abbrev pub allows : Stage → Turn → Bool
allows s turn.Seal = is_open s
allows s (turn.Award price) = is_sealed s
allows s turn.Cancel = is_open s || is_sealed s

abbrev pub turned : Turn → Stage
turned turn.Seal = Sealed
turned (turn.Award price) = Awarded price
turned turn.Cancel = Cancelled
