use Rattle.std.proofs.Common.{◌≡◌, ◌++◌, map, take, drop}
use Rattle.ledger.specs.Stages.{freed}
use Rattle.ledger.proofs.closing.free_all.Given as goal

abbrev pub invariant-loop-sheet : goal.invariant-loop-sheet
invariant-loop-sheet l = l.sheets ≡ map freed (take l.sheet-index l.initial.sheets) ++ drop l.sheet-index l.initial.sheets
