use Rattle.std.proofs.Common.{refl, arith}
use Rattle.roll.proofs.InPlace.{place_step}
use Rattle.ledger.specs.Auctions.{no_sheet}
use Rattle.ledger.specs.Stages.{freed}
use Rattle.ledger.proofs.closing.free_all.Goals as goal

pub loop-sheet-preserved : goal.loop-sheet-preserved
loop-sheet-preserved c = place_step freed c.args.sheets.now c.loop-sheet.sheets c.loop-sheet.sheet-index no_sheet _ (omega arith) c.loop-sheet.invariant refl
