use Rattle.ledger.proofs.Sounds.{sound_new}
use Rattle.ledger.proofs.ledgers.Ledger.new.Goals as goal

pub returns-clause-sound : goal.returns-clause-sound
returns-clause-sound c = rw (c.new-unopened.ensures, c.empty.ensures, c.empty-2.ensures) sound_new
