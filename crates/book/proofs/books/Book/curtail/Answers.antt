use Rattle.ledger.proofs.Once.{sound_held}
use Rattle.ledger.proofs.Sounds.{sound_curtail}
use Rattle.book.proofs.Again.{again}
use Rattle.book.proofs.books.Book.curtail.Goals as goal

pub curtail-requires-clause-sound : goal.curtail-requires-clause-sound
curtail-requires-clause-sound g c = sound_held c.args.self.now.sound

pub invariant_of-self : goal.invariant_of-self
invariant_of-self g c = record { sound = again c.curtail.new.self c.curtail.ensures.after (sound_curtail c.in_ok-direction.direction c.args.first c.args.limits.now c.args.self.now.ledger (sound_held c.args.self.now.sound)) }
