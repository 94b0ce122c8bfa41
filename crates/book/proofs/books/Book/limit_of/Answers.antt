use Rattle.ledger.proofs.Once.{sound_held}
use Rattle.book.proofs.books.Book.limit_of.Goals as goal

pub owes-requires : goal.owes-requires
owes-requires g c = sound_held c.args.self.now.sound

pub held_sums-requires : goal.held_sums-requires
held_sums-requires g c = sound_held c.args.self.now.sound
