use Rattle.ledger.proofs.Once.{sound_held}
use Rattle.book.proofs.books.Book.debt.Goals as goal

pub owes-requires : goal.owes-requires
owes-requires g c = sound_held c.args.self.now.sound
