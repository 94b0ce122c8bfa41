use Rattle.std.proofs.Common.{arith}
use Rattle.ledger.proofs.Once.{sound_held}
use Rattle.ledger.proofs.Sounds.{sound_day}
use Rattle.book.proofs.books.Book.day.Goals as goal

pub invariant_of-self : goal.invariant_of-self
invariant_of-self g c = record { sound = ∣ sound_day c.args.day c.args.self.now.ledger (sound_held c.args.self.now.sound) (omega arith) ∣₁ }
