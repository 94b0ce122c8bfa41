use Rattle.ledger.proofs.Once.{sound_held}
use Rattle.ledger.proofs.Sounds.{sound_payout}
use Rattle.book.proofs.Again.{again}
use Rattle.book.proofs.books.Book.payout.Goals as goal

pub invariant_of-self : goal.invariant_of-self
invariant_of-self g c = record { sound = again c.pay_out.new.self c.pay_out.ensures.after (sound_payout c.in_ok-p.p.number c.args.self.now.ledger (sound_held c.args.self.now.sound)) }
