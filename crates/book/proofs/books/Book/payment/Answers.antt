use Rattle.ledger.proofs.Once.{sound_held}
use Rattle.ledger.proofs.Sounds.{sound_payment}
use Rattle.book.proofs.Again.{again}
use Rattle.book.proofs.books.Book.payment.Goals as goal

pub still_open-requires : goal.still_open-requires
still_open-requires g c = sound_held c.args.self.now.sound

pub pay-requires : goal.pay-requires
pay-requires g c = sound_held c.args.self.now.sound

pub invariant_of-self : goal.invariant_of-self
invariant_of-self g c = record { sound = again c.pay.new.self c.pay.ensures.after (sound_payment c.in_ok-p.p.number c.args.sum c.args.self.now.ledger (sound_held c.args.self.now.sound)) }
