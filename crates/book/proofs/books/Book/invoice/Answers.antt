use Rattle.std.proofs.Common.{arith}
use Rattle.ledger.proofs.Once.{sound_held}
use Rattle.ledger.proofs.Sounds.{sound_invoice}
use Rattle.book.proofs.Again.{again}
use Rattle.book.proofs.books.Book.invoice.Goals as goal
use Rattle.book.proofs.books.Book.invoice.Goals.{else-account-via-then-account+else-account-ge-MOST_INVOICES, else-account-via-else-account}

pub invoice-pay-requires-clause-sound : goal.invoice-pay-requires-clause-sound
invoice-pay-requires-clause-sound g c = sound_held c.args.self.now.sound

pub invariant_of-self : goal.invariant_of-self
invariant_of-self g c = record {
  sound = again c.invoice-pay.new.self c.invoice-pay.ensures.after (sound_invoice c.in_ok-p.p.number c.args.self.now.ledger (sound_held c.args.self.now.sound)
      (rw (← c.account-account.ensures) (λ pos. elim c.else-account.branch [ else-account-via-then-account+else-account-ge-MOST_INVOICES w ↦ omega arith | else-account-via-else-account w ↦ omega arith ])));
}
