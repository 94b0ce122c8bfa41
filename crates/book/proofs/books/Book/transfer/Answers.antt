use Rattle.std.proofs.Common.{sym, ◌∙◌}
use Rattle.ledger.proofs.Once.{sound_held}
use Rattle.ledger.proofs.Sounds.{sound_transfer}
use Rattle.book.proofs.Again.{again}
use Rattle.book.proofs.books.Book.transfer.Goals as goal

pub transfer-requires-clause-sound : goal.transfer-requires-clause-sound
transfer-requires-clause-sound g c = sound_held c.args.self.now.sound

pub invariant_of-self : goal.invariant_of-self
invariant_of-self g c = record {
  sound = again c.transfer.new.self c.transfer.ensures
      (sound_transfer c.in_ok-giver.giver.number c.in_ok-taker.taker.number c.in_ok-a.a.number c.from-3.result c.from-4.result c.args.mw c.args.self.now.ledger (sound_held c.args.self.now.sound) (sym c.holds_through.ensures ∙ c.if-not-holds_through.false));
}
