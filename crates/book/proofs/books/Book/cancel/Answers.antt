use Rattle.std.proofs.Common.{sym, ◌∙◌}
use Rattle.ledger.proofs.Once.{sound_held}
use Rattle.ledger.proofs.Sounds.{sound_cancel}
use Rattle.book.proofs.Again.{again, opened_of}
use Rattle.book.proofs.books.Book.cancel.Goals as goal

pub cancel-requires-clause-sound : goal.cancel-requires-clause-sound
cancel-requires-clause-sound g c = sound_held c.args.self.now.sound

pub invariant_of-self : goal.invariant_of-self
invariant_of-self g c =
    record {
      sound = again c.cancel.new.self c.cancel.ensures (sound_cancel c.in_ok-a.a.number c.args.self.now.ledger (sound_held c.args.self.now.sound) c.in_ok-a.a.low (opened_of c.in_ok-a.a.number c.args.a c.args.self.now.ledger c.in_ok-a.ensures.ok.0 c.in_ok-a.ensures.ok.1) (sym c.is_pending.ensures ∙ c.if-not-is_pending.false));
    }
