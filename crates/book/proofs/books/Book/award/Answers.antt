use Rattle.std.proofs.Common.{not, sym, ap, ◌∙◌}
use Rattle.ledger.proofs.Once.{sound_held}
use Rattle.ledger.proofs.Sounds.{sound_award}
use Rattle.ledger.specs.Ledgers.{auction_at}
use Rattle.book.proofs.Again.{again, opened_of}
use Rattle.rules.proofs.Granted.{stage_sealed}
use Rattle.book.proofs.books.Book.award.Goals as goal

pub award-outcome-requires-clause-sound : goal.award-outcome-requires-clause-sound
award-outcome-requires-clause-sound g c = sound_held c.args.self.now.sound

pub invariant_of-self : goal.invariant_of-self
invariant_of-self g c =
    let sealed = stage_sealed (auction_at c.args.self.now.ledger c.in_ok-a.a.number).stage (ap not (sym c.is_sealed.ensures ∙ c.if-not-is_sealed.false)) in
    record { sound = again c.award-outcome.new.self c.award-outcome.ensures.after (sound_award c.in_ok-a.a.number c.args.self.now.ledger (sound_held c.args.self.now.sound) c.in_ok-a.a.low (opened_of c.in_ok-a.a.number c.args.a c.args.self.now.ledger c.in_ok-a.ensures.ok.0 c.in_ok-a.ensures.ok.1) sealed) }
