use Rattle.std.proofs.Common.{ap, ◌∙◌, arith}
use Rattle.ledger.specs.Stages.{opened_with}
use Rattle.ledger.proofs.Once.{sound_held}
use Rattle.ledger.proofs.Sounds.{sound_open}
use Rattle.book.proofs.Again.{again}
use Rattle.book.proofs.books.Book.open.Goals as goal

pub invariant_of-self : goal.invariant_of-self
invariant_of-self g c = record {
  sound = again c.open.new.self (c.open.ensures ∙ ap (λ x. opened_with x c.args.self.now.ledger) c.new.ensures)
      (sound_open c.in_ok-direction.direction c.args.first (record { hours = c.args.hours }) c.args.capacity c.args.self.now.ledger (sound_held c.args.self.now.sound) (omega arith) (omega arith) (omega arith) (omega arith));
}
