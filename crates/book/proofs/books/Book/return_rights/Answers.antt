use Rattle.std.proofs.Common.{◌≡◌, true, sym, ◌∙◌, arith}
use Rattle.ledger.specs.Auctions.{is_open}
use Rattle.ledger.specs.Ledgers.{auction_at}
use Rattle.ledger.proofs.Kept.{at_number}
use Rattle.ledger.proofs.Once.{sound_held}
use Rattle.ledger.proofs.Sounds.{sound_return}
use Rattle.book.proofs.Again.{again, opened_of}
use Rattle.rules.proofs.Granted.{open_if}
use Rattle.book.proofs.books.Book.return_rights.Goals as goal

pub span-requires : goal.span-requires
span-requires g c =
    rw c.auction-entered.ensures (at_number c.args.self.now.ledger c.in_ok-into.into.number (sound_held c.args.self.now.sound).auctions c.in_ok-into.into.low (opened_of c.in_ok-into.into.number c.args.into c.args.self.now.ledger c.in_ok-into.ensures.ok.0 c.in_ok-into.ensures.ok.1))

pub return_rights-requires-clause-sound : goal.return_rights-requires-clause-sound
return_rights-requires-clause-sound g c = sound_held c.args.self.now.sound

pub invariant_of-self : goal.invariant_of-self
invariant_of-self g c =
    let entered : is_open (auction_at c.args.self.now.ledger c.in_ok-into.into.number).stage ≡ true = sym c.is_open.ensures ∙ c.if-not-is_open.false in record {
      sound = again c.return_rights.new.self c.return_rights.ensures
          (sound_return c.in_ok-p.p.number c.in_ok-out.out.number c.in_ok-into.into.number c.args.mw c.args.self.now.ledger (sound_held c.args.self.now.sound) c.in_ok-into.into.low (opened_of c.in_ok-into.into.number c.args.into c.args.self.now.ledger c.in_ok-into.ensures.ok.0 c.in_ok-into.ensures.ok.1)
          (sym c.is_awarded.ensures ∙ c.if-not-is_awarded.false) (open_if _ entered) (sym c.same_way.ensures ∙ c.if-not-same_way.false)
          (rw (c.span.ensures.first, c.span.ensures.hours, c.auction-entered.ensures) at (sym c.holds_through.ensures ∙ c.if-not-holds_through.false)) (rw (← c.auction-entered.ensures) (omega arith)));
    }
