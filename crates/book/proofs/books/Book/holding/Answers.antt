use Rattle.ledger.proofs.Once.{sound_held}
use Rattle.ledger.proofs.Kept.{at_number}
use Rattle.book.proofs.Again.{opened_of}
use Rattle.book.proofs.books.Book.holding.Goals as goal

pub span-span-requires : goal.span-span-requires
span-span-requires g c =
    rw c.auction.ensures (at_number c.args.self.now.ledger c.in_ok-a.a.number (sound_held c.args.self.now.sound).auctions c.in_ok-a.a.low (opened_of c.in_ok-a.a.number c.args.a c.args.self.now.ledger c.in_ok-a.ensures.ok.0 c.in_ok-a.ensures.ok.1))
