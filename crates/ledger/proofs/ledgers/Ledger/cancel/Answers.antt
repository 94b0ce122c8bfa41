use Rattle.ledger.proofs.Within.{room_for}
use Rattle.ledger.proofs.ledgers.Ledger.cancel.Goals as goal

pub span-requires : goal.span-requires
span-requires c = c.requires.sound.auctions.each c.index.result c.index.ensures.within

pub give_back-requires : goal.give_back-requires
give_back-requires c = record { room = rw (c.span.ensures.first, c.span.ensures.hours) (room_for c.args.self.now c.requires.sound.rights c.index.result) }
