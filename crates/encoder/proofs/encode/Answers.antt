-- Each command is written as its letter, its operands of one byte, and the wider ones; what is written is its encoding.
use Rattle.std.proofs.Common.{[], ◌∷◌, sym, refl, ap, ◌∙◌, append-nil, rules}
use Rattle.command.specs.Meaning.{meaning_of, adds, withdraws, opens, bids, seals, awards, cancels, transfers, gives_back, curtails, invoices, pays, draws, pays_out, moves_day}
use Rattle.encoder.proofs.Written.{written}
use Rattle.encoder.proofs.encode.Goals as goal

pub returns-in-Add : goal.returns-in-Add
returns-in-Add c =
    let k = c.in-Add in
    written c.args.command (adds k.participant k.kind k.sum k.last_day) _ (k.participant ∷ k.kind ∷ []) _ _ _ _ _ (ap meaning_of k.is) (c.from-letter.ensures ∙ c.letter.ensures) (search rules) c.to_be_bytes.ensures c.to_be_bytes-in-Add.ensures refl c.joined.ensures

pub returns-in-Withdraw : goal.returns-in-Withdraw
returns-in-Withdraw c =
    let k = c.in-Withdraw in
    written c.args.command (withdraws k.participant k.sum) _ (k.participant ∷ []) _ _ [] _ _ (ap meaning_of k.is) (c.from-letter.ensures ∙ c.letter.ensures) (search rules) c.to_be_bytes-in-Withdraw.ensures refl refl c.joined-in-Withdraw.ensures

pub returns-in-Open : goal.returns-in-Open
returns-in-Open c =
    let k = c.in-Open in
    written c.args.command (opens k.from k.to k.first_hour k.hours k.capacity) _ (k.from ∷ k.to ∷ k.first_hour ∷ k.hours ∷ []) _ _ [] _ _ (ap meaning_of k.is) (c.from-letter.ensures ∙ c.letter.ensures) (search rules) c.to_be_bytes-in-Open.ensures refl refl c.joined-in-Open.ensures

pub returns-in-Bid : goal.returns-in-Bid
returns-in-Bid c =
    let k = c.in-Bid in
    written c.args.command (bids k.participant k.auction k.price k.mw) _ (k.participant ∷ k.auction ∷ []) _ _ _ _ _ (ap meaning_of k.is) (c.from-letter.ensures ∙ c.letter.ensures) (search rules) c.to_be_bytes-in-Bid.ensures c.to_be_bytes-in-Bid-2.ensures refl c.joined-in-Bid.ensures

pub returns-in-Seal : goal.returns-in-Seal
returns-in-Seal c =
    let k = c.in-Seal in
    written c.args.command (seals k.auction) _ (k.auction ∷ []) [] _ [] _ _ (ap meaning_of k.is) (c.from-letter.ensures ∙ c.letter.ensures) (search rules) refl refl refl c.joined-in-Seal.ensures

pub returns-in-Award : goal.returns-in-Award
returns-in-Award c =
    let k = c.in-Award in
    written c.args.command (awards k.auction) _ (k.auction ∷ []) [] _ [] _ _ (ap meaning_of k.is) (c.from-letter.ensures ∙ c.letter.ensures) (search rules) refl refl refl c.joined-in-Award.ensures

pub returns-in-Cancel : goal.returns-in-Cancel
returns-in-Cancel c =
    let k = c.in-Cancel in
    written c.args.command (cancels k.auction) _ (k.auction ∷ []) [] _ [] _ _ (ap meaning_of k.is) (c.from-letter.ensures ∙ c.letter.ensures) (search rules) refl refl refl c.joined-in-Cancel.ensures

pub returns-in-Transfer : goal.returns-in-Transfer
returns-in-Transfer c =
    let k = c.in-Transfer in
    written c.args.command (transfers k.giver k.taker k.auction k.first_hour k.hours k.mw) _ (k.giver ∷ k.taker ∷ k.auction ∷ k.first_hour ∷ k.hours ∷ []) _ _ [] _ _ (ap meaning_of k.is) (c.from-letter.ensures ∙ c.letter.ensures) (search rules) c.to_be_bytes-in-Transfer.ensures refl refl c.joined-in-Transfer.ensures

pub returns-in-Return : goal.returns-in-Return
returns-in-Return c =
    let k = c.in-Return in
    written c.args.command (gives_back k.participant k.out_of k.into k.mw) _ (k.participant ∷ k.out_of ∷ k.into ∷ []) _ _ [] _ _ (ap meaning_of k.is) (c.from-letter.ensures ∙ c.letter.ensures) (search rules) c.to_be_bytes-in-Return.ensures refl refl c.joined-in-Return.ensures

pub returns-in-Curtail : goal.returns-in-Curtail
returns-in-Curtail c =
    let k = c.in-Curtail in
    written c.args.command (curtails k.from k.to k.first_hour k.limits.now) _ (k.from ∷ k.to ∷ k.first_hour ∷ []) k.limits.now _ [] _ _ (ap meaning_of k.is) (c.from-letter.ensures ∙ c.letter.ensures) (search rules) refl refl (sym (append-nil _)) c.joined-in-Curtail.ensures

pub returns-in-Invoice : goal.returns-in-Invoice
returns-in-Invoice c =
    let k = c.in-Invoice in
    written c.args.command (invoices k.participant) _ (k.participant ∷ []) [] _ [] _ _ (ap meaning_of k.is) (c.from-letter.ensures ∙ c.letter.ensures) (search rules) refl refl refl c.joined-in-Invoice.ensures

pub returns-in-Payment : goal.returns-in-Payment
returns-in-Payment c =
    let k = c.in-Payment in
    written c.args.command (pays k.participant k.sum) _ (k.participant ∷ []) _ _ [] _ _ (ap meaning_of k.is) (c.from-letter.ensures ∙ c.letter.ensures) (search rules) c.to_be_bytes-in-Payment.ensures refl refl c.joined-in-Payment.ensures

pub returns-in-Draw : goal.returns-in-Draw
returns-in-Draw c =
    let k = c.in-Draw in
    written c.args.command (draws k.participant) _ (k.participant ∷ []) [] _ [] _ _ (ap meaning_of k.is) (c.from-letter.ensures ∙ c.letter.ensures) (search rules) refl refl refl c.joined-in-Draw.ensures

pub returns-in-Payout : goal.returns-in-Payout
returns-in-Payout c =
    let k = c.in-Payout in
    written c.args.command (pays_out k.participant) _ (k.participant ∷ []) [] _ [] _ _ (ap meaning_of k.is) (c.from-letter.ensures ∙ c.letter.ensures) (search rules) refl refl refl c.joined-in-Payout.ensures

pub returns-in-Day : goal.returns-in-Day
returns-in-Day c =
    let k = c.in-Day in
    written c.args.command (moves_day k.day) _ [] _ _ [] _ _ (ap meaning_of k.is) (c.from-letter.ensures ∙ c.letter.ensures) (search rules) c.to_be_bytes-in-Day.ensures refl refl c.joined-in-Day.ensures
