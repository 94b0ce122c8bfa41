-- The call that a command asks for.
use Rattle.std.specs.Prelude.{◌≡◌, Result}
use Rattle.command.specs.Meaning.{Meaning, adds, withdraws, opens, bids, seals, awards, cancels, transfers, gives_back, curtails, invoices, pays, draws, pays_out, moves_day}
use Rattle.lines.specs.declared.writer.Numbers.{Numbers}
use Rattle.rules.specs.Calls.{Call, Reply, numbers, add_collateral, withdraw, open_auction, place_bid, seal_auction, award_auction, cancel_auction, transfer_rights, return_rights, curtail_rights, send_invoice, pay_invoices, draw_overdue, pay_balance, move_day}
use Rattle.rules.specs.Moments.{Moment}
use Rattle.rules.specs.Steps.{Step}
use Rattle.rules.specs.declared.refusals.Refusal.{Refusal}
use Rattle.runner.specs.Answers.{reply_shown, shown_of}
use Rattle.runner.specs.declared.outcomes.Refused.{Refused}

abbrev pub call_of : Meaning → Call
call_of (adds p kind sum last) = add_collateral p kind sum last
call_of (withdraws p sum) = withdraw p sum
call_of (opens from to first hours capacity) = open_auction from to first hours capacity
call_of (bids p a price mw) = place_bid p a price mw
call_of (seals a) = seal_auction a
call_of (awards a) = award_auction a
call_of (cancels a) = cancel_auction a
call_of (transfers giver taker a first hours mw) = transfer_rights giver taker a first hours mw
call_of (gives_back p out into mw) = return_rights p out into mw
call_of (curtails from to first limits) = curtail_rights from to first limits
call_of (invoices p) = send_invoice p
call_of (pays p sum) = pay_invoices p sum
call_of (draws p) = draw_overdue p
call_of (pays_out p) = pay_balance p
call_of (moves_day day) = move_day day

-- the call was made, with some reply that is shown like this
pub record Performed (k : Call) (m : Moment) (r : Result Numbers Refused) (m' : Moment) : Type 0 where
  pub reply : Result (Reply k) Refusal
  pub step : Step k m reply m'
  pub shows : shown_of r ≡ reply_shown (numbers k) reply
