-- The calls of the book, the answer of each, and the numbers that a line shows of it.
use Rattle.std.specs.Prelude.{ℕ, List, [], ◌∷◌}
use Rattle.rules.specs.declared.answers.Clearing.{Clearing}
use Rattle.rules.specs.declared.answers.Cut.{Cut}
use Rattle.rules.specs.declared.answers.Netting.{Netting}
use Rattle.rules.specs.declared.answers.Receipt.{Receipt}

pub data Call : Type 0 where
  add_collateral : (p kind sum last : ℕ) → Call
  withdraw : (p sum : ℕ) → Call
  open_auction : (from to first hours capacity : ℕ) → Call
  place_bid : (p a price mw : ℕ) → Call
  seal_auction : (a : ℕ) → Call
  award_auction : (a : ℕ) → Call
  cancel_auction : (a : ℕ) → Call
  transfer_rights : (giver taker a first hours mw : ℕ) → Call
  return_rights : (p out into mw : ℕ) → Call
  curtail_rights : (from to first : ℕ) (limits : List ℕ) → Call
  send_invoice : (p : ℕ) → Call
  pay_invoices : (p sum : ℕ) → Call
  draw_overdue : (p : ℕ) → Call
  pay_balance : (p : ℕ) → Call
  move_day : (day : ℕ) → Call

abbrev pub Reply : Call → Type 0
-- the limit after
Reply (add_collateral p kind sum last) = ℕ
Reply (withdraw p sum) = ℕ
-- the auction's number
Reply (open_auction from to first hours capacity) = ℕ
Reply (place_bid p a price mw) = Receipt
Reply (seal_auction a) = Cut
Reply (award_auction a) = Clearing
Reply (cancel_auction a) = Unit {0}
Reply (transfer_rights giver taker a first hours mw) = Unit {0}
-- the capacity after
Reply (return_rights p out into mw) = ℕ
-- the MW lost
Reply (curtail_rights from to first limits) = ℕ
Reply (send_invoice p) = Netting
-- what is open after
Reply (pay_invoices p sum) = ℕ
-- the sum drawn
Reply (draw_overdue p) = ℕ
-- the whole balance
Reply (pay_balance p) = ℕ
-- the day
Reply (move_day day) = ℕ

-- the numbers that a line shows of an answer
abbrev pub numbers : (k : Call) → Reply k → List ℕ
numbers (add_collateral p kind sum last) n = n ∷ []
numbers (withdraw p sum) n = n ∷ []
numbers (open_auction from to first hours capacity) n = n ∷ []
numbers (place_bid p a price mw) r = r.number ∷ r.worst ∷ r.limit ∷ []
numbers (seal_auction a) r = r.kept ∷ r.left ∷ []
numbers (award_auction a) r = r.price ∷ r.mw ∷ []
numbers (cancel_auction a) r = []
numbers (transfer_rights giver taker a first hours mw) r = []
numbers (return_rights p out into mw) n = n ∷ []
numbers (curtail_rights from to first limits) n = n ∷ []
numbers (send_invoice p) r = r.pay ∷ r.credit ∷ []
numbers (pay_invoices p sum) n = n ∷ []
numbers (draw_overdue p) n = n ∷ []
numbers (pay_balance p) n = n ∷ []
numbers (move_day day) n = n ∷ []
