-- The number, the cause and the layer of each refusal.
use Rattle.std.specs.Prelude.{ℕ}
use Rattle.collateral.specs.Causes as collateral
use Rattle.rules.specs.declared.refusals.Layer.{Layer}
use Rattle.rules.specs.declared.refusals.Layer.TheVariants as layer
use Rattle.rules.specs.declared.refusals.Refusal.{Refusal}
use Rattle.rules.specs.declared.refusals.Refusal.TheVariants.{Participant, Zone, Unopened, Stage, Hours, Amount, Full, Capacity, Holding, AboveLimit, Day, Collateral, Nothing, TooMuch, Parties, NoCover}

abbrev pub number_of : Refusal → ℕ
-- participant not 1 to 12
number_of Participant = 1
-- zone not 1 to 3, or both equal
number_of Zone = 2
-- auction not opened
number_of Unopened = 3
-- stage does not allow it
number_of Stage = 4
-- no hours, hours past 191, or outside the auction in which they must lie
number_of Hours = 5
-- sum 0 or over 10^12, MW or capacity 0 or over 5,000, price over 1,000,000
number_of Amount = 6
-- ninth auction, fifth bid, a difference to pay while four invoices are open
number_of Full = 7
-- bids pass the capacity, or the capacity would pass 5,000
number_of Capacity = 8
-- fewer MW held in some hour
number_of Holding = 9
-- withdrawal above the credit limit
number_of AboveLimit = 10
-- day before today or over 9,900
number_of Day = 11
-- the collateral refused
number_of (Collateral cause) = 12
-- dues and claims both 0, nothing overdue, empty payout
number_of Nothing = 13
-- more than is open
number_of TooMuch = 14
-- giver is taker, or two directions
number_of Parties = 15
-- overdue, but cover is 0
number_of NoCover = 16

-- only the collateral's refusal has a cause, and is of its layer
abbrev pub cause_of : Refusal → ℕ
cause_of (Collateral cause) = collateral.number_of cause
cause_of Participant = 0
cause_of Zone = 0
cause_of Unopened = 0
cause_of Stage = 0
cause_of Hours = 0
cause_of Amount = 0
cause_of Full = 0
cause_of Capacity = 0
cause_of Holding = 0
cause_of AboveLimit = 0
cause_of Day = 0
cause_of Nothing = 0
cause_of TooMuch = 0
cause_of Parties = 0
cause_of NoCover = 0

abbrev pub layer_of : Refusal → Layer
layer_of (Collateral cause) = layer.Collateral
layer_of Participant = layer.Book
layer_of Zone = layer.Book
layer_of Unopened = layer.Book
layer_of Stage = layer.Book
layer_of Hours = layer.Book
layer_of Amount = layer.Book
layer_of Full = layer.Book
layer_of Capacity = layer.Book
layer_of Holding = layer.Book
layer_of AboveLimit = layer.Book
layer_of Day = layer.Book
layer_of Nothing = layer.Book
layer_of TooMuch = layer.Book
layer_of Parties = layer.Book
layer_of NoCover = layer.Book
