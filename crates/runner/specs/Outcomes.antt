-- Number, cause and layer of a refusal, whoever refused; and where a run goes on.
use Rattle.std.specs.Prelude.{ℕ, Bool, true, false, Some, None, Ok, Err, Option, Result}
use Rattle.command.specs.Unreadable as reader
use Rattle.command.specs.declared.unreadable.Unreadable.TheVariants.{UnknownLetter, CutShort, LongFile, PageEnd}
use Rattle.rules.specs.Refusals as book
use Rattle.rules.specs.declared.refusals.Layer.{Layer}
use Rattle.rules.specs.declared.refusals.Layer.TheVariants as layer
use Rattle.runner.specs.declared.outcomes.Refused.{Refused}
use Rattle.runner.specs.declared.outcomes.Refused.TheVariants.{Reader, Book}

abbrev pub number_of : Refused → ℕ
number_of (Reader e) = reader.number_of e
number_of (Book e) = book.number_of e

-- the cause is 0 but for the collateral's
abbrev pub cause_of : Refused → ℕ
cause_of (Reader e) = 0
cause_of (Book e) = book.cause_of e

abbrev pub layer_of : Refused → Layer
layer_of (Reader e) = layer.Reader
layer_of (Book e) = book.layer_of e

-- how a command was answered; nothing at the end of the input, where there is no command
abbrev pub Outcome : Type 0
Outcome = Option (Result (Unit {0}) Refused)

-- after a call, granted or refused, the next command is run; the end and a refusal of the reader end the run
abbrev pub goes_on : Outcome → Bool
goes_on (Some (Ok u)) = true
goes_on (Some (Err (Reader e))) = false
goes_on (Some (Err (Book e))) = true
goes_on None = false

-- the reader's refusal 44, by which a run goes on with a new page
abbrev pub page_full : Outcome → Bool
page_full (Some (Ok u)) = false
page_full (Some (Err (Reader PageEnd))) = true
page_full (Some (Err (Reader UnknownLetter))) = false
page_full (Some (Err (Reader CutShort))) = false
page_full (Some (Err (Reader LongFile))) = false
page_full (Some (Err (Book e))) = false
page_full None = false
