-- Why an add is refused: the numbers of the causes, and the tests in the order in which they are tried.
use Rattle.std.specs.Prelude.{ℕ, Bool, true, false, cond, List, [], ◌∷◌, Ok, Err, Result}
use Rattle.collateral.specs.declared.kind.Cause.{Cause}
use Rattle.collateral.specs.declared.kind.Cause.TheVariants.{Stranger, UnknownKind, LastDay, NoPlace, BadSum}

abbrev pub number_of : Cause → ℕ
number_of Stranger = 30
number_of UnknownKind = 31
number_of LastDay = 32
number_of NoPlace = 33
number_of BadSum = 34

-- a test, and the cause that it names if it holds
pub record Ground : Type 0 where
  pub test : Bool
  pub names : Cause

infixl 20 ◌⇒◌
abbrev pub ◌⇒◌ : Bool → Cause → Ground
t ⇒ c = record { test = t; names = c }

-- the first test that holds names the cause; where none does, the add is granted
abbrev pub judged : List Ground → Result (Unit {0}) Cause
judged [] = Ok tt
judged (g ∷ gs) = cond g.test (Err g.names) (judged gs)

abbrev pub granted : Result (Unit {0}) Cause → Bool
granted (Ok u) = true
granted (Err c) = false
