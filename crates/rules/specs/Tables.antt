-- The refusals of a call, in the order in which they are tried: the first test that holds names the refusal.
use Rattle.std.specs.Prelude.{Bool, true, false, cond, List, [], ◌∷◌, Ok, Err, Result}
use Rattle.rules.specs.declared.refusals.Refusal.{Refusal}

pub record Row : Type 0 where
  pub test : Bool
  pub names : Refusal

infixl 20 ◌⇒◌
abbrev pub ◌⇒◌ : Bool → Refusal → Row
t ⇒ r = record { test = t; names = r }

-- what a call answers: the first refusal whose test holds, else the value
abbrev pub answers : {A : Type 0} → List Row → A → Result A Refusal
answers [] v = Ok v
answers (row ∷ rows) v = cond row.test (Err row.names) (answers rows v)

-- whether no test holds, so that the call is granted
abbrev pub passes : List Row → Bool
passes [] = true
passes (row ∷ rows) = cond row.test false (passes rows)

abbrev pub is_granted : {A E : Type 0} → Result A E → Bool
is_granted (Ok a) = true
is_granted (Err e) = false
