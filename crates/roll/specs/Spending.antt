-- Sums spent along a list of records.
--   spent        what is left of the records: the first is emptied, then the next; an emptied one is gone
--   spent_clear  the same along the records that stand behind the last one that meets a test; the others stay
--   Emptied      how far a sum empties them
use Rattle.std.specs.Prelude.{◌≡◌, ℕ, ◌+◌, ◌-◌, ◌<◌, ◌≤◌, Bool, cond, List, [], ◌∷◌, ◌++◌, length, take, drop, nat_le, slice_index_or}
use Rattle.roll.specs.Sums.{sum_of}
use Rattle.roll.specs.Rolls.{behind, clear_of}

abbrev pub spent : {X : Type 0} → (X → ℕ) → (ℕ → X → X) → ℕ → List X → List X
spent amount lowered n [] = []
spent amount lowered n (x ∷ xs) = cond (nat_le (amount x) n) (spent amount lowered (n - amount x) xs) (lowered (amount x - n) x ∷ xs)

abbrev pub spent_clear : {X : Type 0} → (X → ℕ) → (ℕ → X → X) → (X → Bool) → ℕ → List X → List X
spent_clear amount lowered test n xs = take (behind test xs) xs ++ spent amount lowered n (clear_of test xs)

-- a sum empties the first `gone` of a list, and has `left` left then, too little for the next
pub record Emptied {X : Type 0} (amount : X → ℕ) (lowered : ℕ → X → X) (sum : ℕ) (xs : List X) (gone left : ℕ) : Type 0 where
  pub within : gone ≤ length xs
  pub short : (d : X) → gone < length xs → left < amount (slice_index_or xs gone d)
  pub balance : sum + sum_of amount (drop gone xs) ≡ left + sum_of amount xs
  pub goes_on : spent amount lowered sum xs ≡ spent amount lowered left (drop gone xs)
