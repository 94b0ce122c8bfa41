-- Lists of records that stand by an order of their own.
--   first x y    x comes first or is level with y
--   Ordered      each record comes first or is level with every one behind it
--   behind       the place behind the last record that meets a test
--   clear_of     the records that stand behind it
--   inserted     a list with a new record, behind all that come first or are level with it
--   Arrived      level records stand in the order of their arrival
--   laid         a list laid over the front of a row of places
use Rattle.std.specs.Prelude.{◌≡◌, ℕ, ◌+◌, Bool, true, cond, ◌&&◌, ◌||◌, List, [], ◌∷◌, ◌++◌, length, take, drop, nat_lt}

-- one stands before all of a list
abbrev pub Heads : {X : Type 0} → (X → X → Bool) → X → List X → Type 0
Heads first x [] = Unit {0}
Heads first x (y ∷ ys) = (first x y ≡ true) × Heads first x ys

abbrev pub Ordered : {X : Type 0} → (X → X → Bool) → List X → Type 0
Ordered first [] = Unit {0}
Ordered first (x ∷ xs) = Heads first x xs × Ordered first xs

-- how many records stand up to the last one that meets the test: 0 if none does
abbrev pub behind : {X : Type 0} → (X → Bool) → List X → ℕ
behind test [] = 0
behind test (x ∷ xs) = cond (nat_lt 0 (behind test xs) || test x) (1 + behind test xs) 0

abbrev pub clear_of : {X : Type 0} → (X → Bool) → List X → List X
clear_of test xs = drop (behind test xs) xs

abbrev pub inserted : {X : Type 0} → (X → X → Bool) → X → List X → List X
inserted first x ys = let place = behind (λ y. first y x) ys in take place ys ++ x ∷ drop place ys

-- the records of a list that are level with z, in their order
abbrev pub level_with : {X : Type 0} → (X → X → Bool) → X → List X → List X
level_with first z [] = []
level_with first z (y ∷ ys) = cond (first z y && first y z) (y ∷ level_with first z ys) (level_with first z ys)

-- among records that are level, the new one x stands last, and the others stand as they did
abbrev pub Arrived : {X : Type 0} → (X → X → Bool) → X → List X → List X → Type 0
Arrived {X} first x before after = (z : X) → level_with first z after ≡ level_with first z before ++ level_with first z (x ∷ [])

abbrev pub laid : {X : Type 0} → List X → List X → List X
laid xs places = xs ++ drop (length xs) places
