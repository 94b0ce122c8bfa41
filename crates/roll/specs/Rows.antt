-- Rows of records, each changed by what stands at its place in another row.
use Rattle.std.specs.Prelude.{◌≡◌, List, [], ◌∷◌}

-- each record of a row changed by the value at its place; where the values end, the rest stays
abbrev pub each_with : {V X : Type 0} → (V → X → X) → List V → List X → List X
each_with f [] xs = xs
each_with f (v ∷ vs) [] = []
each_with f (v ∷ vs) (x ∷ xs) = f v x ∷ each_with f vs xs

-- each call of a closure, which takes a record and a value, answers the record changed by the value
abbrev pub Changes : {V X : Type 0} → (X → V → X → Type 0) → (V → X → X) → Type 0
Changes {V} {X} gives changed = (x : X) (v : V) (y : X) → gives x v y → y ≡ changed v x
