-- Changes in a span of hours.
use Rattle.std.specs.Prelude.{ℕ, List, ◌++◌, map, take, drop}

-- n records from place k on, and a change of each of them
abbrev pub part : {X : Type 0} → ℕ → ℕ → List X → List X
part k n xs = take n (drop k xs)

abbrev pub over : {X : Type 0} → ℕ → ℕ → (X → X) → List X → List X
over k n f xs = take k xs ++ (map f (part k n xs) ++ drop n (drop k xs))
