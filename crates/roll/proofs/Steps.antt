-- A loop that writes a value of each record into a list of the same length.
use Rattle.std.proofs.Common.{◌≡◌, ℕ, ◌+◌, ◌<◌, ◌≤◌, List, [], ◌∷◌, map, length, get_or, take, set}
use Rattle.std.proofs.lemmas.List.{take_all, take_more, take_more_set, map-append}

pub map_step : {X Y : Type 0} (F : X → Y) (xs : List X) (ys : List Y) (i : ℕ) (d : X) (y : Y) →
    i < length xs → i < length ys → take i ys ≡ map F (take i xs) → y ≡ F (get_or xs i d) → take (i + 1) (set ys i y) ≡ map F (take (i + 1) xs)
map_step F xs ys i d y h k e f = rw (take_more_set ys i y k, take_more xs i d h, map-append F (take i xs) (get_or xs i d ∷ [])) (cc)

pub map_end : {X Y : Type 0} (F : X → Y) (xs : List X) (ys : List Y) (i : ℕ) → length xs ≤ i → length ys ≤ i → take i ys ≡ map F (take i xs) → ys ≡ map F xs
map_end F xs ys i h k e = let a = take_all i xs h in let b = take_all i ys k in cc
