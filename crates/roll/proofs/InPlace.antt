-- A loop that puts a value of each record in the record's own place.
use Rattle.std.proofs.Common.{◌≡◌, ℕ, ◌+◌, ◌<◌, ◌≤◌, List, ◌∷◌, ◌++◌, map, length, get_or, take, drop, set, ap, ◌∙◌, arith}
use Rattle.std.proofs.lemmas.List.{append_assoc, append-nil, drop_all, drop_more, get_or_at, length-map, length-take-le, map-append, set_at, take_all, take_more}

module _ {X : Type 0} (f : X → X) (xs ys : List X) (i : ℕ) where
  front : i < length xs → length (map f (take i xs)) ≡ i
  front h = length-map (take i xs) f ∙ length-take-le i xs (omega arith)

  -- what the loop has not reached is as it was
  pub place_rest : (d : X) → i < length xs → ys ≡ map f (take i xs) ++ drop i xs → get_or ys i d ≡ get_or xs i d
  place_rest d h e = rw (e, drop_more xs i d h) (get_or_at _ _ _ d i (front h))

  pub place_step : (d v : X) → i < length xs → ys ≡ map f (take i xs) ++ drop i xs → v ≡ f (get_or ys i d) → set ys i v ≡ map f (take (i + 1) xs) ++ drop (i + 1) xs
  place_step d v h e w =
      let at : set ys i v ≡ map f (take i xs) ++ v ∷ drop (i + 1) xs = rw (e, drop_more xs i d h) (set_at _ _ _ v i (front h)) in
      let k : v ≡ f (get_or xs i d) = w ∙ ap f (place_rest d h e) in
      at ∙ rw (k, take_more xs i d h) (simp (map-append, append_assoc))

  pub place_end : length xs ≤ i → ys ≡ map f (take i xs) ++ drop i xs → ys ≡ map f xs
  place_end h e = rw (take_all i xs h, drop_all i xs h, append-nil) at e
