-- What is done with the rights of one auction leaves those of the others as they are.
use Rattle.std.proofs.Common.{◌≡◌, ℕ, zero, suc, ◌+◌, Bool, true, false, cond, leb, List, [], ◌∷◌, ◌++◌, map, get_or, take, drop, set, None, Option, sym, refl, ap, ◌∙◌, arith, take-append-drop}
use Rattle.std.proofs.Math.ListN.{get_or-map}
use Rattle.std.proofs.lemmas.List.{get_or-set_other, map-append}
use Rattle.roll.specs.Rows.{each_with}
use Rattle.rights.specs.Cuts.{curtailed, cut_hour, cut_row, limit_at, total_held}
use Rattle.rights.specs.Holdings.{mw_of, no_hour, row_at, with_row}
use Rattle.rights.specs.Returns.{restored}
use Rattle.rights.specs.Spans.{over, part}
use Rattle.rights.specs.declared.hours.Hour.{Hour}

-- what a change does not touch, a change over a span does not touch
map_same : {X Y : Type 0} (g : X → Y) (f : X → X) → ((x : X) → g (f x) ≡ g x) → (xs : List X) → map g (map f xs) ≡ map g xs
map_same g f same [] = refl
map_same g f same (x ∷ xs) = let h = same x in let t = map_same g f same xs in cc

over_map : {X Y : Type 0} (g : X → Y) (f : X → X) → ((x : X) → g (f x) ≡ g x) → (k n : ℕ) (xs : List X) → map g (over k n f xs) ≡ map g xs
over_map g f same k n xs =
    map-append g (take k xs) (map f (part k n xs) ++ drop n (drop k xs))
    ∙ (ap (λ ys. map g (take k xs) ++ ys) (map-append g (map f (part k n xs)) (drop n (drop k xs))
    ∙ (ap (λ ys. ys ++ map g (drop n (drop k xs))) (map_same g f same (part k n xs))
    ∙ (sym (map-append g (part k n xs) (drop n (drop k xs))) ∙ ap (map g) (take-append-drop n (drop k xs)))))
    ∙ (sym (map-append g (take k xs) (drop k xs)) ∙ ap (map g) (take-append-drop k xs)))

pub over_same : {X Y : Type 0} (g : X → Y) (f : X → X) → ((x : X) → g (f x) ≡ g x) → (k n : ℕ) (xs : List X) (h : ℕ) (d : X) → g (get_or (over k n f xs) h d) ≡ g (get_or xs h d)
over_same g f same k n xs h d = sym (get_or-map g (over k n f xs) h d) ∙ (ap (λ ys. get_or ys h (g d)) (over_map g f same k n xs) ∙ get_or-map g xs h d)

-- another auction's row
pub row_other : (a b : ℕ) (row : List ℕ) (hour : Hour) → (b ≡ a → ⊥) → row_at b (with_row a row hour) ≡ row_at b hour
row_other a b row hour other = get_or-set_other hour.rows a b row [] other

-- nothing that waits changes nothing
none_back : (back row : List ℕ) → mw_of back ≡ 0 → each_with (λ b mw. mw + b) back row ≡ row
none_back [] row z = refl
none_back (b ∷ back) [] z = refl
none_back (b ∷ back) (mw ∷ row) z = let e : mw + b ≡ mw = omega arith in let t = none_back back row (omega arith) in cc

rows_back : (waiting rows : List (List ℕ)) (b : ℕ) → mw_of (get_or waiting b []) ≡ 0 → get_or (each_with (each_with (λ back mw. mw + back)) waiting rows) b [] ≡ get_or rows b []
rows_back [] rows b z = refl
rows_back (w ∷ waiting) [] b z = refl
rows_back (w ∷ waiting) (row ∷ rows) zero z = none_back w row z
rows_back (w ∷ waiting) (row ∷ rows) (suc b) z = rows_back waiting rows b z

pub restored_other : (waiting hour : Hour) (b : ℕ) → mw_of (row_at b waiting) ≡ 0 → row_at b (restored waiting hour) ≡ row_at b hour
restored_other waiting hour b z = rows_back waiting.rows hour.rows b z

-- an auction without a price is not cut
rows_uncut : (limit total : ℕ) (prices : List (Option ℕ)) (rows : List (List ℕ)) (b : ℕ) → get_or prices b None ≡ None → get_or (each_with (cut_row limit total) prices rows) b [] ≡ get_or rows b []
rows_uncut limit total [] rows b e = refl
rows_uncut limit total (p ∷ prices) [] b e = refl
rows_uncut limit total (p ∷ prices) (row ∷ rows) zero e = ap (λ q. cut_row limit total q row) e
rows_uncut limit total (p ∷ prices) (row ∷ rows) (suc b) e = rows_uncut limit total prices rows b e

hour_uncut : (limit : ℕ) (prices : List (Option ℕ)) (hour : Hour) (b : ℕ) → get_or prices b None ≡ None → row_at b (cut_hour limit prices hour) ≡ row_at b hour
hour_uncut limit prices hour b e = go (leb (total_held prices hour.rows) limit)
  where
    go : (ok : Bool) → row_at b (cond ok hour (record { rows = each_with (cut_row limit (total_held prices hour.rows)) prices hour.rows })) ≡ row_at b hour
    go true = refl
    go false = rows_uncut limit (total_held prices hour.rows) prices hour.rows b e

put_same : {X Y : Type 0} (g : X → Y) (xs ys : List X) (i : ℕ) (v d : X) → ((k : ℕ) → g (get_or ys k d) ≡ g (get_or xs k d)) → g v ≡ g (get_or xs i d) → (k : ℕ) → g (get_or (set ys i v) k d) ≡ g (get_or xs k d)
put_same g xs [] i v d same new k = same k
put_same g [] (y ∷ ys) zero v d same new zero = new
put_same g [] (y ∷ ys) zero v d same new (suc k) = same (suc k)
put_same g [] (y ∷ ys) (suc i) v d same new zero = same zero
put_same g [] (y ∷ ys) (suc i) v d same new (suc k) = put_same g [] ys i v d (λ j. same (suc j)) new k
put_same g (x ∷ xs) (y ∷ ys) zero v d same new zero = new
put_same g (x ∷ xs) (y ∷ ys) zero v d same new (suc k) = same (suc k)
put_same g (x ∷ xs) (y ∷ ys) (suc i) v d same new zero = same zero
put_same g (x ∷ xs) (y ∷ ys) (suc i) v d same new (suc k) = put_same g xs ys i v d (λ j. same (suc j)) new k

pub curtailed_other : (prices : List (Option ℕ)) (first : ℕ) (limits : List ℕ) (n : ℕ) (rights : List Hour) (b : ℕ) → get_or prices b None ≡ None → (h : ℕ) → row_at b (get_or (curtailed prices first limits n rights) h no_hour) ≡ row_at b (get_or rights h no_hour)
unfolding curtailed
curtailed_other prices first limits zero rights b e h = refl
curtailed_other prices first limits (suc n) rights b e h =
    put_same (row_at b) rights (curtailed prices first limits n rights) (first + n) (cut_hour (limit_at limits n) prices (get_or rights (first + n) no_hour)) no_hour
    (curtailed_other prices first limits n rights b e) (hour_uncut (limit_at limits n) prices (get_or rights (first + n) no_hour) b e) h
