-- Texts and numbers behind one another, and a text laid into the page.
use Rattle.std.proofs.Common.{◌≡◌, ℕ, ◌+◌, ◌-◌, ◌<◌, ◌≤◌, List, [], ◌∷◌, ◌++◌, length, get_or, take, drop, ap, ◌∙◌, append-nil, add-zero, arith, length-append, take-append-drop, rules}
use borrow.Rule.Slice.PartMut.{put_mid}
use Rattle.std.proofs.lemmas.List.{same_lists, places, drop_more, take_more}
use Rattle.std.proofs.Math.Seq.{take-append_seam}
use Rattle.std.proofs.lemmas.Grind.{flat_map-append}
use Rattle.lines.specs.Lines.{line}
use Rattle.lines.specs.Page.{laid, spaced, spaced_one}

pub laid_none : (at : ℕ) (p : List ℕ) → laid at [] p ≡ p
unfolding laid
laid_none at p = rw add-zero (take-append-drop at p)

-- a text at the front of the page
pub laid_front : (t p : List ℕ) → take (length t) (laid 0 t p) ≡ t
unfolding laid
laid_front t p = take-append_seam t (drop (0 + length t) p)

-- two texts, one behind the other
pub laid_laid : (at : ℕ) (t u p : List ℕ) → at + length t + length u ≤ length p → laid (at + length t) u (laid at t p) ≡ laid at (t ++ u) p
unfolding laid
laid_laid at t u p h = same_lists _ _ (search (rules, places)) (λ k d l. grind (arith, places))

-- one text more, behind another
pub laid_next : (at : ℕ) (t u p q r : List ℕ) (k : ℕ) → q ≡ laid at t p → r ≡ laid k u q → k ≡ at + length t → at + length t + length u ≤ length p → r ≡ laid at (t ++ u) p
laid_next at t u p q r k e f l h = let m = laid_laid at t u p h in cc

-- the numbers up to one are those before it, and that one
pub spaced_more : (ns : List ℕ) (i : ℕ) → i < length ns → spaced (take (i + 1) ns) ≡ spaced (take i ns) ++ spaced_one (get_or ns i 0)
spaced_more ns i h =
    ap spaced (take_more ns i 0 h)
    ∙ flat_map-append spaced_one (take i ns) (get_or ns i 0 ∷ [])
    ∙ ap (λ t. spaced (take i ns) ++ t) (append-nil (spaced_one (get_or ns i 0)))

-- the numbers before one, and that one, are no longer than all
pub spaced_room : (ns : List ℕ) (i : ℕ) → i < length ns → length (spaced (take i ns)) + length (spaced_one (get_or ns i 0)) ≤ length (spaced ns)
spaced_room ns i h =
    let all = ap (λ t. length (spaced t)) (take-append-drop i ns) in
    let parts = simp length-append at (ap length (flat_map-append spaced_one (take i ns) (drop i ns))) in
    let first = simp length-append at (ap (λ t. length (spaced t)) (drop_more ns i 0 h)) in
    omega arith

pub length_line : (l : ℕ) (w ns : List ℕ) → length (line l w ns) ≡ length w + length (spaced ns) + 2
unfolding line
length_line l w ns = simp length-append (omega arith)

-- a text at the front of the part of the page that starts at `at`
pub laid_part : (at : ℕ) (t p : List ℕ) → at + length t ≤ length p → put_mid at (length p - at) p (laid 0 t (take (length p - at) (drop at p))) ≡ laid at t p
unfolding laid
laid_part at t p h = same_lists _ _ (search (rules, places)) (λ k d l. grind (arith, places))
