-- Reading gives back what was written.
use Rattle.std.proofs.Common.{◌≡◌, ℕ, zero, suc, ◌+◌, ◌*◌, ◌/◌, ◌%◌, ◌^◌, ◌<◌, ◌≤◌, cond, leb, List, [], ◌∷◌, ◌++◌, length, get_or, drop, Some, Ok, Err, Result, sym, refl, ap, ◌∙◌, append_assoc, le_of_suc-le-suc, add-zero, mod-eq_of_lt, div-one, add-one, arith, length-append, le-leb}
use Rattle.std.proofs.lemmas.Bool.{cond-true}
use native.Mathlib.Nat.{pow-succ', mod-one, one-le-pow}
use lib.Arith.{mod-mul}
use Rattle.std.proofs.lemmas.List.{get_or-drop, get_or-append-add, drop-drop, drop_at, take_at}
use Rattle.command.specs.declared.unreadable.Unreadable.{Unreadable}
use Rattle.command.specs.declared.unreadable.Unreadable.TheVariants.{CutShort}
use Rattle.command.specs.Table.{Row, byte, letter_of, row_of, number_at, part, begins, total}
use Rattle.command.specs.Meaning.{Meaning, adds, withdraws, opens, bids, seals, awards, cancels, transfers, gives_back, curtails, invoices, pays, draws, pays_out, moves_day}
use Rattle.command.specs.Reading.{Read, reading, from_place, by_letter, whole}
use Rattle.command.proofs.Onward.{reads}
use Rattle.encoder.specs.Encoding.{Fit, Fitting, ReadsBack, big_endian, encoding, operand_bytes, packed}

big_endian_first : (w n : ℕ) → big_endian (suc w) n ≡ n / 256 ^ w % 256 ∷ big_endian w n
big_endian_first zero n = ap (λ x. x % 256 ∷ []) (sym (div-one n))
big_endian_first (suc w) n = refl

pub length_big_endian : (w n : ℕ) → length (big_endian w n) ≡ w
length_big_endian zero n = refl
length_big_endian (suc w) n = ap length (big_endian_first w n) ∙ ap suc (length_big_endian w n)

-- the byte at a place, and what stands behind it
at_first : (s t : List ℕ) (at x : ℕ) → drop at s ≡ x ∷ t → (get_or s at 0 ≡ x) × (drop (suc at) s ≡ t)
at_first s t at x e = (
  ap (λ k. get_or s k 0) (sym (add-zero at)) ∙ sym (get_or-drop at s 0 0) ∙ ap (λ l. get_or l 0 0) e,
  ap (λ k. drop k s) (sym (add-one at)) ∙ sym (drop-drop 1 at s) ∙ ap (drop 1) e,
)

number_back : (w n at : ℕ) (s rest : List ℕ) → drop at s ≡ big_endian w n ++ rest → (number_at s at w ≡ n % 256 ^ w) × (drop (at + w) s ≡ rest)
number_back zero n at s rest e = (sym (mod-one n), ap (λ k. drop k s) (add-zero at) ∙ e)
number_back (suc w) n at s rest e =
    let f = at_first s (big_endian w n ++ rest) at (n / 256 ^ w % 256) (e ∙ ap (λ l. l ++ rest) (big_endian_first w n)) in
    let k = number_back w n (suc at) s rest f.1 in
    let split : n % (256 * 256 ^ w) ≡ n / 256 ^ w % 256 * 256 ^ w + n % 256 ^ w = mod-mul n (omega arith) (one-le-pow w 256 (omega arith)) in
    let power = pow-succ' 256 w in
    let low = f.0 in
    let high = k.0 in
    let moved : at + suc w ≡ suc at + w = omega arith in
    (cc, ap (λ j. drop j s) moved ∙ k.1)

-- each operand, and 0 past the last
numbers_back : (ws ns : List ℕ) (at : ℕ) (s rest : List ℕ) → drop at s ≡ packed ws ns ++ rest → Fit ws ns → length ws ≤ length ns → (k : ℕ) → number_at s (begins ws at k) (get_or ws k 0) ≡ get_or ns k 0
numbers_back [] [] at s rest e f l k = refl
numbers_back (w ∷ ws) [] at s rest e f l k = let none : ⊥ = omega arith in absurd none
numbers_back [] (n ∷ ns) at s rest e f l k = absurd f
numbers_back (w ∷ ws) (n ∷ ns) at s rest e f l zero = (number_back w n at s (packed ws ns ++ rest) (e ∙ append_assoc (big_endian w n) (packed ws ns) rest)).0 ∙ mod-eq_of_lt f.0
numbers_back (w ∷ ws) (n ∷ ns) at s rest e f l (suc k) =
    numbers_back ws ns (at + w) s rest (number_back w n at s (packed ws ns ++ rest) (e ∙ append_assoc (big_endian w n) (packed ws ns) rest)).1 f.1 (le_of_suc-le-suc l) k

length_packed : (ws ns : List ℕ) → Fit ws ns → length ws ≤ length ns → length (packed ws ns) ≡ total ws
length_packed [] [] f l = refl
length_packed (w ∷ ws) [] f l = let none : ⊥ = omega arith in absurd none
length_packed [] (n ∷ ns) f l = absurd f
length_packed (w ∷ ws) (n ∷ ns) f l =
    length-append (big_endian w n) (packed ws ns)
    ∙ ap (λ k. k + length (packed ws ns)) (length_big_endian w n)
    ∙ ap (λ k. w + k) (length_packed ws ns f.1 (le_of_suc-le-suc l))

abbrev got : ℕ → Meaning → Result Read Unreadable
got n m = Ok (record { meaning = m; bytes = n })

-- a command that the input has whole
whole_is : (s : List ℕ) (n : ℕ) (x m : Meaning) → n ≤ length s → x ≡ m → cond (leb n (length s)) (got n x) (Err CutShort) ≡ got n m
whole_is s n x m h e = cond-true _ _ _ (le-leb n (length s) h) ∙ ap (got n) e

-- a row whose operands are all numbers gives them back
row_back : (r : Row) (ns rest : List ℕ) (m : Meaning) → ((bs : ℕ → List ℕ) → r.says (λ k. get_or ns k 0) bs ≡ m) → Fit r.widths ns → length r.widths ≤ length ns → whole r (r.letter ∷ (packed r.widths ns ++ rest)) ≡ got (1 + total r.widths) m
row_back r ns rest m says f l =
    let s : List ℕ = r.letter ∷ (packed r.widths ns ++ rest) in
    let e : (k : ℕ) → number_at s (begins r.widths 1 k) (get_or r.widths k 0) ≡ get_or ns k 0 = numbers_back r.widths ns 1 s rest refl f l in
    let size = length_packed r.widths ns f l in
    let room : 1 + total r.widths ≤ length s = simp length-append (omega arith) in
    let bs : ℕ → List ℕ = λ k. part (begins r.widths 1 k) (get_or r.widths k 0) s in
    whole_is s (1 + total r.widths) _ m room ((λ i. r.says (λ k. e k i) bs) ∙ says bs)

-- what stands behind other bytes is read as it would be alone
pub placed : (before s : List ℕ) (r : Result Read Unreadable) → 0 < length s → by_letter (get_or s 0 0) s ≡ r → reading (before ++ s) (length before) ≡ Some (from_place (length before) r)
placed before s r h e =
    let first = ap (λ k. get_or (before ++ s) k 0) (sym (add-zero (length before))) ∙ get_or-append-add before s 0 0 in
    let room : length before < length (before ++ s) = simp length-append (omega arith) in
    sym (reads (before ++ s) (length before) s r room (sym (drop_at before s (length before) refl)) (sym e ∙ ap (λ x. by_letter x s) (sym first)))

-- bytes that are read as a command of their length at the front of any input that begins with them
at_front : (m : Meaning) (l : ℕ) (t : List ℕ) → ((rest : List ℕ) → by_letter l (l ∷ (t ++ rest)) ≡ Ok (record { meaning = m; bytes = length (l ∷ t) })) → ReadsBack m (l ∷ t)
at_front m l t f before rest = placed before (l ∷ (t ++ rest)) _ (omega arith) (f rest)

encoded_back : (m : Meaning) → ((rest : List ℕ) → by_letter (letter_of m) (letter_of m ∷ (operand_bytes m ++ rest)) ≡ got (length (letter_of m ∷ operand_bytes m)) m) → ReadsBack m (encoding m)
unfolding encoding
encoded_back m f = at_front m (letter_of m) (operand_bytes m) f

-- a curtailment gives its numbers back, and its limits
curtails_back : (from to first : ℕ) (limits rest : List ℕ) → Fit (1 ∷ 1 ∷ 1 ∷ []) (from ∷ to ∷ first ∷ []) → length limits ≡ 48 → whole (row_of (byte "C")) (byte "C" ∷ (packed (1 ∷ 1 ∷ 1 ∷ []) (from ∷ to ∷ first ∷ []) ++ (limits ++ rest))) ≡ got (suc (suc (suc (suc (length limits))))) (curtails from to first limits)
unfolding part
curtails_back from to first limits rest f l =
    let s : List ℕ = byte "C" ∷ (packed (1 ∷ 1 ∷ 1 ∷ []) (from ∷ to ∷ first ∷ []) ++ (limits ++ rest)) in
    let e = numbers_back (1 ∷ 1 ∷ 1 ∷ []) (from ∷ to ∷ first ∷ []) 1 s (limits ++ rest) refl f (omega arith) in
    let e0 : number_at s 1 1 ≡ from = e 0 in
    let e1 : number_at s 2 1 ≡ to = e 1 in
    let e2 : number_at s 3 1 ≡ first = e 2 in
    let e3 : part 4 48 s ≡ limits = take_at limits rest 48 l in
    let room : 52 ≤ length s = simp length-append (omega arith) in
    let same : curtails (number_at s 1 1) (number_at s 2 1) (number_at s 3 1) (part 4 48 s) ≡ curtails from to first limits = cc in
    whole_is s 52 _ (curtails from to first limits) room same ∙ ap (λ k. got (suc (suc (suc (suc k)))) (curtails from to first limits)) (sym l)

pub reads_back : (m : Meaning) → Fitting m → ReadsBack m (encoding m)
reads_back (adds p kind sum last) f = encoded_back (adds p kind sum last) (λ rest. row_back (row_of (byte "D")) (p ∷ kind ∷ sum ∷ last ∷ []) rest _ (λ bs. refl) f.0 (omega arith))
reads_back (withdraws p sum) f = encoded_back (withdraws p sum) (λ rest. row_back (row_of (byte "W")) (p ∷ sum ∷ []) rest _ (λ bs. refl) f.0 (omega arith))
reads_back (opens from to first hours capacity) f = encoded_back (opens from to first hours capacity) (λ rest. row_back (row_of (byte "O")) (from ∷ to ∷ first ∷ hours ∷ capacity ∷ []) rest _ (λ bs. refl) f.0 (omega arith))
reads_back (bids p a price mw) f = encoded_back (bids p a price mw) (λ rest. row_back (row_of (byte "B")) (p ∷ a ∷ price ∷ mw ∷ []) rest _ (λ bs. refl) f.0 (omega arith))
reads_back (seals a) f = encoded_back (seals a) (λ rest. row_back (row_of (byte "S")) (a ∷ []) rest _ (λ bs. refl) f.0 (omega arith))
reads_back (awards a) f = encoded_back (awards a) (λ rest. row_back (row_of (byte "A")) (a ∷ []) rest _ (λ bs. refl) f.0 (omega arith))
reads_back (cancels a) f = encoded_back (cancels a) (λ rest. row_back (row_of (byte "X")) (a ∷ []) rest _ (λ bs. refl) f.0 (omega arith))
reads_back (transfers giver taker a first hours mw) f = encoded_back (transfers giver taker a first hours mw) (λ rest. row_back (row_of (byte "T")) (giver ∷ taker ∷ a ∷ first ∷ hours ∷ mw ∷ []) rest _ (λ bs. refl) f.0 (omega arith))
reads_back (gives_back p out into mw) f = encoded_back (gives_back p out into mw) (λ rest. row_back (row_of (byte "R")) (p ∷ out ∷ into ∷ mw ∷ []) rest _ (λ bs. refl) f.0 (omega arith))
reads_back (curtails from to first limits) f = encoded_back (curtails from to first limits) (λ rest. curtails_back from to first limits rest f.0 (omega (arith, f.1)))
reads_back (invoices p) f = encoded_back (invoices p) (λ rest. row_back (row_of (byte "I")) (p ∷ []) rest _ (λ bs. refl) f.0 (omega arith))
reads_back (pays p sum) f = encoded_back (pays p sum) (λ rest. row_back (row_of (byte "M")) (p ∷ sum ∷ []) rest _ (λ bs. refl) f.0 (omega arith))
reads_back (draws p) f = encoded_back (draws p) (λ rest. row_back (row_of (byte "K")) (p ∷ []) rest _ (λ bs. refl) f.0 (omega arith))
reads_back (pays_out p) f = encoded_back (pays_out p) (λ rest. row_back (row_of (byte "Q")) (p ∷ []) rest _ (λ bs. refl) f.0 (omega arith))
reads_back (moves_day day) f = encoded_back (moves_day day) (λ rest. row_back (row_of (byte "N")) (day ∷ []) rest _ (λ bs. refl) f.0 (omega arith))
