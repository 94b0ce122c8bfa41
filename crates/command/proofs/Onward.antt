-- A command is read at its place, takes at least its letter, and ends within the input.
use Rattle.std.proofs.Common.{◌≡◌, ℕ, ◌+◌, ◌-◌, ◌<◌, ◌≤◌, cond, eqb, leb, List, [], ◌∷◌, length, get_or, drop, Some, None, Ok, Err, Result, sym, refl, ap, ◌∙◌, subst, arith, length-drop, leb-true, ne_eqb}
use borrow.Author.Tests.{lt-leb}
use Rattle.std.proofs.lemmas.Bool.{cond-false, cond_both}
use Rattle.command.specs.declared.unreadable.Unreadable.{Unreadable}
use Rattle.command.specs.declared.unreadable.Unreadable.TheVariants.{UnknownLetter}
use Rattle.command.specs.declared.letter.Letter.{Letter}
use Rattle.command.specs.declared.letter.Letter.TheVariants.{Add, Withdraw, Open, Bid, Seal, Award, Cancel, Transfer, Return, Curtail, Invoice, Payment, Draw, Payout, Day}
use Rattle.command.specs.Letters.{Names, byte_of}
use Rattle.command.specs.Meaning.{Meaning}
use Rattle.command.specs.Table.{Row, table, total}
use Rattle.command.specs.Reading.{Read, whole, by_rows, by_letter, from_place, reading}

pub reads : (input : List ℕ) (place : ℕ) (s : List ℕ) (r : Result Read Unreadable) → place < length input → s ≡ drop place input → r ≡ by_letter (get_or input place 0) s → Some (from_place place r) ≡ reading input place
reads input place s r h e k =
    ap (λ x. Some (from_place place x)) (k ∙ ap (by_letter (get_or input place 0)) e)
    ∙ sym (ap (λ b. cond b None (Some (from_place place (by_letter (get_or input place 0) (drop place input))))) (lt-leb (length input) place h))

abbrev pub Sized : Result Read Unreadable → ℕ → Type 0
Sized (Ok r) n = (0 < r.bytes) × (r.bytes ≤ n)
Sized (Err e) n = Unit {0}

sized_whole : (r : Row) (s : List ℕ) → Sized (whole r s) (length s)
sized_whole r s = cond_both (leb (1 + total r.widths) (length s)) _ _ (λ x. Sized x (length s)) (λ e. (omega arith, leb-true _ _ e)) (λ _. tt)

pub sized_rows : (rs : List Row) (l : ℕ) (s : List ℕ) → Sized (by_rows rs l s) (length s)
sized_rows [] l s = tt
sized_rows (r ∷ rs) l s = cond_both (eqb l r.letter) _ _ (λ x. Sized x (length s)) (λ _. sized_whole r s) (λ _. sized_rows rs l s)

pub sized : (input : List ℕ) (place : ℕ) (s : List ℕ) (r : Result Read Unreadable) → s ≡ drop place input → r ≡ by_letter (get_or input place 0) s → Sized r (length input - place)
sized input place s r h e =
    subst (λ x. Sized x (length input - place)) (sym e)
    (subst (λ n. Sized (by_letter (get_or input place 0) s) n) (ap length h ∙ length-drop place input) (sized_rows table (get_or input place 0) s))

-- no row has this letter
abbrev pub Unlike : List Row → ℕ → Type 0
Unlike [] b = Unit {0}
Unlike (r ∷ rs) b = (r.letter ≡ b → ⊥) × Unlike rs b

unlike : (rs : List Row) (b : ℕ) (s : List ℕ) → Unlike rs b → by_rows rs b s ≡ Err UnknownLetter
unlike [] b s h = refl
unlike (r ∷ rs) b s h = cond-false _ _ _ (ne_eqb b r.letter (λ e. h.0 (sym e))) ∙ unlike rs b s h.1

pub no_row : (b : ℕ) → ((letter : Letter) → byte_of letter ≡ b → ⊥) → Unlike table b
no_row b h = (h Add, (h Withdraw, (h Open, (h Bid, (h Seal, (h Award, (h Cancel, (h Transfer, (h Return, (h Curtail, (h Invoice, (h Payment, (h Draw, (h Payout, (h Day, tt)))))))))))))))

-- no row has a byte that is no letter's
unknown : (b : ℕ) (s : List ℕ) → ((letter : Letter) → byte_of letter ≡ b → ⊥) → by_letter b s ≡ Err UnknownLetter
unknown b s h = unlike table b s (no_row b h)

-- a byte that is no letter's is refused
pub refused : (input : List ℕ) (place : ℕ) (e : Unreadable) → place < length input → Names (get_or input place 0) (Err e) → Some (Err e) ≡ reading input place
refused input place e h n = reads input place (drop place input) (Err e) h refl (ap Err n.0 ∙ sym (unknown _ _ n.1))

-- so is a command that is cut short
pub cut : (input : List ℕ) (place b : ℕ) (s : List ℕ) (e : Unreadable) → place < length input → s ≡ drop place input → b ≡ get_or input place 0 → Err e ≡ by_letter b s → Some (Err e) ≡ reading input place
cut input place b s e h k l r = reads input place s (Err e) h k (r ∙ ap (λ x. by_letter x s) l)

-- a command that is read leaves the rest behind it, and ends where the rest begins
pub behind : (m : Meaning) (input : List ℕ) (place b : ℕ) (s : List ℕ) (rest : ℕ) → place < length input → s ≡ drop place input → b ≡ get_or input place 0 → Ok (record { meaning = m; bytes = length s - rest }) ≡ by_letter b s → (rest ≤ length input) × (Some (Ok (record { meaning = m; next = length input - rest })) ≡ reading input place)
behind m input place b s rest h k l r =
    let t = r ∙ ap (λ x. by_letter x s) l in
    let some = sized input place s (Ok (record { meaning = m; bytes = length s - rest })) k t in
    let size : length s ≡ length input - place = ap length k ∙ length-drop place input in
    let same : length input - rest ≡ place + (length s - rest) = omega (arith, some.0) in
    (omega (arith, some.0), ap (λ n. Some (Ok (record { meaning = m; next = n }))) same ∙ reads input place s _ h k t)
