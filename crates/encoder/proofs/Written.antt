-- A command written in parts, one behind the other.
use Rattle.std.proofs.Common.{◌≡◌, ℕ, suc, ◌%◌, ◌<◌, ◌≤◌, List, [], ◌∷◌, ◌++◌, length, get_or, sym, refl, ap, ◌∙◌, subst, mod-eq_of_lt, arith}
use Rattle.command.specs.declared.commands.Command.{Command}
use Rattle.command.specs.Meaning.{Meaning, meaning_of, adds, withdraws, opens, bids, seals, awards, cancels, transfers, gives_back, curtails, invoices, pays, draws, pays_out, moves_day}
use Rattle.command.specs.Table.{letter_of, total}
use Rattle.encoder.specs.Encoding.{Encoded, Fitting, ReadsBack, encoding, one_byte_each, operand_bytes, widths_of}
use Rattle.encoder.proofs.Back.{reads_back}

-- bytes are what they are
pub bytes_stay : (bs : List ℕ) → ((k : ℕ) → get_or bs k 0 < 256) → one_byte_each bs ≡ bs
bytes_stay [] h = refl
bytes_stay (b ∷ bs) h = ap (λ x. x ∷ one_byte_each bs) (mod-eq_of_lt (h 0)) ∙ ap (λ t. b ∷ t) (bytes_stay bs (λ k. h (suc k)))

-- a letter is a byte, and a command of its operands has room
letter_stays : (m : Meaning) → (letter_of m % 256 ≡ letter_of m) × (total (widths_of (letter_of m)) ≤ 51)
letter_stays (adds p kind sum last) = (refl, omega arith)
letter_stays (withdraws p sum) = (refl, omega arith)
letter_stays (opens from to first hours capacity) = (refl, omega arith)
letter_stays (bids p a price mw) = (refl, omega arith)
letter_stays (seals a) = (refl, omega arith)
letter_stays (awards a) = (refl, omega arith)
letter_stays (cancels a) = (refl, omega arith)
letter_stays (transfers giver taker a first hours mw) = (refl, omega arith)
letter_stays (gives_back p out into mw) = (refl, omega arith)
letter_stays (curtails from to first limits) = (refl, omega arith)
letter_stays (invoices p) = (refl, omega arith)
letter_stays (pays p sum) = (refl, omega arith)
letter_stays (draws p) = (refl, omega arith)
letter_stays (pays_out p) = (refl, omega arith)
letter_stays (moves_day day) = (refl, omega arith)

encoded : (m : Meaning) (bytes : List ℕ) → Fitting m → bytes ≡ encoding m → Encoded m bytes
unfolding encoding
encoded m bytes f e =
    let size = ap length e in
    let room = (letter_stays m).1 in
    record { value = e; within = omega (arith, f.1); back = subst (ReadsBack m) (sym e) (reads_back m f) }

-- u and w are the wider operands as the code has them, u' and w' as the encoding has them
pub written : (x : Command) (m : Meaning) (l : ℕ) (narrow u u' w w' bytes : List ℕ) → meaning_of x ≡ m → l ≡ letter_of (meaning_of x) → Fitting m → u ≡ u' → w ≡ w' → operand_bytes m ≡ one_byte_each narrow ++ u' ++ w' → bytes ≡ one_byte_each (l ∷ narrow) ++ u ++ w → Encoded (meaning_of x) bytes
unfolding encoding
written x m l narrow u u' w w' bytes e k f a b o h =
    let letter : l % 256 ≡ letter_of m = ap (λ n. n % 256) (k ∙ ap letter_of e) ∙ (letter_stays m).0 in
    let parts : one_byte_each narrow ++ u ++ w ≡ operand_bytes m = ap (λ t. one_byte_each narrow ++ t ++ w) a ∙ ap (λ t. one_byte_each narrow ++ u' ++ t) b ∙ sym o in
    subst (λ n. Encoded n bytes) (sym e) (encoded m bytes f (h ∙ ap (λ n. n ∷ (one_byte_each narrow ++ u ++ w)) letter ∙ ap (λ t. letter_of m ∷ t) parts))
