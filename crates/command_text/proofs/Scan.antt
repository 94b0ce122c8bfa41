-- What a line says, by its first word.
use Rattle.std.proofs.Common.{◌≡◌, ℕ, ◌+◌, ◌-◌, ◌<◌, cond, ◌≢◌, List, [], ◌∷◌, ◌++◌, length, get_or, take, drop, Some, None, Ok, Err, Option, sym, refl, ap, ◌∙◌, arith, ne_eqb}
use Rattle.std.proofs.lemmas.Bool.{cond-false}
use Rattle.std.proofs.lemmas.List.{take_rest}
use Rattle.command.specs.declared.letter.Letter.{Letter}
use Rattle.command.specs.Letters.{byte_of}
use Rattle.command.specs.Table.{Row, table}
use Rattle.command.proofs.Onward.{Unlike, no_row}
use Rattle.command_text.specs.Words.{past_blanks}
use Rattle.command_text.specs.declared.line.Expected.TheVariants as expected
use Rattle.command_text.specs.declared.widths.Unsaid.{Unsaid}
use Rattle.command_text.specs.Lines.{Scanned, by_operands, by_widths, from_word, line_bytes, operand_bytes, said, said_in}

unsaid : (rs : List Row) (l : ℕ) → Unlike rs l → said_in rs l ≡ None
unsaid [] l h = refl
unsaid (r ∷ rs) l h = cond-false _ _ _ (ne_eqb l r.letter (λ e. h.0 (sym e))) ∙ unsaid rs l h.1

-- a line whose first word is no letter of the table
pub line_unsaid : (text front : List ℕ) → 0 < length front → front ≡ past_blanks text → get_or front 0 0 ≢ 35 → ((l : Letter) → byte_of l ≡ get_or front 0 0 → ⊥) → Err expected.Letter ≡ line_bytes text
line_unsaid text [] h e n w = let none : ⊥ = omega arith in absurd none
line_unsaid text (l ∷ rest) h e n w =
    sym (ap from_word (sym e) ∙ ap (λ b. cond b (Ok []) (by_widths l rest (said l))) (ne_eqb l 35 n) ∙ ap (by_widths l rest) (unsaid table l (no_row l w)))

-- a line whose first word is a letter of the table says what its operands say
pub line_said : (text front ws : List ℕ) (l : ℕ) → 0 < length front → front ≡ past_blanks text → get_or front 0 0 ≢ 35 → l ≡ get_or front 0 0 → Some ws ≡ said l → line_bytes text ≡ by_operands l (operand_bytes ws (take (length front - 1) (drop 1 front)))
line_said text [] ws l h e n k w = let none : ⊥ = omega arith in absurd none
line_said text (x ∷ rest) ws l h e n k w =
    ap from_word (sym e)
    ∙ ap (λ b. cond b (Ok []) (by_widths x rest (said x))) (ne_eqb x 35 n)
    ∙ ap (λ y. by_widths y rest (said y)) (sym k)
    ∙ ap (by_widths l rest) (sym w)
    ∙ ap (λ s. by_operands l (operand_bytes ws s)) (sym (take_rest (x ∷ rest) 1))

-- the letter and the operands behind it
pub line_some : (l : ℕ) (p q : List ℕ) (o : Option (List ℕ)) (n : ℕ) → p ≡ l ∷ [] → ((t : List ℕ) → o ≡ Some t → length t ≡ n) → Scanned o p (Ok tt) q → (Ok q ≡ by_operands l o) × (length q ≡ 1 + n)
line_some l p q None n e h s = absurd s
line_some l p q (Some t) n e h s =
    let size = h t refl in
    let same : q ≡ l ∷ t = s ∙ ap (λ x. x ++ t) e in
    (ap Ok same, ap length same ∙ omega arith)

pub line_none : (l : ℕ) (p q : List ℕ) (o : Option (List ℕ)) (e : Unsaid) → Scanned o p (Err e) q → Err (expected.Operands l) ≡ by_operands l o
line_none l p q None e s = refl
line_none l p q (Some t) e s = absurd s
