-- What a line is written as, the reader reads as one whole command.
use Rattle.std.proofs.Common.{◌≡◌, ℕ, zero, suc, ◌+◌, ◌≤◌, Bool, true, false, cond, eqb, List, [], ◌∷◌, ◌++◌, length, get_or, take, drop, replicate, Some, None, Ok, Option, Result, sym, refl, ap, ◌∙◌, subst, arith, length-append, length-drop, eqb-true, le-leb}
use Rattle.command.specs.declared.unreadable.Unreadable.{Unreadable}
use Rattle.std.proofs.lemmas.Bool.{cond-true, cond_both}
use Rattle.std.proofs.lemmas.List.{get_or_append_left, drop-append-le, take-append-le}
use Rattle.command.specs.Meaning.{Meaning}
use Rattle.command.specs.Table.{Row, begins, number_at, part, table, total}
use Rattle.command.specs.Reading.{Read, by_letter, by_rows, whole}
use Rattle.encoder.specs.Encoding.{big_endian}
use Rattle.encoder.proofs.Back.{length_big_endian, placed}
use Rattle.command_text.specs.Words.{past_blanks, past_digits, value_on}
use Rattle.command_text.specs.Lines.{OneCommand, behind, by_operands, by_widths, ends, from_word, in_text, line_bytes, operand_bytes, said, said_in}

abbrev Got : ℕ → Result Read Unreadable → Type 0
Got n r = (m : Meaning) × (r ≡ Ok (record { meaning = m; bytes = n }))

total_append : (us ws : List ℕ) → total (us ++ ws) ≡ total us + total ws
total_append [] ws = omega arith
total_append (u ∷ us) ws = let k = total_append us ws in omega arith

-- the limits are as wide one by one as together
total_in_text : (ws : List ℕ) → total (in_text ws) ≡ total ws
total_in_text [] = refl
total_in_text (w ∷ ws) =
    let here : total (cond (eqb w 48) (replicate 24 2) (w ∷ [])) ≡ w = cond_both (eqb w 48) _ _ (λ t. total t ≡ w) (λ e. sym (eqb-true w 48 e)) (λ _. omega arith) in
    let rest = total_in_text ws in
    total_append (cond (eqb w 48) (replicate 24 2) (w ∷ [])) (in_text ws) ∙ omega arith

got_whole : (r : Row) (s : List ℕ) (n : ℕ) → n ≡ 1 + total r.widths → n ≤ length s → Got n (whole r s)
got_whole r s n e h = subst (λ k. Got k (whole r s)) (sym e) (_, cond-true _ _ _ (le-leb (1 + total r.widths) (length s) (omega arith)))

got_row : (b : Bool) (r : Row) (o : Option (List ℕ)) (x : Result Read Unreadable) (s ws : List ℕ) → cond b (Some (in_text r.widths)) o ≡ Some ws → 1 + total ws ≤ length s → (o ≡ Some ws → Got (1 + total ws) x) → Got (1 + total ws) (cond b (whole r s) x)
got_row true r o x s ws e h k =
    let same : in_text r.widths ≡ ws = cc in
    let size = sym (ap total same) ∙ total_in_text r.widths in
    got_whole r s (1 + total ws) (omega arith) h
got_row false r o x s ws e h k = k e

-- a letter of the table, with bytes enough for its operands, is read
got_rows : (rs : List Row) (l : ℕ) (s ws : List ℕ) → said_in rs l ≡ Some ws → 1 + total ws ≤ length s → Got (1 + total ws) (by_rows rs l s)
got_rows [] l s ws e h = let none : ◌≡◌ {A = ℕ} 0 1 = cc in absurd (omega arith)
got_rows (r ∷ rs) l s ws e h = got_row (eqb l r.letter) r (said_in rs l) (by_rows rs l s) s ws e h (λ k. got_rows rs l s ws k h)

-- the operands of a command end where it ends
begins_within : (ws : List ℕ) (at k : ℕ) → begins ws at k + get_or ws k 0 ≤ at + total ws
begins_within [] at k = omega arith
begins_within (w ∷ ws) at zero = omega arith
begins_within (w ∷ ws) at (suc k) = omega (arith, begins_within ws (at + w) k)

-- so what follows says nothing of them
number_more : (s rest : List ℕ) (at w : ℕ) → at + w ≤ length s → number_at (s ++ rest) at w ≡ number_at s at w
number_more s rest at zero h = refl
number_more s rest at (suc w) h =
    let first = get_or_append_left s rest 0 at (omega arith) in
    let more = number_more s rest (suc at) w (omega arith) in
    cc

part_more : (s rest : List ℕ) (at w : ℕ) → at + w ≤ length s → part at w (s ++ rest) ≡ part at w s
unfolding part
part_more s rest at w h =
    let long = length-drop at s in
    ap (take w) (drop-append-le at s rest (omega arith)) ∙ take-append-le w (drop at s) rest (omega arith)

whole_more : (r : Row) (s rest : List ℕ) → 1 + total r.widths ≤ length s → whole r (s ++ rest) ≡ whole r s
whole_more r s rest h =
    let room : 1 + total r.widths ≤ length (s ++ rest) = simp length-append (omega arith) in
    let e : (k : ℕ) → number_at (s ++ rest) (begins r.widths 1 k) (get_or r.widths k 0) ≡ number_at s (begins r.widths 1 k) (get_or r.widths k 0) = λ k. number_more s rest _ _ (omega (arith, begins_within r.widths 1 k)) in
    let f : (k : ℕ) → part (begins r.widths 1 k) (get_or r.widths k 0) (s ++ rest) ≡ part (begins r.widths 1 k) (get_or r.widths k 0) s = λ k. part_more s rest _ _ (omega (arith, begins_within r.widths 1 k)) in
    cond-true _ _ _ (le-leb (1 + total r.widths) (length (s ++ rest)) room)
    ∙ (λ i. Ok (record { meaning = r.says (λ k. e k i) (λ k. f k i); bytes = 1 + total r.widths }))
    ∙ sym (cond-true _ _ _ (le-leb (1 + total r.widths) (length s) h))

more_row : (b : Bool) (r : Row) (o : Option (List ℕ)) (x y : Result Read Unreadable) (s rest ws : List ℕ) → cond b (Some (in_text r.widths)) o ≡ Some ws → 1 + total ws ≤ length s → (o ≡ Some ws → x ≡ y) → cond b (whole r (s ++ rest)) x ≡ cond b (whole r s) y
more_row true r o x y s rest ws e h k =
    let same : in_text r.widths ≡ ws = cc in
    let size = sym (ap total same) ∙ total_in_text r.widths in
    whole_more r s rest (omega arith)
more_row false r o x y s rest ws e h k = k e

-- a command that is there whole is read as it is, whatever follows
rows_more : (rs : List Row) (l : ℕ) (s rest ws : List ℕ) → said_in rs l ≡ Some ws → 1 + total ws ≤ length s → by_rows rs l (s ++ rest) ≡ by_rows rs l s
rows_more [] l s rest ws e h = let none : ◌≡◌ {A = ℕ} 0 1 = cc in absurd (omega arith)
rows_more (r ∷ rs) l s rest ws e h = more_row (eqb l r.letter) r (said_in rs l) _ _ s rest ws e h (λ k. rows_more rs l s rest ws k h)

long_behind : (w n : ℕ) (o : Option (List ℕ)) (t : List ℕ) (k : ℕ) → behind (big_endian w n) o ≡ Some t → ((u : List ℕ) → o ≡ Some u → length u ≡ k) → length t ≡ w + k
long_behind w n None t k e f = let none : ◌≡◌ {A = ℕ} 0 1 = cc in absurd (omega arith)
long_behind w n (Some u) t k e f =
    let same : big_endian w n ++ u ≡ t = cc in
    let size = f u refl in
    let here = length_big_endian w n in
    sym (ap length same) ∙ length-append (big_endian w n) u ∙ omega arith

if_some : (b : Bool) (o : Option (List ℕ)) (t : List ℕ) → cond b o None ≡ Some t → o ≡ Some t
if_some true o t e = e
if_some false o t e = let none : ◌≡◌ {A = ℕ} 0 1 = cc in absurd (omega arith)

-- the operands take as many bytes as their widths say
pub length_operands : (ws text t : List ℕ) → operand_bytes ws text ≡ Some t → length t ≡ total ws
length_operands [] text t e = let same = if_some (ends (past_blanks text)) (Some []) t e in let nil : [] ≡ t = cc in sym (ap length nil)
length_operands (w ∷ ws) text t e =
    let s = past_blanks text in
    long_behind w (value_on 0 s) (operand_bytes ws (past_digits s)) t (total ws) (if_some _ _ t e) (λ u k. length_operands ws (past_digits s) u k)

operands_command : (l : ℕ) (ws : List ℕ) (o : Option (List ℕ)) → said l ≡ Some ws → ((t : List ℕ) → o ≡ Some t → length t ≡ total ws) → OneCommand (by_operands l o)
operands_command l ws None e f = tt
operands_command l ws (Some t) e f =
    let s : List ℕ = l ∷ t in
    let size = f t refl in
    let all : 1 + total ws ≡ length s = omega arith in
    let g = subst (λ n. Got n (by_letter l s)) all (got_rows table l s ws e (omega arith)) in
    (g.0, λ before rest. placed before (s ++ rest) _ (simp length-append (omega arith)) (rows_more table l s rest ws e (omega arith) ∙ g.1))

widths_command : (l : ℕ) (text : List ℕ) (o : Option (List ℕ)) → said l ≡ o → OneCommand (by_widths l text o)
widths_command l text None e = tt
widths_command l text (Some ws) e = operands_command l ws (operand_bytes ws text) e (λ t k. length_operands ws text t k)

word_command : (s : List ℕ) → OneCommand (from_word s)
word_command [] = tt
word_command (l ∷ text) = cond_both (eqb l 35) _ _ OneCommand (λ _. tt) (λ _. widths_command l text (said l) refl)

pub one_command : (text : List ℕ) → OneCommand (line_bytes text)
one_command text = word_command (past_blanks text)
