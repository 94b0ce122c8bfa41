-- What a command leaves, once it is known what is to be done.
use Rattle.std.proofs.Common.{◌≡◌, ℕ, ◌+◌, ◌<◌, ◌≤◌, true, List, [], length, Ok, Err, codes, Result, sym, refl, ap, ◌∙◌, subst, add-zero, arith}
use Rattle.std.proofs.lemmas.Bool.Decides.{nat_tests}
use Rattle.command.specs.Reading.{Understood, reading}
use Rattle.command.specs.Table.{letter_of}
use Rattle.command.specs.declared.unreadable.Unreadable.TheVariants.{PageEnd}
use Rattle.lines.specs.Lines.{line, numbers_in, text_of}
use Rattle.lines.specs.Page.{laid}
use Rattle.lines.specs.declared.writer.Line.{Line}
use Rattle.lines.specs.declared.writer.Numbers.{Numbers}
use Rattle.lines.proofs.Lay.{laid_none}
use Rattle.rules.specs.Calls.{Call, Reply, numbers}
use Rattle.rules.specs.Moments.{Moment, seen}
use Rattle.rules.specs.Steps.{Step}
use Rattle.rules.specs.declared.refusals.Refusal.{Refusal}
use Rattle.rules.specs.declared.refusals.Refusal.TheVariants.{Participant, Zone, Unopened, Stage, Hours, Amount, Full, Capacity, Holding, AboveLimit, Day, Collateral, Nothing, TooMuch, Parties, NoCover}
use Rattle.rules.proofs.Promises.{refusals_change_nothing}
use Rattle.runner.specs.Answers.{reply_shown, shown_of}
use Rattle.runner.specs.Calls.{Performed, call_of}
use Rattle.runner.specs.Found.{line_shown, outcome_shown}
use Rattle.runner.specs.Running.{Answers, Runs, Task, Wrote, answer_line, as_read, is_refused, outcome_of, refusal_numbers, refuse, task, to_read}
use Rattle.runner.specs.Outcomes.{Outcome}
use Rattle.runner.specs.declared.outcomes.Ran.{Ran}
use Rattle.runner.specs.declared.outcomes.Refused.{Refused}
use Rattle.runner.specs.declared.outcomes.Refused.TheVariants.{Book}

pub runs_as : (t u : Task) (place : ℕ) (page : List ℕ) (at : ℕ) (m : Moment) (r : Ran) (page' : List ℕ) (m' : Moment) → t ≡ u →
    Runs u place page at m r page' m' → Runs t place page at m r page' m'
runs_as t u place page at m r page' m' e h = let P : Task → Type 0 = λ k. Runs k place page at m r page' m' in subst P (sym e) h

pub page_ends : (input : List ℕ) (place : ℕ) (page : List ℕ) (at : ℕ) → length page < at + 64 → task input place page at ≡ refuse PageEnd
page_ends input place page at h = grind (arith, nat_tests)

pub room_there : (input : List ℕ) (place : ℕ) (page : List ℕ) (at : ℕ) → at + 64 ≤ length page → task input place page at ≡ to_read input place
room_there input place page at h = grind (arith, nat_tests)

pub short_enough : (input : List ℕ) (place : ℕ) → length input ≤ 60000 → to_read input place ≡ as_read (reading input place)
short_enough input place h = grind (arith, nat_tests)

pub wrote_nothing : (o : Outcome) (place : ℕ) (page : List ℕ) (at : ℕ) → Wrote o place [] page at (record { outcome = o; place = place; at = at }) page
wrote_nothing o place page at = record { value = ap (λ (n : ℕ). let r : Ran = record { outcome = o; place = place; at = n } in r) (sym (add-zero at)); after = sym (laid_none at page) }

-- what is shown of a reply says whether it was granted
pub same_outcome : (k : Call) (r : Result Numbers Refused) (reply : Result (Reply k) Refusal) → shown_of r ≡ reply_shown (numbers k) reply → outcome_shown r ≡ outcome_of reply
same_outcome k (Ok n) (Ok v) e = refl
same_outcome k (Ok n) (Err x) e = absurd (let z : ◌≡◌ {A = ℕ} 0 1 = cc in omega arith)
same_outcome k (Err y) (Ok v) e = absurd (let z : ◌≡◌ {A = ℕ} 0 1 = cc in omega arith)
same_outcome k (Err y) (Err x) e = cc

refusal_line : (letter : ℕ) (e : Refusal) → text_of (line_shown letter (Err (Book e))) ≡ line letter (codes " no") (refusal_numbers e)
refusal_line letter Participant = refl
refusal_line letter Zone = refl
refusal_line letter Unopened = refl
refusal_line letter Stage = refl
refusal_line letter Hours = refl
refusal_line letter Amount = refl
refusal_line letter Full = refl
refusal_line letter Capacity = refl
refusal_line letter Holding = refl
refusal_line letter AboveLimit = refl
refusal_line letter Day = refl
refusal_line letter (Collateral cause) = refl
refusal_line letter Nothing = refl
refusal_line letter TooMuch = refl
refusal_line letter Parties = refl
refusal_line letter NoCover = refl

-- and its line is that of the reply
pub same_line : (letter : ℕ) (k : Call) (r : Result Numbers Refused) (reply : Result (Reply k) Refusal) → shown_of r ≡ reply_shown (numbers k) reply →
    text_of (line_shown letter r) ≡ answer_line letter k reply
same_line letter k (Ok n) (Ok v) e = let f : numbers_in n ≡ numbers k v = cc in ap (line letter (codes " ok")) f
same_line letter k (Ok n) (Err x) e = absurd (let z : ◌≡◌ {A = ℕ} 0 1 = cc in omega arith)
same_line letter k (Err y) (Ok v) e = absurd (let z : ◌≡◌ {A = ℕ} 0 1 = cc in omega arith)
same_line letter k (Err y) (Err x) e = let f : y ≡ Book x = cc in ap (λ z. text_of (line_shown letter (Err z))) f ∙ refusal_line letter x

-- a command was performed, and its line written
pub answered : (u : Understood) (page : List ℕ) (at : ℕ) (m : Moment) (page' : List ℕ) (m' : Moment) (shown : Result Numbers Refused) (letter : ℕ) (said : Line) (o : Outcome) (end : ℕ) →
    letter ≡ letter_of u.meaning → Performed (call_of u.meaning) m shown m' → said ≡ line_shown letter shown → o ≡ outcome_shown shown →
    page' ≡ laid at (text_of said) page → end ≡ at + length (text_of said) → Answers u page at m (record { outcome = o; place = u.next; at = end }) page' m'
answered u page at m page' m' shown letter said o end el p es eo ep en =
    let text : List ℕ = answer_line (letter_of u.meaning) (call_of u.meaning) p.reply in
    let t : text_of said ≡ text = ap text_of es ∙ (same_line letter (call_of u.meaning) shown p.reply p.shows ∙ ap (λ l. answer_line l (call_of u.meaning) p.reply) el) in
    let f : o ≡ outcome_of p.reply = eo ∙ same_outcome (call_of u.meaning) shown p.reply p.shows in
    let n : end ≡ at + length text = en ∙ ap (λ t. at + length t) t in
    record {
      reply = p.reply;
      step = p.step;
      wrote = record { value = ap (λ (x : Outcome). let r : Ran = record { outcome = x; place = u.next; at = end } in r) f ∙ ap (λ (k : ℕ). let r : Ran = record { outcome = outcome_of p.reply; place = u.next; at = k } in r) n; after = ep ∙ ap (λ t. laid at t page) t };
    }

same_moment : (m m' : Moment) → m'.ledger ≡ m.ledger → m'.cover ≡ m.cover → m'.verdict ≡ m.verdict → m' ≡ m
same_moment m m' l c v =
    ap (λ k. seen k m'.cover m'.verdict) l
    ∙ (ap (λ k. seen m.ledger k m'.verdict) c ∙ ap (λ k. seen m.ledger m.cover k) v)

-- a call that the book refuses changes nothing
pub refused_rests : (k : Call) (m : Moment) (reply : Result (Reply k) Refusal) (m' : Moment) → Step k m reply m' → is_refused (outcome_of reply) ≡ true → m' ≡ m
refused_rests k m (Ok v) m' s h = absurd (let z : ◌≡◌ {A = ℕ} 0 1 = cc in omega arith)
refused_rests k m (Err e) m' s h = let t = refusals_change_nothing k m (Err e) m' s refl in same_moment m m' t.0 t.1 t.2
