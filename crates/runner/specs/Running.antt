-- Running one command of the input: what it comes to, and what it leaves of the page and the book.
--   place   in the input, counted from 0
--   at      the place in the page where the next line goes
use Rattle.std.specs.Prelude.{◌≡◌, ℕ, ◌+◌, ◌<◌, ◌≤◌, Bool, true, false, cond, List, [], ◌∷◌, length, Some, None, Ok, Err, codes, Option, Result, ◌==◌, nat_lt}
use Rattle.command.specs.Reading.{Understood, reading}
use Rattle.command.specs.Table.{letter_of}
use Rattle.command.specs.declared.unreadable.Unreadable.{Unreadable}
use Rattle.command.specs.declared.unreadable.Unreadable.TheVariants.{UnknownLetter, CutShort, LongFile, PageEnd}
use Rattle.lines.specs.Lines.{line, text_of}
use Rattle.lines.specs.Page.{laid}
use Rattle.lines.specs.declared.writer.Line.TheVariants.{Unread}
use Rattle.rules.specs.Calls.{Call, Reply, numbers}
use Rattle.rules.specs.Moments.{Moment}
use Rattle.rules.specs.Refusals.{cause_of, number_of}
use Rattle.rules.specs.Steps.{Step}
use Rattle.rules.specs.declared.refusals.Refusal.{Refusal}
use Rattle.runner.specs.Calls.{call_of}
use Rattle.runner.specs.Outcomes.{Outcome}
use Rattle.runner.specs.declared.outcomes.Ran.{Ran}
use Rattle.runner.specs.declared.outcomes.Refused.TheVariants.{Reader, Book}

-- WHAT IS TO BE DONE

pub data Task : Type 0 where
  -- the reader refuses
  refuse : Unreadable → Task
  -- there is no command
  finish : Task
  -- a command, and the place behind it
  perform : Understood → Task

abbrev pub as_read : Option (Result Understood Unreadable) → Task
as_read None = finish
as_read (Some (Ok u)) = perform u
as_read (Some (Err e)) = refuse e

-- an input of more than 60,000 bytes is too long
abbrev pub to_read : List ℕ → ℕ → Task
to_read input place = cond (nat_lt 60000 (length input)) (refuse LongFile) (as_read (reading input place))

-- tried in this order: 44 if under 64 bytes of the page remain, 43 if the input is too long, the end or past it, 41, 42, the call
abbrev pub task : List ℕ → ℕ → List ℕ → ℕ → Task
task input place page at = cond (nat_lt (length page) (at + 64)) (refuse PageEnd) (to_read input place)

-- ITS LINE

-- behind number 12 stands the cause
abbrev pub refusal_numbers : Refusal → List ℕ
refusal_numbers e = cond (number_of e == 12) (number_of e ∷ cause_of e ∷ []) (number_of e ∷ [])

-- the letter, `ok` and the numbers of the answer, or `no` and those of the refusal
abbrev pub answer_line : ℕ → (k : Call) → Result (Reply k) Refusal → List ℕ
answer_line letter k (Ok v) = line letter (codes " ok") (numbers k v)
answer_line letter k (Err e) = line letter (codes " no") (refusal_numbers e)

-- `?`, the number and the place of the letter; 60000 in a file that is too long; nothing where the page ends
abbrev pub reader_line : Unreadable → ℕ → List ℕ
reader_line UnknownLetter place = text_of (Unread UnknownLetter place)
reader_line CutShort place = text_of (Unread CutShort place)
reader_line LongFile place = text_of (Unread LongFile 60000)
reader_line PageEnd place = []

-- WHAT IT LEAVES

abbrev pub outcome_of : {A : Type 0} → Result A Refusal → Outcome
outcome_of (Ok v) = Some (Ok tt)
outcome_of (Err e) = Some (Err (Book e))

-- this outcome and these places; the page has the text from `at` on, and all its other bytes stay
pub record Wrote (outcome : Outcome) (place : ℕ) (text page : List ℕ) (at : ℕ) (r : Ran) (page' : List ℕ) : Type 0 where
  pub value : r ≡ record { outcome = outcome; place = place; at = at + length text }
  pub after : page' ≡ laid at text page

-- the call was made with some reply, and its line written
pub record Answers (u : Understood) (page : List ℕ) (at : ℕ) (m : Moment) (r : Ran) (page' : List ℕ) (m' : Moment) : Type 0 where
  pub reply : Result (Reply (call_of u.meaning)) Refusal
  pub step : Step (call_of u.meaning) m reply m'
  pub wrote : Wrote (outcome_of reply) u.next (answer_line (letter_of u.meaning) (call_of u.meaning) reply) page at r page'

-- a refusal of the reader and the end keep the place in the input, and leave the book alone
abbrev pub Runs : Task → ℕ → List ℕ → ℕ → Moment → Ran → List ℕ → Moment → Type 0
Runs (refuse e) place page at m r page' m' = Wrote (Some (Err (Reader e))) place (reader_line e place) page at r page' × (m' ≡ m)
Runs finish place page at m r page' m' = Wrote None place [] page at r page' × (m' ≡ m)
Runs (perform u) place page at m r page' m' = Answers u page at m r page' m'

abbrev pub is_refused : Outcome → Bool
is_refused (Some (Ok u)) = false
is_refused (Some (Err e)) = true
is_refused None = false

-- a command that is understood ends behind its place, and within the input
abbrev pub OnwardTo : Task → ℕ → List ℕ → Type 0
OnwardTo (refuse e) place input = Unit {0}
OnwardTo finish place input = Unit {0}
OnwardTo (perform u) place input = (place < u.next) × (u.next ≤ length input)
