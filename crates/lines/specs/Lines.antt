-- The line that answers a command.
use Rattle.std.specs.Prelude.{ℕ, ◌^◌, ◌<◌, List, [], ◌∷◌, ◌++◌, Some, None, codes, Option}
use Rattle.lines.specs.declared.writer.Line.{Line}
use Rattle.lines.specs.declared.writer.Line.TheVariants.{Granted, Refused, Unread}
use Rattle.lines.specs.Page.{spaced}
use Rattle.lines.specs.declared.writer.Numbers.{Numbers}
use Rattle.lines.specs.declared.writer.Numbers.TheVariants.{Empty, One, Two, Three}
use Rattle.command.specs.Unreadable.{number_of}

-- the letter and its word, the numbers, and a line feed
unfoldable pub line : ℕ → List ℕ → List ℕ → List ℕ
line letter word ns = (letter ∷ word) ++ spaced ns ++ (10 ∷ [])

-- behind the number of a refusal stands its cause, if it has one
abbrev with_cause : ℕ → Option ℕ → List ℕ
with_cause n None = n ∷ []
with_cause n (Some cause) = n ∷ cause ∷ []

abbrev pub numbers_in : Numbers → List ℕ
numbers_in Empty = []
numbers_in (One a) = a ∷ []
numbers_in (Two a b) = a ∷ b ∷ []
numbers_in (Three a b c) = a ∷ b ∷ c ∷ []

-- `ok` with the numbers of the answer, `no` with those of the refusal; `?` with the reader's number and the place
abbrev pub text_of : Line → List ℕ
text_of (Granted letter answer) = line letter (codes " ok") (numbers_in answer)
text_of (Refused letter n cause) = line letter (codes " no") (with_cause n cause)
text_of (Unread refusal place) = line 63 [] (number_of refusal ∷ place ∷ [])

abbrev pub all_below : ℕ → List ℕ → Type 0
all_below n [] = Unit {0}
all_below n (x ∷ xs) = (x < n) × all_below n xs

-- an answer whose numbers are below 10^18, or a refusal whose numbers fit their types
abbrev pub Modest : Line → Type 0
Modest (Granted letter answer) = all_below (10 ^ 18) (numbers_in answer)
Modest (Refused letter n cause) = all_below (2 ^ 8) (with_cause n cause)
Modest (Unread refusal place) = place < 2 ^ 64
