-- The numbers of an answer have room in a line.
use Rattle.std.proofs.Common.{ℕ, ◌^◌, ◌<◌, ◌≤◌, [], ◌∷◌, length, arith, length-append}
use Rattle.std.proofs.lemmas.Fmt.{length-decimal-le}
use Rattle.lines.specs.Page.{spaced, spaced_one}

-- a space, and at most 20 digits
long : (n : ℕ) → n < 2 ^ 64 → length (spaced_one n) ≤ 21
long n h = let d = length-decimal-le 20 n (omega arith) (omega arith) h in simp length-append (omega arith)

pub one_room : (n : ℕ) → n < 2 ^ 64 → length (spaced (n ∷ [])) ≤ 59
one_room n h = let d = long n h in simp length-append (omega arith)

pub two_room : (m n : ℕ) → m < 2 ^ 64 → n < 2 ^ 64 → length (spaced (m ∷ n ∷ [])) ≤ 59
two_room m n g h =
    let d = long m g in
    let e = long n h in
    simp length-append (omega arith)

-- of three numbers the last has at most 16 digits
pub three_room : (a b c : ℕ) → a < 2 ^ 64 → b < 2 ^ 64 → c ≤ 1000000000000000 → length (spaced (a ∷ b ∷ c ∷ [])) ≤ 59
three_room a b c f g h =
    let i = long a f in
    let j = long b g in
    let k = length-decimal-le 16 c (omega arith) (omega (arith, h)) (omega (arith, h)) in
    simp length-append (omega arith)
