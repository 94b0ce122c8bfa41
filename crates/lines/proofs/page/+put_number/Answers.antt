use Rattle.std.proofs.Common.{◌≡◌, ℕ, ◌+◌, ◌/◌, ◌^◌, ◌<◌, ◌≤◌, length, decimal, ap, length-append, rules}
use Rattle.std.proofs.lemmas.Fmt.{decimal_digit, decimal_step}
use Rattle.lines.proofs.Lay.{laid_laid}
use Rattle.lines.proofs.page.+put_number.Goals as goal

pub put_text-requires : goal.put_text-requires
put_text-requires t c = search (rules, decimal_digit)

pub returns-then-n-lt10 : goal.returns-then-n-lt10
returns-then-n-lt10 t c = search (rules, decimal_digit)

longer : (n : ℕ) → 10 ≤ n → n < 2 ^ 64 → length (decimal n) ≡ length (decimal (n / 10)) + 1
longer n h k = simp length-append at (ap length (decimal_step n h k))

pub put_number-last-requires : goal.put_number-last-requires
put_number-last-requires t c = search (rules, longer)

pub put_text-requires-2 : goal.put_text-requires-2
put_text-requires-2 t c = search (rules, longer)

pub returns : goal.returns
returns t c = search (rules, longer, decimal_step, laid_laid)
