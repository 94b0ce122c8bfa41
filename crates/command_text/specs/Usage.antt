-- The words for what a line should have said.
use Rattle.std.specs.Prelude.{ℕ, cond, List, [], codes, ◌==◌}
use Rattle.command.specs.Table.{byte}
use Rattle.command_text.specs.declared.line.Expected.{Expected}
use Rattle.command_text.specs.declared.line.Expected.TheVariants.{Letter, Operands}

abbrev pub usage_of : ℕ → List ℕ
usage_of l =
    cond (l == (byte "D")) (codes "D participant kind sum last-day, in bytes 1 1 8 2")
    (cond (l == (byte "W")) (codes "W participant sum, in bytes 1 8")
    (cond (l == (byte "O")) (codes "O from to first-hour hours capacity, in bytes 1 1 1 1 2")
    (cond (l == (byte "B")) (codes "B participant auction price MW, in bytes 1 1 4 2")
    (cond (l == (byte "S")) (codes "S auction, in bytes 1")
    (cond (l == (byte "A")) (codes "A auction, in bytes 1")
    (cond (l == (byte "X")) (codes "X auction, in bytes 1")
    (cond (l == (byte "T")) (codes "T giver taker auction first-hour hours MW, in bytes 1 1 1 1 1 2")
    (cond (l == (byte "R")) (codes "R participant out-of-auction into-auction MW, in bytes 1 1 1 2")
    (cond (l == (byte "C")) (codes "C from to first-hour, in bytes 1 1 1, and 24 limits of 2")
    (cond (l == (byte "I")) (codes "I participant, in bytes 1")
    (cond (l == (byte "M")) (codes "M participant sum, in bytes 1 8")
    (cond (l == (byte "K")) (codes "K participant, in bytes 1")
    (cond (l == (byte "Q")) (codes "Q participant, in bytes 1")
    (cond (l == (byte "N")) (codes "N day, in bytes 2")
    []))))))))))))))

abbrev pub wanted : Expected → List ℕ
wanted Letter = codes "one of the letters D W O B S A X T R C I M K Q N"
wanted (Operands l) = usage_of l
