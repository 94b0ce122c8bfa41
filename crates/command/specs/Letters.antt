-- The bytes of the letters.
use Rattle.std.specs.Prelude.{◌≡◌, ℕ, Ok, Err, Result}
use Rattle.command.specs.Table.{byte}
use Rattle.command.specs.declared.letter.Letter.{Letter}
use Rattle.command.specs.declared.letter.Letter.TheVariants.{Add, Withdraw, Open, Bid, Seal, Award, Cancel, Transfer, Return, Curtail, Invoice, Payment, Draw, Payout, Day}
use Rattle.command.specs.declared.unreadable.Unreadable.{Unreadable}
use Rattle.command.specs.declared.unreadable.Unreadable.TheVariants.{UnknownLetter}

-- the byte of a letter
abbrev pub byte_of : Letter → ℕ
byte_of Add = byte "D"
byte_of Withdraw = byte "W"
byte_of Open = byte "O"
byte_of Bid = byte "B"
byte_of Seal = byte "S"
byte_of Award = byte "A"
byte_of Cancel = byte "X"
byte_of Transfer = byte "T"
byte_of Return = byte "R"
byte_of Curtail = byte "C"
byte_of Invoice = byte "I"
byte_of Payment = byte "M"
byte_of Draw = byte "K"
byte_of Payout = byte "Q"
byte_of Day = byte "N"

-- the letter that has this byte, or a refusal where no letter has it
abbrev pub Names : ℕ → Result Letter Unreadable → Type 0
Names b (Ok letter) = byte_of letter ≡ b
Names b (Err e) = (e ≡ UnknownLetter) × ((letter : Letter) → byte_of letter ≡ b → ⊥)
