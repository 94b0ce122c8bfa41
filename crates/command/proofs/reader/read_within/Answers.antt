-- What stands from the place on is read; its length bounds the place behind the command.
use Rattle.std.proofs.Common.{rules}
use Rattle.std.proofs.lemmas.List.{take_rest}
use Rattle.command.proofs.Onward.{behind, cut, refused}
use Rattle.command.proofs.reader.read_within.Goals as goal

pub returns-in_err-letter : goal.returns-in_err-letter
returns-in_err-letter c = let h = refused c.args.input.now c.args.place _ c.requires c.in_err-letter.ensures in search rules

pub returns-in_err-taken : goal.returns-in_err-taken
returns-in_err-taken c =
    let h = cut c.args.input.now c.args.place _ _ _ c.requires (take_rest c.args.input.now c.args.place) c.in_ok-letter.ensures c.in_err-taken.ensures in
    search rules

pub overflow_sub-result : goal.overflow_sub-result
overflow_sub-result c = (behind _ c.args.input.now c.args.place _ _ _ c.requires (take_rest c.args.input.now c.args.place) c.in_ok-letter.ensures c.in_ok-taken.ensures).0

pub returns : goal.returns
returns c = (behind _ c.args.input.now c.args.place _ _ _ c.requires (take_rest c.args.input.now c.args.place) c.in_ok-letter.ensures c.in_ok-taken.ensures).1
