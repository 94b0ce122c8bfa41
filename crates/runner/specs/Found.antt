-- How the steps of the runner stand for what is to be done.
use Rattle.std.specs.Prelude.{ℕ, Some, None, Ok, Err, Option, Result}
use Rattle.command.specs.Meaning.{meaning_of}
use Rattle.command.specs.declared.reader.Found.{Found}
use Rattle.command.specs.declared.unreadable.Unreadable.{Unreadable}
use Rattle.lines.specs.declared.writer.Line.{Line}
use Rattle.lines.specs.declared.writer.Line.TheVariants.{Granted, Refused}
use Rattle.lines.specs.declared.writer.Numbers.{Numbers}
use Rattle.rules.specs.declared.refusals.Layer.{Layer}
use Rattle.rules.specs.declared.refusals.Layer.TheVariants as layer
use Rattle.runner.specs.declared.outcomes.Refused as refused
use Rattle.runner.specs.Outcomes.{Outcome, cause_of, layer_of, number_of}
use Rattle.runner.specs.Running.{Task, finish, perform, refuse}

abbrev pub task_of : Result (Option Found) Unreadable → Task
task_of (Ok None) = finish
task_of (Ok (Some f)) = perform (record { meaning = meaning_of f.command; next = f.next })
task_of (Err e) = refuse e

-- a cause is shown where the collateral refused
abbrev pub cause_shown : Layer → ℕ → Option ℕ
cause_shown layer.Reader n = None
cause_shown layer.Book n = None
cause_shown layer.Collateral n = Some n

abbrev pub line_shown : ℕ → Result Numbers refused.Refused → Line
line_shown letter (Ok n) = Granted letter n
line_shown letter (Err e) = Refused letter (number_of e) (cause_shown (layer_of e) (cause_of e))

abbrev pub outcome_shown : Result Numbers refused.Refused → Outcome
outcome_shown (Ok n) = Some (Ok tt)
outcome_shown (Err e) = Some (Err e)
