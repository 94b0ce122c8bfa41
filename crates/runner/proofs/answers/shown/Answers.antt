use Rattle.std.proofs.Common.{Ok, sym, ap, ◌∙◌, subst}
use Rattle.runner.specs.Answers.{Fitting, reply_shown}
use Rattle.runner.proofs.answers.shown.Goals as goal

pub returns : goal.returns
returns g c = record {
  value = ap Ok c.numbers.ensures.value ∙ sym (ap (reply_shown g.A.Answer.shows) c.in_ok-reply.was);
  room = λ h. c.numbers.ensures.room (subst (Fitting g.A.Answer.fits) c.in_ok-reply.was h);
}
