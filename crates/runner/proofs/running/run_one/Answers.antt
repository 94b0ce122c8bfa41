use Rattle.std.proofs.Common.{Ok, sym, refl, ap, ◌∙◌, subst, arith, rules}
use Rattle.runner.specs.Found.{task_of}
use Rattle.runner.specs.Running.{OnwardTo, is_refused}
use Rattle.runner.proofs.Tasks.{answered, page_ends, refused_rests, room_there, runs_as, same_outcome, wrote_nothing}
use Rattle.runner.proofs.running.run_one.Goals as goal

pub returns-then-saturating_sub-lt-LINE_ROOM : goal.returns-then-saturating_sub-lt-LINE_ROOM
returns-then-saturating_sub-lt-LINE_ROOM g c = record {
  value = runs_as _ _ _ _ _ _ _ _ _ (page_ends c.args.input.now c.args.place c.args.page.now c.args.at (omega arith)) (wrote_nothing _ _ _ _, refl);
  refused = λ h. refl;
  within = λ h. h;
  onward = search rules;
}

pub returns-in_default : goal.returns-in_default
returns-in_default g c = record {
  value =
      runs_as _ _ _ _ _ _ _ _ _
      (room_there c.args.input.now c.args.place c.args.page.now c.args.at (omega arith)
      ∙ (sym c.in-Ok.ensures.value ∙ ap (λ n. task_of (Ok n)) c.in_default.is))
      (wrote_nothing _ _ _ _, refl);
  refused = λ h. refl;
  within = λ h. h;
  onward = search rules;
}

pub say-requires : goal.say-requires
say-requires g c = omega (arith, c.answer_line-line.ensures.room c.perform-answer.ensures.room)

pub returns : goal.returns
returns g c =
    let p = c.perform-answer.ensures.value in
    record {
      value =
          runs_as _ _ _ _ _ _ _ _ _
          (room_there c.args.input.now c.args.place c.args.page.now c.args.at (omega arith)
          ∙ (sym c.in-Ok.ensures.value ∙ ap (λ n. task_of (Ok n)) c.in-Some.is))
          (answered _ _ _ _ _ _ c.perform-answer.result c.from.result c.answer_line-line.result _ _ (c.from.ensures ∙ c.letter.ensures) p c.answer_line-line.ensures.value c.outcome.ensures c.say.ensures.after c.say.ensures.value);
      refused = λ h. refused_rests _ _ p.reply _ p.step (sym (ap is_refused (c.outcome.ensures ∙ same_outcome _ _ p.reply p.shows)) ∙ h);
      within = λ h. c.say.ensures.within;
      onward = λ h. subst (λ n. OnwardTo (task_of (Ok n)) c.args.place c.args.input.now) c.in-Some.is c.in-Ok.ensures.within;
    }
