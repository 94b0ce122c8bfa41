use Rattle.std.proofs.Common.{◌≡◌, ◌+◌, ap, refl, ◌∙◌, subst, rules}
use Rattle.std.specs.Iterator.Runs.{ItemsMapToReversed}
use Rattle.std.specs.Option.{option_map_or}
use Rattle.roll.specs.Rolls.{behind}
use Rattle.roll.proofs.Lasts.{last_found}
use Rattle.roll.proofs.places.place_behind.Goals as goal

pub returns-clause-value : goal.returns-clause-value
returns-clause-value g c test k =
    let ran = c.rposition.ensures.runs in
    let p = ran.0 in
    let read = subst (λ s. ItemsMapToReversed p (λ y. y.now) s.rest.now) ran.1 (c.iter.ensures.runs_back p p.seen) in
    let one_on : c.map_or.result ≡ option_map_or (λ i. i + 1) c.rposition.result 0 = search rules in
    one_on ∙ last_found p c.iter.result.rest.now _ _ test read (λ x r called. k x.now r (record { shown = x; shows = refl; says = search rules })) (λ a r f' called. search rules) c.rposition.result c.rposition.ensures.bound ran.2 ∙ ap (behind test) c.iter.ensures.rest
