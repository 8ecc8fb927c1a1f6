use Rattle.std.proofs.Common.{List, map, subst, sym, ◌∙◌}
use Rattle.std.proofs.Math.Logic.{∥∥₁_map}
use Rattle.calls.specs.declared.answers.Answer.{Answer}
use Rattle.events.specs.Events.{event_of}
use Rattle.ledger.specs.Histories.{HoldsOn}
use Rattle.scripts.proofs.Keeping.{kept_on, goes_on}
use Rattle.scripts.proofs.Taking.{places_stay}
use Rattle.scripts.proofs.play.Play.run.Goals as goal

pub invariant_of-play : goal.invariant_of-play
invariant_of-play g c =
    let noted = subst (λ (answers : List Answer). HoldsOn c.args.self.ledger (map event_of c.args.events.now) answers c.note_all.new.self) c.as_slice.ensures.value c.in_ok-note_all.ensures.every_history_goes_on in
    let stay = places_stay c.in_ok-answers.ensures.steps_by_the_rules in
    record {
      all_the_places = (c.args.self.all_the_places.0 ∙ sym stay.0, c.args.self.all_the_places.1 ∙ sym stay.1);
      under_the_law = ∥∥₁_map c.args.self.under_the_law (kept_on c.in_ok-answers.ensures.every_history_goes_on_and_the_laws_hold noted);
    }

pub returns-clause-the_ledger_goes_on : goal.returns-clause-the_ledger_goes_on
returns-clause-the_ledger_goes_on g c =
    let noted = subst (λ (answers : List Answer). HoldsOn c.args.self.ledger (map event_of c.args.events.now) answers c.note_all.new.self) c.as_slice.ensures.value c.in_ok-note_all.ensures.every_history_goes_on in
    goes_on c.args.self.ledger c.note_all.new.self c.in_ok-answers.ensures.every_history_goes_on_and_the_laws_hold noted
