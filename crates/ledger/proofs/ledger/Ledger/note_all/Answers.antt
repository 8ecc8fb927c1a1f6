use Rattle.std.proofs.Common.{◌≡◌, ◌⊎◌, inl, inr, ⊎_elim, map, length, ap, arith}
use Rattle.std.proofs.lemmas.Grind.{common_steps}
use Rattle.events.specs.Events.{event_of}
use Rattle.ledger.specs.Counts.{counted, Grows}
use Rattle.ledger.proofs.Histories.{holds_on}
use Rattle.ledger.proofs.Known.{keeps_on, names_before, first_names, later_names, on_err_too}
use Rattle.ledger.proofs.Adding.{left_after_one, left_at_the_end}
use Rattle.ledger.proofs.ledger.Ledger.note_all.Goals as goal

pub loop-event-init : goal.loop-event-init
loop-event-init c = (λ k. grind (arith, common_steps), (λ n h. h, λ n h. h, λ g h. h), grind (arith, common_steps))

pub loop-event-preserved : goal.loop-event-preserved
loop-event-preserved c = (
  λ k.
      left_after_one k _ _ _ _ _ _ _ _ _ c.in-Some.ensures.steps.0 c.in-Some.ensures.steps.1 (c.in_ok-note.ensures.each_number_by_the_laws k) (c.loop-event.invariant.0 k),
  keeps_on c.args.self.now c.loop-event.self c.note.new.self c.loop-event.invariant.1 c.in_ok-note.ensures.known_stays_known,
  λ h. c.loop-event.invariant.2 (later_names c.args.self.now _ _ _ _ _ _ (ap (map event_of) c.in-Some.ensures.steps.0) c.in-Some.ensures.steps.1 h),
)

pub returns : goal.returns
returns c =
    let over : (length c.loop-event.event-iterator.a.rest.now ≡ 0) ⊎ (length c.loop-event.event-iterator.b.rest.now ≡ 0) = ⊎_elim (λ x. inl x.1.0) (λ x. inr x.1.0) c.in-None.ensures.steps in
    let grows : Grows c.args.self.now c.loop-event.self (λ k. counted k (map event_of c.args.events.now) c.args.answers.now) = λ k. left_at_the_end k _ _ _ _ over (c.loop-event.invariant.0 k) in
    record { each_number_by_the_laws = grows; every_history_goes_on = holds_on c.args.self.now c.loop-event.self (map event_of c.args.events.now) c.args.answers.now grows; only_what_is_new_wants_memory = tt }

pub returns-in_err-note-clause-only_what_is_new_wants_memory : goal.returns-in_err-note-clause-only_what_is_new_wants_memory
returns-in_err-note-clause-only_what_is_new_wants_memory c =
    let named = names_before c.args.self.now c.loop-event.self (event_of c.in-Some.event.now) c.in-Some.answer.now c.loop-event.invariant.1 c.in_err-note.ensures.only_what_is_new_wants_memory in
    on_err_too c.from_residual.result (c.loop-event.invariant.2 (first_names c.args.self.now _ _ _ _ _ _ (ap (map event_of) c.in-Some.ensures.steps.0) c.in-Some.ensures.steps.1 named))
