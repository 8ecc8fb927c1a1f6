use Rattle.std.proofs.Common.{refl}
use Rattle.ledger.proofs.Known.{keeps_on, call_names, on_err_too}
use Rattle.ledger.proofs.Adding.{grows_by_a_call, grows_by_all}
use Rattle.ledger.proofs.ledger.Ledger.note_calls.Goals as goal

pub loop-call-init : goal.loop-call-init
loop-call-init c = (λ k. refl, (λ n h. h, λ n h. h, λ g h. h))

pub loop-call-preserved : goal.loop-call-preserved
loop-call-preserved c = (
  grows_by_a_call c.args.self.now c.loop-call.self c.note_call.new.self c.args.calls.now c.loop-call.call-index _ c.loop-call-test.true c.loop-call.invariant.0 c.in_ok-note_call.ensures.held_and_owed,
  keeps_on c.args.self.now c.loop-call.self c.note_call.new.self c.loop-call.invariant.1 c.in_ok-note_call.ensures.known_stays_known,
)

pub returns : goal.returns
returns c = record { held_and_owed = grows_by_all c.args.self.now c.loop-call.self c.args.calls.now c.loop-call.call-index c.loop-call-test.false c.loop-call.invariant.0; only_what_is_new_wants_memory = tt }

pub returns-in_err-note_call-clause-only_what_is_new_wants_memory : goal.returns-in_err-note_call-clause-only_what_is_new_wants_memory
returns-in_err-note_call-clause-only_what_is_new_wants_memory c =
    on_err_too c.from_residual.result (call_names c.args.self.now c.loop-call.self c.args.calls.now c.loop-call.call-index _ c.loop-call.invariant.1 c.loop-call-test.true c.in_err-note_call.ensures.only_what_is_new_wants_memory)
