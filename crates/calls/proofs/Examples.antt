-- The collisions, each step with a channel that is idle and a place that is free.
use Rattle.std.proofs.Common.{◌≡◌, ℕ, Bool, true, false, cond, eqb, List, [], ◌∷◌, ◌++◌, Some, None, refl, lit≤}
use Rattle.messages.specs.Laws.{setup417_octets}
use Rattle.messages.proofs.RoundTrip.{layout_examples}
use Rattle.pools.specs.declared.channel.ChannelState.TheVariants.{Unknown, Idle, Seized}
use Rattle.pools.specs.States.{idle}
use Rattle.calls.specs.Records.{Answer}
use Rattle.calls.specs.Rules.{Event, Exchange, Invite, TakeExchange, TakeSip, State, Choice, Fair, outcome, settled, answer_of, Stepping, no_step, next_step}
use Rattle.calls.specs.Examples.{answered_on, opened, seven_and_nine, seven_alone, digits, disconnect, unavailable, AnsweredAfterCancel, AnsweredTwice, TriedOnAnother, TriedInVain, Collisions, Examples}
use Rattle.calls.proofs.Always.{way, always_after_cancel, always_twice}

-- one event more
then : {entry st : State} {evs : List Event} {ans : List Answer} → Stepping entry evs ans st → (ch : Choice) (ev : Event) → Fair st ch → Stepping entry (evs ++ ev ∷ []) (ans ++ answer_of st (outcome st ch ev) ∷ []) (settled st (outcome st ch ev))
then {entry} {st} s ch ev fair = next_step ev (answer_of st (outcome st ch ev)) s (record { choice = ch; fair = fair; answer = refl; after = refl })

-- channel c is picked, or none, and place i
abbrev on : ℕ → ℕ → Choice
on c i = record { pick = Some c; place = Some i }

abbrev nobody : ℕ → Choice
nobody i = record { pick = None; place = Some i }

-- once channel 7 is seized, none of that pool is idle
busy : (k : ℕ) → idle (cond (eqb k 7) Seized (seven_alone k)) ≡ false
busy k = go (eqb k 7)
  where
    go : (b : Bool) → idle (cond b Seized (cond b Idle Unknown)) ≡ false
    go true = refl
    go false = refl

answered_after_cancel : AnsweredAfterCancel
answered_after_cancel = record {
  some =
      let s0 : Stepping (opened seven_and_nine) [] [] (opened seven_and_nine) = no_step in
      let s1 = then s0 (on 7 0) (Exchange setup417_octets) (record { pick = refl; place = (lit≤ tt, refl) }) in
      let s2 = then s1 (on 9 1) (Exchange disconnect) (record { pick = refl; place = (lit≤ tt, refl) }) in
      let s3 = then s2 (on 9 1) (answered_on 1) (record { pick = refl; place = (lit≤ tt, refl) }) in
      let s4 = then s3 (on 9 1) TakeExchange (record { pick = refl; place = (lit≤ tt, refl) }) in
      let s5 = then s4 (on 9 1) TakeExchange (record { pick = refl; place = (lit≤ tt, refl) }) in
      let s6 = then s5 (on 9 1) TakeExchange (record { pick = refl; place = (lit≤ tt, refl) }) in
      let s7 = then s6 (on 9 1) TakeSip (record { pick = refl; place = (lit≤ tt, refl) }) in
      let s8 = then s7 (on 9 1) TakeSip (record { pick = refl; place = (lit≤ tt, refl) }) in
      let s9 = then s8 (on 9 1) TakeSip (record { pick = refl; place = (lit≤ tt, refl) }) in
      let s10 = then s9 (on 9 1) TakeSip (record { pick = refl; place = (lit≤ tt, refl) }) in
      let s11 = then s10 (on 9 1) TakeSip (record { pick = refl; place = (lit≤ tt, refl) }) in
      record { exit = _; steps = s11; at_exit = refl };
  all = λ given exit steps. always_after_cancel.tells given exit (way steps);
}

answered_twice : AnsweredTwice
answered_twice = record {
  some =
      let s0 : Stepping (opened seven_and_nine) [] [] (opened seven_and_nine) = no_step in
      let s1 = then s0 (on 7 0) (Exchange setup417_octets) (record { pick = refl; place = (lit≤ tt, refl) }) in
      let s2 = then s1 (on 9 1) (answered_on 1) (record { pick = refl; place = (lit≤ tt, refl) }) in
      let s3 = then s2 (on 9 1) (answered_on 2) (record { pick = refl; place = (lit≤ tt, refl) }) in
      let s4 = then s3 (on 9 1) TakeExchange (record { pick = refl; place = (lit≤ tt, refl) }) in
      let s5 = then s4 (on 9 1) TakeExchange (record { pick = refl; place = (lit≤ tt, refl) }) in
      let s6 = then s5 (on 9 1) TakeExchange (record { pick = refl; place = (lit≤ tt, refl) }) in
      let s7 = then s6 (on 9 1) TakeSip (record { pick = refl; place = (lit≤ tt, refl) }) in
      let s8 = then s7 (on 9 1) TakeSip (record { pick = refl; place = (lit≤ tt, refl) }) in
      let s9 = then s8 (on 9 1) TakeSip (record { pick = refl; place = (lit≤ tt, refl) }) in
      let s10 = then s9 (on 9 1) TakeSip (record { pick = refl; place = (lit≤ tt, refl) }) in
      let s11 = then s10 (on 9 1) TakeSip (record { pick = refl; place = (lit≤ tt, refl) }) in
      record { exit = _; steps = s11; at_exit = refl };
  all = λ given exit steps. always_twice.tells given exit (way steps);
}

tried_on_another : TriedOnAnother
tried_on_another =
    let s0 : Stepping (opened seven_and_nine) [] [] (opened seven_and_nine) = no_step in
    let s1 = then s0 (on 7 0) (Invite 30 70 digits) (record { pick = refl; place = (lit≤ tt, refl) }) in
    let s2 = then s1 (on 9 1) (Exchange unavailable) (record { pick = refl; place = (lit≤ tt, refl) }) in
    let s3 = then s2 (on 7 1) TakeExchange (record { pick = refl; place = (lit≤ tt, refl) }) in
    let s4 = then s3 (on 7 1) TakeExchange (record { pick = refl; place = (lit≤ tt, refl) }) in
    let s5 = then s4 (on 7 1) TakeExchange (record { pick = refl; place = (lit≤ tt, refl) }) in
    let s6 = then s5 (on 7 1) TakeSip (record { pick = refl; place = (lit≤ tt, refl) }) in
    record { exit = _; steps = s6; at_exit = (refl, refl) }

tried_in_vain : TriedInVain
tried_in_vain =
    let s0 : Stepping (opened seven_alone) [] [] (opened seven_alone) = no_step in
    let s1 = then s0 (on 7 0) (Invite 30 70 digits) (record { pick = refl; place = (lit≤ tt, refl) }) in
    let s2 = then s1 (nobody 1) (Exchange unavailable) (record { pick = busy; place = (lit≤ tt, refl) }) in
    let s3 = then s2 (on 7 1) TakeExchange (record { pick = refl; place = (lit≤ tt, refl) }) in
    let s4 = then s3 (on 7 1) TakeExchange (record { pick = refl; place = (lit≤ tt, refl) }) in
    let s5 = then s4 (on 7 1) TakeSip (record { pick = refl; place = (lit≤ tt, refl) }) in
    let s6 = then s5 (on 7 1) TakeSip (record { pick = refl; place = (lit≤ tt, refl) }) in
    record { exit = _; steps = s6; at_exit = (refl, refl) }

pub collisions : Collisions
collisions = record { answered_after_cancel = answered_after_cancel; answered_twice = answered_twice; tried_on_another = tried_on_another; tried_in_vain = tried_in_vain }

pub examples : Examples
examples = record { layout = layout_examples; causes = (refl, refl, refl, refl); collisions = collisions }
