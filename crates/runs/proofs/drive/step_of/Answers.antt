use Rattle.std.proofs.Common.{refl, sym, ap, ◌∙◌}
use Rattle.calls.specs.Rules as rules
use Rattle.calls.specs.declared.answers.Answer.{Answer}
use Rattle.events.specs.Events.{event_of}
use Rattle.gateway.proofs.PoolMoves.{unmoved}
use Rattle.runs.proofs.Driven.{as_event, as_moved}
use Rattle.runs.proofs.drive.step_of.Goals as goal

pub returns-in-Exchange : goal.returns-in-Exchange
returns-in-Exchange g c =
    let same = (ap event_of c.in-Exchange.is ∙ sym (ap rules.Exchange c.as_slice.ensures.value)) in
    record {
      refusal_leaves_all = c.message.ensures.refusal_leaves_all;
      steps_by_the_rules = as_event _ _ same c.message.ensures.steps_by_the_rules;
      moves_the_pool_as_reported = as_moved g.P.Pool _ _ same c.message.ensures.moves_the_pool_as_reported;
    }

pub returns-in-Invite : goal.returns-in-Invite
returns-in-Invite g c =
    let same = (ap event_of c.in-Invite.is ∙ sym (ap (rules.Invite c.in-Invite.transaction c.in-Invite.dialogue) c.as_slice-in-Invite.ensures.value)) in
    record {
      refusal_leaves_all = c.invite.ensures.refusal_leaves_all;
      steps_by_the_rules = as_event _ _ same c.invite.ensures.steps_by_the_rules;
      moves_the_pool_as_reported = as_moved g.P.Pool _ _ same c.invite.ensures.moves_the_pool_as_reported;
    }

pub returns-in-Cancel : goal.returns-in-Cancel
returns-in-Cancel g c =
    let same = (ap event_of c.in-Cancel.is) in
    record {
      refusal_leaves_all = c.cancel.ensures.refusal_leaves_all;
      steps_by_the_rules = as_event _ _ same c.cancel.ensures.steps_by_the_rules;
      moves_the_pool_as_reported = as_moved g.P.Pool _ _ same c.cancel.ensures.moves_the_pool_as_reported;
    }

pub returns-in-Bye : goal.returns-in-Bye
returns-in-Bye g c =
    let same = (ap event_of c.in-Bye.is) in
    record {
      refusal_leaves_all = c.bye.ensures.refusal_leaves_all;
      steps_by_the_rules = as_event _ _ same c.bye.ensures.steps_by_the_rules;
      moves_the_pool_as_reported = as_moved g.P.Pool _ _ same c.bye.ensures.moves_the_pool_as_reported;
    }

pub returns-in-Response : goal.returns-in-Response
returns-in-Response g c =
    let same = (ap event_of c.in-Response.is) in
    record {
      refusal_leaves_all = c.response.ensures.refusal_leaves_all;
      steps_by_the_rules = as_event _ _ same c.response.ensures.steps_by_the_rules;
      moves_the_pool_as_reported = as_moved g.P.Pool _ _ same c.response.ensures.moves_the_pool_as_reported;
    }

pub returns-in-Expiry : goal.returns-in-Expiry
returns-in-Expiry g c =
    let same = (ap event_of c.in-Expiry.is) in
    record {
      refusal_leaves_all = c.expiry.ensures.refusal_leaves_all;
      steps_by_the_rules = as_event _ _ same c.expiry.ensures.steps_by_the_rules;
      moves_the_pool_as_reported = as_moved g.P.Pool _ _ same c.expiry.ensures.moves_the_pool_as_reported;
    }

pub returns-in-CancelExpiry : goal.returns-in-CancelExpiry
returns-in-CancelExpiry g c =
    let same = (ap event_of c.in-CancelExpiry.is) in
    record {
      refusal_leaves_all = c.cancel_expiry.ensures.refusal_leaves_all;
      steps_by_the_rules = as_event _ _ same c.cancel_expiry.ensures.steps_by_the_rules;
      moves_the_pool_as_reported = as_moved g.P.Pool _ _ same c.cancel_expiry.ensures.moves_the_pool_as_reported;
    }

pub returns-in-TakeExchange : goal.returns-in-TakeExchange
returns-in-TakeExchange g c =
    record {
      refusal_leaves_all = tt;
      steps_by_the_rules = as_event _ _ (ap event_of c.in-TakeExchange.is) c.take_exchange.ensures.steps_by_the_rules;
      moves_the_pool_as_reported = unmoved g.P.Pool _ _ _ (Answer.Exchange c.take_exchange.result) refl refl refl;
    }

pub returns-in-TakeSip : goal.returns-in-TakeSip
returns-in-TakeSip g c =
    record {
      refusal_leaves_all = tt;
      steps_by_the_rules = as_event _ _ (ap event_of c.in-TakeSip.is) c.take_sip.ensures.steps_by_the_rules;
      moves_the_pool_as_reported = unmoved g.P.Pool _ _ _ (Answer.Sip c.take_sip.result) refl refl refl;
    }
