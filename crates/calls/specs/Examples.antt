-- Collisions, step by step: the events, the answer of each, and the messages as they are taken.
use Rattle.std.specs.Prelude.{◌≡◌, ℕ, true, false, ◌||◌, List, [], ◌∷◌, replicate, Some, None, Ok, Option, ◌==◌, if◌then◌else◌}
use Rattle.calls.specs.Records.{MessageType, Message, Answer, Timer, SipMessage, Digits}
use Rattle.messages.specs.Laws.{setup417_octets, LayoutExamples}
use Rattle.causes.specs.Examples.{CauseExamples}
use Rattle.causes.specs.Names
use Rattle.pools.specs.declared.channel.ChannelState.TheVariants.{Unknown, Idle, Seized}
use Rattle.pools.specs.States.{States}
use Rattle.calls.specs.Effects.{recorded, exclusively}
use Rattle.calls.specs.Rules.{Event, Exchange, Invite, Response, TakeExchange, TakeSip, State, Stepping}

-- 200 to the first INVITE, on this dialogue
abbrev pub answered_on : ℕ → Event
answered_on d = Response 1 Names.ok d false

-- events with these answers lead from a state to one of which something holds
pub record Leads (start : State) (events : List Event) (answers : List Answer) (holds : State → Type 0) : Type 0 where
  pub exit : State
  pub steps : Stepping start events answers exit
  pub at_exit : holds exit

-- there are steps by these events that lead so, and all steps by them have these answers and end so: whichever idle channel is picked,
-- and at whichever free place the call stands
pub record Always (start : State) (events : List Event) (answers : List Answer) (holds : State → Type 0) : Type 0 where
  pub some : Leads start events answers holds
  pub all : (given : List Answer) (exit : State) → Stepping start events given exit → (given ≡ answers) × holds exit

-- a gateway without calls, over a pool, with eight places in either queue
abbrev pub opened : States → State
opened pool = record { table = replicate 64 None; pool = pool; exchange = []; sip = []; exchange_places = 8; sip_places = 8; next = Some 1; full = 20 }

-- pools of two channels and of one, all idle
abbrev pub seven_and_nine : States
seven_and_nine c = if c == 7 || c == 9 then Idle else Unknown

abbrev pub seven_alone : States
seven_alone c = if c == 7 then Idle else Unknown

-- 417
abbrev pub digits : List ℕ
digits = 0x34 ∷ 0x31 ∷ 0x37 ∷ []

-- DISCONNECT of the call of reference 5 by the exchange that gave the reference out
abbrev pub disconnect : List ℕ
disconnect = 0x08 ∷ 0x02 ∷ 0x00 ∷ 0x05 ∷ 0x45 ∷ 0x08 ∷ 0x02 ∷ 0x80 ∷ 0x90 ∷ []

-- RELEASE COMPLETE with cause 44 to the SETUP on channel 7
abbrev pub unavailable : List ℕ
unavailable = 0x08 ∷ 0x02 ∷ 0x80 ∷ 0x07 ∷ 0x5a ∷ 0x08 ∷ 0x02 ∷ 0x80 ∷ 0xac ∷ []

abbrev pub report : Option ℕ → Option ℕ → Option Timer → Answer
report seized released timer = Answer.Step (Ok (record { seized = seized; released = released; timer = timer; cancelling = false }))

-- a message without elements on the call of reference 5
abbrev pub bare : MessageType → Message Digits
bare kind =
    record { reference = record { flag = true; number = 5 }; kind = kind; elements = record { complete = false; cause = None; channel = None; progress = None; digits = None } }

abbrev pub proceeding_on_seven : Message Digits
proceeding_on_seven =
    record { reference = record { flag = true; number = 5 }; kind = MessageType.CallProceeding; elements = record { complete = false; cause = None; channel = exclusively 7; progress = None; digits = None } }

abbrev pub setup : ℕ → Message Digits
setup c =
    record { reference = record { flag = false; number = c }; kind = MessageType.Setup; elements = record { complete = true; cause = None; channel = exclusively c; progress = None; digits = Some (recorded digits) } }

abbrev pub exchange_takes : Message Digits → Answer
exchange_takes m = Answer.Exchange (Some m)

abbrev pub sip_takes : SipMessage → Answer
sip_takes m = Answer.Sip (Some m)

-- the exchange clears while the INVITE is out: RELEASE and CANCEL; a 200 that comes then is acknowledged and ended
abbrev pub after_cancel_events : List Event
after_cancel_events =
    Exchange setup417_octets ∷ Exchange disconnect ∷ answered_on 1
    ∷ TakeExchange ∷ TakeExchange ∷ TakeExchange ∷ TakeSip ∷ TakeSip ∷ TakeSip ∷ TakeSip ∷ TakeSip ∷ []

abbrev pub after_cancel_answers : List Answer
after_cancel_answers =
    report (Some 7) None None
    ∷ Answer.Step (Ok (record { seized = None; released = None; timer = Some Timer.T308; cancelling = true }))
    ∷ report None None None
    ∷ exchange_takes proceeding_on_seven ∷ exchange_takes (bare MessageType.Release) ∷ Answer.Exchange None
    ∷ sip_takes (SipMessage.Invite 1 (recorded digits)) ∷ sip_takes (SipMessage.Cancel 1) ∷ sip_takes (SipMessage.Ack 1 1) ∷ sip_takes (SipMessage.Bye 1) ∷ Answer.Sip None
    ∷ []

abbrev pub AnsweredAfterCancel : Type 0
AnsweredAfterCancel = Always (opened seven_and_nine) after_cancel_events after_cancel_answers (λ st. st.pool 7 ≡ Seized)

-- two 200s on two dialogues: one CONNECT, and the second dialogue is acknowledged and ended
abbrev pub twice_events : List Event
twice_events =
    Exchange setup417_octets ∷ answered_on 1 ∷ answered_on 2
    ∷ TakeExchange ∷ TakeExchange ∷ TakeExchange ∷ TakeSip ∷ TakeSip ∷ TakeSip ∷ TakeSip ∷ TakeSip ∷ []

abbrev pub twice_answers : List Answer
twice_answers =
    report (Some 7) None None
    ∷ report None None (Some Timer.T313)
    ∷ report None None None
    ∷ exchange_takes proceeding_on_seven ∷ exchange_takes (bare MessageType.Connect) ∷ Answer.Exchange None
    ∷ sip_takes (SipMessage.Invite 1 (recorded digits)) ∷ sip_takes (SipMessage.Ack 1 1) ∷ sip_takes (SipMessage.Ack 1 2) ∷ sip_takes (SipMessage.Bye 2) ∷ Answer.Sip None
    ∷ []

abbrev pub AnsweredTwice : Type 0
AnsweredTwice = Always (opened seven_and_nine) twice_events twice_answers (λ st. st.pool 7 ≡ Seized)

-- the exchange turns channel 7 down: a second SETUP names 9, and 7 is free for others
abbrev pub another_events : List Event
another_events = Invite 30 70 digits ∷ Exchange unavailable ∷ TakeExchange ∷ TakeExchange ∷ TakeExchange ∷ TakeSip ∷ []

abbrev pub another_answers : List Answer
another_answers =
    report (Some 7) None (Some Timer.T303)
    ∷ report (Some 9) (Some 7) (Some Timer.T303)
    ∷ exchange_takes (setup 7) ∷ exchange_takes (setup 9) ∷ Answer.Exchange None
    ∷ Answer.Sip None
    ∷ []

abbrev pub TriedOnAnother : Type 0
TriedOnAnother = Leads (opened seven_and_nine) another_events another_answers (λ st. (st.pool 7 ≡ Idle) × (st.pool 9 ≡ Seized))

-- the same with no other channel: 7 is not taken again; 503, and it is idle
abbrev pub TriedInVain : Type 0
TriedInVain =
    Leads (opened seven_alone)
    (Invite 30 70 digits ∷ Exchange unavailable ∷ TakeExchange ∷ TakeExchange ∷ TakeSip ∷ TakeSip ∷ [])
    (report (Some 7) None (Some Timer.T303)
    ∷ report None (Some 7) None
    ∷ exchange_takes (setup 7) ∷ Answer.Exchange None
    ∷ sip_takes (SipMessage.Response 30 503) ∷ Answer.Sip None
    ∷ [])
    (λ st. (st.pool 7 ≡ Idle) × (st.table ≡ replicate 64 None))

pub record Collisions : Type 0 where
  pub answered_after_cancel : AnsweredAfterCancel
  pub answered_twice : AnsweredTwice
  pub tried_on_another : TriedOnAnother
  pub tried_in_vain : TriedInVain

-- all of them together: messages read and written octet by octet, causes and statuses, and the collisions
pub record Examples : Type 0 where
  pub layout : LayoutExamples
  pub causes : CauseExamples
  pub collisions : Collisions
