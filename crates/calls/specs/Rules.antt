-- The rules of one step of the whole gateway, and the one place where effects are applied.
use Rattle.std.specs.Prelude.{◌≡◌, ℕ, suc, ◌+◌, ◌-◌, ◌<◌, Bool, true, false, not, ◌&&◌, List, [], ◌∷◌, ◌++◌, length, drop, Some, None, Ok, Err, Option, Result, ◌==◌, ◌≢◌, if◌then◌else◌, nat_le, nat_lt, slice_index_or, slice_set}
use Rattle.calls.specs.Records.{Ground, MessageType, CallReference, Channel, Message, Misread, Answer, Refused, Report, Timer, SipMessage, Call, Digits, Found}
use Rattle.messages.specs.Elements.{DigitsPart, all_digits}
use Rattle.messages.specs.Reading.{decoded}
use Rattle.causes.specs.Names
use Rattle.pools.specs.States.{States, idle, seized, after_any, after_release, AnyWasIdle}
use Rattle.calls.specs.Refusing.{placeless, placed}
use Rattle.calls.specs.Sides.{is_over, is_no_sip, awaits_response, is_unanswered, holds_dialogue, equals_some, number_of}
use Rattle.calls.specs.Effects.{Effect, is_nothing, is_too_many, misdialled, cause_for, rejection, on_type, on_expiry, on_cancel_expiry, provisional, fails, accepts, ack_and_bye, leaves, begins, invited}

-- ---------------------------------------------------------------- events
-- what comes to a gateway: octets from the exchange, the SIP layer's INVITE (transaction, dialogue, digits), CANCEL
-- (transaction), BYE (dialogue) and response (number, status, dialogue, media), the expiry of a timer of the exchange side (with
-- the reference as the exchange sends it) and of a CANCEL's (number), and that the oldest message is taken from either queue
pub data Event : Type 0 where
  Exchange : List ℕ → Event
  Invite : ℕ → ℕ → List ℕ → Event
  Cancel : ℕ → Event
  Bye : ℕ → Event
  Response : ℕ → ℕ → ℕ → Bool → Event
  Expiry : Timer → CallReference → Event
  CancelExpiry : ℕ → Event
  TakeExchange : Event
  TakeSip : Event

-- ---------------------------------------------------------------- the whole gateway
-- the places of its calls, what its pool holds each channel to be, the messages that wait in the two queues and how many can
-- wait, the number of the next call that a SETUP makes (none once the last is used up), and the length of a full number
pub record State : Type 0 where
  pub table : List (Option Call)
  pub pool : States
  pub exchange : List (Message Digits)
  pub sip : List SipMessage
  pub exchange_places : ℕ
  pub sip_places : ℕ
  pub next : Option ℕ
  pub full : ℕ

-- what is left open: which idle channel is picked, and at which free place a new call stands
pub record Choice : Type 0 where
  pub pick : Option ℕ
  pub place : Option ℕ

-- a free place, or none is free
abbrev pub FreePlace : List (Option Call) → Option ℕ → Type 0
FreePlace table None = (i : ℕ) → i < length table → slice_index_or table i None ≢ None
FreePlace table (Some i) = (i < length table) × (slice_index_or table i None ≡ None)

-- an idle channel, or none is idle
pub record Fair (st : State) (ch : Choice) : Type 0 where
  pub pick : AnyWasIdle ch.pick st.pool
  pub place : FreePlace st.table ch.place

-- what comes of an event: a refusal, an answer that touches no call, an effect at one place of the table, or that a message is taken
pub data Outcome : Type 0 where
  Refuse : Refused → Outcome
  Reply : List (Message Digits) → List SipMessage → Outcome
  Change : ℕ → Effect → Outcome
  TookExchange : Outcome
  TookSip : Outcome

-- refused on a ground that has no place in the octets
abbrev pub refuse : Ground → Outcome
refuse why = Refuse (placeless why)

-- refused on this ground, if there is one
abbrev pub unless_refused : Option Ground → Outcome → Outcome
unless_refused None o = o
unless_refused (Some why) o = refuse why

-- ---------------------------------------------------------------- searches
abbrev pub later : Option Found → Option Found
later None = None
later (Some f) = Some (record f { place = suc f.place })

abbrev pub seek_here : (Call → Bool) → Option Call → Option Found → Option Found
seek_here p None rest = later rest
seek_here p (Some k) rest = if p k then Some (record { place = 0; call = k }) else later rest

-- the first call that matches, with its place
abbrev pub seek : (Call → Bool) → List (Option Call) → Option Found
seek p [] = None
seek p (o ∷ os) = seek_here p o (seek p os)

abbrev pub same : Bool → Bool → Bool
same a b = if a then b else not b

-- the call that the exchange means by a reference: one whose exchange side is not over
abbrev pub by_reference : CallReference → Call → Bool
by_reference r k = not (is_over k.exchange) && (same k.reference.flag r.flag && k.reference.number == r.number)

-- the call that a SETUP made with this number
abbrev pub by_number : ℕ → Call → Bool
by_number n k = equals_some n (number_of k.origin)

-- that call while its SIP side is not over
abbrev pub by_live_number : ℕ → Call → Bool
by_live_number n k = by_number n k && not (is_no_sip k.sip)

-- that call while it awaits the final response
abbrev pub by_awaited_number : ℕ → Call → Bool
by_awaited_number n k = by_number n k && awaits_response k.sip

-- the call whose INVITE with this transaction is unanswered
abbrev pub by_transaction : ℕ → Call → Bool
by_transaction t k = is_unanswered t k.sip

-- what a rule says of the call that was found, or no such call
abbrev pub at : ℕ → Result Effect Ground → Outcome
at i (Ok e) = Change i e
at i (Err why) = refuse why

abbrev pub at_call : (Call → Result Effect Ground) → Option Found → Outcome
at_call rule None = refuse Ground.NoSuchCall
at_call rule (Some f) = at f.place (rule f.call)

-- ---------------------------------------------------------------- a SETUP that finds no call
-- RELEASE COMPLETE with a cause to a message that makes or finds no call
abbrev pub rejects : Message DigitsPart → ℕ → Outcome
rejects m v = Reply (rejection m.reference v ∷ []) []

-- the channel that a wish gets: the wished one if it is idle; else none where the wish is exclusive, the picked one where it is
-- not. A SETUP that is read names a channel.
abbrev pub granted : States → Option ℕ → Option Channel → Option ℕ
granted pool pick None = pick
granted pool pick (Some w) = if idle (pool w.number) then Some w.number else if w.exclusive then None else pick

-- the cause where a wish gets no channel: an exclusive one is not available, for another there is none at all
abbrev pub busy_cause : Option Channel → ℕ
busy_cause None = Names.no_channel_available
busy_cause (Some w) = if w.exclusive then Names.channel_unavailable else Names.no_channel_available

-- a call on the channel that its wish got
abbrev pub seated : ℕ → Message DigitsPart → ℕ → ℕ → Option ℕ → Outcome
seated full m i n None = rejects m (busy_cause m.elements.channel)
seated full m i n (Some c) = Change i (begins full m n c)

-- a place and a number are needed
abbrev pub admitted : State → Option ℕ → Message DigitsPart → Option ℕ → Option ℕ → Outcome
admitted st pick m (Some i) (Some n) = seated st.full m i n (granted st.pool pick m.elements.channel)
admitted st pick m _ _ = rejects m Names.switching_equipment_congestion

abbrev pub on_setup : State → Choice → Message DigitsPart → Outcome
on_setup st ch m = if misdialled m then rejects m Names.invalid_number_format else admitted st ch.pick m ch.place st.next

-- ---------------------------------------------------------------- messages from the exchange
-- a message other than SETUP that finds no call: only RELEASE COMPLETE is not answered
abbrev pub turned_away : Message DigitsPart → MessageType → Outcome
turned_away m MessageType.ReleaseComplete = refuse Ground.NoSuchCall
turned_away m _ = rejects m Names.invalid_call_reference

abbrev pub uncalled : State → Choice → Message DigitsPart → MessageType → Outcome
uncalled st ch m MessageType.Setup = on_setup st ch m
uncalled st ch m kind = turned_away m kind

abbrev pub on_message : State → Choice → Message DigitsPart → Option Found → Outcome
on_message st ch m None = uncalled st ch m m.kind
on_message st ch m (Some f) = at f.place (on_type st.full ch.pick m f.call m.kind)

-- ---------------------------------------------------------------- SIP events
-- the status that answers an INVITE whose digits make no call: none at all, too many, or no digits
abbrev pub dialling_status : List ℕ → Option ℕ
dialling_status xs = if is_nothing xs then Some Names.address_incomplete else if not (is_too_many xs) && all_digits xs then None else Some Names.not_found

-- a final response that makes no call
abbrev pub replies : ℕ → ℕ → Outcome
replies t s = Reply [] (SipMessage.Response t s ∷ [])

-- a place and a channel are needed
abbrev pub calls_out : ℕ → ℕ → List ℕ → Option ℕ → Option ℕ → Outcome
calls_out t d xs (Some i) (Some c) = Change i (invited t d xs c)
calls_out t d xs _ _ = replies t Names.service_unavailable

abbrev pub unless_answered : ℕ → Option ℕ → Outcome → Outcome
unless_answered t None o = o
unless_answered t (Some s) o = replies t s

-- an INVITE is refused where a call has its transaction, then where one holds its dialogue
abbrev pub invite_refusal : Option Found → Option Found → Option Ground
invite_refusal (Some f) holder = Some Ground.TransactionInUse
invite_refusal None (Some f) = Some Ground.DialogueInUse
invite_refusal None None = None

-- by the call that has the transaction, and the one that holds the dialogue
abbrev pub on_invite : Choice → ℕ → ℕ → List ℕ → Option Found → Option Found → Outcome
on_invite ch t d xs inviting holder =
    unless_refused (invite_refusal inviting holder) (unless_answered t (dialling_status xs) (calls_out t d xs ch.place ch.pick))

-- the other end's CANCEL or BYE
abbrev pub on_leave : Option Found → Outcome
on_leave found = at_call (λ k. Ok (leaves k)) found

-- the dialogue is held by another call than the response's own
abbrev pub another : Option Found → Option Found → Bool
another None mine = false
another (Some h) None = true
another (Some h) (Some f) = not (h.place == f.place)

-- a 200 at its call, or without one, where no other call holds its dialogue
abbrev pub on_ok : ℕ → ℕ → Option Found → Outcome
on_ok n d None = Reply [] (ack_and_bye n d)
on_ok n d (Some f) = Change f.place (accepts f.call n d f.call.sip)

abbrev pub accepted : ℕ → ℕ → Option Found → Option Found → Outcome
accepted n d holder mine = if another holder mine then refuse Ground.DialogueInUse else on_ok n d mine

-- a provisional response, or a final one that refuses
abbrev pub on_other : ℕ → Bool → Call → Effect
on_other s media k = if nat_le Names.first_failure s then fails k (cause_for s) else provisional k s media k.sip

-- a 2xx that is no 200: acknowledged, and no more
abbrev pub is_other_success : ℕ → Bool
is_other_success s = nat_le 201 s && nat_le s 299

abbrev pub on_response : List (Option Call) → ℕ → ℕ → ℕ → Bool → Outcome
on_response table n s d media =
    if s == Names.ok then accepted n d (seek (holds_dialogue d) table) (seek (by_live_number n) table)
    else if is_other_success s then Reply [] (SipMessage.Ack n d ∷ [])
    else at_call (λ k. Ok (on_other s media k)) (seek (by_awaited_number n) table)

-- ---------------------------------------------------------------- every event
-- two messages find a place in either queue
abbrev pub has_room : List (Message Digits) → ℕ → List SipMessage → ℕ → Bool
has_room exchange exchange_places sip sip_places = nat_le 2 (exchange_places - length exchange) && nat_le 2 (sip_places - length sip)

abbrev pub is_roomy : State → Bool
is_roomy st = has_room st.exchange st.exchange_places st.sip st.sip_places

abbrev pub roomed : State → Outcome → Outcome
roomed st o = if is_roomy st then o else refuse Ground.QueueFull

-- reading comes first, then room, then the rule
abbrev pub on_octets : State → Choice → Result (Message DigitsPart) Misread → Outcome
on_octets st ch (Ok m) = roomed st (on_message st ch m (seek (by_reference m.reference) st.table))
on_octets st ch (Err x) = Refuse (placed x)

abbrev pub is_status : ℕ → Bool
is_status s = nat_le Names.first_status s && nat_le s Names.last_status

-- what the rules make of an event, given what is left open
abbrev pub outcome : State → Choice → Event → Outcome
outcome st ch (Exchange xs) = on_octets st ch (decoded xs)
outcome st ch (Invite t d xs) = roomed st (on_invite ch t d xs (seek (by_transaction t) st.table) (seek (holds_dialogue d) st.table))
outcome st ch (Cancel t) = roomed st (on_leave (seek (by_transaction t) st.table))
outcome st ch (Bye d) = roomed st (on_leave (seek (holds_dialogue d) st.table))
outcome st ch (Response n s d media) = if is_status s then roomed st (on_response st.table n s d media) else refuse Ground.StatusOutOfRange
outcome st ch (Expiry t r) = roomed st (at_call (on_expiry t) (seek (by_reference r) st.table))
outcome st ch (CancelExpiry n) = roomed st (at_call on_cancel_expiry (seek (by_number n) st.table))
outcome st ch TakeExchange = TookExchange
outcome st ch TakeSip = TookSip

-- ---------------------------------------------------------------- the one place where effects are applied
-- a channel is released where it is seized
abbrev pub freed : Option ℕ → States → States
freed None s k = s k
freed (Some c) s k = after_release (seized (s c)) c s k

-- numbers have 64 bits, and none is used twice
abbrev pub following : Bool → Option ℕ → Option ℕ
following true (Some n) = if nat_lt n 18446744073709551615 then Some (n + 1) else None
following true None = None
following false next = next

abbrev pub first : {X : Type 0} → List X → Option X
first [] = None
first (x ∷ xs) = Some x

abbrev pub quiet : Report
quiet = record { seized = None; released = None; timer = None; cancelling = false }

abbrev pub reported : Effect → Report
reported e = record { seized = e.seized; released = e.released; timer = e.timer; cancelling = e.cancelling }

abbrev pub answer_of : State → Outcome → Answer
answer_of st (Refuse r) = Answer.Step (Err r)
answer_of st (Reply ms ss) = Answer.Step (Ok quiet)
answer_of st (Change i e) = Answer.Step (Ok (reported e))
answer_of st TookExchange = Answer.Exchange (first st.exchange)
answer_of st TookSip = Answer.Sip (first st.sip)

-- the gateway with these messages put into its queues
abbrev pub sending : State → List (Message Digits) → List SipMessage → State
sending st ms ss = record st { exchange = st.exchange ++ ms; sip = st.sip ++ ss }

-- the gateway with a channel seized, if there is one to seize
abbrev pub seizing : State → Option ℕ → State
seizing st took = record st { pool = after_any took st.pool }

-- an effect at place i whose channel is seized already: the other is released, the messages wait, a number may be used up
abbrev pub applied : State → ℕ → Effect → State
applied st i e =
    record (sending st e.exchange e.sip) { table = slice_set st.table i e.after; pool = freed e.released st.pool; next = following e.numbered st.next }

-- the gateway after an effect at place i: first the one channel is seized, then the other released
abbrev pub changed : State → ℕ → Effect → State
changed st i e = applied (seizing st e.seized) i e

-- a refusal leaves the whole state
abbrev pub settled : State → Outcome → State
settled st (Refuse r) = st
settled st (Reply ms ss) = sending st ms ss
settled st (Change i e) = changed st i e
settled st TookExchange = record st { exchange = drop 1 st.exchange }
settled st TookSip = record st { sip = drop 1 st.sip }

-- what came of a rule, whatever is picked of what is left open
pub record Did (st : State) (rule : Choice → Outcome) (a : Answer) (st' : State) : Type 0 where
  pub choice : Choice
  pub fair : Fair st choice
  pub answer : a ≡ answer_of st (rule choice)
  pub after : st' ≡ settled st (rule choice)

-- one step by the rules
abbrev pub Stepped : State → Event → Answer → State → Type 0
Stepped st ev a st' = Did st (λ ch. outcome st ch ev) a st'

-- steps one after the other: the events met, oldest first, and the answer of each
pub data Stepping (entry : State) : List Event → List Answer → State → Type 0 where
  no_step : Stepping entry [] [] entry
  next_step : {evs : List Event} {ans : List Answer} {st st' : State} (ev : Event) (a : Answer) → Stepping entry evs ans st → Stepped st ev a st' → Stepping entry (evs ++ ev ∷ []) (ans ++ a ∷ []) st'
