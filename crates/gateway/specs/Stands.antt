-- What a gateway and its two queues stand for among the states of the rules.
use Rattle.std.specs.Prelude.{◌≡◌, ℕ, ◌<◌, ◌≤◌, Bool, true, List, [], Some, None, Option, slice_index_or}
use Rattle.gateway.specs.Records.{Channel, Message, Call, Token}
use Rattle.messages.specs.Elements.{DigitsPart}
use Rattle.pools.specs.declared.pool.Pool.{Ghosts}
use Rattle.pools.specs.States.{States, after_any, AnyWasIdle}
use Rattle.queues.specs.Waiting.{waiting, room}
use Rattle.calls.specs.Standing.{is_sound_at}
use Rattle.calls.specs.Rules.{State, Choice, Fair, Outcome, Change, has_room, granted, rejects, on_setup}
use Rattle.calls.specs.Run.{Opening, Run}
use Rattle.effects.specs.Moves.{effect_of}
use Rattle.call_table.specs.Tokens.{token_channel}
use Rattle.call_table.specs.Records.{Enters, left}
use Rattle.gateway.specs.declared.gateway.Gateway.{Gateway}
use Rattle.gateway.specs.declared.outgoing.Outgoing.{Outgoing}
use Rattle.gateway.specs.declared.setup.NewCall.{NewCall}

-- its calls, the meaning of its pool, what waits in the queues and how much can wait, the next number and the full length
abbrev pub state_of : {P : Type 0} {G : Ghosts P} → (P → States) → Gateway P G → Outgoing → State
state_of state g queues =
    record { table = g.table.places; pool = state g.trunk.pool; exchange = waiting queues.exchange; sip = waiting queues.sip; exchange_places = room queues.exchange; sip_places = room queues.sip; next = g.next; full = g.full }

-- no message waits in either queue
abbrev pub NothingWaits : Outgoing → Type 0
NothingWaits queues = (waiting queues.exchange ≡ []) × (waiting queues.sip ≡ [])

-- two messages find a place in either queue
abbrev pub has_two_places : Outgoing → Bool
has_two_places queues = has_room (waiting queues.exchange) (room queues.exchange) (waiting queues.sip) (room queues.sip)

-- the settings that make a gateway: a full number has 1 to 20 digits, and the first number is not 0
abbrev pub InRange : ℕ → ℕ → Type 0
InRange full first = (1 ≤ full) × (full ≤ 20) × (1 ≤ first)

-- with empty queues, whatever their places, the gateway is at its opening, and its history is empty
pub record Begins {P : Type 0} {G : Ghosts P} (state : P → States) (g : Gateway P G) : Type 0 where
  pub opening : (queues : Outgoing) → waiting queues.exchange ≡ [] → waiting queues.sip ≡ [] → Opening (state_of state g queues)
  pub history : (queues : Outgoing) → Run (state_of state g queues) [] (state_of state g queues)

-- an effect can be applied at a place: the token is of the channel that the call holds then, what comes out is what is released
pub record Ready (places : List (Option Call)) (place : ℕ) (after : Option Call) (released : Option ℕ) (token : Option Token) : Type 0 where
  pub inside : place < 64
  pub enters : Enters (slice_index_or places place None) after token
  pub leaves : token_channel (left (slice_index_or places place None) after token) ≡ released
  pub sound : is_sound_at after ≡ true

-- an outcome that seizes nothing can be carried out
abbrev pub Possible : List (Option Call) → Outcome → Type 0
Possible places (Change i e) = Ready places i e.after e.released None × (e.seized ≡ None)
Possible places _ = Unit {0}

-- the channel that a wish got, or none: what the rules grant it, whichever idle channel is picked
pub record Granted (s : States) (wish : Option Channel) (got : Option ℕ) : Type 0 where
  pub pick : Option ℕ
  pub fair : AnyWasIdle pick s
  pub as_granted : granted s pick wish ≡ got

-- what comes of a SETUP that finds no call, by the rule of it and whatever is picked: the cause with which it is rejected, or a
-- new call whose channel is seized
pub record Rejected (st : State) (m : Message DigitsPart) (pool : States) (cause : ℕ) : Type 0 where
  pub choice : Choice
  pub fair : Fair st choice
  pub by_the_rule : on_setup st choice m ≡ rejects m cause
  pub no_channel_seized : (k : ℕ) → pool k ≡ st.pool k

pub record Admitted (st : State) (m : Message DigitsPart) (pool : States) (new : NewCall) : Type 0 where
  pub choice : Choice
  pub fair : Fair st choice
  pub by_the_rule : on_setup st choice m ≡ Change new.place (effect_of new.effect)
  pub channel_of_the_token : (effect_of new.effect).seized ≡ Some new.token.channel
  pub that_channel_seized : (k : ℕ) → pool k ≡ after_any (Some new.token.channel) st.pool k
  pub ready : Ready st.table new.place new.effect.after new.effect.report.released (Some new.token)
