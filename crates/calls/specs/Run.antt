-- Runs of a gateway: what happened, newest first, and the state that it led to.
use Rattle.std.specs.Prelude.{◌≡◌, List, [], ◌∷◌, map, reverse, replicate, None}
use Rattle.calls.specs.Records.{Message, Answer, SipMessage, Digits}
use Rattle.calls.specs.Rules.{Event, State, Choice, Fair, Outcome, Reply, Change, outcome, settled, answer_of}

-- an event, its answer, and what was put into the two queues
pub record Happening : Type 0 where
  pub event : Event
  pub answer : Answer
  pub exchange : List (Message Digits)
  pub sip : List SipMessage

abbrev pub put_exchange : Outcome → List (Message Digits)
put_exchange (Reply ms ss) = ms
put_exchange (Change i e) = e.exchange
put_exchange _ = []

abbrev pub put_sip : Outcome → List SipMessage
put_sip (Reply ms ss) = ss
put_sip (Change i e) = e.sip
put_sip _ = []

abbrev pub happened : State → Event → Outcome → Happening
happened st ev o = record { event = ev; answer = answer_of st o; exchange = put_exchange o; sip = put_sip o }

-- a gateway opens without calls, with empty queues and whatever its pool has seized
pub record Opening (st : State) : Type 0 where
  pub calls : st.table ≡ replicate 64 None
  pub exchange : st.exchange ≡ []
  pub sip : st.sip ≡ []

-- a run from a state: each event with the outcome that the rules give it, whichever idle channel and free place are picked
pub data Run (start : State) : List Happening → State → Type 0 where
  opened : Run start [] start
  stepped : {past : List Happening} {st : State} (ch : Choice) (ev : Event) → Fair st ch → Run start past st → Run start (happened st ev (outcome st ch ev) ∷ past) (settled st (outcome st ch ev))

-- these events, oldest first, with these answers
pub record HistoryOf (past : List Happening) (evs : List Event) (ans : List Answer) : Type 0 where
  pub events : map (λ h. h.event) (reverse past) ≡ evs
  pub answers : map (λ h. h.answer) (reverse past) ≡ ans
