-- The run law: what every history of a gateway has to do with the state that it led to.
use Rattle.std.specs.Prelude.{◌≡◌, ◌≢◌, ℕ, suc, ◌+◌, ◌<◌, ◌≤◌, Bool, true, false, not, ◌&&◌, ◌||◌, List, [], ◌∷◌, ◌++◌, length, Some, None, Ok, Err, Option, Result, ◌==◌, if◌then◌else◌, nat_le, slice_index_or}
use Rattle.std.specs.List.{list_all}
use Rattle.std.specs.Option.{option_to_list}
use Rattle.calls.specs.Records.{Message, Misread, Answer, Report, SipMessage, Call, Digits, ExchangeSide}
use Rattle.messages.specs.Elements.{DigitsPart}
use Rattle.messages.specs.Reading.{decoded}
use Rattle.messages.specs.Types.{is_setup}
use Rattle.causes.specs.Names
use Rattle.pools.specs.declared.channel.ChannelState.TheVariants.{Idle, Seized}
use Rattle.pools.specs.States.{States}
use Rattle.calls.specs.Sides.{is_in, is_over, is_invite_sent, is_gone, one_if, equals_some, named, holds, owes, sum_of, holds_dialogue, connects_in, finals_in, own_invites_in, cancels_in, bye_in}
use Rattle.calls.specs.Rules.{Event, Exchange, Invite, Bye, Response, State, Stepping}
use Rattle.calls.specs.Run.{Happening, Opening, Run, HistoryOf}

-- ---------------------------------------------------------------- what an event brings
-- what the laws count of an event: a SETUP with its reference, an INVITE with its transaction and dialogue, a 200 or a BYE on a
-- dialogue, or nothing of these
pub data Brought : Type 0 where
  ASetup : ℕ → Brought
  AnInvite : ℕ → ℕ → Brought
  AnOk : ℕ → Brought
  ABye : ℕ → Brought
  NoneOfThese : Brought

abbrev pub brought_by_octets : Result (Message DigitsPart) Misread → Brought
brought_by_octets (Ok m) = if is_setup m.kind then ASetup m.reference.number else NoneOfThese
brought_by_octets (Err x) = NoneOfThese

abbrev pub brought_by : Event → Brought
brought_by (Exchange xs) = brought_by_octets (decoded xs)
brought_by (Invite t d xs) = AnInvite t d
brought_by (Bye d) = ABye d
brought_by (Response n s d media) = if s == Names.ok then AnOk d else NoneOfThese
brought_by _ = NoneOfThese

-- SETUPs with reference r, INVITEs with transaction t
abbrev pub setup_count : ℕ → Brought → ℕ
setup_count r (ASetup x) = one_if (x == r)
setup_count r _ = 0

abbrev pub invite_count : ℕ → Brought → ℕ
invite_count t (AnInvite x d) = one_if (x == t)
invite_count t _ = 0

-- a 200 on dialogue d that comes, and a BYE on it
abbrev pub is_ok_on : ℕ → Brought → Bool
is_ok_on d (AnOk x) = x == d
is_ok_on d _ = false

abbrev pub is_bye_on : ℕ → Brought → Bool
is_bye_on d (ABye x) = x == d
is_bye_on d _ = false

-- the dialogue of the last INVITE with transaction t, this one or one before
abbrev pub dialogue_after : ℕ → Brought → Option ℕ → Option ℕ
dialogue_after t (AnInvite x d) before = if x == t then Some d else before
dialogue_after t _ before = before

-- ---------------------------------------------------------------- counts over a history
abbrev pub total : (Happening → ℕ) → List Happening → ℕ
total f [] = 0
total f (h ∷ hs) = f h + total f hs

-- nothing counts of what was refused, or where a message was taken
abbrev pub on_report : (Report → ℕ) → Answer → ℕ
on_report f (Answer.Step (Ok r)) = f r
on_report f _ = 0

-- reports that name channel c seized, and released
abbrev pub seizures_of : ℕ → List Happening → ℕ
seizures_of c = total (λ h. on_report (λ r. named c r.seized) h.answer)

abbrev pub releases_of : ℕ → List Happening → ℕ
releases_of c = total (λ h. on_report (λ r. named c r.released) h.answer)

-- INVITEs with transaction t that were not refused
abbrev pub invites_taken : ℕ → List Happening → ℕ
invites_taken t = total (λ h. on_report (λ r. invite_count t (brought_by h.event)) h.answer)

-- final responses with transaction t that were sent
abbrev pub finals_sent : ℕ → List Happening → ℕ
finals_sent t = total (λ h. finals_in t h.sip)

-- SETUPs that brought reference x and were not refused
abbrev pub setups_taken : ℕ → List Happening → ℕ
setups_taken x = total (λ h. on_report (λ r. setup_count x (brought_by h.event)) h.answer)

-- CONNECTs with reference r that were sent
abbrev pub connects_sent : ℕ → List Happening → ℕ
connects_sent r = total (λ h. connects_in r h.exchange)

-- INVITEs with number n that were sent, and CANCELs of them
abbrev pub invites_sent : ℕ → List Happening → ℕ
invites_sent n = total (λ h. own_invites_in n h.sip)

abbrev pub cancels_sent : ℕ → List Happening → ℕ
cancels_sent n = total (λ h. cancels_in n h.sip)

-- ---------------------------------------------------------------- dialogues
abbrev pub is_unrefused : Answer → Bool
is_unrefused (Answer.Step (Ok r)) = true
is_unrefused _ = false

-- the dialogue of the last INVITE with transaction t that was not refused
abbrev pub last_dialogue : List Happening → ℕ → Option ℕ
last_dialogue [] t = None
last_dialogue (h ∷ hs) t = if is_unrefused h.answer then dialogue_after t (brought_by h.event) (last_dialogue hs t) else last_dialogue hs t

-- a 200 on dialogue d that is sent: its dialogue is that of the last INVITE with its transaction
abbrev pub sends_one : ℕ → (ℕ → Option ℕ) → SipMessage → Bool
sends_one d last (SipMessage.Response t s) = s == Names.ok && equals_some d (last t)
sends_one d last _ = false

abbrev pub sends : ℕ → (ℕ → Option ℕ) → List SipMessage → Bool
sends d last [] = false
sends d last (m ∷ ms) = sends_one d last m || sends d last ms

-- a BYE on dialogue d, sent or come unrefused
abbrev pub bye_at : ℕ → Happening → Bool
bye_at d h = bye_in d h.sip || (is_unrefused h.answer && is_bye_on d (brought_by h.event))

-- a 200 on dialogue d, come unrefused or sent
abbrev pub ok_at : ℕ → (ℕ → Option ℕ) → Happening → Bool
ok_at d last h = (is_unrefused h.answer && is_ok_on d (brought_by h.event)) || sends d last h.sip

-- a 200 on dialogue d, and no BYE from the step of the last such 200 on
abbrev pub is_unended : ℕ → List Happening → Bool
is_unended d [] = false
is_unended d (h ∷ hs) = not (bye_at d h) && (ok_at d (last_dialogue (h ∷ hs)) h || is_unended d hs)

-- what went out to SIP in the last step
abbrev pub last_sent : List Happening → List SipMessage
last_sent [] = []
last_sent (h ∷ hs) = h.sip

-- ---------------------------------------------------------------- the calls of a state
-- calls that hold channel c
abbrev pub holders : ℕ → State → ℕ
holders c st = sum_of (holds c) st.table

-- calls that owe transaction t a final response
abbrev pub owing : ℕ → State → ℕ
owing t st = sum_of (owes t) st.table

-- calls that hold dialogue d
abbrev pub keepers : ℕ → State → ℕ
keepers d st = sum_of (λ k. one_if (holds_dialogue d k)) st.table

-- a call is over on one side at most, and an INVITE of the gateway's own is out only while it proceeds
pub record Stands (k : Call) : Type 0 where
  pub not_gone : is_gone k ≡ false
  pub invite_while_proceeding : is_invite_sent k.sip ≡ true → is_in ExchangeSide.Proceeding k.exchange ≡ true

-- of a channel on which a call stands: idle at the opening, seized now, and one seizure of it has no release yet
pub record OnChannel (pool : States) (past : List Happening) (st : State) (c : ℕ) : Type 0 where
  pub was_idle : pool c ≡ Idle
  pub is_seized : st.pool c ≡ Seized
  pub once_more : seizures_of c past ≡ suc (releases_of c past)

-- one call, and no other, has channel c while its exchange side is not over
pub record InUse (c : ℕ) (st : State) : Type 0 where
  pub place : ℕ
  pub call : Call
  pub there : slice_index_or st.table place None ≡ Some call
  pub goes_on : is_over call.exchange ≡ false
  pub channel : call.channel ≡ c
  pub alone : (i : ℕ) (k : Call) → slice_index_or st.table i None ≡ Some k → is_over k.exchange ≡ false → k.channel ≡ c → i ≡ place

-- ---------------------------------------------------------------- the queues
-- at most two messages were put into either queue
abbrev pub puts_few : Happening → Bool
puts_few h = nat_le (length h.exchange) 2 && nat_le (length h.sip) 2

-- something of each happening, oldest first
abbrev pub oldest_first : {M : Type 0} → (Happening → List M) → List Happening → List M
oldest_first f [] = []
oldest_first f (h ∷ hs) = oldest_first f hs ++ f h

-- what was taken from either queue
abbrev pub exchange_taken : Answer → List (Message Digits)
exchange_taken (Answer.Exchange m) = option_to_list m
exchange_taken _ = []

abbrev pub sip_taken : Answer → List SipMessage
sip_taken (Answer.Sip m) = option_to_list m
sip_taken _ = []

-- all that was sent to either side, and all that was taken from its queue
abbrev pub exchange_sent : List Happening → List (Message Digits)
exchange_sent past = oldest_first (λ h. h.exchange) past

abbrev pub exchange_gone : List Happening → List (Message Digits)
exchange_gone past = oldest_first (λ h. exchange_taken h.answer) past

abbrev pub sip_sent : List Happening → List SipMessage
sip_sent past = oldest_first (λ h. h.sip) past

abbrev pub sip_gone : List Happening → List SipMessage
sip_gone past = oldest_first (λ h. sip_taken h.answer) past

-- ---------------------------------------------------------------- the laws
-- the pool at the opening, the history since, and the state that it led to: of each channel that was idle, of each call and its
-- channel, of each transaction of an INVITE that came and each number of one that was sent, of each dialogue, of each reference, of
-- what one step sends, and of what was taken and what waits of all that was sent
pub record Laws (pool : States) (past : List Happening) (st : State) : Type 0 where
  pub seizures_balance : (c : ℕ) → pool c ≡ Idle → seizures_of c past ≡ releases_of c past + holders c st
  pub one_holder : (c : ℕ) → pool c ≡ Idle → holders c st ≤ 1
  pub seized_is_held : (c : ℕ) → pool c ≡ Idle → st.pool c ≡ Seized → holders c st ≡ 1
  pub held_is_seized : (c : ℕ) → pool c ≡ Idle → holders c st ≡ 1 → st.pool c ≡ Seized
  pub channel_until_over : (i : ℕ) (k : Call) → slice_index_or st.table i None ≡ Some k → is_over k.exchange ≡ false → OnChannel pool past st k.channel
  pub idle_or_in_use : (c : ℕ) → pool c ≡ Idle → st.pool c ≢ Idle → InUse c st
  pub invites_balance : (t : ℕ) → invites_taken t past ≡ finals_sent t past + owing t st
  pub one_owing : (t : ℕ) → owing t st ≤ 1
  pub unended_is_held : (d : ℕ) → is_unended d past ≡ true → 0 < keepers d st
  pub one_keeper : (d : ℕ) → keepers d st ≤ 1
  pub byes_end_dialogues : (d : ℕ) → bye_in d (last_sent past) ≡ true → keepers d st ≡ 0
  pub invites_go_once : (n : ℕ) → invites_sent n past ≤ 1
  pub cancels_follow_invites : (n : ℕ) → cancels_sent n past ≤ invites_sent n past
  pub connects_were_asked : (r : ℕ) → connects_sent r past ≤ setups_taken r past
  pub calls_stand : (i : ℕ) (k : Call) → slice_index_or st.table i None ≡ Some k → Stands k
  pub two_at_most : list_all puts_few past ≡ true
  pub exchange_sent_in_order : exchange_gone past ++ st.exchange ≡ exchange_sent past
  pub sip_sent_in_order : sip_gone past ++ st.sip ≡ sip_sent past

-- a cut of a run: the state that this very run passed through, the run to it, the rest from it, and the laws at it
pub record Passed (start : State) (later earlier : List Happening) (end : State) : Type 0 where
  pub state : State
  pub came : Run start earlier state
  pub rest : Run state later end
  pub laws : Opening start → Laws start.pool earlier state

-- at the opening and after each event of every run
abbrev pub RunLaw : Type 0
RunLaw =
    (start : State) (past : List Happening) (end : State) → Run start past end → (later earlier : List Happening) → later ++ earlier ≡ past → Passed start later earlier end

-- whatever led to the state at entry, a longer history by exactly these events and answers leads to the state at exit
pub record Longer (start : State) (past : List Happening) (entry : State) (events : List Event) (answers : List Answer) (exit : State) : Type 0 where
  pub more : List Happening
  pub told : HistoryOf more events answers
  pub run : Run start (more ++ past) exit
  pub rest : Run entry more exit
  pub each : (later earlier : List Happening) → later ++ earlier ≡ more ++ past → Passed start later earlier exit

abbrev pub RunsOn : State → List Event → List Answer → State → Type 0
RunsOn entry events answers exit = (start : State) (past : List Happening) → Run start past entry → Longer start past entry events answers exit

-- steps one after the other make every history longer by their events
abbrev pub RunsCompose : Type 0
RunsCompose = (entry : State) (events : List Event) (answers : List Answer) (exit : State) → Stepping entry events answers exit → RunsOn entry events answers exit
