-- What a step does to one call: the moves of its two sides, and the rule of each event that finds it.
use Rattle.std.specs.Prelude.{ℕ, ◌-◌, Bool, true, false, not, ◌&&◌, ◌||◌, List, [], ◌∷◌, ◌++◌, length, take, replicate, Some, None, Ok, Err, Option, Result, ◌==◌, if◌then◌else◌, nat_le}
use Rattle.calls.specs.Records.{Ground, MessageType, CallReference, Cause, Channel, Elements, Message, Timer, SipMessage, Call, Digits, Origin, ExchangeSide, News, SipSide, Told}
use Rattle.std.specs.Option.{option_map_or}
use Rattle.messages.specs.Elements.{DigitsPart, bare}
use Rattle.causes.specs.Names
use Rattle.causes.specs.Mapping.{status_of, cause_of, counted_cause}
use Rattle.calls.specs.Sides.{is_in, from_to, is_uncleared, is_unreleased, timer_of, is_running, sent_cause, is_repeated, is_invite_sent, is_cancel_sent, is_gone}

-- ---------------------------------------------------------------- digits
-- the digits of a record
abbrev pub meant : Digits → List ℕ
meant ds = take ds.count ds.octets

-- the record of some digits: noughts after them
abbrev pub recorded : List ℕ → Digits
recorded xs = record { octets = xs ++ replicate (20 - length xs) 0; count = length xs }

-- more digits than a call can have
abbrev pub is_too_many : List ℕ → Bool
is_too_many xs = nat_le 21 (length xs)

-- their record, or none where they are too many
abbrev pub record_of : List ℕ → Option Digits
record_of xs = if is_too_many xs then None else Some (recorded xs)

abbrev pub is_nothing : List ℕ → Bool
is_nothing xs = length xs == 0

-- the digits of a message; one without a called number has none
abbrev pub called_digits : Message DigitsPart → List ℕ
called_digits m = option_map_or (λ part. part.octets) m.elements.digits []

-- by whether the sender says that the number is whole, and by how many digits there are: it is whole by what he says, or with
-- as many digits as a full number has
abbrev pub is_whole : ℕ → Bool → ℕ → Bool
is_whole full complete count = complete || nat_le full count

-- it is said to be whole, and there is none
abbrev pub is_empty_whole : Bool → ℕ → Bool
is_empty_whole complete count = complete && count == 0

-- the digits of a SETUP cannot be a number
abbrev pub misdialled : Message DigitsPart → Bool
misdialled m = is_too_many (called_digits m) || is_empty_whole m.elements.complete (length (called_digits m))

-- ---------------------------------------------------------------- causes
-- a cause that no status gave
abbrev pub own_cause : ℕ → Cause
own_cause v = record { value = v; location = Names.remote_private_network }

-- the cause that counts for a clearing message, which need not carry one, and its status
abbrev pub counted : Option Cause → Cause
counted None = own_cause (counted_cause None)
counted (Some v) = v

abbrev pub status_for : Option Cause → ℕ
status_for cause = status_of (counted cause).value (counted cause).location

-- the cause for a final response that refuses
abbrev pub cause_for : ℕ → Cause
cause_for s = record { value = (cause_of s).0; location = (cause_of s).1 }

-- the requested channel is not available
abbrev pub is_unavailable : Option Cause → Bool
is_unavailable None = false
is_unavailable (Some v) = v.value == Names.channel_unavailable

-- ---------------------------------------------------------------- messages to the exchange
-- the same reference as the other end sends it
abbrev pub turned : CallReference → CallReference
turned r = record r { flag = not r.flag }

-- a message in answer to this reference, with these elements
abbrev pub said : MessageType → CallReference → Elements Digits → Message Digits
said kind r elements = record { reference = turned r; kind = kind; elements = elements }

-- a message on a call: bare, with a cause, with a progress description
abbrev pub tell : MessageType → Call → Message Digits
tell kind k = said kind k.reference bare

abbrev pub tell_cause : MessageType → Call → Option Cause → Message Digits
tell_cause kind k cause = said kind k.reference (record bare { cause = cause })

abbrev pub tell_progress : MessageType → Call → Option ℕ → Message Digits
tell_progress kind k progress = said kind k.reference (record bare { progress = progress })

-- progress descriptions: the call is not QSIG from end to end; tones or speech are to be heard in band
abbrev pub interworking : ℕ
interworking = 1

abbrev pub in_band : ℕ
in_band = 8

-- that channel and no other
abbrev pub exclusively : ℕ → Option Channel
exclusively c = Some (record { number = c; exclusive = true })

-- the SETUP of a call from SIP: its reference is its channel's number, and the number is whole
abbrev pub setup_on : ℕ → Digits → Message Digits
setup_on c ds =
    record { reference = record { flag = false; number = c }; kind = MessageType.Setup; elements = record bare { complete = true; channel = exclusively c; digits = Some ds } }

-- an answer to the SETUP with this reference, which says on which channel the call goes
abbrev pub answer_to_setup : MessageType → CallReference → ℕ → Message Digits
answer_to_setup kind r c = said kind r (record bare { channel = exclusively c })

-- RELEASE COMPLETE with a cause, to a message that makes or finds no call
abbrev pub rejection : CallReference → ℕ → Message Digits
rejection r v = said MessageType.ReleaseComplete r (record bare { cause = Some (own_cause v) })

-- ---------------------------------------------------------------- moves and effects
-- the exchange side's part of a step
pub record ExchangeMove : Type 0 where
  pub side : ExchangeSide
  pub reference : CallReference
  pub channel : ℕ
  pub seized : Option ℕ
  pub released : Option ℕ
  pub timer : Option Timer
  pub sent : List (Message Digits)

-- the SIP side's part; cancelling says that the timer of a CANCEL starts
pub record SipMove : Type 0 where
  pub side : SipSide
  pub cancelling : Bool
  pub sent : List SipMessage

-- what a step does to one place of the table, what it sends and reports, and whether it uses up a number
pub record Effect : Type 0 where
  pub after : Option Call
  pub seized : Option ℕ
  pub released : Option ℕ
  pub timer : Option Timer
  pub cancelling : Bool
  pub exchange : List (Message Digits)
  pub sip : List SipMessage
  pub numbered : Bool

-- a call that is over on both sides is none
abbrev pub unless_gone : Call → Option Call
unless_gone k = if is_gone k then None else Some k

abbrev pub moved_call : Call → Digits → ExchangeMove → SipMove → Call
moved_call k ds a b = record k { reference = a.reference; channel = a.channel; digits = ds; exchange = a.side; sip = b.side }

-- both sides of a call move, and its digits become these
abbrev pub redialled : Call → Digits → ExchangeMove → SipMove → Effect
redialled k ds a b =
    record { after = unless_gone (moved_call k ds a b); seized = a.seized; released = a.released; timer = a.timer; cancelling = b.cancelling; exchange = a.sent; sip = b.sent; numbered = false }

-- both sides of a call move
abbrev pub moved : Call → ExchangeMove → SipMove → Effect
moved k a b = redialled k k.digits a b

-- ---------------------------------------------------------------- moves of the exchange side
-- the state stays, and its timer runs on
abbrev pub stays : Call → List (Message Digits) → ExchangeMove
stays k ms = record { side = k.exchange; reference = k.reference; channel = k.channel; seized = None; released = None; timer = None; sent = ms }

-- a state is entered, and its timer starts
abbrev pub enters : Call → ExchangeSide → List (Message Digits) → ExchangeMove
enters k side ms = record (stays k ms) { side = side; timer = timer_of side }

-- the side is over, and the channel is released
abbrev pub ends : Call → List (Message Digits) → ExchangeMove
ends k ms = record (stays k ms) { side = ExchangeSide.Over; released = Some k.channel }

-- clear the exchange: DISCONNECT, where neither side clears yet
abbrev pub clears_exchange : Call → Cause → ExchangeMove
clears_exchange k cause =
    if is_uncleared k.exchange then (enters k (ExchangeSide.DisconnectSent cause) (tell_cause MessageType.Disconnect k (Some cause) ∷ [])) else stays k []

-- SETUP once more, on a channel that was idle while the refused one was still held; the refused one is released
abbrev pub retries : Call → ℕ → ExchangeMove
retries k c =
    record (enters k ExchangeSide.SetupSent (setup_on c k.digits ∷ [])) { reference = record k.reference { number = c }; channel = c; seized = Some c; released = Some k.channel }

-- RELEASE with the cause that went out before
abbrev pub releases : Call → Bool → ExchangeMove
releases k repeated = enters k (ExchangeSide.ReleaseSent (sent_cause k.exchange) repeated) (tell_cause MessageType.Release k (sent_cause k.exchange) ∷ [])

-- ---------------------------------------------------------------- moves of the SIP side
-- the side is then in this state, and no timer starts
abbrev pub becomes : SipSide → List SipMessage → SipMove
becomes side ms = record { side = side; cancelling = false; sent = ms }

abbrev pub keeps : Call → SipMove
keeps k = becomes k.sip []

-- CANCEL of the INVITE that is out: a call that a SETUP made has one, with its number
abbrev pub cancels : Origin → SipMove
cancels (Origin.Exchange n) = record { side = SipSide.CancelSent; cancelling = true; sent = SipMessage.Cancel n ∷ [] }
cancels Origin.Sip = becomes SipSide.None []

-- clear SIP with a status: CANCEL for an INVITE that is out, the final response for one that is unanswered, BYE for a call that is up
abbrev pub clears_from : Origin → ℕ → SipSide → SipMove
clears_from origin s (SipSide.InviteSent told) = cancels origin
clears_from origin s (SipSide.InviteUnanswered t d) = becomes SipSide.None (SipMessage.Response t s ∷ [])
clears_from origin s (SipSide.Up d) = becomes SipSide.None (SipMessage.Bye d ∷ [])
clears_from origin s other = becomes other []

abbrev pub clears_sip : Call → ℕ → SipMove
clears_sip k s = clears_from k.origin s k.sip

abbrev pub untold : Told
untold = record { alerting = false; interworking = false; inband = false }

-- an INVITE goes out, with the number of the call that a SETUP made
abbrev pub invites : Origin → Digits → SipMove
invites (Origin.Exchange n) ds = becomes (SipSide.InviteSent untold) (SipMessage.Invite n ds ∷ [])
invites Origin.Sip ds = becomes SipSide.None []

-- a provisional response to the INVITE that a call has not answered
abbrev pub responds : ℕ → SipSide → SipMove
responds s (SipSide.InviteUnanswered t d) = becomes (SipSide.InviteUnanswered t d) (SipMessage.Response t s ∷ [])
responds s other = becomes other []

-- 200 to that INVITE
abbrev pub answers : SipSide → SipMove
answers (SipSide.InviteUnanswered t d) = becomes (SipSide.Up d) (SipMessage.Response t Names.ok ∷ [])
answers other = becomes other []

-- the other end's CANCEL or BYE: the unanswered INVITE has its final response, a call that is up is over
abbrev pub leaves_sip : SipSide → SipMove
leaves_sip (SipSide.InviteUnanswered t d) = becomes SipSide.None (SipMessage.Response t Names.request_terminated ∷ [])
leaves_sip (SipSide.Up d) = becomes SipSide.None []
leaves_sip other = becomes other []

-- ---------------------------------------------------------------- a message from the exchange at one call
-- where the state takes it, this effect; elsewhere it is not the time for it
abbrev pub only : Bool → Effect → Result Effect Ground
only in_time e = if in_time then Ok e else Err Ground.NotNow

-- proceed: CALL PROCEEDING to the exchange, INVITE to SIP
abbrev pub proceeds : Call → Digits → Effect
proceeds k ds = redialled k ds (enters k ExchangeSide.Proceeding (tell MessageType.CallProceeding k ∷ [])) (invites k.origin ds)

-- the digits cannot be a number: clear the exchange
abbrev pub spurns : Call → Digits → Effect
spurns k ds = redialled k ds (clears_exchange k (own_cause Names.invalid_number_format)) (keeps k)

-- more digits are awaited, and the timer starts again
abbrev pub awaits : Call → Digits → Effect
awaits k ds = redialled k ds (enters k ExchangeSide.Collecting []) (keeps k)

-- the digits so far: none at all though the number is whole, a whole number, or more to come
abbrev pub dials : ℕ → Bool → Call → Digits → Effect
dials full complete k ds = if is_empty_whole complete ds.count then spurns k ds else if is_whole full complete ds.count then proceeds k ds else awaits k ds

-- the digits so far with those that came; where they are too many, the earlier ones stay
abbrev pub collects : ℕ → Bool → Call → Option Digits → Effect
collects full complete k None = spurns k k.digits
collects full complete k (Some ds) = dials full complete k ds

-- the exchange side ends, and SIP is cleared with this status
abbrev pub ended : Call → ℕ → Effect
ended k s = moved k (ends k []) (clears_sip k s)

-- another channel is tried, if one was idle
abbrev pub tries_again : Option ℕ → Call → Effect
tries_again None k = ended k Names.service_unavailable
tries_again (Some c) k = moved k (retries k c) (keeps k)

-- the exchange clears: RELEASE, and the channel is held until its end
abbrev pub disconnected : Call → ℕ → Effect
disconnected k s = moved k (enters k (ExchangeSide.ReleaseSent None false) (tell MessageType.Release k ∷ [])) (clears_sip k s)

-- the exchange releases; where RELEASE is out too, nothing is sent
abbrev pub released : Call → ℕ → Effect
released k s =
    if is_unreleased k.exchange then moved k (ends k (tell MessageType.ReleaseComplete k ∷ [])) (clears_sip k s) else moved k (ends k []) (keeps k)

-- RELEASE COMPLETE with this cause to the gateway's SETUP asks for another channel
abbrev pub asks_for_another : ExchangeSide → Option Cause → Bool
asks_for_another side cause = is_in ExchangeSide.SetupSent side && is_unavailable cause

-- the exchange has released
abbrev pub completed : Option ℕ → Option Cause → Call → Effect
completed pick cause k = if asks_for_another k.exchange cause then tries_again pick k else ended k (status_for cause)

-- the called party is alerted
abbrev pub alerted : Call → Effect
alerted k = moved k (enters k ExchangeSide.Ringing []) (responds Names.ringing k.sip)

-- the call has come further, and its state stays
abbrev pub progressed : Call → Effect
progressed k = moved k (stays k []) (responds Names.session_progress k.sip)

-- the called party answered
abbrev pub connected : Call → Effect
connected k = moved k (enters k ExchangeSide.Up (tell MessageType.ConnectAcknowledge k ∷ [])) (answers k.sip)

-- a state is entered, and nothing is sent
abbrev pub advanced : Call → ExchangeSide → Effect
advanced k side = moved k (enters k side []) (keeps k)

-- a message of each type; full is the length of a full number, pick an idle channel if there is one
module _ (full : ℕ) (pick : Option ℕ) (m : Message DigitsPart) (k : Call) where
  abbrev pub on_type : MessageType → Result Effect Ground
  on_type MessageType.Alerting = only (from_to ExchangeSide.SetupSent ExchangeSide.ProceedingOutwards k.exchange) (alerted k)
  on_type MessageType.CallProceeding = only (is_in ExchangeSide.SetupSent k.exchange) (advanced k ExchangeSide.ProceedingOutwards)
  on_type MessageType.Progress = only (is_in ExchangeSide.ProceedingOutwards k.exchange) (progressed k)
  on_type MessageType.Setup = Err Ground.ReferenceInUse
  on_type MessageType.Connect = only (from_to ExchangeSide.SetupSent ExchangeSide.Ringing k.exchange) (connected k)
  on_type MessageType.SetupAcknowledge = Err Ground.NotNow
  on_type MessageType.ConnectAcknowledge = only (is_in ExchangeSide.ConnectSent k.exchange) (advanced k ExchangeSide.Up)
  on_type MessageType.Disconnect = only (is_unreleased k.exchange) (disconnected k (status_for m.elements.cause))
  on_type MessageType.Release = Ok (released k (status_for m.elements.cause))
  on_type MessageType.ReleaseComplete = Ok (completed pick m.elements.cause k)
  on_type MessageType.Information =
      only (is_in ExchangeSide.Collecting k.exchange) (collects full m.elements.complete k (record_of (meant k.digits ++ called_digits m)))

-- ---------------------------------------------------------------- an expiry at one call
-- nothing came in time: clear the exchange, and SIP with this status
abbrev pub gives_up : Call → ℕ → Effect
gives_up k s = moved k (clears_exchange k (own_cause Names.recovery_on_timer_expiry)) (clears_sip k s)

abbrev pub on_timer : Call → Timer → Effect
on_timer k Timer.T301 = gives_up k Names.temporarily_unavailable
on_timer k Timer.T302 = if is_nothing (meant k.digits) then spurns k k.digits else proceeds k k.digits
on_timer k Timer.T303 = gives_up k Names.request_timeout
on_timer k Timer.T305 = moved k (releases k false) (keeps k)
on_timer k Timer.T308 = if is_repeated k.exchange then moved k (ends k []) (keeps k) else moved k (releases k true) (keeps k)
on_timer k Timer.T310 = gives_up k Names.request_timeout
on_timer k Timer.T313 = gives_up k Names.request_timeout

abbrev pub on_expiry : Timer → Call → Result Effect Ground
on_expiry t k = if is_running t k.exchange then Ok (on_timer k t) else Err Ground.TimerNotRunning

-- no response came to a CANCEL
abbrev pub on_cancel_expiry : Call → Result Effect Ground
on_cancel_expiry k = if is_cancel_sent k.sip then Ok (moved k (stays k []) (becomes SipSide.None [])) else Err Ground.TimerNotRunning

-- ---------------------------------------------------------------- a SIP event at one call
-- what a provisional response makes known while the INVITE is out, told once and not after ALERTING: with media that something
-- is to be heard, unless it was told; without that the call leaves QSIG, unless either was told
abbrev pub progress_news : Bool → Told → Option News
progress_news true told = if told.inband then None else Some News.InBand
progress_news false told = if told.interworking || told.inband then None else Some News.Interworking

abbrev pub news_of : ℕ → Bool → Told → Option News
news_of s media told =
    if told.alerting then None else if s == Names.ringing then Some News.Alerting
    else if nat_le 181 s && nat_le s Names.session_progress then progress_news media told else None

-- nothing is sent, and nothing changes
abbrev pub rests : Call → Effect
rests k = moved k (stays k []) (keeps k)

-- something is told to the exchange, and kept in mind
abbrev pub announces : Call → Message Digits → Told → Effect
announces k m told = moved k (stays k (m ∷ [])) (becomes (SipSide.InviteSent told) [])

-- ALERTING with description 8 exactly if there are media; PROGRESS with 8 or 1
abbrev pub tells : Call → Bool → Told → Option News → Effect
tells k media told None = rests k
tells k media told (Some News.Alerting) =
    announces k (tell_progress MessageType.Alerting k (if media then Some in_band else None)) (record told { alerting = true })
tells k media told (Some News.InBand) = announces k (tell_progress MessageType.Progress k (Some in_band)) (record told { inband = true })
tells k media told (Some News.Interworking) = announces k (tell_progress MessageType.Progress k (Some interworking)) (record told { interworking = true })

-- a provisional response; while CANCEL is out it is taken, and nothing is sent
abbrev pub provisional : Call → ℕ → Bool → SipSide → Effect
provisional k s media (SipSide.InviteSent told) = tells k media told (news_of s media told)
provisional k s media _ = rests k

-- a final response that refuses: the SIP side is over, and the exchange is cleared unless CANCEL was sent
abbrev pub fails : Call → Cause → Effect
fails k cause =
    if is_invite_sent k.sip then moved k (clears_exchange k cause) (becomes SipSide.None []) else moved k (stays k []) (becomes SipSide.None [])

-- a 200 that is not wanted is acknowledged and ended
abbrev pub ack_and_bye : ℕ → ℕ → List SipMessage
ack_and_bye n d = SipMessage.Ack n d ∷ SipMessage.Bye d ∷ []

-- a 200 on dialogue d: CONNECT and ACK for an INVITE that is out; ACK where it is the 200 that the call is up by; else ACK and BYE
abbrev pub accepts : Call → ℕ → ℕ → SipSide → Effect
accepts k n d (SipSide.InviteSent told) =
    moved k (enters k ExchangeSide.ConnectSent (tell MessageType.Connect k ∷ [])) (becomes (SipSide.Up d) (SipMessage.Ack n d ∷ []))
accepts k n d (SipSide.Up x) = moved k (stays k []) (becomes k.sip (if x == d then SipMessage.Ack n d ∷ [] else ack_and_bye n d))
accepts k n d SipSide.CancelSent = moved k (stays k []) (becomes SipSide.None (ack_and_bye n d))
accepts k n d _ = moved k (stays k []) (becomes k.sip (ack_and_bye n d))

-- the other end's CANCEL or BYE: the exchange is cleared
abbrev pub leaves : Call → Effect
leaves k = moved k (clears_exchange k (own_cause Names.normal_clearing)) (leaves_sip k.sip)

-- ---------------------------------------------------------------- a new call
abbrev pub made : Call → Message Digits → List SipMessage → Bool → Effect
made k m ms numbered =
    record { after = Some k; seized = Some k.channel; released = None; timer = timer_of k.exchange; cancelling = false; exchange = m ∷ []; sip = ms; numbered = numbered }

-- the call that a SETUP makes, with the next number n, on channel c
abbrev pub setup_call : Message DigitsPart → ℕ → ℕ → ExchangeSide → SipSide → Call
setup_call m n c exchange sip =
    record { reference = m.reference; channel = c; origin = Origin.Exchange n; digits = recorded (called_digits m); exchange = exchange; sip = sip }

-- a number that is whole proceeds
abbrev pub begins_proceeding : Message DigitsPart → ℕ → ℕ → Effect
begins_proceeding m n c =
    made (setup_call m n c ExchangeSide.Proceeding (SipSide.InviteSent untold)) (answer_to_setup MessageType.CallProceeding m.reference c) (SipMessage.Invite n (recorded (called_digits m)) ∷ []) true

-- more digits are awaited
abbrev pub begins_collecting : Message DigitsPart → ℕ → ℕ → Effect
begins_collecting m n c = made (setup_call m n c ExchangeSide.Collecting SipSide.None) (answer_to_setup MessageType.SetupAcknowledge m.reference c) [] true

abbrev pub begins : ℕ → Message DigitsPart → ℕ → ℕ → Effect
begins full m n c = if is_whole full m.elements.complete (length (called_digits m)) then begins_proceeding m n c else begins_collecting m n c

-- the call that an INVITE makes, on channel c; its reference is the gateway's
abbrev pub invite_call : ℕ → ℕ → List ℕ → ℕ → Call
invite_call t d xs c =
    record { reference = record { flag = true; number = c }; channel = c; origin = Origin.Sip; digits = recorded xs; exchange = ExchangeSide.SetupSent; sip = SipSide.InviteUnanswered t d }

abbrev pub invited : ℕ → ℕ → List ℕ → ℕ → Effect
invited t d xs c = made (invite_call t d xs c) (setup_on c (recorded xs)) [] false
