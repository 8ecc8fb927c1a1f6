-- Where the two sides of a call stand, which timer runs, what it holds and owes; and what a message is to the counts.
use Rattle.std.specs.Prelude.{ℕ, ◌+◌, Bool, false, ◌&&◌, ◌||◌, List, [], ◌∷◌, Some, None, Option, ◌==◌, if◌then◌else◌, nat_le}
use Rattle.calls.specs.Records.{Cause, Message, Timer, SipMessage, Call, Digits, Origin, ExchangeSide, SipSide}
use Rattle.messages.specs.Types.{code_of}
use Rattle.causes.specs.Names

-- ---------------------------------------------------------------- the exchange side
-- the states in an order in which a span of them can be said by its two ends: those of a call from the exchange, those of a
-- call to it, those of clearing
abbrev pub stage : ExchangeSide → ℕ
stage ExchangeSide.Over = 0
stage ExchangeSide.Collecting = 1
stage ExchangeSide.Proceeding = 2
stage ExchangeSide.ConnectSent = 3
stage ExchangeSide.Up = 4
stage ExchangeSide.SetupSent = 5
stage ExchangeSide.ProceedingOutwards = 6
stage ExchangeSide.Ringing = 7
stage (ExchangeSide.DisconnectSent cause) = 8
stage (ExchangeSide.ReleaseSent cause repeated) = 9

-- the side is in this state, or in one of those from the one to the other
abbrev pub is_in : ExchangeSide → ExchangeSide → Bool
is_in state side = stage side == stage state

abbrev pub from_to : ExchangeSide → ExchangeSide → ExchangeSide → Bool
from_to first last side = nat_le (stage first) (stage side) && nat_le (stage side) (stage last)

abbrev pub is_over : ExchangeSide → Bool
is_over side = is_in ExchangeSide.Over side

-- neither over nor being cleared: DISCONNECT can be sent
abbrev pub is_uncleared : ExchangeSide → Bool
is_uncleared side = from_to ExchangeSide.Collecting ExchangeSide.Ringing side

-- neither over nor waiting for the end of a RELEASE
abbrev pub is_unreleased : ExchangeSide → Bool
is_unreleased side = nat_le 1 (stage side) && nat_le (stage side) 8

-- the timer that runs in a state
abbrev pub timer_of : ExchangeSide → Option Timer
timer_of ExchangeSide.Collecting = Some Timer.T302
timer_of ExchangeSide.ConnectSent = Some Timer.T313
timer_of ExchangeSide.SetupSent = Some Timer.T303
timer_of ExchangeSide.ProceedingOutwards = Some Timer.T310
timer_of ExchangeSide.Ringing = Some Timer.T301
timer_of (ExchangeSide.DisconnectSent cause) = Some Timer.T305
timer_of (ExchangeSide.ReleaseSent cause repeated) = Some Timer.T308
timer_of _ = None

-- the last two digits of a timer's name, by which timers are compared
abbrev pub timer_name : Timer → ℕ
timer_name Timer.T301 = 1
timer_name Timer.T302 = 2
timer_name Timer.T303 = 3
timer_name Timer.T305 = 5
timer_name Timer.T308 = 8
timer_name Timer.T310 = 10
timer_name Timer.T313 = 13

abbrev pub is_timer : Timer → Option Timer → Bool
is_timer t None = false
is_timer t (Some x) = timer_name x == timer_name t

-- does this timer run
abbrev pub is_running : Timer → ExchangeSide → Bool
is_running t side = is_timer t (timer_of side)

-- the cause that went out with the DISCONNECT or the RELEASE
abbrev pub sent_cause : ExchangeSide → Option Cause
sent_cause (ExchangeSide.DisconnectSent cause) = Some cause
sent_cause (ExchangeSide.ReleaseSent cause repeated) = cause
sent_cause _ = None

-- the RELEASE went out twice
abbrev pub is_repeated : ExchangeSide → Bool
is_repeated (ExchangeSide.ReleaseSent cause repeated) = repeated
is_repeated _ = false

-- ---------------------------------------------------------------- the SIP side
-- the states by number
abbrev pub sip_stage : SipSide → ℕ
sip_stage SipSide.None = 0
sip_stage (SipSide.InviteSent told) = 1
sip_stage (SipSide.InviteUnanswered t d) = 2
sip_stage (SipSide.Up d) = 3
sip_stage SipSide.CancelSent = 4

-- over, or not begun
abbrev pub is_no_sip : SipSide → Bool
is_no_sip side = sip_stage side == 0

-- an INVITE went out, and neither answer nor CANCEL
abbrev pub is_invite_sent : SipSide → Bool
is_invite_sent side = sip_stage side == 1

-- CANCEL went out, and its timer runs
abbrev pub is_cancel_sent : SipSide → Bool
is_cancel_sent side = sip_stage side == 4

-- an INVITE of the gateway's own went out, and the final response is awaited
abbrev pub awaits_response : SipSide → Bool
awaits_response side = is_invite_sent side || is_cancel_sent side

-- the INVITE with this transaction came and has no final response yet
abbrev pub is_unanswered : ℕ → SipSide → Bool
is_unanswered t (SipSide.InviteUnanswered x d) = x == t
is_unanswered t _ = false

-- up on this dialogue
abbrev pub is_up_on : ℕ → SipSide → Bool
is_up_on d (SipSide.Up x) = x == d
is_up_on d _ = false

-- a dialogue is held from the INVITE that came, or from the 200, on
abbrev pub is_held_by : ℕ → SipSide → Bool
is_held_by d (SipSide.InviteUnanswered t x) = x == d
is_held_by d (SipSide.Up x) = x == d
is_held_by d _ = false

-- ---------------------------------------------------------------- a call
-- 1 or 0
abbrev pub one_if : Bool → ℕ
one_if b = if b then 1 else 0

-- the optional number is n
abbrev pub equals_some : ℕ → Option ℕ → Bool
equals_some n None = false
equals_some n (Some x) = n == x

abbrev pub named : ℕ → Option ℕ → ℕ
named c o = one_if (equals_some c o)

-- the number of a call that a SETUP made
abbrev pub number_of : Origin → Option ℕ
number_of (Origin.Exchange n) = Some n
number_of Origin.Sip = None

-- the channel of a call: its own while its exchange side is not over, else none
abbrev pub channel_from : ExchangeSide → ℕ → Option ℕ
channel_from side channel = if is_over side then None else Some channel

abbrev pub held_channel : Call → Option ℕ
held_channel k = channel_from k.exchange k.channel

-- a call holds its channel
abbrev pub holds_from : ℕ → ExchangeSide → ℕ → ℕ
holds_from c side channel = named c (channel_from side channel)

abbrev pub holds : ℕ → Call → ℕ
holds c k = holds_from c k.exchange k.channel

-- a call owes a final response to the INVITE that it has not answered
abbrev pub owes_from : ℕ → SipSide → ℕ
owes_from t side = one_if (is_unanswered t side)

abbrev pub owes : ℕ → Call → ℕ
owes t k = owes_from t k.sip

abbrev pub holds_dialogue : ℕ → Call → Bool
holds_dialogue d k = is_held_by d k.sip

-- over on both sides: no call
abbrev pub is_gone : Call → Bool
is_gone k = is_over k.exchange && is_no_sip k.sip

-- ---------------------------------------------------------------- counts
abbrev pub on_call : (Call → ℕ) → Option Call → ℕ
on_call f None = 0
on_call f (Some k) = f k

-- the sum over the calls of a table
abbrev pub sum_of : (Call → ℕ) → List (Option Call) → ℕ
sum_of f [] = 0
sum_of f (o ∷ os) = on_call f o + sum_of f os

-- CONNECT with this reference
abbrev pub connects : ℕ → Message Digits → ℕ
connects r m = one_if (code_of m.kind == 0x07 && m.reference.number == r)

abbrev pub connects_in : ℕ → List (Message Digits) → ℕ
connects_in r [] = 0
connects_in r (m ∷ ms) = connects r m + connects_in r ms

-- a final response, provisional ones are below it
abbrev pub is_final : ℕ → Bool
is_final s = nat_le Names.first_final s && nat_le s Names.last_status

abbrev pub final : ℕ → SipMessage → ℕ
final t (SipMessage.Response x s) = one_if (is_final s && x == t)
final t _ = 0

abbrev pub finals_in : ℕ → List SipMessage → ℕ
finals_in t [] = 0
finals_in t (m ∷ ms) = final t m + finals_in t ms

-- an INVITE of the gateway's own with number n, and a CANCEL of it
abbrev pub own_invite : ℕ → SipMessage → ℕ
own_invite n (SipMessage.Invite x ds) = one_if (x == n)
own_invite n _ = 0

abbrev pub own_invites_in : ℕ → List SipMessage → ℕ
own_invites_in n [] = 0
own_invites_in n (m ∷ ms) = own_invite n m + own_invites_in n ms

abbrev pub cancel : ℕ → SipMessage → ℕ
cancel n (SipMessage.Cancel x) = one_if (x == n)
cancel n _ = 0

abbrev pub cancels_in : ℕ → List SipMessage → ℕ
cancels_in n [] = 0
cancels_in n (m ∷ ms) = cancel n m + cancels_in n ms

abbrev pub bye : ℕ → SipMessage → Bool
bye d (SipMessage.Bye x) = x == d
bye d _ = false

abbrev pub bye_in : ℕ → List SipMessage → Bool
bye_in d [] = false
bye_in d (m ∷ ms) = bye d m || bye_in d ms
