-- The names by which people know the states of a call.
use Rattle.std.specs.Prelude.{ℕ, Bool, List, codes, if◌then◌else◌}
use Rattle.calls.specs.declared.sides.ExchangeSide.{ExchangeSide}
use Rattle.calls.specs.declared.sides.ExchangeSide.TheVariants as exchange
use Rattle.calls.specs.declared.sides.SipSide.{SipSide}
use Rattle.calls.specs.declared.sides.SipSide.TheVariants as sip

abbrev pub exchange_name : ExchangeSide → List ℕ
exchange_name exchange.Over = codes "over"
exchange_name exchange.Collecting = codes "collecting"
exchange_name exchange.Proceeding = codes "proceeding"
exchange_name exchange.ConnectSent = codes "connect-sent"
exchange_name exchange.Up = codes "up"
exchange_name exchange.SetupSent = codes "setup-sent"
exchange_name exchange.ProceedingOutwards = codes "proceeding-outwards"
exchange_name exchange.Ringing = codes "ringing"
exchange_name (exchange.DisconnectSent cause) = codes "disconnect-sent"
exchange_name (exchange.ReleaseSent cause repeated) = codes "release-sent"

abbrev pub sip_name : SipSide → List ℕ
sip_name sip.None = codes "none"
sip_name (sip.InviteSent told) = codes "invite-sent"
sip_name (sip.InviteUnanswered transaction dialogue) = codes "invite-unanswered"
sip_name (sip.Up dialogue) = codes "up"
sip_name sip.CancelSent = codes "cancel-sent"

abbrev pub yes_or_no : Bool → List ℕ
yes_or_no flag = if flag then codes "yes" else codes "no"
