-- How answers and calls read, a line each.
use Rattle.std.specs.Prelude.{ℕ, List, [], ◌++◌, Some, None, Ok, Err, Option, if◌then◌else◌, codes, decimal}
use Rattle.std.specs.Option.{option_map}
use Rattle.refusals.specs.Grounds.{refusal_text}
use Rattle.messages.specs.Elements.{DigitsPart}
use Rattle.messages.specs.Shown.{part_text}
use Rattle.message_text.specs.Lines.{line_of}
use Rattle.messages.specs.declared.record.CallReference.{CallReference}
use Rattle.messages.specs.declared.record.Message.{Message}
use Rattle.calls.specs.declared.answers.Answer.{Answer}
use Rattle.calls.specs.declared.answers.Answer.TheVariants as answer
use Rattle.calls.specs.declared.answers.Report.{Report}
use Rattle.calls.specs.declared.answers.Timer.{Timer}
use Rattle.calls.specs.declared.outgoing.SipMessage.{SipMessage}
use Rattle.calls.specs.declared.outgoing.SipMessage.TheVariants as sip
use Rattle.calls.specs.declared.record.Call.{Call}
use Rattle.calls.specs.declared.record.Digits.{Digits}
use Rattle.calls.specs.declared.record.Origin.{Origin}
use Rattle.calls.specs.declared.record.Origin.TheVariants as origin
use Rattle.calls.specs.declared.sides.SipSide.{SipSide}
use Rattle.calls.specs.declared.sides.SipSide.TheVariants as side
use Rattle.calls.specs.Effects.{meant}
use Rattle.calls.specs.Sides.{held_channel}
use Rattle.script_commands.specs.Timers.{timer_name}
use Rattle.script_lines.specs.Names.{exchange_name, sip_name, yes_or_no}

-- a channel, or a dash where there is none
abbrev pub channel_text : Option ℕ → List ℕ
channel_text None = codes "-"
channel_text (Some channel) = decimal channel

-- a timer's name, or a dash where there is none
abbrev pub timer_text : Option Timer → List ℕ
timer_text None = codes "-"
timer_text (Some timer) = timer_name timer

abbrev pub report_text : Report → List ℕ
report_text report =
    codes "report seized=" ++ (channel_text report.seized ++ (codes " released=" ++ (channel_text report.released
    ++ (codes " timer=" ++ (timer_text report.timer ++ (codes " tc=" ++ yes_or_no report.cancelling))))))

-- the digits of a record, or a dash where there are none
abbrev pub digits_text : Digits → List ℕ
digits_text digits = part_text (meant digits)

abbrev pub sip_text : SipMessage → List ℕ
sip_text (sip.Invite number digits) = codes "sip INVITE n=" ++ (decimal number ++ (codes " digits=" ++ digits_text digits))
sip_text (sip.Cancel number) = codes "sip CANCEL n=" ++ decimal number
sip_text (sip.Ack number dialogue) = codes "sip ACK n=" ++ (decimal number ++ (codes " d=" ++ decimal dialogue))
sip_text (sip.Bye dialogue) = codes "sip BYE d=" ++ decimal dialogue
sip_text (sip.Response transaction status) = codes "sip RESPONSE t=" ++ (decimal transaction ++ (codes " status=" ++ decimal status))

-- the digits of a record stand in no octets: their place says nothing
abbrev pub lent_digits : Digits → DigitsPart
lent_digits digits = record { place = 0; octets = meant digits }

-- a message with its digits lent, all else the same
abbrev pub lent : Message Digits → Message DigitsPart
lent m =
    record {
      reference = m.reference;
      kind = m.kind;
      elements = record {
        complete = m.elements.complete;
        cause = m.elements.cause;
        channel = m.elements.channel;
        progress = m.elements.progress;
        digits = option_map lent_digits m.elements.digits;
      };
    }

-- a report or a refusal, or the message that was taken, one for the exchange with its octets
abbrev pub answer_text : Answer → Option (List ℕ)
answer_text (answer.Step (Ok report)) = Some (report_text report)
answer_text (answer.Step (Err refused)) = Some (refusal_text refused.ground refused.place)
answer_text (answer.Exchange (Some message)) = line_of (lent message)
answer_text (answer.Exchange None) = Some (codes "none")
answer_text (answer.Sip (Some message)) = Some (sip_text message)
answer_text (answer.Sip None) = Some (codes "none")

abbrev pub reference_text : CallReference → List ℕ
reference_text reference = codes "call flag=" ++ (decimal (if reference.flag then 1 else 0) ++ (codes " reference=" ++ decimal reference.number))

-- the channel that the call holds, and the states of both sides
abbrev pub sides_text : Call → List ℕ
sides_text k =
    codes " channel=" ++ (channel_text (held_channel k) ++ (codes " exchange=" ++ (exchange_name k.exchange ++ (codes " sip=" ++ sip_name k.sip))))

-- the number of a call that a SETUP made
abbrev pub origin_text : Origin → List ℕ
origin_text (origin.Exchange number) = codes " n=" ++ decimal number
origin_text origin.Sip = []

-- the transaction that waits for its answer, and the dialogue
abbrev pub dialogue_text : SipSide → List ℕ
dialogue_text side.None = []
dialogue_text (side.InviteSent told) = []
dialogue_text (side.InviteUnanswered transaction dialogue) = codes " t=" ++ (decimal transaction ++ (codes " d=" ++ decimal dialogue))
dialogue_text (side.Up dialogue) = codes " d=" ++ decimal dialogue
dialogue_text side.CancelSent = []

abbrev pub call_text : Call → List ℕ
call_text k =
    reference_text k.reference ++ (sides_text k ++ (origin_text k.origin ++ (dialogue_text k.sip ++ (codes " digits=" ++ digits_text k.digits))))
