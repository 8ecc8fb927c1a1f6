-- The records and enums of the code, as the definitions and proofs of this crate bring them in.
pub use Rattle.call_table.specs.declared.token.Token.{Token}
pub use Rattle.calls.specs.declared.answers.Answer.{Answer}
pub use Rattle.calls.specs.declared.answers.Refused.{Refused}
pub use Rattle.calls.specs.declared.answers.Report.{Report}
pub use Rattle.calls.specs.declared.outgoing.SipMessage.{SipMessage}
pub use Rattle.calls.specs.declared.record.Call.{Call}
pub use Rattle.calls.specs.declared.record.Digits.{Digits}
pub use Rattle.calls.specs.declared.record.Found.{Found}
pub use Rattle.calls.specs.declared.sides.ExchangeSide.{ExchangeSide}
pub use Rattle.messages.specs.declared.kind.MessageType.{MessageType}
pub use Rattle.messages.specs.declared.record.CallReference.{CallReference}
pub use Rattle.messages.specs.declared.record.Channel.{Channel}
pub use Rattle.messages.specs.declared.record.Message.{Message}
pub use Rattle.refusals.specs.declared.Ground.{Ground}
