-- The records and enums of this crate's code, as definitions and proofs bring them in.
pub use Rattle.messages.specs.declared.kind.MessageType.{MessageType}
pub use Rattle.messages.specs.declared.kind.UnknownCode.{UnknownCode}
pub use Rattle.messages.specs.declared.record.CallReference.{CallReference}
pub use Rattle.messages.specs.declared.record.Cause.{Cause}
pub use Rattle.messages.specs.declared.record.Channel.{Channel}
pub use Rattle.messages.specs.declared.record.Elements.{Elements}
pub use Rattle.messages.specs.declared.record.Message.{Message}
pub use Rattle.messages.specs.declared.record.Misread.{Misread}
pub use Rattle.messages.specs.declared.record.Part.{Part}
