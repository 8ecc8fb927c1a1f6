-- What the answers of this crate cite, of the rules, of the crates below and of the lemmas beside them.
pub use Rattle.call_table.specs.Moves.{Took}
pub use Rattle.call_table.specs.Tokens.{token_channel}
pub use Rattle.calls.proofs.Choices.{fair_choice, fair_pick, fair_place}
pub use Rattle.calls.proofs.Dids.{bounded, did, first_taken, in_room, moved, plainly}
pub use Rattle.calls.proofs.Sounds.{sound_set}
pub use Rattle.calls.specs.Effects.{Effect, begins, invited, misdialled, on_cancel_expiry, on_expiry, on_type, tries_again}
pub use Rattle.calls.specs.Refusing.{placed}
pub use Rattle.calls.specs.Rules.{Bye, Cancel, CancelExpiry, Change, Choice, Expiry, Fair, Outcome, Refuse, Response, State, TookExchange, TookSip, admitted, at, at_call, by_number, by_reference, by_transaction, calls_out, dialling_status, is_roomy, is_status, on_invite, on_leave, on_message, on_octets, on_response, on_setup, outcome, refuse, rejects, replies, roomed, seated, seek, applied, uncalled, unless_answered, unless_refused}
pub use Rattle.calls.specs.Run.{opened}
pub use Rattle.calls.specs.Sides.{holds_dialogue}
pub use Rattle.calls.specs.Standing.{is_sound}
pub use Rattle.decisions.specs.Outcomes.{outcome_of}
pub use Rattle.effects.specs.Moves.{effect_of}
pub use Rattle.gateway.proofs.Seizures.{again_seizes, begins_seizes, granted_by, possible_at, ready_again, ready_begins, seated_by}
pub use Rattle.gateway.proofs.Channels.{all_unknown}
pub use Rattle.gateway.proofs.PoolMoves.{moved_by, unmoved, unmoved_quiet, unmoved_refused}
pub use Rattle.gateway.proofs.Closed.{turned_away_lem, unpicked}
pub use Rattle.gateway.proofs.Ways.{found_live, full_refused, passed_on, possible_step, replied}
pub use Rattle.gateway.specs.Stands.{Granted, Possible, Ready, state_of}
pub use Rattle.messages.specs.Reading.{decoded}
pub use Rattle.messages.specs.declared.record.Part.{Part}
pub use Rattle.queues.specs.Waiting.{room, waiting}
pub use Rattle.reader.specs.Seen.{seen_record}
pub use Rattle.gateway.specs.Records.{Answer, Found, Refused, Report, SipMessage, Message, Channel, Ground}
