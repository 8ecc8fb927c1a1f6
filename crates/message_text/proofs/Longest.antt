-- No message that can be written takes more than 47 octets.
use Rattle.std.proofs.Common.{◌≡◌, ℕ, ◌≤◌, Bool, true, false, cond, ◌&&◌, List, [], ◌∷◌, length, Some, None, Option, arith, length-append}
use Rattle.std.proofs.lemmas.Bool.{and_parts, leb-true}
use Rattle.messages.specs.declared.record.Cause.{Cause}
use Rattle.messages.specs.declared.record.Channel.{Channel}
use Rattle.messages.specs.declared.record.Message.{Message}
use Rattle.messages.specs.Types.{is_setup}
use Rattle.messages.specs.Writing.{encoded, complete_octets, cause_octets, channel_octets, progress_octets, digits_octets, element, reference_fits, cause_fits, channel_fits, progress_fits, digits_fit, is_writable}

complete_at_most : (b : Bool) → length (complete_octets b) ≤ 1
complete_at_most true = omega arith
complete_at_most false = omega arith

bearer_at_most : (b : Bool) → length (cond b (element 4 (128 ∷ 144 ∷ 163 ∷ [])) []) ≤ 5
bearer_at_most true = omega arith
bearer_at_most false = omega arith

cause_at_most : (o : Option Cause) → length (cause_octets o) ≤ 4
cause_at_most None = omega arith
cause_at_most (Some c) = omega arith

channel_at_most : (o : Option Channel) → length (channel_octets o) ≤ 5
channel_at_most None = omega arith
channel_at_most (Some c) = omega arith

progress_at_most : (o : Option ℕ) → length (progress_octets o) ≤ 4
progress_at_most None = omega arith
progress_at_most (Some p) = omega arith

digits_at_most : (o : Option (List ℕ)) → digits_fit o ≡ true → length (digits_octets o) ≤ 23
digits_at_most None h = omega arith
digits_at_most (Some ds) h = let few = leb-true (length ds) 20 (and_parts _ _ h).0 in omega arith

pub at_most : (m : Message (List ℕ)) → is_writable m ≡ true → length (encoded m) ≤ 47
at_most m h =
    let e = m.elements in
    let last : channel_fits e.channel && (progress_fits e.progress && digits_fit e.digits) ≡ true = (and_parts (cause_fits e.cause) _ (and_parts (reference_fits m.reference m.kind) _ h).1).1 in
    let fit : digits_fit e.digits ≡ true = (and_parts (progress_fits e.progress) _ (and_parts (channel_fits e.channel) _ last).1).1 in
    let complete = complete_at_most e.complete in
    let bearer = bearer_at_most (is_setup m.kind) in
    let cause = cause_at_most e.cause in
    let channel = channel_at_most e.channel in
    let progress = progress_at_most e.progress in
    let digits = digits_at_most e.digits fit in
    simp length-append (omega arith)
