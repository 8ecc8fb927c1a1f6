-- What `==` of two messages answers: true of messages with the same values, and of no others.
use Rattle.std.proofs.Common.{◌≡◌, ℕ, Bool, ◌&&◌, ◌==◌, List, None, Some, Option, refl, ap, sym, true≢false, rules}
use Rattle.std.specs.Bool.{beq, Decides}
use Rattle.std.specs.Borrow.{Bor}
use Rattle.std.specs.Cmp.{booleans_Decides, unsigned_Decides}
use Rattle.std.specs.Option.{is_some, option_eq, option_map, unwrap_or}
use Rattle.std.specs.Str.{bytes_eq}
use Rattle.std.proofs.lemmas.Bool.Decides.{Decides-and, Decides-like}
use Rattle.std.proofs.lemmas.Slice.Eq.{bytes_eq-Decides}
use denote.Enum.Bare.{sameb, same_true, true_same}
use Rattle.messages.specs.contracts.kind.MessageType.{the_type}
use Rattle.messages.specs.declared.kind.MessageType.{MessageType}
use Rattle.messages.specs.declared.record.CallReference.{CallReference}
use Rattle.messages.specs.declared.record.Cause.{Cause}
use Rattle.messages.specs.declared.record.Channel.{Channel}
use Rattle.messages.specs.declared.record.Elements.{Elements}
use Rattle.messages.specs.declared.record.Message.{Message}
use Rattle.writer.specs.Values.{values, values_of}

-- two options are the same where neither holds a value, or both hold what the test takes for the same
option_Decides : {A B : Type 0} (f : A → B) (E : A → A → Bool) → ((x y : A) → Decides (E x y) (f x ≡ f y)) → (x y : Option A) → Decides (option_eq E x y) (option_map f x ≡ option_map f y)
option_Decides f E d None None = (λ e. refl, λ e. refl)
option_Decides f E d None (Some y) = (λ e. absurd (true≢false (sym e)), λ e. ap is_some e)
option_Decides f E d (Some x) None = (λ e. absurd (true≢false (sym e)), λ e. sym (ap is_some e))
option_Decides f E d (Some x) (Some y) = (λ e. ap Some ((d x y).0 e), λ e. (d x y).1 (ap (λ o. unwrap_or o (f x)) e))

plain_Decides : {A : Type 0} (E : A → A → Bool) → ((x y : A) → Decides (E x y) (x ≡ y)) → (x y : Option A) → Decides (option_eq E x y) (x ≡ y)
plain_Decides E d None None = (λ e. refl, λ e. refl)
plain_Decides E d None (Some y) = (λ e. absurd (true≢false (sym e)), λ e. ap is_some e)
plain_Decides E d (Some x) None = (λ e. absurd (true≢false (sym e)), λ e. sym (ap is_some e))
plain_Decides E d (Some x) (Some y) = (λ e. ap Some ((d x y).0 e), λ e. (d x y).1 (ap (λ o. unwrap_or o x) e))

kind_Decides : (x y : MessageType) → Decides (sameb the_type x y) (x ≡ y)
kind_Decides x y = (same_true the_type (search rules) x y, true_same the_type x y)

abbrev same_reference : CallReference → CallReference → Bool
same_reference x y = beq x.flag y.flag && x.number == y.number

reference_Decides : (x y : CallReference) → Decides (same_reference x y) (x ≡ y)
reference_Decides x y =
    Decides-like _ (λ h i. record { flag = h.0 i; number = h.1 i }) (λ e. (ap (λ (r : CallReference). r.flag) e, ap (λ (r : CallReference). r.number) e))
    (Decides-and (beq x.flag y.flag) (x.number == y.number) (booleans_Decides x.flag y.flag) (unsigned_Decides x.number y.number))

abbrev same_cause : Cause → Cause → Bool
same_cause x y = x.value == y.value && x.location == y.location

cause_Decides : (x y : Cause) → Decides (same_cause x y) (x ≡ y)
cause_Decides x y =
    Decides-like _ (λ h i. record { value = h.0 i; location = h.1 i }) (λ e. (ap (λ (r : Cause). r.value) e, ap (λ (r : Cause). r.location) e))
    (Decides-and (x.value == y.value) (x.location == y.location) (unsigned_Decides x.value y.value) (unsigned_Decides x.location y.location))

abbrev same_channel : Channel → Channel → Bool
same_channel x y = x.number == y.number && beq x.exclusive y.exclusive

channel_Decides : (x y : Channel) → Decides (same_channel x y) (x ≡ y)
channel_Decides x y =
    Decides-like _ (λ h i. record { number = h.0 i; exclusive = h.1 i }) (λ e. (ap (λ (r : Channel). r.number) e, ap (λ (r : Channel). r.exclusive) e))
    (Decides-and (x.number == y.number) (beq x.exclusive y.exclusive) (unsigned_Decides x.number y.number) (booleans_Decides x.exclusive y.exclusive))

abbrev same_octets : Bor (List ℕ) → Bor (List ℕ) → Bool
same_octets x y = bytes_eq x.now y.now

abbrev same_elements : Elements (Bor (List ℕ)) → Elements (Bor (List ℕ)) → Bool
same_elements x y =
    beq x.complete y.complete
    && (option_eq same_cause x.cause y.cause
    && (option_eq same_channel x.channel y.channel
    && (option_eq (◌==◌) x.progress y.progress && option_eq same_octets x.digits y.digits)))

abbrev same : Message (Bor (List ℕ)) → Message (Bor (List ℕ)) → Bool
same x y = same_reference x.reference y.reference && (sameb the_type x.kind y.kind && same_elements x.elements y.elements)

-- the elements, with their digits as a list
abbrev with_values : Elements (Bor (List ℕ)) → Elements (List ℕ)
with_values x = record { complete = x.complete; cause = x.cause; channel = x.channel; progress = x.progress; digits = values_of x.digits }

elements_Decides : (x y : Elements (Bor (List ℕ))) → Decides (same_elements x y) (with_values x ≡ with_values y)
elements_Decides x y =
    Decides-like _
    (λ h i. record { complete = h.0 i; cause = h.1.0 i; channel = h.1.1.0 i; progress = h.1.1.1.0 i; digits = h.1.1.1.1 i })
    (λ e. (ap (λ (r : Elements (List ℕ)). r.complete) e, (ap (λ (r : Elements (List ℕ)). r.cause) e, (ap (λ (r : Elements (List ℕ)). r.channel) e, (ap (λ (r : Elements (List ℕ)). r.progress) e, ap (λ (r : Elements (List ℕ)). r.digits) e)))))
    (Decides-and _ _ (booleans_Decides x.complete y.complete)
    (Decides-and _ _ (plain_Decides same_cause cause_Decides x.cause y.cause)
    (Decides-and _ _ (plain_Decides same_channel channel_Decides x.channel y.channel)
    (Decides-and _ _ (plain_Decides (◌==◌) unsigned_Decides x.progress y.progress)
    (option_Decides (λ r. r.now) same_octets (λ a b. bytes_eq-Decides a.now b.now) x.digits y.digits)))))

pub same_Decides : (x y : Message (Bor (List ℕ))) → Decides (same x y) (values x ≡ values y)
same_Decides x y =
    Decides-like _
    (λ h i. record { reference = h.0 i; kind = h.1.0 i; elements = h.1.1 i })
    (λ e. (ap (λ (r : Message (List ℕ)). r.reference) e, (ap (λ (r : Message (List ℕ)). r.kind) e, ap (λ (r : Message (List ℕ)). r.elements) e)))
    (Decides-and _ _ (reference_Decides x.reference y.reference)
    (Decides-and _ _ (kind_Decides x.kind y.kind) (elements_Decides x.elements y.elements)))
