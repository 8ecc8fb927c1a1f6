-- Parts of the rules that leave nothing open.
use Rattle.std.proofs.Common.{◌≡◌, ℕ, Bool, true, false, ◌&&◌, None, Ok, Option, sym, refl, ap, ◌∙◌, arith}
use Rattle.std.proofs.lemmas.Bool.{cond-false}
use Rattle.gateway.specs.Records.{MessageType, Message, Call}
use Rattle.messages.specs.Elements.{DigitsPart}
use Rattle.messages.specs.Types.{is_setup}
use Rattle.calls.specs.Effects.{tries_again, asks_for_another, on_type}
use Rattle.calls.specs.Rules.{State, Choice, turned_away, uncalled}
use Rattle.decisions.specs.Outcomes.{is_release_complete, wants_another}

-- only where another channel is asked for does the picked one matter
module _ (full : ℕ) (pick : Option ℕ) (m : Message DigitsPart) (k : Call) where
  abbrev asks : Bool
  asks = asks_for_another k.exchange m.elements.cause

  unpicked_type : (kind : MessageType) → (is_release_complete kind && asks) ≡ false → on_type full pick m k kind ≡ on_type full None m k kind
  unpicked_type MessageType.ReleaseComplete e = ap Ok (cond-false asks (tries_again pick k) _ e ∙ sym (cond-false asks (tries_again None k) _ e))
  unpicked_type _ e = refl

  pub unpicked : wants_another m k ≡ false → on_type full pick m k m.kind ≡ on_type full None m k m.kind
  unpicked e = unpicked_type m.kind e

pub turned_away_lem : (st : State) (ch : Choice) (m : Message DigitsPart) (kind : MessageType) → is_setup kind ≡ false → uncalled st ch m kind ≡ turned_away m kind
turned_away_lem st ch m MessageType.Setup e = absurd (grind arith)
turned_away_lem st ch m _ e = refl
