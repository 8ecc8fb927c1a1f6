-- A channel that is seized and entered with a call, and one that leaves the table and is released.
use Rattle.std.specs.Prelude.{◌≡◌, ℕ, Bool, true, false, List, replicate, Some, None, Option, slice_set}
use Rattle.pools.specs.States.{States, seized, after_release}
use Rattle.calls.specs.declared.record.Call.{Call}
use Rattle.calls.specs.declared.sides.ExchangeSide.{ExchangeSide}
use Rattle.calls.specs.declared.sides.SipSide.{SipSide}
use Rattle.calls.specs.declared.record.Found.{Found}
use Rattle.calls.specs.declared.record.Origin.{Origin}
use Rattle.call_table.specs.Records.{holding}
use Rattle.messages.specs.declared.record.Channel.{Channel}
use Rattle.call_table.specs.Wishes.{WishGets}
use Rattle.call_table.specs.Moves.{Took, GaveBack}

-- a call from the exchange on channel c; its digits are awaited
abbrev pub call_on : ℕ → Call
call_on c =
    record { reference = record { flag = false; number = 1 }; channel = c; origin = Origin.Exchange 1; digits = record { octets = replicate 20 0; count = 0 }; exchange = ExchangeSide.Collecting; sip = SipSide.None }

-- by the wish where the place is free, else none
abbrev pub Occupies : Bool → Bool → Bool → ℕ → States → Option ℕ → Type 0
Occupies true wishedIdle exclusive wished s got = WishGets wishedIdle exclusive wished s got
Occupies false wishedIdle exclusive wished s got = got ≡ None

abbrev pub wish_of : ℕ → Bool → Channel
wish_of wished exclusive = record { number = wished; exclusive = exclusive }

-- the moves of the pool: what the wish takes, and, where the place is not free, that channel given back
module _ {P : Type 0} (state : P → States) (Seizes : P → ℕ → Bool → P → Type 0) (SeizesAny : P → Option ℕ → P → Type 0) (Releases : P → ℕ → Bool → P → Type 0) where
  abbrev pub TookAndKept : Bool → Channel → P → Option ℕ → P → Type 0
  TookAndKept true wish before got after = Took Seizes SeizesAny (Some wish) before got after
  TookAndKept false wish before got after =
      (taken : Option ℕ) × (between : P) × Took Seizes SeizesAny (Some wish) before taken between × GaveBack state Releases between taken after

abbrev pub after_occupying : Option ℕ → List (Option Call) → ℕ → List (Option Call)
after_occupying None places place = places
after_occupying (Some c) places place = slice_set places place (Some (call_on c))

abbrev pub after_vacating : Option ℕ → States → States
after_vacating None s k = s k
after_vacating (Some c) s k = after_release (seized (s c)) c s k

-- the channel that the call found holds
abbrev pub channel_found : Option Found → Option ℕ
channel_found None = None
channel_found (Some f) = holding (Some f.call)

-- the call with its exchange side over
abbrev pub ended : Call → Call
ended call = record call { exchange = ExchangeSide.Over }

abbrev pub after_ending : Option Found → List (Option Call) → List (Option Call)
after_ending None places = places
after_ending (Some f) places = slice_set places f.place (Some (ended f.call))
