-- The ways of looking for a call, and what is found.
use Rattle.std.specs.Prelude.{◌≡◌, ◌<◌, ℕ, Bool, false, List, Some, None, Option, slice_index_or}
use Rattle.std.specs.Option.{option_map}
use Rattle.calls.specs.declared.record.Call.{Call}
use Rattle.calls.specs.declared.record.Found.{Found}
use Rattle.calls.specs.Sides.{holds_dialogue}
use Rattle.calls.specs.Rules.{by_reference, by_transaction, by_number, by_live_number, by_awaited_number}
use Rattle.call_table.specs.declared.key.Key.{Key}

-- the calls that a key looks for
abbrev pub keyed : Key → Call → Bool
keyed (Key.Reference r) = by_reference r
keyed (Key.Transaction t) = by_transaction t
keyed (Key.Dialogue d) = holds_dialogue d
keyed (Key.Number n) = by_number n
keyed (Key.LiveNumber n) = by_live_number n
keyed (Key.AwaitedNumber n) = by_awaited_number n

-- a place with a call that passes a test
abbrev pub hits : (Call → Bool) → Option Call → Bool
hits p None = false
hits p (Some k) = p k

-- the call at a place, with the place
abbrev pub found_at : List (Option Call) → Option ℕ → Option Found
found_at places None = None
found_at places (Some place) = option_map (λ call. record { place = place; call = call }) (slice_index_or places place None)

-- what was found stands at its place, one of the 64
abbrev pub Within : Option Found → List (Option Call) → Type 0
Within None places = Unit {0}
Within (Some f) places = (f.place < 64) × (slice_index_or places f.place None ≡ Some f.call)
