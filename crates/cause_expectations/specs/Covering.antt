-- Which numbers an entry of the list is for.
use Rattle.std.specs.Prelude.{ℕ, Bool, true, ◌&&◌, Some, None, Option, ◌==◌, nat_le}
use Rattle.cause_expectations.specs.declared.entry.CauseEntry.{CauseEntry}
use Rattle.cause_expectations.specs.declared.entry.StatusEntry.{StatusEntry}

-- an entry with no location is for every location
abbrev pub place_fits : Option ℕ → ℕ → Bool
place_fits None location = true
place_fits (Some at) location = at == location

abbrev pub cause_covers : CauseEntry → ℕ → ℕ → Bool
cause_covers entry cause location = nat_le entry.first cause && (nat_le cause entry.last && place_fits entry.location location)

abbrev pub status_covers : StatusEntry → ℕ → Bool
status_covers entry status = nat_le entry.first status && nat_le status entry.last
