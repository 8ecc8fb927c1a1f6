-- What a play says by its type.
use Rattle.std.specs.Prelude.{◌≡◌, ℕ, true, List}
use Rattle.pools.specs.declared.channel.ChannelState.TheVariants.{Idle}
use Rattle.pools.specs.States.{States, known}
use Rattle.calls.specs.Rules.{State}
use Rattle.calls.specs.Run.{Happening, Opening, Run}
use Rattle.calls.specs.Laws.{Laws}
use Rattle.ledger.specs.declared.ledger.Ledger.{Ledger}
use Rattle.ledger.specs.Histories.{Holds}

-- every channel of a pool is idle
abbrev pub AllIdle : States → Type 0
AllIdle pool = (c : ℕ) → known (pool c) ≡ true → pool c ≡ Idle

-- a history from an opening with all channels idle led to where the gateway stands, so that the laws hold of it; and the ledger holds
-- what they count of it
pub record Kept (st : State) (l : Ledger) : Type 0 where
  pub start : State
  pub opening : Opening start
  pub all_idle : AllIdle start.pool
  pub past : List Happening
  pub run : Run start past st
  pub laws : Laws start.pool past st
  pub noted : Holds l past
