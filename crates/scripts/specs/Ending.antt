-- How a play ends: all that waits is taken, and the calls that stand are noted.
use Rattle.std.specs.Prelude.{◌≡◌, ℕ, ◌++◌, ◌<◌, List, [], None, map, filter_map, Option, slice_index_or}
use Rattle.std.specs.List.{range_with_len}
use Rattle.calls.specs.declared.record.Call.{Call}
use Rattle.calls.specs.Rules.{State}
use Rattle.calls.specs.Run.{Happening, Opening, Run}
use Rattle.events.specs.declared.event.Event.{Event}
use Rattle.ledger.specs.declared.ledger.Ledger.{Ledger}
use Rattle.ledger.specs.Histories.{Holds}
use Rattle.ledger.specs.Lawful.{Balance, BelowCap, HoldsAtEnd}

-- events that take so many messages from either queue
abbrev pub taking : ℕ → ℕ → List Event
taking exchange sip = map (λ _. Event.TakeExchange) (range_with_len 0 exchange) ++ map (λ _. Event.TakeSip) (range_with_len 0 sip)

-- the calls of a table, in the order of their places
abbrev pub calls_of : List (Option Call) → List Call
calls_of table = filter_map (λ place. slice_index_or table place None) (range_with_len 0 64)

-- a history that is longer, the run of it, and the ledger of it
pub record Grown (start : State) (past : List Happening) (end : State) (l : Ledger) : Type 0 where
  pub more : List Happening
  pub run : Run start (more ++ past) end
  pub noted : Holds l (more ++ past)

-- whatever history led to the state and is held by the ledger, a longer one leads to the later state and is held by the later ledger
abbrev pub GoesOn : State → Ledger → State → Ledger → Type 0
GoesOn st before end after = (start : State) (past : List Happening) → Run start past st → Holds before past → Grown start past end after

-- the ledger of a longer history and of the calls of the state that it led to, in which nothing waits. While no number is at its cap
-- its books balance: of the channels that began idle, of the transactions and of the CONNECTs
pub record Ended (start : State) (past : List Happening) (l : Ledger) : Type 0 where
  pub more : List Happening
  pub end : State
  pub run : Run start (more ++ past) end
  pub exchange_is_empty : end.exchange ≡ []
  pub sip_is_empty : end.sip ≡ []
  pub noted : HoldsAtEnd l (more ++ past) end
  pub books_balance : BelowCap l → Balance start.pool (more ++ past) l

abbrev pub Ends : State → Ledger → Ledger → Type 0
Ends st before after = (start : State) (past : List Happening) → Opening start → Run start past st → Holds before past → Ended start past after
