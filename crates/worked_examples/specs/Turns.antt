-- The refused channel over a pool whose channels take turns: the run that was played, and every run by the same events.
use Rattle.std.specs.Prelude.{◌≡◌, List, [], ◌∷◌, Option}
use Rattle.messages.specs.declared.record.Channel.{Channel}
use Rattle.pools.specs.declared.pool.Pool.{Ghosts}
use Rattle.turn_pool.specs.declared.turns.TurnPool.{TurnPool}
use Rattle.turn_pool.specs.Turns.{idle_order, seized_ones, states, Seizes, SeizesAny, Releases}
use Rattle.calls.specs.declared.answers.Answer.{Answer}
use Rattle.calls.specs.Rules.{Event, State, Stepping}
use Rattle.calls.specs.Examples.{opened, another_events, another_answers}
use Rattle.call_table.specs.Moves.{Took, GaveBack}
use Rattle.gateway.specs.declared.gateway.Gateway.{Gateway}
use Rattle.gateway.specs.declared.outgoing.Outgoing.{Outgoing}
use Rattle.gateway.specs.PoolMoves.{wish_of, seized_by, released_by}
use Rattle.gateway.specs.Stands.{state_of}

-- 7 and 9 are idle and wait in this order, and no channel is seized
abbrev pub BothIdle : TurnPool → Type 0
BothIdle pool = (idle_order pool ≡ 7 ∷ 9 ∷ []) × (seized_ones pool ≡ [])

-- 7 is the one idle channel, and 9 the one that is seized
abbrev pub NineSeized : TurnPool → Type 0
NineSeized pool = (idle_order pool ≡ 7 ∷ []) × (seized_ones pool ≡ 9 ∷ [])

-- the channel that an answer names seized is taken, then the one that it names released is given back; and so it goes on
pub record Moved (wish : Option Channel) (answer : Answer) (before : TurnPool) (GoesOn : TurnPool → Type 0) : Type 0 where
  pub between : TurnPool
  pub after : TurnPool
  pub took : Took Seizes SeizesAny wish before (seized_by answer) between
  pub gave_back : GaveBack states Releases between (released_by answer) after
  pub goes_on : GoesOn after

-- the pool moves event by event as the answers name, and by nothing else
abbrev pub MovedBy : TurnPool → List Event → List Answer → TurnPool → Type 0
MovedBy before [] [] end = end ≡ before
MovedBy before (ev ∷ events) (a ∷ answers) end = Moved (wish_of ev) a before (λ after. MovedBy after events answers end)
MovedBy before _ _ end = ⊥

-- from the opening over such a pool, steps by the rules with these answers lead to a state, and moves as the answers name to a pool
pub record Led (pool : TurnPool) (answers : List Answer) (end : State) (after : TurnPool) : Type 0 where
  pub both_idle : BothIdle pool
  pub steps : Stepping (opened (states pool)) another_events answers end
  pub moves : MovedBy pool another_events answers after

-- from some such pool they lead to this very gateway, with the queues as they were at the end, and to its pool
pub record Reached {G : Ghosts TurnPool} (answers : List Answer) (gateway : Gateway TurnPool G) : Type 0 where
  pub pool : TurnPool
  pub queues : Outgoing
  pub led : Led pool answers (state_of states gateway queues) gateway.trunk.pool

-- whatever such a pool is, and wherever the call stands, all that these events lead to: the same answers, and 9 in the place of 7
abbrev pub AlwaysOnNine : Type 0
AlwaysOnNine =
    (pool after : TurnPool) (answers : List Answer) (end : State) → Led pool answers end after → (answers ≡ another_answers) × NineSeized after
