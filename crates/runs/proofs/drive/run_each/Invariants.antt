use Rattle.std.proofs.Common.{◌+◌, ◌≤◌, map, length, take, vec_items, vec_len, vec_capacity}
use Rattle.calls.specs.Rules.{Stepping}
use Rattle.events.specs.Events.{event_of}
use Rattle.gateway.specs.Stands.{state_of}
use Rattle.runs.proofs.drive.run_each.Given as goal

abbrev pub invariant-loop-event : goal.invariant-loop-event
invariant-loop-event g l =
    (vec_len l.answers + length l.events ≤ vec_capacity l.answers + l.event-index) × Stepping (state_of g.P.Pool.state l.initial.gateway l.initial.queues) (map event_of (take l.event-index l.events)) (vec_items l.answers) (state_of g.P.Pool.state l.gateway l.queues)
