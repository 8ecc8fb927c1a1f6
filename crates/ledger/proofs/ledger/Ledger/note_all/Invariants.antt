use Rattle.std.proofs.Common.{◌≡◌, true, map}
use Rattle.events.specs.Events.{event_of}
use Rattle.ledger.specs.Numbers.{grown}
use Rattle.ledger.specs.Counts.{Counted, number, counted, some_names_new}
use Rattle.ledger.specs.Known.{KeepsKnown}
use Rattle.ledger.proofs.ledger.Ledger.note_all.Given as goal

-- with what is left, as much comes together as from the beginning on; what was new at the beginning and is left, is of the whole
abbrev pub invariant-loop-event : goal.invariant-loop-event
invariant-loop-event l =
    ((k : Counted) → grown (number l.self k) (counted k (map event_of l.event-iterator.a.rest.now) l.event-iterator.b.rest.now) ≡ grown (number l.initial.self k) (counted k (map event_of l.events) l.answers))
    × KeepsKnown l.initial.self l.self
    × (some_names_new l.initial.self (map event_of l.event-iterator.a.rest.now) l.event-iterator.b.rest.now ≡ true → some_names_new l.initial.self (map event_of l.events) l.answers ≡ true)
