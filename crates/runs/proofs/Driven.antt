-- One event more.
use Rattle.std.proofs.Common.{◌≡◌, ℕ, ◌+◌, ◌<◌, List, [], ◌∷◌, ◌++◌, map, length, get_or, take, sym, ap, ◌∙◌, subst, subst₂}
use Rattle.std.proofs.lemmas.List.{take_more, map-append}
use Rattle.calls.specs.declared.answers.Answer.{Answer}
use Rattle.calls.specs.Rules as rules
use Rattle.calls.specs.Rules.{State, Stepped, Stepping, next_step}
use Rattle.pools.specs.declared.pool.Pool.{Ghosts}
use Rattle.gateway.specs.PoolMoves.{PoolMoved, wish_of}
use Rattle.events.specs.declared.event.Event.{Event}
use Rattle.events.specs.Events.{event_of}

events_more : (evs : List Event) (i : ℕ) (e : Event) → i < length evs → e ≡ get_or evs i e → map event_of (take (i + 1) evs) ≡ map event_of (take i evs) ++ event_of e ∷ []
events_more evs i e h is =
    ap (map event_of) (take_more evs i e h) ∙ map-append event_of (take i evs) (get_or evs i e ∷ []) ∙ ap (λ (x : Event). map event_of (take i evs) ++ event_of x ∷ []) (sym is)

pub driven_more : (entry st st' : State) (evs : List Event) (i : ℕ) (e : Event) (before after : List Answer) (a : Answer) → i < length evs → e ≡ get_or evs i e → after ≡ before ++ a ∷ [] → Stepping entry (map event_of (take i evs)) before st → Stepped st (event_of e) a st' → Stepping entry (map event_of (take (i + 1) evs)) after st'
driven_more entry st st' evs i e before after a h is q r s =
    subst₂ (λ (ms : List rules.Event) (ans : List Answer). Stepping entry ms ans st') (sym (events_more evs i e h is)) (sym q) (next_step (event_of e) a r s)

-- the same step of the same event
pub as_event : {st st' : State} {a : Answer} (e e' : rules.Event) → e ≡ e' → Stepped st e' a st' → Stepped st e a st'
as_event {st} {st'} {a} e e' q s = subst (λ (x : rules.Event). Stepped st x a st') (sym q) s

-- the same moves of the pool for the same event
pub as_moved : {P : Type 0} (kind : Ghosts P) {a : Answer} {before after : P} (e e' : rules.Event) → e ≡ e' → PoolMoved kind (wish_of e') a before after → PoolMoved kind (wish_of e) a before after
as_moved kind {a} {before} {after} e e' q m = subst (λ (x : rules.Event). PoolMoved kind (wish_of x) a before after) (sym q) m
