-- A history grows by one event, two runs join, and a run is cut where it passed.
use Rattle.std.proofs.Common.{◌≡◌, ℕ, List, [], ◌∷◌, ◌++◌, map, reverse, sym, refl, ap, ◌∙◌, subst, arith}
use mathlib.Core.List.{reverse-cons}
use Rattle.std.proofs.lemmas.List.{map-append}
use Rattle.calls.specs.Records.{Answer}
use Rattle.calls.specs.Rules.{Event, State, Stepped, Stepping, no_step, next_step, outcome, settled}
use Rattle.calls.specs.Run.{Happening, happened, Run, opened, stepped, HistoryOf}
use Rattle.calls.specs.Laws.{RunLaw, RunsOn, RunsCompose}
use Rattle.calls.proofs.Runs.{run_laws}

-- the events met so far and what came of each
pub record Ran (entry : State) (events : List Event) (answers : List Answer) (st : State) : Type 0 where
  pub more : List Happening
  pub told : HistoryOf more events answers
  pub run : Run entry more st

pub ran_none : (entry : State) → Ran entry [] [] entry
ran_none entry = record { more = []; told = record { events = refl; answers = refl }; run = opened }

-- what is read off a history, oldest first, grows at its end
grown : {X : Type 0} (f : Happening → X) (h : Happening) (past : List Happening) (xs : List X) (x : X) → map f (reverse past) ≡ xs → f h ≡ x → map f (reverse (h ∷ past)) ≡ xs ++ x ∷ []
grown {X} f h past xs x e e' =
    ap (map f) (reverse-cons h past) ∙ map-append f (reverse past) (h ∷ []) ∙ ap (λ (ys : List X). ys ++ (f h ∷ [])) e ∙ ap (λ (y : X). xs ++ (y ∷ [])) e'

pub ran_more : {entry st st' : State} {evs : List Event} {ans : List Answer} (ev : Event) (a : Answer) → Ran entry evs ans st → Stepped st ev a st' → Ran entry (evs ++ ev ∷ []) (ans ++ a ∷ []) st'
ran_more {entry} {st} {st'} {evs} {ans} ev a p s =
    let o = outcome st s.choice ev in
    record {
      more = happened st ev o ∷ p.more;
      told = record {
        events = grown (λ h. h.event) (happened st ev o) p.more evs ev p.told.events refl;
        answers = grown (λ h. h.answer) (happened st ev o) p.more ans a p.told.answers (sym s.answer);
      };
      run = subst (λ (z : State). Run entry (happened st ev o ∷ p.more) z) (sym s.after) (stepped s.choice ev s.fair p.run);
    }

joined : {start mid end : State} {past more : List Happening} → Run start past mid → Run mid more end → Run start (more ++ past) end
joined r opened = r
joined r (stepped ch ev fair q) = stepped ch ev fair (joined r q)

record Cut (start : State) (later earlier : List Happening) (end : State) : Type 0 where
  state : State
  came : Run start earlier state
  rest : Run state later end

tail_eq : (x y : Happening) (xs ys : List Happening) → (x ∷ xs) ≡ (y ∷ ys) → xs ≡ ys
tail_eq x y xs ys e = cc

head_eq : (x y : Happening) (xs ys : List Happening) → (x ∷ xs) ≡ (y ∷ ys) → x ≡ y
head_eq x y xs ys e = cc

no_cons : (x : Happening) (xs : List Happening) → (x ∷ xs) ≡ [] → ⊥
no_cons x xs e = let z : ◌≡◌ {A = ℕ} 0 1 = cc in omega arith

whole : {start end : State} {past : List Happening} (earlier : List Happening) → Run start past end → earlier ≡ past → Cut start [] earlier end
whole {start} {end} earlier r e = record { state = end; came = subst (λ (h : List Happening). Run start h end) (sym e) r; rest = opened }

cut : (start : State) {past : List Happening} {end : State} → Run start past end → (later earlier : List Happening) → later ++ earlier ≡ past → Cut start later earlier end
cut start opened [] earlier e = whole earlier opened e
cut start opened (x ∷ later) earlier e = absurd (no_cons x (later ++ earlier) e)
cut start (stepped {past = past} {st = st} ch ev fair r) [] earlier e = whole earlier (stepped ch ev fair r) e
cut start (stepped {past = past} {st = st} ch ev fair r) (x ∷ later) earlier e =
    let c = cut start r later earlier (tail_eq x (happened st ev (outcome st ch ev)) (later ++ earlier) past e) in
    let end = settled st (outcome st ch ev) in
    record {
      state = c.state;
      came = c.came;
      rest = subst (λ (h : Happening). Run c.state (h ∷ later) end) (sym (head_eq x (happened st ev (outcome st ch ev)) (later ++ earlier) past e)) (stepped ch ev fair c.rest);
    }

-- the laws at a cut
pub run_law : RunLaw
run_law start past end r later earlier e =
    let c = cut start r later earlier e in
    record { state = c.state; came = c.came; rest = c.rest; laws = λ o. run_laws start o earlier c.state c.came }

pub runs_on : {entry exit : State} {evs : List Event} {ans : List Answer} → Ran entry evs ans exit → RunsOn entry evs ans exit
runs_on {entry} {exit} {evs} {ans} p start past r =
    let long = joined r p.run in
    record { more = p.more; told = p.told; run = long; rest = p.run; each = λ later earlier e. run_law start (p.more ++ past) exit long later earlier e }

pub ran : {entry exit : State} {evs : List Event} {ans : List Answer} → Stepping entry evs ans exit → Ran entry evs ans exit
ran {entry} no_step = ran_none entry
ran (next_step ev a p s) = ran_more ev a (ran p) s

pub runs_compose : RunsCompose
runs_compose entry evs ans exit p = runs_on (ran p)
