-- How a step of the code comes to what the rules say.
use Rattle.std.proofs.Common.{◌≡◌, ℕ, ◌≤◌, true, List, [], ◌∷◌, ◌++◌, drop, set, Some, None, Ok, Err, Option, sym, refl, ap, ◌∙◌, arith, MatchOption}
use Rattle.std.proofs.lemmas.Bool.{cond-true}
use Rattle.calls.specs.Records.{Ground, Answer, Refused, Report}
use Rattle.pools.specs.States.{States, after_any, known}
use Rattle.calls.specs.Effects.{Effect}
use Rattle.calls.specs.Rules.{State, Choice, Fair, Outcome, Refuse, Change, refuse, Did, is_roomy, roomed, answer_of, settled, reported, freed, following, applied, first}
use Rattle.calls.proofs.Choices.{Bounded, fair_choice}

module _ (st : State) where
  pub did : (rule : Choice → Outcome) (ch : Choice) → Fair st ch → (o : Outcome) → rule ch ≡ o → {a : Answer} {st' : State} → a ≡ answer_of st o → st' ≡ settled st o → Did st rule a st'
  did rule ch f o e p q = record { choice = ch; fair = f; answer = p ∙ sym (ap (answer_of st) e); after = q ∙ sym (ap (settled st) e) }

  -- a rule that leaves nothing open
  pub plainly : (rule : Choice → Outcome) → Bounded st.pool → (o : Outcome) → ((ch : Choice) → rule ch ≡ o) → {a : Answer} {st' : State} → a ≡ answer_of st o → st' ≡ settled st o → Did st rule a st'
  plainly rule b o e p q = let w = fair_choice st b in did rule w.0 w.1 o (e w.0) p q

  pub refused : (rule : Choice → Outcome) → Bounded st.pool → (x : Refused) → ((ch : Choice) → rule ch ≡ Refuse x) → Did st rule (Answer.Step (Err x)) st
  refused rule b x e = plainly rule b (Refuse x) e refl refl

  pub in_room : (rule : Choice → Outcome) {a : Answer} {st' : State} → true ≡ is_roomy st → Did st rule a st' → Did st (λ ch. roomed st (rule ch)) a st'
  in_room rule e d =
      let o = rule d.choice in
      did (λ ch. roomed st (rule ch)) d.choice d.fair o (cond-true (is_roomy st) o (refuse Ground.QueueFull) (sym e)) d.answer d.after

  -- the state with another pool
  abbrev pub with_pool : States → State
  with_pool p = record st { pool = p }

  -- an effect after its seizure
  pub seized_change : (p : States) (i : ℕ) (e : Effect) (o : Option ℕ) → ((k : ℕ) → p k ≡ after_any o st.pool k) → e.seized ≡ o → applied (with_pool p) i e ≡ settled st (Change i e)
  seized_change p i e o h q =
      λ j. record {
        table = set st.table i e.after;
        pool = freed e.released (λ k. (h k ∙ ap (λ (x : Option ℕ). after_any x st.pool k) (sym q)) j);
        exchange = st.exchange ++ e.exchange;
        sip = st.sip ++ e.sip;
        exchange_places = st.exchange_places;
        sip_places = st.sip_places;
        next = following e.numbered st.next;
        full = st.full;
      }

  -- a move, as the code makes it: the channel is seized, then the effect applied
  pub moved : (i : ℕ) (e e' : Effect) (o : Option ℕ) (p : States) {r : Report} {st' : State} → ((k : ℕ) → p k ≡ after_any o st.pool k) → e ≡ e' → e'.seized ≡ o → r ≡ reported e → st' ≡ applied (with_pool p) i e → (Answer.Step (Ok r) ≡ answer_of st (Change i e')) × (st' ≡ settled st (Change i e'))
  moved i e e' o p h q s a b = (ap (λ (x : Report). Answer.Step (Ok x)) (a ∙ ap reported q), b ∙ ap (applied (with_pool p) i) q ∙ seized_change p i e' o h s)

-- what is answered and left where the oldest message is taken
pub first_taken : {X : Type 0} (r : Option X) (xs ys : List X) (P : Type 0) → (P → ys ≡ xs) → MatchOption r ((xs ≡ []) × P) (λ m. xs ≡ m ∷ ys) → (r ≡ first xs) × (ys ≡ drop 1 xs)
first_taken None xs ys P f h = (sym (ap first h.0), f h.1 ∙ h.0 ∙ sym (ap (drop 1) h.0))
first_taken (Some m) xs ys P f h = (sym (ap first h), sym (ap (drop 1) h))

-- no pool knows a channel above 127
pub bounded : {P : Type 0} (state : P → States) (top : ℕ) → ((p : P) (k : ℕ) → known (state p k) ≡ true → k ≤ top) → top ≤ 127 → (p : P) → Bounded (state p)
bounded state top within small p k e = let w = within p k e in omega arith
