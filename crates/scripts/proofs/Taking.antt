-- Events that take all that waits leave nothing that waits, and steps leave the places of the queues.
use Rattle.std.proofs.Common.{◌≡◌, ℕ, zero, suc, ◌+◌, ◌-◌, ◌≤◌, List, [], ◌∷◌, ◌++◌, map, length, drop, sym, refl, ap, ◌∙◌, subst, arith}
use Rattle.std.specs.List.{range_with_len}
use Rattle.std.proofs.Math.Seq.{drop-length, drop-nil}
use Rattle.calls.specs.declared.answers.Answer.{Answer}
use Rattle.calls.specs.Rules.{Event as Happens, State, Outcome, Refuse, Reply, Change, TookExchange, TookSip, Stepping, no_step, next_step, outcome, settled}
use Rattle.calls.proofs.Always.{Way, way}
use Rattle.events.specs.declared.event.Event.{Event}
use Rattle.events.specs.Events.{event_of}
use Rattle.scripts.specs.Ending.{taking}

drop_more : {X : Type 0} (n : ℕ) (xs : List X) → drop n (drop 1 xs) ≡ drop (suc n) xs
drop_more n [] = drop-nil n
drop_more n (x ∷ xs) = refl

sip_taken : (ys : List ℕ) (st : State) (given : List Answer) (exit : State) → Way st (map event_of (map (λ _. Event.TakeSip) ys)) given exit → (exit.exchange ≡ st.exchange) × (exit.sip ≡ drop (length ys) st.sip)
sip_taken [] st given exit w = (ap (λ (s : State). s.exchange) w.1, ap (λ (s : State). s.sip) w.1)
sip_taken (y ∷ ys) st given exit w =
    let rest = sip_taken ys (settled st TookSip) w.others exit w.rest in
    (rest.0, rest.1 ∙ drop_more (length ys) st.sip)

both_taken : (xs ys : List ℕ) (st : State) (given : List Answer) (exit : State) → Way st (map event_of (map (λ _. Event.TakeExchange) xs ++ map (λ _. Event.TakeSip) ys)) given exit → (exit.exchange ≡ drop (length xs) st.exchange) × (exit.sip ≡ drop (length ys) st.sip)
both_taken [] ys st given exit w = sip_taken ys st given exit w
both_taken (x ∷ xs) ys st given exit w =
    let rest = both_taken xs ys (settled st TookExchange) w.others exit w.rest in
    (rest.0 ∙ drop_more (length xs) st.exchange, rest.1)

range_length : (a n : ℕ) → length (range_with_len a n) ≡ n
range_length a zero = refl
range_length a (suc n) = ap suc (range_length (a + 1) n)

dropped : {X : Type 0} (xs : List X) (n : ℕ) → n ≡ length xs → drop (length (range_with_len 0 n)) xs ≡ []
dropped xs n e = ap (λ (m : ℕ). drop m xs) (range_length 0 n ∙ e) ∙ drop-length xs

pub nothing_waits : (n m : ℕ) (st exit : State) (given : List Answer) → n ≡ length st.exchange → m ≡ length st.sip → Stepping st (map event_of (taking n m)) given exit → (exit.exchange ≡ []) × (exit.sip ≡ [])
nothing_waits n m st exit given e s p =
    let took = both_taken (range_with_len 0 n) (range_with_len 0 m) st given exit (way p) in
    (took.0 ∙ dropped st.exchange n e, took.1 ∙ dropped st.sip m s)

settled_places : (st : State) (o : Outcome) → ((settled st o).exchange_places ≡ st.exchange_places) × ((settled st o).sip_places ≡ st.sip_places)
settled_places st (Refuse r) = (refl, refl)
settled_places st (Reply ms ss) = (refl, refl)
settled_places st (Change i e) = (refl, refl)
settled_places st TookExchange = (refl, refl)
settled_places st TookSip = (refl, refl)

pub places_stay : {entry exit : State} {evs : List Happens} {given : List Answer} → Stepping entry evs given exit → (exit.exchange_places ≡ entry.exchange_places) × (exit.sip_places ≡ entry.sip_places)
places_stay no_step = (refl, refl)
places_stay (next_step {st = st} ev a p s) =
    let before = places_stay p in
    let here = settled_places st (outcome st s.choice ev) in
    (ap (λ (x : State). x.exchange_places) s.after ∙ here.0 ∙ before.0, ap (λ (x : State). x.sip_places) s.after ∙ here.1 ∙ before.1)
