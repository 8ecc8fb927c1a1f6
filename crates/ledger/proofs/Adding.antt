-- Counts added one after the other are added at once.
use Rattle.std.proofs.Common.{◌≡◌, ℕ, ◌+◌, ◌<◌, ◌≤◌, ◌⊎◌, inl, inr, List, [], ◌∷◌, ◌++◌, map, length, get_or, take, sym, ap, ◌∙◌, subst, subst₂, arith}
use Rattle.std.proofs.lemmas.Grind.{common_steps}
use Rattle.calls.specs.declared.answers.Answer.{Answer}
use Rattle.events.specs.declared.event.Event.{Event}
use Rattle.events.specs.Events.{event_of}
use Rattle.std.proofs.lemmas.List.{take_more, take_all}
use Rattle.calls.specs.declared.record.Call.{Call}
use Rattle.ledger.specs.declared.ledger.Ledger.{Ledger}
use Rattle.ledger.specs.Numbers.{grown}
use Rattle.ledger.specs.Counts.{Counted, number, counts, counted, counts_call, counts_calls, Grows}

pub grown_twice : (n x y : ℕ) → grown (grown n x) y ≡ grown n (x + y)
grown_twice n x y = grind (arith, common_steps)

-- what is left is counted on top of n
abbrev left : Counted → ℕ → List Event → List Answer → ℕ
left k n events answers = grown n (counted k (map event_of events) answers)

pub left_after_one : (k : Counted) (n m all : ℕ) (es fs : List Event) (ans rest : List Answer) (e : Event) (a : Answer) → es ≡ e ∷ fs → ans ≡ a ∷ rest → m ≡ grown n (counts k (event_of e) a) → left k n es ans ≡ all → left k m fs rest ≡ all
left_after_one k n m all es fs ans rest e a p q more h =
    ap (λ (x : ℕ). left k x fs rest) more ∙ grown_twice n (counts k (event_of e) a) (counted k (map event_of fs) rest) ∙ subst₂ (λ (xs : List Event) (ys : List Answer). left k n xs ys ≡ all) p q h

pub left_at_the_end : (k : Counted) (n all : ℕ) (es : List Event) (ans : List Answer) → (length es ≡ 0) ⊎ (length ans ≡ 0) → left k n es ans ≡ all → n ≡ all
left_at_the_end k n all [] ans l h = h
left_at_the_end k n all (e ∷ es) [] l h = h
left_at_the_end k n all (e ∷ es) (a ∷ ans) (inl l) h = absurd (omega (arith, l))
left_at_the_end k n all (e ∷ es) (a ∷ ans) (inr l) h = absurd (omega (arith, l))

-- ---------------------------------------------------------------- calls that stand
calls_append : (k : Counted) (cs ds : List Call) → counts_calls k (cs ++ ds) ≡ counts_calls k cs + counts_calls k ds
calls_append k [] ds = omega arith
calls_append k (c ∷ cs) ds = omega (arith, calls_append k cs ds)

one_call_more : (k : Counted) (cs : List Call) (i : ℕ) (d : Call) → i < length cs → counts_calls k (take (i + 1) cs) ≡ counts_calls k (take i cs) + counts_call k (get_or cs i d)
one_call_more k cs i d h =
    ap (counts_calls k) (take_more cs i d h) ∙ calls_append k (take i cs) (get_or cs i d ∷ []) ∙ omega arith

pub grows_by_a_call : (before mid after : Ledger) (cs : List Call) (i : ℕ) (d : Call) → i < length cs → Grows before mid (λ k. counts_calls k (take i cs)) → Grows mid after (λ k. counts_call k (get_or cs i d)) → Grows before after (λ k. counts_calls k (take (i + 1) cs))
grows_by_a_call before mid after cs i d h so_far more k =
    more k ∙ ap (λ (n : ℕ). grown n (counts_call k (get_or cs i d))) (so_far k) ∙ grown_twice (number before k) (counts_calls k (take i cs)) (counts_call k (get_or cs i d)) ∙ ap (grown (number before k)) (sym (one_call_more k cs i d h))

pub grows_by_all : (before after : Ledger) (cs : List Call) (i : ℕ) → length cs ≤ i → Grows before after (λ k. counts_calls k (take i cs)) → Grows before after (λ k. counts_calls k cs)
grows_by_all before after cs i over grows = subst (λ (ds : List Call). Grows before after (λ k. counts_calls k ds)) (take_all i cs over) grows
