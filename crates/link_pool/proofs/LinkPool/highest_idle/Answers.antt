-- The chain gives 31 down to 1; what lies beyond them is not idle.
use Rattle.std.proofs.Common.{◌≡◌, ℕ, ◌+◌, ◌-◌, ◌<◌, Bool, true, false, Option, Some, None, sym, ap, ◌∙◌, arith, rules, ◌⊎◌}
use Rattle.std.specs.Bool.{IsTrue}
use Rattle.std.specs.Option.{MatchOption, IfSome, IsSomeAnd, option_map}
use Rattle.std.proofs.iter.runs.Sources.{range_listed_back}
use Rattle.std.proofs.lemmas.Grind.{common_steps}
use borrow.Author.Tests.{tests}
use Rattle.pools.specs.States.{States, idle}
use Rattle.link_pool.specs.Links.{at, HighestIdle}
use Rattle.link_pool.proofs.LinkPool.highest_idle.Goals as goal

-- Places that count down from 31 to 1: each misses, or the last hits and each before it misses. A number that is 0 or above 31 is not idle.
module _ (s : States) (beyond : (k : ℕ) → (k ≡ 0) ⊎ (31 < k) → idle (s k) ≡ false)
    (Keeps : Type 0) (keeps : Keeps) (Hit Miss : ℕ → Type 0)
    (hits : (x : ℕ) → Hit x → idle (s x) ≡ true) (misses : (x : ℕ) → Miss x → idle (s x) ≡ false)
    (places : ℕ → Option ℕ) (len : ℕ) (whole : Bool)
    (all : whole ≡ true → len ≡ 31) (down : (k : ℕ) → k < len → option_map (λ y. y) (places k) ≡ Some (31 - k)) where
  highest : (r : Option ℕ) → MatchOption r (IsTrue whole × (Keeps → (k : ℕ) → IfSome (places k) Miss))
      (λ x. (i : ℕ) × (len ≡ i + 1) × (places i ≡ Some x) × (Keeps → Hit x × ((k : ℕ) → k < i → IsSomeAnd (places k) Miss))) → HighestIdle r s
  highest None q = λ k.
      let miss = q.1 keeps (31 - k) in
      grind (arith, common_steps, beyond k, misses, down (31 - k))
  highest (Some x) q =
      let told = q.3 keeps in (
        hits x told.0,
        λ k h.
            let miss = told.1 (31 - k) in
            grind (arith, common_steps, beyond k, misses, down (31 - k), down q.0),
      )

pub returns : goal.returns
returns c =
    let found = c.find.ensures.runs in
    let run = found.0 in
    -- the same run of the range from its back
    let back = c.rev.ensures.runs run run.seen found.1 in
    let same = back.2 in
    let listed = range_listed_back back.0 back.0.seen in
    let lowest : listed.0 ≡ 1 = listed.2 ∙ ap (λ b. b.start) back.1 in
    let above : listed.1 ≡ 32 = listed.3 ∙ ap (λ b. b.end) back.1 in
    let down = listed.4 in
    record {
      idle_and_none_above = highest (at c.args.self.now.channels) (λ k h. grind (arith, common_steps))
          _ (search rules) _ _ (λ x h. search (rules, tests, h)) (λ x h. search (rules, tests, h))
          run.at run.len run.whole
          (λ w. omega (arith, same.0.0, down.1 (same.1 ∙ w), lowest, above))
          (λ k h. ap (option_map (λ y. y)) (sym (same.0.2 k)) ∙ down.3 k (omega (arith, same.0.0, h)) ∙ ap (λ n. Some (n - 1 - k)) above)
          _ found.2;
    }
