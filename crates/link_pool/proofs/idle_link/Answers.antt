-- Below 32 each number was made by a call; from 32 on the table ends, and no channel of a link lies there.
use Rattle.std.proofs.Common.{◌≡◌, ℕ, ◌<◌, ◌≤◌, ◌∙◌, ⊎_elim, arith, rules}
use Rattle.std.proofs.lemmas.List.{get_or_past}
use Rattle.std.proofs.lemmas.Bool.{cases_lt}
use Rattle.std.proofs.lemmas.Bool.Decides.{nat_tests}
use Rattle.pools.specs.declared.channel.ChannelState.TheVariants.{Unknown}
use Rattle.link_pool.specs.Links.{all_idle}
use borrow.Author.Tests.{tests}
use Rattle.link_pool.proofs.idle_link.Goals as goal

past_the_link : (k : ℕ) → 32 ≤ k → Unknown ≡ all_idle k
past_the_link k h = grind (arith, nat_tests)

pub returns : goal.returns
returns c =
    let made = c.from_fn.ensures in
    record {
      all_idle = λ k.
          ⊎_elim
          (λ (h : k < 32). let m = made.items.at k Unknown h in search (rules, tests))
          (λ (h : 32 ≤ k). get_or_past c.from_fn.result k Unknown (omega (arith, made.items.long)) ∙ past_the_link k h)
          (cases_lt k 32);
    }
