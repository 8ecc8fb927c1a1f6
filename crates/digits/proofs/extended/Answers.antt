use Rattle.std.proofs.Common.{ℕ, ◌+◌, ◌-◌, List, ◌++◌, length, take, drop, replicate, sym, ap, ◌∙◌, arith, length-append}
use Rattle.std.proofs.lemmas.List.{drop-replicate}
use Rattle.calls.specs.declared.record.Digits.{Digits}
use Rattle.digits.proofs.Laid.{laid}
use Rattle.digits.proofs.extended.Goals as goal

build : ℕ → List ℕ → Digits
build n o = record { octets = o; count = n }

pub returns : goal.returns
unfolding build
returns c =
    let xs = c.args.known.now in
    let ys = c.args.more.now in
    let over : List ℕ → List ℕ = λ octets. (take (length xs) octets ++ ys) ++ drop (length xs + length ys) octets in
    record {
      one_behind_the_other =
          ap (build (length xs + length ys))
          (c.lay-2.ensures.laid_there_alone
          ∙ ap over (c.lay.ensures.laid_there_alone ∙ ap (λ (octets : List ℕ). (take 0 octets ++ xs) ++ drop (0 + length xs) octets) c.noughts-octets.ensures.as_many_as_a_record_holds)
          ∙ laid xs ys _ (drop-replicate (0 + length xs) 20 0 ∙ ap (λ k. replicate k 0) (omega arith)))
          ∙ ap (λ n. build n ((xs ++ ys) ++ replicate (20 - length (xs ++ ys)) 0)) (sym (length-append xs ys));
    }
