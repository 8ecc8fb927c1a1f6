-- What a step's parts do to the pool, put together.
use Rattle.std.proofs.Common.{◌≡◌, ℕ, Some, None, Ok, Option, Result, sym, refl, ap, subst}
use Rattle.std.specs.Result.{IsErrAnd}
use Rattle.std.proofs.lemmas.Result.{err_from_is_err_and}
use Rattle.gateway.specs.Records.{Channel, Answer, Refused, Report}
use Rattle.pools.specs.declared.pool.Pool.{Ghosts}
use Rattle.calls.specs.Effects.{Effect}
use Rattle.calls.specs.Rules.{quiet, reported}
use Rattle.call_table.specs.Moves.{Took, GaveBack}
use Rattle.gateway.specs.PoolMoves.{PoolMoved, seized_by, released_by}

module _ {P : Type 0} (kind : Ghosts P) (wish : Option Channel) (before after : P) where
  -- an answer that names no channel
  pub unmoved : (a : Answer) → seized_by a ≡ None → released_by a ≡ None → after ≡ before → PoolMoved kind wish a before after
  unmoved a s r e =
      record {
        between = before;
        took = subst (λ (o : Option ℕ). Took kind.Seizes kind.SeizesAny wish before o before) (sym s) refl;
        gave_back = subst (λ (o : Option ℕ). GaveBack kind.state kind.Releases before o after) (sym r) e;
      }

  -- an effect that was applied, its channel seized before
  pub moved_by : (r : Report) (e : Effect) (between : P) → r ≡ reported e → Took kind.Seizes kind.SeizesAny wish before e.seized between → GaveBack kind.state kind.Releases between e.released after → PoolMoved kind wish (Answer.Step (Ok r)) before after
  moved_by r e between q t b = subst (λ (x : Report). PoolMoved kind wish (Answer.Step (Ok x)) before after) (sym q) (record { between = between; took = t; gave_back = b })

  -- a refusal names no channel
  pub unmoved_refused : (r : Result Report Refused) (Q : Refused → Type 0) → IsErrAnd r Q → after ≡ before → PoolMoved kind wish (Answer.Step r) before after
  unmoved_refused r Q h e =
      let w = err_from_is_err_and r h in unmoved (Answer.Step r) (ap (λ (x : Result Report Refused). seized_by (Answer.Step x)) w.1) (ap (λ (x : Result Report Refused). released_by (Answer.Step x)) w.1) e

  -- nor does the report of an answer that touches no call
  pub unmoved_quiet : (r : Report) → r ≡ quiet → after ≡ before → PoolMoved kind wish (Answer.Step (Ok r)) before after
  unmoved_quiet r q e = unmoved (Answer.Step (Ok r)) (ap (λ (x : Report). x.seized) q) (ap (λ (x : Report). x.released) q) e
