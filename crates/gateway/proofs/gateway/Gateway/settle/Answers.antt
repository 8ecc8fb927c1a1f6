-- What names no channel moves no pool.
use Rattle.std.proofs.Common.{refl, rules}
use Rattle.gateway.proofs.Cited.{unmoved_quiet}
use Rattle.gateway.proofs.gateway.Gateway.settle.Goals as goal

pub returns-in-Ok-Reply-clause-pool_gives_back_what_is_named : goal.returns-in-Ok-Reply-clause-pool_gives_back_what_is_named
returns-in-Ok-Reply-clause-pool_gives_back_what_is_named g c = λ wish. unmoved_quiet g.P.Pool wish _ _ c.default.result (search rules) refl
