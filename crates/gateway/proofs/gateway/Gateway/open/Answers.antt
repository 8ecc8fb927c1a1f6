use Rattle.gateway.proofs.Cited.{opened}
use Rattle.gateway.proofs.gateway.Gateway.open.Goals as goal

pub returns-clause-history_begins_empty : goal.returns-clause-history_begins_empty
returns-clause-history_begins_empty g c = record { opening = λ queues p q. record { calls = c.new-2.ensures.begins_free; exchange = p; sip = q }; history = λ queues. opened }
