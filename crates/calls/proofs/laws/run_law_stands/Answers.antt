use Rattle.calls.proofs.Histories.{run_law, runs_compose}
use Rattle.calls.proofs.laws.run_law_stands.Goals as goal

pub returns : goal.returns
returns c = record { laws_at_every_cut = run_law; steps_make_longer_runs = runs_compose }
