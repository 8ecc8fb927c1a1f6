use Rattle.std.proofs.Common.{ap, ◌∙◌}
use Rattle.gateway.proofs.Cited.{is_sound, sound_set}
use Rattle.gateway.proofs.gateway.Gateway.apply.Goals as goal

pub invariant_of-self : goal.invariant_of-self
invariant_of-self g c =
    record { sound = ap is_sound c.change-left.ensures.changes_that_place_alone ∙ sound_set c.args.self.now.table.places c.args.place c.args.effect.after c.args.self.now.sound c.requires.ready.sound }
