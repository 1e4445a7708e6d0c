use Rattle.std.proofs.Common.{List, ℕ, ◌∷◌, ◌++◌, [], ◌∙◌, ap, arith}
use Rattle.job_schedule.specs.ParticipantValue.{ParticipantValue}
use Rattle.tier_shape.specs.Preferred.{leaf_at}
use Rattle.job_schedule.specs.Parts.{world_of}
use Rattle.job_schedule.proofs.Initial.{started}
use Rattle.job_schedule.proofs.schedule.Schedule.start.Goals as goal

pub returns-clause-world : goal.returns-clause-world
returns-clause-world c =
    started (world_of c.args.self.now) c.in_ok-token.token c.leaf_at-home.result c.add_token.new.self c.step.new.self c.go_steps.new.core
    c.args.path.items c.push.new.self.items
    c.in_ok-token.ensures.added c.in_ok-token.ensures.token
    (c.leaf_at-home.ensures
    ∙ ap (λ (ls : List ℕ). leaf_at ls c.len.result) c.deref.ensures.value
    ∙ ap (leaf_at c.args.self.now.leaves.items) (c.len.ensures ∙ omega (arith, c.args.self.now.participants.ok)))
    c.step.ensures.after c.go_steps.ensures
    (c.in_ok-push.ensures.items ∙ ap (λ (g : ParticipantValue). c.args.self.now.participants.items ++ g ∷ []) c.new.ensures)
