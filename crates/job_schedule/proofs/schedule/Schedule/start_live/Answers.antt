use Rattle.std.proofs.Common.{◌∙◌, ap, ℕ, List, map}
use Rattle.smallvec.specs.SmallVec.{SmallVec}
use Rattle.job_schedule.specs.Parts.{path_items, world_of}
use Rattle.job_schedule.proofs.Initial.{all_live}
use Rattle.job_schedule.proofs.schedule.Schedule.start_live.Goals as goal

pub returns-clause-world : goal.returns-clause-world
returns-clause-world c =
    all_live c.start_all.result (world_of c.args.self.now) (world_of c.start_all.new.self) (map path_items c.deref.result.now)
    (ap (λ (xs : List (SmallVec ℕ)). map path_items xs) c.deref.ensures.value ∙ c.in_ok-paths.ensures.live) c.start_all.ensures.world
