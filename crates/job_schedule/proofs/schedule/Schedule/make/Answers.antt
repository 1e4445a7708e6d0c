use Rattle.std.proofs.Common.{◌≡◌, sym, subst, refl, Result, Ok, Err}
use Rattle.std.specs.Prelude.{OnOk}
use Rattle.step_core.specs.RoundValue.{RoundValue}
use Rattle.job_schedule.specs.declared.stage.Move.{Move}
use Rattle.job_schedule.specs.Parts.{IsAllowed, IsKept, world_of}
use Rattle.step_core.specs.OrderValue.{has_synced, spawned_paths}
use Rattle.job_schedule.specs.ParticipantValue.{participant_at}
use Rattle.job_schedule.specs.World.{World, deed_of, next_job}
use Rattle.job_schedule.proofs.Kept.{is_wanted, delivered_kept, called_kept, advanced_kept, closed_kept, ended_kept, all_handed}
use Rattle.job_schedule.proofs.schedule.Schedule.make.Goals as goal

on_both : {A E : Type 0} (result : Result A E) {P Q R : Type 0} → OnOk result P → OnOk result Q → (P → Q → R) → OnOk result R
on_both (Ok a) p q f = f p q
on_both (Err e) p q f = p

-- a round and a world that are others
kept_as : (r s : RoundValue) (w v : World) → s ≡ r → v ≡ w → IsKept r w → IsKept s v
kept_as r s w v a b k = subst (λ (x : RoundValue). IsKept x v) (sym a) (subst (IsKept r) (sym b) k)

pub deliver-requires-clause-wanted : goal.deliver-requires-clause-wanted
deliver-requires-clause-wanted c =
    let w : World = world_of c.args.self.now in
    let a = subst (λ (m : Move). IsAllowed (world_of c.args.self.now) m) c.in-Delivers.is c.requires.allowed in
    is_wanted c.args.self.now.round w c.in-Delivers.place c.has_ended-known.ensures.round refl c.requires.stands c.requires.kept a.0 a.1 a.2

pub close-requires : goal.close-requires
close-requires c =
    let a = subst (λ (m : Move). IsAllowed (world_of c.args.self.now) m) c.in-Closes.is c.requires.allowed in
    record { whole = all_handed c.args.self.now.round (world_of c.args.self.now) refl c.requires.stands a refl c.requires.kept }

pub returns-in-Delivers-clause-kept : goal.returns-in-Delivers-clause-kept
returns-in-Delivers-clause-kept c =
    let a = subst (λ (m : Move). IsAllowed (world_of c.args.self.now) m) c.in-Delivers.is c.requires.allowed in
    on_both c.deliver.result c.deliver.ensures.after c.deliver.ensures.taken (λ after taken.
    subst (IsKept c.deliver.new.self.round) (sym after)
    (delivered_kept c.args.self.now.round c.deliver.new.self.round (world_of c.args.self.now) c.in-Delivers.place
    (has_synced (deed_of (world_of c.args.self.now) (participant_at c.args.self.now.participants.items c.in-Delivers.place).path))
    (spawned_paths (deed_of (world_of c.args.self.now) (participant_at c.args.self.now.participants.items c.in-Delivers.place).path))
    c.has_ended-known.ensures.round refl
    c.requires.stands a.0 a.1 a.2 taken c.requires.kept))

pub returns-in-Calls-clause-kept : goal.returns-in-Calls-clause-kept
returns-in-Calls-clause-kept c =
    let a = subst (λ (m : Move). IsAllowed (world_of c.args.self.now) m) c.in-Calls.is c.requires.allowed in
    kept_as _ _ _ _ c.call.ensures.round c.call.ensures.after
    (called_kept c.args.self.now.round (world_of c.args.self.now) c.args.worker c.in-Calls.place _ _ a.0.0 a.1 c.requires.kept)

pub returns-in-Advances-clause-kept : goal.returns-in-Advances-clause-kept
returns-in-Advances-clause-kept c =
    let a = subst (λ (m : Move). IsAllowed (world_of c.args.self.now) m) c.in-Advances.is c.requires.allowed in
    kept_as _ _ _ _ c.advance.ensures.round c.advance.ensures.after
    (advanced_kept c.args.self.now.round (world_of c.args.self.now) c.args.worker c.in-Advances.place _ _ a.0 a.1 c.requires.kept)

pub returns-in-Closes-clause-kept : goal.returns-in-Closes-clause-kept
returns-in-Closes-clause-kept c =
    on_both c.close.result c.close.ensures.after c.close.ensures.next (λ after next.
    subst (IsKept c.close.new.self.round) (sym after)
    (closed_kept c.args.self.now.round c.close.new.self.round (world_of c.args.self.now) c.args.worker c.in-Closes.token
    (next_job (world_of c.args.self.now)) _ next next.state next.limit refl c.requires.kept))

pub returns-in-Ends-clause-kept : goal.returns-in-Ends-clause-kept
returns-in-Ends-clause-kept c =
    kept_as _ _ _ _ c.end.ensures.round c.end.ensures.after
    (ended_kept c.args.self.now.round (world_of c.args.self.now) _ _ c.requires.kept)
