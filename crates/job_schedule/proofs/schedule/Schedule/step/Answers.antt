use Rattle.std.specs.Prelude.{IfOk, OnOk}
use Rattle.std.proofs.Common.{◌≡◌, Option, Result, Ok, Err, subst, sym, refl, ◌∙◌}
use Rattle.job_schedule.specs.declared.stage.Move.{Move}
use Rattle.job_schedule.specs.AnswerValue.{AnswerValue, answer_seen}
use Rattle.job_schedule.specs.Parts.{world_of}
use Rattle.job_schedule.specs.World.{World}
use Rattle.job_schedule.proofs.Moves.{Allowed, move_allowed, asked_allowed, step_taken}
use Rattle.job_schedule.proofs.Kept.{reached_more, reached_stands}
use Rattle.job_schedule.proofs.schedule.Schedule.step.Goals as goal

pub make-requires-clause-allowed : goal.make-requires-clause-allowed
make-requires-clause-allowed c =
    let w = world_of c.args.self.now in
    asked_allowed w c.kind.result c.next_move.result c.in-Some.next
    (subst (λ (o : Option Move). Allowed w o) (sym c.next_move.ensures) (move_allowed w c.worker-worker.result))
    (sym c.in-Some.is ∙ c.asked.ensures)

pub make-requires-clause-stands : goal.make-requires-clause-stands
make-requires-clause-stands c = reached_stands c.args.self.now.round (world_of c.args.self.now) c.requires.reached refl refl

pub returns-clause-answer : goal.returns-clause-answer
returns-clause-answer c =
    subst (λ (p : AnswerValue × World). IfOk c.make.result (λ a. answer_seen a ≡ p.0))
    (step_taken (world_of c.args.self.now) c.args.step c.kind.result c.worker-worker.result c.next_move.result c.in-Some.next
    c.kind.ensures c.worker-worker.ensures c.next_move.ensures (sym c.in-Some.is ∙ c.asked.ensures))
    c.make.ensures.answer

pub returns-clause-after : goal.returns-clause-after
returns-clause-after c =
    subst (λ (p : AnswerValue × World). OnOk c.make.result (world_of c.make.new.self ≡ p.1))
    (step_taken (world_of c.args.self.now) c.args.step c.kind.result c.worker-worker.result c.next_move.result c.in-Some.next
    c.kind.ensures c.worker-worker.ensures c.next_move.ensures (sym c.in-Some.is ∙ c.asked.ensures))
    c.make.ensures.after

on_ok : {A E : Type 0} (result : Result A E) {P Q : Type 0} → OnOk result P → (P → Q) → OnOk result Q
on_ok (Ok a) p f = f p
on_ok (Err e) p f = p

pub returns-clause-reached : goal.returns-clause-reached
returns-clause-reached c =
    on_ok c.make.result (returns-clause-after c)
    (λ after. reached_more (world_of c.args.self.now) (world_of c.make.new.self) c.args.step c.requires.reached after)
