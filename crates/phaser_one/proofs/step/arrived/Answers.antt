use Rattle.std.proofs.Common.{◌≡◌, ℕ, ◌≤◌, ◌-◌, false, sym, ap, ◌∙◌, refl, arith, subst, to_z, of_z, w32}
use Rattle.phaser_word.specs.Fields.{Fields}
use Rattle.phaser_word.specs.Phase.{shown_of}
use Rattle.phaser_one.specs.Arrivals.{call_of, left_by}
use Rattle.phaser_one.specs.Calls.{Refused, NobodyUnarrived}
use Rattle.phaser_one.specs.Seen.{IsSettled}
use Rattle.phaser_one.proofs.Following.{refused_follows, nobody_answer, arrival_answer, arrival_follows, same_shown}
use Rattle.phaser_one.proofs.step.arrived.Goals as goal

pub returns-then-unarrived-eq0-clause-flat : goal.returns-then-unarrived-eq0-clause-flat
returns-then-unarrived-eq0-clause-flat g c = λ f a.
    let ended : c.args.word.ended ≡ false = sym (ap (λ (w : Fields). w.ended) c.word.view_is) ∙ c.if-ended.false in
    let nobody : c.args.word.unarrived ≡ 0 = sym (ap (λ (w : Fields). w.unarrived) c.word.view_is) ∙ c.if-unarrived-eq0.true in
    refused_follows c.args.rule.now.plan (call_of c.args.arrival) c.args.word f (Refused NobodyUnarrived) a
    (arrival_answer c.args.arrival f ∙ nobody_answer f c.args.word c.requires.counted a ended nobody) refl

pub returns-clause-flat : goal.returns-clause-flat
returns-clause-flat g c =
    let phase : c.word.inside.phase ≡ c.args.word.phase = ap (λ (w : Fields). w.phase) c.word.view_is in
    let absent : c.word.inside.unarrived ≡ c.args.word.unarrived = ap (λ (w : Fields). w.unarrived) c.word.view_is in
    let ended : c.args.word.ended ≡ false = sym (ap (λ (w : Fields). w.ended) c.word.view_is) ∙ c.if-ended.false in
    let small : c.args.word.phase ≤ 2147483647 = (let legal : c.word.inside.phase ≤ 2147483647 = c.word.invariant.phase in omega arith) in
    let shown : to_z w32 (of_z w32 c.shown-shown.result) ≡ shown_of c.args.word.phase c.args.word.ended =
    same_shown c.shown-shown.result c.args.word.phase c.args.word.ended c.shown-shown.ensures small in
    let Q : ℕ → Type 0 = λ n. IsSettled c.args.rule.now.plan c.word.inside.phase n (c.word.inside.unarrived - 1) c.settle-word.result in
    let settled : Q (left_by c.args.arrival c.word.inside.parties) = subst Q c.left_of.ensures c.settle-word.ensures.settled in
    let P : Fields → Type 0 =
    λ w. IsSettled c.args.rule.now.plan w.phase (left_by c.args.arrival w.parties) (w.unarrived - 1) c.settle-word.result in
    arrival_follows c.args.arrival c.args.rule.now.plan c.args.word c.settle-word.result _ c.requires.counted ended (omega arith) shown
    (subst P c.word.view_is settled)
