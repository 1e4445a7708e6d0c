use Rattle.std.proofs.Common.{refl, inl, inr, ◌∙◌}
use Rattle.std.proofs.lemmas.Bool.{false≢true}
use Rattle.tier_table.proofs.Lasting.{arrives_then, looked_first, looked_then, passes_then, waited_then}
use Rattle.tier_table.proofs.waiting.pass_wait.Goals as goal

pub loop-init : goal.loop-init
loop-init g c = (tt, tt, refl, looked_first c.args.crew.view, λ p e. e, refl, inl refl)

pub loop-preserved : goal.loop-preserved
loop-preserved g c =
    let kept = c.loop.invariant in
    let reported = c.in-Err.ensures.answer in (
      tt,
      tt,
      reported.0 ∙ kept.2,
      looked_then c.pass_once.ensures.some kept.3 reported.1,
      λ p e. absurd (c.in-Err.ensures.ended p (kept.4 p e)),
      c.in-Err.ensures.unsplit ∙ kept.5,
      inr (waited_then kept.6 c.in-Err.ensures.made),
    )

pub returns-in-Ok-clause-answer : goal.returns-in-Ok-clause-answer
returns-in-Ok-clause-answer g c =
    let kept = c.loop.invariant in
    let some = c.pass_once.ensures.some in
    arrives_then c.args.own c.args.crew c.loop.crew c.in-Ok.answer some kept.2 kept.3 c.in-Ok.ensures.answer

pub returns-in-Ok-clause-ended : goal.returns-in-Ok-clause-ended
returns-in-Ok-clause-ended g c = λ p e. c.in-Ok.ensures.ended p (c.loop.invariant.4 p e)

pub pass_once-requires-clause-own : goal.pass_once-requires-clause-own
pass_once-requires-clause-own g c = c.loop.invariant.2 ∙ c.requires.own

pub pass_once-requires-clause-rule : goal.pass_once-requires-clause-rule
pass_once-requires-clause-rule g c = c.requires.rule

pub loop-preserved-derived : goal.loop-preserved-derived
loop-preserved-derived g c = (tt, tt)

pub unreachable-requires : goal.unreachable-requires
unreachable-requires g c = false≢true c.in-None.ensures.steps

pub returns-in-Ok-clause-unsplit : goal.returns-in-Ok-clause-unsplit
returns-in-Ok-clause-unsplit g c = c.in-Ok.ensures.unsplit ∙ c.loop.invariant.5

pub returns-in-Ok-clause-made : goal.returns-in-Ok-clause-made
returns-in-Ok-clause-made g c =
    passes_then c.args.own c.args.crew c.loop.crew c.in-Ok.answer c.loop.invariant.6 c.in-Ok.ensures.answer c.in-Ok.ensures.made
