use Rattle.std.proofs.Common.{◌∙◌, refl}
use Rattle.tier_calls.specs.Made.{is_upward}
use Rattle.tier_calls.proofs.Making.{made_none, made_then}
use Rattle.std.proofs.lemmas.Bool.{false≢true}
use Rattle.tier_table.proofs.Lasting.{same_first, same_then, led_more}
use Rattle.tier_table.proofs.waiting.resume_wait.Goals as goal

pub loop-init : goal.loop-init
loop-init g c = (tt, tt, refl, same_first c.args.errand.token.view, refl, made_none is_upward c.args.errand.token.steps)

pub pass_on-requires-clause-own : goal.pass_on-requires-clause-own
pass_on-requires-clause-own g c = c.loop.invariant.2 ∙ c.requires.own

pub pass_on-requires-clause-rule : goal.pass_on-requires-clause-rule
pass_on-requires-clause-rule g c = c.requires.rule

pub returns-in-Done : goal.returns-in-Done
returns-in-Done g c =
    let reported = c.in-Done.ensures.answer in
    let kept = c.loop.invariant in
    record {
      answer = (reported.0.tree ∙ kept.2, same_then kept.3 reported.1, reported.2, reported.3, reported.4);
      waited = c.in-Done.ensures.waited;
      unsplit = reported.0.opened ∙ kept.4;
      made = led_more kept.5 c.in-Done.led c.in-Done.crew.steps reported.5;
    }

pub returns-in-Left : goal.returns-in-Left
returns-in-Left g c =
    let reported = c.in-Left.ensures.answer in
    let kept = c.loop.invariant in
    record {
      answer = (reported.0.tree ∙ kept.2, same_then kept.3 reported.1, reported.2, reported.3, reported.4);
      waited = c.in-Left.ensures.waited;
      unsplit = reported.0.opened ∙ kept.4;
      made = led_more kept.5 c.in-Left.led c.in-Left.door.steps reported.5;
    }

pub loop-preserved : goal.loop-preserved
loop-preserved g c = let reported = c.in-Owing.ensures.answer in
    let kept = c.loop.invariant in
    (tt, tt, reported.0.tree ∙ kept.2, same_then kept.3 reported.1, reported.0.opened ∙ kept.4, made_then is_upward kept.5 reported.4)

pub loop-preserved-derived : goal.loop-preserved-derived
loop-preserved-derived g c = (tt, tt)

pub unreachable-requires : goal.unreachable-requires
unreachable-requires g c = false≢true c.in-None.ensures.steps
