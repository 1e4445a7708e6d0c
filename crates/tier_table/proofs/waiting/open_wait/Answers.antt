use Rattle.std.proofs.Common.{◌∙◌, refl, rules}
use Rattle.tier_calls.specs.Made.{is_entering}
use Rattle.tier_calls.proofs.Making.{made_none, made_then}
use Rattle.std.proofs.lemmas.Bool.{false≢true}
use Rattle.tier_calls.specs.Openings.{asked_tier, asked_size}
use Rattle.tier_core.specs.declared.call.Played.TheVariants as played
use Rattle.tier_table.proofs.Lasting.{joined_for, refused_for}
use Rattle.tier_table.proofs.waiting.open_wait.Goals as goal

pub loop-init : goal.loop-init
loop-init g c = (tt, tt, c.requires.own, refl, refl, refl, made_none is_entering c.args.opening.token.steps)

pub returns-in-Joined : goal.returns-in-Joined
returns-in-Joined g c =
    let reported = c.in-Joined.ensures.answer in
    let kept = c.loop.invariant in
    let now = c.loop.opening.token.view.errand in
    let first = c.args.opening.token.view.errand in
    record {
      answer = (
        reported.0.tree ∙ kept.2,
        joined_for (asked_tier now) (asked_tier first) (asked_size now) (asked_size first) c.in-Joined.crew.view kept.3 kept.4 reported.1,
        reported.2,
        reported.3,
      );
      unsplit = reported.0.opened ∙ kept.5;
      made = made_then is_entering kept.6 c.in-Joined.ensures.made;
    }

pub returns-in-Full : goal.returns-in-Full
returns-in-Full g c =
    let reported = c.in-Full.ensures.answer in
    let kept = c.loop.invariant in
    let now = c.loop.opening.token.view.errand in
    let first = c.args.opening.token.view.errand in
    record {
      answer = (
        reported.0.tree ∙ kept.2,
        refused_for c.args.tiers.now c.loop.opening.token (asked_tier now) (asked_tier first) (asked_size now) (asked_size first)
            c.in-Full.door.view
            (played.Full c.in-Full.count) kept.2 kept.3 kept.4 reported.1,
      );
      unsplit = reported.0.opened ∙ kept.5;
      made = made_then is_entering kept.6 c.in-Full.ensures.made;
    }

pub returns-in-Ended : goal.returns-in-Ended
returns-in-Ended g c =
    let reported = c.in-Ended.ensures.answer in
    record {
      answer = (reported.0.tree ∙ c.loop.invariant.2, (reported.1.0, reported.1.1, search rules));
      unsplit = reported.0.opened ∙ c.loop.invariant.5;
      made = made_then is_entering c.loop.invariant.6 c.in-Ended.ensures.made;
    }

pub returns-in-Held : goal.returns-in-Held
returns-in-Held g c = let reported = c.in-Held.ensures.answer in
    record {
      answer = reported.0.tree ∙ c.loop.invariant.2;
      unsplit = reported.0.opened ∙ c.loop.invariant.5;
      made = made_then is_entering c.loop.invariant.6 c.in-Held.ensures.made;
    }

pub open_on-requires : goal.open_on-requires
open_on-requires g c = record { own = c.loop.invariant.2 }

pub loop-preserved : goal.loop-preserved
loop-preserved g c =
    let reported = c.in-Owing.ensures.answer in
    let kept = c.loop.invariant in (
      tt,
      tt,
      reported.0.tree ∙ kept.2,
      reported.1.place ∙ kept.3,
      reported.1.members ∙ kept.4,
      reported.0.opened ∙ kept.5,
      made_then is_entering kept.6 c.in-Owing.ensures.made,
    )

pub loop-preserved-derived : goal.loop-preserved-derived
loop-preserved-derived g c = (tt, tt)

pub unreachable-requires : goal.unreachable-requires
unreachable-requires g c = false≢true c.in-None.ensures.steps
