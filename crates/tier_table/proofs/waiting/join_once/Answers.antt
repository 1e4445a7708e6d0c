use Rattle.std.proofs.Common.{◌≡◌, ◌⊎◌, inl, inr, ℕ, List, refl, subst, ◌∙◌, rules}
use Rattle.tier_steps.specs.declared.kind.Kind.{Kind}
use Rattle.tier_core.specs.declared.call.Cause.{Cause}
use Rattle.tier_calls.specs.declared.joining.Registered.{Registered}
use Rattle.tier_calls.specs.declared.joining.Registered.TheVariants.{Held, Busy}
use Rattle.tier_calls.specs.Holding.{Holding}
use Rattle.tier_calls.specs.Made.{HasEntered}
use Rattle.tier_calls.specs.Registers.{EnteredBy, token_of}
use Rattle.tier_core.specs.declared.call.Played.TheVariants as played
use Rattle.tier_calls.specs.Openings.{asked_tier, asked_size}
use Rattle.tier_table.specs.AtLast.{HasSplit}
use Rattle.tier_table.proofs.Lasting.{opens_for, refused_for, entered_more, watched_enters}
use Rattle.tier_table.proofs.waiting.join_once.Goals as goal

pub join-requires-clause-own : goal.join-requires-clause-own
join-requires-clause-own g c = c.requires.own

pub join-requires-clause-tier : goal.join-requires-clause-tier
join-requires-clause-tier g c = c.requires.tier

pub join-requires-clause-size : goal.join-requires-clause-size
join-requires-clause-size g c = c.requires.members

pub returns-in-Joined : goal.returns-in-Joined
returns-in-Joined g c =
    let reported = c.in-Joined.ensures.answer in
    record {
      answer = (reported.0.tree ∙ c.requires.own, reported.1, reported.2, reported.3);
      unsplit = reported.0.opened;
      made = c.in-Joined.ensures.made;
      ended = λ p e. absurd (c.in-Joined.ensures.ended p e);
    }

pub returns-in-Full : goal.returns-in-Full
returns-in-Full g c =
    let reported = c.in-Full.ensures.answer in
    record {
      answer = (
        reported.0.tree ∙ c.requires.own,
        refused_for c.args.tiers.now c.args.door c.args.tier c.args.tier c.args.members c.args.members c.in-Full.next.view
            (played.Full c.in-Full.count) c.requires.own refl refl
            reported.1,
      );
      unsplit = reported.0.opened;
      made = c.in-Full.ensures.made;
      ended = λ p e. absurd (c.in-Full.ensures.ended p e);
    }

pub returns-in-Ended : goal.returns-in-Ended
returns-in-Ended g c =
    let reported = c.in-Ended.ensures.answer in
    record {
      answer = (reported.0.tree ∙ c.requires.own, (reported.1.0, reported.1.1, search rules));
      unsplit = reported.0.opened;
      made = c.in-Ended.ensures.made;
      ended = λ p e. tt;
    }

pub open_wait-requires : goal.open_wait-requires
open_wait-requires g c = record { own = c.in-Owing.ensures.answer.0.tree ∙ c.requires.own }

pub returns-in-Owing : goal.returns-in-Owing
returns-in-Owing g c =
    let asked = c.in-Owing.ensures.answer.1 in
    let errand = c.in-Owing.opening.token.view.errand in
    record {
      answer =
          opens_for c.args.tiers.now (asked_tier errand) c.args.tier (asked_size errand) c.args.members c.open_wait.result asked.place
          asked.members c.open_wait.ensures.answer;
      unsplit = subst (λ (n : ℕ). HasSplit n c.open_wait.result) c.in-Owing.ensures.answer.0.opened c.open_wait.ensures.unsplit;
      made = entered_more c.in-Owing.ensures.made c.open_wait.ensures.made;
      ended = λ p e. absurd (c.in-Owing.ensures.ended p e);
    }

pub returns-in-Busy-clause-made : goal.returns-in-Busy-clause-made
returns-in-Busy-clause-made g c = watched_enters c.in-Busy.ensures.made
