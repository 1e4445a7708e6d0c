use Rattle.std.proofs.Common.{◌∙◌, refl, inl, inr}
use Rattle.std.proofs.lemmas.Bool.{false≢true}
use Rattle.tier_table.proofs.Lasting.{entered_then}
use Rattle.tier_table.proofs.waiting.register_within.Goals as goal

pub loop-init : goal.loop-init
loop-init g c = (tt, tt, c.requires.own, λ p e. e, refl, inl refl)

pub join_once-requires-clause-own : goal.join_once-requires-clause-own
join_once-requires-clause-own g c = c.loop.invariant.2

pub join_once-requires-clause-tier : goal.join_once-requires-clause-tier
join_once-requires-clause-tier g c = c.requires.tier

pub join_once-requires-clause-members : goal.join_once-requires-clause-members
join_once-requires-clause-members g c = c.requires.members

pub returns-in-Ok : goal.returns-in-Ok
returns-in-Ok g c = record {
  answer = c.in-Ok.ensures.answer;
  unsplit = c.in-Ok.ensures.unsplit ∙ c.loop.invariant.4;
  made = entered_then c.loop.invariant.5 c.in-Ok.ensures.made;
  ended = λ p e. c.in-Ok.ensures.ended p (c.loop.invariant.3 p e);
  within = tt;
}

pub returns-then-is_err-clause-made : goal.returns-then-is_err-clause-made
returns-then-is_err-clause-made g c = entered_then c.loop.invariant.5 c.in-Err.ensures.made

pub loop-preserved : goal.loop-preserved
loop-preserved g c = (
  tt,
  tt,
  c.in-Err.ensures.answer,
  λ p e. absurd (c.in-Err.ensures.ended p (c.loop.invariant.3 p e)),
  c.in-Err.ensures.unsplit ∙ c.loop.invariant.4,
  inr (entered_then c.loop.invariant.5 c.in-Err.ensures.made),
)

pub loop-preserved-derived : goal.loop-preserved-derived
loop-preserved-derived g c = (tt, tt)

pub unreachable-requires : goal.unreachable-requires
unreachable-requires g c = false≢true c.in-None.ensures.steps
