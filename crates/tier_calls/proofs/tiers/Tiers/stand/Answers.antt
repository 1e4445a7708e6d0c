use Rattle.std.proofs.Common.{inr, sym, ◌∙◌}
use Rattle.tier_calls.proofs.Running.{went_then}
use Rattle.tier_calls.proofs.tiers.Tiers.stand.Goals as goal

pub returns : goal.returns
returns c = record {
  went = went_then _ 0 0 _ _ _ c.look_on.ensures.step c.look_on-2.ensures.step;
  next = inr (c.look_on-2.ensures.back (sym c.gives_back.ensures ∙ c.if-not-gives_back.false));
}
