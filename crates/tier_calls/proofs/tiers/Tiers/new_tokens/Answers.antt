use Rattle.std.proofs.Common.{ℕ, List, ap, sym, ◌∙◌, replicate}
use Rattle.atomic_table.specs.Table.{Me}
use Rattle.tier_steps.specs.declared.kind.Kind.{Kind}
use Rattle.tier_steps.specs.Start.{empty_word}
use Rattle.tier_rule.specs.declared.sight.Sight.{Sight}
use Rattle.tier_rule.specs.Reach.{sat_sight}
use Rattle.tier_calls.proofs.tiers.Tiers.new_tokens.Goals as goal

pub returns-then-n-eq0-clause-new : goal.returns-then-n-eq0-clause-new
returns-then-n-eq0-clause-new c = record {
  table = c.blank_off-seat.ensures.table;
  word = empty_word 0;
  tokens =
      ap (λ (m : Me Kind (List Sight)). m.0) c.blank_off-seat.ensures.blank
      ∙ ap (λ (n : ℕ). replicate n (sat_sight c.args.self.now.key (empty_word 0))) (sym c.if-n-eq0.true);
}
