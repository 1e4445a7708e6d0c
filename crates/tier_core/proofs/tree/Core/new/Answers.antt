use Rattle.std.proofs.Common.{◌≡◌, ◌≤◌, List, [], length, ◌∙◌, ap, subst, sym, arith}
use Rattle.std.specs.Prelude.{replicate}
use Rattle.phaser_word.specs.Fields.{Fields}
use Rattle.tier_steps.specs.declared.view.View.{View}
use Rattle.tier_core.specs.Turn.{Progress}
use Rattle.tier_core.specs.Machine.{IsCore}
use Rattle.tier_steps.specs.Start.{empty_word}
use Rattle.tier_core.proofs.Opening.{opened_core}
use Rattle.tier_core.proofs.tree.Core.new.Goals as goal

pub invariant_of-result : goal.invariant_of-result
invariant_of-result c =
    let few : length c.args.shape ≤ 65535 = (let a = c.count.ensures.tiers.few in omega arith) in
    let words : c.in_ok-words.words.items ≡ replicate (length c.args.shape) (empty_word c.args.phase) =
    c.in_ok-words.ensures.items_if_clones_equal (λ y e. e) ∙ ap (λ n. replicate n (empty_word c.args.phase)) c.count.ensures.value in
    subst (λ (ws : List Fields). IsCore record {
      parents = c.args.shape;
      words = ws;
      views = c.new.result.items;
      calls = c.new-2.result.items;
      plan = c.args.plan;
    }) (sym words)
    (subst (λ (vs : List View). IsCore record {
      parents = c.args.shape;
      words = replicate (length c.args.shape) (empty_word c.args.phase);
      views = vs;
      calls = c.new-2.result.items;
      plan = c.args.plan;
    }) (sym c.new.ensures.items)
    (subst (λ (ps : List Progress). IsCore record {
      parents = c.args.shape;
      words = replicate (length c.args.shape) (empty_word c.args.phase);
      views = [];
      calls = ps;
      plan = c.args.plan;
    }) (sym c.new-2.ensures.items)
    (opened_core c.args.shape c.args.phase c.args.plan c.count.ensures.tiers.shape few c.requires)))
