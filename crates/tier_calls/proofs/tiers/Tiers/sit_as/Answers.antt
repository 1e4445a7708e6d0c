use Rattle.std.proofs.Common.{Some, refl, sym, ap, ◌∙◌, List, arith}
use Rattle.atomic_table.specs.Table.{Me}
use Rattle.phaser_word.specs.Fields.{Fields}
use Rattle.tier_steps.specs.declared.kind.Kind.{Kind}
use Rattle.tier_steps.specs.View.{new_view}
use Rattle.tier_rule.specs.declared.sight.Sight.{Sight}
use Rattle.tier_calls.specs.Holding.{Named, sight_of}
use Rattle.tier_calls.proofs.Sitting.{sits, sit_seated, sit_allow}
use Rattle.tier_calls.proofs.Seating.{unpacked}
use Rattle.tier_calls.proofs.tiers.Tiers.sit_as.Goals as goal

pub load-found-requires : goal.load-found-requires
load-found-requires g c =
    let some = c.self.invariant.shape.shape.some in (
      c.requires.own ∙ ap (λ (z : Named). z.id) (sym c.self.view_is),
      (let a = c.self.invariant.words_are in omega arith),
      sit_allow _ _ c.requires.blank c.requires.key c.self.view_is some,
    )

pub at-seen-requires : goal.at-seen-requires
at-seen-requires g c = let r = c.load-found.ensures.2 c.requires.blank in (r.0, r.1, sym r.2)

pub invariant_of-result : goal.invariant_of-result
invariant_of-result g c =
    let s = sits c.requires.blank c.load-found.ensures.2 (λ w legal is. ap Some (c.at-seen.ensures w legal is)) in
    sit_seated _ _ s (unpacked _ _ _ refl s.some)
    (c.new-view.ensures ∙ ap (λ (w : Fields). new_view w.phase) (c.word.view_is ∙ c.word-word.ensures))

pub returns : goal.returns
returns g c =
    let s = sits c.requires.blank c.load-found.ensures.2 (λ w legal is. ap Some (c.at-seen.ensures w legal is)) in
    let key = ap (λ (m : Me Kind (List Sight)). (sight_of m).key) s.at ∙ c.requires.key in
    let id = c.load-found.ensures.0 ∙ c.requires.own in
    record {
      own = λ i. record { id = id i; key = key i };
      view = c.new-view.ensures ∙ ap (λ (w : Fields). new_view w.phase) (c.word.view_is ∙ c.word-word.ensures);
      root = refl;
      untried = ap (λ (m : Me Kind (List Sight)). (sight_of m).tried) s.at;
      looked = ap (λ (m : Me Kind (List Sight)). (sight_of m).steps) s.at;
      unsplit = ap (λ (m : Me Kind (List Sight)). (sight_of m).opened) s.at;
    }
