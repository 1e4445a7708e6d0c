use Rattle.std.proofs.Common.{◌∙◌, sym, ap, arith, subst, ◌<◌, length}
use Rattle.tier_rule.specs.declared.sight.Key.{Key}
use Rattle.tier_calls.specs.Holding.{Named}
use Rattle.tier_calls.proofs.Grouping.{facts, saw_allow_by, all_saw, saw_number, looked_crowd, all_looked}
use Rattle.tier_calls.proofs.tiers.Tiers.look_all_as.Goals as goal

pub load-found-requires : goal.load-found-requires
load-found-requires g c =
    let f = facts {me = c.group.inside.seat.me} c.group.invariant.0 c.group.view_is c.self.view_is c.requires.own in
    let key = ap (λ (n : Named). n.key) c.self.view_is in
    let there : c.args.tier < length c.self.inside.table.shared.key.shape =
    subst (λ (z : Key). c.args.tier < length z.shape) (sym key) c.requires.tier in (
      f.same,
      (let a = c.self.invariant.words_are in let b = c.from.ensures in omega arith),
      saw_allow_by _ _ c.group.invariant.0 f.own (c.requires.key ∙ sym key) (let b = c.from.ensures in omega arith),
    )

pub at-seen-requires : goal.at-seen-requires
at-seen-requires g c = saw_number c.group.inside.seat.me c.load-found.new.seat.me 0 c.load-found.ensures.2

pub invariant_of-group : goal.invariant_of-group
invariant_of-group g c =
    let f = facts {me = c.group.inside.seat.me} c.group.invariant.0 c.group.view_is c.self.view_is c.requires.own in
    let r =
    all_saw c.group.inside.seat.me c.load-found.new.seat.me 0 c.word-word.result c.load-found.ensures.2
    (λ w legal is. c.word-word.ensures ∙ c.at-seen.ensures w legal is) c.requires.key c.from.ensures in
    (looked_crowd _ _ _ _ _ _ _ _ _ c.group.invariant.0 r.0 r.1 c.view_glanced-group-inside.ensures, tt)

pub returns : goal.returns
returns g c =
    let f = facts {me = c.group.inside.seat.me} c.group.invariant.0 c.group.view_is c.self.view_is c.requires.own in
    let r =
    all_saw c.group.inside.seat.me c.load-found.new.seat.me 0 c.word-word.result c.load-found.ensures.2
    (λ w legal is. c.word-word.ensures ∙ c.at-seen.ensures w legal is) c.requires.key c.from.ensures in
    all_looked c.group.inside.seat.me c.load-found.new.seat.me c.group.invariant.0 r.0 c.group.view_is
    (f.own ∙ ap (λ (n : Named). n.key) c.self.view_is) c.load-found.ensures.0 r.1 c.view_glanced-group-inside.ensures
