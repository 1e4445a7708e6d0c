use Rattle.std.proofs.Common.{◌∙◌, sym, ap, arith, subst, ◌<◌, length}
use Rattle.tier_rule.specs.declared.sight.Key.{Key}
use Rattle.tier_calls.specs.Holding.{Named}
use Rattle.tier_calls.proofs.Grouping.{all_saw, saw_number}
use Rattle.tier_calls.proofs.Splitting.{seat_saw}
use Rattle.tier_calls.proofs.tiers.Tiers.look_seat_as.Goals as goal

pub load-found-requires : goal.load-found-requires
load-found-requires g c =
    let key = ap (λ (n : Named). n.key) c.self.view_is in
    let there : c.args.tier < length c.self.inside.table.shared.key.shape =
    subst (λ (z : Key). c.args.tier < length z.shape) (sym key) c.requires.tier in (
      c.requires.own ∙ ap (λ (n : Named). n.id) (sym c.self.view_is),
      (let a = c.self.invariant.words_are in let b = c.from.ensures in omega arith),
      seat_saw _ _ c.args.seat.now.me c.requires.bare c.requires.tokens c.self.view_is c.requires.key c.requires.tier c.from.ensures,
    )

pub at-seen-requires : goal.at-seen-requires
at-seen-requires g c = saw_number c.args.seat.now.me c.load-found.new.seat.me 0 c.load-found.ensures.2

pub returns-clause-bare : goal.returns-clause-bare
returns-clause-bare g c =
    (all_saw c.args.seat.now.me c.load-found.new.seat.me 0 c.word.result c.load-found.ensures.2 (λ w legal is. c.word.ensures ∙ c.at-seen.ensures w legal is) c.requires.key c.from.ensures).0

pub returns-clause-looked : goal.returns-clause-looked
returns-clause-looked g c =
    (all_saw c.args.seat.now.me c.load-found.new.seat.me 0 c.word.result c.load-found.ensures.2 (λ w legal is. c.word.ensures ∙ c.at-seen.ensures w legal is) c.requires.key c.from.ensures).1
