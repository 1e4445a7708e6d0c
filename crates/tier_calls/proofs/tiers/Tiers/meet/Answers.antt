use Rattle.std.proofs.Common.{rules, ap, subst, ◌∙◌, refl}
use Rattle.phaser_word.specs.Fields.{Fields}
use Rattle.tier_calls.specs.Holding.{IsDoor}
use Rattle.tier_calls.proofs.Seating.{took_by}
use Rattle.tier_calls.proofs.Settling.{not_ended}
use Rattle.tier_calls.proofs.Greeting.{met_ended, met_ended_late, met_late, met_busy, first_door, second_door, waits_by, none_spent, refusal_of, ended_word, peeks_full, may_join, peek_made, lost_took, met_joined}
use Rattle.tier_calls.specs.Made.{is_entering}
use Rattle.tier_calls.proofs.Making.{made_then}
use Rattle.tier_calls.proofs.tiers.Tiers.meet.Goals as goal

pub returns-then-word : goal.returns-then-word
returns-then-word c =
    let p =
    met_ended c.args.tier c.args.size (took_by c.door.view_is c.look.ensures)
    (ended_word c.word.view_is c.word-word.ensures.word c.if-word.true) refl in
    (p.0, (p.1.0, p.1.1, search rules), peek_made c.args.tier c.args.size 0 (took_by c.door.view_is c.look.ensures))

pub returns-then-not-is_same : goal.returns-then-not-is_same
returns-then-not-is_same c =
    met_late c.args.tier c.args.size (subst IsDoor c.door.view_is c.door.invariant) (took_by c.door.view_is c.look.ensures)
    (not_ended c.word.view_is c.word-word.ensures.word c.if-word.false) c.requires.fresh

pub invariant_of-result-then-turns_away : goal.invariant_of-result-then-turns_away
invariant_of-result-then-turns_away c = first_door c.args.tier c.args.size c.door.invariant c.look.ensures

pub returns-then-turns_away : goal.returns-then-turns_away
returns-then-turns_away c = (
  none_spent c.args.tier c.args.size (took_by c.door.view_is c.look.ensures),
  peeks_full c.args.tier c.args.size (took_by c.door.view_is c.look.ensures)
      (waits_by c.word-word.ensures.word (c.is_same.ensures c.if-not-is_same.false) c.requires.waits)
      (not_ended c.word.view_is c.word-word.ensures.word c.if-word.false)
      (refusal_of c.args.size c.word-word.ensures.word c.turns_away.ensures c.if-turns_away.true) c.requires.fresh.unseen
      (ap (λ (w : Fields). w.parties) (c.word-2.view_is ∙ c.word-word.ensures.word)),
  peek_made c.args.tier c.args.size 0 (took_by c.door.view_is c.look.ensures),
)

pub attempt-requires-clause-needs : goal.attempt-requires-clause-needs
attempt-requires-clause-needs c =
    may_join c.args.self.now (first_door c.args.tier c.args.size c.door.invariant c.look.ensures) c.look.ensures.tier c.requires.tier
    c.requires.size
    (waits_by c.word-word.ensures.word (c.is_same.ensures c.if-not-is_same.false) c.requires.waits)
    (not_ended c.word.view_is c.word-word.ensures.word c.if-word.false)
    (refusal_of c.args.size c.word-word.ensures.word c.turns_away.ensures c.if-turns_away.false)

pub invariant_of-result-then-found : goal.invariant_of-result-then-found
invariant_of-result-then-found c = second_door c.args.tier c.args.size c.door.invariant c.look.ensures c.if-attempt.ensures

pub returns-then-found : goal.returns-then-found
returns-then-found c =
    let p =
    met_ended_late c.args.tier c.args.size (took_by c.door.view_is c.look.ensures) c.if-attempt.ensures
    (ended_word c.found.view_is c.word-found.ensures.word c.if-found.true) refl in (
      p.0,
      (p.1.0, p.1.1, search rules),
      made_then is_entering (peek_made c.args.tier c.args.size 0 (took_by c.door.view_is c.look.ensures))
          (peek_made c.args.tier c.args.size 1 (lost_took c.args.tier c.args.size c.look.ensures.tier c.if-attempt.ensures)),
    )

pub invariant_of-result-2 : goal.invariant_of-result-2
invariant_of-result-2 c = second_door c.args.tier c.args.size c.door.invariant c.look.ensures c.if-attempt.ensures

pub returns : goal.returns
returns c =
    met_busy c.args.tier c.args.size (subst IsDoor c.door.view_is c.door.invariant) (took_by c.door.view_is c.look.ensures)
    c.if-attempt.ensures
    (not_ended c.word.view_is c.word-word.ensures.word c.if-word.false)
    (not_ended c.found.view_is c.word-found.ensures.word c.if-found.false) c.requires.fresh

pub invariant_of-result : goal.invariant_of-result
invariant_of-result c = first_door c.args.tier c.args.size c.door.invariant c.look.ensures

pub invariant_of-result-then-not-is_same : goal.invariant_of-result-then-not-is_same
invariant_of-result-then-not-is_same c = first_door c.args.tier c.args.size c.door.invariant c.look.ensures

pub returns-then-attempt : goal.returns-then-attempt
returns-then-attempt c =
    met_joined c.args.tier c.args.size (subst IsDoor c.door.view_is c.door.invariant) c.requires.fresh
    (took_by c.door.view_is c.look.ensures) c.if-attempt.ensures
    (ap (λ (w : Fields). w.phase) (c.word-2.view_is ∙ c.word-word.ensures.word))
