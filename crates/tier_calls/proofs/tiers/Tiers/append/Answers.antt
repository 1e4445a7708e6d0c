use Rattle.std.proofs.Common.{◌∙◌, arith}
use Rattle.tier_rule.proofs.Allowed.{joins_allow}
use Rattle.tier_calls.proofs.Grouping.{facts}
use Rattle.tier_calls.proofs.Splitting.{joined_own, joined_now, joined_crowd, together_now}
use Rattle.tier_calls.proofs.Few.{few_joined}
use Rattle.tier_calls.proofs.Keeping.{found_joined}
use Rattle.tier_calls.proofs.tiers.Tiers.append.Goals as goal

pub join_seat-requires : goal.join_seat-requires
join_seat-requires c =
    let some = c.self.invariant.shape.shape.some in
    let f = facts {me = c.group.inside.seat.me} c.group.invariant.0 c.group.view_is c.self.view_is c.requires.own.0 in
    let o = facts {me = c.other.inside.seat.me} c.other.invariant.0 c.other.view_is c.self.view_is c.requires.own.1 in
    (f.same, o.same, c.other.invariant.0.bare, (let a = c.self.invariant.words_are in omega arith), joins_allow _ _ _ _ _)

pub look_seat-word-requires-clause-tokens : goal.look_seat-word-requires-clause-tokens
look_seat-word-requires-clause-tokens c =
    joined_own {me = c.group.inside.seat.me} {mo = c.other.inside.seat.me} c.join_seat.new.seat.me c.group.invariant.0 c.group.view_is
    c.requires.own.0 c.other.invariant.0 c.other.view_is c.requires.own.1 c.join_seat.ensures.2

pub invariant_of-group : goal.invariant_of-group
invariant_of-group c =
    let j =
    joined_now {me = c.group.inside.seat.me} {mo = c.other.inside.seat.me} c.join_seat.new.seat.me c.look_seat-word.new.seat.me
    c.group.invariant.0 c.group.view_is c.requires.own.0 c.other.invariant.0 c.other.view_is c.requires.own.1 c.requires.together
    c.join_seat.ensures.2 c.look_seat-word.ensures.looked in
    let both =
    joined_crowd c.look_seat-word.new.seat.me c.group.invariant.0 c.other.invariant.0 c.look_seat-word.ensures.bare j
    c.look-group-inside.ensures in (
      both,
      found_joined c.look_seat-word.new.seat.me c.kept_after-group-inside.result c.group.invariant.0 both j
          c.look_seat-word.ensures.looked.after c.look-group-inside.ensures c.kept_after-group-inside.ensures,
    )

pub returns : goal.returns
returns c =
    let j =
    joined_now {me = c.group.inside.seat.me} {mo = c.other.inside.seat.me} c.join_seat.new.seat.me c.look_seat-word.new.seat.me
    c.group.invariant.0 c.group.view_is c.requires.own.0 c.other.invariant.0 c.other.view_is c.requires.own.1 c.requires.together
    c.join_seat.ensures.2 c.look_seat-word.ensures.looked in
    together_now {me = c.group.inside.seat.me} {mo = c.other.inside.seat.me} c.look_seat-word.new.seat.me c.group.invariant.0
    c.group.view_is c.requires.own.0 c.other.view_is j c.look-group-inside.ensures
    (c.look_seat-word.ensures.table ∙ c.join_seat.ensures.0)

pub overflow_add-group : goal.overflow_add-group
overflow_add-group c =
    let a =
    few_joined {me = c.group.inside.seat.me} {mo = c.other.inside.seat.me} c.join_seat.new.seat.me c.look_seat-word.new.seat.me
    c.group.invariant.0 c.group.view_is c.requires.own.0 c.other.invariant.0 c.other.view_is c.requires.own.1 c.requires.together
    c.join_seat.ensures.2 c.look_seat-word.ensures.looked in
    omega arith
