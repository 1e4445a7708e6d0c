use Rattle.std.proofs.Common.{◌∙◌, refl, ap, arith}
use Rattle.phaser_word.specs.Fields.{Fields}
use Rattle.tier_steps.specs.declared.view.Passage.TheVariants.{Departure}
use Rattle.tier_steps.specs.Step.{passed}
use Rattle.tier_calls.specs.Kept.{as_seat}
use Rattle.tier_calls.proofs.Grouping.{looked_crowd, all_lost}
use Rattle.tier_calls.proofs.Keeping.{begun_seated, begun_is, begun_from}
use Rattle.tier_calls.proofs.LeavingAll.{may_leave, gone_long, gone_seated, owes_nothing, owes_something, owing_last, counted, have_left, open_word, few, many}
use Rattle.tier_calls.proofs.tiers.Tiers.leave_together.Goals as goal

pub word_left-before-requires-clause-open : goal.word_left-before-requires-clause-open
word_left-before-requires-clause-open g c =
    open_word _ (as_seat g.B.Begun.before) _ _ _ _ _
    (begun_seated {me = c.group.inside.seat.me} c.group.invariant.0 c.group.view_is c.requires.begins)
    (begun_is {me = c.group.inside.seat.me} c.group.invariant.0 c.group.view_is c.requires.begins) c.requires.own c.requires.may
    c.requires.legal c.requires.some (let x = c.requires.begins.long in let y = c.requires.enough in omega arith)

pub word_left-before-requires-clause-more : goal.word_left-before-requires-clause-more
word_left-before-requires-clause-more g c =
    let f =
    few _ (as_seat g.B.Begun.before) _ _ _ _ _
    (begun_seated {me = c.group.inside.seat.me} c.group.invariant.0 c.group.view_is c.requires.begins)
    (begun_is {me = c.group.inside.seat.me} c.group.invariant.0 c.group.view_is c.requires.begins) c.requires.own c.requires.may
    c.requires.legal c.requires.some (let x = c.requires.begins.long in let y = c.requires.enough in omega arith) in
    let b = c.group.invariant.0.some in
    omega arith

pub go_from-requires-clause-may : goal.go_from-requires-clause-may
go_from-requires-clause-may g c =
    may_leave _ (as_seat g.B.Begun.before) _ _ _ _ _
    (begun_seated {me = c.group.inside.seat.me} c.group.invariant.0 c.group.view_is c.requires.begins)
    (begun_is {me = c.group.inside.seat.me} c.group.invariant.0 c.group.view_is c.requires.begins) c.requires.own c.requires.may
    c.requires.legal c.requires.some (let x = c.requires.begins.long in let y = c.requires.enough in omega arith) _
    (c.word_passed-next.ensures ∙ ap (passed c.group.inside.view.tier Departure) c.word_left-before.ensures)

pub go_from-requires-clause-from : goal.go_from-requires-clause-from
go_from-requires-clause-from g c =
    begun_from {me = c.group.inside.seat.me} c.group.invariant.0 c.group.view_is c.requires.begins c.requires.own

pub invariant_of-result : goal.invariant_of-result
invariant_of-result g c = (
  looked_crowd _ _ _ _ _ _ _ _ _ c.group.invariant.0 c.in-Some.ensures.gone.bare c.in-Some.ensures.gone.looked c.view_glanced-view.ensures,
  tt,
)

pub returns-in-Some : goal.returns-in-Some
returns-in-Some g c =
    all_lost c.group.inside.seat.me c.go_from.new.seat.me c.group.invariant.0 c.group.view_is c.requires.own c.go_from.ensures.table
    c.in-Some.ensures.gone c.view_glanced-view.ensures

pub part_first-requires-clause-count : goal.part_first-requires-clause-count
part_first-requires-clause-count g c = (
  gone_long _ (as_seat g.B.Begun.before) _ _ _ _ _
      (begun_seated {me = c.group.inside.seat.me} c.group.invariant.0 c.group.view_is c.requires.begins)
      (begun_is {me = c.group.inside.seat.me} c.group.invariant.0 c.group.view_is c.requires.begins) c.requires.own c.requires.may
      c.requires.legal c.requires.some (let x = c.requires.begins.long in let y = c.requires.enough in omega arith) _ c.go_from.new.seat.me
      c.in_default.ensures.gone,
  c.group.invariant.0.some,
)

pub invariant_of-token : goal.invariant_of-token
invariant_of-token g c =
    gone_seated _ (as_seat g.B.Begun.before) _ _ _ _ _
    (begun_seated {me = c.group.inside.seat.me} c.group.invariant.0 c.group.view_is c.requires.begins)
    (begun_is {me = c.group.inside.seat.me} c.group.invariant.0 c.group.view_is c.requires.begins) c.requires.own c.requires.may
    c.requires.legal c.requires.some (let x = c.requires.begins.long in let y = c.requires.enough in omega arith) _ _ _
    c.go_from.new.seat.me c.part_first.new.seat.me _ c.word_left-before.ensures c.word_passed-next.ensures c.in_default.ensures.gone
    c.part_first.ensures.kept c.errand_left-errand.ensures c.of.ensures

pub invariant_of-result-then-word-count : goal.invariant_of-result-then-word-count
invariant_of-result-then-word-count g c = record {
  none = refl;
  rests =
      owes_nothing _ (as_seat g.B.Begun.before) _ _ _ _ _
      (begun_seated {me = c.group.inside.seat.me} c.group.invariant.0 c.group.view_is c.requires.begins)
      (begun_is {me = c.group.inside.seat.me} c.group.invariant.0 c.group.view_is c.requires.begins) c.requires.own c.requires.may
      c.requires.legal c.requires.some (let x = c.requires.begins.long in let y = c.requires.enough in omega arith) _ _ _
      c.word_left-before.ensures c.errand_left-errand.ensures
      (let a = c.group.invariant.0.long in
      let u = ap (λ (w : Fields). w.unarrived) c.word.view_is in
      let d = c.if-word-count.true in
      omega arith);
}

pub returns-then-word-count : goal.returns-then-word-count
returns-then-word-count g c =
    let seat =
    gone_seated _ (as_seat g.B.Begun.before) _ _ _ _ _
    (begun_seated {me = c.group.inside.seat.me} c.group.invariant.0 c.group.view_is c.requires.begins)
    (begun_is {me = c.group.inside.seat.me} c.group.invariant.0 c.group.view_is c.requires.begins) c.requires.own c.requires.may
    c.requires.legal c.requires.some (let x = c.requires.begins.long in let y = c.requires.enough in omega arith) _ _ _
    c.go_from.new.seat.me c.part_first.new.seat.me _ c.word_left-before.ensures c.word_passed-next.ensures c.in_default.ensures.gone
    c.part_first.ensures.kept c.errand_left-errand.ensures c.of.ensures in
    let left =
    have_left _ (as_seat g.B.Begun.before) _ _ _ _ _
    (begun_seated {me = c.group.inside.seat.me} c.group.invariant.0 c.group.view_is c.requires.begins)
    (begun_is {me = c.group.inside.seat.me} c.group.invariant.0 c.group.view_is c.requires.begins) c.requires.own c.requires.may
    c.requires.legal c.requires.some (let x = c.requires.begins.long in let y = c.requires.enough in omega arith) _ _ _
    c.go_from.new.seat.me c.part_first.new.seat.me c.errand_left-errand.result c.part_first.new.seat.table_id c.go_from.new.seat.table_id _
    c.word_left-before.ensures c.word_passed-next.ensures
    c.in_default.ensures.gone c.part_first.ensures.kept seat c.of.ensures c.requires.unled c.part_first.ensures.table
    c.go_from.ensures.table refl in (
      counted _ (as_seat g.B.Begun.before) _ _ _ _ _
          (begun_seated {me = c.group.inside.seat.me} c.group.invariant.0 c.group.view_is c.requires.begins)
          (begun_is {me = c.group.inside.seat.me} c.group.invariant.0 c.group.view_is c.requires.begins) c.requires.own c.requires.may
          c.requires.legal c.requires.some (let x = c.requires.begins.long in let y = c.requires.enough in omega arith)
          c.errand_left-errand.result,
      left,
      (let a =
          many _ (as_seat g.B.Begun.before) _ _ _ _ _
          (begun_seated {me = c.group.inside.seat.me} c.group.invariant.0 c.group.view_is c.requires.begins)
          (begun_is {me = c.group.inside.seat.me} c.group.invariant.0 c.group.view_is c.requires.begins) c.requires.own c.requires.may
          c.requires.legal c.requires.some (let x = c.requires.begins.long in let y = c.requires.enough in omega arith) in
          let u = ap (λ (w : Fields). w.unarrived) c.word.view_is in
          let d = c.if-word-count.true in
          omega arith),
    )

pub invariant_of-token-2 : goal.invariant_of-token-2
invariant_of-token-2 g c =
    gone_seated _ (as_seat g.B.Begun.before) _ _ _ _ _
    (begun_seated {me = c.group.inside.seat.me} c.group.invariant.0 c.group.view_is c.requires.begins)
    (begun_is {me = c.group.inside.seat.me} c.group.invariant.0 c.group.view_is c.requires.begins) c.requires.own c.requires.may
    c.requires.legal c.requires.some (let x = c.requires.begins.long in let y = c.requires.enough in omega arith) _ _ _
    c.go_from.new.seat.me c.part_first.new.seat.me _ c.word_left-before.ensures c.word_passed-next.ensures c.in_default.ensures.gone
    c.part_first.ensures.kept c.errand_left-errand.ensures c.of.ensures

pub owing_left-requires-clause-owes : goal.owing_left-requires-clause-owes
owing_left-requires-clause-owes g c =
    owes_something _ (as_seat g.B.Begun.before) _ _ _ _ _
    (begun_seated {me = c.group.inside.seat.me} c.group.invariant.0 c.group.view_is c.requires.begins)
    (begun_is {me = c.group.inside.seat.me} c.group.invariant.0 c.group.view_is c.requires.begins) c.requires.own c.requires.may
    c.requires.legal c.requires.some (let x = c.requires.begins.long in let y = c.requires.enough in omega arith) _ _ _
    c.word_left-before.ensures c.errand_left-errand.ensures
    (let f =
    few _ (as_seat g.B.Begun.before) _ _ _ _ _
    (begun_seated {me = c.group.inside.seat.me} c.group.invariant.0 c.group.view_is c.requires.begins)
    (begun_is {me = c.group.inside.seat.me} c.group.invariant.0 c.group.view_is c.requires.begins) c.requires.own c.requires.may
    c.requires.legal c.requires.some (let x = c.requires.begins.long in let y = c.requires.enough in omega arith) in
    let u = ap (λ (w : Fields). w.unarrived) c.word.view_is in
    let d = c.if-word-count.false in
    omega arith)

pub returns : goal.returns
returns g c =
    let seat =
    gone_seated _ (as_seat g.B.Begun.before) _ _ _ _ _
    (begun_seated {me = c.group.inside.seat.me} c.group.invariant.0 c.group.view_is c.requires.begins)
    (begun_is {me = c.group.inside.seat.me} c.group.invariant.0 c.group.view_is c.requires.begins) c.requires.own c.requires.may
    c.requires.legal c.requires.some (let x = c.requires.begins.long in let y = c.requires.enough in omega arith) _ _ _
    c.go_from.new.seat.me c.part_first.new.seat.me _ c.word_left-before.ensures c.word_passed-next.ensures c.in_default.ensures.gone
    c.part_first.ensures.kept c.errand_left-errand.ensures c.of.ensures in
    let left =
    have_left _ (as_seat g.B.Begun.before) _ _ _ _ _
    (begun_seated {me = c.group.inside.seat.me} c.group.invariant.0 c.group.view_is c.requires.begins)
    (begun_is {me = c.group.inside.seat.me} c.group.invariant.0 c.group.view_is c.requires.begins) c.requires.own c.requires.may
    c.requires.legal c.requires.some (let x = c.requires.begins.long in let y = c.requires.enough in omega arith) _ _ _
    c.go_from.new.seat.me c.part_first.new.seat.me c.errand_left-errand.result c.part_first.new.seat.table_id c.go_from.new.seat.table_id _
    c.word_left-before.ensures c.word_passed-next.ensures
    c.in_default.ensures.gone c.part_first.ensures.kept seat c.of.ensures c.requires.unled c.part_first.ensures.table
    c.go_from.ensures.table c.owing_left.ensures in
    let last =
    owing_last _ (as_seat g.B.Begun.before) _ _ _ _ _
    (begun_seated {me = c.group.inside.seat.me} c.group.invariant.0 c.group.view_is c.requires.begins)
    (begun_is {me = c.group.inside.seat.me} c.group.invariant.0 c.group.view_is c.requires.begins) c.requires.own c.requires.may
    c.requires.legal c.requires.some (let x = c.requires.begins.long in let y = c.requires.enough in omega arith) _ _
    c.errand_left-errand.result c.part_first.new.seat.me c.part_first.new.seat.table_id _ c.word_left-before.ensures
    c.errand_left-errand.ensures
    (let f =
    few _ (as_seat g.B.Begun.before) _ _ _ _ _
    (begun_seated {me = c.group.inside.seat.me} c.group.invariant.0 c.group.view_is c.requires.begins)
    (begun_is {me = c.group.inside.seat.me} c.group.invariant.0 c.group.view_is c.requires.begins) c.requires.own c.requires.may
    c.requires.legal c.requires.some (let x = c.requires.begins.long in let y = c.requires.enough in omega arith) in
    let u = ap (λ (w : Fields). w.unarrived) c.word.view_is in
    let d = c.if-word-count.false in
    omega arith)
    c.owing_left.ensures left.tree in
    (last.0, left, last.1, last.2)
