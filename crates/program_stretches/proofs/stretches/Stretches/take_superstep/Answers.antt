use Rattle.std.proofs.Common.{◌≡◌, true, ◌∙◌, ℕ, Option, Some, None, map, ap, sym, subst, arith}
use Rattle.std.specs.Prelude.{MatchOption}
use Rattle.programs.specs.InPlace.{left_in, spawned_in}
use Rattle.program_stretches.specs.declared.fault.Outcome.TheVariants.{TooMany}
use Rattle.program_stretches.specs.Parts.{reading_of, covers, deeds_in}
use Rattle.program_stretches.specs.SuperstepStart.{live_of}
use Rattle.program_stretches.specs.StretchesValue.{StretchesValue}
use Rattle.program_stretches.specs.Closing.{EndsBy}
use Rattle.program_stretches.proofs.Closed.{ends_many, closed_end, have_same, covers_on}
use Rattle.program_stretches.proofs.Counted.{are_counted, few_on, counts_on, did_the_same}
use Rattle.program_stretches.proofs.Reopening.{if_ok, none_moved, reopened_from}
use Rattle.program_stretches.proofs.stretches.Stretches.take_superstep.Goals.{else-left-eq0-via-then-left-eq0+else-spawned-eq0, else-left-eq0-via-else-left-eq0}
use Rattle.program_stretches.proofs.Finding.{finds_also}
use Rattle.program_stretches.proofs.EachDone.{each_also, can_also}
use Rattle.program_stretches.proofs.stretches.Stretches.take_superstep.Goals as goal

counted_there : (o : Option ℕ) (A : Type 0) (F : ℕ → Type 0) → MatchOption o A F → {x : ℕ} → o ≡ Some x → F x
counted_there None A F h e = cc
counted_there (Some y) A F h e = subst F (same e) h
  where
    value : Option ℕ → ℕ
    value None = y
    value (Some x) = x

    same : {x : ℕ} → Some y ≡ Some x → y ≡ x
    same e = ap value e

not_counted : (o : Option ℕ) (A : Type 0) (F : ℕ → Type 0) → MatchOption o A F → o ≡ None → A
not_counted None A F h e = h
not_counted (Some y) A F h e = cc

pub count_left-left-requires : goal.count_left-left-requires
count_left-left-requires g c =
    let m = reading_of g.P.Program.frame g.P.Program.may g.P.Program.meant g.P.Task.OnPath.path_of in
    let a = c.args.self.now in
    let h = are_counted m a (g.met.P.Program.keeps_paths a.program) c.requires.running c.requires.run in
    let count = ap (λ (x : StretchesValue g.row.P.Denot g.row.P-Task.Denot). x.count) c.self.view_is in
    let e = ap left_in (ap deeds_in c.deref.ensures.value) in
    omega (arith, e, h.left, h.all, count)

pub overflow_sub-stay : goal.overflow_sub-stay
overflow_sub-stay g c =
    let m = reading_of g.P.Program.frame g.P.Program.may g.P.Program.meant g.P.Task.OnPath.path_of in
    let a = c.args.self.now in
    let h = are_counted m a (g.met.P.Program.keeps_paths a.program) c.requires.running c.requires.run in
    let count = ap (λ (x : StretchesValue g.row.P.Denot g.row.P-Task.Denot). x.count) c.self.view_is in
    let l = c.count_left-left.ensures ∙ ap left_in (ap deeds_in c.deref.ensures.value) in
    omega (arith, l, h.left, h.all, count)

pub end-requires-clause-ends : goal.end-requires-clause-ends
end-requires-clause-ends g c =
    let m = reading_of g.P.Program.frame g.P.Program.may g.P.Program.meant g.P.Task.OnPath.path_of in
    let a = c.args.self.now in
    let h = are_counted m a (g.met.P.Program.keeps_paths a.program) c.requires.running c.requires.run in
    let count = ap (λ (x : StretchesValue g.row.P.Denot g.row.P-Task.Denot). x.count) c.self.view_is in
    let most = ap (λ (x : StretchesValue g.row.P.Denot g.row.P-Task.Denot). x.most) c.self.view_is in
    let l = c.count_left-left.ensures ∙ ap left_in (ap deeds_in c.deref.ensures.value) in
    let s = ap spawned_in (ap deeds_in c.deref-2.ensures.value) in
    let over = not_counted c.count_spawned.result _ _ c.count_spawned.ensures c.in_default.is in
    let run = c.requires.run in
    let step =
    ends_many m a (g.met.P.Program.keeps_paths a.program) c.requires.running run.start run.begun _ _ _ _ run.did
    (omega (arith, l, over, s, h.left, h.all, h.few, count, most)) in
    subst (EndsBy m a) (sym c.too_many.ensures)
    (record { live = map (m a.program).meant (live_of run.start); begun = run.begun; count = run.count; step = step.step })

pub returns-in_default-clause-closed : goal.returns-in_default-clause-closed
returns-in_default-clause-closed g c =
    let m = reading_of g.P.Program.frame g.P.Program.may g.P.Program.meant g.P.Task.OnPath.path_of in
    let a = c.args.self.now in
    let h = are_counted m a (g.met.P.Program.keeps_paths a.program) c.requires.running c.requires.run in
    let count = ap (λ (x : StretchesValue g.row.P.Denot g.row.P-Task.Denot). x.count) c.self.view_is in
    let most = ap (λ (x : StretchesValue g.row.P.Denot g.row.P-Task.Denot). x.most) c.self.view_is in
    let l = c.count_left-left.ensures ∙ ap left_in (ap deeds_in c.deref.ensures.value) in
    let s = ap spawned_in (ap deeds_in c.deref-2.ensures.value) in
    let over = not_counted c.count_spawned.result _ _ c.count_spawned.ensures c.in_default.is in
    let run = c.requires.run in
    let step =
    ends_many m a (g.met.P.Program.keeps_paths a.program) c.requires.running run.start run.begun _ _ _ _ run.did
    (omega (arith, l, over, s, h.left, h.all, h.few, count, most)) in
    closed_end m a (g.met.P.Program.keeps_paths a.program) c.requires.running run.start run.older run.is _ c.end.new.self
    (c.end.ensures ∙ (λ i. record a { fault = Some (c.too_many.ensures i) }))
    TooMany step (λ x live k. (_, k))

pub overflow_cast-counts-2 : goal.overflow_cast-counts-2
overflow_cast-counts-2 g c =
    let m = reading_of g.P.Program.frame g.P.Program.may g.P.Program.meant g.P.Task.OnPath.path_of in
    let a = c.args.self.now in
    let h = are_counted m a (g.met.P.Program.keeps_paths a.program) c.requires.running c.requires.run in
    let count = ap (λ (x : StretchesValue g.row.P.Denot g.row.P-Task.Denot). x.count) c.self.view_is in
    let most = ap (λ (x : StretchesValue g.row.P.Denot g.row.P-Task.Denot). x.most) c.self.view_is in
    let l = c.count_left-left.ensures ∙ ap left_in (ap deeds_in c.deref.ensures.value) in
    let bound = c.self.invariant.most in
    omega (arith, l, h.left, h.all, h.few, count, most, bound)

pub stay-requires-clause-run : goal.stay-requires-clause-run
stay-requires-clause-run g c =
    let m = reading_of g.P.Program.frame g.P.Program.may g.P.Program.meant g.P.Task.OnPath.path_of in
    let same = did_the_same c.join_adds.new.parts.items c.args.parts.items c.in_ok-join_adds.ensures.rest in
    have_same m c.args.self.now c.requires.run (sym c.in_ok-join_adds.ensures.same) (sym same.tasks) (sym same.deeds) (sym same.prints)

pub stay-requires-clause-few : goal.stay-requires-clause-few
stay-requires-clause-few g c =
    let m = reading_of g.P.Program.frame g.P.Program.may g.P.Program.meant g.P.Task.OnPath.path_of in
    let a = c.args.self.now in
    let h = are_counted m a (g.met.P.Program.keeps_paths a.program) c.requires.running c.requires.run in
    let l = c.count_left-left.ensures ∙ ap left_in (ap deeds_in c.deref.ensures.value) in
    let made = counted_there c.count_spawned.result _ _ c.count_spawned.ensures c.in-Some.is in
    let s = made.0 ∙ ap spawned_in (ap deeds_in c.deref-2.ensures.value) in
    let same = did_the_same c.join_adds.new.parts.items c.args.parts.items c.in_ok-join_adds.ensures.rest in
    few_on c.self.view_is h same.deeds l s made.1

pub stay-requires-clause-counts : goal.stay-requires-clause-counts
stay-requires-clause-counts g c =
    let m = reading_of g.P.Program.frame g.P.Program.may g.P.Program.meant g.P.Task.OnPath.path_of in
    let a = c.args.self.now in
    let h = are_counted m a (g.met.P.Program.keeps_paths a.program) c.requires.running c.requires.run in
    let l = c.count_left-left.ensures ∙ ap left_in (ap deeds_in c.deref.ensures.value) in
    let made = counted_there c.count_spawned.result _ _ c.count_spawned.ensures c.in-Some.is in
    let s = made.0 ∙ ap spawned_in (ap deeds_in c.deref-2.ensures.value) in
    let same = did_the_same c.join_adds.new.parts.items c.args.parts.items c.in_ok-join_adds.ensures.rest in
    counts_on c.self.view_is h same.deeds l s

pub stay-requires-clause-covered : goal.stay-requires-clause-covered
stay-requires-clause-covered g c =
    sym (covers_on true c.args.self.now.count 0 c.join_adds.new.parts.items)
    ∙ ap (covers true c.args.self.now.count 0) c.in_ok-join_adds.ensures.rest
    ∙ covers_on true c.args.self.now.count 0 c.args.parts.items ∙ c.requires.covered

pub move_on-requires-clause-run : goal.move_on-requires-clause-run
move_on-requires-clause-run g c =
    let m = reading_of g.P.Program.frame g.P.Program.may g.P.Program.meant g.P.Task.OnPath.path_of in
    let same = did_the_same c.join_adds.new.parts.items c.args.parts.items c.in_ok-join_adds.ensures.rest in
    have_same m c.args.self.now c.requires.run (sym c.in_ok-join_adds.ensures.same) (sym same.tasks) (sym same.deeds) (sym same.prints)

pub move_on-requires-clause-few : goal.move_on-requires-clause-few
move_on-requires-clause-few g c =
    let m = reading_of g.P.Program.frame g.P.Program.may g.P.Program.meant g.P.Task.OnPath.path_of in
    let a = c.args.self.now in
    let h = are_counted m a (g.met.P.Program.keeps_paths a.program) c.requires.running c.requires.run in
    let l = c.count_left-left.ensures ∙ ap left_in (ap deeds_in c.deref.ensures.value) in
    let made = counted_there c.count_spawned.result _ _ c.count_spawned.ensures c.in-Some.is in
    let s = made.0 ∙ ap spawned_in (ap deeds_in c.deref-2.ensures.value) in
    let same = did_the_same c.join_adds.new.parts.items c.args.parts.items c.in_ok-join_adds.ensures.rest in
    few_on c.self.view_is h same.deeds l s made.1

pub move_on-requires-clause-counts : goal.move_on-requires-clause-counts
move_on-requires-clause-counts g c =
    let m = reading_of g.P.Program.frame g.P.Program.may g.P.Program.meant g.P.Task.OnPath.path_of in
    let a = c.args.self.now in
    let h = are_counted m a (g.met.P.Program.keeps_paths a.program) c.requires.running c.requires.run in
    let l = c.count_left-left.ensures ∙ ap left_in (ap deeds_in c.deref.ensures.value) in
    let made = counted_there c.count_spawned.result _ _ c.count_spawned.ensures c.in-Some.is in
    let s = made.0 ∙ ap spawned_in (ap deeds_in c.deref-2.ensures.value) in
    let same = did_the_same c.join_adds.new.parts.items c.args.parts.items c.in_ok-join_adds.ensures.rest in
    counts_on c.self.view_is h same.deeds l s

pub move_on-requires-clause-moves : goal.move_on-requires-clause-moves
move_on-requires-clause-moves g c = λ stay.
    let kept = c.join_adds.new.parts.items in
    let none = none_moved kept stay in
    let same = did_the_same kept c.args.parts.items c.in_ok-join_adds.ensures.rest in
    let left = c.count_left-left.ensures ∙ ap left_in (ap deeds_in c.deref.ensures.value ∙ sym same.deeds) ∙ none.0 in
    let made = counted_there c.count_spawned.result _ _ c.count_spawned.ensures c.in-Some.is in
    let spawned = made.0 ∙ ap spawned_in (ap deeds_in c.deref-2.ensures.value ∙ sym same.deeds) ∙ none.1 in
    elim c.else-left-eq0.branch [
      | else-left-eq0-via-then-left-eq0+else-spawned-eq0 w ↦ w.if-spawned-eq0.false spawned
      | else-left-eq0-via-else-left-eq0 w ↦ w.if-left-eq0.false left
    ]

pub returns-then-spawned-eq0-clause-reopened : goal.returns-then-spawned-eq0-clause-reopened
returns-then-spawned-eq0-clause-reopened g c =
    if_ok c.stay.result _ _ c.stay.ensures.reopened
    (λ o h. reopened_from g.P.Task.OnPath.path_of o c.args.self.now.step c.join_adds.new.parts.items c.args.parts.items _ c.in_ok-join_adds.ensures.rest h)

pub returns-else-left-eq0-clause-reopened : goal.returns-else-left-eq0-clause-reopened
returns-else-left-eq0-clause-reopened g c =
    if_ok c.move_on.result _ _ c.move_on.ensures.reopened
    (λ o h. reopened_from g.P.Task.OnPath.path_of o c.args.self.now.step c.join_adds.new.parts.items c.args.parts.items _ c.in_ok-join_adds.ensures.rest h)

pub stay-requires-clause-each : goal.stay-requires-clause-each
stay-requires-clause-each g c = each_also c.join_adds.new.parts.items c.args.parts.items c.in_ok-join_adds.ensures.rest c.requires.each

pub move_on-requires-clause-each : goal.move_on-requires-clause-each
move_on-requires-clause-each g c = each_also c.join_adds.new.parts.items c.args.parts.items c.in_ok-join_adds.ensures.rest c.requires.each

pub move_on-requires-clause-can : goal.move_on-requires-clause-can
move_on-requires-clause-can g c =
    can_also g.P.Task.OnPath.path_of c.join_adds.new.parts.items c.args.parts.items c.in_ok-join_adds.ensures.rest c.requires.can

pub stay-requires-clause-makers : goal.stay-requires-clause-makers
stay-requires-clause-makers g c =
    let same = did_the_same c.join_adds.new.parts.items c.args.parts.items c.in_ok-join_adds.ensures.rest in
    finds_also c.args.self.now.arrays _ c.join_adds.new.parts.items c.args.parts.items c.in_ok-join_adds.ensures.rest same.deeds
    c.in_ok-join_adds.ensures.same c.requires.makers

pub move_on-requires-clause-makers : goal.move_on-requires-clause-makers
move_on-requires-clause-makers g c =
    let same = did_the_same c.join_adds.new.parts.items c.args.parts.items c.in_ok-join_adds.ensures.rest in
    finds_also c.args.self.now.arrays _ c.join_adds.new.parts.items c.args.parts.items c.in_ok-join_adds.ensures.rest same.deeds
    c.in_ok-join_adds.ensures.same c.requires.makers
