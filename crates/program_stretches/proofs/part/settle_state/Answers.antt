use Rattle.std.proofs.lemmas.Grind.{common_steps}
use Rattle.std.proofs.Common.{◌≡◌, ◌∙◌, length, ap, sym, arith}
use Rattle.programs.proofs.InPlace.{few_left}
use Rattle.program_stretches.proofs.Noted.{free_if, kept_next, stays_next, living_count}
use Rattle.program_stretches.proofs.part.settle_state.Goals.{then-is_some-via-then-is_some, then-is_some-via-else-is_some+then-all_stay}
use Rattle.program_stretches.proofs.part.settle_state.Goals as goal

pub returns-then-is_some-clause-next : goal.returns-then-is_some-clause-next
returns-then-is_some-clause-next g c =
    let q = g.T.OnPath.path_of in
    let s = c.args.state.now in
    elim c.then-is_some.branch [
      | then-is_some-via-then-is_some w ↦ kept_next q s.settled s.tasks.items _ s.notes.items s.done s.tasks.items s.deeds c.requires.kept
          (sym c.is_some.ensures ∙ w.if-is_some.true)
      | then-is_some-via-else-is_some+then-all_stay w ↦
          stays_next q s.settled s.tasks.items _ s.notes.items s.done s.deeds c.requires.kept (sym c.is_some.ensures ∙ w.if-is_some.false)
          (w.all_stay.ensures.0 w.if-all_stay.true).0 (w.all_stay.ensures.0 w.if-all_stay.true).1 c.requires.same c.requires.rising
    ]

pub overflow_sub-ran : goal.overflow_sub-ran
overflow_sub-ran g c =
    let q = g.T.OnPath.path_of in
    let s = c.args.state.now in
    let f = free_if q s.settled s.tasks.items _ s.notes.items s.done c.requires.kept (sym c.is_some.ensures ∙ c.if-is_some.false) in
    let same : length s.tasks.items ≡ length s.deeds =
    ap length (sym (f.tasks s.tasks.items)) ∙ c.requires.same ∙ ap length (f.deeds s.deeds) in
    let few = few_left s.deeds in
    omega (arith, few, same, c.left-left.ensures, c.len-ran.ensures, s.tasks.ok.0)

pub regroup_within-requires-clause-count : goal.regroup_within-requires-clause-count
regroup_within-requires-clause-count g c =
    let q = g.T.OnPath.path_of in
    let s = c.args.state.now in
    let f = free_if q s.settled s.tasks.items _ s.notes.items s.done c.requires.kept (sym c.is_some.ensures ∙ c.if-is_some.false) in
    let same : length s.tasks.items ≡ length s.deeds =
    ap length (sym (f.tasks s.tasks.items)) ∙ c.requires.same ∙ ap length (f.deeds s.deeds) in
    let few = few_left s.deeds in
    let living = living_count s.tasks.items s.deeds same in
    omega (
      arith,
      living,
      few,
      same,
      c.left-left.ensures,
      c.len-ran.ensures,
      c.spawned-spawned.ensures,
      c.in-Some-checked_add.ensures.1,
      s.tasks.ok.0,
    )

pub regroup_within-requires-clause-same : goal.regroup_within-requires-clause-same
regroup_within-requires-clause-same = grind (arith, common_steps)

pub returns-clause-deeds : goal.returns-clause-deeds
returns-clause-deeds = grind (arith, common_steps)

pub returns-clause-next : goal.returns-clause-next
returns-clause-next = grind (arith, common_steps)

pub returns-clause-tasks : goal.returns-clause-tasks
returns-clause-tasks = grind (arith, common_steps)
