use Rattle.std.proofs.Common.{◌≡◌, arith, sym, refl}
use Rattle.programs.specs.InPlace.{left_in}
use Rattle.programs.proofs.InPlace.{few_left}
use Rattle.programs.proofs.Listed.{counts, few_stopped}
use Rattle.programs.proofs.deeds.Deeds.are_few.Goals as goal

pub returns-then-fit : goal.returns-then-fit
returns-then-fit g c =
    let k = counts c.self.inside c.args.self.now c.self.invariant (sym c.self.view_is) in
    let few = c.fit.ensures.0 c.if-fit.true in
    (λ yes. omega (arith, few, k.count, k.spawned, c.len-count.ensures, c.len-spawned.ensures, c.self.inside.spawns.ok.0), λ le. refl)

pub overflow_sub-stay : goal.overflow_sub-stay
overflow_sub-stay g c =
    let l = few_stopped c.self.inside.each in
    omega (arith, l, c.self.invariant.stopped, c.len-count.ensures)

pub returns : goal.returns
returns g c =
    let k = counts c.self.inside c.args.self.now c.self.invariant (sym c.self.view_is) in
    let left : c.self.inside.stopped ≡ left_in c.args.self.now = k.stopped in
    let l = few_left c.args.self.now in (
      λ yes. let few = c.fit-2.ensures.0 yes in
          omega (arith, few, left, l, k.count, k.spawned, c.len-count.ensures, c.len-spawned.ensures, c.self.inside.spawns.ok.0),
      λ le. c.fit-2.ensures.1
          (omega (arith, le, left, l, k.count, k.spawned, c.len-count.ensures, c.len-spawned.ensures, c.self.inside.spawns.ok.0)),
    )
