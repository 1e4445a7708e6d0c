use Rattle.std.proofs.Common.{◌≡◌, arith, sym, length, ◌+◌}
use Rattle.programs.specs.InPlace.{left_in, spawned_in}
use Rattle.programs.proofs.Listed.{counts, few_stopped}
use Rattle.programs.proofs.deeds.Deeds.record.Goals as goal

pub overflow_cast-left : goal.overflow_cast-left
overflow_cast-left g c =
    let k = counts c.self.inside c.args.self.now c.self.invariant (sym c.self.view_is) in
    let l = few_stopped c.self.inside.each in
    omega (arith, k.count, l, c.self.invariant.stopped, c.requires)

pub overflow_cast-count : goal.overflow_cast-count
overflow_cast-count g c =
    let k = counts c.self.inside c.args.self.now c.self.invariant (sym c.self.view_is) in
    omega (arith, k.count, c.requires, c.len-count.ensures)

pub overflow_cast-spawned : goal.overflow_cast-spawned
overflow_cast-spawned g c =
    let k = counts c.self.inside c.args.self.now c.self.invariant (sym c.self.view_is) in
    omega (arith, k.spawned, c.requires, c.len-spawned.ensures)

pub overflow_add-result : goal.overflow_add-result
overflow_add-result g c =
    let k = counts c.self.inside c.args.self.now c.self.invariant (sym c.self.view_is) in
    omega (arith, k.count, k.spawned, c.requires, c.len-count.ensures, c.len-spawned.ensures)

pub returns : goal.returns
returns g c =
    let k = counts c.self.inside c.args.self.now c.self.invariant (sym c.self.view_is) in
    let count : c.len-count.result ≡ length c.args.self.now = omega (arith, c.len-count.ensures, k.count) in
    let spawned : c.len-spawned.result ≡ spawned_in c.args.self.now = omega (arith, c.len-spawned.ensures, k.spawned) in
    let left : c.self.inside.stopped ≡ left_in c.args.self.now = k.stopped in
    λ i. record { phase = c.args.step; parties = count i + spawned i; left = left i; spawned = spawned i }
