use Rattle.std.proofs.Common.{◌≡◌, ◌+◌, Some, ap, ◌∙◌, arith}
use Rattle.std.specs.Prelude.{ℤ, List, [], ℕ, take}
use Rattle.superstep_memory.specs.Landing.{landed, over_in}
use Rattle.fault_reasons.proofs.Before.{none-before}
use Rattle.fault_reasons.proofs.sums.land_before.Goals as goal

pub returns : goal.returns
returns c =
    let arrays = c.args.at.arrays.now in
    let puts = take c.args.place c.args.puts.now in
    let same : c.args.place ≡ 0 + c.args.place = omega arith in
    c.in_ok-land_log.ensures.lands
    (c.in_ok-land_log.ensures.place ∙ ap (λ (xs : List (List ℕ × List ℤ)). over_in xs [] 0 puts) c.in_ok-arrays.ensures
    ∙ none-before arrays [] c.args.puts.now 0 c.args.place (c.requires.first ∙ ap (λ (n : ℕ). Some n) same))
    ∙ ap (landed puts) c.in_ok-arrays.ensures
