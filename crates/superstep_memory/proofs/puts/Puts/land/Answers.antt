use Rattle.std.proofs.Common.{◌∙◌, ◌≡◌, true, ap, sym, []}
use Rattle.std.specs.List.{list_all}
use Rattle.superstep_memory.specs.Landing.{is_set}
use Rattle.superstep_memory.proofs.Over.{sets_fit}
use Rattle.superstep_memory.proofs.puts.Puts.land.Goals as goal

pub returns-then-self-clause-place : goal.returns-then-self-clause-place
returns-then-self-clause-place c =
    let all : list_all is_set c.args.self.now ≡ true =
    ap (list_all is_set) (sym c.self.view_is) ∙ sym c.self.invariant.sets ∙ c.if-self.true in
    sym (sets_fit c.args.arrays.now [] 0 c.args.self.now all)
