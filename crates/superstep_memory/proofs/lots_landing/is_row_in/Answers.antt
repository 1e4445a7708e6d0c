use Rattle.std.proofs.Common.{◌∙◌, sym, ap, arith, ◌+◌, nat_le, length, ℕ, slice_get}
use Rattle.superstep_memory.specs.Seen.{seen}
use Rattle.std.specs.Option.{option_map}
use Rattle.superstep_memory.proofs.LotLemmas.{row_within, row_nowhere_in}
use Rattle.superstep_memory.proofs.lots_landing.is_row_in.Goals as goal

pub returns-in-Some : goal.returns-in-Some
returns-in-Some c = λ vs e.
    c.is_within.ensures ∙ ap (λ (n : ℕ). nat_le (c.args.first + n) (length c.in-Some.cells.now)) (sym e)
    ∙ row_within c.args.arrays.now c.args.array c.args.first _ vs
    (ap (slice_get c.args.arrays.now) (sym c.from.ensures) ∙ sym c.get.ensures.seen ∙ ap (option_map seen) c.in-Some.is)
    (omega (arith, e, c.if-count-eq0.false))

pub returns-in-None : goal.returns-in-None
returns-in-None c = λ vs e.
    row_nowhere_in c.args.arrays.now c.args.array c.args.first vs
    (ap (slice_get c.args.arrays.now) (sym c.from.ensures) ∙ sym c.get.ensures.seen ∙ ap (option_map seen) c.in-None.is)
    (omega (arith, e, c.if-count-eq0.false))
