use Rattle.std.proofs.lemmas.Grind.{common_steps}
use Rattle.std.proofs.Common.{◌∙◌, sym, ap, arith}
use Rattle.job_reader.specs.Views.{lent}
use Rattle.job_reader.proofs.KeptLines.{array-read}
use Rattle.job_reader.proofs.NewArrays.{array-new}
use Rattle.job_reader.proofs.so_far.SoFar.add_array.Goals as goal

pub name_text-requires : goal.name_text-requires
name_text-requires c =
    (array-read _ (c.in_ok-name.name.now, c.in_ok-name.cells.items) c.in_ok-name.ensures).0

pub push_array-requires-clause-new : goal.push_array-requires-clause-new
push_array-requires-clause-new c =
    array-new c.args.self.now _ _ _ c.in_ok-name.name.now c.in_ok-name.cells.items c.requires (ap lent c.deref.ensures.value)
    (sym c.is_among.ensures ∙ c.if-is_among.false) c.in_ok-text.ensures c.in_ok-name.ensures

pub returns : goal.returns
returns = grind (arith, common_steps)

pub returns-then-len-ge-MOST_ARRAYS : goal.returns-then-len-ge-MOST_ARRAYS
returns-then-len-ge-MOST_ARRAYS = grind (arith, common_steps)
