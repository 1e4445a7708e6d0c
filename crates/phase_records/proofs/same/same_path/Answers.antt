use Rattle.std.specs.Cmp.{unsigned_Decides}
use Rattle.std.proofs.lemmas.Slice.Eq.{slice_eq-Decides}
use Rattle.phase_records.proofs.same.same_path.Goals as goal

pub returns : goal.returns
returns c = slice_eq-Decides unsigned_Decides c.args.a.now c.args.b.now c.eq.result c.eq.ensures
