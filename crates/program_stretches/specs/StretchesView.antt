-- The supersteps of a program by stretches, as their code keeps them (own).
use Rattle.std.specs.Prelude.{◌≡◌, ◌≤◌, ◌<◌, ◌^◌}
use Rattle.std.specs.Arc.{arc_value}
use Rattle.program_stretches.specs.declared.stretches.Stretches.TheInside.{Inside}
use Rattle.program_stretches.specs.Parts.{Reading}
use Rattle.program_stretches.specs.StretchesValue.{StretchesValue, IsRunSoFar}

abbrev pub stretches_of : {Q S : Type 0} → Inside Q S → StretchesValue Q S
stretches_of i = record {
  name = i.writer.name;
  log = i.writer.log;
  program = i.program.now;
  most = i.most;
  limit = i.limit;
  step = i.step;
  arrays = arc_value i.arrays;
  count = i.count;
  parts = i.parts.items;
  prints = i.prints.items;
  records = i.records.items;
  fault = i.fault;
  given = i.given;
}

pub record IsStretchesInside {Q S T : Type 0} (m : Q → Reading S T) (ready : Q → Type 0) (i : Inside Q S) : Type 0 where
  pub run : IsRunSoFar m (stretches_of i)
  pub same : i.log.now ≡ i.writer.name
  pub is_ready : ready i.program.now
  pub pieces : 1 ≤ i.pieces
  pub most : i.most < 2 ^ 31
  pub limit : i.limit < 2 ^ 32
