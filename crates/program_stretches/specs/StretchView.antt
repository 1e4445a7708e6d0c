-- A stretch that was taken, as its code keeps it (own).
use Rattle.std.specs.Arc.{arc_value}
use Rattle.program_stretches.specs.declared.stretch.Stretch.TheInside.{Inside}
use Rattle.program_stretches.specs.StretchesValue.{StretchValue}

abbrev pub stretch_of : {Q S : Type 0} → Inside Q S → StretchValue Q S
stretch_of s = record {
  name = s.snapshot.name;
  log = s.snapshot.log;
  program = s.program.now;
  number = s.number;
  step = s.step;
  arrays = arc_value s.arrays;
  part = s.part;
}
