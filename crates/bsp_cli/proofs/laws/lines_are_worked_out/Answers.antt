use Rattle.std.proofs.Common.{refl}
use Rattle.std.specs.Fmt.{digits}
use Rattle.bsp_cli.proofs.laws.lines_are_worked_out.Goals as goal

pub returns : goal.returns
unfolding digits
returns c = record {
  command_line = λ old new failures says. says.command_line refl refl;
  memory = λ old new failures says. says.memory refl refl;
  failure = λ old new failures says. says.failure refl refl;
  internal = λ old new failures says. says.internal refl refl;
  refused = refl;
  too_long = refl;
  worker = refl;
  text_fault = (refl, refl);
  memory_fault = (refl, refl);
  worker_fault = (refl, refl);
  read_fault = (refl, refl);
  write_fault = (refl, refl);
  internal_fault = (refl, refl);
}
