use Rattle.std.proofs.Common.{arith}
use Rattle.text_lines.specs.Text.{lines_of}
use Rattle.job_reader.specs.Views.{lent}
use Rattle.job_reader.proofs.StepLemmas.{line-next}
use Rattle.job_reader.proofs.read.read_lines.Goals as goal

pub loop-this-preserved : goal.loop-this-preserved
loop-this-preserved c = record {
  counted = omega (arith, c.in-Some.ensures.shorter, c.loop-this.invariant.counted);
  at =
      line-next (lent c.args.bodies.now) c.loop-this.line c.loop-this.invariant.at.0 c.in-Some.this.now (lines_of c.in-Some.after.now)
      c.step.new.self _ _
      (c.in-Ok.ensures c.loop-this.invariant.at.0 c.loop-this.invariant.at.1) c.loop-this.invariant.at.2 c.loop-this.invariant.at.3
      c.in-Some.ensures.lines;
}
