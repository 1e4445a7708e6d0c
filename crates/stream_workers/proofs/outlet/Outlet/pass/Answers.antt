use Rattle.std.proofs.Common.{◌≡◌, false}
use Rattle.std.specs.Prelude.{is_some}
use Rattle.stream_workers.proofs.Outlets.{stops_there}
use Rattle.stream_workers.proofs.outlet.Outlet.pass.Goals as goal

pub invariant_of-self-in-Err : goal.invariant_of-self-in-Err
invariant_of-self-in-Err g c =
    let i = c.self.invariant in
    let asked = c.is_some.ensures in
    let answered = c.if-is_some.false in
    let calm : is_some c.self.inside.fault ≡ false = cc in (
      i.0,
      i.1,
      i.2,
      stops_there c.self.inside.job.now g.J.Streaming.job c.self.inside.limit g.J.Streaming.limit i.1 i.2 g.J.Streaming.held
          g.J.Streaming.failures (g.W.CountedWrite.contents c.self.inside.writer.now)
          (g.W.CountedWrite.contents c.pass_on.new.writer) (g.W.CountedWrite.failures c.self.inside.writer.now)
          (g.W.CountedWrite.failures c.pass_on.new.writer) c.self.inside.written
          c.self.inside.fault c.in-Err.fault calm i.3 c.in-Err.ensures.text c.in-Err.ensures.failures,
    )
