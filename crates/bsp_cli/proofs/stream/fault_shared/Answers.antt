use Rattle.std.proofs.Common.{Err, subst}
use Rattle.stream_workers.specs.Written.{CauseOn, StreamsOn}
use Rattle.stream_workers.specs.declared.fault.WorkersStreamFault.{WorkersStreamFault}
use Rattle.bsp_cli.proofs.stream.fault_shared.Goals as goal

pub returns-in-Fault-clause-streams : goal.returns-in-Fault-clause-streams
returns-in-Fault-clause-streams c = λ workers limit p old new h.
    c.fault_alone.ensures.streams workers limit p old new
    (subst (λ (u : WorkersStreamFault). StreamsOn workers p limit old new (Err u)) c.in-Fault.is h)

pub returns-in-Fault-clause-cause : goal.returns-in-Fault-clause-cause
returns-in-Fault-clause-cause c =
    λ old new h. c.fault_alone.ensures.cause old new (subst (λ (u : WorkersStreamFault). CauseOn old new (Err u)) c.in-Fault.is h)
