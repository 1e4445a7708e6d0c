use Rattle.std.proofs.Common.{◌≡◌, reverse, drop}
use Rattle.job_schedule.specs.ParticipantValue.{freed}
use Rattle.job_schedule.proofs.next.free_tokens.Given as goal

abbrev pub invariant-loop-participant : goal.invariant-loop-participant
invariant-loop-participant l = freed (drop l.participant-index l.participants) (reverse l.free.items) ≡ freed l.fn.participants (reverse l.fn.free.items)
