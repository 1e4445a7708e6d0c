use Rattle.std.proofs.Common.{◌≡◌, ◌≤◌, ◌+◌, length}
use Rattle.phase_records.proofs.PassedBytes.{Passed}
use Rattle.phase_records.proofs.device.write_all.Given as goal

abbrev pub invariant-loop-rest : goal.invariant-loop-rest
invariant-loop-rest g l =
    record {
      bytes : Passed (g.W.CountedWrite.contents l.fn.writer) (g.W.CountedWrite.contents l.writer) l.fn.bytes l.rest;
      failures : g.W.CountedWrite.failures l.writer ≡ g.W.CountedWrite.failures l.fn.writer;
      asks : g.W.CountedWrite.asks l.writer + length l.rest ≤ g.W.CountedWrite.asks l.fn.writer + length l.fn.bytes;
    }

abbrev pub decreases-loop-rest : goal.decreases-loop-rest
decreases-loop-rest g l = length l.rest
