use Rattle.std.proofs.Common.{◌≡◌, ◌≤◌, ◌+◌, ◌-◌}
use Rattle.phase_records.specs.Device.{LeavesFewer}
use Rattle.phase_records.proofs.device.without_memory.Given as goal

abbrev pub invariant-loop : goal.invariant-loop
invariant-loop g l =
    record {
      bytes : LeavesFewer (l.fn.capacity - l.left) (g.R.CountedRead.remaining l.fn.reader) (g.R.CountedRead.remaining l.reader);
      failures : g.R.CountedRead.failures l.reader ≡ g.R.CountedRead.failures l.fn.reader;
      asks : g.R.CountedRead.asks l.reader ≡ g.R.CountedRead.asks l.fn.reader + l.counter;
      low : l.counter ≤ l.fn.capacity - l.left;
      high : l.left ≤ l.fn.capacity;
    }
