use Rattle.std.proofs.Common.{◌≡◌, ◌+◌}
use Rattle.std.specs.Io.KnownBytes.{Keeps}
use Rattle.phase_records.proofs.metered.Metered.read.Given as goal

abbrev pub invariant-loop : goal.invariant-loop
invariant-loop g l =
    record {
      bytes : Keeps (g.R.Read.remaining l.fn.self.device) (g.R.Read.remaining l.self.device);
      asks : l.self.asks.count ≡ l.fn.self.asks.count + 1;
    }
