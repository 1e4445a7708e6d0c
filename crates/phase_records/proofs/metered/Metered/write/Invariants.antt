use Rattle.std.proofs.Common.{◌≡◌, ◌+◌}
use Rattle.std.specs.Io.KnownBytes.{Keeps}
use Rattle.phase_records.proofs.metered.Metered.write.Given as goal

abbrev pub invariant-loop : goal.invariant-loop
invariant-loop g l =
    record {
      bytes : Keeps (g.W.Write.contents l.fn.self.device) (g.W.Write.contents l.self.device);
      asks : l.self.asks.count ≡ l.fn.self.asks.count + 1;
    }
