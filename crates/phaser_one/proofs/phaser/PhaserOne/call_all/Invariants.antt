use Rattle.std.proofs.Common.{◌≡◌, drop, vec_len, length}
use Rattle.std.specs.Vec.{vec_capacity}
use Rattle.flat_phaser.specs.Flat.{Flat}
use Rattle.flat_phaser.specs.Alike.{IsAlike}
use Rattle.phaser_one.specs.Seen.{flat_of}
use Rattle.phaser_one.proofs.RunProofs.{RunsOn}
use Rattle.phaser_one.proofs.phaser.PhaserOne.call_all.Given as goal

abbrev pub invariant-loop-call : goal.invariant-loop-call
invariant-loop-call g l =
    record {
      follows : (f : Flat) → IsAlike f (flat_of l.fn.self.word)
          → RunsOn l.fn.self.rule.plan l.calls (drop l.call-index l.calls) l.replies.items f l.self.word;
      rule : l.self.rule ≡ l.fn.self.rule;
      capacity : vec_capacity l.replies ≡ length l.calls;
      count : vec_len l.replies ≡ l.call-index;
    }
