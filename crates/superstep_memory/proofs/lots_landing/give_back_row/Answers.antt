use Rattle.std.proofs.Common.{◌+◌, ◌-◌, arith}
use Rattle.std.proofs.lemmas.Int.{ints}
use Rattle.superstep_memory.proofs.LotsTaken.{given_back_in, begun_front}
use Rattle.superstep_memory.proofs.lots_landing.give_back_row.Goals as goal

pub loop-olds-preserved-in-Some : goal.loop-olds-preserved-in-Some
loop-olds-preserved-in-Some c = λ front ps xs n side h.
    given_back_in front ps c.args.array c.args.first c.from.result (c.args.first + (c.len-in-Some.result - c.args.before)) c.in-Some.old _
    side (c.loop-olds.invariant front ps xs n side h)
    (omega (arith, n, c.loop-olds-test.true, c.len.ensures, c.loop-olds.olds.ok.0, c.in-Some.ensures.len, c.pop.new.self.ok.0))
    c.in-Some.ensures.items
    (omega (arith, n, c.len-in-Some.ensures, c.pop.new.self.ok.0)) (omega (arith, ints)) c.from.ensures c.write_at.ensures

pub returns : goal.returns
returns c = λ front ps xs n side h.
    begun_front front ps (c.loop-olds.invariant front ps xs n side h)
    (omega (arith, n, c.loop-olds-test.false, c.len.ensures, c.loop-olds.olds.ok.0))
