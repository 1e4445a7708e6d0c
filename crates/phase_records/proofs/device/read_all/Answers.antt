use Rattle.std.proofs.Common.{◌≡◌, Err, ◌∙◌, List, ℕ, subst, sym, ap, arith, length, take, length-take-le}
use Rattle.std.specs.Prelude.{IsErrOf}
use Rattle.std.specs.Io.KnownBytes.{Consumes}
use Rattle.phase_records.proofs.ReadBytes.{came_more, came_all, more_behind, no_more_behind, too_many_came}
use Rattle.phase_records.proofs.device.read_all.Goals as goal

-- a result has one fault
same_fault : {T E : Type 0} {x y : E} → IsErrOf {T = T} {E = E} (Err x) y → x ≡ y
same_fault e = cc

pub loop-preserved : goal.loop-preserved
loop-preserved g c =
    let b = c.in-Ok.ensures.bytes.0 in
    let l = length-take-le c.in-Ok.n c.read_some.new.buffer c.in-Ok.ensures.bound in
    let e = c.in-Ok-extend_from_slice.ensures in
    record {
      bytes =
          subst
          (λ (xs : List ℕ). Consumes (g.R.CountedRead.remaining c.args.reader.now) (g.R.CountedRead.remaining c.read_some.new.self) xs)
          (sym {A = List ℕ} e.items)
          (came_more _ _ _ c.loop.text.items (take c.in-Ok.n c.read_some.new.buffer) c.loop.invariant.bytes b);
      failures = c.in-Ok.ensures.failures ∙ c.loop.invariant.failures;
      asks = c.in-Ok.ensures.asks ∙ omega (arith, c.loop.invariant.asks);
      low = omega (arith, e.len, l, c.loop.invariant.low, c.if-n-eq0.false);
      high = omega (arith, e.len, l, c.loop.invariant.high, c.if-len-n.false, c.len.ensures);
    }

pub returns-in-Err-extend_from_slice-clause-too_long : goal.returns-in-Err-extend_from_slice-clause-too_long
returns-in-Err-extend_from_slice-clause-too_long g c = λ is.
    more_behind _ _ _ c.loop.text.items (take c.in-Ok.n c.read_some.new.buffer) c.in-Ok.n c.len.result c.len-in-Err-extend_from_slice.result
    1048576
    c.loop.invariant.bytes c.in-Ok.ensures.bytes.0 (length-take-le c.in-Ok.n c.read_some.new.buffer c.in-Ok.ensures.bound)
    (omega (arith, c.loop.text.ok.0, c.len.ensures))
    (c.len-in-Err-extend_from_slice.ensures ∙ c.in-Err-extend_from_slice.ensures.len ∙ sym c.len.ensures)
    c.if-len-n.false (omega (arith, c.len.ensures, c.loop.invariant.high)) (c.without_memory.ensures.too_long (same_fault is))

pub returns-in-Err-extend_from_slice-clause-memory : goal.returns-in-Err-extend_from_slice-clause-memory
returns-in-Err-extend_from_slice-clause-memory g c = λ is.
    no_more_behind _ _ _ c.loop.text.items (take c.in-Ok.n c.read_some.new.buffer) c.in-Ok.n c.len.result
    c.len-in-Err-extend_from_slice.result 1048576
    c.loop.invariant.bytes c.in-Ok.ensures.bytes.0 (length-take-le c.in-Ok.n c.read_some.new.buffer c.in-Ok.ensures.bound)
    (omega (arith, c.loop.text.ok.0, c.len.ensures))
    (c.len-in-Err-extend_from_slice.ensures ∙ c.in-Err-extend_from_slice.ensures.len ∙ sym c.len.ensures)
    c.if-len-n.false (omega (arith, c.len.ensures, c.loop.invariant.high)) (c.without_memory.ensures.memory (same_fault is))

pub returns-then-n-eq0-clause-text : goal.returns-then-n-eq0-clause-text
returns-then-n-eq0-clause-text g c =
    let b = c.in-Ok.ensures.bytes in
    came_all _ _ _ c.loop.text.items (take c.in-Ok.n c.read_some.new.buffer) c.loop.invariant.bytes b.0
    (ap (λ k. length (take k c.read_some.new.buffer)) c.if-n-eq0.true) (b.1 c.if-n-eq0.true (omega arith))

pub returns-then-len-n-clause-too_long : goal.returns-then-len-n-clause-too_long
returns-then-len-n-clause-too_long g c = λ is.
    too_many_came _ _ _ c.loop.text.items (take c.in-Ok.n c.read_some.new.buffer) c.in-Ok.n c.len.result 1048576
    c.loop.invariant.bytes c.in-Ok.ensures.bytes.0 (length-take-le c.in-Ok.n c.read_some.new.buffer c.in-Ok.ensures.bound)
    (omega (arith, c.loop.text.ok.0, c.len.ensures)) c.if-len-n.true
