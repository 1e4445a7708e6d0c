use Rattle.std.proofs.Common.{◌≡◌, arith, ◌+◌, ◌∷◌, ◌∙◌, Option, Some, sym, ap, drop}
use Rattle.program_stretches.specs.PartValue.{PartValue}
use Rattle.program_stretches.specs.Parts.{covers}
use Rattle.program_stretches.proofs.Along.{next_part, stops_here, goes_on_here}
use Rattle.program_stretches.proofs.parts.cover.Goals as goal

pub returns-then-not-is_at : goal.returns-then-not-is_at
returns-then-not-is_at g c =
    let rest : drop c.loop-place.place c.args.parts.now ≡ Some c.in-Some.part ∷ drop (c.loop-place.place + 1) c.args.parts.now =
    next_part c.args.parts.now c.loop-place.place c.index-parts-place.result c.loop-place-test.true c.index-parts-place.is
    ∙ ap (λ (s : Option (PartValue g.row.T.Denot)). s ∷ drop (c.loop-place.place + 1) c.args.parts.now) c.in-Some.is in
    sym
    (sym c.loop-place.invariant.same ∙ ap (covers c.args.done c.args.end c.loop-place.at) rest
    ∙ stops_here c.args.done c.args.end c.loop-place.at c.in-Some.part _ (sym c.is_at.ensures ∙ c.if-not-is_at.true))

pub loop-place-preserved : goal.loop-place-preserved
loop-place-preserved g c =
    let rest : drop c.loop-place.place c.args.parts.now ≡ Some c.in-Some.part ∷ drop (c.loop-place.place + 1) c.args.parts.now =
    next_part c.args.parts.now c.loop-place.place c.index-parts-place.result c.loop-place-test.true c.index-parts-place.is
    ∙ ap (λ (s : Option (PartValue g.row.T.Denot)). s ∷ drop (c.loop-place.place + 1) c.args.parts.now) c.in-Some.is in
    let on =
    goes_on_here c.args.done c.args.end c.loop-place.at c.in-Some.part (drop (c.loop-place.place + 1) c.args.parts.now)
    (sym c.is_at.ensures ∙ c.if-not-is_at.false) in
    record {
      same = ap (λ n. covers c.args.done c.args.end (c.loop-place.at + n) (drop (c.loop-place.place + 1) c.args.parts.now)) c.len-at.ensures
          ∙ sym on.0 ∙ ap (covers c.args.done c.args.end c.loop-place.at) (sym rest) ∙ c.loop-place.invariant.same;
      below = omega (arith, on.1, c.len-at.ensures);
    }
