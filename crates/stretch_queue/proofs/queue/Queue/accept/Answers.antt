use Rattle.std.proofs.Common.{◌∙◌, refl, sym, ap, slice_get}
use Rattle.stretch_queue.specs.HandedOut.{out_at}
use Rattle.stretch_queue.proofs.HandedOut.{struck, found}
use Rattle.stretch_queue.proofs.Queueing.{not_refused, delivered}
use Rattle.stretch_queue.proofs.queue.Queue.accept.Goals as goal

pub unreachable-requires : goal.unreachable-requires
unreachable-requires g c =
    let t = struck _ _ _ _ _ c.into_parts-stretch.ensures.pass.1 c.redeem.ensures.out c.redeem.ensures.others in
    let was = found _ _ _ _ c.self.invariant.are_out t.there in
    not_refused c.self.inside.stretches c.into_parts-stretch.result.0 _ (sym t.of_step ∙ was.0) c.into_parts-stretch.ensures.done
    (ap (λ k. out_at (slice_get c.self.inside.stretches.parts k)) (sym t.of_number) ∙ was.1) c.in-Err.ensures.refused

pub invariant_of-self : goal.invariant_of-self
invariant_of-self g c =
    let t = struck _ _ _ _ _ c.into_parts-stretch.ensures.pass.1 c.redeem.ensures.out c.redeem.ensures.others in
    delivered c.self.invariant c.into_parts-stretch.result.0 _ _ c.in-Ok.ensures.added c.in-Ok.ensures.accepted t.t t.there t.of_number
    c.redeem.ensures.name t.rest refl
