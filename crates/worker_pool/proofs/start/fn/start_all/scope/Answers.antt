use Rattle.std.proofs.Common.{IsSome, vec_len, refl, sym, ap, subst, arith, inl, inr}
use Rattle.worker_pool.proofs.start.fn.start_all.scope.Goals.{else-loop-k-test, then-loop-k-test+in-Err, then-loop-k-test+in_default+in-Err-spawn}
use Rattle.worker_pool.proofs.start.fn.start_all.scope.Goals as goal

pub join_all-requires : goal.join_all-requires
join_all-requires g c = elim c.loop-k-test.branch [
  | else-loop-k-test w ↦
      let some = c.requires.1 in
      let same = ap (λ v. vec_len v) w.started-is in
      let all = c.loop-k.invariant.1 in
      inr (omega (arith, some, same, all, w.loop-k-test.false))
  | then-loop-k-test+in-Err w ↦ inl (subst IsSome (sym w.stopped-is) refl)
  | then-loop-k-test+in_default+in-Err-spawn w ↦ inl (subst IsSome (sym w.stopped-is) refl)
]
