-- Memory that runs out before anything is read.
use Rattle.std.proofs.Common.{◌≡◌, ℕ, inl, List, Option, Some, None, refl, sym, subst, arith}
use Rattle.std.specs.Io.KnownBytes.{Keeps}
use Rattle.job_view.specs.Look.{LookValue}
use Rattle.bsp_cli.specs.Did.{Did, RunsOut}
use Rattle.bsp_words.specs.declared.asked.Asked.{Asked}
use Rattle.bsp_words.specs.declared.asked.Asked.TheVariants.{Trace, Check, CheckAll, Upgrade, Run, RunJson, RunStream, Draw, Explain}

keeps : (old : Option (List ℕ)) → Keeps old old
keeps None = tt
keeps (Some xs) = refl

out : (a : Asked) (input old : Option (List ℕ)) → RunsOut a input old old
out Trace input old = inl (keeps old)
out Check input old = keeps old
out CheckAll input old = keeps old
out Upgrade input old = keeps old
out (Run workers limit) input old = keeps old
out (RunJson workers limit) input old = keeps old
out (RunStream workers limit) input old = inl (keeps old)
out (Explain topic) input old = keeps old
out (Draw workers limit) input old = keeps old

-- memory ran out before anything was read
pub no-memory : (a : Asked) (look : LookValue) (input old new : Option (List ℕ)) (reported : List ℕ → Type 0) (status : ℕ) → new ≡ old
    → status ≡ 6
    → Did a look input old new reported status
no-memory a look input old new reported status same e = record {
  finished = λ h. absurd (omega arith);
  refused = λ h. absurd (omega arith);
  memory = λ h. subst (λ (x : Option (List ℕ)). RunsOut a input old x) (sym same) (out a input old);
  failed = λ h. absurd (omega arith);
  not_started = λ h. absurd (omega arith);
  internal = λ h. absurd (omega arith);
}
