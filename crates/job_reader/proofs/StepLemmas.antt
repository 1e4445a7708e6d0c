-- The lines of a text in turn.
use Rattle.std.proofs.Common.{◌≡◌, ℕ, ◌+◌, List, ◌∷◌, Result, Ok, Err, refl, ap, ◌∙◌}
use Rattle.text_lines.specs.declared.refusal.Code.{Code}
use Rattle.text_lines.specs.declared.refusal.Refusal.{Refusal}
use Rattle.text_lines.specs.Text.{words_of}
use Rattle.job_reader.specs.Words.{Word}
use Rattle.job_reader.specs.declared.state.State.{State}
use Rattle.job_reader.specs.Trees.{JobTree}
use Rattle.job_reader.specs.Above.{Above}
use Rattle.job_reader.specs.Reading.{◌>>=◌, at, kept_step, read_lines}
use Rattle.job_reader.specs.Relates.{IsAt}
use Rattle.job_reader.specs.Kept.{KeptAt}
use Rattle.job_reader.specs.Gives.{FitsOk}
use Rattle.job_reader.proofs.KeptLines.{step-kept}

module _ (bodies : List Word) (n : ℕ) (a : Above) (l : Word) (ls : List Word) (s : State) where
  stepped : KeptAt a.job a.inside → (r : Result Above Code) → kept_step bodies n a (words_of l) ≡ r → FitsOk (λ b. IsAt b s) r
      → (x : Above) × IsAt x s × KeptAt x.job x.inside × (read_lines bodies n a (l ∷ ls) ≡ read_lines bodies (n + 1) x ls)
  stepped g (Ok b) e f =
      (b, f, step-kept bodies n a b (words_of l) g e, ap (λ (r : Result Above Code). at n r >>= λ b. read_lines bodies (n + 1) b ls) e)
  stepped g (Err c) e f = absurd f

  -- a line that was read leaves the rest to be read
  pub line-next : (all : Result JobTree Refusal) (rest : List Word) → FitsOk (λ b. IsAt b s) (kept_step bodies n a (words_of l))
      → KeptAt a.job a.inside
      → all ≡ read_lines bodies n a rest → rest ≡ l ∷ ls
      → (x : Above) × IsAt x s × KeptAt x.job x.inside × (all ≡ read_lines bodies (n + 1) x ls)
  line-next all rest f g e r =
      let next = stepped g _ refl f in
      (next.0, next.1, next.2, e ∙ ap (read_lines bodies n a) r ∙ next.3)
