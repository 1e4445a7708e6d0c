-- A line of an open body in the reader's steps.
use Rattle.std.proofs.Common.{◌≡◌, Bool, true, false, List, [], ◌∷◌, ◌++◌, Option, Some, None, Result, Ok, Err, sym, ap, subst, ◌∙◌}
use Rattle.std.specs.Prelude.{length, if◌then◌else◌}
use Rattle.text_lines.specs.declared.refusal.Code.{Code}
use Rattle.text_lines.specs.declared.refusal.Code.TheVariants.{TooMany}
use Rattle.task_code.specs.Limits.{opened}
use Rattle.task_code.specs.declared.code.Line.{Line}
use Rattle.task_code.specs.Tree.{Block}
use Rattle.task_code.specs.Open.{Frame}
use Rattle.job_reader.specs.Words.{Word, Words}
use Rattle.job_reader.specs.Faults.{made}
use Rattle.job_reader.specs.declared.lines.Keyword.{Keyword}
use Rattle.job_reader.specs.declared.inside.OpenBody.{OpenBody}
use Rattle.job_reader.specs.declared.so_far.SoFar.{SoFar}
use Rattle.job_reader.specs.Trees.{JobTree, array_names}
use Rattle.job_reader.specs.Above.{Inside, can_else, belongs, sits, ended, statements_behind}
use Rattle.job_reader.specs.Reading.{◌>>=◌, is_over, within_limits, said, behind, with_line, mentioning, inner_line, body_line, outer_line}
use Rattle.job_reader.specs.declared.outer.Outer.{Outer}
use Rattle.job_reader.specs.declared.outer.Outer.TheVariants as outer
use Rattle.job_reader.specs.Relates.{IsSoFar, IsInside, IsBehind}
use Rattle.job_reader.specs.Gives.{FitsOk}
use Rattle.job_reader.proofs.OpenLemmas.{ends-body, said-sits}

pub put-ended : (j : JobTree) (o : Inside) (l : Line) (r : SoFar) → belongs l o.frames ≡ false → sits (can_else o.frames) l ≡ true
    → (o.frames ≡ [] → IsSoFar (record j { bodies = j.bodies ++ ended o ∷ [] }) r) → IsBehind (with_line j o l) r None
put-ended j o l r e s h =
    let ends = ends-body l o.frames o.block e s in
    let P : Option (List Frame × Block) → Type 0 = λ x. IsBehind (behind j o (statements_behind o.statements l) x) r None in
    subst P (sym ends.1) (h ends.0, tt)

within-one : (b : Bool) (k l : Line) (c : Code) → (if b then Err c else Ok k) ≡ Ok l → ◌≡◌ {A = Result Line Code} (Ok k) (Ok l)
within-one true k l c e = absurd cc
within-one false k l c e = e

pub within-sits : (r : Result Line Code) (o : Inside) (l : Line) → (r >>= within_limits o) ≡ Ok l → r ≡ Ok l
within-sits (Err c) o l e = absurd cc
within-sits (Ok k) o l e =
    within-one (is_over (statements_behind o.statements k) (length o.locals) (opened (length o.frames) k)) k l TooMany e

-- the line that was said may be there
pub said-stands : (arrays bodies : List Word) (o : Inside) (k : Option Keyword) (ws : Words) (l : Line) → Ok l ≡ said arrays bodies o k ws
    → sits (can_else o.frames) l ≡ true
said-stands arrays bodies o k ws l e =
    said-sits (record { arrays = arrays; bodies = bodies; locals = o.locals }) (can_else o.frames) k ws l (within-sits _ o l (sym e))

pub line-refused : (names : List Word) (bodies : List Word) (j : JobTree) (o : Inside) (k : Option Keyword) (ws : Words) (c : Code)
    → names ≡ array_names j
    → Err c ≡ said names bodies (mentioning j.format o k ws) k ws → inner_line bodies j o k ws ≡ Err c
line-refused names bodies j o k ws c n e =
    ap (made (with_line j (mentioning j.format o k ws)))
    (ap (λ (x : List Word). said x bodies (mentioning j.format o k ws) k ws) (sym n) ∙ sym e)

pub line-put : (names : List Word) (bodies : List Word) (j : JobTree) (o : Inside) (k : Option Keyword) (ws : Words) (l : Line) (r : SoFar)
    (w : Option OpenBody)
    → names ≡ array_names j
    → Ok l ≡ said names bodies (mentioning j.format o k ws) k ws → IsBehind (with_line j (mentioning j.format o k ws) l) r w
    → FitsOk (λ p. IsBehind p r w) (inner_line bodies j o k ws)
line-put names bodies j o k ws l r w n e b =
    let P : Result (JobTree × Option Inside) Code → Type 0 = λ x. FitsOk (λ p. IsBehind p r w) x in
    subst P
    (sym (ap (made (with_line j (mentioning j.format o k ws))) (ap (λ (x : List Word). said x bodies (mentioning j.format o k ws) k ws) (sym n) ∙ sym e)))
    b

begun-cases : (j : JobTree) (r : SoFar) (w : OpenBody) (read : Result Inside Code) → IsSoFar j r → FitsOk (λ o. IsInside o w) read
    → FitsOk {Y = JobTree × Option Inside} (λ p. IsBehind p r (Some w)) (made (λ o. (j, Some o)) read)
begun-cases j r w (Ok o) s h = (s, h)
begun-cases j r w (Err c) s h = h

-- the body that a line begins
pub body-begun : (bodies : List Word) (j : JobTree) (begins : Option Outer) (ws : Words) (r : SoFar) (w : OpenBody)
    → begins ≡ Some outer.Body → IsSoFar j r
    → FitsOk (λ o. IsInside o w) (body_line j ws)
    → FitsOk {Y = JobTree × Option Inside} (λ p. IsBehind p r (Some w)) (outer_line bodies j begins ws)
body-begun bodies j begins ws r w e s h =
    subst (λ (b : Option Outer). FitsOk {Y = JobTree × Option Inside} (λ p. IsBehind p r (Some w)) (outer_line bodies j b ws)) (sym e)
    (begun-cases j r w (body_line j ws) s h)
