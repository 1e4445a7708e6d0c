-- Lines of an open body are those of its code.
use Rattle.std.proofs.Common.{◌≡◌, ℕ, Bool, true, false, ◌&&◌, List, [], ◌∷◌, ◌++◌, map, Option, Some, None, Ok, refl, sym, ap, subst, ◌∙◌, append_assoc, append-nil, codes}
use Rattle.std.specs.Prelude.{not, ◌||◌}
use Rattle.std.specs.List.{list_all}
use Rattle.std.specs.Str.{bytes_eq}
use Rattle.std.proofs.lemmas.List.Folds.{list_all-append}
use Rattle.task_code.specs.Names.{is_among}
use Rattle.task_code.specs.declared.code.Line.{Line}
use Rattle.task_code.specs.declared.code.Line.TheVariants as line
use Rattle.task_code.specs.Tree.{Block, flat}
use Rattle.task_code.specs.Open.{Frame, InIf, InElse, InWhile, open_code, step_of}
use Rattle.job_reader.specs.Words.{Word, Words}
use Rattle.job_reader.specs.Exprs.{Names}
use Rattle.job_reader.specs.declared.lines.Keyword.{Keyword}
use Rattle.job_reader.specs.declared.lines.Keyword.TheVariants.{Let, Put, Print, Spawn, Sync, Stop, If, Else, While, End}
use Rattle.job_reader.specs.Lines.{keyword_of, known_in, line_words, line_fits, mentions_behind, mentions_of, end_words}
use Rattle.job_reader.proofs.SaidLemmas.{made-ok, and-true}
use Rattle.job_reader.proofs.LineSaid.{LineSaid, is_present_if, keyword-said, line-said}
use Rattle.job_reader.proofs.GrowLemmas.{wider, line-grows, fits-grows, and-left, and-right}
use Rattle.job_reader.proofs.LocalsBehind.{locals-grow, listed-same, behind-none, by-one}
use Rattle.job_reader.proofs.Known.{known-line, said-known}
use Rattle.job_reader.specs.Trees.{BodyTree, JobTree, array_names}
use Rattle.job_reader.specs.Above.{Inside, can_else, sits, grown, ended, statements_behind}
use Rattle.job_reader.specs.Grammar.{ABody, body_words, block_lines, body_lines, items_lines, listed_in, locals_behind, locals_by, is_in_format}
use Rattle.job_reader.specs.Reading.{mentioning, said, behind, with_line, inner_line, is_missing}
use Rattle.job_reader.specs.Writing.{code_lines}
use Rattle.job_reader.proofs.CodeLemmas.{block-code}
use Rattle.job_reader.proofs.OpenLemmas.{said-sits}
use Rattle.job_reader.proofs.LineLemmas.{within-sits}
use Rattle.job_reader.proofs.StepCode.{step-map}
use Rattle.job_reader.proofs.ItemLemmas.{put, SpelledOut, spelled-out-put}

abbrev pub names : List Word → JobTree → List Word → Names
names bodies j locals = record { arrays = array_names j; bodies = bodies; locals = locals }

-- the lines of items, and of an open body after them
pub record SpelledInside (bodies : List Word) (lines : List Words) (j : JobTree) (o : Inside) : Type 0 where
  pub base : List Words
  pub spelled_out : SpelledOut bodies base j
  pub written : lines ≡ base ++ body_words j.format o.name o.locals ∷ code_lines (names bodies j o.locals) (open_code o.frames o.block)
  pub fits : list_all (line_fits (names bodies j o.locals)) (open_code o.frames o.block) ≡ true
  pub noted : locals_by j.format (listed_in j.format o.locals) (code_lines (names bodies j o.locals) (open_code o.frames o.block))
      ≡ o.locals
  pub lines_known : list_all (is_in_format j.format) (open_code o.frames o.block) ≡ true

abbrev pub Tells : List Word → List Words → JobTree → Option Inside → Type 0
Tells bodies lines j None = SpelledOut bodies lines j
Tells bodies lines j (Some o) = SpelledInside bodies lines j o

code-wider : (s : Names) (more : List Word) (code : List Line) → list_all (line_fits s) code ≡ true
    → code_lines (wider s more) code ≡ code_lines s code
code-wider s more [] e = refl
code-wider s more (l ∷ ls) e =
    ap (λ (t : Words). t ∷ code_lines (wider s more) ls) (line-grows s more l (and-left _ (list_all (line_fits s) ls) e))
    ∙ ap (λ (t : List Words). line_words s l ∷ t) (code-wider s more ls (and-right (line_fits s l) _ e))

fits-wider : (s : Names) (more : List Word) (code : List Line) → list_all (line_fits s) code ≡ true
    → list_all (line_fits (wider s more)) code ≡ true
fits-wider s more [] e = refl
fits-wider s more (l ∷ ls) e =
    and-true _ _ (fits-grows s more l (and-left _ (list_all (line_fits s) ls) e)) (fits-wider s more ls (and-right (line_fits s l) _ e))

pub all-mapped : (p : Line → Bool) (xs : List Line) → list_all (λ (b : Bool). b) (map p xs) ≡ list_all p xs
all-mapped p [] = refl
all-mapped p (x ∷ xs) = ap (λ (b : Bool). p x && b) (all-mapped p xs)

-- code with the locals that a line adds
abbrev pub SameCode : Names → Names → List Line → Type 0
SameCode s t code = (code_lines t code ≡ code_lines s code) × (list_all (line_fits t) code ≡ true)

added : (bodies : List Word) (j : JobTree) (locals ws : List Word) (code : List Line)
    → list_all (line_fits (names bodies j locals)) code ≡ true
    → SameCode (names bodies j locals) (names bodies j (locals_behind j.format locals ws)) code
added bodies j locals ws code e =
    let more = locals-grow j.format locals ws in
    let s : Names = names bodies j locals in
    subst (λ (ls : List Word). SameCode s (names bodies j ls) code) (sym more.1) (code-wider s more.0 code e, fits-wider s more.0 code e)

-- a line more in the body
grown-spelled-out : (bodies : List Word) (lines : List Words) (j : JobTree) (o : Inside) (k : Word) (ws : Words) (l : Line) (n : ℕ)
    (st : List Frame × Block)
    → SpelledInside bodies lines j o
    → LineSaid (names bodies j (mentioning j.format o (keyword_of k) ws).locals) (k ∷ ws) l → is_in_format j.format l ≡ true
    → step_of l o.frames o.block ≡ Some st
    → SpelledInside bodies (lines ++ (k ∷ ws) ∷ []) j (grown (mentioning j.format o (keyword_of k) ws) n st)
grown-spelled-out bodies lines j o k ws l n st t x known e =
    let code : List Line = open_code o.frames o.block in
    let ls : List Word = locals_behind j.format o.locals (mentions_behind (keyword_of k) ws) in
    let listed : listed_in j.format ls ≡ listed_in j.format o.locals = listed-same j.format o.locals (mentions_behind (keyword_of k) ws) in
    let s : Names = names bodies j o.locals in
    let s' : Names = names bodies j ls in
    let same : SameCode s s' code = added bodies j o.locals (mentions_behind (keyword_of k) ws) code t.fits in
    let after : code_lines s' (open_code st.0 st.1) ≡ code_lines s code ++ (k ∷ ws) ∷ [] =
    step-map (line_words s') (λ e n m. refl) (λ n m. refl) (λ e n m. refl) (λ e n. refl) l o.frames o.block st e
    ∙ ap (λ (c : List Words). c ++ line_words s' l ∷ []) same.0 ∙ ap (λ (w : Words). code_lines s code ++ w ∷ []) (sym x.0) in
    let fits : list_all (line_fits s') (open_code st.0 st.1) ≡ true =
    sym (all-mapped (line_fits s') (open_code st.0 st.1))
    ∙ ap (λ (c : List Bool). list_all (λ (b : Bool). b) c)
    (step-map (line_fits s') (λ e n m. refl) (λ n m. refl) (λ e n m. refl) (λ e n. refl) l o.frames o.block st e)
    ∙ list_all-append (λ (b : Bool). b) (map (line_fits s') code) (line_fits s' l ∷ [])
    ∙ and-true _ _ (all-mapped (line_fits s') code ∙ same.1) (and-true _ true x.1 refl) in
    record {
      base = t.base;
      spelled_out = t.spelled_out;
      written = ap (λ (c : List Words). c ++ (k ∷ ws) ∷ []) t.written
          ∙ append_assoc t.base (body_words j.format o.name o.locals ∷ code_lines s code) ((k ∷ ws) ∷ [])
          ∙ ap (λ (c : List Words). t.base ++ body_words j.format o.name o.locals ∷ c) (sym after)
          ∙ ap (λ (c : List Word). t.base ++ (codes "body" ∷ o.name ∷ c) ∷ code_lines s' (open_code st.0 st.1)) (sym listed);
      fits = fits;
      noted = ap (λ (c : List Word). locals_by j.format c (code_lines s' (open_code st.0 st.1))) listed
          ∙ ap (locals_by j.format (listed_in j.format o.locals)) after
          ∙ by-one j.format (listed_in j.format o.locals) (code_lines s code) (k ∷ ws)
          ∙ ap (λ (c : List Word). locals_behind j.format c (mentions_of (k ∷ ws))) t.noted;
      lines_known = sym (all-mapped (is_in_format j.format) (open_code st.0 st.1))
          ∙ ap (λ (c : List Bool). list_all (λ (b : Bool). b) c)
          (step-map (is_in_format j.format) (λ e n m. refl) (λ n m. refl) (λ e n m. refl) (λ e n. refl) l o.frames o.block st e)
          ∙ list_all-append (λ (b : Bool). b) (map (is_in_format j.format) code) (is_in_format j.format l ∷ [])
          ∙ and-true _ _ (all-mapped (is_in_format j.format) code ∙ t.lines_known) (and-true _ true known refl);
    }

-- a line that no open line takes is the end of the body
none-ends : (s : Names) (l : Line) (fs : List Frame) (b : Block) → step_of l fs b ≡ None → sits (can_else fs) l ≡ true
    → (fs ≡ []) × (line_words s l ≡ end_words)
none-ends s (line.Do a) fs b e t = absurd cc
none-ends s (line.If x n) fs b e t = absurd cc
none-ends s (line.While x n) fs b e t = absurd cc
none-ends s (line.Else n) [] b e t = absurd cc
none-ends s (line.Else n) (InIf x y ∷ fs) b e t = absurd cc
none-ends s (line.Else n) (InElse x y z ∷ fs) b e t = absurd cc
none-ends s (line.Else n) (InWhile x y ∷ fs) b e t = absurd cc
none-ends s line.EndIf [] b e t = (refl, refl)
none-ends s line.EndIf (f ∷ fs) b e t = absurd cc
none-ends s (line.EndWhile x n) [] b e t = (refl, refl)
none-ends s (line.EndWhile x n) (f ∷ fs) b e t = absurd cc

end-mentions : mentions_of end_words ≡ []
unfolding keyword_of mentions_behind
end-mentions = refl

ended-spelled-out : (bodies : List Word) (lines : List Words) (j : JobTree) (o : Inside) (k : Word) (ws : Words) (l : Line)
    → SpelledInside bodies lines j o
    → LineSaid (names bodies j (mentioning j.format o (keyword_of k) ws).locals) (k ∷ ws) l → is_in_format j.format l ≡ true
    → step_of l o.frames o.block ≡ None → sits (can_else o.frames) l ≡ true
    → SpelledOut bodies (lines ++ (k ∷ ws) ∷ []) (put (ABody (ended (mentioning j.format o (keyword_of k) ws))) j)
ended-spelled-out bodies lines j o k ws l t x known e st =
    let ls : List Word = locals_behind j.format o.locals (mentions_behind (keyword_of k) ws) in
    let listed : listed_in j.format ls ≡ listed_in j.format o.locals = listed-same j.format o.locals (mentions_behind (keyword_of k) ws) in
    let s : Names = names bodies j o.locals in
    let s' : Names = names bodies j ls in
    let ends = none-ends s' l o.frames o.block e st in
    let flat-code : open_code o.frames o.block ≡ flat o.block = ap (λ (fs : List Frame). open_code fs o.block) ends.0 in
    let same : SameCode s s' (flat o.block) =
    subst (SameCode s s') flat-code (added bodies j o.locals (mentions_behind (keyword_of k) ws) (open_code o.frames o.block) t.fits) in
    let word : k ∷ ws ≡ end_words = x.0 ∙ ends.1 in
    let blocks : code_lines s (open_code o.frames o.block) ≡ block_lines s' o.block =
    ap (code_lines s) flat-code ∙ sym same.0 ∙ block-code s' o.block in
    let none : ls ≡ o.locals = ap (locals_behind j.format o.locals) (ap mentions_of word ∙ end-mentions) ∙ behind-none j.format o.locals in
    let locals : locals_by j.format (listed_in j.format ls) (block_lines s' o.block) ≡ ls =
    ap (λ (c : List Word). locals_by j.format c (block_lines s' o.block)) listed
    ∙ ap (locals_by j.format (listed_in j.format o.locals)) (sym blocks) ∙ t.noted ∙ sym none in
    let lines_known : list_all (is_in_format j.format) (flat o.block) ≡ true =
    ap (list_all (is_in_format j.format)) (sym flat-code) ∙ t.lines_known in
    let b : BodyTree = ended (mentioning j.format o (keyword_of k) ws) in
    let shape : lines ++ (k ∷ ws) ∷ [] ≡ t.base ++ items_lines j.format (array_names j) bodies (ABody b ∷ []) =
    ap (λ (c : List Words). c ++ (k ∷ ws) ∷ []) t.written
    ∙ append_assoc t.base (body_words j.format o.name o.locals ∷ code_lines s (open_code o.frames o.block)) ((k ∷ ws) ∷ [])
    ∙ ap (λ (c : List Words). t.base ++ body_words j.format o.name o.locals ∷ (c ++ (k ∷ ws) ∷ [])) blocks
    ∙ ap (λ (w : Words). t.base ++ body_words j.format o.name o.locals ∷ (block_lines s' o.block ++ w ∷ [])) word
    ∙ ap (λ (c : List Word). t.base ++ (codes "body" ∷ o.name ∷ c) ∷ (block_lines s' o.block ++ end_words ∷ [])) (sym listed)
    ∙ ap (λ (c : List Words). t.base ++ c) (sym (append-nil (body_lines j.format (array_names j) bodies b))) in
    subst (λ (c : List Words). SpelledOut bodies c (put (ABody b) j)) (sym shape)
    (spelled-out-put bodies t.base j (ABody b) t.spelled_out (record { names = same.1; locals = locals; lines = lines_known }, tt))

present-cases : (bodies : List Word) (j : JobTree) (locals : List Word) (k : Word) (ws : Words) (o : Option Keyword) → keyword_of k ≡ o
    → is_missing bodies (k ∷ ws) ≡ false
    → is_present_if (names bodies j locals) o ws ≡ true
present-cases bodies j locals k ws None h e = refl
present-cases bodies j locals k ws (Some Let) h e = refl
present-cases bodies j locals k ws (Some (Put kind)) h e = refl
present-cases bodies j locals k ws (Some Print) h e = refl
present-cases bodies j locals k [] (Some Spawn) h e = refl
present-cases bodies j locals k (b ∷ ws) (Some Spawn) h e =
    there (is_among bodies b)
    (ap (λ (w : Word). (bytes_eq w (codes "spawn") || bytes_eq w (codes "start")) && not (is_among bodies b)) (sym (keyword-said k Spawn h))
    ∙ e)
  where
    there : (a : Bool) → not a ≡ false → a ≡ true
    there true e = refl
    there false e = absurd cc
present-cases bodies j locals k ws (Some Sync) h e = refl
present-cases bodies j locals k ws (Some Stop) h e = refl
present-cases bodies j locals k ws (Some If) h e = refl
present-cases bodies j locals k ws (Some Else) h e = refl
present-cases bodies j locals k ws (Some While) h e = refl
present-cases bodies j locals k ws (Some End) h e = refl

by-step : (bodies : List Word) (lines : List Words) (j : JobTree) (o : Inside) (k : Word) (ws : Words) (l : Line)
    (r : Option (List Frame × Block))
    → SpelledInside bodies lines j o
    → LineSaid (names bodies j (mentioning j.format o (keyword_of k) ws).locals) (k ∷ ws) l → is_in_format j.format l ≡ true
    → sits (can_else o.frames) l ≡ true → step_of l o.frames o.block ≡ r → (n : ℕ)
    → Tells bodies (lines ++ (k ∷ ws) ∷ []) (behind j (mentioning j.format o (keyword_of k) ws) n r).0
    (behind j (mentioning j.format o (keyword_of k) ws) n r).1
by-step bodies lines j o k ws l None t x known st e n = ended-spelled-out bodies lines j o k ws l t x known e st
by-step bodies lines j o k ws l (Some s) t x known st e n = grown-spelled-out bodies lines j o k ws l n s t x known e

-- a line in an open body
pub inner-spelled-out : (bodies : List Word) (lines : List Words) (j : JobTree) (o : Inside) (k : Word) (ws : Words)
    (p : JobTree × Option Inside)
    → SpelledInside bodies lines j o
    → is_missing bodies (k ∷ ws) ≡ false → inner_line bodies j o (known_in j.format (keyword_of k)) ws ≡ Ok p
    → Tells bodies (lines ++ (k ∷ ws) ∷ []) p.0 p.1
inner-spelled-out bodies lines j o k ws p t miss read =
    let known = known-line bodies j o (keyword_of k) ws p read in
    let e : inner_line bodies j o (keyword_of k) ws ≡ Ok p = known.0 in
    let o' : Inside = mentioning j.format o (keyword_of k) ws in
    let m = made-ok (with_line j o') (said (array_names j) bodies o' (keyword_of k) ws) p e in
    let line = within-sits _ o' m.0 m.1 in
    let s : Names = names bodies j o'.locals in
    let x = line-said s (can_else o.frames) k ws m.0 (present-cases bodies j o'.locals k ws (keyword_of k) refl miss) line in
    let st = said-sits s (can_else o.frames) (keyword_of k) ws m.0 line in
    subst (λ (q : JobTree × Option Inside). Tells bodies (lines ++ (k ∷ ws) ∷ []) q.0 q.1) m.2
    (by-step bodies lines j o k ws m.0 (step_of m.0 o.frames o.block) t x (said-known s (can_else o.frames) j.format (keyword_of k) ws m.0 known.1 line) st refl (statements_behind o'.statements m.0))
