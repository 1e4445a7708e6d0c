-- Texts of lines in turn.
use Rattle.std.proofs.Common.{◌≡◌, ℕ, ℤ, zero, suc, ◌+◌, List, [], ◌∷◌, ◌++◌, length, map, drop, Some, None, refl, sym, ap, ◌∙◌, append_assoc, codes, add-one}
use Rattle.std.specs.Prelude.{slice_get}
use Rattle.task_code.specs.declared.code.Line.{Line}
use Rattle.task_code.specs.Reading.{tree_of, IsMatched}
use Rattle.task_code.specs.BodyValue.{BodyValue}
use Rattle.job_reader.specs.Words.{Word, Words}
use Rattle.job_reader.specs.Exprs.{Names}
use Rattle.job_reader.specs.Lines.{end_words}
use Rattle.task_code.specs.JobValue.{JobValue}
use Rattle.task_code.specs.declared.job.Start.{Start}
use Rattle.job_reader.specs.Trees.{BodyTree, body_tree, job_tree, array_names, body_names}
use Rattle.job_reader.specs.Grammar.{
  block_lines,
  body_words,
  body_lines,
  bodies_lines,
  array_words,
  array_lines,
  start_lines,
  canonical_text,
  header_words,
  listed_in,
  spaced,
  line_text,
  text_of,
}
use Rattle.job_reader.specs.Writing.{code_lines}
use Rattle.job_reader.proofs.CodeLemmas.{matched-code, text-append}

-- one body more
pub bodies-next : (format : ℕ) (arrays bodies : List Word) (b : BodyTree) (bs : List BodyTree) (out next : List ℕ)
    → next ≡ out ++ text_of (body_lines format arrays bodies b)
    → next ++ text_of (bodies_lines format arrays bodies bs) ≡ out ++ text_of (bodies_lines format arrays bodies (b ∷ bs))
bodies-next format arrays bodies b bs out next e =
    ap (λ (x : List ℕ). x ++ text_of (bodies_lines format arrays bodies bs)) e
    ∙ append_assoc out (text_of (body_lines format arrays bodies b)) (text_of (bodies_lines format arrays bodies bs))
    ∙ ap (λ (x : List ℕ). out ++ x) (sym (text-append (body_lines format arrays bodies b) (bodies_lines format arrays bodies bs)))

-- six pieces, one after the other
pieces : (out a b s n t : List ℕ) → ((((out ++ a) ++ b) ++ s) ++ n) ++ t ≡ out ++ (a ++ (((b ++ s) ++ n) ++ t))
pieces out a b s n t = simp append_assoc

last-line : (ls : List Words) → text_of (ls ++ end_words ∷ []) ≡ text_of ls ++ codes "end\n"
last-line ls = text-append ls (end_words ∷ [])

-- a body's pieces are its lines
pub body-text : (format : ℕ) (s : Names) (name : Word) (locals : List Word) (code : List Line) → IsMatched code → (out a b l c d e : List ℕ)
    → a ≡ out ++ codes "body " → b ≡ a ++ name → l ≡ b ++ spaced (listed_in format locals) → c ≡ l ++ 10 ∷ []
    → d ≡ c ++ text_of (code_lines s code) → e ≡ d ++ codes "end\n"
    → e ≡ out ++ text_of (body_words format name locals ∷ (block_lines s (tree_of code) ++ end_words ∷ []))
body-text format s name locals code m out a b l c d e p q v r t u =
    let whole : text_of (code_lines s code) ++ codes "end\n" ≡ text_of (block_lines s (tree_of code) ++ end_words ∷ []) =
    ap (λ (x : List Words). text_of x ++ codes "end\n") (matched-code s code m) ∙ sym (last-line (block_lines s (tree_of code))) in
    let names : List ℕ = spaced (listed_in format locals) in
    let front : List ℕ = (((out ++ codes "body ") ++ name) ++ names) ++ 10 ∷ [] in
    let begun : c ≡ front =
    r ∙ ap (λ (x : List ℕ). x ++ 10 ∷ []) (v ∙ ap (λ (x : List ℕ). x ++ names) (q ∙ ap (λ (x : List ℕ). x ++ name) p)) in
    u
    ∙ ap (λ (x : List ℕ). x ++ codes "end\n") (t ∙ ap (λ (x : List ℕ). x ++ text_of (code_lines s code)) begun)
    ∙ append_assoc front (text_of (code_lines s code)) (codes "end\n")
    ∙ ap (λ (x : List ℕ). front ++ x) whole
    ∙ pieces out (codes "body ") name names (10 ∷ []) (text_of (block_lines s (tree_of code) ++ end_words ∷ []))

pub names-of-trees : (bs : List BodyValue) → map (λ (b : BodyTree). b.name) (map body_tree bs) ≡ map (λ (b : BodyValue). b.name) bs
names-of-trees [] = refl
names-of-trees (b ∷ bs) = ap (λ (t : List Word). b.name ∷ t) (names-of-trees bs)

-- a job's pieces are its text
pub job-text : (header : Words) (xs ys zs : List Words) (new a b c d : List ℕ) → new ≡ [] → a ≡ new ++ line_text header
    → b ≡ a ++ text_of xs
    → c ≡ b ++ text_of ys → d ≡ c ++ text_of zs
    → d ≡ text_of (header ∷ (xs ++ (ys ++ zs)))
job-text header xs ys zs new a b c d n p q r t =
    let first : List ℕ = line_text header in
    t
    ∙ ap (λ (x : List ℕ). x ++ text_of zs)
    (r ∙ ap (λ (x : List ℕ). x ++ text_of ys) (q ∙ ap (λ (x : List ℕ). x ++ text_of xs) (p ∙ ap (λ (x : List ℕ). x ++ first) n)))
    ∙ append_assoc (first ++ text_of xs) (text_of ys) (text_of zs)
    ∙ append_assoc first (text_of xs) (text_of ys ++ text_of zs)
    ∙ ap (λ (x : List ℕ). first ++ (text_of xs ++ x)) (sym (text-append ys zs))
    ∙ ap (λ (x : List ℕ). first ++ x) (sym (text-append xs (ys ++ zs)))

at-place : (xs : List (Word × List ℤ)) (i : ℕ) (x : Word × List ℤ) → slice_get xs i ≡ Some x → drop i xs ≡ x ∷ drop (suc i) xs
at-place [] i x e = absurd cc
at-place (y ∷ ys) zero x e = let same : y ≡ x = cc in ap (λ (z : Word × List ℤ). z ∷ ys) same
at-place (y ∷ ys) (suc i) x e = at-place ys i x e

past-end : (xs : List (Word × List ℤ)) (i : ℕ) → slice_get xs i ≡ None → drop i xs ≡ drop (suc i) xs
past-end [] zero e = refl
past-end [] (suc i) e = refl
past-end (y ∷ ys) zero e = absurd cc
past-end (y ∷ ys) (suc i) e = past-end ys i e

-- one array more
pub arrays-next : (xs : List (Word × List ℤ)) (i : ℕ) (x : Word × List ℤ) (out next : List ℕ) → Some x ≡ slice_get xs i
    → next ≡ out ++ line_text (array_words x.0 (length x.1) x.1)
    → next ++ text_of (array_lines (drop (i + 1) xs)) ≡ out ++ text_of (array_lines (drop i xs))
arrays-next xs i x out next e n =
    ap (λ (k : ℕ). next ++ text_of (array_lines (drop k xs))) (add-one i)
    ∙ ap (λ (t : List ℕ). t ++ text_of (array_lines (drop (suc i) xs))) n
    ∙ append_assoc out (line_text (array_words x.0 (length x.1) x.1)) (text_of (array_lines (drop (suc i) xs)))
    ∙ ap (λ (t : List (Word × List ℤ)). out ++ text_of (array_lines t)) (sym (at-place xs i x (sym e)))

pub arrays-end : (xs : List (Word × List ℤ)) (i : ℕ) (out next : List ℕ) → None ≡ slice_get xs i → next ≡ out
    → next ++ text_of (array_lines (drop (i + 1) xs)) ≡ out ++ text_of (array_lines (drop i xs))
arrays-end xs i out next e n =
    ap (λ (k : ℕ). next ++ text_of (array_lines (drop k xs))) (add-one i)
    ∙ ap (λ (t : List ℕ). t ++ text_of (array_lines (drop (suc i) xs))) n
    ∙ ap (λ (t : List (Word × List ℤ)). out ++ text_of (array_lines t)) (sym (past-end xs i (sym e)))

-- the pieces of a job are its canonical text
pub job-made : (j : JobValue) (f h : ℕ) (xs ys : List (Word × List ℤ)) (p q r : List BodyValue) (ss : List Start) (new a b c d : List ℕ)
    → xs ≡ j.arrays → ys ≡ j.arrays → p ≡ j.bodies → q ≡ j.bodies → r ≡ j.bodies → ss ≡ j.starts
    → f ≡ j.format → h ≡ j.format → new ≡ [] → a ≡ new ++ line_text (header_words f) → b ≡ a ++ text_of (array_lines xs)
    → c ≡ b ++ text_of (bodies_lines h (map (λ (x : Word × List ℤ). x.0) ys) (map (λ (x : BodyValue). x.name) p) (map body_tree q))
    → d ≡ c ++ text_of (start_lines (map (λ (x : BodyValue). x.name) r) ss) → d ≡ canonical_text (job_tree j)
job-made j f h xs ys p q r ss new a b c d ex ey ep eq er es ef eh n first g k i =
    let names : (bs : List BodyValue) → bs ≡ j.bodies → map (λ (x : BodyValue). x.name) bs ≡ body_names (job_tree j) =
    λ bs e. ap (λ (t : List BodyValue). map (λ (x : BodyValue). x.name) t) e ∙ sym (names-of-trees j.bodies) in
    job-text (header_words j.format) (array_lines j.arrays)
    (bodies_lines j.format (array_names (job_tree j)) (body_names (job_tree j)) (map body_tree j.bodies))
    (start_lines (body_names (job_tree j)) j.starts)
    new a b c d n (first ∙ ap (λ (x : ℕ). new ++ line_text (header_words x)) ef)
    (g ∙ ap (λ (t : List (Word × List ℤ)). a ++ text_of (array_lines t)) ex)
    (k
    ∙ ap
    (λ (t : List (Word × List ℤ)). b
    ++ text_of (bodies_lines h (map (λ (x : Word × List ℤ). x.0) t) (map (λ (x : BodyValue). x.name) p) (map body_tree q)))
    ey
    ∙ ap (λ (t : List Word). b ++ text_of (bodies_lines h (array_names (job_tree j)) t (map body_tree q))) (names p ep)
    ∙ ap (λ (t : List BodyValue). b ++ text_of (bodies_lines h (array_names (job_tree j)) (body_names (job_tree j)) (map body_tree t))) eq
    ∙ ap (λ (x : ℕ). b ++ text_of (bodies_lines x (array_names (job_tree j)) (body_names (job_tree j)) (map body_tree j.bodies))) eh)
    (i ∙ ap (λ (t : List Word). c ++ text_of (start_lines t ss)) (names r er)
    ∙ ap (λ (t : List Start). c ++ text_of (start_lines (body_names (job_tree j)) t)) es)
