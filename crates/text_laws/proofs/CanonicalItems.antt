-- The items of a job's canonical text: its arrays with all values, its bodies, its start lines.
use Rattle.std.proofs.Common.{◌≡◌, ℕ, ◌-◌, true, List, [], ◌∷◌, ◌++◌, length, map, ℤ, pos, refl, sym, ap, subst, ◌∙◌, arith, append-nil}
use Rattle.std.specs.Prelude.{nat_lt, replicate}
use Rattle.std.specs.List.{list_all}
use Rattle.std.proofs.lemmas.Bool.{ltb-true}
use Rattle.task_code.specs.declared.job.Start.{Start}
use Rattle.job_reader.specs.Words.{Word, Words}
use Rattle.job_reader.proofs.GrowLemmas.{and-left, and-right}
use Rattle.job_reader.specs.Trees.{BodyTree, JobTree, array_names}
use Rattle.job_reader.specs.Grammar.{Item, AnArray, ABody, AStart, array_words, body_lines, start_words, items_lines, IsSoundBody, IsFilled, AreSound, with_item, job_of, array_lines, bodies_lines, start_lines}
use Rattle.job_reader.proofs.ItemLemmas.{items-append, sound-append}

abbrev pub array_items : List (Word × List ℤ) → List Item
array_items [] = []
array_items (a ∷ xs) = AnArray a.0 a.1 a.1 ∷ array_items xs

abbrev pub body_items : List BodyTree → List Item
body_items [] = []
body_items (b ∷ bs) = ABody b ∷ body_items bs

abbrev pub start_items : List Start → List Item
start_items [] = []
start_items (s ∷ ss) = AStart s ∷ start_items ss

abbrev pub canonical_items : JobTree → List Item
canonical_items j = array_items j.arrays ++ (body_items j.bodies ++ start_items j.starts)

-- what they say

starts-said : (format : ℕ) (ss : List Start)
    → job_of format (start_items ss) ≡ record { format = format; arrays = []; bodies = []; starts = ss }
starts-said format [] = refl
starts-said format (s ∷ ss) = ap (with_item (AStart s)) (starts-said format ss)

bodies-said : (format : ℕ) (bs : List BodyTree) (ss : List Start)
    → job_of format (body_items bs ++ start_items ss) ≡ record { format = format; arrays = []; bodies = bs; starts = ss }
bodies-said format [] ss = starts-said format ss
bodies-said format (b ∷ bs) ss = ap (with_item (ABody b)) (bodies-said format bs ss)

arrays-said : (format : ℕ) (xs : List (Word × List ℤ)) (bs : List BodyTree) (ss : List Start)
    → job_of format (array_items xs ++ (body_items bs ++ start_items ss))
    ≡ record { format = format; arrays = xs; bodies = bs; starts = ss }
arrays-said format [] bs ss = bodies-said format bs ss
arrays-said format (a ∷ xs) bs ss = ap (with_item (AnArray a.0 a.1 a.1)) (arrays-said format xs bs ss)

pub items-said : (j : JobTree) → job_of j.format (canonical_items j) ≡ j
items-said j = arrays-said j.format j.arrays j.bodies j.starts

-- the arrays that are above what follows them
arrays-above : (format : ℕ) (xs : List (Word × List ℤ)) → array_names (job_of format (array_items xs)) ≡ map (λ a. a.0) xs
arrays-above format [] = refl
arrays-above format (a ∷ xs) = ap (λ (x : List Word). a.0 ∷ x) (arrays-above format xs)

-- bodies leave the arrays as they are
bodies-above : (format : ℕ) (bs : List BodyTree) → array_names (job_of format (body_items bs)) ≡ []
bodies-above format [] = refl
bodies-above format (b ∷ bs) = bodies-above format bs

-- their lines

arrays-written : (format : ℕ) (above bodies : List Word) (xs : List (Word × List ℤ))
    → items_lines format above bodies (array_items xs) ≡ array_lines xs
arrays-written format above bodies [] = refl
arrays-written format above bodies (a ∷ xs) =
    ap (λ (x : List Words). array_words a.0 (length a.1) a.1 ∷ x) (arrays-written format (above ++ a.0 ∷ []) bodies xs)

bodies-written : (format : ℕ) (above bodies : List Word) (bs : List BodyTree)
    → items_lines format above bodies (body_items bs) ≡ bodies_lines format above bodies bs
bodies-written format above bodies [] = refl
bodies-written format above bodies (b ∷ bs) =
    ap (λ (x : List Words). body_lines format above bodies b ++ x) (bodies-written format above bodies bs)

starts-written : (format : ℕ) (above bodies : List Word) (ss : List Start)
    → items_lines format above bodies (start_items ss) ≡ start_lines bodies ss
starts-written format above bodies [] = refl
starts-written format above bodies (s ∷ ss) = ap (λ (x : List Words). start_words bodies s ∷ x) (starts-written format above bodies ss)

pub items-written : (j : JobTree) (bodies : List Word)
    → items_lines j.format [] bodies (canonical_items j)
    ≡ array_lines j.arrays ++ (bodies_lines j.format (array_names j) bodies j.bodies ++ start_lines bodies j.starts)
items-written j bodies =
    let f : ℕ = j.format in
    let rest : List Item = body_items j.bodies ++ start_items j.starts in
    let above : List Word = array_names (job_of f (array_items j.arrays)) in
    let later : List Word = array_names j ++ array_names (job_of f (body_items j.bodies)) in
    items-append f [] bodies (array_items j.arrays) rest
    ∙ ap (λ (x : List Words). x ++ items_lines f above bodies rest) (arrays-written f [] bodies j.arrays)
    ∙ ap (λ (x : List Word). array_lines j.arrays ++ items_lines f x bodies rest) (arrays-above f j.arrays)
    ∙ ap (λ (x : List Words). array_lines j.arrays ++ x)
    (items-append f (array_names j) bodies (body_items j.bodies) (start_items j.starts)
    ∙ ap (λ (x : List Words). x ++ items_lines f later bodies (start_items j.starts)) (bodies-written f (array_names j) bodies j.bodies)
    ∙ ap (λ (x : List Words). bodies_lines f (array_names j) bodies j.bodies ++ x) (starts-written f later bodies j.starts))

-- and that they are sound

whole-filled : (cells : List ℤ) → IsFilled cells cells
whole-filled cells =
    let none : length cells - length cells ≡ 0 = omega arith in
    (omega arith, sym (append-nil cells) ∙ ap (λ (n : ℕ). cells ++ replicate n (pos 0)) (sym none))

arrays-sound : (format : ℕ) (above bodies : List Word) (xs : List (Word × List ℤ)) → AreSound format above bodies (array_items xs)
arrays-sound format above bodies [] = tt
arrays-sound format above bodies (a ∷ xs) = (whole-filled a.1, arrays-sound format (above ++ a.0 ∷ []) bodies xs)

-- each of these bodies is sound
abbrev pub AllSound : ℕ → List Word → List Word → List BodyTree → Type 0
AllSound format arrays bodies [] = Unit {0}
AllSound format arrays bodies (b ∷ bs) = IsSoundBody format arrays bodies b × AllSound format arrays bodies bs

bodies-sound : (format : ℕ) (above bodies : List Word) (bs : List BodyTree) → AllSound format above bodies bs
    → AreSound format above bodies (body_items bs)
bodies-sound format above bodies [] h = tt
bodies-sound format above bodies (b ∷ bs) h = (h.0, bodies-sound format above bodies bs h.1)

starts-sound : (format : ℕ) (above bodies : List Word) (ss : List Start) → list_all (λ s. nat_lt s.body (length bodies)) ss ≡ true
    → AreSound format above bodies (start_items ss)
starts-sound format above bodies [] h = tt
starts-sound format above bodies (s ∷ ss) h = (
  ltb-true s.body (length bodies) (and-left _ (list_all (λ s. nat_lt s.body (length bodies)) ss) h),
  starts-sound format above bodies ss (and-right (nat_lt s.body (length bodies)) _ h),
)

pub items-sound : (j : JobTree) (bodies : List Word) → AllSound j.format (array_names j) bodies j.bodies
    → list_all (λ s. nat_lt s.body (length bodies)) j.starts ≡ true → AreSound j.format [] bodies (canonical_items j)
items-sound j bodies h k =
    let f : ℕ = j.format in
    let rest : List Item = body_items j.bodies ++ start_items j.starts in
    let behind : AreSound f (array_names j) bodies rest =
    sound-append f (array_names j) bodies (body_items j.bodies) (start_items j.starts) (bodies-sound f (array_names j) bodies j.bodies h)
    (starts-sound f _ bodies j.starts k) in
    sound-append f [] bodies (array_items j.arrays) rest (arrays-sound f [] bodies j.arrays)
    (subst (λ (x : List Word). AreSound f x bodies rest) (sym (arrays-above f j.arrays)) behind)
