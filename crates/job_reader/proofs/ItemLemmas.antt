-- Items one after the other.
use Rattle.std.proofs.Common.{◌≡◌, ℕ, List, [], ◌∷◌, ◌++◌, length, refl, sym, ap, subst, ◌∙◌, append_assoc, append-nil}
use Rattle.job_reader.specs.Words.{Word, Words}
use Rattle.job_reader.specs.Trees.{JobTree, array_names}
use Rattle.job_reader.specs.Grammar.{Item, AnArray, ABody, AStart, array_words, body_lines, start_words, items_lines, AreSound, with_item, no_job, job_of}

-- a job with an item after its others
abbrev pub put : Item → JobTree → JobTree
put (AnArray name given cells) j = record j { arrays = j.arrays ++ (name, cells) ∷ [] }
put (ABody b) j = record j { bodies = j.bodies ++ b ∷ [] }
put (AStart s) j = record j { starts = j.starts ++ s ∷ [] }

put-in : (x i : Item) (j : JobTree) → with_item x (put i j) ≡ put i (with_item x j)
put-in (AnArray n g c) (AnArray m h d) j = refl
put-in (AnArray n g c) (ABody b) j = refl
put-in (AnArray n g c) (AStart s) j = refl
put-in (ABody a) (AnArray m h d) j = refl
put-in (ABody a) (ABody b) j = refl
put-in (ABody a) (AStart s) j = refl
put-in (AStart t) (AnArray m h d) j = refl
put-in (AStart t) (ABody b) j = refl
put-in (AStart t) (AStart s) j = refl

put-first : (format : ℕ) (i : Item) → with_item i (no_job format) ≡ put i (no_job format)
put-first format (AnArray m h d) = refl
put-first format (ABody b) = refl
put-first format (AStart s) = refl

-- an item leaves the format
put-format : (i : Item) (j : JobTree) → j.format ≡ (put i j).format
put-format (AnArray m h d) j = refl
put-format (ABody b) j = refl
put-format (AStart s) j = refl

pub job-put : (format : ℕ) (xs : List Item) (i : Item) → job_of format (xs ++ i ∷ []) ≡ put i (job_of format xs)
job-put format [] i = put-first format i
job-put format (x ∷ xs) i = ap (with_item x) (job-put format xs i) ∙ put-in x i (job_of format xs)

pub items-append : (format : ℕ) (arrays bodies : List Word) (xs ys : List Item)
    → items_lines format arrays bodies (xs ++ ys)
    ≡ items_lines format arrays bodies xs ++ items_lines format (arrays ++ array_names (job_of format xs)) bodies ys
items-append format arrays bodies [] ys = ap (λ (a : List Word). items_lines format a bodies ys) (sym (append-nil arrays))
items-append format arrays bodies (AnArray n g c ∷ xs) ys =
    ap (λ (t : List Words). array_words n (length c) g ∷ t)
    (items-append format (arrays ++ n ∷ []) bodies xs ys
    ∙ ap (λ (a : List Word). items_lines format (arrays ++ n ∷ []) bodies xs ++ items_lines format a bodies ys)
    (append_assoc arrays (n ∷ []) (array_names (job_of format xs))))
items-append format arrays bodies (ABody b ∷ xs) ys =
    ap (λ (t : List Words). body_lines format arrays bodies b ++ t) (items-append format arrays bodies xs ys)
    ∙ sym
    (append_assoc (body_lines format arrays bodies b) (items_lines format arrays bodies xs) (items_lines format (arrays ++ array_names (job_of format xs)) bodies ys))
items-append format arrays bodies (AStart s ∷ xs) ys =
    ap (λ (t : List Words). start_words bodies s ∷ t) (items-append format arrays bodies xs ys)

pub sound-append : (format : ℕ) (arrays bodies : List Word) (xs ys : List Item) → AreSound format arrays bodies xs
    → AreSound format (arrays ++ array_names (job_of format xs)) bodies ys → AreSound format arrays bodies (xs ++ ys)
sound-append format arrays bodies [] ys h k = subst (λ (a : List Word). AreSound format a bodies ys) (append-nil arrays) k
sound-append format arrays bodies (AnArray n g c ∷ xs) ys h k = (
  h.0,
  sound-append format (arrays ++ n ∷ []) bodies xs ys h.1
      (subst (λ (a : List Word). AreSound format a bodies ys) (sym (append_assoc arrays (n ∷ []) (array_names (job_of format xs)))) k),
)
sound-append format arrays bodies (ABody b ∷ xs) ys h k = (h.0, sound-append format arrays bodies xs ys h.1 k)
sound-append format arrays bodies (AStart s ∷ xs) ys h k = (h.0, sound-append format arrays bodies xs ys h.1 k)

-- lines that are a job's, as items
pub record SpelledOut (bodies : List Word) (lines : List Words) (j : JobTree) : Type 0 where
  pub items : List Item
  pub written : lines ≡ items_lines j.format [] bodies items
  pub said : job_of j.format items ≡ j
  pub sound : AreSound j.format [] bodies items

spelled-out-as : (bodies : List Word) (lines : List Words) (j : JobTree) (format : ℕ) (items : List Item) → format ≡ j.format
    → lines ≡ items_lines format [] bodies items
    → job_of format items ≡ j → AreSound format [] bodies items → SpelledOut bodies lines j
spelled-out-as bodies lines j format items same w s h = record {
  items = items;
  written = subst (λ (f : ℕ). lines ≡ items_lines f [] bodies items) same w;
  said = subst (λ (f : ℕ). job_of f items ≡ j) same s;
  sound = subst (λ (f : ℕ). AreSound f [] bodies items) same h;
}

-- an item more
pub spelled-out-put : (bodies : List Word) (lines : List Words) (j : JobTree) (i : Item) → SpelledOut bodies lines j
    → AreSound j.format (array_names j) bodies (i ∷ [])
    → SpelledOut bodies (lines ++ items_lines j.format (array_names j) bodies (i ∷ [])) (put i j)
spelled-out-put bodies lines j i t s =
    let names : array_names (job_of j.format t.items) ≡ array_names j = ap array_names t.said in
    spelled-out-as bodies (lines ++ items_lines j.format (array_names j) bodies (i ∷ [])) (put i j) j.format (t.items ++ i ∷ [])
    (put-format i j)
    (ap (λ (x : List Words). x ++ items_lines j.format (array_names j) bodies (i ∷ [])) t.written
    ∙ ap (λ (a : List Word). items_lines j.format [] bodies t.items ++ items_lines j.format a bodies (i ∷ [])) (sym names)
    ∙ sym (items-append j.format [] bodies t.items (i ∷ [])))
    (job-put j.format t.items i ∙ ap (put i) t.said)
    (sound-append j.format [] bodies t.items (i ∷ []) t.sound (subst (λ (a : List Word). AreSound j.format a bodies (i ∷ [])) (sym names) s))

pub spelled-out-nothing : (format : ℕ) (bodies : List Word) → SpelledOut bodies [] (no_job format)
spelled-out-nothing format bodies = record { items = []; written = refl; said = refl; sound = tt }
