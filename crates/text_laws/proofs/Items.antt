-- The lines of items are read as their job.
use Rattle.std.proofs.Common.{◌≡◌, ℕ, ◌<◌, ◌≤◌, Bool, true, ◌&&◌, List, [], ◌∷◌, ◌++◌, length, map, None, refl, ℤ, sym, ap, subst, ◌∙◌, arith, append_assoc, append-nil, length-append}
use Rattle.std.specs.Prelude.{nat_le}
use Rattle.std.specs.List.{list_all, AllByRecursion}
use Rattle.std.proofs.lemmas.List.{map-append, length-map}
use Rattle.std.proofs.lemmas.Grind.{common_steps}
use Rattle.text_lines.specs.Number.{fits_i64}
use Rattle.task_code.specs.Names.{is_free, are_names}
use Rattle.task_code.specs.Rules.{IsBody, is_array}
use Rattle.task_code.specs.declared.job.Start.{Start}
use Rattle.job_reader.specs.Words.{Word}
use Rattle.job_reader.proofs.GrowLemmas.{and-left, and-right}
use Rattle.job_reader.specs.Trees.{BodyTree, JobTree, array_names, body_names}
use Rattle.job_reader.specs.Grammar.{Item, AnArray, ABody, AStart, body_lines, items_lines, AreSound, no_job, job_of}
use Rattle.job_reader.specs.Legal.{flat_body}
use Rattle.job_reader.proofs.ItemLemmas.{put}
use Rattle.text_laws.proofs.Chain.{Reads, reads-append}
use Rattle.text_laws.proofs.Known.{names-front, behind-new}
use Rattle.text_laws.proofs.OneItem.{AreCells, IsFreeArray, IsFreeBody, IsLegalBody, array-passes, body-reads, start-passes}

-- items that a job may have
abbrev pub IsItem : Item → Type 0
IsItem (AnArray name given cells) = (is_free name ≡ true) × AreCells cells
IsItem (ABody b) = IsLegalBody b
IsItem (AStart s) = fits_i64 s.arg ≡ true

abbrev pub AreItems : List Item → Type 0
AreItems [] = Unit {0}
AreItems (i ∷ is) = IsItem i × AreItems is

-- what is so of the items of a job, each for itself
pub record AreFit (j : JobTree) : Type 0 where
  pub arrays : list_all is_array j.arrays ≡ true
  pub cells : list_all (λ a. list_all fits_i64 a.1) j.arrays ≡ true
  pub bodies : AllByRecursion IsBody (map flat_body j.bodies)
  pub args : list_all (λ s. fits_i64 s.arg) j.starts ≡ true

le-from : (a b : ℕ) → nat_le a b ≡ true → a ≤ b
le-from a b e = grind (arith, common_steps)

array-is : (a : Word × List ℤ) → is_array a ≡ true → list_all fits_i64 a.1 ≡ true → (is_free a.0 ≡ true) × AreCells a.1
array-is a e f =
    let n : ℕ = length a.1 in
    let front : (is_free a.0 && nat_le 1 n) ≡ true = and-left (is_free a.0 && nat_le 1 n) (nat_le n 4096) e in (
      and-left (is_free a.0) (nat_le 1 n) front,
      record {
        some = le-from 1 n (and-right (is_free a.0) (nat_le 1 n) front);
        few = le-from n 4096 (and-right (is_free a.0 && nat_le 1 n) (nat_le n 4096) e);
        numbers = f;
      },
    )

pub items-fit : (format : ℕ) (is : List Item) → AreFit (job_of format is) → AreItems is
items-fit format [] h = tt
items-fit format (AnArray name given cells ∷ is) h =
    let j : JobTree = job_of format is in (
      array-is (name, cells) (and-left (is_array (name, cells)) (list_all is_array j.arrays) h.arrays)
          (and-left (list_all fits_i64 cells) (list_all (λ a. list_all fits_i64 a.1) j.arrays) h.cells),
      items-fit format is (record {
        arrays = and-right (is_array (name, cells)) (list_all is_array j.arrays) h.arrays;
        cells = and-right (list_all fits_i64 cells) (list_all (λ a. list_all fits_i64 a.1) j.arrays) h.cells;
        bodies = h.bodies;
        args = h.args;
      }),
    )
items-fit format (ABody b ∷ is) h =
    let j : JobTree = job_of format is in (
      record { rules = h.bodies.0 },
      items-fit format is (record {
        arrays = h.arrays;
        cells = h.cells;
        bodies = h.bodies.1;
        args = h.args;
      }),
    )
items-fit format (AStart s ∷ is) h =
    let j : JobTree = job_of format is in
    let rest : Bool = list_all (λ s. fits_i64 s.arg) j.starts in (
      and-left (fits_i64 s.arg) rest h.args,
      items-fit format is (record {
        arrays = h.arrays;
        cells = h.cells;
        bodies = h.bodies;
        args = and-right (fits_i64 s.arg) rest h.args;
      }),
    )

-- a job, and items after it
abbrev pub joined : JobTree → JobTree → JobTree
joined k j = record { format = k.format; arrays = k.arrays ++ j.arrays; bodies = k.bodies ++ j.bodies; starts = k.starts ++ j.starts }

joined-nothing : (k : JobTree) → k ≡ joined k (job_of k.format [])
joined-nothing k =
    ap (λ (x : List (Word × List ℤ)). record { format = k.format; arrays = x; bodies = k.bodies; starts = k.starts })
    (sym (append-nil k.arrays))
    ∙ ap (λ (x : List BodyTree). record { format = k.format; arrays = k.arrays ++ []; bodies = x; starts = k.starts })
    (sym (append-nil k.bodies))
    ∙ ap (λ (x : List Start). record { format = k.format; arrays = k.arrays ++ []; bodies = k.bodies ++ []; starts = x })
    (sym (append-nil k.starts))

joined-next : (format : ℕ) (k : JobTree) (i : Item) (is : List Item)
    → joined (put i k) (job_of format is) ≡ joined k (job_of format (i ∷ is))
joined-next format k (AnArray n g c) is =
    let j : JobTree = job_of format is in
    ap
    (λ (x : List (Word × List ℤ)). record { format = k.format; arrays = x; bodies = k.bodies ++ j.bodies; starts = k.starts ++ j.starts })
    (append_assoc k.arrays ((n, c) ∷ []) j.arrays)
joined-next format k (ABody b) is =
    let j : JobTree = job_of format is in
    ap (λ (x : List BodyTree). record { format = k.format; arrays = k.arrays ++ j.arrays; bodies = x; starts = k.starts ++ j.starts })
    (append_assoc k.bodies (b ∷ []) j.bodies)
joined-next format k (AStart s) is =
    let j : JobTree = job_of format is in
    ap (λ (x : List Start). record { format = k.format; arrays = k.arrays ++ j.arrays; bodies = k.bodies ++ j.bodies; starts = x })
    (append_assoc k.starts (s ∷ []) j.starts)

-- distinct names, and few of each kind
pub record IsRoomy (t : JobTree) : Type 0 where
  pub arrays : are_names (array_names t) ≡ true
  pub few_arrays : length t.arrays ≤ 16
  pub bodies : are_names (body_names t) ≡ true
  pub few_bodies : length t.bodies ≤ 64
  pub few_starts : length t.starts ≤ 4096

names-of-arrays : (k j : JobTree) → array_names (joined k j) ≡ array_names k ++ array_names j
names-of-arrays k j = map-append (λ (a : Word × List ℤ). a.0) k.arrays j.arrays

names-of-bodies : (k j : JobTree) → body_names (joined k j) ≡ body_names k ++ body_names j
names-of-bodies k j = map-append (λ (b : BodyTree). b.name) k.bodies j.bodies

module _ (bodies : List Word) (t : JobTree) (good : are_names bodies ≡ true) (roomy : IsRoomy t) where
  arrays-good : (k j : JobTree) → joined k j ≡ t → are_names (array_names k) ≡ true
  arrays-good k j e =
      names-front (array_names k) (array_names j)
      (subst (λ (x : List Word). are_names x ≡ true) (names-of-arrays k j) (subst (λ (x : JobTree). are_names (array_names x) ≡ true) (sym e) roomy.arrays))

  free-array : (format : ℕ) (k : JobTree) (name : Word) (given cells : List ℤ) (is : List Item) → is_free name ≡ true
      → joined k (job_of format (AnArray name given cells ∷ is)) ≡ t
      → IsFreeArray k name
  free-array format k name given cells is free e =
      let j : JobTree = job_of format is in
      let all : are_names (array_names k ++ name ∷ array_names j) ≡ true =
      subst (λ (x : List Word). are_names x ≡ true) (names-of-arrays k (job_of format (AnArray name given cells ∷ is)))
      (subst (λ (x : JobTree). are_names (array_names x) ≡ true) (sym e) roomy.arrays) in
      let few : length (k.arrays ++ (name, cells) ∷ j.arrays) ≤ 16 =
      subst (λ (x : JobTree). length x.arrays ≤ 16) (sym e) roomy.few_arrays in
      let count : length (array_names k) ≡ length k.arrays = length-map k.arrays (λ (a : Word × List ℤ). a.0) in
      record {
        free = free;
        fresh = behind-new (array_names k) name (array_names j) all;
        capacity = omega (arith, length-append k.arrays ((name, cells) ∷ j.arrays));
      }

  free-body : (format : ℕ) (k : JobTree) (b : BodyTree) (is : List Item) → IsLegalBody b → joined k (job_of format (ABody b ∷ is)) ≡ t
      → IsFreeBody k b.name
  free-body format k b is legal e =
      let j : JobTree = job_of format is in
      let all : are_names (body_names k ++ b.name ∷ body_names j) ≡ true =
      subst (λ (x : List Word). are_names x ≡ true) (names-of-bodies k (job_of format (ABody b ∷ is)))
      (subst (λ (x : JobTree). are_names (body_names x) ≡ true) (sym e) roomy.bodies) in
      let few : length (k.bodies ++ b ∷ j.bodies) ≤ 64 = subst (λ (x : JobTree). length x.bodies ≤ 64) (sym e) roomy.few_bodies in
      let count : length (body_names k) ≡ length k.bodies = length-map k.bodies (λ (b : BodyTree). b.name) in
      record {
        free = legal.rules.name;
        fresh = behind-new (body_names k) b.name (body_names j) all;
        capacity = omega (arith, length-append k.bodies (b ∷ j.bodies));
      }

  free-start : (format : ℕ) (k : JobTree) (s : Start) (is : List Item) → joined k (job_of format (AStart s ∷ is)) ≡ t
      → length k.starts < 4096
  free-start format k s is e =
      let j : JobTree = job_of format is in
      let few : length (k.starts ++ s ∷ j.starts) ≤ 4096 = subst (λ (x : JobTree). length x.starts ≤ 4096) (sym e) roomy.few_starts in
      omega (arith, length-append k.starts (s ∷ j.starts))

  -- the lines of items lead from a job to the job with them
  pub items-read : (is : List Item) (k : JobTree) → joined k (job_of k.format is) ≡ t → AreItems is
      → AreSound k.format (array_names k) bodies is
      → Reads bodies (items_lines k.format (array_names k) bodies is) (k, None) (t, None)
  items-read [] k e h s = ap (λ (x : JobTree). (x, None)) (joined-nothing k ∙ e)
  items-read (AnArray name given cells ∷ is) k e h s =
      let k' : JobTree = put (AnArray name given cells) k in
      let named : array_names k' ≡ array_names k ++ name ∷ [] = map-append (λ (a : Word × List ℤ). a.0) k.arrays ((name, cells) ∷ []) in
      let rest : Reads bodies (items_lines k.format (array_names k') bodies is) (k', None) (t, None) =
      items-read is k' (joined-next k.format k (AnArray name given cells) is ∙ e) h.1
      (subst (λ (x : List Word). AreSound k.format x bodies is) (sym named) s.1) in (
        (k', None),
        array-passes bodies k name given cells (free-array k.format k name given cells is h.0.0 e) h.0.1 s.0,
        subst (λ (x : List Word). Reads bodies (items_lines k.format x bodies is) (k', None) (t, None)) named rest,
      )
  items-read (ABody b ∷ is) k e h s =
      reads-append bodies (body_lines k.format (array_names k) bodies b) (items_lines k.format (array_names k) bodies is) (k, None)
      (put (ABody b) k, None) (t, None)
      (body-reads bodies k b (arrays-good k (job_of k.format (ABody b ∷ is)) e) good (free-body k.format k b is h.0 e) h.0 s.0)
      (items-read is (put (ABody b) k) (joined-next k.format k (ABody b) is ∙ e) h.1 s.1)
  items-read (AStart a ∷ is) k e h s = (
    (put (AStart a) k, None),
    start-passes bodies k a good s.0 h.0 (free-start k.format k a is e),
    items-read is (put (AStart a) k) (joined-next k.format k (AStart a) is ∙ e) h.1 s.1,
  )

-- items leave the format
job-format : (format : ℕ) (is : List Item) → (job_of format is).format ≡ format
job-format format [] = refl
job-format format (AnArray name given cells ∷ is) = job-format format is
job-format format (ABody b ∷ is) = job-format format is
job-format format (AStart s ∷ is) = job-format format is

-- a job after nothing of its format
pub joined-none : (format : ℕ) (is : List Item) → joined (no_job format) (job_of format is) ≡ job_of format is
joined-none format is =
    let j : JobTree = job_of format is in
    ap (λ (x : ℕ). record { format = x; arrays = j.arrays; bodies = j.bodies; starts = j.starts }) (sym (job-format format is))
