-- Distinct names, and locals that are noted in their order.
use Rattle.std.proofs.Common.{
  ◌≡◌,
  ℕ,
  zero,
  suc,
  ◌+◌,
  ◌<◌,
  ◌≤◌,
  Bool,
  true,
  false,
  ◌&&◌,
  List,
  [],
  ◌∷◌,
  ◌++◌,
  length,
  map,
  take,
  Option,
  Some,
  None,
  refl,
  sym,
  ap,
  ◌∙◌,
  arith,
  nat_eq,
}
use Rattle.std.specs.Prelude.{if◌then◌else◌, not, nat_lt, ◌||◌}
use Rattle.std.specs.List.{list_all}
use Rattle.std.specs.Str.{bytes_eq}
use Rattle.std.proofs.lemmas.Bool.{ltb-true}
use Rattle.std.proofs.lemmas.List.{length-take-le}
use Rattle.std.proofs.lemmas.Grind.{common_steps}
use Rattle.task_code.specs.Names.{is_free, is_among, are_names}
use Rattle.task_code.specs.Mentions.{mentioned}
use Rattle.job_reader.specs.Words.{Word, place_from, name_at, noted}
use Rattle.job_reader.proofs.SaidLemmas.{and-true, same-word}
use Rattle.job_reader.proofs.GrowLemmas.{and-left, and-right, noted-grows}
use Rattle.job_reader.proofs.WrittenLemmas.{same-bytes, place-name, not-true, or-left, or-right}
use Rattle.job_reader.proofs.WrittenExprs.{or-true}

false-not : (b : Bool) → b ≡ false → not b ≡ true
false-not true e = absurd cc
false-not false e = refl

pub or-false : (a b : Bool) → a ≡ false → b ≡ false → (a || b) ≡ false
or-false true b e f = absurd cc
or-false false b e f = f

pub or-true-left : (a b : Bool) → a ≡ true → (a || b) ≡ true
or-true-left true b e = refl
or-true-left false b e = absurd cc

-- the first names hold each name in front of their end
pub among-below : (ns : List Word) (k i : ℕ) → i < k → i < length ns → is_among (take k ns) (name_at ns i) ≡ true
among-below [] k i h l = absurd (omega arith)
among-below (n ∷ ns) zero i h l = absurd (omega arith)
among-below (n ∷ ns) (suc k) zero h l = or-true-left (bytes_eq n n) (is_among (take k ns) n) (same-bytes n)
among-below (n ∷ ns) (suc k) (suc i) h l = or-true (bytes_eq n (name_at ns i)) _ (among-below ns k i (omega arith) (omega arith))

first-other : (b : Bool) (k i : ℕ) (o : Option ℕ) → i ≡ suc k → (if b then Some 0 else o) ≡ Some i → b ≡ false
first-other true k i o h e = let same : 0 ≡ i = cc in absurd (omega arith)
first-other false k i o h e = refl

-- and none from their end on
pub among-beyond : (ns : List Word) (k i : ℕ) → are_names ns ≡ true → k ≤ i → i < length ns → is_among (take k ns) (name_at ns i) ≡ false
among-beyond [] k i e h l = absurd (omega arith)
among-beyond (n ∷ ns) zero i e h l = refl
among-beyond (n ∷ ns) (suc k) zero e h l = absurd (omega arith)
among-beyond (n ∷ ns) (suc k) (suc i) e h l =
    or-false (bytes_eq n (name_at ns i)) _
    (first-other (bytes_eq n (name_at ns i)) i (0 + suc i) (place_from 1 ns (name_at ns i)) (omega arith) (place-name 0 (n ∷ ns) (suc i) e l))
    (among-beyond ns k i (and-right _ (are_names ns) e) (omega arith) (omega arith))

pub take-next : (ns : List Word) (k : ℕ) → k < length ns → take k ns ++ name_at ns k ∷ [] ≡ take (suc k) ns
take-next [] k h = absurd (omega arith)
take-next (n ∷ ns) zero h = refl
take-next (n ∷ ns) (suc k) h = ap (λ (x : List Word). n ∷ x) (take-next ns k (omega arith))

pub same-number : (i k : ℕ) → nat_eq i k ≡ true → i ≡ k
same-number i k e = grind (arith, common_steps)

pub turned : (v w : Word) (b : Bool) → bytes_eq w v ≡ b → bytes_eq v w ≡ false → b ≡ false
turned v w true e f =
    let same : bytes_eq v w ≡ true = ap (bytes_eq v) (same-word w v e) ∙ same-bytes v in
    let both : true ≡ false = sym same ∙ f in absurd cc
turned v w false e f = refl

among-put : (ns : List Word) (w n : Word) → is_among ns n ≡ false → bytes_eq w n ≡ false → is_among (ns ++ w ∷ []) n ≡ false
among-put [] w n e f = or-false (bytes_eq w n) false f refl
among-put (m ∷ ns) w n e f =
    or-false (bytes_eq m n) _ (or-left (bytes_eq m n) (is_among ns n) e) (among-put ns w n (or-right (bytes_eq m n) (is_among ns n) e) f)

-- a new name after distinct names
pub names-put : (ns : List Word) (w : Word) → are_names ns ≡ true → is_free w ≡ true → is_among ns w ≡ false
    → are_names (ns ++ w ∷ []) ≡ true
names-put [] w e f g = and-true _ true (and-true _ true f refl) refl
names-put (n ∷ ns) w e f g =
    let head : is_free n && not (is_among ns n) ≡ true = and-left _ (are_names ns) e in
    let other : bytes_eq w n ≡ false = turned n w (bytes_eq w n) refl (or-left (bytes_eq n w) (is_among ns w) g) in
    and-true _ _
    (and-true _ _ (and-left _ (not (is_among ns n)) head) (false-not (is_among (ns ++ w ∷ []) n) (among-put ns w n (not-true (is_among ns n) (and-right (is_free n) _ head)) other)))
    (names-put ns w (and-right (is_free n && not (is_among ns n)) _ e) f (or-right (bytes_eq n w) (is_among ns w) g))

-- the first ones of distinct names
among-front : (ns ms : List Word) (n : Word) → is_among (ns ++ ms) n ≡ false → is_among ns n ≡ false
among-front [] ms n e = refl
among-front (m ∷ ns) ms n e =
    or-false (bytes_eq m n) _ (or-left (bytes_eq m n) (is_among (ns ++ ms) n) e)
    (among-front ns ms n (or-right (bytes_eq m n) (is_among (ns ++ ms) n) e))

pub names-front : (ns ms : List Word) → are_names (ns ++ ms) ≡ true → are_names ns ≡ true
names-front [] ms e = refl
names-front (n ∷ ns) ms e =
    let head : is_free n && not (is_among (ns ++ ms) n) ≡ true = and-left _ (are_names (ns ++ ms)) e in
    and-true _ _
    (and-true _ _ (and-left _ (not (is_among (ns ++ ms) n)) head) (false-not (is_among ns n) (among-front ns ms n (not-true (is_among (ns ++ ms) n) (and-right (is_free n) _ head)))))
    (names-front ns ms (and-right (is_free n && not (is_among (ns ++ ms) n)) _ e))

note-one : (b : Bool) (ns : List Word) (w : Word) → is_among ns w ≡ b → are_names ns ≡ true → is_free w ≡ true
    → are_names (if b then ns else ns ++ w ∷ []) ≡ true
note-one true ns w h e f = e
note-one false ns w h e f = names-put ns w e f h

-- names stay distinct if more are noted
pub names-noted : (ns ws : List Word) → are_names ns ≡ true → list_all is_free ws ≡ true → are_names (noted ns ws) ≡ true
names-noted ns [] e f = e
names-noted ns (w ∷ ws) e f =
    names-noted (if is_among ns w then ns else ns ++ w ∷ []) ws (note-one (is_among ns w) ns w refl e (and-left _ (list_all is_free ws) f))
    (and-right (is_free w) _ f)

name-seam : (ns : List Word) (k : ℕ) (w : Word) (more : List Word) → k ≤ length ns → name_at ((take k ns ++ w ∷ []) ++ more) k ≡ w
name-seam [] zero w more h = refl
name-seam [] (suc k) w more h = absurd (omega arith)
name-seam (n ∷ ns) zero w more h = refl
name-seam (n ∷ ns) (suc k) w more h = name-seam ns k w more (omega arith)

-- a name further on isn't the one after the first ones
apart : (ns : List Word) (k i : ℕ) → are_names ns ≡ true → k < i → i < length ns → name_at ns k ≡ name_at ns i → ⊥
apart ns k i g h l e =
    let yes : is_among (take i ns) (name_at ns k) ≡ true = among-below ns i k h (omega arith) in
    let no : is_among (take i ns) (name_at ns i) ≡ false = among-beyond ns i i g (omega arith) l in
    let both : true ≡ false = sym yes ∙ ap (is_among (take i ns)) e ∙ no in cc

-- What is noted from these locals on is all locals: then the rest mentions them in their order.
abbrev pub IsOrder : List Word → List ℕ → Type 0
IsOrder ns is = (k : ℕ) → k ≤ length ns → noted (take k ns) (map (name_at ns) is) ≡ ns → mentioned k is ≡ Some (length ns)

beyond : (i k : ℕ) → nat_eq i k ≡ false → nat_lt i k ≡ false → k < i
beyond i k e f = grind (arith, common_steps)

one-first : (ns : List Word) (k i : ℕ) (is : List ℕ) (a b : Bool) → are_names ns ≡ true → k ≤ length ns → i < length ns → IsOrder ns is
    → nat_eq i k ≡ a → nat_lt i k ≡ b
    → noted (if is_among (take k ns) (name_at ns i) then take k ns else take k ns ++ name_at ns i ∷ []) (map (name_at ns) is) ≡ ns
    → (if a then mentioned (k + 1) is else if b then mentioned k is else None) ≡ Some (length ns)
one-first ns k i is true b g m below later p q f =
    let same : i ≡ k = same-number i k p in
    let new : is_among (take k ns) (name_at ns i) ≡ false =
    ap (λ (x : ℕ). is_among (take k ns) (name_at ns x)) same ∙ among-beyond ns k k g (omega arith) (omega arith) in
    let more : suc k ≡ k + 1 = omega arith in
    let grown : take k ns ++ name_at ns i ∷ [] ≡ take (k + 1) ns =
    ap (λ (x : ℕ). take k ns ++ name_at ns x ∷ []) same ∙ take-next ns k (omega arith) ∙ ap (λ (x : ℕ). take x ns) more in
    later (k + 1) (omega arith)
    (ap (λ (x : List Word). noted x (map (name_at ns) is)) (sym grown)
    ∙ ap (λ (x : Bool). noted (if x then take k ns else take k ns ++ name_at ns i ∷ []) (map (name_at ns) is)) (sym new) ∙ f)
one-first ns k i is false true g m below later p q f =
    let known : is_among (take k ns) (name_at ns i) ≡ true = among-below ns k i (ltb-true i k q) below in
    later k m (ap (λ (x : Bool). noted (if x then take k ns else take k ns ++ name_at ns i ∷ []) (map (name_at ns) is)) (sym known) ∙ f)
one-first ns k i is false false g m below later p q f =
    let far : k < i = beyond i k p q in
    let new : is_among (take k ns) (name_at ns i) ≡ false = among-beyond ns k i g (omega arith) below in
    let grows = noted-grows (take k ns ++ name_at ns i ∷ []) (map (name_at ns) is) in
    let whole : (take k ns ++ name_at ns i ∷ []) ++ grows.0 ≡ ns =
    sym grows.1 ∙ ap (λ (x : Bool). noted (if x then take k ns else take k ns ++ name_at ns i ∷ []) (map (name_at ns) is)) (sym new) ∙ f in
    absurd (apart ns k i g far below (ap (λ (x : List Word). name_at x k) (sym whole) ∙ name-seam ns k (name_at ns i) grows.0 m))

pub firsts-noted : (ns : List Word) (is : List ℕ) → are_names ns ≡ true → list_all (λ i. nat_lt i (length ns)) is ≡ true → IsOrder ns is
firsts-noted ns [] g h = λ k m e. let same : k ≡ length ns = sym (length-take-le k ns m) ∙ ap (λ (x : List Word). length x) e in
    ap (λ (x : ℕ). Some x) same
firsts-noted ns (i ∷ is) g h =
    λ k m e.
    one-first ns k i is (nat_eq i k) (nat_lt i k) g m (ltb-true i (length ns) (and-left _ (list_all (λ i. nat_lt i (length ns)) is) h))
    (firsts-noted ns is g (and-right (nat_lt i (length ns)) _ h)) refl refl e
