-- One value more, cell by cell and row by row.
use Rattle.std.proofs.Common.{◌≡◌, ℕ, zero, suc, ◌+◌, ◌-◌, ◌*◌, ◌<◌, ◌≤◌, Bool, true, false, not, ◌&&◌, nat_lt, List, [], ◌∷◌, ◌++◌, length, get_or, take, drop, refl, sym, ap, subst, ◌∙◌, arith, append_assoc}
use Rattle.std.specs.Prelude.{ℤ, pos, ◌+ℤ◌, Option, Some, None, if◌then◌else◌}
use Rattle.superstep_memory.specs.declared.arrays.PutKind.TheVariants.{Add}
use Rattle.superstep_memory.specs.Landing.{is_over}
use Rattle.task_bodies.specs.declared.cells.Cells.{Cells}
use Rattle.task_bodies.specs.declared.body.Ending.TheVariants.{Fails}
use Rattle.task_bodies.specs.Bodies.{Left}
use Rattle.std.proofs.lemmas.Bool.Decides.{nat_tests}
use Rattle.std.proofs.lemmas.List.{get_or_append_left, length-append, get_or-append-add}
use Rattle.std.proofs.Math.Seq.{get_or-append_seam}
use Rattle.std.proofs.Math.Nat.{suc-mul, zero-mul, mul-le-mul_right}
use Rattle.task_bodies.specs.declared.grid.Window.{Window}
use Rattle.task_bodies.specs.Cells.{AreEach, AreGiven, IsTooLarge, are_there, total, can_be_added}
use Rattle.task_bodies.specs.Board.{HasRow, AreRowsGiven, window_in, window_at, row_at, row_before}

pub each_none : (is : ℕ → ℤ → Type 0) → AreEach is 0 []
each_none is = record { long = refl; each = λ i lt. absurd (omega (arith, lt)) }

pub each_more : (is : ℕ → ℤ → Type 0) (count : ℕ) (values : List ℤ) (v : ℤ) → AreEach is count values → is count v
    → AreEach is (count + 1) (values ++ v ∷ [])
each_more is count values v h new = record {
  long = let l = length-append values (v ∷ []) in omega (arith, l, h.long);
  each = λ i lt. by i lt (nat_lt i count) refl;
}
  where
    by : (i : ℕ) → i < count + 1 → (b : Bool) → nat_lt i count ≡ b → is i (get_or (values ++ v ∷ []) i (pos 0))
    by i lt true e =
        let l : i < count = grind (arith, nat_tests) in
        let m : i < length values = omega (arith, l, h.long) in
        let P : ℤ → Type 0 = λ z. is i z in
        subst P (sym (get_or_append_left values (v ∷ []) (pos 0) i m)) (h.each i l)
    by i lt false e =
        let l : count ≤ i = grind (arith, nat_tests) in
        let same : count ≡ i = omega (arith, l, lt) in
        let last : get_or (values ++ v ∷ []) count (pos 0) ≡ v =
        ap (λ (n : ℕ). get_or (values ++ v ∷ []) n (pos 0)) (sym h.long) ∙ get_or-append_seam values v [] (pos 0) in
        let P : ℤ → Type 0 = λ z. is count z in
        let Q : ℕ → Type 0 = λ n. is n (get_or (values ++ v ∷ []) n (pos 0)) in
        subst Q same (subst P (sym last) new)

-- the cell at this place
pub given_more : (gives : ℤ → ℤ → Type 0) (cells : List ℤ) (first place : ℕ) (values more : List ℤ) (x v : ℤ) → first ≤ place
    → AreGiven gives cells first (place - first) values
    → gives x v → x ≡ get_or cells place (pos 0) → more ≡ values ++ v ∷ [] → AreGiven gives cells first (place + 1 - first) more
given_more gives cells first place values more x v le h new ex eq =
    let at : place ≡ first + (place - first) = omega (arith, le) in
    let up : (place - first) + 1 ≡ place + 1 - first = omega (arith, le) in
    let P : ℤ → Type 0 = λ z. gives z v in
    let R : ℕ → Type 0 = λ n. gives (get_or cells n (pos 0)) v in
    let is : ℕ → ℤ → Type 0 = λ i w. gives (get_or cells (first + i) (pos 0)) w in
    let Q : ℕ → Type 0 = λ n. AreEach is n more in
    let W : List ℤ → Type 0 = λ vs. AreEach is ((place - first) + 1) vs in
    subst Q up (subst W (sym eq) (each_more is (place - first) values v h (subst R at (subst P ex new))))

total_more : (so_far : ℤ) (vs : List ℤ) (v : ℤ) → total so_far (vs ++ v ∷ []) ≡ total so_far vs +ℤ v
total_more so_far [] v = refl
total_more so_far (w ∷ vs) v = total_more (so_far +ℤ w) vs v

-- one more can be added
added_more : (so_far : ℤ) (vs : List ℤ) (v : ℤ) → can_be_added so_far vs ≡ true → is_over Add v (total so_far vs) ≡ false
    → can_be_added so_far (vs ++ v ∷ []) ≡ true
added_more so_far [] v h e = ap (λ (b : Bool). not b && true) e
added_more so_far (w ∷ vs) v h e = by (is_over Add w so_far) h (λ k. added_more (so_far +ℤ w) vs v k e)
  where
    by : (b : Bool) → not b && can_be_added (so_far +ℤ w) vs ≡ true
        → (can_be_added (so_far +ℤ w) vs ≡ true → can_be_added (so_far +ℤ w) (vs ++ v ∷ []) ≡ true)
        → not b && can_be_added (so_far +ℤ w) (vs ++ v ∷ []) ≡ true
    by true k go = k
    by false k go = go k

-- the cells up to this place were added up
pub record IsSummed (gives : ℤ → ℤ → Type 0) (cells : List ℤ) (first place : ℕ) (sum : ℤ) : Type 0 where
  pub values : List ℤ
  pub given : AreGiven gives cells first (place - first) values
  pub within : can_be_added (pos 0) values ≡ true
  pub total : total (pos 0) values ≡ sum

pub summed_none : (gives : ℤ → ℤ → Type 0) (cells : List ℤ) (first place : ℕ) → first ≡ place → IsSummed gives cells first place (pos 0)
summed_none gives cells first place e =
    let z : 0 ≡ place - first = omega (arith, e) in
    let Q : ℕ → Type 0 = λ n. AreGiven gives cells first n [] in
    record { values = []; given = subst Q z (each_none _); within = refl; total = refl }

module _ (gives : ℤ → ℤ → Type 0) (cells : List ℤ) (place : ℕ) (start sum x v w : ℤ) (found : Option ℤ)
    (made : found ≡ (if is_over Add w sum then None else Some (sum +ℤ w))) (new : gives x v) (ex : x ≡ get_or cells place (pos 0))
    (ev : v ≡ w) where
  pub summed_more : (first : ℕ) (more next : ℤ) → first ≤ place → IsSummed gives cells first place start → start ≡ sum → found ≡ Some more
      → more ≡ next → IsSummed gives cells first (place + 1) next
  summed_more first more next le h same some eq = record {
    values = h.values ++ v ∷ [];
    given = given_more gives cells first place h.values (h.values ++ v ∷ []) x v le h.given new ex refl;
    within =
        added_more (pos 0) h.values v h.within
        ((λ i. is_over Add (ev i) ((h.total ∙ same) i)) ∙ none_over (is_over Add w sum) (sym made ∙ some));
    total = total_more (pos 0) h.values v ∙ (λ i. (h.total ∙ same) i +ℤ ev i) ∙ by (is_over Add w sum) (sym made ∙ some) ∙ eq;
  }
    where
      value : Option ℤ → ℤ
      value None = more
      value (Some z) = z

      none_over : (b : Bool) → (if b then None else Some (sum +ℤ w)) ≡ Some more → b ≡ false
      none_over true e = cc
      none_over false e = refl

      by : (b : Bool) → (if b then None else Some (sum +ℤ w)) ≡ Some more → sum +ℤ w ≡ more
      by true e = cc
      by false e = ap value e

  pub too_large : (k : Cells) (o : Left Cells) → k.first ≤ place → IsSummed gives cells k.first place start → start ≡ sum → place < k.end
      → found ≡ None → o.ending ≡ Fails 17 → IsTooLarge gives cells k o
  too_large k o le h same lt none ends =
      let at : place ≡ k.first + (place - k.first) = omega (arith, le) in
      let P : ℤ → Type 0 = λ z. gives z v in
      let R : ℕ → Type 0 = λ n. gives (get_or cells n (pos 0)) v in
      record {
        before = place - k.first;
        values = h.values;
        given = h.given;
        begin = h.within;
        value = v;
        next = subst R at (subst P ex new);
        within = omega (arith, at, lt);
        over = (λ i. is_over Add (ev i) ((h.total ∙ same) i)) ∙ by (is_over Add w sum) (sym made ∙ none);
        ending = ends;
      }
    where
      by : (b : Bool) → (if b then None else Some (sum +ℤ w)) ≡ None → b ≡ true
      by true e = refl
      by false e = cc

-- if all cells exist, no span lacks one
pub all_there : {A : Type 0} (n m : ℕ) (k : Cells) → n ≡ m → are_there n k ≡ true → are_there m k ≡ false → A
all_there n m k e t f = let x : true ≡ false = sym t ∙ ap (λ (i : ℕ). are_there i k) e ∙ f in absurd (differ x)
  where
    differ : true ≡ false → ⊥
    differ h = cc

-- ---- a row

pub row_none : (gives : Window → ℤ → Type 0) (beyond : ℤ) (up own down : List ℤ) (values : List ℤ)
    → HasRow gives beyond up own down 0 values values
row_none gives beyond up own down values = record { row = []; more = sym (append_none values); given = each_none _ }
  where
    append_none : (vs : List ℤ) → vs ++ [] ≡ vs
    append_none [] = refl
    append_none (v ∷ vs) = ap (λ (ws : List ℤ). v ∷ ws) (append_none vs)

pub row_more : (gives : Window → ℤ → Type 0) (beyond : ℤ) (up own down : List ℤ) (place : ℕ) (old values new : List ℤ) (w : Window) (v : ℤ)
    → HasRow gives beyond up own down place old values → w ≡ window_in beyond up own down place → gives w v → new ≡ values ++ v ∷ []
    → HasRow gives beyond up own down (place + 1) old new
row_more gives beyond up own down place old values new w v h e g eq =
    let P : Window → Type 0 = λ x. gives x v in
    record {
      row = h.row ++ v ∷ [];
      more = eq ∙ ap (λ (vs : List ℤ). vs ++ v ∷ []) h.more ∙ append_assoc old h.row (v ∷ []);
      given = each_more (λ column x. gives (window_in beyond up own down column) x) place h.row v h.given (subst P e g);
    }

-- ---- rows

pub rows_none : (gives : Window → ℤ → Type 0) (beyond : ℤ) (cells : List ℤ) (width first count : ℕ) (values : List ℤ) → count ≡ 0
    → values ≡ [] → AreRowsGiven gives beyond cells width first count values
rows_none gives beyond cells width first count values e n = record {
  long = ap length n ∙ sym (zero-mul width) ∙ ap (λ (k : ℕ). k * width) (sym e);
  each = λ row column lt in_row. absurd (omega (arith, lt, e));
}

pub rows_more : (gives : Window → ℤ → Type 0) (beyond : ℤ) (cells : List ℤ) (width first row : ℕ) (up own down : List ℤ)
    (values new : List ℤ)
    → first ≤ row
    → AreRowsGiven gives beyond cells width first (row - first) values
    → up ≡ row_before cells width row → own ≡ row_at cells width row → down ≡ row_at cells width (row + 1)
    → HasRow gives beyond up own down width values new → AreRowsGiven gives beyond cells width first (row + 1 - first) new
rows_more gives beyond cells width first row up own down values new le h eu eo ed r =
    let next : (row - first) + 1 ≡ row + 1 - first = omega (arith, le) in
    let Q : ℕ → Type 0 = λ n. AreRowsGiven gives beyond cells width first n new in
    subst Q next (record { long = long; each = λ k column lt in_row. by k column lt in_row (nat_lt k count) refl })
  where
    count : ℕ
    count = row - first

    long : length new ≡ (row - first + 1) * width
    long =
        let l = ap length r.more ∙ length-append values r.row in
        let m = suc-mul (row - first) width in
        let one : row - first + 1 ≡ suc (row - first) = omega arith in
        let n : length values + length r.row ≡ (row - first) * width + width = (λ i. h.long i + r.given.long i) in
        l ∙ n ∙ sym m ∙ ap (λ (k : ℕ). k * width) (sym one)

    here : (column : ℕ) → column < width → gives (window_at beyond cells width row column) (get_or r.row column (pos 0))
    here column lt =
        let e : window_in beyond up own down column ≡ window_at beyond cells width row column =
        (λ i. window_in beyond (eu i) (eo i) (ed i) column) in
        let P : Window → Type 0 = λ w. gives w (get_or r.row column (pos 0)) in
        subst P e (r.given.each column lt)

    by : (k column : ℕ) → k < row - first + 1 → column < width → (b : Bool) → nat_lt k (row - first) ≡ b
        → gives (window_at beyond cells width (first + k) column) (get_or new (k * width + column) (pos 0))
    by k column lt in_row true e =
        let l : k < row - first = grind (arith, nat_tests) in
        let s : suc k ≤ row - first = omega (arith, l) in
        let m = mul-le-mul_right {m = suc k} {n = row - first} width s in
        let n = suc-mul k width in
        let long = h.long in
        let inside : k * width + column < length values = omega (arith, m, n, long, in_row) in
        let got =
        ap (λ (vs : List ℤ). get_or vs (k * width + column) (pos 0)) r.more
        ∙ get_or_append_left values r.row (pos 0) (k * width + column) inside in
        let P : ℤ → Type 0 = λ z. gives (window_at beyond cells width (first + k) column) z in
        subst P (sym got) (h.each k column l in_row)
    by k column lt in_row false e =
        let l : row - first ≤ k = grind (arith, nat_tests) in
        let same : row - first ≡ k = omega (arith, l, lt) in
        let at : row ≡ first + k = omega (arith, same, le) in
        let place : length values + column ≡ k * width + column = ap (λ (n : ℕ). n + column) (h.long ∙ ap (λ (n : ℕ). n * width) same) in
        let got : get_or new (k * width + column) (pos 0) ≡ get_or r.row column (pos 0) =
        ap (λ (n : ℕ). get_or new n (pos 0)) (sym place) ∙ ap (λ (vs : List ℤ). get_or vs (length values + column) (pos 0)) r.more
        ∙ get_or-append-add values r.row column (pos 0) in
        let P : ℤ → Type 0 = λ z. gives (window_at beyond cells width (first + k) column) z in
        let R : ℕ → Type 0 = λ n. gives (window_at beyond cells width n column) (get_or r.row column (pos 0)) in
        subst P (sym got) (subst R at (here column in_row))

-- the place at which the next row begins
pub next_row : (row at width : ℕ) → at ≡ row * width → at + width ≡ (row + 1) * width
next_row row at width e =
    let one : suc row ≡ row + 1 = omega arith in
    ap (λ (n : ℕ). n + width) e ∙ sym (suc-mul row width) ∙ ap (λ (n : ℕ). n * width) one

-- the row before one that isn't the first
pub above : (cells : List ℤ) (width row at : ℕ) → at ≡ row * width → (row ≡ 0 → ⊥)
    → (width ≤ at) × (take width (drop (at - width) cells) ≡ row_before cells width row)
above cells width zero at e n = absurd (n refl)
above cells width (suc row) at e n =
    let m = suc-mul row width in
    let w : at - width ≡ row * width = omega (arith, e, m) in
    (omega (arith, e, m), ap (λ (k : ℕ). take width (drop k cells)) w)
