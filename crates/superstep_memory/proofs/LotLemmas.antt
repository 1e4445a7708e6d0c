-- Single puts and rows of puts, one after another.
use Rattle.std.proofs.Common.{◌≡◌, ℕ, suc, ◌+◌, ◌<◌, Bool, true, false, nat_le, nat_lt, Some, None, slice_get, List, [], ◌∷◌, ◌++◌, length, refl, sym, ap, ◌∙◌, arith, append-nil, append_assoc}
use Rattle.std.specs.Prelude.{ℤ, pos, is_some, not, ◌&&◌, if◌then◌else◌}
use Rattle.std.proofs.lemmas.Bool.Decides.{nat_tests}
use Rattle.std.specs.List.{list_all}
use Rattle.std.proofs.lemmas.List.{length-append}
use Rattle.std.proofs.lemmas.List.Folds.{list_all-append}
use Rattle.superstep_memory.specs.declared.arrays.Put.{Put}
use Rattle.superstep_memory.specs.declared.lots.Lot.{Lot}
use Rattle.superstep_memory.specs.declared.lots.Row.{Row}
use Rattle.superstep_memory.specs.Landing.{landed, is_set, sets}
use Rattle.superstep_memory.specs.Cells.{is_cell, place_of, with_place}
use Rattle.superstep_memory.specs.Rows.{row_puts, with_row}
use Rattle.superstep_memory.specs.Lots.{put_of, puts_by, rows_by, puts_of, rows_after, puts_in, one_if, rows_among}
use Rattle.superstep_memory.proofs.Landed.{landed_none, landed_append}
use Rattle.superstep_memory.proofs.Rows.{sets_row, landed_row}
use Rattle.superstep_memory.proofs.Taken.{one_set}

abbrev Arrays : Type 0
Arrays = List (List ℕ × List ℤ)

both : (a b : Bool) → (a && b) ≡ true → (a ≡ true) × (b ≡ true)
both true b h = (refl, h)
both false b h = cc

-- what each of a lot's puts and of those after it does
pub each_cut : (test : Put → Bool) (rest : List Lot) (left : List Row) (l : Lot) (ls : List Lot) → rest ≡ l ∷ ls
    → list_all test (puts_in rest left) ≡ (list_all test (puts_of l left) && list_all test (puts_in ls (rows_after l left)))
each_cut test rest left l ls cut =
    ap (λ (x : List Lot). list_all test (puts_in x left)) cut ∙ list_all-append test (puts_of l left) (puts_in ls (rows_after l left))

pub first_sets : (rest : List Lot) (left : List Row) (l : Lot) (ls : List Lot) → rest ≡ l ∷ ls → list_all is_set (puts_in rest left) ≡ true
    → list_all is_set (puts_of l left) ≡ true
first_sets rest left l ls cut h =
    (both (list_all is_set (puts_of l left)) (list_all is_set (puts_in ls (rows_after l left))) (sym (each_cut is_set rest left l ls cut) ∙ h)).0

-- a lot in front is written
pub lot_written : {all : Arrays} (xs ys : Arrays) (rest : List Lot) (left later : List Row) (l : Lot) (ls : List Lot) → rest ≡ l ∷ ls
    → ys ≡ landed (puts_of l left) xs
    → later ≡ rows_after l left → (all ≡ landed (puts_in rest left) xs) × (list_all is_set (puts_in rest left) ≡ true)
    → (all ≡ landed (puts_in ls later) ys) × (list_all is_set (puts_in ls later) ≡ true)
lot_written xs ys rest left later l ls cut to after h =
    let rows : puts_in ls (rows_after l left) ≡ puts_in ls later = ap (puts_in ls) (sym after) in
    let rest_set =
    (both (list_all is_set (puts_of l left)) (list_all is_set (puts_in ls (rows_after l left))) (sym (each_cut is_set rest left l ls cut) ∙ h.1)).1 in (
      h.0 ∙ ap (λ (x : List Lot). landed (puts_in x left) xs) cut ∙ landed_append (puts_of l left) (puts_in ls (rows_after l left)) xs
          ∙ (λ i. landed (rows i) (sym to i)),
      ap (list_all is_set) (sym rows) ∙ rest_set,
    )

pub lots_left : {all ys : Arrays} (rest : List Lot) (left : List Row) → length rest ≡ 0 → all ≡ landed (puts_in rest left) ys → ys ≡ all
lots_left {ys = ys} [] left e h = sym (h ∙ landed_none ys)
lots_left (l ∷ ls) left e h = absurd (omega arith)

-- a lot in front is appended
pub lot_copied : (ps qs : List Put) (rest : List Lot) (left later : List Row) (l : Lot) (ls : List Lot) → rest ≡ l ∷ ls
    → qs ≡ ps ++ puts_of l left → later ≡ rows_after l left
    → qs ++ puts_in ls later ≡ ps ++ puts_in rest left
lot_copied ps qs rest left later l ls cut to after =
    (λ i. to i ++ puts_in ls (after i))
    ∙ append_assoc ps (puts_of l left) (puts_in ls (rows_after l left))
    ∙ ap (λ (x : List Lot). ps ++ puts_in x left) (sym cut)

pub none_copied : (ps : List Put) (rest : List Lot) (left : List Row) → length rest ≡ 0 → ps ≡ ps ++ puts_in rest left
none_copied ps [] left e = sym (append-nil ps)
none_copied ps (l ∷ ls) left e = absurd (omega arith)

-- ---- one lot

-- one put that sets is written
pub put_written : (xs ys : Arrays) (l : Lot) (rows : List Row) (q : Put) (to : ℤ) → l.is_row ≡ false → q ≡ put_of l → to ≡ l.value
    → list_all is_set (puts_of l rows) ≡ true
    → ys ≡ with_place xs q.array q.index to → ys ≡ landed (puts_of l rows) xs
put_written xs ys l rows q to single e value sets wrote =
    let cut : puts_of l rows ≡ put_of l ∷ [] = λ i. puts_by (single i) l rows in
    let h = one_set xs (puts_of l rows) (put_of l) [] to cut value (wrote ∙ (λ i. with_place xs (e i).array (e i).index to)) (refl, sets) in
    sym (h.0 ∙ landed_none ys)

-- a row is written
pub row_written : (xs ys : Arrays) (l : Lot) (rows : List Row) (r : Row) (rs : List Row) (vs : List ℤ) → l.is_row ≡ true → rows ≡ r ∷ rs
    → vs ≡ r.values.items
    → ys ≡ with_row xs l.array l.index vs → ys ≡ landed (puts_of l rows) xs
row_written xs ys l rows r rs vs row cut e wrote =
    wrote ∙ ap (with_row xs l.array l.index) e ∙ sym (landed_row xs l.array l.index r.values.items)
    ∙ (λ i. landed (puts_by (sym row i) l (sym cut i)) xs)

pub no_row_written : (xs : Arrays) (l : Lot) (rows : List Row) → l.is_row ≡ true → length rows ≡ 0 → xs ≡ landed (puts_of l rows) xs
no_row_written xs l [] row none = sym (landed_none xs) ∙ (λ i. landed (puts_by (sym row i) l []) xs)
no_row_written xs l (r ∷ rs) row none = absurd (omega arith)

-- a row is to existing cells if it ends within its array
pub row_within : (xs : Arrays) (array first : ℕ) (a : List ℕ × List ℤ) (vs : List ℤ) → slice_get xs array ≡ Some a → 0 < length vs
    → nat_le (first + length vs) (length a.1) ≡ list_all (is_cell xs) (row_puts array first vs)
row_within xs array first a [] e lt = absurd (omega (arith, lt))
row_within xs array first a (v ∷ []) e lt =
    sym ((λ i. is_some (place_of (e i) (pos first)) && true) ∙ by (nat_lt first (length a.1)) refl)
  where
    by : (b : Bool) → nat_lt first (length a.1) ≡ b → (is_some (if b then Some first else None) && true) ≡ nat_le (first + 1) (length a.1)
    by true e = grind (arith, nat_tests)
    by false e = grind (arith, nat_tests)
row_within xs array first a (v ∷ w ∷ vs) e lt =
    sym ((λ i. is_some (place_of (e i) (pos first)) && list_all (is_cell xs) (row_puts array (suc first) (w ∷ vs)))
    ∙ (λ i. is_some (if nat_lt first (length a.1) then Some first else None)
    && sym (row_within xs array (suc first) a (w ∷ vs) e (omega arith)) i)
    ∙ by (nat_lt first (length a.1)) refl)
  where
    by : (b : Bool) → nat_lt first (length a.1) ≡ b
        → (is_some (if b then Some first else None) && nat_le (suc first + length (w ∷ vs)) (length a.1))
        ≡ nat_le (first + length (v ∷ w ∷ vs)) (length a.1)
    by true e = grind (arith, nat_tests)
    by false e = grind (arith, nat_tests)

pub row_nowhere_in : (xs : Arrays) (array first : ℕ) (vs : List ℤ) → slice_get xs array ≡ None → 0 < length vs
    → false ≡ list_all (is_cell xs) (row_puts array first vs)
row_nowhere_in xs array first [] e lt = absurd (omega (arith, lt))
row_nowhere_in xs array first (v ∷ vs) e lt =
    λ i. is_some (place_of (sym e i) (pos first)) && list_all (is_cell xs) (row_puts array (suc first) vs)

-- ---- whether all set

-- one put more
pub sets_more : (ps qs : List Put) (p : Put) (a b : Bool) → qs ≡ ps ++ p ∷ [] → a ≡ list_all is_set ps → b ≡ is_set p
    → (a && b) ≡ list_all is_set qs
sets_more ps qs p a b cut e f =
    (λ i. e i && f i) ∙ ap (λ (t : Bool). list_all is_set ps && t) (and_true (is_set p)) ∙ sym (list_all-append is_set ps (p ∷ []))
    ∙ ap (list_all is_set) (sym cut)
  where
    and_true : (t : Bool) → t ≡ (t && true)
    and_true true = refl
    and_true false = refl

-- one row more
pub sets_row_more : (ps qs : List Put) (array first : ℕ) (vs : List ℤ) (a : Bool) → qs ≡ ps ++ row_puts array first vs
    → a ≡ list_all is_set ps → a ≡ list_all is_set qs
sets_row_more ps qs array first vs a cut e =
    e ∙ and_true (list_all is_set ps) ∙ ap (λ (t : Bool). list_all is_set ps && t) (sym (sets_row array first vs))
    ∙ sym (list_all-append is_set ps (row_puts array first vs)) ∙ ap (list_all is_set) (sym cut)
  where
    and_true : (t : Bool) → t ≡ (t && true)
    and_true true = refl
    and_true false = refl

-- those of both
pub sets_joined : (ps qs rs : List Put) (a b : Bool) → rs ≡ ps ++ qs → a ≡ list_all is_set ps → b ≡ list_all is_set qs
    → (a && b) ≡ list_all is_set rs
sets_joined ps qs rs a b cut e f = (λ i. e i && f i) ∙ sym (list_all-append is_set ps qs) ∙ ap (list_all is_set) (sym cut)

-- ---- joined

pub lots_append : (ls ms : List Lot) (rs ss : List Row) → length rs ≡ rows_among ls
    → puts_in (ls ++ ms) (rs ++ ss) ≡ puts_in ls rs ++ puts_in ms ss
lots_append [] ms [] ss h = refl
lots_append [] ms (r ∷ rs) ss h = absurd (omega (arith, h))
lots_append (l ∷ ls) ms rs ss h = by (λ (qs : List Row) k. lots_append ls ms qs ss k) l.is_row refl rs h
  where
    by : ((qs : List Row) → length qs ≡ rows_among ls → puts_in (ls ++ ms) (qs ++ ss) ≡ puts_in ls qs ++ puts_in ms ss)
        → (b : Bool) → l.is_row ≡ b → (rs : List Row) → length rs ≡ one_if l.is_row + rows_among ls
        → puts_in ((l ∷ ls) ++ ms) (rs ++ ss) ≡ puts_in (l ∷ ls) rs ++ puts_in ms ss
    by more false e rs h =
        let m : length rs ≡ one_if false + rows_among ls = h ∙ ap (λ (b : Bool). one_if b + rows_among ls) e in
        let n : length rs ≡ rows_among ls = omega (arith, m) in
        (λ i. puts_by (e i) l (rs ++ ss) ++ puts_in (ls ++ ms) (rows_by (e i) (rs ++ ss)))
        ∙ ap (λ (ps : List Put). put_of l ∷ ps) (more rs n)
        ∙ (λ i. (puts_by (sym e i) l rs ++ puts_in ls (rows_by (sym e i) rs)) ++ puts_in ms ss)
    by more true e [] h =
        let n : 0 ≡ one_if true + rows_among ls = h ∙ ap (λ (b : Bool). one_if b + rows_among ls) e in absurd (omega (arith, n))
    by more true e (r ∷ rs) h =
        let m : suc (length rs) ≡ one_if true + rows_among ls = h ∙ ap (λ (b : Bool). one_if b + rows_among ls) e in
        let n : length rs ≡ rows_among ls = omega (arith, m) in
        (λ i. puts_by (e i) l (r ∷ rs ++ ss) ++ puts_in (ls ++ ms) (rows_by (e i) (r ∷ rs ++ ss)))
        ∙ ap (λ (ps : List Put). row_puts l.array l.index r.values.items ++ ps) (more rs n)
        ∙ sym (append_assoc (row_puts l.array l.index r.values.items) (puts_in ls rs) (puts_in ms ss))
        ∙ (λ i. (puts_by (sym e i) l (r ∷ rs) ++ puts_in ls (rows_by (sym e i) (r ∷ rs))) ++ puts_in ms ss)

pub rows_append : (ls ms : List Lot) → rows_among (ls ++ ms) ≡ rows_among ls + rows_among ms
rows_append [] ms = omega arith
rows_append (l ∷ ls) ms = let h = rows_append ls ms in omega (arith, h)

-- one put more
pub one_more : (ls : List Lot) (rs : List Row) (l : Lot) (p : Put) → length rs ≡ rows_among ls → put_of l ≡ p → l.is_row ≡ false
    → puts_in (ls ++ l ∷ []) rs ≡ puts_in ls rs ++ p ∷ []
one_more ls rs l p h e single =
    ap (puts_in (ls ++ l ∷ [])) (sym (append-nil rs)) ∙ lots_append ls (l ∷ []) rs [] h
    ∙ ap (λ (ps : List Put). puts_in ls rs ++ ps) ((λ i. puts_by (single i) l [] ++ []) ∙ ap (λ (q : Put). q ∷ []) e)

pub one_more_rows : (ls : List Lot) (l : Lot) → l.is_row ≡ false → rows_among (ls ++ l ∷ []) ≡ rows_among ls
one_more_rows ls l single = let h = rows_append ls (l ∷ []) in let k = ap one_if single in omega (arith, h, k)

-- one row more
pub row_more : (ls : List Lot) (rs : List Row) (l : Lot) (r : Row) → length rs ≡ rows_among ls → l.is_row ≡ true
    → puts_in (ls ++ l ∷ []) (rs ++ r ∷ []) ≡ puts_in ls rs ++ row_puts l.array l.index r.values.items
row_more ls rs l r h row =
    lots_append ls (l ∷ []) rs (r ∷ []) h
    ∙ ap (λ (ps : List Put). puts_in ls rs ++ ps)
    ((λ i. puts_by (row i) l (r ∷ []) ++ []) ∙ append-nil (row_puts l.array l.index r.values.items))

pub row_more_rows : (ls : List Lot) (l : Lot) → l.is_row ≡ true → rows_among (ls ++ l ∷ []) ≡ rows_among ls + 1
row_more_rows ls l row = let h = rows_append ls (l ∷ []) in let k = ap one_if row in omega (arith, h, k)

-- one put more among the lots
pub put_inside : (ls ms : List Lot) (rs : List Row) (l : Lot) (p : Put) → ms ≡ ls ++ l ∷ [] → put_of l ≡ p → l.is_row ≡ false
    → length rs ≡ rows_among ls
    → (puts_in ms rs ≡ puts_in ls rs ++ p ∷ []) × (length rs ≡ rows_among ms)
put_inside ls ms rs l p cut e single h =
    (ap (λ (x : List Lot). puts_in x rs) cut ∙ one_more ls rs l p h e single, h ∙ sym (one_more_rows ls l single) ∙ ap rows_among (sym cut))

-- one row more among the lots
pub row_inside : (ls ms : List Lot) (rs ss : List Row) (l : Lot) (r : Row) (array first : ℕ) → ms ≡ ls ++ l ∷ [] → ss ≡ rs ++ r ∷ []
    → l.is_row ≡ true → l.array ≡ array
    → l.index ≡ first → length rs ≡ rows_among ls
    → (puts_in ms ss ≡ puts_in ls rs ++ row_puts array first r.values.items) × (length ss ≡ rows_among ms)
row_inside ls ms rs ss l r array first cut more row a i h =
    let n = ap length more ∙ length-append rs (r ∷ []) in
    let m = row_more_rows ls l row in
    let k = ap rows_among cut in (
      (λ j. puts_in (cut j) (more j)) ∙ row_more ls rs l r h row ∙ (λ j. puts_in ls rs ++ row_puts (a j) (i j) r.values.items),
      omega (arith, n, m, k, h),
    )

-- the lots of both
pub lots_joined : (ls ms ns : List Lot) (rs ss ts : List Row) → ns ≡ ls ++ ms → ts ≡ rs ++ ss → length rs ≡ rows_among ls
    → length ss ≡ rows_among ms
    → (puts_in ns ts ≡ puts_in ls rs ++ puts_in ms ss) × (length ts ≡ rows_among ns)
lots_joined ls ms ns rs ss ts cut more h k =
    let n = ap length more ∙ length-append rs ss in
    let m = ap rows_among cut ∙ rows_append ls ms in
    ((λ j. puts_in (cut j) (more j)) ∙ lots_append ls ms rs ss h, omega (arith, n, m, h, k))

pub not_true : (b : Bool) → not b ≡ true → b ≡ false
not_true true h = cc
not_true false h = refl

pub not_false : (b : Bool) → not b ≡ false → b ≡ true
not_false true h = refl
not_false false h = cc

pub count_append : (ps qs : List Put) (n k : ℕ) → n ≡ length ps → k ≡ length qs → n + k ≡ length (ps ++ qs)
count_append ps qs n k e f = let h = length-append ps qs in omega (arith, h, e, f)
