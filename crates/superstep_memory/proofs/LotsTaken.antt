-- Single puts and rows of puts, taken one after another and given back.
use Rattle.std.proofs.Common.{◌≡◌, ℕ, zero, suc, ◌+◌, ◌-◌, ◌<◌, ◌≤◌, true, false, List, [], ◌∷◌, ◌++◌, length, take, refl, sym, ap, ◌∙◌, subst, arith, append-nil, append_assoc}
use Rattle.std.specs.Prelude.{ℤ, drop}
use Rattle.std.specs.List.{list_all}
use Rattle.std.proofs.lemmas.List.{length-append}
use Rattle.superstep_memory.specs.declared.arrays.PutKind.TheVariants.{Set}
use Rattle.superstep_memory.specs.declared.arrays.Put.{Put}
use Rattle.superstep_memory.specs.declared.lots.Lot.{Lot}
use Rattle.superstep_memory.specs.declared.lots.Row.{Row}
use Rattle.superstep_memory.specs.Cells.{value_at, with_place, with_cell}
use Rattle.superstep_memory.specs.Landing.{landed, is_set, over_in}
use Rattle.superstep_memory.specs.Rows.{row_puts, AreSideBySide}
use Rattle.superstep_memory.specs.Lots.{put_of, puts_by, rows_by, puts_in, one_if, rows_among}
use Rattle.superstep_memory.specs.Taken.{before_each, HasTaken, HasBegun, HasTakenMore, HasBegunMore}
use Rattle.superstep_memory.proofs.Landed.{landed_none, landed_one, landed_append, landed_more}
use Rattle.superstep_memory.proofs.Over.{first_of, over_append, sets_fit}
use Rattle.superstep_memory.proofs.Taken.{IsTaking, taken_more, begins, begun_count, given_back}
use Rattle.superstep_memory.proofs.Rows.{row_count}
use Rattle.superstep_memory.proofs.LotLemmas.{lots_append, rows_append}

abbrev Arrays : Type 0
Arrays = List (List ℕ × List ℤ)

before_append : (ps qs : List Put) (xs : Arrays) → before_each (ps ++ qs) xs ≡ before_each ps xs ++ before_each qs (landed ps xs)
before_append [] qs xs = ap (before_each qs) (sym (landed_none xs))
before_append (p ∷ ps) qs xs =
    ap (λ (vs : List ℤ). value_at xs p.array p.index ∷ vs)
    (before_append ps qs (with_cell xs p)
    ∙ ap (λ (ys : Arrays). before_each ps (with_cell xs p) ++ before_each qs ys) (sym (landed_one p ps xs)))

-- ---- a row

-- the first cells of a row are taken, and these values are left
pub record IsTakingRow (array first : ℕ) (values : List ℤ) (place : ℕ) (rest olds more : List ℤ) (xs ys : Arrays) : Type 0 where
  pub front : List Put
  pub cut : row_puts array first values ≡ front ++ row_puts array place rest
  pub taken : HasTakenMore front olds more xs ys

pub row_none_taken : (array first : ℕ) (values olds : List ℤ) (xs : Arrays) → IsTakingRow array first values first values olds olds xs xs
row_none_taken array first values olds xs = record {
  front = [];
  cut = refl;
  taken = record { arrays = sym (landed_none xs); held = sym (append-nil olds) };
}

pub row_one_taken : {array first place next : ℕ} {values rest after olds so_far more : List ℤ} {xs ys zs : Arrays} (was_at to_at : ℕ)
    (v old kept to : ℤ)
    → IsTakingRow array first values place rest olds so_far xs ys → rest ≡ v ∷ after → was_at ≡ array → to_at ≡ array
    → old ≡ value_at ys was_at place → kept ≡ old → to ≡ v → next ≡ place + 1
    → more ≡ so_far ++ kept ∷ [] → zs ≡ with_place ys to_at place to → IsTakingRow array first values next after olds more xs zs
row_one_taken {array =
    array} {first =
    first} {place =
    place} {next =
    next} {values = values} {rest = rest} {after = after} {olds = olds} {so_far = so_far} {more = more} {xs = xs} {ys = ys} {zs = zs}
    was_at to_at v old kept to h cut wa ta was keeps writes step pushed wrote =
    let p : Put = record { array = array; index = place; kind = Set; value = v } in
    let up : suc place ≡ next = omega (arith, step) in
    let held : kept ≡ value_at (landed h.front xs) array place = keeps ∙ was ∙ (λ i. value_at (h.taken.arrays i) (wa i) place) in
    record {
      front = h.front ++ p ∷ [];
      cut =
          h.cut ∙ ap (λ (vs : List ℤ). h.front ++ row_puts array place vs) cut
          ∙ (λ i. h.front ++ p ∷ row_puts array (up i) after)
          ∙ sym (append_assoc h.front (p ∷ []) (row_puts array next after));
      taken = record {
        arrays =
            wrote ∙ (λ i. with_place (h.taken.arrays i) (ta i) place (writes i))
            ∙ sym (landed_more h.front p xs);
        held =
            pushed ∙ (λ i. h.taken.held i ++ held i ∷ [])
            ∙ append_assoc olds (before_each h.front xs) (value_at (landed h.front xs) array place ∷ [])
            ∙ ap (λ (vs : List ℤ). olds ++ vs) (sym (taken_more h.front p xs));
      };
    }

pub row_begun : {array first place : ℕ} {values rest olds more : List ℤ} {xs ys : Arrays}
    → IsTakingRow array first values place rest olds more xs ys
    → HasBegunMore (row_puts array first values) olds more xs ys
row_begun {array = array} {place = place} {rest = rest} h =
    record { front = h.front; back = row_puts array place rest; cut = h.cut; taken = h.taken }

pub row_taken : {array first place : ℕ} {values olds more : List ℤ} {xs ys : Arrays} (rest : List ℤ) → length rest ≡ 0
    → IsTakingRow array first values place rest olds more xs ys
    → HasTakenMore (row_puts array first values) olds more xs ys
row_taken {array = array} {first = first} {values = values} {olds = olds} {more = more} {xs = xs} {ys = ys} [] e h =
    subst (λ (ps : List Put). HasTakenMore ps olds more xs ys) (sym (h.cut ∙ append-nil h.front)) h.taken
row_taken (v ∷ rest) e h = absurd (omega arith)

-- ---- lots

-- a row among other puts is taken
pub taking_row : {puts rest back : List Put} {place next : ℕ} {olds more : List ℤ} {xs ys zs : Arrays} (ps : List Put)
    → IsTaking puts place rest olds xs ys
    → rest ≡ ps ++ back → list_all is_set ps ≡ true → next ≡ place + length ps → HasTakenMore ps olds more ys zs
    → IsTaking puts next back more xs zs
taking_row {puts = puts} {rest = rest} {back = back} {place = place} {next = next} {olds = olds} {more = more} {xs = xs} {ys = ys} {zs = zs}
    ps h e sets step t =
    let count = length-append h.front ps in
    record {
      front = h.front ++ ps;
      cut = h.cut ∙ ap (λ (qs : List Put). h.front ++ qs) e ∙ sym (append_assoc h.front ps back);
      count = omega (arith, count, h.count, step);
      taken = record {
        arrays = t.arrays ∙ ap (landed ps) h.taken.arrays ∙ sym (landed_append h.front ps xs);
        held =
            t.held ∙ (λ i. h.taken.held i ++ before_each ps (h.taken.arrays i))
            ∙ sym (before_append h.front ps xs);
      };
      over =
          h.over ∙ ap (over_in xs h.front place) e
          ∙ over_append xs h.front place ps back
          ∙ (λ i. first_of (sets_fit xs h.front place ps sets i) (over_in xs (h.front ++ ps) (sym step i) back));
    }

-- a row among other puts is begun
pub begun_row : {puts rest : List Put} {place : ℕ} {olds more : List ℤ} {xs ys zs : Arrays} (ps back : List Put)
    → IsTaking puts place rest olds xs ys
    → rest ≡ ps ++ back → HasBegunMore ps olds more ys zs → HasBegun puts more xs zs
begun_row {puts = puts} {rest = rest} {xs = xs} ps back h e t = record {
  front = h.front ++ t.front;
  back = t.back ++ back;
  cut =
      h.cut ∙ ap (λ (qs : List Put). h.front ++ qs) (e ∙ ap (λ (qs : List Put). qs ++ back) t.cut ∙ append_assoc t.front t.back back)
      ∙ sym (append_assoc h.front t.front (t.back ++ back));
  taken = record {
    arrays = t.taken.arrays ∙ ap (landed t.front) h.taken.arrays ∙ sym (landed_append h.front t.front xs);
    held = t.taken.held ∙ (λ i. h.taken.held i ++ before_each t.front (h.taken.arrays i)) ∙ sym (before_append h.front t.front xs);
  };
}

-- this many are left
pub taking_count : {puts rest : List Put} {place : ℕ} {olds : List ℤ} {xs ys : Arrays} → IsTaking puts place rest olds xs ys
    → length puts ≡ place + length rest
taking_count {rest = rest} h = let c = ap length h.cut in let l = length-append h.front rest in omega (arith, c, l, h.count)

-- the puts of a lot in front, and those after it
pub lot_row : (rest : List Lot) (left : List Row) (l : Lot) (ls : List Lot) (r : Row) (rs : List Row) (vs : List ℤ) → rest ≡ l ∷ ls
    → l.is_row ≡ true → left ≡ r ∷ rs
    → vs ≡ r.values.items → puts_in rest left ≡ row_puts l.array l.index vs ++ puts_in ls rs
lot_row rest left l ls r rs vs cut row rows e =
    (λ i. puts_in (cut i) (rows i)) ∙ (λ i. puts_by (row i) l (r ∷ rs) ++ puts_in ls (rows_by (row i) (r ∷ rs)))
    ∙ ap (λ (ws : List ℤ). row_puts l.array l.index ws ++ puts_in ls rs) (sym e)

pub lot_one : (rest : List Lot) (left : List Row) (l : Lot) (ls : List Lot) → rest ≡ l ∷ ls → l.is_row ≡ false
    → puts_in rest left ≡ put_of l ∷ puts_in ls left
lot_one rest left l ls cut single =
    ap (λ (x : List Lot). puts_in x left) cut ∙ (λ i. puts_by (single i) l left ++ puts_in ls (rows_by (single i) left))

pub none_in : (rest : List Lot) (left : List Row) → length rest ≡ 0 → length (puts_in rest left) ≡ 0
none_in [] left e = refl
none_in (l ∷ ls) left e = absurd (omega arith)

-- ---- back again

-- the last lot is a row
pub last_row : (rest : List Lot) (left : List Row) (ls : List Lot) (l : Lot) (rs : List Row) (r : Row) → rest ≡ ls ++ l ∷ []
    → left ≡ rs ++ r ∷ [] → l.is_row ≡ true
    → length left ≡ rows_among rest
    → (length rs ≡ rows_among ls) × (puts_in rest left ≡ puts_in ls rs ++ row_puts l.array l.index r.values.items)
last_row rest left ls l rs r cut rows row count =
    let a = ap rows_among cut ∙ rows_append ls (l ∷ []) in
    let b = ap length rows ∙ length-append rs (r ∷ []) in
    let k = ap one_if row in
    let n : length rs ≡ rows_among ls = omega (arith, a, b, k, count) in (
      n,
      (λ i. puts_in (cut i) (rows i)) ∙ lots_append ls (l ∷ []) rs (r ∷ []) n
          ∙ ap (λ (ps : List Put). puts_in ls rs ++ ps)
          ((λ i. puts_by (row i) l (r ∷ []) ++ []) ∙ append-nil (row_puts l.array l.index r.values.items)),
    )

-- the last lot is one put
pub last_one : (rest : List Lot) (left : List Row) (ls : List Lot) (l : Lot) → rest ≡ ls ++ l ∷ [] → l.is_row ≡ false
    → length left ≡ rows_among rest
    → (length left ≡ rows_among ls) × (puts_in rest left ≡ puts_in ls left ++ put_of l ∷ [])
last_one rest left ls l cut single count =
    let a = ap rows_among cut ∙ rows_append ls (l ∷ []) in
    let k = ap one_if single in
    let n : length left ≡ rows_among ls = omega (arith, a, k, count) in (
      n,
      (λ i. puts_in (cut i) (sym (append-nil left) i)) ∙ lots_append ls (l ∷ []) left [] n
          ∙ ap (λ (ps : List Put). puts_in ls left ++ ps) (λ i. puts_by (single i) l [] ++ []),
    )

pub side_row : (array first : ℕ) (vs : List ℤ) → AreSideBySide array first (row_puts array first vs)
side_row array first [] = tt
side_row array first (v ∷ vs) = (refl, refl, side_row array (suc first) vs)

-- what is before the last lot, which has these puts
pub record IsBeforeLast (rest : List Lot) (left : List Row) (ls : List Lot) (l : Lot) (kept : List Row) (now : ℕ) : Type 0 where
  pub puts : List Put
  pub side : AreSideBySide l.array l.index puts
  pub whole : puts_in rest left ≡ puts_in ls kept ++ puts
  pub count : now ≡ length (puts_in ls kept)
  pub rows : length kept ≡ rows_among ls

-- the last lot is a row
pub before_row : (rest : List Lot) (left : List Row) (ls : List Lot) (l : Lot) (rs : List Row) (r : Row) (before len : ℕ)
    → rest ≡ ls ++ l ∷ [] → left ≡ rs ++ r ∷ [] → l.is_row ≡ true
    → length left ≡ rows_among rest → before ≡ length (puts_in rest left) → len ≡ length r.values.items
    → (len ≤ before) × IsBeforeLast rest left ls l rs (before - len)
before_row rest left ls l rs r before len cut rows row count n m =
    let h = last_row rest left ls l rs r cut rows row count in
    let k = ap length h.1 ∙ length-append (puts_in ls rs) (row_puts l.array l.index r.values.items) in
    let c = row_count l.array l.index r.values.items in (
      omega (arith, k, c, n, m),
      record {
        puts = row_puts l.array l.index r.values.items;
        side = side_row l.array l.index r.values.items;
        whole = h.1;
        count = omega (arith, k, c, n, m);
        rows = h.0;
      },
    )

-- the last lot is one put
pub before_one : (rest : List Lot) (left : List Row) (ls : List Lot) (l : Lot) (before : ℕ) → rest ≡ ls ++ l ∷ [] → l.is_row ≡ false
    → length left ≡ rows_among rest → before ≡ length (puts_in rest left)
    → (1 ≤ before) × IsBeforeLast rest left ls l left (before - 1)
before_one rest left ls l before cut single count n =
    let h = last_one rest left ls l cut single count in
    let k = ap length h.1 ∙ length-append (puts_in ls left) (put_of l ∷ []) in (
      omega (arith, k, n),
      record {
        puts = put_of l ∷ [];
        side = (refl, refl, tt);
        whole = h.1;
        count = omega (arith, k, n);
        rows = h.0;
      },
    )

-- a lot that is a row has one
pub has_row : (rest ls : List Lot) (l : Lot) (left : List Row) → rest ≡ ls ++ l ∷ [] → l.is_row ≡ true → length left ≡ rows_among rest
    → length left ≡ 0 → ⊥
has_row rest ls l left cut row count none =
    let a = ap rows_among cut ∙ rows_append ls (l ∷ []) in let k = ap one_if row in omega (arith, a, k, count, none)

record IsCutAt (ps : List Put) (k : ℕ) : Type 0 where
  before : List Put
  put : Put
  after : List Put
  cut : ps ≡ before ++ put ∷ after
  count : length before ≡ k

cut_at : (ps : List Put) (k : ℕ) → k < length ps → IsCutAt ps k
cut_at [] k lt = absurd (omega (arith, lt))
cut_at (p ∷ ps) zero lt = record { before = []; put = p; after = ps; cut = refl; count = refl }
cut_at (p ∷ ps) (suc k) lt =
    let c = cut_at ps k (omega (arith, lt)) in
    record { before = p ∷ c.before; put = c.put; after = c.after; cut = ap (λ (qs : List Put). p ∷ qs) c.cut; count = ap suc c.count }

take_front : (fs bs : List Put) → take (length fs) (fs ++ bs) ≡ fs
take_front [] bs = refl
take_front (f ∷ fs) bs = ap (λ (cs : List Put). f ∷ cs) (take_front fs bs)

take_all : (fs bs : List Put) (n : ℕ) → n ≡ length fs → take n (fs ++ bs) ≡ fs
take_all fs bs n e = ap (λ (k : ℕ). take k (fs ++ bs)) e ∙ take_front fs bs

-- the last put that was taken is given back
pub given_back_in : (front ps : List Put) {all olds : List ℤ} {xs ys zs : Arrays} (array first to_at place : ℕ) (old to : ℤ)
    → AreSideBySide array first ps
    → HasBegun (front ++ ps) all xs ys → length front ≤ length olds → all ≡ olds ++ old ∷ [] → place ≡ first + (length olds - length front)
    → to ≡ old
    → to_at ≡ array → zs ≡ with_place ys to_at place to → HasBegun (front ++ ps) olds xs zs
given_back_in front ps {all = all} {olds = olds} {xs = xs} {ys = ys} {zs = zs} array first to_at place old to side h le e at same ta wrote =
    let t = begins h in
    let n : length all ≡ length olds + 1 = ap length e ∙ length-append olds (old ∷ []) in
    let m = begun_count h in
    let l = length-append front ps in
    let c = cut_at ps (length olds - length front) (omega (arith, n, m, l, le)) in
    let whole : front ++ ps ≡ ((front ++ c.before) ++ c.put ∷ []) ++ c.after =
    ap (λ (qs : List Put). front ++ qs) c.cut ∙ sym (append_assoc front c.before (c.put ∷ c.after))
    ∙ sym (append_assoc (front ++ c.before) (c.put ∷ []) c.after) in
    let fl = length-append front c.before in
    let fp = length-append (front ++ c.before) (c.put ∷ []) in
    let taken : take (length all) (front ++ ps) ≡ (front ++ c.before) ++ c.put ∷ [] =
    ap (take (length all)) whole
    ∙ take_all ((front ++ c.before) ++ c.put ∷ []) c.after (length all) (omega (arith, n, fl, fp, c.count, le)) in
    let s = sides array first c.before c.put c.after (subst (AreSideBySide array first) c.cut side) in
    let index : place ≡ c.put.index = let i = s.1 in omega (arith, at, i, c.count) in
    let b = given_back c.put old to t taken e same (wrote ∙ (λ i. with_place ys ((ta ∙ sym s.0) i) (index i) to)) in
    record {
      front = front ++ c.before;
      back = c.put ∷ c.after;
      cut = ap (λ (qs : List Put). front ++ qs) c.cut ∙ sym (append_assoc front c.before (c.put ∷ c.after));
      taken = b;
    }
  where
    sides : (array first : ℕ) (fs : List Put) (p : Put) (bs : List Put) → AreSideBySide array first (fs ++ p ∷ bs)
        → (p.array ≡ array) × (p.index ≡ first + length fs)
    sides array first [] p bs h = (h.0, (let e = h.1 in omega (arith, e)))
    sides array first (q ∷ fs) p bs h = let r = sides array (suc first) fs p bs h.2 in let e = r.1 in (r.0, omega (arith, e))

-- fewer are taken, as the front is long enough
pub begun_front : (front ps : List Put) {olds : List ℤ} {xs ys : Arrays} → HasBegun (front ++ ps) olds xs ys → length olds ≤ length front
    → HasBegun front olds xs ys
begun_front front ps {olds = olds} {xs = xs} {ys = ys} h le =
    let t = begins h in
    let e : take (length olds) (front ++ ps) ≡ take (length olds) front = take_in (length olds) front ps le in
    record {
      front = take (length olds) front;
      back = drop (length olds) front;
      cut = sym (take_drop (length olds) front);
      taken = subst (λ (qs : List Put). HasTaken qs olds xs ys) e t;
    }
  where
    take_in : (n : ℕ) (fs bs : List Put) → n ≤ length fs → take n (fs ++ bs) ≡ take n fs
    take_in zero fs bs le = refl
    take_in (suc n) [] bs le = absurd (omega (arith, le))
    take_in (suc n) (f ∷ fs) bs le = ap (λ (cs : List Put). f ∷ cs) (take_in n fs bs (omega (arith, le)))

    take_drop : (n : ℕ) (fs : List Put) → take n fs ++ drop n fs ≡ fs
    take_drop zero fs = refl
    take_drop (suc n) [] = refl
    take_drop (suc n) (f ∷ fs) = ap (λ (cs : List Put). f ∷ cs) (take_drop n fs)

pub nothing_begun : (rest : List Put) {olds : List ℤ} {xs ys : Arrays} → length rest ≡ 0 → HasBegun rest olds xs ys → ys ≡ xs
nothing_begun [] {xs = xs} e h = by h.front h.back h.cut h.taken.arrays
  where
    by : (front back : List Put) → [] ≡ front ++ back → {ys : Arrays} → ys ≡ landed front xs → ys ≡ xs
    by [] back c e = e ∙ landed_none xs
    by (p ∷ front) back c e = absurd (let k = ap length c in omega (arith, k))
nothing_begun (p ∷ rest) e h = absurd (omega arith)
