-- What bodies and kernels leave, worked out.
use Rattle.std.proofs.Common.{◌≡◌, ℕ, zero, suc, ◌+◌, ◌<◌, Bool, true, false, not, ◌&&◌, List, [], ◌∷◌, length, get_or, inl, inr, refl, sym, ap, subst, ◌∙◌, arith}
use Rattle.std.specs.Prelude.{ℤ, pos, negsuc, ◌+ℤ◌, ◌⊎◌}
use Rattle.superstep_memory.specs.declared.arrays.PutKind.TheVariants.{Add}
use Rattle.superstep_memory.specs.Landing.{is_over}
use Rattle.superstep_memory.specs.Rows.{row_puts}
use Rattle.task_bodies.specs.declared.body.Ending.TheVariants.{Syncs, Stops, Fails}
use Rattle.task_bodies.specs.declared.kernel.Span.{Span}
use Rattle.task_bodies.specs.declared.cells.Cells.{Cells}
use Rattle.task_bodies.specs.declared.grid.BoardRows.{BoardRows}
use Rattle.task_bodies.specs.declared.grid.Window.{Window}
use Rattle.task_bodies.specs.Bodies.{Left, cells_in}
use Rattle.task_bodies.specs.Kernels.{IsStencilled, StencilMay}
use Rattle.task_bodies.specs.Cells.{IsMapping, IsSum, IsTooLarge, ReduceMay, total, can_be_added}
use Rattle.task_bodies.specs.Board.{IsGridded}
use Rattle.task_bodies.specs.Worked.{set_to, same, minus, digits, twice, sum, span, middle, inner, two_cells, BodiesAreWorkedOut, KernelsAreWorkedOut}

pub bodies_are_worked_out : BodiesAreWorkedOut
bodies_are_worked_out = record {
  last_cell = refl;
  no_cell = refl;
  no_array = refl;
  deepest = refl;
  too_deep = refl;
  nothing_deeper = refl;
  most = refl;
  too_many = refl;
  both = refl;
  goes_on = refl;
  stops = refl;
  faults = refl;
  fails = refl;
}

abbrev cells : List ℤ
cells = pos 10 ∷ pos 20 ∷ pos 40 ∷ pos 80 ∷ []

differ : {A : Type 0} → false ≡ true → A
differ h = absurd (by h)
  where
    by : false ≡ true → ⊥
    by e = cc

stencil_of : (o : Left Span) → IsStencilled minus 0 5 cells 4 span o
    → o ≡ record { kept = span; puts = set_to 0 1 (negsuc 29) ∷ set_to 0 2 (negsuc 59) ∷ []; prints = []; spawns = []; ending = Syncs }
stencil_of o h = by h.values refl
  where
    made : h.values ≡ negsuc 29 ∷ negsuc 59 ∷ []
        → o ≡ record { kept = span; puts = set_to 0 1 (negsuc 29) ∷ set_to 0 2 (negsuc 59) ∷ []; prints = []; spawns = []; ending = Syncs }
    made e =
        λ i.
        record { kept = h.kept i; puts = (h.puts ∙ ap (row_puts 0 1) e) i; prints = h.prints i; spawns = h.spawns i; ending = h.ending i }

    long : length h.values ≡ 2
    long = h.mapped.long

    by : (vs : List ℤ) → h.values ≡ vs
        → o ≡ record { kept = span; puts = set_to 0 1 (negsuc 29) ∷ set_to 0 2 (negsuc 59) ∷ []; prints = []; spawns = []; ending = Syncs }
    by [] e = let l = sym (ap length e) ∙ long in absurd (omega (arith, l))
    by (a ∷ []) e = let l = sym (ap length e) ∙ long in absurd (omega (arith, l))
    by (a ∷ b ∷ []) e =
        let one : a ≡ negsuc 29 = ap (λ (vs : List ℤ). get_or vs 0 (pos 0)) (sym e) ∙ h.mapped.each 0 (omega arith) in
        let two : b ≡ negsuc 59 = ap (λ (vs : List ℤ). get_or vs 1 (pos 0)) (sym e) ∙ h.mapped.each 1 (omega arith) in
        made (e ∙ (λ i. one i ∷ two i ∷ []))
    by (a ∷ b ∷ c ∷ vs) e = let l = sym (ap length e) ∙ long in absurd (omega (arith, l))

abbrev nine : List ℤ
nine = pos 1 ∷ pos 2 ∷ pos 3 ∷ pos 4 ∷ pos 5 ∷ pos 6 ∷ pos 7 ∷ pos 8 ∷ pos 9 ∷ []

abbrev row_left : Left BoardRows
row_left =
    record {
      kept = middle;
      puts = set_to 1 3 (pos 80711050411020111) ∷ set_to 1 4 (pos 90807060504030201) ∷ set_to 1 5 (pos 110908110605110302) ∷ [];
      prints = [];
      spawns = [];
      ending = Syncs;
    }

row_of : (o : Left BoardRows) → IsGridded digits 1 3 (pos 11) 5 nine 4 middle o → o ≡ row_left
row_of o h = by h.values refl
  where
    made : h.values ≡ pos 80711050411020111 ∷ pos 90807060504030201 ∷ pos 110908110605110302 ∷ [] → o ≡ row_left
    made e =
        λ i.
        record { kept = h.kept i; puts = (h.puts ∙ ap (row_puts 1 3) e) i; prints = h.prints i; spawns = h.spawns i; ending = h.ending i }

    long : length h.values ≡ 3
    long = h.given.long

    by : (vs : List ℤ) → h.values ≡ vs → o ≡ row_left
    by [] e = let l = sym (ap length e) ∙ long in absurd (omega (arith, l))
    by (a ∷ []) e = let l = sym (ap length e) ∙ long in absurd (omega (arith, l))
    by (a ∷ b ∷ []) e = let l = sym (ap length e) ∙ long in absurd (omega (arith, l))
    by (a ∷ b ∷ c ∷ []) e =
        let one : a ≡ pos 80711050411020111 =
        ap (λ (vs : List ℤ). get_or vs 0 (pos 0)) (sym e) ∙ h.given.each 0 0 (omega arith) (omega arith) in
        let two : b ≡ pos 90807060504030201 =
        ap (λ (vs : List ℤ). get_or vs 1 (pos 0)) (sym e) ∙ h.given.each 0 1 (omega arith) (omega arith) in
        let three : c ≡ pos 110908110605110302 =
        ap (λ (vs : List ℤ). get_or vs 2 (pos 0)) (sym e) ∙ h.given.each 0 2 (omega arith) (omega arith) in
        made (e ∙ (λ i. one i ∷ two i ∷ three i ∷ []))
    by (a ∷ b ∷ c ∷ d ∷ vs) e = let l = sym (ap length e) ∙ long in absurd (omega (arith, l))

abbrev map_left : Left Cells
map_left = record { kept = inner; puts = set_to 1 1 (pos 40) ∷ set_to 1 2 (pos 80) ∷ []; prints = []; spawns = []; ending = Stops }

map_of : (o : Left Cells) → IsMapping twice 1 5 cells 5 inner o → o ≡ map_left
map_of o h = by h.values refl
  where
    made : h.values ≡ pos 40 ∷ pos 80 ∷ [] → o ≡ map_left
    made e =
        λ i.
        record { kept = h.kept i; puts = (h.puts ∙ ap (row_puts 1 1) e) i; prints = h.prints i; spawns = h.spawns i; ending = h.ending i }

    long : length h.values ≡ 2
    long = h.given.long

    by : (vs : List ℤ) → h.values ≡ vs → o ≡ map_left
    by [] e = let l = sym (ap length e) ∙ long in absurd (omega (arith, l))
    by (a ∷ []) e = let l = sym (ap length e) ∙ long in absurd (omega (arith, l))
    by (a ∷ b ∷ []) e =
        let one : a ≡ pos 40 = ap (λ (vs : List ℤ). get_or vs 0 (pos 0)) (sym e) ∙ h.given.each 0 (omega arith) in
        let two : b ≡ pos 80 = ap (λ (vs : List ℤ). get_or vs 1 (pos 0)) (sym e) ∙ h.given.each 1 (omega arith) in
        made (e ∙ (λ i. one i ∷ two i ∷ []))
    by (a ∷ b ∷ c ∷ vs) e = let l = sym (ap length e) ∙ long in absurd (omega (arith, l))

-- two cells of which the first holds this
module _ (x : ℤ) where
  abbrev these : List ℤ
  these = x ∷ pos 1 ∷ pos 2 ∷ []

  -- their sum, if it is made
  summed : (o : Left Cells) (h : IsSum same 1 3 these two_cells o)
      → (can_be_added (pos 0) (x ∷ pos 1 ∷ []) ≡ true) × (o ≡ sum (total (pos 0) (x ∷ pos 1 ∷ [])))
  summed o h = by h.values refl
    where
      long : length h.values ≡ 2
      long = h.given.long

      by : (vs : List ℤ) → h.values ≡ vs → (can_be_added (pos 0) (x ∷ pos 1 ∷ []) ≡ true) × (o ≡ sum (total (pos 0) (x ∷ pos 1 ∷ [])))
      by [] e = let l = sym (ap length e) ∙ long in absurd (omega (arith, l))
      by (a ∷ []) e = let l = sym (ap length e) ∙ long in absurd (omega (arith, l))
      by (a ∷ b ∷ []) e =
          let P : List ℤ → Type 0 = λ vs. get_or vs 0 (pos 0) ≡ x in
          let Q : List ℤ → Type 0 = λ vs. get_or vs 1 (pos 0) ≡ pos 1 in
          let one = subst P e (h.given.each 0 (omega arith)) in
          let two = subst Q e (h.given.each 1 (omega arith)) in
          let all : h.values ≡ x ∷ pos 1 ∷ [] = e ∙ (λ i. one i ∷ two i ∷ []) in (
            ap (can_be_added (pos 0)) (sym all) ∙ h.within,
            λ i. record {
              kept = h.kept i;
              puts = (h.puts ∙ ap (λ (vs : List ℤ). (sum (total (pos 0) vs)).puts) all) i;
              prints = h.prints i;
              spawns = h.spawns i;
              ending = h.ending i;
            },
          )
      by (a ∷ b ∷ c ∷ vs) e = let l = sym (ap length e) ∙ long in absurd (omega (arith, l))

  -- one of the sums on the way is too large, if one is
  over_so : (o : Left Cells) (h : IsTooLarge same these two_cells o) → is_over Add x (pos 0) ≡ false
      → is_over Add (pos 1) (pos 0 +ℤ x) ≡ false → false ≡ true
  over_so o h first second = by h.values refl
    where
      at : (n : ℕ) → h.before ≡ n → h.value ≡ get_or these n (pos 0)
      at n e = h.next ∙ ap (λ (m : ℕ). get_or these m (pos 0)) (let z : 0 + h.before ≡ n = omega (arith, e) in z)

      long : length h.values ≡ h.before
      long = h.given.long

      by : (vs : List ℤ) → h.values ≡ vs → false ≡ true
      by [] e =
          let n : h.before ≡ 0 = sym long ∙ ap length e in
          sym first ∙ (λ i. is_over Add (sym (at 0 n) i) (total (pos 0) (sym e i))) ∙ h.over
      by (a ∷ []) e =
          let n : h.before ≡ 1 = sym long ∙ ap length e in
          let P : List ℤ → Type 0 = λ vs. get_or vs 0 (pos 0) ≡ x in
          let one = subst P e (h.given.each 0 (omega (arith, n))) in
          sym second ∙ (λ i. is_over Add (sym (at 1 n) i) (total (pos 0) (sym (e ∙ (λ j. one j ∷ [])) i))) ∙ h.over
      by (a ∷ b ∷ vs) e =
          let l = sym (ap length e) ∙ long in
          let w : 0 + h.before < 2 = h.within in
          absurd (omega (arith, l, w))

largest_sum : (o : Left Cells)
    → IsSum same 1 3 (these (pos 9223372036854775806)) two_cells o ⊎ IsTooLarge same (these (pos 9223372036854775806)) two_cells o
    → o ≡ sum (pos 9223372036854775807)
largest_sum o (inl h) = (summed (pos 9223372036854775806) o h).1
largest_sum o (inr h) = differ (over_so (pos 9223372036854775806) o h refl refl)

too_large : (o : Left Cells)
    → IsSum same 1 3 (these (pos 9223372036854775807)) two_cells o ⊎ IsTooLarge same (these (pos 9223372036854775807)) two_cells o
    → o.ending ≡ Fails 17
too_large o (inl h) = differ (summed (pos 9223372036854775807) o h).0
too_large o (inr h) = h.ending

pub kernels_are_worked_out : KernelsAreWorkedOut
kernels_are_worked_out = record {
  stencil = λ o h. stencil_of o (h.there refl);
  last = λ o h. (h.there refl).ending;
  no_neighbour = λ o h. h.not_there refl;
  row = λ o h. row_of o (h.there refl);
  no_row = λ o h. h.not_there refl;
  mapping = λ o h. map_of o (h.there refl);
  no_cell = λ o h. h.not_there refl;
  largest_sum = λ o h. largest_sum o (h.there refl);
  too_large = λ o h. too_large o (h.there refl);
  nothing_to_add = λ o h. h.not_there refl;
}
