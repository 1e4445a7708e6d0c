-- The stretches of the superstep after one that was taken.
use Rattle.std.proofs.Common.{◌≡◌, ◌==◌, ℕ, ◌+◌, Bool, true, false, List, [], ◌∷◌, map, length, Option, Some, None, Result, Ok, Err, refl, sym, ap, ◌∙◌, subst, arith, length-append}
use Rattle.std.specs.Prelude.{◌&&◌, not, IfOk}
use Rattle.programs.specs.InPlace.{left_in, spawned_in}
use Rattle.program_stretches.specs.declared.fault.Outcome.{Outcome}
use Rattle.program_stretches.specs.declared.fault.Outcome.TheVariants.{Landed, Faulted, TooMany, Overflowed}
use Rattle.program_stretches.specs.PartValue.{PartValue}
use Rattle.program_stretches.specs.Parts.{AreFresh, covers, of_slot, tasks_in, deeds_in, without_puts, renewed}
use Rattle.program_stretches.specs.StretchesValue.{StretchesValue}
use Rattle.program_stretches.specs.Closing.{AllStay, IsReopened}
use Rattle.program_stretches.proofs.Along.{left_append, spawned_append}
use Rattle.program_stretches.proofs.EachDone.{each_also, living_same}
use Rattle.superstep_memory.specs.PathOrder.{in_path_order}

pub if_ok : {X E : Type 0} (answer : Result X E) (F G : X → Type 0) → IfOk answer F → ((x : X) → F x → G x) → IfOk answer G
if_ok (Ok x) F G h f = f x h
if_ok (Err e) F G h f = h

same_number : (n : ℕ) → (n == n) ≡ true
same_number n = grind arith

module _ {S : Type 0} where
  -- those of all live tasks cover them
  pub fresh_covers : (end at : ℕ) (ss : List (Option (PartValue S))) → AreFresh at ss → end ≡ at + length (tasks_in ss)
      → covers false end at ss ≡ true
  fresh_covers end at [] h e = ap (λ (n : ℕ). at == n) (let k : end ≡ at = omega (arith, e) in k) ∙ same_number at
  fresh_covers end at (None ∷ ss) h e = absurd h
  fresh_covers end at (Some part ∷ ss) h e =
      let l = length-append part.tasks (tasks_in ss) in
      let rest = fresh_covers end (at + length part.tasks) ss h.1 (omega (arith, e, l)) in
      (λ i. ((h.0 i).first == at) && not (h.0 i).done && rest i) ∙ ap (λ (b : Bool). b && true && true) (same_number at)

  -- and none of them has stopped or spawned
  pub fresh_stay : (at : ℕ) (ss : List (Option (PartValue S))) → AreFresh at ss → AllStay ss
  fresh_stay at [] h = tt
  fresh_stay at (None ∷ ss) h = absurd h
  fresh_stay at (Some part ∷ ss) h =
      let none = ap (λ (p : PartValue S). p.deeds) h.0 in
      (ap left_in none, ap spawned_in none, fresh_stay (at + length part.tasks) ss h.1)

  -- if all stay, none of all tasks stopped or spawned
  pub none_moved : (ss : List (Option (PartValue S))) → AllStay ss → (left_in (deeds_in ss) ≡ 0) × (spawned_in (deeds_in ss) ≡ 0)
  none_moved [] h = (refl, refl)
  none_moved (s ∷ ss) h =
      let rest = none_moved ss h.2 in
      let a = left_append (of_slot (λ part. part.deeds) s) (deeds_in ss) in
      let b = spawned_append (of_slot (λ part. part.deeds) s) (deeds_in ss) in
      (omega (arith, a, h.0, rest.0), omega (arith, b, h.1, rest.1))

  renewed_kept : (ss : List (Option (PartValue S))) → map renewed (map without_puts ss) ≡ map renewed ss
  renewed_kept [] = refl
  renewed_kept (None ∷ ss) = ap (λ (ts : List (Option (PartValue S))). None ∷ ts) (renewed_kept ss)
  renewed_kept (Some part ∷ ss) = ap (λ (ts : List (Option (PartValue S))). renewed (Some part) ∷ ts) (renewed_kept ss)

  stay_kept : (ss : List (Option (PartValue S))) → AllStay ss → AllStay (map without_puts ss)
  stay_kept [] h = tt
  stay_kept (None ∷ ss) h = (h.0, h.1, stay_kept ss h.2)
  stay_kept (Some part ∷ ss) h = (h.0, h.1, stay_kept ss h.2)

  stay_before : (ss : List (Option (PartValue S))) → AllStay (map without_puts ss) → AllStay ss
  stay_before [] h = tt
  stay_before (None ∷ ss) h = (h.0, h.1, stay_before ss h.2)
  stay_before (Some part ∷ ss) h = (h.0, h.1, stay_before ss h.2)

  -- those whose puts were moved away stay if the same ones stay with them
  pub stay_also : (ks ss : List (Option (PartValue S))) → map without_puts ks ≡ map without_puts ss → AllStay ss → AllStay ks
  stay_also ks ss e h = stay_before ks (subst AllStay (sym e) (stay_kept ss h))

  renewed_same : (ks ss : List (Option (PartValue S))) → map without_puts ks ≡ map without_puts ss → map renewed ks ≡ map renewed ss
  renewed_same ks ss e = sym (renewed_kept ks) ∙ ap (map renewed) e ∙ renewed_kept ss

-- it is the same whether puts were moved away
pub reopened_from : {Q S : Type 0} (path : S → List ℕ) (o : Outcome) (step : ℕ) (ks ss : List (Option (PartValue S)))
    (v : StretchesValue Q S)
    → map without_puts ks ≡ map without_puts ss
    → IsReopened path o step ks v → IsReopened path o step ss v
reopened_from path Landed step ks ss v e h = (
  h.0,
  h.1,
  λ stay. h.2 (stay_also ks ss e stay) ∙ renewed_same ks ss e,
  h.3,
  each_also ss ks (sym e) h.4,
  h.5 ∙ ap (in_path_order path) (living_same ks ss e),
)
reopened_from path Faulted step ks ss v e h = h
reopened_from path TooMany step ks ss v e h = h
reopened_from path Overflowed step ks ss v e h = h
