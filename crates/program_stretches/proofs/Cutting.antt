-- Live tasks cut into stretches.
use Rattle.std.proofs.Common.{◌≡◌, ◌≤◌, ◌+◌, ◌-◌, ◌++◌, ◌∷◌, ℕ, List, [], Option, Some, length, drop, take, reverse, refl, sym, ap, ◌∙◌, subst, arith, append_assoc, append-nil}
use Rattle.std.proofs.lemmas.List.{take-append-drop, reverse-append, length-drop, length-take-le}
use Rattle.program_stretches.specs.PartValue.{PartValue}
use Rattle.program_stretches.specs.Parts.{AreFresh, fresh_part, tasks_in}

module _ {S : Type 0} where
  -- ---- they are fresh, one after another, and no task is lost

  turned : (parts more : List (Option (PartValue S))) (part now : (PartValue S)) → part ≡ now → more ≡ parts ++ Some part ∷ []
      → reverse more ≡ Some now ∷ reverse parts
  turned parts more part now e m =
      ap reverse m ∙ reverse-append parts (Some part ∷ []) ∙ ap (λ (x : (PartValue S)). Some x ∷ reverse parts) e

  pub none_fresh : (at : ℕ) (parts : List (Option (PartValue S))) → parts ≡ [] → AreFresh at (reverse parts)
  none_fresh at parts e = subst (λ (ss : List (Option (PartValue S))). AreFresh at (reverse ss)) (sym e) tt

  pub none_cut : (tasks : List S) (parts : List (Option (PartValue S))) → parts ≡ [] → tasks ++ tasks_in (reverse parts) ≡ tasks
  none_cut tasks parts e = ap (λ (ss : List (Option (PartValue S))). tasks ++ tasks_in (reverse ss)) e ∙ append-nil tasks

  pub fresh_front : (at end : ℕ) (tasks : List S) (parts more : List (Option (PartValue S))) (part : (PartValue S))
      → AreFresh end (reverse parts)
      → part ≡ fresh_part at tasks → more ≡ parts ++ Some part ∷ [] → end ≡ at + length tasks → AreFresh at (reverse more)
  fresh_front at end tasks parts more part h e m c =
      subst (AreFresh at) (sym (turned parts more part (fresh_part at tasks) e m))
      (refl {A = PartValue S}, subst (λ (n : ℕ). AreFresh n (reverse parts)) c h)

  -- those in front go on to where the stretch that was cut off begins
  pub fresh_cut : (from at : ℕ) (tasks front behind : List S) (parts more : List (Option (PartValue S))) (part : (PartValue S))
      → AreFresh (from + length tasks) (reverse parts)
      → part ≡ fresh_part (from + at) behind → more ≡ parts ++ Some part ∷ [] → front ≡ take at tasks → behind ≡ drop at tasks
      → at ≤ length tasks
      → AreFresh (from + length front) (reverse more)
  fresh_cut from at tasks front behind parts more part h e m ef eb le =
      let l : length behind ≡ length tasks - at = ap length eb ∙ length-drop at tasks in
      let k : length front ≡ at = ap length ef ∙ length-take-le at tasks le in
      subst (λ (n : ℕ). AreFresh (from + n) (reverse more)) (sym k)
      (fresh_front (from + at) (from + length tasks) behind parts more part h e m (omega (arith, l, le)))

  pub tasks_front : (at : ℕ) (tasks : List S) (parts more : List (Option (PartValue S))) (part : (PartValue S))
      → part ≡ fresh_part at tasks → more ≡ parts ++ Some part ∷ [] → tasks_in (reverse more) ≡ tasks ++ tasks_in (reverse parts)
  tasks_front at tasks parts more part e m = ap tasks_in (turned parts more part (fresh_part at tasks) e m)

  -- none is lost where those behind a place are cut off
  pub none_lost : (first at : ℕ) (all tasks front behind : List S) (parts more : List (Option (PartValue S))) (part : (PartValue S))
      → part ≡ fresh_part first behind → more ≡ parts ++ Some part ∷ [] → front ≡ take at tasks → behind ≡ drop at tasks
      → tasks ++ tasks_in (reverse parts) ≡ all → front ++ tasks_in (reverse more) ≡ all
  none_lost first at all tasks front behind parts more part e m ef eb h =
      ap (λ (ts : List S). front ++ ts) (tasks_front first behind parts more part e m)
      ∙ sym (append_assoc front behind (tasks_in (reverse parts)))
      ∙ ap (λ (ts : List S). ts ++ tasks_in (reverse parts)) ((λ i. ef i ++ eb i) ∙ take-append-drop at tasks)
      ∙ h
