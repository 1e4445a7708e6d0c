-- Puts land stretch after stretch.
use Rattle.std.proofs.Common.{◌≡◌, ℕ, ◌+◌, true, List, [], ◌∷◌, ◌++◌, map, length, drop, Option, Some, None, refl, sym, ap, ◌∙◌}
use Rattle.std.specs.Prelude.{ℤ}
use Rattle.std.specs.List.{list_all}
use Rattle.std.proofs.lemmas.List.Folds.{list_all-append}
use Rattle.superstep_memory.specs.declared.arrays.Put.{Put}
use Rattle.superstep_memory.specs.Landing.{landed, over_in, is_set}
use Rattle.superstep_memory.proofs.Landed.{landed_none, landed_append}
use Rattle.superstep_memory.proofs.Over.{over_append, first_of, sets_fit}
use Rattle.programs.specs.DeedValue.{DeedValue}
use Rattle.program_stretches.specs.PartValue.{PartValue}
use Rattle.program_stretches.specs.Parts.{of_slot, tasks_in, puts_in, deeds_in, without_puts, without_tasks, without_prints, renewed}
use Rattle.program_stretches.proofs.Along.{both}

abbrev Arrays : Type 0
Arrays = List (List ℕ × List ℤ)

-- the first of two lists that overflows
pub over_front : (xs : Arrays) (ps qs : List Put) (k : ℕ) → Some k ≡ over_in xs [] 0 ps → Some k ≡ over_in xs [] 0 (ps ++ qs)
over_front xs ps qs k e = sym (over_append xs [] 0 ps qs ∙ ap (λ o. first_of o (over_in xs ps (0 + length ps) qs)) (sym e))

-- puts that set follow others, of which none overflows
pub over_sets : (xs : Arrays) (ps qs : List Put) → None ≡ over_in xs [] 0 ps → list_all is_set qs ≡ true → None ≡ over_in xs [] 0 (ps ++ qs)
over_sets xs ps qs e h =
    sym (over_append xs [] 0 ps qs ∙ ap (λ o. first_of o (over_in xs ps (0 + length ps) qs)) (sym e) ∙ sets_fit xs ps (0 + length ps) qs h)

module _ {S : Type 0} where
  -- of the one at this place, and of those after it
  pub sets_next : (parts : List (Option (PartValue S))) (k : ℕ) (s : Option (PartValue S)) → drop k parts ≡ s ∷ drop (k + 1) parts
      → list_all is_set (puts_in (drop k parts)) ≡ true
      → (list_all is_set (of_slot (λ part. part.puts) s) ≡ true) × (list_all is_set (puts_in (drop (k + 1) parts)) ≡ true)
  sets_next parts k s e h =
      let cut =
      ap (λ (ss : List (Option (PartValue S))). list_all is_set (puts_in ss)) e
      ∙ list_all-append is_set (of_slot (λ part. part.puts) s) (puts_in (drop (k + 1) parts)) in
      both (list_all is_set (of_slot (λ part. part.puts) s)) (list_all is_set (puts_in (drop (k + 1) parts))) (sym cut ∙ h)

  pub landed_next : {total : Arrays} (xs ys : Arrays) (parts : List (Option (PartValue S))) (k : ℕ) (s : Option (PartValue S))
      → drop k parts ≡ s ∷ drop (k + 1) parts
      → ys ≡ landed (of_slot (λ part. part.puts) s) xs → landed (puts_in (drop k parts)) xs ≡ total
      → landed (puts_in (drop (k + 1) parts)) ys ≡ total
  landed_next xs ys parts k s e to h =
      ap (landed (puts_in (drop (k + 1) parts))) to ∙ sym (landed_append (of_slot (λ part. part.puts) s) (puts_in (drop (k + 1) parts)) xs)
      ∙ ap (λ (ss : List (Option (PartValue S))). landed (puts_in ss) xs) (sym e) ∙ h

  pub landed_last : {total : Arrays} (xs : Arrays) (rest : List (Option (PartValue S))) → rest ≡ [] → landed (puts_in rest) xs ≡ total
      → xs ≡ total
  landed_last xs rest e h = sym (landed_none xs) ∙ ap (λ (ss : List (Option (PartValue S))). landed (puts_in ss) xs) (sym e) ∙ h

  -- no puts are left
  pub no_puts : (ss : List (Option (PartValue S))) → puts_in (map without_puts ss) ≡ []
  no_puts [] = refl
  no_puts (None ∷ ss) = no_puts ss
  no_puts (Some part ∷ ss) = no_puts ss

  pub no_puts_twice : (ss : List (Option (PartValue S))) → map without_puts (map without_puts ss) ≡ map without_puts ss
  no_puts_twice [] = refl
  no_puts_twice (None ∷ ss) = ap (λ (ts : List (Option (PartValue S))). None ∷ ts) (no_puts_twice ss)
  no_puts_twice (Some part ∷ ss) = ap (λ (ts : List (Option (PartValue S))). Some (record part { puts = [] }) ∷ ts) (no_puts_twice ss)

  -- the puts stay where the prints or the tasks are moved away
  pub puts_stay : (ss : List (Option (PartValue S))) → puts_in (map without_prints ss) ≡ puts_in ss
  puts_stay [] = refl
  puts_stay (None ∷ ss) = puts_stay ss
  puts_stay (Some part ∷ ss) = ap (λ (ps : List Put). part.puts ++ ps) (puts_stay ss)

  pub puts_left : (ss : List (Option (PartValue S))) → puts_in (map without_tasks ss) ≡ puts_in ss
  puts_left [] = refl
  puts_left (None ∷ ss) = puts_left ss
  puts_left (Some part ∷ ss) = ap (λ (ps : List Put). part.puts ++ ps) (puts_left ss)

  -- so do the tasks and what they did
  pub tasks_stay : (ss : List (Option (PartValue S))) → tasks_in (map without_prints ss) ≡ tasks_in ss
  tasks_stay [] = refl
  tasks_stay (None ∷ ss) = tasks_stay ss
  tasks_stay (Some part ∷ ss) = ap (λ (ts : List S). part.tasks ++ ts) (tasks_stay ss)

  pub deeds_stay : (ss : List (Option (PartValue S))) → deeds_in (map without_prints ss) ≡ deeds_in ss
  deeds_stay [] = refl
  deeds_stay (None ∷ ss) = deeds_stay ss
  deeds_stay (Some part ∷ ss) = ap (λ (ts : List (DeedValue S)). part.deeds ++ ts) (deeds_stay ss)

  -- prints make no difference to what comes next
  pub renewed_again : (ss : List (Option (PartValue S))) → map renewed (map without_prints ss) ≡ map renewed ss
  renewed_again [] = refl
  renewed_again (None ∷ ss) = ap (λ (ts : List (Option (PartValue S))). None ∷ ts) (renewed_again ss)
  renewed_again (Some part ∷ ss) = ap (λ (ts : List (Option (PartValue S))). renewed (Some part) ∷ ts) (renewed_again ss)
