-- Stretches that are out, and their tickets (own).
use Rattle.std.specs.Prelude.{◌≡◌, ◌≢◌, ℕ, Bool, true, false, List, [], ◌∷◌, Option, None, Some}
use Rattle.std.specs.Option.{option_map}
use Rattle.atomic_table.specs.Seated.{TableId}
use Rattle.ghost_lists.specs.declared.tickets_rule.TicketEntry.{TicketEntry}
use Rattle.ghost_lists.specs.Passed.{TicketValue}
use Rattle.program_stretches.specs.PartValue.{PartValue}

-- whether the stretch is out
abbrev pub out_at : {S : Type 0} → Option (Option (PartValue S)) → Bool
out_at None = false
out_at (Some None) = true
out_at (Some (Some part)) = false

-- each item has this property
abbrev pub Each : {A : Type 0} → (A → Type 0) → List A → Type 0
Each P [] = Unit {0}
Each P (x ∷ xs) = P x × Each P xs

module _ {T : Type 0} where
  -- no two entries have the same number
  abbrev pub AreApart : List (TicketEntry T) → Type 0
  AreApart [] = Unit {0}
  AreApart (t ∷ ts) = Each (λ u. u.number ≢ t.number) ts × AreApart ts

  -- each entry is for a different stretch of this superstep that is out
  abbrev pub AreOut : (ℕ → Bool) → ℕ → List (TicketEntry T) → Type 0
  AreOut out step ts = Each (λ t. (t.step ≡ step) × (out t.number ≡ true)) ts × AreApart ts

  -- the superstep and the number that a ticket is for
  abbrev pub what_for : TicketValue T → Option (ℕ × ℕ)
  what_for pass = option_map (λ t. (t.step, t.number)) pass.held

  -- a ticket of this list, for the stretch of this superstep and number
  abbrev pub IsFor : TableId → ℕ → ℕ → TicketValue T → Type 0
  IsFor list step number pass = (pass.name ≡ list) × (what_for pass ≡ Some (step, number))
