-- What seats know of a log (own).
use Rattle.std.specs.Prelude.{◌≡◌, ℕ, List, [], ◌∷◌, ◌++◌, true, false, Option, Some, None}
use lib.ListN.{get_elem?}
use mathlib.Core.Option.{some}
use Rattle.atomic_table.specs.Table.{State, Me}
use Rattle.atomic_table.specs.Seated.{TableId}
use Rattle.ghost_lists.specs.declared.log_rule.Known.{Known}

-- a log by the name of the words under it
pub record LogValue (X : Type 0) : Type 0 where
  pub name : TableId
  pub log : List X

module _ {X : Type 0} where
  -- a log as it was before the last of its entries were written: entries are listed the last first
  pub record WasBefore (earlier log : List X) : Type 0 where
    pub since : List X
    pub is : log ≡ since ++ earlier

  -- what each seat knows is what the first seat knew once
  pub record IsAgreed (s : State (Option X) (Known X)) : Type 0 where
    pub first : Known X
    pub at : get_elem? s.views 0 ≡ some first
    pub known : (i : ℕ) (v : Known X) → get_elem? s.views i ≡ some v → WasBefore v.log first.log × WasBefore v.heard first.log
    pub home : first.taken ≡ false → (x : Option X) × (get_elem? s.homes 0 ≡ some (some x))

  -- the place for values is taken
  pub record Takes (me next : Me (Option X) (Known X)) : Type 0 where
    pub known : next.0 ≡ record me.0 { taken = true }
    pub place : (x : Option X) × (next.1 ≡ (0, x) ∷ me.1)

  -- the value in the place is noted
  abbrev pub noted : Known X → List (ℕ × Option X) → Known X
  noted v ((k, Some x) ∷ rest) = record v { log = x ∷ v.log }
  noted v ((k, None) ∷ rest) = v
  noted v [] = v

  abbrev pub Notes : Me (Option X) (Known X) → Me (Option X) (Known X) → Type 0
  Notes me next = next ≡ (noted me.0 me.1, me.1)

  -- what was heard of is what the log was once
  abbrev pub Agrees : Me (Option X) (Known X) → Me (Option X) (Known X) → Type 0
  Agrees me next = (next ≡ me) × WasBefore me.0.heard me.0.log

  abbrev pub copy_of : Known X → Known X
  copy_of v = record { log = v.log; heard = []; taken = true }

  abbrev pub hearing : Known X → Known X → Known X
  hearing v w = record v { heard = w.log }

  -- the first seat before it has taken a step
  pub record IsStart (id : ℕ) (me : Me (Option X) (Known X)) : Type 0 where
    pub first : id ≡ 0
    pub nothing : me ≡ (record { log = []; heard = []; taken = false }, [])

  -- the first seat, with an empty place for values
  pub record IsWriter (id : ℕ) (me : Me (Option X) (Known X)) : Type 0 where
    pub first : id ≡ 0
    pub taken : me.0.taken ≡ true
    pub place : me.1 ≡ (0, None) ∷ []

-- one word and one place for values
pub record IsLog (id : TableId) : Type 0 where
  pub words : id.words ≡ 1
  pub slots : id.slots ≡ 1
