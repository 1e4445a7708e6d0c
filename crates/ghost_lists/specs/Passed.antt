-- What a list knows of its tickets (own).
use Rattle.std.specs.Prelude.{◌≡◌, ◌<◌, ◌⊎◌, ◌==◌, ℕ, ◌+◌, if◌then◌else◌, List, [], ◌∷◌, Option, Some, None, IfSome}
use lib.ListN.{get_elem?}
use mathlib.Core.Option.{some, none}
use Rattle.atomic_table.specs.Table.{State, Me}
use Rattle.atomic_table.specs.Seated.{TableId}
use Rattle.ghost_lists.specs.declared.tickets_rule.TicketEntry.{TicketEntry}
use Rattle.ghost_lists.specs.declared.tickets_rule.Known.{Known}

-- the entries of the tickets that are out, by the name of the word under the list
pub record TicketsValue (T : Type 0) : Type 0 where
  pub name : TableId
  pub out : List (TicketEntry T)

-- a ticket of the list of this name
pub record TicketValue (T : Type 0) : Type 0 where
  pub name : TableId
  pub held : Option (TicketEntry T)

module _ {T : Type 0} where
  abbrev pub ticket_entry : ℕ → ℕ → ℕ → T → TicketEntry T
  ticket_entry key step number known = record { key = key; step = step; number = number; known = known }

  -- an entry is among these
  abbrev pub IsOut : TicketEntry T → List (TicketEntry T) → Type 0
  IsOut t [] = ⊥
  IsOut t (p ∷ ps) = (p ≡ t) ⊎ IsOut t ps

  -- these but for the one of this key
  abbrev pub without : ℕ → List (TicketEntry T) → List (TicketEntry T)
  without key [] = []
  without key (p ∷ ps) = if key == p.key then without key ps else p ∷ without key ps

  abbrev pub without_held : Option (TicketEntry T) → List (TicketEntry T) → List (TicketEntry T)
  without_held None ps = ps
  without_held (Some t) ps = without t.key ps

  -- each seat's entry is one that the first seat knows, and no two seats have the same
  pub record IsKept (s : State T (Known T)) : Type 0 where
    pub first : Known T
    pub at : get_elem? s.views 0 ≡ some first
    pub listed : (i : ℕ) (v : Known T) → get_elem? s.views i ≡ some v → (t : TicketEntry T) → v.held ≡ Some t
        → (t.key < first.next) × IsOut t first.out
    pub apart : (i j : ℕ) (v w : Known T) → get_elem? s.views i ≡ some v → get_elem? s.views j ≡ some w → (t u : TicketEntry T)
        → v.held ≡ Some t → w.held ≡ Some u → t.key ≡ u.key → i ≡ j

  -- a new entry is written
  abbrev pub issued : ℕ → ℕ → T → Known T → Known T
  issued step number known v =
      record { out = ticket_entry v.next step number known ∷ v.out; held = Some (ticket_entry v.next step number known); next = v.next + 1 }

  abbrev pub Issues : ℕ → ℕ → mathlib.Core.Option.Option T → Me T (Known T) → Me T (Known T) → Type 0
  Issues step number none me next = next ≡ me
  Issues step number (some known) me next = next ≡ (issued step number known me.0, me.1)

  -- the entry is struck out
  abbrev pub redeemed : Known T → Known T
  redeemed v = record v { out = without_held v.held v.out; held = None }

  abbrev pub Redeems : Me T (Known T) → Me T (Known T) → Type 0
  Redeems me next = (next ≡ (redeemed me.0, me.1)) × IfSome me.0.held (λ t. IsOut t me.0.out)

  abbrev pub with_none : Known T → Known T
  with_none v = record v { held = None }

  abbrev pub passed_on : Known T → Known T
  passed_on v = record { out = []; held = v.held; next = 0 }

  abbrev pub receiving : Known T → Known T → Known T
  receiving v w = record v { held = w.held }

  -- the keys fall from this one on: each entry has a key of its own
  abbrev pub AreKeyed : ℕ → List (TicketEntry T) → Type 0
  AreKeyed next [] = Unit {0}
  AreKeyed next (t ∷ ts) = (t.key < next) × AreKeyed t.key ts

  -- the first seat of the list
  pub record IsList (table id : TableId) (seat : ℕ) (me : Me T (Known T)) : Type 0 where
    pub words : table.words ≡ 1
    pub named : id ≡ table
    pub first : seat ≡ 0
    pub nothing : me.1 ≡ []
    pub keyed : AreKeyed me.0.next me.0.out
