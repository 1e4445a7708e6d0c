-- Several tokens of one seat that take steps at one tier by one access to its word (not part of Java's API).
use Rattle.std.specs.Prelude.{◌≡◌, ◌≢◌, ℕ, zero, suc, ◌+◌, ◌<◌, List, [], ◌∷◌, ◌++◌, length, replicate}
use Rattle.std.specs.List.{AllByRecursion}
use Rattle.atomic_table.specs.Table.{Step, Me}
use Rattle.phaser_word.specs.Fields.{Fields, IsLegal}
use Rattle.phaser_word.specs.Packed.{packed}
use Rattle.tier_shape.specs.Parents.{parent_of}
use Rattle.tier_shape.specs.Paths.{IsTiers}
use Rattle.tier_steps.specs.declared.view.View.{View}
use Rattle.tier_steps.specs.View.{new_view}
use Rattle.tier_steps.specs.Tally.{word_at, Tallies}
use Rattle.tier_steps.specs.declared.kind.Kind.{Kind}
use Rattle.tier_steps.specs.Step.{Needs, word_after, view_after}
use Rattle.tier_rule.specs.declared.sight.Key.{Key}
use Rattle.tier_rule.specs.declared.sight.Sight.{Sight}
use Rattle.tier_rule.specs.Look.{glance}
use mathlib.Core.Option.{some}
use lib.ListN.{get_elem?}
use Rattle.tier_rule.specs.Reach.{those, sat_sight, PlanSays, IsTried, Reached}

-- what a token knows after a step of this kind at the tier t, which found the word w, by this many tries
abbrev pub stepped_sight : Kind → ℕ → Fields → ℕ → Sight → Sight
stepped_sight kind t w tries x = record {
  key = x.key;
  view = view_after (parent_of x.key.shape t) kind t w x.view;
  tier = t;
  word = word_after kind t w x.view;
  tried = x.tried + tries;
  steps = kind ∷ x.steps;
  opened = x.opened;
}

-- Some tokens of a list take steps of the tree at the tier t, one after another: the list goes from `l` to `m`, and the tier's word from
-- `w` to `u`. The first token takes a step; the first takes no more, and the others go on; or one such run follows another.
pub data Goes (k : Key) (t : ℕ) : Fields → List Sight → Fields → List Sight → Type 0 where
  stays : (w : Fields) (l : List Sight) → Goes k t w l w l
  moves : (w u : Fields) (x : Sight) (b m : List Sight) (kind : Kind) (tries : ℕ)
      → Needs k.shape kind t w x.view → PlanSays k kind w → x.key ≡ k → IsTried kind t w tries x
      → Goes k t (word_after kind t w x.view) (stepped_sight kind t w tries x ∷ b) u m → Goes k t w (x ∷ b) u m
  passes : (w u : Fields) (x : Sight) (b m : List Sight) → Goes k t w b u m → Goes k t w (x ∷ b) u (x ∷ m)
  follows : (w u z : Fields) (l m n : List Sight) → Goes k t w l u m → Goes k t u m z n → Goes k t w l z n

-- the tokens of one tree
abbrev pub AreOf : Key → List Sight → Type 0
AreOf k l = AllByRecursion (λ x. x.key ≡ k) l

-- tokens of one tree that know the same of their members
abbrev pub AreAlike : Key → View → List Sight → Type 0
AreAlike k v l = AllByRecursion (λ x. (x.key ≡ k) × (x.view ≡ v)) l

-- the word after `count` steps of this kind, each by a token with this view
abbrev pub after_many : Kind → ℕ → View → Fields → ℕ → Fields
after_many kind t v w zero = w
after_many kind t v w (suc count) = word_after kind t (after_many kind t v w count) v

-- what some tokens with one view know after each has taken a step of this kind, by this many tries, the first token last
abbrev pub all_stepped : Kind → ℕ → ℕ → View → Fields → List Sight → List Sight
all_stepped kind tries t v w [] = []
all_stepped kind tries t v w (x ∷ xs) = stepped_sight kind t (after_many kind t v w (length xs)) tries x ∷ all_stepped kind tries t v w xs

-- Some state tallies in which the tier has this word and some tokens these views.
pub record Among (parents : List ℕ) (t : ℕ) (w : Fields) (vs : List View) : Type 0 where
  pub words : List Fields
  pub front : List View
  pub back : List View
  pub shape : IsTiers parents
  pub within : t < length words
  pub word : word_at words t ≡ w
  pub tally : Tallies parents words (front ++ (vs ++ back))

-- Steps reach a state in which the tier t has the word w, and one seat just these tokens.
pub record AreReached (k : Key) (t : ℕ) (w : Fields) (l : List Sight) : Type 0 where
  pub words : List Fields
  pub seats : List (List Sight)
  pub reached : Reached k words seats
  pub within : t < length words
  pub word : word_at words t ≡ w
  pub id : ℕ
  pub seat : get_elem? seats id ≡ some l

-- what some tokens know after a look of each, which found this word
abbrev pub looked_all : ℕ → Fields → ℕ → List Sight → List Sight
looked_all t w tries [] = []
looked_all t w tries (x ∷ xs) = stepped_sight (glance t) t w tries x ∷ looked_all t w tries xs

-- Some tokens looked at the tier t at once, by this many tries, and found the word w.
pub record LookedAll (k : Key) (t : ℕ) (w : Fields) (tries : ℕ) (l m : List Sight) : Type 0 where
  pub all : m ≡ looked_all t w tries l
  pub before : Among k.shape t w (those l)
  pub after : Among k.shape t w (those m)
  pub found : AreReached k t w l

-- A load by all tokens of a seat.
abbrev pub SawAll : Key → Step Kind → Me Kind (List Sight) → ℕ → Me Kind (List Sight) → Type 0
SawAll k s me n me' =
    (w : Fields) × IsLegal w × (n ≡ packed w) × (m : List Sight) × (me' ≡ (m, [])) × LookedAll k s.word w 0 me.0 m

-- A try by which the tokens of a seat go to these sights, from the word w to the word u. If it is lost, all of them look.
pub record WentOrLooked (k : Key) (w u : Fields) (m : List Sight) (s : Step Kind) (me : Me Kind (List Sight)) (n : ℕ)
    (me' : Me Kind (List Sight)) : Type 0 where
  pub won : n ≡ s.first → (me' ≡ (m, [])) × Among k.shape s.word w (those me.0) × Among k.shape s.word u (those m)
  pub lost : n ≢ s.first
      → (z : Fields) × IsLegal z × (n ≡ packed z) × (z ≢ w) × (m' : List Sight) × (me' ≡ (m', [])) × LookedAll k s.word z 1 me.0 m'

-- A seat that knows nothing of this tree gets the root's word for some new tokens.
abbrev pub SatAll : Key → ℕ → Step Kind → Me Kind (List Sight) → ℕ → Me Kind (List Sight) → Type 0
SatAll k count s me n me' =
    me ≡ ([], [])
    → (w : Fields) × IsLegal w × (n ≡ packed w) × (me' ≡ (replicate count (sat_sight k w), []))
    × Among k.shape 0 w (replicate count (new_view w.phase))
