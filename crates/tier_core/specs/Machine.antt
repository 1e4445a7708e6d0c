-- The state of the machine: the words of the tiers, and for each token its view and how far its call has come (not part of Java's API).
use Rattle.std.specs.Prelude.{◌≡◌, ℕ, suc, ◌≤◌, ◌<◌, Bool, true, false, List, [], ◌∷◌, ◌++◌, length, slice_index_or, slice_set}
use Rattle.advance_rule.specs.declared.EndPlan.{EndPlan}
use Rattle.phaser_word.specs.Fields.{Fields}
use Rattle.tier_steps.specs.declared.view.View.{View}
use Rattle.tier_steps.specs.declared.view.Errand.TheVariants.{Rest, Opening, Climbing, Advancing}
use Rattle.tier_steps.specs.declared.view.OpeningStage.TheVariants.{Seeking, Joined, GoingBack}
use Rattle.tier_steps.specs.declared.view.Passage.{Passage}
use Rattle.tier_steps.specs.View.{new_view}
use Rattle.tier_steps.specs.Tally.{word_at, Tallies}
use Rattle.tier_shape.specs.Parents.{IsShape}
use Rattle.tier_steps.specs.declared.kind.Kind.{Kind}
use Rattle.tier_steps.specs.Step.{Needs, opening}
use Rattle.tier_steps.specs.Laws.{words_after, stepped_view}
use Rattle.tier_steps.specs.Start.{empty_words}
use Rattle.tier_core.specs.Turn.{Call, Progress, Idle, Begun, ToSeek, Settling, ToGiveBack, Passing, Owing, Due, Refreshing, Turn, turn, turn_by, place, claimed_by, is_refusal, IsInRange}
use Rattle.tier_core.specs.declared.call.Call.TheVariants as call

pub record State : Type 0 where
  pub parents : List ℕ
  pub words : List Fields
  -- by token number: what each token knows, and how far its call has come
  pub views : List View
  pub calls : List Progress
  pub plan : EndPlan

abbrev pub view_at : List View → ℕ → View
view_at views token = slice_index_or views token (new_view 0)

abbrev pub call_at : List Progress → ℕ → Progress
call_at calls token = slice_index_or calls token Idle

-- a join of 1 to 65535 members at a tier that exists, by a token without members
pub record IsWanted (parents : List ℕ) (tier size : ℕ) (v : View) : Type 0 where
  pub place : tier < length parents
  pub some : 0 < size
  pub few : size ≤ 65535
  pub none : v.size ≡ 0

-- what holds of a token's view when its call begins
abbrev pub BegunFits : List ℕ → Call → View → Type 0
BegunFits parents (call.Join tier size) v = IsWanted parents tier size v
BegunFits parents call.Arrive v = 0 < v.size
BegunFits parents call.Leave v = 0 < v.size
BegunFits parents call.Poll v = 0 < v.size
BegunFits parents call.Force v = Unit {0}

-- what holds of a token's view, by how far its call has come
abbrev pub CallFits : List ℕ → Progress → View → Type 0
CallFits parents Idle v = v.errand ≡ Rest
CallFits parents (Begun c) v = (v.errand ≡ Rest) × BegunFits parents c v
CallFits parents (ToSeek tier size) v = (v.errand ≡ opening tier (claimed_by v.errand) Seeking size) × IsWanted parents tier size v
CallFits parents Settling v = (tier : ℕ) × (claimed : ℕ) × (size : ℕ) × (v.errand ≡ Opening tier (suc claimed) Joined size)
CallFits parents (ToGiveBack answer) v =
    (tier : ℕ) × (claimed : ℕ) × (size : ℕ) × (v.errand ≡ Opening tier (suc claimed) GoingBack size) × (is_refusal answer ≡ true)
CallFits parents (Passing passage) v = (v.errand ≡ Rest) × (v.arrived < v.size)
CallFits parents (Owing own) v = (t : ℕ) × (passage : Passage) × (v.errand ≡ Climbing t passage)
CallFits parents (Due own) v = v.errand ≡ Advancing
CallFits parents (Refreshing moved) v = (v.errand ≡ Rest) × (v.arrived < v.size) × (0 < v.tier)

-- a step that a token may take, and after which its call fits its view
pub record IsNext (parents : List ℕ) (words : List Fields) (v : View) (kind : Kind) (t : ℕ) (next : Progress) : Type 0 where
  pub within : t < length words
  pub needs : Needs parents kind t (word_at words t) v
  pub keeps : CallFits parents next (stepped_view parents words kind t v)

-- the stage of a call: over, before its first step, between its look at the root and its end, or before an advance of the root
pub data Standing : Type 0 where
  AtRest : Standing
  AtStart : Standing
  OnItsWay : Standing
  BeforeAdvance : Standing

abbrev pub standing : Progress → Standing
standing Idle = AtRest
standing (Begun c) = AtStart
standing (Due own) = BeforeAdvance
standing _ = OnItsWay

-- one truth value for each of these stages, in this order
abbrev pub stands_at : Bool → Bool → Bool → Bool → Standing → Bool
stands_at rest start way advance AtRest = rest
stands_at rest start way advance AtStart = start
stands_at rest start way advance OnItsWay = way
stands_at rest start way advance BeforeAdvance = advance

-- the token is in no call
abbrev pub is_idle : Progress → Bool
is_idle p = stands_at true false false false (standing p)

-- the next step of the call is an ordinary one
abbrev pub is_active : Progress → Bool
is_active p = stands_at false true true false (standing p)

-- the next step of the call is an advance
abbrev pub is_due : Progress → Bool
is_due p = stands_at false false false true (standing p)

-- a call that has looked at the root and has a step to take
abbrev pub is_going : Progress → Bool
is_going p = stands_at false false true true (standing p)

-- Each step of a call is one that its token may take.
abbrev pub TurnsAreSteps : Type 0
TurnsAreSteps =
    (parents : List ℕ) (words : List Fields) (front : List View) (v : View) (back : List View) (progress : Progress)
    → IsShape parents → Tallies parents words (front ++ v ∷ back) → is_active progress ≡ true → CallFits parents progress v
    → IsNext parents words v (turn parents words progress v).kind (turn parents words progress v).tier (turn parents words progress v).next

-- a step at the place of its call, which its token may take there
pub record IsNextBy (parents : List ℕ) (words : List Fields) (v : View) (t : ℕ) (r : Turn) : Type 0 where
  pub here : r.tier ≡ t
  pub next : IsNext parents words v r.kind t r.next

-- After its look at the root, each step of a call is determined by its token's view and the word of the tier at which it is taken.
abbrev pub OneWordIsEnough : Type 0
OneWordIsEnough =
    (parents : List ℕ) (words : List Fields) (front : List View) (v : View) (back : List View) (progress : Progress) (ends : Bool)
    → IsShape parents → Tallies parents words (front ++ v ∷ back) → is_going progress ≡ true → CallFits parents progress v
    → IsNextBy parents words v (place parents progress v) (turn_by parents ends (word_at words (place parents progress v)) progress v)

-- If such a step answers MustAdvance, the phase and the parties fit into a word.
abbrev pub OneWordTellsRanges : Type 0
OneWordTellsRanges =
    (parents : List ℕ) (words : List Fields) (front : List View) (v : View) (back : List View) (progress : Progress) (ends : Bool)
    → Tallies parents words (front ++ v ∷ back) → CallFits parents progress v
    → IsInRange (turn_by parents ends (word_at words (place parents progress v)) progress v).answer

-- what is true of every state: the tally holds, and each call fits its token's view
pub record IsCore (s : State) : Type 0 where
  pub shape : IsShape s.parents
  pub few : length s.parents ≤ 65535
  pub tally : Tallies s.parents s.words s.views
  pub long : length s.calls ≡ length s.views
  pub calls : (token : ℕ) → token < length s.views → CallFits s.parents (call_at s.calls token) (view_at s.views token)

-- the next turn of a token, and the state after a turn
abbrev pub turn_at : State → ℕ → Turn
turn_at s token = turn s.parents s.words (call_at s.calls token) (view_at s.views token)

abbrev pub played : State → ℕ → Turn → State
played s token r = record s {
  words = words_after s.words r.kind r.tier (view_at s.views token);
  views = slice_set s.views token (stepped_view s.parents s.words r.kind r.tier (view_at s.views token));
  calls = slice_set s.calls token r.next;
}

-- a new tree: its tiers are empty, and it has no tokens
abbrev pub opened : List ℕ → ℕ → EndPlan → State
opened parents phase plan = record { parents = parents; words = empty_words parents phase; views = []; calls = []; plan = plan }

-- a state with one more token, which comes last, has no members and is in the root's phase
abbrev pub with_token : State → State
with_token s = record s { views = s.views ++ new_view (word_at s.words 0).phase ∷ []; calls = s.calls ++ Idle ∷ [] }
