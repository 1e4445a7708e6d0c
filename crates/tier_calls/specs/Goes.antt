-- How a call goes on at the table of words: by looks and steps of its token, each determined by the word that it found (not part of Java's
-- API).
use Rattle.std.specs.Prelude.{◌≡◌, ℕ, ◌+◌, ◌≤◌, ◌⊎◌, ◌==◌, Bool, true, false, if◌then◌else◌, List, ◌∷◌}
use Rattle.phaser_word.specs.Fields.{Fields}
use Rattle.tier_shape.specs.Parents.{parent_of}
use Rattle.tier_steps.specs.declared.kind.Kind.{Kind}
use Rattle.tier_steps.specs.declared.view.View.{View}
use Rattle.tier_steps.specs.Step.{view_after}
use Rattle.tier_core.specs.declared.call.Played.{Played}
use Rattle.tier_core.specs.declared.call.Played.TheVariants.{GoesOn, Done}
use Rattle.tier_core.specs.declared.call.Progress.{Progress}
use Rattle.tier_core.specs.declared.call.Progress.TheVariants.{Idle, GivingBack as ToGiveBack, Passing}
use Rattle.advance_rule.specs.Plan.{end_ends}
use Rattle.tier_core.specs.declared.call.Turn.{Turn}
use Rattle.tier_core.specs.Machine.{CallFits, is_due, is_going}
use Rattle.tier_core.specs.Turn.{place, turn_by, end_shown}
use Rattle.tier_rule.specs.declared.sight.Key.{Key}
use Rattle.tier_rule.specs.declared.sight.Sight.{Sight}
use Rattle.tier_rule.specs.Run.{IsReached}
use Rattle.tier_rule.specs.Look.{looking}
use Rattle.tier_rule.specs.Reach.{PlanSays}
use Rattle.tier_rule.specs.Tell.{Beside}
use Rattle.tier_calls.specs.Holding.{Named}
use Rattle.tier_calls.specs.Calls.{IsAt}
use Rattle.tier_calls.specs.declared.going.Going.{Going}
use Rattle.tier_calls.specs.Next.{meant, is_look}

-- how far a call has come, what its token knows, the answer of its last step, and the kinds of its token's steps
pub record Position : Type 0 where
  pub progress : Progress
  pub view : View
  pub answer : Played
  pub steps : List Kind

abbrev pub position : Going → Position
position g = record { progress = g.progress; view = g.token.view; answer = g.answer; steps = g.token.steps }

-- the position after a step of the call that found this word
abbrev pub after_step : List ℕ → Bool → Fields → Position → Position
after_step parents ends w at =
    let r : Turn = turn_by parents ends w at.progress at.view in
    let t : ℕ = place parents at.progress at.view in
    record { progress = r.next; view = view_after (parent_of parents t) r.kind t w at.view; answer = r.answer; steps = r.kind ∷ at.steps }

-- The position after a look that found this word. If the next step is a look, this is it. Otherwise it changes nothing of the call.
abbrev pub after_look : List ℕ → Fields → Position → Position
after_look parents w at =
    let r : Turn = turn_by parents false w at.progress at.view in
    let t : ℕ = place parents at.progress at.view in
    let kind : Kind = looking (meant at.progress at.view) t w in
    let v : View = view_after (parent_of parents t) kind t w at.view in
    if is_look r.kind then record { progress = r.next; view = v; answer = r.answer; steps = kind ∷ at.steps }
    else record { progress = at.progress; view = v; answer = GoesOn; steps = kind ∷ at.steps }

-- Some run of steps leads to a state in which the tier t has this word, and some seat a token of this tree with this view that has taken
-- these steps.
pub record WasFound (k : Key) (t : ℕ) (w : Fields) (v : View) (made : List Kind) : Type 0 where
  pub sight : Sight
  pub reached : IsReached k t w sight
  pub own : sight.key ≡ k
  pub view : sight.view ≡ v
  pub steps : sight.steps ≡ made

pub data Goes (k : Key) (from : Position) : Position → Type 0 where
  starts : Goes k from from
  steps : (at : Position) (w : Fields) (ends : Bool) → Goes k from at → CallFits k.shape at.progress at.view → is_going at.progress ≡ true
      → Beside k.shape (place k.shape at.progress at.view) w at.view → PlanSays k (turn_by k.shape ends w at.progress at.view).kind w
      → WasFound k (place k.shape at.progress at.view) w at.view at.steps
      → Goes k from (after_step k.shape ends w at)
  looks : (at : Position) (w : Fields) → Goes k from at → CallFits k.shape at.progress at.view → is_going at.progress ≡ true
      → Beside k.shape (place k.shape at.progress at.view) w at.view
      → Goes k from (after_look k.shape w at)

-- the token last saw the tier of the call's next step, and that step is not a look
pub record Stands (k : Key) (g : Going) : Type 0 where
  pub going : is_going g.progress ≡ true
  pub tier : g.token.tier ≡ place k.shape g.progress g.token.view
  pub tries : is_look (turn_by k.shape false g.token.word g.progress g.token.view).kind ≡ false

-- the call releases its claimed tiers
abbrev pub is_back : Progress → Bool
is_back (ToGiveBack answer) = true
is_back _ = false

-- a call before and after some looks and `tries` tries
pub record WentOn (n : Named) (tries : ℕ) (old new : Going) : Type 0 where
  pub at : IsAt n new
  pub tried : new.token.tried ≡ old.token.tried + tries
  pub opened : new.token.opened ≡ old.token.opened
  pub goes : (from : Position) → Goes n.key from (position old) → Goes n.key from (position new)

-- a call before and after one look
pub record LooksOn (n : Named) (tries : ℕ) (old new : Going) : Type 0 where
  pub step : WentOn n tries old new
  pub next : (new.progress ≡ Idle) ⊎ (Stands n.key new ⊎ (is_back new.progress ≡ true))
  pub back : is_back old.progress ≡ true → Stands n.key new

-- the advance, if it is due, ends the tree exactly if the plan says so
abbrev pub EndsAsPlanned : Key → Bool → Going → Type 0
EndsAsPlanned k ends g = is_due g.progress ≡ true → ends ≡ end_ends k.plan g.token.word.phase (g.token.word.parties == 0)

-- a call after it looked: its token has seen the tier of the next step, or the call is over
pub record Stood (n : Named) (old new : Going) : Type 0 where
  pub went : WentOn n 0 old new
  pub next : (is_going new.progress ≡ false) ⊎ Stands n.key new

-- a call after at most `tries` tries: it is over, or all of them were made
pub record Ran (n : Named) (tries : ℕ) (old new : Going) : Type 0 where
  pub used : ℕ
  pub went : WentOn n used old new
  pub few : used ≤ tries
  pub all : is_going new.progress ≡ true → used ≡ tries

-- how far a call has come after a look that found its token's word; `v` is the view before it
abbrev pub After : List ℕ → Progress → View → Going → Type 0
After parents p v g =
    let r : Turn = turn_by parents false g.token.word p v in
    (g.progress ≡ (if is_look r.kind then r.next else p)) × (g.answer ≡ (if is_look r.kind then r.answer else GoesOn))

-- the answer of an arrival or a departure that finds the root ended: Ended before its member was counted, and Done in its phase afterwards
abbrev pub over_at : Progress → ℕ → Fields → Played
over_at (Passing passage) phase w = end_shown w
over_at _ phase w = Done phase
