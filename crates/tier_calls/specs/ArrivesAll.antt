-- What all arrivals of several tokens answer, and what each token did (not part of Java's API).
use Rattle.std.specs.Prelude.{◌≡◌, ℕ, ◌+◌, ◌≤◌, ◌<◌, ◌⊎◌, true, false, Option, Some, List, [], ◌∷◌}
use Rattle.phaser_word.specs.Fields.{Fields}
use Rattle.phaser_word.specs.Phase.{next_phase_of}
use Rattle.tier_steps.specs.declared.view.View.{View}
use Rattle.tier_steps.specs.declared.view.Passage.TheVariants.{Arrival}
use Rattle.tier_steps.specs.declared.kind.Kind.{Kind}
use Rattle.tier_steps.specs.declared.kind.Kind.TheVariants.{Arrive, Look}
use Rattle.tier_steps.specs.Step.{CanRefresh}
use Rattle.tier_rule.specs.declared.sight.Sight.{Sight}
use Rattle.tier_calls.specs.Holding.{Holding, first_of, no_sight, sight_held}
use Rattle.tier_calls.specs.Made.{MadeOnly, is_quiet, HasLooked, HasStepped}
use Rattle.tier_calls.specs.Passes.{IsSame, EndSeen, IsFresh}
use Rattle.tier_calls.specs.Arrives.{IsLooked}
use Rattle.tier_calls.specs.Groups.{GroupHeld, AllLost}
use Rattle.tier_calls.specs.Splits.{AreTogether}
use Rattle.tier_calls.specs.LastOnes.{tokens_in}
use Rattle.tier_calls.specs.declared.groups.TriedAll.{TriedAll}
use Rattle.tier_calls.specs.declared.groups.TriedAll.TheVariants as tried
use Rattle.tier_calls.specs.declared.groups.ArrivedAll.{ArrivedAll}
use Rattle.tier_calls.specs.declared.groups.ArrivedAll.TheVariants as answer
use Rattle.tier_calls.specs.declared.polling.Polled.{Polled}
use Rattle.tier_calls.specs.declared.polling.Polled.TheVariants.{Passed, Waiting, Here, Ended}

-- what holds of each token before and after
abbrev pub Each : (Sight → Sight → Type 0) → List Sight → List Sight → Type 0
Each R [] [] = Unit {0}
Each R [] (y ∷ ys) = ⊥
Each R (x ∷ xs) [] = ⊥
Each R (x ∷ xs) (y ∷ ys) = R x y × Each R xs ys

-- a token took steps of which P tells, by at most so many tries, and no other was split off it
pub record Did (P : List Kind → List Kind → Type 0) (tries : ℕ) (x y : Sight) : Type 0 where
  pub key : y.key ≡ x.key
  pub tried : y.tried ≤ x.tried + tries
  pub since : x.tried ≤ y.tried
  pub steps : P x.steps y.steps
  pub opened : y.opened ≡ x.opened

-- The first token of some made exactly so many tries. Each try of a call is one exchange of a word by all its tokens, or by the first one
-- for all of them.
abbrev pub HasSpent : ℕ → List Sight → List Sight → Type 0
HasSpent tries old new = (first_of no_sight new).tried ≡ (first_of no_sight old).tried + tries

-- looks and refreshes, which count nothing
abbrev pub OnlyLooks : List Kind → List Kind → Type 0
OnlyLooks old new = MadeOnly is_quiet old new

-- looks and refreshes, and then one arrival
abbrev pub ArrivesOnce : List Kind → List Kind → Type 0
ArrivesOnce old new = (ks : List Kind) × MadeOnly is_quiet old ks × (new ≡ Arrive ∷ ks)

-- the members are as before, and no advance was led
pub record StillHere (old new : View) : Type 0 where
  pub same : IsSame old new
  pub unled : old.led ≡ false → new.led ≡ false

-- all have arrived
pub record AllHere (old new : View) : Type 0 where
  pub tier : new.tier ≡ old.tier
  pub size : new.size ≡ old.size
  pub phase : new.phase ≡ old.phase
  pub arrived : new.arrived ≡ 1
  pub unled : old.led ≡ false → new.led ≡ false

-- nothing was counted, by exactly so many tries
pub record KeepsAll (tries : ℕ) (old new : GroupHeld) : Type 0 where
  pub tree : new.tree ≡ old.tree
  pub view : StillHere old.view new.view
  -- below the root nobody looked at it
  pub below : 0 < old.view.tier → new.view ≡ old.view
  pub tokens : Each (Did OnlyLooks tries) old.tokens new.tokens
  pub spent : HasSpent tries old.tokens new.tokens

-- the same by at most so many tries
pub record KeepsSoon (tries : ℕ) (old new : GroupHeld) : Type 0 where
  pub used : ℕ
  pub few : used ≤ tries
  pub kept : KeepsAll used old new

-- every token's member has arrived, once
pub record CountsAll (P : List Kind → List Kind → Type 0) (tries : ℕ) (old new : GroupHeld) : Type 0 where
  pub tree : new.tree ≡ old.tree
  pub view : AllHere old.view new.view
  pub tokens : Each (Did P tries) old.tokens new.tokens

-- every token's member has arrived, once; the first token owes what follows from that
pub record CountsLast (P : List Kind → List Kind → Type 0) (tries : ℕ) (old : GroupHeld) (first : Holding)
    (rest : Option GroupHeld) : Type 0 where
  pub tree : first.tree ≡ old.tree
  pub view : AllHere old.view first.view
  pub tokens : Each (Did P tries) old.tokens (sight_held first ∷ tokens_in rest)
  pub others : (c : GroupHeld) → rest ≡ Some c → (c.tree ≡ old.tree) × AllHere old.view c.view

-- some tries of all arrivals
abbrev pub TriesAll : ℕ → GroupHeld → TriedAll → Type 0
TriesAll tries old (tried.Yet group) = KeepsAll tries old group
TriesAll tries old (tried.Done group) = CountsAll ArrivesOnce tries old group
TriesAll tries old (tried.Owing errand rest) = CountsLast ArrivesOnce tries old errand.token rest
TriesAll tries old (tried.Ended group word) = KeepsSoon tries old group × (word.ended ≡ true) × (group.view.end_seen ≡ Some word.phase)

-- one look at the root
abbrev pub Looks : List Kind → List Kind → Type 0
Looks old new = new ≡ Look ∷ old

-- the views of tokens that have looked at the root, and whose members have arrived then
pub record HavePassed (old new : View) : Type 0 where
  pub from : View
  pub looked : IsLooked old from
  pub here : AllHere from new
  pub unled : new.led ≡ false

-- What each answer says. After Done nobody owes anything. After Owing the errand's token owes a climb or the advance. After the other
-- answers nothing was counted. AlreadyArrived follows the look that begins the call, alone, and before Busy all tries were made.
abbrev pub ArrivesAll : GroupHeld → ℕ → ArrivedAll → Type 0
ArrivesAll old tries (answer.Done group phase) =
    (group.tree ≡ old.tree) × HavePassed old.view group.view × (phase ≡ group.view.phase)
    × Each (Did (HasStepped Arrival) tries) old.tokens group.tokens
ArrivesAll old tries (answer.Owing errand rest) =
    (errand.token.tree ≡ old.tree) × HavePassed old.view errand.token.view
    × ((c : GroupHeld) → rest ≡ Some c → (c.tree ≡ old.tree) × HavePassed old.view c.view × AreTogether errand.token.view c.view)
    × Each (Did (HasStepped Arrival) tries) old.tokens (sight_held errand.token ∷ tokens_in rest)
ArrivesAll old tries (answer.AlreadyArrived group phase) =
    (group.tree ≡ old.tree) × IsLooked old.view group.view × IsFresh group.view × (group.view.arrived ≡ 1) × (phase ≡ group.view.phase)
    × Each (Did Looks 0) old.tokens group.tokens
ArrivesAll old tries (answer.Ended group shown) =
    (group.tree ≡ old.tree) × IsLooked old.view group.view × EndSeen group.view shown × Each (Did HasLooked tries) old.tokens group.tokens
ArrivesAll old tries (answer.Busy group) =
    (group.tree ≡ old.tree) × IsLooked old.view group.view × (group.view.arrived ≡ 0) × Each (Did HasLooked tries) old.tokens group.tokens
    × HasSpent tries old.tokens group.tokens

-- the answer says that the tree has ended
abbrev pub HasEnded : ArrivedAll → Type 0
HasEnded (answer.Ended group shown) = Unit {0}
HasEnded _ = ⊥

-- all members had arrived in the phase before, and this one is the next
pub record AllPassedOn (old new : View) : Type 0 where
  pub all : old.arrived ≡ 1
  pub next : new.phase ≡ next_phase_of old.phase
  pub nobody : new.arrived ≡ 0

-- What a poll by all tokens answers. Here says that no phase has passed since the look before.
abbrev pub PollsAll : GroupHeld → GroupHeld → Polled → Type 0
PollsAll old new (Passed phase) =
    (new.tree ≡ old.tree) × IsLooked old.view new.view × IsFresh new.view × AllPassedOn old.view new.view × (phase ≡ new.view.phase)
    × Each (Did HasLooked 1) old.tokens new.tokens
PollsAll old new Waiting =
    (new.tree ≡ old.tree) × IsLooked old.view new.view × IsFresh new.view × (new.view.arrived ≡ 1)
    × Each (Did HasLooked 1) old.tokens new.tokens
PollsAll old new (Here phase) =
    (new.tree ≡ old.tree) × IsLooked old.view new.view × IsFresh new.view × (new.view.arrived ≡ 0) × (phase ≡ new.view.phase)
    × Each (Did HasLooked 1) old.tokens new.tokens
    × (new.view.phase ≡ old.view.phase)
PollsAll old new (Ended shown) =
    (new.tree ≡ old.tree) × IsLooked old.view new.view × EndSeen new.view shown × Each (Did HasLooked 1) old.tokens new.tokens

-- The first token's last step was at the tokens' tier, which is now in their phase. Or that step was a try to bring the tier into it, and
-- the try was lost.
abbrev pub HaveCaughtUp : GroupHeld → Type 0
HaveCaughtUp new =
    ((first_of no_sight new.tokens).tier ≡ new.view.tier)
    × (((first_of no_sight new.tokens).word.phase ≡ new.view.phase)
    ⊎ ((before : GroupHeld) × (from : Fields) × (other : Fields) × CanRefresh before.view.tier from before.view
    × AllLost from other before new))

-- if the members are to arrive, their tier was brought into their phase
abbrev pub AllCaughtUpBy : Polled → GroupHeld → Type 0
AllCaughtUpBy (Passed phase) new = HaveCaughtUp new
AllCaughtUpBy Waiting new = Unit {0}
AllCaughtUpBy (Here phase) new = HaveCaughtUp new
AllCaughtUpBy (Ended shown) new = Unit {0}
