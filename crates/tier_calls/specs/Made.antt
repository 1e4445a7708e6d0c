-- Which steps a token took in a call, by the kinds of its steps, the last first (not part of Java's API).
use Rattle.std.specs.Prelude.{◌≡◌, Bool, true, false, List, ◌∷◌, ◌++◌}
use Rattle.std.specs.List.{AllByRecursion}
use Rattle.tier_steps.specs.declared.kind.Kind.{Kind}
use Rattle.tier_steps.specs.declared.kind.Kind.TheVariants.{Look, Glance, Refuse, Join, Advance, Claim, Settle, SettleBack, Climb, Refresh}
use Rattle.tier_steps.specs.declared.view.Passage.{Passage}
use Rattle.tier_core.specs.declared.call.Played.{Played}
use Rattle.tier_core.specs.declared.call.Played.TheVariants.{Done, Ended}
use Rattle.tier_core.specs.declared.call.Progress.{Progress}
use Rattle.tier_core.specs.declared.call.Progress.TheVariants.{Idle, Passing, Owing, Due}
use Rattle.tier_core.specs.Turn.{own_kind}
use Rattle.tier_calls.specs.Next.{is_look}

-- looks
abbrev pub is_glance : Kind → Bool
is_glance Look = true
is_glance Glance = true
is_glance _ = false

-- looks and refreshes, which count nothing
abbrev pub is_quiet : Kind → Bool
is_quiet Look = true
is_quiet Glance = true
is_quiet Refresh = true
is_quiet _ = false

-- looks, refreshes and climbs
abbrev pub is_upward : Kind → Bool
is_upward Look = true
is_upward Glance = true
is_upward (Climb passage) = true
is_upward Refresh = true
is_upward _ = false

-- looks and the steps of a registration
abbrev pub is_entering : Kind → Bool
is_entering Look = true
is_entering Glance = true
is_entering (Refuse tier claimed size) = true
is_entering (Join tier claimed size) = true
is_entering (Claim tier claimed size) = true
is_entering (Settle tier claimed size) = true
is_entering (SettleBack tier claimed size) = true
is_entering _ = false

-- `new` is `old` and then some more steps, all of these kinds.
abbrev pub MadeOnly : (Kind → Bool) → List Kind → List Kind → Type 0
MadeOnly is old new = (more : List Kind) × (new ≡ more ++ old) × AllByRecursion (λ k. is k ≡ true) more

-- one look at the root, and then looks and refreshes
abbrev pub HasLooked : List Kind → List Kind → Type 0
HasLooked old new = MadeOnly is_quiet (Look ∷ old) new

-- one look at the root, and then looks and steps of a registration
abbrev pub HasEntered : List Kind → List Kind → Type 0
HasEntered old new = MadeOnly is_entering (Look ∷ old) new

-- one look at the root, and then looks and refusals, which change no word
abbrev pub HasWatched : List Kind → List Kind → Type 0
HasWatched old new = MadeOnly is_look (Look ∷ old) new

-- a look at the root, looks and refreshes, the step that counts the member, once, and then looks, refreshes and climbs
abbrev pub HasStepped : Passage → List Kind → List Kind → Type 0
HasStepped own old new = (looked : List Kind) × HasLooked old looked × MadeOnly is_upward (own_kind own ∷ looked) new

-- if the call led, an advance as its last step, else none
abbrev pub LedBy : (List Kind → Type 0) → Bool → List Kind → Type 0
LedBy made true new = (ends : Bool) × (before : List Kind) × (new ≡ Advance ends ∷ before) × made before
LedBy made false new = made new

-- The steps of an arrival or a departure, however far it has come: `Q` holds of them until its member is counted, and `R` afterwards.
abbrev pub MadeAnswer : (List Kind → Type 0) → (List Kind → Type 0) → Bool → Played → List Kind → Type 0
MadeAnswer Q R led (Done phase) ks = LedBy R led ks
MadeAnswer Q R led (Ended shown) ks = Q ks
MadeAnswer Q R led _ ks = ⊥

abbrev pub MadeAt : (List Kind → Type 0) → (List Kind → Type 0) → Bool → Played → Progress → List Kind → Type 0
MadeAt Q R led answer Idle ks = MadeAnswer Q R led answer ks
MadeAt Q R led answer (Passing passage) ks = Q ks
MadeAt Q R led answer (Owing passage) ks = R ks
MadeAt Q R led answer (Due passage) ks = R ks
MadeAt Q R led answer _ ks = ⊥
