-- The kinds of step: what each needs of the word of its tier and of the token's view, and the word and the view after it. Joining,
-- arriving, leaving, advancing and ending by force are those of Java SE 21's `Phaser`; the rest is not part of its API.
pub use Rattle.tier_steps.specs.declared.kind.Kind.{Kind}
pub use
    Rattle.tier_steps.specs.declared.kind.Kind.TheVariants.{
      Look,
      Glance,
      Refuse,
      Join,
      Arrive,
      Leave,
      Advance,
      Force,
      Claim,
      Settle,
      SettleBack,
      Climb,
      Refresh,
    }
use Rattle.std.specs.Prelude.{◌≡◌, ◌≢◌, ℕ, zero, suc, ◌+◌, ◌-◌, ◌≤◌, ◌<◌, ◌⊎◌, Bool, true, false, ◌==◌, if◌then◌else◌, Some, None, List, length}
use Rattle.tier_steps.specs.Word.{Fields, IsLegal, joined, arrived_one, left_one, left_root, advanced, refreshed, emptied, claimed_word, settled, forced, is_being_opened}
use Rattle.tier_steps.specs.View.{View, Errand, Rest, Opening, Climbing, Advancing, OpeningStage, Seeking, Joined, GoingBack, Passage, Arrival, Departure, ancestor}

-- the word of a tier after the arrival or the departure of one party
abbrev pub passed : ℕ → Passage → Fields → Fields
passed t Arrival w = arrived_one w
passed zero Departure w = left_root w
passed (suc t) Departure w = left_one w

-- What the token owes afterwards, by the word before. If it was the last unarrived party of its tier, it climbs, by a departure if it was
-- the last party. At the root it advances.
abbrev pub owed : ℕ → ℕ → Passage → Fields → Errand
owed above zero passage w = if w.unarrived == 1 then Advancing else Rest
owed above (suc t) Arrival w = if w.unarrived == 1 then Climbing above Arrival else Rest
owed above (suc t) Departure w =
    if w.parties == 1 then Climbing above Departure else (if w.unarrived == 1 then Climbing above Arrival else Rest)

-- a token may let one of its members arrive at the token's tier, or leave it
pub record CanPass (t : ℕ) (w : Fields) (v : View) : Type 0 where
  pub rest : v.errand ≡ Rest
  pub own : v.tier ≡ t
  pub going : w.ended ≡ false
  pub current : w.phase ≡ v.phase
  pub unarrived : v.arrived < v.size

abbrev pub arrived_view : ℕ → ℕ → Fields → View → View
arrived_view above t w v = record v { arrived = v.arrived + 1; errand = owed above t Arrival w }

abbrev pub left_view : ℕ → ℕ → Fields → View → View
left_view above t w v = record v { size = v.size - 1; errand = owed above t Departure w }

-- a token may take the next step of its climb
pub record CanClimb (t : ℕ) (passage : Passage) (w : Fields) (v : View) : Type 0 where
  pub errand : v.errand ≡ Climbing t passage
  pub going : w.ended ≡ false
  pub current : w.phase ≡ v.phase

abbrev pub climbed_view : ℕ → ℕ → Passage → Fields → View → View
climbed_view above t passage w v = record v { errand = owed above t passage w }

-- a tier admits `n` parties: it has an unarrived party or is the empty root, and there is room
pub record Admits (t n : ℕ) (w : Fields) : Type 0 where
  pub going : w.ended ≡ false
  pub waits : 0 < w.unarrived
  pub empty : w.parties ≡ 0 → (t ≡ 0) × (w.unarrived ≡ 1)
  pub capacity : w.parties + n ≤ 65535

-- a tier refuses `n` parties: there is no room, nobody is unarrived, or the tier is being opened
abbrev pub Refuses : ℕ → Fields → Type 0
Refuses n w = (w.ended ≡ false) × ((65535 < w.parties + n) ⊎ (w.unarrived ≡ 0) ⊎ (is_being_opened w ≡ true))

-- the errand of an opening with `claimed` claimed tiers; without claims there is none
abbrev pub opening : ℕ → ℕ → OpeningStage → ℕ → Errand
opening tier zero stage size = Rest
opening tier (suc claimed) stage size = Opening tier (suc claimed) stage size

-- the parties that a join adds to a tier: the members themselves, or one party if tiers below it are claimed
abbrev pub added : ℕ → ℕ → ℕ
added zero size = size
added (suc claimed) size = 1

-- A join is due at a tier: the token has no members and no errand except the opening of a path, and the tier is the next of that path.
pub record IsDue (parents : List ℕ) (tier claimed size : ℕ) (t : ℕ) (v : View) : Type 0 where
  pub here : t ≡ ancestor parents tier claimed
  pub errand : v.errand ≡ opening tier claimed Seeking size
  pub none : v.size ≡ 0
  pub some : 0 < size
  pub few : size ≤ 65535
  pub place : tier < length parents

abbrev pub joined_view : ℕ → ℕ → ℕ → Fields → View → View
joined_view tier claimed size w v =
    record v { tier = tier; size = size; phase = w.phase; arrived = 0; errand = opening tier claimed Joined size }

-- an empty tier below the root may be claimed
pub record IsFree (t : ℕ) (w : Fields) : Type 0 where
  pub below : 0 < t
  pub none : w.parties ≡ 0
  pub unclaimed : w.unarrived ≡ 1

abbrev pub claimed_view : ℕ → ℕ → ℕ → View → View
claimed_view tier claimed size v = record v { errand = Opening tier (suc claimed) Seeking size }

abbrev pub settled_view : ℕ → ℕ → OpeningStage → ℕ → View → View
settled_view tier claimed stage size v = record v { errand = opening tier claimed stage size }

-- a token may bring a lagging tier into its phase: the token's tier if it has an unarrived member, or the tier that it
-- climbs to
pub record CanRefresh (t : ℕ) (w : Fields) (v : View) : Type 0 where
  pub some : 0 < w.parties
  pub arrived : w.unarrived ≡ 0
  pub behind : w.phase ≢ v.phase
  pub leave : ((v.errand ≡ Rest) × (v.tier ≡ t) × (v.arrived < v.size)) ⊎ ((passage : Passage) × (v.errand ≡ Climbing t passage))

-- After the end, a token owes the root nothing, and a join that is not taken releases its claimed tiers.
abbrev pub dropped : Errand → Errand
dropped Rest = Rest
dropped Advancing = Rest
dropped (Climbing zero passage) = Rest
dropped (Climbing (suc t) passage) = Climbing (suc t) passage
dropped (Opening tier claimed Seeking size) = Opening tier claimed GoingBack size
dropped (Opening tier claimed Joined size) = Opening tier claimed Joined size
dropped (Opening tier claimed GoingBack size) = Opening tier claimed GoingBack size

-- a token whose members have all arrived moves into the root's phase
abbrev pub moved : Fields → View → View
moved w v = if v.arrived == v.size then (if v.phase == w.phase then v else record v { phase = w.phase; arrived = 0 }) else v

abbrev pub is_going_back : Errand → Bool
is_going_back (Opening tier claimed GoingBack size) = true
is_going_back _ = false

-- the view after a look at the root
abbrev pub looked : Fields → View → View
looked w v =
    let u : View = record v { led = false; note = (if is_going_back v.errand then v.note else None) } in
    if w.ended then record u { end_seen = Some w.phase; errand = dropped v.errand } else moved w u

-- a refused join releases its claimed tiers
abbrev pub given_up : Errand → Errand
given_up Rest = Rest
given_up Advancing = Advancing
given_up (Climbing t passage) = Climbing t passage
given_up (Opening tier claimed Seeking size) = Opening tier claimed GoingBack size
given_up (Opening tier claimed Joined size) = Opening tier claimed Joined size
given_up (Opening tier claimed GoingBack size) = Opening tier claimed GoingBack size

-- the view after a token notes the tier and the word that refused its join
abbrev pub noted : ℕ → Fields → View → View
noted t w v = record v { note = Some (t, w); errand = given_up v.errand }

-- the view after a refusal; at the root it is a look as well
abbrev pub refused : ℕ → Fields → View → View
refused zero w v = noted 0 w (looked w v)
refused (suc t) w v = noted (suc t) w v

abbrev pub forced_view : Fields → View → View
forced_view w v = record v { end_seen = Some w.phase }

-- the token that advances the root
pub record CanAdvance (w : Fields) (v : View) : Type 0 where
  pub errand : v.errand ≡ Advancing
  pub going : w.ended ≡ false

abbrev pub advanced_view : View → View
advanced_view v = record v { errand = Rest; led = true }

-- what a kind of step needs at a tier
abbrev pub Needs : List ℕ → Kind → ℕ → Fields → View → Type 0
Needs parents Look t w v = t ≡ 0
Needs parents Glance t w v = 0 < t
Needs parents (Refuse tier claimed size) t w v = IsDue parents tier claimed size t v × Refuses (added claimed size) w
Needs parents (Join tier claimed size) t w v = IsDue parents tier claimed size t v × Admits t (added claimed size) w
Needs parents Arrive t w v = CanPass t w v
Needs parents Leave t w v = CanPass t w v
Needs parents (Advance ends) t w v = (t ≡ 0) × CanAdvance w v
Needs parents Force t w v = t ≡ 0
Needs parents (Claim tier claimed size) t w v = IsDue parents tier claimed size t v × IsFree t w
Needs parents (Settle tier claimed size) t w v = (t ≡ ancestor parents tier claimed) × (v.errand ≡ Opening tier (suc claimed) Joined size)
Needs parents (SettleBack tier claimed size) t w v =
    (t ≡ ancestor parents tier claimed) × (v.errand ≡ Opening tier (suc claimed) GoingBack size)
Needs parents (Climb passage) t w v = CanClimb t passage w v
Needs parents Refresh t w v = CanRefresh t w v

-- the word after a step
abbrev pub word_after : Kind → ℕ → Fields → View → Fields
word_after Look t w v = w
word_after Glance t w v = w
word_after (Refuse tier claimed size) t w v = w
word_after (Join tier claimed size) t w v = joined w (added claimed size)
word_after Arrive t w v = passed t Arrival w
word_after Leave t w v = passed t Departure w
word_after (Advance ends) t w v = advanced w ends
word_after Force t w v = forced w
word_after (Claim tier claimed size) t w v = claimed_word w
word_after (Settle tier claimed size) t w v = settled w v.phase (added claimed size)
word_after (SettleBack tier claimed size) t w v = emptied w
word_after (Climb passage) t w v = passed t passage w
word_after Refresh t w v = refreshed w v.phase

-- the view after a step; `above` is the parent of the tier
abbrev pub view_after : ℕ → Kind → ℕ → Fields → View → View
view_after above Look t w v = looked w v
view_after above Glance t w v = v
view_after above (Refuse tier claimed size) t w v = refused t w v
view_after above (Join tier claimed size) t w v = joined_view tier claimed size w v
view_after above Arrive t w v = arrived_view above t w v
view_after above Leave t w v = left_view above t w v
view_after above (Advance ends) t w v = advanced_view v
view_after above Force t w v = forced_view w v
view_after above (Claim tier claimed size) t w v = claimed_view tier claimed size v
view_after above (Settle tier claimed size) t w v = settled_view tier claimed Joined size v
view_after above (SettleBack tier claimed size) t w v = settled_view tier claimed GoingBack size v
view_after above (Climb passage) t w v = climbed_view above t passage w v
view_after above Refresh t w v = v

-- the number of tiers claimed before a claim
abbrev pub claimed_before : Kind → ℕ
claimed_before (Claim tier claimed size) = claimed
claimed_before _ = 0

-- A step that the code can run: the word after it is legal, and its numbers stay in their ranges.
pub record IsRunnable (kind : Kind) (t : ℕ) (w : Fields) (v : View) : Type 0 where
  pub legal : IsLegal (word_after kind t w v)
  pub few : v.arrived ≤ 65535
  pub claims : claimed_before kind < 65535
