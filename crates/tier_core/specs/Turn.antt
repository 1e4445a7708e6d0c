-- Calls as steps: the next step of each call, and its answer. The calls are those of Java SE 21's `Phaser`; steps and polls are not part of
-- its API.
pub use Rattle.tier_core.specs.declared.call.Call.{Call}
use Rattle.tier_core.specs.declared.call.Call.TheVariants as call
pub use Rattle.tier_core.specs.declared.call.Cause.{Cause}
use Rattle.tier_core.specs.declared.call.Cause.TheVariants as cause
pub use Rattle.tier_core.specs.declared.call.Played.{Played}
pub use
    Rattle.tier_core.specs.declared.call.Played.TheVariants.{GoesOn, Done, Passed, Waiting, Held, Full, AlreadyArrived, Ended, MustAdvance}
pub use Rattle.tier_core.specs.declared.call.Progress.{Progress}
pub use
    Rattle.tier_core.specs.declared.call.Progress.TheVariants.{
      Idle,
      Begun,
      Seeking as ToSeek,
      Settling,
      GivingBack as ToGiveBack,
      Passing,
      Owing,
      Due,
      Refreshing,
    }
pub use Rattle.tier_core.specs.declared.call.Turn.{Turn}
use Rattle.std.specs.Prelude.{ℕ, zero, suc, ◌+◌, ◌≤◌, Bool, true, false, ◌==◌, nat_lt, not, ◌&&◌, ◌||◌, if◌then◌else◌, List}
use Rattle.phaser_word.specs.Phase.{shown_of}
use Rattle.phaser_word.specs.Fields.{Fields}
use Rattle.tier_steps.specs.Word.{is_being_opened}
use Rattle.tier_steps.specs.declared.view.View.{View}
use Rattle.tier_steps.specs.declared.view.Errand.{Errand}
use Rattle.tier_steps.specs.declared.view.Errand.TheVariants.{Rest, Opening, Climbing, Advancing}
use Rattle.tier_steps.specs.declared.view.Passage.{Passage}
use Rattle.tier_steps.specs.declared.view.Passage.TheVariants.{Arrival, Departure}
use Rattle.tier_shape.specs.Parents.{parent_of}
use Rattle.tier_steps.specs.View.{ancestor}
use Rattle.tier_steps.specs.Tally.{word_at}
use Rattle.tier_steps.specs.declared.kind.Kind.{Kind}
use Rattle.tier_steps.specs.declared.kind.Kind.TheVariants.{Look, Glance, Refuse, Join, Arrive, Leave, Advance, Force, Claim, Settle, SettleBack, Climb, Refresh}
use Rattle.tier_steps.specs.Step.{passed, owed, added, looked, refused}

-- the answer Ended with the phase that an ended root shows
abbrev pub end_shown : Fields → Played
end_shown root = Ended (shown_of root.phase true)

-- the tier lags: its parties have all arrived, in another phase than the token's
abbrev pub lags : Fields → View → Bool
lags w v = nat_lt 0 w.parties && ((w.unarrived == 0) && not (w.phase == v.phase))

-- a tier without room for `more` parties, a tier that refuses them, and an empty tier below the root
abbrev pub has_no_room : ℕ → Fields → Bool
has_no_room more w = nat_lt 65535 (w.parties + more)

abbrev pub is_refusing : ℕ → Fields → Bool
is_refusing more w = has_no_room more w || ((w.unarrived == 0) || is_being_opened w)

abbrev pub is_claimable : ℕ → Fields → Bool
is_claimable t w = nat_lt 0 t && ((w.parties == 0) && (w.unarrived == 1))

-- why a join is held off, in the phase of the call's last look at the root
abbrev pub cause_of : ℕ → ℕ → Fields → Cause
cause_of t phase w =
    if w.unarrived == 0 then (if t == 0 then cause.Advancing else (if w.phase == phase then cause.AllArrived else cause.Lagging))
    else cause.BeingOpened

abbrev pub refusal : ℕ → ℕ → ℕ → Fields → Played
refusal t more phase w = if has_no_room more w then Full w.parties else Held phase (cause_of t phase w)

-- the answers of a join that is not taken
abbrev pub is_refusal : Played → Bool
is_refusal (Held phase why) = true
is_refusal (Full parties) = true
is_refusal (Ended number) = true
is_refusal _ = false

-- A call that has claimed tiers doesn't end with its join or its refusal, but goes on with these tiers.
abbrev pub unless_claimed : ℕ → Played → Played
unless_claimed zero answer = answer
unless_claimed (suc claimed) answer = GoesOn

abbrev pub settling : ℕ → Progress
settling zero = Idle
settling (suc claimed) = Settling

abbrev pub giving_back : ℕ → Played → Progress
giving_back zero answer = Idle
giving_back (suc claimed) answer = ToGiveBack answer

-- A join with `claimed` claimed tiers, at the next tier of its path: it ends with the tree, is refused, claims an empty tier, or is taken.
abbrev pub seek_turn : ℕ → ℕ → ℕ → ℕ → Fields → View → Turn
seek_turn tier claimed size t w v =
    if w.ended
    then record { kind = Look; tier = 0; next = giving_back claimed (end_shown w); answer = unless_claimed claimed (end_shown w) }
    else (if is_refusing (added claimed size) w then record {
      kind = Refuse tier claimed size;
      tier = t;
      next = giving_back claimed (refusal t (added claimed size) (refused t w v).phase w);
      answer = unless_claimed claimed (refusal t (added claimed size) (refused t w v).phase w);
    }
    else (if is_claimable t w then record { kind = Claim tier claimed size; tier = t; next = ToSeek tier size; answer = GoesOn }
    else record { kind = Join tier claimed size; tier = t; next = settling claimed; answer = unless_claimed claimed (Done w.phase) }))

-- the number of tiers that an errand has claimed
abbrev pub claimed_by : Errand → ℕ
claimed_by (Opening tier claimed stage size) = claimed
claimed_by _ = 0

-- the look at the root with which a call ends; it also fills in if no step is due
abbrev pub last_look : Played → Turn
last_look answer = record { kind = Look; tier = 0; next = Idle; answer = answer }

-- After a join, the claimed tiers get their parties, from the highest down. The last one answers with the phase of the join.
abbrev pub settle_turn : List ℕ → View → Errand → Turn
settle_turn parents v (Opening tier (suc claimed) stage size) = record {
  kind = Settle tier claimed size;
  tier = ancestor parents tier claimed;
  next = settling claimed;
  answer = unless_claimed claimed (Done v.phase);
}
settle_turn parents v (Opening tier zero stage size) = last_look GoesOn
settle_turn parents v Rest = last_look GoesOn
settle_turn parents v Advancing = last_look GoesOn
settle_turn parents v (Climbing t passage) = last_look GoesOn

-- After a refusal, the claimed tiers are released, from the highest down. The last one answers with the refusal.
abbrev pub give_back_turn : List ℕ → Played → Errand → Turn
give_back_turn parents answer (Opening tier (suc claimed) stage size) = record {
  kind = SettleBack tier claimed size;
  tier = ancestor parents tier claimed;
  next = giving_back claimed answer;
  answer = unless_claimed claimed answer;
}
give_back_turn parents answer (Opening tier zero stage size) = last_look GoesOn
give_back_turn parents answer Rest = last_look GoesOn
give_back_turn parents answer Advancing = last_look GoesOn
give_back_turn parents answer (Climbing t passage) = last_look GoesOn

-- the step of an arrival or a departure at its token's tier
abbrev pub own_kind : Passage → Kind
own_kind Arrival = Arrive
own_kind Departure = Leave

-- How a call goes on from what its token owes, and the answer of the step: `phase`, and `parties` at the root after the step.
abbrev pub goes_on : Passage → Errand → Progress
goes_on passage Rest = Idle
goes_on passage Advancing = Due passage
goes_on passage (Climbing t up) = Owing passage
goes_on passage (Opening tier claimed stage size) = Idle

abbrev pub reported : ℕ → ℕ → Errand → Played
reported phase parties Rest = Done phase
reported phase parties Advancing = MustAdvance phase parties
reported phase parties (Climbing t up) = GoesOn
reported phase parties (Opening tier claimed stage size) = GoesOn

-- The step of an arrival or a departure that passes a tier. If the root has ended, the token looks instead. A lagging tier is refreshed
-- first.
abbrev pub pass_turn : List ℕ → Passage → ℕ → Passage → Kind → Progress → Played → Fields → View → Turn
pass_turn parents own t passage kind here over w v =
    if w.ended then last_look over
    else (if lags w v then record { kind = Refresh; tier = t; next = here; answer = GoesOn }
    else record {
      kind = kind;
      tier = t;
      next = goes_on own (owed (parent_of parents t) t passage w);
      answer = reported v.phase (passed t passage w).parties (owed (parent_of parents t) t passage w);
    })

-- the step of such a call's climb, after it was counted at its token's tier
abbrev pub climb_turn : List ℕ → Passage → Fields → View → Errand → Turn
climb_turn parents own w v (Climbing t passage) = pass_turn parents own t passage (Climb passage) (Owing own) (Done v.phase) w v
climb_turn parents own w v _ = last_look GoesOn

-- the answer of a poll after its look at the root: `moved` says whether that look moved the token into the next phase
abbrev pub polled : Bool → ℕ → Played
polled moved phase = if moved then Passed phase else Done phase

-- the phase and the parties in the answer MustAdvance fit into a word
abbrev pub IsInRange : Played → Type 0
IsInRange (MustAdvance phase parties) = (phase ≤ 2147483647) × (parties ≤ 65535)
IsInRange _ = Unit {0}

-- the first step of each call; `root` is the root's word and `own` that of the token's tier
abbrev pub first_turn : Call → Fields → Fields → View → Turn
first_turn (call.Join tier size) root own v = record {
  kind = (if root.ended then Look else (if (tier == 0) && is_refusing size root then Refuse 0 0 size else Look));
  tier = 0;
  next = (if root.ended then Idle else ToSeek tier size);
  answer = (if root.ended then end_shown root else GoesOn);
}
first_turn call.Arrive root own v = record {
  kind = Look;
  tier = 0;
  next = (if root.ended then Idle else (if (looked root v).arrived == v.size then Idle else Passing Arrival));
  answer =
      (if root.ended then end_shown root else (if (looked root v).arrived == v.size then AlreadyArrived (looked root v).phase else GoesOn));
}
first_turn call.Leave root own v = record {
  kind = Look;
  tier = 0;
  next = (if root.ended then Idle else (if (looked root v).arrived == v.size then Idle else Passing Departure));
  answer =
      (if root.ended then end_shown root else (if (looked root v).arrived == v.size then AlreadyArrived (looked root v).phase else GoesOn));
}
first_turn call.Poll root own v = record {
  kind = Look;
  tier = 0;
  next = (if root.ended then Idle else (if (looked root v).arrived == v.size then Idle
      else (if lags own (looked root v) then Refreshing (not ((looked root v).phase == v.phase)) else Idle)));
  answer = (if root.ended then end_shown root else (if (looked root v).arrived == v.size then Waiting
      else (if lags own (looked root v) then GoesOn else polled (not ((looked root v).phase == v.phase)) (looked root v).phase)));
}
first_turn call.Force root own v = record { kind = Force; tier = 0; next = Idle; answer = end_shown root }

-- the advance, or a look if the root has ended
abbrev pub finish_turn : Bool → Fields → View → Turn
finish_turn ends root v = record { kind = (if root.ended then Look else Advance ends); tier = 0; next = Idle; answer = Done v.phase }

-- the tier that an errand leads to next: the one it climbs to, or the highest that it has claimed
abbrev pub errand_place : List ℕ → Errand → ℕ
errand_place parents (Climbing t passage) = t
errand_place parents (Opening tier (suc claimed) stage size) = ancestor parents tier claimed
errand_place parents _ = 0

-- the tier at which a call that has looked at the root takes its next step
abbrev pub place : List ℕ → Progress → View → ℕ
place parents Idle v = 0
place parents (Begun c) v = 0
place parents (ToSeek tier size) v = ancestor parents tier (claimed_by v.errand)
place parents Settling v = errand_place parents v.errand
place parents (ToGiveBack answer) v = errand_place parents v.errand
place parents (Passing passage) v = v.tier
place parents (Owing own) v = errand_place parents v.errand
place parents (Due own) v = 0
place parents (Refreshing moved) v = v.tier

-- The next step of a call that has looked at the root, by the word of the tier at which it is taken. An advance ends
-- the tree if `ends` is true.
abbrev pub turn_by : List ℕ → Bool → Fields → Progress → View → Turn
turn_by parents ends w Idle v = last_look GoesOn
turn_by parents ends w (Begun c) v = last_look GoesOn
turn_by parents ends w (ToSeek tier size) v = seek_turn tier (claimed_by v.errand) size (ancestor parents tier (claimed_by v.errand)) w v
turn_by parents ends w Settling v = settle_turn parents v v.errand
turn_by parents ends w (ToGiveBack answer) v = give_back_turn parents answer v.errand
turn_by parents ends w (Passing passage) v = pass_turn parents passage v.tier passage (own_kind passage) (Passing passage) (end_shown w) w v
turn_by parents ends w (Owing own) v = climb_turn parents own w v v.errand
turn_by parents ends w (Due own) v = finish_turn ends w v
turn_by parents ends w (Refreshing moved) v = record {
  kind = (if lags w v then Refresh else Glance);
  tier = v.tier;
  next = Idle;
  answer = polled moved v.phase;
}

-- The next step of a call, however far it has come: the first step by the root's word and that of the token's tier, each other by one word.
abbrev pub turn : List ℕ → List Fields → Progress → View → Turn
turn parents words Idle v = last_look GoesOn
turn parents words (Begun c) v = first_turn c (word_at words 0) (word_at words v.tier) v
turn parents words (ToSeek tier size) v = turn_by parents false (word_at words (place parents (ToSeek tier size) v)) (ToSeek tier size) v
turn parents words Settling v = turn_by parents false (word_at words (place parents Settling v)) Settling v
turn parents words (ToGiveBack answer) v = turn_by parents false (word_at words (place parents (ToGiveBack answer) v)) (ToGiveBack answer) v
turn parents words (Passing passage) v = turn_by parents false (word_at words (place parents (Passing passage) v)) (Passing passage) v
turn parents words (Owing own) v = turn_by parents false (word_at words (place parents (Owing own) v)) (Owing own) v
turn parents words (Due own) v = last_look GoesOn
turn parents words (Refreshing moved) v = turn_by parents false (word_at words (place parents (Refreshing moved) v)) (Refreshing moved) v
