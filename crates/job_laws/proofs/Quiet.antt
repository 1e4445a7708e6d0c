-- No step of a call moves the root but the end by force, and a step leaves a core.
use Rattle.std.proofs.Common.{◌≡◌, ◌≢◌, ℕ, zero, suc, ◌<◌, Bool, true, false, cond, eqb, List, length, set, refl, sym, ◌∙◌, subst, arith, ⊎_elim, None}
use Rattle.std.specs.Prelude.{◌&&◌, Option}
use Rattle.std.proofs.lemmas.Bool.{cases_eq}
use Rattle.std.proofs.lemmas.List.{get_or-set_same, get_or-set_other, length-set}
use Rattle.phaser_word.specs.Fields.{Fields}
use Rattle.flat_phaser.specs.declared.FlatStep.{FlatStep}
use Rattle.tier_steps.specs.declared.view.View.{View}
use Rattle.tier_steps.specs.declared.view.Errand.{Errand}
use Rattle.tier_steps.specs.declared.view.Errand.TheVariants.{Rest, Opening, Climbing, Advancing}
use Rattle.tier_steps.specs.declared.view.Passage.{Passage}
use Rattle.tier_steps.specs.declared.view.Passage.TheVariants.{Arrival, Departure}
use Rattle.tier_steps.specs.declared.kind.Kind.{Kind}
use Rattle.tier_steps.specs.declared.kind.Kind.TheVariants.{Look, Glance, Refuse, Join, Claim, Climb, Refresh}
use Rattle.tier_steps.specs.View.{ancestor}
use Rattle.tier_steps.specs.Tally.{word_at}
use Rattle.tier_steps.specs.Step.{added, owed, passed, refused}
use Rattle.tier_steps.specs.Image.{label}
use Rattle.tier_core.specs.declared.call.Call.TheVariants as call
use Rattle.tier_core.specs.declared.call.Played.{Played}
use Rattle.tier_core.specs.declared.call.Played.TheVariants.{GoesOn, Done}
use Rattle.tier_core.specs.declared.call.Progress.{Progress}
use Rattle.tier_core.specs.declared.call.Progress.TheVariants.{Idle, Begun, Seeking as ToSeek, Settling, GivingBack as ToGiveBack, Passing, Owing, Due, Refreshing}
use Rattle.tier_core.specs.declared.call.Step.{Step}
use Rattle.tier_core.specs.declared.call.Step.TheVariants.{Go}
use Rattle.tier_core.specs.declared.call.Turn.{Turn}
use Rattle.tier_core.specs.Turn.{end_shown, lags, own_kind, goes_on, reported, last_look, pass_turn, climb_turn, claimed_by, is_refusing, is_claimable, refusal, giving_back, settling, unless_claimed, settle_turn, give_back_turn, turn, place}
use Rattle.tier_core.specs.Machine.{State, IsCore, view_at, call_at, turn_at}
use Rattle.tier_core.specs.Run.{IsStepOfCalls, after, may_go}
use Rattle.tier_core.proofs.Turns.{not_both}
use Rattle.tier_core.proofs.Runs.{step_moves}
use Rattle.tier_shape.specs.Parents.{parent_of}
use Rattle.tier_laws.specs.Frame.{flat_of, actor}
use Rattle.tier_laws.specs.Calls.{moves_root, RootStays, answer_then}
use Rattle.tier_laws.proofs.Framing.{others_stay}
use Rattle.tier_laws.proofs.Stepping.{only_advances_move}
use Rattle.job_laws.specs.Roles.{Role, Out, Plays}
use Rattle.job_laws.specs.Cast.{role_at, IsCast, Follows}
use Rattle.job_laws.proofs.Playing.{plays_stay, kept_by_others}

abbrev pub is_forcing : Progress → Bool
is_forcing Idle = false
is_forcing (Begun (call.Join tier size)) = false
is_forcing (Begun call.Arrive) = false
is_forcing (Begun call.Leave) = false
is_forcing (Begun call.Poll) = false
is_forcing (Begun call.Force) = true
is_forcing (ToSeek tier size) = false
is_forcing Settling = false
is_forcing (ToGiveBack answer) = false
is_forcing (Passing passage) = false
is_forcing (Owing own) = false
is_forcing (Due own) = false
is_forcing (Refreshing moved) = false

either_way : {X : Type 0} (P : X → Type 0) (b : Bool) (x y : X) → P x → P y → P (cond b x y)
either_way P true x y p q = p
either_way P false x y p q = q

abbrev IsQuiet : ℕ → Kind → Type 0
IsQuiet i k = moves_root (label i k) ≡ false

abbrev IsQuietTurn : ℕ → Turn → Type 0
IsQuietTurn i r = IsQuiet i r.kind

settles_quietly : (i : ℕ) (ps : List ℕ) (v : View) (e : Errand) → IsQuietTurn i (settle_turn ps v e)
settles_quietly i ps v Rest = refl
settles_quietly i ps v Advancing = refl
settles_quietly i ps v (Climbing t passage) = refl
settles_quietly i ps v (Opening tier zero stage size) = refl
settles_quietly i ps v (Opening tier (suc n) stage size) = refl

gives_back_quietly : (i : ℕ) (ps : List ℕ) (a : Played) (e : Errand) → IsQuietTurn i (give_back_turn ps a e)
gives_back_quietly i ps a Rest = refl
gives_back_quietly i ps a Advancing = refl
gives_back_quietly i ps a (Climbing t passage) = refl
gives_back_quietly i ps a (Opening tier zero stage size) = refl
gives_back_quietly i ps a (Opening tier (suc n) stage size) = refl

own_quiet : (i : ℕ) (passage : Passage) → IsQuiet i (own_kind passage)
own_quiet i Arrival = refl
own_quiet i Departure = refl

passes_quietly : (i : ℕ) (ps : List ℕ) (own : Passage) (t : ℕ) (passage : Passage) (k : Kind) (here : Progress) (over : Played) (w : Fields)
    (v : View)
    → IsQuiet i k → IsQuietTurn i (pass_turn ps own t passage k here over w v)
passes_quietly i ps own t passage k here over w v q =
    let e : Errand = owed (parent_of ps t) t passage w in
    let wait : Turn = record { kind = Refresh; tier = t; next = here; answer = GoesOn } in
    let go : Turn =
    record {
      kind = k;
      tier = t;
      next = goes_on own (owed (parent_of ps t) t passage w);
      answer = reported v.phase (passed t passage w).parties (owed (parent_of ps t) t passage w);
    } in
    either_way (IsQuietTurn i) w.ended (last_look over) (cond (lags w v) wait go) refl
    (either_way (IsQuietTurn i) (lags w v) wait go refl q)

climbs_quietly : (i : ℕ) (ps : List ℕ) (own : Passage) (w : Fields) (v : View) (e : Errand) → IsQuietTurn i (climb_turn ps own w v e)
climbs_quietly i ps own w v Rest = refl
climbs_quietly i ps own w v Advancing = refl
climbs_quietly i ps own w v (Opening tier n stage size) = refl
climbs_quietly i ps own w v (Climbing t passage) = passes_quietly i ps own t passage (Climb passage) (Owing own) (Done v.phase) w v refl

quiet_turn : (i : ℕ) (ps : List ℕ) (ws : List Fields) (p : Progress) (v : View) → is_forcing p ≡ false → IsQuietTurn i (turn ps ws p v)
quiet_turn i ps ws Idle v e = refl
quiet_turn i ps ws (Begun (call.Join tier size)) v e =
    let root : Fields = word_at ws 0 in
    let refuses : Bool = eqb tier 0 && is_refusing size root in
    either_way (IsQuiet i) root.ended Look (cond refuses (Refuse 0 0 size) Look) refl
    (either_way (IsQuiet i) refuses (Refuse 0 0 size) Look refl refl)
quiet_turn i ps ws (Begun call.Arrive) v e = refl
quiet_turn i ps ws (Begun call.Leave) v e = refl
quiet_turn i ps ws (Begun call.Poll) v e = refl
quiet_turn i ps ws (Begun call.Force) v e = not_both true refl e
quiet_turn i ps ws (ToSeek tier size) v e =
    let k : ℕ = claimed_by v.errand in
    let t : ℕ = ancestor ps tier k in
    let w : Fields = word_at ws t in
    let p : ℕ = (refused t w v).phase in
    let over : Turn = record { kind = Look; tier = 0; next = giving_back k (end_shown w); answer = unless_claimed k (end_shown w) } in
    let no : Turn =
    record {
      kind = Refuse tier k size;
      tier = t;
      next = giving_back k (refusal t (added k size) p w);
      answer = unless_claimed k (refusal t (added k size) p w);
    } in
    let claim : Turn = record { kind = Claim tier k size; tier = t; next = ToSeek tier size; answer = GoesOn } in
    let join : Turn = record { kind = Join tier k size; tier = t; next = settling k; answer = unless_claimed k (Done w.phase) } in
    either_way (IsQuietTurn i) w.ended over (cond (is_refusing (added k size) w) no (cond (is_claimable t w) claim join)) refl
    (either_way (IsQuietTurn i) (is_refusing (added k size) w) no (cond (is_claimable t w) claim join) refl
    (either_way (IsQuietTurn i) (is_claimable t w) claim join refl refl))
quiet_turn i ps ws Settling v e = settles_quietly i ps v v.errand
quiet_turn i ps ws (ToGiveBack answer) v e = gives_back_quietly i ps answer v.errand
quiet_turn i ps ws (Passing passage) v e =
    passes_quietly i ps passage v.tier passage (own_kind passage) (Passing passage) (end_shown (word_at ws v.tier)) (word_at ws v.tier) v
    (own_quiet i passage)
quiet_turn i ps ws (Owing own) v e = climbs_quietly i ps own (word_at ws (place ps (Owing own) v)) v v.errand
quiet_turn i ps ws (Due passage) v e = refl
quiet_turn i ps ws (Refreshing moved) v e = either_way (IsQuiet i) (lags (word_at ws v.tier) v) Refresh Glance refl refl

pub goes_stay : (s : State) (i : ℕ) → IsCore s → is_forcing (call_at s.calls i) ≡ false → RootStays s (after s (Go i))
goes_stay s i core e = only_advances_move s (Go i) core tt
    (either_way (λ (l : Option FlatStep). moves_root l ≡ false) (may_go s i) (label i (turn_at s i).kind) None
    (quiet_turn i s.parents s.words (call_at s.calls i) (view_at s.views i) e) refl)

pub core_after : (s : State) (x : Step) → IsCore s → IsStepOfCalls x → IsCore (after s x)
core_after s x core is = (step_moves s x (flat_of s) core is record {
  phase = refl;
  ended = refl;
  going = λ _. record { phase = refl; ended = refl; due = refl; members = λ _. refl; arrived = λ _. refl };
}).2

pub tokens_stay : (s : State) (x : Step) → length (after s x).views ≡ length s.views
tokens_stay s x = (others_stay s x (suc (actor x)) (λ e. absurd (omega arith))).tokens

-- A step that leaves the root keeps the cast, if its token plays the role that it goes on to.
pub keeps_the_cast : (s : State) (roles : List Role) (x : Step) (next : Role) → IsCast s roles → IsStepOfCalls x → RootStays s (after s x)
    → actor x < length s.views → Plays (after s x) (actor x) next → IsCast (after s x) (set roles (actor x) next)
keeps_the_cast s roles x next cast is root h p =
    let i : ℕ = actor x in
    let long = cast.long in
    let tokens = tokens_stay s x in
    record {
      core = core_after s x cast.core is;
      going = root.ended ∙ cast.going;
      long = length-set roles i next ∙ (long ∙ sym tokens);
      plays = λ j k. ⊎_elim
          (λ (q : j ≡ i). subst (λ (n : ℕ). Plays (after s x) n (role_at (set roles i next) n)) (sym q)
          (subst (λ (r : Role). Plays (after s x) i r) (sym (get_or-set_same roles i next Out (omega arith))) p))
          (λ (q : j ≢ i). subst (λ (r : Role). Plays (after s x) j r) (sym (get_or-set_other roles i j next Out q))
          (plays_stay s (after s x) j (role_at roles j) cast.core (kept_by_others s x j (omega arith) q) root (cast.plays j (omega arith))))
          (cases_eq j i);
    }

-- what a step of a role leaves, and what it answers
pub record Goes (s : State) (i : ℕ) (r next : Role) : Type 0 where
  pub follows : Follows (flat_of s).phase r (answer_then s i) next
  pub plays : Plays (after s (Go i)) i next

pub known_after : (s : State) (i : ℕ) → i < length s.views → i < length (after s (Go i)).views
known_after s i h = let a = tokens_stay s (Go i) in omega arith
