-- The next step of a join: the role that it leaves.
use Rattle.std.proofs.Common.{◌≡◌, ℕ, zero, suc, ◌<◌, inl, inr, false, cond, length, refl, sym, ◌∙◌, ap, subst, arith, Bool, true}
use Rattle.phaser_word.specs.Fields.{Fields}
use Rattle.tier_steps.specs.declared.view.View.{View}
use Rattle.tier_steps.specs.declared.view.Errand.{Errand}
use Rattle.tier_steps.specs.declared.view.Errand.TheVariants.{Opening}
use Rattle.tier_steps.specs.declared.view.OpeningStage.TheVariants.{Joined, GoingBack}
use Rattle.tier_steps.specs.declared.kind.Kind.TheVariants.{Look, Refuse, Join, Claim}
use Rattle.tier_steps.specs.View.{ancestor}
use Rattle.tier_steps.specs.Tally.{word_at}
use Rattle.tier_steps.specs.Step.{added, refused}
use Rattle.tier_steps.proofs.Advance.{ancestor_within}
use Rattle.tier_core.specs.declared.call.Cause.{Cause}
use Rattle.tier_core.specs.declared.call.Played.{Played}
use Rattle.tier_core.specs.declared.call.Played.TheVariants.{GoesOn, Done, Held, Full}
use Rattle.tier_core.specs.declared.call.Progress.TheVariants.{Idle, Seeking as ToSeek, Settling, GivingBack as ToGiveBack}
use Rattle.tier_core.specs.declared.call.Step.TheVariants.{Go}
use Rattle.tier_core.specs.declared.call.Turn.{Turn}
use Rattle.tier_core.specs.Turn.{end_shown, claimed_by, is_refusing, is_claimable, refusal, giving_back, settling, unless_claimed, has_no_room, cause_of, seek_turn, settle_turn, give_back_turn}
use Rattle.tier_core.specs.Machine.{State, IsCore, view_at}
use Rattle.tier_core.specs.Run.{after}
use Rattle.tier_core.proofs.Turns.{not_both}
use Rattle.tier_laws.specs.Frame.{flat_of}
use Rattle.tier_laws.specs.Calls.{RootStays, view_then, call_then, answer_then, is_settling}
use Rattle.tier_laws.proofs.Holding.{is_awaited as awaited_by}
use Rattle.tier_laws.proofs.Memory.{by_turn}
use Rattle.tier_laws.proofs.Stepping.{Gone, gone, fitting}
use Rattle.tier_laws.proofs.Seeking.{joined_phase}
use Rattle.tier_laws.proofs.Members.{joins_begin_with_a_look, settling_keeps_members, refused_size, still_going}
use Rattle.job_laws.specs.Roles.{Role, Out, Joins, Seeks, Settles, GivesBack, Ready, Plays}
use Rattle.job_schedule.specs.ParticipantValue.{is_refused}
use Rattle.job_laws.proofs.Quiet.{core_after, Goes, known_after}

pub joins_go : (s : State) (i home : ℕ) → IsCore s → (flat_of s).ended ≡ false → RootStays s (after s (Go i)) → Plays s i (Joins home)
    → (next : Role) × Goes s i (Joins home) next
joins_go s i home core going root p =
    let step = joins_begin_with_a_look s i home 1 core p.0.known going p.1 in (
      Seeks home 0,
      record {
        follows = (step.answer, refl);
        plays = (record { known = known_after s i p.0.known; none = step.none }, ap claimed_by step.errand, step.call);
      },
    )

-- one member at its tier, unarrived, in no call
pub placed : (s : State) (i home : ℕ) → IsCore s → i < length s.views → RootStays s (after s (Go i)) → (view_then s i).tier ≡ home
    → (view_then s i).size ≡ 1
    → (view_then s i).arrived ≡ 0 → (view_then s i).phase ≡ (flat_of s).phase → call_then s i ≡ Idle → Plays (after s (Go i)) i (Ready home)
placed s i home core h root tier size arrived phase idle =
    let core' = core_after s (Go i) core tt in
    let known = known_after s i h in (
      record {
        late = record {
          awaited = awaited_by (after s (Go i)) i core' known (fitting (after s (Go i)) i Idle core' known idle) (omega arith);
          tier = tier;
          one = size;
        };
        phase = phase ∙ sym root.phase;
      },
      idle,
    )

-- the join was taken: it is done, or settles the tiers that it has claimed
participants : (s : State) (i home claimed k phase : ℕ) → IsCore s → i < length s.views → RootStays s (after s (Go i))
    → (view_then s i).tier ≡ home
    → (view_then s i).size ≡ 1 → (view_then s i).arrived ≡ 0 → (view_then s i).phase ≡ (flat_of s).phase → phase ≡ (flat_of s).phase
    → call_then s i ≡ settling k → answer_then s i ≡ unless_claimed k (Done phase) → (next : Role) × Goes s i (Seeks home claimed) next
participants s i home claimed zero phase core h root tier size arrived now here idle answer =
    (Ready home, record { follows = inl (answer ∙ ap Done here, refl); plays = placed s i home core h root tier size arrived now idle })
participants s i home claimed (suc k) phase core h root tier size arrived now here idle answer = (
  Settles home,
  record {
    follows = inr (inl (answer, refl));
    plays = (known_after s i h, tier, size, arrived, now ∙ sym root.phase, idle);
  },
)

refusals : (b : Bool) (parties phase : ℕ) (why : Cause) → is_refused (cond b (Full parties) (Held phase why)) ≡ true
refusals true parties phase why = refl
refusals false parties phase why = refl

-- it was refused: it is over, or gives back what it has claimed
refuses : (s : State) (i home claimed k : ℕ) (a : Played) → i < length s.views → (view_then s i).size ≡ 0 → call_then s i ≡ giving_back k a
    → answer_then s i ≡ unless_claimed k a → is_refused a ≡ true → (next : Role) × Goes s i (Seeks home claimed) next
refuses s i home claimed zero a h none idle answer denied = (
  Out,
  record {
    follows = inr (inr (inr (inl (ap is_refused answer ∙ denied, refl))));
    plays = (record { known = known_after s i h; none = none }, idle);
  },
)
refuses s i home claimed (suc k) a h none idle answer denied = (
  GivesBack,
  record {
    follows = inr (inr (inr (inr (answer, refl))));
    plays = (record { known = known_after s i h; none = none }, (a, denied, idle));
  },
)

seeks_by : (s : State) (i home claimed k t : ℕ) → IsCore s → (flat_of s).ended ≡ false → i < length s.views → RootStays s (after s (Go i))
    → t < length s.words → (view_at s.views i).size ≡ 0
    → Gone s i (seek_turn home k 1 t (word_at s.words t) (view_at s.views i)) → (next : Role) × Goes s i (Seeks home claimed) next
seeks_by s i home claimed k t core going h root within none =
    let w : Fields = word_at s.words t in
    let v : View = view_at s.views i in
    let p : ℕ = (refused t (word_at s.words t) (view_at s.views i)).phase in
    let Q : Type 0 = (next : Role) × Goes s i (Seeks home claimed) next in
    let over : Turn = record { kind = Look; tier = 0; next = giving_back k (end_shown w); answer = unless_claimed k (end_shown w) } in
    let no : Turn =
    record {
      kind = Refuse home k 1;
      tier = t;
      next = giving_back k (refusal t (added k 1) p w);
      answer = unless_claimed k (refusal t (added k 1) p w);
    } in
    let claim : Turn = record { kind = Claim home k 1; tier = t; next = ToSeek home 1; answer = GoesOn } in
    let join : Turn = record { kind = Join home k 1; tier = t; next = settling k; answer = unless_claimed k (Done w.phase) } in
    by_turn (λ r. Gone s i r → Q) w.ended over (cond (is_refusing (added k 1) w) no (cond (is_claimable t w) claim join))
    (λ q. not_both w.ended q (still_going s t core going within))
    (λ _. by_turn (λ r. Gone s i r → Q) (is_refusing (added k 1) w) no (cond (is_claimable t w) claim join)
    (λ _ g. refuses s i home claimed k (refusal t (added k 1) p w) h (ap (λ (x : View). x.size) g.view ∙ (refused_size t w v ∙ none)) g.call
    g.answer (refusals (has_no_room (added k 1) w) w.parties p (cause_of t p w)))
    (λ _. by_turn (λ r. Gone s i r → Q) (is_claimable t w) claim join
    (λ _ g. (
      Seeks home (claimed_by (view_then s i).errand),
      record {
        follows = inr (inr (inl (g.answer, (claimed_by (view_then s i).errand, refl))));
        plays = (record { known = known_after s i h; none = ap (λ (x : View). x.size) g.view ∙ none }, refl, g.call);
      },
    ))
    (λ _ g. let here = joined_phase s t (added k 1) core within g.may.needs.1 in
    participants s i home claimed k w.phase core h root (ap (λ (x : View). x.tier) g.view) (ap (λ (x : View). x.size) g.view)
    (ap (λ (x : View). x.arrived) g.view) (ap (λ (x : View). x.phase) g.view ∙ here) here g.call g.answer)))

pub seeks_go : (s : State) (i home claimed : ℕ) → IsCore s → (flat_of s).ended ≡ false → RootStays s (after s (Go i))
    → Plays s i (Seeks home claimed)
    → (next : Role) × Goes s i (Seeks home claimed) next
seeks_go s i home claimed core going root p =
    let k : ℕ = claimed_by (view_at s.views i).errand in
    let fits = fitting s i (ToSeek home 1) core p.0.known p.2 in
    seeks_by s i home claimed k (ancestor s.parents home k) core going p.0.known root
    (subst (λ (n : ℕ). ancestor s.parents home k < n) (sym core.tally.long) (ancestor_within s.parents home k core.shape fits.1.place))
    p.0.none (gone s i (ToSeek home 1) core p.0.known p.2 refl)

-- what follows a join
settled_by : (s : State) (i home k : ℕ) → IsCore s → i < length s.views → RootStays s (after s (Go i)) → (view_then s i).tier ≡ home
    → (view_then s i).size ≡ 1 → (view_then s i).arrived ≡ 0 → (view_then s i).phase ≡ (flat_of s).phase
    → (view_at s.views i).phase ≡ (flat_of s).phase
    → call_then s i ≡ settling k → answer_then s i ≡ unless_claimed k (Done (view_at s.views i).phase)
    → (next : Role) × Goes s i (Settles home) next
settled_by s i home zero core h root tier size arrived now here idle answer =
    (Ready home, record { follows = inl (answer ∙ ap Done here, refl); plays = placed s i home core h root tier size arrived now idle })
settled_by s i home (suc k) core h root tier size arrived now here idle answer =
    (Settles home, record { follows = inr (answer, refl); plays = (known_after s i h, tier, size, arrived, now ∙ sym root.phase, idle) })

pub settles_go : (s : State) (i home : ℕ) → IsCore s → RootStays s (after s (Go i)) → Plays s i (Settles home)
    → (next : Role) × Goes s i (Settles home) next
settles_go s i home core root p =
    let fits = fitting s i Settling core p.0 p.5 in
    let same = settling_keeps_members s i core p.0 (ap is_settling p.5) in
    let g : Gone s i (settle_turn s.parents (view_at s.views i) (Opening fits.0 (suc fits.1) Joined fits.2)) =
    subst (λ (x : Errand). Gone s i (settle_turn s.parents (view_at s.views i) x)) fits.3 (gone s i Settling core p.0 p.5 refl) in
    settled_by s i home fits.1 core p.0 root (same.tier ∙ p.1) (same.size ∙ p.2) (same.arrived ∙ p.3) (same.phase ∙ p.4) p.4 g.call g.answer

given_back_by : (s : State) (i k : ℕ) (a : Played) → i < length s.views → (view_then s i).size ≡ 0 → call_then s i ≡ giving_back k a
    → answer_then s i ≡ unless_claimed k a → is_refused a ≡ true → (next : Role) × Goes s i GivesBack next
given_back_by s i zero a h none idle answer denied =
    (Out, record { follows = inl (ap is_refused answer ∙ denied, refl); plays = (record { known = known_after s i h; none = none }, idle) })
given_back_by s i (suc k) a h none idle answer denied =
    (GivesBack, record { follows = inr (answer, refl); plays = (record { known = known_after s i h; none = none }, (a, denied, idle)) })

pub gives_back_go : (s : State) (i : ℕ) → IsCore s → Plays s i GivesBack → (next : Role) × Goes s i GivesBack next
gives_back_go s i core p =
    let a : Played = p.1.0 in
    let fits = fitting s i (ToGiveBack a) core p.0.known p.1.2 in
    let same = settling_keeps_members s i core p.0.known (ap is_settling p.1.2) in
    let g : Gone s i (give_back_turn s.parents a (Opening fits.0 (suc fits.1) GoingBack fits.2)) =
    subst (λ (x : Errand). Gone s i (give_back_turn s.parents a x)) fits.3 (gone s i (ToGiveBack a) core p.0.known p.1.2 refl) in
    given_back_by s i fits.1 a p.0.known (same.size ∙ p.0.none) g.call g.answer p.1.1
