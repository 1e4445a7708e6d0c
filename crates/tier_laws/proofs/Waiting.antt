-- The root waits for the advance that a token has to take.
use Rattle.std.proofs.Common.{◌≡◌, ◌≢◌, ℕ, suc, ◌+◌, ◌<◌, ⊎_elim, true, false, cond, eqb, List, [], ◌∷◌, length, refl, sym, ◌∙◌, ap, subst, arith}
use Rattle.std.proofs.lemmas.Bool.{cases_eq}
use Rattle.std.proofs.lemmas.List.{get_or-set_same, get_or-set_other}
use Rattle.phaser_word.specs.Fields.{Fields}
use Rattle.tier_steps.specs.Word.{is_being_opened}
use Rattle.tier_steps.specs.declared.view.Errand.TheVariants.{Opening, Advancing}
use Rattle.tier_steps.specs.declared.view.OpeningStage.{OpeningStage}
use Rattle.tier_steps.specs.declared.view.OpeningStage.TheVariants.{Joined, GoingBack}
use Rattle.tier_steps.specs.declared.kind.Kind.{Kind}
use Rattle.tier_steps.specs.declared.kind.Kind.TheVariants.{Look, Glance, Refuse, Join, Arrive, Leave, Advance, Force, Claim, Settle, SettleBack, Climb, Refresh}
use Rattle.tier_steps.specs.View.{ancestor, claims_on, errand_claims, claim_share, errand_advances, advance_share}
use Rattle.tier_steps.specs.Tally.{blank, word_at, root_phase, bit}
use Rattle.tier_steps.specs.SpelledOut.{is_under_way}
use Rattle.tier_steps.specs.Step.{Needs, word_after}
use Rattle.tier_steps.specs.Laws.{words_after}
use Rattle.tier_steps.proofs.Advance.{zero_field}
use Rattle.tier_steps.proofs.Known.{refresher}
use Rattle.tier_core.specs.declared.call.Call.{Call}
use Rattle.tier_core.specs.declared.call.Played.{Played}
use Rattle.tier_core.specs.declared.call.Played.TheVariants.{Done, MustAdvance}
use Rattle.tier_core.specs.declared.call.Progress.TheVariants.{Idle, Begun}
use Rattle.tier_core.specs.declared.call.Step.TheVariants.{Begin, Go, Finish}
use Rattle.tier_core.specs.declared.call.Turn.{Turn}
use Rattle.tier_core.specs.Machine.{State, IsCore, view_at, call_at, is_due, turn_at, played, with_token}
use Rattle.tier_core.specs.Run.{may_begin, may_go, may_finish, begun, finish_at, plan_ends}
use Rattle.tier_core.proofs.Turns.{not_both}
use Rattle.tier_core.proofs.Places.{MayPlay, turn_may}
use Rattle.tier_core.proofs.Runs.{due_advances, finish_may, begun_core}
use Rattle.tier_laws.specs.Frame.{flat_of}
use Rattle.tier_laws.specs.Hold.{IsStill}
use Rattle.tier_laws.specs.Moments.{Moment, run_of, moments}
use Rattle.tier_laws.specs.Reports.{Tells}
use Rattle.tier_laws.specs.Waits.{HasRoot, TheRootWaits, IsAsReported, LatestIsKept, AdvancesAreAwaited}
use Rattle.tier_laws.proofs.Framing.{after_either}
use Rattle.tier_laws.proofs.Planning.{known_active, known_due}
use Rattle.tier_laws.proofs.Holding.{part, fits_at, advances_are_alone}
use Rattle.tier_laws.proofs.Ending.{alike_itself, at, imaged}
use Rattle.tier_laws.proofs.Reached.{Alikes, reached}
use Rattle.tier_laws.proofs.Along.{Carries, OfToken, along, begun_known, call_stays}
use Rattle.tier_laws.proofs.Telling.{Story, stories, begun_story}

-- the root's field is 0 while a token has to advance it
field_zero : (s : State) (i : ℕ) → IsCore s → i < length s.views → (view_at s.views i).errand ≡ Advancing
    → (word_at s.words 0).ended ≡ false
    → (word_at s.words 0).unarrived ≡ 0
field_zero s i core h owes going =
    let one : advance_share (view_at s.views i) ≡ 1 = ap errand_advances owes in
    zero_field (word_at s.words 0).unarrived
    (let a = part s advance_share i h in let b = core.tally.advances going in omega arith)

-- nobody has claimed the root
unclaimed_root : (s : State) (j : ℕ) (tier claimed size : ℕ) (stage : OpeningStage) → IsCore s → j < length s.views
    → 0 ≡ ancestor s.parents tier claimed
    → (view_at s.views j).errand ≡ Opening tier (suc claimed) stage size → {A : Type 0} → A
unclaimed_root s j tier claimed size stage core h here owes = absurd (
    let a : claim_share s.parents 0 (view_at s.views j) ≡ claims_on s.parents tier (suc claimed) 0 = ap (errand_claims s.parents 0) owes in
    let b = part s (claim_share s.parents 0) j h in
    let c = core.tally.claims 0 core.tally.some in
    let d : bit (is_being_opened (word_at s.words 0)) ≡ 0 = ap bit core.tally.root_claims in
    let e : claims_on s.parents tier (suc claimed) 0 ≡ 1 + claims_on s.parents tier claimed 0 =
    ap (λ n. cond {A = ℕ} (eqb n 0) 1 0 + claims_on s.parents tier claimed 0) (sym here) in
    omega arith)

-- what a step of another token at the root leaves of its phase and its parties
record KeepsRoot (w w' : Fields) : Type 0 where
  phase : w'.phase ≡ w.phase
  parties : w'.parties ≡ w.parties

same_root : (w : Fields) → KeepsRoot w w
same_root w = record { phase = refl; parties = refl }

-- an ended root takes no step that counts, and one that is to be advanced none either
never : (s : State) (i j : ℕ) → IsCore s → i < length s.views → (view_at s.views i).errand ≡ Advancing → j < length s.views → j ≢ i
    → {A : Type 0} → (word_at s.words 0).ended ≡ false → (IsStill (root_phase s.words) (view_at s.views j) → ⊥) → A
never s i j core h owes k n going wrong = absurd (wrong (advances_are_alone s i j core going h owes k n))

by_kind : (s : State) (i j : ℕ) (kind : Kind) → IsCore s → i < length s.views → (view_at s.views i).errand ≡ Advancing → j < length s.views
    → j ≢ i
    → Needs s.parents kind 0 (word_at s.words 0) (view_at s.views j)
    → KeepsRoot (word_at s.words 0) (word_after kind 0 (word_at s.words 0) (view_at s.views j))
by_kind s i j Look core h owes k n needs = same_root (word_at s.words 0)
by_kind s i j Glance core h owes k n needs = same_root (word_at s.words 0)
by_kind s i j (Refuse tier claimed size) core h owes k n needs = same_root (word_at s.words 0)
by_kind s i j (Join tier claimed size) core h owes k n needs = absurd
    (let a = field_zero s i core h owes needs.1.going in let b = needs.1.waits in omega arith)
by_kind s i j Arrive core h owes k n needs =
    never s i j core h owes k n needs.going (λ still. let a = still.arrived in let b = needs.unarrived in let f : ⊥ = omega arith in f)
by_kind s i j Leave core h owes k n needs =
    never s i j core h owes k n needs.going (λ still. let a = still.arrived in let b = needs.unarrived in let f : ⊥ = omega arith in f)
by_kind s i j (Advance ends) core h owes k n needs =
    never s i j core h owes k n needs.1.going
    (λ still. not_both (is_under_way (view_at s.views j).errand) (ap is_under_way needs.1.errand) still.errand)
by_kind s i j Force core h owes k n needs = record { phase = refl; parties = refl }
by_kind s i j (Claim tier claimed size) core h owes k n needs = absurd (let a = needs.1.below in omega arith)
by_kind s i j (Settle tier claimed size) core h owes k n needs = unclaimed_root s j tier claimed size Joined core k needs.0 needs.1
by_kind s i j (SettleBack tier claimed size) core h owes k n needs = unclaimed_root s j tier claimed size GoingBack core k needs.0 needs.1
by_kind s i j (Climb passage) core h owes k n needs =
    never s i j core h owes k n needs.going
    (λ still. not_both (is_under_way (view_at s.views j).errand) (ap is_under_way needs.errand) still.errand)
by_kind s i j Refresh core h owes k n needs =
    let now =
    refresher s.parents (root_phase s.words) (word_at s.words 0).ended 0 (word_at s.words 0) (view_at s.views j) (fits_at s j core k)
    needs in
    absurd (needs.behind (sym now))

turn_keeps : (s : State) (i j : ℕ) (r : Turn) → IsCore s → i < length s.views → (view_at s.views i).errand ≡ Advancing → j < length s.views
    → j ≢ i
    → MayPlay s j r → KeepsRoot (word_at s.words 0) (word_at (played s j r).words 0)
turn_keeps s i j r core h owes k n may =
    let w' : Fields = word_after r.kind r.tier (word_at s.words r.tier) (view_at s.views j) in
    ⊎_elim
    (λ (z : r.tier ≡ 0).
    let needs : Needs s.parents r.kind 0 (word_at s.words 0) (view_at s.views j) =
    subst (λ (t : ℕ). Needs s.parents r.kind t (word_at s.words t) (view_at s.views j)) z may.needs in
    let kept = by_kind s i j r.kind core h owes k n needs in
    let here : word_at (played s j r).words 0 ≡ word_after r.kind 0 (word_at s.words 0) (view_at s.views j) =
    ap (λ t. word_at (words_after s.words r.kind t (view_at s.views j)) 0) z
    ∙ get_or-set_same s.words 0 (word_after r.kind 0 (word_at s.words 0) (view_at s.views j)) blank core.tally.some in
    subst (λ (w : Fields). KeepsRoot (word_at s.words 0) w) (sym here) kept)
    (λ (m : r.tier ≢ 0).
    subst (λ (w : Fields). KeepsRoot (word_at s.words 0) w) (sym (get_or-set_other s.words r.tier 0 w' blank (λ e. m (sym e))))
    (same_root (word_at s.words 0)))
    (cases_eq r.tier 0)

has_root : (s s' : State) (phase parties : ℕ) → KeepsRoot (word_at s.words 0) (word_at s'.words 0) → HasRoot s phase parties
    → HasRoot s' phase parties
has_root s s' phase parties kept is = record { phase = kept.phase ∙ is.phase; parties = kept.parties ∙ is.parties }

owes_at : (s : State) (i : ℕ) → IsCore s → i < length s.views → is_due (call_at s.calls i) ≡ true → (view_at s.views i).errand ≡ Advancing
owes_at s i core h due = due_advances s.parents (call_at s.calls i) (view_at s.views i) due (core.calls i h)

pub the_root_waits : TheRootWaits
the_root_waits s (Begin j c) i phase parties core is may n root =
    after_either (λ x. HasRoot x phase parties) (may_begin s j c) s (begun s j c)
    (λ _. record { phase = root.phase; parties = root.parties }) root
the_root_waits s (Go j) i phase parties core is may n root =
    let a = known_due s i may in
    after_either (λ x. HasRoot x phase parties) (may_go s j) s (played s j (turn_at s j))
    (λ e. let b = known_active s j e in
    has_root s (played s j (turn_at s j)) phase parties
    (turn_keeps s i j (turn_at s j) core a.0 (owes_at s i core a.0 a.1) b.0 (λ q. n (sym q)) (turn_may s j core b.0 b.1)) root) root
the_root_waits s (Finish j) i phase parties core is may n root =
    let a = known_due s i may in
    after_either (λ x. HasRoot x phase parties) (may_finish s j) s (played s j (finish_at s j (plan_ends s)))
    (λ e. let b = known_due s j e in
    has_root s (played s j (finish_at s j (plan_ends s))) phase parties
    (turn_keeps s i j (finish_at s j (plan_ends s)) core a.0 (owes_at s i core a.0 a.1) b.0 (λ q. n (sym q)) (finish_may s j (plan_ends s) core b.0 b.1))
    root)
    root

-- along a call
record Kept (i : ℕ) (c : Call) (s : State) (past : List Moment) : Type 0 where
  story : OfToken i (Story i c) s past
  latest : LatestIsKept i s past

not_done : (phase now parties : ℕ) → {A : Type 0} → Done phase ≡ MustAdvance now parties → A
not_done phase now parties e = absurd (let a : Done phase ≡ MustAdvance now parties = e in cc)

latest_stays : (i : ℕ) (s s' : State) (past : List Moment)
    → ((phase parties : ℕ) → IsAsReported s i phase parties → IsAsReported s' i phase parties) → LatestIsKept i s past
    → LatestIsKept i s' past
latest_stays i s s' [] keeps h = tt
latest_stays i s s' (m ∷ past) keeps h = λ phase parties e. keeps phase parties (h phase parties e)

kept : (i : ℕ) (c : Call) → Carries i (Kept i c)
kept i c = record {
  goes = λ s past core h active may here.
      let story = (stories i c).goes s past core h active may here.story in
      record {
        story = story;
        latest = λ phase parties e.
            let reported : Tells i c (at i s (turn_at s i)) past (MustAdvance phase parties) =
            subst (λ (a : Played). Tells i c (at i s (turn_at s i)) past a) e story.1.tells in
            record {
              due = ap is_due (get_or-set_same s.calls i (turn_at s i).next Idle (let l = core.long in omega arith)) ∙ reported.0;
              root = record { phase = reported.1.phase; parties = reported.1.root };
            };
      };
  ends = λ s past core h due may here. record {
    story = (stories i c).ends s past core h due may here.story;
    latest = λ phase parties e. not_done (view_at s.views i).phase phase parties e;
  };
  others = λ s past j r core h k n may here. record {
    story = (stories i c).others s past j r core h k n may here.story;
    latest = latest_stays i s (played s j r) past
        (λ phase parties reported. record {
          due = ap is_due (get_or-set_other s.calls j i r.next Idle n) ∙ reported.due;
          root = has_root s (played s j r) phase parties
              (turn_keeps s i j r core h (owes_at s i core h reported.due) k (λ q. n (sym q)) may) reported.root;
        }) here.latest;
  };
  begins = λ s past j d core h n here. record {
    story = (stories i c).begins s past j d core h n here.story;
    latest = latest_stays i s (begun s j d) past
        (λ phase parties reported. record {
          due = ap is_due (get_or-set_other s.calls j i (Begun d) Idle n) ∙ reported.due;
          root = record { phase = reported.root.phase; parties = reported.root.parties };
        }) here.latest;
  };
  enters = λ s past core h here. record {
    story = (stories i c).enters s past core h here.story;
    latest = latest_stays i s (with_token s) past
        (λ phase parties reported. record {
          due = ap is_due (call_stays s i core h) ∙ reported.due;
          root = record { phase = reported.root.phase; parties = reported.root.parties };
        }) here.latest;
  };
}

latest_moment : (i : ℕ) (s : State) (ms ns : List Moment) → Alikes ms ns → LatestIsKept i s ns → LatestIsKept i s ms
latest_moment i s [] [] h t = tt
latest_moment i s [] (n ∷ ns) h t = absurd h
latest_moment i s (m ∷ ms) [] h t = absurd h
latest_moment i s (m ∷ ms) (n ∷ ns) h t = λ phase parties e. t phase parties (sym (ap (λ (x : Moment). x.turn.answer) h.0.is) ∙ e)

pub advances_are_awaited : AdvancesAreAwaited
advances_are_awaited s i c events core is may are own =
    latest_moment i (run_of events (begun s i c)) (moments i events (begun s i c) (flat_of s) []) (imaged i events (begun s i c) [])
    (reached i events (begun s i c) (flat_of s) [] [] (begun_core s i c core is may) are (alike_itself (flat_of s)) tt)
    (along i (Kept i c) (kept i c) events (begun s i c) [] (begun_core s i c core is may) (begun_known s i c may)
    (record { story = begun_story s i c core may; latest = tt }) are own).holds.latest
