-- What the steps of an arrival and a departure say.
use Rattle.std.proofs.Common.{◌≡◌, ℕ, ◌<◌, true, false, List, ◌∷◌, length, length-set, refl, sym, ◌∙◌, ap, subst}
use Rattle.std.specs.Prelude.{◌↔◌}
use Rattle.std.proofs.lemmas.List.{get_or-set_same}
use Rattle.phaser_word.specs.Fields.{Fields}
use Rattle.flat_phaser.specs.Flat.{registered}
use Rattle.tier_steps.specs.declared.view.View.{View}
use Rattle.tier_steps.specs.declared.view.Errand.{Errand}
use Rattle.tier_steps.specs.declared.view.Errand.TheVariants.{Rest, Climbing, Advancing}
use Rattle.tier_steps.specs.declared.view.Passage.{Passage}
use Rattle.tier_steps.specs.declared.view.Passage.TheVariants.{Arrival, Departure}
use Rattle.tier_steps.specs.declared.kind.Kind.{Kind}
use Rattle.tier_steps.specs.declared.kind.Kind.TheVariants.{Climb}
use Rattle.tier_shape.specs.Parents.{parent_of}
use Rattle.tier_steps.specs.View.{new_view}
use Rattle.tier_steps.specs.Tally.{blank, word_at, root_phase}
use Rattle.tier_steps.specs.Step.{passed, owed, word_after}
use Rattle.tier_steps.specs.Laws.{words_after, stepped_view}
use Rattle.tier_steps.specs.Image.{label}
use Rattle.tier_steps.proofs.Closing.{phase_passed, ended_passed}
use Rattle.tier_core.specs.declared.call.Call.{Call}
use Rattle.tier_core.specs.declared.call.Call.TheVariants as call
use Rattle.tier_core.specs.declared.call.Played.{Played}
use Rattle.tier_core.specs.declared.call.Progress.{Progress}
use Rattle.tier_core.specs.declared.call.Turn.{Turn}
use Rattle.tier_core.specs.Turn.{own_kind, last_look, pass_turn}
use Rattle.tier_core.specs.Machine.{State, IsCore, view_at, is_active, played}
use Rattle.tier_core.proofs.Places.{MayPlay, played_core}
use Rattle.tier_laws.specs.Moments.{Moment, flat_after}
use Rattle.tier_laws.specs.Reports.{IsCounted, MakesDue, IsDoneIn, Tells}
use Rattle.tier_laws.proofs.Ending.{at, owing_is_ready}
use Rattle.tier_laws.proofs.Memory.{any_here, call_of, Remembers, Goal, no_last, done_later}
use Rattle.tier_laws.proofs.Passing.{by_passing, passed_turn, refresh_turn}

-- The step that passes a tier: what it makes of word and view, and what it says of the call.
pub record Passer (s : State) (i : ℕ) (c : Call) (past : List Moment) (t : ℕ) (passage : Passage) (kind : Kind) : Type 0 where
  pub known : i < length s.views
  pub within : t < length s.words
  pub current : (view_at s.views i).phase ≡ root_phase s.words
  pub word : word_after kind t (word_at s.words t) (view_at s.views i) ≡ passed t passage (word_at s.words t)
  pub phase : (stepped_view s.parents s.words kind t (view_at s.views i)).phase ≡ (view_at s.views i).phase
  pub errand : (stepped_view s.parents s.words kind t (view_at s.views i)).errand
      ≡ owed (parent_of s.parents t) t passage (word_at s.words t)
  pub done : (r : Turn) → r.kind ≡ kind → IsDoneIn i c (view_at s.views i).phase (at i s r ∷ past)

-- the step that makes the root's advance due
makes_due : (s : State) (i : ℕ) (c : Call) (past : List Moment) (t : ℕ) (passage : Passage) (kind : Kind) (r : Turn) → IsCore s
    → Passer s i c past t passage kind → MayPlay s i r → (word_at s.words t).ended ≡ false → t ≡ 0 → r.kind ≡ kind → r.tier ≡ t
    → owed (parent_of s.parents t) t passage (word_at s.words t) ≡ Advancing
    → MakesDue i (view_at s.views i).phase (passed t passage (word_at s.words t)).parties (at i s r)
makes_due s i c past t passage kind r core is may going z kind_is tier_is owes =
    let v : View = view_at s.views i in
    let v' : View = stepped_view s.parents s.words r.kind r.tier (view_at s.views i) in
    let s' : State = played s i r in
    let core' = played_core s i r core is.known may in
    let known' : i < length s'.views = subst (λ (n : ℕ). i < n)
    (sym (length-set s.views i (stepped_view s.parents s.words r.kind r.tier (view_at s.views i)))) is.known in
    let same : stepped_view s.parents s.words r.kind r.tier (view_at s.views i)
    ≡ stepped_view s.parents s.words kind t (view_at s.views i) =
    ap (λ k. stepped_view s.parents s.words k r.tier (view_at s.views i)) kind_is
    ∙ ap (λ n. stepped_view s.parents s.words kind n (view_at s.views i)) tier_is in
    let own : view_at s'.views i ≡ stepped_view s.parents s.words r.kind r.tier (view_at s.views i) =
    get_or-set_same s.views i (stepped_view s.parents s.words r.kind r.tier (view_at s.views i)) (new_view 0) is.known in
    let errand : (view_at s'.views i).errand ≡ Advancing = ap (λ (x : View). x.errand) (own ∙ same) ∙ (is.errand ∙ owes) in
    let root : word_at s'.words 0 ≡ passed t passage (word_at s.words t) =
    ap (λ k. word_at (words_after s.words k r.tier (view_at s.views i)) 0) kind_is
    ∙ (ap (λ n. word_at (words_after s.words kind n (view_at s.views i)) 0) tier_is
    ∙ (ap (λ n. word_at (words_after s.words kind t (view_at s.views i)) n) (sym z)
    ∙ (get_or-set_same s.words t (word_after kind t (word_at s.words t) (view_at s.views i)) blank is.within ∙ is.word))) in
    let ended : (word_at s'.words 0).ended ≡ false =
    ap (λ (x : Fields). x.ended) root ∙ (ended_passed t passage (word_at s.words t) ∙ going) in
    let phase : (word_at s'.words 0).phase ≡ (view_at s.views i).phase = ap (λ (x : Fields). x.phase) root
    ∙ (phase_passed t passage (word_at s.words t) ∙ (ap (λ n. (word_at s.words n).phase) z ∙ sym is.current)) in
    let ready = owing_is_ready s' i core' known' errand ended in
    record {
      going = ended;
      due = ready.due;
      phase = phase;
      root = ap (λ (x : Fields). x.parties) root;
      nobody = subst (λ (n : ℕ). (n ≡ 0) ↔ (registered (flat_after (at i s r)) ≡ 0)) (ap (λ (x : Fields). x.parties) root) ready.nobody;
    }

-- a party passes a tier, or the tier is refreshed first, or the tree has ended
pub pass_tells : (s : State) (i : ℕ) (c : Call) (past : List Moment) (own : Passage) (t : ℕ) (passage : Passage) (kind : Kind)
    (here : Progress) (over : Played)
    → IsCore s → Passer s i c past t passage kind
    → ((word_at s.words t).ended ≡ true → (r : Turn) → MayPlay s i r → Tells i c (at i s r) past over)
    → ((m : Moment) → Remembers i c (m ∷ past) here (view_at s.views i)) → is_active here ≡ true
    → Goal s i c past (pass_turn s.parents own t passage kind here over (word_at s.words t) (view_at s.views i))
pass_tells s i c past own t passage kind here over core is past_end stays active =
    let w : Fields = word_at s.words t in
    let v : View = view_at s.views i in
    let goes : Errand → Turn = passed_turn own t passage kind w v in
    by_passing (Goal s i c past) s.parents own t passage kind here over w v
    (λ e may. record { reported = record { tells = past_end e (last_look over) may; ends = λ _. refl }; keeps = tt })
    (λ _ _ may. record { reported = record { tells = active; ends = λ x. no_last x }; keeps = stays (at i s (refresh_turn t here)) })
    (λ _ _ may. record { reported = record { tells = is.done (goes Rest) refl; ends = λ _. refl }; keeps = tt })
    (λ going z owes may. record {
      reported =
          record {
            tells = (refl, makes_due s i c past t passage kind (goes Advancing) core is may going z refl refl owes);
            ends = λ x. no_last x;
          };
      keeps = subst (λ (n : ℕ). IsDoneIn i c n (at i s (goes Advancing) ∷ past)) (sym is.phase) (is.done (goes Advancing) refl);
    })
    (λ _ j _ _ may. record {
      reported = record { tells = refl; ends = λ x. no_last x };
      keeps = subst (λ (n : ℕ). IsDoneIn i c n (at i s (goes (Climbing (parent_of s.parents t) j)) ∷ past)) (sym is.phase)
          (is.done (goes (Climbing (parent_of s.parents t) j)) refl);
    })

-- the step at the token's tier, of an arrival and of a departure, is the flat step
own_done : (s : State) (i : ℕ) (past : List Moment) (passage : Passage) (r : Turn) → (view_at s.views i).phase ≡ root_phase s.words
    → r.kind ≡ own_kind passage → IsDoneIn i (call_of passage) (view_at s.views i).phase (at i s r ∷ past)
own_done s i past Arrival r current e =
    any_here (IsCounted i call.Arrive (view_at s.views i).phase) (at i s r) past record { label = ap (label i) e; phase = sym current }
own_done s i past Departure r current e =
    any_here (IsCounted i call.Leave (view_at s.views i).phase) (at i s r) past record { label = ap (label i) e; phase = sym current }

pub own_passer : (s : State) (i : ℕ) (past : List Moment) (passage : Passage) → i < length s.views
    → (view_at s.views i).tier < length s.words
    → (view_at s.views i).phase ≡ root_phase s.words → Passer s i (call_of passage) past (view_at s.views i).tier passage (own_kind passage)
own_passer s i past Arrival h within current = record {
  known = h;
  within = within;
  current = current;
  word = refl;
  phase = refl;
  errand = refl;
  done = λ r e. own_done s i past Arrival r current e;
}
own_passer s i past Departure h within current = record {
  known = h;
  within = within;
  current = current;
  word = refl;
  phase = refl;
  errand = refl;
  done = λ r e. own_done s i past Departure r current e;
}

-- a step of a climb
pub climb_passer : (s : State) (i : ℕ) (c : Call) (past : List Moment) (t : ℕ) (passage : Passage) → i < length s.views → t < length s.words
    → (view_at s.views i).phase ≡ root_phase s.words → IsDoneIn i c (view_at s.views i).phase past
    → Passer s i c past t passage (Climb passage)
climb_passer s i c past t passage h within current done = record {
  known = h;
  within = within;
  current = current;
  word = refl;
  phase = refl;
  errand = refl;
  done = λ r _. done_later i c (view_at s.views i).phase (at i s r) past done;
}
