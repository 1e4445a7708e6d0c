-- What a step of a call leaves, in the words of the turn that it is, and the steps of polls, arrivals and departures.
use Rattle.std.proofs.Common.{◌≡◌, ◌≢◌, ℕ, suc, ◌-◌, ◌<◌, ◌⊎◌, inl, inr, ⊎_elim, Bool, true, false, cond, eqb, ltb, List, length, set, take, drop, refl, sym, ◌∙◌, ap, subst, arith, Some, None, [], ◌∷◌}
use Rattle.std.specs.Prelude.{◌&&◌, not, Option}
use Rattle.std.proofs.lemmas.Bool.{cases_eq, eq-eqb, ne_eqb, eqb-true, lt-ltb}
use Rattle.std.proofs.lemmas.List.{get_or-set_same, set-get_or}
use Rattle.phaser_word.specs.Fields.{Fields}
use Rattle.flat_phaser.specs.declared.FlatStep.{FlatStep}
use Rattle.flat_phaser.specs.declared.FlatStep.TheVariants as flat
use Rattle.flat_phaser.specs.Flat.{Flat}
use Rattle.flat_phaser.specs.Step.{taken}
use Rattle.tier_steps.specs.declared.view.View.{View}
use Rattle.tier_steps.specs.declared.kind.Kind.{Kind}
use Rattle.tier_steps.specs.declared.kind.Kind.TheVariants.{Look, Glance, Refuse, Join, Arrive, Leave, Advance, Force, Claim, Settle, SettleBack, Climb, Refresh}
use Rattle.tier_steps.specs.View.{new_view, absent}
use Rattle.tier_steps.specs.Tally.{blank, word_at, root_phase}
use Rattle.tier_steps.specs.Word.{refreshed}
use Rattle.tier_steps.specs.Step.{looked}
use Rattle.tier_steps.specs.Laws.{words_after, stepped_view}
use Rattle.tier_steps.specs.Image.{label, labelled}
use Rattle.tier_steps.specs.Due.{is_advance}
use Rattle.tier_steps.proofs.Pass.{stands, waiting_open, unarrived_is_current}
use Rattle.tier_steps.proofs.Ready.{phases_stay}
use Rattle.tier_core.specs.declared.call.Call.TheVariants as call
use Rattle.tier_core.specs.declared.call.Played.{Played}
use Rattle.tier_core.specs.declared.call.Played.TheVariants.{GoesOn, Done, Passed, Waiting}
use Rattle.tier_core.specs.declared.call.Progress.{Progress}
use Rattle.tier_core.specs.declared.call.Progress.TheVariants.{Idle, Begun, Seeking as ToSeek, Settling, GivingBack as ToGiveBack, Passing, Owing, Due, Refreshing}
use Rattle.tier_core.specs.declared.call.Step.{Step}
use Rattle.tier_core.specs.declared.call.Step.TheVariants.{Begin, Go, Finish}
use Rattle.tier_core.specs.declared.call.Turn.{Turn}
use Rattle.tier_core.specs.Turn.{end_shown, lags, polled, turn}
use Rattle.tier_core.specs.Machine.{State, IsCore, CallFits, view_at, call_at, is_active, turn_at, played}
use Rattle.tier_core.specs.Run.{may_begin, may_go, may_finish, begun, finish_at, plan_ends, after, step_label}
use Rattle.tier_core.proofs.Turns.{by_test, not_both, looked_size, looked_tier, looked_rests}
use Rattle.tier_core.proofs.Places.{MayPlay, is_step, turn_may}
use Rattle.tier_core.proofs.Runs.{finish_may, step_moves}
use Rattle.tier_laws.specs.Frame.{flat_of}
use Rattle.tier_laws.specs.Hold.{IsAwaited}
use Rattle.tier_laws.specs.Calls.{moves_root, OnlyAdvancesMove, view_then, call_then, answer_then, IsPollStep, is_poll, PollsFollowTheRoot}
use Rattle.tier_laws.proofs.Planning.{known_active, known_due}
use Rattle.tier_laws.proofs.Holding.{split, fits_at, awaited_late}
use Rattle.tier_laws.proofs.Ending.{at, own_imaged}
use Rattle.tier_laws.proofs.Counting.{looked_is}

-- a step of a call is this turn
pub record Gone (s : State) (i : ℕ) (r : Turn) : Type 0 where
  pub answer : answer_then s i ≡ r.answer
  pub kind : (turn_at s i).kind ≡ r.kind
  pub view : view_then s i ≡ stepped_view s.parents s.words r.kind r.tier (view_at s.views i)
  pub call : call_then s i ≡ r.next
  pub words : (after s (Go i)).words ≡ words_after s.words r.kind r.tier (view_at s.views i)
  pub may : MayPlay s i r
  pub views : (after s (Go i)).views ≡ set s.views i (stepped_view s.parents s.words r.kind r.tier (view_at s.views i))
  pub parents : (after s (Go i)).parents ≡ s.parents
  pub label : step_label s (Go i) ≡ label i r.kind
  pub moment : own_imaged i s (Go i) ≡ at i s (turn_at s i) ∷ []

both : (a b : Bool) → a ≡ true → b ≡ true → (a && b) ≡ true
both a b e f = ap (λ x. x && b) e ∙ f

gone_at : (s : State) (i : ℕ) → IsCore s → i < length s.views → is_active (call_at s.calls i) ≡ true → Gone s i (turn_at s i)
gone_at s i core h active =
    let r : Turn = turn_at s i in
    let may : may_go s i ≡ true = both (ltb i (length s.views)) (is_active (call_at s.calls i)) (lt-ltb i (length s.views) h) active in
    let here : after s (Go i) ≡ played s i (turn_at s i) = ap (λ b. cond b (played s i (turn_at s i)) s) may in
    record {
      answer = refl;
      kind = refl;
      view = ap (λ (x : State). view_at x.views i) here
          ∙ get_or-set_same s.views i (stepped_view s.parents s.words r.kind r.tier (view_at s.views i)) (new_view 0) h;
      call = ap (λ (x : State). call_at x.calls i) here
          ∙ get_or-set_same s.calls i (turn_at s i).next Idle (let l = core.long in omega arith);
      words = ap (λ (x : State). x.words) here;
      may = turn_may s i core h active;
      views = ap (λ (x : State). x.views) here;
      parents = ap (λ (x : State). x.parents) here;
      label = ap (λ b. cond b (label i (turn_at s i).kind) None) may;
      moment =
          ap (λ b. cond b (cond (may_go s i) (at i s (turn_at s i) ∷ []) []) []) (eq-eqb i i refl)
          ∙ ap (λ b. cond b (at i s (turn_at s i) ∷ []) []) may;
    }

-- by how far the call has come
pub gone : (s : State) (i : ℕ) (p : Progress) → IsCore s → i < length s.views → call_at s.calls i ≡ p → is_active p ≡ true
    → Gone s i (turn s.parents s.words p (view_at s.views i))
gone s i p core h e active =
    subst (λ (q : Progress). Gone s i (turn s.parents s.words q (view_at s.views i))) e (gone_at s i core h (ap is_active e ∙ active))

-- what fits a call
pub fitting : (s : State) (i : ℕ) (p : Progress) → IsCore s → i < length s.views → call_at s.calls i ≡ p
    → CallFits s.parents p (view_at s.views i)
fitting s i p core h e = subst (λ (q : Progress). CallFits s.parents q (view_at s.views i)) e (core.calls i h)

-- only advances and the end by force move the root
root_of_label : (l : Option FlatStep) (f : Flat) → moves_root l ≡ false
    → ((labelled l f).phase ≡ f.phase) × ((labelled l f).ended ≡ f.ended)
root_of_label None f e = (refl, refl)
root_of_label (Some (flat.Join owner n)) f e = by_test (λ b. ((cond b f (taken (flat.Join owner n) f)).phase ≡ f.phase) ×
    ((cond b f (taken (flat.Join owner n) f)).ended ≡ f.ended)) f.ended (λ _. (refl, refl)) (λ _. (refl, refl))
root_of_label (Some (flat.Arrive owner)) f e = by_test (λ b. ((cond b f (taken (flat.Arrive owner) f)).phase ≡ f.phase) ×
    ((cond b f (taken (flat.Arrive owner) f)).ended ≡ f.ended)) f.ended (λ _. (refl, refl)) (λ _. (refl, refl))
root_of_label (Some (flat.Leave owner)) f e = by_test (λ b. ((cond b f (taken (flat.Leave owner) f)).phase ≡ f.phase) ×
    ((cond b f (taken (flat.Leave owner) f)).ended ≡ f.ended)) f.ended (λ _. (refl, refl)) (λ _. (refl, refl))
root_of_label (Some (flat.Advance ends)) f e = not_both true refl e
root_of_label (Some flat.Force) f e = not_both true refl e

no_advance : (i : ℕ) (k : Kind) → moves_root (label i k) ≡ false → is_advance k ≡ false
no_advance i Look e = refl
no_advance i Glance e = refl
no_advance i (Refuse tier claimed size) e = refl
no_advance i (Join tier claimed size) e = refl
no_advance i Arrive e = refl
no_advance i Leave e = refl
no_advance i (Advance ends) e = not_both true refl e
no_advance i Force e = refl
no_advance i (Claim tier claimed size) e = refl
no_advance i (Settle tier claimed size) e = refl
no_advance i (SettleBack tier claimed size) e = refl
no_advance i (Climb passage) e = refl
no_advance i Refresh e = refl

abbrev TiersStay : State → State → Type 0
TiersStay s s' =
    (t : ℕ) → t < length s.words → (word_at s.words t).phase ≡ (flat_of s).phase → (word_at s'.words t).phase ≡ (flat_of s).phase

played_tiers : (s : State) (i : ℕ) (r : Turn) → IsCore s → i < length s.views → MayPlay s i r → moves_root (label i r.kind) ≡ false
    → TiersStay s (played s i r)
played_tiers s i r core h may e t k here =
    phases_stay s.parents s.words (take i s.views) (view_at s.views i) (drop (suc i) s.views) r.tier r.kind t (is_step s i r core h may)
    (no_advance i r.kind e) k here

step_tiers : (s : State) (x : Step) → IsCore s → moves_root (step_label s x) ≡ false → TiersStay s (after s x)
step_tiers s (Begin i c) core e =
    by_test (λ b. TiersStay s (cond b (begun s i c) s)) (may_begin s i c) (λ _ t k here. here) (λ _ t k here. here)
step_tiers s (Go i) core e =
    by_test
    (λ b. b ≡ may_go s i → moves_root (cond b (label i (turn_at s i).kind) None) ≡ false
    → TiersStay s (cond b (played s i (turn_at s i)) s))
    (may_go s i)
    (λ may _ q. let a = known_active s i may in played_tiers s i (turn_at s i) core a.0 (turn_may s i core a.0 a.1) q)
    (λ _ _ _ t k here. here) refl e
step_tiers s (Finish i) core e =
    let r : Turn = finish_at s i (plan_ends s) in
    by_test (λ b. b ≡ may_finish s i → moves_root (cond b (label i r.kind) None) ≡ false → TiersStay s (cond b (played s i r) s))
    (may_finish s i)
    (λ may _ q. let a = known_due s i may in
    played_tiers s i (finish_at s i (plan_ends s)) core a.0 (finish_may s i (plan_ends s) core a.0 a.1) q)
    (λ _ _ _ t k here. here) refl e

pub only_advances_move : OnlyAdvancesMove
only_advances_move s x core is e =
    let moves = step_moves s x (flat_of s) core is record {
      phase = refl;
      ended = refl;
      going = λ _. record { phase = refl; ended = refl; due = refl; members = λ _. refl; arrived = λ _. refl };
    } in
    let same = root_of_label (step_label s x) (flat_of s) e in
    record { phase = sym moves.1.phase ∙ same.0; ended = sym moves.1.ended ∙ same.1; tiers = step_tiers s x core e }

-- an awaited token after a look
absent_cases : (root : ℕ) (v : View) → 0 < absent root v → v.phase ≡ root → v.arrived < v.size
absent_cases root v h e =
    let a : absent root v ≡ v.size - v.arrived = ap (λ b. cond b (v.size - v.arrived) v.size) (eq-eqb v.phase root e) in
    omega arith

absent_some : (root : ℕ) (v : View) → 0 < absent root v → 0 < v.size
absent_some root v h = grind arith

pub record Looked (root : ℕ) (v : View) (phase arrived : ℕ) : Type 0 where
  pub now : phase ≡ root
  pub awaited : arrived < v.size
  pub kept : v.phase ≡ root → arrived ≡ v.arrived
  pub begins : v.phase ≢ root → arrived ≡ 0

pub awaited_look : (s : State) (i : ℕ) → IsCore s → (word_at s.words 0).ended ≡ false → IsAwaited s i
    → Looked (root_phase s.words) (view_at s.views i) (looked (word_at s.words 0) (view_at s.views i)).phase
    (looked (word_at s.words 0) (view_at s.views i)).arrived
awaited_look s i core going is =
    let v : View = view_at s.views i in
    let root : ℕ = root_phase s.words in
    let fit = fits_at s i core is.known in
    let some : 0 < v.size = absent_some root v is.some in
    looked_is (Looked root v) (word_at s.words 0) v going
    (λ all other. record { now = refl; awaited = some; kept = λ e. absurd (other e); begins = λ _. refl })
    (λ stays. ⊎_elim
    (λ (e : v.phase ≡ root). record { now = e; awaited = absent_cases root v is.some e; kept = λ _. refl; begins = λ n. absurd (n e) })
    (λ (n : v.phase ≢ root). absurd
    (let less : v.arrived < v.size = (let a = fit.within in let b : v.arrived ≢ v.size = (λ q. n (stays q)) in omega arith) in
    n (unarrived_is_current s.parents root (word_at s.words 0).ended v fit less)))
    (cases_eq v.phase root))

-- the word of its tier is open
pub open_at_home : (s : State) (i : ℕ) → IsCore s → (word_at s.words 0).ended ≡ false → IsAwaited s i
    → ((view_at s.views i).tier < length s.words) × (0 < (word_at s.words (view_at s.views i).tier).parties)
open_at_home s i core going is =
    let v : View = view_at s.views i in
    let a = awaited_late s i core is in
    let within : v.tier < length s.words = subst (λ (n : ℕ). v.tier < n) (sym core.tally.long) a.0 in
    let open_ : (word_at s.words v.tier).ended ≡ false = ⊎_elim
    (λ (z : v.tier ≡ 0). ap (λ t. (word_at s.words t).ended) z ∙ going)
    (λ (n : v.tier ≢ 0). core.tally.ends v.tier (omega arith) within)
    (cases_eq v.tier 0) in
    let b = stands s.parents s.words (take i s.views) (drop (suc i) s.views) v v.tier (split s i core is.known) within open_ in
    (within, waiting_open (root_phase s.words) (word_at s.words v.tier) (omega arith))

-- an open word that doesn't lag behind a token in the root's phase is in that phase
abbrev lagging : Fields → ℕ → Bool
lagging w phase = ltb 0 w.parties && (eqb w.unarrived 0 && not (eqb w.phase phase))

up_to_date : (s : State) (t phase : ℕ) → IsCore s → t < length s.words → 0 < (word_at s.words t).parties → phase ≡ root_phase s.words
    → lagging (word_at s.words t) phase ≡ false → (word_at s.words t).phase ≡ root_phase s.words
up_to_date s t phase core within some now e = ⊎_elim
    (λ (q : (word_at s.words t).phase ≡ root_phase s.words). q)
    (λ q. ⊎_elim
    (λ (p : (word_at s.words t).phase ≡ phase). p ∙ now)
    (λ (p : (word_at s.words t).phase ≢ phase). not_both (lagging (word_at s.words t) phase)
    (both (ltb 0 (word_at s.words t).parties) (eqb (word_at s.words t).unarrived 0 && not (eqb (word_at s.words t).phase phase))
    (lt-ltb 0 (word_at s.words t).parties some)
    (both (eqb (word_at s.words t).unarrived 0) (not (eqb (word_at s.words t).phase phase)) (eq-eqb (word_at s.words t).unarrived 0 q.1)
    (ap not (ne_eqb (word_at s.words t).phase phase p)))) e)
    (cases_eq (word_at s.words t).phase phase))
    (core.tally.phases t within some)

polled_is : (b : Bool) (p : ℕ) → (polled b p ≡ Passed p) ⊎ (polled b p ≡ Done p)
polled_is true p = inl refl
polled_is false p = inr refl

-- the look of a poll
abbrev pub PollGoesOn : State → ℕ → Type 0
PollGoesOn s i = ((answer_then s i ≡ GoesOn) × ((has_moved : Bool) × (call_then s i ≡ Refreshing has_moved)))
    ⊎ (((answer_then s i ≡ Passed (flat_of s).phase) ⊎ (answer_then s i ≡ Done (flat_of s).phase)) × (call_then s i ≡ Idle)
    × ((word_at (after s (Go i)).words (view_at s.views i).tier).phase ≡ (flat_of s).phase))

answered : (s : State) (i : ℕ) (b : Bool) (p : ℕ) → p ≡ root_phase s.words → answer_then s i ≡ polled b p
    → (answer_then s i ≡ Passed (flat_of s).phase) ⊎ (answer_then s i ≡ Done (flat_of s).phase)
answered s i b p now e = ⊎_elim
    (λ (q : polled b p ≡ Passed p). inl (e ∙ (q ∙ ap Passed now)))
    (λ (q : polled b p ≡ Done p). inr (e ∙ (q ∙ ap Done now)))
    (polled_is b p)

words_then : (s : State) (i : ℕ) (r : Turn) (t : ℕ) (w : Fields) → Gone s i r
    → word_at (words_after s.words r.kind r.tier (view_at s.views i)) t ≡ w
    → word_at (after s (Go i)).words t ≡ w
words_then s i r t w g e = ap (λ ws. word_at ws t) g.words ∙ e

unchanged : (ws : List Fields) (u t : ℕ) → (word_at (set ws u (word_at ws u)) t).phase ≡ (word_at ws t).phase
unchanged ws u t = ap (λ xs. (word_at xs t).phase) (set-get_or ws u blank)

poll_looks : (s : State) (i : ℕ) → IsCore s → (word_at s.words 0).ended ≡ false → IsAwaited s i → call_at s.calls i ≡ Begun call.Poll
    → PollGoesOn s i
poll_looks s i core going is e =
    let w : Fields = word_at s.words 0 in
    let v : View = view_at s.views i in
    let own : Fields = word_at s.words v.tier in
    let look = awaited_look s i core going is in
    let home = open_at_home s i core going is in
    let lag : Bool = lags own (looked w v) in
    let f : Bool = not (eqb (looked w v).phase v.phase) in
    let p : ℕ = (looked w v).phase in
    let make : Progress → Played → Turn = λ next answer. record { kind = Look; tier = 0; next = next; answer = answer } in
    let g = gone s i (Begun call.Poll) core is.known e refl in
    by_test (λ b. Gone s i (make (cond b Idle (cond (eqb (looked w v).arrived v.size) Idle (cond lag (Refreshing f) Idle)))
    (cond b (end_shown w) (cond (eqb (looked w v).arrived v.size) Waiting (cond lag GoesOn (polled f p))))) → PollGoesOn s i) w.ended
    (λ q. not_both w.ended q going)
    (λ _. by_test (λ b. Gone s i (make (cond b Idle (cond lag (Refreshing f) Idle)) (cond b Waiting (cond lag GoesOn (polled f p)))) → PollGoesOn s i)
    (eqb (looked w v).arrived v.size)
    (λ q. absurd (let a = look.awaited in let b = eqb-true (looked w v).arrived v.size q in omega arith))
    (λ _. by_test (λ b. Gone s i (make (cond b (Refreshing f) Idle) (cond b GoesOn (polled f p))) → PollGoesOn s i) lag
    (λ _ h. inl (h.answer, (f, h.call)))
    (λ q h. inr (
      answered s i f p look.now h.answer,
      h.call,
      ap (λ (x : Fields). x.phase) (words_then s i (make Idle (polled f p)) v.tier (word_at (set s.words 0 w) v.tier) h refl)
          ∙ (unchanged s.words 0 v.tier ∙ up_to_date s v.tier p core home.0 home.1 look.now q),
    )))) g

-- the second step of a poll
poll_refreshes : (s : State) (i : ℕ) (has_moved : Bool) → IsCore s → (word_at s.words 0).ended ≡ false → IsAwaited s i
    → call_at s.calls i ≡ Refreshing has_moved → (view_at s.views i).phase ≡ root_phase s.words → PollGoesOn s i
poll_refreshes s i has_moved core going is e now =
    let v : View = view_at s.views i in
    let own : Fields = word_at s.words v.tier in
    let home = open_at_home s i core going is in
    let make : Kind → Turn = λ k. record { kind = k; tier = v.tier; next = Idle; answer = polled has_moved v.phase } in
    by_test (λ b. Gone s i (make (cond b Refresh Glance)) → PollGoesOn s i) (lags own v)
    (λ q h. inr (
      answered s i has_moved v.phase now h.answer,
      h.call,
      ap (λ (x : Fields). x.phase) (words_then s i (make Refresh) v.tier (refreshed own v.phase) h
          (get_or-set_same s.words v.tier (refreshed own v.phase) blank home.0)) ∙ now,
    ))
    (λ q h. inr (
      answered s i has_moved v.phase now h.answer,
      h.call,
      ap (λ (x : Fields). x.phase) (words_then s i (make Glance) v.tier (word_at s.words v.tier) h
          (get_or-set_same s.words v.tier own blank home.0)) ∙ up_to_date s v.tier v.phase core home.0 home.1 now q,
    ))
    (gone s i (Refreshing has_moved) core is.known e refl)

still_there : (s : State) (i : ℕ) (has_moved : Bool) → Gone s i (turn s.parents s.words (Refreshing has_moved) (view_at s.views i))
    → view_then s i ≡ view_at s.views i
still_there s i has_moved g =
    let v : View = view_at s.views i in
    g.view
    ∙ by_test (λ b. stepped_view s.parents s.words (cond b Refresh Glance) v.tier v ≡ v) (lags (word_at s.words v.tier) v) (λ _. refl)
    (λ _. refl)

-- a poll from its look, and from its second step
poll_begun : (s : State) (i : ℕ) → IsCore s → (word_at s.words 0).ended ≡ false → IsAwaited s i → call_at s.calls i ≡ Begun call.Poll
    → IsPollStep s i
poll_begun s i core going is e =
    let w : Fields = word_at s.words 0 in
    let v : View = view_at s.views i in
    let look = awaited_look s i core going is in
    let g = gone s i (Begun call.Poll) core is.known e refl in
    let view : view_then s i ≡ looked w v = g.view in
    let size : (view_then s i).size ≡ v.size = ap (λ (x : View). x.size) view ∙ looked_size w v in
    let arrived : (view_then s i).arrived ≡ (looked w v).arrived = ap (λ (x : View). x.arrived) view in
    record {
      errand = ap (λ (x : View). x.errand) view ∙ looked_rests w v is.rests;
      tier = ap (λ (x : View). x.tier) view ∙ looked_tier w v;
      size = size;
      phase = ap (λ (x : View). x.phase) view ∙ look.now;
      awaited = (let a = look.awaited in omega arith);
      kept = λ q. arrived ∙ look.kept q;
      begins = λ q. arrived ∙ look.begins q;
      goes_on = poll_looks s i core going is e;
    }

poll_second : (s : State) (i : ℕ) (has_moved : Bool) → IsCore s → (word_at s.words 0).ended ≡ false → IsAwaited s i
    → call_at s.calls i ≡ Refreshing has_moved → IsPollStep s i
poll_second s i has_moved core going is e =
    let v : View = view_at s.views i in
    let fits = fitting s i (Refreshing has_moved) core is.known e in
    let now = unarrived_is_current s.parents (root_phase s.words) (word_at s.words 0).ended v (fits_at s i core is.known) fits.1 in
    let view : view_then s i ≡ v = still_there s i has_moved (gone s i (Refreshing has_moved) core is.known e refl) in
    record {
      errand = ap (λ (x : View). x.errand) view ∙ is.rests;
      tier = ap (λ (x : View). x.tier) view;
      size = ap (λ (x : View). x.size) view;
      phase = ap (λ (x : View). x.phase) view ∙ now;
      awaited = subst (λ (x : View). x.arrived < x.size) (sym view) fits.1;
      kept = λ _. ap (λ (x : View). x.arrived) view;
      begins = λ n. absurd (n now);
      goes_on = poll_refreshes s i has_moved core going is e now;
    }

poll_by : (s : State) (i : ℕ) (p : Progress) → IsCore s → (word_at s.words 0).ended ≡ false → IsAwaited s i → call_at s.calls i ≡ p
    → is_poll p ≡ true
    → IsPollStep s i
poll_by s i Idle core going is e q = not_both false q refl
poll_by s i (Begun (call.Join tier size)) core going is e q = not_both false q refl
poll_by s i (Begun call.Arrive) core going is e q = not_both false q refl
poll_by s i (Begun call.Leave) core going is e q = not_both false q refl
poll_by s i (Begun call.Poll) core going is e q = poll_begun s i core going is e
poll_by s i (Begun call.Force) core going is e q = not_both false q refl
poll_by s i (ToSeek tier size) core going is e q = not_both false q refl
poll_by s i Settling core going is e q = not_both false q refl
poll_by s i (ToGiveBack answer) core going is e q = not_both false q refl
poll_by s i (Passing passage) core going is e q = not_both false q refl
poll_by s i (Owing own) core going is e q = not_both false q refl
poll_by s i (Due own) core going is e q = not_both false q refl
poll_by s i (Refreshing has_moved) core going is e q = poll_second s i has_moved core going is e

pub polls_follow_the_root : PollsFollowTheRoot
polls_follow_the_root s i core going is q = poll_by s i (call_at s.calls i) core going is refl q
