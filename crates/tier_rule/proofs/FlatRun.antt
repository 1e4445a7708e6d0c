-- Every run is a run of one flat phaser.
use Rattle.std.proofs.Common.{◌≡◌, ℕ, zero, suc, Bool, true, false, cond, not, eqb, Option, Some, None, List, [], ◌∷◌, ◌++◌, set, replicate, sum_by, refl, sym, ◌∙◌, ap, subst, arith, append-nil}
use Rattle.std.proofs.lemmas.List.Sums.{sum_by-cons}
use mathlib.Core.Option.{some}
use lib.ListN.{get_elem?}
use Rattle.phaser_word.specs.Fields.{Fields}
use Rattle.flat_phaser.specs.Flat.{Flat, empty_in, everyone_arrived, is_marked}
use Rattle.flat_phaser.specs.declared.FlatStep.{FlatStep}
use Rattle.flat_phaser.specs.declared.FlatStep.TheVariants as flat
use Rattle.flat_phaser.specs.Step.{MayTake, flat_step}
use Rattle.flat_phaser.specs.Step.{taken as flat_taken}
use Rattle.flat_phaser.specs.Laws as flat_laws
use Rattle.flat_phaser.specs.Alike.{IsAlike, IsSound}
use Rattle.flat_phaser.proofs.Everyone.{same_everyone}
use Rattle.flat_phaser.proofs.Alikeness.{same_counts}
use Rattle.flat_phaser.proofs.Runs.{step_sound, empty_sound}
use Rattle.tier_steps.specs.declared.view.View.{View}
use Rattle.tier_steps.specs.declared.kind.Kind.{Kind}
use Rattle.tier_steps.specs.declared.kind.Kind.TheVariants.{Look, Glance, Refuse, Join, Arrive, Leave, Advance, Force, Claim, Settle, SettleBack, Climb, Refresh}
use Rattle.tier_steps.specs.View.{new_view}
use Rattle.tier_steps.specs.Tally.{word_at}
use Rattle.tier_steps.specs.Laws.{words_after, stepped_view}
use Rattle.tier_steps.specs.Image.{image, label, labelled, IsAllowedLabel, LooksAlike}
use Rattle.tier_steps.specs.Seats.{IsSameButOwners}
use Rattle.tier_steps.specs.Due.{is_advance}
use Rattle.tier_steps.proofs.Owners.{all_by_count, marked_share, climb_share, same_but_owners, no_share}
use Rattle.tier_steps.proofs.Ready.{advances_are_due}
use Rattle.tier_steps.proofs.Start.{start_tallies}
use Rattle.tier_rule.specs.declared.sight.Key.{Key}
use Rattle.tier_rule.specs.declared.sight.Sight.{Sight}
use Rattle.tier_rule.specs.Reach.{those, views_of, cut_off, sat_sight, Reached, opens, steps, cuts, sits, joins, parts}
use Rattle.tier_rule.specs.Laws.{MayStep, number_of}
use Rattle.tier_rule.specs.Run.{Moment, last_advance}
use Rattle.tier_rule.specs.FlatRun.{FlatRun, begins, takes, seems, regroups, last_found, steps_taken, with_label, labels_of, flat_at, flat_found, RunsAreFlat, IsDueAfter, AdvancesAreDueInFlatRuns, FlatRunsWaitForAll}
use Rattle.tier_rule.proofs.Seats.{amid, beside, last_seat, reseated, joined_sum, parted_sum}
use Rattle.tier_rule.proofs.Reaching.{those-replicate, cut_views}
use Rattle.tier_rule.proofs.Groups.{step_amid, steps_are_flat}

-- as long as it has not ended, an advance is due in a flat run only if everyone has arrived
alike_sound : (f g : Flat) → IsAlike f g → IsSound f → IsSound g
alike_sound f g a sound due =
    let s = same_counts f g a in
    ap (λ (p : ℕ). everyone_arrived p g.members) (sym a.phase)
    ∙ (sym (same_everyone f.phase f.members g.members s.members s.arrived) ∙ sound (a.due ∙ due))

owners_sound : (f g : Flat) → IsSameButOwners f g → IsSound f → IsSound g
owners_sound f g same sound due =
    ap (λ (p : ℕ). everyone_arrived p g.members) (sym same.phase)
    ∙ (all_by_count f.phase g.members
    ∙ (ap (λ (n : ℕ). eqb n 0) (sym (same.marks (λ mark. not (is_marked f.phase mark))))
    ∙ (sym (all_by_count f.phase f.members) ∙ sound (same.due ∙ due))))

run_sound : (phase : ℕ) (f : Flat) → FlatRun phase f → f.ended ≡ false → IsSound f
run_sound phase f begins going = empty_sound phase
run_sound phase f (takes g step run on may) going = step_sound step g (run_sound phase g run on)
run_sound phase f (seems g h run alike) going = let on : g.ended ≡ false = alike.ended ∙ going in
    alike_sound g f (alike.going on) (run_sound phase g run on)
run_sound phase f (regroups g h run same) going = owners_sound g f same (run_sound phase g run (same.ended ∙ going))

some_flat : (f g : Flat) → ◌≡◌ {A = Option Flat} (Some f) (Some g) → f ≡ g
some_flat f g e = cc

no_flat : (g : Flat) → ◌≡◌ {A = Option Flat} None (Some g) → ⊥
no_flat g e = absurd (cc)

due_found : (phase : ℕ) (f : Flat) (run : FlatRun phase f) (step : FlatStep) (o : Option Flat) (found : Flat) → f.ended ≡ false
    → MayTake step f → (o ≡ Some found → IsDueAfter phase found)
    → cond (flat_laws.is_advance step) (Some f) o ≡ Some found → IsDueAfter phase found
due_found phase f run (flat.Join owner count) o found going may before is = before is
due_found phase f run (flat.Arrive owner) o found going may before is = before is
due_found phase f run (flat.Leave owner) o found going may before is = before is
due_found phase f run (flat.Advance ends) o found going may before is =
    subst (IsDueAfter phase) (some_flat f found is)
    (record { run = run; going = going; due = may; everyone = run_sound phase f run going may })
due_found phase f run flat.Force o found going may before is = before is

pub flat_runs_wait_for_all : FlatRunsWaitForAll
flat_runs_wait_for_all phase f begins found is = absurd (no_flat found is)
flat_runs_wait_for_all phase f (takes g step run going may) found is =
    due_found phase g run step (last_found run) found going may (flat_runs_wait_for_all phase g run found) is
flat_runs_wait_for_all phase f (seems g h run alike) found is = flat_runs_wait_for_all phase g run found is
flat_runs_wait_for_all phase f (regroups g h run same) found is = flat_runs_wait_for_all phase g run found is

-- a flat run to a phaser, with its steps and its last advance
record Leads (phase : ℕ) (f : Flat) (ls : List FlatStep) (o : Option Flat) : Type 0 where
  run : FlatRun phase f
  taken : steps_taken run ≡ ls
  last : last_found run ≡ o

abbrev label_advances : Option FlatStep → Bool
label_advances None = false
label_advances (Some step) = flat_laws.is_advance step

same_advance : (n : ℕ) (kind : Kind) → label_advances (label n kind) ≡ is_advance kind
same_advance n Look = refl
same_advance n Glance = refl
same_advance n (Refuse tier claimed size) = refl
same_advance n (Join tier claimed size) = refl
same_advance n Arrive = refl
same_advance n Leave = refl
same_advance n (Advance ends) = refl
same_advance n Force = refl
same_advance n (Claim tier claimed size) = refl
same_advance n (Settle tier claimed size) = refl
same_advance n (SettleBack tier claimed size) = refl
same_advance n (Climb passage) = refl
same_advance n Refresh = refl

-- a step's label goes on with a flat run, by whether the phaser has ended
after_label : (phase : ℕ) (f g : Flat) (l : Option FlatStep) (ls : List FlatStep) (o : Option Flat) (b : Bool) → Leads phase f ls o
    → f.ended ≡ b → (b ≡ true → label_advances l ≡ false) → IsAllowedLabel l f → LooksAlike (labelled l f) g
    → Leads phase g (cond b ls (with_label l ls)) (cond (label_advances l) (Some f) o)
after_label phase f g None ls o true before e still may alike =
    record { run = seems f g before.run alike; taken = before.taken; last = before.last }
after_label phase f g None ls o false before e still may alike =
    record { run = seems f g before.run alike; taken = before.taken; last = before.last }
after_label phase f g (Some step) ls o true before e still may alike =
    record {
      run = seems f g before.run (subst (λ (h : Flat). LooksAlike h g) (ap (λ (c : Bool). cond c f (flat_taken step f)) e) alike);
      taken = before.taken;
      last = before.last ∙ ap (λ (c : Bool). cond c (Some f) o) (sym (still refl));
    }
after_label phase f g (Some step) ls o false before e still may alike =
    record {
      run = seems (flat_step step f) g (takes f step before.run e (may e)) alike;
      taken = ap (λ (us : List FlatStep). step ∷ us) before.taken;
      last = ap (λ (p : Option Flat). cond (flat_laws.is_advance step) (Some f) p) before.last;
    }

looks_itself : (f : Flat) → LooksAlike f f
looks_itself f =
    record {
      phase = refl;
      ended = refl;
      going = λ e. record { phase = refl; ended = refl; due = refl; members = λ owner. refl; arrived = λ owner. refl };
    }

-- whoever advances finds that the root has not ended
due_going : (b c : Bool) → cond b false c ≡ true → b ≡ true → ⊥
due_going true c due e = absurd (let a : false ≡ true = due in cc)
due_going false c due e = absurd (cc)

pub never_ended : (k : Key) (ws : List Fields) (vs : List (List Sight)) (id t : ℕ) (f : List Sight) (x : Sight) (b : List Sight)
    (kind : Kind)
    → MayStep k ws vs id t f x b kind → (word_at ws 0).ended ≡ true → is_advance kind ≡ false
never_ended k ws vs id t f x b Look m e = refl
never_ended k ws vs id t f x b Glance m e = refl
never_ended k ws vs id t f x b (Refuse tier claimed size) m e = refl
never_ended k ws vs id t f x b (Join tier claimed size) m e = refl
never_ended k ws vs id t f x b Arrive m e = refl
never_ended k ws vs id t f x b Leave m e = refl
never_ended k ws vs id t f x b (Advance ends) m e =
    let a = amid vs id f x b m.seat in
    absurd
    (due_going (word_at ws 0).ended _ (advances_are_due k.shape ws a.front x.view a.back t ends (step_amid k ws vs id t f x b (Advance ends) m)).due e)
never_ended k ws vs id t f x b Force m e = refl
never_ended k ws vs id t f x b (Claim tier claimed size) m e = refl
never_ended k ws vs id t f x b (Settle tier claimed size) m e = refl
never_ended k ws vs id t f x b (SettleBack tier claimed size) m e = refl
never_ended k ws vs id t f x b (Climb passage) m e = refl
never_ended k ws vs id t f x b Refresh m e = refl

-- what a run found as a flat phaser, if its last step was of this kind
found_cond : (b : Bool) (m : Moment) (o : Option Moment) → cond b (Some (flat_at m)) (flat_found o) ≡ flat_found (cond b (Some m) o)
found_cond true m o = refl
found_cond false m o = refl

after_step : (k : Key) (ws : List Fields) (vs : List (List Sight)) (id t : ℕ) (f : List Sight) (x y : Sight) (b : List Sight) (kind : Kind)
    (ls : List FlatStep) (o : Option Moment)
    → MayStep k ws vs id t f x b kind
    → y.view ≡ stepped_view k.shape ws kind t x.view → Leads k.phase (image ws (views_of vs)) ls (flat_found o)
    → Leads k.phase (image (words_after ws kind t x.view) (views_of (set vs id (f ++ y ∷ b))))
    (cond (word_at ws 0).ended ls (with_label (label (number_of vs id f) kind) ls))
    (flat_found (cond (is_advance kind) (Some (record { words = ws; seats = vs })) o))
after_step k ws vs id t f x y b kind ls o m is before =
    let here : Flat = image ws (views_of vs) in
    let n : ℕ = number_of vs id f in
    let flat = steps_are_flat k ws vs id t f x y b kind here m is (looks_itself here) in
    let next =
    after_label k.phase here (image (words_after ws kind t x.view) (views_of (set vs id (f ++ y ∷ b)))) (label n kind) ls (flat_found o)
    (word_at ws 0).ended before refl
    (λ e. same_advance n kind ∙ never_ended k ws vs id t f x b kind m e) flat.0 flat.1 in
    record {
      run = next.run;
      taken = next.taken;
      last =
          next.last
          ∙ (ap (λ (c : Bool). cond c (Some here) (flat_found o)) (same_advance n kind)
          ∙ found_cond (is_advance kind) (record { words = ws; seats = vs }) o);
    }

-- seats that are grouped in another way
regrouped : (phase : ℕ) (ws : List Fields) (xs ys : List View) (ls : List FlatStep) (o : Option Flat)
    → ((test : Option ℕ → Bool) → sum_by (marked_share test) xs ≡ sum_by (marked_share test) ys)
    → sum_by climb_share xs ≡ sum_by climb_share ys
    → Leads phase (image ws xs) ls o → Leads phase (image ws ys) ls o
regrouped phase ws xs ys ls o marks climbs before =
    record {
      run = regroups (image ws xs) (image ws ys) before.run (same_but_owners ws xs ys marks climbs);
      taken = before.taken;
      last = before.last;
    }

unseen_sum : (f : View → ℕ) (n phase : ℕ) → f (new_view phase) ≡ 0 → sum_by f (replicate n (new_view phase)) ≡ 0
unseen_sum f zero phase none = refl
unseen_sum f (suc n) phase none = let a = sum_by-cons f (new_view phase) (replicate n (new_view phase)) in
    let b = unseen_sum f n phase none in
    omega arith

sat_sum : (f : View → ℕ) (k : Key) (ws : List Fields) (vs : List (List Sight)) (id n : ℕ) → get_elem? vs id ≡ some []
    → f (new_view (word_at ws 0).phase) ≡ 0
    → sum_by f (views_of vs) ≡ sum_by f (views_of (set vs id (replicate n (sat_sight k (word_at ws 0)))))
sat_sum f k ws vs id n at none =
    let a = reseated f vs id [] (replicate n (sat_sight k (word_at ws 0))) at in
    let b : sum_by f (those (replicate n (sat_sight k (word_at ws 0)))) ≡ 0 =
    ap (sum_by f) (those-replicate n (sat_sight k (word_at ws 0))) ∙ unseen_sum f n (word_at ws 0).phase none in
    omega arith

cut_is : (ts : List (List Sight)) (id : ℕ) (l : List Sight) → get_elem? ts id ≡ some l
    → views_of ts ≡ views_of (set ts id (cut_off l) ++ [] ∷ [])
cut_is ts id l at =
    let a = beside ts id l at in
    a.is
    ∙ (ap (λ (views : List View). a.front ++ (views ++ a.back)) (sym (cut_views l))
    ∙ (sym (a.after (cut_off l)) ∙ (sym (append-nil (views_of (set ts id (cut_off l)))) ∙ sym (last_seat (set ts id (cut_off l)) []))))

leads : (k : Key) (ws : List Fields) (vs : List (List Sight)) (r : Reached k ws vs)
    → Leads k.phase (image ws (views_of vs)) (labels_of r) (flat_found (last_advance r))
leads k ws vs (opens x shape small is) =
    record {
      run =
          seems (empty_in k.phase) (image ws (x.view ∷ [])) begins
          (subst (λ (v : View). LooksAlike (empty_in k.phase) (image ws (v ∷ []))) (sym (ap (λ (z : Sight). z.view) is)) (start_tallies k.shape k.phase shape.shape small).1);
      taken = refl;
      last = refl;
    }
leads k ws vs (steps us ts id t tries f b x y kind r at within needs says own is few) =
    after_step k us ts id t f x y b kind (labels_of r) (last_advance r)
    (record { reached = r; seat = at; within = within; needs = needs; says = says })
    (is.view ∙ ap (λ (z : Key). stepped_view z.shape us kind t x.view) own) (leads k us ts r)
leads k ws vs (cuts us ts id l r at) =
    regrouped k.phase us (views_of ts) (views_of (set ts id (cut_off l) ++ [] ∷ [])) (labels_of r) (flat_found (last_advance r))
    (λ test. ap (sum_by (marked_share test)) (cut_is ts id l at)) (ap (sum_by climb_share) (cut_is ts id l at)) (leads k us ts r)
leads k ws vs (sits us ts id n r at) =
    regrouped k.phase us (views_of ts) (views_of (set ts id (replicate n (sat_sight k (word_at us 0))))) (labels_of r)
    (flat_found (last_advance r))
    (λ test. sat_sum (marked_share test) k us ts id n at (no_share (cond {A = ℕ} (test (Some (word_at us 0).phase)) 1 0) (cond {A = ℕ} (test None) 1 0)))
    (sat_sum climb_share k us ts id n at refl) (leads k us ts r)
leads k ws vs (joins us ts id other l m r at apart there) =
    regrouped k.phase us (views_of ts) (views_of (set (set ts id (l ++ m)) other [])) (labels_of r) (flat_found (last_advance r))
    (λ test. sym (joined_sum (marked_share test) ts id other l m at there)) (sym (joined_sum climb_share ts id other l m at there))
    (leads k us ts r)
leads k ws vs (parts us ts id x l y m r at) =
    regrouped k.phase us (views_of ts) (views_of (set ts id (x ∷ l) ++ (y ∷ m) ∷ [])) (labels_of r) (flat_found (last_advance r))
    (λ test. sym (parted_sum (marked_share test) ts id (x ∷ l) (y ∷ m) at)) (sym (parted_sum climb_share ts id (x ∷ l) (y ∷ m) at))
    (leads k us ts r)

pub runs_are_flat : RunsAreFlat
runs_are_flat k ws vs r = let a = leads k ws vs r in record { flat = a.run; taken = a.taken; last = a.last }

pub advances_are_due_in_flat_runs : AdvancesAreDueInFlatRuns
advances_are_due_in_flat_runs k ws vs r found is =
    let a = leads k ws vs r in
    flat_runs_wait_for_all k.phase (image ws (views_of vs)) a.run (flat_at found) (a.last ∙ ap flat_found is)
