-- A join by one token alone, on a tree in which nobody has arrived.
use Rattle.std.proofs.Common.{◌≡◌, ◌≢◌, ℕ, zero, suc, ◌+◌, ◌-◌, ◌<◌, ◌≤◌, ◌⊎◌, inl, inr, ⊎_elim, Bool, true, false, cond, eqb, ltb, List, [], ◌∷◌, ◌++◌, length, length-set, get_or, set, take, drop, refl, sym, ◌∙◌, ap, subst, arith, Some}
use Rattle.std.specs.Prelude.{◌&&◌, ◌||◌, sum_by, count_by, replicate}
use Rattle.std.specs.List.{AllByRecursion}
use Rattle.std.proofs.lemmas.Bool.{cases_eq, eq-eqb, ne_eqb, cases_lt, lt-ltb}
use Rattle.std.proofs.lemmas.List.{get_or-set_same, get_or-set_other, get_or_past, get_or-replicate, length-replicate}
use Rattle.std.proofs.lemmas.List.Sums.{sum_by-cons}
use Rattle.phaser_word.specs.Fields.{Fields}
use Rattle.flat_phaser.proofs.Everyone.{either}
use Rattle.flat_phaser.proofs.Counts.{count_cons}
use Rattle.tier_shape.specs.Paths.{IsTiers}
use Rattle.tier_steps.specs.declared.view.View.{View}
use Rattle.tier_steps.specs.declared.view.Errand.{Errand}
use Rattle.tier_steps.specs.declared.view.Errand.TheVariants.{Rest, Opening}
use Rattle.tier_steps.specs.declared.view.OpeningStage.TheVariants.{Seeking, Joined}
use Rattle.tier_steps.specs.declared.kind.Kind.TheVariants.{Look, Refuse, Join, Settle}
use Rattle.tier_steps.specs.View.{new_view, ancestor, claims_on, errand_claims, claim_share}
use Rattle.tier_steps.specs.Word.{is_being_opened, joined}
use Rattle.tier_steps.specs.Tally.{blank, word_at, root_phase, bit, ErrandFits}
use Rattle.tier_steps.specs.Step.{added, opening, word_after}
use Rattle.tier_steps.specs.Laws.{words_after, stepped_view}
use Rattle.tier_steps.specs.Image.{label, is_climbing}
use Rattle.tier_steps.proofs.Advance.{ancestor_within}
use Rattle.tier_steps.proofs.Due.{sum_zero}
use Rattle.tier_steps.proofs.Pass.{stands, waiting_word}
use Rattle.tier_steps.specs.Start.{empty_word, empty_words}
use Rattle.tier_core.specs.declared.call.Call.{Call}
use Rattle.tier_core.specs.declared.call.Call.TheVariants as call
use Rattle.tier_core.specs.declared.call.Played.TheVariants.{GoesOn, Done}
use Rattle.tier_core.specs.declared.call.Progress.{Progress}
use Rattle.tier_core.specs.declared.call.Progress.TheVariants.{Idle, Begun, Seeking as ToSeek, Settling, GivingBack as ToGiveBack, Passing, Owing, Due, Refreshing}
use Rattle.tier_core.specs.declared.call.Step.TheVariants.{Begin, Go}
use Rattle.tier_core.specs.declared.call.Turn.{Turn}
use Rattle.tier_core.specs.Turn.{end_shown, claimed_by, is_refusing, has_no_room, settling, unless_claimed, seek_turn, settle_turn, turn}
use Rattle.tier_core.specs.Machine.{State, IsCore, view_at, call_at, is_active, turn_at, played}
use Rattle.tier_core.specs.Run.{may_begin, may_go, is_idle, begun, after}
use Rattle.tier_core.proofs.Turns.{by_test, not_both}
use Rattle.tier_core.proofs.Runs.{begun_core}
use Rattle.tier_laws.specs.Frame.{flat_of}
use Rattle.tier_laws.specs.Moments.{Moment, Takes, run_of, moments, AreEvents}
use Rattle.tier_laws.specs.Calls.{IsPlaced, moves_root}
use Rattle.tier_laws.specs.Fresh.{IsFreshWord, join_alone, last_answer, IsJoined, JoinsAreDoneAlone, NewTreesAreFresh, NewTokensKeepItFresh, AwaitedTiersWait}
use Rattle.tier_laws.proofs.Framing.{others_stay}
use Rattle.tier_laws.proofs.Holding.{split, fits_at, awaited_late, parties_are_few}
use Rattle.tier_laws.proofs.Ending.{alike_itself, at, own_imaged, imaged}
use Rattle.tier_laws.proofs.Reached.{Alikes, reached}
use Rattle.tier_laws.proofs.Seeking.{unclaimed, own_claims, joined_phase}
use Rattle.tier_laws.proofs.Along.{core_after}
use Rattle.tier_laws.proofs.Ranks.{Within, some_left, turn_lowers}
use Rattle.tier_laws.proofs.Short.{moved_left}
use Rattle.tier_laws.proofs.Stepping.{Gone, gone, fitting, only_advances_move}
use Rattle.tier_laws.proofs.Members.{still_going, admits, not_yet}
use Rattle.tier_laws.proofs.Searching.{by_search, claim_turn, join_turn}

-- what holds at each place of a list holds of the list
all_from : {X : Type 0} (P : X → Type 0) (d : X) (xs : List X) → ((i : ℕ) → i < length xs → P (get_or xs i d)) → AllByRecursion P xs
all_from P d [] h = tt
all_from P d (x ∷ xs) h = (h 0 (omega arith), all_from P d xs (λ i k. h (suc i) (omega arith)))

sum_set : {X : Type 0} (f : X → ℕ) (xs : List X) (i : ℕ) (x d : X) → i < length xs
    → sum_by f (set xs i x) + f (get_or xs i d) ≡ sum_by f xs + f x
sum_set f [] i x d h = absurd (omega arith)
sum_set f (y ∷ ys) zero x d h = let a = sum_by-cons f x ys in let b = sum_by-cons f y ys in omega arith
sum_set f (y ∷ ys) (suc i) x d h =
    let a = sum_by-cons f y (set ys i x) in let b = sum_by-cons f y ys in let c = sum_set f ys i x d (omega arith) in omega arith

count_none : (p : View → Bool) (vs : List View) → AllByRecursion (λ v. p v ≡ false) vs → count_by p vs ≡ 0
count_none p [] h = refl
count_none p (v ∷ vs) h =
    let a = count_cons p v vs in let b : cond {A = ℕ} (p v) 1 0 ≡ 0 = ap (λ x. cond {A = ℕ} x 1 0) h.0 in
    let c = count_none p vs h.1 in omega arith

no_bit : (b : Bool) → bit b ≡ 0 → b ≡ false
no_bit true e = absurd (let a : 1 ≡ 0 = e in omega arith)
no_bit false e = refl

and_no : (b : Bool) → (b && false) ≡ false
and_no true = refl
and_no false = refl

idle_is : (p : Progress) → (is_idle p ≡ false → ⊥) → p ≡ Idle
idle_is Idle h = refl
idle_is (Begun c) h = absurd (h refl)
idle_is (ToSeek tier size) h = absurd (h refl)
idle_is Settling h = absurd (h refl)
idle_is (ToGiveBack answer) h = absurd (h refl)
idle_is (Passing passage) h = absurd (h refl)
idle_is (Owing own) h = absurd (h refl)
idle_is (Due own) h = absurd (h refl)
idle_is (Refreshing has_moved) h = absurd (h refl)

added_le : (k size : ℕ) → 0 < size → added k size ≤ size
added_le zero size h = omega arith
added_le (suc k) size h = h

added_some : (k size : ℕ) → 0 < size → 0 < added k size
added_some zero size h = h
added_some (suc k) size h = omega arith

-- how far such a join has come
abbrev Stands : ℕ → ℕ → ℕ → List Moment → Progress → View → Type 0
Stands tier size now ms Idle v = IsPlaced tier size now v × (last_answer ms ≡ Some (Done now))
Stands tier size now ms (Begun c) v = c ≡ call.Join tier size
Stands tier size now ms (ToSeek there many) v = (there ≡ tier) × (many ≡ size)
Stands tier size now ms Settling v = IsPlaced tier size now v
Stands tier size now ms (ToGiveBack answer) v = ⊥
Stands tier size now ms (Passing passage) v = ⊥
Stands tier size now ms (Owing own) v = ⊥
Stands tier size now ms (Due own) v = ⊥
Stands tier size now ms (Refreshing has_moved) v = ⊥

-- a token that has its members settles the tiers that are left, or is done
placed_by : (k tier size now : ℕ) (ms : List Moment) (v : View) {p : ℕ} → IsPlaced tier size now v
    → last_answer ms ≡ Some (unless_claimed k (Done p)) → p ≡ now
    → Stands tier size now ms (settling k) v
placed_by zero tier size now ms v placed answer here = (placed, answer ∙ ap (λ n. Some (Done n)) here)
placed_by (suc k) tier size now ms v placed answer here = placed

abbrev NearlyFresh : ℕ → Fields → Type 0
NearlyFresh now w = IsFreshWord now w ⊎ (is_being_opened w ≡ true)

-- a tree in which one token joins, and everything else is at rest
record Joining (old s : State) (i tier size : ℕ) (ms : List Moment) : Type 0 where
  core : IsCore s
  tiers : IsTiers s.parents
  known : i < length s.views
  going : (word_at s.words 0).ended ≡ false
  phase : root_phase s.words ≡ root_phase old.words
  words : (t : ℕ) → t < length s.words → NearlyFresh (root_phase old.words) (word_at s.words t)
  idle : (j : ℕ) → j ≢ i → j < length s.views → call_at s.calls j ≡ Idle
  others : (j : ℕ) → j ≢ i → view_at s.views j ≡ view_at old.views j
  tokens : length s.views ≡ length old.views
  sizes : sum_by (λ v. v.size) s.views ≡ sum_by (λ v. v.size) old.views + (view_at s.views i).size
  capacity : sum_by (λ v. v.size) old.views + size + length s.parents ≤ 65535
  some : 0 < size
  stands : Stands tier size (root_phase old.words) ms (call_at s.calls i) (view_at s.views i)

-- one step of it, given what the step does to its word
goes : (old s : State) (i tier size : ℕ) (ms : List Moment) (r : Turn) → Joining old s i tier size ms → Gone s i r
    → moves_root (label i r.kind) ≡ false
    → NearlyFresh (root_phase old.words) (word_after r.kind r.tier (word_at s.words r.tier) (view_at s.views i))
    → Stands tier size (root_phase old.words) (own_imaged i s (Go i) ++ ms) r.next
    (stepped_view s.parents s.words r.kind r.tier (view_at s.views i))
    → Joining old (after s (Go i)) i tier size (own_imaged i s (Go i) ++ ms)
goes old s i tier size ms r is g quiet word stands =
    let s' : State = after s (Go i) in
    let v' : View = stepped_view s.parents s.words r.kind r.tier (view_at s.views i) in
    let w' : Fields = word_after r.kind r.tier (word_at s.words r.tier) (view_at s.views i) in
    let now : ℕ = root_phase old.words in
    let root = only_advances_move s (Go i) is.core tt (ap moves_root g.label ∙ quiet) in
    let tokens : length s'.views ≡ length s.views = ap length g.views
    ∙ length-set s.views i (stepped_view s.parents s.words r.kind r.tier (view_at s.views i)) in
    let tiers_ : length s'.words ≡ length s.words = ap length g.words
    ∙ length-set s.words r.tier (word_after r.kind r.tier (word_at s.words r.tier) (view_at s.views i)) in
    record {
      core = core_after s (Go i) is.core tt;
      tiers = subst IsTiers (sym g.parents) is.tiers;
      known = (let a = is.known in omega arith);
      going = root.ended ∙ is.going;
      phase = root.phase ∙ is.phase;
      words = λ t h. subst (λ (ws : List Fields). NearlyFresh now (word_at ws t)) (sym g.words)
          (⊎_elim
          (λ (q : t ≡ r.tier). subst (λ (n : ℕ). NearlyFresh now (word_at (set s.words r.tier w') n)) (sym q)
          (subst (NearlyFresh now) (sym (get_or-set_same s.words r.tier w' blank g.may.within)) word))
          (λ (q : t ≢ r.tier). subst (NearlyFresh now) (sym (get_or-set_other s.words r.tier t w' blank q)) (is.words t (omega arith)))
          (cases_eq t r.tier));
      idle = λ j n h. (others_stay s (Go i) j n).call ∙ is.idle j n (omega arith);
      others = λ j n. (others_stay s (Go i) j n).view ∙ is.others j n;
      tokens = tokens ∙ is.tokens;
      sizes = (let a = sum_set (λ (x : View). x.size) s.views i v' (new_view 0) is.known in
          let b : sum_by (λ (x : View). x.size) s'.views ≡ sum_by (λ (x : View). x.size) (set s.views i v') =
          ap (sum_by (λ (x : View). x.size)) g.views in
          let c : (view_at s'.views i).size ≡ v'.size = ap (λ (x : View). x.size) g.view in
          let d = is.sizes in omega arith);
      capacity = subst (λ (ps : List ℕ). sum_by (λ v. v.size) old.views + size + length ps ≤ 65535) (sym g.parents) is.capacity;
      some = is.some;
      stands = subst (λ (p : Progress). Stands tier size now (own_imaged i s (Go i) ++ ms) p (view_at s'.views i)) (sym g.call)
          (subst (λ (x : View). Stands tier size now (own_imaged i s (Go i) ++ ms) r.next x) (sym g.view) stands);
    }

-- the last answer after a step
answer_is : (s : State) (i : ℕ) (ms : List Moment) (r : Turn) → Gone s i r → last_answer (own_imaged i s (Go i) ++ ms) ≡ Some r.answer
answer_is s i ms r g = ap (λ xs. last_answer (xs ++ ms)) g.moment ∙ ap Some g.answer

-- the others rest
rests : (old s : State) (i tier size : ℕ) (ms : List Moment) → Joining old s i tier size ms → (j : ℕ) → j ≢ i → j < length s.views
    → (view_at s.views j).errand ≡ Rest
rests old s i tier size ms is j n h = fitting s j Idle is.core h (is.idle j n h)

opening_is : (tier k size : ℕ) → is_climbing (opening tier k Seeking size) ≡ false
opening_is tier zero size = refl
opening_is tier (suc k) size = refl

-- a tier that the join hasn't claimed isn't being opened
not_opened : (old s : State) (i tier size k : ℕ) (ms : List Moment) → Joining old s i tier size ms
    → (view_at s.views i).errand ≡ opening tier k Seeking size → tier < length s.parents → ancestor s.parents tier k < length s.words
    → is_being_opened (word_at s.words (ancestor s.parents tier k)) ≡ false
not_opened old s i tier size k ms is errand place within =
    let t : ℕ = ancestor s.parents tier k in
    ⊎_elim
    (λ (z : ancestor s.parents tier k ≡ 0). ap (λ n. is_being_opened (word_at s.words n)) z ∙ is.core.tally.root_claims)
    (λ (n : ancestor s.parents tier k ≢ 0).
    let none : claims_on s.parents tier k t ≡ 0 = unclaimed s.parents tier k k is.core.shape place (omega arith) (omega arith) in
    let own : claim_share s.parents t (view_at s.views i) ≡ 0 =
    ap (errand_claims s.parents t) errand ∙ own_claims s.parents tier k size t none in
    let zero_sum : sum_by (claim_share s.parents t) s.views ≡ 0 = sum_zero (claim_share s.parents t) s.views
    (all_from (λ v. claim_share s.parents t v ≡ 0) (new_view 0) s.views (λ j h. ⊎_elim
    (λ (q : j ≡ i). ap (λ m. claim_share s.parents t (view_at s.views m)) q ∙ own)
    (λ (q : j ≢ i). ap (errand_claims s.parents t) (rests old s i tier size ms is j q h))
    (cases_eq j i))) in
    no_bit (is_being_opened (word_at s.words t)) (is.core.tally.claims t within ∙ zero_sum))
    (cases_eq (ancestor s.parents tier k) 0)

-- there is room at each tier
room_at : (old s : State) (i tier size k t : ℕ) (ms : List Moment) → Joining old s i tier size ms
    → (view_at s.views i).errand ≡ opening tier k Seeking size → (view_at s.views i).size ≡ 0 → t < length s.words
    → (word_at s.words t).parties + added k size ≤ 65535
room_at old s i tier size k t ms is errand none h =
    let few = parties_are_few s t is.core h (λ _. is.going) in
    let still : count_by (λ v. is_climbing v.errand) s.views ≡ 0 = count_none (λ v. is_climbing v.errand) s.views
    (all_from (λ v. is_climbing v.errand ≡ false) (new_view 0) s.views (λ j l. ⊎_elim
    (λ (q : j ≡ i). ap (λ m. is_climbing (view_at s.views m).errand) q ∙ (ap is_climbing errand ∙ opening_is tier k size))
    (λ (q : j ≢ i). ap is_climbing (rests old s i tier size ms is j q l))
    (cases_eq j i))) in
    let a = added_le k size is.some in let b = is.sizes in let c = is.capacity in omega arith

-- a tier that gets members
joined_fresh : (now n : ℕ) (w : Fields) → 0 < n → w.phase ≡ now → IsFreshWord now w → IsFreshWord now (joined w n)
joined_fresh now n w some phase fresh = ⊎_elim
    (λ e. inr ((omega arith), ap (λ b. cond b n (w.unarrived + n)) (eq-eqb w.parties 0 e.0) ∙ (let a = e.0 in omega arith), phase))
    (λ e. inr (
      (omega arith),
      ap (λ b. cond b n (w.unarrived + n)) (ne_eqb w.parties 0 (let a = e.0 in omega arith)) ∙ (let a = e.1 in omega arith),
      phase,
    ))
    fresh

empty_admits : (w : Fields) (more : ℕ) → w.parties ≡ 0 → w.unarrived ≡ 1 → w.parties + more ≤ 65535 → is_refusing more w ≡ false
empty_admits w more none one capacity =
    let a : has_no_room more w ≡ false = not_yet 65535 (w.parties + more) capacity in
    let b : eqb w.unarrived 0 ≡ false = ne_eqb w.unarrived 0 (omega arith) in
    let c : is_being_opened w ≡ false =
    ap (λ x. cond x (eqb w.unarrived 2) false) (eq-eqb w.parties 0 none) ∙ ne_eqb w.unarrived 2 (omega arith) in
    ap (λ x. x || ((eqb w.unarrived 0) || is_being_opened w)) a ∙ (ap (λ x. x || is_being_opened w) b ∙ c)

-- it refuses nothing if it is fresh and has room
welcomes : (now more : ℕ) (w : Fields) → IsFreshWord now w → w.parties + more ≤ 65535 → is_refusing more w ≡ false
welcomes now more w fresh capacity = ⊎_elim
    (λ e. empty_admits w more e.0 e.1 capacity)
    (λ e. admits w more e.0 (let a = e.0 in let b = e.1 in omega arith) capacity)
    fresh

-- a step that looks for the tier
seek_goes : (old s : State) (i tier size k : ℕ) (ms : List Moment) → Joining old s i tier size ms → call_at s.calls i ≡ ToSeek tier size
    → k ≡ claimed_by (view_at s.views i).errand
    → Gone s i (seek_turn tier k size (ancestor s.parents tier k) (word_at s.words (ancestor s.parents tier k)) (view_at s.views i))
    → Joining old (after s (Go i)) i tier size (own_imaged i s (Go i) ++ ms)
seek_goes old s i tier size k ms is e q =
    let t : ℕ = ancestor s.parents tier k in
    let w : Fields = word_at s.words t in
    let v : View = view_at s.views i in
    let now : ℕ = root_phase old.words in
    let fits = fitting s i (ToSeek tier size) is.core is.known e in
    let errand : (view_at s.views i).errand ≡ opening tier k Seeking size = fits.0 ∙ ap (λ n. opening tier n Seeking size) (sym q) in
    let within : t < length s.words =
    subst (λ (n : ℕ). t < n) (sym is.core.tally.long) (ancestor_within s.parents tier k is.core.shape fits.1.place) in
    let plain = not_opened old s i tier size k ms is errand fits.1.place within in
    let capacity = room_at old s i tier size k t ms is errand fits.1.none within in
    let fresh : IsFreshWord now w =
    ⊎_elim (λ (f : IsFreshWord now w). f) (λ (o : is_being_opened w ≡ true). not_both (is_being_opened w) o plain)
    (is.words t within) in
    let claim : Turn = claim_turn tier k size t in
    let join : Turn = join_turn tier k size t w in
    let Q : Turn → Type 0 = λ r. Gone s i r → Joining old (after s (Go i)) i tier size (own_imaged i s (Go i) ++ ms) in
    by_search Q tier k size t w v (λ x. not_both w.ended x (still_going s t is.core is.going within))
    (λ _ x. not_both (is_refusing (added k size) w) x (welcomes now (added k size) w fresh capacity))
    (λ _ _ _ g. goes old s i tier size ms claim is g refl (inr refl) (refl, refl))
    (λ _ _ _ g.
    let here : w.phase ≡ now = joined_phase s t (added k size) is.core within g.may.needs.1 ∙ is.phase in
    goes old s i tier size ms join is g refl
    (inl (joined_fresh now (added k size) w (added_some k size is.some) here fresh))
    (placed_by k tier size now (own_imaged i s (Go i) ++ ms) (stepped_view s.parents s.words (Join tier k size) t v)
    (record { tier = refl; size = refl; phase = here; arrived = refl })
    (answer_is s i ms join g) here))

-- a step that settles a claimed tier
settle_goes : (old s : State) (i tier size there k many : ℕ) (ms : List Moment) → Joining old s i tier size ms
    → (view_at s.views i).errand ≡ Opening there (suc k) Joined many → IsPlaced tier size (root_phase old.words) (view_at s.views i)
    → Gone s i (settle_turn s.parents (view_at s.views i) (Opening there (suc k) Joined many))
    → Joining old (after s (Go i)) i tier size (own_imaged i s (Go i) ++ ms)
settle_goes old s i tier size there k many ms is q placed g =
    let v : View = view_at s.views i in
    let now : ℕ = root_phase old.words in
    let r : Turn = settle_turn s.parents v (Opening there (suc k) Joined many) in
    let fit : ErrandFits s.parents (root_phase s.words) (view_at s.views i) (Opening there (suc k) Joined many) =
    subst (λ (x : Errand). ErrandFits s.parents (root_phase s.words) (view_at s.views i) x) q (fits_at s i is.core is.known).errand in
    goes old s i tier size ms (settle_turn s.parents (view_at s.views i) (Opening there (suc k) Joined many)) is g refl
    (inl (inr (added_some k many fit.0.some, refl, placed.phase)))
    (placed_by k tier size now (own_imaged i s (Go i) ++ ms)
    (stepped_view s.parents s.words (Settle there k many) (ancestor s.parents there k) (view_at s.views i))
    (record { tier = placed.tier; size = placed.size; phase = placed.phase; arrived = placed.arrived })
    (answer_is s i ms (settle_turn s.parents (view_at s.views i) (Opening there (suc k) Joined many)) g) placed.phase)

-- the look
look_goes : (old s : State) (i tier size : ℕ) (ms : List Moment) → Joining old s i tier size ms
    → call_at s.calls i ≡ Begun (call.Join tier size)
    → Joining old (after s (Go i)) i tier size (own_imaged i s (Go i) ++ ms)
look_goes old s i tier size ms is e =
    let w : Fields = word_at s.words 0 in
    let v : View = view_at s.views i in
    let within : 0 < length s.words = is.core.tally.some in
    let Q : Turn → Type 0 = λ r. Gone s i r → Joining old (after s (Go i)) i tier size (own_imaged i s (Go i) ++ ms) in
    let look : Turn = record { kind = Look; tier = 0; next = ToSeek tier size; answer = GoesOn } in
    let no : Turn = record { kind = Refuse 0 0 size; tier = 0; next = ToSeek tier size; answer = GoesOn } in
    by_test (λ x. Q (record {
      kind = cond x Look (cond (eqb tier 0 && is_refusing size w) (Refuse 0 0 size) Look);
      tier = 0;
      next = cond x Idle (ToSeek tier size);
      answer = cond x (end_shown w) GoesOn;
    })) w.ended
    (λ x. not_both w.ended x is.going)
    (λ _. by_test (λ x. Q (record { kind = cond x (Refuse 0 0 size) Look; tier = 0; next = ToSeek tier size; answer = GoesOn }))
    (eqb tier 0 && is_refusing size w)
    (λ _ g. goes old s i tier size ms no is g refl (is.words 0 within) (refl, refl))
    (λ _ g. goes old s i tier size ms look is g refl (is.words 0 within) (refl, refl)))
    (gone s i (Begun (call.Join tier size)) is.core is.known e refl)

-- each step of the join
step_goes : (old s : State) (i tier size : ℕ) (ms : List Moment) (p : Progress) → Joining old s i tier size ms → call_at s.calls i ≡ p
    → is_idle p ≡ false
    → Stands tier size (root_phase old.words) ms p (view_at s.views i)
    → (is_active p ≡ true) × Joining old (after s (Go i)) i tier size (own_imaged i s (Go i) ++ ms)
step_goes old s i tier size ms Idle is e going stands = not_both true refl going
step_goes old s i tier size ms (Begun c) is e going stands = (refl, look_goes old s i tier size ms is (e ∙ ap Begun stands))
step_goes old s i tier size ms (ToSeek there many) is e going stands =
    let k : ℕ = claimed_by (view_at s.views i).errand in
    let here : call_at s.calls i ≡ ToSeek tier size = e ∙ (ap (λ n. ToSeek n many) stands.0 ∙ ap (λ n. ToSeek tier n) stands.1) in
    (refl, seek_goes old s i tier size k ms is here refl (gone s i (ToSeek tier size) is.core is.known here refl))
step_goes old s i tier size ms Settling is e going stands =
    let fits = fitting s i Settling is.core is.known e in (
      refl,
      settle_goes old s i tier size fits.0 fits.1 fits.2 ms is fits.3 stands
          (subst (λ (x : Errand). Gone s i (settle_turn s.parents (view_at s.views i) x)) fits.3 (gone s i Settling is.core is.known e refl)),
    )
step_goes old s i tier size ms (ToGiveBack answer) is e going stands = absurd stands
step_goes old s i tier size ms (Passing passage) is e going stands = absurd stands
step_goes old s i tier size ms (Owing own) is e going stands = absurd stands
step_goes old s i tier size ms (Due own) is e going stands = absurd stands
step_goes old s i tier size ms (Refreshing has_moved) is e going stands = absurd stands

-- when the join is over the tree is fresh
over : (old s : State) (i tier size : ℕ) (ms : List Moment) → Joining old s i tier size ms → call_at s.calls i ≡ Idle
    → IsJoined old s i tier size ms
over old s i tier size ms is e =
    let stands : Stands tier size (root_phase old.words) ms Idle (view_at s.views i) =
    subst (λ (p : Progress). Stands tier size (root_phase old.words) ms p (view_at s.views i)) e is.stands in
    let all_idle : (j : ℕ) → j < length s.views → call_at s.calls j ≡ Idle = λ j h. ⊎_elim
    (λ (q : j ≡ i). ap (call_at s.calls) q ∙ e) (λ (q : j ≢ i). is.idle j q h) (cases_eq j i) in
    record {
      answer = stands.1;
      fresh = record {
        going = is.going;
        words = λ t h. ⊎_elim
            (λ (f : IsFreshWord (root_phase old.words) (word_at s.words t)). subst (λ (p : ℕ). IsFreshWord p (word_at s.words t)) (sym is.phase) f)
            (λ (o : is_being_opened (word_at s.words t) ≡ true). not_both (is_being_opened (word_at s.words t)) o
            (no_bit (is_being_opened (word_at s.words t)) (is.core.tally.claims t h ∙ sum_zero (claim_share s.parents t) s.views
            (all_from (λ v. claim_share s.parents t v ≡ 0) (new_view 0) s.views
            (λ j l. ap (errand_claims s.parents t) (fitting s j Idle is.core l (all_idle j l)))))))
            (is.words t h);
        idle = all_idle;
      };
      core = is.core;
      phase = is.phase;
      placed = stands.0;
      tokens = is.tokens;
      others = is.others;
      sizes = is.sizes ∙ ap (λ n. sum_by (λ (v : View). v.size) old.views + n) stands.0.size;
    }

-- it is over after as many steps as are left
runs_out : (n : ℕ) (old s : State) (i tier size : ℕ) (ms : List Moment) → Joining old s i tier size ms
    → Within s.parents s.words (call_at s.calls i) (view_at s.views i) n
    → IsJoined old (run_of (replicate n (Takes (Go i))) s) i tier size (imaged i (replicate n (Takes (Go i))) s ms)
runs_out zero old s i tier size ms is left = over old s i tier size ms is
    (idle_is (call_at s.calls i) (λ going. absurd
    (let a = some_left s.parents s.words (call_at s.calls i) (view_at s.views i) 0 going (is.core.calls i is.known) left in omega arith)))
runs_out (suc n) old s i tier size ms is left = ⊎_elim
    (λ (e : is_idle (call_at s.calls i) ≡ true).
    let rest : call_at s.calls i ≡ Idle = idle_is (call_at s.calls i) (λ going. not_both (is_idle (call_at s.calls i)) e going) in
    let may : may_go s i ≡ false = ap (λ p. ltb i (length s.views) && is_active p) rest ∙ and_no (ltb i (length s.views)) in
    let here : after s (Go i) ≡ s = ap (λ b. cond b (played s i (turn_at s i)) s) may in
    let none : own_imaged i s (Go i) ≡ [] = ap (λ b. cond b (cond (may_go s i) (at i s (turn_at s i) ∷ []) []) []) (eq-eqb i i refl)
    ∙ ap (λ b. cond b (at i s (turn_at s i) ∷ []) []) may in
    let kept = runs_out n old s i tier size ms is
    (subst (λ (p : Progress). Within s.parents s.words p (view_at s.views i) n) (sym rest) tt) in
    subst
    (λ (x : State). IsJoined old (run_of (replicate n (Takes (Go i))) x) i tier size (imaged i (replicate n (Takes (Go i))) x (own_imaged i s (Go i) ++ ms)))
    (sym here)
    (subst (λ (xs : List Moment). IsJoined old (run_of (replicate n (Takes (Go i))) s) i tier size (imaged i (replicate n (Takes (Go i))) s (xs ++ ms))) (sym none) kept))
    (λ (e : is_idle (call_at s.calls i) ≡ false).
    let next = step_goes old s i tier size ms (call_at s.calls i) is refl e is.stands in
    let g = gone s i (call_at s.calls i) is.core is.known refl next.0 in
    let lower = turn_lowers s i (suc n) (call_at s.calls i) is.tiers is.core is.known next.0 (is.core.calls i is.known) left g.may in
    let r : Turn = turn s.parents s.words (call_at s.calls i) (view_at s.views i) in
    let fewer : suc n - 1 ≡ n = omega arith in
    let left' = moved_left s (after s (Go i)) i n (turn s.parents s.words (call_at s.calls i) (view_at s.views i)).next
    (stepped_view s.parents s.words r.kind r.tier (view_at s.views i)) g.call g.view g.parents
    (subst (λ (ws : List Fields). Within s.parents ws r.next (stepped_view s.parents s.words r.kind r.tier (view_at s.views i)) n) (sym g.words)
    (subst (λ (m : ℕ). Within s.parents (words_after s.words r.kind r.tier (view_at s.views i)) r.next
    (stepped_view s.parents s.words r.kind r.tier (view_at s.views i)) m) fewer lower)) in
    runs_out n old (after s (Go i)) i tier size (own_imaged i s (Go i) ++ ms) next.1 left')
    (either (is_idle (call_at s.calls i)))

-- the join begins
may_join : (s : State) (i tier size : ℕ) → i < length s.views → call_at s.calls i ≡ Idle → (view_at s.views i).size ≡ 0
    → tier < length s.parents
    → may_begin s i (call.Join tier size) ≡ true
may_join s i tier size h idle none place =
    ap (λ b. b && (is_idle (call_at s.calls i) && (ltb tier (length s.parents) && eqb (view_at s.views i).size 0)))
    (lt-ltb i (length s.views) h)
    ∙ (ap (λ p. is_idle p && (ltb tier (length s.parents) && eqb (view_at s.views i).size 0)) idle
    ∙ (ap (λ b. b && eqb (view_at s.views i).size 0) (lt-ltb tier (length s.parents) place) ∙ eq-eqb (view_at s.views i).size 0 none))

goes_are_events : (n i : ℕ) → AreEvents (replicate n (Takes (Go i)))
goes_are_events zero i = tt
goes_are_events (suc n) i = (tt, goes_are_events n i)

last_alike : (ms ns : List Moment) → Alikes ms ns → last_answer ms ≡ last_answer ns
last_alike [] [] h = refl
last_alike [] (n ∷ ns) h = absurd h
last_alike (m ∷ ms) [] h = absurd h
last_alike (m ∷ ms) (n ∷ ns) h = ap (λ (x : Moment). Some x.turn.answer) h.0.is

joined_alike : (old new : State) (i tier size : ℕ) (ms ns : List Moment) → Alikes ms ns → IsJoined old new i tier size ns
    → IsJoined old new i tier size ms
joined_alike old new i tier size ms ns h is = record {
  answer = last_alike ms ns h ∙ is.answer;
  fresh = is.fresh;
  core = is.core;
  phase = is.phase;
  placed = is.placed;
  tokens = is.tokens;
  others = is.others;
  sizes = is.sizes;
}

pub joins_are_done_alone : JoinsAreDoneAlone
joins_are_done_alone s i tier size tiers core fresh h none place some capacity =
    let c : Call = call.Join tier size in
    let may = may_join s i tier size h (fresh.idle i h) none place in
    let here : after s (Begin i (call.Join tier size)) ≡ begun s i (call.Join tier size) =
    ap (λ b. cond b (begun s i (call.Join tier size)) s) may in
    let call_is : call_at (begun s i (call.Join tier size)).calls i ≡ Begun (call.Join tier size) =
    get_or-set_same s.calls i (Begun (call.Join tier size)) Idle (let l = core.long in omega arith) in
    let start : Joining s (begun s i (call.Join tier size)) i tier size [] = record {
      core = begun_core s i (call.Join tier size) core (some, omega arith) may;
      tiers = tiers;
      known = h;
      going = fresh.going;
      phase = refl;
      words = λ t k. inl (fresh.words t k);
      idle = λ j n k. get_or-set_other s.calls i j (Begun (call.Join tier size)) Idle n ∙ fresh.idle j k;
      others = λ j n. refl;
      tokens = refl;
      sizes = omega arith;
      capacity = capacity;
      some = some;
      stands = subst (λ (p : Progress). Stands tier size (root_phase s.words) [] p (view_at s.views i)) (sym call_is) refl;
    } in
    joined_alike s (run_of (join_alone i tier size) s) i tier size (moments i (join_alone i tier size) s (flat_of s) [])
    (imaged i (join_alone i tier size) s [])
    (reached i (join_alone i tier size) s (flat_of s) [] [] core ((some, omega arith), goes_are_events 14 i) (alike_itself (flat_of s)) tt)
    (subst (λ (x : State). IsJoined s (run_of (replicate 14 (Takes (Go i))) x) i tier size (imaged i (replicate 14 (Takes (Go i))) x [])) (sym here)
    (runs_out 14 s (begun s i (call.Join tier size)) i tier size [] start
    (moved_left s (begun s i (call.Join tier size)) i 14 (Begun (call.Join tier size)) (view_at s.views i) call_is refl refl (omega arith))))

-- a new tree, and a token that comes in
pub new_trees_are_fresh : NewTreesAreFresh
new_trees_are_fresh ps phase plan shape =
    let each : (t : ℕ) → t < length (empty_words ps phase) → word_at (empty_words ps phase) t ≡ empty_word phase =
    λ t h. get_or-replicate (length ps) t (empty_word phase) blank
    (let a = length-replicate (length ps) (empty_word phase) in omega arith) in
    let some = shape.some in
    let first : word_at (empty_words ps phase) 0 ≡ empty_word phase =
    each 0 (let a = length-replicate (length ps) (empty_word phase) in omega arith) in
    record {
      going = ap (λ (w : Fields). w.ended) first;
      words = λ t h. inl (ap (λ (w : Fields). w.parties) (each t h), ap (λ (w : Fields). w.unarrived) (each t h));
      idle = λ token h. absurd (omega arith);
    }

one_behind : {X : Type 0} (xs : List X) (d : X) (i : ℕ) → get_or (xs ++ d ∷ []) i d ≡ get_or xs i d
one_behind [] d zero = refl
one_behind [] d (suc i) = refl
one_behind (x ∷ xs) d zero = refl
one_behind (x ∷ xs) d (suc i) = one_behind xs d i

pub new_tokens_keep_it_fresh : NewTokensKeepItFresh
new_tokens_keep_it_fresh s core fresh = record {
  going = fresh.going;
  words = fresh.words;
  idle = λ j h. one_behind s.calls Idle j ∙ ⊎_elim
      (λ (k : j < length s.views). fresh.idle j k)
      (λ (k : length s.views ≤ j). get_or_past s.calls j Idle (let l = core.long in omega arith))
      (cases_lt j (length s.views));
}

-- the tier of an awaited token
pub awaited_tiers_wait : AwaitedTiersWait
awaited_tiers_wait s i core going is now =
    let v : View = view_at s.views i in
    let a = awaited_late s i core is in
    let within : v.tier < length s.words = subst (λ (n : ℕ). v.tier < n) (sym core.tally.long) a.0 in
    let b = stands s.parents s.words (take i s.views) (drop (suc i) s.views) v v.tier (split s i core is.known) within
    (still_going s v.tier core going within) in
    waiting_word (root_phase s.words) (word_at s.words v.tier) now (omega arith)
