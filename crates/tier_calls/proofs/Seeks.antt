-- What a call that joins shows of its token, by induction on its looks and steps.
use Rattle.std.proofs.Common.{◌≡◌, ℕ, zero, suc, ◌+◌, ◌≤◌, ◌<◌, Bool, true, false, cond, ◌∷◌, eqb, List, refl, sym, ◌∙◌, ap, subst, arith, Some, None}
use Rattle.std.proofs.lemmas.Bool.{eq-eqb}
use Rattle.phaser_word.specs.Fields.{Fields}
use Rattle.tier_shape.specs.Parents.{parent_of}
use Rattle.tier_steps.specs.View.{ancestor, claims_on, errand_claims, claim_share}
use Rattle.tier_steps.specs.Word.{is_being_opened}
use Rattle.tier_steps.specs.Tally.{word_at, bit}
use Rattle.tier_steps.specs.Step.{opening, added, looked, moved, refused, dropped, is_going_back, given_up, view_after, joined_view, settled_view}
use Rattle.tier_steps.specs.declared.kind.Kind.{Kind}
use Rattle.tier_steps.specs.declared.kind.Kind.TheVariants.{Join}
use Rattle.tier_steps.specs.declared.view.View.{View}
use Rattle.tier_steps.specs.declared.view.Errand.{Errand}
use Rattle.tier_steps.specs.declared.view.Errand.TheVariants.{Opening}
use Rattle.tier_steps.specs.declared.view.OpeningStage.{OpeningStage}
use Rattle.tier_steps.specs.declared.view.OpeningStage.TheVariants as stage
use Rattle.tier_steps.proofs.Looking.{move_keeps}
use Rattle.tier_steps.proofs.Known.{tally_is_known}
use Rattle.tier_core.specs.declared.call.Played.{Played}
use Rattle.tier_core.specs.declared.call.Played.TheVariants.{GoesOn, Done, Passed, Waiting, Held, Full, AlreadyArrived, Ended, MustAdvance}
use Rattle.tier_core.specs.declared.call.Progress.{Progress}
use Rattle.tier_core.specs.declared.call.Progress.TheVariants.{Idle, Begun, Seeking as ToSeek, Settling, GivingBack as ToGiveBack, Passing, Owing, Due, Refreshing}
use Rattle.tier_core.specs.declared.call.Turn.{Turn}
use Rattle.tier_core.specs.Turn.{seek_turn, settle_turn, give_back_turn, end_shown, has_no_room, is_refusing, is_claimable, cause_of, refusal, unless_claimed, settling, giving_back, claimed_by, errand_place, place, turn_by}
use Rattle.tier_core.specs.Machine.{CallFits, is_going, is_due}
use Rattle.tier_core.proofs.Turns.{by_test, not_both, looked_size, looked_open, looked_ended}
use Rattle.tier_rule.specs.declared.sight.Key.{Key}
use Rattle.tier_rule.specs.Look.{glance, looking}
use Rattle.tier_rule.specs.Tell.{Beside}
use Rattle.tier_calls.specs.Next.{meant, is_look}
use Rattle.tier_calls.specs.declared.going.Going.{Going}
use Rattle.tier_calls.specs.Holding.{Named}
use Rattle.tier_calls.specs.Goes.{Position, position, Goes, starts, steps, looks, after_look, WentOn, EndsAsPlanned}
use Rattle.tier_calls.specs.Joins.{IsJoined, IsNoted, Refusal, SeeksFor, SettlesFor, GivesBackFor, JoinAt, JoinsDoAsAsked, is_joining}
use Rattle.tier_calls.proofs.Turning.{by_cond, SeekIs, ends, refused as turned_away, claims, joins, seek_is, admit_at, glanced, look_is}
use Rattle.tier_calls.proofs.Passing.{root_of, looked_unled, glance_unled}

-- a claimed tier is below the root
claims_one : (ps : List ℕ) (tier claimed t : ℕ) → t ≡ ancestor ps tier claimed → 0 < claims_on ps tier (suc claimed) t
claims_one ps tier claimed t is =
    let e : eqb (ancestor ps tier claimed) t ≡ true = eq-eqb (ancestor ps tier claimed) t (sym is) in
    subst (λ (b : Bool). 0 < cond b 1 0 + claims_on ps tier claimed t) (sym e) (omega arith)

pub claimed_below : (ps : List ℕ) (t : ℕ) (w : Fields) (v : View) (tier claimed size : ℕ) (s : OpeningStage) → Beside ps t w v
    → v.errand ≡ Opening tier (suc claimed) s size
    → t ≡ ancestor ps tier claimed → 0 < t
claimed_below ps zero w v tier claimed size s b e is =
    let k = tally_is_known ps b.words b.front v b.back 0 b.within b.tally in
    let one : 0 < claim_share ps 0 v = subst (λ (x : Errand). 0 < errand_claims ps 0 x) (sym e) (claims_one ps tier claimed 0 is) in
    let none : bit (is_being_opened (word_at b.words 0)) ≡ 0 = ap bit b.tally.root_claims in
    let c = k.claims in absurd (omega arith)
claimed_below ps (suc t) w v tier claimed size s b e is = omega arith

root_ancestor : (ps : List ℕ) → parent_of ps 0 ≡ 0 → (above : ℕ) → ancestor ps 0 above ≡ 0
root_ancestor ps is zero = refl
root_ancestor ps is (suc above) = ap (parent_of ps) (root_ancestor ps is above) ∙ is

-- a join at the root claims nothing
pub root_unclaimed : (ps : List ℕ) (tier claimed size : ℕ) (w : Fields) (v : View) → Beside ps (ancestor ps tier claimed) w v
    → v.errand ≡ opening tier claimed stage.Seeking size
    → tier ≡ 0 → claimed ≡ 0
root_unclaimed ps tier zero size w v b e z = refl
root_unclaimed ps tier (suc claimed) size w v b e z =
    let up : (n : ℕ) → ancestor ps tier n ≡ 0 = λ n. ap (λ (t : ℕ). ancestor ps t n) z ∙ root_ancestor ps b.shape.shape.root n in
    let low =
    claimed_below ps (ancestor ps tier (suc claimed)) w v tier claimed size stage.Seeking b e (up (suc claimed) ∙ sym (up claimed)) in
    let none = up (suc claimed) in absurd (omega arith)

pub refused_unled : (t : ℕ) (w : Fields) (v : View) → v.led ≡ false → (refused t w v).led ≡ false
refused_unled zero w v l = looked_unled w v
refused_unled (suc t) w v l = l

-- what a look at the root leaves of the end that was seen
pub look_unended : (w : Fields) (v : View) → w.ended ≡ false → (looked w v).end_seen ≡ v.end_seen
look_unended w v e =
    let u : View = record v { led = false; note = cond (is_going_back v.errand) v.note None } in
    ap (λ (b : Bool). (cond b (record u { end_seen = Some w.phase; errand = dropped v.errand }) (moved w u)).end_seen) e
    ∙ move_keeps (λ (z : View). z.end_seen ≡ v.end_seen) w u refl (λ _ _. refl)

pub look_end : (w : Fields) (v : View) → w.ended ≡ true → (looked w v).end_seen ≡ Some w.phase
look_end w v e =
    let u : View = record v { led = false; note = cond (is_going_back v.errand) v.note None } in
    ap (λ (b : Bool). (cond b (record u { end_seen = Some w.phase; errand = dropped v.errand }) (moved w u)).end_seen) e

pub glance_unended : (above t : ℕ) (w : Fields) (v : View) → w.ended ≡ false → (view_after above (glance t) t w v).end_seen ≡ v.end_seen
glance_unended above zero w v e = look_unended w v e
glance_unended above (suc t) w v e = refl

-- what a refusal leaves
pub refused_note : (t : ℕ) (w : Fields) (v : View) → (refused t w v).note ≡ Some (t, w)
refused_note zero w v = refl
refused_note (suc t) w v = refl

pub refused_size : (t : ℕ) (w : Fields) (v : View) → (refused t w v).size ≡ v.size
refused_size zero w v = looked_size w v
refused_size (suc t) w v = refl

pub refused_end : (t : ℕ) (w : Fields) (v : View) → w.ended ≡ false → (refused t w v).end_seen ≡ v.end_seen
refused_end zero w v e = look_unended w v e
refused_end (suc t) w v e = refl

refused_errand : (t : ℕ) (w : Fields) (v : View) → w.ended ≡ false → (refused t w v).errand ≡ given_up v.errand
refused_errand zero w v e = ap given_up (looked_open w v e)
refused_errand (suc t) w v e = refl

module _ (ps : List ℕ) (least home tier size : ℕ) where
  -- a refusal as the word says it
  refusal_says : (claimed t : ℕ) (w : Fields) (v : View) → (tier ≡ 0 → claimed ≡ 0) → t ≡ ancestor ps tier claimed → v.note ≡ Some (t, w)
      → v.end_seen ≡ None → is_refusing (added claimed size) w ≡ true
      → Refusal ps tier size v (refusal t (added claimed size) v.phase w)
  refusal_says claimed t w v alone is note unseen full =
      let noted : (R : ℕ → ℕ → Fields → Type 0) → R t (added claimed size) w → IsNoted ps tier size v R = λ R r. record {
        claimed = claimed;
        alone = alone;
        word = w;
        note = note ∙ ap (λ (n : ℕ). Some (n, w)) is;
        refuses = full;
        says = subst (λ (n : ℕ). R n (added claimed size) w) is r;
        unseen = unseen;
      } in
      by_test
      (λ b. (has_no_room (added claimed size) w ≡ b)
      → Refusal ps tier size v (cond b (Full w.parties) (Held v.phase (cause_of t v.phase w))))
      (has_no_room (added claimed size) w)
      (λ e f. noted (λ t' more w'. (has_no_room more w' ≡ true) × (w.parties ≡ w'.parties)) (f, refl))
      (λ e f. (refl, noted (λ t' more w'. (has_no_room more w' ≡ false) × (cause_of t v.phase w ≡ cause_of t' v.phase w')) (f, refl))) refl

  -- what a refusal answers, by how many tiers are claimed
  over_or_back : (claimed : ℕ) (a : Played) (v : View) → v.size ≡ 0 → v.errand ≡ opening tier claimed stage.GoingBack size
      → Refusal ps tier size v a
      → JoinAt ps least home tier size v (unless_claimed claimed a) (giving_back claimed a)
  over_or_back zero GoesOn v none is r = r
  over_or_back zero (Done phase) v none is r = absurd r
  over_or_back zero (Passed phase) v none is r = r
  over_or_back zero Waiting v none is r = r
  over_or_back zero (Held phase cause) v none is r = (none, r)
  over_or_back zero (Full count) v none is r = (none, r)
  over_or_back zero (AlreadyArrived phase) v none is r = r
  over_or_back zero (Ended shown) v none is r = (none, r)
  over_or_back zero (MustAdvance phase count) v none is r = r
  over_or_back (suc claimed) a v none is r = record { claimed = claimed; errand = is; none = none; refusal = r }

  -- what a join that was taken answers
  over_or_settles : (claimed phase : ℕ) (v : View) → v.errand ≡ opening tier claimed stage.Joined size → IsJoined tier size v
      → phase ≡ v.phase
      → JoinAt ps least home tier size v (unless_claimed claimed (Done phase)) (settling claimed)
  over_or_settles zero phase v is joined same = (joined, same)
  over_or_settles (suc claimed) phase v is joined same = record { claimed = claimed; errand = is; joined = joined }

  dropped_opening : (claimed : ℕ) → dropped (opening tier claimed stage.Seeking size) ≡ opening tier claimed stage.GoingBack size
  dropped_opening zero = refl
  dropped_opening (suc claimed) = refl

  given_opening : (claimed : ℕ) → given_up (opening tier claimed stage.Seeking size) ≡ opening tier claimed stage.GoingBack size
  given_opening zero = refl
  given_opening (suc claimed) = refl

  -- a step of a join that seeks its tier
  seek_shown : (above claimed t : ℕ) (w : Fields) (v : View) → t ≡ ancestor ps tier claimed
      → v.errand ≡ opening tier claimed stage.Seeking size → v.size ≡ 0 → v.tier ≡ home
      → least ≤ claimed → v.end_seen ≡ None → v.led ≡ false → (tier ≡ 0 → claimed ≡ 0)
      → let r = seek_turn tier claimed size t w v in JoinAt ps least home tier size (view_after above r.kind t w v) r.answer r.next
  seek_shown above claimed t w v is errand none here few unseen unled alone =
      by_cond (λ r. JoinAt ps least home tier size (view_after above r.kind t w v) r.answer r.next) w.ended _ _
      (λ e. over_or_back claimed (end_shown w) (looked w v) (looked_size w v ∙ none) (looked_ended w v e ∙ (ap dropped errand ∙ dropped_opening claimed)) (w.phase, look_end w v e, refl))
      (λ e. by_cond (λ r. JoinAt ps least home tier size (view_after above r.kind t w v) r.answer r.next) (is_refusing (added claimed size) w) _ _
      (λ f. over_or_back claimed (refusal t (added claimed size) (refused t w v).phase w) (refused t w v) (refused_size t w v ∙ none)
      (refused_errand t w v e ∙ (ap given_up errand ∙ given_opening claimed))
      (refusal_says claimed t w (refused t w v) alone is (refused_note t w v) (refused_end t w v e ∙ unseen) f))
      (λ f. by_cond (λ r. JoinAt ps least home tier size (view_after above r.kind t w v) r.answer r.next) (is_claimable t w) _ _
      (λ g. record { same_tier = refl; same_size = refl; at_home = here; claims = omega arith; unseen = unseen; unled = unled })
      (λ g. over_or_settles claimed w.phase (joined_view tier claimed size w v) refl (record { place = refl; members = refl; none_arrived = refl; unled = unled }) refl)))

  rest_same : (a : Played) (v : View) (e : Errand) → Refusal ps tier size v a → Refusal ps tier size (record v { errand = e }) a
  rest_same GoesOn v e r = r
  rest_same (Done phase) v e r = r
  rest_same (Passed phase) v e r = r
  rest_same Waiting v e r = r
  rest_same (Held phase cause) v e r = (
    r.0,
    record {
      claimed = r.1.claimed;
      alone = r.1.alone;
      word = r.1.word;
      note = r.1.note;
      refuses = r.1.refuses;
      says = r.1.says;
      unseen = r.1.unseen;
    },
  )
  rest_same (Full count) v e r =
      record { claimed = r.claimed; alone = r.alone; word = r.word; note = r.note; refuses = r.refuses; says = r.says; unseen = r.unseen }
  rest_same (AlreadyArrived phase) v e r = r
  rest_same (Ended shown) v e r = r
  rest_same (MustAdvance phase count) v e r = r

  -- after a step of the call
  step_shown : (p : Progress) (u : View) (a : Played) (b : Bool) (w : Fields) → JoinAt ps least home tier size u a p → CallFits ps p u
      → is_going p ≡ true → Beside ps (place ps p u) w u
      → let r = turn_by ps b w p u in
      JoinAt ps least home tier size (view_after (parent_of ps (place ps p u)) r.kind (place ps p u) w u) r.answer r.next
  step_shown Idle u a b w sh fits g beside = absurd (cc)
  step_shown (Begun c) u a b w sh fits g beside = absurd sh
  step_shown (ToSeek tier' size') u a b w sh fits g beside =
      subst (λ (z : ℕ × ℕ). let t : ℕ = ancestor ps z.0 (claimed_by u.errand) in let r = seek_turn z.0 (claimed_by u.errand) z.1 t w u in
      JoinAt ps least home tier size (view_after (parent_of ps t) r.kind t w u) r.answer r.next)
      (λ i. (sym sh.same_tier i, sym sh.same_size i))
      (seek_shown (parent_of ps (ancestor ps tier (claimed_by u.errand))) (claimed_by u.errand) (ancestor ps tier (claimed_by u.errand)) w u refl
      (subst (λ (z : ℕ × ℕ). u.errand ≡ opening z.0 (claimed_by u.errand) stage.Seeking z.1) (λ i. (sh.same_tier i, sh.same_size i)) fits.0)
      fits.1.none sh.at_home sh.claims sh.unseen sh.unled
      (let z =
      subst
      (λ (z : ℕ × ℕ). (u.errand ≡ opening z.0 (claimed_by u.errand) stage.Seeking z.1)
      × Beside ps (ancestor ps z.0 (claimed_by u.errand)) w u)
      (λ i. (sh.same_tier i, sh.same_size i)) (fits.0, beside) in root_unclaimed ps tier (claimed_by u.errand) size w u z.1 z.0))
  step_shown Settling u a b w sh fits g beside =
      subst
      (λ (e : Errand). let r = settle_turn ps u e in
      let t = errand_place ps e in
      JoinAt ps least home tier size (view_after (parent_of ps t) r.kind t w u) r.answer r.next)
      (sym sh.errand)
      (over_or_settles sh.claimed u.phase (settled_view tier sh.claimed stage.Joined size u) refl
      (record { place = sh.joined.place; members = sh.joined.members; none_arrived = sh.joined.none_arrived; unled = sh.joined.unled })
      refl)
  step_shown (ToGiveBack answer) u a b w sh fits g beside =
      subst
      (λ (e : Errand). let r = give_back_turn ps answer e in
      let t = errand_place ps e in
      JoinAt ps least home tier size (view_after (parent_of ps t) r.kind t w u) r.answer r.next)
      (sym sh.errand)
      (over_or_back sh.claimed answer (settled_view tier sh.claimed stage.GoingBack size u) sh.none refl (rest_same answer u (opening tier sh.claimed stage.GoingBack size) sh.refusal))
  step_shown (Passing passage) u a b w sh fits g beside = absurd sh
  step_shown (Owing own) u a b w sh fits g beside = absurd sh
  step_shown (Due own) u a b w sh fits g beside = absurd sh
  step_shown (Refreshing passed_on) u a b w sh fits g beside = absurd sh

  -- a look of a claimed tier changes nothing
  still : (above t : ℕ) (w : Fields) (u : View) → 0 < t → u ≡ view_after above (glance t) t w u
  still above zero w u lt = absurd (omega arith)
  still above (suc t) w u lt = refl

  seek_stays : (tier' size' t above : ℕ) (w : Fields) (u : View) → SeeksFor least home tier size tier' size' u
      → SeekIs tier' (claimed_by u.errand) size' t w (seek_turn tier' (claimed_by u.errand) size' t w u)
      → is_look (seek_turn tier' (claimed_by u.errand) size' t w u).kind ≡ false
      → SeeksFor least home tier size tier' size' (view_after above (looking (Join tier' (claimed_by u.errand) size') t w) t w u)
  seek_stays tier' size' t above w u sh (ends e k at) quiet = not_both _ (ap is_look k) quiet
  seek_stays tier' size' t above w u sh (turned_away e f k at) quiet = not_both _ (ap is_look k) quiet
  seek_stays tier' size' t above w u sh (claims e f k at) quiet = keep_seeking tier' size' t above w u sh e f
    where
      keep_seeking : (tier' size' t above : ℕ) (w : Fields) (u : View) → SeeksFor least home tier size tier' size' u → w.ended ≡ false
          → is_refusing (added (claimed_by u.errand) size') w ≡ false
          → SeeksFor least home tier size tier' size' (view_after above (looking (Join tier' (claimed_by u.errand) size') t w) t w u)
      keep_seeking tier' size' t above w u sh e f =
          subst (λ (k : Kind). SeeksFor least home tier size tier' size' (view_after above k t w u))
          (sym (admit_at t tier' (claimed_by u.errand) size' w f))
          (let d = glanced above t w u in record {
            same_tier = sh.same_tier;
            same_size = sh.same_size;
            at_home = d.tier ∙ sh.at_home;
            claims = subst (λ (x : Errand). least ≤ claimed_by x) (sym (d.open_errand e)) sh.claims;
            unseen = glance_unended above t w u e ∙ sh.unseen;
            unled = glance_unled above t w u sh.unled;
          })
  seek_stays tier' size' t above w u sh (joins e f k at) quiet =
      subst (λ (k : Kind). SeeksFor least home tier size tier' size' (view_after above k t w u))
      (sym (admit_at t tier' (claimed_by u.errand) size' w f))
      (let d = glanced above t w u in record {
        same_tier = sh.same_tier;
        same_size = sh.same_size;
        at_home = d.tier ∙ sh.at_home;
        claims = subst (λ (x : Errand). least ≤ claimed_by x) (sym (d.open_errand e)) sh.claims;
        unseen = glance_unended above t w u e ∙ sh.unseen;
        unled = glance_unled above t w u sh.unled;
      })

  -- after a look that is none
  stay_shown : (p : Progress) (u : View) (a : Played) (w : Fields) → JoinAt ps least home tier size u a p → CallFits ps p u
      → is_going p ≡ true → Beside ps (place ps p u) w u
      → is_look (turn_by ps false w p u).kind ≡ false
      → JoinAt ps least home tier size (view_after (parent_of ps (place ps p u)) (looking (meant p u) (place ps p u) w) (place ps p u) w u)
      GoesOn p
  stay_shown Idle u a w sh fits g beside quiet = absurd (cc)
  stay_shown (Begun c) u a w sh fits g beside quiet = absurd sh
  stay_shown (ToSeek tier' size') u a w sh fits g beside quiet =
      let t : ℕ = ancestor ps tier' (claimed_by u.errand) in
      seek_stays tier' size' t (parent_of ps t) w u sh (seek_is tier' (claimed_by u.errand) size' t w u) quiet
  stay_shown Settling u a w sh fits g beside quiet =
      let t : ℕ = errand_place ps u.errand in
      let low : 0 < t = claimed_below ps t w u tier sh.claimed size stage.Joined beside sh.errand (ap (errand_place ps) sh.errand) in
      subst (λ (z : View). SettlesFor tier size z) (still (parent_of ps t) t w u low) sh
  stay_shown (ToGiveBack answer) u a w sh fits g beside quiet =
      let t : ℕ = errand_place ps u.errand in
      let low : 0 < t = claimed_below ps t w u tier sh.claimed size stage.GoingBack beside sh.errand (ap (errand_place ps) sh.errand) in
      subst (λ (z : View). GivesBackFor ps tier size z answer) (still (parent_of ps t) t w u low) sh
  stay_shown (Passing passage) u a w sh fits g beside quiet = absurd sh
  stay_shown (Owing own) u a w sh fits g beside quiet = absurd sh
  stay_shown (Due own) u a w sh fits g beside quiet = absurd sh
  stay_shown (Refreshing passed_on) u a w sh fits g beside quiet = absurd sh

  look_shown : (at : Position) (w : Fields) → JoinAt ps least home tier size at.view at.answer at.progress → CallFits ps at.progress at.view
      → is_going at.progress ≡ true
      → Beside ps (place ps at.progress at.view) w at.view
      → JoinAt ps least home tier size (after_look ps w at).view (after_look ps w at).answer (after_look ps w at).progress
  look_shown at w sh fits g beside =
      let r : Turn = turn_by ps false w at.progress at.view in
      let t : ℕ = place ps at.progress at.view in
      let u : View = view_after (parent_of ps t) (looking (meant at.progress at.view) t w) t w at.view in
      let Q : Bool → Type 0 =
      λ c. let x : Position =
      cond c (record { progress = r.next; view = u; answer = r.answer; steps = looking (meant at.progress at.view) t w ∷ at.steps })
      (record { progress = at.progress; view = u; answer = GoesOn; steps = looking (meant at.progress at.view) t w ∷ at.steps }) in
      JoinAt ps least home tier size x.view x.answer x.progress in
      let l = look_is ps w at.view (parent_of ps t) at.progress fits g (root_of ps t w at.view beside) in
      by_test Q (is_look r.kind)
      (λ e. subst (λ (k : Kind). JoinAt ps least home tier size (view_after (parent_of ps t) k t w at.view) r.answer r.next)
      (sym (l.turn e)) (step_shown at.progress at.view at.answer false w sh fits g beside))
      (λ e. stay_shown at.progress at.view at.answer w sh fits g beside e)

pub joins_do_as_asked : JoinsDoAsAsked
joins_do_as_asked k least home tier size from at sh starts = sh
joins_do_as_asked k least home tier size from at sh (steps at' w b go fits g beside says found) =
    step_shown k.shape least home tier size at'.progress at'.view at'.answer b w (joins_do_as_asked k least home tier size from at' sh go)
    fits g beside
joins_do_as_asked k least home tier size from at sh (looks at' w go fits g beside) =
    look_shown k.shape least home tier size at' w (joins_do_as_asked k least home tier size from at' sh go) fits g beside

-- a call that never advances the root goes on so
joining_over : (claimed : ℕ) (a : Played) → is_joining (giving_back claimed a) ≡ true
joining_over zero a = refl
joining_over (suc claimed) a = refl

joining_settles : (claimed : ℕ) → is_joining (settling claimed) ≡ true
joining_settles zero = refl
joining_settles (suc claimed) = refl

joining_next : (ps : List ℕ) (b : Bool) (w : Fields) (p : Progress) (v : View) → CallFits ps p v → is_joining p ≡ true
    → is_joining (turn_by ps b w p v).next ≡ true
joining_next ps b w Idle v fits j = refl
joining_next ps b w (Begun c) v fits j = absurd (cc)
joining_next ps b w (ToSeek tier size) v fits j =
    by_cond (λ r. is_joining r.next ≡ true) w.ended _ _ (λ e. joining_over (claimed_by v.errand) _)
    (λ e. by_cond (λ r. is_joining r.next ≡ true) (is_refusing (added (claimed_by v.errand) size) w) _ _ (λ f. joining_over (claimed_by v.errand) _)
    (λ f. by_cond (λ r. is_joining r.next ≡ true) (is_claimable (ancestor ps tier (claimed_by v.errand)) w) _ _ (λ g. refl) (λ g. joining_settles (claimed_by v.errand))))
joining_next ps b w Settling v fits j =
    subst (λ (e : Errand). is_joining (settle_turn ps v e).next ≡ true) (sym fits.3) (joining_settles fits.1)
joining_next ps b w (ToGiveBack answer) v fits j =
    subst (λ (e : Errand). is_joining (give_back_turn ps answer e).next ≡ true) (sym fits.3) (joining_over fits.1 answer)
joining_next ps b w (Passing passage) v fits j = absurd (cc)
joining_next ps b w (Owing own) v fits j = absurd (cc)
joining_next ps b w (Due own) v fits j = absurd (cc)
joining_next ps b w (Refreshing passed_on) v fits j = absurd (cc)

pub joining_stays : (k : Key) (from at : Position) → is_joining from.progress ≡ true → Goes k from at → is_joining at.progress ≡ true
joining_stays k from at j starts = j
joining_stays k from at j (steps at' w b go fits g beside says found) =
    joining_next k.shape b w at'.progress at'.view fits (joining_stays k from at' j go)
joining_stays k from at j (looks at' w go fits g beside) =
    let r : Turn = turn_by k.shape false w at'.progress at'.view in
    let t : ℕ = place k.shape at'.progress at'.view in
    let u : View = view_after (parent_of k.shape t) (looking (meant at'.progress at'.view) t w) t w at'.view in
    by_test
    (λ c. is_joining
    (cond {A = Position} c
    (record { progress = r.next; view = u; answer = r.answer; steps = looking (meant at'.progress at'.view) t w ∷ at'.steps })
    (record {
      progress = at'.progress;
      view = u;
      answer = GoesOn;
      steps = looking (meant at'.progress at'.view) t w ∷ at'.steps;
    })).progress
    ≡ true)
    (is_look r.kind)
    (λ e. joining_next k.shape false w at'.progress at'.view fits (joining_stays k from at' j go))
    (λ e. joining_stays k from at' j go)

not_due : {A : Type 0} (p : Progress) → is_joining p ≡ true → is_due p ≡ true → A
not_due Idle j d = not_both false d refl
not_due (Begun c) j d = not_both false d refl
not_due (ToSeek tier size) j d = not_both false d refl
not_due Settling j d = not_both false d refl
not_due (ToGiveBack answer) j d = not_both false d refl
not_due (Passing passage) j d = not_both false d refl
not_due (Owing own) j d = not_both false d refl
not_due (Due own) j d = not_both false j refl
not_due (Refreshing passed_on) j d = not_both false d refl

pub joining_plan : {n : Named} {used : ℕ} {from at : Going} → WentOn n used from at → is_joining from.progress ≡ true
    → EndsAsPlanned n.key false at
joining_plan {n} {used} {from} {at} went j =
    λ d. not_due at.progress (joining_stays n.key (position from) (position at) j (went.goes (position from) starts)) d
