-- The next step of a call by one word: that its token may take it, and what a look in its place leaves.
use Rattle.std.proofs.Common.{◌≡◌, ℕ, zero, suc, ◌<◌, ◌≤◌, ◌⊎◌, inl, inr, ⊎_elim, Bool, true, false, cond, not, ◌&&◌, List, [], ◌∷◌, ◌++◌, length, refl, sym, ◌∙◌, ap, subst, arith, Some, None}
use Rattle.phaser_word.specs.Fields.{Fields}
use Rattle.tier_shape.specs.Parents.{parent_of}
use Rattle.tier_shape.specs.Paths.{IsTiers}
use Rattle.tier_steps.specs.View.{ancestor}
use Rattle.tier_steps.specs.Tally.{blank, word_at, Tallies}
use Rattle.tier_steps.specs.Step.{Needs, opening, added, looked, moved, dropped, is_going_back, view_after}
use Rattle.tier_steps.specs.declared.kind.Kind.{Kind}
use Rattle.tier_steps.specs.declared.kind.Kind.TheVariants.{Look, Glance, Refuse, Join, Advance, Claim, Climb, Refresh}
use Rattle.tier_steps.specs.declared.view.View.{View}
use Rattle.tier_steps.specs.declared.view.Errand.{Errand}
use Rattle.tier_steps.specs.declared.view.Errand.TheVariants.{Opening, Climbing}
use Rattle.tier_steps.specs.declared.view.OpeningStage.TheVariants.{Seeking, Joined, GoingBack}
use Rattle.tier_steps.specs.declared.view.Passage.{Passage}
use Rattle.tier_steps.specs.declared.view.Passage.TheVariants.{Arrival, Departure}
use Rattle.tier_steps.proofs.Looking.{move_keeps}
use Rattle.tier_core.specs.declared.call.Played.{Played}
use Rattle.tier_core.specs.declared.call.Played.TheVariants.{Done}
use Rattle.tier_core.specs.declared.call.Progress.{Progress}
use Rattle.tier_core.specs.declared.call.Progress.TheVariants.{Idle, Begun, Seeking as ToSeek, Settling, GivingBack as ToGiveBack, Passing, Owing, Due, Refreshing}
use Rattle.tier_core.specs.declared.call.Turn.{Turn}
use Rattle.tier_core.specs.Turn.{seek_turn, settle_turn, give_back_turn, pass_turn, climb_turn, own_kind, end_shown, polled, claimed_by, lags, is_refusing, is_claimable, errand_place, place, turn_by}
use Rattle.tier_core.specs.Machine.{CallFits, IsNextBy, is_going}
use Rattle.tier_core.proofs.Turns.{one_word_is_enough, by_test, not_both}
use Rattle.tier_rule.specs.Look.{glance, refusing, looking}
use Rattle.tier_calls.specs.Next.{meant, is_look}

-- only the root ends
past : (ws : List Fields) (t : ℕ) → length ws ≤ t → word_at ws t ≡ blank
past [] t h = refl
past (w ∷ ws) zero h = absurd (omega arith)
past (w ∷ ws) (suc t) h = past ws t (omega arith)

pub ended_root : (ps : List ℕ) (ws : List Fields) (vs : List View) (t : ℕ) → Tallies ps ws vs → (word_at ws t).ended ≡ true → t ≡ 0
ended_root ps ws vs zero tally e = refl
ended_root ps ws vs (suc t) tally e = ⊎_elim
    (λ (h : suc t < length ws). not_both (word_at ws (suc t)).ended e (tally.ends (suc t) (omega arith) h))
    (λ (h : length ws ≤ suc t). not_both (word_at ws (suc t)).ended e (ap (λ (w : Fields). w.ended) (past ws (suc t) h)))
    (apart (suc t) (length ws))
  where
    apart : (a b : ℕ) → (a < b) ⊎ (b ≤ a)
    apart a zero = inr (omega arith)
    apart zero (suc b) = inl (omega arith)
    apart (suc a) (suc b) = ⊎_elim (λ (h : a < b). inl (omega arith)) (λ (h : b ≤ a). inr (omega arith)) (apart a b)

pub by_cond : (P : Turn → Type 0) (b : Bool) (x y : Turn) → (b ≡ true → P x) → (b ≡ false → P y) → P (cond b x y)
by_cond P true x y f g = f refl
by_cond P false x y f g = g refl

-- what a join's next step is, by what it finds
pub data SeekIs (tier claimed size t : ℕ) (w : Fields) (r : Turn) : Type 0 where
  ends : w.ended ≡ true → r.kind ≡ Look → r.tier ≡ 0 → SeekIs tier claimed size t w r
  refused : w.ended ≡ false → is_refusing (added claimed size) w ≡ true → r.kind ≡ Refuse tier claimed size → r.tier ≡ t
      → SeekIs tier claimed size t w r
  claims : w.ended ≡ false → is_refusing (added claimed size) w ≡ false → r.kind ≡ Claim tier claimed size → r.tier ≡ t
      → SeekIs tier claimed size t w r
  joins : w.ended ≡ false → is_refusing (added claimed size) w ≡ false → r.kind ≡ Join tier claimed size → r.tier ≡ t
      → SeekIs tier claimed size t w r

pub seek_is : (tier claimed size t : ℕ) (w : Fields) (v : View) → SeekIs tier claimed size t w (seek_turn tier claimed size t w v)
seek_is tier claimed size t w v =
    by_cond (SeekIs tier claimed size t w) w.ended _ _ (λ e. ends e refl refl)
    (λ e. by_cond (SeekIs tier claimed size t w) (is_refusing (added claimed size) w) _ _ (λ f. refused e f refl refl)
    (λ f. by_cond (SeekIs tier claimed size t w) (is_claimable t w) _ _ (λ g. claims e f refl refl) (λ g. joins e f refl refl)))

-- what the step is by which a party passes a tier
pub data PassIs (t : ℕ) (kind : Kind) (w : Fields) (r : Turn) : Type 0 where
  over : w.ended ≡ true → r.kind ≡ Look → r.tier ≡ 0 → PassIs t kind w r
  behind : w.ended ≡ false → r.kind ≡ Refresh → r.tier ≡ t → PassIs t kind w r
  passes : w.ended ≡ false → r.kind ≡ kind → r.tier ≡ t → PassIs t kind w r

pub pass_is : (ps : List ℕ) (own : Passage) (t : ℕ) (passage : Passage) (kind : Kind) (here : Progress) (answer : Played) (w : Fields)
    (v : View)
    → PassIs t kind w (pass_turn ps own t passage kind here answer w v)
pass_is ps own t passage kind here answer w v =
    by_cond (PassIs t kind w) w.ended _ _ (λ e. over e refl refl)
    (λ e. by_cond (PassIs t kind w) (lags w v) _ _ (λ f. behind e refl refl) (λ f. passes e refl refl))

-- a step that a call may take next
pub record NextBy (ps : List ℕ) (ws : List Fields) (p : Progress) (v : View) (w : Fields) (r : Turn) : Type 0 where
  pub within : place ps p v < length ws
  pub needs : Needs ps r.kind (place ps p v) w v
  pub keeps : CallFits ps r.next (view_after (parent_of ps (place ps p v)) r.kind (place ps p v) w v)

pub next_by : (ps : List ℕ) (ws : List Fields) (front back : List View) (p : Progress) (v : View) (w : Fields) (b : Bool) → IsTiers ps
    → Tallies ps ws (front ++ v ∷ back)
    → CallFits ps p v → is_going p ≡ true → word_at ws (place ps p v) ≡ w → NextBy ps ws p v w (turn_by ps b w p v)
next_by ps ws front back p v w b shape tally fits going here =
    let n : IsNextBy ps ws v (place ps p v) (turn_by ps b (word_at ws (place ps p v)) p v) =
    one_word_is_enough ps ws front v back p b shape.shape tally going fits in
    record {
      within = n.next.within;
      needs = subst (λ (z : Fields). Needs ps (turn_by ps b z p v).kind (place ps p v) z v) here n.next.needs;
      keeps =
          subst
          (λ (z : Fields). CallFits ps (turn_by ps b z p v).next (view_after (parent_of ps (place ps p v)) (turn_by ps b z p v).kind (place ps p v) z v))
          here n.next.keeps;
    }

-- what a look that refuses nothing leaves of a view
pub record Glanced (w : Fields) (v u : View) : Type 0 where
  pub size : u.size ≡ v.size
  pub tier : u.tier ≡ v.tier
  pub open_errand : w.ended ≡ false → u.errand ≡ v.errand
  pub kept_errand : dropped v.errand ≡ v.errand → u.errand ≡ v.errand
  pub arrived : w.ended ≡ false → v.arrived < v.size → u.arrived ≡ v.arrived
  pub phase : w.ended ≡ false → v.arrived < v.size → u.phase ≡ v.phase

root_glanced : (w : Fields) (v : View) → Glanced w v (looked w v)
root_glanced w v =
    let u : View = record v { led = false; note = cond (is_going_back v.errand) v.note None } in
    by_test (λ b. (w.ended ≡ b) → Glanced w v (cond b (record u { end_seen = Some w.phase; errand = dropped v.errand }) (moved w u)))
    w.ended
    (λ e f. record { size = refl; tier = refl; open_errand = λ g. not_both w.ended f g; kept_errand = λ d. d; arrived = λ g l. refl; phase = λ g l. refl })
    (λ e f. move_keeps (Glanced w v) w u
    (record { size = refl; tier = refl; open_errand = λ g. refl; kept_errand = λ d. refl; arrived = λ g l. refl; phase = λ g l. refl })
    (λ a b. record { size = refl; tier = refl; open_errand = λ g. refl; kept_errand = λ d. refl; arrived = λ g l. absurd (omega arith); phase = λ g l. absurd (omega arith) }))
    refl

pub glanced : (above t : ℕ) (w : Fields) (v : View) → Glanced w v (view_after above (glance t) t w v)
glanced above zero w v = root_glanced w v
glanced above (suc t) w v =
    record { size = refl; tier = refl; open_errand = λ g. refl; kept_errand = λ d. refl; arrived = λ g l. refl; phase = λ g l. refl }

-- What a look in place of the next step is: that step itself if it is a look, and else one that changes nothing of the
-- call.
pub record LookIs (ps : List ℕ) (w : Fields) (p : Progress) (v u : View) (k : Kind) (r : Turn) : Type 0 where
  pub turn : is_look r.kind ≡ true → k ≡ r.kind
  pub fits : is_look r.kind ≡ false → CallFits ps p u
  pub there : is_look r.kind ≡ false → place ps p u ≡ place ps p v
  pub tries : is_look r.kind ≡ false → is_look (turn_by ps false w p u).kind ≡ false

no_look : {A : Type 0} (k k' : Kind) → is_look k ≡ true → k ≡ k' → is_look k' ≡ false → A
no_look k k' a e b = not_both (is_look k') (subst (λ (z : Kind). is_look z ≡ true) e a) b

pub refuse_at : (t tier claimed size : ℕ) (w : Fields) → w.ended ≡ false → is_refusing (added claimed size) w ≡ true
    → refusing t tier claimed size w ≡ Refuse tier claimed size
refuse_at t tier claimed size w going e =
    ap (λ (b : Bool). cond (not b && is_refusing (added claimed size) w) (Refuse tier claimed size) (glance t)) going
    ∙ ap (λ (b : Bool). cond b (Refuse tier claimed size) (glance t)) e

pub admit_at : (t tier claimed size : ℕ) (w : Fields) → is_refusing (added claimed size) w ≡ false
    → refusing t tier claimed size w ≡ glance t
admit_at t tier claimed size w e = go (not w.ended) (is_refusing (added claimed size) w) e
  where
    go : (a b : Bool) → b ≡ false → cond (a && b) (Refuse tier claimed size) (glance t) ≡ glance t
    go true false e = refl
    go false false e = refl
    go true true e = absurd (cc)
    go false true e = absurd (cc)

pub ended_at : (t tier claimed size : ℕ) (w : Fields) → w.ended ≡ true → t ≡ 0 → refusing t tier claimed size w ≡ Look
ended_at t tier claimed size w e z =
    ap (λ (b : Bool). cond (not b && is_refusing (added claimed size) w) (Refuse tier claimed size) (glance t)) e ∙ ap glance z

-- a look that is none of the call's steps, if the turn of its view is no look
plain : (ps : List ℕ) (w : Fields) (p : Progress) (v u : View) (k : Kind) (r : Turn) → (is_look r.kind ≡ true → k ≡ r.kind)
    → CallFits ps p u → place ps p u ≡ place ps p v
    → is_look (turn_by ps false w p u).kind ≡ false → LookIs ps w p v u k r
plain ps w p v u k r a b c d = record { turn = a; fits = λ e. b; there = λ e. c; tries = λ e. d }

seek_tries : (tier claimed size t : ℕ) (w : Fields) (v : View) → w.ended ≡ false → is_refusing (added claimed size) w ≡ false
    → is_look (seek_turn tier claimed size t w v).kind ≡ false
seek_tries tier claimed size t w v going admits = go (seek_is tier claimed size t w v)
  where
    go : SeekIs tier claimed size t w (seek_turn tier claimed size t w v) → is_look (seek_turn tier claimed size t w v).kind ≡ false
    go (ends e k at) = not_both w.ended e going
    go (refused e f k at) = not_both (is_refusing (added claimed size) w) f admits
    go (claims e f k at) = ap is_look k
    go (joins e f k at) = ap is_look k

pub pass_tries : (ps : List ℕ) (own : Passage) (t : ℕ) (passage : Passage) (kind : Kind) (here : Progress) (answer : Played) (w : Fields)
    (v : View)
    → is_look kind ≡ false → w.ended ≡ false
    → is_look (pass_turn ps own t passage kind here answer w v).kind ≡ false
pass_tries ps own t passage kind here answer w v quiet going = go (pass_is ps own t passage kind here answer w v)
  where
    go : PassIs t kind w (pass_turn ps own t passage kind here answer w v)
        → is_look (pass_turn ps own t passage kind here answer w v).kind ≡ false
    go (over e k at) = not_both w.ended e going
    go (behind e k at) = ap is_look k
    go (passes e k at) = ap is_look k ∙ quiet

module _ (ps : List ℕ) (w : Fields) (v : View) (above : ℕ) where
  seek_plain : (tier size : ℕ) → CallFits ps (ToSeek tier size) v → w.ended ≡ false
      → is_refusing (added (claimed_by v.errand) size) w ≡ false
      → is_look (turn_by ps false w (ToSeek tier size) v).kind ≡ false
      → let k = looking (meant (ToSeek tier size) v) (place ps (ToSeek tier size) v) w in
      LookIs ps w (ToSeek tier size) v (view_after above k (place ps (ToSeek tier size) v) w v) k (turn_by ps false w (ToSeek tier size) v)
  seek_plain tier size fits e f quiet =
      let t : ℕ = place ps (ToSeek tier size) v in
      let c : ℕ = claimed_by v.errand in
      let is = admit_at t tier c size w f in
      let u : View = view_after above (looking (meant (ToSeek tier size) v) t w) t w v in
      let g : Glanced w v u = subst (λ (z : Kind). Glanced w v (view_after above z t w v)) (sym is) (glanced above t w v) in
      let errand : u.errand ≡ v.errand = g.open_errand e in
      let n = fits.1 in
      plain ps w (ToSeek tier size) v u (looking (meant (ToSeek tier size) v) t w) (turn_by ps false w (ToSeek tier size) v)
      (λ l. not_both (is_look (turn_by ps false w (ToSeek tier size) v).kind) l quiet) (
        subst (λ (z : Errand). z ≡ opening tier (claimed_by z) Seeking size) (sym errand) fits.0,
        record { place = n.place; some = n.some; few = n.few; none = g.size ∙ n.none },
      )
      (ap (λ (z : Errand). ancestor ps tier (claimed_by z)) errand)
      (seek_tries tier (claimed_by u.errand) size (ancestor ps tier (claimed_by u.errand)) w u e (subst (λ (z : Errand). is_refusing (added (claimed_by z) size) w ≡ false) (sym errand) f))

  seek_look : (tier size : ℕ) → CallFits ps (ToSeek tier size) v → (w.ended ≡ true → place ps (ToSeek tier size) v ≡ 0)
      → SeekIs tier (claimed_by v.errand) size (place ps (ToSeek tier size) v) w (turn_by ps false w (ToSeek tier size) v)
      → let k = looking (meant (ToSeek tier size) v) (place ps (ToSeek tier size) v) w in
      LookIs ps w (ToSeek tier size) v (view_after above k (place ps (ToSeek tier size) v) w v) k (turn_by ps false w (ToSeek tier size) v)
  seek_look tier size fits root (ends e k at) =
      let is = ended_at (place ps (ToSeek tier size) v) tier (claimed_by v.errand) size w e (root e) in
      record {
        turn = λ l. is ∙ sym k;
        fits = λ l. no_look Look _ refl (sym k) l;
        there = λ l. no_look Look _ refl (sym k) l;
        tries = λ l. no_look Look _ refl (sym k) l;
      }
  seek_look tier size fits root (refused e f k at) =
      let is = refuse_at (place ps (ToSeek tier size) v) tier (claimed_by v.errand) size w e f in
      let r : Kind = Refuse tier (claimed_by v.errand) size in
      record {
        turn = λ l. is ∙ sym k;
        fits = λ l. no_look r _ refl (sym k) l;
        there = λ l. no_look r _ refl (sym k) l;
        tries = λ l. no_look r _ refl (sym k) l;
      }
  seek_look tier size fits root (claims e f k at) = seek_plain tier size fits e f (ap is_look k)
  seek_look tier size fits root (joins e f k at) = seek_plain tier size fits e f (ap is_look k)

  -- looks of calls that refuse nothing
  pass_plain : (p : Progress) (own : Passage) (t : ℕ) (passage : Passage) (kind : Kind) (here : Progress) (answer : Played)
      → is_look kind ≡ false
      → (w.ended ≡ true → t ≡ 0)
      → (w.ended ≡ false → (u : View) → Glanced w v u
      → CallFits ps p u × (place ps p u ≡ place ps p v) × (is_look (turn_by ps false w p u).kind ≡ false))
      → PassIs t kind w (pass_turn ps own t passage kind here answer w v)
      → LookIs ps w p v (view_after above (glance t) t w v) (glance t) (pass_turn ps own t passage kind here answer w v)
  pass_plain p own t passage kind here answer quiet root keeps (over e k at) =
      record {
        turn = λ l. ap glance (root e) ∙ sym k;
        fits = λ l. no_look Look _ refl (sym k) l;
        there = λ l. no_look Look _ refl (sym k) l;
        tries = λ l. no_look Look _ refl (sym k) l;
      }
  pass_plain p own t passage kind here answer quiet root keeps (behind e k at) =
      let r = keeps e (view_after above (glance t) t w v) (glanced above t w v) in
      record { turn = λ l. not_both (is_look _) l (ap is_look k); fits = λ l. r.0; there = λ l. r.1; tries = λ l. r.2 }
  pass_plain p own t passage kind here answer quiet root keeps (passes e k at) =
      let r = keeps e (view_after above (glance t) t w v) (glanced above t w v) in
      record { turn = λ l. not_both (is_look _) l (ap is_look k ∙ quiet); fits = λ l. r.0; there = λ l. r.1; tries = λ l. r.2 }

  own_no_look : (passage : Passage) → is_look (own_kind passage) ≡ false
  own_no_look Arrival = refl
  own_no_look Departure = refl

  glance_below : (t : ℕ) → 0 < t → glance t ≡ Glance
  glance_below zero h = absurd (omega arith)
  glance_below (suc t) h = refl

  settle_tries : (e : Errand) (tier claimed size : ℕ) (u : View) → e ≡ Opening tier (suc claimed) Joined size
      → is_look (settle_turn ps u e).kind ≡ false
  settle_tries e tier claimed size u is = subst (λ (z : Errand). is_look (settle_turn ps u z).kind ≡ false) (sym is) refl

  back_tries : (e : Errand) (tier claimed size : ℕ) (answer : Played) → e ≡ Opening tier (suc claimed) GoingBack size
      → is_look (give_back_turn ps answer e).kind ≡ false
  back_tries e tier claimed size answer is = subst (λ (z : Errand). is_look (give_back_turn ps answer z).kind ≡ false) (sym is) refl

  pub look_is : (p : Progress) → CallFits ps p v → is_going p ≡ true → (w.ended ≡ true → place ps p v ≡ 0)
      → let k = looking (meant p v) (place ps p v) w in LookIs ps w p v (view_after above k (place ps p v) w v) k (turn_by ps false w p v)
  look_is Idle fits g root = absurd (cc)
  look_is (Begun c) fits g root = absurd (cc)
  look_is (ToSeek tier size) fits g root =
      seek_look tier size fits root (seek_is tier (claimed_by v.errand) size (ancestor ps tier (claimed_by v.errand)) w v)
  look_is Settling fits g root =
      let t : ℕ = errand_place ps v.errand in
      let u : View = view_after above (glance t) t w v in
      let s = (glanced above t w v).kept_errand (subst (λ (z : Errand). dropped z ≡ z) (sym fits.3) refl) in
      plain ps w Settling v u (glance t) (turn_by ps false w Settling v)
      (λ l. not_both (is_look _) l (settle_tries v.errand fits.0 fits.1 fits.2 v fits.3))
      (fits.0, fits.1, fits.2, s ∙ fits.3) (ap (errand_place ps) s) (settle_tries u.errand fits.0 fits.1 fits.2 u (s ∙ fits.3))
  look_is (ToGiveBack answer) fits g root =
      let t : ℕ = errand_place ps v.errand in
      let u : View = view_after above (glance t) t w v in
      let s = (glanced above t w v).kept_errand (subst (λ (z : Errand). dropped z ≡ z) (sym fits.3) refl) in
      plain ps w (ToGiveBack answer) v u (glance t) (turn_by ps false w (ToGiveBack answer) v)
      (λ l. not_both (is_look _) l (back_tries v.errand fits.0 fits.1 fits.2 answer fits.3))
      (fits.0, fits.1, fits.2, s ∙ fits.3, fits.4) (ap (errand_place ps) s) (back_tries u.errand fits.0 fits.1 fits.2 answer (s ∙ fits.3))
  look_is (Passing passage) fits g root =
      pass_plain (Passing passage) passage v.tier passage (own_kind passage) (Passing passage) (end_shown w) (own_no_look passage) root
      (λ e u d. (
        (d.open_errand e ∙ fits.0, (let a = d.arrived e fits.1 in let b = d.size in let c = fits.1 in omega arith)),
        d.tier,
        pass_tries ps passage u.tier passage (own_kind passage) (Passing passage) (end_shown w) w u (own_no_look passage) e,
      ))
      (pass_is ps passage v.tier passage (own_kind passage) (Passing passage) (end_shown w) w v)
  look_is (Owing own) fits g root =
      let t : ℕ = fits.0 in
      let passage : Passage = fits.1 in
      let is : v.errand ≡ Climbing t passage = fits.2 in
      subst
      (λ (z : Errand). LookIs ps w (Owing own) v (view_after above (glance (errand_place ps z)) (errand_place ps z) w v) (glance (errand_place ps z)) (climb_turn ps own w v z))
      (sym is)
      (pass_plain (Owing own) own t passage (Climb passage) (Owing own) (Done v.phase) refl (λ e. sym (ap (errand_place ps) is) ∙ root e)
      (λ e u d. (
        (t, passage, d.open_errand e ∙ is),
        ap (errand_place ps) (d.open_errand e),
        subst (λ (z : Errand). is_look (climb_turn ps own w u z).kind ≡ false) (sym (d.open_errand e ∙ is))
            (pass_tries ps own t passage (Climb passage) (Owing own) (Done u.phase) w u refl e),
      ))
      (pass_is ps own t passage (Climb passage) (Owing own) (Done v.phase) w v))
  look_is (Due own) fits g root =
      by_test
      (λ c. (w.ended ≡ c)
      → LookIs ps w (Due own) v (looked w v) Look
      (record { kind = cond c Look (Advance false); tier = 0; next = Idle; answer = Done v.phase }))
      w.ended
      (λ e f. record { turn = λ l. refl; fits = λ l. not_both true refl l; there = λ l. refl; tries = λ l. not_both true refl l })
      (λ e f. plain ps w (Due own) v (looked w v) Look (record { kind = Advance false; tier = 0; next = Idle; answer = Done v.phase })
      (λ l. not_both (is_look (Advance false)) l refl) ((root_glanced w v).open_errand f ∙ fits) refl
      (ap (λ (c : Bool). is_look (cond c Look (Advance false))) f)) refl
  look_is (Refreshing passed_on) fits g root =
      let is : glance v.tier ≡ Glance = glance_below v.tier fits.2 in
      subst
      (λ (k : Kind). LookIs ps w (Refreshing passed_on) v (view_after above k v.tier w v) k (turn_by ps false w (Refreshing passed_on) v))
      (sym is)
      (by_test (λ b. LookIs ps w (Refreshing passed_on) v v Glance (record { kind = cond b Refresh Glance; tier = v.tier; next = Idle; answer = polled passed_on v.phase })) (lags w v)
      (λ e. record { turn = λ l. not_both (is_look Refresh) l refl; fits = λ l. fits; there = λ l. refl; tries = λ l. ap (λ (b : Bool). is_look (cond b Refresh Glance)) e })
      (λ e. record { turn = λ l. refl; fits = λ l. fits; there = λ l. refl; tries = λ l. not_both (is_look Glance) refl l }))
