-- A registration that has claimed nothing has only looked, by induction on its looks and steps.
use Rattle.std.proofs.Common.{◌≡◌, ◌≢◌, ℕ, zero, suc, Bool, true, false, cond, List, ◌∷◌, refl, sym, ap, subst, arith}
use Rattle.phaser_word.specs.Fields.{Fields}
use Rattle.tier_shape.specs.Parents.{parent_of}
use Rattle.tier_steps.specs.View.{ancestor}
use Rattle.tier_steps.specs.Step.{added, view_after}
use Rattle.tier_steps.specs.declared.kind.Kind.{Kind}
use Rattle.tier_steps.specs.declared.kind.Kind.TheVariants.{Look, Glance, Refuse, Join}
use Rattle.tier_steps.specs.declared.view.View.{View}
use Rattle.tier_steps.specs.declared.view.Errand.{Errand}
use Rattle.tier_core.specs.declared.call.Played.{Played}
use Rattle.tier_core.specs.declared.call.Played.TheVariants.{GoesOn}
use Rattle.tier_core.specs.declared.call.Progress.{Progress}
use Rattle.tier_core.specs.declared.call.Progress.TheVariants.{Idle, Begun, Seeking as ToSeek, Settling, GivingBack as ToGiveBack, Passing, Owing, Due, Refreshing}
use Rattle.tier_core.specs.declared.call.Turn.{Turn}
use Rattle.tier_core.specs.Turn.{seek_turn, settle_turn, give_back_turn, settling, giving_back, claimed_by, is_refusing, is_claimable, place, turn_by}
use Rattle.tier_core.specs.Machine.{CallFits}
use Rattle.tier_core.proofs.Turns.{by_test, not_both}
use Rattle.tier_rule.specs.declared.sight.Key.{Key}
use Rattle.tier_rule.specs.Look.{glance, looking, turns_away}
use Rattle.tier_calls.specs.Next.{meant, is_look}
use Rattle.tier_calls.specs.Goes.{Position, Goes, starts, steps, looks}
use Rattle.tier_calls.specs.Joins.{JoinAt, is_joining}
use Rattle.tier_calls.specs.Made.{MadeOnly, is_entering}
use Rattle.tier_calls.proofs.Turning.{by_cond, SeekIs, ends, refused, claims, joins, seek_is, admit_at, glanced, look_is}
use Rattle.tier_calls.proofs.Passing.{root_of}
use Rattle.tier_calls.proofs.Making.{made_more, made_none}
use Rattle.tier_calls.proofs.Seeks.{joining_stays}

abbrev pub is_seeking : Progress → Bool
is_seeking (ToSeek tier size) = true
is_seeking Idle = false
is_seeking (Begun c) = false
is_seeking Settling = false
is_seeking (ToGiveBack answer) = false
is_seeking (Passing passage) = false
is_seeking (Owing own) = false
is_seeking (Due own) = false
is_seeking (Refreshing moved) = false

-- looks are steps of a registration
pub look_is_entering : (k : Kind) → is_look k ≡ true → is_entering k ≡ true
look_is_entering Look e = refl
look_is_entering Glance e = refl
look_is_entering (Refuse tier claimed size) e = refl
look_is_entering _ e = absurd (cc)

glance_looks : (t : ℕ) → is_look (glance t) ≡ true
glance_looks zero = refl
glance_looks (suc t) = refl

pub join_looks : (tier claimed size t : ℕ) (w : Fields) → is_look (looking (Join tier claimed size) t w) ≡ true
join_looks tier claimed size t w =
    by_test (λ b. is_look (cond b (Refuse tier claimed size) (glance t)) ≡ true) (turns_away (added claimed size) w) (λ e. refl)
    (λ e. glance_looks t)

look_looks : (p : Progress) (v : View) (t : ℕ) (w : Fields) → is_look (looking (meant p v) t w) ≡ true
look_looks (ToSeek tier size) v t w = join_looks tier (claimed_by v.errand) size t w
look_looks Idle v t w = glance_looks t
look_looks (Begun c) v t w = glance_looks t
look_looks Settling v t w = glance_looks t
look_looks (ToGiveBack answer) v t w = glance_looks t
look_looks (Passing passage) v t w = glance_looks t
look_looks (Owing own) v t w = glance_looks t
look_looks (Due own) v t w = glance_looks t
look_looks (Refreshing moved) v t w = glance_looks t

back_seeks_not : (claimed : ℕ) (a : Played) → is_seeking (giving_back claimed a) ≡ false
back_seeks_not zero a = refl
back_seeks_not (suc claimed) a = refl

settling_seeks_not : (claimed : ℕ) → is_seeking (settling claimed) ≡ false
settling_seeks_not zero = refl
settling_seeks_not (suc claimed) = refl

-- no step of a call leads to the state in which it seeks its tier and has claimed nothing
seeks_no_more : (ps : List ℕ) (b : Bool) (w : Fields) (p : Progress) (v : View) → CallFits ps p v → is_joining p ≡ true
    → is_seeking (turn_by ps b w p v).next ≡ true
    → claimed_by (view_after (parent_of ps (place ps p v)) (turn_by ps b w p v).kind (place ps p v) w v).errand ≡ 0 → ⊥
seeks_no_more ps b w Idle v fits j s none = not_both false s refl
seeks_no_more ps b w (Begun c) v fits j s none = not_both false s refl
seeks_no_more ps b w (ToSeek tier size) v fits j s none =
    let t : ℕ = ancestor ps tier (claimed_by v.errand) in
    let P : Turn → Type 0 = λ r. is_seeking r.next ≡ true → claimed_by (view_after (parent_of ps t) r.kind t w v).errand ≡ 0 → ⊥ in
    by_cond P w.ended _ _ (λ e s' z. not_both _ s' (back_seeks_not (claimed_by v.errand) _))
    (λ e. by_cond P (is_refusing (added (claimed_by v.errand) size) w) _ _ (λ f s' z. not_both _ s' (back_seeks_not (claimed_by v.errand) _))
    (λ f. by_cond P (is_claimable t w) _ _ (λ h s' z. absurd (omega arith)) (λ h s' z. not_both _ s' (settling_seeks_not (claimed_by v.errand)))))
    s none
seeks_no_more ps b w Settling v fits j s none =
    not_both (is_seeking (turn_by ps b w Settling v).next) s
    (subst (λ (e : Errand). is_seeking (settle_turn ps v e).next ≡ false) (sym fits.3) (settling_seeks_not fits.1))
seeks_no_more ps b w (ToGiveBack answer) v fits j s none =
    not_both (is_seeking (turn_by ps b w (ToGiveBack answer) v).next) s
    (subst (λ (e : Errand). is_seeking (give_back_turn ps answer e).next ≡ false) (sym fits.3) (back_seeks_not fits.1 answer))
seeks_no_more ps b w (Passing passage) v fits j s none = not_both false j refl
seeks_no_more ps b w (Owing own) v fits j s none = not_both false j refl
seeks_no_more ps b w (Due own) v fits j s none = not_both false j refl
seeks_no_more ps b w (Refreshing moved) v fits j s none = not_both false j refl

-- a look that is none of the call's steps leaves what is claimed
stays_claimed : (ps : List ℕ) (w : Fields) (p : Progress) (v : View) → is_seeking p ≡ true → is_look (turn_by ps false w p v).kind ≡ false
    → (view_after (parent_of ps (place ps p v)) (looking (meant p v) (place ps p v) w) (place ps p v) w v).errand ≡ v.errand
stays_claimed ps w (ToSeek tier size) v s quiet = go (seek_is tier (claimed_by v.errand) size t w v)
  where
    t : ℕ
    t = ancestor ps tier (claimed_by v.errand)

    admits : w.ended ≡ false → is_refusing (added (claimed_by v.errand) size) w ≡ false
        → (view_after (parent_of ps t) (looking (Join tier (claimed_by v.errand) size) t w) t w v).errand ≡ v.errand
    admits e f =
        subst (λ (k : Kind). (view_after (parent_of ps t) k t w v).errand ≡ v.errand) (sym (admit_at t tier (claimed_by v.errand) size w f))
        ((glanced (parent_of ps t) t w v).open_errand e)

    go : SeekIs tier (claimed_by v.errand) size t w (seek_turn tier (claimed_by v.errand) size t w v)
        → (view_after (parent_of ps t) (looking (Join tier (claimed_by v.errand) size) t w) t w v).errand ≡ v.errand
    go (ends e k at) = not_both _ (ap is_look k) quiet
    go (refused e f k at) = not_both _ (ap is_look k) quiet
    go (claims e f k at) = admits e f
    go (joins e f k at) = admits e f
stays_claimed ps w Idle v s quiet = not_both false s refl
stays_claimed ps w (Begun c) v s quiet = not_both false s refl
stays_claimed ps w Settling v s quiet = not_both false s refl
stays_claimed ps w (ToGiveBack answer) v s quiet = not_both false s refl
stays_claimed ps w (Passing passage) v s quiet = not_both false s refl
stays_claimed ps w (Owing own) v s quiet = not_both false s refl
stays_claimed ps w (Due own) v s quiet = not_both false s refl
stays_claimed ps w (Refreshing moved) v s quiet = not_both false s refl

pub watches_along : (k : Key) (from at : Position) → is_joining from.progress ≡ true → Goes k from at → is_seeking at.progress ≡ true
    → claimed_by at.view.errand ≡ 0
    → MadeOnly is_look from.steps at.steps
watches_along k from at j starts s none = made_none is_look from.steps
watches_along k from at j (steps at' w b go fits g beside says found) s none =
    absurd (seeks_no_more k.shape b w at'.progress at'.view fits (joining_stays k from at' j go) s none)
watches_along k from at j (looks at' w go fits g beside) s none =
    let r : Turn = turn_by k.shape false w at'.progress at'.view in
    let t : ℕ = place k.shape at'.progress at'.view in
    let kind : Kind = looking (meant at'.progress at'.view) t w in
    let u : View = view_after (parent_of k.shape t) kind t w at'.view in
    let l = look_is k.shape w at'.view (parent_of k.shape t) at'.progress fits g (root_of k.shape t w at'.view beside) in
    let M : Bool → Type 0 = λ c.
    let x : Position =
    cond {A = Position} c (record { progress = r.next; view = u; answer = r.answer; steps = kind ∷ at'.steps })
    (record { progress = at'.progress; view = u; answer = GoesOn; steps = kind ∷ at'.steps }) in
    is_seeking x.progress ≡ true → claimed_by x.view.errand ≡ 0 → MadeOnly is_look from.steps x.steps in
    by_test M (is_look r.kind)
    (λ e s' z. absurd (seeks_no_more k.shape false w at'.progress at'.view fits (joining_stays k from at' j go) s'
    (subst (λ (x : Kind). claimed_by (view_after (parent_of k.shape t) x t w at'.view).errand ≡ 0) (l.turn e) z)))
    (λ e s' z. made_more is_look kind from.steps at'.steps (look_looks at'.progress at'.view t w)
    (watches_along k from at' j go s' (subst (λ (x : Errand). claimed_by x ≡ 0) (stays_claimed k.shape w at'.progress at'.view s' e) z))) s
    none

-- a call of a join that is not over and has claimed nothing still seeks its tier
pub seeks_still : (ps : List ℕ) (least home tier size : ℕ) (v : View) (a : Played) (p : Progress) → JoinAt ps least home tier size v a p
    → p ≢ Idle → claimed_by v.errand ≡ 0 → is_seeking p ≡ true
seeks_still ps least home tier size v a Idle sh more none = absurd (more refl)
seeks_still ps least home tier size v a (Begun c) sh more none = absurd sh
seeks_still ps least home tier size v a (ToSeek tier' size') sh more none = refl
seeks_still ps least home tier size v a Settling sh more none = let c = ap claimed_by sh.errand in absurd (omega arith)
seeks_still ps least home tier size v a (ToGiveBack b) sh more none = let c = ap claimed_by sh.errand in absurd (omega arith)
seeks_still ps least home tier size v a (Passing passage) sh more none = absurd sh
seeks_still ps least home tier size v a (Owing passage) sh more none = absurd sh
seeks_still ps least home tier size v a (Due passage) sh more none = absurd sh
seeks_still ps least home tier size v a (Refreshing moved) sh more none = absurd sh
