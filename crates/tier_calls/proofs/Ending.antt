-- An end that was seen stays seen, and a path that is given back ends in a refusal.
use Rattle.std.proofs.Common.{◌≡◌, ℕ, zero, suc, ◌<◌, Bool, true, false, cond, ◌∷◌, List, refl, sym, ◌∙◌, ap, subst, arith, Option, Some, None}
use Rattle.phaser_word.specs.Fields.{Fields}
use Rattle.tier_shape.specs.Parents.{parent_of}
use Rattle.tier_steps.specs.Step.{looked, refused, view_after}
use Rattle.tier_steps.specs.declared.kind.Kind.{Kind}
use Rattle.tier_steps.specs.declared.kind.Kind.TheVariants.{Look, Glance, Refuse, Join, Arrive, Leave, Advance, Force, Claim, Settle, SettleBack, Climb, Refresh}
use Rattle.tier_steps.specs.declared.view.View.{View}
use Rattle.tier_steps.specs.declared.view.Errand.{Errand}
use Rattle.tier_core.specs.declared.call.Played.{Played}
use Rattle.tier_core.specs.declared.call.Played.TheVariants.{GoesOn, Held, Full}
use Rattle.tier_core.specs.declared.call.Progress.{Progress}
use Rattle.tier_core.specs.declared.call.Progress.TheVariants.{Idle, Begun, Seeking as ToSeek, Settling, GivingBack as ToGiveBack, Passing, Owing, Due, Refreshing}
use Rattle.tier_core.specs.declared.call.Turn.{Turn}
use Rattle.tier_core.specs.Turn.{give_back_turn, unless_claimed, giving_back, claimed_by, is_refusal, place, turn_by}
use Rattle.tier_core.specs.Machine.{CallFits, is_going}
use Rattle.tier_core.proofs.Turns.{by_test, not_both}
use Rattle.tier_rule.specs.declared.sight.Key.{Key}
use Rattle.tier_rule.specs.Look.{looking}
use Rattle.tier_calls.specs.declared.going.Going.{Going}
use Rattle.tier_calls.specs.declared.joining.Registered.{Registered}
use Rattle.tier_calls.specs.declared.joining.Opened.{Opened}
use Rattle.tier_calls.specs.declared.joining.Opened.TheVariants as opened
use Rattle.tier_calls.specs.Holding.{Named}
use Rattle.tier_calls.specs.Next.{meant, is_look}
use Rattle.tier_calls.specs.Goes.{Position, position, Goes, starts, steps, looks, Ran}
use Rattle.tier_calls.specs.Joins.{JoinAt}
use Rattle.tier_calls.specs.Openings.{IsOpening}
use Rattle.tier_calls.specs.Registers.{AnswersJoin, SameAnswer, IsEndedOrOwed}
use Rattle.tier_calls.proofs.Seeks.{look_end, look_unended}
use Rattle.tier_calls.proofs.Coming.{ends_as}

-- whether an end was seen
abbrev seen : Option ℕ → Bool
seen (Some p) = true
seen None = false

seen_look : (w : Fields) (v : View) → seen v.end_seen ≡ true → seen (looked w v).end_seen ≡ true
seen_look w v h =
    by_test (λ _. seen (looked w v).end_seen ≡ true) w.ended (λ e. ap seen (look_end w v e)) (λ e. ap seen (look_unended w v e) ∙ h)

seen_refusal : (t : ℕ) (w : Fields) (v : View) → seen v.end_seen ≡ true → seen (refused t w v).end_seen ≡ true
seen_refusal zero w v h = seen_look w v h
seen_refusal (suc t) w v h = h

seen_step : (above : ℕ) (k : Kind) (t : ℕ) (w : Fields) (v : View) → seen v.end_seen ≡ true
    → seen (view_after above k t w v).end_seen ≡ true
seen_step above Look t w v h = seen_look w v h
seen_step above Glance t w v h = h
seen_step above (Refuse tier claimed size) t w v h = seen_refusal t w v h
seen_step above (Join tier claimed size) t w v h = h
seen_step above Arrive t w v h = h
seen_step above Leave t w v h = h
seen_step above (Advance ends) t w v h = h
seen_step above Force t w v h = refl
seen_step above (Claim tier claimed size) t w v h = h
seen_step above (Settle tier claimed size) t w v h = h
seen_step above (SettleBack tier claimed size) t w v h = h
seen_step above (Climb passage) t w v h = h
seen_step above Refresh t w v h = h

seen_goes : (k : Key) (from at : Position) → seen from.view.end_seen ≡ true → Goes k from at → seen at.view.end_seen ≡ true
seen_goes k from at h starts = h
seen_goes k from at h (steps at' w b go fits g beside says found) =
    let t : ℕ = place k.shape at'.progress at'.view in
    seen_step (parent_of k.shape t) (turn_by k.shape b w at'.progress at'.view).kind t w at'.view (seen_goes k from at' h go)
seen_goes k from at h (looks at' w go fits g beside) =
    let r : Turn = turn_by k.shape false w at'.progress at'.view in
    let t : ℕ = place k.shape at'.progress at'.view in
    let u : View = view_after (parent_of k.shape t) (looking (meant at'.progress at'.view) t w) t w at'.view in
    let s : seen u.end_seen ≡ true =
    seen_step (parent_of k.shape t) (looking (meant at'.progress at'.view) t w) t w at'.view (seen_goes k from at' h go) in
    by_test
    (λ c. seen
    (cond {A = Position} c
    (record { progress = r.next; view = u; answer = r.answer; steps = looking (meant at'.progress at'.view) t w ∷ at'.steps })
    (record {
      progress = at'.progress;
      view = u;
      answer = GoesOn;
      steps = looking (meant at'.progress at'.view) t w ∷ at'.steps;
    })).view.end_seen
    ≡ true)
    (is_look r.kind) (λ e. s) (λ e. s)

-- a call that gives its path back for a refusal, or has answered one
abbrev refuses : Played → Progress → Bool
refuses a Idle = is_refusal a
refuses a (Begun c) = false
refuses a (ToSeek tier size) = false
refuses a Settling = false
refuses a (ToGiveBack answer) = is_refusal answer
refuses a (Passing passage) = false
refuses a (Owing own) = false
refuses a (Due own) = false
refuses a (Refreshing passed_on) = false

refuses_over : (claimed : ℕ) (a : Played) → is_refusal a ≡ true → refuses (unless_claimed claimed a) (giving_back claimed a) ≡ true
refuses_over zero a h = h
refuses_over (suc claimed) a h = h

refuses_next : (ps : List ℕ) (b : Bool) (w : Fields) (p : Progress) (v : View) (a : Played) → CallFits ps p v → is_going p ≡ true
    → refuses a p ≡ true
    → refuses (turn_by ps b w p v).answer (turn_by ps b w p v).next ≡ true
refuses_next ps b w Idle v a fits g h = not_both false g refl
refuses_next ps b w (Begun c) v a fits g h = not_both false h refl
refuses_next ps b w (ToSeek tier size) v a fits g h = not_both false h refl
refuses_next ps b w Settling v a fits g h = not_both false h refl
refuses_next ps b w (ToGiveBack answer) v a fits g h =
    subst (λ (e : Errand). refuses (give_back_turn ps answer e).answer (give_back_turn ps answer e).next ≡ true) (sym fits.3)
    (refuses_over fits.1 answer h)
refuses_next ps b w (Passing passage) v a fits g h = not_both false h refl
refuses_next ps b w (Owing own) v a fits g h = not_both false h refl
refuses_next ps b w (Due own) v a fits g h = not_both false h refl
refuses_next ps b w (Refreshing passed_on) v a fits g h = not_both false h refl

-- while it goes on, its last answer doesn't matter
refuses_still : (p : Progress) (a a' : Played) → is_going p ≡ true → refuses a p ≡ true → refuses a' p ≡ true
refuses_still Idle a a' g h = not_both false g refl
refuses_still (Begun c) a a' g h = h
refuses_still (ToSeek tier size) a a' g h = h
refuses_still Settling a a' g h = h
refuses_still (ToGiveBack answer) a a' g h = h
refuses_still (Passing passage) a a' g h = h
refuses_still (Owing own) a a' g h = h
refuses_still (Due own) a a' g h = h
refuses_still (Refreshing passed_on) a a' g h = h

refuses_goes : (k : Key) (from at : Position) → refuses from.answer from.progress ≡ true → Goes k from at
    → refuses at.answer at.progress ≡ true
refuses_goes k from at h starts = h
refuses_goes k from at h (steps at' w b go fits g beside says found) =
    refuses_next k.shape b w at'.progress at'.view at'.answer fits g (refuses_goes k from at' h go)
refuses_goes k from at h (looks at' w go fits g beside) =
    let r : Turn = turn_by k.shape false w at'.progress at'.view in
    let t : ℕ = place k.shape at'.progress at'.view in
    let u : View = view_after (parent_of k.shape t) (looking (meant at'.progress at'.view) t w) t w at'.view in
    let before = refuses_goes k from at' h go in
    by_test
    (λ c. let x : Position =
    cond c (record { progress = r.next; view = u; answer = r.answer; steps = looking (meant at'.progress at'.view) t w ∷ at'.steps })
    (record { progress = at'.progress; view = u; answer = GoesOn; steps = looking (meant at'.progress at'.view) t w ∷ at'.steps }) in
    refuses x.answer x.progress ≡ true)
    (is_look r.kind)
    (λ e. refuses_next k.shape false w at'.progress at'.view at'.answer fits g before)
    (λ e. refuses_still at'.progress at'.answer GoesOn g before)

-- An opening that has seen the end, and whose members haven't joined, gives its path back.
refuses_first : (ps : List ℕ) (least home tier size : ℕ) (v : View) (a : Played) (p : Progress) → JoinAt ps least home tier size v a p
    → CallFits ps p v → 0 < size
    → 0 < claimed_by v.errand → seen v.end_seen ≡ true → v.size ≡ 0 → refuses a p ≡ true
refuses_first ps least home tier size v a Idle sh fits many claims s none = let c = ap claimed_by fits in absurd (omega arith)
refuses_first ps least home tier size v a (Begun c) sh fits many claims s none = absurd sh
refuses_first ps least home tier size v a (ToSeek tier' size') sh fits many claims s none = not_both _ s (ap seen sh.unseen)
refuses_first ps least home tier size v a Settling sh fits many claims s none = let c = sh.joined.members in absurd (omega arith)
refuses_first ps least home tier size v a (ToGiveBack answer) sh fits many claims s none = fits.4
refuses_first ps least home tier size v a (Passing passage) sh fits many claims s none = absurd sh
refuses_first ps least home tier size v a (Owing passage) sh fits many claims s none = absurd sh
refuses_first ps least home tier size v a (Due passage) sh fits many claims s none = absurd sh
refuses_first ps least home tier size v a (Refreshing passed_on) sh fits many claims s none = absurd sh

module _ (n : Named) (tries : ℕ) (o g : Going) (is : o.token.tree ≡ n) (opening : IsOpening o) (ran : Ran n tries o g) (phase : ℕ)
    (ended : o.token.view.end_seen ≡ Some phase)
    (none : o.token.view.size ≡ 0) where
  goes : Goes n.key (position o) (position g)
  goes = ran.went.goes (position o) starts

  seen_now : seen g.token.view.end_seen ≡ true
  seen_now = seen_goes n.key (position o) (position g) (ap seen ended) goes

  refused_now : refuses g.answer g.progress ≡ true
  refused_now =
      refuses_goes n.key (position o) (position g)
      (refuses_first o.token.tree.key.shape 1 o.token.view.tier _ _ o.token.view o.answer o.progress opening.shown opening.at.fits opening.some opening.claims (ap seen ended) none)
      goes

  pub opening_ends : (a : Registered) (r : Opened) → AnswersJoin g a → SameAnswer a r → IsEndedOrOwed r
  opening_ends a (opened.Joined crew p) s same =
      let t = subst (AnswersJoin g) same s in
      not_both false (subst (λ (b : Played). is_refusal b ≡ true) t.2 (subst (λ (q : Progress). refuses g.answer q ≡ true) t.1 refused_now))
      refl
  opening_ends a (opened.Held door p cause) s same =
      let t = subst (AnswersJoin g) same s in
      let e = ends_as n tries o g is opening ran (Held p cause) t.1 t.2 in not_both _ seen_now (ap seen e.1.1.unseen)
  opening_ends a (opened.Full door count) s same =
      let t = subst (AnswersJoin g) same s in
      let e = ends_as n tries o g is opening ran (Full count) t.1 t.2 in not_both _ seen_now (ap seen e.1.unseen)
  opening_ends a (opened.Ended door shown) s same = tt
  opening_ends a (opened.Owing opening'') s same = tt
