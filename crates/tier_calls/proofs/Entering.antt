-- Which steps a registration takes, by induction on its looks and steps.
use Rattle.std.proofs.Common.{◌≡◌, ℕ, zero, suc, Bool, true, false, cond, List, ◌∷◌, refl, sym, ap, subst}
use Rattle.phaser_word.specs.Fields.{Fields}
use Rattle.tier_shape.specs.Parents.{parent_of}
use Rattle.tier_steps.specs.View.{ancestor}
use Rattle.tier_steps.specs.Step.{added, view_after}
use Rattle.tier_steps.specs.declared.kind.Kind.{Kind}
use Rattle.tier_steps.specs.declared.kind.Kind.TheVariants.{Look, Refuse, Join}
use Rattle.tier_steps.specs.declared.view.View.{View}
use Rattle.tier_steps.specs.declared.view.Errand.{Errand}
use Rattle.tier_core.specs.declared.call.Played.TheVariants.{GoesOn}
use Rattle.tier_core.specs.declared.call.Progress.{Progress}
use Rattle.tier_core.specs.declared.call.Progress.TheVariants.{Idle, Begun, Seeking as ToSeek, Settling, GivingBack as ToGiveBack, Passing, Owing, Due, Refreshing}
use Rattle.tier_core.specs.declared.call.Turn.{Turn}
use Rattle.tier_core.specs.Turn.{settle_turn, give_back_turn, claimed_by, is_refusing, is_claimable, place, turn_by}
use Rattle.tier_core.specs.Machine.{CallFits, is_going}
use Rattle.tier_core.proofs.Turns.{by_test, not_both}
use Rattle.tier_rule.specs.declared.sight.Key.{Key}
use Rattle.tier_rule.specs.Look.{glance, looking, turns_away}
use Rattle.tier_calls.specs.declared.going.Going.{Going}
use Rattle.tier_calls.specs.declared.joining.Registered.{Registered}
use Rattle.tier_calls.specs.declared.joining.Registered.TheVariants as registered
use Rattle.tier_calls.specs.declared.joining.Opened.{Opened}
use Rattle.tier_calls.specs.declared.joining.Opened.TheVariants as opened
use Rattle.tier_calls.specs.Holding.{Named, Holding, Looked}
use Rattle.tier_calls.specs.Next.{meant, is_look}
use Rattle.tier_calls.specs.Goes.{Position, position, Goes, starts, steps, looks, Ran}
use Rattle.tier_calls.specs.Joins.{JoinAt, is_joining}
use Rattle.tier_core.specs.declared.call.Played.{Played}
use Rattle.tier_calls.specs.Openings.{asked_tier, asked_size, IsOpening}
use Rattle.tier_calls.specs.Made.{HasEntered, MadeOnly, is_entering}
use Rattle.tier_calls.specs.Registers.{AnswersJoin, SameAnswer, token_of, opened_of}
use Rattle.tier_calls.proofs.Turning.{by_cond}
use Rattle.tier_calls.proofs.Making.{made_more, made_none}
use Rattle.tier_calls.proofs.Seeks.{joining_stays}

glance_enters : (t : ℕ) → is_entering (glance t) ≡ true
glance_enters zero = refl
glance_enters (suc t) = refl

pub join_enters : (tier claimed size t : ℕ) (w : Fields) → is_entering (looking (Join tier claimed size) t w) ≡ true
join_enters tier claimed size t w =
    by_test (λ b. is_entering (cond b (Refuse tier claimed size) (glance t)) ≡ true) (turns_away (added claimed size) w) (λ e. refl)
    (λ e. glance_enters t)

look_enters : (p : Progress) (v : View) (t : ℕ) (w : Fields) → is_joining p ≡ true → is_entering (looking (meant p v) t w) ≡ true
look_enters Idle v t w j = glance_enters t
look_enters (Begun c) v t w j = glance_enters t
look_enters (ToSeek tier size) v t w j = join_enters tier (claimed_by v.errand) size t w
look_enters Settling v t w j = glance_enters t
look_enters (ToGiveBack answer) v t w j = glance_enters t
look_enters (Passing passage) v t w j = glance_enters t
look_enters (Owing own) v t w j = glance_enters t
look_enters (Due own) v t w j = glance_enters t
look_enters (Refreshing passed_on) v t w j = glance_enters t

step_enters : (ps : List ℕ) (b : Bool) (w : Fields) (p : Progress) (v : View) → CallFits ps p v → is_going p ≡ true → is_joining p ≡ true
    → is_entering (turn_by ps b w p v).kind ≡ true
step_enters ps b w Idle v fits g j = not_both false g refl
step_enters ps b w (Begun c) v fits g j = not_both false g refl
step_enters ps b w (ToSeek tier size) v fits g j =
    by_cond (λ r. is_entering r.kind ≡ true) w.ended _ _ (λ e. refl)
    (λ e. by_cond (λ r. is_entering r.kind ≡ true) (is_refusing (added (claimed_by v.errand) size) w) _ _ (λ f. refl)
    (λ f. by_cond (λ r. is_entering r.kind ≡ true) (is_claimable (ancestor ps tier (claimed_by v.errand)) w) _ _ (λ h. refl) (λ h. refl)))
step_enters ps b w Settling v fits g j = subst (λ (e : Errand). is_entering (settle_turn ps v e).kind ≡ true) (sym fits.3) refl
step_enters ps b w (ToGiveBack answer) v fits g j =
    subst (λ (e : Errand). is_entering (give_back_turn ps answer e).kind ≡ true) (sym fits.3) refl
step_enters ps b w (Passing passage) v fits g j = not_both false j refl
step_enters ps b w (Owing own) v fits g j = not_both false j refl
step_enters ps b w (Due own) v fits g j = not_both false j refl
step_enters ps b w (Refreshing passed_on) v fits g j = not_both false j refl

enters_along : (k : Key) (from at : Position) → is_joining from.progress ≡ true → Goes k from at → MadeOnly is_entering from.steps at.steps
enters_along k from at j starts = made_none is_entering from.steps
enters_along k from at j (steps at' w b go fits g beside says found) =
    made_more is_entering (turn_by k.shape b w at'.progress at'.view).kind from.steps at'.steps
    (step_enters k.shape b w at'.progress at'.view fits g (joining_stays k from at' j go))
    (enters_along k from at' j go)
enters_along k from at j (looks at' w go fits g beside) =
    let r : Turn = turn_by k.shape false w at'.progress at'.view in
    let t : ℕ = place k.shape at'.progress at'.view in
    let kind : Kind = looking (meant at'.progress at'.view) t w in
    let u : View = view_after (parent_of k.shape t) kind t w at'.view in
    let m =
    made_more is_entering kind from.steps at'.steps (look_enters at'.progress at'.view t w (joining_stays k from at' j go))
    (enters_along k from at' j go) in
    by_test
    (λ c. MadeOnly is_entering from.steps
    (cond {A = Position} c (record { progress = r.next; view = u; answer = r.answer; steps = kind ∷ at'.steps })
    (record { progress = at'.progress; view = u; answer = GoesOn; steps = kind ∷ at'.steps })).steps)
    (is_look r.kind) (λ e. m) (λ e. m)

pub looked_enters : {h h' : Holding} → Looked Look 0 h h' → MadeOnly is_entering h.steps h'.steps
looked_enters {h} {h'} took =
    subst (MadeOnly is_entering h.steps) (sym took.steps) (made_more is_entering Look h.steps h.steps refl (made_none is_entering h.steps))

pub looked_first_enters : {h h' : Holding} → Looked Look 0 h h' → HasEntered h.steps h'.steps
looked_first_enters {h} {h'} took = subst (HasEntered h.steps) (sym took.steps) (made_none is_entering (Look ∷ h.steps))

pub ran_enters : {n : Named} {tries : ℕ} {o g : Going} → is_joining o.progress ≡ true → Ran n tries o g
    → MadeOnly is_entering o.token.steps g.token.steps
ran_enters {n} {tries} {o} {g} j ran = enters_along n.key (position o) (position g) j (ran.went.goes (position o) starts)

same_token : (g : Going) (r : Registered) → AnswersJoin g r → g.token ≡ token_of r
same_token g (registered.Joined crew phase) s = sym s.0
same_token g (registered.Held door phase cause) s = sym s.0
same_token g (registered.Full door count) s = sym s.0
same_token g (registered.Ended door shown) s = sym s.0
same_token g (registered.Busy door) s = sym s.0
same_token g (registered.Owing opening) s = sym (ap (λ (z : Going). z.token) s.0)

pub answer_enters : (old : List Kind) (g : Going) (r : Registered) → AnswersJoin g r → MadeOnly is_entering old g.token.steps
    → MadeOnly is_entering old (token_of r).steps
answer_enters old g r s m = subst (λ (h : Holding). MadeOnly is_entering old h.steps) (same_token g r s) m

same_opened : (a : Registered) (r : Opened) → SameAnswer a r → token_of a ≡ opened_of r
same_opened a (opened.Joined crew phase) e = ap token_of e
same_opened a (opened.Held door phase cause) e = ap token_of e
same_opened a (opened.Full door count) e = ap token_of e
same_opened a (opened.Ended door shown) e = ap token_of e
same_opened a (opened.Owing opening) e = ap token_of e

pub opened_enters : (old : List Kind) (g : Going) (a : Registered) (r : Opened) → AnswersJoin g a → SameAnswer a r
    → MadeOnly is_entering old g.token.steps → MadeOnly is_entering old (opened_of r).steps
opened_enters old g a r s e m = subst (λ (h : Holding). MadeOnly is_entering old h.steps) (same_opened a r e) (answer_enters old g a s m)

-- an opening is a registration
joins_at : (ps : List ℕ) (least home tier size : ℕ) (v : View) (a : Played) (p : Progress) → JoinAt ps least home tier size v a p
    → is_joining p ≡ true
joins_at ps least home tier size v a Idle sh = refl
joins_at ps least home tier size v a (Begun c) sh = absurd sh
joins_at ps least home tier size v a (ToSeek tier' size') sh = refl
joins_at ps least home tier size v a Settling sh = refl
joins_at ps least home tier size v a (ToGiveBack b) sh = refl
joins_at ps least home tier size v a (Passing passage) sh = absurd sh
joins_at ps least home tier size v a (Owing passage) sh = absurd sh
joins_at ps least home tier size v a (Due passage) sh = absurd sh
joins_at ps least home tier size v a (Refreshing passed_on) sh = absurd sh

pub opening_joins : (o : Going) → IsOpening o → is_joining o.progress ≡ true
opening_joins o i =
    joins_at o.token.tree.key.shape 1 o.token.view.tier (asked_tier o.token.view.errand) (asked_size o.token.view.errand) o.token.view
    o.answer o.progress i.shown
