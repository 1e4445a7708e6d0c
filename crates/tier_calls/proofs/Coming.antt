-- What a registration answers.
use Rattle.std.proofs.Common.{◌≡◌, ◌≢◌, ℕ, zero, suc, ◌<◌, true, false, List, refl, sym, ◌∙◌, ap, subst, arith}
use Rattle.tier_steps.specs.Step.{opening}
use Rattle.tier_steps.specs.declared.view.View.{View}
use Rattle.tier_steps.specs.declared.view.Errand.{Errand}
use Rattle.tier_steps.specs.declared.view.OpeningStage.TheVariants as stage
use Rattle.tier_steps.specs.declared.kind.Kind.{Kind}
use Rattle.tier_steps.specs.declared.kind.Kind.TheVariants.{Look}
use Rattle.tier_steps.proofs.KindLaw.{mine}
use Rattle.tier_core.specs.declared.call.Played.{Played}
use Rattle.tier_core.specs.declared.call.Played.TheVariants.{GoesOn, Done, Held, Full, Ended}
use Rattle.tier_core.specs.declared.call.Progress.{Progress}
use Rattle.tier_core.specs.declared.call.Progress.TheVariants.{Idle, Begun, Seeking as ToSeek, Settling, GivingBack as ToGiveBack, Passing, Owing, Due, Refreshing}
use Rattle.tier_core.specs.Turn.{claimed_by}
use Rattle.tier_core.specs.Machine.{CallFits, is_going}
use Rattle.tier_core.proofs.Turns.{looked_tier}
use Rattle.tier_rule.specs.Tell.{Beside}
use Rattle.tier_calls.specs.declared.going.Going.{Going}
use Rattle.tier_calls.specs.declared.joining.Registered.{Registered}
use Rattle.tier_calls.specs.declared.joining.Registered.TheVariants as registered
use Rattle.tier_calls.specs.declared.joining.Opened.{Opened}
use Rattle.tier_calls.specs.declared.joining.Opened.TheVariants as opened
use Rattle.tier_calls.specs.Holding.{Named, Holding, Looked, IsDoor}
use Rattle.tier_calls.specs.Calls.{IsAt}
use Rattle.tier_calls.specs.Openings.{asked_tier, asked_size, IsOpening}
use Rattle.tier_calls.specs.Goes.{position, starts, Ran}
use Rattle.tier_calls.specs.Arrives.{IsSoon, IsSpent}
use Rattle.tier_calls.specs.Joins.{IsJoined, Refusal, JoinAnswer, JoinAt}
use Rattle.tier_steps.specs.declared.view.Errand.TheVariants.{Rest}
use Rattle.tier_calls.specs.Passes.{IsFresh}
use Rattle.tier_calls.specs.Registers.{IsLookedAround, IsFor, Registers, EnteredBy, Opens, MayAnswer, AnswersJoin, NoBusy, SameAnswer, token_of}
use Rattle.tier_calls.specs.Made.{HasEntered, HasWatched, MadeOnly, is_entering}
use Rattle.tier_calls.specs.Next.{is_look}
use Rattle.tier_calls.proofs.Making.{made_then}
use Rattle.tier_calls.proofs.Watching.{watches_along, seeks_still}
use Rattle.tier_calls.proofs.Entering.{looked_first_enters, ran_enters}
use Rattle.tier_calls.proofs.Seeks.{joins_do_as_asked}
use Rattle.tier_calls.proofs.Settling.{first_fresh}

nobody : (ps : List ℕ) (t : ℕ) (h : Holding) (v : View) → Beside ps t h.word v → v.size ≡ 0 → v.arrived ≡ 0
nobody ps t h v b none = let fits = (mine ps b.words b.front b.back v b.tally).within in omega arith

going_on : (ps : List ℕ) (least home tier size : ℕ) (v : View) (a : Played) (p : Progress) → JoinAt ps least home tier size v a p → p ≢ Idle
    → is_going p ≡ true
going_on ps least home tier size v a Idle sh more = absurd (more refl)
going_on ps least home tier size v a (Begun c) sh more = absurd sh
going_on ps least home tier size v a (ToSeek tier' size') sh more = refl
going_on ps least home tier size v a Settling sh more = refl
going_on ps least home tier size v a (ToGiveBack b) sh more = refl
going_on ps least home tier size v a (Passing passage) sh more = refl
going_on ps least home tier size v a (Owing passage) sh more = refl
going_on ps least home tier size v a (Due passage) sh more = refl
going_on ps least home tier size v a (Refreshing passed_on) sh more = refl

-- a path that is opened is for what was asked
opens_for : (e : Errand) (tier claimed size : ℕ) → e ≡ opening tier claimed stage.Seeking size → claimed ≢ 0
    → (asked_tier e ≡ tier) × (asked_size e ≡ size)
opens_for e tier zero size is some = absurd (some refl)
opens_for e tier (suc claimed) size is some = (ap asked_tier is, ap asked_size is)

asked_for : (ps : List ℕ) (least home tier size : ℕ) (v : View) (a : Played) (p : Progress) → JoinAt ps least home tier size v a p
    → CallFits ps p v → p ≢ Idle → claimed_by v.errand ≢ 0
    → (asked_tier v.errand ≡ tier) × (asked_size v.errand ≡ size)
asked_for ps least home tier size v a Idle sh fits more some = absurd (more refl)
asked_for ps least home tier size v a (Begun c) sh fits more some = absurd sh
asked_for ps least home tier size v a (ToSeek tier' size') sh fits more some =
    let o = opens_for v.errand tier' (claimed_by v.errand) size' fits.0 some in (o.0 ∙ sh.same_tier, o.1 ∙ sh.same_size)
asked_for ps least home tier size v a Settling sh fits more some = (ap asked_tier sh.errand, ap asked_size sh.errand)
asked_for ps least home tier size v a (ToGiveBack b) sh fits more some = (ap asked_tier sh.errand, ap asked_size sh.errand)
asked_for ps least home tier size v a (Passing passage) sh fits more some = absurd sh
asked_for ps least home tier size v a (Owing passage) sh fits more some = absurd sh
asked_for ps least home tier size v a (Due passage) sh fits more some = absurd sh
asked_for ps least home tier size v a (Refreshing passed_on) sh fits more some = absurd sh

-- a call without claims still seeks its tier
home_of : (ps : List ℕ) (least home tier size : ℕ) (v : View) (a : Played) (p : Progress) → JoinAt ps least home tier size v a p
    → CallFits ps p v → p ≢ Idle → claimed_by v.errand ≡ 0
    → (v.tier ≡ home) × (v.size ≡ 0) × (least ≡ 0) × IsFresh v
home_of ps least home tier size v a Idle sh fits more none = absurd (more refl)
home_of ps least home tier size v a (Begun c) sh fits more none = absurd sh
home_of ps least home tier size v a (ToSeek tier' size') sh fits more none =
    (sh.at_home, fits.1.none, (let c = sh.claims in omega arith), record { unseen = sh.unseen; unled = sh.unled })
home_of ps least home tier size v a Settling sh fits more none = let c = ap claimed_by sh.errand in absurd (omega arith)
home_of ps least home tier size v a (ToGiveBack b) sh fits more none = let c = ap claimed_by sh.errand in absurd (omega arith)
home_of ps least home tier size v a (Passing passage) sh fits more none = absurd sh
home_of ps least home tier size v a (Owing passage) sh fits more none = absurd sh
home_of ps least home tier size v a (Due passage) sh fits more none = absurd sh
home_of ps least home tier size v a (Refreshing passed_on) sh fits more none = absurd sh

-- a call that joins, from the point at which it began
module _ (n : Named) (least home tier size tries : ℕ) (o g : Going)
    (start : JoinAt n.key.shape least home tier size o.token.view o.answer o.progress) (ran : Ran n tries o g) where
  shown : JoinAt n.key.shape least home tier size g.token.view g.answer g.progress
  shown = joins_do_as_asked n.key least home tier size (position o) (position g) start (ran.went.goes (position o) starts)

  pub may_answer : 0 < size → MayAnswer g
  may_answer many = record {
    at = subst (λ (z : Named). IsAt z g) (sym ran.went.at.own) ran.went.at;
    least = least;
    home = home;
    tier = tier;
    size = size;
    some = many;
    shown = subst (λ (z : Named). JoinAt z.key.shape least home tier size g.token.view g.answer g.progress) (sym ran.went.at.own) shown;
  }

  over : (a : Played) → g.progress ≡ Idle → g.answer ≡ a → JoinAnswer n.key.shape tier size g.token.view a
  over a e f = subst (λ (b : Played). JoinAnswer n.key.shape tier size g.token.view b) f
      (subst (λ (p : Progress). JoinAt n.key.shape least home tier size g.token.view g.answer p) e shown)

  rests : g.progress ≡ Idle → g.token.view.errand ≡ Rest
  rests e = subst (λ (p : Progress). CallFits n.key.shape p g.token.view) e ran.went.at.fits

  goes_now : g.progress ≢ Idle → is_going g.progress ≡ true
  goes_now more = going_on n.key.shape least home tier size g.token.view g.answer g.progress shown more

  is_for : g.progress ≢ Idle → claimed_by g.token.view.errand ≢ 0 → IsFor tier size g
  is_for more some =
      let a = asked_for n.key.shape least home tier size g.token.view g.answer g.progress shown ran.went.at.fits more some in
      record { place = a.0; members = a.1; claims = omega arith }

  at_home : g.progress ≢ Idle → claimed_by g.token.view.errand ≡ 0
      → (g.token.view.tier ≡ home) × (g.token.view.size ≡ 0) × (least ≡ 0) × IsFresh g.token.view
  at_home more none = home_of n.key.shape least home tier size g.token.view g.answer g.progress shown ran.went.at.fits more none

abbrev pub seeking : Holding → ℕ → ℕ → Going
seeking h tier size = record { token = h; progress = ToSeek tier size; answer = GoesOn }

module _ (n : Named) (tier size tries : ℕ) (h h' : Holding) (g : Going) (is : h.tree ≡ n) (door : IsDoor h) (took : Looked Look 0 h h')
    (opened : h'.word.ended ≡ false) (many : 0 < size)
    (ran : Ran n tries (seeking h' tier size) g) where
  begins : JoinAt n.key.shape 0 h.view.tier tier size h'.view GoesOn (ToSeek tier size)
  begins = record {
    same_tier = refl;
    same_size = refl;
    at_home = ap (λ (v : View). v.tier) took.view ∙ looked_tier h'.word h.view;
    claims = omega arith;
    unseen = (first_fresh took opened).unseen;
    unled = (first_fresh took opened).unled;
  }

  pub join_may_answer : MayAnswer g
  join_may_answer = may_answer n 0 h.view.tier tier size tries (seeking h' tier size) g begins ran many

  soon : IsSoon tries h g.token
  soon =
      record {
        tree = ran.went.at.own ∙ sym is;
        tried = (let a = ran.went.tried in let b = took.tried in let c = ran.few in omega arith);
        opened = ran.went.opened ∙ took.opened;
      }

  spent : g.progress ≢ Idle → IsSpent tries h g.token
  spent more = record {
    tree = ran.went.at.own ∙ sym is;
    tried =
        (let a = ran.went.tried in
        let b = took.tried in
        let c = ran.all (goes_now n 0 h.view.tier tier size tries (seeking h' tier size) g begins ran more) in
        omega arith);
    opened = ran.went.opened ∙ took.opened;
  }

  ends_so : (a : Played) → g.progress ≡ Idle → g.answer ≡ a → JoinAnswer h.tree.key.shape tier size g.token.view a
  ends_so a e f =
      subst (λ (z : Named). JoinAnswer z.key.shape tier size g.token.view a) (sym is)
      (over n 0 h.view.tier tier size tries (seeking h' tier size) g begins ran a e f)

  watched : g.progress ≢ Idle → claimed_by g.token.view.errand ≡ 0 → HasWatched h.steps g.token.steps
  watched more none =
      subst (λ (ks : List Kind). MadeOnly is_look ks g.token.steps) took.steps
      (watches_along n.key (position (seeking h' tier size)) (position g) refl (ran.went.goes (position (seeking h' tier size)) starts)
      (seeks_still n.key.shape 0 h.view.tier tier size g.token.view g.answer g.progress (shown n 0 h.view.tier tier size tries (seeking h' tier size) g begins ran) more none)
      none)

  entered : HasEntered h.steps g.token.steps
  entered = made_then is_entering (looked_first_enters took) (ran_enters refl ran)

  pub enters : (r : Registered) → AnswersJoin g r → EnteredBy r h.steps (token_of r).steps
  enters (registered.Joined crew phase) s = subst (λ (z : Holding). HasEntered h.steps z.steps) (sym s.0) entered
  enters (registered.Held door' phase cause) s = subst (λ (z : Holding). HasEntered h.steps z.steps) (sym s.0) entered
  enters (registered.Full door' count) s = subst (λ (z : Holding). HasEntered h.steps z.steps) (sym s.0) entered
  enters (registered.Ended door' shown_as) s = subst (λ (z : Holding). HasEntered h.steps z.steps) (sym s.0) entered
  enters (registered.Busy door') s = subst (λ (z : Holding). HasWatched h.steps z.steps) (sym s.0) (watched s.1 s.2)
  enters (registered.Owing opening') s = subst (λ (z : Going). HasEntered h.steps z.token.steps) (sym s.0) entered

  pub registers : (r : Registered) → AnswersJoin g r → Registers h tier size tries r
  registers (registered.Joined crew phase) s =
      let o = ends_so (Done phase) s.1 s.2 in
      subst (λ (z : Holding). IsSoon tries h z × IsJoined tier size z.view × (z.view.errand ≡ Rest) × (phase ≡ z.view.phase)) (sym s.0)
      (soon, o.0, rests n 0 h.view.tier tier size tries (seeking h' tier size) g begins ran s.1, o.1)
  registers (registered.Held door' phase cause) s =
      let o = ends_so (Held phase cause) s.1 s.2 in
      subst (λ (z : Holding). IsSoon tries h z × Refusal h.tree.key.shape tier size z.view (Held phase cause)) (sym s.0) (soon, o.1)
  registers (registered.Full door' count) s =
      let o = ends_so (Full count) s.1 s.2 in
      subst (λ (z : Holding). IsSoon tries h z × Refusal h.tree.key.shape tier size z.view (Full count)) (sym s.0) (soon, o.1)
  registers (registered.Ended door' shown_as) s =
      let o = ends_so (Ended shown_as) s.1 s.2 in
      subst (λ (z : Holding). IsSoon tries h z × Refusal h.tree.key.shape tier size z.view (Ended shown_as)) (sym s.0) (soon, o.1)
  registers (registered.Busy door') s =
      let o = at_home n 0 h.view.tier tier size tries (seeking h' tier size) g begins ran s.1 s.2 in
      subst (λ (z : Holding). IsSpent tries h z × IsLookedAround h.view z.view × IsFresh z.view) (sym s.0) (
        spent s.1,
        record {
          tier = o.0;
          size = o.1 ∙ sym door.none;
          arrived =
              nobody n.key.shape g.token.tier g.token g.token.view ran.went.at.known o.1
              ∙ sym (nobody h.tree.key.shape 0 h' h.view took.before door.none);
        },
        o.3,
      )
  registers (registered.Owing opening') s =
      subst (λ (z : Going). IsSpent tries h z.token × IsFor tier size z) (sym s.0)
      (spent s.1, is_for n 0 h.view.tier tier size tries (seeking h' tier size) g begins ran s.1 s.2)

-- an opening that goes on
module _ (n : Named) (tries : ℕ) (o g : Going) (is : o.token.tree ≡ n) (opening' : IsOpening o) (ran : Ran n tries o g) where
  abbrev tier : ℕ
  tier = asked_tier o.token.view.errand

  abbrev size : ℕ
  size = asked_size o.token.view.errand

  stood : JoinAt n.key.shape 1 o.token.view.tier tier size o.token.view o.answer o.progress
  stood = subst (λ (z : Named). JoinAt z.key.shape 1 o.token.view.tier tier size o.token.view o.answer o.progress) is opening'.shown

  pub open_may_answer : MayAnswer g
  open_may_answer = may_answer n 1 o.token.view.tier tier size tries o g stood ran opening'.some

  pub never_busy : (r : Registered) → AnswersJoin g r → NoBusy r
  never_busy (registered.Joined crew phase) s = tt
  never_busy (registered.Held door phase cause) s = tt
  never_busy (registered.Full door count) s = tt
  never_busy (registered.Ended door shown_as) s = tt
  never_busy (registered.Busy door) s = let a = (at_home n 1 o.token.view.tier tier size tries o g stood ran s.1 s.2).2 in
      absurd (omega arith)
  never_busy (registered.Owing opening'') s = tt

  early : IsSoon tries o.token g.token
  early =
      record {
        tree = ran.went.at.own ∙ sym is;
        tried = (let a = ran.went.tried in let c = ran.few in omega arith);
        opened = ran.went.opened;
      }

  pub ends_as : (a : Played) → g.progress ≡ Idle → g.answer ≡ a → JoinAnswer o.token.tree.key.shape tier size g.token.view a
  ends_as a e f =
      subst (λ (z : Named). JoinAnswer z.key.shape tier size g.token.view a) (sym is)
      (over n 1 o.token.view.tier tier size tries o g stood ran a e f)

  pub opens : (a : Registered) (r : Opened) → AnswersJoin g a → SameAnswer a r → Opens o tries r
  opens a (opened.Joined crew phase) s same =
      let t = subst (AnswersJoin g) same s in let e = ends_as (Done phase) t.1 t.2 in
      subst (λ (z : Holding). IsSoon tries o.token z × IsJoined tier size z.view × (z.view.errand ≡ Rest) × (phase ≡ z.view.phase))
      (sym t.0)
      (early, e.0, rests n 1 o.token.view.tier tier size tries o g stood ran t.1, e.1)
  opens a (opened.Held door phase cause) s same =
      let t = subst (AnswersJoin g) same s in let e = ends_as (Held phase cause) t.1 t.2 in
      subst (λ (z : Holding). IsSoon tries o.token z × Refusal o.token.tree.key.shape tier size z.view (Held phase cause)) (sym t.0)
      (early, e.1)
  opens a (opened.Full door count) s same =
      let t = subst (AnswersJoin g) same s in let e = ends_as (Full count) t.1 t.2 in
      subst (λ (z : Holding). IsSoon tries o.token z × Refusal o.token.tree.key.shape tier size z.view (Full count)) (sym t.0) (early, e.1)
  opens a (opened.Ended door shown_as) s same =
      let t = subst (AnswersJoin g) same s in let e = ends_as (Ended shown_as) t.1 t.2 in
      subst (λ (z : Holding). IsSoon tries o.token z × Refusal o.token.tree.key.shape tier size z.view (Ended shown_as)) (sym t.0)
      (early, e.1)
  opens a (opened.Owing opening'') s same =
      let t = subst (AnswersJoin g) same s in
      subst (λ (z : Going). IsSpent tries o.token z.token × IsFor tier size z) (sym t.0) (
        record {
          tree = ran.went.at.own ∙ sym is;
          tried =
              (let a' = ran.went.tried in
              let c = ran.all (goes_now n 1 o.token.view.tier tier size tries o g stood ran t.1) in
              omega arith);
          opened = ran.went.opened;
        },
        is_for n 1 o.token.view.tier tier size tries o g stood ran t.1 t.2,
      )
