-- A door that joins at a tier at which a crew has an unarrived member.
use Rattle.std.proofs.Common.{◌≡◌, ◌≢◌, ℕ, zero, suc, ◌+◌, ◌-◌, ◌≤◌, ◌<◌, inr, ⊎_elim, Bool, true, false, cond, eqb, not, ◌&&◌, ◌||◌, ltb, List, ◌∷◌, length, refl, sym, ◌∙◌, ap, subst, arith, Some, None}
use Rattle.std.proofs.lemmas.Bool.{eq-eqb, ne_eqb, lt-ltb, ltb-false}
use Rattle.flat_phaser.proofs.Everyone.{either}
use Rattle.phaser_word.specs.Fields.{Fields}
use Rattle.phaser_word.specs.Phase.{shown_of}
use Rattle.tier_shape.specs.Parents.{parent_of}
use Rattle.tier_steps.specs.View.{late_share, absent, errand_late, is_hidden, only_at}
use Rattle.tier_steps.specs.Word.{late, is_being_opened, next_phase_of}
use Rattle.tier_steps.specs.Tally.{KeepsUp}
use Rattle.tier_steps.specs.Step.{Needs, IsDue, refused, given_up, view_after}
use Rattle.tier_steps.specs.declared.kind.Kind.{Kind}
use Rattle.tier_steps.specs.declared.kind.Kind.TheVariants.{Look, Refuse, Join}
use Rattle.tier_steps.specs.declared.view.View.{View}
use Rattle.tier_steps.specs.declared.view.Errand.TheVariants.{Rest}
use Rattle.tier_steps.specs.Known.{Known}
use Rattle.tier_steps.proofs.Known.{tally_is_known}
use Rattle.tier_steps.proofs.KindLaw.{mine}
use Rattle.std.specs.Prelude.{ℤ}
use Rattle.tier_core.specs.Turn.{lags, has_no_room, is_refusing}
use Rattle.tier_core.proofs.Turns.{by_test, not_both, looked_rests, looked_tier, looked_size}
use Rattle.tier_rule.specs.Look.{glance, looking}
use Rattle.tier_rule.specs.Tell.{Beside}
use Rattle.tier_calls.specs.Holding.{Named, Holding, Looked, Took, Lost, Won, IsDoor, IsCrew}
use Rattle.tier_calls.specs.Passes.{IsSame}
use Rattle.tier_calls.specs.Joins.{IsJoined}
use Rattle.tier_calls.specs.Passes.{EndSeen, IsFresh}
use Rattle.tier_calls.specs.Arrives.{IsSoon, IsSpent}
use Rattle.tier_calls.specs.Registers.{IsLookedAround, EnteredBy, token_of}
use Rattle.tier_calls.specs.JoinsHere.{Waits, IsStill, IsFullHere, AreSoon, AreSpent, KeepsCrew, AnswersHere, JoinsOnce, JoinsHere}
use Rattle.tier_calls.specs.declared.joining.Registered.{Registered}
use Rattle.tier_calls.specs.declared.joining.Registered.TheVariants as registered
use Rattle.tier_calls.proofs.Turning.{refuse_at, ended_at, glanced}
use Rattle.tier_calls.proofs.Passing.{still_glance, root_of, glance_unled, looked_unled}
use Rattle.tier_calls.proofs.Settling.{first_fresh}
use Rattle.tier_calls.specs.Made.{HasLooked, MadeOnly, is_quiet, is_entering}
use Rattle.tier_calls.specs.Next.{is_look}
use Rattle.tier_calls.proofs.Making.{made_more, made_none, made_then, made_wider}
use Rattle.tier_calls.proofs.Watching.{join_looks, look_is_entering}
use Rattle.tier_calls.proofs.Entering.{join_enters, looked_enters}
use Rattle.tier_calls.proofs.Seeks.{look_unended, look_end, refused_note, refused_size, refused_end, refused_unled, glance_unended}

-- a tier that doesn't lag waits for a member that hasn't arrived there
one_here : (n t : ℕ) → only_at t n t ≡ n
one_here n t = ap (λ (b : Bool). cond b n 0) (eq-eqb t t refl)

positive : (n : ℕ) → eqb n 0 ≡ false → 0 < n
positive zero e = not_both false (sym e ∙ refl) refl
positive (suc n) e = omega arith

lags_so : (n m p q : ℕ) → 0 < n → m ≡ 0 → eqb p q ≡ false → (ltb 0 n && (eqb m 0 && not (eqb p q))) ≡ true
lags_so n m p q lt z e =
    ap (λ (b : Bool). b && (eqb m 0 && not (eqb p q))) (lt-ltb 0 n lt) ∙ (ap (λ (b : Bool). b && not (eqb p q)) (eq-eqb m 0 z) ∙ ap not e)

late_positive : (w : Fields) (v : View) (root : ℕ) → v.phase ≡ root → KeepsUp root w → lags w v ≡ false → 0 < late root w
    → (0 < w.parties) × (0 < w.unarrived)
late_positive w v root current keeps still h = ⊎_elim
    (λ (e : eqb w.parties 0 ≡ true). absurd (let z : late root w ≡ 0 = ap (λ (b : Bool). cond b 0 (cond (eqb w.phase root) w.unarrived w.parties)) e in omega arith))
    (λ (e : eqb w.parties 0 ≡ false).
    let some : 0 < w.parties = positive w.parties e in
    let open_late : late root w ≡ cond (eqb w.phase root) w.unarrived w.parties =
    ap (λ (b : Bool). cond b 0 (cond (eqb w.phase root) w.unarrived w.parties)) e in (
      some,
      ⊎_elim
          (λ (f : eqb w.phase root ≡ true). let z : late root w ≡ w.unarrived =
          open_late ∙ ap (λ (b : Bool). cond b w.unarrived w.parties) f in
          omega arith)
          (λ (f : eqb w.phase root ≡ false). ⊎_elim
          (λ (same : w.phase ≡ root). not_both (eqb w.phase root) (eq-eqb w.phase root same) f)
          (λ (old : (next_phase_of w.phase ≡ root) × (w.unarrived ≡ 0)).
          not_both (lags w v) (lags_so w.parties w.unarrived w.phase v.phase some old.1 (ap (eqb w.phase) current ∙ f)) still)
          (keeps some))
          (either (eqb w.phase root)),
    ))
    (either (eqb w.parties 0))

pub known_by : (ps : List ℕ) (t : ℕ) (w : Fields) (v : View) → (b : Beside ps t w v) → Known ps t w v
known_by ps t w v b = subst (λ (z : Fields). Known ps t z v) b.word (tally_is_known ps b.words b.front v b.back t b.within b.tally)

pub waits_here : {ps : List ℕ} {t : ℕ} {w : Fields} {v : View} → Beside ps t w v → v.errand ≡ Rest → v.tier ≡ t → v.arrived < v.size
    → lags w v ≡ false → Waits w
waits_here {ps} {t} {w} {v} b rests here some still going =
    let k = known_by ps t w v b in
    let current : v.phase ≡ k.root =
    ⊎_elim (λ (e : v.phase ≡ k.root). e)
    (λ (e : (next_phase_of v.phase ≡ k.root) × (v.arrived ≡ v.size)). absurd (let a = e.1 in omega arith)) (k.fits.current (omega arith)) in
    let gone : absent k.root v ≡ v.size - v.arrived =
    ap (λ (c : Bool). cond c (v.size - v.arrived) v.size) (eq-eqb v.phase k.root current) in
    let share : late_share k.root ps t v ≡ only_at t (absent k.root v) t + 0 =
    λ i. cond (is_hidden (rests i)) 0 (only_at (here i) (absent k.root v) t) + errand_late ps (rests i) t in
    let here_all : only_at t (absent k.root v) t ≡ absent k.root v = one_here (absent k.root v) t in
    let most = k.unarrived (λ z. sym (k.at_root z).1 ∙ going) in
    late_positive w v k.root current k.keeps_up still (omega arith)

-- what the door may join
pub door_due : (n : Named) {h : Holding} {tier size : ℕ} → IsDoor h → tier < length n.key.shape → (0 < size) × (size ≤ 65535)
    → IsDue n.key.shape tier 0 size tier h.view
door_due n {h} {tier} {size} door inside many =
    record { here = refl; errand = door.rests; none = door.none; some = many.0; few = many.1; place = inside }

refused_tier : (t : ℕ) (w : Fields) (v : View) → (refused t w v).tier ≡ v.tier
refused_tier zero w v = looked_tier w v
refused_tier (suc t) w v = refl

refused_rests : (t : ℕ) (w : Fields) (v : View) → v.errand ≡ Rest → (refused t w v).errand ≡ Rest
refused_rests zero w v e = ap given_up (looked_rests w v e)
refused_rests (suc t) w v e = ap given_up e

glance_rests : (above t : ℕ) (w : Fields) (v : View) → v.errand ≡ Rest → (view_after above (glance t) t w v).errand ≡ Rest
glance_rests above zero w v e = looked_rests w v e
glance_rests above (suc t) w v e = e

-- a look of the door there
pub record Peeks (w : Fields) (v u : View) : Type 0 where
  pub rests : u.errand ≡ Rest
  pub size : u.size ≡ v.size
  pub tier : u.tier ≡ v.tier
  pub unseen : w.ended ≡ false → u.end_seen ≡ v.end_seen
  pub unled : v.led ≡ false → u.led ≡ false

peeks_by : (above t size : ℕ) (w : Fields) (v : View) → v.errand ≡ Rest → Peeks w v (view_after above (looking (Join t 0 size) t w) t w v)
peeks_by above t size w v rests =
    by_test (λ b. Peeks w v (view_after above (cond b (Refuse t 0 size) (glance t)) t w v)) (not w.ended && is_refusing size w)
    (λ e. record { rests = refused_rests t w v rests; size = refused_size t w v; tier = refused_tier t w v; unseen = refused_end t w v; unled = refused_unled t w v })
    (λ e. let d = glanced above t w v in
    record {
      rests = glance_rests above t w v rests;
      size = d.size;
      tier = d.tier;
      unseen = glance_unended above t w v;
      unled = glance_unled above t w v;
    })

pub peeks : {h h' : Holding} {t : ℕ} (size tries : ℕ) → IsDoor h → Took (looking (Join t 0 size) t h'.word) t h'.word tries h h'
    → Peeks h'.word h.view h'.view
peeks {h} {h'} {t} size tries door took =
    subst (Peeks h'.word h.view) (sym took.view) (peeks_by (parent_of h.tree.key.shape t) t size h'.word h.view door.rests)

pub peeked_door : {h h' : Holding} {w : Fields} → IsDoor h → Peeks w h.view h'.view → IsDoor h'
peeked_door {h} {h'} {w} door p = record { none = p.size ∙ door.none; rests = p.rests }

no_one : (v : View) → v.size ≡ 0 → v.arrived ≤ v.size → v.arrived ≡ 0
no_one v none within = omega arith

pub peeked_around : (h h' : Holding) {w : Fields} → IsDoor h → Peeks w h.view h'.view → h.view.arrived ≤ h.view.size
    → h'.view.arrived ≤ h'.view.size → IsLookedAround h.view h'.view
peeked_around h h' {w} door p a b =
    record { tier = p.tier; size = p.size; arrived = no_one h'.view (p.size ∙ door.none) b ∙ sym (no_one h.view door.none a) }

-- at an ended root the door sees the end
pub peeks_end : {h h' : Holding} {t : ℕ} (size tries : ℕ) → Took (looking (Join t 0 size) t h'.word) t h'.word tries h h'
    → h'.word.ended ≡ true → h'.view.end_seen ≡ Some h'.word.phase
peeks_end {h} {h'} {t} size tries took e =
    let z : t ≡ 0 = root_of h.tree.key.shape t h'.word h.view took.before e in
    let k : looking (Join t 0 size) t h'.word ≡ Look = ended_at t t 0 size h'.word e z in
    ap (λ (v : View). v.end_seen) (took.view ∙ ap (λ (k : Kind). view_after (parent_of h.tree.key.shape t) k t h'.word h.view) k)
    ∙ look_end h'.word h.view e

-- if the tier waits, only a lack of room refuses
room_alone : (size : ℕ) (w : Fields) → (0 < w.parties) × (0 < w.unarrived) → is_refusing size w ≡ has_no_room size w
room_alone size w some =
    go (has_no_room size w) (eqb w.unarrived 0) (is_being_opened w) (ne_eqb w.unarrived 0 (λ e. let a = some.1 in absurd (omega arith)))
    (ap (λ (b : Bool). cond b (eqb w.unarrived 2) false) (ne_eqb w.parties 0 (λ e. let a = some.0 in absurd (omega arith))))
  where
    go : (a b c : Bool) → b ≡ false → c ≡ false → (a || (b || c)) ≡ a
    go true b c e f = refl
    go false false false e f = refl
    go false true c e f = not_both true refl e
    go false false true e f = not_both true refl f

pub peeks_full : {h h' : Holding} {count : ℕ} (t size : ℕ) → Looked (Join t 0 size) t h h' → Waits h'.word → h'.word.ended ≡ false
    → is_refusing size h'.word ≡ true → h.view.end_seen ≡ None
    → count ≡ h'.word.parties → IsFullHere h.tree.key.shape t size h'.view count
peeks_full {h} {h'} {count} t size took waits going full unseen is =
    let k = refuse_at t t 0 size h'.word going full in
    let view : h'.view ≡ refused t h'.word h.view =
    took.view ∙ ap (λ (k : Kind). view_after (parent_of h.tree.key.shape t) k t h'.word h.view) k in
    record {
      refusal = record {
        claimed = 0;
        alone = λ z. refl;
        word = h'.word;
        note = ap (λ (v : View). v.note) view ∙ refused_note t h'.word h.view;
        refuses = full;
        says = (sym (room_alone size h'.word (waits going)) ∙ full, is);
        unseen = ap (λ (v : View). v.end_seen) view ∙ (refused_end t h'.word h.view going ∙ unseen);
      };
      itself = refl;
    }

room_so : (n : ℕ) → ltb 65535 n ≡ false → n ≤ 65535
room_so n e = ltb-false 65535 n e

-- else it may join
pub may_join : (n : Named) {h' : Holding} {t size : ℕ} → IsDoor h' → h'.tier ≡ t → t < length n.key.shape → (0 < size) × (size ≤ 65535)
    → Waits h'.word → h'.word.ended ≡ false → is_refusing size h'.word ≡ false
    → Needs n.key.shape (Join t 0 size) h'.tier h'.word h'.view
may_join n {h'} {t} {size} door at inside many waits going admits =
    subst (λ (m : ℕ). Needs n.key.shape (Join t 0 size) m h'.word h'.view) (sym at) (
      door_due n {h = h'} door inside many,
      record {
        going = going;
        waits = (waits going).1;
        empty = λ z. absurd (let a = (waits going).0 in omega arith);
        capacity = room_so (h'.word.parties + size) (sym (room_alone size h'.word (waits going)) ∙ admits);
      },
    )

within_of : {ps : List ℕ} {t : ℕ} {w : Fields} {v : View} → Beside ps t w v → v.arrived ≤ v.size
within_of {ps} {t} {w} {v} b = (mine ps b.words b.front b.back v b.tally).within

around_by : {h h' : Holding} {t : ℕ} (size tries : ℕ) → IsDoor h → Took (looking (Join t 0 size) t h'.word) t h'.word tries h h'
    → IsLookedAround h.view h'.view
around_by {h} {h'} {t} size tries door took =
    peeked_around h h' door (peeks size tries door took) (within_of took.before) (within_of took.after)

pub around_then : {a b c : View} → IsLookedAround a b → IsLookedAround b c → IsLookedAround a c
around_then {a} {b} {c} x y = record { tier = y.tier ∙ x.tier; size = y.size ∙ x.size; arrived = y.arrived ∙ x.arrived }

-- what the door makes there: looks, and the join
one_enters : (k : Kind) (old new : List Kind) → is_entering k ≡ true → new ≡ k ∷ old → MadeOnly is_entering old new
one_enters k old new such is = subst (MadeOnly is_entering old) (sym is) (made_more is_entering k old old such (made_none is_entering old))

pub peek_made : {h h' : Holding} (t size tries : ℕ) → Took (looking (Join t 0 size) t h'.word) t h'.word tries h h'
    → MadeOnly is_entering h.steps h'.steps
peek_made {h} {h'} t size tries took =
    one_enters (looking (Join t 0 size) t h'.word) h.steps h'.steps (join_enters t 0 size t h'.word) took.steps

-- what the door makes there without the join: looks
one_looks : (k : Kind) (old new : List Kind) → is_look k ≡ true → new ≡ k ∷ old → MadeOnly is_look old new
one_looks k old new such is = subst (MadeOnly is_look old) (sym is) (made_more is_look k old old such (made_none is_look old))

peek_looks : {h h' : Holding} (t size tries : ℕ) → Took (looking (Join t 0 size) t h'.word) t h'.word tries h h'
    → MadeOnly is_look h.steps h'.steps
peek_looks {h} {h'} t size tries took =
    one_looks (looking (Join t 0 size) t h'.word) h.steps h'.steps (join_looks t 0 size t h'.word) took.steps

looked_looks : {h h' : Holding} → Looked Look 0 h h' → MadeOnly is_look h.steps h'.steps
looked_looks {h} {h'} took = one_looks Look h.steps h'.steps refl took.steps

look_made_enters : {a b : List Kind} → MadeOnly is_look a b → MadeOnly is_entering a b
look_made_enters m = made_wider is_look is_entering look_is_entering m

pub met_late : {h h' : Holding} (t size : ℕ) → IsDoor h → Looked (Join t 0 size) t h h' → h'.word.ended ≡ false → IsFresh h.view
    → IsStill 0 h h'
met_late {h} {h'} t size door took going fresh = record {
  spent = record { tree = took.tree; tried = took.tried; opened = took.opened };
  looked = around_by size 0 door took;
  fresh = (let p = peeks size 0 door took in record { unseen = p.unseen going ∙ fresh.unseen; unled = p.unled fresh.unled });
  made = peek_looks t size 0 took;
}

-- a lost try is one more look
pub lost_took : {h' h'' : Holding} (t size : ℕ) → h'.tier ≡ t → Lost (Join t 0 size) h' h''
    → Took (looking (Join t 0 size) t h''.word) t h''.word 1 h' h''
lost_took {h'} {h''} t size at l = subst (λ (n : ℕ). Took (looking (Join t 0 size) n h''.word) n h''.word 1 h' h'') at l.took

pub met_busy : {h h' h'' : Holding} (t size : ℕ) → IsDoor h → Looked (Join t 0 size) t h h' → Lost (Join t 0 size) h' h''
    → h'.word.ended ≡ false → h''.word.ended ≡ false → IsFresh h.view
    → IsStill 1 h h''
met_busy {h} {h'} {h''} t size door took lost going on fresh =
    let p = peeks size 0 door took in
    let second = lost_took t size took.tier lost in
    let door' = peeked_door {h = h} {h' = h'} door p in
    record {
      spent =
          record {
            tree = second.tree ∙ took.tree;
            tried = (let a = second.tried in let b = took.tried in omega arith);
            opened = second.opened ∙ took.opened;
          };
      looked = around_then (around_by size 0 door took) (around_by size 1 door' second);
      fresh =
          (let q = peeks size 1 door' second in
          record { unseen = q.unseen on ∙ (p.unseen going ∙ fresh.unseen); unled = q.unled (p.unled fresh.unled) });
      made = made_then is_look (peek_looks t size 0 took) (peek_looks t size 1 second);
    }

pub met_joined : {h h' h'' : Holding} {phase : ℕ} (t size : ℕ) → IsDoor h → IsFresh h.view → Looked (Join t 0 size) t h h'
    → Won (Join t 0 size) h' h'' → phase ≡ h'.word.phase
    → IsSpent 1 h h'' × IsJoined t size h''.view × (h''.view.errand ≡ Rest) × (phase ≡ h''.view.phase)
    × MadeOnly is_entering h.steps h''.steps
met_joined {h} {h'} {h''} {phase} t size door fresh took won is = (
  record {
    tree = won.tree ∙ took.tree;
    tried = (let a = won.tried in let b = took.tried in omega arith);
    opened = won.opened ∙ took.opened;
  },
  record {
    place = ap (λ (v : View). v.tier) won.view;
    members = ap (λ (v : View). v.size) won.view;
    none_arrived = ap (λ (v : View). v.arrived) won.view;
    unled = ap (λ (v : View). v.led) won.view ∙ (peeks size 0 door took).unled fresh.unled;
  },
  ap (λ (v : View). v.errand) won.view,
  is ∙ ap (λ (v : View). v.phase) (sym won.view),
  made_then is_entering (peek_made t size 0 took) (one_enters (Join t 0 size) h'.steps h''.steps refl won.steps),
)

pub met_ended : {h h' : Holding} {shown : ℤ} (t size : ℕ) → Looked (Join t 0 size) t h h' → h'.word.ended ≡ true
    → shown ≡ shown_of h'.word.phase h'.word.ended
    → IsSoon 1 h h' × EndSeen h'.view shown
met_ended {h} {h'} {shown} t size took e is = (
  record { tree = took.tree; tried = (let a = took.tried in omega arith); opened = took.opened },
  (h'.word.phase, peeks_end size 0 took e, is ∙ ap (shown_of h'.word.phase) e),
)

pub met_ended_late : {h h' h'' : Holding} {shown : ℤ} (t size : ℕ) → Looked (Join t 0 size) t h h' → Lost (Join t 0 size) h' h''
    → h''.word.ended ≡ true → shown ≡ shown_of h''.word.phase h''.word.ended
    → IsSoon 1 h h'' × EndSeen h''.view shown
met_ended_late {h} {h'} {h''} {shown} t size took lost e is =
    let second = lost_took t size took.tier lost in (
      record {
        tree = second.tree ∙ took.tree;
        tried = (let a = second.tried in let b = took.tried in omega arith);
        opened = second.opened ∙ took.opened;
      },
      (h''.word.phase, peeks_end size 1 second e, is ∙ ap (shown_of h''.word.phase) e),
    )

-- the tokens' types
pub first_door : {h h' : Holding} (t size : ℕ) → IsDoor h → Looked (Join t 0 size) t h h' → IsDoor h'
first_door {h} {h'} t size door took = peeked_door {h = h} {h' = h'} door (peeks size 0 door took)

pub second_door : {h h' h'' : Holding} (t size : ℕ) → IsDoor h → Looked (Join t 0 size) t h h' → Lost (Join t 0 size) h' h'' → IsDoor h''
second_door {h} {h'} {h''} t size door took lost =
    let door' = first_door t size door took in
    peeked_door {h = h'} {h' = h''} door' (peeks size 1 door' (lost_took t size took.tier lost))

pub new_crew : {h' h'' : Holding} {t size : ℕ} → 0 < size → Won (Join t 0 size) h' h'' → IsCrew h''
new_crew {h'} {h''} {t} {size} some won = record {
  some = (let a = ap (λ (v : View). v.size) won.view in omega arith);
  within = (let a = ap (λ (v : View). v.arrived) won.view in omega arith);
  rests = ap (λ (v : View). v.errand) won.view;
}

-- a round, from what the door's part answers
pub met_round : {old new : Holding} {tier : ℕ} (door : Holding) (size : ℕ) (a : Registered) → KeepsCrew 0 old new → tier ≡ old.view.tier
    → AnswersHere door tier size a → JoinsOnce old new door size a
met_round {old} {new} {tier} door size (registered.Joined crew phase) k at m = (
  record {
    crew_tree = k.tree;
    door_tree = m.0.tree;
    crew = k.crew;
    tried = (let a = k.tried in let b = m.0.tried in omega arith);
    crew_opened = k.opened;
    door_opened = m.0.opened;
    crew_made = k.made;
    door_made = m.4;
  },
  subst (λ (t : ℕ). IsJoined t size crew.view) at m.1,
  m.2,
  m.3,
)
met_round {old} {new} {tier} door size (registered.Full after count) k at m = (
  record {
    crew_tree = k.tree;
    door_tree = m.0.tree;
    crew = k.crew;
    tried = (let a = k.tried in let b = m.0.tried in omega arith);
    crew_opened = k.opened;
    door_opened = m.0.opened;
    crew_made = k.made;
    door_made = m.2;
  },
  subst (λ (t : ℕ). IsFullHere door.tree.key.shape t size after.view count) at m.1,
)
met_round {old} {new} {tier} door size (registered.Ended after shown) k at m = (
  record {
    crew_tree = k.tree;
    door_tree = m.0.tree;
    crew = k.crew;
    tried = (let a = k.tried in let b = m.0.tried in omega arith);
    crew_opened = k.opened;
    door_opened = m.0.opened;
    crew_made = k.made;
    door_made = m.2;
  },
  m.1,
)
met_round {old} {new} {tier} door size (registered.Busy after) k at m = (
  record {
    crew_tree = k.tree;
    door_tree = m.spent.tree;
    crew = k.crew;
    tried = (let a = k.tried in let b = m.spent.tried in omega arith);
    crew_opened = k.opened;
    door_opened = m.spent.opened;
    crew_made = k.made;
    door_made = m.made;
  },
  m.looked,
  m.fresh,
)
met_round {old} {new} {tier} door size (registered.Held after phase cause) k at m = absurd m
met_round {old} {new} {tier} door size (registered.Owing opening) k at m = absurd m

same_then : {a b c : View} → IsSame a b → IsSame b c → IsSame a c
same_then {a} {b} {c} x y =
    record { tier = y.tier ∙ x.tier; size = y.size ∙ x.size; phase = y.phase ∙ x.phase; arrived = y.arrived ∙ x.arrived }

-- a round in which another step came between
pub late_round : {old mid new door after : Holding} → KeepsCrew 0 old mid → KeepsCrew 1 mid new → IsStill 0 door after
    → AreSpent 1 old new door after × IsLookedAround door.view after.view × IsFresh after.view
late_round {old} {mid} {new} {door} {after} a b s = (
  record {
    crew_tree = b.tree ∙ a.tree;
    door_tree = s.spent.tree;
    crew = same_then a.crew b.crew;
    tried = (let x = a.tried in let y = b.tried in let z = s.spent.tried in omega arith);
    crew_opened = b.opened ∙ a.opened;
    door_opened = s.spent.opened;
    crew_made = made_then is_quiet a.made b.made;
    door_made = s.made;
  },
  s.looked,
  s.fresh,
)

pub around_none : (v : View) → IsLookedAround v v
around_none v = record { tier = refl; size = refl; arrived = refl }

pub lagging_round : {old mid new door : Holding} → KeepsCrew 0 old mid → KeepsCrew 1 mid new → IsFresh door.view
    → AreSpent 1 old new door door × IsLookedAround door.view door.view × IsFresh door.view
lagging_round {old} {mid} {new} {door} a b fresh = (
  record {
    crew_tree = b.tree ∙ a.tree;
    door_tree = refl;
    crew = same_then a.crew b.crew;
    tried = (let x = a.tried in let y = b.tried in omega arith);
    crew_opened = b.opened ∙ a.opened;
    door_opened = refl;
    crew_made = made_then is_quiet a.made b.made;
    door_made = made_none is_look door.steps;
  },
  around_none door.view,
  fresh,
)

-- rounds one after another
pub soon_then : {old mid new door d after : Holding} {a b tries : ℕ} → AreSpent a old mid door d → AreSoon b mid new d after → a + b ≤ tries
    → AreSoon tries old new door after
soon_then {old} {mid} {new} {door} {d} {after} {a} {b} {tries} x y few = record {
  crew_tree = y.crew_tree ∙ x.crew_tree;
  door_tree = y.door_tree ∙ x.door_tree;
  crew = same_then x.crew y.crew;
  tried = (let p = x.tried in let q = y.tried in omega arith);
  crew_opened = y.crew_opened ∙ x.crew_opened;
  door_opened = y.door_opened ∙ x.door_opened;
  crew_made = made_then is_quiet x.crew_made y.crew_made;
  door_made = made_then is_entering (look_made_enters x.door_made) y.door_made;
}

pub rounds_answer : {old mid door d : Holding} {made tries : ℕ} (new : Holding) (size : ℕ) (a : Registered)
    → ((after : Holding) → a ≢ registered.Busy after) → AreSpent made old mid door d → made < tries → JoinsOnce mid new d size a
    → JoinsHere old new door size tries a
rounds_answer {old} {mid} {door} {d} {made} {tries} new size (registered.Joined crew phase) other x few m =
    (soon_then x m.0 (omega arith), subst (λ (t : ℕ). IsJoined t size crew.view) x.crew.tier m.1, m.2, m.3)
rounds_answer {old} {mid} {door} {d} {made} {tries} new size (registered.Full after count) other x few m = (
  soon_then x m.0 (omega arith),
  subst (λ (z : Named × ℕ). IsFullHere z.0.key.shape z.1 size after.view count) (λ i. (x.door_tree i, x.crew.tier i)) m.1,
)
rounds_answer {old} {mid} {door} {d} {made} {tries} new size (registered.Ended after shown) other x few m =
    (soon_then x m.0 (omega arith), m.1)
rounds_answer {old} {mid} {door} {d} {made} {tries} new size (registered.Busy after) other x few m = absurd (other after refl)
rounds_answer {old} {mid} {door} {d} {made} {tries} new size (registered.Held after phase cause) other x few m = absurd m
rounds_answer {old} {mid} {door} {d} {made} {tries} new size (registered.Owing opening) other x few m = absurd m

pub spent_then : {old mid new door d after : Holding} {a : ℕ} → AreSpent a old mid door d → AreSpent 1 mid new d after
    → AreSpent (a + 1) old new door after
spent_then {old} {mid} {new} {door} {d} {after} {a} x y = record {
  crew_tree = y.crew_tree ∙ x.crew_tree;
  door_tree = y.door_tree ∙ x.door_tree;
  crew = same_then x.crew y.crew;
  tried = (let p = x.tried in let q = y.tried in omega arith);
  crew_opened = y.crew_opened ∙ x.crew_opened;
  door_opened = y.door_opened ∙ x.door_opened;
  crew_made = made_then is_quiet x.crew_made y.crew_made;
  door_made = made_then is_look x.door_made y.door_made;
}

pub waits_by : {w w' seen : Fields} → w ≡ w' → w ≡ seen → Waits seen → Waits w'
waits_by {w} {w'} {seen} is same waits = subst Waits (sym same ∙ is) waits

pub none_spent : {h h' : Holding} (t size : ℕ) → Looked (Join t 0 size) t h h' → IsSpent 0 h h'
none_spent {h} {h'} t size took = record { tree = took.tree; tried = took.tried; opened = took.opened }

pub refusal_of : {b c : Bool} {w w' : Fields} (size : ℕ) → w ≡ w' → b ≡ is_refusing size w → b ≡ c → is_refusing size w' ≡ c
refusal_of {b} {c} {w} {w'} size is e f = ap (is_refusing size) (sym is) ∙ (sym e ∙ f)

pub ended_word : {u w w' : Fields} → u ≡ w → w ≡ w' → u.ended ≡ true → w'.ended ≡ true
ended_word {u} {w} {w'} is same e = ap (λ (z : Fields). z.ended) (sym (is ∙ same)) ∙ e

pub still_fresh : {h h' : Holding} → Looked Look 0 h h' → h'.word.ended ≡ false → IsFresh h'.view
still_fresh {h} {h'} took e = first_fresh took e

-- a crew with an unarrived member stays as it is if it looks at the root
pub stays_same : {c c' : Holding} → c.view.arrived < c.view.size → Looked Look 0 c c' → IsSame c.view c'.view
stays_same {c} {c'} some took = subst (IsSame c.view) (sym took.view) (still_glance 0 0 c'.word c.view (λ z. inr some))

pub stays_some : {c c' : Holding} → c.view.arrived < c.view.size → Looked Look 0 c c' → c'.view.arrived < c'.view.size
stays_some {c} {c'} some took = let s = stays_same {c = c} {c' = c'} some took in let a = s.arrived in let b = s.size in omega arith

pub looked_quiet : {c c' : Holding} → Looked Look 0 c c' → MadeOnly is_quiet c.steps c'.steps
looked_quiet {c} {c'} took =
    subst (MadeOnly is_quiet c.steps) (sym took.steps) (made_more is_quiet Look c.steps c.steps refl (made_none is_quiet c.steps))

-- the look at the root of both before all rounds
pub beside_ended : {c c' h h' : Holding} {shown : ℤ} (tries : ℕ) → c.view.arrived < c.view.size → Looked Look 0 c c' → Looked Look 0 h h'
    → h'.word.ended ≡ true → shown ≡ shown_of h'.word.phase h'.word.ended
    → AreSoon tries c c' h h' × EndSeen h'.view shown
beside_ended {c} {c'} {h} {h'} {shown} tries some looks took e is = (
  record {
    crew_tree = looks.tree;
    door_tree = took.tree;
    crew = stays_same some looks;
    tried = (let a = took.tried in let b = looks.tried in omega arith);
    crew_opened = looks.opened;
    door_opened = took.opened;
    crew_made = looked_quiet looks;
    door_made = looked_enters took;
  },
  (h'.word.phase, ap (λ (v : View). v.end_seen) took.view ∙ look_end h'.word h.view e, is ∙ ap (shown_of h'.word.phase) e),
)

looked_around : {h h' : Holding} → IsDoor h → Looked Look 0 h h' → IsLookedAround h.view h'.view
looked_around {h} {h'} door took =
    let p : Peeks h'.word h.view h'.view = subst (Peeks h'.word h.view) (sym took.view) (record {
      rests = looked_rests h'.word h.view door.rests;
      size = looked_size h'.word h.view;
      tier = looked_tier h'.word h.view;
      unseen = look_unended h'.word h.view;
      unled = λ l. looked_unled h'.word h.view;
    }) in
    peeked_around h h' door p (within_of took.before) (within_of took.after)

module _ {c c' h h' : Holding} (new : Holding) (size tries : ℕ) (some : c.view.arrived < c.view.size) (seen : Looked Look 0 c c')
    (took : Looked Look 0 h h') where
  soon_first : {after : Holding} → AreSoon tries c' new h' after → AreSoon tries c new h after
  soon_first {after} x = record {
    crew_tree = x.crew_tree ∙ seen.tree;
    door_tree = x.door_tree ∙ took.tree;
    crew = same_then (stays_same some seen) x.crew;
    tried = (let a = took.tried in let d = seen.tried in let b = x.tried in omega arith);
    crew_opened = x.crew_opened ∙ seen.opened;
    door_opened = x.door_opened ∙ took.opened;
    crew_made = made_then is_quiet (looked_quiet seen) x.crew_made;
    door_made = made_then is_entering (looked_enters took) x.door_made;
  }

  tier : c'.view.tier ≡ c.view.tier
  tier = (stays_same some seen).tier

  pub beside_then : (r : Registered) → IsDoor h → JoinsHere c' new h' size tries r → JoinsHere c new h size tries r
  beside_then (registered.Joined crew phase) door m = (soon_first m.0, subst (λ (t : ℕ). IsJoined t size crew.view) tier m.1, m.2, m.3)
  beside_then (registered.Full after count) door m =
      (soon_first m.0, subst (λ (z : Named × ℕ). IsFullHere z.0.key.shape z.1 size after.view count) (λ i. (took.tree i, tier i)) m.1)
  beside_then (registered.Ended after shown) door m = (soon_first m.0, m.1)
  beside_then (registered.Busy after) door m = (
    record {
      crew_tree = m.0.crew_tree ∙ seen.tree;
      door_tree = m.0.door_tree ∙ took.tree;
      crew = same_then (stays_same some seen) m.0.crew;
      tried = (let a = took.tried in let d = seen.tried in let b = m.0.tried in omega arith);
      crew_opened = m.0.crew_opened ∙ seen.opened;
      door_opened = m.0.door_opened ∙ took.opened;
      crew_made = made_then is_quiet (looked_quiet seen) m.0.crew_made;
      door_made = made_then is_look (looked_looks took) m.0.door_made;
    },
    around_then (looked_around door took) m.1,
    m.2,
  )
  beside_then (registered.Held after phase cause) door m = absurd m
  beside_then (registered.Owing opening) door m = absurd m

  door_enters : (r : Registered) → JoinsHere c' new h' size tries r → EnteredBy r h.steps (token_of r).steps
  door_enters (registered.Joined crew phase) m = subst (λ (ks : List Kind). MadeOnly is_entering ks crew.steps) took.steps m.0.door_made
  door_enters (registered.Full after count) m = subst (λ (ks : List Kind). MadeOnly is_entering ks after.steps) took.steps m.0.door_made
  door_enters (registered.Ended after shown) m = subst (λ (ks : List Kind). MadeOnly is_entering ks after.steps) took.steps m.0.door_made
  door_enters (registered.Busy after) m = subst (λ (ks : List Kind). MadeOnly is_look ks after.steps) took.steps m.0.door_made
  door_enters (registered.Held after phase cause) m = absurd m
  door_enters (registered.Owing opening) m = absurd m

  crew_looks : (r : Registered) → JoinsHere c' new h' size tries r → MadeOnly is_quiet c'.steps new.steps
  crew_looks (registered.Joined crew phase) m = m.0.crew_made
  crew_looks (registered.Full after count) m = m.0.crew_made
  crew_looks (registered.Ended after shown) m = m.0.crew_made
  crew_looks (registered.Busy after) m = m.0.crew_made
  crew_looks (registered.Held after phase cause) m = absurd m
  crew_looks (registered.Owing opening) m = absurd m

  -- both have looked at the root first
  pub looked_then : (r : Registered) → JoinsHere c' new h' size tries r
      → EnteredBy r h.steps (token_of r).steps × HasLooked c.steps new.steps
  looked_then r m = (door_enters r m, subst (λ (ks : List Kind). MadeOnly is_quiet ks new.steps) seen.steps (crew_looks r m))
