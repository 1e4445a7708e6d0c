-- Several tokens in one seat that look, or go by one exchange.
use Rattle.std.proofs.Common.{◌≡◌, ◌≢◌, ℕ, zero, suc, ◌<◌, Bool, true, false, cond, Some, None, List, [], ◌∷◌, ◌==◌, length, if◌then◌else◌, refl, ap, sym, ◌∙◌, subst, arith}
use mathlib.Core.Option.{none}
use prog.Atomic.{either}
use Rattle.atomic_table.specs.Table.{Me, step, Allows}
use Rattle.atomic_table.specs.Seated.{TableId}
use Rattle.phaser_word.specs.Fields.{Fields, IsLegal}
use Rattle.phaser_word.specs.Packed.{packed}
use Rattle.tier_shape.specs.Parents.{parent_of}
use Rattle.tier_steps.specs.declared.view.View.{View}
use Rattle.tier_steps.specs.declared.kind.Kind.{Kind}
use Rattle.tier_steps.specs.Step.{looked, dropped, is_going_back, view_after}
use Rattle.tier_rule.specs.declared.sight.Key.{Key}
use Rattle.tier_rule.specs.declared.sight.Sight.{Sight}
use Rattle.tier_rule.specs.Look.{glance}
use Rattle.tier_rule.specs.Reach.{Kept}
use Rattle.tier_rule.specs.Group.{AreOf, AreAlike, looked_all, LookedAll, SawAll, WentOrLooked}
use Rattle.tier_rule.proofs.Together.{looks_all_allow, together_allow}
use Rattle.tier_calls.specs.Holding.{Named, sight_of}
use Rattle.tier_calls.specs.Groups.{GroupHeld, group_of, IsOne, AreSeated, IsGroup, glanced, AllLooked, MayGo, HaveGone, HaveLost, AllLost}

abbrev Seat : Type 0
Seat = Me Kind (List Sight)

pub alike_own : (k : Key) (v : View) (l : List Sight) → AreAlike k v l → AreOf k l
alike_own k v [] all = tt
alike_own k v (x ∷ xs) all = (all.0.0, alike_own k v xs all.1)

pub glanced_is : (above t : ℕ) (w : Fields) (v : View) → view_after above (glance t) t w v ≡ glanced t w v
glanced_is above zero w v = refl
glanced_is above (suc t) w v = refl

pub looked_alike : (k : Key) (t : ℕ) (w : Fields) (tries : ℕ) (v : View) (l : List Sight) → AreAlike k v l
    → AreAlike k (glanced t w v) (looked_all t w tries l)
looked_alike k t w tries v [] all = tt
looked_alike k t w tries v (x ∷ xs) all =
    ((all.0.0, glanced_is (parent_of x.key.shape t) t w x.view ∙ ap (glanced t w) all.0.1), looked_alike k t w tries v xs all.1)

pub looked_long : (t : ℕ) (w : Fields) (tries : ℕ) (l : List Sight) → length (looked_all t w tries l) ≡ length l
looked_long t w tries [] = refl
looked_long t w tries (x ∷ xs) = ap suc (looked_long t w tries xs)

abbrev pub unled : View → View
unled v = record v { led = false; note = (if is_going_back v.errand then v.note else None) }

-- the three views that a look at the root can leave
pub looked_cases : (P : View → Type 0) (w : Fields) (v : View)
    → (w.ended ≡ true → P (record (unled v) { end_seen = Some w.phase; errand = dropped v.errand }))
    → (w.ended ≡ false → P (unled v)) → (w.ended ≡ false → P (record (unled v) { phase = w.phase; arrived = 0 })) → P (looked w v)
looked_cases P w v a b c = go w.ended (v.arrived == v.size) (v.phase == w.phase) a b c
  where
    go : (e g h : Bool) → (e ≡ true → P (record (unled v) { end_seen = Some w.phase; errand = dropped v.errand }))
        → (e ≡ false → P (unled v)) → (e ≡ false → P (record (unled v) { phase = w.phase; arrived = 0 }))
        → P
        (cond e (record (unled v) { end_seen = Some w.phase; errand = dropped v.errand }) (cond g (cond h (unled v) (record (unled v) { phase = w.phase; arrived = 0 })) (unled v)))
    go true g h a b c = a refl
    go false false h a b c = b refl
    go false true true a b c = b refl
    go false true false a b c = c refl

pub glanced_one : (t : ℕ) (w : Fields) (v : View) → IsOne v → IsOne (glanced t w v)
glanced_one zero w v one =
    let o = one.one in let i = one.within in let r = one.rests in
    looked_cases IsOne w v
    (λ e. record { one = o; within = i; rests = ap dropped r })
    (λ e. record { one = o; within = i; rests = r })
    (λ e. record { one = o; within = omega arith; rests = r })
glanced_one (suc t) w v one = one

first_key : (t : ℕ) (w : Fields) (tries : ℕ) (me me' : Seat) → me'.0 ≡ looked_all t w tries me.0 → (sight_of me').key ≡ (sight_of me).key
first_key t w tries me me' is = ap (λ (l : List Sight). let m : Seat = (l, []) in (sight_of m).key) is ∙ go me.0
  where
    go : (l : List Sight) → (let m : Seat = (looked_all t w tries l, []) in sight_of m).key ≡ (let m : Seat = (l, []) in sight_of m).key
    go [] = refl
    go (x ∷ xs) = refl

-- the seat after a look of all
pub looked_crowd : (k : Key) (t : ℕ) (w : Fields) (tries count : ℕ) (me me' : Seat) (v u : View) → AreSeated me v count → me'.1 ≡ []
    → LookedAll k t w tries me.0 me'.0 → u ≡ glanced t w v → AreSeated me' u count
looked_crowd k t w tries count me me' v u seated bare r is =
    let key = first_key t w tries me me' r.all in
    subst (λ (z : View). AreSeated me' z count) (sym is) (record {
      bare = bare;
      long = ap length r.all ∙ (looked_long t w tries me.0 ∙ seated.long);
      some = seated.some;
      alike =
          subst (λ (z : Key). AreAlike z (glanced t w v) me'.0) (sym key)
          (subst (AreAlike (sight_of me).key (glanced t w v)) (sym r.all) (looked_alike (sight_of me).key t w tries v me.0 seated.alike));
      view = glanced_one t w v seated.view;
    })

pub seated_group : {id : TableId} {me : Seat} {v : View} {count : ℕ} → AreSeated me v count → IsGroup (group_of id me v)
seated_group {id} {me} {v} {count} seated =
    record { some = (let a = seated.long in let b = seated.some in omega arith); alike = seated.alike; view = seated.view }

-- what the tokens say after a look of all
pub all_looked : {id id' : TableId} {k : Key} {v u : View} {h : GroupHeld} {t count : ℕ} {w : Fields} {tries : ℕ} (me me' : Seat)
    → AreSeated me v count → me'.1 ≡ [] → group_of id me v ≡ h → (sight_of me).key ≡ k → id' ≡ id
    → LookedAll k t w tries me.0 me'.0 → u ≡ glanced t w v → AllLooked t w tries h (group_of id' me' u)
all_looked {id} {id'} {k} {v} {u} {h} {t} {count} {w} {tries} me me' seated bare is own same r at =
    let key = first_key t w tries me me' r.all in
    let a : AllLooked t w tries (group_of id me v) (group_of id' me' u) = record {
      tree = λ i. record { id = same i; key = key i };
      view = at;
      looked = subst (λ (z : Key). LookedAll z t w tries me.0 me'.0) (sym own) r;
      was = seated_group seated;
      group = seated_group (looked_crowd k t w tries count me me' v u seated bare r at);
    } in
    subst (λ (z : GroupHeld). AllLooked t w tries z (group_of id' me' u)) is a

-- what the code knows of some tokens and their tree
pub record Facts (id id' : TableId) (k : Key) (me : Seat) (v : View) : Type 0 where
  pub same : id ≡ id'
  pub own : (sight_of me).key ≡ k
  pub whole : me ≡ (me.0, [])

pub facts : {id id' : TableId} {k : Key} {me : Seat} {v : View} {count : ℕ} {h : GroupHeld} {n : Named} → AreSeated me v count
    → group_of id me v ≡ h → record { id = id'; key = k } ≡ n → h.tree ≡ n → Facts id id' k me v
facts {id} {id'} {k} {me} {v} {count} {h} {n} seated a b own = record {
  same = ap (λ (z : GroupHeld). z.tree.id) a ∙ (ap (λ (z : Named). z.id) own ∙ sym (ap (λ (z : Named). z.id) b));
  own = ap (λ (z : GroupHeld). z.tree.key) a ∙ (ap (λ (z : Named). z.key) own ∙ sym (ap (λ (z : Named). z.key) b));
  whole = λ i. let m : Seat = (me.0, seated.bare i) in m;
}

pub saw_allow : {k : Key} {me : Seat} {v : View} {count : ℕ} (slots id t : ℕ) → AreSeated me v count → (sight_of me).key ≡ k
    → t < length k.shape → Allows (Kept k) slots id me t (λ n. n) (SawAll k (step slots t 0 0 none) me)
saw_allow {k} {me} {v} {count} slots id t seated own inside =
    subst (λ (m : Seat). Allows (Kept k) slots id m t (λ n. n) (SawAll k (step slots t 0 0 none) m))
    (λ i. let m : Seat = (me.0, sym seated.bare i) in m)
    (looks_all_allow k slots id t me.0 inside (subst (λ (z : Key). AreOf z me.0) own (alike_own (sight_of me).key v me.0 seated.alike)))

pub saw_allow_by : {k j : Key} {t count : ℕ} {me : Seat} {v : View} (slots id : ℕ) → AreSeated me v count → (sight_of me).key ≡ k → j ≡ k
    → t < length k.shape → Allows (Kept k) slots id me t (λ n. n) (SawAll j (step slots t 0 0 none) me)
saw_allow_by {k} {j} {t} {count} {me} {v} slots id seated own key inside =
    subst (λ (z : Key). Allows (Kept k) slots id me t (λ n. n) (SawAll z (step slots t 0 0 none) me)) (sym key)
    (saw_allow slots id t seated own inside)

-- what all have seen at a load
pub all_saw : {k j : Key} {t t' n : ℕ} (me me' : Seat) (slots : ℕ) (z : Fields) → SawAll j (step slots t' 0 0 none) me n me'
    → ((w : Fields) → IsLegal w → packed w ≡ n → z ≡ w) → j ≡ k → t' ≡ t
    → (me'.1 ≡ []) × LookedAll k t z 0 me.0 me'.0
all_saw {k} {j} {t} {t'} {n} me me' slots z reported again same tier =
    let r : LookedAll j t' reported.0 0 me.0 me'.0 =
    subst (LookedAll j t' reported.0 0 me.0) (sym (ap (λ (m : Seat). m.0) reported.4)) reported.5 in (
      ap (λ (m : Seat). m.1) reported.4,
      subst (λ (c : Key). LookedAll c t z 0 me.0 me'.0) same
          (subst (λ (i : ℕ). LookedAll j i z 0 me.0 me'.0) tier
          (subst (λ (w : Fields). LookedAll j t' w 0 me.0 me'.0) (sym (again reported.0 reported.1 (sym reported.2))) r)),
    )

pub saw_number : {j : Key} {t n : ℕ} (me me' : Seat) (slots : ℕ) → SawAll j (step slots t 0 0 none) me n me'
    → (w : Fields) × IsLegal w × (packed w ≡ n)
saw_number {j} {t} {n} me me' slots reported = (reported.0, reported.1, sym reported.2)

-- the exchange is allowed
pub go_allow : {k j : Key} {id' : TableId} {n : Named} {t t' old new : ℕ} {w u jf jt : Fields} {me : Seat} {m : List Sight} (slots id : ℕ)
    → MayGo n.key t w u me m → record { id = id'; key = k } ≡ n → j ≡ n.key → jf ≡ w → jt ≡ u → t' ≡ t → t < length n.key.shape
    → old ≡ packed w → new ≡ packed u
    → Allows (Kept k) slots id me t' (λ c. either (c == old) new c) (WentOrLooked j jf jt m (step slots t' old new none) me)
go_allow {k} {j} {id'} {n} {t} {t'} {old} {new} {w} {u} {jf} {jt} {me} {m} slots id may nv key from to tier inside is next =
    let own : n.key ≡ k = sym (ap (λ (z : Named). z.key) nv) in
    let a : Allows (Kept n.key) slots id (me.0, []) t (λ c. either (c == old) new c)
    (WentOrLooked n.key w u m (step slots t old new none) (me.0, [])) =
    together_allow n.key slots id old new t w u me.0 m inside may.own may.legal is next may.goes in
    let b : Allows (Kept n.key) slots id me t (λ c. either (c == old) new c) (WentOrLooked n.key w u m (step slots t old new none) me) =
    subst
    (λ (z : Seat). Allows (Kept n.key) slots id z t (λ c. either (c == old) new c) (WentOrLooked n.key w u m (step slots t old new none) z))
    (λ i. let z : Seat = (me.0, sym may.bare i) in z) a in
    let c : Allows (Kept n.key) slots id me t' (λ c. either (c == old) new c) (WentOrLooked n.key w u m (step slots t' old new none) me) =
    subst
    (λ (z : ℕ). Allows (Kept n.key) slots id me z (λ c. either (c == old) new c) (WentOrLooked n.key w u m (step slots z old new none) me))
    (sym tier) b in
    let d : Allows (Kept n.key) slots id me t' (λ c. either (c == old) new c) (WentOrLooked j jf jt m (step slots t' old new none) me) =
    subst
    (λ (z : Key). Allows (Kept n.key) slots id me t' (λ c. either (c == old) new c) (WentOrLooked z jf jt m (step slots t' old new none) me))
    (sym key)
    (subst (λ (z : Fields). Allows (Kept n.key) slots id me t' (λ c. either (c == old) new c) (WentOrLooked n.key z jt m (step slots t' old new none) me)) (sym from)
    (subst (λ (z : Fields). Allows (Kept n.key) slots id me t' (λ c. either (c == old) new c) (WentOrLooked n.key w z m (step slots t' old new none) me)) (sym to) c)) in
    subst
    (λ (z : Key). Allows (Kept z) slots id me t' (λ c. either (c == old) new c) (WentOrLooked j jf jt m (step slots t' old new none) me))
    own d

went_as : {k j : Key} {t t' old new n : ℕ} {w u jf jt : Fields} {me me' : Seat} {m : List Sight} (slots : ℕ)
    → WentOrLooked j jf jt m (step slots t' old new none) me n me' → j ≡ k → jf ≡ w → jt ≡ u → t' ≡ t
    → WentOrLooked k w u m (step slots t old new none) me n me'
went_as {k} {j} {t} {t'} {old} {new} {n} {w} {u} {jf} {jt} {me} {me'} {m} slots reported key from to tier =
    subst (λ (z : ℕ). WentOrLooked k w u m (step slots z old new none) me n me') tier
    (subst (λ (z : Fields). WentOrLooked k w z m (step slots t' old new none) me n me') to
    (subst (λ (z : Fields). WentOrLooked k z jt m (step slots t' old new none) me n me') from
    (subst (λ (z : Key). WentOrLooked z jf jt m (step slots t' old new none) me n me') key reported)))

pub have_gone : {k j : Key} {t t' old new n : ℕ} {w u jf jt : Fields} {me me' : Seat} {m : List Sight} (slots : ℕ)
    → WentOrLooked j jf jt m (step slots t' old new none) me n me' → j ≡ k → jf ≡ w → jt ≡ u → t' ≡ t
    → n ≡ old → HaveGone k t w u me me' m
have_gone {k} {j} {t} {t'} {old} {new} {n} {w} {u} {jf} {jt} {me} {me'} {m} slots reported key from to tier hit =
    let q : WentOrLooked k w u m (step slots t old new none) me n me' =
    went_as {k = k} {t = t} {w = w} {u = u} slots reported key from to tier in
    let r = q.won hit in
    record { bare = ap (λ (z : Seat). z.1) r.0; now = ap (λ (z : Seat). z.0) r.0; before = r.1; after = r.2 }

pub have_lost : {k j : Key} {t t' old new n : ℕ} {w u jf jt : Fields} {me me' : Seat} {m : List Sight} (slots : ℕ) (z : Fields)
    → WentOrLooked j jf jt m (step slots t' old new none) me n me' → j ≡ k → jf ≡ w → jt ≡ u → t' ≡ t
    → n ≢ old → ((y : Fields) → IsLegal y → packed y ≡ n → z ≡ y) → HaveLost k t w z me me'
have_lost {k} {j} {t} {t'} {old} {new} {n} {w} {u} {jf} {jt} {me} {me'} {m} slots z reported key from to tier miss again =
    let q : WentOrLooked k w u m (step slots t old new none) me n me' =
    went_as {k = k} {t = t} {w = w} {u = u} slots reported key from to tier in
    let r = q.lost miss in
    let e : z ≡ r.0 = again r.0 r.1 (sym r.2) in
    record {
      bare = ap (λ (y : Seat). y.1) r.5;
      other = λ d. r.3 (sym e ∙ d);
      looked =
          subst (λ (y : Fields). LookedAll k t y 1 me.0 me'.0) (sym e)
          (subst (LookedAll k t r.0 1 me.0) (sym (ap (λ (y : Seat). y.0) r.5)) r.6);
    }

pub lost_number_all : {j : Key} {t old new n : ℕ} {jf jt : Fields} {me me' : Seat} {m : List Sight} (slots : ℕ)
    → WentOrLooked j jf jt m (step slots t old new none) me n me' → n ≢ old
    → (w : Fields) × IsLegal w × (packed w ≡ n)
lost_number_all {j} {t} {old} {new} {n} {jf} {jt} {me} {me'} {m} slots reported miss = let r = reported.lost miss in (r.0, r.1, sym r.2)

pub all_lost : {id one : TableId} {v u : View} {count : ℕ} {h : GroupHeld} {n : Named} {w z : Fields} (me me' : Seat) → AreSeated me v count
    → group_of id me v ≡ h → h.tree ≡ n → one ≡ id → HaveLost n.key v.tier w z me me' → u ≡ glanced v.tier z v
    → AllLost w z h (group_of one me' u)
all_lost {id} {one} {v} {u} {count} {h} {n} {w} {z} me me' seated is own same lost at =
    let key : (sight_of me).key ≡ n.key = ap (λ (y : GroupHeld). y.tree.key) is ∙ ap (λ (y : Named). y.key) own in
    let r : AllLooked v.tier z 1 h (group_of one me' u) = all_looked me me' seated lost.bare is key same lost.looked at in
    record { other = lost.other; looked = subst (λ (y : GroupHeld). AllLooked y.view.tier z 1 h (group_of one me' u)) is r }
