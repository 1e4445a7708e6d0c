-- The members' tier after a poll by all tokens.
use Rattle.std.proofs.Common.{◌≡◌, ◌≢◌, ℕ, zero, suc, ◌<◌, inl, inr, false, List, [], ◌∷◌, length, refl, ap, sym, ◌∙◌, subst, arith}
use Rattle.atomic_table.specs.Table.{Me}
use Rattle.atomic_table.specs.Seated.{TableId}
use Rattle.phaser_word.specs.Fields.{Fields}
use Rattle.tier_core.specs.Turn.{lags}
use Rattle.tier_steps.specs.declared.view.View.{View}
use Rattle.tier_steps.specs.declared.kind.Kind.{Kind}
use Rattle.tier_steps.specs.declared.kind.Kind.TheVariants.{Refresh}
use Rattle.tier_steps.specs.Step.{CanRefresh}
use Rattle.tier_rule.specs.declared.sight.Key.{Key}
use Rattle.tier_rule.specs.declared.sight.Sight.{Sight}
use Rattle.tier_rule.specs.Reach.{those}
use Rattle.tier_rule.specs.Tell.{Beside}
use Rattle.tier_rule.specs.Group.{AreAlike, Among, looked_all}
use Rattle.tier_calls.specs.Holding.{Named, first_of, no_sight, sight_of}
use Rattle.tier_calls.specs.Groups.{GroupHeld, group_of, AreSeated, glanced, AllLooked, HaveGone, HaveLost, AllLost, first_stepped}
use Rattle.tier_calls.specs.ArrivesAll.{HaveCaughtUp}
use Rattle.tier_calls.proofs.Greeting.{known_by}
use Rattle.tier_calls.proofs.Waits.{in_phase, root_in_phase}
use Rattle.tier_calls.proofs.Grouping.{all_lost}
use Rattle.tier_calls.proofs.ArrivingAll.{among_beside, looked_yet, none_now, lost_keeps}

abbrev Seat : Type 0
Seat = Me Kind (List Sight)

-- what the first token knows after a look of all
first_at : (t : ℕ) (w : Fields) (tries : ℕ) (l : List Sight) → 0 < length l → (first_of no_sight (looked_all t w tries l)).tier ≡ t
first_at t w tries [] h = absurd (omega arith)
first_at t w tries (x ∷ xs) h = refl

first_found : (t : ℕ) (w : Fields) (tries : ℕ) (l : List Sight) → 0 < length l → (first_of no_sight (looked_all t w tries l)).word ≡ w
first_found t w tries [] h = absurd (omega arith)
first_found zero w tries (x ∷ xs) h = refl
first_found (suc t) w tries (x ∷ xs) h = refl

looked_at : {t : ℕ} {w : Fields} {tries : ℕ} {old new : GroupHeld} → AllLooked t w tries old new → new.view.tier ≡ t
    → (first_of no_sight new.tokens).tier ≡ new.view.tier
looked_at {t} {w} {tries} {old} {new} r own =
    subst (λ (l : List Sight). (first_of no_sight l).tier ≡ new.view.tier) (sym r.looked.all)
    (first_at t w tries old.tokens r.was.some ∙ sym own)

looked_word : {t : ℕ} {w : Fields} {tries : ℕ} {old new : GroupHeld} → AllLooked t w tries old new → (first_of no_sight new.tokens).word ≡ w
looked_word {t} {w} {tries} {old} {new} r =
    subst (λ (l : List Sight). (first_of no_sight l).word ≡ w) (sym r.looked.all) (first_found t w tries old.tokens r.was.some)

beside_now : {t : ℕ} {w : Fields} {tries : ℕ} {old new : GroupHeld} → AllLooked t w tries old new → Beside new.tree.key.shape t w new.view
beside_now {t} {w} {tries} {old} {new} r =
    among_beside new.tree.key t w new.view new.tokens
    (subst (λ (z : Named). Among z.key.shape t w (those new.tokens)) (sym r.tree) r.looked.after) r.group.alike r.group.some

-- after a look at the root by tokens that are there
pub all_caught_up_at_root : {w : Fields} {old new : GroupHeld} → AllLooked 0 w 0 old new → new.view.arrived ≢ 1 → new.view.tier ≡ 0
    → HaveCaughtUp new
all_caught_up_at_root {w} {old} {new} r some' own =
    let one = r.group.view.one in
    let within = r.group.view.within in
    (looked_at r own, inl (ap (λ (z : Fields). z.phase) (looked_word r) ∙ root_in_phase (beside_now r) (omega arith)))

-- after a look at the members' tier, below the root, which didn't lag
pub all_caught_up_by_look : {t : ℕ} {w : Fields} {old new : GroupHeld} → AllLooked t w 0 old new → t ≡ old.view.tier → t ≢ 0
    → old.view.arrived ≡ 0 → lags w new.view ≡ false → HaveCaughtUp new
all_caught_up_by_look {t} {w} {old} {new} r here below none still =
    let k = looked_yet r here none in
    let own : new.view.tier ≡ t = k.view.same.tier ∙ sym here in
    let one = r.group.view.one in
    let nobody : new.view.arrived ≡ 0 = none_now k none in
    let b = beside_now r in
    let going = (known_by new.tree.key.shape t w new.view b).below (omega arith) in
    (looked_at r own, inl (ap (λ (z : Fields). z.phase) (looked_word r) ∙ in_phase b r.group.view.rests own (omega arith) going still))

-- after the first token has brought the tier into its phase
refreshed_first : (k : Key) (t : ℕ) (w : Fields) (v : View) (l : List Sight) → 0 < length l → AreAlike k v l
    → ((first_of no_sight (first_stepped Refresh t w l)).tier ≡ t)
    × ((first_of no_sight (first_stepped Refresh t w l)).word.phase ≡ v.phase)
refreshed_first k t w v [] h alike = absurd (omega arith)
refreshed_first k t w v (x ∷ xs) h alike = (refl, ap (λ (u : View). u.phase) alike.0.1)

pub refreshed_caught_up : {one : TableId} {k : Key} {v : View} {count : ℕ} {w next : Fields} (me me' : Seat) → AreSeated me v count
    → HaveGone k v.tier w next me me' (first_stepped Refresh v.tier w me.0)
    → HaveCaughtUp (group_of one me' v)
refreshed_caught_up {one} {k} {v} {count} {w} {next} me me' seated g =
    let r = refreshed_first (sight_of me).key v.tier w v me.0 (let a = seated.long in let b = seated.some in omega arith) seated.alike in
    let p =
    subst (λ (l : List Sight). ((first_of no_sight l).tier ≡ v.tier) × ((first_of no_sight l).word.phase ≡ v.phase)) (sym g.now) r in
    (p.0, inl p.1)

-- after a lost try
pub lost_caught_up : {id one : TableId} {v u : View} {count : ℕ} {h : GroupHeld} {n : Named} {w z : Fields} (me me' : Seat)
    → AreSeated me v count → group_of id me v ≡ h → h.tree ≡ n → h.view.arrived ≡ 0 → CanRefresh h.view.tier w h.view → one ≡ id
    → HaveLost n.key v.tier w z me me' → u ≡ glanced v.tier z v → HaveCaughtUp (group_of one me' u)
lost_caught_up {id} {one} {v} {u} {count} {h} {n} {w} {z} me me' seated is own none can same lost at =
    let a : AllLost w z h (group_of one me' u) = all_lost me me' seated is own same lost at in
    let k = lost_keeps {n = n} {w = w} {z = z} me me' seated is own none same lost at in
    (looked_at a.looked k.view.same.tier, inr (h, w, z, can, a))
