-- The flat phaser that the table represents, and the cause of its end.
use Rattle.std.proofs.Common.{◌≡◌, ℕ, zero, suc, ◌+◌, ◌<◌, ◌==◌, ◌⊎◌, inl, inr, ⊎_elim, Bool, true, false, List, [], ◌∷◌, ◌++◌, length, set, replicate, refl, sym, ◌∙◌, ap, subst, arith, ne_eqb, get_or-set_same, length-append}
use Rattle.advance_rule.specs.Plan.{end_ends}
use Rattle.flat_phaser.specs.Flat.{registered}
use Rattle.phaser_word.specs.Fields.{Fields}
use Rattle.tier_steps.specs.declared.view.View.{View}
use Rattle.tier_steps.specs.declared.kind.Kind.{Kind}
use Rattle.tier_steps.specs.declared.kind.Kind.TheVariants.{Look, Glance, Refuse, Join, Arrive, Leave, Advance, Force, Claim, Settle, SettleBack, Climb, Refresh}
use Rattle.tier_steps.specs.Tally.{blank, word_at}
use Rattle.tier_steps.specs.Step.{word_after}
use Rattle.tier_steps.specs.Laws.{words_after}
use Rattle.tier_steps.specs.Image.{image}
use Rattle.tier_steps.specs.Start.{empty_words}
use Rattle.tier_steps.proofs.KindLaw.{ended_same}
use Rattle.tier_steps.proofs.Passing.{ended_passed}
use Rattle.tier_steps.proofs.Ready.{advances_are_due}
use Rattle.tier_steps.specs.declared.view.Passage.TheVariants.{Arrival, Departure}
use Rattle.tier_rule.specs.declared.sight.Key.{Key}
use Rattle.tier_rule.specs.declared.sight.Sight.{Sight}
use Rattle.tier_rule.specs.Reach.{cut_off, sat_sight, Reached, opens, steps, cuts, sits, joins, parts}
use Rattle.tier_rule.specs.Laws.{MayStep, EndsAreForcedOrPlanned, IsEnd, EndsHaveAStep, NewTreesAreEmpty}
use Rattle.std.specs.List.{AllByRecursion}
use mathlib.Core.Option.{some, some-injective, some-ne-none}
use lib.ListN.{get_elem?}
use Rattle.atomic_table.proofs.Lists.{set_else}
use Rattle.tier_rule.proofs.Seats.{amid}
use Rattle.tier_rule.proofs.Groups.{step_amid}

-- a step other than an advance or a force leaves the root's end
word_end : (kind : Kind) (t : ℕ) (w : Fields) (v : View) → ((ends : Bool) → kind ≡ Advance ends → ⊥) → (kind ≡ Force → ⊥)
    → (word_after kind t w v).ended ≡ w.ended
word_end Look t w v a f = refl
word_end Glance t w v a f = refl
word_end (Refuse tier claimed size) t w v a f = refl
word_end (Join tier claimed size) t w v a f = refl
word_end Arrive t w v a f = ended_passed t Arrival w
word_end Leave t w v a f = ended_passed t Departure w
word_end (Advance ends) t w v a f = absurd (a ends refl)
word_end Force t w v a f = absurd (f refl)
word_end (Claim tier claimed size) t w v a f = refl
word_end (Settle tier claimed size) t w v a f = refl
word_end (SettleBack tier claimed size) t w v a f = refl
word_end (Climb passage) t w v a f = ended_passed t passage w
word_end Refresh t w v a f = refl

root_end : (ws : List Fields) (kind : Kind) (t : ℕ) (v : View) → t < length ws → ((ends : Bool) → kind ≡ Advance ends → ⊥)
    → (kind ≡ Force → ⊥)
    → (word_at (words_after ws kind t v) 0).ended ≡ (word_at ws 0).ended
root_end ws kind t v h a f = ended_same ws t (word_after kind t (word_at ws t) v) h (word_end kind t (word_at ws t) v a f)

-- whether two numbers are 0 is one question if each is 0 with the other
same_zero : (m n : ℕ) → (m ≡ 0 → n ≡ 0) → (n ≡ 0 → m ≡ 0) → (m == 0) ≡ (n == 0)
same_zero zero zero a b = refl
same_zero zero (suc n) a b = absurd (let z = a refl in omega arith)
same_zero (suc m) zero a b = absurd (let z = b refl in omega arith)
same_zero (suc m) (suc n) a b = ne_eqb (suc m) 0 (λ e. omega arith) ∙ sym (ne_eqb (suc n) 0 (λ e. omega arith))

root_set : (ws : List Fields) (t : ℕ) (w : Fields) → t ≡ 0 → t < length ws → (word_at (set ws t w) 0).ended ≡ w.ended
root_set ws t w z h =
    ap (λ (n : ℕ). (word_at (set ws n w) 0).ended) z
    ∙ ap (λ (u : Fields). u.ended) (get_or-set_same ws 0 w blank (subst (λ (n : ℕ). n < length ws) z h))

pub ends_are_forced_or_planned : EndsAreForcedOrPlanned
ends_are_forced_or_planned k ws vs id t f x b Look m = root_end ws Look t x.view m.within (λ e p. absurd (cc)) (λ p. absurd (cc))
ends_are_forced_or_planned k ws vs id t f x b Glance m = root_end ws Glance t x.view m.within (λ e p. absurd (cc)) (λ p. absurd (cc))
ends_are_forced_or_planned k ws vs id t f x b (Refuse tier claimed size) m =
    root_end ws (Refuse tier claimed size) t x.view m.within (λ e p. absurd (cc)) (λ p. absurd (cc))
ends_are_forced_or_planned k ws vs id t f x b (Join tier claimed size) m =
    root_end ws (Join tier claimed size) t x.view m.within (λ e p. absurd (cc)) (λ p. absurd (cc))
ends_are_forced_or_planned k ws vs id t f x b Arrive m = root_end ws Arrive t x.view m.within (λ e p. absurd (cc)) (λ p. absurd (cc))
ends_are_forced_or_planned k ws vs id t f x b Leave m = root_end ws Leave t x.view m.within (λ e p. absurd (cc)) (λ p. absurd (cc))
ends_are_forced_or_planned k ws vs id t f x b (Advance ends) m =
    let a = amid vs id f x b m.seat in
    let ready = advances_are_due k.shape ws a.front x.view a.back t ends (step_amid k ws vs id t f x b (Advance ends) m) in
    let none = same_zero (word_at ws 0).parties (registered (image ws (a.front ++ x.view ∷ a.back))) ready.nobody.0 ready.nobody.1 in
    let z : t ≡ 0 = m.needs.0 in
    root_set ws t (word_after (Advance ends) t (word_at ws t) x.view) z m.within
    ∙ (m.says ∙ (ap (λ (n : ℕ). end_ends k.plan (word_at ws n).phase ((word_at ws n).parties == 0)) z
    ∙ (ap (λ (z : Bool). end_ends k.plan (word_at ws 0).phase z) none
    ∙ ap (λ (us : List View). end_ends k.plan (word_at ws 0).phase (registered (image ws us) == 0)) (sym a.is))))
ends_are_forced_or_planned k ws vs id t f x b Force m = root_set ws t (word_after Force t (word_at ws t) x.view) m.needs m.within
ends_are_forced_or_planned k ws vs id t f x b (Claim tier claimed size) m =
    root_end ws (Claim tier claimed size) t x.view m.within (λ e p. absurd (cc)) (λ p. absurd (cc))
ends_are_forced_or_planned k ws vs id t f x b (Settle tier claimed size) m =
    root_end ws (Settle tier claimed size) t x.view m.within (λ e p. absurd (cc)) (λ p. absurd (cc))
ends_are_forced_or_planned k ws vs id t f x b (SettleBack tier claimed size) m =
    root_end ws (SettleBack tier claimed size) t x.view m.within (λ e p. absurd (cc)) (λ p. absurd (cc))
ends_are_forced_or_planned k ws vs id t f x b (Climb passage) m =
    root_end ws (Climb passage) t x.view m.within (λ e p. absurd (cc)) (λ p. absurd (cc))
ends_are_forced_or_planned k ws vs id t f x b Refresh m = root_end ws Refresh t x.view m.within (λ e p. absurd (cc)) (λ p. absurd (cc))

-- the root of a new tree goes on
pub open_at_first : (shape : List ℕ) (phase : ℕ) → (word_at (empty_words shape phase) 0).ended ≡ false
open_at_first [] phase = refl
open_at_first (p ∷ ps) phase = refl

pub ends_have_a_step : EndsHaveAStep
ends_have_a_step k ws vs (opens x shape small is) ended = absurd (let a = sym ended ∙ open_at_first k.shape k.phase in cc)
ends_have_a_step k ws vs (steps us ts id t tries f b x y kind r at within needs says own is few) ended =
    let m : MayStep k us ts id t f x b kind = record { reached = r; seat = at; within = within; needs = needs; says = says } in
    elim (word_at us 0).ended as (λ c. (word_at us 0).ended ≡ c → IsEnd k) [
      | true ↦ λ e. ends_have_a_step k us ts r e
      | false ↦ λ e. record {
        words = us;
        seats = ts;
        id = id;
        tier = t;
        front = f;
        sight = x;
        back = b;
        kind = kind;
        may = m;
        going = e;
        ends = sym (ends_are_forced_or_planned k us ts id t f x b kind m) ∙ ended;
      }
    ] refl
ends_have_a_step k ws vs (cuts us ts id l r at) ended = ends_have_a_step k us ts r ended
ends_have_a_step k ws vs (sits us ts id n r at) ended = ends_have_a_step k us ts r ended
ends_have_a_step k ws vs (joins us ts id other l m r at apart there) ended = ends_have_a_step k us ts r ended
ends_have_a_step k ws vs (parts us ts id x l y m r at) ended = ends_have_a_step k us ts r ended

-- a sight that is not that of a new tree's first token
abbrev IsUsed : Sight → Type 0
IsUsed x = x.steps ≡ [] → x.opened ≡ 0 → ⊥

abbrev AreUsed : List Sight → Type 0
AreUsed l = AllByRecursion IsUsed l

-- nothing has been done yet, or each sight is used
record IsFirst (k : Key) (ws : List Fields) (vs : List (List Sight)) : Type 0 where
  sight : Sight
  words : ws ≡ empty_words k.shape k.phase
  alone : vs ≡ (sight ∷ []) ∷ []

abbrev FirstOrUsed : Key → List Fields → List (List Sight) → Type 0
FirstOrUsed k ws vs = IsFirst k ws vs ⊎ AllByRecursion AreUsed vs

module _ {A : Type 0} (P : A → Type 0) where
  pub all_at : (ls : List A) (i : ℕ) (l : A) → get_elem? ls i ≡ some l → AllByRecursion P ls → P l
  all_at [] i l at all = absurd (some-ne-none l (sym at))
  all_at (m ∷ ls) zero l at all = subst P (some-injective m l at) all.0
  all_at (m ∷ ls) (suc i) l at all = all_at ls i l at all.1

  pub all_put : (ls : List A) (i : ℕ) (l : A) → P l → AllByRecursion P ls → AllByRecursion P (set ls i l)
  all_put [] i l p all = tt
  all_put (m ∷ ls) zero l p all = (p, all.1)
  all_put (m ∷ ls) (suc i) l p all = (all.0, all_put ls i l p all.1)

  pub all_both : (ls ms : List A) → AllByRecursion P ls → AllByRecursion P ms → AllByRecursion P (ls ++ ms)
  all_both [] ms a b = b
  all_both (l ∷ ls) ms a b = (a.0, all_both ls ms a.1 b)

  pub all_parts : (ls ms : List A) → AllByRecursion P (ls ++ ms) → AllByRecursion P ls × AllByRecursion P ms
  all_parts [] ms a = (tt, a)
  all_parts (l ∷ ls) ms a = let r = all_parts ls ms a.1 in ((a.0, r.0), r.1)

-- the seats of a new tree are one
only_one : (x : Sight) (id : ℕ) (l : List Sight) → get_elem? ((x ∷ []) ∷ []) id ≡ some l → (id ≡ 0) × (l ≡ x ∷ [])
only_one x zero l at = (refl, sym (some-injective (x ∷ []) l at))
only_one x (suc id) l at = absurd (some-ne-none l (sym at))

at_first : {k : Key} {ws : List Fields} {vs : List (List Sight)} → (f : IsFirst k ws vs) → (id : ℕ) (l : List Sight)
    → get_elem? vs id ≡ some l → (id ≡ 0) × (l ≡ f.sight ∷ [])
at_first {k} {ws} {vs} f id l at = only_one f.sight id l (sym (ap (λ (us : List (List Sight)). get_elem? us id) f.alone) ∙ at)

-- if a seat of a new tree becomes used, all are
used_first : {k : Key} {ws : List Fields} {vs : List (List Sight)} → (f : IsFirst k ws vs) → (id : ℕ) (l m : List Sight)
    → get_elem? vs id ≡ some l → AreUsed m → AllByRecursion AreUsed (set vs id m)
used_first {k} {ws} {vs} f id l m at used =
    subst (λ (us : List (List Sight)). AllByRecursion AreUsed (set us id m)) (sym f.alone)
    (subst (λ (i : ℕ). AllByRecursion AreUsed (set ((f.sight ∷ []) ∷ []) i m)) (sym (at_first f id l at).0) (used, tt))

used_now : {k : Key} {ws : List Fields} {vs : List (List Sight)} (id : ℕ) (l m : List Sight) → get_elem? vs id ≡ some l → AreUsed m
    → FirstOrUsed k ws vs → AllByRecursion AreUsed (set vs id m)
used_now {k} {ws} {vs} id l m at used before =
    ⊎_elim (λ (f : IsFirst k ws vs). used_first f id l m at used) (λ (all : AllByRecursion AreUsed vs). all_put AreUsed vs id m used all)
    before

stepped_used : (kind : Kind) (x y : Sight) → y.steps ≡ kind ∷ x.steps → IsUsed y
stepped_used kind x y e n z = let a : 0 ≡ suc (length x.steps) = ap length (sym n ∙ e) in omega arith

cut_used : (l : List Sight) → AreUsed l → AreUsed (cut_off l)
cut_used [] all = tt
cut_used (x ∷ xs) all = ((λ n z. absurd (omega arith)), all.1)

cut_first : (x : Sight) → AreUsed (cut_off (x ∷ []))
cut_first x = ((λ n z. absurd (omega arith)), tt)

sat_used : (w : Fields) (k : Key) (n : ℕ) → AreUsed (replicate n (sat_sight k w))
sat_used w k zero = tt
sat_used w k (suc n) = ((λ e z. let a : 1 ≡ 0 = ap length e in omega arith), sat_used w k n)

-- a step by one token leaves the others
step_used : (f b : List Sight) (x y : Sight) → IsUsed y → AreUsed (f ++ x ∷ b) → AreUsed (f ++ y ∷ b)
step_used [] b x y u all = (u, all.1)
step_used (z ∷ f) b x y u all = (all.0, step_used f b x y u all.1)

step_first : (f b : List Sight) (x y z : Sight) → IsUsed y → f ++ x ∷ b ≡ z ∷ [] → AreUsed (f ++ y ∷ b)
step_first [] [] x y z u e = (u, tt)
step_first [] (c ∷ b) x y z u e = absurd (let a = ap length e in omega arith)
step_first (c ∷ f) b x y z u e =
    absurd
    (let a : suc (length (f ++ x ∷ b)) ≡ 1 = ap length e in
    let n : length (f ++ x ∷ b) ≡ length f + suc (length b) = length-append f (x ∷ b) in
    omega arith)

longer : (x : Sight) (l : List Sight) (y : Sight) (m : List Sight) (z : Sight) → x ∷ (l ++ y ∷ m) ≡ z ∷ [] → ⊥
longer x l y m z e = let a : suc (length (l ++ y ∷ m)) ≡ 1 = ap length e in
    let n : length (l ++ y ∷ m) ≡ length l + suc (length m) = length-append l (y ∷ m) in
    omega arith

first_or_used : (k : Key) (ws : List Fields) (vs : List (List Sight)) → Reached k ws vs → FirstOrUsed k ws vs
first_or_used k ws vs (opens x shape small is) = inl (record { sight = x; words = refl; alone = refl })
first_or_used k ws vs (steps us ts id t tries f b x y kind r at within needs says own is few) =
    let used = stepped_used kind x y is.steps in
    inr (⊎_elim
    (λ (g : IsFirst k us ts). used_first g id (f ++ x ∷ b) (f ++ y ∷ b) at (step_first f b x y g.sight used (at_first g id (f ++ x ∷ b) at).1))
    (λ (all : AllByRecursion AreUsed ts). all_put AreUsed ts id (f ++ y ∷ b) (step_used f b x y used (all_at AreUsed ts id (f ++ x ∷ b) at all)) all)
    (first_or_used k us ts r))
first_or_used k ws vs (cuts us ts id l r at) =
    inr (all_both AreUsed (set ts id (cut_off l)) ([] ∷ [])
    (⊎_elim
    (λ (g : IsFirst k us ts). used_first g id l (cut_off l) at (subst (λ (m : List Sight). AreUsed (cut_off m)) (sym (at_first g id l at).1) (cut_first g.sight)))
    (λ (all : AllByRecursion AreUsed ts). all_put AreUsed ts id (cut_off l) (cut_used l (all_at AreUsed ts id l at all)) all)
    (first_or_used k us ts r))
    (tt, tt))
first_or_used k ws vs (sits us ts id n r at) =
    inr (used_now id [] (replicate n (sat_sight k (word_at us 0))) at (sat_used (word_at us 0) k n) (first_or_used k us ts r))
first_or_used k ws vs (joins us ts id other l m r at apart there) =
    ⊎_elim
    (λ (f : IsFirst k us ts).
    let z = (at_first f id l at).0 in
    let o = (at_first f other m (sym (set_else ts id other (l ++ m) apart) ∙ there)).0 in
    absurd (apart (o ∙ sym z)))
    (λ (all : AllByRecursion AreUsed ts).
    let mine = all_at AreUsed ts id l at all in
    let others = all_at AreUsed ts other m (sym (set_else ts id other (l ++ m) apart) ∙ there) all in
    inr (all_put AreUsed (set ts id (l ++ m)) other [] tt (all_put AreUsed ts id (l ++ m) (all_both IsUsed l m mine others) all)))
    (first_or_used k us ts r)
first_or_used k ws vs (parts us ts id x l y m r at) =
    ⊎_elim
    (λ (g : IsFirst k us ts). absurd (longer x l y m g.sight (at_first g id (x ∷ (l ++ y ∷ m)) at).1))
    (λ (all : AllByRecursion AreUsed ts).
    let both = all_at AreUsed ts id (x ∷ (l ++ y ∷ m)) at all in
    let parted = all_parts IsUsed l (y ∷ m) both.1 in
    inr (all_both AreUsed (set ts id (x ∷ l)) ((y ∷ m) ∷ []) (all_put AreUsed ts id (x ∷ l) (both.0, parted.0) all) (parted.1, tt)))
    (first_or_used k us ts r)

pub new_trees_are_empty : NewTreesAreEmpty
new_trees_are_empty k ws vs id x r at no_step none =
    ⊎_elim
    (λ (f : IsFirst k ws vs). (f.words, f.alone ∙ ap (λ (l : List Sight). l ∷ []) (sym (at_first f id (x ∷ []) at).1)))
    (λ (all : AllByRecursion AreUsed vs). absurd ((all_at AreUsed vs id (x ∷ []) at all).0 no_step none))
    (first_or_used k ws vs r)
