-- One access to a word by all tokens of a seat keeps the rule.
use Rattle.std.proofs.Common.{◌≡◌, ℕ, ◌<◌, ◌≤◌, Bool, false, List, [], ◌∷◌, ◌++◌, map, length, get_or, set, ◌==◌, replicate, refl, ap, sym, ◌∙◌, subst, arith, eq-eqb, ne_eqb}
use mathlib.Core.Option.{none, some}
use mathlib.Core.Logic.{dite}
use native.Mathlib.Decide.{ℕ_discrete}
use lib.ListN.{get_elem?}
use lib.Seq.{map-set}
use prog.Atomic.{either}
use Rattle.atomic_table.specs.Table.{step, keeps, stepped, Allows, Splits}
use Rattle.phaser_word.specs.Fields.{Fields, IsLegal}
use Rattle.phaser_word.specs.Packed.{packed}
use Rattle.tier_steps.specs.declared.view.View.{View}
use Rattle.tier_steps.specs.declared.kind.Kind.{Kind}
use Rattle.tier_steps.specs.View.{new_view}
use Rattle.tier_steps.specs.Tally.{blank, word_at}
use Rattle.tier_steps.specs.Step.{Needs, word_after}
use Rattle.tier_rule.specs.declared.sight.Key.{Key}
use Rattle.tier_rule.specs.declared.sight.Sight.{Sight}
use Rattle.tier_rule.specs.Reach.{those, sat_sight, cut_off, PlanSays, is_join, Reached, cuts, sits, parts, Kept}
use Rattle.tier_rule.specs.Group.{stepped_sight, Goes, stays, moves, passes, follows, AreOf, AreAlike, after_many, all_stepped, Among, AreReached, looked_all, SawAll, WentOrLooked, SatAll}
use Rattle.std.proofs.lemmas.List.{get_or-set_same}
use Rattle.tier_rule.proofs.Packing.{packed_once}
use Rattle.tier_rule.proofs.Seats.{at_inside}
use Rattle.tier_rule.proofs.Reaching.{those-replicate, reached_states_tally}
use Rattle.atomic_table.proofs.Lists.{set_here}
use Rattle.tier_rule.proofs.Going.{goes_on, looks_go, among, still_inside}
use Rattle.tier_rule.proofs.Allowed.{St, found, same_number}

-- a table after some tokens' steps
record Leaves (s : St) (k : Key) (id t left : ℕ) (w u : Fields) (l m : List Sight) : Type 0 where
  kept : Kept k (stepped s t left id [] m keeps)
  before : Among k.shape t w (those l)
  after : Among k.shape t u (those m)
  found : AreReached k t w l

leaves : (s : St) (k : Key) (id t left : ℕ) (w u : Fields) (l m : List Sight) (kept : Kept k s) → get_elem? s.views id ≡ some l
    → t < length k.shape → word_at kept.words t ≡ w → left ≡ packed u
    → Goes k t w l u m → Leaves s k id t left w u l m
leaves s k id t left w u l m kept at inside here to g =
    let ws : List Fields = kept.words in
    let tally = reached_states_tally k ws s.views kept.reached in
    let within : t < length ws = let long = tally.long in omega arith in
    let r : Reached k (set ws t u) (set s.views id m) = goes_on k t w u l m g [] ws s.views id kept.reached at within here in
    record {
      kept = record {
        words = set ws t u;
        packed = ap (λ (ns : List ℕ). set ns t left) kept.packed ∙ (ap (set (map packed ws) t) to ∙ sym (map-set packed ws t u));
        reached = r;
      };
      before = among k ws s.views id t l w kept.reached at within here;
      after =
          among k (set ws t u) (set s.views id m) id t m u r (set_here s.views id m (at_inside s.views id l at))
          (still_inside ws t u within) (get_or-set_same ws t u blank within);
      found = record { words = ws; seats = s.views; reached = kept.reached; within = within; word = here; id = id; seat = at };
    }

-- all tokens of a seat look
pub looks_all_allow : (k : Key) (slots id t : ℕ) (l : List Sight) → t < length k.shape → AreOf k l
    → Allows (Kept k) slots id (l, []) t (λ n. n) (SawAll k (step slots t 0 0 none) (l, []))
looks_all_allow k slots id t l inside own s kept long at small =
    let w : Fields = word_at kept.words t in
    let f = found s k t kept inside in
    let m : List Sight = looked_all t w 0 l in
    let a = leaves s k id t (get_or s.words t 0) w w l m kept at inside refl f.number (looks_go k t w 0 (omega arith) l own) in
    (m, keeps, tt, a.kept, (w, f.legal, f.number, m, refl, record { all = refl; before = a.before; after = a.after; found = a.found }))

-- several steps by one exchange, or a look of all
pub together_allow : (k : Key) (slots id old new t : ℕ) (w u : Fields) (l m : List Sight) → t < length k.shape → AreOf k l → IsLegal w
    → old ≡ packed w → new ≡ packed u → Goes k t w l u m
    → Allows (Kept k) slots id (l, []) t (λ n. either (n == old) new n) (WentOrLooked k w u m (step slots t old new none) (l, []))
together_allow k slots id old new t w u l m inside own legal is to g s kept long at small =
    let n : ℕ = get_or s.words t 0 in
    let z : Fields = word_at kept.words t in
    let f = found s k t kept inside in
    dite (ℕ_discrete n old)
    (λ hit.
    let here : z ≡ w = packed_once z w f.legal legal (sym f.number ∙ (hit ∙ is)) in
    let a = leaves s k id t new w u l m kept at inside here to g in (
      m,
      keeps,
      tt,
      subst (λ (b : Bool). Kept k (stepped s t (either b new n) id [] m keeps)) (sym (eq-eqb n old hit)) a.kept,
      record { won = λ h. (refl, a.before, a.after); lost = λ miss. absurd (miss hit) },
    ))
    (λ miss.
    let p : List Sight = looked_all t z 1 l in
    let a = leaves s k id t n z z l p kept at inside refl f.number (looks_go k t z 1 (omega arith) l own) in (
      p,
      keeps,
      tt,
      subst (λ (b : Bool). Kept k (stepped s t (either b new n) id [] p keeps)) (sym (ne_eqb n old miss)) a.kept,
      record {
        won = λ h. absurd (miss h);
        lost =
            λ h. (
              z,
              f.legal,
              f.number,
              (λ e. h (f.number ∙ (ap packed e ∙ sym is))),
              p,
              refl,
              record { all = refl; before = a.before; after = a.after; found = a.found },
            );
      },
    ))

-- a new seat becomes that of several new tokens
pub sits_all_allow : (k : Key) (slots id count : ℕ) → 0 < length k.shape
    → Allows (Kept k) slots id ([], []) 0 (λ n. n) (SatAll k count (step slots 0 0 0 none) ([], []))
sits_all_allow k slots id count inside s kept long at small =
    let w : Fields = word_at kept.words 0 in
    let f = found s k 0 kept inside in
    let m : List Sight = replicate count (sat_sight k w) in
    let r : Reached k kept.words (set s.views id m) = sits kept.words s.views id count kept.reached at in
    let tally = reached_states_tally k kept.words s.views kept.reached in
    let b : Among k.shape 0 w (replicate count (new_view w.phase)) =
    subst (λ (us : List View). Among k.shape 0 w us) (those-replicate count (sat_sight k w))
    (among k kept.words (set s.views id m) id 0 m w r (set_here s.views id m (at_inside s.views id [] at)) tally.some refl) in (
      m,
      keeps,
      tt,
      record { words = kept.words; packed = same_number s.words ∙ kept.packed; reached = r },
      λ is. (w, f.legal, f.number, refl, b),
    )

-- a new seat is split off any seat
pub cuts_any : (k : Key) (id : ℕ) (l : List Sight) → Splits (Kept k) id l (cut_off l) []
cuts_any k id l s kept at = record { words = kept.words; packed = kept.packed; reached = cuts kept.words s.views id l kept.reached at }

-- a seat parts with the last of its tokens
pub parts_any : (k : Key) (id : ℕ) (x : Sight) (l : List Sight) (y : Sight) (m : List Sight)
    → Splits (Kept k) id (x ∷ (l ++ y ∷ m)) (x ∷ l) (y ∷ m)
parts_any k id x l y m s kept at =
    record { words = kept.words; packed = kept.packed; reached = parts kept.words s.views id x l y m kept.reached at }

parts_by : (k : Key) (id : ℕ) (f b : List Sight) → 0 < length f → 0 < length b → Splits (Kept k) id (f ++ b) f b
parts_by k id [] b front_some back_some = absurd (omega arith)
parts_by k id (x ∷ l) [] front_some back_some = absurd (omega arith)
parts_by k id (x ∷ l) (y ∷ m) front_some back_some = parts_any k id x l y m

pub parts_at : (k : Key) (id : ℕ) (l f b : List Sight) → l ≡ f ++ b → 0 < length f → 0 < length b → Splits (Kept k) id l f b
parts_at k id l f b is front_some back_some =
    subst (λ (n : List Sight). Splits (Kept k) id n f b) (sym is) (parts_by k id f b front_some back_some)

-- each of some tokens with one view takes a step of one kind
pub sweep : (k : Key) (kind : Kind) (tries t : ℕ) (v : View) (w : Fields) (l : List Sight) → tries ≤ 1 → (is_join kind ≡ false → tries ≡ 1)
    → AreAlike k v l
    → ((n : ℕ) → n < length l → Needs k.shape kind t (after_many kind t v w n) v × PlanSays k kind (after_many kind t v w n))
    → Goes k t w l (after_many kind t v w (length l)) (all_stepped kind tries t v w l)
sweep k kind tries t v w [] few tried alike may = stays w []
sweep k kind tries t v w (x ∷ xs) few tried alike may =
    let n : ℕ = length xs in
    let u : Fields = after_many kind t v w n in
    let z : Fields = word_after kind t u v in
    let ys : List Sight = all_stepped kind tries t v w xs in
    let y : Sight = stepped_sight kind t u tries x in
    let can = may n (omega arith) in
    follows w u z (x ∷ xs) (x ∷ ys) (y ∷ ys)
    (passes w u x xs ys (sweep k kind tries t v w xs few tried alike.1 (λ i h. may i (omega arith))))
    (moves u z x ys (y ∷ ys) kind tries (subst (λ (a : View). Needs k.shape kind t u a) (sym alike.0.1) can.0) can.1 alike.0.0
    (record { few = few; changes = λ c. tried })
    (subst (λ (a : View). Goes k t (word_after kind t u a) (y ∷ ys) z (y ∷ ys)) (sym alike.0.1) (stays z (y ∷ ys))))

-- tokens in front go while those behind stay, and the other way round
pub front_goes : (k : Key) (t : ℕ) (w u : Fields) (l m b : List Sight) → Goes k t w l u m → Goes k t w (l ++ b) u (m ++ b)
front_goes k t w u l m b (stays w' l') = stays w' (l' ++ b)
front_goes k t w u l m b (moves w' u' x c m' kind tries needs says own few rest) =
    moves w' u' x (c ++ b) (m' ++ b) kind tries needs says own few
    (front_goes k t (word_after kind t w' x.view) u' (stepped_sight kind t w' tries x ∷ c) m' b rest)
front_goes k t w u l m b (passes w' u' x c m' rest) = passes w' u' x (c ++ b) (m' ++ b) (front_goes k t w' u' c m' b rest)
front_goes k t w u l m b (follows w' u' z l' m' n g h) =
    follows w' u' z (l' ++ b) (m' ++ b) (n ++ b) (front_goes k t w' u' l' m' b g) (front_goes k t u' z m' n b h)

pub back_goes : (k : Key) (t : ℕ) (w u : Fields) (f l m : List Sight) → Goes k t w l u m → Goes k t w (f ++ l) u (f ++ m)
back_goes k t w u [] l m g = g
back_goes k t w u (x ∷ f) l m g = passes w u x (f ++ l) (f ++ m) (back_goes k t w u f l m g)
