-- Each step on the table keeps its rule.
use Rattle.std.proofs.Common.{◌≡◌, ℕ, zero, suc, ◌+◌, ◌<◌, ◌⊎◌, inl, inr, ⊎_elim, Bool, true, false, cond, List, [], ◌∷◌, ◌++◌, map, length, get_or, set, ◌==◌, ◌≤◌, ◌||◌, not, refl, ap, sym, ◌∙◌, subst, arith, length-set, get_or-set_same, eq-eqb, ne_eqb, append_assoc}
use Rattle.std.proofs.lemmas.Bool.{eqb-true, ltb-true}
use mathlib.Core.Option.{none, some}
use mathlib.Core.Logic.{dite}
use native.Mathlib.Decide.{ℕ_discrete}
use lib.ListN.{get_elem?}
use lib.Seq.{map-set}
use prog.Atomic.{either}
use Rattle.atomic_table.specs.Table.{State, Me, step, keeps, stepped, Allows, Splits, Joins, opening}
use Rattle.phaser_word.specs.Fields.{Fields, IsLegal}
use Rattle.phaser_word.specs.Packed.{packed}
use Rattle.tier_shape.specs.Paths.{IsTiers}
use Rattle.tier_steps.specs.declared.view.View.{View}
use Rattle.tier_steps.specs.declared.kind.Kind.{Kind}
use Rattle.tier_steps.specs.declared.kind.Kind.TheVariants.{Look, Glance, Refuse, Join, Arrive, Leave, Advance, Force, Claim, Settle, SettleBack, Climb, Refresh}
use Rattle.tier_steps.specs.View.{new_view}
use Rattle.tier_steps.specs.Tally.{blank, word_at, Tallies}
use Rattle.tier_steps.specs.Step.{Needs, Refuses, IsDue, added, word_after}
use Rattle.tier_steps.specs.Laws.{words_after}
use Rattle.tier_steps.specs.Start.{empty_word, empty_words}
use Rattle.tier_rule.specs.declared.sight.Key.{Key}
use Rattle.tier_rule.specs.declared.sight.Sight.{Sight}
use Rattle.tier_rule.specs.Look.{glance, refusing, looking, turns_away, MayLook}
use Rattle.tier_rule.specs.Reach.{first_sight, first_sights, sat_sight, cut_once, PlanSays, IsTried, Reached, opens, steps, cuts, sits, joins, parts, Kept}
use Rattle.tier_rule.specs.Group.{stepped_sight as after}
use Rattle.tier_rule.specs.Run.{IsReached}
use Rattle.tier_rule.specs.Tell.{Beside, Stepped, Tried, Saw, Sat, SawBoth}
use Rattle.flat_phaser.proofs.Everyone.{both_true}
use Rattle.tier_steps.specs.Word.{is_being_opened}
use Rattle.tier_core.specs.Turn.{has_no_room, is_refusing}
use Rattle.tier_rule.proofs.Packing.{packed_once}
use Rattle.tier_rule.proofs.Seats.{around}
use Rattle.tier_rule.proofs.Seats.{beside as around_new}
use Rattle.tier_rule.proofs.Reaching.{shaped, same_words, reached_states_tally}
use Rattle.tier_rule.proofs.Going.{goes_on, looks_go}

abbrev pub St : Type 0
St = State Kind (List Sight)

pub word_number : (ws : List Fields) (t : ℕ) → t < length ws → get_or (map packed ws) t 0 ≡ packed (word_at ws t)
word_number [] t h = absurd (omega arith)
word_number (w ∷ ws) zero h = refl
word_number (w ∷ ws) (suc t) h = word_number ws t (omega arith)

or_parts : (a b : Bool) → (a || b) ≡ true → (a ≡ true) ⊎ (b ≡ true)
or_parts true b e = inl refl
or_parts false b e = inr e

not_true : (b : Bool) → not b ≡ true → b ≡ false
not_true false e = refl
not_true true e = sym e

refuses : (more : ℕ) (w : Fields) → turns_away more w ≡ true → Refuses more w
refuses more w e =
    let a = both_true (not w.ended) (is_refusing more w) e in (
      not_true w.ended a.0,
      ⊎_elim
          (λ (b : has_no_room more w ≡ true). inl (ltb-true 65535 (w.parties + more) b))
          (λ (b : ((w.unarrived == 0) || is_being_opened w) ≡ true). ⊎_elim
          (λ (c : (w.unarrived == 0) ≡ true). inr (inl (eqb-true w.unarrived 0 c)))
          (λ (c : is_being_opened w ≡ true). inr (inr c))
          (or_parts (w.unarrived == 0) (is_being_opened w) b))
          (or_parts (has_no_room more w) ((w.unarrived == 0) || is_being_opened w) a.1),
    )

-- a kind of look that may be taken
pub record IsLook (k : Key) (t : ℕ) (w : Fields) (v : View) (kind : Kind) : Type 0 where
  pub stays : word_after kind t w v ≡ w
  pub needs : Needs k.shape kind t w v
  pub says : PlanSays k kind w

glances : (k : Key) (t : ℕ) (w : Fields) (v : View) → IsLook k t w v (glance t)
glances k zero w v = record { stays = refl; needs = refl; says = tt }
glances k (suc t) w v = record { stays = refl; needs = omega arith; says = tt }

refusals : (k : Key) (t : ℕ) (w : Fields) (v : View) (tier claimed size : ℕ) → IsDue k.shape tier claimed size t v
    → IsLook k t w v (refusing t tier claimed size w)
refusals k t w v tier claimed size due = go (turns_away (added claimed size) w) refl
  where
    go : (b : Bool) → turns_away (added claimed size) w ≡ b → IsLook k t w v (cond b (Refuse tier claimed size) (glance t))
    go true e = record { stays = refl; needs = (due, refuses (added claimed size) w e); says = tt }
    go false e = glances k t w v

pub is_look : (k : Key) (kind : Kind) (t : ℕ) (w : Fields) (v : View) → MayLook k.shape kind t v → IsLook k t w v (looking kind t w)
is_look k Look t w v may = glances k t w v
is_look k Glance t w v may = glances k t w v
is_look k (Refuse tier claimed size) t w v may = glances k t w v
is_look k (Join tier claimed size) t w v may = refusals k t w v tier claimed size may
is_look k Arrive t w v may = glances k t w v
is_look k Leave t w v may = glances k t w v
is_look k (Advance ends) t w v may = glances k t w v
is_look k Force t w v may = glances k t w v
is_look k (Claim tier claimed size) t w v may = refusals k t w v tier claimed size may
is_look k (Settle tier claimed size) t w v may = glances k t w v
is_look k (SettleBack tier claimed size) t w v may = glances k t w v
is_look k (Climb passage) t w v may = glances k t w v
is_look k Refresh t w v may = glances k t w v

-- a step that may be taken may be lost
pub may_look : (ps : List ℕ) (kind : Kind) (t : ℕ) (w : Fields) (v : View) → Needs ps kind t w v → MayLook ps kind t v
may_look ps Look t w v n = tt
may_look ps Glance t w v n = tt
may_look ps (Refuse tier claimed size) t w v n = tt
may_look ps (Join tier claimed size) t w v n = n.0
may_look ps Arrive t w v n = tt
may_look ps Leave t w v n = tt
may_look ps (Advance ends) t w v n = tt
may_look ps Force t w v n = tt
may_look ps (Claim tier claimed size) t w v n = n.0
may_look ps (Settle tier claimed size) t w v n = tt
may_look ps (SettleBack tier claimed size) t w v n = tt
may_look ps (Climb passage) t w v n = tt
may_look ps Refresh t w v n = tt

-- what a step finds
found_at : (k : Key) (ws : List Fields) (vs : List (List Sight)) (id t : ℕ) (w : Fields) (f : List Sight) (x : Sight) (b : List Sight)
    → Reached k ws vs → get_elem? vs id ≡ some (f ++ x ∷ b) → t < length ws → word_at ws t ≡ w → IsReached k t w x
found_at k ws vs id t w f x b r at inside here =
    record {
      words = ws;
      seats = vs;
      reached = r;
      within = inside;
      word = here;
      stands = record { id = id; front = f; back = b; seat = at };
    }

-- a step of this kind at the tier t
record Moves (s : St) (id t : ℕ) (kind : Kind) (w : Fields) (tries left : ℕ) (x : Sight) : Type 0 where
  kept : Kept x.key (stepped s t left id [] (after kind t w tries x ∷ []) keeps)
  step : Stepped kind t w tries x (after kind t w tries x)

moves_here : (s : St) (id t tries left : ℕ) (x : Sight) (kind : Kind) (kept : Kept x.key s) → IsTried kind t (word_at kept.words t) tries x
    → get_elem? s.views id ≡ some (x ∷ []) → t < length x.key.shape
    → left ≡ packed (word_after kind t (word_at kept.words t) x.view)
    → Needs x.key.shape kind t (word_at kept.words t) x.view → PlanSays x.key kind (word_at kept.words t)
    → Moves s id t kind (word_at kept.words t) tries left x
moves_here s id t tries left x kind kept few at inside new needs says =
    let k : Key = x.key in
    let ws : List Fields = kept.words in
    let w : Fields = word_at ws t in
    let y : Sight = after kind t w tries x in
    let a = around s.views id x at in
    let tally = reached_states_tally k ws s.views kept.reached in
    let long = tally.long in
    let within : t < length ws = omega arith in
    let r : Reached k (words_after ws kind t x.view) (set s.views id (y ∷ [])) =
    steps ws s.views id t tries [] [] x y kind kept.reached at within needs says refl
    (record { key = refl; view = refl; tier = refl; word = refl; tried = refl; steps = refl; opened = refl }) few in
    let same : length (words_after ws kind t x.view) ≡ length ws = length-set ws t (word_after kind t w x.view) in
    record {
      kept = record {
        words = words_after ws kind t x.view;
        packed = ap (λ (ns : List ℕ). set ns t left) kept.packed
            ∙ (ap (set (map packed ws) t) new ∙ sym (map-set packed ws t (word_after kind t w x.view)));
        reached = r;
      };
      step = record {
        key = refl;
        view = refl;
        tier = refl;
        word = refl;
        tried = refl;
        steps = refl;
        opened = refl;
        before = record {
          words = ws;
          front = a.front;
          back = a.back;
          shape = shaped k ws s.views kept.reached;
          within = within;
          word = refl;
          tally = subst (λ (vs : List View). Tallies k.shape ws vs) a.is tally;
        };
        after = record {
          words = words_after ws kind t x.view;
          front = a.front;
          back = a.back;
          shape = shaped k ws s.views kept.reached;
          within = omega arith;
          word = get_or-set_same ws t (word_after kind t w x.view) blank within;
          tally = subst (λ (vs : List View). Tallies k.shape (words_after ws kind t x.view) vs) (a.after y)
              (reached_states_tally k (words_after ws kind t x.view) (set s.views id (y ∷ [])) r);
        };
        found = found_at k ws s.views id t w [] x [] kept.reached at within refl;
      };
    }

moves : (s : St) (id t tries left : ℕ) (x : Sight) (kind : Kind) (w : Fields) (kept : Kept x.key s) → IsTried kind t w tries x
    → get_elem? s.views id ≡ some (x ∷ []) → t < length x.key.shape
    → word_at kept.words t ≡ w → left ≡ packed (word_after kind t w x.view)
    → Needs x.key.shape kind t w x.view → PlanSays x.key kind w → Moves s id t kind w tries left x
moves s id t tries left x kind w kept few at inside here new needs says =
    subst (λ (z : Fields). Moves s id t kind z tries left x) here
    (moves_here s id t tries left x kind kept (subst (λ (z : Fields). IsTried kind t z tries x) (sym here) few) at inside
    (subst (λ (z : Fields). left ≡ packed (word_after kind t z x.view)) (sym here) new)
    (subst (λ (z : Fields). Needs x.key.shape kind t z x.view) (sym here) needs)
    (subst (λ (z : Fields). PlanSays x.key kind z) (sym here) says))

-- the one view of a seat
abbrev first_of : Sight → List Sight → Sight
first_of d [] = d
first_of d (x ∷ xs) = x

same_sight : (x x' : Sight) → ◌≡◌ {A = Me Kind (List Sight)} (x ∷ [], []) (x' ∷ [], []) → x ≡ x'
same_sight x x' is = ap (λ (m : Me Kind (List Sight)). first_of x m.0) is

-- the word that is found
pub record Found (s : St) (k : Key) (t : ℕ) (kept : Kept k s) : Type 0 where
  pub legal : IsLegal (word_at kept.words t)
  pub number : get_or s.words t 0 ≡ packed (word_at kept.words t)

pub found : (s : St) (k : Key) (t : ℕ) (kept : Kept k s) → t < length k.shape → Found s k t kept
found s k t kept inside =
    let tally = reached_states_tally k kept.words s.views kept.reached in
    let long = tally.long in
    let within : t < length kept.words = omega arith in
    record { legal = tally.legal t within; number = ap (λ (ns : List ℕ). get_or ns t 0) kept.packed ∙ word_number kept.words t within }

looks_here : (slots id t : ℕ) (x : Sight) (kind : Kind) → t < length x.key.shape → MayLook x.key.shape kind t x.view
    → Allows (Kept x.key) slots id (x ∷ [], []) t (λ n. n) (Saw kind (step slots t 0 0 none) (x ∷ [], []))
looks_here slots id t x kind inside may s kept long at small =
    let w : Fields = word_at kept.words t in
    let f = found s x.key t kept inside in
    let look = is_look x.key kind t w x.view may in
    let y : Sight = after (looking kind t w) t w 0 x in
    let m =
    moves s id t 0 (get_or s.words t 0) x (looking kind t w) w kept (record { few = omega arith; changes = λ c j. absurd (c look.stays) })
    at inside refl (f.number ∙ ap packed (sym look.stays)) look.needs look.says in (
      y ∷ [],
      keeps,
      tt,
      m.kept,
      λ x' is. (y, refl, w, f.legal, f.number, subst (λ (z : Sight). Stepped (looking kind t w) t w 0 z y) (same_sight x x' is) m.step),
    )

pub looks_allow : (k : Key) (slots id t : ℕ) (x : Sight) (kind : Kind) → x.key ≡ k → t < length x.key.shape
    → MayLook x.key.shape kind t x.view
    → Allows (Kept k) slots id (x ∷ [], []) t (λ n. n) (Saw kind (step slots t 0 0 none) (x ∷ [], []))
looks_allow k slots id t x kind own inside may =
    subst (λ (z : Key). Allows (Kept z) slots id (x ∷ [], []) t (λ n. n) (Saw kind (step slots t 0 0 none) (x ∷ [], []))) own
    (looks_here slots id t x kind inside may)

tries_here : (slots id old new t : ℕ) (x : Sight) (kind : Kind) → t < length x.key.shape → IsLegal x.word → old ≡ packed x.word
    → new ≡ packed (word_after kind t x.word x.view) → Needs x.key.shape kind t x.word x.view → PlanSays x.key kind x.word
    → Allows (Kept x.key) slots id (x ∷ [], []) t (λ n. either (n == old) new n) (Tried (step slots t old new (some kind)) (x ∷ [], []))
tries_here slots id old new t x kind inside legal is to needs says s kept long at small =
    let n : ℕ = get_or s.words t 0 in
    let w : Fields = word_at kept.words t in
    let f = found s x.key t kept inside in
    dite (ℕ_discrete n old)
    (λ hit.
    let y : Sight = after kind t x.word 1 x in
    let here : w ≡ x.word = packed_once w x.word f.legal legal (sym f.number ∙ (hit ∙ is)) in
    let m = moves s id t 1 new x kind x.word kept (record { few = omega arith; changes = λ c j. refl }) at inside here to needs says in (
      y ∷ [],
      keeps,
      tt,
      subst (λ (b : Bool). Kept x.key (stepped s t (either b new n) id [] (y ∷ []) keeps)) (sym (eq-eqb n old hit)) m.kept,
      λ x' e. (
        y,
        refl,
        record {
          won = λ h. subst (λ (z : Sight). Stepped kind t z.word 1 z y) (same_sight x x' e) m.step;
          lost = λ miss. absurd (miss hit);
        },
      ),
    ))
    (λ miss.
    let look = is_look x.key kind t w x.view (may_look x.key.shape kind t x.word x.view needs) in
    let y : Sight = after (looking kind t w) t w 1 x in
    let m =
    moves s id t 1 n x (looking kind t w) w kept (record { few = omega arith; changes = λ c j. absurd (c look.stays) }) at inside refl
    (f.number ∙ ap packed (sym look.stays)) look.needs look.says in (
      y ∷ [],
      keeps,
      tt,
      subst (λ (b : Bool). Kept x.key (stepped s t (either b new n) id [] (y ∷ []) keeps)) (sym (ne_eqb n old miss)) m.kept,
      λ x' e. (
        y,
        refl,
        record {
          won = λ hit. absurd (miss hit);
          lost = λ h. (w, f.legal, f.number, subst (λ (z : Sight). Stepped (looking kind t w) t w 1 z y) (same_sight x x' e) m.step);
        },
      ),
    ))

pub tries_allow : (k : Key) (slots id old new t : ℕ) (x : Sight) (kind : Kind) → x.key ≡ k → t < length x.key.shape → IsLegal x.word
    → old ≡ packed x.word
    → new ≡ packed (word_after kind t x.word x.view) → Needs x.key.shape kind t x.word x.view → PlanSays x.key kind x.word
    → Allows (Kept k) slots id (x ∷ [], []) t (λ n. either (n == old) new n) (Tried (step slots t old new (some kind)) (x ∷ [], []))
tries_allow k slots id old new t x kind own inside legal is to needs says =
    subst
    (λ (z : Key). Allows (Kept z) slots id (x ∷ [], []) t (λ n. either (n == old) new n) (Tried (step slots t old new (some kind)) (x ∷ [], [])))
    own
    (tries_here slots id old new t x kind inside legal is to needs says)

-- a number that is read stays
pub same_number : (ns : List ℕ) → set ns 0 (get_or ns 0 0) ≡ ns
same_number [] = refl
same_number (n ∷ ns) = refl

pub sits_allow : (k : Key) (slots id : ℕ) → 0 < length k.shape
    → Allows (Kept k) slots id ([], []) 0 (λ n. n) (Sat k (step slots 0 0 0 none) ([], []))
sits_allow k slots id inside s kept long at small =
    let w : Fields = word_at kept.words 0 in
    let f = found s k 0 kept inside in
    let y : Sight = sat_sight k w in
    let r : Reached k kept.words (set s.views id (y ∷ [])) = sits kept.words s.views id 1 kept.reached at in
    let tally = reached_states_tally k kept.words (set s.views id (y ∷ [])) r in
    let a = around_new s.views id [] at in
    let b : Beside k.shape 0 w (new_view w.phase) = record {
      words = kept.words;
      front = a.front;
      back = a.back;
      shape = shaped k kept.words s.views kept.reached;
      within = tally.some;
      word = refl;
      tally = subst (λ (vs : List View). Tallies k.shape kept.words vs) (a.after (y ∷ [])) tally;
    } in (
      y ∷ [],
      keeps,
      tt,
      record { words = kept.words; packed = same_number s.words ∙ kept.packed; reached = r },
      λ is. (w, f.legal, f.number, refl, b),
    )

-- the second view of a seat
abbrev second_of : Sight → List Sight → Sight
second_of d [] = d
second_of d (x ∷ xs) = first_of d xs

-- what two tokens learn when their seats are joined and both find this word
record Looks (k : Key) (s : St) (id : ℕ) (w : Fields) (x y : Sight) : Type 0 where
  kept : Kept k (stepped s 0 (get_or s.words 0 0) id [] (after Look 0 w 0 x ∷ after Look 0 w 0 y ∷ []) keeps)
  first : Stepped Look 0 w 0 x (after Look 0 w 0 x)
  second : Stepped Look 0 w 0 y (after Look 0 w 0 y)

look_steps : (w : Fields) (x : Sight) → Beside x.key.shape 0 w x.view → Beside x.key.shape 0 w (after Look 0 w 0 x).view
    → IsReached x.key 0 w x → Stepped Look 0 w 0 x (after Look 0 w 0 x)
look_steps w x b a f =
    record {
      key = refl;
      view = refl;
      tier = refl;
      word = refl;
      tried = refl;
      steps = refl;
      opened = refl;
      before = b;
      after = a;
      found = f;
    }

one_beside : (k : Key) (ws : List Fields) (front : List View) (u : View) (back : List View) → IsTiers k.shape
    → Tallies k.shape ws (front ++ u ∷ back) → Beside k.shape 0 (word_at ws 0) u
one_beside k ws front u back shape t =
    record { words = ws; front = front; back = back; shape = shape; within = t.some; word = refl; tally = t }

two_beside : (k : Key) (ws : List Fields) (front : List View) (u v : View) (back : List View) → IsTiers k.shape
    → Tallies k.shape ws (front ++ u ∷ v ∷ back) → Beside k.shape 0 (word_at ws 0) v
two_beside k ws front u v back shape t =
    one_beside k ws (front ++ u ∷ []) v back shape
    (subst (λ (vs : List View). Tallies k.shape ws vs) (sym (append_assoc front (u ∷ []) (v ∷ back))) t)

looks_both : (k : Key) (s : St) (id : ℕ) (x y : Sight) (kept : Kept k s) → x.key ≡ k → y.key ≡ k → get_elem? s.views id ≡ some (x ∷ y ∷ [])
    → Looks k s id (word_at kept.words 0) x y
looks_both k s id x y kept own own' at =
    let ws : List Fields = kept.words in
    let w : Fields = word_at ws 0 in
    let x' : Sight = after Look 0 w 0 x in
    let y' : Sight = after Look 0 w 0 y in
    let tally = reached_states_tally k ws s.views kept.reached in
    let r : Reached k ws (set s.views id (x' ∷ y' ∷ [])) =
    subst (λ (us : List Fields). Reached k us (set s.views id (x' ∷ y' ∷ []))) (same_words ws)
    (goes_on k 0 w w (x ∷ y ∷ []) (x' ∷ y' ∷ []) (looks_go k 0 w 0 (omega arith) (x ∷ y ∷ []) (own, (own', tt))) [] ws s.views id kept.reached at tally.some refl) in
    let shape = shaped k ws s.views kept.reached in
    let a = around_new s.views id (x ∷ y ∷ []) at in
    let t0 = subst (λ (vs : List View). Tallies k.shape ws vs) a.is (reached_states_tally k ws s.views kept.reached) in
    let t1 =
    subst (λ (vs : List View). Tallies k.shape ws vs) (a.after (x' ∷ y' ∷ []))
    (reached_states_tally k ws (set s.views id (x' ∷ y' ∷ [])) r) in
    record {
      kept = record { words = ws; packed = same_number s.words ∙ kept.packed; reached = r };
      first =
          look_steps w x
          (subst (λ (z : Key). Beside z.shape 0 w x.view) (sym own) (one_beside k ws a.front x.view (y.view ∷ a.back) shape t0))
          (subst (λ (z : Key). Beside z.shape 0 w x'.view) (sym own) (one_beside k ws a.front x'.view (y'.view ∷ a.back) shape t1))
          (subst (λ (z : Key). IsReached z 0 w x) (sym own) (found_at k ws s.views id 0 w [] x (y ∷ []) kept.reached at tally.some refl));
      second =
          look_steps w y (subst (λ (z : Key). Beside z.shape 0 w y.view) (sym own') (two_beside k ws a.front x.view y.view a.back shape t0))
          (subst (λ (z : Key). Beside z.shape 0 w y'.view) (sym own') (two_beside k ws a.front x'.view y'.view a.back shape t1))
          (subst (λ (z : Key). IsReached z 0 w y) (sym own') (found_at k ws s.views id 0 w (x ∷ []) y [] kept.reached at tally.some refl));
    }

pub both_allow : (k : Key) (slots id : ℕ) (x y : Sight) → x.key ≡ k → y.key ≡ k → 0 < length k.shape
    → Allows (Kept k) slots id (x ∷ y ∷ [], []) 0 (λ n. n) (SawBoth (step slots 0 0 0 none) (x ∷ y ∷ [], []))
both_allow k slots id x y own own' inside s kept long at small =
    let w : Fields = word_at kept.words 0 in
    let f = found s k 0 kept inside in
    let l = looks_both k s id x y kept own own' at in
    let x' : Sight = after Look 0 w 0 x in
    let y' : Sight = after Look 0 w 0 y in (
      x' ∷ y' ∷ [],
      keeps,
      tt,
      l.kept,
      λ u v is. (
        x',
        y',
        refl,
        w,
        f.legal,
        f.number,
        subst (λ (z : Sight). Stepped Look 0 w 0 z x') (ap (λ (m : Me Kind (List Sight)). first_of x m.0) is) l.first,
        subst (λ (z : Sight). Stepped Look 0 w 0 z y') (ap (λ (m : Me Kind (List Sight)). second_of y m.0) is) l.second,
      ),
    )

pub cuts_allow : (k : Key) (id : ℕ) (x : Sight) → Splits (Kept k) id (x ∷ []) (cut_once x ∷ []) []
cuts_allow k id x s kept at =
    record { words = kept.words; packed = kept.packed; reached = cuts kept.words s.views id (x ∷ []) kept.reached at }

pub parts_allow : (k : Key) (id : ℕ) (x y : Sight) → Splits (Kept k) id (x ∷ y ∷ []) (x ∷ []) (y ∷ [])
parts_allow k id x y s kept at =
    record { words = kept.words; packed = kept.packed; reached = parts kept.words s.views id x [] y [] kept.reached at }

pub joins_allow : (k : Key) (id other : ℕ) (l m : List Sight) → Joins (Kept k) id l other m (l ++ m) []
joins_allow k id other l m s kept at apart there =
    record { words = kept.words; packed = kept.packed; reached = joins kept.words s.views id other l m kept.reached at apart there }

pub opens_allow : (k : Key) → IsTiers k.shape → k.phase ≤ 2147483647
    → Kept k (opening (map packed (empty_words k.shape k.phase)) [] (first_sights k))
opens_allow k shape small =
    record { words = empty_words k.shape k.phase; packed = refl; reached = opens (first_sight k (empty_word k.phase)) shape small refl }
