-- A turn by the token at a place.
use Rattle.std.proofs.Common.{◌≡◌, ◌≢◌, ℕ, zero, suc, ◌<◌, ⊎_elim, true, List, [], ◌∷◌, ◌++◌, length, length-set, get_or, set, take, drop, refl, sym, ◌∙◌, ap, subst, arith}
use Rattle.std.proofs.lemmas.Bool.{cases_eq}
use Rattle.std.proofs.lemmas.List.{get_or-set_same, get_or-set_other, get_or_default, length-take}
use Rattle.flat_phaser.specs.Flat.{Flat}
use Rattle.phaser_word.specs.Fields.{Fields}
use Rattle.tier_steps.specs.declared.view.View.{View}
use Rattle.tier_steps.specs.View.{new_view}
use Rattle.tier_shape.specs.Parents.{parent_of}
use Rattle.tier_steps.specs.Tally.{blank, word_at, Tallies}
use Rattle.tier_steps.specs.Step.{word_after, view_after, IsRunnable}
use Rattle.tier_steps.specs.Laws.{IsStep, words_after, stepped_view}
use Rattle.tier_steps.specs.Image.{image, label, labelled, IsAllowedLabel, LooksAlike}
use Rattle.tier_core.specs.Turn.{Progress, Idle, Turn, IsInRange}
use Rattle.tier_core.specs.Machine.{State, IsCore, IsNext, CallFits, view_at, call_at, is_active, turn_at, played}
use Rattle.tier_steps.proofs.KindLaw.{kinds_keep_tally}
use Rattle.tier_steps.proofs.FlatLaw.{kinds_are_flat}
use Rattle.tier_steps.proofs.Known.{tally_is_known, steps_are_runnable}
use Rattle.tier_core.proofs.Turns.{turns_are_steps, turn_range}

pub around : {X : Type 0} (xs : List X) (i : ℕ) (d : X) → i < length xs → xs ≡ take i xs ++ get_or xs i d ∷ drop (suc i) xs
around [] i d h = absurd (omega arith)
around (x ∷ xs) zero d h = refl
around (x ∷ xs) (suc i) d h = ap (λ ys. x ∷ ys) (around xs i d (omega arith))

pub set_around : {X : Type 0} (xs : List X) (i : ℕ) (y : X) → i < length xs → set xs i y ≡ take i xs ++ y ∷ drop (suc i) xs
set_around [] i y h = absurd (omega arith)
set_around (x ∷ xs) zero y h = refl
set_around (x ∷ xs) (suc i) y h = ap (λ ys. x ∷ ys) (set_around xs i y (omega arith))

-- the turn of a token is a step that it may take
abbrev pub MayPlay : State → ℕ → Turn → Type 0
MayPlay s i r = IsNext s.parents s.words (view_at s.views i) r.kind r.tier r.next

pub is_step : (s : State) (i : ℕ) (r : Turn) → IsCore s → i < length s.views → MayPlay s i r
    → IsStep s.parents s.words (take i s.views) (view_at s.views i) (drop (suc i) s.views) r.tier r.kind
is_step s i r core h may = record {
  shape = core.shape;
  within = may.within;
  needs = may.needs;
  tally = subst (λ (vs : List View). Tallies s.parents s.words vs) (around s.views i (new_view 0) h) core.tally;
}

-- a change of one call and its view
calls_kept : (ps : List ℕ) (calls : List Progress) (views : List View) (i : ℕ) (p : Progress) (v : View) → length calls ≡ length views
    → i < length views
    → ((j : ℕ) → j < length views → CallFits ps (call_at calls j) (view_at views j)) → CallFits ps p v
    → (j : ℕ) → j < length (set views i v) → CallFits ps (call_at (set calls i p) j) (view_at (set views i v) j)
calls_kept ps calls views i p v long h old fits j k = ⊎_elim
    (λ (e : j ≡ i). subst (λ (n : ℕ). CallFits ps (call_at (set calls i p) n) (view_at (set views i v) n)) (sym e)
    (subst (λ (q : Progress). CallFits ps q (view_at (set views i v) i)) (sym (get_or-set_same calls i p Idle (omega arith)))
    (subst (λ (x : View). CallFits ps p x) (sym (get_or-set_same views i v (new_view 0) h)) fits)))
    (λ (n : j ≢ i). subst (λ (q : Progress). CallFits ps q (view_at (set views i v) j)) (sym (get_or-set_other calls i j p Idle n))
    (subst (λ (x : View). CallFits ps (call_at calls j) x) (sym (get_or-set_other views i j v (new_view 0) n))
    (old j (subst (λ (m : ℕ). j < m) (length-set views i v) k))))
    (cases_eq j i)

-- a turn keeps the core
pub played_core : (s : State) (i : ℕ) (r : Turn) → IsCore s → i < length s.views → MayPlay s i r → IsCore (played s i r)
played_core s i r core h may =
    let v' : View = stepped_view s.parents s.words r.kind r.tier (view_at s.views i) in
    record {
      shape = core.shape;
      few = core.few;
      tally = subst (λ (vs : List View). Tallies s.parents (words_after s.words r.kind r.tier (view_at s.views i)) vs)
          (sym (set_around s.views i (stepped_view s.parents s.words r.kind r.tier (view_at s.views i)) h))
          (kinds_keep_tally s.parents s.words (take i s.views) (view_at s.views i) (drop (suc i) s.views) r.tier r.kind (is_step s i r core h may));
      long =
          length-set s.calls i r.next
          ∙ (core.long ∙ sym (length-set s.views i (stepped_view s.parents s.words r.kind r.tier (view_at s.views i))));
      calls =
          calls_kept s.parents s.calls s.views i r.next (stepped_view s.parents s.words r.kind r.tier (view_at s.views i)) core.long h
          core.calls may.keeps;
    }

-- a turn is the flat step of its label
pub played_flat : (s : State) (i : ℕ) (r : Turn) (f : Flat) → IsCore s → i < length s.views → MayPlay s i r
    → LooksAlike f (image s.words s.views)
    → IsAllowedLabel (label i r.kind) f × LooksAlike (labelled (label i r.kind) f) (image (played s i r).words (played s i r).views)
played_flat s i r f core h may alike =
    let alike' : LooksAlike f (image s.words (take i s.views ++ view_at s.views i ∷ drop (suc i) s.views)) =
    subst (λ (vs : List View). LooksAlike f (image s.words vs)) (around s.views i (new_view 0) h) alike in
    let law =
    kinds_are_flat s.parents s.words (take i s.views) (view_at s.views i) (drop (suc i) s.views) r.tier r.kind f (is_step s i r core h may)
    alike' in
    let owner : length (take i s.views) ≡ i = (let a = length-take i s.views in omega arith) in (
      subst (λ (o : ℕ). IsAllowedLabel (label o r.kind) f) owner law.0,
      subst
          (λ (vs : List View). LooksAlike (labelled (label i r.kind) f) (image (words_after s.words r.kind r.tier (view_at s.views i)) vs))
          (sym (set_around s.views i (stepped_view s.parents s.words r.kind r.tier (view_at s.views i)) h))
          (subst (λ (o : ℕ). LooksAlike (labelled (label o r.kind) f) (image (words_after s.words r.kind r.tier (view_at s.views i))
          (take i s.views ++ stepped_view s.parents s.words r.kind r.tier (view_at s.views i) ∷ drop (suc i) s.views))) owner law.1),
    )

-- the code can run it
pub runnable : (s : State) (i : ℕ) (r : Turn) → IsCore s → i < length s.views → MayPlay s i r
    → IsRunnable r.kind r.tier (word_at s.words r.tier) (view_at s.views i)
runnable s i r core h may =
    steps_are_runnable s.parents r.tier (word_at s.words r.tier) (view_at s.views i) r.kind core.shape core.few
    (tally_is_known s.parents s.words (take i s.views) (view_at s.views i) (drop (suc i) s.views) r.tier may.within (is_step s i r core h may).tally)
    may.needs

-- the next turn of a token
pub turn_may : (s : State) (i : ℕ) → IsCore s → i < length s.views → is_active (call_at s.calls i) ≡ true → MayPlay s i (turn_at s i)
turn_may s i core h active =
    turns_are_steps s.parents s.words (take i s.views) (view_at s.views i) (drop (suc i) s.views) (call_at s.calls i) core.shape
    (subst (λ (vs : List View). Tallies s.parents s.words vs) (around s.views i (new_view 0) h) core.tally) active (core.calls i h)

-- and asks for an advance in numbers that fit a word
pub turn_ranges : (s : State) (i : ℕ) → IsCore s → i < length s.views → IsInRange (turn_at s i).answer
turn_ranges s i core h =
    turn_range s.parents s.words (take i s.views) (view_at s.views i) (drop (suc i) s.views) (call_at s.calls i)
    (subst (λ (vs : List View). Tallies s.parents s.words vs) (around s.views i (new_view 0) h) core.tally) (core.calls i h)

-- What the code read of a state is what is there, and what it wrote is the turn.
pub record IsRead (old inside : State) (i k : ℕ) (r : Turn) (w : Fields) (v : View) : Type 0 where
  pub same : inside ≡ old
  pub core : IsCore inside
  pub known : i < length old.views
  pub may : MayPlay old i r
  pub tier : k ≡ r.tier
  pub word : w ≡ get_or inside.words k w
  pub view : v ≡ get_or inside.views i v

pub inside_known : (old inside : State) (i k : ℕ) (r : Turn) (w : Fields) (v : View) → IsRead old inside i k r w v → i < length inside.views
inside_known old inside i k r w v is = subst (λ (s : State). i < length s.views) (sym is.same) is.known

pub inside_may : (old inside : State) (i k : ℕ) (r : Turn) (w : Fields) (v : View) → IsRead old inside i k r w v → MayPlay inside i r
inside_may old inside i k r w v is = subst (λ (s : State). MayPlay s i r) (sym is.same) is.may

word_read : (old inside : State) (i k : ℕ) (r : Turn) (w : Fields) (v : View) → IsRead old inside i k r w v
    → word_at inside.words r.tier ≡ w
word_read old inside i k r w v is =
    get_or_default inside.words r.tier blank w (inside_may old inside i k r w v is).within
    ∙ sym (is.word ∙ ap (λ n. get_or inside.words n w) is.tier)

view_read : (old inside : State) (i k : ℕ) (r : Turn) (w : Fields) (v : View) → IsRead old inside i k r w v → view_at inside.views i ≡ v
view_read old inside i k r w v is = get_or_default inside.views i (new_view 0) v (inside_known old inside i k r w v is) ∙ sym is.view

pub read_runnable : (old inside : State) (i k : ℕ) (r : Turn) (w : Fields) (v : View) → IsRead old inside i k r w v
    → IsRunnable r.kind r.tier w v
read_runnable old inside i k r w v is =
    subst (λ (x : Fields). IsRunnable r.kind r.tier x v) (word_read old inside i k r w v is)
    (subst (λ (x : View). IsRunnable r.kind r.tier (word_at inside.words r.tier) x) (view_read old inside i k r w v is)
    (runnable inside i r is.core (inside_known old inside i k r w v is) (inside_may old inside i k r w v is)))

pub written_core : (old inside : State) (i k above : ℕ) (r : Turn) (w w' : Fields) (v v' : View) → IsRead old inside i k r w v
    → above ≡ parent_of inside.parents r.tier → w' ≡ word_after r.kind r.tier w v → v' ≡ view_after above r.kind r.tier w v
    → IsCore (record inside { words = set inside.words k w'; views = set inside.views i v'; calls = set inside.calls i r.next })
written_core old inside i k above r w w' v v' is parent word view =
    let a : word_at inside.words r.tier ≡ w = word_read old inside i k r w v is in
    let b : view_at inside.views i ≡ v = view_read old inside i k r w v is in
    let c : word_after r.kind r.tier (word_at inside.words r.tier) (view_at inside.views i) ≡ w' =
    ap (λ x. word_after r.kind r.tier x (view_at inside.views i)) a ∙ (ap (λ x. word_after r.kind r.tier w x) b ∙ sym word) in
    let d : stepped_view inside.parents inside.words r.kind r.tier (view_at inside.views i) ≡ v' =
    ap (λ x. view_after (parent_of inside.parents r.tier) r.kind r.tier x (view_at inside.views i)) a
    ∙ (ap (λ x. view_after (parent_of inside.parents r.tier) r.kind r.tier w x) b
    ∙ (ap (λ n. view_after n r.kind r.tier w v) (sym parent) ∙ sym view)) in
    let e : words_after inside.words r.kind r.tier (view_at inside.views i) ≡ set inside.words k w' =
    ap (λ x. set inside.words r.tier x) c ∙ ap (λ n. set inside.words n w') (sym is.tier) in
    subst (λ (ws : List Fields). IsCore (record inside { words = ws; views = set inside.views i v'; calls = set inside.calls i r.next })) e
    (subst (λ (x : View). IsCore (record inside {
      words = words_after inside.words r.kind r.tier (view_at inside.views i);
      views = set inside.views i x;
      calls = set inside.calls i r.next;
    })) d
    (played_core inside i r is.core (inside_known old inside i k r w v is) (inside_may old inside i k r w v is)))
