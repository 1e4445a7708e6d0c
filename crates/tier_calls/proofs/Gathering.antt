-- Seats that are joined, and the state of a table at its end.
use Rattle.std.proofs.Common.{◌≡◌, ℕ, zero, suc, ◌<◌, ◌≤◌, ◌+◌, Option, Some, List, [], ◌∷◌, ◌++◌, All, map, length, take, sum_by, refl, sym, ◌∙◌, ap, subst, arith, append_assoc, length-append}
use Rattle.std.specs.List.{AllByRecursion}
use lib.ListN.{get_or-append, get_elem?}
use mathlib.Core.List.{map-append}
use mathlib.Core.Option.{some, some-injective, some-ne-none}
use Rattle.std.proofs.lemmas.List.{append-nil}
use Rattle.std.proofs.lemmas.List.Sums.{sum_by-append}
use Rattle.atomic_table.specs.Table.{Me, State, Final, Seen}
use Rattle.atomic_table.specs.Seated.{TableId}
use Rattle.phaser_word.specs.Fields.{Fields, IsLegal}
use Rattle.phaser_word.specs.Packed.{packed}
use Rattle.tier_steps.specs.declared.kind.Kind.{Kind}
use Rattle.tier_steps.specs.declared.view.View.{View}
use Rattle.tier_rule.specs.declared.sight.Key.{Key}
use Rattle.tier_rule.specs.declared.sight.Sight.{Sight}
use Rattle.tier_steps.specs.View.{party_share, late_share, claim_share, advance_share}
use Rattle.tier_steps.specs.Tally.{word_at, root_phase, ViewFits, Tallies}
use Rattle.tier_steps.proofs.Seats.{regrouping_keeps_tally}
use Rattle.tier_rule.specs.Reach.{those, views_of, Kept}
use Rattle.tier_rule.proofs.Reaching.{reached_states_tally}
use Rattle.tier_rule.proofs.Seats.{all_front, all_back, all_append}
use Rattle.tier_calls.specs.declared.tokens.Token.{Token}
use Rattle.tier_calls.specs.Holding.{Named, Holding, sight_held}
use Rattle.tier_calls.specs.Groups.{GroupHeld}
use Rattle.tier_calls.specs.Closes.{held, views_in, sights_in, sights_together, views_together, TallyWithOthers, IsAmong, IsLeftBy, IsShut}

-- what holds of all holds of all but the last, and of the last
front_all : {X : Type 0} (P : X → Type 0) (all front : List X) (t : X) → all ≡ front ++ t ∷ [] → All P all → All P front
front_all P all front t is own k d lt =
    subst P (get_or-append front (t ∷ []) d k lt) (subst (All P) is own k d (omega (arith, length-append front (t ∷ []))))

last_all : {X : Type 0} (P : X → Type 0) (all front : List X) (t : X) → all ≡ front ++ t ∷ [] → All P all → P t
last_all {X} P all front t is own = go front (subst (All P) is own)
  where
    go : (xs : List X) → All P (xs ++ t ∷ []) → P t
    go [] own = own 0 t (omega arith)
    go (x ∷ xs) own = go xs (λ k d lt. own (suc k) d (omega arith))

pub kept_front : {n : Named} (all front : List Token) (t : Token) → all ≡ front ++ t ∷ [] → All (λ (t : Token). (held t).tree ≡ n) all
    → All (λ (t : Token). (held t).tree ≡ n) front
kept_front {n} all front t is own = front_all (λ (t : Token). (held t).tree ≡ n) all front t is own

pub last_tree : {n : Named} (all front : List Token) (t : Token) → all ≡ front ++ t ∷ [] → All (λ (t : Token). (held t).tree ≡ n) all
    → (held t).tree ≡ n
last_tree {n} all front t is own = last_all (λ (t : Token). (held t).tree ≡ n) all front t is own

pub kept_groups : {n : Named} (all front : List GroupHeld) (g : GroupHeld) → all ≡ front ++ g ∷ [] → All (λ (g : GroupHeld). g.tree ≡ n) all
    → All (λ (g : GroupHeld). g.tree ≡ n) front
kept_groups {n} all front g is own = front_all (λ (g : GroupHeld). g.tree ≡ n) all front g is own

pub last_group : {n : Named} (all front : List GroupHeld) (g : GroupHeld) → all ≡ front ++ g ∷ [] → All (λ (g : GroupHeld). g.tree ≡ n) all
    → g.tree ≡ n
last_group {n} all front g is own = last_all (λ (g : GroupHeld). g.tree ≡ n) all front g is own

-- a group's seat is of its tree's table
pub group_id : {id id' : TableId} {k : Key} {n : Named} (g : GroupHeld) → record { id = id; key = k } ≡ n → g.tree ≡ n → id' ≡ g.tree.id
    → id' ≡ id
group_id {id} {id'} {k} {n} g tree own at = at ∙ (ap (λ (z : Named). z.id) own ∙ ap (λ (z : Named). z.id) (sym tree))

pub same_id : {id id' : TableId} {k : Key} {n : Named} {h h' : Holding} → record { id = id; key = k } ≡ n → h.tree ≡ n → h' ≡ h
    → id' ≡ h'.tree.id → id' ≡ id
same_id {id} {id'} {k} {n} {h} {h'} tree own same at =
    at ∙ (ap (λ (z : Holding). z.tree.id) same ∙ (ap (λ (z : Named). z.id) own ∙ ap (λ (z : Named). z.id) (sym tree)))

pub table_id : {id id' : TableId} {k : Key} {n : Named} → record { id = id; key = k } ≡ n → id' ≡ n.id → id' ≡ id
table_id {id} {id'} {k} {n} tree own = own ∙ ap (λ (z : Named). z.id) (sym tree)

-- one more token's seat takes in what was gathered
pub gathered : (all front : List Token) (t : Token) (me : Me Kind (List Sight)) {h : Holding} {one me' : Me Kind (List Sight)} → h ≡ held t
    → one ≡ (sight_held h ∷ [], []) → all ≡ front ++ t ∷ []
    → me' ≡ (one.0 ++ me.0, one.1) → sights_in front ++ me'.0 ≡ sights_in all ++ me.0
gathered all front t me {h} {one} {me'} same seat is joined =
    let x : Sight = sight_held (held t) in
    let a : me'.0 ≡ x ∷ me.0 =
    ap (λ (m : Me Kind (List Sight)). m.0) joined
    ∙ (ap (λ (m : Me Kind (List Sight)). m.0 ++ me.0) seat ∙ ap (λ (z : Holding). sight_held z ∷ me.0) same) in
    let d : sights_in all ≡ sights_in front ++ x ∷ [] =
    ap (map (λ (t : Token). sight_held (held t))) is ∙ map-append (λ (t : Token). sight_held (held t)) front (t ∷ []) in
    ap (λ (l : List Sight). sights_in front ++ l) a
    ∙ (sym (append_assoc (sights_in front) (x ∷ []) me.0) ∙ ap (λ (l : List Sight). l ++ me.0) (sym d))

-- all of them, the last one first
pub gathered_all : (all front : List Token) (t : Token) (me : Me Kind (List Sight)) {h : Holding} {one : Me Kind (List Sight)} → h ≡ held t
    → one ≡ (sight_held h ∷ [], []) → all ≡ front ++ t ∷ []
    → me.0 ≡ sights_in front ++ one.0 → me.0 ≡ sights_in all
gathered_all all front t me {h} {one} same seat is reported =
    let d : sights_in all ≡ sights_in front ++ sight_held (held t) ∷ [] =
    ap (map (λ (t : Token). sight_held (held t))) is ∙ map-append (λ (t : Token). sight_held (held t)) front (t ∷ []) in
    reported
    ∙ (ap (λ (m : Me Kind (List Sight)). sights_in front ++ m.0) seat
    ∙ (ap (λ (z : Holding). sights_in front ++ sight_held z ∷ []) same ∙ sym d))

sights_apart : (front : List GroupHeld) (g : GroupHeld) → sights_together (front ++ g ∷ []) ≡ sights_together front ++ g.tokens
sights_apart [] g = append-nil g.tokens
sights_apart (x ∷ xs) g =
    ap (λ (l : List Sight). x.tokens ++ l) (sights_apart xs g) ∙ sym (append_assoc x.tokens (sights_together xs) g.tokens)

-- one more group's seat takes in what was gathered
pub gathered_group : (all front : List GroupHeld) (g : GroupHeld) (me : Me Kind (List Sight)) {one me' : Me Kind (List Sight)}
    → one ≡ (g.tokens, []) → all ≡ front ++ g ∷ [] → me' ≡ (one.0 ++ me.0, one.1)
    → sights_together front ++ me'.0 ≡ sights_together all ++ me.0
gathered_group all front g me {one} {me'} seat is joined =
    let a : me'.0 ≡ g.tokens ++ me.0 =
    ap (λ (m : Me Kind (List Sight)). m.0) joined ∙ ap (λ (m : Me Kind (List Sight)). m.0 ++ me.0) seat in
    let d : sights_together all ≡ sights_together front ++ g.tokens = ap sights_together is ∙ sights_apart front g in
    ap (λ (l : List Sight). sights_together front ++ l) a
    ∙ (sym (append_assoc (sights_together front) g.tokens me.0) ∙ ap (λ (l : List Sight). l ++ me.0) (sym d))

-- all of them, the last one first, and then all tokens
pub gathered_both : (tokens : List Token) (all front : List GroupHeld) (g : GroupHeld) (one me me' : Me Kind (List Sight))
    → one ≡ (g.tokens, []) → all ≡ front ++ g ∷ [] → me.0 ≡ sights_together front ++ one.0 → me'.0 ≡ sights_in tokens ++ me.0
    → me'.0 ≡ sights_in tokens ++ sights_together all
gathered_both tokens all front g one me me' seat is reported both =
    let d : sights_together all ≡ sights_together front ++ g.tokens = ap sights_together is ∙ sights_apart front g in
    both
    ∙ ap (λ (l : List Sight). sights_in tokens ++ l)
    (reported ∙ (ap (λ (m : Me Kind (List Sight)). sights_together front ++ m.0) seat ∙ sym d))

pub shut_none : {k : Key} {numbers : List ℕ} (tokens : List Token) (groups : List GroupHeld) → groups ≡ []
    → IsShut k numbers (sights_in tokens) → IsShut k numbers (sights_in tokens ++ sights_together groups)
shut_none {k} {numbers} tokens groups none shut =
    subst (IsShut k numbers)
    (sym (ap (λ (gs : List GroupHeld). sights_in tokens ++ sights_together gs) none ∙ append-nil (sights_in tokens))) shut

views_listed : (tokens : List Token) → those (sights_in tokens) ≡ views_in tokens
views_listed [] = refl
views_listed (t ∷ ts) = ap (λ (vs : List View). (held t).view ∷ vs) (views_listed ts)

-- the views of one seat among those of all
pub record Among (vs : List (List Sight)) (l : List Sight) : Type 0 where
  pub front : List View
  pub back : List View
  pub is : views_of vs ≡ front ++ (those l ++ back)

among : (vs : List (List Sight)) (id : ℕ) (l : List Sight) → get_elem? vs id ≡ some l → Among vs l
among [] id l at = absurd (some-ne-none l (sym at))
among (m ∷ vs) zero l at =
    record { front = []; back = views_of vs; is = ap (λ (z : List Sight). those z ++ views_of vs) (some-injective m l at) }
among (m ∷ vs) (suc id) l at = let r = among vs id l at in record {
  front = those m ++ r.front;
  back = r.back;
  is = ap (λ (z : List View). those m ++ z) r.is ∙ sym (append_assoc (those m) r.front (those l ++ r.back));
}

-- some views are given first
moved_first : (f : View → ℕ) (a m b : List View) → sum_by f (m ++ (a ++ b)) ≡ sum_by f (a ++ (m ++ b))
moved_first f a m b =
    let p = sum_by-append f m (a ++ b) in
    let q = sum_by-append f a b in
    let r = sum_by-append f a (m ++ b) in
    let s = sum_by-append f m b in
    omega arith

all_first : (P : View → Type 0) (a m b : List View) → AllByRecursion P (a ++ (m ++ b)) → AllByRecursion P (m ++ (a ++ b))
all_first P a m b all =
    let rest = all_back P a (m ++ b) all in
    all_append P m (a ++ b) (all_front P m b rest) (all_append P a b (all_front P a (m ++ b) all) (all_back P m b rest))

regrouped : (ps : List ℕ) (ws : List Fields) (a m b : List View) → Tallies ps ws (a ++ (m ++ b)) → Tallies ps ws (m ++ (a ++ b))
regrouped ps ws a m b tally =
    regrouping_keeps_tally ps ws (a ++ (m ++ b)) (m ++ (a ++ b)) tally (record {
      parties = λ t. moved_first (party_share ps t) a m b;
      unarrived = λ t. moved_first (late_share (root_phase ws) ps t) a m b;
      claims = λ t. moved_first (claim_share ps t) a m b;
      advances = moved_first advance_share a m b;
    }) (all_first (ViewFits ps (root_phase ws) (word_at ws 0).ended) a m b tally.fits)

-- the words at the end
pub record Last (k : Key) (numbers : List ℕ) (l : List Sight) : Type 0 where
  pub words : List Fields
  pub packed_so : numbers ≡ map packed words
  pub legal : (t : ℕ) → t < length words → IsLegal (word_at words t)
  pub long : length words ≡ length k.shape
  pub rest : List View
  pub tally : Tallies k.shape words (those l ++ rest)

pub last_of : {k : Key} {numbers : List ℕ} {l : List Sight} → IsShut k numbers l → Last k numbers l
last_of {k} {numbers} {l} shut =
    let left = shut.left in
    let tally = reached_states_tally k shut.words left.seats left.reached in
    let a = some_among l left.seats left.known in
    record {
      words = shut.words;
      packed_so = shut.packed_so;
      legal = tally.legal;
      long = tally.long;
      rest = a.front ++ a.back;
      tally = regrouped k.shape shut.words a.front (those l) a.back (subst (λ (vs : List View). Tallies k.shape shut.words vs) a.is tally);
    }
  where
    some_among : (l : List Sight) (seats : List (List Sight)) → IsAmong l seats → Among seats l
    some_among [] seats known = record { front = []; back = views_of seats; is = refl }
    some_among (x ∷ xs) seats known = among seats known.0 (x ∷ xs) known.1

known_at : (l : List Sight) (seats : List (List Sight)) (id : ℕ) → get_elem? seats id ≡ some l → IsAmong l seats
known_at [] seats id at = tt
known_at (x ∷ xs) seats id at = (id, at)

-- a table that is closed with a seat, and without one
pub shut_with : {k : Key} {n : Named} {t : TableId} {id : ℕ} {l m : List Sight} {numbers : List ℕ} (xs : List Kind)
    → record { id = t; key = k } ≡ n → Final (Seen (Kept k) id l) numbers xs → l ≡ m
    → IsShut n.key numbers m
shut_with {k} {n} {t} {id} {l} {m} {numbers} xs own final same =
    let s : State Kind (List Sight) = final.0 in
    let kept = final.1.0 in
    subst (λ (z : Named). IsShut z.key numbers m) own (record {
      words = kept.words;
      packed_so = sym final.2 ∙ kept.packed;
      left = record { seats = s.views; reached = kept.reached; known = known_at m s.views id (final.1.1 ∙ ap some same) };
    })

pub shut_alone : {k : Key} {n : Named} {t : TableId} {numbers : List ℕ} (xs : List Kind) (tokens : List Token)
    → record { id = t; key = k } ≡ n → Final (Kept k) numbers xs → tokens ≡ []
    → IsShut n.key numbers (sights_in tokens)
shut_alone {k} {n} {t} {numbers} xs tokens own final none =
    let s : State Kind (List Sight) = final.0 in
    let kept = final.1 in
    subst (λ (ts : List Token). IsShut n.key numbers (sights_in ts)) (sym none)
    (subst (λ (z : Named). IsShut z.key numbers []) own (record { words = kept.words; packed_so = sym final.2 ∙ kept.packed; left = record { seats = s.views; reached = kept.reached; known = tt } }))

number_at : (ws : List Fields) (i n : ℕ) → get_elem? (map packed ws) i ≡ some n → i < length ws → packed (word_at ws i) ≡ n
number_at [] i n at lt = absurd (omega arith)
number_at (w ∷ ws) zero n at lt = some-injective (packed w) n at
number_at (w ∷ ws) (suc i) n at lt = number_at ws i n at (omega arith)

-- the number of a word unpacks to it
pub word_read : {numbers : List ℕ} {i n : ℕ} {o : Option Fields} (ws : List Fields) → numbers ≡ map packed ws
    → ((t : ℕ) → t < length ws → IsLegal (word_at ws t)) → i < length ws
    → get_elem? numbers i ≡ some n → ((w : Fields) → IsLegal w → packed w ≡ n → o ≡ Some w) → o ≡ Some (word_at ws i)
word_read {numbers} {i} {n} {o} ws is legal lt at again =
    again (word_at ws i) (legal i lt) (number_at ws i n (ap (λ (z : List ℕ). get_elem? z i) (sym is) ∙ at) lt)

take_next : (ws : List Fields) (i : ℕ) → i < length ws → take (suc i) ws ≡ take i ws ++ word_at ws i ∷ []
take_next [] i lt = absurd (omega arith)
take_next (w ∷ ws) zero lt = refl
take_next (w ∷ ws) (suc i) lt = ap (λ (z : List Fields). w ∷ z) (take_next ws i (omega arith))

pub take_more : (ws : List Fields) (i : ℕ) → i < length ws → take (i + 1) ws ≡ take i ws ++ word_at ws i ∷ []
take_more ws i lt = let e : i + 1 ≡ suc i = omega arith in ap (λ (n : ℕ). take n ws) e ∙ take_next ws i lt

pub take_whole : (ws : List Fields) (i : ℕ) → length ws ≤ i → take i ws ≡ ws
take_whole [] zero h = refl
take_whole [] (suc i) h = refl
take_whole (w ∷ ws) zero h = absurd (omega arith)
take_whole (w ∷ ws) (suc i) h = ap (λ (z : List Fields). w ∷ z) (take_whole ws i (omega arith))

-- the words at the end tally with the tokens that one seat had
pub left_tally : {k : Key} {words : List Fields} (l : List Sight) → IsLeftBy k words l → TallyWithOthers k.shape words (those l)
unfolding last_of
left_tally {k} {words} l left = let z = last_of {numbers = map packed words} (record { words = words; packed_so = refl; left = left }) in
    (z.rest, z.tally)

pub closed_tally : {k : Key} {words : List Fields} (tokens : List Token) → IsLeftBy k words (sights_in tokens)
    → TallyWithOthers k.shape words (views_in tokens)
closed_tally {k} {words} tokens left = subst (TallyWithOthers k.shape words) (views_listed tokens) (left_tally (sights_in tokens) left)

those_append : (l m : List Sight) → those (l ++ m) ≡ those l ++ those m
those_append [] m = refl
those_append (x ∷ xs) m = ap (λ (vs : List View). x.view ∷ vs) (those_append xs m)

pub all_tally : {k : Key} {words : List Fields} (tokens : List Token) (groups : List GroupHeld)
    → IsLeftBy k words (sights_in tokens ++ sights_together groups)
    → TallyWithOthers k.shape words (views_in tokens ++ views_together groups)
all_tally {k} {words} tokens groups left =
    subst (TallyWithOthers k.shape words)
    (those_append (sights_in tokens) (sights_together groups)
    ∙ ap (λ (vs : List View). vs ++ views_together groups) (views_listed tokens))
    (left_tally (sights_in tokens ++ sights_together groups) left)

pub closed_left : {k : Key} {numbers : List ℕ} {items : List Fields} {count tier : ℕ} {l : List Sight} → (shut : IsShut k numbers l)
    → length k.shape ≡ count → count ≤ tier
    → ((ws : List Fields) → numbers ≡ map packed ws → ((t : ℕ) → t < length ws → IsLegal (word_at ws t)) → length ws ≡ count
    → items ≡ take tier ws)
    → IsLeftBy k items l
unfolding last_of
closed_left {k} {numbers} {items} {count} {tier} {l} shut is past reported =
    let z = last_of shut in
    let long : length shut.words ≡ count = z.long ∙ is in
    subst (λ (ws : List Fields). IsLeftBy k ws l)
    (sym (reported shut.words shut.packed_so z.legal long ∙ take_whole shut.words tier (omega arith))) shut.left
