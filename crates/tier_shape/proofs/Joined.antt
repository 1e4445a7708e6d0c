-- Texts of widths, cut at each `x` and joined again.
use Rattle.std.proofs.Common.{◌≡◌, ◌≢◌, ℕ, zero, suc, ◌+◌, ◌/◌, ◌%◌, ◌<◌, ◌≤◌, ◌==◌, Bool, true, false, List, [], ◌∷◌, ◌++◌, length, take, drop, map, All, refl, sym, ap, ◌∙◌, subst, arith, inl, inr, codes, length-append, append-nil, length-drop, ◌-◌, nat_lt, IfNone, IfSome, Option, None, Some, Bor}
use Rattle.std.proofs.lemmas.Bool.{cases_lt, cases_Bool, cond-true, cond-false, lt-ltb, le-ltb, ne_eqb, false≢true, true≢false}
use Rattle.std.proofs.lemmas.Fmt.{decimal_injective}
use Rattle.std.proofs.lemmas.List.Splits.{slice_split_none, slice_split_at, slice_split_first, join_with_byte-slice_split, length-slice_split}
use Rattle.std.specs.Fmt.{decimal}
use Rattle.std.specs.List.{slice_split, join_with_byte, position_or_len, position}
use Rattle.std.proofs.lemmas.List.{take_all}
use Rattle.std.proofs.lemmas.List.Sums.{fails_before_first}
use Rattle.tier_shape.specs.Widths.{IsWidth, IsWidthsText, widths_text, IsBadText, IsDeepText}
use Rattle.tier_shape.proofs.Numerals.{one_digit, two_digits, width_digits}

abbrev pub is_x : ℕ → Bool
is_x byte = byte == 120

-- the pieces of a text
abbrev pub pieces : List ℕ → List (List ℕ)
pieces bytes = slice_split is_x bytes

pub all_tail : (P : ℕ → Type 0) (x : ℕ) (xs : List ℕ) → All P (x ∷ xs) → All P xs
all_tail P x xs all k d h = all (suc k) d (omega arith)

pub all_head : (P : ℕ → Type 0) (x : ℕ) (xs : List ℕ) → All P (x ∷ xs) → P x
all_head P x xs all = all 0 0 (omega arith)

all_one : (P : ℕ → Type 0) (x : ℕ) → P x → All P (x ∷ [])
all_one P x here zero d h = here
all_one P x here (suc k) d h = absurd (omega arith)

all_two : (P : ℕ → Type 0) (x y : ℕ) → P x → P y → All P (x ∷ y ∷ [])
all_two P x y here next zero d h = here
all_two P x y here next (suc k) d h = all_one P y next k d (omega arith)

pub all_push : (P : ℕ → Type 0) (xs : List ℕ) (x : ℕ) → All P xs → P x → All P (xs ++ (x ∷ []))
all_push P [] x all last k d h = all_one P x last k d h
all_push P (y ∷ xs) x all last zero d h = all 0 d (omega arith)
all_push P (y ∷ xs) x all last (suc k) d h = all_push P xs x (all_tail P y xs all) last k d (omega arith)

no_x : (width : ℕ) → IsWidth width → All (λ byte. is_x byte ≡ false) (decimal width)
no_x width is =
    let P : List ℕ → Type 0 = λ ds. All (λ byte. is_x byte ≡ false) ds in
    elim (cases_lt width 10) [
      | inl small ↦ subst P (sym (one_digit width small))
          (all_one (λ byte. is_x byte ≡ false) (48 + width) (ne_eqb (48 + width) 120 (λ e. omega arith)))
      | inr more ↦ subst P (sym (two_digits width more (omega arith)))
          (all_two (λ byte. is_x byte ≡ false) (48 + width / 10) (48 + width % 10) (ne_eqb (48 + width / 10) 120 (λ e. omega arith)) (ne_eqb (48 + width % 10) 120 (λ e. omega arith)))
    ]

-- the pieces of joined numbers are the numbers
pub pieces_joined : (w : ℕ) (ws : List ℕ) → All IsWidth (w ∷ ws) → pieces (join_with_byte 120 (map decimal (w ∷ ws))) ≡ map decimal (w ∷ ws)
pieces_joined w [] all = slice_split_none is_x (decimal w) (no_x w (all_head IsWidth w [] all))
pieces_joined w (v ∷ vs) all =
    slice_split_at is_x (decimal w) 120 (join_with_byte 120 (map decimal (v ∷ vs))) (no_x w (all_head IsWidth w (v ∷ vs) all)) refl
    ∙ ap (λ ps. decimal w ∷ ps) (pieces_joined v vs (all_tail IsWidth w (v ∷ vs) all))

pub joined_pieces : (bytes : List ℕ) (w : ℕ) (ws : List ℕ) → pieces bytes ≡ map decimal (w ∷ ws) → bytes ≡ widths_text (w ∷ ws)
joined_pieces bytes w ws e = sym (join_with_byte-slice_split 120 bytes) ∙ ap (join_with_byte 120) e

-- a piece that is no width spoils the text
spoils : (ws vs : List ℕ) (piece : List ℕ) (more : List (List ℕ)) → All IsWidth vs → map decimal ws ++ (piece ∷ more) ≡ map decimal vs
    → ((width : ℕ) → IsWidth width → decimal width ≢ piece) → ⊥
spoils [] [] piece more all e none = cc
spoils [] (v ∷ vs) piece more all e none = none v (all_head IsWidth v vs all) (cc)
spoils (w ∷ ws) [] piece more all e none = cc
spoils (w ∷ ws) (v ∷ vs) piece more all e none = let t : map decimal ws ++ (piece ∷ more) ≡ map decimal vs = cc in
    spoils ws vs piece more (all_tail IsWidth v vs all) t none

pub bad_piece : (text ws : List ℕ) (piece : List ℕ) (more : List (List ℕ)) → (text ≡ codes "flat" → ⊥)
    → pieces text ≡ map decimal ws ++ (piece ∷ more)
    → ((width : ℕ) → IsWidth width → decimal width ≢ piece) → IsBadText text
bad_piece text ws piece more apart split none [] says = apart says.says
bad_piece text ws piece more apart split none (v ∷ vs) says =
    spoils ws (v ∷ vs) piece more says.each (sym split ∙ ap pieces says.says ∙ pieces_joined v vs says.each) none

same_numbers : (ws vs : List ℕ) → All IsWidth ws → All IsWidth vs → map decimal ws ≡ map decimal vs → ws ≡ vs
same_numbers [] [] a b e = refl
same_numbers [] (v ∷ vs) a b e = cc
same_numbers (w ∷ ws) [] a b e = cc
same_numbers (w ∷ ws) (v ∷ vs) a b e =
    let h : decimal w ≡ decimal v = cc in
    let t : map decimal ws ≡ map decimal vs = cc in
    let w-is = all_head IsWidth w ws a in
    let v-is = all_head IsWidth v vs b in
    let same : w ≡ v = decimal_injective w v (omega arith) (omega arith) h in
    let rest = same_numbers ws vs (all_tail IsWidth w ws a) (all_tail IsWidth v vs b) t in
    cc

pub not_flat : (v : ℕ) (vs : List ℕ) → All IsWidth (v ∷ vs) → codes "flat" ≡ widths_text (v ∷ vs) → ⊥
not_flat v vs all e =
    let split : pieces (codes "flat") ≡ map decimal (v ∷ vs) = ap pieces e ∙ pieces_joined v vs all in
    let head : decimal v ≡ codes "flat" = cc in
    let d = width_digits v (codes "flat") (all_head IsWidth v vs all) head in omega (arith, d.high)

-- a text says one list of widths
pub one_reading : (text ws vs : List ℕ) → IsWidthsText text ws → IsWidthsText text vs → ws ≡ vs
one_reading text [] [] a b = refl
one_reading text [] (v ∷ vs) a b = absurd (not_flat v vs b.each (sym a.says ∙ b.says))
one_reading text (w ∷ ws) [] a b = absurd (not_flat w ws a.each (sym b.says ∙ a.says))
one_reading text (w ∷ ws) (v ∷ vs) a b =
    same_numbers (w ∷ ws) (v ∷ vs) a.each b.each
    (sym (pieces_joined w ws a.each) ∙ ap pieces (sym a.says ∙ b.says) ∙ pieces_joined v vs b.each)

-- what has been read of a text: these widths of its pieces, the first six of which are kept, and whether there were
-- more
pub record IsReadTo (text : List ℕ) (left : List (List ℕ)) (kept : List ℕ) (deep : Bool) : Type 0 where
  pub widths : List ℕ
  pub each : All IsWidth widths
  pub split : pieces text ≡ map decimal widths ++ left
  pub few : length kept ≤ 6
  pub same : deep ≡ false → kept ≡ widths
  pub full : deep ≡ true → (length kept ≡ 6) × (6 < length widths)

pub read_none : (text : List ℕ) → IsReadTo text (pieces text) [] false
read_none text = record {
  widths = [];
  each = λ k d h. absurd (omega arith);
  split = refl;
  few = omega arith;
  same = λ e. refl;
  full = λ e. absurd (false≢true e);
}

one_more : (ws : List ℕ) (w : ℕ) (piece : List ℕ) (left : List (List ℕ)) → decimal w ≡ piece
    → map decimal ws ++ (piece ∷ left) ≡ map decimal (ws ++ (w ∷ [])) ++ left
one_more [] w piece left same = ap (λ p. p ∷ left) (sym same)
one_more (v ∷ ws) w piece left same = ap (λ ps. decimal v ∷ ps) (one_more ws w piece left same)

pub read_kept : (text kept piece : List ℕ) (left : List (List ℕ)) (deep : Bool) (w : ℕ) → IsReadTo text (piece ∷ left) kept deep
    → length kept < 6 → IsWidth w → decimal w ≡ piece
    → IsReadTo text left (kept ++ (w ∷ [])) deep
read_kept text kept piece left true w so capacity is same = absurd (let f = so.full refl in omega (arith, f.0))
read_kept text kept piece left false w so capacity is same = record {
  widths = so.widths ++ (w ∷ []);
  each = all_push IsWidth so.widths w so.each is;
  split = so.split ∙ one_more so.widths w piece left same;
  few = omega (arith, length-append kept (w ∷ []));
  same = λ e. ap (λ l. l ++ (w ∷ [])) (so.same refl);
  full = λ e. absurd (false≢true e);
}

pub read_over : (text kept piece : List ℕ) (left : List (List ℕ)) (deep : Bool) (w : ℕ) → IsReadTo text (piece ∷ left) kept deep
    → 6 ≤ length kept → IsWidth w → decimal w ≡ piece
    → IsReadTo text left kept true
read_over text kept piece left deep w so capacity is same = record {
  widths = so.widths ++ (w ∷ []);
  each = all_push IsWidth so.widths w so.each is;
  split = so.split ∙ one_more so.widths w piece left same;
  few = so.few;
  same = λ e. absurd (true≢false e);
  full = λ e. (omega (arith, so.few), over);
} where
  over : 6 < length (so.widths ++ (w ∷ []))
  over = elim (cases_Bool deep) [
    | inl yes_deep ↦ let f = so.full yes_deep in omega (arith, f.1, length-append so.widths (w ∷ []))
    | inr near ↦ let f = ap length (so.same near) in omega (arith, f, length-append so.widths (w ∷ []))
  ]

pub says_widths : (text ws : List ℕ) → All IsWidth ws → pieces text ≡ map decimal ws ++ [] → IsWidthsText text ws
says_widths text [] all split = absurd (omega (arith, length-slice_split is_x text, ap length split))
says_widths text (w ∷ ws) all split = record { each = all; says = joined_pieces text w ws (split ∙ append-nil (map decimal (w ∷ ws))) }

pub read_near : (text kept : List ℕ) (deep : Bool) → IsReadTo text [] kept deep → deep ≡ false → IsWidthsText text kept × (length kept ≤ 6)
read_near text kept deep so near = (subst (IsWidthsText text) (sym (so.same near)) (says_widths text so.widths so.each so.split), so.few)

pub read_deep : (text kept : List ℕ) (deep : Bool) → IsReadTo text [] kept deep → deep ≡ true → IsDeepText text
read_deep text kept deep so over = (so.widths, says_widths text so.widths so.each so.split, (so.full over).1)

pub read_bad : (text kept piece : List ℕ) (left : List (List ℕ)) (deep : Bool) → (text ≡ codes "flat" → ⊥)
    → IsReadTo text (piece ∷ left) kept deep
    → ((width : ℕ) → IsWidth width → decimal width ≢ piece) → IsBadText text
read_bad text kept piece left deep apart so none = bad_piece text so.widths piece left apart so.split none

pub reads_flat : (text : List ℕ) → text ≡ codes "flat" → IsWidthsText text []
reads_flat text e = record { each = λ k d h. absurd (omega arith); says = e }

-- the pieces of what is left of a text, and how much that is
abbrev pub left_of : Option (Bor (List ℕ)) → List (List ℕ)
left_of None = []
left_of (Some bytes) = pieces bytes.now

abbrev pub size_of : Option (Bor (List ℕ)) → ℕ
size_of None = 0
size_of (Some bytes) = length bytes.now + 1

-- the first piece and the others
pub cut_here : (bytes : List ℕ) (at : ℕ) → position is_x bytes ≡ Some at
    → (at < length bytes) × (pieces bytes ≡ take at bytes ∷ pieces (drop (at + 1) bytes))
cut_here bytes at e = elim (cases_lt (position_or_len is_x bytes) (length bytes)) [
  | inl there ↦
      let found : position is_x bytes ≡ Some (position_or_len is_x bytes) =
      cond-true (nat_lt (position_or_len is_x bytes) (length bytes)) (Some (position_or_len is_x bytes)) None
      (lt-ltb (position_or_len is_x bytes) (length bytes) there) in
      let same : position_or_len is_x bytes ≡ at = cc in
      let P : ℕ → Type 0 = λ n. (n < length bytes) × (pieces bytes ≡ take n bytes ∷ pieces (drop (n + 1) bytes)) in
      subst P same (there, slice_split_first is_x bytes 0 there)
  | inr none ↦
      let found : position is_x bytes ≡ None =
      cond-false (nat_lt (position_or_len is_x bytes) (length bytes)) (Some (position_or_len is_x bytes)) None
      (le-ltb (position_or_len is_x bytes) (length bytes) none) in
      cc
]

pub no_cut : (bytes : List ℕ) → position is_x bytes ≡ None → pieces bytes ≡ bytes ∷ []
no_cut bytes e = elim (cases_lt (position_or_len is_x bytes) (length bytes)) [
  | inl there ↦
      let found : position is_x bytes ≡ Some (position_or_len is_x bytes) =
      cond-true (nat_lt (position_or_len is_x bytes) (length bytes)) (Some (position_or_len is_x bytes)) None
      (lt-ltb (position_or_len is_x bytes) (length bytes) there) in
      cc
  | inr none ↦ slice_split_none is_x bytes (λ k d h. fails_before_first is_x bytes k d (omega arith))
]

-- the same of what a call hands back as the rest
pub cut_off : (bytes : List ℕ) (at : ℕ) → position is_x bytes ≡ Some at
    → (pieces bytes ≡ take at bytes ∷ pieces (take (length bytes - (at + 1)) (drop (at + 1) bytes)))
    × (length (take (length bytes - (at + 1)) (drop (at + 1) bytes)) < length bytes)
cut_off bytes at e =
    let cut = cut_here bytes at e in
    let long : length (drop (at + 1) bytes) ≤ length bytes - (at + 1) = omega (arith, length-drop (at + 1) bytes) in
    rw (take_all (length bytes - (at + 1)) (drop (at + 1) bytes) long) (cut.1, omega (arith, length-drop (at + 1) bytes, cut.0))

pub cut_left : (bytes piece : List ℕ) (more : Option (Bor (List ℕ))) → IfNone more (pieces bytes ≡ piece ∷ [])
    → IfSome more (λ m. (pieces bytes ≡ piece ∷ pieces m.now) × (length m.now < length bytes))
    → (pieces bytes ≡ piece ∷ left_of more) × (size_of more < length bytes + 1)
cut_left bytes piece None last next = (last, omega arith)
cut_left bytes piece (Some m) last next = (next.0, omega (arith, next.1))

-- a read of what is left
pub read_next : (text kept bytes piece : List ℕ) (rest more : Option (Bor (List ℕ))) (deep : Bool) → left_of rest ≡ pieces bytes
    → IfNone more (pieces bytes ≡ piece ∷ []) → IfSome more (λ m. (pieces bytes ≡ piece ∷ pieces m.now) × (length m.now < length bytes))
    → IsReadTo text (left_of rest) kept deep → IsReadTo text (piece ∷ left_of more) kept deep
read_next text kept bytes piece rest more deep same last next so =
    let P : List (List ℕ) → Type 0 = λ left. IsReadTo text left kept deep in
    subst P (same ∙ (cut_left bytes piece more last next).0) so
