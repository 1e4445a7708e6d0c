-- A refusal of a line holds whatever follows the line.
use Rattle.std.proofs.Common.{◌≡◌, ◌⊎◌, inl, inr, ℕ, ◌+◌, ◌-◌, ◌≤◌, Bool, true, false, List, [], ◌∷◌, ◌++◌, length, take, drop, Option, Some, None, Result, Ok, Err, refl, sym, ap, subst, ◌∙◌, arith, append_assoc, length-append, take-take}
use Rattle.std.specs.Prelude.{if◌then◌else◌, nat_lt}
use Rattle.std.proofs.lemmas.Grind.{common_steps}
use Rattle.std.proofs.lemmas.List.{take-append-drop}
use Rattle.std.proofs.Math.Seq.{take-append_seam}
use Rattle.text_lines.specs.declared.refusal.Code.TheVariants.{TooLong, BadByte}
use Rattle.text_lines.specs.declared.refusal.Refusal.{Refusal}
use Rattle.text_lines.specs.Text.{lines_of, bad_byte_line}
use Rattle.job_reader.specs.Words.{Word}
use Rattle.job_reader.specs.Trees.{JobTree}
use Rattle.job_reader.specs.Reading.{refused, declared, read_from, unless_bad, job_in}
use Rattle.text_laws.proofs.Joined.{texts-are-read}
use Rattle.text_laws.specs.Refusals.{IsRefusedOfALine, BeginAlike, RefusalsHoldForAllThatFollows, PlainTextsAreRefusedAlike, LinesAboveAreRead}
use Rattle.text_laws.proofs.Folds.{IsFault, IsLate, spelled_out, stays}
use Rattle.text_laws.proofs.BadLines.{bad_line, by-lines, found-in-front, found-behind}
use Rattle.job_reader.proofs.ReadJobs.{short-enough as short-text}

-- a short text is read after its bytes
pub short-read : (text : List ℕ) → length text ≤ 1048576
    → job_in text ≡ unless_bad (bad_byte_line 1 text) (read_from (declared (lines_of text)) 1 (lines_of text))
unfolding job_in
short-read text h =
    ap
    (λ (b : Bool). if b then refused 1 TooLong
    else unless_bad (bad_byte_line 1 text) (read_from (declared (lines_of text)) 1 (lines_of text)))
    (short-text (length text) h)

-- a refused text has a byte that isn't allowed in this line, or has none and is refused by its lines
pub by-byte : (o : Option ℕ) (read : Result JobTree Refusal) (r : Refusal) → unless_bad o read ≡ Err r
    → (o ≡ Some r.line) ⊎ ((o ≡ None) × (read ≡ Err r))
by-byte None read r e = inr (refl, e)
by-byte (Some n) read r e =
    let same : record { line = n; code = BadByte } ≡ r = cc in inl (ap (λ (x : Refusal). Some x.line) same)

-- the same bad byte
byte-stays : (text other : List ℕ) (m : ℕ) → BeginAlike m text other → bad_byte_line 1 text ≡ Some m → bad_byte_line 1 other ≡ Some m
byte-stays text other m alike e =
    let mine : bad_line 1 (take m (lines_of text)) ≡ Some m =
    found-in-front (lines_of text) m 1 m (sym (by-lines text 1) ∙ e) (omega arith) in
    let theirs : bad_line 1 (take m (lines_of other)) ≡ Some m = subst (λ (x : List (List ℕ)). bad_line 1 x ≡ Some m) alike mine in
    by-lines other 1
    ∙ subst (λ (x : List (List ℕ)). bad_line 1 x ≡ Some m) (take-append-drop m (lines_of other))
    (found-behind (take m (lines_of other)) (drop m (lines_of other)) 1 m theirs)

-- the first lines, and others after them
alike-parts : (front : List (List ℕ)) (l : List ℕ) (back ls : List (List ℕ)) (n : ℕ) → n ≡ 1 + length front
    → take n (front ++ l ∷ back) ≡ take n ls → ls ≡ front ++ l ∷ drop n ls
alike-parts front l back ls n e h =
    let count : n ≡ length (front ++ l ∷ []) = omega (arith, e, length-append front (l ∷ [])) in
    let mine : take n (front ++ l ∷ back) ≡ front ++ l ∷ [] =
    ap (λ (k : ℕ). take k (front ++ l ∷ back)) count
    ∙ ap (take (length (front ++ l ∷ []))) (sym (append_assoc front (l ∷ []) back))
    ∙ take-append_seam (front ++ l ∷ []) back in
    sym (take-append-drop n ls)
    ∙ ap (λ (x : List (List ℕ)). x ++ drop n ls) (sym h ∙ mine)
    ∙ append_assoc front (l ∷ []) (drop n ls)

pub fault-stays : (bodies : List Word) (ls other : List (List ℕ)) (r : Refusal) → IsFault None 1 ls r → take r.line ls ≡ take r.line other
    → read_from bodies 1 other ≡ Err r
fault-stays bodies ls other r f h =
    let parts : other ≡ f.front ++ f.line ∷ drop r.line other =
    alike-parts f.front f.line f.back other r.line f.place (ap (take r.line) (sym f.parts) ∙ h) in
    ap (read_from bodies 1) parts
    ∙ stays bodies f.front f.line (drop r.line other) 1 None f.there r.code f.reads f.fault
    ∙ ap (λ (k : ℕ). Err (record { line = k; code = r.code })) (sym f.place)

pub not-late : (text : List ℕ) (r : Refusal) → IsRefusedOfALine text r
    → IsLate (declared (lines_of text)) (lines_of text) 1 (lines_of text) r → ⊥
not-late text r h (inl e) = let low : r.line ≤ length (lines_of text) = h.within in absurd omega (arith, e, low)
not-late text r h (inr m) = let no : true ≡ false = sym m.1 ∙ h.named m.0 in absurd cc

line-stays : (text : List ℕ) (r : Refusal) → IsRefusedOfALine text r → read_from (declared (lines_of text)) 1 (lines_of text) ≡ Err r
    → (bodies : List Word) (other : List (List ℕ)) → take r.line (lines_of text) ≡ take r.line other → read_from bodies 1 other ≡ Err r
line-stays text r h e bodies other alike =
    elim (spelled_out (declared (lines_of text)) (lines_of text) (lines_of text) [] 1 None r refl refl (λ m t. absurd cc) e) [
      | inl f ↦ fault-stays bodies (lines_of text) other r f alike
      | inr late ↦ absurd (not-late text r h late)
    ]

pub why : (text : List ℕ) (r : Refusal) → IsRefusedOfALine text r
    → (bad_byte_line 1 text ≡ Some r.line)
    ⊎ ((bad_byte_line 1 text ≡ None) × (read_from (declared (lines_of text)) 1 (lines_of text) ≡ Err r))
why text r h =
    by-byte (bad_byte_line 1 text) (read_from (declared (lines_of text)) 1 (lines_of text)) r (sym (short-read text h.short) ∙ h.refused)

pub refused-alike : PlainTextsAreRefusedAlike
refused-alike text other r h alike short clean =
    elim (why text r h) [
      | inl bad ↦ let no : ◌≡◌ {A = Option ℕ} None (Some r.line) = sym clean ∙ byte-stays text other r.line alike bad in absurd cc
      | inr e ↦
          short-read other short
          ∙ ap (λ (o : Option ℕ). unless_bad o (read_from (declared (lines_of other)) 1 (lines_of other))) clean
          ∙ line-stays text r h e.1 (declared (lines_of other)) (lines_of other) alike
    ]

pub refusals-hold : RefusalsHoldForAllThatFollows
refusals-hold text other r h alike j job =
    let no : ◌≡◌ {A = Result JobTree Refusal} (Ok j) (Err r) =
    sym ((texts-are-read other j).1 job) ∙ refused-alike text other r h alike job.short job.clean in
    absurd cc

-- fewer lines are alike too
fewer-alike : (n m : ℕ) (ls others : List (List ℕ)) → n ≤ m → take m ls ≡ take m others → take n others ≡ take n ls
fewer-alike n m ls others h e = sym (take-take n m others h) ∙ ap (take n) (sym e) ∙ take-take n m ls h

above-read : (text other : List ℕ) (r s : Refusal) → IsRefusedOfALine text r → bad_byte_line 1 text ≡ None
    → BeginAlike (r.line - 1) text other
    → IsRefusedOfALine other s
    → (b : Bool) → nat_lt s.line r.line ≡ b
    → r.line ≤ s.line
above-read text other r s h clean alike k true e =
    let low : s.line ≤ r.line - 1 = grind (arith, common_steps) in
    let again : job_in text ≡ Err s =
    refused-alike other text s k (fewer-alike s.line (r.line - 1) (lines_of text) (lines_of other) low alike) h.short clean in
    let both : ◌≡◌ {A = Result JobTree Refusal} (Err r) (Err s) = sym h.refused ∙ again in
    let same : r ≡ s = cc in
    let line : r.line ≡ s.line = ap (λ (x : Refusal). x.line) same in
    omega (arith, line)
above-read text other r s h clean alike k false e = grind (arith, common_steps)

pub lines-above : LinesAboveAreRead
lines-above text other r s h clean alike k = above-read text other r s h clean alike k (nat_lt s.line r.line) refl
