-- The canonical text of a job is a text of that job.
use Rattle.std.proofs.Common.{◌≡◌, ℕ, ◌<◌, ◌≤◌, ◌^◌, Bool, true, false, ◌&&◌, List, [], ◌∷◌, ◌++◌, length, map, take_all, Some, ℤ, refl, sym, ap, ◌∙◌, arith}
use Rattle.std.specs.Prelude.{nat_le, nat_lt, not, ◌||◌, ◌==◌, if◌then◌else◌}
use Rattle.std.specs.List.{list_all, flat_map, AllByRecursion}
use Rattle.std.specs.Fmt.{signed_decimal}
use Rattle.std.proofs.lemmas.List.{length-map}
use Rattle.std.proofs.lemmas.Simd.{map-map}
use Rattle.std.proofs.lemmas.Grind.{common_steps}
use Rattle.std.proofs.lemmas.List.Folds.{list_all-append}
use Rattle.text_lines.specs.Number.{fits_i64}
use Rattle.task_code.specs.Names.{is_free, is_among, are_names}
use Rattle.task_code.specs.Limits.{is_line, is_of_first, fits_line}
use Rattle.task_code.specs.Mentions.{in_line, mentions, mentioned}
use Rattle.task_code.specs.Tree.{flat}
use Rattle.task_code.specs.Rules.{IsBody, IsOfFirst, is_format, is_array}
use Rattle.task_code.specs.declared.code.Line.{Line}
use Rattle.task_code.specs.declared.code.Line.TheVariants as line
use Rattle.task_code.specs.declared.job.Start.{Start}
use Rattle.job_reader.specs.Words.{Word, Words, name_at, noted}
use Rattle.job_reader.specs.Exprs.{Names}
use Rattle.job_reader.specs.Lines.{end_words, line_names, line_fits, mentions_of}
use Rattle.job_reader.proofs.SaidLemmas.{and-true, AllBelow}
use Rattle.job_reader.proofs.GrowLemmas.{and-left, and-right, all-left, all-right}
use Rattle.job_reader.proofs.WrittenLemmas.{names-free}
use Rattle.job_reader.proofs.WrittenExprs.{AreGood}
use Rattle.job_reader.specs.Trees.{BodyTree, JobTree, array_names, body_names}
use Rattle.job_reader.specs.Legal.{flat_body, IsJobTree}
use Rattle.job_reader.specs.Writing.{code_lines}
use Rattle.job_reader.specs.Grammar.{block_lines, header_words, array_words, names_above, body_lines, listed_in, locals_behind, locals_by, is_in_format, IsSoundBody, array_lines, bodies_lines, start_lines, canonical}
use Rattle.job_reader.proofs.CodeLemmas.{block-code}
use Rattle.text_laws.specs.Canonical.{CanonicalTextsAreTexts}
use Rattle.text_laws.proofs.TextOfLines.{is_printed, is_plain_line, lines-back, bytes-allowed}
use Rattle.text_lines.proofs.NumbersLemmas.{fits as fits-signed}
use Rattle.text_laws.proofs.PrintedLines.{name-printed, decimal-printed, number-printed, line-is, line-plain}
use Rattle.text_laws.proofs.MentionedLocals.{AllLines, code-mentions, noted-firsts}
use Rattle.job_reader.proofs.NotedNames.{same-number}
use Rattle.text_laws.proofs.Heads.{listed-names}
use Rattle.text_laws.proofs.CanonicalItems.{canonical_items, items-said, items-written, AllSound, items-sound}
use Rattle.text_laws.proofs.Fitting.{below}

-- What the lines of a body need: its locals have distinct names, all that they name exists, their numbers fit, and in
-- format 1 the locals are in the order of first mention and no line is an add.
pub record GoodBody (format : ℕ) (arrays bodies : List Word) (b : BodyTree) : Type 0 where
  pub name : is_free b.name ≡ true
  pub good : AreGood (names_above arrays bodies b)
  pub fits : list_all (line_fits (names_above arrays bodies b)) (flat b.block) ≡ true
  pub numbers : list_all fits_line (flat b.block) ≡ true
  pub inside : list_all (λ i. nat_lt i (length b.locals)) (mentions (flat b.block)) ≡ true
  pub order : format ≡ 1 → mentioned 0 (mentions (flat b.block)) ≡ Some (length b.locals)
  pub lines : list_all (is_in_format format) (flat b.block) ≡ true

pub all-lines : (s : Names) (code : List Line) → list_all (line_fits s) code ≡ true → list_all fits_line code ≡ true → AllLines s code
all-lines s [] e f = tt
all-lines s (l ∷ ls) e f = (
  line-is s l (and-left _ (list_all (line_fits s) ls) e) (and-left _ (list_all fits_line ls) f),
  all-lines s ls (and-right (line_fits s l) _ e) (and-right (fits_line l) _ f),
)

code-plain : (s : Names) (code : List Line) → AreGood s → AllLines s code → list_all is_plain_line (code_lines s code) ≡ true
code-plain s [] g h = refl
code-plain s (l ∷ ls) g h = and-true _ _ (line-plain s l g h.0) (code-plain s ls g h.1)

listed-printed : (ns : List Word) → are_names ns ≡ true → list_all is_printed ns ≡ true
listed-printed [] e = refl
listed-printed (n ∷ ns) e =
    and-true _ _ (name-printed n (and-left (is_free n) (not (is_among ns n)) (and-left _ (are_names ns) e)))
    (listed-printed ns (and-right (is_free n && not (is_among ns n)) _ e))

body-plain : (format : ℕ) (arrays bodies : List Word) (b : BodyTree) → GoodBody format arrays bodies b
    → list_all is_plain_line (body_lines format arrays bodies b) ≡ true
body-plain format arrays bodies b g =
    let s : Names = names_above arrays bodies b in
    let lines : list_all is_plain_line (block_lines s b.block) ≡ true =
    ap (list_all is_plain_line) (sym (block-code s b.block))
    ∙ code-plain s (flat b.block) g.good (all-lines s (flat b.block) g.fits g.numbers) in
    and-true _ _
    (and-true _ _ (name-printed b.name g.name) (listed-printed (listed_in format b.locals) (listed-names format b.locals g.good.locals)))
    (list_all-append is_plain_line (block_lines s b.block) (end_words ∷ []) ∙ and-true _ true lines refl)

-- the locals after words that mention them all in their order
behind-all : (format : ℕ) (ls ms : List Word) → (format ≡ 1 → noted [] ms ≡ ls) → locals_behind format (listed_in format ls) ms ≡ ls
behind-all format ls ms h = by (format == 1) refl
  where
    by : (b : Bool) → (format == 1) ≡ b → (if b then noted (if b then [] else ls) ms else (if b then [] else ls)) ≡ ls
    by true e = h (same-number format 1 e)
    by false e = refl

body-sound : (format : ℕ) (arrays bodies : List Word) (b : BodyTree) → GoodBody format arrays bodies b → IsSoundBody format arrays bodies b
body-sound format arrays bodies b g =
    let s : Names = names_above arrays bodies b in
    let all : AllLines s (flat b.block) = all-lines s (flat b.block) g.fits g.numbers in
    let none : length b.locals ≤ length b.locals = omega arith in
    record {
      names = g.fits;
      locals = ap (locals_by format (listed_in format b.locals)) (sym (block-code s b.block))
          ∙ behind-all format b.locals (flat_map mentions_of (code_lines s (flat b.block)))
          (λ f.
          ap (noted []) (code-mentions s (flat b.block) g.good all)
          ∙ noted-firsts b.locals (length b.locals) (mentions (flat b.block)) g.good.locals g.inside 0 (g.order f)
          ∙ take_all (length b.locals) b.locals none);
      lines = g.lines;
    }

module _ (format : ℕ) where
  abbrev pub GoodBodies : List Word → List Word → List BodyTree → Type 0
  GoodBodies arrays bodies [] = Unit {0}
  GoodBodies arrays bodies (b ∷ bs) = GoodBody format arrays bodies b × GoodBodies arrays bodies bs

bodies-plain : (format : ℕ) (arrays bodies : List Word) (bs : List BodyTree) → GoodBodies format arrays bodies bs
    → list_all is_plain_line (bodies_lines format arrays bodies bs) ≡ true
bodies-plain format arrays bodies [] g = refl
bodies-plain format arrays bodies (b ∷ bs) g =
    list_all-append is_plain_line (body_lines format arrays bodies b) (bodies_lines format arrays bodies bs)
    ∙ and-true _ _ (body-plain format arrays bodies b g.0) (bodies-plain format arrays bodies bs g.1)

all-sound : (format : ℕ) (arrays bodies : List Word) (bs : List BodyTree) → GoodBodies format arrays bodies bs
    → AllSound format arrays bodies bs
all-sound format arrays bodies [] g = tt
all-sound format arrays bodies (b ∷ bs) g = (body-sound format arrays bodies b g.0, all-sound format arrays bodies bs g.1)

values-printed : (ns : List ℤ) → list_all fits_i64 ns ≡ true → list_all is_printed (map signed_decimal ns) ≡ true
values-printed [] e = refl
values-printed (n ∷ ns) e =
    and-true _ _ (number-printed n (fits-signed n (and-left _ (list_all fits_i64 ns) e))) (values-printed ns (and-right (fits_i64 n) _ e))

few-cells : (n : ℕ) → nat_le n 4096 ≡ true → n < 2 ^ 64
few-cells n e = let few : n ≤ 4096 = grind (arith, common_steps) in omega arith

array-plain : (a : Word × List ℤ) → is_array a ≡ true → list_all fits_i64 a.1 ≡ true
    → is_plain_line (array_words a.0 (length a.1) a.1) ≡ true
array-plain a e f =
    let front : is_free a.0 && nat_le 1 (length a.1) ≡ true = and-left _ (nat_le (length a.1) 4096) e in
    and-true _ _ (name-printed a.0 (and-left _ (nat_le 1 (length a.1)) front))
    (and-true _ _ (decimal-printed (length a.1) (few-cells (length a.1) (and-right (is_free a.0 && nat_le 1 (length a.1)) _ e))) (values-printed a.1 f))

arrays-plain : (xs : List (Word × List ℤ)) → list_all is_array xs ≡ true → list_all (λ a. list_all fits_i64 a.1) xs ≡ true
    → list_all is_plain_line (array_lines xs) ≡ true
arrays-plain [] e f = refl
arrays-plain (x ∷ xs) e f =
    and-true _ _ (array-plain x (and-left _ (list_all is_array xs) e) (and-left _ (list_all (λ a. list_all fits_i64 a.1) xs) f))
    (arrays-plain xs (and-right (is_array x) _ e) (and-right (list_all fits_i64 x.1) _ f))

starts-plain : (bodies : List Word) (ss : List Start) → are_names bodies ≡ true → list_all (λ s. nat_lt s.body (length bodies)) ss ≡ true
    → list_all (λ s. fits_i64 s.arg) ss ≡ true
    → list_all is_plain_line (start_lines bodies ss) ≡ true
starts-plain bodies [] g e f = refl
starts-plain bodies (s ∷ ss) g e f =
    let there : s.body < length bodies = below s.body (length bodies) (and-left _ (list_all (λ s. nat_lt s.body (length bodies)) ss) e) in
    and-true _ _
    (and-true _ _ (name-printed (name_at bodies s.body) (names-free bodies s.body g there))
    (and-true _ true (number-printed s.arg (fits-signed s.arg (and-left _ (list_all (λ s. fits_i64 s.arg) ss) f))) refl))
    (starts-plain bodies ss g (and-right (nat_lt s.body (length bodies)) _ e) (and-right (fits_i64 s.arg) _ f))

-- a line of a job names what is there
line-there : (n m : ℕ) (l : Line) → is_line n m l ≡ true → line_names n m l ≡ true
line-there n m (line.Do a) e = e
line-there n m (line.If x k) e = e
line-there n m (line.Else k) e = refl
line-there n m line.EndIf e = refl
line-there n m (line.While x k) e = e
line-there n m (line.EndWhile x k) e = refl

lines-there : (s : Names) (n m : ℕ) (code : List Line) → length s.arrays ≡ n → length s.bodies ≡ m → list_all (is_line n m) code ≡ true
    → AllBelow s (mentions code) → list_all (line_fits s) code ≡ true
lines-there s n m [] a b e h = refl
lines-there s n m (l ∷ ls) a b e h =
    and-true _ _
    (and-true _ _
    (ap (λ (x : ℕ). line_names x (length s.bodies) l) a ∙ ap (λ (x : ℕ). line_names n x l) b
    ∙ line-there n m l (and-left _ (list_all (is_line n m) ls) e))
    (all-left _ (in_line l) (mentions ls) h))
    (lines-there s n m ls a b (and-right (is_line n m l) _ e) (all-right _ (in_line l) (mentions ls) h))

-- the names and counts of a job
record Around (arrays bodies : List Word) (n m : ℕ) : Type 0 where
  arrays_named : are_names arrays ≡ true
  bodies_named : are_names bodies ≡ true
  many_arrays : length arrays ≡ n
  many_bodies : length bodies ≡ m

in-format : (format : ℕ) (code : List Line) → (format ≡ 1 → list_all is_of_first code ≡ true) → list_all (is_in_format format) code ≡ true
in-format format code h = by (format == 1) refl
  where
    or-true : (a : Bool) → (a || true) ≡ true
    or-true true = refl
    or-true false = refl

    or-this : (a : Bool) → a ≡ true → (a || false) ≡ true
    or-this true e = refl
    or-this false e = absurd cc

    free : (ls : List Line) → list_all (λ l. is_of_first l || true) ls ≡ true
    free [] = refl
    free (l ∷ ls) = and-true _ _ (or-true (is_of_first l)) (free ls)

    first : (ls : List Line) → list_all is_of_first ls ≡ true → list_all (λ l. is_of_first l || false) ls ≡ true
    first [] e = refl
    first (l ∷ ls) e =
        and-true _ _ (or-this (is_of_first l) (and-left _ (list_all is_of_first ls) e)) (first ls (and-right (is_of_first l) _ e))

    by : (b : Bool) → (format == 1) ≡ b → list_all (λ l. is_of_first l || not b) code ≡ true
    by true e = first code (h (same-number format 1 e))
    by false e = free code

good-bodies : (format : ℕ) (arrays bodies : List Word) (n m : ℕ) (bs : List BodyTree) → Around arrays bodies n m
    → AllByRecursion IsBody (map flat_body bs)
    → (format ≡ 1 → AllByRecursion IsOfFirst (map flat_body bs))
    → list_all (λ b. list_all (is_line n m) b.code) (map flat_body bs) ≡ true → GoodBodies format arrays bodies bs
good-bodies format arrays bodies n m [] r h first e = tt
good-bodies format arrays bodies n m (b ∷ bs) r h first e =
    let inside : list_all (λ i. nat_lt i (length b.locals)) (mentions (flat b.block)) ≡ true = h.0.mentions in
    let s : Names = names_above arrays bodies b in
    let lines : list_all (is_line n m) (flat b.block) ≡ true =
    and-left _ (list_all (λ b. list_all (is_line n m) b.code) (map flat_body bs)) e in (
      record {
        name = h.0.name;
        good = record { arrays = r.arrays_named; bodies = r.bodies_named; locals = h.0.locals };
        fits = lines-there s n m (flat b.block) r.many_arrays r.many_bodies lines inside;
        numbers = h.0.numbers;
        inside = inside;
        order = λ f. (first f).0.order;
        lines = in-format format (flat b.block) (λ f. (first f).0.lines);
      },
      good-bodies format arrays bodies n m bs r h.1 (λ f. (first f).1) (and-right (list_all (is_line n m) (flat b.block)) _ e),
    )

-- what of a job its canonical text is made of
record Legal (j : JobTree) : Type 0 where
  names : are_names (body_names j) ≡ true
  bodies : GoodBodies j.format (array_names j) (body_names j) j.bodies
  starts : list_all (λ s. nat_lt s.body (length (body_names j))) j.starts ≡ true

legal : (j : JobTree) → IsJobTree j → Legal j
legal j h =
    let same : map (λ b. b.name) (map flat_body j.bodies) ≡ body_names j = map-map (λ b. b.name) flat_body j.bodies in
    let named : are_names (body_names j) ≡ true = ap are_names (sym same) ∙ h.bodies in
    let many : length (body_names j) ≡ length (map flat_body j.bodies) =
    ap length (sym same) ∙ length-map (map flat_body j.bodies) (λ b. b.name) in
    let around : Around (array_names j) (body_names j) (length j.arrays) (length (map flat_body j.bodies)) =
    record { arrays_named = h.named; bodies_named = named; many_arrays = length-map j.arrays (λ a. a.0); many_bodies = many } in
    record {
      names = named;
      bodies =
          good-bodies j.format (array_names j) (body_names j) (length j.arrays) (length (map flat_body j.bodies)) j.bodies around h.each
          h.first h.lines;
      starts = ap (λ (n : ℕ). list_all (λ s. nat_lt s.body n) j.starts) many ∙ h.starts;
    }

small-format : (n : ℕ) → is_format n ≡ true → n < 2 ^ 64
small-format n e = by (n == 1) (n == 2) refl refl e
  where
    by : (a b : Bool) → (n == 1) ≡ a → (n == 2) ≡ b → (a || b) ≡ true → n < 2 ^ 64
    by true b h g e = let same : n ≡ 1 = same-number n 1 h in omega arith
    by false true h g e = let same : n ≡ 2 = same-number n 2 g in omega arith
    by false false h g e = absurd cc

canonical-plain : (j : JobTree) → IsJobTree j → Legal j → list_all is_plain_line (canonical j) ≡ true
canonical-plain j h g =
    and-true _ _ (and-true _ true (decimal-printed j.format (small-format j.format h.format)) refl)
    (list_all-append is_plain_line (array_lines j.arrays) (bodies_lines j.format (array_names j) (body_names j) j.bodies ++ start_lines (body_names j) j.starts)
    ∙ and-true _ _ (arrays-plain j.arrays h.arrays h.cells)
    (list_all-append is_plain_line (bodies_lines j.format (array_names j) (body_names j) j.bodies) (start_lines (body_names j) j.starts)
    ∙ and-true _ _ (bodies-plain j.format (array_names j) (body_names j) j.bodies g.bodies)
    (starts-plain (body_names j) j.starts g.names g.starts h.args)))

pub canonical-text : CanonicalTextsAreTexts
canonical-text j h =
    let g = legal j h in
    let plain = canonical-plain j h g in (
      bytes-allowed (canonical j) plain,
      record {
        items = canonical_items j;
        written =
            lines-back (canonical j) plain ∙ ap (λ (x : List Words). header_words j.format ∷ x) (sym (items-written j (body_names j)));
        said = items-said j;
        sound = items-sound j (body_names j) (all-sound j.format (array_names j) (body_names j) j.bodies g.bodies) g.starts;
      },
    )
