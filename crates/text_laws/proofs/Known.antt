-- Locals so far are a front of all locals: those that a line mentions are among them.
use Rattle.std.proofs.Common.{◌≡◌, ℕ, zero, suc, ◌+◌, ◌<◌, Bool, true, false, ◌&&◌, List, [], ◌∷◌, ◌++◌, length, refl, sym, ap, subst, ◌∙◌, arith}
use Rattle.std.specs.Prelude.{if◌then◌else◌, not, ◌||◌, nat_lt}
use Rattle.std.specs.List.{list_all}
use Rattle.std.specs.Str.{bytes_eq}
use Rattle.std.proofs.lemmas.Bool.{ltb-true}
use Rattle.task_code.specs.Names.{is_free, is_among, are_names}
use Rattle.job_reader.specs.Words.{Word, name_at, noted}
use Rattle.job_reader.proofs.SaidLemmas.{and-true, below-true, same-word}
use Rattle.job_reader.proofs.GrowLemmas.{and-left, and-right, noted-grows}
use Rattle.job_reader.proofs.NotedLemmas.{among-some}
use Rattle.job_reader.proofs.WrittenLemmas.{same-bytes, place-name, not-true, or-left, or-right, among-not}
use Rattle.text_laws.proofs.Mentioned.{named_at}
use Rattle.job_reader.proofs.WrittenExprs.{or-true}

-- a declared name is among its names
pub name-among : (names : List Word) (i : ℕ) → are_names names ≡ true → i < length names → is_among names (name_at names i) ≡ true
name-among names i e h = among-some 0 names (name_at names i) (0 + i) (place-name 0 names i e h)

pub first-new : (n : Word) (ns : List Word) → are_names (n ∷ ns) ≡ true → is_among ns n ≡ false
first-new n ns e = not-true (is_among ns n) (and-right (is_free n) _ (and-left _ (are_names ns) e))

pub names-rest : (n : Word) (ns : List Word) → are_names (n ∷ ns) ≡ true → are_names ns ≡ true
names-rest n ns e = and-right (is_free n && not (is_among ns n)) (are_names ns) e

pub first-free : (n : Word) (ns : List Word) → are_names (n ∷ ns) ≡ true → is_free n ≡ true
first-free n ns e = and-left (is_free n) (not (is_among ns n)) (and-left _ (are_names ns) e)

-- the place of a name that is among the first ones is theirs
known-below : (front more : List Word) (i : ℕ) → are_names (front ++ more) ≡ true → i < length (front ++ more)
    → is_among front (name_at (front ++ more) i) ≡ true
    → i < length front
known-below [] more i e h k = absurd cc
known-below (p ∷ ps) more zero e h k = omega arith
known-below (p ∷ ps) more (suc i) e h k =
    let apart : bytes_eq p (name_at (ps ++ more) i) ≡ false = among-not (ps ++ more) p i (first-new p (ps ++ more) e) (omega arith) in
    let later : is_among ps (name_at (ps ++ more) i) ≡ true =
    ap (λ (b : Bool). b || is_among ps (name_at (ps ++ more) i)) (sym apart) ∙ k in
    let rest : i < length ps = known-below ps more i (names-rest p (ps ++ more) e) (omega arith) later in
    omega arith

abbrev pub are_below : ℕ → List ℕ → Bool
are_below n is = list_all (λ i. nat_lt i n) is

pub all-known : (front more : List Word) (is : List ℕ) → are_names (front ++ more) ≡ true → are_below (length (front ++ more)) is ≡ true
    → list_all (is_among front) (named_at (front ++ more) is) ≡ true
    → are_below (length front) is ≡ true
all-known front more [] e h k = refl
all-known front more (i ∷ is) e h k =
    let n : ℕ = length (front ++ more) in
    let low : i < n = ltb-true i n (and-left (nat_lt i n) (are_below n is) h) in
    let rest : List Word = named_at (front ++ more) is in
    let w : Word = name_at (front ++ more) i in
    and-true _ _
    (below-true i (length front) (known-below front more i e low (and-left (is_among front w) (list_all (is_among front) rest) k)))
    (all-known front more is e (and-right (nat_lt i n) (are_below n is) h) (and-right (is_among front w) (list_all (is_among front) rest) k))

-- the first ones of names are names
front-apart : (front more : List Word) (n : Word) → is_among (front ++ more) n ≡ false → is_among front n ≡ false
front-apart [] more n e = refl
front-apart (p ∷ ps) more n e =
    ap (λ (b : Bool). b || is_among ps n) (or-left (bytes_eq p n) (is_among (ps ++ more) n) e)
    ∙ front-apart ps more n (or-right (bytes_eq p n) (is_among (ps ++ more) n) e)

pub names-front : (front more : List Word) → are_names (front ++ more) ≡ true → are_names front ≡ true
names-front [] more e = refl
names-front (p ∷ ps) more e =
    and-true _ _
    (and-true _ _ (first-free p (ps ++ more) e) (ap not (front-apart ps more p (first-new p (ps ++ more) e))))
    (names-front ps more (names-rest p (ps ++ more) e))

among-here : (front : List Word) (n : Word) (more : List Word) → is_among (front ++ n ∷ more) n ≡ true
among-here [] n more = ap (λ (b : Bool). b || is_among more n) (same-bytes n)
among-here (p ∷ ps) n more = or-true (bytes_eq p n) (is_among (ps ++ n ∷ more) n) (among-here ps n more)

other-bytes : (b : Bool) (p n : Word) (names : List Word) → bytes_eq p n ≡ b → is_among names n ≡ true → is_among names p ≡ false
    → b ≡ false
other-bytes true p n names h there apart =
    let same : p ≡ n = same-word p n h in
    let both : true ≡ false = sym there ∙ ap (is_among names) (sym same) ∙ apart in
    absurd cc
other-bytes false p n names h there apart = refl

-- a name after others that differ from it isn't among them
pub behind-new : (front : List Word) (n : Word) (more : List Word) → are_names (front ++ n ∷ more) ≡ true → is_among front n ≡ false
behind-new [] n more e = refl
behind-new (p ∷ ps) n more e =
    let names : List Word = ps ++ n ∷ more in
    ap (λ (b : Bool). b || is_among ps n) (other-bytes (bytes_eq p n) p n names refl (among-here ps n more) (first-new p names e))
    ∙ behind-new ps n more (names-rest p names e)

or-wider : (a b c : Bool) → (b ≡ true → c ≡ true) → (a || b) ≡ true → (a || c) ≡ true
or-wider true b c h e = refl
or-wider false b c h e = h e

among-wider : (front more : List Word) (w : Word) → is_among front w ≡ true → is_among (front ++ more) w ≡ true
among-wider [] more w e = absurd cc
among-wider (p ∷ ps) more w e = or-wider (bytes_eq p w) (is_among ps w) (is_among (ps ++ more) w) (among-wider ps more w) e

among-last : (front : List Word) (w : Word) → is_among (front ++ w ∷ []) w ≡ true
among-last front w = among-here front w []

noted-one : (front : List Word) (w : Word) (b : Bool) → is_among front w ≡ b → is_among (if b then front else front ++ w ∷ []) w ≡ true
noted-one front w true e = e
noted-one front w false e = among-last front w

noted-keeps : (front ws : List Word) (w : Word) → is_among front w ≡ true → is_among (noted front ws) w ≡ true
noted-keeps front ws w e =
    let more = noted-grows front ws in
    subst (λ (x : List Word). is_among x w ≡ true) (sym more.1) (among-wider front more.0 w e)

-- what was mentioned is among the locals
pub noted-all : (front ws : List Word) → list_all (is_among (noted front ws)) ws ≡ true
noted-all front [] = refl
noted-all front (w ∷ ws) =
    let next : List Word = if is_among front w then front else front ++ w ∷ [] in
    and-true _ _ (noted-keeps next ws w (noted-one front w (is_among front w) refl)) (noted-all next ws)
