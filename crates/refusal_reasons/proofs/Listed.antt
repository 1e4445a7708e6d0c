-- Faulty lines, one after another.
use Rattle.std.proofs.Common.{◌≡◌, ◌≤◌, ◌<◌, ◌-◌, ℕ, zero, suc, List, [], ◌∷◌, ◌++◌, length, Option, Some, None, Result, Ok, Err, refl, sym, ap, ◌∙◌, arith, append_assoc}
use Rattle.std.specs.Prelude.{MatchOption, MatchResult}
use Rattle.text_lines.specs.declared.refusal.Refusal.{Refusal}
use Rattle.job_reader.specs.Reading.{job_in}
use Rattle.job_reader.specs.Trees.{JobTree}
use Rattle.refusal_reasons.specs.Faults.{faulty, listed, or_none, repaired}
use Rattle.refusal_reasons.specs.Laws.{FaultsAreFew, TheFirstFaultIsTheRefusal}

append_nil : (rs : List Refusal) → rs ++ [] ≡ rs
append_nil [] = refl
append_nil (r ∷ rs) = ap (λ (xs : List Refusal). r ∷ xs) (append_nil rs)

-- none is left
pub none_left : (rs all : List Refusal) (n : ℕ) (text : List ℕ) → n ≤ 0 → rs ++ faulty n text ≡ all → rs ≡ all
unfolding faulty
none_left rs all zero text z h = sym (append_nil rs) ∙ h
none_left rs all (suc n) text z h = absurd (omega arith)

-- the text is a job
pub no_fault : (rs all : List Refusal) (n : ℕ) (text : List ℕ) (job : JobTree) → job_in text ≡ Ok job → rs ++ faulty n text ≡ all → rs ≡ all
unfolding faulty
no_fault rs all zero text job e h = sym (append_nil rs) ∙ h
no_fault rs all (suc n) text job e h =
    sym (append_nil rs) ∙ ap (λ (xs : List Refusal). rs ++ xs) (sym (ap (listed (faulty n) text) e)) ∙ h

-- a fault, after which no line is read
pub last_fault : (rs all new : List Refusal) (n : ℕ) (text : List ℕ) (r : Refusal) → 0 < n → job_in text ≡ Err r → repaired text r ≡ None
    → new ≡ rs ++ r ∷ [] → rs ++ faulty n text ≡ all → new ≡ all
unfolding faulty
last_fault rs all new zero text r lt e none s h = absurd (omega arith)
last_fault rs all new (suc n) text r lt e none s h =
    s
    ∙ ap (λ (xs : List Refusal). rs ++ xs)
    (sym (ap (listed (faulty n) text) e ∙ ap (λ (o : Option (List ℕ)). r ∷ or_none (faulty n) o) none))
    ∙ h

-- and one after which others are looked for
pub next_fault : (rs all new : List Refusal) (n : ℕ) (text other : List ℕ) (r : Refusal) → 0 < n → job_in text ≡ Err r
    → repaired text r ≡ Some other → new ≡ rs ++ r ∷ [] → rs ++ faulty n text ≡ all → new ++ faulty (n - 1) other ≡ all
unfolding faulty
next_fault rs all new zero text other r lt e some s h = absurd (omega arith)
next_fault rs all new (suc n) text other r lt e some s h =
    let m : suc n - 1 ≡ n = omega arith in
    ap (λ (k : ℕ). new ++ faulty k other) m
    ∙ ap (λ (xs : List Refusal). xs ++ faulty n other) s
    ∙ append_assoc rs (r ∷ []) (faulty n other)
    ∙ ap (λ (xs : List Refusal). rs ++ xs)
    (sym (ap (listed (faulty n) text) e ∙ ap (λ (o : Option (List ℕ)). r ∷ or_none (faulty n) o) some))
    ∙ h

-- ---- by what was found

abbrev IsFound : Option Refusal → List ℕ → Type 0
IsFound found text = MatchOption found ((job : JobTree) × (job_in text ≡ Ok job)) (λ r. job_in text ≡ Err r)

pub ended : (rs all : List Refusal) (n : ℕ) (text seen : List ℕ) (found : Option Refusal) → seen ≡ text → IsFound found seen → found ≡ None
    → rs ++ faulty n text ≡ all → rs ≡ all
ended rs all n text seen None same m e h = no_fault rs all n text m.0 (ap job_in (sym same) ∙ m.1) h
ended rs all n text seen (Some r) same m e h = absurd cc

pub refusal_is : (text seen : List ℕ) (found : Option Refusal) (r : Refusal) → seen ≡ text → IsFound found seen → found ≡ Some r
    → job_in text ≡ Err r
refusal_is text seen None r same m e = absurd cc
refusal_is text seen (Some q) r same m e =
    let one : q ≡ r = cc in
    ap job_in (sym same) ∙ m ∙ ap (λ (x : Refusal). Err x) one

few : (n : ℕ) (text : List ℕ) → length (faulty n text) ≤ n
unfolding faulty
few zero text = omega arith
few (suc n) text = by (λ other. few n other) (job_in text)
  where
    rest : ((other : List ℕ) → length (faulty n other) ≤ n) → (o : Option (List ℕ)) → length (or_none (faulty n) o) ≤ n
    rest fewer None = omega arith
    rest fewer (Some other) = fewer other

    by : ((other : List ℕ) → length (faulty n other) ≤ n) → (read : Result JobTree Refusal) → length (listed (faulty n) text read) ≤ suc n
    by fewer (Ok job) = omega arith
    by fewer (Err r) = let h = rest fewer (repaired text r) in omega arith

pub faults-are-few : FaultsAreFew
faults-are-few text = few 20 text

first : (n : ℕ) (text : List ℕ) (read : Result JobTree Refusal)
    → MatchResult read (λ job. listed (faulty n) text read ≡ []) (λ r. (more : List Refusal) × (listed (faulty n) text read ≡ r ∷ more))
first n text (Ok job) = refl
first n text (Err r) = (or_none (faulty n) (repaired text r), refl)

pub the-first-fault-is-the-refusal : TheFirstFaultIsTheRefusal
unfolding faulty
the-first-fault-is-the-refusal text = first 19 text (job_in text)
