-- What `run` makes of a number behind an option, whatever the number is.
use Rattle.std.proofs.Common.{◌≡◌, ℕ, ◌<◌, ◌≤◌, ◌^◌, Bool, true, false, true≢false, List, [], ◌∷◌, ◌==◌, ◌&&◌, codes, cond, decimal, drop, length, nat_lt, nat_le, refl, sym, ap, ◌∙◌, subst, arith, Some, ap₂, find}
use Rattle.std.specs.Prelude.{if◌then◌else◌}
use Rattle.std.specs.Char.{digit_value}
use Rattle.std.specs.Str.Parse.{AllDigits, IsNumeral, digits_value, without_leading_plus}
use Rattle.std.proofs.lemmas.Bool.{eqb-true, leb-true, lt-ltb}
use Rattle.std.proofs.lemmas.Fmt.{decimal_is_IsNumeral}
use Rattle.std.specs.Option.{unwrap_or}
use Rattle.clap.specs.Faults.{fault_of, check_fault, defaults_fault, settle_fault, walk_fault}
use Rattle.clap.specs.Kinds.{Kinds, or_else}
use Rattle.clap.specs.Simple.{Shape, built, label_of, new_shape, subcommand_of}
use Rattle.clap.specs.ValueTests.{is_numeral, is_unsigned_in}
use Rattle.clap.specs.Walk.{Held, answers_to, finished, nothing_held, settled, walk, walk_from}
use Rattle.clap.specs.declared.builder.value_parser.ValueParser.TheVariants as vp
use Rattle.clap.specs.declared.error.kind.ErrorKind.TheVariants.{ValueValidation}
use Rattle.clap.proofs.OnLiterals.{clap_on_literals}
use Rattle.clap.proofs.ValueTestLemmas.{Accepts-accepts}
use Rattle.clap.proofs.WalkLemmas.{both}
use Rattle.bsp_words.specs.CommandLine.{are_refused, asked_by, asked_in, clash_kinds, clashes_by, number_from, program, refused_by}
use Rattle.bsp_words.specs.Laws.{Asks, EachLimitAsks, EachNumberAsks, EachNumberOfWorkersAsks, EachOtherNumberIsRefused}
use Rattle.bsp_words.specs.declared.asked.Asked.TheVariants.{Run}

-- a number from 1 to the most, as the parser tests a text that doesn't begin with a hyphen
abbrev is_taken : ℕ → List ℕ → Bool
is_taken most text =
    let n = digits_value 10 (without_leading_plus text) in
    is_numeral (without_leading_plus text) && (nat_lt n (2 ^ 63) && (nat_le 1 n && nat_le n most))

never : (a b : Bool) → (a && (b && false)) ≡ false
never true true = refl
never true false = refl
never false b = refl

ends : (most n : ℕ) → most ≤ 1000000 → (b : Bool) → nat_le n most ≡ b
    → (nat_lt n (2 ^ 63) && (nat_le 1 n && nat_le n most)) ≡ (nat_lt n (2 ^ 64) && (nat_le 1 n && nat_le n most))
ends most n small true e =
    let below : n ≤ most = leb-true _ _ e in
    rw (lt-ltb n (2 ^ 63) (omega arith), lt-ltb n (2 ^ 64) (omega arith)) refl
ends most n small false e = rw e (never _ _ ∙ sym (never _ _))

same : (most : ℕ) (text : List ℕ) → most ≤ 1000000 → is_taken most text ≡ is_unsigned_in 1 most text
same most text small =
    ap (λ (b : Bool). is_numeral (without_leading_plus text) && b)
    (ends most (digits_value 10 (without_leading_plus text)) small (nat_le (digits_value 10 (without_leading_plus text)) most) refl)

-- a hyphen is no digit
nothing : (a : Bool) → (a && false) ≡ false
nothing true = refl
nothing false = refl

hyphened : (ds : List ℕ) → is_numeral (45 ∷ ds) ≡ false
hyphened ds = nothing (nat_lt 0 (length (45 ∷ ds)))

numeral : (most : ℕ) (text : List ℕ) → is_unsigned_in 1 most text ≡ true → is_numeral (without_leading_plus text) ≡ true
numeral most text e =
    let n = digits_value 10 (without_leading_plus text) in
    (both (is_numeral (without_leading_plus text)) (nat_lt n (2 ^ 64) && (nat_le 1 n && nat_le n most)) e).0

no-hyphen : (most d : ℕ) (ds : List ℕ) → is_unsigned_in 1 most (d ∷ ds) ≡ true → (d == 45) ≡ false
no-hyphen most d ds e = go (d == 45) refl
  where
    go : (b : Bool) → (d == 45) ≡ b → b ≡ false
    go true h =
        let here : is_unsigned_in 1 most (45 ∷ ds) ≡ true = subst (λ (x : ℕ). is_unsigned_in 1 most (x ∷ ds) ≡ true) (eqb-true d 45 h) e in
        sym (numeral most (45 ∷ ds) here) ∙ hyphened ds
    go false h = refl

-- ---- the words after `run`

-- `run` as the parser builds it
abbrev run : Shape
run = unwrap_or (find (λ s. answers_to (codes "run") (label_of s)) (built program).subs) (new_shape [])

-- an option and its value are held
abbrev one_held : List ℕ → List ℕ → Held
one_held name text = record {
  rows = [];
  pending = Some (name, text ∷ []);
  skip = 0;
}

-- what refuses the words: a fault met on the way, or one of what is held at their end
abbrev ends_by : Kinds → Held → Kinds
ends_by met h =
    or_else met
    (or_else []
    (or_else (settle_fault run.rules run.args_override_self h)
    (or_else (defaults_fault (settled run.rules h).rows run.rules) (check_fault run (finished run.rules h) false))))

-- ---- `--limit`

limit-walked : (d : ℕ) (ds : List ℕ) → (d == 45) ≡ false
    → (walk run.rules [] nothing_held (codes "--limit" ∷ (d ∷ ds) ∷ [])).held ≡ one_held (codes "limit") (d ∷ ds)
unfolding clap_on_literals
limit-walked d ds e = rw (e, e) refl

limit-met : (d : ℕ) (ds : List ℕ) → (d == 45) ≡ false
    → walk_fault run [] (walk_from nothing_held) (codes "--limit" ∷ (d ∷ ds) ∷ []) ≡ []
unfolding clap_on_literals
limit-met d ds e = rw (e, e) refl

limit-entered : (name : List ℕ) (d : ℕ) (ds : List ℕ)
    → subcommand_of program (name ∷ codes "run" ∷ codes "--limit" ∷ (d ∷ ds) ∷ [])
    ≡ Some (codes "run", finished run.rules (walk run.rules [] nothing_held (codes "--limit" ∷ (d ∷ ds) ∷ [])).held)
unfolding clap_on_literals
limit-entered name d ds = refl

limit-said : (d : ℕ) (ds : List ℕ) → (d == 45) ≡ false
    → asked_by (Some (codes "run", finished run.rules (one_held (codes "limit") (d ∷ ds))))
    ≡ Run 1 (number_from 1000000 1000000 (Some (d ∷ ds)))
unfolding clap_on_literals
limit-said d ds e = rw e refl

limit-asked : (name : List ℕ) (d : ℕ) (ds : List ℕ) → (d == 45) ≡ false
    → asked_in (name ∷ codes "run" ∷ codes "--limit" ∷ (d ∷ ds) ∷ []) ≡ Run 1 (number_from 1000000 1000000 (Some (d ∷ ds)))
limit-asked name d ds e =
    ap asked_by (limit-entered name d ds)
    ∙ ap (λ (h : Held). asked_by (Some (codes "run", finished run.rules h))) (limit-walked d ds e)
    ∙ limit-said d ds e

limit-fault : (name : List ℕ) (d : ℕ) (ds : List ℕ) → (d == 45) ≡ false
    → fault_of program (name ∷ codes "run" ∷ codes "--limit" ∷ (d ∷ ds) ∷ []) ≡ or_else (ends_by [] (one_held (codes "limit") (d ∷ ds))) []
unfolding clap_on_literals
limit-fault name d ds e = ap₂ (λ (met : Kinds) (h : Held). or_else (ends_by met h) []) (limit-met d ds e) (limit-walked d ds e)

limit-clashes : (name : List ℕ) (d : ℕ) (ds : List ℕ) → (d == 45) ≡ false
    → clashes_by (Some (codes "run", finished run.rules (one_held (codes "limit") (d ∷ ds)))) ≡ false
unfolding clap_on_literals
limit-clashes name d ds e = refl

limit-apart : (name : List ℕ) (d : ℕ) (ds : List ℕ) → (d == 45) ≡ false
    → clashes_by (subcommand_of program (name ∷ codes "run" ∷ codes "--limit" ∷ (d ∷ ds) ∷ [])) ≡ false
limit-apart name d ds e =
    ap clashes_by (limit-entered name d ds)
    ∙ ap (λ (h : Held). clashes_by (Some (codes "run", finished run.rules h))) (limit-walked d ds e)
    ∙ limit-clashes name d ds e

limit-fault-taken : (name : List ℕ) (d : ℕ) (ds : List ℕ) → (d == 45) ≡ false → is_taken 1000000 (d ∷ ds) ≡ true
    → fault_of program (name ∷ codes "run" ∷ codes "--limit" ∷ (d ∷ ds) ∷ []) ≡ []
unfolding clap_on_literals
limit-fault-taken name d ds e a = limit-fault name d ds e ∙ rw e (rw a refl)

limit-taken : (name : List ℕ) (d : ℕ) (ds : List ℕ) → (d == 45) ≡ false → is_taken 1000000 (d ∷ ds) ≡ true
    → refused_by (name ∷ codes "run" ∷ codes "--limit" ∷ (d ∷ ds) ∷ []) ≡ []
limit-taken name d ds e a = ap₂ or_else (limit-fault-taken name d ds e a) (ap clash_kinds (limit-apart name d ds e))

limit-fault-refused : (name : List ℕ) (d : ℕ) (ds : List ℕ) → (d == 45) ≡ false → is_taken 1000000 (d ∷ ds) ≡ false
    → fault_of program (name ∷ codes "run" ∷ codes "--limit" ∷ (d ∷ ds) ∷ []) ≡ ValueValidation ∷ []
unfolding clap_on_literals
limit-fault-refused name d ds e a = limit-fault name d ds e ∙ rw e (rw a refl)

limit-refused : (name : List ℕ) (d : ℕ) (ds : List ℕ) → (d == 45) ≡ false → is_taken 1000000 (d ∷ ds) ≡ false
    → refused_by (name ∷ codes "run" ∷ codes "--limit" ∷ (d ∷ ds) ∷ []) ≡ ValueValidation ∷ []
limit-refused name d ds e a = ap₂ or_else (limit-fault-refused name d ds e a) (ap clash_kinds (limit-apart name d ds e))

no-limit : (name : List ℕ) → refused_by (name ∷ codes "run" ∷ codes "--limit" ∷ [] ∷ []) ≡ ValueValidation ∷ []
unfolding clap_on_literals
no-limit name = refl

pub limits-ask : EachLimitAsks
limits-ask name [] e = absurd (true≢false (sym e))
limits-ask name (d ∷ ds) e =
    let first = no-hyphen 1000000 d ds e in (
      limit-taken name d ds first (same 1000000 (d ∷ ds) (omega arith) ∙ e),
      limit-asked name d ds first ∙ ap (λ (b : Bool). Run 1 (if b then digits_value 10 (without_leading_plus (d ∷ ds)) else 1000000)) e,
    )

-- ---- `--workers`

workers-walked : (d : ℕ) (ds : List ℕ) → (d == 45) ≡ false
    → (walk run.rules [] nothing_held (codes "--workers" ∷ (d ∷ ds) ∷ [])).held ≡ one_held (codes "workers") (d ∷ ds)
unfolding clap_on_literals
workers-walked d ds e = rw (e, e) refl

workers-met : (d : ℕ) (ds : List ℕ) → (d == 45) ≡ false
    → walk_fault run [] (walk_from nothing_held) (codes "--workers" ∷ (d ∷ ds) ∷ []) ≡ []
unfolding clap_on_literals
workers-met d ds e = rw (e, e) refl

workers-entered : (name : List ℕ) (d : ℕ) (ds : List ℕ)
    → subcommand_of program (name ∷ codes "run" ∷ codes "--workers" ∷ (d ∷ ds) ∷ [])
    ≡ Some (codes "run", finished run.rules (walk run.rules [] nothing_held (codes "--workers" ∷ (d ∷ ds) ∷ [])).held)
unfolding clap_on_literals
workers-entered name d ds = refl

workers-said : (d : ℕ) (ds : List ℕ) → (d == 45) ≡ false
    → asked_by (Some (codes "run", finished run.rules (one_held (codes "workers") (d ∷ ds))))
    ≡ Run (number_from 64 1 (Some (d ∷ ds))) 1000000
unfolding clap_on_literals
workers-said d ds e = rw e refl

workers-asked : (name : List ℕ) (d : ℕ) (ds : List ℕ) → (d == 45) ≡ false
    → asked_in (name ∷ codes "run" ∷ codes "--workers" ∷ (d ∷ ds) ∷ []) ≡ Run (number_from 64 1 (Some (d ∷ ds))) 1000000
workers-asked name d ds e =
    ap asked_by (workers-entered name d ds)
    ∙ ap (λ (h : Held). asked_by (Some (codes "run", finished run.rules h))) (workers-walked d ds e)
    ∙ workers-said d ds e

workers-fault : (name : List ℕ) (d : ℕ) (ds : List ℕ) → (d == 45) ≡ false
    → fault_of program (name ∷ codes "run" ∷ codes "--workers" ∷ (d ∷ ds) ∷ [])
    ≡ or_else (ends_by [] (one_held (codes "workers") (d ∷ ds))) []
unfolding clap_on_literals
workers-fault name d ds e = ap₂ (λ (met : Kinds) (h : Held). or_else (ends_by met h) []) (workers-met d ds e) (workers-walked d ds e)

workers-clashes : (name : List ℕ) (d : ℕ) (ds : List ℕ) → (d == 45) ≡ false
    → clashes_by (Some (codes "run", finished run.rules (one_held (codes "workers") (d ∷ ds)))) ≡ false
unfolding clap_on_literals
workers-clashes name d ds e = refl

workers-apart : (name : List ℕ) (d : ℕ) (ds : List ℕ) → (d == 45) ≡ false
    → clashes_by (subcommand_of program (name ∷ codes "run" ∷ codes "--workers" ∷ (d ∷ ds) ∷ [])) ≡ false
workers-apart name d ds e =
    ap clashes_by (workers-entered name d ds)
    ∙ ap (λ (h : Held). clashes_by (Some (codes "run", finished run.rules h))) (workers-walked d ds e)
    ∙ workers-clashes name d ds e

workers-fault-taken : (name : List ℕ) (d : ℕ) (ds : List ℕ) → (d == 45) ≡ false → is_taken 64 (d ∷ ds) ≡ true
    → fault_of program (name ∷ codes "run" ∷ codes "--workers" ∷ (d ∷ ds) ∷ []) ≡ []
unfolding clap_on_literals
workers-fault-taken name d ds e a = workers-fault name d ds e ∙ rw e (rw a refl)

workers-taken : (name : List ℕ) (d : ℕ) (ds : List ℕ) → (d == 45) ≡ false → is_taken 64 (d ∷ ds) ≡ true
    → refused_by (name ∷ codes "run" ∷ codes "--workers" ∷ (d ∷ ds) ∷ []) ≡ []
workers-taken name d ds e a = ap₂ or_else (workers-fault-taken name d ds e a) (ap clash_kinds (workers-apart name d ds e))

workers-fault-refused : (name : List ℕ) (d : ℕ) (ds : List ℕ) → (d == 45) ≡ false → is_taken 64 (d ∷ ds) ≡ false
    → fault_of program (name ∷ codes "run" ∷ codes "--workers" ∷ (d ∷ ds) ∷ []) ≡ ValueValidation ∷ []
unfolding clap_on_literals
workers-fault-refused name d ds e a = workers-fault name d ds e ∙ rw e (rw a refl)

workers-refused : (name : List ℕ) (d : ℕ) (ds : List ℕ) → (d == 45) ≡ false → is_taken 64 (d ∷ ds) ≡ false
    → refused_by (name ∷ codes "run" ∷ codes "--workers" ∷ (d ∷ ds) ∷ []) ≡ ValueValidation ∷ []
workers-refused name d ds e a = ap₂ or_else (workers-fault-refused name d ds e a) (ap clash_kinds (workers-apart name d ds e))

no-workers : (name : List ℕ) → refused_by (name ∷ codes "run" ∷ codes "--workers" ∷ [] ∷ []) ≡ ValueValidation ∷ []
unfolding clap_on_literals
no-workers name = refl

pub workers-ask : EachNumberOfWorkersAsks
workers-ask name [] e = absurd (true≢false (sym e))
workers-ask name (d ∷ ds) e =
    let first = no-hyphen 64 d ds e in (
      workers-taken name d ds first (same 64 (d ∷ ds) (omega arith) ∙ e),
      workers-asked name d ds first ∙ ap (λ (b : Bool). Run (if b then digits_value 10 (without_leading_plus (d ∷ ds)) else 1) 1000000) e,
    )

-- ---- other texts

pub others-refused : EachOtherNumberIsRefused
others-refused name [] first = (λ e. ap are_refused (no-limit name), λ e. ap are_refused (no-workers name))
others-refused name (d ∷ ds) first = (
  λ e. ap are_refused (limit-refused name d ds first (same 1000000 (d ∷ ds) (omega arith) ∙ e)),
  λ e. ap are_refused (workers-refused name d ds first (same 64 (d ∷ ds) (omega arith) ∙ e)),
)

-- ---- numbers in decimal

without-plus : (ds : List ℕ) → AllDigits 10 ds → without_leading_plus ds ≡ ds
without-plus [] h = refl
without-plus (d ∷ ds) h = go (d == 43) refl
  where
    go : (b : Bool) → (d == 43) ≡ b → drop (cond b 1 0) (d ∷ ds) ≡ d ∷ ds
    go true e =
        let plus : digit_value 43 < 10 = subst (λ (x : ℕ). digit_value x < 10) (eqb-true d 43 e) h.0 in
        absurd (omega arith)
    go false e = refl

module _ (n : ℕ) (low : 1 ≤ n) (most : ℕ) (high : n ≤ most) (small : most ≤ 1000000) where
  read : IsNumeral 10 (decimal n) × (digits_value 10 (decimal n) ≡ n)
  read = decimal_is_IsNumeral n (omega arith)

  bare : without_leading_plus (decimal n) ≡ decimal n
  bare = without-plus (decimal n) read.0.1

  value : digits_value 10 (without_leading_plus (decimal n)) ≡ n
  value = ap (digits_value 10) bare ∙ read.1

  in-bounds : is_unsigned_in 1 most (decimal n) ≡ true
  in-bounds = Accepts-accepts false (vp.Unsigned 1 most) (decimal n) (
    subst (IsNumeral 10) (sym bare) read.0,
    omega (arith, value),
    omega (arith, value),
    omega (arith, value),
  )

pub numbers-ask : EachNumberAsks
numbers-ask name n low = (
  λ high. subst (λ (m : ℕ). Asks (name ∷ codes "run" ∷ codes "--limit" ∷ decimal n ∷ []) (Run 1 m)) (value n low 1000000 high (omega arith))
      (limits-ask name (decimal n) (in-bounds n low 1000000 high (omega arith))),
  λ high. subst (λ (m : ℕ). Asks (name ∷ codes "run" ∷ codes "--workers" ∷ decimal n ∷ []) (Run m 1000000))
      (value n low 64 high (omega arith))
      (workers-ask name (decimal n) (in-bounds n low 64 high (omega arith))),
)
