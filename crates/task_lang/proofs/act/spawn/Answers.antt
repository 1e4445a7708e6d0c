use Rattle.std.proofs.Common.{◌≡◌, ◌∙◌, ℕ, ◌+◌, ◌≤◌, ◌<◌, ℤ, Bool, true, false, nat_le, [], ◌∷◌, ◌++◌, map, length, refl, sym, ap, arith, w64, FitsSigned, rules}
use Rattle.std.specs.Prelude.{◌||◌, if◌then◌else◌}
use Rattle.std.proofs.lemmas.Int.{to_z-of_z}
use Rattle.std.proofs.lemmas.List.{length-map, map-append}
use Rattle.task_lang.specs.Meaning.{Setting, Doing, Goes, Fails, spawn, started}
use Rattle.task_lang.specs.declared.fault.Fault.TheVariants.{Depth, Spawns}
use Rattle.task_lang.specs.Views.{setting, doing, plans, task_of}
use Rattle.task_lang.proofs.act.spawn.Goals.{then-count-ge8-via-then-count-ge8, then-count-ge8-via-else-count-ge8+then-from-count-ge65535}
use Rattle.task_lang.proofs.act.spawn.Goals as goal

-- with the task that was spawned
abbrev with_spawned : Setting → Doing → ℕ → ℤ → Doing
with_spawned s d body v = record d { spawns = d.spawns ++ started s.plans (s.path ++ (s.begun + length d.spawns) ∷ []) body v ∷ [] }

goes : (s : Setting) (d new : Doing) (body : ℕ) (v : ℤ) → length s.path < 8 → length d.spawns < 8 → s.begun + length d.spawns < 65535
    → new ≡ with_spawned s d body v → Goes new ≡ spawn s d body v
goes s d new body v deep many most is =
    let a : nat_le 8 (length s.path) ≡ false = grind arith in
    let b : nat_le 8 (length d.spawns) ≡ false = grind arith in
    let e : nat_le 65535 (s.begun + length d.spawns) ≡ false = grind arith in
    sym (λ i. if a i then Fails Depth else if b i || e i then Fails Spawns else Goes (sym is i))

fails_many : (s : Setting) (d : Doing) (body : ℕ) (v : ℤ) → length s.path < 8
    → (nat_le 8 (length d.spawns) || nat_le 65535 (s.begun + length d.spawns)) ≡ true
    → Fails Spawns ≡ spawn s d body v
fails_many s d body v deep many =
    let a : nat_le 8 (length s.path) ≡ false = grind arith in
    sym (λ i. if a i then Fails Depth else if many i then Fails Spawns else Goes (with_spawned s d body v))

too_deep : (s : Setting) (d : Doing) (body : ℕ) (v : ℤ) → 8 ≤ length s.path → Fails Depth ≡ spawn s d body v
too_deep s d body v deep =
    let a : nat_le 8 (length s.path) ≡ true = grind arith in
    sym (λ i. if a i then Fails Depth
    else if nat_le 8 (length d.spawns) || nat_le 65535 (s.begun + length d.spawns) then Fails Spawns else Goes (with_spawned s d body v))

first_true : (x y : ℕ) → 8 ≤ x → (nat_le 8 x || nat_le 65535 y) ≡ true
first_true x y h = let a : nat_le 8 x ≡ true = grind arith in λ i. a i || nat_le 65535 y

second_true : (x y : ℕ) → 65535 ≤ y → (nat_le 8 x || nat_le 65535 y) ≡ true
second_true x y h = let a : nat_le 65535 y ≡ true = grind arith in (λ i. nat_le 8 x || a i) ∙ by (nat_le 8 x)
  where
    by : (b : Bool) → (b || true) ≡ true
    by true = refl
    by false = refl

pub returns-then-len-ge8 : goal.returns-then-len-ge8
returns-then-len-ge8 c = λ locals.
    too_deep (setting c.args.scene.now) (doing (plans c.args.scene.now.bodies.now) locals c.args.work.now) c.args.body c.args.arg
    (omega (arith, c.len.ensures.value, c.if-len-ge8.true))

pub returns-then-count-ge8 : goal.returns-then-count-ge8
returns-then-count-ge8 c = λ locals.
    let ps = plans c.args.scene.now.bodies.now in
    let mapped = length-map c.args.work.now.spawns.items (task_of ps) in
    fails_many (setting c.args.scene.now) (doing ps locals c.args.work.now) c.args.body c.args.arg
    (omega (arith, c.len.ensures.value, c.if-len-ge8.false))
    (elim c.then-count-ge8.branch [
      | then-count-ge8-via-then-count-ge8 w ↦ first_true (length (map (task_of ps) c.args.work.now.spawns.items))
          (c.args.scene.now.spawned + length (map (task_of ps) c.args.work.now.spawns.items))
          (omega (arith, mapped, c.len-count.ensures, c.args.work.now.spawns.ok.0, w.if-count-ge8.true))
      | then-count-ge8-via-else-count-ge8+then-from-count-ge65535 w ↦ second_true (length (map (task_of ps) c.args.work.now.spawns.items))
          (c.args.scene.now.spawned + length (map (task_of ps) c.args.work.now.spawns.items))
          (omega (arith, mapped, c.len-count.ensures, c.args.work.now.spawns.ok.0, w.from.ensures, w.if-from-count-ge65535.true))
    ])

pub returns : goal.returns
returns c = λ locals.
    let ps = plans c.args.scene.now.bodies.now in
    let old = c.args.work.now.spawns.items in
    let mapped = length-map old (task_of ps) in
    let count : c.len-count.result ≡ length (map (task_of ps) old) =
    omega (arith, mapped, c.len-count.ensures, c.args.work.now.spawns.ok.0) in
    let fits : FitsSigned w64 c.args.arg = search rules in
    let back = to_z-of_z w64 c.args.arg fits in
    let first =
    c.in_ok-begun.ensures
    ∙ (λ i. started ps (c.args.scene.now.path.now.items ++ (c.args.scene.now.spawned + count i) ∷ []) c.args.body (back i)) in
    let more =
    ap (map (task_of ps)) c.in_ok-push.ensures.items ∙ map-append (task_of ps) old (c.in_ok-begun.begun ∷ [])
    ∙ (λ i. map (task_of ps) old ++ first i ∷ []) in
    goes (setting c.args.scene.now) (doing ps locals c.args.work.now) _ c.args.body c.args.arg
    (omega (arith, c.len.ensures.value, c.if-len-ge8.false)) (omega (arith, count, c.if-count-ge8.false))
    (omega (arith, count, c.from.ensures, c.if-from-count-ge65535.false))
    (λ i. record (doing ps locals c.args.work.now) { spawns = more i })
