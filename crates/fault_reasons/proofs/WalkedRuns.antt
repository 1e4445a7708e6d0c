-- A walk ends as the segment does.
use Rattle.std.proofs.Common.{◌≡◌, ℕ, zero, suc, ◌+◌, ◌-◌, ◌<◌, ◌≤◌, ℤ, Bool, true, false, List, [], ◌∷◌, ◌++◌, length, Option, Some, None, Result, Ok, Err, refl, sym, ap, ◌∙◌, subst, arith}
use Rattle.std.specs.Prelude.{slice_get, nat_le, pos, ◌||◌, if◌then◌else◌}
use Rattle.std.specs.Ordering.{int_eq}
use Rattle.superstep_memory.specs.Cells.{place_at}
use Rattle.superstep_memory.specs.declared.arrays.PutKind.{PutKind}
use Rattle.task_code.specs.Operations.{Costs}
use Rattle.task_code.specs.Reading.{IsMatched, tree_of}
use Rattle.task_code.specs.Tree.{Block, rest_at}
use Rattle.task_code.specs.declared.code.Action.{Action}
use Rattle.task_code.specs.declared.code.Action.TheVariants.{Let, Put as PutAt, Print, Spawn, Sync, Stop}
use Rattle.task_code.specs.declared.code.Cell.{Cell}
use Rattle.task_code.specs.declared.code.Expr.{Expr}
use Rattle.task_code.specs.declared.code.Line.{Line}
use Rattle.task_code.specs.declared.code.Line.TheVariants as line
use Rattle.task_code.proofs.Jumps.{rest-else, rest-end, some-within}
use Rattle.task_lang.specs.Meaning.{Doing, Effect, Goes, Syncs, Stops, Fails, Setting, Task, act, after_effect, after_test, index_value, put_into, run, spawn, started, value_of, with_ok}
use Rattle.task_lang.specs.declared.fault.Fault.{Fault}
use Rattle.task_lang.specs.declared.fault.Fault.TheVariants.{Depth as Deep, Spawns as Many}
use Rattle.task_lang.specs.declared.scene.Effect.{Effect as CodeEffect}
use Rattle.task_lang.specs.declared.scene.Effect.TheVariants as reported
use Rattle.task_lang.specs.declared.scene.Move.TheVariants.{To as ToPlace}
use Rattle.task_lang.proofs.Runs.{run-again, run-do, run-ends, run-if, run-spent, run-while}
use Rattle.fault_reasons.specs.Done.{Done}
use Rattle.fault_reasons.specs.Laws.{IsOf, WalksAreSegments, done_of}
use Rattle.fault_reasons.specs.Walk.{acted, after_act, after_move, by_value, costing, free_to, moved_at, on_to, passed, put_into as walk_put, spent, tested, walked, with_spawn}
use Rattle.fault_reasons.specs.declared.walk.End.TheVariants as end

-- ---- what an action does

-- an effect as a walk has it; after a fault all is as it was
abbrev seen : Doing → Effect → CodeEffect × Done
seen x (Goes y) = (reported.Goes, done_of y)
seen x (Syncs y) = (reported.Syncs, done_of y)
seen x (Stops y) = (reported.Stops, done_of y)
seen x (Fails f) = (reported.Fails f, done_of x)

length-more : (ts : List Task) (t : Task) → length ts + 1 ≡ length (ts ++ t ∷ [])
length-more [] t = refl
length-more (u ∷ ts) t = let more : length ts + 1 ≡ length (ts ++ t ∷ []) = length-more ts t in omega (arith, more)

module _ (s : Setting) (x : Doing) where
  by-value : (r : Result ℤ Fault) (go : ℤ → CodeEffect × Done) (goes : ℤ → Effect) → ((v : ℤ) → go v ≡ seen x (goes v))
      → by_value r (done_of x) go ≡ seen x (with_ok r goes)
  by-value (Ok v) go goes h = h v
  by-value (Err f) go goes h = refl

  spawned-is : (body : ℕ) (v : ℤ) → with_spawn s (done_of x) ≡ seen x (spawn s x body v)
  spawned-is body v = deep (nat_le 8 (length s.path))
    where
      next : Task
      next = started s.plans (s.path ++ (s.begun + length x.spawns) ∷ []) body v

      many : (b : Bool)
          → (if b then (reported.Fails Many, done_of x) else (reported.Goes, record (done_of x) { spawned = length x.spawns + 1 }))
          ≡ seen x (if b then Fails Many else Goes (record x { spawns = x.spawns ++ next ∷ [] }))
      many true = refl
      many false = ap (λ (n : ℕ). (reported.Goes, record (done_of x) { spawned = n })) (length-more x.spawns next)

      deep : (b : Bool) → (if b then (reported.Fails Deep, done_of x)
          else if nat_le 8 (length x.spawns) || nat_le 65535 (s.begun + length x.spawns) then (reported.Fails Many, done_of x)
          else (reported.Goes, record (done_of x) { spawned = length x.spawns + 1 }))
          ≡ seen x (if b then Fails Deep
          else if nat_le 8 (length x.spawns) || nat_le 65535 (s.begun + length x.spawns) then Fails Many
          else Goes (record x { spawns = x.spawns ++ next ∷ [] }))
      deep true = refl
      deep false = many (nat_le 8 (length x.spawns) || nat_le 65535 (s.begun + length x.spawns))

  put-is : (kind : PutKind) (c : Cell) (e : Expr) → acted s (done_of x) (PutAt kind c e) ≡ seen x (act s x (PutAt kind c e))
  put-is kind c e = at (place_at s.arrays c.array (index_value s x.locals c.index))
    where
      at : (o : Option ℕ) → walk_put s (done_of x) kind c.array e o ≡ seen x (put_into s x kind c.array e o)
      at None = refl
      at (Some place) = by-value (value_of s x.locals e) _ _ (λ v. refl)

  acted-is : (a : Action) → acted s (done_of x) a ≡ seen x (act s x a)
  acted-is (Let i e) = by-value (value_of s x.locals e) _ _ (λ v. refl)
  acted-is (PutAt kind c e) = put-is kind c e
  acted-is (Print e) = by-value (value_of s x.locals e) _ _ (λ v. refl)
  acted-is (Spawn b e) = by-value (value_of s x.locals e) _ _ (λ v. spawned-is b v)
  acted-is Sync = refl
  acted-is Stop = refl

-- ---- lines that cost nothing

module _ (code : List Line) (m : IsMatched code) where
  rest-passed : (k place : ℕ) → rest_at (tree_of code) (passed code k place) ≡ rest_at (tree_of code) place
  rest-passed zero place = refl
  rest-passed (suc k) place = by (slice_get code place) refl (λ q. rest-passed k q)
    where
      by : (o : Option Line) → slice_get code place ≡ o → ((q : ℕ) → rest_at (tree_of code) (passed code k q) ≡ rest_at (tree_of code) q)
          → rest_at (tree_of code) (on_to (free_to o place) place (passed code k)) ≡ rest_at (tree_of code) place
      by None e ih = refl
      by (Some (line.Do a)) e ih = refl
      by (Some (line.If t n)) e ih = refl
      by (Some (line.Else n)) e ih = ih (place + 1 + n) ∙ rest-else code place n (place + 1 + n) m e refl
      by (Some line.EndIf) e ih = ih (place + 1) ∙ rest-end code place m e
      by (Some (line.While t n)) e ih = refl
      by (Some (line.EndWhile t n)) e ih = refl

  costs-passed : (k place : ℕ) (l : Line) → length code ≤ k + place → slice_get code (passed code k place) ≡ Some l → Costs l
  costs-passed zero place l h e = let within : place < length code = some-within code place l e in absurd (omega (arith, h, within))
  costs-passed (suc k) place l h e = by (slice_get code place) refl e (λ q g. costs-passed k q l g)
    where
      by : (o : Option Line) → slice_get code place ≡ o → slice_get code (on_to (free_to o place) place (passed code k)) ≡ Some l
          → ((q : ℕ) → length code ≤ k + q → slice_get code (passed code k q) ≡ Some l → Costs l) → Costs l
      by None g f ih = let wrong : None ≡ Some l = sym g ∙ f in absurd cc
      by (Some (line.Do a)) g f ih = let same : line.Do a ≡ l = cc in subst Costs same tt
      by (Some (line.If t n)) g f ih = let same : line.If t n ≡ l = cc in subst Costs same tt
      by (Some (line.Else n)) g f ih = ih (place + 1 + n) (omega (arith, h)) f
      by (Some line.EndIf) g f ih = ih (place + 1) (omega (arith, h)) f
      by (Some (line.While t n)) g f ih = let same : line.While t n ≡ l = cc in subst Costs same tt
      by (Some (line.EndWhile t n)) g f ih = let same : line.EndWhile t n ≡ l = cc in subst Costs same tt

  costs-there : (place : ℕ) (l : Line) → slice_get code (costing code place) ≡ Some l → Costs l
  costs-there place l e = costs-passed (length code) place l (omega arith) e

-- ---- one line

module _ (s : Setting) (code : List Line) (m : IsMatched code) where
  abbrev Follows : ℕ → Type 0
  Follows n = (q : ℕ) (y : Doing) → IsOf (walked s code n q (done_of y)) (run s n (rest_at (tree_of code) q) y)

  effect-of : (n here next : ℕ) (x : Doing) → Follows n → (t : Effect)
      → IsOf (after_move here (after_act next (seen x t)) (walked s code n)) (after_effect s t (rest_at (tree_of code) next) (run s n))
  effect-of n here next x ih (Goes y) = ih next y
  effect-of n here next x ih (Syncs y) = (refl, (refl, refl))
  effect-of n here next x ih (Stops y) = (refl, (refl, refl))
  effect-of n here next x ih (Fails f) = refl

  test-of : (n here there other : ℕ) (x : Doing) → Follows n → (r : Result ℤ Fault)
      → IsOf (after_move here (tested r there other, done_of x) (walked s code n))
      (after_test r (rest_at (tree_of code) there) (rest_at (tree_of code) other) (λ b. run s n b x))
  test-of n here there other x ih (Err f) = refl
  test-of n here there other x ih (Ok v) = by (int_eq v (pos 0))
    where
      by : (b : Bool) → IsOf (after_move here (if b then ToPlace other else ToPlace there, done_of x) (walked s code n))
          (run s n (if b then rest_at (tree_of code) other else rest_at (tree_of code) there) x)
      by true = ih other x
      by false = ih there x

  line-of : (n here : ℕ) (x : Doing) → Follows n → (l : Line) → slice_get code here ≡ Some l → Costs l
      → IsOf (after_move here (moved_at s (Some l) here (done_of x)) (walked s code n)) (run s (suc n) (rest_at (tree_of code) here) x)
  line-of n here x ih (line.Do a) e c =
      let one : suc n ≡ n + 1 = omega arith in
      subst (IsOf (after_move here (after_act (here + 1) (acted s (done_of x) a)) (walked s code n)))
      (sym (run-do s code m here (suc n) n a x e one))
      (subst (λ (r : CodeEffect × Done). IsOf (after_move here (after_act (here + 1) r) (walked s code n)) (after_effect s (act s x a) (rest_at (tree_of code) (here + 1)) (run s n)))
      (sym (acted-is s x a)) (effect-of n here (here + 1) x ih (act s x a)))
  line-of n here x ih (line.If t k) e c =
      let one : suc n ≡ n + 1 = omega arith in
      subst (IsOf (after_move here (tested (value_of s x.locals t) (here + 1) (here + 1 + k), done_of x) (walked s code n)))
      (sym (run-if s code m here (suc n) n k t x e one))
      (test-of n here (here + 1) (here + 1 + k) x ih (value_of s x.locals t))
  line-of n here x ih (line.While t k) e c =
      let one : suc n ≡ n + 1 = omega arith in
      subst (IsOf (after_move here (tested (value_of s x.locals t) (here + 1) (here + 1 + k), done_of x) (walked s code n)))
      (sym (run-while s code m here (suc n) n k t x e one))
      (test-of n here (here + 1) (here + 1 + k) x ih (value_of s x.locals t))
  line-of n here x ih (line.EndWhile t k) e c =
      let one : suc n ≡ n + 1 = omega arith in
      subst (IsOf (after_move here (tested (value_of s x.locals t) (here - k) (here + 1), done_of x) (walked s code n)))
      (sym (run-again s code m here (suc n) n k t x e one))
      (test-of n here (here - k) (here + 1) x ih (value_of s x.locals t))
  line-of n here x ih (line.Else k) e c = absurd c
  line-of n here x ih line.EndIf e c = absurd c

  -- the rest of a body is the same from the next line that costs
  at-cost : (n place : ℕ) (x : Doing) → run s n (rest_at (tree_of code) (costing code place)) x ≡ run s n (rest_at (tree_of code) place) x
  at-cost n place x = ap (λ (b : Block). run s n b x) (rest-passed code m (length code) place)

  over : (n place : ℕ) (x : Doing) → slice_get code (costing code place) ≡ None
      → IsOf (end.Stopped, done_of x) (run s n (rest_at (tree_of code) place) x)
  over n place x e =
      subst (IsOf (end.Stopped, done_of x)) (sym (run-ends s code m (costing code place) n x (sym e)) ∙ at-cost n place x)
      (refl, (refl, refl))

  none-left : (place : ℕ) (x : Doing) (o : Option Line) → slice_get code (costing code place) ≡ o
      → IsOf (spent o (costing code place) (done_of x)) (run s 0 (rest_at (tree_of code) place) x)
  none-left place x None e = over 0 place x e
  none-left place x (Some l) e =
      sym (at-cost 0 place x) ∙ run-spent s code m (costing code place) 0 l x e (costs-there code m place l e) refl

  some-left : (n place : ℕ) (x : Doing) → Follows n → (o : Option Line) → slice_get code (costing code place) ≡ o
      → IsOf (after_move (costing code place) (moved_at s o (costing code place) (done_of x)) (walked s code n))
      (run s (suc n) (rest_at (tree_of code) place) x)
  some-left n place x ih None e = over (suc n) place x e
  some-left n place x ih (Some l) e =
      subst (IsOf (after_move (costing code place) (moved_at s (Some l) (costing code place) (done_of x)) (walked s code n)))
      (at-cost (suc n) place x)
      (line-of n (costing code place) x ih l e (costs-there code m place l e))

  follows : (n : ℕ) → Follows n
  unfolding walked
  follows zero place x = none-left place x (slice_get code (costing code place)) refl
  follows (suc n) place x = some-left n place x (λ q y. follows n q y) (slice_get code (costing code place)) refl

pub walks-are-segments : WalksAreSegments
walks-are-segments s code n place x m = follows s code m n place x
