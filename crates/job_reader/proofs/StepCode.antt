-- A line that is put after open code is written after it.
use Rattle.std.proofs.Common.{◌≡◌, ℕ, ◌+◌, List, [], ◌∷◌, ◌++◌, length, map, Some, sym, ap, subst, ◌∙◌, append_assoc}
use Rattle.std.proofs.lemmas.List.{map-append}
use Rattle.task_code.specs.declared.code.Expr.{Expr}
use Rattle.task_code.specs.declared.code.Line.{Line}
use Rattle.task_code.specs.declared.code.Line.TheVariants as line
use Rattle.task_code.specs.Tree.{Block, Done, Do, If, IfElse, While, ◌⨾◌, flat}
use Rattle.task_code.specs.Open.{Frame, InIf, InElse, InWhile, closed, open_code, step_of}
use Rattle.task_code.proofs.Building.{open-then}

module _ {X : Type 0} (f : Line → X)
    (on-if : (e : Expr) (n m : ℕ) → f (line.If e n) ≡ f (line.If e m))
    (on-else : (n m : ℕ) → f (line.Else n) ≡ f (line.Else m))
    (on-while : (e : Expr) (n m : ℕ) → f (line.While e n) ≡ f (line.While e m))
    (on-end : (e : Expr) (n : ℕ) → f (line.EndWhile e n) ≡ f line.EndIf) where
  mapped : (xs ys : List Line) → map f (xs ++ ys) ≡ map f xs ++ map f ys
  mapped xs ys = map-append f xs ys

  close-map : (g : Frame) (fs : List Frame) (b : Block)
      → map f (open_code fs (closed g b)) ≡ map f (open_code (g ∷ fs) b) ++ f line.EndIf ∷ []
  close-map (InIf e before) fs b =
      ap (map f) (open-then fs before (If e b Done)) ∙ mapped (open_code fs before) (flat (If e b Done))
      ∙ ap (λ (x : List X). map f (open_code fs before) ++ f (line.If e (length (flat b) + 1)) ∷ x) (mapped (flat b) (line.EndIf ∷ []))
      ∙ ap (λ (x : X). map f (open_code fs before) ++ x ∷ (map f (flat b) ++ f line.EndIf ∷ [])) (on-if e (length (flat b) + 1) 0)
      ∙ sym (append_assoc (map f (open_code fs before)) (f (line.If e 0) ∷ map f (flat b)) (f line.EndIf ∷ []))
      ∙ ap (λ (x : List X). x ++ f line.EndIf ∷ []) (sym (mapped (open_code fs before) (line.If e 0 ∷ flat b)))
  close-map (InWhile e before) fs b =
      ap (map f) (open-then fs before (While e b Done)) ∙ mapped (open_code fs before) (flat (While e b Done))
      ∙ ap (λ (x : List X). map f (open_code fs before) ++ f (line.While e (length (flat b) + 1)) ∷ x)
      (mapped (flat b) (line.EndWhile e (length (flat b)) ∷ []))
      ∙ ap (λ (x : X). map f (open_code fs before) ++ x ∷ (map f (flat b) ++ f (line.EndWhile e (length (flat b))) ∷ []))
      (on-while e (length (flat b) + 1) 0)
      ∙ ap (λ (x : X). map f (open_code fs before) ++ f (line.While e 0) ∷ (map f (flat b) ++ x ∷ [])) (on-end e (length (flat b)))
      ∙ sym (append_assoc (map f (open_code fs before)) (f (line.While e 0) ∷ map f (flat b)) (f line.EndIf ∷ []))
      ∙ ap (λ (x : List X). x ++ f line.EndIf ∷ []) (sym (mapped (open_code fs before) (line.While e 0 ∷ flat b)))
  close-map (InElse e before a) fs b =
      let head : List Line = line.If e (length (flat a) + 1) ∷ flat a in
      let tail : List Line = line.Else (length (flat b) + 1) ∷ (flat b ++ line.EndIf ∷ []) in
      ap (map f) (open-then fs before (IfElse e a b Done) ∙ sym (append_assoc (open_code fs before) head tail))
      ∙ mapped (open_code fs before ++ head) tail
      ∙ ap (λ (x : List X). map f (open_code fs before ++ head) ++ f (line.Else (length (flat b) + 1)) ∷ x)
      (mapped (flat b) (line.EndIf ∷ []))
      ∙ ap (λ (x : X). map f (open_code fs before ++ head) ++ x ∷ (map f (flat b) ++ f line.EndIf ∷ [])) (on-else (length (flat b) + 1) 0)
      ∙ sym (append_assoc (map f (open_code fs before ++ head)) (f (line.Else 0) ∷ map f (flat b)) (f line.EndIf ∷ []))
      ∙ ap (λ (x : List X). x ++ f line.EndIf ∷ []) (sym (mapped (open_code fs before ++ head) (line.Else 0 ∷ flat b)))

  abbrev After : List Frame × Block → List Frame → Block → Line → Type 0
  After s fs b l = map f (open_code s.0 s.1) ≡ map f (open_code fs b) ++ f l ∷ []

  -- what a line made of open code is that code and the line
  pub step-map : (l : Line) (fs : List Frame) (b : Block) (s : List Frame × Block) → step_of l fs b ≡ Some s → After s fs b l
  step-map (line.Do a) fs b s e = let same : (fs, b ⨾ Do a Done) ≡ s = cc in
      subst (λ (t : List Frame × Block). After t fs b (line.Do a)) same
      (ap (map f) (open-then fs b (Do a Done)) ∙ mapped (open_code fs b) (line.Do a ∷ []))
  step-map (line.If t n) fs b s e = let same : (InIf t b ∷ fs, Done) ≡ s = cc in
      subst (λ (u : List Frame × Block). After u fs b (line.If t n)) same
      (mapped (open_code fs b) (line.If t 0 ∷ []) ∙ ap (λ (x : X). map f (open_code fs b) ++ x ∷ []) (on-if t 0 n))
  step-map (line.While t n) fs b s e = let same : (InWhile t b ∷ fs, Done) ≡ s = cc in
      subst (λ (u : List Frame × Block). After u fs b (line.While t n)) same
      (mapped (open_code fs b) (line.While t 0 ∷ []) ∙ ap (λ (x : X). map f (open_code fs b) ++ x ∷ []) (on-while t 0 n))
  step-map (line.Else n) [] b s e = absurd cc
  step-map (line.Else n) (InIf t before ∷ fs) b s e = let same : (InElse t before b ∷ fs, Done) ≡ s = cc in
      subst (λ (u : List Frame × Block). After u (InIf t before ∷ fs) b (line.Else n)) same
      (mapped (open_code fs before ++ line.If t (length (flat b) + 1) ∷ flat b) (line.Else 0 ∷ [])
      ∙ ap (λ (x : List X). x ++ f (line.Else 0) ∷ []) (mapped (open_code fs before) (line.If t (length (flat b) + 1) ∷ flat b)
      ∙ ap (λ (x : X). map f (open_code fs before) ++ x ∷ map f (flat b)) (on-if t (length (flat b) + 1) 0)
      ∙ sym (mapped (open_code fs before) (line.If t 0 ∷ flat b)))
      ∙ ap (λ (x : X). map f (open_code (InIf t before ∷ fs) b) ++ x ∷ []) (on-else 0 n))
  step-map (line.Else n) (InElse t before a ∷ fs) b s e = absurd cc
  step-map (line.Else n) (InWhile t before ∷ fs) b s e = absurd cc
  step-map line.EndIf [] b s e = absurd cc
  step-map line.EndIf (g ∷ fs) b s e = let same : (fs, closed g b) ≡ s = cc in
      subst (λ (u : List Frame × Block). After u (g ∷ fs) b line.EndIf) same (close-map g fs b)
  step-map (line.EndWhile t n) [] b s e = absurd cc
  step-map (line.EndWhile t n) (g ∷ fs) b s e = let same : (fs, closed g b) ≡ s = cc in
      subst (λ (u : List Frame × Block). After u (g ∷ fs) b (line.EndWhile t n)) same
      (close-map g fs b ∙ ap (λ (x : X). map f (open_code (g ∷ fs) b) ++ x ∷ []) (sym (on-end t n)))
