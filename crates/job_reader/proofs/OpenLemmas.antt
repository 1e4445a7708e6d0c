-- The open lines of a body.
use Rattle.std.proofs.Common.{◌≡◌, ℕ, Bool, true, false, List, [], ◌∷◌, length, Option, Some, None, Result, Ok, Err, refl, sym, ap, ◌∙◌, arith, length-append}
use Rattle.std.specs.Prelude.{IfSome}
use Rattle.text_lines.specs.declared.refusal.Code.{Code}
use Rattle.task_code.specs.declared.code.Line.{Line}
use Rattle.task_code.specs.declared.code.Line.TheVariants as line
use Rattle.task_code.specs.Tree.{Block, flat}
use Rattle.task_code.specs.Open.{Frame, place_of, open_places, open_code, step_of}
use Rattle.task_code.specs.BodyValue.{BodyValue}
use Rattle.job_reader.specs.Words.{Word, Words}
use Rattle.job_reader.specs.Views.{lent}
use Rattle.job_reader.specs.Faults.{made}
use Rattle.job_reader.specs.Exprs.{Names}
use Rattle.job_reader.specs.declared.lines.Keyword.{Keyword}
use Rattle.job_reader.specs.declared.lines.Keyword.TheVariants.{Let, Put, Print, Spawn, Sync, Stop, If, Else, While, End}
use Rattle.job_reader.specs.Lines.{line_behind, alone}
use Rattle.job_reader.specs.declared.inside.OpenBody.{OpenBody}
use Rattle.job_reader.specs.Legal.{flat_body}
use Rattle.job_reader.specs.Above.{Inside, can_else, belongs, sits, ended}
use Rattle.job_reader.specs.Relates.{IsInside}

length-places : (fs : List Frame) → length (open_places fs) ≡ length fs
length-places [] = refl
length-places (f ∷ fs) =
    let rest = length-places fs in
    omega (arith, length-append (open_places fs) (place_of f fs ∷ []))

pub depth-places : (places : List ℕ) (fs : List Frame) → places ≡ open_places fs → length places ≡ length fs
depth-places places fs e = ap (λ (x : List ℕ). length x) e ∙ length-places fs

pub ruleset depth_steps = (depth-places)

value-parts : (n m : Word) (k l : List Word) (a b : List Line) → n ≡ m → k ≡ l → a ≡ b
    → ◌≡◌ {A = BodyValue} (record { name = n; locals = k; code = a }) (record { name = m; locals = l; code = b })
value-parts n m k l a b e f g =
    ap (λ (x : Word). record { name = x; locals = k; code = a }) e
    ∙ ap (λ (x : List Word). record { name = m; locals = x; code = a }) f
    ∙ ap (λ (x : List Line). record { name = m; locals = l; code = x }) g

pub if-some : (r : Option BodyValue) (b v : BodyValue) → r ≡ Some b → IfSome r (λ x. x ≡ v) → b ≡ v
if-some None b v e h = absurd cc
if-some (Some x) b v e h = let same : x ≡ b = cc in sym same ∙ h

-- a body in which no line is open says its block
pub body-ended : (o : Inside) (w : OpenBody) (b : BodyValue) → IsInside o w → o.frames ≡ [] → b.name ≡ w.name.now
    → b.locals ≡ lent w.locals.items → b.code ≡ w.builder.code.items
    → b ≡ flat_body (ended o)
body-ended o w b i none n l c =
    let code : b.code ≡ flat o.block = c ∙ i.built.code ∙ ap (λ (fs : List Frame). open_code fs o.block) none in
    value-parts b.name o.name b.locals o.locals b.code (flat o.block) (n ∙ i.name) (l ∙ i.locals) code

-- a line that doesn't belong to the open lines, and isn't an `else` out of place, ends the body
pub ends-body : (l : Line) (fs : List Frame) (b : Block) → belongs l fs ≡ false → sits (can_else fs) l ≡ true
    → (fs ≡ []) × (step_of l fs b ≡ None)
ends-body (line.Do a) fs b e s = absurd cc
ends-body (line.If t n) fs b e s = absurd cc
ends-body (line.While t n) fs b e s = absurd cc
ends-body (line.Else n) fs b e s = absurd cc
ends-body line.EndIf [] b e s = (refl, refl)
ends-body line.EndIf (f ∷ fs) b e s = absurd cc
ends-body (line.EndWhile t n) [] b e s = (refl, refl)
ends-body (line.EndWhile t n) (f ∷ fs) b e s = absurd cc

made-sits : {A : Type 0} (fits : Bool) (f : A → Line) → ((a : A) → sits fits (f a) ≡ true) → (r : Result A Code) (l : Line)
    → made f r ≡ Ok l → sits fits l ≡ true
made-sits fits f h (Ok a) l e = let same : f a ≡ l = cc in ap (sits fits) (sym same) ∙ h a
made-sits fits f h (Err c) l e = absurd cc

alone-sits : (fits : Bool) (k l : Line) (ws : Words) → sits fits k ≡ true → alone k ws ≡ Ok l → sits fits l ≡ true
alone-sits fits k l [] h e = let same : k ≡ l = cc in ap (sits fits) (sym same) ∙ h
alone-sits fits k l (w ∷ ws) h e = absurd cc

-- what the words of a line say may be there
pub said-sits : (s : Names) (fits : Bool) (k : Option Keyword) (ws : Words) (l : Line) → line_behind s fits k ws ≡ Ok l → sits fits l ≡ true
unfolding line_behind
said-sits s fits None ws l e = absurd cc
said-sits s fits (Some Let) [] l e = absurd cc
said-sits s fits (Some Let) (w ∷ []) l e = absurd cc
said-sits s fits (Some Let) (w ∷ v ∷ ws) l e = made-sits fits _ (λ a. refl) _ l e
said-sits s fits (Some (Put kind)) [] l e = absurd cc
said-sits s fits (Some (Put kind)) (w ∷ []) l e = absurd cc
said-sits s fits (Some (Put kind)) (w ∷ v ∷ ws) l e = made-sits fits _ (λ a. refl) _ l e
said-sits s fits (Some Print) ws l e = made-sits fits _ (λ a. refl) _ l e
said-sits s fits (Some Spawn) [] l e = absurd cc
said-sits s fits (Some Spawn) (w ∷ ws) l e = made-sits fits _ (λ a. refl) _ l e
said-sits s fits (Some Sync) ws l e = alone-sits fits _ l ws refl e
said-sits s fits (Some Stop) ws l e = alone-sits fits _ l ws refl e
said-sits s fits (Some If) ws l e = made-sits fits _ (λ a. refl) _ l e
said-sits s true (Some Else) [] l e = let same : line.Else 0 ≡ l = cc in ap (sits true) (sym same)
said-sits s true (Some Else) (w ∷ ws) l e = absurd cc
said-sits s false (Some Else) [] l e = absurd cc
said-sits s false (Some Else) (w ∷ ws) l e = absurd cc
said-sits s fits (Some While) ws l e = made-sits fits _ (λ a. refl) _ l e
said-sits s fits (Some End) ws l e = alone-sits fits _ l ws refl e
