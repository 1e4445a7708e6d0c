-- The lines of a body are read as its code.
use Rattle.std.proofs.Common.{◌≡◌, ℕ, ◌+◌, ◌-◌, ◌≤◌, Bool, true, false, List, [], ◌∷◌, ◌++◌, length, Option, Some, None, Result, Ok, Err, refl, sym, ap, subst, ◌∙◌, arith, length-append}
use Rattle.std.specs.Prelude.{if◌then◌else◌, ◌==◌, cond, max, option_and_then}
use Rattle.std.specs.List.{list_all, flat_map}
use Rattle.std.proofs.lemmas.Grind.{common_steps}
use Rattle.std.proofs.lemmas.List.Sums.{sum_by-cons}
use Rattle.text_lines.specs.declared.refusal.Code.{Code}
use Rattle.text_lines.specs.declared.refusal.Code.TheVariants.{TooMany}
use Rattle.task_code.specs.Names.{is_among, are_names}
use Rattle.task_code.specs.Mentions as mentions
use Rattle.task_code.specs.Limits.{is_statement, statements, opened, deepest, fits_line}
use Rattle.task_code.specs.Tree.{Block}
use Rattle.task_code.specs.Open.{Frame, InIf, InElse, InWhile, step_of, build}
use Rattle.task_code.specs.declared.code.Line.{Line}
use Rattle.task_code.specs.declared.code.Line.TheVariants as line
use Rattle.job_reader.specs.Words.{Word, Words, noted}
use Rattle.job_reader.specs.Exprs.{Names}
use Rattle.job_reader.specs.Faults.{made}
use Rattle.job_reader.specs.Lines.{keyword_of, line_words, line_fits, line_names, line_of, line_behind, mentions_of, mentions_behind, end_words}
use Rattle.job_reader.proofs.SaidLemmas.{and-true}
use Rattle.job_reader.proofs.GrowLemmas.{and-left, and-right, line-grows, noted-grows}
use Rattle.job_reader.specs.declared.lines.Keyword.{Keyword}
use Rattle.job_reader.specs.declared.lines.Keyword.TheVariants.{End}
use Rattle.job_reader.proofs.WrittenExprs.{AreGood}
use Rattle.job_reader.proofs.WrittenLines.{as_read, line-written}
use Rattle.job_reader.specs.Trees.{JobTree, array_names}
use Rattle.job_reader.specs.Above.{Inside, can_else, grown, statements_behind}
use Rattle.job_reader.specs.Reading.{◌>>=◌, is_over, within_limits, behind, with_line, noted_line, inner_line, any_line}
use Rattle.job_reader.specs.Grammar.{locals_behind, locals_by, is_in_format}
use Rattle.job_reader.proofs.LocalsBehind.{locals-grow, behind-append, behind-none}
use Rattle.job_reader.proofs.Known.{word-known}
use Rattle.job_reader.specs.Writing.{code_lines}
use Rattle.text_laws.proofs.Chain.{Passes, Reads}
use Rattle.text_laws.proofs.Mentioned.{named_at, line-mentions}
use Rattle.text_laws.proofs.Known.{are_below, all-known, names-front, noted-all}
use Rattle.text_laws.proofs.Fitting.{locals-below, line-is, line-found}
use Rattle.job_reader.proofs.BodyCounts.{length-step as step-opens}

-- an open body with its locals after a line
abbrev pub noting : ℕ → Inside → Words → Inside
noting format o ws = record o { locals = locals_behind format o.locals (mentions_of ws) }

abbrev pub names : List Word → JobTree → List Word → Names
names bodies j locals = record { arrays = array_names j; bodies = bodies; locals = locals }

-- a line that says something within the limits is read
said-passes : (bodies : List Word) (j : JobTree) (o : Inside) (ws : Words) (l : Line)
    → line_of (names bodies j (locals_behind j.format o.locals (mentions_of ws))) (can_else o.frames) ws ≡ Ok l
    → is_over (statements_behind o.statements l) (length (locals_behind j.format o.locals (mentions_of ws))) (opened (length o.frames) l)
    ≡ false
    → is_in_format j.format l ≡ true
    → any_line bodies j (Some o) ws ≡ Ok (with_line j (noting j.format o ws) l)
said-passes bodies j o [] l e f g = absurd cc
said-passes bodies j o (k ∷ ws) l e f g =
    let o' : Inside = noting j.format o (k ∷ ws) in
    ap (λ (x : Option Keyword). inner_line bodies j o x ws)
    (word-known (names bodies j o'.locals) (can_else o.frames) j.format (keyword_of k) ws l e g)
    ∙ ap (λ (r : Result Line Code). made (with_line j o') (r >>= within_limits o')) e
    ∙ ap (λ (b : Bool). made (with_line j o') (if b then Err TooMany else Ok l)) f

not-over : (a b c : ℕ) → a ≤ 1024 → b ≤ 32 → c ≤ 16 → is_over a b c ≡ false
not-over a b c h k l = grind (arith, common_steps)

-- a line does as it does once it is read, while jumps aren't known and ends look alike
step-read : (l : Line) (fs : List Frame) (b : Block) → step_of (as_read l) fs b ≡ step_of l fs b
step-read (line.Do a) fs b = refl
step-read (line.If e n) fs b = refl
step-read (line.Else n) [] b = refl
step-read (line.Else n) (InIf x y ∷ fs) b = refl
step-read (line.Else n) (InElse x y z ∷ fs) b = refl
step-read (line.Else n) (InWhile x y ∷ fs) b = refl
step-read line.EndIf fs b = refl
step-read (line.While e n) fs b = refl
step-read (line.EndWhile e n) [] b = refl
step-read (line.EndWhile e n) (f ∷ fs) b = refl

known-read : (format : ℕ) (l : Line) → is_in_format format (as_read l) ≡ is_in_format format l
known-read format (line.Do a) = refl
known-read format (line.If e n) = refl
known-read format (line.Else n) = refl
known-read format line.EndIf = refl
known-read format (line.While e n) = refl
known-read format (line.EndWhile e n) = refl

counts-read : (n : ℕ) (l : Line) → statements_behind n (as_read l) ≡ statements_behind n l
counts-read n (line.Do a) = refl
counts-read n (line.If e m) = refl
counts-read n (line.Else m) = refl
counts-read n line.EndIf = refl
counts-read n (line.While e m) = refl
counts-read n (line.EndWhile e m) = refl

opens-read : (n : ℕ) (l : Line) → opened n (as_read l) ≡ opened n l
opens-read n (line.Do a) = refl
opens-read n (line.If e m) = refl
opens-read n (line.Else m) = refl
opens-read n line.EndIf = refl
opens-read n (line.While e m) = refl
opens-read n (line.EndWhile e m) = refl

then-some : {A B : Type 0} (o : Option A) (f : A → Option B) (y : B) → option_and_then f o ≡ Some y
    → (x : A) × (o ≡ Some x) × (f x ≡ Some y)
then-some None f y e = absurd cc
then-some (Some x) f y e = (x, refl, e)

deepest-least : (k : ℕ) (ls : List Line) → k ≤ deepest k ls
deepest-least k [] = omega arith
deepest-least k (l ∷ ls) = omega arith

count-more : (b : Bool) (n m : ℕ) → n + (cond b 1 0 + m) ≤ 1024 → (if b then n + 1 else n) + m ≤ 1024
count-more true n m h = omega arith
count-more false n m h = omega arith

count-next : (n : ℕ) (l : Line) (ls : List Line) → n + statements (l ∷ ls) ≤ 1024 → statements_behind n l + statements ls ≤ 1024
count-next n l ls h =
    let first : statements (l ∷ ls) ≡ cond (is_statement l) 1 0 + statements ls =
    sum_by-cons (λ (x : Line). cond (is_statement x) 1 0) l ls in
    count-more (is_statement l) n (statements ls) (subst (λ (m : ℕ). n + m ≤ 1024) first h)

-- what is so of an open body in front of these lines of its code
pub record IsAhead (format : ℕ) (s : Names) (o : Inside) (ls : List Line) (end : List Frame × Block) : Type 0 where
  pub numbers : list_all fits_line ls ≡ true
  pub fits : list_all (line_fits s) ls ≡ true
  pub builds : build ls o.frames o.block ≡ Some end
  pub notes : locals_by format o.locals (code_lines s ls) ≡ s.locals
  pub known : list_all (is_in_format format) ls ≡ true
  pub count : o.statements + statements ls ≤ 1024
  pub depth : deepest (length o.frames) ls ≤ 16

-- in a body with these locals, after the arrays and among the bodies of these names
module _ (bodies : List Word) (j : JobTree) (locals : List Word)
    (good_arrays : are_names (array_names j) ≡ true)
    (good_bodies : are_names bodies ≡ true)
    (good_locals : are_names locals ≡ true)
    (few : length locals ≤ 32) where
  abbrev all : Names
  all = names bodies j locals

  good : (front more : List Word) → front ++ more ≡ locals → AreGood (names bodies j front)
  good front more e =
      record {
        arrays = good_arrays;
        bodies = good_bodies;
        locals = names-front front more (subst (λ (x : List Word). are_names x ≡ true) (sym e) good_locals);
      }

  -- the locals that a line mentions are those noted after it
  known : (before more : List Word) (l : Line) (fs : List Frame) (b : Block) (st : List Frame × Block) → fits_line l ≡ true
      → line_fits all l ≡ true
      → step_of l fs b ≡ Some st
      → noted before (mentions_of (line_words all l)) ++ more ≡ locals
      → line_fits (names bodies j (noted before (mentions_of (line_words all l)))) l ≡ true
  known before more l fs b st f h e n =
      let front : List Word = noted before (mentions_of (line_words all l)) in
      let mentioned : mentions_of (line_words all l) ≡ named_at locals (mentions.in_line l) =
      line-mentions all (can_else fs) l (record { arrays = good_arrays; bodies = good_bodies; locals = good_locals })
      (line-is all l fs b st f h e) in
      let among : list_all (is_among front) (named_at (front ++ more) (mentions.in_line l)) ≡ true =
      ap (λ (x : List Word). list_all (is_among front) x) (ap (λ (x : List Word). named_at x (mentions.in_line l)) n ∙ sym mentioned)
      ∙ noted-all before (mentions_of (line_words all l)) in
      and-true _ _ (and-left (line_names (length (array_names j)) (length bodies) l) (are_below (length locals) (mentions.in_line l)) h)
      (all-known front more (mentions.in_line l) (subst (λ (x : List Word). are_names x ≡ true) (sym n) good_locals)
      (subst (λ (x : List Word). are_below (length x) (mentions.in_line l) ≡ true) (sym n) (locals-below all l h)) among)

  -- those of a line are there, as they are listed or as they are noted
  known-behind : (before later : List Word) (l : Line) (fs : List Frame) (b : Block) (st : List Frame × Block) → fits_line l ≡ true
      → line_fits all l ≡ true
      → step_of l fs b ≡ Some st
      → locals_behind j.format (locals_behind j.format before (mentions_of (line_words all l))) later ≡ locals
      → line_fits (names bodies j (locals_behind j.format before (mentions_of (line_words all l)))) l ≡ true
  known-behind before later l fs b st f h e = by (j.format == 1)
    where
      ms : List Word
      ms = mentions_of (line_words all l)

      by : (t : Bool)
          → (if t then noted (if t then noted before ms else before) later else (if t then noted before ms else before)) ≡ locals
          → line_fits (names bodies j (if t then noted before ms else before)) l ≡ true
      by true n =
          let more = noted-grows (noted before ms) later in
          known before more.0 l fs b st f h e (sym more.1 ∙ n)
      by false n = subst (λ (x : List Word). line_fits (names bodies j x) l ≡ true) (sym n) h

  -- a line of the body is read as itself
  line-passes : (o : Inside) (l : Line) (st : List Frame × Block) (later : List Word) → fits_line l ≡ true → line_fits all l ≡ true
      → is_in_format j.format l ≡ true
      → step_of l o.frames o.block ≡ Some st
      → locals_behind j.format (locals_behind j.format o.locals (mentions_of (line_words all l))) later ≡ locals
      → statements_behind o.statements l ≤ 1024
      → opened (length o.frames) l ≤ 16
      → Passes bodies (line_words all l) (j, Some o)
      (j, Some (grown (noting j.format o (line_words all l)) (statements_behind o.statements l) st))
  line-passes o l st later f h g e notes count depth =
      let ws : Words = line_words all l in
      let front : List Word = locals_behind j.format o.locals (mentions_of ws) in
      let s : Names = names bodies j front in
      let fits : line_fits s l ≡ true = known-behind o.locals later l o.frames o.block st f h e notes in
      let grows = locals-grow j.format front later in
      let more : List Word = grows.0 in
      let n : front ++ more ≡ locals = sym grows.1 ∙ notes in
      let words : line_words all l ≡ line_words s l =
      ap (λ (x : List Word). line_words (names bodies j x) l) (sym n) ∙ line-grows s more l fits in
      let says : line_of s (can_else o.frames) ws ≡ Ok (as_read l) =
      ap (line_of s (can_else o.frames)) words
      ∙ line-written s (can_else o.frames) l (good front more n) (line-is s l o.frames o.block st f fits e) in
      let whole : length (front ++ more) ≤ 32 = subst (λ (x : List Word). length x ≤ 32) (sym n) few in
      let short : length front ≤ 32 = omega (arith, length-append front more) in
      let over : is_over (statements_behind o.statements (as_read l)) (length front) (opened (length o.frames) (as_read l)) ≡ false =
      not-over _ _ _ (subst (λ (x : ℕ). x ≤ 1024) (sym (counts-read o.statements l)) count) short
      (subst (λ (x : ℕ). x ≤ 16) (sym (opens-read (length o.frames) l)) depth) in
      record {
        read = said-passes bodies j o ws (as_read l) says over (known-read j.format l ∙ g)
            ∙ ap (λ (m : ℕ). Ok (behind j (noting j.format o ws) m (step_of (as_read l) o.frames o.block))) (counts-read o.statements l)
            ∙ ap (λ (x : Option (List Frame × Block)). Ok (behind j (noting j.format o ws) (statements_behind o.statements l) x))
            (step-read l o.frames o.block ∙ e);
        found = line-found all l good_bodies h;
      }

  abbrev pub at_end : Inside → List Frame × Block → ℕ → Inside
  at_end o end n = record { name = o.name; locals = locals; frames = end.0; block = end.1; statements = n }

  same-inside : (o : Inside) (end : List Frame × Block) → (o.frames, o.block) ≡ end → o.locals ≡ locals → o ≡ at_end o end o.statements
  same-inside o end e f =
      ap (λ (x : List Frame × Block). record { name = o.name; locals = o.locals; frames = x.0; block = x.1; statements = o.statements }) e
      ∙ ap (λ (x : List Word). record { name = o.name; locals = x; frames = end.0; block = end.1; statements = o.statements }) f

  -- the lines of code are read one after the other
  pub code-reads : (ls : List Line) (o : Inside) (end : List Frame × Block) → IsAhead j.format all o ls end
      → (n : ℕ) × (n ≤ 1024) × Reads bodies (code_lines all ls) (j, Some o) (j, Some (at_end o end n))
  code-reads [] o end h =
      let built : (o.frames, o.block) ≡ end = cc in
      let count : o.statements ≤ 1024 = omega (arith, h.count) in
      (o.statements, count, ap (λ (x : Inside). (j, Some x)) (same-inside o end built (sym (behind-none j.format o.locals) ∙ h.notes)))
  code-reads (l ∷ ls) o end h =
      let ws : Words = line_words all l in
      let next = then-some (step_of l o.frames o.block) (λ (s : List Frame × Block). build ls s.0 s.1) end h.builds in
      let o' : Inside = grown (noting j.format o ws) (statements_behind o.statements l) next.0 in
      let later : List Word = flat_map mentions_of (code_lines all ls) in
      let notes : locals_behind j.format (locals_behind j.format o.locals (mentions_of ws)) later ≡ locals =
      sym (behind-append j.format o.locals (mentions_of ws) later) ∙ h.notes in
      let count : statements_behind o.statements l + statements ls ≤ 1024 = count-next o.statements l ls h.count in
      let opens : length next.0.0 ≡ opened (length o.frames) l = step-opens l o.frames o.block next.0 next.1 in
      let whole : max (length o.frames) (deepest (opened (length o.frames) l) ls) ≤ 16 = h.depth in
      let least : opened (length o.frames) l ≤ deepest (opened (length o.frames) l) ls = deepest-least (opened (length o.frames) l) ls in
      let depth : deepest (opened (length o.frames) l) ls ≤ 16 = omega arith in
      let passes = line-passes o l next.0 later (and-left (fits_line l) (list_all fits_line ls) h.numbers)
      (and-left (line_fits all l) (list_all (line_fits all) ls) h.fits)
      (and-left (is_in_format j.format l) (list_all (is_in_format j.format) ls) h.known) next.1 notes (omega arith) (omega arith) in
      let rest = code-reads ls o' end (record {
        numbers = and-right (fits_line l) (list_all fits_line ls) h.numbers;
        fits = and-right (line_fits all l) (list_all (line_fits all) ls) h.fits;
        builds = next.2;
        notes = notes;
        known = and-right (is_in_format j.format l) (list_all (is_in_format j.format) ls) h.known;
        count = count;
        depth = subst (λ (x : ℕ). deepest x ls ≤ 16) (sym opens) depth;
      }) in
      (rest.0, rest.1, ((j, Some o'), passes, rest.2))

-- an end when no line is open ends the body
pub end-passes : (bodies : List Word) (j : JobTree) (name : Word) (locals : List Word) (b : Block) (n : ℕ) → n ≤ 1024 → length locals ≤ 32
    → Passes bodies end_words (j, Some (record { name = name; locals = locals; frames = []; block = b; statements = n }))
    (record j { bodies = j.bodies ++ (record { name = name; locals = locals; block = b }) ∷ [] }, None)
unfolding keyword_of mentions_behind line_behind
end-passes bodies j name locals b n h k = record {
  read =
      ap
      (λ (ls : List Word). noted_line bodies j (record { name = name; locals = ls; frames = []; block = b; statements = n }) (Some End) [])
      (behind-none j.format locals)
      ∙ ap (λ (x : Bool).
      made (with_line j (record { name = name; locals = locals; frames = []; block = b; statements = n }))
      (if x then Err TooMany else Ok line.EndIf))
      (not-over n (length locals) (0 - 1) h k (omega arith));
  found = refl;
}
