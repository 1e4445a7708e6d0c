-- The lines of flat code are those of its tree.
use Rattle.std.proofs.Common.{◌≡◌, ℕ, ◌+◌, List, [], ◌∷◌, ◌++◌, length, refl, sym, ap, ◌∙◌, append_assoc, codes}
use Rattle.task_code.specs.declared.code.Line.{Line}
use Rattle.task_code.specs.declared.code.Line.TheVariants as line
use Rattle.task_code.specs.Tree.{Block, Done, Do, If, IfElse, While, flat}
use Rattle.task_code.specs.Reading.{tree_of, IsMatched}
use Rattle.job_reader.specs.Words.{Words}
use Rattle.job_reader.specs.Exprs.{Names, expr_words}
use Rattle.job_reader.specs.Lines.{line_words, action_words, end_words}
use Rattle.job_reader.specs.Grammar.{block_lines, line_text, text_of}
use Rattle.job_reader.specs.Writing.{code_lines}

pub code-append : (s : Names) (xs ys : List Line) → code_lines s (xs ++ ys) ≡ code_lines s xs ++ code_lines s ys
code-append s [] ys = refl
code-append s (x ∷ xs) ys = ap (λ (t : List Words). line_words s x ∷ t) (code-append s xs ys)

pub block-code : (s : Names) (b : Block) → code_lines s (flat b) ≡ block_lines s b
block-code s Done = refl
block-code s (Do a r) = ap (λ (t : List Words). action_words s a ∷ t) (block-code s r)
block-code s (If e a r) =
    ap (λ (t : List Words). (codes "if" ∷ expr_words s e) ∷ t)
    (code-append s (flat a) (line.EndIf ∷ flat r)
    ∙ ap (λ (t : List Words). t ++ end_words ∷ code_lines s (flat r)) (block-code s a)
    ∙ ap (λ (t : List Words). block_lines s a ++ end_words ∷ t) (block-code s r))
block-code s (While e a r) =
    ap (λ (t : List Words). (codes "while" ∷ expr_words s e) ∷ t)
    (code-append s (flat a) (line.EndWhile e (length (flat a)) ∷ flat r)
    ∙ ap (λ (t : List Words). t ++ end_words ∷ code_lines s (flat r)) (block-code s a)
    ∙ ap (λ (t : List Words). block_lines s a ++ end_words ∷ t) (block-code s r))
block-code s (IfElse e a b r) =
    ap (λ (t : List Words). (codes "if" ∷ expr_words s e) ∷ t)
    (code-append s (flat a) (line.Else (length (flat b) + 1) ∷ (flat b ++ line.EndIf ∷ flat r))
    ∙ ap (λ (t : List Words). t ++ (codes "else" ∷ []) ∷ code_lines s (flat b ++ line.EndIf ∷ flat r)) (block-code s a)
    ∙ ap (λ (t : List Words). block_lines s a ++ (codes "else" ∷ []) ∷ t)
    (code-append s (flat b) (line.EndIf ∷ flat r)
    ∙ ap (λ (t : List Words). t ++ end_words ∷ code_lines s (flat r)) (block-code s b)
    ∙ ap (λ (t : List Words). block_lines s b ++ end_words ∷ t) (block-code s r)))

-- matched code is written as its tree
pub matched-code : (s : Names) (code : List Line) → IsMatched code → code_lines s code ≡ block_lines s (tree_of code)
matched-code s code m = ap (code_lines s) (sym m) ∙ block-code s (tree_of code)

pub text-append : (xs ys : List Words) → text_of (xs ++ ys) ≡ text_of xs ++ text_of ys
text-append [] ys = refl
text-append (x ∷ xs) ys =
    ap (λ (t : List ℕ). line_text x ++ t) (text-append xs ys) ∙ sym (append_assoc (line_text x) (text_of xs) (text_of ys))
