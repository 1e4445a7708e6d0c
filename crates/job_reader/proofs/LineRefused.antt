-- What is refused of the words after `let` and `put`.
use Rattle.std.proofs.Common.{◌≡◌, ℕ, ◌∷◌, Result, Err, ap, sym, ◌∙◌}
use Rattle.text_lines.specs.declared.refusal.Code.{Code}
use Rattle.superstep_memory.specs.declared.arrays.PutKind.{PutKind}
use Rattle.task_code.specs.declared.code.Cell.{Cell}
use Rattle.task_code.specs.declared.code.Expr.{Expr}
use Rattle.job_reader.specs.Faults.{both, made}
use Rattle.job_reader.specs.Words.{Word, Words, declared_at}
use Rattle.job_reader.specs.Exprs.{Names, cell_of, expr_of}
use Rattle.job_reader.specs.Lines.{is_equals, let_line, let_of, put_line, put_of}

pub let_refused : (s : Names) (all : Words) (name is : Word) (ws : Words) (e : Result Expr Code) (front : Result (Unit {0} × ℕ) Code)
    (code : Code)
    → all ≡ name ∷ is ∷ ws → front ≡ both (is_equals is) (declared_at s.locals name) → e ≡ expr_of s ws → Err code ≡ both front e
    → Err code ≡ let_of s all
let_refused s all name is ws e front code words parts rest refused =
    ap (made let_line)
    (refused
    ∙ (ap (λ (x : Result (Unit {0} × ℕ) Code). both x e) parts ∙ ap (both (both (is_equals is) (declared_at s.locals name))) rest))
    ∙ ap (let_of s) (sym words)

pub put_refused : (s : Names) (kind : PutKind) (all : Words) (cell is : Word) (ws : Words) (e : Result Expr Code)
    (front : Result (Cell × Unit {0}) Code) (code : Code)
    → all ≡ cell ∷ is ∷ ws → front ≡ both (cell_of s cell) (is_equals is) → e ≡ expr_of s ws → Err code ≡ both front e
    → Err code ≡ put_of s kind all
put_refused s kind all cell is ws e front code words parts rest refused =
    ap (made (put_line kind))
    (refused ∙ (ap (λ (x : Result (Cell × Unit {0}) Code). both x e) parts ∙ ap (both (both (cell_of s cell) (is_equals is))) rest))
    ∙ ap (put_of s kind) (sym words)
