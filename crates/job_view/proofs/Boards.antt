-- Small boards one after another.
use Rattle.std.proofs.Common.{◌≡◌, ℕ, zero, suc, ◌-◌, ◌*◌, ◌<◌, List, ◌++◌, take, drop, sym, ap, ◌∙◌, append_assoc, arith}
use Rattle.std.specs.Prelude.{ℤ}
use Rattle.job_view.specs.Grids.{placed, small_frame}
use Rattle.job_view.specs.Panels.{boards_from, small_board}
use Rattle.job_view.specs.declared.cells.Extent.{Extent}

-- the board of a number
abbrev pub board_at : Extent → ℕ → ℕ → ℕ → ℕ → ℕ → List ℤ → List ℕ
board_at e across every count cells n values =
    small_board (placed (small_frame across cells) (count - n)) e across (every * (count - n)) (take cells values)

boards_some : (e : Extent) (across every count cells n : ℕ) (values : List ℤ) → 0 < n
    → boards_from e across every count cells n values
    ≡ board_at e across every count cells n values ++ boards_from e across every count cells (n - 1) (drop cells values)
boards_some e across every count cells zero values h = absurd (omega arith)
boards_some e across every count cells (suc n) values h =
    let p : suc n - 1 ≡ n = omega arith in
    ap (λ (k : ℕ). board_at e across every count cells (suc n) values ++ boards_from e across every count cells k (drop cells values))
    (sym p)

-- one board more
pub next_board : (e : Extent) (across every count cells n : ℕ) (values back : List ℤ) (out new all : List ℕ) → 0 < n
    → back ≡ drop cells values
    → new ≡ out ++ board_at e across every count cells n values → out ++ boards_from e across every count cells n values ≡ all
    → new ++ boards_from e across every count cells (n - 1) back ≡ all
next_board e across every count cells n values back out new all h b s t =
    ap (λ (xs : List ℕ). xs ++ boards_from e across every count cells (n - 1) back) s
    ∙ append_assoc out (board_at e across every count cells n values) (boards_from e across every count cells (n - 1) back)
    ∙ ap (λ (vs : List ℤ). out ++ (board_at e across every count cells n values ++ boards_from e across every count cells (n - 1) vs)) b
    ∙ ap (λ (xs : List ℕ). out ++ xs) (sym (boards_some e across every count cells n values h))
    ∙ t
