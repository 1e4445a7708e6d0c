-- One line more of a segment.
use Rattle.std.proofs.Common.{◌≡◌, ℕ, zero, suc, ◌+◌, ◌-◌, ◌<◌, List, refl, sym, ap, ◌∙◌, arith}
use Rattle.std.specs.Prelude.{slice_get}
use Rattle.task_code.specs.declared.code.Line.{Line}
use Rattle.task_lang.specs.declared.scene.Move.{Move}
use Rattle.task_lang.specs.Meaning.{Setting}
use Rattle.fault_reasons.specs.Done.{Done}
use Rattle.fault_reasons.specs.Walk.{after_move, costing, moved_at, spent, walked}

module _ (s : Setting) (code : List Line) where
  -- what the line at a place leads to
  abbrev line_led : ℕ → Done → Move × Done
  line_led here d = moved_at s (slice_get code here) here d

  more : (n k place : ℕ) (d : Done) → n ≡ k + 1
      → walked s code n place d ≡ after_move (costing code place) (line_led (costing code place) d) (walked s code k)
  unfolding walked
  more zero k place d e = absurd (omega arith)
  more (suc n) k place d e =
      let e' : n ≡ k = omega arith in
      ap (λ (j : ℕ). after_move (costing code place) (line_led (costing code place) d) (walked s code j)) e'

  -- with something left of the budget, a segment goes on as the next line that costs says
  pub step : (left here place : ℕ) (m : Move) (d e : Done) → here ≡ costing code place → (m, e) ≡ line_led here d → 0 < left
      → walked s code left place d ≡ after_move here (m, e) (walked s code (left - 1))
  step left here place m d e at is lt =
      let one : left ≡ (left - 1) + 1 = omega arith in
      more left (left - 1) place d one
      ∙ ap (λ (p : ℕ). after_move p (line_led p d) (walked s code (left - 1))) (sym at)
      ∙ ap (λ (x : Move × Done). after_move here x (walked s code (left - 1))) (sym is)

  -- with nothing left it ends there
  pub out : (left place : ℕ) (d : Done) → left ≡ 0
      → walked s code left place d ≡ spent (slice_get code (costing code place)) (costing code place) d
  unfolding walked
  out zero place d e = refl
  out (suc n) place d e = absurd (omega arith)
