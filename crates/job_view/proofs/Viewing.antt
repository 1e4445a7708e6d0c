-- Panels as views.
use Rattle.std.proofs.Common.{◌≡◌, ℕ, ◌+◌, List, [], ◌∷◌, ◌++◌, codes, Option, refl, ap, ap₂, ◌∙◌}
use Rattle.phase_records.specs.ReportValue.{ReportValue}
use Rattle.phase_records.specs.Status.{Status}
use Rattle.job_view.specs.Panels.{drawn, height, height_of, panels_from}
use Rattle.job_view.specs.Picture.{file, head, picture_with, supersteps}
use Rattle.job_view.specs.Views.{viewed, viewed_file, views_from, views_height, views_of}
use Rattle.job_view.specs.declared.columns.Column.{Column}
use Rattle.job_view.specs.declared.panels.Panel.{Panel}

same_from : (top : ℕ) (ps : List Panel) → panels_from top ps ≡ views_from top (views_of ps)
same_from top [] = refl
same_from top (p ∷ ps) =
    ap (λ (xs : List ℕ). drawn top p.name.now p.cells p.values.now p.form ++ xs) (same_from (top + height p.cells p.values.now p.form) ps)

same_height : (ps : List Panel) → height_of ps ≡ views_height (views_of ps)
same_height [] = refl
same_height (p ∷ ps) = ap (λ (n : ℕ). height p.cells p.values.now p.form + n) (same_height ps)

same_file : (name : Option (List ℕ)) (steps most : ℕ) (status : Status) (columns : List Column) (ps : List Panel)
    → file name steps most status columns ps ≡ viewed_file name steps most status columns (views_of ps)
unfolding file viewed_file
same_file name steps most status columns ps =
    ap₂ (λ (high : ℕ) (xs : List ℕ). head (320 + high) ++ supersteps name steps most status columns ++ xs ++ codes "</svg>\n")
    (same_height ps) (same_from 310 ps)

-- a picture with panels is one with their views
pub shown : (text : List ℕ) (name : Option (List ℕ)) (ps : List Panel) (r : ReportValue) → text ≡ picture_with name ps r
    → text ≡ viewed name (views_of ps) r
shown text name ps r e = e ∙ same_file name _ _ _ _ ps
