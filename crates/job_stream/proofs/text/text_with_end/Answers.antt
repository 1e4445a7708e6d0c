use Rattle.std.proofs.Common.{◌≡◌, ◌++◌, ◌∙◌, List, ℕ, ap, subst, arith, append-nil}
use Rattle.std.specs.Prelude.{ℤ, IfOk, codes}
use Rattle.std.specs.List.{flat_map}
use Rattle.std.proofs.lemmas.Fmt.{decimal_digit}
use Rattle.phase_records.specs.Status.{Ended}
use Rattle.phase_records.specs.ReportText.{steps_text, array_line, status_line}
use Rattle.job_stream.proofs.text.text_with_end.Goals as goal

pub returns : goal.returns
returns c =
    let steps = steps_text c.args.prints.items c.args.records.items in
    subst (λ (xs : List ℕ). IfOk c.text_of.result (λ text. text.items ≡ xs))
    (ap (λ (xs : List (List ℕ × List ℤ)). (steps ++ flat_map array_line xs) ++ status_line (Ended 0)) c.new.ensures
    ∙ ap (λ (t : List ℕ). t ++ status_line (Ended 0)) (append-nil steps)
    ∙ ap (λ (d : List ℕ). steps ++ ((codes "ended " ++ d) ++ codes "\n")) (decimal_digit 0 (omega arith)))
    c.text_of.ensures
