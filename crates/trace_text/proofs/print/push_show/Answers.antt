use Rattle.std.proofs.Common.{◌≡◌, ◌++◌, ℤ, FitsSigned, w32, to_z, of_z, subst, ◌∙◌, arith, rules}
use Rattle.std.specs.Prelude.{OnOk, codes}
use Rattle.std.specs.Fmt.{signed_decimal}
use Rattle.std.proofs.lemmas.Int.{ints}
use Rattle.trace_text.specs.Answers.{show_numbers}
use Rattle.trace_text.proofs.PrintedLines.{fields_and_text}
use Rattle.trace_text.proofs.print.push_show.Goals as goal

pub returns : goal.returns
returns c =
    let fits : FitsSigned w32 c.args.phase = search rules in
    let back : to_z w32 (of_z w32 c.args.phase) ≡ c.args.phase = omega (arith, ints, fits) in
    subst
    (λ (p : ℤ). OnOk c.extend_from_slice.result (c.extend_from_slice.new.self.items ≡ c.args.out.now.items ++ show_numbers p c.args.parties c.args.unarrived c.args.ended))
    back
    (fields_and_text c.extend_from_slice.result c.args.out.now.items _ _ _ _ (codes "phase ") (signed_decimal (to_z w32 (of_z w32 c.args.phase))) _ _ _ _ _ _
    c.in_ok-push_field.ensures c.in_ok-push_field-2.ensures c.in_ok-push_field-3.ensures (c.as_bytes.ensures.value ∙ c.ended_text.ensures)
    c.extend_from_slice.ensures.items)
