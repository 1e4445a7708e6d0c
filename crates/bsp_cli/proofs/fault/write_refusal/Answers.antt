use Rattle.std.proofs.Common.{Result, Ok, Err, decimal, codes, ◌++◌, List, ℕ}
use Rattle.std.specs.Prelude.{OnOk}
use Rattle.text_lines.specs.Refusals.{code_number}
use Rattle.phase_records.proofs.PassedBytes.{Appends-more}
use Rattle.bsp_cli.proofs.fault.write_refusal.Goals as goal

on_ok : {A E : Type 0} {P Q : Type 0} (result : Result A E) → OnOk result P → (P → Q) → OnOk result Q
on_ok (Ok a) p f = f p
on_ok (Err e) p f = p

pub returns-clause-ok : goal.returns-clause-ok
returns-clause-ok g c =
    let first : List ℕ = codes "refused line " ++ decimal c.args.refusal.line in
    let second : List ℕ = codes " code " ++ decimal (code_number c.args.refusal.code) in
    on_ok c.write_all.result c.write_all.ensures.ok (λ last.
    Appends-more _ _ _ (first ++ second) (codes "\n")
    (Appends-more _ _ _ first second c.in_ok-write_field.ensures.ok (rw c.number.ensures at c.in_ok-write_field-2.ensures.ok)) last)
