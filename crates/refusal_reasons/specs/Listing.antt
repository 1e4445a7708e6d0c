-- The faulty lines of a text, one a line of the output (own).
use Rattle.std.specs.Prelude.{ℕ, List, ◌++◌, codes, decimal}
use Rattle.std.specs.List.{flat_map}
use Rattle.text_lines.specs.declared.refusal.Refusal.{Refusal}
use Rattle.text_lines.specs.Refusals.{code_number}
use Rattle.refusal_reasons.specs.Names.{code_name}
use Rattle.refusal_reasons.specs.Faults.{faults_in}

abbrev pub fault_line : Refusal → List ℕ
fault_line r =
    codes "line " ++ decimal r.line ++ codes " code " ++ decimal (code_number r.code) ++ codes " " ++ code_name r.code ++ codes "\n"

abbrev pub listing : List ℕ → List ℕ
listing text = flat_map fault_line (faults_in text)
