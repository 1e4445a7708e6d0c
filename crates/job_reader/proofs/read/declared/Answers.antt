use Rattle.std.proofs.lemmas.Grind.{common_steps}
use Rattle.std.proofs.Common.{◌≤◌, ℕ, List, ◌++◌, ◌∙◌, ap, sym, arith, take, length}
use Rattle.std.specs.List.{filter_map}
use Rattle.text_lines.specs.Text.{lines_of, words_of}
use Rattle.job_reader.specs.Words.{Word}
use Rattle.job_reader.specs.Views.{lent}
use Rattle.job_reader.specs.Reading.{declared_by}
use Rattle.job_reader.proofs.DeclaredLemmas.{length-lent, take-full, take-whole}
use Rattle.job_reader.proofs.read.declared.Goals as goal

abbrev names_of : List (List ℕ) → List Word
names_of ls = filter_map (λ (l : List ℕ). declared_by (words_of l)) ls

pub loop-line-preserved-else-len-lt-MOST_BODIES : goal.loop-line-preserved-else-len-lt-MOST_BODIES
loop-line-preserved-else-len-lt-MOST_BODIES c =
    let full : 64 ≤ length (lent c.loop-line.names.items) =
    omega (arith, length-lent c.loop-line.names.items, c.len.ensures, c.loop-line.names.ok.0) in
    record {
      same =
          take-full (lent c.loop-line.names.items) (names_of (lines_of c.in-Some.after.now)) (names_of (lines_of c.loop-line.rest.now)) 64
          full
          ∙ c.loop-line.invariant.same;
      few = c.loop-line.invariant.few;
    }

pub returns-clause-names : goal.returns-clause-names
returns-clause-names c =
    let few : length (lent c.loop-line.names.items) ≤ 64 = omega (arith, length-lent c.loop-line.names.items, c.loop-line.invariant.few) in
    sym (take-whole (lent c.loop-line.names.items) 64 few)
    ∙ ap (λ (t : List ℕ). take 64 (lent c.loop-line.names.items ++ names_of (lines_of t))) (sym c.in_default.ensures.lines)
    ∙ c.loop-line.invariant.same

pub loop-line-preserved-in-Continue-1 : goal.loop-line-preserved-in-Continue-1
loop-line-preserved-in-Continue-1 = grind (arith, common_steps)
