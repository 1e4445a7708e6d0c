-- Lines of flat code as they are written.
use Rattle.std.specs.Prelude.{List, map, string_bytes}
use Rattle.task_code.specs.declared.code.Line.{Line}
use Rattle.job_reader.specs.Words.{Words}
use Rattle.job_reader.specs.Exprs.{Names}
use Rattle.job_reader.specs.Lines.{line_words}
use Rattle.job_reader.specs.declared.push.Writing.{Writing}

-- the names by which a body's lines are written
abbrev pub names_of : Writing → Names
names_of w = record {
  arrays = map (λ a. a.0) w.arrays.now;
  bodies = map (λ b. b.name) w.bodies.now;
  locals = map string_bytes w.locals.now;
}

-- the lines of flat code
abbrev pub code_lines : Names → List Line → List Words
code_lines s code = map (line_words s) code
