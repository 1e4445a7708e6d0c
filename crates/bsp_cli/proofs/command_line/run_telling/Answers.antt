use Rattle.std.proofs.Common.{◌≡◌, inl, inr, ap, [], rules}
use Rattle.clap.specs.Words.{HasKind}
use Rattle.bsp_words.proofs.Refusals.{refused-kind}
use Rattle.bsp_cli.proofs.Refusals.{no-memory}
use Rattle.bsp_cli.proofs.command_line.run_telling.Goals as goal

pub returns-in-Err : goal.returns-in-Err
returns-in-Err g c = record {
  did = λ taken.
      let kind : HasKind [] c.in-Err.error = rw taken at c.in-Err.ensures.err in
      elim kind [
        | inl memory ↦
            let six : c.answer_error.result ≡ 6 = c.answer_error.ensures.memory memory in
            no-memory _ _ _ _ _ _ c.answer_error.result (ap g.W.CountedWrite.contents (c.answer_error.ensures.out six)) six
        | inr none ↦ absurd none
      ];
  taken = search rules;
  reads_nothing = search rules;
  no_tree = search rules;
  helps = search rules;
  tells_version = search rules;
  helped = search rules;
  versioned = search rules;
  refuses = λ refused.
      elim c.in-Err.ensures.err [
        | inl memory ↦ inr (c.answer_error.ensures.memory memory)
        | inr among ↦ let kind = refused-kind _ _ refused among in c.answer_error.ensures.refuses kind.0 kind.1
      ];
  untouched = search rules;
  nothing_written = search rules;
  within = search rules;
  silent = search rules;
  command_line_refused = search rules;
  says = search rules;
  counts = search rules;
}
