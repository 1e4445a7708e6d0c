use Rattle.std.proofs.Common.{◌≡◌, ℕ, List, [], ◌+◌, ◌++◌, refl, sym, ap, ◌∙◌, subst}
use Rattle.phase_records.specs.PrintValue.{PrintValue}
use Rattle.phase_records.specs.declared.record.PhaseRecord.{PhaseRecord}
use Rattle.phase_records.specs.ReportText.{steps_text}
use Rattle.step_core.specs.Program.{program_of}
use Rattle.programs.proofs.Reached.{ok_is}
use Rattle.step_core.specs.JobRun.{JobRunValue, IsAfter}
use Rattle.job_stream.specs.Streamed.{lines_of}
use Rattle.job_stream.specs.Running.{IsWritten}
use Rattle.job_stream.proofs.Streams.{piece_continues, fails_continue}
use Rattle.job_stream.proofs.Stepped.{WentOn, emptied, written_on, piece_of}
use Rattle.job_stream.proofs.alone.advance.Goals as goal

pub returns-in-Ok-clause-run : goal.returns-in-Ok-clause-run
returns-in-Ok-clause-run g c =
    let r = c.args.run.now in
    let s = c.step.new.self in
    let ok = sym c.is_err.ensures.value ∙ c.if-is_err.false in
    let o : WentOn r s = record {
      next =
          ok_is c.step.result ((n : ℕ) (ps : List PrintValue) (rs : List PhaseRecord) → IsAfter n ps rs r → IsAfter (n + 1) ps rs s) ok
          c.step.ensures.next;
      job = c.step.ensures.job.0;
      limit = ok_is c.step.result (s.run.limit ≡ r.run.limit) ok c.step.ensures.job.1;
    } in
    let kept : c.take_records.new.self ≡ emptied s =
    c.take_records.ensures.kept ∙ ap (λ (x : JobRunValue). record x { run = record x.run { records = [] } }) c.take_prints.ensures.kept in (
      refl,
      subst (λ (x : JobRunValue). IsWritten c.args.job.now c.args.limit (c.args.written + 1) x) (sym kept)
          (written_on c.args.job.now c.args.limit c.args.written r s c.requires.run o),
    )

pub returns-in-Ok-clause-text : goal.returns-in-Ok-clause-text
returns-in-Ok-clause-text g c =
    let r = c.args.run.now in
    let s = c.step.new.self in
    let p = program_of c.args.job.now in
    let ok = sym c.is_err.ensures.value ∙ c.if-is_err.false in
    let o : WentOn r s = record {
      next =
          ok_is c.step.result ((n : ℕ) (ps : List PrintValue) (rs : List PhaseRecord) → IsAfter n ps rs r → IsAfter (n + 1) ps rs s) ok
          c.step.ensures.next;
      job = c.step.ensures.job.0;
      limit = ok_is c.step.result (s.run.limit ≡ r.run.limit) ok c.step.ensures.job.1;
    } in
    let piece = piece_of c.args.job.now c.args.limit c.args.written r c.requires.run s o in
    let records : c.take_records.result.items ≡ s.run.records =
    c.take_records.ensures.given ∙ ap (λ (x : JobRunValue). x.run.records) c.take_prints.ensures.kept in
    let text : steps_text s.run.prints s.run.records ≡ steps_text c.take_prints.result.items c.take_records.result.items =
    λ i. steps_text (sym c.take_prints.ensures.given i) (sym records i) in (
      steps_text c.take_prints.result.items c.take_records.result.items,
      piece_continues p c.args.limit _ piece c.args.written refl ∙ ap (λ (xs : List ℕ). lines_of p c.args.limit c.args.written ++ xs) text,
      c.in-Ok.ensures.text,
    )

pub returns-in-Err-clause-text : goal.returns-in-Err-clause-text
returns-in-Err-clause-text g c =
    let r = c.args.run.now in
    let s = c.step.new.self in
    let p = program_of c.args.job.now in
    let ok = sym c.is_err.ensures.value ∙ c.if-is_err.false in
    let o : WentOn r s = record {
      next =
          ok_is c.step.result ((n : ℕ) (ps : List PrintValue) (rs : List PhaseRecord) → IsAfter n ps rs r → IsAfter (n + 1) ps rs s) ok
          c.step.ensures.next;
      job = c.step.ensures.job.0;
      limit = ok_is c.step.result (s.run.limit ≡ r.run.limit) ok c.step.ensures.job.1;
    } in
    let piece = piece_of c.args.job.now c.args.limit c.args.written r c.requires.run s o in
    let records : c.take_records.result.items ≡ s.run.records =
    c.take_records.ensures.given ∙ ap (λ (x : JobRunValue). x.run.records) c.take_prints.ensures.kept in
    let text : steps_text s.run.prints s.run.records ≡ steps_text c.take_prints.result.items c.take_records.result.items =
    λ i. steps_text (sym c.take_prints.ensures.given i) (sym records i) in
    fails_continue p c.args.limit c.args.written (c.args.written + 1) (steps_text c.take_prints.result.items c.take_records.result.items)
    (g.W.CountedWrite.contents c.args.writer.now) (g.W.CountedWrite.contents c.write_lines.new.writer)
    c.in-Err.fault
    (piece_continues p c.args.limit _ piece c.args.written refl
    ∙ ap (λ (xs : List ℕ). lines_of p c.args.limit c.args.written ++ xs) text)
    c.in-Err.ensures.text
