use Rattle.std.proofs.Common.{◌≡◌, ◌≤◌, ◌∙◌, ap, sym, subst}
use Rattle.phase_records.specs.ReportText.{steps_text}
use Rattle.step_core.specs.Program.{program_of}
use Rattle.program_stretches.specs.LinesValue.{LinesValue}
use Rattle.job_stream.specs.Streamed.{lines_of}
use Rattle.job_stream.proofs.Streams.{piece_continues, fails_continue}
use Rattle.job_stream.proofs.text.pass_on.Goals as goal

pub returns-in-Ok-clause-text : goal.returns-in-Ok-clause-text
returns-in-Ok-clause-text g c =
    let p = program_of c.args.job.now in
    let le : c.args.lines.next ≤ c.args.limit = subst (λ (l : LinesValue). l.next ≤ c.args.limit) c.lines.view_is c.if-next-limit.false in
    let first : c.args.lines.first ≡ c.args.written = ap (λ (l : LinesValue). l.first) (sym c.lines.view_is) ∙ c.if-lines-written.false in (
      steps_text c.args.lines.prints c.args.lines.records,
      ap (λ (l : LinesValue). lines_of p c.args.limit l.next) c.lines.view_is
          ∙ piece_continues p c.args.limit c.args.lines (c.requires.piece le) c.args.written first,
      c.in-Ok.ensures.text,
    )

pub returns-in-Err-clause-text : goal.returns-in-Err-clause-text
returns-in-Err-clause-text g c =
    let p = program_of c.args.job.now in
    let le : c.args.lines.next ≤ c.args.limit = subst (λ (l : LinesValue). l.next ≤ c.args.limit) c.lines.view_is c.if-next-limit.false in
    let first : c.args.lines.first ≡ c.args.written = ap (λ (l : LinesValue). l.first) (sym c.lines.view_is) ∙ c.if-lines-written.false in
    fails_continue p c.args.limit c.args.written c.args.lines.next (steps_text c.args.lines.prints c.args.lines.records)
    (g.W.CountedWrite.contents c.args.writer.now) (g.W.CountedWrite.contents c.write_lines.new.writer)
    c.in-Err.fault (piece_continues p c.args.limit c.args.lines (c.requires.piece le) c.args.written first) c.in-Err.ensures.text
