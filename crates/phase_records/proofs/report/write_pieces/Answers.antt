use Rattle.phase_records.specs.ReportText.{report_text}
use Rattle.phase_records.proofs.TakenProofs.{took_end}
use Rattle.phase_records.proofs.report.write_pieces.Goals as goal

pub returns-clause-took : goal.returns-clause-took
returns-clause-took g c = took_end _ _ _ (report_text c.args.report.now) c.push_report.ensures c.flush.ensures.took
