use Rattle.std.proofs.Common.{refl, rules, arith, sym}
use Rattle.phase_records.specs.ReportText.{report_text}
use Rattle.phase_records.proofs.TakenProofs.{all_out, some_out}
use Rattle.phase_records.proofs.report.write_report.Goals as goal

pub returns-then-pieces-clause-text : goal.returns-then-pieces-clause-text
returns-then-pieces-clause-text g c =
    let out = some_out _ _ (report_text c.args.report.now) c.write_pieces.ensures.took (c.in-Ok.ensures.items) refl c.if-pieces.true in
    search (rules, out.0, sym c.write_pieces.ensures.same_writer)

pub returns-then-pieces-clause-failures : goal.returns-then-pieces-clause-failures
returns-then-pieces-clause-failures g c =
    let out = some_out _ _ (report_text c.args.report.now) c.write_pieces.ensures.took (c.in-Ok.ensures.items) refl c.if-pieces.true in
    grind (arith, out.1)

pub returns-clause-text : goal.returns-clause-text
returns-clause-text g c =
    let out =
    all_out _ _ (report_text c.args.report.now) c.write_pieces.ensures.took (c.in-Ok.ensures.items) c.write_pieces.ensures.empty refl
    c.if-pieces.false in
    grind (arith, out.0)

pub returns-clause-failures : goal.returns-clause-failures
returns-clause-failures g c =
    let out =
    all_out _ _ (report_text c.args.report.now) c.write_pieces.ensures.took (c.in-Ok.ensures.items) c.write_pieces.ensures.empty refl
    c.if-pieces.false in
    grind (arith, out.1)
