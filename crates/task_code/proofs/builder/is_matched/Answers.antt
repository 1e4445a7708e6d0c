use Rattle.std.proofs.Common.{sym, ◌∙◌, arith}
use Rattle.task_code.proofs.Building.{progress-none, progress-line, stopped-line, stopped-open, ended-matched, nil-from-length}
use Rattle.task_code.proofs.builder.is_matched.Goals as goal

pub loop-line-init : goal.loop-line-init
loop-line-init c = progress-none c.args.code.now _ c.new.ensures.items c.new-2.ensures.items

pub loop-line-preserved : goal.loop-line-preserved
loop-line-preserved c =
    progress-line c.args.code.now c.loop-line.line-index _ c.loop-line.builder c.line.new.self c.in_ok-line.field-0 c.if-not-branch.false
    c.loop-line-test.true c.loop-line.invariant c.in_ok-line.ensures

pub returns-then-not-branch : goal.returns-then-not-branch
returns-then-not-branch c =
    stopped-line c.args.code.now c.loop-line.line-index _ c.loop-line.builder c.line.new.self c.in_ok-line.field-0 c.if-not-branch.true
    c.loop-line-test.true c.loop-line.invariant c.in_ok-line.ensures

pub returns-then-len-ne0 : goal.returns-then-len-ne0
returns-then-len-ne0 c =
    stopped-open c.args.code.now c.loop-line.line-index c.len.result c.loop-line.builder c.loop-line.invariant (omega arith)
    (c.len.ensures ∙ c.loop-line.builder.places.ok.0) c.if-len-ne0.true

pub returns : goal.returns
returns c =
    let none =
    nil-from-length c.loop-line.builder.places.items (omega (arith, c.loop-line.builder.places.ok.0, c.len.ensures, c.if-len-ne0.false)) in
    let both = ended-matched c.args.code.now c.loop-line.line-index c.loop-line.builder c.loop-line.invariant (omega arith) none in
    (λ t. both.0 (sym c.as_slice.ensures.value ∙ c.same_code.ensures.0 t), λ m. c.same_code.ensures.1 (c.as_slice.ensures.value ∙ both.1 m))
