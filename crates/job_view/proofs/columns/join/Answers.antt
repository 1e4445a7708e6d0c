use Rattle.std.proofs.Common.{ap, length}
use Rattle.job_view.specs.declared.columns.Column.{Column}
use Rattle.job_view.proofs.Joins.{next_column}
use Rattle.job_view.proofs.columns.join.Goals as goal

pub loop-more-preserved : goal.loop-more-preserved
loop-more-preserved c =
    next_column c.loop-more.more c.args.group c.loop-more.rest.now c.cut.result.0.now c.cut.result.1.now c.loop-more.all.items
    c.push.new.self.items _ _
    c.loop-more-test.true c.cut.ensures.front c.cut.ensures.back
    (ap (λ (x : Column). record x { steps = length c.cut.result.0.now }) c.greatest.ensures) c.in_ok-push.ensures.items
    c.loop-more.invariant
