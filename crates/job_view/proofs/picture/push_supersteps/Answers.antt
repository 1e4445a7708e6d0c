use Rattle.job_view.proofs.Behind.{last, onto}
use Rattle.job_view.proofs.picture.push_supersteps.Goals as goal

pub returns : goal.returns
returns c =
    last c.args.out.now.items _ _ _ _ c.push_below.result
    (onto c.args.out.now.items _ _ _ _
    (onto c.args.out.now.items _ _ _ _ (onto c.args.out.now.items _ _ _ _ c.in_ok-push_title.ensures c.in_ok-push_legend.ensures) (rw c.max.ensures at c.in_ok-push_lines.ensures))
    (rw (c.max-2.ensures, c.max-3.ensures) at c.in_ok-push_heights.ensures))
    (rw c.max-4.ensures at c.push_below.ensures)
