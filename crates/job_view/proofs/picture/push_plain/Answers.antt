use Rattle.job_view.proofs.Behind.{last, onto}
use Rattle.job_view.specs.Picture.{plain}
use Rattle.job_view.proofs.picture.push_plain.Goals as goal

pub returns : goal.returns
unfolding plain
returns c =
    last c.args.out.now.items _ _ _ _ c.push_text.result
    (onto c.args.out.now.items _ _ _ _
    (onto c.args.out.now.items _ _ _ _ (rw (c.from.ensures, c.len.ensures.count) at c.in_ok-push_head.ensures) c.in_ok-push_supersteps.ensures)
    c.in_ok-push_strips.ensures)
    c.push_text.ensures
