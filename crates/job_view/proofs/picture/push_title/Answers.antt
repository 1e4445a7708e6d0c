use Rattle.job_view.proofs.Behind.{field, last, onto}
use Rattle.job_view.proofs.picture.push_title.Goals as goal

pub returns : goal.returns
returns c =
    last c.args.out.now.items _ _ _ _ c.push_text-3.result
    (onto c.args.out.now.items _ _ _ _
    (onto c.args.out.now.items _ _ _ _
    (onto c.args.out.now.items _ _ _ _
    (field c.args.out.now.items _ _ _ _ _
    (field c.args.out.now.items _ _ _ _ _
    (onto c.args.out.now.items _ _ _ _
    c.in_ok-push_text.ensures
    c.in_ok-push_named.ensures)
    c.in_ok-push_field.ensures)
    c.in_ok-push_field-2.ensures)
    c.in_ok-push_text-2.ensures)
    c.in_ok-push_ending.ensures)
    (rw c.group_of.ensures.group at c.in_ok-push_sharing.ensures))
    c.push_text-3.ensures
