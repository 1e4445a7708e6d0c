use Rattle.job_view.proofs.Behind.{first, last}
use Rattle.job_view.proofs.picture.push_shared.Goals as goal

pub returns : goal.returns
returns c =
    last c.args.out.now.items _ _ _ _ c.push_text.result (first c.args.out.now.items _ _ _ c.in_ok-push_field.ensures) c.push_text.ensures
