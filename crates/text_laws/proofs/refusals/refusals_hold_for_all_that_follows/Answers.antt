use Rattle.text_laws.proofs.Held.{refusals-hold}
use Rattle.text_laws.proofs.refusals.refusals_hold_for_all_that_follows.Goals as goal

pub returns : goal.returns
returns c = refusals-hold
