use Rattle.step_core.proofs.LawProofs.{next-live-synced-or-spawned}
use Rattle.step_core.proofs.laws.next_live_synced_or_spawned.Goals as goal

pub returns : goal.returns
returns c = next-live-synced-or-spawned
