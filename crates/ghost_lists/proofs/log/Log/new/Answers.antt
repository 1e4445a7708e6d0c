use Rattle.ghost_lists.proofs.Agreeing.{agreed_first}
use Rattle.ghost_lists.proofs.log.Log.new.Goals as goal

pub vacant-requires : goal.vacant-requires
vacant-requires g c = agreed_first
