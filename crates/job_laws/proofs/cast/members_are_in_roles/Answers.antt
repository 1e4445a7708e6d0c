use Rattle.job_laws.proofs.Playing.{members_are_in_roles}
use Rattle.job_laws.proofs.cast.members_are_in_roles.Goals as goal

pub returns : goal.returns
returns c = members_are_in_roles
