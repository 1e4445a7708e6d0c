use Rattle.std.proofs.Common.{Option, Some, None}
use Rattle.std.specs.Prelude.{IfSome}
use Rattle.bsp_cli.proofs.TooLong.{long-refused}
use Rattle.bsp_cli.proofs.job.take_job.Goals as goal

if-some : {X : Type 0} {P Q : X → Type 0} (o : Option X) → ((x : X) → P x → Q x) → IfSome o P → IfSome o Q
if-some None so h = tt
if-some (Some x) so h = so x h

pub returns-in-Err-TooLong-clause-takes : goal.returns-in-Err-TooLong-clause-takes
returns-in-Err-TooLong-clause-takes g c = if-some _ (λ bytes h. long-refused bytes h) (c.read_all.ensures.too_long (search))
