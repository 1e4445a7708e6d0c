-- A beginning of what is written in format 2.
use Rattle.std.proofs.Common.{◌≡◌, ℕ, List, Option, Some, None, Ok, subst}
use Rattle.std.specs.Prelude.{IfSome}
use Rattle.phase_records.specs.Device.{AppendsBeginning}
use Rattle.job_reader.specs.Trees.{JobTree}
use Rattle.job_reader.specs.Grammar.{canonical_text}
use Rattle.job_reader.specs.Reading.{job_in}
use Rattle.job_reader.specs.Upgrade.{upgraded_tree}
use Rattle.bsp_cli.specs.Jobs.{BeginsUpgraded}

pub begun : (input old new : Option (List ℕ)) (j t : JobTree) → IfSome input (λ bytes. job_in bytes ≡ Ok j) → t ≡ upgraded_tree j
    → AppendsBeginning old new (canonical_text t) → IfSome input (λ bytes. BeginsUpgraded bytes old new)
begun None old new j t e s w = tt
begun (Some bytes) old new j t e s w = (j, e, subst (λ (x : JobTree). AppendsBeginning old new (canonical_text x)) s w)
