use Rattle.job_reader.specs.Trees.{job_tree}
use Rattle.bsp_cli.proofs.Upgrading.{begun}
use Rattle.bsp_cli.proofs.job.upgrade.Goals as goal

pub returns-in-Err-Write-clause-upgrades : goal.returns-in-Err-Write-clause-upgrades
returns-in-Err-Write-clause-upgrades g c =
    let written = rw c.in-Err-Write.field-0-is at c.in-Err-Write.ensures.writes in
    begun _ _ _ (job_tree c.in_ok-take_job.field-0) (job_tree c.upgrade-job.result) c.in_ok-take_job.ensures.takes
    c.upgrade-job.ensures.tree written
