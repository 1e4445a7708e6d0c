use Rattle.job_reader.proofs.TextLemmas.{job-made}
use Rattle.job_reader.proofs.write.canonical.Goals as goal

pub returns-clause-text : goal.returns-clause-text
returns-clause-text c =
    job-made c.args.job.now c.format.result c.format-2.result _ _ _ _ _ _ c.new-out.result.items c.push_header.new.out.items
    c.push_arrays.new.out.items c.push_bodies.new.out.items c.push_starts.new.out.items
    c.arrays.ensures c.arrays-2.ensures c.bodies-bodies.ensures.bodies c.bodies-bodies.ensures.bodies c.bodies-bodies.ensures.bodies
    c.starts.ensures c.format.ensures.format c.format-2.ensures.format
    c.new-out.ensures.items c.in_ok-push_header.ensures c.in_ok-push_arrays.ensures c.in_ok-push_bodies.ensures c.in_ok-push_starts.ensures
