use Rattle.std.proofs.Common.{map}
use Rattle.programs.specs.History.{nothing_known, says_of}
use Rattle.programs.proofs.Apart.{starts_in_order}
use Rattle.programs.proofs.Reached.{starts_read}
use Rattle.programs.proofs.steps.Steps.new.Goals as goal

pub returns-clause-ordered : goal.returns-clause-ordered
returns-clause-ordered g c = λ p.
    let f = g.P.Program.frame p in
    let meant = g.P.Program.meant p in
    starts_in_order (says_of f c.args.most (λ t arrays step. nothing_known)) (map meant c.args.tasks.items)
    (starts_read f meant g.T.OnPath.path_of (g.met.P.Program.keeps_paths p) c.args.tasks.items c.requires.paths)
