use Rattle.std.proofs.Common.{◌+◌, subst, sym, ap, ◌∙◌, arith, length}
use Rattle.program_stretches.specs.Parts.{AreFresh, tasks_in}
use Rattle.program_stretches.proofs.Cutting.{fresh_front, tasks_front, none_cut}
use Rattle.program_stretches.proofs.cut.cut.Goals as goal

pub returns-clause-fresh : goal.returns-clause-fresh
returns-clause-fresh g c =
    subst (AreFresh 0) (sym (c.set_bounds.ensures ∙ c.reverse.ensures.items))
    (fresh_front 0 (0 + length c.cut_off.new.rest.items) c.cut_off.new.rest.items c.cut_off.new.parts.items c.push_reserved.new.self.items c.with_tasks.result
    c.cut_off.ensures.fresh c.with_tasks.ensures c.push_reserved.ensures.items (omega arith))

pub returns-clause-tasks : goal.returns-clause-tasks
returns-clause-tasks g c =
    ap tasks_in (c.set_bounds.ensures ∙ c.reverse.ensures.items)
    ∙ tasks_front 0 c.cut_off.new.rest.items c.cut_off.new.parts.items c.push_reserved.new.self.items c.with_tasks.result
    c.with_tasks.ensures c.push_reserved.ensures.items
    ∙ c.cut_off.ensures.tasks ∙ none_cut c.args.tasks.items c.args.parts.now.items c.requires.none_yet
