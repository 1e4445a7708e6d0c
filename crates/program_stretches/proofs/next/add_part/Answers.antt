use Rattle.std.proofs.lemmas.Grind.{common_steps}
use Rattle.std.proofs.Common.{◌∙◌, ap, map, reverse, slice_get, arith}
use Rattle.std.specs.Option.{option_map}
use Rattle.programs.specs.InPlace.{living_with}
use Rattle.program_stretches.specs.Next.{all_in}
use Rattle.program_stretches.proofs.Placing.{placed, strays_order}
use Rattle.program_stretches.proofs.Pieces.{ok_then}
use Rattle.program_stretches.proofs.next.add_part.Goals as goal

pub place-requires-clause-strays : goal.place-requires-clause-strays
place-requires-clause-strays g c =
    strays_order g.T.OnPath.path_of (living_with c.args.part.tasks c.args.part.deeds) c.keep_early.new.tasks.items
    (reverse c.keep_early.new.strays.items)
    (c.in_ok-keep_early.ensures.same ∙ c.in_ok-pull_back.ensures.same ∙ c.in_ok-tasks.ensures.next)

pub returns-clause-tasks : goal.returns-clause-tasks
returns-clause-tasks g c =
    let q = g.T.OnPath.path_of in
    let low = option_map (λ p. p.items) c.first_in-low.result in
    ok_then c.push_piece.result _ _ _ c.push_piece.ensures.tasks
    (λ all.
    placed q (living_with c.args.part.tasks c.args.part.deeds) c.keep_early.new.tasks.items (reverse c.keep_early.new.strays.items)
    (all_in c.args.pieces.now.items) (all_in c.place.new.pieces.items)
    (all_in c.push_piece.new.pieces.items) low
    (c.in_ok-keep_early.ensures.same ∙ c.in_ok-pull_back.ensures.same ∙ c.in_ok-tasks.ensures.next) c.requires.order
    (c.first_in-low.ensures ∙ ap (λ ps. slice_get (map q (all_in ps)) 0) c.deref.ensures.value) c.in_ok-keep_early.ensures.end
    c.in_ok-place.ensures.tasks all)

pub push_piece-requires-clause-fresh : goal.push_piece-requires-clause-fresh
push_piece-requires-clause-fresh = grind (arith, common_steps)
