use Rattle.trace_text.proofs.CommandRuns.{moves_behind, on_ok_always}
use Rattle.trace_text.proofs.run.run_command.Goals as goal

pub returns-clause-moves : goal.returns-clause-moves
returns-clause-moves g c =
    λ f s. moves_behind _ _ _ _ _ c.flush_piece.result _ (c.in_ok-push_command.ensures.text f s) c.flush_piece.ensures.moves

pub returns-clause-after : goal.returns-clause-after
returns-clause-after g c = on_ok_always c.flush_piece.result c.in_ok-push_command.ensures.after
