use Rattle.std.proofs.Common.{◌≡◌, ◌&&◌, drop}
use Rattle.std.specs.List.{list_all, list_any}
use Rattle.task_code.specs.Names.{is_name, is_reserved}
use Rattle.job_reader.specs.Views.{lent}
use Rattle.job_reader.proofs.outer.all_named.Given as goal

abbrev pub invariant-loop-word : goal.invariant-loop-word
invariant-loop-word l = record {
  reserved : list_any is_reserved (lent l.words) ≡ list_any is_reserved (lent (drop l.word-index l.words));
  names : list_all is_name (lent l.words) ≡ (l.names && list_all is_name (lent (drop l.word-index l.words)));
}
