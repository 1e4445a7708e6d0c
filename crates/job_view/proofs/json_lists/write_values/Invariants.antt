use Rattle.std.proofs.Common.{◌≡◌, ◌++◌, map, drop}
use Rattle.json.specs.Tree.{items_tokens}
use Rattle.json.specs.Value.{items_of}
use Rattle.job_view.specs.ReportJson.{integer}
use Rattle.job_view.proofs.json_lists.write_values.Given as goal

abbrev pub invariant-loop-cell : goal.invariant-loop-cell
invariant-loop-cell l = record {
  tokens : l.out.tokens ++ items_tokens (items_of (map integer (drop l.cell-index l.cells)))
      ≡ l.fn.out.tokens ++ items_tokens (items_of (map integer l.fn.cells));
  before : l.out.before ≡ l.fn.out.before;
}
