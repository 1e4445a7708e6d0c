use Rattle.std.proofs.Common.{◌≡◌, ◌++◌, map, drop}
use Rattle.json.specs.Tree.{items_tokens}
use Rattle.json.specs.Value.{items_of}
use Rattle.job_view.specs.ReportJson.{natural}
use Rattle.job_view.proofs.json_lists.write_numbers.Given as goal

abbrev pub invariant-loop-number : goal.invariant-loop-number
invariant-loop-number l = record {
  tokens : l.out.tokens ++ items_tokens (items_of (map natural (drop l.number-index l.path)))
      ≡ l.fn.out.tokens ++ items_tokens (items_of (map natural l.fn.path));
  before : l.out.before ≡ l.fn.out.before;
}
