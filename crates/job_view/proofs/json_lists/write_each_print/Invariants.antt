use Rattle.std.proofs.Common.{◌≡◌, ◌++◌, map, drop}
use Rattle.json.specs.Tree.{items_tokens}
use Rattle.json.specs.Value.{items_of}
use Rattle.job_view.specs.ReportJson.{print_json}
use Rattle.job_view.proofs.json_lists.write_each_print.Given as goal

abbrev pub invariant-loop-print : goal.invariant-loop-print
invariant-loop-print l = record {
  tokens : l.out.tokens ++ items_tokens (items_of (map print_json (drop l.print-index l.prints)))
      ≡ l.fn.out.tokens ++ items_tokens (items_of (map print_json l.fn.prints));
  before : l.out.before ≡ l.fn.out.before;
}
