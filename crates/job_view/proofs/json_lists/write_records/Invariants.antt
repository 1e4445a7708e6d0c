use Rattle.std.proofs.Common.{◌≡◌, ◌++◌, map, drop}
use Rattle.json.specs.Tree.{items_tokens}
use Rattle.json.specs.Value.{items_of}
use Rattle.job_view.specs.ReportJson.{superstep_json}
use Rattle.job_view.proofs.json_lists.write_records.Given as goal

abbrev pub invariant-loop-counts : goal.invariant-loop-counts
invariant-loop-counts l = record {
  tokens : l.out.tokens ++ items_tokens (items_of (map superstep_json (drop l.counts-index l.records)))
      ≡ l.fn.out.tokens ++ items_tokens (items_of (map superstep_json l.fn.records));
  before : l.out.before ≡ l.fn.out.before;
}
