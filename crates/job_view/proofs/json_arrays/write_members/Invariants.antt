use Rattle.std.proofs.Common.{◌≡◌, ◌++◌, drop, map}
use Rattle.json.specs.Tree.{members_tokens}
use Rattle.job_view.specs.ReportJson.{array_member, members}
use Rattle.job_view.proofs.json_arrays.write_members.Given as goal

abbrev pub invariant-loop-place : goal.invariant-loop-place
invariant-loop-place l = record {
  tokens : l.out.tokens ++ members_tokens (members (map array_member (drop l.place l.arrays)))
      ≡ l.fn.out.tokens ++ members_tokens (members (map array_member l.arrays));
  before : l.out.before ≡ l.fn.out.before;
}
