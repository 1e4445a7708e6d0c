use Rattle.std.proofs.Common.{◌∙◌, ap}
use Rattle.json.specs.Written.{Written}
use Rattle.job_view.proofs.JsonMembers.{next_member, no_member}
use Rattle.job_view.proofs.json_arrays.write_members.Goals as goal
use Rattle.job_view.proofs.json_arrays.write_members.Goals.{in-Some+in_ok-write_array, in_default}

pub loop-place-preserved : goal.loop-place-preserved
loop-place-preserved c = elim c.match-get.branch [
  | in-Some+in_ok-write_array w ↦
      record {
        tokens =
            next_member c.args.arrays.now c.loop-place.place (w.in-Some.name.now, w.in-Some.cells.now) c.loop-place.out.tokens _ _
            w.in-Some.ensures.seen (ap (λ (v : Written). v.tokens) w.out-is ∙ w.in_ok-write_array.ensures.tokens)
            c.loop-place.invariant.tokens;
        before = ap (λ (v : Written). v.before) w.out-is ∙ w.in_ok-write_array.ensures.before ∙ c.loop-place.invariant.before;
      }
  | in_default w ↦
      record {
        tokens =
            no_member c.args.arrays.now c.loop-place.place c.loop-place.out.tokens _ _ w.in_default.ensures.seen
            (ap (λ (v : Written). v.tokens) w.out-is) c.loop-place.invariant.tokens;
        before = ap (λ (v : Written). v.before) w.out-is ∙ c.loop-place.invariant.before;
      }
]
