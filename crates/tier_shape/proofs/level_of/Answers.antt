use Rattle.std.proofs.Common.{◌≡◌, ◌<◌, ◌+◌, length, arith}
use Rattle.tier_shape.specs.Parents.{parent_of}
use Rattle.tier_shape.specs.Paths.{path_of}
use Rattle.tier_shape.proofs.Going.{length-path}
use Rattle.tier_shape.proofs.level_of.Goals as goal

pub loop-at-preserved : goal.loop-at-preserved
loop-at-preserved c =
    let some : 0 < c.loop-at.at = omega arith in
    let within : c.loop-at.at < length c.args.parents.now = omega arith in
    let up : c.from-at.result ≡ parent_of c.args.parents.now c.loop-at.at = c.from-at.ensures in
    let below : parent_of c.args.parents.now c.loop-at.at < c.loop-at.at = c.requires.shape.earlier c.loop-at.at some within in
    let long : length (path_of c.args.parents.now c.loop-at.at)
    ≡ length (path_of c.args.parents.now (parent_of c.args.parents.now c.loop-at.at)) + 1 =
    length-path c.args.parents.now c.loop-at.at c.requires.shape within some in
    rw up (record { within = omega arith; small = omega arith; levels = omega arith })
