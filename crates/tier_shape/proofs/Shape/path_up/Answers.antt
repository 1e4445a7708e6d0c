use Rattle.std.proofs.Common.{◌≡◌, ◌<◌, ◌∷◌, length, arith, ◌∙◌}
use Rattle.std.proofs.lemmas.Grind.{common_steps}
use Rattle.tier_shape.specs.Parents.{parent_of}
use Rattle.tier_shape.specs.Paths.{path_of}
use Rattle.tier_shape.proofs.Going.{path_goes, way_more}
use Rattle.tier_shape.proofs.Shape.path_up.Goals as goal

pub loop-at-preserved : goal.loop-at-preserved
loop-at-preserved c =
    let some : 0 < c.loop-at.at = omega arith in
    let within : c.loop-at.at < length c.self.inside.parents.items = c.loop-at.invariant.within in
    let up : c.index-at.result.now ≡ parent_of c.self.inside.parents.items c.loop-at.at = grind (arith, common_steps) in
    let below : parent_of c.self.inside.parents.items c.loop-at.at < c.loop-at.at =
    c.self.invariant.shape.earlier c.loop-at.at some within in
    let goes : path_of c.self.inside.parents.items c.loop-at.at
    ≡ c.loop-at.at ∷ path_of c.self.inside.parents.items (parent_of c.self.inside.parents.items c.loop-at.at) =
    path_goes c.self.inside.parents.items c.loop-at.at c.self.invariant.shape within some in
    rw up (record {
      within = omega arith;
      capacity = c.push_reserved.ensures.capacity ∙ c.loop-at.invariant.capacity;
      way = way_more _ _ _ _ _ _ c.push_reserved.ensures.items c.loop-at.invariant.way goes;
    })
