-- What a call looks for, and which steps only look (not part of Java's API).
use Rattle.std.specs.Prelude.{Bool, true, false}
use Rattle.tier_steps.specs.declared.kind.Kind.{Kind}
use Rattle.tier_steps.specs.declared.kind.Kind.TheVariants.{Look, Glance, Refuse, Join}
use Rattle.tier_steps.specs.declared.view.View.{View}
use Rattle.tier_core.specs.declared.call.Progress.{Progress}
use Rattle.tier_core.specs.declared.call.Progress.TheVariants.{Seeking as ToSeek, Passing, Owing, Due}
use Rattle.tier_core.specs.Turn.{claimed_by}

-- the step that a call means to take when it looks: only a join looks for a step that it chose, and notes what refuses
-- it
abbrev pub meant : Progress → View → Kind
meant (ToSeek tier size) v = Join tier (claimed_by v.errand) size
meant _ v = Look

abbrev pub is_look : Kind → Bool
is_look Look = true
is_look Glance = true
is_look (Refuse tier claimed size) = true
is_look _ = false

-- the call owes a climb or the advance
abbrev pub is_owing : Progress → Bool
is_owing (Owing own) = true
is_owing (Due own) = true
is_owing _ = false

-- an arrival or a departure that is not over
abbrev pub is_passing : Progress → Bool
is_passing (Passing passage) = true
is_passing (Owing own) = true
is_passing (Due own) = true
is_passing _ = false
