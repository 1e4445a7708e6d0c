-- The lines of a superstep that was closed (own).
use Rattle.stretch_queue.specs.declared.hook.Closed.{Closed}
use Rattle.stretch_queue.specs.declared.hook.Closed.TheVariants.{Landed}
use Rattle.std.specs.Prelude.{IfSome}

-- if there are lines, they have this property
abbrev pub IfLines : {L : Type 0} → (L → Type 0) → Closed L → Type 0
IfLines P (Landed lines) = IfSome lines P
IfLines P _ = Unit {0}
