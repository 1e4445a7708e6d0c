-- Calls under way (not part of Java's API).
use Rattle.std.specs.Prelude.{◌≡◌, true, false}
use Rattle.tier_calls.specs.Next.{is_owing}
use Rattle.tier_core.specs.Machine.{CallFits}
use Rattle.tier_rule.specs.Tell.{Beside}
use Rattle.tier_calls.specs.Holding.{Named, Holding}
use Rattle.tier_calls.specs.declared.going.Going.{Going}
use Rattle.tier_calls.specs.declared.going.CallCourse.{CallCourse}

-- a token in a call
abbrev pub under : Holding → CallCourse → Going
under h c = record { token = h; progress = c.progress; answer = c.answer }

-- The call fits what its token knows, and some state of its tree has the token's view and word.
pub record IsAt (n : Named) (g : Going) : Type 0 where
  pub own : g.token.tree ≡ n
  pub fits : CallFits n.key.shape g.progress g.token.view
  pub known : Beside n.key.shape g.token.tier g.token.word g.token.view

-- a token that owes a climb or the advance, and has taken no advance in its call
pub record IsErrand (g : Going) : Type 0 where
  pub at : IsAt g.token.tree g
  pub owes : is_owing g.progress ≡ true
  pub unled : g.token.view.led ≡ false
