use Rattle.std.proofs.Common.{◌∙◌, ap, refl}
use Rattle.clap.specs.Simple.{app_of_fields}
use Rattle.bsp_words.proofs.parser.bare_explain.Goals as goal

pub returns-clause-app : goal.returns-clause-app
returns-clause-app c = ap app_of_fields c.about.ensures ∙ c.new.ensures.app

pub returns-clause-local : goal.returns-clause-local
returns-clause-local c = rw c.about.ensures (rw c.new.ensures.local refl)
