use Rattle.std.proofs.Common.{[], ◌∷◌, codes, decimal}
use Rattle.json.specs.Token.{key, number}
use Rattle.job_view.proofs.JsonJoined.{onto}
use Rattle.job_view.proofs.json_lists.write_changes.Goals as goal

pub returns-clause-tokens : goal.returns-clause-tokens
returns-clause-tokens c =
    onto c.args.out.now.tokens c.write_field.new.out.tokens _ (key (codes "left") ∷ number (decimal c.args.counts.left) ∷ [])
    (key (codes "spawned") ∷ number (decimal c.args.counts.spawned) ∷ []) c.in_ok-write_field.ensures.tokens
    c.in_ok-write_field-2.ensures.tokens
