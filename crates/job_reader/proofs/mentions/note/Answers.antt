use Rattle.std.proofs.Common.{◌∙◌, sym, ap, List, ℕ, ◌∷◌, []}
use Rattle.std.specs.Borrow.{Bor}
use Rattle.job_reader.specs.Views.{lent}
use Rattle.job_reader.specs.Words.{place_from}
use Rattle.job_reader.proofs.NotedLemmas.{note-new, lent-append}
use Rattle.job_reader.proofs.mentions.note.Goals as goal

pub returns-in_ok-push-in-None-clause-noted : goal.returns-in_ok-push-in-None-clause-noted
returns-in_ok-push-in-None-clause-noted c =
    ap lent c.in_ok-push-in-None.ensures.items ∙ lent-append c.args.locals.now.items (c.args.word ∷ [])
    ∙ sym (note-new (lent c.args.locals.now.items) c.args.word.now
    (c.in-None.ensures.place ∙ ap (λ (x : List (Bor (List ℕ))). place_from 0 (lent x) c.args.word.now) c.deref.ensures.value))
