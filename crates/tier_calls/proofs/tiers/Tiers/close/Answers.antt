use Rattle.std.proofs.Common.{sym, ap, ◌∙◌, length}
use Rattle.tier_calls.proofs.Gathering.{closed_tally}
use Rattle.tier_calls.proofs.tiers.Tiers.close.Goals as goal

pub words_of-requires-clause-shut : goal.words_of-requires-clause-shut
words_of-requires-clause-shut c =
    (_, _, c.shut-closed.ensures.words, ap length (sym c.shape.ensures.value) ∙ sym c.count-count.ensures.value)

pub returns-clause-left : goal.returns-clause-left
returns-clause-left c =
    c.words_of.ensures _ _ c.shut-closed.ensures.words (ap length (sym c.shape.ensures.value) ∙ sym c.count-count.ensures.value)

pub returns-clause-tally : goal.returns-clause-tally
returns-clause-tally c =
    closed_tally c.args.tokens.items
    (c.words_of.ensures _ _ c.shut-closed.ensures.words (ap length (sym c.shape.ensures.value) ∙ sym c.count-count.ensures.value))
