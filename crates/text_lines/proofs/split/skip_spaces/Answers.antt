use Rattle.std.proofs.Common.{sym, arith}
use Rattle.text_lines.proofs.LinesLemmas.{words_none}
use Rattle.text_lines.proofs.split.skip_spaces.Goals as goal

pub returns-clause-words : goal.returns-clause-words
returns-clause-words c = sym (words_none _ (λ k l. c.loop-i.invariant k (omega arith)))
