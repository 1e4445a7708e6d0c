use Rattle.std.proofs.Common.{◌∙◌, codes, arith}
use Rattle.std.specs.Str.Parse.{ParsesUnsigned, ExplainsUnsignedError, HasUnsignedDigitsIfOk}
use Rattle.clap.specs.Words.{found_of, one_of, rows_of}
use Rattle.clap.proofs.WalkLemmas.{one_text-rows}
use Rattle.bsp_words.proofs.Limits.{number-read}
use Rattle.bsp_words.proofs.asked.limit_of.Goals as goal

pub returns-clause-limit : goal.returns-clause-limit
returns-clause-limit c =
    let same = one_text-rows (found_of c.args.matches.now) (codes "limit") in
    c.within.ensures.number
    ∙ number-read 1000000 1000000 (omega arith)
    (λ bs r. ParsesUnsigned 32 10 bs r × ExplainsUnsignedError 10 bs r × HasUnsignedDigitsIfOk bs r)
    (one_of (codes "limit") (rows_of (found_of c.args.matches.now))) c.get_one.result (λ u x h. h.0)
    (λ e. c.get_one.ensures.none (same ∙ e)) (λ t e. c.get_one.ensures.value t (same ∙ e))
