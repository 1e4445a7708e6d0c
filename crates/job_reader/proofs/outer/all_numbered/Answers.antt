use Rattle.std.proofs.Common.{◌∙◌}
use Rattle.job_reader.proofs.NumberedLemmas.{numbered-next}
use Rattle.job_reader.proofs.outer.all_numbered.Goals as goal

pub loop-word-preserved : goal.loop-word-preserved
loop-word-preserved c =
    numbered-next c.loop-word.values.items c.push.new.self.items c.in_ok-numbered.field-0 c.in-Some.word.now _ _
    c.in_ok-numbered.ensures.number c.in_ok-numbered.ensures.fits
    c.in_ok-push.ensures.items c.in-Some.ensures.words
    ∙ c.loop-word.invariant
