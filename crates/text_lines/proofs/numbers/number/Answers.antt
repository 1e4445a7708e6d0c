use Rattle.text_lines.proofs.NumbersLemmas.{number_none, none_unparsed, none_other, not_written, none_not_text}
use Rattle.text_lines.proofs.numbers.number.Goals as goal

pub returns-in-Err-clause-none : goal.returns-in-Err-clause-none
returns-in-Err-clause-none c = none_not_text _ c.in-Err.ensures.cases.0

pub returns-in-Err-clause-value : goal.returns-in-Err-clause-value
returns-in-Err-clause-value c = number_none _ (none_not_text _ c.in-Err.ensures.cases.0)

pub returns-in-Err-parse-clause-none : goal.returns-in-Err-parse-clause-none
returns-in-Err-parse-clause-none c = none_unparsed _ c.in-Ok.text.now c.in-Ok.ensures.cases.0 c.in-Err-parse.ensures.value.0

pub returns-in-Err-parse-clause-value : goal.returns-in-Err-parse-clause-value
returns-in-Err-parse-clause-value c =
    number_none _ (none_unparsed _ c.in-Ok.text.now c.in-Ok.ensures.cases.0 c.in-Err-parse.ensures.value.0)

pub returns-else-is_text_of-clause-none : goal.returns-else-is_text_of-clause-none
returns-else-is_text_of-clause-none c = none_other _ c.in-Ok.text.now c.in-Ok-parse.n c.in-Ok.ensures.cases.0 c.in-Ok-parse.ensures.value.0
    (not_written _ c.in-Ok-parse.n _ (rw c.in-Ok-parse.ensures.value.0.1 c.in-Ok-parse.ensures.value.0.0.1) c.is_text_of.ensures c.if-is_text_of.false)
