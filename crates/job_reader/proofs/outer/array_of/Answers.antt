use Rattle.std.proofs.Common.{rules, ◌∙◌, ◌∷◌, ap, sym}
use Rattle.text_lines.specs.Text.{words_of}
use Rattle.job_reader.specs.Words.{Words}
use Rattle.job_reader.proofs.OuterRefused.{array-said, array-failed}
use Rattle.job_reader.proofs.outer.array_of.Goals as goal

pub returns-in_err-cells : goal.returns-in_err-cells
returns-in_err-cells c =
    let first = rw c.in_ok-name.ensures.ok_part at c.split_word.ensures.words in
    let second = rw c.in_ok-len.ensures.ok_part at c.split_word-2.ensures.words in
    let refused =
    array-failed (words_of c.args.line.now) c.in_ok-name.name.now c.in_ok-len.len.now (words_of c.in_ok-len.values.now) c.named.result
    c.cells_of.result _
    (first ∙ ap (λ (ws : Words). c.in_ok-name.name.now ∷ ws) second) c.named.ensures c.cells_of.ensures
    (sym c.joined.ensures ∙ c.in_err-cells.was) in
    search (rules, refused)

pub returns : goal.returns
returns c =
    let first = rw c.in_ok-name.ensures.ok_part at c.split_word.ensures.words in
    let second = rw c.in_ok-len.ensures.ok_part at c.split_word-2.ensures.words in
    array-said (words_of c.args.line.now) c.in_ok-name.name.now c.in_ok-len.len.now (words_of c.in_ok-len.values.now) c.named.result
    c.cells_of.result _
    (first ∙ ap (λ (ws : Words). c.in_ok-name.name.now ∷ ws) second) c.named.ensures c.cells_of.ensures
    (sym c.joined.ensures ∙ c.in_ok-cells.was)
