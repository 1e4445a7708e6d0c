use Rattle.std.proofs.Common.{◌≡◌, ◌∙◌, FitsSigned, w32, to_z, of_z, arith, rules}
use Rattle.std.proofs.lemmas.Int.{ints}
use Rattle.bsp_phaser.proofs.Stepping.{stepped, only_word}
use Rattle.bsp_phaser.proofs.step.step.Goals as goal

pub returns : goal.returns
returns c =
    let fits : FitsSigned w32 c.status_of.result = search rules in
    let status : to_z w32 (of_z w32 c.status_of.result) ≡ c.status_of.result = omega (arith, ints, fits) in
    let small : FitsSigned w32 c.answer_of.result = search rules in
    let answer : to_z w32 (of_z w32 c.answer_of.result) ≡ c.answer_of.result = omega (arith, ints, small) in
    stepped _ _ c.in-Some.word _ _ _ _ _ _ c.in-Some.ensures.found (λ u it. only_word _ _ _ c.in-Some.is (c.word_of.ensures.again u it))
    c.number_of.ensures
    c.called-after.ensures.flat (status ∙ c.status_of.ensures) (answer ∙ c.answer_of.ensures)
