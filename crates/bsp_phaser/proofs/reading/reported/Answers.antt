use Rattle.std.proofs.Common.{◌≡◌, ◌≤◌, ◌-◌, ap, ◌∙◌, arith, pos, to_z, w32}
use Rattle.std.proofs.lemmas.Int.{ints}
use Rattle.phaser_word.specs.Fields.{Fields}
use Rattle.bsp_phaser.proofs.Reported.{parties_are, arrived_are, unarrived_are}
use Rattle.bsp_phaser.proofs.reading.reported.Goals as goal

pub returns-in-Parties : goal.returns-in-Parties
returns-in-Parties c = λ f a.
    let same : c.word.inside.parties ≡ c.args.word.parties = ap (λ (w : Fields). w.parties) c.word.view_is in
    let small : c.word.inside.parties ≤ 65535 = c.word.invariant.parties in
    let back : to_z w32 c.word.inside.parties ≡ pos c.word.inside.parties = omega (arith, ints, small) in
    rw c.in-Parties.is (back ∙ ap pos same ∙ parties_are f c.args.word c.requires.counted a)

pub returns-in-Arrived : goal.returns-in-Arrived
returns-in-Arrived c = λ f a.
    let same = c.word.view_is in
    let small : c.word.inside.parties ≤ 65535 = c.word.invariant.parties in
    let back : to_z w32 (c.word.inside.parties - c.word.inside.unarrived) ≡ pos (c.word.inside.parties - c.word.inside.unarrived) =
    omega (arith, ints, small) in
    rw c.in-Arrived.is (back ∙ ap (λ (w : Fields). pos (w.parties - w.unarrived)) same ∙ arrived_are f c.args.word c.requires.counted a)

pub returns-in-Unarrived : goal.returns-in-Unarrived
returns-in-Unarrived c = λ f a.
    let same : c.word.inside.unarrived ≡ c.args.word.unarrived = ap (λ (w : Fields). w.unarrived) c.word.view_is in
    let parties : c.word.inside.parties ≡ c.args.word.parties = ap (λ (w : Fields). w.parties) c.word.view_is in
    let counted : c.args.word.unarrived ≤ c.args.word.parties = c.requires.counted in
    let small : c.word.inside.parties ≤ 65535 = c.word.invariant.parties in
    let few : c.word.inside.unarrived ≤ 65535 = omega (arith, same, parties, counted, small) in
    let back : to_z w32 c.word.inside.unarrived ≡ pos c.word.inside.unarrived = omega (arith, ints, few) in
    rw c.in-Unarrived.is (back ∙ ap pos same ∙ unarrived_are f c.args.word c.requires.counted a)
