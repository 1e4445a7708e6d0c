use Rattle.std.proofs.Common.{◌≡◌, ◌≤◌, ◌<◌, ◌+◌, false, sym, ap, ◌∙◌, refl, arith, pos, to_z, of_z, w32}
use Rattle.phaser_word.specs.Fields.{Fields}
use Rattle.phaser_word.specs.Phase.{shown_of}
use Rattle.phaser_one.specs.Calls.{Bulk, Refused, Full}
use Rattle.phaser_one.proofs.Following.{refused_follows, full_answer, joined_follows, same_shown}
use Rattle.phaser_one.proofs.step.joined.Goals as goal

pub returns-then-parties-from-clause-flat : goal.returns-then-parties-from-clause-flat
returns-then-parties-from-clause-flat g c = λ f a.
    let parties : c.word.inside.parties ≡ c.args.word.parties = ap (λ (w : Fields). w.parties) c.word.view_is in
    let ended : c.args.word.ended ≡ false = sym (ap (λ (w : Fields). w.ended) c.word.view_is) ∙ c.if-word.false in
    let more : 65535 < c.args.word.parties + c.args.count = omega arith in
    refused_follows c.args.rule.now.plan (Bulk (pos c.args.count)) c.args.word f (Refused Full) a
    (full_answer f c.args.word c.args.count c.requires.counted a ended more) refl

pub returns-clause-flat : goal.returns-clause-flat
returns-clause-flat g c =
    let phase : c.word.inside.phase ≡ c.args.word.phase = ap (λ (w : Fields). w.phase) c.word.view_is in
    let parties : c.word.inside.parties ≡ c.args.word.parties = ap (λ (w : Fields). w.parties) c.word.view_is in
    let absent : c.word.inside.unarrived ≡ c.args.word.unarrived = ap (λ (w : Fields). w.unarrived) c.word.view_is in
    let ended : c.args.word.ended ≡ false = sym (ap (λ (w : Fields). w.ended) c.word.view_is) ∙ c.if-word.false in
    let small : c.args.word.phase ≤ 2147483647 = (let legal : c.word.inside.phase ≤ 2147483647 = c.word.invariant.phase in omega arith) in
    let capacity : c.args.word.parties + c.args.count ≤ 65535 = omega arith in
    let shown : to_z w32 (of_z w32 c.shown-shown.result) ≡ shown_of c.args.word.phase c.args.word.ended =
    same_shown c.shown-shown.result c.args.word.phase c.args.word.ended c.shown-shown.ensures small in
    joined_follows c.args.rule.now.plan c.args.word
    (record {
      phase = c.word.inside.phase;
      parties = c.from.result + c.args.count;
      unarrived = c.word.inside.unarrived + c.args.count;
      ended = false;
    })
    c.args.count _
    c.requires.counted ended capacity shown phase (omega arith) (omega arith) refl
