-- Exchanges of a word are a run.
use Rattle.std.proofs.Common.{ℤ, List, [], ◌∷◌, map, refl, ◌∙◌, ap}
use Rattle.phaser_one.specs.declared.call.Reply.{Reply}
use Rattle.phaser_one.specs.Calls.{answer, after}
use Rattle.bsp_phaser.specs.Steps.{status_of, answer_of}
use Rattle.bsp_phaser.specs.Runs.{Exchange, ExchangesAreOneRun}

pub one_run : ExchangesAreOneRun
one_run plan first number [] word steps = record {
  last = first;
  replies = [];
  packs = word;
  follows = λ f a. (a, refl);
  reported = refl;
  shown = refl;
}
one_run plan first number (x ∷ xs) word steps =
    let s = steps.0.done first word in
    let r = one_run plan s.new x.next xs s.packs steps.1 in
    record {
      last = r.last;
      replies = s.reply ∷ r.replies;
      packs = r.packs;
      follows = λ f a.
          let here = s.follows f a in
          let rest = r.follows (after plan x.call f) here.0 in
          (rest.0, ap (λ (p : Reply). p ∷ r.replies) here.1 ∙ ap (λ (ps : List Reply). answer x.call f ∷ ps) rest.1);
      reported =
          ap (λ (z : ℤ). z ∷ map (λ (y : Exchange). y.status) xs) s.reported ∙ ap (λ (zs : List ℤ). status_of s.reply ∷ zs) r.reported;
      shown = ap (λ (z : ℤ). z ∷ map (λ (y : Exchange). y.answer) xs) s.shown ∙ ap (λ (zs : List ℤ). answer_of s.reply ∷ zs) r.shown;
    }
