use Rattle.std.proofs.Common.{◌<◌, sym, subst, ◌∙◌, arith}
use Rattle.tier_calls.specs.Holding.{Holding}
use Rattle.tier_calls.specs.JoinsHere.{KeepsCrew, JoinsOnce}
use Rattle.tier_calls.specs.declared.joining.Registered.{Registered}
use Rattle.tier_calls.proofs.Greeting.{waits_here, waits_by, lagging_round, late_round, met_round}
use Rattle.tier_calls.proofs.tiers.Tiers.join_once.Goals as goal
use Rattle.tier_calls.proofs.tiers.Tiers.join_once.Goals.{in-Answer, in-Late}

pub meet-requires-clause-waits : goal.meet-requires-clause-waits
meet-requires-clause-waits c =
    let k = c.look_here.ensures.keeps in
    let a = k.crew.arrived in
    let b = k.crew.size in
    let s = subst (λ (h : Holding). h.view.arrived < h.view.size) (sym c.crew.view_is) c.requires.some in
    waits_by (sym c.word-seen.ensures.word) (sym c.word-seen.ensures.word ∙ c.word-seen.ensures.word)
    (waits_here c.look_here.ensures.beside k.rests.rests (k.crew.tier ∙ sym k.tier) (omega arith) (sym c.look_here.ensures.lags ∙ c.if-look_here.false))

pub returns-then-look_here : goal.returns-then-look_here
returns-then-look_here c =
    lagging_round (subst (λ (h : Holding). KeepsCrew 0 h c.look_here.new.token) c.crew.view_is c.look_here.ensures.keeps)
    c.refresh_here.ensures c.requires.fresh

pub returns : goal.returns
returns c =
    let k : KeepsCrew 0 c.args.crew.now c.look_here.new.token =
    subst (λ (h : Holding). KeepsCrew 0 h c.look_here.new.token) c.crew.view_is c.look_here.ensures.keeps in
    elim c.match-meet.branch [
      | in-Answer w ↦ subst (λ (h : Holding). JoinsOnce c.args.crew.now h c.args.door c.args.size c.match-meet.result)
          (sym (λ i. (w.crew-inside-is i).token))
          (subst (λ (r : Registered). JoinsOnce c.args.crew.now c.look_here.new.token c.args.door c.args.size r) (sym w.result-is)
          (met_round c.args.door c.args.size w.in-Answer.answer k (c.tier-tier.ensures ∙ k.tier) w.in-Answer.ensures))
      | in-Late w ↦ subst (λ (h : Holding). JoinsOnce c.args.crew.now h c.args.door c.args.size c.match-meet.result)
          (sym (λ i. (w.crew-inside-is i).token))
          (subst (λ (r : Registered). JoinsOnce c.args.crew.now w.stay_here.new.token c.args.door c.args.size r) (sym w.result-is)
          (late_round k w.stay_here.ensures w.in-Late.ensures))
    ]
