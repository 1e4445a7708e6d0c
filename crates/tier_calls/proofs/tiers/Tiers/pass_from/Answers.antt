use Rattle.std.proofs.Common.{◌∷◌, ap, arith}
use Rattle.phaser_word.specs.Fields.{Fields}
use Rattle.tier_calls.specs.Holding.{sight_held}
use Rattle.tier_calls.specs.LastOnes.{tokens_in}
use Rattle.tier_calls.specs.Kept.{begun}
use Rattle.tier_calls.proofs.NewTokens.{are_blank, are_many}
use Rattle.tier_calls.proofs.ArrivingAll.{keeps_none}
use Rattle.tier_calls.proofs.ExchangeTries.{passed_from, others_from}
use Rattle.tier_calls.proofs.tiers.Tiers.pass_from.Goals as goal

pub exchange_early-requires-clause-may : goal.exchange_early-requires-clause-may
exchange_early-requires-clause-may g c = record {
  own = (c.requires.own.1, c.new_tokens-new_tokens.ensures.new.table);
  blank = are_blank c.new_tokens-new_tokens.ensures.new;
  may = c.requires.may;
  eager = c.requires.eager;
  place = c.requires.place;
  some = c.requires.some;
  capacity = (let many = are_many c.new_tokens-new_tokens.ensures.new in let a = c.requires.capacity in omega arith);
  enough = c.requires.enough;
  few = c.requires.few;
  come = (let many = are_many c.new_tokens-new_tokens.ensures.new in let a = c.requires.come in omega arith);
}

pub exchange_last-requires-clause-may : goal.exchange_last-requires-clause-may
exchange_last-requires-clause-may g c = record {
  own = (c.requires.own.1, c.new_tokens-new_tokens.ensures.new.table);
  blank = are_blank c.new_tokens-new_tokens.ensures.new;
  may = c.requires.may;
  eager = c.requires.eager;
  place = c.requires.place;
  some = c.requires.some;
  capacity = (let many = are_many c.new_tokens-new_tokens.ensures.new in let a = c.requires.capacity in omega arith);
  enough = c.requires.enough;
  few = c.requires.few;
  come = (let many = are_many c.new_tokens-new_tokens.ensures.new in let a = c.requires.come in omega arith);
}

pub exchange_last-requires-clause-last : goal.exchange_last-requires-clause-last
exchange_last-requires-clause-last g c =
    let few = c.requires.enough in
    let a = c.size.ensures.size in
    let b = ap (λ (z : Fields). z.unarrived) c.word.view_is in
    let d = c.if-word-size.false in
    omega arith

pub returns-in-Done-clause-went : goal.returns-in-Done-clause-went
returns-in-Done-clause-went g c =
    let e = c.in-Done.ensures in
    passed_from {e = c.args.group.view.errand} c.args.word c.args.joining c.args.leaving c.in-Done.group.tokens e.2.0
    (keeps_none (begun c.args.group g.B.Begun.before)) c.requires.own.1 c.new_tokens-new_tokens.ensures.new e.0 e.1 e.2.1 e.2.2

pub returns-in-Lost-clause-went : goal.returns-in-Lost-clause-went
returns-in-Lost-clause-went g c = let e = c.in-Lost.ensures in record { word = _; tree = e.1; view = e.2; tokens = e.3 }

pub returns-in-Owing-clause-went : goal.returns-in-Owing-clause-went
returns-in-Owing-clause-went g c =
    let e = c.in-Owing.ensures in (
      passed_from {e = c.in-Owing.errand.token.view.errand} c.args.word c.args.joining c.args.leaving
          (sight_held c.in-Owing.errand.token ∷ tokens_in c.in-Owing.others) e.3.0 (keeps_none (begun c.args.group g.B.Begun.before))
          c.requires.own.1 c.new_tokens-new_tokens.ensures.new e.0 e.1 e.3.1 e.3.2,
      others_from c.in-Owing.others (keeps_none (begun c.args.group g.B.Begun.before)) e.2,
    )

pub returns-in-Lost-exchange_last-clause-went : goal.returns-in-Lost-exchange_last-clause-went
returns-in-Lost-exchange_last-clause-went g c = let e = c.in-Lost-exchange_last.ensures in
    record { word = _; tree = e.1; view = e.2; tokens = e.3 }
