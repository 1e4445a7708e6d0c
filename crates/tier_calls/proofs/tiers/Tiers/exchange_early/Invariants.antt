use Rattle.tier_calls.specs.Kept.{begun}
use Rattle.tier_calls.specs.Exchanges.{sights_with, word_with}
use Rattle.tier_calls.proofs.tiers.Tiers.exchange_early.Given as goal

abbrev pub ghosts-exchange_early_as : goal.ghosts-exchange_early_as
ghosts-exchange_early_as g a = record {
  key = a.self.now.key;
  from = a.word;
  to = word_with a.group a.new_tokens a.leaving a.word;
  sights = sights_with (begun a.group g.B.Begun.before) a.new_tokens a.leaving a.word;
}
