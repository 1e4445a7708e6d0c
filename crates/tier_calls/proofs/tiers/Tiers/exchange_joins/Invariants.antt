use Rattle.std.proofs.Common.{length}
use Rattle.tier_calls.specs.Groups.{joined_more}
use Rattle.tier_calls.specs.JoinsAll.{sights_joined}
use Rattle.tier_calls.proofs.tiers.Tiers.exchange_joins.Given as goal

abbrev pub ghosts-exchange_joins_as : goal.ghosts-exchange_joins_as
ghosts-exchange_joins_as a =
    record {
      key = a.self.now.key;
      from = a.word;
      to = joined_more a.word (length a.new_tokens.tokens);
      sights = sights_joined a.group a.new_tokens a.word;
    }
