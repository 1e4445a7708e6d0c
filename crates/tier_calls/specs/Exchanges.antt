-- The exchange by which some new members join a tier, some old ones leave it, and all others arrive there (not part of Java's API).
use Rattle.std.specs.Prelude.{◌≡◌, ◌≢◌, ℕ, ◌+◌, ◌-◌, List, ◌∷◌, ◌++◌, length, take, drop}
use Rattle.phaser_word.specs.Fields.{Fields}
use Rattle.tier_steps.specs.View.{new_view}
use Rattle.tier_rule.specs.declared.sight.Sight.{Sight}
use Rattle.tier_rule.specs.Group.{looked_all}
use Rattle.tier_calls.specs.Groups.{GroupHeld, exchanged_all, glanced}
use Rattle.tier_calls.specs.NewTokens.{TokensHeld}
use Rattle.tier_calls.specs.Kept.{begun}
use Rattle.tier_calls.specs.Holding.{sight_held}
use Rattle.tier_calls.specs.LastOnes.{tokens_in}
use Rattle.tier_calls.specs.Settles.{OthersOf}
use Rattle.tier_calls.specs.declared.arriving_with.LastPass.{LastPass}
use Rattle.tier_calls.specs.declared.arriving_with.LastPass.TheVariants as last
use Rattle.tier_calls.specs.declared.arriving_with.EarlyTry.{EarlyTry}
use Rattle.tier_calls.specs.declared.arriving_with.EarlyTry.TheVariants.{Done, Lost}

-- what the tokens know after `leaving` of the old ones have left, all new ones have joined, and all but those that left have arrived
abbrev pub sights_with : GroupHeld → TokensHeld → ℕ → Fields → List Sight
sights_with c p leaving w =
    exchanged_all c.view.tier (new_view 0) c.view w p.tokens (take (length c.tokens - leaving) c.tokens)
    (drop (length c.tokens - leaving) c.tokens)

-- the word after that
abbrev pub word_with : GroupHeld → TokensHeld → ℕ → Fields → Fields
word_with c p leaving w = record w { parties = w.parties + length p.tokens - leaving; unarrived = w.unarrived - length c.tokens }

-- One exchange: all old members have arrived, but for `leaving`, which have left, and all new ones have joined and arrived. The tokens of
-- those that left are gone, and have no members. Or it was lost to another word, and all have looked. `before` is what the old tokens know
-- before these steps.
abbrev pub ExchangesBy : GroupHeld → List Sight → TokensHeld → ℕ → Fields → EarlyTry → Type 0
ExchangesBy c before p leaving w (Done group) =
    (group.tree ≡ c.tree) × (group.view ≡ record c.view { arrived = 1 })
    × ((gone : List Sight) × (group.tokens ++ gone ≡ sights_with (begun c before) p leaving w) × (length gone ≡ leaving))
ExchangesBy c before p leaving w (Lost group z) =
    (z ≢ w) × (group.tree ≡ c.tree) × (group.view ≡ glanced c.view.tier z c.view) × (group.tokens ≡ looked_all c.view.tier z 1 c.tokens)

-- The same where one of the arrivals is the last at the tier. Its token owes what follows.
abbrev pub ExchangesLast : GroupHeld → List Sight → TokensHeld → ℕ → Fields → LastPass → Type 0
ExchangesLast c before p leaving w (last.Owing errand rest) =
    (errand.token.tree ≡ c.tree) × (errand.token.view ≡ record c.view { arrived = 1; errand = errand.token.view.errand })
    × OthersOf c.tree c.view rest
    × ((gone : List Sight) × ((sight_held errand.token ∷ tokens_in rest) ++ gone ≡ sights_with (begun c before) p leaving w)
    × (length gone ≡ leaving))
ExchangesLast c before p leaving w (last.Lost group z) =
    (z ≢ w) × (group.tree ≡ c.tree) × (group.view ≡ glanced c.view.tier z c.view) × (group.tokens ≡ looked_all c.view.tier z 1 c.tokens)
