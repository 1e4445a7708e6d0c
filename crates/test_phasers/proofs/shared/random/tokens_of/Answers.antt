use Rattle.std.proofs.Common.{◌≡◌, Some, rules}
use Rattle.std.proofs.lemmas.List.Elements.{All-pop}
use Rattle.tier_table.specs.Closes.{held}
use Rattle.test_phasers.proofs.shared.random.tokens_of.Goals as goal

pub put-requires : goal.put-requires
put-requires g c =
    let p =
    All-pop (λ a. (held a.token).tree ≡ c.args.tree.now.tree) c.loop-player.players.items c.pop.new.self.items (Some c.in-Some.player)
    c.in-Some.ensures.items c.loop-player.invariant.0 in
    search rules

pub loop-player-preserved : goal.loop-player-preserved
loop-player-preserved g c =
    let p =
    All-pop (λ a. (held a.token).tree ≡ c.args.tree.now.tree) c.loop-player.players.items c.pop.new.self.items (Some c.in-Some.player)
    c.in-Some.ensures.items c.loop-player.invariant.0 in
    (p.0, c.put.ensures)
