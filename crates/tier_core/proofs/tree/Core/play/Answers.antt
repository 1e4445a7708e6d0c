use Rattle.tier_core.specs.CoreView.{core_of}
use Rattle.tier_core.proofs.Places.{read_runnable, written_core}
use Rattle.tier_core.proofs.tree.Core.play.Goals as goal

pub step_word-requires : goal.step_word-requires
step_word-requires c =
    read_runnable c.args.self.now (core_of c.self.inside) c.args.token c.from-tier.result c.args.turn c.index-word.result.now
    c.index.result.now (record {
      same = c.self.view_is;
      core = c.self.invariant;
      known = c.requires.known;
      may = c.requires.next;
      tier = c.from-tier.ensures;
      word = c.index-word.ensures;
      view = c.index.ensures;
    })

pub step_view-requires : goal.step_view-requires
step_view-requires c =
    read_runnable c.args.self.now (core_of c.self.inside) c.args.token c.from-tier.result c.args.turn c.index-word.result.now
    c.index.result.now (record {
      same = c.self.view_is;
      core = c.self.invariant;
      known = c.requires.known;
      may = c.requires.next;
      tier = c.from-tier.ensures;
      word = c.index-word.ensures;
      view = c.index.ensures;
    })

pub invariant_of-self : goal.invariant_of-self
invariant_of-self c =
    written_core c.args.self.now (core_of c.self.inside) c.args.token c.from-tier.result c.above-parent.result c.args.turn
    c.index-word.result.now c.step_word.result
    c.index.result.now c.step_view.result (record {
      same = c.self.view_is;
      core = c.self.invariant;
      known = c.requires.known;
      may = c.requires.next;
      tier = c.from-tier.ensures;
      word = c.index-word.ensures;
      view = c.index.ensures;
    }) c.above-parent.ensures c.step_word.ensures c.step_view.ensures
