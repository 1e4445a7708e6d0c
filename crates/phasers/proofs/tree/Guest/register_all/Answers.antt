use Rattle.std.proofs.Common.{◌∙◌, sym, ap, subst}
use Rattle.tier_calls.specs.Holding.{Named, Holding}
use Rattle.tier_table.specs.GroupMembersAtLast.{RegistersAllAtLast, HasEndedRegistering}
use Rattle.tier_table.specs.declared.group_members.GroupRegistered.{GroupRegistered}
use Rattle.phasers.proofs.tree.Guest.register_all.Goals as goal

pub returns : goal.returns
returns g c =
    let own = c.shared.view_is ∙ (sym c.self.invariant ∙ ap (λ (h : Holding). h.tree) c.self.view_is) in
    record {
      answer =
          subst (λ (r : GroupRegistered). RegistersAllAtLast 16 c.args.self.tree c.args.tier c.args.members r) (sym c.of.ensures)
          (subst (λ (n : Named). RegistersAllAtLast 16 n c.args.tier c.args.members c.register_all_wait-answer.result) own c.register_all_wait-answer.ensures.answer);
      ended =
          λ p e. subst HasEndedRegistering (sym c.of.ensures)
          (c.register_all_wait-answer.ensures.ended p (ap (λ (h : Holding). h.view.end_seen) c.open_door-door.ensures.counted ∙ ap (λ (h : Holding). h.view.end_seen) c.self.view_is ∙ e));
    }
