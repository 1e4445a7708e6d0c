use Rattle.std.proofs.Common.{ap, sym, ◌∙◌, Some, []}
use Rattle.task_code.proofs.Building.{otherwise-made}
use Rattle.task_code.proofs.builder.Builder.otherwise.Goals as goal

pub returns : goal.returns
returns c =
    λ fs b n h. otherwise-made fs b n c.args.self.now.code.items [] c.args.self.now.places.items [] c.pop.new.self.items c.in-Some.place
    c.len-here.result c.in-Some-If.field-0-1 c.in-Some-If.test _ h.code h.places c.in-Some.ensures.items
    (c.len-here.ensures ∙ c.args.self.now.code.ok.0) (sym c.in-Some-If.ensures.line ∙ ap Some (c.in-Some-If.field-0-is))
    c.in_ok-push-3.ensures.items c.in_ok-push-2.ensures.items
