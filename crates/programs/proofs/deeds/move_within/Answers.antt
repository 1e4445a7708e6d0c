use Rattle.std.proofs.Common.{◌≡◌, ℕ, List, Option, None, sym, ap, subst, reverse}
use Rattle.std.specs.Option.{option_map}
use Rattle.programs.specs.Regroup.{HasMovedWithin}
use Rattle.programs.proofs.Regrouping.{within_none}
use Rattle.programs.proofs.deeds.move_within.Goals as goal

pub returns-in-None-clause-moved : goal.returns-in-None-clause-moved
returns-in-None-clause-moved g c =
    let none : option_map (λ p. p.items) c.args.bound.now ≡ None = ap (option_map (λ p. p.items)) c.in-None.is in
    subst
    (λ (o : Option (List ℕ)). HasMovedWithin g.T.OnPath.path_of o c.args.living.now.items c.move_all.new.living.items (reverse c.args.waiting.now.items) (reverse c.move_all.new.waiting.items))
    (sym none)
    (within_none g.T.OnPath.path_of c.args.living.now.items c.move_all.new.living.items (reverse c.args.waiting.now.items) (reverse c.move_all.new.waiting.items)
    c.move_all.ensures.moved (ap reverse c.move_all.ensures.none))
