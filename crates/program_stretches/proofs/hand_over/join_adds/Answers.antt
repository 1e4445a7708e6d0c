use Rattle.std.proofs.Common.{◌++◌, ◌∙◌, List, Result, Ok, Err, map, ap, append-nil}
use Rattle.std.specs.Prelude.{OnOk}
use Rattle.std.specs.List.{list_all}
use Rattle.superstep_memory.specs.declared.arrays.Put.{Put}
use Rattle.superstep_memory.specs.Landing.{is_set}
use Rattle.program_stretches.specs.Parts.{puts_in, without_puts}
use Rattle.program_stretches.proofs.InTurn.{no_puts, no_puts_twice}
use Rattle.program_stretches.proofs.hand_over.join_adds.Goals as goal

on_ok : {X E : Type 0} {A B : Type 0} (o : Result X E) → (A → B) → OnOk o A → OnOk o B
on_ok (Ok x) f h = f h
on_ok (Err e) f h = h

on_both : {X E : Type 0} {A B C : Type 0} (o : Result X E) → (A → B → C) → OnOk o A → OnOk o B → OnOk o C
on_both (Ok x) f h k = f h k
on_both (Err e) f h k = h

pub returns-clause-same : goal.returns-clause-same
returns-clause-same g c =
    on_both c.give_all_puts.result
    (λ given rest. (λ i. (given ∙ ap (λ (ps : List Put). ps ++ puts_in c.args.parts.now.items) c.requires) i ++ (ap puts_in rest ∙ no_puts c.args.parts.now.items) i)
    ∙ append-nil (puts_in c.args.parts.now.items))
    c.give_all_puts.ensures.given c.give_all_puts.ensures.rest

pub returns-clause-sets : goal.returns-clause-sets
returns-clause-sets g c =
    on_ok c.give_all_puts.result (λ rest. ap (list_all is_set) (ap puts_in rest ∙ no_puts c.args.parts.now.items))
    c.give_all_puts.ensures.rest

pub returns-clause-rest : goal.returns-clause-rest
returns-clause-rest g c =
    on_ok c.give_all_puts.result (λ rest. ap (map without_puts) rest ∙ no_puts_twice c.args.parts.now.items) c.give_all_puts.ensures.rest
