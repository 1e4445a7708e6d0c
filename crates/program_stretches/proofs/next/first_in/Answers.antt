use Rattle.std.proofs.Common.{◌≡◌, ◌∙◌, List, true, false, is_some, ap, sym, map, slice_get, ◌++◌}
use Rattle.program_stretches.specs.Next.{all_in}
use Rattle.program_stretches.proofs.Pieces.{in_last, first_known, none_known}
use Rattle.program_stretches.proofs.next.first_in.Goals as goal

pub returns-then-is_some : goal.returns-then-is_some
returns-then-is_some g c =
    let q = g.T.OnPath.path_of in
    let some : is_some c.first_of-first.result ≡ true = sym c.is_some.ensures ∙ c.if-is_some.true in
    let cut = ap all_in c.in-Some.ensures.cases.0 ∙ in_last c.in-Some.before.now c.in-Some.last.now in
    first_known q (λ p. p.items) c.first_of-first.result c.in-Some.last.now.tasks.items (all_in c.in-Some.before.now)
    (c.first_of-first.ensures.path ∙ ap (λ (ts : List g.row.T.Denot). slice_get (map q ts) 0) c.deref.ensures.value) some
    ∙ ap (λ (ts : List g.row.T.Denot). slice_get (map q ts) 0) (sym cut ∙ c.loop-last.invariant)

pub loop-last-preserved : goal.loop-last-preserved
loop-last-preserved g c =
    let q = g.T.OnPath.path_of in
    let none : is_some c.first_of-first.result ≡ false = sym c.is_some.ensures ∙ c.if-is_some.false in
    let cut = ap all_in c.in-Some.ensures.cases.0 ∙ in_last c.in-Some.before.now c.in-Some.last.now in
    let empty = none_known q (λ p. p.items) c.first_of-first.result c.in-Some.last.now.tasks.items
    (c.first_of-first.ensures.path ∙ ap (λ (ts : List g.row.T.Denot). slice_get (map q ts) 0) c.deref.ensures.value) none in
    sym (cut ∙ ap (λ ts. ts ++ all_in c.in-Some.before.now) empty) ∙ c.loop-last.invariant
