use Rattle.std.proofs.Common.{◌-◌, ◌<◌, List, length, ap, subst, refl, sym, ◌∙◌}
use Rattle.cyclic_gate.specs.Ledger.{Book, book, IsPlace, kept_end, read_by}
use Rattle.cyclic_gate.specs.declared.ledger.KeptEnd.{KeptEnd}
use Rattle.cyclic_gate.proofs.Ends.{below, read_left}
use Rattle.cyclic_gate.proofs.ledger.Ledger.read_end.Goals as goal

pub returns-then-end-gt1-clause-book : goal.returns-then-end-gt1-clause-book
returns-then-end-gt1-clause-book c =
    let e = c.index-end.result.now in
    let place : IsPlace c.args.generation c.self.inside.ends.items c.place_of-place.result =
    subst (λ (l : List KeptEnd). IsPlace c.args.generation l c.place_of-place.result) c.deref.ensures.value c.place_of-place.ensures in
    let within : c.place_of-place.result < length c.self.inside.ends.items =
    below c.place_of-place.result (length c.self.inside.ends.items) place.within
    (λ e. c.if-place-len.false (e ∙ sym (c.len.ensures ∙ c.self.inside.ends.ok.0))) in
    let read =
    read_left c.args.generation c.self.inside.ends.items c.place_of-place.result e (kept_end e.generation e.outcome (e.unread - 1)) place
    within c.index-end.ensures c.if-end-gt1.true refl in
    ap (λ (l : List KeptEnd). book c.self.inside.fails c.self.inside.state l) read
    ∙ ap (λ (b : Book). book b.fails b.barrier (read_by c.args.generation b.ends)) c.self.view_is
