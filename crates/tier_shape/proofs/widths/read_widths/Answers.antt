use Rattle.std.proofs.Common.{List, ℕ, subst, ap, ◌∙◌, ◌<◌, ◌≤◌, length, arith, rules}
use Rattle.tier_shape.proofs.Joined.{IsReadTo, left_of, size_of, read_none, read_next, read_kept, read_over, read_bad, read_near, read_deep, cut_left}
use Rattle.tier_shape.proofs.widths.read_widths.Goals as goal

pub loop-rest-init : goal.loop-rest-init
loop-rest-init c = (c.new-widths.ensures.capacity, rw (c.new-widths.ensures.items) (read_none c.args.text.now))

pub returns-in_default-width_of : goal.returns-in_default-width_of
returns-in_default-width_of c =
    read_bad c.args.text.now c.loop-rest.widths.items c.first_piece.result.0.now (left_of c.first_piece.result.1) c.loop-rest.deep
    (λ e. search rules)
    (read_next c.args.text.now c.loop-rest.widths.items c.in-Some.bytes.now c.first_piece.result.0.now c.loop-rest.rest
    c.first_piece.result.1 c.loop-rest.deep (ap left_of c.in-Some.is) c.first_piece.ensures.last c.first_piece.ensures.more
    c.loop-rest.invariant.1)
    c.in_default-width_of.ensures

pub loop-rest-smaller-then-len-lt-MOST_LEVELS : goal.loop-rest-smaller-then-len-lt-MOST_LEVELS
loop-rest-smaller-then-len-lt-MOST_LEVELS c =
    let cut =
    cut_left c.in-Some.bytes.now c.first_piece.result.0.now c.first_piece.result.1 c.first_piece.ensures.last c.first_piece.ensures.more in
    omega (arith, cut.1, ap size_of c.in-Some.is)

pub loop-rest-smaller : goal.loop-rest-smaller
loop-rest-smaller c =
    let cut =
    cut_left c.in-Some.bytes.now c.first_piece.result.0.now c.first_piece.result.1 c.first_piece.ensures.last c.first_piece.ensures.more in
    omega (arith, cut.1, ap size_of c.in-Some.is)

pub loop-rest-preserved-then-len-lt-MOST_LEVELS : goal.loop-rest-preserved-then-len-lt-MOST_LEVELS
loop-rest-preserved-then-len-lt-MOST_LEVELS c =
    let so =
    read_next c.args.text.now c.loop-rest.widths.items c.in-Some.bytes.now c.first_piece.result.0.now c.loop-rest.rest
    c.first_piece.result.1 c.loop-rest.deep (ap left_of c.in-Some.is) c.first_piece.ensures.last c.first_piece.ensures.more
    c.loop-rest.invariant.1 in
    let width = c.in-Some-width_of.ensures in
    let capacity : length c.loop-rest.widths.items < 6 = omega arith in (
      c.push_reserved.ensures.capacity ∙ c.loop-rest.invariant.0,
      rw c.push_reserved.ensures.items
          (read_kept c.args.text.now c.loop-rest.widths.items c.first_piece.result.0.now (left_of c.first_piece.result.1) c.loop-rest.deep c.in-Some-width_of.width so capacity width.0 width.1),
    )

pub loop-rest-preserved : goal.loop-rest-preserved
loop-rest-preserved c =
    let so =
    read_next c.args.text.now c.loop-rest.widths.items c.in-Some.bytes.now c.first_piece.result.0.now c.loop-rest.rest
    c.first_piece.result.1 c.loop-rest.deep (ap left_of c.in-Some.is) c.first_piece.ensures.last c.first_piece.ensures.more
    c.loop-rest.invariant.1 in
    let width = c.in-Some-width_of.ensures in
    let capacity : 6 ≤ length c.loop-rest.widths.items = omega arith in (
      c.loop-rest.invariant.0,
      read_over c.args.text.now c.loop-rest.widths.items c.first_piece.result.0.now (left_of c.first_piece.result.1) c.loop-rest.deep
          c.in-Some-width_of.width so capacity width.0 width.1,
    )

pub returns-then-deep : goal.returns-then-deep
returns-then-deep c =
    let P : List (List ℕ) → Type 0 = λ left. IsReadTo c.args.text.now left c.loop-rest.widths.items c.loop-rest.deep in
    read_deep c.args.text.now c.loop-rest.widths.items c.loop-rest.deep (subst P (ap left_of c.in_default.is) c.loop-rest.invariant.1)
    c.if-deep.true

pub returns : goal.returns
returns c =
    let P : List (List ℕ) → Type 0 = λ left. IsReadTo c.args.text.now left c.loop-rest.widths.items c.loop-rest.deep in
    read_near c.args.text.now c.loop-rest.widths.items c.loop-rest.deep (subst P (ap left_of c.in_default.is) c.loop-rest.invariant.1)
    c.if-deep.false
