use Rattle.std.proofs.Common.{rules, ◌++◌, ◌∷◌, [], ap, sym, ◌∙◌, arith, length, length-append}
use Rattle.tier_calls.proofs.Seating.{is_some, unpacked}
use Rattle.tier_calls.proofs.Gathering.{last_of, word_read, take_more, closed_left}
use Rattle.tier_calls.proofs.closing.words_of.Goals as goal

pub unwrap-requires : goal.unwrap-requires
unwrap-requires c =
    let s = c.requires.shut in
    let z = last_of s.2 in
    let long = z.long ∙ s.3 in
    let t = c.loop-tier-test.true in
    is_some _ _ (word_read z.words z.packed_so z.legal (omega arith) c.word.ensures c.unpack.ensures.again)

pub push_reserved-requires : goal.push_reserved-requires
push_reserved-requires c = search rules

pub loop-tier-preserved : goal.loop-tier-preserved
loop-tier-preserved c = (
  λ ws is legal long.
      let lt = c.loop-tier-test.true in
      let w = unpacked _ _ _ c.unwrap.ensures (word_read ws is legal (omega arith) c.word.ensures c.unpack.ensures.again) in
      c.push_reserved.ensures.items
      ∙ ((λ i. c.loop-tier.invariant.0 ws is legal long i ++ w i ∷ []) ∙ sym (take_more ws c.loop-tier.tier (omega arith))),
  c.push_reserved.ensures.capacity ∙ c.loop-tier.invariant.1,
  (let a = ap length c.push_reserved.ensures.items in
      let b = length-append c.loop-tier.words.items (c.unwrap.result ∷ []) in
      let d = c.loop-tier.invariant.2 in
      omega arith),
)

pub returns : goal.returns
returns c = λ k l shut long.
    let past = c.loop-tier-test.false in
    closed_left shut long (omega arith) (λ ws is legal many. c.loop-tier.invariant.0 ws is legal many)
