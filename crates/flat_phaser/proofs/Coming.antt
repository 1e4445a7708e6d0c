-- When an advance is due, and that the last arrival brings it.
use Rattle.std.proofs.Common.{◌≡◌, ℕ, ⊎_elim, Bool, true, false, List, [], ◌∷◌, ◌++◌, refl, ◌∙◌, ap, arith}
use Rattle.std.specs.Prelude.{count_by, not, Some}
use Rattle.std.proofs.lemmas.Bool.{eq-eqb}
use Rattle.flat_phaser.specs.Flat.{Flat, Member, has_arrived, everyone_arrived}
use Rattle.flat_phaser.specs.Step.{Arrive, Leave, Advance, IsWaitedFor, mark_one, drop_one, with_members}
use Rattle.flat_phaser.specs.Laws.{TellsDue, DueTellsEveryone, BringsAdvance, TheLastBringsTheAdvance, OneMemberIsLast}
use Rattle.flat_phaser.proofs.Counts.{bit, count_cons, count_here}
use Rattle.flat_phaser.proofs.Everyone.{either, everyone_from, everyone_each, and_true}
use Rattle.flat_phaser.proofs.Places.{first_place, awaited_absent}
use Rattle.flat_phaser.proofs.Runs.{not_ended}

-- how many members haven't arrived
abbrev pub absent : ℕ → List Member → ℕ
absent phase members = count_by (λ m. not (has_arrived phase m)) members

bit_not_true : (b : Bool) → b ≡ true → bit (not b) ≡ 0
bit_not_true b e = ap (λ (x : Bool). bit (not x)) e

bit_not_false : (b : Bool) → b ≡ false → bit (not b) ≡ 1
bit_not_false b e = ap (λ (x : Bool). bit (not x)) e

-- if nobody is absent everyone has arrived
all_if_none : (phase : ℕ) (members : List Member) → absent phase members ≡ 0 → everyone_arrived phase members ≡ true
all_if_none phase [] h = refl
all_if_none phase (m ∷ ms) h =
    let split = count_cons (λ x. not (has_arrived phase x)) m ms in
    ⊎_elim
    (λ (yes' : has_arrived phase m ≡ true). and_true (has_arrived phase m) (everyone_arrived phase ms) yes' (all_if_none phase ms (omega arith)))
    (λ (no' : has_arrived phase m ≡ false). let one = bit_not_false (has_arrived phase m) no' in absurd (omega arith))
    (either (has_arrived phase m))

-- the last one arrives
last_marked : (phase owner : ℕ) (members : List Member) → IsWaitedFor owner phase members → absent phase members ≡ 1
    → everyone_arrived phase (mark_one owner phase members) ≡ true
last_marked phase owner members waited one =
    let p = first_place owner phase members waited in
    let test : Member → Bool = λ x. not (has_arrived phase x) in
    let old = count_here test p.front p.here p.back in
    let new = count_here test p.front (record p.here { mark = Some phase }) p.back in
    let was = bit_not_false (has_arrived phase p.here) (awaited_absent owner phase p.here p.awaited) in
    let is = bit_not_true (has_arrived phase (record p.here { mark = Some phase })) (eq-eqb phase phase refl) in
    let whole : absent phase members ≡ absent phase (p.front ++ p.here ∷ p.back) = ap (absent phase) p.whole in
    ap (everyone_arrived phase) p.marked ∙ all_if_none phase (p.front ++ record p.here { mark = Some phase } ∷ p.back) (omega arith)

-- the last one leaves
last_dropped : (phase owner : ℕ) (members : List Member) → IsWaitedFor owner phase members → absent phase members ≡ 1
    → everyone_arrived phase (drop_one owner phase members) ≡ true
last_dropped phase owner members waited one =
    let p = first_place owner phase members waited in
    let test : Member → Bool = λ x. not (has_arrived phase x) in
    let old = count_here test p.front p.here p.back in
    let was = bit_not_false (has_arrived phase p.here) (awaited_absent owner phase p.here p.awaited) in
    let whole : absent phase members ≡ absent phase (p.front ++ p.here ∷ p.back) = ap (absent phase) p.whole in
    ap (everyone_arrived phase) p.dropped ∙ all_if_none phase (p.front ++ p.back) (omega arith)

tells : (members : List Member) (f : Flat) → TellsDue (with_members members f)
tells members f = record {
  due = everyone_each f.phase members;
  everyone = λ h. everyone_from f.phase members (λ owner. let same = h owner in omega arith);
}

pub due_law : DueTellsEveryone
due_law f owner going waited = (
  rw (not_ended (Arrive owner) f going) (tells (mark_one owner f.phase f.members) f),
  rw (not_ended (Leave owner) f going) (tells (drop_one owner f.phase f.members) f),
)

brings : (ends : Bool) (members : List Member) (f : Flat) → f.ended ≡ false → everyone_arrived f.phase members ≡ true
    → BringsAdvance ends f (with_members members f)
brings ends members f going all =
    let step = not_ended (Advance ends) (with_members members f) going in
    record { may = all; next = ap (λ (g : Flat). g.phase) step; end = ap (λ (g : Flat). g.ended) step }

pub last_law : TheLastBringsTheAdvance
last_law f owner ends going one waited = (
  rw (not_ended (Arrive owner) f going)
      (brings ends (mark_one owner f.phase f.members) f going (last_marked f.phase owner f.members waited one)),
  rw (not_ended (Leave owner) f going)
      (brings ends (drop_one owner f.phase f.members) f going (last_dropped f.phase owner f.members waited one)),
)

pub one_is_last : OneMemberIsLast
one_is_last = record { going = refl; one = refl; awaited = omega arith; reached = (λ going. tt, tt) }
