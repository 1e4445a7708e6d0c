-- One run, worked out.
use Rattle.std.specs.Prelude.{negsuc}
use Rattle.std.proofs.Common.{◌≡◌, ◌≤◌, ℕ, ℤ, pos, true, false, refl, sym, ◌∙◌, ap, subst, arith}
use Rattle.std.proofs.lemmas.Int.{ints}
use Rattle.phaser_word.specs.Fields.{Fields}
use Rattle.phaser_word.specs.Packed.{packed}
use Rattle.advance_rule.specs.declared.CountPlan.{CountPlan}
use Rattle.flat_phaser.specs.Flat.{Flat, shown}
use Rattle.flat_phaser.specs.Alike.{IsAlike}
use Rattle.phaser_one.specs.declared.call.Call.{Call}
use Rattle.phaser_one.specs.declared.call.Call.TheVariants.{Bulk, Arrive, Leave, Await, Force}
use Rattle.phaser_one.specs.Calls.{answer, after, opened}
use Rattle.phaser_one.specs.Seen.{flat_of}
use Rattle.phaser_one.proofs.WordProofs.{alike_self, alike_words}
use Rattle.bsp_phaser.specs.Numbers.{IsWordOf}
use Rattle.bsp_phaser.specs.Steps.{IsNew, plan_of, status_of, answer_of}
use Rattle.bsp_phaser.specs.Readings.{parties_in, arrived_in, unarrived_in, ended_in}
use Rattle.bsp_phaser.specs.Worked.{Gives, Reads, RunIsWorkedOut}

meet : {x f g : Flat} → IsAlike x f → IsAlike x g → IsAlike f g
meet a b = record {
  phase = sym a.phase ∙ b.phase;
  ended = sym a.ended ∙ b.ended;
  due = sym a.due ∙ b.due;
  members = λ u. sym (a.members u) ∙ b.members u;
  arrived = λ u. sym (a.arrived u) ∙ b.arrived u;
}

-- a call on the number of one word gives that of another
gives : (plan : CountPlan) (call : Call) (w e : Fields) (number : ℕ) → IsWordOf w number → e.unarrived ≤ e.parties
    → IsAlike (after plan call (flat_of w)) (flat_of e)
    → Gives plan call number (packed e) (status_of (answer call (flat_of w))) (answer_of (answer call (flat_of w)))
gives plan call w e number word counted leads n s a step =
    let it = step.done w word in
    let own = it.follows (flat_of w) (alike_self (flat_of w)) in
    let same : e ≡ it.new = alike_words e it.new counted it.packs.counted (meet leads own.0) in
    (sym it.packs.packs ∙ ap packed (sym same), it.reported ∙ ap status_of own.1, it.shown ∙ ap answer_of own.1)

reads : (of : Flat → ℤ) (w : Fields) (number : ℕ) → IsWordOf w number → Reads of number (of (flat_of w))
reads of w number word s a reading = reading.done w word (flat_of w) (alike_self (flat_of w))

-- the words of the run, and their numbers
abbrev first : Fields
first = record { phase = 5; parties = 3; unarrived = 3; ended = false }

abbrev one : Fields
one = record { phase = 5; parties = 3; unarrived = 2; ended = false }

abbrev four : Fields
four = record { phase = 5; parties = 4; unarrived = 3; ended = false }

abbrev last : Fields
last = record { phase = 5; parties = 3; unarrived = 1; ended = false }

abbrev next : Fields
next = record { phase = 6; parties = 3; unarrived = 3; ended = false }

abbrev two : Fields
two = record { phase = 6; parties = 2; unarrived = 2; ended = false }

abbrev single : Fields
single = record { phase = 6; parties = 1; unarrived = 1; ended = false }

abbrev over : Fields
over = record { phase = 7; parties = 1; unarrived = 1; ended = true }

abbrev on : Fields
on = record { phase = 7; parties = 1; unarrived = 1; ended = false }

abbrev forced : Fields
forced = record { phase = 6; parties = 3; unarrived = 3; ended = true }

first_is : IsWordOf first 21475033091
first_is =
    record { legal = record { phase = omega arith; parties = omega arith; unarrived = omega arith }; counted = omega arith; packs = refl }

one_is : IsWordOf one 21475033090
one_is =
    record { legal = record { phase = omega arith; parties = omega arith; unarrived = omega arith }; counted = omega arith; packs = refl }

four_is : IsWordOf four 21475098627
four_is =
    record { legal = record { phase = omega arith; parties = omega arith; unarrived = omega arith }; counted = omega arith; packs = refl }

last_is : IsWordOf last 21475033089
last_is =
    record { legal = record { phase = omega arith; parties = omega arith; unarrived = omega arith }; counted = omega arith; packs = refl }

next_is : IsWordOf next 25770000387
next_is =
    record { legal = record { phase = omega arith; parties = omega arith; unarrived = omega arith }; counted = omega arith; packs = refl }

two_is : IsWordOf two 25769934850
two_is =
    record { legal = record { phase = omega arith; parties = omega arith; unarrived = omega arith }; counted = omega arith; packs = refl }

single_is : IsWordOf single 25769869313
single_is =
    record { legal = record { phase = omega arith; parties = omega arith; unarrived = omega arith }; counted = omega arith; packs = refl }

over_is : IsWordOf over 9223372066919612417
over_is =
    record { legal = record { phase = omega arith; parties = omega arith; unarrived = omega arith }; counted = omega arith; packs = refl }

makes : (n : ℕ) → IsNew (pos 3) 5 n → n ≡ 21475033091
makes n new =
    let three : new.new.parties ≡ 3 = (let count : pos new.new.parties ≡ pos 3 = new.count in omega (arith, ints, count)) in
    let leads : IsAlike (opened 3 5) (flat_of new.new) = subst (λ (k : ℕ). IsAlike (opened k 5) (flat_of new.new)) three new.opened in
    let same : first ≡ new.new =
    alike_words first new.new (omega arith) new.packs.counted
    (meet (record { phase = refl; ended = refl; due = refl; members = λ u. refl; arrived = λ u. refl }) leads) in
    sym new.packs.packs ∙ ap packed (sym same)

pub run_is_worked_out : RunIsWorkedOut
run_is_worked_out = record {
  new = (refl, makes);
  late = refl;
  negative = refl;
  many = refl;
  arrives =
      gives (plan_of 1 6) Arrive first one 21475033091 first_is (omega arith)
      (record { phase = refl; ended = refl; due = refl; members = λ u. refl; arrived = λ u. refl });
  phase = reads shown one 21475033090 one_is;
  parties = reads parties_in one 21475033090 one_is;
  arrived = reads arrived_in one 21475033090 one_is;
  unarrived = reads unarrived_in one 21475033090 one_is;
  going = reads ended_in one 21475033090 one_is;
  waits =
      gives (plan_of 1 6) (Await (pos 5)) one one 21475033090 one_is (omega arith)
      (record { phase = refl; ended = refl; due = refl; members = λ u. refl; arrived = λ u. refl });
  joins =
      gives (plan_of 1 6) (Bulk (pos 1)) one four 21475033090 one_is (omega arith)
      (record { phase = refl; ended = refl; due = refl; members = λ u. refl; arrived = λ u. refl });
  full =
      gives (plan_of 1 6) (Bulk (pos 65533)) one one 21475033090 one_is (omega arith)
      (record { phase = refl; ended = refl; due = refl; members = λ u. refl; arrived = λ u. refl });
  refused =
      gives (plan_of 1 6) (Bulk (negsuc 0)) one one 21475033090 one_is (omega arith)
      (record { phase = refl; ended = refl; due = refl; members = λ u. refl; arrived = λ u. refl });
  leaves =
      gives (plan_of 1 6) Leave four one 21475098627 four_is (omega arith)
      (record { phase = refl; ended = refl; due = refl; members = λ u. refl; arrived = λ u. refl });
  again =
      gives (plan_of 1 6) Arrive one last 21475033090 one_is (omega arith)
      (record { phase = refl; ended = refl; due = refl; members = λ u. refl; arrived = λ u. refl });
  last =
      gives (plan_of 1 6) Arrive last next 21475033089 last_is (omega arith)
      (record { phase = refl; ended = refl; due = refl; members = λ u. refl; arrived = λ u. refl });
  passed =
      gives (plan_of 1 6) (Await (pos 5)) next next 25770000387 next_is (omega arith)
      (record { phase = refl; ended = refl; due = refl; members = λ u. refl; arrived = λ u. refl });
  second =
      gives (plan_of 1 6) Leave next two 25770000387 next_is (omega arith)
      (record { phase = refl; ended = refl; due = refl; members = λ u. refl; arrived = λ u. refl });
  third =
      gives (plan_of 1 6) Leave two single 25769934850 two_is (omega arith)
      (record { phase = refl; ended = refl; due = refl; members = λ u. refl; arrived = λ u. refl });
  ends =
      gives (plan_of 1 6) Arrive single over 25769869313 single_is (omega arith)
      (record { phase = refl; ended = refl; due = refl; members = λ u. refl; arrived = λ u. refl });
  over = reads ended_in over 9223372066919612417 over_is;
  at_end = reads shown over 9223372066919612417 over_is;
  goes_on =
      gives (plan_of 1 7) Arrive single on 25769869313 single_is (omega arith)
      (record { phase = refl; ended = refl; due = refl; members = λ u. refl; arrived = λ u. refl });
  too_few =
      gives (plan_of 2 7) Arrive single over 25769869313 single_is (omega arith)
      (record { phase = refl; ended = refl; due = refl; members = λ u. refl; arrived = λ u. refl });
  forced =
      gives (plan_of 1 6) Force next forced 25770000387 next_is (omega arith)
      (record { phase = refl; ended = refl; due = refl; members = λ u. refl; arrived = λ u. refl });
}
