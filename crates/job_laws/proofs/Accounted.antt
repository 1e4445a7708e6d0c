-- What the outcome of a superstep says, and in which order a delivery names its spawns.
use Rattle.std.proofs.Common.{◌≡◌, ℕ, ◌<◌, ◌≤◌, nat_lt, true, false, List, length, Some, refl, sym, ap, ◌∙◌, subst, arith}
use Rattle.std.proofs.lemmas.Grind.{common_steps}
use Rattle.task_lang.specs.Meaning as meaning
use Rattle.task_lang.specs.Meaning.{Task, Segment}
use Rattle.task_lang.specs.Laws.{children}
use Rattle.task_lang.proofs.AllSegments.{numbers-its-spawns}
use Rattle.step_core.specs.Program.{program_of}
use Rattle.step_core.specs.JobMeaning.{state_at}
use Rattle.step_core.specs.OrderValue.{DeliveryValue, IsDelivery, delivered_segment, spawned_paths, deed_of}
use Rattle.job_laws.specs.Outcomes.{OutcomesTellWhy, DeliveriesNameTheirSpawns, IsTaskOf}

more : (m n : ℕ) → m < n → nat_lt m n ≡ true
more m n h = grind (arith, common_steps)

few : (m n : ℕ) → n ≤ m → nat_lt m n ≡ false
few m n h = grind (arith, common_steps)

pub outcomes : OutcomesTellWhy
outcomes = record {
  faulted = λ arrays ss f reported. rw reported refl;
  too_many = λ arrays ss none many. rw (none, more 4096 _ many) refl;
  overflowed = λ arrays ss put none all over. rw (none, few 4096 _ all, over) refl;
  landed = λ arrays ss none all over. rw (none, few 4096 _ all, over) refl;
}

in_order : (d : DeliveryValue) (t : Task) → IsDelivery d → IsTaskOf d t
    → spawned_paths (delivered_segment d) ≡ children d.path t.begun (length (delivered_segment d).spawns)
in_order d t h at =
    let p = program_of d.job in
    let st = state_at p d.step in
    let reported : Some (t.path, meaning.segment_of p.plans t st.arrays st.step) ≡ Some (d.path, delivered_segment d) =
    sym (ap (deed_of p st) at) ∙ h in
    let same : (t.path, meaning.segment_of p.plans t st.arrays st.step) ≡ (d.path, delivered_segment d) = cc in
    subst (λ (x : List ℕ × Segment). spawned_paths x.1 ≡ children x.0 t.begun (length x.1.spawns)) same
    (numbers-its-spawns p.plans t st.arrays st.step).1

pub deliveries : DeliveriesNameTheirSpawns
unfolding meaning.segment_of meaning.run
deliveries = record { in_order = in_order; worked = refl }
