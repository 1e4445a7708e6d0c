-- A job has at most 4096 live tasks. Each of them spawns at most 8 in a superstep.
use Rattle.std.proofs.Common.{◌≡◌, ℕ, zero, suc, ◌≤◌, Bool, true, false, List, [], ◌∷◌, length, map, refl, ap, arith, Some, None, Option}
use Rattle.std.specs.Prelude.{ℤ, if◌then◌else◌, nat_lt}
use Rattle.std.specs.Str.{bytes_eq}
use Rattle.std.proofs.lemmas.Bool.{ltb-false}
use Rattle.std.proofs.lemmas.List.{length-map}
use Rattle.phase_records.specs.Status.{Status}
use Rattle.task_lang.specs.Meaning.{Task, Segment, segment_of}
use Rattle.task_lang.proofs.AllSegments.{numbers-its-spawns}
use Rattle.step_core.specs.Program.{Program}
use Rattle.step_core.specs.Superstep.{State, segments, too_many, fault_in, superstep, closed, next_live, live_paths}
use Rattle.programs.specs.Superstep.{first_fault, overflow, or_next}
use Rattle.step_core.specs.JobMeaning.{so_far}
use Rattle.programs.specs.Supersteps.{status, unless_ended}
use Rattle.step_core.specs.OrderValue.{spawned_paths}
use Rattle.job_schedule.specs.ParticipantValue.{ParticipantValue, participant_at, participant_path, child_path}
use Rattle.job_schedule.specs.World.{World, deed_in, deed_of}
use Rattle.job_schedule.specs.Laws.{IsStanding}
use Rattle.job_schedule.proofs.Jobs.{IsOf}
use Rattle.job_laws.proofs.Initial.{starts_long}
use Rattle.job_laws.proofs.Room.{AreFew}

step_few : (p : Program) (st : State) → length st.live ≤ 4096 → length (superstep p st).live ≤ 4096
step_few p st h = by (fault_in st.arrays ss) refl
  where
    ss : List (List ℕ × Segment)
    ss = segments p st.arrays st.step st.live

    later : (o rest : Option (ℕ × List ℕ)) → or_next o rest ≡ None → rest ≡ None
    later None rest e = e
    later (Some f) rest e = cc

    first : (o rest : Option (ℕ × List ℕ)) → or_next o rest ≡ None → o ≡ None
    first None rest e = refl
    first (Some f) rest e = cc

    seven : Option (ℕ × List ℕ)
    seven = Some (7, [])

    few : (b : Bool) → nat_lt 4096 (length (next_live ss)) ≡ b → (if b then seven else None) ≡ None → length (next_live ss) ≤ 4096
    few true e none = cc
    few false e none = ltb-false 4096 (length (next_live ss)) e

    by : (o : Option (ℕ × List ℕ)) → fault_in st.arrays ss ≡ o → length (closed st ss o).live ≤ 4096
    by (Some f) e = h
    by None e =
        few (nat_lt 4096 (length (next_live ss))) refl
        (first (too_many (next_live ss)) (overflow st.arrays ss) (later (first_fault ss) (or_next (too_many (next_live ss)) (overflow st.arrays ss)) e))

live_few : (p : Program) (limit n : ℕ) → length p.starts ≤ 4096 → length (so_far p limit n).live ≤ 4096
live_few p limit zero h = let a = starts_long p.plans 0 p.starts in omega arith
live_few p limit (suc n) h = by (status limit (so_far p limit n)) (live_few p limit n h)
  where
    by : (o : Option Status) → length (so_far p limit n).live ≤ 4096
        → length (unless_ended o (so_far p limit n) (superstep p (so_far p limit n))).live ≤ 4096
    by (Some s) k = k
    by None k = step_few p (so_far p limit n) k

deed_few : (p : Program) (arrays : List (List ℕ × List ℤ)) (step : ℕ) (ts : List Task) (path : List ℕ)
    → length (deed_in (segments p arrays step ts) path).spawns ≤ 8
deed_few p arrays step [] path = omega arith
deed_few p arrays step (t ∷ ts) path = by (bytes_eq t.path path) (deed_few p arrays step ts path)
  where
    by : (b : Bool) → length (deed_in (segments p arrays step ts) path).spawns ≤ 8
        → length (if b then segment_of p.plans t arrays step else deed_in (segments p arrays step ts) path).spawns ≤ 8
    by true k = (numbers-its-spawns p.plans t arrays step).0
    by false k = k

pub are_few : (p : Program) (limit : ℕ) (w : World) → length p.starts ≤ 4096 → IsOf p limit w → IsStanding w → AreFew w
are_few p limit w h of stands = record {
  participants =
      let a : length (map participant_path w.participants) ≡ length w.participants = length-map w.participants participant_path in
      let b : length (live_paths w.job) ≡ length w.job.live = length-map w.job.live (λ (t : Task). t.path) in
      let c : length (map participant_path w.participants) ≡ length (live_paths w.job) = ap length stands.paths in
      let d = live_few p limit of.job.0 h in
      let e : length w.job.live ≡ length (so_far p limit of.job.0).live = ap (λ (st : State). length st.live) of.job.1 in
      omega arith;
  children = λ q l d.
      let n = stands.noted q l d in
      let g : ParticipantValue = participant_at w.participants q in
      let s : Segment = deed_of w (participant_at w.participants q).path in
      let a : length (map child_path g.children) ≡ length g.children = length-map g.children child_path in
      let b : length (spawned_paths s) ≡ length s.spawns =
      length-map (deed_of w (participant_at w.participants q).path).spawns (λ (t : Task). t.path) in
      let c : length (map child_path g.children) ≡ length (spawned_paths s) = ap length n.children in
      let e = deed_few w.program w.job.arrays w.job.step w.job.live (participant_at w.participants q).path in
      omega arith;
}
