-- What is delivered for a path is what the live task of that path does.
use Rattle.std.proofs.Common.{◌≡◌, ℕ, zero, suc, Bool, true, false, List, [], ◌∷◌, map, refl, sym, ap, ◌∙◌, Some, None, Option}
use Rattle.std.specs.Prelude.{ℤ, if◌then◌else◌, slice_get, is_some}
use Rattle.std.specs.List.{AllByRecursion}
use Rattle.std.specs.Str.{bytes_eq}
use Rattle.std.proofs.lemmas.Slice.Eq.{bytes_eq-Decides}
use Rattle.superstep_memory.specs.Paths.{path_lt, is_rising}
use Rattle.superstep_memory.proofs.PathOrder.{rising_rest, rising_all, lt_asym}
use Rattle.task_code.specs.JobValue.{JobValue}
use Rattle.task_lang.specs.Meaning.{Task, Segment, segment_of}
use Rattle.phase_records.specs.Status.{Status}
use Rattle.step_core.specs.Program.{Program, program_of}
use Rattle.step_core.specs.Superstep.{State, segments}
use Rattle.programs.specs.Supersteps.{unless_ended}
use Rattle.step_core.specs.RoundValue.{RoundValue, IsRound, state_of, status_in}
use Rattle.step_core.specs.OrderValue.{DeliveryValue, IsDelivery, delivered_segment, deed_of, deed_at}
use Rattle.step_core.proofs.Rounds.{running, tasks_stay}
use Rattle.step_core.specs.Taking.{with_delivery}
use Rattle.task_lang.specs.Views.{plans}
use Rattle.step_core.proofs.Apart.{reached_rises}
use Rattle.job_schedule.specs.World.{deed_in}
use Rattle.job_schedule.specs.Parts.{deed_by, IsAsBefore}

pub not_itself : (p q : List ℕ) → path_lt p q ≡ true → bytes_eq p q ≡ false
not_itself p q h = by (bytes_eq p q) refl
  where
    by : (b : Bool) → bytes_eq p q ≡ b → b ≡ false
    by false e = refl
    by true e =
        let same : p ≡ q = (bytes_eq-Decides p q).0 e in
        let back : path_lt q p ≡ true = ap (λ x. path_lt x p) (sym same) ∙ (ap (path_lt p) same ∙ h) in
        let bad : true ≡ false = sym back ∙ lt_asym p q h in cc

later : (p : List ℕ) (ts : List Task) (place : ℕ) (t : Task) → AllByRecursion (λ q. path_lt p q ≡ true) (map (λ (u : Task). u.path) ts)
    → slice_get ts place ≡ Some t → path_lt p t.path ≡ true
later p [] place t a h = cc
later p (u ∷ ts) zero t a h = let e : u ≡ t = cc in ap (λ (v : Task). path_lt p v.path) (sym e) ∙ a.0
later p (u ∷ ts) (suc place) t a h = later p ts place t a.1 h

pub deed_there : (p : Program) (arrays : List (List ℕ × List ℤ)) (n : ℕ) (ts : List Task) (place : ℕ) (t : Task)
    → is_rising (map (λ (u : Task). u.path) ts) ≡ true
    → slice_get ts place ≡ Some t → deed_in (segments p arrays n ts) t.path ≡ segment_of p.plans t arrays n
deed_there p arrays n [] place t r h = cc
deed_there p arrays n (u ∷ ts) zero t r h =
    let e : u ≡ t = cc in
    ap (λ (b : Bool). if b then segment_of p.plans u arrays n else deed_in (segments p arrays n ts) t.path)
    ((bytes_eq-Decides u.path t.path).1 (ap (λ (v : Task). v.path) e))
    ∙ ap (λ (v : Task). segment_of p.plans v arrays n) e
deed_there p arrays n (u ∷ ts) (suc place) t r h =
    ap (λ (b : Bool). if b then segment_of p.plans u arrays n else deed_in (segments p arrays n ts) t.path)
    (not_itself u.path t.path (later u.path ts place t (rising_all u.path (map (λ (v : Task). v.path) ts) r) h))
    ∙ deed_there p arrays n ts place t (rising_rest u.path (map (λ (v : Task). v.path) ts) r) h

same_deed : (a b : List ℕ) (x y : Segment) → ◌≡◌ {A = Option (List ℕ × Segment)} (Some (a, x)) (Some (b, y)) → (a ≡ b) × (x ≡ y)
same_deed a b x y h =
    let e : ◌≡◌ {A = List ℕ × Segment} (a, x) (b, y) = cc in
    (ap (λ (s : List ℕ × Segment). s.0) e, ap (λ (s : List ℕ × Segment). s.1) e)

pub deed_delivered : (r : RoundValue) (d : DeliveryValue) (path : List ℕ) → IsRound r → status_in r ≡ None → IsDelivery d
    → d.job ≡ r.job → d.step ≡ r.step → d.path ≡ path → delivered_segment d ≡ deed_by r path
deed_delivered r d path is run own job step at = by (slice_get (state_of r).live d.place) refl here
  where
    here : deed_of (program_of r.job) (state_of r) (slice_get (state_of r).live d.place) ≡ Some (d.path, delivered_segment d)
    here =
        ap (λ (s : State). deed_of (program_of r.job) s (slice_get s.live d.place)) (running r is run)
        ∙ ap (λ (n : ℕ). deed_at (program_of r.job) n d.place) (sym step)
        ∙ ap (λ (j : JobValue). deed_at (program_of j) d.step d.place) (sym job)
        ∙ own

    by : (o : Option Task) → slice_get (state_of r).live d.place ≡ o
        → deed_of (program_of r.job) (state_of r) o ≡ Some (d.path, delivered_segment d)
        → delivered_segment d ≡ deed_by r path
    by None e h = cc
    by (Some t) e h =
        let same = same_deed t.path d.path (segment_of (program_of r.job).plans t r.arrays r.step) (delivered_segment d) h in
        sym same.1
        ∙ sym (deed_there (program_of r.job) r.arrays r.step (state_of r).live d.place t (reached_rises r is) e)
        ∙ ap (deed_by r) (same.0 ∙ at)

pub stays_ended : (o : Option Status) (st next : State) → is_some o ≡ true → unless_ended o st next ≡ st
stays_ended None st next h = cc
stays_ended (Some s) st next h = refl

pub not_ended : (o : Option Status) → is_some o ≡ false → o ≡ None
not_ended None h = refl
not_ended (Some s) h = cc

pub as_before : (r next : RoundValue) (d : DeliveryValue) → next ≡ with_delivery r d → IsAsBefore r next
as_before r next d e = record {
  job = ap (λ (x : RoundValue). x.job) e;
  limit = ap (λ (x : RoundValue). x.limit) e;
  state =
      ap state_of e
      ∙ ap (λ (ts : List Task). record (state_of r) { live = ts }) (tasks_stay (plans r.job.bodies) r.slots d.place d.segment);
}
