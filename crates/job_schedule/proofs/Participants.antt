-- Participants, the paths of their tasks, and what they note of segments.
use Rattle.std.proofs.Common.{◌≡◌, ℕ, zero, suc, ◌<◌, Bool, true, false, List, [], ◌∷◌, ◌++◌, length, map, set, get_or, refl, sym, ap, subst, arith, ◌∙◌}
use Rattle.std.specs.Prelude.{ℤ, if◌then◌else◌, ◌&&◌}
use Rattle.std.specs.List.{AllByRecursion}
use Rattle.std.specs.Str.{bytes_eq}
use Rattle.std.proofs.lemmas.List.{map-append}
use Rattle.std.proofs.lemmas.Slice.Eq.{bytes_eq-Decides}
use Rattle.superstep_memory.specs.Paths.{path_lt, is_rising}
use Rattle.superstep_memory.specs.PathOrder.{put_in, in_path_order}
use Rattle.superstep_memory.proofs.PathOrder.{rising_rest, rising_all}
use Rattle.task_lang.specs.Meaning.{Task, Segment, segment_of}
use Rattle.step_core.specs.Program.{Program}
use Rattle.step_core.specs.Superstep.{segments}
use Rattle.step_core.specs.OrderValue.{has_synced, spawned_paths}
use Rattle.step_core.specs.Laws.{paths_on, synced_path}
use Rattle.superstep_memory.proofs.InOrder.{put_all_mapped}
use Rattle.job_schedule.specs.declared.stage.Stage.{Stage}
use Rattle.job_schedule.specs.declared.stage.Stage.TheVariants.{Waits, Taken, Polling, Joining, Arriving, Leaving, Over}
use Rattle.job_schedule.specs.ParticipantValue.{ChildValue, ParticipantValue, participant_at, participant_path, child_path, waiting, own_participant, child_participant, living_participants, next_participants, is_over, all_over, is_delivered}
use Rattle.job_schedule.specs.World.{deed_in}
use Rattle.job_schedule.proofs.Deeds.{not_itself}

-- what is set to the same value changes nothing of the values
pub map_set : {A B : Type 0} (f : A → B) (xs : List A) (i : ℕ) (y d : A) → f y ≡ f (get_or xs i d) → map f (set xs i y) ≡ map f xs
map_set f [] i y d h = refl
map_set f (x ∷ xs) zero y d h = ap (λ z. z ∷ map f xs) h
map_set f (x ∷ xs) (suc i) y d h = ap (λ zs. f x ∷ zs) (map_set f xs i y d h)

-- a participant's part in what its segment says
pub record Notes (ss : List (List ℕ × Segment)) (g : ParticipantValue) : Type 0 where
  pub synced : g.synced ≡ has_synced (deed_in ss g.path)
  pub children : map child_path g.children ≡ spawned_paths (deed_in ss g.path)

over_delivered : (s : Stage) → is_over s ≡ true → is_delivered s ≡ true
over_delivered Waits h = h
over_delivered Taken h = h
over_delivered Polling h = refl
over_delivered (Joining joined) h = refl
over_delivered (Arriving arrived) h = refl
over_delivered Leaving h = refl
over_delivered Over h = refl

both : (a b : Bool) → (a && b) ≡ true → (a ≡ true) × (b ≡ true)
both true b h = (refl, h)
both false b h = cc

pub all_delivered : (gs : List ParticipantValue) (place : ℕ) → all_over gs ≡ true → place < length gs
    → is_delivered (participant_at gs place).stage ≡ true
all_delivered [] place h l = absurd (omega arith)
all_delivered (g ∷ gs) zero h l = over_delivered g.stage (both (is_over g.stage) (all_over gs) h).0
all_delivered (g ∷ gs) (suc place) h l = all_delivered gs place (both (is_over g.stage) (all_over gs) h).1 (omega arith)

later_path : (p : List ℕ) (gs : List ParticipantValue) (place : ℕ) → AllByRecursion (λ q. path_lt p q ≡ true) (map participant_path gs)
    → place < length gs
    → path_lt p (participant_at gs place).path ≡ true
later_path p [] place a l = absurd (omega arith)
later_path p (g ∷ gs) zero a l = a.0
later_path p (g ∷ gs) (suc place) a l = later_path p gs place a.1 (omega arith)

children_paths : (ks : List ChildValue) → map participant_path (map child_participant ks) ≡ map child_path ks
children_paths [] = refl
children_paths (k ∷ ks) = ap (λ ps. k.path ∷ ps) (children_paths ks)

own_paths : (g : ParticipantValue) → map participant_path (own_participant g) ≡ (if g.synced then g.path ∷ [] else [])
own_paths g = by g.synced
  where
    by : (b : Bool) → map participant_path (if b then waiting g.path g.token g.home ∷ [] else []) ≡ (if b then g.path ∷ [] else [])
    by true = refl
    by false = refl

-- what all tasks leave, if each participant notes its segment
pub living_paths : (p : Program) (arrays : List (List ℕ × List ℤ)) (n : ℕ) (gs : List ParticipantValue) (ts : List Task)
    → map participant_path gs ≡ map (λ (t : Task). t.path) ts → is_rising (map (λ (t : Task). t.path) ts) ≡ true
    → ((place : ℕ) → place < length gs → Notes (segments p arrays n ts) (participant_at gs place))
    → map participant_path (living_participants gs) ≡ paths_on (segments p arrays n ts)
living_paths p arrays n [] [] e r notes = refl
living_paths p arrays n [] (t ∷ ts) e r notes = cc
living_paths p arrays n (g ∷ gs) [] e r notes = cc
living_paths p arrays n (g ∷ gs) (t ∷ ts) e r notes =
    let here : g.path ≡ t.path = cc in
    let rest : map participant_path gs ≡ map (λ (u : Task). u.path) ts = cc in
    let s : Segment = segment_of p.plans t arrays n in
    let mine = notes 0 (omega arith) in
    let found : deed_in (segments p arrays n (t ∷ ts)) g.path ≡ segment_of p.plans t arrays n =
    ap (λ (b : Bool). if b then segment_of p.plans t arrays n else deed_in (segments p arrays n ts) g.path)
    ((bytes_eq-Decides t.path g.path).1 (sym here)) in
    let synced : (if g.synced then g.path ∷ [] else []) ≡ synced_path (t.path, segment_of p.plans t arrays n) =
    ap (λ (b : Bool). if b then g.path ∷ [] else []) (mine.synced ∙ ap has_synced found)
    ∙ ap (λ (q : List ℕ). if has_synced (segment_of p.plans t arrays n) then q ∷ [] else []) here in
    let children : map participant_path (map child_participant g.children) ≡ spawned_paths (segment_of p.plans t arrays n) =
    children_paths g.children ∙ mine.children ∙ ap spawned_paths found in
    let later : AllByRecursion (λ q. path_lt t.path q ≡ true) (map participant_path gs) =
    subst (λ (qs : List (List ℕ)). AllByRecursion (λ q. path_lt t.path q ≡ true) qs) (sym rest)
    (rising_all t.path (map (λ (u : Task). u.path) ts) r) in
    let more = living_paths p arrays n gs ts rest (rising_rest t.path (map (λ (u : Task). u.path) ts) r)
    (λ place l. passed place l (notes (suc place) (omega arith)) (not_itself t.path (participant_at gs place).path (later_path t.path gs place later l))) in
    map-append participant_path (own_participant g ++ map child_participant g.children) (living_participants gs)
    ∙ ap (λ (qs : List (List ℕ)). qs ++ map participant_path (living_participants gs))
    (map-append participant_path (own_participant g) (map child_participant g.children))
    ∙ ap
    (λ (qs : List (List ℕ)). (qs ++ map participant_path (map child_participant g.children))
    ++ map participant_path (living_participants gs))
    (own_paths g ∙ synced)
    ∙ ap
    (λ (qs : List (List ℕ)). (synced_path (t.path, segment_of p.plans t arrays n) ++ qs) ++ map participant_path (living_participants gs))
    children
    ∙ ap
    (λ (qs : List (List ℕ)). (synced_path (t.path, segment_of p.plans t arrays n) ++ spawned_paths (segment_of p.plans t arrays n)) ++ qs)
    more
  where
    passed : (place : ℕ) → place < length gs → Notes (segments p arrays n (t ∷ ts)) (participant_at gs place)
        → bytes_eq t.path (participant_at gs place).path ≡ false
        → Notes (segments p arrays n ts) (participant_at gs place)
    passed place l h no_match =
        let same : deed_in (segments p arrays n (t ∷ ts)) (participant_at gs place).path
        ≡ deed_in (segments p arrays n ts) (participant_at gs place).path =
        ap (λ (b : Bool). if b then segment_of p.plans t arrays n else deed_in (segments p arrays n ts) (participant_at gs place).path)
        no_match in
        record { synced = h.synced ∙ ap has_synced same; children = h.children ∙ ap spawned_paths same }

-- so are the next participants
pub next_paths : (gs : List ParticipantValue) (qs : List (List ℕ)) → map participant_path (living_participants gs) ≡ qs
    → map participant_path (next_participants gs) ≡ in_path_order (λ (q : List ℕ). q) qs
next_paths gs qs e =
    put_all_mapped participant_path (λ (q : List ℕ). q) participant_path (λ g. refl) (living_participants gs) []
    ∙ ap (in_path_order (λ (q : List ℕ). q)) e

-- and all of them wait
abbrev Fresh : ParticipantValue → Type 0
Fresh g = g.stage ≡ Waits

put_fresh : (g : ParticipantValue) (gs : List ParticipantValue) → Fresh g → AllByRecursion Fresh gs
    → AllByRecursion Fresh (put_in participant_path g gs)
put_fresh g [] h a = (h, tt)
put_fresh g (x ∷ gs) h a = by (path_lt x.path g.path) (put_fresh g gs h a.1)
  where
    by : (b : Bool) → AllByRecursion Fresh (put_in participant_path g gs)
        → AllByRecursion Fresh (if b then x ∷ put_in participant_path g gs else g ∷ x ∷ gs)
    by true more = (a.0, more)
    by false more = (h, a)

all_fresh_put : (gs : List ParticipantValue) → AllByRecursion Fresh gs → AllByRecursion Fresh (in_path_order participant_path gs)
all_fresh_put [] a = tt
all_fresh_put (g ∷ gs) a = put_fresh g (in_path_order participant_path gs) a.0 (all_fresh_put gs a.1)

fresh_append : (xs ys : List ParticipantValue) → AllByRecursion Fresh xs → AllByRecursion Fresh ys → AllByRecursion Fresh (xs ++ ys)
fresh_append [] ys a b = b
fresh_append (x ∷ xs) ys a b = (a.0, fresh_append xs ys a.1 b)

children_fresh : (ks : List ChildValue) → AllByRecursion Fresh (map child_participant ks)
children_fresh [] = tt
children_fresh (k ∷ ks) = (refl, children_fresh ks)

own_fresh : (g : ParticipantValue) → AllByRecursion Fresh (own_participant g)
own_fresh g = by g.synced
  where
    by : (b : Bool) → AllByRecursion Fresh (if b then waiting g.path g.token g.home ∷ [] else [])
    by true = (refl, tt)
    by false = tt

living_fresh : (gs : List ParticipantValue) → AllByRecursion Fresh (living_participants gs)
living_fresh [] = tt
living_fresh (g ∷ gs) = fresh_append (own_participant g ++ map child_participant g.children) (living_participants gs)
    (fresh_append (own_participant g) (map child_participant g.children) (own_fresh g) (children_fresh g.children)) (living_fresh gs)

fresh_at : (gs : List ParticipantValue) (place : ℕ) → AllByRecursion Fresh gs → place < length gs → (participant_at gs place).stage ≡ Waits
fresh_at [] place a l = absurd (omega arith)
fresh_at (g ∷ gs) zero a l = a.0
fresh_at (g ∷ gs) (suc place) a l = fresh_at gs place a.1 (omega arith)

pub next_wait : (gs : List ParticipantValue) (place : ℕ) → place < length (next_participants gs)
    → (participant_at (next_participants gs) place).stage ≡ Waits
next_wait gs place l = fresh_at (next_participants gs) place (all_fresh_put (living_participants gs) (living_fresh gs)) l

pub next_fresh : (gs : List ParticipantValue) (place : ℕ) → place < length (next_participants gs)
    → is_delivered (participant_at (next_participants gs) place).stage ≡ false
next_fresh gs place l = ap is_delivered (next_wait gs place l)
