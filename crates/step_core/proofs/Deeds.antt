-- What a round does with what was delivered.
use Rattle.std.proofs.Common.{◌≡◌, ℕ, zero, suc, ◌<◌, Bool, true, false, subst, slice_get, get_or, List, [], ◌∷◌, ◌++◌, map, length, Option, Some, None, refl, sym, ap, ◌∙◌, arith, append_assoc}
use Rattle.std.specs.Prelude.{ℤ, ◌&&◌, ◌-◌, nat_lt, if◌then◌else◌}
use Rattle.std.specs.List.{list_all}
use Rattle.std.specs.Option.{option_map}
use Rattle.superstep_memory.specs.declared.arrays.Put.{Put}
use Rattle.superstep_memory.specs.Landing.{landed, joined, is_set, over_in}
use Rattle.superstep_memory.specs.Logs.{located}
use Rattle.superstep_memory.proofs.Landed.{landed_append, landed_none}
use Rattle.superstep_memory.proofs.Over.{first_located, at_log, over_inside, found_there, sets_fit}
use Rattle.task_lang.specs.TaskValue.{TaskValue}
use Rattle.task_lang.specs.SegmentValue.{SegmentValue}
use Rattle.task_lang.specs.Meaning.{Plan, Task}
use Rattle.task_lang.specs.Views.{task_of, after_of}
use Rattle.task_lang.specs.declared.task.After as code
use Rattle.task_lang.specs.declared.task.After.TheVariants as after
use Rattle.programs.specs.Superstep.{log_of, overflow, fault_eight, synced, living_on}
use Rattle.step_core.specs.SlotValue.{SlotValue}
use Rattle.step_core.specs.Slots.{slots_of, delivered}
use Rattle.step_core.specs.SlotParts.{puts_in, puts_of, log_in, path_at, overflow_at, living_of, living_in, living_by, synced_in, path_in}

-- the log of what was delivered
pub log_reported : (ps : List Plan) (ss : List SlotValue) → joined (map log_of (delivered (slots_of ps ss))) ≡ log_in ss
log_reported ps [] = refl
log_reported ps (s ∷ ss) = by s.done (log_reported ps ss)
  where
    by : (o : Option SegmentValue) → joined (map log_of (delivered (slots_of ps ss))) ≡ log_in ss
        → joined (map log_of (delivered (slots_of ps (record { task = s.task; done = o } ∷ ss)))) ≡ puts_of o ++ log_in ss
    by None h = h
    by (Some g) h = ap (λ (qs : List Put). g.puts ++ qs) h

all_append : (ps qs : List Put) → list_all is_set (ps ++ qs) ≡ (list_all is_set ps && list_all is_set qs)
all_append [] qs = refl
all_append (p ∷ ps) qs = by (is_set p) (all_append ps qs)
  where
    by : (b : Bool) → list_all is_set (ps ++ qs) ≡ (list_all is_set ps && list_all is_set qs)
        → (b && list_all is_set (ps ++ qs)) ≡ ((b && list_all is_set ps) && list_all is_set qs)
    by true h = h
    by false h = refl

-- all puts set if those of the first slot do, and those of the others
pub sets_in : (rest : List SlotValue) (s : SlotValue) (ss : List SlotValue) → rest ≡ s ∷ ss
    → list_all is_set (log_in rest) ≡ (list_all is_set (puts_in s) && list_all is_set (log_in ss))
sets_in rest s ss e = ap (λ (xs : List SlotValue). list_all is_set (log_in xs)) e ∙ all_append (puts_in s) (log_in ss)

both : (b c : Bool) → (b && c) ≡ true → (b ≡ true) × (c ≡ true)
both true c h = (refl, h)
both false c h = cc

pub sets_apart : (rest : List SlotValue) (s : SlotValue) (ss : List SlotValue) → rest ≡ s ∷ ss → list_all is_set (log_in rest) ≡ true
    → (list_all is_set (puts_in s) ≡ true) × (list_all is_set (log_in ss) ≡ true)
sets_apart rest s ss e h = both (list_all is_set (puts_in s)) (list_all is_set (log_in ss)) (sym (sets_in rest s ss e) ∙ h)

-- one slot more has landed
pub land_next : (a : List (List ℕ × List ℤ)) {b all : List (List ℕ × List ℤ)} (rest : List SlotValue) (s : SlotValue) (ss : List SlotValue)
    → rest ≡ s ∷ ss → b ≡ landed (puts_in s) a
    → landed (log_in rest) a ≡ all → landed (log_in ss) b ≡ all
land_next a rest s ss e w h =
    ap (landed (log_in ss)) w ∙ sym (landed_append (puts_in s) (log_in ss) a) ∙ ap (λ (xs : List SlotValue). landed (log_in xs) a) (sym e)
    ∙ h

-- puts that set, those of the first slot written
pub write_next : (a : List (List ℕ × List ℤ)) {b all : List (List ℕ × List ℤ)} (rest : List SlotValue) (s : SlotValue) (ss : List SlotValue)
    → rest ≡ s ∷ ss
    → b ≡ landed (puts_in s) a → (landed (log_in rest) a ≡ all) × (list_all is_set (log_in rest) ≡ true)
    → (landed (log_in ss) b ≡ all) × (list_all is_set (log_in ss) ≡ true)
write_next a rest s ss e w h = (land_next a rest s ss e w h.0, (sets_apart rest s ss e h.1).1)

pub land_last : {a all : List (List ℕ × List ℤ)} (ss : List SlotValue) → ss ≡ [] → landed (log_in ss) a ≡ all → a ≡ all
land_last {a = a} [] e h = sym (landed_none a) ∙ h
land_last (s ∷ ss) e h = cc

-- ---- the first put that overflows

-- the path of the put at this place
path_located : (ps : List Plan) (ss : List SlotValue) (k : ℕ)
    → option_map fault_eight (located (map log_of (delivered (slots_of ps ss))) k) ≡ option_map overflow_at (path_at ss k)
path_located ps [] k = refl
path_located ps (s ∷ ss) k = by s.done (λ n. path_located ps ss n)
  where
    reported : (b : Bool) (n : ℕ)
        → option_map fault_eight (located (map log_of (delivered (slots_of ps ss))) n) ≡ option_map overflow_at (path_at ss n)
        → option_map fault_eight (if b then Some (s.task.path, k) else located (map log_of (delivered (slots_of ps ss))) n)
        ≡ option_map overflow_at (if b then Some s.task.path else path_at ss n)
    reported true n h = refl
    reported false n h = h

    by : (o : Option SegmentValue)
        → ((n : ℕ) → option_map fault_eight (located (map log_of (delivered (slots_of ps ss))) n) ≡ option_map overflow_at (path_at ss n))
        → option_map fault_eight (located (map log_of (delivered (slots_of ps (record { task = s.task; done = o } ∷ ss)))) k)
        ≡ option_map overflow_at (if nat_lt k (length (puts_of o)) then Some s.task.path else path_at ss (k - length (puts_of o)))
    by None h =
        let b : nat_lt k 0 ≡ false = grind arith in
        let z : k - 0 ≡ k = omega arith in
        h k ∙ sym (ap (λ (n : ℕ). option_map overflow_at (path_at ss n)) z)
        ∙ sym (ap (λ (x : Bool). option_map overflow_at (if x then Some s.task.path else path_at ss (k - 0))) b)
    by (Some g) h = reported (nat_lt k (length g.puts)) (k - length g.puts) (h (k - length g.puts))

-- what the log of all puts says is what the round says
pub over_reported : (ps : List Plan) (ss : List SlotValue) (xs : List (List ℕ × List ℤ)) (o : Option ℕ) → o ≡ over_in xs [] 0 (log_in ss)
    → overflow xs (delivered (slots_of ps ss)) ≡ option_map fault_eight (at_log (map log_of (delivered (slots_of ps ss))) o)
over_reported ps ss xs o e =
    let logs = map log_of (delivered (slots_of ps ss)) in
    ap (option_map fault_eight)
    (first_located xs logs ∙ ap (λ (qs : List Put). at_log logs (over_in xs [] 0 qs)) (log_reported ps ss) ∙ ap (at_log logs) (sym e))

pub none_over : (ps : List Plan) (ss : List SlotValue) (xs : List (List ℕ × List ℤ)) → None ≡ over_in xs [] 0 (log_in ss)
    → None ≡ overflow xs (delivered (slots_of ps ss))
none_over ps ss xs e = sym (over_reported ps ss xs None e)

pub one_over : (ps : List Plan) (ss : List SlotValue) (xs : List (List ℕ × List ℤ)) (k : ℕ) → Some k ≡ over_in xs [] 0 (log_in ss)
    → option_map overflow_at (path_at ss k) ≡ overflow xs (delivered (slots_of ps ss))
one_over ps ss xs k e = sym (over_reported ps ss xs (Some k) e ∙ path_located ps ss k)

-- the put that overflows is that of a task
pub over_path : (ss : List SlotValue) (xs : List (List ℕ × List ℤ)) (k : ℕ) → Some k ≡ over_in xs [] 0 (log_in ss)
    → option_map overflow_at (path_at ss k) ≡ None → ⊥
over_path ss xs k e h =
    found_there (map log_of (delivered (slots_of [] ss))) k
    (let m = over_inside xs [] 0 k (log_in ss) (sym e) in
    subst (λ (qs : List Put). k < length qs) (sym (log_reported [] ss)) (omega (arith, m.1)))
    (none_located (located (map log_of (delivered (slots_of [] ss))) k) (path_located [] ss k ∙ h))
  where
    none_located : (o : Option (List ℕ × ℕ)) → option_map fault_eight o ≡ None → o ≡ None
    none_located None h = refl
    none_located (Some e) h = cc

-- puts that set don't
pub none_over_sets : (ps : List Plan) (ss : List SlotValue) (xs : List (List ℕ × List ℤ)) → list_all is_set (log_in ss) ≡ true
    → None ≡ overflow xs (delivered (slots_of ps ss))
none_over_sets ps ss xs h = none_over ps ss xs (sym (sets_fit xs [] 0 (log_in ss) h))

synced_mapped : (ps : List Plan) (a : code.After) → map (task_of ps) (synced_in a) ≡ synced (after_of ps a)
synced_mapped ps (after.Synced t) = refl
synced_mapped ps after.Stopped = refl
synced_mapped ps (after.Fault f) = refl

map_append : {A B : Type 0} (f : A → B) (xs ys : List A) → map f (xs ++ ys) ≡ map f xs ++ map f ys
map_append f [] ys = refl
map_append f (x ∷ xs) ys = ap (λ zs. f x ∷ zs) (map_append f xs ys)

-- the tasks that live on are those of the segments that were delivered
pub living_mapped : (ps : List Plan) (ss : List SlotValue) → map (task_of ps) (living_in ss) ≡ living_on (delivered (slots_of ps ss))
living_mapped ps [] = refl
living_mapped ps (s ∷ ss) = map_append (task_of ps) (living_of s.done) (living_in ss) ∙ by s.done (living_mapped ps ss)
  where
    by : (o : Option SegmentValue) → map (task_of ps) (living_in ss) ≡ living_on (delivered (slots_of ps ss))
        → map (task_of ps) (living_of o) ++ map (task_of ps) (living_in ss)
        ≡ living_on (delivered (slots_of ps (record { task = s.task; done = o } ∷ ss)))
    by None h = h
    by (Some g) h =
        (λ i. (map_append (task_of ps) (synced_in g.after) g.spawns i) ++ h i)
        ∙ ap (λ (xs : List Task). (xs ++ map (task_of ps) g.spawns) ++ living_on (delivered (slots_of ps ss))) (synced_mapped ps g.after)

living_by_append : (xs ys : List (Option SegmentValue)) → living_by (xs ++ ys) ≡ living_by xs ++ living_by ys
living_by_append [] ys = refl
living_by_append (x ∷ xs) ys =
    ap (λ (zs : List TaskValue). living_of x ++ zs) (living_by_append xs ys)
    ∙ sym (append_assoc (living_of x) (living_by xs) (living_by ys))

pub living_last : (rest front : List (Option SegmentValue)) (d : Option SegmentValue) → rest ≡ front ++ d ∷ []
    → living_by rest ≡ living_by front ++ living_of d
living_last rest front d e =
    ap living_by e ∙ living_by_append front (d ∷ []) ∙ ap (λ (xs : List TaskValue). living_by front ++ xs) (append_nil (living_of d))
  where
    append_nil : (xs : List TaskValue) → xs ++ [] ≡ xs
    append_nil [] = refl
    append_nil (x ∷ xs) = ap (λ ys. x ∷ ys) (append_nil xs)

pub paths_mapped : (ps : List Plan) (ts : List TaskValue) → map path_in ts ≡ map (λ (t : Task). t.path) (map (task_of ps) ts)
paths_mapped ps [] = refl
paths_mapped ps (t ∷ ts) = ap (λ (xs : List (List ℕ)). t.path ∷ xs) (paths_mapped ps ts)

pub paths_counted : (ps : List Plan) (ts : List TaskValue) → length ts ≡ length (map (λ (t : Task). t.path) (map (task_of ps) ts))
paths_counted ps [] = refl
paths_counted ps (t ∷ ts) = ap suc (paths_counted ps ts)

pub path_got : (ts : List TaskValue) (n : ℕ) (t : TaskValue) → n < length ts → t ≡ get_or ts n t
    → slice_get (map path_in ts) n ≡ Some t.path
path_got [] n t lt e = absurd (omega arith)
path_got (x ∷ ts) zero t lt e = ap (λ (y : TaskValue). Some y.path) (sym e)
path_got (x ∷ ts) (suc n) t lt e = path_got ts n t (omega arith) e
