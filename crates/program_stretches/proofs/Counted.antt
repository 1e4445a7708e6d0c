-- The numbers of a superstep whose tasks have all run, and the run after it, before the next superstep is opened.
use Rattle.std.proofs.Common.{◌≡◌, ℕ, ◌+◌, ◌-◌, ◌≤◌, List, [], ◌∷◌, ◌++◌, map, length, Option, None, sym, ap, ◌∙◌, subst, inl, arith}
use Rattle.std.specs.Prelude.{ℤ}
use Rattle.superstep_memory.specs.declared.arrays.Put.{Put}
use Rattle.superstep_memory.specs.Landing.{landed, over_in}
use Rattle.superstep_memory.specs.PathOrder.{in_path_order}
use Rattle.superstep_memory.proofs.Merged.{rising_stays}
use Rattle.phase_records.specs.PrintValue.{PrintValue}
use Rattle.phase_records.specs.declared.record.PhaseRecord.{PhaseRecord}
use Rattle.programs.specs.DeedValue.{DeedValue}
use Rattle.programs.specs.InPlace.{living_with, left_in, spawned_in, record_in}
use Rattle.programs.proofs.InPlace.{few_left, all_stay}
use Rattle.program_stretches.specs.declared.fault.Outcome.TheVariants.{Landed}
use Rattle.program_stretches.specs.PartValue.{PartValue}
use Rattle.program_stretches.specs.Parts.{Reading, AreFresh, tasks_in, deeds_in, prints_in, without_puts}
use Rattle.program_stretches.specs.StretchesValue.{StretchesValue, status_in, IsAfter, IsRunSoFar, HaveRun}
use Rattle.program_stretches.specs.Closing.{IsClosed, opened_with}
use Rattle.program_stretches.proofs.Closed.{fit, moved_count, landed_with, after_landed, closed_landed, tasks_on, deeds_on, prints_on}

module _ {Q S : Type 0} where
  -- how many tasks there are, left or may be
  pub record AreCounted (v : StretchesValue Q S) (ds : List (DeedValue S)) : Type 0 where
    pub left : left_in ds ≤ length ds
    pub all : length ds ≡ v.count
    pub few : v.count ≤ v.most

  pub are_counted : {T : Type 0} (m : Q → Reading S T) (v : StretchesValue Q S)
      → ((t : S) → (m v.program).frame.path ((m v.program).meant t) ≡ (m v.program).path t) → status_in v ≡ None
      → {puts : List Put} {us : List S} {ds : List (DeedValue S)} {after : List PrintValue}
      → HaveRun m v puts us ds after → AreCounted v ds
  are_counted m v law run {puts} {us} {ds} {after} h =
      let f = fit m v law run h.start h.begun puts us ds after h.did in
      let b = h.begun.few in
      let n = h.begun.count in
      record { left = few_left ds; all = f.all; few = omega (arith, b, n) }

  -- if this many were spawned and left, no more live than may
  pub few_on : {found v : StretchesValue Q S} → found ≡ v → {ds es : List (DeedValue S)} → AreCounted v ds → es ≡ ds
      → {left spawned : ℕ} → left ≡ left_in ds → spawned ≡ spawned_in ds → spawned ≤ found.most - (found.count - left)
      → length es + spawned_in es ≤ v.most + left_in es
  few_on is h same l s fits =
      let most = ap (λ (x : StretchesValue Q S). x.most) is in
      let count = ap (λ (x : StretchesValue Q S). x.count) is in
      let n = ap (λ xs. length xs + spawned_in xs) same in
      let k = ap left_in same in
      let a = h.left in
      let b = h.all in
      let c = h.few in
      omega (arith, most, count, n, k, a, b, c, l, s, fits)

  -- and this is the superstep's record
  pub counts_on : {found v : StretchesValue Q S} → found ≡ v → {ds es : List (DeedValue S)} → AreCounted v ds → es ≡ ds
      → {left spawned : ℕ} → left ≡ left_in ds → spawned ≡ spawned_in ds
      → record { phase = found.step; parties = found.count + spawned; left = left; spawned = spawned } ≡ record_in v.step es
  counts_on {found} {v} is h same l s =
      let count = ap (λ (x : StretchesValue Q S). x.count) is in
      (λ i. record { phase = (is i).step; parties = (count ∙ sym h.all) i + s i; left = l i; spawned = s i })
      ∙ ap (record_in v.step) (sym same)

module _ {S : Type 0} where
  -- these stretches have done the same, but for their puts
  pub record DidTheSame (kept parts : List (Option (PartValue S))) : Type 0 where
    pub tasks : tasks_in kept ≡ tasks_in parts
    pub deeds : deeds_in kept ≡ deeds_in parts
    pub prints : prints_in kept ≡ prints_in parts

  pub did_the_same : (kept parts : List (Option (PartValue S))) → map without_puts kept ≡ map without_puts parts → DidTheSame kept parts
  did_the_same kept parts rest = record {
    tasks = sym (tasks_on kept) ∙ ap tasks_in rest ∙ tasks_on parts;
    deeds = sym (deeds_on kept) ∙ ap deeds_in rest ∙ deeds_on parts;
    prints = sym (prints_on kept) ∙ ap prints_in rest ∙ prints_on parts;
  }

-- a superstep whose tasks have all run, and its record
pub record IsReady {Q S T : Type 0} (m : Q → Reading S T) (v : StretchesValue Q S) (puts : List Put) (us : List S) (ds : List (DeedValue S))
    (after : List PrintValue) (reported : PhaseRecord) : Type 0 where
  pub law : (t : S) → (m v.program).frame.path ((m v.program).meant t) ≡ (m v.program).path t
  pub running : status_in v ≡ None
  pub run : HaveRun m v puts us ds after
  pub few : length ds + spawned_in ds ≤ v.most + left_in ds
  pub counts : reported ≡ record_in v.step ds

pub is_ready : {Q S T : Type 0} (m : Q → Reading S T) (v : StretchesValue Q S)
    → ((t : S) → (m v.program).frame.path ((m v.program).meant t) ≡ (m v.program).path t) → status_in v ≡ None
    → {puts : List Put} {us : List S} {ds : List (DeedValue S)} {after : List PrintValue} → HaveRun m v puts us ds after
    → length ds + spawned_in ds ≤ v.most + left_in ds → {reported : PhaseRecord} → reported ≡ record_in v.step ds
    → IsReady m v puts us ds after reported
is_ready m v law running run few counts = record { law = law; running = running; run = run; few = few; counts = counts }

module _ {Q S T : Type 0} {m : Q → Reading S T} {v : StretchesValue Q S} {puts : List Put} {us : List S} {ds : List (DeedValue S)}
    {after : List PrintValue} {reported : PhaseRecord} (s : IsReady m v puts us ds after reported) where
  -- how many tasks live next
  pub next_count : reported.parties - reported.left ≡ length (in_path_order (m v.program).path (living_with us ds))
  next_count = moved_count m v s.law s.running puts us ds after s.run reported s.counts

  -- if nobody came or left, the same tasks live next
  pub count_stays : v.count ≡ length us
  count_stays =
      let f = fit m v s.law s.running s.run.start s.run.begun puts us ds after s.run.did in
      sym f.all ∙ sym f.same

  pub all_follow : (reported.left ≡ 0) × (reported.spawned ≡ 0) → us ≡ in_path_order (m v.program).path (living_with us ds)
  all_follow none =
      let f = fit m v s.law s.running s.run.start s.run.begun puts us ds after s.run.did in
      let stays =
      all_stay us ds f.same (sym (ap (λ (r : PhaseRecord). r.left) s.counts) ∙ none.0)
      (sym (ap (λ (r : PhaseRecord). r.spawned) s.counts) ∙ none.1) in
      sym (ap (in_path_order (m v.program).path) stays ∙ rising_stays (m v.program).path us f.rising)

  -- The puts have landed on the arrays that were found, the prints and the record are added, and these tasks live next.
  pub record HasLanded (found : StretchesValue Q S) (listed : List Put) (arrays : List (List ℕ × List ℤ)) (prints : List PrintValue)
      (records : List PhaseRecord) (next : List S) : Type 0 where
    pub is : found ≡ v
    pub same : listed ≡ puts
    pub none : None ≡ over_in found.arrays [] 0 listed
    pub lands : arrays ≡ landed listed found.arrays
    pub printed : prints ≡ found.prints ++ after
    pub noted : records ≡ found.records ++ reported ∷ []
    pub follow : next ≡ in_path_order (m v.program).path (living_with us ds)

  pub has_landed : {found : StretchesValue Q S} {listed : List Put} {arrays : List (List ℕ × List ℤ)} {prints : List PrintValue}
      {records : List PhaseRecord} {next : List S}
      → found ≡ v → listed ≡ puts → None ≡ over_in found.arrays [] 0 listed → arrays ≡ landed listed found.arrays
      → prints ≡ found.prints ++ after → records ≡ found.records ++ reported ∷ []
      → next ≡ in_path_order (m v.program).path (living_with us ds) → HasLanded found listed arrays prints records next
  has_landed is same none lands printed noted follow =
      record { is = is; same = same; none = none; lands = lands; printed = printed; noted = noted; follow = follow }

module _ {Q S T : Type 0} {m : Q → Reading S T} {v : StretchesValue Q S} {puts : List Put} {us : List S} {ds : List (DeedValue S)}
    {after : List PrintValue} {reported : PhaseRecord} {s : IsReady m v puts us ds after reported}
    {found : StretchesValue Q S} {listed : List Put} {arrays : List (List ℕ × List ℤ)} {prints : List PrintValue}
    {records : List PhaseRecord} {next : List S} (l : HasLanded s found listed arrays prints records next)
    {count : ℕ} (counts : count ≡ length next) where
  abbrev now : StretchesValue Q S
  now = record found { step = found.step + 1; arrays = arrays; count = count; prints = prints; records = records }

  none_over : None ≡ over_in v.arrays [] 0 puts
  none_over = l.none ∙ (λ i. over_in (l.is i).arrays [] 0 (l.same i))

  same_now : now ≡ landed_with v puts reported after (length next)
  same_now =
      (λ i. record found {
        step = found.step + 1;
        arrays = (l.lands ∙ ap (λ (ps : List Put). landed ps found.arrays) l.same) i;
        count = counts i;
        prints = l.printed i;
        records = l.noted i;
      })
      ∙ (λ i. landed_with (l.is i) puts reported after (length next))

  follows : IsAfter m (landed_with v puts reported after (length next)) (map (m v.program).meant next)
  follows = after_landed m v s.law s.running puts us ds after s.run s.few reported s.counts none_over next l.follow

  pub run_landed : v.parts ≡ [] → IsRunSoFar m now
  run_landed none =
      subst (IsRunSoFar m) (sym same_now) (record { live = map (m v.program).meant next; after = follows; opened = inl none })

  pub after_now : (ts : List S) → ts ≡ next → IsAfter m now (map (m found.program).meant ts)
  after_now ts e =
      subst (λ (us : List S). IsAfter m now (map (m found.program).meant us)) (sym e)
      (subst (λ (x : StretchesValue Q S). IsAfter m x (map (m x.program).meant next)) (sym same_now) follows)

  pub closed_now : (parts : List (Option (PartValue S))) → AreFresh 0 parts → tasks_in parts ≡ next → (w : StretchesValue Q S)
      → w ≡ opened_with now parts → IsClosed m v w Landed
  closed_now parts fresh tasks w e =
      closed_landed m v s.law s.running puts us ds after s.run s.few reported s.counts none_over next l.follow parts fresh tasks w
      (e ∙ ap (λ (x : StretchesValue Q S). opened_with x parts) same_now)
