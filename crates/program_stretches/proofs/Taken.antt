-- One superstep more, by what the live tasks did in stretches.
use Rattle.std.proofs.Common.{◌≡◌, ℕ, suc, ◌+◌, ◌≤◌, ◌<◌, true, List, [], ◌∷◌, ◌++◌, map, length, Option, Some, None, get_or, refl, sym, ap, ◌∙◌, subst, arith, length-append, append_assoc}
use Rattle.std.specs.Prelude.{ℤ}
use Rattle.std.specs.Option.{option_map}
use Rattle.std.proofs.lemmas.List.{length-map, map-append}
use Rattle.std.proofs.Math.Seq.{get_or-append_seam}
use Rattle.superstep_memory.specs.declared.arrays.Put.{Put}
use Rattle.superstep_memory.specs.Landing.{landed, joined, over_in}
use Rattle.superstep_memory.specs.Paths.{is_rising}
use Rattle.superstep_memory.specs.PathOrder.{in_path_order}
use Rattle.phase_records.specs.PrintValue.{PrintValue}
use Rattle.phase_records.specs.ReportValue.{ReportValue}
use Rattle.phase_records.specs.Status.{Status}
use Rattle.phase_records.specs.declared.record.PhaseRecord.{PhaseRecord}
use Rattle.programs.specs.Meaning.{Segment, Says, NumbersItsSpawns, StaysTheSameTask, children}
use Rattle.programs.specs.Reads.{reads}
use Rattle.programs.specs.DeedValue.{DeedValue}
use Rattle.programs.specs.Superstep.{State, superstep, closed, fault_in, log_of, prints_of, record_of, ended_by, segments, first_fault, next_live, too_many, overflow, live_paths}
use Rattle.programs.specs.Supersteps.{so_far, status, report_with}
use Rattle.programs.specs.Regroup.{AreNumbered}
use Rattle.programs.specs.InPlace.{IsAllDone, Reported, living_with, left_in, spawned_in, record_in, overflow_at, maker}
use Rattle.programs.specs.History.{Entry, AreOf, IsEntered, says_in, says_by, segments_in, living_after}
use Rattle.programs.proofs.History.{numbers_by, stays_by, all_formed, numbers_in, stays_in, entries_rise, agrees}
use Rattle.programs.proofs.Histories.{superstep_by, so_far_more, formed_by}
use Rattle.programs.proofs.RunState.{deeds_reported, by_fault_in, by_many_in, by_over_in, by_landing_in, fits_in, none_faults, many_reported, few_reported, none_over}
use Rattle.programs.proofs.InPlace.{counted}
use Rattle.programs.proofs.Reached.{entered_more}
use Rattle.programs.proofs.Runs.{goes, going_on, ended_is_last}
use Rattle.programs.proofs.Apart.{live-paths-rise}
use Rattle.program_stretches.specs.Parts.{Reading, setup_by}
use Rattle.program_stretches.specs.Reached.{IsReached, HasRunOn, with_earlier, with_before}
use Rattle.program_stretches.specs.declared.fault.Outcome.{Outcome}
use Rattle.program_stretches.specs.declared.fault.Outcome.TheVariants.{Landed, Faulted, TooMany, Overflowed}
use Rattle.program_stretches.specs.Did.{DidAll, IsStep, IsStepTo, outcome_by, outcome_of}

-- what was printed and recorded before changes nothing of a superstep
closed_later : {T : Type 0} (s : Says T) (early st : State T) (ss : List (List ℕ × Segment T)) (o : Option (ℕ × List ℕ))
    → closed s.path (with_earlier early st) ss o ≡ with_earlier early (closed s.path st ss o)
closed_later s early st ss (Some f) = refl
closed_later s early st ss None = λ i. record {
  step = st.step + 1;
  arrays = landed (joined (map log_of ss)) st.arrays;
  live = next_live s.path ss;
  prints = append_assoc early.prints st.prints (prints_of st.step ss) i;
  records = append_assoc early.records st.records (record_of st.step ss ∷ []) i;
  fault = None;
}

pub superstep_later : {T : Type 0} (s : Says T) (early st : State T)
    → superstep s (with_earlier early st) ≡ with_earlier early (superstep s st)
superstep_later s early st =
    closed_later s early st (segments s st.arrays st.step st.live) (fault_in s.path s.most st.arrays (segments s st.arrays st.step st.live))

-- a superstep without a fault goes on to the next step
pub moved : {T : Type 0} (s : Says T) (st next : State T) → superstep s st ≡ next → next.fault ≡ None → next.step ≡ st.step + 1
moved {T} s st next e none =
    ap (λ (x : State T). x.step) (sym e) ∙ by (fault_in s.path s.most st.arrays ss) (ap (λ (x : State T). x.fault) e ∙ none)
  where
    ss : List (List ℕ × Segment T)
    ss = segments s st.arrays st.step st.live

    by : (o : Option (ℕ × List ℕ)) → (closed s.path st ss o).fault ≡ None → (closed s.path st ss o).step ≡ st.step + 1
    by (Some f) h = cc
    by None h = refl

module _ {S T : Type 0} (r : Reading S T) (law : (t : S) → r.frame.path (r.meant t) ≡ r.path t) (most : ℕ) (arrays : List (List ℕ × List ℤ))
    (tasks : List T) (limit given : ℕ) where
  abbrev pub Reached : State T → Type 0
  Reached st = IsReached (setup_by r most arrays tasks limit) given st

  -- one superstep more
  abbrev pub reached_next : (st next : State T) (h : Reached st) → status limit st ≡ None → IsStep r.frame r.may most st next → Reached next
  reached_next st next h run s =
      let es = s.entries in
      let says = says_by r.frame most h.history in
      let early = so_far says arrays tasks limit given in
      let whole = with_earlier early st in
      let entered : IsEntered r.frame r.may whole es = record { tasks = s.entered.tasks; allowed = s.entered.allowed } in
      let more = h.history ++ es ∷ [] in
      let l = length-append h.history (es ∷ []) in
      let k : length more ≡ suc (length h.history) = omega (arith, l) in
      let now = so_far_more r.frame most h.history (es ∷ []) arrays tasks limit (length h.history) (omega arith) in
      let then_ = so_far_more r.frame most h.history (es ∷ []) arrays tasks limit given h.within in
      let at : so_far (says_by r.frame most more) arrays tasks limit (length h.history) ≡ whole = now ∙ sym h.state in
      let step : st.step ≡ length h.history =
      ap (λ (x : State T). x.step) h.state
      ∙ (going_on says arrays tasks limit (length h.history) (ap (status limit) (sym h.state) ∙ run)).step in
      let entry : get_or more st.step [] ≡ es = ap (λ (n : ℕ). get_or more n []) step ∙ get_or-append_seam h.history es [] [] in
      let within = h.within in
      record {
        history = more;
        entered =
            entered_more (setup_by r most arrays tasks limit) h.history es h.entered
            (subst (λ (x : State T). IsEntered r.frame r.may x es) h.state entered);
        within = omega (arith, k, within);
        count = λ none. let up = moved (says_in r.frame most es) st next s.is none in omega (arith, k, step, up);
        state =
            ap (λ (x : State T). with_earlier x next) then_
            ∙ sym (
            ap (so_far (says_by r.frame most more) arrays tasks limit) k
            ∙ goes (says_by r.frame most more) arrays tasks
            (status limit (so_far (says_by r.frame most more) arrays tasks limit (length h.history)))
            (so_far (says_by r.frame most more) arrays tasks limit (length h.history))
            (superstep (says_by r.frame most more) (so_far (says_by r.frame most more) arrays tasks limit (length h.history)))
            (ap (status limit) at ∙ run)
            ∙ ap (superstep (says_by r.frame most more)) at
            ∙ superstep_by r.frame most more whole
            ∙ ap (λ (fs : List (Entry T)). superstep (says_in r.frame most fs) whole) entry
            ∙ superstep_later (says_in r.frame most es) early st
            ∙ ap (with_earlier early) s.is
            );
      }

  -- a run that has ended
  abbrev pub has_run : (st : State T) (h : Reached st) (s : Status) → status limit st ≡ Some s → (outcome : ReportValue)
      → outcome ≡ record { prints = st.prints; records = st.records; arrays = st.arrays; status = s }
      → (living : List T) → living_after s st.live ≡ living → HasRunOn (setup_by r most arrays tasks limit) given outcome living
  has_run st h s e outcome is living l =
      let says = says_by r.frame most h.history in
      let n = length h.history in
      let early = so_far says arrays tasks limit given in
      let whole = with_earlier early st in
      let ended : status limit (so_far says arrays tasks limit n) ≡ Some s = ap (status limit) (sym h.state) ∙ e in
      let last : so_far says arrays tasks limit n ≡ so_far says arrays tasks limit limit =
      ended_is_last says arrays tasks limit n s ended in
      record {
        whole = record { prints = whole.prints; records = whole.records; arrays = st.arrays; status = s };
        run = record {
          history = h.history;
          entered = h.entered;
          ended = ended;
          report = ap (λ (x : State T). report_with x (status limit x)) (sym (h.state ∙ last)) ∙ ap (report_with whole) e;
          at_end = ap (λ (x : State T). living_after s x.live) (sym h.state) ∙ l;
        };
        within = h.within;
        rest = ap (with_before early) (sym is);
      }

  module _ (begin : map r.frame.path tasks ≡ children [] 0 (length tasks)) where
    -- the paths of live tasks rise
    pub paths_rise : (st : State T) → Reached st → is_rising (map r.frame.path st.live) ≡ true
    paths_rise st h =
        let says = says_by r.frame most h.history in
        let formed = formed_by r.frame most r.may arrays tasks limit h.history h.entered in
        ap (λ (x : State T). is_rising (live_paths says x)) h.state
        ∙ live-paths-rise says (numbers_by r.frame most h.history formed) (stays_by r.frame most h.history formed) arrays tasks limit
        (length h.history) begin

    module _ (st : State T) (h : Reached st) (run : status limit st ≡ None) (ts : List S) (live : st.live ≡ map r.meant ts)
        (few : length ts ≤ most)
        (fault : Option (ℕ × List ℕ)) (puts : List Put) (us : List S) (ds : List (DeedValue S)) (after : List PrintValue)
        (d : DidAll r st.arrays st.step fault puts ts us ds after) where
      entries_are : AreOf r.frame st.live d.entries
      entries_are = record {
        back = map r.meant d.back;
        cut =
            live ∙ ap (map r.meant) d.cut ∙ map-append r.meant d.done d.back ∙ ap (λ (xs : List T). xs ++ map r.meant d.back) (sym d.tasks);
        whole = by fault refl;
      }
        where
          none_some : (x : ℕ × List ℕ) → None ≡ Some x → ⊥
          none_some x e = cc

          by : (o : Option (ℕ × List ℕ)) → fault ≡ o → first_fault (segments_in r.frame d.entries) ≡ None → map r.meant d.back ≡ []
          by None e q = ap (map r.meant) (d.whole e)
          by (Some x) e q = absurd (none_some x (sym q ∙ d.faults x e))

      pub entered : IsEntered r.frame r.may st d.entries
      entered = record { tasks = entries_are; allowed = d.allowed }

      rise : is_rising (map (λ e. r.frame.path e.task) d.entries) ≡ true
      rise = entries_rise r.frame st.live d.entries entries_are (paths_rise st h)

      numbers : NumbersItsSpawns (says_in r.frame most d.entries)
      numbers = numbers_in r.frame most d.entries (all_formed r.frame r.may st.arrays st.step d.entries d.allowed)

      stays : StaysTheSameTask (says_in r.frame most d.entries)
      stays = stays_in r.frame most d.entries (all_formed r.frame r.may st.arrays st.step d.entries d.allowed)

      all_reported : Reported (reads (says_in r.frame most d.entries) r.meant r.path)
          (segments (says_in r.frame most d.entries) st.arrays st.step st.live) st.step fault puts us ds [] after
      all_reported =
          let p = reads (says_in r.frame most d.entries) r.meant r.path in
          subst (λ ss. Reported p ss st.step fault puts us ds [] after)
          (deeds_reported p law numbers stays st.arrays st.step ts
          ∙ ap (segments (says_in r.frame most d.entries) st.arrays st.step) (sym live))
          (d.reported (says_in r.frame most d.entries) (agrees r.frame most st.arrays st.step d.entries rise))

      abbrev Next : State T → Outcome → Type 0
      Next new out = IsStepTo r.frame r.may most st new out

      -- what the live tasks did
      abbrev ss : List (List ℕ × Segment T)
      ss = segments (says_in r.frame most d.entries) st.arrays st.step st.live

      abbrev many_there : Option (ℕ × List ℕ)
      many_there = too_many most (next_live r.frame.path ss)

      next : (new : State T) → superstep (says_in r.frame most d.entries) st ≡ new → (out : Outcome)
          → out ≡ outcome_of (says_in r.frame most d.entries) st → Next new out
      next new e out ends = record { step = record { entries = d.entries; entered = entered; is = e }; ends = ends }

      -- a task's fault ends the run
      pub faulted : (x : ℕ × List ℕ) → fault ≡ Some x → Next (ended_by st x) Faulted
      faulted x e =
          let p = reads (says_in r.frame most d.entries) r.meant r.path in
          let t =
          subst (λ o. Reported p (segments (says_in r.frame most d.entries) st.arrays st.step st.live) st.step o puts us ds [] after) e
          all_reported in
          next (ended_by st x) (by_fault_in p law numbers stays st x t.0) Faulted
          (λ i. outcome_by (sym t.0 i) many_there (overflow st.arrays ss))

      module _ (none : fault ≡ None) where
        all_done : IsAllDone (reads (says_in r.frame most d.entries) r.meant r.path)
            (segments (says_in r.frame most d.entries) st.arrays st.step st.live) st.step puts us ds [] after
        all_done =
            let p = reads (says_in r.frame most d.entries) r.meant r.path in
            subst (λ o. Reported p (segments (says_in r.frame most d.entries) st.arrays st.step st.live) st.step o puts us ds [] after) none
            all_reported

        -- the numbers fit
        pub record FitsAll : Type 0 where
          pub deeds : length ds ≤ most
          pub same : length us ≡ length ds
          pub living : length (living_with us ds) + left_in ds ≡ length ds + spawned_in ds
          pub rising : is_rising (map r.path us) ≡ true
          pub numbered : AreNumbered r.path us ds
          pub all : length ds ≡ length ts

        count_all : (s : Says T) (as_ : List (List ℕ × List ℤ)) (step : ℕ) (xs : List T) → length (segments s as_ step xs) ≡ length xs
        count_all s as_ step [] = refl
        count_all s as_ step (x ∷ xs) = ap suc (count_all s as_ step xs)

        pub fits : FitsAll
        fits =
            let p = reads (says_in r.frame most d.entries) r.meant r.path in
            let l = ap length live ∙ length-map ts r.meant in
            let f = fits_in p law numbers stays st us ds all_done.done (omega (arith, l, few)) (paths_rise st h) in
            let k = counted p us ds (segments (says_in r.frame most d.entries) st.arrays st.step st.live) all_done.done in
            let n = count_all (says_in r.frame most d.entries) st.arrays st.step st.live in
            record { deeds = f.few; same = f.same; living = f.living; rising = f.rising; numbered = f.numbered; all = k.deeds ∙ n ∙ l }

        -- too many tasks end it
        pub many : most < length (living_with us ds) → Next (ended_by st (7, [])) TooMany
        many lt =
            let p = reads (says_in r.frame most d.entries) r.meant r.path in
            next (ended_by st (7, [])) (by_many_in p law numbers stays st us ds all_done.done lt) TooMany
            (λ i. outcome_by (sym (none_faults p law numbers stays us ds ss all_done.done) i) (sym (many_reported p law numbers stays st us ds all_done.done lt) i) (overflow st.arrays ss))

        -- a put that overflows ends it
        pub record Overflows (blame : Option (ℕ × List ℕ)) : Type 0 where
          pub cause : ℕ × List ℕ
          pub is : blame ≡ Some cause
          pub step : Next (ended_by st cause) Overflowed

        pub over : (place : ℕ) (blame : Option (ℕ × List ℕ)) → length (living_with us ds) ≤ most → Some place ≡ over_in st.arrays [] 0 puts
            → blame ≡ option_map overflow_at (maker r.path us ds place) → Overflows blame
        over place blame le over_there made =
            let p = reads (says_in r.frame most d.entries) r.meant r.path in
            let o = by_over_in p law numbers stays st puts us ds place blame all_done.done all_done.log le over_there made in
            record {
              cause = o.blame;
              is = o.is;
              step =
                  next (ended_by st o.blame) o.ends Overflowed
                  (λ i. outcome_by (sym (none_faults p law numbers stays us ds ss all_done.done) i) (sym (few_reported p law numbers stays st us ds all_done.done le) i) (sym o.over i));
            }

        -- or it goes on
        pub goes_on : (reported_now : PhaseRecord) → length (living_with us ds) ≤ most → reported_now ≡ record_in st.step ds
            → None ≡ over_in st.arrays [] 0 puts
            → Next (record {
              step = st.step + 1;
              arrays = landed puts st.arrays;
              live = map r.meant (in_path_order r.path (living_with us ds));
              prints = st.prints ++ after;
              records = st.records ++ reported_now ∷ [];
              fault = None;
            }) Landed
        goes_on reported_now le e over_none =
            let p = reads (says_in r.frame most d.entries) r.meant r.path in
            next _
            (by_landing_in p law numbers stays st puts us ds reported_now all_done.done all_done.log le e over_none
            ∙ (λ i. record {
              step = st.step + 1;
              arrays = landed puts st.arrays;
              live = map r.meant (in_path_order r.path (living_with us ds));
              prints = st.prints ++ sym all_done.shown i;
              records = st.records ++ reported_now ∷ [];
              fault = None;
            }))
            Landed
            (λ i. outcome_by (sym (none_faults p law numbers stays us ds ss all_done.done) i)
            (sym (few_reported p law numbers stays st us ds all_done.done le) i)
            (sym (none_over p law numbers stays st puts all_done.log over_none) i))
