-- All stretches of a superstep are back.
use Rattle.std.proofs.Common.{◌≡◌, ℕ, ◌∙◌, true, List, [], map, Option, Some, None, ap, sym, subst, inl}
use Rattle.superstep_memory.specs.Paths.{is_rising}
use Rattle.program_stretches.specs.declared.fault.Outcome.TheVariants.{Faulted}
use Rattle.program_stretches.specs.PartValue.{PartValue}
use Rattle.program_stretches.specs.Next.{CanAllSettle}
use Rattle.program_stretches.specs.Parts.{Reading, EachDid, FindsMaker, covers, fault_in, tasks_in, puts_in, deeds_in, prints_in}
use Rattle.program_stretches.specs.SuperstepStart.{live_of}
use Rattle.program_stretches.specs.StretchesValue.{StretchesValue, status_in, IsAfter, IsOpen, IsRunSoFar, HaveRun}
use Rattle.program_stretches.specs.Closing.{EndsBy, IsClosed}
use Rattle.program_stretches.proofs.Closed.{after_with, closed_from, closed_end, open_now, begun_now, did_now, fault_now}
use Rattle.program_stretches.proofs.Finding.{finds_maker}
use Rattle.program_stretches.proofs.EachDone.{live_rise, each_did, each_can, each_known}

-- a run that goes on, and whose stretches are all back
pub record AreBack {Q S T : Type 0} (m : Q → Reading S T) (v : StretchesValue Q S) : Type 0 where
  pub law : (t : S) → (m v.program).frame.path ((m v.program).meant t) ≡ (m v.program).path t
  pub run : IsRunSoFar m v
  pub covered : covers true v.count 0 v.parts ≡ true
  pub running : status_in v ≡ None

pub are_back : {Q S T : Type 0} (m : Q → Reading S T) (v : StretchesValue Q S)
    → ((t : S) → (m v.program).frame.path ((m v.program).meant t) ≡ (m v.program).path t) → IsRunSoFar m v
    → covers true v.count 0 v.parts ≡ true → status_in v ≡ None → AreBack m v
are_back m v law run covered running = record { law = law; run = run; covered = covered; running = running }

module _ {Q S T : Type 0} {m : Q → Reading S T} {v : StretchesValue Q S} (b : AreBack m v) where
  abbrev now : IsOpen m v b.run.live
  now = open_now m v b.run b.covered b.running

  abbrev live : List T
  live = map (m v.program).meant (live_of now.start)

  begun : (ps : List (Option (PartValue S))) → IsAfter m (record v { parts = ps }) live
  begun ps = after_with m v ps live (begun_now m v b.run b.covered b.running)

  -- without its stretches it is the same run
  pub run_without : (ps : List (Option (PartValue S))) → ps ≡ [] → IsRunSoFar m (record v { parts = ps })
  run_without ps gone = record { live = live; after = begun ps; opened = inl gone }

  module _ {found : List (Option (PartValue S))} (is : found ≡ v.parts) where
    -- one of their tasks faulted
    module _ (ps : List (Option (PartValue S))) {blame : ℕ × List ℕ} (one : fault_in found ≡ Some blame) where
      pub fault_ends : EndsBy m (record v { parts = ps }) blame
      fault_ends =
          record {
            live = live;
            begun = begun ps;
            count = now.count;
            step = (fault_now m v b.run b.covered b.running b.law blame (sym (ap fault_in is) ∙ one)).step;
          }

      pub fault_closes : (w : StretchesValue Q S) → w ≡ record v { parts = ps; fault = Some blame } → IsClosed m v w Faulted
      fault_closes w e =
          closed_from m v ps w Faulted
          (closed_end m (record v { parts = ps }) b.law b.running now.start now.older now.is blame w e Faulted
          (fault_now m v b.run b.covered b.running b.law blame (sym (ap fault_in is) ∙ one)) (λ x live k. (blame, k)))

    -- none did
    module _ (none : fault_in found ≡ None) where
      quiet : fault_in v.parts ≡ None
      quiet = sym (ap fault_in is) ∙ none

      pub all_have_run : (ps : List (Option (PartValue S)))
          → HaveRun m (record v { parts = ps }) (puts_in found) (tasks_in found) (deeds_in found) (prints_in found)
      all_have_run ps =
          subst
          (λ (ss : List (Option (PartValue S))). HaveRun m (record v { parts = ps }) (puts_in ss) (tasks_in ss) (deeds_in ss) (prints_in ss))
          (sym is)
          (record {
            start = now.start;
            older = now.older;
            is = now.is;
            count = now.count;
            begun = begun ps;
            did = (did_now m v b.run b.covered b.running).quiet quiet;
          })

      rise : is_rising (map (m v.program).path (live_of now.start)) ≡ true
      rise = live_rise m v b.law b.run.live b.run.after (live_of now.start) now.lives

      pub all_did : EachDid found
      all_did =
          subst EachDid (sym is)
          (each_did (m v.program) b.law v.arrays v.step (live_of now.start) rise v.count 0 v.parts now.own b.covered quiet)

      pub all_can : CanAllSettle (m v.program).path found
      all_can =
          subst (CanAllSettle (m v.program).path) (sym is)
          (each_can (m v.program) b.law v.arrays v.step (live_of now.start) rise v.count 0 v.parts now.own b.covered quiet)

      pub all_found : FindsMaker v.arrays (puts_in found) found
      all_found =
          subst (λ (ss : List (Option (PartValue S))). FindsMaker v.arrays (puts_in ss) ss) (sym is)
          (finds_maker v.arrays v.parts
          (each_known (m v.program) b.law v.arrays v.step (live_of now.start) rise v.count 0 v.parts now.own b.covered quiet))
