-- What a task leaves for which something was given.
use Rattle.std.proofs.Common.{◌≡◌, ◌<◌, ◌≤◌, ℕ, zero, suc, true, false, ltb, not, List, [], ◌∷◌, ◌++◌, length, get_or, Option, Some, None, refl, sym, ap, ◌∙◌, subst, arith, append-nil}
use Rattle.std.specs.Prelude.{ℤ, slice_get}
use Rattle.std.specs.List.{list_all}
use Rattle.std.proofs.lemmas.Bool.Decides.{nat_tests}
use Rattle.superstep_memory.specs.Cells.{is_cell}
use Rattle.programs.specs.declared.work.Work.{Work}
use Rattle.programs.specs.declared.work.SegmentEnd.{SegmentEnd as Ended}
use Rattle.programs.specs.declared.work.SegmentEnd.TheVariants as ended
use Rattle.programs.specs.Lent.{IsLeft, HasLeft}
use Rattle.task_bodies.specs.declared.body.Ending.TheVariants as ending
use Rattle.task_bodies.specs.Bodies.{Left, path_of, member_frame, numbered, went, when, refused_spawns, refused, framed, left_so, nothing}
use Rattle.task_bodies.specs.Settled.{IsSettled}
use Rattle.task_bodies.proofs.Framed.{same_of}
use Rattle.task_bodies.proofs.WellFormed.{framed_formed}
use Rattle.bsp_steps.specs.declared.given.Deed.{Deed}
use Rattle.bsp_steps.specs.declared.given.Origin.{Origin}
use Rattle.bsp_steps.specs.Given.{TaskValue, puts_given, all_spawned, written, given_of}
use Rattle.bsp_steps.specs.Runs.{AsGiven}
use Rattle.bsp_steps.proofs.Numbered.{spawned_count}

-- what it left, if its deed says that it left this
abbrev pub IsSo : (arrays : List (List ℕ × List ℤ)) (t u : TaskValue) (e : Ended) (old new : Work TaskValue) → Left Origin → Type 0
IsSo arrays t u e old new o = IsLeft (λ (x : TaskValue). x) path_of e t u old new (framed arrays t o)

-- how a task is settled by its deed, which ends so
abbrev pub Settles : (arrays : List (List ℕ × List ℤ)) (d : Deed) (t u : TaskValue) (old new : Work TaskValue) → Ended → Ended → Type 0
Settles arrays d t u old new ended e =
    IsSettled (refused arrays t.path t.begun (written d t.kept.place).puts (length (written d t.kept.place).spawns)) t u
    (written d t.kept.place) old new ended e

pub below : (n m : ℕ) → true ≡ ltb n m → n < m
below n m e = grind (arith, nat_tests)

pub not_below : (n m : ℕ) → false ≡ ltb n m → m ≤ n
not_below n m e = grind (arith, nat_tests)

-- there is a deed at this place
pub slice_of : (ds : List Deed) (n : ℕ) (d : Deed) → n < length ds → d ≡ get_or ds n d → slice_get ds n ≡ Some d
slice_of [] n d lt e = absurd (omega (arith, lt))
slice_of (x ∷ ds) zero d lt e = sym (ap Some e)
slice_of (x ∷ ds) (suc n) d lt e = slice_of ds n d (omega (arith, lt)) e

-- there is none
pub slice_none : (ds : List Deed) (n : ℕ) → length ds ≤ n → slice_get ds n ≡ None
slice_none [] n le = refl
slice_none (x ∷ ds) zero le = absurd (omega (arith, le))
slice_none (x ∷ ds) (suc n) le = slice_none ds n (omega (arith, le))

-- nothing was given for it
pub left_ungiven : (arrays : List (List ℕ × List ℤ)) (t : TaskValue) (work : Work TaskValue) → work.prints.items ≡ []
    → work.spawns.items ≡ []
    → IsSo arrays t t ended.Stops work work (left_so ending.Stops t.kept nothing)
left_ungiven arrays t work printed spawned =
    (record { puts = sym (append-nil work.puts); prints = printed; spawns = same_of work.spawns.items ∙ spawned }, refl, refl)

-- what it left is what was given for it
pub has_left : (deeds : List Deed) (arrays : List (List ℕ × List ℤ)) (step : ℕ) (t u : TaskValue) (e : Ended) (old new : Work TaskValue)
    → IsSo arrays t u e old new (given_of deeds t.kept)
    → HasLeft member_frame (AsGiven deeds) (λ (x : TaskValue). x) path_of arrays step e t u old new
has_left deeds arrays step t u e old new h = record {
  left = framed arrays t (given_of deeds t.kept);
  allowed = record { left = given_of deeds t.kept; allowed = refl; is = refl };
  formed = framed_formed arrays t (given_of deeds t.kept);
  is = h;
}

-- all its cells exist, and so its spawns alone may be refused
pub refused_so : (arrays : List (List ℕ × List ℤ)) (d : Deed) (t : TaskValue) (r : Option ℕ)
    → list_all (is_cell arrays) (puts_given d.puts.now) ≡ true
    → refused_spawns t.path t.begun d.spawns ≡ r
    → refused arrays t.path t.begun (written d t.kept.place).puts (length (written d t.kept.place).spawns) ≡ r
refused_so arrays d t r all is =
    (λ i. when (not (all i)) 3 (refused_spawns t.path t.begun (spawned_count t.kept.place 0 d.spawns i))) ∙ is

-- it is refused with this number
pub settles_so : (arrays : List (List ℕ × List ℤ)) (d : Deed) (t : TaskValue) (old new : Work TaskValue) (e : Ended) (code : ℕ)
    → refused arrays t.path t.begun (written d t.kept.place).puts (length (written d t.kept.place).spawns) ≡ Some code
    → Settles arrays d t t old new e (ended.Fails code)
settles_so arrays d t old new e code is =
    subst (λ (r : Option ℕ). IsSettled r t t (written d t.kept.place) old new e (ended.Fails code)) (sym is) (refl, refl)

-- it isn't refused, and joins
pub settles_joined : (arrays : List (List ℕ × List ℤ)) (d : Deed) (t u : TaskValue) (old new : Work TaskValue) (e : Ended)
    → refused arrays t.path t.begun (written d t.kept.place).puts (length (written d t.kept.place).spawns) ≡ None
    → new.puts ≡ old.puts ++ puts_given d.puts.now
    → old.prints.items ≡ [] → new.prints.items ≡ old.prints.items ++ d.prints.now
    → old.spawns.items ≡ [] → new.spawns.items ≡ old.spawns.items ++ numbered t.path t.begun (all_spawned t.kept.place 0 d.spawns)
    → u ≡ went t d.spawns t.kept
    → Settles arrays d t u old new e e
settles_joined arrays d t u old new e is puts none printed nobody spawned task =
    subst (λ (r : Option ℕ). IsSettled r t u (written d t.kept.place) old new e e) (sym is) (
      refl,
      record {
        puts = puts;
        prints = printed ∙ (λ i. none i ++ d.prints.now);
        spawns = spawned ∙ (λ i. nobody i ++ numbered t.path t.begun (all_spawned t.kept.place 0 d.spawns));
        task = task ∙ ap (λ (n : ℕ). went t n t.kept) (sym (spawned_count t.kept.place 0 d.spawns));
      },
    )
