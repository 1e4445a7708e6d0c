-- What calls tell of a run, worked out.
use Rattle.std.proofs.Common.{◌≡◌, ◌∙◌, ℕ, zero, suc, Bool, true, false, List, [], ◌∷◌, length, take, Option, Some, None, inl, inr, refl, sym, ap, subst, arith}
use Rattle.std.specs.Prelude.{◌⊎◌, ℤ, pos, codes, slice_get, MatchOption, nat_lt}
use Rattle.std.specs.Option.{option_map}
use Rattle.std.specs.List.{list_all}
use Rattle.std.specs.Fmt as fmt
use Rattle.task_code.specs.Names as names
use Rattle.programs.specs.Steps.{ended}
use Rattle.bsp_steps.specs.declared.given.ArrayGiven.{ArrayGiven}
use Rattle.bsp_steps.specs.declared.given.Origin.{Origin}
use Rattle.bsp_steps.specs.declared.given.PrintReport.{PrintReport}
use Rattle.bsp_steps.specs.declared.given.RecordReport.{RecordReport}
use Rattle.bsp_steps.specs.declared.state.State.{State}
use Rattle.bsp_steps.specs.Given.{is_named, MayFollow}
use Rattle.bsp_steps.specs.Runs.{RunValue, text_by}
use Rattle.bsp_steps.specs.Calls.{Begins, BeginsNamed, Tells, TellsOf, IsGiven, GivesText, look_at, print_report, record_report}
use Rattle.bsp_steps.specs.Worked as worked

-- names that arrays may have, or not
named : list_all is_named worked.arrays ≡ true
unfolding names.is_reserved
named = refl

abbrev one : List ℕ → List ArrayGiven
one name = worked.array name [] ∷ []

unnamed_end : list_all is_named (one (codes "end")) ≡ false
unfolding names.is_reserved
unnamed_end = refl

unnamed_words : list_all is_named (worked.array (codes "a") [] ∷ worked.array (codes "a b") [] ∷ []) ≡ false
unfolding names.is_reserved
unnamed_words = refl

abbrev thrice : List ArrayGiven
thrice = worked.array (codes "a") [] ∷ worked.array (codes "b") [] ∷ worked.array (codes "a") [] ∷ []

abbrev with_large : List ℤ → List ArrayGiven
with_large cells = worked.array (codes "a") [] ∷ worked.array (codes "b") cells ∷ []

named_same : list_all is_named thrice ≡ true
unfolding names.is_reserved
named_same = refl

named_large : (cells : List ℤ) → list_all is_named (with_large cells) ≡ true
unfolding names.is_reserved
named_large cells = refl

-- names are refused
refused_name : (given : List ArrayGiven) → list_all is_named given ≡ false → worked.OpensNot given 2 4 (pos 14)
refused_name given e after s h = subst (λ (b : Bool). BeginsNamed b after given 2 4 3 s) e h

-- arrays are refused
refused_arrays : (given : List ArrayGiven) → list_all is_named given ≡ true → (MayFollow [] given → ⊥) → worked.OpensNot given 2 4 (pos 4)
refused_arrays given e not after s h = by (subst (λ (b : Bool). BeginsNamed b after given 2 4 3 s) e h)
  where
    by : Begins after given 2 4 3 s → (s ≡ pos 4) × (after ≡ None)
    by (inl b) = absurd (not b.1)
    by (inr (n, inl b)) = (b.0, n)
    by (inr (n, inr b)) = absurd (not b.1)

begins : (after : Option State) (s : ℤ) → Begins after worked.arrays 2 4 3 s
    → ((s ≡ pos 0) × MatchOption after ⊥ (λ x. x.run ≡ worked.begun)) ⊎ ((s ≡ pos 6) × (after ≡ None))
begins after s (inl b) = inl (b.0, b.2)
begins after s (inr (n, inl b)) = absurd (b.1 ((refl, refl), ((refl, refl), tt)))
begins after s (inr (n, inr b)) = inr (b.0, n)

not_small : (n : ℕ) → n ≡ 4294967296 → nat_lt n 4294967296 ≡ true → ⊥
not_small n e t = by (sym t ∙ ap (λ (m : ℕ). nat_lt m 4294967296) e)
  where
    by : true ≡ false → ⊥
    by q = cc

twice_false : true ≡ false → ⊥
twice_false q = cc

pub opening_is_worked_out : worked.OpeningIsWorkedOut
opening_is_worked_out = record {
  opens = λ after s h. begins after s (subst (λ (b : Bool). BeginsNamed b after worked.arrays 2 4 3 s) named h);
  held = λ x after s h. h;
  starts = λ after s h. h;
  paths = λ after s h. h;
  most = λ after s h. h;
  upper = refused_name (one (codes "A")) refl;
  words = refused_name (worked.array (codes "a") [] ∷ worked.array (codes "a b") [] ∷ []) unnamed_words;
  none = refused_name (one []) refl;
  reserved = refused_name (one (codes "end")) unnamed_end;
  long = refused_name (one (codes "abcdefghijklmnopq")) refl;
  same = refused_arrays thrice named_same (λ m. twice_false m.1.1.0.0);
  large = λ cells e. refused_arrays (with_large cells) (named_large cells) (λ m. not_small (length cells) e m.1.0.1);
}

module _ {A : Type 0} where
  -- what is told of a run
  tells : (of : RunValue → Option A) (x : State) (v : RunValue) (is : x.run ≡ v) (before after : A) (s : ℤ)
      → TellsOf of (Some x) before after s → Tells (of v) before after s
  tells of x v is before after s h = subst (λ (u : RunValue). Tells (of u) before after s) is h

-- what calls tell
abbrev cells_of : ℕ → RunValue → Option (List ℤ)
cells_of array v = option_map (λ a. a.1) (slice_get v.arrays array)

abbrev path_at : ℕ → RunValue → Option (List ℕ)
path_at task v = option_map (λ t. t.path) (slice_get v.tasks task)

abbrev origin_at : ℕ → RunValue → Option Origin
origin_at task v = option_map (λ t. t.kept) (slice_get v.tasks task)

abbrev fault_in : RunValue → Option (ℕ × List ℕ)
fault_in v = v.fault

abbrev print_at : ℕ → RunValue → Option (PrintReport × List ℕ)
print_at place v = option_map print_report (slice_get v.prints place)

abbrev record_at : ℕ → RunValue → Option RecordReport
record_at place v = option_map record_report (slice_get v.records place)

module _ {A B : Type 0} where
  firsts : (p q : A × B) → p ≡ q → p.0 ≡ q.0
  firsts p q e = λ i. (e i).0

  seconds : (p q : A × B) → p ≡ q → p.1 ≡ q.1
  seconds p q e = λ i. (e i).1

pub reads_are_worked_out : (x : State) (is : x.run ≡ worked.once) → worked.ReadsAreWorkedOut x is
reads_are_worked_out x is = record {
  look = λ after before seen s h. (h.0, h.2 ∙ ap look_at is, h.1);
  cells = λ before cells s h. tells (cells_of 0) x worked.once is before cells s h;
  no_array = λ before cells s h. tells (cells_of 2) x worked.once is before cells s h;
  path = λ before path s h. tells (path_at 2) x worked.once is before path s h;
  no_task = λ before path s h. tells (path_at 4) x worked.once is before path s h;
  stayed = λ after before origin s h. let t = tells (origin_at 0) x worked.once is before origin s h.1 in (t.0, t.1, h.0);
  spawned = λ after before origin s h. let t = tells (origin_at 3) x worked.once is before origin s h.1 in (t.0, t.1, h.0);
  no_origin = λ after before origin s h. let t = tells (origin_at 4) x worked.once is before origin s h.1 in (t.0, t.1, h.0);
  no_fault = λ code before path s h.
      let t = tells fault_in x worked.once is (code, before) (code, path) s h in (t.0, seconds (code, path) (code, before) t.1);
  print = λ before seen path_before path s h.
      let t = tells (print_at 2) x worked.once is (before, path_before) (seen, path) s h in
      (t.0, firsts (seen, path) (record { step = 0; value = pos 7 }, 1 ∷ []) t.1, seconds (seen, path) (record { step = 0; value = pos 7 }, 1 ∷ []) t.1);
  no_print = λ before seen path_before path s h.
      let t = tells (print_at 3) x worked.once is (before, path_before) (seen, path) s h in
      (t.0, firsts (seen, path) (before, path_before) t.1, seconds (seen, path) (before, path_before) t.1);
  record_of = λ after before seen s h. let t = tells (record_at 0) x worked.once is before seen s h.1 in (t.0, t.1, h.0);
  no_record = λ after before seen s h. let t = tells (record_at 1) x worked.once is before seen s h.1 in (t.0, t.1, h.0);
  report = λ after out bytes s h. going after out bytes s h.0 (going_text out bytes s h.1);
  freed = λ after s h. h;
}
  where
    going_text : (out : List ℕ) (bytes : ℕ) (s : ℤ) → ((s ≡ pos 6) × (bytes ≡ 0)) ⊎ GivesText (text_by x.run (ended x.run)) out bytes s
        → ((s ≡ pos 6) ⊎ (s ≡ pos 13)) × (bytes ≡ 0)
    going_text out bytes s (inl h) = (inl h.0, h.1)
    going_text out bytes s (inr h) =
        let t : GivesText None out bytes s = subst (λ (u : RunValue). GivesText (text_by u (ended u)) out bytes s) is h in (inr t.1, t.0)

    going : (after : Option State) (out : List ℕ) (bytes : ℕ) (s : ℤ) → after ≡ Some x → ((s ≡ pos 6) ⊎ (s ≡ pos 13)) × (bytes ≡ 0)
        → ((s ≡ pos 6) ⊎ (s ≡ pos 13)) × (bytes ≡ 0) × (after ≡ Some x)
    going after out bytes s a h = (h.0, h.1, a)

pub nothing_is_worked_out : worked.NothingIsWorkedOut
nothing_is_worked_out = record {
  close = λ after s h. h;
  look = λ after before seen s h. (h.0, h.2);
  cells = λ before cells s h. h;
  path = λ before path s h. h;
  origin = λ after before seen s h. h.1;
  fault = λ before code path_before path s h.
      (h.0, firsts (code, path) (before, path_before) h.1, seconds (code, path) (before, path_before) h.1);
  print = λ before seen path_before path s h.
      (h.0, firsts (seen, path) (before, path_before) h.1, seconds (seen, path) (before, path_before) h.1);
  record_of = λ after before seen s h. h.1;
  report = λ after out bytes s h. (h.2, h.1);
  freed = λ after s h. h;
}

-- the text of the report
written : text_by worked.limited (ended worked.limited) ≡ Some worked.text
unfolding fmt.digits
written = refl

take_all : (xs : List ℕ) (n : ℕ) → length xs ≡ n → take n xs ≡ xs
take_all [] zero e = refl
take_all [] (suc n) e = refl
take_all (x ∷ xs) zero e = absurd (omega (arith, e))
take_all (x ∷ xs) (suc n) e = ap (λ (ys : List ℕ). x ∷ ys) (take_all xs n (omega (arith, e)))

module _ (x : State) (is : x.run ≡ worked.limited) where
  told : (out : List ℕ) (bytes : ℕ) (s : ℤ) → ((s ≡ pos 6) × (bytes ≡ 0)) ⊎ GivesText (text_by x.run (ended x.run)) out bytes s
      → ((s ≡ pos 6) × (bytes ≡ 0)) ⊎ IsGiven worked.text out bytes s
  told out bytes s (inl h) = inl h
  told out bytes s (inr h) =
      inr (subst (λ (t : Option (List ℕ)). GivesText t out bytes s) (ap (λ (u : RunValue). text_by u (ended u)) is ∙ written) h)

  room : (out : List ℕ) (bytes : ℕ) (s : ℤ) → length out ≡ length worked.text
      → ((s ≡ pos 6) × (bytes ≡ 0)) ⊎ IsGiven worked.text out bytes s
      → ((s ≡ pos 6) × (bytes ≡ 0)) ⊎ ((s ≡ pos 0) × (bytes ≡ length worked.text) × (out ≡ worked.text))
  room out bytes s e (inl h) = inl h
  room out bytes s e (inr h) =
      let f = h.fits (omega (arith, e)) in
      inr (f.0, h.reported, sym (take_all out (length worked.text) e) ∙ f.1)

  short : (out : List ℕ) (bytes : ℕ) (s : ℤ) → length out ≡ 0
      → ((s ≡ pos 6) × (bytes ≡ 0)) ⊎ IsGiven worked.text out bytes s
      → ((s ≡ pos 6) × (bytes ≡ 0)) ⊎ ((s ≡ pos 10) × (bytes ≡ length worked.text))
  short out bytes s e (inl h) = inl h
  short out bytes s e (inr h) = inr (h.short (omega (arith, e)), h.reported)

  pub report_is_worked_out : worked.ReportIsWorkedOut x is
  report_is_worked_out = record {
    room = λ after out bytes s h e. room out bytes s e (told out bytes s h.1);
    short = λ after out bytes s h e. short out bytes s e (told out bytes s h.1);
  }
