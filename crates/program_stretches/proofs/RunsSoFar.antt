-- A run by stretches, from one call to the next.
use Rattle.std.proofs.Common.{◌≡◌, ℕ, zero, suc, ◌+◌, ◌≤◌, ◌<◌, List, [], ◌∷◌, ◌++◌, length, map, Option, Some, None, refl, sym, ap, ◌∙◌, subst, inl, inr, ⊎_elim, append-nil, slice_get, arith, length-append}
use Rattle.std.proofs.lemmas.List.{length-map}
use Rattle.programs.specs.Meaning.{children}
use Rattle.programs.specs.Supersteps.{so_far, status, status_of}
use Rattle.programs.specs.History.{says_by}
use Rattle.programs.specs.Superstep.{State}
use Rattle.programs.proofs.Histories.{so_far_more}
use Rattle.program_stretches.specs.PartValue.{PartValue}
use Rattle.program_stretches.specs.Parts.{Reading, IsPartOf, IsOwn, AreOwn, AreFresh}
use Rattle.program_stretches.specs.SuperstepStart.{SuperstepStartValue, live_of, states_by, Opens, AllOpen}
use Rattle.program_stretches.specs.Reached.{with_earlier}
use Rattle.program_stretches.specs.Did.{IsStep}
use Rattle.program_stretches.specs.StretchesValue.{StretchesValue, StretchValue, state_with, status_for, status_in, with_slot, IsAfter, IsOpen, IsStretch, IsRunSoFar}
use Rattle.program_stretches.proofs.Owning.{fresh_own, own_set, some_there}
use Rattle.program_stretches.proofs.Taken.{reached_next}

-- the starts are those of any run with the same states
pub same_states : {Q S T : Type 0} (meant : S → T) (log : List (SuperstepStartValue Q S)) (states next : ℕ → State T)
    → ((n : ℕ) → n < length log → next n ≡ states n) → AllOpen meant log states → AllOpen meant log next
same_states meant [] states next same h = tt
same_states meant (o ∷ older) states next same h = (
  subst (Opens meant o (length older)) (sym (same (length older) (omega arith))) h.0,
  same_states meant older states next (λ n lt. same n (omega (arith, lt))) h.1,
)

module _ {Q S T : Type 0} (m : Q → Reading S T) where
  -- before the first superstep
  pub run_begun : (v : StretchesValue Q S) (o : SuperstepStartValue Q S) → v.log ≡ o ∷ [] → v.program ≡ o.program → v.most ≡ o.most
      → v.limit ≡ o.limit → v.arrays ≡ o.arrays → v.parts ≡ o.parts → AreFresh 0 o.parts
      → map (m v.program).path (live_of o) ≡ children [] 0 (length (live_of o)) → v.count ≡ length (live_of o) → length (live_of o) ≤ v.most
      → v.step ≡ 0 → v.prints ≡ [] → v.records ≡ [] → v.fault ≡ None → v.given ≡ 0 → IsRunSoFar m v
  run_begun v o log program most limit arrays parts fresh paths count few es ep er ef eg =
      let q = v.program in
      let live = map (m q).meant (live_of o) in
      let l = length-map (live_of o) (m q).meant in
      record {
        live = live;
        after = record {
          begun = record { first = o; since = []; is = log; program = program; most = most; limit = limit; paths = paths };
          reached = record {
            history = [];
            entered = λ n lt. absurd (omega (arith, lt));
            within = omega (arith, eg);
            count = λ none. sym es;
            state =
                λ i. with_earlier (so_far (says_by (m q).frame v.most []) o.arrays live v.limit (eg i))
                (record { step = es i; arrays = arrays i; live = live; prints = ep i; records = er i; fault = ef i });
          };
          all_open =
              subst (λ (os : List (SuperstepStartValue Q S)). AllOpen (m q).meant os (states_by (m q) v.most [] o v.limit)) (sym log)
              (record { step = refl; arrays = refl; live = refl }, tt);
          as_long = omega arith;
          count = count ∙ sym l;
          few = omega (arith, l, few);
        };
        opened = inr (record {
          start = o;
          older = [];
          is = log;
          count = ap length log ∙ ap (λ (n : ℕ). n + 1) (sym es);
          program = program;
          arrays = arrays;
          lives = refl;
          own = subst (λ ss. AreOwn (m q) v.arrays (live_of o) v.step ss) (sym parts) (fresh_own (m q) v.arrays v.step o.parts fresh);
        });
      }

  -- what the status says of the live tasks
  status_same : (limit step : ℕ) (fault : Option (ℕ × List ℕ)) (count : ℕ) (live : List T) → count ≡ length live
      → status_of limit step fault live ≡ status_for limit step fault count
  status_same limit step (Some f) count live e = refl
  status_same limit step None zero [] e = refl
  status_same limit step None zero (t ∷ live) e = absurd (omega arith)
  status_same limit step None (suc n) [] e = absurd (omega arith)
  status_same limit step None (suc n) (t ∷ live) e = refl

  pub status_is : (v : StretchesValue Q S) (live : List T) → v.count ≡ length live → status v.limit (state_with v live) ≡ status_in v
  status_is v live e = status_same v.limit v.step v.fault v.count live e

  -- a run that goes on has no fault
  pub unfaulted : (v : StretchesValue Q S) → status_in v ≡ None → v.fault ≡ None
  unfaulted v run = by v.fault run
    where
      by : (f : Option (ℕ × List ℕ)) → status_for v.limit v.step f v.count ≡ None → f ≡ None
      by None e = refl
      by (Some f) e = cc

  -- one superstep more
  pub after_next : (v w : StretchesValue Q S) (live next : List T)
      → ((t : S) → (m v.program).frame.path ((m v.program).meant t) ≡ (m v.program).path t) → (h : IsAfter m v live) → status_in v ≡ None
      → length v.log ≡ v.step + 1
      → IsStep (m v.program).frame (m v.program).may v.most (state_with v live) (state_with w next)
      → w.log ≡ v.log → w.program ≡ v.program → w.most ≡ v.most → w.limit ≡ v.limit → w.given ≡ v.given → w.count ≡ length next
      → length next ≤ w.most → IsAfter m w next
  after_next v w live next law h run long s log program most limit given count few =
      let first = h.begun.first in
      let r = h.reached in
      let k = r.count (unfaulted v run) in
      let es = s.entries in
      let l = length-append r.history (es ∷ []) in
      subst (λ (x : StretchesValue Q S). IsAfter m x next)
      (λ i. record w { log = sym log i; program = sym program i; most = sym most i; limit = sym limit i; given = sym given i })
      (record {
        begun =
            record {
              first = first;
              since = h.begun.since;
              is = h.begun.is;
              program = h.begun.program;
              most = h.begun.most;
              limit = h.begun.limit;
              paths = h.begun.paths;
            };
        reached =
            reached_next (m v.program) law v.most first.arrays (map (m v.program).meant (live_of first)) v.limit v.given (state_with v live)
            (state_with w next) r (status_is v live h.count ∙ run) s;
        all_open =
            same_states (m v.program).meant v.log (states_by (m v.program) v.most r.history first v.limit)
            (states_by (m v.program) v.most (r.history ++ es ∷ []) first v.limit)
            (λ n lt. so_far_more (m v.program).frame v.most r.history (es ∷ []) first.arrays (map (m v.program).meant (live_of first)) v.limit n (omega (arith, lt, k, long)))
            h.all_open;
        as_long = omega (arith, l, k, long);
        count = count;
        few = subst (λ (n : ℕ). length next ≤ n) most few;
      })

  -- the next superstep is opened
  pub run_opened : (v w : StretchesValue Q S) (o : SuperstepStartValue Q S) → (h : IsAfter m v (map (m v.program).meant (live_of o)))
      → v.fault ≡ None → length v.log ≡ v.step → AreFresh 0 o.parts → o.program ≡ v.program → o.arrays ≡ v.arrays
      → w ≡ record v { log = o ∷ v.log; parts = o.parts } → IsRunSoFar m w
  run_opened v w o h calm count fresh program arrays is =
      let q = v.program in
      let r = h.reached in
      let k = r.count calm in
      let states = states_by (m q) v.most r.history h.begun.first v.limit in
      let now : states (length v.log) ≡ with_earlier (states v.given) (state_with v (map (m q).meant (live_of o))) =
      ap states (count ∙ sym k) ∙ sym r.state in
      let opened : StretchesValue Q S = record v { log = o ∷ v.log; parts = o.parts } in
      subst (IsRunSoFar m) (sym is) (record {
        live = map (m q).meant (live_of o);
        after = record {
          begun = record {
            first = h.begun.first;
            since = o ∷ h.begun.since;
            is = ap (λ (l : List (SuperstepStartValue Q S)). o ∷ l) h.begun.is;
            program = h.begun.program;
            most = h.begun.most;
            limit = h.begun.limit;
            paths = h.begun.paths;
          };
          reached = r;
          all_open = (
            record {
              step = ap (λ (x : State T). x.step) now ∙ sym count;
              arrays = ap (λ (x : State T). x.arrays) now ∙ sym arrays;
              live = ap (λ (x : State T). x.live) now;
            },
            h.all_open,
          );
          as_long = omega (arith, k, count);
          count = h.count;
          few = h.few;
        };
        opened = inr (record {
          start = o;
          older = v.log;
          is = refl;
          count = ap suc count ∙ (let e : suc v.step ≡ v.step + 1 = omega arith in e);
          program = sym program;
          arrays = sym arrays;
          lives = refl;
          own = fresh_own (m q) v.arrays v.step o.parts fresh;
        });
      })

  -- what was printed and recorded is given away
  pub run_given : (v w : StretchesValue Q S) → IsRunSoFar m v → v.fault ≡ None → w ≡ record v { prints = []; records = []; given = v.step }
      → IsRunSoFar m w
  run_given v w h none is =
      let q = v.program in
      let r = h.after.reached in
      let b = h.after.begun in
      let says = says_by (m q).frame v.most r.history in
      let tasks = map (m q).meant (live_of b.first) in
      let last = so_far says b.first.arrays tasks v.limit (length r.history) in
      let k : length r.history ≡ v.step = r.count none in
      let e = r.state in
      let bare : State T = record { step = v.step; arrays = v.arrays; live = h.live; prints = []; records = []; fault = v.fault } in
      subst (IsRunSoFar m) (sym is) (record {
        live = h.live;
        after = record {
          begun =
              record { first = b.first; since = b.since; is = b.is; program = b.program; most = b.most; limit = b.limit; paths = b.paths };
          reached = record {
            history = r.history;
            entered = r.entered;
            within = omega (arith, k);
            count = r.count;
            state =
                ap (λ (n : ℕ). with_earlier (so_far says b.first.arrays tasks v.limit n) bare) (sym k)
                ∙ (λ i. record { step = (e i).step; arrays = (e i).arrays; live = (e i).live; prints = append-nil last.prints i; records = append-nil last.records i; fault = (e i).fault });
          };
          all_open = h.after.all_open;
          as_long = h.after.as_long;
          count = h.after.count;
          few = h.after.few;
        };
        opened = ⊎_elim inl
            (λ o. inr (record { start = o.start; older = o.older; is = o.is; count = o.count; program = o.program; arrays = o.arrays; lives = o.lives; own = o.own }))
            h.opened;
      })

  -- two logs of one name, as long as each other, are the same
  pub same_log : (earlier log since : List (SuperstepStartValue Q S)) → log ≡ since ++ earlier → length earlier ≡ length log → log ≡ earlier
  same_log earlier log [] e l = e
  same_log earlier log (x ∷ since) e l = let n = ap length e in let k = length-append since earlier in absurd (omega (arith, n, k, l))

  -- the last of a log
  pub last_same : (since more : List (SuperstepStartValue Q S)) (a b : SuperstepStartValue Q S) → since ++ a ∷ [] ≡ more ++ b ∷ [] → a ≡ b
  last_same since more a b e = sym (last_of a since a) ∙ ap (last a) e ∙ last_of a more b
    where
      last : SuperstepStartValue Q S → List (SuperstepStartValue Q S) → SuperstepStartValue Q S
      last d [] = d
      last d (x ∷ xs) = last x xs

      last_of : (d : SuperstepStartValue Q S) → (xs : List (SuperstepStartValue Q S)) (y : SuperstepStartValue Q S)
          → last d (xs ++ y ∷ []) ≡ y
      last_of d [] y = refl
      last_of d (x ∷ xs) y = last_of x xs y

  -- where there is a stretch, or was one, the superstep is opened
  pub is_open : (v : StretchesValue Q S) (h : IsRunSoFar m v) (k : ℕ) (s : Option (PartValue S)) → slice_get v.parts k ≡ Some s
      → IsOpen m v h.live
  is_open v h k s e = ⊎_elim (λ n. absurd (some_there v.parts k s e n)) (λ o. o) h.opened

  -- one stretch is changed
  pub run_slot : (v : StretchesValue Q S) (k : ℕ) (s : Option (PartValue S)) (h : IsRunSoFar m v) (o : IsOpen m v h.live)
      → IsOwn (m v.program) v.arrays (live_of o.start) v.step s → IsRunSoFar m (with_slot v k s)
  run_slot v k s h o own = record {
    live = h.live;
    after = record {
      begun =
          record {
            first = h.after.begun.first;
            since = h.after.begun.since;
            is = h.after.begun.is;
            program = h.after.begun.program;
            most = h.after.begun.most;
            limit = h.after.begun.limit;
            paths = h.after.begun.paths;
          };
      reached = h.after.reached;
      all_open = h.after.all_open;
      as_long = h.after.as_long;
      count = h.after.count;
      few = h.after.few;
    };
    opened = inr (record {
      start = o.start;
      older = o.older;
      is = o.is;
      count = o.count;
      program = o.program;
      arrays = o.arrays;
      lives = o.lives;
      own = own_set (m v.program) v.arrays (live_of o.start) v.step v.parts k s o.own own;
    });
  }

  head_same : (a b : SuperstepStartValue Q S) (xs ys : List (SuperstepStartValue Q S)) → a ∷ xs ≡ b ∷ ys → a ≡ b
  head_same a b xs ys e = ap (first a) e
    where
      first : SuperstepStartValue Q S → List (SuperstepStartValue Q S) → SuperstepStartValue Q S
      first d [] = d
      first d (x ∷ xs) = x

  -- a stretch that comes back is of the live tasks
  pub own_back : (ready : Q → Type 0) (v : StretchesValue Q S) (h : IsRunSoFar m v) (o : IsOpen m v h.live) (s : StretchValue Q S)
      (k : IsStretch m ready s) (since : List (SuperstepStartValue Q S))
      → v.log ≡ since ++ s.log → s.step ≡ v.step → IsPartOf (m v.program) v.arrays (live_of o.start) v.step s.part
  own_back ready v h o s k since e step =
      let a = k.count in
      let b = o.count in
      let logs = same_log s.log v.log since e (omega (arith, a, b, step)) in
      let start = head_same k.start o.start k.older o.older (sym k.is ∙ sym logs ∙ o.is) in
      let program = k.program ∙ ap (λ (x : SuperstepStartValue Q S). x.program) start ∙ sym o.program in
      let arrays = k.arrays ∙ ap (λ (x : SuperstepStartValue Q S). x.arrays) start ∙ sym o.arrays in
      subst (λ (q : Q). IsPartOf (m q) v.arrays (live_of o.start) v.step s.part) program
      (subst (λ xs. IsPartOf (m s.program) xs (live_of o.start) v.step s.part) arrays
      (subst (λ (x : SuperstepStartValue Q S). IsPartOf (m s.program) s.arrays (live_of x) v.step s.part) start
      (subst (λ (n : ℕ). IsPartOf (m s.program) s.arrays (live_of k.start) n s.part) step k.part)))
