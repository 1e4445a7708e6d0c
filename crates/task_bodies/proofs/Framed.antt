-- What a task leaves whose body left something.
use Rattle.std.proofs.Common.{◌≡◌, ℕ, zero, suc, ◌+◌, ◌≤◌, ◌<◌, Bool, true, false, nat_le, nat_lt, List, [], ◌∷◌, ◌++◌, map, length, reverse, Option, Some, None, refl, sym, ap, ◌∙◌, subst, arith, append_assoc}
use Rattle.std.specs.Prelude.{ℤ, Result, Ok, Err, IfOk}
use Rattle.std.proofs.lemmas.Bool.Decides.{nat_tests}
use Rattle.std.proofs.lemmas.List.{reverse-append}
use Rattle.programs.specs.declared.work.Work.{Work}
use Rattle.programs.specs.declared.work.SegmentEnd.{SegmentEnd as Ended}
use Rattle.programs.specs.declared.work.SegmentEnd.TheVariants as ended
use Rattle.programs.specs.Meaning.{After, Synced, Stopped}
use Rattle.programs.specs.Lent.{IsLeft}
use Rattle.task_bodies.specs.declared.body.Ending.{Ending}
use Rattle.task_bodies.specs.declared.body.Ending.TheVariants as ending
use Rattle.task_bodies.specs.Bodies.{OutValue, MemberValue, path_of, numbered, went, when, refused_spawns, refused, limited, framed, left_so}
use Rattle.task_bodies.specs.Settled.{IsSettled}

pub if_ok : {V E : Type 0} (r : Result V E) (p q : V → Type 0) → IfOk r p → ((v : V) → p v → q v) → IfOk r q
if_ok (Ok v) p q h to = to v h
if_ok (Err e) p q h to = h

-- spawned tasks that are not refused can be numbered
pub spawns_fit : (path : List ℕ) (begun n : ℕ) → refused_spawns path begun n ≡ None → 0 < n → (length path ≤ 7) × (begun + n ≤ 65535)
spawns_fit path begun zero h lt = absurd (omega (arith, lt))
spawns_fit path begun (suc n) h lt = by (nat_le 8 (length path)) (nat_lt 65535 (begun + suc n)) refl refl h
  where
    by : (a b : Bool) → nat_le 8 (length path) ≡ a → nat_lt 65535 (begun + suc n) ≡ b → when a 5 (when b 6 None) ≡ None
        → (length path ≤ 7) × (begun + suc n ≤ 65535)
    by true b ea eb k = cc
    by false true ea eb k = cc
    by false false ea eb k = (grind (arith, nat_tests), grind (arith, nat_tests))

module _ {K : Type 0} where
  pub same_of : (ts : List (MemberValue K)) → map (λ t. t) ts ≡ ts
  same_of [] = refl
  same_of (t ∷ ts) = ap (λ us. t ∷ us) (same_of ts)

  -- one more is numbered
  pub number_next : (path : List ℕ) (n next : ℕ) (out more : List (MemberValue K)) (spawns new : List K) (k : K)
      (all : List (MemberValue K))
      → spawns ≡ new ++ k ∷ [] → next ≡ n + 1 → more ≡ out ++ record { path = path ++ n ∷ []; begun = 0; kept = k } ∷ []
      → out ++ numbered path n (reverse spawns) ≡ all → more ++ numbered path next (reverse new) ≡ all
  number_next path n next out more spawns new k all e en em h =
      let up : n + 1 ≡ suc n = omega arith in
      (λ i. em i ++ numbered path ((en ∙ up) i) (reverse new))
      ∙ append_assoc out (record { path = path ++ n ∷ []; begun = 0; kept = k } ∷ []) (numbered path (suc n) (reverse new))
      ∙ ap (λ (xs : List K). out ++ numbered path n xs) (sym (ap reverse e ∙ reverse-append new (k ∷ [])))
      ∙ h

  -- nothing spawned
  pub none_numbered : (path : List ℕ) (n : ℕ) (ks : List K) → length ks ≡ 0 → [] ≡ numbered path n ks
  none_numbered path n [] e = refl
  none_numbered path n (k ∷ ks) e = absurd (omega arith)

  -- the body failed
  pub left_fail : (arrays : List (List ℕ × List ℤ)) (t u : MemberValue K) (k : K) (o : OutValue K) (e : Ending) (code : ℕ)
      (old new : Work (MemberValue K))
      → e ≡ ending.Fails code → u.path ≡ t.path → IsLeft (λ x. x) path_of (ended.Fails code) t u old new (framed arrays t (left_so e k o))
  left_fail arrays t u k o e code old new is p = (ap (λ (x : Ending). (framed arrays t (left_so x k o)).after) is, p)

  -- the body stopped
  pub left_stop : (arrays : List (List ℕ × List ℤ)) (t m u : MemberValue K) (k : K) (o : OutValue K) (e : Ending) (d : Ended)
      (old mid new : Work (MemberValue K))
      → e ≡ ending.Stops → m.path ≡ t.path → m.begun ≡ t.begun → mid.puts ≡ old.puts
      → IsSettled (refused arrays m.path m.begun o.puts (length o.spawns)) m u o mid new ended.Stops d
      → IsLeft (λ x. x) path_of d t u old new (framed arrays t (left_so e k o))
  left_stop arrays t m u k o e d old mid new is ep eb puts h =
      subst (λ (x : Ending). IsLeft (λ y. y) path_of d t u old new (framed arrays t (left_so x k o))) (sym is)
      (by (refused arrays t.path t.begun o.puts (length o.spawns)) (subst (λ (r : Option ℕ). IsSettled r m u o mid new ended.Stops d) (λ i. refused arrays (ep i) (eb i) o.puts (length o.spawns)) h))
    where
      by : (r : Option ℕ) → IsSettled r m u o mid new ended.Stops d
          → IsLeft (λ y. y) path_of d t u old new (limited t (left_so ending.Stops k o) Stopped r)
      by (Some code) s =
          subst (λ (x : Ended). IsLeft (λ y. y) path_of x t u old new (limited t (left_so ending.Stops k o) Stopped (Some code))) (sym s.0)
          (refl, ap path_of s.1 ∙ ep)
      by None s =
          subst (λ (x : Ended). IsLeft (λ y. y) path_of x t u old new (limited t (left_so ending.Stops k o) Stopped None)) (sym s.0) (
            record {
              puts = s.1.puts ∙ ap (λ ps. ps ++ o.puts) puts;
              prints = s.1.prints;
              spawns = same_of new.spawns.items ∙ s.1.spawns ∙ (λ i. numbered (ep i) (eb i) o.spawns);
            },
            refl,
            ap path_of s.1.task ∙ ep,
          )

  -- the body goes on
  pub left_sync : (arrays : List (List ℕ × List ℤ)) (t m u : MemberValue K) (k : K) (o : OutValue K) (e : Ending) (d : Ended)
      (old mid new : Work (MemberValue K))
      → e ≡ ending.Syncs → m.path ≡ t.path → m.begun ≡ t.begun → m.kept ≡ k → mid.puts ≡ old.puts
      → IsSettled (refused arrays m.path m.begun o.puts (length o.spawns)) m u o mid new ended.Stays d
      → IsLeft (λ x. x) path_of d t u old new (framed arrays t (left_so e k o))
  left_sync arrays t m u k o e d old mid new is ep eb ek puts h =
      subst (λ (x : Ending). IsLeft (λ y. y) path_of d t u old new (framed arrays t (left_so x k o))) (sym is)
      (by (refused arrays t.path t.begun o.puts (length o.spawns)) (subst (λ (r : Option ℕ). IsSettled r m u o mid new ended.Stays d) (λ i. refused arrays (ep i) (eb i) o.puts (length o.spawns)) h))
    where
      after : After (MemberValue K)
      after = Synced (went t (length o.spawns) k)

      by : (r : Option ℕ) → IsSettled r m u o mid new ended.Stays d
          → IsLeft (λ y. y) path_of d t u old new (limited t (left_so ending.Syncs k o) after r)
      by (Some code) s =
          subst (λ (x : Ended). IsLeft (λ y. y) path_of x t u old new (limited t (left_so ending.Syncs k o) after (Some code))) (sym s.0)
          (refl, ap path_of s.1 ∙ ep)
      by None s = subst (λ (x : Ended). IsLeft (λ y. y) path_of x t u old new (limited t (left_so ending.Syncs k o) after None)) (sym s.0) (
        record {
          puts = s.1.puts ∙ ap (λ ps. ps ++ o.puts) puts;
          prints = s.1.prints;
          spawns = same_of new.spawns.items ∙ s.1.spawns ∙ (λ i. numbered (ep i) (eb i) o.spawns);
        },
        ap Synced (λ i. went (record { path = sym ep i; begun = sym eb i; kept = sym ek i }) (length o.spawns) (sym ek i))
            ∙ ap Synced (sym s.1.task),
        ap path_of s.1.task ∙ ep,
      )
