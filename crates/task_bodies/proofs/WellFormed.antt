-- What a task leaves whose body left something is well formed.
use Rattle.std.proofs.Common.{◌≡◌, ℕ, suc, ◌+◌, List, [], ◌∷◌, ◌++◌, map, length, Option, Some, None, refl, sym, ap, ◌∙◌}
use Rattle.std.specs.Prelude.{ℤ}
use Rattle.programs.specs.Meaning.{Segment, Synced, Stopped, Faulted, IsFormed, children}
use Rattle.task_bodies.specs.declared.body.Ending.{Ending}
use Rattle.task_bodies.specs.declared.body.Ending.TheVariants as ending
use Rattle.task_bodies.specs.Bodies.{Left, MemberValue, path_of, member_frame, numbered, faulted, went, refused, limited, framed_by, framed, BodyMay, body_does}

module _ {K : Type 0} where
  pub numbered_count : (path : List ℕ) (n : ℕ) (ks : List K) → length (numbered path n ks) ≡ length ks
  numbered_count path n [] = refl
  numbered_count path n (k ∷ ks) = ap suc (numbered_count path (suc n) ks)

  pub numbered_paths : (path : List ℕ) (n : ℕ) (ks : List K)
      → map path_of (numbered path n ks) ≡ children path n (length (numbered path n ks))
  numbered_paths path n [] = refl
  numbered_paths path n (k ∷ ks) = ap (λ (ps : List (List ℕ)). (path ++ n ∷ []) ∷ ps) (numbered_paths path (suc n) ks)

  faulted_formed : (t : MemberValue K) (code : ℕ) → IsFormed member_frame t (faulted code)
  faulted_formed t code = record { numbered = refl; same = λ u e. absurd (not_synced u e) }
    where
      not_synced : (u : MemberValue K) → Faulted code ≡ Synced u → ⊥
      not_synced u e = cc

  stopped_formed : (t : MemberValue K) (o : Left K) (r : Option ℕ) → IsFormed member_frame t (limited t o Stopped r)
  stopped_formed t o (Some code) = faulted_formed t code
  stopped_formed t o None = record { numbered = numbered_paths t.path t.begun o.spawns; same = λ u e. absurd (not_synced u e) }
    where
      not_synced : (u : MemberValue K) → Stopped ≡ Synced u → ⊥
      not_synced u e = cc

  synced_formed : (t : MemberValue K) (o : Left K) (r : Option ℕ)
      → IsFormed member_frame t (limited t o (Synced (went t (length o.spawns) o.kept)) r)
  synced_formed t o (Some code) = faulted_formed t code
  synced_formed t o None = record { numbered = numbered_paths t.path t.begun o.spawns; same = λ u e. same u (went_is u e) }
    where
      went_is : (u : MemberValue K) → Synced (went t (length o.spawns) o.kept) ≡ Synced u → went t (length o.spawns) o.kept ≡ u
      went_is u e = cc

      same : (u : MemberValue K) → went t (length o.spawns) o.kept ≡ u
          → (u.path ≡ t.path) × (u.begun ≡ t.begun + length (numbered t.path t.begun o.spawns))
      same u e =
          let n = numbered_count t.path t.begun o.spawns in
          (sym (ap (λ (x : MemberValue K). x.path) e), sym (ap (λ (x : MemberValue K). x.begun) e) ∙ ap (λ (k : ℕ). t.begun + k) (sym n))

  pub framed_formed : (arrays : List (List ℕ × List ℤ)) (t : MemberValue K) (o : Left K) → IsFormed member_frame t (framed arrays t o)
  framed_formed arrays t o = by o.ending
    where
      by : (e : Ending) → IsFormed member_frame t (framed_by arrays t o e)
      by (ending.Fails code) = faulted_formed t code
      by ending.Stops = stopped_formed t o (refused arrays t.path t.begun o.puts (length o.spawns))
      by ending.Syncs = synced_formed t o (refused arrays t.path t.begun o.puts (length o.spawns))

  -- a body that may leave one thing alone makes its task leave one thing alone
  pub only_one : (may : List ℕ → List (List ℕ × List ℤ) → ℕ → K → Left K → Type 0) (does : List ℕ → List (List ℕ × List ℤ) → ℕ → K → Left K)
      → ((path : List ℕ) (arrays : List (List ℕ × List ℤ)) (step : ℕ) (k : K) (o : Left K) → may path arrays step k o
      → o ≡ does path arrays step k)
      → (t : MemberValue K) (arrays : List (List ℕ × List ℤ)) (step : ℕ) (g : Segment (MemberValue K)) → BodyMay may t arrays step g
      → g ≡ body_does does t arrays step
  only_one may does exact t arrays step g h = h.is ∙ ap (framed arrays t) (exact t.path arrays step t.kept h.left h.allowed)
