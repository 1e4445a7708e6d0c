-- What a step that changes one view makes of the image: a step without a label, a join, an arrival and a departure.
use Rattle.std.proofs.Common.{◌≡◌, ℕ, suc, ◌+◌, ◌-◌, ◌<◌, ◌≤◌, ⊎_elim, Bool, true, false, cond, eqb, List, [], ◌∷◌, ◌++◌, length, refl, sym, ◌∙◌, ap, arith}
use Rattle.std.specs.Prelude.{◌&&◌}
use Rattle.std.proofs.lemmas.Bool.{eq-eqb}
use Rattle.tier_steps.specs.Word.{Fields}
use Rattle.tier_steps.specs.View.{View}
use Rattle.tier_steps.specs.Tally.{word_at, root_phase}
use Rattle.tier_steps.proofs.Parts.{AlikeParts}
use Rattle.tier_steps.proofs.Members.{token_counts, token_arrived, count_changes, mark_members, mark_arrived, drop_members, drop_arrived}
use Rattle.flat_phaser.specs.declared.FlatStep.TheVariants as flat
use Rattle.flat_phaser.specs.declared.Member.{Member}
use Rattle.flat_phaser.specs.Flat.{Flat, has_arrived, is_owned, members_of, arrived_of, everyone_arrived}
use Rattle.flat_phaser.specs.Step.{taken}
use Rattle.flat_phaser.proofs.Counts.{count_append, arrived_le, newcomers_members, newcomers_arrived}
use Rattle.flat_phaser.proofs.Everyone.{either, everyone_each, same_everyone}
use Rattle.tier_steps.specs.Image.{token_members, all_members, some_climbing, image}

-- how many members of a token have arrived in this phase
abbrev pub here : ℕ → View → ℕ
here p v = cond {A = ℕ} (eqb v.phase p) v.arrived 0

pub members_change : (front back : List View) (v v' : View) (u : ℕ) → v.arrived ≤ v.size → v'.arrived ≤ v'.size
    → members_of u (all_members 0 (front ++ v' ∷ back)) + cond {A = ℕ} (eqb (length front) u) v.size 0 ≡ members_of u
    (all_members 0 (front ++ v ∷ back)) + cond {A = ℕ} (eqb (length front) u) v'.size 0
members_change front back v v' u h k =
    let a = count_changes (is_owned u) 0 front back v v' in
    let b = token_counts u (length front) v h in let c = token_counts u (length front) v' k in
    let d : members_of u (token_members (0 + length front) v) ≡ members_of u (token_members (length front) v) =
    ap (λ i. members_of u (token_members i v)) (omega arith) in
    let e : members_of u (token_members (0 + length front) v') ≡ members_of u (token_members (length front) v') =
    ap (λ i. members_of u (token_members i v')) (omega arith) in
    omega arith

pub arrived_change : (p : ℕ) (front back : List View) (v v' : View) (u : ℕ)
    → arrived_of p u (all_members 0 (front ++ v' ∷ back)) + cond {A = ℕ} (eqb (length front) u) (here p v) 0 ≡ arrived_of p u
    (all_members 0 (front ++ v ∷ back)) + cond {A = ℕ} (eqb (length front) u) (here p v') 0
arrived_change p front back v v' u =
    let a = count_changes (λ x. is_owned u x && has_arrived p x) 0 front back v v' in
    let b = token_arrived p u (length front) v in let c = token_arrived p u (length front) v' in
    let d : arrived_of p u (token_members (0 + length front) v) ≡ arrived_of p u (token_members (length front) v) =
    ap (λ i. arrived_of p u (token_members i v)) (omega arith) in
    let e : arrived_of p u (token_members (0 + length front) v') ≡ arrived_of p u (token_members (length front) v') =
    ap (λ i. arrived_of p u (token_members i v')) (omega arith) in
    omega arith

-- the token's members among all
pub has_members : (p : ℕ) (o : ℕ) (front back : List View) (v : View) (u : ℕ) → u ≡ o + length front → v.arrived ≤ v.size
    → here p v < v.size → arrived_of p u (all_members o (front ++ v ∷ back)) < members_of u (all_members o (front ++ v ∷ back))
has_members p o [] back v u e h k =
    let a = count_append (is_owned u) (token_members o v) (all_members (suc o) back) in
    let b = count_append (λ x. is_owned u x && has_arrived p x) (token_members o v) (all_members (suc o) back) in
    let c = token_counts u o v h in let d = token_arrived p u o v in
    let same : eqb o u ≡ true = eq-eqb o u (omega arith) in
    let f : cond {A = ℕ} (eqb o u) v.size 0 ≡ v.size = ap (λ x. cond {A = ℕ} x v.size 0) same in
    let g : cond {A = ℕ} (eqb o u) (here p v) 0 ≡ here p v = ap (λ x. cond {A = ℕ} x (here p v) 0) same in
    let i = arrived_le p u (all_members (suc o) back) in omega arith
has_members p o (x ∷ front) back v u e h k =
    let a = count_append (is_owned u) (token_members o x) (all_members (suc o) (front ++ v ∷ back)) in
    let b = count_append (λ y. is_owned u y && has_arrived p y) (token_members o x) (all_members (suc o) (front ++ v ∷ back)) in
    let c = has_members p (suc o) front back v u (omega arith) h k in
    let i = arrived_le p u (token_members o x) in omega arith

-- the due mark of an image, if the root hasn't ended
pub due_is : (ws : List Fields) (vs : List View) → (word_at ws 0).ended ≡ false
    → (image ws vs).due ≡ everyone_arrived (root_phase ws) (all_members 0 vs) && some_climbing vs
due_is ws vs e = ap (λ b. cond b false (everyone_arrived (root_phase ws) (all_members 0 vs) && some_climbing vs)) e

and_same : (a b c d : Bool) → a ≡ b → (b ≡ true → c ≡ d) → a && c ≡ b && d
and_same a true c d e h = ap (λ x. x && c) e ∙ h refl
and_same a false c d e h = ap (λ x. x && c) e

-- a step without a label
pub silent : (ws ws' : List Fields) (front back : List View) (v v' : View) (f : Flat) → AlikeParts f (image ws (front ++ v ∷ back))
    → v.arrived ≤ v.size → v'.arrived ≤ v'.size → root_phase ws' ≡ root_phase ws → (word_at ws' 0).ended ≡ (word_at ws 0).ended
    → ((word_at ws 0).ended ≡ false → (v'.size ≡ v.size) × (here (root_phase ws) v' ≡ here (root_phase ws) v))
    → ((word_at ws 0).ended ≡ false → everyone_arrived (root_phase ws) (all_members 0 (front ++ v ∷ back)) ≡ true
    → some_climbing (front ++ v' ∷ back) ≡ some_climbing (front ++ v ∷ back))
    → AlikeParts f (image ws' (front ++ v' ∷ back))
silent ws ws' front back v v' f alike h k phase ended same climbs =
    let going : f.ended ≡ false → (word_at ws 0).ended ≡ false = λ e. sym alike.ended ∙ e in
    record {
      phase = alike.phase ∙ sym phase;
      ended = alike.ended ∙ sym ended;
      due = λ e.
          let g = going e in
          let mem : (u : ℕ) → members_of u (all_members 0 (front ++ v' ∷ back)) ≡ members_of u (all_members 0 (front ++ v ∷ back)) = λ u.
          (let a = members_change front back v v' u h k in
          let b = ap (λ n. cond {A = ℕ} (eqb (length front) u) n 0) (same g).0 in
          omega arith) in
          let arr : (u : ℕ) → arrived_of (root_phase ws) u (all_members 0 (front ++ v' ∷ back)) ≡ arrived_of (root_phase ws) u
          (all_members 0 (front ++ v ∷ back)) = λ u.
          (let a = arrived_change (root_phase ws) front back v v' u in
          let b = ap (λ n. cond {A = ℕ} (eqb (length front) u) n 0) (same g).1 in omega arith) in
          alike.due e ∙ (due_is ws (front ++ v ∷ back) g ∙ sym (due_is ws' (front ++ v' ∷ back) (ended ∙ g)
          ∙ (ap (λ p. everyone_arrived p (all_members 0 (front ++ v' ∷ back)) && some_climbing (front ++ v' ∷ back)) phase
          ∙ and_same (everyone_arrived (root_phase ws) (all_members 0 (front ++ v' ∷ back)))
          (everyone_arrived (root_phase ws) (all_members 0 (front ++ v ∷ back)))
          (some_climbing (front ++ v' ∷ back)) (some_climbing (front ++ v ∷ back))
          (same_everyone (root_phase ws) (all_members 0 (front ++ v' ∷ back)) (all_members 0 (front ++ v ∷ back)) mem arr) (climbs g))));
      members = λ e u. let a = members_change front back v v' u h k in
          let b = ap (λ n. cond {A = ℕ} (eqb (length front) u) n 0) (same (going e)).0 in let c = alike.members e u in omega arith;
      arrived = λ e u.
          let q : f.phase ≡ root_phase ws = alike.phase in
          let a = arrived_change f.phase front back v v' u in
          let b : cond {A = ℕ} (eqb (length front) u) (here f.phase v') 0 ≡ cond {A = ℕ} (eqb (length front) u) (here f.phase v) 0 =
          ap (λ p. cond {A = ℕ} (eqb (length front) u) (here p v') 0) q
          ∙ (ap (λ n. cond {A = ℕ} (eqb (length front) u) n 0) (same (going e)).1
          ∙ ap (λ p. cond {A = ℕ} (eqb (length front) u) (here p v) 0) (sym q)) in
          let c = alike.arrived e u in omega arith;
    }

and_absorbs : (a b : Bool) → (a ≡ true → b ≡ true) → a && b ≡ a
and_absorbs true b h = h refl
and_absorbs false b h = refl

no_more : (b : Bool) (n : ℕ) → n ≡ 0 → cond {A = ℕ} b n 0 ≡ 0
no_more true n e = e
no_more false n e = refl

more_bit : (b : Bool) (n : ℕ) → cond {A = ℕ} b (n + 1) 0 ≡ cond {A = ℕ} b n 0 + cond {A = ℕ} b 1 0
more_bit true n = refl
more_bit false n = refl

bit_le : (b : Bool) (n : ℕ) → cond {A = ℕ} b n 0 ≤ n
bit_le true n = omega arith
bit_le false n = omega arith

here_le : (p : ℕ) (v : View) → here p v ≤ v.arrived
here_le p v = bit_le (eqb v.phase p) v.arrived

not_all : (p : ℕ) (ms : List Member) (o : ℕ) → arrived_of p o ms < members_of o ms → everyone_arrived p ms ≡ false
not_all p ms o h = ⊎_elim (λ e. absurd (let a = everyone_each p ms e o in omega arith)) (λ e. e) (either (everyone_arrived p ms))

-- the members of two flat phasers are alike, and each says of itself whether it is due
matched : (ws' : List Fields) (vs' : List View) (f : Flat) → f.phase ≡ root_phase ws' → f.ended ≡ (word_at ws' 0).ended
    → ((u : ℕ) → members_of u f.members ≡ members_of u (all_members 0 vs'))
    → ((u : ℕ) → arrived_of f.phase u f.members ≡ arrived_of f.phase u (all_members 0 vs'))
    → f.due ≡ everyone_arrived f.phase f.members
    → (everyone_arrived (root_phase ws') (all_members 0 vs') ≡ true → some_climbing vs' ≡ true)
    → AlikeParts f (image ws' vs')
matched ws' vs' f phase ended mem arr due climbs = record {
  phase = phase;
  ended = ended;
  members = λ _. mem;
  arrived = λ _. arr;
  due = λ e. due ∙ (same_everyone f.phase f.members (all_members 0 vs') mem arr ∙ (ap (λ p. everyone_arrived p (all_members 0 vs')) phase
      ∙ sym
      (due_is ws' vs' (sym ended ∙ e) ∙ and_absorbs (everyone_arrived (root_phase ws') (all_members 0 vs')) (some_climbing vs') climbs)));
}

pub join_label : (ws ws' : List Fields) (front back : List View) (v v' : View) (f : Flat) (n : ℕ)
    → AlikeParts f (image ws (front ++ v ∷ back)) → f.ended ≡ false
    → v.arrived ≤ v.size → v.size ≡ 0 → v'.size ≡ n → v'.arrived ≡ 0 → 0 < n → root_phase ws' ≡ root_phase ws
    → (word_at ws' 0).ended ≡ (word_at ws 0).ended
    → AlikeParts (taken (flat.Join (length front) n) f) (image ws' (front ++ v' ∷ back))
join_label ws ws' front back v v' f n alike going h none size arrived some phase ended =
    let none_here : here (root_phase ws) v ≡ 0 = no_more (eqb v.phase (root_phase ws)) v.arrived (omega arith) in
    let none_here' : (p : ℕ) → here p v' ≡ 0 = λ p. no_more (eqb v'.phase p) v'.arrived arrived in
    record {
      phase = alike.phase ∙ sym phase;
      ended = alike.ended ∙ sym ended;
      due =
          λ e. sym (due_is ws' (front ++ v' ∷ back) (ended ∙ (sym alike.ended ∙ going)) ∙ ap (λ b. b && some_climbing (front ++ v' ∷ back))
          (not_all (root_phase ws') (all_members 0 (front ++ v' ∷ back)) (length front)
          (has_members (root_phase ws') 0 front back v' (length front) (omega arith) (omega arith)
          (let a = none_here' (root_phase ws') in omega arith))));
      members = λ e u.
          let a = members_change front back v v' u h (omega arith) in let b = newcomers_members (length front) n u f.members in
          let c : cond {A = ℕ} (eqb (length front) u) v.size 0 ≡ 0 = no_more (eqb (length front) u) v.size none in
          let d : cond {A = ℕ} (eqb (length front) u) v'.size 0 ≡ cond {A = ℕ} (eqb (length front) u) n 0 =
          ap (λ k. cond {A = ℕ} (eqb (length front) u) k 0) size in
          let g = alike.members going u in omega arith;
      arrived = λ e u.
          let a = arrived_change f.phase front back v v' u in let b = newcomers_arrived f.phase (length front) n u f.members in
          let c : cond {A = ℕ} (eqb (length front) u) (here f.phase v) 0 ≡ 0 =
          no_more (eqb (length front) u) (here f.phase v) (no_more (eqb v.phase f.phase) v.arrived (omega arith)) in
          let d : cond {A = ℕ} (eqb (length front) u) (here f.phase v') 0 ≡ 0 =
          no_more (eqb (length front) u) (here f.phase v') (none_here' f.phase) in
          let g = alike.arrived going u in omega arith;
    }

-- a token in the root's phase with an unarrived member lets its flat phaser take an arrival or a departure
pub may_pass : (ws : List Fields) (front back : List View) (v : View) (f : Flat) → AlikeParts f (image ws (front ++ v ∷ back))
    → f.ended ≡ false → v.arrived < v.size
    → arrived_of f.phase (length front) f.members < members_of (length front) f.members
may_pass ws front back v f alike going h =
    let a = alike.members going (length front) in let b = alike.arrived going (length front) in
    let d = here_le f.phase v in
    let c = has_members f.phase 0 front back v (length front) (omega arith) (omega arith) (omega arith) in omega arith

pub arrive_label : (ws ws' : List Fields) (front back : List View) (v v' : View) (f : Flat) → AlikeParts f (image ws (front ++ v ∷ back))
    → f.ended ≡ false
    → v.phase ≡ root_phase ws → v.arrived < v.size → v'.phase ≡ v.phase → v'.size ≡ v.size → v'.arrived ≡ v.arrived + 1
    → root_phase ws' ≡ root_phase ws → (word_at ws' 0).ended ≡ (word_at ws 0).ended
    → (everyone_arrived (root_phase ws') (all_members 0 (front ++ v' ∷ back)) ≡ true → some_climbing (front ++ v' ∷ back) ≡ true)
    → AlikeParts (taken (flat.Arrive (length front)) f) (image ws' (front ++ v' ∷ back))
arrive_label ws ws' front back v v' f alike going current h phase size arrived root ended climbs =
    let may = may_pass ws front back v f alike going h in
    let at : f.phase ≡ v.phase = alike.phase ∙ sym current in
    matched ws' (front ++ v' ∷ back) (taken (flat.Arrive (length front)) f) (alike.phase ∙ sym root) (alike.ended ∙ sym ended)
    (λ u. let a = members_change front back v v' u (omega arith) (omega arith) in let b = mark_members (length front) f.phase u f.members in
    let c : cond {A = ℕ} (eqb (length front) u) v'.size 0 ≡ cond {A = ℕ} (eqb (length front) u) v.size 0 =
    ap (λ k. cond {A = ℕ} (eqb (length front) u) k 0) size in
    let d = alike.members going u in omega arith)
    (λ u. let a = arrived_change f.phase front back v v' u in let b = mark_arrived (length front) f.phase u f.members may in
    let c : here f.phase v ≡ v.arrived = ap (λ x. cond {A = ℕ} x v.arrived 0) (eq-eqb v.phase f.phase (sym at)) in
    let e : here f.phase v' ≡ v.arrived + 1 = ap (λ x. cond {A = ℕ} x v'.arrived 0) (eq-eqb v'.phase f.phase (phase ∙ sym at)) ∙ arrived in
    let g = ap (λ k. cond {A = ℕ} (eqb (length front) u) k 0) c in let i = ap (λ k. cond {A = ℕ} (eqb (length front) u) k 0) e in
    let j = more_bit (eqb (length front) u) v.arrived in
    let d = alike.arrived going u in omega arith)
    refl climbs

pub leave_label : (ws ws' : List Fields) (front back : List View) (v v' : View) (f : Flat) → AlikeParts f (image ws (front ++ v ∷ back))
    → f.ended ≡ false
    → v.phase ≡ root_phase ws → v.arrived < v.size → v'.phase ≡ v.phase → v'.size ≡ v.size - 1 → v'.arrived ≡ v.arrived
    → root_phase ws' ≡ root_phase ws → (word_at ws' 0).ended ≡ (word_at ws 0).ended
    → (everyone_arrived (root_phase ws') (all_members 0 (front ++ v' ∷ back)) ≡ true → some_climbing (front ++ v' ∷ back) ≡ true)
    → AlikeParts (taken (flat.Leave (length front)) f) (image ws' (front ++ v' ∷ back))
leave_label ws ws' front back v v' f alike going current h phase size arrived root ended climbs =
    let may = may_pass ws front back v f alike going h in
    matched ws' (front ++ v' ∷ back) (taken (flat.Leave (length front)) f) (alike.phase ∙ sym root) (alike.ended ∙ sym ended)
    (λ u. let a = members_change front back v v' u (omega arith) (omega arith) in
    let b = drop_members (length front) f.phase u f.members may in
    let e : v.size ≡ v'.size + 1 = omega arith in
    let c = ap (λ k. cond {A = ℕ} (eqb (length front) u) k 0) e in
    let j = more_bit (eqb (length front) u) v'.size in
    let d = alike.members going u in omega arith)
    (λ u. let a = arrived_change f.phase front back v v' u in let b = drop_arrived (length front) f.phase u f.members in
    let e : here f.phase v' ≡ here f.phase v = ap (λ p. cond {A = ℕ} (eqb p f.phase) v'.arrived 0) phase
    ∙ ap (λ k. cond {A = ℕ} (eqb v.phase f.phase) k 0) arrived in
    let i = ap (λ k. cond {A = ℕ} (eqb (length front) u) k 0) e in
    let d = alike.arrived going u in omega arith)
    refl climbs
