-- What is alike stays alike.
use Rattle.std.proofs.Common.{◌≡◌, ◌≢◌, ℕ, ◌+◌, Bool, true, false, cond, eqb, List, ◌∷◌, ◌++◌, refl, sym, ◌∙◌, ap, arith, Some}
use Rattle.std.proofs.lemmas.Grind.{common_steps}
use Rattle.phaser_word.specs.Phase.{next_phase_of}
use Rattle.flat_phaser.specs.Flat.{Flat, Member, members_of, arrived_of, everyone_arrived}
use Rattle.flat_phaser.specs.Step.{Join, Arrive, Leave, Advance, Force, taken, with_members, is_awaited}
use Rattle.flat_phaser.specs.Alike.{IsAlike, IsPlace}
use Rattle.flat_phaser.specs.Laws.{StepsAreTaken, AlikeStaysAlike}
use Rattle.flat_phaser.proofs.Counts.{newcomers_members, newcomers_arrived}
use Rattle.flat_phaser.proofs.Everyone.{same_everyone, none_arrived}
use Rattle.flat_phaser.proofs.Places.{first_place, marked_members, marked_arrived, dropped_members, dropped_arrived}

-- the next phase is another
pub next_differs : (phase : ℕ) → phase ≢ next_phase_of phase
next_differs phase e = absurd (let same : phase ≡ next_phase_of phase = e in grind (arith, common_steps))

-- the counts of two lists of members in one phase
pub record SameCounts (phase : ℕ) (ms ns : List Member) : Type 0 where
  pub members : (owner : ℕ) → members_of owner ms ≡ members_of owner ns
  pub arrived : (owner : ℕ) → arrived_of phase owner ms ≡ arrived_of phase owner ns

pub same_counts : (f g : Flat) → IsAlike f g → SameCounts f.phase f.members g.members
same_counts f g a = record {
  members = a.members;
  arrived = λ owner. a.arrived owner ∙ ap (λ (p : ℕ). arrived_of p owner g.members) (sym a.phase);
}

-- members with the same counts make alike phasers
pub alike_with_members : (f g : Flat) (ms ns : List Member) → IsAlike f g → SameCounts f.phase ms ns
    → IsAlike (with_members ms f) (with_members ns g)
alike_with_members f g ms ns a s = record {
  phase = a.phase;
  ended = a.ended;
  due = same_everyone f.phase ms ns s.members s.arrived ∙ ap (λ (p : ℕ). everyone_arrived p ns) a.phase;
  members = s.members;
  arrived = λ owner. s.arrived owner ∙ ap (λ (p : ℕ). arrived_of p owner ns) a.phase;
}

-- one awaited member of an owner arrives in each of two lists
marked_counts :
    (owner phase : ℕ) (front : List Member) (m : Member) (back front' : List Member) (m' : Member) (back' : List Member)
    → SameCounts phase (front ++ m ∷ back) (front' ++ m' ∷ back') → is_awaited owner phase m ≡ true → is_awaited owner phase m' ≡ true
    → SameCounts phase (front ++ record m { mark = Some phase } ∷ back) (front' ++ record m' { mark = Some phase } ∷ back')
marked_counts owner phase front m back front' m' back' s h h' = record {
  members = λ u. marked_members owner phase u front m back ∙ s.members u ∙ sym (marked_members owner phase u front' m' back');
  arrived = λ u.
      let one = marked_arrived owner phase u front m back h in
      let other = marked_arrived owner phase u front' m' back' h' in
      let same = s.arrived u in
      omega arith;
}

-- one awaited member of an owner leaves each of two lists
dropped_counts :
    (owner phase : ℕ) (front : List Member) (m : Member) (back front' : List Member) (m' : Member) (back' : List Member)
    → SameCounts phase (front ++ m ∷ back) (front' ++ m' ∷ back') → is_awaited owner phase m ≡ true → is_awaited owner phase m' ≡ true
    → SameCounts phase (front ++ back) (front' ++ back')
dropped_counts owner phase front m back front' m' back' s h h' = record {
  members = λ u.
      let one = dropped_members owner phase u front m back h in
      let other = dropped_members owner phase u front' m' back' h' in
      let same = s.members u in
      omega arith;
  arrived = λ u.
      let one = dropped_arrived owner phase u front m back h in
      let other = dropped_arrived owner phase u front' m' back' h' in
      let same = s.arrived u in
      omega arith;
}

-- the same counts, of the lists as their places give them
at_places : (owner : ℕ) (f g : Flat) (front : List Member) (m : Member) (back front' : List Member) (m' : Member) (back' : List Member)
    → IsAlike f g → IsPlace owner f front m back → IsPlace owner g front' m' back'
    → SameCounts f.phase (front ++ m ∷ back) (front' ++ m' ∷ back')
at_places owner f g front m back front' m' back' a p p' =
    let s = same_counts f g a in
    record {
      members = λ u. ap (members_of u) (sym p.here) ∙ s.members u ∙ ap (members_of u) p'.here;
      arrived = λ u. ap (arrived_of f.phase u) (sym p.here) ∙ s.arrived u ∙ ap (arrived_of f.phase u) p'.here;
    }

pub joins_alike : (owner count : ℕ) (f g : Flat) → IsAlike f g → IsAlike (taken (Join owner count) f) (taken (Join owner count) g)
joins_alike owner count f g a = record {
  phase = a.phase;
  ended = a.ended;
  due = refl;
  members =
      λ u. newcomers_members owner count u f.members ∙ ap (λ (k : ℕ). k + cond {A = ℕ} (eqb owner u) count 0) (a.members u)
      ∙ sym (newcomers_members owner count u g.members);
  arrived = λ u. newcomers_arrived f.phase owner count u f.members ∙ a.arrived u ∙ sym (newcomers_arrived g.phase owner count u g.members);
}

everyone_in : (f g : Flat) → IsAlike f g → everyone_arrived f.phase f.members ≡ true → everyone_arrived g.phase g.members ≡ true
everyone_in f g a h =
    let s = same_counts f g a in
    ap (λ (p : ℕ). everyone_arrived p g.members) (sym a.phase) ∙ sym (same_everyone f.phase f.members g.members s.members s.arrived) ∙ h

pub advances_alike : (ends : Bool) (f g : Flat) → everyone_arrived f.phase f.members ≡ true → IsAlike f g
    → IsAlike (taken (Advance ends) f) (taken (Advance ends) g)
advances_alike ends f g h a = record {
  phase = ap next_phase_of a.phase;
  ended = refl;
  due = refl;
  members = a.members;
  arrived = λ u.
      none_arrived f.phase (next_phase_of f.phase) f.members (next_differs f.phase) h u
      ∙ sym (none_arrived g.phase (next_phase_of g.phase) g.members (next_differs g.phase) (everyone_in f g a h) u);
}

pub forces_alike : (f g : Flat) → IsAlike f g → IsAlike (taken Force f) (taken Force g)
forces_alike f g a = record { phase = a.phase; ended = refl; due = refl; members = a.members; arrived = a.arrived }

not_due : (b : Bool) → b ≡ false → {A : Type 0} → b ≡ true → A
not_due b e h = absurd (let wrong : false ≡ true = sym e ∙ h in cc)

pub alike_stays : AlikeStaysAlike
alike_stays (Join owner count) f f' g g' sound a l l' =
    (rw (l, l') (joins_alike owner count f g a), rw l (λ h. not_due false refl h))
alike_stays (Arrive owner) f f' g g' sound a l l' =
    let awaited : is_awaited owner f.phase l'.1 ≡ true = ap (λ (p : ℕ). is_awaited owner p l'.1) a.phase ∙ l'.3.awaited in
    let counts =
    marked_counts owner f.phase l.0 l.1 l.2 l'.0 l'.1 l'.2 (at_places owner f g l.0 l.1 l.2 l'.0 l'.1 l'.2 a l.3 l'.3) l.3.awaited
    awaited in
    let same : (l'.0 ++ record l'.1 { mark = Some f.phase } ∷ l'.2) ≡ (l'.0 ++ record l'.1 { mark = Some g.phase } ∷ l'.2) =
    ap (λ (p : ℕ). l'.0 ++ record l'.1 { mark = Some p } ∷ l'.2) a.phase in
    let alike : IsAlike (with_members (l.0 ++ record l.1 { mark = Some f.phase } ∷ l.2) f)
    (with_members (l'.0 ++ record l'.1 { mark = Some g.phase } ∷ l'.2) g) =
    rw (← same) (alike_with_members f g _ _ a counts) in
    (rw (l.4, l'.4) alike, rw l.4 (λ h. h))
alike_stays (Leave owner) f f' g g' sound a l l' =
    let awaited : is_awaited owner f.phase l'.1 ≡ true = ap (λ (p : ℕ). is_awaited owner p l'.1) a.phase ∙ l'.3.awaited in
    let counts =
    dropped_counts owner f.phase l.0 l.1 l.2 l'.0 l'.1 l'.2 (at_places owner f g l.0 l.1 l.2 l'.0 l'.1 l'.2 a l.3 l'.3) l.3.awaited
    awaited in
    (rw (l.4, l'.4) (alike_with_members f g _ _ a counts), rw l.4 (λ h. h))
alike_stays (Advance ends) f f' g g' sound a l l' =
    (rw (l.1, l'.1) (advances_alike ends f g (sound l.0) a), rw l.1 (λ h. not_due false refl h))
alike_stays Force f f' g g' sound a l l' =
    (rw (l, l') (forces_alike f g a), rw l (λ h. not_due false refl h))

pub steps_taken : StepsAreTaken
steps_taken (Join owner count) f h = refl
steps_taken (Arrive owner) f h =
    let p = first_place owner f.phase f.members h in
    (p.front, p.here, p.back, record { here = p.whole; awaited = p.awaited }, ap (λ (ms : List Member). with_members ms f) p.marked)
steps_taken (Leave owner) f h =
    let p = first_place owner f.phase f.members h in
    (p.front, p.here, p.back, record { here = p.whole; awaited = p.awaited }, ap (λ (ms : List Member). with_members ms f) p.dropped)
steps_taken (Advance ends) f h = (h, refl)
steps_taken Force f h = refl
