-- What a task is after an answer of a call, by its stage.
use Rattle.std.proofs.Common.{◌≡◌, ◌≢◌, ℕ, ◌⊎◌, inl, inr, ⊎_elim, Bool, true, false, length, refl, ◌∙◌, ap, subst}
use Rattle.std.specs.Prelude.{if◌then◌else◌}
use Rattle.tier_steps.specs.declared.view.Passage.{Passage}
use Rattle.tier_core.specs.declared.call.Played.{Played}
use Rattle.tier_core.specs.declared.call.Played.TheVariants.{GoesOn, Done, Passed, Waiting, Held, Full, AlreadyArrived, Ended, MustAdvance}
use Rattle.tier_core.proofs.Turns.{not_both}
use Rattle.job_laws.specs.Roles.{Role, Out, Joins, Seeks, Settles, GivesBack, Polls, Ready, Here, Looks, Passes, Owes, Leads, Past}
use Rattle.job_laws.specs.Cast.{Follows, is_on_its_way}
use Rattle.job_schedule.specs.ParticipantValue.{ParticipantValue, is_done, is_refused, next_stage, sent_home, answered}
use Rattle.job_laws.specs.Working.{ComesTo}

-- an answer that is done; that is refused; that is neither
pub done_answer : (g : ParticipantValue) (a : Played) → is_done a ≡ true
    → answered g a ≡ record g { stage = next_stage g.stage (length g.children) }
done_answer g a e =
    ap
    (λ (b : Bool). if b then record g { stage = next_stage g.stage (length g.children) }
    else (if is_refused a then sent_home g g.stage else g))
    e

refusals : (a : Played) → is_refused a ≡ true → (is_done a ≡ false) × (is_refused a ≡ true)
refusals GoesOn e = not_both false e refl
refusals (Done phase) e = not_both false e refl
refusals (Passed phase) e = not_both false e refl
refusals Waiting e = not_both false e refl
refusals (Held phase why) e = (refl, refl)
refusals (Full parties) e = (refl, refl)
refusals (AlreadyArrived phase) e = not_both false e refl
refusals (Ended number) e = not_both false e refl
refusals (MustAdvance phase parties) e = not_both false e refl

-- what is done isn't refused
pub done_stays : (a : Played) → is_done a ≡ true → is_refused a ≡ false
done_stays GoesOn e = refl
done_stays (Done phase) e = refl
done_stays (Passed phase) e = refl
done_stays Waiting e = refl
done_stays (Held phase why) e = not_both false e refl
done_stays (Full parties) e = not_both false e refl
done_stays (AlreadyArrived phase) e = refl
done_stays (Ended number) e = refl
done_stays (MustAdvance phase parties) e = refl

pub refused_answer : (g : ParticipantValue) (a : Played) → is_refused a ≡ true → answered g a ≡ sent_home g g.stage
refused_answer g a e =
    let r = refusals a e in
    ap
    (λ (b : Bool). if b then record g { stage = next_stage g.stage (length g.children) }
    else (if is_refused a then sent_home g g.stage else g))
    r.0
    ∙ ap (λ (b : Bool). if b then sent_home g g.stage else g) r.1

-- what follows a step, by the role that took it

pub poll_next : (now home : ℕ) (a : Played) (next : Role) → Follows now (Polls home) a next
    → ((a ≡ GoesOn) × (next ≡ Polls home)) ⊎ ((is_done a ≡ true) × (next ≡ Here home))
poll_next now home a next f = ⊎_elim (λ q. inl q) (λ q. inr (⊎_elim (λ e. ap is_done e) (λ e. ap is_done e) q.0, q.1)) f

abbrev pub IsClaiming : ℕ → Role → Type 0
IsClaiming home r = ((claimed : ℕ) × (r ≡ Seeks home claimed)) ⊎ (r ≡ Settles home) ⊎ (r ≡ GivesBack)

pub claiming_goes : (home : ℕ) (r : Role) → IsClaiming home r → is_on_its_way r ≡ true
claiming_goes home r is = ⊎_elim (λ q. ap is_on_its_way q.1) (λ q. ⊎_elim (λ q. ap is_on_its_way q) (λ q. ap is_on_its_way q) q) is

-- a join is done, or is refused elsewhere than at the tier of the spawner, or goes on
abbrev pub JoinEnds : ℕ → ℕ → Played → Role → Type 0
JoinEnds own home a next =
    ((is_done a ≡ true) × (next ≡ Ready home)) ⊎ ((is_refused a ≡ true) × (home ≢ own) × (next ≡ Out))
    ⊎ ((a ≡ GoesOn) × ComesTo own home next)

pub look_next : (now own home : ℕ) (a : Played) (next : Role) → Follows now (Joins home) a next → JoinEnds own home a next
look_next now own home a next f = inr (inr (f.0, inr (inr (inl f.1))))

pub claim_next : (now own home : ℕ) (r : Role) (a : Played) (next : Role) → home ≢ own → IsClaiming home r → Follows now r a next
    → JoinEnds own home a next
claim_next now own home r a next n is f = ⊎_elim
    (λ q. seeks q.0 (subst (λ (x : Role). Follows now x a next) q.1 f))
    (λ q. ⊎_elim
    (λ (q : r ≡ Settles home). let g : Follows now (Settles home) a next = subst (λ (x : Role). Follows now x a next) q f in
    ⊎_elim (λ e. inl (ap is_done e.0, e.1)) (λ e. inr (inr (e.0, inr (inr (inr (n, inr (inl e.1))))))) g)
    (λ (q : r ≡ GivesBack). let g : Follows now GivesBack a next = subst (λ (x : Role). Follows now x a next) q f in
    ⊎_elim (λ e. inr (inl (e.0, n, e.1))) (λ e. inr (inr (e.0, inr (inr (inr (n, inr (inr e.1))))))) g)
    q) is
  where
    seeks : (claimed : ℕ) → Follows now (Seeks home claimed) a next → JoinEnds own home a next
    seeks claimed g = ⊎_elim (λ e. inl (ap is_done e.0, e.1))
        (λ e. ⊎_elim (λ e. inr (inr (e.0, inr (inr (inr (n, inr (inl e.1)))))))
        (λ e. ⊎_elim (λ e. inr (inr (e.0, inr (inr (inr (n, inl (e.1.0, e.1.1)))))))
        (λ e. ⊎_elim (λ e. inr (inl (e.0, n, e.1))) (λ e. inr (inr (e.0, inr (inr (inr (n, inr (inr e.1))))))) e) e) e) g

-- an arrival or a departure on its way
abbrev pub IsPassing : ℕ → Passage → Role → Type 0
IsPassing home passage r = (r ≡ Looks home passage) ⊎ (r ≡ Passes home passage) ⊎ (r ≡ Owes home passage)

pub passing_goes : (home : ℕ) (passage : Passage) (r : Role) → IsPassing home passage r → is_on_its_way r ≡ true
passing_goes home passage r is = ⊎_elim (λ q. ap is_on_its_way q) (λ q. ⊎_elim (λ q. ap is_on_its_way q) (λ q. ap is_on_its_way q) q) is

abbrev pub goes_same : Played → Type 0
goes_same a = (is_done a ≡ false) × (is_refused a ≡ false)

pub kept_answer : (g : ParticipantValue) (a : Played) → goes_same a → answered g a ≡ g
kept_answer g a e =
    ap
    (λ (b : Bool). if b then record g { stage = next_stage g.stage (length g.children) }
    else (if is_refused a then sent_home g g.stage else g))
    e.0
    ∙ ap (λ (b : Bool). if b then sent_home g g.stage else g) e.1

pub goes_on_same : (a : Played) → a ≡ GoesOn → goes_same a
goes_on_same a e = (ap is_done e, ap is_refused e)

must_same : (a : Played) (phase parties : ℕ) → a ≡ MustAdvance phase parties → goes_same a
must_same a phase parties e = (ap is_done e, ap is_refused e)

abbrev pub PassEnds : ℕ → Passage → Played → Role → Type 0
PassEnds home passage a next =
    ((is_done a ≡ true) × (next ≡ Past home passage)) ⊎ (goes_same a × (IsPassing home passage next ⊎ (next ≡ Leads home passage)))

pub pass_next : (now home : ℕ) (passage : Passage) (r : Role) (a : Played) (next : Role) → IsPassing home passage r → Follows now r a next
    → PassEnds home passage a next
pass_next now home passage r a next is f = ⊎_elim
    (λ (q : r ≡ Looks home passage). let g : Follows now (Looks home passage) a next = subst (λ (x : Role). Follows now x a next) q f in
    inr (goes_on_same a g.0, inl (inr (inl g.1))))
    (λ q. ⊎_elim
    (λ (q : r ≡ Passes home passage). let g : Follows now (Passes home passage) a next = subst (λ (x : Role). Follows now x a next) q f in
    ⊎_elim (λ e. inr (goes_on_same a e.0, inl (inr (inl e.1)))) (λ e. ⊎_elim (λ e. inl (ap is_done e.0, e.1))
    (λ e. ⊎_elim (λ e. inr (goes_on_same a e.0, inl (inr (inr e.1)))) (λ e. inr (must_same a now e.0.0 e.0.1, inr e.1)) e) e) g)
    (λ (q : r ≡ Owes home passage). let g : Follows now (Owes home passage) a next = subst (λ (x : Role). Follows now x a next) q f in
    ⊎_elim (λ e. inl (ap is_done e.0.1, e.1))
    (λ e. ⊎_elim (λ e. inr (goes_on_same a e.0, inl (inr (inr e.1)))) (λ e. inr (must_same a e.0.1 e.0.0 e.0.2, inr e.1)) e) g)
    q) is
