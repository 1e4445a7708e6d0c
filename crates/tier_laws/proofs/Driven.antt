-- The answers of a run are those of the flat phaser.
use Rattle.std.proofs.Common.{◌≡◌, ℕ, zero, suc, List, [], ◌∷◌, ◌++◌, refl, sym, ◌∙◌, ap, subst}
use Rattle.std.specs.Prelude.{map}
use Rattle.flat_phaser.specs.Flat.{Flat, empty_in}
use Rattle.flat_phaser.specs.Step.{flat_run}
use Rattle.tier_core.specs.declared.call.Step.{Step}
use Rattle.tier_core.specs.declared.call.Step.TheVariants.{Begin}
use Rattle.tier_core.specs.Machine.{State, IsCore, opened, with_token}
use Rattle.tier_core.specs.Run.{after, answer_to, answers, run, labels, AreSteps}
use Rattle.tier_core.proofs.Runs.{the_tree_is_flat}
use Rattle.tier_laws.specs.Moments.{Takes, AreEvents}
use Rattle.tier_steps.specs.Image.{LooksAlike}
use Rattle.tier_steps.proofs.Start.{empty_trees_have_no_members}
use Rattle.flat_phaser.proofs.Runs.{advances_law}
use Rattle.tier_core.proofs.Opening.{opened_core, token_core}
use Rattle.tier_laws.specs.Frame.{flat_of}
use Rattle.tier_laws.proofs.Ending.{alike_itself}
use Rattle.tier_laws.proofs.Entering.{same_flat}
use Rattle.tier_laws.specs.Driven.{RunsAnswerAsTheFlatPhaser, with_tokens, NewTreesAdvanceWhenAllArrived}
use Rattle.tier_laws.proofs.Telling.{answers_tell}

front_steps : (xs ys : List Step) → AreSteps (xs ++ ys) → AreSteps xs
front_steps [] ys h = tt
front_steps (x ∷ xs) ys h = (h.0, front_steps xs ys h.1)

back_steps : (xs ys : List Step) → AreSteps (xs ++ ys) → AreSteps ys
back_steps [] ys h = h
back_steps (x ∷ xs) ys h = back_steps xs ys h.1

step_events : (xs : List Step) → AreSteps xs → AreEvents (map (λ x. Takes x) xs)
step_events [] h = tt
step_events (x ∷ xs) h = (h.0, step_events xs h.1)

answered : (front : List Step) (x : Step) (back : List Step) (s : State)
    → answers (front ++ x ∷ back) s ≡ answers front s ++ answer_to (run front s) x ∷ answers back (after (run front s) x)
answered [] x back s = refl
answered (y ∷ front) x back s = ap (λ xs. answer_to s y ∷ xs) (answered front x back (after s y))

pub runs_answer_as_the_flat_phaser : RunsAnswerAsTheFlatPhaser
runs_answer_as_the_flat_phaser s steps f core are alike = record {
  flat = the_tree_is_flat s steps f core are alike;
  answered = λ front x back e. ap (λ xs. answers xs s) e ∙ answered front x back s;
  reported = λ front token c during back e may own.
      let are' : AreSteps (front ++ Begin token c ∷ (during ++ back)) = subst (λ (xs : List Step). AreSteps xs) e are in
      let rest = back_steps front (Begin token c ∷ (during ++ back)) are' in
      let here = the_tree_is_flat s front f core (front_steps front (Begin token c ∷ (during ++ back)) are') alike in
      answers_tell (run front s) token c (map (λ x. Takes x) during) (flat_run (labels front s) f) here.core rest.0 may
      (step_events during (front_steps during back rest.1)) own here.alike;
}

-- a new tree with tokens represents the flat phaser without members
pub tokens_keep : (many : ℕ) (s : State) (f : Flat) → IsCore s → flat_of s ≡ f
    → IsCore (with_tokens many s) × (flat_of (with_tokens many s) ≡ f)
tokens_keep zero s f core e = (core, e)
tokens_keep (suc many) s f core e = tokens_keep many (with_token s) f (token_core s core) (same_flat s ∙ e)

pub new_trees_advance_when_all_arrived : NewTreesAdvanceWhenAllArrived
new_trees_advance_when_all_arrived ps phase plan many steps shape few legal are =
    let start = tokens_keep many (opened ps phase plan) (empty_in phase) (opened_core ps phase plan shape few legal)
    (empty_trees_have_no_members ps phase shape) in
    let flat = the_tree_is_flat (with_tokens many (opened ps phase plan)) steps (empty_in phase) start.0 are
    (subst (λ (f : Flat). LooksAlike (empty_in phase) f) (sym start.1) (alike_itself (empty_in phase))) in
    (flat.allowed, advances_law phase (labels steps (with_tokens many (opened ps phase plan))) flat.allowed)
