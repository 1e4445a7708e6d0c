-- The line of an advance is in front of its answer.
use Rattle.std.proofs.Common.{◌≡◌, ◌≢◌, ℕ, ◌+◌, Bool, true, false, cond, List, ◌++◌, Some, None, pos, negsuc, refl, sym, ◌∙◌, arith}
use Rattle.std.specs.Prelude.{◌==◌, if◌then◌else◌}
use Rattle.std.proofs.lemmas.Bool.{false≢true}
use Rattle.std.proofs.lemmas.Grind.{common_steps}
use Rattle.advance_rule.specs.declared.CountPlan.{CountPlan}
use Rattle.advance_rule.specs.Plan.{count_ends}
use Rattle.phaser_word.specs.Phase.{next_phase_of}
use Rattle.flat_phaser.specs.Flat.{Flat, registered}
use Rattle.flat_phaser.specs.declared.FlatStep.TheVariants.{Join, Arrive, Leave, Advance, Force}
use Rattle.flat_phaser.specs.Step.{taken, flat_step}
use Rattle.phaser_one.specs.declared.call.Call.{Call}
use Rattle.phaser_one.specs.declared.call.Call.TheVariants as call
use Rattle.phaser_one.specs.Calls.{answer, is_refused, step_of, taken_by, called}
use Rattle.trace_text.specs.Lines.{advance_line}
use Rattle.trace_text.specs.Answers.{advance_text, reply_text}
use Rattle.text_laws.specs.Advances.{AdvancesComeFirst}

-- before an advance a call leaves the phase, and has made one due only if the phaser goes on
record Keeps (f g : Flat) : Type 0 where
  phase : g.phase ≡ f.phase
  going : g.due ≡ true → g.ended ≡ false

as_it_was : (f : Flat) → f.due ≡ false → Keeps f f
as_it_was f d = record { phase = refl; going = λ e. absurd (false≢true (sym d ∙ e)) }

unless_ended : (f g : Flat) → f.due ≡ false → (f.ended ≡ false → Keeps f g) → Keeps f (if f.ended then f else g)
unless_ended f g d k = chosen f.ended refl
  where
    chosen : (b : Bool) → f.ended ≡ b → Keeps f (cond b f g)
    chosen true e = as_it_was f d
    chosen false e = k e

joins : (f : Flat) (owner count : ℕ) → f.due ≡ false → Keeps f (flat_step (Join owner count) f)
joins f owner count d = unless_ended f (taken (Join owner count) f) d (λ e. record { phase = refl; going = λ h. e })

arrives : (f : Flat) (owner : ℕ) → f.due ≡ false → Keeps f (flat_step (Arrive owner) f)
arrives f owner d = unless_ended f (taken (Arrive owner) f) d (λ e. record { phase = refl; going = λ h. e })

leaves : (f : Flat) (owner : ℕ) → f.due ≡ false → Keeps f (flat_step (Leave owner) f)
leaves f owner d = unless_ended f (taken (Leave owner) f) d (λ e. record { phase = refl; going = λ h. e })

forces : (f : Flat) → f.due ≡ false → Keeps f (flat_step Force f)
forces f d = unless_ended f (taken Force f) d (λ e. record { phase = refl; going = λ h. absurd (false≢true h) })

takes : (c : Call) (f : Flat) → f.due ≡ false → Keeps f (taken_by (step_of c) f)
takes call.Register f d = joins f 0 1 d
takes (call.Bulk (pos count)) f d = joins f 0 count d
takes (call.Bulk (negsuc n)) f d = as_it_was f d
takes call.Arrive f d = arrives f 0 d
takes call.Leave f d = leaves f 0 d
takes (call.Await phase) f d = as_it_was f d
takes call.Force f d = forces f d

calls : (c : Call) (f : Flat) → f.due ≡ false → Keeps f (called c f)
calls c f d = chosen (is_refused (answer c f))
  where
    chosen : (b : Bool) → Keeps f (cond b f (taken_by (step_of c) f))
    chosen true = as_it_was f d
    chosen false = takes c f d

moves-on : (n : ℕ) → next_phase_of n ≢ n
moves-on n = chosen (n == 2147483647) refl
  where
    chosen : (b : Bool) → (n == 2147483647) ≡ b → cond b 0 (n + 1) ≢ n
    chosen true e = λ h. absurd (grind (arith, common_steps))
    chosen false e = λ h. absurd (omega arith)

-- what is printed and left, by whether an advance is due
abbrev printed : Call → Flat → Flat → Bool → List ℕ
printed c f g b = advance_text (if b then Some (record { phase = f.phase; parties = registered g }) else None) ++ reply_text (answer c f)

abbrev left : CountPlan → Flat → Bool → Flat
left plan g b = if b then flat_step (Advance (count_ends plan g.phase (registered g))) g else g

abbrev Reported : CountPlan → Call → Flat → Flat → Bool → Type 0
Reported plan c f g b =
    ((left plan g b).phase ≢ f.phase → printed c f g b ≡ advance_line f.phase (registered (left plan g b)) ++ reply_text (answer c f))
    × ((left plan g b).phase ≡ f.phase → printed c f g b ≡ reply_text (answer c f))

advanced_on : (plan : CountPlan) (c : Call) (f g : Flat) (ends b : Bool) → b ≡ false → g.phase ≡ f.phase
    → (((if b then g else taken (Advance ends) g).phase ≢ f.phase
    → printed c f g true ≡ advance_line f.phase (registered (if b then g else taken (Advance ends) g)) ++ reply_text (answer c f))
    × ((if b then g else taken (Advance ends) g).phase ≡ f.phase → printed c f g true ≡ reply_text (answer c f)))
advanced_on plan c f g ends true e same = absurd (false≢true (sym e))
advanced_on plan c f g ends false e same = (λ h. refl, λ h. absurd (moves-on g.phase (h ∙ sym same)))

reported : (plan : CountPlan) (c : Call) (f g : Flat) (b : Bool) → Keeps f g → g.due ≡ b → Reported plan c f g b
reported plan c f g false k d = (λ h. absurd (h k.phase), λ h. refl)
reported plan c f g true k d = advanced_on plan c f g (count_ends plan g.phase (registered g)) g.ended (k.going d) k.phase

pub advances-first : AdvancesComeFirst
advances-first plan c f d = reported plan c f (called c f) (called c f).due (calls c f d) refl
