-- What a step of a token answers is what its moment answers.
use Rattle.std.proofs.Common.{◌≡◌, ℕ, Bool, true, false, cond, eqb, [], ◌∷◌, refl, ap}
use Rattle.std.proofs.lemmas.Bool.{eq-eqb}
use Rattle.flat_phaser.specs.Flat.{Flat}
use Rattle.tier_core.specs.declared.call.Answer.{Answer}
use Rattle.tier_core.specs.declared.call.Answer.TheVariants as answer
use Rattle.tier_core.specs.declared.call.Played.{Played}
use Rattle.tier_core.specs.declared.call.Step.TheVariants.{Begin, Go, Finish}
use Rattle.tier_core.specs.declared.call.Turn.{Turn}
use Rattle.tier_core.specs.Machine.{State, turn_at}
use Rattle.tier_core.specs.Run.{may_begin, may_go, may_finish, finish_at, plan_ends}
use Rattle.tier_core.proofs.Turns.{by_test}
use Rattle.tier_laws.specs.Moments.{Moment, moment_of, own_turn, MomentsAreAnswers}

-- the answer of a turn
abbrev played_of : Answer → Played → Played
played_of answer.Begun other = other
played_of (answer.Played a) other = a
played_of answer.NotNow other = other

-- a turn that may be taken, or not
reported_by : (s : State) (f : Flat) (i : ℕ) (r : Turn) (b : Bool) (a : Played)
    → cond b (answer.Played r.answer) answer.NotNow ≡ answer.Played a
    → (m : Moment) × (cond (eqb i i) (cond b (moment_of i s f r ∷ []) []) [] ≡ m ∷ []) × (m.state ≡ s) × (m.before ≡ f)
    × (m.turn.answer ≡ a)
reported_by s f i r true a e =
    (moment_of i s f r, ap (λ b. cond b (moment_of i s f r ∷ []) []) (eq-eqb i i refl), refl, refl, ap (λ x. played_of x r.answer) e)
reported_by s f i r false a e = absurd (let b : answer.NotNow ≡ answer.Played a = e in cc)

pub moments_are_answers : MomentsAreAnswers
moments_are_answers s f (Begin i c) a e =
    by_test (λ b. cond b answer.Begun answer.NotNow ≡ answer.Played a
    → (m : Moment) × (own_turn i s f (Begin i c) ≡ m ∷ []) × (m.state ≡ s) × (m.before ≡ f) × (m.turn.answer ≡ a)) (may_begin s i c)
    (λ _ q. absurd (let b : answer.Begun ≡ answer.Played a = q in cc)) (λ _ q. absurd (let b : answer.NotNow ≡ answer.Played a = q in cc)) e
moments_are_answers s f (Go i) a e = reported_by s f i (turn_at s i) (may_go s i) a e
moments_are_answers s f (Finish i) a e = reported_by s f i (finish_at s i (plan_ends s)) (may_finish s i) a e
