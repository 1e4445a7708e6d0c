-- A word that threads exchange for the next one: its values, one after another, are a run of one phaser (own).
use Rattle.std.specs.Prelude.{◌≡◌, ◌≢◌, ◌≤◌, ℕ, ℤ, List, [], ◌∷◌, map}
use Rattle.phaser_word.specs.Fields.{Fields}
use Rattle.phaser_word.specs.Phase.{next_phase_of}
use Rattle.advance_rule.specs.declared.CountPlan.{CountPlan}
use Rattle.phaser_one.specs.declared.call.Call.{Call}
use Rattle.phaser_one.specs.declared.call.Reply.{Reply}
use Rattle.phaser_one.specs.Runs.{FollowsAll}
use Rattle.bsp_phaser.specs.Numbers.{IsWordOf}
use Rattle.bsp_phaser.specs.Steps.{IsStep, status_of, answer_of}

-- an exchange: the call that was made on the number found, the number that replaced it, and what the call gave
pub record Exchange : Type 0 where
  pub call : Call
  pub next : ℕ
  pub status : ℤ
  pub answer : ℤ

-- each exchange is a call on the number found, and so on
abbrev pub AreExchanged : CountPlan → ℕ → List Exchange → Type 0
AreExchanged plan number [] = Unit {0}
AreExchanged plan number (x ∷ xs) = IsStep plan x.call number x.next x.status x.answer × AreExchanged plan x.next xs

-- the number at the end
abbrev pub last_of : ℕ → List Exchange → ℕ
last_of number [] = number
last_of number (x ∷ xs) = last_of x.next xs

-- the calls one after another lead one phaser from this state to one that the last number packs, and what they gave are
-- its replies
pub record IsOneRun (plan : CountPlan) (first : Fields) (number : ℕ) (xs : List Exchange) : Type 0 where
  pub last : Fields
  pub replies : List Reply
  pub packs : IsWordOf last (last_of number xs)
  pub follows : FollowsAll plan (map (λ x. x.call) xs) first last replies
  pub reported : map (λ x. x.status) xs ≡ map status_of replies
  pub shown : map (λ x. x.answer) xs ≡ map answer_of replies

-- However many threads exchange the word, if each exchange puts what a call gives for the number found, the calls in
-- the order of the exchanges are a run of one phaser.
abbrev pub ExchangesAreOneRun : Type 0
ExchangesAreOneRun =
    (plan : CountPlan) (first : Fields) (number : ℕ) (xs : List Exchange) → IsWordOf first number → AreExchanged plan number xs
    → IsOneRun plan first number xs

-- a phase has passed: all but the one that made the call, if it arrived or left, had arrived before; the next phase has begun, and in it
-- nobody has arrived
pub record HasPassed (before after : Fields) : Type 0 where
  pub last : before.unarrived ≤ 1
  pub next : after.phase ≡ next_phase_of before.phase
  pub fresh : after.unarrived ≡ after.parties

-- No call takes the phase on before all parties then registered have arrived.
abbrev pub NoPhasePassesEarly : Type 0
NoPhasePassesEarly =
    (plan : CountPlan) (call : Call) (old : Fields) (number next : ℕ) (status answer : ℤ)
    (step : IsStep plan call number next status answer) (word : IsWordOf old number)
    → (step.done old word).new.phase ≢ old.phase → HasPassed old (step.done old word).new
