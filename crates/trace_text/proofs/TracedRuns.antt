-- What a run wrote is what its input asks for.
use Rattle.std.proofs.Common.{◌≡◌, ◌⊎◌, ℕ, ℤ, pos, negsuc, ◌<ℤ◌, Bool, false, nat_le, ◌<◌, List, length, Option, None, Some, Result, Ok, Err, IfSome, true, nat_lt, sym, ◌∙◌, ap, refl, rules, arith, inr}
use Rattle.std.proofs.lemmas.Grind.{common_steps}
use Rattle.std.specs.Io.KnownBytes.{Keeps}
use Rattle.text_lines.specs.declared.refusal.Code.TheVariants.{TooLong}
use Rattle.trace_text.specs.declared.fault.TraceFault.{TraceFault}
use Rattle.trace_text.specs.declared.fault.TraceFault.TheVariants.{Text, Read, Write, Memory}
use Rattle.trace_text.specs.declared.words.PhaserHead.{PhaserHead}
use Rattle.trace_text.specs.declared.words.PhaserCommand.{PhaserCommand}
use Rattle.trace_text.specs.declared.tree_words.TreeCommand.{TreeCommand}
use Rattle.trace_text.specs.TreeWords.{TreeAsked}
use Rattle.trace_text.specs.TreeAnswers.{tree_opened_text}
use Rattle.trace_text.specs.declared.barrier_words.BarrierCommand.{BarrierCommand}
use Rattle.trace_text.specs.declared.barrier_words.BarrierHead.{BarrierHead}
use Rattle.trace_text.specs.BarrierAnswers.{barrier_opened_text}
use Rattle.trace_text.specs.Trace.{Asked, AsksPhaser, AsksTree, AsksBarrier, asked_of}
use Rattle.advance_rule.specs.declared.CountPlan.{CountPlan}
use Rattle.phaser_one.specs.Calls.{opened}
use Rattle.trace_text.specs.Runs.{run_text}
use Rattle.trace_text.specs.Answers.{command_text, command_after, output_of, opened_text}
use Rattle.std.proofs.lemmas.Int.{ints}
use Rattle.trace_text.specs.Outcome.{Writes, Traces}

pub Keeps-same : (known : Option (List ℕ)) → Keeps known known
Keeps-same None = search rules
Keeps-same (Some xs) = refl

long_text : (text : List ℕ) → 1048576 < length text → asked_of text ≡ Err (record { line = 1; code = TooLong })
unfolding asked_of
long_text text h = let long : nat_lt 1048576 (length text) ≡ true = grind (arith, common_steps) in rw long refl

pub too_long : (input old : Option (List ℕ)) → IfSome input (λ bytes. 1048576 < length bytes)
    → IfSome input (λ bytes. asked_of bytes ≡ Err (record { line = 1; code = TooLong })) × Keeps old old
too_long None old h = (search rules, Keeps-same old)
too_long (Some bytes) old h = (long_text bytes h, Keeps-same old)

pub traced : (input old new : Option (List ℕ)) (result : Result (Unit {0}) TraceFault) (text : List ℕ) (asked : Asked)
    → IfSome input (λ bytes. text ≡ bytes) → asked_of text ≡ Ok asked → Writes old new result (output_of asked)
    → Traces input old new result
traced None old new (Ok u) text asked i a w = search rules
traced (Some bytes) old new (Ok u) text asked i a w = (asked, ap asked_of (sym i) ∙ a, w)
traced None old new (Err Write) text asked i a w = search rules
traced (Some bytes) old new (Err Write) text asked i a w = (asked, ap asked_of (sym i) ∙ a, w)
traced None old new (Err Memory) text asked i a w = inr (search rules)
traced (Some bytes) old new (Err Memory) text asked i a w = inr (asked, ap asked_of (sym i) ∙ a, w)
traced input old new (Err Read) text asked i a w = absurd w
traced input old new (Err (Text r)) text asked i a w = absurd w

-- what a head and commands of each kind print
pub phaser_output : (old new : Option (List ℕ)) (result : Result (Unit {0}) TraceFault) (h : PhaserHead) (cs : List PhaserCommand)
    → Writes old new result (opened_text h.plan cs h.phase h.parties) → Writes old new result (output_of (AsksPhaser h cs))
unfolding output_of
phaser_output old new result h cs w = w

pub tree_output : (old new : Option (List ℕ)) (result : Result (Unit {0}) TraceFault) (h : TreeAsked) (cs : List TreeCommand)
    → Writes old new result (tree_opened_text h cs) → Writes old new result (output_of (AsksTree h cs))
unfolding output_of
tree_output old new result h cs w = w

pub barrier_output : (old new : Option (List ℕ)) (result : Result (Unit {0}) TraceFault) (h : BarrierHead) (cs : List BarrierCommand)
    → Writes old new result (barrier_opened_text h cs) → Writes old new result (output_of (AsksBarrier h cs))
unfolding output_of
barrier_output old new result h cs w = w

-- a number of parties that a phaser was made of
few_parties : (n : ℕ) (parties : ℤ) → pos n ≡ parties → ((parties <ℤ pos 0) ⊎ (pos 65535 <ℤ parties) → ⊥) → nat_le n 65535 ≡ true
few_parties n (pos m) e f = chosen (nat_le n 65535) refl
  where
    chosen : (b : Bool) → nat_le n 65535 ≡ b → nat_le n 65535 ≡ true
    chosen true h = h
    chosen false h = let same : n ≡ m = cc in
        let many : 65535 < m = grind (arith, common_steps) in
        absurd (f (inr (grind (arith, common_steps, ints))))
few_parties n (negsuc m) e f = absurd (let wrong : ◌≡◌ {A = ℤ} (pos n) (negsuc m) = e in cc)

pub opened_writes : (old new : Option (List ℕ)) (result : Result (Unit {0}) TraceFault) (plan : CountPlan) (cs : List PhaserCommand)
    (phase n : ℕ) (parties : ℤ)
    → pos n ≡ parties → ((parties <ℤ pos 0) ⊎ (pos 65535 <ℤ parties) → ⊥)
    → Writes old new result (run_text command_text (command_after plan) cs (opened n phase))
    → Writes old new result (opened_text plan cs phase parties)
opened_writes old new result plan cs phase n parties e f w =
    let few : nat_le n 65535 ≡ true = few_parties n parties e f in
    rw (← e, few) w
