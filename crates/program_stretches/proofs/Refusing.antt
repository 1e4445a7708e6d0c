-- Which refusal of a stretch comes first.
use Rattle.std.proofs.Common.{◌≡◌, ◌≢◌, Bool, true, false, slice_get, Option, Some, None, refl, sym, ap, ◌∙◌}
use Rattle.program_stretches.specs.declared.fault.AcceptStretchFault.{AcceptStretchFault}
use Rattle.program_stretches.specs.declared.fault.AcceptStretchFault.TheVariants.{WrongStep, Unfinished, Stranger, Double}
use Rattle.program_stretches.specs.PartValue.{PartValue}
use Rattle.program_stretches.specs.StretchesValue.{StretchesValue, StretchValue}
use Rattle.program_stretches.specs.Closing.{Refuses, is_there}
use Rattle.program_stretches.specs.Laws.{StretchesAreRefusedInOrder}

not_both : {b : Bool} → b ≡ true → b ≡ false → ⊥
not_both h k = let wrong : true ≡ false = sym h ∙ k in cc

nothing_is_some : {A : Type 0} {x : A} → None ≡ Some x → ⊥
nothing_is_some e = cc

nowhere : {S : Type 0} {o : Option (Option (PartValue S))} → is_there o ≡ true → o ≡ None → ⊥
nowhere h k = not_both h (ap is_there k)

gone : {S : Type 0} {o : Option (Option (PartValue S))} → is_there o ≡ true → o ≡ Some None → ⊥
gone h k = not_both h (ap is_there k)

module _ {Q S : Type 0} where
  by_step : (fault : AcceptStretchFault) (v : StretchesValue Q S) (s : StretchValue Q S) → Refuses fault v s → s.step ≢ v.step
      → fault ≡ WrongStep
  by_step WrongStep v s h k = refl
  by_step Unfinished v s h k = absurd (k h.0)
  by_step Stranger v s h k = absurd (k h.0)
  by_step Double v s h k = absurd (k h.0)

  unfinished : (fault : AcceptStretchFault) (v : StretchesValue Q S) (s : StretchValue Q S) → Refuses fault v s → s.step ≡ v.step
      → s.part.done ≡ false → fault ≡ Unfinished
  unfinished WrongStep v s h e k = absurd (h e)
  unfinished Unfinished v s h e k = refl
  unfinished Stranger v s h e k = absurd (not_both h.1 k)
  unfinished Double v s h e k = absurd (not_both h.1 k)

  by_number : (fault : AcceptStretchFault) (v : StretchesValue Q S) (s : StretchValue Q S) → Refuses fault v s → s.step ≡ v.step
      → s.part.done ≡ true
      → slice_get v.parts s.number ≡ None → fault ≡ Stranger
  by_number WrongStep v s h e f k = absurd (h e)
  by_number Unfinished v s h e f k = absurd (not_both f h.1)
  by_number Stranger v s h e f k = refl
  by_number Double v s h e f k = absurd (nowhere h.2 k)

  there : (fault : AcceptStretchFault) (v : StretchesValue Q S) (s : StretchValue Q S) (part : PartValue S) → Refuses fault v s
      → s.step ≡ v.step → s.part.done ≡ true
      → slice_get v.parts s.number ≡ Some (Some part) → fault ≡ Double
  there WrongStep v s part h e f k = absurd (h e)
  there Unfinished v s part h e f k = absurd (not_both f h.1)
  there Stranger v s part h e f k = absurd (nothing_is_some (sym h.2 ∙ k))
  there Double v s part h e f k = refl

  out : (fault : AcceptStretchFault) (v : StretchesValue Q S) (s : StretchValue Q S) → s.step ≡ v.step → s.part.done ≡ true
      → slice_get v.parts s.number ≡ Some None → Refuses fault v s → ⊥
  out WrongStep v s e f k h = h e
  out Unfinished v s e f k h = not_both f h.1
  out Stranger v s e f k h = nothing_is_some (sym h.2 ∙ k)
  out Double v s e f k h = gone h.2 k

  pub refused : StretchesAreRefusedInOrder Q S
  refused = record { step = by_step; unfinished = unfinished; number = by_number; there = there; out = out }
