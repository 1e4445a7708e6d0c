-- What a trace of a barrier prints (own), over the barrier as a machine.
use Rattle.std.specs.Prelude.{ℕ, zero, suc, Bool, nat_le, if◌then◌else◌, List, [], ◌∷◌, ◌++◌, length, Option, ℤ, pos, negsuc, codes, decimal}
use Rattle.cyclic_gate.specs.declared.call.BarrierFault.{BarrierFault}
use Rattle.cyclic_gate.specs.declared.call.BarrierFault.TheVariants.{NoParty, AlreadyWaiting, NotWaiting, TooMany, Memory}
use Rattle.cyclic_gate.specs.declared.call.Call as the_call
use Rattle.cyclic_gate.specs.declared.call.Call.TheVariants as call
use Rattle.cyclic_gate.specs.Machine.{Machine, fresh}
use Rattle.cyclic_gate.specs.Steps.{Answer, Waiting, Trips, Fails, IsBroken, Breaks, Already, Absent, answer, after}
use Rattle.trace_text.specs.declared.barrier_words.BarrierCommand.{BarrierCommand}
use Rattle.trace_text.specs.declared.barrier_words.BarrierCommand.TheVariants.{Call, Show}
use Rattle.trace_text.specs.declared.barrier_words.BarrierHead.{BarrierHead}
use Rattle.trace_text.specs.Runs.{run_text}

-- running out of memory has no line
abbrev pub barrier_fault_text : BarrierFault → List ℕ
barrier_fault_text NoParty = codes "refused 1 NoParty\n"
barrier_fault_text AlreadyWaiting = codes "refused 2 AlreadyWaiting\n"
barrier_fault_text NotWaiting = codes "refused 3 NotWaiting\n"
barrier_fault_text TooMany = codes "refused 4 TooMany\n"
barrier_fault_text Memory = []

-- callers, and callers with their indices, each after a space
abbrev pub callers_text : List ℕ → List ℕ
callers_text [] = []
callers_text (c ∷ cs) = codes " " ++ decimal c ++ callers_text cs

abbrev pub turns_text : List (ℕ × ℕ) → List ℕ
turns_text [] = []
turns_text (t ∷ ts) = codes " " ++ decimal t.0 ++ codes ":" ++ decimal t.1 ++ turns_text ts

-- a name and callers
abbrev pub callers_line : List ℕ → List ℕ → List ℕ
callers_line name callers = name ++ callers_text callers ++ codes "\n"

-- a reset names callers only if there are some
abbrev pub reset_text : List ℕ → List ℕ
reset_text [] = codes "reset\n"
reset_text (c ∷ cs) = callers_line (codes "reset broken") (c ∷ cs)

abbrev pub broken_text : the_call.Call → List ℕ → List ℕ
broken_text call.Reset callers = reset_text callers
broken_text _ callers = callers_line (codes "broken") callers

-- the caller of a call, if it has one
abbrev pub caller_text : the_call.Call → List ℕ
caller_text (call.Await c) = decimal c
caller_text (call.Abandon c) = decimal c
caller_text call.BreakOff = []
caller_text call.Reset = []

abbrev pub call_text : the_call.Call → Answer → List ℕ
call_text c (Waiting index) = codes "waits " ++ decimal index ++ codes "\n"
call_text c (Trips all) = codes "tripped" ++ turns_text all ++ codes "\n"
call_text c (Fails others) = codes "failed " ++ caller_text c ++ callers_line (codes " broken") others
call_text c IsBroken = codes "broken\n"
call_text c (Breaks callers) = broken_text c callers
call_text c Already = barrier_fault_text AlreadyWaiting
call_text c Absent = barrier_fault_text NotWaiting

abbrev pub broken_mark : Bool → List ℕ
broken_mark broken = if broken then codes " broken yes\n" else codes " broken no\n"

-- the numbers of a barrier
abbrev pub barrier_front : ℕ → ℕ → List ℕ
barrier_front parties waiting = codes "barrier parties " ++ decimal parties ++ codes " waiting " ++ decimal waiting

abbrev pub barrier_rest : ℕ → Bool → List ℕ
barrier_rest generation broken = codes " generation " ++ decimal generation ++ broken_mark broken

abbrev pub barrier_line : ℕ → ℕ → ℕ → Bool → List ℕ
barrier_line parties waiting generation broken = barrier_front parties waiting ++ barrier_rest generation broken

-- what a command prints, if the action fails in one generation or in none, and the barrier after it
abbrev pub barrier_text : Option ℕ → BarrierCommand → Machine → List ℕ
barrier_text fails (Call c) m = call_text c (answer fails c m)
barrier_text fails Show m = barrier_line m.parties (length m.waiting) m.generation m.broken

abbrev pub barrier_after : Option ℕ → BarrierCommand → Machine → Machine
barrier_after fails (Call c) m = after fails c m
barrier_after fails Show m = m

-- this many parties, or the refusal of as many
abbrev pub barrier_of : Option ℕ → List BarrierCommand → ℤ → List ℕ
barrier_of fails commands (negsuc n) = barrier_fault_text NoParty
barrier_of fails commands (pos zero) = barrier_fault_text NoParty
barrier_of fails commands (pos (suc n)) =
    if nat_le (suc n) 65535 then run_text (barrier_text fails) (barrier_after fails) commands (fresh (suc n))
    else barrier_fault_text TooMany

abbrev pub barrier_opened_text : BarrierHead → List BarrierCommand → List ℕ
barrier_opened_text head commands = barrier_of head.fails commands head.parties
