-- What was read, apart from its place in memory.
use Rattle.std.specs.Prelude.{ℕ, All}
use Rattle.trace_text.specs.declared.head.Head as declared
use Rattle.trace_text.specs.declared.head.Head.TheVariants as head
use Rattle.trace_text.specs.declared.trace.Trace.{Trace}
use Rattle.trace_text.specs.declared.trace.Trace.TheVariants as trace
use Rattle.trace_text.specs.Trace.{Head, OfPhaser, OfTree, OfBarrier, Asked, AsksPhaser, AsksTree, AsksBarrier}
use Rattle.trace_text.specs.Parts.{tree_asked}
use Rattle.trace_text.specs.TreeWords.{InRange}

abbrev pub head_in : declared.Head → Head
head_in (head.Phaser h) = OfPhaser h
head_in (head.Tree h) = OfTree (tree_asked h)
head_in (head.Barrier h) = OfBarrier h

abbrev pub asked : Trace → Asked
asked (trace.Phaser h cs) = AsksPhaser h cs.items
asked (trace.Tree h cs) = AsksTree (tree_asked h) cs.items
asked (trace.Barrier h cs) = AsksBarrier h cs.items

-- the phase that it begins in; a barrier has none
abbrev pub first_phase : declared.Head → ℕ
first_phase (head.Phaser h) = h.phase
first_phase (head.Tree h) = h.phase
first_phase (head.Barrier h) = 0

abbrev pub start_phase : Trace → ℕ
start_phase (trace.Phaser h cs) = h.phase
start_phase (trace.Tree h cs) = h.phase
start_phase (trace.Barrier h cs) = 0

-- that the numbers of its commands are in range
abbrev pub commands_fit : Trace → Type 0
commands_fit (trace.Phaser h cs) = Unit {0}
commands_fit (trace.Tree h cs) = All InRange cs.items
commands_fit (trace.Barrier h cs) = Unit {0}
