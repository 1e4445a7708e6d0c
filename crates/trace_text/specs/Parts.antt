-- Words that borrow from a text, by their bytes.
use Rattle.std.specs.Prelude.{option_copied}
use Rattle.trace_text.specs.declared.words.HeadWords as declared
use Rattle.trace_text.specs.declared.tree_words.TreeHeadWords as declared_tree
use Rattle.trace_text.specs.declared.barrier_words.BarrierHeadWords as declared_barrier
use Rattle.trace_text.specs.declared.tree_words.CallWords as declared_call
use Rattle.trace_text.specs.declared.tree_words.CallWords.TheVariants as call
use Rattle.trace_text.specs.declared.tree_words.TreeHead as declared_head
use Rattle.trace_text.specs.BarrierWords.{BarrierHeadWords}
use Rattle.trace_text.specs.Words.{HeadWords}
use Rattle.trace_text.specs.TreeWords.{TreeHeadWords, CallWords, JoinWords, Alone, TreeAsked}

-- a head in words, by the bytes of its words
abbrev pub words_in : declared.HeadWords → HeadWords
words_in h = record { parties = h.parties.now; phase = option_copied h.phase; least = option_copied h.least; at = option_copied h.at }

abbrev pub tree_words_in : declared_tree.TreeHeadWords → TreeHeadWords
tree_words_in h = record { widths = h.widths.now; phase = option_copied h.phase; keep = h.keep; at = option_copied h.at }

abbrev pub call_words_in : declared_call.CallWords → CallWords
call_words_in (call.Join t n) = JoinWords t.now n.now
call_words_in (call.Alone c) = Alone c

abbrev pub tree_asked : declared_head.TreeHead → TreeAsked
tree_asked h = record { widths = h.widths.now; phase = h.phase; plan = h.plan }

abbrev pub barrier_words_in : declared_barrier.BarrierHeadWords → BarrierHeadWords
barrier_words_in h = record { parties = h.parties.now; fails = option_copied h.fails }
