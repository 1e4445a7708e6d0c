-- What can be asked for (own).
use Rattle.std.specs.Prelude.{◌≤◌}
use Rattle.bsp_words.specs.declared.asked.Topic.{Topic}
use Rattle.bsp_words.specs.declared.asked.Topic.TheVariants.{All, Code, Fault, TraceCode}
use Rattle.bsp_words.specs.declared.asked.Asked.{Asked}
use Rattle.bsp_words.specs.declared.asked.Asked.TheVariants.{Run, RunJson, RunStream, Draw, Explain}

-- there is such a code or fault
abbrev pub IsTopic : Topic → Type 0
IsTopic All = Unit {0}
IsTopic (Code n) = (1 ≤ n) × (n ≤ 14)
IsTopic (Fault n) = (1 ≤ n) × (n ≤ 8)
IsTopic (TraceCode n) = (1 ≤ n) × (n ≤ 12)

-- workers and limit are in range, and there is what is to be explained
abbrev pub IsAsked : Asked → Type 0
IsAsked (Run workers limit) = ((1 ≤ workers) × (workers ≤ 64)) × ((1 ≤ limit) × (limit ≤ 1000000))
IsAsked (RunJson workers limit) = ((1 ≤ workers) × (workers ≤ 64)) × ((1 ≤ limit) × (limit ≤ 1000000))
IsAsked (RunStream workers limit) = ((1 ≤ workers) × (workers ≤ 64)) × ((1 ≤ limit) × (limit ≤ 1000000))
IsAsked (Explain topic) = IsTopic topic
IsAsked (Draw workers limit) = ((1 ≤ workers) × (workers ≤ 64)) × ((1 ≤ limit) × (limit ≤ 1000000))
IsAsked _ = Unit {0}
