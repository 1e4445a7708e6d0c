-- What can be explained, and how the text on it begins (own).
use Rattle.std.specs.Prelude.{ℕ, zero, suc, ◌==◌, ◌&&◌, Bool, true, false, List, [], ◌∷◌, ◌++◌, codes, decimal}
use Rattle.bsp_words.specs.declared.asked.Topic.{Topic}
use Rattle.bsp_words.specs.declared.asked.Topic.TheVariants.{All, Code, Fault, TraceCode}

-- by the numbers of a code, of a fault and of a code of a trace, 0 if none is given: a code goes before a fault, and a
-- fault before a code of a trace
abbrev pub topic_by : ℕ → ℕ → ℕ → Topic
topic_by zero zero zero = All
topic_by zero zero (suc reported) = TraceCode (suc reported)
topic_by zero (suc fault) reported = Fault (suc fault)
topic_by (suc code) fault reported = Code (suc code)

-- how the text begins
abbrev pub heading : Topic → List ℕ
heading All = codes "Codes of a job's refusals"
heading (Code n) = (codes "code " ++ decimal n) ++ codes " "
heading (TraceCode n) = (codes "trace code " ++ decimal n) ++ codes " "
heading (Fault n) = (codes "fault " ++ decimal n) ++ codes ": "

-- a text begins with another, and goes on
abbrev pub goes_on : List ℕ → List ℕ → Bool
goes_on [] [] = false
goes_on [] (c ∷ cs) = true
goes_on (h ∷ hs) [] = false
goes_on (h ∷ hs) (c ∷ cs) = (h == c) && goes_on hs cs
