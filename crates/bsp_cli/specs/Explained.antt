-- What `explain` prints (own).
use Rattle.std.specs.Prelude.{◌≡◌, ℕ, true, List, Option}
use Rattle.std.specs.Io.KnownBytes.{Appends}
use Rattle.phase_records.specs.Device.{AppendsBeginning}
use Rattle.bsp_words.specs.Topics.{goes_on, heading}
use Rattle.bsp_words.specs.declared.asked.Topic.{Topic}

-- a text on this topic was written
abbrev pub WritesTopic : Topic → Option (List ℕ) → Option (List ℕ) → Type 0
WritesTopic topic old new = (text : List ℕ) × (goes_on (heading topic) text ≡ true) × Appends old new text

-- or a beginning of one
abbrev pub BeginsTopic : Topic → Option (List ℕ) → Option (List ℕ) → Type 0
BeginsTopic topic old new = (text : List ℕ) × (goes_on (heading topic) text ≡ true) × AppendsBeginning old new text
