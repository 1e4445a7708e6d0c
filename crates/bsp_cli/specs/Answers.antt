-- What the program does with the words of a command line.
use Rattle.std.specs.Prelude.{◌≡◌, ◌≢◌, ◌≤◌, ◌⊎◌, ℕ, true, List, [], ◌∷◌, Option, IsOk, IsErr}
use Rattle.std.specs.Io.KnownBytes.{Appends}
use Rattle.clap.specs.declared.error.kind.ErrorKind.TheVariants as kinds
use Rattle.tier_shape.specs.InText.{shape_in_text}
use Rattle.bsp_words.specs.CommandLine.{are_refused, asked_in, look_asked, refused_by, tree_asked, version_line}
use Rattle.bsp_cli.specs.Did.{Did, ReadsNothing}
use Rattle.bsp_cli.specs.Texts.{CountsFailures, Says, Tells, WritesSome}

-- Devices before and after a run: a device as a whole, what it holds or will give, and how often it failed.
pub record Around (D : Type 0) : Type 0 where
  pub before : D
  pub after : D
  pub bytes : D → Option (List ℕ)
  pub failures : D → ℕ

abbrev pub around : {D : Type 0} → (D → Option (List ℕ)) → (D → ℕ) → D → D → Around D
around bytes failures before after = record { before = before; after = after; bytes = bytes; failures = failures }

-- the device is as it was
abbrev pub IsSame : {D : Type 0} → Around D → Type 0
IsSame d = d.after ≡ d.before

-- The status that words end with, and what was read, written and reported: words that are taken do what they ask for,
-- at the tree that they ask for; help and the version are written; other words are refused, and nothing is read.
pub record AnswersWords {R W E : Type 0} (words : List (List ℕ)) (reader : Around R) (writer : Around W) (errors : Around E)
    (status : ℕ) : Type 0 where
  pub did : refused_by words ≡ []
      → Did (asked_in words) (look_asked words) (reader.bytes reader.before) (writer.bytes writer.before) (writer.bytes writer.after)
      (Tells (errors.bytes errors.before) (errors.bytes errors.after) (errors.failures errors.before) (errors.failures errors.after)) status
  pub taken : refused_by words ≡ [] → IsOk (shape_in_text (tree_asked words)) → status ≢ 5
  pub reads_nothing : refused_by words ≡ [] → ReadsNothing (asked_in words) → IsSame reader
  pub no_tree : refused_by words ≡ [] → IsErr (shape_in_text (tree_asked words))
      → IsSame reader × IsSame writer × ((status ≡ 5) ⊎ (status ≡ 6))
  pub helps : refused_by words ≡ kinds.DisplayHelp ∷ [] → IsSame reader × ((status ≡ 0) ⊎ (status ≡ 6) ⊎ (status ≡ 8))
  pub tells_version : refused_by words ≡ kinds.DisplayVersion ∷ [] → IsSame reader × ((status ≡ 0) ⊎ (status ≡ 6) ⊎ (status ≡ 8))
  pub helped : refused_by words ≡ kinds.DisplayHelp ∷ [] → status ≡ 0 → WritesSome (writer.bytes writer.before) (writer.bytes writer.after)
  pub versioned : refused_by words ≡ kinds.DisplayVersion ∷ [] → status ≡ 0
      → Appends (writer.bytes writer.before) (writer.bytes writer.after) version_line
  pub refuses : are_refused (refused_by words) ≡ true → (status ≡ 5) ⊎ (status ≡ 6)
  pub untouched : refused_by words ≢ [] → IsSame reader
  pub nothing_written : refused_by words ≢ [] → status ≡ 6 → IsSame writer
  pub within : status ≤ 9
  pub silent : status ≤ 3 → IsSame errors
  pub command_line_refused : status ≡ 5 → IsSame reader × IsSame writer
  pub says : Says status (errors.bytes errors.before) (errors.bytes errors.after) (errors.failures errors.before)
      (errors.failures errors.after)
  pub counts : CountsFailures status (reader.failures reader.before) (reader.failures reader.after) (writer.failures writer.before)
      (writer.failures writer.after)
