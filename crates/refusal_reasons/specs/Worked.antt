-- Texts with several faulty lines, worked out by hand (own).
use Rattle.std.specs.Prelude.{◌≡◌, ℕ, [], ◌∷◌, codes, None}
use Rattle.text_lines.specs.declared.refusal.Code.{Code}
use Rattle.text_lines.specs.declared.refusal.Code.TheVariants.{TooLong, BadByte, BadHeader, UnknownLine, BadNumber, BadLine, UnknownName, Unclosed, Reserved}
use Rattle.text_lines.specs.declared.refusal.Refusal.{Refusal}
use Rattle.refusal_reasons.specs.Faults.{faults_in, repaired}
use Rattle.refusal_reasons.specs.Listing.{listing}

abbrev pub at : ℕ → Code → Refusal
at line code = record { line = line; code = code }

pub record FaultsAreWorkedOut : Type 0 where
  pub none : faults_in (codes "bsp 1\nbody b\nend\nstart b 0\n") ≡ []
  -- lines of a body
  pub lines : faults_in (codes "bsp 1\nbody b\nlet x = 05\nput c[0] = 1\nend\nshow\n")
      ≡ at 3 BadNumber ∷ at 4 UnknownName ∷ at 6 UnknownLine ∷ []
  -- a block stays a block
  pub blocks : faults_in (codes "bsp 1\nbody b\nwhile 1 <\nend 1\nend\nshow\n") ≡ at 3 BadLine ∷ at 4 BadLine ∷ at 6 UnknownLine ∷ []
  -- bodies that aren't there come last, each by its line
  pub missing : faults_in (codes "bsp 1\nstart c 0\nstart d 0\nshow\n") ≡ at 4 UnknownLine ∷ at 2 UnknownName ∷ at 3 UnknownName ∷ []
  -- bytes that aren't allowed come first
  pub bytes : faults_in (codes "bsp 1\nshow\n\t\n") ≡ at 3 BadByte ∷ at 2 UnknownLine ∷ []
  -- these end the list
  pub unclosed : faults_in (codes "bsp 1\nstart c 0\nbody b\n") ≡ at 4 Unclosed ∷ []
  pub header : faults_in (codes "bsp 3\nshow\n") ≡ at 1 BadHeader ∷ []
  -- and so does a text that is too long
  pub too_long : repaired (codes "show\n") (at 1 TooLong) ≡ None
  pub reported : listing (codes "bsp 1\nbody b\nlet x = 05\nput c[0] = 1\nend\nshow\n")
      ≡ codes "line 3 code 6 BadNumber\nline 4 code 9 UnknownName\nline 6 code 4 UnknownLine\n"
  -- a block whose test is a reserved word
  pub reserved : faults_in (codes "bsp 1\nbody b\nif sync\nend\nend\nshow\n") ≡ at 3 Reserved ∷ at 6 UnknownLine ∷ []
  pub bodies : faults_in (codes "bsp 1\nbody b b\nshow\nend\n") ≡ at 2 BadLine ∷ []
