-- A text that is too long is refused at its first line.
use Rattle.std.proofs.Common.{◌≡◌, ℕ, ◌<◌, Bool, List, length, Err, ap}
use Rattle.std.specs.Prelude.{if◌then◌else◌}
use Rattle.std.proofs.lemmas.Bool.{lt-ltb}
use Rattle.text_lines.specs.declared.refusal.Code.TheVariants.{TooLong}
use Rattle.text_lines.specs.Text.{lines_of, bad_byte_line}
use Rattle.job_reader.specs.Reading.{refused, declared, read_from, unless_bad, job_in}

pub long-refused : (text : List ℕ) → 1048576 < length text → job_in text ≡ Err (record { line = 1; code = TooLong })
unfolding job_in
long-refused text h =
    ap
    (λ (b : Bool). if b then refused 1 TooLong
    else unless_bad (bad_byte_line 1 text) (read_from (declared (lines_of text)) 1 (lines_of text)))
    (lt-ltb 1048576 (length text) h)
