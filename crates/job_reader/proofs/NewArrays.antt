-- An array line's name and cells, if the job so far has no such array.
use Rattle.std.proofs.Common.{◌≡◌, ℕ, ◌≤◌, true, false, ◌&&◌, List, [], ◌∷◌, length, map, Ok, ℤ, refl, sym, ap, ◌∙◌, arith, ◌^◌}
use Rattle.std.specs.Prelude.{nat_le}
use Rattle.std.specs.Str.{bytes_eq}
use Rattle.std.proofs.lemmas.Grind.{common_steps}
use Rattle.superstep_memory.specs.Cells.{has_array, IsNew}
use Rattle.task_code.specs.Names.{is_free, is_among}
use Rattle.job_reader.specs.Words.{Word, Words}
use Rattle.job_reader.specs.Views.{lent}
use Rattle.job_reader.proofs.GrowLemmas.{and-right}
use Rattle.job_reader.specs.declared.so_far.SoFar.{SoFar}
use Rattle.job_reader.specs.Kept.{HasSoFar}
use Rattle.job_reader.specs.Reading.{array_of}
use Rattle.job_reader.proofs.WrittenLemmas.{or-left, or-right}
use Rattle.job_reader.proofs.NotedNames.{or-false, turned}
use Rattle.job_reader.proofs.KeptLines.{array-read}

among-arrays : (arrays : List (Word × List ℤ)) (w : Word) → is_among (map (λ a. a.0) arrays) w ≡ false → has_array arrays w ≡ false
among-arrays [] w e = refl
among-arrays (a ∷ rest) w e =
    or-false (bytes_eq w a.0) (has_array rest w)
    (turned a.0 w (bytes_eq w a.0) refl (or-left (bytes_eq a.0 w) (is_among (map (λ a. a.0) rest) w) e))
    (among-arrays rest w (or-right (bytes_eq a.0 w) (is_among (map (λ a. a.0) rest) w) e))

few-cells : (n : ℕ) → nat_le n 4096 ≡ true → n ≤ 2 ^ 32
few-cells n e = grind (arith, common_steps)

pub array-new : (r : SoFar) (names : List Word) (ws : Words) (text name : Word) (cells : List ℤ) → HasSoFar r
    → names ≡ lent r.array_names.items → is_among names name ≡ false
    → text ≡ name → array_of ws ≡ Ok (name, cells) → IsNew r.arrays text cells
array-new r names ws text name cells h n out same e =
    let read = array-read ws (name, cells) e in
    let all : names ≡ map (λ a. a.0) r.arrays = n ∙ h.1.array_names ∙ sym (ap (map (λ a. a.0)) h.1.arrays) in (
      among-arrays r.arrays text (ap (is_among (map (λ a. a.0) r.arrays)) same ∙ ap (λ (x : List Word). is_among x name) (sym all) ∙ out),
      few-cells (length cells) (and-right (is_free name && nat_le 1 (length cells)) (nat_le (length cells) 4096) read.1),
    )
