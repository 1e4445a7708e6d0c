-- What of the lines above a line its fault depends on: all but the numbers of bodies.
use Rattle.std.proofs.Common.{ℕ, ◌+◌, Bool, true, false, List, [], ◌∷◌, ◌++◌, length, map, Option, Some, None, option_map, Result, Ok, Err}
use Rattle.std.specs.Prelude.{if◌then◌else◌, nat_le, nat_lt, ◌||◌, not, ℤ}
use Rattle.text_lines.specs.declared.refusal.Code.{Code}
use Rattle.text_lines.specs.declared.refusal.Code.TheVariants.{UnknownLine, Twice, TooMany}
use Rattle.text_lines.specs.Text.{is_skipped}
use Rattle.task_code.specs.Names.{is_among}
use Rattle.task_code.specs.Limits.{opened}
use Rattle.task_code.specs.Open.{Frame, InIf, InElse, InWhile}
use Rattle.task_code.specs.declared.code.Line.{Line}
use Rattle.task_code.specs.declared.code.Line.TheVariants as line
use Rattle.task_code.specs.declared.job.Start.{Start}
use Rattle.job_reader.specs.Words.{Word, Words}
use Rattle.job_reader.specs.declared.lines.Keyword.{Keyword}
use Rattle.job_reader.specs.Lines.{keyword_of, known_in, line_behind, mentions_behind}
use Rattle.job_reader.specs.declared.outer.Outer.{Outer}
use Rattle.job_reader.specs.declared.outer.Outer.TheVariants as outer
use Rattle.job_reader.specs.Trees.{JobTree, array_names, body_names}
use Rattle.job_reader.specs.Above.{Inside, Above, statements_behind}
use Rattle.job_reader.specs.Reading.{◌>>=◌, outer_of, array_of, body_of, are_apart, start_of, is_over}
use Rattle.job_reader.specs.Grammar.{locals_behind}

-- an open line
pub data Kind : Type 0 where
  AnIf : Kind
  AnElse : Kind
  AWhile : Kind

abbrev pub kind_of : Frame → Kind
kind_of (InIf e before) = AnIf
kind_of (InElse e before a) = AnElse
kind_of (InWhile e before) = AWhile

abbrev pub kinds : List Frame → List Kind
kinds fs = map kind_of fs

-- a body that is open
pub record SeenBody : Type 0 where
  pub name : Word
  pub locals : List Word
  pub open_lines : List Kind
  pub statements : ℕ

-- the format, the names of the arrays and of the bodies so far, how many start lines there are, and the open body
pub record Seen : Type 0 where
  pub format : ℕ
  pub arrays : List Word
  pub bodies : List Word
  pub starts : ℕ
  pub inside : Option SeenBody

abbrev pub seen_body : Inside → SeenBody
seen_body o = record { name = o.name; locals = o.locals; open_lines = kinds o.frames; statements = o.statements }

abbrev pub seen_of : JobTree × Option Inside → Seen
seen_of p =
    record {
      format = p.0.format;
      arrays = array_names p.0;
      bodies = body_names p.0;
      starts = length p.0.starts;
      inside = option_map seen_body p.1;
    }

abbrev pub seen : Above → Seen
seen a = seen_of (a.job, a.inside)

-- a line outside bodies
abbrev pub see_array : Seen → Word × List ℤ → Result Seen Code
see_array v x =
    if is_among v.arrays x.0 then Err Twice
    else if nat_le 16 (length v.arrays) then Err TooMany
    else Ok (record { format = v.format; arrays = v.arrays ++ x.0 ∷ []; bodies = v.bodies; starts = v.starts; inside = None })

abbrev pub see_body : Seen → Word × List Word → Result Seen Code
see_body v head =
    if is_among v.bodies head.0 || not (are_apart head.1) then Err Twice
    else if nat_le 64 (length v.bodies) || nat_lt 32 (length head.1) then Err TooMany
    else Ok (record {
      format = v.format;
      arrays = v.arrays;
      bodies = v.bodies;
      starts = v.starts;
      inside = Some (record { name = head.0; locals = head.1; open_lines = []; statements = 0 });
    })

abbrev pub see_start : Seen → Start → Result Seen Code
see_start v s =
    if nat_le 4096 v.starts then Err TooMany
    else Ok (record { format = v.format; arrays = v.arrays; bodies = v.bodies; starts = v.starts + 1; inside = None })

abbrev pub see_outer : Seen → Option Outer → Words → Result Seen Code
see_outer v None ws = Err UnknownLine
see_outer v (Some outer.Array) ws = array_of ws >>= see_array v
see_outer v (Some outer.Body) ws = body_of v.format ws >>= see_body v
see_outer v (Some outer.Start) ws = start_of [] ws >>= see_start v

-- what a line makes of the open lines: nothing if it ends the body
abbrev pub see_step : Line → List Kind → Option (List Kind)
see_step (line.Do a) ks = Some ks
see_step (line.If e n) ks = Some (AnIf ∷ ks)
see_step (line.While e n) ks = Some (AWhile ∷ ks)
see_step (line.Else n) [] = None
see_step (line.Else n) (AnIf ∷ ks) = Some (AnElse ∷ ks)
see_step (line.Else n) (AnElse ∷ ks) = None
see_step (line.Else n) (AWhile ∷ ks) = None
see_step line.EndIf [] = None
see_step line.EndIf (k ∷ ks) = Some ks
see_step (line.EndWhile e n) [] = None
see_step (line.EndWhile e n) (k ∷ ks) = Some ks

abbrev pub see_else : List Kind → Bool
see_else [] = false
see_else (AnIf ∷ ks) = true
see_else (AnElse ∷ ks) = false
see_else (AWhile ∷ ks) = false

abbrev pub see_behind : Seen → SeenBody → ℕ → Option (List Kind) → Seen
see_behind v o n None = record { format = v.format; arrays = v.arrays; bodies = v.bodies ++ o.name ∷ []; starts = v.starts; inside = None }
see_behind v o n (Some ks) =
    record {
      format = v.format;
      arrays = v.arrays;
      bodies = v.bodies;
      starts = v.starts;
      inside = Some (record { name = o.name; locals = o.locals; open_lines = ks; statements = n });
    }

abbrev pub see_said : Seen → SeenBody → Line → Result Seen Code
see_said v o l =
    if is_over (statements_behind o.statements l) (length o.locals) (opened (length o.open_lines) l) then Err TooMany
    else Ok (see_behind v o (statements_behind o.statements l) (see_step l o.open_lines))

abbrev pub see_noted : Seen → SeenBody → Option Keyword → Words → Result Seen Code
see_noted v o k ws =
    line_behind (record { arrays = v.arrays; bodies = []; locals = o.locals }) (see_else o.open_lines) k ws >>= see_said v o

abbrev pub see_mentioning : ℕ → SeenBody → Option Keyword → Words → SeenBody
see_mentioning format o k ws =
    record {
      name = o.name;
      locals = locals_behind format o.locals (mentions_behind k ws);
      open_lines = o.open_lines;
      statements = o.statements;
    }

abbrev pub see_any : Seen → Option SeenBody → Words → Result Seen Code
see_any v i [] = Err UnknownLine
see_any v (Some o) (k ∷ ws) =
    see_noted v (see_mentioning v.format o (known_in v.format (keyword_of k)) ws) (known_in v.format (keyword_of k)) ws
see_any v None (k ∷ ws) = see_outer v (outer_of k) ws

-- a line, with no look at the bodies of the text
abbrev pub see : Seen → Words → Result Seen Code
see v ws = if is_skipped ws then Ok v else see_any v v.inside ws
