-- The command line (own): the program's name, a subcommand, and its options.
use Rattle.std.specs.Prelude.{ℕ, ◌&&◌, ◌||◌, Bool, true, false, not, pos, nat_le, nat_lt, if◌then◌else◌, List, [], ◌∷◌, codes, Option, Some, None}
use Rattle.std.specs.List.{list_all}
use Rattle.std.specs.Str.{bytes_eq}
use Rattle.std.specs.Str.Parse.{digits_value, without_leading_plus}
use Rattle.std.specs.Option.{unwrap_or}
use Rattle.clap.specs.Kinds.{or_else}
use Rattle.clap.specs.Words.{App, Kinds, Row, Rule, fault_of, first_of, new_app, new_rule, one_of, subcommand_of, with_rule, with_subcommand}
use Rattle.clap.specs.ValueTests.{is_unsigned_in}
use Rattle.clap.specs.declared.builder.action.ArgAction.TheVariants.{Set, SetTrue}
use Rattle.clap.specs.declared.builder.value_parser.ValueParser.{ValueParser}
use Rattle.clap.specs.declared.builder.value_parser.ValueParser.TheVariants as parser
use Rattle.clap.specs.declared.error.kind.ErrorKind.{ErrorKind}
use Rattle.clap.specs.declared.error.kind.ErrorKind.TheVariants as kinds
use Rattle.job_view.specs.Look.{LookValue}
use Rattle.job_view.specs.Words.{are_widths, words_in}
use Rattle.bsp_words.specs.Topics.{topic_by}
use Rattle.bsp_words.specs.declared.asked.Topic.{Topic}
use Rattle.bsp_words.specs.declared.asked.Asked.{Asked}
use Rattle.bsp_words.specs.declared.asked.Asked.TheVariants.{Trace, Check, CheckAll, Upgrade, Run, RunJson, RunStream, Draw, Explain}

-- an argument that is one of these numbers
abbrev pub numbers_rule : List ℕ → ValueParser → Rule
numbers_rule name numbers = record (new_rule name) {
  value_names = 1;
  action = Some Set;
  parser = Some numbers;
}

-- an option that is a number, from 1 to the most
abbrev pub number_rule : List ℕ → ℕ → Rule
number_rule name most = record (numbers_rule name (parser.Signed (pos 1) (pos most))) { long = Some name }

-- an option with any text
abbrev pub text_rule : List ℕ → Rule
text_rule name = record (new_rule name) {
  long = Some name;
  value_names = 1;
  action = Some Set;
}

-- an option without a value
abbrev pub flag_rule : List ℕ → Rule
flag_rule name = record (new_rule name) {
  long = Some name;
  action = Some SetTrue;
}

-- `--tree WIDTHS`, any text
abbrev pub tree_rule : Rule
tree_rule = text_rule (codes "tree")

-- `-f FILE`, or `--file FILE`, any text
abbrev pub file_rule : Rule
file_rule = record (text_rule (codes "file")) { short = Some 102 }

-- a subcommand that reads a text
abbrev pub text_app : List ℕ → App
text_app name = with_rule (new_app name) file_rule

-- `--all`
abbrev pub all_rule : Rule
all_rule = flag_rule (codes "all")

abbrev pub check_app : App
check_app = with_rule (text_app (codes "check")) all_rule

-- a subcommand that runs a job, with the options of both
abbrev pub job_app : List ℕ → App
job_app name =
    with_rule (with_rule (with_rule (text_app name) (number_rule (codes "workers") 64)) tree_rule) (number_rule (codes "limit") 1000000)

-- `--progress`
abbrev pub progress_rule : Rule
progress_rule = flag_rule (codes "progress")

-- `--json`
abbrev pub json_rule : Rule
json_rule = flag_rule (codes "json")

-- `--stream`
abbrev pub stream_rule : Rule
stream_rule = flag_rule (codes "stream")

abbrev pub run_app : App
run_app = with_rule (with_rule (with_rule (job_app (codes "run")) progress_rule) json_rule) stream_rule

-- `draw`, with `--width`, `--over-time` and `--title`
abbrev pub draw_app : App
draw_app =
    with_rule (with_rule (with_rule (job_app (codes "draw")) (text_rule (codes "width"))) (text_rule (codes "over-time")))
    (text_rule (codes "title"))

-- the number of a code, a word without a dash
abbrev pub code_rule : Rule
code_rule = numbers_rule (codes "code") (parser.Signed (pos 1) (pos 14))

abbrev pub explain_app : App
explain_app =
    with_rule (with_rule (with_rule (new_app (codes "explain")) code_rule) (number_rule (codes "fault") 8)) (number_rule (codes "trace") 12)

abbrev pub bare : App
bare = new_app (codes "bsp")

-- what the parser takes
abbrev pub program : App
program =
    with_subcommand
    (with_subcommand
    (with_subcommand
    (with_subcommand
    (with_subcommand
    (with_subcommand (record bare { top = record bare.top { subcommand_required = true; has_version = true } }) (text_app (codes "trace")).top)
    check_app.top)
    (text_app (codes "upgrade")).top)
    run_app.top)
    draw_app.top)
    explain_app.top

-- the number of an option, from 1 to the most; the default if it isn't given
abbrev pub number_from : ℕ → ℕ → Option (List ℕ) → ℕ
number_from most usual None = usual
number_from most usual (Some text) = if is_unsigned_in 1 most text then digits_value 10 (without_leading_plus text) else usual

-- one worker, unless others are asked for
abbrev pub workers_in : List Row → ℕ
workers_in rows = number_from 64 1 (one_of (codes "workers") rows)

-- a limit that isn't given is 1000000
abbrev pub limit_in : List Row → ℕ
limit_in rows = number_from 1000000 1000000 (one_of (codes "limit") rows)

-- what is to be explained
abbrev pub topic_in : List Row → Topic
topic_in rows =
    topic_by (number_from 14 0 (one_of (codes "code") rows)) (number_from 8 0 (one_of (codes "fault") rows))
    (number_from 12 0 (one_of (codes "trace") rows))

-- whether a flag is given, by the text that says so
abbrev pub is_set : Option (List ℕ) → Bool
is_set None = false
is_set (Some text) = bytes_eq text (codes "true")

abbrev pub flag_in : List ℕ → List Row → Bool
flag_in name rows = is_set (first_of name rows)

-- a tree that isn't given is the root alone
abbrev pub tree_in : List Row → List ℕ
tree_in rows = unwrap_or (first_of (codes "tree") rows) (codes "flat")

-- the file that the text is read from: none for standard input. A hyphen names it too.
abbrev pub unless_hyphen : Option (List ℕ) → Option (List ℕ)
unless_hyphen None = None
unless_hyphen (Some text) = if bytes_eq text (codes "-") then None else Some text

abbrev pub file_in : List Row → Option (List ℕ)
file_in rows = unless_hyphen (first_of (codes "file") rows)

-- the title of a picture: the file's name, unless another is given
abbrev pub title_or : Option (List ℕ) → Option (List ℕ) → Option (List ℕ)
title_or None file = file
title_or (Some title) file = Some title

-- what is asked of a picture
abbrev pub look_in : List Row → LookValue
look_in rows = record {
  title = title_or (first_of (codes "title") rows) (file_in rows);
  widths = unwrap_or (first_of (codes "width") rows) [];
  over_time = unwrap_or (first_of (codes "over-time") rows) [];
}

-- nothing
abbrev pub no_look : LookValue
no_look = record { title = None; widths = []; over_time = [] }

-- the number that was read, if it is one from 1 to the most
abbrev pub chosen : ℕ → ℕ → Option ℕ → ℕ
chosen most usual None = usual
chosen most usual (Some n) = if nat_le 1 n && nat_le n most then n else usual

-- what `check` asks for: the job alone, or also its faulty lines
abbrev pub check_by : Bool → Asked
check_by all = if all then CheckAll else Check

-- what `run` asks for: its report as a text, as JSON, or as a text that is written superstep by superstep
abbrev pub run_by : Bool → Bool → ℕ → ℕ → Asked
run_by json stream workers limit = if json then RunJson workers limit else if stream then RunStream workers limit else Run workers limit

-- what a subcommand asks for, by its name and its options
abbrev pub asked_by : Option (List ℕ × List Row) → Asked
asked_by None = Trace
asked_by (Some p) =
    if bytes_eq p.0 (codes "check") then check_by (flag_in (codes "all") p.1)
    else if bytes_eq p.0 (codes "upgrade") then Upgrade
    else if bytes_eq p.0 (codes "explain") then Explain (topic_in p.1)
    else if bytes_eq p.0 (codes "run")
    then run_by (flag_in (codes "json") p.1) (flag_in (codes "stream") p.1) (workers_in p.1) (limit_in p.1)
    else if bytes_eq p.0 (codes "draw") then Draw (workers_in p.1) (limit_in p.1) else Trace

-- the text of the tree at which workers meet; traces, and texts that are checked or upgraded, have none
abbrev pub tree_by : Option (List ℕ × List Row) → List ℕ
tree_by None = codes "flat"
tree_by (Some p) =
    if bytes_eq p.0 (codes "check") then codes "flat"
    else if bytes_eq p.0 (codes "upgrade") then codes "flat"
    else if bytes_eq p.0 (codes "explain") then codes "flat"
    else if bytes_eq p.0 (codes "run") then tree_in p.1
    else if bytes_eq p.0 (codes "draw") then tree_in p.1 else codes "flat"

-- the file that a subcommand names
abbrev pub file_by : Option (List ℕ × List Row) → Option (List ℕ)
file_by None = None
file_by (Some p) = file_in p.1

-- what a subcommand asks of a picture
abbrev pub look_by : Option (List ℕ × List Row) → LookValue
look_by None = no_look
look_by (Some p) =
    if bytes_eq p.0 (codes "check") then no_look
    else if bytes_eq p.0 (codes "upgrade") then no_look
    else if bytes_eq p.0 (codes "explain") then no_look
    else if bytes_eq p.0 (codes "run") then no_look
    else if bytes_eq p.0 (codes "draw") then look_in p.1 else no_look

-- what words ask for, if they are taken
abbrev pub asked_in : List (List ℕ) → Asked
asked_in words = asked_by (subcommand_of program words)

-- the text of the tree that words ask for, if they are taken
abbrev pub tree_asked : List (List ℕ) → List ℕ
tree_asked words = tree_by (subcommand_of program words)

-- what words ask of a picture, if they are taken
abbrev pub look_asked : List (List ℕ) → LookValue
look_asked words = look_by (subcommand_of program words)

-- the file that words name, if they are taken: none if standard input is read
abbrev pub file_asked : List (List ℕ) → Option (List ℕ)
file_asked words = file_by (subcommand_of program words)

-- a report both as JSON and superstep by superstep
abbrev pub asks_both : List Row → Bool
asks_both rows = flag_in (codes "json") rows && flag_in (codes "stream") rows

-- more than one of a code, a fault and a code of a trace; 0 is none
abbrev pub are_two : ℕ → ℕ → ℕ → Bool
are_two code fault reported = (nat_lt 0 code && nat_lt 0 fault) || ((nat_lt 0 code || nat_lt 0 fault) && nat_lt 0 reported)

abbrev pub asks_two : List Row → Bool
asks_two rows =
    are_two (number_from 14 0 (one_of (codes "code") rows)) (number_from 8 0 (one_of (codes "fault") rows))
    (number_from 12 0 (one_of (codes "trace") rows))

-- widths that are none, or two for one array
abbrev pub asks_no_widths : List Row → Bool
asks_no_widths rows = not (are_widths (words_in (unwrap_or (first_of (codes "width") rows) [])))

-- the words of a command that ask for two things at once, or for widths that are none
abbrev pub clash_in : List ℕ → List Row → Bool
clash_in name rows =
    if bytes_eq name (codes "run") then asks_both rows
    else if bytes_eq name (codes "explain") then asks_two rows
    else if bytes_eq name (codes "draw") then asks_no_widths rows else false

abbrev pub clashes_by : Option (List ℕ × List Row) → Bool
clashes_by None = false
clashes_by (Some p) = clash_in p.0 p.1

abbrev pub clash_kinds : Bool → Kinds
clash_kinds clashes = if clashes then kinds.ArgumentConflict ∷ [] else []

-- why words are not taken: nothing if they are
abbrev pub refused_by : List (List ℕ) → Kinds
refused_by words = or_else (fault_of program words) (clash_kinds (clashes_by (subcommand_of program words)))

-- words that are refused: neither taken nor a call for help or for the version
abbrev pub is_refusal : ErrorKind → Bool
is_refusal kinds.DisplayHelp = false
is_refusal kinds.DisplayVersion = false
is_refusal kind = true

abbrev pub are_refused : Kinds → Bool
are_refused [] = false
are_refused (k ∷ ks) = list_all is_refusal (k ∷ ks)

-- what `--version` prints
abbrev pub version_line : List ℕ
version_line = codes "bsp 0.2.0, reads jobs of formats 1 and 2\n"
