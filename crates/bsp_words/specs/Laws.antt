-- What words ask for, and words that are refused (own).
use Rattle.std.specs.Prelude.{◌≡◌, ◌≤◌, ℕ, true, false, List, [], ◌∷◌, Option, Some, None, codes, decimal}
use Rattle.std.specs.Str.Parse.{digits_value, starts_with_minus, without_leading_plus}
use Rattle.clap.specs.ValueTests.{is_unsigned_in}
use Rattle.job_view.specs.Look.{LookValue}
use Rattle.bsp_words.specs.CommandLine.{are_refused, asked_in, file_asked, look_asked, no_look, refused_by, tree_asked}
use Rattle.clap.specs.declared.error.kind.ErrorKind.TheVariants.{DisplayHelp, DisplayVersion}
use Rattle.bsp_words.specs.declared.asked.Topic.TheVariants.{All, Code, Fault, TraceCode}
use Rattle.bsp_words.specs.declared.asked.Asked.{Asked}
use Rattle.bsp_words.specs.declared.asked.Asked.TheVariants.{Trace, Check, CheckAll, Upgrade, Run, RunJson, RunStream, Draw, Explain}

-- words that are taken, and what they ask for
abbrev pub Asks : List (List ℕ) → Asked → Type 0
Asks words a = (refused_by words ≡ []) × (asked_in words ≡ a)

-- words that are taken, and the tree that they ask for
abbrev pub AsksTree : List (List ℕ) → List ℕ → Type 0
AsksTree words text = (refused_by words ≡ []) × (tree_asked words ≡ text)

-- words that are taken, and the file that they name, if any
abbrev pub Reads : List (List ℕ) → Option (List ℕ) → Type 0
Reads words file = (refused_by words ≡ []) × (file_asked words ≡ file)

abbrev pub AreRefused : List (List ℕ) → Type 0
AreRefused words = are_refused (refused_by words) ≡ true

-- the program under any name, a subcommand after it, and the options of `run` and `draw`
pub record WordsAsk (name : List ℕ) : Type 0 where
  pub trace : Asks (name ∷ codes "trace" ∷ []) Trace
  pub check : Asks (name ∷ codes "check" ∷ []) Check
  pub check_all : Asks (name ∷ codes "check" ∷ codes "--all" ∷ []) CheckAll
  pub check_all_file : Asks (name ∷ codes "check" ∷ codes "--all" ∷ codes "-f" ∷ codes "a" ∷ []) CheckAll
  pub upgrade : Asks (name ∷ codes "upgrade" ∷ []) Upgrade
  pub run : Asks (name ∷ codes "run" ∷ []) (Run 1 1000000)
  pub least : Asks (name ∷ codes "run" ∷ codes "--limit" ∷ codes "1" ∷ []) (Run 1 1)
  pub most : Asks (name ∷ codes "run" ∷ codes "--limit" ∷ codes "1000000" ∷ []) (Run 1 1000000)
  pub joined : Asks (name ∷ codes "run" ∷ codes "--limit=3" ∷ []) (Run 1 3)
  pub one_worker : Asks (name ∷ codes "run" ∷ codes "--workers" ∷ codes "1" ∷ []) (Run 1 1000000)
  pub many_workers : Asks (name ∷ codes "run" ∷ codes "--workers" ∷ codes "64" ∷ codes "--limit" ∷ codes "7" ∷ []) (Run 64 7)
  pub flat : AsksTree (name ∷ codes "run" ∷ []) (codes "flat")
  pub tree : AsksTree (name ∷ codes "run" ∷ codes "--tree" ∷ codes "2x3" ∷ []) (codes "2x3")
  pub progress : Asks (name ∷ codes "run" ∷ codes "--progress" ∷ codes "--limit" ∷ codes "7" ∷ []) (Run 1 7)
  pub json : Asks (name ∷ codes "run" ∷ codes "--json" ∷ []) (RunJson 1 1000000)
  pub json_first : Asks (name ∷ codes "run" ∷ codes "--json" ∷ codes "--workers" ∷ codes "4" ∷ codes "--limit" ∷ codes "7" ∷ [])
      (RunJson 4 7)
  pub json_last : Asks (name ∷ codes "run" ∷ codes "-f" ∷ codes "a" ∷ codes "--progress" ∷ codes "--limit=7" ∷ codes "--json" ∷ [])
      (RunJson 1 7)
  pub json_tree : AsksTree (name ∷ codes "run" ∷ codes "--json" ∷ codes "--tree" ∷ codes "2x3" ∷ []) (codes "2x3")
  pub stream : Asks (name ∷ codes "run" ∷ codes "--stream" ∷ []) (RunStream 1 1000000)
  pub stream_first : Asks (name ∷ codes "run" ∷ codes "--stream" ∷ codes "--workers" ∷ codes "4" ∷ codes "--limit" ∷ codes "7" ∷ [])
      (RunStream 4 7)
  pub stream_last : Asks (name ∷ codes "run" ∷ codes "--progress" ∷ codes "--limit=7" ∷ codes "--stream" ∷ []) (RunStream 1 7)
  pub stream_tree : AsksTree (name ∷ codes "run" ∷ codes "--stream" ∷ codes "--tree" ∷ codes "2x3" ∷ []) (codes "2x3")
  pub explain : Asks (name ∷ codes "explain" ∷ []) (Explain All)
  pub explain_code : Asks (name ∷ codes "explain" ∷ codes "14" ∷ []) (Explain (Code 14))
  pub explain_fault : Asks (name ∷ codes "explain" ∷ codes "--fault" ∷ codes "8" ∷ []) (Explain (Fault 8))
  pub explain_trace : Asks (name ∷ codes "explain" ∷ codes "--trace" ∷ codes "12" ∷ []) (Explain (TraceCode 12))
  pub draw : Asks (name ∷ codes "draw" ∷ []) (Draw 1 1000000)
  pub drawn_by : Asks (name ∷ codes "draw" ∷ codes "--workers" ∷ codes "64" ∷ codes "--limit" ∷ codes "7" ∷ []) (Draw 64 7)
  pub drawn_at : AsksTree (name ∷ codes "draw" ∷ codes "--tree" ∷ codes "2x3" ∷ []) (codes "2x3")

-- each subcommand that reads a text reads it from a file that is named, and else, or from a hyphen, from standard input
pub record WordsNameFiles (name : List ℕ) : Type 0 where
  pub run : Reads (name ∷ codes "run" ∷ []) None
  pub run_short : Reads (name ∷ codes "run" ∷ codes "-f" ∷ codes "swap.job" ∷ []) (Some (codes "swap.job"))
  pub run_long : Reads (name ∷ codes "run" ∷ codes "--file" ∷ codes "swap.job" ∷ []) (Some (codes "swap.job"))
  pub run_joined : Reads (name ∷ codes "run" ∷ codes "--file=swap.job" ∷ []) (Some (codes "swap.job"))
  pub run_attached : Reads (name ∷ codes "run" ∷ codes "-fswap.job" ∷ []) (Some (codes "swap.job"))
  pub run_hyphen : Reads (name ∷ codes "run" ∷ codes "-f" ∷ codes "-" ∷ []) None
  pub run_among : Reads (name ∷ codes "run" ∷ codes "--limit" ∷ codes "7" ∷ codes "-f" ∷ codes "a" ∷ codes "--progress" ∷ [])
      (Some (codes "a"))
  pub draw : Reads (name ∷ codes "draw" ∷ codes "-f" ∷ codes "swap.job" ∷ []) (Some (codes "swap.job"))
  pub check : Reads (name ∷ codes "check" ∷ codes "-f" ∷ codes "swap.job" ∷ []) (Some (codes "swap.job"))
  pub check_all : Reads (name ∷ codes "check" ∷ codes "-f" ∷ codes "swap.job" ∷ codes "--all" ∷ []) (Some (codes "swap.job"))
  pub upgrade : Reads (name ∷ codes "upgrade" ∷ codes "--file" ∷ codes "swap.job" ∷ []) (Some (codes "swap.job"))
  pub trace : Reads (name ∷ codes "trace" ∷ codes "-f" ∷ codes "first.trace" ∷ []) (Some (codes "first.trace"))
  pub trace_none : Reads (name ∷ codes "trace" ∷ []) None
  pub explain : Reads (name ∷ codes "explain" ∷ codes "3" ∷ []) None

-- words that are taken, and what they ask of a picture
abbrev pub Looks : List (List ℕ) → LookValue → Type 0
Looks words look = (refused_by words ≡ []) × (look_asked words ≡ look)

-- a picture is as it always was, unless a width, arrays over supersteps, a title or a file is given; a title is given before a file's name
pub record WordsLook (name : List ℕ) : Type 0 where
  pub plain : Looks (name ∷ codes "draw" ∷ []) no_look
  pub other : Looks (name ∷ codes "run" ∷ codes "-f" ∷ codes "a" ∷ []) no_look
  pub width : Looks (name ∷ codes "draw" ∷ codes "--width" ∷ codes "a=3" ∷ []) (record no_look { widths = codes "a=3" })
  pub over_time : Looks (name ∷ codes "draw" ∷ codes "--over-time=a,b" ∷ []) (record no_look { over_time = codes "a,b" })
  pub title : Looks (name ∷ codes "draw" ∷ codes "--title" ∷ codes "T" ∷ []) (record no_look { title = Some (codes "T") })
  pub file : Looks (name ∷ codes "draw" ∷ codes "-f" ∷ codes "a.job" ∷ []) (record no_look { title = Some (codes "a.job") })
  pub both : Looks (name ∷ codes "draw" ∷ codes "-f" ∷ codes "a.job" ∷ codes "--title" ∷ codes "T" ∷ [])
      (record no_look { title = Some (codes "T") })

-- words that aren't taken
pub record WordsAreRefused (name : List ℕ) : Type 0 where
  pub nothing : AreRefused (name ∷ [])
  pub unknown : AreRefused (name ∷ codes "runs" ∷ [])
  pub more : AreRefused (name ∷ codes "check" ∷ codes "job" ∷ [])
  pub more_upgrade : AreRefused (name ∷ codes "upgrade" ∷ codes "job" ∷ [])
  pub no_code : AreRefused (name ∷ codes "explain" ∷ codes "0" ∷ [])
  pub other_code : AreRefused (name ∷ codes "explain" ∷ codes "15" ∷ [])
  pub two_codes : AreRefused (name ∷ codes "explain" ∷ codes "1" ∷ codes "2" ∷ [])
  pub other_fault : AreRefused (name ∷ codes "explain" ∷ codes "--fault" ∷ codes "9" ∷ [])
  pub code_and_fault : AreRefused (name ∷ codes "explain" ∷ codes "--fault" ∷ codes "8" ∷ codes "3" ∷ [])
  pub code_and_trace : AreRefused (name ∷ codes "explain" ∷ codes "3" ∷ codes "--trace" ∷ codes "4" ∷ [])
  pub fault_and_trace : AreRefused (name ∷ codes "explain" ∷ codes "--trace" ∷ codes "4" ∷ codes "--fault" ∷ codes "2" ∷ [])
  pub other_trace : AreRefused (name ∷ codes "explain" ∷ codes "--trace" ∷ codes "13" ∷ [])
  pub progress_drawn : AreRefused (name ∷ codes "draw" ∷ codes "--progress" ∷ [])
  pub progress_twice : AreRefused (name ∷ codes "run" ∷ codes "--progress" ∷ codes "--progress" ∷ [])
  pub all_run : AreRefused (name ∷ codes "run" ∷ codes "--all" ∷ [])
  pub all_upgraded : AreRefused (name ∷ codes "upgrade" ∷ codes "--all" ∷ [])
  pub all_twice : AreRefused (name ∷ codes "check" ∷ codes "--all" ∷ codes "--all" ∷ [])
  pub json_drawn : AreRefused (name ∷ codes "draw" ∷ codes "--json" ∷ [])
  pub json_checked : AreRefused (name ∷ codes "check" ∷ codes "--json" ∷ [])
  pub json_twice : AreRefused (name ∷ codes "run" ∷ codes "--json" ∷ codes "--json" ∷ [])
  pub json_value : AreRefused (name ∷ codes "run" ∷ codes "--json=true" ∷ [])
  pub json_streamed : AreRefused (name ∷ codes "run" ∷ codes "--json" ∷ codes "--stream" ∷ [])
  pub streamed_json : AreRefused (name ∷ codes "run" ∷ codes "--stream" ∷ codes "--workers" ∷ codes "4" ∷ codes "--json" ∷ [])
  pub widths_twice : AreRefused (name ∷ codes "draw" ∷ codes "--width" ∷ codes "a=2,b=3,a=4" ∷ [])
  pub no_width : AreRefused (name ∷ codes "draw" ∷ codes "--width" ∷ codes "a=0" ∷ [])
  pub stream_drawn : AreRefused (name ∷ codes "draw" ∷ codes "--stream" ∷ [])
  pub stream_twice : AreRefused (name ∷ codes "run" ∷ codes "--stream" ∷ codes "--stream" ∷ [])
  pub width_run : AreRefused (name ∷ codes "run" ∷ codes "--width" ∷ codes "a=3" ∷ [])
  pub over_time_checked : AreRefused (name ∷ codes "check" ∷ codes "--over-time" ∷ codes "a" ∷ [])
  pub two_titles : AreRefused (name ∷ codes "draw" ∷ codes "--title" ∷ codes "a" ∷ codes "--title" ∷ codes "b" ∷ [])
  pub more_draw : AreRefused (name ∷ codes "draw" ∷ codes "job" ∷ [])
  pub drawn_never : AreRefused (name ∷ codes "draw" ∷ codes "--limit" ∷ codes "0" ∷ [])
  pub drawn_by_none : AreRefused (name ∷ codes "draw" ∷ codes "--workers" ∷ codes "0" ∷ [])
  pub none : AreRefused (name ∷ codes "run" ∷ codes "--limit" ∷ codes "0" ∷ [])
  pub many : AreRefused (name ∷ codes "run" ∷ codes "--limit" ∷ codes "1000001" ∷ [])
  pub no_worker : AreRefused (name ∷ codes "run" ∷ codes "--workers" ∷ codes "0" ∷ [])
  pub too_many_workers : AreRefused (name ∷ codes "run" ∷ codes "--workers" ∷ codes "65" ∷ [])
  pub two_trees : AreRefused (name ∷ codes "run" ∷ codes "--tree" ∷ codes "2" ∷ codes "--tree" ∷ codes "2" ∷ [])
  pub twice : AreRefused (name ∷ codes "run" ∷ codes "--limit" ∷ codes "3" ∷ codes "--limit" ∷ codes "4" ∷ [])
  pub no_file : AreRefused (name ∷ codes "run" ∷ codes "-f" ∷ [])
  pub two_files : AreRefused (name ∷ codes "run" ∷ codes "-f" ∷ codes "a" ∷ codes "-f" ∷ codes "b" ∷ [])
  pub file_explained : AreRefused (name ∷ codes "explain" ∷ codes "-f" ∷ codes "a" ∷ [])
  pub bare_file : AreRefused (name ∷ codes "run" ∷ codes "swap.job" ∷ [])
  pub same : AreRefused (name ∷ codes "run" ∷ codes "--limit" ∷ codes "3" ∷ codes "--limit" ∷ codes "3" ∷ [])

-- words that ask for help
abbrev pub AskForHelp : List (List ℕ) → Type 0
AskForHelp words = refused_by words ≡ DisplayHelp ∷ []

pub record WordsAskForHelp (name : List ℕ) : Type 0 where
  pub long : AskForHelp (name ∷ codes "--help" ∷ [])
  pub short : AskForHelp (name ∷ codes "-h" ∷ [])
  pub trace : AskForHelp (name ∷ codes "trace" ∷ codes "-h" ∷ [])
  pub trace_long : AskForHelp (name ∷ codes "trace" ∷ codes "--help" ∷ [])
  pub check : AskForHelp (name ∷ codes "check" ∷ codes "-h" ∷ [])
  pub check_long : AskForHelp (name ∷ codes "check" ∷ codes "--help" ∷ [])
  pub upgrade : AskForHelp (name ∷ codes "upgrade" ∷ codes "-h" ∷ [])
  pub upgrade_long : AskForHelp (name ∷ codes "upgrade" ∷ codes "--help" ∷ [])
  pub run : AskForHelp (name ∷ codes "run" ∷ codes "-h" ∷ [])
  pub run_long : AskForHelp (name ∷ codes "run" ∷ codes "--help" ∷ [])
  pub explain : AskForHelp (name ∷ codes "explain" ∷ codes "-h" ∷ [])
  pub explain_long : AskForHelp (name ∷ codes "explain" ∷ codes "--help" ∷ [])
  pub draw : AskForHelp (name ∷ codes "draw" ∷ codes "-h" ∷ [])
  pub draw_long : AskForHelp (name ∷ codes "draw" ∷ codes "--help" ∷ [])

-- words that ask for the version
abbrev pub AskForVersion : List (List ℕ) → Type 0
AskForVersion words = refused_by words ≡ DisplayVersion ∷ []

pub record WordsAskForVersion (name : List ℕ) : Type 0 where
  pub long : AskForVersion (name ∷ codes "--version" ∷ [])
  pub short : AskForVersion (name ∷ codes "-V" ∷ [])

abbrev pub EachNameTellsVersion : Type 0
EachNameTellsVersion = (name : List ℕ) → WordsAskForVersion name

abbrev pub EachNameHelps : Type 0
EachNameHelps = (name : List ℕ) → WordsAskForHelp name

abbrev pub EachNameAsks : Type 0
EachNameAsks = (name : List ℕ) → WordsAsk name

abbrev pub EachNameNamesFiles : Type 0
EachNameNamesFiles = (name : List ℕ) → WordsNameFiles name

abbrev pub EachNameLooks : Type 0
EachNameLooks = (name : List ℕ) → WordsLook name

abbrev pub EachNameRefuses : Type 0
EachNameRefuses = (name : List ℕ) → WordsAreRefused name

-- each number from 1 to 1000000, in digits with or without a plus before them, is the limit that it writes
abbrev pub EachLimitAsks : Type 0
EachLimitAsks = (name digits : List ℕ) → is_unsigned_in 1 1000000 digits ≡ true
    → Asks (name ∷ codes "run" ∷ codes "--limit" ∷ digits ∷ []) (Run 1 (digits_value 10 (without_leading_plus digits)))

-- each number from 1 to 64 is that many workers
abbrev pub EachNumberOfWorkersAsks : Type 0
EachNumberOfWorkersAsks = (name digits : List ℕ) → is_unsigned_in 1 64 digits ≡ true
    → Asks (name ∷ codes "run" ∷ codes "--workers" ∷ digits ∷ []) (Run (digits_value 10 (without_leading_plus digits)) 1000000)

-- the same of a number in decimal
abbrev pub EachNumberAsks : Type 0
EachNumberAsks = (name : List ℕ) (n : ℕ) → 1 ≤ n
    → (n ≤ 1000000 → Asks (name ∷ codes "run" ∷ codes "--limit" ∷ decimal n ∷ []) (Run 1 n))
    × (n ≤ 64 → Asks (name ∷ codes "run" ∷ codes "--workers" ∷ decimal n ∷ []) (Run n 1000000))

-- any other text that doesn't begin with a hyphen is refused, as a limit and as a number of workers
abbrev pub EachOtherNumberIsRefused : Type 0
EachOtherNumberIsRefused = (name text : List ℕ) → starts_with_minus text ≡ false
    → (is_unsigned_in 1 1000000 text ≡ false → AreRefused (name ∷ codes "run" ∷ codes "--limit" ∷ text ∷ []))
    × (is_unsigned_in 1 64 text ≡ false → AreRefused (name ∷ codes "run" ∷ codes "--workers" ∷ text ∷ []))
