-- The command line as it is taken.
use Rattle.std.proofs.Common.{◌≡◌, true, refl}
use Rattle.std.specs.Fmt as fmt
use Rattle.clap.specs.Words.{is_simple_and_free, is_simple}
use Rattle.clap.proofs.OnLiterals.{clap_on_literals}
use Rattle.bsp_words.specs.CommandLine.{program}
use Rattle.bsp_words.specs.Laws.{EachNameAsks, EachNameHelps, EachNameLooks, EachNameNamesFiles, EachNameRefuses, EachNameTellsVersion}

pub free-program : is_simple_and_free program ≡ true
unfolding clap_on_literals
free-program = refl

pub simple-program : is_simple program ≡ true
unfolding clap_on_literals
simple-program = refl

pub words-ask : EachNameAsks
unfolding clap_on_literals
words-ask name = record {
  trace = (refl, refl);
  check = (refl, refl);
  check_all = (refl, refl);
  check_all_file = (refl, refl);
  upgrade = (refl, refl);
  run = (refl, refl);
  least = (refl, refl);
  most = (refl, refl);
  joined = (refl, refl);
  one_worker = (refl, refl);
  many_workers = (refl, refl);
  flat = (refl, refl);
  tree = (refl, refl);
  progress = (refl, refl);
  json = (refl, refl);
  json_first = (refl, refl);
  json_last = (refl, refl);
  json_tree = (refl, refl);
  stream = (refl, refl);
  stream_first = (refl, refl);
  stream_last = (refl, refl);
  stream_tree = (refl, refl);
  explain = (refl, refl);
  explain_code = (refl, refl);
  explain_fault = (refl, refl);
  explain_trace = (refl, refl);
  draw = (refl, refl);
  drawn_by = (refl, refl);
  drawn_at = (refl, refl);
}

pub words-refused : EachNameRefuses
unfolding clap_on_literals fmt.digits
words-refused name = record {
  nothing = refl;
  unknown = refl;
  more = refl;
  more_upgrade = refl;
  no_code = refl;
  other_code = refl;
  two_codes = refl;
  other_fault = refl;
  code_and_fault = refl;
  code_and_trace = refl;
  fault_and_trace = refl;
  other_trace = refl;
  progress_drawn = refl;
  progress_twice = refl;
  all_run = refl;
  all_upgraded = refl;
  all_twice = refl;
  json_drawn = refl;
  json_checked = refl;
  json_twice = refl;
  json_value = refl;
  json_streamed = refl;
  streamed_json = refl;
  widths_twice = refl;
  no_width = refl;
  stream_drawn = refl;
  stream_twice = refl;
  width_run = refl;
  over_time_checked = refl;
  two_titles = refl;
  more_draw = refl;
  drawn_never = refl;
  drawn_by_none = refl;
  none = refl;
  many = refl;
  no_worker = refl;
  too_many_workers = refl;
  two_trees = refl;
  twice = refl;
  no_file = refl;
  two_files = refl;
  file_explained = refl;
  bare_file = refl;
  same = refl;
}

pub words-look : EachNameLooks
unfolding clap_on_literals fmt.digits
words-look name = record {
  plain = (refl, refl);
  other = (refl, refl);
  width = (refl, refl);
  over_time = (refl, refl);
  title = (refl, refl);
  file = (refl, refl);
  both = (refl, refl);
}

pub words-help : EachNameHelps
unfolding clap_on_literals
words-help name = record {
  long = refl;
  short = refl;
  trace = refl;
  trace_long = refl;
  check = refl;
  check_long = refl;
  upgrade = refl;
  upgrade_long = refl;
  run = refl;
  run_long = refl;
  explain = refl;
  explain_long = refl;
  draw = refl;
  draw_long = refl;
}

pub words-version : EachNameTellsVersion
unfolding clap_on_literals
words-version name = record {
  long = refl;
  short = refl;
}

pub words-files : EachNameNamesFiles
unfolding clap_on_literals
words-files name = record {
  run = (refl, refl);
  run_short = (refl, refl);
  run_long = (refl, refl);
  run_joined = (refl, refl);
  run_attached = (refl, refl);
  run_hyphen = (refl, refl);
  run_among = (refl, refl);
  draw = (refl, refl);
  check = (refl, refl);
  check_all = (refl, refl);
  upgrade = (refl, refl);
  trace = (refl, refl);
  trace_none = (refl, refl);
  explain = (refl, refl);
}
