-- What codes of refusals mean (own).
use Rattle.std.specs.Prelude.{ℕ, List, codes}
use Rattle.text_lines.specs.declared.refusal.Code.{Code}
use Rattle.text_lines.specs.declared.refusal.Code.TheVariants.{TooLong, BadByte, BadHeader, UnknownLine, BadName, BadNumber, BadLine, Twice, UnknownName, Unclosed, BadNesting, TooMany, BadLength, Reserved}
use Rattle.refusal_reasons.specs.declared.meaning.Kind.{Kind}
use Rattle.refusal_reasons.specs.declared.meaning.Kind.TheVariants.{Job, Trace}

abbrev pub job_meaning : Code → List ℕ
job_meaning TooLong = codes "over 1048576 bytes"
job_meaning BadByte = codes "a byte that isn't allowed"
job_meaning BadHeader = codes "the first line is neither bsp 1 nor bsp 2"
job_meaning UnknownLine = codes "a line whose first word isn't allowed there"
job_meaning BadName = codes "not a name"
job_meaning BadNumber = codes "not a number, or one out of its range"
job_meaning BadLine = codes "words too few, too many or misplaced"
job_meaning Twice = codes "an array or a body declared twice, or a local listed twice"
job_meaning UnknownName = codes "no such array above, no such body, or in bsp 2 no such local"
job_meaning Unclosed = codes "the text ends in a body"
job_meaning BadNesting = codes "an else that fits no if"
job_meaning TooMany = codes "past a limit of the language"
job_meaning BadLength = codes "a length outside 1 to 4096, or more values than the length"
job_meaning Reserved = codes "a reserved word as a name"

abbrev pub trace_meaning : Code → List ℕ
trace_meaning TooLong = codes "over 1048576 bytes"
trace_meaning BadByte = codes "a byte that isn't allowed"
trace_meaning BadHeader = codes "the first line is no phaser, tree or barrier"
trace_meaning UnknownLine = codes "a line whose first word is no command"
trace_meaning BadLine = codes "words too few, too many or misplaced"
trace_meaning BadNumber = codes "not a number, or one out of its range"
trace_meaning TooMany = codes "over 4096 commands, or over 256 tokens of a tree"
trace_meaning code = codes "no code of a trace"

abbrev pub meaning : Kind → Code → List ℕ
meaning Job code = job_meaning code
meaning Trace code = trace_meaning code
