-- What a trace of a tree prints (own), over the states of the tree as a machine.
use Rattle.std.specs.Prelude.{ℕ, zero, suc, Bool, true, false, not, ◌&&◌, ◌==◌, nat_lt, if◌then◌else◌, List, [], ◌++◌, length, Result, Ok, Err, codes, decimal}
use Rattle.std.specs.Fmt.{signed_decimal}
use Rattle.phaser_word.specs.Fields.{Fields}
use Rattle.phaser_word.specs.Phase.{shown_of}
use Rattle.tier_shape.specs.declared.ShapeFault.{ShapeFault}
use Rattle.tier_shape.specs.declared.ShapeFault.TheVariants as shape
use Rattle.tier_shape.specs.InText.{shape_in_text}
use Rattle.tier_steps.specs.Word.{is_empty, is_being_opened}
use Rattle.tier_steps.specs.Tally.{word_at}
use Rattle.tier_core.specs.declared.call.Call.{Call}
use Rattle.tier_core.specs.declared.call.Call.TheVariants as call
use Rattle.tier_core.specs.declared.call.Cause.{Cause}
use Rattle.tier_core.specs.declared.call.Cause.TheVariants as cause
use Rattle.tier_core.specs.declared.call.Played.{Played}
use Rattle.tier_core.specs.declared.call.Played.TheVariants as played
use Rattle.tier_core.specs.declared.call.Answer.{Answer}
use Rattle.tier_core.specs.declared.call.Answer.TheVariants as answer
use Rattle.tier_core.specs.declared.call.Step.{Step}
use Rattle.tier_core.specs.declared.call.Step.TheVariants as step
use Rattle.tier_core.specs.Machine.{State, opened, with_token}
use Rattle.tier_core.specs.Run.{may_begin, may_finish, answer_to, after}
use Rattle.trace_text.specs.declared.tree_words.TokenCall.{TokenCall}
use Rattle.trace_text.specs.declared.tree_words.TokenCall.TheVariants as asked
use Rattle.trace_text.specs.declared.tree_words.TreeCommand.{TreeCommand}
use Rattle.trace_text.specs.declared.tree_words.TreeCommand.TheVariants as command
use Rattle.trace_text.specs.Lines.{advance_line}
use Rattle.trace_text.specs.Runs.{run_text}
use Rattle.trace_text.specs.TreeWords.{TreeAsked}

abbrev pub cause_text : Cause → List ℕ
cause_text cause.BeingOpened = codes "opening\n"
cause_text cause.AllArrived = codes "arrived\n"
cause_text cause.Lagging = codes "lagging\n"
cause_text cause.Advancing = codes "advancing\n"

-- a name and a number
abbrev pub number_line : List ℕ → ℕ → List ℕ
number_line name n = name ++ decimal n ++ codes "\n"

-- a name and two numbers
abbrev pub number_pair : List ℕ → ℕ → ℕ → List ℕ
number_pair name m n = name ++ decimal m ++ codes " " ++ decimal n

abbrev pub played_text : Played → List ℕ
played_text played.GoesOn = codes "goes on\n"
played_text (played.Done phase) = number_line (codes "done ") phase
played_text (played.Passed phase) = number_line (codes "passed ") phase
played_text played.Waiting = codes "waiting\n"
played_text (played.Held phase why) = codes "held " ++ decimal phase ++ codes " " ++ cause_text why
played_text (played.Full parties) = number_line (codes "full ") parties
played_text (played.AlreadyArrived phase) = number_line (codes "already arrived ") phase
played_text (played.Ended shown) = codes "ended " ++ signed_decimal shown ++ codes "\n"
played_text (played.MustAdvance phase parties) = number_pair (codes "must advance ") phase parties ++ codes "\n"

abbrev pub answer_text : Answer → List ℕ
answer_text answer.Begun = codes "begun\n"
answer_text (answer.Played p) = played_text p
answer_text answer.NotNow = codes "not now\n"

-- what a tier is like, the first that fits
abbrev pub state_text : Fields → List ℕ
state_text w =
    if w.ended then codes " ended\n"
    else if is_empty w then codes " empty\n"
    else if is_being_opened w then codes " opening\n"
    else codes " open\n"

-- the numbers of a tier; nobody is unarrived if there is no party
abbrev pub tier_front : ℕ → Fields → List ℕ
tier_front tier w = codes "tier " ++ decimal tier ++ codes " phase " ++ signed_decimal (shown_of w.phase w.ended)

abbrev pub tier_rest : Fields → List ℕ
tier_rest w =
    codes " parties " ++ decimal w.parties ++ codes " unarrived " ++ decimal (if w.parties == 0 then 0 else w.unarrived) ++ state_text w

abbrev pub tier_text : ℕ → Fields → List ℕ
tier_text tier w = tier_front tier w ++ tier_rest w

-- the machine's call
abbrev pub call_of : TokenCall → Call
call_of (asked.Join tier n) = call.Join tier n
call_of asked.Arrive = call.Arrive
call_of asked.Leave = call.Leave
call_of asked.Poll = call.Poll
call_of asked.Force = call.Force

-- an unknown token is looked at first, then an unknown tier
abbrev pub is_token : State → ℕ → Bool
is_token s token = nat_lt token (length s.views)

abbrev pub has_tier : State → TokenCall → Bool
has_tier s (asked.Join tier n) = nat_lt tier (length s.parents)
has_tier s _ = true

abbrev pub if_token : State → ℕ → List ℕ → List ℕ
if_token s token text = if is_token s token then text else codes "no token\n"

abbrev pub if_known : State → ℕ → TokenCall → List ℕ → List ℕ
if_known s token c text = if_token s token (if has_tier s c then text else codes "no tier\n")

-- An advance that a token takes now is printed before its answer: the phase that ends, and the root's parties.
abbrev pub advance_reported : State → ℕ → List ℕ
advance_reported s token =
    if may_finish s token && not (word_at s.words 0).ended then advance_line (word_at s.words 0).phase (word_at s.words 0).parties else []

-- how a token goes on with its call: by the advance that it must take, or by a step
abbrev pub going_on : State → ℕ → Step
going_on s token = if may_finish s token then step.Finish token else step.Go token

-- the answers that a call goes on from
abbrev pub is_underway : Answer → Bool
is_underway (answer.Played played.GoesOn) = true
is_underway (answer.Played (played.MustAdvance phase parties)) = true
is_underway _ = false

-- The rest of a call, of at most this many steps: its advance, and its answer; and what it leaves.
unfoldable pub rest_text : ℕ → ℕ → State → List ℕ
rest_text zero token s = []
rest_text (suc steps) token s =
    advance_reported s token
    ++ (if is_underway (answer_to s (going_on s token)) then rest_text steps token (after s (going_on s token))
    else answer_text (answer_to s (going_on s token)))

unfoldable pub rest_after : ℕ → ℕ → State → State
rest_after zero token s = s
rest_after (suc steps) token s =
    if is_underway (answer_to s (going_on s token)) then rest_after steps token (after s (going_on s token)) else after s (going_on s token)

-- What a command prints, and the tree after it. A call has its answer after at most 16 steps.
abbrev pub tree_text : TreeCommand → State → List ℕ
tree_text command.Token s = number_line (codes "token ") (length s.views)
tree_text (command.Begin token c) s = if_known s token c (answer_text (answer_to s (step.Begin token (call_of c))))
tree_text (command.Go token) s = if_token s token (answer_text (answer_to s (step.Go token)))
tree_text (command.Finish token) s = if_token s token (advance_reported s token ++ answer_text (answer_to s (step.Finish token)))
tree_text (command.Run token) s = if_token s token (rest_text 16 token s)
tree_text (command.Do token c) s =
    if_known s token c
    (if may_begin s token (call_of c) then rest_text 16 token (after s (step.Begin token (call_of c))) else codes "not now\n")
tree_text (command.Show tier) s = if nat_lt tier (length s.parents) then tier_text tier (word_at s.words tier) else codes "no tier\n"

abbrev pub tree_after : TreeCommand → State → State
tree_after command.Token s = with_token s
tree_after (command.Begin token c) s = after s (step.Begin token (call_of c))
tree_after (command.Go token) s = after s (step.Go token)
tree_after (command.Finish token) s = after s (step.Finish token)
tree_after (command.Run token) s = if is_token s token then rest_after 16 token s else s
tree_after (command.Do token c) s =
    if may_begin s token (call_of c) then rest_after 16 token (after s (step.Begin token (call_of c))) else s
tree_after (command.Show tier) s = s

abbrev pub shape_fault_text : ShapeFault → List ℕ
shape_fault_text shape.NoTier = codes "refused 1 NoTier\n"
shape_fault_text shape.TooManyTiers = codes "refused 2 TooManyTiers\n"
shape_fault_text shape.ParentNotEarlier = codes "refused 3 ParentNotEarlier\n"
shape_fault_text shape.TooDeep = codes "refused 4 TooDeep\n"
shape_fault_text shape.BadText = codes "refused 5 BadText\n"
shape_fault_text (shape.Memory e) = []

-- the tree of these widths and its run, or the refusal of the widths
abbrev pub made_text : Result (List ℕ) ShapeFault → TreeAsked → List TreeCommand → List ℕ
made_text (Err fault) head commands = shape_fault_text fault
made_text (Ok parents) head commands = run_text tree_text tree_after commands (opened parents head.phase head.plan)

abbrev pub tree_opened_text : TreeAsked → List TreeCommand → List ℕ
tree_opened_text head commands = made_text (shape_in_text head.widths) head commands
