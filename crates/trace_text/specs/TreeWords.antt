-- The words of a line of a trace of a tree, and what they ask for (own).
use Rattle.std.specs.Prelude.{ℕ, zero, suc, ◌<◌, ◌≤◌, Bool, true, false, not, if◌then◌else◌, List, [], ◌∷◌, Option, None, Some, option_and_then, option_map, Result, Ok, Err, codes}
use Rattle.std.specs.Str.{bytes_eq}
use Rattle.advance_rule.specs.declared.EndPlan.{EndPlan}
use Rattle.text_lines.specs.declared.refusal.Code.{Code}
use Rattle.text_lines.specs.declared.refusal.Code.TheVariants.{UnknownLine, BadNumber, BadLine}
use Rattle.text_lines.specs.Number.{number_of}
use Rattle.trace_text.specs.declared.tree_words.TokenCall.{TokenCall}
use Rattle.trace_text.specs.declared.tree_words.TokenCall.TheVariants.{Join, Arrive, Leave, Poll, Force}
use Rattle.trace_text.specs.declared.tree_words.TreeCommand.{TreeCommand}
use Rattle.trace_text.specs.declared.tree_words.TreeCommand.TheVariants.{Token, Begin, Go, Finish, Run, Do, Show}
use Rattle.trace_text.specs.declared.tree_words.Form.{Form}
use Rattle.trace_text.specs.declared.tree_words.Form.TheVariants as form
use Rattle.trace_text.specs.Words.{Word, up_to, take_number, take_behind, ended, number_or, number_if, or_else}

-- A head in words: the widths, then the phase if the next word begins as a number does, then `keep`, and `at` with the
-- word after it.
pub record TreeHeadWords : Type 0 where
  pub widths : Word
  pub phase : Option Word
  pub keep : Bool
  pub at : Option Word

-- whether a keyword comes next, and what follows
abbrev pub take_keyword : List ℕ → List Word → Bool × List Word
take_keyword keyword [] = (false, [])
take_keyword keyword (w ∷ ws) = if bytes_eq w keyword then (true, ws) else (false, w ∷ ws)

abbrev pub words_behind : Word → Option Word → Bool × List Word → Option TreeHeadWords
words_behind widths phase keep =
    option_and_then (λ at. ended (record { widths = widths; phase = phase; keep = keep.0; at = at.0 }) at.1)
    (take_behind (codes "at") keep.1)

abbrev pub words_after_phase : Word → Option Word × List Word → Option TreeHeadWords
words_after_phase widths phase = words_behind widths phase.0 (take_keyword (codes "keep") phase.1)

abbrev pub tree_head_words : List Word → Option TreeHeadWords
tree_head_words [] = None
tree_head_words (w ∷ ws) = words_after_phase w (take_number ws)

-- a tree of these widths, in this phase
pub record TreeAsked : Type 0 where
  pub widths : Word
  pub phase : ℕ
  pub plan : EndPlan

-- The tree that a head's words give: a phase or 0, and when it ends: when it is empty unless it is kept, and after a phase if there is one.
abbrev pub tree_head_numbers : TreeHeadWords → Option TreeAsked
tree_head_numbers h =
    option_and_then (λ phase. option_and_then (λ at.
    Some (record { widths = h.widths; phase = phase; plan = record { when_empty = not h.keep; at = at } }))
    (number_if 2147483647 h.at))
    (number_or 2147483647 0 h.phase)

abbrev pub tree_numbered : Option TreeHeadWords → Result TreeAsked Code
tree_numbered None = Err BadLine
tree_numbered (Some h) = or_else BadNumber (tree_head_numbers h)

-- a number from 1 on, to a greatest
abbrev pub above_zero : Option ℕ → Option ℕ
above_zero None = None
above_zero (Some zero) = None
above_zero (Some (suc n)) = Some (suc n)

-- a call in words: a join with the words of its numbers, or another one
pub data CallWords : Type 0 where
  JoinWords : Word → Word → CallWords
  Alone : TokenCall → CallWords

abbrev pub join_words : List Word → Option CallWords
join_words (t ∷ n ∷ []) = Some (JoinWords t n)
join_words _ = None

-- a call of one word
abbrev pub call_alone : Word → Option TokenCall
call_alone w =
    if bytes_eq w (codes "arrive") then Some Arrive
    else if bytes_eq w (codes "leave") then Some Leave
    else if bytes_eq w (codes "poll") then Some Poll
    else if bytes_eq w (codes "force") then Some Force
    else None

abbrev pub alone_words : Option TokenCall → List Word → Option CallWords
alone_words None ws = None
alone_words (Some c) ws = ended (Alone c) ws

abbrev pub call_words : List Word → Option CallWords
call_words [] = None
call_words (w ∷ ws) = if bytes_eq w (codes "join") then join_words ws else alone_words (call_alone w) ws

-- the most members that join at once
abbrev pub most_members : ℕ
most_members = 65535

-- a tier has any number, and at least one member joins
abbrev pub call_numbers : CallWords → Option TokenCall
call_numbers (Alone c) = Some c
call_numbers (JoinWords t n) =
    option_and_then (λ tier. option_map (λ n. Join tier n) (above_zero (up_to most_members (number_of n)))) (up_to 4294967295 (number_of t))

-- the number of a token or a tier, if no other word follows
abbrev pub one_number : List Word → Result ℕ Code
one_number (k ∷ []) = or_else BadNumber (up_to 4294967295 (number_of k))
one_number _ = Err BadLine

-- a token's number and its call
abbrev pub with_call : Word → Option CallWords → Result (ℕ × TokenCall) Code
with_call k None = Err BadLine
with_call k (Some c) =
    or_else BadNumber (option_and_then (λ token. option_map (λ call. (token, call)) (call_numbers c)) (up_to 4294967295 (number_of k)))

abbrev pub token_and_call : List Word → Result (ℕ × TokenCall) Code
token_and_call [] = Err BadLine
token_and_call (k ∷ ws) = with_call k (call_words ws)

-- what the first word of a command asks for
abbrev pub tree_form_of : Word → Option Form
tree_form_of w =
    if bytes_eq w (codes "token") then Some form.Token
    else if bytes_eq w (codes "begin") then Some form.Begin
    else if bytes_eq w (codes "go") then Some form.Go
    else if bytes_eq w (codes "finish") then Some form.Finish
    else if bytes_eq w (codes "run") then Some form.Run
    else if bytes_eq w (codes "do") then Some form.Do
    else if bytes_eq w (codes "show") then Some form.Show
    else None

abbrev pub made : {A B : Type 0} → (A → B) → Result A Code → Result B Code
made f (Ok a) = Ok (f a)
made f (Err code) = Err code

abbrev pub tree_formed : Option Form → List Word → Result TreeCommand Code
tree_formed None ws = Err UnknownLine
tree_formed (Some form.Token) [] = Ok Token
tree_formed (Some form.Token) (w ∷ ws) = Err BadLine
tree_formed (Some form.Begin) ws = made (λ k. Begin k.0 k.1) (token_and_call ws)
tree_formed (Some form.Go) ws = made (λ k. Go k) (one_number ws)
tree_formed (Some form.Finish) ws = made (λ k. Finish k) (one_number ws)
tree_formed (Some form.Run) ws = made (λ k. Run k) (one_number ws)
tree_formed (Some form.Do) ws = made (λ k. Do k.0 k.1) (token_and_call ws)
tree_formed (Some form.Show) ws = made (λ t. Show t) (one_number ws)

abbrev pub tree_command_of : List Word → Result TreeCommand Code
tree_command_of [] = Err UnknownLine
tree_command_of (w ∷ ws) = tree_formed (tree_form_of w) ws

-- whether a command brings a token in
abbrev pub brings_token : TreeCommand → Bool
brings_token Token = true
brings_token _ = false

-- at least one member joins, and at most as many as may
abbrev pub HasMembers : TokenCall → Type 0
HasMembers (Join tier n) = (0 < n) × (n ≤ most_members)
HasMembers _ = Unit {0}

abbrev pub InRange : TreeCommand → Type 0
InRange (Begin k c) = HasMembers c
InRange (Do k c) = HasMembers c
InRange _ = Unit {0}

abbrev pub WordsFit : CallWords → Type 0
WordsFit (JoinWords t n) = Unit {0}
WordsFit (Alone c) = HasMembers c
