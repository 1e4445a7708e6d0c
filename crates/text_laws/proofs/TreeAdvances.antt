-- The line of an advance is in front of its answer in a trace of a tree.
use Rattle.std.proofs.Common.{◌≡◌, ◌≢◌, inl, inr, ℕ, zero, suc, ◌+◌, ◌<◌, Bool, true, false, cond, List, [], ◌++◌, length, take, drop, Some, None, refl, sym, ap, ◌∙◌, subst, arith}
use Rattle.std.specs.Prelude.{◌==◌, if◌then◌else◌, ◌&&◌, not, nat_lt, codes}
use Rattle.std.proofs.lemmas.Bool.{ltb-true, false≢true}
use Rattle.std.proofs.lemmas.Grind.{common_steps}
use Rattle.std.proofs.lemmas.List.{get_or-set_same}
use Rattle.flat_phaser.proofs.Everyone.{both_true}
use Rattle.phaser_word.specs.Phase.{next_phase_of}
use Rattle.tier_shape.specs.Paths.{IsTiers}
use Rattle.tier_steps.specs.declared.kind.Kind.{Kind}
use Rattle.tier_steps.specs.declared.kind.Kind.TheVariants.{Look, Glance, Refuse, Join, Arrive, Leave, Advance, Force, Claim, Settle, SettleBack, Climb, Refresh}
use Rattle.tier_steps.specs.declared.view.Errand.{Errand}
use Rattle.tier_steps.specs.declared.view.Errand.TheVariants.{Advancing}
use Rattle.tier_steps.specs.Tally.{blank, root_phase, ErrandFits}
use Rattle.tier_steps.specs.Step.{word_after}
use Rattle.tier_steps.specs.Due.{is_advance}
use Rattle.tier_steps.proofs.Ready.{phases_stay}
use Rattle.tier_core.specs.declared.call.Call.{Call}
use Rattle.tier_core.specs.declared.call.Answer.{Answer}
use Rattle.tier_core.specs.declared.call.Answer.TheVariants as answer
use Rattle.tier_core.specs.declared.call.Played.TheVariants as played
use Rattle.tier_core.specs.declared.call.Progress.{Progress}
use Rattle.tier_core.specs.declared.call.Progress.TheVariants.{Idle, Begun, Seeking as ToSeek, Settling, GivingBack as ToGiveBack, Passing, Owing, Due, Refreshing}
use Rattle.tier_core.specs.declared.call.Step.{Step}
use Rattle.tier_core.specs.declared.call.Step.TheVariants as step
use Rattle.tier_core.specs.declared.call.Turn.{Turn}
use Rattle.tier_core.specs.Machine.{State, IsCore, view_at, call_at, is_active, is_due, played as played_by, turn_at}
use Rattle.tier_core.specs.Run.{is_idle, may_begin, may_go, may_finish, may_call, begun, finish_at, plan_ends, after, answer_to, IsCall}
use Rattle.tier_core.proofs.Turns.{by_test, not_both}
use Rattle.tier_core.proofs.Places.{MayPlay, is_step, turn_may}
use Rattle.tier_core.proofs.Runs.{begun_core, due_advances}
use Rattle.tier_laws.specs.Count.{IsAnsweredWithin}
use Rattle.tier_laws.proofs.Along.{begun_known, core_after}
use Rattle.tier_laws.proofs.Holding.{fits_at}
use Rattle.tier_laws.proofs.Planning.{advancing, active_owes, known_active, known_due}
use Rattle.tier_laws.proofs.Sixteen.{sixteen_steps_are_enough}
use Rattle.trace_text.specs.declared.tree_words.TokenCall.{TokenCall}
use Rattle.trace_text.specs.declared.tree_words.TokenCall.TheVariants as asked
use Rattle.trace_text.specs.declared.tree_words.TreeCommand.{TreeCommand}
use Rattle.trace_text.specs.declared.tree_words.TreeCommand.TheVariants as command
use Rattle.trace_text.specs.Lines.{advance_line}
use Rattle.trace_text.specs.TreeWords.{HasMembers}
use Rattle.trace_text.specs.TreeAnswers.{call_of, has_tier, is_token, if_token, if_known, rest_text, rest_after, going_on, is_underway, advance_reported, answer_text, tree_text, tree_after}
use Rattle.text_laws.specs.TreeAdvances.{root_of, last_answer, IsInOrder, ComesInOrder, AdvancesOfTreesComeFirst}
use Rattle.text_laws.proofs.EnoughSteps.{answered, text_step, after_step}

-- a step that is no advance leaves the root in its phase

no-advance : (k : Kind) → ((ends : Bool) → k ≢ Advance ends) → is_advance k ≡ false
no-advance Look h = refl
no-advance Glance h = refl
no-advance (Refuse tier claimed size) h = refl
no-advance (Join tier claimed size) h = refl
no-advance Arrive h = refl
no-advance Leave h = refl
no-advance (Advance ends) h = absurd (h ends refl)
no-advance Force h = refl
no-advance (Claim tier claimed size) h = refl
no-advance (Settle tier claimed size) h = refl
no-advance (SettleBack tier claimed size) h = refl
no-advance (Climb passage) h = refl
no-advance Refresh h = refl

played-stays : (s : State) (token : ℕ) (r : Turn) → IsCore s → token < length s.views → MayPlay s token r → is_advance r.kind ≡ false
    → (root_of (played_by s token r)).phase ≡ (root_of s).phase
played-stays s token r core known may quiet =
    phases_stay s.parents s.words (take token s.views) (view_at s.views token) (drop (suc token) s.views) r.tier r.kind 0
    (is_step s token r core known may) quiet core.tally.some refl

go-stays : (s : State) (token : ℕ) → IsCore s → (root_of (after s (step.Go token))).phase ≡ (root_of s).phase
go-stays s token core =
    by_test (λ b. (root_of (cond b (played_by s token (turn_at s token)) s)).phase ≡ (root_of s).phase) (may_go s token)
    (λ may. let a = known_active s token may in
    let next : MayPlay s token (turn_at s token) = turn_may s token core a.0 a.1 in
    played-stays s token (turn_at s token) core a.0 next
    (no-advance (turn_at s token).kind (λ ends e.
    active_owes s.parents (call_at s.calls token) (view_at s.views token) a.1 (core.calls token a.0)
    (advancing s token (turn_at s token) ends next e))))
    (λ _. refl)

-- what a step prints that leaves the root in its phase
alone : (old new : State) (text : List ℕ) (a : Answer) → (root_of new).phase ≡ (root_of old).phase → text ≡ answer_text a
    → IsInOrder old new text a
alone old new text a same e = record { advances = λ n. absurd (n same); done = λ n. absurd (n same); stays = λ _. e }

-- the advance itself

moves-on : (n : ℕ) → next_phase_of n ≢ n
moves-on n =
    by_test (λ b. cond b 0 (n + 1) ≢ n) (n == 2147483647) (λ e h. absurd (grind (arith, common_steps))) (λ e h. absurd (omega arith))

-- the root as the step of a token leaves it that has to advance: it advances, or the token looks at a root that has ended
finish-left : (s : State) (token : ℕ) → IsCore s
    → root_of (played_by s token (finish_at s token (plan_ends s)))
    ≡ word_after (cond (root_of s).ended Look (Advance (plan_ends s))) 0 (root_of s) (view_at s.views token)
finish-left s token core =
    get_or-set_same s.words 0 (word_after (cond (root_of s).ended Look (Advance (plan_ends s))) 0 (root_of s) (view_at s.views token)) blank
    core.tally.some

-- in the phase that the root is in
done-now : (s : State) (token : ℕ) → IsCore s → may_finish s token ≡ true → (view_at s.views token).phase ≡ (root_of s).phase
done-now s token core may =
    let a = known_due s token may in
    let owes : (view_at s.views token).errand ≡ Advancing =
    due_advances s.parents (call_at s.calls token) (view_at s.views token) a.1 (core.calls token a.0) in
    subst (λ (e : Errand). ErrandFits s.parents (root_phase s.words) (view_at s.views token) e) owes (fits_at s token core a.0).errand

abbrev played_line : State → ℕ → List ℕ
played_line s token = answer_text (answer.Played (played.Done (view_at s.views token).phase))

finish-reported : (s : State) (token : ℕ) (ended ends : Bool) (t : State) → (view_at s.views token).phase ≡ (root_of s).phase
    → root_of t ≡ word_after (cond ended Look (Advance ends)) 0 (root_of s) (view_at s.views token)
    → IsInOrder s t ((if not ended then advance_line (root_of s).phase (root_of s).parties else []) ++ played_line s token)
    (answer.Played (played.Done (view_at s.views token).phase))
finish-reported s token true ends t now e =
    alone s t (played_line s token) (answer.Played (played.Done (view_at s.views token).phase)) (ap (λ w. w.phase) e) refl
finish-reported s token false ends t now e = record {
  advances = λ n. ap (λ k. advance_line (root_of s).phase k ++ played_line s token) (sym (ap (λ w. w.parties) e));
  done = λ n. ap (λ k. answer.Played (played.Done k)) now;
  stays = λ same. absurd (moves-on (root_of s).phase (sym (ap (λ w. w.phase) e) ∙ same));
}

-- a step with which a token goes on, and what is printed in front of its answer
finish-first : (s : State) (token : ℕ) → IsCore s → may_finish s token ≡ true
    → IsInOrder s (after s (step.Finish token)) (advance_reported s token ++ answer_text (answer_to s (step.Finish token)))
    (answer_to s (step.Finish token))
finish-first s token core may =
    let r : Turn = finish_at s token (plan_ends s) in
    subst (λ (b : Bool). IsInOrder s (if b then played_by s token r else s)
    ((if b && not (root_of s).ended then advance_line (root_of s).phase (root_of s).parties else [])
    ++ answer_text (if b then answer.Played r.answer else answer.NotNow))
    (if b then answer.Played r.answer else answer.NotNow)) (sym may)
    (finish-reported s token (root_of s).ended (plan_ends s) (played_by s token r) (done-now s token core may) (finish-left s token core))

unreported : (s : State) (token : ℕ) → may_finish s token ≡ false → advance_reported s token ≡ []
unreported s token no_ = ap (λ b. if b && not (root_of s).ended then advance_line (root_of s).phase (root_of s).parties else []) no_

unfinished : (s : State) (token : ℕ) → may_finish s token ≡ false
    → IsInOrder s (after s (step.Finish token)) (advance_reported s token ++ answer_text (answer_to s (step.Finish token)))
    (answer_to s (step.Finish token))
unfinished s token no_ =
    let r : Turn = finish_at s token (plan_ends s) in
    subst (λ (b : Bool). IsInOrder s (if b then played_by s token r else s)
    ((if b && not (root_of s).ended then advance_line (root_of s).phase (root_of s).parties else [])
    ++ answer_text (if b then answer.Played r.answer else answer.NotNow))
    (if b then answer.Played r.answer else answer.NotNow)) (sym no_) (alone s s (answer_text answer.NotNow) answer.NotNow refl refl)

finish-order : (s : State) (token : ℕ) → IsCore s
    → IsInOrder s (after s (step.Finish token)) (advance_reported s token ++ answer_text (answer_to s (step.Finish token)))
    (answer_to s (step.Finish token))
finish-order s token core =
    by_test
    (λ b. IsInOrder s (after s (step.Finish token)) (advance_reported s token ++ answer_text (answer_to s (step.Finish token))) (answer_to s (step.Finish token)))
    (may_finish s token) (finish-first s token core) (unfinished s token)

goes-finish : (s : State) (token : ℕ) → may_finish s token ≡ true → going_on s token ≡ step.Finish token
goes-finish s token may = ap (λ b. if b then step.Finish token else step.Go token) may

goes-go : (s : State) (token : ℕ) → may_finish s token ≡ false → going_on s token ≡ step.Go token
goes-go s token no_ = ap (λ b. if b then step.Finish token else step.Go token) no_

one-order : (s : State) (token : ℕ) → IsCore s
    → IsInOrder s (after s (going_on s token)) (advance_reported s token ++ answer_text (answer_to s (going_on s token)))
    (answer_to s (going_on s token))
one-order s token core =
    by_test
    (λ b. IsInOrder s (after s (going_on s token)) (advance_reported s token ++ answer_text (answer_to s (going_on s token))) (answer_to s (going_on s token)))
    (may_finish s token)
    (λ may. subst (λ (x : Step). IsInOrder s (after s x) (advance_reported s token ++ answer_text (answer_to s x)) (answer_to s x)) (sym (goes-finish s token may))
    (finish-first s token core may))
    (λ no_. subst (λ (x : Step). IsInOrder s (after s x) (advance_reported s token ++ answer_text (answer_to s x)) (answer_to s x)) (sym (goes-go s token no_))
    (alone s (after s (step.Go token)) (advance_reported s token ++ answer_text (answer_to s (step.Go token))) (answer_to s (step.Go token)) (go-stays s token core)
    (ap (λ (l : List ℕ). l ++ answer_text (answer_to s (step.Go token))) (unreported s token no_))))

-- a token that has to advance has its answer at once
finish-ends : (s : State) (token : ℕ) → may_finish s token ≡ true → is_underway (answer_to s (going_on s token)) ≡ false
finish-ends s token may =
    ap (λ x. is_underway (answer_to s x)) (goes-finish s token may)
    ∙ ap (λ b. is_underway (if b then answer.Played (finish_at s token (plan_ends s)).answer else answer.NotNow)) may

last_step : (steps token : ℕ) (s : State)
    → last_answer (suc steps) token s
    ≡ (if is_underway (answer_to s (going_on s token)) then last_answer steps token (after s (going_on s token))
    else answer_to s (going_on s token))
unfolding last_answer
last_step steps token s = refl

-- the rest of a call, from a step that leaves the root in its phase
behind : (s m t : State) (text : List ℕ) (a : Answer) → (root_of m).phase ≡ (root_of s).phase → IsInOrder m t text a → IsInOrder s t text a
behind s m t text a same o = record {
  advances = λ n. o.advances (λ e. n (e ∙ same)) ∙ ap (λ p. advance_line p (root_of t).parties ++ answer_text a) same;
  done = λ n. o.done (λ e. n (e ∙ same)) ∙ ap (λ p. answer.Played (played.Done p)) same;
  stays = λ e. o.stays (e ∙ sym same);
}

carried : (s t t' : State) (l l' : List ℕ) (a a' : Answer) → t' ≡ t → l' ≡ l → a' ≡ a → IsInOrder s t l a → IsInOrder s t' l' a'
carried s t t' l l' a a' e f g o = record {
  advances = λ n. f ∙ o.advances (λ h. n (ap (λ x. (root_of x).phase) e ∙ h))
      ∙ ap (λ x. advance_line (root_of s).phase (root_of x).parties ++ answer_text a) (sym e)
      ∙ ap (λ x. advance_line (root_of s).phase (root_of t').parties ++ answer_text x) (sym g);
  done = λ n. g ∙ o.done (λ h. n (ap (λ x. (root_of x).phase) e ∙ h));
  stays = λ h. f ∙ o.stays (sym (ap (λ x. (root_of x).phase) e) ∙ h) ∙ ap answer_text (sym g);
}

-- by whether the call goes on from the token's next step
abbrev StepOrder : State → ℕ → ℕ → Bool → Type 0
StepOrder s token n b =
    IsInOrder s (if b then rest_after n token (after s (going_on s token)) else after s (going_on s token))
    (advance_reported s token
    ++ (if b then rest_text n token (after s (going_on s token)) else answer_text (answer_to s (going_on s token))))
    (if b then last_answer n token (after s (going_on s token)) else answer_to s (going_on s token))

from-step : (n token : ℕ) (s : State) → StepOrder s token n (is_underway (answer_to s (going_on s token)))
    → IsInOrder s (rest_after (suc n) token s) (rest_text (suc n) token s) (last_answer (suc n) token s)
from-step n token s o =
    let b : Bool = is_underway (answer_to s (going_on s token)) in
    let next : State = after s (going_on s token) in
    carried s (if b then rest_after n token next else next) (rest_after (suc n) token s)
    (advance_reported s token ++ (if b then rest_text n token next else answer_text (answer_to s (going_on s token))))
    (rest_text (suc n) token s)
    (if b then last_answer n token next else answer_to s (going_on s token)) (last_answer (suc n) token s)
    (after_step n token s) (text_step n token s) (last_step n token s) o

once : (n token : ℕ) (s : State) → IsCore s → is_underway (answer_to s (going_on s token)) ≡ false
    → IsInOrder s (rest_after (suc n) token s) (rest_text (suc n) token s) (last_answer (suc n) token s)
once n token s core off = from-step n token s (subst (λ (b : Bool). StepOrder s token n b) (sym off) (one-order s token core))

goes-on : (n token : ℕ) (s : State) → IsCore s → is_underway (answer_to s (going_on s token)) ≡ true
    → (IsCore (after s (going_on s token)) → IsInOrder (after s (going_on s token)) (rest_after n token (after s (going_on s token)))
    (rest_text n token (after s (going_on s token))) (last_answer n token (after s (going_on s token))))
    → IsInOrder s (rest_after (suc n) token s) (rest_text (suc n) token s) (last_answer (suc n) token s)
goes-on n token s core on rest =
    let next : State = after s (going_on s token) in
    let no_ : may_finish s token ≡ false =
    by_test (λ b. b ≡ false) (may_finish s token)
    (λ may. not_both (is_underway (answer_to s (going_on s token))) on (finish-ends s token may)) (λ _. refl) in
    let go : going_on s token ≡ step.Go token = goes-go s token no_ in
    let same : (root_of next).phase ≡ (root_of s).phase = ap (λ x. (root_of (after s x)).phase) go ∙ go-stays s token core in
    let kept : IsCore next = subst (λ (x : Step). IsCore (after s x)) (sym go) (core_after s (step.Go token) core tt) in
    let here : IsInOrder s (rest_after n token next) (rest_text n token next) (last_answer n token next) =
    behind s next (rest_after n token next) (rest_text n token next) (last_answer n token next) same (rest kept) in
    from-step n token s (subst (λ (b : Bool). StepOrder s token n b) (sym on)
    (subst (λ (l : List ℕ). IsInOrder s (rest_after n token next) (l ++ rest_text n token next) (last_answer n token next)) (sym (unreported s token no_)) here))

rest-order : (n token : ℕ) (s : State) → IsCore s → IsAnsweredWithin n token s
    → IsInOrder s (rest_after n token s) (rest_text n token s) (last_answer n token s)
rest-order zero token s core within = absurd within
rest-order (suc n) token s core (inl a) = once n token s core (answered s token a)
rest-order (suc n) token s core (inr h) =
    by_test (λ b. IsInOrder s (rest_after (suc n) token s) (rest_text (suc n) token s) (last_answer (suc n) token s))
    (is_underway (answer_to s (going_on s token)))
    (λ on. goes-on n token s core on (λ kept. rest-order n token (after s (going_on s token)) kept h))
    (λ off. once n token s core off)

-- a token in no call is refused at once
rests : (p : Progress) → is_idle p ≡ true → (is_active p ≡ false) × (is_due p ≡ false)
rests Idle e = (refl, refl)
rests (Begun c) e = absurd (false≢true e)
rests (ToSeek tier size) e = absurd (false≢true e)
rests Settling e = absurd (false≢true e)
rests (ToGiveBack a) e = absurd (false≢true e)
rests (Passing passage) e = absurd (false≢true e)
rests (Owing own) e = absurd (false≢true e)
rests (Due own) e = absurd (false≢true e)
rests (Refreshing moved) e = absurd (false≢true e)

and-false : (a b : Bool) → b ≡ false → (a && b) ≡ false
and-false true b e = e
and-false false b e = refl

false-and : (a b : Bool) → a ≡ false → (a && b) ≡ false
false-and a b e = ap (λ x. x && b) e

refused : (s : State) (token : ℕ) → is_idle (call_at s.calls token) ≡ true → is_underway (answer_to s (going_on s token)) ≡ false
refused s token idle =
    let r = rests (call_at s.calls token) idle in
    let finish : may_finish s token ≡ false = and-false (nat_lt token (length s.views)) (is_due (call_at s.calls token)) r.1 in
    let go : may_go s token ≡ false = and-false (nat_lt token (length s.views)) (is_active (call_at s.calls token)) r.0 in
    ap (λ x. is_underway (answer_to s x)) (goes-go s token finish)
    ∙ ap (λ b. is_underway (if b then answer.Played (turn_at s token).answer else answer.NotNow)) go

run-order : (s : State) (token : ℕ) → IsTiers s.parents → IsCore s → token < length s.views
    → IsInOrder s (rest_after 16 token s) (rest_text 16 token s) (last_answer 16 token s)
run-order s token tiers core known =
    by_test (λ b. IsInOrder s (rest_after 16 token s) (rest_text 16 token s) (last_answer 16 token s)) (is_idle (call_at s.calls token))
    (λ idle. once 15 token s core (refused s token idle))
    (λ going. rest-order 16 token s core (sixteen_steps_are_enough s token tiers core known going))

-- each command

begin-stays : (s : State) (token : ℕ) (c : Call) → (root_of (after s (step.Begin token c))).phase ≡ (root_of s).phase
begin-stays s token c =
    by_test (λ b. (root_of (if b then begun s token c else s)).phase ≡ (root_of s).phase) (may_begin s token c) (λ _. refl) (λ _. refl)

is-call : (c : TokenCall) → HasMembers c → IsCall (call_of c)
is-call (asked.Join tier n) h = h
is-call asked.Arrive h = tt
is-call asked.Leave h = tt
is-call asked.Poll h = tt
is-call asked.Force h = tt

-- a call that begins is of a token and a tier that are there
has-tier : (s : State) (token : ℕ) (c : TokenCall) → may_call (length s.parents) (call_of c) (view_at s.views token) ≡ true
    → has_tier s c ≡ true
has-tier s token (asked.Join tier n) e = (both_true (nat_lt tier (length s.parents)) ((view_at s.views token).size == 0) e).0
has-tier s token asked.Arrive e = refl
has-tier s token asked.Leave e = refl
has-tier s token asked.Poll e = refl
has-tier s token asked.Force e = refl

is-known : (s : State) (token : ℕ) (c : TokenCall) → may_begin s token (call_of c) ≡ true → (is_token s token && has_tier s c) ≡ true
is-known s token c may =
    let a =
    both_true (nat_lt token (length s.views))
    (is_idle (call_at s.calls token) && may_call (length s.parents) (call_of c) (view_at s.views token)) may in
    let b = both_true (is_idle (call_at s.calls token)) (may_call (length s.parents) (call_of c) (view_at s.views token)) a.1 in
    ap (λ x. x && has_tier s c) a.0 ∙ has-tier s token c b.1

known-text : (s : State) (token : ℕ) (c : TokenCall) (text : List ℕ) → (is_token s token && has_tier s c) ≡ true
    → if_known s token c text ≡ text
known-text s token c text e =
    let a = both_true (is_token s token) (has_tier s c) e in
    ap (λ b. if b then (if has_tier s c then text else codes "no tier\n") else codes "no token\n") a.0
    ∙ ap (λ b. if b then text else codes "no tier\n") a.1

do-order : (s : State) (token : ℕ) (c : TokenCall) → IsTiers s.parents → IsCore s → HasMembers c
    → IsInOrder s (tree_after (command.Do token c) s)
    (if may_begin s token (call_of c) then rest_text 16 token (after s (step.Begin token (call_of c))) else codes "not now\n")
    (if may_begin s token (call_of c) then last_answer 16 token (begun s token (call_of c)) else answer.NotNow)
do-order s token c tiers core is =
    let k : Call = call_of c in
    let now : State = begun s token k in
    by_test (λ b. may_begin s token k ≡ b → IsInOrder s (if b then rest_after 16 token (if b then now else s) else s)
    (if b then rest_text 16 token (if b then now else s) else codes "not now\n") (if b then last_answer 16 token now else answer.NotNow))
    (may_begin s token k)
    (λ _ may. behind s now (rest_after 16 token now) (rest_text 16 token now) (last_answer 16 token now) refl
    (run-order now token tiers (begun_core s token k core (is-call c is) may) (begun_known s token k may)))
    (λ _ _. alone s s (codes "not now\n") answer.NotNow refl refl) refl

if-there : (s : State) (c : TreeCommand) (b : Bool) (a : Answer) → (b ≡ true → IsInOrder s (tree_after c s) (tree_text c s) a)
    → (b ≡ false → (root_of (tree_after c s)).phase ≡ (root_of s).phase) → ComesInOrder s c (if b then Some a else None)
if-there s c true a yes_ no_ = yes_ refl
if-there s c false a yes_ no_ = no_ refl

with-text : (s t : State) (l l' : List ℕ) (a : Answer) → l' ≡ l → IsInOrder s t l a → IsInOrder s t l' a
with-text s t l l' a e o = carried s t t l l' a a refl e refl o

token-text : (s : State) (token : ℕ) (text : List ℕ) → is_token s token ≡ true → if_token s token text ≡ text
token-text s token text e = ap (λ b. if b then text else codes "no token\n") e

pub trees-advances-first : AdvancesOfTreesComeFirst
trees-advances-first s command.Token tiers core is = refl
trees-advances-first s (command.Begin token c) tiers core is =
    let a : Answer = answer_to s (step.Begin token (call_of c)) in
    if-there s (command.Begin token c) (is_token s token && has_tier s c) a
    (λ e. alone s (after s (step.Begin token (call_of c))) (tree_text (command.Begin token c) s) a (begin-stays s token (call_of c))
    (known-text s token c (answer_text a) e))
    (λ e. begin-stays s token (call_of c))
trees-advances-first s (command.Go token) tiers core is =
    let a : Answer = answer_to s (step.Go token) in
    if-there s (command.Go token) (is_token s token) a
    (λ e. alone s (after s (step.Go token)) (tree_text (command.Go token) s) a (go-stays s token core) (token-text s token (answer_text a) e))
    (λ e. go-stays s token core)
trees-advances-first s (command.Finish token) tiers core is =
    let a : Answer = answer_to s (step.Finish token) in
    if-there s (command.Finish token) (is_token s token) a
    (λ e. with-text s (after s (step.Finish token)) (advance_reported s token ++ answer_text a) (tree_text (command.Finish token) s) a
    (token-text s token (advance_reported s token ++ answer_text a) e) (finish-order s token core))
    (λ e. ap (λ b. (root_of (if b then played_by s token (finish_at s token (plan_ends s)) else s)).phase)
    (false-and (nat_lt token (length s.views)) (is_due (call_at s.calls token)) e))
trees-advances-first s (command.Run token) tiers core is =
    if-there s (command.Run token) (is_token s token) (last_answer 16 token s)
    (λ e. carried s (rest_after 16 token s) (tree_after (command.Run token) s) (rest_text 16 token s) (tree_text (command.Run token) s)
    (last_answer 16 token s) (last_answer 16 token s) (ap (λ b. if b then rest_after 16 token s else s) e)
    (token-text s token (rest_text 16 token s) e) refl (run-order s token tiers core (ltb-true token (length s.views) e)))
    (λ e. ap (λ b. (root_of (if b then rest_after 16 token s else s)).phase) e)
trees-advances-first s (command.Do token c) tiers core is =
    let k : Call = call_of c in
    let text : List ℕ = if may_begin s token k then rest_text 16 token (after s (step.Begin token k)) else codes "not now\n" in
    let a : Answer = if may_begin s token k then last_answer 16 token (begun s token k) else answer.NotNow in
    if-there s (command.Do token c) (is_token s token && has_tier s c) a
    (λ e. with-text s (tree_after (command.Do token c) s) text (tree_text (command.Do token c) s) a (known-text s token c text e)
    (do-order s token c tiers core is))
    (λ e. ap (λ b. (root_of (if b then rest_after 16 token (after s (step.Begin token k)) else s)).phase)
    (by_test (λ b. b ≡ false) (may_begin s token k) (λ may. not_both (is_token s token && has_tier s c) (is-known s token c may) e) (λ _. refl)))
trees-advances-first s (command.Show tier) tiers core is = refl
