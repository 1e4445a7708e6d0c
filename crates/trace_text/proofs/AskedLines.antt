-- The lines of a trace that aren't skipped, as its head and its commands.
use Rattle.std.proofs.Common.{◌≡◌, ℕ, zero, suc, ◌+◌, ◌≤◌, ◌<◌, ◌||◌, ◌&&◌, not, ⊎_elim, Bool, true, false, cond, nat_lt, List, [], ◌∷◌, length, refl, sym, ap, ◌∙◌, arith, Result, Ok, Err}
use Rattle.std.specs.Prelude.{map, filter}
use Rattle.std.proofs.lemmas.Grind.{common_steps}
use Rattle.text_lines.specs.declared.refusal.Code.{Code}
use Rattle.text_lines.specs.declared.refusal.Code.TheVariants.{BadHeader, TooMany}
use Rattle.text_lines.specs.declared.refusal.Refusal.{Refusal}
use Rattle.text_lines.specs.Text.{words_of, is_skipped}
use Rattle.flat_phaser.proofs.Everyone.{either}
use Rattle.trace_text.specs.Words.{Word, command_of}
use Rattle.trace_text.specs.TreeWords.{tree_command_of, brings_token}
use Rattle.trace_text.specs.BarrierWords.{barrier_command_of}
use Rattle.trace_text.specs.Trace.{Head, OfPhaser, OfTree, OfBarrier, Asked, AsksPhaser, AsksTree, AsksBarrier, ◌>>=◌, at, counted, tokens_with, commands_from, brings_none, head_of, below, asked_from}
use Rattle.trace_text.specs.Laws.{kept, SaysCommands, SaysAsked, SayAsked, LinesSayWhatIsAsked}

-- an Ok of two steps comes from an Ok of each
bound : {A B E : Type 0} (r : Result A E) (f : A → Result B E) (b : B) → r >>= f ≡ Ok b → (a : A) × (r ≡ Ok a) × (f a ≡ Ok b)
bound (Ok a) f b e = (a, refl, e)
bound (Err x) f b e = absurd (let wrong : ◌≡◌ {A = Result _ _} (Err x) (Ok b) = e in cc)

at_ok : {A : Type 0} (line : ℕ) (r : Result A Code) (a : A) → at line r ≡ Ok a → r ≡ Ok a
at_ok line (Ok x) a e = let same : x ≡ a = cc in ap Ok same
at_ok line (Err c) a e = absurd (let wrong : ◌≡◌ {A = Result _ Refusal} (Err (record { line = line; code = c })) (Ok a) = e in cc)

kept_skipped : (l : List ℕ) (ls : List (List ℕ)) → is_skipped (words_of l) ≡ true → kept (l ∷ ls) ≡ kept ls
kept_skipped l ls e = rw e refl

kept_line : (l : List ℕ) (ls : List (List ℕ)) → is_skipped (words_of l) ≡ false → kept (l ∷ ls) ≡ words_of l ∷ kept ls
kept_line l ls e = rw e refl

-- whether there is room for one more
abbrev has_room : (brings : Bool) (count tokens : ℕ) → Bool
has_room brings count tokens = nat_lt count 4096 && (not brings || nat_lt tokens 256)

room_said : (brings : Bool) (count tokens : ℕ) → has_room brings count tokens ≡ true → (count < 4096) × (brings ≡ true → tokens < 256)
room_said true count tokens e =
    let more : count < 4096 = grind (arith, common_steps) in
    let few : tokens < 256 = grind (arith, common_steps) in
    (more, λ b. few)
room_said false count tokens e =
    let more : count < 4096 = grind (arith, common_steps) in
    (more, λ b. absurd (let wrong : ◌≡◌ {A = Bool} false true = b in cc))

room_reported : (brings : Bool) (count tokens : ℕ) → count < 4096 → (brings ≡ true → tokens < 256) → has_room brings count tokens ≡ true
room_reported true count tokens h t =
    let few : tokens < 256 = t refl in
    let more : nat_lt count 4096 ≡ true = grind (arith, common_steps) in
    let capacity : nat_lt tokens 256 ≡ true = grind (arith, common_steps) in
    rw (more, capacity) refl
room_reported false count tokens h t = let more : nat_lt count 4096 ≡ true = grind (arith, common_steps) in rw more refl

-- Commands of any kind: what the words of a line say, and whether a command brings a token in.
module _ {C : Type 0} (says : List Word → Result C Code) (brings : C → Bool) where
  counted_ok : (count tokens : ℕ) (r : Result C Code) (c : C) → counted brings count tokens r ≡ Ok c
      → (r ≡ Ok c) × (count < 4096) × (brings c ≡ true → tokens < 256)
  counted_ok count tokens (Err x) c e = absurd (let wrong : ◌≡◌ {A = Result C Code} (Err x) (Ok c) = e in cc)
  counted_ok count tokens (Ok x) c e = chosen (has_room (brings x) count tokens) x c refl e
    where
      chosen : (b : Bool) (x c : C) → has_room (brings x) count tokens ≡ b → cond {A = Result C Code} b (Ok x) (Err TooMany) ≡ Ok c
          → (◌≡◌ {A = Result C Code} (Ok x) (Ok c)) × (count < 4096) × (brings c ≡ true → tokens < 256)
      chosen true x c h e =
          let same : x ≡ c = cc in
          let said = room_said (brings x) count tokens h in
          (e, said.0, rw same at said.1)
      chosen false x c h e = absurd (let wrong : ◌≡◌ {A = Result C Code} (Err TooMany) (Ok c) = e in cc)

  counted_is : (count tokens : ℕ) (r : Result C Code) (c : C) → r ≡ Ok c → count < 4096 → (brings c ≡ true → tokens < 256)
      → counted brings count tokens r ≡ Ok c
  counted_is count tokens r c e h t = let capacity = room_reported (brings c) count tokens h t in rw (e, capacity) refl

  -- the commands of lines, after this many
  pub record SaysMore (count tokens : ℕ) (lines : List (List ℕ)) (cs : List C) : Type 0 where
    pub each : map says (kept lines) ≡ map Ok cs
    pub few : 0 < length cs → count + length cs ≤ 4096
    pub new : 0 < length (filter brings cs) → tokens + length (filter brings cs) ≤ 256

  -- commands as read, each by itself
  abbrev oks : List C → List (Result C Code)
  oks cs = map {A = C} {B = Result C Code} (λ c. Ok c) cs

  next_line : (line count tokens : ℕ) (l : List ℕ) (ls : List (List ℕ)) → is_skipped (words_of l) ≡ true
      → commands_from says brings line count tokens (l ∷ ls) ≡ commands_from says brings (line + 1) count tokens ls
  next_line line count tokens l ls e = rw e refl

  this_line : (line count tokens : ℕ) (l : List ℕ) (ls : List (List ℕ)) → is_skipped (words_of l) ≡ false
      → commands_from says brings line count tokens (l ∷ ls)
      ≡ (at line (counted brings count tokens (says (words_of l))) >>= λ c. commands_from says brings (line + 1) (count + 1) (tokens_with brings tokens c) ls >>= λ cs. Ok (c ∷ cs))
  this_line line count tokens l ls e = rw e refl

  more_few : (ds cs : List C) (count : ℕ) → 1 + length ds ≡ length cs → count < 4096 → (0 < length ds → count + 1 + length ds ≤ 4096)
      → count + length cs ≤ 4096
  more_few [] cs count e h f = omega arith
  more_few (d ∷ ds) cs count e h f = let most : count + 1 + length (d ∷ ds) ≤ 4096 = f (omega arith) in omega arith

  -- one command in front of others: how many bring a token in
  more_new : (c : C) (ds : List C) (tokens : ℕ) → (brings c ≡ true → tokens < 256)
      → (0 < length (filter brings ds) → tokens_with brings tokens c + length (filter brings ds) ≤ 256)
      → 0 < length (filter brings (c ∷ ds)) → tokens + length (filter brings (c ∷ ds)) ≤ 256
  more_new c ds tokens capacity most some = chosen (brings c) refl (length (filter brings ds)) refl
    where
      chosen : (b : Bool) → brings c ≡ b → (n : ℕ) → length (filter brings ds) ≡ n → tokens + length (filter brings (c ∷ ds)) ≤ 256
      chosen true h zero e =
          let few : tokens < 256 = capacity h in
          rw h (let this : length (filter brings ds) ≡ 0 = e in omega arith)
      chosen true h (suc n) e =
          let all : tokens + 1 + length (filter brings ds) ≤ 256 = rw h at (most (omega arith)) in
          rw h (omega arith)
      chosen false h n e =
          let any : 0 < length (filter brings ds) = rw h at some in
          let all : tokens + length (filter brings ds) ≤ 256 = rw h at (most any) in
          rw h all

  less_new : (c : C) (ds : List C) (tokens : ℕ) → (0 < length (filter brings (c ∷ ds)) → tokens + length (filter brings (c ∷ ds)) ≤ 256)
      → (brings c ≡ true → tokens < 256) × (0 < length (filter brings ds) → tokens_with brings tokens c + length (filter brings ds) ≤ 256)
  less_new c ds tokens most = chosen (brings c) refl
    where
      chosen : (b : Bool) → brings c ≡ b
          → (brings c ≡ true → tokens < 256)
          × (0 < length (filter brings ds) → tokens_with brings tokens c + length (filter brings ds) ≤ 256)
      chosen true h =
          let size : length (filter brings (c ∷ ds)) ≡ length (c ∷ filter brings ds) =
          ap (λ (b : Bool). length (cond {A = List C} b (c ∷ filter brings ds) (filter brings ds))) h in
          let all : tokens + length (filter brings (c ∷ ds)) ≤ 256 = most (omega arith) in
          let few : tokens + (1 + length (filter brings ds)) ≤ 256 = omega arith in
          (λ b. omega arith, λ some. rw h (omega arith))
      chosen false h = (
        λ b. absurd (let wrong : ◌≡◌ {A = Bool} false true = sym h ∙ b in cc),
        λ some.
            let any : 0 < length (filter brings (c ∷ ds)) = rw h some in
            let all : tokens + length (filter brings ds) ≤ 256 = rw h at (most any) in
            rw h all,
      )

  pub commands_said : (line count tokens : ℕ) (ls : List (List ℕ)) (cs : List C) → commands_from says brings line count tokens ls ≡ Ok cs
      → SaysMore count tokens ls cs
  commands_said line count tokens [] cs e =
      let none : [] ≡ cs = cc in
      rw (← none) (record { each = refl; few = λ h. absurd (omega arith); new = λ h. absurd (omega arith) })
  commands_said line count tokens (l ∷ ls) cs e = ⊎_elim
      (λ (skip : is_skipped (words_of l) ≡ true).
      let rest = commands_said (line + 1) count tokens ls cs (sym (next_line line count tokens l ls skip) ∙ e) in
      let result : SaysMore count tokens (l ∷ ls) cs =
      record { each = ap (map says) (kept_skipped l ls skip) ∙ rest.each; few = rest.few; new = rest.new } in
      result)
      (λ (keep : is_skipped (words_of l) ≡ false).
      let first =
      bound (at line (counted brings count tokens (says (words_of l))))
      (λ c. commands_from says brings (line + 1) (count + 1) (tokens_with brings tokens c) ls >>= λ ds. Ok (c ∷ ds)) cs
      (sym (this_line line count tokens l ls keep) ∙ e) in
      let second =
      bound (commands_from says brings (line + 1) (count + 1) (tokens_with brings tokens first.0) ls) (λ ds. Ok (first.0 ∷ ds)) cs
      first.2 in
      let is : first.0 ∷ second.0 ≡ cs = cc in
      let here =
      counted_ok count tokens (says (words_of l)) first.0 (at_ok line (counted brings count tokens (says (words_of l))) first.0 first.1) in
      let rest = commands_said (line + 1) (count + 1) (tokens_with brings tokens first.0) ls second.0 second.1 in
      rw (← is) (one_more count tokens l ls first.0 second.0 keep here.0 here.1 here.2 rest))
      (either (is_skipped (words_of l)))
    where
      one_more : (count tokens : ℕ) (l : List ℕ) (ls : List (List ℕ)) (c : C) (ds : List C) → is_skipped (words_of l) ≡ false
          → says (words_of l) ≡ Ok c
          → count < 4096 → (brings c ≡ true → tokens < 256) → SaysMore (count + 1) (tokens_with brings tokens c) ls ds
          → SaysMore count tokens (l ∷ ls) (c ∷ ds)
      one_more count tokens l ls c ds keep here capacity free rest = let size : 1 + length ds ≡ length (c ∷ ds) = omega arith in record {
        each =
            ap (map says) (kept_line l ls keep) ∙ ap (λ (r : Result C Code). r ∷ map says (kept ls)) here
            ∙ ap (λ (rs : List (Result C Code)). Ok c ∷ rs) rest.each;
        few = λ h. more_few ds (c ∷ ds) count size capacity rest.few;
        new = λ h. more_new c ds tokens free rest.new h;
      }

  no_commands : (cs : List C) → [] ≡ oks cs → cs ≡ []
  no_commands [] e = refl
  no_commands (c ∷ cs) e = absurd (let wrong : ◌≡◌ {A = List (Result C Code)} [] (Ok c ∷ oks cs) = e in cc)

  pub commands_reported : (line count tokens : ℕ) (ls : List (List ℕ)) (cs : List C) → SaysMore count tokens ls cs
      → commands_from says brings line count tokens ls ≡ Ok cs
  commands_reported line count tokens [] cs s = let none : cs ≡ [] = no_commands cs s.each in rw none refl
  commands_reported line count tokens (l ∷ ls) cs s = ⊎_elim
      (λ (skip : is_skipped (words_of l) ≡ true).
      let rest : SaysMore count tokens ls cs =
      record { each = sym (ap (map says) (kept_skipped l ls skip)) ∙ s.each; few = s.few; new = s.new } in
      next_line line count tokens l ls skip ∙ commands_reported (line + 1) count tokens ls cs rest)
      (λ (keep : is_skipped (words_of l) ≡ false).
      this_line line count tokens l ls keep
      ∙ one_more line count tokens l ls cs (sym (ap (map says) (kept_line l ls keep)) ∙ s.each) s.few s.new
      (λ n m ds t. commands_reported (line + 1) n m ls ds t))
      (either (is_skipped (words_of l)))
    where
      one_more : (line count tokens : ℕ) (l : List ℕ) (ls : List (List ℕ)) (cs : List C) → says (words_of l) ∷ map says (kept ls) ≡ oks cs
          → (0 < length cs → count + length cs ≤ 4096) → (0 < length (filter brings cs) → tokens + length (filter brings cs) ≤ 256)
          → ((n m : ℕ) (ds : List C) → SaysMore n m ls ds → commands_from says brings (line + 1) n m ls ≡ Ok ds)
          → (at line (counted brings count tokens (says (words_of l))) >>= λ c. commands_from says brings (line + 1) (count + 1) (tokens_with brings tokens c) ls >>= λ ds. Ok (c ∷ ds))
          ≡ Ok cs
      one_more line count tokens l ls [] e few new reported =
          absurd (let wrong : ◌≡◌ {A = List (Result C Code)} (says (words_of l) ∷ map says (kept ls)) [] = e in cc)
      one_more line count tokens l ls (c ∷ ds) e few new reported =
          let here : says (words_of l) ≡ Ok c = cc in
          let rest : map says (kept ls) ≡ oks ds = cc in
          let most : count + length (c ∷ ds) ≤ 4096 = few (omega arith) in
          let less = less_new c ds tokens new in
          let first : counted brings count tokens (says (words_of l)) ≡ Ok c =
          counted_is count tokens (says (words_of l)) c here (omega arith) less.0 in
          let second : commands_from says brings (line + 1) (count + 1) (tokens_with brings tokens c) ls ≡ Ok ds =
          reported (count + 1) (tokens_with brings tokens c) ds (record { each = rest; few = λ h. omega arith; new = less.1 }) in
          rw (first, second) refl

  -- from the first line on
  pub all_said : (line : ℕ) (ls : List (List ℕ)) (cs : List C) → commands_from says brings line 0 0 ls ≡ Ok cs
      → SaysCommands says brings (kept ls) cs
  all_said line ls cs e =
      let s = commands_said line 0 0 ls cs e in
      record { each = s.each; few = whole (length cs) 4096 s.few; tokens = whole (length (filter brings cs)) 256 s.new }
    where
      whole : (n most : ℕ) → (0 < n → 0 + n ≤ most) → n ≤ most
      whole zero most f = omega arith
      whole (suc n) most f = let all : 0 + suc n ≤ most = f (omega arith) in omega arith

  pub all_reported : (line : ℕ) (ls : List (List ℕ)) (cs : List C) → SaysCommands says brings (kept ls) cs
      → commands_from says brings line 0 0 ls ≡ Ok cs
  all_reported line ls cs s =
      let few : length cs ≤ 4096 = s.few in
      let tokens : length (filter brings cs) ≤ 256 = s.tokens in
      commands_reported line 0 0 ls cs (record { each = s.each; few = λ h. omega arith; new = λ h. omega arith })

-- the place of the head
skipped_head : (line : ℕ) (l : List ℕ) (ls : List (List ℕ)) → is_skipped (words_of l) ≡ true
    → asked_from line (l ∷ ls) ≡ asked_from (line + 1) ls
skipped_head line l ls e = rw e refl

head_here : (line : ℕ) (l : List ℕ) (ls : List (List ℕ)) → is_skipped (words_of l) ≡ false
    → asked_from line (l ∷ ls) ≡ (at line (head_of (words_of l)) >>= λ head. below head (line + 1) ls)
head_here line l ls e = rw e refl

-- what is below a head
below_said : (words : List Word) (head : Head) (line : ℕ) (ls : List (List ℕ)) (asked : Asked) → head_of words ≡ Ok head
    → below head line ls ≡ Ok asked
    → SaysAsked words (kept ls) asked
below_said words (OfPhaser h) line ls asked e b =
    let cs = bound (commands_from command_of brings_none line 0 0 ls) (λ commands. Ok (AsksPhaser h commands)) asked b in
    let is : ◌≡◌ {A = Asked} (AsksPhaser h cs.0) asked = cc in
    rw (← is) (e, all_said command_of brings_none line ls cs.0 cs.1)
below_said words (OfTree h) line ls asked e b =
    let cs = bound (commands_from tree_command_of brings_token line 0 0 ls) (λ commands. Ok (AsksTree h commands)) asked b in
    let is : ◌≡◌ {A = Asked} (AsksTree h cs.0) asked = cc in
    rw (← is) (e, all_said tree_command_of brings_token line ls cs.0 cs.1)
below_said words (OfBarrier h) line ls asked e b =
    let cs = bound (commands_from barrier_command_of brings_none line 0 0 ls) (λ commands. Ok (AsksBarrier h commands)) asked b in
    let is : ◌≡◌ {A = Asked} (AsksBarrier h cs.0) asked = cc in
    rw (← is) (e, all_said barrier_command_of brings_none line ls cs.0 cs.1)

below_reported : (words : List Word) (line : ℕ) (ls : List (List ℕ)) (asked : Asked) → SaysAsked words (kept ls) asked
    → (at line (head_of words) >>= λ head. below head (line + 1) ls) ≡ Ok asked
below_reported words line ls (AsksPhaser h cs) s = let reported = all_reported command_of brings_none (line + 1) ls cs s.1 in
    rw (s.0, reported) refl
below_reported words line ls (AsksTree h cs) s = let reported = all_reported tree_command_of brings_token (line + 1) ls cs s.1 in
    rw (s.0, reported) refl
below_reported words line ls (AsksBarrier h cs) s = let reported = all_reported barrier_command_of brings_none (line + 1) ls cs s.1 in
    rw (s.0, reported) refl

-- and the head above them
pub asked_said : (line : ℕ) (ls : List (List ℕ)) (asked : Asked) → asked_from line ls ≡ Ok asked → SayAsked (kept ls) asked
asked_said line [] asked e =
    absurd (let wrong : ◌≡◌ {A = Result Asked Refusal} (Err (record { line = line; code = BadHeader })) (Ok asked) = e in cc)
asked_said line (l ∷ ls) asked e = ⊎_elim
    (λ (skip : is_skipped (words_of l) ≡ true).
    let rest = asked_said (line + 1) ls asked (sym (skipped_head line l ls skip) ∙ e) in
    let result : SayAsked (kept (l ∷ ls)) asked = rw (kept_skipped l ls skip) rest in result)
    (λ (keep : is_skipped (words_of l) ≡ false).
    let first = bound (at line (head_of (words_of l))) (λ head. below head (line + 1) ls) asked (sym (head_here line l ls keep) ∙ e) in
    let says = below_said (words_of l) first.0 (line + 1) ls asked (at_ok line (head_of (words_of l)) first.0 first.1) first.2 in
    let result : SayAsked (kept (l ∷ ls)) asked =
    rw (kept_line l ls keep) (record { head = words_of l; rest = kept ls; whole = refl; says = says }) in
    result)
    (either (is_skipped (words_of l)))

pub asked_reported : (line : ℕ) (ls : List (List ℕ)) (asked : Asked) → SayAsked (kept ls) asked → asked_from line ls ≡ Ok asked
asked_reported line [] asked s = absurd (let wrong : ◌≡◌ {A = List (List Word)} [] (s.head ∷ s.rest) = s.whole in cc)
asked_reported line (l ∷ ls) asked s = ⊎_elim
    (λ (skip : is_skipped (words_of l) ≡ true).
    let rest : SayAsked (kept ls) asked =
    record { head = s.head; rest = s.rest; whole = sym (kept_skipped l ls skip) ∙ s.whole; says = s.says } in
    skipped_head line l ls skip ∙ asked_reported (line + 1) ls asked rest)
    (λ (keep : is_skipped (words_of l) ≡ false).
    let parts : words_of l ∷ kept ls ≡ s.head ∷ s.rest = sym (kept_line l ls keep) ∙ s.whole in
    let first : s.head ≡ words_of l = cc in
    let others : s.rest ≡ kept ls = cc in
    let here : SaysAsked (words_of l) (kept ls) asked = rw (first, others) at s.says in
    head_here line l ls keep ∙ below_reported (words_of l) line ls asked here)
    (either (is_skipped (words_of l)))

pub lines_law : LinesSayWhatIsAsked
lines_law line lines asked = (asked_said line lines asked, asked_reported line lines asked)
