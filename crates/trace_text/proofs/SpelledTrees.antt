-- Commands of trees and of barriers written and read back.
use Rattle.std.proofs.Common.{◌≡◌, ℕ, zero, suc, ◌≤◌, Bool, true, false, cond, List, [], ◌∷◌, Option, None, Some, Result, Ok, Err, refl, sym, ap, subst, ◌∙◌, arith}
use Rattle.std.specs.Prelude.{codes, decimal, option_map, option_and_then}
use Rattle.std.specs.Str.{bytes_eq}
use Rattle.std.proofs.lemmas.Slice.Eq.{bytes_eq-Decides}
use Rattle.text_lines.specs.declared.refusal.Code.{Code}
use Rattle.text_lines.specs.declared.refusal.Code.TheVariants.{BadNumber, BadLine, UnknownLine}
use Rattle.text_lines.specs.Number.{number_of}
use Rattle.cyclic_gate.specs.declared.call.Call.TheVariants as gate
use Rattle.trace_text.specs.declared.tree_words.TokenCall.{TokenCall}
use Rattle.trace_text.specs.declared.tree_words.TokenCall.TheVariants as token
use Rattle.trace_text.specs.declared.tree_words.TreeCommand.{TreeCommand}
use Rattle.trace_text.specs.declared.tree_words.TreeCommand.TheVariants as tree
use Rattle.trace_text.specs.declared.tree_words.Form.{Form}
use Rattle.trace_text.specs.declared.tree_words.Form.TheVariants as form
use Rattle.trace_text.specs.declared.barrier_words.BarrierCommand.{BarrierCommand}
use Rattle.trace_text.specs.declared.barrier_words.BarrierCommand.TheVariants as barrier
use Rattle.trace_text.specs.declared.barrier_words.Form.{Form as BarrierForm}
use Rattle.trace_text.specs.declared.barrier_words.Form.TheVariants as barrier_form
use Rattle.trace_text.specs.Words.{Word, up_to, or_else}
use Rattle.trace_text.specs.TreeWords.{CallWords, JoinWords, Alone, above_zero, join_words, call_alone, alone_words, call_words, call_numbers, one_number, with_call, token_and_call, tree_form_of, made, tree_formed, tree_command_of}
use Rattle.trace_text.specs.BarrierWords.{barrier_form_of, barrier_formed, barrier_command_of}
use Rattle.trace_text.specs.Laws.{call_spelled, tree_spelled, IsSmall, CallHasRoom, TreeHasRoom, barrier_spelled, BarrierHasRoom, AreSpelled}
use Rattle.trace_text.proofs.ReadWords.{from-made, from-map, from-next, from-or, by-word, by-none, up-to-read, up-to-said}

-- read back

one-read : (k : ℕ) → IsSmall k → one_number (decimal k ∷ []) ≡ Ok k
one-read k h = ap (λ (o : Option ℕ). or_else BadNumber o) (up-to-read 4294967295 k (omega arith) h)

above : (n : ℕ) → 1 ≤ n → above_zero (Some n) ≡ Some n
above zero h = absurd (omega arith)
above (suc n) h = refl

join-read : (tier n : ℕ) → IsSmall tier → 1 ≤ n → n ≤ 65535 → call_numbers (JoinWords (decimal tier) (decimal n)) ≡ Some (token.Join tier n)
join-read tier n t low high =
    ap
    (λ (o : Option ℕ). option_and_then (λ (t : ℕ). option_map (λ (m : ℕ). token.Join t m) (above_zero (up_to 65535 (number_of (decimal n))))) o)
    (up-to-read 4294967295 tier (omega arith) t)
    ∙ ap (λ (o : Option ℕ). option_map (λ (m : ℕ). token.Join tier m) (above_zero o)) (up-to-read 65535 n (omega arith) high)
    ∙ ap (λ (o : Option ℕ). option_map (λ (m : ℕ). token.Join tier m) o) (above n low)

with-read : (k : ℕ) (words : CallWords) (c : TokenCall) → IsSmall k → call_numbers words ≡ Some c
    → with_call (decimal k) (Some words) ≡ Ok (k, c)
with-read k words c h e =
    ap
    (λ (o : Option ℕ). or_else BadNumber (option_and_then (λ (t : ℕ). option_map (λ (call : TokenCall). (t, call)) (call_numbers words)) o))
    (up-to-read 4294967295 k (omega arith) h)
    ∙ ap (λ (o : Option TokenCall). or_else BadNumber (option_map (λ (call : TokenCall). (k, call)) o)) e

token-read : (k : ℕ) (c : TokenCall) → IsSmall k → CallHasRoom c → token_and_call (decimal k ∷ call_spelled c) ≡ Ok (k, c)
token-read k (token.Join tier n) h r =
    with-read k (JoinWords (decimal tier) (decimal n)) (token.Join tier n) h (join-read tier n r.0 r.1 r.2)
token-read k token.Arrive h r = with-read k (Alone token.Arrive) token.Arrive h refl
token-read k token.Leave h r = with-read k (Alone token.Leave) token.Leave h refl
token-read k token.Poll h r = with-read k (Alone token.Poll) token.Poll h refl
token-read k token.Force h r = with-read k (Alone token.Force) token.Force h refl

tree-read : (c : TreeCommand) → TreeHasRoom c → tree_command_of (tree_spelled c) ≡ Ok c
tree-read tree.Token r = refl
tree-read (tree.Begin k c) r = ap (λ (p : Result (ℕ × TokenCall) Code). made (λ q. tree.Begin q.0 q.1) p) (token-read k c r.0 r.1)
tree-read (tree.Go k) r = ap (λ (p : Result ℕ Code). made (λ q. tree.Go q) p) (one-read k r)
tree-read (tree.Finish k) r = ap (λ (p : Result ℕ Code). made (λ q. tree.Finish q) p) (one-read k r)
tree-read (tree.Run k) r = ap (λ (p : Result ℕ Code). made (λ q. tree.Run q) p) (one-read k r)
tree-read (tree.Do k c) r = ap (λ (p : Result (ℕ × TokenCall) Code). made (λ q. tree.Do q.0 q.1) p) (token-read k c r.0 r.1)
tree-read (tree.Show k) r = ap (λ (p : Result ℕ Code). made (λ q. tree.Show q) p) (one-read k r)

barrier-read : (c : BarrierCommand) → BarrierHasRoom c → barrier_command_of (barrier_spelled c) ≡ Ok c
barrier-read (barrier.Call (gate.Await k)) r = ap (λ (p : Result ℕ Code). made (λ q. barrier.Call (gate.Await q)) p) (one-read k r)
barrier-read (barrier.Call (gate.Abandon k)) r = ap (λ (p : Result ℕ Code). made (λ q. barrier.Call (gate.Abandon q)) p) (one-read k r)
barrier-read (barrier.Call gate.BreakOff) r = refl
barrier-read (barrier.Call gate.Reset) r = refl
barrier-read barrier.Show r = refl

-- what words were read as

one-said : (ws : List Word) (k : ℕ) → one_number ws ≡ Ok k → (ws ≡ decimal k ∷ []) × IsSmall k
one-said [] k e = absurd (let wrong : ◌≡◌ {A = Result ℕ Code} (Err BadLine) (Ok k) = e in cc)
one-said (w ∷ []) k e = let s = up-to-said 4294967295 k w (from-or BadNumber _ k e) in (ap (λ (x : Word). x ∷ []) s.0, s.1)
one-said (w ∷ v ∷ ws) k e = absurd (let wrong : ◌≡◌ {A = Result ℕ Code} (Err BadLine) (Ok k) = e in cc)

abbrev CallSaid : List Word → TokenCall → Type 0
CallSaid ws c = (ws ≡ call_spelled c) × CallHasRoom c

above-said : (o : Option ℕ) (n : ℕ) → above_zero o ≡ Some n → (o ≡ Some n) × (1 ≤ n)
above-said None n e = absurd (let wrong : ◌≡◌ {A = Option ℕ} None (Some n) = e in cc)
above-said (Some zero) n e = absurd (let wrong : ◌≡◌ {A = Option ℕ} None (Some n) = e in cc)
above-said (Some (suc k)) n e = let same : suc k ≡ n = cc in (e, subst (λ (m : ℕ). 1 ≤ m) same (omega arith))

join-said : (w t n : Word) (c : TokenCall) → w ≡ codes "join" → call_numbers (JoinWords t n) ≡ Some c → CallSaid (w ∷ t ∷ n ∷ []) c
join-said w t n c j e =
    let a = from-next _ (up_to 4294967295 (number_of t)) c e in
    let b = from-map _ (above_zero (up_to 65535 (number_of n))) c a.2 in
    let d = above-said (up_to 65535 (number_of n)) b.0 b.1 in
    let tier = up-to-said 4294967295 a.0 t a.1 in
    let members = up-to-said 65535 b.0 n d.0 in
    let P : TokenCall → Type 0 = λ x. CallSaid (w ∷ t ∷ n ∷ []) x in
    subst P b.2 (
      ap (λ (x : Word). x ∷ t ∷ n ∷ []) j ∙ ap (λ (x : Word). codes "join" ∷ x ∷ n ∷ []) tier.0
          ∙ ap (λ (x : Word). codes "join" ∷ decimal a.0 ∷ x ∷ []) members.0,
      (tier.1, d.1, members.1),
    )

joined-said : (w : Word) (ws : List Word) (words : CallWords) (c : TokenCall) → w ≡ codes "join" → join_words ws ≡ Some words
    → call_numbers words ≡ Some c → CallSaid (w ∷ ws) c
joined-said w [] words c j e h = by-none words e
joined-said w (t ∷ []) words c j e h = by-none words e
joined-said w (t ∷ n ∷ []) words c j e h =
    let same : JoinWords t n ≡ words = cc in
    join-said w t n c j (ap call_numbers same ∙ h)
joined-said w (t ∷ n ∷ v ∷ ws) words c j e h = by-none words e

alone-said : (w : Word) (c : TokenCall) → call_alone w ≡ Some c → CallSaid (w ∷ []) c
alone-said w c =
    let P : TokenCall → Type 0 = λ x. CallSaid (w ∷ []) x in
    by-word P w (codes "arrive") token.Arrive c _ (λ e. (ap (λ (x : Word). x ∷ []) e, tt))
    (by-word P w (codes "leave") token.Leave c _ (λ e. (ap (λ (x : Word). x ∷ []) e, tt))
    (by-word P w (codes "poll") token.Poll c _ (λ e. (ap (λ (x : Word). x ∷ []) e, tt))
    (by-word P w (codes "force") token.Force c _ (λ e. (ap (λ (x : Word). x ∷ []) e, tt)) (λ e. by-none c e))))

others-said : (w : Word) (ws : List Word) (o : Option TokenCall) (words : CallWords) (c : TokenCall) → call_alone w ≡ o
    → alone_words o ws ≡ Some words
    → call_numbers words ≡ Some c → CallSaid (w ∷ ws) c
others-said w ws None words c o e h = by-none words e
others-said w (v ∷ ws) (Some x) words c o e h = by-none words e
others-said w [] (Some x) words c o e h =
    let same : Alone x ≡ words = cc in
    let call : ◌≡◌ {A = Option TokenCall} (Some x) (Some c) = ap call_numbers same ∙ h in
    alone-said w c (o ∙ call)

call-said : (ws : List Word) (words : CallWords) (c : TokenCall) → call_words ws ≡ Some words → call_numbers words ≡ Some c → CallSaid ws c
call-said [] words c e h = by-none words e
call-said (w ∷ ws) words c e h = chosen (bytes_eq w (codes "join")) refl e
  where
    chosen : (b : Bool) → bytes_eq w (codes "join") ≡ b
        → cond {A = Option CallWords} b (join_words ws) (alone_words (call_alone w) ws) ≡ Some words → CallSaid (w ∷ ws) c
    chosen true t k = joined-said w ws words c ((bytes_eq-Decides w (codes "join")).0 t) k h
    chosen false t k = others-said w ws (call_alone w) words c refl k h

abbrev TokenSaid : List Word → ℕ × TokenCall → Type 0
TokenSaid ws p = (ws ≡ decimal p.0 ∷ call_spelled p.1) × (IsSmall p.0 × CallHasRoom p.1)

with-said : (k : Word) (ws : List Word) (o : Option CallWords) (p : ℕ × TokenCall) → call_words ws ≡ o → with_call k o ≡ Ok p
    → TokenSaid (k ∷ ws) p
with-said k ws None p o e = absurd (let wrong : ◌≡◌ {A = Result (ℕ × TokenCall) Code} (Err BadLine) (Ok p) = e in cc)
with-said k ws (Some words) p o e =
    let a = from-next _ (up_to 4294967295 (number_of k)) p (from-or BadNumber _ p e) in
    let b = from-map _ (call_numbers words) p a.2 in
    let number = up-to-said 4294967295 a.0 k a.1 in
    let call = call-said ws words b.0 o b.1 in
    subst (TokenSaid (k ∷ ws)) b.2 (ap (λ (x : Word). x ∷ ws) number.0 ∙ ap (λ (x : List Word). decimal a.0 ∷ x) call.0, (number.1, call.1))

token-said : (ws : List Word) (p : ℕ × TokenCall) → token_and_call ws ≡ Ok p → TokenSaid ws p
token-said [] p e = absurd (let wrong : ◌≡◌ {A = Result (ℕ × TokenCall) Code} (Err BadLine) (Ok p) = e in cc)
token-said (k ∷ ws) p e = with-said k ws (call_words ws) p refl e

abbrev tree_first : Form → Word
tree_first form.Token = codes "token"
tree_first form.Begin = codes "begin"
tree_first form.Go = codes "go"
tree_first form.Finish = codes "finish"
tree_first form.Run = codes "run"
tree_first form.Do = codes "do"
tree_first form.Show = codes "show"

tree-form-said : (w : Word) (f : Form) → tree_form_of w ≡ Some f → w ≡ tree_first f
tree-form-said w f =
    let P : Form → Type 0 = λ x. w ≡ tree_first x in
    by-word P w (codes "token") form.Token f _ (λ e. e)
    (by-word P w (codes "begin") form.Begin f _ (λ e. e)
    (by-word P w (codes "go") form.Go f _ (λ e. e)
    (by-word P w (codes "finish") form.Finish f _ (λ e. e)
    (by-word P w (codes "run") form.Run f _ (λ e. e)
    (by-word P w (codes "do") form.Do f _ (λ e. e)
    (by-word P w (codes "show") form.Show f _ (λ e. e) (λ e. by-none f e)))))))

abbrev TreeSaid : List Word → TreeCommand → Type 0
TreeSaid words c = (words ≡ tree_spelled c) × TreeHasRoom c

numbered-said : (w key : Word) (ws : List Word) (make : ℕ → TreeCommand) (c : TreeCommand) → w ≡ key
    → ((k : ℕ) → tree_spelled (make k) ≡ key ∷ decimal k ∷ []) → ((k : ℕ) → IsSmall k → TreeHasRoom (make k))
    → made make (one_number ws) ≡ Ok c → TreeSaid (w ∷ ws) c
numbered-said w key ws make c e spell capacity h =
    let a = from-made make (one_number ws) c h in
    let s = one-said ws a.0 a.1 in
    subst (TreeSaid (w ∷ ws)) a.2 (ap (λ (x : Word). x ∷ ws) e ∙ ap (λ (x : List Word). key ∷ x) s.0 ∙ sym (spell a.0), capacity a.0 s.1)

called-said : (w key : Word) (ws : List Word) (make : ℕ → TokenCall → TreeCommand) (c : TreeCommand) → w ≡ key
    → ((k : ℕ) (t : TokenCall) → tree_spelled (make k t) ≡ key ∷ decimal k ∷ call_spelled t)
    → ((k : ℕ) (t : TokenCall) → IsSmall k → CallHasRoom t → TreeHasRoom (make k t)) → made (λ p. make p.0 p.1) (token_and_call ws) ≡ Ok c
    → TreeSaid (w ∷ ws) c
called-said w key ws make c e spell capacity h =
    let a = from-made (λ p. make p.0 p.1) (token_and_call ws) c h in
    let s = token-said ws a.0 a.1 in
    subst (TreeSaid (w ∷ ws)) a.2
    (ap (λ (x : Word). x ∷ ws) e ∙ ap (λ (x : List Word). key ∷ x) s.0 ∙ sym (spell a.0.0 a.0.1), capacity a.0.0 a.0.1 s.1.0 s.1.1)

tree-formed-said : (w : Word) (ws : List Word) (f : Form) (c : TreeCommand) → w ≡ tree_first f → tree_formed (Some f) ws ≡ Ok c
    → TreeSaid (w ∷ ws) c
tree-formed-said w [] form.Token c e h = let same : tree.Token ≡ c = cc in subst (TreeSaid (w ∷ [])) same (ap (λ (x : Word). x ∷ []) e, tt)
tree-formed-said w (v ∷ ws) form.Token c e h = absurd (let wrong : ◌≡◌ {A = Result TreeCommand Code} (Err BadLine) (Ok c) = h in cc)
tree-formed-said w ws form.Begin c e h = called-said w (codes "begin") ws (λ k t. tree.Begin k t) c e (λ k t. refl) (λ k t a b. (a, b)) h
tree-formed-said w ws form.Go c e h = numbered-said w (codes "go") ws (λ k. tree.Go k) c e (λ k. refl) (λ k a. a) h
tree-formed-said w ws form.Finish c e h = numbered-said w (codes "finish") ws (λ k. tree.Finish k) c e (λ k. refl) (λ k a. a) h
tree-formed-said w ws form.Run c e h = numbered-said w (codes "run") ws (λ k. tree.Run k) c e (λ k. refl) (λ k a. a) h
tree-formed-said w ws form.Do c e h = called-said w (codes "do") ws (λ k t. tree.Do k t) c e (λ k t. refl) (λ k t a b. (a, b)) h
tree-formed-said w ws form.Show c e h = numbered-said w (codes "show") ws (λ k. tree.Show k) c e (λ k. refl) (λ k a. a) h

by-tree-form : (w : Word) (ws : List Word) (o : Option Form) (c : TreeCommand) → tree_form_of w ≡ o → tree_formed o ws ≡ Ok c
    → TreeSaid (w ∷ ws) c
by-tree-form w ws None c t h = absurd (let wrong : ◌≡◌ {A = Result TreeCommand Code} (Err UnknownLine) (Ok c) = h in cc)
by-tree-form w ws (Some f) c t h = tree-formed-said w ws f c (tree-form-said w f t) h

tree-said : (words : List Word) (c : TreeCommand) → tree_command_of words ≡ Ok c → TreeSaid words c
tree-said [] c h = absurd (let wrong : ◌≡◌ {A = Result TreeCommand Code} (Err UnknownLine) (Ok c) = h in cc)
tree-said (w ∷ ws) c h = by-tree-form w ws (tree_form_of w) c refl h

abbrev BarrierSaid : List Word → BarrierCommand → Type 0
BarrierSaid words c = (words ≡ barrier_spelled c) × BarrierHasRoom c

-- what a form of a barrier's command and the words after it say, by its first word
abbrev FormSaid : Word → BarrierForm → Type 0
FormSaid w (barrier_form.Alone c) = BarrierSaid (w ∷ []) c
FormSaid w barrier_form.Await = w ≡ codes "await"
FormSaid w barrier_form.Abandon = w ≡ codes "abandon"

barrier-form-said : (w : Word) (f : BarrierForm) → barrier_form_of w ≡ Some f → FormSaid w f
barrier-form-said w f =
    let P : BarrierForm → Type 0 = λ x. FormSaid w x in
    by-word P w (codes "await") barrier_form.Await f _ (λ e. e)
    (by-word P w (codes "abandon") barrier_form.Abandon f _ (λ e. e)
    (by-word P w (codes "break") (barrier_form.Alone (barrier.Call gate.BreakOff)) f _ (λ e. (ap (λ (x : Word). x ∷ []) e, tt))
    (by-word P w (codes "reset") (barrier_form.Alone (barrier.Call gate.Reset)) f _ (λ e. (ap (λ (x : Word). x ∷ []) e, tt))
    (by-word P w (codes "show") (barrier_form.Alone barrier.Show) f _ (λ e. (ap (λ (x : Word). x ∷ []) e, tt)) (λ e. by-none f e)))))

caller-said : (w key : Word) (ws : List Word) (make : ℕ → BarrierCommand) (c : BarrierCommand) → w ≡ key
    → ((k : ℕ) → barrier_spelled (make k) ≡ key ∷ decimal k ∷ []) → ((k : ℕ) → IsSmall k → BarrierHasRoom (make k))
    → made make (one_number ws) ≡ Ok c
    → BarrierSaid (w ∷ ws) c
caller-said w key ws make c e spell capacity h =
    let a = from-made make (one_number ws) c h in
    let s = one-said ws a.0 a.1 in
    subst (BarrierSaid (w ∷ ws)) a.2 (ap (λ (x : Word). x ∷ ws) e ∙ ap (λ (x : List Word). key ∷ x) s.0 ∙ sym (spell a.0), capacity a.0 s.1)

barrier-formed-said : (w : Word) (ws : List Word) (f : BarrierForm) (c : BarrierCommand) → FormSaid w f → barrier_formed (Some f) ws ≡ Ok c
    → BarrierSaid (w ∷ ws) c
barrier-formed-said w ws barrier_form.Await c e h =
    caller-said w (codes "await") ws (λ k. barrier.Call (gate.Await k)) c e (λ k. refl) (λ k a. a) h
barrier-formed-said w ws barrier_form.Abandon c e h =
    caller-said w (codes "abandon") ws (λ k. barrier.Call (gate.Abandon k)) c e (λ k. refl) (λ k a. a) h
barrier-formed-said w [] (barrier_form.Alone x) c e h = let same : x ≡ c = cc in subst (BarrierSaid (w ∷ [])) same e
barrier-formed-said w (v ∷ ws) (barrier_form.Alone x) c e h =
    absurd (let wrong : ◌≡◌ {A = Result BarrierCommand Code} (Err BadLine) (Ok c) = h in cc)

by-barrier-form : (w : Word) (ws : List Word) (o : Option BarrierForm) (c : BarrierCommand) → barrier_form_of w ≡ o
    → barrier_formed o ws ≡ Ok c → BarrierSaid (w ∷ ws) c
by-barrier-form w ws None c t h = absurd (let wrong : ◌≡◌ {A = Result BarrierCommand Code} (Err UnknownLine) (Ok c) = h in cc)
by-barrier-form w ws (Some f) c t h = barrier-formed-said w ws f c (barrier-form-said w f t) h

barrier-said : (words : List Word) (c : BarrierCommand) → barrier_command_of words ≡ Ok c → BarrierSaid words c
barrier-said [] c h = absurd (let wrong : ◌≡◌ {A = Result BarrierCommand Code} (Err UnknownLine) (Ok c) = h in cc)
barrier-said (w ∷ ws) c h = by-barrier-form w ws (barrier_form_of w) c refl h

pub trees : AreSpelled tree_command_of tree_spelled TreeHasRoom
trees = record { read_back = tree-read; written = tree-said }

pub barriers : AreSpelled barrier_command_of barrier_spelled BarrierHasRoom
barriers = record { read_back = barrier-read; written = barrier-said }
