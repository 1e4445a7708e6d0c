-- Commands written and read back.
use Rattle.std.proofs.Common.{◌≡◌, ◌^◌, ◌⊎◌, inl, inr, ⊎_elim, Bool, true, false, cond, nat_lt, List, [], ◌∷◌, Option, None, Some, Result, Ok, Err, refl, sym, ap, subst, ◌∙◌, arith, ℤ, pos, negsuc, FitsSigned, w32, w64}
use Rattle.std.specs.Prelude.{codes, option_map}
use Rattle.std.specs.Str.{bytes_eq}
use Rattle.std.proofs.lemmas.Int.{ints}
use Rattle.std.proofs.lemmas.Grind.{common_steps}
use Rattle.std.proofs.lemmas.Slice.Eq.{bytes_eq-Decides}
use Rattle.text_lines.specs.declared.refusal.Code.{Code}
use Rattle.text_lines.specs.declared.refusal.Code.TheVariants.{BadNumber, BadLine, UnknownLine}
use Rattle.text_lines.specs.Number.{number_of}
use Rattle.text_lines.proofs.NumbersLemmas.{numbers_law}
use Rattle.phaser_one.specs.declared.call.Call.TheVariants as call
use Rattle.trace_text.specs.declared.words.PhaserCommand.{PhaserCommand}
use Rattle.trace_text.specs.declared.words.PhaserCommand.TheVariants.{Call, Show}
use Rattle.trace_text.specs.declared.words.Form.{Form}
use Rattle.trace_text.specs.declared.words.Form.TheVariants.{Alone, Bulk, Await}
use Rattle.trace_text.specs.Words.{Word, form_of, formed, command_of, of_32_bits, or_else}
use Rattle.trace_text.specs.Laws.{spelled, HasRoom, CommandsAreSpelled}
use Rattle.trace_text.proofs.SpelledTrees.{trees, barriers}

wide : (n : ℤ) → FitsSigned w32 n → FitsSigned w64 n
wide (pos n) f = grind (arith, common_steps, ints, f)
wide (negsuc n) f = grind (arith, common_steps, ints, f)

within : (n : ℤ) → FitsSigned w32 n → of_32_bits (Some n) ≡ Some n
within (pos n) f = let small : nat_lt n (2 ^ 31) ≡ true = grind (arith, common_steps, ints, f) in rw small refl
within (negsuc n) f = let small : nat_lt n (2 ^ 31) ≡ true = grind (arith, common_steps, ints, f) in rw small refl

read_back : (c : PhaserCommand) → HasRoom c → command_of (spelled c) ≡ Ok c
read_back (Call call.Register) r = refl
read_back (Call (call.Bulk n)) r = ap (λ (o : Option ℤ). or_else BadNumber (option_map (λ k. Call (call.Bulk k)) o)) (numbers_law.0 n r)
read_back (Call call.Arrive) r = refl
read_back (Call call.Leave) r = refl
read_back (Call (call.Await n)) r =
    ap (λ (o : Option ℤ). or_else BadNumber (option_map (λ k. Call (call.Await k)) (of_32_bits o))) (numbers_law.0 n (wide n r))
    ∙ ap (λ (o : Option ℤ). or_else BadNumber (option_map (λ k. Call (call.Await k)) o)) (within n r)
read_back (Call call.Force) r = refl
read_back Show r = refl

-- the first word of a form
abbrev first_word : Form → Word
first_word (Alone (Call call.Register)) = codes "register"
first_word (Alone (Call (call.Bulk n))) = []
first_word (Alone (Call call.Arrive)) = codes "arrive"
first_word (Alone (Call call.Leave)) = codes "leave"
first_word (Alone (Call (call.Await n))) = []
first_word (Alone (Call call.Force)) = codes "force"
first_word (Alone Show) = codes "show"
first_word Bulk = codes "bulk"
first_word Await = codes "await"

-- a keyword's form, or that of another
one_word : (w k : Word) (f g : Form) (rest : Option Form) → k ≡ first_word f → cond {A = Option Form} (bytes_eq w k) (Some f) rest ≡ Some g
    → (w ≡ first_word g) ⊎ (rest ≡ Some g)
one_word w k f g rest e h = chosen (bytes_eq w k) refl h
  where
    chosen : (b : Bool) → bytes_eq w k ≡ b → cond {A = Option Form} b (Some f) rest ≡ Some g → (w ≡ first_word g) ⊎ (rest ≡ Some g)
    chosen true t h = let same : f ≡ g = cc in inl ((bytes_eq-Decides w k).0 t ∙ e ∙ ap first_word same)
    chosen false t h = inr h

form_said : (w : Word) (g : Form) → form_of w ≡ Some g → w ≡ first_word g
form_said w g e =
    ⊎_elim (λ h. h) (λ (a : _ ≡ Some g).
    ⊎_elim (λ h. h) (λ (b : _ ≡ Some g).
    ⊎_elim (λ h. h) (λ (c : _ ≡ Some g).
    ⊎_elim (λ h. h) (λ (d : _ ≡ Some g).
    ⊎_elim (λ h. h) (λ (f : _ ≡ Some g).
    ⊎_elim (λ h. h) (λ (i : _ ≡ Some g).
    ⊎_elim (λ h. h) (λ (j : None ≡ Some g). absurd (let wrong : ◌≡◌ {A = Option Form} None (Some g) = j in cc))
    (one_word w (codes "show") (Alone Show) g _ refl i))
    (one_word w (codes "force") (Alone (Call call.Force)) g _ refl f))
    (one_word w (codes "await") Await g _ refl d))
    (one_word w (codes "leave") (Alone (Call call.Leave)) g _ refl c))
    (one_word w (codes "arrive") (Alone (Call call.Arrive)) g _ refl b))
    (one_word w (codes "bulk") Bulk g _ refl a))
    (one_word w (codes "register") (Alone (Call call.Register)) g _ refl e)

-- an answer of a number
numbered : (o : Option ℤ) (make : ℤ → PhaserCommand) (c : PhaserCommand) → or_else BadNumber (option_map make o) ≡ Ok c
    → (n : ℤ) × (o ≡ Some n) × (make n ≡ c)
numbered None make c e = absurd (let wrong : ◌≡◌ {A = Result PhaserCommand Code} (Err BadNumber) (Ok c) = e in cc)
numbered (Some n) make c e = (n, refl, cc)

narrow : (o : Option ℤ) (n : ℤ) → of_32_bits o ≡ Some n → (o ≡ Some n) × FitsSigned w32 n
narrow None n e = absurd (let wrong : ◌≡◌ {A = Option ℤ} None (Some n) = e in cc)
narrow (Some (pos k)) n e = chosen (nat_lt k (2 ^ 31)) refl e
  where
    chosen : (b : Bool) → nat_lt k (2 ^ 31) ≡ b → cond {A = Option ℤ} b (Some (pos k)) None ≡ Some n
        → (◌≡◌ {A = Option ℤ} (Some (pos k)) (Some n)) × FitsSigned w32 n
    chosen true t h = let same : pos k ≡ n = cc in
        let fits : FitsSigned w32 (pos k) = grind (arith, common_steps, ints) in
        (h, rw (← same) fits)
    chosen false t h = absurd (let wrong : ◌≡◌ {A = Option ℤ} None (Some n) = h in cc)
narrow (Some (negsuc k)) n e = chosen (nat_lt k (2 ^ 31)) refl e
  where
    chosen : (b : Bool) → nat_lt k (2 ^ 31) ≡ b → cond {A = Option ℤ} b (Some (negsuc k)) None ≡ Some n
        → (◌≡◌ {A = Option ℤ} (Some (negsuc k)) (Some n)) × FitsSigned w32 n
    chosen true t h = let same : negsuc k ≡ n = cc in
        let fits : FitsSigned w32 (negsuc k) = grind (arith, common_steps, ints) in
        (h, rw (← same) fits)
    chosen false t h = absurd (let wrong : ◌≡◌ {A = Option ℤ} None (Some n) = h in cc)

-- a command alone
alone : (w : Word) (ws : List Word) (x c : PhaserCommand) → spelled x ≡ w ∷ [] → HasRoom x → formed (Some (Alone x)) ws ≡ Ok c
    → (w ∷ ws ≡ spelled c) × HasRoom c
alone w [] x c s r h =
    let same : x ≡ c = cc in
    let P : PhaserCommand → Type 0 = λ y. (w ∷ [] ≡ spelled y) × HasRoom y in
    subst P same (sym s, r)
alone w (v ∷ ws) x c s r h = absurd (let wrong : ◌≡◌ {A = Result PhaserCommand Code} (Err BadLine) (Ok c) = h in cc)

refused : (c : PhaserCommand) → ◌≡◌ {A = Result PhaserCommand Code} (Err BadLine) (Ok c) → {A : Type 0} → A
refused c e = absurd cc

-- no command begins with a word of no bytes
nothing : (w : Word) (f : Form) → w ≡ [] → form_of w ≡ Some f → {A : Type 0} → A
nothing w f e t = absurd (let wrong : ◌≡◌ {A = Option Form} None (Some f) = ap form_of (sym e) ∙ t in cc)

-- what a form and the words after it say
said : (w : Word) (ws : List Word) (f : Form) (c : PhaserCommand) → w ≡ first_word f → form_of w ≡ Some f → formed (Some f) ws ≡ Ok c
    → (w ∷ ws ≡ spelled c) × HasRoom c
said w ws (Alone (Call call.Register)) c e t h = alone w ws (Call call.Register) c (ap (λ (v : Word). v ∷ []) (sym e)) tt h
said w ws (Alone (Call (call.Bulk n))) c e t h = nothing w (Alone (Call (call.Bulk n))) e t
said w ws (Alone (Call call.Arrive)) c e t h = alone w ws (Call call.Arrive) c (ap (λ (v : Word). v ∷ []) (sym e)) tt h
said w ws (Alone (Call call.Leave)) c e t h = alone w ws (Call call.Leave) c (ap (λ (v : Word). v ∷ []) (sym e)) tt h
said w ws (Alone (Call (call.Await n))) c e t h = nothing w (Alone (Call (call.Await n))) e t
said w ws (Alone (Call call.Force)) c e t h = alone w ws (Call call.Force) c (ap (λ (v : Word). v ∷ []) (sym e)) tt h
said w ws (Alone Show) c e t h = alone w ws Show c (ap (λ (v : Word). v ∷ []) (sym e)) tt h
said w [] Bulk c e t h = refused c h
said w (v ∷ []) Bulk c e t h =
    let number = numbered (number_of v) (λ n. Call (call.Bulk n)) c h in
    let text = numbers_law.1 v number.0 number.1 in
    let P : PhaserCommand → Type 0 = λ y. (w ∷ v ∷ [] ≡ spelled y) × HasRoom y in
    subst P number.2 (ap (λ (k : Word). k ∷ v ∷ []) e ∙ ap (λ (k : Word). codes "bulk" ∷ k ∷ []) text.0, text.1)
said w (v ∷ u ∷ ws) Bulk c e t h = refused c h
said w [] Await c e t h = refused c h
said w (v ∷ []) Await c e t h =
    let number = numbered (of_32_bits (number_of v)) (λ n. Call (call.Await n)) c h in
    let small = narrow (number_of v) number.0 number.1 in
    let text = numbers_law.1 v number.0 small.0 in
    let P : PhaserCommand → Type 0 = λ y. (w ∷ v ∷ [] ≡ spelled y) × HasRoom y in
    subst P number.2 (ap (λ (k : Word). k ∷ v ∷ []) e ∙ ap (λ (k : Word). codes "await" ∷ k ∷ []) text.0, small.1)
said w (v ∷ u ∷ ws) Await c e t h = refused c h

by_form : (w : Word) (ws : List Word) (o : Option Form) (c : PhaserCommand) → form_of w ≡ o → formed o ws ≡ Ok c
    → (w ∷ ws ≡ spelled c) × HasRoom c
by_form w ws None c t h = absurd (let wrong : ◌≡◌ {A = Result PhaserCommand Code} (Err UnknownLine) (Ok c) = h in cc)
by_form w ws (Some f) c t h = said w ws f c (form_said w f t) t h

written : (words : List Word) (c : PhaserCommand) → command_of words ≡ Ok c → (words ≡ spelled c) × HasRoom c
written [] c h = absurd (let wrong : ◌≡◌ {A = Result PhaserCommand Code} (Err UnknownLine) (Ok c) = h in cc)
written (w ∷ ws) c h = by_form w ws (form_of w) c refl h

pub spelled_law : CommandsAreSpelled
spelled_law = record { phasers = record { read_back = read_back; written = written }; trees = trees; barriers = barriers }
