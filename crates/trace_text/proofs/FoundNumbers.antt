-- If a command is refused by a number, one of its numbers is found.
use Rattle.std.proofs.Common.{◌≡◌, ℕ, Bool, true, false, List, [], ◌∷◌, Option, Some, None, Result, Ok, Err, ℤ, refl, sym, ap, ◌∙◌, subst, codes}
use Rattle.std.specs.Prelude.{if◌then◌else◌, is_some, IsSome, option_and_then, option_map}
use Rattle.std.specs.Str.{bytes_eq}
use Rattle.text_lines.specs.Number.{number_of}
use Rattle.text_lines.specs.declared.refusal.Code.{Code}
use Rattle.text_lines.specs.declared.refusal.Code.TheVariants.{BadNumber, BadLine}
use Rattle.trace_text.specs.Words.{Word, command_of, form_of, formed, of_32_bits, or_else, up_to}
use Rattle.trace_text.specs.TreeWords.{CallWords, JoinWords, above_zero, call_alone, call_numbers, call_words, most_members, one_number, token_and_call, tree_form_of, tree_formed, with_call}
use Rattle.trace_text.specs.TreeWords as words
use Rattle.trace_text.specs.BarrierWords.{barrier_form_of, barrier_formed}
use Rattle.trace_text.specs.Faulty.{NumberFaultsAreFound, command_fault, fits, join_fault, number_fits}
use Rattle.trace_text.specs.declared.words.Form.{Form}
use Rattle.trace_text.specs.declared.words.Form.TheVariants as form
use Rattle.trace_text.specs.declared.tree_words.Form.{Form as TreeForm}
use Rattle.trace_text.specs.declared.tree_words.Form.TheVariants as tree
use Rattle.trace_text.specs.declared.tree_words.TokenCall.{TokenCall}
use Rattle.trace_text.specs.declared.barrier_words.Form.{Form as BarrierForm}
use Rattle.trace_text.specs.declared.barrier_words.Form.TheVariants as barrier

made-err : {A B : Type 0} (f : A → B) (r : Result A Code) (c : Code) → words.made f r ≡ Err c → r ≡ Err c
made-err f (Ok a) c e = absurd cc
made-err f (Err d) c e = let same : d ≡ c = cc in ap (λ (x : Code). Err x) same

none-is : {A B : Type 0} (f : A → B) (o : Option A) → or_else BadNumber (option_map f o) ≡ Err BadNumber → o ≡ None
none-is f None e = refl
none-is f (Some a) e = absurd cc

none-of : {A : Type 0} (o : Option A) → or_else BadNumber o ≡ Err BadNumber → o ≡ None
none-of None e = refl
none-of (Some a) e = absurd cc

abbrev Refused : (A : Type 0) → Code → Result A Code
Refused A c = Err c

not-line : {A : Type 0} → Refused A BadLine ≡ Refused A BadNumber → ⊥
not-line e = let same : BadLine ≡ BadNumber = cc in absurd cc

first-word : (b : Bool) (k w : Word) (ws : List Word) → number_fits b k w ≡ false → IsSome (command_fault b k (w ∷ ws))
first-word b k w ws e = rw e refl

-- ---- phasers

pick : (b : Bool) (f : Form) (rest : Option Form) → (rest ≡ Some form.Await → ⊥) → (f ≡ form.Await → ⊥)
    → (if b then Some f else rest) ≡ Some form.Await → ⊥
pick true f rest none apart e = apart cc
pick false f rest none apart e = none e

no-await : (w : Word) → bytes_eq w (codes "await") ≡ false → form_of w ≡ Some form.Await → ⊥
no-await w n e =
    pick (bytes_eq w (codes "register")) _ _
    (pick (bytes_eq w (codes "bulk")) _ _
    (pick (bytes_eq w (codes "arrive")) _ _
    (pick (bytes_eq w (codes "leave")) _ _
    (λ z.
    let y = rw n at z in
    pick (bytes_eq w (codes "force")) _ _
    (pick (bytes_eq w (codes "show")) _ _ (λ z. absurd cc) (λ z. absurd cc))
    (λ z. absurd cc) y)
    (λ z. absurd cc))
    (λ z. absurd cc))
    (λ z. absurd cc))
    (λ z. absurd cc) e

unfit-bulk : (k w : Word) → number_of w ≡ None → number_fits true k w ≡ false
unfit-bulk k w e = go (bytes_eq k (codes "await")) refl
  where
    go : (b : Bool) → bytes_eq k (codes "await") ≡ b → number_fits true k w ≡ false
    go true x = rw (x, e) refl
    go false x = rw (x, e) refl

phaser-found : (o : Option Form) (k : Word) (ws : List Word) → form_of k ≡ o → formed o ws ≡ Err BadNumber
    → IsSome (command_fault true k ws)
phaser-found None k ws f e = absurd cc
phaser-found (Some (form.Alone c)) k [] f e = absurd cc
phaser-found (Some (form.Alone c)) k (w ∷ ws) f e = absurd (not-line e)
phaser-found (Some form.Bulk) k [] f e = absurd (not-line e)
phaser-found (Some form.Bulk) k (w ∷ []) f e = first-word true k w [] (unfit-bulk k w (none-is _ (number_of w) e))
phaser-found (Some form.Bulk) k (w ∷ v ∷ ws) f e = absurd (not-line e)
phaser-found (Some form.Await) k [] f e = absurd (not-line e)
phaser-found (Some form.Await) k (w ∷ []) f e = first-word true k w [] (go (bytes_eq k (codes "await")) refl)
  where
    go : (b : Bool) → bytes_eq k (codes "await") ≡ b → number_fits true k w ≡ false
    go true x = rw (x, none-is _ (of_32_bits (number_of w)) e) refl
    go false x = absurd (no-await k x f)
phaser-found (Some form.Await) k (w ∷ v ∷ ws) f e = absurd (not-line e)

-- ---- trees and barriers

one-found : (k : Word) (ws : List Word) → one_number ws ≡ Err BadNumber → IsSome (command_fault false k ws)
one-found k [] e = absurd (not-line e)
one-found k (w ∷ []) e = first-word false k w [] (ap is_some (none-of (up_to 4294967295 (number_of w)) e))
one-found k (w ∷ v ∷ ws) e = absurd (not-line e)

join-found : (j t n : Word) → call_numbers (JoinWords t n) ≡ None → IsSome (join_fault (j ∷ t ∷ n ∷ []))
join-found j t n e = go (up_to 4294967295 (number_of t)) (above_zero (up_to most_members (number_of n))) refl refl
  where
    go : (a b : Option ℕ) → up_to 4294967295 (number_of t) ≡ a → above_zero (up_to most_members (number_of n)) ≡ b
        → IsSome (join_fault (j ∷ t ∷ n ∷ []))
    go None b x y = rw x refl
    go (Some a) None x y = rw (x, y) refl
    go (Some a) (Some b) x y = absurd (let bad : Some _ ≡ None = rw (x, y) at e in cc)

call-found : (k w : Word) (ws : List Word) (o : Option CallWords) → call_words ws ≡ o → with_call w o ≡ Err BadNumber
    → IsSome (command_fault false k (w ∷ ws))
call-found k w ws None c e = absurd (not-line e)
call-found k w ws (Some calls) c e = go (up_to 4294967295 (number_of w)) refl
  where
    joined : (vs : List Word) (calls : CallWords) → call_words vs ≡ Some calls → call_numbers calls ≡ None → IsSome (join_fault vs)
    joined [] calls x y = absurd cc
    joined (j ∷ vs) calls x y = by (bytes_eq j (codes "join")) vs x
      where
        alone : (o : Option TokenCall) (us : List Word) → words.alone_words o us ≡ Some calls → ⊥
        alone None us z = absurd cc
        alone (Some a) [] z = let same : words.Alone a ≡ calls = cc in
            let bad : Some a ≡ None = subst (λ (c : CallWords). call_numbers c ≡ None) (sym same) y in
            absurd cc
        alone (Some a) (u ∷ us) z = absurd cc

        by : (b : Bool) (us : List Word) → (if b then words.join_words us else words.alone_words (call_alone j) us) ≡ Some calls
            → IsSome (join_fault (j ∷ us))
        by true [] z = absurd cc
        by true (t ∷ []) z = absurd cc
        by true (t ∷ n ∷ []) z = let same : JoinWords t n ≡ calls = cc in
            join-found j t n (subst (λ (c : CallWords). call_numbers c ≡ None) (sym same) y)
        by true (t ∷ n ∷ m ∷ us) z = absurd cc
        by false us z = absurd (alone (call_alone j) us z)

    go : (a : Option ℕ) → up_to 4294967295 (number_of w) ≡ a → IsSome (command_fault false k (w ∷ ws))
    go None x = first-word false k w ws (ap is_some x)
    go (Some n) x = rw x (joined ws calls c (numbers (call_numbers calls) refl))
      where
        numbers : (o : Option TokenCall) → call_numbers calls ≡ o → call_numbers calls ≡ None
        numbers None y = y
        numbers (Some a) y = absurd (let bad : Ok _ ≡ Err BadNumber = rw (x, y) at e in cc)

token-found : (k : Word) (ws : List Word) → token_and_call ws ≡ Err BadNumber → IsSome (command_fault false k ws)
token-found k [] e = absurd (not-line e)
token-found k (w ∷ ws) e = call-found k w ws (call_words ws) refl e

tree-found : (o : Option TreeForm) (k : Word) (ws : List Word) → tree_formed o ws ≡ Err BadNumber → IsSome (command_fault false k ws)
tree-found None k ws e = absurd cc
tree-found (Some tree.Token) k [] e = absurd cc
tree-found (Some tree.Token) k (w ∷ ws) e = absurd (not-line e)
tree-found (Some tree.Begin) k ws e = token-found k ws (made-err _ (token_and_call ws) BadNumber e)
tree-found (Some tree.Go) k ws e = one-found k ws (made-err _ (one_number ws) BadNumber e)
tree-found (Some tree.Finish) k ws e = one-found k ws (made-err _ (one_number ws) BadNumber e)
tree-found (Some tree.Run) k ws e = one-found k ws (made-err _ (one_number ws) BadNumber e)
tree-found (Some tree.Do) k ws e = token-found k ws (made-err _ (token_and_call ws) BadNumber e)
tree-found (Some tree.Show) k ws e = one-found k ws (made-err _ (one_number ws) BadNumber e)

barrier-found : (o : Option BarrierForm) (k : Word) (ws : List Word) → barrier_formed o ws ≡ Err BadNumber
    → IsSome (command_fault false k ws)
barrier-found None k ws e = absurd cc
barrier-found (Some barrier.Await) k ws e = one-found k ws (made-err _ (one_number ws) BadNumber e)
barrier-found (Some barrier.Abandon) k ws e = one-found k ws (made-err _ (one_number ws) BadNumber e)
barrier-found (Some (barrier.Alone c)) k [] e = absurd cc
barrier-found (Some (barrier.Alone c)) k (w ∷ ws) e = absurd (not-line e)

pub number-faults-are-found : NumberFaultsAreFound
number-faults-are-found k ws = (
  λ e. phaser-found (form_of k) k ws refl e,
  λ e. tree-found (tree_form_of k) k ws e,
  λ e. barrier-found (barrier_form_of k) k ws e,
)
