-- A run of commands that has been written in part.
use Rattle.std.proofs.Common.{◌≡◌, ℕ, List, [], ◌∷◌, ◌++◌, Option, Result, Ok, Err, ap, sym, subst, ◌∙◌, refl, append_assoc, append-nil}
use Rattle.std.specs.Prelude.{OnOk}
use Rattle.trace_text.specs.declared.fault.TraceFault.{TraceFault}
use Rattle.trace_text.specs.declared.fault.TraceFault.TheVariants.{Text, Read, Write, Memory}
use Rattle.trace_text.specs.Runs.{run_text}
use Rattle.phase_records.specs.Device.{AppendsBeginning}
use Rattle.trace_text.specs.Outcome.{Writes, WriteCause, Moves}
use Rattle.phase_records.proofs.PassedBytes.{Passed, passed_none, passed_part, passed_begun, passed_whole, Appends-none}

-- Commands C of a thing that represents S: what each prints, and what it leaves.
module _ {C S : Type 0} (text : C → S → List ℕ) (after : C → S → S) where
  -- The thing as it is now represents `current`, together with what still waits and the rest of the run from s.
  pub record RunsOn (old new : Option (List ℕ)) (waits : List ℕ) (all rest : List C) (s : S) (IsNow : S → Type 0) : Type 0 where
    pub current : S
    pub seen : IsNow current
    pub written : Passed old new (run_text text after all s) (waits ++ run_text text after rest current)

  pub runs_begin : (old : Option (List ℕ)) (all : List C) (s : S) (IsNow : S → Type 0) → IsNow s → RunsOn old old [] all all s IsNow
  runs_begin old all s IsNow h = record { current = s; seen = h; written = passed_none old (run_text text after all s) }

  -- what waits, the text of a command, and the rest
  next_text : (waits : List ℕ) (rest more : List C) (c : C) (s : S) → rest ≡ c ∷ more
      → waits ++ run_text text after rest s ≡ (waits ++ text c s) ++ run_text text after more (after c s)
  next_text waits rest more c s e =
      ap (λ (cs : List C). waits ++ run_text text after cs s) e ∙ sym (append_assoc waits (text c s) (run_text text after more (after c s)))

  pub runs_more : (old mid new : Option (List ℕ)) (waited waits : List ℕ) (all rest more : List C) (c : C) (s : S)
      (IsNow IsThen : S → Type 0)
      → rest ≡ c ∷ more → RunsOn old mid waited all rest s IsNow
      → ((g : S) → IsNow g → Moves mid new waited waits (Ok tt) (text c g))
      → ((g : S) → IsNow g → IsThen (after c g))
      → RunsOn old new waits all more s IsThen
  runs_more old mid new waited waits all rest more c s IsNow IsThen e r moves next =
      let g : S = r.current in
      let m = moves g r.seen in
      let later : List ℕ = run_text text after more (after c g) in
      let whole : waited ++ run_text text after rest g ≡ m.0 ++ (waits ++ later) =
      next_text waited rest more c g e ∙ ap (λ (t : List ℕ). t ++ later) m.1 ∙ append_assoc m.0 waits later in
      let split : Passed old mid (run_text text after all s) (m.0 ++ (waits ++ later)) = rw whole at r.written in
      record {
        current = after c g;
        seen = next g r.seen;
        written = passed_part old mid new (run_text text after all s) m.0 (waits ++ later) split m.2;
      }

  begun : (old mid new : Option (List ℕ)) (waited : List ℕ) (all rest more : List C) (c : C) (s g : S)
      → rest ≡ c ∷ more → Passed old mid (run_text text after all s) (waited ++ run_text text after rest g)
      → AppendsBeginning mid new (waited ++ text c g)
      → AppendsBeginning old new (run_text text after all s)
  begun old mid new waited all rest more c s g e p b =
      let split : Passed old mid (run_text text after all s) ((waited ++ text c g) ++ run_text text after more (after c g)) =
      rw (next_text waited rest more c g e) at p in
      passed_begun old mid new (run_text text after all s) (waited ++ text c g) (run_text text after more (after c g)) split b

  pub runs_stopped : (old mid new : Option (List ℕ)) (waited waits : List ℕ) (all rest more : List C) (c : C) (s : S) (IsNow : S → Type 0)
      (fault : TraceFault)
      → rest ≡ c ∷ more → RunsOn old mid waited all rest s IsNow
      → ((g : S) → IsNow g → Moves mid new waited waits (Err fault) (text c g))
      → Writes old new (Err fault) (run_text text after all s)
  runs_stopped old mid new waited waits all rest more c s IsNow Write e r moves =
      begun old mid new waited all rest more c s r.current e r.written (moves r.current r.seen)
  runs_stopped old mid new waited waits all rest more c s IsNow Memory e r moves =
      begun old mid new waited all rest more c s r.current e r.written (moves r.current r.seen)
  runs_stopped old mid new waited waits all rest more c s IsNow Read e r moves = absurd (moves r.current r.seen)
  runs_stopped old mid new waited waits all rest more c s IsNow (Text t) e r moves = absurd (moves r.current r.seen)

  -- the last that waits is written, or a beginning of it
  pub runs_whole : (old mid new : Option (List ℕ)) (waits : List ℕ) (all rest : List C) (s : S) (IsNow : S → Type 0)
      (result : Result (Unit {0}) TraceFault)
      → rest ≡ [] → RunsOn old mid waits all rest s IsNow → Writes mid new result waits → Writes old new result (run_text text after all s)
  runs_whole old mid new waits all rest s IsNow (Ok x) e r done =
      let last : Passed old mid (run_text text after all s) (waits ++ []) =
      rw (ap (λ (cs : List C). waits ++ run_text text after cs r.current) e) at r.written in
      passed_whole old new (run_text text after all s) (passed_part old mid new (run_text text after all s) waits [] last done)
  runs_whole old mid new waits all rest s IsNow (Err Write) e r done =
      let last : Passed old mid (run_text text after all s) (waits ++ []) =
      rw (ap (λ (cs : List C). waits ++ run_text text after cs r.current) e) at r.written in
      passed_begun old mid new (run_text text after all s) waits [] last done
  runs_whole old mid new waits all rest s IsNow (Err Memory) e r done =
      let last : Passed old mid (run_text text after all s) (waits ++ []) =
      rw (ap (λ (cs : List C). waits ++ run_text text after cs r.current) e) at r.written in
      passed_begun old mid new (run_text text after all s) waits [] last done
  runs_whole old mid new waits all rest s IsNow (Err Read) e r done = absurd done
  runs_whole old mid new waits all rest s IsNow (Err (Text t)) e r done = absurd done

-- what holds of a thing holds of all that are equal to it
pub exact : {S : Type 0} {now : S} (P : S → Type 0) → P now → (s : S) → s ≡ now → P s
exact P p s e = subst P (sym e) p

-- a command without a flush, without memory, and with one
pub moved_waits : (known : Option (List ℕ)) (waited waits text : List ℕ) → waits ≡ waited ++ text
    → Moves known known waited waits (Ok tt) text
moved_waits known waited waits text e = ([], sym e, Appends-none known)

pub moved_begin : (known : Option (List ℕ)) (waited waits text : List ℕ) → Moves known known waited waits (Err Memory) text
moved_begin known waited waits text = ([], waited ++ text, refl, Appends-none known)

pub moved_out : (old new : Option (List ℕ)) (waited all waits text : List ℕ) (result : Result (Unit {0}) TraceFault) → all ≡ waited ++ text
    → (result ≡ Ok tt → waits ≡ []) → Writes old new result all → Moves old new waited waits result text
moved_out old new waited all waits text (Ok x) e none done =
    (all, sym e ∙ sym (append-nil all) ∙ ap (λ (t : List ℕ). all ++ t) (sym (none refl)), done)
moved_out old new waited all waits text (Err Write) e none done = rw (← e) done
moved_out old new waited all waits text (Err Memory) e none done = rw (← e) done
moved_out old new waited all waits text (Err Read) e none done = absurd done
moved_out old new waited all waits text (Err (Text t)) e none done = absurd done

-- what was put after what waits moves as if it had been asked for just now
pub moves_behind : (old new : Option (List ℕ)) (waited put waits : List ℕ) (result : Result (Unit {0}) TraceFault) (text : List ℕ)
    → put ≡ waited ++ text → Moves old new put waits result [] → Moves old new waited waits result text
moves_behind old new waited put waits (Ok x) text e m = (m.0, sym e ∙ sym (append-nil put) ∙ m.1, m.2)
moves_behind old new waited put waits (Err Write) text e m = subst (λ (ts : List ℕ). AppendsBeginning old new ts) (append-nil put ∙ e) m
moves_behind old new waited put waits (Err Memory) text e m = subst (λ (ts : List ℕ). AppendsBeginning old new ts) (append-nil put ∙ e) m
moves_behind old new waited put waits (Err Read) text e m = m
moves_behind old new waited put waits (Err (Text r)) text e m = m

pub on_ok_always : {T E P : Type 0} (result : Result T E) → P → OnOk result P
on_ok_always (Ok x) p = p
on_ok_always (Err e) p = tt

-- failures are counted from a point at which there had been none yet
pub cause_from : {T : Type 0} (old mid new : ℕ) (result : Result T TraceFault) → mid ≡ old → WriteCause mid new result
    → WriteCause old new result
cause_from old mid new result e h = subst (λ (n : ℕ). WriteCause n new result) e h
