-- What is known of stretches that are out, as they go and come.
use Rattle.std.specs.Prelude.{◌==◌, if◌then◌else◌, IfSome, IfOk, MatchOption, Result, Ok, Err}
use Rattle.std.specs.Option.{option_map}
use Rattle.std.proofs.Common.{◌≡◌, ◌≢◌, ◌⊎◌, ℕ, Bool, true, false, List, [], ◌∷◌, Option, Some, None, refl, sym, ap, ◌∙◌, subst, arith, ⊎_elim}
use Rattle.ghost_lists.specs.declared.tickets_rule.TicketEntry.{TicketEntry}
use Rattle.ghost_lists.specs.Passed.{IsOut, without, ticket_entry}
use Rattle.stretch_queue.specs.HandedOut.{Each, AreApart, AreOut}

pub not_both : (b : Bool) → b ≡ true → b ≡ false → ⊥
not_both b t f = absurd (apart (sym t ∙ f))
  where
    apart : true ≡ false → ⊥
    apart e = cc

pub same_key : (a b : ℕ) → a ≡ b → (a == b) ≡ false → ⊥
same_key a b e n = grind arith

module _ {T : Type 0} where
  pub each_here : (P : TicketEntry T → Type 0) (ts : List (TicketEntry T)) (t : TicketEntry T) → Each P ts → IsOut t ts → P t
  each_here P [] t h k = absurd k
  each_here P (u ∷ ts) t h k = ⊎_elim (λ e. subst P e h.0) (λ l. each_here P ts t h.1 l) k

  pub each_if : (P : TicketEntry T → Type 0) (b : Bool) (u : TicketEntry T) (rest : List (TicketEntry T)) → (b ≡ false → P u) → Each P rest
      → Each P (if b then rest else u ∷ rest)
  each_if P true u rest h k = k
  each_if P false u rest h k = (h refl, k)

  pub each_without : (P : TicketEntry T → Type 0) (key : ℕ) (ts : List (TicketEntry T)) → Each P ts → Each P (without key ts)
  each_without P key [] h = tt
  each_without P key (u ∷ ts) h = each_if P (key == u.key) u (without key ts) (λ _. h.0) (each_without P key ts h.1)

  apart_if : (b : Bool) (u : TicketEntry T) (rest : List (TicketEntry T)) → Each (λ x. x.number ≢ u.number) rest → AreApart rest
      → AreApart (if b then rest else u ∷ rest)
  apart_if true u rest h k = k
  apart_if false u rest h k = (h, k)

  apart_without : (key : ℕ) (ts : List (TicketEntry T)) → AreApart ts → AreApart (without key ts)
  apart_without key [] h = tt
  apart_without key (u ∷ ts) h =
      apart_if (key == u.key) u (without key ts) (each_without (λ x. x.number ≢ u.number) key ts h.0) (apart_without key ts h.1)

  each_both : (P Q R : TicketEntry T → Type 0) (ts : List (TicketEntry T)) → ((t : TicketEntry T) → P t → Q t → R t) → Each P ts → Each Q ts
      → Each R ts
  each_both P Q R [] f h k = tt
  each_both P Q R (t ∷ ts) f h k = (f t h.0 k.0, each_both P Q R ts f h.1 k.1)

  -- the others have other numbers
  others_apart : (ts : List (TicketEntry T)) (t : TicketEntry T) → AreApart ts → IsOut t ts
      → Each (λ u. u.number ≢ t.number) (without t.key ts)
  others_apart [] t h k = absurd k
  others_apart (u ∷ ts) t h k =
      ⊎_elim
      (λ e. each_if (λ x. x.number ≢ t.number) (t.key == u.key) u (without t.key ts) (λ n. absurd (same_key t.key u.key (sym (ap (λ (x : TicketEntry T). x.key) e)) n))
      (each_without (λ x. x.number ≢ t.number) t.key ts (subst (λ (x : TicketEntry T). Each (λ y. y.number ≢ x.number) ts) e h.0)))
      (λ l. each_if (λ x. x.number ≢ t.number) (t.key == u.key) u (without t.key ts) (λ _ same. each_here (λ x. x.number ≢ u.number) ts t h.0 l (sym same)) (others_apart ts t h.1 l))
      k

  -- one that is out is of this superstep
  pub found : (out : ℕ → Bool) (step : ℕ) (ts : List (TicketEntry T)) (t : TicketEntry T) → AreOut out step ts → IsOut t ts
      → (t.step ≡ step) × (out t.number ≡ true)
  found out step ts t h k = each_here (λ u. (u.step ≡ step) × (out u.number ≡ true)) ts t h.0 k

  -- one more goes out
  pub one_more : (was now : ℕ → Bool) (step step' at key number : ℕ) (known : T) (ts : List (TicketEntry T)) → AreOut was step ts
      → was number ≡ false → now number ≡ true
      → ((k : ℕ) → was k ≡ true → now k ≡ true) → step' ≡ step → at ≡ step' → AreOut now step' (ticket_entry key at number known ∷ ts)
  one_more was now step step' at key number known ts h free gone others same here = (
    (
      (here, gone),
      each_both (λ t. (t.step ≡ step) × (was t.number ≡ true)) (λ t. (t.step ≡ step) × (was t.number ≡ true))
          (λ t. (t.step ≡ step') × (now t.number ≡ true)) ts (λ t a b. (a.0 ∙ sym same, others t.number a.1)) h.0 h.0,
    ),
    (
      each_both (λ t. (t.step ≡ step) × (was t.number ≡ true)) (λ t. (t.step ≡ step) × (was t.number ≡ true)) (λ t. t.number ≢ number) ts
          (λ t a b e. not_both (was t.number) a.1 (ap was e ∙ free)) h.0 h.0,
      h.1,
    ),
  )

  -- one comes back
  pub one_less : (was now : ℕ → Bool) (step step' : ℕ) (ts : List (TicketEntry T)) (t : TicketEntry T) → AreOut was step ts → IsOut t ts
      → ((k : ℕ) → was k ≡ true → k ≢ t.number → now k ≡ true) → step' ≡ step → AreOut now step' (without t.key ts)
  one_less was now step step' ts t h k others same = (
    each_both (λ u. (u.step ≡ step) × (was u.number ≡ true)) (λ u. u.number ≢ t.number) (λ u. (u.step ≡ step') × (now u.number ≡ true))
        (without t.key ts)
        (λ u a n. (a.0 ∙ sym same, others u.number a.1 n)) (each_without (λ u. (u.step ≡ step) × (was u.number ≡ true)) t.key ts h.0)
        (others_apart ts t h.1 k),
    apart_without t.key ts h.1,
  )

  -- none is out, whatever comes
  pub none_out : (was now : ℕ → Bool) (step step' : ℕ) (ts : List (TicketEntry T)) → AreOut was step ts → ((k : ℕ) → was k ≡ false)
      → AreOut now step' ts
  none_out was now step step' [] h n = (tt, tt)
  none_out was now step step' (t ∷ ts) h n = absurd (not_both (was t.number) h.0.0.1 (n t.number))

  -- the entry of a ticket that comes back
  pub record Struck (held : Option (TicketEntry T)) (step number : ℕ) (ts us : List (TicketEntry T)) : Type 0 where
    pub t : TicketEntry T
    pub is : held ≡ Some t
    pub there : IsOut t ts
    pub rest : us ≡ without t.key ts
    pub others : (u : TicketEntry T) → IsOut u ts → (t ≡ u) ⊎ IsOut u us
    pub of_step : t.step ≡ step
    pub of_number : t.number ≡ number

  pub struck : (held : Option (TicketEntry T)) (step number : ℕ) (ts us : List (TicketEntry T))
      → option_map {U = ℕ × ℕ} (λ t. (t.step, t.number)) held ≡ Some (step, number)
      → IfSome held (λ u. IsOut u ts × (us ≡ without u.key ts)) → IfSome held (λ t. (u : TicketEntry T) → IsOut u ts → (t ≡ u) ⊎ IsOut u us)
      → Struck held step number ts us
  struck None step number ts us e h k = absurd (none_some (step, number) e)
    where
      none_some : (y : ℕ × ℕ) → None ≡ Some y → ⊥
      none_some y x = cc
  struck (Some t) step number ts us e h k = record {
    t = t;
    is = refl;
    there = h.0;
    rest = h.1;
    others = k;
    of_step = ap (λ (o : Option (ℕ × ℕ)). (value o).0) e;
    of_number = ap (λ (o : Option (ℕ × ℕ)). (value o).1) e;
  }
    where
      value : Option (ℕ × ℕ) → ℕ × ℕ
      value None = (0, 0)
      value (Some x) = x

-- what is known of one that was asked for, if it is there
pub there_taken : {X : Type 0} (o : Option X) (x : X) (A : Type 0) (T : X → Type 0) → o ≡ Some x → MatchOption o A T → T x
there_taken o x A T e h = subst (λ (p : Option _). MatchOption p A T) e h

pub if_ok : {X E : Type 0} (answer : Result X E) (F G : X → Type 0) → IfOk answer F → ((x : X) → F x → G x) → IfOk answer G
if_ok (Ok x) F G h f = f x h
if_ok (Err e) F G h f = h
