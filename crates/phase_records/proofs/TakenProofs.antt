-- Pieces of a text that were given one after another.
use Rattle.std.proofs.Common.{◌≡◌, ℕ, ◌+◌, Bool, true, false, List, [], ◌++◌, Option, None, Some, refl, sym, ap, ◌∙◌, subst, append_assoc, append-nil, inl, inr}
use Rattle.std.specs.Prelude.{◌⊎◌, if◌then◌else◌, Result, Ok, Err, OnOk, is_err}
use Rattle.std.specs.Io.KnownBytes.{Appends, Keeps}
use Rattle.phase_records.specs.Device.{AppendsBeginning, CountsFailure}
use Rattle.phase_records.proofs.PassedBytes.{Appends-none, Appends-more, Appends-kept, Appends-beginning, beginning_longer}
use Rattle.phase_records.specs.Taken.{Outlet, Passes, Fails, Stays, Took}

kept_none : (h : Option (List ℕ)) → Keeps h h
kept_none None = tt
kept_none (Some xs) = refl

kept_twice : (old mid new : Option (List ℕ)) → Keeps old mid → Keeps mid new → Keeps old new
kept_twice None mid new a b = tt
kept_twice (Some o) None new a b = absurd a
kept_twice (Some o) (Some m) None a b = absurd b
kept_twice (Some o) (Some m) (Some n) a b = b ∙ a

beginning_kept : (old mid new : Option (List ℕ)) (xs : List ℕ) → AppendsBeginning old mid xs → Keeps mid new → AppendsBeginning old new xs
beginning_kept old mid new xs a k = (a.0, a.1, a.2, Appends-kept old mid new a.0 a.3 k)

-- nothing was given
pub took_none : (o : Outlet) → Took o o []
took_none o = record { same = refl; way = by o.failed refl }
  where
    by : (b : Bool) → o.failed ≡ b → Passes o o [] ⊎ (Fails o o [] ⊎ Stays o o)
    by false e = inl (record { was = e; is = e; failures = refl; front = []; whole = append-nil o.waiting; out = Appends-none o.held })
    by true e = inr (inr (record { was = e; is = e; failures = refl; kept = kept_none o.held }))

pass_pass : (a b c : Outlet) (xs ys : List ℕ) → Passes a b xs → Passes b c ys → Passes a c (xs ++ ys)
pass_pass a b c xs ys p q = record {
  was = p.was;
  is = q.is;
  failures = q.failures ∙ p.failures;
  front = p.front ++ q.front;
  whole = sym (append_assoc a.waiting xs ys) ∙ ap (λ (z : List ℕ). z ++ ys) p.whole ∙ append_assoc p.front b.waiting ys
      ∙ ap (λ (z : List ℕ). p.front ++ z) q.whole ∙ sym (append_assoc p.front q.front c.waiting);
  out = Appends-more a.held b.held c.held p.front q.front p.out q.out;
}

pass_fail : (a b c : Outlet) (xs ys : List ℕ) → Passes a b xs → Fails b c ys → Fails a c (xs ++ ys)
pass_fail a b c xs ys p q = record {
  was = p.was;
  is = q.is;
  failures = q.failures ∙ ap (λ (n : ℕ). n + 1) p.failures;
  begun = subst (λ (z : List ℕ). AppendsBeginning a.held c.held z)
      (sym (append_assoc p.front b.waiting ys) ∙ ap (λ (z : List ℕ). z ++ ys) (sym p.whole) ∙ append_assoc a.waiting xs ys)
      (Appends-beginning a.held b.held c.held p.front (b.waiting ++ ys) p.out q.begun);
}

-- more after a failure goes nowhere
fail_more : (a b : Outlet) (xs ys : List ℕ) → Fails a b xs → Fails a b (xs ++ ys)
fail_more a b xs ys p = record {
  was = p.was;
  is = p.is;
  failures = p.failures;
  begun = subst (λ (z : List ℕ). AppendsBeginning a.held b.held z) (append_assoc a.waiting xs ys)
      (beginning_longer a.held b.held (a.waiting ++ xs) ys p.begun);
}

fail_stay : (a b c : Outlet) (xs : List ℕ) → Fails a b xs → Stays b c → Fails a c xs
fail_stay a b c xs p q = record {
  was = p.was;
  is = q.is;
  failures = q.failures ∙ p.failures;
  begun = beginning_kept a.held b.held c.held (a.waiting ++ xs) p.begun q.kept;
}

stay_stay : (a b c : Outlet) → Stays a b → Stays b c → Stays a c
stay_stay a b c p q =
    record { was = p.was; is = q.is; failures = q.failures ∙ p.failures; kept = kept_twice a.held b.held c.held p.kept q.kept }

never : (b : Bool) → b ≡ true → b ≡ false → {T : Type 0} → T
never b e f = absurd cc

-- two pieces one after the other
pub took_then : (a b c : Outlet) (xs ys : List ℕ) → Took a b xs → Took b c ys → Took a c (xs ++ ys)
took_then a b c xs ys p q = record { same = q.same ∙ p.same; way = by p.way q.way }
  where
    by : Passes a b xs ⊎ (Fails a b xs ⊎ Stays a b) → Passes b c ys ⊎ (Fails b c ys ⊎ Stays b c)
        → Passes a c (xs ++ ys) ⊎ (Fails a c (xs ++ ys) ⊎ Stays a c)
    by (inl p) (inl q) = inl (pass_pass a b c xs ys p q)
    by (inl p) (inr (inl q)) = inr (inl (pass_fail a b c xs ys p q))
    by (inl p) (inr (inr q)) = never b.failed q.was p.is
    by (inr (inl p)) (inl q) = never b.failed p.is q.was
    by (inr (inl p)) (inr (inl q)) = never b.failed p.is q.was
    by (inr (inl p)) (inr (inr q)) = inr (inl (fail_more a c xs ys (fail_stay a b c xs p q)))
    by (inr (inr p)) (inl q) = never b.failed p.is q.was
    by (inr (inr p)) (inr (inl q)) = never b.failed p.is q.was
    by (inr (inr p)) (inr (inr q)) = inr (inr (stay_stay a b c p q))

-- and a second one of two parts
pub took_parts : (a b c : Outlet) (xs ys zs : List ℕ) → Took a b xs → Took b c (ys ++ zs) → Took a c (xs ++ ys ++ zs)
took_parts a b c xs ys zs p q =
    subst (λ (all : List ℕ). Took a c all) (sym (append_assoc xs ys zs)) (took_then a b c xs (ys ++ zs) p q)

-- and then nothing
pub took_end : (a b c : Outlet) (xs : List ℕ) → Took a b xs → Took b c [] → Took a c xs
took_end a b c xs p q = subst (λ (all : List ℕ). Took a c all) (append-nil xs) (took_then a b c xs [] p q)

-- the text up to a rest was given
pub record TookFront (old new : Outlet) (text rest : List ℕ) : Type 0 where
  pub front : List ℕ
  pub whole : text ≡ front ++ rest
  pub took : Took old new front

pub front_none : (o : Outlet) (text : List ℕ) → TookFront o o text text
front_none o text = record { front = []; whole = refl; took = took_none o }

pub front_first : (old new : Outlet) (xs rest text : List ℕ) → Took old new xs → text ≡ xs ++ rest → TookFront old new text rest
front_first old new xs rest text p e = record { front = xs; whole = e; took = p }

pub front_more : (old mid new : Outlet) (text xs rest left : List ℕ) → TookFront old mid text left → Took mid new xs → left ≡ xs ++ rest
    → TookFront old new text rest
front_more old mid new text xs rest left p q e = record {
  front = p.front ++ xs;
  whole = p.whole ∙ ap (λ (z : List ℕ). p.front ++ z) e ∙ sym (append_assoc p.front xs rest);
  took = took_then old mid new p.front xs p.took q;
}

pub front_same : (old new : Outlet) (text left rest : List ℕ) → TookFront old new text left → left ≡ rest → TookFront old new text rest
front_same old new text left rest p e = subst (λ (z : List ℕ). TookFront old new text z) e p

-- nothing is left
pub front_all : (old new : Outlet) (text left : List ℕ) → TookFront old new text left → left ≡ [] → Took old new text
front_all old new text left p e =
    subst (λ (z : List ℕ). Took old new z) (sym (p.whole ∙ ap (λ (z : List ℕ). p.front ++ z) e ∙ append-nil p.front)) p.took

-- giving has failed, so more goes nowhere
pub failed_more : (old new : Outlet) (xs ys : List ℕ) → Took old new xs → new.failed ≡ true → Took old new (xs ++ ys)
failed_more old new xs ys p f = record { same = p.same; way = by p.way }
  where
    by : Passes old new xs ⊎ (Fails old new xs ⊎ Stays old new) → Passes old new (xs ++ ys) ⊎ (Fails old new (xs ++ ys) ⊎ Stays old new)
    by (inl p) = never new.failed f p.is
    by (inr (inl q)) = inr (inl (fail_more old new xs ys q))
    by (inr (inr q)) = inr (inr q)

-- and so does the rest of a text
pub front_failed : (old new : Outlet) (text rest : List ℕ) → TookFront old new text rest → new.failed ≡ true → Took old new text
front_failed old new text rest p f =
    subst (λ (z : List ℕ). Took old new z) (sym p.whole) (failed_more old new p.front rest p.took f)

-- bytes that wait
pub waits : (o new : Outlet) (bytes : List ℕ) → new.name ≡ o.name → new.held ≡ o.held → new.failed ≡ o.failed → new.failures ≡ o.failures
    → new.waiting ≡ o.waiting ++ bytes → Took o new bytes
waits o new bytes n h f c w = record { same = n; way = by o.failed refl }
  where
    by : (b : Bool) → o.failed ≡ b → Passes o new bytes ⊎ (Fails o new bytes ⊎ Stays o new)
    by false e = inl (record {
      was = e;
      is = f ∙ e;
      failures = c;
      front = [];
      whole = sym w;
      out = subst (λ (k : Option (List ℕ)). Appends o.held k []) (sym h) (Appends-none o.held);
    })
    by true e =
        inr
        (inr (record { was = e; is = f ∙ e; failures = c; kept = subst (λ (k : Option (List ℕ)). Keeps o.held k) (sym h) (kept_none o.held) }))

-- bytes that may wait
pub may_wait : (o new : Outlet) (bytes : List ℕ) (b : Bool) → new.name ≡ o.name → new.held ≡ o.held → new.failed ≡ o.failed
    → new.failures ≡ o.failures → new.waiting ≡ (if b then o.waiting ++ bytes else o.waiting) → Took o new (if b then bytes else [])
may_wait o new bytes true n h f c w = waits o new bytes n h f c w
may_wait o new bytes false n h f c w = waits o new [] n h f c (w ∙ sym (append-nil o.waiting))

-- bytes that were written where none waited
pub wrote : {T E : Type 0} (r : Result T E) (o new : Outlet) (bytes : List ℕ) → o.waiting ≡ [] → new.waiting ≡ [] → o.failed ≡ false
    → new.name ≡ o.name → new.failed ≡ is_err r → OnOk r (Appends o.held new.held bytes) → AppendsBeginning o.held new.held bytes
    → CountsFailure o.failures new.failures r → Took o new bytes
wrote (Ok x) o new bytes w v f n e ok err c = record {
  same = n;
  way = inl (record {
    was = f;
    is = e;
    failures = c;
    front = bytes;
    whole = ap (λ (z : List ℕ). z ++ bytes) w ∙ sym (append-nil bytes) ∙ ap (λ (z : List ℕ). bytes ++ z) (sym v);
    out = ok;
  });
}
wrote (Err x) o new bytes w v f n e ok err c = record {
  same = n;
  way = inr (inl (record {
    was = f;
    is = e;
    failures = c;
    begun = subst (λ (z : List ℕ). AppendsBeginning o.held new.held z) (ap (λ (z : List ℕ). z ++ bytes) (sym w)) err;
  }));
}

-- all went out
pub all_out : (o new : Outlet) (text : List ℕ) → Took o new text → o.waiting ≡ [] → new.waiting ≡ [] → o.failed ≡ false → new.failed ≡ false
    → Appends o.held new.held text × (new.failures ≡ o.failures)
all_out o new text p w v f e = by p.way
  where
    by : Passes o new text ⊎ (Fails o new text ⊎ Stays o new) → Appends o.held new.held text × (new.failures ≡ o.failures)
    by (inl q) =
        let whole : text ≡ q.front =
        ap (λ (z : List ℕ). z ++ text) (sym w) ∙ q.whole ∙ ap (λ (z : List ℕ). q.front ++ z) v ∙ append-nil q.front in
        (subst (λ (z : List ℕ). Appends o.held new.held z) (sym whole) q.out, q.failures)
    by (inr (inl q)) = never new.failed q.is e
    by (inr (inr q)) = never o.failed q.was f

-- a beginning went out
pub some_out : (o new : Outlet) (text : List ℕ) → Took o new text → o.waiting ≡ [] → o.failed ≡ false → new.failed ≡ true
    → AppendsBeginning o.held new.held text × (new.failures ≡ o.failures + 1)
some_out o new text p w f e = by p.way
  where
    by : Passes o new text ⊎ (Fails o new text ⊎ Stays o new) → AppendsBeginning o.held new.held text × (new.failures ≡ o.failures + 1)
    by (inl q) = never new.failed e q.is
    by (inr (inl q)) = (subst (λ (z : List ℕ). AppendsBeginning o.held new.held (z ++ text)) w q.begun, q.failures)
    by (inr (inr q)) = never o.failed q.was f
