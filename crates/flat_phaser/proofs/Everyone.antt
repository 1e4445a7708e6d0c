-- Everyone has arrived if each owner's members have.
use Rattle.std.proofs.Common.{◌≡◌, ◌≢◌, ℕ, ◌+◌, ◌≤◌, ◌⊎◌, inl, inr, ⊎_elim, Bool, true, false, List, [], ◌∷◌, refl, sym, ◌∙◌, ap, arith, Some, None, Option}
use Rattle.std.specs.Prelude.{◌&&◌}
use Rattle.std.proofs.lemmas.Bool.{eq-eqb, ne_eqb, eqb-true}
use Rattle.flat_phaser.specs.Flat.{Member, is_marked, has_arrived, is_owned, members_of, arrived_of, everyone_arrived}
use Rattle.flat_phaser.proofs.Counts.{bit, count_cons, bit_true, bit_and_true, bit_and_false, arrived_le}

pub either : (b : Bool) → (b ≡ true) ⊎ (b ≡ false)
either true = inl refl
either false = inr refl

pub both_true : (a b : Bool) → a && b ≡ true → (a ≡ true) × (b ≡ true)
both_true true b e = (refl, e)
both_true false b e = absurd (let wrong : false ≡ true = e in cc)

pub and_true : (a b : Bool) → a ≡ true → b ≡ true → a && b ≡ true
and_true a b e f = ap (λ (x : Bool). x && b) e ∙ f

same_bool : (a b : Bool) → (a ≡ true → b ≡ true) → (b ≡ true → a ≡ true) → a ≡ b
same_bool true b f g = sym (f refl)
same_bool false true f g = g refl
same_bool false false f g = refl

arrived_cons : (phase owner : ℕ) (m : Member) (ms : List Member)
    → arrived_of phase owner (m ∷ ms) ≡ bit (is_owned owner m && has_arrived phase m) + arrived_of phase owner ms
arrived_cons phase owner m ms = count_cons (λ x. is_owned owner x && has_arrived phase x) m ms

pub everyone_from : (phase : ℕ) (members : List Member) → ((owner : ℕ) → members_of owner members ≤ arrived_of phase owner members)
    → everyone_arrived phase members ≡ true
everyone_from phase [] h = refl
everyone_from phase (m ∷ ms) h = ⊎_elim
    (λ (yes' : has_arrived phase m ≡ true).
    let rest : (owner : ℕ) → members_of owner ms ≤ arrived_of phase owner ms = λ owner.
    let arrived = arrived_cons phase owner m ms in
    let all = count_cons (is_owned owner) m ms in
    let here = bit_and_true (is_owned owner m) (has_arrived phase m) yes' in
    let whole = h owner in
    omega arith
    in
    and_true (has_arrived phase m) (everyone_arrived phase ms) yes' (everyone_from phase ms rest))
    (λ (no' : has_arrived phase m ≡ false). absurd
    (let arrived = arrived_cons phase m.owner m ms in
    let all = count_cons (is_owned m.owner) m ms in
    let none = bit_and_false (is_owned m.owner m) (has_arrived phase m) no' in
    let one = bit_true (is_owned m.owner m) (eq-eqb m.owner m.owner refl) in
    let rest = arrived_le phase m.owner ms in
    let whole = h m.owner in
    omega arith))
    (either (has_arrived phase m))

pub everyone_each : (phase : ℕ) (members : List Member) → everyone_arrived phase members ≡ true → (owner : ℕ)
    → arrived_of phase owner members ≡ members_of owner members
everyone_each phase [] h owner = refl
everyone_each phase (m ∷ ms) h owner =
    let both = both_true (has_arrived phase m) (everyone_arrived phase ms) h in
    let arrived = arrived_cons phase owner m ms in
    let all = count_cons (is_owned owner) m ms in
    let rest = everyone_each phase ms both.1 owner in
    let here = bit_and_true (is_owned owner m) (has_arrived phase m) both.0 in
    omega arith

-- two lists with the same counts
pub same_everyone : (phase : ℕ) (ms ns : List Member) → ((owner : ℕ) → members_of owner ms ≡ members_of owner ns)
    → ((owner : ℕ) → arrived_of phase owner ms ≡ arrived_of phase owner ns) → everyone_arrived phase ms ≡ everyone_arrived phase ns
same_everyone phase ms ns members arrived = same_bool (everyone_arrived phase ms) (everyone_arrived phase ns)
    (λ e. everyone_from phase ns (λ owner. let a = everyone_each phase ms e owner in let b = members owner in let c = arrived owner in omega arith))
    (λ e. everyone_from phase ms (λ owner. let a = everyone_each phase ns e owner in let b = members owner in let c = arrived owner in omega arith))

mark_other : (p q : ℕ) (mark : Option ℕ) → p ≢ q → is_marked p mark ≡ true → is_marked q mark ≡ false
mark_other p q None n e = absurd (let wrong : false ≡ true = e in cc)
mark_other p q (Some r) n e = let same : r ≡ p = eqb-true r p e in ne_eqb r q (λ z. n (sym same ∙ z))

-- who has arrived in one phase has arrived in no other
pub none_arrived : (p q : ℕ) (members : List Member) → p ≢ q → everyone_arrived p members ≡ true → (owner : ℕ)
    → arrived_of q owner members ≡ 0
none_arrived p q [] n h owner = refl
none_arrived p q (m ∷ ms) n h owner =
    let both = both_true (has_arrived p m) (everyone_arrived p ms) h in
    let arrived = arrived_cons q owner m ms in
    let rest = none_arrived p q ms n both.1 owner in
    let here = bit_and_false (is_owned owner m) (has_arrived q m) (mark_other p q m.mark n both.0) in
    omega arith
