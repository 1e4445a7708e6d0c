-- Several tokens without members in one seat.
use Rattle.std.proofs.Common.{◌≡◌, ℕ, zero, suc, ◌<◌, List, [], length, replicate, refl, ap, sym, ◌∙◌, subst}
use Rattle.std.proofs.lemmas.List.{length-replicate}
use mathlib.Core.Option.{none}
use Rattle.atomic_table.specs.Table.{Me, step, Allows}
use Rattle.atomic_table.specs.Seated.{TableId}
use Rattle.phaser_word.specs.Fields.{Fields}
use Rattle.tier_steps.specs.declared.kind.Kind.{Kind}
use Rattle.tier_rule.specs.declared.sight.Key.{Key}
use Rattle.tier_rule.specs.declared.sight.Sight.{Sight}
use Rattle.tier_rule.specs.Reach.{sat_sight, Kept}
use Rattle.tier_rule.specs.Group.{SatAll}
use Rattle.tier_rule.proofs.Together.{sits_all_allow}
use Rattle.tier_calls.specs.Holding.{Named}
use Rattle.tier_calls.specs.NewTokens.{TokensHeld, AreBlank, AreTokens, AreSat, tokens_of}

abbrev Seat : Type 0
Seat = Me Kind (List Sight)

pub sat_blank : (k : Key) (w : Fields) (n : ℕ) → AreBlank k (replicate n (sat_sight k w))
sat_blank k w zero = tt
sat_blank k w (suc n) = ((refl, record { none = refl; rests = refl; unseen = refl; unled = refl; unnoted = refl }), sat_blank k w n)

pub sit_all_allow : {k j : Key} {n : Named} {id : TableId} (slots seat count : ℕ) (me : Seat) → me ≡ ([], []) → j ≡ n.key
    → record { id = id; key = k } ≡ n → 0 < length k.shape
    → Allows (Kept k) slots seat me 0 (λ c. c) (SatAll j count (step slots 0 0 0 none) me)
sit_all_allow {k} {j} {n} {id} slots seat count me blank key is some' =
    let own : j ≡ k = key ∙ sym (ap (λ (z : Named). z.key) is) in
    subst (λ (z : Key). Allows (Kept k) slots seat me 0 (λ c. c) (SatAll z count (step slots 0 0 0 none) me)) (sym own)
    (subst (λ (m : Seat). Allows (Kept k) slots seat m 0 (λ c. c) (SatAll k count (step slots 0 0 0 none) m)) (sym blank) (sits_all_allow k slots seat count some'))

pub sat_pool : {found count n : ℕ} (j : Key) (blank me : Seat) (slots : ℕ) → blank ≡ ([], [])
    → SatAll j count (step slots 0 0 0 none) blank found me → count ≡ n → AreTokens me n
sat_pool {found} {count} {n} j blank me slots empty reported is =
    let r = reported empty in
    record { bare = ap (λ (z : Seat). z.1) r.3; long = ap (λ (z : Seat). length z.0) r.3 ∙ (length-replicate count (sat_sight j r.0) ∙ is) }

pub sat_now : {j : Key} {m : Named} {found count n : ℕ} (one : TableId) (blank me : Seat) (slots : ℕ) → blank ≡ ([], [])
    → SatAll j count (step slots 0 0 0 none) blank found me → count ≡ n → j ≡ m.key → one ≡ m.id → AreSat m n (tokens_of one me)
sat_now {j} {m} {found} {count} {n} one blank me slots empty reported is key same =
    let r = reported empty in
    record {
      table = same;
      word = r.0;
      tokens =
          ap (λ (z : Seat). z.0) r.3
          ∙ (ap (λ (c : ℕ). replicate c (sat_sight j r.0)) is ∙ ap (λ (z : Key). replicate n (sat_sight z r.0)) key);
    }

pub are_blank : {n : Named} {count : ℕ} {p : TokensHeld} → AreSat n count p → AreBlank n.key p.tokens
are_blank {n} {count} {p} s = subst (AreBlank n.key) (sym s.tokens) (sat_blank n.key s.word count)

pub are_many : {n : Named} {count : ℕ} {p : TokensHeld} → AreSat n count p → length p.tokens ≡ count
are_many {n} {count} {p} s = ap length s.tokens ∙ length-replicate count (sat_sight n.key s.word)
