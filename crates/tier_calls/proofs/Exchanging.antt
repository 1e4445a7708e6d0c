-- Several tokens join, leave and arrive by one exchange.
use Rattle.std.proofs.Common.{◌≡◌, ℕ, zero, suc, ◌+◌, ◌-◌, ◌<◌, ◌≤◌, Bool, false, cond, eqb, List, [], ◌∷◌, ◌++◌, length, refl, ap, sym, ◌∙◌, subst, arith, ne_eqb, append_assoc, length-append}
use Rattle.phaser_word.specs.Fields.{Fields, IsLegal}
use Rattle.tier_steps.specs.Word.{joined}
use Rattle.tier_steps.specs.declared.view.View.{View}
use Rattle.tier_steps.specs.declared.view.Passage.TheVariants.{Departure}
use Rattle.tier_steps.specs.declared.kind.Kind.TheVariants.{Join, Leave, Arrive}
use Rattle.tier_steps.specs.Step.{Needs, CanPass, passed, joined_view}
use Rattle.tier_steps.proofs.Legal.{legal_open}
use Rattle.tier_rule.specs.declared.sight.Key.{Key}
use Rattle.tier_rule.specs.declared.sight.Sight.{Sight}
use Rattle.tier_rule.specs.Group.{stepped_sight, AreAlike, Goes, stays, moves, passes, follows, after_many, all_stepped}
use Rattle.tier_rule.proofs.Together.{sweep, front_goes, back_goes}
use Rattle.tier_calls.specs.Groups.{IsOne, joined_more, left_less, exchanged_all}
use Rattle.tier_calls.specs.NewTokens.{IsBlank, AreBlank, IsEager}
use Rattle.tier_calls.proofs.Arrivals.{less, arrive_goes, early, stepped_long}

-- members join an open tier
pub joins_are : (t : ℕ) (u : View) (w : Fields) → 0 < w.parties → (n : ℕ) → after_many (Join t 0 1) t u w n ≡ joined_more w n
joins_are t u w some' zero =
    λ i.
    record w {
      parties = (let a : w.parties ≡ w.parties + 0 = omega arith in a) i;
      unarrived = (let a : w.unarrived ≡ w.unarrived + 0 = omega arith in a) i;
    }
joins_are t u w some' (suc n) =
    let a : w.parties + n + 1 ≡ w.parties + suc n = omega arith in
    let b : cond (eqb (w.parties + n) 0) 1 (w.unarrived + n + 1) ≡ w.unarrived + suc n =
    ap (λ (c : Bool). cond c 1 (w.unarrived + n + 1)) (ne_eqb (w.parties + n) 0 (omega arith))
    ∙ (let c : w.unarrived + n + 1 ≡ w.unarrived + suc n = omega arith in c) in
    ap (λ (z : Fields). joined z 1) (joins_are t u w some' n) ∙ (λ i. record w { parties = a i; unarrived = b i })

-- members leave a tier at which others stay
left_is : (t : ℕ) (w : Fields) (n : ℕ) → suc n < w.parties → passed t Departure (left_less w n) ≡ left_less w (suc n)
left_is zero w n h =
    λ i.
    record w {
      parties = (let a : w.parties - n - 1 ≡ w.parties - suc n = omega arith in a) i;
      unarrived = (let a : w.unarrived - n - 1 ≡ w.unarrived - suc n = omega arith in a) i;
    }
left_is (suc t) w n h =
    let b : cond (eqb (w.parties - n) 1) 1 (w.unarrived - n - 1) ≡ w.unarrived - suc n =
    ap (λ (c : Bool). cond c 1 (w.unarrived - n - 1)) (ne_eqb (w.parties - n) 1 (omega arith))
    ∙ (let c : w.unarrived - n - 1 ≡ w.unarrived - suc n = omega arith in c) in
    λ i. record w { parties = (let a : w.parties - n - 1 ≡ w.parties - suc n = omega arith in a) i; unarrived = b i }

pub leaves_are : (t : ℕ) (v : View) (w : Fields) (n : ℕ) → n < w.parties → after_many Leave t v w n ≡ left_less w n
leaves_are t v w zero h =
    λ i.
    record w {
      parties = (let a : w.parties ≡ w.parties - 0 = omega arith in a) i;
      unarrived = (let a : w.unarrived ≡ w.unarrived - 0 = omega arith in a) i;
    }
leaves_are t v w (suc n) h = ap (passed t Departure) (leaves_are t v w n (omega arith)) ∙ left_is t w n h

-- a token without members may join an open tier, after others have
may_join : (k : Key) (t : ℕ) (u x : View) (w : Fields) (n : ℕ) → IsBlank x → t < length k.shape → w.ended ≡ false → 0 < w.parties
    → 0 < w.unarrived → w.parties + suc n ≤ 65535 → Needs k.shape (Join t 0 1) t (after_many (Join t 0 1) t u w n) x
may_join k t u x w n blank place going some' waits capacity =
    subst (λ (z : Fields). Needs k.shape (Join t 0 1) t z x) (sym (joins_are t u w some' n)) (
      record { here = refl; errand = blank.rests; none = blank.none; some = omega arith; few = omega arith; place = place },
      record { going = going; waits = omega arith; empty = λ e. absurd (omega arith); capacity = omega arith },
    )

pub join_goes : (k : Key) (tries t : ℕ) (u : View) (w : Fields) (l : List Sight) → tries ≤ 1 → AreBlank k l → t < length k.shape
    → w.ended ≡ false → 0 < w.parties → 0 < w.unarrived → w.parties + length l ≤ 65535
    → Goes k t w l (after_many (Join t 0 1) t u w (length l)) (all_stepped (Join t 0 1) tries t u w l)
join_goes k tries t u w [] once blank place going some' waits capacity = stays w []
join_goes k tries t u w (x ∷ xs) once blank place going some' waits capacity =
    let n : ℕ = length xs in
    let z : Fields = after_many (Join t 0 1) t u w n in
    let z' : Fields = joined z 1 in
    let ys : List Sight = all_stepped (Join t 0 1) tries t u w xs in
    let y : Sight = stepped_sight (Join t 0 1) t z tries x in
    follows w z z' (x ∷ xs) (x ∷ ys) (y ∷ ys)
    (passes w z x xs ys (join_goes k tries t u w xs once blank.1 place going some' waits (omega arith)))
    (moves z z' x ys (y ∷ ys) (Join t 0 1) tries (may_join k t u x.view w n blank.0.1 place going some' waits (omega arith)) tt blank.0.0
    (record { few = once; changes = λ c j. absurd (cc) }) (stays z' (y ∷ ys)))

-- a member that joins is as those that are there
as_others : (t : ℕ) (w : Fields) (v x : View) → IsBlank x → CanPass t w v → IsOne v → IsEager v → joined_view t 0 1 w x ≡ v
as_others t w v x blank can one eager = λ i. record {
  tier = sym can.own i;
  size = sym one.one i;
  phase = can.current i;
  arrived = sym eager.none i;
  end_seen = (blank.unseen ∙ sym eager.unseen) i;
  led = (blank.unled ∙ sym eager.unled) i;
  note = (blank.unnoted ∙ sym eager.unnoted) i;
  errand = sym can.rest i;
}

pub joined_alike : (k : Key) (tries t : ℕ) (u v : View) (w : Fields) (l : List Sight) → 0 < w.parties → AreBlank k l → CanPass t w v
    → IsOne v → IsEager v → AreAlike k v (all_stepped (Join t 0 1) tries t u w l)
joined_alike k tries t u v w [] some' blank can one eager = tt
joined_alike k tries t u v w (x ∷ xs) some' blank can one eager = (
  (
    blank.0.0,
    ap (λ (z : Fields). joined_view t 0 1 z x.view) (joins_are t u w some' (length xs))
        ∙ as_others t w v x.view blank.0.1 can one eager,
  ),
  joined_alike k tries t u v w xs some' blank.1 can one eager,
)

pub can_later : (t : ℕ) (w z : Fields) (v : View) → CanPass t w v → z.ended ≡ w.ended → z.phase ≡ w.phase → CanPass t z v
can_later t w z v can e p =
    record { rest = can.rest; own = can.own; going = e ∙ can.going; current = p ∙ can.current; unarrived = can.unarrived }

leave_goes : (k : Key) (t : ℕ) (v : View) (w : Fields) (l : List Sight) → AreAlike k v l → CanPass t w v → length l < w.parties
    → Goes k t w l (left_less w (length l)) (all_stepped Leave 1 t v w l)
leave_goes k t v w l alike can few =
    subst (λ (z : Fields). Goes k t w l z (all_stepped Leave 1 t v w l)) (leaves_are t v w (length l) few)
    (sweep k Leave 1 t v w l (omega arith) (λ j. refl) alike
    (λ n h. (
      can_later t w (after_many Leave t v w n) v can (ap (λ (z : Fields). z.ended) (leaves_are t v w n (omega arith)))
          (ap (λ (z : Fields). z.phase) (leaves_are t v w n (omega arith))),
      tt,
    )))

both_alike : (k : Key) (v : View) (l m : List Sight) → AreAlike k v l → AreAlike k v m → AreAlike k v (l ++ m)
both_alike k v [] m a b = b
both_alike k v (x ∷ xs) m a b = (a.0, both_alike k v xs m a.1 b)

-- New members join, some old ones leave, and all others arrive: one word after the other.
pub pass_goes : (k : Key) (t : ℕ) (u v : View) (w : Fields) (news stay gone : List Sight) → AreBlank k news → AreAlike k v stay
    → AreAlike k v gone → CanPass t w v → IsOne v → IsEager v
    → t < length k.shape → IsLegal w → 0 < w.parties → w.parties + length news ≤ 65535 → length stay + length gone ≤ w.unarrived
    → 0 < length stay + length gone → 0 < length news + length stay
    → Goes k t w (news ++ (stay ++ gone))
    (record w { parties = w.parties + length news - length gone; unarrived = w.unarrived - (length stay + length gone) })
    (exchanged_all t u v w news stay gone)
pass_goes k t u v w news stay gone blank alike-v alike-g can one-each eager place legal some' capacity few old more =
    let s : ℕ = length news in
    let a : ℕ = length stay in
    let g : ℕ = length gone in
    let w1 : Fields = joined_more w s in
    let w2 : Fields = left_less w1 g in
    let open' = legal_open w legal some' in
    let news' : List Sight = all_stepped (Join t 0 1) 0 t u w news in
    let gone' : List Sight = all_stepped Leave 1 t v w1 gone in
    let come : List Sight = news' ++ stay in
    let come' : List Sight = all_stepped Arrive 1 t v w2 come in
    let alike : AreAlike k v come = both_alike k v news' stay (joined_alike k 0 t u v w news some' blank can one-each eager) alike-v in
    let one : Goes k t w (news ++ (stay ++ gone)) w1 (news' ++ (stay ++ gone)) =
    front_goes k t w w1 news news' (stay ++ gone)
    (subst (λ (z : Fields). Goes k t w news z news') (joins_are t u w some' s) (join_goes k 0 t u w news (omega arith) blank place can.going some' (omega arith) capacity)) in
    let two : Goes k t w1 (come ++ gone) w2 (come ++ gone') =
    back_goes k t w1 w2 come gone gone' (leave_goes k t v w1 gone alike-g (can_later t w w1 v can refl refl) (omega arith)) in
    let three : Goes k t w2 (come ++ gone') (less w2 (length come)) (come' ++ gone') =
    front_goes k t w2 (less w2 (length come)) come come' gone' (arrive_goes k t v w2 come alike (can_later t w w2 v can refl refl)) in
    let long : length come ≡ s + a = length-append news' stay ∙ ap (λ (n : ℕ). n + a) (stepped_long (Join t 0 1) 0 t u w news) in
    let both : Goes k t w1 (come ++ gone) (less w2 (length come)) (come' ++ gone') =
    follows w1 w2 (less w2 (length come)) (come ++ gone) (come ++ gone') (come' ++ gone') two three in
    let again : Goes k t w1 (news' ++ (stay ++ gone)) (less w2 (length come)) (come' ++ gone') =
    subst (λ (l : List Sight). Goes k t w1 l (less w2 (length come)) (come' ++ gone')) (append_assoc news' stay gone) both in
    let word : less w2 (length come) ≡ record w { parties = w.parties + s - g; unarrived = w.unarrived - (a + g) } =
    ap (less w2) long
    ∙ ap (λ (n : ℕ). record w { parties = w.parties + s - g; unarrived = n })
    (let e : w.unarrived + s - g - (s + a) ≡ w.unarrived - (a + g) = omega arith in e) in
    subst (λ (z : Fields). Goes k t w (news ++ (stay ++ gone)) z (come' ++ gone')) word
    (follows w w1 (less w2 (length come)) (news ++ (stay ++ gone)) (news' ++ (stay ++ gone)) (come' ++ gone') one again)

-- those that come are alike
pub come_before : (k : Key) (t : ℕ) (u v : View) (w : Fields) (news stay : List Sight) → AreBlank k news → AreAlike k v stay → CanPass t w v
    → IsOne v → IsEager v → 0 < w.parties → AreAlike k v (all_stepped (Join t 0 1) 0 t u w news ++ stay)
come_before k t u v w news stay blank alike-v can one eager some' =
    both_alike k v (all_stepped (Join t 0 1) 0 t u w news) stay (joined_alike k 0 t u v w news some' blank can one eager) alike-v

pub before_long : (t : ℕ) (u : View) (w : Fields) (news stay : List Sight)
    → length (all_stepped (Join t 0 1) 0 t u w news ++ stay) ≡ length news + length stay
before_long t u w news stay =
    length-append (all_stepped (Join t 0 1) 0 t u w news) stay ∙ ap (λ (n : ℕ). n + length stay) (stepped_long (Join t 0 1) 0 t u w news)

-- those that tried are alike, if others are still to arrive
pub come_alike : (k : Key) (t : ℕ) (u v : View) (w : Fields) (news stay gone : List Sight) → AreBlank k news → AreAlike k v stay
    → CanPass t w v → IsOne v → IsEager v → 0 < w.parties → length stay + length gone < w.unarrived
    → AreAlike k (record v { arrived = 1 })
    (all_stepped Arrive 1 t v (left_less (joined_more w (length news)) (length gone)) (all_stepped (Join t 0 1) 0 t u w news ++ stay))
come_alike k t u v w news stay gone blank alike-v can one eager some' more =
    let news' : List Sight = all_stepped (Join t 0 1) 0 t u w news in
    let long : length (news' ++ stay) ≡ length news + length stay =
    length-append news' stay ∙ ap (λ (n : ℕ). n + length stay) (stepped_long (Join t 0 1) 0 t u w news) in
    early k t v (left_less (joined_more w (length news)) (length gone)) (news' ++ stay)
    (both_alike k v news' stay (joined_alike k 0 t u v w news some' blank can one eager) alike-v) eager.none one.rests (omega arith)

pub come_long : (t : ℕ) (u v : View) (w z : Fields) (news stay : List Sight)
    → length (all_stepped Arrive 1 t v z (all_stepped (Join t 0 1) 0 t u w news ++ stay)) ≡ length news + length stay
come_long t u v w z news stay =
    stepped_long Arrive 1 t v z (all_stepped (Join t 0 1) 0 t u w news ++ stay)
    ∙ (length-append (all_stepped (Join t 0 1) 0 t u w news) stay
    ∙ ap (λ (n : ℕ). n + length stay) (stepped_long (Join t 0 1) 0 t u w news))

pub gone_count : (t : ℕ) (v : View) (w : Fields) (gone : List Sight) → length (all_stepped Leave 1 t v w gone) ≡ length gone
gone_count t v w gone = stepped_long Leave 1 t v w gone
