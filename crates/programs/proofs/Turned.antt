-- Lists whose ends were turned round.
use Rattle.std.proofs.Common.{◌≡◌, ℕ, zero, suc, ◌+◌, ◌-◌, List, [], ◌∷◌, ◌++◌, length, reverse, refl, sym, ap, ◌∙◌, arith, append-nil}
use Rattle.std.specs.Prelude.{take, drop}
use Rattle.std.proofs.lemmas.List.{reverse-append, reverse-reverse, length-append, length-reverse}
use Rattle.std.proofs.Math.Seq.{take-append_seam, drop-append_seam}
use Rattle.programs.proofs.Listed.{take_whole, take_front}
use borrow.Rule.Slice.PartMut.{post_of}

module _ {A : Type 0} where
  pub reverse_last : (xs : List A) (y : A) → reverse (xs ++ y ∷ []) ≡ y ∷ reverse xs
  reverse_last xs y = reverse-append xs (y ∷ [])

  pub reverse_none : (xs : List A) → length xs ≡ 0 → reverse xs ≡ []
  reverse_none [] h = refl
  reverse_none (x ∷ xs) h = absurd (omega arith)

  drop_none : (n : ℕ) (xs : List A) → n ≡ length xs → drop n xs ≡ []
  drop_none zero [] h = refl
  drop_none zero (x ∷ xs) h = absurd (omega arith)
  drop_none (suc n) [] h = refl
  drop_none (suc n) (x ∷ xs) h = drop_none n xs (omega arith)

  -- the first of a list
  pub take_first : (n : ℕ) (all front back : List A) → all ≡ front ++ back → length front ≡ n → front ≡ take n all
  take_first n all front back e l =
      sym (ap (take n) e ∙ take_front n front back (omega (arith, l)) ∙ take_whole n front (sym l))

  -- the rest of a list after so many was turned round
  pub tail_turned : (first rest now all turned : List A) (from count : ℕ) → from ≡ length first → now ≡ all → all ≡ first ++ rest
      → turned ≡ reverse (take (length now - from) (drop from now)) → count ≡ length all
      → reverse
      (take count (take from now ++ (turned ++ post_of from (length now - from) now) ++ drop (length (take from now ++ (turned ++ post_of from (length now - from) now))) all))
      ≡ rest ++ reverse first
  tail_turned first rest now all turned from count f n a t c =
      ap reverse whole ∙ reverse-append first (reverse rest) ∙ ap (λ (xs : List A). xs ++ reverse first) (reverse-reverse rest)
    where
      is : now ≡ first ++ rest
      is = n ∙ a

      long : length now ≡ length first + length rest
      long = ap length is ∙ length-append first rest

      front : take from now ≡ first
      front = (λ i. take (f i) (is i)) ∙ take-append_seam first rest

      back : drop from now ≡ rest
      back = (λ i. drop (f i) (is i)) ∙ drop-append_seam first rest

      left : length now - from ≡ length rest
      left = omega (arith, long, f)

      after : post_of from (length now - from) now ≡ []
      after = (λ i. drop (left i) (back i)) ∙ drop_none (length rest) rest refl

      round : turned ≡ reverse rest
      round = t ∙ (λ i. reverse (take (left i) (back i))) ∙ ap reverse (take_whole (length rest) rest refl)

      shown : take from now ++ (turned ++ post_of from (length now - from) now) ≡ first ++ reverse rest
      shown = (λ i. front i ++ (round i ++ after i)) ∙ ap (λ (xs : List A). first ++ xs) (append-nil (reverse rest))

      size : length (first ++ reverse rest) ≡ length all
      size =
          length-append first (reverse rest) ∙ ap (λ (k : ℕ). length first + k) (length-reverse rest) ∙ sym (length-append first rest)
          ∙ ap length (sym a)

      nothing : drop (length (take from now ++ (turned ++ post_of from (length now - from) now))) all ≡ []
      nothing = drop_none (length (take from now ++ (turned ++ post_of from (length now - from) now))) all (ap length shown ∙ size)

      whole : take count
          (take from now ++ (turned ++ post_of from (length now - from) now)
          ++ drop (length (take from now ++ (turned ++ post_of from (length now - from) now))) all)
          ≡ first ++ reverse rest
      whole =
          (λ i. take count ((take from now ++ (turned ++ post_of from (length now - from) now)) ++ nothing i))
          ∙ ap (take count) (append-nil (take from now ++ (turned ++ post_of from (length now - from) now)) ∙ shown)
          ∙ take_whole count (first ++ reverse rest) (c ∙ sym size)
