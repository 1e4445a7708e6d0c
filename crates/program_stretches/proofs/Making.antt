-- Stretches are made of pieces.
use Rattle.std.proofs.Common.{◌≡◌, ◌≤◌, ◌+◌, ◌-◌, ℕ, List, [], ◌∷◌, ◌++◌, length, reverse, Option, Some, refl, sym, ap, subst, ◌∙◌, arith, append_assoc}
use Rattle.std.proofs.lemmas.List.{length-append}
use Rattle.program_stretches.specs.PartValue.{PartValue}
use Rattle.program_stretches.specs.Parts.{AreFresh, fresh_part, tasks_in}
use Rattle.program_stretches.specs.Next.{AreEmpty, all_in, all_of}
use Rattle.program_stretches.specs.declared.next.Piece.{Piece}
use Rattle.program_stretches.proofs.Cutting.{none_fresh, none_cut, fresh_front, tasks_front}
use Rattle.program_stretches.proofs.Pieces.{of_last, of_reversed, empty_front, empty_back, empty_reversed}

module _ {S : Type 0} where
  -- these stretches, the last first, are made of the pieces behind the first ones, which have tasks up to this place
  pub record IsMade (ps : List (Piece S)) (end : ℕ) (rs : List (Piece S)) (parts : List (Option (PartValue S))) : Type 0 where
    pub empty : AreEmpty rs
    pub fresh : AreFresh end (reverse parts)
    pub tasks : all_of rs ++ tasks_in (reverse parts) ≡ all_in ps
    pub many : end ≡ length (all_of rs)

  pub made_begins : (ps rs : List (Piece S)) (parts : List (Option (PartValue S))) (count : ℕ) → rs ≡ reverse ps → parts ≡ [] → AreEmpty ps
      → length (all_in ps) ≡ count → IsMade ps count rs parts
  made_begins ps rs parts count e n h c =
      let all : all_of rs ≡ all_in ps = ap all_of e ∙ of_reversed ps in
      record {
        empty = subst AreEmpty (sym e) (empty_reversed ps h);
        fresh = none_fresh count parts n;
        tasks = none_cut (all_of rs) parts n ∙ all;
        many = sym c ∙ ap length (sym all);
      }

  -- the next piece
  pub record IsPiece (ps : List (Piece S)) (end from : ℕ) (front : List (Piece S)) (p : Piece S)
      (parts : List (Option (PartValue S))) : Type 0 where
    pub inside : length p.tasks.items ≤ end
    pub sum : from ≡ end - length p.tasks.items → from + length p.tasks.items ≡ end
    pub part : p.part ≡ fresh_part 0 []
    pub fresh : from ≡ end - length p.tasks.items → AreFresh (from + length p.tasks.items) (reverse parts)
    pub next : (rest : List S) (qs more : List (Option (PartValue S))) (part : PartValue S) → from ≡ end - length p.tasks.items
        → AreFresh (from + length rest) (reverse qs)
        → rest ++ tasks_in (reverse qs) ≡ p.tasks.items ++ tasks_in (reverse parts) → part ≡ fresh_part from rest
        → more ≡ qs ++ Some part ∷ [] → IsMade ps from front more

  pub piece_next : (ps : List (Piece S)) (end from : ℕ) (rs front : List (Piece S)) (p : Piece S) (parts : List (Option (PartValue S)))
      → IsMade ps end rs parts → rs ≡ front ++ p ∷ [] → IsPiece ps end from front p parts
  piece_next ps end from rs front p parts h e =
      let all : all_of rs ≡ all_of front ++ p.tasks.items = ap all_of e ∙ of_last front p in
      let long = ap length all ∙ length-append (all_of front) p.tasks.items in
      let many = h.many in
      let inside : length p.tasks.items ≤ end = omega (arith, long, many) in
      let whole = subst AreEmpty e h.empty in
      let sum : from ≡ end - length p.tasks.items → from + length p.tasks.items ≡ end = λ f. omega (arith, f, inside) in
      record {
        inside = inside;
        sum = sum;
        part = (empty_back front (p ∷ []) whole).0;
        fresh = λ f. subst (λ (n : ℕ). AreFresh n (reverse parts)) (sym (sum f)) h.fresh;
        next = λ rest qs more part f r t is m. record {
          empty = empty_front front (p ∷ []) whole;
          fresh = fresh_front from (from + length rest) rest qs more part r is m refl;
          tasks =
              ap (λ (ts : List S). all_of front ++ ts) (tasks_front from rest qs more part is m ∙ t)
              ∙ sym (append_assoc (all_of front) p.tasks.items (tasks_in (reverse parts)))
              ∙ ap (λ (ts : List S). ts ++ tasks_in (reverse parts)) (sym all) ∙ h.tasks;
          many = omega (arith, f, long, many);
        };
      }

  pub made_ends : (ps : List (Piece S)) (end : ℕ) (rs : List (Piece S)) (parts : List (Option (PartValue S))) → IsMade ps end rs parts
      → length rs ≡ 0 → AreFresh 0 (reverse parts) × (tasks_in (reverse parts) ≡ all_in ps)
  made_ends ps end [] parts h n = (subst (λ (k : ℕ). AreFresh k (reverse parts)) h.many h.fresh, h.tasks)
  made_ends ps end (r ∷ rs) parts h n = absurd (omega (arith, n))
