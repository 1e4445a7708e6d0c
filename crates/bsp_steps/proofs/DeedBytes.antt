-- Deeds that are read from bytes.
use Rattle.std.proofs.Common.{◌≡◌, ◌∙◌, ℕ, zero, suc, ◌+◌, ◌-◌, Bool, true, false, ◌&&◌, List, [], ◌∷◌, ◌++◌, map, length, Option, Some, None, refl, sym, ap, subst, arith, append_assoc, append-nil}
use Rattle.std.specs.Prelude.{ℤ, Result, Ok, Err, if◌then◌else◌}
use Rattle.std.specs.Option.{option_map}
use Rattle.std.specs.Borrow.{Bor}
use Rattle.bsp_steps.specs.declared.given.PutGiven.{PutGiven}
use Rattle.bsp_steps.specs.declared.packed.Block.{Block}
use Rattle.bsp_steps.specs.declared.packed.DeedRead.{DeedRead}
use Rattle.bsp_steps.specs.declared.packed.Unread.{Unread}
use Rattle.bsp_steps.specs.DeedBytes.{Item, Leaves, Ends, DeedValue, and_then, value, values, row, set_to, is_done, with_deed, taken, item_of, deeds_from, deeds_in}
use Rattle.bsp_steps.specs.DeedReads.{read_deed, IsRow, IsTaken, IsBlock, after_block, by_block, deeds_of}

-- one value of a row more
pub row_step : (array first next n left : ℕ) (bytes more : List ℕ) (v : ℤ) (old puts new : List PutGiven) (rest : Option (Bor (List ℕ)))
    → left ≡ suc n → next ≡ suc first → value bytes ≡ Some (v, more) → puts ≡ old ++ set_to array first v ∷ []
    → IsRow array next puts new rest (values n more) → IsRow array first old new rest (values left bytes)
row_step array first next n left bytes more v old puts new rest count up is put h =
    subst (λ (m : ℕ). IsRow array first old new rest (values m bytes)) (sym count)
    (subst (λ (x : Option (ℤ × List ℕ)). IsRow array first old new rest (and_then x (λ w after. and_then (values n after) (λ vs last. Some (w ∷ vs, last)))))
    (sym is) (by (values n more) (subst (λ (m : ℕ). IsRow array m puts new rest (values n more)) up h)))
  where
    by : (x : Option (List ℤ × List ℕ)) → IsRow array (suc first) puts new rest x
        → IsRow array first old new rest (and_then x (λ vs last. Some (v ∷ vs, last)))
    by None r = r
    by (Some x) r =
        (r.0, r.1 ∙ (λ i. put i ++ row array (suc first) x.0) ∙ append_assoc old (set_to array first v ∷ []) (row array (suc first) x.0))

-- no value of a row is there
pub row_none : (array first n left : ℕ) (bytes : List ℕ) (old new : List PutGiven) → left ≡ suc n → value bytes ≡ None
    → IsRow array first old new None (values left bytes)
row_none array first n left bytes old new count is =
    subst (λ (m : ℕ). IsRow array first old new None (values m bytes)) (sym count)
    (subst (λ (x : Option (ℤ × List ℕ)). IsRow array first old new None (and_then x (λ w after. and_then (values n after) (λ vs last. Some (w ∷ vs, last)))))
    (sym is) refl)

-- all values of a row were put
pub row_all : (array first left : ℕ) (bytes : Bor (List ℕ)) (puts : List PutGiven) → left ≡ 0
    → IsRow array first puts puts (Some bytes) (values left bytes.now)
row_all array first left bytes puts count =
    subst (λ (m : ℕ). IsRow array first puts puts (Some bytes) (values m bytes.now)) (sym count) (refl, sym (append-nil puts))

module _ (bytes : ℕ) (new : List DeedValue) (fault : Option ℕ) where
  -- a deed more in front
  deed_in_front : (old : List DeedValue) (d : DeedValue) (r : Result (List DeedValue) ℕ)
      → IsBlock bytes (old ++ d ∷ []) new fault r → IsBlock bytes old new fault (with_deed d r)
  deed_in_front old d (Ok ds) h = (h.0, h.1 ∙ append_assoc old (d ∷ []) ds)
  deed_in_front old d (Err left) h = h

  -- an item is taken
  item_taken : (n : ℕ) (rest : List ℕ) (begun next : DeedRead) (deeds after : List DeedRead) (behind : Bor (List ℕ)) (x : Option (Item × List ℕ))
      → IsTaken begun next deeds after (Some behind) x
      → IsBlock bytes (map read_deed after) new fault (deeds_from n next.puts.items next.prints.items behind.now)
      → IsBlock bytes (map read_deed deeds) new fault (taken (deeds_from n) begun.puts.items begun.prints.items rest x)
  item_taken n rest begun next deeds after behind None t h = absurd (some_none behind t)
    where
      some_none : (b : Bor (List ℕ)) → Some b ≡ None → ⊥
      some_none b e = cc
  item_taken n rest begun next deeds after behind (Some (Leaves ps vs, more)) t h =
      subst (λ (r : List ℕ). IsBlock bytes (map read_deed deeds) new fault (deeds_from n (begun.puts.items ++ ps) (begun.prints.items ++ vs) r))
      (same_rest behind.now more t.0)
      (subst (λ (w : List ℤ). IsBlock bytes (map read_deed deeds) new fault (deeds_from n (begun.puts.items ++ ps) w behind.now)) t.2
      (subst (λ (p : List PutGiven). IsBlock bytes (map read_deed deeds) new fault (deeds_from n p next.prints.items behind.now)) t.1
      (subst (λ (ds : List DeedValue). IsBlock bytes ds new fault (deeds_from n next.puts.items next.prints.items behind.now)) t.3 h)))
    where
      same_rest : (a b : List ℕ) → Some a ≡ Some b → a ≡ b
      same_rest a b e = cc
  item_taken n rest begun next deeds after behind (Some (Ends spawns ending, more)) t h =
      let d : DeedValue = record { puts = begun.puts.items; prints = begun.prints.items; spawns = spawns; ending = ending } in
      deed_in_front (map read_deed deeds) d (deeds_from n [] [] more)
      (subst (λ (r : List ℕ). IsBlock bytes (map read_deed deeds ++ d ∷ []) new fault (deeds_from n [] [] r)) (same_rest behind.now more t.0)
      (subst (λ (w : List ℤ). IsBlock bytes (map read_deed deeds ++ d ∷ []) new fault (deeds_from n [] w behind.now)) t.1.1
      (subst (λ (p : List PutGiven). IsBlock bytes (map read_deed deeds ++ d ∷ []) new fault (deeds_from n p next.prints.items behind.now)) t.1.0
      (subst (λ (ds : List DeedValue). IsBlock bytes ds new fault (deeds_from n next.puts.items next.prints.items behind.now)) t.1.2 h))))
    where
      same_rest : (a b : List ℕ) → Some a ≡ Some b → a ≡ b
      same_rest a b e = cc

  -- and reading goes on
  pub block_step : (items n : ℕ) (rest : List ℕ) (begun next : DeedRead) (deeds after : List DeedRead) (behind : Bor (List ℕ))
      → items ≡ suc n
      → is_done rest begun.puts.items begun.prints.items ≡ false
      → IsTaken begun next deeds after (Some behind) (item_of rest)
      → IsBlock bytes (map read_deed after) new fault (deeds_from n next.puts.items next.prints.items behind.now)
      → IsBlock bytes (map read_deed deeds) new fault (deeds_from items begun.puts.items begun.prints.items rest)
  block_step items n rest begun next deeds after behind count going t h =
      subst (λ (m : ℕ). IsBlock bytes (map read_deed deeds) new fault (deeds_from m begun.puts.items begun.prints.items rest)) (sym count)
      (subst
      (λ (b : Bool). IsBlock bytes (map read_deed deeds) new fault
      (if b then Ok [] else taken (deeds_from n) begun.puts.items begun.prints.items rest (item_of rest)))
      (sym going) (item_taken n rest begun next deeds after behind (item_of rest) t h))

-- all is read
pub block_done : (bytes items n : ℕ) (rest : List ℕ) (puts : List PutGiven) (prints : List ℤ) (deeds : List DeedValue)
    → items ≡ suc n → is_done rest puts prints ≡ true → IsBlock bytes deeds deeds None (deeds_from items puts prints rest)
block_done bytes items n rest puts prints deeds count done =
    subst (λ (m : ℕ). IsBlock bytes deeds deeds None (deeds_from m puts prints rest)) (sym count)
    (subst
    (λ (b : Bool). IsBlock bytes deeds deeds None (if b then Ok [] else taken (deeds_from n) puts prints rest (item_of rest)))
    (sym done) (refl, sym (append-nil deeds)))

-- no item is there
pub block_fault : (bytes items n : ℕ) (rest : List ℕ) (begun next : DeedRead) (deeds after : List DeedRead) (old new : List DeedValue)
    → items ≡ suc n
    → is_done rest begun.puts.items begun.prints.items ≡ false
    → IsTaken begun next deeds after None (item_of rest)
    → IsBlock bytes old new (Some (bytes - length rest)) (deeds_from items begun.puts.items begun.prints.items rest)
block_fault bytes items n rest begun next deeds after old new count going t =
    subst (λ (m : ℕ). IsBlock bytes old new (Some (bytes - length rest)) (deeds_from m begun.puts.items begun.prints.items rest)) (sym count)
    (subst
    (λ (b : Bool). IsBlock bytes old new (Some (bytes - length rest))
    (if b then Ok [] else taken (deeds_from n) begun.puts.items begun.prints.items rest (item_of rest)))
    (sym going) (by (item_of rest) t))
  where
    none_some : (r : List ℕ) → None ≡ Some r → ⊥
    none_some r e = cc

    by : (x : Option (Item × List ℕ)) → IsTaken begun next deeds after None x
        → IsBlock bytes old new (Some (bytes - length rest)) (taken (deeds_from n) begun.puts.items begun.prints.items rest x)
    by None t = refl
    by (Some (Leaves ps vs, more)) t = absurd (none_some more t.0)
    by (Some (Ends spawns ending, more)) t = absurd (none_some more t.0)

-- no more items are read
pub block_out : (bytes items : ℕ) (rest : List ℕ) (puts : List PutGiven) (prints : List ℤ) (old new : List DeedValue)
    → items ≡ 0 → IsBlock bytes old new (Some (bytes - length rest)) (deeds_from items puts prints rest)
block_out bytes items rest puts prints old new count =
    subst (λ (m : ℕ). IsBlock bytes old new (Some (bytes - length rest)) (deeds_from m puts prints rest)) (sym count) refl

after_both : (ds es : List DeedValue) (r : Result (List DeedValue) Unread) → after_block ds (after_block es r) ≡ after_block (ds ++ es) r
after_both ds es (Ok fs) = ap Ok (sym (append_assoc ds es fs))
after_both ds es (Err u) = refl

-- a block was read
pub block_read : (block next : ℕ) (b : Block) (bs all : List Block) (old new : List DeedValue)
    → next ≡ suc block → all ≡ b ∷ bs
    → IsBlock (length b.bytes.now) old new None (deeds_in b.bytes.now)
    → after_block new (deeds_of next bs) ≡ after_block old (deeds_of block all)
block_read block next b bs all old new up cut h =
    (λ i. after_block new (deeds_of (up i) bs)) ∙ by (deeds_in b.bytes.now) h ∙ (λ i. after_block old (deeds_of block (sym cut i)))
  where
    none_some : (n : ℕ) → None ≡ Some n → ⊥
    none_some n e = cc

    by : (r : Result (List DeedValue) ℕ) → IsBlock (length b.bytes.now) old new None r
        → after_block new (deeds_of (suc block) bs) ≡ after_block old (by_block block (length b.bytes.now) r (deeds_of (suc block) bs))
    by (Ok ds) h = (λ i. after_block (h.1 i) (deeds_of (suc block) bs)) ∙ sym (after_both old ds (deeds_of (suc block) bs))
    by (Err left) h = absurd (none_some _ h)
