-- The machine value of a `Handle`, and what it owns. Assumes `Logic`.
use Rattle.std.proofs.Common.{◌≡◌, ℕ, List, [], ◌∷◌, ◌++◌, refl, sym, subst}
use mathlib.Core.Bool.{true}
use lib.Dec.{T}
use seplogic.Ra.Ura.{Ura}
use mir.Raw.{raw as bare}
use mir.Val.{Val, vptr, vstruct, of_list}
use base.Logic.{never, fst∗}
use types.Logic.{Logic, sem}
use types.Kit.{Item, Goal, Soaks, Seq, Step, step, ‵, ◌$◌, move, drop, rewrite, fsplit, fjoin, fpick, fpack, feq_i, feq_l}
use types.SemTy.{Body as Borrowed}
use base.Fraction.{full_share}
use base.Fml.{Lft, GName, Share, flft, fobs, fauth, fbor, fobor}
use denote.RattleType.{RattleType, Valss}
use denote.Builtin.{RawPtr}
use denote.Memory.{lone, cell_at, part_at, mem}
use denote.Param.Laws.{Laws}
use denote.RawPtr.{Ptr, block_ptr, null_ptr, ptr_val, in_a_block}
use denote.Signature.{Slot, plain}
use denote.Steps.{nothing, opens}
use denote.Struct.Struct.{within}
use denote.Struct.Owning.{shape}
use Rattle.core.specs.declared.alloc.Allocator.{Ghosts}
use Rattle.std.specs.Prelude.{Option, Some, None, IsSome, is_some}
use Rattle.std_alloc.specs.Box.Ownership.{box_owns}
use Rattle.std_heap.specs.contracts.Global as Heap
use Rattle.std_heap.specs.contracts.GlobalAllocator.TheImpl as Heap-alloc
use Rattle.std_heap.proofs.Global.TheLaws as heap
use Rattle.bsp_steps.specs.Owned.{freeing}
use Rattle.bsp_steps.specs.contracts.state.State as state
use Rattle.bsp_steps.specs.contracts.loose.Loose as loose
use Rattle.bsp_steps.specs.contracts.handle.Handle as handle

-- the state behind the handle, and the allocator
abbrev pub R : RattleType
R = state.the_row

abbrev pub Z : RattleType
Z = Heap.the_row

abbrev pub LZ : Laws Z
LZ = heap.the_row_laws

abbrev pub g : Ghosts Z.Denot
g = Heap-alloc.ghosts

abbrev pub Hand : RattleType
Hand = handle.the_row

abbrev pub FromLoose : Slot 0
FromLoose = plain (λ _. loose.the_row R Z g)

abbrev pub FromGlobal : Slot 0
FromGlobal = plain (λ _. Z)

abbrev pub FromHandle : Slot 0
FromHandle = plain (λ _. Hand)

abbrev pub word : Ptr → Val
word p = vstruct (of_list (ptr_val p ∷ []))

module _ {M : Type 1} {𝓤 : Ura M} {𝓛 : Logic 𝓤} {K : Type 0} {Γ : List (Item 𝓤)} {G : Goal 𝓤 𝓛.H} where
  -- a handle of the state x, from what it owns
  pub handle_in : K → (b o : ℕ) (x : R.Denot)
      → Step K 𝓛 (‵ (Hand.own_val (record { at = block_ptr b o; state = Some x }) (word (block_ptr b o) ∷ [])) ∷ Γ) G
      (‵ (box_owns freeing R (block_ptr b o) x) ∷ Γ) G
  handle_in t b o x = step (λ s. let v : Val = word (block_ptr b o) in
      nothing t $ feq_i t (List Val) (vptr b o ∷ []) (vptr b o ∷ []) refl $ fjoin t $ feq_i t (List Val) (v ∷ []) (v ∷ []) refl $ fjoin t $
      fpack t (Valss (RawPtr ∷ [])) (within (shape handle.the_type) (block_ptr b o, tt) (v ∷ [])) (vptr b o ∷ [], tt) $ fjoin t $ s)

  some_out : K → (p : Ptr) (s : Option R.Denot) (vs : List Val) → is_some s ≡ true
      → ((b o : ℕ) (x : R.Denot) → p ≡ block_ptr b o → s ≡ Some x → vs ≡ word (block_ptr b o) ∷ []
      → Seq K 𝓛 (‵ (box_owns freeing R (block_ptr b o) x) ∷ Γ) G)
      → Seq K 𝓛 (‵ (Hand.own_val (record { at = p; state = s }) vs) ∷ Γ) G
  some_out t p None vs is k = absurd (subst T (sym is) tt)
  some_out t p (Some x) vs is k =
      fsplit t $ fpick t (λ vss. fsplit t $ feq_l t (λ ev. fsplit t $ feq_l t (λ ep. drop t $
      in_a_block t p (λ p'. box_owns freeing R p' x) (fst∗ 𝓤 (never 𝓤) (sem 𝓛 (freeing (bare (lone R.mir)) null_ptr)))
      (λ b o e. k b o x e refl
      (subst (λ (q : Ptr). vs ≡ word q ∷ []) e (subst (λ (ps : List Val). vs ≡ vstruct (of_list (ps ++ [])) ∷ []) ep ev))))))

  -- what a handle that has a state owns
  pub handle_out : K → (d : Hand.Denot) (vs : List Val) → IsSome d.state
      → ((b o : ℕ) (x : R.Denot) → d.at ≡ block_ptr b o → d.state ≡ Some x → vs ≡ word (block_ptr b o) ∷ []
      → Seq K 𝓛 (‵ (box_owns freeing R (block_ptr b o) x) ∷ Γ) G)
      → Seq K 𝓛 (‵ (Hand.own_val d vs) ∷ Γ) G
  handle_out t d vs is k = some_out t d.at d.state vs is k

module _ {M : Type 1} {𝓤 : Ura M} {𝓛 : Logic 𝓤} {K : Type 0} {Γ : List (Item 𝓤)} {G : Goal 𝓤 𝓛.H} where
  -- a handle of no state
  pub none_in : K → Step K 𝓛 (‵ (Hand.own_val (record { at = null_ptr; state = None }) (word null_ptr ∷ [])) ∷ Γ) G Γ G
  none_in t = step (λ s. let v : Val = word null_ptr in
      nothing t $ nothing t $ feq_i t (List Val) (ptr_val null_ptr ∷ []) (ptr_val null_ptr ∷ []) refl $ fjoin t $ feq_i t (List Val)
      (v ∷ []) (v ∷ []) refl $ fjoin t $
      fpack t (Valss (RawPtr ∷ [])) (within (shape handle.the_type) (null_ptr, tt) (v ∷ [])) (ptr_val null_ptr ∷ [], tt) $ fjoin t $ s)

  -- a handle behind a `&mut`, opened: the state, the right to free its block, the handle's word, and what the open borrow holds
  pub handle_opens : K → Soaks G → {κ : Lft} {q : Share} {γ : GName} (d : Hand.Denot) (rb ro : ℕ) → IsSome d.state
      → ((b o : ℕ) (x : R.Denot) → d.at ≡ block_ptr b o → d.state ≡ Some x
      → Seq K 𝓛
      (‵ (part_at R full_share x b o) ∷ ‵ (freeing (bare (lone R.mir)) (block_ptr b o))
      ∷ ‵ (cell_at full_share Hand.mir (word (block_ptr b o) ∷ []) rb ro)
      ∷ ‵ (fobor κ q (Borrowed (mem Hand) rb ro γ)) ∷ ‵ (fobs γ (Hand.coded.code d)) ∷ ‵ (fauth γ (Hand.coded.code d)) ∷ Γ) G)
      → Seq K 𝓛 (‵ (fobs γ (Hand.coded.code d)) ∷ ‵ (fbor κ (Borrowed (mem Hand) rb ro γ)) ∷ ‵ (flft κ q) ∷ Γ) G
  handle_opens t z d rb ro is k =
      opens t z Hand {h = d} rb ro (λ vs. move t (1 ∷ []) $ handle_out t d vs is (λ b o x e es ws. fsplit t $
      rewrite t 2 (λ (us : List Val). ‵ (cell_at full_share Hand.mir us rb ro)) ws refl $ k b o x e es))
