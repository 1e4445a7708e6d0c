-- Heads written and read back.
use Rattle.std.proofs.Common.{◌≡◌, Bool, true, false, not, List, [], ◌∷◌, ◌++◌, Option, None, Some, Result, Ok, Err, refl, ap, subst, ◌∙◌, arith, append-nil}
use Rattle.std.specs.Prelude.{codes, if◌then◌else◌}
use Rattle.std.specs.Fmt.{signed_decimal}
use Rattle.std.specs.Str.{bytes_eq}
use Rattle.std.proofs.lemmas.Slice.Eq.{bytes_eq-Decides}
use Rattle.text_lines.specs.declared.refusal.Code.{Code}
use Rattle.text_lines.specs.declared.refusal.Code.TheVariants.{BadHeader, BadLine, BadNumber}
use Rattle.text_lines.specs.Number.{number_of}
use Rattle.text_lines.proofs.NumbersLemmas.{numbers_law}
use Rattle.trace_text.specs.declared.words.PhaserHead.{PhaserHead}
use Rattle.trace_text.specs.declared.barrier_words.BarrierHead.{BarrierHead}
use Rattle.trace_text.specs.Words.{Word, HeadWords, take_number, take_behind, words_after, head_words, number_or, number_if, head_numbers, numbered, or_else}
use Rattle.trace_text.specs.TreeWords.{TreeHeadWords, TreeAsked, take_keyword, words_after_phase, tree_head_words, tree_head_numbers, tree_numbered, made}
use Rattle.trace_text.specs.BarrierWords.{BarrierHeadWords, barrier_head_words, generation_if, barrier_head_numbers, barrier_numbered}
use Rattle.trace_text.specs.Trace.{Head, OfPhaser, OfTree, OfBarrier, head_of}
use Rattle.trace_text.proofs.ReadWords.{from-made, from-next, from-or}
use Rattle.text_laws.specs.Heads.{SpellsPhaser, SpellsTree, SpellsBarrier, HeadsAreSpelled}
use Rattle.text_laws.proofs.HeadParts.{
  alone,
  keyed,
  worded,
  Begins,
  next-some,
  taken-number,
  taken-behind,
  taken-keyword,
  at-end,
  number-said,
  key-said,
  if-said,
  generation-said,
  worded-said,
  worded-is,
  IsPart,
  IsKeyPart,
  IsIfPart,
  IsGenerationPart,
  number-part,
  key-part,
  if-part,
  generation-part,
}

-- the first word

abbrev Which : Bool → Bool → Bool → Result PhaserHead Code → Result TreeAsked Code → Result BarrierHead Code → Head → Type 0
Which a b c x y z (OfPhaser h) = (a ≡ true) × (x ≡ Ok h)
Which a b c x y z (OfTree h) = (b ≡ true) × (y ≡ Ok h)
Which a b c x y z (OfBarrier h) = (c ≡ true) × (z ≡ Ok h)

which : (a b c : Bool) (x : Result PhaserHead Code) (y : Result TreeAsked Code) (z : Result BarrierHead Code) (h : Head)
    → (if a then made OfPhaser x else if b then made OfTree y else if c then made OfBarrier z else Err BadHeader) ≡ Ok h
    → Which a b c x y z h
which true b c x y z h e = let m = from-made OfPhaser x h e in subst (Which true b c x y z) m.2 (refl, m.1)
which false true c x y z h e = let m = from-made OfTree y h e in subst (Which false true c x y z) m.2 (refl, m.1)
which false false true x y z h e = let m = from-made OfBarrier z h e in subst (Which false false true x y z) m.2 (refl, m.1)
which false false false x y z h e = absurd (let wrong : ◌≡◌ {A = Result Head Code} (Err BadHeader) (Ok h) = e in cc)

first : (w : Word) (ws : List Word) (h : Head) → head_of (w ∷ ws) ≡ Ok h
    → Which (bytes_eq w (codes "phaser")) (bytes_eq w (codes "tree")) (bytes_eq w (codes "barrier")) (numbered (head_words ws))
    (tree_numbered (tree_head_words ws))
    (barrier_numbered (barrier_head_words ws)) h
first w ws h e =
    which (bytes_eq w (codes "phaser")) (bytes_eq w (codes "tree")) (bytes_eq w (codes "barrier")) (numbered (head_words ws))
    (tree_numbered (tree_head_words ws))
    (barrier_numbered (barrier_head_words ws)) h e

word-is : (w k : Word) → bytes_eq w k ≡ true → w ≡ k
word-is w k e = (bytes_eq-Decides w k).0 e

-- a phaser's head

abbrev laid : HeadWords → List Word
laid h = h.parties ∷ (alone h.phase ++ (keyed (codes "least") h.least ++ keyed (codes "at") h.at))

words-said : (ws : List Word) (h : HeadWords) → head_words ws ≡ Some h → ws ≡ laid h
words-said [] h e = absurd (let wrong : ◌≡◌ {A = Option HeadWords} None (Some h) = e in cc)
words-said (w ∷ ws) h e =
    let front = taken-number ws in
    let a = from-next _ (take_behind (codes "least") (take_number ws).1) h e in
    let b = from-next _ (take_behind (codes "at") a.0.1) h a.2 in
    let c = at-end _ h b.0.1 b.2 in
    let last : a.0.1 ≡ keyed (codes "at") b.0.0 =
    taken-behind (codes "at") a.0.1 b.0 b.1 ∙ ap (λ (x : List Word). keyed (codes "at") b.0.0 ++ x) c.0
    ∙ append-nil (keyed (codes "at") b.0.0) in
    let rest : (take_number ws).1 ≡ keyed (codes "least") a.0.0 ++ keyed (codes "at") b.0.0 =
    taken-behind (codes "least") (take_number ws).1 a.0 a.1 ∙ ap (λ (x : List Word). keyed (codes "least") a.0.0 ++ x) last in
    ap (λ (x : List Word). w ∷ x) (front.0 ∙ ap (λ (x : List Word). alone (take_number ws).0 ++ x) rest) ∙ ap laid c.1

record NumbersSaid (w : HeadWords) (h : PhaserHead) : Type 0 where
  parties : number_of w.parties ≡ Some h.parties
  phase : number_or 2147483647 0 w.phase ≡ Some h.phase
  least : number_or 65536 1 w.least ≡ Some h.plan.least
  at : number_if 2147483647 w.at ≡ Some h.plan.at

numbers-said : (w : HeadWords) (h : PhaserHead) → head_numbers w ≡ Some h → NumbersSaid w h
numbers-said w h e =
    let a = from-next _ (number_of w.parties) h e in
    let b = from-next _ (number_or 2147483647 0 w.phase) h a.2 in
    let c = from-next _ (number_or 65536 1 w.least) h b.2 in
    let d = from-next _ (number_if 2147483647 w.at) h c.2 in
    let same : record { parties = a.0; phase = b.0; plan = record { least = c.0; at = d.0 } } ≡ h = cc in
    subst (NumbersSaid w) same (record { parties = a.1; phase = b.1; least = c.1; at = d.1 })

from-numbered : (o : Option HeadWords) (h : PhaserHead) → numbered o ≡ Ok h → (w : HeadWords) × (o ≡ Some w) × (head_numbers w ≡ Some h)
from-numbered (Some w) h e = (w, refl, from-or BadNumber (head_numbers w) h e)
from-numbered None h e = absurd (let wrong : ◌≡◌ {A = Result PhaserHead Code} (Err BadLine) (Ok h) = e in cc)

phaser-said : (words : List Word) (h : PhaserHead) → head_of words ≡ Ok (OfPhaser h) → SpellsPhaser h words
phaser-said [] h e = absurd (let wrong : ◌≡◌ {A = Result Head Code} (Err BadHeader) (Ok (OfPhaser h)) = e in cc)
phaser-said (w ∷ ws) h e =
    let f = first w ws (OfPhaser h) e in
    let n = from-numbered (head_words ws) h f.1 in
    let s : NumbersSaid n.0 h = numbers-said n.0 h n.2 in
    let parties = numbers_law.1 n.0.parties h.parties s.parties in
    let phase = number-said 2147483647 0 h.phase n.0.phase (omega arith) s.phase in
    let least = key-said (codes "least") 65536 1 h.plan.least n.0.least (omega arith) s.least in
    let at = if-said (codes "at") 2147483647 h.plan.at n.0.at s.at in
    record {
      phase = alone n.0.phase;
      least = keyed (codes "least") n.0.least;
      at = keyed (codes "at") n.0.at;
      whole =
          ap (λ (x : Word). x ∷ ws) (word-is w (codes "phaser") f.0) ∙ ap (λ (x : List Word). codes "phaser" ∷ x) (words-said ws n.0 n.1)
          ∙ ap (λ (x : Word). codes "phaser" ∷ x ∷ (alone n.0.phase ++ (keyed (codes "least") n.0.least ++ keyed (codes "at") n.0.at)))
          parties.0;
      phase_is = phase.0;
      least_is = least.0;
      at_is = at.0;
      parties_fit = parties.1;
      phase_fits = phase.1;
      least_fits = least.1;
      at_fits = at.1;
    }

words-read : (p : Word) (phase least at : Option Word) → Begins phase
    → head_words (p ∷ (alone phase ++ (keyed (codes "least") least ++ keyed (codes "at") at)))
    ≡ Some (record { parties = p; phase = phase; least = least; at = at })
words-read p None None None b = refl
words-read p None None (Some q) b = refl
words-read p None (Some l) None b = refl
words-read p None (Some l) (Some q) b = refl
words-read p (Some w) None None b = ap (λ (c : Bool). words_after p (if c then (Some w, []) else (None, w ∷ []))) b
words-read p (Some w) None (Some q) b =
    ap (λ (c : Bool). words_after p (if c then (Some w, codes "at" ∷ q ∷ []) else (None, w ∷ codes "at" ∷ q ∷ []))) b
words-read p (Some w) (Some l) None b =
    ap (λ (c : Bool). words_after p (if c then (Some w, codes "least" ∷ l ∷ []) else (None, w ∷ codes "least" ∷ l ∷ []))) b
words-read p (Some w) (Some l) (Some q) b =
    ap
    (λ (c : Bool). words_after p (if c then (Some w, codes "least" ∷ l ∷ codes "at" ∷ q ∷ []) else (None, w ∷ codes "least" ∷ l ∷ codes "at" ∷ q ∷ [])))
    b

numbers-read : (w : HeadWords) (h : PhaserHead) → NumbersSaid w h → head_numbers w ≡ Some h
numbers-read w h s =
    next-some _ (number_of w.parties) h.parties s.parties ∙ next-some _ (number_or 2147483647 0 w.phase) h.phase s.phase
    ∙ next-some _ (number_or 65536 1 w.least) h.plan.least s.least ∙ next-some _ (number_if 2147483647 w.at) h.plan.at s.at

phaser-read : (words : List Word) (h : PhaserHead) → SpellsPhaser h words → head_of words ≡ Ok (OfPhaser h)
phaser-read words h s =
    let phase : IsPart s.phase h.phase 2147483647 0 = number-part 2147483647 0 h.phase s.phase (omega arith) s.phase_fits s.phase_is in
    let least : IsKeyPart (codes "least") s.least h.plan.least 65536 1 =
    key-part (codes "least") 65536 1 h.plan.least s.least (omega arith) s.least_fits s.least_is in
    let at : IsIfPart (codes "at") s.at h.plan.at 2147483647 =
    if-part (codes "at") 2147483647 h.plan.at s.at (omega arith) s.at_fits s.at_is in
    let w : HeadWords = record { parties = signed_decimal h.parties; phase = phase.word; least = least.word; at = at.word } in
    let same : words ≡ codes "phaser" ∷ laid w =
    s.whole ∙ ap (λ (x : List Word). codes "phaser" ∷ signed_decimal h.parties ∷ (x ++ (s.least ++ s.at))) phase.same
    ∙ ap (λ (x : List Word). codes "phaser" ∷ signed_decimal h.parties ∷ (alone phase.word ++ (x ++ s.at))) least.same
    ∙ ap (λ (x : List Word). codes "phaser" ∷ signed_decimal h.parties ∷ (alone phase.word ++ (keyed (codes "least") least.word ++ x)))
    at.same in
    ap head_of same
    ∙ ap (λ (o : Option HeadWords). made OfPhaser (numbered o))
    (words-read (signed_decimal h.parties) phase.word least.word at.word phase.begins)
    ∙ ap (λ (o : Option PhaserHead). made OfPhaser (or_else BadNumber o))
    (numbers-read w h (record { parties = numbers_law.0 h.parties s.parties_fit; phase = phase.says; least = least.says; at = at.says }))

-- a tree's head

abbrev laid_tree : TreeHeadWords → List Word
laid_tree h = h.widths ∷ (alone h.phase ++ (worded (codes "keep") h.keep ++ keyed (codes "at") h.at))

tree-words-said : (ws : List Word) (h : TreeHeadWords) → tree_head_words ws ≡ Some h → ws ≡ laid_tree h
tree-words-said [] h e = absurd (let wrong : ◌≡◌ {A = Option TreeHeadWords} None (Some h) = e in cc)
tree-words-said (w ∷ ws) h e =
    let front = taken-number ws in
    let keep : Bool × List Word = take_keyword (codes "keep") (take_number ws).1 in
    let b = from-next _ (take_behind (codes "at") keep.1) h e in
    let c = at-end _ h b.0.1 b.2 in
    let last : keep.1 ≡ keyed (codes "at") b.0.0 =
    taken-behind (codes "at") keep.1 b.0 b.1 ∙ ap (λ (x : List Word). keyed (codes "at") b.0.0 ++ x) c.0
    ∙ append-nil (keyed (codes "at") b.0.0) in
    let rest : (take_number ws).1 ≡ worded (codes "keep") keep.0 ++ keyed (codes "at") b.0.0 =
    taken-keyword (codes "keep") (take_number ws).1 ∙ ap (λ (x : List Word). worded (codes "keep") keep.0 ++ x) last in
    ap (λ (x : List Word). w ∷ x) (front.0 ∙ ap (λ (x : List Word). alone (take_number ws).0 ++ x) rest) ∙ ap laid_tree c.1

record TreeNumbersSaid (w : TreeHeadWords) (h : TreeAsked) : Type 0 where
  widths : w.widths ≡ h.widths
  phase : number_or 2147483647 0 w.phase ≡ Some h.phase
  keep : not w.keep ≡ h.plan.when_empty
  at : number_if 2147483647 w.at ≡ Some h.plan.at

tree-numbers-said : (w : TreeHeadWords) (h : TreeAsked) → tree_head_numbers w ≡ Some h → TreeNumbersSaid w h
tree-numbers-said w h e =
    let b = from-next _ (number_or 2147483647 0 w.phase) h e in
    let d = from-next _ (number_if 2147483647 w.at) h b.2 in
    let same : record { widths = w.widths; phase = b.0; plan = record { when_empty = not w.keep; at = d.0 } } ≡ h = cc in
    subst (TreeNumbersSaid w) same (record { widths = refl; phase = b.1; keep = refl; at = d.1 })

from-tree-numbered : (o : Option TreeHeadWords) (h : TreeAsked) → tree_numbered o ≡ Ok h
    → (w : TreeHeadWords) × (o ≡ Some w) × (tree_head_numbers w ≡ Some h)
from-tree-numbered (Some w) h e = (w, refl, from-or BadNumber (tree_head_numbers w) h e)
from-tree-numbered None h e = absurd (let wrong : ◌≡◌ {A = Result TreeAsked Code} (Err BadLine) (Ok h) = e in cc)

turned : (b c : Bool) → not b ≡ c → b ≡ not c
turned true c e = ap not e
turned false c e = ap not e

tree-said : (words : List Word) (h : TreeAsked) → head_of words ≡ Ok (OfTree h) → SpellsTree h words
tree-said [] h e = absurd (let wrong : ◌≡◌ {A = Result Head Code} (Err BadHeader) (Ok (OfTree h)) = e in cc)
tree-said (w ∷ ws) h e =
    let f = first w ws (OfTree h) e in
    let n = from-tree-numbered (tree_head_words ws) h f.1 in
    let s : TreeNumbersSaid n.0 h = tree-numbers-said n.0 h n.2 in
    let phase = number-said 2147483647 0 h.phase n.0.phase (omega arith) s.phase in
    let at = if-said (codes "at") 2147483647 h.plan.at n.0.at s.at in
    let keep : n.0.keep ≡ not h.plan.when_empty = turned n.0.keep h.plan.when_empty s.keep in
    record {
      phase = alone n.0.phase;
      keep = worded (codes "keep") (not h.plan.when_empty);
      at = keyed (codes "at") n.0.at;
      whole =
          ap (λ (x : Word). x ∷ ws) (word-is w (codes "tree") f.0) ∙ ap (λ (x : List Word). codes "tree" ∷ x) (tree-words-said ws n.0 n.1)
          ∙ ap (λ (x : Word). codes "tree" ∷ x ∷ (alone n.0.phase ++ (worded (codes "keep") n.0.keep ++ keyed (codes "at") n.0.at)))
          s.widths
          ∙ ap (λ (x : Bool). codes "tree" ∷ h.widths ∷ (alone n.0.phase ++ (worded (codes "keep") x ++ keyed (codes "at") n.0.at))) keep;
      phase_is = phase.0;
      keep_is = worded-said (codes "keep") (not h.plan.when_empty);
      at_is = at.0;
      phase_fits = phase.1;
      at_fits = at.1;
    }

tree-words-read : (p : Word) (phase : Option Word) (keep : Bool) (at : Option Word) → Begins phase
    → tree_head_words (p ∷ (alone phase ++ (worded (codes "keep") keep ++ keyed (codes "at") at)))
    ≡ Some (record { widths = p; phase = phase; keep = keep; at = at })
tree-words-read p None false None b = refl
tree-words-read p None false (Some q) b = refl
tree-words-read p None true None b = refl
tree-words-read p None true (Some q) b = refl
tree-words-read p (Some w) false None b = ap (λ (c : Bool). words_after_phase p (if c then (Some w, []) else (None, w ∷ []))) b
tree-words-read p (Some w) false (Some q) b =
    ap (λ (c : Bool). words_after_phase p (if c then (Some w, codes "at" ∷ q ∷ []) else (None, w ∷ codes "at" ∷ q ∷ []))) b
tree-words-read p (Some w) true None b =
    ap (λ (c : Bool). words_after_phase p (if c then (Some w, codes "keep" ∷ []) else (None, w ∷ codes "keep" ∷ []))) b
tree-words-read p (Some w) true (Some q) b =
    ap
    (λ (c : Bool). words_after_phase p (if c then (Some w, codes "keep" ∷ codes "at" ∷ q ∷ []) else (None, w ∷ codes "keep" ∷ codes "at" ∷ q ∷ [])))
    b

not-not : (b : Bool) → not (not b) ≡ b
not-not true = refl
not-not false = refl

tree-read : (words : List Word) (h : TreeAsked) → SpellsTree h words → head_of words ≡ Ok (OfTree h)
tree-read words h s =
    let phase : IsPart s.phase h.phase 2147483647 0 = number-part 2147483647 0 h.phase s.phase (omega arith) s.phase_fits s.phase_is in
    let at : IsIfPart (codes "at") s.at h.plan.at 2147483647 =
    if-part (codes "at") 2147483647 h.plan.at s.at (omega arith) s.at_fits s.at_is in
    let keep : Bool = not h.plan.when_empty in
    let same : words ≡ codes "tree" ∷ laid_tree (record { widths = h.widths; phase = phase.word; keep = keep; at = at.word }) =
    s.whole ∙ ap (λ (x : List Word). codes "tree" ∷ h.widths ∷ (x ++ (s.keep ++ s.at))) phase.same
    ∙ ap (λ (x : List Word). codes "tree" ∷ h.widths ∷ (alone phase.word ++ (x ++ s.at))) (worded-is (codes "keep") keep s.keep s.keep_is)
    ∙ ap (λ (x : List Word). codes "tree" ∷ h.widths ∷ (alone phase.word ++ (worded (codes "keep") keep ++ x))) at.same in
    ap head_of same
    ∙ ap (λ (o : Option TreeHeadWords). made OfTree (tree_numbered o)) (tree-words-read h.widths phase.word keep at.word phase.begins)
    ∙ ap (λ (o : Option TreeAsked). made OfTree (or_else BadNumber o))
    (next-some _ (number_or 2147483647 0 phase.word) h.phase phase.says ∙ next-some _ (number_if 2147483647 at.word) h.plan.at at.says
    ∙ ap (λ (b : Bool). Some (record { widths = h.widths; phase = h.phase; plan = record { when_empty = b; at = h.plan.at } }))
    (not-not h.plan.when_empty))

-- a barrier's head

abbrev laid_barrier : BarrierHeadWords → List Word
laid_barrier h = h.parties ∷ keyed (codes "fails") h.fails

barrier-words-said : (ws : List Word) (h : BarrierHeadWords) → barrier_head_words ws ≡ Some h → ws ≡ laid_barrier h
barrier-words-said [] h e = absurd (let wrong : ◌≡◌ {A = Option BarrierHeadWords} None (Some h) = e in cc)
barrier-words-said (w ∷ ws) h e =
    let b = from-next _ (take_behind (codes "fails") ws) h e in
    let c = at-end _ h b.0.1 b.2 in
    ap (λ (x : List Word). w ∷ x)
    (taken-behind (codes "fails") ws b.0 b.1 ∙ ap (λ (x : List Word). keyed (codes "fails") b.0.0 ++ x) c.0
    ∙ append-nil (keyed (codes "fails") b.0.0))
    ∙ ap laid_barrier c.1

record BarrierNumbersSaid (w : BarrierHeadWords) (h : BarrierHead) : Type 0 where
  parties : number_of w.parties ≡ Some h.parties
  fails : generation_if w.fails ≡ Some h.fails

barrier-numbers-said : (w : BarrierHeadWords) (h : BarrierHead) → barrier_head_numbers w ≡ Some h → BarrierNumbersSaid w h
barrier-numbers-said w h e =
    let a = from-next _ (number_of w.parties) h e in
    let b = from-next _ (generation_if w.fails) h a.2 in
    let same : record { parties = a.0; fails = b.0 } ≡ h = cc in
    subst (BarrierNumbersSaid w) same (record { parties = a.1; fails = b.1 })

from-barrier-numbered : (o : Option BarrierHeadWords) (h : BarrierHead) → barrier_numbered o ≡ Ok h
    → (w : BarrierHeadWords) × (o ≡ Some w) × (barrier_head_numbers w ≡ Some h)
from-barrier-numbered (Some w) h e = (w, refl, from-or BadNumber (barrier_head_numbers w) h e)
from-barrier-numbered None h e = absurd (let wrong : ◌≡◌ {A = Result BarrierHead Code} (Err BadLine) (Ok h) = e in cc)

barrier-said : (words : List Word) (h : BarrierHead) → head_of words ≡ Ok (OfBarrier h) → SpellsBarrier h words
barrier-said [] h e = absurd (let wrong : ◌≡◌ {A = Result Head Code} (Err BadHeader) (Ok (OfBarrier h)) = e in cc)
barrier-said (w ∷ ws) h e =
    let f = first w ws (OfBarrier h) e in
    let n = from-barrier-numbered (barrier_head_words ws) h f.1 in
    let s : BarrierNumbersSaid n.0 h = barrier-numbers-said n.0 h n.2 in
    let parties = numbers_law.1 n.0.parties h.parties s.parties in
    let fails = generation-said (codes "fails") h.fails n.0.fails s.fails in
    record {
      fails = keyed (codes "fails") n.0.fails;
      whole =
          ap (λ (x : Word). x ∷ ws) (word-is w (codes "barrier") f.0)
          ∙ ap (λ (x : List Word). codes "barrier" ∷ x) (barrier-words-said ws n.0 n.1)
          ∙ ap (λ (x : Word). codes "barrier" ∷ x ∷ keyed (codes "fails") n.0.fails) parties.0;
      fails_is = fails.0;
      parties_fit = parties.1;
      fails_fit = fails.1;
    }

barrier-words-read : (p : Word) (fails : Option Word)
    → barrier_head_words (p ∷ keyed (codes "fails") fails) ≡ Some (record { parties = p; fails = fails })
barrier-words-read p None = refl
barrier-words-read p (Some g) = refl

barrier-read : (words : List Word) (h : BarrierHead) → SpellsBarrier h words → head_of words ≡ Ok (OfBarrier h)
barrier-read words h s =
    let fails : IsGenerationPart (codes "fails") s.fails h.fails = generation-part (codes "fails") h.fails s.fails s.fails_fit s.fails_is in
    let same : words ≡ codes "barrier" ∷ laid_barrier (record { parties = signed_decimal h.parties; fails = fails.word }) =
    s.whole ∙ ap (λ (x : List Word). codes "barrier" ∷ signed_decimal h.parties ∷ x) fails.same in
    ap head_of same
    ∙ ap (λ (o : Option BarrierHeadWords). made OfBarrier (barrier_numbered o))
    (barrier-words-read (signed_decimal h.parties) fails.word)
    ∙ ap (λ (o : Option BarrierHead). made OfBarrier (or_else BadNumber o))
    (next-some _ (number_of (signed_decimal h.parties)) h.parties (numbers_law.0 h.parties s.parties_fit)
    ∙ next-some _ (generation_if fails.word) h.fails fails.says)

pub heads-spelled : HeadsAreSpelled
heads-spelled = (
  λ words h. (phaser-said words h, phaser-read words h),
  λ words h. (tree-said words h, tree-read words h),
  λ words h. (barrier-said words h, barrier-read words h),
)
