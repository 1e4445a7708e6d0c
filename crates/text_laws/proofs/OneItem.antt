-- The lines of an item are read as it.
use Rattle.std.proofs.Common.{◌≡◌, ℕ, ◌+◌, ◌-◌, ◌<◌, ◌≤◌, Bool, true, false, ◌&&◌, List, [], ◌∷◌, ◌++◌, length, map, Option, Some, None, Result, Ok, Err, ℤ, pos, refl, sym, ap, subst, ◌∙◌, arith, append-nil}
use Rattle.std.specs.Prelude.{if◌then◌else◌, not, ◌||◌, nat_lt, nat_le, replicate, unwrap_or}
use Rattle.std.specs.List.{list_all}
use Rattle.std.specs.Fmt.{decimal, signed_decimal}
use Rattle.std.proofs.lemmas.Grind.{common_steps}
use Rattle.std.proofs.lemmas.List.Folds.{list_all-append}
use Rattle.text_lines.specs.declared.refusal.Code.{Code}
use Rattle.text_lines.specs.declared.refusal.Code.TheVariants.{Twice, TooMany, BadLength}
use Rattle.text_lines.specs.Number.{fits_i64}
use Rattle.task_code.specs.Names.{is_free, is_among, are_names}
use Rattle.task_code.specs.Rules.{IsBody}
use Rattle.task_code.specs.Tree.{Block, Done, flat}
use Rattle.task_code.specs.Open.{build}
use Rattle.task_code.proofs.Building.{build-flat}
use Rattle.task_code.specs.declared.code.Line.{Line}
use Rattle.task_code.specs.declared.job.Start.{Start}
use Rattle.job_reader.specs.Words.{Word, Words, numbered, place_from, name_at}
use Rattle.job_reader.specs.Faults.{both, made}
use Rattle.job_reader.specs.Exprs.{Names}
use Rattle.job_reader.specs.Lines.{body_at, end_words}
use Rattle.job_reader.proofs.GrowLemmas.{and-left, and-right}
use Rattle.job_reader.proofs.SaidLemmas.{and-true}
use Rattle.job_reader.proofs.WrittenLemmas.{named-free, names-free, place-name}
use Rattle.job_reader.proofs.WrittenExprs.{number-written}
use Rattle.job_reader.specs.Trees.{BodyTree, JobTree, array_names, body_names}
use Rattle.job_reader.specs.Above.{Inside, begun}
use Rattle.job_reader.specs.Grammar.{AnArray, ABody, AStart, array_words, body_words, start_words, block_lines, body_lines, listed_in, locals_by, IsSoundBody, IsFilled}
use Rattle.job_reader.specs.Legal.{flat_body}
use Rattle.job_reader.specs.Reading.{◌>>=◌, outer_of, all_numbered, filled, cells_of, array_of, are_apart, start_from, with_array, new_body, with_start}
use Rattle.text_laws.proofs.Heads.{apart, listed-names, listed-few, head-read}
use Rattle.job_reader.specs.Writing.{code_lines}
use Rattle.job_reader.proofs.CodeLemmas.{block-code}
use Rattle.job_reader.proofs.ItemLemmas.{put}
use Rattle.text_laws.proofs.Chain.{Passes, Reads, reads-append, reads-one}
use Rattle.text_laws.proofs.Known.{name-among}
use Rattle.text_lines.proofs.NumbersLemmas.{fits as number-fits}
use Rattle.text_laws.proofs.InBody.{names, IsAhead, code-reads, end-passes}

values-read : (ns : List ℤ) → list_all fits_i64 ns ≡ true → all_numbered (map signed_decimal ns) ≡ Ok ns
values-read [] e = refl
values-read (n ∷ ns) e =
    ap (λ (r : Result ℤ Code). r >>= λ n. all_numbered (map signed_decimal ns) >>= λ ns. Ok (n ∷ ns))
    (number-written n (number-fits n (and-left (fits_i64 n) (list_all fits_i64 ns) e)))
    ∙ ap (λ (r : Result (List ℤ) Code). r >>= λ ns. Ok (n ∷ ns)) (values-read ns (and-right (fits_i64 n) (list_all fits_i64 ns) e))

le-true : (a b : ℕ) → a ≤ b → nat_le a b ≡ true
le-true a b h = grind (arith, common_steps)

lt-false : (a b : ℕ) → b ≤ a → nat_lt a b ≡ false
lt-false a b h = grind (arith, common_steps)

le-false : (a b : ℕ) → b < a → nat_le a b ≡ false
le-false a b h = grind (arith, common_steps)

-- cells that an array may have
pub record AreCells (cells : List ℤ) : Type 0 where
  pub some : 1 ≤ length cells
  pub few : length cells ≤ 4096
  pub numbers : list_all fits_i64 cells ≡ true

length-fits : (n : ℕ) → n ≤ 4096 → fits_i64 (pos n) ≡ true
length-fits n h = grind (arith, common_steps)

cells-read : (given cells : List ℤ) → AreCells cells → IsFilled given cells
    → cells_of (decimal (length cells)) (map signed_decimal given) ≡ Ok cells
cells-read given cells c f =
    let n : ℕ = length cells in
    let zeros : List ℤ = replicate (n - length given) (pos 0) in
    let split : list_all fits_i64 (given ++ zeros) ≡ true = ap (list_all fits_i64) (sym f.1) ∙ c.numbers in
    let fit : list_all fits_i64 given ≡ true =
    and-left (list_all fits_i64 given) (list_all fits_i64 zeros) (sym (list_all-append fits_i64 given zeros) ∙ split) in
    let within : (nat_le 1 n && nat_le n 4096 && nat_le (length given) n) ≡ true =
    and-true _ _ (and-true _ _ (le-true 1 n c.some) (le-true n 4096 c.few)) (le-true (length given) n f.0) in
    ap (λ (r : Result ℤ Code). both r (all_numbered (map signed_decimal given)) >>= filled)
    (number-written (pos n) (number-fits (pos n) (length-fits n c.few)))
    ∙ ap (λ (r : Result (List ℤ) Code). both (Ok (pos n)) r >>= filled) (values-read given fit)
    ∙ ap (λ (b : Bool). if b then Ok (given ++ zeros) else Err BadLength) within
    ∙ ap (λ (x : List ℤ). Ok x) (sym f.1)

-- room for an array of this name
pub record IsFreeArray (k : JobTree) (name : Word) : Type 0 where
  pub free : is_free name ≡ true
  pub fresh : is_among (array_names k) name ≡ false
  pub capacity : length (array_names k) < 16

pub array-passes : (bodies : List Word) (k : JobTree) (name : Word) (given cells : List ℤ) → IsFreeArray k name → AreCells cells
    → IsFilled given cells
    → Passes bodies (array_words name (length cells) given) (k, None) (put (AnArray name given cells) k, None)
unfolding outer_of
array-passes bodies k name given cells h c f =
    let words : Words = map signed_decimal given in
    let read : array_of (name ∷ decimal (length cells) ∷ words) ≡ Ok (name, cells) =
    ap (λ (r : Result (Unit {0}) Code). made (λ p. (name, p.1)) (both r (cells_of (decimal (length cells)) words))) (named-free name h.free)
    ∙ ap (λ (r : Result (List ℤ) Code). made (λ p. (name, p.1)) (both (Ok tt) r)) (cells-read given cells c f) in
    let all : JobTree = put (AnArray name given cells) k in
    record {
      read = ap (λ (r : Result (Word × List ℤ) Code). made (λ (i : JobTree). (i, None)) (r >>= with_array k)) read
          ∙ ap
          (λ (b : Bool). made (λ (i : JobTree). (i, None)) (if b then Err Twice else if nat_le 16 (length (array_names k)) then Err TooMany else Ok all))
          h.fresh
          ∙ ap (λ (b : Bool). made (λ (i : JobTree). (i, None)) (if b then Err TooMany else Ok all))
          (le-false 16 (length (array_names k)) h.capacity);
      found = refl;
    }

-- room for a body of this name
pub record IsFreeBody (k : JobTree) (name : Word) : Type 0 where
  pub free : is_free name ≡ true
  pub fresh : is_among (body_names k) name ≡ false
  pub capacity : length (body_names k) < 64

begin-passes : (bodies : List Word) (k : JobTree) (name : Word) (locals : List Word) → IsFreeBody k name → are_names locals ≡ true
    → length locals ≤ 32
    → Passes bodies (body_words k.format name locals) (k, None) (k, Some (begun (name, listed_in k.format locals)))
unfolding outer_of
begin-passes bodies k name locals h names few =
    let head : Word × List Word = (name, listed_in k.format locals) in
    let own : not (are_apart head.1) ≡ false = ap not (apart head.1 (listed-names k.format locals names)) in
    let short : nat_lt 32 (length head.1) ≡ false = lt-false 32 (length head.1) (listed-few k.format locals few) in
    record {
      read =
          ap (λ (r : Result (Word × List Word) Code). made (λ (o : Inside). (k, Some o)) (r >>= new_body k))
          (head-read k.format name locals h.free names)
          ∙ ap
          (λ (b : Bool). made (λ (o : Inside). (k, Some o))
          (if b || not (are_apart head.1) then Err Twice else if nat_le 64 (length (body_names k)) || nat_lt 32 (length head.1)
          then Err TooMany else Ok (begun head)))
          h.fresh
          ∙ ap
          (λ (b : Bool). made (λ (o : Inside). (k, Some o)) (if b then Err Twice else if nat_le 64 (length (body_names k)) || nat_lt 32 (length head.1) then Err TooMany else Ok (begun head)))
          own
          ∙ ap (λ (b : Bool). made (λ (o : Inside). (k, Some o)) (if b || nat_lt 32 (length head.1) then Err TooMany else Ok (begun head)))
          (le-false 64 (length (body_names k)) h.capacity)
          ∙ ap (λ (b : Bool). made (λ (o : Inside). (k, Some o)) (if b then Err TooMany else Ok (begun head))) short;
      found = refl;
    }

-- a body that there may be
pub record IsLegalBody (b : BodyTree) : Type 0 where
  pub rules : IsBody (flat_body b)

all-built : (b : Block) → build (flat b) [] Done ≡ Some ([], b)
all-built b = ap (λ (c : List Line). build c [] Done) (sym (append-nil (flat b))) ∙ build-flat b [] [] Done

pub body-reads : (bodies : List Word) (k : JobTree) (b : BodyTree) → are_names (array_names k) ≡ true → are_names bodies ≡ true
    → IsFreeBody k b.name → IsLegalBody b
    → IsSoundBody k.format (array_names k) bodies b
    → Reads bodies (body_lines k.format (array_names k) bodies b) (k, None) (put (ABody b) k, None)
body-reads bodies k b ga gb h legal sound =
    let s : Names = names bodies k b.locals in
    let code : List Line = flat b.block in
    let same : code_lines s code ≡ block_lines s b.block = block-code s b.block in
    let head : Word × List Word = (b.name, listed_in k.format b.locals) in
    let ahead : IsAhead k.format s (begun head) code ([], b.block) = record {
      numbers = legal.rules.numbers;
      fits = sound.names;
      builds = all-built b.block;
      notes = ap (locals_by k.format head.1) same ∙ sound.locals;
      known = sound.lines;
      count = omega (arith, legal.rules.statements);
      depth = legal.rules.depth;
    } in
    let inner = code-reads bodies k b.locals ga gb legal.rules.locals legal.rules.few code (begun head) ([], b.block) ahead in
    let last = reads-one bodies end_words _ _ (end-passes bodies k b.name b.locals b.block inner.0 inner.1 legal.rules.few) in
    let lines = reads-append bodies (code_lines s code) (end_words ∷ []) _ _ _ inner.2 last in (
      (k, Some (begun head)),
      begin-passes bodies k b.name b.locals h legal.rules.locals legal.rules.few,
      subst (λ (x : List Words). Reads bodies (x ++ end_words ∷ []) (k, Some (begun head)) (put (ABody b) k, None)) same lines,
    )

-- room for a start line
pub start-passes : (bodies : List Word) (k : JobTree) (s : Start) → are_names bodies ≡ true → s.body < length bodies → fits_i64 s.arg ≡ true
    → length k.starts < 4096
    → Passes bodies (start_words bodies s) (k, None) (put (AStart s) k, None)
unfolding outer_of
start-passes bodies k s g h f capacity =
    let w : Word = name_at bodies s.body in
    let place : place_from 0 bodies w ≡ Some (0 + s.body) = place-name 0 bodies s.body g h in
    let number : 0 + s.body ≡ s.body = omega arith in
    let body : body_at bodies w ≡ Ok s.body =
    ap (λ (r : Result (Unit {0}) Code). made (λ _. unwrap_or (place_from 0 bodies w) 0) r) (named-free w (names-free bodies s.body g h))
    ∙ ap (λ (o : Option ℕ). Ok (unwrap_or o 0)) place
    ∙ ap (λ (x : ℕ). Ok x) number in
    record {
      read =
          ap
          (λ (r : Result ℕ Code). made (λ (i : JobTree). (i, None)) (made start_from (both r (numbered (signed_decimal s.arg))) >>= with_start k))
          body
          ∙ ap (λ (r : Result ℤ Code). made (λ (i : JobTree). (i, None)) (made start_from (both (Ok s.body) r) >>= with_start k))
          (number-written s.arg (number-fits s.arg f))
          ∙ ap (λ (b : Bool). made (λ (i : JobTree). (i, None)) (if b then Err TooMany else Ok (put (AStart s) k)))
          (le-false 4096 (length k.starts) capacity);
      found = ap not (name-among bodies s.body g h);
    }
