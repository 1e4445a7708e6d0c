-- Two parts of a line outside bodies. The second takes memory.
use Rattle.std.specs.Prelude.{Vec}
use Rattle.std.specs.declared.alloc.Global.{Global}
use Rattle.std.proofs.Common.{◌≡◌, ◌∷◌, ℤ, List, Result, Ok, Err, IfOk, FitsSigned, w64, to_z, of_z, ap, sym, subst, ◌∙◌, arith}
use Rattle.std.proofs.lemmas.Int.{ints}
use Rattle.text_lines.specs.declared.refusal.Code.{Code}
use Rattle.text_lines.specs.Reading.{◌>>=◌}
use Rattle.job_reader.specs.Faults.{both, made}
use Rattle.job_reader.specs.Words.{Word, Words, named, numbered}
use Rattle.job_reader.specs.declared.fault.LineFault.{LineFault}
use Rattle.job_reader.specs.declared.fault.LineFault.TheVariants as line_fault
use Rattle.job_reader.specs.Gives.{LineFails, LineSays, joined}
use Rattle.job_reader.specs.Reading.{filled, all_numbered, cells_of, array_of}

joined-says : {A B Y : Type 0} (view : B → Y) (a : Result A Code) (b : Result B LineFault) (read : Result Y Code) → LineSays view b read
    → LineSays (λ (p : A × B). (p.0, view p.1)) (joined a b) (both a read)
joined-says view (Ok a) (Ok b) read e = ap (both (Ok a)) e
joined-says view (Ok a) (Err (line_fault.Refused d)) read e = ap (both (Ok a)) e
joined-says view (Err c) (Ok b) read e = ap (both (Err c)) e
joined-says view (Err c) (Err (line_fault.Refused d)) read e = ap (both (Err c)) e
joined-says view a (Err line_fault.Memory) read e = tt

both-said : {A B Y : Type 0} (view : B → Y) (a : Result A Code) (b : Result B LineFault) (read : Result Y Code) (p : A × B)
    → LineSays view b read
    → joined a b ≡ Ok p → both a read ≡ Ok (p.0, view p.1)
both-said {A} {B} view a b read p e made_of =
    subst (λ (r : Result (A × B) LineFault). LineSays (λ (q : A × B). (q.0, view q.1)) r (both a read)) made_of
    (joined-says view a b read e)

both-failed : {A B Y : Type 0} (view : B → Y) (a : Result A Code) (b : Result B LineFault) (read : Result Y Code) (fault : LineFault)
    → LineSays view b read
    → joined a b ≡ Err fault → LineFails fault (both a read)
both-failed {A} {B} view a b read fault e made_of =
    subst (λ (r : Result (A × B) LineFault). LineSays (λ (q : A × B). (q.0, view q.1)) r (both a read)) made_of
    (joined-says view a b read e)

fails-along : {X Y : Type 0} (fault : LineFault) (read : Result X Code) (next : X → Result Y Code) → LineFails fault read
    → LineFails fault (read >>= next)
fails-along (line_fault.Refused code) read next e = ap (λ r. r >>= next) e
fails-along line_fault.Memory read next e = tt

fails-made : {X Y : Type 0} (fault : LineFault) (read : Result X Code) (f : X → Y) → LineFails fault read → LineFails fault (made f read)
fails-made (line_fault.Refused code) read f e = ap (made f) e
fails-made line_fault.Memory read f e = tt

abbrev pub items : Vec ℤ Global → List ℤ
items v = v.items

joined-first : {A B : Type 0} (a : Result A Code) (b : Result B LineFault) (p : A × B) → joined a b ≡ Ok p → a ≡ Ok p.0
joined-first {A} {B} (Ok a) (Ok b) p e = let same : ◌≡◌ {A = A × B} (a, b) p = cc in ap (λ (q : A × B). Ok q.0) same
joined-first (Ok a) (Err (line_fault.Refused d)) p e = absurd cc
joined-first (Err c) (Ok b) p e = absurd cc
joined-first (Err c) (Err (line_fault.Refused d)) p e = absurd cc
joined-first a (Err line_fault.Memory) p e = absurd cc

-- the cells of an array
pub cells-said : (len : Word) (values : Words) (n : Result ℤ Code) (ns : Result (Vec ℤ Global) LineFault) (p : ℤ × Vec ℤ Global)
    (result : Result (Vec ℤ Global) LineFault)
    → n ≡ numbered len → IfOk n (λ m. FitsSigned w64 m) → LineSays items ns (all_numbered values) → joined n ns ≡ Ok p
    → LineSays items result (filled (to_z w64 (of_z w64 p.0), p.1.items)) → LineSays items result (cells_of len values)
cells-said len values n ns p result is fits read made_of h =
    let fit : FitsSigned w64 p.0 = subst (λ (r : Result ℤ Code). IfOk r (λ m. FitsSigned w64 m)) (joined-first n ns p made_of) fits in
    let back : to_z w64 (of_z w64 p.0) ≡ p.0 = omega (arith, ints, fit) in
    subst (λ (r : Result (List ℤ) Code). LineSays items result r)
    (ap (λ (m : ℤ). filled (m, p.1.items)) back
    ∙ sym
    (ap (λ (x : Result ℤ Code). both x (all_numbered values) >>= filled) (sym is)
    ∙ ap (λ r. r >>= filled) (both-said items n ns (all_numbered values) p read made_of)))
    h

pub cells-failed : (len : Word) (values : Words) (n : Result ℤ Code) (ns : Result (Vec ℤ Global) LineFault) (fault : LineFault)
    → n ≡ numbered len → LineSays items ns (all_numbered values) → joined n ns ≡ Err fault → LineFails fault (cells_of len values)
cells-failed len values n ns fault is read made_of =
    subst (λ (x : Result ℤ Code). LineFails fault (both x (all_numbered values) >>= filled)) is
    (fails-along fault _ filled (both-failed items n ns (all_numbered values) fault read made_of))

abbrev under : Word → Unit {0} × List ℤ → Word × List ℤ
under name p = (name, p.1)

-- an array
pub array-said : (all : Words) (name len : Word) (values : Words) (n : Result (Unit {0}) Code) (cells : Result (Vec ℤ Global) LineFault)
    (p : Unit {0} × Vec ℤ Global)
    → all ≡ name ∷ len ∷ values → n ≡ named name → LineSays items cells (cells_of len values) → joined n cells ≡ Ok p
    → array_of all ≡ Ok (name, p.1.items)
array-said all name len values n cells p words is read made_of =
    ap array_of words ∙ ap (λ (x : Result (Unit {0}) Code). made (under name) (both x (cells_of len values))) (sym is)
    ∙ ap (made (under name)) (both-said items n cells (cells_of len values) p read made_of)

pub array-failed : (all : Words) (name len : Word) (values : Words) (n : Result (Unit {0}) Code) (cells : Result (Vec ℤ Global) LineFault)
    (fault : LineFault)
    → all ≡ name ∷ len ∷ values → n ≡ named name → LineSays items cells (cells_of len values) → joined n cells ≡ Err fault
    → LineFails fault (array_of all)
array-failed all name len values n cells fault words is read made_of =
    subst (λ (x : Words). LineFails fault (array_of x)) (sym words)
    (subst (λ (x : Result (Unit {0}) Code). LineFails fault (made (under name) (both x (cells_of len values)))) is
    (fails-made fault _ (under name) (both-failed items n cells (cells_of len values) fault read made_of)))
