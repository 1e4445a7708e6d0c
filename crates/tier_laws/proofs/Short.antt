-- Each call has its answer after few steps.
use Rattle.std.proofs.Common.{◌≡◌, ℕ, ◌+◌, ◌-◌, ◌<◌, ◌≤◌, Bool, true, false, ltb, List, [], ◌∷◌, length, refl, sym, ap, subst, arith}
use Rattle.std.specs.Prelude.{◌&&◌, ◌||◌}
use Rattle.std.proofs.lemmas.Bool.{lt-ltb}
use Rattle.std.proofs.lemmas.List.{get_or-set_same, get_or-set_other}
use Rattle.tier_shape.specs.Paths.{IsTiers}
use Rattle.tier_steps.specs.declared.view.View.{View}
use Rattle.tier_steps.specs.View.{new_view}
use Rattle.tier_steps.specs.Laws.{stepped_view}
use Rattle.tier_core.specs.declared.call.Call.{Call}
use Rattle.tier_core.specs.declared.call.Call.TheVariants as call
use Rattle.tier_core.specs.declared.call.Progress.{Progress}
use Rattle.tier_core.specs.declared.call.Progress.TheVariants.{Idle, Begun, Seeking as ToSeek, Settling, GivingBack as ToGiveBack, Passing, Owing, Due, Refreshing}
use Rattle.tier_core.specs.declared.call.Turn.{Turn}
use Rattle.tier_core.specs.Machine.{State, IsCore, view_at, call_at, is_active, is_due, turn_at, played, with_token}
use Rattle.tier_core.specs.Run.{is_idle, begun, finish_at, plan_ends}
use Rattle.tier_core.proofs.Turns.{not_both}
use Rattle.tier_core.proofs.Places.{MayPlay}
use Rattle.tier_core.proofs.Runs.{begun_core}
use Rattle.tier_laws.specs.Moments.{Moment, run_of, moments}
use Rattle.tier_laws.specs.Count.{most_steps, CallsAreShort}
use Rattle.tier_laws.proofs.Framing.{turned}
use Rattle.tier_laws.proofs.Ending.{alike_itself, at, imaged}
use Rattle.tier_laws.specs.Frame.{flat_of}
use Rattle.tier_laws.proofs.Reached.{as_many, reached}
use Rattle.tier_laws.proofs.Along.{Carries, along, view_stays, call_stays, begun_known}
use Rattle.tier_laws.proofs.Ranks.{Within, some_left, Lowers, turn_lowers, left_stays}

-- a call that has made some steps, and has at most this many to come
pub record ShortCourse (i : ℕ) (c : Call) (s : State) (past : List Moment) : Type 0 where
  pub tiers : IsTiers s.parents
  pub rest : ℕ
  pub left : Within s.parents s.words (call_at s.calls i) (view_at s.views i) rest
  pub count : length past + rest ≤ most_steps c

pub active_going : (p : Progress) → is_active p ≡ true → is_idle p ≡ false
active_going Idle e = not_both false e refl
active_going (Begun c) e = refl
active_going (ToSeek tier size) e = refl
active_going Settling e = refl
active_going (ToGiveBack answer) e = refl
active_going (Passing passage) e = refl
active_going (Owing own) e = refl
active_going (Due own) e = refl
active_going (Refreshing has_moved) e = refl

due_going : (p : Progress) → is_due p ≡ true → is_idle p ≡ false
due_going Idle e = not_both false e refl
due_going (Begun c) e = refl
due_going (ToSeek tier size) e = refl
due_going Settling e = refl
due_going (ToGiveBack answer) e = refl
due_going (Passing passage) e = refl
due_going (Owing own) e = refl
due_going (Due own) e = refl
due_going (Refreshing has_moved) e = refl

either_goes : (p : Progress) (b : Bool) → b ≡ true → is_idle p ≡ false → ((b && is_active p) || (b && is_due p)) ≡ true
either_goes Idle b e going = not_both true refl going
either_goes (Begun c) b e going = ap (λ x. (x && true) || (x && false)) e
either_goes (ToSeek tier size) b e going = ap (λ x. (x && true) || (x && false)) e
either_goes Settling b e going = ap (λ x. (x && true) || (x && false)) e
either_goes (ToGiveBack answer) b e going = ap (λ x. (x && true) || (x && false)) e
either_goes (Passing passage) b e going = ap (λ x. (x && true) || (x && false)) e
either_goes (Owing own) b e going = ap (λ x. (x && true) || (x && false)) e
either_goes (Due own) b e going = ap (λ x. (x && false) || (x && true)) e
either_goes (Refreshing has_moved) b e going = ap (λ x. (x && true) || (x && false)) e

-- what is known of a call and its view is known of those of the state that holds them
pub moved_left : (s s' : State) (i n : ℕ) (p : Progress) (v : View) → call_at s'.calls i ≡ p → view_at s'.views i ≡ v
    → s'.parents ≡ s.parents
    → Within s.parents s'.words p v n → Within s'.parents s'.words (call_at s'.calls i) (view_at s'.views i) n
moved_left s s' i n p v call view same left =
    subst (λ (ps : List ℕ). Within ps s'.words (call_at s'.calls i) (view_at s'.views i) n) (sym same)
    (subst (λ (q : Progress). Within s.parents s'.words q (view_at s'.views i) n) (sym call)
    (subst (λ (x : View). Within s.parents s'.words p x n) (sym view) left))

course_goes : (s : State) (i : ℕ) (c : Call) (past : List Moment) (r : Turn) → IsCore s → i < length s.views
    → (course : ShortCourse i c s past)
    → MayPlay s i r → is_idle (call_at s.calls i) ≡ false → Lowers s i course.rest r → ShortCourse i c (played s i r) (at i s r ∷ past)
course_goes s i c past r core h course may going lowers =
    let some = some_left s.parents s.words (call_at s.calls i) (view_at s.views i) course.rest going (core.calls i h) course.left in
    record {
      tiers = course.tiers;
      rest = course.rest - 1;
      left = moved_left s (played s i r) i (course.rest - 1) r.next (stepped_view s.parents s.words r.kind r.tier (view_at s.views i))
          (get_or-set_same s.calls i r.next Idle (let l = core.long in omega arith))
          (get_or-set_same s.views i (stepped_view s.parents s.words r.kind r.tier (view_at s.views i)) (new_view 0) h)
          refl (lowers may);
      count = (let a = course.count in omega arith);
    }

courses : (i : ℕ) (c : Call) → Carries i (ShortCourse i c)
courses i c = record {
  goes = λ s past core h active may course. course_goes s i c past (turn_at s i) core h course may (active_going (call_at s.calls i) active)
      (turn_lowers s i course.rest (call_at s.calls i) course.tiers core h active (core.calls i h) course.left);
  ends = λ s past core h due may course.
      course_goes s i c past (finish_at s i (plan_ends s)) core h course may (due_going (call_at s.calls i) due) (λ _. tt);
  others = λ s past j r core h k n may course. let same = turned s j i r n in record {
    tiers = course.tiers;
    rest = course.rest;
    left = moved_left s (played s j r) i course.rest (call_at s.calls i) (view_at s.views i) same.call same.view refl
        (left_stays s i j course.rest (call_at s.calls i) r core h k may (core.calls i h) course.left);
    count = course.count;
  };
  begins = λ s past j d core h n course. record {
    tiers = course.tiers;
    rest = course.rest;
    left =
        moved_left s (begun s j d) i course.rest (call_at s.calls i) (view_at s.views i) (get_or-set_other s.calls j i (Begun d) Idle n)
        refl refl
        course.left;
    count = course.count;
  };
  enters = λ s past core h course. record {
    tiers = course.tiers;
    rest = course.rest;
    left =
        moved_left s (with_token s) i course.rest (call_at s.calls i) (view_at s.views i) (call_stays s i core h) (view_stays s i h) refl
        course.left;
    count = course.count;
  };
}

pub most : (c : Call) → most_steps c ≤ 16
most (call.Join tier size) = omega arith
most call.Arrive = omega arith
most call.Leave = omega arith
most call.Poll = omega arith
most call.Force = omega arith

pub calls_are_short : CallsAreShort
calls_are_short s i c events tiers core is may are own =
    let h = begun_known s i c may in
    let end = along i (ShortCourse i c) (courses i c) events (begun s i c) [] (begun_core s i c core is may) h (record {
      tiers = tiers;
      rest = most_steps c;
      left = moved_left s (begun s i c) i (most_steps c) (Begun c) (view_at s.views i)
          (get_or-set_same s.calls i (Begun c) Idle (let l = core.long in omega arith)) refl refl (omega arith);
      count = omega arith;
    }) are own in
    let s' : State = run_of events (begun s i c) in
    let many : length (moments i events (begun s i c) (flat_of s) []) ≡ length (imaged i events (begun s i c) []) =
    as_many (moments i events (begun s i c) (flat_of s) []) (imaged i events (begun s i c) [])
    (reached i events (begun s i c) (flat_of s) [] [] (begun_core s i c core is may) are (alike_itself (flat_of s)) tt) in
    record {
      few = (let a = end.holds.count in omega arith);
      sixteen = (let a = end.holds.count in let b = most c in omega arith);
      goes_on = λ going. (let a = end.holds.count in
          let b = some_left s'.parents s'.words (call_at s'.calls i) (view_at s'.views i) end.holds.rest going
          (end.core.calls i end.known) end.holds.left in omega arith);
      may = λ going. either_goes (call_at s'.calls i) (ltb i (length s'.views)) (lt-ltb i (length s'.views) end.known) going;
    }
