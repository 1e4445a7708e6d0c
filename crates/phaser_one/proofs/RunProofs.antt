-- A list of calls, some of which have been made.
use Rattle.std.proofs.Common.{◌≡◌, List, [], ◌∷◌, ◌++◌, refl, sym, ◌∙◌, ap, append_assoc, append-nil}
use Rattle.phaser_word.specs.Fields.{Fields}
use Rattle.advance_rule.specs.declared.CountPlan.{CountPlan}
use Rattle.flat_phaser.specs.Flat.{Flat}
use Rattle.flat_phaser.specs.Alike.{IsAlike}
use Rattle.phaser_one.specs.Calls.{Call, Reply, after}
use Rattle.phaser_one.specs.Seen.{flat_of, Follows}
use Rattle.phaser_one.specs.Runs.{answers, after_all}

-- the flat phaser as it is now, and the rest of the run from f
pub record RunsOn (plan : CountPlan) (calls rest : List Call) (replies : List Reply) (f : Flat) (w : Fields) : Type 0 where
  pub current : Flat
  pub seen : IsAlike current (flat_of w)
  pub left : after_all plan calls f ≡ after_all plan rest current
  pub reported : answers plan calls f ≡ replies ++ answers plan rest current

pub runs_begin : (plan : CountPlan) (calls : List Call) (f : Flat) (w : Fields) → IsAlike f (flat_of w) → RunsOn plan calls calls [] f w
runs_begin plan calls f w a = record { current = f; seen = a; left = refl; reported = refl }

pub runs_more : (plan : CountPlan) (calls rest more : List Call) (call : Call) (replies : List Reply) (reply : Reply) (f : Flat)
    (w v : Fields)
    → rest ≡ call ∷ more → Follows plan call w v reply → RunsOn plan calls rest replies f w
    → RunsOn plan calls more (replies ++ reply ∷ []) f v
runs_more plan calls rest more call replies reply f w v e follows r =
    let step = follows r.current r.seen in
    record {
      current = after plan call r.current;
      seen = step.0;
      left = r.left ∙ ap (λ (cs : List Call). after_all plan cs r.current) e;
      reported =
          r.reported ∙ ap (λ (cs : List Call). replies ++ answers plan cs r.current) e
          ∙ ap (λ (p : Reply). replies ++ p ∷ answers plan more (after plan call r.current)) (sym step.1)
          ∙ sym (append_assoc replies (reply ∷ []) (answers plan more (after plan call r.current)));
    }

pub runs_whole : (plan : CountPlan) (calls rest : List Call) (replies : List Reply) (f : Flat) (w : Fields) → rest ≡ []
    → RunsOn plan calls rest replies f w
    → IsAlike (after_all plan calls f) (flat_of w) × (replies ≡ answers plan calls f)
runs_whole plan calls rest replies f w e r =
    let left : after_all plan calls f ≡ r.current = r.left ∙ ap (λ (cs : List Call). after_all plan cs r.current) e in
    let reported : answers plan calls f ≡ replies =
    r.reported ∙ ap (λ (cs : List Call). replies ++ answers plan cs r.current) e ∙ append-nil replies in
    (rw left r.seen, sym reported)
