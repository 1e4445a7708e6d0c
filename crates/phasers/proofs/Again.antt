-- Calls that try again.
use Rattle.std.proofs.Common.{◌≡◌, ◌∙◌, ◌<◌, ◌⊎◌, ℕ, [], ◌∷◌, refl, subst, arith, inl, inr}
use Rattle.tier_steps.specs.declared.view.View.{View}
use Rattle.phaser_word.specs.Phase.{next_phase_of}
use Rattle.tier_calls.specs.Made.{is_glance, is_quiet}
use Rattle.tier_calls.specs.Watches.{HasWatchedRoot}
use Rattle.tier_steps.specs.declared.kind.Kind.TheVariants.{Look}
use Rattle.tier_calls.specs.Next.{is_look}
use Rattle.tier_calls.specs.Holding.{Holding}
use Rattle.tier_calls.specs.Arrives.{IsLooked}
use Rattle.tier_calls.specs.Passes.{IsSame}
use Rattle.tier_calls.specs.JoinsHere.{AreSpent}
use Rattle.tier_calls.proofs.Making.{made_then}
use Rattle.tier_table.specs.declared.waiting.RegisteredAtLast.TheVariants as admitted
use Rattle.phasers.specs.Late.{HasOnlyWatched}
use Rattle.phasers.specs.Thin.{HaveTried, BringsAtLast}

same_first : (v : View) → IsSame v v
same_first v = record { tier = refl; size = refl; phase = refl; arrived = refl }

same_then : {a b c : View} → IsSame a b → IsSame b c → IsSame a c
same_then s t = record { tier = t.tier ∙ s.tier; size = t.size ∙ s.size; phase = t.phase ∙ s.phase; arrived = t.arrived ∙ s.arrived }

pub tried_first : (crew door : Holding) → HaveTried crew crew door door
tried_first crew door = record {
  crew_tree = refl;
  door_tree = refl;
  same = same_first crew.view;
  crew_opened = refl;
  door_opened = refl;
  crew_made = ([], refl, tt);
  door_made = ([], refl, tt);
}

pub tried_more : {old crew new door went after : Holding} → HaveTried old crew door went → HaveTried crew new went after
    → HaveTried old new door after
tried_more x y = record {
  crew_tree = y.crew_tree ∙ x.crew_tree;
  door_tree = y.door_tree ∙ x.door_tree;
  same = same_then x.same y.same;
  crew_opened = y.crew_opened ∙ x.crew_opened;
  door_opened = y.door_opened ∙ x.door_opened;
  crew_made = made_then is_quiet x.crew_made y.crew_made;
  door_made = made_then is_look x.door_made y.door_made;
}

pub spent_tried : {tries : ℕ} {old new door after : Holding} → AreSpent tries old new door after → HaveTried old new door after
spent_tried x = record {
  crew_tree = x.crew_tree;
  door_tree = x.door_tree;
  same = x.crew;
  crew_opened = x.crew_opened;
  door_opened = x.door_opened;
  crew_made = x.crew_made;
  door_made = x.door_made;
}

-- the phase that is answered is that of the members
pub joined_phase : {tries n phase : ℕ} {old new door crew : Holding} → BringsAtLast tries old new door n (admitted.Joined crew phase)
    → BringsAtLast tries old new door n (admitted.Joined crew crew.view.phase)
joined_phase {tries} {n} {phase} {old} {new} {door} {crew} x =
    subst (λ (p : ℕ). BringsAtLast tries old new door n (admitted.Joined crew p)) x.last.joins.3 x

-- a member that has not arrived is unarrived after a look too
pub unarrived_still : {v u : View} → IsLooked v u → v.arrived < v.size → u.arrived ≡ u.size → ⊥
unarrived_still {v} {u} looked some all = at looked.phase
  where
    at : ((u.phase ≡ v.phase) × (u.arrived ≡ v.arrived)) ⊎ ((v.arrived ≡ v.size) × (u.phase ≡ next_phase_of v.phase) × (u.arrived ≡ 0)) → ⊥
    at (inl same) = let a = same.1 in let b = looked.size in absurd (omega arith)
    at (inr next) = let a = next.0 in absurd (omega arith)

pub watched_first : (h : Holding) → HasOnlyWatched h h
watched_first h = record { tree = refl; size = refl; tried = refl; opened = refl; made = ([], refl, tt) }

pub watched_more : {a b c : Holding} → HasOnlyWatched a b → HasWatchedRoot b c → HasOnlyWatched a c
watched_more x y = record {
  tree = y.tree ∙ x.tree;
  size = y.size ∙ x.size;
  tried = y.tried ∙ x.tried;
  opened = y.opened ∙ x.opened;
  made = made_then is_glance x.made (Look ∷ [], y.steps, (refl, tt));
}
