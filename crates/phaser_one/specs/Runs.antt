-- Lists of calls.
use Rattle.std.specs.Prelude.{◌≡◌, if◌then◌else◌, Option, None, Some, List, [], ◌∷◌}
use Rattle.phaser_one.specs.declared.call.Advance.{Advance}
use Rattle.phaser_word.specs.Fields.{Fields}
use Rattle.advance_rule.specs.declared.CountPlan.{CountPlan}
use Rattle.flat_phaser.specs.Flat.{Flat, registered}
use Rattle.flat_phaser.specs.Alike.{IsAlike}
use Rattle.phaser_one.specs.Calls.{Call, Reply, answer, called, after}
use Rattle.phaser_one.specs.Seen.{flat_of}

-- what the calls answer one after another, and the flat phaser that they leave
abbrev pub answers : CountPlan → List Call → Flat → List Reply
answers plan [] f = []
answers plan (call ∷ calls) f = answer call f ∷ answers plan calls (after plan call f)

abbrev pub after_all : CountPlan → List Call → Flat → Flat
after_all plan [] f = f
after_all plan (call ∷ calls) f = after_all plan calls (after plan call f)

-- A list of calls follows every flat phaser that is alike to the word's.
abbrev pub FollowsAll : CountPlan → List Call → Fields → Fields → List Reply → Type 0
FollowsAll plan calls old new replies =
    (f : Flat) → IsAlike f (flat_of old) → IsAlike (after_all plan calls f) (flat_of new) × (replies ≡ answers plan calls f)

-- the advance that a call brings, if it does: the phase that ends, and the members
abbrev pub advance_of : Call → Flat → Option Advance
advance_of call f = if (called call f).due then Some (record { phase = f.phase; parties = registered (called call f) }) else None
