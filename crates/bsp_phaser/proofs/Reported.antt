-- What a word says of a phaser that it represents.
use Rattle.std.proofs.Common.{◌≡◌, ◌≤◌, ◌-◌, ℕ, pos, Bool, if◌then◌else◌, sym, ◌∙◌, ap}
use Rattle.phaser_word.specs.Fields.{Fields}
use Rattle.phaser_word.specs.Phase.{shown_of}
use Rattle.flat_phaser.specs.Flat.{Flat, unarrived, shown}
use Rattle.flat_phaser.specs.Alike.{IsAlike}
use Rattle.phaser_one.specs.Seen.{flat_of}
use Rattle.phaser_one.proofs.Following.{registered_is, unarrived_is}
use Rattle.bsp_phaser.specs.Readings.{parties_in, arrived_in, unarrived_in, ended_in}

pub shown_is : (f : Flat) (w : Fields) → IsAlike f (flat_of w) → shown_of w.phase w.ended ≡ shown f
shown_is f w a = sym (ap (λ (p : ℕ). shown_of p f.ended) a.phase ∙ ap (shown_of w.phase) a.ended)

pub parties_are : (f : Flat) (w : Fields) → w.unarrived ≤ w.parties → IsAlike f (flat_of w) → pos w.parties ≡ parties_in f
parties_are f w h a = sym (ap pos (registered_is f w h a))

pub arrived_are : (f : Flat) (w : Fields) → w.unarrived ≤ w.parties → IsAlike f (flat_of w) → pos (w.parties - w.unarrived) ≡ arrived_in f
arrived_are f w h a =
    sym (ap (λ (n : ℕ). pos (n - unarrived f)) (registered_is f w h a) ∙ ap (λ (n : ℕ). pos (w.parties - n)) (unarrived_is f w h a))

pub unarrived_are : (f : Flat) (w : Fields) → w.unarrived ≤ w.parties → IsAlike f (flat_of w) → pos w.unarrived ≡ unarrived_in f
unarrived_are f w h a = sym (ap pos (unarrived_is f w h a))

pub ended_is : (f : Flat) (w : Fields) → IsAlike f (flat_of w) → (if w.ended then pos 1 else pos 0) ≡ ended_in f
ended_is f w a = sym (ap (λ (b : Bool). if b then pos 1 else pos 0) a.ended)
