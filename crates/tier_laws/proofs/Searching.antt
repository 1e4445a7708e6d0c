-- The four turns of a join that looks for its tier, and what holds of the one that is taken.
use Rattle.std.proofs.Common.{◌≡◌, ℕ, true, false, cond}
use Rattle.phaser_word.specs.Fields.{Fields}
use Rattle.tier_steps.specs.declared.view.View.{View}
use Rattle.tier_steps.specs.declared.kind.Kind.TheVariants.{Look, Refuse, Claim, Join}
use Rattle.tier_steps.specs.Step.{added, refused}
use Rattle.tier_core.specs.declared.call.Turn.{Turn}
use Rattle.tier_core.specs.declared.call.Played.TheVariants.{GoesOn, Done}
use Rattle.tier_core.specs.declared.call.Progress.TheVariants.{Seeking as ToSeek}
use Rattle.tier_core.specs.Turn.{end_shown, is_refusing, is_claimable, refusal, unless_claimed, giving_back, settling, seek_turn}
use Rattle.tier_laws.proofs.Memory.{by_turn}

-- it finds the tree ended
abbrev pub over_turn : ℕ → Fields → Turn
over_turn k w = record { kind = Look; tier = 0; next = giving_back k (end_shown w); answer = unless_claimed k (end_shown w) }

-- the tier refuses it
abbrev pub refuse_turn : ℕ → ℕ → ℕ → ℕ → Fields → View → Turn
refuse_turn tier k size t w v = record {
  kind = Refuse tier k size;
  tier = t;
  next = giving_back k (refusal t (added k size) (refused t w v).phase w);
  answer = unless_claimed k (refusal t (added k size) (refused t w v).phase w);
}

-- it claims the tier, which is empty
abbrev pub claim_turn : ℕ → ℕ → ℕ → ℕ → Turn
claim_turn tier k size t = record { kind = Claim tier k size; tier = t; next = ToSeek tier size; answer = GoesOn }

-- the tier admits its members
abbrev pub join_turn : ℕ → ℕ → ℕ → ℕ → Fields → Turn
join_turn tier k size t w = record { kind = Join tier k size; tier = t; next = settling k; answer = unless_claimed k (Done w.phase) }

-- What holds of each of them, by the word that it found, holds of the turn.
pub by_search : (P : Turn → Type 0) (tier k size t : ℕ) (w : Fields) (v : View)
    → (w.ended ≡ true → P (over_turn k w))
    → (w.ended ≡ false → is_refusing (added k size) w ≡ true → P (refuse_turn tier k size t w v))
    → (w.ended ≡ false → is_refusing (added k size) w ≡ false → is_claimable t w ≡ true → P (claim_turn tier k size t))
    → (w.ended ≡ false → is_refusing (added k size) w ≡ false → is_claimable t w ≡ false → P (join_turn tier k size t w))
    → P (seek_turn tier k size t w v)
by_search P tier k size t w v over refuse claim join =
    let free : Turn = cond (is_claimable t w) (claim_turn tier k size t) (join_turn tier k size t w) in
    by_turn P w.ended (over_turn k w) (cond (is_refusing (added k size) w) (refuse_turn tier k size t w v) free) over
    (λ going. by_turn P (is_refusing (added k size) w) (refuse_turn tier k size t w v) free (refuse going)
    (λ capacity. by_turn P (is_claimable t w) (claim_turn tier k size t) (join_turn tier k size t w) (claim going capacity) (join going capacity)))
