-- The worked run: its premises, and what it answers, by computing it.
use Rattle.std.proofs.Common.{◌≤◌, ℕ, zero, suc, true, None, [], ◌∷◌, refl, length, All, arith}
use Rattle.advance_rule.specs.declared.EndPlan.{EndPlan}
use Rattle.flat_phaser.specs.Flat.{empty_in}
use Rattle.tier_shape.specs.Paths.{IsTiers}
use Rattle.tier_shape.specs.Widths.{IsWidth, tiers_of}
use Rattle.tier_shape.proofs.TreeShape.{tree_tiers}
use Rattle.tier_core.specs.Machine.{IsCore, opened}
use Rattle.tier_core.proofs.Opening.{opened_core}
use Rattle.tier_core.specs.Run.{AreSteps}
use Rattle.tier_laws.specs.Worked.{two_leaves, worked_steps, EachAnswerIsGiven}
use Rattle.tier_laws.proofs.Driven.{tokens_keep}

abbrev plan : EndPlan
plan = record { when_empty = true; at = None }

two : IsWidth 2
two = (grind arith, grind arith)

widths : All IsWidth (2 ∷ [])
widths zero d lt = two
widths (suc k) d lt = absurd (grind arith)

one_level : length {A = ℕ} (2 ∷ []) ≤ 6
one_level = grind arith

three_tiers : tiers_of (2 ∷ []) ≤ 64
three_tiers = grind arith

tiers : IsTiers (0 ∷ 0 ∷ 0 ∷ [])
tiers = tree_tiers (2 ∷ []) widths one_level three_tiers

core : IsCore two_leaves
core =
    (tokens_keep 3 (opened (0 ∷ 0 ∷ 0 ∷ []) 0 plan) (empty_in 0) (opened_core (0 ∷ 0 ∷ 0 ∷ []) 0 plan tiers.shape (grind arith) (grind arith)) refl).0

are_steps : AreSteps worked_steps
are_steps = (
  (grind arith, grind arith),
  (
    tt,
    (
      tt,
      (
        tt,
        (
          tt,
          (
            (grind arith, grind arith),
            (
              tt,
              (
                tt,
                (
                  tt,
                  (
                    tt,
                    (
                      (grind arith, grind arith),
                      (
                        tt,
                        (
                          tt,
                          (
                            tt,
                            (
                              tt,
                              (
                                tt,
                                (
                                  tt,
                                  (
                                    tt,
                                    (
                                      tt,
                                      (
                                        tt,
                                        (
                                          tt,
                                          (
                                            tt,
                                            (
                                              (grind arith, grind arith),
                                              (
                                                tt,
                                                (
                                                  tt,
                                                  (
                                                    tt,
                                                    (
                                                      tt,
                                                      (
                                                        tt,
                                                        (
                                                          tt,
                                                          (
                                                            tt,
                                                            (
                                                              tt,
                                                              (
                                                                tt,
                                                                (
                                                                  tt,
                                                                  (
                                                                    tt,
                                                                    (tt, (tt, (tt, (tt, (tt, (tt, (tt, (tt, (tt, tt))))))))),
                                                                  ),
                                                                ),
                                                              ),
                                                            ),
                                                          ),
                                                        ),
                                                      ),
                                                    ),
                                                  ),
                                                ),
                                              ),
                                            ),
                                          ),
                                        ),
                                      ),
                                    ),
                                  ),
                                ),
                              ),
                            ),
                          ),
                        ),
                      ),
                    ),
                  ),
                ),
              ),
            ),
          ),
        ),
      ),
    ),
  ),
)

pub each_answer_is_given : EachAnswerIsGiven
each_answer_is_given = record { tiers = tiers; core = core; steps = are_steps; answers = refl }
