-- The next participants, from the last to the first.
use Rattle.std.proofs.Common.{◌≡◌, List, [], ◌∷◌, ◌++◌, map, sym, ap, ◌∙◌, append_assoc, append-nil}
use Rattle.std.proofs.lemmas.List.{map-append}
use Rattle.job_schedule.specs.ParticipantValue.{ChildValue, ParticipantValue, own_participant, child_participant, living_participants}

pub children_last : (ks front : List ChildValue) (k : ChildValue) → ks ≡ front ++ k ∷ []
    → map child_participant ks ≡ map child_participant front ++ child_participant k ∷ []
children_last ks front k e = ap (map child_participant) e ∙ map-append child_participant front (k ∷ [])

pub living_last : (gs front : List ParticipantValue) (g : ParticipantValue) → gs ≡ front ++ g ∷ []
    → living_participants gs ≡ living_participants front ++ (own_participant g ++ map child_participant g.children)
living_last gs front g e = ap living_participants e ∙ cut front
  where
    cut : (front : List ParticipantValue)
        → living_participants (front ++ g ∷ []) ≡ living_participants front ++ (own_participant g ++ map child_participant g.children)
    cut [] = append-nil (own_participant g ++ map child_participant g.children)
    cut (x ∷ front) =
        ap (λ (ys : List ParticipantValue). (own_participant x ++ map child_participant x.children) ++ ys) (cut front)
        ∙ sym
        (append_assoc (own_participant x ++ map child_participant x.children) (living_participants front) (own_participant g ++ map child_participant g.children))
