-- What a step leaves of a token's marks.
use Rattle.std.proofs.Common.{◌≡◌, ℕ, zero, suc, true, false, cond, refl, sym, ◌∙◌, ap, arith, Some, None}
use Rattle.std.proofs.lemmas.Bool.{ne_eqb}
use Rattle.tier_steps.specs.Word.{Fields}
use Rattle.tier_steps.specs.View.{View, parent_of}
use Rattle.tier_steps.specs.Tally.{word_at}
use Rattle.tier_steps.specs.Step.{Kind, Look, Glance, Refuse, Join, Arrive, Leave, Advance, Force, Claim, Settle, SettleBack, Climb, Refresh, looked, moved, dropped, is_going_back, view_after}
use Rattle.tier_steps.specs.Marks.{sees_root, is_refusal, LedIsSpelledOut, NoteIsSpelledOut, MarksAreSpelledOut}
use Rattle.tier_steps.specs.Due.{is_advance}
use Rattle.tier_steps.proofs.Looking.{move_keeps}

wrong : {A : Type 0} → true ≡ false → A
wrong e = absurd (let a : true ≡ false = e in cc)

wrong' : {A : Type 0} → false ≡ true → A
wrong' e = absurd (let a : false ≡ true = e in cc)

-- what a look leaves
looked_led : (w : Fields) (v : View) → (looked w v).led ≡ false
looked_led w v =
    let u : View = record v { led = false; note = cond (is_going_back v.errand) v.note None } in
    elim w.ended as (λ b. (cond b (record u { end_seen = Some w.phase; errand = dropped v.errand }) (moved w u)).led ≡ false) [
      | true ↦ refl
      | false ↦ move_keeps (λ x. x.led ≡ false) w u refl (λ _ _. refl)
    ]

looked_note : (w : Fields) (v : View) → (looked w v).note ≡ cond (is_going_back v.errand) v.note None
looked_note w v =
    let u : View = record v { led = false; note = cond (is_going_back v.errand) v.note None } in
    elim w.ended as
    (λ b. (cond b (record u { end_seen = Some w.phase; errand = dropped v.errand }) (moved w u)).note
    ≡ cond (is_going_back v.errand) v.note None) [
      | true ↦ refl
      | false ↦ move_keeps (λ x. x.note ≡ cond (is_going_back v.errand) v.note None) w u refl (λ _ _. refl)
    ]

-- the tests of a step that neither advances, looks at the root nor refuses are all false
abbrev SpelledOut : ℕ → Fields → Kind → View → View → Type 0
SpelledOut t w kind old new = LedIsSpelledOut t kind old new × NoteIsSpelledOut t w kind old new

led_same : (t : ℕ) (kind : Kind) (old new : View) → is_advance kind ≡ false → sees_root t kind ≡ false → new.led ≡ old.led
    → LedIsSpelledOut t kind old new
led_same t kind old new plain blind e = record {
  advance = λ h. wrong (sym h ∙ plain);
  look = λ h. wrong (sym h ∙ blind);
  other = λ _ _. e;
}

note_same : (t : ℕ) (w : Fields) (kind : Kind) (old new : View) → is_refusal kind ≡ false → sees_root t kind ≡ false → new.note ≡ old.note
    → NoteIsSpelledOut t w kind old new
note_same t w kind old new taken blind e = record {
  refused = λ h. wrong (sym h ∙ taken);
  look = λ h _ _. wrong (sym h ∙ blind);
  back = λ _ _. e;
  other = λ _ _. e;
}

marks_of : (above : ℕ) (kind : Kind) (t : ℕ) (w : Fields) (v : View) → SpelledOut t w kind v (view_after above kind t w v)
marks_of above Look t w v = (
  record { advance = λ h. wrong' h; look = λ _. looked_led w v; other = λ _ h. wrong h },
  record {
    refused = λ h. wrong' h;
    look = λ _ _ e. looked_note w v ∙ ap (λ b. cond b v.note None) e;
    back = λ _ e. looked_note w v ∙ ap (λ b. cond b v.note None) e;
    other = λ _ h. wrong h;
  },
)
marks_of above Glance t w v = (led_same t Glance v v refl refl refl, note_same t w Glance v v refl refl refl)
marks_of above (Refuse tier claimed size) zero w v = (
  record { advance = λ h. wrong' h; look = λ _. looked_led w v; other = λ _ h. wrong h },
  record { refused = λ _. refl; look = λ _ h _. wrong h; back = λ h _. wrong h; other = λ h _. wrong h },
)
marks_of above (Refuse tier claimed size) (suc t) w v = (
  led_same (suc t) (Refuse tier claimed size) v (view_after above (Refuse tier claimed size) (suc t) w v) refl
      (ne_eqb (suc t) 0 (omega arith)) refl,
  record { refused = λ _. refl; look = λ _ h _. wrong h; back = λ h _. wrong h; other = λ h _. wrong h },
)
marks_of above (Join tier claimed size) t w v =
    let v' : View = view_after above (Join tier claimed size) t w v in
    (led_same t (Join tier claimed size) v v' refl refl refl, note_same t w (Join tier claimed size) v v' refl refl refl)
marks_of above Arrive t w v =
    let v' : View = view_after above Arrive t w v in (led_same t Arrive v v' refl refl refl, note_same t w Arrive v v' refl refl refl)
marks_of above Leave t w v =
    let v' : View = view_after above Leave t w v in (led_same t Leave v v' refl refl refl, note_same t w Leave v v' refl refl refl)
marks_of above (Advance ends) t w v =
    let v' : View = view_after above (Advance ends) t w v in (
      record { advance = λ _. refl; look = λ h. wrong' h; other = λ h _. wrong h },
      note_same t w (Advance ends) v v' refl refl refl,
    )
marks_of above Force t w v =
    let v' : View = view_after above Force t w v in (led_same t Force v v' refl refl refl, note_same t w Force v v' refl refl refl)
marks_of above (Claim tier claimed size) t w v =
    let v' : View = view_after above (Claim tier claimed size) t w v in
    (led_same t (Claim tier claimed size) v v' refl refl refl, note_same t w (Claim tier claimed size) v v' refl refl refl)
marks_of above (Settle tier claimed size) t w v =
    let v' : View = view_after above (Settle tier claimed size) t w v in
    (led_same t (Settle tier claimed size) v v' refl refl refl, note_same t w (Settle tier claimed size) v v' refl refl refl)
marks_of above (SettleBack tier claimed size) t w v =
    let v' : View = view_after above (SettleBack tier claimed size) t w v in
    (led_same t (SettleBack tier claimed size) v v' refl refl refl, note_same t w (SettleBack tier claimed size) v v' refl refl refl)
marks_of above (Climb passage) t w v =
    let v' : View = view_after above (Climb passage) t w v in
    (led_same t (Climb passage) v v' refl refl refl, note_same t w (Climb passage) v v' refl refl refl)
marks_of above Refresh t w v = (led_same t Refresh v v refl refl refl, note_same t w Refresh v v refl refl refl)

pub marks_are_spelled_out : MarksAreSpelledOut
marks_are_spelled_out ps ws v t kind = marks_of (parent_of ps t) kind t (word_at ws t) v
