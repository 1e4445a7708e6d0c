use Rattle.std.proofs.Common.{◌≡◌, ◌∙◌, ◌+◌, ◌-◌, ◌∷◌, ◌++◌, [], None, Some, w64, to_z, of_z, sym, ap, arith, rules}
use Rattle.std.specs.Prelude.{FitsSigned}
use Rattle.std.proofs.lemmas.Int.{to_z-of_z}
use Rattle.std.specs.Option.{option_map}
use Rattle.bsp_steps.specs.DeedBytes.{set_to, value}
use Rattle.bsp_steps.specs.DeedReads.{after}
use Rattle.bsp_steps.proofs.DeedBytes.{row_step, row_none, row_all}
use Rattle.bsp_steps.proofs.packed.take_values.Goals as goal

pub returns-in_default : goal.returns-in_default
returns-in_default c =
    let place = c.loop-place.place in
    let puts = c.loop-place.puts.items in
    c.loop-place.invariant.back puts None
    (row_none c.args.array (c.args.first + place) (c.args.count - (place + 1)) (c.args.count - place) c.loop-place.rest.now puts puts
    (omega (arith, c.loop-place-test.true)) (sym c.value.ensures ∙ ap (option_map after) c.in_default.is))

pub loop-place-preserved : goal.loop-place-preserved
loop-place-preserved c =
    let place = c.loop-place.place in
    let puts = c.loop-place.puts.items in
    let found : value c.loop-place.rest.now ≡ Some (c.in-Some.value, c.in-Some.behind.now) = search (rules, c.in-Some.ensures, c.in-Some.is) in
    let fits : FitsSigned w64 c.in-Some.value = search rules in
    let back : to_z w64 (of_z w64 c.in-Some.value) ≡ c.in-Some.value = to_z-of_z w64 c.in-Some.value fits in
    let pushed : c.push.new.self.items ≡ puts ++ set_to c.args.array (c.args.first + place) c.in-Some.value ∷ [] =
    c.in_ok-push.ensures.items ∙ (λ i. puts ++ set_to c.args.array (c.args.first + place) (back i) ∷ []) in
    record {
      back = λ new r h. c.loop-place.invariant.back new r
          (row_step c.args.array (c.args.first + place) (c.args.first + (place + 1)) (c.args.count - (place + 1)) (c.args.count - place)
          c.loop-place.rest.now c.in-Some.behind.now c.in-Some.value puts c.push.new.self.items new r
          (omega (arith, c.loop-place-test.true)) (omega arith) found pushed h);
      within = omega (arith, c.loop-place-test.true);
    }

pub returns : goal.returns
returns c =
    c.loop-place.invariant.back c.loop-place.puts.items (Some c.loop-place.rest)
    (row_all c.args.array (c.args.first + c.loop-place.place) (c.args.count - c.loop-place.place) c.loop-place.rest c.loop-place.puts.items
    (omega (arith, c.loop-place-test.false)))
