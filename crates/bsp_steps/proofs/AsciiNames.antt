-- Names are ASCII, and so UTF-8.
use Rattle.std.proofs.Common.{◌≡◌, ℕ, ◌<◌, Bool, true, false, ◌&&◌, List, [], ◌∷◌, length, IsAscii, arith, refl}
use Rattle.std.specs.Prelude.{not, nat_le}
use Rattle.std.specs.List.{list_all}
use Rattle.std.specs.Str.{IsUtf8}
use Rattle.std.proofs.lemmas.Str.{IsUtf8-from_ascii}
use Rattle.std.proofs.lemmas.Str.Ascii.{IsAscii-cons, IsAscii-nil}
use Rattle.std.proofs.lemmas.Grind.{common_steps}
use Rattle.task_code.specs.Names.{begins_lower, is_in_name, is_name, is_reserved, is_free}

and-left : (b c : Bool) → (b && c) ≡ true → b ≡ true
and-left true c e = refl
and-left false c e = e

and-right : (b c : Bool) → (b && c) ≡ true → c ≡ true
and-right true c e = e
and-right false c e = cc

byte-ascii : (c : ℕ) → is_in_name c ≡ true → c < 128
byte-ascii c e = grind (arith, common_steps)

bytes-ascii : (w : List ℕ) → list_all is_in_name w ≡ true → IsAscii w
bytes-ascii [] e = IsAscii-nil
bytes-ascii (c ∷ cs) e =
    IsAscii-cons c cs (byte-ascii c (and-left _ (list_all is_in_name cs) e)) (bytes-ascii cs (and-right (is_in_name c) _ e))

pub free-utf8 : (w : List ℕ) → is_free w ≡ true → IsUtf8 w
free-utf8 w e =
    let name : is_name w ≡ true = and-left _ (not (is_reserved w)) e in
    IsUtf8-from_ascii w (bytes-ascii w (and-right (begins_lower w && nat_le (length w) 16) (list_all is_in_name w) name))

pub ruleset ascii_steps = (free-utf8)
