-- Names are ASCII, and so UTF-8.
use Rattle.std.proofs.Common.{◌≡◌, ℕ, zero, suc, ◌<◌, true, ◌&&◌, List, [], ◌∷◌, length, IsAscii, Bor, slice_index_or, arith, refl}
use Rattle.std.specs.Prelude.{not, nat_le}
use Rattle.std.specs.List.{list_all}
use Rattle.std.specs.Str.{IsUtf8}
use Rattle.std.proofs.lemmas.Str.{IsUtf8-from_ascii}
use Rattle.std.proofs.lemmas.Str.Ascii.{IsAscii-cons, IsAscii-nil}
use Rattle.std.proofs.lemmas.Grind.{common_steps}
use Rattle.task_code.specs.Names.{begins_lower, is_in_name, is_name, is_reserved, is_free, is_among, are_names}
use Rattle.job_reader.specs.Words.{Word}
use Rattle.job_reader.specs.Views.{lent}
use Rattle.job_reader.proofs.SaidLemmas.{and-true}
use Rattle.job_reader.proofs.GrowLemmas.{and-left, and-right}

byte-ascii : (c : ℕ) → is_in_name c ≡ true → c < 128
byte-ascii c e = grind (arith, common_steps)

bytes-ascii : (w : Word) → list_all is_in_name w ≡ true → IsAscii w
bytes-ascii [] e = IsAscii-nil
bytes-ascii (c ∷ cs) e =
    IsAscii-cons c cs (byte-ascii c (and-left _ (list_all is_in_name cs) e)) (bytes-ascii cs (and-right (is_in_name c) _ e))

pub free-utf8 : (w : Word) → is_free w ≡ true → IsUtf8 w
free-utf8 w e =
    let name : is_name w ≡ true = and-left _ (not (is_reserved w)) e in
    IsUtf8-from_ascii w (bytes-ascii w (and-right (begins_lower w && nat_le (length w) 16) (list_all is_in_name w) name))

pub ruleset ascii_steps = (free-utf8)

pub all-free : (ns : List Word) → are_names ns ≡ true → list_all is_free ns ≡ true
all-free [] e = refl
all-free (n ∷ ns) e =
    let head : is_free n && not (is_among ns n) ≡ true = and-left _ (are_names ns) e in
    and-true _ _ (and-left _ (not (is_among ns n)) head) (all-free ns (and-right (is_free n && not (is_among ns n)) _ e))

pub each-free : (ns : List (Bor Word)) (i : ℕ) (d : Bor Word) → list_all is_free (lent ns) ≡ true → i < length ns
    → is_free (slice_index_or ns i d).now ≡ true
each-free [] i d e h = absurd (omega arith)
each-free (n ∷ ns) zero d e h = and-left _ (list_all is_free (lent ns)) e
each-free (n ∷ ns) (suc i) d e h = each-free ns i d (and-right (is_free n.now) _ e) (omega arith)
