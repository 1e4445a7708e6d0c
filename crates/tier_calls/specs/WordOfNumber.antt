-- The word that a number represents, field by field (own).
use Rattle.std.specs.Prelude.{ℕ, ◌/◌, ◌%◌, not, nat_eq}
use Rattle.phaser_word.specs.Fields.{Fields}

abbrev pub word_of_number : ℕ → Fields
word_of_number n =
    record {
      phase = n / 4294967296 % 2147483648;
      parties = n / 65536 % 65536;
      unarrived = n % 65536;
      ended = not (nat_eq (n / 9223372036854775808) 0);
    }
