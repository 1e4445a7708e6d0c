-- The numbers of topics in decimal.
use Rattle.std.proofs.Common.{◌≡◌, codes, decimal, refl}
use Rattle.std.specs.Fmt.{digits}

pub one : decimal 1 ≡ codes "1"
unfolding digits
one = refl

pub two : decimal 2 ≡ codes "2"
unfolding digits
two = refl

pub three : decimal 3 ≡ codes "3"
unfolding digits
three = refl

pub four : decimal 4 ≡ codes "4"
unfolding digits
four = refl

pub five : decimal 5 ≡ codes "5"
unfolding digits
five = refl

pub six : decimal 6 ≡ codes "6"
unfolding digits
six = refl

pub seven : decimal 7 ≡ codes "7"
unfolding digits
seven = refl

pub eight : decimal 8 ≡ codes "8"
unfolding digits
eight = refl

pub nine : decimal 9 ≡ codes "9"
unfolding digits
nine = refl

pub ten : decimal 10 ≡ codes "10"
unfolding digits
ten = refl

pub eleven : decimal 11 ≡ codes "11"
unfolding digits
eleven = refl

pub twelve : decimal 12 ≡ codes "12"
unfolding digits
twelve = refl

pub thirteen : decimal 13 ≡ codes "13"
unfolding digits
thirteen = refl

pub fourteen : decimal 14 ≡ codes "14"
unfolding digits
fourteen = refl
