-- How a text is given to a caller who has room for a number of bytes (own).
use Rattle.std.specs.Prelude.{◌≡◌, ◌≤◌, ◌<◌, ℕ, ℤ, pos, List, length, take}

-- the length of the text was given; if there is room for the text, it is at the front, else the status is 10
pub record IsGiven (text out : List ℕ) (done status : ℤ) (bytes : ℕ) : Type 0 where
  pub reported : bytes ≡ length text
  pub fits : length text ≤ length out → (status ≡ done) × (take (length text) out ≡ text)
  pub short : length out < length text → status ≡ pos 10
