-- Numbers as bytes, and bytes as numbers.
use Rattle.std.proofs.Common.{◌≡◌, ℕ, ◌+◌, ◌*◌, ◌/◌, ◌%◌, ◌<◌, arith}

pub two_bytes : (n : ℕ) → n < 65536 → n / 256 % 256 * 256 + n % 256 ≡ n
two_bytes n h = omega arith

pub four_bytes : (n : ℕ) → n < 4294967296 → (n / 16777216 % 256 * 256 + n / 65536 % 256) * 65536 + (n / 256 % 256 * 256 + n % 256) ≡ n
four_bytes n h =
    let high : n / 16777216 % 256 * 256 + n / 65536 % 256 ≡ n / 65536 = omega arith in
    let low : n / 256 % 256 * 256 + n % 256 ≡ n % 65536 = omega arith in
    omega arith

module _ (a b : ℕ) (ha : a < 256) (hb : b < 256) where
  pub first_of_two : (a * 256 + b) / 256 % 256 ≡ a
  first_of_two = omega arith

  pub second_of_two : (a * 256 + b) % 256 ≡ b
  second_of_two = omega arith

module _ (a b c d : ℕ) (ha : a < 256) (hb : b < 256) (hc : c < 256) (hd : d < 256) where
  pub first_of_four : ((a * 256 + b) * 65536 + (c * 256 + d)) / 16777216 % 256 ≡ a
  first_of_four = omega arith

  pub second_of_four : ((a * 256 + b) * 65536 + (c * 256 + d)) / 65536 % 256 ≡ b
  second_of_four = omega arith

  pub third_of_four : ((a * 256 + b) * 65536 + (c * 256 + d)) / 256 % 256 ≡ c
  third_of_four = omega arith

  pub fourth_of_four : ((a * 256 + b) * 65536 + (c * 256 + d)) % 256 ≡ d
  fourth_of_four = omega arith
