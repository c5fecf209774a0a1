-- Numbers at the front of bytes.
use Rattle.std.proofs.Common.{◌≡◌, ℕ, ℤ, pos, negsuc, ◌<◌, ◌^◌, Bool, true, false, ◌&&◌, nat_lt, nat_le, cond, List, [], ◌∷◌, ◌++◌, length, decimal, Some, refl, ap, ◌∙◌, arith}
use Rattle.std.proofs.lemmas.Bool.{and_parts, cond-true, cond-false, le-leb, ltb-false}
use Rattle.std.proofs.lemmas.Bool.Decides.{nat_tests}
use Rattle.std.proofs.lemmas.Fmt.{decimal_nonempty, digits_decimal, digits_value-decimal}
use Rattle.std.proofs.lemmas.Str.Parse.{IsNumeralModel, numerals_by_value, tells_all_ascii_digits}
use Rattle.std.specs.Char.{is_ascii_digit}
use Rattle.std.specs.Int.{int_max}
use Rattle.std.specs.List.{list_all, prefix_len}
use Rattle.std.specs.Str.{all_ascii_digits}
use Rattle.std.specs.Str.Parse.{digits_value}
use Rattle.mail_text.specs.Number.{number_of}
use Rattle.commit_record.specs.Format.{first_moment, fits_moment, last_moment, nearest_moment}

-- the front that passes ends before the first element that doesn't
pub prefix_len-stopped : (p : ℕ → Bool) (ds : List ℕ) (x : ℕ) (rest : List ℕ) → list_all p ds ≡ true → p x ≡ false → prefix_len p (ds ++ x ∷ rest) ≡ length ds
prefix_len-stopped p [] x rest all stops = cond-false _ _ _ stops
prefix_len-stopped p (d ∷ ds) x rest all stops =
    let parts = and_parts (p d) (list_all p ds) all in
    let more : prefix_len p (ds ++ x ∷ rest) ≡ length ds = prefix_len-stopped p ds x rest parts.1 stops in
    cond-true _ _ _ parts.0 ∙ omega arith

model : IsNumeralModel (λ ds. all_ascii_digits ds ≡ true) (digits_value 10)
model = numerals_by_value (λ ds. all_ascii_digits ds ≡ true) tells_all_ascii_digits

list_all-is_ascii_digit : (bs : List ℕ) → list_all is_ascii_digit bs ≡ all_ascii_digits bs
list_all-is_ascii_digit [] = refl
list_all-is_ascii_digit (b ∷ bs) = ap (λ (r : Bool). is_ascii_digit b && r) (list_all-is_ascii_digit bs)

pub decimal-digits : (n : ℕ) → n < 2 ^ 64 → list_all is_ascii_digit (decimal n) ≡ true
decimal-digits n fits = list_all-is_ascii_digit (decimal n) ∙ digits_decimal model n fits

pub number_of-decimal : (n : ℕ) → n < 2 ^ 64 → number_of (decimal n) ≡ Some n
unfolding number_of
number_of-decimal n fits =
    let digits : all_ascii_digits (decimal n) ≡ true = digits_decimal model n fits in
    let value : digits_value 10 (decimal n) ≡ n = digits_value-decimal model n fits in
    let some : 0 < length (decimal n) = decimal_nonempty n fits in
    grind (arith, nat_tests)

-- a moment of a record is a number of seconds, and none that is past the last one
pub late-fits : (n : ℕ) → fits_moment (Some (pos n)) ≡ true → nat_le n 253_402_128_000 ≡ true
late-fits n fits = (and_parts (nat_le 86_400 n) (nat_le n 253_402_128_000) fits).1

pub never-fits : (n : ℕ) → fits_moment (Some (negsuc n)) ≡ true → ⊥
never-fits n fits = let h : false ≡ true = fits in cc

early-fits : (n : ℕ) → nat_lt n 86_400 ≡ false → nat_le n 253_402_128_000 ≡ true → fits_moment (Some (pos n)) ≡ true
early-fits n early late = rw (le-leb 86_400 n (ltb-false n 86_400 early), late) refl

between : (n : ℕ) (b : Bool) → nat_lt n 86_400 ≡ b → nat_le n 253_402_128_000 ≡ true → fits_moment (Some (cond b first_moment (pos n))) ≡ true
between n true early late = refl
between n false early late = early-fits n early late

-- the nearest moment is one
within : (n : ℕ) (b : Bool) → nat_lt 253_402_128_000 n ≡ b → fits_moment (Some (int_max first_moment (cond b last_moment (pos n)))) ≡ true
within n true late = refl
within n false late = between n (nat_lt n 86_400) refl (le-leb n 253_402_128_000 (ltb-false 253_402_128_000 n late))

pub nearest-fits : (seconds : ℤ) → fits_moment (Some (nearest_moment seconds)) ≡ true
nearest-fits (pos n) = within n (nat_lt 253_402_128_000 n) refl
nearest-fits (negsuc n) = refl
