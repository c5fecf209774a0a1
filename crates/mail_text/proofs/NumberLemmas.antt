-- What `parse` says of a text of digits, in the words of `number_of`.
use Rattle.std.proofs.Common.{◌≡◌, ℕ, ◌^◌, ◌<◌, Bool, true, false, ◌&&◌, List, [], ◌∷◌, length, None, Result, Ok, Err, refl, ap, arith}
use Rattle.std.specs.Char.{is_ascii_digit}
use Rattle.std.specs.List.{list_all}
use Rattle.std.specs.Result.{OkIff, result_ok}
use Rattle.std.specs.Str.{all_ascii_digits, IsUtf8}
use Rattle.std.specs.Str.Parse.{digits_value, ParsesUnsigned}
use Rattle.std.proofs.lemmas.Bool.Decides.{nat_tests}
use Rattle.std.proofs.lemmas.Str.{IsUtf8-from_ascii}
use Rattle.std.proofs.lemmas.Str.Parse.{IsNumeralModel, numerals_by_value, tells_all_ascii_digits, parse_digits}
use Rattle.std.proofs.lemmas.Fmt.{IsAscii-from_digits}
use Rattle.mail_text.specs.Number.{number_of}

-- the tests of the definition are those of `parse`
model : IsNumeralModel (λ ds. all_ascii_digits ds ≡ true) (digits_value 10)
model = numerals_by_value (λ ds. all_ascii_digits ds ≡ true) tells_all_ascii_digits

pub list_all-is_ascii_digit : (bs : List ℕ) → list_all is_ascii_digit bs ≡ all_ascii_digits bs
list_all-is_ascii_digit [] = refl
list_all-is_ascii_digit (b ∷ bs) = ap (λ (r : Bool). is_ascii_digit b && r) (list_all-is_ascii_digit bs)

pub number_of-other : (bs : List ℕ) → all_ascii_digits bs ≡ false → number_of bs ≡ None
unfolding number_of
number_of-other bs other = grind (arith, nat_tests)

pub IsUtf8-from_digits : (bs : List ℕ) → all_ascii_digits bs ≡ true → IsUtf8 bs
IsUtf8-from_digits bs digits = IsUtf8-from_ascii bs (IsAscii-from_digits bs (model.to bs digits))

pub number_of-parsed : {E : Type 0} (bs : List ℕ) (r : Result ℕ E) → ParsesUnsigned 64 10 bs r → all_ascii_digits bs ≡ true → result_ok r ≡ number_of bs
unfolding number_of
number_of-parsed {E} bs (Ok x) parsed digits =
    let h : OkIff {E = E} (Ok x) ((0 < length bs) × (digits_value 10 bs < 2 ^ 64)) (digits_value 10 bs) = parse_digits model {E = E} 64 bs (Ok x) parsed digits in
    let some : 0 < length bs = h.0.0 in
    let fits : digits_value 10 bs < 2 ^ 64 = h.0.1 in
    let is : x ≡ digits_value 10 bs = h.1 in
    grind (arith, nat_tests)
number_of-parsed bs (Err e) parsed digits =
    let h : ¬ ((0 < length bs) × (digits_value 10 bs < 2 ^ 64)) = parse_digits model 64 bs (Err e) parsed digits in grind (arith, nat_tests)
