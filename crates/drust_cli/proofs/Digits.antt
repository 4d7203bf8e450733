-- Texts of digits.
use Rattle.std.proofs.Common.{◌≡◌, ◌≤◌, ◌<◌, ◌^◌, ◌&&◌, inl, inr, ℕ, Bool, true, false, List, length, None, Result, Err, refl, true≢false, nat_le, rules, arith, sym}
use Rattle.std.specs.List.{list_all}
use Rattle.std.specs.Str.Parse.{digits_value, ParsesUnsigned}
use Rattle.std.proofs.lemmas.Bool.{cases_lt}
use Rattle.std.proofs.lemmas.Str.Parse.{IsNumeralModel, numerals_by_value, parse_digits}
use Rattle.std.proofs.lemmas.Bool.Decides.{nat_tests}
use Rattle.drust_cli.specs.Numbers.{is_digit, is_number, in_range, number_of}

pub own : IsNumeralModel (λ ds. list_all is_digit ds ≡ true) (digits_value 10)
own = numerals_by_value _ (search rules)

-- a number that does not fit is in no range of 64 bits
pub not_in_range : (low high n : ℕ) → high < 2 ^ 64 → 2 ^ 64 ≤ n → None ≡ in_range low high n
not_in_range low high n fits past = grind (arith, nat_tests)

both : (a b : Bool) → (a && b) ≡ true → (a ≡ true) × (b ≡ true)
both true b e = (refl, e)
both false b e = absurd (true≢false (sym e))

some_digit : (n : ℕ) → (nat_le 1 n && nat_le n 20) ≡ true → 0 < n
some_digit n e = grind (arith, nat_tests)

-- where `parse` refuses digits, no range has the number
pub refused : {E : Type 0} (bs : List ℕ) (low high : ℕ) (r : Result ℕ E) (e : E) → r ≡ Err e → ParsesUnsigned 64 10 bs r → true ≡ is_number bs → high < 2 ^ 64 → None ≡ number_of bs low high
refused bs low high r e is parsed digits fits =
    let parts = both (list_all is_digit bs) _ (sym digits) in
    let not_both = parse_digits own 64 bs (Err e) (rw is at parsed) parts.0 in
    let past : None ≡ in_range low high (digits_value 10 bs) = elim (cases_lt (digits_value 10 bs) (2 ^ 64)) [
      | inl lt ↦ absurd (not_both (some_digit (length bs) parts.1, lt))
      | inr ge ↦ not_in_range low high (digits_value 10 bs) fits ge
    ] in
    rw (← digits) past
