-- A number that is read is its decimal text, and a decimal text is read again.
use Rattle.std.proofs.Common.{◌≡◌, ℕ, zero, suc, ◌+◌, ◌*◌, ◌-◌, ◌^◌, ◌<◌, ◌≤◌, Bool, true, false, cond, not, ◌&&◌, eqb, leb, List, [], ◌∷◌, ◌++◌, length, get_or, take, drop, refl, sym, ap, subst, ◌∙◌, arith, rules, Some}
use Rattle.std.specs.Fmt.{decimal}
use Rattle.std.specs.List.{prefix_len, fold}
use Rattle.std.specs.Char.{is_ascii_digit}
use Rattle.std.specs.Str.{all_ascii_digits}
use Rattle.std.proofs.lemmas.Bool.{and_parts, and_from, leb-true, le-leb, ne_eqb, eq-eqb}
use Rattle.std.proofs.lemmas.List.{take-append-drop, take_at, drop_at}
use Rattle.std.proofs.lemmas.Fmt.{digits_decimal, digits_value-decimal, decimal-digits_value, decimal_nonempty, first_decimal, decimal_digit}
use Rattle.std.proofs.lemmas.Str.Parse.{IsNumeralModel, numerals_by_fold, tells_all_ascii_digits}
use Rattle.fr_base.specs.Numbers.{number_value}
use Rattle.journal.specs.OrderReading.{is_plain, number_at}
use Rattle.journal.proofs.Tools.{guard_some}

-- all of these are digits
abbrev pub AllDigits : List ℕ → Type 0
AllDigits ds = all_ascii_digits ds ≡ true

-- the number behind the digits of n
abbrev value_on : ℕ → List ℕ → ℕ
value_on n ds = fold (λ n d. n * 10 + (d - 48)) n ds

own : IsNumeralModel AllDigits number_value
own = numerals_by_fold _ tells_all_ascii_digits value_on (search rules)

-- one digit more in front
one_more : (b : ℕ) (bytes : List ℕ) (n : ℕ) → AllDigits (take n bytes) → (t : Bool) → is_ascii_digit b ≡ t → AllDigits (take (cond t (1 + n) 0) (b ∷ bytes))
one_more b bytes n h true e = let more : 1 + n ≡ suc n = omega arith in rw more (and_from (is_ascii_digit b) (all_ascii_digits (take n bytes)) e h)
one_more b bytes n h false e = refl

-- the digits in front are digits
front_digits : (bytes : List ℕ) → AllDigits (take (prefix_len is_ascii_digit bytes) bytes)
front_digits [] = refl
front_digits (b ∷ bytes) = one_more b bytes (prefix_len is_ascii_digit bytes) (front_digits bytes) (is_ascii_digit b) refl

-- digits, and then none
digits_end : (ds : List ℕ) (c : ℕ) (rest : List ℕ) → AllDigits ds → is_ascii_digit c ≡ false → prefix_len is_ascii_digit (ds ++ c ∷ rest) ≡ length ds
digits_end [] c rest h e = rw e refl
digits_end (d ∷ ds) c rest h e =
    let p = and_parts (is_ascii_digit d) (all_ascii_digits ds) h in
    rw (p.0, digits_end ds c rest p.1 e) (omega arith)

-- plain digits are some
plain_some : (ds : List ℕ) → is_plain ds ≡ true → 0 < length ds
plain_some [] h = absurd cc
plain_some (d ∷ ds) h = omega arith

-- of which a zero comes first only where it is alone
plain_lead : (ds : List ℕ) → is_plain ds ≡ true → get_or ds 0 0 ≡ 48 → length ds ≡ 1
plain_lead [] h z = absurd cc
plain_lead (d ∷ []) h z = refl
plain_lead (d ∷ e ∷ ds) h z = absurd (by (eqb d 48) (eq-eqb d 48 z) h)
  where
    by : (t : Bool) → t ≡ true → not t ≡ true → ⊥
    by true is h = cc
    by false is h = cc

-- and back
plain_from : (ds : List ℕ) → 0 < length ds → (get_or ds 0 0 ≡ 48 → length ds ≡ 1) → is_plain ds ≡ true
plain_from [] some lead = absurd (omega arith)
plain_from (d ∷ []) some lead = refl
plain_from (d ∷ e ∷ ds) some lead = rw (ne_eqb d 48 (λ z. omega (arith, lead z))) refl

-- what is read is the text of the number
pub number_takes : (limit : ℕ) (bytes : List ℕ) (n : ℕ) (rest : List ℕ) → limit < 2 ^ 64 → number_at limit bytes ≡ Some (n, rest) → (bytes ≡ decimal n ++ rest) × (n ≤ limit)
unfolding number_at
number_takes limit bytes n rest small e =
    let k = prefix_len is_ascii_digit bytes in
    let ds = take k bytes in
    let g = guard_some (is_plain ds && leb (number_value ds) limit) (number_value ds, drop k bytes) (n, rest) e in
    let both = and_parts (is_plain ds) (leb (number_value ds) limit) g.0 in
    let le : number_value ds ≤ limit = leb-true (number_value ds) limit both.1 in
    let text : decimal (number_value ds) ≡ ds = decimal-digits_value own ds (front_digits bytes) (plain_some ds both.0) (plain_lead ds both.0) (omega arith) in
    subst (λ (p : ℕ × List ℕ). (bytes ≡ decimal p.0 ++ p.1) × (p.0 ≤ limit)) g.1 (sym (ap (λ x. x ++ drop k bytes) text ∙ take-append-drop k bytes), le)

-- plain digits are read
digits_again : (limit n : ℕ) (ds : List ℕ) (c : ℕ) (rest : List ℕ) → AllDigits ds → is_plain ds ≡ true → number_value ds ≡ n → n ≤ limit → is_ascii_digit c ≡ false → number_at limit (ds ++ c ∷ rest) ≡ Some (n, c ∷ rest)
unfolding number_at
digits_again limit n ds c rest all plain value le end =
    rw (digits_end ds c rest all end, take_at ds (c ∷ rest) (length ds) refl, drop_at ds (c ∷ rest) (length ds) refl, plain, value, le-leb n limit le) refl

-- a zero comes first in a decimal text only where it is alone
decimal_lead : (n : ℕ) → n < 2 ^ 64 → get_or (decimal n) 0 0 ≡ 48 → length (decimal n) ≡ 1
decimal_lead zero small z = ap length (decimal_digit 0 (omega arith))
decimal_lead (suc n) small z = absurd (omega (arith, first_decimal (suc n) (omega arith) small))

-- a decimal text is all digits
pub decimal_all : (n : ℕ) → n < 2 ^ 64 → AllDigits (decimal n)
decimal_all n small = digits_decimal own n small

-- what is written is read, up to a byte that is no digit
pub number_again : (limit n c : ℕ) (rest : List ℕ) → limit < 2 ^ 64 → n ≤ limit → is_ascii_digit c ≡ false → number_at limit (decimal n ++ c ∷ rest) ≡ Some (n, c ∷ rest)
number_again limit n c rest small le end =
    let fits : n < 2 ^ 64 = omega arith in
    digits_again limit n (decimal n) c rest (decimal_all n fits) (plain_from (decimal n) (decimal_nonempty n fits) (decimal_lead n fits)) (digits_value-decimal own n fits) le end
