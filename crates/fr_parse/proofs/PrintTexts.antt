-- The texts that stand for tokens: words and marks, names, and numbers in decimal digits.
use Rattle.std.proofs.Common.{◌≡◌, ℕ, suc, ◌+◌, ◌*◌, ◌-◌, ◌<◌, ◌≤◌, ◌^◌, pos, Bool, true, false, cond, not, ◌||◌, ◌&&◌, nat_lt, nat_le, nat_eq, ◌==◌, List, [], ◌∷◌, ◌++◌, length, length-append, get_or, ◌⊎◌, inl, inr, refl, sym, ap, ◌∙◌, subst, arith, codes}
use Rattle.std.specs.Prelude.{Some, None, Ok, decimal, is_some}
use Rattle.std.specs.List.{prefix_len, position_or_len, list_any, fold}
use Rattle.std.specs.Int.{IsInRange}
use Rattle.std.specs.Str.{bytes_eq}
use Rattle.std.proofs.lemmas.Bool.Decides.{nat_tests}
use Rattle.std.proofs.lemmas.Fmt.{digits_decimal, digits_value-decimal, decimal_is_IsNumeral}
use Rattle.std.proofs.lemmas.List.{get_or_append_left}
use Rattle.std.proofs.lemmas.List.Sums.{prefix_len_is, prefix_len_passes}
use Rattle.std.proofs.lemmas.Slice.Eq.{bytes_eq-Decides}
use Rattle.std.proofs.lemmas.Str.Parse.{IsNumeralModel, numerals_by_fold, tells_by_index}
use Rattle.std.proofs.Math.Seq.{get_or-append_seam}
use Rattle.fr_terms.specs.Terms.{Text}
use Rattle.fr_syntax.specs.Arena.{text_of}
use Rattle.fr_syntax.specs.Names.{with_text}
use Rattle.fr_syntax.specs.Text.{text_len, head_is}
use Rattle.fr_base.specs.Numbers.{number_value}
use Rattle.fr_syntax.specs.Tokens.{kind_or, kind_at, free_at, names_after}
use Rattle.fr_syntax.specs.Words.{fixed_of, word_of, mark_of, is_letter, is_digit, is_word_byte, is_blank}
use Rattle.fr_syntax.specs.declared.kind.TokenKind.{TokenKind}
use Rattle.fr_syntax.specs.declared.kind.TokenKind.TheVariants.{Name, Number}
use Rattle.fr_parse.specs.Canonical.{IsName}
use Rattle.fr_parse.proofs.PrintWords.{Fits}

-- the names that were there stay, under their numbers
pub record Extends (names more : List Text) : Type 0 where
  pub longer : length names ≤ length more
  pub same : (n : ℕ) → n < length names → text_of more n ≡ text_of names n

-- a text is a token, which fits it among these names and all that come after them
pub record IsKnown (names : List Text) (place : ℕ) (w : Text) : Type 0 where
  pub kind : TokenKind
  pub is : kind_at names place w ≡ Ok kind
  pub fits : (more : List Text) → Extends (names_after names w) more → Fits more w kind

-- a text that stands for a token: it begins with no blank, it is the first text of the bytes where a blank follows it, and it is known
pub record IsText (w : Text) : Type 0 where
  pub some : 0 < length w
  pub start : head_is is_blank w ≡ false
  pub whole : (b : ℕ) (rest : List ℕ) → is_word_byte b ≡ false → is_digit b ≡ false → text_len (w ++ b ∷ rest) ≡ length w
  pub known : (names : List Text) (place : ℕ) → IsKnown names place w

-- BYTES

-- a letter is no digit and no blank, a digit is no blank
letter_digit : (b : ℕ) → is_letter b ≡ true → is_digit b ≡ false
letter_digit b h = grind (arith, nat_tests)

-- a letter is no blank
letter_blank : (b : ℕ) → is_letter b ≡ true → is_blank b ≡ false
letter_blank b h = grind (arith, nat_tests)

-- a digit is no blank
digit_blank : (b : ℕ) → IsInRange 48 57 b → is_blank b ≡ false
digit_blank b h = grind (arith, nat_tests)

-- these bytes are digits
digit_is : (b : ℕ) → IsInRange 48 57 b → is_digit b ≡ true
digit_is b h = grind (arith, nat_tests)

-- a digit is no letter
digit_letter : (b : ℕ) → IsInRange 48 57 b → is_letter b ≡ false
digit_letter b h = grind (arith, nat_tests)

-- a front that passes a test ends at a byte that doesn't
until : (p : ℕ → Bool) (cs : List ℕ) (b : ℕ) (rest : List ℕ) → prefix_len p cs ≡ length cs → p b ≡ false → prefix_len p (cs ++ b ∷ rest) ≡ length cs
until p cs b rest all stop =
    prefix_len_is p (cs ++ b ∷ rest) (length cs) 0 (omega (arith, length-append cs (b ∷ rest)))
    (λ k lt. ap p (get_or_append_left cs (b ∷ rest) 0 k lt) ∙ prefix_len_passes p cs k 0 (omega (arith, lt, all)))
    (λ lt. ap p (get_or-append_seam cs b rest 0) ∙ stop)

-- one of two
second : {A : Type 0} (b : Bool) (x y r : A) → b ≡ false → y ≡ r → cond b x y ≡ r
second true x y r h e = absurd cc
second false x y r h e = e

-- the first of two
pub first : {A : Type 0} (b : Bool) (x y r : A) → b ≡ true → x ≡ r → cond b x y ≡ r
first true x y r h e = e
first false x y r h e = absurd cc

-- how long a text is that begins with a letter, with a digit, and with neither
word_len : (c : ℕ) (cs : List ℕ) (b : ℕ) (rest : List ℕ) → is_letter c ≡ true → prefix_len is_word_byte cs ≡ length cs → is_word_byte b ≡ false → text_len (c ∷ cs ++ b ∷ rest) ≡ length (c ∷ cs)
word_len c cs b rest l all stop = first (is_letter c) _ _ (length (c ∷ cs)) l (omega (arith, until is_word_byte cs b rest all stop))

-- how long digits are
digits_len : (c : ℕ) (cs : List ℕ) (b : ℕ) (rest : List ℕ) → is_letter c ≡ false → is_digit c ≡ true → prefix_len is_digit cs ≡ length cs → is_digit b ≡ false → text_len (c ∷ cs ++ b ∷ rest) ≡ length (c ∷ cs)
digits_len c cs b rest l d all stop = second (is_letter c) _ _ (length (c ∷ cs)) l (first (is_digit c) _ _ (length (c ∷ cs)) d (omega (arith, until is_digit cs b rest all stop)))

-- how long a mark is
mark_len : (c b : ℕ) (rest : List ℕ) → is_letter c ≡ false → is_digit c ≡ false → text_len (c ∷ b ∷ rest) ≡ 1
mark_len c b rest l d = second (is_letter c) _ _ 1 l (second (is_digit c) _ _ 1 d refl)

-- DIGITS

-- digits alone
abbrev pub AreDigits : List ℕ → Type 0
AreDigits ds = (i : ℕ) → i < length ds → IsInRange 48 57 (get_or ds i 0)

-- what digits mean
model : IsNumeralModel AreDigits number_value
model = numerals_by_fold AreDigits tells_by_index (λ n ds. fold (λ n d. n * 10 + (d - 48)) n ds) (record { empty = λ n. refl; more = λ n c cs h. refl })

-- a decimal number has digits alone
decimal_digits : (n : ℕ) → n < 2 ^ 63 → AreDigits (decimal n)
decimal_digits n lt = digits_decimal model n (omega (arith, lt))

-- they mean the number
decimal_value : (n : ℕ) → n < 2 ^ 63 → number_value (decimal n) ≡ n
decimal_value n lt = digits_value-decimal model n (omega (arith, lt))

-- there is one at least
decimal_some : (n : ℕ) → n < 2 ^ 63 → 0 < length (decimal n)
decimal_some n lt = (decimal_is_IsNumeral n (omega (arith, lt))).0.0

-- digits begin with a digit
digits_head : (ds : List ℕ) → 0 < length ds → AreDigits ds → head_is is_digit ds ≡ true
digits_head [] some h = absurd (omega (arith, some))
digits_head (c ∷ cs) some h = digit_is c (h 0 (omega arith))

-- a decimal number begins with a digit
decimal_head : (n : ℕ) → n < 2 ^ 63 → head_is is_digit (decimal n) ≡ true
decimal_head n lt = digits_head (decimal n) (decimal_some n lt) (decimal_digits n lt)

-- so a text that doesn't is none
no_number : (w : Text) (n : ℕ) → head_is is_digit w ≡ false → w ≡ decimal n → n < 2 ^ 63 → ⊥
no_number w n h e lt = let d : head_is is_digit w ≡ true = ap (head_is is_digit) e ∙ decimal_head n lt in cc (h, d)

-- a text that begins with a digit is no word
differs : (c : ℕ) (cs : List ℕ) (d : ℕ) (ds : List ℕ) → c < d → bytes_eq (c ∷ cs) (d ∷ ds) ≡ false
differs c cs d ds lt = let e : nat_eq c d ≡ false = grind (arith, nat_tests) in ap (λ b. b && bytes_eq cs ds) e

-- it is none of the fifteen words
no_word : (c : ℕ) (cs : List ℕ) → c ≤ 57 → word_of (c ∷ cs) ≡ None
no_word c cs le =
    second _ _ _ None (differs c cs 108 (codes "et") (omega (arith, le)))
    (second _ _ _ None (differs c cs 109 (codes "ut") (omega (arith, le)))
    (second _ _ _ None (differs c cs 98 (codes "ox") (omega (arith, le)))
    (second _ _ _ None (differs c cs 112 (codes "rint") (omega (arith, le)))
    (second _ _ _ None (differs c cs 115 (codes "pawn") (omega (arith, le)))
    (second _ _ _ None (differs c cs 106 (codes "oin") (omega (arith, le)))
    (second _ _ _ None (differs c cs 112 (codes "ar") (omega (arith, le)))
    (second _ _ _ None (differs c cs 109 (codes "utex") (omega (arith, le)))
    (second _ _ _ None (differs c cs 108 (codes "ock") (omega (arith, le)))
    (second _ _ _ None (differs c cs 97 (codes "s") (omega (arith, le)))
    (second _ _ _ None (differs c cs 100 (codes "up") (omega (arith, le)))
    (second _ _ _ None (differs c cs 105 (codes "f") (omega (arith, le)))
    (second _ _ _ None (differs c cs 101 (codes "lse") (omega (arith, le)))
    (second _ _ _ None (differs c cs 119 (codes "hile") (omega (arith, le)))
    (second _ _ _ None (differs c cs 102 (codes "n") (omega (arith, le))) refl))))))))))))))

-- and no digit is a mark
is_not : (c d : ℕ) → IsInRange 48 57 c → (d < 48) ⊎ (57 < d) → (c == d) ≡ false
is_not c d h out = grind (arith, nat_tests)

-- it is none of the eleven marks
no_mark : (c : ℕ) → IsInRange 48 57 c → mark_of c ≡ None
no_mark c h =
    second _ _ _ None (is_not c 123 h (inr (omega arith)))
    (second _ _ _ None (is_not c 125 h (inr (omega arith)))
    (second _ _ _ None (is_not c 40 h (inl (omega arith)))
    (second _ _ _ None (is_not c 41 h (inl (omega arith)))
    (second _ _ _ None (is_not c 59 h (inr (omega arith)))
    (second _ _ _ None (is_not c 44 h (inl (omega arith)))
    (second _ _ _ None (is_not c 61 h (inr (omega arith)))
    (second _ _ _ None (is_not c 38 h (inl (omega arith)))
    (second _ _ _ None (is_not c 42 h (inl (omega arith)))
    (second _ _ _ None (is_not c 43 h (inl (omega arith)))
    (second _ _ _ None (is_not c 45 h (inl (omega arith))) refl))))))))))

-- so digits are neither
digits_free : (ds : List ℕ) → 0 < length ds → AreDigits ds → fixed_of ds ≡ None
digits_free [] some h = absurd (omega (arith, some))
digits_free (c ∷ []) some h = second (is_letter c) _ _ None (digit_letter c (h 0 (omega arith))) (no_mark c (h 0 (omega arith)))
digits_free (c ∷ d ∷ ds) some h = no_word c (d ∷ ds) (h 0 (omega arith)).1

-- WHAT A TEXT IS

-- a word or a mark
fixed_known : (names : List Text) (place : ℕ) (w : Text) (k : TokenKind) → fixed_of w ≡ Some k → head_is is_digit w ≡ false → (IsName w → ⊥) → IsKnown names place w
fixed_known names place w k e digit name = record {
  kind = k;
  is = ap (λ o. kind_or o (free_at names place w)) e;
  fits = λ more ext. record {
    fixed = λ f also. let both : Some k ≡ Some f = sym e ∙ also in cc (both);
    named = λ h. absurd (name h);
    number = λ n is lt. absurd (no_number w n digit is lt);
  };
}

-- a name is no word
name_free : (w : Text) → IsName w → fixed_of w ≡ None
name_free [] h = h.free
name_free (c ∷ []) h = first (is_letter c) _ _ None h.first h.free
name_free (c ∷ d ∷ w) h = h.free

-- a text that begins with a letter begins with no digit
name_digit : (w : Text) → head_is is_letter w ≡ true → head_is is_digit w ≡ false
name_digit [] h = refl
name_digit (c ∷ w) h = letter_digit c h

-- a text among texts, or behind them
record IsPlaced (names more : List Text) (w : Text) : Type 0 where
  below : position_or_len (bytes_eq w) names < length more
  same : text_of more (position_or_len (bytes_eq w) names) ≡ w

-- where it is one of them, it stands where it is found first
found : (w : Text) (names : List Text) → list_any (bytes_eq w) names ≡ true → IsPlaced names names w
found w [] h = absurd cc
found w (x ∷ names) h = by (bytes_eq w x) refl (found w names)
  where
    by : (b : Bool) → bytes_eq w x ≡ b → (list_any (bytes_eq w) names ≡ true → IsPlaced names names w) → IsPlaced (x ∷ names) (x ∷ names) w
    by true e again = let zero_is : position_or_len (bytes_eq w) (x ∷ names) ≡ 0 = ap (λ b. cond (not b) (1 + position_or_len (bytes_eq w) names) 0) e in
        record {
          below = omega (arith, zero_is);
          same = ap (text_of (x ∷ names)) zero_is ∙ sym ((bytes_eq-Decides w x).0 e);
        }
    by false e again =
        let next : position_or_len (bytes_eq w) (x ∷ names) ≡ suc (position_or_len (bytes_eq w) names) = ap (λ b. cond (not b) (1 + position_or_len (bytes_eq w) names) 0) e ∙ omega arith in
        let more = again (sym (ap (λ b. b || list_any (bytes_eq w) names) e) ∙ h) in
        record { below = omega (arith, next, more.below); same = ap (text_of (x ∷ names)) next ∙ more.same }

-- where it is none of them, it stands behind all
position_last : (w : Text) (names : List Text) → list_any (bytes_eq w) names ≡ false → position_or_len (bytes_eq w) names ≡ length names
position_last w [] h = refl
position_last w (x ∷ names) h = by (bytes_eq w x) refl (position_last w names)
  where
    by : (b : Bool) → bytes_eq w x ≡ b → (list_any (bytes_eq w) names ≡ false → position_or_len (bytes_eq w) names ≡ length names) → position_or_len (bytes_eq w) (x ∷ names) ≡ length (x ∷ names)
    by true e again = let bad = sym (ap (λ b. b || list_any (bytes_eq w) names) e) ∙ h in absurd cc
    by false e again = ap (λ b. cond (not b) (1 + position_or_len (bytes_eq w) names) 0) e ∙ omega (arith, again (sym (ap (λ b. b || list_any (bytes_eq w) names) e) ∙ h))

-- so it stands there once it has joined the texts
placed : (w : Text) (names : List Text) → IsPlaced names (with_text names w) w
placed w names = by (list_any (bytes_eq w) names) refl
  where
    by : (b : Bool) → list_any (bytes_eq w) names ≡ b → IsPlaced names (with_text names w) w
    by true e = subst (λ more. IsPlaced names more w) (sym (ap (λ b. cond b names (names ++ w ∷ [])) e)) (found w names e)
    by false e =
        let last = position_last w names e in
        subst (λ more. IsPlaced names more w) (sym (ap (λ b. cond b names (names ++ w ∷ [])) e))
        (record { below = omega (arith, last, length-append names (w ∷ [])); same = ap (text_of (names ++ w ∷ [])) last ∙ get_or-append_seam names w [] [] })

-- a name joins the names
name_after : (names : List Text) (w : Text) → IsName w → names_after names w ≡ with_text names w
name_after names w h = second (is_some (fixed_of w)) names _ (with_text names w) (ap (λ o. is_some o) (name_free w h)) (first (head_is is_letter w) (with_text names w) names (with_text names w) h.first refl)

-- and stands there under its number
pub name_there : (names more : List Text) (w : Text) → IsName w → Extends (names_after names w) more → text_of more (position_or_len (bytes_eq w) names) ≡ w
name_there names more w h ext =
    let at = placed w names in
    let n = position_or_len (bytes_eq w) names in
    ext.same n (subst (λ l. n < length l) (sym (name_after names w h)) at.below) ∙ ap (λ l. text_of l n) (name_after names w h) ∙ at.same

-- a name is known
name_known : (names : List Text) (place : ℕ) (w : Text) → IsName w → IsKnown names place w
name_known names place w h =
    let n = position_or_len (bytes_eq w) names in
    let short : nat_le (length w) 32 ≡ true = let le = h.short in grind (arith, nat_tests) in
    record {
      kind = Name n;
      is = ap (λ o. kind_or o (free_at names place w)) (name_free w h) ∙ first (head_is is_letter w) _ _ (Ok (Name n)) h.first (first (nat_le (length w) 32) _ _ (Ok (Name n)) short refl);
      fits = λ more ext. record {
        fixed = λ f also. let bad : None ≡ Some f = sym (name_free w h) ∙ also in absurd cc;
        named = λ _. (n, name_there names more w h ext, refl);
        number = λ m is lt. absurd (no_number w m (name_digit w h.first) is lt);
      };
    }

-- digits
digits_letter : (ds : List ℕ) → 0 < length ds → AreDigits ds → head_is is_letter ds ≡ false
digits_letter [] some h = refl
digits_letter (c ∷ cs) some h = digit_letter c (h 0 (omega arith))

-- digits are known
digits_known : (names : List Text) (place : ℕ) (ds : Text) (n : ℕ) → 0 < length ds → AreDigits ds → number_value ds ≡ n → n < 2 ^ 63 → IsKnown names place ds
digits_known names place ds n some h value lt =
    let free = digits_free ds some h in
    let letter = digits_letter ds some h in
    let small : nat_lt (number_value ds) (2 ^ 63) ≡ true = ap (λ v. nat_lt v (2 ^ 63)) value ∙ grind (arith, nat_tests) in
    record {
      kind = Number (pos n);
      is = ap (λ o. kind_or o (free_at names place ds)) free
          ∙ second (head_is is_letter ds) _ _ (Ok (Number (pos n))) letter
          (first (head_is is_digit ds) _ _ (Ok (Number (pos n))) (digits_head ds some h) (first (nat_lt (number_value ds) (2 ^ 63)) _ _ (Ok (Number (pos n))) small (ap (λ v. Ok (Number (pos v))) value)));
      fits = λ more ext. record {
        fixed = λ f also. let bad : None ≡ Some f = sym free ∙ also in absurd cc;
        named = λ name. let bad : head_is is_letter ds ≡ true = name.first in absurd (cc (bad, letter));
        number = λ m is less. ap (λ v. Number (pos v)) (sym value ∙ ap number_value is ∙ decimal_value m less);
      };
    }

-- TEXTS OF TOKENS

-- a word of the language
pub word_text : (c : ℕ) (cs : List ℕ) (k : TokenKind) → is_letter c ≡ true → prefix_len is_word_byte cs ≡ length cs → fixed_of (c ∷ cs) ≡ Some k → IsText (c ∷ cs)
word_text c cs k l all e = record {
  some = omega arith;
  start = letter_blank c l;
  whole = λ b rest word digit. word_len c cs b rest l all word;
  known = λ names place. fixed_known names place (c ∷ cs) k e (letter_digit c l) (λ h. let bad : None ≡ Some k = sym (name_free (c ∷ cs) h) ∙ e in absurd cc);
}

-- a mark
pub mark_text : (c : ℕ) (k : TokenKind) → is_letter c ≡ false → is_digit c ≡ false → is_blank c ≡ false → fixed_of (c ∷ []) ≡ Some k → IsText (c ∷ [])
mark_text c k l d blank e = record {
  some = omega arith;
  start = blank;
  whole = λ b rest word digit. mark_len c b rest l d;
  known = λ names place. fixed_known names place (c ∷ []) k e d (λ h. let bad : is_letter c ≡ true = h.first in absurd (cc (bad, l)));
}

-- a name
pub name_text : (w : Text) → IsName w → IsText w
name_text [] h = absurd (let bad : false ≡ true = h.first in cc)
name_text (c ∷ cs) h = record {
  some = omega arith;
  start = letter_blank c h.first;
  whole = λ b rest word digit. word_len c cs b rest h.first (prefix_len_is is_word_byte cs (length cs) 0 (omega arith) (λ k lt. h.bytes (suc k) 0 (omega (arith, lt))) (λ lt. absurd (omega (arith, lt)))) word;
  known = λ names place. name_known names place (c ∷ cs) h;
}

-- digits of a number that is small enough
digits_text : (ds : List ℕ) (n : ℕ) → 0 < length ds → AreDigits ds → number_value ds ≡ n → n < 2 ^ 63 → IsText ds
digits_text [] n some h value lt = absurd (omega (arith, some))
digits_text (c ∷ cs) n some h value lt =
    let c_is = h 0 (omega arith) in
    record {
      some = some;
      start = digit_blank c c_is;
      whole = λ b rest word digit. digits_len c cs b rest (digit_letter c c_is) (digit_is c c_is) (prefix_len_is is_digit cs (length cs) 0 (omega arith) (λ k lt. digit_is (get_or cs k 0) (h (suc k) (omega (arith, lt)))) (λ lt. absurd (omega (arith, lt)))) digit;
      known = λ names place. digits_known names place (c ∷ cs) n some h value lt;
    }

-- a number
pub number_text : (n : ℕ) → n < 2 ^ 63 → IsText (decimal n)
number_text n lt = digits_text (decimal n) n (decimal_some n lt) (decimal_digits n lt) (decimal_value n lt) lt
