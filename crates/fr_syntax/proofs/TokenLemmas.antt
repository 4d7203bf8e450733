-- One token more.
use Rattle.std.proofs.Common.{◌≡◌, ℕ, ◌+◌, ◌<◌, ◌≤◌, Bool, true, cond, List, [], ◌∷◌, ◌++◌, length, take, refl, sym, ap, ◌∙◌, subst, arith, length-append, length-take, get_or, ⊎_elim, zero, suc, add-one}
use Rattle.std.specs.Prelude.{Ok}
use Rattle.std.specs.List.{prefix_len}
use Rattle.std.proofs.lemmas.Bool.Decides.{nat_tests}
use Rattle.std.proofs.lemmas.Bool.{cases_lt}
use Rattle.std.proofs.lemmas.List.{get_or-take, get_or_past}
use Rattle.std.proofs.lemmas.List.Sums.{prefix_len_passes}
use Rattle.fr_syntax.specs.declared.token.Token.{Token}
use Rattle.fr_syntax.specs.Words.{is_letter, is_digit, is_word_byte}
use Rattle.fr_syntax.specs.Text.{blanks, text_len, head_is}
use Rattle.fr_syntax.specs.Tokens.{names_after, kind_at, first_text, after_text, IsFirst, Leads}

-- a token more leads one step further
pub Leads-push : (names : List (List ℕ)) (place : ℕ) (bytes : List ℕ) (ts : List Token) (names' : List (List ℕ)) (place' : ℕ) (rest : List ℕ) (t : Token) → Leads names place bytes ts names' place' rest → IsFirst names' place' rest t → Leads names place bytes (ts ++ t ∷ []) (names_after names' (first_text rest)) t.end (after_text rest)
Leads-push names place bytes [] names' place' rest t h first = (
  subst (λ b. IsFirst names place b t) (sym h.2) (subst (λ p. IsFirst names p rest t) (sym h.1) (subst (λ n. IsFirst n place' rest t) (sym h.0) first)),
  (ap (λ n. names_after n (first_text bytes)) h.0 ∙ ap (λ b. names_after names' (first_text b)) h.2, refl, ap after_text h.2),
)
Leads-push names place bytes (u ∷ ts) names' place' rest t h first =
    (h.0, Leads-push (names_after names (first_text bytes)) u.end (after_text bytes) ts names' place' rest t h.1 first)

-- a letter is below 128
letter_lt : (b : ℕ) → is_letter b ≡ true → b < 128
letter_lt b h = grind (arith, nat_tests)

-- and so is a byte of a name
word_lt : (b : ℕ) → is_word_byte b ≡ true → b < 128
word_lt b h = grind (arith, nat_tests)

-- a front that passes the test has bytes below 128 alone
front_lt : (p : ℕ → Bool) → ((b : ℕ) → p b ≡ true → b < 128) → (bs : List ℕ) (i : ℕ) → get_or (take (prefix_len p bs) bs) i 0 < 128
front_lt p below bs i = ⊎_elim within past (cases_lt i (prefix_len p bs))
  where
    within : i < prefix_len p bs → get_or (take (prefix_len p bs) bs) i 0 < 128
    within lt = rw (get_or-take (prefix_len p bs) bs i 0 lt) (below (get_or bs i 0) (prefix_len_passes p bs i 0 lt))

    past : prefix_len p bs ≤ i → get_or (take (prefix_len p bs) bs) i 0 < 128
    past le =
        let behind : length (take (prefix_len p bs) bs) ≤ i = omega (arith, length-take (prefix_len p bs) bs) in
        let none : get_or (take (prefix_len p bs) bs) i 0 ≡ 0 = get_or_past (take (prefix_len p bs) bs) i 0 behind in
        omega arith

-- a text begins like the bytes that it is the front of
head_take : (p : ℕ → Bool) (n b : ℕ) (bs text : List ℕ) → 0 < n → text ≡ take n (b ∷ bs) → head_is p text ≡ p b
head_take p zero b bs text lt e = absurd (omega arith)
head_take p (suc n) b bs text lt e = ap (head_is p) e

-- a text that begins with a letter has bytes below 128 alone
letter_text_lt : (b : ℕ) (bs : List ℕ) (i : ℕ) → is_letter b ≡ true → get_or (b ∷ take (prefix_len is_word_byte bs) bs) i 0 < 128
letter_text_lt b bs zero l = letter_lt b l
letter_text_lt b bs (suc i) l = front_lt is_word_byte word_lt bs i

-- bytes that are there have a first text
some_len : (b : ℕ) (bs : List ℕ) → 0 < text_len (b ∷ bs)
some_len b bs = grind arith

-- the first text of some bytes is ASCII where it begins with a letter
ascii_text : (rest text : List ℕ) → text ≡ take (text_len rest) rest → head_is is_letter text ≡ true → (i : ℕ) → get_or text i 0 < 128
ascii_text [] text e h i = rw e (omega arith)
ascii_text (b ∷ bs) text e h i =
    let l : is_letter b ≡ true = sym (head_take is_letter (text_len (b ∷ bs)) b bs text (some_len b bs) e) ∙ h in
    let w = prefix_len is_word_byte bs in
    let e' : text ≡ b ∷ take w bs = e ∙ ap (λ v. take (cond v (w + 1) (cond (is_digit b) (prefix_len is_digit bs + 1) 1)) (b ∷ bs)) l ∙ ap (λ n. take n (b ∷ bs)) (add-one w) in
    subst (λ x. get_or x i 0 < 128) (sym e') (letter_text_lt b bs i l)

-- a text adds one name at most
names_more : (names : List (List ℕ)) (text : List ℕ) → length (names_after names text) ≤ length names + 1
names_more names text = grind (arith, length-append)

-- there are no more names than bytes read
pub few_more : (names names' : List (List ℕ)) (text : List ℕ) (place skipped : ℕ) → length names ≤ place → 0 < length text → names' ≡ names_after names text → length names' ≤ place + skipped + length text
few_more names names' text place skipped few some e = omega (arith, names_more names text, ap length e)

-- one token more, where the code has these values
pub step : (bytes : List ℕ) (items items' : List Token) (names names' : List (List ℕ)) (place : ℕ) (rest text after : List ℕ) (t : Token) → Leads [] 0 bytes items names place rest → text ≡ first_text rest → after ≡ after_text rest → 0 < length text → t.start ≡ place + blanks rest → t.end ≡ t.start + length text → kind_at names t.start text ≡ Ok t.kind → names' ≡ names_after names text → items' ≡ items ++ t ∷ [] → Leads [] 0 bytes items' names' t.end after
step bytes items items' names names' place rest text after t h et ea some es ee ek en ei =
    let first : IsFirst names place rest t = record {
      some = subst (λ x. 0 < length x) et some;
      start = es;
      end = ee ∙ ap (λ x. t.start + length x) et;
      kind = ap (kind_at names t.start) (sym et) ∙ ek;
    } in
    rw (ei, en, ea, et) (Leads-push [] 0 bytes items names place rest t h first)

-- the same, where the code has these values
pub ascii_front : (rest text : List ℕ) (n : ℕ) → text ≡ take n rest → n ≡ text_len rest → head_is is_letter text ≡ true → (i : ℕ) → get_or text i 0 < 128
ascii_front rest text n e en = ascii_text rest text (e ∙ ap (λ n. take n rest) en)
