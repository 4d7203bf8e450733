-- The reading of clean words in the steps of `clap`'s walk, and that it is the reading of words.
use Rattle.std.proofs.Common.{◌≡◌, ◌∙◌, ℕ, ◌++◌, ◌&&◌, ◌==◌, Bool, true, false, cond, List, [], ◌∷◌, Option, Some, None, is_some, refl, sym, ap, true≢false}
use Rattle.std.specs.List.{list_all}
use Rattle.clap.specs.Lexer.{long_of}
use Rattle.drust_cli.specs.Words.{is_clean, has_name}
use Rattle.drust_cli.specs.Reading.{Given, Text, has, is_known, put, put_or_wait, option_met, option_word, begins_with_hyphen, word_met, ended}
use Rattle.drust_cli.specs.Reading.{read as read_words}

abbrev pub flag : List Text → Option (Text × Option Text) → Given → (Option Text → Given → Option Given) → Option Given
flag names l given next = option_met names l given next

abbrev pub turn : List Text → Option Text → Text → Given → (Option Text → Given → Option Given) → Option Given
turn names None word given next = flag names (long_of word) given next
turn names (Some name) word given next = cond (is_some (long_of word)) None (put name word given next)

unfoldable pub read : List Text → Option Text → List Text → Given → Option Given
read names waits [] given = ended waits given
read names waits (word ∷ rest) given = turn names waits word given (λ w g. read names w rest g)

-- ---- a clean word

both_bytes : (a b : ℕ) (rest : Text) (x y : Bool) → (a == 45) ≡ x → (b == 45) ≡ y → cond x (y && has_name rest) true ≡ true
    → (long_of (a ∷ b ∷ rest) ≡ option_word (a ∷ b ∷ rest)) × (is_some (long_of (a ∷ b ∷ rest)) ≡ begins_with_hyphen (a ∷ b ∷ rest))
both_bytes a b rest false y p q clean = (rw p refl, rw p refl)
both_bytes a b rest true false p q clean = absurd (true≢false (sym clean))
both_bytes a b [] true true p q clean = absurd (true≢false (sym clean))
both_bytes a b (c ∷ rest) true true p q clean = (rw (p, q) refl, rw (p, q) refl)

one_byte : (a : ℕ) (x : Bool) → (a == 45) ≡ x → cond x false true ≡ true
    → (long_of (a ∷ []) ≡ option_word (a ∷ [])) × (is_some (long_of (a ∷ [])) ≡ begins_with_hyphen (a ∷ []))
one_byte a true p clean = absurd (true≢false (sym clean))
one_byte a false p clean = (rw p refl, rw p refl)

clean_word : (w : Text) → is_clean w ≡ true → (long_of w ≡ option_word w) × (is_some (long_of w) ≡ begins_with_hyphen w)
clean_word [] e = (refl, refl)
clean_word (a ∷ []) e = one_byte a (a == 45) refl e
clean_word (a ∷ b ∷ rest) e = both_bytes a b rest (a == 45) (b == 45) refl refl e

clean_turn : (names : List Text) (waits : Option Text) (w : Text) (given : Given) (N M : Option Text → Given → Option Given) → is_clean w ≡ true → N ≡ M
    → word_met names waits w given N ≡ turn names waits w given M
clean_turn names None w given N M e is = ap (λ l. option_met names l given N) (sym (clean_word w e).0) ∙ ap (λ n. option_met names (long_of w) given n) is
clean_turn names (Some name) w given N M e is =
    ap (λ b. cond b None (put name w given N)) (sym (clean_word w e).1) ∙ ap (λ n. cond (is_some (long_of w)) None (put name w given n)) is

both : (a b : Bool) → (a && b) ≡ true → (a ≡ true) × (b ≡ true)
both true b e = (refl, e)
both false b e = absurd (true≢false (sym e))

-- both read clean words alike
pub clean_read : (names : List Text) (words : List Text) → list_all is_clean words ≡ true → (waits : Option Text) (given : Given) → read_words names waits words given ≡ read names waits words given
unfolding read read_words
clean_read names [] e waits given = refl
clean_read names (w ∷ ws) e waits given =
    let parts = both (is_clean w) (list_all is_clean ws) e in
    clean_turn names waits w given _ _ parts.0 (λ i o g. clean_read names ws parts.1 o g i)

-- ---- a word that isn't clean

-- whatever comes behind it, there is no reading
abbrev IsBad : List Text → Text → Type 0
IsBad names w = (waits : Option Text) (given : Given) (N : Option Text → Given → Option Given) → word_met names waits w given N ≡ None

lone : (a b : ℕ) (rest : Text) (names : List Text) → is_known names [] ≡ false → (x y : Bool) → (a == 45) ≡ x → (b == 45) ≡ y → cond x (y && has_name rest) true ≡ false → IsBad names (a ∷ b ∷ rest)
lone a b rest names unnamed false y p q bad waits given N = absurd (true≢false bad)
lone a b rest names unnamed true false p q bad None given N = rw (p, q) refl
lone a b [] names unnamed true true p q bad None given N = rw (p, q) (rw unnamed refl)
lone a b (c ∷ rest) names unnamed true true p q bad waits given N = absurd (true≢false bad)
lone a b rest names unnamed true y p q bad (Some name) given N = rw p refl

one : (a : ℕ) (names : List Text) (x : Bool) → (a == 45) ≡ x → cond x false true ≡ false → IsBad names (a ∷ [])
one a names false p bad waits given N = absurd (true≢false bad)
one a names true p bad None given N = refl
one a names true p bad (Some name) given N = rw p refl

bad_word : (w : Text) (names : List Text) → is_known names [] ≡ false → is_clean w ≡ false → IsBad names w
bad_word [] names unnamed e waits given N = absurd (true≢false e)
bad_word (a ∷ []) names unnamed e waits given N = one a names (a == 45) refl e waits given N
bad_word (a ∷ b ∷ rest) names unnamed e waits given N = lone a b rest names unnamed (a == 45) (b == 45) refl refl e waits given N

-- where nothing is read behind it, a word makes nothing readable
none_put : (name value : Text) (given : Given) (N : Option Text → Given → Option Given) → ((o : Option Text) (g : Given) → N o g ≡ None) → put name value given N ≡ None
none_put name value given N none = by (has name given)
  where
    by : (b : Bool) → cond b None (N None (given ++ (name, value) ∷ [])) ≡ None
    by true = refl
    by false = none None (given ++ (name, value) ∷ [])

none_option : (names : List Text) (l : Option (Text × Option Text)) (given : Given) (N : Option Text → Given → Option Given) → ((o : Option Text) (g : Given) → N o g ≡ None) → option_met names l given N ≡ None
none_option names None given N none = refl
none_option names (Some p) given N none = by (is_known names p.0) p.1
  where
    by : (b : Bool) (v : Option Text) → cond b (put_or_wait p.0 v given N) None ≡ None
    by false v = refl
    by true None = none (Some p.0) given
    by true (Some v) = none_put p.0 v given N none

none_word : (names : List Text) (waits : Option Text) (w : Text) (given : Given) (N : Option Text → Given → Option Given) → ((o : Option Text) (g : Given) → N o g ≡ None) → word_met names waits w given N ≡ None
none_word names None w given N none = none_option names (option_word w) given N none
none_word names (Some name) w given N none = by (begins_with_hyphen w)
  where
    by : (b : Bool) → cond b None (put name w given N) ≡ None
    by true = refl
    by false = none_put name w given N none

-- words of which one isn't clean have no reading
pub unclean_read : (names : List Text) → is_known names [] ≡ false → (words : List Text) → list_all is_clean words ≡ false → (waits : Option Text) (given : Given) → read_words names waits words given ≡ None
unfolding read_words
unclean_read names unnamed [] e waits given = absurd (true≢false e)
unclean_read names unnamed (w ∷ ws) e waits given = by (is_clean w) refl (λ rest o g. unclean_read names unnamed ws rest o g)
  where
    by : (b : Bool) → is_clean w ≡ b → (list_all is_clean ws ≡ false → (o : Option Text) (g : Given) → read_words names o ws g ≡ None) → word_met names waits w given (λ o g. read_words names o ws g) ≡ None
    by false bad later = bad_word w names unnamed bad waits given (λ o g. read_words names o ws g)
    by true clean later = none_word names waits w given (λ o g. read_words names o ws g) (later (sym (ap (λ b. b && list_all is_clean ws) clean) ∙ e))
