-- The text of the first token (this project's rule): the longest that can be one.
use Rattle.std.specs.Prelude.{ℕ, ◌+◌, Bool, false, List, [], ◌∷◌, if◌then◌else◌}
use Rattle.std.specs.List.{prefix_len}
use Rattle.fr_syntax.specs.Words.{is_letter, is_digit, is_word_byte, is_blank}

-- how many blanks come first
abbrev pub blanks : List ℕ → ℕ
blanks bytes = prefix_len is_blank bytes

-- how long the longest text is that begins these bytes and can be a token
abbrev pub text_len : List ℕ → ℕ
text_len [] = 0
text_len (b ∷ bytes) =
    if is_letter b then prefix_len is_word_byte bytes + 1
    else (if is_digit b then prefix_len is_digit bytes + 1
    else 1)

abbrev pub head_is : (ℕ → Bool) → List ℕ → Bool
head_is p [] = false
head_is p (b ∷ bytes) = p b
