-- Bytes, words and marks of the language (this project's rule).
use Rattle.std.specs.Prelude.{ℕ, Bool, ◌||◌, ◌&&◌, ◌==◌, nat_le, List, [], ◌∷◌, Option, Some, None, if◌then◌else◌, codes}
use Rattle.std.specs.Str.{bytes_eq}
use Rattle.fr_syntax.specs.declared.kind.TokenKind.{TokenKind}
use Rattle.fr_syntax.specs.declared.kind.TokenKind.TheVariants.{LetWord, MutWord, BoxWord, PrintWord, SpawnWord, JoinWord, ParWord, MutexWord, LockWord, AsWord, DupWord, IfWord, ElseWord, WhileWord, FnWord, OpenBrace, CloseBrace, OpenParen, CloseParen, Semicolon, Comma, Equals, Amp, Star, Plus, Minus}

-- A to Z, a to z and _
abbrev pub is_letter : ℕ → Bool
is_letter b = (nat_le 65 b && nat_le b 90) || (nat_le 97 b && nat_le b 122) || (b == 95)

abbrev pub is_digit : ℕ → Bool
is_digit b = nat_le 48 b && nat_le b 57

abbrev pub is_word_byte : ℕ → Bool
is_word_byte b = is_letter b || is_digit b

abbrev pub is_blank : ℕ → Bool
is_blank b = (b == 32) || (b == 9) || (b == 13) || (b == 10)

abbrev pub word_of : List ℕ → Option TokenKind
word_of text =
    if bytes_eq text (codes "let") then Some LetWord
    else (if bytes_eq text (codes "mut") then Some MutWord
    else (if bytes_eq text (codes "box") then Some BoxWord
    else (if bytes_eq text (codes "print") then Some PrintWord
    else (if bytes_eq text (codes "spawn") then Some SpawnWord
    else (if bytes_eq text (codes "join") then Some JoinWord
    else (if bytes_eq text (codes "par") then Some ParWord
    else (if bytes_eq text (codes "mutex") then Some MutexWord
    else (if bytes_eq text (codes "lock") then Some LockWord
    else (if bytes_eq text (codes "as") then Some AsWord
    else (if bytes_eq text (codes "dup") then Some DupWord
    else (if bytes_eq text (codes "if") then Some IfWord
    else (if bytes_eq text (codes "else") then Some ElseWord
    else (if bytes_eq text (codes "while") then Some WhileWord
    else (if bytes_eq text (codes "fn") then Some FnWord
    else None))))))))))))))

abbrev pub mark_of : ℕ → Option TokenKind
mark_of b =
    if b == 123 then Some OpenBrace
    else (if b == 125 then Some CloseBrace
    else (if b == 40 then Some OpenParen
    else (if b == 41 then Some CloseParen
    else (if b == 59 then Some Semicolon
    else (if b == 44 then Some Comma
    else (if b == 61 then Some Equals
    else (if b == 38 then Some Amp
    else (if b == 42 then Some Star
    else (if b == 43 then Some Plus
    else (if b == 45 then Some Minus
    else None))))))))))

-- the word or mark that this text is
abbrev pub fixed_of : List ℕ → Option TokenKind
fixed_of [] = word_of []
fixed_of (b ∷ []) = if is_letter b then word_of (b ∷ []) else mark_of b
fixed_of (b ∷ c ∷ bytes) = word_of (b ∷ c ∷ bytes)
