-- What the tokens of a source are (this project's rule).
use Rattle.std.specs.Prelude.{◌≡◌, ℕ, ◌+◌, ◌*◌, ◌<◌, ◌^◌, ◌-◌, nat_lt, nat_le, List, [], ◌∷◌, ◌++◌, length, drop, take, fold, Option, Some, None, is_some, Result, Ok, Err, if◌then◌else◌, pos}
use Rattle.std.specs.List.{position_or_len}
use Rattle.std.specs.Str.{bytes_eq}
use Rattle.fr_base.specs.Numbers.{number_value}
use Rattle.fr_syntax.specs.Names.{with_text}
use Rattle.fr_syntax.specs.Words.{fixed_of, is_letter, is_digit}
use Rattle.fr_syntax.specs.Text.{blanks, text_len, head_is}
use Rattle.fr_syntax.specs.declared.kind.TokenKind.{TokenKind}
use Rattle.fr_syntax.specs.declared.kind.TokenKind.TheVariants.{Name, Number, End}
use Rattle.fr_syntax.specs.declared.token.Token.{Token}
use Rattle.fr_syntax.specs.declared.token.TokenError.{TokenError}
use Rattle.fr_syntax.specs.declared.token.TokenError.TheVariants.{BadByte, NameTooLong, NumberTooLarge, NoMemory}

abbrev pub name_at : List (List ℕ) → ℕ → List ℕ → Result TokenKind TokenError
name_at names place text = if nat_le (length text) 32 then Ok (Name (position_or_len (bytes_eq text) names)) else Err (NameTooLong place)

abbrev pub number_at : ℕ → List ℕ → Result TokenKind TokenError
number_at place text = if nat_lt (number_value text) (2 ^ 63) then Ok (Number (pos (number_value text))) else Err (NumberTooLarge place)

-- what a text is that is neither word nor mark
abbrev pub free_at : List (List ℕ) → ℕ → List ℕ → Result TokenKind TokenError
free_at names place text =
    if head_is is_letter text then name_at names place text
    else (if head_is is_digit text then number_at place text
    else Err (BadByte place))

abbrev pub kind_or : Option TokenKind → Result TokenKind TokenError → Result TokenKind TokenError
kind_or (Some kind) free = Ok kind
kind_or None free = free

-- what the text at this place is, where these are the names up to it
abbrev pub kind_at : List (List ℕ) → ℕ → List ℕ → Result TokenKind TokenError
kind_at names place text = kind_or (fixed_of text) (free_at names place text)

-- the names after this text
abbrev pub names_after : List (List ℕ) → List ℕ → List (List ℕ)
names_after names text =
    if is_some (fixed_of text) then names
    else (if head_is is_letter text then with_text names text else names)

-- a function answered what the text is, or had no memory
abbrev pub Refuses : TokenError → Result TokenKind TokenError → Type 0
Refuses NoMemory kind = Unit {0}
Refuses error kind = kind ≡ Err error

abbrev pub Gives : Result TokenKind TokenError → Result TokenKind TokenError → Type 0
Gives (Ok kind) right = right ≡ Ok kind
Gives (Err error) right = Refuses error right

-- the bytes after the blanks, and the first text of these
abbrev pub unblanked : List ℕ → List ℕ
unblanked bytes = drop (blanks bytes) bytes

abbrev pub first_text : List ℕ → List ℕ
first_text bytes = take (text_len (unblanked bytes)) (unblanked bytes)

abbrev pub after_text : List ℕ → List ℕ
after_text bytes = drop (text_len (unblanked bytes)) (unblanked bytes)

-- where the names and the place are these, t is the first token of the bytes
pub record IsFirst (names : List (List ℕ)) (place : ℕ) (bytes : List ℕ) (t : Token) : Type 0 where
  pub some : 0 < length (first_text bytes)
  pub start : t.start ≡ place + blanks bytes
  pub end : t.end ≡ t.start + length (first_text bytes)
  pub kind : kind_at names t.start (first_text bytes) ≡ Ok t.kind

-- the tokens ts lead from the bytes at this place to the rest
abbrev pub Leads : List (List ℕ) → ℕ → List ℕ → List Token → List (List ℕ) → ℕ → List ℕ → Type 0
Leads names place bytes [] names' place' rest = (names ≡ names') × (place ≡ place') × (bytes ≡ rest)
Leads names place bytes (t ∷ ts) names' place' rest =
    IsFirst names place bytes t × Leads (names_after names (first_text bytes)) t.end (after_text bytes) ts names' place' rest

abbrev pub end_at : ℕ → Token
end_at place = record { kind = End; start = place; end = place }

-- these are the tokens, with the names in the order in which they come first
pub record AreTokens (bytes : List ℕ) (ts : List Token) (names : List (List ℕ)) : Type 0 where
  pub front : List Token
  pub place : ℕ
  pub rest : List ℕ
  pub leads : Leads [] 0 bytes front names place rest
  pub over : first_text rest ≡ []
  pub all : ts ≡ front ++ end_at (length bytes) ∷ []

-- after some tokens comes a text that spells none
pub record IsRefused (bytes : List ℕ) (error : TokenError) : Type 0 where
  pub front : List Token
  pub names : List (List ℕ)
  pub place : ℕ
  pub rest : List ℕ
  pub leads : Leads [] 0 bytes front names place rest
  pub some : 0 < length (first_text rest)
  pub fault : kind_at names (place + blanks rest) (first_text rest) ≡ Err error

abbrev pub IsRefusedOrNoMemory : List ℕ → TokenError → Type 0
IsRefusedOrNoMemory bytes NoMemory = Unit {0}
IsRefusedOrNoMemory bytes error = IsRefused bytes error
