-- The table of the language, read token by token (this project's rule): the first token for which it has no entry, and the first
-- that begins a term at depth 65 or is the ninth star of a place.
use Rattle.std.specs.Prelude.{ℕ, zero, suc, Bool, true, false, List, [], ◌∷◌, ◌++◌, Option, Some, None}
use Rattle.fr_syntax.specs.declared.kind.TokenKind.{TokenKind}
use Rattle.fr_syntax.specs.declared.kind.TokenKind.TheVariants.{Name, Number, End, LetWord, MutWord, BoxWord, PrintWord, SpawnWord, JoinWord, ParWord, MutexWord, LockWord, AsWord, DupWord, OpenBrace, CloseBrace, OpenParen, CloseParen, Semicolon, Comma, Equals, Amp, Star, Plus, Minus}
use Rattle.fr_syntax.specs.declared.token.Token.{Token}
use Rattle.fr_grammar.specs.declared.fault.ParseError.{ParseError}
use Rattle.fr_grammar.specs.declared.fault.ParseError.TheVariants.{Syntax, TooDeep}

-- what may be expected: left sides of the table, and words, marks, names and numbers. A term, a block and the items of a block
-- have the number of levels that are left for them, a place has the number of stars that are left
pub data Symbol : Type 0 where
  block_s : (levels : ℕ) → Symbol
  -- behind `{` or `;`
  items_s : (levels : ℕ) → Symbol
  -- behind an item
  more_s : (levels : ℕ) → Symbol
  term_s : (levels : ℕ) → Symbol
  -- behind a place: `=` and a term, or nothing
  rest_s : (levels : ℕ) → Symbol
  -- behind `(`
  inner_s : (levels : ℕ) → Symbol
  op_s : Symbol
  -- behind `&`
  borrow_s : Symbol
  place_s : (stars : ℕ) → Symbol
  captures_s : Symbol
  -- behind the `(` of a capture list
  list_s : Symbol
  -- behind a captured name
  next_s : Symbol
  name_s : Symbol
  number_s : Symbol
  mut_s : Symbol
  as_s : Symbol
  equals_s : Symbol
  close_s : Symbol
  end_s : Symbol

-- what is left when one is taken
abbrev pub one_less : ℕ → ℕ
one_less zero = zero
one_less (suc n) = n

-- what comes behind the first token of a place
abbrev pub place_entry : ℕ → TokenKind → Option (List Symbol)
place_entry stars (Name n) = Some []
place_entry stars Star = Some (place_s (one_less stars) ∷ [])
place_entry stars kind = None

-- behind the first token of a term
abbrev pub term_entry : ℕ → TokenKind → Option (List Symbol)
term_entry levels OpenBrace = Some (items_s (one_less levels) ∷ [])
term_entry levels (Name n) = Some (rest_s (one_less levels) ∷ [])
term_entry levels Star = Some (place_s 7 ∷ rest_s (one_less levels) ∷ [])
term_entry levels BoxWord = Some (term_s (one_less levels) ∷ [])
term_entry levels PrintWord = Some (term_s (one_less levels) ∷ [])
term_entry levels JoinWord = Some (term_s (one_less levels) ∷ [])
term_entry levels MutexWord = Some (term_s (one_less levels) ∷ [])
term_entry levels DupWord = Some (place_s 8 ∷ [])
term_entry levels Amp = Some (borrow_s ∷ [])
term_entry levels (Number value) = Some []
term_entry levels Minus = Some (number_s ∷ [])
term_entry levels OpenParen = Some (inner_s (one_less levels) ∷ [])
term_entry levels SpawnWord = Some (captures_s ∷ block_s (one_less levels) ∷ [])
term_entry levels ParWord = Some (captures_s ∷ block_s (one_less levels) ∷ captures_s ∷ block_s (one_less levels) ∷ [])
term_entry levels LockWord = Some (place_s 8 ∷ as_s ∷ name_s ∷ block_s (one_less levels) ∷ [])
term_entry levels kind = None

-- behind the first token of an item
abbrev pub item_entry : ℕ → TokenKind → Option (List Symbol)
item_entry levels LetWord = Some (mut_s ∷ name_s ∷ equals_s ∷ term_s (one_less levels) ∷ [])
item_entry levels kind = term_entry levels kind

-- these, where there is an entry, and then more
abbrev pub and_then : Option (List Symbol) → List Symbol → Option (List Symbol)
and_then None more = None
and_then (Some symbols) more = Some (symbols ++ more)

-- THE TABLE: what comes behind such a token, where this is expected
abbrev pub entry : Symbol → TokenKind → Option (List Symbol)
entry (block_s levels) OpenBrace = Some (items_s (one_less levels) ∷ [])
entry (items_s levels) CloseBrace = Some []
entry (items_s levels) kind = and_then (item_entry levels kind) (more_s levels ∷ [])
entry (more_s levels) CloseBrace = Some []
entry (more_s levels) Semicolon = Some (items_s levels ∷ [])
entry (term_s levels) kind = term_entry levels kind
entry (rest_s levels) Equals = Some (term_s levels ∷ [])
entry (inner_s levels) CloseParen = Some []
entry (inner_s levels) kind = and_then (term_entry levels kind) (op_s ∷ term_s levels ∷ close_s ∷ [])
entry op_s Plus = Some []
entry op_s Minus = Some []
entry op_s Star = Some []
entry borrow_s MutWord = Some (place_s 8 ∷ [])
entry borrow_s kind = place_entry 8 kind
entry (place_s stars) kind = place_entry stars kind
entry captures_s OpenParen = Some (list_s ∷ [])
entry list_s CloseParen = Some []
entry list_s (Name n) = Some (next_s ∷ [])
entry next_s CloseParen = Some []
entry next_s Comma = Some (name_s ∷ next_s ∷ [])
entry name_s (Name n) = Some []
entry number_s (Number value) = Some []
entry mut_s MutWord = Some []
entry as_s AsWord = Some []
entry equals_s Equals = Some []
entry close_s CloseParen = Some []
entry end_s End = Some []
entry s kind = None

-- such a token begins a term or an item for which no level is left, or is a star for which none is left
abbrev pub is_over : Symbol → TokenKind → Bool
is_over (block_s zero) kind = true
is_over (items_s zero) CloseBrace = false
is_over (items_s zero) kind = true
is_over (term_s zero) kind = true
is_over (inner_s zero) CloseParen = false
is_over (inner_s zero) kind = true
is_over (place_s zero) Star = true
is_over s kind = false

-- what a token meets
pub data Met : Type 0 where
  goes_on : (expected : List Symbol) → Met
  no_entry : Met
  too_deep : Met

abbrev pub met : Option (List Symbol) → Bool → List Symbol → Met
met None over more = no_entry
met (Some symbols) true more = too_deep
met (Some symbols) false more = goes_on (symbols ++ more)

-- the table is asked first, and then the limits; where a place is not assigned to, what comes behind it is expected
abbrev pub meets : List Symbol → TokenKind → Met
meets [] kind = no_entry
meets (rest_s levels ∷ more) Equals = goes_on (term_s levels ∷ more)
meets (rest_s levels ∷ more) kind = meets more kind
meets (s ∷ more) kind = met (entry s kind) (is_over s kind) more

-- nothing is expected
abbrev pub none_left : List Symbol → Option ParseError
none_left [] = None
none_left (rest_s levels ∷ more) = none_left more
none_left (s ∷ more) = Some (Syntax 0)

abbrev pub refused_or : (List Symbol → Option ParseError) → ℕ → Met → Option ParseError
refused_or again place (goes_on expected) = again expected
refused_or again place no_entry = Some (Syntax place)
refused_or again place too_deep = Some (TooDeep place)

-- the first refusal of these tokens, where this is expected of them
abbrev pub refusal_of : List Token → List Symbol → Option ParseError
refusal_of [] expected = none_left expected
refusal_of (t ∷ ts) expected = refused_or (refusal_of ts) t.start (meets expected t.kind)

-- the first refusal of tokens that should be a block with 64 levels, and then the end
abbrev pub refusal : List Token → Option ParseError
refusal ts = refusal_of ts (block_s 64 ∷ end_s ∷ [])
