-- Small token lists and their first refusals.
use Rattle.std.proofs.Common.{◌≡◌, ℕ, suc, pos, List, [], ◌∷◌, refl}
use Rattle.std.specs.Prelude.{Option, Some, None}
use Rattle.fr_terms.specs.Terms.{block_t, assign_t, number_t, unit_t, box_t, none, item}
use Rattle.fr_syntax.specs.declared.kind.TokenKind.{TokenKind}
use Rattle.fr_syntax.specs.declared.kind.TokenKind.TheVariants.{Name, Number, End, LetWord, BoxWord, PrintWord, SpawnWord, OpenBrace, CloseBrace, OpenParen, CloseParen, Semicolon, Comma, Equals, Amp, Star}
use Rattle.fr_syntax.specs.declared.token.Token.{Token}
use Rattle.fr_grammar.specs.declared.fault.ParseError.{ParseError}
use Rattle.fr_grammar.specs.declared.fault.ParseError.TheVariants.{Syntax, TooDeep}
use Rattle.fr_grammar.specs.Refusals.{deep, starry, first_over}
use Rattle.fr_grammar.specs.Table.{block_s, end_s, refusal_of, refusal}

-- tokens of these kinds, of one byte each, from that byte on
abbrev tokens : ℕ → List TokenKind → List Token
tokens place [] = []
tokens place (kind ∷ kinds) = record { kind = kind; start = place; end = suc place } ∷ tokens (suc place) kinds

-- the first refusal of these
abbrev refused : List TokenKind → Option ParseError
refused kinds = refusal (tokens 0 kinds)

-- { }
empty_block : refused (OpenBrace ∷ CloseBrace ∷ End ∷ []) ≡ None
empty_block = refl

-- { print 1, and then the end
no_end : refused (OpenBrace ∷ PrintWord ∷ Number (pos 1) ∷ End ∷ []) ≡ Some (Syntax 3)
no_end = refl

-- { let x
no_mut : refused (OpenBrace ∷ LetWord ∷ Name 0 ∷ End ∷ []) ≡ Some (Syntax 2)
no_mut = refl

-- { ; }
no_item : refused (OpenBrace ∷ Semicolon ∷ CloseBrace ∷ End ∷ []) ≡ Some (Syntax 1)
no_item = refl

-- { 1 ; }
last_unit : refused (OpenBrace ∷ Number (pos 1) ∷ Semicolon ∷ CloseBrace ∷ End ∷ []) ≡ None
last_unit = refl

-- { spawn ( x , ) { } }
no_name : refused (OpenBrace ∷ SpawnWord ∷ OpenParen ∷ Name 0 ∷ Comma ∷ CloseParen ∷ OpenBrace ∷ CloseBrace ∷ CloseBrace ∷ End ∷ []) ≡ Some (Syntax 5)
no_name = refl

-- { spawn ( x ) 1 }
no_body : refused (OpenBrace ∷ SpawnWord ∷ OpenParen ∷ Name 0 ∷ CloseParen ∷ Number (pos 1) ∷ CloseBrace ∷ End ∷ []) ≡ Some (Syntax 5)
no_body = refl

-- { x = }
no_value : refused (OpenBrace ∷ Name 0 ∷ Equals ∷ CloseBrace ∷ End ∷ []) ≡ Some (Syntax 3)
no_value = refl

-- { ( 1 2 ) }
no_mark : refused (OpenBrace ∷ OpenParen ∷ Number (pos 1) ∷ Number (pos 2) ∷ CloseParen ∷ CloseBrace ∷ End ∷ []) ≡ Some (Syntax 3)
no_mark = refl

-- { ( x * * x ) }
starred : refused (OpenBrace ∷ OpenParen ∷ Name 0 ∷ Star ∷ Star ∷ Name 0 ∷ CloseParen ∷ CloseBrace ∷ End ∷ []) ≡ None
starred = refl

-- { x } and a token behind its end
behind_end : refused (OpenBrace ∷ Name 0 ∷ CloseBrace ∷ End ∷ Name 0 ∷ End ∷ []) ≡ Some (Syntax 4)
behind_end = refl

-- eight stars are read, the ninth is too deep
eight_stars : refused (OpenBrace ∷ Amp ∷ Star ∷ Star ∷ Star ∷ Star ∷ Star ∷ Star ∷ Star ∷ Star ∷ Name 0 ∷ CloseBrace ∷ End ∷ []) ≡ None
eight_stars = refl

nine_stars : refused (OpenBrace ∷ Star ∷ Star ∷ Star ∷ Star ∷ Star ∷ Star ∷ Star ∷ Star ∷ Star ∷ Name 0 ∷ CloseBrace ∷ End ∷ []) ≡ Some (TooDeep 9)
nine_stars = refl

-- where two levels are left a block with a number is read, and a box in it is too deep at what it holds
two_levels : refusal_of (tokens 0 (OpenBrace ∷ Number (pos 1) ∷ CloseBrace ∷ End ∷ [])) (block_s 2 ∷ end_s ∷ []) ≡ None
two_levels = refl

three_levels : refusal_of (tokens 0 (OpenBrace ∷ BoxWord ∷ Number (pos 1) ∷ CloseBrace ∷ End ∷ [])) (block_s 2 ∷ end_s ∷ []) ≡ Some (TooDeep 2)
three_levels = refl

-- what is no entry is refused so, also where no level is left
no_term : refusal_of (tokens 0 (OpenBrace ∷ BoxWord ∷ Semicolon ∷ CloseBrace ∷ End ∷ [])) (block_s 2 ∷ end_s ∷ []) ≡ Some (Syntax 2)
no_term = refl

-- the constant unit and a block without items need no level within
unit_level : refusal_of (tokens 0 (OpenBrace ∷ OpenParen ∷ CloseParen ∷ Semicolon ∷ OpenBrace ∷ CloseBrace ∷ Semicolon ∷ CloseBrace ∷ End ∷ [])) (block_s 2 ∷ end_s ∷ []) ≡ None
unit_level = refl

-- the first that breaks the limits is looked for in the order of the source: the value of a box below two levels, or the place before it
deep_first : first_over 2 (block_t 0 (item (number_t 1 (pos 1)) (item (box_t 2 (number_t 3 (pos 1))) none))) ≡ Some (deep 3)
deep_first = refl

starry_first : first_over 2 (block_t 0 (item (assign_t 1 (record { at = 1; name = []; stars = 9 }) (unit_t 12)) none)) ≡ Some (starry 1)
starry_first = refl
