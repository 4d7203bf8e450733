-- Why an input has no run, and what is written then (this project's format). A place is a byte of the input, from 0.
use Rattle.std.specs.Prelude.{◌≡◌, ℕ, List, [], ◌++◌, Some, codes, decimal, ⊤}
use Rattle.fr_terms.specs.Terms.{Text, Term}
use Rattle.fr_typing.specs.declared.reason.Reason.{Reason}
use Rattle.fr_typing.specs.declared.reason.Reason.TheVariants.{UnknownName, NameInScope, NotDefined, NoTarget, ReadBlocked, WriteBlocked, MovedThrough, NotWritable, WrongType, Outlives, NotOwned, NotFull}
use Rattle.fr_typing.specs.Typing.{Faults}
use Rattle.fr_syntax.specs.declared.token.Token.{Token}
use Rattle.fr_syntax.specs.declared.token.TokenError.{TokenError}
use Rattle.fr_syntax.specs.declared.token.TokenError.TheVariants as token
use Rattle.fr_syntax.specs.Tokens.{AreTokens, IsRefused}
use Rattle.fr_grammar.specs.declared.fault.ParseError.{ParseError}
use Rattle.fr_grammar.specs.declared.fault.ParseError.TheVariants as parse
use Rattle.fr_grammar.specs.Table.{refusal}
use Rattle.fr_grammar.specs.Source.{IsSource}
use Rattle.source_front.specs.declared.refused.Refused.{Refused}
use Rattle.source_front.specs.declared.refused.Refused.TheVariants.{Tokens, Grammar, Fault, Order, NoMemory}

-- the bytes have tokens, and of these the table of the language has this first refusal
pub record IsUnparsed (bytes : List ℕ) (error : ParseError) : Type 0 where
  pub names : List Text
  pub ts : List Token
  pub tokens : AreTokens bytes ts names
  pub first : refusal ts ≡ Some error

-- the bytes are the source of a program, of which this is the first fault of types
pub record IsFaulty (bytes : List ℕ) (place : ℕ) (why : Reason) : Type 0 where
  pub term : Term
  pub source : IsSource bytes term
  pub faults : Faults [] term place why

-- the cause of a refusal of a source
abbrev pub HasCause : List ℕ → Refused → Type 0
HasCause bytes (Tokens error) = IsRefused bytes error
HasCause bytes (Grammar error) = IsUnparsed bytes error
HasCause bytes (Fault place why) = IsFaulty bytes place why
HasCause bytes (Order place) = ⊥
HasCause bytes NoMemory = ⊥

-- a refusal has its cause; of want of memory nothing is said
abbrev pub IsRefusedBy : List ℕ → Refused → Type 0
IsRefusedBy bytes NoMemory = ⊤
IsRefusedBy bytes why = HasCause bytes why

abbrev pub status_of : Refused → ℕ
status_of (Tokens error) = 3
status_of (Grammar error) = 3
status_of (Fault place why) = 4
status_of (Order place) = 10
status_of NoMemory = 8

-- what is refused, and where
abbrev pub at_place : List ℕ → ℕ → List ℕ
at_place what place = codes "refused " ++ what ++ codes " at " ++ decimal place ++ codes "\n"

abbrev pub token_text : TokenError → List ℕ
token_text (token.BadByte place) = at_place (codes "byte") place
token_text (token.NameTooLong place) = at_place (codes "name") place
token_text (token.NumberTooLarge place) = at_place (codes "number") place
token_text token.NoMemory = []

abbrev pub grammar_text : ParseError → List ℕ
grammar_text (parse.Syntax place) = at_place (codes "syntax") place
grammar_text (parse.TooDeep place) = at_place (codes "depth") place
grammar_text parse.NoMemory = []

abbrev pub reason_text : Reason → List ℕ
reason_text UnknownName = codes "unknown name"
reason_text NameInScope = codes "name in scope"
reason_text NotDefined = codes "not defined"
reason_text NoTarget = codes "no target"
reason_text ReadBlocked = codes "read blocked"
reason_text WriteBlocked = codes "write blocked"
reason_text MovedThrough = codes "moved through a reference"
reason_text NotWritable = codes "not writable"
reason_text WrongType = codes "wrong type"
reason_text Outlives = codes "outlives"
reason_text NotOwned = codes "not owned"
reason_text NotFull = codes "not full"

-- the line that is written
abbrev pub text_of : Refused → List ℕ
text_of (Tokens error) = token_text error
text_of (Grammar error) = grammar_text error
text_of (Order place) = at_place (codes "order") place
text_of (Fault place why) = codes "refused type at " ++ decimal place ++ codes ": " ++ reason_text why ++ codes "\n"
text_of NoMemory = []
