-- The first refusal of the tokens that are parsed.
use Rattle.std.proofs.Common.{◌≡◌, ◌≢◌, List, refl, sym, ap, ◌∙◌}
use Rattle.std.specs.Prelude.{Some, None}
use Rattle.fr_terms.specs.Terms.{Text, Term}
use Rattle.fr_syntax.specs.declared.token.Token.{Token}
use Rattle.fr_grammar.specs.declared.fault.ParseError.{ParseError}
use Rattle.fr_grammar.specs.declared.fault.ParseError.TheVariants.{Syntax, TooDeep, NoMemory}
use Rattle.fr_grammar.specs.Source.{Spelled}
use Rattle.fr_grammar.specs.Reading.{Fails, program_at}
use Rattle.fr_grammar.specs.Table.{refusal}
use Rattle.fr_grammar.proofs.Programs.{program_complete}
use Rattle.fr_grammar.proofs.TableTerms.{fault_of, refusal_is_fault}

-- the tokens of a program have no refusal
pub spelled_unrefused : (names : List Text) (ts : List Token) (t : Term) → Spelled names ts t → refusal ts ≡ None
spelled_unrefused names ts t h = refusal_is_fault names ts ∙ ap fault_of (program_complete names ts t h)

-- where reading fails, and not for want of memory, the table refuses there
pub fault_is_first : (names : List Text) (ts us : List Token) (fault : ParseError) → us ≡ ts → Fails fault (program_at names us) → fault ≢ NoMemory → refusal ts ≡ Some fault
fault_is_first names ts us (Syntax place) same fails other = ap refusal (sym same) ∙ refusal_is_fault names us ∙ ap fault_of fails
fault_is_first names ts us (TooDeep place) same fails other = ap refusal (sym same) ∙ refusal_is_fault names us ∙ ap fault_of fails
fault_is_first names ts us NoMemory same fails other = absurd (other refl)
