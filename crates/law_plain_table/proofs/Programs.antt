-- The code of a typed program has a table.
use Rattle.std.proofs.Common.{◌≡◌, ℕ, [], refl, sym, ap, ◌∙◌, subst}
use Rattle.fr_terms.specs.Terms.{block_t, Items}
use Rattle.fr_typing.specs.Kinds.{Owned, Kind, own}
use Rattle.fr_typing.specs.Places.{Env}
use Rattle.fr_typing.specs.Typing.{Types, types_block}
use Rattle.fr_plain.specs.Resolve.{program}
use Rattle.fr_code.specs.StandsFor.{operand_of}
use Rattle.law_plain_table.specs.Tables.{ProgramsHaveTables}
use Rattle.law_plain_table.specs.CodeOf.{code_of}
use Rattle.law_plain_table.specs.ProgramCodes.{ProgramsHaveCodes, CodesHaveTables}
use Rattle.law_plain_table.proofs.Grown.{Grown, kept, newer, like_none, grown}
use Rattle.law_plain_table.proofs.Lines.{taken, Emits}
use Rattle.law_plain_table.proofs.Emitted.{emits}
use Rattle.law_plain_table.proofs.Tabled.{has_table}
use Rattle.law_plain_table.proofs.Lending.{lends, owned_alone}
use Rattle.law_plain_table.proofs.Generations.{has_its_code}
use Rattle.law_plain_table.proofs.SourceTerms.{resolve_source}

-- the result's type, which names no slot
block_owned : {at : ℕ} {items : Items} {k : Kind} {e : Env} → Types [] (block_t at items) k e → (o : Owned) × (k ≡ own o)
block_owned (types_block ts n) = owned_alone _ (lends (types_block ts n) tt).0 n

none_left : {e : Env} {n : ℕ} → Grown n [] e → n ≡ 0 → e ≡ []
none_left (kept h) z = like_none _ h
none_left (newer g s) z = absurd cc

pub programs_have_tables : ProgramsHaveTables
programs_have_tables code at items k e short types is laid =
    let o = block_owned types in
    let empty : e ≡ [] = none_left (grown types) refl in
    let run : Emits code 0 [] [] o.0 is.to e (operand_of (program (block_t at items))) k = emits code (block_t at items) short types refl 0 is.to [] o.0 refl is.at in
    let main : Emits code 0 [] [] o.0 is.to [] (operand_of (program (block_t at items))) (own o.0) = subst (λ f. Emits code 0 [] [] o.0 is.to f (operand_of (program (block_t at items))) (own o.0)) empty (subst (λ z. Emits code 0 [] [] o.0 is.to e (operand_of (program (block_t at items))) z) o.1 run) in
    let found = has_table code laid o.0 is.to main.line is.over (taken [] main.value refl) in
    record { table = found.0; is = found.1; result = o.1 ∙ ap own (sym found.2) }

pub programs_have_codes : ProgramsHaveCodes
programs_have_codes t = has_its_code (program t) (resolve_source t [])

pub codes_have_tables : CodesHaveTables
codes_have_tables at items k e short types =
    let c = programs_have_codes (block_t at items) in
    programs_have_tables (code_of (program (block_t at items))) at items k e short types c.is c.laid
