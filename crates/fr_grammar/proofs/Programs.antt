-- Reading gives the one program that the tokens spell.
use Rattle.std.proofs.Common.{◌≡◌, ◌≢◌, ℕ, true, false, List, [], ◌∷◌, refl, sym, ap, ◌∙◌, subst, subst₂}
use Rattle.std.specs.Prelude.{Result, Ok, Err}
use Rattle.fr_terms.specs.Terms.{Text, Term}
use Rattle.fr_syntax.specs.declared.kind.TokenKind.{TokenKind}
use Rattle.fr_syntax.specs.declared.kind.TokenKind.TheVariants.{End}
use Rattle.fr_syntax.specs.declared.token.Token.{Token}
use Rattle.fr_grammar.specs.declared.fault.ParseError.{ParseError}
use Rattle.fr_grammar.specs.declared.fault.ParseError.TheVariants.{Syntax, TooDeep, NoMemory}
use Rattle.fr_syntax.specs.declared.token.TokenError.{TokenError}
use Rattle.fr_syntax.specs.Tokens.{AreTokens, IsRefused}
use Rattle.fr_grammar.specs.Grammar.{Has}
use Rattle.fr_grammar.specs.Source.{Spelled, IsSource}
use Rattle.fr_grammar.specs.Reading.{Fails, any_at, body_at, end_kind, ended_at, program_at}
use Rattle.fr_syntax.proofs.OneReading.{one_tokens, one_names, never_both}
use Rattle.fr_grammar.proofs.ReadingSteps.{bind_by}
use Rattle.fr_grammar.proofs.CompleteRows.{NoEquals, body_is}
use Rattle.fr_grammar.proofs.Complete.{complete}
use Rattle.fr_grammar.proofs.SoundParts.{bind_ok, ok}
use Rattle.fr_grammar.proofs.Sound.{body_sound, sound}

-- what an answer holds, or else this
value_or : {X : Type 0} → X → Result X ParseError → X
value_or d (Ok x) = x
value_or d (Err e) = d

-- equal answers hold the same
ok_value : {X : Type 0} (a b : X) → ok a ≡ ok b → a ≡ b
unfolding value_or
ok_value a b e = ap (value_or a) e

-- the end comes, and the term stays
ended_of : (ts : List Token) (x t : Term) → ended_at ts x ≡ Ok t → (x ≡ t) × Has End ts []
unfolding ended_at
ended_of [] x t e = cc
ended_of (u ∷ us) x t e = by us u.kind refl e
  where
    by : (us : List Token) (k : TokenKind) → u.kind ≡ k → end_kind k u.start us x ≡ Ok t → (x ≡ t) × Has End (u ∷ us) []
    by [] End is e = let same : x ≡ t = cc in (same, (is, refl))
    by (v ∷ us) End is e = cc
    by us k is e = cc

-- where the end comes the term stays
ended_is : (ts : List Token) (t : Term) → Has End ts [] → ended_at ts t ≡ Ok t
unfolding ended_at
ended_is [] t h = absurd h
ended_is (u ∷ us) t h = ap (λ k. end_kind k u.start us t) h.0 ∙ ap (λ us. end_kind End u.start us t) h.1

-- the end is no mark of an assignment
end_no_equals : (ts rest : List Token) → Has End ts rest → NoEquals ts
end_no_equals [] rest h = absurd h
end_no_equals (t ∷ ts) rest h = λ e. let bad = sym h.0 ∙ e in cc

-- what reading gives is spelled
pub program_sound : (names : List Text) (ts : List Token) (t : Term) → program_at names ts ≡ Ok t → Spelled names ts t
unfolding program_at
program_sound names ts t e =
    let s = bind_ok (body_at (any_at names 64 false) ts) (λ x. ended_at x.1 x.0) t e in
    let h = body_sound names 64 (any_at names 64 true) (any_at names 64 false) (sound names 64 true) (sound names 64 false) ts s.0.0 s.0.1 s.1 in
    let p = ended_of s.0.1 s.0.0 t s.2 in
    subst (Spelled names ts) p.0 (record { grammar = (h.0, (s.0.1, h.1.spells, p.1)); limits = record { depth = h.1.deep; places = h.1.short } })

-- what is spelled is given by reading
pub program_complete : (names : List Text) (ts : List Token) (t : Term) → Spelled names ts t → program_at names ts ≡ Ok t
unfolding program_at
program_complete names ts t h =
    let (block, (a, spells, end)) = h.grammar in
    let read = complete names t 64 false ts a spells h.limits.depth h.limits.places (end_no_equals a [] end) in
    bind_by (body_at (any_at names 64 false) ts) (t, a) (λ x. ended_at x.1 x.0) (body_is names (any_at names 64 false) t ts a block spells ∙ read)
    ∙ ended_is a t end

-- so the tokens spell one program
pub program_once : (names : List Text) (ts : List Token) (t u : Term) → Spelled names ts t → Spelled names ts u → t ≡ u
program_once names ts t u a b = ok_value t u (sym (program_complete names ts t a) ∙ program_complete names ts u b)

-- and what is refused spells none
pub refused_spells_none : (names : List Text) (ts : List Token) (fault : ParseError) (t : Term) → program_at names ts ≡ Err fault → Spelled names ts t → ⊥
refused_spells_none names ts fault t e h = let bad = sym (program_complete names ts t h) ∙ e in cc

-- and a source is the text of one program
pub source_once : (bytes : List ℕ) (t u : Term) → IsSource bytes t → IsSource bytes u → t ≡ u
source_once bytes t u a b =
    let ts : a.ts ≡ b.ts = one_tokens bytes a.ts b.ts a.names b.names a.tokens b.tokens in
    let names : a.names ≡ b.names = one_names bytes a.ts b.ts a.names b.names a.tokens b.tokens in
    let moved : Spelled b.names b.ts t = subst₂ (λ (n : List Text) (l : List Token). Spelled n l t) names ts a.program in
    program_once b.names b.ts t u moved b.program

-- bytes that have no tokens are the text of none
pub refused_no_source : (bytes : List ℕ) (e : TokenError) (t : Term) → IsRefused bytes e → IsSource bytes t → ⊥
refused_no_source bytes e t refused h = never_both bytes h.ts h.names e h.tokens refused

-- nor are bytes whose tokens spell none
pub unspelled_no_source : (bytes : List ℕ) (ts : List Token) (names : List Text) → AreTokens bytes ts names → ((t : Term) → Spelled names ts t → ⊥) → (t : Term) → IsSource bytes t → ⊥
unspelled_no_source bytes ts names tokens none t h =
    none t (subst₂ (λ (n : List Text) (l : List Token). Spelled n l t) (one_names bytes h.ts ts h.names names h.tokens tokens) (one_tokens bytes h.ts ts h.names names h.tokens tokens) h.program)

-- the same names, tokens and term under other names
pub program_is : (names others : List Text) (ts us : List Token) (t u : Term) → others ≡ names → us ≡ ts → program_at others us ≡ Ok t → t ≡ u → program_at names ts ≡ Ok u
program_is names others ts us t u same_names same_tokens read same =
    ap (λ n. program_at n ts) (sym same_names) ∙ ap (program_at others) (sym same_tokens) ∙ read ∙ ap (λ x. ok x) same

-- a fault that isn't want of memory
pub fault_spells_none : (names others : List Text) (ts us : List Token) (fault : ParseError) → others ≡ names → us ≡ ts → Fails fault (program_at others us) → fault ≢ NoMemory → (t : Term) → Spelled names ts t → ⊥
fault_spells_none names others ts us fault same_names same_tokens fails other t h =
    by fault fails other
  where
    moved : program_at names ts ≡ program_at others us
    moved = ap (λ n. program_at n ts) (sym same_names) ∙ ap (program_at others) (sym same_tokens)

    by : (fault : ParseError) → Fails fault (program_at others us) → fault ≢ NoMemory → ⊥
    by NoMemory fails other = other refl
    by (Syntax place) fails other = refused_spells_none names ts (Syntax place) t (moved ∙ fails) h
    by (TooDeep place) fails other = refused_spells_none names ts (TooDeep place) t (moved ∙ fails) h
