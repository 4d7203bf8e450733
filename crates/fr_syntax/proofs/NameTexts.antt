-- The names of a source have different texts.
use Rattle.std.proofs.Common.{◌≡◌, ℕ, ◌<◌, ◌≤◌, Bool, true, false, cond, List, [], ◌∷◌, ◌++◌, length, refl, sym, ap, ◌∙◌, subst, arith, length-append, ⊎_elim}
use Rattle.std.specs.List.{list_any}
use Rattle.std.specs.Prelude.{is_some}
use Rattle.std.specs.Str.{bytes_eq}
use Rattle.std.proofs.lemmas.Bool.{cases_lt}
use Rattle.std.proofs.lemmas.List.{get_or_append_left}
use Rattle.std.proofs.lemmas.List.Folds.{list_any_at}
use Rattle.std.proofs.lemmas.Slice.Eq.{bytes_eq-Decides}
use Rattle.std.proofs.Math.Seq.{get_or-append_seam}
use Rattle.fr_terms.specs.Terms.{Text}
use Rattle.fr_syntax.specs.Arena.{text_of}
use Rattle.fr_syntax.specs.Names.{with_text}
use Rattle.fr_syntax.specs.Words.{is_letter, fixed_of}
use Rattle.fr_syntax.specs.Text.{head_is}
use Rattle.fr_syntax.specs.Tokens.{names_after, first_text, after_text, Leads, AreTokens}
use Rattle.fr_syntax.specs.declared.token.Token.{Token}

-- no two of these have the same text
abbrev pub AreApart : List Text → Type 0
AreApart names = (i j : ℕ) → i < length names → j < length names → text_of names i ≡ text_of names j → i ≡ j

-- a text that is none of these is not one of them
is_new : (names : List Text) (text : Text) (i : ℕ) → list_any (bytes_eq text) names ≡ false → i < length names → text ≡ text_of names i → ⊥
is_new names text i none below e =
    let found : list_any (bytes_eq text) names ≡ true = list_any_at (bytes_eq text) names i [] below ((bytes_eq-Decides text (text_of names i)).1 e) in
    cc (found, none)

-- one text more: before it, and it
before : (names : List Text) (text : Text) (i : ℕ) → i < length names → text_of (names ++ text ∷ []) i ≡ text_of names i
before names text i below = get_or_append_left names (text ∷ []) [] i below

last : (names : List Text) (text : Text) (i : ℕ) → length names ≤ i → i < length (names ++ text ∷ []) → i ≡ length names
last names text i past below = omega (arith, past, below, length-append names (text ∷ []))

text_last : (names : List Text) (text : Text) (i : ℕ) → i ≡ length names → text_of (names ++ text ∷ []) i ≡ text
text_last names text i e = ap (λ k. text_of (names ++ text ∷ []) k) e ∙ get_or-append_seam names text [] []

-- a new text keeps them apart
pushed : (names : List Text) (text : Text) → list_any (bytes_eq text) names ≡ false → AreApart names → AreApart (names ++ text ∷ [])
pushed names text none apart i j at_i at_j e =
    ⊎_elim
    (λ (low : i < length names). ⊎_elim (λ (also : j < length names). apart i j low also (sym (before names text i low) ∙ e ∙ before names text j also))
    (λ (past : length names ≤ j). absurd (is_new names text i none low (sym (text_last names text j (last names text j past at_j)) ∙ sym e ∙ before names text i low)))
    (cases_lt j (length names)))
    (λ (past : length names ≤ i). ⊎_elim (λ (low : j < length names). absurd (is_new names text j none low (sym (text_last names text i (last names text i past at_i)) ∙ e ∙ before names text j low)))
    (λ (also : length names ≤ j). last names text i past at_i ∙ sym (last names text j also at_j))
    (cases_lt j (length names)))
    (cases_lt i (length names))

either : (b : Bool) (x y : List Text) → AreApart x → AreApart y → AreApart (cond b x y)
either true x y h k = h
either false x y h k = k

with_apart : (names : List Text) (text : Text) (b : Bool) → list_any (bytes_eq text) names ≡ b → AreApart names → AreApart (cond b names (names ++ text ∷ []))
with_apart names text true e apart = apart
with_apart names text false e apart = pushed names text e apart

after_apart : (names : List Text) (text : Text) → AreApart names → AreApart (names_after names text)
after_apart names text apart =
    either (is_some (fixed_of text)) names (cond (head_is is_letter text) (with_text names text) names) apart
    (either (head_is is_letter text) (with_text names text) names (with_apart names text (list_any (bytes_eq text) names) refl apart) apart)

leads_apart : (names : List Text) (place : ℕ) (bytes : List ℕ) (ts : List Token) (names' : List Text) (place' : ℕ) (rest : List ℕ) → Leads names place bytes ts names' place' rest → AreApart names → AreApart names'
leads_apart names place bytes [] names' place' rest h apart = subst AreApart h.0 apart
leads_apart names place bytes (t ∷ ts) names' place' rest h apart =
    leads_apart (names_after names (first_text bytes)) t.end (after_text bytes) ts names' place' rest h.1 (after_apart names (first_text bytes) apart)

-- the names of a source
pub names_apart : (bytes : List ℕ) (ts : List Token) (names : List Text) → AreTokens bytes ts names → AreApart names
names_apart bytes ts names a = leads_apart [] 0 bytes a.front names a.place a.rest a.leads (λ i j low also e. absurd (omega (arith, low)))
