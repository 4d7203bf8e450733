-- The table without the limits, and where tokens are refused.
use Rattle.std.proofs.Common.{◌≡◌, ◌≢◌, ◌⊎◌, inl, inr, zero, suc, Bool, true, false, IsTrue, List, [], ◌∷◌, ◌++◌, refl, sym, ap, ◌∙◌}
use Rattle.std.specs.Prelude.{Option, Some, None, ⊤}
use Rattle.fr_syntax.specs.TokenList.{EndsOnce}
use Rattle.fr_syntax.specs.declared.kind.TokenKind.{TokenKind}
use Rattle.fr_syntax.specs.declared.kind.TokenKind.TheVariants.{End, OpenBrace, Equals}
use Rattle.fr_syntax.specs.declared.token.Token.{Token}
use Rattle.fr_grammar.specs.declared.fault.ParseError.{ParseError}
use Rattle.fr_grammar.specs.declared.fault.ParseError.TheVariants.{NoMemory}
use Rattle.fr_grammar.specs.Reading.{begins_kind}
use Rattle.fr_grammar.specs.Table.{Symbol, block_s, items_s, more_s, term_s, rest_s, inner_s, op_s, borrow_s, place_s, captures_s, list_s, next_s, name_s, number_s, mut_s, as_s, equals_s, close_s, end_s, and_then, entry, is_over, Met, goes_on, no_entry, too_deep, met, meets, none_left, refused_or, refusal_of}

-- what is expected behind a token of this kind, whatever the limits
abbrev pub next_of : List Symbol → TokenKind → Option (List Symbol)
next_of [] kind = None
next_of (rest_s levels ∷ more) Equals = Some (term_s levels ∷ more)
next_of (rest_s levels ∷ more) kind = next_of more kind
next_of (s ∷ more) kind = and_then (entry s kind) more

abbrev pub after_or : (List Symbol → Option (List Symbol)) → Option (List Symbol) → Option (List Symbol)
after_or again None = None
after_or again (Some k) = again k

-- what is expected behind these tokens, whatever the limits
abbrev pub after : List Token → List Symbol → Option (List Symbol)
after [] k = Some k
after (t ∷ ts) k = after_or (after ts) (next_of k t.kind)

-- what a token meets, beside what is expected behind it whatever the limits
abbrev pub MeetsAs : TokenKind → Met → Option (List Symbol) → Type 0
MeetsAs kind (goes_on k) next = next ≡ Some k
MeetsAs kind no_entry next = next ≡ None
MeetsAs kind too_deep next = ((k : List Symbol) × (next ≡ Some k)) × IsTrue (begins_kind true kind)

-- where no level or star is left, what has an entry begins an item or a term
abbrev over_as : TokenKind → Bool → Option (List Symbol) → Bool
over_as kind true (Some symbols) = begins_kind true kind
over_as kind over symbols = true

-- it does so in each entry of the table
over_begins : (s : Symbol) (kind : TokenKind) → over_as kind (is_over s kind) (entry s kind) ≡ true
over_begins (block_s zero) OpenBrace = refl
over_begins (block_s zero) kind = refl
over_begins (block_s (suc d)) OpenBrace = refl
over_begins (block_s (suc d)) kind = refl
over_begins (items_s zero) OpenBrace = refl
over_begins (items_s zero) kind = refl
over_begins (items_s (suc d)) OpenBrace = refl
over_begins (items_s (suc d)) kind = refl
over_begins (more_s zero) OpenBrace = refl
over_begins (more_s zero) kind = refl
over_begins (more_s (suc d)) OpenBrace = refl
over_begins (more_s (suc d)) kind = refl
over_begins (term_s zero) OpenBrace = refl
over_begins (term_s zero) kind = refl
over_begins (term_s (suc d)) OpenBrace = refl
over_begins (term_s (suc d)) kind = refl
over_begins (rest_s zero) OpenBrace = refl
over_begins (rest_s zero) kind = refl
over_begins (rest_s (suc d)) OpenBrace = refl
over_begins (rest_s (suc d)) kind = refl
over_begins (inner_s zero) OpenBrace = refl
over_begins (inner_s zero) kind = refl
over_begins (inner_s (suc d)) OpenBrace = refl
over_begins (inner_s (suc d)) kind = refl
over_begins op_s OpenBrace = refl
over_begins op_s kind = refl
over_begins borrow_s OpenBrace = refl
over_begins borrow_s kind = refl
over_begins (place_s zero) OpenBrace = refl
over_begins (place_s zero) kind = refl
over_begins (place_s (suc d)) OpenBrace = refl
over_begins (place_s (suc d)) kind = refl
over_begins captures_s OpenBrace = refl
over_begins captures_s kind = refl
over_begins list_s OpenBrace = refl
over_begins list_s kind = refl
over_begins next_s OpenBrace = refl
over_begins next_s kind = refl
over_begins name_s OpenBrace = refl
over_begins name_s kind = refl
over_begins number_s OpenBrace = refl
over_begins number_s kind = refl
over_begins mut_s OpenBrace = refl
over_begins mut_s kind = refl
over_begins as_s OpenBrace = refl
over_begins as_s kind = refl
over_begins equals_s OpenBrace = refl
over_begins equals_s kind = refl
over_begins close_s OpenBrace = refl
over_begins close_s kind = refl
over_begins end_s OpenBrace = refl
over_begins end_s kind = refl

-- the limits only stop what would go on
met_as : (kind : TokenKind) (o : Option (List Symbol)) (over : Bool) (more : List Symbol) → over_as kind over o ≡ true → MeetsAs kind (met o over more) (and_then o more)
met_as kind None over more h = refl
met_as kind (Some symbols) true more h = ((symbols ++ more, refl), h)
met_as kind (Some symbols) false more h = refl

-- the same of what is expected
pub meets_as : (k : List Symbol) (kind : TokenKind) → MeetsAs kind (meets k kind) (next_of k kind)
meets_as [] kind = refl
meets_as (rest_s levels ∷ more) Equals = refl
meets_as (rest_s levels ∷ more) kind = meets_as more kind
meets_as (s ∷ more) kind = met_as kind (entry s kind) (is_over s kind) more (over_begins s kind)

-- what a refusal of one token is
abbrev pub stop_of : Token → Met → Option ParseError
stop_of t m = refused_or (λ k. None) t.start m

-- the table goes on to a token, and refuses it so
pub record Stops (ts : List Token) (k : List Symbol) (fault : ParseError) : Type 0 where
  pub front : List Token
  pub first : Token
  pub back : List Token
  pub expected : List Symbol
  pub all : ts ≡ front ++ first ∷ back
  pub reached : after front k ≡ Some expected
  pub refused : stop_of first (meets expected first.kind) ≡ Some fault
  -- and so it does whatever comes behind
  pub whatever : (more : List Token) → refusal_of (front ++ first ∷ more) k ≡ Some fault

-- all tokens are read, and more is expected
abbrev pub RunsOut : List Token → List Symbol → ParseError → Type 0
RunsOut ts k fault = (expected : List Symbol) × (after ts k ≡ Some expected) × (none_left expected ≡ Some fault)

-- a refusal stands at a token, or at the end
pub stops : (ts : List Token) (k : List Symbol) (fault : ParseError) → refusal_of ts k ≡ Some fault → Stops ts k fault ⊎ RunsOut ts k fault
stops [] k fault e = inr (k, refl, e)
stops (t ∷ ts) k fault e = by (meets k t.kind) (meets_as k t.kind) refl e (λ next h. stops ts next fault h)
  where
    here : (m : Met) → meets k t.kind ≡ m → stop_of t m ≡ Some fault → ((more : List Token) → refused_or (refusal_of more) t.start m ≡ Some fault) → Stops (t ∷ ts) k fault ⊎ RunsOut (t ∷ ts) k fault
    here m same stop again =
        inl (record {
          front = [];
          first = t;
          back = ts;
          expected = k;
          all = refl;
          reached = refl;
          refused = ap (stop_of t) same ∙ stop;
          whatever = λ more. ap (refused_or (refusal_of more) t.start) same ∙ again more;
        })

    on : (next : List Symbol) → meets k t.kind ≡ goes_on next → next_of k t.kind ≡ Some next → Stops ts next fault ⊎ RunsOut ts next fault → Stops (t ∷ ts) k fault ⊎ RunsOut (t ∷ ts) k fault
    on next same is (inl s) =
        inl (record {
          front = t ∷ s.front;
          first = s.first;
          back = s.back;
          expected = s.expected;
          all = ap (λ r. t ∷ r) s.all;
          reached = ap (after_or (after s.front)) is ∙ s.reached;
          refused = s.refused;
          whatever = λ more. ap (refused_or (refusal_of (s.front ++ s.first ∷ more)) t.start) same ∙ s.whatever more;
        })
    on next same is (inr (expected, reached, left)) = inr (expected, ap (after_or (after ts)) is ∙ reached, left)

    by : (m : Met) → MeetsAs t.kind m (next_of k t.kind) → meets k t.kind ≡ m → refused_or (refusal_of ts) t.start m ≡ Some fault → ((next : List Symbol) → refusal_of ts next ≡ Some fault → Stops ts next fault ⊎ RunsOut ts next fault) → Stops (t ∷ ts) k fault ⊎ RunsOut (t ∷ ts) k fault
    by (goes_on next) is same e again = on next same is (again next e)
    by no_entry is same e again = here no_entry same e (λ more. e)
    by too_deep is same e again = here too_deep same e (λ more. e)

-- where nothing is refused all tokens are read, and nothing more is expected
pub reads : (ts : List Token) (k : List Symbol) → refusal_of ts k ≡ None → (expected : List Symbol) × (after ts k ≡ Some expected) × (none_left expected ≡ None)
reads [] k e = (k, refl, e)
reads (t ∷ ts) k e = by (meets k t.kind) (meets_as k t.kind) e (λ next e. reads ts next e)
  where
    by : (m : Met) → MeetsAs t.kind m (next_of k t.kind) → refused_or (refusal_of ts) t.start m ≡ None → ((next : List Symbol) → refusal_of ts next ≡ None → (expected : List Symbol) × (after ts next ≡ Some expected) × (none_left expected ≡ None)) → (expected : List Symbol) × (after (t ∷ ts) k ≡ Some expected) × (none_left expected ≡ None)
    by (goes_on next) is e again = let (expected, reached, left) = again next e in (expected, ap (after_or (after ts)) is ∙ reached, left)
    by no_entry is e again = cc
    by too_deep is e again = cc

-- no refusal is want of memory
pub never_memory : (ts : List Token) (k : List Symbol) → refusal_of ts k ≡ Some NoMemory → ⊥
never_memory ts k e = at (stops ts k NoMemory e)
  where
    left : (k : List Symbol) → none_left k ≡ Some NoMemory → ⊥
    left [] e = cc
    left (rest_s levels ∷ k) e = left k e
    left (s ∷ k) e = cc

    by : (t : Token) (m : Met) → stop_of t m ≡ Some NoMemory → ⊥
    by t (goes_on next) e = cc
    by t no_entry e = cc
    by t too_deep e = cc

    at : Stops ts k NoMemory ⊎ RunsOut ts k NoMemory → ⊥
    at (inl s) = by s.first (meets s.expected s.first.kind) s.refused
    at (inr out) = left out.0 out.2

-- the end is expected last, and nowhere else
abbrev pub EndsSo : List Symbol → Type 0
EndsSo [] = ⊥
EndsSo (end_s ∷ k) = k ≡ []
EndsSo (s ∷ k) = EndsSo k

-- the end is not among these
abbrev lacks_end : List Symbol → Bool
lacks_end [] = true
lacks_end (end_s ∷ k) = false
lacks_end (s ∷ k) = lacks_end k

abbrev entry_lacks : Option (List Symbol) → Bool
entry_lacks None = true
entry_lacks (Some symbols) = lacks_end symbols

-- no entry of the table has the end in it
entry_lacks_end : (s : Symbol) (kind : TokenKind) → entry_lacks (entry s kind) ≡ true
entry_lacks_end (block_s d) OpenBrace = refl
entry_lacks_end (block_s d) kind = refl
entry_lacks_end (items_s d) OpenBrace = refl
entry_lacks_end (items_s d) kind = refl
entry_lacks_end (more_s d) OpenBrace = refl
entry_lacks_end (more_s d) kind = refl
entry_lacks_end (term_s d) OpenBrace = refl
entry_lacks_end (term_s d) kind = refl
entry_lacks_end (rest_s d) OpenBrace = refl
entry_lacks_end (rest_s d) kind = refl
entry_lacks_end (inner_s d) OpenBrace = refl
entry_lacks_end (inner_s d) kind = refl
entry_lacks_end op_s OpenBrace = refl
entry_lacks_end op_s kind = refl
entry_lacks_end borrow_s OpenBrace = refl
entry_lacks_end borrow_s kind = refl
entry_lacks_end (place_s d) OpenBrace = refl
entry_lacks_end (place_s d) kind = refl
entry_lacks_end captures_s OpenBrace = refl
entry_lacks_end captures_s kind = refl
entry_lacks_end list_s OpenBrace = refl
entry_lacks_end list_s kind = refl
entry_lacks_end next_s OpenBrace = refl
entry_lacks_end next_s kind = refl
entry_lacks_end name_s OpenBrace = refl
entry_lacks_end name_s kind = refl
entry_lacks_end number_s OpenBrace = refl
entry_lacks_end number_s kind = refl
entry_lacks_end mut_s OpenBrace = refl
entry_lacks_end mut_s kind = refl
entry_lacks_end as_s OpenBrace = refl
entry_lacks_end as_s kind = refl
entry_lacks_end equals_s OpenBrace = refl
entry_lacks_end equals_s kind = refl
entry_lacks_end close_s OpenBrace = refl
entry_lacks_end close_s kind = refl
entry_lacks_end end_s OpenBrace = refl
entry_lacks_end end_s kind = refl

-- such symbols before others change nothing
ends_append : (symbols more : List Symbol) → lacks_end symbols ≡ true → EndsSo more → EndsSo (symbols ++ more)
ends_append [] more h ends = ends
ends_append (end_s ∷ symbols) more h ends = cc
ends_append (s ∷ symbols) more h ends = ends_append symbols more h ends

abbrev EndsNext : Option (List Symbol) → Type 0
EndsNext None = ⊤
EndsNext (Some k) = EndsSo k

ends_entry : (o : Option (List Symbol)) (more : List Symbol) → entry_lacks o ≡ true → EndsSo more → EndsNext (and_then o more)
ends_entry None more h ends = tt
ends_entry (Some symbols) more h ends = ends_append symbols more h ends

-- behind another token the end is still expected last
ends_next : (k : List Symbol) (kind : TokenKind) → kind ≢ End → EndsSo k → EndsNext (next_of k kind)
ends_next [] kind other ends = tt
ends_next (rest_s levels ∷ more) Equals other ends = ends
ends_next (rest_s levels ∷ more) kind other ends = ends_next more kind other ends
ends_next (end_s ∷ more) End other ends = absurd (other refl)
ends_next (end_s ∷ more) kind other ends = tt
ends_next (s ∷ more) kind other ends = ends_entry (entry s kind) more (entry_lacks_end s kind) ends

-- what is expected, where something is
abbrev pub or_nothing : Option (List Symbol) → List Symbol
or_nothing None = []
or_nothing (Some k) = k

-- behind the end nothing is expected
end_next : (k next : List Symbol) → EndsSo k → next_of k End ≡ Some next → next ≡ []
end_next [] next ends e = cc
end_next (rest_s levels ∷ more) next ends e = end_next more next ends e
end_next (end_s ∷ more) next ends e = sym (ap or_nothing e) ∙ ends
end_next (s ∷ more) next ends e = cc

-- so behind tokens that end once nothing is expected
nothing_behind : (ts : List Token) (k expected : List Symbol) → EndsOnce ts → EndsSo k → after ts k ≡ Some expected → expected ≡ []
nothing_behind [] k expected once ends e = absurd once
nothing_behind (t ∷ []) k expected once ends e = by (next_of k t.kind) refl e
  where
    by : (o : Option (List Symbol)) → next_of k t.kind ≡ o → after_or (after []) o ≡ Some expected → expected ≡ []
    by None same e = cc
    by (Some next) same e = end_next k expected ends (ap (next_of k) (sym once) ∙ same ∙ e)
nothing_behind (t ∷ u ∷ ts) k expected once ends e = by (next_of k t.kind) (ends_next k t.kind once.0 ends) e (λ next ends e. nothing_behind (u ∷ ts) next expected once.1 ends e)
  where
    by : (o : Option (List Symbol)) → EndsNext o → after_or (after (u ∷ ts)) o ≡ Some expected → ((next : List Symbol) → EndsSo next → after (u ∷ ts) next ≡ Some expected → expected ≡ []) → expected ≡ []
    by None ends e again = cc
    by (Some next) ends e again = again next ends e

-- and they are refused at one of them
pub stops_once : (ts : List Token) (k : List Symbol) (fault : ParseError) → EndsOnce ts → EndsSo k → refusal_of ts k ≡ Some fault → Stops ts k fault
stops_once ts k fault once ends e = by (stops ts k fault e)
  where
    by : Stops ts k fault ⊎ RunsOut ts k fault → Stops ts k fault
    by (inl s) = s
    by (inr (expected, reached, left)) = let bad = ap none_left (sym (nothing_behind ts k expected once ends reached)) ∙ left in cc
