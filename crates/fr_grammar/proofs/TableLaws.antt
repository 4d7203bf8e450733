-- What the first refusal of tokens means.
use Rattle.std.proofs.Common.{◌≡◌, ◌↔◌, ◌⊎◌, inl, inr, ℕ, List, [], ◌∷◌, ◌++◌, refl, sym, ap, ◌∙◌, subst}
use Rattle.std.proofs.lemmas.List.{append_assoc}
use Rattle.std.specs.Prelude.{Option, Some, None}
use Rattle.fr_terms.specs.Terms.{Text, Term}
use Rattle.fr_syntax.specs.TokenList.{EndsOnce}
use Rattle.fr_syntax.specs.declared.token.Token.{Token}
use Rattle.fr_grammar.specs.declared.fault.ParseError.TheVariants.{Syntax, TooDeep}
use Rattle.fr_grammar.specs.Grammar.{IsProgram}
use Rattle.fr_grammar.specs.Source.{Spelled}
use Rattle.fr_grammar.specs.Refusals.{IsFront, Over, deep, starry, first_over, IsRefusalOf, IsFirstWithout, IsFirstTooDeep}
use Rattle.fr_grammar.specs.Table.{Symbol, rest_s, block_s, end_s, Met, goes_on, no_entry, too_deep, meets, none_left, refusal}
use Rattle.fr_grammar.proofs.TableSteps.{next_of, after_or, after, MeetsAs, meets_as, stop_of, Stops, RunsOut, stops, stops_once, reads}
use Rattle.fr_grammar.proofs.TableGrammar.{program_goes}
use Rattle.fr_grammar.proofs.TableFronts.{begins_program, is_program}
use Rattle.fr_grammar.proofs.TableLimits.{program_limited, within_none, within_limits}

-- what a program is expected to be
abbrev start : List Symbol
start = block_s 64 ∷ end_s ∷ []

-- over more tokens the table goes on from what is expected behind the first
after_append : (front ts : List Token) (k expected : List Symbol) → after front k ≡ Some expected → after (front ++ ts) k ≡ after ts expected
after_append [] ts k expected e = ap (after_or (after ts)) e
after_append (t ∷ front) ts k expected e = by (next_of k t.kind) e (λ next e. after_append front ts next expected e)
  where
    by : (o : Option (List Symbol)) → after_or (after front) o ≡ Some expected → ((next : List Symbol) → after front next ≡ Some expected → after (front ++ ts) next ≡ after ts expected) → after_or (after (front ++ ts)) o ≡ after ts expected
    by None e again = cc
    by (Some next) e again = again next e

-- where a token has no entry, no program goes on with it
no_program_with : (names : List Text) (front : List Token) (first : Token) (expected : List Symbol) → after front start ≡ Some expected → next_of expected first.kind ≡ None → IsFront names (front ++ first ∷ []) → ⊥
no_program_with names front first expected reached next (back, t, program) =
    let goes = program_goes names 64 ((front ++ first ∷ []) ++ back) t program in
    let same : after ((front ++ first ∷ []) ++ back) start ≡ after (first ∷ back) expected = ap (λ ts. after ts start) (append_assoc front (first ∷ []) back) ∙ after_append front (first ∷ back) start expected reached in
    let bad = sym goes ∙ same ∙ ap (after_or (after back)) next in
    cc

-- where it has one, some program goes on with it
program_with : (names : List Text) (front : List Token) (first : Token) (expected next : List Symbol) → after front start ≡ Some expected → next_of expected first.kind ≡ Some next → IsFront names (front ++ first ∷ [])
program_with names front first expected next reached e =
    begins_program names 64 (front ++ first ∷ []) next (after_append front (first ∷ []) start expected reached ∙ ap (after_or (after [])) e)

-- a token is refused for its syntax where no program of the grammar goes on with it
pub syntax_is : (names : List Text) (ts : List Token) (place : ℕ) → EndsOnce ts → refusal ts ≡ Some (Syntax place) → IsFirstWithout names ts place
syntax_is names ts place once e =
    let s = stops_once ts start (Syntax place) once refl e in
    by s (meets s.expected s.first.kind) (meets_as s.expected s.first.kind) s.refused
  where
    by : (s : Stops ts start (Syntax place)) (m : Met) → MeetsAs s.first.kind m (next_of s.expected s.first.kind) → stop_of s.first m ≡ Some (Syntax place) → IsFirstWithout names ts place
    by s (goes_on k) next stop = cc
    by s no_entry next stop =
        let same : s.first.start ≡ place = cc in
        record {
          front = s.front;
          first = s.first;
          back = s.back;
          all = s.all;
          start = same;
          before = begins_program names 64 s.front s.expected s.reached;
          none = no_program_with names s.front s.first s.expected s.reached next;
        }
    by s too_deep next stop = cc

-- nothing is refused where the tokens spell a program within the limits, and nowhere else
pub none_is : (names : List Text) (ts : List Token) → (refusal ts ≡ None) ↔ ((t : Term) × Spelled names ts t)
none_is names ts = (spelled, read)
  where
    spelled : refusal ts ≡ None → (t : Term) × Spelled names ts t
    spelled e =
        let (expected, reached, left) = reads ts start e in
        let (t, program) = is_program names 64 ts expected reached left in
        let over : first_over 64 t ≡ None = none_over (first_over 64 t) (subst (IsRefusalOf ts (first_over 64 t)) e (program_limited names 64 ts t program)) in
        (t, record { grammar = program; limits = (within_limits t).0 over })
      where
        none_over : (o : Option Over) → IsRefusalOf ts o None → o ≡ None
        none_over None h = refl
        none_over (Some (deep place)) h = cc
        none_over (Some (starry from)) (place, star, h) = cc

    read : ((t : Term) × Spelled names ts t) → refusal ts ≡ None
    read (t, h) = subst (λ o. IsRefusalOf ts o (refusal ts)) ((within_limits t).1 h.limits) (program_limited names 64 ts t h.grammar)

-- where the tokens run out, nothing is too deep
runs_not_deep : (k : List Symbol) (place : ℕ) → none_left k ≡ Some (TooDeep place) → ⊥
runs_not_deep [] place e = cc
runs_not_deep (rest_s levels ∷ k) place e = runs_not_deep k place e
runs_not_deep (s ∷ k) place e = cc

-- a program of the grammar is refused where it first breaks the limits, if it does
pub limits_are : (names : List Text) (ts : List Token) (t : Term) → IsProgram names ts t → IsRefusalOf ts (first_over 64 t) (refusal ts)
limits_are names ts t h = program_limited names 64 ts t h

-- a token is too deep where programs of the grammar go on with it, and the first that breaks their limits stands there
pub too_deep_is : (names : List Text) (ts : List Token) (place : ℕ) → refusal ts ≡ Some (TooDeep place) → IsFirstTooDeep names ts place
too_deep_is names ts place e = at (stops ts start (TooDeep place) e)
  where
    here : (s : Stops ts start (TooDeep place)) (more : List Token) (t : Term) → IsProgram names (s.front ++ s.first ∷ more) t → IsRefusalOf (s.front ++ s.first ∷ more) (first_over 64 t) (Some (TooDeep place))
    here s more t h = subst (IsRefusalOf (s.front ++ s.first ∷ more) (first_over 64 t)) (s.whatever more) (limits_are names (s.front ++ s.first ∷ more) t h)

    no_limits : (s : Stops ts start (TooDeep place)) (more : List Token) (t : Term) → Spelled names (s.front ++ s.first ∷ more) t → ⊥
    no_limits s more t spelled =
        let none : first_over 64 t ≡ None = within_none t 64 spelled.limits.depth spelled.limits.places in
        let bad : Some (TooDeep place) ≡ None = subst (λ o. IsRefusalOf (s.front ++ s.first ∷ more) o (Some (TooDeep place))) none (here s more t spelled.grammar) in
        cc

    by : (s : Stops ts start (TooDeep place)) (m : Met) → MeetsAs s.first.kind m (next_of s.expected s.first.kind) → stop_of s.first m ≡ Some (TooDeep place) → IsFirstTooDeep names ts place
    by s (goes_on k) next stop = cc
    by s no_entry next stop = cc
    by s too_deep next stop =
        let same : s.first.start ≡ place = cc in
        record {
          front = s.front;
          first = s.first;
          back = s.back;
          all = s.all;
          start = same;
          begins = next.1;
          some = program_with names s.front s.first s.expected next.0.0 s.reached next.0.1;
          over = here s;
          none = no_limits s;
        }

    at : Stops ts start (TooDeep place) ⊎ RunsOut ts start (TooDeep place) → IsFirstTooDeep names ts place
    at (inl s) = by s (meets s.expected s.first.kind) (meets_as s.expected s.first.kind) s.refused
    at (inr (expected, reached, left)) = absurd (runs_not_deep expected place left)
