-- What the first refusal of tokens means (this project's rule), said by the grammar.
use Rattle.std.specs.Prelude.{◌≡◌, ℕ, zero, suc, ◌<◌, nat_le, IsTrue, true, List, [], ◌∷◌, ◌++◌, drop, Option, Some, None, if◌then◌else◌}
use Rattle.fr_terms.specs.Terms.{Text, Spot, Term, block_t, let_t, assign_t, read_t, borrow_t, borrow_mut_t, number_t, unit_t, box_t, print_t, arith_t, join_t, mutex_t, dup_t, lock_t, spawn_t, par_t, Items, none, item, start_of}
use Rattle.fr_syntax.specs.declared.token.Token.{Token}
use Rattle.fr_grammar.specs.declared.fault.ParseError.{ParseError}
use Rattle.fr_grammar.specs.declared.fault.ParseError.TheVariants.{TooDeep}
use Rattle.fr_grammar.specs.Grammar.{IsAt, IsProgram}
use Rattle.fr_grammar.specs.Source.{Spelled}
use Rattle.fr_grammar.specs.Reading.{place_of, stars_of, begins_kind}

-- some tokens behind these make them a program of the grammar, within the limits or not
abbrev pub IsFront : List Text → List Token → Type 0
IsFront names front = (back : List Token) × (t : Term) × IsProgram names (front ++ back) t

-- at this place stands the first token that no program of the grammar can have there: with the tokens before it some program
-- begins, and with it none
pub record IsFirstWithout (names : List Text) (ts : List Token) (place : ℕ) : Type 0 where
  pub front : List Token
  pub first : Token
  pub back : List Token
  pub all : ts ≡ front ++ first ∷ back
  pub start : first.start ≡ place
  pub before : IsFront names front
  pub none : ¬ (IsFront names (front ++ first ∷ []))

-- what breaks the limits
pub data Over : Type 0 where
  -- a term or an item begins there for which no level is left
  deep : (place : ℕ) → Over
  -- a place with more than eight stars begins there
  starry : (place : ℕ) → Over

-- the first of two, in order
abbrev pub or_else : Option Over → Option Over → Option Over
or_else None next = next
or_else (Some over) next = Some over

-- a place breaks them by its ninth star
abbrev pub over_place : Spot → Option Over
over_place w = if nat_le w.stars 8 then None else Some (starry w.at)

abbrev mutual
  -- the first, in the order of the source, that breaks the limits in a term with so many levels left
  pub first_over : ℕ → Term → Option Over
  first_over zero t = Some (deep (start_of t))
  first_over (suc d) (block_t at items) = first_over_of d items
  first_over (suc d) (let_t at name value) = first_over d value
  first_over (suc d) (assign_t at to value) = or_else (over_place to) (first_over d value)
  first_over (suc d) (read_t at from) = over_place from
  first_over (suc d) (borrow_t at of) = over_place of
  first_over (suc d) (borrow_mut_t at of) = over_place of
  first_over (suc d) (number_t at value) = None
  first_over (suc d) (unit_t at) = None
  first_over (suc d) (box_t at value) = first_over d value
  first_over (suc d) (print_t at value) = first_over d value
  first_over (suc d) (arith_t at op left right) = or_else (first_over d left) (first_over d right)
  first_over (suc d) (join_t at task) = first_over d task
  first_over (suc d) (mutex_t at value) = first_over d value
  first_over (suc d) (dup_t at of) = over_place of
  first_over (suc d) (lock_t at of name body) = or_else (over_place of) (first_over d body)
  first_over (suc d) (spawn_t at captures body) = first_over d body
  first_over (suc d) (par_t at captures body others other) = or_else (first_over d body) (first_over d other)

  pub first_over_of : ℕ → Items → Option Over
  first_over_of d none = None
  first_over_of d (item first rest) = or_else (first_over d first) (first_over_of d rest)

-- of the place that begins at `from` the ninth star stands at `place`
pub record IsNinthStar (ts : List Token) (from place : ℕ) : Type 0 where
  pub front : List Token
  pub back : List Token
  pub all : ts ≡ front ++ back
  pub at : IsAt from back
  pub nine : 8 < stars_of back
  pub ninth : place_of (drop 8 back) ≡ place

-- of tokens of which this breaks the limits first, this is the refusal
abbrev pub IsRefusalOf : List Token → Option Over → Option ParseError → Type 0
IsRefusalOf ts None refused = refused ≡ None
IsRefusalOf ts (Some (deep place)) refused = refused ≡ Some (TooDeep place)
IsRefusalOf ts (Some (starry from)) refused = (place : ℕ) × IsNinthStar ts from place × (refused ≡ Some (TooDeep place))

-- at this place stands a token with which programs of the grammar go on, and in each of these the first that breaks the limits
-- stands there: a term or an item at depth 65, or the ninth star of a place. So with it none begins that keeps the limits
pub record IsFirstTooDeep (names : List Text) (ts : List Token) (place : ℕ) : Type 0 where
  pub front : List Token
  pub first : Token
  pub back : List Token
  pub all : ts ≡ front ++ first ∷ back
  pub start : first.start ≡ place
  pub begins : IsTrue (begins_kind true first.kind)
  pub some : IsFront names (front ++ first ∷ [])
  pub over : (more : List Token) (t : Term) → IsProgram names (front ++ first ∷ more) t → IsRefusalOf (front ++ first ∷ more) (first_over 64 t) (Some (TooDeep place))
  pub none : (more : List Token) (t : Term) → ¬ (Spelled names (front ++ first ∷ more) t)
