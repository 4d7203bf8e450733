-- A program of the grammar is refused where it first breaks the limits.
use Rattle.std.proofs.Common.{◌≡◌, ◌≢◌, inl, inr, ℕ, zero, suc, ◌<◌, ◌≤◌, nat_le, ℤ, Bool, true, false, cond, IsTrue, ◌↔◌, List, [], ◌∷◌, ◌++◌, drop, refl, sym, ap, ◌∙◌, subst, arith}
use Rattle.std.proofs.lemmas.Bool.{leb-false, leb-true, le-leb}
use Rattle.std.proofs.lemmas.List.{append_assoc}
use Rattle.std.specs.Prelude.{Option, Some, None}
use Rattle.fr_base.specs.declared.place.Op.{Op}
use Rattle.fr_base.specs.declared.place.Op.TheVariants.{Add, Sub, Mul}
use Rattle.fr_terms.specs.Terms.{Text, Spot, Captured, Term, block_t, let_t, assign_t, read_t, borrow_t, borrow_mut_t, number_t, unit_t, box_t, print_t, arith_t, join_t, mutex_t, dup_t, lock_t, spawn_t, par_t, Items, none, item, start_of, IsBlock}
use Rattle.fr_terms.specs.Limits.{levels, levels_of, IsShort, HasShortPlaces, HaveShortPlaces, IsWithinLimits}
use Rattle.fr_syntax.specs.declared.kind.TokenKind.{TokenKind}
use Rattle.fr_syntax.specs.declared.kind.TokenKind.TheVariants.{Name, Number, End, LetWord, MutWord, BoxWord, PrintWord, SpawnWord, JoinWord, ParWord, MutexWord, LockWord, AsWord, DupWord, OpenBrace, CloseBrace, OpenParen, CloseParen, Semicolon, Comma, Equals, Amp, Star, Plus, Minus}
use Rattle.fr_syntax.specs.declared.token.Token.{Token}
use Rattle.fr_grammar.specs.declared.fault.ParseError.{ParseError}
use Rattle.fr_grammar.specs.declared.fault.ParseError.TheVariants.{Syntax, TooDeep}
use Rattle.fr_grammar.specs.Grammar.{Has, IsAt, Begins, SpellsPath, SpellsPlace, SpellsCaptures, SpellsOthers, SpellsNumber, mark_of_op, Spells, SpellsItems, SpellsMore, IsProgram}
use Rattle.fr_grammar.specs.Reading.{place_of, begins_term, begins_kind}
use Rattle.fr_grammar.specs.Table.{Symbol, block_s, items_s, more_s, term_s, rest_s, inner_s, op_s, borrow_s, place_s, captures_s, list_s, next_s, name_s, number_s, mut_s, as_s, equals_s, close_s, end_s, term_entry, goes_on, met, meets, refused_or, refusal_of}
use Rattle.fr_grammar.specs.Refusals.{Over, deep, starry, or_else, over_place, first_over, first_over_of, IsNinthStar, IsRefusalOf}
use Rattle.fr_grammar.proofs.ReadingSteps.{has_cons, IsPath, path_is}
use Rattle.fr_grammar.proofs.TableReading.{then_refused, behind, spot_or, spot_left}
use Rattle.fr_grammar.proofs.TableTerms.{any_entry, no_level, items_close, inner_close, items_meet, inner_meet, none_left_read}
use Rattle.fr_grammar.proofs.TableGrammar.{NoEquals, has_no_equals, op_no_equals, more_no_equals, captures_no_equals, term_is_any, block_opens}

-- these tokens end with the rest
abbrev IsRest : List Token → List Token → Type 0
IsRest ts rest = (before : List Token) × (ts ≡ before ++ rest)

-- a token before the rest
token_before : (kind : TokenKind) (ts rest : List Token) → Has kind ts rest → IsRest ts rest
token_before kind ts rest h = let s = has_cons kind ts rest h in (s.0 ∷ [], s.1)

rest_of_rest : (ts a rest : List Token) → IsRest ts a → IsRest a rest → IsRest ts rest
rest_of_rest ts a rest (before, all) (more, others) = (before ++ more, all ∙ ap (λ r. before ++ r) others ∙ sym (append_assoc before more rest))

-- a ninth star among the last tokens is one among all
ninth_of_rest : (ts a : List Token) (from place : ℕ) → IsRest ts a → IsNinthStar a from place → IsNinthStar ts from place
ninth_of_rest ts a from place (before, all) s =
    record { front = before ++ s.front; back = s.back; all = all ∙ ap (λ r. before ++ r) s.all ∙ sym (append_assoc before s.front s.back); at = s.at; nine = s.nine; ninth = s.ninth }

-- where this breaks the limits first in the tokens up to the rest, it is refused; else the table goes on to the rest
abbrev Went : List Token → List Token → Option Over → (List Symbol → Option ParseError) → Type 0
Went ts rest None f = IsRest ts rest × ((k : List Symbol) → f k ≡ refusal_of rest k)
Went ts rest (Some (deep place)) f = (k : List Symbol) → f k ≡ Some (TooDeep place)
Went ts rest (Some (starry from)) f = (place : ℕ) × IsNinthStar ts from place × ((k : List Symbol) → f k ≡ Some (TooDeep place))

-- the same from earlier tokens on
went_before : (o : Option Over) (ts a rest : List Token) (f g : List Symbol → Option ParseError) → IsRest ts a → ((k : List Symbol) → f k ≡ g k) → Went a rest o g → Went ts rest o f
went_before None ts a rest f g before same (r, e) = (rest_of_rest ts a rest before r, λ k. same k ∙ e k)
went_before (Some (deep place)) ts a rest f g before same e = λ k. same k ∙ e k
went_before (Some (starry from)) ts a rest f g before same (place, star, e) = (place, ninth_of_rest ts a from place before star, λ k. same k ∙ e k)

-- the same of the same tokens
went_same : (o : Option Over) (ts rest : List Token) (f g : List Symbol → Option ParseError) → ((k : List Symbol) → f k ≡ g k) → Went ts rest o g → Went ts rest o f
went_same o ts rest f g same w = went_before o ts ts rest f g ([], refl) same w

-- one part and then the next
went_then : (o next : Option Over) (ts a rest : List Token) (f g : List Symbol → Option ParseError) (s : List Symbol → List Symbol) → Went ts a o f → ((k : List Symbol) → refusal_of a (s k) ≡ g k) → Went a rest next g → Went ts rest (or_else o next) (λ k. f (s k))
went_then None next ts a rest f g s (r, e) same w = went_before next ts a rest (λ k. f (s k)) g r (λ k. e (s k) ∙ same k) w
went_then (Some (deep place)) next ts a rest f g s e same w = λ k. e (s k)
went_then (Some (starry from)) next ts a rest f g s (place, star, e) same w = (place, star, λ k. e (s k))

-- one part and then tokens that are not limited
went_last : (o : Option Over) (ts a rest : List Token) (f : List Symbol → Option ParseError) (s : List Symbol → List Symbol) → Went ts a o f → IsRest a rest → ((k : List Symbol) → refusal_of a (s k) ≡ refusal_of rest k) → Went ts rest o (λ k. f (s k))
went_last None ts a rest f s (r, e) last same = (rest_of_rest ts a rest r last, λ k. e (s k) ∙ same k)
went_last (Some (deep place)) ts a rest f s e last same = λ k. e (s k)
went_last (Some (starry from)) ts a rest f s (place, star, e) last same = (place, star, λ k. e (s k))

-- over such a token the table goes on so
goes_over : (kind : TokenKind) (ts rest : List Token) (k next : List Symbol) → Has kind ts rest → meets k kind ≡ goes_on next → refusal_of ts k ≡ refusal_of rest next
goes_over kind [] rest k next h e = absurd h
goes_over kind (t ∷ ts) rest k next h e = ap (refused_or (refusal_of ts) t.start) (ap (meets k) h.0 ∙ e) ∙ ap (λ r. refusal_of r next) h.1

-- the first refusal where an item or a term is expected, and then this
abbrev any_refusal : Bool → ℕ → List Token → List Symbol → Option ParseError
any_refusal b d [] k = Some (Syntax 0)
any_refusal b d (t ∷ ts) k = refused_or (refusal_of ts) t.start (met (any_entry b d t.kind) (no_level d) k)

-- the first token begins an item or a term, there
abbrev IsFirst : Bool → ℕ → List Token → Type 0
IsFirst b at [] = ⊥
IsFirst b at (t ∷ ts) = IsTrue (begins_kind b t.kind) × (t.start ≡ at)

-- what begins a term also begins an item
term_begins : (b : Bool) (kind : TokenKind) → IsTrue (begins_term kind) → IsTrue (begins_kind b kind)
term_begins true LetWord h = refl
term_begins true kind h = h
term_begins false kind h = h

first_by : (b : Bool) (kind : TokenKind) (at : ℕ) (ts rest : List Token) → IsTrue (begins_term kind) → Begins kind at ts rest → IsFirst b at ts
first_by b kind at [] rest h begins = absurd begins.1
first_by b kind at (t ∷ ts) rest h begins = (term_begins b t.kind (ap begins_term begins.0.0 ∙ h), begins.1)

first_of_place : (names : List Text) (b : Bool) (n : ℕ) (name : Text) (at : ℕ) (ts rest : List Token) → SpellsPath names n name ts rest → IsAt at ts → IsFirst b at ts
first_of_place names b zero name at ts rest h here = first_by b (Name h.0) at ts rest refl (h.2, here)
first_of_place names b (suc n) name at ts rest h here = first_by b Star at ts h.0 refl (h.1, here)

-- each item and each term begins so
spelled_first : (names : List Text) (b : Bool) (t : Term) (ts rest : List Token) → Spells names b t ts rest → IsFirst b (start_of t) ts
spelled_first names b (let_t at name value) ts rest h = by b ts h.4 h.5
  where
    by : (b : Bool) (ts : List Token) → IsTrue b → Begins LetWord at ts h.0 → IsFirst b at ts
    by true [] is begins = absurd begins.1
    by true (t ∷ ts) is begins = (ap (begins_kind true) begins.0.0, begins.1)
    by false ts is begins = cc
spelled_first names b (block_t at items) ts rest (x, begins, h) = first_by b OpenBrace at ts x refl begins
spelled_first names b (read_t at from) ts rest (same, place) = subst (λ at. IsFirst b at ts) (sym same) (first_of_place names b from.stars from.name from.at ts rest place.1 place.0)
spelled_first names b (assign_t at to value) ts rest h = subst (λ at. IsFirst b at ts) (sym h.2) (first_of_place names b to.stars to.name to.at ts h.0 h.3.1 h.3.0)
spelled_first names b (box_t at value) ts rest (x, begins, h) = first_by b BoxWord at ts x refl begins
spelled_first names b (print_t at value) ts rest (x, begins, h) = first_by b PrintWord at ts x refl begins
spelled_first names b (join_t at task) ts rest (x, begins, h) = first_by b JoinWord at ts x refl begins
spelled_first names b (mutex_t at value) ts rest (x, begins, h) = first_by b MutexWord at ts x refl begins
spelled_first names b (dup_t at of) ts rest (x, begins, h) = first_by b DupWord at ts x refl begins
spelled_first names b (borrow_t at of) ts rest (x, begins, h) = first_by b Amp at ts x refl begins
spelled_first names b (borrow_mut_t at of) ts rest h = first_by b Amp at ts h.0 refl h.2
spelled_first names b (number_t at value) ts rest (inl begins) = first_by b (Number value) at ts rest refl begins
spelled_first names b (number_t at value) ts rest (inr h) = first_by b Minus at ts h.0 refl h.2
spelled_first names b (unit_t at) ts rest (x, begins, h) = first_by b OpenParen at ts x refl begins
spelled_first names b (arith_t at op left right) ts rest h = first_by b OpenParen at ts h.0 refl h.4
spelled_first names b (spawn_t at captures body) ts rest h = first_by b SpawnWord at ts h.0 refl h.2
spelled_first names b (par_t at captures body others other) ts rest h = first_by b ParWord at ts h.0 refl h.4
spelled_first names b (lock_t at of name body) ts rest h = first_by b LockWord at ts h.0 refl h.4

-- it is too deep where no level is left
too_deep_first : (b : Bool) (at : ℕ) (ts : List Token) (k : List Symbol) → IsFirst b at ts → any_refusal b zero ts k ≡ Some (TooDeep at)
unfolding Rattle.fr_grammar.specs.Reading.deep_at
too_deep_first b at [] k h = absurd h
too_deep_first b at (t ∷ ts) k h = none_left_read b t ts k ∙ ap (λ is. Some (cond is (TooDeep t.start) (Syntax t.start))) h.0 ∙ ap (λ place. Some (TooDeep place)) h.1

-- where a level is left the table goes on over the first token of a term
over_first : (b : Bool) (d : ℕ) (kind : TokenKind) (ts a : List Token) (symbols k : List Symbol) → Has kind ts a → term_entry (suc d) kind ≡ Some symbols → any_refusal b (suc d) ts k ≡ refusal_of a (symbols ++ k)
over_first b d kind [] a symbols k h e = absurd h
over_first b d kind (t ∷ ts) a symbols k h e =
    ap (λ kind. refused_or (refusal_of ts) t.start (met (any_entry b (suc d) kind) false k)) h.0
    ∙ ap (λ o. refused_or (refusal_of ts) t.start (met o false k)) (term_is_any b (suc d) kind symbols e) ∙ ap (λ r. refusal_of r (symbols ++ k)) h.1

-- and over `let` where an item may stand
over_let : (b : Bool) (d : ℕ) (ts a : List Token) (k : List Symbol) → IsTrue b → Has LetWord ts a → any_refusal b (suc d) ts k ≡ refusal_of a (mut_s ∷ name_s ∷ equals_s ∷ term_s d ∷ k)
over_let b d [] a k is h = absurd h
over_let true d (t ∷ ts) a k is h =
    ap (λ kind. refused_or (refusal_of ts) t.start (met (any_entry true (suc d) kind) false k)) h.0 ∙ ap (λ r. refusal_of r (mut_s ∷ name_s ∷ equals_s ∷ term_s d ∷ k)) h.1
over_let false d (t ∷ ts) a k is h = cc

-- where a term is expected
term_refusal : (d : ℕ) (ts : List Token) (k : List Symbol) → refusal_of ts (term_s d ∷ k) ≡ any_refusal false d ts k
term_refusal d [] k = refl
term_refusal zero (t ∷ ts) k = refl
term_refusal (suc d) (t ∷ ts) k = refl

-- where an item is expected
item_refusal : (d at : ℕ) (ts : List Token) (k : List Symbol) → IsFirst true at ts → refusal_of ts (items_s d ∷ k) ≡ any_refusal true d ts (more_s d ∷ k)
item_refusal d at [] k h = absurd h
item_refusal d at (t ∷ ts) k h = ap (refused_or (refusal_of ts) t.start) (items_meet d t.kind k (λ e. let bad = sym (ap (begins_kind true) e) ∙ h.0 in cc))

-- where a term is expected behind `(`
inner_refusal : (d at : ℕ) (ts : List Token) (k : List Symbol) → IsFirst false at ts → refusal_of ts (inner_s d ∷ k) ≡ any_refusal false d ts (op_s ∷ term_s d ∷ close_s ∷ k)
inner_refusal d at [] k h = absurd h
inner_refusal d at (t ∷ ts) k h = ap (refused_or (refusal_of ts) t.start) (inner_meet d t.kind k (λ e. let bad = sym (ap (begins_kind false) e) ∙ h.0 in cc))

-- where a block is expected
block_refusal : (d : ℕ) (ts a : List Token) (k : List Symbol) → Has OpenBrace ts a → refusal_of ts (block_s d ∷ k) ≡ any_refusal false d ts k
block_refusal d [] a k h = absurd h
block_refusal d (t ∷ ts) a k h = ap (λ kind. refused_or (refusal_of ts) t.start (meets (block_s d ∷ k) kind)) h.0 ∙ by d ∙ ap (λ kind. refused_or (refusal_of ts) t.start (met (term_entry d kind) (no_level d) k)) (sym h.0)
  where
    by : (d : ℕ) → refused_or (refusal_of ts) t.start (meets (block_s d ∷ k) OpenBrace) ≡ refused_or (refusal_of ts) t.start (met (term_entry d OpenBrace) (no_level d) k)
    by zero = refl
    by (suc d) = refl

-- the tokens behind a place are the rest
path_rest : (names : List Text) (n : ℕ) (name : Text) (ts rest : List Token) → SpellsPath names n name ts rest → IsRest ts rest
path_rest names zero name ts rest h = token_before (Name h.0) ts rest h.2
path_rest names (suc n) name ts rest h = rest_of_rest ts h.0 rest (token_before Star ts h.0 h.1) (path_rest names n name h.0 rest h.2)

-- a place
place_went : (names : List Text) (w : Spot) (ts rest : List Token) → SpellsPlace names w ts rest → Went ts rest (over_place w) (λ k. refusal_of ts (place_s 8 ∷ k))
place_went names w ts rest h = by (nat_le w.stars 8) refl
  where
    p : IsPath names w.stars w.name ts rest
    p = path_is names w.stars w.name ts rest h.1

    read : (b : Bool) → nat_le w.stars 8 ≡ b → (k : List Symbol) → refusal_of ts (place_s 8 ∷ k) ≡ spot_or k ts 8 w.stars b
    read b e k = spot_left 8 ts k ∙ ap (λ n. spot_or k ts 8 n (nat_le n 8)) p.stars ∙ ap (spot_or k ts 8 w.stars) e

    by : (b : Bool) → nat_le w.stars 8 ≡ b → Went ts rest (cond b None (Some (starry w.at))) (λ k. refusal_of ts (place_s 8 ∷ k))
    by true e = (path_rest names w.stars w.name ts rest h.1, λ k. read true e k ∙ ap (then_refused (behind k)) p.named)
    by false e = (
      place_of (drop 8 ts),
      record { front = []; back = ts; all = refl; at = h.0; nine = subst (λ n. 8 < n) (sym p.stars) (leb-false w.stars 8 e); ninth = refl },
      read false e,
    )

-- behind `&` the first token of a place is as it is elsewhere
borrow_refusal : (names : List Text) (n : ℕ) (name : Text) (ts rest : List Token) (k : List Symbol) → SpellsPath names n name ts rest → refusal_of ts (borrow_s ∷ k) ≡ refusal_of ts (place_s 8 ∷ k)
borrow_refusal names zero name ts rest k h = goes_over (Name h.0) ts rest (borrow_s ∷ k) k h.2 refl ∙ sym (goes_over (Name h.0) ts rest (place_s 8 ∷ k) k h.2 refl)
borrow_refusal names (suc n) name ts rest k h = goes_over Star ts h.0 (borrow_s ∷ k) (place_s 7 ∷ k) h.1 refl ∙ sym (goes_over Star ts h.0 (place_s 8 ∷ k) (place_s 7 ∷ k) h.1 refl)

-- and so it is where a term begins with it
placed_refusal : (names : List Text) (b : Bool) (d n : ℕ) (name : Text) (ts rest : List Token) (k : List Symbol) → SpellsPath names n name ts rest → any_refusal b (suc d) ts k ≡ refusal_of ts (place_s 8 ∷ rest_s d ∷ k)
placed_refusal names b d zero name ts rest k h =
    over_first b d (Name h.0) ts rest (rest_s d ∷ []) k h.2 refl ∙ sym (goes_over (Name h.0) ts rest (place_s 8 ∷ rest_s d ∷ k) (rest_s d ∷ k) h.2 refl)
placed_refusal names b d (suc n) name ts rest k h =
    over_first b d Star ts h.0 (place_s 7 ∷ rest_s d ∷ []) k h.1 refl ∙ sym (goes_over Star ts h.0 (place_s 8 ∷ rest_s d ∷ k) (place_s 7 ∷ rest_s d ∷ k) h.1 refl)

-- a place that is not assigned to
rest_refusal : (levels : ℕ) (ts : List Token) (k : List Symbol) → NoEquals ts → refusal_of ts (rest_s levels ∷ k) ≡ refusal_of ts k
rest_refusal levels [] k other = absurd other
rest_refusal levels (t ∷ ts) k other = by t.kind other
  where
    by : (kind : TokenKind) → kind ≢ Equals → refused_or (refusal_of ts) t.start (meets (rest_s levels ∷ k) kind) ≡ refused_or (refusal_of ts) t.start (meets k kind)
    by Equals other = absurd (other refl)
    by kind other = refl

-- captured names behind the first
others_refusal : (names : List Text) (cs : List Captured) (ts rest : List Token) → SpellsOthers names cs ts rest → IsRest ts rest × ((k : List Symbol) → refusal_of ts (next_s ∷ k) ≡ refusal_of rest k)
others_refusal names [] ts rest h = (token_before CloseParen ts rest h, λ k. goes_over CloseParen ts rest (next_s ∷ k) k h refl)
others_refusal names (c ∷ cs) ts rest (x, y, comma, place, named, more) =
    let again = others_refusal names cs y rest more in (
      rest_of_rest ts x rest (token_before Comma ts x comma) (rest_of_rest x y rest (token_before (Name named.0) x y named.2) again.0),
      λ k. goes_over Comma ts x (next_s ∷ k) (name_s ∷ next_s ∷ k) comma refl ∙ goes_over (Name named.0) x y (name_s ∷ next_s ∷ k) (next_s ∷ k) named.2 refl ∙ again.1 k,
    )

-- a capture list
captures_refusal : (names : List Text) (cs : List Captured) (ts rest : List Token) → SpellsCaptures names cs ts rest → IsRest ts rest × ((k : List Symbol) → refusal_of ts (captures_s ∷ k) ≡ refusal_of rest k)
captures_refusal names [] ts rest (x, opens, h) = (
  rest_of_rest ts x rest (token_before OpenParen ts x opens) (token_before CloseParen x rest h),
  λ k. goes_over OpenParen ts x (captures_s ∷ k) (list_s ∷ k) opens refl ∙ goes_over CloseParen x rest (list_s ∷ k) k h refl,
)
captures_refusal names (c ∷ cs) ts rest (x, opens, (y, place, named, more)) =
    let again = others_refusal names cs y rest more in (
      rest_of_rest ts x rest (token_before OpenParen ts x opens) (rest_of_rest x y rest (token_before (Name named.0) x y named.2) again.0),
      λ k. goes_over OpenParen ts x (captures_s ∷ k) (list_s ∷ k) opens refl ∙ goes_over (Name named.0) x y (list_s ∷ k) (next_s ∷ k) named.2 refl ∙ again.1 k,
    )

-- the mark between two operands
op_refusal : (op : Op) (ts rest : List Token) (k : List Symbol) → Has (mark_of_op op) ts rest → refusal_of ts (op_s ∷ k) ≡ refusal_of rest k
op_refusal Add ts rest k h = goes_over Plus ts rest (op_s ∷ k) k h refl
op_refusal Sub ts rest k h = goes_over Minus ts rest (op_s ∷ k) k h refl
op_refusal Mul ts rest k h = goes_over Star ts rest (op_s ∷ k) k h refl

-- what holds one term, behind its word
one_limited : (b : Bool) (d : ℕ) (kind : TokenKind) (o : Option Over) (ts a rest : List Token) → Has kind ts a → term_entry (suc d) kind ≡ Some (term_s d ∷ []) → Went a rest o (any_refusal false d a) → Went ts rest o (any_refusal b (suc d) ts)
one_limited b d kind o ts a rest h e w =
    went_before o ts a rest (any_refusal b (suc d) ts) (any_refusal false d a) (token_before kind ts a h) (λ k. over_first b d kind ts a (term_s d ∷ []) k h e ∙ term_refusal d a k) w

-- a block, where one is expected
body_limited : (names : List Text) (d : ℕ) (body : Term) (o : Option Over) (ts rest : List Token) → IsBlock body → Spells names false body ts rest → Went ts rest o (any_refusal false d ts) → Went ts rest o (λ k. refusal_of ts (block_s d ∷ k))
body_limited names d body o ts rest is h w =
    let opens = block_opens names false body ts rest is h in
    went_same o ts rest (λ k. refusal_of ts (block_s d ∷ k)) (any_refusal false d ts) (λ k. block_refusal d ts opens.0 k opens.1) w

-- a capture list and a block
branch_limited : (names : List Text) (d : ℕ) (cs : List Captured) (body : Term) (o : Option Over) (ts a rest : List Token) → SpellsCaptures names cs ts a → IsBlock body → Spells names false body a rest → Went a rest o (any_refusal false d a) → Went ts rest o (λ k. refusal_of ts (captures_s ∷ block_s d ∷ k))
branch_limited names d cs body o ts a rest list is h w =
    let captured = captures_refusal names cs ts a list in
    went_before o ts a rest (λ k. refusal_of ts (captures_s ∷ block_s d ∷ k)) (λ k. refusal_of a (block_s d ∷ k)) captured.0 (λ k. captured.1 (block_s d ∷ k)) (body_limited names d body o a rest is h w)

-- an item, where one is expected, and then what is expected behind it
item_limited : (names : List Text) (d : ℕ) (first : Term) (o next : Option Over) (ts a rest : List Token) → Spells names true first ts a → Went ts a o (any_refusal true d ts) → Went a rest next (λ k. refusal_of a (more_s d ∷ k)) → Went ts rest (or_else o next) (λ k. refusal_of ts (items_s d ∷ k))
item_limited names d first o next ts a rest h w more =
    went_same (or_else o next) ts rest (λ k. refusal_of ts (items_s d ∷ k)) (λ k. any_refusal true d ts (more_s d ∷ k)) (λ k. item_refusal d (start_of first) ts k (spelled_first names true first ts a h))
    (went_then o next ts a rest (any_refusal true d ts) (λ k. refusal_of a (more_s d ∷ k)) (λ k. more_s d ∷ k) w (λ k. refl) more)

-- a number
number_limited : (b : Bool) (d at : ℕ) (value : ℤ) (ts rest : List Token) → SpellsNumber at value ts rest → Went ts rest None (any_refusal b (suc d) ts)
number_limited b d at value ts rest (inl h) = (token_before (Number value) ts rest h.0, λ k. over_first b d (Number value) ts rest [] k h.0 refl)
number_limited b d at value ts rest (inr (a, size, h, num, is)) = (
  rest_of_rest ts a rest (token_before Minus ts a h.0) (token_before (Number size) a rest num),
  λ k. over_first b d Minus ts a (number_s ∷ []) k h.0 refl ∙ goes_over (Number size) a rest (number_s ∷ k) k num refl,
)

-- an item or a term where no level is left
none_limited : (names : List Text) (b : Bool) (t : Term) (ts rest : List Token) → Spells names b t ts rest → Went ts rest (first_over zero t) (any_refusal b zero ts)
none_limited names b t ts rest h = λ k. too_deep_first b (start_of t) ts k (spelled_first names b t ts rest h)

mutual
  -- an item or a term is refused where it first breaks the limits
  pub limited : (names : List Text) (t : Term) (b : Bool) (d : ℕ) (ts rest : List Token) → Spells names b t ts rest → NoEquals rest → Went ts rest (first_over d t) (any_refusal b d ts)
  limited names (block_t at items) b zero ts rest h other = none_limited names b (block_t at items) ts rest h
  limited names t b zero ts rest h other = none_limited names b t ts rest h
  limited names (let_t at name value) b (suc d) ts rest (x, y, z, w, is, begins, mut, named, eq, h) other =
      went_before (first_over d value) ts w rest (any_refusal b (suc d) ts) (any_refusal false d w)
      (rest_of_rest ts x w (token_before LetWord ts x begins.0) (rest_of_rest x y w (token_before MutWord x y mut) (rest_of_rest y z w (token_before (Name named.0) y z named.2) (token_before Equals z w eq))))
      (λ k. over_let b d ts x k is begins.0
      ∙ goes_over MutWord x y (mut_s ∷ name_s ∷ equals_s ∷ term_s d ∷ k) (name_s ∷ equals_s ∷ term_s d ∷ k) mut refl
      ∙ goes_over (Name named.0) y z (name_s ∷ equals_s ∷ term_s d ∷ k) (equals_s ∷ term_s d ∷ k) named.2 refl
      ∙ goes_over Equals z w (equals_s ∷ term_s d ∷ k) (term_s d ∷ k) eq refl ∙ term_refusal d w k) (limited names value false d w rest h other)
  limited names (block_t at items) b (suc d) ts rest (x, begins, h) other =
      went_before (first_over_of d items) ts x rest (any_refusal b (suc d) ts) (λ k. refusal_of x (items_s d ∷ k)) (token_before OpenBrace ts x begins.0)
      (λ k. over_first b d OpenBrace ts x (items_s d ∷ []) k begins.0 refl) (limited_items names items d x rest h)
  limited names (read_t at from) b (suc d) ts rest h other =
      went_same (over_place from) ts rest (any_refusal b (suc d) ts) (λ k. refusal_of ts (place_s 8 ∷ rest_s d ∷ k)) (λ k. placed_refusal names b d from.stars from.name ts rest k h.1.1)
      (went_last (over_place from) ts rest rest (λ k. refusal_of ts (place_s 8 ∷ k)) (λ k. rest_s d ∷ k) (place_went names from ts rest h.1) ([], refl) (λ k. rest_refusal d rest k other))
  limited names (assign_t at to value) b (suc d) ts rest (x, y, same, place, eq, h) other =
      went_same (or_else (over_place to) (first_over d value)) ts rest (any_refusal b (suc d) ts) (λ k. refusal_of ts (place_s 8 ∷ rest_s d ∷ k)) (λ k. placed_refusal names b d to.stars to.name ts x k place.1)
      (went_then (over_place to) (first_over d value) ts x rest (λ k. refusal_of ts (place_s 8 ∷ k)) (λ k. refusal_of x (rest_s d ∷ k)) (λ k. rest_s d ∷ k) (place_went names to ts x place) (λ k. refl)
      (went_before (first_over d value) x y rest (λ k. refusal_of x (rest_s d ∷ k)) (any_refusal false d y) (token_before Equals x y eq)
      (λ k. goes_over Equals x y (rest_s d ∷ k) (term_s d ∷ k) eq refl ∙ term_refusal d y k) (limited names value false d y rest h other)))
  limited names (box_t at value) b (suc d) ts rest (x, begins, h) other = one_limited b d BoxWord (first_over d value) ts x rest begins.0 refl (limited names value false d x rest h other)
  limited names (print_t at value) b (suc d) ts rest (x, begins, h) other = one_limited b d PrintWord (first_over d value) ts x rest begins.0 refl (limited names value false d x rest h other)
  limited names (join_t at task) b (suc d) ts rest (x, begins, h) other = one_limited b d JoinWord (first_over d task) ts x rest begins.0 refl (limited names task false d x rest h other)
  limited names (mutex_t at value) b (suc d) ts rest (x, begins, h) other = one_limited b d MutexWord (first_over d value) ts x rest begins.0 refl (limited names value false d x rest h other)
  limited names (dup_t at of) b (suc d) ts rest (x, begins, place) other =
      went_before (over_place of) ts x rest (any_refusal b (suc d) ts) (λ k. refusal_of x (place_s 8 ∷ k)) (token_before DupWord ts x begins.0)
      (λ k. over_first b d DupWord ts x (place_s 8 ∷ []) k begins.0 refl) (place_went names of x rest place)
  limited names (borrow_t at of) b (suc d) ts rest (x, begins, place) other =
      went_before (over_place of) ts x rest (any_refusal b (suc d) ts) (λ k. refusal_of x (place_s 8 ∷ k)) (token_before Amp ts x begins.0)
      (λ k. over_first b d Amp ts x (borrow_s ∷ []) k begins.0 refl ∙ borrow_refusal names of.stars of.name x rest k place.1) (place_went names of x rest place)
  limited names (borrow_mut_t at of) b (suc d) ts rest (x, y, begins, mut, place) other =
      went_before (over_place of) ts y rest (any_refusal b (suc d) ts) (λ k. refusal_of y (place_s 8 ∷ k)) (rest_of_rest ts x y (token_before Amp ts x begins.0) (token_before MutWord x y mut))
      (λ k. over_first b d Amp ts x (borrow_s ∷ []) k begins.0 refl ∙ goes_over MutWord x y (borrow_s ∷ k) (place_s 8 ∷ k) mut refl) (place_went names of y rest place)
  limited names (number_t at value) b (suc d) ts rest h other = number_limited b d at value ts rest h
  limited names (unit_t at) b (suc d) ts rest (x, begins, close) other = (
    rest_of_rest ts x rest (token_before OpenParen ts x begins.0) (token_before CloseParen x rest close),
    λ k. over_first b d OpenParen ts x (inner_s d ∷ []) k begins.0 refl ∙ goes_over CloseParen x rest (inner_s d ∷ k) k close (inner_close d k),
  )
  limited names (arith_t at op left right) b (suc d) ts rest (x, y, z, w, begins, h, mark, i, close) other =
      went_before (or_else (first_over d left) (first_over d right)) ts x rest (any_refusal b (suc d) ts) (λ k. any_refusal false d x (op_s ∷ term_s d ∷ close_s ∷ k)) (token_before OpenParen ts x begins.0)
      (λ k. over_first b d OpenParen ts x (inner_s d ∷ []) k begins.0 refl ∙ inner_refusal d (start_of left) x k (spelled_first names false left x y h))
      (went_then (first_over d left) (first_over d right) x y rest (any_refusal false d x) (λ k. refusal_of y (op_s ∷ term_s d ∷ close_s ∷ k)) (λ k. op_s ∷ term_s d ∷ close_s ∷ k)
      (limited names left false d x y h (op_no_equals op y z mark)) (λ k. refl)
      (went_before (first_over d right) y z rest (λ k. refusal_of y (op_s ∷ term_s d ∷ close_s ∷ k)) (λ k. any_refusal false d z (close_s ∷ k)) (token_before (mark_of_op op) y z mark)
      (λ k. op_refusal op y z (term_s d ∷ close_s ∷ k) mark ∙ term_refusal d z (close_s ∷ k))
      (went_last (first_over d right) z w rest (any_refusal false d z) (λ k. close_s ∷ k) (limited names right false d z w i (has_no_equals CloseParen w rest (λ e. cc) close))
      (token_before CloseParen w rest close) (λ k. goes_over CloseParen w rest (close_s ∷ k) k close refl))))
  limited names (spawn_t at captures body) b (suc d) ts rest (x, y, begins, list, is, h) other =
      went_before (first_over d body) ts x rest (any_refusal b (suc d) ts) (λ k. refusal_of x (captures_s ∷ block_s d ∷ k)) (token_before SpawnWord ts x begins.0)
      (λ k. over_first b d SpawnWord ts x (captures_s ∷ block_s d ∷ []) k begins.0 refl)
      (branch_limited names d captures body (first_over d body) x y rest list is h (limited names body false d y rest h other))
  limited names (par_t at captures body others body_two) b (suc d) ts rest (x, y, z, w, begins, list, is, h, list_two, is_two, h_two) other =
      went_before (or_else (first_over d body) (first_over d body_two)) ts x rest (any_refusal b (suc d) ts) (λ k. refusal_of x (captures_s ∷ block_s d ∷ captures_s ∷ block_s d ∷ k)) (token_before ParWord ts x begins.0)
      (λ k. over_first b d ParWord ts x (captures_s ∷ block_s d ∷ captures_s ∷ block_s d ∷ []) k begins.0 refl)
      (went_then (first_over d body) (first_over d body_two) x z rest (λ k. refusal_of x (captures_s ∷ block_s d ∷ k)) (λ k. refusal_of z (captures_s ∷ block_s d ∷ k)) (λ k. captures_s ∷ block_s d ∷ k)
      (branch_limited names d captures body (first_over d body) x y z list is h (limited names body false d y z h (captures_no_equals names others z w list_two))) (λ k. refl)
      (branch_limited names d others body_two (first_over d body_two) z w rest list_two is_two h_two (limited names body_two false d w rest h_two other)))
  limited names (lock_t at of name body) b (suc d) ts rest (x, y, z, w, begins, place, as_word, named, is, h) other =
      went_before (or_else (over_place of) (first_over d body)) ts x rest (any_refusal b (suc d) ts) (λ k. refusal_of x (place_s 8 ∷ as_s ∷ name_s ∷ block_s d ∷ k)) (token_before LockWord ts x begins.0)
      (λ k. over_first b d LockWord ts x (place_s 8 ∷ as_s ∷ name_s ∷ block_s d ∷ []) k begins.0 refl)
      (went_then (over_place of) (first_over d body) x y rest (λ k. refusal_of x (place_s 8 ∷ k)) (λ k. refusal_of y (as_s ∷ name_s ∷ block_s d ∷ k)) (λ k. as_s ∷ name_s ∷ block_s d ∷ k)
      (place_went names of x y place) (λ k. refl)
      (went_before (first_over d body) y w rest (λ k. refusal_of y (as_s ∷ name_s ∷ block_s d ∷ k)) (λ k. refusal_of w (block_s d ∷ k)) (rest_of_rest y z w (token_before AsWord y z as_word) (token_before (Name named.0) z w named.2))
      (λ k. goes_over AsWord y z (as_s ∷ name_s ∷ block_s d ∷ k) (name_s ∷ block_s d ∷ k) as_word refl ∙ goes_over (Name named.0) z w (name_s ∷ block_s d ∷ k) (block_s d ∷ k) named.2 refl)
      (body_limited names d body (first_over d body) w rest is h (limited names body false d w rest h other))))

  -- and so are the items of a block
  pub limited_items : (names : List Text) (items : Items) (d : ℕ) (ts rest : List Token) → SpellsItems names items ts rest → Went ts rest (first_over_of d items) (λ k. refusal_of ts (items_s d ∷ k))
  limited_items names none d ts rest h = (token_before CloseBrace ts rest h, λ k. goes_over CloseBrace ts rest (items_s d ∷ k) k h (items_close d k))
  limited_items names (item first more) zero ts rest (x, h, next) = λ k. item_refusal zero (start_of first) ts k (spelled_first names true first ts x h) ∙ too_deep_first true (start_of first) ts (more_s zero ∷ k) (spelled_first names true first ts x h)
  limited_items names (item first more) (suc d) ts rest (x, h, next) =
      item_limited names (suc d) first (first_over (suc d) first) (first_over_of (suc d) more) ts x rest h (limited names first true (suc d) ts x h (more_no_equals names more x rest next)) (limited_more names more d x rest next)

  -- and what stands behind an item, where a level is left
  pub limited_more : (names : List Text) (items : Items) (d : ℕ) (ts rest : List Token) → SpellsMore names items ts rest → Went ts rest (first_over_of (suc d) items) (λ k. refusal_of ts (more_s (suc d) ∷ k))
  limited_more names none d ts rest h = (token_before CloseBrace ts rest h, λ k. goes_over CloseBrace ts rest (more_s (suc d) ∷ k) k h refl)
  limited_more names (item first more) d ts rest (x, semi, inl (y, h, next)) =
      went_before (or_else (first_over (suc d) first) (first_over_of (suc d) more)) ts x rest (λ k. refusal_of ts (more_s (suc d) ∷ k)) (λ k. refusal_of x (items_s (suc d) ∷ k)) (token_before Semicolon ts x semi)
      (λ k. goes_over Semicolon ts x (more_s (suc d) ∷ k) (items_s (suc d) ∷ k) semi refl)
      (item_limited names (suc d) first (first_over (suc d) first) (first_over_of (suc d) more) x y rest h (limited names first true (suc d) x y h (more_no_equals names more y rest next)) (limited_more names more d y rest next))
  limited_more names (item first more) d ts rest (x, semi, inr (place, unit, last, close)) =
      let over : or_else (first_over (suc d) first) (first_over_of (suc d) more) ≡ None = ap (λ t. or_else (first_over (suc d) t) (first_over_of (suc d) more)) unit ∙ ap (first_over_of (suc d)) last in
      subst (λ o. Went ts rest o (λ k. refusal_of ts (more_s (suc d) ∷ k))) (sym over) (
        rest_of_rest ts x rest (token_before Semicolon ts x semi) (token_before CloseBrace x rest close.0),
        λ k. goes_over Semicolon ts x (more_s (suc d) ∷ k) (items_s (suc d) ∷ k) semi refl ∙ goes_over CloseBrace x rest (items_s (suc d) ∷ k) k close.0 refl,
      )

-- a program is refused where it first breaks the limits, and else read
pub program_limited : (names : List Text) (d : ℕ) (ts : List Token) (t : Term) → IsProgram names ts t → IsRefusalOf ts (first_over d t) (refusal_of ts (block_s d ∷ end_s ∷ []))
program_limited names d ts t (is, (a, h, end)) =
    by (first_over d t) (body_limited names d t (first_over d t) ts a is h (limited names t false d ts a h (has_no_equals End a [] (λ e. cc) end)))
  where
    by : (o : Option Over) → Went ts a o (λ k. refusal_of ts (block_s d ∷ k)) → IsRefusalOf ts o (refusal_of ts (block_s d ∷ end_s ∷ []))
    by None w = w.1 (end_s ∷ []) ∙ goes_over End a [] (end_s ∷ []) [] end refl
    by (Some (deep place)) w = w (end_s ∷ [])
    by (Some (starry from)) w = (w.0, w.1, w.2 (end_s ∷ []))

-- a term has a level
some_levels : (t : Term) → 0 < levels t
some_levels (block_t at items) = omega arith
some_levels t = omega arith

-- one of two breaks the limits first, or none does
or_else_none : (a b : Option Over) → or_else a b ≡ None → (a ≡ None) × (b ≡ None)
or_else_none None b e = (refl, e)
or_else_none (Some over) b e = cc

or_else_both : (a b : Option Over) → a ≡ None → b ≡ None → or_else a b ≡ None
or_else_both a b e f = ap (λ o. or_else o b) e ∙ f

-- a place with few stars breaks no limit
short_place : (w : Spot) → IsShort w → over_place w ≡ None
short_place w h = ap (λ b. cond b None (Some (starry w.at))) (le-leb w.stars 8 h)

-- and no other place does so
place_short : (w : Spot) → over_place w ≡ None → IsShort w
place_short w e = by (nat_le w.stars 8) refl e
  where
    by : (b : Bool) → nat_le w.stars 8 ≡ b → cond b None (Some (starry w.at)) ≡ None → IsShort w
    by true same e = leb-true w.stars 8 same
    by false same e = cc

mutual
  -- a term within the limits has nothing that breaks them
  pub within_none : (t : Term) (d : ℕ) → levels t ≤ d → HasShortPlaces t → first_over d t ≡ None
  within_none (block_t at items) zero h short = absurd (omega arith)
  within_none t zero h short = absurd (omega (arith, some_levels t))
  within_none (block_t at items) (suc d) h short = within_none_of items d (omega arith) short
  within_none (let_t at name value) (suc d) h short = within_none value d (omega arith) short
  within_none (assign_t at to value) (suc d) h short = or_else_both (over_place to) (first_over d value) (short_place to short.0) (within_none value d (omega arith) short.1)
  within_none (read_t at from) (suc d) h short = short_place from short
  within_none (borrow_t at of) (suc d) h short = short_place of short
  within_none (borrow_mut_t at of) (suc d) h short = short_place of short
  within_none (number_t at value) (suc d) h short = refl
  within_none (unit_t at) (suc d) h short = refl
  within_none (box_t at value) (suc d) h short = within_none value d (omega arith) short
  within_none (print_t at value) (suc d) h short = within_none value d (omega arith) short
  within_none (arith_t at op left right) (suc d) h short = or_else_both (first_over d left) (first_over d right) (within_none left d (omega arith) short.0) (within_none right d (omega arith) short.1)
  within_none (join_t at task) (suc d) h short = within_none task d (omega arith) short
  within_none (mutex_t at value) (suc d) h short = within_none value d (omega arith) short
  within_none (dup_t at of) (suc d) h short = short_place of short
  within_none (lock_t at of name body) (suc d) h short = or_else_both (over_place of) (first_over d body) (short_place of short.0) (within_none body d (omega arith) short.1)
  within_none (spawn_t at captures body) (suc d) h short = within_none body d (omega arith) short
  within_none (par_t at captures body others other) (suc d) h short = or_else_both (first_over d body) (first_over d other) (within_none body d (omega arith) short.0) (within_none other d (omega arith) short.1)

  pub within_none_of : (items : Items) (d : ℕ) → levels_of items ≤ d → HaveShortPlaces items → first_over_of d items ≡ None
  within_none_of none d h short = refl
  within_none_of (item first rest) d h short = or_else_both (first_over d first) (first_over_of d rest) (within_none first d (omega arith) short.0) (within_none_of rest d (omega arith) short.1)

-- so many levels, and short places
abbrev Keeps : Term → ℕ → Type 0
Keeps t d = (levels t ≤ d) × HasShortPlaces t

mutual
  -- and only such a term has none
  pub none_within : (t : Term) (d : ℕ) → first_over d t ≡ None → Keeps t d
  none_within (block_t at items) zero e = cc
  none_within t zero e = cc
  none_within (block_t at items) (suc d) e = let h = none_within_of items d e in (omega (arith, h.0), h.1)
  none_within (let_t at name value) (suc d) e = let h = none_within value d e in (omega (arith, h.0), h.1)
  none_within (assign_t at to value) (suc d) e = let s = or_else_none (over_place to) (first_over d value) e in let h = none_within value d s.1 in (omega (arith, h.0), (place_short to s.0, h.1))
  none_within (read_t at from) (suc d) e = (omega arith, place_short from e)
  none_within (borrow_t at of) (suc d) e = (omega arith, place_short of e)
  none_within (borrow_mut_t at of) (suc d) e = (omega arith, place_short of e)
  none_within (number_t at value) (suc d) e = (omega arith, tt)
  none_within (unit_t at) (suc d) e = (omega arith, tt)
  none_within (box_t at value) (suc d) e = let h = none_within value d e in (omega (arith, h.0), h.1)
  none_within (print_t at value) (suc d) e = let h = none_within value d e in (omega (arith, h.0), h.1)
  none_within (arith_t at op left right) (suc d) e = let s = or_else_none (first_over d left) (first_over d right) e in let h = none_within left d s.0 in let i = none_within right d s.1 in (omega (arith, h.0, i.0), (h.1, i.1))
  none_within (join_t at task) (suc d) e = let h = none_within task d e in (omega (arith, h.0), h.1)
  none_within (mutex_t at value) (suc d) e = let h = none_within value d e in (omega (arith, h.0), h.1)
  none_within (dup_t at of) (suc d) e = (omega arith, place_short of e)
  none_within (lock_t at of name body) (suc d) e = let s = or_else_none (over_place of) (first_over d body) e in let h = none_within body d s.1 in (omega (arith, h.0), (place_short of s.0, h.1))
  none_within (spawn_t at captures body) (suc d) e = let h = none_within body d e in (omega (arith, h.0), h.1)
  none_within (par_t at captures body others other) (suc d) e = let s = or_else_none (first_over d body) (first_over d other) e in let h = none_within body d s.0 in let i = none_within other d s.1 in (omega (arith, h.0, i.0), (h.1, i.1))

  pub none_within_of : (items : Items) (d : ℕ) → first_over_of d items ≡ None → (levels_of items ≤ d) × HaveShortPlaces items
  none_within_of none d e = (omega arith, tt)
  none_within_of (item first rest) d e = let s = or_else_none (first_over d first) (first_over_of d rest) e in let h = none_within first d s.0 in let i = none_within_of rest d s.1 in (omega (arith, h.0, i.0), (h.1, i.1))

-- what breaks no limit is within them
pub within_limits : (t : Term) → (first_over 64 t ≡ None) ↔ IsWithinLimits t
within_limits t = (λ e. let h = none_within t 64 e in record { depth = h.0; places = h.1 }, λ h. within_none t 64 h.depth h.places)
