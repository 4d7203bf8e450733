-- The table without the limits goes on over every program of the grammar.
use Rattle.std.proofs.Common.{◌≡◌, ◌≢◌, inl, inr, ℕ, zero, suc, ℤ, Bool, true, false, List, [], ◌∷◌, ◌++◌, refl, sym, ap, ◌∙◌, subst}
use Rattle.std.proofs.lemmas.List.{append_assoc}
use Rattle.std.specs.Prelude.{Some}
use Rattle.fr_base.specs.declared.place.Op.{Op}
use Rattle.fr_base.specs.declared.place.Op.TheVariants.{Add, Sub, Mul}
use Rattle.fr_terms.specs.Terms.{Text, Captured, Term, block_t, let_t, assign_t, read_t, borrow_t, borrow_mut_t, number_t, unit_t, box_t, print_t, arith_t, join_t, mutex_t, dup_t, lock_t, spawn_t, par_t, Items, none, item, IsBlock}
use Rattle.fr_syntax.specs.declared.kind.TokenKind.{TokenKind}
use Rattle.fr_syntax.specs.declared.kind.TokenKind.TheVariants.{Name, Number, End, LetWord, MutWord, BoxWord, PrintWord, SpawnWord, JoinWord, ParWord, MutexWord, LockWord, AsWord, DupWord, OpenBrace, CloseBrace, OpenParen, CloseParen, Semicolon, Comma, Equals, Amp, Star, Plus, Minus}
use Rattle.fr_syntax.specs.declared.token.Token.{Token}
use Rattle.fr_grammar.specs.Grammar.{Has, SpellsPath, SpellsCaptures, SpellsNames, SpellsOthers, SpellsNumber, mark_of_op, Spells, SpellsItems, SpellsMore, IsProgram}
use Rattle.fr_grammar.specs.Table.{Symbol, block_s, items_s, more_s, term_s, rest_s, inner_s, op_s, borrow_s, place_s, captures_s, list_s, next_s, name_s, number_s, mut_s, as_s, equals_s, close_s, end_s, one_less, term_entry, item_entry, and_then}
use Rattle.fr_grammar.proofs.ReadingSteps.{has_cons}
use Rattle.fr_grammar.proofs.TableSteps.{next_of, after_or, after}
use Rattle.fr_grammar.proofs.TableTerms.{any_entry}

-- over such a token the table goes on so
step : (kind : TokenKind) (ts rest : List Token) (k next : List Symbol) → Has kind ts rest → next_of k kind ≡ Some next → after ts k ≡ after rest next
step kind [] rest k next h e = absurd h
step kind (t ∷ ts) rest k next h e = ap (after_or (after ts)) (ap (next_of k) h.0 ∙ e) ∙ ap (λ r. after r next) h.1

-- a token comes, and no mark of an assignment
abbrev pub NoEquals : List Token → Type 0
NoEquals [] = ⊥
NoEquals (t ∷ ts) = t.kind ≢ Equals

-- such as another token
pub has_no_equals : (kind : TokenKind) (ts rest : List Token) → kind ≢ Equals → Has kind ts rest → NoEquals ts
has_no_equals kind [] rest other h = absurd h
has_no_equals kind (t ∷ ts) rest other h = λ e. other (sym h.0 ∙ e)

-- then a place is not assigned to
rest_after : (levels : ℕ) (ts : List Token) (k : List Symbol) → NoEquals ts → after ts (rest_s levels ∷ k) ≡ after ts k
rest_after levels [] k other = absurd other
rest_after levels (t ∷ ts) k other = by t.kind other
  where
    by : (kind : TokenKind) → kind ≢ Equals → after_or (after ts) (next_of (rest_s levels ∷ k) kind) ≡ after_or (after ts) (next_of k kind)
    by Equals other = absurd (other refl)
    by kind other = refl

-- what begins a term also begins an item
pub term_is_any : (b : Bool) (d : ℕ) (kind : TokenKind) (symbols : List Symbol) → term_entry d kind ≡ Some symbols → any_entry b d kind ≡ Some symbols
term_is_any true d LetWord symbols e = cc
term_is_any true d kind symbols e = e
term_is_any false d kind symbols e = e

-- the table goes on from the first of these tokens, as that of an item or a term, to the rest
pub record Goes (b : Bool) (d : ℕ) (ts rest : List Token) : Type 0 where
  pub first : Token
  pub others : List Token
  pub symbols : List Symbol
  pub all : ts ≡ first ∷ others
  pub entry : any_entry b d first.kind ≡ Some symbols
  pub on : (k : List Symbol) → after others (symbols ++ k) ≡ after rest k

-- from what its first token is
goes_by : (b : Bool) (d : ℕ) (kind : TokenKind) (ts a rest : List Token) (symbols : List Symbol) → Has kind ts a → any_entry b d kind ≡ Some symbols → ((k : List Symbol) → after a (symbols ++ k) ≡ after rest k) → Goes b d ts rest
goes_by b d kind ts a rest symbols h e on =
    let s = has_cons kind ts a h in
    record { first = s.0; others = a; symbols = symbols; all = s.1; entry = ap (any_entry b d) s.2 ∙ e; on = on }

-- the same of a term
term_by : (b : Bool) (d : ℕ) (kind : TokenKind) (ts a rest : List Token) (symbols : List Symbol) → Has kind ts a → term_entry d kind ≡ Some symbols → ((k : List Symbol) → after a (symbols ++ k) ≡ after rest k) → Goes b d ts rest
term_by b d kind ts a rest symbols h e on = goes_by b d kind ts a rest symbols h (term_is_any b d kind symbols e) on

-- where a term is expected
term_after : (d : ℕ) (ts rest : List Token) (k : List Symbol) → Goes false d ts rest → after ts (term_s d ∷ k) ≡ after rest k
term_after d ts rest k g = ap (λ r. after r (term_s d ∷ k)) g.all ∙ ap (λ o. after_or (after g.others) (and_then o k)) g.entry ∙ g.on k

-- where an item is expected
item_after : (d : ℕ) (ts rest : List Token) (k : List Symbol) → Goes true d ts rest → after ts (items_s d ∷ k) ≡ after rest (more_s d ∷ k)
item_after d ts rest k g = ap (λ r. after r (items_s d ∷ k)) g.all ∙ ap (after_or (after g.others)) (by g.first.kind g.entry) ∙ g.on (more_s d ∷ k)
  where
    by : (kind : TokenKind) → item_entry d kind ≡ Some g.symbols → next_of (items_s d ∷ k) kind ≡ Some (g.symbols ++ more_s d ∷ k)
    by CloseBrace e = cc
    by kind e = ap (λ o. and_then (and_then o (more_s d ∷ [])) k) e ∙ ap (λ r. Some r) (append_assoc g.symbols (more_s d ∷ []) k)

-- where a term is expected behind `(`
inner_after : (d : ℕ) (ts rest : List Token) (k : List Symbol) → Goes false d ts rest → after ts (inner_s d ∷ k) ≡ after rest (op_s ∷ term_s d ∷ close_s ∷ k)
inner_after d ts rest k g = ap (λ r. after r (inner_s d ∷ k)) g.all ∙ ap (after_or (after g.others)) (by g.first.kind g.entry) ∙ g.on (op_s ∷ term_s d ∷ close_s ∷ k)
  where
    by : (kind : TokenKind) → term_entry d kind ≡ Some g.symbols → next_of (inner_s d ∷ k) kind ≡ Some (g.symbols ++ op_s ∷ term_s d ∷ close_s ∷ k)
    by CloseParen e = cc
    by kind e = ap (λ o. and_then (and_then o (op_s ∷ term_s d ∷ close_s ∷ [])) k) e ∙ ap (λ r. Some r) (append_assoc g.symbols (op_s ∷ term_s d ∷ close_s ∷ []) k)

-- a block begins with its opening mark
pub block_opens : (names : List Text) (b : Bool) (t : Term) (ts rest : List Token) → IsBlock t → Spells names b t ts rest → (a : List Token) × Has OpenBrace ts a
block_opens names b (block_t at items) ts rest is (a, begins, h) = (a, begins.0)
block_opens names b t ts rest is h = absurd is

-- where a block is expected
block_after : (d : ℕ) (ts rest : List Token) (k : List Symbol) → Goes false d ts rest → (a : List Token) × Has OpenBrace ts a → after ts (block_s d ∷ k) ≡ after rest k
block_after d ts rest k g h =
    let opens : g.first.kind ≡ OpenBrace = by ts g.first g.others g.all h in
    let same : next_of (block_s d ∷ k) g.first.kind ≡ and_then (term_entry d g.first.kind) k = ap (next_of (block_s d ∷ k)) opens ∙ ap (λ kind. and_then (term_entry d kind) k) (sym opens) in
    ap (λ r. after r (block_s d ∷ k)) g.all ∙ ap (after_or (after g.others)) same ∙ ap (λ o. after_or (after g.others) (and_then o k)) g.entry ∙ g.on k
  where
    by : (ts : List Token) (t : Token) (us : List Token) → ts ≡ t ∷ us → (a : List Token) × Has OpenBrace ts a → t.kind ≡ OpenBrace
    by ts t us e h = let moved : Has OpenBrace (t ∷ us) h.0 = subst (λ r. Has OpenBrace r h.0) e h.1 in moved.0

-- a place
path_after : (names : List Text) (n : ℕ) (name : Text) (stars : ℕ) (ts rest : List Token) (k : List Symbol) → SpellsPath names n name ts rest → after ts (place_s stars ∷ k) ≡ after rest k
path_after names zero name stars ts rest k h = step (Name h.0) ts rest (place_s stars ∷ k) k h.2 refl
path_after names (suc n) name stars ts rest k h =
    step Star ts h.0 (place_s stars ∷ k) (place_s (one_less stars) ∷ k) h.1 refl ∙ path_after names n name (one_less stars) h.0 rest k h.2

-- a place behind `&`
borrow_after : (names : List Text) (n : ℕ) (name : Text) (ts rest : List Token) (k : List Symbol) → SpellsPath names n name ts rest → after ts (borrow_s ∷ k) ≡ after rest k
borrow_after names zero name ts rest k h = step (Name h.0) ts rest (borrow_s ∷ k) k h.2 refl
borrow_after names (suc n) name ts rest k h = step Star ts h.0 (borrow_s ∷ k) (place_s 7 ∷ k) h.1 refl ∙ path_after names n name 7 h.0 rest k h.2

-- a term that begins with a place
placed_goes : (names : List Text) (b : Bool) (d n : ℕ) (name : Text) (ts a rest : List Token) → SpellsPath names n name ts a → ((k : List Symbol) → after a (rest_s (one_less d) ∷ k) ≡ after rest k) → Goes b d ts rest
placed_goes names b d zero name ts a rest h on = term_by b d (Name h.0) ts a rest (rest_s (one_less d) ∷ []) h.2 refl on
placed_goes names b d (suc n) name ts a rest h on =
    term_by b d Star ts h.0 rest (place_s 7 ∷ rest_s (one_less d) ∷ []) h.1 refl (λ k. path_after names n name 7 h.0 a (rest_s (one_less d) ∷ k) h.2 ∙ on k)

-- captured names behind the first
others_after : (names : List Text) (cs : List Captured) (ts rest : List Token) (k : List Symbol) → SpellsOthers names cs ts rest → after ts (next_s ∷ k) ≡ after rest k
others_after names [] ts rest k h = step CloseParen ts rest (next_s ∷ k) k h refl
others_after names (c ∷ cs) ts rest k (x, y, comma, place, named, more) =
    step Comma ts x (next_s ∷ k) (name_s ∷ next_s ∷ k) comma refl ∙ step (Name named.0) x y (name_s ∷ next_s ∷ k) (next_s ∷ k) named.2 refl ∙ others_after names cs y rest k more

-- captured names
names_after : (names : List Text) (cs : List Captured) (ts rest : List Token) (k : List Symbol) → SpellsNames names cs ts rest → after ts (list_s ∷ k) ≡ after rest k
names_after names [] ts rest k h = step CloseParen ts rest (list_s ∷ k) k h refl
names_after names (c ∷ cs) ts rest k (x, place, named, more) = step (Name named.0) ts x (list_s ∷ k) (next_s ∷ k) named.2 refl ∙ others_after names cs x rest k more

-- a capture list
captures_after : (names : List Text) (cs : List Captured) (ts rest : List Token) (k : List Symbol) → SpellsCaptures names cs ts rest → after ts (captures_s ∷ k) ≡ after rest k
captures_after names cs ts rest k (x, opens, h) = step OpenParen ts x (captures_s ∷ k) (list_s ∷ k) opens refl ∙ names_after names cs x rest k h

-- the mark between two operands
op_after : (op : Op) (ts rest : List Token) (k : List Symbol) → Has (mark_of_op op) ts rest → after ts (op_s ∷ k) ≡ after rest k
op_after Add ts rest k h = step Plus ts rest (op_s ∷ k) k h refl
op_after Sub ts rest k h = step Minus ts rest (op_s ∷ k) k h refl
op_after Mul ts rest k h = step Star ts rest (op_s ∷ k) k h refl

-- which is no mark of an assignment
pub op_no_equals : (op : Op) (ts rest : List Token) → Has (mark_of_op op) ts rest → NoEquals ts
op_no_equals Add ts rest h = has_no_equals Plus ts rest (λ e. cc) h
op_no_equals Sub ts rest h = has_no_equals Minus ts rest (λ e. cc) h
op_no_equals Mul ts rest h = has_no_equals Star ts rest (λ e. cc) h

-- behind an item comes no mark of an assignment
pub more_no_equals : (names : List Text) (more : Items) (ts rest : List Token) → SpellsMore names more ts rest → NoEquals ts
more_no_equals names none ts rest h = has_no_equals CloseBrace ts rest (λ e. cc) h
more_no_equals names (item first more) ts rest h = has_no_equals Semicolon ts h.0 (λ e. cc) h.1

-- a capture list begins with its opening mark
pub captures_no_equals : (names : List Text) (cs : List Captured) (ts rest : List Token) → SpellsCaptures names cs ts rest → NoEquals ts
captures_no_equals names cs ts rest (x, opens, h) = has_no_equals OpenParen ts x (λ e. cc) opens

-- a number
number_goes : (b : Bool) (d at : ℕ) (value : ℤ) (ts rest : List Token) → SpellsNumber at value ts rest → Goes b d ts rest
number_goes b d at value ts rest (inl h) = term_by b d (Number value) ts rest rest [] h.0 refl (λ k. refl)
number_goes b d at value ts rest (inr (a, size, h, num, is)) =
    term_by b d Minus ts a rest (number_s ∷ []) h.0 refl (λ k. step (Number size) a rest (number_s ∷ k) k num refl)

-- what holds one term, behind its word
one_goes : (b : Bool) (d : ℕ) (kind : TokenKind) (ts a rest : List Token) → Has kind ts a → term_entry d kind ≡ Some (term_s (one_less d) ∷ []) → Goes false (one_less d) a rest → Goes b d ts rest
one_goes b d kind ts a rest h e g = term_by b d kind ts a rest (term_s (one_less d) ∷ []) h e (λ k. term_after (one_less d) a rest k g)

mutual
  -- an item or a term
  pub goes : (names : List Text) (t : Term) (b : Bool) (d : ℕ) (ts rest : List Token) → Spells names b t ts rest → NoEquals rest → Goes b d ts rest
  goes names (let_t at name value) b d ts rest (x, y, z, w, is, begins, mut, named, eq, h) other =
      subst (λ b. Goes b d ts rest) (sym is)
      (goes_by true d LetWord ts x rest (mut_s ∷ name_s ∷ equals_s ∷ term_s (one_less d) ∷ []) begins.0 refl
      (λ k. step MutWord x y (mut_s ∷ name_s ∷ equals_s ∷ term_s (one_less d) ∷ k) (name_s ∷ equals_s ∷ term_s (one_less d) ∷ k) mut refl
      ∙ step (Name named.0) y z (name_s ∷ equals_s ∷ term_s (one_less d) ∷ k) (equals_s ∷ term_s (one_less d) ∷ k) named.2 refl
      ∙ step Equals z w (equals_s ∷ term_s (one_less d) ∷ k) (term_s (one_less d) ∷ k) eq refl
      ∙ term_after (one_less d) w rest k (goes names value false (one_less d) w rest h other)))
  goes names (block_t at items) b d ts rest (x, begins, h) other =
      term_by b d OpenBrace ts x rest (items_s (one_less d) ∷ []) begins.0 refl (λ k. go_items names items (one_less d) x rest k h)
  goes names (read_t at from) b d ts rest h other = placed_goes names b d from.stars from.name ts rest rest h.1.1 (λ k. rest_after (one_less d) rest k other)
  goes names (assign_t at to value) b d ts rest (x, y, same, place, eq, h) other =
      placed_goes names b d to.stars to.name ts x rest place.1
      (λ k. step Equals x y (rest_s (one_less d) ∷ k) (term_s (one_less d) ∷ k) eq refl ∙ term_after (one_less d) y rest k (goes names value false (one_less d) y rest h other))
  goes names (box_t at value) b d ts rest (x, begins, h) other = one_goes b d BoxWord ts x rest begins.0 refl (goes names value false (one_less d) x rest h other)
  goes names (print_t at value) b d ts rest (x, begins, h) other = one_goes b d PrintWord ts x rest begins.0 refl (goes names value false (one_less d) x rest h other)
  goes names (join_t at task) b d ts rest (x, begins, h) other = one_goes b d JoinWord ts x rest begins.0 refl (goes names task false (one_less d) x rest h other)
  goes names (mutex_t at value) b d ts rest (x, begins, h) other = one_goes b d MutexWord ts x rest begins.0 refl (goes names value false (one_less d) x rest h other)
  goes names (dup_t at of) b d ts rest (x, begins, place) other =
      term_by b d DupWord ts x rest (place_s 8 ∷ []) begins.0 refl (λ k. path_after names of.stars of.name 8 x rest k place.1)
  goes names (borrow_t at of) b d ts rest (x, begins, place) other =
      term_by b d Amp ts x rest (borrow_s ∷ []) begins.0 refl (λ k. borrow_after names of.stars of.name x rest k place.1)
  goes names (borrow_mut_t at of) b d ts rest (x, y, begins, mut, place) other =
      term_by b d Amp ts x rest (borrow_s ∷ []) begins.0 refl
      (λ k. step MutWord x y (borrow_s ∷ k) (place_s 8 ∷ k) mut refl ∙ path_after names of.stars of.name 8 y rest k place.1)
  goes names (number_t at value) b d ts rest h other = number_goes b d at value ts rest h
  goes names (unit_t at) b d ts rest (x, begins, close) other =
      term_by b d OpenParen ts x rest (inner_s (one_less d) ∷ []) begins.0 refl (λ k. step CloseParen x rest (inner_s (one_less d) ∷ k) k close refl)
  goes names (arith_t at op left right) b d ts rest (x, y, z, w, begins, h, mark, i, close) other =
      term_by b d OpenParen ts x rest (inner_s (one_less d) ∷ []) begins.0 refl
      (λ k. inner_after (one_less d) x y k (goes names left false (one_less d) x y h (op_no_equals op y z mark))
      ∙ op_after op y z (term_s (one_less d) ∷ close_s ∷ k) mark
      ∙ term_after (one_less d) z w (close_s ∷ k) (goes names right false (one_less d) z w i (has_no_equals CloseParen w rest (λ e. cc) close))
      ∙ step CloseParen w rest (close_s ∷ k) k close refl)
  goes names (spawn_t at captures body) b d ts rest (x, y, begins, list, is, h) other =
      term_by b d SpawnWord ts x rest (captures_s ∷ block_s (one_less d) ∷ []) begins.0 refl
      (λ k. captures_after names captures x y (block_s (one_less d) ∷ k) list
      ∙ block_after (one_less d) y rest k (goes names body false (one_less d) y rest h other) (block_opens names false body y rest is h))
  goes names (par_t at captures body others other_body) b d ts rest (x, y, z, w, begins, list, is, h, list_two, is_two, h_two) other =
      term_by b d ParWord ts x rest (captures_s ∷ block_s (one_less d) ∷ captures_s ∷ block_s (one_less d) ∷ []) begins.0 refl
      (λ k. captures_after names captures x y (block_s (one_less d) ∷ captures_s ∷ block_s (one_less d) ∷ k) list
      ∙ block_after (one_less d) y z (captures_s ∷ block_s (one_less d) ∷ k) (goes names body false (one_less d) y z h (captures_no_equals names others z w list_two)) (block_opens names false body y z is h)
      ∙ captures_after names others z w (block_s (one_less d) ∷ k) list_two
      ∙ block_after (one_less d) w rest k (goes names other_body false (one_less d) w rest h_two other) (block_opens names false other_body w rest is_two h_two))
  goes names (lock_t at of name body) b d ts rest (x, y, z, w, begins, place, as_word, named, is, h) other =
      term_by b d LockWord ts x rest (place_s 8 ∷ as_s ∷ name_s ∷ block_s (one_less d) ∷ []) begins.0 refl
      (λ k. path_after names of.stars of.name 8 x y (as_s ∷ name_s ∷ block_s (one_less d) ∷ k) place.1
      ∙ step AsWord y z (as_s ∷ name_s ∷ block_s (one_less d) ∷ k) (name_s ∷ block_s (one_less d) ∷ k) as_word refl
      ∙ step (Name named.0) z w (name_s ∷ block_s (one_less d) ∷ k) (block_s (one_less d) ∷ k) named.2 refl
      ∙ block_after (one_less d) w rest k (goes names body false (one_less d) w rest h other) (block_opens names false body w rest is h))

  -- the items of a block
  pub go_items : (names : List Text) (items : Items) (d : ℕ) (ts rest : List Token) (k : List Symbol) → SpellsItems names items ts rest → after ts (items_s d ∷ k) ≡ after rest k
  go_items names none d ts rest k h = step CloseBrace ts rest (items_s d ∷ k) k h refl
  go_items names (item first more) d ts rest k (x, h, next) =
      item_after d ts x k (goes names first true d ts x h (more_no_equals names more x rest next)) ∙ go_more names more d x rest k next

  -- what stands behind an item
  pub go_more : (names : List Text) (items : Items) (d : ℕ) (ts rest : List Token) (k : List Symbol) → SpellsMore names items ts rest → after ts (more_s d ∷ k) ≡ after rest k
  go_more names none d ts rest k h = step CloseBrace ts rest (more_s d ∷ k) k h refl
  go_more names (item first more) d ts rest k (x, semi, inl (y, h, next)) =
      step Semicolon ts x (more_s d ∷ k) (items_s d ∷ k) semi refl
      ∙ item_after d x y k (goes names first true d x y h (more_no_equals names more y rest next)) ∙ go_more names more d y rest k next
  go_more names (item first more) d ts rest k (x, semi, inr (place, unit, last, close)) =
      step Semicolon ts x (more_s d ∷ k) (items_s d ∷ k) semi refl ∙ step CloseBrace x rest (items_s d ∷ k) k close.0 refl

-- a program
pub program_goes : (names : List Text) (d : ℕ) (ts : List Token) (t : Term) → IsProgram names ts t → after ts (block_s d ∷ end_s ∷ []) ≡ Some []
program_goes names d ts t (is, (a, h, end)) =
    block_after d ts a (end_s ∷ []) (goes names t false d ts a h (has_no_equals End a [] (λ e. cc) end)) (block_opens names false t ts a is h)
    ∙ step End a [] (end_s ∷ []) [] end refl
