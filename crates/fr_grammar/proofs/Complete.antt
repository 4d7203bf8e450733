-- What is in the grammar and within the limits is read.
use Rattle.std.proofs.Common.{◌≡◌, ◌≢◌, ℕ, zero, suc, ◌+◌, ◌<◌, ◌≤◌, ℤ, Bool, true, false, List, [], ◌∷◌, length, refl, sym, ap, ◌∙◌, subst, inl, inr, arith}
use Rattle.std.specs.Prelude.{Result, Ok, Err}
use Rattle.fr_terms.specs.Terms.{Text, Captured, Term, block_t, let_t, assign_t, read_t, borrow_t, borrow_mut_t, number_t, unit_t, box_t, print_t, arith_t, join_t, mutex_t, dup_t, lock_t, spawn_t, par_t, Items, none, item}
use Rattle.fr_terms.specs.Limits.{levels, levels_of, HasShortPlaces, HaveShortPlaces}
use Rattle.fr_syntax.specs.declared.kind.TokenKind.{TokenKind}
use Rattle.fr_syntax.specs.declared.kind.TokenKind.TheVariants.{Name, Number, LetWord, MutWord, BoxWord, PrintWord, SpawnWord, JoinWord, ParWord, MutexWord, LockWord, AsWord, DupWord, OpenBrace, CloseBrace, OpenParen, CloseParen, Semicolon, Equals, Amp, Star, Minus}
use Rattle.fr_syntax.specs.declared.token.Token.{Token}
use Rattle.fr_grammar.specs.declared.fault.ParseError.{ParseError}
use Rattle.fr_grammar.specs.declared.marks.Next.{Next}
use Rattle.fr_grammar.specs.declared.marks.Next.TheVariants.{Close, LastUnit, More}
use Rattle.fr_grammar.specs.Grammar.{Has, Begins, SpellsPath, SpellsNumber, SpellsNames, SpellsCaptures, mark_of_op, Spells, SpellsItems, SpellsMore}
use Rattle.fr_grammar.specs.Reading.{◌>>=◌, Read, semicolon_at, semicolon_kind, next_kind, next_at, item_next, after_item, items_at, block_kind, block_at, any_at}
use Rattle.fr_grammar.proofs.ReadingSteps.{bind_by, begins_cons, at_term}
use Rattle.fr_grammar.proofs.CompleteRows.{NoEquals, has_no_equals, op_no_equals, NoClose, has_length, others_length, item_no_close, term_no_paren, unit_read, number_read, borrow_read, borrow_mut_read, dup_read, box_read, print_read, join_read, mutex_read, arith_read, spawn_read, par_read, lock_read, read_read, assign_read, let_read}

-- how many items there are
abbrev pub count : Items → ℕ
count none = 0
count (item first rest) = suc (count rest)

-- a place takes a token
path_length : (names : List Text) (n : ℕ) (name : Text) (ts rest : List Token) → SpellsPath names n name ts rest → length rest < length ts
path_length names zero name ts rest h = omega (arith, has_length (Name h.0) ts rest h.2)
path_length names (suc n) name ts rest h = omega (arith, has_length Star ts h.0 h.1, path_length names n name h.0 rest h.2)

-- a number takes a token
number_length : (at : ℕ) (value : ℤ) (ts rest : List Token) → SpellsNumber at value ts rest → length rest < length ts
number_length at value ts rest (inl h) = omega (arith, has_length (Number value) ts rest h.0)
number_length at value ts rest (inr h) = omega (arith, has_length Minus ts h.0 h.2.0, has_length (Number h.1) h.0 rest h.3)

-- the names of a capture list take some
names_length : (names : List Text) (cs : List Captured) (ts rest : List Token) → SpellsNames names cs ts rest → length rest < length ts
names_length names [] ts rest h = omega (arith, has_length CloseParen ts rest h)
names_length names (c ∷ cs) ts rest (a, at, named, more) = omega (arith, has_length (Name named.0) ts a named.2, others_length names cs a rest more)

-- so does a capture list
captures_length : (names : List Text) (cs : List Captured) (ts rest : List Token) → SpellsCaptures names cs ts rest → length rest < length ts
captures_length names cs ts rest (a, mark, h) = omega (arith, has_length OpenParen ts a mark, names_length names cs a rest h)

-- a term takes a token, and so does each item
mutual
  pub takes_some : (names : List Text) (b : Bool) (t : Term) (ts rest : List Token) → Spells names b t ts rest → length rest < length ts
  takes_some names b (let_t at name value) ts rest (x, y, z, w, is, begins, mut, named, eq, h) =
      omega (arith, has_length LetWord ts x begins.0, has_length MutWord x y mut, has_length (Name named.0) y z named.2, has_length Equals z w eq, takes_some names false value w rest h)
  takes_some names b (block_t at items) ts rest (x, begins, h) = omega (arith, has_length OpenBrace ts x begins.0, take_some names items x rest h)
  takes_some names b (read_t at from) ts rest h = path_length names from.stars from.name ts rest h.1.1
  takes_some names b (assign_t at to value) ts rest (x, y, same, place, eq, h) =
      omega (arith, path_length names to.stars to.name ts x place.1, has_length Equals x y eq, takes_some names false value y rest h)
  takes_some names b (box_t at value) ts rest (x, begins, h) = omega (arith, has_length BoxWord ts x begins.0, takes_some names false value x rest h)
  takes_some names b (print_t at value) ts rest (x, begins, h) = omega (arith, has_length PrintWord ts x begins.0, takes_some names false value x rest h)
  takes_some names b (join_t at task) ts rest (x, begins, h) = omega (arith, has_length JoinWord ts x begins.0, takes_some names false task x rest h)
  takes_some names b (mutex_t at value) ts rest (x, begins, h) = omega (arith, has_length MutexWord ts x begins.0, takes_some names false value x rest h)
  takes_some names b (dup_t at of) ts rest (x, begins, place) = omega (arith, has_length DupWord ts x begins.0, path_length names of.stars of.name x rest place.1)
  takes_some names b (borrow_t at of) ts rest (x, begins, place) = omega (arith, has_length Amp ts x begins.0, path_length names of.stars of.name x rest place.1)
  takes_some names b (borrow_mut_t at of) ts rest (x, y, begins, mut, place) =
      omega (arith, has_length Amp ts x begins.0, has_length MutWord x y mut, path_length names of.stars of.name y rest place.1)
  takes_some names b (number_t at value) ts rest h = number_length at value ts rest h
  takes_some names b (unit_t at) ts rest (x, begins, h) = omega (arith, has_length OpenParen ts x begins.0, has_length CloseParen x rest h)
  takes_some names b (arith_t at op left right) ts rest (x, y, z, w, begins, one, mark, two, close) =
      omega (arith, has_length OpenParen ts x begins.0, takes_some names false left x y one, has_length (mark_of_op op) y z mark, takes_some names false right z w two, has_length CloseParen w rest close)
  takes_some names b (spawn_t at captures body) ts rest (x, y, begins, listed, block, h) =
      omega (arith, has_length SpawnWord ts x begins.0, captures_length names captures x y listed, takes_some names false body y rest h)
  takes_some names b (par_t at captures body others other) ts rest (x, y, z, w, begins, listed, block, h, listed2, block2, h2) =
      omega (arith, has_length ParWord ts x begins.0, captures_length names captures x y listed, takes_some names false body y z h, captures_length names others z w listed2, takes_some names false other w rest h2)
  takes_some names b (lock_t at of name body) ts rest (x, y, z, w, begins, place, word, named, block, h) =
      omega (arith, has_length LockWord ts x begins.0, path_length names of.stars of.name x y place.1, has_length AsWord y z word, has_length (Name named.0) z w named.2, takes_some names false body w rest h)

  -- the items of a block, with the mark behind them
  pub take_some : (names : List Text) (items : Items) (ts rest : List Token) → SpellsItems names items ts rest → count items + length rest < length ts
  take_some names none ts rest h = omega (arith, has_length CloseBrace ts rest h)
  take_some names (item first more) ts rest (x, h, next) = omega (arith, takes_some names true first ts x h, more_take names more x rest next)

  -- what stands behind an item
  pub more_take : (names : List Text) (items : Items) (ts rest : List Token) → SpellsMore names items ts rest → count items + length rest < length ts
  more_take names none ts rest h = omega (arith, has_length CloseBrace ts rest h)
  more_take names (item first more) ts rest (x, semi, inl (y, h, next)) =
      omega (arith, has_length Semicolon ts x semi, takes_some names true first x y h, more_take names more y rest next)
  more_take names (item first more) ts rest (x, semi, inr (place, unit, last, close)) =
      omega (arith, has_length Semicolon ts x semi, ap count last, has_length CloseBrace x rest close.0)

-- what stands behind an item
close_next : (ts rest : List Token) → Has CloseBrace ts rest → next_at ts ≡ Ok (Close, rest)
unfolding next_at
close_next [] rest h = absurd h
close_next (t ∷ ts) rest h = ap (λ k. next_kind k t.start ts) h.0 ∙ ap (λ r. Ok (Close, r)) h.1

-- a semicolon before an item
more_next : (ts rest : List Token) → Has Semicolon ts rest → NoClose rest → next_at ts ≡ Ok (More, rest)
unfolding next_at
more_next [] rest h other = absurd h
more_next (t ∷ ts) rest h other = ap (λ k. next_kind k t.start ts) h.0 ∙ ap semicolon_at h.1 ∙ by rest other
  where
    at_kind : (k : TokenKind) (u : Token) (us : List Token) → k ≢ CloseBrace → semicolon_kind k u.start us (u ∷ us) ≡ Ok (More, u ∷ us)
    at_kind CloseBrace u us other = absurd (other refl)
    at_kind k u us other = refl

    by : (rest : List Token) → NoClose rest → semicolon_at rest ≡ Ok (More, rest)
    by [] other = refl
    by (u ∷ us) other = at_kind u.kind u us other

-- a semicolon before the end of the block
unit_next : (place : ℕ) (ts a rest : List Token) → Has Semicolon ts a → Begins CloseBrace place a rest → next_at ts ≡ Ok (LastUnit place, rest)
unfolding next_at
unit_next place [] a rest h close = absurd h
unit_next place (t ∷ ts) a rest h close = ap (λ k. next_kind k t.start ts) h.0 ∙ ap semicolon_at h.1 ∙ by a close
  where
    by : (a : List Token) → Begins CloseBrace place a rest → semicolon_at a ≡ Ok (LastUnit place, rest)
    by [] close = absurd close.1
    by (u ∷ us) close = ap (λ k. semicolon_kind k u.start us (u ∷ us)) close.0.0 ∙ ap (λ p. Ok (LastUnit p, us)) close.1 ∙ ap (λ r. Ok (LastUnit place, r)) close.0.1

-- a first item, and then as what stands behind it says
items_step : (read_item : List Token → Read Term) (n : ℕ) (first : Term) (ts a : List Token) → read_item ts ≡ Ok (first, a) → items_at read_item (suc n) ts ≡ (next_at a >>= λ y. after_item (items_at read_item n) first y.0 y.1)
unfolding items_at item_next
items_step read_item n first ts a e =
    ap (λ r. with_next r >>= go) e ∙ by (next_at a)
  where
    with_first : Next × List Token → Result (Term × Next × List Token) ParseError
    with_first y = Ok (first, y.0, y.1)

    with_next : Read Term → Result (Term × Next × List Token) ParseError
    with_next r = r >>= λ x. next_at x.1 >>= λ y. Ok (x.0, y.0, y.1)

    go : Term × Next × List Token → Read Items
    go x = after_item (items_at read_item n) x.0 x.1 x.2

    by : (r : Read Next) → ((r >>= with_first) >>= go) ≡ (r >>= λ y. after_item (items_at read_item n) first y.0 y.1)
    by (Ok y) = refl
    by (Err e) = refl

-- an item goes first
first_step : (read_item : List Token → Read Term) (n : ℕ) (first : Term) (items : Items) (ts a rest : List Token) → next_at ts ≡ Ok (More, a) → items_at read_item n a ≡ Ok (items, rest) → (next_at ts >>= λ y. after_item (items_at read_item n) first y.0 y.1) ≡ Ok (item first items, rest)
first_step read_item n first items ts a rest e again =
    ap (λ r. r >>= λ y. after_item (items_at read_item n) first y.0 y.1) e ∙ ap (λ r. r >>= λ x. Ok (item first x.0, x.1)) again

-- a block, from what is read of its items
module _ (names : List Text) (d : ℕ) (b : Bool) where
  -- a block without items
  empty_read : (at : ℕ) (ts a rest : List Token) → Begins OpenBrace at ts a → Has CloseBrace a rest → any_at names (suc d) b ts ≡ Ok (block_t at none, rest)
  unfolding block_at
  empty_read at ts a rest h close =
      let s = begins_cons OpenBrace at ts a h in
      subst (λ ts. any_at names (suc d) b ts ≡ Ok (block_t at none, rest)) (sym s.1) (at_term names d b OpenBrace at s.0 a s.2 s.3 refl ∙ by a close)
    where
      by : (a : List Token) → Has CloseBrace a rest → block_at (any_at names d true) at a ≡ Ok (block_t at none, rest)
      by [] close = absurd close
      by (u ∷ us) close = ap (λ k. block_kind (any_at names d true) at k us (u ∷ us)) close.0 ∙ ap (λ r. Ok (block_t at none, r)) close.1

  -- a block with items
  items_read : (at : ℕ) (items : Items) (ts a rest : List Token) → Begins OpenBrace at ts a → NoClose a → items_at (any_at names d true) (suc (length a)) a ≡ Ok (items, rest) → any_at names (suc d) b ts ≡ Ok (block_t at items, rest)
  unfolding block_at
  items_read at items ts a rest h other e =
      let s = begins_cons OpenBrace at ts a h in
      subst (λ ts. any_at names (suc d) b ts ≡ Ok (block_t at items, rest)) (sym s.1)
      (at_term names d b OpenBrace at s.0 a s.2 s.3 refl ∙ by a other ∙ bind_by (items_at (any_at names d true) (suc (length a)) a) (items, rest) (λ x. Ok (block_t at x.0, x.1)) e)
    where
      at_kind : (k : TokenKind) (u : Token) (us : List Token) → k ≢ CloseBrace → block_kind (any_at names d true) at k us (u ∷ us) ≡ (items_at (any_at names d true) (suc (length (u ∷ us))) (u ∷ us) >>= λ x. Ok (block_t at x.0, x.1))
      at_kind CloseBrace u us other = absurd (other refl)
      at_kind k u us other = refl

      by : (a : List Token) → NoClose a → block_at (any_at names d true) at a ≡ (items_at (any_at names d true) (suc (length a)) a >>= λ x. Ok (block_t at x.0, x.1))
      by [] other = refl
      by (u ∷ us) other = at_kind u.kind u us other

-- behind an item no assignment's mark comes
more_no_equals : (names : List Text) (more : Items) (ts rest : List Token) → SpellsMore names more ts rest → NoEquals ts
more_no_equals names none ts rest h = has_no_equals CloseBrace ts rest (λ e. cc) h
more_no_equals names (item first more) ts rest h = has_no_equals Semicolon ts h.0 (λ e. cc) h.1

-- nor does one at the head of a capture list
captures_no_equals : (names : List Text) (cs : List Captured) (ts rest : List Token) → SpellsCaptures names cs ts rest → NoEquals ts
captures_no_equals names cs ts rest (a, mark, h) = has_no_equals OpenParen ts a (λ e. cc) mark

-- a term has a level
pub some_levels : (t : Term) → 0 < levels t
some_levels (block_t at items) = omega arith
some_levels t = omega arith

mutual
  -- a term is read in the levels that it has
  pub complete : (names : List Text) (t : Term) (d : ℕ) (b : Bool) (ts rest : List Token) → Spells names b t ts rest → levels t ≤ d → HasShortPlaces t → NoEquals rest → any_at names d b ts ≡ Ok (t, rest)
  complete names t zero b ts rest h deep short other = absurd (omega (arith, some_levels t))
  complete names (let_t at name value) (suc d) b ts rest (x, y, z, w, is, begins, mut, named, eq, h) deep short other =
      let_read names d b at name value ts x y z w rest is begins mut named eq (complete names value d false w rest h (omega arith) short other)
  complete names (block_t at none) (suc d) b ts rest (x, begins, close) deep short other = empty_read names d b at ts x rest begins close
  complete names (block_t at (item first more)) (suc d) b ts rest (x, begins, (y, h, next)) deep short other =
      let one = complete names first d true x y h (omega arith) short.0 (more_no_equals names more y rest next) in
      items_read names d b at (item first more) ts x rest begins (item_no_close names d x first y one)
      (items_step (any_at names d true) (length x) first x y one
      ∙ complete_more names more d (length x) first y rest next (omega arith) short.1 (omega (arith, takes_some names true first x y h, more_take names more y rest next)))
  complete names (read_t at from) (suc d) b ts rest (same, place) deep short other = read_read names d b at from ts rest same place short other
  complete names (assign_t at to value) (suc d) b ts rest (x, y, same, place, eq, h) deep short other =
      assign_read names d b at to value ts x y rest same place short.0 eq (complete names value d false y rest h (omega arith) short.1 other)
  complete names (box_t at value) (suc d) b ts rest (x, begins, h) deep short other = box_read names d b at value ts x rest begins (complete names value d false x rest h (omega arith) short other)
  complete names (print_t at value) (suc d) b ts rest (x, begins, h) deep short other = print_read names d b at value ts x rest begins (complete names value d false x rest h (omega arith) short other)
  complete names (join_t at task) (suc d) b ts rest (x, begins, h) deep short other = join_read names d b at task ts x rest begins (complete names task d false x rest h (omega arith) short other)
  complete names (mutex_t at value) (suc d) b ts rest (x, begins, h) deep short other = mutex_read names d b at value ts x rest begins (complete names value d false x rest h (omega arith) short other)
  complete names (dup_t at of) (suc d) b ts rest (x, begins, place) deep short other = dup_read names d b at of ts x rest begins place short
  complete names (borrow_t at of) (suc d) b ts rest (x, begins, place) deep short other = borrow_read names d b at of ts x rest begins place short
  complete names (borrow_mut_t at of) (suc d) b ts rest (x, y, begins, mut, place) deep short other = borrow_mut_read names d b at of ts x y rest begins mut place short
  complete names (number_t at value) (suc d) b ts rest h deep short other = number_read names d b at value ts rest h
  complete names (unit_t at) (suc d) b ts rest (x, begins, h) deep short other = unit_read names d b at ts x rest begins h
  complete names (arith_t at op left right) (suc d) b ts rest (x, y, z, w, begins, one, mark, two, close) deep short other =
      let first = complete names left d false x y one (omega arith) short.0 (has_no_equals (mark_of_op op) y z (op_no_equals op) mark) in
      let second = complete names right d false z w two (omega arith) short.1 (has_no_equals CloseParen w rest (λ e. cc) close) in
      arith_read names d b at op left right ts x y z w rest begins (term_no_paren names d x left y first) first mark second close
  complete names (spawn_t at captures body) (suc d) b ts rest (x, y, begins, listed, block, h) deep short other =
      spawn_read names d b at captures body ts x y rest begins listed block h (complete names body d false y rest h (omega arith) short other)
  complete names (par_t at captures body others last) (suc d) b ts rest (x, y, z, w, begins, listed, block, h, listed2, block2, h2) deep short other =
      par_read names d b at captures body others last ts x y z w rest begins listed block h
      (complete names body d false y z h (omega arith) short.0 (captures_no_equals names others z w listed2))
      listed2 block2 h2 (complete names last d false w rest h2 (omega arith) short.1 other)
  complete names (lock_t at of name body) (suc d) b ts rest (x, y, z, w, begins, place, word, named, block, h) deep short other =
      lock_read names d b at of name body ts x y z w rest begins place short.0 word named block h (complete names body d false w rest h (omega arith) short.1 other)

  -- what stands behind an item is read
  complete_more : (names : List Text) (more : Items) (d n : ℕ) (first : Term) (ts rest : List Token) → SpellsMore names more ts rest → levels_of more ≤ d → HaveShortPlaces more → count more ≤ n → (next_at ts >>= λ y. after_item (items_at (any_at names d true) n) first y.0 y.1) ≡ Ok (item first more, rest)
  complete_more names none d n first ts rest close deep short few = ap (λ r. r >>= λ y. after_item (items_at (any_at names d true) n) first y.0 y.1) (close_next ts rest close)
  complete_more names (item second more) d zero first ts rest h deep short few = absurd (omega arith)
  complete_more names (item second more) d (suc n) first ts rest (x, semi, inl (y, h, next)) deep short few =
      let one = complete names second d true x y h (omega arith) short.0 (more_no_equals names more y rest next) in
      first_step (any_at names d true) (suc n) first (item second more) ts x rest (more_next ts x semi (item_no_close names d x second y one))
      (items_step (any_at names d true) n second x y one ∙ complete_more names more d n second y rest next (omega arith) short.1 (omega arith))
  complete_more names (item second more) d (suc n) first ts rest (x, semi, inr (place, unit, last, close)) deep short few =
      ap (λ r. r >>= λ y. after_item (items_at (any_at names d true) (suc n)) first y.0 y.1) (unit_next place ts x rest semi close)
      ∙ ap (λ s. Ok (item first (item s none), rest)) (sym unit) ∙ ap (λ m. Ok (item first (item second m), rest)) (sym last)
