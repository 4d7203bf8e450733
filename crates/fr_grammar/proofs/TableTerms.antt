-- The table stops where the reading of a term, and of a whole program, stops.
use Rattle.std.proofs.Common.{◌≡◌, ◌≢◌, ℕ, zero, suc, ◌<◌, ◌≤◌, Bool, true, false, cond, List, [], ◌∷◌, ◌++◌, length, refl, sym, ap, ◌∙◌, subst, arith}
use Rattle.std.proofs.lemmas.List.{append_assoc}
use Rattle.std.specs.Prelude.{Option, Some, None, Result, Ok, Err, ⊤}
use Rattle.fr_terms.specs.Terms.{Text, Spot, Captured, Term, let_t, box_t, print_t, join_t, mutex_t}
use Rattle.fr_syntax.specs.Arena.{text_of}
use Rattle.fr_syntax.specs.declared.kind.TokenKind.{TokenKind}
use Rattle.fr_syntax.specs.declared.kind.TokenKind.TheVariants.{Name, Number, End, LetWord, BoxWord, PrintWord, SpawnWord, JoinWord, ParWord, MutexWord, LockWord, DupWord, OpenBrace, CloseBrace, OpenParen, CloseParen, Semicolon, Comma, Equals, Amp, Star, Minus}
use Rattle.fr_syntax.specs.declared.token.Token.{Token}
use Rattle.fr_grammar.specs.declared.fault.ParseError.{ParseError}
use Rattle.fr_grammar.specs.declared.fault.ParseError.TheVariants.{Syntax, TooDeep}
use Rattle.fr_grammar.specs.declared.marks.Next.{Next}
use Rattle.fr_grammar.specs.declared.marks.Terminal.TheVariants as terminal
use Rattle.fr_grammar.specs.declared.marks.Next.TheVariants.{Close, LastUnit, More}
use Rattle.fr_grammar.specs.Reading.{◌>>=◌, name_at, bound_at, spot_at, turned_at, leaf_at, op_at, after_terminal, held_at, comma_kind, comma_at, capture_at, capture_next, after_capture, captured_at, list_kind, list_at, captures_at, begins_kind, deep_at, semicolon_kind, next_kind, next_at, item_next, after_item, items_at, block_kind, block_at, rest_kind, rest_at, placed_at, arith_at, inner_kind, inner_at, body_kind, body_at, branch_at, spawn_at, par_at, lock_at, term_kind, any_kind, any_at, end_kind, ended_at, program_at}
use Rattle.fr_grammar.specs.Table.{Symbol, block_s, items_s, more_s, term_s, rest_s, inner_s, op_s, place_s, captures_s, list_s, next_s, name_s, mut_s, as_s, equals_s, close_s, end_s, term_entry, item_entry, and_then, goes_on, met, meets, refused_or, refusal_of, refusal}
use Rattle.fr_grammar.proofs.TableLengths.{FewBehind, FewLast, OfRead, of_ok, then_few, capture_few, next_few, any_fewer}
use Rattle.fr_grammar.proofs.TableReading.{then_refused, tokens_behind, behind, behind_both, then_read, then_read_so, close_read, open_read, name_read, turned_read, op_read, bound_read, held_read, spot_read, borrow_read}

-- behind a comma another captured name is expected
abbrev by_comma : List Symbol → Bool × List Token → Option ParseError
by_comma k (true, rest) = refusal_of rest (name_s ∷ next_s ∷ k)
by_comma k (false, rest) = refusal_of rest k

abbrev by_next : List Symbol → Captured × Bool × List Token → Option ParseError
by_next k x = by_comma k (x.1, x.2)

-- whether another captured name comes
comma_read : (ts : List Token) (k : List Symbol) → refusal_of ts (next_s ∷ k) ≡ then_refused (by_comma k) (comma_at ts)
unfolding comma_at
comma_read [] k = refl
comma_read (t ∷ ts) k = by t.kind
  where
    by : (kind : TokenKind) → refused_or (refusal_of ts) t.start (meets (next_s ∷ k) kind) ≡ then_refused (by_comma k) (comma_kind kind t.start ts)
    by Comma = refl
    by CloseParen = refl
    by kind = refl

-- a captured name, and whether another comes
capture_read : (names : List Text) (ts : List Token) (k : List Symbol) → refusal_of ts (name_s ∷ next_s ∷ k) ≡ then_refused (by_next k) (capture_next names ts)
unfolding capture_next capture_at
capture_read names ts k =
    then_read (capture_at names ts) _ (behind (next_s ∷ k)) (by_next k) _
    (then_read (name_at ts) _ (behind (next_s ∷ k)) (behind (next_s ∷ k)) _ (name_read ts (next_s ∷ k)) (λ x. refl))
    (λ c. then_read (comma_at c.1) _ (by_comma k) (by_next k) _ (comma_read c.1 k) (λ m. refl))

-- a captured name takes a token
capture_left : (names : List Text) (n : ℕ) (ts : List Token) → length ts < suc n → (x : Captured × Bool × List Token) → capture_next names ts ≡ Ok x → length x.2 < n
unfolding capture_next capture_at name_at
capture_left names n [] h x e = cc
capture_left names zero (t ∷ ts) h x e = absurd (omega arith)
capture_left names (suc n) (t ∷ ts) h x e = let few : length x.2 ≤ n = of_ok (FewLast n) (capture_next names (t ∷ ts)) x (capture_few names n (t ∷ ts) (omega arith)) e in omega arith

-- captured names
captured_read : (names : List Text) (n : ℕ) (ts : List Token) (k : List Symbol) → length ts < n → refusal_of ts (name_s ∷ next_s ∷ k) ≡ then_refused (behind k) (captured_at names n ts)
unfolding captured_at
captured_read names zero ts k h = absurd (omega arith)
captured_read names (suc n) ts k h =
    then_read_so (capture_next names ts) _ (by_next k) (behind k) _ (capture_read names ts k)
    (λ x e. by x.0 x.1 x.2 (λ less. captured_read names n x.2 k less) (capture_left names n ts h x e))
  where
    by : (c : Captured) (b : Bool) (rest : List Token) → (length rest < n → refusal_of rest (name_s ∷ next_s ∷ k) ≡ then_refused (behind k) (captured_at names n rest)) → length rest < n → by_next k (c, b, rest) ≡ then_refused (behind k) (after_capture (captured_at names n) c b rest)
    by c true rest again less = then_read (captured_at names n rest) _ (behind k) (behind k) _ (again less) (λ x. refl)
    by c false rest again less = refl

-- the first of a list of captured names, which is no closing mark
list_entry : (ts : List Token) (t : Token) (k : List Symbol) → t.kind ≢ CloseParen → refusal_of (t ∷ ts) (list_s ∷ k) ≡ refusal_of (t ∷ ts) (name_s ∷ next_s ∷ k)
list_entry ts t k other = by t.kind other
  where
    by : (kind : TokenKind) → kind ≢ CloseParen → refused_or (refusal_of ts) t.start (meets (list_s ∷ k) kind) ≡ refused_or (refusal_of ts) t.start (meets (name_s ∷ next_s ∷ k) kind)
    by CloseParen other = absurd (other refl)
    by kind other = refl

-- a capture list behind its opening mark
list_read : (names : List Text) (ts : List Token) (k : List Symbol) → refusal_of ts (list_s ∷ k) ≡ then_refused (behind k) (list_at names ts)
unfolding list_at
list_read names [] k = refl
list_read names (t ∷ ts) k = by t.kind t.start t.end
  where
    all : ℕ → ℕ → TokenKind → List Token
    all start end kind = record { kind = kind; start = start; end = end } ∷ ts

    by : (kind : TokenKind) (start end : ℕ) → refusal_of (record { kind = kind; start = start; end = end } ∷ ts) (list_s ∷ k) ≡ then_refused (behind k) (list_kind names kind ts (record { kind = kind; start = start; end = end } ∷ ts))
    by CloseParen start end = refl
    by kind start end =
        list_entry ts (record { kind = kind; start = start; end = end }) k (λ e. cc)
        ∙ captured_read names (suc (length (record { kind = kind; start = start; end = end } ∷ ts))) (record { kind = kind; start = start; end = end } ∷ ts) k (omega arith)

-- a capture list
captures_read : (names : List Text) (ts : List Token) (k : List Symbol) → refusal_of ts (captures_s ∷ k) ≡ then_refused (behind k) (captures_at names ts)
unfolding captures_at
captures_read names ts k = then_read (after_terminal terminal.Open ts) (list_at names) (tokens_behind (list_s ∷ k)) (behind k) _ (open_read ts k) (λ a. list_read names a k)

-- a block without more items ends, whatever levels are left
pub items_close : (d : ℕ) (k : List Symbol) → meets (items_s d ∷ k) CloseBrace ≡ goes_on k
items_close zero k = refl
items_close (suc d) k = refl

-- and so does the constant unit
pub inner_close : (d : ℕ) (k : List Symbol) → meets (inner_s d ∷ k) CloseParen ≡ goes_on k
inner_close zero k = refl
inner_close (suc d) k = refl

-- behind a semicolon another item is expected
abbrev by_more : ℕ → List Symbol → Next × List Token → Option ParseError
by_more d k (Close, rest) = refusal_of rest k
by_more d k (LastUnit place, rest) = refusal_of rest k
by_more d k (More, rest) = refusal_of rest (items_s d ∷ k)

-- what stands behind an item
next_read : (d : ℕ) (ts : List Token) (k : List Symbol) → refusal_of ts (more_s d ∷ k) ≡ then_refused (by_more d k) (next_at ts)
unfolding next_at
next_read d [] k = refl
next_read d (t ∷ ts) k = by ts t.kind
  where
    semicolon : (u : Token) (us : List Token) (kind : TokenKind) → refused_or (refusal_of us) u.start (meets (items_s d ∷ k) kind) ≡ then_refused (by_more d k) (semicolon_kind kind u.start us (record { kind = kind; start = u.start; end = u.end } ∷ us))
    semicolon u us CloseBrace = ap (refused_or (refusal_of us) u.start) (items_close d k)
    semicolon u us kind = refl

    by : (ts : List Token) (kind : TokenKind) → refused_or (refusal_of ts) t.start (meets (more_s d ∷ k) kind) ≡ then_refused (by_more d k) (next_kind kind t.start ts)
    by ts CloseBrace = refl
    by [] Semicolon = refl
    by (u ∷ us) Semicolon = semicolon u us u.kind
    by ts kind = refl

-- no block ends here
abbrev pub NoClose : List Token → Type 0
NoClose [] = ⊤
NoClose (t ∷ ts) = t.kind ≢ CloseBrace

abbrev NoCloseMore : Next × List Token → Type 0
NoCloseMore (More, rest) = NoClose rest
NoCloseMore (next, rest) = ⊤

-- where another item comes, no block ends
next_no_close : (ts : List Token) → OfRead NoCloseMore (next_at ts)
unfolding next_at
next_no_close [] = tt
next_no_close (t ∷ ts) = by ts t.kind
  where
    semicolon : (u : Token) (us : List Token) (kind : TokenKind) → u.kind ≡ kind → OfRead NoCloseMore (semicolon_kind kind u.start us (u ∷ us))
    semicolon u us CloseBrace e = tt
    semicolon u us kind e = λ same. let bad = sym e ∙ same in cc

    by : (ts : List Token) (kind : TokenKind) → OfRead NoCloseMore (next_kind kind t.start ts)
    by ts CloseBrace = tt
    by [] Semicolon = tt
    by (u ∷ us) Semicolon = semicolon u us u.kind refl
    by ts kind = tt

-- behind an item fewer tokens are left, and where another comes no block ends
abbrev Left : ℕ → Term × Next × List Token → Type 0
Left n x = NoCloseMore (x.1, x.2) × (length x.2 < n)

-- two facts of what is read
both_read : {X : Type 0} (P Q : X → Type 0) (r : Result X ParseError) → OfRead P r → OfRead Q r → OfRead (λ x. P x × Q x) r
both_read P Q (Ok x) p q = (p, q)
both_read P Q (Err fault) p q = tt

-- whether no level is left
abbrev pub no_level : ℕ → Bool
no_level zero = true
no_level (suc d) = false

-- what comes behind the first token of an item, or of a term
abbrev pub any_entry : Bool → ℕ → TokenKind → Option (List Symbol)
any_entry true d kind = item_entry d kind
any_entry false d kind = term_entry d kind

-- an item or a term with so many levels left is refused where reading refuses it
abbrev IsReadAt : List Text → ℕ → Type 0
IsReadAt names d =
    (b : Bool) (t : Token) (ts : List Token) (k : List Symbol) → refused_or (refusal_of ts) t.start (met (any_entry b d t.kind) (no_level d) k) ≡ then_refused (behind k) (any_at names d b (t ∷ ts))

-- what is expected behind an entry comes before the rest
met_more : (o : Option (List Symbol)) (over : Bool) (extra k : List Symbol) → met (and_then o extra) over k ≡ met o over (extra ++ k)
met_more None over extra k = refl
met_more (Some symbols) true extra k = refl
met_more (Some symbols) false extra k = ap (λ k. goes_on k) (append_assoc symbols extra k)

-- where a block doesn't end an item comes
pub items_meet : (d : ℕ) (kind : TokenKind) (k : List Symbol) → kind ≢ CloseBrace → meets (items_s d ∷ k) kind ≡ met (item_entry d kind) (no_level d) (more_s d ∷ k)
items_meet d kind k other = by d kind other ∙ met_more (item_entry d kind) (no_level d) (more_s d ∷ []) k
  where
    by : (d : ℕ) (kind : TokenKind) → kind ≢ CloseBrace → meets (items_s d ∷ k) kind ≡ met (and_then (item_entry d kind) (more_s d ∷ [])) (no_level d) k
    by d CloseBrace other = absurd (other refl)
    by zero kind other = refl
    by (suc d) kind other = refl

-- where `(` isn't closed a term comes
pub inner_meet : (d : ℕ) (kind : TokenKind) (k : List Symbol) → kind ≢ CloseParen → meets (inner_s d ∷ k) kind ≡ met (term_entry d kind) (no_level d) (op_s ∷ term_s d ∷ close_s ∷ k)
inner_meet d kind k other = by d kind other ∙ met_more (term_entry d kind) (no_level d) (op_s ∷ term_s d ∷ close_s ∷ []) k
  where
    by : (d : ℕ) (kind : TokenKind) → kind ≢ CloseParen → meets (inner_s d ∷ k) kind ≡ met (and_then (term_entry d kind) (op_s ∷ term_s d ∷ close_s ∷ [])) (no_level d) k
    by d CloseParen other = absurd (other refl)
    by zero kind other = refl
    by (suc d) kind other = refl

-- the parts of a term, where an item or a term with so many levels left is refused where reading refuses it
module _ (names : List Text) (d : ℕ) (part : IsReadAt names d) where
  -- no tokens are no item and no term
  none_read : (b : Bool) → any_at names d b [] ≡ Err (Syntax 0)
  unfolding any_at deep_at
  none_read b = by d
    where
      by : (d : ℕ) → any_at names d b [] ≡ Err (Syntax 0)
      by zero = refl
      by (suc d) = refl

  -- a term
  term_read : (ts : List Token) (k : List Symbol) → refusal_of ts (term_s d ∷ k) ≡ then_refused (behind k) (any_at names d false ts)
  term_read [] k = ap (then_refused (behind k)) (sym (none_read false))
  term_read (t ∷ ts) k = by d ∙ part false t ts k
    where
      by : (d : ℕ) → refusal_of (t ∷ ts) (term_s d ∷ k) ≡ refused_or (refusal_of ts) t.start (met (term_entry d t.kind) (no_level d) k)
      by zero = refl
      by (suc d) = refl

  -- an item
  item_read : (ts : List Token) (k : List Symbol) → NoClose ts → refusal_of ts (items_s d ∷ k) ≡ then_refused (behind (more_s d ∷ k)) (any_at names d true ts)
  item_read [] k other = ap (then_refused (behind (more_s d ∷ k))) (sym (none_read true))
  item_read (t ∷ ts) k other = ap (refused_or (refusal_of ts) t.start) (items_meet d t.kind k other) ∙ part true t ts (more_s d ∷ k)

  -- an item takes a token, and where another comes no block ends
  item_left : (n : ℕ) (ts : List Token) → length ts < suc n → OfRead (Left n) (item_next (any_at names d true) ts)
  unfolding item_next
  item_left n [] h = then_few (any_at names d true []) _ (λ (x : Term × List Token). ⊥) (Left n) (subst (OfRead (λ (x : Term × List Token). ⊥)) (sym (none_read true)) tt) (λ x p. absurd p)
  item_left zero (t ∷ ts) h = absurd (omega arith)
  item_left (suc n) (t ∷ ts) h =
      then_few (any_at names d true (t ∷ ts)) _ (FewBehind n) (Left (suc n)) (any_fewer names d true n t ts (omega arith))
      (λ x p. then_few (next_at x.1) _ (λ (y : Next × List Token). NoCloseMore y × FewBehind n y) (Left (suc n)) (both_read NoCloseMore (FewBehind n) (next_at x.1) (next_no_close x.1) (next_few n x.1 p))
      (λ y q. (q.0, omega (arith, q.1))))

  -- the items of a block
  items_read : (n : ℕ) (ts : List Token) (k : List Symbol) → NoClose ts → length ts < n → refusal_of ts (items_s d ∷ k) ≡ then_refused (behind k) (items_at (any_at names d true) n ts)
  unfolding items_at item_next
  items_read zero ts k other h = absurd (omega arith)
  items_read (suc n) ts k other h =
      then_read_so (item_next (any_at names d true) ts) _ by_item (behind k) _
      (then_read (any_at names d true ts) _ (behind (more_s d ∷ k)) by_item _ (item_read ts k other) (λ x. then_read (next_at x.1) _ (by_more d k) by_item _ (next_read d x.1 k) (λ y. refl)))
      (λ x e. let left = of_ok (Left n) (item_next (any_at names d true) ts) x (item_left n ts h) e in by x.0 x.1 x.2 (λ free less. items_read n x.2 k free less) left.0 left.1)
    where
      by_item : Term × Next × List Token → Option ParseError
      by_item x = by_more d k (x.1, x.2)

      by : (first : Term) (next : Next) (rest : List Token) → (NoClose rest → length rest < n → refusal_of rest (items_s d ∷ k) ≡ then_refused (behind k) (items_at (any_at names d true) n rest)) → NoCloseMore (next, rest) → length rest < n → by_more d k (next, rest) ≡ then_refused (behind k) (after_item (items_at (any_at names d true) n) first next rest)
      by first Close rest again free less = refl
      by first (LastUnit place) rest again free less = refl
      by first More rest again free less = then_read (items_at (any_at names d true) n rest) _ (behind k) (behind k) _ (again free less) (λ x. refl)

  -- a block, behind its opening mark
  block_read : (place : ℕ) (ts : List Token) (k : List Symbol) → refusal_of ts (items_s d ∷ k) ≡ then_refused (behind k) (block_at (any_at names d true) place ts)
  unfolding block_at
  block_read place [] k = then_read (items_at (any_at names d true) 1 []) _ (behind k) (behind k) _ (items_read 1 [] k tt (omega arith)) (λ x. refl)
  block_read place (t ∷ ts) k = by t.kind t.start t.end
    where
      by : (kind : TokenKind) (start end : ℕ) → refusal_of (record { kind = kind; start = start; end = end } ∷ ts) (items_s d ∷ k) ≡ then_refused (behind k) (block_kind (any_at names d true) place kind ts (record { kind = kind; start = start; end = end } ∷ ts))
      by CloseBrace start end = ap (refused_or (refusal_of ts) start) (items_close d k)
      by kind start end =
          then_read (items_at (any_at names d true) (suc (length (record { kind = kind; start = start; end = end } ∷ ts))) (record { kind = kind; start = start; end = end } ∷ ts)) _ (behind k) (behind k) _
          (items_read (suc (length (record { kind = kind; start = start; end = end } ∷ ts))) (record { kind = kind; start = start; end = end } ∷ ts) k (λ e. cc) (omega arith)) (λ x. refl)

  -- what comes behind a place
  rest_read : (w : Spot) (ts : List Token) (k : List Symbol) → refusal_of ts (rest_s d ∷ k) ≡ then_refused (behind k) (rest_at (any_at names d false) w ts)
  unfolding rest_at
  rest_read w [] k = refl
  rest_read w (t ∷ ts) k = by t.kind t.start t.end
    where
      by : (kind : TokenKind) (start end : ℕ) → refused_or (refusal_of ts) start (meets (rest_s d ∷ k) kind) ≡ then_refused (behind k) (rest_kind (any_at names d false) w kind ts (record { kind = kind; start = start; end = end } ∷ ts))
      by Equals start end = then_read (any_at names d false ts) _ (behind k) (behind k) _ (term_read ts k) (λ x. refl)
      by kind start end = refl

  -- an assignment or a read
  placed_read : (ts : List Token) (k : List Symbol) → refusal_of ts (place_s 8 ∷ rest_s d ∷ k) ≡ then_refused (behind k) (placed_at names (any_at names d false) ts)
  unfolding placed_at
  placed_read ts k = then_read (spot_at names ts) _ (behind (rest_s d ∷ k)) (behind k) _ (spot_read names ts (rest_s d ∷ k)) (λ w. rest_read w.0 w.1 k)

  -- arithmetic, behind its opening mark
  arith_read : (place : ℕ) (ts : List Token) (k : List Symbol) (o : Option ParseError) → o ≡ then_refused (behind (op_s ∷ term_s d ∷ close_s ∷ k)) (any_at names d false ts) → o ≡ then_refused (behind k) (arith_at (any_at names d false) place ts)
  unfolding arith_at
  arith_read place ts k o first =
      then_read (any_at names d false ts) _ (behind (op_s ∷ term_s d ∷ close_s ∷ k)) (behind k) _ first
      (λ a. then_read (op_at a.1) _ (behind (term_s d ∷ close_s ∷ k)) (behind k) _ (op_read a.1 (term_s d ∷ close_s ∷ k))
      (λ op. then_read (any_at names d false op.1) _ (behind (close_s ∷ k)) (behind k) _ (term_read op.1 (close_s ∷ k))
      (λ b. then_read (after_terminal terminal.Close b.1) _ (tokens_behind k) (behind k) _ (close_read b.1 k) (λ rest. refl))))

  -- the constant unit or arithmetic, behind its opening mark
  inner_read : (place : ℕ) (ts : List Token) (k : List Symbol) → refusal_of ts (inner_s d ∷ k) ≡ then_refused (behind k) (inner_at (any_at names d false) place ts)
  unfolding inner_at
  inner_read place [] k = arith_read place [] k _ (ap (then_refused (behind (op_s ∷ term_s d ∷ close_s ∷ k))) (sym (none_read false)))
  inner_read place (t ∷ ts) k = by t.kind t.start t.end
    where
      by : (kind : TokenKind) (start end : ℕ) → refused_or (refusal_of ts) start (meets (inner_s d ∷ k) kind) ≡ then_refused (behind k) (inner_kind (any_at names d false) place kind ts (record { kind = kind; start = start; end = end } ∷ ts))
      by CloseParen start end = ap (refused_or (refusal_of ts) start) (inner_close d k)
      by kind start end =
          arith_read place (record { kind = kind; start = start; end = end } ∷ ts) k _
          (ap (refused_or (refusal_of ts) start) (inner_meet d kind k (λ e. cc)) ∙ part false (record { kind = kind; start = start; end = end }) ts (op_s ∷ term_s d ∷ close_s ∷ k))

  -- a block
  body_read : (ts : List Token) (k : List Symbol) → refusal_of ts (block_s d ∷ k) ≡ then_refused (behind k) (body_at (any_at names d false) ts)
  unfolding body_at
  body_read [] k = refl
  body_read (t ∷ ts) k = by t.kind t.start t.end
    where
      opens : (d : ℕ) → meets (block_s d ∷ k) OpenBrace ≡ met (term_entry d OpenBrace) (no_level d) k
      opens zero = refl
      opens (suc d) = refl

      by : (kind : TokenKind) (start end : ℕ) → refused_or (refusal_of ts) start (meets (block_s d ∷ k) kind) ≡ then_refused (behind k) (body_kind (any_at names d false) kind start (record { kind = kind; start = start; end = end } ∷ ts))
      by OpenBrace start end = ap (refused_or (refusal_of ts) start) (opens d) ∙ part false (record { kind = OpenBrace; start = start; end = end }) ts k
      by kind start end = refl

  -- what a new thread captures, and its body
  branch_read : (ts : List Token) (k : List Symbol) → refusal_of ts (captures_s ∷ block_s d ∷ k) ≡ then_refused (behind_both k) (branch_at names (any_at names d false) ts)
  unfolding branch_at
  branch_read ts k =
      then_read (captures_at names ts) _ (behind (block_s d ∷ k)) (behind_both k) _ (captures_read names ts (block_s d ∷ k))
      (λ c. then_read (body_at (any_at names d false) c.1) _ (behind k) (behind_both k) _ (body_read c.1 k) (λ b. refl))

  -- one new thread
  spawn_read : (place : ℕ) (ts : List Token) (k : List Symbol) → refusal_of ts (captures_s ∷ block_s d ∷ k) ≡ then_refused (behind k) (spawn_at names (any_at names d false) place ts)
  unfolding spawn_at
  spawn_read place ts k = then_read (branch_at names (any_at names d false) ts) _ (behind_both k) (behind k) _ (branch_read ts k) (λ x. refl)

  -- two new threads
  par_read : (place : ℕ) (ts : List Token) (k : List Symbol) → refusal_of ts (captures_s ∷ block_s d ∷ captures_s ∷ block_s d ∷ k) ≡ then_refused (behind k) (par_at names (any_at names d false) place ts)
  unfolding par_at
  par_read place ts k =
      then_read (branch_at names (any_at names d false) ts) _ (behind_both (captures_s ∷ block_s d ∷ k)) (behind k) _ (branch_read ts (captures_s ∷ block_s d ∷ k))
      (λ x. then_read (branch_at names (any_at names d false) x.2) _ (behind_both k) (behind k) _ (branch_read x.2 k) (λ y. refl))

  -- the content of a mutex
  lock_read : (place : ℕ) (ts : List Token) (k : List Symbol) → refusal_of ts (place_s 8 ∷ as_s ∷ name_s ∷ block_s d ∷ k) ≡ then_refused (behind k) (lock_at names (any_at names d false) place ts)
  unfolding lock_at
  lock_read place ts k =
      then_read (spot_at names ts) _ (behind (as_s ∷ name_s ∷ block_s d ∷ k)) (behind k) _ (spot_read names ts (as_s ∷ name_s ∷ block_s d ∷ k))
      (λ w. then_read (held_at w.1) _ (behind (block_s d ∷ k)) (behind k) _ (held_read w.1 (block_s d ∷ k))
      (λ x. then_read (body_at (any_at names d false) x.1) _ (behind k) (behind k) _ (body_read x.1 k) (λ b. refl)))

  -- what holds one term
  one_read : (ts : List Token) (k : List Symbol) (f : Term → Term) → refusal_of ts (term_s d ∷ k) ≡ then_refused (behind k) (any_at names d false ts >>= λ x. Ok (f x.0, x.1))
  one_read ts k f = then_read (any_at names d false ts) _ (behind k) (behind k) _ (term_read ts k) (λ x. refl)

  -- a term, by its first token
  term_step : (kind : TokenKind) (start end : ℕ) (ts : List Token) (k : List Symbol) → refused_or (refusal_of ts) start (met (term_entry (suc d) kind) false k) ≡ then_refused (behind k) (term_kind names (any_at names d true) (any_at names d false) kind start ts (record { kind = kind; start = start; end = end } ∷ ts))
  unfolding leaf_at
  term_step OpenBrace start end ts k = block_read start ts k
  term_step BoxWord start end ts k = one_read ts k (box_t start)
  term_step PrintWord start end ts k = one_read ts k (print_t start)
  term_step JoinWord start end ts k = one_read ts k (join_t start)
  term_step MutexWord start end ts k = one_read ts k (mutex_t start)
  term_step (Name n) start end ts k = placed_read (record { kind = Name n; start = start; end = end } ∷ ts) k
  term_step Star start end ts k = placed_read (record { kind = Star; start = start; end = end } ∷ ts) k
  term_step OpenParen start end ts k = inner_read start ts k
  term_step SpawnWord start end ts k = spawn_read start ts k
  term_step ParWord start end ts k = par_read start ts k
  term_step LockWord start end ts k = lock_read start ts k
  term_step (Number value) start end ts k = refl
  term_step Minus start end ts k = then_read (turned_at ts) _ (behind k) (behind k) _ (turned_read ts k) (λ x. refl)
  term_step DupWord start end ts k = then_read (spot_at names ts) _ (behind k) (behind k) _ (spot_read names ts k) (λ w. refl)
  term_step Amp start end ts k = borrow_read names start ts k
  term_step kind start end ts k = refl

  -- a `let`
  let_read : (start : ℕ) (ts : List Token) (k : List Symbol) → refusal_of ts (mut_s ∷ name_s ∷ equals_s ∷ term_s d ∷ k) ≡ then_refused (behind k) (bound_at ts >>= λ b. any_at names d false b.1 >>= λ x. Ok (let_t start (text_of names b.0) x.0, x.1))
  let_read start ts k =
      then_read (bound_at ts) _ (behind (term_s d ∷ k)) (behind k) _ (bound_read ts (term_s d ∷ k)) (λ b. one_read b.1 k (let_t start (text_of names b.0)))

  -- an item or a term, by its first token
  any_step : (b : Bool) (kind : TokenKind) (start end : ℕ) (ts : List Token) (k : List Symbol) → refused_or (refusal_of ts) start (met (any_entry b (suc d) kind) false k) ≡ then_refused (behind k) (any_kind b names (any_at names d true) (any_at names d false) kind start ts (record { kind = kind; start = start; end = end } ∷ ts))
  any_step true LetWord start end ts k = let_read start ts k
  any_step true kind start end ts k = term_step kind start end ts k
  any_step false kind start end ts k = term_step kind start end ts k

-- where no level is left
pub none_left_read : (b : Bool) (t : Token) (ts : List Token) (k : List Symbol) → refused_or (refusal_of ts) t.start (met (any_entry b zero t.kind) true k) ≡ Some (deep_at b (t ∷ ts))
unfolding deep_at
none_left_read b t ts k = by b t.kind
  where
    by : (b : Bool) (kind : TokenKind) → refused_or (refusal_of ts) t.start (met (any_entry b zero kind) true k) ≡ Some (cond (begins_kind b kind) (TooDeep t.start) (Syntax t.start))
    by true LetWord = refl
    by true kind = refl
    by false LetWord = refl
    by false kind = refl

-- an item or a term
any_read : (names : List Text) (d : ℕ) → IsReadAt names d
unfolding any_at
any_read names zero b t ts k = none_left_read b t ts k
any_read names (suc d) b t ts k = any_step names d (any_read names d) b t.kind t.start t.end ts k

-- no fault is expected at all
abbrev nothing_more : Term → Option ParseError
nothing_more t = None

-- the end
end_read : (ts : List Token) (t : Term) → refusal_of ts (end_s ∷ []) ≡ then_refused nothing_more (ended_at ts t)
unfolding ended_at
end_read [] t = refl
end_read (u ∷ us) t = by us u.kind
  where
    by : (us : List Token) (kind : TokenKind) → refused_or (refusal_of us) u.start (meets (end_s ∷ []) kind) ≡ then_refused nothing_more (end_kind kind u.start us t)
    by [] End = refl
    by (v ∷ us) End = refl
    by us kind = refl

-- the fault, where there is one
abbrev pub fault_of : {X : Type 0} → Result X ParseError → Option ParseError
fault_of (Ok x) = None
fault_of (Err fault) = Some fault

-- the first refusal of what is read is its fault
fault_is : (r : Result Term ParseError) → then_refused nothing_more r ≡ fault_of r
fault_is (Ok t) = refl
fault_is (Err fault) = refl

-- the first refusal of tokens is the fault of their reading
pub refusal_is_fault : (names : List Text) (ts : List Token) → refusal ts ≡ fault_of (program_at names ts)
unfolding program_at
refusal_is_fault names ts =
    then_read (body_at (any_at names 64 false) ts) (λ x. ended_at x.1 x.0) (behind (end_s ∷ [])) nothing_more _ (body_read names 64 (any_read names 64) ts (end_s ∷ [])) (λ x. end_read x.1 x.0)
    ∙ fault_is (program_at names ts)
