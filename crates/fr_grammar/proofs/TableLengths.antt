-- Reading leaves no more tokens than there were, and a term takes one at least.
use Rattle.std.proofs.Common.{◌≡◌, ℕ, zero, suc, ◌≤◌, nat_le, Bool, true, false, cond, List, [], ◌∷◌, length, drop, subst, arith}
use Rattle.std.specs.Prelude.{Result, Ok, Err, ⊤}
use Rattle.fr_terms.specs.Terms.{Text, Spot, Captured, Term, let_t, box_t, print_t, join_t, mutex_t}
use Rattle.fr_syntax.specs.Arena.{text_of}
use Rattle.fr_syntax.specs.declared.kind.TokenKind.{TokenKind}
use Rattle.fr_syntax.specs.declared.kind.TokenKind.TheVariants.{Name, Number, LetWord, MutWord, BoxWord, PrintWord, SpawnWord, JoinWord, ParWord, MutexWord, LockWord, DupWord, OpenBrace, CloseBrace, OpenParen, CloseParen, Semicolon, Comma, Equals, Amp, Star, Plus, Minus}
use Rattle.fr_syntax.specs.declared.token.Token.{Token}
use Rattle.fr_grammar.specs.declared.fault.ParseError.{ParseError}
use Rattle.fr_grammar.specs.declared.fault.ParseError.TheVariants.{Syntax, TooDeep}
use Rattle.fr_grammar.specs.declared.marks.Terminal.{Terminal}
use Rattle.fr_grammar.specs.declared.marks.Terminal.TheVariants as terminal
use Rattle.fr_grammar.specs.declared.marks.Next.{Next}
use Rattle.fr_grammar.specs.declared.marks.Next.TheVariants.{Close, LastUnit, More}
use Rattle.fr_grammar.specs.Reading.{◌>>=◌, Read, place_of, is_terminal, after_terminal, name_kind, name_at, bound_at, stars_of, spot_at, turned_kind, turned_at, borrow_kind, borrow_at, leaf_kind, leaf_at, op_kind, op_at, held_at, comma_kind, comma_at, capture_at, capture_next, after_capture, captured_at, list_kind, list_at, captures_at, semicolon_kind, next_kind, next_at, item_next, after_item, items_at, block_kind, block_at, rest_kind, rest_at, placed_at, arith_at, inner_kind, inner_at, body_kind, body_at, branch_at, spawn_at, par_at, lock_at, term_kind, any_kind, any_at}

-- this is true of what is read
abbrev pub OfRead : {X : Type 0} → (X → Type 0) → Result X ParseError → Type 0
OfRead P (Ok x) = P x
OfRead P (Err fault) = ⊤

-- so many tokens, at most
abbrev pub Few : ℕ → List Token → Type 0
Few n ts = length ts ≤ n

abbrev pub FewBehind : {X : Type 0} → ℕ → X × List Token → Type 0
FewBehind n x = length x.1 ≤ n

abbrev pub FewLast : {X Y : Type 0} → ℕ → X × Y × List Token → Type 0
FewLast n x = length x.2 ≤ n

-- one reader and then the next
pub then_few : {X Y : Type 0} (r : Result X ParseError) (f : X → Result Y ParseError) (P : X → Type 0) (Q : Y → Type 0) → OfRead P r → ((x : X) → P x → OfRead Q (f x)) → OfRead Q (r >>= f)
then_few (Ok x) f P Q p next = next x p
then_few (Err fault) f P Q p next = tt

-- what is true of what is read, where that is known
pub of_ok : {X : Type 0} (P : X → Type 0) (r : Result X ParseError) (x : X) → OfRead P r → r ≡ Ok x → P x
of_ok P r x p e = subst (OfRead P) e p

-- one token
after_few : (expected : Terminal) (n : ℕ) (ts : List Token) → Few n ts → OfRead (Few n) (after_terminal expected ts)
unfolding after_terminal
after_few expected n [] h = tt
after_few expected n (t ∷ ts) h = by (is_terminal expected t.kind)
  where
    by : (b : Bool) → OfRead (Few n) (cond b (Ok ts) (Err (Syntax t.start)))
    by true = omega arith
    by false = tt

-- a name takes a token
name_few : (n : ℕ) (ts : List Token) → Few (suc n) ts → OfRead (FewBehind n) (name_at ts)
unfolding name_at
name_few n [] h = tt
name_few n (t ∷ ts) h = by t.kind
  where
    by : (kind : TokenKind) → OfRead (FewBehind n) (name_kind kind t.start ts)
    by (Name x) = omega arith
    by kind = tt

-- a number that is turned round
turned_few : (n : ℕ) (ts : List Token) → Few n ts → OfRead (FewBehind n) (turned_at ts)
unfolding turned_at
turned_few n [] h = tt
turned_few n (t ∷ ts) h = by t.kind
  where
    by : (kind : TokenKind) → OfRead (FewBehind n) (turned_kind kind t.start ts)
    by (Number x) = omega arith
    by kind = tt

-- the mark between two operands
op_few : (n : ℕ) (ts : List Token) → Few n ts → OfRead (FewBehind n) (op_at ts)
unfolding op_at
op_few n [] h = tt
op_few n (t ∷ ts) h = by t.kind
  where
    by : (kind : TokenKind) → OfRead (FewBehind n) (op_kind kind t.start ts)
    by Plus = omega arith
    by Minus = omega arith
    by Star = omega arith
    by kind = tt

-- whether another captured name comes
comma_few : (n : ℕ) (ts : List Token) → Few n ts → OfRead (FewBehind n) (comma_at ts)
unfolding comma_at
comma_few n [] h = tt
comma_few n (t ∷ ts) h = by t.kind
  where
    by : (kind : TokenKind) → OfRead (FewBehind n) (comma_kind kind t.start ts)
    by Comma = omega arith
    by CloseParen = omega arith
    by kind = tt

-- the name of a `let`
bound_few : (n : ℕ) (ts : List Token) → Few n ts → OfRead (FewBehind n) (bound_at ts)
unfolding bound_at
bound_few n ts h =
    then_few (after_terminal terminal.Mut ts) _ (Few n) (FewBehind n) (after_few terminal.Mut n ts h)
    (λ a p. then_few (name_at a) _ (FewBehind n) (FewBehind n) (name_few n a (omega arith))
    (λ b q. then_few (after_terminal terminal.Equals b.1) _ (Few n) (FewBehind n) (after_few terminal.Equals n b.1 q) (λ c r. r)))

-- the name of a `lock`
held_few : (n : ℕ) (ts : List Token) → Few n ts → OfRead (FewBehind n) (held_at ts)
unfolding held_at
held_few n ts h = then_few (after_terminal terminal.As ts) name_at (Few n) (FewBehind n) (after_few terminal.As n ts h) (λ a p. name_few n a (omega arith))

-- without the first tokens there are no more
drop_few : (n m : ℕ) (ts : List Token) → Few n ts → Few n (drop m ts)
drop_few n zero ts h = h
drop_few n (suc m) [] h = h
drop_few n (suc m) (t ∷ ts) h = drop_few n m ts (omega arith)

-- a place takes a token
spot_few : (names : List Text) (n : ℕ) (ts : List Token) → Few (suc n) ts → OfRead (FewBehind n) (spot_at names ts)
unfolding spot_at
spot_few names n ts h = by (nat_le (stars_of ts) 8)
  where
    named : ℕ × List Token → Read Spot
    named x = Ok (record { at = place_of ts; name = text_of names x.0; stars = stars_of ts }, x.1)

    by : (b : Bool) → OfRead (FewBehind n) (cond b (name_at (drop (stars_of ts) ts) >>= named) (Err (TooDeep (place_of (drop 8 ts)))))
    by true = then_few (name_at (drop (stars_of ts) ts)) named (FewBehind n) (FewBehind n) (name_few n (drop (stars_of ts) ts) (drop_few (suc n) (stars_of ts) ts h)) (λ x p. p)
    by false = tt

-- a borrow, behind its mark
borrow_few : (names : List Text) (place n : ℕ) (ts : List Token) → Few n ts → OfRead (FewBehind n) (borrow_at names place ts)
unfolding borrow_at
borrow_few names place n [] h = tt
borrow_few names place n (t ∷ ts) h = by t.kind
  where
    by : (kind : TokenKind) → OfRead (FewBehind n) (borrow_kind names place kind ts (t ∷ ts))
    by MutWord = then_few (spot_at names ts) _ (FewBehind n) (FewBehind n) (spot_few names n ts (omega arith)) (λ w p. p)
    by kind = then_few (spot_at names (t ∷ ts)) _ (FewBehind n) (FewBehind n) (spot_few names n (t ∷ ts) (omega arith)) (λ w p. p)

-- a term without a term inside
leaf_few : (names : List Text) (n : ℕ) (t : Token) (ts : List Token) → Few n ts → OfRead (FewBehind n) (leaf_at names (t ∷ ts))
unfolding leaf_at
leaf_few names n t ts h = by t.kind
  where
    by : (kind : TokenKind) → OfRead (FewBehind n) (leaf_kind names kind t.start ts)
    by (Number value) = h
    by Minus = then_few (turned_at ts) _ (FewBehind n) (FewBehind n) (turned_few n ts h) (λ x p. p)
    by DupWord = then_few (spot_at names ts) _ (FewBehind n) (FewBehind n) (spot_few names n ts (omega arith)) (λ x p. p)
    by Amp = borrow_few names t.start n ts h
    by kind = tt

-- a captured name takes a token, and what behind it says whether another comes
pub capture_few : (names : List Text) (n : ℕ) (ts : List Token) → Few (suc n) ts → OfRead (FewLast n) (capture_next names ts)
unfolding capture_next capture_at name_at
capture_few names n [] h = tt
capture_few names n (t ∷ ts) h = by t.kind
  where
    named : ℕ × List Token → Read Captured
    named x = Ok (record { at = t.start; name = text_of names x.0 }, x.1)

    next : Captured × List Token → Result (Captured × Bool × List Token) ParseError
    next c = comma_at c.1 >>= λ m. Ok (c.0, m.0, m.1)

    by : (kind : TokenKind) → OfRead (FewLast n) ((name_kind kind t.start ts >>= named) >>= next)
    by (Name x) = then_few (comma_at ts) _ (FewBehind n) (FewLast n) (comma_few n ts (omega arith)) (λ m p. p)
    by kind = tt

-- captured names
captured_few : (names : List Text) (k n : ℕ) (ts : List Token) → Few n ts → OfRead (FewBehind n) (captured_at names k ts)
unfolding captured_at
captured_few names zero n ts h = tt
captured_few names (suc k) n ts h =
    then_few (capture_next names ts) _ (FewLast n) (FewBehind n) (capture_few names n ts (omega arith)) (λ x p. by x.0 x.1 x.2 (captured_few names k n x.2 p) p)
  where
    by : (c : Captured) (b : Bool) (rest : List Token) → OfRead (FewBehind n) (captured_at names k rest) → Few n rest → OfRead (FewBehind n) (after_capture (captured_at names k) c b rest)
    by c true rest again h = then_few (captured_at names k rest) _ (FewBehind n) (FewBehind n) again (λ x p. p)
    by c false rest again h = h

-- a capture list
captures_few : (names : List Text) (n : ℕ) (ts : List Token) → Few n ts → OfRead (FewBehind n) (captures_at names ts)
unfolding captures_at list_at
captures_few names n ts h = then_few (after_terminal terminal.Open ts) (list_at names) (Few n) (FewBehind n) (after_few terminal.Open n ts h) by
  where
    at_kind : (t : Token) (ts : List Token) (kind : TokenKind) → Few n (t ∷ ts) → OfRead (FewBehind n) (list_kind names kind ts (t ∷ ts))
    at_kind t ts CloseParen h = omega arith
    at_kind t ts kind h = captured_few names (suc (length (t ∷ ts))) n (t ∷ ts) h

    by : (ts : List Token) → Few n ts → OfRead (FewBehind n) (list_at names ts)
    by [] h = tt
    by (t ∷ ts) h = at_kind t ts t.kind h

-- what stands behind an item
pub next_few : (n : ℕ) (ts : List Token) → Few n ts → OfRead (FewBehind n) (next_at ts)
unfolding next_at
next_few n [] h = tt
next_few n (t ∷ ts) h = by ts t.kind (omega arith)
  where
    close : (u : Token) (us : List Token) (kind : TokenKind) → Few n (u ∷ us) → OfRead (FewBehind n) (semicolon_kind kind u.start us (u ∷ us))
    close u us CloseBrace h = omega arith
    close u us kind h = h

    by : (ts : List Token) (kind : TokenKind) → Few n ts → OfRead (FewBehind n) (next_kind kind t.start ts)
    by ts CloseBrace h = h
    by [] Semicolon h = h
    by (u ∷ us) Semicolon h = close u us u.kind h
    by ts kind h = tt

-- the parts of a term, where reading an item and a term leaves no more than there were
module _ (names : List Text) (d : ℕ) (part : (b : Bool) (n : ℕ) (ts : List Token) → Few n ts → OfRead (FewBehind n) (any_at names d b ts)) where
  -- the items of a block
  items_few : (k n : ℕ) (ts : List Token) → Few n ts → OfRead (FewBehind n) (items_at (any_at names d true) k ts)
  unfolding items_at item_next
  items_few zero n ts h = tt
  items_few (suc k) n ts h =
      then_few (item_next (any_at names d true) ts) _ (FewLast n) (FewBehind n)
      (then_few (any_at names d true ts) _ (FewBehind n) (FewLast n) (part true n ts h) (λ x p. then_few (next_at x.1) _ (FewBehind n) (FewLast n) (next_few n x.1 p) (λ y q. q)))
      (λ x p. by x.0 x.1 x.2 (items_few k n x.2 p) p)
    where
      by : (first : Term) (next : Next) (rest : List Token) → OfRead (FewBehind n) (items_at (any_at names d true) k rest) → Few n rest → OfRead (FewBehind n) (after_item (items_at (any_at names d true) k) first next rest)
      by first Close rest again h = h
      by first (LastUnit place) rest again h = h
      by first More rest again h = then_few (items_at (any_at names d true) k rest) _ (FewBehind n) (FewBehind n) again (λ x p. p)

  -- a block
  block_few : (place n : ℕ) (ts : List Token) → Few n ts → OfRead (FewBehind n) (block_at (any_at names d true) place ts)
  unfolding block_at
  block_few place n [] h = then_few (items_at (any_at names d true) 1 []) _ (FewBehind n) (FewBehind n) (items_few 1 n [] h) (λ x p. p)
  block_few place n (t ∷ ts) h = by t.kind
    where
      by : (kind : TokenKind) → OfRead (FewBehind n) (block_kind (any_at names d true) place kind ts (t ∷ ts))
      by CloseBrace = omega arith
      by kind = then_few (items_at (any_at names d true) (suc (length (t ∷ ts))) (t ∷ ts)) _ (FewBehind n) (FewBehind n) (items_few (suc (length (t ∷ ts))) n (t ∷ ts) h) (λ x p. p)

  -- what comes behind a place
  rest_few : (w : Spot) (n : ℕ) (ts : List Token) → Few n ts → OfRead (FewBehind n) (rest_at (any_at names d false) w ts)
  unfolding rest_at
  rest_few w n [] h = h
  rest_few w n (t ∷ ts) h = by t.kind
    where
      by : (kind : TokenKind) → OfRead (FewBehind n) (rest_kind (any_at names d false) w kind ts (t ∷ ts))
      by Equals = then_few (any_at names d false ts) _ (FewBehind n) (FewBehind n) (part false n ts (omega arith)) (λ x p. p)
      by kind = h

  -- a block behind a capture list
  body_few : (n : ℕ) (ts : List Token) → Few n ts → OfRead (FewBehind n) (body_at (any_at names d false) ts)
  unfolding body_at
  body_few n [] h = tt
  body_few n (t ∷ ts) h = by t.kind
    where
      by : (kind : TokenKind) → OfRead (FewBehind n) (body_kind (any_at names d false) kind t.start (t ∷ ts))
      by OpenBrace = part false n (t ∷ ts) h
      by kind = tt

  branch_few : (n : ℕ) (ts : List Token) → Few n ts → OfRead (FewLast n) (branch_at names (any_at names d false) ts)
  unfolding branch_at
  branch_few n ts h =
      then_few (captures_at names ts) _ (FewBehind n) (FewLast n) (captures_few names n ts h)
      (λ c p. then_few (body_at (any_at names d false) c.1) _ (FewBehind n) (FewLast n) (body_few n c.1 p) (λ b q. q))

  -- arithmetic
  arith_few : (place n : ℕ) (ts : List Token) → Few n ts → OfRead (FewBehind n) (arith_at (any_at names d false) place ts)
  unfolding arith_at
  arith_few place n ts h =
      then_few (any_at names d false ts) _ (FewBehind n) (FewBehind n) (part false n ts h)
      (λ a p. then_few (op_at a.1) _ (FewBehind n) (FewBehind n) (op_few n a.1 p)
      (λ o q. then_few (any_at names d false o.1) _ (FewBehind n) (FewBehind n) (part false n o.1 q)
      (λ b r. then_few (after_terminal terminal.Close b.1) _ (Few n) (FewBehind n) (after_few terminal.Close n b.1 r) (λ rest s. s))))

  inner_few : (place n : ℕ) (ts : List Token) → Few n ts → OfRead (FewBehind n) (inner_at (any_at names d false) place ts)
  unfolding inner_at
  inner_few place n [] h = arith_few place n [] h
  inner_few place n (t ∷ ts) h = by t.kind
    where
      by : (kind : TokenKind) → OfRead (FewBehind n) (inner_kind (any_at names d false) place kind ts (t ∷ ts))
      by CloseParen = omega arith
      by kind = arith_few place n (t ∷ ts) h

  -- what one term holds, behind its word
  one_few : (n : ℕ) (ts : List Token) (f : Term → Term) → Few n ts → OfRead (FewBehind n) (any_at names d false ts >>= λ x. Ok (f x.0, x.1))
  one_few n ts f h = then_few (any_at names d false ts) _ (FewBehind n) (FewBehind n) (part false n ts h) (λ x p. p)

  -- an assignment or a read
  placed_few : (n : ℕ) (ts : List Token) → Few (suc n) ts → OfRead (FewBehind n) (placed_at names (any_at names d false) ts)
  unfolding placed_at
  placed_few n ts h = then_few (spot_at names ts) _ (FewBehind n) (FewBehind n) (spot_few names n ts h) (λ w p. rest_few w.0 n w.1 p)

  -- new threads
  spawn_few : (place n : ℕ) (ts : List Token) → Few n ts → OfRead (FewBehind n) (spawn_at names (any_at names d false) place ts)
  unfolding spawn_at
  spawn_few place n ts h = then_few (branch_at names (any_at names d false) ts) _ (FewLast n) (FewBehind n) (branch_few n ts h) (λ x p. p)

  par_few : (place n : ℕ) (ts : List Token) → Few n ts → OfRead (FewBehind n) (par_at names (any_at names d false) place ts)
  unfolding par_at
  par_few place n ts h =
      then_few (branch_at names (any_at names d false) ts) _ (FewLast n) (FewBehind n) (branch_few n ts h)
      (λ x p. then_few (branch_at names (any_at names d false) x.2) _ (FewLast n) (FewBehind n) (branch_few n x.2 p) (λ y q. q))

  -- the content of a mutex
  lock_few : (place n : ℕ) (ts : List Token) → Few n ts → OfRead (FewBehind n) (lock_at names (any_at names d false) place ts)
  unfolding lock_at
  lock_few place n ts h =
      then_few (spot_at names ts) _ (FewBehind n) (FewBehind n) (spot_few names n ts (omega arith))
      (λ w p. then_few (held_at w.1) _ (FewBehind n) (FewBehind n) (held_few n w.1 p)
      (λ x q. then_few (body_at (any_at names d false) x.1) _ (FewBehind n) (FewBehind n) (body_few n x.1 q) (λ b r. r)))

  -- a term, by its first token
  term_few : (kind : TokenKind) (place n : ℕ) (t : Token) (ts : List Token) → Few n ts → OfRead (FewBehind n) (term_kind names (any_at names d true) (any_at names d false) kind place ts (t ∷ ts))
  term_few OpenBrace place n t ts h = block_few place n ts h
  term_few BoxWord place n t ts h = one_few n ts (box_t place) h
  term_few PrintWord place n t ts h = one_few n ts (print_t place) h
  term_few JoinWord place n t ts h = one_few n ts (join_t place) h
  term_few MutexWord place n t ts h = one_few n ts (mutex_t place) h
  term_few (Name x) place n t ts h = placed_few n (t ∷ ts) (omega arith)
  term_few Star place n t ts h = placed_few n (t ∷ ts) (omega arith)
  term_few OpenParen place n t ts h = inner_few place n ts h
  term_few SpawnWord place n t ts h = spawn_few place n ts h
  term_few ParWord place n t ts h = par_few place n ts h
  term_few LockWord place n t ts h = lock_few place n ts h
  term_few kind place n t ts h = leaf_few names n t ts h

  -- a `let`
  let_few : (place n : ℕ) (ts : List Token) → Few n ts → OfRead (FewBehind n) (bound_at ts >>= λ b. any_at names d false b.1 >>= λ x. Ok (let_t place (text_of names b.0) x.0, x.1))
  let_few place n ts h = then_few (bound_at ts) _ (FewBehind n) (FewBehind n) (bound_few n ts h) (λ b p. one_few n b.1 (let_t place (text_of names b.0)) p)

  -- an item or a term, by its first token
  step_few : (b : Bool) (kind : TokenKind) (place n : ℕ) (t : Token) (ts : List Token) → Few n ts → OfRead (FewBehind n) (any_kind b names (any_at names d true) (any_at names d false) kind place ts (t ∷ ts))
  step_few true LetWord place n t ts h = let_few place n ts h
  step_few true kind place n t ts h = term_few kind place n t ts h
  step_few false kind place n t ts h = term_few kind place n t ts h

-- all of that, from what is true of an item or a term that has a first token
any_few_by : (names : List Text) (d : ℕ) → ((b : Bool) (n : ℕ) (t : Token) (ts : List Token) → Few n ts → OfRead (FewBehind n) (any_at names d b (t ∷ ts))) → (b : Bool) (n : ℕ) (ts : List Token) → Few n ts → OfRead (FewBehind n) (any_at names d b ts)
unfolding any_at
any_few_by names zero fewer b n [] h = tt
any_few_by names (suc d) fewer b n [] h = tt
any_few_by names d fewer b n (t ∷ ts) h = fewer b n t ts (omega arith)

-- an item or a term takes a token
pub any_fewer : (names : List Text) (d : ℕ) (b : Bool) (n : ℕ) (t : Token) (ts : List Token) → Few n ts → OfRead (FewBehind n) (any_at names d b (t ∷ ts))
unfolding any_at
any_fewer names zero b n t ts h = tt
any_fewer names (suc d) b n t ts h = step_few names d (any_few_by names d (any_fewer names d)) b t.kind t.start n t ts h
