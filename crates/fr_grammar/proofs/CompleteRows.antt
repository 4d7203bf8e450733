-- Each form of the grammar is read, from what is read of its parts.
use Rattle.std.proofs.Common.{◌≡◌, ◌≢◌, ℕ, zero, suc, ◌+◌, ◌<◌, ◌≤◌, ℤ, neg_ℤ, Bool, true, false, IsTrue, cond, List, [], ◌∷◌, length, refl, sym, ap, ◌∙◌, subst, inl, inr, arith}
use Rattle.std.specs.Prelude.{Ok, Err, ⊤}
use Rattle.fr_base.specs.declared.place.Op.{Op}
use Rattle.fr_base.specs.declared.place.Op.TheVariants.{Add, Sub, Mul}
use Rattle.fr_terms.specs.Terms.{Text, Spot, Captured, Term, block_t, let_t, assign_t, read_t, borrow_t, borrow_mut_t, number_t, unit_t, box_t, print_t, arith_t, join_t, mutex_t, dup_t, lock_t, spawn_t, par_t, IsBlock}
use Rattle.fr_terms.specs.Limits.{IsShort}
use Rattle.fr_syntax.specs.Arena.{text_of}
use Rattle.fr_syntax.specs.declared.kind.TokenKind.{TokenKind}
use Rattle.fr_syntax.specs.declared.kind.TokenKind.TheVariants.{Name, Number, LetWord, MutWord, BoxWord, PrintWord, SpawnWord, JoinWord, ParWord, MutexWord, LockWord, AsWord, DupWord, CloseBrace, OpenParen, CloseParen, Comma, Equals, Amp, Star, Minus}
use Rattle.fr_syntax.specs.declared.token.Token.{Token}
use Rattle.fr_grammar.specs.declared.fault.ParseError.TheVariants.{Syntax}
use Rattle.fr_grammar.specs.declared.marks.Terminal.{Terminal}
use Rattle.fr_grammar.specs.declared.marks.Terminal.TheVariants as terminal
use Rattle.fr_grammar.specs.Grammar.{Has, IsAt, Begins, SpellsName, SpellsPath, SpellsPlace, SpellsNumber, SpellsOthers, SpellsNames, SpellsCaptures, mark_of_op, Spells}
use Rattle.fr_grammar.specs.Reading.{◌>>=◌, Read, place_of, is_terminal, after_terminal, name_kind, name_at, bound_at, spot_at, turned_kind, turned_at, borrow_kind, borrow_at, leaf_kind, leaf_at, op_kind, op_at, held_at, comma_kind, comma_at, capture_at, capture_next, after_capture, captured_at, list_kind, list_at, captures_at, begins_term, rest_kind, rest_at, placed_at, arith_at, inner_kind, inner_at, body_kind, body_at, branch_at, spawn_at, par_at, lock_at, term_kind, any_kind, any_at}
use Rattle.fr_grammar.proofs.ReadingSteps.{kind_of, its_kind, bind_by, has_cons, begins_cons, at_term, is_place, place_is_read}

-- no assignment's mark comes first, so that a place before these tokens is a read
abbrev pub NoEquals : List Token → Type 0
NoEquals [] = ⊤
NoEquals (t ∷ ts) = t.kind ≢ Equals

-- another kind of token is no mark of an assignment
pub has_no_equals : (k : TokenKind) (ts rest : List Token) → k ≢ Equals → Has k ts rest → NoEquals ts
has_no_equals k [] rest other h = absurd h
has_no_equals k (t ∷ ts) rest other h = λ e. other (sym h.0 ∙ e)

-- nor is the mark of an operation
pub op_no_equals : (op : Op) → mark_of_op op ≢ Equals
op_no_equals Add = λ e. cc
op_no_equals Sub = λ e. cc
op_no_equals Mul = λ e. cc

-- one token is one token
pub has_length : (k : TokenKind) (ts rest : List Token) → Has k ts rest → length ts ≡ suc (length rest)
has_length k [] rest h = absurd h
has_length k (t ∷ ts) rest h = ap (λ r. suc (length r)) h.1

-- further captured names take two tokens each
pub others_length : (names : List Text) (cs : List Captured) (ts rest : List Token) → SpellsOthers names cs ts rest → length cs + length rest < length ts
others_length names [] ts rest h = omega (arith, has_length CloseParen ts rest h)
others_length names (c ∷ cs) ts rest (a, b, comma, at, named, more) =
    omega (arith, has_length Comma ts a comma, has_length (Name named.0) a b named.2, others_length names cs b rest more)

-- each reader of one token reads it: a terminal
after_is : (expected : Terminal) (ts rest : List Token) → Has (kind_of expected) ts rest → after_terminal expected ts ≡ Ok rest
unfolding after_terminal
after_is expected [] rest h = absurd h
after_is expected (t ∷ ts) rest h = ap (λ b. cond b (Ok ts) (Err (Syntax t.start))) (ap (is_terminal expected) h.0 ∙ its_kind expected) ∙ ap (λ r. Ok r) h.1

-- a name
name_is : (n : ℕ) (ts rest : List Token) → Has (Name n) ts rest → name_at ts ≡ Ok (n, rest)
unfolding name_at
name_is n [] rest h = absurd h
name_is n (t ∷ ts) rest h = ap (λ k. name_kind k t.start ts) h.0 ∙ ap (λ r. Ok (n, r)) h.1

-- a number that is turned round
turned_is : (size : ℤ) (ts rest : List Token) → Has (Number size) ts rest → turned_at ts ≡ Ok (neg_ℤ size, rest)
unfolding turned_at
turned_is size [] rest h = absurd h
turned_is size (t ∷ ts) rest h = ap (λ k. turned_kind k t.start ts) h.0 ∙ ap (λ r. Ok (neg_ℤ size, r)) h.1

-- the mark of an operation
op_is : (op : Op) (ts rest : List Token) → Has (mark_of_op op) ts rest → op_at ts ≡ Ok (op, rest)
unfolding op_at
op_is op [] rest h = absurd h
op_is op (t ∷ ts) rest h = ap (λ k. op_kind k t.start ts) h.0 ∙ by op ∙ ap (λ r. Ok (op, r)) h.1
  where
    by : (op : Op) → op_kind (mark_of_op op) t.start ts ≡ Ok (op, ts)
    by Add = refl
    by Sub = refl
    by Mul = refl

-- a comma between captured names
comma_is : (ts rest : List Token) → Has Comma ts rest → comma_at ts ≡ Ok (true, rest)
unfolding comma_at
comma_is [] rest h = absurd h
comma_is (t ∷ ts) rest h = ap (λ k. comma_kind k t.start ts) h.0 ∙ ap (λ r. Ok (true, r)) h.1

-- the mark behind the last
last_is : (ts rest : List Token) → Has CloseParen ts rest → comma_at ts ≡ Ok (false, rest)
unfolding comma_at
last_is [] rest h = absurd h
last_is (t ∷ ts) rest h = ap (λ k. comma_kind k t.start ts) h.0 ∙ ap (λ r. Ok (false, r)) h.1

-- the name of a `let`
bound_is : (n : ℕ) (ts a c rest : List Token) → Has MutWord ts a → Has (Name n) a c → Has Equals c rest → bound_at ts ≡ Ok (n, rest)
unfolding bound_at
bound_is n ts a c rest mut name eq =
    ap (λ r. r >>= λ a. name_at a >>= λ b. after_terminal terminal.Equals b.1 >>= λ c. Ok (b.0, c)) (after_is terminal.Mut ts a mut)
    ∙ ap (λ r. r >>= λ b. after_terminal terminal.Equals b.1 >>= λ c. Ok (b.0, c)) (name_is n a c name)
    ∙ ap (λ r. r >>= λ c. Ok (n, c)) (after_is terminal.Equals c rest eq)

-- the name of a `lock`
held_is : (n : ℕ) (ts a rest : List Token) → Has AsWord ts a → Has (Name n) a rest → held_at ts ≡ Ok (n, rest)
unfolding held_at
held_is n ts a rest word name = bind_by (after_terminal terminal.As ts) a name_at (after_is terminal.As ts a word) ∙ name_is n a rest name

-- a captured name
capture_is : (names : List Text) (c : Captured) (ts rest : List Token) → IsAt c.at ts → SpellsName names c.name ts rest → capture_at names ts ≡ Ok (c, rest)
unfolding capture_at
capture_is names c ts rest at (n, text, named) =
    bind_by (name_at ts) (n, rest) (λ x. Ok (record { at = place_of ts; name = text_of names x.0 }, x.1)) (name_is n ts rest named)
    ∙ ap (λ p. Ok (record { at = p; name = text_of names n }, rest)) (is_place c.at ts at)
    ∙ ap (λ m. Ok (record { at = c.at; name = m }, rest)) text

-- a captured name and the mark behind it
capture_step : (names : List Text) (n : ℕ) (c : Captured) (m : Bool) (ts a r : List Token) → capture_at names ts ≡ Ok (c, a) → comma_at a ≡ Ok (m, r) → captured_at names (suc n) ts ≡ after_capture (captured_at names n) c m r
unfolding captured_at capture_next
capture_step names n c m ts a r one mark =
    bind_by (capture_next names ts) (c, m, r) (λ x. after_capture (captured_at names n) x.0 x.1 x.2)
    (bind_by (capture_at names ts) (c, a) (λ c. comma_at c.1 >>= λ m. Ok (c.0, m.0, m.1)) one ∙ bind_by (comma_at a) (m, r) (λ m. Ok (c, m.0, m.1)) mark)

-- captured names are read, where there are as many tries as names
captured_is : (names : List Text) (cs : List Captured) (c : Captured) (n : ℕ) (ts a rest : List Token) → length cs ≤ n → IsAt c.at ts → SpellsName names c.name ts a → SpellsOthers names cs a rest → captured_at names (suc n) ts ≡ Ok (c ∷ cs, rest)
captured_is names [] c n ts a rest few at named close = capture_step names n c false ts a rest (capture_is names c ts a at named) (last_is a rest close)
captured_is names (e ∷ es) c zero ts a rest few at named more = absurd (omega arith)
captured_is names (e ∷ es) c (suc n) ts a rest few at named (x, y, comma, place, text, more) =
    capture_step names (suc n) c true ts a x (capture_is names c ts a at named) (comma_is a x comma)
    ∙ bind_by (captured_at names (suc n) x) (e ∷ es, rest) (λ x. Ok (c ∷ x.0, x.1)) (captured_is names es e n x y rest (omega arith) place text more)

-- a capture list behind its opening mark
list_is : (names : List Text) (cs : List Captured) (ts rest : List Token) → SpellsNames names cs ts rest → list_at names ts ≡ Ok (cs, rest)
unfolding list_at
list_is names [] [] rest h = absurd h
list_is names [] (t ∷ ts) rest h = ap (λ k. list_kind names k ts (t ∷ ts)) h.0 ∙ ap (λ r. Ok ([], r)) h.1
list_is names (c ∷ cs) [] rest (a, at, named, more) = absurd at
list_is names (c ∷ cs) (t ∷ ts) rest (a, at, named, more) =
    let few : length cs ≤ suc (length ts) = omega (arith, has_length (Name named.0) (t ∷ ts) a named.2, others_length names cs a rest more) in
    ap (λ k. list_kind names k ts (t ∷ ts)) named.2.0 ∙ captured_is names cs c (suc (length ts)) (t ∷ ts) a rest few at named more

-- a capture list
captures_is : (names : List Text) (cs : List Captured) (ts rest : List Token) → SpellsCaptures names cs ts rest → captures_at names ts ≡ Ok (cs, rest)
unfolding captures_at
captures_is names cs ts rest (a, mark, h) = bind_by (after_terminal terminal.Open ts) a (list_at names) (after_is terminal.Open ts a mark) ∙ list_is names cs a rest h

-- a leaf by its first token
leaf_by : (names : List Text) (k : TokenKind) (at : ℕ) (t : Token) (a : List Token) → t.kind ≡ k → t.start ≡ at → leaf_at names (t ∷ a) ≡ leaf_kind names k at a
unfolding leaf_at
leaf_by names k at t a ek es = ap (λ k. leaf_kind names k t.start a) ek ∙ ap (λ p. leaf_kind names k p a) es

-- a shared borrow, behind its mark
borrow_is : (names : List Text) (place : ℕ) (w : Spot) (ts rest : List Token) → SpellsPlace names w ts rest → IsShort w → borrow_at names place ts ≡ Ok (borrow_t place w, rest)
unfolding borrow_at
borrow_is names place w [] rest h short = absurd h.0
borrow_is names place w (t ∷ ts) rest h short = by w.stars h.1 ∙ bind_by (spot_at names (t ∷ ts)) (w, rest) (λ w. Ok (borrow_t place w.0, w.1)) (place_is_read names w (t ∷ ts) rest h short)
  where
    by : (n : ℕ) → SpellsPath names n w.name (t ∷ ts) rest → borrow_kind names place t.kind ts (t ∷ ts) ≡ (spot_at names (t ∷ ts) >>= λ w. Ok (borrow_t place w.0, w.1))
    by zero h = ap (λ k. borrow_kind names place k ts (t ∷ ts)) h.2.0
    by (suc n) h = ap (λ k. borrow_kind names place k ts (t ∷ ts)) h.1.0

-- a borrow that may change its place, behind its mark
borrow_mut_is : (names : List Text) (place : ℕ) (w : Spot) (ts a rest : List Token) → Has MutWord ts a → SpellsPlace names w a rest → IsShort w → borrow_at names place ts ≡ Ok (borrow_mut_t place w, rest)
unfolding borrow_at
borrow_mut_is names place w [] a rest word h short = absurd word
borrow_mut_is names place w (t ∷ ts) a rest word h short =
    ap (λ k. borrow_kind names place k ts (t ∷ ts)) word.0 ∙ ap (λ a. spot_at names a >>= λ w. Ok (borrow_mut_t place w.0, w.1)) word.1
    ∙ bind_by (spot_at names a) (w, rest) (λ w. Ok (borrow_mut_t place w.0, w.1)) (place_is_read names w a rest h short)

-- a place before which no assignment's mark comes is a read
read_is : (read_term : List Token → Read Term) (w : Spot) (ts : List Token) → NoEquals ts → rest_at read_term w ts ≡ Ok (read_t w.at w, ts)
unfolding rest_at
read_is read_term w [] other = refl
read_is read_term w (t ∷ ts) other = by t.kind other
  where
    by : (k : TokenKind) → k ≢ Equals → rest_kind read_term w k ts (t ∷ ts) ≡ Ok (read_t w.at w, t ∷ ts)
    by Equals other = absurd (other refl)
    by k other = refl

-- a place before an assignment's mark is assigned
assign_is : (read_term : List Token → Read Term) (w : Spot) (value : Term) (ts a rest : List Token) → Has Equals ts a → read_term a ≡ Ok (value, rest) → rest_at read_term w ts ≡ Ok (assign_t w.at w value, rest)
unfolding rest_at
assign_is read_term w value [] a rest h ih = absurd h
assign_is read_term w value (t ∷ ts) a rest h ih =
    ap (λ k. rest_kind read_term w k ts (t ∷ ts)) h.0 ∙ ap (λ a. read_term a >>= λ x. Ok (assign_t w.at w x.0, x.1)) h.1
    ∙ ap (λ r. r >>= λ x. Ok (assign_t w.at w x.0, x.1)) ih

-- no closing mark of a list comes first
abbrev pub NoParen : List Token → Type 0
NoParen [] = ⊤
NoParen (t ∷ ts) = t.kind ≢ CloseParen

-- arithmetic, behind its opening mark
arith_is : (read_term : List Token → Read Term) (place : ℕ) (op : Op) (left right : Term) (ts a b c rest : List Token) → read_term ts ≡ Ok (left, a) → Has (mark_of_op op) a b → read_term b ≡ Ok (right, c) → Has CloseParen c rest → arith_at read_term place ts ≡ Ok (arith_t place op left right, rest)
unfolding arith_at
arith_is read_term place op left right ts a b c rest one mark two close =
    bind_by (read_term ts) (left, a) (λ a. op_at a.1 >>= λ op. read_term op.1 >>= λ b. after_terminal terminal.Close b.1 >>= λ rest. Ok (arith_t place op.0 a.0 b.0, rest)) one
    ∙ bind_by (op_at a) (op, b) (λ op. read_term op.1 >>= λ b. after_terminal terminal.Close b.1 >>= λ rest. Ok (arith_t place op.0 left b.0, rest)) (op_is op a b mark)
    ∙ bind_by (read_term b) (right, c) (λ b. after_terminal terminal.Close b.1 >>= λ rest. Ok (arith_t place op left b.0, rest)) two
    ∙ bind_by (after_terminal terminal.Close c) rest (λ rest. Ok (arith_t place op left right, rest)) (after_is terminal.Close c rest close)

-- the constant unit, behind its opening mark
unit_is : (read_term : List Token → Read Term) (place : ℕ) (ts rest : List Token) → Has CloseParen ts rest → inner_at read_term place ts ≡ Ok (unit_t place, rest)
unfolding inner_at
unit_is read_term place [] rest h = absurd h
unit_is read_term place (t ∷ ts) rest h = ap (λ k. inner_kind read_term place k ts (t ∷ ts)) h.0 ∙ ap (λ r. Ok (unit_t place, r)) h.1

-- what is no closing mark begins arithmetic
inner_is : (read_term : List Token → Read Term) (place : ℕ) (ts : List Token) → NoParen ts → inner_at read_term place ts ≡ arith_at read_term place ts
unfolding inner_at
inner_is read_term place [] other = refl
inner_is read_term place (t ∷ ts) other = by t.kind other
  where
    by : (k : TokenKind) → k ≢ CloseParen → inner_kind read_term place k ts (t ∷ ts) ≡ arith_at read_term place (t ∷ ts)
    by CloseParen other = absurd (other refl)
    by k other = refl

-- a block is read as a body
pub body_is : (names : List Text) (read_term : List Token → Read Term) (body : Term) (ts rest : List Token) → IsBlock body → Spells names false body ts rest → body_at read_term ts ≡ read_term ts
unfolding body_at
body_is names read_term (block_t at items) [] rest is (a, begins, h) = absurd begins.1
body_is names read_term (block_t at items) (t ∷ ts) rest is (a, begins, h) = ap (λ k. body_kind read_term k t.start (t ∷ ts)) begins.0.0
body_is names read_term body ts rest is h = absurd is

-- what a new thread captures, and its body
branch_is : (names : List Text) (read_term : List Token → Read Term) (captures : List Captured) (body : Term) (ts a rest : List Token) → SpellsCaptures names captures ts a → IsBlock body → Spells names false body a rest → read_term a ≡ Ok (body, rest) → branch_at names read_term ts ≡ Ok (captures, body, rest)
unfolding branch_at
branch_is names read_term captures body ts a rest listed block h ih =
    bind_by (captures_at names ts) (captures, a) (λ c. body_at read_term c.1 >>= λ b. Ok (c.0, b.0, b.1)) (captures_is names captures ts a listed)
    ∙ bind_by (body_at read_term a) (body, rest) (λ b. Ok (captures, b.0, b.1)) (body_is names read_term body a rest block h ∙ ih)

-- the rows of a term, from what is read of its parts
module _ (names : List Text) (d : ℕ) (b : Bool) where
  -- a term by its first token
  row : (k : TokenKind) (at : ℕ) (ts a : List Token) → Begins k at ts a → IsTrue (begins_term k) → (r : Read Term) → ((t : Token) → t.kind ≡ k → t.start ≡ at → term_kind names (any_at names d true) (any_at names d false) k at a (t ∷ a) ≡ r) → any_at names (suc d) b ts ≡ r
  row k at ts a h begins r e =
      let s = begins_cons k at ts a h in
      subst (λ ts. any_at names (suc d) b ts ≡ r) (sym s.1) (at_term names d b k at s.0 a s.2 s.3 begins ∙ e s.0 s.2 s.3)

  -- the constant unit
  pub unit_read : (at : ℕ) (ts a rest : List Token) → Begins OpenParen at ts a → Has CloseParen a rest → any_at names (suc d) b ts ≡ Ok (unit_t at, rest)
  unit_read at ts a rest h close = row OpenParen at ts a h refl (Ok (unit_t at, rest)) (λ t k s. unit_is (any_at names d false) at a rest close)

  -- a number, also behind a minus
  pub number_read : (at : ℕ) (value : ℤ) (ts rest : List Token) → SpellsNumber at value ts rest → any_at names (suc d) b ts ≡ Ok (number_t at value, rest)
  number_read at value ts rest (inl h) = row (Number value) at ts rest h refl (Ok (number_t at value, rest)) (λ t k s. leaf_by names (Number value) at t rest k s)
  number_read at value ts rest (inr (a, size, h, num, is)) =
      row Minus at ts a h refl (Ok (number_t at value, rest))
      (λ t k s. leaf_by names Minus at t a k s
      ∙ bind_by (turned_at a) (neg_ℤ size, rest) (λ x. Ok (number_t at x.0, x.1)) (turned_is size a rest num)
      ∙ ap (λ v. Ok (number_t at v, rest)) (sym is))

  -- a shared borrow
  pub borrow_read : (at : ℕ) (w : Spot) (ts a rest : List Token) → Begins Amp at ts a → SpellsPlace names w a rest → IsShort w → any_at names (suc d) b ts ≡ Ok (borrow_t at w, rest)
  borrow_read at w ts a rest h place short = row Amp at ts a h refl (Ok (borrow_t at w, rest)) (λ t k s. leaf_by names Amp at t a k s ∙ borrow_is names at w a rest place short)

  -- a borrow that may change its place
  pub borrow_mut_read : (at : ℕ) (w : Spot) (ts a c rest : List Token) → Begins Amp at ts a → Has MutWord a c → SpellsPlace names w c rest → IsShort w → any_at names (suc d) b ts ≡ Ok (borrow_mut_t at w, rest)
  borrow_mut_read at w ts a c rest h word place short = row Amp at ts a h refl (Ok (borrow_mut_t at w, rest)) (λ t k s. leaf_by names Amp at t a k s ∙ borrow_mut_is names at w a c rest word place short)

  -- a mutex value once more
  pub dup_read : (at : ℕ) (w : Spot) (ts a rest : List Token) → Begins DupWord at ts a → SpellsPlace names w a rest → IsShort w → any_at names (suc d) b ts ≡ Ok (dup_t at w, rest)
  dup_read at w ts a rest h place short =
      row DupWord at ts a h refl (Ok (dup_t at w, rest)) (λ t k s. leaf_by names DupWord at t a k s ∙ bind_by (spot_at names a) (w, rest) (λ w. Ok (dup_t at w.0, w.1)) (place_is_read names w a rest place short))

  -- `box` and a term
  pub box_read : (at : ℕ) (value : Term) (ts a rest : List Token) → Begins BoxWord at ts a → any_at names d false a ≡ Ok (value, rest) → any_at names (suc d) b ts ≡ Ok (box_t at value, rest)
  box_read at value ts a rest h ih = row BoxWord at ts a h refl (Ok (box_t at value, rest)) (λ t k s. bind_by (any_at names d false a) (value, rest) (λ x. Ok (box_t at x.0, x.1)) ih)

  -- `print` and a term
  pub print_read : (at : ℕ) (value : Term) (ts a rest : List Token) → Begins PrintWord at ts a → any_at names d false a ≡ Ok (value, rest) → any_at names (suc d) b ts ≡ Ok (print_t at value, rest)
  print_read at value ts a rest h ih = row PrintWord at ts a h refl (Ok (print_t at value, rest)) (λ t k s. bind_by (any_at names d false a) (value, rest) (λ x. Ok (print_t at x.0, x.1)) ih)

  -- `join` and a term
  pub join_read : (at : ℕ) (value : Term) (ts a rest : List Token) → Begins JoinWord at ts a → any_at names d false a ≡ Ok (value, rest) → any_at names (suc d) b ts ≡ Ok (join_t at value, rest)
  join_read at value ts a rest h ih = row JoinWord at ts a h refl (Ok (join_t at value, rest)) (λ t k s. bind_by (any_at names d false a) (value, rest) (λ x. Ok (join_t at x.0, x.1)) ih)

  -- `mutex` and a term
  pub mutex_read : (at : ℕ) (value : Term) (ts a rest : List Token) → Begins MutexWord at ts a → any_at names d false a ≡ Ok (value, rest) → any_at names (suc d) b ts ≡ Ok (mutex_t at value, rest)
  mutex_read at value ts a rest h ih = row MutexWord at ts a h refl (Ok (mutex_t at value, rest)) (λ t k s. bind_by (any_at names d false a) (value, rest) (λ x. Ok (mutex_t at x.0, x.1)) ih)

  -- a sum, difference or product
  pub arith_read : (at : ℕ) (op : Op) (left right : Term) (ts x y z w rest : List Token) → Begins OpenParen at ts x → NoParen x → any_at names d false x ≡ Ok (left, y) → Has (mark_of_op op) y z → any_at names d false z ≡ Ok (right, w) → Has CloseParen w rest → any_at names (suc d) b ts ≡ Ok (arith_t at op left right, rest)
  arith_read at op left right ts x y z w rest h other one mark two close =
      row OpenParen at ts x h refl (Ok (arith_t at op left right, rest))
      (λ t k s. inner_is (any_at names d false) at x other ∙ arith_is (any_at names d false) at op left right x y z w rest one mark two close)

  -- one new thread
  pub spawn_read : (at : ℕ) (captures : List Captured) (body : Term) (ts x y rest : List Token) → Begins SpawnWord at ts x → SpellsCaptures names captures x y → IsBlock body → Spells names false body y rest → any_at names d false y ≡ Ok (body, rest) → any_at names (suc d) b ts ≡ Ok (spawn_t at captures body, rest)
  unfolding spawn_at
  spawn_read at captures body ts x y rest h listed block spells ih =
      row SpawnWord at ts x h refl (Ok (spawn_t at captures body, rest))
      (λ t k s. bind_by (branch_at names (any_at names d false) x) (captures, body, rest) (λ x. Ok (spawn_t at x.0 x.1, x.2)) (branch_is names (any_at names d false) captures body x y rest listed block spells ih))

  -- two new threads
  pub par_read : (at : ℕ) (captures : List Captured) (body : Term) (others : List Captured) (other : Term) (ts x y z w rest : List Token) → Begins ParWord at ts x → SpellsCaptures names captures x y → IsBlock body → Spells names false body y z → any_at names d false y ≡ Ok (body, z) → SpellsCaptures names others z w → IsBlock other → Spells names false other w rest → any_at names d false w ≡ Ok (other, rest) → any_at names (suc d) b ts ≡ Ok (par_t at captures body others other, rest)
  unfolding par_at
  par_read at captures body others other ts x y z w rest h listed block spells one listed2 block2 spells2 two =
      let again : List Captured → Term → List Token → Read Term = λ cs t r. branch_at names (any_at names d false) r >>= λ y. Ok (par_t at cs t y.0 y.1, y.2) in
      row ParWord at ts x h refl (Ok (par_t at captures body others other, rest))
      (λ t k s. bind_by (branch_at names (any_at names d false) x) (captures, body, z) (λ x. again x.0 x.1 x.2) (branch_is names (any_at names d false) captures body x y z listed block spells one)
      ∙ bind_by (branch_at names (any_at names d false) z) (others, other, rest) (λ y. Ok (par_t at captures body y.0 y.1, y.2)) (branch_is names (any_at names d false) others other z w rest listed2 block2 spells2 two))

  -- the content of a mutex under a name
  pub lock_read : (at : ℕ) (w : Spot) (name : Text) (body : Term) (ts x y z v rest : List Token) → Begins LockWord at ts x → SpellsPlace names w x y → IsShort w → Has AsWord y z → SpellsName names name z v → IsBlock body → Spells names false body v rest → any_at names d false v ≡ Ok (body, rest) → any_at names (suc d) b ts ≡ Ok (lock_t at w name body, rest)
  unfolding lock_at
  lock_read at w name body ts x y z v rest h place short word (n, text, named) block spells ih =
      let as_lock : Spot → ℕ → Read Term → Read Term = λ w n r. r >>= λ b. Ok (lock_t at w (text_of names n) b.0, b.1) in
      let read : List Token → Read Term = body_at (any_at names d false) in
      row LockWord at ts x h refl (Ok (lock_t at w name body, rest))
      (λ t k s. bind_by (spot_at names x) (w, y) (λ w. held_at w.1 >>= λ x. as_lock w.0 x.0 (read x.1)) (place_is_read names w x y place short)
      ∙ bind_by (held_at y) (n, v) (λ x. as_lock w x.0 (read x.1)) (held_is n y z v word named)
      ∙ ap (as_lock w n) (body_is names (any_at names d false) body v rest block spells ∙ ih)
      ∙ ap (λ m. Ok (lock_t at w m body, rest)) text)

  -- a term that begins with a place is read as that place and what follows it
  place_read : (w : Spot) (ts a : List Token) → SpellsPlace names w ts a → IsShort w → any_at names (suc d) b ts ≡ rest_at (any_at names d false) w a
  unfolding placed_at
  place_read w ts a h short = by w.stars h.1 ∙ bind_by (spot_at names ts) (w, a) (λ x. rest_at (any_at names d false) x.0 x.1) (place_is_read names w ts a h short)
    where
      starts : (k : TokenKind) (r : List Token) → Has k ts r → begins_term k ≡ true → (term_kind names (any_at names d true) (any_at names d false) k (place_of ts) r ts ≡ placed_at names (any_at names d false) ts) → any_at names (suc d) b ts ≡ placed_at names (any_at names d false) ts
      starts k r h begins e =
          let s = has_cons k ts r h in
          subst (λ ts. any_at names (suc d) b ts ≡ term_kind names (any_at names d true) (any_at names d false) k (place_of ts) r ts) (sym s.1) (at_term names d b k s.0.start s.0 r s.2 refl begins) ∙ e

      by : (n : ℕ) → SpellsPath names n w.name ts a → any_at names (suc d) b ts ≡ placed_at names (any_at names d false) ts
      by zero h = starts (Name h.0) a h.2 refl refl
      by (suc n) h = starts Star h.0 h.1 refl refl

  -- a read
  pub read_read : (at : ℕ) (w : Spot) (ts rest : List Token) → at ≡ w.at → SpellsPlace names w ts rest → IsShort w → NoEquals rest → any_at names (suc d) b ts ≡ Ok (read_t at w, rest)
  read_read at w ts rest same h short other =
      place_read w ts rest h short ∙ read_is (any_at names d false) w rest other ∙ ap (λ p. Ok (read_t p w, rest)) (sym same)

  -- an assignment
  pub assign_read : (at : ℕ) (w : Spot) (value : Term) (ts a c rest : List Token) → at ≡ w.at → SpellsPlace names w ts a → IsShort w → Has Equals a c → any_at names d false c ≡ Ok (value, rest) → any_at names (suc d) b ts ≡ Ok (assign_t at w value, rest)
  assign_read at w value ts a c rest same h short eq ih =
      place_read w ts a h short ∙ assign_is (any_at names d false) w value a c rest eq ih ∙ ap (λ p. Ok (assign_t p w value, rest)) (sym same)

-- a `let` where an item may stand
pub let_read : (names : List Text) (d : ℕ) (b : Bool) (at : ℕ) (name : Text) (value : Term) (ts x y z w rest : List Token) → b ≡ true → Begins LetWord at ts x → Has MutWord x y → SpellsName names name y z → Has Equals z w → any_at names d false w ≡ Ok (value, rest) → any_at names (suc d) b ts ≡ Ok (let_t at name value, rest)
unfolding any_at
let_read names d b at name value ts x y z w rest is h mut (n, text, named) eq ih =
    let s = begins_cons LetWord at ts x h in
    let f : Bool → TokenKind → ℕ → Read Term = λ b k p. any_kind b names (any_at names d true) (any_at names d false) k p x (s.0 ∷ x) in
    let g : ℕ × List Token → Read Term = λ y. any_at names d false y.1 >>= λ v. Ok (let_t at (text_of names y.0) v.0, v.1) in
    subst (λ ts. any_at names (suc d) b ts ≡ Ok (let_t at name value, rest)) (sym s.1)
    (ap (λ b. f b s.0.kind s.0.start) is ∙ ap (λ k. f true k s.0.start) s.2 ∙ ap (f true LetWord) s.3
    ∙ bind_by (bound_at x) (n, w) g (bound_is n x y z w mut named eq)
    ∙ bind_by (any_at names d false w) (value, rest) (λ v. Ok (let_t at (text_of names n) v.0, v.1)) ih
    ∙ ap (λ name. Ok (let_t at name value, rest)) text)

-- a term does not begin with the closing mark of a list
pub term_no_paren : (names : List Text) (d : ℕ) (ts : List Token) (x : Term) (rest : List Token) → any_at names d false ts ≡ Ok (x, rest) → NoParen ts
unfolding any_at leaf_at
term_no_paren names d [] x rest e = tt
term_no_paren names zero (t ∷ ts) x rest e = λ k. cc
term_no_paren names (suc d) (t ∷ ts) x rest e = λ k.
    let f : TokenKind → Read Term = λ k. any_kind false names (any_at names d true) (any_at names d false) k t.start ts (t ∷ ts) in
    let g : TokenKind → Read Term = λ k. leaf_kind names k t.start ts in
    let bad = sym (ap f k ∙ ap g k) ∙ e in
    cc

-- no block ends here
abbrev pub NoClose : List Token → Type 0
NoClose [] = ⊤
NoClose (t ∷ ts) = t.kind ≢ CloseBrace

-- an item does not begin with the closing mark of a block
pub item_no_close : (names : List Text) (d : ℕ) (ts : List Token) (x : Term) (rest : List Token) → any_at names d true ts ≡ Ok (x, rest) → NoClose ts
unfolding any_at leaf_at
item_no_close names d [] x rest e = tt
item_no_close names zero (t ∷ ts) x rest e = λ k. cc
item_no_close names (suc d) (t ∷ ts) x rest e = λ k.
    let f : TokenKind → Read Term = λ k. any_kind true names (any_at names d true) (any_at names d false) k t.start ts (t ∷ ts) in
    let g : TokenKind → Read Term = λ k. leaf_kind names k t.start ts in
    let bad = sym (ap f k ∙ ap g k) ∙ e in
    cc
