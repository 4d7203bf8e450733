-- The text of a program bounds its steps: a token pays for each, and each token has a byte.
use Rattle.std.proofs.Common.{◌≡◌, ℕ, zero, suc, ◌+◌, ◌<◌, ◌≤◌, ◌^◌, Bool, true, false, List, [], ◌∷◌, length, take, drop, refl, sym, ap, ap₂, ◌∙◌, inl, inr, arith, length-append}
use Rattle.std.proofs.lemmas.List.{take-append-drop}
use Rattle.fr_terms.specs.Terms.{Text, Term, block_t, let_t, assign_t, read_t, borrow_t, borrow_mut_t, arith_t, number_t, unit_t, box_t, print_t, join_t, mutex_t, dup_t, lock_t, spawn_t, par_t, Captured, Items, none, item}
use Rattle.fr_typing.specs.Places.{Env}
use Rattle.fr_syntax.specs.declared.kind.TokenKind.{TokenKind}
use Rattle.fr_syntax.specs.declared.kind.TokenKind.TheVariants.{Name, End, LetWord, MutWord, BoxWord, PrintWord, SpawnWord, JoinWord, MutexWord, DupWord, LockWord, AsWord, ParWord, OpenBrace, CloseBrace, OpenParen, CloseParen, Semicolon, Comma, Equals, Amp, Star}
use Rattle.fr_syntax.specs.declared.token.Token.{Token}
use Rattle.fr_syntax.specs.Text.{blanks, text_len}
use Rattle.fr_syntax.specs.Tokens.{unblanked, first_text, after_text, names_after, Leads, end_at, AreTokens}
use Rattle.fr_grammar.specs.Grammar.{mark_of_op, Has, SpellsPath, SpellsOthers, SpellsNames, SpellsCaptures, Spells, SpellsItems, SpellsMore}
use Rattle.fr_grammar.specs.Source.{IsSource}
use Rattle.fr_grammar.proofs.Complete.{takes_some}
use Rattle.fr_plain.specs.Run.{Run, temp, unit_c, number, read, borrow, box_r, arith as arith_r, bind, print, assign, block, spawn, join_r, mutex_r, dup, lock, locked, par, par_end, Parts, last, more, Now, going, constant, temporary, now, settle_more, settle_right, close_last, close, settle, settle_parts, alive, one_if_temporary, leaves, leaves_last, steps_left, steps_in, life_left}
use Rattle.fr_typing.specs.Finding.{env_after}
use Rattle.fr_typing.specs.Typing.{typing}
use Rattle.fr_typing.specs.Captures.{by_spawn, by_par, env_of_all, env_left_by_all}
use Rattle.fr_plain.specs.Resolve.{lets_in, lets, dropping, env_locked, before, resolve, resolve_items, program}

-- TOKENS PAY FOR STEPS

-- a mark or word is one token
has_one : (k : TokenKind) (ts rest : List Token) → Has k ts rest → length ts ≡ length rest + 1
has_one k [] rest h = absurd h
has_one k (t ∷ ts) rest h = omega (arith, ap length h.1)

-- a place has a token at least
path_has_one : (names : List Text) (n : ℕ) (name : Text) (ts rest : List Token) → SpellsPath names n name ts rest → length rest < length ts
path_has_one names zero name ts rest h = omega (arith, has_one (Name h.0) ts rest h.2)
path_has_one names (suc n) name ts rest h = omega (arith, has_one Star ts h.0 h.1, path_has_one names n name h.0 rest h.2)

-- captured names have a token each, and the list has its marks
others_pay : (names : List Text) (cs : List Captured) (ts rest : List Token) → SpellsOthers names cs ts rest → length cs + 1 + length rest ≤ length ts
others_pay names [] ts rest h = omega (arith, has_one CloseParen ts rest h)
others_pay names (c ∷ cs) ts rest (x, y, comma, at, name, next) = omega (arith, has_one Comma ts x comma, has_one (Name name.0) x y name.2, others_pay names cs y rest next)

names_pay : (names : List Text) (cs : List Captured) (ts rest : List Token) → SpellsNames names cs ts rest → length cs + 1 + length rest ≤ length ts
names_pay names [] ts rest h = omega (arith, has_one CloseParen ts rest h)
names_pay names (c ∷ cs) ts rest (x, at, name, next) = omega (arith, has_one (Name name.0) ts x name.2, others_pay names cs x rest next)

captures_pay : (names : List Text) (cs : List Captured) (ts rest : List Token) → SpellsCaptures names cs ts rest → length cs + 2 + length rest ≤ length ts
captures_pay names cs ts rest (x, open_, h) = omega (arith, has_one OpenParen ts x open_, names_pay names cs x rest h)

-- a value that an item leaves is dropped in one step
one_at_most : (b : Bool) → one_if_temporary b ≤ 1
one_at_most true = omega arith
one_at_most false = omega arith

-- the constant unit that a semicolon at the end of a block adds takes no step
unit_is_free : (first : Term) (items : Items) (place : ℕ) (e : Env) → first ≡ unit_t place → items ≡ none → steps_in (resolve_items (item first items) e) + lets (item first items) ≡ 0
unit_is_free first items place e unit over = ap₂ (λ t ts. steps_in (resolve_items (item t ts) e) + lets (item t ts)) unit over

-- a lock's body drops what it declares
dropping_steps : (k : ℕ) (r : Run) → steps_left (dropping k r) ≡ steps_left r + k
dropping_steps zero r = omega arith
dropping_steps (suc k) r = omega arith

mutual
  -- a term has a token for each of its steps, and for each variable that it declares in the block around it
  term_pays : (names : List Text) (b : Bool) (t : Term) (ts rest : List Token) (e : Env) → Spells names b t ts rest → steps_left (resolve t e) + lets_in t + length rest ≤ length ts
  term_pays names b (let_t at name value) ts rest e (x, y, z, w, is, begins, mut, named, eq, h) =
      omega (arith, has_one LetWord ts x begins.0, has_one MutWord x y mut, has_one (Name named.0) y z named.2, has_one Equals z w eq, term_pays names false value w rest e h)
  term_pays names b (block_t at items) ts rest e (x, begins, h) = omega (arith, has_one OpenBrace ts x begins.0, items_pay names items x rest e h)
  term_pays names b (read_t at from) ts rest e h = omega (arith, path_has_one names from.stars from.name ts rest h.1.1)
  term_pays names b (assign_t at to value) ts rest e (x, y, same, place, eq, h) =
      omega (arith, path_has_one names to.stars to.name ts x place.1, has_one Equals x y eq, term_pays names false value y rest e h)
  term_pays names b (box_t at value) ts rest e (x, begins, h) = omega (arith, has_one BoxWord ts x begins.0, term_pays names false value x rest e h)
  term_pays names b (print_t at value) ts rest e (x, begins, h) = omega (arith, has_one PrintWord ts x begins.0, term_pays names false value x rest e h)
  term_pays names b (join_t at task) ts rest e (x, begins, h) = omega (arith, has_one JoinWord ts x begins.0, term_pays names false task x rest e h)
  -- a new thread's steps, the drops of its captures, its end and its start
  term_pays names b (spawn_t at captures body) ts rest e (x, y, begins, list, is_block, h) =
      omega (arith, has_one SpawnWord ts x begins.0, captures_pay names captures x y list, term_pays names false body y rest (env_of_all by_spawn e captures) h)
  term_pays names b (borrow_t at of) ts rest e (x, begins, place) = omega (arith, has_one Amp ts x begins.0, path_has_one names of.stars of.name x rest place.1)
  term_pays names b (borrow_mut_t at of) ts rest e (x, y, begins, mut, place) =
      omega (arith, has_one Amp ts x begins.0, has_one MutWord x y mut, path_has_one names of.stars of.name y rest place.1)
  term_pays names b (arith_t at op left right) ts rest e (x, y, z, w, begins, h, mark, g, close) =
      omega (
        arith,
        has_one OpenParen ts x begins.0,
        term_pays names false left x y e h,
        has_one (mark_of_op op) y z mark,
        term_pays names false right z w (env_after (typing left e)) g,
        has_one CloseParen w rest close,
      )
  term_pays names b (number_t at value) ts rest e h = omega (arith, takes_some names b (number_t at value) ts rest h)
  term_pays names b (unit_t at) ts rest e (x, begins, h) = omega (arith, has_one OpenParen ts x begins.0, has_one CloseParen x rest h)
  term_pays names b (mutex_t at value) ts rest e (x, begins, h) = omega (arith, has_one MutexWord ts x begins.0, term_pays names false value x rest e h)
  term_pays names b (dup_t at of) ts rest e (x, begins, place) = omega (arith, has_one DupWord ts x begins.0, path_has_one names of.stars of.name x rest place.1)
  -- a lock, its body's steps, the drops of what the body declares, and the unlock
  term_pays names b (lock_t at of name body) ts rest e (x, y, z, w, begins, place, mark, named, is_block, h) =
      omega (
        arith,
        has_one LockWord ts x begins.0,
        path_has_one names of.stars of.name x y place.1,
        has_one AsWord y z mark,
        has_one (Name named.0) z w named.2,
        dropping_steps (lets_in body) (resolve body (env_locked e of name)),
        term_pays names false body w rest (env_locked e of name) h,
      )
  -- the steps of both threads, the drops of their captures, their ends, and the start and the end of the pair
  term_pays names b (par_t at captures body others other) ts rest e (x, y, z, w, begins, list, is_block, h, rest_list, is_other, g) =
      omega (
        arith,
        has_one ParWord ts x begins.0,
        captures_pay names captures x y list,
        term_pays names false body y z (env_of_all by_par e captures) h,
        captures_pay names others z w rest_list,
        term_pays names false other w rest (env_of_all by_par (env_left_by_all by_par e captures) others) g,
      )

  -- the items of a block have a token for each of their steps, and for each variable that the block drops
  items_pay : (names : List Text) (items : Items) (ts rest : List Token) (e : Env) → SpellsItems names items ts rest → steps_in (resolve_items items e) + lets items + length rest ≤ length ts
  items_pay names none ts rest e h = omega (arith, has_one CloseBrace ts rest h)
  items_pay names (item first items) ts rest e (x, h, next) =
      omega (arith, term_pays names true first ts x e h, more_pay names items (resolve first e) x rest (env_after (typing first e)) next)

  -- and so do those behind an item, where a semicolon pays for the value that the item leaves
  more_pay : (names : List Text) (items : Items) (r : Run) (ts rest : List Token) (e : Env) → SpellsMore names items ts rest →
      steps_in (before items r (resolve_items items e)) + lets items + length rest ≤ steps_left r + length ts
  more_pay names none r ts rest e h = omega (arith, has_one CloseBrace ts rest h)
  more_pay names (item first items) r ts rest e (x, mark, inl (y, h, next)) =
      omega (arith, one_at_most (leaves r), has_one Semicolon ts x mark, term_pays names true first x y e h, more_pay names items (resolve first e) y rest (env_after (typing first e)) next)
  more_pay names (item first items) r ts rest e (x, mark, inr (place, unit, over, close)) =
      omega (arith, one_at_most (leaves r), has_one Semicolon ts x mark, has_one CloseBrace x rest close.0, unit_is_free first items place e unit over)

-- SETTLING ADDS NO STEP

-- at most as many steps, and the same kind of value
abbrev Fits : Run → ℕ → Bool → Type 0
Fits q n b = (steps_left q ≤ n) × (leaves q ≡ b)

-- a block that is closed round its last term takes no step more
last_fits : (n : Now) (r : Run) (m : ℕ) (b : Bool) → Fits r m b → Fits (close_last n r) (m + 0) b
last_fits going r m b h = (omega (arith, h.0), h.1)
last_fits (constant v) r m b h = (omega (arith, h.0), h.1)
last_fits (temporary v) r m b h = (omega (arith, h.0), h.1)

-- nor does one whose first item stays
first_fits : (k : ℕ) (r : Run) (is : Parts) (m : ℕ) (b : Bool) → Fits r m b → Fits (close k (more r is)) (m + one_if_temporary b + steps_in is + k) (leaves_last is)
first_fits zero r is m b h = (omega (arith, h.0, ap one_if_temporary h.1), refl)
first_fits (suc k) r is m b h = (omega (arith, h.0, ap one_if_temporary h.1), refl)

-- nor one whose first item vanishes where it is a constant
more_fits : (n : Now) (k : ℕ) (r : Run) (is rest : Parts) (m : ℕ) (b : Bool) → Fits r m b → Fits (close k rest) (steps_in is + k) (leaves_last is) →
    Fits (close k (settle_more n r is rest)) (m + one_if_temporary b + steps_in is + k) (leaves_last is)
more_fits going k r is rest m b h g = first_fits k r is m b h
more_fits (constant v) k r is rest m b h g = (omega (arith, g.0), g.1)
more_fits (temporary v) k r is rest m b h g = first_fits k r is m b h

-- nor a right operand
right_fits : (n : Now) (b rest : Run) → steps_left rest ≤ steps_left b → steps_left (settle_right n b rest) ≤ steps_left b
right_fits going b rest h = omega arith
right_fits (constant v) b rest h = h
right_fits (temporary v) b rest h = h

mutual
  -- settling a term adds no step
  settle_fits : (r : Run) → Fits (settle r) (steps_left r) (leaves r)
  settle_fits (temp v) = (omega arith, refl)
  settle_fits unit_c = (omega arith, refl)
  settle_fits (number n) = (omega arith, refl)
  settle_fits (read w take) = (omega arith, refl)
  settle_fits (borrow w is_mut) = (omega arith, refl)
  settle_fits (box_r r) = (omega (arith, (settle_fits r).0), refl)
  settle_fits (arith_r f a b) = (omega (arith, (settle_fits a).0, right_fits (now (settle a)) b (settle b) (settle_fits b).0), refl)
  settle_fits (bind r) = (omega (arith, (settle_fits r).0), refl)
  settle_fits (print r) = (omega (arith, (settle_fits r).0), refl)
  settle_fits (assign w r) = (omega (arith, (settle_fits r).0), refl)
  settle_fits (block k is) = close_fits k is
  settle_fits (spawn cs r) = (omega arith, refl)
  settle_fits (join_r r) = (omega (arith, (settle_fits r).0), refl)
  settle_fits (mutex_r r) = (omega (arith, (settle_fits r).0), refl)
  settle_fits (dup w) = (omega arith, refl)
  settle_fits (lock w r) = (omega arith, refl)
  settle_fits (locked r) = let s = settle_fits r in (omega (arith, s.0), s.1)
  settle_fits (par cs a ds b) = (omega arith, refl)
  settle_fits par_end = (omega arith, refl)

  -- nor does settling the items of a block and closing it
  close_fits : (k : ℕ) (is : Parts) → Fits (close k (settle_parts is)) (steps_in is + k) (leaves_last is)
  close_fits zero (last r) = last_fits (now (settle r)) (settle r) (steps_left r) (leaves r) (settle_fits r)
  close_fits (suc k) (last r) = (omega (arith, (settle_fits r).0), (settle_fits r).1)
  close_fits k (more r is) = more_fits (now (settle r)) k (settle r) is (settle_parts is) (steps_left r) (leaves r) (settle_fits r) (close_fits k is)

-- BYTES PAY FOR TOKENS

-- bytes are as many as the first of them and the others
split_length : (n : ℕ) (bytes : List ℕ) → length (take n bytes) + length (drop n bytes) ≡ length bytes
split_length n bytes = sym (length-append (take n bytes) (drop n bytes)) ∙ ap length (take-append-drop n bytes)

-- the first text and what follows it are no longer than the bytes
text_fits : (bytes : List ℕ) → length (first_text bytes) + length (after_text bytes) ≤ length bytes
text_fits bytes = omega (arith, split_length (text_len (unblanked bytes)) (unblanked bytes), split_length (blanks bytes) bytes)

-- there are no more tokens before the end than bytes
bytes_pay : (names : List Text) (place : ℕ) (bytes : List ℕ) (front : List Token) (names' : List Text) (place' : ℕ) (rest : List ℕ) → Leads names place bytes front names' place' rest → length front ≤ length bytes
bytes_pay names place bytes [] names' place' rest h = omega arith
bytes_pay names place bytes (t ∷ ts) names' place' rest h =
    omega (arith, h.0.some, text_fits bytes, bytes_pay (names_after names (first_text bytes)) t.end (after_text bytes) ts names' place' rest h.1)

-- with the end there is one more
tokens_few : (bytes : List ℕ) (ts : List Token) (names : List Text) → AreTokens bytes ts names → length ts ≤ length bytes + 1
tokens_few bytes ts names h =
    omega (arith, ap length h.all, length-append h.front (end_at (length bytes) ∷ []), bytes_pay [] 0 bytes h.front names h.place h.rest h.leads)

-- a program has no more steps than its text has bytes, and one more to end
pub steps_within : (bytes : List ℕ) (t : Term) → IsSource bytes t → life_left (alive (settle (program t))) ≤ length bytes + 1
steps_within bytes t h =
    let spelled = h.program.grammar.1 in
    omega (
      arith,
      (settle_fits (program t)).0,
      term_pays h.names false t h.ts spelled.0 [] spelled.1,
      has_one End spelled.0 [] spelled.2,
      tokens_few bytes h.ts h.names h.tokens,
    )

-- so that a counter of 64 bits holds them
pub few_steps : (bytes : List ℕ) (t : Term) → IsSource bytes t → length bytes ≤ 1048576 → life_left (alive (settle (program t))) < 2 ^ 64
few_steps bytes t h size = omega (arith, steps_within bytes t h, size)
