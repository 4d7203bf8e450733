-- Tokens over which the table goes on begin a program of the grammar.
use Rattle.std.proofs.Common.{◌≡◌, ◌⊎◌, inl, inr, ℕ, suc, ℤ, pos, Bool, true, false, List, [], ◌∷◌, ◌++◌, refl, sym, ap, subst}
use Rattle.std.proofs.lemmas.List.{append_assoc, append-nil}
use Rattle.std.specs.Prelude.{Option, Some, None, neg_ℤ}
use Rattle.fr_base.specs.declared.place.Op.{Op}
use Rattle.fr_base.specs.declared.place.Op.TheVariants.{Add, Sub, Mul}
use Rattle.fr_terms.specs.Terms.{Text, Spot, Captured, Term, block_t, let_t, assign_t, read_t, borrow_t, borrow_mut_t, number_t, unit_t, box_t, print_t, arith_t, join_t, mutex_t, dup_t, lock_t, spawn_t, par_t, Items, none, item, IsBlock}
use Rattle.fr_syntax.specs.Arena.{text_of}
use Rattle.fr_syntax.specs.declared.kind.TokenKind.{TokenKind}
use Rattle.fr_syntax.specs.declared.kind.TokenKind.TheVariants.{Name, Number, End, LetWord, MutWord, BoxWord, PrintWord, SpawnWord, JoinWord, ParWord, MutexWord, LockWord, AsWord, DupWord, OpenBrace, CloseBrace, OpenParen, CloseParen, Semicolon, Comma, Equals, Amp, Star, Plus, Minus}
use Rattle.fr_syntax.specs.declared.token.Token.{Token}
use Rattle.fr_grammar.specs.Grammar.{Has, IsAt, SpellsName, SpellsPlace, SpellsCaptures, SpellsNames, SpellsOthers, mark_of_op, Spells, SpellsItems, SpellsMore, IsProgram}
use Rattle.fr_grammar.specs.Refusals.{IsFront}
use Rattle.fr_grammar.specs.Table.{Symbol, block_s, items_s, more_s, term_s, rest_s, inner_s, op_s, borrow_s, place_s, captures_s, list_s, next_s, name_s, number_s, mut_s, as_s, equals_s, close_s, end_s, one_less, place_entry, term_entry, item_entry, and_then, entry, none_left}
use Rattle.fr_grammar.proofs.TableSteps.{next_of, after_or, after, or_nothing}

-- by the grammar ts are the tokens of what is expected here, and then the rest
abbrev pub IsOf : List Text → Symbol → List Token → List Token → Type 0
IsOf names (block_s levels) ts rest = (t : Term) × IsBlock t × Spells names false t ts rest
IsOf names (items_s levels) ts rest = (items : Items) × SpellsItems names items ts rest
IsOf names (more_s levels) ts rest = (items : Items) × SpellsMore names items ts rest
IsOf names (term_s levels) ts rest = (t : Term) × Spells names false t ts rest
IsOf names (rest_s levels) ts rest = (ts ≡ rest) ⊎ ((a : List Token) × (t : Term) × Has Equals ts a × Spells names false t a rest)
IsOf names (inner_s levels) ts rest =
    Has CloseParen ts rest ⊎ ((left : Term) × (op : Op) × (right : Term) × (a : List Token) × (b : List Token) × (c : List Token) × Spells names false left ts a × Has (mark_of_op op) a b × Spells names false right b c × Has CloseParen c rest)
IsOf names op_s ts rest = (op : Op) × Has (mark_of_op op) ts rest
IsOf names borrow_s ts rest = ((w : Spot) × SpellsPlace names w ts rest) ⊎ ((a : List Token) × (w : Spot) × Has MutWord ts a × SpellsPlace names w a rest)
IsOf names (place_s stars) ts rest = (w : Spot) × SpellsPlace names w ts rest
IsOf names captures_s ts rest = (cs : List Captured) × SpellsCaptures names cs ts rest
IsOf names list_s ts rest = (cs : List Captured) × SpellsNames names cs ts rest
IsOf names next_s ts rest = (cs : List Captured) × SpellsOthers names cs ts rest
IsOf names name_s ts rest = (name : Text) × (at : ℕ) × IsAt at ts × SpellsName names name ts rest
IsOf names number_s ts rest = (size : ℤ) × Has (Number size) ts rest
IsOf names mut_s ts rest = Has MutWord ts rest
IsOf names as_s ts rest = Has AsWord ts rest
IsOf names equals_s ts rest = Has Equals ts rest
IsOf names close_s ts rest = Has CloseParen ts rest
IsOf names end_s ts rest = Has End ts rest

-- and ts are those of all that is expected
abbrev pub AreOf : List Text → List Symbol → List Token → Type 0
AreOf names [] ts = ts ≡ []
AreOf names (s ∷ k) ts = (rest : List Token) × IsOf names s ts rest × AreOf names k rest

-- a token of this kind
abbrev token : TokenKind → Token
token kind = record { kind = kind; start = 0; end = 0 }

-- some tokens are those of what is expected
shortest : (names : List Text) (s : Symbol) (rest : List Token) → (ts : List Token) × IsOf names s ts rest
shortest names (block_s levels) rest = (token OpenBrace ∷ token CloseBrace ∷ rest, (block_t 0 none, tt, (_, ((refl, refl), refl), (refl, refl))))
shortest names (items_s levels) rest = (token CloseBrace ∷ rest, (none, (refl, refl)))
shortest names (more_s levels) rest = (token CloseBrace ∷ rest, (none, (refl, refl)))
shortest names (term_s levels) rest = (token (Number (pos 1)) ∷ rest, (number_t 0 (pos 1), inl ((refl, refl), refl)))
shortest names (rest_s levels) rest = (rest, inl refl)
shortest names (inner_s levels) rest = (token CloseParen ∷ rest, inl (refl, refl))
shortest names op_s rest = (token Plus ∷ rest, (Add, (refl, refl)))
shortest names borrow_s rest = (token (Name 0) ∷ rest, inl (record { at = 0; name = text_of names 0; stars = 0 }, (refl, (0, refl, (refl, refl)))))
shortest names (place_s stars) rest = (token (Name 0) ∷ rest, (record { at = 0; name = text_of names 0; stars = 0 }, (refl, (0, refl, (refl, refl)))))
shortest names captures_s rest = (token OpenParen ∷ token CloseParen ∷ rest, ([], (_, (refl, refl), (refl, refl))))
shortest names list_s rest = (token CloseParen ∷ rest, ([], (refl, refl)))
shortest names next_s rest = (token CloseParen ∷ rest, ([], (refl, refl)))
shortest names name_s rest = (token (Name 0) ∷ rest, (text_of names 0, 0, refl, (0, refl, (refl, refl))))
shortest names number_s rest = (token (Number (pos 1)) ∷ rest, (pos 1, (refl, refl)))
shortest names mut_s rest = (token MutWord ∷ rest, (refl, refl))
shortest names as_s rest = (token AsWord ∷ rest, (refl, refl))
shortest names equals_s rest = (token Equals ∷ rest, (refl, refl))
shortest names close_s rest = (token CloseParen ∷ rest, (refl, refl))
shortest names end_s rest = (token End ∷ rest, (refl, refl))

-- and so of all that is expected
whole : (names : List Text) (k : List Symbol) → (ts : List Token) × AreOf names k ts
whole names [] = ([], refl)
whole names (s ∷ k) =
    let more = whole names k in
    let first = shortest names s more.0 in
    (first.0, (more.0, first.1, more.1))

-- ts are those of what is expected behind a token, where something is
abbrev NextOf : List Text → Option (List Symbol) → List Token → Type 0
NextOf names None ts = ⊥
NextOf names (Some k) ts = AreOf names k ts

-- the tokens behind a place are a term, read or assigned to
placed_of : (names : List Text) (b : Bool) (d : ℕ) (w : Spot) (ts a rest : List Token) → SpellsPlace names w ts a → IsOf names (rest_s d) a rest → (t : Term) × Spells names b t ts rest
placed_of names b d w ts a rest place (inl same) = (read_t w.at w, (refl, subst (SpellsPlace names w ts) same place))
placed_of names b d w ts a rest place (inr (x, t, eq, h)) = (assign_t w.at w t, (_, _, refl, place, eq, h))

-- a star and then this place
abbrev star_spot : Token → Spot → Spot
star_spot t w = record { at = t.start; name = w.name; stars = suc w.stars }

abbrev name_spot : List Text → Token → ℕ → Spot
name_spot names t n = record { at = t.start; name = text_of names n; stars = 0 }

-- a star more
starred : (names : List Text) (t : Token) (w : Spot) (ts rest : List Token) → t.kind ≡ Star → SpellsPlace names w ts rest → SpellsPlace names (star_spot t w) (t ∷ ts) rest
starred names t w ts rest is h = (refl, (ts, (is, refl), h.1))

-- a name
named : (names : List Text) (t : Token) (n : ℕ) (ts : List Token) → t.kind ≡ Name n → SpellsPlace names (name_spot names t n) (t ∷ ts) ts
named names t n ts is = (refl, (n, refl, (is, refl)))

-- a term, or an item, by its first token and what is expected behind it
term_of : (names : List Text) (b : Bool) (d : ℕ) (kind : TokenKind) (t : Token) (ts : List Token) (k : List Symbol) → t.kind ≡ kind → NextOf names (and_then (term_entry d kind) k) ts → (rest : List Token) × ((x : Term) × Spells names b x (t ∷ ts) rest) × AreOf names k rest
term_of names b d OpenBrace t ts k is (rest, (items, h), more) = (rest, (block_t t.start items, (ts, ((is, refl), refl), h)), more)
term_of names b d (Name n) t ts k is (rest, h, more) = (rest, placed_of names b (one_less d) (name_spot names t n) (t ∷ ts) ts rest (named names t n ts is) h, more)
term_of names b d Star t ts k is (a, (w, place), (rest, h, more)) = (rest, placed_of names b (one_less d) (star_spot t w) (t ∷ ts) a rest (starred names t w ts a is place) h, more)
term_of names b d BoxWord t ts k is (rest, (x, h), more) = (rest, (box_t t.start x, (ts, ((is, refl), refl), h)), more)
term_of names b d PrintWord t ts k is (rest, (x, h), more) = (rest, (print_t t.start x, (ts, ((is, refl), refl), h)), more)
term_of names b d JoinWord t ts k is (rest, (x, h), more) = (rest, (join_t t.start x, (ts, ((is, refl), refl), h)), more)
term_of names b d MutexWord t ts k is (rest, (x, h), more) = (rest, (mutex_t t.start x, (ts, ((is, refl), refl), h)), more)
term_of names b d DupWord t ts k is (rest, (w, h), more) = (rest, (dup_t t.start w, (ts, ((is, refl), refl), h)), more)
term_of names b d Amp t ts k is (rest, inl (w, h), more) = (rest, (borrow_t t.start w, (ts, ((is, refl), refl), h)), more)
term_of names b d Amp t ts k is (rest, inr (a, w, mut, h), more) = (rest, (borrow_mut_t t.start w, (ts, a, ((is, refl), refl), mut, h)), more)
term_of names b d (Number value) t ts k is more = (ts, (number_t t.start value, inl ((is, refl), refl)), more)
term_of names b d Minus t ts k is (rest, (size, h), more) = (rest, (number_t t.start (neg_ℤ size), inr (ts, size, ((is, refl), refl), h, refl)), more)
term_of names b d OpenParen t ts k is (rest, inl h, more) = (rest, (unit_t t.start, (ts, ((is, refl), refl), h)), more)
term_of names b d OpenParen t ts k is (rest, inr (left, op, right, x, y, z, h, mark, i, close), more) =
    (rest, (arith_t t.start op left right, (ts, x, y, z, ((is, refl), refl), h, mark, i, close)), more)
term_of names b d SpawnWord t ts k is (a, (cs, list), (rest, (body, block, h), more)) =
    (rest, (spawn_t t.start cs body, (ts, a, ((is, refl), refl), list, block, h)), more)
term_of names b d ParWord t ts k is (a, (cs, list), (x, (body, block, h), (y, (others, list_two), (rest, (other, block_two, h_two), more)))) =
    (rest, (par_t t.start cs body others other, (ts, a, x, y, ((is, refl), refl), list, block, h, list_two, block_two, h_two)), more)
term_of names b d LockWord t ts k is (a, (w, place), (x, as_word, (y, (name, at, here, spelled), (rest, (body, block, h), more)))) =
    (rest, (lock_t t.start w name body, (ts, a, x, y, ((is, refl), refl), place, as_word, spelled, block, h)), more)
term_of names b d kind t ts k is h = absurd h

-- an item
item_of : (names : List Text) (d : ℕ) (kind : TokenKind) (t : Token) (ts : List Token) (k : List Symbol) → t.kind ≡ kind → NextOf names (and_then (item_entry d kind) k) ts → (rest : List Token) × ((x : Term) × Spells names true x (t ∷ ts) rest) × AreOf names k rest
item_of names d LetWord t ts k is (a, mut, (x, (name, at, here, spelled), (y, eq, (rest, (value, h), more)))) =
    (rest, (let_t t.start name value, (ts, a, x, y, refl, ((is, refl), refl), mut, spelled, eq, h)), more)
item_of names d kind t ts k is h = term_of names true d kind t ts k is h

-- what is expected behind an entry comes before the rest
entry_more : (o : Option (List Symbol)) (extra k : List Symbol) → and_then (and_then o extra) k ≡ and_then o (extra ++ k)
entry_more None extra k = refl
entry_more (Some symbols) extra k = ap (λ r. Some r) (append_assoc symbols extra k)

-- behind a semicolon: an item and what comes behind it, or the end of the block
semicolon_of : (names : List Text) (t : Token) (items : Items) (ts rest : List Token) → t.kind ≡ Semicolon → SpellsItems names items ts rest → (more : Items) × SpellsMore names more (t ∷ ts) rest
semicolon_of names t none [] rest is h = absurd h
semicolon_of names t none (u ∷ us) rest is h = (item (unit_t u.start) none, (u ∷ us, (is, refl), inr (u.start, refl, refl, (h, refl))))
semicolon_of names t (item first more) ts rest is h = (item first more, (ts, (is, refl), inl h))

-- a place, by its first token
place_of_first : (names : List Text) (stars : ℕ) (kind : TokenKind) (t : Token) (ts : List Token) (k : List Symbol) → t.kind ≡ kind → NextOf names (and_then (place_entry stars kind) k) ts → (rest : List Token) × ((w : Spot) × SpellsPlace names w (t ∷ ts) rest) × AreOf names k rest
place_of_first names stars (Name n) t ts k is more = (ts, (name_spot names t n, named names t n ts is), more)
place_of_first names stars Star t ts k is (rest, (w, place), more) = (rest, (star_spot t w, starred names t w ts rest is place), more)
place_of_first names stars kind t ts k is h = absurd h

-- an item and what comes behind it
items_of : (names : List Text) (d : ℕ) (kind : TokenKind) (t : Token) (ts : List Token) (k : List Symbol) → t.kind ≡ kind → NextOf names (and_then (and_then (item_entry d kind) (more_s d ∷ [])) k) ts → AreOf names (items_s d ∷ k) (t ∷ ts)
items_of names d kind t ts k is h =
    let (a, (x, spelled), (rest, (items, next), more)) = item_of names d kind t ts (more_s d ∷ k) is (subst (λ o. NextOf names o ts) (entry_more (item_entry d kind) (more_s d ∷ []) k) h) in
    (rest, (item x items, (a, spelled, next)), more)

-- arithmetic, behind its opening mark
inner_of : (names : List Text) (d : ℕ) (kind : TokenKind) (t : Token) (ts : List Token) (k : List Symbol) → t.kind ≡ kind → NextOf names (and_then (and_then (term_entry d kind) (op_s ∷ term_s d ∷ close_s ∷ [])) k) ts → AreOf names (inner_s d ∷ k) (t ∷ ts)
inner_of names d kind t ts k is h =
    let (a, (left, spelled), (b, (op, mark), (c, (right, other), (rest, close, more)))) =
    term_of names false d kind t ts (op_s ∷ term_s d ∷ close_s ∷ k) is (subst (λ o. NextOf names o ts) (entry_more (term_entry d kind) (op_s ∷ term_s d ∷ close_s ∷ []) k) h) in
    (rest, inr (left, op, right, a, b, c, spelled, mark, other, close), more)

-- THE TABLE is the grammar: a token and what is expected behind it are what is expected before it
symbol_of : (names : List Text) (s : Symbol) (kind : TokenKind) (t : Token) (ts : List Token) (k : List Symbol) → t.kind ≡ kind → NextOf names (and_then (entry s kind) k) ts → AreOf names (s ∷ k) (t ∷ ts)
symbol_of names (block_s d) OpenBrace t ts k is (rest, (items, h), more) = (rest, (block_t t.start items, tt, (ts, ((is, refl), refl), h)), more)
symbol_of names (block_s d) kind t ts k is h = absurd h
symbol_of names (items_s d) CloseBrace t ts k is more = (ts, (none, (is, refl)), more)
symbol_of names (items_s d) kind t ts k is h = items_of names d kind t ts k is h
symbol_of names (more_s d) CloseBrace t ts k is more = (ts, (none, (is, refl)), more)
symbol_of names (more_s d) Semicolon t ts k is (rest, (items, h), more) = (rest, semicolon_of names t items ts rest is h, more)
symbol_of names (more_s d) kind t ts k is h = absurd h
symbol_of names (term_s d) kind t ts k is h = term_of names false d kind t ts k is h
symbol_of names (rest_s d) Equals t ts k is (rest, (x, h), more) = (rest, inr (ts, x, (is, refl), h), more)
symbol_of names (rest_s d) kind t ts k is h = absurd h
symbol_of names (inner_s d) CloseParen t ts k is more = (ts, inl (is, refl), more)
symbol_of names (inner_s d) kind t ts k is h = inner_of names d kind t ts k is h
symbol_of names op_s Plus t ts k is more = (ts, (Add, (is, refl)), more)
symbol_of names op_s Minus t ts k is more = (ts, (Sub, (is, refl)), more)
symbol_of names op_s Star t ts k is more = (ts, (Mul, (is, refl)), more)
symbol_of names op_s kind t ts k is h = absurd h
symbol_of names borrow_s MutWord t ts k is (rest, (w, place), more) = (rest, inr (ts, w, (is, refl), place), more)
symbol_of names borrow_s kind t ts k is h = let (rest, place, more) = place_of_first names 8 kind t ts k is h in (rest, inl place, more)
symbol_of names (place_s stars) kind t ts k is h = place_of_first names stars kind t ts k is h
symbol_of names captures_s OpenParen t ts k is (rest, (cs, h), more) = (rest, (cs, (ts, (is, refl), h)), more)
symbol_of names captures_s kind t ts k is h = absurd h
symbol_of names list_s CloseParen t ts k is more = (ts, ([], (is, refl)), more)
symbol_of names list_s (Name n) t ts k is (rest, (cs, h), more) =
    (rest, (record { at = t.start; name = text_of names n } ∷ cs, (ts, refl, (n, refl, (is, refl)), h)), more)
symbol_of names list_s kind t ts k is h = absurd h
symbol_of names next_s CloseParen t ts k is more = (ts, ([], (is, refl)), more)
symbol_of names next_s Comma t ts k is (a, (name, at, here, spelled), (rest, (cs, h), more)) =
    (rest, (record { at = at; name = name } ∷ cs, (ts, a, (is, refl), here, spelled, h)), more)
symbol_of names next_s kind t ts k is h = absurd h
symbol_of names name_s (Name n) t ts k is more = (ts, (text_of names n, t.start, refl, (n, refl, (is, refl))), more)
symbol_of names name_s kind t ts k is h = absurd h
symbol_of names number_s (Number size) t ts k is more = (ts, (size, (is, refl)), more)
symbol_of names number_s kind t ts k is h = absurd h
symbol_of names mut_s MutWord t ts k is more = (ts, (is, refl), more)
symbol_of names mut_s kind t ts k is h = absurd h
symbol_of names as_s AsWord t ts k is more = (ts, (is, refl), more)
symbol_of names as_s kind t ts k is h = absurd h
symbol_of names equals_s Equals t ts k is more = (ts, (is, refl), more)
symbol_of names equals_s kind t ts k is h = absurd h
symbol_of names close_s CloseParen t ts k is more = (ts, (is, refl), more)
symbol_of names close_s kind t ts k is h = absurd h
symbol_of names end_s End t ts k is more = (ts, (is, refl), more)
symbol_of names end_s kind t ts k is h = absurd h

-- the same of all that is expected
first_of : (names : List Text) (k : List Symbol) (kind : TokenKind) (t : Token) (ts : List Token) → t.kind ≡ kind → NextOf names (next_of k kind) ts → AreOf names k (t ∷ ts)
first_of names [] kind t ts is h = absurd h
first_of names (rest_s d ∷ k) Equals t ts is (rest, (x, h), more) = (rest, inr (ts, x, (is, refl), h), more)
first_of names (rest_s d ∷ k) kind t ts is h = (t ∷ ts, inl refl, first_of names k kind t ts is h)
first_of names (s ∷ k) kind t ts is h = symbol_of names s kind t ts k is h

-- where the table goes on, tokens that are those of what is then expected make all that was expected
behind_front : (names : List Text) (front back : List Token) (k expected : List Symbol) → after front k ≡ Some expected → AreOf names expected back → AreOf names k (front ++ back)
behind_front names [] back k expected e h = subst (λ k. AreOf names k back) (sym (ap or_nothing e)) h
behind_front names (t ∷ ts) back k expected e h = by (next_of k t.kind) refl e (λ next e. behind_front names ts back next expected e h)
  where
    by : (o : Option (List Symbol)) → next_of k t.kind ≡ o → after_or (after ts) o ≡ Some expected → ((next : List Symbol) → after ts next ≡ Some expected → AreOf names next (ts ++ back)) → AreOf names k (t ∷ ts ++ back)
    by None same e again = cc
    by (Some next) same e again = first_of names k t.kind t (ts ++ back) refl (subst (λ o. NextOf names o (ts ++ back)) (sym same) (again next e))

-- what is expected of a whole source is a program
program_of : (names : List Text) (d : ℕ) (ts : List Token) → AreOf names (block_s d ∷ end_s ∷ []) ts → (t : Term) × IsProgram names ts t
program_of names d ts (a, (t, is, h), (rest, end, over)) = (t, (is, (a, h, subst (Has End a) over end)))

-- so tokens over which the table goes on begin a program of the grammar
pub begins_program : (names : List Text) (d : ℕ) (front : List Token) (expected : List Symbol) → after front (block_s d ∷ end_s ∷ []) ≡ Some expected → IsFront names front
begins_program names d front expected e =
    let (back, h) = whole names expected in
    let (t, program) = program_of names d (front ++ back) (behind_front names front back (block_s d ∷ end_s ∷ []) expected e h) in
    (back, t, program)

-- no tokens are those of nothing
none_of : (names : List Text) (k : List Symbol) → none_left k ≡ None → AreOf names k []
none_of names [] e = refl
none_of names (rest_s levels ∷ k) e = ([], inl refl, none_of names k e)
none_of names (s ∷ k) e = cc

-- and where nothing more is expected they are a program
pub is_program : (names : List Text) (d : ℕ) (ts : List Token) (expected : List Symbol) → after ts (block_s d ∷ end_s ∷ []) ≡ Some expected → none_left expected ≡ None → (t : Term) × IsProgram names ts t
is_program names d ts expected e left =
    program_of names d ts (subst (AreOf names (block_s d ∷ end_s ∷ [])) (append-nil ts) (behind_front names ts [] (block_s d ∷ end_s ∷ []) expected e (none_of names expected left)))
