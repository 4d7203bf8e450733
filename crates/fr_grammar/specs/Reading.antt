-- Reading a list of tokens, one after the other (this project's rule): a term and the tokens behind it, or the first fault.
use Rattle.std.specs.Prelude.{◌≡◌, ℕ, zero, suc, ℤ, neg_ℤ, nat_le, Bool, true, false, List, [], ◌∷◌, length, drop, Result, Ok, Err, if◌then◌else◌, ⊤}
use Rattle.std.specs.List.{prefix_len}
use Rattle.fr_base.specs.declared.place.Op.{Op}
use Rattle.fr_base.specs.declared.place.Op.TheVariants.{Add, Sub, Mul}
use Rattle.fr_terms.specs.Terms.{Text, Spot, Captured, Term, block_t, let_t, assign_t, read_t, borrow_t, borrow_mut_t, number_t, unit_t, box_t, print_t, arith_t, join_t, mutex_t, dup_t, lock_t, spawn_t, par_t, Items, none, item}
use Rattle.fr_syntax.specs.Arena.{text_of}
use Rattle.fr_syntax.specs.declared.kind.TokenKind.{TokenKind}
use Rattle.fr_syntax.specs.declared.kind.TokenKind.TheVariants.{Name, Number, End, LetWord, MutWord, BoxWord, PrintWord, SpawnWord, JoinWord, ParWord, MutexWord, LockWord, AsWord, DupWord, OpenBrace, CloseBrace, OpenParen, CloseParen, Semicolon, Comma, Equals, Amp, Star, Plus, Minus}
use Rattle.fr_syntax.specs.declared.token.Token.{Token}
use Rattle.fr_grammar.specs.declared.fault.ParseError.{ParseError}
use Rattle.fr_grammar.specs.declared.fault.ParseError.TheVariants.{Syntax, TooDeep, NoMemory}
use Rattle.fr_grammar.specs.declared.marks.Terminal.{Terminal}
use Rattle.fr_grammar.specs.declared.marks.Terminal.TheVariants as terminal
use Rattle.fr_grammar.specs.declared.marks.Next.{Next}
use Rattle.fr_grammar.specs.declared.marks.Next.TheVariants.{Close, LastUnit, More}

-- a function answered what reading gives, or had no memory
abbrev pub Fails : {Y : Type 0} → ParseError → Result Y ParseError → Type 0
Fails NoMemory read = ⊤
Fails error read = read ≡ Err error

abbrev pub Gives : {X Y : Type 0} → (X → Y) → Result X ParseError → Result Y ParseError → Type 0
Gives view (Ok x) read = read ≡ Ok (view x)
Gives view (Err e) read = Fails e read

infixl 10 ◌>>=◌
abbrev pub ◌>>=◌ : {A B : Type 0} → Result A ParseError → (A → Result B ParseError) → Result B ParseError
(Ok x) >>= f = f x
(Err e) >>= f = Err e

-- what was read, and the tokens behind it
abbrev pub Read : Type 0 → Type 0
Read X = Result (X × List Token) ParseError

-- where the first token starts
abbrev pub place_of : List Token → ℕ
place_of [] = 0
place_of (t ∷ ts) = t.start

abbrev pub is_terminal : Terminal → TokenKind → Bool
is_terminal terminal.Mut MutWord = true
is_terminal terminal.Equals Equals = true
is_terminal terminal.Open OpenParen = true
is_terminal terminal.Close CloseParen = true
is_terminal terminal.As AsWord = true
is_terminal other kind = false

-- the tokens behind this terminal, which has to come first
unfoldable pub after_terminal : Terminal → List Token → Result (List Token) ParseError
after_terminal expected [] = Err (Syntax 0)
after_terminal expected (t ∷ ts) = if is_terminal expected t.kind then Ok ts else Err (Syntax t.start)

abbrev pub name_kind : TokenKind → ℕ → List Token → Read ℕ
name_kind (Name n) place rest = Ok (n, rest)
name_kind kind place rest = Err (Syntax place)

-- the number of a name
unfoldable pub name_at : List Token → Read ℕ
name_at [] = Err (Syntax 0)
name_at (t ∷ ts) = name_kind t.kind t.start ts

-- the name of a `let`, behind that word and up to the `=`
unfoldable pub bound_at : List Token → Read ℕ
bound_at ts = after_terminal terminal.Mut ts >>= λ a. name_at a >>= λ b. after_terminal terminal.Equals b.1 >>= λ c. Ok (b.0, c)

abbrev pub is_star : TokenKind → Bool
is_star Star = true
is_star kind = false

-- how many stars come first
abbrev pub stars_of : List Token → ℕ
stars_of ts = prefix_len (λ t. is_star t.kind) ts

-- a place: the ninth star is too deep
unfoldable pub spot_at : List Text → List Token → Read Spot
spot_at names ts =
    if nat_le (stars_of ts) 8 then (name_at (drop (stars_of ts) ts) >>= λ x. Ok (record { at = place_of ts; name = text_of names x.0; stars = stars_of ts }, x.1))
    else Err (TooDeep (place_of (drop 8 ts)))

abbrev pub turned_kind : TokenKind → ℕ → List Token → Read ℤ
turned_kind (Number size) place rest = Ok (neg_ℤ size, rest)
turned_kind kind place rest = Err (Syntax place)

-- the number behind a minus, turned round
unfoldable pub turned_at : List Token → Read ℤ
turned_at [] = Err (Syntax 0)
turned_at (t ∷ ts) = turned_kind t.kind t.start ts

abbrev pub borrow_kind : List Text → ℕ → TokenKind → List Token → List Token → Read Term
borrow_kind names place MutWord after all = spot_at names after >>= λ w. Ok (borrow_mut_t place w.0, w.1)
borrow_kind names place kind after all = spot_at names all >>= λ w. Ok (borrow_t place w.0, w.1)

-- a borrow, behind its mark
unfoldable pub borrow_at : List Text → ℕ → List Token → Read Term
borrow_at names place [] = Err (Syntax 0)
borrow_at names place (t ∷ ts) = borrow_kind names place t.kind ts (t ∷ ts)

abbrev pub leaf_kind : List Text → TokenKind → ℕ → List Token → Read Term
leaf_kind names (Number value) place after = Ok (number_t place value, after)
leaf_kind names Minus place after = turned_at after >>= λ x. Ok (number_t place x.0, x.1)
leaf_kind names DupWord place after = spot_at names after >>= λ w. Ok (dup_t place w.0, w.1)
leaf_kind names Amp place after = borrow_at names place after
leaf_kind names kind place after = Err (Syntax place)

-- a term without a term inside: a number, a borrow, or a mutex value more
unfoldable pub leaf_at : List Text → List Token → Read Term
leaf_at names [] = Err (Syntax 0)
leaf_at names (t ∷ ts) = leaf_kind names t.kind t.start ts

abbrev pub op_kind : TokenKind → ℕ → List Token → Read Op
op_kind Plus place rest = Ok (Add, rest)
op_kind Minus place rest = Ok (Sub, rest)
op_kind Star place rest = Ok (Mul, rest)
op_kind kind place rest = Err (Syntax place)

-- the mark between two operands
unfoldable pub op_at : List Token → Read Op
op_at [] = Err (Syntax 0)
op_at (t ∷ ts) = op_kind t.kind t.start ts

-- the number of the name of a `lock`, behind `as`
unfoldable pub held_at : List Token → Read ℕ
held_at ts = after_terminal terminal.As ts >>= name_at

abbrev pub comma_kind : TokenKind → ℕ → List Token → Read Bool
comma_kind Comma place rest = Ok (true, rest)
comma_kind CloseParen place rest = Ok (false, rest)
comma_kind kind place rest = Err (Syntax place)

-- whether another name comes behind a captured one
unfoldable pub comma_at : List Token → Read Bool
comma_at [] = Err (Syntax 0)
comma_at (t ∷ ts) = comma_kind t.kind t.start ts

-- a captured name
unfoldable pub capture_at : List Text → List Token → Read Captured
capture_at names ts = name_at ts >>= λ x. Ok (record { at = place_of ts; name = text_of names x.0 }, x.1)

-- a captured name, and whether another comes
unfoldable pub capture_next : List Text → List Token → Result (Captured × Bool × List Token) ParseError
capture_next names ts = capture_at names ts >>= λ c. comma_at c.1 >>= λ m. Ok (c.0, m.0, m.1)

abbrev pub after_capture : (List Token → Read (List Captured)) → Captured → Bool → List Token → Read (List Captured)
after_capture again c true rest = again rest >>= λ x. Ok (c ∷ x.0, x.1)
after_capture again c false rest = Ok (c ∷ [], rest)

-- the names of a capture list that has some, of which there are at most so many
unfoldable pub captured_at : List Text → ℕ → List Token → Read (List Captured)
captured_at names zero ts = Err (Syntax (place_of ts))
captured_at names (suc n) ts = capture_next names ts >>= λ x. after_capture (captured_at names n) x.0 x.1 x.2

abbrev pub list_kind : List Text → TokenKind → List Token → List Token → Read (List Captured)
list_kind names CloseParen after all = Ok ([], after)
list_kind names kind after all = captured_at names (suc (length all)) all

-- a capture list, behind its opening mark
unfoldable pub list_at : List Text → List Token → Read (List Captured)
list_at names [] = Err (Syntax 0)
list_at names (t ∷ ts) = list_kind names t.kind ts (t ∷ ts)

-- a capture list with its marks
unfoldable pub captures_at : List Text → List Token → Read (List Captured)
captures_at names ts = after_terminal terminal.Open ts >>= list_at names

-- a term begins with such a token
abbrev pub begins_term : TokenKind → Bool
begins_term OpenBrace = true
begins_term (Name n) = true
begins_term Star = true
begins_term BoxWord = true
begins_term PrintWord = true
begins_term (Number value) = true
begins_term Minus = true
begins_term OpenParen = true
begins_term Amp = true
begins_term JoinWord = true
begins_term MutexWord = true
begins_term DupWord = true
begins_term LockWord = true
begins_term SpawnWord = true
begins_term ParWord = true
begins_term kind = false

-- an item begins with such a token, or else a term
abbrev pub begins_kind : Bool → TokenKind → Bool
begins_kind true LetWord = true
begins_kind is_item kind = begins_term kind

-- the fault where no level is left: too deep where an item or a term begins
unfoldable pub deep_at : Bool → List Token → ParseError
deep_at is_item [] = Syntax 0
deep_at is_item (t ∷ ts) = if begins_kind is_item t.kind then TooDeep t.start else Syntax t.start

-- behind a semicolon
abbrev pub semicolon_kind : TokenKind → ℕ → List Token → List Token → Read Next
semicolon_kind CloseBrace place after all = Ok (LastUnit place, after)
semicolon_kind kind place after all = Ok (More, all)

abbrev pub semicolon_at : List Token → Read Next
semicolon_at [] = Ok (More, [])
semicolon_at (t ∷ ts) = semicolon_kind t.kind t.start ts (t ∷ ts)

abbrev pub next_kind : TokenKind → ℕ → List Token → Read Next
next_kind CloseBrace place rest = Ok (Close, rest)
next_kind Semicolon place rest = semicolon_at rest
next_kind kind place rest = Err (Syntax place)

-- what stands behind an item
unfoldable pub next_at : List Token → Read Next
next_at [] = Err (Syntax 0)
next_at (t ∷ ts) = next_kind t.kind t.start ts

-- how many tokens that is
abbrev pub used : Next → ℕ
used Close = 1
used (LastUnit place) = 2
used More = 1

-- an item, and what stands behind it
unfoldable pub item_next : (List Token → Read Term) → List Token → Result (Term × Next × List Token) ParseError
item_next read_item ts = read_item ts >>= λ x. next_at x.1 >>= λ y. Ok (x.0, y.0, y.1)

abbrev pub after_item : (List Token → Read Items) → Term → Next → List Token → Read Items
after_item again first Close rest = Ok (item first none, rest)
after_item again first (LastUnit place) rest = Ok (item first (item (unit_t place) none), rest)
after_item again first More rest = again rest >>= λ x. Ok (item first x.0, x.1)

-- the items of a block that has some, of which there are at most so many
unfoldable pub items_at : (List Token → Read Term) → ℕ → List Token → Read Items
items_at read_item zero ts = Err (Syntax (place_of ts))
items_at read_item (suc n) ts = item_next read_item ts >>= λ x. after_item (items_at read_item n) x.0 x.1 x.2

abbrev pub block_kind : (List Token → Read Term) → ℕ → TokenKind → List Token → List Token → Read Term
block_kind read_item place CloseBrace after all = Ok (block_t place none, after)
block_kind read_item place kind after all = items_at read_item (suc (length all)) all >>= λ x. Ok (block_t place x.0, x.1)

-- a block, behind its opening mark: each item takes a token
unfoldable pub block_at : (List Token → Read Term) → ℕ → List Token → Read Term
block_at read_item place [] = items_at read_item 1 [] >>= λ x. Ok (block_t place x.0, x.1)
block_at read_item place (t ∷ ts) = block_kind read_item place t.kind ts (t ∷ ts)

abbrev pub rest_kind : (List Token → Read Term) → Spot → TokenKind → List Token → List Token → Read Term
rest_kind read_term w Equals after all = read_term after >>= λ x. Ok (assign_t w.at w x.0, x.1)
rest_kind read_term w kind after all = Ok (read_t w.at w, all)

-- behind a place: an assignment, or else a read
unfoldable pub rest_at : (List Token → Read Term) → Spot → List Token → Read Term
rest_at read_term w [] = Ok (read_t w.at w, [])
rest_at read_term w (t ∷ ts) = rest_kind read_term w t.kind ts (t ∷ ts)

-- an assignment or a read, from its place on
unfoldable pub placed_at : List Text → (List Token → Read Term) → List Token → Read Term
placed_at names read_term ts = spot_at names ts >>= λ w. rest_at read_term w.0 w.1

-- a sum, difference or product, behind its opening mark
unfoldable pub arith_at : (List Token → Read Term) → ℕ → List Token → Read Term
arith_at read_term place ts =
    read_term ts >>= λ a. op_at a.1 >>= λ op. read_term op.1 >>= λ b. after_terminal terminal.Close b.1 >>= λ rest. Ok (arith_t place op.0 a.0 b.0, rest)

abbrev pub inner_kind : (List Token → Read Term) → ℕ → TokenKind → List Token → List Token → Read Term
inner_kind read_term place CloseParen after all = Ok (unit_t place, after)
inner_kind read_term place kind after all = arith_at read_term place all

-- behind `(`: the constant unit, or else arithmetic
unfoldable pub inner_at : (List Token → Read Term) → ℕ → List Token → Read Term
inner_at read_term place [] = arith_at read_term place []
inner_at read_term place (t ∷ ts) = inner_kind read_term place t.kind ts (t ∷ ts)

abbrev pub body_kind : (List Token → Read Term) → TokenKind → ℕ → List Token → Read Term
body_kind read_term OpenBrace place all = read_term all
body_kind read_term kind place all = Err (Syntax place)

-- a term that is a block
unfoldable pub body_at : (List Token → Read Term) → List Token → Read Term
body_at read_term [] = Err (Syntax 0)
body_at read_term (t ∷ ts) = body_kind read_term t.kind t.start (t ∷ ts)

-- what a new thread captures, and its body
unfoldable pub branch_at : List Text → (List Token → Read Term) → List Token → Result (List Captured × Term × List Token) ParseError
branch_at names read_term ts = captures_at names ts >>= λ c. body_at read_term c.1 >>= λ b. Ok (c.0, b.0, b.1)

-- one new thread, behind `spawn`
unfoldable pub spawn_at : List Text → (List Token → Read Term) → ℕ → List Token → Read Term
spawn_at names read_term place ts = branch_at names read_term ts >>= λ x. Ok (spawn_t place x.0 x.1, x.2)

-- two new threads, behind `par`
unfoldable pub par_at : List Text → (List Token → Read Term) → ℕ → List Token → Read Term
par_at names read_term place ts =
    branch_at names read_term ts >>= λ x. branch_at names read_term x.2 >>= λ y. Ok (par_t place x.0 x.1 y.0 y.1, y.2)

-- the content of a mutex under a name, behind `lock`
unfoldable pub lock_at : List Text → (List Token → Read Term) → ℕ → List Token → Read Term
lock_at names read_term place ts =
    spot_at names ts >>= λ w. held_at w.1 >>= λ x. body_at read_term x.1 >>= λ b. Ok (lock_t place w.0 (text_of names x.0) b.0, b.1)

-- a term by the kind of its first token, where read_item and read_term read the parts
abbrev pub term_kind : List Text → (List Token → Read Term) → (List Token → Read Term) → TokenKind → ℕ → List Token → List Token → Read Term
term_kind names read_item read_term OpenBrace place after all = block_at read_item place after
term_kind names read_item read_term BoxWord place after all = read_term after >>= λ x. Ok (box_t place x.0, x.1)
term_kind names read_item read_term PrintWord place after all = read_term after >>= λ x. Ok (print_t place x.0, x.1)
term_kind names read_item read_term JoinWord place after all = read_term after >>= λ x. Ok (join_t place x.0, x.1)
term_kind names read_item read_term MutexWord place after all = read_term after >>= λ x. Ok (mutex_t place x.0, x.1)
term_kind names read_item read_term (Name n) place after all = placed_at names read_term all
term_kind names read_item read_term Star place after all = placed_at names read_term all
term_kind names read_item read_term OpenParen place after all = inner_at read_term place after
term_kind names read_item read_term SpawnWord place after all = spawn_at names read_term place after
term_kind names read_item read_term ParWord place after all = par_at names read_term place after
term_kind names read_item read_term LockWord place after all = lock_at names read_term place after
term_kind names read_item read_term kind place after all = leaf_at names all

-- an item or a term by the kind of its first token
abbrev pub any_kind : Bool → List Text → (List Token → Read Term) → (List Token → Read Term) → TokenKind → ℕ → List Token → List Token → Read Term
any_kind true names read_item read_term LetWord place after all = bound_at after >>= λ b. read_term b.1 >>= λ x. Ok (let_t place (text_of names b.0) x.0, x.1)
any_kind is_item names read_item read_term kind place after all = term_kind names read_item read_term kind place after all

-- an item or a term with so many levels left
unfoldable pub any_at : List Text → ℕ → Bool → List Token → Read Term
any_at names zero is_item ts = Err (deep_at is_item ts)
any_at names (suc d) is_item [] = Err (Syntax 0)
any_at names (suc d) is_item (t ∷ ts) = any_kind is_item names (any_at names d true) (any_at names d false) t.kind t.start ts (t ∷ ts)

abbrev pub end_kind : TokenKind → ℕ → List Token → Term → Result Term ParseError
end_kind End place [] t = Ok t
end_kind End place (u ∷ us) t = Err (Syntax u.start)
end_kind kind place us t = Err (Syntax place)

-- this term, where behind it comes the end and nothing more
unfoldable pub ended_at : List Token → Term → Result Term ParseError
ended_at [] t = Err (Syntax 0)
ended_at (u ∷ us) t = end_kind u.kind u.start us t

-- the term of these tokens, or their first fault
unfoldable pub program_at : List Text → List Token → Result Term ParseError
program_at names ts = body_at (any_at names 64 false) ts >>= λ x. ended_at x.1 x.0
