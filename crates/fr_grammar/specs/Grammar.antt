-- Which tokens spell which term: the grammar of the language, a row of it each line (Featherweight Rust with this project's threads,
-- mutexes, arithmetic and print). A term stands at the start of its first token. Names are texts: a token's number stands for one.
use Rattle.std.specs.Prelude.{◌≡◌, ℕ, zero, suc, ℤ, neg_ℤ, Bool, true, false, IsTrue, List, [], ◌∷◌, ◌⊎◌}
use Rattle.fr_base.specs.declared.place.Op.{Op}
use Rattle.fr_base.specs.declared.place.Op.TheVariants.{Add, Sub, Mul}
use Rattle.fr_terms.specs.Terms.{Text, Spot, Captured, Term, block_t, let_t, assign_t, read_t, borrow_t, borrow_mut_t, number_t, unit_t, box_t, print_t, arith_t, join_t, mutex_t, dup_t, lock_t, spawn_t, par_t, Items, none, item, IsBlock}
use Rattle.fr_syntax.specs.Arena.{text_of}
use Rattle.fr_syntax.specs.declared.kind.TokenKind.{TokenKind}
use Rattle.fr_syntax.specs.declared.kind.TokenKind.TheVariants.{Name, Number, End, LetWord, MutWord, BoxWord, PrintWord, SpawnWord, JoinWord, ParWord, MutexWord, LockWord, AsWord, DupWord, OpenBrace, CloseBrace, OpenParen, CloseParen, Semicolon, Comma, Equals, Amp, Star, Plus, Minus}
use Rattle.fr_syntax.specs.declared.token.Token.{Token}

-- the first token is of this kind, and the rest follows it
abbrev pub Has : TokenKind → List Token → List Token → Type 0
Has kind [] rest = ⊥
Has kind (t ∷ ts) rest = (t.kind ≡ kind) × (ts ≡ rest)

-- the first token starts at this place
abbrev pub IsAt : ℕ → List Token → Type 0
IsAt place [] = ⊥
IsAt place (t ∷ ts) = t.start ≡ place

-- the first token is of this kind and starts at this place
abbrev pub Begins : TokenKind → ℕ → List Token → List Token → Type 0
Begins kind place ts rest = Has kind ts rest × IsAt place ts

-- the first token is this name
abbrev pub SpellsName : List Text → Text → List Token → List Token → Type 0
SpellsName names name ts rest = (n : ℕ) × (text_of names n ≡ name) × Has (Name n) ts rest

-- so many stars, then the name
abbrev pub SpellsPath : List Text → ℕ → Text → List Token → List Token → Type 0
SpellsPath names zero name ts rest = SpellsName names name ts rest
SpellsPath names (suc stars) name ts rest = (a : List Token) × Has Star ts a × SpellsPath names stars name a rest

-- a place
abbrev pub SpellsPlace : List Text → Spot → List Token → List Token → Type 0
SpellsPlace names w ts rest = IsAt w.at ts × SpellsPath names w.stars w.name ts rest

-- the names of a capture list after its first: a comma before each, a closing mark after the last
abbrev pub SpellsOthers : List Text → List Captured → List Token → List Token → Type 0
SpellsOthers names [] ts rest = Has CloseParen ts rest
SpellsOthers names (c ∷ cs) ts rest = (a : List Token) × (b : List Token) × Has Comma ts a × IsAt c.at a × SpellsName names c.name a b × SpellsOthers names cs b rest

-- the names of a capture list
abbrev pub SpellsNames : List Text → List Captured → List Token → List Token → Type 0
SpellsNames names [] ts rest = Has CloseParen ts rest
SpellsNames names (c ∷ cs) ts rest = (a : List Token) × IsAt c.at ts × SpellsName names c.name ts a × SpellsOthers names cs a rest

-- a capture list with its marks
abbrev pub SpellsCaptures : List Text → List Captured → List Token → List Token → Type 0
SpellsCaptures names captures ts rest = (a : List Token) × Has OpenParen ts a × SpellsNames names captures a rest

-- a number, or a mark and then the number that it turns round
abbrev pub SpellsNumber : ℕ → ℤ → List Token → List Token → Type 0
SpellsNumber at value ts rest =
    Begins (Number value) at ts rest ⊎ ((a : List Token) × (size : ℤ) × Begins Minus at ts a × Has (Number size) a rest × (value ≡ neg_ℤ size))

abbrev pub mark_of_op : Op → TokenKind
mark_of_op Add = Plus
mark_of_op Sub = Minus
mark_of_op Mul = Star

abbrev mutual
  -- ts are the tokens of this term and then the rest; a `let` is an item of a block, and no part of a term
  pub Spells : List Text → Bool → Term → List Token → List Token → Type 0
  Spells names is_item (let_t at name value) ts rest =
      (a : List Token) × (b : List Token) × (c : List Token) × (d : List Token) × IsTrue is_item × Begins LetWord at ts a × Has MutWord a b × SpellsName names name b c × Has Equals c d × Spells names false value d rest
  Spells names is_item (block_t at items) ts rest = (a : List Token) × Begins OpenBrace at ts a × SpellsItems names items a rest
  Spells names is_item (read_t at from) ts rest = (at ≡ from.at) × SpellsPlace names from ts rest
  Spells names is_item (assign_t at to value) ts rest =
      (a : List Token) × (b : List Token) × (at ≡ to.at) × SpellsPlace names to ts a × Has Equals a b × Spells names false value b rest
  Spells names is_item (box_t at value) ts rest = (a : List Token) × Begins BoxWord at ts a × Spells names false value a rest
  Spells names is_item (print_t at value) ts rest = (a : List Token) × Begins PrintWord at ts a × Spells names false value a rest
  Spells names is_item (join_t at task) ts rest = (a : List Token) × Begins JoinWord at ts a × Spells names false task a rest
  Spells names is_item (mutex_t at value) ts rest = (a : List Token) × Begins MutexWord at ts a × Spells names false value a rest
  Spells names is_item (dup_t at of) ts rest = (a : List Token) × Begins DupWord at ts a × SpellsPlace names of a rest
  Spells names is_item (borrow_t at of) ts rest = (a : List Token) × Begins Amp at ts a × SpellsPlace names of a rest
  Spells names is_item (borrow_mut_t at of) ts rest = (a : List Token) × (b : List Token) × Begins Amp at ts a × Has MutWord a b × SpellsPlace names of b rest
  Spells names is_item (number_t at value) ts rest = SpellsNumber at value ts rest
  Spells names is_item (unit_t at) ts rest = (a : List Token) × Begins OpenParen at ts a × Has CloseParen a rest
  Spells names is_item (arith_t at op left right) ts rest =
      (a : List Token) × (b : List Token) × (c : List Token) × (d : List Token) × Begins OpenParen at ts a × Spells names false left a b × Has (mark_of_op op) b c × Spells names false right c d × Has CloseParen d rest
  Spells names is_item (spawn_t at captures body) ts rest =
      (a : List Token) × (b : List Token) × Begins SpawnWord at ts a × SpellsCaptures names captures a b × IsBlock body × Spells names false body b rest
  Spells names is_item (par_t at captures body others other) ts rest =
      (a : List Token) × (b : List Token) × (c : List Token) × (d : List Token) × Begins ParWord at ts a × SpellsCaptures names captures a b × IsBlock body × Spells names false body b c × SpellsCaptures names others c d × IsBlock other × Spells names false other d rest
  Spells names is_item (lock_t at of name body) ts rest =
      (a : List Token) × (b : List Token) × (c : List Token) × (d : List Token) × Begins LockWord at ts a × SpellsPlace names of a b × Has AsWord b c × SpellsName names name c d × IsBlock body × Spells names false body d rest

  -- what stands behind the opening mark of a block with these items
  pub SpellsItems : List Text → Items → List Token → List Token → Type 0
  SpellsItems names none ts rest = Has CloseBrace ts rest
  SpellsItems names (item first more) ts rest = (a : List Token) × Spells names true first ts a × SpellsMore names more a rest

  -- what stands behind an item, where these come after it; a semicolon at the end of a block adds the constant unit, at the closing mark
  pub SpellsMore : List Text → Items → List Token → List Token → Type 0
  SpellsMore names none ts rest = Has CloseBrace ts rest
  SpellsMore names (item first more) ts rest =
      (a : List Token) × Has Semicolon ts a
      × (((b : List Token) × Spells names true first a b × SpellsMore names more b rest) ⊎ ((place : ℕ) × (first ≡ unit_t place) × (more ≡ none) × Begins CloseBrace place a rest))

-- the tokens are those of a block and then the end
abbrev pub IsProgram : List Text → List Token → Term → Type 0
IsProgram names ts t = IsBlock t × ((a : List Token) × Spells names false t ts a × Has End a [])
