-- The canonical text of a program (this project's rule): its tokens in order, one space between two, and a newline behind the last.
use Rattle.std.specs.Prelude.{◌≡◌, ℕ, zero, suc, ◌<◌, ◌≤◌, ◌^◌, ℤ, pos, negsuc, nat_abs, Bool, true, false, IsTrue, List, [], ◌∷◌, ◌++◌, length, None, codes, decimal, ⊤}
use Rattle.std.specs.List.{AllPass}
use Rattle.fr_base.specs.declared.place.Op.{Op}
use Rattle.fr_base.specs.declared.place.Op.TheVariants.{Add, Sub, Mul}
use Rattle.fr_terms.specs.Terms.{Text, Spot, Captured, Term, block_t, let_t, assign_t, read_t, borrow_t, borrow_mut_t, number_t, unit_t, box_t, print_t, arith_t, join_t, mutex_t, dup_t, lock_t, spawn_t, par_t, Items, none, item, IsBlock}
use Rattle.fr_terms.specs.Limits.{IsWithinLimits}
use Rattle.fr_syntax.specs.Words.{is_letter, is_word_byte, word_of}
use Rattle.fr_syntax.specs.Text.{head_is}

-- so many stars, then the name
abbrev pub path_words : ℕ → Text → List Text
path_words zero name = name ∷ []
path_words (suc stars) name = codes "*" ∷ path_words stars name

-- a place
abbrev pub place_words : Spot → List Text
place_words w = path_words w.stars w.name

-- captured names after the first, each behind a comma
abbrev pub other_words : List Captured → List Text
other_words [] = []
other_words (c ∷ cs) = codes "," ∷ c.name ∷ other_words cs

-- captured names
abbrev pub name_words : List Captured → List Text
name_words [] = []
name_words (c ∷ cs) = c.name ∷ other_words cs

-- a capture list
abbrev pub capture_words : List Captured → List Text
capture_words captures = codes "(" ∷ name_words captures ++ codes ")" ∷ []

-- a number in decimal digits; below zero, a minus and then its size
abbrev pub number_words : ℤ → List Text
number_words (pos n) = decimal n ∷ []
number_words (negsuc n) = codes "-" ∷ decimal (suc n) ∷ []

-- an operator
abbrev pub op_word : Op → Text
op_word Add = codes "+"
op_word Sub = codes "-"
op_word Mul = codes "*"

abbrev mutual
  -- the texts of a term's tokens, in order
  pub words : Term → List Text
  words (block_t at items) = codes "{" ∷ item_words items ++ codes "}" ∷ []
  words (let_t at name value) = codes "let" ∷ codes "mut" ∷ name ∷ codes "=" ∷ words value
  words (assign_t at to value) = place_words to ++ codes "=" ∷ words value
  words (read_t at from) = place_words from
  words (borrow_t at of) = codes "&" ∷ place_words of
  words (borrow_mut_t at of) = codes "&" ∷ codes "mut" ∷ place_words of
  words (number_t at value) = number_words value
  words (unit_t at) = codes "(" ∷ codes ")" ∷ []
  words (box_t at value) = codes "box" ∷ words value
  words (print_t at value) = codes "print" ∷ words value
  words (arith_t at op left right) = codes "(" ∷ words left ++ op_word op ∷ words right ++ codes ")" ∷ []
  words (join_t at task) = codes "join" ∷ words task
  words (mutex_t at value) = codes "mutex" ∷ words value
  words (dup_t at of) = codes "dup" ∷ place_words of
  words (lock_t at of name body) = codes "lock" ∷ place_words of ++ codes "as" ∷ name ∷ words body
  words (spawn_t at captures body) = codes "spawn" ∷ capture_words captures ++ words body
  words (par_t at captures body others other) = codes "par" ∷ capture_words captures ++ words body ++ capture_words others ++ words other

  -- the items of a block
  pub item_words : Items → List Text
  item_words none = []
  item_words (item first more) = words first ++ more_words more

  -- items after the first, each behind a semicolon
  pub more_words : Items → List Text
  more_words none = []
  more_words (item first more) = codes ";" ∷ words first ++ more_words more

-- texts with one space between two
abbrev pub joined : List Text → List ℕ
joined [] = []
joined (w ∷ []) = w
joined (w ∷ v ∷ ws) = w ++ codes " " ++ joined (v ∷ ws)

-- the canonical text of a program
abbrev pub canonical : Term → List ℕ
canonical t = joined (words t) ++ codes "\n"

-- a name of the language: 1 to 32 letters, digits and underscores, of which the first is no digit, and no word of the language
pub record IsName (text : Text) : Type 0 where
  pub first : head_is is_letter text ≡ true
  pub bytes : AllPass is_word_byte text
  pub short : length text ≤ 32
  pub free : word_of text ≡ None

-- captured names that are names of the language
abbrev pub AreNames : List Captured → Type 0
AreNames [] = ⊤
AreNames (c ∷ cs) = IsName c.name × AreNames cs

abbrev mutual
  -- each part of a term stands where the grammar lets it: a `let` as an item alone, and a block as the body of a thread or of a lock;
  -- each name is one of the language, and no number's size is above 2^63 - 1
  pub IsSpellable : Bool → Term → Type 0
  IsSpellable is_item (block_t at items) = AreSpellable items
  IsSpellable is_item (let_t at name value) = IsTrue is_item × IsName name × IsSpellable false value
  IsSpellable is_item (assign_t at to value) = IsName to.name × IsSpellable false value
  IsSpellable is_item (read_t at from) = IsName from.name
  IsSpellable is_item (borrow_t at of) = IsName of.name
  IsSpellable is_item (borrow_mut_t at of) = IsName of.name
  IsSpellable is_item (number_t at value) = nat_abs value < 2 ^ 63
  IsSpellable is_item (unit_t at) = ⊤
  IsSpellable is_item (box_t at value) = IsSpellable false value
  IsSpellable is_item (print_t at value) = IsSpellable false value
  IsSpellable is_item (arith_t at op left right) = IsSpellable false left × IsSpellable false right
  IsSpellable is_item (join_t at task) = IsSpellable false task
  IsSpellable is_item (mutex_t at value) = IsSpellable false value
  IsSpellable is_item (dup_t at of) = IsName of.name
  IsSpellable is_item (lock_t at of name body) = IsName of.name × IsName name × IsBlock body × IsSpellable false body
  IsSpellable is_item (spawn_t at captures body) = AreNames captures × IsBlock body × IsSpellable false body
  IsSpellable is_item (par_t at captures body others other) =
      AreNames captures × IsBlock body × IsSpellable false body × AreNames others × IsBlock other × IsSpellable false other

  pub AreSpellable : Items → Type 0
  AreSpellable none = ⊤
  AreSpellable (item first more) = IsSpellable true first × AreSpellable more

-- a program that has a text: a block of terms that stand where they may, within the limits
pub record IsPrintable (t : Term) : Type 0 where
  pub block : IsBlock t
  pub spellable : IsSpellable false t
  pub limits : IsWithinLimits t

-- a place, and a captured name, without where they stand
abbrev pub forget_spot : Spot → Spot
forget_spot w = record { at = 0; name = w.name; stars = w.stars }

-- the same of captured names
abbrev pub forget_captured : List Captured → List Captured
forget_captured [] = []
forget_captured (c ∷ cs) = record { at = 0; name = c.name } ∷ forget_captured cs

abbrev mutual
  -- a term without where its parts stand
  pub forget : Term → Term
  forget (block_t at items) = block_t 0 (forget_items items)
  forget (let_t at name value) = let_t 0 name (forget value)
  forget (assign_t at to value) = assign_t 0 (forget_spot to) (forget value)
  forget (read_t at from) = read_t 0 (forget_spot from)
  forget (borrow_t at of) = borrow_t 0 (forget_spot of)
  forget (borrow_mut_t at of) = borrow_mut_t 0 (forget_spot of)
  forget (number_t at value) = number_t 0 value
  forget (unit_t at) = unit_t 0
  forget (box_t at value) = box_t 0 (forget value)
  forget (print_t at value) = print_t 0 (forget value)
  forget (arith_t at op left right) = arith_t 0 op (forget left) (forget right)
  forget (join_t at task) = join_t 0 (forget task)
  forget (mutex_t at value) = mutex_t 0 (forget value)
  forget (dup_t at of) = dup_t 0 (forget_spot of)
  forget (lock_t at of name body) = lock_t 0 (forget_spot of) name (forget body)
  forget (spawn_t at captures body) = spawn_t 0 (forget_captured captures) (forget body)
  forget (par_t at captures body others other) = par_t 0 (forget_captured captures) (forget body) (forget_captured others) (forget other)

  pub forget_items : Items → Items
  forget_items none = none
  forget_items (item first more) = item (forget first) (forget_items more)

-- the same term, wherever its parts stand
abbrev pub IsSame : Term → Term → Type 0
IsSame t u = forget t ≡ forget u
