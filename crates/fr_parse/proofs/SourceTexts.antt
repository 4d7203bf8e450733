-- The names of a source are names of the language, and its numbers have a size: so its term has a canonical text.
use Rattle.std.proofs.Common.{◌≡◌, ℕ, zero, suc, ◌+◌, ◌<◌, ◌^◌, ℤ, pos, negsuc, neg_ℤ, Bool, true, false, cond, ◌||◌, nat_le, nat_lt, List, [], ◌∷◌, ◌++◌, length, take, inl, inr, refl, sym, ap, ◌∙◌, subst, arith}
use Rattle.std.specs.Prelude.{Option, Some, None, Result, Ok, Err, nat_abs, ⊤}
use Rattle.std.specs.List.{prefix_len, position_or_len, AllPass}
use Rattle.std.specs.Str.{bytes_eq}
use Rattle.std.proofs.lemmas.Bool.Decides.{nat_tests}
use Rattle.std.proofs.lemmas.List.{get_or-take, length-take}
use Rattle.std.proofs.lemmas.List.Sums.{prefix_len_passes}
use Rattle.fr_terms.specs.Terms.{Text, Captured, Term, block_t, let_t, assign_t, read_t, borrow_t, borrow_mut_t, number_t, unit_t, box_t, print_t, arith_t, join_t, mutex_t, dup_t, lock_t, spawn_t, par_t, Items, none, item}
use Rattle.fr_syntax.specs.Arena.{text_of}
use Rattle.fr_syntax.specs.Text.{text_len, head_is}
use Rattle.fr_base.specs.Numbers.{number_value}
use Rattle.fr_syntax.specs.Tokens.{kind_or, kind_at, free_at, name_at, number_at, names_after, unblanked, first_text, after_text, end_at, Leads, AreTokens}
use Rattle.fr_syntax.specs.Words.{fixed_of, word_of, mark_of, is_letter, is_digit, is_word_byte}
use Rattle.fr_syntax.specs.declared.kind.TokenKind.{TokenKind}
use Rattle.fr_syntax.specs.declared.kind.TokenKind.TheVariants.{Name, Number, LetWord, MutWord, BoxWord, PrintWord, SpawnWord, JoinWord, ParWord, MutexWord, LockWord, AsWord, DupWord, OpenBrace, CloseBrace, OpenParen, CloseParen, Semicolon, Comma, Equals, Amp, Star, Minus}
use Rattle.fr_syntax.specs.declared.token.Token.{Token}
use Rattle.fr_syntax.specs.declared.token.TokenError.{TokenError}
use Rattle.fr_syntax.specs.declared.token.TokenError.TheVariants.{BadByte, NameTooLong, NumberTooLarge}
use Rattle.fr_parse.specs.Canonical.{IsName, AreNames, IsSpellable, AreSpellable, IsPrintable}
use Rattle.fr_grammar.specs.Grammar.{Has, SpellsName, SpellsPath, SpellsOthers, SpellsCaptures, SpellsNumber, mark_of_op, Spells, SpellsItems, SpellsMore}
use Rattle.fr_grammar.specs.Source.{IsSource}
use Rattle.fr_parse.proofs.PrintTexts.{Extends, first, name_there}
use Rattle.fr_parse.proofs.PrintTokens.{extends_refl, extends_trans, after_extends}

-- among these names: a name of the language, or a number of a size that can be written, or another token
abbrev pub IsGood : List Text → TokenKind → Type 0
IsGood names (Name n) = IsName (text_of names n)
IsGood names (Number value) = nat_abs value < 2 ^ 63
IsGood names kind = ⊤

-- good tokens
abbrev pub AreGood : List Text → List Token → Type 0
AreGood names [] = ⊤
AreGood names (t ∷ ts) = IsGood names t.kind × AreGood names ts

-- A TEXT

-- a word or mark, if it is one
abbrev MaybeGood : List Text → Option TokenKind → Type 0
MaybeGood names (Some k) = IsGood names k
MaybeGood names None = ⊤

-- a token, if it is one
abbrev OkGood : List Text → Result TokenKind TokenError → Type 0
OkGood names (Ok k) = IsGood names k
OkGood names (Err e) = ⊤

-- as a record, so that the choices are found from the goal
record Good (names : List Text) (o : Option TokenKind) : Type 0 where
  holds : MaybeGood names o

-- a choice between two
either : (names : List Text) (b : Bool) (x y : Option TokenKind) → MaybeGood names x → Good names y → Good names (cond b x y)
either names true x y h k = record { holds = h }
either names false x y h k = k

-- the same without the record
both : (names : List Text) (b : Bool) (x y : Option TokenKind) → MaybeGood names x → MaybeGood names y → MaybeGood names (cond b x y)
both names true x y h k = h
both names false x y h k = k

-- a choice between two, of which each knows why it is taken
either_ok : (names : List Text) (b : Bool) (x y : Result TokenKind TokenError) → (b ≡ true → OkGood names x) → (b ≡ false → OkGood names y) → OkGood names (cond b x y)
either_ok names true x y h k = h refl
either_ok names false x y h k = k refl

-- a mark and a word are neither name nor number
mark_good : (names : List Text) (b : ℕ) → Good names (mark_of b)
mark_good names b = search either depth 40

-- nor is a word
word_good : (names : List Text) (text : Text) → Good names (word_of text)
word_good names text = search either depth 40

-- nor is what is either
fixed_good : (names : List Text) (text : Text) → MaybeGood names (fixed_of text)
fixed_good names [] = (word_good names []).holds
fixed_good names (b ∷ []) = both names (is_letter b) (word_of (b ∷ [])) (mark_of b) (word_good names (b ∷ [])).holds (mark_good names b).holds
fixed_good names (b ∷ c ∷ text) = (word_good names (b ∷ c ∷ text)).holds

-- a word or mark, or else what is free
or_good : (names : List Text) (o : Option TokenKind) (r : Result TokenKind TokenError) → MaybeGood names o → (o ≡ None → OkGood names r) → OkGood names (kind_or o r)
or_good names (Some k) r h g = h
or_good names None r h g = g refl

-- a text that begins with a letter and is no word or mark is no word
free_word : (w : Text) → head_is is_letter w ≡ true → fixed_of w ≡ None → word_of w ≡ None
free_word [] l e = e
free_word (c ∷ []) l e = sym (first (is_letter c) (word_of (c ∷ [])) (mark_of c) (word_of (c ∷ [])) l refl) ∙ e
free_word (c ∷ d ∷ w) l e = e

-- a name, where all its bytes may stand in one
name_good : (names more : List Text) (place : ℕ) (w : Text) → head_is is_letter w ≡ true → AllPass is_word_byte w → fixed_of w ≡ None → Extends (names_after names w) more → OkGood more (name_at names place w)
name_good names more place w l all free ext =
    either_ok more (nat_le (length w) 32) (Ok (Name (position_or_len (bytes_eq w) names))) (Err (NameTooLong place))
    (λ short. let h : IsName w = record { first = l; bytes = all; short = grind (arith, nat_tests); free = free_word w l free } in subst IsName (sym (name_there names more w h ext)) h)
    (λ long. tt)

-- a number
number_good : (more : List Text) (place : ℕ) (w : Text) → OkGood more (number_at place w)
number_good more place w =
    either_ok more (nat_lt (number_value w) (2 ^ 63)) (Ok (Number (pos (number_value w)))) (Err (NumberTooLarge place)) (λ small. grind (arith, nat_tests)) (λ large. tt)

-- what a text is, where each byte of a text that begins with a letter may stand in a name
kind_good : (names more : List Text) (place : ℕ) (w : Text) → (head_is is_letter w ≡ true → AllPass is_word_byte w) → Extends (names_after names w) more → OkGood more (kind_at names place w)
kind_good names more place w all ext =
    or_good more (fixed_of w) (free_at names place w) (fixed_good more w)
    (λ free. either_ok more (head_is is_letter w) (name_at names place w) (cond (head_is is_digit w) (number_at place w) (Err (BadByte place)))
    (λ l. name_good names more place w l (all l) free ext)
    (λ other. either_ok more (head_is is_digit w) (number_at place w) (Err (BadByte place)) (λ d. number_good more place w) (λ bad. tt)))

-- THE FIRST TEXT

-- how long it is
text_takes : (b : ℕ) (bs : List ℕ) → (m : ℕ) × (text_len (b ∷ bs) ≡ suc m) × (is_letter b ≡ true → m ≡ prefix_len is_word_byte bs)
text_takes b bs = by (is_letter b) (is_digit b)
  where
    by : (l d : Bool) → (m : ℕ) × (cond l (prefix_len is_word_byte bs + 1) (cond d (prefix_len is_digit bs + 1) 1) ≡ suc m) × (l ≡ true → m ≡ prefix_len is_word_byte bs)
    by true d = (prefix_len is_word_byte bs, omega arith, λ e. refl)
    by false true = (prefix_len is_digit bs, omega arith, λ e. absurd cc)
    by false false = (0, refl, λ e. absurd cc)

-- a letter and the bytes behind it that may stand in a name
passes : (b : ℕ) (bs : List ℕ) → is_letter b ≡ true → AllPass is_word_byte (b ∷ take (prefix_len is_word_byte bs) bs)
passes b bs l zero d lt = ap (λ x. x || is_digit b) l
passes b bs l (suc i) d lt =
    let k = prefix_len is_word_byte bs in
    let below : i < k = omega (arith, lt, length-take k bs) in
    ap is_word_byte (get_or-take k bs i d below) ∙ prefix_len_passes is_word_byte bs i d below

-- the bytes of a first text that begins with a letter
text_passes : (bytes : List ℕ) → head_is is_letter (take (text_len bytes) bytes) ≡ true → AllPass is_word_byte (take (text_len bytes) bytes)
text_passes [] l = absurd cc
text_passes (b ∷ bs) l =
    let m = text_takes b bs in
    let e : take (text_len (b ∷ bs)) (b ∷ bs) ≡ b ∷ take m.0 bs = ap (λ n. take n (b ∷ bs)) m.1 in
    let letter : is_letter b ≡ true = sym (ap (head_is is_letter) e) ∙ l in
    subst (AllPass is_word_byte) (sym (e ∙ ap (λ n. b ∷ take n bs) (m.2 letter))) (passes b bs letter)

-- TOKENS

-- the tokens of some bytes, and the names that come with them
leads_good : (names : List Text) (place : ℕ) (bytes : List ℕ) (ts : List Token) (more : List Text) (end : ℕ) (rest : List ℕ) → Leads names place bytes ts more end rest → AreGood more ts × Extends names more
leads_good names place bytes [] more end rest h = (tt, subst (Extends names) h.0 (extends_refl names))
leads_good names place bytes (t ∷ ts) more end rest h =
    let w = first_text bytes in
    let next = leads_good (names_after names w) t.end (after_text bytes) ts more end rest h.1 in (
      (subst (OkGood more) h.0.kind (kind_good names more t.start w (text_passes (unblanked bytes)) next.1), next.0),
      extends_trans names (names_after names w) more (after_extends names w) next.1,
    )

-- the end behind good tokens
good_pushed : (names : List Text) (ts : List Token) (place : ℕ) → AreGood names ts → AreGood names (ts ++ end_at place ∷ [])
good_pushed names [] place h = (tt, tt)
good_pushed names (t ∷ ts) place h = (h.0, good_pushed names ts place h.1)

-- the tokens of a source
pub tokens_good : (bytes : List ℕ) (ts : List Token) (names : List Text) → AreTokens bytes ts names → AreGood names ts
tokens_good bytes ts names a =
    subst (AreGood names) (sym a.all) (good_pushed names a.front (length bytes) (leads_good [] 0 bytes a.front names a.place a.rest a.leads).0)

-- TERMS

-- one token, and what follows it
has_good : (names : List Text) (k : TokenKind) (ts rest : List Token) → Has k ts rest → AreGood names ts → IsGood names k × AreGood names rest
has_good names k [] rest h g = absurd h
has_good names k (t ∷ ts) rest h g = (subst (IsGood names) h.0 g.0, subst (AreGood names) h.1 g.1)

-- a name
named_good : (names : List Text) (name : Text) (ts rest : List Token) → SpellsName names name ts rest → AreGood names ts → IsName name × AreGood names rest
named_good names name ts rest (n, is, h) g = let s = has_good names (Name n) ts rest h g in (subst IsName is s.0, s.1)

-- a name under stars
path_good : (names : List Text) (n : ℕ) (name : Text) (ts rest : List Token) → SpellsPath names n name ts rest → AreGood names ts → IsName name × AreGood names rest
path_good names zero name ts rest h g = named_good names name ts rest h g
path_good names (suc n) name ts rest (a, star, h) g = path_good names n name a rest h (has_good names Star ts a star g).1

-- captured names
others_good : (names : List Text) (cs : List Captured) (ts rest : List Token) → SpellsOthers names cs ts rest → AreGood names ts → AreNames cs × AreGood names rest
others_good names [] ts rest h g = (tt, (has_good names CloseParen ts rest h g).1)
others_good names (c ∷ cs) ts rest (a, b, comma, at, name, h) g =
    let n = named_good names c.name a b name (has_good names Comma ts a comma g).1 in
    let more = others_good names cs b rest h n.1 in
    ((n.0, more.0), more.1)

-- a capture list
captures_good : (names : List Text) (cs : List Captured) (ts rest : List Token) → SpellsCaptures names cs ts rest → AreGood names ts → AreNames cs × AreGood names rest
captures_good names [] ts rest (a, opening, close) g = (tt, (has_good names CloseParen a rest close (has_good names OpenParen ts a opening g).1).1)
captures_good names (c ∷ cs) ts rest (a, opening, (b, at, name, h)) g =
    let n = named_good names c.name a b name (has_good names OpenParen ts a opening g).1 in
    let more = others_good names cs b rest h n.1 in
    ((n.0, more.0), more.1)

-- a number that is turned round keeps its size
turned_size : (z : ℤ) → nat_abs (neg_ℤ z) ≡ nat_abs z
turned_size (pos zero) = refl
turned_size (pos (suc n)) = refl
turned_size (negsuc n) = refl

-- a number
value_good : (names : List Text) (at : ℕ) (value : ℤ) (ts rest : List Token) → SpellsNumber at value ts rest → AreGood names ts → (nat_abs value < 2 ^ 63) × AreGood names rest
value_good names at value ts rest (inl h) g = has_good names (Number value) ts rest h.0 g
value_good names at value ts rest (inr (a, size, minus, h, is)) g =
    let s = has_good names (Number size) a rest h (has_good names Minus ts a minus.0 g).1 in
    (subst (λ n. n < 2 ^ 63) (sym (ap nat_abs is ∙ turned_size size)) s.0, s.1)

mutual
  -- a term that such tokens spell can be spelled
  good : (names : List Text) (b : Bool) (t : Term) (ts rest : List Token) → Spells names b t ts rest → AreGood names ts → IsSpellable b t × AreGood names rest
  good names b (let_t at name value) ts rest (x, y, z, w, is, begins, mut, named, eq, h) g =
      let n = named_good names name y z named (has_good names MutWord x y mut (has_good names LetWord ts x begins.0 g).1).1 in
      let v = good names false value w rest h (has_good names Equals z w eq n.1).1 in
      ((is, n.0, v.0), v.1)
  good names b (block_t at items) ts rest (x, begins, h) g = items_good names items x rest h (has_good names OpenBrace ts x begins.0 g).1
  good names b (read_t at from) ts rest h g = path_good names from.stars from.name ts rest h.1.1 g
  good names b (assign_t at to value) ts rest (x, y, same, place, eq, h) g =
      let n = path_good names to.stars to.name ts x place.1 g in
      let v = good names false value y rest h (has_good names Equals x y eq n.1).1 in
      ((n.0, v.0), v.1)
  good names b (box_t at value) ts rest (x, begins, h) g = good names false value x rest h (has_good names BoxWord ts x begins.0 g).1
  good names b (print_t at value) ts rest (x, begins, h) g = good names false value x rest h (has_good names PrintWord ts x begins.0 g).1
  good names b (join_t at task) ts rest (x, begins, h) g = good names false task x rest h (has_good names JoinWord ts x begins.0 g).1
  good names b (mutex_t at value) ts rest (x, begins, h) g = good names false value x rest h (has_good names MutexWord ts x begins.0 g).1
  good names b (dup_t at of) ts rest (x, begins, h) g = path_good names of.stars of.name x rest h.1 (has_good names DupWord ts x begins.0 g).1
  good names b (borrow_t at of) ts rest (x, begins, h) g = path_good names of.stars of.name x rest h.1 (has_good names Amp ts x begins.0 g).1
  good names b (borrow_mut_t at of) ts rest (x, y, begins, mut, h) g =
      path_good names of.stars of.name y rest h.1 (has_good names MutWord x y mut (has_good names Amp ts x begins.0 g).1).1
  good names b (number_t at value) ts rest h g = value_good names at value ts rest h g
  good names b (unit_t at) ts rest (x, begins, h) g = (tt, (has_good names CloseParen x rest h (has_good names OpenParen ts x begins.0 g).1).1)
  good names b (arith_t at op left right) ts rest (x, y, z, w, begins, l, mark, r, close) g =
      let first = good names false left x y l (has_good names OpenParen ts x begins.0 g).1 in
      let next = good names false right z w r (has_good names (mark_of_op op) y z mark first.1).1 in
      ((first.0, next.0), (has_good names CloseParen w rest close next.1).1)
  good names b (spawn_t at captures body) ts rest (x, y, begins, c, block, h) g =
      let n = captures_good names captures x y c (has_good names SpawnWord ts x begins.0 g).1 in
      let v = good names false body y rest h n.1 in
      ((n.0, block, v.0), v.1)
  good names b (par_t at captures body others other) ts rest (x, y, z, w, begins, c, block, h, d, also, k) g =
      let n = captures_good names captures x y c (has_good names ParWord ts x begins.0 g).1 in
      let v = good names false body y z h n.1 in
      let m = captures_good names others z w d v.1 in
      let u = good names false other w rest k m.1 in
      ((n.0, block, v.0, m.0, also, u.0), u.1)
  good names b (lock_t at of name body) ts rest (x, y, z, w, begins, place, as_word, named, block, h) g =
      let p = path_good names of.stars of.name x y place.1 (has_good names LockWord ts x begins.0 g).1 in
      let n = named_good names name z w named (has_good names AsWord y z as_word p.1).1 in
      let v = good names false body w rest h n.1 in
      ((p.0, n.0, block, v.0), v.1)

  items_good : (names : List Text) (items : Items) (ts rest : List Token) → SpellsItems names items ts rest → AreGood names ts → AreSpellable items × AreGood names rest
  items_good names none ts rest h g = (tt, (has_good names CloseBrace ts rest h g).1)
  items_good names (item first more) ts rest (x, h, next) g =
      let v = good names true first ts x h g in
      let m = more_good names more x rest next v.1 in
      ((v.0, m.0), m.1)

  more_good : (names : List Text) (items : Items) (ts rest : List Token) → SpellsMore names items ts rest → AreGood names ts → AreSpellable items × AreGood names rest
  more_good names none ts rest h g = (tt, (has_good names CloseBrace ts rest h g).1)
  more_good names (item first more) ts rest (x, semi, inl (y, h, next)) g =
      let v = good names true first x y h (has_good names Semicolon ts x semi g).1 in
      let m = more_good names more y rest next v.1 in
      ((v.0, m.0), m.1)
  more_good names (item first more) ts rest (x, semi, inr (place, unit, last, close)) g =
      ((subst (IsSpellable true) (sym unit) tt, subst AreSpellable (sym last) tt), (has_good names CloseBrace x rest close.0 (has_good names Semicolon ts x semi g).1).1)

-- the term of a source has a canonical text
pub source_printable : (bytes : List ℕ) (t : Term) → IsSource bytes t → IsPrintable t
source_printable bytes t s =
    let p = s.program in
    record {
      block = p.grammar.0;
      spellable = (good s.names false t s.ts p.grammar.1.0 p.grammar.1.1 (tokens_good bytes s.ts s.names s.tokens)).0;
      limits = p.limits;
    }
