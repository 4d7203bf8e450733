-- The canonical text of a program is a source of it.
use Rattle.std.proofs.Common.{◌≡◌, ℕ, zero, suc, ◌+◌, ◌<◌, ◌≤◌, ◌^◌, ℤ, pos, negsuc, max, Bool, true, false, List, [], ◌∷◌, ◌++◌, length, refl, sym, ap, ap₂, ◌∙◌, subst, codes}
use Rattle.std.specs.Prelude.{nat_abs}
use Rattle.fr_base.specs.declared.place.Op.{Op}
use Rattle.fr_base.specs.declared.place.Op.TheVariants.{Add, Sub, Mul}
use Rattle.fr_terms.specs.Terms.{Text, Spot, Captured, Term, block_t, let_t, assign_t, read_t, borrow_t, borrow_mut_t, number_t, unit_t, box_t, print_t, arith_t, join_t, mutex_t, dup_t, lock_t, spawn_t, par_t, Items, none, item}
use Rattle.fr_terms.specs.Limits.{levels, levels_of, HasShortPlaces, HaveShortPlaces, IsWithinLimits}
use Rattle.fr_syntax.specs.declared.kind.TokenKind.TheVariants.{LetWord, MutWord, BoxWord, PrintWord, SpawnWord, JoinWord, ParWord, MutexWord, LockWord, AsWord, DupWord, OpenBrace, CloseBrace, OpenParen, CloseParen, Semicolon, Comma, Equals, Amp, Star, Plus, Minus}
use Rattle.fr_syntax.specs.Tokens.{Leads, end_at}
use Rattle.fr_parse.specs.Canonical.{path_words, place_words, other_words, name_words, capture_words, number_words, op_word, words, item_words, more_words, joined, canonical, IsName, AreNames, IsSpellable, AreSpellable, IsPrintable, forget, forget_captured, forget_items, IsSame}
use Rattle.fr_grammar.specs.Source.{IsSource}
use Rattle.fr_parse.proofs.PrintWords.{spelled, same_block}
use Rattle.fr_parse.proofs.PrintTexts.{IsText, word_text, mark_text, name_text, number_text}
use Rattle.fr_parse.proofs.PrintTokens.{AreTexts, texts_then, joined_behind, led}

-- THE TEXTS OF A TERM'S WORDS

-- `*`
star : IsText (codes "*")
star = mark_text 42 Star refl refl refl refl

-- `(`
opening : IsText (codes "(")
opening = mark_text 40 OpenParen refl refl refl refl

-- `)`
closing : IsText (codes ")")
closing = mark_text 41 CloseParen refl refl refl refl

-- `=`
equals : IsText (codes "=")
equals = mark_text 61 Equals refl refl refl refl

-- `&`
amp : IsText (codes "&")
amp = mark_text 38 Amp refl refl refl refl

-- `mut`
mut : IsText (codes "mut")
mut = word_text 109 (codes "ut") MutWord refl refl refl

-- a name under stars
path_texts : (n : ℕ) (name : Text) → IsName name → AreTexts (path_words n name)
path_texts zero name h = (name_text name h, tt)
path_texts (suc n) name h = (star, path_texts n name h)

-- a place
place_texts : (w : Spot) → IsName w.name → AreTexts (place_words w)
place_texts w h = path_texts w.stars w.name h

-- captured names after the first
other_texts : (cs : List Captured) → AreNames cs → AreTexts (other_words cs)
other_texts [] h = tt
other_texts (c ∷ cs) h = (mark_text 44 Comma refl refl refl refl, (name_text c.name h.0, other_texts cs h.1))

-- captured names
name_texts : (cs : List Captured) → AreNames cs → AreTexts (name_words cs)
name_texts [] h = tt
name_texts (c ∷ cs) h = (name_text c.name h.0, other_texts cs h.1)

-- a capture list
capture_texts : (cs : List Captured) → AreNames cs → AreTexts (capture_words cs)
capture_texts cs h = (opening, texts_then (name_words cs) (codes ")" ∷ []) (name_texts cs h) (closing, tt))

-- a number
number_texts : (value : ℤ) → nat_abs value < 2 ^ 63 → AreTexts (number_words value)
number_texts (pos n) h = (number_text n h, tt)
number_texts (negsuc n) h = (mark_text 45 Minus refl refl refl refl, (number_text (suc n) h, tt))

-- an operator
op_text : (op : Op) → IsText (op_word op)
op_text Add = mark_text 43 Plus refl refl refl refl
op_text Sub = mark_text 45 Minus refl refl refl refl
op_text Mul = star

mutual
  -- each word of a term that can be spelled is a text of a token
  texts : (b : Bool) (t : Term) → IsSpellable b t → AreTexts (words t)
  texts b (block_t at items) h = (mark_text 123 OpenBrace refl refl refl refl, texts_then (item_words items) (codes "}" ∷ []) (item_texts items h) (mark_text 125 CloseBrace refl refl refl refl, tt))
  texts b (let_t at name value) h = (word_text 108 (codes "et") LetWord refl refl refl, (mut, (name_text name h.1, (equals, texts false value h.2))))
  texts b (assign_t at to value) h = texts_then (place_words to) (codes "=" ∷ words value) (place_texts to h.0) (equals, texts false value h.1)
  texts b (read_t at from) h = place_texts from h
  texts b (borrow_t at of) h = (amp, place_texts of h)
  texts b (borrow_mut_t at of) h = (amp, (mut, place_texts of h))
  texts b (number_t at value) h = number_texts value h
  texts b (unit_t at) h = (opening, (closing, tt))
  texts b (box_t at value) h = (word_text 98 (codes "ox") BoxWord refl refl refl, texts false value h)
  texts b (print_t at value) h = (word_text 112 (codes "rint") PrintWord refl refl refl, texts false value h)
  texts b (arith_t at op left right) h =
      texts_then (codes "(" ∷ words left ++ op_word op ∷ words right) (codes ")" ∷ [])
      (opening, texts_then (words left) (op_word op ∷ words right) (texts false left h.0) (op_text op, texts false right h.1)) (closing, tt)
  texts b (join_t at task) h = (word_text 106 (codes "oin") JoinWord refl refl refl, texts false task h)
  texts b (mutex_t at value) h = (word_text 109 (codes "utex") MutexWord refl refl refl, texts false value h)
  texts b (dup_t at of) h = (word_text 100 (codes "up") DupWord refl refl refl, place_texts of h)
  texts b (lock_t at of name body) h =
      (word_text 108 (codes "ock") LockWord refl refl refl, texts_then (place_words of) (codes "as" ∷ name ∷ words body) (place_texts of h.0) (word_text 97 (codes "s") AsWord refl refl refl, (name_text name h.1, texts false body h.3)))
  texts b (spawn_t at captures body) h = (word_text 115 (codes "pawn") SpawnWord refl refl refl, texts_then (capture_words captures) (words body) (capture_texts captures h.0) (texts false body h.2))
  texts b (par_t at captures body others other) h = (
    word_text 112 (codes "ar") ParWord refl refl refl,
    texts_then (capture_words captures ++ words body ++ capture_words others) (words other)
        (texts_then (capture_words captures ++ words body) (capture_words others) (texts_then (capture_words captures) (words body) (capture_texts captures h.0) (texts false body h.2)) (capture_texts others h.3)) (texts false other h.5),
  )

  item_texts : (items : Items) → AreSpellable items → AreTexts (item_words items)
  item_texts none h = tt
  item_texts (item first more) h = texts_then (words first) (more_words more) (texts true first h.0) (more_texts more h.1)

  more_texts : (items : Items) → AreSpellable items → AreTexts (more_words items)
  more_texts none h = tt
  more_texts (item first more) h = (mark_text 59 Semicolon refl refl refl refl, texts_then (words first) (more_words more) (texts true first h.0) (more_texts more h.1))

-- LIMITS

mutual
  -- a term without its places has as many levels
  levels_same : (t : Term) → levels (forget t) ≡ levels t
  levels_same (block_t at items) = ap (λ n. n + 1) (levels_of_same items)
  levels_same (let_t at name value) = ap (λ n. n + 1) (levels_same value)
  levels_same (assign_t at to value) = ap (λ n. n + 1) (levels_same value)
  levels_same (read_t at from) = refl
  levels_same (borrow_t at of) = refl
  levels_same (borrow_mut_t at of) = refl
  levels_same (number_t at value) = refl
  levels_same (unit_t at) = refl
  levels_same (box_t at value) = ap (λ n. n + 1) (levels_same value)
  levels_same (print_t at value) = ap (λ n. n + 1) (levels_same value)
  levels_same (arith_t at op left right) = ap₂ (λ n m. max n m + 1) (levels_same left) (levels_same right)
  levels_same (join_t at task) = ap (λ n. n + 1) (levels_same task)
  levels_same (mutex_t at value) = ap (λ n. n + 1) (levels_same value)
  levels_same (dup_t at of) = refl
  levels_same (lock_t at of name body) = ap (λ n. n + 1) (levels_same body)
  levels_same (spawn_t at captures body) = ap (λ n. n + 1) (levels_same body)
  levels_same (par_t at captures body others other) = ap₂ (λ n m. max n m + 1) (levels_same body) (levels_same other)

  levels_of_same : (items : Items) → levels_of (forget_items items) ≡ levels_of items
  levels_of_same none = refl
  levels_of_same (item first more) = ap₂ max (levels_same first) (levels_of_same more)

mutual
  -- and its places have as many stars
  short_forgot : (t : Term) → HasShortPlaces t → HasShortPlaces (forget t)
  short_forgot (block_t at items) h = shorts_forgot items h
  short_forgot (let_t at name value) h = short_forgot value h
  short_forgot (assign_t at to value) h = (h.0, short_forgot value h.1)
  short_forgot (read_t at from) h = h
  short_forgot (borrow_t at of) h = h
  short_forgot (borrow_mut_t at of) h = h
  short_forgot (number_t at value) h = h
  short_forgot (unit_t at) h = h
  short_forgot (box_t at value) h = short_forgot value h
  short_forgot (print_t at value) h = short_forgot value h
  short_forgot (arith_t at op left right) h = (short_forgot left h.0, short_forgot right h.1)
  short_forgot (join_t at task) h = short_forgot task h
  short_forgot (mutex_t at value) h = short_forgot value h
  short_forgot (dup_t at of) h = h
  short_forgot (lock_t at of name body) h = (h.0, short_forgot body h.1)
  short_forgot (spawn_t at captures body) h = short_forgot body h
  short_forgot (par_t at captures body others other) h = (short_forgot body h.0, short_forgot other h.1)

  shorts_forgot : (items : Items) → HaveShortPlaces items → HaveShortPlaces (forget_items items)
  shorts_forgot none h = h
  shorts_forgot (item first more) h = (short_forgot first h.0, shorts_forgot more h.1)

mutual
  short_from : (t : Term) → HasShortPlaces (forget t) → HasShortPlaces t
  short_from (block_t at items) h = shorts_from items h
  short_from (let_t at name value) h = short_from value h
  short_from (assign_t at to value) h = (h.0, short_from value h.1)
  short_from (read_t at from) h = h
  short_from (borrow_t at of) h = h
  short_from (borrow_mut_t at of) h = h
  short_from (number_t at value) h = h
  short_from (unit_t at) h = h
  short_from (box_t at value) h = short_from value h
  short_from (print_t at value) h = short_from value h
  short_from (arith_t at op left right) h = (short_from left h.0, short_from right h.1)
  short_from (join_t at task) h = short_from task h
  short_from (mutex_t at value) h = short_from value h
  short_from (dup_t at of) h = h
  short_from (lock_t at of name body) h = (h.0, short_from body h.1)
  short_from (spawn_t at captures body) h = short_from body h
  short_from (par_t at captures body others other) h = (short_from body h.0, short_from other h.1)

  shorts_from : (items : Items) → HaveShortPlaces (forget_items items) → HaveShortPlaces items
  shorts_from none h = h
  shorts_from (item first more) h = (short_from first h.0, shorts_from more h.1)

-- so the same term is within the limits
same_limits : (t u : Term) → IsSame t u → IsWithinLimits t → IsWithinLimits u
same_limits t u e h = record {
  depth = subst (λ n. n ≤ 64) (sym (levels_same t) ∙ ap levels e ∙ levels_same u) h.depth;
  places = short_from u (subst HasShortPlaces e (short_forgot t h.places));
}

-- THE SAME TEXT

-- captured names without their places have the same words, after the first
others_same : (cs : List Captured) → other_words (forget_captured cs) ≡ other_words cs
others_same [] = refl
others_same (c ∷ cs) = ap (λ l. codes "," ∷ c.name ∷ l) (others_same cs)

-- and so has a capture list
captures_same : (cs : List Captured) → capture_words (forget_captured cs) ≡ capture_words cs
captures_same [] = refl
captures_same (c ∷ cs) = ap (λ l. codes "(" ∷ c.name ∷ l ++ codes ")" ∷ []) (others_same cs)

mutual
  -- a term without its places has the same words
  words_same : (t : Term) → words (forget t) ≡ words t
  words_same (block_t at items) = ap (λ l. codes "{" ∷ l ++ codes "}" ∷ []) (items_same items)
  words_same (let_t at name value) = ap (λ l. codes "let" ∷ codes "mut" ∷ name ∷ codes "=" ∷ l) (words_same value)
  words_same (assign_t at to value) = ap (λ l. place_words to ++ codes "=" ∷ l) (words_same value)
  words_same (read_t at from) = refl
  words_same (borrow_t at of) = refl
  words_same (borrow_mut_t at of) = refl
  words_same (number_t at value) = refl
  words_same (unit_t at) = refl
  words_same (box_t at value) = ap (λ l. codes "box" ∷ l) (words_same value)
  words_same (print_t at value) = ap (λ l. codes "print" ∷ l) (words_same value)
  words_same (arith_t at op left right) = ap₂ (λ l m. codes "(" ∷ l ++ op_word op ∷ m ++ codes ")" ∷ []) (words_same left) (words_same right)
  words_same (join_t at task) = ap (λ l. codes "join" ∷ l) (words_same task)
  words_same (mutex_t at value) = ap (λ l. codes "mutex" ∷ l) (words_same value)
  words_same (dup_t at of) = refl
  words_same (lock_t at of name body) = ap (λ l. codes "lock" ∷ place_words of ++ codes "as" ∷ name ∷ l) (words_same body)
  words_same (spawn_t at captures body) = ap₂ (λ l m. codes "spawn" ∷ l ++ m) (captures_same captures) (words_same body)
  words_same (par_t at captures body others other) =
      ap₂ (λ l m. codes "par" ∷ l ++ m ++ capture_words (forget_captured others) ++ words (forget other)) (captures_same captures) (words_same body)
      ∙ ap₂ (λ l m. codes "par" ∷ capture_words captures ++ words body ++ l ++ m) (captures_same others) (words_same other)

  items_same : (items : Items) → item_words (forget_items items) ≡ item_words items
  items_same none = refl
  items_same (item first more) = ap₂ (λ l m. l ++ m) (words_same first) (more_same more)

  more_same : (items : Items) → more_words (forget_items items) ≡ more_words items
  more_same none = refl
  more_same (item first more) = ap₂ (λ l m. codes ";" ∷ l ++ m) (words_same first) (more_same more)

-- so the same term has the same text
pub same_text : (t u : Term) → IsSame t u → canonical t ≡ canonical u
same_text t u e = ap (λ l. joined l ++ codes "\n") (sym (words_same t) ∙ ap words e ∙ words_same u)

-- THE LAW

-- a program's canonical text is a source of the same program
pub prints : (t : Term) → IsPrintable t → (u : Term) × IsSource (canonical t) u × IsSame t u
prints (block_t at items) h =
    let t = block_t at items in
    let inner = item_words items ++ codes "}" ∷ [] in
    let all = led (codes "{") inner (texts false t h.spellable) in
    let bytes = joined_behind (codes "{") inner in
    let end = end_at (length (canonical t)) in
    let s = spelled all.all false t (all.tokens ++ end ∷ []) (end ∷ []) h.spellable (all.fit (end ∷ [])) in (
      s.term,
      record {
        names = all.all;
        ts = all.tokens ++ end ∷ [];
        tokens = record {
          front = all.tokens;
          place = all.end;
          rest = codes "\n";
          leads = subst (λ b. Leads [] 0 b all.tokens all.all all.end (codes "\n")) (sym bytes) all.leads;
          over = refl;
          all = refl;
        };
        program = record {
          grammar = (same_block t s.term s.same h.block, (end ∷ [], s.spells, (refl, refl)));
          limits = same_limits t s.term s.same h.limits;
        };
      },
      s.same,
    )
prints t h = absurd h.block

-- WHERE A SOURCE SPELLS ONE PROGRAM

-- no bytes are the text of two programs
abbrev pub IsOnce : Type 0
IsOnce = (bytes : List ℕ) (t u : Term) → IsSource bytes t → IsSource bytes u → t ≡ u

-- what is read from a program's canonical text is the same program
pub read_again : IsOnce → (t u : Term) → IsPrintable t → IsSource (canonical t) u → IsSame t u
read_again once t u h source =
    let p = prints t h in
    p.2 ∙ ap forget (once (canonical t) p.0 u p.1 source)

-- and programs with the same text are the same
pub text_tells : IsOnce → (t u : Term) → IsPrintable t → IsPrintable u → canonical t ≡ canonical u → IsSame t u
text_tells once t u h k e =
    let p = prints u k in
    read_again once t p.0 h (subst (λ b. IsSource b p.0) (sym e) p.1) ∙ sym p.2
