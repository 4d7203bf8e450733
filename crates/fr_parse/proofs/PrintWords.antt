-- Tokens that fit the words of a term spell that term, wherever its parts stand.
use Rattle.std.proofs.Common.{◌≡◌, ℕ, zero, suc, ◌<◌, ◌^◌, ℤ, pos, negsuc, Bool, true, false, List, [], ◌∷◌, ◌++◌, refl, sym, ap, ap₂, ◌∙◌, subst, inl, inr, codes}
use Rattle.std.specs.Prelude.{Some, decimal, nat_abs}
use Rattle.fr_base.specs.declared.place.Op.{Op}
use Rattle.fr_base.specs.declared.place.Op.TheVariants.{Add, Sub, Mul}
use Rattle.fr_terms.specs.Terms.{Text, Spot, Captured, Term, block_t, let_t, assign_t, read_t, borrow_t, borrow_mut_t, number_t, unit_t, box_t, print_t, arith_t, join_t, mutex_t, dup_t, lock_t, spawn_t, par_t, Items, none, item, IsBlock}
use Rattle.fr_syntax.specs.Arena.{text_of}
use Rattle.fr_syntax.specs.Words.{fixed_of}
use Rattle.fr_syntax.specs.declared.kind.TokenKind.{TokenKind}
use Rattle.fr_syntax.specs.declared.kind.TokenKind.TheVariants.{Name, Number, LetWord, MutWord, BoxWord, PrintWord, SpawnWord, JoinWord, ParWord, MutexWord, LockWord, AsWord, DupWord, OpenBrace, CloseBrace, OpenParen, CloseParen, Semicolon, Comma, Equals, Amp, Star, Minus}
use Rattle.fr_syntax.specs.declared.token.Token.{Token}
use Rattle.fr_grammar.specs.Grammar.{Has, IsAt, Begins, SpellsName, SpellsPath, SpellsPlace, SpellsOthers, SpellsCaptures, SpellsNumber, mark_of_op, Spells, SpellsItems, SpellsMore}
use Rattle.fr_grammar.specs.Reading.{place_of}
use Rattle.fr_parse.specs.Canonical.{path_words, place_words, other_words, name_words, capture_words, number_words, op_word, words, item_words, more_words, IsName, AreNames, IsSpellable, AreSpellable, forget_spot, forget_captured, forget, forget_items}

-- a token of this kind fits this text
pub record Fits (names : List Text) (w : Text) (k : TokenKind) : Type 0 where
  pub fixed : (f : TokenKind) → fixed_of w ≡ Some f → k ≡ f
  pub named : IsName w → (n : ℕ) × (text_of names n ≡ w) × (k ≡ Name n)
  pub number : (n : ℕ) → w ≡ decimal n → n < 2 ^ 63 → k ≡ Number (pos n)

-- the first tokens fit these texts, and the rest follows them
abbrev pub Fit : List Text → List Text → List Token → List Token → Type 0
Fit names [] ts rest = ts ≡ rest
Fit names (w ∷ ws) [] rest = ⊥
Fit names (w ∷ ws) (t ∷ ts) rest = Fits names w t.kind × Fit names ws ts rest

-- texts before others, and these
record AreTwo (names : List Text) (ws vs : List Text) (ts rest : List Token) : Type 0 where
  mid : List Token
  front : Fit names ws ts mid
  back : Fit names vs mid rest

-- they can be told apart
split : (names ws vs : List Text) (ts rest : List Token) → Fit names (ws ++ vs) ts rest → AreTwo names ws vs ts rest
split names [] vs ts rest fit = record { mid = ts; front = refl; back = fit }
split names (w ∷ ws) vs [] rest fit = absurd fit
split names (w ∷ ws) vs (t ∷ ts) rest fit =
    let s = split names ws vs ts rest fit.1 in
    record { mid = s.mid; front = (fit.0, s.front); back = s.back }

-- a word or a mark, and what follows it
record IsStep (names : List Text) (k : TokenKind) (ws : List Text) (ts rest : List Token) : Type 0 where
  mid : List Token
  begins : Begins k (place_of ts) ts mid
  fit : Fit names ws mid rest

-- a token that fits a word or a mark is one
step : (names : List Text) (k : TokenKind) (w : Text) (ws : List Text) (ts rest : List Token) → fixed_of w ≡ Some k → Fit names (w ∷ ws) ts rest → IsStep names k ws ts rest
step names k w ws [] rest e fit = absurd fit
step names k w ws (t ∷ ts) rest e fit = record { mid = ts; begins = ((fit.0.fixed k e, refl), refl); fit = fit.1 }

-- a last word or mark
last : (names : List Text) (k : TokenKind) (w : Text) (ts rest : List Token) → fixed_of w ≡ Some k → Fit names (w ∷ []) ts rest → Has k ts rest
last names k w [] rest e fit = absurd fit
last names k w (t ∷ ts) rest e fit = (fit.0.fixed k e, fit.1)

-- a name, and what follows it
record IsNameStep (names : List Text) (name : Text) (ws : List Text) (ts rest : List Token) : Type 0 where
  mid : List Token
  at : IsAt (place_of ts) ts
  spells : SpellsName names name ts mid
  fit : Fit names ws mid rest

-- a token that fits a name is one
name_step : (names : List Text) (name : Text) (ws : List Text) (ts rest : List Token) → IsName name → Fit names (name ∷ ws) ts rest → IsNameStep names name ws ts rest
name_step names name ws [] rest h fit = absurd fit
name_step names name ws (t ∷ ts) rest h fit =
    let n = fit.0.named h in
    record { mid = ts; at = refl; spells = (n.0, n.1, (n.2, refl)); fit = fit.1 }

-- a name under its stars
path : (names : List Text) (n : ℕ) (name : Text) (ts rest : List Token) → IsName name → Fit names (path_words n name) ts rest → IsAt (place_of ts) ts × SpellsPath names n name ts rest
path names zero name [] rest h fit = absurd fit
path names zero name (t ∷ ts) rest h fit = let x = fit.0.named h in (refl, (x.0, x.1, (x.2, fit.1)))
path names (suc n) name ts rest h fit =
    let s = step names Star (codes "*") (path_words n name) ts rest refl fit in
    (s.begins.1, (s.mid, s.begins.0, (path names n name s.mid rest h s.fit).1))

-- a place, where its first token stands
abbrev stands : Spot → ℕ → Spot
stands w at = record { at = at; name = w.name; stars = w.stars }

-- tokens that fit the words of a place spell it
place : (names : List Text) (w : Spot) (ts rest : List Token) → IsName w.name → Fit names (place_words w) ts rest → SpellsPlace names (stands w (place_of ts)) ts rest
place names w ts rest h fit = path names w.stars w.name ts rest h fit

-- a number
number : (names : List Text) (value : ℤ) (ts rest : List Token) → nat_abs value < 2 ^ 63 → Fit names (number_words value) ts rest → SpellsNumber (place_of ts) value ts rest
number names (pos n) [] rest h fit = absurd fit
number names (pos n) (t ∷ ts) rest h fit = inl ((fit.0.number n refl h, fit.1), refl)
number names (negsuc n) ts rest h fit =
    let s = step names Minus (codes "-") (decimal (suc n) ∷ []) ts rest refl fit in
    inr (s.mid, pos (suc n), s.begins, size s.mid s.fit, refl)
  where
    size : (a : List Token) → Fit names (decimal (suc n) ∷ []) a rest → Has (Number (pos (suc n))) a rest
    size [] fit = absurd fit
    size (t ∷ a) fit = (fit.0.number (suc n) refl h, fit.1)

-- captured names that tokens spell
record AreOthers (names : List Text) (cs : List Captured) (ts rest : List Token) : Type 0 where
  captures : List Captured
  spells : SpellsOthers names captures ts rest
  same : forget_captured cs ≡ forget_captured captures

-- a capture list that tokens spell
record AreCaptures (names : List Text) (cs : List Captured) (ts rest : List Token) : Type 0 where
  captures : List Captured
  spells : SpellsCaptures names captures ts rest
  same : forget_captured cs ≡ forget_captured captures

-- a captured name, where it stands
abbrev caught : Text → ℕ → Captured
caught name at = record { at = at; name = name }

-- tokens that fit captured names after the first spell them
others : (names : List Text) (cs : List Captured) (ts mid rest : List Token) → AreNames cs → Fit names (other_words cs) ts mid → Has CloseParen mid rest → AreOthers names cs ts rest
others names [] ts mid rest h fit close = record { captures = []; spells = subst (λ ts. Has CloseParen ts rest) (sym fit) close; same = refl }
others names (c ∷ cs) ts mid rest h fit close =
    let s = step names Comma (codes ",") (c.name ∷ other_words cs) ts mid refl fit in
    let n = name_step names c.name (other_words cs) s.mid mid h.0 s.fit in
    let more = others names cs n.mid mid rest h.1 n.fit close in
    record {
      captures = caught c.name (place_of s.mid) ∷ more.captures;
      spells = (s.mid, n.mid, s.begins.0, n.at, n.spells, more.spells);
      same = ap (λ l. caught c.name 0 ∷ l) {y = forget_captured more.captures} more.same;
    }

-- tokens that fit a capture list spell it
captured : (names : List Text) (cs : List Captured) (ts rest : List Token) → AreNames cs → Fit names (capture_words cs) ts rest → AreCaptures names cs ts rest
captured names [] ts rest h fit =
    let s = step names OpenParen (codes "(") (codes ")" ∷ []) ts rest refl fit in
    record { captures = []; spells = (s.mid, s.begins.0, last names CloseParen (codes ")") s.mid rest refl s.fit); same = refl }
captured names (c ∷ cs) ts rest h fit =
    let s = step names OpenParen (codes "(") (name_words (c ∷ cs) ++ codes ")" ∷ []) ts rest refl fit in
    let n = name_step names c.name (other_words cs ++ codes ")" ∷ []) s.mid rest h.0 s.fit in
    let two = split names (other_words cs) (codes ")" ∷ []) n.mid rest n.fit in
    let more = others names cs n.mid two.mid rest h.1 two.front (last names CloseParen (codes ")") two.mid rest refl two.back) in
    record {
      captures = caught c.name (place_of s.mid) ∷ more.captures;
      spells = (s.mid, s.begins.0, (n.mid, n.at, n.spells, more.spells));
      same = ap (λ l. caught c.name 0 ∷ l) {y = forget_captured more.captures} more.same;
    }

-- an operator's mark
op_is : (op : Op) → fixed_of (op_word op) ≡ Some (mark_of_op op)
op_is Add = refl
op_is Sub = refl
op_is Mul = refl

-- a term without its places is a block where it is one
forget_block : (t : Term) → IsBlock t → IsBlock (forget t)
forget_block (block_t at items) h = h
forget_block t h = absurd h

-- and a block where the term without its places is one
block_from : (t : Term) → IsBlock (forget t) → IsBlock t
block_from (block_t at items) h = h
block_from t h = absurd h

-- so the same term is a block
pub same_block : (t u : Term) → forget t ≡ forget u → IsBlock t → IsBlock u
same_block t u e h = block_from u (subst IsBlock e (forget_block t h))

-- a term that tokens spell, the same but for its places
pub record IsSpelled (names : List Text) (is_item : Bool) (t : Term) (ts rest : List Token) : Type 0 where
  pub term : Term
  pub spells : Spells names is_item term ts rest
  pub same : forget t ≡ forget term

-- two threads whose parts are the same
same_par : (cs us ds vs : List Captured) (body x other y : Term) → forget_captured cs ≡ forget_captured us → forget body ≡ forget x → forget_captured ds ≡ forget_captured vs → forget other ≡ forget y → par_t 0 (forget_captured cs) (forget body) (forget_captured ds) (forget other) ≡ par_t 0 (forget_captured us) (forget x) (forget_captured vs) (forget y)
same_par cs us ds vs body x other y c b d o = ap₂ (λ l t. par_t 0 l t (forget_captured ds) (forget other)) c b ∙ ap₂ (par_t 0 (forget_captured us) (forget x)) d o

-- items of a block that tokens spell, the same but for their places
record AreItems (names : List Text) (old : Items) (ts rest : List Token) : Type 0 where
  items : Items
  spells : SpellsItems names items ts rest
  same : forget_items old ≡ forget_items items

-- the same of items after the first
record AreMore (names : List Text) (old : Items) (ts rest : List Token) : Type 0 where
  items : Items
  spells : SpellsMore names items ts rest
  same : forget_items old ≡ forget_items items

mutual
  -- tokens that fit the words of a term spell it
  pub spelled : (names : List Text) (b : Bool) (t : Term) (ts rest : List Token) → IsSpellable b t → Fit names (words t) ts rest → IsSpelled names b t ts rest
  spelled names b (block_t at items) ts rest h fit =
      let s = step names OpenBrace (codes "{") (item_words items ++ codes "}" ∷ []) ts rest refl fit in
      let two = split names (item_words items) (codes "}" ∷ []) s.mid rest s.fit in
      let all = spelled_items names items s.mid two.mid rest h two.front (last names CloseBrace (codes "}") two.mid rest refl two.back) in
      record { term = block_t (place_of ts) all.items; spells = (s.mid, s.begins, all.spells); same = ap (block_t 0) {y = forget_items all.items} all.same }
  spelled names b (let_t at name value) ts rest h fit =
      let s = step names LetWord (codes "let") (codes "mut" ∷ name ∷ codes "=" ∷ words value) ts rest refl fit in
      let m = step names MutWord (codes "mut") (name ∷ codes "=" ∷ words value) s.mid rest refl s.fit in
      let n = name_step names name (codes "=" ∷ words value) m.mid rest h.1 m.fit in
      let e = step names Equals (codes "=") (words value) n.mid rest refl n.fit in
      let v = spelled names false value e.mid rest h.2 e.fit in
      record { term = let_t (place_of ts) name v.term; spells = (s.mid, m.mid, n.mid, e.mid, h.0, s.begins, m.begins.0, n.spells, e.begins.0, v.spells); same = ap (let_t 0 name) {y = forget v.term} v.same }
  spelled names b (assign_t at to value) ts rest h fit =
      let two = split names (place_words to) (codes "=" ∷ words value) ts rest fit in
      let e = step names Equals (codes "=") (words value) two.mid rest refl two.back in
      let v = spelled names false value e.mid rest h.1 e.fit in
      record { term = assign_t (place_of ts) (stands to (place_of ts)) v.term; spells = (two.mid, e.mid, refl, place names to ts two.mid h.0 two.front, e.begins.0, v.spells); same = ap (assign_t 0 (forget_spot to)) {y = forget v.term} v.same }
  spelled names b (read_t at from) ts rest h fit =
      record { term = read_t (place_of ts) (stands from (place_of ts)); spells = (refl, place names from ts rest h fit); same = refl }
  spelled names b (borrow_t at of) ts rest h fit =
      let s = step names Amp (codes "&") (place_words of) ts rest refl fit in
      record { term = borrow_t (place_of ts) (stands of (place_of s.mid)); spells = (s.mid, s.begins, place names of s.mid rest h s.fit); same = refl }
  spelled names b (borrow_mut_t at of) ts rest h fit =
      let s = step names Amp (codes "&") (codes "mut" ∷ place_words of) ts rest refl fit in
      let m = step names MutWord (codes "mut") (place_words of) s.mid rest refl s.fit in
      record { term = borrow_mut_t (place_of ts) (stands of (place_of m.mid)); spells = (s.mid, m.mid, s.begins, m.begins.0, place names of m.mid rest h m.fit); same = refl }
  spelled names b (number_t at value) ts rest h fit =
      record { term = number_t (place_of ts) value; spells = number names value ts rest h fit; same = refl }
  spelled names b (unit_t at) ts rest h fit =
      let s = step names OpenParen (codes "(") (codes ")" ∷ []) ts rest refl fit in
      record { term = unit_t (place_of ts); spells = (s.mid, s.begins, last names CloseParen (codes ")") s.mid rest refl s.fit); same = refl }
  spelled names b (box_t at value) ts rest h fit =
      let s = step names BoxWord (codes "box") (words value) ts rest refl fit in
      let v = spelled names false value s.mid rest h s.fit in
      record { term = box_t (place_of ts) v.term; spells = (s.mid, s.begins, v.spells); same = ap (box_t 0) {y = forget v.term} v.same }
  spelled names b (print_t at value) ts rest h fit =
      let s = step names PrintWord (codes "print") (words value) ts rest refl fit in
      let v = spelled names false value s.mid rest h s.fit in
      record { term = print_t (place_of ts) v.term; spells = (s.mid, s.begins, v.spells); same = ap (print_t 0) {y = forget v.term} v.same }
  spelled names b (arith_t at op left right) ts rest h fit =
      let s = step names OpenParen (codes "(") (words left ++ op_word op ∷ words right ++ codes ")" ∷ []) ts rest refl fit in
      let two = split names (words left ++ op_word op ∷ words right) (codes ")" ∷ []) s.mid rest s.fit in
      let first = split names (words left) (op_word op ∷ words right) s.mid two.mid two.front in
      let x = spelled names false left s.mid first.mid h.0 first.front in
      let o = step names (mark_of_op op) (op_word op) (words right) first.mid two.mid (op_is op) first.back in
      let y = spelled names false right o.mid two.mid h.1 o.fit in
      record {
        term = arith_t (place_of ts) op x.term y.term;
        spells = (s.mid, first.mid, o.mid, two.mid, s.begins, x.spells, o.begins.0, y.spells, last names CloseParen (codes ")") two.mid rest refl two.back);
        same = ap₂ (arith_t 0 op) {y = forget x.term} {v = forget y.term} x.same y.same;
      }
  spelled names b (join_t at task) ts rest h fit =
      let s = step names JoinWord (codes "join") (words task) ts rest refl fit in
      let v = spelled names false task s.mid rest h s.fit in
      record { term = join_t (place_of ts) v.term; spells = (s.mid, s.begins, v.spells); same = ap (join_t 0) {y = forget v.term} v.same }
  spelled names b (mutex_t at value) ts rest h fit =
      let s = step names MutexWord (codes "mutex") (words value) ts rest refl fit in
      let v = spelled names false value s.mid rest h s.fit in
      record { term = mutex_t (place_of ts) v.term; spells = (s.mid, s.begins, v.spells); same = ap (mutex_t 0) {y = forget v.term} v.same }
  spelled names b (dup_t at of) ts rest h fit =
      let s = step names DupWord (codes "dup") (place_words of) ts rest refl fit in
      record { term = dup_t (place_of ts) (stands of (place_of s.mid)); spells = (s.mid, s.begins, place names of s.mid rest h s.fit); same = refl }
  spelled names b (lock_t at of name body) ts rest h fit =
      let s = step names LockWord (codes "lock") (place_words of ++ codes "as" ∷ name ∷ words body) ts rest refl fit in
      let two = split names (place_words of) (codes "as" ∷ name ∷ words body) s.mid rest s.fit in
      let a = step names AsWord (codes "as") (name ∷ words body) two.mid rest refl two.back in
      let n = name_step names name (words body) a.mid rest h.1 a.fit in
      let v = spelled names false body n.mid rest h.3 n.fit in
      record {
        term = lock_t (place_of ts) (stands of (place_of s.mid)) name v.term;
        spells = (s.mid, two.mid, a.mid, n.mid, s.begins, place names of s.mid two.mid h.0 two.front, a.begins.0, n.spells, same_block body v.term v.same h.2, v.spells);
        same = ap (lock_t 0 (forget_spot of) name) {y = forget v.term} v.same;
      }
  spelled names b (spawn_t at captures body) ts rest h fit =
      let s = step names SpawnWord (codes "spawn") (capture_words captures ++ words body) ts rest refl fit in
      let two = split names (capture_words captures) (words body) s.mid rest s.fit in
      let c = captured names captures s.mid two.mid h.0 two.front in
      let v = spelled names false body two.mid rest h.2 two.back in
      record {
        term = spawn_t (place_of ts) c.captures v.term;
        spells = (s.mid, two.mid, s.begins, c.spells, same_block body v.term v.same h.1, v.spells);
        same = ap₂ (spawn_t 0) {y = forget_captured c.captures} {v = forget v.term} c.same v.same;
      }
  spelled names b (par_t at captures body others other) ts rest h fit =
      let s = step names ParWord (codes "par") (capture_words captures ++ words body ++ capture_words others ++ words other) ts rest refl fit in
      let three = split names (capture_words captures ++ words body ++ capture_words others) (words other) s.mid rest s.fit in
      let two = split names (capture_words captures ++ words body) (capture_words others) s.mid three.mid three.front in
      let one = split names (capture_words captures) (words body) s.mid two.mid two.front in
      let c = captured names captures s.mid one.mid h.0 one.front in
      let v = spelled names false body one.mid two.mid h.2 one.back in
      let d = captured names others two.mid three.mid h.3 two.back in
      let w = spelled names false other three.mid rest h.5 three.back in
      record {
        term = par_t (place_of ts) c.captures v.term d.captures w.term;
        spells = (s.mid, one.mid, two.mid, three.mid, s.begins, c.spells, same_block body v.term v.same h.1, v.spells, d.spells, same_block other w.term w.same h.4, w.spells);
        same = same_par captures c.captures others d.captures body v.term other w.term c.same v.same d.same w.same;
      }

  -- the items of a block, with the mark behind them
  spelled_items : (names : List Text) (items : Items) (ts mid rest : List Token) → AreSpellable items → Fit names (item_words items) ts mid → Has CloseBrace mid rest → AreItems names items ts rest
  spelled_items names none ts mid rest h fit close = record { items = none; spells = subst (λ ts. Has CloseBrace ts rest) (sym fit) close; same = refl }
  spelled_items names (item first more) ts mid rest h fit close =
      let two = split names (words first) (more_words more) ts mid fit in
      let x = spelled names true first ts two.mid h.0 two.front in
      let m = spelled_more names more two.mid mid rest h.1 two.back close in
      record { items = item x.term m.items; spells = (two.mid, x.spells, m.spells); same = ap₂ item {y = forget x.term} {v = forget_items m.items} x.same m.same }

  -- the items after the first
  spelled_more : (names : List Text) (items : Items) (ts mid rest : List Token) → AreSpellable items → Fit names (more_words items) ts mid → Has CloseBrace mid rest → AreMore names items ts rest
  spelled_more names none ts mid rest h fit close = record { items = none; spells = subst (λ ts. Has CloseBrace ts rest) (sym fit) close; same = refl }
  spelled_more names (item first more) ts mid rest h fit close =
      let s = step names Semicolon (codes ";") (words first ++ more_words more) ts mid refl fit in
      let two = split names (words first) (more_words more) s.mid mid s.fit in
      let x = spelled names true first s.mid two.mid h.0 two.front in
      let m = spelled_more names more two.mid mid rest h.1 two.back close in
      record { items = item x.term m.items; spells = (s.mid, s.begins.0, inl (two.mid, x.spells, m.spells)); same = ap₂ item {y = forget x.term} {v = forget_items m.items} x.same m.same }
