-- What is read is in the grammar and within the limits.
use Rattle.std.proofs.Common.{◌≡◌, ℕ, zero, suc, ◌≤◌, Bool, true, false, List, [], ◌∷◌, length, refl, sym, ap, ◌∙◌, subst, subst₂, inl, inr, arith}
use Rattle.std.specs.Prelude.{Ok}
use Rattle.fr_terms.specs.Terms.{Text, Spot, Captured, Term, block_t, let_t, assign_t, read_t, borrow_t, borrow_mut_t, number_t, unit_t, box_t, print_t, arith_t, join_t, mutex_t, dup_t, lock_t, spawn_t, par_t, Items, none, item, IsBlock}
use Rattle.fr_terms.specs.Limits.{levels, levels_of, IsShort, HasShortPlaces, HaveShortPlaces}
use Rattle.fr_syntax.specs.Arena.{text_of}
use Rattle.fr_syntax.specs.declared.kind.TokenKind.{TokenKind}
use Rattle.fr_syntax.specs.declared.kind.TokenKind.TheVariants.{Name, Number, LetWord, MutWord, BoxWord, PrintWord, SpawnWord, JoinWord, ParWord, MutexWord, LockWord, DupWord, OpenBrace, CloseBrace, OpenParen, CloseParen, Semicolon, Equals, Amp, Star, Minus}
use Rattle.fr_syntax.specs.declared.token.Token.{Token}
use Rattle.fr_grammar.specs.declared.marks.Next.{Next}
use Rattle.fr_grammar.specs.declared.marks.Terminal.TheVariants as terminal
use Rattle.fr_grammar.specs.declared.marks.Next.TheVariants.{Close, LastUnit, More}
use Rattle.fr_grammar.specs.Grammar.{Has, Begins, SpellsPlace, SpellsCaptures, Spells, SpellsMore}
use Rattle.fr_grammar.specs.Reading.{◌>>=◌, Read, after_terminal, bound_at, spot_at, turned_at, borrow_kind, borrow_at, leaf_kind, leaf_at, op_at, held_at, captures_at, semicolon_at, semicolon_kind, next_kind, next_at, item_next, after_item, items_at, block_kind, block_at, rest_kind, rest_at, placed_at, arith_at, inner_kind, inner_at, body_kind, body_at, branch_at, spawn_at, par_at, lock_at, term_kind, any_kind, any_at}
use Rattle.fr_grammar.proofs.Complete.{some_levels}
use Rattle.fr_grammar.proofs.SoundParts.{bind_ok, ok, ok_parts, ok_three, after_of, bound_of, turned_of, place_of_read, op_of, held_of, captures_of, opens_block}

-- what is known of a term that was read with so many levels left
pub record IsRead (names : List Text) (d : ℕ) (b : Bool) (x : Term) (ts rest : List Token) : Type 0 where
  pub spells : Spells names b x ts rest
  pub deep : levels x ≤ d
  pub short : HasShortPlaces x

-- all that a reader reads is so
abbrev pub Sound : List Text → ℕ → Bool → (List Token → Read Term) → Type 0
Sound names d b read = (ts : List Token) (x : Term) (rest : List Token) → read ts ≡ Ok (x, rest) → IsRead names d b x ts rest

-- the same of items behind an item
record AreRead (names : List Text) (d : ℕ) (more : Items) (ts rest : List Token) : Type 0 where
  spells : SpellsMore names more ts rest
  deep : levels_of more ≤ d
  short : HaveShortPlaces more

-- an item and those behind it
record Row (names : List Text) (d : ℕ) (items : Items) (ts rest : List Token) : Type 0 where
  first : Term
  more : Items
  after : List Token
  is : items ≡ item first more
  head : IsRead names d true first ts after
  tail : AreRead names d more after rest

-- a block of the items that were read
abbrev as_block : ℕ → Read Items → Read Term
as_block place r = r >>= λ x. Ok (block_t place x.0, x.1)

-- a `let` of the name that was read
abbrev as_let : List Text → (List Token → Read Term) → ℕ → Read ℕ → Read Term
as_let names read_term place r = r >>= λ b. read_term b.1 >>= λ x. Ok (let_t place (text_of names b.0) x.0, x.1)

-- a term made of the term that was read
abbrev as_made : (Term → Term) → Read Term → Read Term
as_made make r = r >>= λ y. Ok (make y.0, y.1)

-- what is known of an answer is known of an equal one
from_ok : (names : List Text) (d : ℕ) (b : Bool) (a x : Term) (ts r rest : List Token) → ok {X = Term × List Token} (a, r) ≡ ok {X = Term × List Token} (x, rest) → IsRead names d b a ts r → IsRead names d b x ts rest
from_ok names d b a x ts r rest e h = let p = ok_parts a x r rest e in subst₂ (λ x rest. IsRead names d b x ts rest) p.0 p.1 h

module _ (names : List Text) (d : ℕ) (read_item read_term : List Token → Read Term) (item_sound : Sound names d true read_item) (term_sound : Sound names d false read_term) where
  -- behind a place
  rest_sound : (b : Bool) (w : Spot) (ts a : List Token) (x : Term) (rest : List Token) → SpellsPlace names w ts a → IsShort w → rest_at read_term w a ≡ Ok (x, rest) → IsRead names (suc d) b x ts rest
  unfolding rest_at
  rest_sound b w ts [] x rest place few e =
      from_ok names (suc d) b (read_t w.at w) x ts [] rest e (record { spells = (refl, place); deep = omega arith; short = few })
  rest_sound b w ts (u ∷ us) x rest place few e = by u.kind refl e
    where
      by : (k : TokenKind) → u.kind ≡ k → rest_kind read_term w k us (u ∷ us) ≡ Ok (x, rest) → IsRead names (suc d) b x ts rest
      by Equals is e =
          let s = bind_ok (read_term us) (λ y. Ok (assign_t w.at w y.0, y.1)) (x, rest) e in
          let h = term_sound us s.0.0 s.0.1 s.1 in
          from_ok names (suc d) b (assign_t w.at w s.0.0) x ts s.0.1 rest s.2
          (record { spells = (u ∷ us, us, refl, place, (is, refl), h.spells); deep = omega (arith, h.deep); short = (few, h.short) })
      by k is e = from_ok names (suc d) b (read_t w.at w) x ts (u ∷ us) rest e (record { spells = (refl, place); deep = omega arith; short = few })

  -- an assignment or a read
  place_sound : (b : Bool) (ts : List Token) (x : Term) (rest : List Token) → placed_at names read_term ts ≡ Ok (x, rest) → IsRead names (suc d) b x ts rest
  unfolding placed_at
  place_sound b ts x rest e =
      let s = bind_ok (spot_at names ts) (λ w. rest_at read_term w.0 w.1) (x, rest) e in
      let h = place_of_read names s.0.0 ts s.0.1 s.1 in
      rest_sound b s.0.0 ts s.0.1 x rest h.0 h.1 s.2

  -- a borrow, behind its mark
  borrow_sound : (b : Bool) (t : Token) (ts : List Token) (x : Term) (rest : List Token) → t.kind ≡ Amp → borrow_at names t.start ts ≡ Ok (x, rest) → IsRead names (suc d) b x (t ∷ ts) rest
  unfolding borrow_at
  borrow_sound b t [] x rest is e = cc
  borrow_sound b t (u ∷ us) x rest is e = by u.kind refl e
    where
      by : (k : TokenKind) → u.kind ≡ k → borrow_kind names t.start k us (u ∷ us) ≡ Ok (x, rest) → IsRead names (suc d) b x (t ∷ u ∷ us) rest
      by MutWord eq e =
          let s = bind_ok (spot_at names us) (λ w. Ok (borrow_mut_t t.start w.0, w.1)) (x, rest) e in
          let h = place_of_read names s.0.0 us s.0.1 s.1 in
          from_ok names (suc d) b (borrow_mut_t t.start s.0.0) x (t ∷ u ∷ us) s.0.1 rest s.2
          (record { spells = (u ∷ us, us, ((is, refl), refl), (eq, refl), h.0); deep = omega arith; short = h.1 })
      by k eq e =
          let s = bind_ok (spot_at names (u ∷ us)) (λ w. Ok (borrow_t t.start w.0, w.1)) (x, rest) e in
          let h = place_of_read names s.0.0 (u ∷ us) s.0.1 s.1 in
          from_ok names (suc d) b (borrow_t t.start s.0.0) x (t ∷ u ∷ us) s.0.1 rest s.2
          (record { spells = (u ∷ us, ((is, refl), refl), h.0); deep = omega arith; short = h.1 })

  -- a term without a term inside
  leaf_sound : (b : Bool) (t : Token) (ts : List Token) (x : Term) (rest : List Token) → leaf_kind names t.kind t.start ts ≡ Ok (x, rest) → IsRead names (suc d) b x (t ∷ ts) rest
  leaf_sound b t ts x rest e = by t.kind refl e
    where
      by : (k : TokenKind) → t.kind ≡ k → leaf_kind names k t.start ts ≡ Ok (x, rest) → IsRead names (suc d) b x (t ∷ ts) rest
      by (Number value) is e =
          from_ok names (suc d) b (number_t t.start value) x (t ∷ ts) ts rest e (record { spells = inl ((is, refl), refl); deep = omega arith; short = tt })
      by Minus is e =
          let s = bind_ok (turned_at ts) (λ y. Ok (number_t t.start y.0, y.1)) (x, rest) e in
          let h = turned_of s.0.0 ts s.0.1 s.1 in
          from_ok names (suc d) b (number_t t.start s.0.0) x (t ∷ ts) s.0.1 rest s.2
          (record { spells = inr (ts, h.0, ((is, refl), refl), h.1, h.2); deep = omega arith; short = tt })
      by DupWord is e =
          let s = bind_ok (spot_at names ts) (λ w. Ok (dup_t t.start w.0, w.1)) (x, rest) e in
          let h = place_of_read names s.0.0 ts s.0.1 s.1 in
          from_ok names (suc d) b (dup_t t.start s.0.0) x (t ∷ ts) s.0.1 rest s.2
          (record { spells = (ts, ((is, refl), refl), h.0); deep = omega arith; short = h.1 })
      by Amp is e = borrow_sound b t ts x rest is e
      by k is e = cc

  -- what stands behind an item
  abbrev Follows : Next → List Token → List Token → Type 0
  Follows Close ts rest = Has CloseBrace ts rest
  Follows (LastUnit place) ts rest = (a : List Token) × Has Semicolon ts a × Begins CloseBrace place a rest
  Follows More ts rest = Has Semicolon ts rest

  -- behind a semicolon
  semicolon_sound : (t : Token) (ts : List Token) (n : Next) (rest : List Token) → t.kind ≡ Semicolon → semicolon_at ts ≡ Ok (n, rest) → Follows n (t ∷ ts) rest
  semicolon_sound t [] n rest is e = let p = ok_parts More n [] rest e in subst₂ (λ n rest. Follows n (t ∷ []) rest) p.0 p.1 (is, refl)
  semicolon_sound t (u ∷ us) n rest is e = by u.kind refl e
    where
      by : (k : TokenKind) → u.kind ≡ k → semicolon_kind k u.start us (u ∷ us) ≡ Ok (n, rest) → Follows n (t ∷ u ∷ us) rest
      by CloseBrace eq e = let p = ok_parts (LastUnit u.start) n us rest e in subst₂ (λ n rest. Follows n (t ∷ u ∷ us) rest) p.0 p.1 (u ∷ us, (is, refl), ((eq, refl), refl))
      by k eq e = let p = ok_parts More n (u ∷ us) rest e in subst₂ (λ n rest. Follows n (t ∷ u ∷ us) rest) p.0 p.1 (is, refl)

  -- what was read behind an item stands there
  next_sound : (ts : List Token) (n : Next) (rest : List Token) → next_at ts ≡ Ok (n, rest) → Follows n ts rest
  unfolding next_at
  next_sound [] n rest e = cc
  next_sound (t ∷ ts) n rest e = by t.kind refl e
    where
      by : (k : TokenKind) → t.kind ≡ k → next_kind k t.start ts ≡ Ok (n, rest) → Follows n (t ∷ ts) rest
      by CloseBrace is e = let p = ok_parts Close n ts rest e in subst₂ (λ n rest. Follows n (t ∷ ts) rest) p.0 p.1 (is, refl)
      by Semicolon is e = semicolon_sound t ts n rest is e
      by k is e = cc

  -- so many items at most are read as a row
  abbrev RowsSound : ℕ → Type 0
  RowsSound n = (ts : List Token) (items : Items) (rest : List Token) → items_at read_item n ts ≡ Ok (items, rest) → Row names d items ts rest

  -- an item and the items of an equal answer
  row_of : (first : Term) (more : Items) (items : Items) (ts a r rest : List Token) → IsRead names d true first ts a → ok {X = Items × List Token} (item first more, r) ≡ ok {X = Items × List Token} (items, rest) → AreRead names d more a r → Row names d items ts rest
  row_of first more items ts a r rest head e tail =
      let p = ok_parts (item first more) items r rest e in
      record { first = first; more = more; after = a; is = sym p.0; head = head; tail = subst (AreRead names d more a) p.1 tail }

  -- an item, and then as what stands behind it says
  row_after : (n : ℕ) → RowsSound n → (first : Term) (next : Next) (ts a r : List Token) (items : Items) (rest : List Token) → IsRead names d true first ts a → Follows next a r → after_item (items_at read_item n) first next r ≡ Ok (items, rest) → Row names d items ts rest
  row_after n ih first Close ts a r items rest head fol e =
      row_of first none items ts a r rest head e (record { spells = fol; deep = omega arith; short = tt })
  row_after n ih first (LastUnit place) ts a r items rest head (b, semi, close) e =
      let some : 1 ≤ d = omega (arith, head.deep, some_levels first) in
      row_of first (item (unit_t place) none) items ts a r rest head e
      (record { spells = (b, semi, inr (place, refl, refl, close)); deep = omega arith; short = (tt, tt) })
  row_after n ih first More ts a r items rest head fol e =
      let s = bind_ok (items_at read_item n r) (λ y. Ok (item first y.0, y.1)) (items, rest) e in
      let row = ih r s.0.0 s.0.1 s.1 in
      let p = ok_parts (item first s.0.0) items s.0.1 rest s.2 in
      let both = ap (λ m. ok {X = Items × List Token} (item first m, s.0.1)) (sym row.is) ∙ s.2 in
      row_of first (item row.first row.more) items ts a s.0.1 rest head both
      (record {
        spells = (r, fol, inl (row.after, row.head.spells, row.tail.spells));
        deep = omega (arith, row.head.deep, row.tail.deep);
        short = (row.head.short, row.tail.short);
      })

  -- an item that was read, and what was read behind it
  both_of : (ts : List Token) (first : Term) (next : Next) (r : List Token) → item_next read_item ts ≡ Ok (first, next, r) → (a : List Token) × (read_item ts ≡ Ok (first, a)) × (next_at a ≡ Ok (next, r))
  unfolding item_next
  both_of ts first next r e =
      let s = bind_ok (read_item ts) (λ x. next_at x.1 >>= λ y. Ok (x.0, y.0, y.1)) (first, next, r) e in
      let u = bind_ok (next_at s.0.1) (λ y. Ok (s.0.0, y.0, y.1)) (first, next, r) s.2 in
      let p = ok_three s.0.0 first u.0.0 next u.0.1 r u.2 in
      (s.0.1, s.1 ∙ ap (λ x. ok {X = Term × List Token} (x, s.0.1)) p.0, u.1 ∙ ap (λ n. ok {X = Next × List Token} (n, u.0.1)) p.1 ∙ ap (λ r. ok {X = Next × List Token} (next, r)) p.2)

  -- the items of a block are read as a row
  rows_sound : (n : ℕ) → RowsSound n
  unfolding items_at
  rows_sound zero ts items rest e = cc
  rows_sound (suc n) ts items rest e =
      let s = bind_ok (item_next read_item ts) (λ x. after_item (items_at read_item n) x.0 x.1 x.2) (items, rest) e in
      let c = both_of ts s.0.0 s.0.1 s.0.2 s.1 in
      row_after n (rows_sound n) s.0.0 s.0.1 ts c.0 s.0.2 items rest (item_sound ts s.0.0 c.0 c.1) (next_sound c.0 s.0.1 s.0.2 c.2) s.2

  -- a block
  block_sound : (b : Bool) (t : Token) (ts : List Token) (x : Term) (rest : List Token) → t.kind ≡ OpenBrace → block_at read_item t.start ts ≡ Ok (x, rest) → IsRead names (suc d) b x (t ∷ ts) rest
  unfolding block_at
  block_sound b t ts x rest is e = by ts e
    where
      some : (n : ℕ) (ts : List Token) → as_block t.start (items_at read_item n ts) ≡ Ok (x, rest) → IsRead names (suc d) b x (t ∷ ts) rest
      some n ts e =
          let s = bind_ok (items_at read_item n ts) (λ y. Ok (block_t t.start y.0, y.1)) (x, rest) e in
          let row = rows_sound n ts s.0.0 s.0.1 s.1 in
          let both = ap (λ m. ok {X = Term × List Token} (block_t t.start m, s.0.1)) (sym row.is) ∙ s.2 in
          from_ok names (suc d) b (block_t t.start (item row.first row.more)) x (t ∷ ts) s.0.1 rest both
          (record {
            spells = (ts, ((is, refl), refl), (row.after, row.head.spells, row.tail.spells));
            deep = omega (arith, row.head.deep, row.tail.deep);
            short = (row.head.short, row.tail.short);
          })

      at_kind : (u : Token) (us : List Token) (k : TokenKind) → u.kind ≡ k → block_kind read_item t.start k us (u ∷ us) ≡ Ok (x, rest) → IsRead names (suc d) b x (t ∷ u ∷ us) rest
      at_kind u us CloseBrace eq e =
          from_ok names (suc d) b (block_t t.start none) x (t ∷ u ∷ us) us rest e (record { spells = (u ∷ us, ((is, refl), refl), (eq, refl)); deep = omega arith; short = tt })
      at_kind u us k eq e = some (suc (length (u ∷ us))) (u ∷ us) e

      by : (ts : List Token) → block_at read_item t.start ts ≡ Ok (x, rest) → IsRead names (suc d) b x (t ∷ ts) rest
      by [] e = some 1 [] e
      by (u ∷ us) e = at_kind u us u.kind refl e

  -- a `let`
  let_sound : (b : Bool) (t : Token) (ts : List Token) (x : Term) (rest : List Token) → b ≡ true → t.kind ≡ LetWord → as_let names read_term t.start (bound_at ts) ≡ Ok (x, rest) → IsRead names (suc d) b x (t ∷ ts) rest
  let_sound b t ts x rest may is e =
      let s = bind_ok (bound_at ts) (λ b. read_term b.1 >>= λ x. Ok (let_t t.start (text_of names b.0) x.0, x.1)) (x, rest) e in
      let v = bind_ok (read_term s.0.1) (λ x. Ok (let_t t.start (text_of names s.0.0) x.0, x.1)) (x, rest) s.2 in
      let w = bound_of s.0.0 ts s.0.1 s.1 in
      let h = term_sound s.0.1 v.0.0 v.0.1 v.1 in
      from_ok names (suc d) b (let_t t.start (text_of names s.0.0) v.0.0) x (t ∷ ts) v.0.1 rest v.2
      (record {
        spells = (ts, w.after_mut, w.after_name, s.0.1, may, ((is, refl), refl), w.mut, (s.0.0, refl, w.named), w.equals, h.spells);
        deep = omega (arith, h.deep);
        short = h.short;
      })

  -- a sum, difference or product
  arith_sound : (b : Bool) (t : Token) (ts : List Token) (x : Term) (rest : List Token) → t.kind ≡ OpenParen → arith_at read_term t.start ts ≡ Ok (x, rest) → IsRead names (suc d) b x (t ∷ ts) rest
  unfolding arith_at
  arith_sound b t ts x rest is e =
      let one = bind_ok (read_term ts) (λ a. op_at a.1 >>= λ op. read_term op.1 >>= λ b. after_terminal terminal.Close b.1 >>= λ rest. Ok (arith_t t.start op.0 a.0 b.0, rest)) (x, rest) e in
      let left = one.0.0 in
      let mark = bind_ok (op_at one.0.1) (λ op. read_term op.1 >>= λ b. after_terminal terminal.Close b.1 >>= λ rest. Ok (arith_t t.start op.0 left b.0, rest)) (x, rest) one.2 in
      let op = mark.0.0 in
      let two = bind_ok (read_term mark.0.1) (λ b. after_terminal terminal.Close b.1 >>= λ rest. Ok (arith_t t.start op left b.0, rest)) (x, rest) mark.2 in
      let right = two.0.0 in
      let close = bind_ok (after_terminal terminal.Close two.0.1) (λ rest. Ok (arith_t t.start op left right, rest)) (x, rest) two.2 in
      let h = term_sound ts left one.0.1 one.1 in
      let k = term_sound mark.0.1 right two.0.1 two.1 in
      from_ok names (suc d) b (arith_t t.start op left right) x (t ∷ ts) close.0 rest close.2
      (record {
        spells = (ts, one.0.1, mark.0.1, two.0.1, ((is, refl), refl), h.spells, op_of op one.0.1 mark.0.1 mark.1, k.spells, after_of terminal.Close two.0.1 close.0 close.1);
        deep = omega (arith, h.deep, k.deep);
        short = (h.short, k.short);
      })

  -- the constant unit, or else arithmetic
  inner_sound : (b : Bool) (t : Token) (ts : List Token) (x : Term) (rest : List Token) → t.kind ≡ OpenParen → inner_at read_term t.start ts ≡ Ok (x, rest) → IsRead names (suc d) b x (t ∷ ts) rest
  unfolding inner_at
  inner_sound b t [] x rest is e = arith_sound b t [] x rest is e
  inner_sound b t (u ∷ us) x rest is e = by u.kind refl e
    where
      by : (k : TokenKind) → u.kind ≡ k → inner_kind read_term t.start k us (u ∷ us) ≡ Ok (x, rest) → IsRead names (suc d) b x (t ∷ u ∷ us) rest
      by CloseParen eq e =
          from_ok names (suc d) b (unit_t t.start) x (t ∷ u ∷ us) us rest e (record { spells = (u ∷ us, ((is, refl), refl), (eq, refl)); deep = omega arith; short = tt })
      by k eq e = arith_sound b t (u ∷ us) x rest is e

  -- a body is a block
  pub body_sound : (ts : List Token) (x : Term) (rest : List Token) → body_at read_term ts ≡ Ok (x, rest) → IsBlock x × IsRead names d false x ts rest
  unfolding body_at
  body_sound [] x rest e = cc
  body_sound (t ∷ ts) x rest e = by t.kind refl e
    where
      by : (k : TokenKind) → t.kind ≡ k → body_kind read_term k t.start (t ∷ ts) ≡ Ok (x, rest) → IsBlock x × IsRead names d false x (t ∷ ts) rest
      by OpenBrace is e = let h = term_sound (t ∷ ts) x rest e in (opens_block names false x t ts rest is h.spells, h)
      by k is e = cc

  -- what a new thread captures, and its body
  record IsBranch (captures : List Captured) (body : Term) (ts rest : List Token) : Type 0 where
    after : List Token
    listed : SpellsCaptures names captures ts after
    block : IsBlock body
    is_read : IsRead names d false body after rest

  -- they stand where they were read
  branch_sound : (ts : List Token) (captures : List Captured) (body : Term) (rest : List Token) → branch_at names read_term ts ≡ Ok (captures, body, rest) → IsBranch captures body ts rest
  unfolding branch_at
  branch_sound ts captures body rest e =
      let s = bind_ok (captures_at names ts) (λ c. body_at read_term c.1 >>= λ b. Ok (c.0, b.0, b.1)) (captures, body, rest) e in
      let u = bind_ok (body_at read_term s.0.1) (λ b. Ok (s.0.0, b.0, b.1)) (captures, body, rest) s.2 in
      let p = ok_three s.0.0 captures u.0.0 body u.0.1 rest u.2 in
      let h = body_sound s.0.1 body rest (u.1 ∙ ap (λ y. ok {X = Term × List Token} (y, u.0.1)) p.1 ∙ ap (λ r. ok {X = Term × List Token} (body, r)) p.2) in
      record { after = s.0.1; listed = captures_of names captures ts s.0.1 (s.1 ∙ ap (λ c. ok {X = List Captured × List Token} (c, s.0.1)) p.0); block = h.0; is_read = h.1 }

  -- one new thread
  spawn_sound : (b : Bool) (t : Token) (ts : List Token) (x : Term) (rest : List Token) → t.kind ≡ SpawnWord → spawn_at names read_term t.start ts ≡ Ok (x, rest) → IsRead names (suc d) b x (t ∷ ts) rest
  unfolding spawn_at
  spawn_sound b t ts x rest is e =
      let s = bind_ok (branch_at names read_term ts) (λ y. Ok (spawn_t t.start y.0 y.1, y.2)) (x, rest) e in
      let h = branch_sound ts s.0.0 s.0.1 s.0.2 s.1 in
      from_ok names (suc d) b (spawn_t t.start s.0.0 s.0.1) x (t ∷ ts) s.0.2 rest s.2
      (record { spells = (ts, h.after, ((is, refl), refl), h.listed, h.block, h.is_read.spells); deep = omega (arith, h.is_read.deep); short = h.is_read.short })

  -- two new threads
  par_sound : (b : Bool) (t : Token) (ts : List Token) (x : Term) (rest : List Token) → t.kind ≡ ParWord → par_at names read_term t.start ts ≡ Ok (x, rest) → IsRead names (suc d) b x (t ∷ ts) rest
  unfolding par_at
  par_sound b t ts x rest is e =
      let s = bind_ok (branch_at names read_term ts) (λ x. branch_at names read_term x.2 >>= λ y. Ok (par_t t.start x.0 x.1 y.0 y.1, y.2)) (x, rest) e in
      let u = bind_ok (branch_at names read_term s.0.2) (λ y. Ok (par_t t.start s.0.0 s.0.1 y.0 y.1, y.2)) (x, rest) s.2 in
      let h = branch_sound ts s.0.0 s.0.1 s.0.2 s.1 in
      let k = branch_sound s.0.2 u.0.0 u.0.1 u.0.2 u.1 in
      from_ok names (suc d) b (par_t t.start s.0.0 s.0.1 u.0.0 u.0.1) x (t ∷ ts) u.0.2 rest u.2
      (record {
        spells = (ts, h.after, s.0.2, k.after, ((is, refl), refl), h.listed, h.block, h.is_read.spells, k.listed, k.block, k.is_read.spells);
        deep = omega (arith, h.is_read.deep, k.is_read.deep);
        short = (h.is_read.short, k.is_read.short);
      })

  -- the content of a mutex under a name
  lock_sound : (b : Bool) (t : Token) (ts : List Token) (x : Term) (rest : List Token) → t.kind ≡ LockWord → lock_at names read_term t.start ts ≡ Ok (x, rest) → IsRead names (suc d) b x (t ∷ ts) rest
  unfolding lock_at
  lock_sound b t ts x rest is e =
      let s = bind_ok (spot_at names ts) (λ w. held_at w.1 >>= λ x. body_at read_term x.1 >>= λ b. Ok (lock_t t.start w.0 (text_of names x.0) b.0, b.1)) (x, rest) e in
      let u = bind_ok (held_at s.0.1) (λ x. body_at read_term x.1 >>= λ b. Ok (lock_t t.start s.0.0 (text_of names x.0) b.0, b.1)) (x, rest) s.2 in
      let v = bind_ok (body_at read_term u.0.1) (λ b. Ok (lock_t t.start s.0.0 (text_of names u.0.0) b.0, b.1)) (x, rest) u.2 in
      let place = place_of_read names s.0.0 ts s.0.1 s.1 in
      let held = held_of u.0.0 s.0.1 u.0.1 u.1 in
      let h = body_sound u.0.1 v.0.0 v.0.1 v.1 in
      from_ok names (suc d) b (lock_t t.start s.0.0 (text_of names u.0.0) v.0.0) x (t ∷ ts) v.0.1 rest v.2
      (record {
        spells = (ts, s.0.1, held.0, u.0.1, ((is, refl), refl), place.0, held.1, (u.0.0, refl, held.2), h.0, h.1.spells);
        deep = omega (arith, h.1.deep);
        short = (place.1, h.1.short);
      })

  -- a word and then a term, of which this is made
  under_sound : (b : Bool) (make : Term → Term) (t : Token) (ts : List Token) (x : Term) (rest : List Token) → ((v : Term) (r : List Token) → IsRead names d false v ts r → IsRead names (suc d) b (make v) (t ∷ ts) r) → as_made make (read_term ts) ≡ Ok (x, rest) → IsRead names (suc d) b x (t ∷ ts) rest
  under_sound b make t ts x rest made e =
      let s = bind_ok (read_term ts) (λ y. Ok (make y.0, y.1)) (x, rest) e in
      from_ok names (suc d) b (make s.0.0) x (t ∷ ts) s.0.1 rest s.2 (made s.0.0 s.0.1 (term_sound ts s.0.0 s.0.1 s.1))

  -- a term by its first token
  term_sound_by : (b : Bool) (t : Token) (ts : List Token) (x : Term) (rest : List Token) → term_kind names read_item read_term t.kind t.start ts (t ∷ ts) ≡ Ok (x, rest) → IsRead names (suc d) b x (t ∷ ts) rest
  unfolding leaf_at
  term_sound_by b t ts x rest e = by t.kind refl e
    where
      by : (k : TokenKind) → t.kind ≡ k → term_kind names read_item read_term k t.start ts (t ∷ ts) ≡ Ok (x, rest) → IsRead names (suc d) b x (t ∷ ts) rest
      by OpenBrace is e = block_sound b t ts x rest is e
      by BoxWord is e = under_sound b (box_t t.start) t ts x rest (λ v r h. record { spells = (ts, ((is, refl), refl), h.spells); deep = omega (arith, h.deep); short = h.short }) e
      by PrintWord is e = under_sound b (print_t t.start) t ts x rest (λ v r h. record { spells = (ts, ((is, refl), refl), h.spells); deep = omega (arith, h.deep); short = h.short }) e
      by JoinWord is e = under_sound b (join_t t.start) t ts x rest (λ v r h. record { spells = (ts, ((is, refl), refl), h.spells); deep = omega (arith, h.deep); short = h.short }) e
      by MutexWord is e = under_sound b (mutex_t t.start) t ts x rest (λ v r h. record { spells = (ts, ((is, refl), refl), h.spells); deep = omega (arith, h.deep); short = h.short }) e
      by (Name n) is e = place_sound b (t ∷ ts) x rest e
      by Star is e = place_sound b (t ∷ ts) x rest e
      by OpenParen is e = inner_sound b t ts x rest is e
      by SpawnWord is e = spawn_sound b t ts x rest is e
      by ParWord is e = par_sound b t ts x rest is e
      by LockWord is e = lock_sound b t ts x rest is e
      by k is e = leaf_sound b t ts x rest e

  -- an item or a term by its first token
  any_sound_by : (b : Bool) (t : Token) (ts : List Token) (x : Term) (rest : List Token) → any_kind b names read_item read_term t.kind t.start ts (t ∷ ts) ≡ Ok (x, rest) → IsRead names (suc d) b x (t ∷ ts) rest
  any_sound_by false t ts x rest e = term_sound_by false t ts x rest e
  any_sound_by true t ts x rest e = by t.kind refl e
    where
      by : (k : TokenKind) → t.kind ≡ k → any_kind true names read_item read_term k t.start ts (t ∷ ts) ≡ Ok (x, rest) → IsRead names (suc d) true x (t ∷ ts) rest
      by LetWord is e = let_sound true t ts x rest refl is e
      by k is e = term_sound_by true t ts x rest (ap (λ k. term_kind names read_item read_term k t.start ts (t ∷ ts)) is ∙ e)

-- all that is read is in the grammar and within the levels
pub sound : (names : List Text) (d : ℕ) (b : Bool) → Sound names d b (any_at names d b)
unfolding any_at
sound names zero b ts x rest e = cc
sound names (suc d) b [] x rest e = cc
sound names (suc d) b (t ∷ ts) x rest e = any_sound_by names d (any_at names d true) (any_at names d false) (sound names d true) (sound names d false) b t ts x rest e
