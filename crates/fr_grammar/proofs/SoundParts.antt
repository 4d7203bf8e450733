-- What was read stands in the tokens: marks, names, places, capture lists and leaves.
use Rattle.std.proofs.Common.{◌≡◌, ℕ, zero, suc, ◌+◌, ◌≤◌, ℤ, neg_ℤ, Bool, true, false, cond, List, [], ◌∷◌, length, drop, nat_le, refl, sym, ap, ◌∙◌, subst, subst₂, inl, inr, arith}
use Rattle.std.proofs.lemmas.Bool.{leb-true}
use Rattle.std.specs.Prelude.{Result, Ok, Err}
use Rattle.fr_base.specs.declared.place.Op.{Op}
use Rattle.fr_base.specs.declared.place.Op.TheVariants.{Add, Sub, Mul}
use Rattle.fr_terms.specs.Terms.{Text, Spot, Captured, Term, block_t, let_t, assign_t, read_t, borrow_t, borrow_mut_t, number_t, unit_t, box_t, print_t, arith_t, join_t, mutex_t, dup_t, lock_t, spawn_t, par_t, IsBlock}
use Rattle.fr_terms.specs.Limits.{IsShort}
use Rattle.fr_syntax.specs.Arena.{text_of}
use Rattle.fr_syntax.specs.declared.kind.TokenKind.{TokenKind}
use Rattle.fr_syntax.specs.declared.kind.TokenKind.TheVariants.{Name, Number, MutWord, AsWord, OpenBrace, CloseParen, Comma, Equals, Star, Plus, Minus}
use Rattle.fr_syntax.specs.declared.token.Token.{Token}
use Rattle.fr_grammar.specs.declared.fault.ParseError.{ParseError}
use Rattle.fr_grammar.specs.declared.fault.ParseError.TheVariants.{Syntax, TooDeep}
use Rattle.fr_grammar.specs.declared.marks.Terminal.{Terminal}
use Rattle.fr_grammar.specs.declared.marks.Terminal.TheVariants as terminal
use Rattle.fr_grammar.specs.Grammar.{Has, IsAt, SpellsName, SpellsPath, SpellsPlace, SpellsOthers, SpellsNames, SpellsCaptures, mark_of_op, Spells}
use Rattle.fr_grammar.specs.Reading.{◌>>=◌, Read, place_of, is_terminal, after_terminal, name_kind, name_at, bound_at, is_star, stars_of, spot_at, turned_kind, turned_at, op_kind, op_at, held_at, comma_kind, comma_at, capture_at, capture_next, after_capture, captured_at, list_kind, list_at, captures_at}
use Rattle.fr_grammar.proofs.ReadingSteps.{kind_of, only_kind}

-- a step that went on had something to go on with
pub bind_ok : {A B : Type 0} (r : Result A ParseError) (f : A → Result B ParseError) (y : B) → (r >>= f) ≡ Ok y → (x : A) × (r ≡ Ok x) × (f x ≡ Ok y)
bind_ok (Ok x) f y e = (x, refl, e)
bind_ok (Err d) f y e = cc

-- the parts of what was read, or else these
first_of_ok : {A B : Type 0} → A → Result (A × B) ParseError → A
first_of_ok d (Ok p) = p.0
first_of_ok d (Err e) = d

-- and the second
second_of_ok : {A B : Type 0} → B → Result (A × B) ParseError → B
second_of_ok d (Ok p) = p.1
second_of_ok d (Err e) = d

-- an answer that is no fault
abbrev pub ok : {X : Type 0} → X → Result X ParseError
ok x = Ok x

-- equal answers have equal parts
pub ok_parts : {A B : Type 0} (a c : A) (b d : B) → ok {X = A × B} (a, b) ≡ ok {X = A × B} (c, d) → (a ≡ c) × (b ≡ d)
unfolding first_of_ok second_of_ok
ok_parts a c b d e = (ap (first_of_ok a) e, ap (second_of_ok b) e)

-- of three the third
third_of_ok : {A B C : Type 0} → C → Result (A × B × C) ParseError → C
third_of_ok d (Ok p) = p.2
third_of_ok d (Err e) = d

-- the second
middle_of_ok : {A B C : Type 0} → B → Result (A × B × C) ParseError → B
middle_of_ok d (Ok p) = p.1
middle_of_ok d (Err e) = d

-- the first
head_of_ok : {A B C : Type 0} → A → Result (A × B × C) ParseError → A
head_of_ok d (Ok p) = p.0
head_of_ok d (Err e) = d

-- also of three
pub ok_three : {A B C : Type 0} (a x : A) (b y : B) (c z : C) → ok {X = A × B × C} (a, b, c) ≡ ok {X = A × B × C} (x, y, z) → (a ≡ x) × (b ≡ y) × (c ≡ z)
unfolding head_of_ok middle_of_ok third_of_ok
ok_three a x b y c z e = (ap (head_of_ok a) e, ap (middle_of_ok b) e, ap (third_of_ok c) e)

-- one token
pub after_of : (expected : Terminal) (ts rest : List Token) → after_terminal expected ts ≡ Ok rest → Has (kind_of expected) ts rest
unfolding after_terminal
after_of expected [] rest e = cc
after_of expected (t ∷ ts) rest e = by (is_terminal expected t.kind) refl e
  where
    by : (b : Bool) → is_terminal expected t.kind ≡ b → cond b (Ok ts) (Err (Syntax t.start)) ≡ Ok rest → Has (kind_of expected) (t ∷ ts) rest
    by true is e = let same : ts ≡ rest = cc in (only_kind expected t.kind is, same)
    by false is e = cc

-- a name
name_of : (n : ℕ) (ts rest : List Token) → name_at ts ≡ Ok (n, rest) → Has (Name n) ts rest
unfolding name_at
name_of n [] rest e = cc
name_of n (t ∷ ts) rest e = by t.kind refl e
  where
    by : (k : TokenKind) → t.kind ≡ k → name_kind k t.start ts ≡ Ok (n, rest) → Has (Name n) (t ∷ ts) rest
    by (Name m) is e = let p = ok_parts m n ts rest e in (is ∙ ap Name p.0, p.1)
    by k is e = cc

-- the tokens of a `let` before its term
pub record IsBound (n : ℕ) (ts rest : List Token) : Type 0 where
  pub after_mut : List Token
  pub after_name : List Token
  pub mut : Has MutWord ts after_mut
  pub named : Has (Name n) after_mut after_name
  pub equals : Has Equals after_name rest

-- what was read of a `let` are such tokens
pub bound_of : (n : ℕ) (ts rest : List Token) → bound_at ts ≡ Ok (n, rest) → IsBound n ts rest
unfolding bound_at
bound_of n ts rest e =
    let p = bind_ok (after_terminal terminal.Mut ts) (λ a. name_at a >>= λ b. after_terminal terminal.Equals b.1 >>= λ c. Ok (b.0, c)) (n, rest) e in
    let q = bind_ok (name_at p.0) (λ b. after_terminal terminal.Equals b.1 >>= λ c. Ok (b.0, c)) (n, rest) p.2 in
    let r = bind_ok (after_terminal terminal.Equals q.0.1) (λ c. Ok (q.0.0, c)) (n, rest) q.2 in
    let same = ok_parts q.0.0 n r.0 rest r.2 in
    let named : name_at p.0 ≡ Ok (n, q.0.1) = q.1 ∙ ap (λ n. ok {X = ℕ × List Token} (n, q.0.1)) same.0 in
    record {
      after_mut = p.0;
      after_name = q.0.1;
      mut = after_of terminal.Mut ts p.0 p.1;
      named = name_of n p.0 q.0.1 named;
      equals = after_of terminal.Equals q.0.1 rest (r.1 ∙ ap (λ r. ok r) same.1);
    }

-- a number that is turned round
pub turned_of : (value : ℤ) (ts rest : List Token) → turned_at ts ≡ Ok (value, rest) → (size : ℤ) × Has (Number size) ts rest × (value ≡ neg_ℤ size)
unfolding turned_at
turned_of value [] rest e = cc
turned_of value (t ∷ ts) rest e = by t.kind refl e
  where
    by : (k : TokenKind) → t.kind ≡ k → turned_kind k t.start ts ≡ Ok (value, rest) → (size : ℤ) × Has (Number size) (t ∷ ts) rest × (value ≡ neg_ℤ size)
    by (Number size) is e = let p = ok_parts (neg_ℤ size) value ts rest e in (size, (is, p.1), sym p.0)
    by k is e = cc

-- what the test calls a star is one
star_is : (k : TokenKind) → is_star k ≡ true → k ≡ Star
star_is Star h = refl
star_is k h = cc

-- a name behind all the stars
path_of : (names : List Text) (n k : ℕ) (ts rest : List Token) → n ≡ stars_of ts → name_at (drop n ts) ≡ Ok (k, rest) → SpellsPath names n (text_of names k) ts rest
path_of names zero k ts rest is e = (k, refl, name_of k ts rest e)
path_of names (suc n) k [] rest is e = absurd (omega arith)
path_of names (suc n) k (t ∷ ts) rest is e = by (is_star t.kind) refl is (λ more. path_of names n k ts rest more e)
  where
    by : (v : Bool) → is_star t.kind ≡ v → suc n ≡ cond v (1 + stars_of ts) 0 → (n ≡ stars_of ts → SpellsPath names n (text_of names k) ts rest) → SpellsPath names (suc n) (text_of names k) (t ∷ ts) rest
    by true star is again = (ts, (star_is t.kind star, refl), again (omega arith))
    by false star is again = absurd (omega arith)

-- a path has a first token
path_at : (names : List Text) (n : ℕ) (name : Text) (ts rest : List Token) → SpellsPath names n name ts rest → IsAt (place_of ts) ts
path_at names zero name [] rest h = h.2
path_at names (suc n) name [] rest h = h.1
path_at names n name (t ∷ ts) rest h = refl

-- what was read as a place is one, with few stars
pub place_of_read : (names : List Text) (w : Spot) (ts rest : List Token) → spot_at names ts ≡ Ok (w, rest) → SpellsPlace names w ts rest × IsShort w
unfolding spot_at
place_of_read names w ts rest e = by (nat_le (stars_of ts) 8) refl e
  where
    named : ℕ × List Token → Read Spot
    named x = Ok (record { at = place_of ts; name = text_of names x.0; stars = stars_of ts }, x.1)

    by : (v : Bool) → nat_le (stars_of ts) 8 ≡ v → cond v (name_at (drop (stars_of ts) ts) >>= named) (Err (TooDeep (place_of (drop 8 ts)))) ≡ Ok (w, rest) → SpellsPlace names w ts rest × IsShort w
    by true few e =
        let b = bind_ok (name_at (drop (stars_of ts) ts)) named (w, rest) e in
        let p = ok_parts (record { at = place_of ts; name = text_of names b.0.0; stars = stars_of ts }) w b.0.1 rest b.2 in
        let path = path_of names (stars_of ts) b.0.0 ts b.0.1 refl b.1 in
        let le : stars_of ts ≤ 8 = leb-true (stars_of ts) 8 few in
        subst₂ (λ (w : Spot) (rest : List Token). SpellsPlace names w ts rest × IsShort w) p.0 p.1 ((path_at names (stars_of ts) (text_of names b.0.0) ts b.0.1 path, path), le)
    by false few e = cc

-- the mark of an operation
pub op_of : (op : Op) (ts rest : List Token) → op_at ts ≡ Ok (op, rest) → Has (mark_of_op op) ts rest
unfolding op_at
op_of op [] rest e = cc
op_of op (t ∷ ts) rest e = by t.kind refl e
  where
    known : (made : Op) → t.kind ≡ mark_of_op made → ok {X = Op × List Token} (made, ts) ≡ ok {X = Op × List Token} (op, rest) → Has (mark_of_op op) (t ∷ ts) rest
    known made is e = let p = ok_parts made op ts rest e in (is ∙ ap mark_of_op p.0, p.1)

    by : (k : TokenKind) → t.kind ≡ k → op_kind k t.start ts ≡ Ok (op, rest) → Has (mark_of_op op) (t ∷ ts) rest
    by Plus is e = known Add is e
    by Minus is e = known Sub is e
    by Star is e = known Mul is e
    by k is e = cc

-- the name of a `lock`, behind `as`
pub held_of : (n : ℕ) (ts rest : List Token) → held_at ts ≡ Ok (n, rest) → (a : List Token) × Has AsWord ts a × Has (Name n) a rest
unfolding held_at
held_of n ts rest e =
    let p = bind_ok (after_terminal terminal.As ts) name_at (n, rest) e in
    (p.0, after_of terminal.As ts p.0 p.1, name_of n p.0 rest p.2)

-- the mark behind a captured name, by whether another comes
abbrev mark_behind : Bool → TokenKind
mark_behind true = Comma
mark_behind false = CloseParen

-- the mark that was read stands there
comma_of : (more : Bool) (ts rest : List Token) → comma_at ts ≡ Ok (more, rest) → Has (mark_behind more) ts rest
unfolding comma_at
comma_of more [] rest e = cc
comma_of more (t ∷ ts) rest e = by t.kind refl e
  where
    known : (made : Bool) → t.kind ≡ mark_behind made → ok {X = Bool × List Token} (made, ts) ≡ ok {X = Bool × List Token} (more, rest) → Has (mark_behind more) (t ∷ ts) rest
    known made is e = let p = ok_parts made more ts rest e in (is ∙ ap mark_behind p.0, p.1)

    by : (k : TokenKind) → t.kind ≡ k → comma_kind k t.start ts ≡ Ok (more, rest) → Has (mark_behind more) (t ∷ ts) rest
    by Comma is e = known true is e
    by CloseParen is e = known false is e
    by k is e = cc

-- a name has a first token
name_is_at : (n : ℕ) (ts rest : List Token) → Has (Name n) ts rest → IsAt (place_of ts) ts
name_is_at n [] rest h = h
name_is_at n (t ∷ ts) rest h = refl

-- a captured name stands where it was read
capture_of : (names : List Text) (c : Captured) (ts rest : List Token) → capture_at names ts ≡ Ok (c, rest) → IsAt c.at ts × SpellsName names c.name ts rest
unfolding capture_at
capture_of names c ts rest e =
    let s = bind_ok (name_at ts) (λ x. Ok (record { at = place_of ts; name = text_of names x.0 }, x.1)) (c, rest) e in
    let p = ok_parts (record { at = place_of ts; name = text_of names s.0.0 }) c s.0.1 rest s.2 in
    let named = name_of s.0.0 ts s.0.1 s.1 in
    subst₂ (λ (c : Captured) (rest : List Token). IsAt c.at ts × SpellsName names c.name ts rest) p.0 p.1 (name_is_at s.0.0 ts s.0.1 named, (s.0.0, refl, named))

-- a captured name and the mark behind it
record IsNext (names : List Text) (c : Captured) (more : Bool) (ts rest : List Token) : Type 0 where
  after : List Token
  place : IsAt c.at ts
  named : SpellsName names c.name ts after
  mark : Has (mark_behind more) after rest

-- they stand where they were read
next_of : (names : List Text) (c : Captured) (more : Bool) (ts rest : List Token) → capture_next names ts ≡ Ok (c, more, rest) → IsNext names c more ts rest
unfolding capture_next
next_of names c more ts rest e =
    let s = bind_ok (capture_at names ts) (λ c. comma_at c.1 >>= λ m. Ok (c.0, m.0, m.1)) (c, more, rest) e in
    let u = bind_ok (comma_at s.0.1) (λ m. Ok (s.0.0, m.0, m.1)) (c, more, rest) s.2 in
    let p = ok_three s.0.0 c u.0.0 more u.0.1 rest u.2 in
    let one = capture_of names c ts s.0.1 (s.1 ∙ ap (λ c. ok {X = Captured × List Token} (c, s.0.1)) p.0) in
    let mark = comma_of more s.0.1 rest (u.1 ∙ ap (λ m. ok {X = Bool × List Token} (m, u.0.1)) p.1 ∙ ap (λ r. ok {X = Bool × List Token} (more, r)) p.2) in
    record { after = s.0.1; place = one.0; named = one.1; mark = mark }

-- a captured name and those behind it
record IsGroup (names : List Text) (cs : List Captured) (ts rest : List Token) : Type 0 where
  first : Captured
  others : List Captured
  after : List Token
  is : cs ≡ first ∷ others
  place : IsAt first.at ts
  named : SpellsName names first.name ts after
  behind : SpellsOthers names others after rest

-- so many captured names at most are read as a group
abbrev GroupsRead : List Text → ℕ → Type 0
GroupsRead names n = (cs : List Captured) (ts rest : List Token) → captured_at names n ts ≡ Ok (cs, rest) → IsGroup names cs ts rest

-- a name, and then as the mark behind it says
group_after : (names : List Text) (n : ℕ) → GroupsRead names n → (c : Captured) (more : Bool) (ts r : List Token) (cs : List Captured) (rest : List Token) → IsNext names c more ts r → after_capture (captured_at names n) c more r ≡ Ok (cs, rest) → IsGroup names cs ts rest
group_after names n ih c false ts r cs rest h e =
    let p = ok_parts (c ∷ []) cs r rest e in
    record { first = c; others = []; after = h.after; is = sym p.0; place = h.place; named = h.named; behind = subst (Has CloseParen h.after) p.1 h.mark }
group_after names n ih c true ts r cs rest h e =
    let s = bind_ok (captured_at names n r) (λ x. Ok (c ∷ x.0, x.1)) (cs, rest) e in
    let g = ih s.0.0 r s.0.1 s.1 in
    let p = ok_parts (c ∷ s.0.0) cs s.0.1 rest s.2 in
    record {
      first = c;
      others = g.first ∷ g.others;
      after = h.after;
      is = sym p.0 ∙ ap (λ l. c ∷ l) g.is;
      place = h.place;
      named = h.named;
      behind = subst (SpellsOthers names (g.first ∷ g.others) h.after) p.1 (r, g.after, h.mark, g.place, g.named, g.behind);
    }

-- captured names are read as a group
groups_read : (names : List Text) (n : ℕ) → GroupsRead names n
unfolding captured_at
groups_read names zero cs ts rest e = cc
groups_read names (suc n) cs ts rest e =
    let s = bind_ok (capture_next names ts) (λ x. after_capture (captured_at names n) x.0 x.1 x.2) (cs, rest) e in
    group_after names n (groups_read names n) s.0.0 s.0.1 ts s.0.2 cs rest (next_of names s.0.0 s.0.1 ts s.0.2 s.1) s.2

-- the names that were read of a capture list stand there
list_of : (names : List Text) (cs : List Captured) (ts rest : List Token) → list_at names ts ≡ Ok (cs, rest) → SpellsNames names cs ts rest
unfolding list_at
list_of names cs [] rest e = cc
list_of names cs (t ∷ ts) rest e = by t.kind refl e
  where
    some : (n : ℕ) → captured_at names n (t ∷ ts) ≡ Ok (cs, rest) → SpellsNames names cs (t ∷ ts) rest
    some n e =
        let g = groups_read names n cs (t ∷ ts) rest e in
        subst (λ cs. SpellsNames names cs (t ∷ ts) rest) (sym g.is) (g.after, g.place, g.named, g.behind)

    by : (k : TokenKind) → t.kind ≡ k → list_kind names k ts (t ∷ ts) ≡ Ok (cs, rest) → SpellsNames names cs (t ∷ ts) rest
    by CloseParen is e = let p = ok_parts [] cs ts rest e in subst (λ cs. SpellsNames names cs (t ∷ ts) rest) p.0 (is, p.1)
    by k is e = some (suc (length (t ∷ ts))) e

-- so does the capture list
pub captures_of : (names : List Text) (cs : List Captured) (ts rest : List Token) → captures_at names ts ≡ Ok (cs, rest) → SpellsCaptures names cs ts rest
unfolding captures_at
captures_of names cs ts rest e =
    let s = bind_ok (after_terminal terminal.Open ts) (list_at names) (cs, rest) e in
    (s.0, after_of terminal.Open ts s.0 s.1, list_of names cs s.0 rest s.2)

-- a place begins with no opening mark
path_opens : (names : List Text) (n : ℕ) (name : Text) (t : Token) (ts rest : List Token) → t.kind ≡ OpenBrace → SpellsPath names n name (t ∷ ts) rest → ⊥
path_opens names zero name t ts rest is h = let bad = sym is ∙ h.2.0 in cc
path_opens names (suc n) name t ts rest is h = let bad = sym is ∙ h.1.0 in cc

-- what begins with an opening mark is a block
pub opens_block : (names : List Text) (b : Bool) (x : Term) (t : Token) (ts rest : List Token) → t.kind ≡ OpenBrace → Spells names b x (t ∷ ts) rest → IsBlock x
opens_block names b (block_t at items) t ts rest is h = tt
opens_block names b (let_t at name value) t ts rest is h = let bad = sym is ∙ h.5.0.0 in cc
opens_block names b (read_t at from) t ts rest is h = absurd (path_opens names from.stars from.name t ts rest is h.1.1)
opens_block names b (assign_t at to value) t ts rest is h = absurd (path_opens names to.stars to.name t ts h.0 is h.3.1)
opens_block names b (box_t at value) t ts rest is h = let bad = sym is ∙ h.1.0.0 in cc
opens_block names b (print_t at value) t ts rest is h = let bad = sym is ∙ h.1.0.0 in cc
opens_block names b (join_t at task) t ts rest is h = let bad = sym is ∙ h.1.0.0 in cc
opens_block names b (mutex_t at value) t ts rest is h = let bad = sym is ∙ h.1.0.0 in cc
opens_block names b (dup_t at of) t ts rest is h = let bad = sym is ∙ h.1.0.0 in cc
opens_block names b (borrow_t at of) t ts rest is h = let bad = sym is ∙ h.1.0.0 in cc
opens_block names b (borrow_mut_t at of) t ts rest is h = let bad = sym is ∙ h.2.0.0 in cc
opens_block names b (number_t at value) t ts rest is (inl h) = let bad = sym is ∙ h.0.0 in cc
opens_block names b (number_t at value) t ts rest is (inr h) = let bad = sym is ∙ h.2.0.0 in cc
opens_block names b (unit_t at) t ts rest is h = let bad = sym is ∙ h.1.0.0 in cc
opens_block names b (arith_t at op left right) t ts rest is h = let bad = sym is ∙ h.4.0.0 in cc
opens_block names b (spawn_t at captures body) t ts rest is h = let bad = sym is ∙ h.2.0.0 in cc
opens_block names b (par_t at captures body others other) t ts rest is h = let bad = sym is ∙ h.4.0.0 in cc
opens_block names b (lock_t at of name body) t ts rest is h = let bad = sym is ∙ h.4.0.0 in cc
