-- One step of reading, and what a token list that begins so looks like.
use Rattle.std.proofs.Common.{◌≡◌, ℕ, zero, suc, ◌+◌, ◌≤◌, Bool, true, false, IsTrue, cond, List, [], ◌∷◌, drop, refl, sym, ap, ◌∙◌, subst, arith, nat_le}
use Rattle.std.proofs.lemmas.Bool.{le-leb}
use Rattle.std.specs.Prelude.{Result, Ok, Err}
use Rattle.fr_terms.specs.Terms.{Text, Spot}
use Rattle.fr_terms.specs.Limits.{IsShort}
use Rattle.fr_syntax.specs.Arena.{text_of}
use Rattle.fr_syntax.specs.declared.kind.TokenKind.{TokenKind}
use Rattle.fr_syntax.specs.declared.kind.TokenKind.TheVariants.{LetWord, MutWord, AsWord, OpenParen, CloseParen, Equals}
use Rattle.fr_syntax.specs.declared.token.Token.{Token}
use Rattle.fr_grammar.specs.declared.fault.ParseError.{ParseError}
use Rattle.fr_grammar.specs.declared.fault.ParseError.TheVariants.{TooDeep}
use Rattle.fr_grammar.specs.declared.marks.Terminal.{Terminal}
use Rattle.fr_grammar.specs.declared.marks.Terminal.TheVariants as terminal
use Rattle.fr_grammar.specs.Grammar.{Has, IsAt, Begins, SpellsPath, SpellsPlace}
use Rattle.fr_grammar.specs.Reading.{◌>>=◌, place_of, is_terminal, stars_of, is_star, name_at, spot_at, begins_term, term_kind, any_kind, any_at}

-- the kind of a terminal's token
abbrev pub kind_of : Terminal → TokenKind
kind_of terminal.Mut = MutWord
kind_of terminal.Equals = Equals
kind_of terminal.Open = OpenParen
kind_of terminal.Close = CloseParen
kind_of terminal.As = AsWord

-- it is one
pub its_kind : (expected : Terminal) → is_terminal expected (kind_of expected) ≡ true
its_kind terminal.Mut = refl
its_kind terminal.Equals = refl
its_kind terminal.Open = refl
its_kind terminal.Close = refl
its_kind terminal.As = refl

-- and no other is
pub only_kind : (expected : Terminal) (kind : TokenKind) → is_terminal expected kind ≡ true → kind ≡ kind_of expected
only_kind terminal.Mut MutWord e = refl
only_kind terminal.Equals Equals e = refl
only_kind terminal.Open OpenParen e = refl
only_kind terminal.Close CloseParen e = refl
only_kind terminal.As AsWord e = refl
only_kind expected kind e = cc

-- a step goes on with what was read
pub bind_by : {A B : Type 0} (r : Result A ParseError) (x : A) (f : A → Result B ParseError) → r ≡ Ok x → (r >>= f) ≡ f x
bind_by r x f e = ap (λ r. r >>= f) e

-- a list that has such a token first is that token and the rest
pub has_cons : (k : TokenKind) (ts rest : List Token) → Has k ts rest → (t : Token) × (ts ≡ t ∷ rest) × (t.kind ≡ k)
has_cons k [] rest h = absurd h
has_cons k (t ∷ ts) rest h = (t, ap (λ r. t ∷ r) h.1, h.0)

-- the same with the place of the token
pub begins_cons : (k : TokenKind) (at : ℕ) (ts rest : List Token) → Begins k at ts rest → (t : Token) × (ts ≡ t ∷ rest) × (t.kind ≡ k) × (t.start ≡ at)
begins_cons k at [] rest h = absurd h.1
begins_cons k at (t ∷ ts) rest h = (t, ap (λ r. t ∷ r) h.0.1, h.0.0, h.1)

-- what begins a term is read as a term, also where an item may stand
pub at_term : (names : List Text) (d : ℕ) (b : Bool) (k : TokenKind) (at : ℕ) (t : Token) (a : List Token) → t.kind ≡ k → t.start ≡ at → IsTrue (begins_term k) → any_at names (suc d) b (t ∷ a) ≡ term_kind names (any_at names d true) (any_at names d false) k at a (t ∷ a)
unfolding any_at
at_term names d b k at t a ek es h =
    ap (λ k. any_kind b names (any_at names d true) (any_at names d false) k t.start a (t ∷ a)) ek ∙ ap (λ p. any_kind b names (any_at names d true) (any_at names d false) k p a (t ∷ a)) es ∙ by b k h
  where
    by : (b : Bool) (k : TokenKind) → IsTrue (begins_term k) → any_kind b names (any_at names d true) (any_at names d false) k at a (t ∷ a) ≡ term_kind names (any_at names d true) (any_at names d false) k at a (t ∷ a)
    by false k h = refl
    by true LetWord h = cc
    by true k h = refl

-- the stars and the name of a place, as reading finds them
pub record IsPath (names : List Text) (n : ℕ) (name : Text) (ts rest : List Token) : Type 0 where
  pub stars : stars_of ts ≡ n
  pub number : ℕ
  pub text : text_of names number ≡ name
  pub named : name_at (drop n ts) ≡ Ok (number, rest)

-- what spells a path is found so
pub path_is : (names : List Text) (n : ℕ) (name : Text) (ts rest : List Token) → SpellsPath names n name ts rest → IsPath names n name ts rest
unfolding name_at
path_is names zero name [] rest h = absurd h.2
path_is names zero name (t ∷ ts) rest h = record {
  stars = ap (λ k. cond (is_star k) (1 + stars_of ts) 0) h.2.0;
  number = h.0;
  text = h.1;
  named = cc;
}
path_is names (suc n) name [] rest h = absurd h.1
path_is names (suc n) name (t ∷ ts) rest h =
    let p = path_is names n name ts rest (subst (λ r. SpellsPath names n name r rest) (sym h.1.1) h.2) in
    record {
      stars = ap (λ k. cond (is_star k) (1 + stars_of ts) 0) h.1.0 ∙ omega (arith, p.stars);
      number = p.number;
      text = p.text;
      named = p.named;
    }

-- a place whose stars and name are these is read
spot_by : (names : List Text) (n : ℕ) (name : Text) (at : ℕ) (ts rest : List Token) → IsPath names n name ts rest → n ≤ 8 → place_of ts ≡ at → spot_at names ts ≡ Ok (record { at = at; name = name; stars = n }, rest)
unfolding spot_at
spot_by names n name at ts rest p short place =
    ap read p.stars ∙ ap tested (le-leb n 8 short) ∙ bind_by (name_at (drop n ts)) (p.number, rest) named p.named
    ∙ ap (λ a. Ok (record { at = a; name = text_of names p.number; stars = n }, rest)) place
    ∙ ap (λ x. Ok (record { at = at; name = x; stars = n }, rest)) p.text
  where
    fault : Result (Spot × List Token) ParseError
    fault = Err (TooDeep (place_of (drop 8 ts)))

    named : ℕ × List Token → Result (Spot × List Token) ParseError
    named x = Ok (record { at = place_of ts; name = text_of names x.0; stars = n }, x.1)

    tested : Bool → Result (Spot × List Token) ParseError
    tested b = cond b (name_at (drop n ts) >>= named) fault

    read : ℕ → Result (Spot × List Token) ParseError
    read s = cond (nat_le s 8) (name_at (drop s ts) >>= λ x. Ok (record { at = place_of ts; name = text_of names x.0; stars = s }, x.1)) fault

-- the place at which the first token is said to start
pub is_place : (at : ℕ) (ts : List Token) → IsAt at ts → place_of ts ≡ at
is_place at [] h = absurd h
is_place at (t ∷ ts) h = h

-- a place with few stars is read
pub place_is_read : (names : List Text) (w : Spot) (ts rest : List Token) → SpellsPlace names w ts rest → IsShort w → spot_at names ts ≡ Ok (w, rest)
place_is_read names w ts rest h short = spot_by names w.stars w.name w.at ts rest (path_is names w.stars w.name ts rest h.1) short (is_place w.at ts h.0)
