-- The table, read token by token, stops where reading stops.
use Rattle.std.proofs.Common.{◌≡◌, ℕ, zero, suc, ◌+◌, nat_le, Bool, true, false, cond, List, [], ◌∷◌, drop, refl, sym, ap, ◌∙◌, arith}
use Rattle.std.proofs.Math.Dec.{leb-zero, leb-suc-zero, leb-suc-suc}
use Rattle.std.specs.Prelude.{Option, Some, Result, Ok, Err}
use Rattle.fr_terms.specs.Terms.{Text, Spot}
use Rattle.fr_syntax.specs.declared.kind.TokenKind.{TokenKind}
use Rattle.fr_syntax.specs.declared.kind.TokenKind.TheVariants.{Name, Number, MutWord, AsWord, OpenParen, CloseParen, Equals, Star, Plus}
use Rattle.fr_syntax.specs.declared.token.Token.{Token}
use Rattle.fr_grammar.specs.declared.fault.ParseError.{ParseError}
use Rattle.fr_grammar.specs.declared.fault.ParseError.TheVariants.{Syntax, TooDeep}
use Rattle.fr_grammar.specs.declared.marks.Terminal.TheVariants as terminal
use Rattle.fr_grammar.specs.Reading.{◌>>=◌, Read, place_of, is_terminal, after_terminal, name_kind, name_at, bound_at, stars_of, spot_at, turned_kind, turned_at, borrow_kind, borrow_at, op_kind, op_at, held_at}
use Rattle.fr_grammar.specs.Table.{Symbol, op_s, borrow_s, place_s, captures_s, list_s, name_s, number_s, mut_s, as_s, equals_s, close_s, meets, refused_or, refusal_of}

-- the first refusal: of what is read, or else of what comes behind it
abbrev pub then_refused : {X : Type 0} → (X → Option ParseError) → Result X ParseError → Option ParseError
then_refused go (Ok x) = go x
then_refused go (Err fault) = Some fault

-- the first refusal of the tokens behind what was read, where this is expected of them
abbrev pub tokens_behind : List Symbol → List Token → Option ParseError
tokens_behind k ts = refusal_of ts k

abbrev pub behind : {X : Type 0} → List Symbol → X × List Token → Option ParseError
behind k x = refusal_of x.1 k

abbrev pub behind_both : {X Y : Type 0} → List Symbol → X × Y × List Token → Option ParseError
behind_both k x = refusal_of x.2 k

-- one reader and then the next
pub then_read : {X Y : Type 0} (r : Result X ParseError) (f : X → Result Y ParseError) (middle : X → Option ParseError) (go : Y → Option ParseError) (o : Option ParseError) → o ≡ then_refused middle r → ((x : X) → middle x ≡ then_refused go (f x)) → o ≡ then_refused go (r >>= f)
then_read (Ok x) f middle go o e next = e ∙ next x
then_read (Err fault) f middle go o e next = e

-- the same where the next needs to know what was read
pub then_read_so : {X Y : Type 0} (r : Result X ParseError) (f : X → Result Y ParseError) (middle : X → Option ParseError) (go : Y → Option ParseError) (o : Option ParseError) → o ≡ then_refused middle r → ((x : X) → r ≡ Ok x → middle x ≡ then_refused go (f x)) → o ≡ then_refused go (r >>= f)
then_read_so (Ok x) f middle go o e next = e ∙ next x refl
then_read_so (Err fault) f middle go o e next = e

-- `mut`
pub mut_read : (ts : List Token) (k : List Symbol) → refusal_of ts (mut_s ∷ k) ≡ then_refused (tokens_behind k) (after_terminal terminal.Mut ts)
unfolding after_terminal
mut_read [] k = refl
mut_read (t ∷ ts) k = by t.kind
  where
    by : (kind : TokenKind) → refused_or (refusal_of ts) t.start (meets (mut_s ∷ k) kind) ≡ then_refused (tokens_behind k) (cond (is_terminal terminal.Mut kind) (Ok ts) (Err (Syntax t.start)))
    by MutWord = refl
    by kind = refl

-- `=`
pub equals_read : (ts : List Token) (k : List Symbol) → refusal_of ts (equals_s ∷ k) ≡ then_refused (tokens_behind k) (after_terminal terminal.Equals ts)
unfolding after_terminal
equals_read [] k = refl
equals_read (t ∷ ts) k = by t.kind
  where
    by : (kind : TokenKind) → refused_or (refusal_of ts) t.start (meets (equals_s ∷ k) kind) ≡ then_refused (tokens_behind k) (cond (is_terminal terminal.Equals kind) (Ok ts) (Err (Syntax t.start)))
    by Equals = refl
    by kind = refl

-- `)`
pub close_read : (ts : List Token) (k : List Symbol) → refusal_of ts (close_s ∷ k) ≡ then_refused (tokens_behind k) (after_terminal terminal.Close ts)
unfolding after_terminal
close_read [] k = refl
close_read (t ∷ ts) k = by t.kind
  where
    by : (kind : TokenKind) → refused_or (refusal_of ts) t.start (meets (close_s ∷ k) kind) ≡ then_refused (tokens_behind k) (cond (is_terminal terminal.Close kind) (Ok ts) (Err (Syntax t.start)))
    by CloseParen = refl
    by kind = refl

-- `as`
pub as_read : (ts : List Token) (k : List Symbol) → refusal_of ts (as_s ∷ k) ≡ then_refused (tokens_behind k) (after_terminal terminal.As ts)
unfolding after_terminal
as_read [] k = refl
as_read (t ∷ ts) k = by t.kind
  where
    by : (kind : TokenKind) → refused_or (refusal_of ts) t.start (meets (as_s ∷ k) kind) ≡ then_refused (tokens_behind k) (cond (is_terminal terminal.As kind) (Ok ts) (Err (Syntax t.start)))
    by AsWord = refl
    by kind = refl

-- `(` before a capture list
pub open_read : (ts : List Token) (k : List Symbol) → refusal_of ts (captures_s ∷ k) ≡ then_refused (tokens_behind (list_s ∷ k)) (after_terminal terminal.Open ts)
unfolding after_terminal
open_read [] k = refl
open_read (t ∷ ts) k = by t.kind
  where
    by : (kind : TokenKind) → refused_or (refusal_of ts) t.start (meets (captures_s ∷ k) kind) ≡ then_refused (tokens_behind (list_s ∷ k)) (cond (is_terminal terminal.Open kind) (Ok ts) (Err (Syntax t.start)))
    by OpenParen = refl
    by kind = refl

-- a name
pub name_read : (ts : List Token) (k : List Symbol) → refusal_of ts (name_s ∷ k) ≡ then_refused (behind k) (name_at ts)
unfolding name_at
name_read [] k = refl
name_read (t ∷ ts) k = by t.kind
  where
    by : (kind : TokenKind) → refused_or (refusal_of ts) t.start (meets (name_s ∷ k) kind) ≡ then_refused (behind k) (name_kind kind t.start ts)
    by (Name n) = refl
    by kind = refl

-- a number that is turned round
pub turned_read : (ts : List Token) (k : List Symbol) → refusal_of ts (number_s ∷ k) ≡ then_refused (behind k) (turned_at ts)
unfolding turned_at
turned_read [] k = refl
turned_read (t ∷ ts) k = by t.kind
  where
    by : (kind : TokenKind) → refused_or (refusal_of ts) t.start (meets (number_s ∷ k) kind) ≡ then_refused (behind k) (turned_kind kind t.start ts)
    by (Number size) = refl
    by kind = refl

-- the mark between two operands
pub op_read : (ts : List Token) (k : List Symbol) → refusal_of ts (op_s ∷ k) ≡ then_refused (behind k) (op_at ts)
unfolding op_at
op_read [] k = refl
op_read (t ∷ ts) k = by t.kind
  where
    by : (kind : TokenKind) → refused_or (refusal_of ts) t.start (meets (op_s ∷ k) kind) ≡ then_refused (behind k) (op_kind kind t.start ts)
    by Plus = refl
    by kind = refl

-- the name of a `let`, and `=`
pub bound_read : (ts : List Token) (k : List Symbol) → refusal_of ts (mut_s ∷ name_s ∷ equals_s ∷ k) ≡ then_refused (behind k) (bound_at ts)
unfolding bound_at
bound_read ts k =
    then_read (after_terminal terminal.Mut ts) _ (tokens_behind (name_s ∷ equals_s ∷ k)) (behind k) _ (mut_read ts (name_s ∷ equals_s ∷ k))
    (λ a. then_read (name_at a) _ (behind (equals_s ∷ k)) (behind k) _ (name_read a (equals_s ∷ k))
    (λ b. then_read (after_terminal terminal.Equals b.1) _ (tokens_behind k) (behind k) _ (equals_read b.1 k) (λ c. refl)))

-- `as` and a name
pub held_read : (ts : List Token) (k : List Symbol) → refusal_of ts (as_s ∷ name_s ∷ k) ≡ then_refused (behind k) (held_at ts)
unfolding held_at
held_read ts k = then_read (after_terminal terminal.As ts) name_at (tokens_behind (name_s ∷ k)) (behind k) _ (as_read ts (name_s ∷ k)) (λ a. name_read a k)

-- what comes behind a place of these tokens, where so many stars come and so many may
abbrev pub spot_or : List Symbol → List Token → ℕ → ℕ → Bool → Option ParseError
spot_or k ts m n b = cond b (then_refused (behind k) (name_at (drop n ts))) (Some (TooDeep (place_of (drop m ts))))

-- a place of which so many stars may come
pub spot_left : (m : ℕ) (ts : List Token) (k : List Symbol) → refusal_of ts (place_s m ∷ k) ≡ spot_or k ts m (stars_of ts) (nat_le (stars_of ts) m)
unfolding name_at
spot_left zero [] k = refl
spot_left (suc m) [] k = ap (spot_or k [] (suc m) 0) (sym (leb-zero (suc m)))
spot_left m (t ∷ ts) k = by m t.kind t.start t.end (λ m. spot_left m ts k)
  where
    goal : ℕ → Token → ℕ → Option ParseError
    goal m t n = spot_or k (t ∷ ts) m n (nat_le n m)

    one : 1 + stars_of ts ≡ suc (stars_of ts)
    one = omega arith

    by : (m : ℕ) (kind : TokenKind) (start end : ℕ) → ((m : ℕ) → refusal_of ts (place_s m ∷ k) ≡ spot_or k ts m (stars_of ts) (nat_le (stars_of ts) m)) → refused_or (refusal_of ts) start (meets (place_s m ∷ k) kind) ≡ goal m (record { kind = kind; start = start; end = end }) (stars_of (record { kind = kind; start = start; end = end } ∷ ts))
    by zero Star start end again =
        ap (spot_or k (record { kind = Star; start = start; end = end } ∷ ts) zero (suc (stars_of ts))) (sym (leb-suc-zero (stars_of ts)))
        ∙ ap (goal zero (record { kind = Star; start = start; end = end })) (sym one)
    by (suc m) Star start end again =
        again m
        ∙ ap (spot_or k (record { kind = Star; start = start; end = end } ∷ ts) (suc m) (suc (stars_of ts))) (sym (leb-suc-suc (stars_of ts) m))
        ∙ ap (goal (suc m) (record { kind = Star; start = start; end = end })) (sym one)
    by zero kind start end again = refl
    by (suc m) kind start end again = ap (spot_or k (record { kind = kind; start = start; end = end } ∷ ts) (suc m) 0) (sym (leb-zero (suc m)))

-- a place
pub spot_read : (names : List Text) (ts : List Token) (k : List Symbol) → refusal_of ts (place_s 8 ∷ k) ≡ then_refused (behind k) (spot_at names ts)
unfolding spot_at
spot_read names ts k = spot_left 8 ts k ∙ by (nat_le (stars_of ts) 8) (name_at (drop (stars_of ts) ts)) (λ n. record { at = place_of ts; name = _; stars = stars_of ts })
  where
    by : (b : Bool) (r : Read ℕ) (f : ℕ → Spot) → cond b (then_refused (behind k) r) (Some (TooDeep (place_of (drop 8 ts)))) ≡ then_refused (behind k) (cond b (r >>= λ x. Ok (f x.0, x.1)) (Err (TooDeep (place_of (drop 8 ts)))))
    by true (Ok x) f = refl
    by true (Err e) f = refl
    by false r f = refl

-- a borrow, behind its mark
pub borrow_read : (names : List Text) (place : ℕ) (ts : List Token) (k : List Symbol) → refusal_of ts (borrow_s ∷ k) ≡ then_refused (behind k) (borrow_at names place ts)
unfolding borrow_at
borrow_read names place [] k = refl
borrow_read names place (t ∷ ts) k = by t.kind t.start t.end
  where
    by : (kind : TokenKind) (start end : ℕ) → refused_or (refusal_of ts) start (meets (borrow_s ∷ k) kind) ≡ then_refused (behind k) (borrow_kind names place kind ts (record { kind = kind; start = start; end = end } ∷ ts))
    by MutWord start end = then_read (spot_at names ts) _ (behind k) (behind k) _ (spot_read names ts k) (λ w. refl)
    by kind start end = then_read (spot_at names (record { kind = kind; start = start; end = end } ∷ ts)) _ (behind k) (behind k) _ (spot_read names (record { kind = kind; start = start; end = end } ∷ ts) k) (λ w. refl)
