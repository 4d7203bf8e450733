-- Trades of things: some go, some come, the rest stays. How trades are made and composed.
use Rattle.std.proofs.Common.{◌≡◌, ℕ, zero, suc, ◌+◌, List, [], ◌∷◌, ◌++◌, length, Some, refl, sym, ap, subst, arith}
use Rattle.std.specs.Prelude.{slice_get, slice_set, remove}
use Rattle.coherent_memory.specs.Names.{tot}
use Rattle.coherent_memory.specs.Things.{Thing, things_at}
pub use Rattle.coherent_memory.proofs.Sums.{tot-append}

-- `olds` went, `news` came, and the rest stayed
pub record Trade (a olds news b : List Thing) : Type 0 where
  pub rest : List Thing
  pub before : (f : Thing → ℕ) → tot f a ≡ tot f olds + tot f rest
  pub after : (f : Thing → ℕ) → tot f b ≡ tot f news + tot f rest

-- the same things, in whatever order
abbrev pub Same : List Thing → List Thing → Type 0
Same a b = (f : Thing → ℕ) → tot f a ≡ tot f b

-- SIMPLE TRADES

pub trade_none : (a : List Thing) → Trade a [] [] a
trade_none a = record { rest = a; before = λ f. omega arith; after = λ f. omega arith }

pub trade_whole : (a b : List Thing) → Trade a a b b
trade_whole a b = record { rest = []; before = λ f. omega arith; after = λ f. omega arith }

-- what goes, taken in front
pub trade_goes : (a b olds : List Thing) → Same a (olds ++ b) → Trade a olds [] b
trade_goes a b olds e = record { rest = b; before = λ f. omega (arith, e f, tot-append f olds b); after = λ f. omega arith }

-- what comes, put in front
pub trade_comes : (a b news : List Thing) → Same (news ++ a) b → Trade a [] news b
trade_comes a b news e = record { rest = a; before = λ f. omega arith; after = λ f. omega (arith, e f, tot-append f news a) }

-- COMPOSITION

-- beside other things
pub trade_left : (r : List Thing) {a b olds news : List Thing} → Trade a olds news b → Trade (r ++ a) olds news (r ++ b)
trade_left r {a = a} {b = b} t = record {
  rest = r ++ t.rest;
  before = λ f. omega (arith, tot-append f r a, tot-append f r t.rest, t.before f);
  after = λ f. omega (arith, tot-append f r b, tot-append f r t.rest, t.after f);
}

pub trade_right : (r : List Thing) {a b olds news : List Thing} → Trade a olds news b → Trade (a ++ r) olds news (b ++ r)
trade_right r {a = a} {b = b} t = record {
  rest = r ++ t.rest;
  before = λ f. omega (arith, tot-append f a r, tot-append f r t.rest, t.before f);
  after = λ f. omega (arith, tot-append f b r, tot-append f r t.rest, t.after f);
}

-- two trades side by side
pub trade_both : {a b olds news c d olds2 news2 : List Thing} → Trade a olds news b → Trade c olds2 news2 d → Trade (a ++ c) (olds ++ olds2) (news ++ news2) (b ++ d)
trade_both {a = a} {b = b} {olds = olds} {news = news} {c = c} {d = d} {olds2 = olds2} {news2 = news2} t u = record {
  rest = t.rest ++ u.rest;
  before = λ f. omega (arith, tot-append f a c, tot-append f olds olds2, tot-append f t.rest u.rest, t.before f, u.before f);
  after = λ f. omega (arith, tot-append f b d, tot-append f news news2, tot-append f t.rest u.rest, t.after f, u.after f);
}

-- something goes, and then a trade
pub goes_then : {a b c olds olds2 news : List Thing} → Trade a olds [] b → Trade b olds2 news c → Trade a (olds ++ olds2) news c
goes_then {olds = olds} {olds2 = olds2} t u = record {
  rest = u.rest;
  before = λ f. omega (arith, t.before f, t.after f, u.before f, tot-append f olds olds2);
  after = u.after;
}

-- a trade, and then something comes
pub then_comes : {a b c olds news news2 : List Thing} → Trade a olds news b → Trade b [] news2 c → Trade a olds (news ++ news2) c
then_comes {news = news} {news2 = news2} t u = record {
  rest = t.rest;
  before = t.before;
  after = λ f. omega (arith, u.after f, u.before f, t.after f, tot-append f news news2);
}

pub same_before : {a a2 b olds news : List Thing} → Same a a2 → Trade a2 olds news b → Trade a olds news b
same_before e t = record { rest = t.rest; before = λ f. omega (arith, e f, t.before f); after = t.after }

pub same_after : {a b b2 olds news : List Thing} → Trade a olds news b → Same b b2 → Trade a olds news b2
same_after t e = record { rest = t.rest; before = t.before; after = λ f. omega (arith, e f, t.after f) }

-- LISTS

module _ {X : Type 0} (g : ℕ → X → List Thing) where
  -- an element changes
  pub trade_at : (xs : List X) (i k : ℕ) (x y : X) (olds news : List Thing) → slice_get xs k ≡ Some x → Trade (g (i + k) x) olds news (g (i + k) y)
      → Trade (things_at g i xs) olds news (things_at g i (slice_set xs k y))
  trade_at [] i k x y olds news l t = cc
  trade_at (z ∷ xs) i zero x y olds news l t =
      let same : z ≡ x = cc in
      let here : Trade (g i x) olds news (g i y) = subst (λ n. Trade (g n x) olds news (g n y)) (omega arith) t in
      trade_right (things_at g (i + 1) xs) (subst (λ n. Trade (g i n) olds news (g i y)) (sym same) here)
  trade_at (z ∷ xs) i (suc k) x y olds news l t =
      trade_left (g i z) (trade_at xs (i + 1) k x y olds news l (subst (λ n. Trade (g n x) olds news (g n y)) (omega arith) t))

  -- an element comes at the end
  pub tot-push : (f : Thing → ℕ) (xs : List X) (i : ℕ) (y : X) → tot f (things_at g i (xs ++ y ∷ [])) ≡ tot f (things_at g i xs) + tot f (g (i + length xs) y)
  tot-push f [] i y =
      let z : tot f (g i y) ≡ tot f (g (i + 0) y) = ap (λ n. tot f (g n y)) (omega arith) in
      omega (arith, tot-append f (g i y) [], z)
  tot-push f (x ∷ xs) i y =
      let a = tot-push f xs (i + 1) y in
      let z : tot f (g (i + 1 + length xs) y) ≡ tot f (g (i + length (x ∷ xs)) y) = ap (λ n. tot f (g n y)) (omega arith) in
      omega (arith, a, z, tot-append f (g i x) (things_at g (i + 1) (xs ++ y ∷ [])), tot-append f (g i x) (things_at g (i + 1) xs))

  pub trade_push : (xs : List X) (i : ℕ) (y : X) → Trade (things_at g i xs) [] (g (i + length xs) y) (things_at g i (xs ++ y ∷ []))
  trade_push xs i y = record { rest = things_at g i xs; before = λ f. omega arith; after = λ f. omega (arith, tot-push f xs i y) }

-- lists whose things don't depend on the place
module _ {X : Type 0} (g : X → List Thing) where
  pub tot-shift : (f : Thing → ℕ) (xs : List X) (m n : ℕ) → tot f (things_at (λ i x. g x) m xs) ≡ tot f (things_at (λ i x. g x) n xs)
  tot-shift f [] m n = refl
  tot-shift f (x ∷ xs) m n =
      omega (arith, tot-shift f xs (m + 1) (n + 1), tot-append f (g x) (things_at (λ i x. g x) (m + 1) xs), tot-append f (g x) (things_at (λ i x. g x) (n + 1) xs))

  -- an element in front
  pub tot-front : (f : Thing → ℕ) (i : ℕ) (x : X) (xs : List X) → tot f (things_at (λ i x. g x) i (x ∷ xs)) ≡ tot f (g x) + tot f (things_at (λ i x. g x) i xs)
  tot-front f i x xs = omega (arith, tot-append f (g x) (things_at (λ i x. g x) (i + 1) xs), tot-shift f xs (i + 1) i)

  -- an element goes
  pub tot-remove : (f : Thing → ℕ) (i : ℕ) (xs : List X) (k : ℕ) (x : X) → slice_get xs k ≡ Some x → tot f (things_at (λ i x. g x) i xs) ≡ tot f (g x) + tot f (things_at (λ i x. g x) i (remove xs k))
  tot-remove f i [] k x l = cc
  tot-remove f i (z ∷ xs) zero x l =
      let same : z ≡ x = cc in
      subst (λ y. tot f (things_at (λ i x. g x) i (y ∷ xs)) ≡ tot f (g x) + tot f (things_at (λ i x. g x) i xs)) (sym same) (tot-front f i x xs)
  tot-remove f i (z ∷ xs) (suc k) x l = omega (arith, tot-front f i z xs, tot-front f i z (remove xs k), tot-remove f i xs k x l)
