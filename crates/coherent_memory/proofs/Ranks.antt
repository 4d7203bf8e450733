-- Going on along steps comes to an end, counted, exactly where a rank falls on each of them.
use Rattle.std.proofs.Common.{◌≡◌, inl, inr, ℕ, zero, suc, ◌+◌, ◌<◌, ◌≤◌, Bool, true, false, not, ◌&&◌, ◌||◌, List, [], ◌∷◌, length, refl, sym, ap, subst, arith}
use Rattle.std.specs.Prelude.{◌==◌, nat_le}
use Rattle.std.proofs.lemmas.Bool.Decides.{nat_tests}
use Rattle.server_model.specs.Below.fr_base.declared.name.ObjNo.{ObjNo}
use Rattle.fr_code.proofs.Below.fr_store.Keys.{object_cases}
use Rattle.coherent_memory.specs.Names.{tot, one, other, Among, same_object}
use Rattle.coherent_memory.specs.OneHeap.{Node, object_n, mutex_n, task_n, same_node}
use Rattle.coherent_memory.specs.Ranks.{Step, Falls, Ends, all_from, ends_by, endless}
use Rattle.coherent_memory.proofs.Names.{and_left, and_right, same_number, same_mutexes}

is_so : (b : Bool) → other b ≡ 0 → b ≡ true
is_so true z = refl
is_so false z = absurd (cc z)

none_other : (b : Bool) → b ≡ true → other b ≡ 0
none_other true e = refl
none_other false e = absurd (cc e)

both_so : (p q : Bool) → p ≡ true → q ≡ true → (p && q) ≡ true
both_so true true x y = refl
both_so true false x y = absurd (cc y)
both_so false q x y = absurd (cc x)

leads_on : (p q : Bool) → (not p || q) ≡ true → p ≡ true → q ≡ true
leads_on true q e h = e
leads_on false q e h = absurd (cc h)

leads_if : (p q : Bool) → (p ≡ true → q ≡ true) → (not p || q) ≡ true
leads_if true q f = f refl
leads_if false q f = refl

one_at_most : (p q : Bool) → (p ≡ true → q ≡ true) → one p ≤ one q
one_at_most true true f = omega arith
one_at_most true false f = let e : false ≡ true = f refl in absurd (cc e)
one_at_most false true f = omega arith
one_at_most false false f = omega arith

other_at_most : (p q : Bool) → (p ≡ true → q ≡ true) → other q ≤ other p
other_at_most true true f = omega arith
other_at_most true false f = let e : false ≡ true = f refl in absurd (cc e)
other_at_most false true f = omega arith
other_at_most false false f = omega arith

module _ {N : Type 0} (same : N → N → Bool) (is : (a b : N) → same a b ≡ true → a ≡ b) (itself : (a : N) → same a a ≡ true) where
  none_of : (f : Step N → ℕ) (x : Step N) (es : List (Step N)) → tot f es ≡ 0 → Among x es → f x ≡ 0
  none_of f x [] z h = absurd h
  none_of f x (e ∷ es) z (inl q) = subst (λ y. f y ≡ 0) q (omega (arith, z))
  none_of f x (e ∷ es) z (inr h) = none_of f x es (omega (arith, z)) h

  -- FROM THE COUNT TO A RANK

  followed : (go : N → Bool) (x : Step N) (es : List (Step N)) → all_from same go x.from es ≡ true → Among x es → go x.to ≡ true
  followed go x [] a h = absurd h
  followed go x (e ∷ es) a (inl q) =
      let here : (not (same e.from x.from) || go e.to) ≡ true = and_left (not (same e.from x.from) || go e.to) (all_from same go x.from es) a in
      let begins : same e.from x.from ≡ true = subst (λ (y : Step N). same e.from y.from ≡ true) q (itself e.from) in
      subst (λ (y : Step N). go y.to ≡ true) q (leads_on (same e.from x.from) (go e.to) here begins)
  followed go x (e ∷ es) a (inr h) = followed go x es (and_right (not (same e.from x.from) || go e.to) (all_from same go x.from es) a) h

  -- for how many lengths the ways from a name go on
  abbrev lasting : ℕ → List (Step N) → N → ℕ
  lasting zero es n = 0
  lasting (suc k) es n = other (ends_by k same es n) + lasting k es n

  longer : (es : List (Step N)) (x : Step N) (k : ℕ) → Among x es → suc (lasting k es x.to) ≤ lasting (suc k) es x.from
  longer es x zero h = omega arith
  longer es x (suc k) h =
      let here : other (ends_by k same es x.to) ≤ other (ends_by (suc k) same es x.from) =
      other_at_most (ends_by (suc k) same es x.from) (ends_by k same es x.to) (λ a. followed (ends_by k same es) x es a h) in
      omega (arith, here, longer es x k h)

  falls_by : (es : List (Step N)) → endless same es ≡ 0 → (xs : List (Step N)) → ((x : Step N) → Among x xs → Among x es) → Falls (lasting (suc (length es)) es) xs
  falls_by es z [] i = tt
  falls_by es z (x ∷ xs) i =
      let h : Among x es = i x (inl refl) in
      let last : other (ends_by (suc (length es)) same es x.from) ≡ 0 = none_of (λ (e : Step N). other (ends_by (suc (length es)) same es e.from)) x es z h in
      (omega (arith, last, longer es x (suc (length es)) h), falls_by es z xs (λ y m. i y (inr m)))

  pub rank_from : (es : List (Step N)) → endless same es ≡ 0 → Ends es
  rank_from es z = record { rank = lasting (suc (length es)) es; falls = falls_by es z es (λ x h. h) }

  -- FROM A RANK TO THE COUNT

  module _ (es : List (Step N)) (rank : N → ℕ) (falls : Falls rank es) where
    -- the steps that begin at most that high
    abbrev below : ℕ → Step N → ℕ
    below r e = one (nat_le (rank e.from) r)

    fall_at : (x : Step N) (xs : List (Step N)) → Falls rank xs → Among x xs → rank x.to < rank x.from
    fall_at x [] f h = absurd h
    fall_at x (e ∷ xs) f (inl q) = subst (λ (y : Step N). rank y.to < rank y.from) q f.0
    fall_at x (e ∷ xs) f (inr h) = fall_at x xs f.1 h

    fewer_each : (r q : ℕ) → r ≤ q → (e : Step N) → below r e ≤ below q e
    fewer_each r q l e = one_at_most (nat_le (rank e.from) r) (nat_le (rank e.from) q) (λ a. grind (arith, nat_tests, a, l))

    fewer_all : (r q : ℕ) → r ≤ q → (xs : List (Step N)) → tot (below r) xs ≤ tot (below q) xs
    fewer_all r q l [] = omega arith
    fewer_all r q l (e ∷ xs) = omega (arith, fewer_each r q l e, fewer_all r q l xs)

    one_fewer : (x : Step N) → rank x.to < rank x.from → suc (below (rank x.to) x) ≤ below (rank x.from) x
    one_fewer x l =
        let out : nat_le (rank x.from) (rank x.to) ≡ false = grind (arith, nat_tests, l) in
        let in_it : nat_le (rank x.from) (rank x.from) ≡ true = grind (arith, nat_tests) in
        let a : below (rank x.to) x ≡ 0 = rw out refl in
        let b : below (rank x.from) x ≡ 1 = rw in_it refl in
        omega (arith, a, b)

    fewer_below : (x : Step N) (xs : List (Step N)) → rank x.to < rank x.from → Among x xs → suc (tot (below (rank x.to)) xs) ≤ tot (below (rank x.from)) xs
    fewer_below x [] l h = absurd h
    fewer_below x (e ∷ xs) l (inl q) =
        let here : suc (below (rank x.to) e) ≤ below (rank x.from) e = subst (λ (y : Step N). suc (below (rank x.to) y) ≤ below (rank x.from) y) (sym q) (one_fewer x l) in
        omega (arith, here, fewer_all (rank x.to) (rank x.from) (omega (arith, l)) xs)
    fewer_below x (e ∷ xs) l (inr h) = omega (arith, fewer_each (rank x.to) (rank x.from) (omega (arith, l)) e, fewer_below x xs l h)

    all_follow : (go : N → Bool) (n : N) (xs : List (Step N)) → ((x : Step N) → Among x xs → same x.from n ≡ true → go x.to ≡ true) → all_from same go n xs ≡ true
    all_follow go n [] f = refl
    all_follow go n (e ∷ xs) f =
        both_so (not (same e.from n) || go e.to) (all_from same go n xs) (leads_if (same e.from n) (go e.to) (f e (inl refl))) (all_follow go n xs (λ x h. f x (inr h)))

    ends : (k : ℕ) (n : N) → tot (below (rank n)) es < k → ends_by k same es n ≡ true
    ends zero n l = absurd (omega (arith, l))
    ends (suc k) n l = all_follow (ends_by k same es) n es (λ x h s.
        let low : rank x.to < rank x.from = fall_at x es falls h in
        let less : suc (tot (below (rank x.to)) es) ≤ tot (below (rank x.from)) es = fewer_below x es low h in
        let begins : x.from ≡ n = is x.from n s in
        let all : tot (below (rank x.from)) es < suc k = subst (λ m. tot (below (rank m)) es < suc k) (sym begins) l in
        ends k x.to (omega (arith, less, all)))

    at_most_all : (r : ℕ) (xs : List (Step N)) → tot (below r) xs ≤ length xs
    at_most_all r [] = omega arith
    at_most_all r (e ∷ xs) = omega (arith, one_at_most (nat_le (rank e.from) r) true (λ a. refl), at_most_all r xs)

    none_by : (xs : List (Step N)) → tot (λ (e : Step N). other (ends_by (suc (length es)) same es e.from)) xs ≡ 0
    none_by [] = refl
    none_by (e ∷ xs) =
        let here : other (ends_by (suc (length es)) same es e.from) ≡ 0 =
        none_other (ends_by (suc (length es)) same es e.from) (ends (suc (length es)) e.from (omega (arith, at_most_all (rank e.from) es))) in
        omega (arith, here, none_by xs)

  pub none_from : (es : List (Step N)) → Ends es → endless same es ≡ 0
  none_from es r = none_by es r.rank r.falls es

-- NAMES

number_itself : (t : ℕ) → (t == t) ≡ true
number_itself t = grind (arith, nat_tests)

object_itself : (o : ObjNo) → same_object o o ≡ true
object_itself o = object_cases (λ b. b ≡ true) o o (λ s. refl) (λ n. absurd (n refl))

object_named : (o p : ObjNo) → same_object o p ≡ true → o ≡ p
object_named o p = object_cases (λ b. b ≡ true → o ≡ p) o p (λ s e. s) (λ n e. absurd (cc e))

node_named : (a b : Node) → same_node a b ≡ true → a ≡ b
node_named (object_n o) (object_n p) e = ap object_n (object_named o p e)
node_named (mutex_n m) (mutex_n n) e = ap mutex_n (same_mutexes m n e)
node_named (task_n t) (task_n u) e = ap task_n (same_number t u e)
node_named (object_n o) (mutex_n n) e = absurd (cc e)
node_named (object_n o) (task_n u) e = absurd (cc e)
node_named (mutex_n m) (object_n p) e = absurd (cc e)
node_named (mutex_n m) (task_n u) e = absurd (cc e)
node_named (task_n t) (object_n p) e = absurd (cc e)
node_named (task_n t) (mutex_n n) e = absurd (cc e)

node_itself : (a : Node) → same_node a a ≡ true
node_itself (object_n o) = object_itself o
node_itself (mutex_n m) = both_so (m.home == m.home) (m.count == m.count) (number_itself m.home) (number_itself m.count)
node_itself (task_n t) = number_itself t

pub node_ends : (es : List (Step Node)) → endless same_node es ≡ 0 → Ends es
node_ends es z = rank_from same_node node_named node_itself es z

pub nodes_none : (es : List (Step Node)) → Ends es → endless same_node es ≡ 0
nodes_none es r = none_from same_node node_named node_itself es r

pub number_ends : (es : List (Step ℕ)) → endless (λ t u. t == u) es ≡ 0 → Ends es
number_ends es z = rank_from (λ t u. t == u) same_number number_itself es z

pub numbers_none : (es : List (Step ℕ)) → Ends es → endless (λ t u. t == u) es ≡ 0
numbers_none es r = none_from (λ t u. t == u) same_number number_itself es r
