-- Lists with the same items, in whatever order.
use Rattle.std.proofs.Common.{◌≡◌, ◌⊎◌, inl, inr, ℕ, suc, ◌+◌, ◌≤◌, ◌||◌, Bool, true, false, if◌then◌else◌, List, [], ◌∷◌, ◌++◌, Option, Some, None, refl, sym, ap, subst, ◌∙◌, arith}
use Rattle.law_runs_rounds.specs.Below.law_runs_coherent.Below.coherent_memory.Names.{Among, tot, one, some}
use Rattle.law_runs_rounds.proofs.Below.law_runs_coherent.Below.coherent_memory.Sums.{tot-append}
use Rattle.law_runs_order.specs.things.SameThings.{Reordered}

pub same_order : {X : Type 0} (xs : List X) → Reordered xs xs
same_order xs = record { sums = λ f. refl; to = λ x h. h; from = λ x h. h }

-- LISTS ONE AFTER THE OTHER

pub among_left : {X : Type 0} (x : X) (xs ys : List X) → Among x xs → Among x (xs ++ ys)
among_left x [] ys h = absurd h
among_left x (y ∷ xs) ys (inl e) = inl e
among_left x (y ∷ xs) ys (inr h) = inr (among_left x xs ys h)

pub among_right : {X : Type 0} (x : X) (xs ys : List X) → Among x ys → Among x (xs ++ ys)
among_right x [] ys h = h
among_right x (y ∷ xs) ys h = inr (among_right x xs ys h)

later : {X : Type 0} (x y : X) (xs ys : List X) → Among x xs ⊎ Among x ys → Among x (y ∷ xs) ⊎ Among x ys
later x y xs ys (inl h) = inl (inr h)
later x y xs ys (inr h) = inr h

pub among_either : {X : Type 0} (x : X) (xs ys : List X) → Among x (xs ++ ys) → Among x xs ⊎ Among x ys
among_either x [] ys h = inr h
among_either x (y ∷ xs) ys (inl e) = inl (inl e)
among_either x (y ∷ xs) ys (inr h) = later x y xs ys (among_either x xs ys h)

put : {X : Type 0} (x : X) (xs ys : List X) → Among x xs ⊎ Among x ys → Among x (xs ++ ys)
put x xs ys (inl h) = among_left x xs ys h
put x xs ys (inr h) = among_right x xs ys h

carried : {X : Type 0} (x : X) (ps qs cs ds : List X) → (Among x ps → Among x qs) → (Among x cs → Among x ds) → Among x ps ⊎ Among x cs → Among x qs ⊎ Among x ds
carried x ps qs cs ds f g (inl h) = inl (f h)
carried x ps qs cs ds f g (inr h) = inr (g h)

pub reordered_append : {X : Type 0} {ps qs cs ds : List X} → Reordered ps qs → Reordered cs ds → Reordered (ps ++ cs) (qs ++ ds)
reordered_append {ps = ps} {qs = qs} {cs = cs} {ds = ds} r s = record {
  sums = λ f. omega (arith, tot-append f ps cs, tot-append f qs ds, r.sums f, s.sums f);
  to = λ x h. put x qs ds (carried x ps qs cs ds (r.to x) (s.to x) (among_either x ps cs h));
  from = λ x h. put x ps cs (carried x qs ps ds cs (r.from x) (s.from x) (among_either x qs ds h));
}

-- GATHERED LISTS

-- the items that each of these gives, one after the other
abbrev pub gathered : {X Y : Type 0} → (X → List Y) → List X → List Y
gathered f [] = []
gathered f (x ∷ xs) = f x ++ gathered f xs

pub tot-gathered : {X Y : Type 0} (f : X → List Y) (w : Y → ℕ) (xs : List X) → tot w (gathered f xs) ≡ tot (λ x. tot w (f x)) xs
tot-gathered f w [] = refl
tot-gathered f w (x ∷ xs) = omega (arith, tot-append w (f x) (gathered f xs), tot-gathered f w xs)

pub given_among : {X Y : Type 0} (f : X → List Y) (y : Y) (x : X) (xs : List X) → Among x xs → Among y (f x) → Among y (gathered f xs)
given_among f y x [] h g = absurd h
given_among f y x (z ∷ xs) (inl e) g = among_left y (f z) (gathered f xs) (subst (λ u. Among y (f u)) (sym e) g)
given_among f y x (z ∷ xs) (inr h) g = among_right y (f z) (gathered f xs) (given_among f y x xs h g)

-- what gives an item
pub record GivenBy {X Y : Type 0} (f : X → List Y) (y : Y) (xs : List X) : Type 0 where
  pub by : X
  pub among : Among by xs
  pub gives : Among y (f by)

given_first : {X Y : Type 0} (f : X → List Y) (y : Y) (z : X) (xs : List X) → Among y (f z) ⊎ GivenBy f y xs → GivenBy f y (z ∷ xs)
given_first f y z xs (inl h) = record { by = z; among = inl refl; gives = h }
given_first f y z xs (inr g) = record { by = g.by; among = inr g.among; gives = g.gives }

given_part : {X Y : Type 0} (f : X → List Y) (y : Y) (z : X) (xs : List X) → (Among y (gathered f xs) → GivenBy f y xs) → Among y (f z) ⊎ Among y (gathered f xs) → Among y (f z) ⊎ GivenBy f y xs
given_part f y z xs go (inl h) = inl h
given_part f y z xs go (inr h) = inr (go h)

pub given_by : {X Y : Type 0} (f : X → List Y) (y : Y) (xs : List X) → Among y (gathered f xs) → GivenBy f y xs
given_by f y [] h = absurd h
given_by f y (z ∷ xs) h = given_first f y z xs (given_part f y z xs (given_by f y xs) (among_either y (f z) (gathered f xs) h))

pub reordered_gathered : {X Y : Type 0} (f : X → List Y) {xs ys : List X} → Reordered xs ys → Reordered (gathered f xs) (gathered f ys)
reordered_gathered f {xs = xs} {ys = ys} r = record {
  sums = λ w. tot-gathered f w xs ∙ r.sums (λ x. tot w (f x)) ∙ sym (tot-gathered f w ys);
  to = λ y h. let g = given_by f y xs h in given_among f y g.by ys (r.to g.by g.among) g.gives;
  from = λ y h. let g = given_by f y ys h in given_among f y g.by xs (r.from g.by g.among) g.gives;
}

-- THE FIRST ITEM THAT PASSES A TEST

abbrev pub picked : {X Y : Type 0} → (X → Bool) → (X → Y) → List X → Option Y
picked t v [] = None
picked t v (x ∷ xs) = if t x then Some (v x) else picked t v xs

pub record Found {X Y : Type 0} (t : X → Bool) (v : X → Y) (xs : List X) (y : Y) : Type 0 where
  pub item : X
  pub among : Among item xs
  pub passes : t item ≡ true
  pub is : v item ≡ y

pub found : {X Y : Type 0} (t : X → Bool) (v : X → Y) (xs : List X) (y : Y) → picked t v xs ≡ Some y → Found t v xs y
found t v [] y e = absurd (cc e)
found {Y = Y} t v (x ∷ xs) y e = by (t x) refl e (found t v xs y)
  where
    by : (b : Bool) → t x ≡ b → (if b then Some (v x) else picked t v xs) ≡ Some y → (picked t v xs ≡ Some y → Found t v xs y) → Found t v (x ∷ xs) y
    by true q e go = record { item = x; among = inl refl; passes = q; is = let s : v x ≡ y = cc in s }
    by false q e go = let f = go e in record { item = f.item; among = inr f.among; passes = f.passes; is = f.is }

pub none_passes : {X Y : Type 0} (t : X → Bool) (v : X → Y) (xs : List X) → picked t v xs ≡ None → (x : X) → Among x xs → t x ≡ true → ⊥
none_passes t v [] e x h q = h
none_passes t v (z ∷ xs) e x h q = by (t z) refl e (λ d g. none_passes t v xs d x g q) h
  where
    by : (b : Bool) → t z ≡ b → (if b then Some (v z) else picked t v xs) ≡ None → (picked t v xs ≡ None → Among x xs → ⊥) → (z ≡ x) ⊎ Among x xs → ⊥
    by true p e go h = cc e
    by false p e go (inl s) = let f : true ≡ false = sym q ∙ (ap t (sym s) ∙ p) in cc f
    by false p e go (inr h) = go e h

-- where all that pass tell the same, it is picked in whatever order
pub picked_same : {X Y : Type 0} (t : X → Bool) (v : X → Y) {xs ys : List X} → Reordered xs ys → ((x : X) → Among x ys → t x ≡ true → picked t v ys ≡ Some (v x)) → picked t v xs ≡ picked t v ys
picked_same {X = X} {Y = Y} t v {xs = xs} {ys = ys} r tells = by (picked t v xs) refl
  where
    none : (o : Option Y) → picked t v ys ≡ o → picked t v xs ≡ None → None ≡ o
    none None f e = refl
    none (Some y) f e = let g = found t v ys y f in absurd (none_passes t v xs e g.item (r.from g.item g.among) g.passes)

    by : (o : Option Y) → picked t v xs ≡ o → picked t v xs ≡ picked t v ys
    by None e = e ∙ none (picked t v ys) refl e
    by (Some y) e = let g = found t v xs y e in e ∙ sym (tells g.item (r.to g.item g.among) g.passes ∙ ap Some g.is)

-- COUNTS

pub counted : {X : Type 0} (t : X → Bool) (x : X) (xs : List X) → Among x xs → t x ≡ true → 1 ≤ tot (λ y. one (t y)) xs
counted t x [] h q = absurd h
counted t x (z ∷ xs) (inl e) q = omega (arith, ap one (ap t e ∙ q))
counted t x (z ∷ xs) (inr h) q = omega (arith, counted t x xs h q)

-- where at most one passes, it is picked
pub one_picked : {X Y : Type 0} (t : X → Bool) (v : X → Y) (xs : List X) → tot (λ y. one (t y)) xs ≤ 1 → (x : X) → Among x xs → t x ≡ true → picked t v xs ≡ Some (v x)
one_picked t v [] few x h q = absurd h
one_picked t v (z ∷ xs) few x h q = by (t z) refl (λ g. one_picked t v xs (omega (arith, few)) x g q) h
  where
    by : (b : Bool) → t z ≡ b → (Among x xs → picked t v xs ≡ Some (v x)) → (z ≡ x) ⊎ Among x xs → picked t v (z ∷ xs) ≡ Some (v x)
    by true p go (inl s) = rw p (ap (λ u. Some (v u)) s)
    by true p go (inr h) = absurd (omega (arith, few, ap one p, counted t x xs h q))
    by false p go (inl s) = let f : true ≡ false = sym q ∙ (ap t (sym s) ∙ p) in absurd (cc f)
    by false p go (inr h) = rw p (go h)

-- some item passes
abbrev pub any : {X : Type 0} → (X → Bool) → List X → Bool
any t [] = false
any t (x ∷ xs) = t x || any t xs

pub or_some : (p : Bool) (n : ℕ) → p || some n ≡ some (one p + n)
or_some true n = ap some (let e : suc n ≡ 1 + n = omega arith in e)
or_some false n = ap some (let e : n ≡ 0 + n = omega arith in e)

pub any_some : {X : Type 0} (t : X → Bool) (xs : List X) → any t xs ≡ some (tot (λ x. one (t x)) xs)
any_some t [] = refl
any_some t (x ∷ xs) = ap (λ b. t x || b) (any_some t xs) ∙ or_some (t x) (tot (λ x. one (t x)) xs)

pub any_same : {X : Type 0} (t : X → Bool) {xs ys : List X} → Reordered xs ys → any t xs ≡ any t ys
any_same t {xs = xs} {ys = ys} r = any_some t xs ∙ ap some (r.sums (λ x. one (t x))) ∙ sym (any_some t ys)
