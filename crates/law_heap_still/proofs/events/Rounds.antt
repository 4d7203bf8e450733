-- As many rounds as there are things find all that is in the state: each round that finds something new makes one thing more count.
use Rattle.std.proofs.Common.{◌≡◌, ◌⊎◌, inl, inr, ⊎_elim, ℕ, zero, suc, ◌≤◌, Bool, true, false, ◌||◌, List, [], ◌∷◌, length, refl, sym, ap, ap₂, subst, ◌∙◌, arith}
use Rattle.std.specs.Prelude.{nat_le}
use Rattle.std.proofs.lemmas.Bool.Decides.{nat_tests}
use Rattle.law_counts_sums.specs.Below.coherent_memory.Names.{tot, one}
use Rattle.law_counts_sums.specs.Below.coherent_memory.Things.{Thing}
use Rattle.law_counts_sums.specs.Below.coherent_memory.Sight.{Sight}
use Rattle.law_counts_sums.specs.Below.coherent_memory.OneHeap.{Node, Owner, a_thread, inside, outside, names, owner_of, owner_in, named_in, any_named, in_state_by, is_in_state}

one_rises : (p q : Bool) → (p ≡ true → q ≡ true) → one p ≤ one q
one_rises true true f = omega arith
one_rises true false f = let e : false ≡ true = f refl in absurd (cc e)
one_rises false true f = omega arith
one_rises false false f = omega arith

same_test : (p q : Bool) → (p ≡ true → q ≡ true) → one q ≤ one p → p ≡ q
same_test true true f l = refl
same_test true false f l = sym (f refl)
same_test false true f l = absurd (omega (arith, l))
same_test false false f l = refl

one_at_most : (q : Bool) → one q ≤ 1
one_at_most true = omega arith
one_at_most false = omega arith

or_more : (a b c d : Bool) → (a ≡ true → c ≡ true) → (b ≡ true → d ≡ true) → a || b ≡ true → c || d ≡ true
or_more true b c d f g e = ap (λ q. q || d) (f refl)
or_more false b true d f g e = refl
or_more false b false d f g e = g e

-- who is in at least
abbrev pub Included : (Node → Bool) → (Node → Bool) → Type 0
Included f g = (n : Node) → f n ≡ true → g n ≡ true

owner_more : (f g : Node → Bool) → Included f g → (o : Owner) → owner_in f o ≡ true → owner_in g o ≡ true
owner_more f g up a_thread e = refl
owner_more f g up (inside n) e = up n e
owner_more f g up outside e = absurd (cc e)

named_more : (f g : Node → Bool) → Included f g → (q : Bool) (o : Owner) → named_in q f o ≡ true → named_in q g o ≡ true
named_more f g up true o e = owner_more f g up o e
named_more f g up false o e = absurd (cc e)

pub owner_same : (f g : Node → Bool) → ((n : Node) → f n ≡ g n) → (o : Owner) → owner_in f o ≡ owner_in g o
owner_same f g e a_thread = refl
owner_same f g e (inside n) = e n
owner_same f g e outside = refl

named_same : (f g : Node → Bool) (q : Bool) (o : Owner) → owner_in f o ≡ owner_in g o → named_in q f o ≡ named_in q g o
named_same f g true o e = e
named_same f g false o e = refl

-- a test of nodes alone counts, not how it was made
pub named_alike : (s : Sight) (f g : Node → Bool) → ((n : Node) → f n ≡ g n) → (n : Node) (b : List Thing) → any_named s f n b ≡ any_named s g n b
named_alike s f g e n [] = refl
named_alike s f g e n (x ∷ b) = ap₂ (λ p q. p || q) (named_same f g (names n x) (owner_of s x) (owner_same f g e (owner_of s x))) (named_alike s f g e n b)

module _ (s : Sight) where
  abbrev In : ℕ → Node → Bool
  In i n = in_state_by i s n

  pub any_more : (f g : Node → Bool) → Included f g → (n : Node) (b : List Thing) → any_named s f n b ≡ true → any_named s g n b ≡ true
  any_more f g up n [] e = absurd (cc e)
  any_more f g up n (x ∷ b) e =
      or_more (named_in (names n x) f (owner_of s x)) (any_named s f n b) (named_in (names n x) g (owner_of s x)) (any_named s g n b) (named_more f g up (names n x) (owner_of s x)) (any_more f g up n b) e

  -- who is in after so many rounds is so after more
  rising : (i : ℕ) → Included (In i) (In (suc i))
  rising zero n e = absurd (cc e)
  rising (suc i) n e = any_more (In i) (In (suc i)) (rising i) n s.things e

  -- THINGS WHOSE OWNER IS IN

  abbrev held : (Node → Bool) → Thing → ℕ
  held f x = one (owner_in f (owner_of s x))

  abbrev counted : ℕ → ℕ
  counted i = tot (held (In i)) s.things

  held_rise : (f g : Node → Bool) → Included f g → (b : List Thing) → tot (held f) b ≤ tot (held g) b
  held_rise f g up [] = omega arith
  held_rise f g up (x ∷ b) = omega (arith, one_rises (owner_in f (owner_of s x)) (owner_in g (owner_of s x)) (owner_more f g up (owner_of s x)), held_rise f g up b)

  -- where no more count, no more are named
  nothing_new : (f g : Node → Bool) → Included f g → (n : Node) (b : List Thing) → tot (held g) b ≤ tot (held f) b → any_named s f n b ≡ any_named s g n b
  nothing_new f g up n [] l = refl
  nothing_new f g up n (x ∷ b) l =
      let o = owner_of s x in
      let here : held f x ≤ held g x = one_rises (owner_in f o) (owner_in g o) (owner_more f g up o) in
      let rest = held_rise f g up b in
      let t : owner_in f o ≡ owner_in g o = same_test (owner_in f o) (owner_in g o) (owner_more f g up o) (omega (arith, l, rest)) in
      ap₂ (λ p q. p || q) (named_same f g (names n x) o t) (nothing_new f g up n b (omega (arith, l, here)))

  -- from that round on nothing is new
  abbrev Settled : ℕ → Type 0
  Settled k = (n : Node) → In (suc k) n ≡ In (suc (suc k)) n

  settled : (k : ℕ) → counted (suc k) ≤ counted k → Settled k
  settled k l n = nothing_new (In k) (In (suc k)) (rising k) n s.things l

  none_held : (f : Node → Bool) (n : Node) (b : List Thing) → tot (held f) b ≡ 0 → any_named s f n b ≡ false
  none_held f n [] z = refl
  none_held f n (x ∷ b) z = ap₂ (λ p q. p || q) (by (names n x) (owner_in f (owner_of s x)) refl (omega (arith, z))) (none_held f n b (omega (arith, z)))
    where
      by : (q r : Bool) → owner_in f (owner_of s x) ≡ r → one r ≡ 0 → named_in q f (owner_of s x) ≡ false
      by true true e z = absurd (cc z)
      by true false e z = e
      by false r e z = refl

  settled_first : counted 0 ≡ 0 → Settled 0
  settled_first z =
      let none : (n : Node) → In 1 n ≡ In 0 n = λ n. none_held (In 0) n s.things z in
      settled 0 (held_rise (In 1) (In 0) (λ n e. sym (none n) ∙ e) s.things)

  -- after each round one thing more counts, or nothing is new from some round on
  abbrev Reached : ℕ → Type 0
  Reached i = (suc i ≤ counted i) ⊎ ((k : ℕ) × ((k ≤ i) × Settled k))

  first_by : (m : ℕ) → counted 0 ≡ m → Reached 0
  first_by zero e = inr (0, (omega arith, settled_first e))
  first_by (suc m) e = inl (omega (arith, e))

  next_by : (i : ℕ) (q : Bool) → nat_le (counted (suc i)) (counted i) ≡ q → suc i ≤ counted i → Reached (suc i)
  next_by i true e g = inr (i, (omega arith, settled i (grind (arith, nat_tests, e))))
  next_by i false e g = let c : suc (counted i) ≤ counted (suc i) = grind (arith, nat_tests, e) in inl (omega (arith, c, g))

  later_too : (i : ℕ) → (k : ℕ) × ((k ≤ i) × Settled k) → Reached (suc i)
  later_too i p = let l : p.0 ≤ i = p.1.0 in inr (p.0, (omega (arith, l), p.1.1))

  reached : (i : ℕ) → Reached i
  reached zero = first_by (counted 0) refl
  reached (suc i) = ⊎_elim (λ g. next_by i (nat_le (counted (suc i)) (counted i)) refl g) (λ p. later_too i p) (reached i)

  few : (f : Node → Bool) (b : List Thing) → tot (held f) b ≤ length b
  few f [] = omega arith
  few f (x ∷ b) = omega (arith, one_at_most (owner_in f (owner_of s x)), few f b)

  settles : (j : ℕ) → length s.things ≡ suc j → (k : ℕ) × ((k ≤ j) × Settled k)
  settles j e =
      ⊎_elim (λ (g : suc j ≤ counted j). (j, (omega arith, settled j (omega (arith, g, e, few (In (suc j)) s.things))))) (λ (p : (k : ℕ) × ((k ≤ j) × Settled k)). p) (reached j)

  -- where nothing is new, all later rounds are the same
  stays : (k m : ℕ) → Settled k → suc k ≤ m → (n : Node) → In m n ≡ In (suc k) n
  stays k zero c l n = absurd (omega (arith, l))
  stays k (suc m) c l n = by (nat_le (suc k) m) refl (stays k m c)
    where
      by : (q : Bool) → nat_le (suc k) m ≡ q → (suc k ≤ m → (n : Node) → In m n ≡ In (suc k) n) → In (suc m) n ≡ In (suc k) n
      by true e go = named_alike s (In m) (In (suc k)) (go (grind (arith, nat_tests, e))) n s.things ∙ sym (c n)
      by false e go =
          let d : suc m ≤ suc k = grind (arith, nat_tests, e) in
          let same : m ≡ k = omega (arith, d, l) in
          ap (λ j. In (suc j) n) same

  up_to : (i m : ℕ) → i ≤ m → Included (In i) (In m)
  up_to i zero l n a = let same : i ≡ 0 = omega (arith, l) in subst (λ j. In j n ≡ true) same a
  up_to i (suc m) l n a = by (nat_le i m) refl (up_to i m)
    where
      by : (q : Bool) → nat_le i m ≡ q → (i ≤ m → Included (In i) (In m)) → In (suc m) n ≡ true
      by true e go = rising m n (go (grind (arith, nat_tests, e)) n a)
      by false e go =
          let d : suc m ≤ i = grind (arith, nat_tests, e) in
          let same : i ≡ suc m = omega (arith, d, l) in
          subst (λ j. In j n ≡ true) same a

  none_named : (f : Node → Bool) (n : Node) (b : List Thing) → length b ≡ 0 → any_named s f n b ≡ true → ⊥
  none_named f n [] z e = absurd (cc e)
  none_named f n (x ∷ b) z e = absurd (omega (arith, z))

  no_thing : (i : ℕ) (n : Node) → length s.things ≡ 0 → In i n ≡ true → ⊥
  no_thing zero n z e = absurd (cc e)
  no_thing (suc i) n z e = none_named (In i) n s.things z e

  -- what any number of rounds finds is in the state
  pub enough : (i : ℕ) (n : Node) → in_state_by i s n ≡ true → is_in_state s n ≡ true
  enough i n a = by (length s.things) refl
    where
      far : (j : ℕ) → length s.things ≡ suc j → (q : Bool) → nat_le i (length s.things) ≡ q → is_in_state s n ≡ true
      far j z true e = up_to i (length s.things) (grind (arith, nat_tests, e)) n a
      far j z false e =
          let p = settles j z in
          let l : p.0 ≤ j = p.1.0 in
          let d : suc (length s.things) ≤ i = grind (arith, nat_tests, e) in
          let late : In i n ≡ In (suc p.0) n = stays p.0 i p.1.1 (omega (arith, l, d, z)) n in
          let here : In (length s.things) n ≡ In (suc p.0) n = stays p.0 (length s.things) p.1.1 (omega (arith, l, z)) n in
          here ∙ sym late ∙ a

      by : (m : ℕ) → length s.things ≡ m → is_in_state s n ≡ true
      by zero z = absurd (no_thing i n z a)
      by (suc j) z = far j z (nat_le i (length s.things)) refl
