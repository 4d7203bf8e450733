-- Sums that agree and the count of names where they don't: the count is 0 exactly where they agree, if a thing shows each name that it has a weight for.
use Rattle.std.proofs.Common.{◌≡◌, ℕ, ◌≤◌, Bool, true, false, List, [], ◌∷◌, refl, arith}
use Rattle.std.specs.Prelude.{◌==◌, nat_le}
use Rattle.std.proofs.lemmas.Bool.Decides.{nat_tests}
use Rattle.coherent_memory.specs.Names.{tot, other}
use Rattle.coherent_memory.specs.Things.{Thing}
use Rattle.coherent_memory.specs.Balances.{Agree, AtMost, AtMostOne, differing, exceeding, repeated, disagree, too_many, more_than_one}

-- a thing that has a weight for a name shows the name
abbrev pub Sees : {I : Type 0} → (I → Thing → ℕ) → ((I → ℕ) → Thing → ℕ) → Type 0
Sees {I} f shown = (h : I → ℕ) (i : I) (x : Thing) → shown h x ≡ 0 → h i ≡ 1 → f i x ≡ 0

-- where no name has a weight, none is shown
abbrev pub Quiet : {I : Type 0} → ((I → ℕ) → Thing → ℕ) → Type 0
Quiet {I} shown = (h : I → ℕ) → ((i : I) → h i ≡ 0) → (x : Thing) → shown h x ≡ 0

-- a name that isn't shown has no sum
unseen : {I : Type 0} (f : I → Thing → ℕ) (shown : (I → ℕ) → Thing → ℕ) → Sees f shown → (h : I → ℕ) (i : I) → h i ≡ 1 → (b : List Thing) → tot (shown h) b ≡ 0 → tot (f i) b ≡ 0
unseen f shown s h i e [] z = refl
unseen f shown s h i e (x ∷ b) z =
    let here : shown h x ≡ 0 = omega (arith, z) in
    let rest : tot (shown h) b ≡ 0 = omega (arith, z) in
    omega (arith, s h i x here e, unseen f shown s h i e b rest)

no_sum : (f : Thing → ℕ) (b : List Thing) → ((x : Thing) → f x ≡ 0) → tot f b ≡ 0
no_sum f [] z = refl
no_sum f (x ∷ b) z = omega (arith, z x, no_sum f b z)

equal_by : (m n : ℕ) (q : Bool) → (m == n) ≡ q → (other q ≡ 1 → m ≡ n) → m ≡ n
equal_by m n true e go = grind (arith, nat_tests, e)
equal_by m n false e go = go refl

below_by : (m n : ℕ) (q : Bool) → nat_le m n ≡ q → (other q ≡ 1 → m ≤ n) → m ≤ n
below_by m n true e go = grind (arith, nat_tests, e)
below_by m n false e go = go refl

equal_none : (m n : ℕ) → m ≡ n → other (m == n) ≡ 0
equal_none m n e = let t : (m == n) ≡ true = grind (arith, nat_tests, e) in rw t refl

below_none : (m n : ℕ) → m ≤ n → other (nat_le m n) ≡ 0
below_none m n e = let t : nat_le m n ≡ true = grind (arith, nat_tests, e) in rw t refl

pub agree_from : {I : Type 0} (f g : I → Thing → ℕ) (shown : (I → ℕ) → Thing → ℕ) → Sees f shown → Sees g shown → (b : List Thing) → disagree f g shown b ≡ 0 → Agree f g b
agree_from f g shown sf sg b z i =
    equal_by (tot (f i) b) (tot (g i) b) (tot (f i) b == tot (g i) b) refl (λ e. omega (arith, unseen f shown sf (differing f g b) i e b z, unseen g shown sg (differing f g b) i e b z))

pub agree_none : {I : Type 0} (f g : I → Thing → ℕ) (shown : (I → ℕ) → Thing → ℕ) → Quiet shown → (b : List Thing) → Agree f g b → disagree f g shown b ≡ 0
agree_none f g shown q b a = no_sum (shown (differing f g b)) b (q (differing f g b) (λ i. equal_none (tot (f i) b) (tot (g i) b) (a i)))

pub at_most_from : {I : Type 0} (f g : I → Thing → ℕ) (shown : (I → ℕ) → Thing → ℕ) → Sees f shown → (b : List Thing) → too_many f g shown b ≡ 0 → AtMost f g b
at_most_from f g shown sf b z i =
    below_by (tot (f i) b) (tot (g i) b) (nat_le (tot (f i) b) (tot (g i) b)) refl (λ e. omega (arith, unseen f shown sf (exceeding f g b) i e b z))

pub at_most_none : {I : Type 0} (f g : I → Thing → ℕ) (shown : (I → ℕ) → Thing → ℕ) → Quiet shown → (b : List Thing) → AtMost f g b → too_many f g shown b ≡ 0
at_most_none f g shown q b a = no_sum (shown (exceeding f g b)) b (q (exceeding f g b) (λ i. below_none (tot (f i) b) (tot (g i) b) (a i)))

pub one_from : {I : Type 0} (f : I → Thing → ℕ) (shown : (I → ℕ) → Thing → ℕ) → Sees f shown → (b : List Thing) → more_than_one f shown b ≡ 0 → AtMostOne f b
one_from f shown sf b z i = below_by (tot (f i) b) 1 (nat_le (tot (f i) b) 1) refl (λ e. omega (arith, unseen f shown sf (repeated f b) i e b z))

pub one_none : {I : Type 0} (f : I → Thing → ℕ) (shown : (I → ℕ) → Thing → ℕ) → Quiet shown → (b : List Thing) → AtMostOne f b → more_than_one f shown b ≡ 0
one_none f shown q b a = no_sum (shown (repeated f b)) b (q (repeated f b) (λ i. below_none (tot (f i) b) 1 (a i)))
