-- The nodes of places, and lists of numbers of nodes.
use Rattle.std.proofs.Common.{◌≡◌, ℕ, zero, suc, ◌+◌, ◌<◌, ◌≤◌, List, [], ◌∷◌, ◌++◌, length, take, refl, sym, ap, ◌∙◌, subst, arith}
use Rattle.std.specs.Prelude.{Some, slice_get, Box as Boxed}
use Rattle.std.specs.declared.alloc.Global.{Global}
use Rattle.fr_syntax.specs.declared.tree.Term.{Term}
use Rattle.fr_syntax.specs.declared.tree.Term.TheVariants.{Block, Let, Assign, Read, Dup, Borrow, BorrowMut, Number, Unit, Box, Print, Join, Mutex, Arith, Spawn, Par, Lock, Place, Capture}
use Rattle.fr_syntax.specs.Arena.{Arena}
use Rattle.fr_syntax.specs.Ordered.{IsArena}
use Rattle.fr_base.specs.Rooms.{WithRoom}
use Rattle.fr_syntax.specs.Meanings.{What, a_term, a_place, a_capture, Meaning, term_s, place_s, capture_s, as_place, as_capture, sort_of, meaning_at, stands_for, need, all_need, needs, nodes_in, meanings, AreBelow, AllBelow}
use Rattle.borrow_check.proofs.NodeLemmas.{here}
use Rattle.borrow_check.proofs.CheckLemmas.{needs_append}
use Rattle.borrow_check.specs.Programs.{Program}
use Rattle.fr_forms.specs.declared.forms.Captured.{Captured}
use Rattle.fr_forms.specs.Forming.{captured_in, captured_all}

-- PLACES

-- a meaning of the sort of places is one
pub as_place_is : (w : What) → sort_of w ≡ place_s → w ≡ a_place (as_place w)
as_place_is (a_place w) h = refl
as_place_is (a_term t) h = absurd cc
as_place_is (a_capture c) h = absurd cc

-- a meaning of the sort of captured names is one
pub as_capture_is : (w : What) → sort_of w ≡ capture_s → w ≡ a_capture (as_capture w)
as_capture_is (a_capture c) h = refl
as_capture_is (a_term t) h = absurd cc
as_capture_is (a_place w) h = absurd cc

-- a place or a captured name has no parts
no_needs : (names : List (List ℕ)) (ms : List Meaning) (at : ℕ) (m : Term) → (sort_of (stands_for names ms at m) ≡ term_s → ⊥) → needs m ≡ []
no_needs names ms at (Block items) h = absurd (h refl)
no_needs names ms at (Let name value) h = absurd (h refl)
no_needs names ms at (Assign to value) h = absurd (h refl)
no_needs names ms at (Read from) h = absurd (h refl)
no_needs names ms at (Dup of) h = absurd (h refl)
no_needs names ms at (Borrow of) h = absurd (h refl)
no_needs names ms at (BorrowMut of) h = absurd (h refl)
no_needs names ms at (Number value) h = absurd (h refl)
no_needs names ms at Unit h = absurd (h refl)
no_needs names ms at (Box value) h = absurd (h refl)
no_needs names ms at (Print value) h = absurd (h refl)
no_needs names ms at (Join task) h = absurd (h refl)
no_needs names ms at (Mutex value) h = absurd (h refl)
no_needs names ms at (Arith op left right) h = absurd (h refl)
no_needs names ms at (Spawn captures body) h = absurd (h refl)
no_needs names ms at (Par captures body others other) h = absurd (h refl)
no_needs names ms at (Lock of name body) h = absurd (h refl)
no_needs names ms at (Place name stars) h = refl
no_needs names ms at (Capture name) h = refl

-- a node that is no term is one of its own
node_alone : (a : Arena) (at : ℕ) → IsArena a → at < length (meanings a) → (sort_of (meaning_at (meanings a) at).what ≡ term_s → ⊥) → (meaning_at (meanings a) at).nodes ≡ at ∷ []
node_alone a at h lt other =
    let n = here a at h lt in
    n.1.nodes ∙ ap (λ l. nodes_in (meanings a) l ++ at ∷ []) (no_needs a.names (meanings a) n.0.place n.0.term (λ e. other (ap sort_of n.1.what ∙ e)))

-- a place is a node of its own, and so is a captured name
pub place_alone : (a : Arena) (at : ℕ) → IsArena a → at < length (meanings a) → sort_of (meaning_at (meanings a) at).what ≡ place_s → (meaning_at (meanings a) at).nodes ≡ at ∷ []
place_alone a at h lt sort = node_alone a at h lt (λ e. let two : place_s ≡ term_s = sym sort ∙ e in absurd cc)

pub name_alone : (a : Arena) (at : ℕ) → IsArena a → at < length (meanings a) → sort_of (meaning_at (meanings a) at).what ≡ capture_s → (meaning_at (meanings a) at).nodes ≡ at ∷ []
name_alone a at h lt sort = node_alone a at h lt (λ e. let two : capture_s ≡ term_s = sym sort ∙ e in absurd cc)

-- NAMES

-- names that stand before a node stand before all that come later
pub names_weaker : (ms : List Meaning) (m n : ℕ) (is : List ℕ) → m ≤ n → AreBelow ms m (all_need capture_s is) → AreBelow ms n (all_need capture_s is)
names_weaker ms m n [] le h = tt
names_weaker ms m n (i ∷ is) le h = let lt : i < m = h.0 in (omega (arith, lt, le), h.1, names_weaker ms m n is le h.2)

-- one of them
pub name_at : (ms : List Meaning) (n : ℕ) (is : List ℕ) (k j : ℕ) → AreBelow ms n (all_need capture_s is) → Some j ≡ slice_get is k → (j < n) × (sort_of (meaning_at ms j).what ≡ capture_s)
name_at ms n [] k j h e = absurd cc
name_at ms n (x ∷ is) zero j h e = let same : x ≡ j = cc in subst (λ i. (i < n) × (sort_of (meaning_at ms i).what ≡ capture_s)) same (h.0, h.1)
name_at ms n (x ∷ is) (suc k) j h e = name_at ms n is k j h.2 e

-- the names that a node captures stand before it
pub names_before : (ms : List Meaning) (at n : ℕ) (ids : List ℕ) (m : Term) (names : WithRoom ℕ) (body : ℕ) → AreBelow ms at (needs m) → m ≡ Spawn names body → at ≤ n → ids ≡ names.items → AreBelow ms n (all_need capture_s ids)
names_before ms at n ids m names body h is le are =
    subst (λ l. AreBelow ms n (all_need capture_s l)) (sym are)
    (names_weaker ms at n names.items le (needs_append ms at (all_need capture_s names.items) (need term_s body ∷ []) (subst (AreBelow ms at) (ap needs is) h)).0)

-- and so does its body
pub body_before : (ms : List Meaning) (at n b : ℕ) (m : Term) (names : WithRoom ℕ) (body : ℕ) → AreBelow ms at (needs m) → m ≡ Spawn names body → n ≡ at → b ≡ body → b < n
body_before ms at n b m names body h is same are =
    let below = needs_append ms at (all_need capture_s names.items) (need term_s body ∷ []) (subst (AreBelow ms at) (ap needs is) h) in
    omega (arith, below.1.0, same, are)

-- the block of a lock
pub locked_before : (ms : List Meaning) (at n b : ℕ) (m : Term) (of name body : ℕ) → AreBelow ms at (needs m) → m ≡ Lock of name body → n ≡ at → b ≡ body → b < n
locked_before ms at n b m of name body h is same are =
    let below = subst (AreBelow ms at) (ap needs is) h in
    omega (arith, below.2.0, same, are)

-- the names and the bodies of a pair
pub record Pair (ms : List Meaning) (at : ℕ) (names : List ℕ) (body : ℕ) (others : List ℕ) (other : ℕ) : Type 0 where
  pub names_before : AreBelow ms at (all_need capture_s names)
  pub body_before : body < at
  pub others_before : AreBelow ms at (all_need capture_s others)
  pub other_before : other < at

pub pair_before : (ms : List Meaning) (at : ℕ) (m : Term) (names : Boxed (WithRoom ℕ) Global) (body : ℕ) (others : Boxed (WithRoom ℕ) Global) (other : ℕ) → AreBelow ms at (needs m) → m ≡ Par names body others other → Pair ms at names.value.items body others.value.items other
pair_before ms at m names body others other h is =
    let back = needs_append ms at (all_need capture_s names.value.items ++ (need term_s body ∷ all_need capture_s others.value.items)) (need term_s other ∷ []) (subst (AreBelow ms at) (ap needs is) h) in
    let front = needs_append ms at (all_need capture_s names.value.items) (need term_s body ∷ all_need capture_s others.value.items) back.0 in
    record { names_before = front.0; body_before = front.1.0; others_before = front.1.2; other_before = back.1.0 }

-- LISTS

-- one number more is taken
pub taken_next : (is : List ℕ) (k j : ℕ) → Some j ≡ slice_get is k → take k is ++ j ∷ [] ≡ take (k + 1) is
taken_next [] k j h = absurd cc
taken_next (x ∷ is) zero j h = let same : x ≡ j = cc in ap (λ n. n ∷ []) (sym same)
taken_next (x ∷ is) (suc k) j h = let same : suc (k + 1) ≡ suc k + 1 = omega arith in ap (λ l. x ∷ l) (taken_next is k j h) ∙ ap (λ n. take n (x ∷ is)) same

pub all_at : (n : ℕ) (is : List ℕ) (k j : ℕ) → AllBelow n is → Some j ≡ slice_get is k → j < n
all_at n [] k j h e = absurd cc
all_at n (x ∷ is) zero j h e = let same : x ≡ j = cc in omega (arith, h.0, same)
all_at n (x ∷ is) (suc k) j h e = all_at n is k j h.1 e

-- one captured slot more
pub captured_next : (p : Program) (is : List ℕ) (k j : ℕ) (c : Captured) → c ≡ captured_in p j → Some j ≡ slice_get is k → captured_all p (take k is) ++ c ∷ [] ≡ captured_all p (take (k + 1) is)
captured_next p is k j c is_one h = ap (λ x. captured_all p (take k is) ++ x ∷ []) is_one ∙ onto (take k is) ∙ ap (captured_all p) (taken_next is k j h)
  where
    onto : (ks : List ℕ) → captured_all p ks ++ captured_in p j ∷ [] ≡ captured_all p (ks ++ j ∷ [])
    onto [] = refl
    onto (x ∷ ks) = ap (λ l. captured_in p x ∷ l) (onto ks)
