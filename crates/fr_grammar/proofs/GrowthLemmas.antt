-- A tree that grows by a node, a part at a time.
use Rattle.std.proofs.Common.{◌≡◌, ℕ, zero, suc, ◌+◌, ◌-◌, ◌<◌, ◌≤◌, ◌==◌, ◌||◌, ◌≢◌, false, List, [], ◌∷◌, ◌++◌, length, refl, sym, ap, ap₂, ◌∙◌, subst, arith, append_assoc}
use Rattle.std.proofs.lemmas.List.{append-nil}
use Rattle.std.proofs.lemmas.Bool.{ne_eqb}
use Rattle.std.specs.List.{range_with_len, list_any}
use Rattle.fr_syntax.specs.declared.tree.Term.{Term}
use Rattle.fr_syntax.specs.Arena.{Arena}
use Rattle.fr_syntax.specs.Meanings.{Meaning, Sort, term_s, capture_s, as_term, as_capture, captures_at, sort_of, meaning_at, meanings, stands_for, Need, need, all_need, needs, nodes_in, build, AreBelow, Keeps, AreDifferent, IsTree, root_of, term_at, term_of}
use Rattle.fr_grammar.specs.Growth.{between, IsGrown, AreGrown, branch_parts}
use Rattle.fr_syntax.proofs.TreeLemmas.{length_meanings, same_below, below_same, nodes_in-same}

-- numbers in a row, and those behind them
range-join : (a m n : ℕ) → range_with_len a m ++ range_with_len (a + m) n ≡ range_with_len a (m + n)
range-join a zero n =
    let here : a + 0 ≡ a = omega arith in
    let none : 0 + n ≡ n = omega arith in
    ap (λ x. range_with_len x n) here ∙ ap (range_with_len a) (sym none)
range-join a (suc m) n =
    let here : a + suc m ≡ a + 1 + m = omega arith in
    let more : suc m + n ≡ suc (m + n) = omega arith in
    ap (λ x. a ∷ (range_with_len (a + 1) m ++ range_with_len x n)) here ∙ ap (λ l. a ∷ l) (range-join (a + 1) m n) ∙ ap (range_with_len a) (sym more)

-- numbers up to a middle, and from there on
between-join : (a b c : ℕ) → a ≤ b → b ≤ c → between a b ++ between b c ≡ between a c
between-join a b c h k =
    let at : a + (b - a) ≡ b = omega arith in
    let len : (b - a) + (c - b) ≡ c - a = omega arith in
    ap (λ x. range_with_len a (b - a) ++ range_with_len x (c - b)) (sym at) ∙ range-join a (b - a) (c - b) ∙ ap (range_with_len a) len

-- one number
between-one : (b c : ℕ) → c ≡ b + 1 → between b c ≡ b ∷ []
between-one b c e = let one : c - b ≡ 1 = omega arith in ap (range_with_len b) one

-- no number
between-none : (b : ℕ) → between b b ≡ []
between-none b = let none : b - b ≡ 0 = omega arith in ap (range_with_len b) none

-- a smaller number is not in the row
not_among : (k a n : ℕ) → k < a → list_any (λ j. j == k) (range_with_len a n) ≡ false
not_among k a zero h = refl
not_among k a (suc n) h =
    let other : a ≢ k = λ e. absurd (omega arith) in
    ap (λ b. b || list_any (λ j. j == k) (range_with_len (a + 1) n)) (ne_eqb a k other) ∙ not_among k (a + 1) n (omega arith)

-- no number stands twice in such a list
pub range_different : (a n : ℕ) → AreDifferent (range_with_len a n)
range_different a zero = tt
range_different a (suc n) = (not_among a (a + 1) n (omega arith), range_different (a + 1) n)

-- what is kept twice is kept
pub keeps_on : (a b c : List Meaning) → Keeps a b → Keeps b c → Keeps a c
keeps_on a b c h k = record {
  longer = omega (arith, h.longer, k.longer);
  same = λ n below. k.same n (omega (arith, h.longer, below)) ∙ h.same n below;
}

-- no part yet
pub grown_none : (t : Arena) → AreGrown t t []
grown_none t = record { names = refl; keeps = record { longer = omega arith; same = λ k h. refl }; below = tt; own = sym (between-none (length (meanings t))) }

-- one part
pub grown_first : (t0 t1 : Arena) (s : Sort) (k : ℕ) → IsGrown s t0 t1 k → AreGrown t0 t1 (need s k ∷ [])
grown_first t0 t1 s k one = record { names = one.names; keeps = one.keeps; below = (omega (arith, one.last), one.sorted, tt); own = append-nil (meaning_at (meanings t1) k).nodes ∙ one.own }

-- the nodes of two lists of parts
nodes_in-append : (ms : List Meaning) (xs ys : List Need) → nodes_in ms (xs ++ ys) ≡ nodes_in ms xs ++ nodes_in ms ys
nodes_in-append ms [] ys = refl
nodes_in-append ms (x ∷ xs) ys = ap (λ l. (meaning_at ms x.node).nodes ++ l) (nodes_in-append ms xs ys) ∙ sym (append_assoc (meaning_at ms x.node).nodes (nodes_in ms xs) (nodes_in ms ys))

-- two lists of parts that stand before a node
below-append : (ms : List Meaning) (n : ℕ) (xs ys : List Need) → AreBelow ms n xs → AreBelow ms n ys → AreBelow ms n (xs ++ ys)
below-append ms n [] ys h k = k
below-append ms n (x ∷ xs) ys h k = (h.0, h.1, below-append ms n xs ys h.2 k)

-- the first of the parts that stand before a node
below-front : (ms : List Meaning) (n : ℕ) (xs ys : List Need) → AreBelow ms n (xs ++ ys) → AreBelow ms n xs
below-front ms n [] ys h = tt
below-front ms n (x ∷ xs) ys h = (h.0, h.1, below-front ms n xs ys h.2)

-- and the last
below-back : (ms : List Meaning) (n : ℕ) (xs ys : List Need) → AreBelow ms n (xs ++ ys) → AreBelow ms n ys
below-back ms n [] ys h = h
below-back ms n (x ∷ xs) ys h = below-back ms n xs ys h.2

-- parts, and more parts after them
pub grown_join : (t0 t1 t2 : Arena) (xs ys : List Need) → AreGrown t0 t1 xs → AreGrown t1 t2 ys → AreGrown t0 t2 (xs ++ ys)
grown_join t0 t1 t2 xs ys some more =
    let same = same_below (meanings t1) (meanings t2) (length (meanings t1)) xs more.keeps.same some.below in
    let front = below_same (meanings t1) (meanings t2) (length (meanings t1)) (length (meanings t2)) xs more.keeps.longer same some.below in
    record {
      names = more.names ∙ some.names;
      keeps = keeps_on (meanings t0) (meanings t1) (meanings t2) some.keeps more.keeps;
      below = below-append (meanings t2) (length (meanings t2)) xs ys front more.below;
      own =
          nodes_in-append (meanings t2) xs ys
          ∙ ap₂ (λ a b. a ++ b) (nodes_in-same (meanings t1) (meanings t2) xs same ∙ some.own) more.own
          ∙ between-join (length (meanings t0)) (length (meanings t1)) (length (meanings t2)) some.keeps.longer more.keeps.longer;
    }

-- parts, and one part after them
pub grown_part : (t0 t1 t2 : Arena) (xs : List Need) (s : Sort) (k : ℕ) → AreGrown t0 t1 xs → IsGrown s t1 t2 k → AreGrown t0 t2 (xs ++ need s k ∷ [])
grown_part t0 t1 t2 xs s k some one = grown_join t0 t1 t2 xs (need s k ∷ []) some (grown_first t1 t2 s k one)

-- two parts
pub grown_pair : (t0 t1 t2 : Arena) (s r : Sort) (j k : ℕ) → IsGrown s t0 t1 j → IsGrown r t1 t2 k → AreGrown t0 t2 (need s j ∷ need r k ∷ [])
grown_pair t0 t1 t2 s r j k one two = grown_part t0 t1 t2 (need s j ∷ []) r k (grown_first t0 t1 s j one) two

-- the parts of a list with one more
all_need-push : (s : Sort) (ks : List ℕ) (k : ℕ) → all_need s (ks ++ k ∷ []) ≡ all_need s ks ++ need s k ∷ []
all_need-push s [] k = refl
all_need-push s (x ∷ xs) k = ap (λ l. need s x ∷ l) (all_need-push s xs k)

-- parts of one sort, and one more of it
pub grown_push : (t0 t1 t2 : Arena) (s : Sort) (ks ks' : List ℕ) (k : ℕ) → AreGrown t0 t1 (all_need s ks) → IsGrown s t1 t2 k → ks' ≡ ks ++ k ∷ [] → AreGrown t0 t2 (all_need s ks')
grown_push t0 t1 t2 s ks ks' k some one pushed =
    subst (AreGrown t0 t2) (sym (ap (all_need s) pushed ∙ all_need-push s ks k)) (grown_part t0 t1 t2 (all_need s ks) s k some one)

-- the parts of two branches
pub grown_branches : (t0 t1 t2 : Arena) (cs ds : List ℕ) (b d : ℕ) → AreGrown t0 t1 (branch_parts cs b) → AreGrown t1 t2 (branch_parts ds d) → AreGrown t0 t2 (all_need capture_s cs ++ need term_s b ∷ all_need capture_s ds ++ need term_s d ∷ [])
grown_branches t0 t1 t2 cs ds b d one two =
    let xs = all_need capture_s cs in
    let ys = all_need capture_s ds in
    let split : branch_parts cs b ++ branch_parts ds d ≡ xs ++ need term_s b ∷ ys ++ need term_s d ∷ [] =
    sym (append_assoc (branch_parts cs b) ys (need term_s d ∷ [])) ∙ ap (λ l. l ++ need term_s d ∷ []) (append_assoc xs (need term_s b ∷ []) ys)
    in
    subst (AreGrown t0 t2) split (grown_join t0 t1 t2 (branch_parts cs b) (branch_parts ds d) one two)

-- a node over all that is new
pub grown_node : (t0 t1 t2 : Arena) (n place : ℕ) (term : Term) (s : Sort) → AreGrown t0 t1 (needs term) → n ≡ length (meanings t1) → length (meanings t2) ≡ length (meanings t1) + 1 → t2.names ≡ t1.names → meaning_at (meanings t2) n ≡ build t1.names (meanings t1) place term → Keeps (meanings t1) (meanings t2) → sort_of (stands_for t1.names (meanings t1) place term) ≡ s → IsGrown s t0 t2 n
grown_node t0 t1 t2 n place term s parts number len names meaning keeps sort =
    let low : length (meanings t0) ≤ length (meanings t1) = parts.keeps.longer in
    let high : length (meanings t1) ≤ length (meanings t2) = omega arith in
    record {
      names = names ∙ parts.names;
      keeps = keeps_on (meanings t0) (meanings t1) (meanings t2) parts.keeps keeps;
      last = omega arith;
      sorted = ap (λ (m : Meaning). sort_of m.what) meaning ∙ sort;
      own =
          ap (λ (m : Meaning). m.nodes) meaning
          ∙ ap₂ (λ a b. a ++ b) parts.own (sym (between-one (length (meanings t1)) (length (meanings t2)) len))
          ∙ between-join (length (meanings t0)) (length (meanings t1)) (length (meanings t2)) low high;
    }

-- a node without parts
pub grown_leaf : (t1 t2 : Arena) (n place : ℕ) (term : Term) (s : Sort) → n ≡ length (meanings t1) → length (meanings t2) ≡ length (meanings t1) + 1 → t2.names ≡ t1.names → meaning_at (meanings t2) n ≡ build t1.names (meanings t1) place term → Keeps (meanings t1) (meanings t2) → sort_of (stands_for t1.names (meanings t1) place term) ≡ s → needs term ≡ [] → IsGrown s t1 t2 n
grown_leaf t1 t2 n place term s number len names meaning keeps sort none =
    grown_node t1 t1 t2 n place term s (subst (AreGrown t1 t1) (sym none) (grown_none t1)) number len names meaning keeps sort

-- captured names that stand before a node are kept
captures_stay : (old new : List Meaning) (n : ℕ) (ks : List ℕ) → n ≤ length old → AreBelow old n (all_need capture_s ks) → Keeps old new → captures_at new ks ≡ captures_at old ks
captures_stay old new n [] le h keeps = refl
captures_stay old new n (x ∷ xs) le h keeps =
    ap (λ (m : Meaning). as_capture m.what ∷ captures_at new xs) (keeps.same x (omega (arith, h.0))) ∙ ap (λ l. as_capture (meaning_at old x).what ∷ l) (captures_stay old new n xs le h.2 keeps)

-- new captured names are kept
pub captures_kept : (t0 t1 : Arena) (ms : List Meaning) (ks : List ℕ) → AreGrown t0 t1 (all_need capture_s ks) → Keeps (meanings t1) ms → captures_at ms ks ≡ captures_at (meanings t1) ks
captures_kept t0 t1 ms ks some keeps = captures_stay (meanings t1) ms (length (meanings t1)) ks (omega arith) some.below keeps

-- a new branch is kept: its captured names and its body
pub branch_kept : (t0 t1 : Arena) (ms : List Meaning) (ks : List ℕ) (b : ℕ) → AreGrown t0 t1 (branch_parts ks b) → Keeps (meanings t1) ms → (captures_at ms ks ≡ captures_at (meanings t1) ks) × (term_at ms b ≡ term_at (meanings t1) b)
branch_kept t0 t1 ms ks b some keeps =
    let n = length (meanings t1) in
    let front = below-front (meanings t1) n (all_need capture_s ks) (need term_s b ∷ []) some.below in
    let back = below-back (meanings t1) n (all_need capture_s ks) (need term_s b ∷ []) some.below in
    (captures_stay (meanings t1) ms n ks (omega arith) front keeps, ap (λ (m : Meaning). as_term m.what) (keeps.same b back.0))

-- where nothing was before, the new term is the tree's
pub tree_done : (old new : Arena) (n : ℕ) → meanings old ≡ [] → IsGrown term_s old new n → IsTree new × (term_at (meanings new) n ≡ term_of new)
tree_done old new n empty h =
    let len = length_meanings new in
    let none : length (meanings old) ≡ 0 = ap length empty in
    let root : n ≡ root_of new = omega (arith, h.last, len) in
    let own : (meaning_at (meanings new) n).nodes ≡ range_with_len 0 (length (meanings new) - 0) = h.own ∙ ap (λ a. between a (length (meanings new))) none in (
      record {
        some = omega (arith, h.last, len);
        sort = ap (λ k. sort_of (meaning_at (meanings new) k).what) (sym root) ∙ h.sorted;
        own = subst AreDifferent (sym own ∙ ap (λ k. (meaning_at (meanings new) k).nodes) root) (range_different 0 (length (meanings new) - 0));
      },
      ap (term_at (meanings new)) root,
    )
