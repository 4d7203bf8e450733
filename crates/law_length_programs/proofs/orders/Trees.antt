-- A tree's root is made of as many nodes as its term has.
use Rattle.std.proofs.Common.{◌≡◌, ◌<◌, ℕ, zero, suc, ◌+◌, List, [], ◌∷◌, ◌++◌, length, refl, sym, ap, ◌∙◌, arith, length-append, get_or}
use Rattle.std.proofs.lemmas.Option.{get_or_from_slice_get, slice_get-get_or}
use Rattle.fr_base.specs.Lists.{tot}
use Rattle.fr_terms.specs.Terms.{Text}
use Rattle.fr_syntax.specs.declared.tree.Term.{Term}
use Rattle.fr_syntax.specs.declared.tree.Term.TheVariants.{Block, Let, Assign, Read, Dup, Borrow, BorrowMut, Number, Unit, Box, Print, Join, Mutex, Arith, Spawn, Par, Lock, Place, Capture}
use Rattle.fr_syntax.specs.declared.tree.Node.{Node}
use Rattle.fr_syntax.specs.Arena.{Arena}
use Rattle.fr_syntax.specs.Ordered.{IsArena}
use Rattle.fr_syntax.specs.Meanings.{What, a_term, a_place, a_capture, Meaning, term_s, place_s, capture_s, sort_of, as_term, meaning_at, items_at, captures_at, stands_for, Need, all_need, needs, nodes_in, meanings, root_of, AreBelow}
use Rattle.fr_syntax.proofs.TreeLemmas.{IsNode, node_here}
use Rattle.law_length_programs.specs.sizes.Size.{nodes_of, nodes_in as item_nodes}
use Rattle.law_length_programs.specs.orders.Sources.{TreesHaveTheirNodes}

-- how many nodes what a node stands for has
abbrev weight : What → ℕ
weight (a_term t) = nodes_of t
weight (a_place w) = 1
weight (a_capture c) = 1

of_term : (w : What) → sort_of w ≡ term_s → nodes_of (as_term w) ≡ weight w
of_term (a_term t) e = refl
of_term (a_place w) e = absurd (cc e)
of_term (a_capture c) e = absurd (cc e)

of_place : (w : What) → sort_of w ≡ place_s → weight w ≡ 1
of_place (a_term t) e = absurd (cc e)
of_place (a_place w) e = refl
of_place (a_capture c) e = absurd (cc e)

of_capture : (w : What) → sort_of w ≡ capture_s → weight w ≡ 1
of_capture (a_term t) e = absurd (cc e)
of_capture (a_place w) e = absurd (cc e)
of_capture (a_capture c) e = refl

module _ (ms : List Meaning) where
  -- of a part
  abbrev part : Need → ℕ
  part x = weight (meaning_at ms x.node).what

  below_left : (n : ℕ) (xs ys : List Need) → AreBelow ms n (xs ++ ys) → AreBelow ms n xs
  below_left n [] ys b = tt
  below_left n (x ∷ xs) ys (l, s, b) = (l, s, below_left n xs ys b)

  below_right : (n : ℕ) (xs ys : List Need) → AreBelow ms n (xs ++ ys) → AreBelow ms n ys
  below_right n [] ys b = b
  below_right n (x ∷ xs) ys (l, s, b) = below_right n xs ys b

  parts_more : (xs ys : List Need) → tot part (xs ++ ys) ≡ tot part xs + tot part ys
  parts_more [] ys = omega arith
  parts_more (x ∷ xs) ys = omega (arith, parts_more xs ys)

  items_weigh : (n : ℕ) (ks : List ℕ) → AreBelow ms n (all_need term_s ks) → item_nodes (items_at ms ks) ≡ tot part (all_need term_s ks)
  items_weigh n [] b = refl
  items_weigh n (k ∷ ks) (l, s, b) = omega (arith, of_term (meaning_at ms k).what s, items_weigh n ks b)

  captures_weigh : (n : ℕ) (ks : List ℕ) → AreBelow ms n (all_need capture_s ks) → length (captures_at ms ks) ≡ tot part (all_need capture_s ks)
  captures_weigh n [] b = refl
  captures_weigh n (k ∷ ks) (l, s, b) = omega (arith, of_capture (meaning_at ms k).what s, captures_weigh n ks b)

  one_term : (n k : ℕ) (xs : List Need) → AreBelow ms n (record { node = k; sort = term_s } ∷ xs) → nodes_of (as_term (meaning_at ms k).what) ≡ weight (meaning_at ms k).what
  one_term n k xs (l, s, b) = of_term (meaning_at ms k).what s

  one_place : (n k : ℕ) (xs : List Need) → AreBelow ms n (record { node = k; sort = place_s } ∷ xs) → weight (meaning_at ms k).what ≡ 1
  one_place n k xs (l, s, b) = of_place (meaning_at ms k).what s

  -- a node has its parts' nodes and itself
  stands_weigh : (names : List Text) (at n : ℕ) (t : Term) → AreBelow ms n (needs t) → weight (stands_for names ms at t) ≡ tot part (needs t) + 1
  stands_weigh names at n (Block items) b = omega (arith, items_weigh n items.items b)
  stands_weigh names at n (Let name value) b = omega (arith, one_term n value [] b)
  stands_weigh names at n (Assign to value) (l, s, b) = omega (arith, of_place (meaning_at ms to).what s, one_term n value [] b)
  stands_weigh names at n (Read from) b = omega (arith, one_place n from [] b)
  stands_weigh names at n (Dup of) b = omega (arith, one_place n of [] b)
  stands_weigh names at n (Borrow of) b = omega (arith, one_place n of [] b)
  stands_weigh names at n (BorrowMut of) b = omega (arith, one_place n of [] b)
  stands_weigh names at n (Number value) b = refl
  stands_weigh names at n Unit b = refl
  stands_weigh names at n (Box value) b = omega (arith, one_term n value [] b)
  stands_weigh names at n (Print value) b = omega (arith, one_term n value [] b)
  stands_weigh names at n (Join task) b = omega (arith, one_term n task [] b)
  stands_weigh names at n (Mutex value) b = omega (arith, one_term n value [] b)
  stands_weigh names at n (Arith op left right) (l, s, b) = omega (arith, of_term (meaning_at ms left).what s, one_term n right [] b)
  stands_weigh names at n (Lock of name body) (l, s, b) = omega (arith, of_place (meaning_at ms of).what s, one_term n body [] b)
  stands_weigh names at n (Place name stars) b = refl
  stands_weigh names at n (Capture name) b = refl
  stands_weigh names at n (Spawn captures body) b =
      let cs = all_need capture_s captures.items in
      let rest : List Need = record { node = body; sort = term_s } ∷ [] in
      omega (arith, captures_weigh n captures.items (below_left n cs rest b), one_term n body [] (below_right n cs rest b), parts_more cs rest)
  stands_weigh names at n (Par captures body others other) b =
      let cs = all_need capture_s captures.value.items in
      let ds = all_need capture_s others.value.items in
      let last : List Need = record { node = other; sort = term_s } ∷ [] in
      let rest : List Need = record { node = body; sort = term_s } ∷ ds in
      let before = below_left n (cs ++ rest) last b in
      let later = below_right n cs rest before in
      omega (
        arith,
        captures_weigh n captures.value.items (below_left n cs rest before),
        one_term n body ds later,
        captures_weigh n others.value.items later.2,
        one_term n other [] (below_right n (cs ++ rest) last b),
        parts_more (cs ++ rest) last,
        parts_more cs rest,
      )

  -- so many nodes is it made of
  abbrev Weighs : ℕ → Type 0
  Weighs k = weight (meaning_at ms k).what ≡ length (meaning_at ms k).nodes

  parts_weigh : (n : ℕ) (xs : List Need) → AreBelow ms n xs → ((j : ℕ) → j < n → Weighs j) → length (nodes_in ms xs) ≡ tot part xs
  parts_weigh n [] b go = refl
  parts_weigh n (x ∷ xs) (l, s, b) go = omega (arith, length-append (meaning_at ms x.node).nodes (nodes_in ms xs), go x.node l, parts_weigh n xs b go)

module _ (a : Arena) (is : IsArena a) where
  -- up to each node
  all_weigh : (n : ℕ) → ((j : ℕ) → j < n → j < length a.nodes) → (j : ℕ) → j < n → Weighs (meanings a) j
  all_weigh zero within j l = absurd (omega (arith, l))
  all_weigh (suc n) within j l = weighs (λ i less. all_weigh n (λ i2 m. within i2 (omega (arith, m))) i (omega (arith, less, l))) (node_here a j x is (within j l) (sym (get_or_from_slice_get a.nodes j x x (slice_get-get_or a.nodes j default (within j l)))))
    where
      default : Node
      default = record { place = 0; term = Unit }

      x : Node
      x = get_or a.nodes j default

      ms : List Meaning
      ms = meanings a

      weighs : ((i : ℕ) → i < j → Weighs ms i) → IsNode a.names ms j x → Weighs ms j
      weighs go node =
          let below = node.parts in
          let rest = parts_weigh ms j (needs x.term) below go in
          let whole = stands_weigh ms a.names x.place j x.term below in
          let what = ap weight node.what in
          let nodes = ap length node.nodes in
          let long = length-append (nodes_in ms (needs x.term)) (j ∷ []) in
          omega (arith, rest, whole, what, nodes, long)

pub trees_have_their_nodes : TreesHaveTheirNodes
trees_have_their_nodes a is tree =
    let root = root_of a in
    let some = tree.some in
    of_term (meaning_at (meanings a) root).what tree.sort ∙ all_weigh a is (length a.nodes) (λ j l. l) root (omega (arith, some))
