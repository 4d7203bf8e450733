-- The terms of the nodes of a tree (this project's rule): what each node means, from the meanings before it.
use Rattle.std.specs.Prelude.{◌≡◌, ℕ, ◌-◌, ◌<◌, ◌≤◌, ◌==◌, false, ⊤, List, [], ◌∷◌, ◌++◌, length, slice_index_or}
use Rattle.std.specs.List.{list_any}
use Rattle.fr_terms.specs.Terms.{Text, Spot, Captured, Items, none, item, block_t, let_t, assign_t, read_t, borrow_t, borrow_mut_t, number_t, unit_t, box_t, print_t, arith_t, join_t, mutex_t, dup_t, lock_t, spawn_t, par_t}
use Rattle.fr_terms.specs.Terms as terms
use Rattle.fr_syntax.specs.declared.tree.Term.{Term}
use Rattle.fr_syntax.specs.declared.tree.Term.TheVariants.{Block, Let, Assign, Read, Dup, Borrow, BorrowMut, Number, Unit, Box, Print, Join, Mutex, Arith, Spawn, Par, Lock, Place, Capture}
use Rattle.fr_syntax.specs.declared.tree.Node.{Node}
use Rattle.fr_syntax.specs.Arena.{Arena, text_of}

-- what a node stands for
pub data What : Type 0 where
  a_term : terms.Term → What
  a_place : Spot → What
  a_capture : Captured → What

-- what a node stands for, and the nodes that it is made of, itself last
pub record Meaning : Type 0 where
  pub what : What
  pub nodes : List ℕ

pub data Sort : Type 0 where
  term_s : Sort
  place_s : Sort
  capture_s : Sort

abbrev pub sort_of : What → Sort
sort_of (a_term t) = term_s
sort_of (a_place w) = place_s
sort_of (a_capture c) = capture_s

-- the term that a meaning is; of another sort nobody asks
abbrev pub as_term : What → terms.Term
as_term (a_term t) = t
as_term (a_place w) = unit_t w.at
as_term (a_capture c) = unit_t c.at

abbrev pub as_place : What → Spot
as_place (a_place w) = w
as_place (a_term t) = record { at = 0; name = []; stars = 0 }
as_place (a_capture c) = record { at = 0; name = []; stars = 0 }

abbrev pub as_capture : What → Captured
as_capture (a_capture c) = c
as_capture (a_term t) = record { at = 0; name = [] }
as_capture (a_place w) = record { at = 0; name = [] }

abbrev pub meaning_at : List Meaning → ℕ → Meaning
meaning_at ms n = slice_index_or ms n (record { what = a_term (unit_t 0); nodes = [] })

abbrev pub term_at : List Meaning → ℕ → terms.Term
term_at ms n = as_term (meaning_at ms n).what

abbrev pub place_at : List Meaning → ℕ → Spot
place_at ms n = as_place (meaning_at ms n).what

abbrev pub items_at : List Meaning → List ℕ → Items
items_at ms [] = none
items_at ms (k ∷ ks) = item (term_at ms k) (items_at ms ks)

abbrev pub captures_at : List Meaning → List ℕ → List Captured
captures_at ms [] = []
captures_at ms (k ∷ ks) = as_capture (meaning_at ms k).what ∷ captures_at ms ks

-- what a node at this place of the source stands for, from the meanings before it
abbrev pub stands_for : List Text → List Meaning → ℕ → Term → What
stands_for names ms at (Block items) = a_term (block_t at (items_at ms items.items))
stands_for names ms at (Let name value) = a_term (let_t at (text_of names name) (term_at ms value))
stands_for names ms at (Assign to value) = a_term (assign_t at (place_at ms to) (term_at ms value))
stands_for names ms at (Read from) = a_term (read_t at (place_at ms from))
stands_for names ms at (Dup of) = a_term (dup_t at (place_at ms of))
stands_for names ms at (Borrow of) = a_term (borrow_t at (place_at ms of))
stands_for names ms at (BorrowMut of) = a_term (borrow_mut_t at (place_at ms of))
stands_for names ms at (Number value) = a_term (number_t at value)
stands_for names ms at Unit = a_term (unit_t at)
stands_for names ms at (Box value) = a_term (box_t at (term_at ms value))
stands_for names ms at (Print value) = a_term (print_t at (term_at ms value))
stands_for names ms at (Join task) = a_term (join_t at (term_at ms task))
stands_for names ms at (Mutex value) = a_term (mutex_t at (term_at ms value))
stands_for names ms at (Arith op left right) = a_term (arith_t at op (term_at ms left) (term_at ms right))
stands_for names ms at (Spawn captures body) = a_term (spawn_t at (captures_at ms captures.items) (term_at ms body))
stands_for names ms at (Par captures body others other) = a_term (par_t at (captures_at ms captures.value.items) (term_at ms body) (captures_at ms others.value.items) (term_at ms other))
stands_for names ms at (Lock of name body) = a_term (lock_t at (place_at ms of) (text_of names name) (term_at ms body))
stands_for names ms at (Place name stars) = a_place (record { at = at; name = text_of names name; stars = stars })
stands_for names ms at (Capture name) = a_capture (record { at = at; name = text_of names name })

-- a part that a node names, and the sort that it has to be of
pub record Need : Type 0 where
  pub node : ℕ
  pub sort : Sort

abbrev pub need : Sort → ℕ → Need
need s k = record { node = k; sort = s }

abbrev pub all_need : Sort → List ℕ → List Need
all_need s [] = []
all_need s (k ∷ ks) = need s k ∷ all_need s ks

-- the parts of a node, in the order in which they are evaluated
abbrev pub needs : Term → List Need
needs (Block items) = all_need term_s items.items
needs (Let name value) = need term_s value ∷ []
needs (Assign to value) = need place_s to ∷ need term_s value ∷ []
needs (Read from) = need place_s from ∷ []
needs (Dup of) = need place_s of ∷ []
needs (Borrow of) = need place_s of ∷ []
needs (BorrowMut of) = need place_s of ∷ []
needs (Number value) = []
needs Unit = []
needs (Box value) = need term_s value ∷ []
needs (Print value) = need term_s value ∷ []
needs (Join task) = need term_s task ∷ []
needs (Mutex value) = need term_s value ∷ []
needs (Arith op left right) = need term_s left ∷ need term_s right ∷ []
needs (Spawn captures body) = all_need capture_s captures.items ++ need term_s body ∷ []
needs (Par captures body others other) = all_need capture_s captures.value.items ++ need term_s body ∷ all_need capture_s others.value.items ++ need term_s other ∷ []
needs (Lock of name body) = need place_s of ∷ need term_s body ∷ []
needs (Place name stars) = []
needs (Capture name) = []

-- the nodes that these parts are made of
abbrev pub nodes_in : List Meaning → List Need → List ℕ
nodes_in ms [] = []
nodes_in ms (x ∷ xs) = (meaning_at ms x.node).nodes ++ nodes_in ms xs

-- the meaning of the next node, from the meanings before it
abbrev pub build : List Text → List Meaning → ℕ → Term → Meaning
build names ms at term = record { what = stands_for names ms at term; nodes = nodes_in ms (needs term) ++ length ms ∷ [] }

-- the meanings of nodes that come after these meanings
abbrev pub meanings_from : List Text → List Meaning → List Node → List Meaning
meanings_from names ms [] = ms
meanings_from names ms (n ∷ ns) = meanings_from names (ms ++ build names ms n.place n.term ∷ []) ns

-- the meanings of all nodes, in order
abbrev pub meanings : Arena → List Meaning
meanings a = meanings_from a.names [] a.nodes

-- the names that a node has
abbrev pub names_in : Term → List ℕ
names_in (Let name value) = name ∷ []
names_in (Lock of name body) = name ∷ []
names_in (Place name stars) = name ∷ []
names_in (Capture name) = name ∷ []
names_in _ = []

-- the parts stand before node n, and are of their sorts
abbrev pub AreBelow : List Meaning → ℕ → List Need → Type 0
AreBelow ms n [] = ⊤
AreBelow ms n (x ∷ xs) = (x.node < n) × (sort_of (meaning_at ms x.node).what ≡ x.sort) × AreBelow ms n xs

-- each number of a list is below n
abbrev pub AllBelow : ℕ → List ℕ → Type 0
AllBelow n [] = ⊤
AllBelow n (k ∷ ks) = (k < n) × AllBelow n ks

-- the meanings that were there stay, under their numbers
pub record Keeps (old new : List Meaning) : Type 0 where
  pub longer : length old ≤ length new
  pub same : (k : ℕ) → k < length old → meaning_at new k ≡ meaning_at old k

-- no number stands twice
abbrev pub AreDifferent : List ℕ → Type 0
AreDifferent [] = ⊤
AreDifferent (k ∷ ks) = (list_any (λ j. j == k) ks ≡ false) × AreDifferent ks

-- the tree's last node, which is its term
abbrev pub root_of : Arena → ℕ
root_of a = length a.nodes - 1

abbrev pub term_of : Arena → terms.Term
term_of a = term_at (meanings a) (root_of a)

-- the last node is a term, and no node is a part of it twice: each term, place and captured name has a node of its own
pub record IsTree (a : Arena) : Type 0 where
  pub some : 0 < length a.nodes
  pub sort : sort_of (meaning_at (meanings a) (root_of a)).what ≡ term_s
  pub own : AreDifferent (meaning_at (meanings a) (root_of a)).nodes
