-- The meanings of an arena, with one node or one name more.
use Rattle.std.proofs.Common.{◌≡◌, ℕ, zero, suc, ◌+◌, ◌<◌, ◌≤◌, List, [], ◌∷◌, ◌++◌, length, get_or, Some, refl, sym, ap, ap₂, ◌∙◌, subst, arith, append_assoc, length-append}
use Rattle.std.specs.Prelude.{slice_get, ⊤, map, string_bytes, String}
use Rattle.std.proofs.Math.Seq.{get_or-append_seam}
use Rattle.std.proofs.lemmas.List.{append-nil, map-append, get_or_append_left}
use Rattle.std.proofs.lemmas.Option.{slice_get-get_or}
use Rattle.fr_terms.specs.Terms.{Text, item, block_t, let_t, assign_t, read_t, borrow_t, borrow_mut_t, unit_t, box_t, print_t, arith_t, join_t, mutex_t, dup_t, lock_t, spawn_t, par_t}
use Rattle.fr_syntax.specs.declared.tree.Term.{Term}
use Rattle.fr_syntax.specs.declared.tree.Term.TheVariants.{Block, Let, Assign, Read, Dup, Borrow, BorrowMut, Number, Unit, Box, Print, Join, Mutex, Arith, Spawn, Par, Lock, Place, Capture}
use Rattle.fr_syntax.specs.declared.tree.Node.{Node}
use Rattle.fr_syntax.specs.Arena.{Arena, text_of}
use Rattle.fr_syntax.specs.Bounds.{most_numbered}
use Rattle.fr_syntax.specs.Meanings.{a_term, a_place, a_capture, Meaning, term_s, capture_s, as_term, as_place, as_capture, meaning_at, term_at, place_at, items_at, captures_at, stands_for, Need, need, all_need, needs, nodes_in, build, meanings_from, meanings, names_in, sort_of, AreBelow, AllBelow, Keeps}
use Rattle.fr_syntax.specs.Ordered.{AreOrdered, IsArena}

-- these parts mean the same among other meanings
abbrev pub MeanSame : List Meaning → List Meaning → List Need → Type 0
MeanSame ms ns [] = ⊤
MeanSame ms ns (x ∷ xs) = (meaning_at ns x.node ≡ meaning_at ms x.node) × MeanSame ms ns xs

-- what holds of all parts holds of the first ones
same-front : (ms ns : List Meaning) (xs ys : List Need) → MeanSame ms ns (xs ++ ys) → MeanSame ms ns xs
same-front ms ns [] ys h = tt
same-front ms ns (x ∷ xs) ys h = (h.0, same-front ms ns xs ys h.1)

-- and of the last ones
same-back : (ms ns : List Meaning) (xs ys : List Need) → MeanSame ms ns (xs ++ ys) → MeanSame ms ns ys
same-back ms ns [] ys h = h
same-back ms ns (x ∷ xs) ys h = same-back ms ns xs ys h.1

-- what stays below keeps its meaning
pub same_below : (ms ns : List Meaning) (n : ℕ) (xs : List Need) → ((k : ℕ) → k < n → meaning_at ns k ≡ meaning_at ms k) → AreBelow ms n xs → MeanSame ms ns xs
same_below ms ns n [] h b = tt
same_below ms ns n (x ∷ xs) h b = (h x.node b.0, same_below ms ns n xs h b.2)

-- and stays of its sort
pub below_same : (ms ns : List Meaning) (n m : ℕ) (xs : List Need) → n ≤ m → MeanSame ms ns xs → AreBelow ms n xs → AreBelow ns m xs
below_same ms ns n m [] le h b = tt
below_same ms ns n m (x ∷ xs) le h b = (omega (arith, b.0), ap (λ (y : Meaning). sort_of y.what) h.0 ∙ b.1, below_same ms ns n m xs le h.1 b.2)

-- parts that mean the same are made of the same nodes
pub nodes_in-same : (ms ns : List Meaning) (xs : List Need) → MeanSame ms ns xs → nodes_in ns xs ≡ nodes_in ms xs
nodes_in-same ms ns [] h = refl
nodes_in-same ms ns (x ∷ xs) h = ap₂ (λ (y : Meaning) l. y.nodes ++ l) h.0 (nodes_in-same ms ns xs h.1)

-- items that mean the same are the same items
items_at-same : (ms ns : List Meaning) (ks : List ℕ) → MeanSame ms ns (all_need term_s ks) → items_at ns ks ≡ items_at ms ks
items_at-same ms ns [] h = refl
items_at-same ms ns (k ∷ ks) h = ap₂ (λ (y : Meaning) l. item (as_term y.what) l) h.0 (items_at-same ms ns ks h.1)

-- captures that mean the same are the same captures
captures_at-same : (ms ns : List Meaning) (ks : List ℕ) → MeanSame ms ns (all_need capture_s ks) → captures_at ns ks ≡ captures_at ms ks
captures_at-same ms ns [] h = refl
captures_at-same ms ns (k ∷ ks) h = ap₂ (λ (y : Meaning) l. as_capture y.what ∷ l) h.0 (captures_at-same ms ns ks h.1)

-- a node stands for the same where its parts mean the same
pub stands_for-same : (names : List Text) (ms ns : List Meaning) (at : ℕ) (t : Term) → MeanSame ms ns (needs t) → stands_for names ns at t ≡ stands_for names ms at t
stands_for-same names ms ns at (Block items) h = ap (λ l. a_term (block_t at l)) (items_at-same ms ns items.items h)
stands_for-same names ms ns at (Let name value) h = ap (λ (y : Meaning). a_term (let_t at (text_of names name) (as_term y.what))) h.0
stands_for-same names ms ns at (Assign to value) h = ap₂ (λ (x : Meaning) (y : Meaning). a_term (assign_t at (as_place x.what) (as_term y.what))) h.0 h.1.0
stands_for-same names ms ns at (Read from) h = ap (λ (y : Meaning). a_term (read_t at (as_place y.what))) h.0
stands_for-same names ms ns at (Dup of) h = ap (λ (y : Meaning). a_term (dup_t at (as_place y.what))) h.0
stands_for-same names ms ns at (Borrow of) h = ap (λ (y : Meaning). a_term (borrow_t at (as_place y.what))) h.0
stands_for-same names ms ns at (BorrowMut of) h = ap (λ (y : Meaning). a_term (borrow_mut_t at (as_place y.what))) h.0
stands_for-same names ms ns at (Number value) h = refl
stands_for-same names ms ns at Unit h = refl
stands_for-same names ms ns at (Box value) h = ap (λ (y : Meaning). a_term (box_t at (as_term y.what))) h.0
stands_for-same names ms ns at (Print value) h = ap (λ (y : Meaning). a_term (print_t at (as_term y.what))) h.0
stands_for-same names ms ns at (Join task) h = ap (λ (y : Meaning). a_term (join_t at (as_term y.what))) h.0
stands_for-same names ms ns at (Mutex value) h = ap (λ (y : Meaning). a_term (mutex_t at (as_term y.what))) h.0
stands_for-same names ms ns at (Arith op left right) h = ap₂ (λ (x : Meaning) (y : Meaning). a_term (arith_t at op (as_term x.what) (as_term y.what))) h.0 h.1.0
stands_for-same names ms ns at (Spawn captures body) h =
    ap₂ (λ l (y : Meaning). a_term (spawn_t at l (as_term y.what)))
    (captures_at-same ms ns captures.items (same-front ms ns (all_need capture_s captures.items) (need term_s body ∷ []) h))
    (same-back ms ns (all_need capture_s captures.items) (need term_s body ∷ []) h).0
stands_for-same names ms ns at (Par captures body others other) h =
    let first = all_need capture_s captures.value.items in
    let second = all_need capture_s others.value.items in
    let last = need term_s other ∷ [] in
    let front : MeanSame ms ns (first ++ need term_s body ∷ second) = same-front ms ns (first ++ need term_s body ∷ second) last h in
    let middle : MeanSame ms ns (need term_s body ∷ second) = same-back ms ns first (need term_s body ∷ second) front in
    let back : MeanSame ms ns last = same-back ms ns (first ++ need term_s body ∷ second) last h in
    ap₂ (λ l (y : Meaning). a_term (par_t at l (as_term y.what) (captures_at ns others.value.items) (term_at ns other))) (captures_at-same ms ns captures.value.items (same-front ms ns first (need term_s body ∷ second) front)) middle.0
    ∙ ap₂ (λ l (y : Meaning). a_term (par_t at (captures_at ms captures.value.items) (term_at ms body) l (as_term y.what))) (captures_at-same ms ns others.value.items middle.1) back.0
stands_for-same names ms ns at (Lock of name body) h = ap₂ (λ (x : Meaning) (y : Meaning). a_term (lock_t at (as_place x.what) (text_of names name) (as_term y.what))) h.0 h.1.0
stands_for-same names ms ns at (Place name stars) h = refl
stands_for-same names ms ns at (Capture name) h = refl

-- names that are there keep their texts
text_of-append : (names more : List Text) (n : ℕ) → n < length names → text_of (names ++ more) n ≡ text_of names n
text_of-append names more n lt = get_or_append_left names more [] n lt

-- a node stands for the same where there are more names
stands_for-names : (names more : List Text) (ms : List Meaning) (at : ℕ) (t : Term) → AllBelow (length names) (names_in t) → stands_for (names ++ more) ms at t ≡ stands_for names ms at t
stands_for-names names more ms at (Block items) h = refl
stands_for-names names more ms at (Let name value) h = ap (λ n. a_term (let_t at n (term_at ms value))) (text_of-append names more name h.0)
stands_for-names names more ms at (Assign to value) h = refl
stands_for-names names more ms at (Read from) h = refl
stands_for-names names more ms at (Dup of) h = refl
stands_for-names names more ms at (Borrow of) h = refl
stands_for-names names more ms at (BorrowMut of) h = refl
stands_for-names names more ms at (Number value) h = refl
stands_for-names names more ms at Unit h = refl
stands_for-names names more ms at (Box value) h = refl
stands_for-names names more ms at (Print value) h = refl
stands_for-names names more ms at (Join task) h = refl
stands_for-names names more ms at (Mutex value) h = refl
stands_for-names names more ms at (Arith op left right) h = refl
stands_for-names names more ms at (Spawn captures body) h = refl
stands_for-names names more ms at (Par captures body others other) h = refl
stands_for-names names more ms at (Lock of name body) h = ap (λ n. a_term (lock_t at (place_at ms of) n (term_at ms body))) (text_of-append names more name h.0)
stands_for-names names more ms at (Place name stars) h = ap (λ n. a_place (record { at = at; name = n; stars = stars })) (text_of-append names more name h.0)
stands_for-names names more ms at (Capture name) h = ap (λ n. a_capture (record { at = at; name = n })) (text_of-append names more name h.0)

-- and has the same meaning
build-names : (names more : List Text) (ms : List Meaning) (at : ℕ) (t : Term) → AllBelow (length names) (names_in t) → build (names ++ more) ms at t ≡ build names ms at t
build-names names more ms at t h = ap (λ w. record { what = w; nodes = nodes_in ms (needs t) ++ length ms ∷ [] }) (stands_for-names names more ms at t h)

-- names that are there stay there
below-names : (n m : ℕ) (ks : List ℕ) → n ≤ m → AllBelow n ks → AllBelow m ks
below-names n m [] le h = tt
below-names n m (k ∷ ks) le h = (omega (arith, h.0), below-names n m ks le h.1)

-- more names change no meaning
meanings_from-names : (names more : List Text) (ms : List Meaning) (ns : List Node) → AreOrdered names ms ns → meanings_from (names ++ more) ms ns ≡ meanings_from names ms ns
meanings_from-names names more ms [] h = refl
meanings_from-names names more ms (n ∷ ns) h =
    ap (λ b. meanings_from (names ++ more) (ms ++ b ∷ []) ns) (build-names names more ms n.place n.term h.1)
    ∙ meanings_from-names names more (ms ++ build names ms n.place n.term ∷ []) ns h.2

-- and break no order
ordered-names : (names more : List Text) (ms : List Meaning) (ns : List Node) → AreOrdered names ms ns → AreOrdered (names ++ more) ms ns
ordered-names names more ms [] h = tt
ordered-names names more ms (n ∷ ns) h = (
  h.0,
  below-names (length names) (length (names ++ more)) (names_in n.term) (omega (arith, length-append names more)) h.1,
  subst (λ b. AreOrdered (names ++ more) (ms ++ b ∷ []) ns) (sym (build-names names more ms n.place n.term h.1)) (ordered-names names more (ms ++ build names ms n.place n.term ∷ []) ns h.2),
)

-- each node gives one meaning
length-meanings_from : (names : List Text) (ms : List Meaning) (ns : List Node) → length (meanings_from names ms ns) ≡ length ms + length ns
length-meanings_from names ms [] = omega arith
length-meanings_from names ms (n ∷ ns) =
    let b = build names ms n.place n.term in
    omega (arith, length-meanings_from names (ms ++ b ∷ []) ns, length-append ms (b ∷ []))

-- the last node gives the last meaning
meanings_from-push : (names : List Text) (ms : List Meaning) (ns : List Node) (n : Node) → meanings_from names ms (ns ++ n ∷ []) ≡ meanings_from names ms ns ++ build names (meanings_from names ms ns) n.place n.term ∷ []
meanings_from-push names ms [] n = refl
meanings_from-push names ms (x ∷ xs) n = meanings_from-push names (ms ++ build names ms x.place x.term ∷ []) xs n

-- nodes stay in order with one more, whose parts and names are there
ordered-push : (names : List Text) (ms : List Meaning) (ns : List Node) (n : Node) → AreOrdered names ms ns → AreBelow (meanings_from names ms ns) (length (meanings_from names ms ns)) (needs n.term) → AllBelow (length names) (names_in n.term) → AreOrdered names ms (ns ++ n ∷ [])
ordered-push names ms [] n h b a = (b, a, tt)
ordered-push names ms (x ∷ xs) n h b a = (h.0, h.1, ordered-push names (ms ++ build names ms x.place x.term ∷ []) xs n h.2 b a)

-- the meanings before stay in front
grows : (names : List Text) (ms : List Meaning) (ns : List Node) → (more : List Meaning) × (meanings_from names ms ns ≡ ms ++ more)
grows names ms [] = ([], simp append-nil)
grows names ms (n ∷ ns) =
    let b = build names ms n.place n.term in
    let g = grows names (ms ++ b ∷ []) ns in
    (b ∷ g.0, g.1 ∙ append_assoc ms (b ∷ []) g.0)

-- meanings that are there stay
meaning_at-append : (ms more : List Meaning) (k : ℕ) → k < length ms → meaning_at (ms ++ more) k ≡ meaning_at ms k
meaning_at-append ms more k lt = get_or_append_left ms more (record { what = a_term (unit_t 0); nodes = [] }) k lt

-- what is known of node k, which is n
pub record IsNode (names : List Text) (all : List Meaning) (k : ℕ) (n : Node) : Type 0 where
  pub what : (meaning_at all k).what ≡ stands_for names all n.place n.term
  pub nodes : (meaning_at all k).nodes ≡ nodes_in all (needs n.term) ++ k ∷ []
  pub parts : AreBelow all k (needs n.term)
  pub names_here : AllBelow (length names) (names_in n.term)

-- the node behind some meanings, among all meanings
node_next : (names : List Text) (ms more all : List Meaning) (n : Node) → AreBelow ms (length ms) (needs n.term) → AllBelow (length names) (names_in n.term) → all ≡ ms ++ build names ms n.place n.term ∷ more → IsNode names all (length ms) n
node_next names ms more all n below here whole =
    let b = build names ms n.place n.term in
    let kept : (k : ℕ) → k < length ms → meaning_at all k ≡ meaning_at ms k = λ k lt. ap (λ l. meaning_at l k) whole ∙ meaning_at-append ms (b ∷ more) k lt in
    let same = same_below ms all (length ms) (needs n.term) kept below in
    let is : meaning_at all (length ms) ≡ b = ap (λ l. meaning_at l (length ms)) whole ∙ get_or-append_seam ms b more (record { what = a_term (unit_t 0); nodes = [] }) in
    record {
      what = ap (λ (y : Meaning). y.what) is ∙ sym (stands_for-same names ms all n.place n.term same);
      nodes = ap (λ (y : Meaning). y.nodes) is ∙ ap (λ l. l ++ length ms ∷ []) (sym (nodes_in-same ms all (needs n.term) same));
      parts = below_same ms all (length ms) (length ms) (needs n.term) (omega arith) same below;
      names_here = here;
    }

-- node k of these nodes, among all meanings
node_from : (names : List Text) (ms : List Meaning) (ns : List Node) (k i : ℕ) (n : Node) → AreOrdered names ms ns → slice_get ns k ≡ Some n → i ≡ length ms + k → IsNode names (meanings_from names ms ns) i n
node_from names ms [] k i n h e at = cc
node_from names ms (x ∷ xs) zero i n h e at =
    let b = build names ms x.place x.term in
    let g = grows names (ms ++ b ∷ []) xs in
    let all = meanings_from names (ms ++ b ∷ []) xs in
    let whole : all ≡ ms ++ b ∷ g.0 = g.1 ∙ append_assoc ms (b ∷ []) g.0 in
    let is : i ≡ length ms = omega arith in
    let same : x ≡ n = cc in
    subst (λ j. IsNode names all j n) (sym is) (subst (λ (y : Node). IsNode names all (length ms) y) same (node_next names ms g.0 all x h.0 h.1 whole))
node_from names ms (x ∷ xs) (suc k) i n h e at =
    let b = build names ms x.place x.term in
    node_from names (ms ++ b ∷ []) xs k i n h.2 e (omega (arith, length-append ms (b ∷ [])))

-- an arena has as many meanings as nodes
pub length_meanings : (a : Arena) → length (meanings a) ≡ length a.nodes
length_meanings a = omega (arith, length-meanings_from a.names [] a.nodes)

-- the node under a number that is there
pub node_here : (a : Arena) (k : ℕ) (n : Node) → IsArena a → k < length a.nodes → n ≡ get_or a.nodes k n → IsNode a.names (meanings a) k n
node_here a k n h lt e =
    node_from a.names [] a.nodes k k n h.ordered (slice_get-get_or a.nodes k n lt ∙ ap Some (sym e)) (omega arith)

-- the same of a value that contracts see as that arena
pub node_seen : (names : List Text) (nodes : List Node) (a : Arena) (k : ℕ) (n : Node) → IsArena (record { names = names; nodes = nodes }) → record { names = names; nodes = nodes } ≡ a → k < length nodes → n ≡ get_or nodes k n → IsNode a.names (meanings a) k n
node_seen names nodes a k n h same lt e =
    subst (λ (b : Arena). IsNode b.names (meanings b) k n) same (node_here (record { names = names; nodes = nodes }) k n h lt e)

-- what a node more does
pub record IsAdded (old new : List Meaning) (m : Meaning) : Type 0 where
  pub len : length new ≡ length old + 1
  pub meaning : meaning_at new (length old) ≡ m
  pub keeps : Keeps old new

-- what holds after a node more
pub node_added : (names : List Text) (ns : List Node) (n : Node) → IsAdded (meanings_from names [] ns) (meanings_from names [] (ns ++ n ∷ [])) (build names (meanings_from names [] ns) n.place n.term)
node_added names ns n =
    let ms = meanings_from names [] ns in
    let b = build names ms n.place n.term in
    let e = meanings_from-push names [] ns n in
    record {
      len = ap length e ∙ length-append ms (b ∷ []);
      meaning = ap (λ l. meaning_at l (length ms)) e ∙ get_or-append_seam ms b [] (record { what = a_term (unit_t 0); nodes = [] });
      keeps = record {
        longer = omega (arith, ap length e, length-append ms (b ∷ []));
        same = λ k lt. ap (λ l. meaning_at l k) e ∙ meaning_at-append ms (b ∷ []) k lt;
      };
    }

-- the same of a value that contracts see as the arena without the node
pub added_seen : (names : List Text) (ns new : List Node) (n : Node) (a : Arena) (k : ℕ) → record { names = names; nodes = ns } ≡ a → new ≡ ns ++ n ∷ [] → k ≡ length ns → (meaning_at (meanings_from names [] new) k ≡ build a.names (meanings a) n.place n.term) × Keeps (meanings a) (meanings_from names [] new)
added_seen names ns new n a k same e at =
    let old : Arena = record { names = names; nodes = ns } in
    let is = node_added names ns n in
    let number : k ≡ length (meanings old) = omega (arith, length_meanings old) in
    subst (λ (b : Arena). (meaning_at (meanings_from names [] new) k ≡ build b.names (meanings b) n.place n.term) × Keeps (meanings b) (meanings_from names [] new)) same
    (subst (λ l. (meaning_at (meanings_from names [] l) k ≡ build names (meanings old) n.place n.term) × Keeps (meanings old) (meanings_from names [] l)) (sym e)
    (ap (meaning_at (meanings_from names [] (ns ++ n ∷ []))) number ∙ is.meaning, is.keeps))

-- an arena stays one with a node more
pub arena_push : (names : List Text) (ns : List Node) (n : Node) → IsArena (record { names = names; nodes = ns }) → AreBelow (meanings_from names [] ns) (length (meanings_from names [] ns)) (needs n.term) → AllBelow (length names) (names_in n.term) → length (meanings_from names [] ns) < most_numbered → IsArena (record { names = names; nodes = ns ++ n ∷ [] })
arena_push names ns n h b a few = record {
  ordered = ordered-push names [] ns n h.ordered b a;
  few = omega (arith, length-meanings_from names [] ns, length-append ns (n ∷ []));
}

-- and with a name more, which changes no meaning
pub arena_name : (names : List Text) (ns : List Node) (text : Text) → IsArena (record { names = names; nodes = ns }) → IsArena (record { names = names ++ text ∷ []; nodes = ns }) × (meanings_from (names ++ text ∷ []) [] ns ≡ meanings_from names [] ns)
arena_name names ns text h = (
  record { ordered = ordered-names names (text ∷ []) [] ns h.ordered; few = h.few },
  meanings_from-names names (text ∷ []) [] ns h.ordered,
)

module _ {Z : Type 0} where
  -- the same of texts that are kept as strings
  pub name_kept : (strings new : List (String Z)) (s : String Z) (ns : List Node) → IsArena (record { names = map string_bytes strings; nodes = ns }) → new ≡ strings ++ s ∷ [] → IsArena (record { names = map string_bytes new; nodes = ns }) × (meanings_from (map string_bytes new) [] ns ≡ meanings_from (map string_bytes strings) [] ns)
  name_kept strings new s ns h e =
      let more : map string_bytes new ≡ map string_bytes strings ++ string_bytes s ∷ [] = ap (map string_bytes) e ∙ map-append string_bytes strings (s ∷ []) in
      subst (λ l. IsArena (record { names = l; nodes = ns }) × (meanings_from l [] ns ≡ meanings_from (map string_bytes strings) [] ns)) (sym more) (arena_name (map string_bytes strings) ns (string_bytes s) h)
