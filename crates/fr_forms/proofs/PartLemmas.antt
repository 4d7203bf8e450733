-- The parts of a typed node are typed, with as many usages as nodes.
use Rattle.std.proofs.Common.{◌≡◌, ℕ, ℤ, zero, suc, ◌<◌, Bool, true, false, List, [], ◌∷◌, ◌++◌, length, Option, Some, None, refl, sym, ap, ◌∙◌, subst, arith, append_assoc, length-append}
use Rattle.std.specs.Prelude.{not, is_some, slice_get, Box as Boxed}
use Rattle.std.specs.declared.alloc.Global.{Global}
use Rattle.std.proofs.lemmas.List.{append-nil}
use Rattle.fr_base.specs.declared.place.Op.{Op}
use Rattle.fr_terms.specs.Terms.{Text, Spot, Captured, block_t, let_t, assign_t, read_t, borrow_t, borrow_mut_t, number_t, unit_t, box_t, print_t, arith_t, join_t, mutex_t, dup_t, lock_t, spawn_t, par_t, item, start_of}
use Rattle.fr_terms.specs.Terms as terms
use Rattle.fr_typing.specs.Kinds.{Owned, Kind, own, unit, mutex, task, whole}
use Rattle.fr_typing.specs.Places.{Env, found}
use Rattle.fr_typing.specs.Checks.{place_of, is_int, with_lock}
use Rattle.fr_typing.specs.declared.reason.Reason.{Reason}
use Rattle.fr_typing.specs.declared.reason.Reason.TheVariants.{WrongType, NameInScope}
use Rattle.fr_typing.specs.Finding.{Has, Outcome, typed, fault, unless, then_typed, env_after}
use Rattle.fr_typing.specs.Rules.{box_rule, int_rule, print_rule, arith_rule, let_rule, assign_rule, join_rule, held_rule, lock_rule, end_rule}
use Rattle.fr_typing.specs.Captures.{Capturer, by_spawn, by_par, env_left, env_new, env_left_by_all, env_of_all}
use Rattle.fr_typing.specs.Typing.{typing, typing_items, Types, types_lock, types_par}
use Rattle.fr_typing.proofs.Agree.{exactly_one_lem}
use Rattle.fr_typing.proofs.FindingLemmas.{shows_by}
use Rattle.fr_typing.proofs.CaptureLemmas.{capture_all_by, capture_all_cases}
use Rattle.fr_syntax.specs.declared.tree.Term.{Term}
use Rattle.fr_syntax.specs.declared.tree.Term.TheVariants.{Block, Let, Assign, Read, Dup, Borrow, BorrowMut, Number, Unit, Box, Print, Join, Mutex, Arith, Spawn, Par, Lock, Place, Capture}
use Rattle.fr_syntax.specs.declared.tree.Node.{Node}
use Rattle.fr_syntax.specs.Arena.{Arena, text_of}
use Rattle.fr_syntax.specs.Ordered.{IsArena}
use Rattle.fr_base.specs.Rooms.{WithRoom}
use Rattle.fr_syntax.specs.Meanings.{a_term, term_s, place_s, capture_s, sort_of, as_capture, captures_at, meanings, meaning_at, term_at, place_at, items_at, stands_for, need, all_need, needs, nodes_in, AreBelow}
use Rattle.borrow_check.specs.declared.usage.Usage.{Usage}
use Rattle.fr_plain.specs.Resolve as resolve
use Rattle.borrow_check.specs.Usages.{usage_of, read_usage, capture_usages, env_locked, usages_of, usages_in, AreUsed}
use Rattle.borrow_check.specs.Capturing.{AreNames}
use Rattle.borrow_check.specs.Programs.{Program}
use Rattle.borrow_check.specs.Nodes.{IsReady, AreReady}
use Rattle.fr_forms.specs.Resolved.{IsTypedIn}
use Rattle.borrow_check.proofs.TermLemmas.{IsHere, term_here, first_ready, rest_ready}
use Rattle.borrow_check.proofs.CheckLemmas.{nodes_append, spawn_nodes, IsPart, box_part, print_part, join_part, mutex_part, let_part, assign_part, arith_parts, spawn_parts, block_parts}
use Rattle.borrow_check.proofs.LockLemmas.{lock_parts}
use Rattle.borrow_check.proofs.ParLemmas.{par_parts}
use Rattle.borrow_check.proofs.NodeLemmas.{here}
use Rattle.fr_forms.proofs.NodeLemmas.{place_alone, name_alone}

-- NODES OF TERMS

-- which form a node is of that is ready
pub data Row (n : Node) : Type 0 where
  a_number : (v : ℤ) → n.term ≡ Number v → Row n
  a_unit : n.term ≡ Unit → Row n
  a_read : (from : ℕ) → n.term ≡ Read from → Row n
  a_borrow : (of : ℕ) → n.term ≡ Borrow of → Row n
  a_borrow_mut : (of : ℕ) → n.term ≡ BorrowMut of → Row n
  an_arith : (op : Op) (left right : ℕ) → n.term ≡ Arith op left right → Row n
  a_box : (v : ℕ) → n.term ≡ Box v → Row n
  a_let : (name v : ℕ) → n.term ≡ Let name v → Row n
  a_print : (v : ℕ) → n.term ≡ Print v → Row n
  an_assign : (to v : ℕ) → n.term ≡ Assign to v → Row n
  a_block : (items : WithRoom ℕ) → n.term ≡ Block items → Row n
  a_join : (v : ℕ) → n.term ≡ Join v → Row n
  a_spawn : (names : WithRoom ℕ) (v : ℕ) → n.term ≡ Spawn names v → Row n
  a_mutex : (v : ℕ) → n.term ≡ Mutex v → Row n
  a_dup : (of : ℕ) → n.term ≡ Dup of → Row n
  a_lock : (of name v : ℕ) → n.term ≡ Lock of name v → Row n
  a_par : (names : Boxed (WithRoom ℕ) Global) (v : ℕ) (others : Boxed (WithRoom ℕ) Global) (w : ℕ) → n.term ≡ Par names v others w → Row n

-- the term of a node
pub term_is : (a : Arena) (at : ℕ) (n : Node) (m : Term) (t : terms.Term) → IsHere a at n → n.term ≡ m → stands_for a.names (meanings a) n.place m ≡ a_term t → term_at (meanings a) at ≡ t
term_is a at n m t h is e = term_here a at n t h (ap (stands_for a.names (meanings a) n.place) is ∙ e)

pub nodes_are : (a : Arena) (at : ℕ) (n : Node) (m : Term) → IsHere a at n → n.term ≡ m → (meaning_at (meanings a) at).nodes ≡ nodes_in (meanings a) (needs m) ++ at ∷ []
nodes_are a at n m h is = h.nodes ∙ ap (λ x. nodes_in (meanings a) (needs x) ++ at ∷ []) is

other_sort : (a : Arena) (at : ℕ) (n : Node) (m : Term) → IsHere a at n → IsReady a at → n.term ≡ m → sort_of (stands_for a.names (meanings a) n.place m) ≡ term_s
other_sort a at n m h r is = sym (ap sort_of (h.what ∙ ap (stands_for a.names (meanings a) n.place) is)) ∙ r.sort

row_of : (a : Arena) (at : ℕ) (n : Node) → IsHere a at n → IsReady a at → (m : Term) → n.term ≡ m → Row n
row_of a at n h r (Number v) is = a_number v is
row_of a at n h r Unit is = a_unit is
row_of a at n h r (Read from) is = a_read from is
row_of a at n h r (Box v) is = a_box v is
row_of a at n h r (Let name v) is = a_let name v is
row_of a at n h r (Print v) is = a_print v is
row_of a at n h r (Assign to v) is = an_assign to v is
row_of a at n h r (Block items) is = a_block items is
row_of a at n h r (Dup of) is = a_dup of is
row_of a at n h r (Borrow of) is = a_borrow of is
row_of a at n h r (BorrowMut of) is = a_borrow_mut of is
row_of a at n h r (Join v) is = a_join v is
row_of a at n h r (Mutex v) is = a_mutex v is
row_of a at n h r (Arith op left right) is = an_arith op left right is
row_of a at n h r (Spawn names body) is = a_spawn names body is
row_of a at n h r (Par names body others other) is = a_par names body others other is
row_of a at n h r (Lock of name body) is = a_lock of name body is
row_of a at n h r (Place name stars) is = let e : place_s ≡ term_s = other_sort a at n (Place name stars) h r is in absurd cc
row_of a at n h r (Capture name) is = let e : capture_s ≡ term_s = other_sort a at n (Capture name) h r is in absurd cc

pub row : (a : Arena) (at : ℕ) (n : Node) → IsHere a at n → IsReady a at → Row n
row a at n h r = row_of a at n h r n.term refl

-- HOW MANY USAGES

abbrev pub LongBelow : Arena → ℕ → Type 0
LongBelow a b = (k : ℕ) → k < b → IsReady a k → (e : Env) → length (meaning_at (meanings a) k).nodes ≡ length (usages_of (term_at (meanings a) k) e)

one_long : (a : Arena) (at v : ℕ) (n : Node) (m : Term) (t : terms.Term) (e : Env) → IsHere a at n → n.term ≡ m → needs m ≡ need term_s v ∷ [] → stands_for a.names (meanings a) n.place m ≡ a_term t → usages_of t e ≡ usages_of (term_at (meanings a) v) e ++ None ∷ [] → IsPart a at v → LongBelow a at →
    length (meaning_at (meanings a) at).nodes ≡ length (usages_of (term_at (meanings a) at) e)
one_long a at v n m t e h is one stands usages part below =
    let ns = (meaning_at (meanings a) v).nodes in
    let us = usages_of (term_at (meanings a) v) e in
    let nodes = ap length (nodes_are a at n m h is ∙ ap (λ l. nodes_in (meanings a) l ++ at ∷ []) one) in
    let uses = ap (λ x. length (usages_of x e)) (term_is a at n m t h is stands) in
    let mid = ap length usages in
    let ih = below v part.before part.ready e in
    omega (arith, nodes, uses, mid, ih, length-append (ns ++ []) (at ∷ []), length-append ns [], length-append us (None ∷ []))

pub items_long : (a : Arena) (at : ℕ) (ids : List ℕ) (e : Env) → AreReady a at ids → LongBelow a at → length (nodes_in (meanings a) (all_need term_s ids)) ≡ length (usages_in (items_at (meanings a) ids) e)
items_long a at [] e r below = refl
items_long a at (i ∷ is) e r below =
    let t = term_at (meanings a) i in
    let e1 = env_after (typing t e) in
    let lt : i < at = r.parts.0 in
    omega (
      arith,
      below i lt (first_ready a at i is r) e,
      items_long a at is e1 (rest_ready a at i is r) below,
      length-append (meaning_at (meanings a) i).nodes (nodes_in (meanings a) (all_need term_s is)),
      length-append (usages_of t e) (usages_in (items_at (meanings a) is) e1),
    )

-- a reference's node, and that of its place
place_long : (a : Arena) (at of : ℕ) (n : Node) (m : Term) (t : terms.Term) (e : Env) (u : Usage) → IsArena a → IsHere a at n → n.term ≡ m → needs m ≡ need place_s of ∷ [] → stands_for a.names (meanings a) n.place m ≡ a_term t → usages_of t e ≡ Some u ∷ None ∷ [] → IsReady a at → length (meaning_at (meanings a) at).nodes ≡ length (usages_of (term_at (meanings a) at) e)
place_long a at of n m t e u arena h is one stands usages r =
    let parts = subst (AreBelow (meanings a) at) (ap needs is ∙ one) h.parts in
    let lt : of < at = parts.0 in
    let alone = place_alone a of arena (omega (arith, lt, r.here)) parts.1 in
    ap length (nodes_are a at n m h is ∙ ap (λ l. nodes_in (meanings a) l ++ at ∷ []) one ∙ ap (λ l. (l ++ []) ++ at ∷ []) alone)
    ∙ sym (ap (λ x. length (usages_of x e)) (term_is a at n m t h is stands) ∙ ap length usages)

-- captured names are nodes of their own
pub names_long : (a : Arena) (ids : List ℕ) → IsArena a → AreNames a ids → length (nodes_in (meanings a) (all_need capture_s ids)) ≡ length ids
names_long a [] arena h = refl
names_long a (i ∷ is) arena h =
    let own = (meaning_at (meanings a) i).nodes in
    let alone = ap length (name_alone a i arena h.parts.0 h.parts.1) in
    let rest = names_long a is arena (record { parts = h.parts.2 }) in
    omega (arith, alone, rest, length-append own (nodes_in (meanings a) (all_need capture_s is)))

-- and each has a usage
names_used : (by : Capturer) (a : Arena) (ids : List ℕ) (e n : Env) → length (capture_usages by e n (captures_at (meanings a) ids)) ≡ length ids
names_used by a [] e n = refl
names_used by a (i ∷ is) e n = let c = as_capture (meaning_at (meanings a) i).what in ap suc (names_used by a is (env_left by e n c) (env_new by e n c))

-- the nodes of a pair's names and bodies, and its own
par_nodes : (a : Arena) (at : ℕ) (cs : Boxed (WithRoom ℕ) Global) (v : ℕ) (ds : Boxed (WithRoom ℕ) Global) (w : ℕ) (n : Node) → IsHere a at n → n.term ≡ Par cs v ds w →
    (meaning_at (meanings a) at).nodes ≡ (nodes_in (meanings a) (all_need capture_s cs.value.items) ++ ((meaning_at (meanings a) v).nodes ++ (nodes_in (meanings a) (all_need capture_s ds.value.items) ++ (meaning_at (meanings a) w).nodes))) ++ at ∷ []
par_nodes a at cs v ds w n h is =
    let ms = meanings a in
    let first = nodes_in ms (all_need capture_s cs.value.items) in
    let second = nodes_in ms (all_need capture_s ds.value.items) in
    let ours = (meaning_at ms v).nodes in
    let theirs = (meaning_at ms w).nodes in
    let front = all_need capture_s cs.value.items ++ (need term_s v ∷ all_need capture_s ds.value.items) in
    h.nodes ∙ ap (λ t. nodes_in ms (needs t) ++ at ∷ []) is
    ∙ ap (λ l. l ++ at ∷ []) (nodes_append ms front (need term_s w ∷ []))
    ∙ ap (λ l. (nodes_in ms front ++ l) ++ at ∷ []) (append-nil theirs)
    ∙ ap (λ l. (l ++ theirs) ++ at ∷ []) (nodes_append ms (all_need capture_s cs.value.items) (need term_s v ∷ all_need capture_s ds.value.items))
    ∙ ap (λ l. l ++ at ∷ []) (append_assoc first (ours ++ second) theirs)
    ∙ ap (λ l. (first ++ l) ++ at ∷ []) (append_assoc ours second theirs)

long_row : (a : Arena) (at : ℕ) (n : Node) (e : Env) → IsArena a → IsHere a at n → IsReady a at → LongBelow a at → Row n → length (meaning_at (meanings a) at).nodes ≡ length (usages_of (term_at (meanings a) at) e)
long_row a at n e arena h r below (a_number v is) =
    ap length (nodes_are a at n (Number v) h is) ∙ sym (ap (λ t. length (usages_of t e)) (term_is a at n (Number v) (number_t n.place v) h is refl))
long_row a at n e arena h r below (a_unit is) =
    ap length (nodes_are a at n Unit h is) ∙ sym (ap (λ t. length (usages_of t e)) (term_is a at n Unit (unit_t n.place) h is refl))
long_row a at n e arena h r below (a_read from is) =
    let parts = subst (AreBelow (meanings a) at) (ap needs is) h.parts in
    let lt : from < at = parts.0 in
    let alone = place_alone a from arena (omega (arith, lt, r.here)) parts.1 in
    ap length (nodes_are a at n (Read from) h is ∙ ap (λ l. (l ++ []) ++ at ∷ []) alone) ∙ sym (ap (λ t. length (usages_of t e)) (term_is a at n (Read from) (read_t n.place (place_at (meanings a) from)) h is refl))
long_row a at n e arena h r below (a_borrow of is) = place_long a at of n (Borrow of) (borrow_t n.place (place_at (meanings a) of)) e (usage_of e (place_at (meanings a) of) false) arena h is refl refl refl r
long_row a at n e arena h r below (a_borrow_mut of is) = place_long a at of n (BorrowMut of) (borrow_mut_t n.place (place_at (meanings a) of)) e (usage_of e (place_at (meanings a) of) false) arena h is refl refl refl r
long_row a at n e arena h r below (an_arith op left right is) =
    let e1 = env_after (typing (term_at (meanings a) left) e) in
    let pair = arith_parts a at left right op n h is r in
    let ns = (meaning_at (meanings a) left).nodes in
    let ks = (meaning_at (meanings a) right).nodes in
    let us = usages_of (term_at (meanings a) left) e in
    let vs = usages_of (term_at (meanings a) right) e1 in
    let nodes = ap length (nodes_are a at n (Arith op left right) h is) in
    let uses = ap (λ t. length (usages_of t e)) (term_is a at n (Arith op left right) (arith_t n.place op (term_at (meanings a) left) (term_at (meanings a) right)) h is refl) in
    omega (
      arith,
      nodes,
      uses,
      below left pair.left_before pair.left_ready e,
      below right pair.right_before pair.right_ready e1,
      length-append (ns ++ (ks ++ [])) (at ∷ []),
      length-append ns (ks ++ []),
      length-append ks [],
      length-append (us ++ vs) (None ∷ []),
      length-append us vs,
    )
long_row a at n e arena h r below (a_box v is) = one_long a at v n (Box v) (box_t n.place (term_at (meanings a) v)) e h is refl refl refl (box_part a at v n h is r) below
long_row a at n e arena h r below (a_let name v is) = one_long a at v n (Let name v) (let_t n.place (text_of a.names name) (term_at (meanings a) v)) e h is refl refl refl (let_part a at name v n h is r) below
long_row a at n e arena h r below (a_print v is) = one_long a at v n (Print v) (print_t n.place (term_at (meanings a) v)) e h is refl refl refl (print_part a at v n h is r) below
long_row a at n e arena h r below (an_assign to v is) =
    let parts = subst (AreBelow (meanings a) at) (ap needs is) h.parts in
    let lt : to < at = parts.0 in
    let alone = place_alone a to arena (omega (arith, lt, r.here)) parts.1 in
    let part = assign_part a at to v n h is r in
    let ns = (meaning_at (meanings a) v).nodes in
    let us = usages_of (term_at (meanings a) v) e in
    let nodes : length (meaning_at (meanings a) at).nodes ≡ length (to ∷ ((ns ++ []) ++ at ∷ [])) = ap length (nodes_are a at n (Assign to v) h is ∙ ap (λ l. (l ++ (ns ++ [])) ++ at ∷ []) alone) in
    let uses = ap (λ t. length (usages_of t e)) (term_is a at n (Assign to v) (assign_t n.place (place_at (meanings a) to) (term_at (meanings a) v)) h is refl) in
    omega (arith, nodes, uses, below v part.before part.ready e, length-append (ns ++ []) (at ∷ []), length-append ns [], length-append us (None ∷ []))
long_row a at n e arena h r below (a_block items is) =
    let nodes = ap length (nodes_are a at n (Block items) h is) in
    let uses = ap (λ t. length (usages_of t e)) (term_is a at n (Block items) (block_t n.place (items_at (meanings a) items.items)) h is refl) in
    omega (
      arith,
      nodes,
      uses,
      items_long a at items.items e (block_parts a at items n h is r) below,
      length-append (nodes_in (meanings a) (all_need term_s items.items)) (at ∷ []),
      length-append (usages_in (items_at (meanings a) items.items) e) (None ∷ []),
    )
long_row a at n e arena h r below (a_join v is) = one_long a at v n (Join v) (join_t n.place (term_at (meanings a) v)) e h is refl refl refl (join_part a at v n h is r) below
long_row a at n e arena h r below (a_spawn names v is) =
    let cs = captures_at (meanings a) names.items in
    let f = env_of_all by_spawn e cs in
    let parts = spawn_parts a at names v n h is r in
    let ks = nodes_in (meanings a) (all_need capture_s names.items) in
    let ns = (meaning_at (meanings a) v).nodes in
    let ms = capture_usages by_spawn e [] cs in
    let us = usages_of (term_at (meanings a) v) f in
    let nodes = ap length (spawn_nodes a at names v n h is) in
    let uses = ap (λ t. length (usages_of t e)) (term_is a at n (Spawn names v) (spawn_t n.place cs (term_at (meanings a) v)) h is refl) in
    omega (
      arith,
      nodes,
      uses,
      below v parts.before parts.ready f,
      names_long a names.items arena parts.names,
      names_used by_spawn a names.items e [],
      length-append (ks ++ ns) (at ∷ []),
      length-append ks ns,
      length-append (ms ++ us) (None ∷ []),
      length-append ms us,
    )
long_row a at n e arena h r below (a_mutex v is) = one_long a at v n (Mutex v) (mutex_t n.place (term_at (meanings a) v)) e h is refl refl refl (mutex_part a at v n h is r) below
long_row a at n e arena h r below (a_dup of is) = place_long a at of n (Dup of) (dup_t n.place (place_at (meanings a) of)) e (usage_of e (place_at (meanings a) of) false) arena h is refl refl refl r
long_row a at n e arena h r below (a_lock of name v is) =
    let w = place_at (meanings a) of in
    let x = text_of a.names name in
    let parts = lock_parts a at of name v n h is r in
    let alone = place_alone a of arena (omega (arith, parts.place_before, r.here)) parts.place_sort in
    let f = env_locked n.place e w x in
    let ns = (meaning_at (meanings a) v).nodes in
    let us = usages_of (term_at (meanings a) v) f in
    let nodes : length (meaning_at (meanings a) at).nodes ≡ length (of ∷ ((ns ++ []) ++ at ∷ [])) = ap length (nodes_are a at n (Lock of name v) h is ∙ ap (λ l. (l ++ (ns ++ [])) ++ at ∷ []) alone) in
    let uses = ap (λ t. length (usages_of t e)) (term_is a at n (Lock of name v) (lock_t n.place w x (term_at (meanings a) v)) h is refl) in
    omega (arith, nodes, uses, below v parts.before parts.ready f, length-append (ns ++ []) (at ∷ []), length-append ns [], length-append us (None ∷ []))
long_row a at n e arena h r below (a_par names v others w is) =
    let cs = captures_at (meanings a) names.value.items in
    let ds = captures_at (meanings a) others.value.items in
    let left = env_left_by_all by_par e cs in
    let parts = par_parts a at names v others w n h is r in
    let xs = nodes_in (meanings a) (all_need capture_s names.value.items) in
    let ys = nodes_in (meanings a) (all_need capture_s others.value.items) in
    let ours = (meaning_at (meanings a) v).nodes in
    let theirs = (meaning_at (meanings a) w).nodes in
    let cu = capture_usages by_par e [] cs in
    let du = capture_usages by_par left [] ds in
    let au = usages_of (term_at (meanings a) v) (env_of_all by_par e cs) in
    let bu = usages_of (term_at (meanings a) w) (env_of_all by_par left ds) in
    let nodes = ap length (par_nodes a at names v others w n h is) in
    let uses = ap (λ t. length (usages_of t e)) (term_is a at n (Par names v others w) (par_t n.place cs (term_at (meanings a) v) ds (term_at (meanings a) w)) h is refl) in
    omega (
      arith,
      nodes,
      uses,
      below v parts.ours_before parts.ours (env_of_all by_par e cs),
      below w parts.theirs_before parts.theirs (env_of_all by_par left ds),
      names_long a names.value.items arena parts.first,
      names_long a others.value.items arena parts.second,
      names_used by_par a names.value.items e [],
      names_used by_par a others.value.items left [],
      length-append (xs ++ (ours ++ (ys ++ theirs))) (at ∷ []),
      length-append xs (ours ++ (ys ++ theirs)),
      length-append ours (ys ++ theirs),
      length-append ys theirs,
      length-append (cu ++ (au ++ (du ++ bu))) (None ∷ []),
      length-append cu (au ++ (du ++ bu)),
      length-append au (du ++ bu),
      length-append du bu,
    )

-- a ready node has as many usages as nodes
pub long_below : (a : Arena) → IsArena a → (bound : ℕ) → LongBelow a bound
long_below a arena zero k lt r e = absurd (omega arith)
long_below a arena (suc bound) k lt r e =
    let n = here a k arena r.here in
    long_row a k n.0 e arena n.1 r (λ j jt rj. long_below a arena bound j (omega (arith, jt, lt)) rj) (row a k n.0 n.1 r)

-- THE PARTS ARE TYPED

-- the usages of some nodes, and of those behind them
used_both : (us : List Usage) (ns ks : List ℕ) (ms ls : List (Option Usage)) → length ns ≡ length ms → AreUsed us (ns ++ ks) (ms ++ ls) → AreUsed us ns ms × AreUsed us ks ls
used_both us [] ks [] ls e h = (tt, h)
used_both us [] ks (m ∷ ms) ls e h = absurd (omega arith)
used_both us (n ∷ ns) ks [] ls e h = absurd (omega arith)
used_both us (n ∷ ns) ks (m ∷ ms) ls e h = let r = used_both us ns ks ms ls (omega arith) h.1 in ((h.0, r.0), r.1)

record First (o : Outcome) (rule : Kind → Env → Outcome) (k : Kind) (after : Env) : Type 0 where
  pub kind : Kind
  pub env : Env
  pub typed_first : o ≡ typed kind env
  pub follows : rule kind env ≡ typed k after

first_typed : (o : Outcome) (rule : Kind → Env → Outcome) (k : Kind) (after : Env) → then_typed o rule ≡ typed k after → First o rule k after
first_typed (typed k1 e1) rule k after h = record { kind = k1; env = e1; typed_first = refl; follows = h }
first_typed (fault p r) rule k after h = absurd cc

-- the one part of a term
one_typed : (p : Program) (at v : ℕ) (n : Node) (m : Term) (t : terms.Term) (rule : Kind → Env → Outcome) (e : Env) → IsArena p.arena → IsHere p.arena at n → n.term ≡ m → needs m ≡ need term_s v ∷ [] → stands_for p.arena.names (meanings p.arena) n.place m ≡ a_term t →
    typing t e ≡ then_typed (typing (term_at (meanings p.arena) v) e) rule → usages_of t e ≡ usages_of (term_at (meanings p.arena) v) e ++ None ∷ [] → IsPart p.arena at v → IsTypedIn p at e → IsTypedIn p v e
one_typed p at v n m t rule e arena h is one stands types usages part w =
    let a = p.arena in
    let ns = (meaning_at (meanings a) v).nodes in
    let us = usages_of (term_at (meanings a) v) e in
    let term = term_is a at n m t h is stands in
    let f = first_typed (typing (term_at (meanings a) v) e) rule w.kind w.after (sym types ∙ sym (ap (λ x. typing x e) term) ∙ w.typed) in
    let nodes = nodes_are a at n m h is ∙ ap (λ l. nodes_in (meanings a) l ++ at ∷ []) one in
    let long = long_below a arena at v part.before part.ready e in
    let all : AreUsed p.usages ((ns ++ []) ++ at ∷ []) (us ++ None ∷ []) = subst (λ l. AreUsed p.usages ((ns ++ []) ++ at ∷ []) l) (ap (λ x. usages_of x e) term ∙ usages) (subst (λ l. AreUsed p.usages l (usages_of (term_at (meanings a) at) e)) nodes w.used) in
    let same = sym (append-nil us) in
    let front = (used_both p.usages (ns ++ []) (at ∷ []) us (None ∷ []) (omega (arith, long, length-append ns [])) all).0 in
    record {
      ready = part.ready;
      kind = f.kind;
      after = f.env;
      typed = f.typed_first;
      used = (used_both p.usages ns [] us [] long (subst (λ l. AreUsed p.usages (ns ++ []) l) same front)).0;
    }

pub box_typed : (p : Program) (at v : ℕ) (n : Node) (e : Env) → IsArena p.arena → IsHere p.arena at n → n.term ≡ Box v → IsTypedIn p at e → IsTypedIn p v e
box_typed p at v n e arena h is w =
    let t = term_at (meanings p.arena) v in
    one_typed p at v n (Box v) (box_t n.place t) (box_rule (start_of t)) e arena h is refl refl refl refl (box_part p.arena at v n h is w.ready) w

pub print_typed : (p : Program) (at v : ℕ) (n : Node) (e : Env) → IsArena p.arena → IsHere p.arena at n → n.term ≡ Print v → IsTypedIn p at e → IsTypedIn p v e
print_typed p at v n e arena h is w =
    let t = term_at (meanings p.arena) v in
    one_typed p at v n (Print v) (print_t n.place t) (print_rule (start_of t)) e arena h is refl refl refl refl (print_part p.arena at v n h is w.ready) w

pub let_typed : (p : Program) (at name v : ℕ) (n : Node) (e : Env) → IsArena p.arena → IsHere p.arena at n → n.term ≡ Let name v → IsTypedIn p at e → IsTypedIn p v e
let_typed p at name v n e arena h is w =
    let t = term_at (meanings p.arena) v in
    let x = text_of p.arena.names name in
    one_typed p at v n (Let name v) (let_t n.place x t) (let_rule n.place x) e arena h is refl refl refl refl (let_part p.arena at name v n h is w.ready) w

pub join_typed : (p : Program) (at v : ℕ) (n : Node) (e : Env) → IsArena p.arena → IsHere p.arena at n → n.term ≡ Join v → IsTypedIn p at e → IsTypedIn p v e
join_typed p at v n e arena h is w =
    let t = term_at (meanings p.arena) v in
    one_typed p at v n (Join v) (join_t n.place t) (join_rule (start_of t)) e arena h is refl refl refl refl (join_part p.arena at v n h is w.ready) w

pub mutex_typed : (p : Program) (at v : ℕ) (n : Node) (e : Env) → IsArena p.arena → IsHere p.arena at n → n.term ≡ Mutex v → IsTypedIn p at e → IsTypedIn p v e
mutex_typed p at v n e arena h is w =
    let t = term_at (meanings p.arena) v in
    one_typed p at v n (Mutex v) (mutex_t n.place t) (held_rule mutex (start_of t)) e arena h is refl refl refl refl (mutex_part p.arena at v n h is w.ready) w

-- the body of a new thread in an environment of the captured names alone, and the usages of those
pub record Started (p : Program) (ids : List ℕ) (v : ℕ) (e : Env) : Type 0 where
  pub body : IsTypedIn p v (env_of_all by_spawn e (captures_at (meanings p.arena) ids))
  pub names : AreUsed p.usages (nodes_in (meanings p.arena) (all_need capture_s ids)) (capture_usages by_spawn e [] (captures_at (meanings p.arena) ids))

pub no_fault : (at : ℕ) (r : Reason) (k : Kind) (e : Env) → fault at r ≡ typed k e → ⊥
no_fault at r k e h = cc

-- a term that is typed in the new environment
record TypedBody (t : terms.Term) (n : Env) : Type 0 where
  pub kind : Kind
  pub after : Env
  pub typed_body : typing t n ≡ typed kind after

-- where a new thread's term is typed, its body is
body_typed : (cs : List Captured) (t : terms.Term) (e : Env) (k : Kind) (after : Env) → typing (spawn_t 0 cs t) e ≡ typed k after → TypedBody t (env_of_all by_spawn e cs)
body_typed cs t e k after h =
    capture_all_cases by_spawn cs e [] (λ o. o ≡ typed k after → TypedBody t (env_of_all by_spawn e cs)) (λ e1 n. then_typed (typing t n) (λ k1 n1. held_rule task (start_of t) k1 e1))
    (λ q r d g. absurd (no_fault q r k after g))
    (λ e1 n goes g.
    let env : n ≡ env_of_all by_spawn e cs = sym (ap env_after (capture_all_by (λ e2 n2. typed (own unit) n2) goes)) in
    let f = first_typed (typing t n) (λ k1 n1. held_rule task (start_of t) k1 e1) k after g in
    subst (TypedBody t) env (record { kind = f.kind; after = f.env; typed_body = f.typed_first }))
    h

pub spawn_typed : (p : Program) (at : ℕ) (names : WithRoom ℕ) (v : ℕ) (n : Node) (e : Env) → IsArena p.arena → IsHere p.arena at n → n.term ≡ Spawn names v → IsTypedIn p at e → Started p names.items v e
spawn_typed p at names v n e arena h is w =
    let a = p.arena in
    let t = term_at (meanings a) v in
    let cs = captures_at (meanings a) names.items in
    let f = env_of_all by_spawn e cs in
    let parts = spawn_parts a at names v n h is w.ready in
    let ks = nodes_in (meanings a) (all_need capture_s names.items) in
    let ns = (meaning_at (meanings a) v).nodes in
    let ms = capture_usages by_spawn e [] cs in
    let us = usages_of t f in
    let term = term_is a at n (Spawn names v) (spawn_t n.place cs t) h is refl in
    let b = body_typed cs t e w.kind w.after (sym (ap (λ x. typing x e) term) ∙ w.typed) in
    let all : AreUsed p.usages ((ks ++ ns) ++ at ∷ []) ((ms ++ us) ++ None ∷ []) = subst (λ l. AreUsed p.usages ((ks ++ ns) ++ at ∷ []) l) (ap (λ x. usages_of x e) term) (subst (λ l. AreUsed p.usages l (usages_of (term_at (meanings a) at) e)) (spawn_nodes a at names v n h is) w.used) in
    let first = names_long a names.items arena parts.names ∙ sym (names_used by_spawn a names.items e []) in
    let second = long_below a arena at v parts.before parts.ready f in
    let front = (used_both p.usages (ks ++ ns) (at ∷ []) (ms ++ us) (None ∷ []) (omega (arith, first, second, length-append ks ns, length-append ms us)) all).0 in
    let both = used_both p.usages ks ns ms us first front in
    record {
      body = record { ready = parts.ready; kind = b.kind; after = b.after; typed = b.typed_body; used = both.1 };
      names = both.0;
    }

-- LOCKS

-- where a lock is typed, its body is, in the environment with the lock's slots
record TypedLock (e : Env) (at : ℕ) (w : Spot) (x : Text) (b : terms.Term) : Type 0 where
  pub kind : Kind
  pub after : Env
  pub typed_body : typing b (resolve.env_locked e w x) ≡ typed kind after
  pub same : env_locked at e w x ≡ resolve.env_locked e w x

locked_is : {e : Env} {w : Spot} {s : ℕ} {o : Owned} (x : Text) → Has e w s (found (whole (own (mutex o)))) → resolve.env_locked e w x ≡ with_lock e (place_of w s) x o
locked_is x h = simp (h.named, h.is)

lock_types : {e after : Env} {k : Kind} {at : ℕ} {w : Spot} {x : Text} {b : terms.Term} → Types e (lock_t at w x b) k after → TypedLock e at w x b
lock_types {e = e} {at = at} {w = w} {x = x} {b = b} (types_lock {e1 = e1} {s = s} {o = o} {k = k} shows new body owned content) =
    let go = lock_rule at e w x (λ f. typed (own unit) f) in
    let there = shows_by e w s (own (mutex o)) go shows ∙ ap (λ y. unless (is_some y) at NameInScope (typed (own unit) (with_lock e (place_of w s) x o))) new in
    let is = locked_is x shows.is in
    record {
      kind = k;
      after = e1;
      typed_body = ap (typing b) is ∙ (exactly_one_lem.types b (with_lock e (place_of w s) x o) k e1).0 body;
      same = ap env_after there ∙ sym is;
    }

-- the body of a lock, and the usage of its place
pub record Locked (p : Program) (of name v : ℕ) (e : Env) : Type 0 where
  pub body : IsTypedIn p v (resolve.env_locked e (place_at (meanings p.arena) of) (text_of p.arena.names name))
  pub place : slice_get p.usages of ≡ Some (usage_of e (place_at (meanings p.arena) of) false)

pub lock_typed : (p : Program) (at of name v : ℕ) (n : Node) (e : Env) → IsArena p.arena → IsHere p.arena at n → n.term ≡ Lock of name v → IsTypedIn p at e → Locked p of name v e
lock_typed p at of name v n e arena h is w =
    let a = p.arena in
    let t = term_at (meanings a) v in
    let spot = place_at (meanings a) of in
    let x = text_of a.names name in
    let ns = (meaning_at (meanings a) v).nodes in
    let f = env_locked n.place e spot x in
    let us = usages_of t f in
    let parts = lock_parts a at of name v n h is w.ready in
    let alone = place_alone a of arena (omega (arith, parts.place_before, w.ready.here)) parts.place_sort in
    let term = term_is a at n (Lock of name v) (lock_t n.place spot x t) h is refl in
    let g = lock_types ((exactly_one_lem.types (lock_t n.place spot x t) e w.kind w.after).1 (sym (ap (λ y. typing y e) term) ∙ w.typed)) in
    let nodes : (meaning_at (meanings a) at).nodes ≡ of ∷ ((ns ++ []) ++ at ∷ []) = nodes_are a at n (Lock of name v) h is ∙ ap (λ l. (l ++ (ns ++ [])) ++ at ∷ []) alone in
    let long = long_below a arena at v parts.before parts.ready f in
    let u = usage_of e spot false in
    let all : AreUsed p.usages (of ∷ ((ns ++ []) ++ at ∷ [])) (Some u ∷ us ++ None ∷ []) = subst (λ l. AreUsed p.usages (of ∷ ((ns ++ []) ++ at ∷ [])) l) (ap (λ y. usages_of y e) term) (subst (λ l. AreUsed p.usages l (usages_of (term_at (meanings a) at) e)) nodes w.used) in
    let front = (used_both p.usages (ns ++ []) (at ∷ []) us (None ∷ []) (omega (arith, long, length-append ns [])) all.1).0 in
    let used : AreUsed p.usages ns us = (used_both p.usages ns [] us [] long (subst (λ l. AreUsed p.usages (ns ++ []) l) (sym (append-nil us)) front)).0 in
    record {
      body = record { ready = parts.ready; kind = g.kind; after = g.after; typed = g.typed_body; used = subst (λ y. AreUsed p.usages ns (usages_of t y)) g.same used };
      place = all.0;
    }

-- PAIRS

-- where a pair is typed, both bodies are
record TypedPair (e : Env) (cs : List Captured) (a : terms.Term) (ds : List Captured) (b : terms.Term) : Type 0 where
  pub ours : TypedBody a (env_of_all by_par e cs)
  pub theirs : TypedBody b (env_of_all by_par (env_left_by_all by_par e cs) ds)

typed_in : (t : terms.Term) (n m : Env) (k : Kind) (after : Env) → Types n t k after → n ≡ m → TypedBody t m
typed_in t n m k after types same = subst (TypedBody t) same (record { kind = k; after = after; typed_body = (exactly_one_lem.types t n k after).0 types })

pair_types : {e after : Env} {k : Kind} {at : ℕ} {cs ds : List Captured} {a b : terms.Term} → Types e (par_t at cs a ds b) k after → TypedPair e cs a ds b
pair_types {e = e} {cs = cs} {ds = ds} {a = a} {b = b} (types_par {n = n} {n1 = n1} {m = m} {m1 = m1} {k = k} {l = l} both first second i j) =
    let left : both.between ≡ env_left_by_all by_par e cs = sym (ap env_after (capture_all_by (λ e1 n2. typed (own unit) e1) both.first)) in
    let ours : n ≡ env_of_all by_par e cs = sym (ap env_after (capture_all_by (λ e1 n2. typed (own unit) n2) both.first)) in
    let theirs : m ≡ env_of_all by_par both.between ds = sym (ap env_after (capture_all_by (λ e1 n2. typed (own unit) n2) both.second)) in
    record {
      ours = typed_in a n (env_of_all by_par e cs) k n1 first ours;
      theirs = typed_in b m (env_of_all by_par (env_left_by_all by_par e cs) ds) l m1 second (theirs ∙ ap (λ y. env_of_all by_par y ds) left);
    }

-- a body of a pair in an environment of its captured names alone, which come from this one, and the usages of those
pub record Branch (p : Program) (ids : List ℕ) (v : ℕ) (e : Env) : Type 0 where
  pub body : IsTypedIn p v (env_of_all by_par e (captures_at (meanings p.arena) ids))
  pub names : AreUsed p.usages (nodes_in (meanings p.arena) (all_need capture_s ids)) (capture_usages by_par e [] (captures_at (meanings p.arena) ids))

-- its usages stand before those of other nodes
branch_typed : (p : Program) (at : ℕ) (ids : List ℕ) (v : ℕ) (e : Env) (ks : List ℕ) (ls : List (Option Usage)) → IsArena p.arena → AreNames p.arena ids → v < at → IsReady p.arena v → TypedBody (term_at (meanings p.arena) v) (env_of_all by_par e (captures_at (meanings p.arena) ids)) →
    AreUsed p.usages (nodes_in (meanings p.arena) (all_need capture_s ids) ++ ((meaning_at (meanings p.arena) v).nodes ++ ks)) (capture_usages by_par e [] (captures_at (meanings p.arena) ids) ++ (usages_of (term_at (meanings p.arena) v) (env_of_all by_par e (captures_at (meanings p.arena) ids)) ++ ls)) →
    Branch p ids v e × AreUsed p.usages ks ls
branch_typed p at ids v e ks ls arena names before ready b used =
    let a = p.arena in
    let cs = captures_at (meanings a) ids in
    let f = env_of_all by_par e cs in
    let xs = nodes_in (meanings a) (all_need capture_s ids) in
    let ns = (meaning_at (meanings a) v).nodes in
    let us = usages_of (term_at (meanings a) v) f in
    let long = names_long a ids arena names ∙ sym (names_used by_par a ids e []) in
    let first = used_both p.usages xs (ns ++ ks) (capture_usages by_par e [] cs) (us ++ ls) long used in
    let second = used_both p.usages ns ks us ls (long_below a arena at v before ready f) first.1 in
    (record { body = record { ready = ready; kind = b.kind; after = b.after; typed = b.typed_body; used = second.0 }; names = first.0 }, second.1)

-- both bodies of a pair
pub record Pair (p : Program) (ids : List ℕ) (v : ℕ) (others : List ℕ) (w : ℕ) (e : Env) : Type 0 where
  pub ours : Branch p ids v e
  pub theirs : Branch p others w (env_left_by_all by_par e (captures_at (meanings p.arena) ids))

pub par_typed : (p : Program) (at : ℕ) (names : Boxed (WithRoom ℕ) Global) (v : ℕ) (others : Boxed (WithRoom ℕ) Global) (w : ℕ) (n : Node) (e : Env) → IsArena p.arena → IsHere p.arena at n → n.term ≡ Par names v others w → IsTypedIn p at e → Pair p names.value.items v others.value.items w e
par_typed p at names v others w n e arena h is y =
    let a = p.arena in
    let t = term_at (meanings a) v in
    let u = term_at (meanings a) w in
    let cs = captures_at (meanings a) names.value.items in
    let ds = captures_at (meanings a) others.value.items in
    let left = env_left_by_all by_par e cs in
    let xs = nodes_in (meanings a) (all_need capture_s names.value.items) in
    let ys = nodes_in (meanings a) (all_need capture_s others.value.items) in
    let ours = (meaning_at (meanings a) v).nodes in
    let theirs = (meaning_at (meanings a) w).nodes in
    let cu = capture_usages by_par e [] cs in
    let du = capture_usages by_par left [] ds in
    let au = usages_of t (env_of_all by_par e cs) in
    let bu = usages_of u (env_of_all by_par left ds) in
    let parts = par_parts a at names v others w n h is y.ready in
    let term = term_is a at n (Par names v others w) (par_t n.place cs t ds u) h is refl in
    let g = pair_types ((exactly_one_lem.types (par_t n.place cs t ds u) e y.kind y.after).1 (sym (ap (λ z. typing z e) term) ∙ y.typed)) in
    let all : AreUsed p.usages ((xs ++ (ours ++ (ys ++ theirs))) ++ at ∷ []) ((cu ++ (au ++ (du ++ bu))) ++ None ∷ []) = subst (λ l. AreUsed p.usages ((xs ++ (ours ++ (ys ++ theirs))) ++ at ∷ []) l) (ap (λ z. usages_of z e) term) (subst (λ l. AreUsed p.usages l (usages_of (term_at (meanings a) at) e)) (par_nodes a at names v others w n h is) y.used) in
    let first_long = names_long a names.value.items arena parts.first ∙ sym (names_used by_par a names.value.items e []) in
    let second_long = names_long a others.value.items arena parts.second ∙ sym (names_used by_par a others.value.items left []) in
    let ours_long = long_below a arena at v parts.ours_before parts.ours (env_of_all by_par e cs) in
    let theirs_long = long_below a arena at w parts.theirs_before parts.theirs (env_of_all by_par left ds) in
    let same : length (xs ++ (ours ++ (ys ++ theirs))) ≡ length (cu ++ (au ++ (du ++ bu))) =
    omega (arith, first_long, second_long, ours_long, theirs_long, length-append xs (ours ++ (ys ++ theirs)), length-append ours (ys ++ theirs), length-append ys theirs, length-append cu (au ++ (du ++ bu)), length-append au (du ++ bu), length-append du bu) in
    let front = (used_both p.usages (xs ++ (ours ++ (ys ++ theirs))) (at ∷ []) (cu ++ (au ++ (du ++ bu))) (None ∷ []) same all).0 in
    let one = branch_typed p at names.value.items v e (ys ++ theirs) (du ++ bu) arena parts.first parts.ours_before parts.ours g.ours front in
    let two = branch_typed p at others.value.items w left [] [] arena parts.second parts.theirs_before parts.theirs g.theirs
    (subst (λ l. AreUsed p.usages (ys ++ l) (du ++ (bu ++ []))) (sym (append-nil theirs)) (subst (λ l. AreUsed p.usages (ys ++ theirs) (du ++ l)) (sym (append-nil bu)) one.1)) in
    record { ours = one.0; theirs = two.0 }

-- ASSIGNMENTS, OPERATIONS AND BLOCKS

-- the value of an assignment, and the usage of its place
pub record Assigned (p : Program) (to v : ℕ) (e : Env) : Type 0 where
  pub value : IsTypedIn p v e
  pub place : slice_get p.usages to ≡ Some (usage_of (env_after (typing (term_at (meanings p.arena) v) e)) (place_at (meanings p.arena) to) false)

pub assign_typed : (p : Program) (at to v : ℕ) (n : Node) (e : Env) → IsArena p.arena → IsHere p.arena at n → n.term ≡ Assign to v → IsTypedIn p at e → Assigned p to v e
assign_typed p at to v n e arena h is w =
    let a = p.arena in
    let t = term_at (meanings a) v in
    let spot = place_at (meanings a) to in
    let ns = (meaning_at (meanings a) v).nodes in
    let us = usages_of t e in
    let parts = subst (AreBelow (meanings a) at) (ap needs is) h.parts in
    let lt : to < at = parts.0 in
    let alone = place_alone a to arena (omega (arith, lt, w.ready.here)) parts.1 in
    let part = assign_part a at to v n h is w.ready in
    let term = term_is a at n (Assign to v) (assign_t n.place spot t) h is refl in
    let f = first_typed (typing t e) (assign_rule spot (start_of t)) w.kind w.after (sym (ap (λ x. typing x e) term) ∙ w.typed) in
    let nodes : (meaning_at (meanings a) at).nodes ≡ to ∷ ((ns ++ []) ++ at ∷ []) = nodes_are a at n (Assign to v) h is ∙ ap (λ l. (l ++ (ns ++ [])) ++ at ∷ []) alone in
    let long = long_below a arena at v part.before part.ready e in
    let u = usage_of (env_after (typing t e)) spot false in
    let all : AreUsed p.usages (to ∷ ((ns ++ []) ++ at ∷ [])) (Some u ∷ us ++ None ∷ []) = subst (λ l. AreUsed p.usages (to ∷ ((ns ++ []) ++ at ∷ [])) l) (ap (λ x. usages_of x e) term) (subst (λ l. AreUsed p.usages l (usages_of (term_at (meanings a) at) e)) nodes w.used) in
    let front = (used_both p.usages (ns ++ []) (at ∷ []) us (None ∷ []) (omega (arith, long, length-append ns [])) all.1).0 in
    record {
      value = record {
        ready = part.ready;
        kind = f.kind;
        after = f.env;
        typed = f.typed_first;
        used = (used_both p.usages ns [] us [] long (subst (λ l. AreUsed p.usages (ns ++ []) l) (sym (append-nil us)) front)).0;
      };
      place = all.0;
    }

-- the usage of a reference's place
pub lent_place : (p : Program) (at of : ℕ) (n : Node) (m : Term) (t : terms.Term) (e : Env) → IsArena p.arena → IsHere p.arena at n → n.term ≡ m → needs m ≡ need place_s of ∷ [] → stands_for p.arena.names (meanings p.arena) n.place m ≡ a_term t →
    usages_of t e ≡ Some (usage_of e (place_at (meanings p.arena) of) false) ∷ None ∷ [] → IsTypedIn p at e → slice_get p.usages of ≡ Some (usage_of e (place_at (meanings p.arena) of) false)
lent_place p at of n m t e arena h is one stands usages w =
    let a = p.arena in
    let u = usage_of e (place_at (meanings a) of) false in
    let parts = subst (AreBelow (meanings a) at) (ap needs is ∙ one) h.parts in
    let lt : of < at = parts.0 in
    let alone = place_alone a of arena (omega (arith, lt, w.ready.here)) parts.1 in
    let nodes : (meaning_at (meanings a) at).nodes ≡ of ∷ at ∷ [] = nodes_are a at n m h is ∙ ap (λ l. nodes_in (meanings a) l ++ at ∷ []) one ∙ ap (λ l. (l ++ []) ++ at ∷ []) alone in
    let all : AreUsed p.usages (of ∷ at ∷ []) (Some u ∷ None ∷ []) = subst (λ l. AreUsed p.usages (of ∷ at ∷ []) l) (ap (λ x. usages_of x e) (term_is a at n m t h is stands) ∙ usages) (subst (λ l. AreUsed p.usages l (usages_of (term_at (meanings a) at) e)) nodes w.used) in
    all.0

-- the operands of an operation, the right one in the environment after the left one
pub record Operands (p : Program) (left right : ℕ) (e : Env) : Type 0 where
  pub first : IsTypedIn p left e
  pub second : IsTypedIn p right (env_after (typing (term_at (meanings p.arena) left) e))

-- a check that holds
passed : (b : Bool) (at : ℕ) (r : Reason) (rest : Outcome) (k : Kind) (e : Env) → unless b at r rest ≡ typed k e → rest ≡ typed k e
passed true at r rest k e h = absurd cc
passed false at r rest k e h = h

pub arith_typed : (p : Program) (at left right : ℕ) (op : Op) (n : Node) (e : Env) → IsArena p.arena → IsHere p.arena at n → n.term ≡ Arith op left right → IsTypedIn p at e → Operands p left right e
arith_typed p at left right op n e arena h is w =
    let a = p.arena in
    let t = term_at (meanings a) left in
    let u = term_at (meanings a) right in
    let e1 = env_after (typing t e) in
    let ns = (meaning_at (meanings a) left).nodes in
    let ks = (meaning_at (meanings a) right).nodes in
    let us = usages_of t e in
    let vs = usages_of u e1 in
    let pair = arith_parts a at left right op n h is w.ready in
    let term = term_is a at n (Arith op left right) (arith_t n.place op t u) h is refl in
    let f = first_typed (typing t e) (λ k x. int_rule (start_of t) k (then_typed (typing u x) (arith_rule (start_of u)))) w.kind w.after (sym (ap (λ x. typing x e) term) ∙ w.typed) in
    let env : f.env ≡ e1 = sym (ap env_after f.typed_first) in
    let follows = subst (λ x. then_typed (typing u x) (arith_rule (start_of u)) ≡ typed w.kind w.after) env (passed (not (is_int f.kind)) (start_of t) WrongType (then_typed (typing u f.env) (arith_rule (start_of u))) w.kind w.after f.follows) in
    let g = first_typed (typing u e1) (arith_rule (start_of u)) w.kind w.after follows in
    let nodes : (meaning_at (meanings a) at).nodes ≡ (ns ++ (ks ++ [])) ++ at ∷ [] = nodes_are a at n (Arith op left right) h is in
    let all : AreUsed p.usages ((ns ++ (ks ++ [])) ++ at ∷ []) (us ++ vs ++ None ∷ []) = subst (λ l. AreUsed p.usages ((ns ++ (ks ++ [])) ++ at ∷ []) l) (ap (λ x. usages_of x e) term) (subst (λ l. AreUsed p.usages l (usages_of (term_at (meanings a) at) e)) nodes w.used) in
    let long1 = long_below a arena at left pair.left_before pair.left_ready e in
    let long2 = long_below a arena at right pair.right_before pair.right_ready e1 in
    let front = (used_both p.usages (ns ++ (ks ++ [])) (at ∷ []) (us ++ vs) (None ∷ []) (omega (arith, long1, long2, length-append ns (ks ++ []), length-append ks [], length-append us vs)) all).0 in
    let both = used_both p.usages ns (ks ++ []) us vs long1 front in
    record {
      first = record { ready = pair.left_ready; kind = f.kind; after = f.env; typed = f.typed_first; used = both.0 };
      second = record { ready = pair.right_ready; kind = g.kind; after = g.env; typed = g.typed_first; used = subst (λ l. AreUsed p.usages l vs) (append-nil ks) both.1 };
    }

-- the usages of a read and of its place
pub record Taken (p : Program) (at from : ℕ) (e : Env) : Type 0 where
  pub place : slice_get p.usages from ≡ Some (read_usage (place_at (meanings p.arena) from) e)
  pub read : slice_get p.usages at ≡ Some (read_usage (place_at (meanings p.arena) from) e)

pub read_taken : (p : Program) (at from : ℕ) (n : Node) (e : Env) → IsArena p.arena → IsHere p.arena at n → n.term ≡ Read from → IsTypedIn p at e → Taken p at from e
read_taken p at from n e arena h is w =
    let a = p.arena in
    let u = read_usage (place_at (meanings a) from) e in
    let parts = subst (AreBelow (meanings a) at) (ap needs is) h.parts in
    let lt : from < at = parts.0 in
    let alone = place_alone a from arena (omega (arith, lt, w.ready.here)) parts.1 in
    let nodes : (meaning_at (meanings a) at).nodes ≡ from ∷ at ∷ [] = nodes_are a at n (Read from) h is ∙ ap (λ l. (l ++ []) ++ at ∷ []) alone in
    let term = term_is a at n (Read from) (read_t n.place (place_at (meanings a) from)) h is refl in
    let all : AreUsed p.usages (from ∷ at ∷ []) (Some u ∷ Some u ∷ []) = subst (λ l. AreUsed p.usages (from ∷ at ∷ []) l) (ap (λ x. usages_of x e) term) (subst (λ l. AreUsed p.usages l (usages_of (term_at (meanings a) at) e)) nodes w.used) in
    record { place = all.0; read = all.1.0 }

-- items, one after another
pub record AreTypedIn (p : Program) (at : ℕ) (ids : List ℕ) (e : Env) : Type 0 where
  pub ready : AreReady p.arena at ids
  pub kind : Kind
  pub after : Env
  pub so_far : Kind
  pub start : ℕ
  pub end : Kind → ℕ → Env → Outcome
  pub typed : typing_items (items_at (meanings p.arena) ids) so_far start e end ≡ typed kind after
  pub used : AreUsed p.usages (nodes_in (meanings p.arena) (all_need term_s ids)) (usages_in (items_at (meanings p.arena) ids) e)

pub block_typed : (p : Program) (at : ℕ) (items : WithRoom ℕ) (n : Node) (e : Env) → IsArena p.arena → IsHere p.arena at n → n.term ≡ Block items → IsTypedIn p at e → AreTypedIn p at items.items e
block_typed p at items n e arena h is w =
    let a = p.arena in
    let ids = items.items in
    let ts = items_at (meanings a) ids in
    let ns = nodes_in (meanings a) (all_need term_s ids) in
    let term = term_is a at n (Block items) (block_t n.place ts) h is refl in
    let nodes = nodes_are a at n (Block items) h is in
    let ready = block_parts a at items n h is w.ready in
    let all : AreUsed p.usages (ns ++ at ∷ []) (usages_in ts e ++ None ∷ []) = subst (λ l. AreUsed p.usages (ns ++ at ∷ []) l) (ap (λ x. usages_of x e) term) (subst (λ l. AreUsed p.usages l (usages_of (term_at (meanings a) at) e)) nodes w.used) in
    record {
      ready = ready;
      kind = w.kind;
      after = w.after;
      so_far = own unit;
      start = n.place;
      end = end_rule (length e);
      typed = sym (ap (λ x. typing x e) term) ∙ w.typed;
      used = (used_both p.usages ns (at ∷ []) (usages_in ts e) (None ∷ []) (items_long a at ids e ready (long_below a arena at)) all).0;
    }

-- the first item, and the others
pub record Parted (p : Program) (at i : ℕ) (is : List ℕ) (e : Env) : Type 0 where
  pub first : IsTypedIn p i e
  pub rest : AreTypedIn p at is (env_after (typing (term_at (meanings p.arena) i) e))

pub parted : (p : Program) (at i : ℕ) (is : List ℕ) (e : Env) → IsArena p.arena → AreTypedIn p at (i ∷ is) e → Parted p at i is e
parted p at i is e arena w =
    let a = p.arena in
    let t = term_at (meanings a) i in
    let lt : i < at = w.ready.parts.0 in
    let ready = first_ready a at i is w.ready in
    let f = first_typed (typing t e) (λ k1 e1. typing_items (items_at (meanings a) is) k1 (start_of t) e1 w.end) w.kind w.after w.typed in
    let u = used_both p.usages (meaning_at (meanings a) i).nodes (nodes_in (meanings a) (all_need term_s is)) (usages_of t e) (usages_in (items_at (meanings a) is) (env_after (typing t e))) (long_below a arena at i lt ready e) w.used in
    let env : f.env ≡ env_after (typing t e) = sym (ap env_after f.typed_first) in
    record {
      first = record { ready = ready; kind = f.kind; after = f.env; typed = f.typed_first; used = u.0 };
      rest = record {
        ready = rest_ready a at i is w.ready;
        kind = w.kind;
        after = w.after;
        so_far = f.kind;
        start = start_of t;
        end = w.end;
        typed = subst (λ x. typing_items (items_at (meanings a) is) f.kind (start_of t) x w.end ≡ typed w.kind w.after) env f.follows;
        used = u.1;
      };
    }
