-- The forms of terms, one after another: their parts are ready to be checked, and their usages are written.
use Rattle.std.proofs.Common.{◌≡◌, ℕ, ◌<◌, false, List, [], ◌∷◌, ◌++◌, ◌+◌, ◌≤◌, length, Some, None, refl, sym, ap, ◌∙◌, subst, arith, append_assoc, length-append}
use Rattle.std.specs.Prelude.{Result, Ok, Err, OnOk}
use Rattle.std.proofs.lemmas.List.{append-nil}
use Rattle.fr_base.specs.declared.place.Op.{Op}
use Rattle.fr_terms.specs.Terms as terms
use Rattle.fr_terms.specs.Terms.{Text, Captured, block_t, let_t, assign_t, box_t, print_t, arith_t, join_t, mutex_t, spawn_t}
use Rattle.fr_typing.specs.Kinds.{Kind, own, unit}
use Rattle.fr_typing.specs.Places.{Env}
use Rattle.fr_typing.specs.Finding.{Outcome, typed, env_after}
use Rattle.fr_typing.specs.Captures.{Capturer, by_spawn, capture_all, env_of_all}
use Rattle.fr_typing.specs.Typing.{typing}
use Rattle.fr_syntax.specs.declared.tree.Term.TheVariants.{Block, Let, Assign, Box, Print, Arith, Join, Mutex, Spawn}
use Rattle.fr_syntax.specs.declared.tree.Node.{Node}
use Rattle.fr_syntax.specs.Arena.{Arena, text_of}
use Rattle.fr_base.specs.Rooms.{WithRoom}
use Rattle.fr_syntax.specs.Meanings.{Meaning, meaning_at, term_at, place_at, items_at, captures_at, stands_for, Sort, term_s, place_s, capture_s, Need, need, all_need, needs, nodes_in, meanings, AreBelow, AreDifferent}
use Rattle.fr_syntax.proofs.TreeLemmas.{same_below, below_same}
use Rattle.borrow_check.specs.declared.usage.Usage.{Usage}
use Rattle.fr_types.specs.declared.types.Ty.{Ty}
use Rattle.fr_types.specs.States.{Held, env_of}
use Rattle.borrow_check.specs.declared.check_error.CheckError.{CheckError}
use Rattle.borrow_check.specs.Rules.{Gives}
use Rattle.borrow_check.specs.Capturing.{AreNames}
use Rattle.borrow_check.specs.Nodes.{IsReady, AreReady}
use Rattle.borrow_check.specs.Usages.{usage_of, capture_usages, usages_of, usages_in, write, AreWritten}
use Rattle.borrow_check.proofs.UsageLemmas.{written_both, written_node, different_front, different_back}
use Rattle.borrow_check.proofs.TermLemmas.{left_part, right_part, arith_written, IsHere, term_here, one_part, value_part, items_part, one_written, block_written, assign_written}

pub on_ok : {A E : Type 0} (P : Type 0) (r : Result A E) → P → OnOk r P
on_ok P (Ok x) h = h
on_ok P (Err e) h = tt

pub on_ok_both : {A E : Type 0} (P Q R : Type 0) (r : Result A E) → OnOk r P → OnOk r Q → (P → Q → R) → OnOk r R
on_ok_both P Q R (Ok x) h g both = both h g
on_ok_both P Q R (Err e) h g both = tt

pub here_by : (a : Arena) (at : ℕ) (n : Node) → (meaning_at (meanings a) at).what ≡ stands_for a.names (meanings a) n.place n.term → (meaning_at (meanings a) at).nodes ≡ nodes_in (meanings a) (needs n.term) ++ at ∷ [] → AreBelow (meanings a) at (needs n.term) → IsHere a at n
here_by a at n what nodes parts = record { what = what; nodes = nodes; parts = parts }

-- a node's number is that of a place of the list of usages
pub at_inside : (a : Arena) (at : ℕ) (us : List Usage) → IsReady a at → length us ≡ length (meanings a) → at < length us
at_inside a at us ready long = omega (arith, ready.here)

-- the nodes of parts, one list of them after another
pub nodes_append : (ms : List Meaning) (xs ys : List Need) → nodes_in ms (xs ++ ys) ≡ nodes_in ms xs ++ nodes_in ms ys
nodes_append ms [] ys = refl
nodes_append ms (x ∷ xs) ys =
    ap (λ l. (meaning_at ms x.node).nodes ++ l) (nodes_append ms xs ys) ∙ sym (append_assoc (meaning_at ms x.node).nodes (nodes_in ms xs) (nodes_in ms ys))

-- parts that stand before a node, taken apart
pub needs_append : (ms : List Meaning) (n : ℕ) (xs ys : List Need) → AreBelow ms n (xs ++ ys) → AreBelow ms n xs × AreBelow ms n ys
needs_append ms n [] ys h = (tt, h)
needs_append ms n (x ∷ xs) ys h = let rest = needs_append ms n xs ys h.2 in ((h.0, h.1, rest.0), rest.1)

-- a term part stands before its node and is ready
pub record IsPart (a : Arena) (at v : ℕ) : Type 0 where
  pub before : v < at
  pub ready : IsReady a v
  pub count : length (meaning_at (meanings a) v).nodes + 1 ≤ length (meaning_at (meanings a) at).nodes

one_before : (a : Arena) (at v : ℕ) (n : Node) → IsHere a at n → needs n.term ≡ need term_s v ∷ [] → v < at
one_before a at v n h e = (subst (AreBelow (meanings a) at) e h.parts).0

one_count : (a : Arena) (at v : ℕ) (n : Node) → IsHere a at n → needs n.term ≡ need term_s v ∷ [] → length (meaning_at (meanings a) v).nodes + 1 ≤ length (meaning_at (meanings a) at).nodes
one_count a at v n h e =
    let own = (meaning_at (meanings a) v).nodes in
    let nodes : (meaning_at (meanings a) at).nodes ≡ (own ++ []) ++ at ∷ [] = h.nodes ∙ ap (λ l. nodes_in (meanings a) l ++ at ∷ []) e in
    omega (arith, ap length nodes, length-append (own ++ []) (at ∷ []), length-append own [])

pub two_count : (a : Arena) (at l r : ℕ) (s : Sort) (n : Node) → IsHere a at n → needs n.term ≡ need s l ∷ need term_s r ∷ [] → length (meaning_at (meanings a) l).nodes + length (meaning_at (meanings a) r).nodes + 1 ≤ length (meaning_at (meanings a) at).nodes
two_count a at l r s n h e =
    let first = (meaning_at (meanings a) l).nodes in
    let second = (meaning_at (meanings a) r).nodes in
    let nodes : (meaning_at (meanings a) at).nodes ≡ (first ++ (second ++ [])) ++ at ∷ [] = h.nodes ∙ ap (λ l. nodes_in (meanings a) l ++ at ∷ []) e in
    omega (arith, ap length nodes, length-append (first ++ (second ++ [])) (at ∷ []), length-append first (second ++ []), length-append second [])

pub box_part : (a : Arena) (at v : ℕ) (n : Node) → IsHere a at n → n.term ≡ Box v → IsReady a at → IsPart a at v
box_part a at v n h is ready = record {
  before = one_before a at v n h (ap needs is);
  ready = one_part a at v n h (ap needs is) ready;
  count = one_count a at v n h (ap needs is);
}

pub print_part : (a : Arena) (at v : ℕ) (n : Node) → IsHere a at n → n.term ≡ Print v → IsReady a at → IsPart a at v
print_part a at v n h is ready = record {
  before = one_before a at v n h (ap needs is);
  ready = one_part a at v n h (ap needs is) ready;
  count = one_count a at v n h (ap needs is);
}

pub join_part : (a : Arena) (at v : ℕ) (n : Node) → IsHere a at n → n.term ≡ Join v → IsReady a at → IsPart a at v
join_part a at v n h is ready = record {
  before = one_before a at v n h (ap needs is);
  ready = one_part a at v n h (ap needs is) ready;
  count = one_count a at v n h (ap needs is);
}

pub mutex_part : (a : Arena) (at v : ℕ) (n : Node) → IsHere a at n → n.term ≡ Mutex v → IsReady a at → IsPart a at v
mutex_part a at v n h is ready = record {
  before = one_before a at v n h (ap needs is);
  ready = one_part a at v n h (ap needs is) ready;
  count = one_count a at v n h (ap needs is);
}

pub let_part : (a : Arena) (at name v : ℕ) (n : Node) → IsHere a at n → n.term ≡ Let name v → IsReady a at → IsPart a at v
let_part a at name v n h is ready = record {
  before = one_before a at v n h (ap needs is);
  ready = one_part a at v n h (ap needs is) ready;
  count = one_count a at v n h (ap needs is);
}

pub assign_part : (a : Arena) (at to v : ℕ) (n : Node) → IsHere a at n → n.term ≡ Assign to v → IsReady a at → IsPart a at v
assign_part a at to v n h is ready = record {
  before = (subst (AreBelow (meanings a) at) (ap needs is) h.parts).2.0;
  ready = value_part a at to v n h (ap needs is) ready;
  count = omega (arith, two_count a at to v place_s n h (ap needs is));
}

-- both operands stand before their node and are ready
pub record ArePair (a : Arena) (at l r : ℕ) : Type 0 where
  pub left_before : l < at
  pub right_before : r < at
  pub left_ready : IsReady a l
  pub right_ready : IsReady a r
  pub count : length (meaning_at (meanings a) l).nodes + length (meaning_at (meanings a) r).nodes + 1 ≤ length (meaning_at (meanings a) at).nodes

arith_here : (a : Arena) (at l r : ℕ) (op : Op) (n : Node) → IsHere a at n → n.term ≡ Arith op l r → term_at (meanings a) at ≡ arith_t n.place op (term_at (meanings a) l) (term_at (meanings a) r)
arith_here a at l r op n h is = term_here a at n (arith_t n.place op (term_at (meanings a) l) (term_at (meanings a) r)) h (ap (stands_for a.names (meanings a) n.place) is)

pub arith_parts : (a : Arena) (at l r : ℕ) (op : Op) (n : Node) → IsHere a at n → n.term ≡ Arith op l r → IsReady a at → ArePair a at l r
arith_parts a at l r op n h is ready =
    let e : needs n.term ≡ need term_s l ∷ need term_s r ∷ [] = ap needs is in
    let below = subst (AreBelow (meanings a) at) e h.parts in
    record {
      left_before = below.0;
      right_before = below.2.0;
      left_ready = left_part a at l r n h e ready;
      right_ready = right_part a at l r n h e ready;
      count = two_count a at l r term_s n h e;
    }

-- names that stand before a node are names of the tree
pub names_there : (a : Arena) (at : ℕ) (ids : List ℕ) → at < length (meanings a) → AreBelow (meanings a) at (all_need capture_s ids) → AreNames a ids
names_there a at ids here below =
    let same = same_below (meanings a) (meanings a) at (all_need capture_s ids) (λ k lt. refl) below in
    record { parts = below_same (meanings a) (meanings a) at (length (meanings a)) (all_need capture_s ids) (omega arith) same below }

-- a new thread's names are of the tree, and its body stands before its node and is ready
pub record AreParts (a : Arena) (at : ℕ) (ids : List ℕ) (v : ℕ) : Type 0 where
  pub before : v < at
  pub names : AreNames a ids
  pub ready : IsReady a v
  pub count : length (nodes_in (meanings a) (all_need capture_s ids)) + length (meaning_at (meanings a) v).nodes + 1 ≤ length (meaning_at (meanings a) at).nodes

spawn_here : (a : Arena) (at : ℕ) (captures : WithRoom ℕ) (v : ℕ) (n : Node) → IsHere a at n → n.term ≡ Spawn captures v → term_at (meanings a) at ≡ spawn_t n.place (captures_at (meanings a) captures.items) (term_at (meanings a) v)
spawn_here a at captures v n h is = term_here a at n (spawn_t n.place (captures_at (meanings a) captures.items) (term_at (meanings a) v)) h (ap (stands_for a.names (meanings a) n.place) is)

-- the nodes of a new thread's term: those of its names, those of its body, and itself
pub spawn_nodes : (a : Arena) (at : ℕ) (captures : WithRoom ℕ) (v : ℕ) (n : Node) → IsHere a at n → n.term ≡ Spawn captures v → (meaning_at (meanings a) at).nodes ≡ (nodes_in (meanings a) (all_need capture_s captures.items) ++ (meaning_at (meanings a) v).nodes) ++ at ∷ []
spawn_nodes a at captures v n h is =
    let own = (meaning_at (meanings a) v).nodes in
    h.nodes ∙ ap (λ t. nodes_in (meanings a) (needs t) ++ at ∷ []) is
    ∙ ap (λ l. l ++ at ∷ []) (nodes_append (meanings a) (all_need capture_s captures.items) (need term_s v ∷ []) ∙ ap (λ l. nodes_in (meanings a) (all_need capture_s captures.items) ++ l) (append-nil own))

pub spawn_parts : (a : Arena) (at : ℕ) (captures : WithRoom ℕ) (v : ℕ) (n : Node) → IsHere a at n → n.term ≡ Spawn captures v → IsReady a at → AreParts a at captures.items v
spawn_parts a at captures v n h is ready =
    let first = nodes_in (meanings a) (all_need capture_s captures.items) in
    let own = (meaning_at (meanings a) v).nodes in
    let below = needs_append (meanings a) at (all_need capture_s captures.items) (need term_s v ∷ []) (subst (AreBelow (meanings a) at) (ap needs is) h.parts) in
    let nodes = spawn_nodes a at captures v n h is in
    record {
      before = below.1.0;
      names = names_there a at captures.items ready.here below.0;
      ready = record {
        here = omega (arith, below.1.0, ready.here);
        sort = below.1.1;
        own = different_back first own (different_front (first ++ own) (at ∷ []) (subst AreDifferent nodes ready.own));
      };
      count = omega (arith, ap length nodes, length-append (first ++ own) (at ∷ []), length-append first own);
    }

pub block_parts : (a : Arena) (at : ℕ) (items : WithRoom ℕ) (n : Node) → IsHere a at n → n.term ≡ Block items → IsReady a at → AreReady a at items.items
block_parts a at items n h is ready =
    items_part a at items.items n h (ap needs is) ready

pub block_count : (a : Arena) (at : ℕ) (items : WithRoom ℕ) (n : Node) → IsHere a at n → n.term ≡ Block items → length (nodes_in (meanings a) (all_need term_s items.items)) + 1 ≤ length (meaning_at (meanings a) at).nodes
block_count a at items n h is =
    let own = nodes_in (meanings a) (all_need term_s items.items) in
    let nodes : (meaning_at (meanings a) at).nodes ≡ own ++ at ∷ [] = h.nodes ∙ ap (λ l. nodes_in (meanings a) l ++ at ∷ []) (ap needs is) in
    omega (arith, ap length nodes, length-append own (at ∷ []))

-- ANSWERS

-- arithmetic is typed as its operands are
pub arith_gives : (a : Arena) (at l r : ℕ) (op : Op) (n : Node) (e e1 : Env) (result : Result Ty CheckError) → IsHere a at n → n.term ≡ Arith op l r → Gives result (typing (arith_t 0 op (term_at (meanings a) l) (term_at (meanings a) r)) e) e1 → Gives result (typing (term_at (meanings a) at) e) e1
arith_gives a at l r op n e e1 result h is gives = subst (λ t. Gives result (typing t e) e1) (sym (arith_here a at l r op n h is)) gives

-- a new thread's term is typed as its body is
pub spawn_gives : (a : Arena) (at : ℕ) (captures : WithRoom ℕ) (v : ℕ) (n : Node) (e e1 : Env) (result : Result Ty CheckError) → IsHere a at n → n.term ≡ Spawn captures v → Gives result (typing (spawn_t 0 (captures_at (meanings a) captures.items) (term_at (meanings a) v)) e) e1 → Gives result (typing (term_at (meanings a) at) e) e1
spawn_gives a at captures v n e e1 result h is gives = subst (λ t. Gives result (typing t e) e1) (sym (spawn_here a at captures v n h is)) gives

-- names are captured into an environment without slots
pub into_none : (by : Capturer) (names : List Text) (ns : List Held) (e e1 n : Env) (cs : List Captured) → ns ≡ [] → ((go : Env → Env → Outcome) → capture_all by cs e (env_of names ns) go ≡ go e1 n) → (go : Env → Env → Outcome) → capture_all by cs e [] go ≡ go e1 n
into_none by names ns e e1 n cs none goes = λ go. ap (λ (l : List Held). capture_all by cs e (env_of names l) go) (sym none) ∙ goes go

-- USAGES

pub join_used : (a : Arena) (at v : ℕ) (n : Node) (e : Env) (old new : List Usage) → IsHere a at n → n.term ≡ Join v → at < length old → AreWritten old new (meaning_at (meanings a) v).nodes (usages_of (term_at (meanings a) v) e) → AreWritten old new (meaning_at (meanings a) at).nodes (usages_of (term_at (meanings a) at) e)
join_used a at v n e old new h is lt part =
    subst (λ t. AreWritten old new (meaning_at (meanings a) at).nodes (usages_of t e)) (sym (term_here a at n (join_t n.place (term_at (meanings a) v)) h (ap (stands_for a.names (meanings a) n.place) is)))
    (one_written a at v n old new (usages_of (term_at (meanings a) v) e) h (ap needs is) lt part)

-- of a new thread's names and body
pub thread_used : (by : Capturer) (names : List Text) (ns : List Held) (e e1 n : Env) (cs : List Captured) (b : terms.Term) (old mid new : List Usage) (first second : List ℕ) → ns ≡ [] → ((go : Env → Env → Outcome) → capture_all by cs e (env_of names ns) go ≡ go e1 n) → AreWritten old mid first (capture_usages by e (env_of names ns) cs) → AreWritten mid new second (usages_of b n) → AreWritten old new (first ++ second) (capture_usages by e [] cs ++ usages_of b (env_of_all by e cs))
thread_used by names ns e e1 n cs b old mid new first second none goes captures body =
    let all : env_of_all by e cs ≡ n = ap env_after (into_none by names ns e e1 n cs none goes (λ e1 n1. typed (own unit) n1)) in
    subst (λ l. AreWritten old new (first ++ second) (capture_usages by e [] cs ++ usages_of b l)) (sym all)
    (written_both old mid new first second (capture_usages by e [] cs) (usages_of b n) (subst (λ (l : List Held). AreWritten old mid first (capture_usages by e (env_of names l) cs)) none captures) body)

pub spawn_used : (a : Arena) (at : ℕ) (captures : WithRoom ℕ) (v : ℕ) (n : Node) (e : Env) (old new : List Usage) → IsHere a at n → n.term ≡ Spawn captures v → at < length old → AreWritten old new (nodes_in (meanings a) (all_need capture_s captures.items) ++ (meaning_at (meanings a) v).nodes) (capture_usages by_spawn e [] (captures_at (meanings a) captures.items) ++ usages_of (term_at (meanings a) v) (env_of_all by_spawn e (captures_at (meanings a) captures.items))) → AreWritten old new (meaning_at (meanings a) at).nodes (usages_of (term_at (meanings a) at) e)
spawn_used a at captures v n e old new h is lt both =
    let cs = captures_at (meanings a) captures.items in
    let first = nodes_in (meanings a) (all_need capture_s captures.items) in
    let own = (meaning_at (meanings a) v).nodes in
    let ms = capture_usages by_spawn e [] cs ++ usages_of (term_at (meanings a) v) (env_of_all by_spawn e cs) in
    subst (λ t. AreWritten old new (meaning_at (meanings a) at).nodes (usages_of t e)) (sym (spawn_here a at captures v n h is))
    (subst (λ l. AreWritten old new l (ms ++ None ∷ [])) (sym (spawn_nodes a at captures v n h is))
    (written_node old new (first ++ own) ms at both lt))

pub mutex_used : (a : Arena) (at v : ℕ) (n : Node) (e : Env) (old new : List Usage) → IsHere a at n → n.term ≡ Mutex v → at < length old → AreWritten old new (meaning_at (meanings a) v).nodes (usages_of (term_at (meanings a) v) e) → AreWritten old new (meaning_at (meanings a) at).nodes (usages_of (term_at (meanings a) at) e)
mutex_used a at v n e old new h is lt part =
    subst (λ t. AreWritten old new (meaning_at (meanings a) at).nodes (usages_of t e)) (sym (term_here a at n (mutex_t n.place (term_at (meanings a) v)) h (ap (stands_for a.names (meanings a) n.place) is)))
    (one_written a at v n old new (usages_of (term_at (meanings a) v) e) h (ap needs is) lt part)

pub box_used : (a : Arena) (at v : ℕ) (n : Node) (e : Env) (old new : List Usage) → IsHere a at n → n.term ≡ Box v → at < length old → AreWritten old new (meaning_at (meanings a) v).nodes (usages_of (term_at (meanings a) v) e) → AreWritten old new (meaning_at (meanings a) at).nodes (usages_of (term_at (meanings a) at) e)
box_used a at v n e old new h is lt part =
    subst (λ t. AreWritten old new (meaning_at (meanings a) at).nodes (usages_of t e)) (sym (term_here a at n (box_t n.place (term_at (meanings a) v)) h (ap (stands_for a.names (meanings a) n.place) is)))
    (one_written a at v n old new (usages_of (term_at (meanings a) v) e) h (ap needs is) lt part)

pub print_used : (a : Arena) (at v : ℕ) (n : Node) (e : Env) (old new : List Usage) → IsHere a at n → n.term ≡ Print v → at < length old → AreWritten old new (meaning_at (meanings a) v).nodes (usages_of (term_at (meanings a) v) e) → AreWritten old new (meaning_at (meanings a) at).nodes (usages_of (term_at (meanings a) at) e)
print_used a at v n e old new h is lt part =
    subst (λ t. AreWritten old new (meaning_at (meanings a) at).nodes (usages_of t e)) (sym (term_here a at n (print_t n.place (term_at (meanings a) v)) h (ap (stands_for a.names (meanings a) n.place) is)))
    (one_written a at v n old new (usages_of (term_at (meanings a) v) e) h (ap needs is) lt part)

pub let_used : (a : Arena) (at name v : ℕ) (n : Node) (e : Env) (old new : List Usage) → IsHere a at n → n.term ≡ Let name v → at < length old → AreWritten old new (meaning_at (meanings a) v).nodes (usages_of (term_at (meanings a) v) e) → AreWritten old new (meaning_at (meanings a) at).nodes (usages_of (term_at (meanings a) at) e)
let_used a at name v n e old new h is lt part =
    subst (λ t. AreWritten old new (meaning_at (meanings a) at).nodes (usages_of t e)) (sym (term_here a at n (let_t n.place (text_of a.names name) (term_at (meanings a) v)) h (ap (stands_for a.names (meanings a) n.place) is)))
    (one_written a at v n old new (usages_of (term_at (meanings a) v) e) h (ap needs is) lt part)

pub block_used : (a : Arena) (at : ℕ) (items : WithRoom ℕ) (n : Node) (e : Env) (old new : List Usage) → IsHere a at n → n.term ≡ Block items → at < length old → AreWritten old new (nodes_in (meanings a) (all_need term_s items.items)) (usages_in (items_at (meanings a) items.items) e) → AreWritten old new (meaning_at (meanings a) at).nodes (usages_of (term_at (meanings a) at) e)
block_used a at items n e old new h is lt part =
    subst (λ t. AreWritten old new (meaning_at (meanings a) at).nodes (usages_of t e)) (sym (term_here a at n (block_t n.place (items_at (meanings a) items.items)) h (ap (stands_for a.names (meanings a) n.place) is)))
    (block_written a at items.items n old new (usages_in (items_at (meanings a) items.items) e) h (ap needs is) lt part)

pub operands_used : (a : Arena) (l r : ℕ) (k : Kind) (e e1 : Env) (old mid new : List Usage) → typing (term_at (meanings a) l) e ≡ typed k e1 → AreWritten old mid (meaning_at (meanings a) l).nodes (usages_of (term_at (meanings a) l) e) → AreWritten mid new (meaning_at (meanings a) r).nodes (usages_of (term_at (meanings a) r) e1) → AreWritten old new ((meaning_at (meanings a) l).nodes ++ (meaning_at (meanings a) r).nodes) (usages_of (term_at (meanings a) l) e ++ usages_of (term_at (meanings a) r) (env_after (typing (term_at (meanings a) l) e)))
operands_used a l r k e e1 old mid new types first second =
    subst (λ f. AreWritten old new ((meaning_at (meanings a) l).nodes ++ (meaning_at (meanings a) r).nodes) (usages_of (term_at (meanings a) l) e ++ usages_of (term_at (meanings a) r) f)) (sym (ap env_after types))
    (written_both old mid new (meaning_at (meanings a) l).nodes (meaning_at (meanings a) r).nodes (usages_of (term_at (meanings a) l) e) (usages_of (term_at (meanings a) r) e1) first second)

pub arith_used : (a : Arena) (at l r : ℕ) (op : Op) (n : Node) (e : Env) (old new : List Usage) → IsHere a at n → n.term ≡ Arith op l r → at < length old → AreWritten old new ((meaning_at (meanings a) l).nodes ++ (meaning_at (meanings a) r).nodes) (usages_of (term_at (meanings a) l) e ++ usages_of (term_at (meanings a) r) (env_after (typing (term_at (meanings a) l) e))) → AreWritten old new (meaning_at (meanings a) at).nodes (usages_of (term_at (meanings a) at) e)
arith_used a at l r op n e old new h is lt both =
    subst (λ t. AreWritten old new (meaning_at (meanings a) at).nodes (usages_of t e)) (sym (arith_here a at l r op n h is))
    (arith_written a at l r n old new (usages_of (term_at (meanings a) l) e ++ usages_of (term_at (meanings a) r) (env_after (typing (term_at (meanings a) l) e))) h (ap needs is) lt both)

pub assign_used_at : (a : Arena) (at to v : ℕ) (n : Node) (k : Kind) (e e1 : Env) (old mid new : List Usage) → IsHere a at n → n.term ≡ Assign to v → (meaning_at (meanings a) to).nodes ≡ to ∷ [] → IsReady a at → at < length old → typing (term_at (meanings a) v) e ≡ typed k e1 → AreWritten old mid (meaning_at (meanings a) v).nodes (usages_of (term_at (meanings a) v) e) → new ≡ write mid to (Some (usage_of e1 (place_at (meanings a) to) false)) → AreWritten old new (meaning_at (meanings a) at).nodes (usages_of (term_at (meanings a) at) e)
assign_used_at a at to v n k e e1 old mid new h is place ready lt types part wrote =
    let before : to < at = (subst (AreBelow (meanings a) at) (ap needs is) h.parts).0 in
    let u = usage_of e1 (place_at (meanings a) to) false in
    let same : u ≡ usage_of (env_after (typing (term_at (meanings a) v) e)) (place_at (meanings a) to) false = ap (λ l. usage_of l (place_at (meanings a) to) false) (sym (ap env_after types)) in
    subst (λ t. AreWritten old new (meaning_at (meanings a) at).nodes (usages_of t e)) (sym (term_here a at n (assign_t n.place (place_at (meanings a) to) (term_at (meanings a) v)) h (ap (stands_for a.names (meanings a) n.place) is)))
    (subst (λ w. AreWritten old new (meaning_at (meanings a) at).nodes (Some w ∷ usages_of (term_at (meanings a) v) e ++ None ∷ [])) same
    (assign_written a at to v n old mid new u (usages_of (term_at (meanings a) v) e) h (ap needs is) place ready lt (omega arith) part wrote))
