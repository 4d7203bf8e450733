-- Nodes of a tree and the typing of their terms: each row, from its parts.
use Rattle.std.proofs.Common.{◌≡◌, ℕ, zero, suc, ◌+◌, ◌<◌, ◌≤◌, List, [], ◌∷◌, ◌++◌, length, drop, Option, Some, None, refl, sym, ap, ◌∙◌, subst, arith, length-append}
use Rattle.std.specs.Prelude.{Result, Ok, Err, slice_get}
use Rattle.std.proofs.lemmas.List.{append-nil}
use Rattle.fr_terms.specs.Terms.{item, start_of}
use Rattle.fr_terms.specs.Terms as terms
use Rattle.fr_typing.specs.Kinds.{Kind, own, unit}
use Rattle.fr_typing.specs.Places.{Env, AreBelow as NamesBelow, kind_places}
use Rattle.fr_typing.specs.Finding.{Outcome, typed, then_typed, env_after}
use Rattle.fr_typing.specs.Typing.{typing, typing_items}
use Rattle.fr_syntax.specs.declared.tree.Node.{Node}
use Rattle.fr_syntax.specs.Arena.{Arena}
use Rattle.fr_syntax.specs.Meanings.{a_term, term_s, place_s, as_term, meaning_at, term_at, items_at, stands_for, need, all_need, needs, nodes_in, meanings, AreBelow, AreDifferent}
use Rattle.fr_types.specs.Bounds.{most_slots}
use Rattle.borrow_check.specs.declared.check_error.CheckError.{CheckError}
use Rattle.borrow_check.specs.declared.check_error.CheckError.TheVariants.{Fault, NoMemory}
use Rattle.fr_types.specs.declared.types.Ty.{Ty}
use Rattle.borrow_check.specs.declared.usage.Usage.{Usage}
use Rattle.fr_types.specs.Types.{kind_of}
use Rattle.fr_types.specs.States.{Held, env_of}
use Rattle.borrow_check.specs.Rules.{IsInScope, Gives, Follows, GivesItems}
use Rattle.borrow_check.specs.Nodes.{IsReady, AreReady}
use Rattle.borrow_check.specs.Usages.{usages_of, usages_in, write, AreWritten}
use Rattle.borrow_check.proofs.UsageLemmas.{written_none, written_both, written_node, written_first, written_long, different_front, different_back}

-- what a node's answer says of it
pub record IsHere (a : Arena) (at : ℕ) (n : Node) : Type 0 where
  pub what : (meaning_at (meanings a) at).what ≡ stands_for a.names (meanings a) n.place n.term
  pub nodes : (meaning_at (meanings a) at).nodes ≡ nodes_in (meanings a) (needs n.term) ++ at ∷ []
  pub parts : AreBelow (meanings a) at (needs n.term)

-- PARTS

-- the term of a node
pub term_here : (a : Arena) (at : ℕ) (n : Node) (t : terms.Term) → IsHere a at n → stands_for a.names (meanings a) n.place n.term ≡ a_term t → term_at (meanings a) at ≡ t
term_here a at n t h e = ap as_term (h.what ∙ e)

-- a term that is the one term part of a node
pub one_part : (a : Arena) (at v : ℕ) (n : Node) → IsHere a at n → needs n.term ≡ need term_s v ∷ [] → IsReady a at → IsReady a v
one_part a at v n h e ready =
    let below = subst (AreBelow (meanings a) at) e h.parts in
    let nodes : (meaning_at (meanings a) at).nodes ≡ ((meaning_at (meanings a) v).nodes ++ []) ++ at ∷ [] = h.nodes ∙ ap (λ l. nodes_in (meanings a) l ++ at ∷ []) e in
    record {
      here = omega (arith, below.0, ready.here);
      sort = below.1;
      own = different_front (meaning_at (meanings a) v).nodes [] (different_front ((meaning_at (meanings a) v).nodes ++ []) (at ∷ []) (subst AreDifferent nodes ready.own));
    }

-- the value of an assignment
pub value_part : (a : Arena) (at to v : ℕ) (n : Node) → IsHere a at n → needs n.term ≡ need place_s to ∷ need term_s v ∷ [] → IsReady a at → IsReady a v
value_part a at to v n h e ready =
    let below = subst (AreBelow (meanings a) at) e h.parts in
    let first = (meaning_at (meanings a) to).nodes in
    let second = (meaning_at (meanings a) v).nodes in
    let nodes : (meaning_at (meanings a) at).nodes ≡ (first ++ (second ++ [])) ++ at ∷ [] = h.nodes ∙ ap (λ l. nodes_in (meanings a) l ++ at ∷ []) e in
    record {
      here = omega (arith, below.2.0, ready.here);
      sort = below.2.1;
      own = different_front second [] (different_back first (second ++ []) (different_front (first ++ (second ++ [])) (at ∷ []) (subst AreDifferent nodes ready.own)));
    }

-- the two operands
pub left_part : (a : Arena) (at l r : ℕ) (n : Node) → IsHere a at n → needs n.term ≡ need term_s l ∷ need term_s r ∷ [] → IsReady a at → IsReady a l
left_part a at l r n h e ready =
    let below = subst (AreBelow (meanings a) at) e h.parts in
    let first = (meaning_at (meanings a) l).nodes in
    let second = (meaning_at (meanings a) r).nodes in
    let nodes : (meaning_at (meanings a) at).nodes ≡ (first ++ (second ++ [])) ++ at ∷ [] = h.nodes ∙ ap (λ l. nodes_in (meanings a) l ++ at ∷ []) e in
    record {
      here = omega (arith, below.0, ready.here);
      sort = below.1;
      own = different_front first (second ++ []) (different_front (first ++ (second ++ [])) (at ∷ []) (subst AreDifferent nodes ready.own));
    }

pub right_part : (a : Arena) (at l r : ℕ) (n : Node) → IsHere a at n → needs n.term ≡ need term_s l ∷ need term_s r ∷ [] → IsReady a at → IsReady a r
right_part a at l r n h e ready =
    let below = subst (AreBelow (meanings a) at) e h.parts in
    let first = (meaning_at (meanings a) l).nodes in
    let second = (meaning_at (meanings a) r).nodes in
    let nodes : (meaning_at (meanings a) at).nodes ≡ (first ++ (second ++ [])) ++ at ∷ [] = h.nodes ∙ ap (λ l. nodes_in (meanings a) l ++ at ∷ []) e in
    record {
      here = omega (arith, below.2.0, ready.here);
      sort = below.2.1;
      own = different_front second [] (different_back first (second ++ []) (different_front (first ++ (second ++ [])) (at ∷ []) (subst AreDifferent nodes ready.own)));
    }

-- the items of a block
pub items_part : (a : Arena) (at : ℕ) (ids : List ℕ) (n : Node) → IsHere a at n → needs n.term ≡ all_need term_s ids → IsReady a at → AreReady a at ids
items_part a at ids n h e ready = record {
  inside = omega (arith, ready.here);
  parts = subst (AreBelow (meanings a) at) e h.parts;
  own = different_front (nodes_in (meanings a) (all_need term_s ids)) (at ∷ []) (subst AreDifferent (h.nodes ∙ ap (λ l. nodes_in (meanings a) l ++ at ∷ []) e) ready.own);
}

-- the first of items, and the others
pub first_ready : (a : Arena) (bound id : ℕ) (rest : List ℕ) → AreReady a bound (id ∷ rest) → IsReady a id
first_ready a bound id rest h = record {
  here = omega (arith, h.parts.0, h.inside);
  sort = h.parts.1;
  own = different_front (meaning_at (meanings a) id).nodes (nodes_in (meanings a) (all_need term_s rest)) h.own;
}

pub rest_ready : (a : Arena) (bound id : ℕ) (rest : List ℕ) → AreReady a bound (id ∷ rest) → AreReady a bound rest
rest_ready a bound id rest h = record {
  inside = h.inside;
  parts = h.parts.2;
  own = different_back (meaning_at (meanings a) id).nodes (nodes_in (meanings a) (all_need term_s rest)) h.own;
}

-- ANSWERS

-- what a term comes to whose part is typed first
pub then_gives : (t : terms.Term) (o : Outcome) (rule : Kind → Env → Outcome) (result : Result Ty CheckError) (k : Kind) (e e1 e2 : Env) → typing t e ≡ then_typed o rule → o ≡ typed k e1 → Gives result (rule k e1) e2 → Gives result (typing t e) e2
then_gives t o rule result k e e1 e2 row part gives =
    subst (λ (x : Outcome). Gives result x e2) (sym (row ∙ ap (λ x. then_typed x rule) part)) gives

-- the same with a rule that changes no environment
pub follows_gives : (result : Result Ty CheckError) (rule : Env → Outcome) (e : Env) → Follows result rule → Gives result (rule e) e
follows_gives (Ok t) rule e h = h e
follows_gives (Err (Fault p r)) rule e h = h e
follows_gives (Err NoMemory) rule e h = tt

-- a fault of the part is one of the term
pub then_fails : (t : terms.Term) (o : Outcome) (rule : Kind → Env → Outcome) (error : CheckError) (e e1 e2 : Env) → typing t e ≡ then_typed o rule → Gives (Err error) o e1 → Gives (Err error) (typing t e) e2
then_fails t o rule (Fault p r) e e1 e2 row part = row ∙ ap (λ x. then_typed x rule) part
then_fails t o rule NoMemory e e1 e2 row part = tt

-- USAGES

-- of a term with one part
pub one_written : (a : Arena) (at v : ℕ) (n : Node) (old new : List Usage) (ms : List (Option Usage)) → IsHere a at n → needs n.term ≡ need term_s v ∷ [] → at < length old → AreWritten old new (meaning_at (meanings a) v).nodes ms → AreWritten old new (meaning_at (meanings a) at).nodes (ms ++ None ∷ [])
one_written a at v n old new ms h e lt part =
    let nodes : ((meaning_at (meanings a) v).nodes ++ []) ++ at ∷ [] ≡ (meaning_at (meanings a) at).nodes = sym (h.nodes ∙ ap (λ l. nodes_in (meanings a) l ++ at ∷ []) e) in
    subst (λ l. AreWritten old new l (ms ++ None ∷ [])) nodes
    (written_node old new ((meaning_at (meanings a) v).nodes ++ []) ms at
    (subst (λ l. AreWritten old new l ms) (sym (append-nil (meaning_at (meanings a) v).nodes)) part) lt)

-- of a term without parts
pub leaf_written : (a : Arena) (at : ℕ) (n : Node) (old : List Usage) → IsHere a at n → needs n.term ≡ [] → at < length old → AreWritten old old (meaning_at (meanings a) at).nodes (None ∷ [])
leaf_written a at n old h e lt =
    subst (λ l. AreWritten old old l (None ∷ [])) (sym (h.nodes ∙ ap (λ l. nodes_in (meanings a) l ++ at ∷ []) e))
    (written_node old old [] [] at (written_none old) lt)

-- of a block
pub block_written : (a : Arena) (at : ℕ) (ids : List ℕ) (n : Node) (old new : List Usage) (ms : List (Option Usage)) → IsHere a at n → needs n.term ≡ all_need term_s ids → at < length old → AreWritten old new (nodes_in (meanings a) (all_need term_s ids)) ms → AreWritten old new (meaning_at (meanings a) at).nodes (ms ++ None ∷ [])
block_written a at ids n old new ms h e lt part =
    subst (λ l. AreWritten old new l (ms ++ None ∷ [])) (sym (h.nodes ∙ ap (λ l. nodes_in (meanings a) l ++ at ∷ []) e))
    (written_node old new (nodes_in (meanings a) (all_need term_s ids)) ms at part lt)

-- of a read
pub read_written : (a : Arena) (at from : ℕ) (n : Node) (old new : List Usage) (u : Usage) → IsHere a at n → needs n.term ≡ need place_s from ∷ [] → (meaning_at (meanings a) from).nodes ≡ from ∷ [] → at < length old → from < length old → new ≡ write (write old from (Some u)) at (Some u) → AreWritten old new (meaning_at (meanings a) at).nodes (Some u ∷ Some u ∷ [])
read_written a at from n old new u h e place lt there is =
    subst (λ l. AreWritten old new l (Some u ∷ Some u ∷ [])) (sym (h.nodes ∙ ap (λ l. nodes_in (meanings a) l ++ at ∷ []) e ∙ ap (λ l. (l ++ []) ++ at ∷ []) place))
    (record { same = is; each = refl; within = (there, (lt, tt)) })

-- of a borrow
pub borrow_written : (a : Arena) (at of : ℕ) (n : Node) (old new : List Usage) (u : Usage) → IsHere a at n → needs n.term ≡ need place_s of ∷ [] → (meaning_at (meanings a) of).nodes ≡ of ∷ [] → at < length old → of < length old → new ≡ write old of (Some u) → AreWritten old new (meaning_at (meanings a) at).nodes (Some u ∷ None ∷ [])
borrow_written a at of n old new u h e place lt there is =
    subst (λ l. AreWritten old new l (Some u ∷ None ∷ [])) (sym (h.nodes ∙ ap (λ l. nodes_in (meanings a) l ++ at ∷ []) e ∙ ap (λ l. (l ++ []) ++ at ∷ []) place))
    (record { same = is; each = refl; within = (there, (lt, tt)) })

-- of arithmetic
pub arith_written : (a : Arena) (at l r : ℕ) (n : Node) (old new : List Usage) (ms : List (Option Usage)) → IsHere a at n → needs n.term ≡ need term_s l ∷ need term_s r ∷ [] → at < length old → AreWritten old new ((meaning_at (meanings a) l).nodes ++ (meaning_at (meanings a) r).nodes) ms → AreWritten old new (meaning_at (meanings a) at).nodes (ms ++ None ∷ [])
arith_written a at l r n old new ms h e lt parts =
    let first = (meaning_at (meanings a) l).nodes in
    let second = (meaning_at (meanings a) r).nodes in
    subst (λ l. AreWritten old new l (ms ++ None ∷ [])) (sym (h.nodes ∙ ap (λ l. nodes_in (meanings a) l ++ at ∷ []) e ∙ ap (λ l. (first ++ l) ++ at ∷ []) (append-nil second)))
    (written_node old new (first ++ second) ms at parts lt)

-- of an assignment
pub assign_written : (a : Arena) (at to v : ℕ) (n : Node) (old mid new : List Usage) (u : Usage) (ms : List (Option Usage)) → IsHere a at n → needs n.term ≡ need place_s to ∷ need term_s v ∷ [] → (meaning_at (meanings a) to).nodes ≡ to ∷ [] → IsReady a at → at < length old → to < length old → AreWritten old mid (meaning_at (meanings a) v).nodes ms → new ≡ write mid to (Some u) → AreWritten old new (meaning_at (meanings a) at).nodes (Some u ∷ ms ++ None ∷ [])
assign_written a at to v n old mid new u ms h e place ready lt there part is =
    let second = (meaning_at (meanings a) v).nodes in
    let nodes : (meaning_at (meanings a) at).nodes ≡ to ∷ (second ++ []) ++ at ∷ [] = h.nodes ∙ ap (λ l. nodes_in (meanings a) l ++ at ∷ []) e ∙ ap (λ l. (l ++ (second ++ [])) ++ at ∷ []) place in
    let own : AreDifferent (to ∷ (second ++ []) ++ at ∷ []) = subst AreDifferent nodes ready.own in
    subst (λ l. AreWritten old new l (Some u ∷ ms ++ None ∷ [])) (sym nodes)
    (written_first old mid new to u ((second ++ []) ++ at ∷ []) (ms ++ None ∷ [])
    (written_node old mid (second ++ []) ms at (subst (λ l. AreWritten old mid l ms) (sym (append-nil second)) part) lt)
    is own.0 there)

-- ITEMS

-- so many items are done: what is left goes on from here
pub record IsAlong (a : Arena) (bound place : ℕ) (ids rest : List ℕ) (vs0 vs : List Held) (us0 us : List Usage) (k : Kind) (last : ℕ) : Type 0 where
  pub ready : AreReady a bound rest
  pub goes : (go : Kind → ℕ → Env → Outcome) → typing_items (items_at (meanings a) ids) (own unit) place (env_of a.names vs0) go ≡ typing_items (items_at (meanings a) rest) k last (env_of a.names vs) go
  pub marks : (final : List Usage) → AreWritten us final (nodes_in (meanings a) (all_need term_s rest)) (usages_in (items_at (meanings a) rest) (env_of a.names vs)) → AreWritten us0 final (nodes_in (meanings a) (all_need term_s ids)) (usages_in (items_at (meanings a) ids) (env_of a.names vs0))
  pub below : NamesBelow (length vs) (kind_places k)
  pub scope : IsInScope a.names vs
  pub grows : length vs0 ≤ length vs
  pub few : length vs + length (nodes_in (meanings a) (all_need term_s rest)) ≤ length vs0 + length (nodes_in (meanings a) (all_need term_s ids))
  pub long : length us ≡ length (meanings a)

pub along_start : (a : Arena) (bound place : ℕ) (ids : List ℕ) (vs : List Held) (us : List Usage) → AreReady a bound ids → IsInScope a.names vs → length us ≡ length (meanings a) → IsAlong a bound place ids ids vs vs us us (own unit) place
along_start a bound place ids vs us ready scope long = record {
  ready = ready;
  goes = λ go. refl;
  marks = λ final h. h;
  below = tt;
  scope = scope;
  grows = omega arith;
  few = omega arith;
  long = long;
}

-- one item more
pub along_step : (a : Arena) (bound place id : ℕ) (ids rest : List ℕ) (vs0 vs new : List Held) (us0 us next : List Usage) (k l : Kind) (last start : ℕ) → IsAlong a bound place ids (id ∷ rest) vs0 vs us0 us k last → typing (term_at (meanings a) id) (env_of a.names vs) ≡ typed l (env_of a.names new) → NamesBelow (length new) (kind_places l) → IsInScope a.names new → length vs ≤ length new → length new ≤ length vs + length (meaning_at (meanings a) id).nodes → AreWritten us next (meaning_at (meanings a) id).nodes (usages_of (term_at (meanings a) id) (env_of a.names vs)) → start ≡ start_of (term_at (meanings a) id) → IsAlong a bound place ids rest vs0 new us0 next l start
along_step a bound place id ids rest vs0 vs new us0 us next k l last start h types below scope grows few marks at = record {
  ready = rest_ready a bound id rest h.ready;
  goes = λ go.
      h.goes go
      ∙ ap (λ o. then_typed o (λ k1 e1. typing_items (items_at (meanings a) rest) k1 (start_of (term_at (meanings a) id)) e1 go)) types
      ∙ ap (λ n. typing_items (items_at (meanings a) rest) l n (env_of a.names new) go) (sym at);
  marks = λ final more. h.marks final
      (subst (λ e. AreWritten us final (nodes_in (meanings a) (all_need term_s (id ∷ rest))) (usages_of (term_at (meanings a) id) (env_of a.names vs) ++ usages_in (items_at (meanings a) rest) e)) (sym (ap env_after types))
      (written_both us next final (meaning_at (meanings a) id).nodes (nodes_in (meanings a) (all_need term_s rest)) (usages_of (term_at (meanings a) id) (env_of a.names vs)) (usages_in (items_at (meanings a) rest) (env_of a.names new)) marks more));
  below = below;
  scope = scope;
  grows = omega (arith, h.grows, grows);
  few =
      let more : length vs + length ((meaning_at (meanings a) id).nodes ++ nodes_in (meanings a) (all_need term_s rest)) ≤ length vs0 + length (nodes_in (meanings a) (all_need term_s ids)) = h.few in
      omega (arith, more, few, length-append (meaning_at (meanings a) id).nodes (nodes_in (meanings a) (all_need term_s rest)));
  long = written_long us next (meaning_at (meanings a) id).nodes (usages_of (term_at (meanings a) id) (env_of a.names vs)) marks ∙ h.long;
}

-- so few slots are there before an item
pub along_few : (a : Arena) (bound place id : ℕ) (ids rest : List ℕ) (vs0 vs : List Held) (us0 us : List Usage) (k : Kind) (last : ℕ) → IsAlong a bound place ids (id ∷ rest) vs0 vs us0 us k last → length vs0 + length (nodes_in (meanings a) (all_need term_s ids)) ≤ most_slots → length vs + length (meaning_at (meanings a) id).nodes ≤ most_slots
along_few a bound place id ids rest vs0 vs us0 us k last h few =
    let more : length vs + length ((meaning_at (meanings a) id).nodes ++ nodes_in (meanings a) (all_need term_s rest)) ≤ length vs0 + length (nodes_in (meanings a) (all_need term_s ids)) = h.few in
    omega (arith, more, few, length-append (meaning_at (meanings a) id).nodes (nodes_in (meanings a) (all_need term_s rest)))

-- all items are done
pub along_gives : (a : Arena) (bound place : ℕ) (ids rest : List ℕ) (vs0 vs : List Held) (us0 us : List Usage) (t : Ty) (last : ℕ) → IsAlong a bound place ids rest vs0 vs us0 us (kind_of t) last → rest ≡ [] → GivesItems (Ok (t, last)) (items_at (meanings a) ids) place (env_of a.names vs0) (env_of a.names vs)
along_gives a bound place ids rest vs0 vs us0 us t last h e =
    λ go. h.goes go ∙ ap (λ l. typing_items (items_at (meanings a) l) (kind_of t) last (env_of a.names vs) go) e

pub along_written : (a : Arena) (bound place : ℕ) (ids rest : List ℕ) (vs0 vs : List Held) (us0 us : List Usage) (k : Kind) (last : ℕ) → IsAlong a bound place ids rest vs0 vs us0 us k last → rest ≡ [] → AreWritten us0 us (nodes_in (meanings a) (all_need term_s ids)) (usages_in (items_at (meanings a) ids) (env_of a.names vs0))
along_written a bound place ids rest vs0 vs us0 us k last h e =
    h.marks us (subst (λ l. AreWritten us us (nodes_in (meanings a) (all_need term_s l)) (usages_in (items_at (meanings a) l) (env_of a.names vs))) (sym e) (written_none us))

-- an item has a fault
pub along_fails : (a : Arena) (bound place id : ℕ) (ids rest : List ℕ) (vs0 vs : List Held) (us0 us : List Usage) (k : Kind) (last : ℕ) (error : CheckError) (e1 e2 : Env) → IsAlong a bound place ids (id ∷ rest) vs0 vs us0 us k last → Gives (Err error) (typing (term_at (meanings a) id) (env_of a.names vs)) e1 → GivesItems (Err error) (items_at (meanings a) ids) place (env_of a.names vs0) e2
along_fails a bound place id ids rest vs0 vs us0 us k last NoMemory e1 e2 h fails = tt
along_fails a bound place id ids rest vs0 vs us0 us k last (Fault p r) e1 e2 h fails =
    λ go. h.goes go ∙ ap (λ o. then_typed o (λ k1 e1. typing_items (items_at (meanings a) rest) k1 (start_of (term_at (meanings a) id)) e1 go)) fails

-- the next item is the first of those left
pub next_first : (ids : List ℕ) (i id : ℕ) → slice_get ids i ≡ Some id → drop i ids ≡ id ∷ drop (i + 1) ids
next_first [] i id h = cc
next_first (x ∷ ids) zero id h = let same : x ≡ id = cc in ap (λ n. n ∷ ids) same
next_first (x ∷ ids) (suc i) id h = let same : suc (i + 1) ≡ suc i + 1 = omega arith in next_first ids i id h ∙ ap (λ n. id ∷ drop n (x ∷ ids)) same
