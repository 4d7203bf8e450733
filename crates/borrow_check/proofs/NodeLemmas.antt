-- The nodes that a node is made of: where they stand, and how many there are.
use Rattle.std.proofs.Common.{◌≡◌, ℕ, zero, suc, ◌+◌, ◌<◌, ◌≤◌, List, [], ◌∷◌, length, get_or, refl, sym, ap, ◌∙◌, subst, arith}
use Rattle.std.specs.Prelude.{◌==◌, ◌||◌, if◌then◌else◌}
use Rattle.std.specs.List.{list_any}
use Rattle.std.proofs.lemmas.Bool.{or_parts}
use Rattle.fr_syntax.specs.declared.tree.Term.TheVariants.{Unit}
use Rattle.fr_syntax.specs.declared.tree.Node.{Node}
use Rattle.fr_syntax.specs.Arena.{Arena}
use Rattle.fr_syntax.specs.Ordered.{IsArena}
use Rattle.fr_syntax.specs.Meanings.{Meaning, meaning_at, Need, needs, nodes_in, meanings, AreBelow, AllBelow, AreDifferent}
use Rattle.fr_syntax.proofs.TreeLemmas.{node_here, length_meanings}
use Rattle.fr_typing.proofs.PlaceLemmas.{eq_cases}
use Rattle.fr_types.specs.Bounds.{most_slots}
use Rattle.borrow_check.proofs.UsageLemmas.{below-append, IsOut}
use Rattle.borrow_check.proofs.TermLemmas.{IsHere}

get_any : (ns : List Node) (i : ℕ) (d e : Node) → i < length ns → get_or ns i d ≡ get_or ns i e
get_any [] i d e lt = absurd (omega arith)
get_any (n ∷ ns) zero d e lt = refl
get_any (n ∷ ns) (suc i) d e lt = get_any ns i d e (omega arith)

-- the node under a number that is there
pub here : (a : Arena) (at : ℕ) → IsArena a → at < length (meanings a) → (n : Node) × IsHere a at n
here a at h lt =
    let d : Node = record { term = Unit; place = 0 } in
    let n = get_or a.nodes at d in
    let inside : at < length a.nodes = omega (arith, lt, length_meanings a) in
    let is = node_here a at n h inside (get_any a.nodes at d n inside) in
    (n, record { what = is.what; nodes = is.nodes; parts = is.parts })

-- WHERE THEY STAND

below-weaker : (m n : ℕ) (ks : List ℕ) → m ≤ n → AllBelow m ks → AllBelow n ks
below-weaker m n [] le h = tt
below-weaker m n (k ∷ ks) le h = let lt : k < m = h.0 in (omega arith, below-weaker m n ks le h.1)

below_all : (ms : List Meaning) (b : ℕ) (xs : List Need) → ((k : ℕ) → k < b → AllBelow b (meaning_at ms k).nodes) → AreBelow ms b xs → AllBelow b (nodes_in ms xs)
below_all ms b [] look h = tt
below_all ms b (x ∷ xs) look h = below-append b (meaning_at ms x.node).nodes (nodes_in ms xs) (look x.node h.0) (below_all ms b xs look h.2)

-- a node and all that it is made of stand up to its number
pub nodes_below : (a : Arena) → IsArena a → (bound at : ℕ) → at < bound → at < length (meanings a) → AllBelow (at + 1) (meaning_at (meanings a) at).nodes
nodes_below a h zero at lt inside = absurd (omega arith)
nodes_below a h (suc bound) at lt inside =
    let n = here a at h inside in
    let parts = below_all (meanings a) at (needs n.0.term) (λ k kt. below-weaker (k + 1) at (meaning_at (meanings a) k).nodes (omega (arith, kt)) (nodes_below a h bound k (omega (arith, kt)) (omega (arith, kt)))) n.1.parts in
    subst (AllBelow (at + 1)) (sym n.1.nodes)
    (below-append (at + 1) (nodes_in (meanings a) (needs n.0.term)) (at ∷ []) (below-weaker at (at + 1) (nodes_in (meanings a) (needs n.0.term)) (omega arith) parts) (omega arith, tt))

-- HOW MANY

abbrev without : ℕ → List ℕ → List ℕ
without k [] = []
without k (j ∷ js) = if j == k then without k js else j ∷ without k js

without_out : (k : ℕ) (js : List ℕ) → IsOut k js → without k js ≡ js
without_out k [] out = refl
without_out k (j ∷ js) out =
    let p = or_parts (j == k) (list_any (λ i. i == k) js) out in
    ap (λ b. if b then without k js else j ∷ without k js) p.0 ∙ ap (λ l. j ∷ l) (without_out k js p.1)

shrink : (k : ℕ) (js : List ℕ) → AreDifferent js → length js ≤ length (without k js) + 1
shrink k [] d = omega arith
shrink k (j ∷ js) d =
    eq_cases (λ b. length (j ∷ js) ≤ length (if b then without k js else j ∷ without k js) + 1) j k
    (λ same. let e = ap length (without_out k js (subst (λ i. IsOut i js) same d.0)) in omega (arith, e))
    (λ ne. let r = shrink k js d.1 in omega (arith, r))

out_without : (i k : ℕ) (js : List ℕ) → IsOut i js → IsOut i (without k js)
out_without i k [] out = refl
out_without i k (j ∷ js) out =
    let p = or_parts (j == i) (list_any (λ x. x == i) js) out in
    eq_cases (λ b. IsOut i (if b then without k js else j ∷ without k js)) j k
    (λ same. out_without i k js p.1)
    (λ ne. ap (λ b. b || list_any (λ x. x == i) (without k js)) p.0 ∙ out_without i k js p.1)

different_without : (k : ℕ) (js : List ℕ) → AreDifferent js → AreDifferent (without k js)
different_without k [] d = tt
different_without k (j ∷ js) d =
    eq_cases (λ b. AreDifferent (if b then without k js else j ∷ without k js)) j k
    (λ same. different_without k js d.1)
    (λ ne. (out_without j k js d.0, different_without k js d.1))

below_without : (n : ℕ) (js : List ℕ) → AllBelow (suc n) js → AllBelow n (without n js)
below_without n [] h = tt
below_without n (j ∷ js) h =
    let lt : j < suc n = h.0 in
    eq_cases (λ b. AllBelow n (if b then without n js else j ∷ without n js)) j n
    (λ same. below_without n js h.1)
    (λ ne. (omega (arith, lt, ne), below_without n js h.1))

-- so many different numbers are below n
pub at_most : (n : ℕ) (js : List ℕ) → AreDifferent js → AllBelow n js → length js ≤ n
at_most n [] d b = omega arith
at_most zero (j ∷ js) d b = let lt : j < zero = b.0 in absurd (omega arith)
at_most (suc n) (j ∷ js) d b =
    let r = at_most n (without n (j ∷ js)) (different_without n (j ∷ js) d) (below_without n (j ∷ js) b) in
    let s = shrink n (j ∷ js) d in
    omega (arith, r, s)

-- the slots that a term leaves have so many nodes
pub nodes_few : (a : Arena) (at : ℕ) → IsArena a → at < length (meanings a) → AreDifferent (meaning_at (meanings a) at).nodes → length (meaning_at (meanings a) at).nodes ≤ most_slots
nodes_few a at h lt own =
    let few : length a.nodes ≤ most_slots = h.few in
    let count = at_most (at + 1) (meaning_at (meanings a) at).nodes own (nodes_below a h (at + 1) at (omega arith) lt) in
    omega (arith, count, lt, length_meanings a)
