-- The two blocks of a `par`: their parts, their typing and their usages.
use Rattle.std.proofs.Common.{◌≡◌, ℕ, ◌+◌, ◌<◌, ◌≤◌, List, [], ◌∷◌, ◌++◌, length, set, Option, Some, None, refl, sym, ap, ap₂, ◌∙◌, subst, arith, append_assoc, length-append}
use Rattle.std.specs.Prelude.{◌==◌, Result, Ok, Err, Box as Boxed}
use Rattle.std.specs.declared.alloc.Global.{Global}
use Rattle.std.specs.List.{list_any}
use Rattle.std.proofs.lemmas.Bool.{or_parts}
use Rattle.std.proofs.lemmas.List.{append-nil}
use Rattle.std.proofs.lemmas.List.Folds.{list_any-append}
use Rattle.fr_terms.specs.Terms as terms
use Rattle.fr_terms.specs.Terms.{Text, Captured, par_t, start_of}
use Rattle.fr_typing.specs.Kinds.{Kind, own, unit}
use Rattle.fr_typing.specs.Places.{Env}
use Rattle.fr_typing.specs.Finding.{Outcome, typed, then_typed, env_after}
use Rattle.fr_typing.specs.Rules.{par_rule}
use Rattle.fr_typing.specs.Captures.{Capturer, by_par, capture_all, capture_both, env_left_by_all, env_of_all}
use Rattle.fr_typing.specs.Typing.{typing}
use Rattle.fr_base.specs.Rooms.{WithRoom}
use Rattle.fr_syntax.specs.declared.tree.Term.{Term}
use Rattle.fr_syntax.specs.declared.tree.Term.TheVariants.{Par}
use Rattle.fr_syntax.specs.declared.tree.Node.{Node}
use Rattle.fr_syntax.specs.Arena.{Arena}
use Rattle.fr_syntax.specs.Meanings.{meaning_at, term_at, captures_at, stands_for, term_s, capture_s, need, all_need, needs, nodes_in, meanings, AreBelow, AllBelow, AreDifferent}
use Rattle.fr_types.specs.declared.types.Ty.{Ty}
use Rattle.fr_types.specs.Types.{kind_of}
use Rattle.fr_types.specs.States.{Held, env_of}
use Rattle.borrow_check.specs.declared.check_error.CheckError.{CheckError}
use Rattle.borrow_check.specs.declared.check_error.CheckError.TheVariants.{Fault, NoMemory}
use Rattle.borrow_check.specs.declared.usage.Usage.{Usage}
use Rattle.borrow_check.specs.Rules.{Gives, GivesType}
use Rattle.borrow_check.specs.Nodes.{IsReady}
use Rattle.borrow_check.specs.Capturing.{AreNames, GoesOn, GoesOnBoth}
use Rattle.borrow_check.specs.Usages.{capture_usages, usages_of, written, AreWritten, AreBothWritten}
use Rattle.borrow_check.proofs.UsageLemmas.{written_both, written_node, written_long, length-written, written-set, different_front, different_back, IsOut}
use Rattle.borrow_check.proofs.TermLemmas.{IsHere, term_here}
use Rattle.borrow_check.proofs.CheckLemmas.{nodes_append, needs_append, names_there, into_none}

-- NODES

-- these nodes behind a pointer
abbrev pub behind : Boxed (WithRoom ℕ) Global → WithRoom ℕ → Boxed (WithRoom ℕ) Global
behind b xs = record b { value = xs }

-- a node with two branches has the names that are seen behind its pointers
pub par_seen : (t : Term) (cs ds : Boxed (WithRoom ℕ) Global) (v w : ℕ) (xs ys : WithRoom ℕ) → t ≡ Par cs v ds w → xs ≡ cs.value → ys ≡ ds.value → t ≡ Par (behind cs xs) v (behind ds ys) w
par_seen t cs ds v w xs ys is e f = is ∙ ap₂ (λ (x : WithRoom ℕ) (y : WithRoom ℕ). Par (behind cs x) v (behind ds y) w) (sym e) (sym f)

pub par_here : (a : Arena) (at : ℕ) (cs : Boxed (WithRoom ℕ) Global) (v : ℕ) (ds : Boxed (WithRoom ℕ) Global) (w : ℕ) (n : Node) → IsHere a at n → n.term ≡ Par cs v ds w → term_at (meanings a) at ≡ par_t n.place (captures_at (meanings a) cs.value.items) (term_at (meanings a) v) (captures_at (meanings a) ds.value.items) (term_at (meanings a) w)
par_here a at cs v ds w n h is = term_here a at n (par_t n.place (captures_at (meanings a) cs.value.items) (term_at (meanings a) v) (captures_at (meanings a) ds.value.items) (term_at (meanings a) w)) h (ap (stands_for a.names (meanings a) n.place) is)

-- the nodes of the two lists of names and of the two blocks, and itself
par_nodes : (a : Arena) (at : ℕ) (cs : Boxed (WithRoom ℕ) Global) (v : ℕ) (ds : Boxed (WithRoom ℕ) Global) (w : ℕ) (n : Node) → IsHere a at n → n.term ≡ Par cs v ds w →
    (meaning_at (meanings a) at).nodes ≡ (nodes_in (meanings a) (all_need capture_s cs.value.items) ++ ((meaning_at (meanings a) v).nodes ++ (nodes_in (meanings a) (all_need capture_s ds.value.items) ++ (meaning_at (meanings a) w).nodes))) ++ at ∷ []
par_nodes a at cs v ds w n h is =
    let ms = meanings a in
    let first = nodes_in ms (all_need capture_s cs.value.items) in
    let second = nodes_in ms (all_need capture_s ds.value.items) in
    let ours = (meaning_at ms v).nodes in
    let theirs = (meaning_at ms w).nodes in
    let front = all_need capture_s cs.value.items ++ (need term_s v ∷ all_need capture_s ds.value.items) in
    h.nodes ∙ ap (λ t. nodes_in ms (needs t) ++ at ∷ []) is
    ∙ ap (λ l. l ++ at ∷ []) (nodes_append ms front (need term_s w ∷ []))
    ∙ ap (λ l. (nodes_in ms front ++ l) ++ at ∷ []) (append-nil theirs)
    ∙ ap (λ l. (l ++ theirs) ++ at ∷ []) (nodes_append ms (all_need capture_s cs.value.items) (need term_s v ∷ all_need capture_s ds.value.items))
    ∙ ap (λ l. l ++ at ∷ []) (append_assoc first (ours ++ second) theirs)
    ∙ ap (λ l. (first ++ l) ++ at ∷ []) (append_assoc ours second theirs)

-- both lists of names are of the tree, and both blocks stand before their node and are ready
pub record AreBranches (a : Arena) (at : ℕ) (cs : List ℕ) (v : ℕ) (ds : List ℕ) (w : ℕ) : Type 0 where
  pub first : AreNames a cs
  pub second : AreNames a ds
  pub ours_before : v < at
  pub theirs_before : w < at
  pub ours : IsReady a v
  pub theirs : IsReady a w
  pub count : length (nodes_in (meanings a) (all_need capture_s cs)) + length (meaning_at (meanings a) v).nodes + length (nodes_in (meanings a) (all_need capture_s ds)) + length (meaning_at (meanings a) w).nodes + 1 ≤ length (meaning_at (meanings a) at).nodes
  pub apart : AreDifferent ((meaning_at (meanings a) v).nodes ++ nodes_in (meanings a) (all_need capture_s ds))

pub par_parts : (a : Arena) (at : ℕ) (cs : Boxed (WithRoom ℕ) Global) (v : ℕ) (ds : Boxed (WithRoom ℕ) Global) (w : ℕ) (n : Node) → IsHere a at n → n.term ≡ Par cs v ds w → IsReady a at → AreBranches a at cs.value.items v ds.value.items w
par_parts a at cs v ds w n h is ready =
    let ms = meanings a in
    let first = nodes_in ms (all_need capture_s cs.value.items) in
    let second = nodes_in ms (all_need capture_s ds.value.items) in
    let ours = (meaning_at ms v).nodes in
    let theirs = (meaning_at ms w).nodes in
    let back = needs_append ms at (all_need capture_s cs.value.items ++ (need term_s v ∷ all_need capture_s ds.value.items)) (need term_s w ∷ []) (subst (AreBelow ms at) (ap needs is) h.parts) in
    let front = needs_append ms at (all_need capture_s cs.value.items) (need term_s v ∷ all_need capture_s ds.value.items) back.0 in
    let nodes = par_nodes a at cs v ds w n h is in
    let rest : AreDifferent (ours ++ (second ++ theirs)) = different_back first (ours ++ (second ++ theirs)) (different_front (first ++ (ours ++ (second ++ theirs))) (at ∷ []) (subst AreDifferent nodes ready.own)) in
    record {
      first = names_there a at cs.value.items ready.here front.0;
      second = names_there a at ds.value.items ready.here front.1.2;
      ours_before = front.1.0;
      theirs_before = back.1.0;
      ours = record { here = omega (arith, front.1.0, ready.here); sort = front.1.1; own = different_front ours (second ++ theirs) rest };
      theirs = record { here = omega (arith, back.1.0, ready.here); sort = back.1.1; own = different_back second theirs (different_back ours (second ++ theirs) rest) };
      count = omega (arith, ap length nodes, length-append (first ++ (ours ++ (second ++ theirs))) (at ∷ []), length-append first (ours ++ (second ++ theirs)), length-append ours (second ++ theirs), length-append second theirs);
      apart = different_front (ours ++ second) theirs (subst AreDifferent (sym (append_assoc ours second theirs)) rest);
    }

-- CAPTURES

-- the new environment of all names, and what they leave
pub all_new : (by : Capturer) (names : List Text) (ns : List Held) (e e1 n : Env) (cs : List Captured) → ns ≡ [] → ((go : Env → Env → Outcome) → capture_all by cs e (env_of names ns) go ≡ go e1 n) → n ≡ env_of_all by e cs
all_new by names ns e e1 n cs none goes = sym (ap env_after (into_none by names ns e e1 n cs none goes (λ e1 n1. typed (own unit) n1)))

pub all_left : (by : Capturer) (names : List Text) (ns : List Held) (e e1 n : Env) (cs : List Captured) → ns ≡ [] → ((go : Env → Env → Outcome) → capture_all by cs e (env_of names ns) go ≡ go e1 n) → e1 ≡ env_left_by_all by e cs
all_left by names ns e e1 n cs none goes = sym (ap env_after (into_none by names ns e e1 n cs none goes (λ e1 n1. typed (own unit) e1)))

-- a name of the first list, or of the second, has a fault
pub first_fails : (A : Type 0) (names : List Text) (ns : List Held) (e e1 n e2 : Env) (cs ds : List Captured) (error : CheckError) → ns ≡ [] → GoesOn {A = A} (Err error) (capture_all by_par cs e (env_of names ns)) e1 n → GoesOnBoth (Err error) names (capture_both cs ds e) e2
first_fails A names ns e e1 n e2 cs ds (Fault p r) none fails = λ go. ap (λ (l : List Held). capture_all by_par cs e (env_of names l) (λ e1 n. capture_all by_par ds e1 [] (λ e2 m. go n m e2))) (sym none) ∙ fails (λ e1 n. capture_all by_par ds e1 [] (λ e2 m. go n m e2))
first_fails A names ns e e1 n e2 cs ds NoMemory none fails = tt

pub second_fails : (A : Type 0) (names : List Text) (ns ks : List Held) (e e1 n e2 m e3 : Env) (cs ds : List Captured) (error : CheckError) → ns ≡ [] → ks ≡ [] → ((go : Env → Env → Outcome) → capture_all by_par cs e (env_of names ns) go ≡ go e1 n) → GoesOn {A = A} (Err error) (capture_all by_par ds e1 (env_of names ks)) e2 m → GoesOnBoth (Err error) names (capture_both cs ds e) e3
second_fails A names ns ks e e1 n e2 m e3 cs ds (Fault p r) none empty goes fails = λ go.
    into_none by_par names ns e e1 n cs none goes (λ e1 n. capture_all by_par ds e1 [] (λ e2 m. go n m e2))
    ∙ ap (λ (l : List Held). capture_all by_par ds e1 (env_of names l) (λ e2 m. go n m e2)) (sym empty) ∙ fails (λ e2 m. go n m e2)
second_fails A names ns ks e e1 n e2 m e3 cs ds NoMemory none empty goes fails = tt

-- all names are captured
pub both_go : (names : List Text) (ns ks ours theirs : List Held) (e e1 e2 : Env) (cs ds : List Captured) → ns ≡ [] → ks ≡ [] → ((go : Env → Env → Outcome) → capture_all by_par cs e (env_of names ns) go ≡ go e1 (env_of names ours)) → ((go : Env → Env → Outcome) → capture_all by_par ds e1 (env_of names ks) go ≡ go e2 (env_of names theirs)) → (go : Env → Env → Env → Outcome) → capture_both cs ds e go ≡ go (env_of names ours) (env_of names theirs) e2
both_go names ns ks ours theirs e e1 e2 cs ds none empty first second go =
    into_none by_par names ns e e1 (env_of names ours) cs none first (λ e1 n. capture_all by_par ds e1 [] (λ e2 m. go n m e2))
    ∙ into_none by_par names ks e1 e2 (env_of names theirs) ds empty second (λ e2 m. go (env_of names ours) m e2)

-- the usages of both lists
pub both_written : (names : List Text) (ns ks : List Held) (e e1 : Env) (cs ds : List Captured) (old mid new : List Usage) (xs ys : List ℕ) → ns ≡ [] → ks ≡ [] → e1 ≡ env_left_by_all by_par e cs → AreWritten old mid xs (capture_usages by_par e (env_of names ns) cs) → AreWritten mid new ys (capture_usages by_par e1 (env_of names ks) ds) → AreBothWritten old new xs ys (capture_usages by_par e [] cs) (capture_usages by_par (env_left_by_all by_par e cs) [] ds)
both_written names ns ks e e1 cs ds old mid new xs ys none empty left first second = record {
  between = mid;
  first = subst (λ (l : List Held). AreWritten old mid xs (capture_usages by_par e (env_of names l) cs)) none first;
  second =
      subst (λ f. AreWritten mid new ys (capture_usages by_par f [] ds)) left
      (subst (λ (l : List Held). AreWritten mid new ys (capture_usages by_par e1 (env_of names l) ds)) empty second);
}

pub both_long : (old new : List Usage) (xs ys : List ℕ) (ms ls : List (Option Usage)) → AreBothWritten old new xs ys ms ls → length new ≡ length old
both_long old new xs ys ms ls h = written_long h.between new ys ls h.second ∙ written_long old h.between xs ms h.first

-- ANSWERS

-- a captured name has a fault
pub par_fails : (names : List Text) (t a b : terms.Term) (at : ℕ) (cs ds : List Captured) (error : CheckError) (e e1 e2 : Env) → t ≡ par_t at cs a ds b → GoesOnBoth (Err error) names (capture_both cs ds e) e1 → Gives (Err error) (typing t e) e2
par_fails names t a b at cs ds (Fault p r) e e1 e2 is fails = ap (λ u. typing u e) is ∙ fails (λ n m e2. then_typed (typing a n) (λ k n1. then_typed (typing b m) (λ l m1. par_rule (start_of a) (start_of b) k l e2)))
par_fails names t a b at cs ds NoMemory e e1 e2 is fails = tt

par_goes : (t a b : terms.Term) (at : ℕ) (cs ds : List Captured) (e n m e2 : Env) → t ≡ par_t at cs a ds b → ((go : Env → Env → Env → Outcome) → capture_both cs ds e go ≡ go n m e2) → typing t e ≡ then_typed (typing a n) (λ k n1. then_typed (typing b m) (λ l m1. par_rule (start_of a) (start_of b) k l e2))
par_goes t a b at cs ds e n m e2 is goes = ap (λ u. typing u e) is ∙ goes (λ n m e2. then_typed (typing a n) (λ k n1. then_typed (typing b m) (λ l m1. par_rule (start_of a) (start_of b) k l e2)))

-- the first block has a fault
pub ours_fails : (t a b : terms.Term) (at : ℕ) (cs ds : List Captured) (error : CheckError) (e n m e2 e3 : Env) → t ≡ par_t at cs a ds b → ((go : Env → Env → Env → Outcome) → capture_both cs ds e go ≡ go n m e2) → GivesType (Err error) (typing a n) → Gives (Err error) (typing t e) e3
ours_fails t a b at cs ds (Fault p r) e n m e2 e3 is goes fails = par_goes t a b at cs ds e n m e2 is goes ∙ ap (λ o. then_typed o (λ k n1. then_typed (typing b m) (λ l m1. par_rule (start_of a) (start_of b) k l e2))) fails
ours_fails t a b at cs ds NoMemory e n m e2 e3 is goes fails = tt

ours_go : (t a b : terms.Term) (at : ℕ) (cs ds : List Captured) (k : Kind) (e n m e2 n1 : Env) → t ≡ par_t at cs a ds b → ((go : Env → Env → Env → Outcome) → capture_both cs ds e go ≡ go n m e2) → typing a n ≡ typed k n1 → typing t e ≡ then_typed (typing b m) (λ l m1. par_rule (start_of a) (start_of b) k l e2)
ours_go t a b at cs ds k e n m e2 n1 is goes first = par_goes t a b at cs ds e n m e2 is goes ∙ ap (λ o. then_typed o (λ k n1. then_typed (typing b m) (λ l m1. par_rule (start_of a) (start_of b) k l e2))) first

-- the second one has
pub theirs_fails : (t a b : terms.Term) (at : ℕ) (cs ds : List Captured) (u : Ty) (error : CheckError) (e n m e2 e3 : Env) → t ≡ par_t at cs a ds b → ((go : Env → Env → Env → Outcome) → capture_both cs ds e go ≡ go n m e2) → GivesType (Ok u) (typing a n) → GivesType (Err error) (typing b m) → Gives (Err error) (typing t e) e3
theirs_fails t a b at cs ds u (Fault p r) e n m e2 e3 is goes first fails = ours_go t a b at cs ds (kind_of u) e n m e2 first.0 is goes first.1 ∙ ap (λ o. then_typed o (λ l m1. par_rule (start_of a) (start_of b) (kind_of u) l e2)) fails
theirs_fails t a b at cs ds u NoMemory e n m e2 e3 is goes first fails = tt

-- both have a type
pub par_gives : (t a b : terms.Term) (at ours theirs : ℕ) (cs ds : List Captured) (u v : Ty) (result : Result Ty CheckError) (e n m e2 : Env) → t ≡ par_t at cs a ds b → ((go : Env → Env → Env → Outcome) → capture_both cs ds e go ≡ go n m e2) → GivesType (Ok u) (typing a n) → GivesType (Ok v) (typing b m) → ours ≡ start_of a → theirs ≡ start_of b → Gives result (par_rule ours theirs (kind_of u) (kind_of v) e2) e2 → Gives result (typing t e) e2
par_gives t a b at ours theirs cs ds u v result e n m e2 is goes first second begins other gives =
    subst (λ o. Gives result o e2)
    (sym (ours_go t a b at cs ds (kind_of u) e n m e2 first.0 is goes first.1
    ∙ ap (λ o. then_typed o (λ l m1. par_rule (start_of a) (start_of b) (kind_of u) l e2)) second.1
    ∙ ap (λ s. par_rule s (start_of b) (kind_of u) (kind_of v) e2) (sym begins) ∙ ap (λ s. par_rule ours s (kind_of u) (kind_of v) e2) (sym other)))
    gives

-- USAGES

-- the usages of different nodes may be written in any order
written_swap : (us : List Usage) (ys zs : List ℕ) (ls ks : List (Option Usage)) → AreDifferent (zs ++ ys) → written (written us ys ls) zs ks ≡ written (written us zs ks) ys ls
written_swap us ys [] ls ks d = refl
written_swap us ys (z ∷ zs) ls [] d = refl
written_swap us ys (z ∷ zs) ls (None ∷ ks) d = written_swap us ys zs ls ks d.1
written_swap us ys (z ∷ zs) ls (Some u ∷ ks) d =
    let out : IsOut z ys = (or_parts (list_any (λ j. j == z) zs) (list_any (λ j. j == z) ys) (sym (list_any-append (λ j. j == z) zs ys) ∙ d.0)).1 in
    ap (λ l. written l zs ks) (sym (written-set us z u ys ls out)) ∙ written_swap (set us z u) ys zs ls ks d.1

written_other : (a b c : List Usage) (ys zs : List ℕ) (ls ks : List (Option Usage)) → AreWritten a b ys ls → AreWritten b c zs ks → AreDifferent (zs ++ ys) → AreWritten a c (zs ++ ys) (ks ++ ls)
written_other a b c ys zs ls ks h g d =
    let other : AreWritten a (written a zs ks) zs ks = record { same = refl; each = g.each; within = subst (λ n. AllBelow n zs) (written_long a b ys ls h) g.within } in
    let last : AreWritten (written a zs ks) (written (written a zs ks) ys ls) ys ls = record { same = refl; each = h.each; within = subst (λ n. AllBelow n ys) (sym (length-written a zs ks)) h.within } in
    subst (λ l. AreWritten a l (zs ++ ys) (ks ++ ls)) (sym (g.same ∙ ap (λ l. written l zs ks) h.same ∙ written_swap a ys zs ls ks d))
    (written_both a (written a zs ks) (written (written a zs ks) ys ls) zs ys ks ls other last)

pub par_used : (a : Arena) (at : ℕ) (cs : Boxed (WithRoom ℕ) Global) (v : ℕ) (ds : Boxed (WithRoom ℕ) Global) (w : ℕ) (n : Node) (e e1 e2 : Env) (old mid next new : List Usage) → IsHere a at n → n.term ≡ Par cs v ds w → IsReady a at → at < length old →
    e1 ≡ env_of_all by_par e (captures_at (meanings a) cs.value.items) → e2 ≡ env_of_all by_par (env_left_by_all by_par e (captures_at (meanings a) cs.value.items)) (captures_at (meanings a) ds.value.items) →
    AreBothWritten old mid (nodes_in (meanings a) (all_need capture_s cs.value.items)) (nodes_in (meanings a) (all_need capture_s ds.value.items)) (capture_usages by_par e [] (captures_at (meanings a) cs.value.items)) (capture_usages by_par (env_left_by_all by_par e (captures_at (meanings a) cs.value.items)) [] (captures_at (meanings a) ds.value.items)) →
    AreWritten mid next (meaning_at (meanings a) v).nodes (usages_of (term_at (meanings a) v) e1) → AreWritten next new (meaning_at (meanings a) w).nodes (usages_of (term_at (meanings a) w) e2) → AreWritten old new (meaning_at (meanings a) at).nodes (usages_of (term_at (meanings a) at) e)
par_used a at cs v ds w n e e1 e2 old mid next new h is ready lt first_new second_new both first second =
    let ms = meanings a in
    let xs = nodes_in ms (all_need capture_s cs.value.items) in
    let ys = nodes_in ms (all_need capture_s ds.value.items) in
    let ours = (meaning_at ms v).nodes in
    let theirs = (meaning_at ms w).nodes in
    let left = env_left_by_all by_par e (captures_at ms cs.value.items) in
    let cu = capture_usages by_par e [] (captures_at ms cs.value.items) in
    let du = capture_usages by_par left [] (captures_at ms ds.value.items) in
    let au = usages_of (term_at ms v) (env_of_all by_par e (captures_at ms cs.value.items)) in
    let bu = usages_of (term_at ms w) (env_of_all by_par left (captures_at ms ds.value.items)) in
    let one : AreWritten mid next ours au = subst (λ f. AreWritten mid next ours (usages_of (term_at ms v) f)) first_new first in
    let two : AreWritten next new theirs bu = subst (λ f. AreWritten next new theirs (usages_of (term_at ms w) f)) second_new second in
    let turned : AreWritten both.between next (ours ++ ys) (au ++ du) = written_other both.between mid next ys ours du au both.second one (par_parts a at cs v ds w n h is ready).apart in
    let rest : AreWritten both.between new ((ours ++ ys) ++ theirs) ((au ++ du) ++ bu) = written_both both.between next new (ours ++ ys) theirs (au ++ du) bu turned two in
    let right : AreWritten both.between new (ours ++ (ys ++ theirs)) (au ++ (du ++ bu)) =
    subst (λ l. AreWritten both.between new l (au ++ (du ++ bu))) (append_assoc ours ys theirs) (subst (λ l. AreWritten both.between new ((ours ++ ys) ++ theirs) l) (append_assoc au du bu) rest) in
    let all : AreWritten old new (xs ++ (ours ++ (ys ++ theirs))) (cu ++ (au ++ (du ++ bu))) = written_both old both.between new xs (ours ++ (ys ++ theirs)) cu (au ++ (du ++ bu)) both.first right in
    subst (λ t. AreWritten old new (meaning_at ms at).nodes (usages_of t e)) (sym (par_here a at cs v ds w n h is))
    (subst (λ l. AreWritten old new l ((cu ++ (au ++ (du ++ bu))) ++ None ∷ [])) (sym (par_nodes a at cs v ds w n h is))
    (written_node old new (xs ++ (ours ++ (ys ++ theirs))) (cu ++ (au ++ (du ++ bu))) at all lt))
