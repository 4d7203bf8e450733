-- Texts written one behind the other.
use Rattle.std.proofs.Common.{◌≡◌, ℕ, zero, suc, ◌+◌, ◌<◌, ◌≤◌, nat_lt, true, cond, List, [], ◌∷◌, ◌++◌, length, take, replicate, refl, sym, ap, ◌∙◌, subst, codes, arith}
use Rattle.std.specs.Prelude.{Some, slice_get, Result, Ok, Err, OnOk, Box as Boxed}
use Rattle.std.specs.declared.alloc.Global.{Global}
use Rattle.std.proofs.lemmas.Bool.Decides.{nat_tests}
use Rattle.std.proofs.lemmas.List.{append_assoc, append-nil}
use Rattle.fr_terms.specs.Terms.{Text}
use Rattle.fr_base.specs.Rooms.{WithRoom}
use Rattle.fr_syntax.specs.declared.tree.Term as tree
use Rattle.fr_syntax.specs.declared.tree.Term.TheVariants.{Par}
use Rattle.fr_syntax.specs.Meanings.{Meaning, Sort, Need, sort_of, meaning_at, term_at, items_at, captures_at, as_term, as_capture, term_s, capture_s, need, all_need, needs, stands_for, AreBelow}
use Rattle.fr_parse.specs.Canonical.{path_words, other_words, name_words, words, item_words, more_words, joined}
use Rattle.fr_grammar.specs.Growth.{branch_parts}
use Rattle.fr_parse.specs.Written.{spaced, IsWritten, mark_before}

-- texts behind texts
spaced-append : (ws vs : List Text) → spaced (ws ++ vs) ≡ spaced ws ++ spaced vs
spaced-append [] vs = refl
spaced-append (w ∷ ws) vs = ap (λ l. w ++ codes " " ++ l) (spaced-append ws vs) ∙ sym (append_assoc (w ++ codes " ") (spaced ws) (spaced vs))

-- nothing is written
pub written_none : (a : List ℕ) → IsWritten a [] a
written_none a = sym (append-nil a)

-- first some, and then others
pub written_then : (ws vs : List Text) (a b c : List ℕ) → IsWritten a ws b → IsWritten b vs c → IsWritten a (ws ++ vs) c
written_then ws vs a b c first next =
    next ∙ ap (λ l. l ++ spaced vs) first ∙ append_assoc a (spaced ws) (spaced vs) ∙ ap (λ l. a ++ l) (sym (spaced-append ws vs))

-- what follows from what a success means
pub on_ok : {A E : Type 0} (P Q : Type 0) (r : Result A E) → (P → Q) → OnOk r P → OnOk r Q
on_ok P Q (Ok x) f h = f h
on_ok P Q (Err e) f h = tt

-- these texts, which are those
pub written_as : (ws vs : List Text) (a b : List ℕ) → ws ≡ vs → IsWritten a ws b → IsWritten a vs b
written_as ws vs a b e h = subst (λ l. IsWritten a l b) e h

-- one more of the same
replicate_more : (n : ℕ) (w : Text) → replicate (n + 1) w ≡ replicate n w ++ w ∷ []
replicate_more zero w = refl
replicate_more (suc n) w = let same : suc n + 1 ≡ suc (n + 1) = omega arith in ap (λ k. replicate k w) same ∙ ap (λ l. w ∷ l) (replicate_more n w)

-- a star more
pub star_written : (n : ℕ) (a b c : List ℕ) → IsWritten a (replicate n (codes "*")) b → IsWritten b (codes "*" ∷ []) c → IsWritten a (replicate (n + 1) (codes "*")) c
star_written n a b c h star = written_as (replicate n (codes "*") ++ codes "*" ∷ []) _ a c (sym (replicate_more n (codes "*"))) (written_then (replicate n (codes "*")) (codes "*" ∷ []) a b c h star)

-- a name under stars
path_is : (n : ℕ) (name : Text) → path_words n name ≡ replicate n (codes "*") ++ name ∷ []
path_is zero name = refl
path_is (suc n) name = ap (λ l. codes "*" ∷ l) (path_is n name)

-- stars, and the name behind them
pub path_written : (n : ℕ) (name : Text) (a b c : List ℕ) → IsWritten a (replicate n (codes "*")) b → IsWritten b (name ∷ []) c → IsWritten a (path_words n name) c
path_written n name a b c stars h = written_as (replicate n (codes "*") ++ name ∷ []) (path_words n name) a c (sym (path_is n name)) (written_then (replicate n (codes "*")) (name ∷ []) a b c stars h)

-- one number more of a list
taken_next : (ks : List ℕ) (i k : ℕ) → Some k ≡ slice_get ks i → take (i + 1) ks ≡ take i ks ++ k ∷ []
taken_next [] i k h = absurd cc
taken_next (j ∷ ks) zero k h = let same : j ≡ k = cc in ap (λ n. n ∷ []) same
taken_next (j ∷ ks) (suc i) k h = let same : suc i + 1 ≡ suc (i + 1) = omega arith in ap (λ n. take n (j ∷ ks)) same ∙ ap (λ l. j ∷ l) (taken_next ks i k h)

-- a mark stands before all but the first
some_mark : (n : ℕ) (mark : Text) → mark_before (suc n) mark ≡ mark ∷ []
some_mark n mark = let some : nat_lt 0 (suc n) ≡ true = grind (arith, nat_tests) in ap (λ b. cond b (mark ∷ []) []) some

-- where a number stands in a list, so many stand before it
mark_taken : (ks : List ℕ) (i k : ℕ) (mark : Text) → Some k ≡ slice_get ks i → mark_before i mark ≡ mark_before (length (take i ks)) mark
mark_taken [] i k mark h = absurd cc
mark_taken (j ∷ ks) zero k mark h = refl
mark_taken (j ∷ ks) (suc i) k mark h = some_mark i mark ∙ sym (some_mark (length (take i ks)) mark)

-- parts of one sort stand before a node, each of them
pub need_at : (ms : List Meaning) (n : ℕ) (s : Sort) (ks : List ℕ) (i k : ℕ) → AreBelow ms n (all_need s ks) → Some k ≡ slice_get ks i → (k < n) × (sort_of (meaning_at ms k).what ≡ s)
need_at ms n s [] i k h e = absurd cc
need_at ms n s (j ∷ ks) zero k h e =
    let same : j ≡ k = cc in
    (subst (λ x. x < n) same h.0, subst (λ x. sort_of (meaning_at ms x).what ≡ s) same h.1)
need_at ms n s (j ∷ ks) (suc i) k h e = need_at ms n s ks i k h.2 e

-- a captured name more
others_push : (ms : List Meaning) (ks : List ℕ) (k : ℕ) → other_words (captures_at ms (ks ++ k ∷ [])) ≡ other_words (captures_at ms ks) ++ codes "," ∷ (as_capture (meaning_at ms k).what).name ∷ []
others_push ms [] k = refl
others_push ms (j ∷ ks) k = ap (λ l. codes "," ∷ (as_capture (meaning_at ms j).what).name ∷ l) (others_push ms ks k)

-- a captured name more, behind those that are there or as the first
names_push : (ms : List Meaning) (ks : List ℕ) (k : ℕ) → name_words (captures_at ms (ks ++ k ∷ [])) ≡ name_words (captures_at ms ks) ++ (mark_before (length ks) (codes ",") ++ (as_capture (meaning_at ms k).what).name ∷ [])
names_push ms [] k = refl
names_push ms (j ∷ ks) k =
    let own = (as_capture (meaning_at ms k).what).name ∷ [] in
    ap (λ l. (as_capture (meaning_at ms j).what).name ∷ l) (others_push ms ks k)
    ∙ ap (λ m. name_words (captures_at ms (j ∷ ks)) ++ (m ++ own)) (sym (some_mark (length ks) (codes ",")))

-- an item more
more_push : (ms : List Meaning) (ks : List ℕ) (k : ℕ) → more_words (items_at ms (ks ++ k ∷ [])) ≡ more_words (items_at ms ks) ++ (codes ";" ∷ words (term_at ms k))
more_push ms [] k = ap (λ l. codes ";" ∷ l) (append-nil (words (term_at ms k)))
more_push ms (j ∷ ks) k =
    ap (λ l. codes ";" ∷ words (term_at ms j) ++ l) (more_push ms ks k)
    ∙ sym (append_assoc (codes ";" ∷ words (term_at ms j)) (more_words (items_at ms ks)) (codes ";" ∷ words (term_at ms k)))

-- an item more, behind those that are there or as the first
items_push : (ms : List Meaning) (ks : List ℕ) (k : ℕ) → item_words (items_at ms (ks ++ k ∷ [])) ≡ item_words (items_at ms ks) ++ (mark_before (length ks) (codes ";") ++ words (term_at ms k))
items_push ms [] k = append-nil (words (term_at ms k))
items_push ms (j ∷ ks) k =
    ap (λ l. words (term_at ms j) ++ l) (more_push ms ks k) ∙ sym (append_assoc (words (term_at ms j)) (more_words (items_at ms ks)) (codes ";" ∷ words (term_at ms k)))
    ∙ ap (λ m. item_words (items_at ms (j ∷ ks)) ++ (m ++ words (term_at ms k))) (sym (some_mark (length ks) (codes ";")))

-- a captured name is written behind those before it
pub name_written : (ms : List Meaning) (ks : List ℕ) (i k : ℕ) (a b c d : List ℕ) → Some k ≡ slice_get ks i → IsWritten a (name_words (captures_at ms (take i ks))) b → IsWritten b (mark_before i (codes ",")) c → IsWritten c ((as_capture (meaning_at ms k).what).name ∷ []) d → IsWritten a (name_words (captures_at ms (take (i + 1) ks))) d
name_written ms ks i k a b c d e before mark name =
    let front = name_words (captures_at ms (take i ks)) in
    let own = (as_capture (meaning_at ms k).what).name ∷ [] in
    let same = ap (λ l. name_words (captures_at ms l)) (taken_next ks i k e) ∙ names_push ms (take i ks) k ∙ ap (λ m. front ++ (m ++ own)) (sym (mark_taken ks i k (codes ",") e)) in
    written_as (front ++ (mark_before i (codes ",") ++ own)) (name_words (captures_at ms (take (i + 1) ks))) a d (sym same)
    (written_then front (mark_before i (codes ",") ++ own) a b d before (written_then (mark_before i (codes ",")) own b c d mark name))

-- an item is written behind those before it
pub item_written : (ms : List Meaning) (ks : List ℕ) (i k : ℕ) (a b c d : List ℕ) → Some k ≡ slice_get ks i → IsWritten a (item_words (items_at ms (take i ks))) b → IsWritten b (mark_before i (codes ";")) c → IsWritten c (words (term_at ms k)) d → IsWritten a (item_words (items_at ms (take (i + 1) ks))) d
item_written ms ks i k a b c d e before mark term =
    let front = item_words (items_at ms (take i ks)) in
    let own = words (term_at ms k) in
    let same = ap (λ l. item_words (items_at ms l)) (taken_next ks i k e) ∙ items_push ms (take i ks) k ∙ ap (λ m. front ++ (m ++ own)) (sym (mark_taken ks i k (codes ";") e)) in
    written_as (front ++ (mark_before i (codes ";") ++ own)) (item_words (items_at ms (take (i + 1) ks))) a d (sym same)
    (written_then front (mark_before i (codes ";") ++ own) a b d before (written_then (mark_before i (codes ";")) own b c d mark term))

-- what stands before a node stands before a later one
pub below_later : (ms : List Meaning) (n m : ℕ) (xs : List Need) → n ≤ m → AreBelow ms n xs → AreBelow ms m xs
below_later ms n m [] le h = tt
below_later ms n m (x ∷ xs) le h = (omega (arith, le, h.0), h.1, below_later ms n m xs le h.2)

-- parts before others, and these
pub below_split : (ms : List Meaning) (n : ℕ) (xs ys : List Need) → AreBelow ms n (xs ++ ys) → AreBelow ms n xs × AreBelow ms n ys
below_split ms n [] ys h = (tt, h)
below_split ms n (x ∷ xs) ys h = let s = below_split ms n xs ys h.2 in ((h.0, h.1, s.0), s.1)

-- these parts and those
below_join : (ms : List Meaning) (n : ℕ) (xs ys : List Need) → AreBelow ms n xs → AreBelow ms n ys → AreBelow ms n (xs ++ ys)
below_join ms n [] ys h k = k
below_join ms n (x ∷ xs) ys h k = (h.0, h.1, below_join ms n xs ys h.2 k)

-- the parts of a node with two branches
pub par_parts : (ms : List Meaning) (at : ℕ) (term : tree.Term) (nodes others : Boxed (WithRoom ℕ) Global) (body other : ℕ) → AreBelow ms at (needs term) → term ≡ Par nodes body others other → AreBelow ms at (branch_parts nodes.value.items body) × AreBelow ms at (branch_parts others.value.items other)
par_parts ms at term nodes others body other below is =
    let front = all_need capture_s nodes.value.items in
    let next = all_need capture_s others.value.items in
    let all = below_split ms at (front ++ need term_s body ∷ next) (need term_s other ∷ []) (subst (λ t. AreBelow ms at (needs t)) is below) in
    let first = below_split ms at front (need term_s body ∷ next) all.0 in
    (below_join ms at front (need term_s body ∷ []) first.0 (first.1.0, first.1.1, tt), below_join ms at next (need term_s other ∷ []) first.1.2 all.1)

-- the words of a node of this form
pub words_here : (names : List Text) (ms : List Meaning) (at place : ℕ) (term form : tree.Term) → (meaning_at ms at).what ≡ stands_for names ms place term → term ≡ form → words (term_at ms at) ≡ words (as_term (stands_for names ms place form))
words_here names ms at place term form what is = ap (λ w. words (as_term w)) (what ∙ ap (stands_for names ms place) is)

-- a mark, some words, and a mark
pub enclosed : (mark other : Text) (inner : List Text) (a b c d : List ℕ) → IsWritten a (mark ∷ []) b → IsWritten b inner c → IsWritten c (other ∷ []) d → IsWritten a (mark ∷ inner ++ other ∷ []) d
enclosed mark other inner a b c d opened all close = written_then (mark ∷ inner) (other ∷ []) a c d (written_then (mark ∷ []) inner a b c opened all) close

-- a sum, difference or product
pub arith_written : (left right : List Text) (op : Text) (a b c d e : List ℕ) → IsWritten a (codes "(" ∷ []) b → IsWritten b left c → IsWritten c (op ∷ right) d → IsWritten d (codes ")" ∷ []) e → IsWritten a (codes "(" ∷ left ++ op ∷ right ++ codes ")" ∷ []) e
arith_written left right op a b c d e opened first second close =
    enclosed (codes "(") (codes ")") (left ++ op ∷ right) a b d e opened (written_then left (op ∷ right) b c d first second) close

-- two branches
pub par_written : (list body others other ws : List Text) (a b c d : List ℕ) → ws ≡ codes "par" ∷ list ++ body ++ others ++ other → IsWritten a (codes "par" ∷ []) b → IsWritten b (list ++ body) c → IsWritten c (others ++ other) d → IsWritten a ws d
par_written list body others other ws a b c d is word first second =
    written_as (codes "par" ∷ (list ++ body) ++ (others ++ other)) ws a d (sym (is ∙ append_assoc (codes "par" ∷ (list ++ body)) others other))
    (written_then (codes "par" ∷ (list ++ body)) (others ++ other) a c d (written_then (codes "par" ∷ []) (list ++ body) a b c word first) second)

-- a lock
pub lock_written : (of body : List Text) (name : Text) (a b c d e : List ℕ) → IsWritten a (codes "lock" ∷ of) b → IsWritten b (codes "as" ∷ []) c → IsWritten c (name ∷ []) d → IsWritten d body e → IsWritten a (codes "lock" ∷ of ++ codes "as" ∷ name ∷ body) e
lock_written of body name a b c d e place mark named last =
    written_then (codes "lock" ∷ of) (codes "as" ∷ name ∷ body) a b e place
    (written_then (codes "as" ∷ []) (name ∷ body) b c e mark (written_then (name ∷ []) body c d e named last))

-- texts with one space between two, where the last is this one
joined_last : (ws : List Text) (w : Text) → joined (ws ++ w ∷ []) ≡ spaced ws ++ w
joined_last [] w = refl
joined_last (v ∷ []) w = ap (λ l. l ++ w) (sym (append-nil (v ++ codes " ")))
joined_last (v ∷ u ∷ ws) w = ap (λ l. v ++ codes " " ++ l) (joined_last (u ∷ ws) w) ∙ sym (append_assoc (v ++ codes " ") (spaced (u ∷ ws)) w)

-- a program
pub program_written : (inner ws : List Text) (b c d : List ℕ) → ws ≡ codes "{" ∷ inner ++ codes "}" ∷ [] → IsWritten [] (codes "{" ∷ []) b → IsWritten b inner c → d ≡ c ++ codes "}\n" → d ≡ joined ws ++ codes "\n"
program_written inner ws b c d e opened all end =
    let front = codes "{" ∷ inner in
    end ∙ ap (λ l. l ++ codes "}\n") (written_then (codes "{" ∷ []) inner [] b c opened all)
    ∙ sym (append_assoc (spaced front) (codes "}") (codes "\n"))
    ∙ ap (λ l. l ++ codes "\n") (sym (joined_last front (codes "}")))
    ∙ ap (λ l. joined l ++ codes "\n") (sym e)
