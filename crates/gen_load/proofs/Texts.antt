-- The texts of generated programs, piece by piece.
use Rattle.std.proofs.Common.{◌≡◌, ◌∙◌, ◌≤◌, ◌+◌, ◌/◌, ◌%◌, ℕ, zero, suc, List, [], ◌∷◌, ◌++◌, codes, decimal, refl, sym, ap, arith, add-zero, zero-add}
use Rattle.std.proofs.lemmas.List.{append_assoc, append-nil}
use Rattle.std.specs.Fmt.{digits}
use Rattle.fr_terms.specs.Terms.{Text, Term, join_t, let_t, lock_t, print_t}
use Rattle.fr_parse.specs.Canonical.{canonical, words, item_words, more_words}
use Rattle.fr_parse.specs.Written.{spaced}
use Rattle.fr_parse.proofs.PrintLemmas.{program_written}
use Rattle.gen_load.specs.Pieces.{items_text, more_text, term_text}
use Rattle.gen_load.specs.Programs.{add_locked, block, by_kind, counter, counting, handed, handed_from, handing, items, place, print_end, program_text, read, shared_round, sharing, step_of, times}

-- what is written behind what was written
pub then : (o a b p q : List ℕ) → p ≡ o ++ a → q ≡ p ++ b → q ≡ o ++ (a ++ b)
then o a b p q first next = next ∙ ap (λ l. l ++ b) first ∙ append_assoc o a b

spaced-append : (ws vs : List Text) → spaced (ws ++ vs) ≡ spaced ws ++ spaced vs
spaced-append [] vs = refl
spaced-append (w ∷ ws) vs = ap (λ l. w ++ codes " " ++ l) (spaced-append ws vs) ∙ sym (append_assoc (w ++ codes " ") (spaced ws) (spaced vs))

more_words-append : (xs ys : List Term) → more_words (items (xs ++ ys)) ≡ more_words (items xs) ++ more_words (items ys)
more_words-append [] ys = refl
more_words-append (x ∷ xs) ys =
    ap (λ l. codes ";" ∷ words x ++ l) (more_words-append xs ys) ∙ sym (append_assoc (codes ";" ∷ words x) (more_words (items xs)) (more_words (items ys)))

pub more_text-append : (xs ys : List Term) → more_text (xs ++ ys) ≡ more_text xs ++ more_text ys
more_text-append xs ys = ap spaced (more_words-append xs ys) ∙ spaced-append (more_words (items xs)) (more_words (items ys))

-- ---- one round more

times_more : (k : ℕ) (ts : List Term) → times (suc k) ts ≡ times k ts ++ ts
times_more zero ts = append-nil ts
times_more (suc k) ts = ap (λ l. ts ++ l) (times_more k ts) ∙ sym (append_assoc ts (times k ts) ts)

handed_more : (n i d : ℕ) → handed_from i (suc n) d ≡ handed_from i n d ++ handed (i + n) d
handed_more zero i d = append-nil (handed i d) ∙ ap (λ j. handed j d) (sym (add-zero i))
handed_more (suc n) i d =
    let same : i + 1 + n ≡ i + suc n = omega arith in
    ap (λ l. handed i d ++ l) (handed_more n (i + 1) d ∙ ap (λ j. handed_from (i + 1) n d ++ handed j d) same)
    ∙ sym (append_assoc (handed i d) (handed_from (i + 1) n d) (handed (i + suc n) d))

-- ---- counting

locked_text : (share : Text) (d : ℕ) → codes "lock " ++ (share ++ (codes " as c { c = ( c + " ++ (decimal d ++ codes " ) } "))) ≡ term_text (add_locked share d)
locked_text share d =
    let rest : List ℕ = (decimal d ++ codes " ") ++ codes ") } " in
    ap (λ l. codes "lock " ++ (share ++ (codes " as c { c = ( c + " ++ l))) (sym (append_assoc (decimal d) (codes " ") (codes ") } ")))
    ∙ ap (λ l. codes "lock " ++ l) (sym (append_assoc share (codes " ") (codes "as c { c = ( c + " ++ rest)))

pub locked_written : (o p q r s t : List ℕ) (share : Text) (d : ℕ) → p ≡ o ++ codes "lock " → q ≡ p ++ share → r ≡ q ++ codes " as c { c = ( c + " → s ≡ r ++ decimal d → t ≡ s ++ codes " ) } "
    → t ≡ o ++ term_text (add_locked share d)
locked_written o p q r s t share d a b c e f = then o _ _ p t a (then p _ _ q t b (then q _ _ r t c (then r _ _ s t e f))) ∙ ap (λ l. o ++ l) (locked_text share d)

-- the items are a first one and some more
pub first_locked : (share : Text) (d : ℕ) → items_text (times 1 (add_locked share d ∷ [])) ≡ term_text (add_locked share d)
first_locked share d = ap spaced (append-nil (words (add_locked share d)))

first_more : (t : Term) (ts : List Term) → items_text (t ∷ ts) ≡ term_text t ++ more_text ts
first_more t ts = spaced-append (words t) (more_words (items ts))

items_more : (t : Term) (k : ℕ) → items_text (times (suc (suc k)) (t ∷ [])) ≡ items_text (times (suc k) (t ∷ [])) ++ (codes "; " ++ term_text t)
items_more t k =
    first_more t (times (suc k) (t ∷ []))
    ∙ ap (λ l. term_text t ++ l) (ap more_text (times_more k (t ∷ [])) ∙ more_text-append (times k (t ∷ [])) (t ∷ []))
    ∙ sym (append_assoc (term_text t) (more_text (times k (t ∷ []))) (more_text (t ∷ [])))
    ∙ ap (λ l. l ++ more_text (t ∷ [])) (sym (first_more t (times k (t ∷ []))))
    ∙ ap (λ l. items_text (times (suc k) (t ∷ [])) ++ (codes "; " ++ spaced l)) (append-nil (words t))

-- one lock more behind at least one
pub locked_more : (o p q r : List ℕ) (t : Term) (i : ℕ) → 1 ≤ i → p ≡ o ++ items_text (times i (t ∷ [])) → q ≡ p ++ codes "; " → r ≡ q ++ term_text t → r ≡ o ++ items_text (times (i + 1) (t ∷ []))
locked_more o p q r t zero some a b c = absurd (omega (arith, some))
locked_more o p q r t (suc k) some a b c =
    let next : suc (suc k) ≡ suc k + 1 = omega arith in
    then o _ _ p r a (then p _ _ q r b c) ∙ ap (λ l. o ++ l) (sym (items_more t k) ∙ ap (λ n. items_text (times n (t ∷ []))) next)

-- a block that is closed, and what stands behind it
closed : (inner more : List Text) → spaced ((inner ++ codes "}" ∷ []) ++ more) ≡ spaced inner ++ (codes "} " ++ spaced more)
closed inner more = spaced-append (inner ++ codes "}" ∷ []) more ∙ ap (λ l. l ++ spaced more) (spaced-append inner (codes "}" ∷ [])) ∙ append_assoc (spaced inner) (codes "} ") (spaced more)

zero_text : decimal 0 ≡ codes "0"
unfolding digits
zero_text = refl

-- what stands behind the two threads
ends : List Term
ends = join_t 0 (read 0 (codes "h")) ∷ join_t 0 (read 0 (codes "g")) ∷ lock_t 0 (place 0 (codes "m")) (codes "c") (block (print_t 0 (read 0 (codes "c")) ∷ [])) ∷ []

counting_text : (k d : ℕ) → codes "let mut m = mutex 0 ; let mut a = dup m ; let mut b = dup m ; let mut h = spawn ( a ) { " ++ (items_text (times k (add_locked (codes "a") d ∷ []))
    ++ (codes "} ; let mut g = spawn ( b ) { " ++ (items_text (times k (add_locked (codes "b") d ∷ [])) ++ codes "} ; join h ; join g ; lock m as c { print c } "))) ≡ items_text (counting k d)
unfolding ends
counting_text k d =
    let ours : List Text = item_words (items (times k (add_locked (codes "a") d ∷ []))) in
    let theirs : List Text = item_words (items (times k (add_locked (codes "b") d ∷ []))) in
    let last : List Text = more_words (items ends) in
    let second : List Text = more_words (items (let_t 0 (codes "g") (counter (codes "b") k d) ∷ ends)) in
    let front : List ℕ → List ℕ = λ l. codes "let mut m = mutex 0 ; let mut a = dup m ; let mut b = dup m ; let mut h = spawn ( a ) { " ++ l in
    ap (λ l. front (spaced ours ++ (codes "} ; let mut g = spawn ( b ) { " ++ l))) (sym (closed theirs last))
    ∙ ap front (sym (closed ours second))
    ∙ ap (λ z. codes "let mut m = mutex " ++ ((z ++ codes " ") ++ (codes "; let mut a = dup m ; let mut b = dup m ; let mut h = spawn ( a ) { " ++ spaced ((ours ++ codes "}" ∷ []) ++ second)))) (sym zero_text)

pub counting_written : (o p q r s t : List ℕ) (k d : ℕ) → p ≡ o ++ codes "let mut m = mutex 0 ; let mut a = dup m ; let mut b = dup m ; let mut h = spawn ( a ) { " → q ≡ p ++ items_text (times k (add_locked (codes "a") d ∷ []))
    → r ≡ q ++ codes "} ; let mut g = spawn ( b ) { " → s ≡ r ++ items_text (times k (add_locked (codes "b") d ∷ [])) → t ≡ s ++ codes "} ; join h ; join g ; lock m as c { print c } "
    → t ≡ o ++ items_text (counting k d)
counting_written o p q r s t k d a b c e f = then o _ _ p t a (then p _ _ q t b (then q _ _ r t c (then r _ _ s t e f))) ∙ ap (λ l. o ++ l) (counting_text k d)

-- ---- sharing

round_text : (d : ℕ) → codes "; { let mut r = & * x ; par ( r ) { print * r } ( r ) { print * r } } ; * x = ( * x + " ++ (decimal d ++ codes " ) ") ≡ more_text (shared_round d)
round_text d = ap (λ l. codes "; { let mut r = & * x ; par ( r ) { print * r } ( r ) { print * r } } ; * x = ( * x + " ++ l) (sym (append_assoc (decimal d) (codes " ") (codes ") ")))

pub round_written : (o p q r : List ℕ) (d : ℕ) → p ≡ o ++ codes "; { let mut r = & * x ; par ( r ) { print * r } ( r ) { print * r } } ; * x = ( * x + " → q ≡ p ++ decimal d → r ≡ q ++ codes " ) "
    → r ≡ o ++ more_text (shared_round d)
round_written o p q r d a b c = then o _ _ p r a (then p _ _ q r b c) ∙ ap (λ l. o ++ l) (round_text d)

-- one round more
pub rounds_more : (o p q : List ℕ) (ts : List Term) (i : ℕ) → p ≡ o ++ more_text (times i ts) → q ≡ p ++ more_text ts → q ≡ o ++ more_text (times (i + 1) ts)
rounds_more o p q ts i a b =
    let next : suc i ≡ i + 1 = omega arith in
    then o _ _ p q a b ∙ ap (λ l. o ++ l) (sym (more_text-append (times i ts) ts) ∙ ap more_text (sym (times_more i ts) ∙ ap (λ n. times n ts) next))

sharing_text : (k d : ℕ) → codes "let mut x = box " ++ (decimal d ++ (codes " " ++ (more_text (times k (shared_round d)) ++ codes "; print * x "))) ≡ items_text (sharing k d)
sharing_text k d =
    ap (λ l. codes "let mut x = box " ++ l)
    (ap (λ l. decimal d ++ (codes " " ++ l)) (sym (more_text-append (times k (shared_round d)) (print_end 1 ∷ [])))
    ∙ sym (append_assoc (decimal d) (codes " ") (more_text (times k (shared_round d) ++ print_end 1 ∷ []))))

pub sharing_written : (o p q r s t : List ℕ) (i k d : ℕ) → i ≡ k → p ≡ o ++ codes "let mut x = box " → q ≡ p ++ decimal d → r ≡ q ++ codes " " → s ≡ r ++ more_text (times i (shared_round d)) → t ≡ s ++ codes "; print * x "
    → t ≡ o ++ items_text (sharing k d)
sharing_written o p q r s t i k d same a b c e f =
    then o _ _ p t a (then p _ _ q t b (then q _ _ r t c (then r _ _ s t (e ∙ ap (λ n. r ++ more_text (times n (shared_round d))) same) f))) ∙ ap (λ l. o ++ l) (sharing_text k d)

-- ---- handing on

handed_text : (i d : ℕ) → codes "; let mut h" ++ (decimal i ++ (codes " = spawn ( x ) { * * x = ( * * x + " ++ (decimal d ++ (codes " ) ; x } ; x = join h" ++ (decimal i ++ codes " "))))) ≡ more_text (handed i d)
handed_text i d =
    let last : List ℕ = (decimal i ++ codes " ") ++ [] in
    let second : List ℕ = (decimal d ++ codes " ") ++ (codes ") ; x } ; x = join h" ++ last) in
    ap (λ l. codes "; let mut h" ++ (decimal i ++ (codes " = spawn ( x ) { * * x = ( * * x + " ++ (decimal d ++ (codes " ) ; x } ; x = join h" ++ l))))) (sym (append-nil (decimal i ++ codes " ")))
    ∙ ap (λ l. codes "; let mut h" ++ (decimal i ++ (codes " = spawn ( x ) { * * x = ( * * x + " ++ l))) (sym (append_assoc (decimal d) (codes " ") (codes ") ; x } ; x = join h" ++ last)))
    ∙ ap (λ l. codes "; let mut h" ++ l) (sym (append_assoc (decimal i) (codes " ") (codes "= spawn ( x ) { * * x = ( * * x + " ++ second)))

pub handed_written : (o p q r s t u v : List ℕ) (i d : ℕ) → p ≡ o ++ codes "; let mut h" → q ≡ p ++ decimal i → r ≡ q ++ codes " = spawn ( x ) { * * x = ( * * x + " → s ≡ r ++ decimal d → t ≡ s ++ codes " ) ; x } ; x = join h"
    → u ≡ t ++ decimal i → v ≡ u ++ codes " " → v ≡ o ++ more_text (handed i d)
handed_written o p q r s t u v i d a b c e f g h =
    then o _ _ p v a (then p _ _ q v b (then q _ _ r v c (then r _ _ s v e (then s _ _ t v f (then t _ _ u v g h))))) ∙ ap (λ l. o ++ l) (handed_text i d)

-- one thread more
pub threads_more : (o p q : List ℕ) (i d : ℕ) → p ≡ o ++ more_text (handed_from 0 i d) → q ≡ p ++ more_text (handed i d) → q ≡ o ++ more_text (handed_from 0 (i + 1) d)
threads_more o p q i d a b =
    let next : suc i ≡ i + 1 = omega arith in
    then o _ _ p q a b
    ∙ ap (λ l. o ++ l) (sym (more_text-append (handed_from 0 i d) (handed i d))
    ∙ ap more_text (ap (λ n. handed_from 0 i d ++ handed n d) (sym (zero-add i)) ∙ sym (handed_more i 0 d) ∙ ap (λ n. handed_from 0 n d) next))

handing_text : (k d : ℕ) → codes "let mut x = box box " ++ (decimal d ++ (codes " " ++ (more_text (handed_from 0 k d) ++ codes "; print * * x "))) ≡ items_text (handing k d)
handing_text k d =
    ap (λ l. codes "let mut x = box box " ++ l)
    (ap (λ l. decimal d ++ (codes " " ++ l)) (sym (more_text-append (handed_from 0 k d) (print_end 2 ∷ [])))
    ∙ sym (append_assoc (decimal d) (codes " ") (more_text (handed_from 0 k d ++ print_end 2 ∷ []))))

pub handing_written : (o p q r s t : List ℕ) (i k d : ℕ) → i ≡ k → p ≡ o ++ codes "let mut x = box box " → q ≡ p ++ decimal d → r ≡ q ++ codes " " → s ≡ r ++ more_text (handed_from 0 i d) → t ≡ s ++ codes "; print * * x "
    → t ≡ o ++ items_text (handing k d)
handing_written o p q r s t i k d same a b c e f =
    then o _ _ p t a (then p _ _ q t b (then q _ _ r t c (then r _ _ s t (e ∙ ap (λ n. r ++ more_text (handed_from 0 n d)) same) f))) ∙ ap (λ l. o ++ l) (handing_text k d)

-- ---- the program

-- its items between braces
pub whole_written : (p q r : List ℕ) (ts : List Term) → p ≡ codes "{ " → q ≡ p ++ items_text ts → r ≡ q ++ codes "}\n" → r ≡ canonical (block ts)
whole_written p q r ts a b c = program_written (item_words (items ts)) (words (block ts)) p q r refl a b c

-- and a generated program's text
pub text_written : (n size : ℕ) (p q r : List ℕ) → p ≡ codes "{ " → q ≡ p ++ items_text (by_kind (n % 3) size (1 + n / 3 % 97)) → r ≡ q ++ codes "}\n" → r ≡ program_text n size
unfolding program_text
text_written n size p q r a b c = whole_written p q r (by_kind (n % 3) size (step_of n)) a b c
