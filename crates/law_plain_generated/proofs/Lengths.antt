-- The text of a generated program is within the limit of an input.
use Rattle.std.proofs.Common.{◌≡◌, ℕ, zero, suc, ◌+◌, ◌*◌, ◌/◌, ◌%◌, ◌==◌, ◌≤◌, ◌<◌, Bool, true, false, cond, List, [], ◌∷◌, ◌++◌, length, codes, decimal, refl, sym, ap, ◌∙◌, subst, arith}
use Rattle.std.proofs.lemmas.List.{length-append}
use Rattle.std.proofs.lemmas.Fmt.{length-decimal-le}
use Rattle.std.proofs.Math.Nat.{mod-lt}
use Rattle.fr_terms.specs.Terms.{Text, Term}
use Rattle.fr_parse.specs.Canonical.{canonical}
use Rattle.gen_load.specs.Pieces.{items_text, more_text, term_text}
use Rattle.gen_load.specs.Programs.{add_locked, block, by_kind, counting, handed, handed_from, handing, program_text, shared_round, sharing, step_of, times}
use Rattle.gen_load.proofs.Texts.{locked_written, first_locked, locked_more, counting_written, round_written, rounds_more, sharing_written, handed_written, threads_more, handing_written, whole_written}

grown : (a b t : List ℕ) → t ≡ a ++ b → length t ≡ length a + length b
grown a b t e = ap length e ∙ length-append a b

-- COUNTING

locked_by : (o p q r s t : List ℕ) (share : Text) (d : ℕ) → length share ≡ 1 → length (decimal d) ≤ 2 → p ≡ o ++ codes "lock " → q ≡ p ++ share → r ≡ q ++ codes " as c { c = ( c + " → s ≡ r ++ decimal d → t ≡ s ++ codes " ) } " → length (term_text (add_locked share d)) ≤ 31
locked_by o p q r s t share d one few a b c e f =
    omega (arith, one, few, grown o (term_text (add_locked share d)) t (locked_written o p q r s t share d a b c e f), grown o (codes "lock ") p a, grown p share q b, grown q (codes " as c { c = ( c + ") r c, grown r (decimal d) s e, grown s (codes " ) } ") t f)

locked_length : (share : Text) (d : ℕ) → length share ≡ 1 → length (decimal d) ≤ 2 → length (term_text (add_locked share d)) ≤ 31
locked_length share d one few = locked_by [] _ _ _ _ _ share d one few refl refl refl refl refl

one_more_lock : (o p q r : List ℕ) (t : Term) (k : ℕ) → length (term_text t) ≤ 31 → length p ≤ length o + 33 * suc k → p ≡ o ++ items_text (times (suc k) (t ∷ [])) → q ≡ p ++ codes "; " → r ≡ q ++ term_text t → length (items_text (times (suc k + 1) (t ∷ []))) ≤ 33 * (suc k + 1)
one_more_lock o p q r t k short so_far a b c =
    omega (arith, short, so_far, grown o (items_text (times (suc k + 1) (t ∷ []))) r (locked_more o p q r t (suc k) (omega arith) a b c), grown p (codes "; ") q b, grown q (term_text t) r c)

locks_length : (share : Text) (d : ℕ) → length share ≡ 1 → length (decimal d) ≤ 2 → (k : ℕ) → length (items_text (times (suc k) (add_locked share d ∷ []))) ≤ 33 * suc k
locks_length share d one few zero = omega (arith, ap length (first_locked share d), locked_length share d one few)
locks_length share d one few (suc k) =
    let next : suc k + 1 ≡ suc (suc k) = omega arith in
    subst (λ n. length (items_text (times n (add_locked share d ∷ []))) ≤ 33 * n) next
    (one_more_lock [] _ _ _ (add_locked share d) k (locked_length share d one few) (omega (arith, locks_length share d one few k)) refl refl refl)

counting_by : (o p q r s t : List ℕ) (k d : ℕ) → length (items_text (times k (add_locked (codes "a") d ∷ []))) ≤ 33 * k → length (items_text (times k (add_locked (codes "b") d ∷ []))) ≤ 33 * k
    → p ≡ o ++ codes "let mut m = mutex 0 ; let mut a = dup m ; let mut b = dup m ; let mut h = spawn ( a ) { " → q ≡ p ++ items_text (times k (add_locked (codes "a") d ∷ []))
    → r ≡ q ++ codes "} ; let mut g = spawn ( b ) { " → s ≡ r ++ items_text (times k (add_locked (codes "b") d ∷ [])) → t ≡ s ++ codes "} ; join h ; join g ; lock m as c { print c } "
    → length (items_text (counting k d)) ≤ 66 * k + 200
counting_by o p q r s t k d ours theirs a b c e f =
    omega (arith, ours, theirs, grown o (items_text (counting k d)) t (counting_written o p q r s t k d a b c e f), grown o (codes "let mut m = mutex 0 ; let mut a = dup m ; let mut b = dup m ; let mut h = spawn ( a ) { ") p a, grown p (items_text (times k (add_locked (codes "a") d ∷ []))) q b, grown q (codes "} ; let mut g = spawn ( b ) { ") r c, grown r (items_text (times k (add_locked (codes "b") d ∷ []))) s e, grown s (codes "} ; join h ; join g ; lock m as c { print c } ") t f)

counting_length : (k d : ℕ) → length (decimal d) ≤ 2 → length (items_text (counting (suc k) d)) ≤ 66 * suc k + 200
counting_length k d few = counting_by [] _ _ _ _ _ (suc k) d (locks_length (codes "a") d refl few k) (locks_length (codes "b") d refl few k) refl refl refl refl refl

-- SHARING

round_by : (o p q r : List ℕ) (d : ℕ) → length (decimal d) ≤ 2 → p ≡ o ++ codes "; { let mut r = & * x ; par ( r ) { print * r } ( r ) { print * r } } ; * x = ( * x + " → q ≡ p ++ decimal d → r ≡ q ++ codes " ) " → length (more_text (shared_round d)) ≤ 100
round_by o p q r d few a b c =
    omega (arith, few, grown o (more_text (shared_round d)) r (round_written o p q r d a b c), grown o (codes "; { let mut r = & * x ; par ( r ) { print * r } ( r ) { print * r } } ; * x = ( * x + ") p a, grown p (decimal d) q b, grown q (codes " ) ") r c)

rounds_by : (o p q : List ℕ) (d k : ℕ) → length (more_text (shared_round d)) ≤ 100 → length p ≤ length o + 100 * k → p ≡ o ++ more_text (times k (shared_round d)) → q ≡ p ++ more_text (shared_round d) → length (more_text (times (k + 1) (shared_round d))) ≤ 100 * (k + 1)
rounds_by o p q d k short so_far a b =
    omega (arith, short, so_far, grown o (more_text (times (k + 1) (shared_round d))) q (rounds_more o p q (shared_round d) k a b), grown p (more_text (shared_round d)) q b)

rounds_length : (d : ℕ) → length (decimal d) ≤ 2 → (k : ℕ) → length (more_text (times k (shared_round d))) ≤ 100 * k
rounds_length d few zero = omega arith
rounds_length d few (suc k) =
    let next : k + 1 ≡ suc k = omega arith in
    subst (λ n. length (more_text (times n (shared_round d))) ≤ 100 * n) next (rounds_by [] _ _ d k (round_by [] _ _ _ d few refl refl refl) (omega (arith, rounds_length d few k)) refl refl)

sharing_by : (o p q r s t : List ℕ) (k d : ℕ) → length (decimal d) ≤ 2 → length (more_text (times k (shared_round d))) ≤ 100 * k → p ≡ o ++ codes "let mut x = box " → q ≡ p ++ decimal d → r ≡ q ++ codes " " → s ≡ r ++ more_text (times k (shared_round d)) → t ≡ s ++ codes "; print * x "
    → length (items_text (sharing k d)) ≤ 100 * k + 40
sharing_by o p q r s t k d few all a b c e f =
    omega (arith, few, all, grown o (items_text (sharing k d)) t (sharing_written o p q r s t k k d refl a b c e f), grown o (codes "let mut x = box ") p a, grown p (decimal d) q b, grown q (codes " ") r c, grown r (more_text (times k (shared_round d))) s e, grown s (codes "; print * x ") t f)

sharing_length : (k d : ℕ) → length (decimal d) ≤ 2 → length (items_text (sharing k d)) ≤ 100 * k + 40
sharing_length k d few = sharing_by [] _ _ _ _ _ k d few (rounds_length d few k) refl refl refl refl refl

-- HANDING ON

handed_by : (o p q r s t u v : List ℕ) (i d : ℕ) → length (decimal d) ≤ 2 → length (decimal i) ≤ 4 → p ≡ o ++ codes "; let mut h" → q ≡ p ++ decimal i → r ≡ q ++ codes " = spawn ( x ) { * * x = ( * * x + " → s ≡ r ++ decimal d → t ≡ s ++ codes " ) ; x } ; x = join h"
    → u ≡ t ++ decimal i → v ≡ u ++ codes " " → length (more_text (handed i d)) ≤ 80
handed_by o p q r s t u v i d few short a b c e f g h =
    omega (arith, few, short, grown o (more_text (handed i d)) v (handed_written o p q r s t u v i d a b c e f g h), grown o (codes "; let mut h") p a, grown p (decimal i) q b, grown q (codes " = spawn ( x ) { * * x = ( * * x + ") r c, grown r (decimal d) s e, grown s (codes " ) ; x } ; x = join h") t f, grown t (decimal i) u g, grown u (codes " ") v h)

threads_by : (o p q : List ℕ) (i d : ℕ) → length (more_text (handed i d)) ≤ 80 → length p ≤ length o + 80 * i → p ≡ o ++ more_text (handed_from 0 i d) → q ≡ p ++ more_text (handed i d) → length (more_text (handed_from 0 (i + 1) d)) ≤ 80 * (i + 1)
threads_by o p q i d short so_far a b =
    omega (arith, short, so_far, grown o (more_text (handed_from 0 (i + 1) d)) q (threads_more o p q i d a b), grown p (more_text (handed i d)) q b)

threads_length : (d : ℕ) → length (decimal d) ≤ 2 → (k : ℕ) → k ≤ 4000 → length (more_text (handed_from 0 k d)) ≤ 80 * k
threads_length d few zero most = omega arith
threads_length d few (suc k) most =
    let next : k + 1 ≡ suc k = omega arith in
    let digits = length-decimal-le 4 k (omega arith) (omega (arith, most)) (omega (arith, most)) in
    subst (λ n. length (more_text (handed_from 0 n d)) ≤ 80 * n) next
    (threads_by [] _ _ k d (handed_by [] _ _ _ _ _ _ _ k d few digits refl refl refl refl refl refl refl) (omega (arith, threads_length d few k (omega (arith, most)))) refl refl)

handing_by : (o p q r s t : List ℕ) (k d : ℕ) → length (decimal d) ≤ 2 → length (more_text (handed_from 0 k d)) ≤ 80 * k → p ≡ o ++ codes "let mut x = box box " → q ≡ p ++ decimal d → r ≡ q ++ codes " " → s ≡ r ++ more_text (handed_from 0 k d) → t ≡ s ++ codes "; print * * x "
    → length (items_text (handing k d)) ≤ 80 * k + 40
handing_by o p q r s t k d few all a b c e f =
    omega (arith, few, all, grown o (items_text (handing k d)) t (handing_written o p q r s t k k d refl a b c e f), grown o (codes "let mut x = box box ") p a, grown p (decimal d) q b, grown q (codes " ") r c, grown r (more_text (handed_from 0 k d)) s e, grown s (codes "; print * * x ") t f)

handing_length : (k d : ℕ) → length (decimal d) ≤ 2 → k ≤ 4000 → length (items_text (handing k d)) ≤ 80 * k + 40
handing_length k d few most = handing_by [] _ _ _ _ _ k d few (threads_length d few k most) refl refl refl refl refl

-- THE PROGRAM

kind_length : (first second : Bool) (k d : ℕ) → length (decimal d) ≤ 2 → suc k ≤ 4000 → length (items_text (cond first (counting (suc k) d) (cond second (sharing (suc k) d) (handing (suc k) d)))) ≤ 500000
kind_length true second k d few most = omega (arith, counting_length k d few, most)
kind_length false true k d few most = omega (arith, sharing_length (suc k) d few, most)
kind_length false false k d few most = omega (arith, handing_length (suc k) d few most, most)

whole_by : (p q r : List ℕ) (ts : List Term) → length (items_text ts) ≤ 500000 → p ≡ codes "{ " → q ≡ p ++ items_text ts → r ≡ q ++ codes "}\n" → length (canonical (block ts)) ≤ 1048576
whole_by p q r ts short a b c = omega (arith, short, ap length (sym (whole_written p q r ts a b c)), ap length a, grown p (items_text ts) q b, grown q (codes "}\n") r c)

step_few : (n : ℕ) → length (decimal (step_of n)) ≤ 2
step_few n =
    let less : n / 3 % 97 < 97 = mod-lt (n / 3) (omega arith) in
    length-decimal-le 2 (step_of n) (omega arith) (omega (arith, less)) (omega (arith, less))

pub program_short : (n size : ℕ) → 1 ≤ size → size ≤ 4000 → length (program_text n size) ≤ 1048576
unfolding program_text
program_short n zero some most = absurd (omega (arith, some))
program_short n (suc k) some most = whole_by _ _ _ (by_kind (n % 3) (suc k) (step_of n)) (kind_length (n % 3 == 0) (n % 3 == 1) k (step_of n) (step_few n) most) refl refl refl
