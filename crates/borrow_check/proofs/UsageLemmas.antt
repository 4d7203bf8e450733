-- Usages that are written one after another, and what stands in the list in the end.
use Rattle.std.proofs.Common.{◌≡◌, ◌≢◌, ℕ, zero, suc, ◌<◌, false, List, [], ◌∷◌, ◌++◌, length, set, Option, Some, None, refl, sym, ap, ◌∙◌, subst, arith, length-append}
use Rattle.std.specs.Prelude.{◌==◌, slice_get}
use Rattle.std.specs.List.{list_any}
use Rattle.std.proofs.Math.ListN.{length-set}
use Rattle.std.proofs.lemmas.Bool.{or_parts}
use Rattle.std.proofs.lemmas.List.{set_comm}
use Rattle.std.proofs.lemmas.List.Folds.{list_any-append}
use Rattle.fr_syntax.specs.Meanings.{AllBelow, AreDifferent}
use Rattle.borrow_check.specs.declared.usage.Usage.{Usage}
use Rattle.borrow_check.specs.Usages.{AreUsed, write, written, AreWritten}
use Rattle.fr_typing.proofs.PlaceLemmas.{eq_cases}

pub length-write : (us : List Usage) (n : ℕ) (m : Option Usage) → length (write us n m) ≡ length us
length-write us n None = refl
length-write us n (Some u) = length-set us n u

pub length-written : (us : List Usage) (ns : List ℕ) (ms : List (Option Usage)) → length (written us ns ms) ≡ length us
length-written us [] ms = refl
length-written us (n ∷ ns) [] = refl
length-written us (n ∷ ns) (m ∷ ms) = length-written (write us n m) ns ms ∙ length-write us n m

written-append : (us : List Usage) (ns ks : List ℕ) (ms ls : List (Option Usage)) → length ns ≡ length ms → written us (ns ++ ks) (ms ++ ls) ≡ written (written us ns ms) ks ls
written-append us [] ks [] ls e = refl
written-append us [] ks (m ∷ ms) ls e = absurd (omega arith)
written-append us (n ∷ ns) ks [] ls e = absurd (omega arith)
written-append us (n ∷ ns) ks (m ∷ ms) ls e = written-append (write us n m) ns ks ms ls (omega arith)

pub below-append : (n : ℕ) (xs ys : List ℕ) → AllBelow n xs → AllBelow n ys → AllBelow n (xs ++ ys)
below-append n [] ys h g = g
below-append n (x ∷ xs) ys h g = (h.0, below-append n xs ys h.1 g)

-- the usages of no node
pub written_none : (us : List Usage) → AreWritten us us [] []
written_none us = record { same = refl; each = refl; within = tt }

-- of some nodes, and then of others
pub written_both : (a b c : List Usage) (ns ks : List ℕ) (ms ls : List (Option Usage)) → AreWritten a b ns ms → AreWritten b c ks ls → AreWritten a c (ns ++ ks) (ms ++ ls)
written_both a b c ns ks ms ls h g = record {
  same = g.same ∙ ap (λ us. written us ks ls) h.same ∙ sym (written-append a ns ks ms ls h.each);
  each = omega (arith, length-append ns ks, length-append ms ls, h.each, g.each);
  within =
      below-append (length a) ns ks h.within
      (subst (λ n. AllBelow n ks) (ap length h.same ∙ length-written a ns ms) g.within);
}

-- of a node that is no place
pub written_node : (a b : List Usage) (ns : List ℕ) (ms : List (Option Usage)) (n : ℕ) → AreWritten a b ns ms → n < length a → AreWritten a b (ns ++ n ∷ []) (ms ++ None ∷ [])
written_node a b ns ms n h lt =
    written_both a b b ns (n ∷ []) ms (None ∷ []) h
    (record { same = refl; each = refl; within = (subst (λ k. n < k) (sym (ap length h.same ∙ length-written a ns ms)) lt, tt) })

pub written_long : (a b : List Usage) (ns : List ℕ) (ms : List (Option Usage)) → AreWritten a b ns ms → length b ≡ length a
written_long a b ns ms h = ap length h.same ∙ length-written a ns ms

-- a number that doesn't stand in a list
abbrev pub IsOut : ℕ → List ℕ → Type 0
IsOut n ns = list_any (λ j. j == n) ns ≡ false

apart_head : (n k : ℕ) (ks : List ℕ) → IsOut n (k ∷ ks) → k ≢ n
apart_head n k ks out = eq_cases (λ b. b ≡ false → k ≢ n) k n (λ e absurd_test. cc) (λ ne test. ne) (or_parts (k == n) (list_any (λ j. j == n) ks) out).0

apart_tail : (n k : ℕ) (ks : List ℕ) → IsOut n (k ∷ ks) → IsOut n ks
apart_tail n k ks out = (or_parts (k == n) (list_any (λ j. j == n) ks) out).1

-- one more usage, at another node, may be written first or last
pub written-set : (us : List Usage) (n : ℕ) (u : Usage) (ns : List ℕ) (ms : List (Option Usage)) → IsOut n ns → written (set us n u) ns ms ≡ set (written us ns ms) n u
written-set us n u [] ms out = refl
written-set us n u (k ∷ ks) [] out = refl
written-set us n u (k ∷ ks) (None ∷ ms) out = written-set us n u ks ms (apart_tail n k ks out)
written-set us n u (k ∷ ks) (Some v ∷ ms) out =
    ap (λ l. written l ks ms) (set_comm us n k u v (λ e. apart_head n k ks out (sym e)))
    ∙ written-set (set us k v) n u ks ms (apart_tail n k ks out)

-- a place whose usage is written after those of nodes that stand behind it
pub written_first : (a b c : List Usage) (n : ℕ) (u : Usage) (ns : List ℕ) (ms : List (Option Usage)) → AreWritten a b ns ms → c ≡ set b n u → IsOut n ns → n < length a → AreWritten a c (n ∷ ns) (Some u ∷ ms)
written_first a b c n u ns ms h is out lt = record {
  same = is ∙ ap (λ l. set l n u) h.same ∙ sym (written-set a n u ns ms out);
  each = omega (arith, h.each);
  within = (lt, h.within);
}

pub different_front : (xs ys : List ℕ) → AreDifferent (xs ++ ys) → AreDifferent xs
different_front [] ys h = tt
different_front (x ∷ xs) ys h =
    ((or_parts (list_any (λ j. j == x) xs) (list_any (λ j. j == x) ys) (sym (list_any-append (λ j. j == x) xs ys) ∙ h.0)).0, different_front xs ys h.1)

pub different_back : (xs ys : List ℕ) → AreDifferent (xs ++ ys) → AreDifferent ys
different_back [] ys h = h
different_back (x ∷ xs) ys h = different_back xs ys h.1

get-set_other : (us : List Usage) (n k : ℕ) (v : Usage) → n ≢ k → slice_get (set us k v) n ≡ slice_get us n
get-set_other [] n k v ne = refl
get-set_other (x ∷ xs) zero zero v ne = absurd (ne refl)
get-set_other (x ∷ xs) zero (suc k) v ne = refl
get-set_other (x ∷ xs) (suc n) zero v ne = refl
get-set_other (x ∷ xs) (suc n) (suc k) v ne = get-set_other xs n k v (λ e. ne (ap suc e))

get-set_same : (us : List Usage) (n : ℕ) (u : Usage) → n < length us → slice_get (set us n u) n ≡ Some u
get-set_same [] n u lt = absurd (omega arith)
get-set_same (x ∷ xs) zero u lt = refl
get-set_same (x ∷ xs) (suc n) u lt = get-set_same xs n u (omega arith)

-- what is written elsewhere changes nothing here
get-written : (us : List Usage) (n : ℕ) (ns : List ℕ) (ms : List (Option Usage)) → IsOut n ns → slice_get (written us ns ms) n ≡ slice_get us n
get-written us n [] ms out = refl
get-written us n (k ∷ ks) [] out = refl
get-written us n (k ∷ ks) (None ∷ ms) out = get-written us n ks ms (apart_tail n k ks out)
get-written us n (k ∷ ks) (Some v ∷ ms) out =
    get-written (set us k v) n ks ms (apart_tail n k ks out) ∙ get-set_other us n k v (λ e. apart_head n k ks out (sym e))

-- each usage that was written stands at its node
pub used_of_written : (us : List Usage) (ns : List ℕ) (ms : List (Option Usage)) → AreDifferent ns → length ns ≡ length ms → AllBelow (length us) ns → AreUsed (written us ns ms) ns ms
used_of_written us [] [] d e b = tt
used_of_written us [] (m ∷ ms) d e b = absurd (omega arith)
used_of_written us (n ∷ ns) [] d e b = absurd (omega arith)
used_of_written us (n ∷ ns) (None ∷ ms) d e b = (tt, used_of_written us ns ms d.1 (omega arith) b.1)
used_of_written us (n ∷ ns) (Some u ∷ ms) d e b = (
  get-written (set us n u) n ns ms d.0 ∙ get-set_same us n u b.0,
  used_of_written (set us n u) ns ms d.1 (omega arith) (subst (λ k. AllBelow k ns) (sym (length-set us n u)) b.1),
)
