-- First words that were left are no words of today exactly where nothing is counted.
use Rattle.std.proofs.Common.{◌≡◌, ℕ, Bool, true, false, not, List, refl, sym, subst, ◌∙◌, arith}
use Rattle.std.specs.Prelude.{◌≢◌, ◌==◌}
use Rattle.server_model.specs.Below.mut_borrow.declared.mutable.MutRef.{MutRef}
use Rattle.server_model.specs.Servers.{Cluster}
use Rattle.coherent_memory.specs.Names.{tot, one, if_so, same_object, Among}
use Rattle.coherent_memory.specs.Stale.{Reference, references}
use Rattle.coherent_memory.specs.Sight.{Pointer, sight}
use Rattle.coherent_memory.specs.Placing.{has_first, first_again, first_again_wrong}
use Rattle.coherent_memory.specs.Words.{all_pointers}
use Rattle.coherent_memory.specs.Dirty.{PastWords, PastLaw}
use Rattle.coherent_memory.proofs.Names.{one_not, same_number}
use Rattle.coherent_memory.proofs.Words.{none_at, none_all, told, not_told, named, itself, fresh_in, fresh_from, equal_numbers}

so_none : (p : Bool) (n : ℕ) → if_so p n ≡ 0 → p ≡ true → n ≡ 0
so_none true n z e = z
so_none false n z e = absurd (cc e)

if_true : (p : Bool) (n : ℕ) → (p ≡ true → n ≡ 0) → if_so p n ≡ 0
if_true true n f = f refl
if_true false n f = refl

other_numbers : (m n : ℕ) → m ≢ n → not (m == n) ≡ true
other_numbers m n d = by (m == n) refl
  where
    by : (b : Bool) → (m == n) ≡ b → not b ≡ true
    by true e = absurd (d (same_number m n e))
    by false e = refl

differ : (m n : ℕ) → not (m == n) ≡ true → m ≢ n
differ m n e s = let t : true ≡ false = sym (equal_numbers m n s) ∙ by (m == n) e in absurd (cc t)
  where
    by : (b : Bool) → not b ≡ true → b ≡ false
    by true x = absurd (cc x)
    by false x = refl

none_has : (r : MutRef) (p : Pointer) → has_first r p ≡ 0 → p.object ≡ r.object → p.word ≢ r.first
none_has r p z e s = by (so_none (same_object p.object r.object) (one (p.word == r.first)) z (itself p.object r.object e)) (equal_numbers p.word r.first s)
  where
    by : one (p.word == r.first) ≡ 0 → (p.word == r.first) ≡ true → ⊥
    by x y = let q : one true ≡ 0 = subst (λ b. one b ≡ 0) y x in absurd (omega (arith, q))

from_count : (k : Cluster) → first_again_wrong (sight k) ≡ 0 → PastWords (sight k)
from_count k y r m d p i f e =
    none_has r.reference p
    (none_at (has_first r.reference) p (sight k).pointers
    (so_none (not (r.reference.word == r.reference.first)) (tot (has_first r.reference) (sight k).pointers) (none_at (first_again (sight k).pointers) r rs y m) (other_numbers r.reference.word r.reference.first d))
    (fresh_in (sight k).stale p (all_pointers (sight k)) (not_told k p.at f) i)) e
  where
    rs : List Reference
    rs = references (sight k).ground (sight k).things

none_counted : (k : Cluster) → PastWords (sight k) → first_again_wrong (sight k) ≡ 0
none_counted k past = none_all (first_again (sight k).pointers) rs first
  where
    rs : List Reference
    rs = references (sight k).ground (sight k).things

    first : (r : Reference) → Among r rs → first_again (sight k).pointers r ≡ 0
    first r m = if_true (not (r.reference.word == r.reference.first)) (tot (has_first r.reference) (sight k).pointers) (λ e. none_all (has_first r.reference) (sight k).pointers (has e))
      where
        has : not (r.reference.word == r.reference.first) ≡ true → (p : Pointer) → Among p (sight k).pointers → has_first r.reference p ≡ 0
        has e p i =
            let y = fresh_from (sight k).stale p (all_pointers (sight k)) i in
            if_true (same_object p.object r.reference.object) (one (p.word == r.reference.first)) (λ s. one_not (p.word == r.reference.first) (λ t.
            past r m (differ r.reference.word r.reference.first e) p y.among (λ st. let q : true ≡ false = sym (told k p.at st) ∙ y.fresh in absurd (cc q)) (named p.object r.reference.object s) (same_number p.word r.reference.first t)))

pub past_law : PastLaw
past_law = record { from_count = from_count; none_counted = none_counted }
