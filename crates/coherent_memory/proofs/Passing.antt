-- Paths are what `locate` computes, and what a write has passed is what is counted.
use Rattle.std.proofs.Common.{◌≡◌, inl, inr, ℕ, zero, suc, ◌+◌, ◌<◌, ◌≤◌, Bool, true, false, ◌&&◌, List, [], ◌∷◌, ◌++◌, length, Option, Some, None, refl, sym, ap, subst, ◌∙◌, arith}
use Rattle.std.specs.Prelude.{◌==◌, slice_get}
use Rattle.std.proofs.lemmas.Bool.Decides.{nat_tests}
use Rattle.std.proofs.lemmas.List.{length-reverse}
use Rattle.std.proofs.lemmas.Grind.{reverse_onto}
use Rattle.server_model.specs.Below.fr_base.declared.name.ObjNo.{ObjNo}
use Rattle.server_model.specs.Below.fr_base.declared.place.Lval.{Lval}
use Rattle.server_model.specs.Below.heap_partition.declared.value.Owned.TheVariants as owned
use Rattle.server_model.specs.Below.heap_partition.declared.value.Cell.{Cell}
use Rattle.server_model.specs.Below.thread_state.declared.value.Value.{Value}
use Rattle.server_model.specs.Below.thread_state.declared.value.Value.TheVariants as value
use Rattle.server_model.specs.Servers.{Cluster}
use Rattle.coherent_memory.specs.Names.{tot, one, other, some, same_object, Among}
use Rattle.coherent_memory.specs.Things.{Location, at_slot, Thing, lies}
use Rattle.coherent_memory.specs.Follow.{Standing, Ground, value_in, value_behind, leads, locate, hop_at, hops_from, hops}
use Rattle.coherent_memory.specs.Sight.{Sight, is_stale, sight}
use Rattle.coherent_memory.specs.Weights.{lies_at}
use Rattle.coherent_memory.specs.Paths.{written_place}
use Rattle.coherent_memory.specs.Walking.{path, over_hops, over_place, over_passed, away, passed_wrong, copied_box, passed_boxes_wrong, stale_hop, passed_stale_wrong}
use Rattle.coherent_memory.specs.Words.{IsStale}
use Rattle.coherent_memory.specs.Passing.{PathTo, at_its_slot, by_star, HopOf, PathsLaw, LiesAt, MayPass, over_box, over_reference, to_slot, to_lent_slot, IsPassed, HavePassed, PassedLaw}
use Rattle.coherent_memory.proofs.Names.{and_left, and_right, same_number}
use Rattle.coherent_memory.proofs.Words.{none_at, none_all, tells, told, named, itself}

-- WHERE PATHS LEAD

star_from : (g : Ground) (t slot n : ℕ) (m : Location) (o : Option Location) → locate g t slot n ≡ o → ((l : Location) → locate g t slot n ≡ Some l → PathTo g t slot n l) → leads t (value_behind g o) ≡ Some m → PathTo g t slot (suc n) m
star_from g t slot n m None e go h = absurd (cc h)
star_from g t slot n m (Some l) e go h = by (value_in g l) refl h
  where
    by : (v : Option Value) → value_in g l ≡ v → leads t v ≡ Some m → PathTo g t slot (suc n) m
    by None q f = absurd (cc f)
    by (Some v) q f = by_star v (go l e) q f

pub located : (g : Ground) (t slot n : ℕ) (l : Location) → locate g t slot n ≡ Some l → PathTo g t slot n l
located g t slot zero l e = let s : at_slot t slot ≡ l = cc e in subst (λ m. PathTo g t slot 0 m) s at_its_slot
located g t slot (suc n) l e = star_from g t slot n l (locate g t slot n) refl (located g t slot n) e

locates : (g : Ground) (t slot n : ℕ) (l : Location) → PathTo g t slot n l → locate g t slot n ≡ Some l
locates g t slot _ _ at_its_slot = refl
locates g t slot _ _ (by_star {n = n} {l = l} {m = m} v p e h) =
    let at : locate g t slot n ≡ Some l = locates g t slot n l p in
    let here : value_behind g (locate g t slot n) ≡ Some v = subst (λ o. value_behind g o ≡ Some v) (sym at) e in
    subst (λ o. leads t o ≡ Some m) (sym here) h

some_same : {A : Type 0} {a b : A} → Some a ≡ Some b → a ≡ b
some_same e = cc

one_location : (g : Ground) (t slot n : ℕ) (l m : Location) → PathTo g t slot n l → PathTo g t slot n m → l ≡ m
one_location g t slot n l m p q = some_same (sym (locates g t slot n l p) ∙ locates g t slot n m q)

-- HOPS IN ORDER

got_before : {A : Type 0} (xs ys : List A) (i : ℕ) → i < length xs → slice_get (xs ++ ys) i ≡ slice_get xs i
got_before [] ys i l = absurd (omega (arith, l))
got_before (x ∷ xs) ys zero l = refl
got_before (x ∷ xs) ys (suc i) l = got_before xs ys i (omega (arith, l))

got_last : {A : Type 0} (xs : List A) (x : A) → slice_get (xs ++ x ∷ []) (length xs) ≡ Some x
got_last [] x = refl
got_last (y ∷ xs) x = got_last xs x

hops_length : (g : Ground) (t : ℕ) (w : Lval) (n : ℕ) → length (hops_from g t w n) ≡ n
hops_length g t w zero = refl
hops_length g t w (suc n) = ap suc (hops_length g t w n)

pub one_more : (g : Ground) (t : ℕ) (w : Lval) (n : ℕ) → hops g t w (suc n) ≡ hops g t w n ++ hop_at g t w n ∷ []
one_more g t w n = reverse_onto (hops_from g t w n) (hop_at g t w n) []

hop_by : (g : Ground) (t : ℕ) (w : Lval) (n i : ℕ) (q : Bool) → (i == n) ≡ q → i < suc n → (i < n → slice_get (hops g t w n) i ≡ Some (hop_at g t w i)) → slice_get (hops g t w n ++ hop_at g t w n ∷ []) i ≡ Some (hop_at g t w i)
hop_by g t w n i true e l go =
    let same : i ≡ n = same_number i n e in
    let size : length (hops g t w n) ≡ n = length-reverse (hops_from g t w n) ∙ hops_length g t w n in
    subst (λ m. slice_get (hops g t w n ++ hop_at g t w n ∷ []) m ≡ Some (hop_at g t w m)) (sym same)
    (subst (λ m. slice_get (hops g t w n ++ hop_at g t w n ∷ []) m ≡ Some (hop_at g t w n)) size (got_last (hops g t w n) (hop_at g t w n)))
hop_by g t w n i false e l go =
    let low : i < n = grind (arith, nat_tests, e, l) in
    let size : length (hops g t w n) ≡ n = length-reverse (hops_from g t w n) ∙ hops_length g t w n in
    got_before (hops g t w n) (hop_at g t w n ∷ []) i (omega (arith, low, size)) ∙ go low

pub hop_got : (g : Ground) (t : ℕ) (w : Lval) (n i : ℕ) → i < n → slice_get (hops g t w n) i ≡ Some (hop_at g t w i)
hop_got g t w zero i l = absurd (omega (arith, l))
hop_got g t w (suc n) i l = ap (λ hs. slice_get hs i) (one_more g t w n) ∙ hop_by g t w n i (i == n) refl l (hop_got g t w n i)

-- the value at a location that is found
pub at_hop : (g : Ground) (t slot i : ℕ) (l : Location) (v : Value) → HopOf g t slot i l v → value_behind g (locate g t slot i) ≡ Some v
at_hop g t slot i l v h = ap (value_behind g) (locates g t slot i l h.path) ∙ h.stands

followed : (g : Ground) (t : ℕ) (w : Lval) (n i : ℕ) (l : Location) (v : Value) → i < n → HopOf g t w.slot i l v → slice_get (hops g t w n) i ≡ Some (Some v)
followed g t w n i l v b h = hop_got g t w n i b ∙ ap (λ o. Some o) (at_hop g t w.slot i l v h)

pub paths_law : PathsLaw
paths_law = record { located = located; locates = locates; one = one_location; followed = followed }

-- SUMS OVER HOPS

hops_none : (g : Ground) (t slot : ℕ) (f : Option Location → Option Value → ℕ) (n : ℕ) → ((i : ℕ) → i < n → f (locate g t slot i) (value_behind g (locate g t slot i)) ≡ 0) → over_hops g t slot f n ≡ 0
hops_none g t slot f zero z = refl
hops_none g t slot f (suc n) z = omega (arith, z n (omega arith), hops_none g t slot f n (λ i l. z i (omega (arith, l))))

hop_none_by : (g : Ground) (t slot : ℕ) (f : Option Location → Option Value → ℕ) (n i : ℕ) (q : Bool) → (i == n) ≡ q → i < suc n → f (locate g t slot n) (value_behind g (locate g t slot n)) ≡ 0
    → (i < n → f (locate g t slot i) (value_behind g (locate g t slot i)) ≡ 0) → f (locate g t slot i) (value_behind g (locate g t slot i)) ≡ 0
hop_none_by g t slot f n i true e l z go = let same : n ≡ i = sym (same_number i n e) in subst (λ m. f (locate g t slot m) (value_behind g (locate g t slot m)) ≡ 0) same z
hop_none_by g t slot f n i false e l z go = go (grind (arith, nat_tests, e, l))

hop_none : (g : Ground) (t slot : ℕ) (f : Option Location → Option Value → ℕ) (n i : ℕ) → over_hops g t slot f n ≡ 0 → i < n → f (locate g t slot i) (value_behind g (locate g t slot i)) ≡ 0
hop_none g t slot f zero i z l = absurd (omega (arith, l))
hop_none g t slot f (suc n) i z l = hop_none_by g t slot f n i (i == n) refl l (omega (arith, z)) (hop_none g t slot f n i (omega (arith, z)))

-- OBJECTS THAT LIE AT A SERVER

lies_later : (r : ℕ) (o : ObjNo) (x : Thing) (b : List Thing) → LiesAt b r o → LiesAt (x ∷ b) r o
lies_later r o x b l = record { address = l.address; cell = l.cell; among = inr l.among; object = l.object }

lies_by : (r q a : ℕ) (o : ObjNo) (c : Cell) (b : List Thing) (h : Bool) → (q == r && same_object c.object o) ≡ h → (1 ≤ tot (lies_at r o) b → LiesAt b r o) → 1 ≤ one h + tot (lies_at r o) b → LiesAt (lies q a c ∷ b) r o
lies_by r q a o c b true e go l =
    let at : q ≡ r = same_number q r (and_left (q == r) (same_object c.object o) e) in
    record { address = a; cell = c; among = inl (ap (λ s. lies s a c) at); object = named c.object o (and_right (q == r) (same_object c.object o) e) }
lies_by r q a o c b false e go l = lies_later r o (lies q a c) b (go (omega (arith, l)))

lies_found : (r : ℕ) (o : ObjNo) (b : List Thing) → 1 ≤ tot (lies_at r o) b → LiesAt b r o
lies_found r o [] l = absurd (omega (arith, l))
lies_found r o (lies q a c ∷ b) l = lies_by r q a o c b (q == r && same_object c.object o) refl (lies_found r o b) l
lies_found r o (x ∷ b) l = lies_later r o x b (lies_found r o b (omega (arith, l)))

lies_weighs : (r a : ℕ) (o : ObjNo) (c : Cell) → c.object ≡ o → 1 ≤ one (r == r && same_object c.object o)
lies_weighs r a o c e =
    let t : (r == r) ≡ true = grind (arith, nat_tests) in
    let u : same_object c.object o ≡ true = itself c.object o e in
    rw t (rw u (omega arith))

lies_counted : (r : ℕ) (o : ObjNo) (a : ℕ) (c : Cell) (b : List Thing) → c.object ≡ o → Among (lies r a c) b → 1 ≤ tot (lies_at r o) b
lies_counted r o a c [] e h = absurd h
lies_counted r o a c (x ∷ b) e (inl s) = let here : 1 ≤ lies_at r o x = subst (λ y. 1 ≤ lies_at r o y) (sym s) (lies_weighs r a o c e) in omega (arith, here)
lies_counted r o a c (x ∷ b) e (inr h) = omega (arith, lies_counted r o a c b e h)

some_there : (n : ℕ) → other (some n) ≡ 0 → 1 ≤ n
some_there zero z = absurd (cc z)
some_there (suc n) z = omega arith

none_away : (n : ℕ) → 1 ≤ n → other (some n) ≡ 0
none_away zero l = absurd (omega (arith, l))
none_away (suc n) l = refl

-- FROM THE COUNTS

not_stale : (k : Cluster) (l : Location) → one (is_stale (sight k).stale (Some l)) ≡ 0 → IsStale (sight k) (Some l) → ⊥
not_stale k l z s = let e : is_stale (sight k).stale (Some l) ≡ true = told k (Some l) s in let w : one (is_stale (sight k).stale (Some l)) ≡ 1 = rw e refl in omega (arith, z, w)

passes_by : (k : Cluster) (r : ℕ) (l : Location) (v : Value) → away (sight k) r (Some l) (Some v) ≡ 0 → copied_box (sight k) r (Some l) (Some v) ≡ 0 → stale_hop (sight k) r (Some l) (Some v) ≡ 0 → MayPass (sight k) r l v
passes_by k r l (value.Own (owned.Box p)) a b c = over_box p (lies_found r p.object (sight k).things (some_there (tot (lies_at r p.object) (sight k).things) a)) b (not_stale k l c)
passes_by k r l (value.Mut q) a b c = over_reference q (lies_found r q.object (sight k).things (some_there (tot (lies_at r q.object) (sight k).things) a)) (not_stale k l c)
passes_by k r l (value.SharedSlot i) a b c = to_slot i
passes_by k r l (value.MutSlot i) a b c = to_lent_slot i
passes_by k r l _ a b c = absurd (cc a)

value_passed : (k : Cluster) (x : Standing) (w : Lval) (i : ℕ) (l : Location) (v : Option Value) → locate (sight k).ground x.thread.number w.slot i ≡ Some l → value_in (sight k).ground l ≡ v
    → away (sight k) x.server (Some l) v ≡ 0 → copied_box (sight k) x.server (Some l) v ≡ 0 → stale_hop (sight k) x.server (Some l) v ≡ 0 → IsPassed (sight k) x w i
value_passed k x w i l None at e a b c = absurd (cc a)
value_passed k x w i l (Some v) at e a b c =
    record { location = l; value = v; hop = record { path = located (sight k).ground x.thread.number w.slot i l at; stands = e }; passes = passes_by k x.server l v a b c }

hop_passed : (k : Cluster) (x : Standing) (w : Lval) (i : ℕ) (o : Option Location) → locate (sight k).ground x.thread.number w.slot i ≡ o → away (sight k) x.server o (value_behind (sight k).ground o) ≡ 0
    → copied_box (sight k) x.server o (value_behind (sight k).ground o) ≡ 0 → stale_hop (sight k) x.server o (value_behind (sight k).ground o) ≡ 0 → IsPassed (sight k) x w i
hop_passed k x w i None at a b c = absurd (cc a)
hop_passed k x w i (Some l) at a b c = value_passed k x w i l (value_in (sight k).ground l) at refl a b c

passed_at : (s : Sight) (f : ℕ → Option Location → Option Value → ℕ) (x : Standing) (w : Lval) (i : ℕ) → tot (over_passed s f) s.ground.threads ≡ 0 → Among x s.ground.threads → written_place (path s x) ≡ Some w → i < x.thread.passed
    → f x.server (locate s.ground x.thread.number w.slot i) (value_behind s.ground (locate s.ground x.thread.number w.slot i)) ≡ 0
passed_at s f x w i z m e l =
    let here : over_passed s f x ≡ 0 = none_at (over_passed s f) x s.ground.threads z m in
    let there : over_hops s.ground x.thread.number w.slot (f x.server) x.thread.passed ≡ 0 = subst (λ o. over_place s.ground x.thread.number x.thread.passed (f x.server) o ≡ 0) e here in
    hop_none s.ground x.thread.number w.slot (f x.server) x.thread.passed i there l

from_counts : (k : Cluster) → passed_wrong (sight k) ≡ 0 → passed_boxes_wrong (sight k) ≡ 0 → passed_stale_wrong (sight k) ≡ 0 → HavePassed (sight k)
from_counts k a b c x w i m e l =
    hop_passed k x w i (locate (sight k).ground x.thread.number w.slot i) refl (passed_at (sight k) (away (sight k)) x w i a m e l) (passed_at (sight k) (copied_box (sight k)) x w i b m e l)
    (passed_at (sight k) (stale_hop (sight k)) x w i c m e l)

-- FROM WHAT IS PASSED

not_away : (k : Cluster) (r : ℕ) (l : Location) (v : Value) → MayPass (sight k) r l v → away (sight k) r (Some l) (Some v) ≡ 0
not_away k r l _ (over_box p a n f) = none_away (tot (lies_at r p.object) (sight k).things) (lies_counted r p.object a.address a.cell (sight k).things a.object a.among)
not_away k r l _ (over_reference q a n) = none_away (tot (lies_at r q.object) (sight k).things) (lies_counted r q.object a.address a.cell (sight k).things a.object a.among)
not_away k r l _ (to_slot i) = refl
not_away k r l _ (to_lent_slot i) = refl

not_copied : (k : Cluster) (r : ℕ) (l : Location) (v : Value) → MayPass (sight k) r l v → copied_box (sight k) r (Some l) (Some v) ≡ 0
not_copied k r l _ (over_box p a n f) = n
not_copied k r l _ (over_reference q a n) = refl
not_copied k r l _ (to_slot i) = refl
not_copied k r l _ (to_lent_slot i) = refl

no_stale : (k : Cluster) (l : Location) → (IsStale (sight k) (Some l) → ⊥) → one (is_stale (sight k).stale (Some l)) ≡ 0
no_stale k l n = by (is_stale (sight k).stale (Some l)) refl
  where
    by : (b : Bool) → is_stale (sight k).stale (Some l) ≡ b → one b ≡ 0
    by true e = absurd (n (tells k (Some l) e))
    by false e = refl

not_stale_hop : (k : Cluster) (r : ℕ) (l : Location) (v : Value) → MayPass (sight k) r l v → stale_hop (sight k) r (Some l) (Some v) ≡ 0
not_stale_hop k r l _ (over_box p a n f) = no_stale k l f
not_stale_hop k r l _ (over_reference q a n) = no_stale k l n
not_stale_hop k r l _ (to_slot i) = refl
not_stale_hop k r l _ (to_lent_slot i) = refl

-- a weight that is nothing where a write may pass
abbrev Weightless : Cluster → (ℕ → Option Location → Option Value → ℕ) → Type 0
Weightless k f = (r : ℕ) (l : Location) (v : Value) → MayPass (sight k) r l v → f r (Some l) (Some v) ≡ 0

passed_none : (k : Cluster) (f : ℕ → Option Location → Option Value → ℕ) → Weightless k f → (x : Standing) (w : Lval) (i : ℕ) → IsPassed (sight k) x w i
    → f x.server (locate (sight k).ground x.thread.number w.slot i) (value_behind (sight k).ground (locate (sight k).ground x.thread.number w.slot i)) ≡ 0
passed_none k f z x w i p =
    let g = (sight k).ground in
    let at : locate g x.thread.number w.slot i ≡ Some p.location = locates g x.thread.number w.slot i p.location p.hop.path in
    subst (λ o. f x.server o (value_behind g o) ≡ 0) (sym at) (subst (λ o. f x.server (Some p.location) o ≡ 0) (sym p.hop.stands) (z x.server p.location p.value p.passes))

thread_none : (k : Cluster) (f : ℕ → Option Location → Option Value → ℕ) → Weightless k f → HavePassed (sight k) → (x : Standing) → Among x (sight k).ground.threads → (o : Option Lval) → written_place (path (sight k) x) ≡ o
    → over_place (sight k).ground x.thread.number x.thread.passed (f x.server) o ≡ 0
thread_none k f z h x m None e = refl
thread_none k f z h x m (Some w) e = hops_none (sight k).ground x.thread.number w.slot (f x.server) x.thread.passed (λ i l. passed_none k f z x w i (h x w i m e l))

threads_none : (k : Cluster) (f : ℕ → Option Location → Option Value → ℕ) → Weightless k f → HavePassed (sight k) → tot (over_passed (sight k) f) (sight k).ground.threads ≡ 0
threads_none k f z h = none_all (over_passed (sight k) f) (sight k).ground.threads (λ x m. thread_none k f z h x m (written_place (path (sight k) x)) refl)

none_counted : (k : Cluster) → HavePassed (sight k) → passed_wrong (sight k) + passed_boxes_wrong (sight k) + passed_stale_wrong (sight k) ≡ 0
none_counted k h =
    omega (arith, threads_none k (away (sight k)) (not_away k) h, threads_none k (copied_box (sight k)) (not_copied k) h, threads_none k (stale_hop (sight k)) (not_stale_hop k) h)

pub passed_law : PassedLaw
passed_law = record { from_counts = from_counts; none_counted = none_counted }
