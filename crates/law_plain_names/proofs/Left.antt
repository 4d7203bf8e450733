-- States in which nothing is left: under other names, name by name, and in two machines that step alike.
use Rattle.std.proofs.Common.{◌≡◌, ℕ, zero, suc, ◌==◌, ◌&&◌, Bool, true, false, List, [], ◌∷◌, map, Option, Some, None, refl, ap, ◌∙◌, arith}
use Rattle.std.specs.Prelude.{is_none, slice_get, if◌then◌else◌}
use Rattle.std.specs.Option.{option_map}
use Rattle.std.proofs.lemmas.Bool.{eqb-true}
use Rattle.fr_base.specs.Names.{same_mutex}
use Rattle.fr_base.specs.declared.name.MutexNo.{MutexNo}
use Rattle.fr_base.specs.declared.name.ObjNo.{ObjNo}
use Rattle.fr_base.specs.declared.label.Plain.{Plain}
use Rattle.fr_plain.specs.Heap.{Heap, made_by, flat, cell_at, count_cells, live}
use Rattle.fr_plain.specs.MachineThreads.{Life, alive, over, owing, loose, ended, Thread, Shared, Mutex, Whole, mutex_at, mutex_there, thread_at}
use Rattle.fr_plain.specs.PlainState.{running, running_in, plain_state}
use Rattle.law_plain_names.specs.Renamed.{Renaming, IsOneToOne, mutex, life, whole}
use Rattle.law_plain_names.specs.Explored.{all_gone, is_past, all_past, is_bare, PastIn, IsEmpty}
use Rattle.law_plain_names.proofs.Heaps.{live_renamed}
use Rattle.law_plain_names.proofs.Threads.{those}

pub three_true : (a b c : Bool) → (a && b && c) ≡ true → (a ≡ true) × (b ≡ true) × (c ≡ true)
three_true true true true e = (refl, refl, refl)
three_true true true false e = absurd cc
three_true true false c e = absurd cc
three_true false b c e = absurd cc

both_true : (a b : Bool) → (a && b) ≡ true → (a ≡ true) × (b ≡ true)
both_true true true e = (refl, refl)
both_true true false e = absurd cc
both_true false b e = absurd cc

-- NAME BY NAME

no_cells : (cs : List (Option Plain)) (i : ℕ) → count_cells cs ≡ 0 → flat (slice_get cs i) ≡ None
no_cells [] i e = refl
no_cells (None ∷ cs) zero e = refl
no_cells (None ∷ cs) (suc i) e = no_cells cs i e
no_cells (Some v ∷ cs) i e = absurd (omega (arith, e))

no_objects : (h : Heap) (o : ObjNo) → live h ≡ 0 → cell_at h o ≡ None
no_objects [] o e = refl
no_objects (m ∷ ms) o e = by (m.thread == o.thread) (no_objects ms o (omega (arith, e)))
  where
    by : (b : Bool) → cell_at ms o ≡ None → flat (slice_get (if b then m.cells else made_by ms o.thread) o.count) ≡ None
    by true f = no_cells m.cells o.count (omega (arith, e))
    by false f = f

abbrev there_of : Option Mutex → Option Shared
there_of None = None
there_of (Some x) = x.there

none_is : {A : Type 0} (x : Option A) → is_none x ≡ true → x ≡ None
none_is None e = refl
none_is (Some x) e = absurd cc

no_mutexes : (xs : List Mutex) (m : MutexNo) → all_gone xs ≡ true → mutex_there xs m ≡ None
no_mutexes [] m e = refl
no_mutexes (x ∷ xs) m e = let p = both_true (is_none x.there) (all_gone xs) e in by (same_mutex x.number m) (none_is x.there p.0) (no_mutexes xs m p.1)
  where
    by : (b : Bool) → x.there ≡ None → mutex_there xs m ≡ None → there_of (if b then Some x else mutex_at xs m) ≡ None
    by true f g = f
    by false f g = g

module _ {P : Type 0} where
  past_is : (l : Life P) → is_past l ≡ true → l ≡ over
  past_is over e = refl
  past_is (alive p) e = absurd cc
  past_is (owing p) e = absurd cc
  past_is (loose p) e = absurd cc
  past_is (ended v) e = absurd cc

  no_work : (xs : List (Thread P)) (t : ℕ) → all_past xs ≡ true → PastIn (running_in (thread_at xs t))
  no_work [] t e = tt
  no_work (x ∷ xs) t e = let p = both_true (is_past x.life) (all_past xs) e in by (x.number == t) (past_is x.life p.0) (no_work xs t p.1)
    where
      by : (b : Bool) → x.life ≡ over → PastIn (running_in (thread_at xs t)) → PastIn (running_in (if b then Some x else thread_at xs t))
      by true f g = ap (running x.slots) f
      by false f g = g

  pub bare_is_empty : (s : Whole P) → is_bare s ≡ true → IsEmpty (plain_state s)
  bare_is_empty s e =
      let p = three_true (all_past s.threads) (all_gone s.mutexes) (live s.heap == 0) e in
      let none : live s.heap ≡ 0 = eqb-true (live s.heap) 0 p.2 in record { threads = λ t. no_work s.threads t p.0; objects = λ o. no_objects s.heap o none; mutexes = λ m. no_mutexes s.mutexes m p.1 }

-- UNDER OTHER NAMES

module _ (n : Renaming) (once : IsOneToOne n) where
  none_renamed : {A B : Type 0} (f : A → B) (x : Option A) → is_none (option_map f x) ≡ is_none x
  none_renamed f None = refl
  none_renamed f (Some x) = refl

  gone_renamed : (xs : List Mutex) → all_gone (map (mutex n) xs) ≡ all_gone xs
  gone_renamed [] = refl
  gone_renamed (x ∷ xs) = ap (λ b. b && all_gone (map (mutex n) xs)) (none_renamed _ x.there) ∙ ap (λ b. is_none x.there && b) (gone_renamed xs)

  module _ {P : Type 0} (r : P → P) where
    past_renamed : (l : Life P) → is_past (life n r l) ≡ is_past l
    past_renamed over = refl
    past_renamed (alive p) = refl
    past_renamed (owing p) = refl
    past_renamed (loose p) = refl
    past_renamed (ended v) = refl

    all_past_renamed : (xs : List (Thread P)) → all_past (those n once r xs) ≡ all_past xs
    all_past_renamed [] = refl
    all_past_renamed (x ∷ xs) = ap (λ b. b && all_past (those n once r xs)) (past_renamed x.life) ∙ ap (λ b. is_past x.life && b) (all_past_renamed xs)

    pub bare_renamed : (s : Whole P) → is_bare (whole n r s) ≡ is_bare s
    bare_renamed s =
        ap (λ b. b && all_gone (map (mutex n) s.mutexes) && live (whole n r s).heap == 0) (all_past_renamed s.threads)
        ∙ ap (λ b. all_past s.threads && b && live (whole n r s).heap == 0) (gone_renamed s.mutexes) ∙ ap (λ k. all_past s.threads && all_gone s.mutexes && k == 0) (live_renamed n once s.heap)
