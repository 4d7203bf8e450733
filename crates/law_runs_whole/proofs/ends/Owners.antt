-- In a cluster that is finished each object, content and result has an owner of a higher rank, so there is none.
use Rattle.std.proofs.Common.{◌≡◌, inl, inr, ℕ, zero, suc, ◌+◌, ◌<◌, ◌≤◌, ◌==◌, ◌&&◌, Bool, true, false, List, [], ◌∷◌, ◌++◌, refl, ap, subst, ◌∙◌, arith}
use Rattle.std.proofs.lemmas.Bool.Decides.{nat_tests}
use Rattle.law_runs_coherent.specs.Below.fr_base.declared.name.ObjNo.{ObjNo}
use Rattle.law_runs_coherent.specs.Below.fr_base.declared.name.MutexNo.{MutexNo}
use Rattle.law_runs_coherent.proofs.Below.law_counts_sums.Below.fr_store.Keys.{object_cases}
use Rattle.law_runs_coherent.specs.Below.heap_partition.declared.value.BoxPtr.{BoxPtr}
use Rattle.law_runs_coherent.specs.Below.heap_partition.declared.value.Owned.{Owned}
use Rattle.law_runs_coherent.specs.Below.heap_partition.declared.value.Owned.TheVariants as owned
use Rattle.law_runs_coherent.specs.Below.server_model.Servers.{Cluster}
use Rattle.law_runs_coherent.specs.Below.coherent_memory.Names.{tot, one, same_object, same_mutex, boxes, mutex_values, task_values, Among}
use Rattle.law_runs_coherent.specs.Below.coherent_memory.Things.{Thing, in_slot, in_temp, as_gift, as_content, as_result, in_hand, holds, lies, flies, sent, things_of}
use Rattle.law_runs_coherent.specs.Below.coherent_memory.Sight.{Sight, sight}
use Rattle.law_runs_coherent.specs.Below.coherent_memory.Weights.{cells, owners, shares_of, tasks_of}
use Rattle.law_runs_coherent.specs.Below.coherent_memory.OneHeap.{Node, object_n, mutex_n, task_n}
use Rattle.law_runs_coherent.specs.Below.coherent_memory.Ranks.{Step, steps_of, Falls}
use Rattle.law_runs_coherent.specs.Below.coherent_memory.Rooted.{ownings_of, ownings}
use Rattle.law_runs_coherent.proofs.Below.coherent_memory.Names.{same_number, same_mutexes}
use Rattle.law_runs_coherent.proofs.Below.coherent_memory.Sums.{tot-append}
use Rattle.law_runs_whole.proofs.ends.Weighing.{weighs, some_weighs, truly}
use Rattle.law_runs_whole.proofs.ends.Bare.{IsFinished, loose, none_loose, content_held, contents_shared, result_held, results_owed}

-- what is one of that, and what owns it
abbrev pub held : Node → Thing → ℕ
held (object_n o) x = cells o x
held (mutex_n m) x = content_held m x
held (task_n t) x = result_held t x

abbrev naming : Node → Thing → ℕ
naming (object_n o) x = owners o x
naming (mutex_n m) x = shares_of m x
naming (task_n t) x = tasks_of t x

abbrev owned_naming : Node → Owned → ℕ
owned_naming (object_n o) v = boxes o v
owned_naming (mutex_n m) v = mutex_values m v
owned_naming (task_n t) v = task_values t v

same_objects : (p o : ObjNo) → same_object p o ≡ true → p ≡ o
same_objects p o e = object_cases (λ b. b ≡ true → p ≡ o) p o (λ s q. s) (λ n q. absurd (cc q)) e

-- the one step from an owner to what it owns
abbrev to_owned : Node → Node → List (Step Node)
to_owned from n = record { from = from; to = n } ∷ []

-- of a thing with that value the steps lead to what the value owns
record LeadsFrom (s : Sight) (from : Node) (thing : Owned → Thing) : Type 0 where
  pub box : (p : BoxPtr) → ownings_of s (thing (owned.Box p)) ≡ to_owned from (object_n p.object)
  pub mutex : (m : MutexNo) → ownings_of s (thing (owned.Mutex m)) ≡ to_owned from (mutex_n m)
  pub task : (t : ℕ) → ownings_of s (thing (owned.Task t)) ≡ to_owned from (task_n t)

-- what a value owns is where its one step leads
owning_leads : (s : Sight) (from : Node) (thing : Owned → Thing) → LeadsFrom s from thing → (n : Node) (v : Owned) → 1 ≤ owned_naming n v → ownings_of s (thing v) ≡ to_owned from n
owning_leads s from thing g (object_n o) (owned.Box p) l = g.box p ∙ ap (λ q. to_owned from (object_n q)) (same_objects p.object o (truly (same_object p.object o) (omega (arith, l))))
owning_leads s from thing g (mutex_n m) (owned.Mutex n) l = g.mutex n ∙ ap (λ q. to_owned from (mutex_n q)) (same_mutexes n m (truly (same_mutex n m) (omega (arith, l))))
owning_leads s from thing g (task_n t) (owned.Task u) l = g.task u ∙ ap (λ q. to_owned from (task_n q)) (same_number u t (truly (u == t) (omega (arith, l))))
owning_leads s from thing g (object_n o) v l = absurd (omega (arith, l))
owning_leads s from thing g (mutex_n m) v l = absurd (omega (arith, l))
owning_leads s from thing g (task_n t) v l = absurd (omega (arith, l))

-- STEPS OF ONE OF A LIST

falls_left : (rank : Node → ℕ) (xs ys : List (Step Node)) → Falls rank (xs ++ ys) → Falls rank xs
falls_left rank [] ys f = tt
falls_left rank (x ∷ xs) ys f = (f.0, falls_left rank xs ys f.1)

falls_right : (rank : Node → ℕ) (xs ys : List (Step Node)) → Falls rank (xs ++ ys) → Falls rank ys
falls_right rank [] ys f = f
falls_right rank (x ∷ xs) ys f = falls_right rank xs ys f.1

module _ (g : Thing → List (Step Node)) (rank : Node → ℕ) where
  falls_at : (x : Thing) (b : List Thing) → Among x b → Falls rank (steps_of g b) → Falls rank (g x)
  falls_at x [] h f = absurd h
  falls_at x (y ∷ b) (inl q) f = subst (λ z. Falls rank (g z)) q (falls_left rank (g y) (steps_of g b) f)
  falls_at x (y ∷ b) (inr h) f = falls_at x b h (falls_right rank (g y) (steps_of g b) f)

  most_at : (f : Step Node → ℕ) (x : Thing) (b : List Thing) → Among x b → tot f (g x) ≤ tot f (steps_of g b)
  most_at f x [] h = absurd h
  most_at f x (y ∷ b) (inl q) = subst (λ z. tot f (g z) ≤ tot f (steps_of g (y ∷ b))) q (omega (arith, tot-append f (g y) (steps_of g b)))
  most_at f x (y ∷ b) (inr h) = omega (arith, most_at f x b h, tot-append f (g y) (steps_of g b))

pub object_itself : (o : ObjNo) → same_object o o ≡ true
object_itself o = object_cases (λ b. b ≡ true) o o (λ s. refl) (λ n. absurd (n refl))

pub mutex_itself : (m : MutexNo) → same_mutex m m ≡ true
mutex_itself m = by (m.home == m.home) (m.count == m.count) (grind (arith, nat_tests)) (grind (arith, nat_tests))
  where
    by : (a b : Bool) → a ≡ true → b ≡ true → a && b ≡ true
    by true true e q = refl
    by true false e q = q
    by false b e q = absurd (cc e)

-- IN A CLUSTER THAT IS FINISHED

module _ (k : Cluster) (e : IsFinished k) where
  abbrev b : List Thing
  b = things_of k

  abbrev s : Sight
  s = sight k

  abbrev rank : Node → ℕ
  rank = e.sound.rooted.none_owns_itself.rank

  abbrev high : Step Node → ℕ
  high x = rank x.from

  -- an owner of that, itself in the cluster and of a higher rank
  record Owns (n : Node) : Type 0 where
    pub owner : Node
    pub there : 1 ≤ tot (held owner) b
    pub higher : rank n < rank owner
    pub bounded : rank owner ≤ tot high (ownings s)

  owned_by : (n from : Node) (thing : Owned → Thing) (v : Owned) → LeadsFrom s from thing → Among (thing v) b → 1 ≤ owned_naming n v → 1 ≤ held from (thing v) → Owns n
  owned_by n from thing v g h l here =
      let steps = owning_leads s from thing g n v l in
      let falls = subst (Falls rank) steps (falls_at (ownings_of s) rank (thing v) b h e.sound.rooted.none_owns_itself.falls) in
      let most : rank from + 0 ≤ tot high (ownings s) = subst (λ es. tot high es ≤ tot high (ownings s)) steps (most_at (ownings_of s) rank high (thing v) b h) in
      record { owner = from; there = omega (arith, here, weighs (held from) (thing v) b h); higher = falls.0; bounded = omega (arith, most) }

  one_is : (c : Bool) → c ≡ true → 1 ≤ one c
  one_is true q = omega arith
  one_is false q = absurd (cc q)

  not_loose : (x : Thing) → Among x b → 1 ≤ loose x → ⊥
  not_loose x h l = omega (arith, weighs loose x b h, none_loose k e, l)

  owner_at : (n : Node) (x : Thing) → Among x b → 1 ≤ naming n x → Owns n
  owner_at (object_n o) (holds (as_content m) v) h l = owned_by (object_n o) (mutex_n m) (λ w. holds (as_content m) w) v (record { box = λ p. refl; mutex = λ p. refl; task = λ p. refl }) h l (one_is (same_mutex m m) (mutex_itself m))
  owner_at (mutex_n q) (holds (as_content m) v) h l = owned_by (mutex_n q) (mutex_n m) (λ w. holds (as_content m) w) v (record { box = λ p. refl; mutex = λ p. refl; task = λ p. refl }) h l (one_is (same_mutex m m) (mutex_itself m))
  owner_at (task_n t) (holds (as_content m) v) h l = owned_by (task_n t) (mutex_n m) (λ w. holds (as_content m) w) v (record { box = λ p. refl; mutex = λ p. refl; task = λ p. refl }) h l (one_is (same_mutex m m) (mutex_itself m))
  owner_at (object_n o) (holds (as_result u) v) h l = owned_by (object_n o) (task_n u) (λ w. holds (as_result u) w) v (record { box = λ p. refl; mutex = λ p. refl; task = λ p. refl }) h l (one_is (u == u) (grind (arith, nat_tests)))
  owner_at (mutex_n q) (holds (as_result u) v) h l = owned_by (mutex_n q) (task_n u) (λ w. holds (as_result u) w) v (record { box = λ p. refl; mutex = λ p. refl; task = λ p. refl }) h l (one_is (u == u) (grind (arith, nat_tests)))
  owner_at (task_n t) (holds (as_result u) v) h l = owned_by (task_n t) (task_n u) (λ w. holds (as_result u) w) v (record { box = λ p. refl; mutex = λ p. refl; task = λ p. refl }) h l (one_is (u == u) (grind (arith, nat_tests)))
  owner_at (object_n o) (lies r a c) h l = owned_by (object_n o) (object_n c.object) (λ w. lies r a (record c { value = w })) c.value (record { box = λ p. refl; mutex = λ p. refl; task = λ p. refl }) h l (one_is (same_object c.object c.object) (object_itself c.object))
  owner_at (mutex_n q) (lies r a c) h l = owned_by (mutex_n q) (object_n c.object) (λ w. lies r a (record c { value = w })) c.value (record { box = λ p. refl; mutex = λ p. refl; task = λ p. refl }) h l (one_is (same_object c.object c.object) (object_itself c.object))
  owner_at (task_n t) (lies r a c) h l = owned_by (task_n t) (object_n c.object) (λ w. lies r a (record c { value = w })) c.value (record { box = λ p. refl; mutex = λ p. refl; task = λ p. refl }) h l (one_is (same_object c.object c.object) (object_itself c.object))
  owner_at n (holds (in_slot t i) v) h l = absurd (not_loose _ h (omega arith))
  owner_at n (holds (in_temp t i) v) h l = absurd (not_loose _ h (omega arith))
  owner_at n (holds (as_gift t) v) h l = absurd (not_loose _ h (omega arith))
  owner_at n (holds in_hand v) h l = absurd (not_loose _ h (omega arith))
  owner_at n (flies w c) h l = absurd (not_loose _ h (omega arith))
  owner_at n (sent r m) h l = absurd (not_loose _ h (omega arith))
  owner_at (object_n o) _ h l = absurd (omega (arith, l))
  owner_at (mutex_n q) _ h l = absurd (omega (arith, l))
  owner_at (task_n t) _ h l = absurd (omega (arith, l))

  named : (n : Node) → 1 ≤ tot (held n) b → 1 ≤ tot (naming n) b
  named (object_n o) l = omega (arith, l, e.sound.one_owner.owner_of_each o)
  named (mutex_n m) l = omega (arith, l, e.sound.mutexes_and_tasks.shares_counted m, contents_shared k e m)
  named (task_n t) l = omega (arith, l, e.sound.mutexes_and_tasks.task_values_owed t, results_owed k e t)

  owner_of : (n : Node) → 1 ≤ tot (held n) b → Owns n
  owner_of n l = let w = some_weighs (naming n) b (named n l) in owner_at n w.item w.there w.weight

  climbs : (d : ℕ) (n : Node) → 1 ≤ tot (held n) b → tot high (ownings s) ≤ rank n + d → ⊥
  climbs zero n l m = let o = owner_of n l in omega (arith, m, o.higher, o.bounded)
  climbs (suc d) n l m = let o = owner_of n l in climbs d o.owner o.there (omega (arith, m, o.higher))

  -- no object, content or result is there
  pub none_held : (n : Node) → 1 ≤ tot (held n) b → ⊥
  none_held n l = climbs (tot high (ownings s)) n l (omega arith)
