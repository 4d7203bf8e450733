-- What stands at a location of a coherent cluster stands there in its one heap.
use Rattle.std.proofs.Common.{◌≡◌, inl, inr, ℕ, zero, suc, ◌%◌, ◌^◌, ◌==◌, ◌&&◌, ◌||◌, not, Bool, true, false, if◌then◌else◌, List, [], ◌∷◌, ◌++◌, length, map, reverse, Option, Some, None, option_map, refl, ap, subst, ◌∙◌, arith}
use Rattle.std.specs.Prelude.{slice_get}
use Rattle.std.proofs.lemmas.Grind.{reverse_onto}
use Rattle.std.proofs.lemmas.Option.{slice_get-map}
use Rattle.coherent_types.specs.Below.fr_base.declared.name.ObjNo.{ObjNo}
use Rattle.coherent_types.specs.Below.fr_base.declared.label.Plain.{Plain}
use Rattle.coherent_types.specs.Below.fr_plain.declared.value.Value.{Value as PlainValue}
use Rattle.coherent_types.specs.Below.fr_plain.State.{slot_at}
use Rattle.coherent_types.specs.Below.fr_plain.MachineThreads.{owing, loose}
use Rattle.coherent_types.specs.Below.fr_plain.PlainState.{place_in, place_of}
use Rattle.coherent_types.specs.Below.fr_code.Machine.{CodeRunning}
use Rattle.coherent_types.proofs.Below.fr_typing.PlaceLemmas.{eq_cases}
use Rattle.coherent_types.specs.Below.heap_partition.Plain.{plain_of}
use Rattle.coherent_types.specs.Below.heap_partition.declared.value.Cell.{Cell}
use Rattle.coherent_types.specs.Below.thread_state.declared.value.Value.{Value}
use Rattle.coherent_types.specs.Below.server_model.Servers.{Cluster}
use Rattle.coherent_types.specs.Below.coherent_memory.Names.{tot, one, other, some, Among, same_object}
use Rattle.coherent_types.specs.Below.coherent_memory.Things.{Thing, lies, flies, stands, things_of}
use Rattle.coherent_types.specs.Below.coherent_memory.Follow.{Standing, threads_in, thread_at, cells_in, cell_of}
use Rattle.coherent_types.specs.Below.coherent_memory.Sight.{Sight, sight}
use Rattle.coherent_types.specs.Below.coherent_memory.Naming.{threads, started_at, zeroth_thread, uncounted_thread}
use Rattle.coherent_types.specs.Below.coherent_memory.Requests.{home_of}
use Rattle.coherent_types.specs.Below.coherent_memory.OneHeap.{one_heap, first_shown, cell_value, or_else, if_in, plain_value, going_on, was_let_go, running_at, life_of, life_at, if_given, is_given_thread, is_in_state, object_n, object_value}
use Rattle.coherent_types.proofs.Branches.{found}
use Rattle.law_words_paths.proofs.paths.Sole.{some_is}
use Rattle.law_words_paths.specs.paths.HeapStore.{GoesOn, HasPaths}

-- LISTS

pub none_else : (b : Bool) → other b ≡ 0 → b ≡ true
none_else true e = refl
none_else false e = absurd cc

pub length_one_more : {A : Type 0} (ys : List A) (v : A) → length (ys ++ (v ∷ [])) ≡ suc (length ys)
length_one_more [] v = refl
length_one_more (y ∷ ys) v = ap suc (length_one_more ys v)

-- an element by its number from behind: the last one has 0
abbrev pub at_behind : {A : Type 0} → List A → ℕ → Option A
at_behind [] i = None
at_behind (x ∷ xs) i = if i == length xs then Some x else at_behind xs i

last_zero : {A : Type 0} (ys : List A) (v : A) → at_behind (ys ++ (v ∷ [])) 0 ≡ Some v
last_zero [] v = refl
last_zero (y ∷ ys) v =
    eq_cases (λ b. (if b then Some y else at_behind (ys ++ (v ∷ [])) 0) ≡ Some v) 0 (length (ys ++ (v ∷ []))) (λ e. absurd (omega (arith, e, length_one_more ys v))) (λ ne. last_zero ys v)

last_suc : {A : Type 0} (ys : List A) (v : A) (i : ℕ) → at_behind (ys ++ (v ∷ [])) (suc i) ≡ at_behind ys i
last_suc [] v i = eq_cases (λ b. (if b then Some v else None) ≡ None) (suc i) 0 (λ e. absurd (omega (arith, e))) (λ ne. refl)
last_suc (y ∷ ys) v i =
    eq_cases (λ b. (if b then Some y else at_behind (ys ++ (v ∷ [])) (suc i)) ≡ at_behind (y ∷ ys) i) (suc i) (length (ys ++ (v ∷ [])))
    (λ e. eq_cases (λ b. Some y ≡ (if b then Some y else at_behind ys i)) i (length ys) (λ e2. refl) (λ ne. absurd (ne (omega (arith, e, length_one_more ys v)))))
    (λ ne. eq_cases (λ b. at_behind (ys ++ (v ∷ [])) (suc i) ≡ (if b then Some y else at_behind ys i)) i (length ys) (λ e2. absurd (ne (omega (arith, e2, length_one_more ys v)))) (λ n2. last_suc ys v i))

pub behind_is : {A : Type 0} (xs : List A) (i : ℕ) → at_behind (reverse xs) i ≡ slice_get xs i
behind_is [] i = refl
behind_is (x ∷ xs) zero = ap (λ l. at_behind l 0) (reverse_onto xs x []) ∙ last_zero (reverse xs) x
behind_is (x ∷ xs) (suc i) = ap (λ l. at_behind l (suc i)) (reverse_onto xs x []) ∙ last_suc (reverse xs) x i ∙ behind_is xs i

-- the newest comes first in a plain state, and the oldest in a cluster
slot_behind : (xs : List PlainValue) (i : ℕ) → slot_at xs i ≡ at_behind xs i
slot_behind [] i = refl
slot_behind (x ∷ xs) i = ap (λ o. if i == length xs then Some x else o) (slot_behind xs i)

pub shown_value : (vs : List Value) (i : ℕ) → slot_at (reverse (map plain_value vs)) i ≡ option_map plain_value (slice_get vs i)
shown_value vs i = slot_behind (reverse (map plain_value vs)) i ∙ behind_is (map plain_value vs) i ∙ slice_get-map plain_value vs i

-- OBJECTS

shown_first : (o : ObjNo) (c : Cell) (b : List Thing) (v : Plain)
    → (first_shown (cell_value o) b ≡ Some v → (d : Cell) × (cell_of (cells_in b) o ≡ Some d) × (plain_of d.value ≡ v))
    → (q : Bool) → or_else (if_in q (Some (plain_of c.value))) (first_shown (cell_value o) b) ≡ Some v
    → (d : Cell) × ((if q then Some c else cell_of (cells_in b) o) ≡ Some d) × (plain_of d.value ≡ v)
shown_first o c b v go true e = (c, refl, some_is e)
shown_first o c b v go false e = go e

-- what shows an object's value is its cell
cell_shown : (o : ObjNo) (b : List Thing) (v : Plain) → first_shown (cell_value o) b ≡ Some v → (c : Cell) × (cell_of (cells_in b) o ≡ Some c) × (plain_of c.value ≡ v)
cell_shown o [] v e = absurd cc
cell_shown o (lies r a c ∷ b) v e = shown_first o c b v (cell_shown o b v) (same_object c.object o) e
cell_shown o (flies w c ∷ b) v e = shown_first o c b v (cell_shown o b v) (same_object c.object o) e
cell_shown o (_ ∷ b) v e = cell_shown o b v e

pub object_shown : (s : Sight) (o : ObjNo) (v : Plain) → object_value s o ≡ Some v → (c : Cell) × (cell_of (cells_in s.things) o ≡ Some c) × (plain_of c.value ≡ v)
object_shown s o v e = by (is_in_state s (object_n o)) e
  where
    by : (q : Bool) → if_in q (first_shown (cell_value o) s.things) ≡ Some v → (c : Cell) × (cell_of (cells_in s.things) o ≡ Some c) × (plain_of c.value ≡ v)
    by true e2 = cell_shown o s.things v e2
    by false e2 = absurd cc

-- THREADS

-- a weight that is nothing in all is nothing at each thread
none_at : (f : Thing → ℕ) (x : Standing) (b : List Thing) → tot f b ≡ 0 → Among x (threads_in b) → f (stands x.server x.packed x.thread) ≡ 0
none_at f x [] z h = absurd h
none_at f x (stands s p t ∷ b) z (inl e) = subst (λ (y : Standing). f (stands y.server y.packed y.thread) ≡ 0) e (omega (arith, z))
none_at f x (stands s p t ∷ b) z (inr h) = none_at f x b (omega (arith, z)) h
none_at f x (_ ∷ b) z h = none_at f x b (omega (arith, z)) h

going_place : (s : Sight) (t : ℕ) (p : CodeRunning) → place_of (going_on s t p) ≡ Some p
going_place s zero p = refl
going_place s (suc t) p = by (was_let_go s (suc t))
  where
    by : (q : Bool) → place_of (if q then loose p else owing p) ≡ Some p
    by true = refl
    by false = refl

module _ (k : Cluster) (c : HasPaths k) (x : Standing) (g : GoesOn k x) where
  pub stands_there : thread_at (sight k).ground.threads x.thread.number ≡ Some x
  stands_there = found x (things_of k) (c.numbers_differ x.thread.number) g.among

  -- its name was given
  pub is_given : is_given_thread (sight k) x.thread.number ≡ true
  is_given = by (x.thread.number == 0) (x.thread.number % 2 ^ 32 == 0) (some (tot (started_at (home_of x.thread.number) (x.thread.number % 2 ^ 32)) (things_of k))) zeroth counted
    where
      zeroth : one ((x.thread.number % 2 ^ 32 == 0) && not (x.thread.number == 0)) ≡ 0
      zeroth =
          let all : tot (threads zeroth_thread) (things_of k) ≡ 0 = omega (arith, c.counts_from_one) in
          omega (arith, none_at (threads zeroth_thread) x (things_of k) all g.among)

      counted : some (tot (started_at (home_of x.thread.number) (x.thread.number % 2 ^ 32)) (things_of k)) ≡ true
      counted =
          let all : tot (threads (uncounted_thread (sight k))) (things_of k) ≡ 0 = omega (arith, c.names_counted) in
          let one_of : uncounted_thread (sight k) x.thread.number ≡ 0 = omega (arith, none_at (threads (uncounted_thread (sight k))) x (things_of k) all g.among) in
          none_else (some (tot (started_at (home_of x.thread.number) (x.thread.number % 2 ^ 32)) (things_of k))) one_of

      by : (a b d : Bool) → one (b && not a) ≡ 0 → d ≡ true → a || (not b && d) ≡ true
      by true b d z e = refl
      by false true d z e = absurd cc
      by false false d z e = e

  -- so the plain state shows it where it is
  pub is_running : place_in ((one_heap k).thread x.thread.number) ≡ Some (running_at x.thread)
  is_running =
      ap (λ b. place_in (if_given b (life_at (sight k) x.thread.number (thread_at (sight k).ground.threads x.thread.number)))) is_given
      ∙ ap (λ o. place_of (life_at (sight k) x.thread.number o)) stands_there
      ∙ ap (λ b. place_of (life_of (sight k) x.thread b)) g.going
      ∙ going_place (sight k) x.thread.number (running_at x.thread)
