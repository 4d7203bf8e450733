-- What the coloured heap has of an object that lies at a server under its word.
use Rattle.std.proofs.Common.{◌≡◌, ℕ, ◌+◌, ◌≤◌, Bool, true, false, List, [], ◌∷◌, Option, Some, None, option_map, refl, sym, ap, ap₂, ◌∙◌, arith}
use Rattle.std.specs.Prelude.{slice_set}
use Rattle.law_entries_variables.specs.Below.fr_base.declared.name.ObjNo.{ObjNo}
use Rattle.law_entries_variables.specs.Below.fr_base.declared.label.Plain.{Plain}
use Rattle.law_entries_variables.specs.Below.global_addr.Words.{address_of}
use Rattle.law_entries_variables.specs.Below.heap_partition.Plain.{plain_of}
use Rattle.law_entries_variables.specs.Below.heap_partition.declared.value.Cell.{Cell}
use Rattle.law_entries_variables.specs.Below.owner_box.View.{PartitionState}
use Rattle.law_entries_variables.specs.Below.server_model.Servers.{Server, Cluster, server_at}
use Rattle.law_entries_variables.specs.Below.server_model.Work.{look, look_object}
use Rattle.law_entries_variables.specs.Below.server_msgs.declared.message.Message.{Message}
use Rattle.law_entries_variables.specs.Below.server_msgs.declared.message.Message.TheVariants as message
use Rattle.law_entries_variables.specs.Below.coloured_heap.Heap.{Place, Lies, Flies}
use Rattle.law_entries_variables.specs.Below.coherent_memory.Names.{tot, one, other, some, same_object}
use Rattle.law_entries_variables.specs.Below.coherent_memory.Things.{Thing, lies, flies, sent, things_at, cell_things, free_things, message_things, things_of}
use Rattle.law_entries_variables.specs.Below.coherent_memory.Sight.{is_word, sight, word}
use Rattle.law_entries_variables.specs.Below.coherent_memory.Weights.{cells}
use Rattle.law_entries_variables.specs.Below.coherent_memory.OneHeap.{or_else, first_shown}
use Rattle.law_entries_variables.specs.Below.coherent_memory.Colours.{living_of}
use Rattle.law_entries_variables.specs.Below.coherent_memory.Coherent.{IsSound}
use Rattle.law_entries_variables.proofs.Below.coherent_memory.Words.{itself}
use Rattle.law_entries_variables.proofs.Below.coherent_memory.Sums.{server_parts}
use Rattle.law_entries_variables.proofs.Below.law_counts_sums.Askers.{other_none}
use Rattle.law_entries_variables.proofs.Below.law_counts_sums.Trades.{tot-append}
use Rattle.law_entries_variables.proofs.Below.law_counts_sums.Cells.{looked, vacates}
use Rattle.law_entries_variables.proofs.Below.law_counts_sums.ObjectMessages.{looked_object}
use Rattle.law_entries_variables.proofs.Below.law_heap_still.events.Tests.{IsTest, numbers}
use Rattle.law_entries_variables.proofs.Below.law_heap_still.events.Told.{told, ones, first_told}
use Rattle.law_entries_variables.proofs.deliveries.Weighed.{Bare}
use Rattle.law_entries_variables.proofs.deliveries.Carried.{cluster_less, is_sent}
use Rattle.law_entries_variables.proofs.deliveries.Shown.{if_some, placed_in, placings, same_placed, dropped_by, as_living, living_is}
use Rattle.law_entries_variables.proofs.deliveries.Live.{placed_cells}
use Rattle.law_entries_variables.proofs.deliveries.Changed.{AreThere, at_server}

pub truly : (b : Bool) → 1 ≤ one b → b ≡ true
truly true l = refl
truly false l = absurd (omega (arith, l))

-- what is shown once is found, where its weight is there
pub found_there : {A : Type 0} (same : A → A → Bool) (test : IsTest same) (f : Thing → Option A) (p : A) (b : List Thing) → tot (λ x. told ones (f x)) b ≤ 1 → ((g : A → ℕ) → g p ≤ tot (λ x. told g (f x)) b) → first_shown f b ≡ Some p
found_there {A = A} same test f p b few l = by (first_shown f b) refl
  where
    weight : 1 ≤ told (λ x. one (same p x)) (first_shown f b)
    weight = let mine : one (same p p) ≡ 1 = ap one (test.itself p) in omega (arith, first_told f (λ x. one (same p x)) b few, l (λ x. one (same p x)), mine)

    by : (o : Option A) → first_shown f b ≡ o → o ≡ Some p
    by None e = let z : told (λ x. one (same p x)) (first_shown f b) ≡ 0 = ap (told (λ x. one (same p x))) e in absurd (omega (arith, weight, z))
    by (Some x) e =
        let z : told (λ x. one (same p x)) (first_shown f b) ≡ one (same p x) = ap (told (λ x. one (same p x))) e in
        ap (λ y. Some y) (sym (test.tells p x (truly (same p x) (omega (arith, weight, z)))))

-- what all show that show anything is found
pub all_shown : {A : Type 0} (same : A → A → Bool) (test : IsTest same) (f : Thing → Option A) (p : A) (b : List Thing) → tot (λ y. told (λ z. other (same p z)) (f y)) b ≡ 0 → 1 ≤ tot (λ y. told ones (f y)) b → first_shown f b ≡ Some p
all_shown same test f p [] z l = absurd (omega (arith, l))
all_shown {A = A} same test f p (x ∷ b) z l = by (f x) z l (all_shown same test f p b)
  where
    by : (o : Option A) → told (λ y. other (same p y)) o + tot (λ y. told (λ z. other (same p z)) (f y)) b ≡ 0 → 1 ≤ told ones o + tot (λ y. told ones (f y)) b
        → (tot (λ y. told (λ z. other (same p z)) (f y)) b ≡ 0 → 1 ≤ tot (λ y. told ones (f y)) b → first_shown f b ≡ Some p) → or_else o (first_shown f b) ≡ Some p
    by None e m go = go (omega (arith, e)) (omega (arith, m))
    by (Some v) e m go = ap (λ y. Some y) (sym (test.tells p v (other_none (same p v) (omega (arith, e)))))

-- AN OBJECT IS SOMEWHERE

one_shown : (q : Bool) (x : Plain × Place) → told ones (if_some q x) ≡ one q
one_shown true x = refl
one_shown false x = refl

-- an object has as many cells at most as it is shown
module _ (o : ObjNo) where
  abbrev shown_once : Thing → ℕ
  shown_once x = told ones (placed_in o x)

  each_cell : (x : Thing) → is_sent x ≡ false → cells o x ≤ shown_once x
  each_cell (lies r a c) e = let z = one_shown (same_object c.object o) (plain_of c.value, Lies r) in omega (arith, z)
  each_cell (flies w c) e = absurd (cc e)
  each_cell (sent r m) e = absurd (cc e)
  each_cell _ e = omega arith

  message_cell : (n : ℕ) (m : Message) → Bare m → tot (cells o) (message_things n m) ≤ tot shown_once (message_things n m)
  message_cell n (message.Moved w c t) b = let z = one_shown (same_object c.object o) (plain_of c.value, Flies n) in omega (arith, z)
  message_cell n (message.Start t) b = absurd b
  message_cell n (message.Migrate t) b = absurd b
  message_cell n (message.Granted m v t) b = omega arith
  message_cell n (message.Unlock m v) b = omega arith
  message_cell n (message.Joined u v t) b = omega arith
  message_cell n (message.Finished u v) b = omega arith
  message_cell n _ b = omega arith

  cells_shown : (k : Cluster) → tot (cells o) (things_of k) ≤ tot (λ x. told ones (placed_in o x)) (things_of k)
  cells_shown k = cluster_less (cells o) shown_once each_cell message_cell (λ n t. omega arith) (λ n t. omega arith) k

-- a live object is somewhere
pub placed_somewhere : (k : Cluster) (o : ObjNo) → 1 ≤ tot (cells o) (things_of k) → (p : Plain × Place) × (first_shown (placed_in o) (things_of k) ≡ Some p)
placed_somewhere k o l = by (first_shown (placed_in o) (things_of k)) refl
  where
    none_told : (b : List Thing) → first_shown (placed_in o) b ≡ None → tot (λ x. told ones (placed_in o x)) b ≡ 0
    none_told [] e = refl
    none_told (x ∷ b) e = two (placed_in o x) e (none_told b)
      where
        two : (q : Option (Plain × Place)) → or_else q (first_shown (placed_in o) b) ≡ None → (first_shown (placed_in o) b ≡ None → tot (λ x. told ones (placed_in o x)) b ≡ 0) → told ones q + tot (λ x. told ones (placed_in o x)) b ≡ 0
        two None e go = omega (arith, go e)
        two (Some v) e go = absurd (cc e)

    by : (q : Option (Plain × Place)) → first_shown (placed_in o) (things_of k) ≡ q → (p : Plain × Place) × (first_shown (placed_in o) (things_of k) ≡ Some p)
    by None e = absurd (omega (arith, l, cells_shown o k, none_told (things_of k) e))
    by (Some p) e = (p, e)

-- WORDS

pub word_told : (o : Option ℕ) (w : ℕ) → is_word o w ≡ true → o ≡ Some w
word_told None w e = absurd (cc e)
word_told (Some v) w e = ap (λ n. Some n) (numbers.tells v w e)

module _ (k : Cluster) (sound : IsSound k) (number : ℕ) (s : Server) (here : server_at k.servers number ≡ Some s) (w : ℕ) (o : ObjNo) (c : Cell) (q : look_object s.rest.partition w o ≡ Some c) where
  abbrev n : ℕ
  n = s.rest.number

  abbrev p : PartitionState
  p = s.rest.partition

  found : (look p w ≡ Some c) × (c.object ≡ o)
  found = looked_object p w o c q

  pub lies_there : AreThere k (lies n (address_of w) c ∷ [])
  lies_there =
      at_server k number s here (lies n (address_of w) c ∷ []) (λ f.
      let v : tot f (things_at (cell_things n p.free) 0 p.cells) ≡ f (lies n (address_of w) c) + tot f (things_at (cell_things n ((address_of w, 0) ∷ p.free)) 0 (slice_set p.cells (address_of w) None)) =
      vacates n 0 (address_of w) p.free c 0 p.cells (address_of w) (omega arith) (looked p w c found.0) f in
      omega (arith, server_parts f s, v, tot-append f (things_at (cell_things n p.free) 0 p.cells) (things_at (free_things n) 0 p.free)))

  pub its_object : same_object c.object o ≡ true
  its_object = itself c.object o found.1

  pub has_cell : 1 ≤ tot (cells o) (things_of k)
  has_cell = let mine : one (same_object c.object o) ≡ 1 = ap one its_object in omega (arith, mine, lies_there (cells o))

  pub placed_once : tot (λ x. told ones (placed_in o x)) (things_of k) ≤ 1
  placed_once = let home : tot (cells o) (things_of k) ≤ 1 = sound.one_home.home_of_each o in omega (arith, placed_cells o k, home)

  -- it lies here
  pub placed : first_shown (placed_in o) (things_of k) ≡ Some (plain_of c.value, Lies n)
  placed =
      found_there same_placed placings (placed_in o) (plain_of c.value, Lies n) (things_of k) placed_once (λ g.
      let shows : told g (placed_in o (lies n (address_of w) c)) ≡ g (plain_of c.value, Lies n) = ap (λ b. told g (if_some b (plain_of c.value, Lies n))) its_object in
      omega (arith, shows, lies_there (λ x. told g (placed_in o x))))

  -- under its word, and isn't given up
  pub living : is_word (word (sight k) o) w ≡ true → tot (dropped_by o) (things_of k) ≡ 0 → living_of (sight k) o ≡ Some (record { object = o; place = Lies n; word = w; value = plain_of c.value; is_condemned = false })
  living named kept =
      living_is (sight k) o ∙ ap (option_map (as_living o (word (sight k) o) (some (tot (dropped_by o) (things_of k))))) placed ∙ ap₂ (λ i j. Some (as_living o i (some j) (plain_of c.value, Lies n))) (word_told (word (sight k) o) w named) kept
