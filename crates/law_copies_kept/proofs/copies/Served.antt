-- What a server serves is the cell of the live object that was asked for.
use Rattle.std.proofs.Common.{◌≡◌, inl, inr, ℕ, ◌+◌, ◌==◌, ◌&&◌, Bool, true, false, if◌then◌else◌, List, [], ◌∷◌, ◌++◌, Option, Some, None, refl, sym, ap, subst, ◌∙◌, arith}
use Rattle.std.specs.Prelude.{slice_get}
use Rattle.std.proofs.lemmas.Bool.{eq-eqb}
use Rattle.std.proofs.lemmas.Bool.Decides.{Decides-int_eq}
use Rattle.law_words_borrows.proofs.Below.law_counts_things.Below.fr_typing.PlaceLemmas.{eq_cases}
use Rattle.law_words_borrows.specs.Below.fr_base.declared.name.ObjNo.{ObjNo}
use Rattle.law_words_borrows.specs.Below.global_addr.Words.{address_of}
use Rattle.law_words_borrows.specs.Below.heap_partition.Same.{same_owned, same_cell}
use Rattle.law_words_borrows.specs.Below.heap_partition.declared.value.Cell.{Cell}
use Rattle.law_words_borrows.specs.Below.heap_partition.declared.value.Owned.{Owned}
use Rattle.law_words_borrows.specs.Below.heap_partition.declared.value.Owned.TheVariants as owned
use Rattle.law_words_borrows.specs.Below.server_msgs.declared.message.Message.TheVariants.{Fetch}
use Rattle.law_words_borrows.specs.Below.server_model.Servers.{Server, Cluster, server_at}
use Rattle.law_words_borrows.specs.Below.server_model.Work.{look, look_object, then_some}
use Rattle.law_words_borrows.specs.Below.coherent_memory.Names.{tot, some, other, same_object, Among}
use Rattle.law_words_borrows.specs.Below.coherent_memory.Things.{Thing, lies, sent, things_at, cell_things, free_things, copy_things, mutex_things, task_things, standing_things, waiting_things, leaving_things, server_things, servers_things, things_of}
use Rattle.law_words_borrows.specs.Below.coherent_memory.Follow.{cells_in}
use Rattle.law_words_borrows.specs.Below.coherent_memory.Sight.{is_word, cell_of_word, is_object_among, sight, word}
use Rattle.law_words_borrows.specs.Below.coherent_memory.Placing.{sum_over, unless_dirty, if_clean, clean_cell, other_cell}
use Rattle.law_words_borrows.specs.Below.coherent_memory.Requests.{not_there}
use Rattle.law_words_borrows.specs.Below.coherent_memory.Weights.{lies_under}
use Rattle.law_words_borrows.specs.Below.coherent_memory.Coherent.{IsSound}
use Rattle.law_words_borrows.proofs.Below.coherent_memory.Names.{and_left}
use Rattle.law_words_borrows.proofs.Below.coherent_memory.Words.{named, itself}
use Rattle.law_words_borrows.proofs.Below.law_words_paths.paths.Sole.{some_is}
use Rattle.law_words_borrows.proofs.Below.law_words_paths.paths.Origins.{among_first, among_second}
use Rattle.law_words_borrows.proofs.Below.law_words_paths.paths.Contained.{listed_in}
use Rattle.law_words_borrows.proofs.Below.law_words_paths.words.Standing.{lying}
use Rattle.law_words_borrows.proofs.Below.law_counts_sums.Askers.{other_none}
use Rattle.law_words_borrows.proofs.Below.law_counts_sums.Bags.{counts_of}
use Rattle.law_words_borrows.proofs.Below.law_counts_sums.Cells.{looked}
use Rattle.law_words_borrows.proofs.Below.law_counts_sums.MutexResults.{has, mutex_self}
use Rattle.law_copies_kept.proofs.copies.Clean.{thing_cell, one_of_word, found_by}
use Rattle.law_copies_kept.proofs.copies.Comes.{ServedWeighNothing}

-- a cell is the same as itself
owned_itself : (v : Owned) → same_owned v v ≡ true
owned_itself owned.Nothing = refl
owned_itself owned.Unit = refl
owned_itself (owned.Int n) = (Decides-int_eq n n).1 refl
owned_itself (owned.Box p) = let word : (p.word == p.word) ≡ true = eq-eqb p.word p.word refl in rw word (itself p.object p.object refl)
owned_itself (owned.Mutex m) = mutex_self m
owned_itself (owned.Task t) = eq-eqb t t refl

cell_itself : (c : Cell) → same_cell c c ≡ true
cell_itself c = rw (itself c.object c.object refl) (owned_itself c.value)

-- a thing of a server is one of its cluster
server_among : (ss : List Server) (number : ℕ) (s : Server) (y : Thing) → server_at ss number ≡ Some s → Among y (server_things s) → Among y (servers_things ss)
server_among [] number s y e h = absurd (cc e)
server_among (z ∷ ss) number s y e h =
    eq_cases (λ b. (if b then Some z else server_at ss number) ≡ Some s → Among y (server_things z ++ servers_things ss)) z.rest.number number
    (λ q f. among_first y (server_things z) (servers_things ss) (subst (λ (v : Server). Among y (server_things v)) (sym (some_is f)) h))
    (λ ne f. among_second y (server_things z) (servers_things ss) (server_among ss number s y f h)) e

-- and so is what lies at an address of its partition
lies_here : (s : Server) (a : ℕ) (b : Cell) → slice_get s.rest.partition.cells a ≡ Some (Some b) → Among (lies s.rest.number a b) (server_things s)
lies_here s a b e =
    let n = s.rest.number in
    let y = lies n a b in
    let cs = things_at (cell_things n s.rest.partition.free) 0 s.rest.partition.cells in
    let number : 0 + a ≡ a = omega arith in
    let at : Among y (cell_things n s.rest.partition.free (0 + a) (Some b)) = inl (ap (λ z. lies n z b) number) in
    let fs = things_at (free_things n) 0 s.rest.partition.free in
    let p1 = counts_of n s.events s.rest ∷ (cs ++ fs) in
    let p2 = p1 ++ things_at (copy_things n) 0 s.rest.cache in
    let p3 = p2 ++ things_at (mutex_things n) 0 s.rest.mutexes.there in
    let p4 = p3 ++ things_at (task_things n) 0 s.rest.tasks in
    let p5 = p4 ++ things_at (standing_things n) 0 s.threads in
    let p6 = p5 ++ things_at (waiting_things n) 0 s.rest.inbox in
    let inside : Among y (cs ++ fs) = among_first y cs fs (listed_in (cell_things n s.rest.partition.free) y 0 a s.rest.partition.cells (Some b) e at) in
    let first : Among y p1 = inr inside in
    among_first y p6 (things_at leaving_things 0 s.rest.outbox)
    (among_first y p5 (things_at (waiting_things n) 0 s.rest.inbox)
    (among_first y p4 (things_at (standing_things n) 0 s.threads)
    (among_first y p3 (things_at (task_things n) 0 s.rest.tasks) (among_first y p2 (things_at (mutex_things n) 0 s.rest.mutexes.there) (among_first y p1 (things_at (copy_things n) 0 s.rest.cache) first)))))

-- what is looked up by its object lies there
record LookedUp (s : Server) (v : ℕ) (o : ObjNo) (c : Cell) : Type 0 where
  found : look s.rest.partition v ≡ Some c
  object : c.object ≡ o

looked_up : (s : Server) (v : ℕ) (o : ObjNo) (c : Cell) → look_object s.rest.partition v o ≡ Some c → LookedUp s v o c
looked_up s v o c e = by (look s.rest.partition v) refl e
  where
    test : (d : Cell) → look s.rest.partition v ≡ Some d → (b : Bool) → same_object d.object o ≡ b → (if b then Some d else None) ≡ Some c → LookedUp s v o c
    test d h true q f = subst (λ (x : Cell). LookedUp s v o x) (some_is f) (record { found = h; object = named d.object o q })
    test d h false q f = absurd (cc f)

    by : (x : Option Cell) → look s.rest.partition v ≡ x → then_some x (λ d. if same_object d.object o then Some d else None) ≡ Some c → LookedUp s v o c
    by None h f = absurd (cc f)
    by (Some d) h f = test d h (same_object d.object o) refl f

module _ (k : Cluster) (sound : IsSound k) where
  -- it is the cell of the object with that word, where one is clean
  pub served_right : ServedWeighNothing k (λ v c. other_cell c (clean_cell (sight k) v))
  served_right number s here i v o r t c q e = by (cell_of_word (sight k).pointers (sight k).ground.cells v) refl
    where
      n : ℕ
      n = s.rest.number

      its : LookedUp s v o c
      its = looked_up s v o c e

      there : Among c (cells_in (things_of k))
      there = thing_cell (things_of k) c (lies n (address_of v) c) (lying n (address_of v)) (server_among k.servers number s (lies n (address_of v) c) here (lies_here s (address_of v) c (looked s.rest.partition v c its.found)))

      asked : not_there (sight k) (sent n (Fetch v o r t)) ≡ 0
      asked =
          let all : tot (not_there (sight k)) (things_of k) ≡ 0 = sound.requests.objects_there in
          let h = has k sound number s here i (Fetch v o r t) q (not_there (sight k)) in
          omega (arith, all, h)

      own_word : is_word (word (sight k) c.object) v ≡ true
      own_word = ap (λ z. is_word (word (sight k) z) v) its.object ∙ and_left (is_word (word (sight k) o) v) (some (sum_over (sight k) (lies_under v o))) (other_none (is_word (word (sight k) o) v && some (sum_over (sight k) (lies_under v o))) asked)

      clean : (d : Cell) → c ≡ d → (b : Bool) → other_cell c (unless_dirty b d) ≡ 0
      clean d same true = refl
      clean d same false = ap other (ap (same_cell c) (sym same) ∙ cell_itself c)

      by : (x : Option Cell) → cell_of_word (sight k).pointers (sight k).ground.cells v ≡ x → other_cell c (if_clean (sight k) x) ≡ 0
      by None f = refl
      by (Some d) f =
          let g = found_by (sight k).pointers (sight k).ground.cells v d f in
          clean d (one_of_word k sound v c d there g.among own_word g.has) (is_object_among d.object (sight k).dirty)
