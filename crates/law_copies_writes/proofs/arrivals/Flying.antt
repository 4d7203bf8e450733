-- The object of a message that waits at a server is under way in its cluster.
use Rattle.std.proofs.Common.{◌≡◌, ℕ, ◌==◌, Bool, true, false, if◌then◌else◌, List, [], ◌∷◌, ◌++◌, Some, sym, subst}
use Rattle.std.specs.Prelude.{slice_get}
use Rattle.law_words_ends.specs.Below.heap_partition.declared.value.Cell.{Cell}
use Rattle.law_words_ends.specs.Below.server_msgs.declared.message.Message.TheVariants.{Moved}
use Rattle.law_words_ends.specs.Below.server_model.Servers.{Server, Cluster, server_at}
use Rattle.law_words_ends.specs.Below.coherent_memory.Names.{Among}
use Rattle.law_words_ends.specs.Below.coherent_memory.Things.{Thing, flies, things_at, cell_things, free_things, copy_things, mutex_things, task_things, standing_things, waiting_things, leaving_things, server_things, servers_things, things_of}
use Rattle.law_words_ends.proofs.Below.law_words_paths.paths.Origins.{among_first, among_second}
use Rattle.law_words_ends.proofs.Below.law_words_paths.paths.Sole.{some_is}
use Rattle.law_words_ends.proofs.Below.law_counts_sums.Bags.{counts_of}
use Rattle.law_words_ends.proofs.Below.law_words_asked.arrivals.Lists.{message_goes}

-- a thing of a server is one of its cluster
server_among : (ss : List Server) (number : ℕ) (s : Server) (y : Thing) → server_at ss number ≡ Some s → Among y (server_things s) → Among y (servers_things ss)
server_among [] number s y e h = absurd (cc e)
server_among (z ∷ ss) number s y e h = by (z.rest.number == number) e (λ f. server_among ss number s y f h)
  where
    by : (b : Bool) → (if b then Some z else server_at ss number) ≡ Some s → (server_at ss number ≡ Some s → Among y (servers_things ss)) → Among y (server_things z ++ servers_things ss)
    by true f go = among_first y (server_things z) (servers_things ss) (subst (λ (v : Server). Among y (server_things v)) (sym (some_is f)) h)
    by false f go = among_second y (server_things z) (servers_things ss) (go f)

-- what comes with a message that waits
waits_here : (s : Server) (i old t : ℕ) (c : Cell) → slice_get s.rest.inbox i ≡ Some (Moved old c t) → Among (flies old c) (server_things s)
waits_here s i old t c e =
    let n = s.rest.number in
    let y = flies old c in
    let cs = things_at (cell_things n s.rest.partition.free) 0 s.rest.partition.cells in
    let fs = things_at (free_things n) 0 s.rest.partition.free in
    let p1 = counts_of n s.events s.rest ∷ (cs ++ fs) in
    let p2 = p1 ++ things_at (copy_things n) 0 s.rest.cache in
    let p3 = p2 ++ things_at (mutex_things n) 0 s.rest.mutexes.there in
    let p4 = p3 ++ things_at (task_things n) 0 s.rest.tasks in
    let p5 = p4 ++ things_at (standing_things n) 0 s.threads in
    let p6 = p5 ++ things_at (waiting_things n) 0 s.rest.inbox in
    among_first y p6 (things_at leaving_things 0 s.rest.outbox) (among_second y p5 (things_at (waiting_things n) 0 s.rest.inbox) ((message_goes n old t c 0 i s.rest.inbox e).there))

pub flies_there : (k : Cluster) (s : Server) (n : ℕ) → server_at k.servers n ≡ Some s → (i old : ℕ) (c : Cell) (t : ℕ) → slice_get s.rest.inbox i ≡ Some (Moved old c t) → Among (flies old c) (things_of k)
flies_there k s n here i old c t e = server_among k.servers n s (flies old c) here (waits_here s i old t c e)
