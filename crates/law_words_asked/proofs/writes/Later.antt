-- A partition later in an event, where objects got other addresses: what it issues wasn't issued when the event began.
use Rattle.std.proofs.Common.{◌≡◌, inl, inr, ℕ, zero, suc, ◌+◌, ◌<◌, ◌≤◌, ◌^◌, ◌==◌, ◌&&◌, ◌||◌, nat_lt, Bool, true, false, if◌then◌else◌, List, [], ◌∷◌, ◌++◌, length, Option, Some, None, refl, sym, ap, ap₂, subst, ◌∙◌, arith}
use Rattle.std.specs.Prelude.{drop as drop_first, slice_set, slice_get, slice_index_or}
use Rattle.std.proofs.lemmas.Bool.Decides.{nat_tests}
use Rattle.std.proofs.lemmas.List.{length-set, length-append}
use Rattle.std.proofs.lemmas.Option.{slice_get_within}
use Rattle.law_results_events.specs.Below.global_addr.Words.{colour_of, server_of, address_of}
use Rattle.law_results_events.specs.Below.heap_partition.declared.value.Cell.{Cell}
use Rattle.law_results_events.specs.Below.heap_partition.declared.value.Owned.{Owned}
use Rattle.law_results_events.specs.Below.colour_retire.Colours.{picked, rest_of}
use Rattle.law_results_events.specs.Below.owner_box.View.{PartitionState}
use Rattle.law_results_events.specs.Below.owner_box.Partition.{cell_of, next_place, new_word, put_cell, made, made_again, freed, renewed, with_value, stored}
use Rattle.law_results_events.proofs.Below.owner_box.Issued.{packed}
use Rattle.law_results_events.specs.Below.server_model.Servers.{Server, Cluster, server_at}
use Rattle.law_results_events.specs.Below.coherent_memory.Names.{Among, tot, one}
use Rattle.law_results_events.specs.Below.coherent_memory.Things.{Thing, lies, vacant, retired, counts, things_at, cell_things, free_things, partition_things, copy_things, mutex_things, task_things, standing_things, waiting_things, leaving_things, server_things, servers_things, things_of}
use Rattle.law_results_events.specs.Below.coherent_memory.Sight.{is_spot, is_issued_at, is_issued, colour_up_to, word_of_object, sight, issued}
use Rattle.law_results_events.specs.Below.coherent_memory.Weights.{states, below}
use Rattle.law_results_events.specs.Below.coherent_memory.Coherent.{IsSound}
use Rattle.law_results_events.proofs.Below.coherent_memory.Names.{and_left, and_right, same_number}
use Rattle.law_results_events.specs.Below.law_counts_sums.Sums.{is_server}
use Rattle.law_results_events.proofs.Below.law_counts_sums.Bags.{counts_of, body_things, rest_things, all_standing, server_same}
use Rattle.law_results_events.proofs.Below.law_counts_sums.Events.{others_of, tot-server}
use Rattle.law_results_events.proofs.Below.law_counts_sums.Sound.{sound_has_sums}
use Rattle.law_results_events.proofs.Below.law_counts_sums.Trades.{tot-append}
use Rattle.law_results_events.proofs.Below.law_words_paths.paths.InState.{only_one}
use Rattle.law_results_events.proofs.Below.law_words_paths.paths.Contained.{listed_in}
use Rattle.law_results_events.proofs.Below.law_words_paths.paths.Origins.{among_first, among_second}
use Rattle.law_results_events.proofs.Below.law_words_paths.paths.Sole.{some_is}
use Rattle.law_results_events.proofs.Below.law_words_kept.reads.Lookups.{one_state}
use Rattle.law_results_events.proofs.Below.law_results_reads.Flights.{has_weight}
use Rattle.law_results_events.proofs.Below.law_results_reads.Pointing.{its_partition}
use Rattle.law_results_events.proofs.Below.law_heap_still.events.Addresses.{next_empty}
use Rattle.law_results_events.specs.Below.law_words_kept.moves.Relaid.{NextIsVacant}
use Rattle.law_results_events.proofs.writes.Memory.{Sane}

-- LATER

-- of the free addresses some first ones were taken, none came, and no address went
pub record Later (p q : PartitionState) : Type 0 where
  pub server : q.server ≡ p.server
  pub limit : q.limit ≡ p.limit
  pub longer : length p.cells ≤ length q.cells
  pub taken : ℕ
  pub free : q.free ≡ drop_first taken p.free

pub later_itself : (p : PartitionState) → Later p p
later_itself p = record { server = refl; limit = refl; longer = omega arith; taken = 0; free = refl }

pub later_stored : (p q : PartitionState) (w : ℕ) (v : Owned) → Later p q → Later p (stored q w v)
later_stored p q w v l =
    let same : length (stored q w v).cells ≡ length q.cells = length-set q.cells (address_of w) (with_value v (cell_of q w)) in
    record { server = l.server; limit = l.limit; longer = (let m = l.longer in omega (arith, m, same)); taken = l.taken; free = l.free }

rest_dropped : (n : ℕ) (xs : List (ℕ × ℕ)) → rest_of (drop_first n xs) ≡ drop_first (suc n) xs
rest_dropped zero [] = refl
rest_dropped zero (x ∷ xs) = refl
rest_dropped (suc n) [] = refl
rest_dropped (suc n) (x ∷ xs) = rest_dropped n xs

put_longer : (xs : List (Option Cell)) (a : ℕ) (c : Cell) → length xs ≤ length (put_cell xs a c)
put_longer xs a c = by (a == length xs)
  where
    by : (q : Bool) → length xs ≤ length (if q then xs ++ Some c ∷ [] else slice_set xs a (Some c))
    by true = omega (arith, length-append xs (Some c ∷ []))
    by false = omega (arith, length-set xs a (Some c))

-- at the last colour the address that is left isn't free again
free_stays : (q : PartitionState) (w : ℕ) → colour_of w + 1 ≡ q.limit → (freed q w).free ≡ q.free
free_stays q w last = let test : nat_lt (colour_of w + 1) q.limit ≡ false = grind (arith, nat_tests, last) in ap (λ b. if b then (address_of w, colour_of w + 1) ∷ q.free else q.free) test

pub later_renewed : (p q : PartitionState) (w : ℕ) → colour_of w + 1 ≡ q.limit → Later p q → Later p (renewed q w)
later_renewed p q w last l = by (cell_of q w)
  where
    as_long : length (freed q w).cells ≡ length q.cells
    as_long = length-set q.cells (address_of w) None

    by : (o : Option Cell) → Later p (made_again (freed q w) o)
    by None = record { server = l.server; limit = l.limit; longer = (let m = l.longer in omega (arith, m, as_long)); taken = l.taken; free = free_stays q w last ∙ l.free }
    by (Some c) = record {
      server = l.server;
      limit = l.limit;
      longer = (let m = l.longer in let n = put_longer (freed q w).cells (next_place (freed q w)).0 c in omega (arith, m, as_long, n));
      taken = suc l.taken;
      free = ap rest_of (free_stays q w last ∙ l.free) ∙ rest_dropped l.taken p.free;
    }

-- WHAT STANDS THERE WHEN THE EVENT BEGAN

none_issued : (colours w : ℕ) (ps : List Rattle.law_results_events.specs.Below.coherent_memory.Sight.Pointer) (b : List Thing) → ((x : Thing) → Among x b → is_issued_at colours ps w x ≡ false) → is_issued colours ps b w ≡ false
none_issued colours w ps [] f = refl
none_issued colours w ps (x ∷ b) f = ap (λ q. q || is_issued colours ps b w) (f x (inl refl)) ∙ none_issued colours w ps b (λ y h. f y (inr h))

all_less : (f g : Thing → ℕ) → ((x : Thing) → f x ≤ g x) → (b : List Thing) → tot f b ≤ tot g b
all_less f g h [] = omega arith
all_less f g h (x ∷ b) = omega (arith, h x, all_less f g h b)

fewer : (p q : Bool) → one (p && q) ≤ one p
fewer true true = omega arith
fewer true false = omega arith
fewer false q = omega arith

below_server : (at : ℕ × ℕ) (x : Thing) → below at x ≤ is_server at.0 x
below_server at (counts r next old started made events) = fewer (r == at.0) (nat_lt at.1 next)
below_server at _ = omega arith

itself : (n : ℕ) → (n == n) ≡ true
itself n = grind (arith, nat_tests)

same_spot : (r a s d : ℕ) → s ≡ r → d ≡ a → 1 ≤ one (s == r && d == a)
same_spot r a s d e f =
    let x : (s == r) ≡ true = grind (arith, nat_tests, e) in
    let y : (d == a) ≡ true = grind (arith, nat_tests, f) in
    rw x (rw y (omega arith))

-- what a server's partition has is among the things
server_among : (ss : List Server) (number : ℕ) (s : Server) (y : Thing) → server_at ss number ≡ Some s → Among y (server_things s) → Among y (servers_things ss)
server_among [] number s y e h = absurd (cc e)
server_among (z ∷ ss) number s y e h = by (z.rest.number == number) e (λ g. server_among ss number s y g h)
  where
    by : (b : Bool) → (if b then Some z else server_at ss number) ≡ Some s → (server_at ss number ≡ Some s → Among y (servers_things ss)) → Among y (server_things z ++ servers_things ss)
    by true f go = among_first y (server_things z) (servers_things ss) (subst (λ (v : Server). Among y (server_things v)) (sym (some_is f)) h)
    by false f go = among_second y (server_things z) (servers_things ss) (go f)

pub partition_among : (s : Server) (y : Thing) → Among y (partition_things s.rest.number s.rest.partition) → Among y (server_things s)
partition_among s y h =
    let n = s.rest.number in
    let head = counts n (length s.rest.partition.cells) s.rest.partition.retired s.rest.started s.rest.mutexes.made s.events in
    let p1 = head ∷ partition_things n s.rest.partition in
    let p2 = p1 ++ things_at (copy_things n) 0 s.rest.cache in
    let p3 = p2 ++ things_at (mutex_things n) 0 s.rest.mutexes.there in
    let p4 = p3 ++ things_at (task_things n) 0 s.rest.tasks in
    let p5 = p4 ++ things_at (standing_things n) 0 s.threads in
    let p6 = p5 ++ things_at (waiting_things n) 0 s.rest.inbox in
    let first : Among y p1 = inr h in
    among_first y p6 (things_at leaving_things 0 s.rest.outbox)
    (among_first y p5 (things_at (waiting_things n) 0 s.rest.inbox)
    (among_first y p4 (things_at (standing_things n) 0 s.threads)
    (among_first y p3 (things_at (task_things n) 0 s.rest.tasks) (among_first y p2 (things_at (mutex_things n) 0 s.rest.mutexes.there) (among_first y p1 (things_at (copy_things n) 0 s.rest.cache) first)))))

first_dropped : (n : ℕ) (xs : List (ℕ × ℕ)) (x : ℕ × ℕ) (ys : List (ℕ × ℕ)) → drop_first n xs ≡ x ∷ ys → slice_get xs n ≡ Some x
first_dropped zero [] x ys e = absurd (cc e)
first_dropped zero (z ∷ xs) x ys e = let s : z ≡ x = cc in ap (λ v. Some v) s
first_dropped (suc n) [] x ys e = absurd (cc e)
first_dropped (suc n) (z ∷ xs) x ys e = first_dropped n xs x ys e

module _ (k : Cluster) (sound : IsSound k) (number : ℕ) (s : Server) (here : server_at k.servers number ≡ Some s) where
  abbrev n : ℕ
  n = s.rest.number

  abbrev p : PartitionState
  p = s.rest.partition

  abbrev others : List Thing
  others = servers_things (others_of k.servers number)

  -- an address that wasn't reached has no state
  unreached : (a : ℕ) → length p.cells ≤ a → tot (states (n, a)) (things_of k) ≡ 0
  unreached a far =
      let sums = sound_has_sums k sound in
      let g = below (n, a) in
      let u = is_server n in
      let body = body_things n s.rest in
      let threads = all_standing n s.threads in
      let own : u (counts_of n s.events s.rest) ≡ 1 = ap one (itself n) in
      let test : nat_lt a (length p.cells) ≡ false = grind (arith, nat_tests, far) in
      let mine : g (counts_of n s.events s.rest) ≡ 0 = ap (λ b. one (b && nat_lt a (length p.cells))) (itself n) ∙ ap one test in
      let all : tot g (things_of k) ≡ tot g threads + (g (counts_of n s.events s.rest) + tot g body) + tot g others = omega (arith, (tot-server g k.servers number s s here).0, server_same s g, tot-append g threads (rest_things n s.events s.rest)) in
      let few : tot u threads + (u (counts_of n s.events s.rest) + tot u body) + tot u others ≤ 1 =
      omega (arith, (tot-server u k.servers number s s here).0, server_same s u, tot-append u threads (rest_things n s.events s.rest), sums.servers_differ n) in
      omega (arith, sums.one_state (n, a), all, few, own, mine, all_less g u (below_server (n, a)) threads, all_less g u (below_server (n, a)) body, all_less g u (below_server (n, a)) others)

  spot_is : (w r a q d : ℕ) → server_of w ≡ r → address_of w ≡ a → is_spot q d w ≡ true → (q ≡ r) × (d ≡ a)
  spot_is w r a q d f g e =
      (sym (same_number (server_of w) q (and_left (server_of w == q) (address_of w == d) e)) ∙ f, sym (same_number (address_of w) d (and_right (server_of w == q) (address_of w == d) e)) ∙ g)

  module _ (w : ℕ) (server : server_of w ≡ n) where
    -- at an address that no state tells of
    beyond : length p.cells ≤ address_of w → issued (sight k) w ≡ false
    beyond far = none_issued (sight k).options.colours w (sight k).pointers (things_of k) none
      where
        no_state : (x : Thing) → Among x (things_of k) → 1 ≤ states (n, address_of w) x → ⊥
        no_state x h l = (let m = has_weight (states (n, address_of w)) x (things_of k) h in let z = unreached (address_of w) far in absurd (omega (arith, l, m, z)))

        none : (x : Thing) → Among x (things_of k) → is_issued_at (sight k).options.colours (sight k).pointers w x ≡ false
        none (lies q d c) h = by (is_spot q d w) refl
          where
            by : (b : Bool) → is_spot q d w ≡ b → (b && colour_up_to (word_of_object (sight k).pointers c.object) w) ≡ false
            by false e = refl
            by true e = let m = spot_is w n (address_of w) q d server refl e in absurd (no_state (lies q d c) h (same_spot n (address_of w) q d m.0 m.1))
        none (vacant q d c) h = by (is_spot q d w) refl
          where
            by : (b : Bool) → is_spot q d w ≡ b → (b && nat_lt (colour_of w) c) ≡ false
            by false e = refl
            by true e = let m = spot_is w n (address_of w) q d server refl e in absurd (no_state (vacant q d c) h (same_spot n (address_of w) q d m.0 m.1))
        none (retired q d) h = by (is_spot q d w) refl
          where
            by : (b : Bool) → is_spot q d w ≡ b → (b && nat_lt (colour_of w) (sight k).options.colours) ≡ false
            by false e = refl
            by true e = let m = spot_is w n (address_of w) q d server refl e in absurd (no_state (retired q d) h (same_spot n (address_of w) q d m.0 m.1))
        none _ h = refl

    -- at a free address, with its next colour
    at_free : (i : ℕ) (pair : ℕ × ℕ) → slice_get p.free i ≡ Some pair → address_of w ≡ pair.0 → colour_of w ≡ pair.1 → issued (sight k) w ≡ false
    at_free i pair e address colour = none_issued (sight k).options.colours w (sight k).pointers (things_of k) none
      where
        there : Among (vacant n pair.0 pair.1) (things_of k)
        there =
            server_among k.servers number s (vacant n pair.0 pair.1) here
            (partition_among s (vacant n pair.0 pair.1)
            (among_second (vacant n pair.0 pair.1) (things_at (cell_things n p.free) 0 p.cells) (things_at (free_things n) 0 p.free) (listed_in (free_things n) (vacant n pair.0 pair.1) 0 i p.free pair e (inl refl))))

        its : (x : Thing) → Among x (things_of k) → 1 ≤ states (n, pair.0) x → vacant n pair.0 pair.1 ≡ x
        its x h l = only_one (states (n, pair.0)) (vacant n pair.0 pair.1) x (things_of k) (one_state k sound (n, pair.0)) there h (same_spot n pair.0 n pair.0 refl refl) l

        same_colour : {q d m : ℕ} → vacant n pair.0 pair.1 ≡ vacant q d m → pair.1 ≡ m
        same_colour f = cc

        none : (x : Thing) → Among x (things_of k) → is_issued_at (sight k).options.colours (sight k).pointers w x ≡ false
        none (lies q d c) h = by (is_spot q d w) refl
          where
            by : (b : Bool) → is_spot q d w ≡ b → (b && colour_up_to (word_of_object (sight k).pointers c.object) w) ≡ false
            by false f = refl
            by true f = let m = spot_is w n pair.0 q d server address f in let no : vacant n pair.0 pair.1 ≡ lies q d c = its (lies q d c) h (same_spot n pair.0 q d m.0 m.1) in absurd (cc no)
        none (vacant q d c) h = by (is_spot q d w) refl
          where
            by : (b : Bool) → is_spot q d w ≡ b → (b && nat_lt (colour_of w) c) ≡ false
            by false f = refl
            by true f =
                let m = spot_is w n pair.0 q d server address f in
                let same : pair.1 ≡ c = same_colour (its (vacant q d c) h (same_spot n pair.0 q d m.0 m.1)) in
                let at_it : colour_of w ≡ c = colour ∙ same in
                grind (arith, nat_tests, at_it)
        none (retired q d) h = by (is_spot q d w) refl
          where
            by : (b : Bool) → is_spot q d w ≡ b → (b && nat_lt (colour_of w) (sight k).options.colours) ≡ false
            by false f = refl
            by true f = let m = spot_is w n pair.0 q d server address f in let no : vacant n pair.0 pair.1 ≡ retired q d = its (retired q d) h (same_spot n pair.0 q d m.0 m.1) in absurd (cc no)
        none _ h = refl

  -- so the word of the next object wasn't issued
  pub next_unissued : (q : PartitionState) → Later p q → q.server < 2 ^ 8 → (next_place q).0 < 2 ^ 40 → issued (sight k) (new_word q) ≡ false
  next_unissued q l small within = by q.free refl
    where
      parts : (colour_of (new_word q) ≡ (next_place q).1) × (server_of (new_word q) ≡ q.server) × (address_of (new_word q) ≡ (next_place q).0)
      parts = packed (next_place q).1 q.server (next_place q).0 small within

      server : server_of (new_word q) ≡ n
      server = parts.1 ∙ l.server ∙ (its_partition k sound number s here).0

      by : (fl : List (ℕ × ℕ)) → q.free ≡ fl → issued (sight k) (new_word q) ≡ false
      by [] e =
          let place : (next_place q).0 ≡ length q.cells = ap (λ f. (picked f (length q.cells)).0) e in
          beyond (new_word q) server (let m = l.longer in omega (arith, m, parts.2, place))
      by (pair ∷ rest) e =
          let place : next_place q ≡ pair = ap (λ f. picked f (length q.cells)) e in
          at_free (new_word q) server l.taken pair (first_dropped l.taken p.free pair rest (sym l.free ∙ e)) (parts.2 ∙ ap (λ (x : ℕ × ℕ). x.0) place) (parts.0 ∙ ap (λ (x : ℕ × ℕ). x.1) place)

  -- so the word of an object that gets another address later in the event wasn't issued
  pub renewal_unissued : (q : PartitionState) (w : ℕ) → Later p q → colour_of w + 1 ≡ q.limit → q.server < 2 ^ 8 → (next_place (freed q w)).0 < 2 ^ 40 → issued (sight k) (new_word (freed q w)) ≡ false
  renewal_unissued q w l last small within = by q.free refl
    where
      long : length (freed q w).cells ≡ length q.cells
      long = length-set q.cells (address_of w) None

      next_is : next_place (freed q w) ≡ picked q.free (length q.cells)
      next_is = ap₂ picked (free_stays q w last) long

      parts : (colour_of (new_word (freed q w)) ≡ (next_place (freed q w)).1) × (server_of (new_word (freed q w)) ≡ q.server) × (address_of (new_word (freed q w)) ≡ (next_place (freed q w)).0)
      parts = packed (next_place (freed q w)).1 q.server (next_place (freed q w)).0 small within

      server : server_of (new_word (freed q w)) ≡ n
      server = parts.1 ∙ l.server ∙ (its_partition k sound number s here).0

      by : (fl : List (ℕ × ℕ)) → q.free ≡ fl → issued (sight k) (new_word (freed q w)) ≡ false
      by [] e =
          let place : (next_place (freed q w)).0 ≡ length q.cells = ap (λ (x : ℕ × ℕ). x.0) (next_is ∙ ap (λ f. picked f (length q.cells)) e) in
          beyond (new_word (freed q w)) server (let m = l.longer in omega (arith, m, parts.2, place))
      by (pair ∷ rest) e =
          let place : next_place (freed q w) ≡ pair = next_is ∙ ap (λ f. picked f (length q.cells)) e in
          at_free (new_word (freed q w)) server l.taken pair (first_dropped l.taken p.free pair rest (sym l.free ∙ e)) (parts.2 ∙ ap (λ (x : ℕ × ℕ). x.0) place) (parts.0 ∙ ap (λ (x : ℕ × ℕ). x.1) place)

-- THE ADDRESS THAT COMES NEXT

beyond_none : (xs : List (Option Cell)) (i : ℕ) → length xs ≤ i → slice_index_or xs i None ≡ None
beyond_none [] i l = refl
beyond_none (x ∷ xs) zero l = absurd (omega (arith, l))
beyond_none (x ∷ xs) (suc i) l = beyond_none xs i (omega (arith, l))

set_vacant : (xs : List (Option Cell)) (i a : ℕ) → slice_get xs a ≡ Some None → slice_index_or (slice_set xs i None) a None ≡ None
set_vacant [] i a e = refl
set_vacant (x ∷ xs) zero zero e = refl
set_vacant (x ∷ xs) zero (suc a) e = vacant_there xs a e
  where
    vacant_there : (xs : List (Option Cell)) (a : ℕ) → slice_get xs a ≡ Some None → slice_index_or xs a None ≡ None
    vacant_there [] a e = refl
    vacant_there (x ∷ xs) zero e = some_is e
    vacant_there (x ∷ xs) (suc a) e = vacant_there xs a e
set_vacant (x ∷ xs) (suc i) zero e = some_is e
set_vacant (x ∷ xs) (suc i) (suc a) e = set_vacant xs i a e

vacant_at : (xs : List (Option Cell)) (a : ℕ) → slice_get xs a ≡ Some None → slice_index_or xs a None ≡ None
vacant_at [] a e = refl
vacant_at (x ∷ xs) zero e = some_is e
vacant_at (x ∷ xs) (suc a) e = vacant_at xs a e

-- it is vacant
pub place_vacant : (q : PartitionState) → Sane q → NextIsVacant q
place_vacant q sane = by q.free refl
  where
    by : (fl : List (ℕ × ℕ)) → q.free ≡ fl → NextIsVacant q
    by [] e =
        let place : (next_place q).0 ≡ length q.cells = ap (λ f. (picked f (length q.cells)).0) e in
        record { within = omega (arith, place); vacant = ap (λ i. slice_index_or q.cells i None) place ∙ beyond_none q.cells (length q.cells) (omega arith) }
    by (pair ∷ rest) e =
        let place : (next_place q).0 ≡ pair.0 = ap (λ f. (picked f (length q.cells)).0) e in
        let free : slice_get q.cells pair.0 ≡ Some None = next_empty q.server q sane.placed pair rest e in
        let less = slice_get_within q.cells pair.0 None free in
        record { within = omega (arith, place, less); vacant = ap (λ i. slice_index_or q.cells i None) place ∙ vacant_at q.cells pair.0 free }

-- so it is where an object left its address at the last colour
pub next_vacant : (q : PartitionState) (w : ℕ) → Sane q → colour_of w + 1 ≡ q.limit → NextIsVacant (freed q w)
next_vacant q w sane last = by q.free refl
  where
    long : length (freed q w).cells ≡ length q.cells
    long = length-set q.cells (address_of w) None

    next_is : next_place (freed q w) ≡ picked q.free (length q.cells)
    next_is = ap₂ picked (free_stays q w last) long

    by : (fl : List (ℕ × ℕ)) → q.free ≡ fl → NextIsVacant (freed q w)
    by [] e =
        let place : (next_place (freed q w)).0 ≡ length q.cells = ap (λ (x : ℕ × ℕ). x.0) (next_is ∙ ap (λ f. picked f (length q.cells)) e) in
        record { within = omega (arith, place, long); vacant = ap (λ i. slice_index_or (freed q w).cells i None) place ∙ beyond_none (freed q w).cells (length q.cells) (omega (arith, long)) }
    by (pair ∷ rest) e =
        let place : (next_place (freed q w)).0 ≡ pair.0 = ap (λ (x : ℕ × ℕ). x.0) (next_is ∙ ap (λ f. picked f (length q.cells)) e) in
        let free : slice_get q.cells pair.0 ≡ Some None = next_empty q.server q sane.placed pair rest e in
        let less = slice_get_within q.cells pair.0 None free in
        record { within = omega (arith, place, long, less); vacant = ap (λ i. slice_index_or (freed q w).cells i None) place ∙ set_vacant q.cells (address_of w) pair.0 free }
