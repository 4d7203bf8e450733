-- What a new thread captures goes to it value by value: what moves as a gift, what is copied as a temporary value.
use Rattle.std.proofs.Common.{◌≡◌, ◌⊎◌, inl, inr, ℕ, zero, suc, ◌+◌, Bool, true, false, if◌then◌else◌, List, [], ◌∷◌, ◌++◌, length, Option, Some, None, IsSome, refl, sym, ap, subst, ◌∙◌, arith}
use Rattle.std.specs.Prelude.{slice_get, slice_set}
use Rattle.law_words_values.specs.Below.fr_base.declared.instruction.Instr.{Instr}
use Rattle.law_words_values.specs.Below.fr_base.declared.name.ObjNo.{ObjNo}
use Rattle.law_words_values.specs.Below.heap_partition.declared.value.Owned.{Owned}
use Rattle.law_words_values.specs.Below.heap_partition.declared.value.Owned.TheVariants as owned
use Rattle.law_words_values.specs.Below.mut_borrow.declared.mutable.MutRef.{MutRef}
use Rattle.law_words_values.specs.Below.mut_borrow.declared.shared.SharedRef.{SharedRef}
use Rattle.law_words_values.specs.Below.thread_state.View.{ThreadState}
use Rattle.law_words_values.specs.Below.thread_state.declared.value.Value.{Value}
use Rattle.law_words_values.specs.Below.thread_state.declared.value.Value.TheVariants as value
use Rattle.law_words_values.specs.Below.server_model.Servers.{Rest, Server, Cluster, server_at}
use Rattle.law_words_values.specs.Below.server_model.Work.{then_some}
use Rattle.law_words_values.specs.Below.server_model.Places.{owns_nothing}
use Rattle.law_words_values.specs.Below.server_model.Start.{captured, left_after, capture_from}
use Rattle.law_words_values.specs.Below.coherent_memory.Names.{Among, tot}
use Rattle.law_words_values.specs.Below.coherent_memory.Things.{Location, in_slot, at_slot, at_temp, Thing, holds, as_gift, shares, stands, counts, partition_things, copy_things, mutex_things, task_things, waiting_things, leaving_things, things_at, slot_things, temp_things, gift_things, walk_things, standing_things, thread_things, server_things, servers_things, things_of}
use Rattle.law_words_values.specs.Below.coherent_memory.Follow.{value_in}
use Rattle.law_words_values.specs.Below.coherent_memory.Sight.{sight}
use Rattle.law_words_values.specs.Below.coherent_memory.Weights.{cells, owners, is_thread}
use Rattle.law_words_values.specs.Below.coherent_memory.Coherent.{Holds, first_at_holder, IsSound}
use Rattle.law_words_values.proofs.Below.coherent_memory.Sums.{tot-append}
use Rattle.law_words_values.proofs.Below.law_words_paths.paths.Origins.{among_first, among_second}
use Rattle.law_words_values.specs.Below.law_words_paths.words.Reworded.{HasPlaces}
use Rattle.law_words_values.specs.Below.law_words_paths.words.Unmoved.{pointing, taking_by}
use Rattle.law_words_values.proofs.Below.law_words_paths.words.Put.{Split}
use Rattle.law_words_values.proofs.Below.law_words_paths.words.Standing.{standing_among}
use Rattle.law_words_values.proofs.Below.law_counts_sums.Bags.{body_things, all_standing}
use Rattle.law_words_values.proofs.Below.law_counts_sums.Events.{others_of, tot-server}
use Rattle.law_words_values.proofs.Below.law_words_kept.stays.Alike.{ShowsAs, Alike, Within, Seen, seen_itself, within_both, within_first, itself, turned, chain, beside, in_front, joined, alone}
use Rattle.law_words_values.proofs.Below.law_words_kept.stays.Servers.{held, held_if, server_body}
use Rattle.law_words_values.proofs.Below.law_words_kept.stays.Threads.{slots_of, temps_of, thread_alike}
use Rattle.law_words_values.proofs.Below.law_words_kept.stays.Sites.{replaced}
use Rattle.law_words_values.proofs.Below.law_words_kept.stays.Steps.{IsUnseen, owned_unseen, last_points}
use Rattle.law_words_values.proofs.Below.law_words_kept.stays.Seen.{seen_alike}
use Rattle.law_words_values.specs.carried.Carried.{Carried}
use Rattle.law_words_values.proofs.carried.Replaced.{tail_of, places_on}
use Rattle.law_words_values.proofs.carried.Passing.{Here, slot, temp, nowhere, located, Passes, is_carried, is_quiet, here_a}
use Rattle.law_words_values.proofs.carried.Places.{end_is, end_none, end_things, end_sum, slot_emptied, gift_to_slot, temp_to_slot}
use Rattle.law_words_values.specs.references.Unpassed.{IsUnpassed}
use Rattle.law_words_values.proofs.references.QuietSlots.{unpassed_quiet, unpassed_steady, blind_steady, unpassed_on}
use Rattle.law_words_values.proofs.references.Beside.{with_threads, one_changes, Reached, reached_same, reached_carried, unpassed_over}

some_value : {u z : Value} → Some u ≡ Some z → u ≡ z
some_value e = cc

own_no_mut : (w : Owned) (r : MutRef) → value.Own w ≡ value.Mut r → ⊥
own_no_mut w r e = absurd cc

-- at the end of a list
slot_seen : (xs : List Value) (v : Value) → pointing (Some v) ≡ None → (i : ℕ) → pointing (slice_get (xs ++ v ∷ []) i) ≡ pointing (slice_get xs i)
slot_seen [] v e zero = e
slot_seen [] v e (suc i) = refl
slot_seen (x ∷ xs) v e zero = refl
slot_seen (x ∷ xs) v e (suc i) = slot_seen xs v e i

-- a shared reference among the things of slots
slot_listed : (n t i : ℕ) (xs : List Value) (j : ℕ) (r : SharedRef) → slice_get xs j ≡ Some (value.Shared r) → (l : Location) × Among (shares l r) (things_at (slot_things n t) i xs)
slot_listed n t i [] j r e = absurd cc
slot_listed n t i (x ∷ xs) zero r e =
    let s : x ≡ value.Shared r = cc in
    (at_slot t i, among_first (shares (at_slot t i) r) (slot_things n t i x) (things_at (slot_things n t) (i + 1) xs) (subst (λ v. Among (shares (at_slot t i) r) (slot_things n t i v)) (sym s) (inl refl)))
slot_listed n t i (x ∷ xs) (suc j) r e = let q = slot_listed n t (i + 1) xs j r e in (q.0, among_second (shares q.0 r) (slot_things n t i x) (things_at (slot_things n t) (i + 1) xs) q.1)

-- what is seen among others anyway
extra_seen : {code : List Instr} (a b : List Thing) → Within code b a → Alike code (a ++ b) a
extra_seen {code = code} a b w = record { on = within_both code a b a (λ y h. seen_itself code a y h) w; back = within_first code a a b (λ y h. seen_itself code a y h) }

shared_again : (code : List Instr) (l m : Location) (r : SharedRef) (a : List Thing) → Among (shares m r) a → Within code (shares l (record r { pinned = false }) ∷ []) a
shared_again code l m r a h y (inl e) = subst (λ z. Seen code a z) e (λ p n q. standing_among p (shares m r) a h q)
shared_again code l m r a h y (inr g) = absurd g

-- a thread that words see as another one
stands_shows : {code : List Instr} (n : ℕ) (x y : ThreadState) → ShowsAs code x y → Alike code (stands n false x ∷ []) (stands n false y ∷ [])
stands_shows {code = code} n x y s = record { on = over x y s; back = over y x (record { number = sym s.number; taking = sym s.taking; slots = λ i. sym (s.slots i); temps = λ i. sym (s.temps i) }) }
  where
    over : (x y : ThreadState) → ShowsAs code x y → (z : Thing) → Among z (stands n false x ∷ []) → Seen code (stands n false y ∷ []) z
    over x y s z (inl i) = subst (λ w. Seen code (stands n false y ∷ []) w) i (record { server = n; packed = false; thread = y; among = inl refl; shows = s })
    over x y s z (inr h) = absurd h

-- a capture: what moves is owned, and what is copied owns nothing or is a shared reference
data Capture : Bool → Value → Value → Type 0 where
  moved : (w : Owned) → Capture true (value.Own w) (value.Own w)
  copied : (w : Owned) → owns_nothing w ≡ true → Capture false (value.Own w) (value.Own w)
  viewed : (r : SharedRef) → Capture false (value.Shared r) (value.Shared (record r { pinned = false }))

how_captured : (branch moves : Bool) (v w : Value) → captured branch moves v ≡ Some w → Capture moves v w
how_captured branch true (value.Own o) w e = subst (λ z. Capture true (value.Own o) z) (some_value e) (moved o)
how_captured branch false (value.Own o) w e = by (owns_nothing o) refl e
  where
    by : (b : Bool) → owns_nothing o ≡ b → (if b then Some (value.Own o) else None) ≡ Some w → Capture false (value.Own o) w
    by true q f = subst (λ z. Capture false (value.Own o) z) (some_value f) (copied o q)
    by false q f = absurd cc
how_captured true false (value.Shared r) w e = subst (λ z. Capture false (value.Shared r) z) (some_value e) (viewed r)
how_captured true true (value.Shared r) w e = absurd cc
how_captured false true (value.Shared r) w e = absurd cc
how_captured false false (value.Shared r) w e = absurd cc
how_captured branch true value.Gone w e = absurd cc
how_captured branch false value.Gone w e = absurd cc
how_captured branch true (value.SharedSlot i) w e = absurd cc
how_captured branch false (value.SharedSlot i) w e = absurd cc
how_captured branch true (value.MutSlot i) w e = absurd cc
how_captured branch false (value.MutSlot i) w e = absurd cc
how_captured branch true (value.Mut r) w e = absurd cc
how_captured branch false (value.Mut r) w e = absurd cc
how_captured branch true (value.Held m) w e = absurd cc
how_captured branch false (value.Held m) w e = absurd cc

-- SUMS OF A SERVER WITH OTHER THREADS

pub threads_sum : (f : Thing → ℕ) (r : Rest) (e : ℕ) (ts us : List ThreadState) → tot f (server_things (record { rest = r; threads = ts; events = e })) + tot f (all_standing r.number us) ≡ tot f (server_things (record { rest = r; threads = us; events = e })) + tot f (all_standing r.number ts)
threads_sum f r e ts us =
    let n = r.number in
    let l = counts n (length r.partition.cells) r.partition.retired r.started r.mutexes.made e ∷ partition_things n r.partition ++ things_at (copy_things n) 0 r.cache ++ things_at (mutex_things n) 0 r.mutexes.there ++ things_at (task_things n) 0 r.tasks in
    let i = things_at (waiting_things n) 0 r.inbox in
    let o = things_at leaving_things 0 r.outbox in
    let a1 = tot-append f (l ++ all_standing n ts ++ i) o in
    let a2 = tot-append f (l ++ all_standing n ts) i in
    let a3 = tot-append f l (all_standing n ts) in
    let b1 = tot-append f (l ++ all_standing n us ++ i) o in
    let b2 = tot-append f (l ++ all_standing n us) i in
    let b3 = tot-append f l (all_standing n us) in
    omega (arith, a1, a2, a3, b1, b2, b3)

module _ (k : Cluster) (n : ℕ) (s : Server) (here : server_at k.servers n ≡ Some s) (r : Rest) (number : r.number ≡ n) (e : ℕ) where
  abbrev others : List Thing
  others = servers_things (others_of k.servers n)

  abbrev server : List ThreadState → Server
  server ts = record { rest = r; threads = ts; events = e }

  is_there : IsSome (server_at k.servers n)
  is_there = subst (λ o. IsSome o) (sym here) refl

  -- as much of each weight
  sum_same : (f : Thing → ℕ) (ts us : List ThreadState) → tot f (all_standing n us) ≡ tot f (all_standing n ts) → tot f (things_of (with_threads k n r e us)) ≡ tot f (things_of (with_threads k n r e ts))
  sum_same f ts us same =
      let a = (tot-server f k.servers n s (server ts) here).1 in
      let b = (tot-server f k.servers n s (server us) here).1 in
      let c = threads_sum f r e ts us in
      let d = subst (λ m. tot f (all_standing m us) ≡ tot f (all_standing m ts)) (sym number) same in
      omega (arith, a, b, c, d)

  pub places_same : (ts us : List ThreadState) → ((t : ℕ) → tot (is_thread t) (all_standing n us) ≡ tot (is_thread t) (all_standing n ts)) → ((o : ObjNo) → tot (cells o) (all_standing n us) ≡ tot (cells o) (all_standing n ts)) → ((o : ObjNo) → tot (owners o) (all_standing n us) ≡ tot (owners o) (all_standing n ts))
      → HasPlaces (with_threads k n r e ts) → HasPlaces (with_threads k n r e us)
  places_same ts us a b c p = record {
    numbers_differ = λ t. (let q = sum_same (is_thread t) ts us (a t) in omega (arith, q, p.numbers_differ t));
    home_of_each = λ o. (let q = sum_same (cells o) ts us (b o) in omega (arith, q, p.home_of_each o));
    owner_of_each = λ o. (let q = sum_same (cells o) ts us (b o) in let w = sum_same (owners o) ts us (c o) in w ∙ p.owner_of_each o ∙ sym q);
  }

  -- threads that words see alike together
  pub threads_alike : (ts us : List ThreadState) → Alike k.code (all_standing n ts) (all_standing n us) → Alike k.code (things_of (with_threads k n r e ts)) (things_of (with_threads k n r e us))
  threads_alike ts us a = replaced n k.servers s (server ts) (server us) [] here (chain (server_body (server ts)) (chain (subst (λ m. Alike k.code (all_standing m ts ++ body_things m r) (all_standing m us ++ body_things m r)) (sym number) (beside a (itself (body_things n r)))) (turned (server_body (server us)))))

-- TWO THREADS OF THE SERVER: the first one gives, the second one gets

module _ (k : Cluster) (sound : IsSound k) (n : ℕ) (s : Server) (here : server_at k.servers n ≡ Some s) (r : Rest) (number : r.number ≡ n) (e : ℕ) (zs : List ThreadState) (Free : ℕ → Type 0) where
  abbrev pub both : ThreadState → ThreadState → Cluster
  both x u = with_threads k n r e (x ∷ u ∷ zs)

  there : IsSome (server_at k.servers n)
  there = subst (λ o. IsSome o) (sym here) refl

  split_first : (x y u : ThreadState) → Split (things_of (both x u)) (things_of (both y u)) (thread_things n false x) (thread_things n false y)
  split_first x y u = one_changes k n r e [] (u ∷ zs) x y there number

  split_second : (x u v : ThreadState) → Split (things_of (both x u)) (things_of (both x v)) (thread_things n false u) (thread_things n false v)
  split_second x u v = one_changes k n r e (x ∷ []) zs u v there number

  -- the words stay to them, and no holder passes a slot that is to be moved
  pub record Holding (x u : ThreadState) : Type 0 where
    pub reached : Reached k (both x u)
    pub free : (i : ℕ) → Free i → IsUnpassed (both x u) (at_slot x.number i)

  firsts : (x u : ThreadState) → Holding x u → Holds (both x u) first_at_holder
  firsts x u h = h.reached.leaves.holders sound.words.first_at_holder

  -- words see alike of both threads together
  seen_on : (x u y v : ThreadState) → y.number ≡ x.number → HasPlaces (both y v) → Alike k.code (thread_things n false x ++ thread_things n false u) (thread_things n false y ++ thread_things n false v) → Holding x u → Holding y v
  seen_on x u y v named places al h =
      let z = all_standing n zs in
      let alike : Alike k.code (all_standing n (x ∷ u ∷ zs)) (all_standing n (y ∷ v ∷ zs)) = standing_alike x u y v al in
      let seen = seen_alike (both x u) (both y v) h.reached.places places refl (threads_alike k n s here r number e (x ∷ u ∷ zs) (y ∷ v ∷ zs) alike) in record {
        reached = reached_same k (both x u) (both y v) h.reached places seen;
        free = λ i f. subst (λ m. IsUnpassed (both y v) (at_slot m i)) (sym named) (unpassed_on (both x u) (both y v) (at_slot x.number i) seen.stands (h.free i f));
      }
    where
      rest : List Thing
      rest = things_at (standing_things n) (0 + 1 + 1) zs

      standing_alike : (x u y v : ThreadState) → Alike k.code (thread_things n false x ++ thread_things n false u) (thread_things n false y ++ thread_things n false v) → Alike k.code (all_standing n (x ∷ u ∷ zs)) (all_standing n (y ∷ v ∷ zs))
      standing_alike x u y v al = chain (joined (thread_things n false x) (thread_things n false u) rest) (chain (beside al (itself rest)) (turned (joined (thread_things n false y) (thread_things n false v) rest)))

  -- a value of the second thread goes to where nothing is
  second_passes : (x u v : ThreadState) (from to : Here) → Passes k.code n u v from to → ((i : ℕ) → (slot i ≡ from) ⊎ (slot i ≡ to) → pointing (slice_get u.slots i) ≡ None)
      → ((l : Location) (q : MutRef) → located u.number from ≡ Some l → value_in (sight (both x u)).ground l ≡ Some (value.Mut q) → ⊥) → Holding x u → Holding x v
  second_passes x u v from to p blind other_kind h = record {
    reached = reached_carried k (both x u) (both x v) _ _ (firsts x u h) h.reached places carried;
    free = λ i f. unpassed_over (both x u) (both x v) _ _ (at_slot x.number i) carried (firsts x u h) other_kind (blind_steady (both x u) (both x v) n u v from to p (split_second x u v) refl h.reached.places places blind) (h.free i f);
  }
    where
      places : HasPlaces (both x v)
      places = places_on (both x u) (both x v) n u v p.number (split_second x u v) p.owns h.reached.places

      carried : Carried (both x u) (both x v) (located u.number from) (located u.number to)
      carried =
          is_carried (both x u) (both x v) n u v from to p (split_second x u v) refl h.reached.places places
          (is_quiet (both x u) (both x v) n u v from to p (split_second x u v) refl h.reached.places places blind (firsts x u h) h.reached.rooted)

  -- WHAT MOVES

  -- first it is a gift
  gives_away : (x u : ThreadState) (none : taking_by x.number x.phase (slice_get k.code x.pc) ≡ None) (i : ℕ) (w : Owned) → slice_get x.slots i ≡ Some (value.Own w) → x.gift ≡ None → Free i → Holding x u
      → Holding (record x { slots = slice_set x.slots i value.Gone; gift = Some w }) u
  gives_away x u none i w stood free f h = record {
    reached = reached_carried k (both x u) (both y u) _ _ (firsts x u h) h.reached places carried;
    free = λ j q. unpassed_over (both x u) (both y u) _ _ (at_slot x.number j) carried (firsts x u h)
        (λ l m at is. own_no_mut w m (some_value (sym stood ∙ sym (here_a (both x u) (both y u) n x y (slot i) nowhere p (split_first x y u) refl h.reached.places places (slot i) l at) ∙ is)))
        (unpassed_steady (both x u) (both y u) n x y i nowhere p (split_first x y u) refl h.reached.places places (λ j z. absurd cc) (h.free i f)) (h.free j q);
  }
    where
      y : ThreadState
      y = record x { slots = slice_set x.slots i value.Gone; gift = Some w }

      p : Passes k.code n x y (slot i) nowhere
      p = slot_emptied k.code n x none i w stood free

      places : HasPlaces (both y u)
      places = places_on (both x u) (both y u) n x y refl (split_first x y u) p.owns h.reached.places

      carried : Carried (both x u) (both y u) (located x.number (slot i)) None
      carried =
          is_carried (both x u) (both y u) n x y (slot i) nowhere p (split_first x y u) refl h.reached.places places
          (unpassed_quiet (both x u) (both y u) n x y i nowhere p (split_first x y u) refl h.reached.places places (λ j z. absurd cc) (h.free i f) h.reached.rooted)

  -- then the other one's gift
  gift_alike : (x : ThreadState) (w : Owned) → x.gift ≡ None → Alike k.code (thread_things n false (record x { gift = Some w })) (held w ++ thread_things n false x)
  gift_alike x w free =
      thread_alike n n false false (record x { gift = Some w }) x [] (held w) (record { number = refl; taking = refl; slots = λ i. refl; temps = λ i. refl }) (itself (slots_of n x)) (itself (temps_of n x))
      (subst (λ g. Alike k.code (held w) (held w ++ held_if g)) (sym free) (turned (alone (held w))))

  gift_sum : (f : Thing → ℕ) (x : ThreadState) (w : Owned) → f (stands n false (record x { gift = Some w })) ≡ f (stands n false x) → x.gift ≡ None → tot f (thread_things n false (record x { gift = Some w })) ≡ tot f (thread_things n false x) + f (holds (as_gift x.number) w)
  gift_sum f x w same free =
      let a = things_at (walk_things n) 0 x.walk in
      let b = slots_of n x in
      let c = temps_of n x in
      let g = holds (as_gift x.number) w ∷ [] in
      let z : tot f (gift_things x.number x.gift) ≡ 0 = ap (λ o. tot f (gift_things x.number o)) free in
      let p1 = tot-append f (g ++ a ++ b) c in
      let p2 = tot-append f (g ++ a) b in
      let p3 = tot-append f g a in
      let q1 = tot-append f (gift_things x.number x.gift ++ a ++ b) c in
      let q2 = tot-append f (gift_things x.number x.gift ++ a) b in
      let q3 = tot-append f (gift_things x.number x.gift) a in
      omega (arith, same, z, p1, p2, p3, q1, q2, q3)

  two_sum : (f : Thing → ℕ) (x u : ThreadState) → tot f (all_standing n (x ∷ u ∷ zs)) ≡ tot f (thread_things n false x) + tot f (thread_things n false u) + tot f (things_at (standing_things n) (0 + 1 + 1) zs)
  two_sum f x u = let p = tot-append f (thread_things n false x) (thread_things n false u ++ things_at (standing_things n) (0 + 1 + 1) zs) in let q = tot-append f (thread_things n false u) (things_at (standing_things n) (0 + 1 + 1) zs) in omega (arith, p, q)

  gift_goes : (x u : ThreadState) (w : Owned) → x.gift ≡ None → u.gift ≡ None → Holding (record x { gift = Some w }) u → Holding x (record u { gift = Some w })
  gift_goes x u w free clear h = seen_on (record x { gift = Some w }) u x (record u { gift = Some w }) refl places al h
    where
      TX : List Thing
      TX = thread_things n false x

      TU : List Thing
      TU = thread_things n false u

      al : Alike k.code (thread_things n false (record x { gift = Some w }) ++ TU) (TX ++ thread_things n false (record u { gift = Some w }))
      al = chain (beside (gift_alike x w free) (itself TU)) (chain (turned (joined (held w) TX TU)) (chain (in_front (held w) TX TU) (beside (itself TX) (turned (gift_alike u w clear)))))

      sums : (f : Thing → ℕ) → ((t : ℕ) (v : Owned) → f (holds (as_gift t) v) ≡ f (holds (as_gift 0) v)) → ((y : ThreadState) (v : Owned) → f (stands n false (record y { gift = Some v })) ≡ f (stands n false y))
          → tot f (all_standing n (x ∷ record u { gift = Some w } ∷ zs)) ≡ tot f (all_standing n (record x { gift = Some w } ∷ u ∷ zs))
      sums f same_gift same_stand =
          let a = gift_sum f x w (same_stand x w) free in
          let b = gift_sum f u w (same_stand u w) clear in
          let c = two_sum f x (record u { gift = Some w }) in
          let d = two_sum f (record x { gift = Some w }) u in
          let g = same_gift x.number w in
          let g2 = same_gift u.number w in
          omega (arith, a, b, c, d, g, g2)

      places : HasPlaces (both x (record u { gift = Some w }))
      places = places_same k n s here r number e (record x { gift = Some w } ∷ u ∷ zs) (x ∷ record u { gift = Some w } ∷ zs) (λ t. sums (is_thread t) (λ a v. refl) (λ y v. refl)) (λ o. sums (cells o) (λ a v. refl) (λ y v. refl)) (λ o. sums (owners o) (λ a v. refl) (λ y v. refl)) h.reached.places

  -- and then in its newest slot
  gift_lands : (x u : ThreadState) (none : taking_by u.number u.phase (slice_get k.code u.pc) ≡ None) (w : Owned) → u.gift ≡ Some w → Holding x u → Holding x (record u { gift = None; slots = u.slots ++ value.Own w ∷ [] })
  gift_lands x u none w given h =
      second_passes x u (record u { gift = None; slots = u.slots ++ value.Own w ∷ [] }) nowhere (slot (length u.slots)) (gift_to_slot k.code n u none w given)
      blind (λ l q at is. absurd cc) h
    where
      blind : (i : ℕ) → (slot i ≡ nowhere) ⊎ (slot i ≡ slot (length u.slots)) → pointing (slice_get u.slots i) ≡ None
      blind i (inl q) = absurd cc
      blind i (inr q) = let z : i ≡ length u.slots = cc in ap (λ j. pointing (slice_get u.slots j)) z ∙ ap pointing (end_none u.slots)

  pub moves_over : (x u : ThreadState) → taking_by x.number x.phase (slice_get k.code x.pc) ≡ None → taking_by u.number u.phase (slice_get k.code u.pc) ≡ None → (i : ℕ) (w : Owned) → slice_get x.slots i ≡ Some (value.Own w) → x.gift ≡ None → u.gift ≡ None → Free i → Holding x u
      → Holding (record x { slots = slice_set x.slots i value.Gone; gift = None }) (record u { gift = None; slots = u.slots ++ value.Own w ∷ [] })
  moves_over x u none none2 i w stood free clear f h =
      let y : ThreadState = record x { slots = slice_set x.slots i value.Gone; gift = None } in
      gift_lands y (record u { gift = Some w }) none2 w refl (gift_goes y u w refl clear (gives_away x u none i w stood free f h))

  -- WHAT IS COPIED

  -- a value that words don't see
  plain_lands : (x u : ThreadState) (v : Owned) → owns_nothing v ≡ true → Holding x u → Holding x (record u { slots = u.slots ++ value.Own v ∷ [] })
  plain_lands x u v plain h = seen_on x u x z refl places (beside (itself (thread_things n false x)) al) h
    where
      z : ThreadState
      z = record u { slots = u.slots ++ value.Own v ∷ [] }

      unseen : IsUnseen (value.Own v)
      unseen = owned_unseen v plain

      points : pointing (Some (value.Own v)) ≡ None
      points = plain_points v plain
        where
          plain_points : (v : Owned) → owns_nothing v ≡ true → pointing (Some (value.Own v)) ≡ None
          plain_points owned.Nothing q = refl
          plain_points owned.Unit q = refl
          plain_points (owned.Int i) q = refl
          plain_points (owned.Box b) q = absurd cc
          plain_points (owned.Mutex m) q = absurd cc
          plain_points (owned.Task t) q = absurd cc

      al : Alike k.code (thread_things n false u) (thread_things n false z)
      al =
          let q = end_things {code = k.code} (slot_things n u.number) 0 u.slots (value.Own v) in
          thread_alike n n false false u z [] [] (record { number = refl; taking = refl; slots = λ i. slot_seen u.slots (value.Own v) points i; temps = λ i. refl })
          (turned (chain q.1 (chain (beside (itself (slots_of n u)) (unseen.things n (in_slot u.number q.0) (at_slot u.number q.0))) (alone (slots_of n u))))) (itself (temps_of n u)) (itself (held_if u.gift))

      weighs : (o : ObjNo) → (v : Owned) → owns_nothing v ≡ true → (j : ℕ) → tot (owners o) (slot_things n u.number j (value.Own v)) ≡ 0
      weighs o owned.Nothing q j = refl
      weighs o owned.Unit q j = refl
      weighs o (owned.Int i) q j = refl
      weighs o (owned.Box b) q j = absurd cc
      weighs o (owned.Mutex m) q j = absurd cc
      weighs o (owned.Task t) q j = absurd cc

      owns : (o : ObjNo) → tot (owners o) (tail_of n z) ≡ tot (owners o) (tail_of n u)
      owns o =
          let g = gift_things u.number u.gift in
          let a = things_at (walk_things n) 0 u.walk in
          let c = temps_of n u in
          let q = end_sum (owners o) (slot_things n u.number) 0 u.slots (value.Own v) in
          let w = weighs o v plain q.0 in
          let p1 = tot-append (owners o) (g ++ a ++ slots_of n u) c in
          let p2 = tot-append (owners o) (g ++ a) (slots_of n u) in
          let r1 = tot-append (owners o) (g ++ a ++ things_at (slot_things n u.number) 0 (u.slots ++ value.Own v ∷ [])) c in
          let r2 = tot-append (owners o) (g ++ a) (things_at (slot_things n u.number) 0 (u.slots ++ value.Own v ∷ [])) in
          omega (arith, q.1, w, p1, p2, r1, r2)

      places : HasPlaces (both x z)
      places = places_on (both x u) (both x z) n u z refl (split_second x u z) owns h.reached.places

  -- a shared reference, which is at hand first
  module _ (x u : ThreadState) (r2 : SharedRef) (i : ℕ) (stands_x : slice_get x.slots i ≡ Some (value.Shared r2)) where
    abbrev v : Value
    v = value.Shared (record r2 { pinned = false })

    abbrev at_hand : ThreadState
    at_hand = record u { temps = u.temps ++ v ∷ [] }

    abbrev TX : List Thing
    TX = thread_things n false x

    abbrev TU : List Thing
    TU = thread_things n false u

    abbrev front : List Thing
    front = gift_things u.number u.gift ++ things_at (walk_things n) 0 u.walk ++ slots_of n u

    hand_alike : (j : ℕ) × Alike k.code (thread_things n false at_hand) (TU ++ temp_things n u.number j v)
    hand_alike =
        let q = end_things {code = k.code} (temp_things n u.number) 0 u.temps v in
        let b = temp_things n u.number q.0 v in (
          q.0,
          beside {a = stands n false at_hand ∷ []} {b = stands n false u ∷ []} (stands_shows n at_hand u (record { number = refl; taking = refl; slots = λ m. refl; temps = λ m. sym (last_points u.temps v refl m) }))
              (chain (beside (itself front) q.1) (joined front (temps_of n u) b)),
        )

    shown_before : (j : ℕ) → Within k.code (temp_things n u.number j v) (TX ++ TU)
    shown_before j =
        let m = slot_listed n x.number 0 x.slots i r2 stands_x in
        let w = stands n false x ∷ gift_things x.number x.gift ++ things_at (walk_things n) 0 x.walk in
        let in_x : Among (shares m.0 r2) TX = among_first (shares m.0 r2) (w ++ slots_of n x) (temps_of n x) (among_second (shares m.0 r2) w (slots_of n x) m.1) in
        shared_again k.code (at_temp u.number j) m.0 r2 (TX ++ TU) (among_first (shares m.0 r2) TX TU in_x)

    hand_sums : (o : ObjNo) → tot (owners o) (tail_of n at_hand) ≡ tot (owners o) (tail_of n u)
    hand_sums o =
        let q = end_sum (owners o) (temp_things n u.number) 0 u.temps v in
        let z : tot (owners o) (temp_things n u.number q.0 v) ≡ 0 = refl in
        let p1 = tot-append (owners o) front (temps_of n u) in
        let p2 = tot-append (owners o) front (things_at (temp_things n u.number) 0 (u.temps ++ v ∷ [])) in
        omega (arith, q.1, z, p1, p2)

    shared_at_hand : Holding x u → Holding x at_hand
    shared_at_hand h =
        let q = hand_alike in
        seen_on x u x at_hand refl (places_on (both x u) (both x at_hand) n u at_hand refl (split_second x u at_hand) hand_sums h.reached.places)
        (turned (chain (beside (itself TX) q.1) (chain (joined TX TU (temp_things n u.number q.0 v)) (extra_seen (TX ++ TU) (temp_things n u.number q.0 v) (shown_before q.0))))) h

    shared_lands : taking_by u.number u.phase (slice_get k.code u.pc) ≡ None → Holding x u → Holding x (record u { slots = u.slots ++ v ∷ [] })
    shared_lands none h =
        second_passes x at_hand (record u { slots = u.slots ++ v ∷ [] }) (temp (length u.temps)) (slot (length u.slots)) p blind
        (λ l q at is. shared_no_mut q (some_value (sym (end_is u.temps v) ∙ sym (here_a (both x at_hand) (both x (record u { slots = u.slots ++ v ∷ [] })) n at_hand (record u { slots = u.slots ++ v ∷ [] }) (temp (length u.temps)) (slot (length u.slots)) p (split_second x at_hand (record u { slots = u.slots ++ v ∷ [] })) refl held.reached.places places (temp (length u.temps)) l at) ∙ is)))
        held
      where
        held : Holding x at_hand
        held = shared_at_hand h

        p : Passes k.code n at_hand (record u { slots = u.slots ++ v ∷ [] }) (temp (length u.temps)) (slot (length u.slots))
        p = temp_to_slot k.code n at_hand none u.temps v refl

        places : HasPlaces (both x (record u { slots = u.slots ++ v ∷ [] }))
        places = places_on (both x at_hand) (both x (record u { slots = u.slots ++ v ∷ [] })) n at_hand (record u { slots = u.slots ++ v ∷ [] }) refl (split_second x at_hand (record u { slots = u.slots ++ v ∷ [] })) p.owns held.reached.places

        shared_no_mut : (q : MutRef) → v ≡ value.Mut q → ⊥
        shared_no_mut q z = absurd cc

        blind : (j : ℕ) → (slot j ≡ temp (length u.temps)) ⊎ (slot j ≡ slot (length u.slots)) → pointing (slice_get u.slots j) ≡ None
        blind j (inl z) = absurd cc
        blind j (inr z) = let w : j ≡ length u.slots = cc in ap (λ m. pointing (slice_get u.slots m)) w ∙ ap pointing (end_none u.slots)

  -- ALL CAPTURES

  module _ (y u0 : ThreadState) (none : taking_by y.number y.phase (slice_get k.code y.pc) ≡ None) (none2 : taking_by u0.number u0.phase (slice_get k.code u0.pc) ≡ None) where
    -- the giving thread with these slots, and the getting one
    abbrev pub giving : List Value → ThreadState
    giving vs = record y { slots = vs; gift = None }

    abbrev pub getting : List Value → ThreadState
    getting vs = record u0 { slots = vs; gift = None }

    one_capture : (moves : Bool) (v w : Value) (slots new : List Value) (i : ℕ) → Capture moves v w → slice_get slots i ≡ Some v → (moves ≡ true → Free i) → Holding (giving slots) (getting new) → Holding (giving (left_after moves slots i)) (getting (new ++ w ∷ []))
    one_capture _ _ _ slots new i (moved w) e f h = moves_over (giving slots) (getting new) none none2 i w e refl refl (f refl) h
    one_capture _ _ _ slots new i (copied w plain) e f h = plain_lands (giving slots) (getting new) w plain h
    one_capture _ _ _ slots new i (viewed q) e f h = shared_lands (giving slots) (getting new) q i e none2 h

    pub all_captures : (branch : Bool) (cs : List (ℕ × Bool)) (new slots : List Value) (q : List Value × List Value) → ((i : ℕ) → Among (i, true) cs → Free i) → capture_from branch new cs slots ≡ Some q → Holding (giving slots) (getting new) → Holding (giving q.1) (getting q.0)
    all_captures branch [] new slots q f e h = let same : (new, slots) ≡ q = pair_is e in subst (λ (z : List Value × List Value). Holding (giving z.1) (getting z.0)) same h
      where
        pair_is : {a b : List Value × List Value} → Some a ≡ Some b → a ≡ b
        pair_is z = cc
    all_captures branch (c ∷ cs) new slots q f e h = at_value (slice_get slots c.0) refl e (λ new2 slots2 m h2. all_captures branch cs new2 slots2 q (λ i g. f i (inr g)) m h2)
      where
        Rest : Type 0
        Rest = (new2 slots2 : List Value) → capture_from branch new2 cs slots2 ≡ Some q → Holding (giving slots2) (getting new2) → Holding (giving q.1) (getting q.0)

        after : (v : Value) → slice_get slots c.0 ≡ Some v → (o : Option Value) → captured branch c.1 v ≡ o → then_some o (λ w. capture_from branch (new ++ w ∷ []) cs (left_after c.1 slots c.0)) ≡ Some q → Rest → Holding (giving q.1) (getting q.0)
        after v stood None z m go = absurd cc
        after v stood (Some w) z m go = go (new ++ w ∷ []) (left_after c.1 slots c.0) m (one_capture c.1 v w slots new c.0 (how_captured branch c.1 v w z) stood (λ t. f c.0 (inl (ap (λ b. (c.0, b)) t))) h)

        at_value : (o : Option Value) → slice_get slots c.0 ≡ o → then_some o (λ v. then_some (captured branch c.1 v) (λ w. capture_from branch (new ++ w ∷ []) cs (left_after c.1 slots c.0))) ≡ Some q → Rest → Holding (giving q.1) (getting q.0)
        at_value None z m go = absurd cc
        at_value (Some v) z m go = after v z (captured branch c.1 v) refl m go
