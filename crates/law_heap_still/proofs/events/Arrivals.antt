-- A thread that leaves as a parcel, or comes from one, shows what it showed.
use Rattle.std.proofs.Common.{◌≡◌, ℕ, ◌+◌, Bool, true, false, if◌then◌else◌, List, [], ◌∷◌, ◌++◌, Some, None, refl, sym, ap, ap₂, ◌∙◌, arith}
use Rattle.std.specs.Prelude.{slice_get, map, nat_lt}
use Rattle.law_counts_sums.specs.Below.mut_borrow.declared.shared.SharedRef.{SharedRef}
use Rattle.law_counts_sums.specs.Below.read_cache.Cache.{Copy}
use Rattle.law_counts_sums.specs.Below.thread_state.View.{ThreadState}
use Rattle.law_counts_sums.specs.Below.thread_state.declared.value.Value.{Value}
use Rattle.law_counts_sums.specs.Below.thread_state.declared.value.Value.TheVariants as value
use Rattle.law_counts_sums.specs.Below.server_msgs.declared.message.Message.{Message}
use Rattle.law_counts_sums.specs.Below.server_msgs.declared.message.Message.TheVariants as message
use Rattle.law_counts_sums.specs.Below.migration.Packing.{unpin_all, unpinned, used_words, packed, pack_thread}
use Rattle.law_counts_sums.specs.Below.server_model.declared.event.What.TheVariants.{Deliver, Migrate}
use Rattle.law_counts_sums.specs.Below.server_model.Servers.{Server, Cluster, Rest}
use Rattle.law_counts_sums.specs.Below.server_model.Work.{Site, with_cache, thread_in, with_thread, without_thread}
use Rattle.law_counts_sums.specs.Below.server_model.Moving.{depart, migrate}
use Rattle.law_counts_sums.specs.Below.server_model.Joining.{arrive}
use Rattle.law_counts_sums.specs.Below.server_model.Events.{begin_at, left_by, received, does}
use Rattle.law_counts_sums.specs.Below.coherent_memory.Names.{tot}
use Rattle.law_counts_sums.specs.Below.coherent_memory.Things.{Spot, Location, in_slot, in_temp, at_slot, at_temp, Thing, uses, stands, things_at, pin_things, gift_things, walk_things, value_things, slot_things, temp_things, thread_things, message_things, copy_things, sent}
use Rattle.law_counts_sums.specs.Laws.{Gives}
use Rattle.law_counts_sums.proofs.Trades.{tot-append, tot-front, trade_whole}
use Rattle.law_counts_sums.proofs.Results.{then_gives, over_gives, map_gives, stand_gives}
use Rattle.law_counts_sums.proofs.Bags.{all_standing, rest_things, of_cache, tot-without, of_sending, sent_number}
use Rattle.law_heap_still.specs.events.Shows.{Frame, frame_of, Sign, nothing, sign_of, has_both, shown_thread, ShowAlike, a_thread}
use Rattle.law_heap_still.proofs.events.Sites.{shown, site_things, begins, ends, Still, Moves, ServerStill, deliveries}

-- A THREAD SHOWS THE SAME ANYWHERE, PINNED OR NOT

module _ (w : Sign → ℕ) (z : w nothing ≡ 0) where
  abbrev f : Thing → ℕ
  f x = w (sign_of x)

  no_walk : (s i : ℕ) (ws : List ℕ) → tot f (things_at (walk_things s) i ws) ≡ 0
  no_walk s i [] = refl
  no_walk s i (u ∷ ws) = omega (arith, z, no_walk s (i + 1) ws)

  pub no_pin : (s : ℕ) (r : SharedRef) → tot f (pin_things s r) ≡ 0
  no_pin s r = by r.pinned
    where
      by : (q : Bool) → tot f (if q then uses s r.word ∷ [] else []) ≡ 0
      by true = omega (arith, z)
      by false = refl

  pub value_same : (s r : ℕ) (p : Spot) (l : Location) (v : Value) → tot f (value_things s p l v) ≡ tot f (value_things r p l (unpinned v))
  value_same s r p l (value.Shared q) = omega (arith, z, no_pin s q)
  value_same s r p l value.Gone = refl
  value_same s r p l (value.Own v) = refl
  value_same s r p l (value.SharedSlot i) = refl
  value_same s r p l (value.MutSlot i) = refl
  value_same s r p l (value.Mut q) = refl
  value_same s r p l (value.Held m) = refl

  value_moved : (s r : ℕ) (p : Spot) (l : Location) (v : Value) → tot f (value_things s p l v) ≡ tot f (value_things r p l v)
  value_moved s r p l (value.Shared q) = omega (arith, no_pin s q, no_pin r q)
  value_moved s r p l value.Gone = refl
  value_moved s r p l (value.Own v) = refl
  value_moved s r p l (value.SharedSlot i) = refl
  value_moved s r p l (value.MutSlot i) = refl
  value_moved s r p l (value.Mut q) = refl
  value_moved s r p l (value.Held m) = refl

  all_same : (place : ℕ → Spot) (at : ℕ → Location) (s r i : ℕ) (vs : List Value)
      → tot f (things_at (λ j v. value_things s (place j) (at j) v) i vs) ≡ tot f (things_at (λ j v. value_things r (place j) (at j) v) i (map unpinned vs))
  all_same place at s r i [] = refl
  all_same place at s r i (v ∷ vs) =
      omega (
        arith,
        value_same s r (place i) (at i) v,
        all_same place at s r (i + 1) vs,
        tot-append f (value_things s (place i) (at i) v) (things_at (λ j v. value_things s (place j) (at j) v) (i + 1) vs),
        tot-append f (value_things r (place i) (at i) (unpinned v)) (things_at (λ j v. value_things r (place j) (at j) v) (i + 1) (map unpinned vs)),
      )

  all_moved : (place : ℕ → Spot) (at : ℕ → Location) (s r i : ℕ) (vs : List Value)
      → tot f (things_at (λ j v. value_things s (place j) (at j) v) i vs) ≡ tot f (things_at (λ j v. value_things r (place j) (at j) v) i vs)
  all_moved place at s r i [] = refl
  all_moved place at s r i (v ∷ vs) =
      omega (
        arith,
        value_moved s r (place i) (at i) v,
        all_moved place at s r (i + 1) vs,
        tot-append f (value_things s (place i) (at i) v) (things_at (λ j v. value_things s (place j) (at j) v) (i + 1) vs),
        tot-append f (value_things r (place i) (at i) v) (things_at (λ j v. value_things r (place j) (at j) v) (i + 1) vs),
      )

  -- what a thread has, part by part
  pub thread_parts : (s : ℕ) (p : Bool) (t : ThreadState) → tot f (thread_things s p t)
      ≡ f (stands s p t) + tot f (gift_things t.number t.gift) + tot f (things_at (slot_things s t.number) 0 t.slots) + tot f (things_at (temp_things s t.number) 0 t.temps)
  thread_parts s p t =
      let g = gift_things t.number t.gift in
      let u = things_at (walk_things s) 0 t.walk in
      let a = things_at (slot_things s t.number) 0 t.slots in
      let b = things_at (temp_things s t.number) 0 t.temps in
      omega (arith, no_walk s 0 t.walk, tot-append f (g ++ u ++ a) b, tot-append f (g ++ u) a, tot-append f g u)

  pub thread_moved : (s r : ℕ) (p q : Bool) (t : ThreadState) → tot f (thread_things s p t) ≡ tot f (thread_things r q t)
  thread_moved s r p q t =
      omega (
        arith,
        thread_parts s p t,
        thread_parts r q t,
        all_moved (λ i. in_slot t.number i) (λ i. at_slot t.number i) s r 0 t.slots,
        all_moved (λ i. in_temp t.number i) (λ i. at_temp t.number i) s r 0 t.temps,
      )

  frames_unpinned : (vs : List Value) → map frame_of (map unpinned vs) ≡ map frame_of vs
  frames_unpinned [] = refl
  frames_unpinned (value.Shared q ∷ vs) = ap (λ l. frame_of (value.Shared q) ∷ l) (frames_unpinned vs)
  frames_unpinned (value.Gone ∷ vs) = ap (λ l. frame_of value.Gone ∷ l) (frames_unpinned vs)
  frames_unpinned (value.Own v ∷ vs) = ap (λ l. frame_of (value.Own v) ∷ l) (frames_unpinned vs)
  frames_unpinned (value.SharedSlot i ∷ vs) = ap (λ l. frame_of (value.SharedSlot i) ∷ l) (frames_unpinned vs)
  frames_unpinned (value.MutSlot i ∷ vs) = ap (λ l. frame_of (value.MutSlot i) ∷ l) (frames_unpinned vs)
  frames_unpinned (value.Mut q ∷ vs) = ap (λ l. frame_of (value.Mut q) ∷ l) (frames_unpinned vs)
  frames_unpinned (value.Held m ∷ vs) = ap (λ l. frame_of (value.Held m) ∷ l) (frames_unpinned vs)

  abbrev as_parcel : ThreadState → ThreadState
  as_parcel t = packed (record t { moved_since_step = true })

  pub thread_packed : (s r : ℕ) (p q : Bool) (t : ThreadState) → tot f (thread_things s p t) ≡ tot f (thread_things r q (as_parcel t))
  thread_packed s r p q t =
      let shows : f (stands s p t) ≡ f (stands r q (as_parcel t)) =
      ap₂ (λ xs ys. w (sign_of_thread xs ys)) (sym (frames_unpinned t.slots)) (sym (frames_unpinned t.temps)) in
      omega (
        arith,
        thread_parts s p t,
        thread_parts r q (as_parcel t),
        shows,
        all_same (λ i. in_slot t.number i) (λ i. at_slot t.number i) s r 0 t.slots,
        all_same (λ i. in_temp t.number i) (λ i. at_temp t.number i) s r 0 t.temps,
      )
    where
      sign_of_thread : List Frame → List Frame → Sign
      sign_of_thread xs ys = a_thread (record (shown_thread t) { slots = xs; temps = ys }) (has_both t.phase)

-- A PARCEL COMES

tot-with : (f : Thing → ℕ) (n : ℕ) (xs : List ThreadState) (x : ThreadState) → tot f (all_standing n (with_thread xs x)) ≡ tot f (thread_things n false x) + tot f (all_standing n xs)
tot-with f n [] x = omega (arith, tot-append f (thread_things n false x) [])
tot-with f n (y ∷ xs) x = either (nat_lt x.number y.number) (tot-with f n xs x)
  where
    either : (b : Bool) → tot f (all_standing n (with_thread xs x)) ≡ tot f (thread_things n false x) + tot f (all_standing n xs)
        → tot f (all_standing n (if b then x ∷ y ∷ xs else y ∷ with_thread xs x)) ≡ tot f (thread_things n false x) + tot f (all_standing n (y ∷ xs))
    either true go = tot-front (thread_things n false) f 0 x (y ∷ xs)
    either false go = omega (arith, tot-front (thread_things n false) f 0 y (with_thread xs x), tot-front (thread_things n false) f 0 y xs, go)

-- a message that is nothing but a parcel
pub record IsParcel (m : Message) (p : ThreadState) : Type 0 where
  pub carries : (n : ℕ) (f : Thing → ℕ) → tot f (message_things n m) ≡ f (sent n m) + tot f (thread_things n true p)

arrived : (m : Message) (p : ThreadState) → IsParcel m p → (x : Site) → Gives (Still (message_things x.work.rest.number m) x) (arrive p x)
arrived m p q x = stand_gives (Still (message_things x.work.rest.number m) x) (thread_in x.threads p.number) p x there
  where
    there : Still (message_things x.work.rest.number m) x (record x { threads = with_thread x.threads p })
    there w z =
        let g : Thing → ℕ = λ y. w (sign_of y) in
        let n = x.work.rest.number in
        let r = rest_things n 0 x.work.rest in
        omega (
          arith,
          z,
          q.carries n g,
          thread_moved w z n n true false p,
          tot-with g n x.threads p,
          tot-append g (message_things n m) (all_standing n x.threads ++ r),
          tot-append g (all_standing n x.threads) r,
          tot-append g (all_standing n (with_thread x.threads p)) r,
        )

pub starts : (k : Cluster) (s : Server) (i : ℕ) (p : ThreadState) → slice_get s.rest.inbox i ≡ Some (message.Start p) → Gives (ServerStill k s) (does k.code k.options s (Deliver i))
starts k s i p q = deliveries k s i (message.Start p) q (arrived (message.Start p) p (record { carries = λ n f. refl }) (received i s))

pub parcels : (k : Cluster) (s : Server) (i : ℕ) (p : ThreadState) → slice_get s.rest.inbox i ≡ Some (message.Migrate p) → Gives (ServerStill k s) (does k.code k.options s (Deliver i))
parcels k s i p q = deliveries k s i (message.Migrate p) q (arrived (message.Migrate p) p (record { carries = λ n f. refl }) (received i s))

-- A THREAD LEAVES

-- copies aren't shown
no_copies : (w : Sign → ℕ) → w nothing ≡ 0 → (n i : ℕ) (cs : List Copy) → tot (λ x. w (sign_of x)) (things_at (copy_things n) i cs) ≡ 0
no_copies w z n i [] = refl
no_copies w z n i (c ∷ cs) = omega (arith, z, no_copies w z n (i + 1) cs)

-- whatever copies there are
pub cache_shown : (r : Rest) (cs : List Copy) → ShowAlike (rest_things r.number 0 r) (rest_things r.number 0 (record r { cache = cs }))
cache_shown r cs w z =
    let n = r.number in
    let all = things_at (copy_things n) 0 in
    let t = of_cache n 0 r cs (trade_whole (things_at (copy_things n) 0 r.cache) (things_at (copy_things n) 0 cs)) in
    let f : Thing → ℕ = λ x. w (sign_of x) in
    omega (arith, t.before f, t.after f, no_copies w z n 0 r.cache, no_copies w z n 0 cs)

departed : (t target : ℕ) (x : Site) → Gives (Still [] x) (migrate t target x)
departed t target x =
    then_gives (Still [] x) (thread_in x.threads t) _ (λ y q.
    over_gives (λ (p : ThreadState × List Copy). p.0 ≡ packed (record y { moved_since_step = true })) (Still [] x) (pack_thread (record y { moved_since_step = true }) x.work.rest.cache) _
    (map_gives (λ (p : ThreadState × List Copy). p.0 ≡ packed (record y { moved_since_step = true })) (unpin_all (used_words y) x.work.rest.cache) _ (λ cs e. refl))
    (λ p e. left y q p e))
  where
    left : (y : ThreadState) → thread_in x.threads t ≡ Some y → (p : ThreadState × List Copy) → p.0 ≡ packed (record y { moved_since_step = true }) → Still [] x (record { work = depart target x.work p; threads = without_thread x.threads t })
    left y q p e w z =
        let g : Thing → ℕ = λ u. w (sign_of u) in
        let n = x.work.rest.number in
        let r = x.work.rest in
        let base : Moves [] [] r (with_cache p.1 x.work).rest = record { number = refl; alike = cache_shown r p.1 } in
        let sent = of_sending n 0 (record r { cache = p.1 }) refl target (message.Migrate p.0) in
        let y2 = depart target x.work p in
        let number : y2.rest.number ≡ n = sent_number (record r { cache = p.1 }) target (message.Migrate p.0) in
        let there : shown w (site_things (record { work = y2; threads = without_thread x.threads t })) ≡ shown w (all_standing n (without_thread x.threads t) ++ rest_things n 0 y2.rest) =
        ap (λ m. shown w (all_standing m (without_thread x.threads t) ++ rest_things m 0 y2.rest)) number in
        let parcel : tot g (thread_things target true p.0) ≡ tot g (thread_things n false y) =
        ap (λ v. tot g (thread_things target true v)) e ∙ sym (thread_packed w z n target false true y) in
        omega (
          arith,
          z,
          there,
          parcel,
          sent.before g,
          sent.after g,
          cache_shown r p.1 w z,
          tot-without n g x.threads t y q,
          tot-append g (all_standing n x.threads) (rest_things n 0 r),
          tot-append g (all_standing n (without_thread x.threads t)) (rest_things n 0 y2.rest),
        )

pub migrations : (k : Cluster) (s : Server) (t target : ℕ) → Gives (ServerStill k s) (does k.code k.options s (Migrate t target))
migrations k s t target =
    over_gives (Still [] (begin_at s)) (ServerStill k s) (migrate t target (begin_at s)) (left_by s.events (Some t) None) (departed t target (begin_at s)) (λ x e w z c. begins s w z ∙ e w z ∙ ends s.events (Some t) None x w z)
