-- An event's thread in front of all other things of its cluster, with its gift and its server's counts beside it: before the event, and afterwards with what comes
-- in their place.
use Rattle.std.proofs.Common.{◌≡◌, ℕ, ◌+◌, ◌≤◌, ◌==◌, ◌&&◌, ◌||◌, not, Bool, true, false, List, [], ◌∷◌, ◌++◌, length, take, drop, Option, Some, None, is_some, option_map, refl, sym, ap, ap₂, ◌∙◌, arith}
use Rattle.std.specs.List.{AllByRecursion}
use Rattle.law_heap_steps.specs.Below.heap_partition.declared.value.Owned.{Owned}
use Rattle.law_heap_steps.specs.Below.fr_plain.PlainState.{SameState}
use Rattle.law_heap_steps.specs.Below.thread_state.View.{ThreadState}
use Rattle.law_heap_steps.specs.Below.server_model.declared.event.Event.{Event}
use Rattle.law_heap_steps.specs.Below.server_model.Servers.{Server, Cluster, server_at}
use Rattle.law_heap_steps.specs.Below.server_model.Work.{thread_in, set_thread, without_thread, put_back}
use Rattle.law_heap_steps.specs.Below.server_model.Events.{Stepped, stepped}
use Rattle.law_heap_steps.specs.Below.server_model.Clusters.{with_server, hand_over_newer}
use Rattle.law_heap_steps.specs.Below.coherent_memory.Names.{tot, one, some, if_so}
use Rattle.law_heap_steps.specs.Below.coherent_memory.Things.{Spot, as_gift, Thing, holds, stands, gift_things, servers_things, things_of}
use Rattle.law_heap_steps.specs.Below.coherent_memory.Follow.{threads_in, thread_at, locate}
use Rattle.law_heap_steps.specs.Below.coherent_memory.Sight.{Sight, sight, with_things}
use Rattle.law_heap_steps.specs.Below.coherent_memory.Requests.{home_of}
use Rattle.law_heap_steps.specs.Below.coherent_memory.Naming.{count_of, threads, started_at, uncounted_thread, zeroth_thread, named_mutexes, uncounted_mutex, zeroth_mutex}
use Rattle.law_heap_steps.specs.Below.coherent_memory.Weights.{is_thread}
use Rattle.law_heap_steps.specs.Below.coherent_memory.OneHeap.{Node, is_in_state, is_given_thread, one_heap, state_of, spot_owner}
use Rattle.law_heap_steps.specs.Below.coherent_memory.Coherent.{IsSound}
use Rattle.law_heap_steps.specs.Below.law_counts_sums.Laws.{GoTo}
use Rattle.law_heap_steps.proofs.Below.law_counts_sums.Trades.{Same, tot-append}
use Rattle.law_heap_steps.proofs.Below.law_counts_sums.Bags.{counts_of, body_things, all_standing, rest_things, had_by, tot-without, tot-set, server_same}
use Rattle.law_heap_steps.proofs.Below.law_counts_sums.Events.{others_of, tot-server}
use Rattle.law_heap_steps.proofs.Below.law_counts_sums.Applied.{go_with}
use Rattle.law_heap_steps.proofs.Below.law_counts_sums.Handing.{hand_over_newer_law}
use Rattle.law_heap_steps.specs.Below.law_heap_still.events.Shows.{sign_of, ShowAlike, gift_spot}
use Rattle.law_heap_steps.proofs.Below.law_heap_still.events.Alike.{Once, same_state, same_once, same_spots, same_threads, same_places, same_nodes, same_gifts}
use Rattle.law_heap_steps.proofs.Below.law_heap_still.events.Counting.{nought, stray, no_stray, no_stray_in}
use Rattle.law_heap_steps.proofs.Below.law_heap_still.events.Gifts.{placed, telling, places_told}
use Rattle.law_heap_steps.proofs.Below.law_heap_still.events.Once.{shown_once}
use Rattle.law_heap_steps.proofs.Below.law_heap_still.events.PlainValues.{shown_of}
use Rattle.law_heap_steps.proofs.Below.law_heap_still.events.Sites.{Moves, ends}
use Rattle.law_heap_steps.proofs.turns.Parts.{Own}
use Rattle.law_heap_steps.proofs.turns.OneTurn.{of_thread}
use Rattle.law_heap_steps.proofs.turns.Events.{gift_at, placed_at, told_at, told_by, all_of as of_both, itself_counts, given_by_count}
use Rattle.law_heap_steps.proofs.mutexes.Beside.{giftless, IsBeside, all_of, tot_of, thread_parted}
use Rattle.law_heap_steps.proofs.mutexes.OneThread.{next, stray_stays}

module _ (k : Cluster) (sound : IsSound k) (e : Event) (s : Server) (here : server_at k.servers e.server ≡ Some s) (t : ℕ) (x : ThreadState) (at : thread_in s.threads t ≡ Some x) (number : x.number ≡ t) where
  abbrev pub n : ℕ
  n = s.rest.number

  abbrev pub counts_here : Thing
  counts_here = counts_of n s.events s.rest

  -- the thread's gift and the counts
  abbrev pub G : List Thing
  G = gift_things x.number x.gift ++ counts_here ∷ []

  -- all others
  abbrev pub R : List Thing
  R = body_things n s.rest ++ (all_standing n (without_thread s.threads t) ++ servers_things (others_of k.servers e.server))

  abbrev pub a : List Thing
  a = all_of n x G R

  pub same_things : Same (things_of k) a
  same_things f =
      let ts = all_standing n (without_thread s.threads t) in
      let os = servers_things (others_of k.servers e.server) in
      let body = body_things n s.rest in
      let had = had_by n (giftless x) in
      let gift = gift_things x.number x.gift in
      let rest : tot f (rest_things n s.events s.rest) ≡ f counts_here + tot f body = refl in
      let whole : tot f a ≡ f (stands n false x) + tot f ((G ++ had) ++ R) = refl in
      omega (
        arith,
        thread_parted n x f,
        rest,
        whole,
        (tot-server f k.servers e.server s s here).0,
        server_same s f,
        tot-append f (all_standing n s.threads) (rest_things n s.events s.rest),
        tot-without n f s.threads t x at,
        tot-append f (G ++ had) R,
        tot-append f G had,
        tot-append f gift (counts_here ∷ []),
        tot-append f body (ts ++ os),
        tot-append f ts os,
      )

  alike : ShowAlike (things_of k) a
  alike w z = same_things (λ v. w (sign_of v))

  pub unstray : tot (stray (sight k)) (things_of k) ≡ 0
  unstray = no_stray k sound.names.numbers_differ

  pub places : (gift : ℕ → ℕ) → tot (placed nought nought gift) a ≡ tot (telling nought nought gift) a
  places gift = omega (arith, places_told nought nought gift k, same_things (placed nought nought gift), same_things (telling nought nought gift))

  unstray_in : ((u : ℕ) → tot (is_thread u) a ≤ 1) → tot (stray (with_things k a)) a ≡ 0
  unstray_in = no_stray_in k a places

  pub none_stray : tot (stray (with_things k a)) a ≡ 0
  none_stray = unstray_in (λ u. omega (arith, sound.names.numbers_differ u, same_things (is_thread u)))

  -- it stands for the one heap
  pub state_before : SameState (state_of (with_things k a)) (one_heap k)
  state_before = same_state k (things_of k) a (shown_once k sound) alike unstray unstray_in

  pub once_before : Once (with_things k a)
  once_before = same_once k (things_of k) a (shown_once k sound) alike unstray unstray_in

  pub spots_before : (p : Spot) → spot_owner (sight k) p ≡ spot_owner (with_things k a) p
  spots_before = same_spots k (things_of k) a (shown_once k sound) alike unstray unstray_in

  pub threads_before : (u : ℕ) → option_map shown_of (thread_at (threads_in (things_of k)) u) ≡ option_map shown_of (thread_at (threads_in a) u)
  threads_before = same_threads k (things_of k) a (shown_once k sound) alike unstray unstray_in

  pub places_before : (u slot m : ℕ) → locate (sight k).ground u slot m ≡ locate (with_things k a).ground u slot m
  places_before = same_places k (things_of k) a (shown_once k sound) alike unstray unstray_in

  pub gifts_before : (u : ℕ) → gift_spot (sight k) u ≡ gift_spot (with_things k a) u
  gifts_before = same_gifts k (things_of k) a (shown_once k sound) alike unstray unstray_in

  -- NOTHING ELSE IS OF THE THREAD

  abbrev tx : ℕ
  tx = x.number

  gift_part : (f : Thing → ℕ) → (g : Option Owned) → ((v : Owned) → f (holds (as_gift tx) v) ≡ 1) → tot f (gift_things tx g) ≡ one (is_some g)
  gift_part f None h = refl
  gift_part f (Some v) h = omega (arith, h v)

  unspoken : (g : Option Owned) → tot (told_at tx) (gift_things tx g) ≡ 0
  unspoken None = refl
  unspoken (Some v) = refl

  so_one : (b : Bool) → if_so b (one (tx == tx)) ≡ one b
  so_one true = itself_counts tx
  so_one false = refl

  no_thread_gift : (g : Option Owned) → tot (is_thread tx) (gift_things tx g) ≡ 0
  no_thread_gift None = refl
  no_thread_gift (Some v) = refl

  pub lone : tot (of_thread tx) R ≡ 0
  lone =
      let gift = gift_things tx x.gift in
      let c = counts_here ∷ [] in
      let differ : tot (is_thread tx) (things_of k) ≤ 1 = sound.names.numbers_differ tx in
      let flat : Own (λ v. placed_at tx v ≡ 0) = record { slots = λ u i v. refl; temps = λ u i v. refl; shared = λ l r. refl; lent = λ l r. refl; marks = λ l m. refl; used = λ u w. refl } in
      let quiet : Own (λ v. told_at tx v ≡ 0) = record { slots = λ u i v. refl; temps = λ u i v. refl; shared = λ l r. refl; lent = λ l r. refl; marks = λ l m. refl; used = λ u w. refl } in
      let none : Own (λ v. is_thread tx v ≡ 0) = record { slots = λ u i v. refl; temps = λ u i v. refl; shared = λ l r. refl; lent = λ l r. refl; marks = λ l m. refl; used = λ u w. refl } in
      let told : tot (placed_at tx) (things_of k) ≡ tot (told_at tx) (things_of k) = places_told nought nought (gift_at tx) k in
      let threads_here : tot (is_thread tx) R ≡ 0 = omega (arith, differ, same_things (is_thread tx), tot_of n x G R (is_thread tx) none, itself_counts tx) in
      omega (
        arith,
        threads_here,
        told,
        same_things (placed_at tx),
        same_things (told_at tx),
        tot_of n x G R (placed_at tx) flat,
        tot_of n x G R (told_at tx) quiet,
        tot-append (placed_at tx) gift c,
        tot-append (told_at tx) gift c,
        gift_part (placed_at tx) x.gift (λ v. itself_counts tx),
        unspoken x.gift,
        so_one (is_some x.gift),
        told_by tx R,
        of_both tx R,
      )

  -- ITS NAME WAS GIVEN

  pub counted : (f : Thing → ℕ) → tot f (things_of k) ≡ 0 → f (stands n false x) ≡ 0
  counted f z = omega (arith, z, same_things f)

  given_here : is_given_thread (sight k) tx ≡ true
  given_here =
      let b : tot (threads (uncounted_thread (sight k))) (things_of k) + tot (named_mutexes (uncounted_mutex (sight k))) (things_of k) ≡ 0 = sound.names.names_counted in
      let c : tot (threads zeroth_thread) (things_of k) + tot (named_mutexes zeroth_mutex) (things_of k) ≡ 0 = sound.names.counts_from_one in
      let named : threads (uncounted_thread (sight k)) (stands n false x) ≡ 0 = counted (threads (uncounted_thread (sight k))) (omega (arith, b)) in
      let first : threads zeroth_thread (stands n false x) ≡ 0 = counted (threads zeroth_thread) (omega (arith, c)) in
      given_by_count (count_of tx == 0) (tx == 0) (some (tot (started_at (home_of tx) (count_of tx)) (things_of k))) (omega (arith, first)) (omega (arith, named))

  pub given : is_given_thread (with_things k a) tx ≡ true
  given = ap (λ m. tx == 0 || (not (count_of tx == 0) && some m)) (sym (same_things (started_at (home_of tx) (count_of tx)))) ∙ given_here

  -- AFTERWARDS

  module _ (d : Stepped) (became : ThreadState) (thread : d.hand.thread ≡ next x became) (G2 : List Thing) (moves : Moves G2 (counts_of n 0 s.rest ∷ []) s.rest d.hand.work.rest)
      (sends : GoTo (with_server k.servers e.server (stepped s d).0) (drop (length s.rest.outbox) (stepped s d).0.rest.outbox)) where
    abbrev y : ThreadState
    y = next x became

    abbrev pub b : List Thing
    b = all_of n y G2 R

    abbrev s3 : Server
    s3 = (stepped s d).0

    abbrev pub k3 : Cluster
    k3 = record k { servers = hand_over_newer e.server (length s.rest.outbox) s3 k.servers }

    pub alike_then : ShowAlike b (things_of k3)
    alike_then w z =
        let g : Thing → ℕ = λ v. w (sign_of v) in
        let older = length s.rest.outbox in
        let goes = go_with k.servers e.server s3 (take older s3.rest.outbox) (drop older s3.rest.outbox) sends in
        let r2 = d.hand.work.rest in
        let ts = all_standing n (without_thread s.threads t) in
        let os = servers_things (others_of k.servers e.server) in
        let body = body_things n s.rest in
        let had = had_by n (giftless y) in
        let none : tot g (gift_things y.number y.gift) ≡ 0 = refl in
        let rest : tot g (rest_things n 0 s.rest) ≡ g (counts_of n 0 s.rest) + tot g body = refl in
        let whole : tot g b ≡ g (stands n false y) + tot g ((G2 ++ had) ++ R) = refl in
        let site : tot g (all_standing r2.number (set_thread s.threads d.hand.thread) ++ rest_things r2.number 0 r2) ≡ tot g (all_standing n (set_thread s.threads y) ++ rest_things n 0 r2) =
        ap₂ (λ (m : ℕ) (v : ThreadState). tot g (all_standing m (set_thread s.threads v) ++ rest_things m 0 r2)) moves.number thread in
        omega (
          arith,
          hand_over_newer_law g e.server older s s3 k.servers here goes,
          (tot-server g k.servers e.server s s3 here).1,
          ends s.events (Some d.hand.thread.number) d.names (put_back s.threads d.hand) w z,
          site,
          thread_parted n y g,
          none,
          rest,
          whole,
          tot-append g (all_standing n (set_thread s.threads y)) (rest_things n 0 r2),
          tot-set n g s.threads t x y at number,
          moves.alike w z,
          tot-append g G2 (rest_things n 0 s.rest),
          tot-append g (G2 ++ had) R,
          tot-append g G2 had,
          tot-append g body (ts ++ os),
          tot-append g ts os,
        )

    module _ (beside : AllByRecursion IsBeside G) (beside2 : AllByRecursion IsBeside G2) (giftless2 : tot (stray (with_things k b)) G2 ≡ 0) where
      unstray_then : tot (stray (with_things k b)) b ≡ 0
      unstray_then =
          let flat : (r : Sight) → Own (λ v. stray r v ≡ 0) = λ r. record { slots = λ u i v. refl; temps = λ u i v. refl; shared = λ l m. refl; lent = λ l m. refl; marks = λ l m. refl; used = λ u m. refl } in
          let others : tot (stray (with_things k a)) R ≡ tot (stray (with_things k b)) R = stray_stays k R G G2 n x became beside beside2 lone in
          omega (arith, none_stray, tot_of n x G R (stray (with_things k a)) (flat (with_things k a)), others, tot_of n y G2 R (stray (with_things k b)) (flat (with_things k b)), giftless2)

      -- it stands for the one heap of the cluster afterwards
      pub state_after : Once (with_things k b) → SameState (one_heap k3) (state_of (with_things k b))
      state_after once = same_state k b (things_of k3) once alike_then unstray_then (no_stray k3)

      -- who is in the state there is in that of the cluster
      pub nodes_after : Once (with_things k b) → (q : Node) → is_in_state (with_things k b) q ≡ is_in_state (sight k3) q
      nodes_after once = same_nodes k b (things_of k3) once alike_then unstray_then (no_stray k3)
