-- What an answer changes of its thread, and that a thread comes or leaves, where words see nothing of it.
use Rattle.std.proofs.Common.{◌≡◌, ℕ, Bool, true, false, List, [], ◌∷◌, ◌++◌, Option, Some, None, refl, sym, ap, subst}
use Rattle.law_counts_sums.specs.Below.fr_base.declared.instruction.Instr.{Instr}
use Rattle.law_counts_sums.specs.Below.fr_base.declared.name.MutexNo.{MutexNo}
use Rattle.law_counts_sums.specs.Below.heap_partition.declared.value.Cell.{Cell}
use Rattle.law_counts_sums.specs.Below.heap_partition.declared.value.Owned.{Owned}
use Rattle.law_counts_sums.specs.Below.heap_partition.declared.value.Owned.TheVariants as owned
use Rattle.law_counts_sums.specs.Below.read_cache.Cache.{Copy, can_evict, can_fill, can_pin, evict, fill, pin}
use Rattle.law_counts_sums.specs.Below.journal.declared.act.Act.TheVariants as act
use Rattle.law_counts_sums.specs.Below.thread_state.View.{ThreadState}
use Rattle.law_counts_sums.specs.Below.thread_state.declared.phase.Phase.TheVariants as phase
use Rattle.law_counts_sums.specs.Below.migration.Packing.{pack_thread, packed, unpin_all, used_words}
use Rattle.law_counts_sums.specs.Below.server_msgs.declared.message.Message.TheVariants as message
use Rattle.law_counts_sums.specs.Below.server_model.Servers.{Rest}
use Rattle.law_counts_sums.specs.Below.server_model.Work.{Work, Hand, Site, note, working, with_cache, with_phase, used_once, beside_threads, thread_in, without_thread}
use Rattle.law_counts_sums.specs.Below.server_model.Objects.{deliver_fetched, waits_for_cell, filled}
use Rattle.law_counts_sums.specs.Below.server_model.Sharing.{given, deliver_granted, deliver_dupped, waits_for_lock, waits_for_dup}
use Rattle.law_counts_sums.specs.Below.server_model.Joining.{deliver_joined, waits_for_join, arrive}
use Rattle.law_counts_sums.specs.Below.server_model.Moving.{migrate, depart}
use Rattle.law_counts_sums.specs.Below.server_model.Events.{evict_copy}
use Rattle.law_counts_sums.specs.Below.coherent_memory.Names.{is_in}
use Rattle.law_counts_sums.specs.Below.coherent_memory.Things.{in_hand, holds, sent, Thing, message_things, thread_things}
use Rattle.law_counts_sums.specs.Laws.{Gives}
use Rattle.law_counts_sums.proofs.Results.{map_gives, test_gives, over_gives, then_gives, stand_gives}
use Rattle.law_counts_sums.proofs.Bags.{body_things, all_standing, sent_number}
use Rattle.law_words_kept.proofs.stays.Alike.{Alike, itself, turned, chain, beside, in_front, joined, alone, blank, goes}
use Rattle.law_words_kept.proofs.stays.Servers.{held, held_if, other_copies, sends}
use Rattle.law_words_kept.proofs.stays.Threads.{slots_of, temps_of, thread_alike, thread_arrives, thread_leaves, arrived_alike, packed_alike, TakesNone, cell_takes, lock_takes, dup_takes, join_takes, got_takes, phase_shows}
use Rattle.law_words_kept.proofs.stays.Deliveries.{content_message, result_message}
use Rattle.law_words_kept.proofs.stays.Sites.{HandAlike, SiteAlike}

-- A THREAD GOES ON

module _ (code : List Instr) (n : ℕ) (h : Hand) where
  -- the thread has another phase, gift and walk, and there are other copies
  changed : (gone : List Thing) (cs : List Copy) (ws : List ℕ) (v : Option Owned) (h2 : Hand) → TakesNone h.thread.phase → h2.work.rest ≡ record h.work.rest { cache = cs } → h2.thread ≡ record h.thread { phase = phase.Got; gift = v; walk = ws }
      → Alike code (gone ++ held_if h.thread.gift) (held_if v) → HandAlike code n gone h h2
  changed gone cs ws v h2 none e f a =
      let y : ThreadState = record h.thread { phase = phase.Got; gift = v; walk = ws } in record {
        number = ap (λ (r : Rest). r.number) e;
        named = ap (λ (x : ThreadState). x.number) f;
        thread = subst (λ x. Alike code (gone ++ thread_things n false h.thread) (thread_things n false x)) (sym f)
            (thread_alike n n false false h.thread y gone [] (phase_shows code h.thread phase.Got v ws none got_takes) (itself (slots_of n h.thread)) (itself (temps_of n h.thread)) a);
        rest = subst (λ r. Alike code (body_things n h.work.rest) (body_things n r)) (sym e) (other_copies n h.work.rest cs);
      }

  -- it uses the copy that came
  pub fetched : (m v : ℕ) (c : Cell) (t : ℕ) → Gives (HandAlike code n (message_things m (message.Fetched v c t)) h) (deliver_fetched v c h)
  fetched m v c t = test_gives Then (waits_for_cell h.thread.phase v) _ (λ on. over_gives Used Then (filled v c h) _ filled_used (λ h2 u. by on h2 u))
    where
      Then : Hand → Type 0
      Then h2 = HandAlike code n (message_things m (message.Fetched v c t)) h h2

      Used : Hand → Type 0
      Used h2 = (cs : List Copy) × (ws : List ℕ) × (h2.work.rest ≡ record h.work.rest { cache = cs }) × (h2.thread ≡ record h.thread { walk = ws })

      used : (b : Bool) → Gives Used (used_once v b (working (with_cache (fill h.work.rest.cache v c)) h))
      used true = (fill h.work.rest.cache v c, h.thread.walk, refl, refl)
      used false = test_gives Used (can_pin (fill h.work.rest.cache v c) v) _ (λ on. (pin (fill h.work.rest.cache v c) v, h.thread.walk ++ v ∷ [], refl, refl))

      filled_used : Gives Used (filled v c h)
      filled_used = test_gives Used (can_fill h.work.rest.cache v c) _ (λ on. used (is_in v h.thread.walk))

      by : waits_for_cell h.thread.phase v ≡ true → (h2 : Hand) → Used h2 → Then (with_phase phase.Got (working (note (act.Fill c.object v)) h2))
      by on h2 u =
          changed (message_things m (message.Fetched v c t)) u.0 u.1 h.thread.gift (with_phase phase.Got (working (note (act.Fill c.object v)) h2)) (cell_takes h.thread.phase v on) u.2 (ap (λ (y : ThreadState). record y { phase = phase.Got }) u.3)
          (goes (blank (sent m (message.Fetched v c t)) (λ p e i. i)))

  -- it has its gift
  gifts : (gone : List Thing) (v : Owned) → Alike code gone (held v) → TakesNone h.thread.phase → Gives (HandAlike code n gone h) (given v h.thread.gift h)
  gifts gone v a none = by h.thread.gift refl
    where
      by : (o : Option Owned) → h.thread.gift ≡ o → Gives (HandAlike code n gone h) (given v o h)
      by None q =
          changed gone h.work.rest.cache h.thread.walk (Some v) (with_phase phase.Got (record h { thread = record h.thread { gift = Some v } })) none refl refl
          (subst (λ g. Alike code (gone ++ held_if g) (held v)) (sym q) (chain (alone gone) a))
      by (Some u) q = tt

  pub granted : (s : ℕ) (m : MutexNo) (v : Owned) (t : ℕ) → Gives (HandAlike code n (message_things s (message.Granted m v t)) h) (deliver_granted m v h)
  granted s m v t = test_gives (HandAlike code n (message_things s (message.Granted m v t)) h) (waits_for_lock h.thread.phase m) _ (λ on. gifts (message_things s (message.Granted m v t)) v (content_message s m v t) (lock_takes h.thread.phase m on))

  pub dupped : (s : ℕ) (m : MutexNo) (t : ℕ) → Gives (HandAlike code n (message_things s (message.Dupped m t)) h) (deliver_dupped m h)
  dupped s m t =
      test_gives (HandAlike code n (message_things s (message.Dupped m t)) h) (waits_for_dup h.thread.phase m) _
      (λ on. gifts (message_things s (message.Dupped m t)) (owned.Mutex m) (chain (blank (sent s (message.Dupped m t)) (λ p e i. i)) (turned (blank (holds in_hand (owned.Mutex m)) (λ p e i. i)))) (dup_takes h.thread.phase m on))

  pub joined_to : (s u : ℕ) (v : Owned) (t : ℕ) → Gives (HandAlike code n (message_things s (message.Joined u v t)) h) (deliver_joined u v h)
  joined_to s u v t = test_gives (HandAlike code n (message_things s (message.Joined u v t)) h) (waits_for_join h.thread.phase u) _ (λ on. gifts (message_things s (message.Joined u v t)) v (result_message s u v t) (join_takes h.thread.phase u on))

-- A THREAD COMES

arrives : (code : List Instr) (gone : List Thing) (y : ThreadState) (x : Site) → Alike code gone (thread_things x.work.rest.number false y) → Gives (SiteAlike code gone x) (arrive y x)
arrives code gone y x a =
    let n = x.work.rest.number in
    stand_gives (SiteAlike code gone x) (thread_in x.threads y.number) y x
    (record { number = refl; alike = chain (joined gone (all_standing n x.threads) (body_things n x.work.rest)) (beside (chain (beside a (itself (all_standing n x.threads))) (thread_arrives n x.threads y)) (itself (body_things n x.work.rest))) })

pub starts : (code : List Instr) (y : ThreadState) (x : Site) → Gives (SiteAlike code (message_things x.work.rest.number (message.Start y)) x) (arrive y x)
starts code y x =
    let n = x.work.rest.number in
    arrives code (message_things n (message.Start y)) y x (chain (goes {a = sent n (message.Start y) ∷ []} (blank (sent n (message.Start y)) (λ p e i. i))) (arrived_alike n true false y))

pub parcels : (code : List Instr) (y : ThreadState) (x : Site) → Gives (SiteAlike code (message_things x.work.rest.number (message.Migrate y)) x) (arrive y x)
parcels code y x =
    let n = x.work.rest.number in
    arrives code (message_things n (message.Migrate y)) y x (chain (goes {a = sent n (message.Migrate y) ∷ []} (blank (sent n (message.Migrate y)) (λ p e i. i))) (arrived_alike n true false y))

-- A THREAD LEAVES

pub migrations : (code : List Instr) (t target : ℕ) (x : Site) → Gives (SiteAlike code [] x) (migrate t target x)
migrations code t target x =
    then_gives Then (thread_in x.threads t) _
    (λ y e. over_gives (Packed y) Then (pack_thread (record y { moved_since_step = true }) x.work.rest.cache) _ (map_gives (Packed y) (unpin_all (used_words (record y { moved_since_step = true })) x.work.rest.cache) _ (λ cs q. refl)) (λ p q. leaves y e p q))
  where
    n : ℕ
    n = x.work.rest.number

    Then : Site → Type 0
    Then z = SiteAlike code [] x z

    Packed : ThreadState → ThreadState × List Copy → Type 0
    Packed y p = p.0 ≡ packed (record y { moved_since_step = true })

    left : List ThreadState
    left = without_thread x.threads t

    packs : (y p : ThreadState) → p ≡ packed (record y { moved_since_step = true }) → Alike code (thread_things n false y) (message_things target (message.Migrate p))
    packs y p e =
        let parcel = packed (record y { moved_since_step = true }) in
        subst (λ z. Alike code (thread_things n false y) (message_things target (message.Migrate z))) (sym e)
        (chain (packed_alike n target false true true y []) (turned (goes {a = sent target (message.Migrate parcel) ∷ []} (blank (sent target (message.Migrate parcel)) (λ z i j. j)))))

    leaves : (y : ThreadState) → thread_in x.threads t ≡ Some y → (p : ThreadState × List Copy) → p.0 ≡ packed (record y { moved_since_step = true }) → Then (record { work = depart target x.work p; threads = without_thread x.threads t })
    leaves y e p q =
        let msg = message_things target (message.Migrate p.0) in
        let r2 = record x.work.rest { cache = p.1 } in record {
          number = sent_number r2 target (message.Migrate p.0);
          alike = chain (beside (chain (thread_leaves n x.threads t y e) (beside (packs y p.0 q) (itself (all_standing n left)))) (other_copies n x.work.rest p.1))
              (chain (turned (joined msg (all_standing n left) (body_things n r2))) (chain (in_front msg (all_standing n left) (body_things n r2)) (beside (itself (all_standing n left)) (sends n r2 refl target (message.Migrate p.0)))));
        }

-- A COPY GOES

pub evictions : (code : List Instr) (w : ℕ) (x : Site) → Gives (SiteAlike code [] x) (beside_threads (evict_copy w) x)
evictions code w x =
    over_gives (λ (y : Work). y.rest ≡ record x.work.rest { cache = evict x.work.rest.cache w }) (SiteAlike code [] x) (evict_copy w x.work) _ (test_gives (λ (y : Work). y.rest ≡ record x.work.rest { cache = evict x.work.rest.cache w }) (can_evict x.work.rest.cache w) _ (λ on. refl))
    (λ y e. record {
      number = ap (λ (r : Rest). r.number) e;
      alike = beside (itself (all_standing x.work.rest.number x.threads)) (subst (λ r. Alike code (body_things x.work.rest.number x.work.rest) (body_things x.work.rest.number r)) (sym e) (other_copies x.work.rest.number x.work.rest (evict x.work.rest.cache w)));
    })
