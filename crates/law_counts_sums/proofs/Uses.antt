-- Uses of cached copies, and values that are let go.
use Rattle.std.proofs.Common.{◌≡◌, ℕ, ◌+◌, ◌-◌, ◌<◌, Bool, true, false, List, [], ◌∷◌, ◌++◌, Option, Some, None, refl, ap, arith}
use Rattle.std.specs.Prelude.{is_some}
use Rattle.std.proofs.lemmas.Bool.Decides.{nat_tests}
use Rattle.coherent_memory.specs.Below.fr_base.declared.release.Released.TheVariants as released
use Rattle.coherent_memory.specs.Below.fr_base.Lists.{is_in}
use Rattle.coherent_memory.specs.Below.global_addr.Words.{server_of}
use Rattle.coherent_memory.specs.Below.heap_partition.declared.value.Cell.{Cell}
use Rattle.coherent_memory.specs.Below.heap_partition.declared.value.Owned.{Owned}
use Rattle.coherent_memory.specs.Below.heap_partition.declared.value.Owned.TheVariants as owned
use Rattle.coherent_memory.specs.Below.read_cache.Cache.{Copy, copy_of, users, users_in, is_cached, can_pin, pin, can_unpin, unpin, fill}
use Rattle.coherent_memory.specs.Below.server_msgs.declared.message.Message.TheVariants as message
use Rattle.coherent_memory.specs.Below.journal.declared.act.Act.TheVariants as act
use Rattle.coherent_memory.specs.Below.server_model.Work.{Work, Hand, note, with_cache, working, used_once, use_word}
use Rattle.coherent_memory.specs.Below.migration.Packing.{unpin_all}
use Rattle.coherent_memory.specs.Below.server_model.Drop.{give_up, home_of}
use Rattle.coherent_memory.specs.Things.{Thing, in_hand, holds, uses, gift_things, walk_things, slot_things, temp_things, things_at, thread_things}
use Rattle.law_counts_sums.specs.Laws.{Gives}
use Rattle.law_counts_sums.proofs.Trades.{tot-append, trade_none, trade_left, trade_right, trade_push}
use Rattle.law_counts_sums.proofs.Rules.{Rule, none, turned, drops, fills, begins_use, ends_use, changes, beside, Kept}
use Rattle.law_counts_sums.proofs.Results.{test_gives}
use Rattle.law_counts_sums.proofs.Bags.{WorkOk, HandOk, rest_things, of_cache, of_thread}
use Rattle.law_counts_sums.proofs.Chains.{work_trades, work_sends, rest_trades, hand_trades, beside_hand, to_hand}
use Rattle.law_counts_sums.proofs.Copies.{copy_word, copy_users, copy_changes, copy_comes, new_copy}
use Rattle.law_counts_sums.proofs.Objects.{one_comes, one_goes}

pub cached_users : (cs : List Copy) (w : ℕ) → copy_of cs w ≡ None → users cs w ≡ 0
cached_users cs w q = ap users_in q

module _ {K : List Thing → Type 0} (k : Kept K) (n e : ℕ) where
  -- a use begins, and is in the hand
  pub begins : (others : List Thing) (x : Work) (w : ℕ) → can_pin x.rest.cache w ≡ true → WorkOk K n e others x → WorkOk K n e (uses n w ∷ others) (with_cache (pin x.rest.cache w) x)
  begins others x w on g = by (copy_of x.rest.cache w) refl
    where
      by : (o : Option Copy) → copy_of x.rest.cache w ≡ o → WorkOk K n e (uses n w ∷ others) (with_cache (pin x.rest.cache w) x)
      by None q = let z : is_cached x.rest.cache w ≡ false = ap is_some q in absurd (grind (arith, z, on))
      by (Some c) q =
          let m = users x.rest.cache w + 1 in
          let more : m ≡ c.users + 1 = ap (λ o. o + 1) (copy_users x.rest.cache w c q) in
          work_trades k n e x (with_cache (pin x.rest.cache w) x) refl (of_cache n e x.rest (pin x.rest.cache w) (copy_changes n x.rest.cache w m c q)) (one_comes (uses n w) others)
          (begins_use n w c m (copy_word x.rest.cache w c q) more) g

  -- a use that is in the hand ends
  pub ends : (others : List Thing) (x : Work) (w : ℕ) → can_unpin x.rest.cache w ≡ true → WorkOk K n e (uses n w ∷ others) x → WorkOk K n e others (with_cache (unpin x.rest.cache w) x)
  ends others x w on g = by (copy_of x.rest.cache w) refl
    where
      by : (o : Option Copy) → copy_of x.rest.cache w ≡ o → WorkOk K n e others (with_cache (unpin x.rest.cache w) x)
      by None q = let z = cached_users x.rest.cache w q in absurd (grind (arith, nat_tests, z, on))
      by (Some c) q =
          let m = users x.rest.cache w - 1 in
          let u = copy_users x.rest.cache w c q in
          let some : 0 < users x.rest.cache w = grind (arith, nat_tests, on) in
          let less : c.users ≡ m + 1 = omega (arith, u, some) in
          work_trades k n e x (with_cache (unpin x.rest.cache w) x) refl (of_cache n e x.rest (unpin x.rest.cache w) (copy_changes n x.rest.cache w m c q)) (one_goes (uses n w) others)
          (ends_use n w c m (copy_word x.rest.cache w c q) less) g

  -- the uses of a walk end
  pub ends_all : (others : List Thing) (i : ℕ) (ws : List ℕ) (x : Work) → WorkOk K n e (things_at (walk_things n) i ws ++ others) x → Gives (λ cs. WorkOk K n e others (with_cache cs x)) (unpin_all ws x.rest.cache)
  ends_all others i [] x g = g
  ends_all others i (w ∷ ws) x g =
      test_gives (λ cs. WorkOk K n e others (with_cache cs x)) (can_unpin x.rest.cache w) (unpin_all ws (unpin x.rest.cache w))
      (λ on. ends_all others (i + 1) ws (with_cache (unpin x.rest.cache w) x) (ends (things_at (walk_things n) (i + 1) ws ++ others) x w on g))

  -- a copy is filled
  pub fills_keep : (others : List Thing) (w : ℕ) (c : Cell) (x : Work) → WorkOk K n e others x → WorkOk K n e others (with_cache (fill x.rest.cache w c) x)
  fills_keep others w c x g =
      rest_trades k n e others x (with_cache (fill x.rest.cache w c) x) refl (of_cache n e x.rest (fill x.rest.cache w c) (copy_comes n x.rest.cache w c)) (by (copy_of x.rest.cache w)) g
    where
      by : (o : Option Copy) → Rule [] (new_copy n w c o)
      by None = fills n w c
      by (Some d) = none

  -- an owned value in the hand is let go
  pub gives_up : (others : List Thing) (v : Owned) (x : Work) → WorkOk K n e (holds in_hand v ∷ others) x → WorkOk K n e others (give_up v x)
  gives_up others (owned.Box p) x g = work_sends k n e (holds in_hand (owned.Box p) ∷ others) (note (act.Condemn p.object p.word) x) (server_of p.word) (message.Drop p.word p.object) (one_goes (holds in_hand (owned.Box p)) others) (drops in_hand (owned.Box p)) (record { number = g.number; bag = g.bag })
  gives_up others (owned.Mutex m) x g = work_sends k n e (holds in_hand (owned.Mutex m) ∷ others) (note (act.LetGo (released.Mutex m)) x) m.home (message.Release (released.Mutex m)) (one_goes (holds in_hand (owned.Mutex m)) others) (drops in_hand (owned.Mutex m)) (record { number = g.number; bag = g.bag })
  gives_up others (owned.Task t) x g = work_sends k n e (holds in_hand (owned.Task t) ∷ others) (note (act.LetGo (released.Task t)) x) (home_of t) (message.Release (released.Task t)) (one_goes (holds in_hand (owned.Task t)) others) (drops in_hand (owned.Task t)) (record { number = g.number; bag = g.bag })
  gives_up others owned.Nothing x g = work_trades k n e x x refl (trade_none (rest_things n e x.rest)) (one_goes (holds in_hand owned.Nothing) others) (drops in_hand owned.Nothing) g
  gives_up others owned.Unit x g = work_trades k n e x x refl (trade_none (rest_things n e x.rest)) (one_goes (holds in_hand owned.Unit) others) (drops in_hand owned.Unit) g
  gives_up others (owned.Int i) x g = work_trades k n e x x refl (trade_none (rest_things n e x.rest)) (one_goes (holds in_hand (owned.Int i)) others) (drops in_hand (owned.Int i)) g

  module _ (t : ℕ) where
    -- the work changes, with a thread in the hand
    pub on_work : (others others2 : List Thing) (f : Work → Work) (h : Hand) → (WorkOk K n e (thread_things n false h.thread ++ others) h.work → WorkOk K n e (thread_things n false h.thread ++ others2) (f h.work))
        → HandOk K n e t others h → HandOk K n e t others2 (working f h)
    on_work others others2 f h go g = to_hand k n e t others2 (f h.work) h.thread g.thread (go (beside_hand k n e t others h g))

    -- what is beside in another order
    pub turns : (a b : List Thing) (x : Work) → Rattle.law_counts_sums.proofs.Trades.Same a b → WorkOk K n e a x → WorkOk K n e b x
    turns a b x q g = record { number = g.number; bag = k.same _ _ (λ f. omega (arith, q f, tot-append f (rest_things n e x.rest) a, tot-append f (rest_things n e x.rest) b)) g.bag }

    pub hand_begins : (others : List Thing) (h : Hand) (w : ℕ) → can_pin h.work.rest.cache w ≡ true → HandOk K n e t others h → HandOk K n e t (uses n w ∷ others) (working (with_cache (pin h.work.rest.cache w)) h)
    hand_begins others h w on g =
        let a = thread_things n false h.thread in
        on_work others (uses n w ∷ others) (with_cache (pin h.work.rest.cache w)) h
        (λ u. turns (uses n w ∷ (a ++ others)) (a ++ (uses n w ∷ others)) _ (λ f. omega (arith, tot-append f a others, tot-append f a (uses n w ∷ others))) (begins (a ++ others) h.work w on u)) g

    pub hand_ends : (others : List Thing) (h : Hand) (w : ℕ) → can_unpin h.work.rest.cache w ≡ true → HandOk K n e t (uses n w ∷ others) h → HandOk K n e t others (working (with_cache (unpin h.work.rest.cache w)) h)
    hand_ends others h w on g =
        let a = thread_things n false h.thread in
        on_work (uses n w ∷ others) others (with_cache (unpin h.work.rest.cache w)) h
        (λ u. ends (a ++ others) h.work w on (turns (a ++ (uses n w ∷ others)) (uses n w ∷ (a ++ others)) _ (λ f. omega (arith, tot-append f a others, tot-append f a (uses n w ∷ others))) u)) g

    pub hand_gives_up : (others : List Thing) (v : Owned) (h : Hand) → HandOk K n e t (holds in_hand v ∷ others) h → HandOk K n e t others (working (give_up v) h)
    hand_gives_up others v h g =
        let a = thread_things n false h.thread in
        on_work (holds in_hand v ∷ others) others (give_up v) h
        (λ u. gives_up (a ++ others) v h.work (turns (a ++ (holds in_hand v ∷ others)) (holds in_hand v ∷ (a ++ others)) _ (λ f. omega (arith, tot-append f a others, tot-append f a (holds in_hand v ∷ others))) u)) g

    -- a word comes to the walk
    walks : (others : List Thing) (h : Hand) (w : ℕ) → HandOk K n e t (uses n w ∷ others) h → HandOk K n e t others (record h { thread = record h.thread { walk = h.thread.walk ++ w ∷ [] } })
    walks others h w g =
        let t2 = record h.thread { walk = h.thread.walk ++ w ∷ [] } in
        hand_trades k n e t h (record h { thread = t2 }) refl refl
        (of_thread n h.thread t2 (trade_right (things_at (temp_things n h.thread.number) 0 h.thread.temps) (trade_right (things_at (slot_things n h.thread.number) 0 h.thread.slots) (trade_left (gift_things h.thread.number h.thread.gift) (trade_push (walk_things n) h.thread.walk 0 w)))))
        (trade_none (rest_things n e h.work.rest)) (one_goes (uses n w) others) (beside (changes n false h.thread t2 refl) (turned (uses n w ∷ []) (uses n w ∷ []) (λ f. refl))) g

    pub uses_once : (others : List Thing) (w : ℕ) (h : Hand) (b : Bool) → HandOk K n e t others h → Gives (HandOk K n e t others) (used_once w b h)
    uses_once others w h true g = g
    uses_once others w h false g =
        test_gives (HandOk K n e t others) (can_pin h.work.rest.cache w) _ (λ on. walks others (working (with_cache (pin h.work.rest.cache w)) h) w (hand_begins others h w on g))

    pub uses_word : (others : List Thing) (w : ℕ) (h : Hand) → HandOk K n e t others h → Gives (HandOk K n e t others) (use_word w h)
    uses_word others w h g = uses_once others w h (is_in w h.thread.walk) g
