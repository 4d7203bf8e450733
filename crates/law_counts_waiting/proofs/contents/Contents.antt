-- The content of each mutex stands in exactly one place, after each event of a coherent cluster.
use Rattle.std.proofs.Common.{◌≡◌, inl, inr, ℕ, ◌+◌, ◌==◌, ◌&&◌, Bool, true, false, is_some, List, [], ◌∷◌, Option, Some, None, refl, sym, ap, subst, ◌∙◌, arith}
use Rattle.std.specs.Prelude.{slice_get}
use Rattle.std.proofs.lemmas.Bool.{eq-eqb}
use Rattle.law_counts_waiting.specs.Below.fr_base.declared.name.MutexNo.{MutexNo}
use Rattle.law_counts_waiting.specs.Below.fr_base.declared.instruction.Instr.{Instr}
use Rattle.law_counts_waiting.specs.Below.fr_base.declared.instruction.Instr.TheVariants as instr
use Rattle.law_counts_waiting.specs.Below.heap_partition.declared.value.Owned.{Owned}
use Rattle.law_counts_waiting.specs.Below.thread_state.View.{ThreadState}
use Rattle.law_counts_waiting.specs.Below.journal.View.{EntryView}
use Rattle.law_counts_waiting.specs.Below.server_model.declared.event.Event.{Event}
use Rattle.law_counts_waiting.specs.Below.server_model.declared.event.What.{What}
use Rattle.law_counts_waiting.specs.Below.server_model.declared.event.What.TheVariants.{Step, Deliver, Evict, Migrate}
use Rattle.law_counts_waiting.specs.Below.server_model.Servers.{Server, Cluster, server_at}
use Rattle.law_counts_waiting.specs.Below.server_model.Clusters.{done_at, act_at, apply}
use Rattle.law_counts_waiting.specs.Below.server_model.Events.{enabled, does}
use Rattle.law_counts_waiting.specs.Below.coherent_memory.Names.{tot, one, other, if_so, same_mutex, Among}
use Rattle.law_counts_waiting.specs.Below.coherent_memory.Things.{Spot, in_slot, in_temp, as_gift, as_content, as_result, in_hand, at_slot, at_temp, in_cell, Thing, holds, shares, borrows, locks, lies, flies, vacant, retired, copied, uses, sent, stands, at_home, queued, noted, counts, things_of}
use Rattle.law_counts_waiting.specs.Below.coherent_memory.Follow.{Standing, threads_in}
use Rattle.law_counts_waiting.specs.Below.coherent_memory.Sight.{Sight, sight}
use Rattle.law_counts_waiting.specs.Below.coherent_memory.Weights.{is_home_of}
use Rattle.law_counts_waiting.specs.Below.coherent_memory.Requests.{is_mutex, locked_mutex}
use Rattle.law_counts_waiting.specs.Below.coherent_memory.Sharing.{is_content_of, gift_content, contents, spot_mutex, some_mutex, held_mutexes}
use Rattle.law_counts_waiting.specs.Below.coherent_memory.Coherent.{one_content}
use Rattle.law_counts_waiting.proofs.Below.coherent_memory.Names.{same_mutexes}
use Rattle.law_counts_waiting.proofs.Below.coherent_memory.Shown.{agree_none}
use Rattle.law_counts_waiting.specs.Below.coherent_types.ClusterTypes.{IsCoherent}
use Rattle.law_counts_waiting.specs.Below.law_counts_sums.Laws.{Gives, FewEvents}
use Rattle.law_counts_waiting.proofs.Below.law_counts_sums.Results.{then_gives, over_gives, both_give, test_gives, weaker}
use Rattle.law_counts_waiting.proofs.Below.law_counts_sums.Events.{tot-server}
use Rattle.law_counts_waiting.proofs.Below.law_counts_sums.Applied.{handed_on}
use Rattle.law_counts_waiting.proofs.Below.law_counts_sums.Sending.{each_event_sends}
use Rattle.law_counts_waiting.specs.Below.law_counts_things.things.Laws.{EachCoherentEventKeeps}
use Rattle.law_counts_waiting.specs.Below.law_counts_asking.Standing.{locked, gift_at, gift_off, off}
use Rattle.law_counts_waiting.specs.contents.Contents.{OneContent, EachEventLeavesOneContent}
use Rattle.law_counts_waiting.proofs.contents.Weigh.{weigh, server_sum, home_sum}
use Rattle.law_counts_waiting.proofs.contents.Deliveries.{Then, delivers, evicts, migrates}
use Rattle.law_counts_waiting.proofs.contents.Gifts.{gift_of, bare_gift, gifts}
use Rattle.law_counts_waiting.proofs.contents.Steps.{steps}
use Rattle.law_counts_waiting.proofs.contents.Locked.{none_among, After, LockKept, locks_kept}

-- THE WEIGHT OF A MUTEX

-- a mutex is the same as itself
mutex_itself : (m : MutexNo) → same_mutex m m ≡ true
mutex_itself m = ap (λ b. b && (m.count == m.count)) (eq-eqb m.home m.home refl) ∙ eq-eqb m.count m.count refl

-- it doesn't matter which of two is asked for the other
turned : (m n : MutexNo) → one (same_mutex m n) ≡ one (same_mutex n m)
turned m n = by (same_mutex m n) (same_mutex n m) refl refl
  where
    by : (p q : Bool) → same_mutex m n ≡ p → same_mutex n m ≡ q → one p ≡ one q
    by true true e f = refl
    by false false e f = refl
    by true false e f = let both : same_mutex n m ≡ true = subst (λ x. same_mutex x m ≡ true) (same_mutexes m n e) (mutex_itself m) in absurd (cc (sym both ∙ f))
    by false true e f = let both : same_mutex m n ≡ true = subst (λ x. same_mutex x n ≡ true) (same_mutexes n m f) (mutex_itself n) in absurd (cc (sym both ∙ e))

abbrev of : MutexNo → MutexNo → ℕ
of m n = one (same_mutex n m)

-- a mutex that is found weighs one where it is the one that is asked for
is_some_mutex : (m : MutexNo) (o : Option MutexNo) → one (is_mutex m o) ≡ some_mutex (of m) o
is_some_mutex m None = refl
is_some_mutex m (Some n) = turned m n

-- the mutex at a lock by the cluster is that by its places
locked_is : (s : Sight) (y : Standing) (i : Option Instr) → locked_mutex s y i ≡ locked s.ground y.thread.number i
locked_is s y (Some (instr.Lock w)) = refl
locked_is s y i = refl

-- CONTENTS AS A WEIGHT

-- a spot of a content weighs its mutex
spot_is : (m : MutexNo) (p : Spot) → is_content_of m p ≡ spot_mutex (of m) p
spot_is m (as_content n) = refl
spot_is m (in_slot t i) = refl
spot_is m (in_temp t i) = refl
spot_is m (as_gift t) = refl
spot_is m (as_result t) = refl
spot_is m in_hand = refl

-- where gifts weigh what is told of them, all contents do
contents_are : (s : Sight) (m : MutexNo) (g : ThreadState → ℕ) (b : List Thing) → ((y : Standing) → Among y (threads_in b) → gift_content s m y ≡ g y.thread) → tot (contents s m) b ≡ tot (weigh (of m) (of m) g) b
contents_are s m g [] e = refl
contents_are s m g (holds p v ∷ b) e = omega (arith, spot_is m p, contents_are s m g b e)
contents_are s m g (locks (at_slot t i) n ∷ b) e = omega (arith, contents_are s m g b e)
contents_are s m g (locks (at_temp t i) n ∷ b) e = omega (arith, contents_are s m g b e)
contents_are s m g (locks (in_cell o) n ∷ b) e = omega (arith, contents_are s m g b e)
contents_are s m g (stands r p t ∷ b) e = omega (arith, e (record { server = r; packed = p; thread = t }) (inl refl), contents_are s m g b (λ y h. e y (inr h)))
contents_are s m g (shares p r ∷ b) e = omega (arith, contents_are s m g b e)
contents_are s m g (borrows p r ∷ b) e = omega (arith, contents_are s m g b e)
contents_are s m g (lies r a d ∷ b) e = omega (arith, contents_are s m g b e)
contents_are s m g (flies w d ∷ b) e = omega (arith, contents_are s m g b e)
contents_are s m g (vacant r a n ∷ b) e = omega (arith, contents_are s m g b e)
contents_are s m g (retired r a ∷ b) e = omega (arith, contents_are s m g b e)
contents_are s m g (copied r d ∷ b) e = omega (arith, contents_are s m g b e)
contents_are s m g (uses r w ∷ b) e = omega (arith, contents_are s m g b e)
contents_are s m g (sent t x ∷ b) e = omega (arith, contents_are s m g b e)
contents_are s m g (at_home r x ∷ b) e = omega (arith, contents_are s m g b e)
contents_are s m g (queued n r t ∷ b) e = omega (arith, contents_are s m g b e)
contents_are s m g (noted r x ∷ b) e = omega (arith, contents_are s m g b e)
contents_are s m g (counts r a d f h j ∷ b) e = omega (arith, contents_are s m g b e)

-- AT A SERVER

module _ (k : Cluster) (coherent : IsCoherent k) (few : FewEvents k) (n : ℕ) (s : Server) (here : server_at k.servers n ≡ Some s) (m : MutexNo) where
  abbrev There : Server × EntryView → Type 0
  There = Then (of m) s (gift_of (of m) k) (gifts (of m) k coherent.sound n s here)

  -- whatever event is done there
  at_server : (what : What) → enabled k.options s what ≡ true → Gives There (does k.code k.options s what)
  at_server (Step t) on = steps k coherent few n s here (of m) t on
  at_server (Deliver i) on = delivers (of m) s (gift_of (of m) k) (gifts (of m) k coherent.sound n s here) k.code k.options i
  at_server (Evict w) on = evicts (of m) s (gift_of (of m) k) (gifts (of m) k coherent.sound n s here) k.code k.options w
  at_server (Migrate t target) on = migrates (of m) s (gift_of (of m) k) (gifts (of m) k coherent.sound n s here) k.code k.options t target

-- IN ITS CLUSTER

module _ (k : Cluster) (e : Event) (coherent : IsCoherent k) (few : FewEvents k) where
  abbrev f : MutexNo → Thing → ℕ
  f m = weigh (of m) (of m) (gift_of (of m) k)

  abbrev Even : Cluster → Type 0
  Even c = (m : MutexNo) → tot (f m) (things_of c) + tot (is_home_of m) (things_of k) ≡ tot (f m) (things_of k) + tot (is_home_of m) (things_of c)

  -- of each name at once
  all_give : {A X : Type 0} (P : A → X → Type 0) (o : Option X) → ((a : A) → Gives (P a) o) → Gives (λ x. (a : A) → P a x) o
  all_give P None g = tt
  all_give P (Some x) g = λ a. g a

  -- at its server the event leaves contents and homes balanced
  acted : Gives (λ (d : Cluster × EntryView). Even d.0) (act_at k e)
  acted =
      then_gives (λ (d : Cluster × EntryView). Even d.0) (server_at k.servers e.server) _ (λ s here.
      over_gives (λ (r : Server × EntryView). (m : MutexNo) → There k coherent few e.server s here m r) (λ (d : Cluster × EntryView). Even d.0) (done_at k e.what s) _
      (all_give (There k coherent few e.server s here) (done_at k e.what s) (λ m. test_gives (There k coherent few e.server s here m) (enabled k.options s e.what) _ (λ on. at_server k coherent few e.server s here m e.what on)))
      (λ r u m.
      let before = tot-server (f m) k.servers e.server s r.0 here in
      let homes_there = tot-server (is_home_of m) k.servers e.server s r.0 here in
      omega (arith, u m, server_sum (of m) (of m) (gift_of (of m) k) s, server_sum (of m) (of m) (gift_of (of m) k) r.0, home_sum m s, home_sum m r.0, before.0, before.1, homes_there.0, homes_there.1)))

  -- and so with its messages handed over
  even_after : Gives (λ (d : Cluster × EntryView). Even d.0) (apply k e)
  even_after = handed_on Even (λ c a b same u m. omega (arith, u m, same (f m), same (is_home_of m))) k e (each_event_sends k e coherent.sound few) acted

  -- GIFTS BEFORE AND AFTER

  -- before the event gifts weigh what they are
  gift_before : (m : MutexNo) (y : Standing) → gift_content (sight k) m y ≡ gift_of (of m) k y.thread
  gift_before m y =
      ap (if_so (is_some y.thread.gift)) (is_some_mutex m (locked_mutex (sight k) y (slice_get k.code y.thread.pc)) ∙ ap (some_mutex (of m)) (locked_is (sight k) y (slice_get k.code y.thread.pc)))

  module _ (c : Cluster) (a : After k c) (kept : LockKept k c) where
    -- the lock of a gift has the mutex that it had
    lock_same : (y : Standing) (v : Owned) → Among y (threads_in (things_of c)) → y.thread.gift ≡ Some v → (i : Option Instr) → slice_get k.code y.thread.pc ≡ i → gift_at (sight k).ground i y.thread v ≡ 0
        → locked_mutex (sight c) y i ≡ locked (sight k).ground y.thread.number i
    lock_same y v among given (Some (instr.Lock w)) at z = by (locked (sight k).ground y.thread.number (Some (instr.Lock w))) refl z
      where
        by : (o : Option MutexNo) → locked (sight k).ground y.thread.number (Some (instr.Lock w)) ≡ o → other (is_some o) ≡ 0 → locked_mutex (sight c) y (Some (instr.Lock w)) ≡ o
        by None q z = absurd (cc z)
        by (Some m) q z = kept y v among given w at m q
    lock_same y v among given i at z = refl

    -- and afterwards too
    gift_after : (m : MutexNo) (y : Standing) → Among y (threads_in (things_of c)) → gift_content (sight c) m y ≡ gift_of (of m) k y.thread
    gift_after m y among = by y.thread.gift refl
      where
        code_same : gift_content (sight c) m y ≡ if_so (is_some y.thread.gift) (one (is_mutex m (locked_mutex (sight c) y (slice_get k.code y.thread.pc))))
        code_same = ap (λ cs. if_so (is_some y.thread.gift) (one (is_mutex m (locked_mutex (sight c) y (slice_get cs y.thread.pc))))) a.code

        by : (o : Option Owned) → y.thread.gift ≡ o → gift_content (sight c) m y ≡ gift_of (of m) k y.thread
        by None q =
            code_same ∙ ap (λ (o : Option Owned). if_so (is_some o) (one (is_mutex m (locked_mutex (sight c) y (slice_get k.code y.thread.pc))))) q ∙ sym (bare_gift (of m) k y.thread q)
        by (Some v) q =
            let G = (sight k).ground in
            let i = slice_get k.code y.thread.pc in
            let stands : off k y ≡ 0 = none_among (off k) y (threads_in (things_of c)) among a.stand in
            let mine : gift_off G i y.thread y.thread.gift ≡ 0 = omega (arith, stands) in
            let fits : gift_at G i y.thread v ≡ 0 = sym (ap (gift_off G i y.thread) q) ∙ mine in
            code_same ∙ ap (if_so (is_some y.thread.gift)) (is_some_mutex m (locked_mutex (sight c) y i) ∙ ap (some_mutex (of m)) (lock_same y v among q i refl fits))

    -- so as many places as homes are left
    one_content_after : Even c → OneContent c
    one_content_after even m =
        omega (
          arith,
          even m,
          coherent.sound.mutexes_and_tasks.one_content m,
          contents_are (sight k) m (gift_of (of m) k) (things_of k) (λ y h. gift_before m y),
          contents_are (sight c) m (gift_of (of m) k) (things_of c) (gift_after m),
        )

  -- whatever is done
  pub one_content_kept : Gives (λ (d : Cluster × EntryView). OneContent d.0) (apply k e)
  one_content_kept =
      both_give (λ (d : Cluster × EntryView). Even d.0) (λ (d : Cluster × EntryView). After k d.0 × LockKept k d.0) (λ (d : Cluster × EntryView). OneContent d.0) (apply k e) even_after (locks_kept k e coherent few)
      (λ d u v. one_content_after d.0 v.0 v.1 u)

-- the law
pub each_leaves : EachEventLeavesOneContent
each_leaves k e coherent few = one_content_kept k e coherent few

-- THE SENTENCE

-- where no mutex has a weight, none is shown
shown_none : (s : Sight) (h : MutexNo → ℕ) → ((m : MutexNo) → h m ≡ 0) → (x : Thing) → held_mutexes s h x ≡ 0
shown_none s h z (holds (as_content m) v) = z m
shown_none s h z (holds (in_slot t i) v) = refl
shown_none s h z (holds (in_temp t i) v) = refl
shown_none s h z (holds (as_gift t) v) = refl
shown_none s h z (holds (as_result t) v) = refl
shown_none s h z (holds in_hand v) = refl
shown_none s h z (locks (at_slot t i) m) = z m
shown_none s h z (locks (at_temp t i) m) = refl
shown_none s h z (locks (in_cell o) m) = refl
shown_none s h z (at_home r m) = z m.number
shown_none s h z (stands r p t) = by (is_some t.gift) (locked_mutex s (record { server = r; packed = p; thread = t }) (slice_get s.code t.pc))
  where
    some_none : (o : Option MutexNo) → some_mutex h o ≡ 0
    some_none None = refl
    some_none (Some m) = z m

    by : (q : Bool) (o : Option MutexNo) → if_so q (some_mutex h o) ≡ 0
    by true o = some_none o
    by false o = refl
shown_none s h z x = refl

-- and the sentence that counts where it isn't so
pub sentence_kept : EachCoherentEventKeeps one_content
sentence_kept k e coherent few =
    weaker (λ (d : Cluster × EntryView). OneContent d.0) _ (apply k e) (one_content_kept k e coherent few) (λ d u. agree_none (contents (sight d.0)) is_home_of (held_mutexes (sight d.0)) (shown_none (sight d.0)) (things_of d.0) u)
