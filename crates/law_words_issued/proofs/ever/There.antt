-- A pointer with the word, or a thread that has taken an object under it, stands in the cluster where the object came.
use Rattle.std.proofs.Common.{◌≡◌, ◌≤◌, ℕ, ◌+◌, ◌==◌, Bool, true, false, if◌then◌else◌, List, [], ◌∷◌, ◌++◌, Option, Some, None, option_map, refl, sym, ap, subst, ◌∙◌, arith}
use Rattle.std.specs.Prelude.{slice_get}
use Rattle.law_words_issued.specs.Below.heap_partition.declared.value.Cell.{Cell}
use Rattle.law_words_issued.specs.Below.owner_box.Partition.{new_word}
use Rattle.law_words_issued.specs.Below.thread_state.View.{ThreadState}
use Rattle.law_words_issued.specs.Below.thread_state.declared.value.Value.{Value}
use Rattle.law_words_issued.specs.Below.thread_state.declared.value.Value.TheVariants as value
use Rattle.law_words_issued.specs.Below.server_msgs.declared.message.Message.TheVariants as message
use Rattle.law_words_issued.specs.Below.journal.View.{EntryView}
use Rattle.law_words_issued.specs.Below.server_model.declared.event.Event.{Event}
use Rattle.law_words_issued.specs.Below.server_model.declared.event.What.TheVariants.{Deliver}
use Rattle.law_words_issued.specs.Below.server_model.Servers.{Server, Cluster, server_at}
use Rattle.law_words_issued.specs.Below.server_model.Work.{Hand, Site, then_some, thread_in, set_thread, put_back}
use Rattle.law_words_issued.specs.Below.server_model.Objects.{deliver_moved}
use Rattle.law_words_issued.specs.Below.server_model.Events.{enabled, left_by, received, deliver_message, does}
use Rattle.law_words_issued.specs.Below.server_model.Clusters.{with_server, done_at, act_at, apply}
use Rattle.law_words_issued.specs.Below.coherent_memory.Names.{tot, one}
use Rattle.law_words_issued.specs.Below.coherent_memory.Things.{Thing, holds, borrows, lies, stands, things_at, gift_things, walk_things, slot_things, temp_things, thread_things, standing_things, cell_things, free_things, partition_things, server_things, things_of}
use Rattle.law_words_issued.specs.Below.coherent_memory.Coherent.{IsSound}
use Rattle.law_words_issued.proofs.Below.coherent_memory.Sums.{tot-append, server_parts}
use Rattle.law_words_issued.specs.Below.law_counts_sums.Laws.{Gives, FewEvents}
use Rattle.law_words_issued.proofs.Below.law_counts_sums.Results.{over_gives, test_gives}
use Rattle.law_words_issued.proofs.Below.law_counts_sums.Bags.{thread_number}
use Rattle.law_words_issued.proofs.Below.law_counts_sums.Events.{tot-server}
use Rattle.law_words_issued.proofs.Below.law_counts_sums.Applied.{handed_on}
use Rattle.law_words_issued.proofs.Below.law_counts_sums.Sending.{each_event_sends}
use Rattle.law_words_issued.proofs.ever.Put.{word_in, word_at, taken_as, Shown, lands_shown}

-- THINGS

abbrev pub word_of : ℕ → Thing → ℕ
word_of w (holds p v) = word_in w (value.Own v)
word_of w (borrows l r) = one (r.word == w)
word_of w (lies s a c) = word_in w (value.Own c.value)
word_of w (stands s p t) = taken_as w t.phase
word_of w x = 0

module _ (w : ℕ) where
  abbrev f : Thing → ℕ
  f = word_of w

  slot_weighs : (n t i : ℕ) (v : Value) → word_in w v ≤ tot f (slot_things n t i v)
  slot_weighs n t i (value.Own v) = omega arith
  slot_weighs n t i (value.Mut r) = omega arith
  slot_weighs n t i value.Gone = omega arith
  slot_weighs n t i (value.SharedSlot j) = omega arith
  slot_weighs n t i (value.MutSlot j) = omega arith
  slot_weighs n t i (value.Shared r) = omega arith
  slot_weighs n t i (value.Held m) = omega arith

  temp_weighs : (n t i : ℕ) (v : Value) → word_in w v ≤ tot f (temp_things n t i v)
  temp_weighs n t i (value.Own v) = omega arith
  temp_weighs n t i (value.Mut r) = omega arith
  temp_weighs n t i value.Gone = omega arith
  temp_weighs n t i (value.SharedSlot j) = omega arith
  temp_weighs n t i (value.MutSlot j) = omega arith
  temp_weighs n t i (value.Shared r) = omega arith
  temp_weighs n t i (value.Held m) = omega arith

  cell_weighs : (n : ℕ) (free : List (ℕ × ℕ)) (i : ℕ) (c : Option Cell) → word_at w c ≤ tot f (cell_things n free i c)
  cell_weighs n free i None = omega arith
  cell_weighs n free i (Some c) = omega arith

  all_weigh : {X : Type 0} (g : X → ℕ) (h : ℕ → X → List Thing) → ((i : ℕ) (x : X) → g x ≤ tot f (h i x)) → (i : ℕ) (xs : List X) → tot g xs ≤ tot f (things_at h i xs)
  all_weigh g h go i [] = omega arith
  all_weigh g h go i (x ∷ xs) = omega (arith, go i x, all_weigh g h go (i + 1) xs, tot-append f (h i x) (things_at h (i + 1) xs))

  thread_weighs : (n : ℕ) (t : ThreadState) → tot (word_in w) t.slots + tot (word_in w) t.temps + taken_as w t.phase ≤ tot f (thread_things n false t)
  thread_weighs n t =
      let gift = gift_things t.number t.gift in
      let walk = things_at (walk_things n) 0 t.walk in
      let slots = things_at (slot_things n t.number) 0 t.slots in
      let temps = things_at (temp_things n t.number) 0 t.temps in
      omega (
        arith,
        tot-append f (gift ++ walk ++ slots) temps,
        tot-append f (gift ++ walk) slots,
        tot-append f gift walk,
        all_weigh (word_in w) (slot_things n t.number) (slot_weighs n t.number) 0 t.slots,
        all_weigh (word_in w) (temp_things n t.number) (temp_weighs n t.number) 0 t.temps,
      )

  -- a thread that is put back
  put_weighs : (n t i : ℕ) (ts : List ThreadState) (y new : ThreadState) → thread_in ts t ≡ Some y → new.number ≡ t → tot f (thread_things n false new) ≤ tot f (things_at (standing_things n) i (set_thread ts new))
  put_weighs n t i [] y new e same = absurd (cc e)
  put_weighs n t i (x ∷ ts) y new e same = by (x.number == t) refl (λ d. put_weighs n t (i + 1) ts y new d same) e
    where
      by : (b : Bool) → (x.number == t) ≡ b → (thread_in ts t ≡ Some y → tot f (thread_things n false new) ≤ tot f (things_at (standing_things n) (i + 1) (set_thread ts new))) → (if b then Some x else thread_in ts t) ≡ Some y → tot f (thread_things n false new) ≤ tot f (things_at (standing_things n) i (if x.number == new.number then new ∷ ts else x ∷ set_thread ts new))
      by true q go d =
          let at : (x.number == new.number) ≡ true = ap (λ m. x.number == m) same ∙ q in
          subst (λ b. tot f (thread_things n false new) ≤ tot f (things_at (standing_things n) i (if b then new ∷ ts else x ∷ set_thread ts new))) (sym at) (omega (arith, tot-append f (thread_things n false new) (things_at (standing_things n) (i + 1) ts)))
      by false q go d =
          let at : (x.number == new.number) ≡ false = ap (λ m. x.number == m) same ∙ q in
          subst (λ b. tot f (thread_things n false new) ≤ tot f (things_at (standing_things n) i (if b then new ∷ ts else x ∷ set_thread ts new))) (sym at)
          (omega (arith, tot-append f (thread_things n false x) (things_at (standing_things n) (i + 1) (set_thread ts new)), go d))

  cells_weigh : (s : Server) → tot (word_at w) s.rest.partition.cells ≤ tot f (partition_things s.rest.number s.rest.partition)
  cells_weigh s =
      let p = s.rest.partition in
      let n = s.rest.number in
      omega (arith, all_weigh (word_at w) (cell_things n p.free) (cell_weighs n p.free) 0 p.cells, tot-append f (things_at (cell_things n p.free) 0 p.cells) (things_at (free_things n) 0 p.free))

-- THE CLUSTER

module _ (k : Cluster) (e : Event) (sound : IsSound k) (few : FewEvents k) (s : Server) (here : server_at k.servers e.server ≡ Some s) (i old : ℕ) (c : Cell) (t : ℕ) (what : e.what ≡ Deliver i) (there : slice_get s.rest.inbox i ≡ Some (message.Moved old c t)) where
  abbrev pub w : ℕ
  w = new_word s.rest.partition

  abbrev n : ℕ
  n = s.rest.number

  abbrev Shows : Server × EntryView → Type 0
  Shows r = 1 ≤ tot (word_of w) (server_things r.0)

  put_there : (y : ThreadState) (h : Hand) → thread_in s.threads t ≡ Some y → Shown n t w h → Shows (left_by s.events None None (put_back s.threads h))
  put_there y h q u =
      let g = u.0 in
      let r : Server = record { rest = h.work.rest; threads = set_thread s.threads h.thread; events = s.events + 1 } in
      omega (
        arith,
        u.1,
        thread_weighs w h.work.rest.number h.thread,
        put_weighs w h.work.rest.number t 0 s.threads y h.thread q g.1,
        cells_weigh w r,
        server_parts (word_of w) r,
      )

  abbrev x0 : Site
  x0 = received i s

  lands : Gives Shows (does k.code k.options s (Deliver i))
  lands =
      subst (λ o. Gives Shows (option_map (left_by s.events None None) (then_some o (λ m. deliver_message k.code m x0)))) (sym there) (by (thread_in s.threads t) refl)
    where
      by : (x : Option ThreadState) → thread_in s.threads t ≡ x → Gives Shows (option_map (left_by s.events None None) (then_some (option_map (λ y. record { work = x0.work; thread = y }) x) (λ h. option_map (put_back s.threads) (deliver_moved k.code old c h))))
      by None q = tt
      by (Some y) q =
          over_gives (λ (x : Site). Shows (left_by s.events None None x)) Shows (option_map (put_back s.threads) (deliver_moved k.code old c (record { work = x0.work; thread = y }))) (left_by s.events None None)
          (over_gives (Shown n t w) (λ (x : Site). Shows (left_by s.events None None x)) (deliver_moved k.code old c (record { work = x0.work; thread = y })) (put_back s.threads)
          (lands_shown n t k.code old c (record { work = x0.work; thread = y }) (refl, thread_number s.threads t y q)) (λ h u. put_there y h q u)) (λ x u. u)

  abbrev Shows_in : Cluster → Type 0
  Shows_in z = 1 ≤ tot (word_of w) (things_of z)

  acted : Gives (λ (x : Cluster × EntryView). Shows_in x.0) (act_at k e)
  acted =
      subst (λ q. Gives (λ (x : Cluster × EntryView). Shows_in x.0) (then_some q (λ s2. option_map (λ x. (record k { servers = with_server k.servers e.server x.0 }, x.1)) (done_at k e.what s2)))) (sym here)
      (over_gives Shows (λ (x : Cluster × EntryView). Shows_in x.0) (done_at k e.what s) _
      (test_gives Shows (enabled k.options s e.what) (does k.code k.options s e.what) (λ on. subst (λ v. Gives Shows (does k.code k.options s v)) (sym what) lands))
      (λ r u. omega (arith, u, (tot-server (word_of w) k.servers e.server s r.0 here).1)))

  pub shown : Gives (λ (x : Cluster × EntryView). Shows_in x.0) (apply k e)
  shown = handed_on Shows_in (λ z a b same g. omega (arith, g, same (word_of w))) k e (each_event_sends k e sound few) acted
