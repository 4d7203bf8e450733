-- First words after a step, and after the delivery of an object: from the thread to its server, and to the cluster with the messages handed over.
use Rattle.std.proofs.Common.{◌≡◌, inl, ℕ, suc, ◌+◌, true, List, [], ◌∷◌, Option, Some, None, option_map, refl, sym, ap, subst, ◌∙◌, arith}
use Rattle.std.specs.Prelude.{slice_get}
use Rattle.std.specs.List.{AllByRecursion}
use Rattle.law_walks_own.specs.Below.fr_base.declared.instruction.Instr.{Instr}
use Rattle.law_walks_own.specs.Below.fr_base.declared.instruction.Instr.TheVariants as instr
use Rattle.law_walks_own.specs.Below.heap_partition.declared.value.Cell.{Cell}
use Rattle.law_walks_own.specs.Below.journal.View.{EntryView}
use Rattle.law_walks_own.specs.Below.mut_borrow.declared.mutable.MutRef.{MutRef}
use Rattle.law_walks_own.specs.Below.thread_state.View.{ThreadState}
use Rattle.law_walks_own.specs.Below.thread_state.declared.value.Value.{Value}
use Rattle.law_walks_own.specs.Below.thread_state.declared.value.Value.TheVariants as value
use Rattle.law_walks_own.specs.Below.server_msgs.declared.message.Message.TheVariants as message
use Rattle.law_walks_own.specs.Below.server_model.declared.event.Event.{Event}
use Rattle.law_walks_own.specs.Below.server_model.declared.event.What.TheVariants.{Step, Deliver}
use Rattle.law_walks_own.specs.Below.server_model.Servers.{Server, Cluster, server_at}
use Rattle.law_walks_own.specs.Below.server_model.Work.{Hand, Site, then_some, thread_in, put_back, at_thread}
use Rattle.law_walks_own.specs.Below.server_model.Objects.{deliver_moved}
use Rattle.law_walks_own.specs.Below.server_model.Clusters.{done_at, act_at, apply}
use Rattle.law_walks_own.specs.Below.server_model.Events.{Stepped, enabled, begin_work, left_by, received, deliver_message, step, step_in, stepped, does}
use Rattle.law_walks_own.specs.Below.coherent_memory.Names.{tot, Among}
use Rattle.law_walks_own.specs.Below.coherent_memory.Things.{Location, at_slot, at_temp, in_cell, Thing, borrows, server_things, things_of}
use Rattle.law_walks_own.specs.Below.coherent_memory.Follow.{Standing, threads_in, thread_at, cell_of, slot_of, temp_of, value_of, value_in}
use Rattle.law_walks_own.specs.Below.coherent_memory.Placing.{words}
use Rattle.law_walks_own.specs.Below.coherent_memory.Sight.{sight}
use Rattle.law_walks_own.proofs.Below.coherent_memory.Words.{none_at, none_all}
use Rattle.law_walks_own.specs.Below.coherent_types.ClusterTypes.{IsCoherent}
use Rattle.law_walks_own.proofs.Below.law_words_paths.paths.Contained.{among_thread}
use Rattle.law_walks_own.specs.Below.law_words_paths.words.Reworded.{HasPlaces}
use Rattle.law_walks_own.proofs.Below.law_words_paths.words.Standing.{slot_among, temp_among, borrow_stands}
use Rattle.law_walks_own.specs.Below.law_counts_sums.Laws.{Gives, FewEvents}
use Rattle.law_walks_own.proofs.Below.law_counts_sums.Results.{then_gives, over_gives, test_gives, both_give, weaker}
use Rattle.law_walks_own.proofs.Below.law_counts_sums.Known.{all_at}
use Rattle.law_walks_own.proofs.Below.law_counts_sums.KnownSound.{on_standing, sum_standing}
use Rattle.law_walks_own.proofs.Below.law_counts_sums.Events.{tot-server}
use Rattle.law_walks_own.proofs.Below.law_counts_sums.Applied.{handed_on}
use Rattle.law_walks_own.proofs.Below.law_counts_sums.Sending.{each_event_sends, applied_part}
use Rattle.law_walks_own.proofs.Below.law_heap_still.events.Told.{found}
use Rattle.law_walks_own.proofs.Below.law_counts_things.things.Mail.{Mailed, Replies, Requests, BeginsBy, message_says, step_tells}
use Rattle.law_walks_own.proofs.Below.law_counts_things.things.Threads.{set_all, found_all, remove_all, Parcel, Held}
use Rattle.law_walks_own.proofs.Below.law_counts_things.things.Handed.{Stood, InParcel, from_server, to_server}
use Rattle.law_words_issued.specs.old.Old.{unissued, first_words, StepsLeaveFirstWords, ArrivalsLeaveFirstWords}
use Rattle.law_words_issued.proofs.old.Values.{firsts, Fine, AllFine, each_none, all_fine, none_weighs}
use Rattle.law_words_issued.proofs.old.Walk.{all_captured, step_fine, comes_fine}
use Rattle.law_words_issued.proofs.old.Lending.{lending_fine}

-- THREADS BEFORE IT

listed : {X : Type 0} (P : X → Type 0) (xs : List X) → ((i : ℕ) (x : X) → slice_get xs i ≡ Some x → P x) → AllByRecursion P xs
listed P [] go = tt
listed P (x ∷ xs) go = (go 0 x refl, listed P xs (λ i z e. go (suc i) z e))

module _ (k : Cluster) (f : ℕ → ℕ) (places : HasPlaces k) (all : tot (words f) (things_of k) ≡ 0) where
  of_slot : (x : Standing) → thread_at (sight k).ground.threads x.thread.number ≡ Some x → (i : ℕ) (v : Value) → slice_get x.thread.slots i ≡ Some v → Fine f v
  of_slot x there i (value.Mut r) e =
      let at : value_in (sight k).ground (at_slot x.thread.number i) ≡ Some (value.Mut r) = ap (λ o. slot_of o i) there ∙ e in
      let z : f r.word + f r.first ≡ 0 = none_at (words f) (borrows (at_slot x.thread.number i) r) (things_of k) all (slot_among k x.thread.number i (value.Mut r) at (borrows (at_slot x.thread.number i) r) (λ s. inl refl)) in
      omega (arith, z)
  of_slot x there i value.Gone e = refl
  of_slot x there i (value.Own v) e = refl
  of_slot x there i (value.SharedSlot j) e = refl
  of_slot x there i (value.MutSlot j) e = refl
  of_slot x there i (value.Shared q) e = refl
  of_slot x there i (value.Held m) e = refl

  of_temp : (x : Standing) → thread_at (sight k).ground.threads x.thread.number ≡ Some x → (i : ℕ) (v : Value) → slice_get x.thread.temps i ≡ Some v → Fine f v
  of_temp x there i (value.Mut r) e =
      let at : value_in (sight k).ground (at_temp x.thread.number i) ≡ Some (value.Mut r) = ap (λ o. temp_of o i) there ∙ e in
      let z : f r.word + f r.first ≡ 0 = none_at (words f) (borrows (at_temp x.thread.number i) r) (things_of k) all (temp_among k x.thread.number i (value.Mut r) at (borrows (at_temp x.thread.number i) r) (λ s. inl refl)) in
      omega (arith, z)
  of_temp x there i value.Gone e = refl
  of_temp x there i (value.Own v) e = refl
  of_temp x there i (value.SharedSlot j) e = refl
  of_temp x there i (value.MutSlot j) e = refl
  of_temp x there i (value.Shared q) e = refl
  of_temp x there i (value.Held m) e = refl

  pub none_before : tot (firsts f) (threads_in (things_of k)) ≡ 0
  none_before = none_all (firsts f) (threads_in (things_of k)) (λ x h.
      let there = found x (things_of k) (places.numbers_differ x.thread.number) h in
      none_weighs f x.thread (listed (Fine f) x.thread.slots (of_slot x there), listed (Fine f) x.thread.temps (of_temp x there)))

-- AND AFTERWARDS

-- where threads have none, no reference has one
module _ (d : Cluster) (f : ℕ → ℕ) (places : HasPlaces d) (none : tot (firsts f) (threads_in (things_of d)) ≡ 0) where
  in_thread : (x : Standing) (vs : List Value) (i : ℕ) (r : MutRef) → AllByRecursion (Fine f) vs → slice_get vs i ≡ Some (value.Mut r) → f r.first ≡ 0
  in_thread x vs i r a e = all_at (Fine f) vs i (value.Mut r) a e

  fine_at : (t : ℕ) (x : Standing) → thread_at (sight d).ground.threads t ≡ Some x → AllFine f x.thread
  fine_at t x e = all_fine f x.thread (none_at (firsts f) x (threads_in (things_of d)) none (among_thread (sight d).ground.threads t x e).0)

  by_place : (l : Location) (r : MutRef) → value_in (sight d).ground l ≡ Some (value.Mut r) → f r.first ≡ 0
  by_place (at_slot t i) r e = by (thread_at (sight d).ground.threads t) refl e
    where
      by : (o : Option Standing) → thread_at (sight d).ground.threads t ≡ o → slot_of o i ≡ Some (value.Mut r) → f r.first ≡ 0
      by None q h = absurd (cc h)
      by (Some x) q h = in_thread x x.thread.slots i r (fine_at t x q).0 h
  by_place (at_temp t i) r e = by (thread_at (sight d).ground.threads t) refl e
    where
      by : (o : Option Standing) → thread_at (sight d).ground.threads t ≡ o → temp_of o i ≡ Some (value.Mut r) → f r.first ≡ 0
      by None q h = absurd (cc h)
      by (Some x) q h = in_thread x x.thread.temps i r (fine_at t x q).1 h
  by_place (in_cell o) r e = by (cell_of (sight d).ground.cells o) e
    where
      by : (c : Option Cell) → value_of c ≡ Some (value.Mut r) → f r.first ≡ 0
      by None h = absurd (cc h)
      by (Some c) h = absurd (cc h)

  pub none_after : tot (first_words f) (things_of d) ≡ 0
  none_after = none_all (first_words f) (things_of d) by
    where
      by : (x : Thing) → Among x (things_of d) → first_words f x ≡ 0
      by (borrows l r) h = by_place l r (borrow_stands d places l r h)
      by _ h = refl

-- AT ITS SERVER

replies : (Q : ℕ → ThreadState → Type 0) → Replies (Parcel Q)
replies Q = record { fetched = λ s w c t. tt; moved = λ s w c t. tt; granted = λ s m v t. tt; dupped = λ s m t. tt; joined = λ s u v t. tt; drop = λ w o. tt; release = λ m. tt; let_go = λ u. tt }

requests : (Q : ℕ → ThreadState → Type 0) (n : ℕ) (y : ThreadState) (i : Instr) → Requests (Parcel Q) n y i
requests Q n y i = record { replies = replies Q; fetch = λ p e. tt; move = λ p e. tt; lock = λ m. tt; dup = λ m. tt; unlock = λ m v. tt; join = λ u. tt; finished = λ o e v. tt }

module _ (k : Cluster) (e : Event) (coherent : IsCoherent k) (few : FewEvents k) (f : ℕ → ℕ) (all : tot (words f) (things_of k) ≡ 0) where
  abbrev W : Standing → ℕ
  W = firsts f

  module _ (s : Server) (here : server_at k.servers e.server ≡ Some s) where
    abbrev n : ℕ
    n = s.rest.number

    abbrev P : ThreadState → Type 0
    P = Stood W n

    abbrev Q : ℕ → ThreadState → Type 0
    Q = InParcel W

    abbrev pub Then : Server × EntryView → Type 0
    Then r = Held P Q n s.rest.outbox r.0

    -- a step
    module _ (held : Held P Q n s.rest.outbox s) (t : ℕ) (on : enabled k.options s (Step t) ≡ true) where
      thread_steps : (y : ThreadState) → thread_in s.threads t ≡ Some y → P y → (i : Instr) → slice_get k.code y.pc ≡ Some i → Gives (λ (d : Stepped). P d.hand.thread) (step k.options.servers i (record { work = begin_work s.rest; thread = y }))
      thread_steps y q p i c =
          weaker (λ (d : Stepped). AllFine f d.hand.thread) (λ (d : Stepped). P d.hand.thread) (step k.options.servers i (record { work = begin_work s.rest; thread = y })) (by i c (all_fine f y p)) (λ d a. none_weighs f d.hand.thread a)
        where
          by : (i : Instr) → slice_get k.code y.pc ≡ Some i → AllFine f y → Gives (λ (d : Stepped). AllFine f d.hand.thread) (step k.options.servers i (record { work = begin_work s.rest; thread = y }))
          by (instr.BorrowMut w) c a = lending_fine k coherent few e.server s here t y q on w c f all a
          by (instr.Let o) c a = step_fine f k.options.servers (instr.Let o) (λ w x. cc x) (record { work = begin_work s.rest; thread = y }) a
          by (instr.Assign v o) c a = step_fine f k.options.servers (instr.Assign v o) (λ w x. cc x) (record { work = begin_work s.rest; thread = y }) a
          by (instr.Read v b) c a = step_fine f k.options.servers (instr.Read v b) (λ w x. cc x) (record { work = begin_work s.rest; thread = y }) a
          by (instr.Borrow v) c a = step_fine f k.options.servers (instr.Borrow v) (λ w x. cc x) (record { work = begin_work s.rest; thread = y }) a
          by (instr.Box o) c a = step_fine f k.options.servers (instr.Box o) (λ w x. cc x) (record { work = begin_work s.rest; thread = y }) a
          by (instr.Arith g x z) c a = step_fine f k.options.servers (instr.Arith g x z) (λ w u. cc u) (record { work = begin_work s.rest; thread = y }) a
          by (instr.Print o) c a = step_fine f k.options.servers (instr.Print o) (λ w x. cc x) (record { work = begin_work s.rest; thread = y }) a
          by instr.Discard c a = step_fine f k.options.servers instr.Discard (λ w x. cc x) (record { work = begin_work s.rest; thread = y }) a
          by instr.DropSlot c a = step_fine f k.options.servers instr.DropSlot (λ w x. cc x) (record { work = begin_work s.rest; thread = y }) a
          by (instr.Spawn cs pc) c a = step_fine f k.options.servers (instr.Spawn cs pc) (λ w x. cc x) (record { work = begin_work s.rest; thread = y }) a
          by (instr.Join o) c a = step_fine f k.options.servers (instr.Join o) (λ w x. cc x) (record { work = begin_work s.rest; thread = y }) a
          by (instr.Mutex o) c a = step_fine f k.options.servers (instr.Mutex o) (λ w x. cc x) (record { work = begin_work s.rest; thread = y }) a
          by (instr.Dup v) c a = step_fine f k.options.servers (instr.Dup v) (λ w x. cc x) (record { work = begin_work s.rest; thread = y }) a
          by (instr.Lock v) c a = step_fine f k.options.servers (instr.Lock v) (λ w x. cc x) (record { work = begin_work s.rest; thread = y }) a
          by instr.Unlock c a = step_fine f k.options.servers instr.Unlock (λ w x. cc x) (record { work = begin_work s.rest; thread = y }) a
          by (instr.Par cs pc ds other) c a = step_fine f k.options.servers (instr.Par cs pc ds other) (λ w x. cc x) (record { work = begin_work s.rest; thread = y }) a
          by instr.ParEnd c a = step_fine f k.options.servers instr.ParEnd (λ w x. cc x) (record { work = begin_work s.rest; thread = y }) a
          by (instr.End o) c a = step_fine f k.options.servers (instr.End o) (λ w x. cc x) (record { work = begin_work s.rest; thread = y }) a

      pub stepping : Gives Then (does k.code k.options s (Step t))
      stepping = by (thread_in s.threads t) refl
        where
          at : (y : ThreadState) → thread_in s.threads t ≡ Some y → (i : Option Instr) → slice_get k.code y.pc ≡ i
              → Gives Then (option_map (stepped s) (then_some i (λ x. step k.options.servers x (record { work = begin_work s.rest; thread = y }))))
          at y q None c = tt
          at y q (Some i) c =
              let h : Hand = record { work = begin_work s.rest; thread = y } in
              let p : P y = found_all P s.threads t y held.standing q in
              let begins : BeginsBy (Parcel Q) k.options.servers s.rest i = λ pc vs r a b g u. omega (arith, each_none f vs (all_captured f vs b)) in
              over_gives (λ (d : Stepped). P d.hand.thread × Mailed (Parcel Q) n s.rest.outbox d.hand.work.rest) Then (step k.options.servers i h) (stepped s)
              (both_give (λ (d : Stepped). P d.hand.thread) (λ (d : Stepped). Mailed (Parcel Q) n s.rest.outbox d.hand.work.rest) _ (step k.options.servers i h) (thread_steps y q p i c)
              (step_tells (Parcel Q) k.options.servers i s.rest y (requests Q n y i) begins h (record { mail = held.mail; begun = refl; named = refl; at_home = refl })) (λ d a b. (a, b)))
              (λ d u. record { standing = set_all P s.threads d.hand.thread held.standing u.0; mail = u.1 })

          by : (x : Option ThreadState) → thread_in s.threads t ≡ x → Gives Then (option_map (stepped s) (then_some (option_map (λ y. record { work = begin_work s.rest; thread = y }) x) (step_in k.code k.options.servers)))
          by None q = tt
          by (Some y) q = at y q (slice_get k.code y.pc) refl

    -- an object comes
    module _ (held : Held P Q n s.rest.outbox s) (i old : ℕ) (c : Cell) (t : ℕ) (there : slice_get s.rest.inbox i ≡ Some (message.Moved old c t)) where
      abbrev x0 : Site
      x0 = received i s

      abbrev All_stand : Site → Type 0
      All_stand x = AllByRecursion P x.threads

      abbrev Posted : Site → Type 0
      Posted x = Mailed (Parcel Q) n s.rest.outbox x.work.rest

      lands : Gives All_stand (at_thread t (deliver_moved k.code old c) x0)
      lands = by (thread_in s.threads t) refl
        where
          by : (x : Option ThreadState) → thread_in s.threads t ≡ x → Gives All_stand (then_some (option_map (λ y. record { work = x0.work; thread = y }) x) (λ h. option_map (put_back s.threads) (deliver_moved k.code old c h)))
          by None q = tt
          by (Some y) q =
              over_gives (λ (h : Hand). AllFine f h.thread) All_stand (deliver_moved k.code old c (record { work = x0.work; thread = y })) (put_back s.threads)
              (comes_fine f k.code old c (record { work = x0.work; thread = y }) (all_fine f y (found_all P s.threads t y held.standing q)))
              (λ h a. set_all P s.threads h.thread held.standing (none_weighs f h.thread a))

      mail : Mailed (Parcel Q) n s.rest.outbox s.rest
      mail = held.mail

      says : Gives Posted (deliver_message k.code (message.Moved old c t) x0)
      says = message_says (Parcel Q) n s.rest.outbox (replies Q) k.code (message.Moved old c t) x0 (record { numbered = refl; waiting = remove_all (Parcel Q n) s.rest.inbox i mail.waiting; leaving = mail.leaving; more = mail.more; appended = mail.appended })

      pub landing : Gives Then (does k.code k.options s (Deliver i))
      landing =
          subst (λ o. Gives Then (option_map (left_by s.events None None) (then_some o (λ m. deliver_message k.code m x0)))) (sym there)
          (over_gives (λ (x : Site). All_stand x × Posted x) Then (deliver_message k.code (message.Moved old c t) x0) (left_by s.events None None)
          (both_give All_stand Posted (λ (x : Site). All_stand x × Posted x) (deliver_message k.code (message.Moved old c t) x0) lands says (λ x a b. (a, b))) (λ x u. record { standing = u.0; mail = u.1 }))

  -- IN ITS CLUSTER

  module _ (go : (s : Server) (here : server_at k.servers e.server ≡ Some s) → enabled k.options s e.what ≡ true → Held (Stood W s.rest.number) (InParcel W) s.rest.number s.rest.outbox s → Gives (Then s here) (does k.code k.options s e.what)) where
    abbrev Weightless : Cluster → Type 0
    Weightless c = tot (on_standing W) (things_of c) ≡ 0

    places : HasPlaces k
    places = record { numbers_differ = coherent.sound.names.numbers_differ; home_of_each = coherent.sound.one_home.home_of_each; owner_of_each = coherent.sound.one_owner.owner_of_each }

    start : Weightless k
    start = omega (arith, sum_standing W (things_of k), none_before k f places all)

    acted : Gives (λ (d : Cluster × EntryView). Weightless d.0) (act_at k e)
    acted =
        let g = on_standing W in
        then_gives (λ (d : Cluster × EntryView). Weightless d.0) (server_at k.servers e.server) _ (λ s here.
        let before : tot g (server_things s) ≡ 0 = omega (arith, start, (tot-server g k.servers e.server s s here).0) in
        over_gives (Then s here) (λ (d : Cluster × EntryView). Weightless d.0) (done_at k e.what s) _
        (test_gives (Then s here) (enabled k.options s e.what) _ (λ on. go s here on (from_server W s before)))
        (λ r held. omega (arith, start, (tot-server g k.servers e.server s r.0 here).0, (tot-server g k.servers e.server s r.0 here).1, to_server W s.rest.number s.rest.outbox r.0 held)))

    pub left : Gives (λ (d : Cluster × EntryView). tot (first_words f) (things_of d.0) ≡ 0) (apply k e)
    left =
        both_give (λ (d : Cluster × EntryView). HasPlaces d.0) (λ (d : Cluster × EntryView). Weightless d.0) (λ (d : Cluster × EntryView). tot (first_words f) (things_of d.0) ≡ 0) (apply k e)
        (applied_part HasPlaces (λ c s. record { numbers_differ = s.numbers_differ; home_of_each = s.home_of_each; owner_of_each = s.owner_of_each }) k e coherent.sound few)
        (handed_on Weightless (λ c a b same g. omega (arith, g, same (on_standing W))) k e (each_event_sends k e coherent.sound few) acted)
        (λ d a z. none_after d.0 f a (omega (arith, z, sum_standing W (things_of d.0))))

-- THE LAWS

pub steps_leave_firsts : StepsLeaveFirstWords
steps_leave_firsts k e t is coherent few =
    let f = unissued k in
    left k e coherent few f coherent.sound.words.are_issued (λ s here on held.
    subst (λ w. Gives (Then k e coherent few f coherent.sound.words.are_issued s here) (does k.code k.options s w)) (sym is) (stepping k e coherent few f coherent.sound.words.are_issued s here held t (subst (λ w. enabled k.options s w ≡ true) is on)))

same_server : {x y : Server} → Some x ≡ Some y → x ≡ y
same_server q = cc

pub arrivals_leave_firsts : ArrivalsLeaveFirstWords
arrivals_leave_firsts k e old c t d coherent few =
    let f = unissued k in
    left k e coherent few f coherent.sound.words.are_issued (λ s here on held.
    subst (λ w. Gives (Then k e coherent few f coherent.sound.words.are_issued s here) (does k.code k.options s w)) (sym d.what)
    (landing k e coherent few f coherent.sound.words.are_issued s here held d.place old c t (subst (λ (x : Server). slice_get x.rest.inbox d.place ≡ Some (message.Moved old c t)) (same_server (sym d.there ∙ here)) d.message)))
