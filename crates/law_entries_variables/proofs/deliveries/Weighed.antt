-- What the coloured heap sees of a server in the middle of an event: neither owned values nor references, nor what flies beside its message, nor uses of copies.
use Rattle.std.proofs.Common.{◌≡◌, ℕ, ◌+◌, Bool, true, false, if◌then◌else◌, List, [], ◌∷◌, ◌++◌, length, Option, Some, None, refl, ap, ◌∙◌, arith}
use Rattle.std.specs.Prelude.{⊤, slice_get, map}
use Rattle.law_words_ends.specs.Below.fr_base.declared.name.MutexNo.{MutexNo}
use Rattle.law_words_ends.specs.Below.fr_base.declared.step.Fresh.{Fresh}
use Rattle.law_words_ends.specs.Below.heap_partition.declared.value.Cell.{Cell}
use Rattle.law_words_ends.specs.Below.heap_partition.declared.value.Owned.{Owned}
use Rattle.law_words_ends.specs.Below.mut_borrow.declared.mutable.MutRef.{MutRef}
use Rattle.law_words_ends.specs.Below.mut_borrow.declared.shared.SharedRef.{SharedRef}
use Rattle.law_words_ends.specs.Below.thread_state.View.{ThreadState}
use Rattle.law_words_ends.specs.Below.thread_state.declared.value.Value.{Value}
use Rattle.law_words_ends.specs.Below.thread_state.declared.value.Value.TheVariants as value
use Rattle.law_words_ends.specs.Below.migration.Packing.{unpinned}
use Rattle.law_words_ends.specs.Below.law_words_values.Below.read_cache.Cache.{Copy}
use Rattle.law_words_ends.specs.Below.server_msgs.declared.message.Message.{Message}
use Rattle.law_words_ends.specs.Below.server_msgs.declared.message.Message.TheVariants as message
use Rattle.law_words_ends.specs.Below.journal.declared.act.Act.{Act}
use Rattle.law_words_ends.specs.Below.server_model.Servers.{Server}
use Rattle.law_words_ends.specs.Below.server_model.Work.{Work, Site, sent_from, receive, set_thread, thread_in}
use Rattle.law_words_ends.specs.Below.server_model.Events.{begin_at, left_by, received}
use Rattle.law_words_ends.specs.Below.coherent_memory.Names.{tot}
use Rattle.law_words_ends.specs.Below.coherent_memory.Things.{Spot, in_slot, in_temp, as_gift, as_content, as_result, Location, at_slot, at_temp, Thing, holds, shares, borrows, locks, flies, copied, uses, sent, stands, counts, things_at, pin_things, gift_things, walk_things, value_things, slot_things, temp_things, thread_things, message_things, server_things}
use Rattle.law_words_ends.proofs.Below.law_counts_sums.Trades.{Trade, tot-append}
use Rattle.law_words_ends.proofs.Below.law_counts_sums.Bags.{all_standing, rest_things, of_sending, of_receiving, server_same, sent_number, thread_number, tot-without, tot-set}

-- a weight of what the coloured heap sees
pub record Seen (f : Thing → ℕ) : Type 0 where
  pub held : (p : Spot) (v : Owned) → f (holds p v) ≡ 0
  pub shared : (l : Location) (r : SharedRef) → f (shares l r) ≡ 0
  pub lent : (l : Location) (r : MutRef) → f (borrows l r) ≡ 0
  pub flown : (w : ℕ) (c : Cell) → f (flies w c) ≡ 0
  pub used : (n w : ℕ) → f (uses n w) ≡ 0
  pub loose : (t i : ℕ) (m : MutexNo) → f (locks (at_temp t i) m) ≡ 0
  -- of a server's counts those of threads and mutexes alone
  pub counted : (n a r s m e : ℕ) → f (counts n a r s m e) ≡ f (counts n 0 0 s m 0)
  -- nor how many use a copy
  pub unused : (n : ℕ) (c : Copy) (u : ℕ) → f (copied n (record c { users = u })) ≡ f (copied n c)

-- a message that is no thread
abbrev pub Bare : Message → Type 0
Bare (message.Start t) = ⊥
Bare (message.Migrate t) = ⊥
Bare m = ⊤

-- THREADS

module _ (f : Thing → ℕ) (h : Seen f) where
  pub pins_unseen : (n : ℕ) (r : SharedRef) → tot f (pin_things n r) ≡ 0
  pins_unseen n r = by r.pinned
    where
      by : (q : Bool) → tot f (if q then uses n r.word ∷ [] else []) ≡ 0
      by true = omega (arith, h.used n r.word)
      by false = refl

  value_anywhere : (n r : ℕ) (p : Spot) (l : Location) (v : Value) → tot f (value_things n p l v) ≡ tot f (value_things r p l v)
  value_anywhere n r p l (value.Shared q) = omega (arith, pins_unseen n q, pins_unseen r q)
  value_anywhere n r p l value.Gone = refl
  value_anywhere n r p l (value.Own v) = refl
  value_anywhere n r p l (value.SharedSlot i) = refl
  value_anywhere n r p l (value.MutSlot i) = refl
  value_anywhere n r p l (value.Mut q) = refl
  value_anywhere n r p l (value.Held m) = refl

  value_unpinned : (n r : ℕ) (p : Spot) (l : Location) (v : Value) → tot f (value_things n p l (unpinned v)) ≡ tot f (value_things r p l v)
  value_unpinned n r p l (value.Shared q) = omega (arith, pins_unseen r q, h.shared l q, h.shared l (record q { pinned = false }))
  value_unpinned n r p l value.Gone = refl
  value_unpinned n r p l (value.Own v) = refl
  value_unpinned n r p l (value.SharedSlot i) = refl
  value_unpinned n r p l (value.MutSlot i) = refl
  value_unpinned n r p l (value.Mut q) = refl
  value_unpinned n r p l (value.Held m) = refl

  temp_unseen : (n t i : ℕ) (v : Value) → tot f (temp_things n t i v) ≡ 0
  temp_unseen n t i (value.Shared q) = omega (arith, pins_unseen n q, h.shared (at_temp t i) q)
  temp_unseen n t i value.Gone = refl
  temp_unseen n t i (value.Own v) = omega (arith, h.held (in_temp t i) v)
  temp_unseen n t i (value.SharedSlot j) = refl
  temp_unseen n t i (value.MutSlot j) = refl
  temp_unseen n t i (value.Mut q) = omega (arith, h.lent (at_temp t i) q)
  temp_unseen n t i (value.Held m) = omega (arith, h.loose t i m)

  temps_unseen : (n t i : ℕ) (vs : List Value) → tot f (things_at (temp_things n t) i vs) ≡ 0
  temps_unseen n t i [] = refl
  temps_unseen n t i (v ∷ vs) = omega (arith, temp_unseen n t i v, temps_unseen n t (i + 1) vs, tot-append f (temp_things n t i v) (things_at (temp_things n t) (i + 1) vs))

  slots_anywhere : (n r t i : ℕ) (vs : List Value) → tot f (things_at (slot_things n t) i vs) ≡ tot f (things_at (slot_things r t) i vs)
  slots_anywhere n r t i [] = refl
  slots_anywhere n r t i (v ∷ vs) =
      omega (arith, value_anywhere n r (in_slot t i) (at_slot t i) v, slots_anywhere n r t (i + 1) vs, tot-append f (slot_things n t i v) (things_at (slot_things n t) (i + 1) vs), tot-append f (slot_things r t i v) (things_at (slot_things r t) (i + 1) vs))

  pub slots_unpinned : (n r t i : ℕ) (vs : List Value) → tot f (things_at (slot_things n t) i (map unpinned vs)) ≡ tot f (things_at (slot_things r t) i vs)
  slots_unpinned n r t i [] = refl
  slots_unpinned n r t i (v ∷ vs) =
      omega (
        arith,
        value_unpinned n r (in_slot t i) (at_slot t i) v,
        slots_unpinned n r t (i + 1) vs,
        tot-append f (slot_things n t i (unpinned v)) (things_at (slot_things n t) (i + 1) (map unpinned vs)),
        tot-append f (slot_things r t i v) (things_at (slot_things r t) (i + 1) vs),
      )

  walk_unseen : (n i : ℕ) (ws : List ℕ) → tot f (things_at (walk_things n) i ws) ≡ 0
  walk_unseen n i [] = refl
  walk_unseen n i (w ∷ ws) = omega (arith, h.used n w, walk_unseen n (i + 1) ws)

  gift_unseen : (t : ℕ) (o : Option Owned) → tot f (gift_things t o) ≡ 0
  gift_unseen t None = refl
  gift_unseen t (Some v) = omega (arith, h.held (as_gift t) v)

  -- of a thread itself and the marks of locks in its slots are seen
  abbrev pub marks_of : ThreadState → ℕ
  marks_of t = tot f (things_at (slot_things 0 t.number) 0 t.slots)

  pub thread_seen : (n : ℕ) (p : Bool) (t : ThreadState) → tot f (thread_things n p t) ≡ f (stands n p t) + marks_of t
  thread_seen n p t =
      let g = gift_things t.number t.gift in
      let u = things_at (walk_things n) 0 t.walk in
      let a = things_at (slot_things n t.number) 0 t.slots in
      let b = things_at (temp_things n t.number) 0 t.temps in
      omega (arith, gift_unseen t.number t.gift, walk_unseen n 0 t.walk, slots_anywhere n 0 t.number 0 t.slots, temps_unseen n t.number 0 t.temps, tot-append f (g ++ u ++ a) b, tot-append f (g ++ u) a, tot-append f g u)

  -- MESSAGES

  -- it carries nothing that is seen
  pub message_seen : (n : ℕ) (m : Message) → Bare m → tot f (message_things n m) ≡ f (sent n m)
  message_seen n (message.Moved w c t) b = omega (arith, h.flown w c)
  message_seen n (message.Granted m v t) b = omega (arith, h.held (as_content m) v)
  message_seen n (message.Unlock m v) b = omega (arith, h.held (as_content m) v)
  message_seen n (message.Joined t v x) b = omega (arith, h.held (as_result t) v)
  message_seen n (message.Finished t v) b = omega (arith, h.held (as_result t) v)
  message_seen n (message.Start t) b = absurd b
  message_seen n (message.Migrate t) b = absurd b
  message_seen n (message.Fetch w o s t) b = omega arith
  message_seen n (message.Fetched w c t) b = omega arith
  message_seen n (message.Move w o s t) b = omega arith
  message_seen n (message.Drop w o) b = omega arith
  message_seen n (message.Lock m s t) b = omega arith
  message_seen n (message.Dup m s t) b = omega arith
  message_seen n (message.Dupped m t) b = omega arith
  message_seen n (message.Release x) b = omega arith
  message_seen n (message.Join u s t) b = omega arith

-- REST AND SITE

-- these things went and those came, of what is seen
abbrev pub Turned : List Thing → List Thing → List Thing → List Thing → Type 0
Turned a olds news b = (f : Thing → ℕ) → Seen f → tot f b + tot f olds ≡ tot f a + tot f news

pub of_trade : (a olds news b : List Thing) → Trade a olds news b → Turned a olds news b
of_trade a olds news b t f h = omega (arith, t.before f, t.after f)

-- beside the threads, with the acts and labels of the event
pub record WorkTurns (x : Work) (olds news : List Thing) (acts : List Act) (y : Work) : Type 0 where
  pub number : y.rest.number ≡ x.rest.number
  pub noted : y.acts ≡ x.acts ++ acts
  pub labels : y.labels ≡ x.labels
  pub things : Turned (rest_things x.rest.number 0 x.rest) olds news (rest_things x.rest.number 0 y.rest)

-- the things of a server in the middle of an event; how many events were done isn't seen
abbrev pub site_things : Site → List Thing
site_things x = all_standing x.work.rest.number x.threads ++ rest_things x.work.rest.number 0 x.work.rest

pub record SiteTurns (x : Site) (olds news : List Thing) (acts : List Act) (y : Site) : Type 0 where
  pub number : y.work.rest.number ≡ x.work.rest.number
  pub noted : y.work.acts ≡ x.work.acts ++ acts
  pub labels : y.work.labels ≡ x.work.labels
  pub things : Turned (site_things x) olds news (site_things y)

-- a message is sent
pub sends : (x : Work) (olds news : List Thing) (acts : List Act) (y : Work) (target : ℕ) (m : Message) → WorkTurns x olds news acts y → WorkTurns x olds (news ++ message_things target m) acts (record y { rest = sent_from y.rest target m })
sends x olds news acts y target m w = record {
  number = sent_number y.rest target m ∙ w.number;
  noted = w.noted;
  labels = w.labels;
  things = λ f h.
      let t = of_sending x.rest.number 0 y.rest w.number target m in
      omega (arith, t.before f, t.after f, w.things f h, tot-append f news (message_things target m));
}

-- beside the threads alone
pub beside : (x : Site) (olds news : List Thing) (acts : List Act) (y : Work) → WorkTurns x.work olds news acts y → SiteTurns x olds news acts (record x { work = y })
beside x olds news acts y w = record {
  number = w.number;
  noted = w.noted;
  labels = w.labels;
  things = λ f h.
      let n = x.work.rest.number in
      let threads = all_standing n x.threads in
      let there : tot f (site_things (record x { work = y })) ≡ tot f (threads ++ rest_things n 0 y.rest) = ap (λ i. tot f (all_standing i x.threads ++ rest_things i 0 y.rest)) w.number in
      omega (arith, there, w.things f h, tot-append f threads (rest_things n 0 x.work.rest), tot-append f threads (rest_things n 0 y.rest));
}

-- a thread changes but for the marks in its slots
pub thread_turns : (x : Site) (t : ℕ) (y z : ThreadState) (olds news : List Thing) (acts : List Act) (w : Work) → thread_in x.threads t ≡ Some y → z.number ≡ y.number → z.slots ≡ y.slots → WorkTurns x.work olds news acts w
    → SiteTurns x (stands x.work.rest.number false y ∷ olds) (stands x.work.rest.number false z ∷ news) acts (record { work = w; threads = set_thread x.threads z })
thread_turns x t y z olds news acts w q same slots b = record {
  number = b.number;
  noted = b.noted;
  labels = b.labels;
  things = λ f h.
      let n = x.work.rest.number in
      let ts = set_thread x.threads z in
      let there : tot f (site_things (record { work = w; threads = ts })) ≡ tot f (all_standing n ts ++ rest_things n 0 w.rest) = ap (λ i. tot f (all_standing i ts ++ rest_things i 0 w.rest)) b.number in
      let marks : marks_of f h z ≡ marks_of f h y = ap (λ i. tot f (things_at (slot_things 0 i) 0 z.slots)) same ∙ ap (λ l. tot f (things_at (slot_things 0 y.number) 0 l)) slots in
      omega (
        arith,
        there,
        marks,
        b.things f h,
        thread_seen f h n false y,
        thread_seen f h n false z,
        tot-without n f x.threads t y q,
        tot-set n f x.threads t y z q (same ∙ thread_number x.threads t y q),
        tot-append f (all_standing n x.threads) (rest_things n 0 x.work.rest),
        tot-append f (all_standing n ts) (rest_things n 0 w.rest),
      );
}

-- THE SERVER

-- a server after an event of no plain step
pub server_turns : (s : Server) (x : Site) (olds news : List Thing) (acts : List Act) (e : ℕ) (t : Option ℕ) (names : Option Fresh) → SiteTurns (begin_at s) olds news acts x → Turned (server_things s) olds news (server_things (left_by e t names x).0)
server_turns s x olds news acts e t names w f h =
    let n = s.rest.number in
    let m = x.work.rest.number in
    let r = s.rest in
    let r2 = x.work.rest in
    omega (
      arith,
      w.things f h,
      server_same s f,
      server_same (left_by e t names x).0 f,
      h.counted n (length r.partition.cells) r.partition.retired r.started r.mutexes.made s.events,
      h.counted n (length r.partition.cells) r.partition.retired r.started r.mutexes.made 0,
      h.counted m (length r2.partition.cells) r2.partition.retired r2.started r2.mutexes.made (e + 1),
      h.counted m (length r2.partition.cells) r2.partition.retired r2.started r2.mutexes.made 0,
      tot-append f (all_standing n s.threads) (rest_things n s.events r),
      tot-append f (all_standing n s.threads) (rest_things n 0 r),
      tot-append f (all_standing m x.threads) (rest_things m (e + 1) r2),
      tot-append f (all_standing m x.threads) (rest_things m 0 r2),
    )

-- a message is taken out first
pub received_turns : (s : Server) (i : ℕ) (m : Message) (x : Site) (olds news : List Thing) (acts : List Act) → slice_get s.rest.inbox i ≡ Some m → SiteTurns (received i s) olds news acts x → SiteTurns (begin_at s) (message_things s.rest.number m ++ olds) news acts x
received_turns s i m x olds news acts q w = record {
  number = w.number;
  noted = w.noted;
  labels = w.labels;
  things = λ f h.
      let n = s.rest.number in
      let t = of_receiving n 0 s.rest i m q in
      let threads = all_standing n s.threads in
      omega (
        arith,
        w.things f h,
        t.before f,
        t.after f,
        tot-append f (message_things n m) olds,
        tot-append f threads (rest_things n 0 s.rest),
        tot-append f threads (rest_things n 0 (receive s.rest i)),
      );
}
