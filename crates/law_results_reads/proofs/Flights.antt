-- An object under way comes to a thread that waits for it, and stands in a slot of that thread: it follows it by boxes and mutable references alone.
use Rattle.std.proofs.Common.{◌≡◌, inl, inr, ◌≤◌, ℕ, zero, suc, ◌+◌, Bool, true, false, List, [], ◌∷◌, refl, ap, subst, arith}
use Rattle.law_counts_sums.specs.Below.fr_base.declared.name.ObjNo.{ObjNo}
use Rattle.law_counts_sums.specs.Below.heap_partition.declared.value.Cell.{Cell}
use Rattle.law_counts_sums.specs.Below.thread_state.View.{ThreadState}
use Rattle.law_counts_sums.specs.Below.server_msgs.declared.message.Message.{Message}
use Rattle.law_counts_sums.specs.Below.server_msgs.declared.message.Message.TheVariants as message
use Rattle.law_counts_sums.specs.Below.server_model.Servers.{Sent, Server, Cluster}
use Rattle.law_counts_sums.specs.Below.coherent_memory.Names.{tot, one, Among, same_object}
use Rattle.law_counts_sums.specs.Below.coherent_memory.Things.{Location, at_slot, at_temp, in_cell, Thing, flies, sent, stands, things_at, message_things, waiting_things, leaving_things, standing_things, server_things, servers_things, things_of}
use Rattle.law_counts_sums.proofs.Below.coherent_memory.Words.{named, itself}
use Rattle.law_counts_sums.proofs.Below.coherent_memory.Sums.{tot-append}
use Rattle.law_counts_sums.proofs.Unseen.{Unseen, Unnoted, thread_alone, seen_of}

-- WHAT FLIES IS CARRIED BY A MESSAGE

-- one of these weighs something
pub weighs : (f : Thing → ℕ) (b : List Thing) → 1 ≤ tot f b → (x : Thing) × Among x b × (1 ≤ f x)
weighs f [] l = absurd (omega (arith, l))
weighs f (x ∷ b) l = by (f x) refl (weighs f b)
  where
    by : (n : ℕ) → f x ≡ n → (1 ≤ tot f b → (y : Thing) × Among y b × (1 ≤ f y)) → (y : Thing) × Among y (x ∷ b) × (1 ≤ f y)
    by zero e go = let r = go (omega (arith, l, e)) in (r.0, inr r.1, r.2)
    by (suc n) e go = (x, inl refl, omega (arith, e))

pub has_weight : (f : Thing → ℕ) (x : Thing) (b : List Thing) → Among x b → f x ≤ tot f b
has_weight f x [] h = absurd h
has_weight f x (y ∷ b) (inl e) = subst (λ z. f z ≤ f y + tot f b) e (omega arith)
has_weight f x (y ∷ b) (inr h) = omega (arith, has_weight f x b h)

module _ (o : ObjNo) where
  -- the object is under way
  abbrev pub flying : Thing → ℕ
  flying (flies w c) = one (same_object c.object o)
  flying x = 0

  abbrev moved_in : Message → ℕ
  moved_in (message.Moved w c t) = one (same_object c.object o)
  moved_in m = 0

  -- a message brings it
  abbrev pub moving : Thing → ℕ
  moving (sent r m) = moved_in m
  moving x = 0

  no_flight : (n : ℕ) → Unseen flying n
  no_flight n = record { held = λ p v. refl; shared = λ l r. refl; borrowed = λ l r. refl; locked = λ l m. refl; live = λ a c. refl; free = λ a m. refl; old = λ a. refl; copy = λ s c. refl; used = λ s w. refl }

  no_note : Unnoted flying
  no_note = record { mutex = λ s m. refl; queue = λ m s t. refl; note = λ s t. refl }

  no_move : (n : ℕ) → Unseen moving n
  no_move n = record { held = λ p v. refl; shared = λ l r. refl; borrowed = λ l r. refl; locked = λ l m. refl; live = λ a c. refl; free = λ a m. refl; old = λ a. refl; copy = λ s c. refl; used = λ s w. refl }

  no_move_note : Unnoted moving
  no_move_note = record { mutex = λ s m. refl; queue = λ m s t. refl; note = λ s t. refl }

  of_message : (r : ℕ) (m : Message) → tot flying (message_things r m) ≡ tot moving (message_things r m)
  of_message r (message.Moved w c t) = omega arith
  of_message r (message.Start t) = omega (arith, thread_alone flying 0 (no_flight 0) r true t, thread_alone moving 0 (no_move 0) r true t)
  of_message r (message.Migrate t) = omega (arith, thread_alone flying 0 (no_flight 0) r true t, thread_alone moving 0 (no_move 0) r true t)
  of_message r _ = refl

  of_inbox : (r i : ℕ) (ms : List Message) → tot flying (things_at (waiting_things r) i ms) ≡ tot moving (things_at (waiting_things r) i ms)
  of_inbox r i [] = refl
  of_inbox r i (m ∷ ms) =
      omega (arith, of_message r m, of_inbox r (i + 1) ms, tot-append flying (message_things r m) (things_at (waiting_things r) (i + 1) ms), tot-append moving (message_things r m) (things_at (waiting_things r) (i + 1) ms))

  of_outbox : (i : ℕ) (xs : List Sent) → tot flying (things_at leaving_things i xs) ≡ tot moving (things_at leaving_things i xs)
  of_outbox i [] = refl
  of_outbox i (x ∷ xs) =
      omega (
        arith,
        of_message x.target x.message,
        of_outbox (i + 1) xs,
        tot-append flying (message_things x.target x.message) (things_at leaving_things (i + 1) xs),
        tot-append moving (message_things x.target x.message) (things_at leaving_things (i + 1) xs),
      )

  of_threads : (n i : ℕ) (ts : List ThreadState) → (tot flying (things_at (standing_things n) i ts) ≡ 0) × (tot moving (things_at (standing_things n) i ts) ≡ 0)
  of_threads n i [] = (refl, refl)
  of_threads n i (t ∷ ts) =
      let rest = of_threads n (i + 1) ts in (
        omega (arith, rest.0, thread_alone flying n (no_flight n) n false t, tot-append flying (Rattle.law_counts_sums.specs.Below.coherent_memory.Things.thread_things n false t) (things_at (standing_things n) (i + 1) ts)),
        omega (arith, rest.1, thread_alone moving n (no_move n) n false t, tot-append moving (Rattle.law_counts_sums.specs.Below.coherent_memory.Things.thread_things n false t) (things_at (standing_things n) (i + 1) ts)),
      )

  of_servers : (ss : List Server) → tot flying (servers_things ss) ≡ tot moving (servers_things ss)
  of_servers [] = refl
  of_servers (s ∷ ss) =
      let n = s.rest.number in
      let t = of_threads n 0 s.threads in
      omega (
        arith,
        seen_of flying n (no_flight n) no_note s refl,
        seen_of moving n (no_move n) no_move_note s refl,
        t.0,
        t.1,
        of_inbox n 0 s.rest.inbox,
        of_outbox 0 s.rest.outbox,
        of_servers ss,
        tot-append flying (server_things s) (servers_things ss),
        tot-append moving (server_things s) (servers_things ss),
      )

  truly : (b : Bool) → 1 ≤ one b → b ≡ true
  truly true l = refl
  truly false l = absurd (omega (arith, l))

  moves_it : (x : Thing) → 1 ≤ moving x → (r : ℕ) × (w : ℕ) × (c : Cell) × (t : ℕ) × (x ≡ sent r (message.Moved w c t)) × (c.object ≡ o)
  moves_it (sent r (message.Moved w c t)) l = (r, w, c, t, refl, named c.object o (truly (same_object c.object o) l))
  moves_it (sent r _) l = absurd (omega (arith, l))
  moves_it _ l = absurd (omega (arith, l))

  -- what flies is in a message to a thread
  pub brought : (k : Cluster) (w : ℕ) (c : Cell) → Among (flies w c) (things_of k) → c.object ≡ o → (r : ℕ) × (v : ℕ) × (d : Cell) × (t : ℕ) × Among (sent r (message.Moved v d t)) (things_of k) × (d.object ≡ o)
  brought k w c h e =
      let one_there : one (same_object c.object o) ≤ tot flying (things_of k) = has_weight flying (flies w c) (things_of k) h in
      let mine : one (same_object c.object o) ≡ 1 = ap one (itself c.object o e) in
      let x = weighs moving (things_of k) (omega (arith, one_there, mine, of_servers k.servers)) in
      let m = moves_it x.0 x.2 in
      (m.0, m.1, m.2, m.3, subst (λ y. Among y (things_of k)) m.4 x.1, m.5)
