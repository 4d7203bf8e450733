-- An event's messages are counted by its acts, and a delivered one goes.
use Rattle.std.proofs.Common.{◌≡◌, ℕ, ◌+◌, ◌==◌, Bool, true, false, not, if◌then◌else◌, List, [], ◌∷◌, length, Option, Some, None, refl, ap, arith, length-append}
use Rattle.std.specs.Prelude.{map, filter, remove, slice_get}
use Rattle.std.proofs.lemmas.List.Edits.{length-remove}
use Rattle.std.proofs.lemmas.Option.{slice_get_within}
use Rattle.law_counts_things.specs.Below.server_msgs.declared.message.Message.{Message}
use Rattle.law_counts_things.specs.Below.server_msgs.declared.message.Message.TheVariants as message
use Rattle.law_counts_things.specs.Below.fr_base.declared.label.Label.{Label}
use Rattle.law_counts_things.specs.Below.fr_base.declared.step.Fresh.{Fresh}
use Rattle.law_counts_things.specs.Below.journal.declared.act.Act.{Act}
use Rattle.law_counts_things.specs.Below.journal.declared.act.Act.TheVariants as act
use Rattle.law_counts_things.specs.Below.journal.View.{EntryView}
use Rattle.law_counts_things.specs.Below.coloured_heap.Sends.{Sending, sendings, leaves, all_messages}
use Rattle.law_counts_things.specs.Below.coloured_heap.Figures.{deliveries}
use Rattle.law_counts_things.specs.Below.server_model.Servers.{Sent, Rest, Server}
use Rattle.law_counts_things.specs.Below.coherent_memory.Names.{tot}
use Rattle.law_counts_things.specs.Below.coherent_memory.Things.{Thing, things_at, message_things, waiting_things, leaving_things, standing_things, server_things}
use Rattle.law_counts_things.specs.Below.coherent_memory.Appended.{sending_of, sending_out, stays}
use Rattle.law_counts_things.proofs.Below.coherent_memory.Sums.{tot-append}
use Rattle.law_counts_things.proofs.Below.law_counts_sums.Unseen.{Unseen, Unnoted, none_at, thread_alone, seen_of}
use Rattle.law_counts_things.proofs.things.Messages.{on_sent}
use Rattle.law_counts_limits.proofs.sendings.Sent.{Sends, evicts}

-- a message
abbrev pub each : Thing → ℕ
each = on_sent (λ r m. 1)

unseen : (n : ℕ) → Unseen each n
unseen n = record { held = λ p v. refl; shared = λ l r. refl; borrowed = λ l r. refl; locked = λ l m. refl; live = λ a c. refl; free = λ a m. refl; old = λ a. refl; copy = λ s c. refl; used = λ s x. refl }

unnoted : Unnoted each
unnoted = record { mutex = λ s m. refl; queue = λ m s t. refl; note = λ s t. refl }

one_message : (n : ℕ) (m : Message) → tot each (message_things n m) ≡ 1
one_message n (message.Start t) = omega (arith, thread_alone each n (unseen n) n true t)
one_message n (message.Migrate t) = omega (arith, thread_alone each n (unseen n) n true t)
one_message n (message.Fetch v b r t) = refl
one_message n (message.Fetched v c t) = refl
one_message n (message.Move v b r t) = refl
one_message n (message.Moved v c t) = refl
one_message n (message.Drop v b) = refl
one_message n (message.Lock m r t) = refl
one_message n (message.Granted m v t) = refl
one_message n (message.Unlock m v) = refl
one_message n (message.Dup m r t) = refl
one_message n (message.Dupped m t) = refl
one_message n (message.Release x) = refl
one_message n (message.Join u r t) = refl
one_message n (message.Joined u v t) = refl
one_message n (message.Finished u v) = refl

as_many : {A : Type 0} (g : ℕ → A → List Thing) → ((i : ℕ) (x : A) → tot each (g i x) ≡ 1) → (i : ℕ) (xs : List A) → tot each (things_at g i xs) ≡ length xs
as_many g o i [] = refl
as_many g o i (x ∷ xs) = omega (arith, o i x, as_many g o (i + 1) xs, tot-append each (g i x) (things_at g (i + 1) xs))

-- those of a server wait in its list or stand in its outbox
pub of_server : (s : Server) → tot each (server_things s) ≡ length s.rest.inbox + length s.rest.outbox
of_server s =
    let n = s.rest.number in
    omega (
      arith,
      seen_of each n (unseen n) unnoted s refl,
      none_at each n (unseen n) (standing_things n) (λ i t. omega (arith, thread_alone each n (unseen n) n false t)) 0 s.threads,
      as_many (waiting_things n) (λ i m. one_message n m) 0 s.rest.inbox,
      as_many leaving_things (λ i x. one_message x.target x.message) 0 s.rest.outbox,
    )

-- WHAT ACTS SEND

-- each message stays or leaves
parted : (n : ℕ) (ss : List Sending) → length (filter (stays n) ss) + length (filter (leaves n) ss) ≡ length ss
parted n [] = refl
parted n (x ∷ ss) = by (x.target == n) (parted n ss)
  where
    by : (b : Bool) → length (filter (stays n) ss) + length (filter (leaves n) ss) ≡ length ss
        → length (if b then x ∷ filter (stays n) ss else filter (stays n) ss) + length (if not b then x ∷ filter (leaves n) ss else filter (leaves n) ss) ≡ length (x ∷ ss)
    by true g = omega (arith, g)
    by false g = omega (arith, g)

mapped : {A B : Type 0} (f : A → B) (xs : List A) → length (map f xs) ≡ length xs
mapped f [] = refl
mapped f (x ∷ xs) = omega (arith, mapped f xs)

pub sent_and_kept : (n : ℕ) (own : List Message) (others : List Sent) (acts : List Act) → map (sending_of n) own ≡ filter (stays n) (sendings acts) → map sending_out others ≡ filter (leaves n) (sendings acts)
    → length own + length others ≡ length (sendings acts)
sent_and_kept n own others acts a b = omega (arith, ap length a, ap length b, mapped (sending_of n) own, mapped sending_out others, parted n (sendings acts))

ones : {A : Type 0} (xs : List A) → tot (λ x. 1) xs ≡ length xs
ones [] = refl
ones (x ∷ xs) = omega (arith, ones xs)

pub all_of : (e : EntryView) → all_messages (e ∷ []) ≡ length (sendings e.acts)
all_of e = omega (arith, ones (sendings e.acts))

-- since that rest so many messages came as the acts send
pub grown : (r : Rest) (number : ℕ) (inbox : List Message) (outbox : List Sent) (acts : List Act) → Sends r number inbox outbox acts → length inbox + length outbox ≡ length r.inbox + length r.outbox + length (sendings acts)
grown r number inbox outbox acts g =
    omega (arith, ap length g.waiting, length-append r.inbox g.own, ap length g.outbox_is, length-append r.outbox g.others, sent_and_kept r.number g.own g.others acts g.own_sendings g.other_sendings)

-- an entry without a thread that evicts nothing delivers a message
pub delivers : (n : ℕ) (names : Option Fresh) (labels : List Label) (acts : List Act) → tot evicts acts ≡ 0 → deliveries (record { server = n; thread = None; done = names; acts = acts; labels = labels } ∷ []) ≡ 1
delivers n names labels [] z = refl
delivers n names labels (act.Evict w ∷ acts) z = absurd (omega (arith, z))
delivers n names labels (_ ∷ acts) z = delivers n names labels acts (omega (arith, z))

-- a message that goes
pub taken_out : {A : Type 0} (xs : List A) (i : ℕ) (x : A) → slice_get xs i ≡ Some x → length (remove xs i) + 1 ≡ length xs
taken_out xs i x e = length-remove xs i (slice_get_within xs i x e)
