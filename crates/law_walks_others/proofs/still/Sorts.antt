-- What the kind of an event tells of it: that it is no step, and which message it delivers.
use Rattle.std.proofs.Common.{◌≡◌, ℕ, Option, Some, None, refl, sym, ap, subst, ◌∙◌}
use Rattle.std.specs.Prelude.{slice_get, option_map}
use Rattle.std.specs.Bool.{⊤}
use Rattle.law_walks_others.specs.Below.fr_base.declared.name.ObjNo.{ObjNo}
use Rattle.law_walks_others.specs.Below.fr_base.declared.instruction.Instr.{Instr}
use Rattle.law_walks_others.specs.Below.fr_base.declared.instruction.Instr.TheVariants as instr
use Rattle.law_walks_others.specs.Below.heap_partition.declared.value.Cell.{Cell}
use Rattle.law_walks_others.specs.Below.thread_state.View.{ThreadState}
use Rattle.law_walks_others.specs.Below.server_msgs.declared.message.Message.{Message}
use Rattle.law_walks_others.specs.Below.server_msgs.declared.message.Message.TheVariants as message
use Rattle.law_walks_others.specs.Below.journal.View.{EntryView}
use Rattle.law_walks_others.specs.Below.server_model.declared.event.Event.{Event}
use Rattle.law_walks_others.specs.Below.server_model.declared.event.What.{What}
use Rattle.law_walks_others.specs.Below.server_model.declared.event.What.TheVariants.{Step, Deliver, Evict, Migrate}
use Rattle.law_walks_others.specs.Below.server_model.Servers.{Server, Cluster, server_at}
use Rattle.law_walks_others.specs.Below.server_model.Work.{then_some, thread_in}
use Rattle.law_walks_others.specs.Below.server_model.Clusters.{hand_over_newer, done_at, apply}
use Rattle.law_walks_others.specs.Below.coherent_memory.Coherent.{IsSound}
use Rattle.law_walks_others.specs.Below.law_counts_sums.Kinds.{Kind, evicts, migrates, starts, arrives, fetch, fetched, moving, moved, drop, asks_lock, granted, unlocked, asks_dup, dupped, released, asks_join, joined, finished, message_kind, instr_kind, kind_at}
use Rattle.law_walks_others.specs.Below.law_counts_sums.Laws.{Gives}
use Rattle.law_walks_others.specs.Below.law_words_kept.stays.Laws.{IsOfKind}
use Rattle.law_walks_others.specs.Below.law_counts_waiting.waits.Steady.{IsSteady}
use Rattle.law_walks_others.specs.Below.law_words_paths.words.Reworded.{HasPlaces}
use Rattle.law_walks_others.specs.Below.law_words_paths.words.Unmoved.{Delivers}
use Rattle.law_walks_others.specs.still.Deliveries.{BringsNoObject}
use Rattle.law_walks_others.proofs.still.Asked.{NoStep}

-- where an event has a result its server is there
pub with_server : (P : Cluster × EntryView → Type 0) (k : Cluster) (e : Event) → ((s : Server) → server_at k.servers e.server ≡ Some s → Gives P (apply k e)) → Gives P (apply k e)
with_server P k e go = by (server_at k.servers e.server) refl
  where
    goes : Server → Option (Cluster × EntryView)
    goes s = option_map (λ d. (record k { servers = hand_over_newer e.server (Rattle.std.specs.Prelude.length s.rest.outbox) d.0 k.servers }, d.1)) (done_at k e.what s)

    by : (o : Option Server) → server_at k.servers e.server ≡ o → Gives P (apply k e)
    by None q = subst (λ o. Gives P (then_some o goes)) (sym q) tt
    by (Some s) q = go s q

same : {X : Type 0} {a b : X} → Some a ≡ Some b → a ≡ b
same e = cc

-- the kind is that at the server
pub at_server : (kind : Kind) (k : Cluster) (e : Event) → IsOfKind kind k e → (s : Server) → server_at k.servers e.server ≡ Some s → kind_at k e.what s ≡ Some kind
at_server kind k e q s here = subst (λ o. then_some o (kind_at k e.what) ≡ Some kind) here q

-- no instruction is of such a kind
no_instr : (i : Instr) → BringsNoObject (instr_kind i) → ⊥
no_instr instr.Unlock h = h
no_instr i h = absurd h

pub unstepped : (kind : Kind) → BringsNoObject kind → (k : Cluster) (s : Server) (w : What) → kind_at k w s ≡ Some kind → NoStep w
unstepped kind p k s (Deliver i) q = tt
unstepped kind p k s (Evict c) q = tt
unstepped kind p k s (Migrate t target) q = tt
unstepped kind p k s (Step t) q = by (thread_in s.threads t) q
  where
    at : (o : Option Instr) → option_map instr_kind o ≡ Some kind → ⊥
    at None e = absurd (cc e)
    at (Some i) e = no_instr i (subst BringsNoObject (sym (same e)) p)

    by : (o : Option ThreadState) → then_some o (λ x. option_map instr_kind (slice_get k.code x.pc)) ≡ Some kind → ⊥
    by None e = absurd (cc e)
    by (Some y) e = at (slice_get k.code y.pc) e

pub not_stepping : (w : What) → NoStep w → (t : ℕ) → w ≡ Step t → ⊥
not_stepping w still t e = subst NoStep e still

-- a steady event brings no object
pub no_object : (kind : Kind) → IsSteady kind → (k : Cluster) (e : Event) → IsOfKind kind k e → (s : Server) → server_at k.servers e.server ≡ Some s → (i t v : ℕ) (c : Cell) → e.what ≡ Deliver i → slice_get s.rest.inbox i ≡ Some (message.Moved v c t) → ⊥
no_object kind steady k e q s here i t v c is m =
    let at : option_map message_kind (slice_get s.rest.inbox i) ≡ Some kind = sym (ap (λ z. kind_at k z s) is) ∙ at_server kind k e q s here in
    let f : Some moved ≡ Some kind = sym (ap (option_map message_kind) m) ∙ at in
    subst IsSteady (sym (same f)) steady

-- in a sound cluster each number is that of one thread, and each object has one home
pub places_in : {k : Cluster} → IsSound k → HasPlaces k
places_in sound = record { numbers_differ = sound.names.numbers_differ; home_of_each = sound.one_home.home_of_each; owner_of_each = sound.one_owner.owner_of_each }

-- WHICH MESSAGE

pub data Sort (k : Cluster) (e : Event) : Kind → Type 0 where
  steady : {kind : Kind} → IsSteady kind → Sort k e kind
  moves : (w : ℕ) (o : ObjNo) (a t : ℕ) → Delivers k e (message.Move w o a t) → Sort k e moving
  drops : (w : ℕ) (o : ObjNo) → Delivers k e (message.Drop w o) → Sort k e drop

module _ (k : Cluster) (e : Event) (s : Server) (here : server_at k.servers e.server ≡ Some s) where
  delivered : (i : ℕ) (m : Message) → e.what ≡ Deliver i → slice_get s.rest.inbox i ≡ Some m → Delivers k e m
  delivered i m is q = record { place = i; what = is; server = s; there = here; message = q }

  is_move : (i : ℕ) (m : Message) → e.what ≡ Deliver i → slice_get s.rest.inbox i ≡ Some m → message_kind m ≡ moving → Sort k e moving
  is_move i (message.Move w o a t) is q f = moves w o a t (delivered i (message.Move w o a t) is q)
  is_move i m is q f = absurd (cc f)

  is_drop : (i : ℕ) (m : Message) → e.what ≡ Deliver i → slice_get s.rest.inbox i ≡ Some m → message_kind m ≡ drop → Sort k e drop
  is_drop i (message.Drop w o) is q f = drops w o (delivered i (message.Drop w o) is q)
  is_drop i m is q f = absurd (cc f)

  -- the message of a delivery of that kind
  with_message : (kind : Kind) → BringsNoObject kind → (go : (i : ℕ) (m : Message) → e.what ≡ Deliver i → slice_get s.rest.inbox i ≡ Some m → message_kind m ≡ kind → Sort k e kind) → (evicts ≡ kind → ⊥) → (migrates ≡ kind → ⊥)
      → (w : What) → e.what ≡ w → kind_at k w s ≡ Some kind → Sort k e kind
  with_message kind p go no_evict no_leave (Step t) is q = absurd (unstepped kind p k s (Step t) q)
  with_message kind p go no_evict no_leave (Evict c) is q = absurd (no_evict (same q))
  with_message kind p go no_evict no_leave (Migrate t target) is q = absurd (no_leave (same q))
  with_message kind p go no_evict no_leave (Deliver i) is q = by (slice_get s.rest.inbox i) refl q
    where
      by : (o : Option Message) → slice_get s.rest.inbox i ≡ o → option_map message_kind o ≡ Some kind → Sort k e kind
      by None f g = absurd (cc g)
      by (Some m) f g = go i m is f (same g)

  pub sort_of : (kind : Kind) → BringsNoObject kind → kind_at k e.what s ≡ Some kind → Sort k e kind
  sort_of moving p q = with_message moving p is_move (λ f. cc f) (λ f. cc f) e.what refl q
  sort_of drop p q = with_message drop p is_drop (λ f. cc f) (λ f. cc f) e.what refl q
  sort_of evicts p q = steady tt
  sort_of migrates p q = steady tt
  sort_of starts p q = steady tt
  sort_of arrives p q = steady tt
  sort_of fetch p q = steady tt
  sort_of fetched p q = steady tt
  sort_of asks_lock p q = steady tt
  sort_of granted p q = steady tt
  sort_of unlocked p q = steady tt
  sort_of asks_dup p q = steady tt
  sort_of dupped p q = steady tt
  sort_of released p q = steady tt
  sort_of asks_join p q = steady tt
  sort_of joined p q = steady tt
  sort_of finished p q = steady tt
  sort_of kind p q = absurd p
