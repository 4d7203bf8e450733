-- An object lies where it lay after the step of another thread, after the delivery of an object, and after that of a `move` or a `drop` of another object.
use Rattle.std.proofs.Common.{◌≡◌, ℕ, ◌+◌, ◌≤◌, ◌==◌, ◌&&◌, nat_lt, Bool, true, false, if◌then◌else◌, List, ◌++◌, Option, Some, None, option_map, refl, sym, ap, subst, ◌∙◌, arith}
use Rattle.std.specs.Prelude.{slice_get}
use Rattle.law_words_ends.specs.Below.fr_base.declared.name.ObjNo.{ObjNo}
use Rattle.law_words_ends.specs.Below.fr_base.declared.instruction.Instr.{Instr}
use Rattle.law_words_ends.specs.Below.fr_base.Names.{same_object}
use Rattle.law_words_ends.specs.Below.global_addr.Words.{colour_of, address_of}
use Rattle.law_words_ends.specs.Below.heap_partition.declared.value.Cell.{Cell}
use Rattle.law_words_ends.specs.Below.owner_box.View.{PartitionState}
use Rattle.law_words_ends.specs.Below.owner_box.Partition.{freed}
use Rattle.law_words_ends.specs.Below.thread_state.View.{ThreadState}
use Rattle.law_words_ends.specs.Below.server_msgs.declared.message.Message.TheVariants as message
use Rattle.law_words_ends.specs.Below.journal.View.{EntryView}
use Rattle.law_words_ends.specs.Below.server_model.declared.event.Event.{Event}
use Rattle.law_words_ends.specs.Below.server_model.declared.event.What.TheVariants.{Deliver}
use Rattle.law_words_ends.specs.Below.server_model.Servers.{Rest, Server, Cluster, server_at}
use Rattle.law_words_ends.specs.Below.server_model.Work.{Work, sent_from, receive, look_object, then_some}
use Rattle.law_words_ends.specs.Below.server_model.Objects.{deliver_move}
use Rattle.law_words_ends.specs.Below.server_model.Events.{enabled, received, deliver_message, left_by, does}
use Rattle.law_words_ends.specs.Below.server_model.Clusters.{done_at, act_at, apply}
use Rattle.law_words_ends.specs.Below.coherent_memory.Names.{tot, one}
use Rattle.law_words_ends.specs.Below.coherent_memory.Things.{Thing, lies, flies, stands, sent, vacant, retired, partition_things, server_things, things_of}
use Rattle.law_words_ends.specs.Below.coherent_memory.Weights.{lies_at, states}
use Rattle.law_words_ends.specs.Below.coherent_memory.Coherent.{IsSound}
use Rattle.law_words_ends.proofs.Below.coherent_memory.Sums.{tot-append}
use Rattle.law_words_ends.specs.Below.law_words_paths.paths.HeapStore.{HasPaths}
use Rattle.law_words_ends.specs.Below.law_counts_sums.Laws.{Gives, FewEvents}
use Rattle.law_words_ends.proofs.Below.law_counts_sums.Applied.{handed_on}
use Rattle.law_words_ends.proofs.Below.law_counts_sums.Bags.{all_standing, rest_things, server_same, sent_number, of_partition, of_receiving, of_sending}
use Rattle.law_words_ends.proofs.Below.law_counts_sums.Cells.{left_by as address_left, looked, frees, not_free}
use Rattle.law_words_ends.proofs.Below.law_counts_sums.Objects.{one_state}
use Rattle.law_words_ends.proofs.Below.law_counts_sums.Events.{tot-server}
use Rattle.law_words_ends.proofs.Below.law_counts_sums.Results.{then_gives, map_gives, over_gives, test_gives, weaker}
use Rattle.law_words_ends.proofs.Below.law_counts_sums.Sending.{each_event_sends}
use Rattle.law_words_ends.proofs.Below.law_counts_sums.ObjectMessages.{looked_object}
use Rattle.law_words_ends.specs.Below.law_words_paths.words.Unmoved.{Delivers}
use Rattle.law_words_ends.proofs.Below.law_heap_still.events.Leaving.{others, placed_here}
use Rattle.law_words_ends.proofs.Below.law_heap_still.events.Tests.{IsTest, objects}
use Rattle.law_words_ends.proofs.Below.law_heap_still.events.Told.{tot_same}
use Rattle.law_walks_others.proofs.Below.law_counts_waiting.waits.Written.{Written}
use Rattle.law_walks_others.proofs.pointers.Cells.{Seeing, cell_weight, amount, rest_seen}
use Rattle.law_walks_others.proofs.pointers.Clusters.{SeesOn}
use Rattle.law_walks_others.proofs.pointers.Deliveries.{drops_on}
use Rattle.law_words_ends.specs.Below.law_words_paths.words.Reworded.{HasPlaces}
use Rattle.law_walks_own.proofs.taken.Landed.{Comes}
use Rattle.law_walks_own.proofs.taken.After.{no_less}

truth_cases : (b : Bool) (P : Bool → Type 0) → (b ≡ true → P true) → (b ≡ false → P false) → P b
truth_cases true P f g = f refl
truth_cases false P f g = g refl

none_last : (q : Bool) → one (q && false) ≡ 0
none_last true = refl
none_last false = refl

-- the object lies at that server
abbrev lying_at : ℕ → ObjNo → Option ℕ → ObjNo → ℕ
lying_at r o None q = 0
lying_at r o (Some s) q = one (s == r && same_object q o)

abbrev pub lying : ℕ → ObjNo → Seeing
lying r o = record { cells = λ s q v. lying_at r o s q; threads = λ s b u. 0; messages = λ s m. 0 }

pub lying_so : (r : ℕ) (o : ObjNo) (x : Thing) → cell_weight (lying r o) x ≡ lies_at r o x
lying_so r o (lies s a d) = refl
lying_so r o (flies w d) = refl
lying_so r o (stands s b u) = refl
lying_so r o (sent s m) = refl
lying_so r o _ = refl

weighs : (r : ℕ) (o : ObjNo) (a b : List Thing) → tot (cell_weight (lying r o)) a ≤ tot (cell_weight (lying r o)) b → tot (lies_at r o) a ≤ tot (lies_at r o) b
weighs r o a b l = omega (arith, l, tot_same (cell_weight (lying r o)) (lies_at r o) (lying_so r o) a, tot_same (cell_weight (lying r o)) (lies_at r o) (lying_so r o) b)

-- it isn't another object
other_none : (r : ℕ) (o q : ObjNo) → (q ≡ o → ⊥) → (s : Option ℕ) → lying_at r o s q ≡ 0
other_none r o q ne None = refl
other_none r o q ne (Some s) = let test : IsTest same_object = objects in truth_cases (same_object q o) (λ b. one (s == r && b) ≡ 0) (λ e. absurd (ne (test.tells q o e))) (λ e. none_last (s == r))

-- AFTER A STEP

pub step_lies : (k z : Cluster) (p : HasPaths k) (t : ℕ) → SeesOn k p t (things_of k) (things_of z) → (r : ℕ) (o : ObjNo) → (Written k p t o → ⊥) → tot (lies_at r o) (things_of k) ≤ tot (lies_at r o) (things_of z)
step_lies k z p t sees r o free =
    weighs r o (things_of k) (things_of z) (sees (lying r o) (record { thread = λ s b u e. refl; written = λ q h s v. other_none r o q (λ e. free (subst (λ a. Written k p t a) e h)) s }))

-- AFTER THE DELIVERY OF AN OBJECT

pub landed_lies : (k z : Cluster) (before : HasPlaces k) (after : HasPlaces z) (cs : List Instr) (s : Server) (old t : ℕ) (c : Cell) (y : ThreadState) → Comes cs s old t c y (things_of k) (things_of z) → (r : ℕ) (o : ObjNo) → tot (lies_at r o) (things_of k) ≤ tot (lies_at r o) (things_of z)
landed_lies k z before after cs s old t c y comes r o =
    weighs r o (things_of k) (things_of z) (no_less k z before after cs s old t c y comes (lying r o) (record { base = record { own = λ u e. refl }; gets = λ q b. omega arith }) (omega arith))

-- FROM A SERVER TO ITS CLUSTER

pub handed_less : (f : Thing → ℕ) (k : Cluster) (e : Event) → IsSound k → FewEvents k
    → ((s : Server) → server_at k.servers e.server ≡ Some s → Gives (λ (r : Server × EntryView). tot f (server_things s) ≤ tot f (server_things r.0)) (does k.code k.options s e.what))
    → Gives (λ (d : Cluster × EntryView). tot f (things_of k) ≤ tot f (things_of d.0)) (apply k e)
handed_less f k e sound few go = handed_on (λ z. tot f (things_of k) ≤ tot f (things_of z)) (λ z a b same g. (let h = same f in omega (arith, g, h))) k e (each_event_sends k e sound few) acted
  where
    acted : Gives (λ (d : Cluster × EntryView). tot f (things_of k) ≤ tot f (things_of d.0)) (act_at k e)
    acted =
        then_gives (λ (d : Cluster × EntryView). tot f (things_of k) ≤ tot f (things_of d.0)) (server_at k.servers e.server) _ (λ s here.
        over_gives (λ (r : Server × EntryView). tot f (server_things s) ≤ tot f (server_things r.0)) (λ (d : Cluster × EntryView). tot f (things_of k) ≤ tot f (things_of d.0)) (done_at k e.what s) _
        (test_gives (λ (r : Server × EntryView). tot f (server_things s) ≤ tot f (server_things r.0)) (enabled k.options s e.what) (does k.code k.options s e.what) (λ able. go s here))
        (λ r l. (let b = tot-server f k.servers e.server s r.0 here in omega (arith, l, b.0, b.1))))

-- the message's server
module _ (k : Cluster) (e : Event) (m : Rattle.law_words_ends.specs.Below.server_msgs.declared.message.Message.Message) (d : Delivers k e m) where
  server_is : {a b : Server} → Some a ≡ Some b → a ≡ b
  server_is h = cc

  message_there : (s : Server) → server_at k.servers e.server ≡ Some s → slice_get s.rest.inbox d.place ≡ Some m
  message_there s here = ap (λ (x : Server). slice_get x.rest.inbox d.place) (server_is (sym here ∙ d.there)) ∙ d.message

-- AFTER THE DELIVERY OF A DROP

pub dropped_lies : (k : Cluster) (e : Event) (w : ℕ) (q : ObjNo) → Delivers k e (message.Drop w q) → IsSound k → FewEvents k → (r : ℕ) (o : ObjNo) → (q ≡ o → ⊥)
    → Gives (λ (d : Cluster × EntryView). tot (lies_at r o) (things_of k) ≤ tot (lies_at r o) (things_of d.0)) (apply k e)
dropped_lies k e w q d sound few r o ne =
    weaker (λ (x : Cluster × EntryView). tot (cell_weight (lying r o)) (things_of k) ≤ tot (cell_weight (lying r o)) (things_of x.0)) (λ (x : Cluster × EntryView). tot (lies_at r o) (things_of k) ≤ tot (lies_at r o) (things_of x.0)) (apply k e)
    (handed_less (cell_weight (lying r o)) k e sound few (λ s here.
    subst (λ v. Gives (λ (x : Server × EntryView). tot (cell_weight (lying r o)) (server_things s) ≤ tot (cell_weight (lying r o)) (server_things x.0)) (does k.code k.options s v)) (sym d.what)
    (drops_on k sound e.server s here (lying r o) d.place w q (record { cell = λ s2 v. other_none r o q ne s2; message_none = λ n v. refl }) (message_there k e (message.Drop w q) d s here))))
    (λ x l. weighs r o (things_of k) (things_of x.0) l)

-- AFTER THE DELIVERY OF A MOVE

module _ (k : Cluster) (sound : IsSound k) (number : ℕ) (s : Server) (here : server_at k.servers number ≡ Some s) (r : ℕ) (o q : ObjNo) (ne : q ≡ o → ⊥) (i w a t : ℕ) (at : slice_get s.rest.inbox i ≡ Some (message.Move w q a t)) where
  abbrev n : ℕ
  n = s.rest.number

  abbrev see : Seeing
  see = lying r o

  abbrev f : Thing → ℕ
  f x = cell_weight see x

  abbrev p : PartitionState
  p = s.rest.partition

  abbrev More : Work → Type 0
  More x = (x.rest.number ≡ n) × (amount see n s.rest.partition s.rest.inbox s.rest.outbox ≤ amount see n x.rest.partition x.rest.inbox x.rest.outbox)

  left_unseen : cell_weight see (address_left n p.limit w) ≡ 0
  left_unseen = by (nat_lt (colour_of w + 1) p.limit)
    where
      by : (b : Bool) → cell_weight see (if b then vacant n (address_of w) (colour_of w + 1) else retired n (address_of w)) ≡ 0
      by true = refl
      by false = refl

  free_there : (c : Cell) → look_object p w q ≡ Some c → slice_get p.cells (address_of w) ≡ Some (Some c)
  free_there c l = looked p w c (looked_object p w q c l).0

  few_there : tot (states (n, address_of w)) (partition_things n p) ≤ 1
  few_there = one_state n s.events s.rest (others k sound number s here) (placed_here k sound number s here) (address_of w)

  moves : Gives More (deliver_move w q a t (received i s).work)
  moves =
      map_gives More (look_object p w q) _ (λ c l.
      let found = free_there c l in
      let r0 : Rest = receive s.rest i in
      let r2 : Rest = record r0 { partition = freed p w } in
      let ti = of_receiving n 0 s.rest i (message.Move w q a t) at in
      let u = of_partition n 0 r0 (freed p w) (frees n p w c found (not_free n p (address_of w) c found few_there)) in
      let v = of_sending n 0 r2 refl a (message.Moved w c t) in
      let none : lying_at r o (Some n) c.object ≡ 0 = other_none r o c.object (λ e. ne (sym (looked_object p w q c l).1 ∙ e)) (Some n) in (
        sent_number r2 a (message.Moved w c t),
        omega (
          arith,
          ti.before f,
          ti.after f,
          u.before f,
          u.after f,
          v.before f,
          v.after f,
          rest_seen see n 0 s.rest,
          rest_seen see n 0 (sent_from r2 a (message.Moved w c t)),
          left_unseen,
          none,
        ),
      ))

  whole : (s2 : Server) → s2.rest.number ≡ n → tot f (server_things s2) ≡ tot f (all_standing n s2.threads) + amount see n s2.rest.partition s2.rest.inbox s2.rest.outbox
  whole s2 e =
      let same : tot f (server_things s2) ≡ tot f (all_standing n s2.threads ++ rest_things n s2.events s2.rest) = subst (λ u. tot f (server_things s2) ≡ tot f (all_standing u s2.threads ++ rest_things u s2.events s2.rest)) e (server_same s2 f) in
      omega (arith, same, tot-append f (all_standing n s2.threads) (rest_things n s2.events s2.rest), rest_seen see n s2.events s2.rest)

  abbrev Less : Server × EntryView → Type 0
  Less x = tot f (server_things s) ≤ tot f (server_things x.0)

  moves_on : Gives Less (does k.code k.options s (Deliver i))
  moves_on =
      subst (λ m. Gives Less (option_map (left_by s.events None None) (then_some m (λ x. deliver_message k.code x (received i s))))) (sym at) (by (deliver_move w q a t (received i s).work) moves)
    where
      by : (x : Option Work) → Gives More x → Gives Less (option_map (left_by s.events None None) (option_map (λ v. record (received i s) { work = v }) x))
      by None h = tt
      by (Some v) h = omega (arith, h.1, whole s refl, whole (left_by s.events None None (record (received i s) { work = v })).0 h.0)

pub moved_lies : (k : Cluster) (e : Event) (w : ℕ) (q : ObjNo) (a t : ℕ) → Delivers k e (message.Move w q a t) → IsSound k → FewEvents k → (r : ℕ) (o : ObjNo) → (q ≡ o → ⊥)
    → Gives (λ (d : Cluster × EntryView). tot (lies_at r o) (things_of k) ≤ tot (lies_at r o) (things_of d.0)) (apply k e)
moved_lies k e w q a t d sound few r o ne =
    weaker (λ (x : Cluster × EntryView). tot (cell_weight (lying r o)) (things_of k) ≤ tot (cell_weight (lying r o)) (things_of x.0)) (λ (x : Cluster × EntryView). tot (lies_at r o) (things_of k) ≤ tot (lies_at r o) (things_of x.0)) (apply k e)
    (handed_less (cell_weight (lying r o)) k e sound few (λ s here.
    subst (λ v. Gives (λ (x : Server × EntryView). tot (cell_weight (lying r o)) (server_things s) ≤ tot (cell_weight (lying r o)) (server_things x.0)) (does k.code k.options s v)) (sym d.what)
    (moves_on k sound e.server s here r o q ne d.place w a t (message_there k e (message.Move w q a t) d s here))))
    (λ x l. weighs r o (things_of k) (things_of x.0) l)
