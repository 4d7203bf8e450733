-- Each object but that of the message lies where it lay after the delivery of a `move` or a `drop`.
use Rattle.std.proofs.Common.{◌≡◌, ℕ, ◌+◌, ◌≤◌, ◌==◌, ◌&&◌, nat_lt, Bool, true, false, if◌then◌else◌, ◌++◌, Option, Some, None, refl, sym, ap, subst, ◌∙◌, arith}
use Rattle.std.specs.Prelude.{slice_get, option_map}
use Rattle.law_walks_others.specs.Below.fr_base.declared.name.ObjNo.{ObjNo}
use Rattle.law_walks_others.specs.Below.fr_base.declared.release.Released.TheVariants as released
use Rattle.law_walks_others.specs.Below.fr_base.Names.{same_object}
use Rattle.law_walks_others.specs.Below.global_addr.Words.{colour_of, server_of, address_of}
use Rattle.law_walks_others.specs.Below.heap_partition.declared.value.Cell.{Cell}
use Rattle.law_walks_others.specs.Below.heap_partition.declared.value.Owned.{Owned}
use Rattle.law_walks_others.specs.Below.heap_partition.declared.value.Owned.TheVariants as owned
use Rattle.law_walks_others.specs.Below.owner_box.View.{PartitionState}
use Rattle.law_walks_others.specs.Below.owner_box.Partition.{freed}
use Rattle.law_walks_others.specs.Below.server_msgs.declared.message.Message.{Message}
use Rattle.law_walks_others.specs.Below.server_msgs.declared.message.Message.TheVariants as message
use Rattle.law_walks_others.specs.Below.journal.View.{EntryView}
use Rattle.law_walks_others.specs.Below.server_model.declared.event.Event.{Event}
use Rattle.law_walks_others.specs.Below.server_model.declared.event.What.TheVariants.{Deliver}
use Rattle.law_walks_others.specs.Below.server_model.Servers.{Rest, Server, Cluster, server_at}
use Rattle.law_walks_others.specs.Below.server_model.Work.{Work, receive, sent_from, look_object, then_some, beside_threads}
use Rattle.law_walks_others.specs.Below.server_model.Drop.{home_of, give_up}
use Rattle.law_walks_others.specs.Below.server_model.Objects.{deliver_move, deliver_drop}
use Rattle.law_walks_others.specs.Below.server_model.Events.{enabled, received, left_by, deliver_message, does}
use Rattle.law_walks_others.specs.Below.server_model.Clusters.{done_at, act_at, apply}
use Rattle.law_walks_others.specs.Below.coherent_memory.Names.{tot, one}
use Rattle.law_walks_others.specs.Below.coherent_memory.Things.{Thing, lies, flies, stands, sent, vacant, retired, partition_things, server_things, things_of}
use Rattle.law_walks_others.specs.Below.coherent_memory.Weights.{states, lies_at}
use Rattle.law_walks_others.specs.Below.coherent_memory.Coherent.{IsSound}
use Rattle.law_walks_others.proofs.Below.coherent_memory.Sums.{tot-append}
use Rattle.law_walks_others.specs.Below.law_words_paths.words.Unmoved.{Delivers}
use Rattle.law_walks_others.specs.Below.law_counts_sums.Laws.{Gives, FewEvents}
use Rattle.law_walks_others.proofs.Below.law_counts_sums.Results.{then_gives, map_gives, over_gives, test_gives, weaker}
use Rattle.law_walks_others.proofs.Below.law_counts_sums.Bags.{all_standing, rest_things, server_same, of_receiving, of_partition, of_sending, sent_number}
use Rattle.law_walks_others.proofs.Below.law_counts_sums.Cells.{left_by as address_left, looked, frees, not_free}
use Rattle.law_walks_others.proofs.Below.law_counts_sums.Objects.{one_state}
use Rattle.law_walks_others.proofs.Below.law_counts_sums.ObjectMessages.{looked_object}
use Rattle.law_walks_others.proofs.Below.law_counts_sums.Events.{tot-server}
use Rattle.law_walks_others.proofs.Below.law_counts_sums.Applied.{handed_on}
use Rattle.law_walks_others.proofs.Below.law_counts_sums.Sending.{each_event_sends}
use Rattle.law_walks_others.proofs.Below.law_heap_still.events.Leaving.{others, placed_here}
use Rattle.law_walks_others.proofs.Below.law_heap_still.events.Tests.{IsTest, objects}
use Rattle.law_walks_others.proofs.Below.law_heap_still.events.Told.{tot_same}
use Rattle.law_walks_others.proofs.pointers.Cells.{Seeing, cell_weight, amount, rest_seen}
use Rattle.law_walks_others.proofs.still.Turn.{all_give}

truth_cases : (b : Bool) (P : Bool → Type 0) → (b ≡ true → P true) → (b ≡ false → P false) → P b
truth_cases true P f g = f refl
truth_cases false P f g = g refl

none_last : (q : Bool) → one (q && false) ≡ 0
none_last true = refl
none_last false = refl

-- what a weight sees that sees where objects lie
abbrev lying_at : ℕ → ObjNo → Option ℕ → ObjNo → ℕ
lying_at r o None q = 0
lying_at r o (Some s) q = one (s == r && same_object q o)

abbrev see : ℕ → ObjNo → Seeing
see r o = record { cells = λ s q v. lying_at r o s q; threads = λ s b u. 0; messages = λ s m. 0 }

-- AT ITS SERVER

module _ (k : Cluster) (sound : IsSound k) (number : ℕ) (s : Server) (here : server_at k.servers number ≡ Some s) (r : ℕ) (o q : ObjNo) (apart : q ≡ o → ⊥) where
  abbrev n : ℕ
  n = s.rest.number

  abbrev f : Thing → ℕ
  f x = cell_weight (see r q) x

  abbrev p : PartitionState
  p = s.rest.partition

  left_unseen : (limit w : ℕ) → f (address_left n limit w) ≡ 0
  left_unseen limit w = by (nat_lt (colour_of w + 1) limit)
    where
      by : (b : Bool) → f (if b then vacant n (address_of w) (colour_of w + 1) else retired n (address_of w)) ≡ 0
      by true = refl
      by false = refl

  -- no less is seen
  abbrev More : Work → Type 0
  More w = (w.rest.number ≡ n) × (amount (see r q) n s.rest.partition s.rest.inbox s.rest.outbox ≤ amount (see r q) n w.rest.partition w.rest.inbox w.rest.outbox)

  few_there : (w : ℕ) → tot (states (n, address_of w)) (partition_things n p) ≤ 1
  few_there w = one_state n s.events s.rest (others k sound number s here) (placed_here k sound number s here) (address_of w)

  -- its cell isn't seen
  cell_unseen : (c : Cell) → c.object ≡ o → lying_at r q (Some n) c.object ≡ 0
  cell_unseen c e = truth_cases (same_object c.object q) (λ b. one (n == r && b) ≡ 0) (λ h. (let test : IsTest same_object = objects in absurd (apart (sym (test.tells c.object q h) ∙ e)))) (λ h. none_last (n == r))

  abbrev without : ℕ → ℕ → Rest
  without i w = record (receive s.rest i) { partition = freed p w }

  gone : (i w : ℕ) (m : Message) (c : Cell) → slice_get s.rest.inbox i ≡ Some m → tot f (Rattle.law_walks_others.specs.Below.coherent_memory.Things.message_things n m) ≡ 0 → look_object p w o ≡ Some c
      → amount (see r q) n s.rest.partition s.rest.inbox s.rest.outbox ≤ amount (see r q) n (without i w).partition (without i w).inbox (without i w).outbox
  gone i w m c at none l =
      let lies_here : slice_get p.cells (address_of w) ≡ Some (Some c) = looked p w c (looked_object p w o c l).0 in
      let ti = of_receiving n 0 s.rest i m at in
      let u = of_partition n 0 (receive s.rest i) (freed p w) (frees n p w c lies_here (not_free n p (address_of w) c lies_here (few_there w))) in
      omega (arith, none, ti.before f, ti.after f, u.before f, u.after f, rest_seen (see r q) n 0 s.rest, rest_seen (see r q) n 0 (without i w), left_unseen p.limit w, cell_unseen c (looked_object p w o c l).1)

  sent_more : (z : Rest) (target : ℕ) (m : Message) → z.number ≡ n → amount (see r q) n z.partition z.inbox z.outbox ≤ amount (see r q) n (sent_from z target m).partition (sent_from z target m).inbox (sent_from z target m).outbox
  sent_more z target m e = let t = of_sending n 0 z e target m in omega (arith, t.before f, t.after f, rest_seen (see r q) n 0 z, rest_seen (see r q) n 0 (sent_from z target m))

  sends : (z : Rest) (target : ℕ) (m : Message) → (z.number ≡ n) × (amount (see r q) n s.rest.partition s.rest.inbox s.rest.outbox ≤ amount (see r q) n z.partition z.inbox z.outbox)
      → ((sent_from z target m).number ≡ n) × (amount (see r q) n s.rest.partition s.rest.inbox s.rest.outbox ≤ amount (see r q) n (sent_from z target m).partition (sent_from z target m).inbox (sent_from z target m).outbox)
  sends z target m g = (sent_number z target m ∙ g.0, omega (arith, g.1, sent_more z target m g.0))

  gives : (v : Owned) (x : Work) → More x → More (give_up v x)
  gives (owned.Box b) x g = sends x.rest (server_of b.word) (message.Drop b.word b.object) g
  gives (owned.Mutex m) x g = sends x.rest m.home (message.Release (released.Mutex m)) g
  gives (owned.Task t) x g = sends x.rest (home_of t) (message.Release (released.Task t)) g
  gives owned.Nothing x g = g
  gives owned.Unit x g = g
  gives (owned.Int m) x g = g

  moves : (i w a t : ℕ) → slice_get s.rest.inbox i ≡ Some (message.Move w o a t) → Gives More (deliver_move w o a t (received i s).work)
  moves i w a t at = map_gives More (look_object p w o) _ (λ c l. sends (without i w) a (message.Moved w c t) (refl, gone i w (message.Move w o a t) c at refl l))

  drops : (i w : ℕ) → slice_get s.rest.inbox i ≡ Some (message.Drop w o) → Gives More (deliver_drop w o (received i s).work)
  drops i w at = map_gives More (look_object p w o) _ (λ c l. gives c.value _ (refl, gone i w (message.Drop w o) c at refl l))

  -- THE SERVER

  whole : (s2 : Server) → s2.rest.number ≡ n → tot f (server_things s2) ≡ tot f (all_standing n s2.threads) + amount (see r q) n s2.rest.partition s2.rest.inbox s2.rest.outbox
  whole s2 e =
      let same : tot f (server_things s2) ≡ tot f (all_standing n s2.threads ++ rest_things n s2.events s2.rest) = subst (λ u. tot f (server_things s2) ≡ tot f (all_standing u s2.threads ++ rest_things u s2.events s2.rest)) e (server_same s2 f) in
      omega (arith, same, tot-append f (all_standing n s2.threads) (rest_things n s2.events s2.rest), rest_seen (see r q) n s2.events s2.rest)

  abbrev pub Less : Server × EntryView → Type 0
  Less z = tot f (server_things s) ≤ tot f (server_things z.0)

  beside : (i : ℕ) (g : Work → Option Work) → Gives More (g (received i s).work) → Gives Less (option_map (left_by s.events None None) (beside_threads g (received i s)))
  beside i g h = by (g (received i s).work) h
    where
      by : (z : Option Work) → Gives More z → Gives Less (option_map (left_by s.events None None) (option_map (λ w. record (received i s) { work = w }) z))
      by None h = tt
      by (Some w) h = omega (arith, h.1, whole s refl, whole (left_by s.events None None (record (received i s) { work = w })).0 h.0)

  pub moves_on : (i w a t : ℕ) → slice_get s.rest.inbox i ≡ Some (message.Move w o a t) → Gives Less (does k.code k.options s (Deliver i))
  moves_on i w a t at = subst (λ m. Gives Less (option_map (left_by s.events None None) (then_some m (λ x. deliver_message k.code x (received i s))))) (sym at) (beside i (deliver_move w o a t) (moves i w a t at))

  pub drops_on : (i w : ℕ) → slice_get s.rest.inbox i ≡ Some (message.Drop w o) → Gives Less (does k.code k.options s (Deliver i))
  drops_on i w at = subst (λ m. Gives Less (option_map (left_by s.events None None) (then_some m (λ x. deliver_message k.code x (received i s))))) (sym at) (beside i (deliver_drop w o) (drops i w at))

-- IN ITS CLUSTER

abbrev pub LiesOn : ObjNo → Cluster → Cluster × EntryView → Type 0
LiesOn o k d = (r : ℕ) (q : ObjNo) → (q ≡ o → ⊥) → tot (lies_at r q) (things_of k) ≤ tot (lies_at r q) (things_of d.0)

module _ (k : Cluster) (e : Event) (sound : IsSound k) (few : FewEvents k) (o : ObjNo) (go : (s : Server) (here : server_at k.servers e.server ≡ Some s) (r : ℕ) (q : ObjNo) (apart : q ≡ o → ⊥) → Gives (Less k sound e.server s here r o q apart) (does k.code k.options s e.what)) where
  grown : (r : ℕ) (q : ObjNo) → (q ≡ o → ⊥) → Gives (λ (d : Cluster × EntryView). tot (lies_at r q) (things_of k) ≤ tot (lies_at r q) (things_of d.0)) (apply k e)
  grown r q apart =
      weaker (λ (d : Cluster × EntryView). Grown d.0) (λ (d : Cluster × EntryView). tot (lies_at r q) (things_of k) ≤ tot (lies_at r q) (things_of d.0)) (apply k e)
      (handed_on Grown (λ c a b same g. omega (arith, g, same g2)) k e (each_event_sends k e sound few) acted) (λ d g. omega (arith, g, tot_same g2 (lies_at r q) so (things_of k), tot_same g2 (lies_at r q) so (things_of d.0)))
    where
      g2 : Thing → ℕ
      g2 x = cell_weight (see r q) x

      so : (x : Thing) → cell_weight (see r q) x ≡ lies_at r q x
      so (lies s a d) = refl
      so (flies w d) = refl
      so (stands s b u) = refl
      so (sent s m) = refl
      so _ = refl

      Grown : Cluster → Type 0
      Grown c = tot g2 (things_of k) ≤ tot g2 (things_of c)

      acted : Gives (λ (d : Cluster × EntryView). Grown d.0) (act_at k e)
      acted =
          then_gives (λ (d : Cluster × EntryView). Grown d.0) (server_at k.servers e.server) _ (λ s here.
          over_gives (Less k sound e.server s here r o q apart) (λ (d : Cluster × EntryView). Grown d.0) (done_at k e.what s) _
          (test_gives (Less k sound e.server s here r o q apart) (enabled k.options s e.what) (does k.code k.options s e.what) (λ able. go s here r q apart))
          (λ z less. omega (arith, less, (tot-server g2 k.servers e.server s z.0 here).0, (tot-server g2 k.servers e.server s z.0 here).1)))

  pub lie_on : Gives (LiesOn o k) (apply k e)
  lie_on =
      weaker (λ (d : Cluster × EntryView). (a : (r : ℕ) × (q : ObjNo) × (q ≡ o → ⊥)) → tot (lies_at a.0 a.1) (things_of k) ≤ tot (lies_at a.0 a.1) (things_of d.0)) (LiesOn o k) (apply k e)
      (all_give (λ (a : (r : ℕ) × (q : ObjNo) × (q ≡ o → ⊥)) (d : Cluster × EntryView). tot (lies_at a.0 a.1) (things_of k) ≤ tot (lies_at a.0 a.1) (things_of d.0)) (apply k e) (λ a. grown a.0 a.1 a.2)) (λ d all r q apart. all (r, q, apart))

module _ (k : Cluster) (e : Event) (m : Message) (d : Delivers k e m) where
  message_there : (s : Server) → server_at k.servers e.server ≡ Some s → slice_get s.rest.inbox d.place ≡ Some m
  message_there s here = ap (λ (x : Server). slice_get x.rest.inbox d.place) (sym (is (sym d.there ∙ here))) ∙ d.message
    where
      is : {a b : Server} → Some a ≡ Some b → a ≡ b
      is h = cc

pub moves_lie : (k : Cluster) (e : Event) (w : ℕ) (o : ObjNo) (a t : ℕ) → Delivers k e (message.Move w o a t) → IsSound k → FewEvents k → Gives (LiesOn o k) (apply k e)
moves_lie k e w o a t d sound few =
    lie_on k e sound few o (λ s here r q apart. subst (λ what. Gives (Less k sound e.server s here r o q apart) (does k.code k.options s what)) (sym d.what) (moves_on k sound e.server s here r o q apart d.place w a t (message_there k e (message.Move w o a t) d s here)))

pub drops_lie : (k : Cluster) (e : Event) (w : ℕ) (o : ObjNo) → Delivers k e (message.Drop w o) → IsSound k → FewEvents k → Gives (LiesOn o k) (apply k e)
drops_lie k e w o d sound few =
    lie_on k e sound few o (λ s here r q apart. subst (λ what. Gives (Less k sound e.server s here r o q apart) (does k.code k.options s what)) (sym d.what) (drops_on k sound e.server s here r o q apart d.place w (message_there k e (message.Drop w o) d s here)))
