-- The delivery of a `move` or a `drop` leaves each thread, each cell but that of a dropped object, and what is asked for.
use Rattle.std.proofs.Common.{◌≡◌, ℕ, ◌+◌, ◌≤◌, ◌==◌, ◌&&◌, nat_lt, Bool, true, false, if◌then◌else◌, ◌++◌, Option, Some, None, refl, sym, ap, subst, ◌∙◌, arith}
use Rattle.std.specs.Prelude.{slice_get, option_map}
use Rattle.law_words_values.specs.Below.fr_base.declared.name.ObjNo.{ObjNo}
use Rattle.law_words_values.specs.Below.fr_base.declared.release.Released.TheVariants as released
use Rattle.law_words_values.specs.Below.fr_base.Names.{same_object}
use Rattle.law_words_values.specs.Below.global_addr.Words.{colour_of, server_of, address_of}
use Rattle.law_words_values.specs.Below.heap_partition.Same.{same_owned}
use Rattle.law_words_values.specs.Below.heap_partition.declared.value.Cell.{Cell}
use Rattle.law_words_values.specs.Below.heap_partition.declared.value.Owned.{Owned}
use Rattle.law_words_values.specs.Below.heap_partition.declared.value.Owned.TheVariants as owned
use Rattle.law_words_values.specs.Below.owner_box.View.{PartitionState}
use Rattle.law_words_values.specs.Below.owner_box.Partition.{freed}
use Rattle.law_words_values.specs.Below.server_msgs.declared.message.Message.{Message}
use Rattle.law_words_values.specs.Below.server_msgs.declared.message.Message.TheVariants as message
use Rattle.law_words_values.specs.Below.journal.View.{EntryView}
use Rattle.law_words_values.specs.Below.server_model.declared.event.Event.{Event}
use Rattle.law_words_values.specs.Below.server_model.declared.event.What.TheVariants.{Deliver}
use Rattle.law_words_values.specs.Below.server_model.Servers.{Rest, Server, Cluster, server_at}
use Rattle.law_words_values.specs.Below.server_model.Work.{Work, receive, sent_from, look_object, then_some, beside_threads}
use Rattle.law_words_values.specs.Below.server_model.Drop.{home_of, give_up}
use Rattle.law_words_values.specs.Below.server_model.Objects.{deliver_move, deliver_drop}
use Rattle.law_words_values.specs.Below.server_model.Events.{enabled, received, left_by, deliver_message, does}
use Rattle.law_words_values.specs.Below.server_model.Clusters.{done_at, act_at, apply}
use Rattle.law_words_values.specs.Below.coherent_memory.Names.{tot, one, if_so}
use Rattle.law_words_values.specs.Below.coherent_memory.Things.{Thing, lies, flies, stands, sent, vacant, retired, partition_things, server_things, things_of}
use Rattle.law_words_values.specs.Below.coherent_memory.Follow.{Standing}
use Rattle.law_words_values.specs.Below.coherent_memory.Paths.{Awaited}
use Rattle.law_words_values.specs.Below.coherent_memory.Walking.{asks_for, asked_for}
use Rattle.law_words_values.specs.Below.coherent_memory.Weights.{states}
use Rattle.law_words_values.specs.Below.coherent_memory.Coherent.{IsSound}
use Rattle.law_words_values.proofs.Below.coherent_memory.Sums.{tot-append}
use Rattle.law_counts_waiting.specs.Below.law_words_paths.words.Unmoved.{Delivers}
use Rattle.law_words_values.specs.Below.law_counts_sums.Laws.{Gives, FewEvents}
use Rattle.law_words_values.proofs.Below.law_counts_sums.Results.{then_gives, map_gives, over_gives, test_gives}
use Rattle.law_words_values.proofs.Below.law_counts_sums.Bags.{all_standing, rest_things, server_same, of_receiving, of_partition, of_sending, sent_number}
use Rattle.law_words_values.proofs.Below.law_counts_sums.Cells.{left_by as address_left, looked, frees, not_free}
use Rattle.law_words_values.proofs.Below.law_counts_sums.Objects.{one_state}
use Rattle.law_words_values.proofs.Below.law_counts_sums.ObjectMessages.{looked_object}
use Rattle.law_words_values.proofs.Below.law_counts_sums.Events.{tot-server}
use Rattle.law_words_values.proofs.Below.law_counts_sums.Applied.{handed_on}
use Rattle.law_words_values.proofs.Below.law_counts_sums.Sending.{each_event_sends}
use Rattle.law_words_values.proofs.Below.law_heap_still.events.Leaving.{others, placed_here}
use Rattle.law_words_values.proofs.Below.law_heap_still.events.Tests.{IsTest, objects}
use Rattle.law_words_values.proofs.Below.law_heap_still.events.Told.{tot_same, at_thread}
use Rattle.law_walks_others.proofs.pointers.Cells.{Seeing, cell_weight, amount, rest_seen}
use Rattle.law_walks_others.proofs.pointers.Still.{shows, Lasts}

truth_cases : (b : Bool) (P : Bool → Type 0) → (b ≡ true → P true) → (b ≡ false → P false) → P b
truth_cases true P f g = f refl
truth_cases false P f g = g refl

-- of each weight, and so of all
all_give : {A X : Type 0} (P : A → X → Type 0) (o : Option X) → ((a : A) → Gives (P a) o) → Gives (λ x. (a : A) → P a x) o
all_give P None g = tt
all_give P (Some x) g = λ a. g a

-- WHAT A WEIGHT SEES OF THE MESSAGE

-- a `move` and the `moved` that answers it, and the cell wherever it is
pub record MoveFits (see : Seeing) : Type 0 where
  pub even : (r q : Option ℕ) (o : ObjNo) (v : Owned) → see.cells r o v ≡ see.cells q o v
  pub answers : (n a w t : ℕ) (o : ObjNo) (c : Cell) → c.object ≡ o → see.messages n (message.Move w o a t) ≤ see.messages a (message.Moved w c t)

-- neither a `drop` nor the cell of its object
pub record DropFits (o : ObjNo) (see : Seeing) : Type 0 where
  pub cell : (r : Option ℕ) (v : Owned) → see.cells r o v ≡ 0
  pub message_none : (n w : ℕ) → see.messages n (message.Drop w o) ≡ 0

left_unseen : (see : Seeing) (n limit w : ℕ) → cell_weight see (address_left n limit w) ≡ 0
left_unseen see n limit w = by (nat_lt (colour_of w + 1) limit)
  where
    by : (b : Bool) → cell_weight see (if b then vacant n (address_of w) (colour_of w + 1) else retired n (address_of w)) ≡ 0
    by true = refl
    by false = refl

-- AT ITS SERVER

module _ (k : Cluster) (sound : IsSound k) (number : ℕ) (s : Server) (here : server_at k.servers number ≡ Some s) (see : Seeing) where
  abbrev n : ℕ
  n = s.rest.number

  abbrev f : Thing → ℕ
  f x = cell_weight see x

  abbrev p : PartitionState
  p = s.rest.partition

  -- no less is seen
  abbrev More : Work → Type 0
  More w = (w.rest.number ≡ n) × (amount see n s.rest.partition s.rest.inbox s.rest.outbox ≤ amount see n w.rest.partition w.rest.inbox w.rest.outbox)

  free_there : (w : ℕ) (o : ObjNo) (c : Cell) → look_object p w o ≡ Some c → slice_get p.cells (address_of w) ≡ Some (Some c)
  free_there w o c q = looked p w c (looked_object p w o c q).0

  few_there : (w : ℕ) → tot (states (n, address_of w)) (partition_things n p) ≤ 1
  few_there w = one_state n s.events s.rest (others k sound number s here) (placed_here k sound number s here) (address_of w)

  moves : (i w : ℕ) (o : ObjNo) (a t : ℕ) → MoveFits see → slice_get s.rest.inbox i ≡ Some (message.Move w o a t) → Gives More (deliver_move w o a t (received i s).work)
  moves i w o a t fits q =
      map_gives More (look_object p w o) _ (λ c l.
      let at = free_there w o c l in
      let r0 : Rest = receive s.rest i in
      let r2 : Rest = record r0 { partition = freed p w } in
      let ti = of_receiving n 0 s.rest i (message.Move w o a t) q in
      let u = of_partition n 0 r0 (freed p w) (frees n p w c at (not_free n p (address_of w) c at (few_there w))) in
      let v = of_sending n 0 r2 refl a (message.Moved w c t) in (
        sent_number r2 a (message.Moved w c t),
        omega (
          arith,
          ti.before f,
          ti.after f,
          u.before f,
          u.after f,
          v.before f,
          v.after f,
          rest_seen see n 0 s.rest,
          rest_seen see n 0 (sent_from r2 a (message.Moved w c t)),
          left_unseen see n p.limit w,
          fits.even (Some n) None c.object c.value,
          fits.answers n a w t o c (looked_object p w o c l).1,
        ),
      ))

  -- what is given up goes in messages
  sent_more : (r : Rest) (target : ℕ) (m : Message) → r.number ≡ n → amount see n r.partition r.inbox r.outbox ≤ amount see n (sent_from r target m).partition (sent_from r target m).inbox (sent_from r target m).outbox
  sent_more r target m e = let t = of_sending n 0 r e target m in omega (arith, t.before f, t.after f, rest_seen see n 0 r, rest_seen see n 0 (sent_from r target m))

  gives : (v : Owned) (x : Work) → More x → More (give_up v x)
  gives (owned.Box b) x g = (sent_number x.rest (server_of b.word) (message.Drop b.word b.object) ∙ g.0, omega (arith, g.1, sent_more x.rest (server_of b.word) (message.Drop b.word b.object) g.0))
  gives (owned.Mutex m) x g = (sent_number x.rest m.home (message.Release (released.Mutex m)) ∙ g.0, omega (arith, g.1, sent_more x.rest m.home (message.Release (released.Mutex m)) g.0))
  gives (owned.Task t) x g = (sent_number x.rest (home_of t) (message.Release (released.Task t)) ∙ g.0, omega (arith, g.1, sent_more x.rest (home_of t) (message.Release (released.Task t)) g.0))
  gives owned.Nothing x g = g
  gives owned.Unit x g = g
  gives (owned.Int m) x g = g

  drops : (i w : ℕ) (o : ObjNo) → DropFits o see → slice_get s.rest.inbox i ≡ Some (message.Drop w o) → Gives More (deliver_drop w o (received i s).work)
  drops i w o fits q =
      map_gives More (look_object p w o) _ (λ c l.
      let at = free_there w o c l in
      let r0 : Rest = receive s.rest i in
      let r2 : Rest = record r0 { partition = freed p w } in
      let ti = of_receiving n 0 s.rest i (message.Drop w o) q in
      let u = of_partition n 0 r0 (freed p w) (frees n p w c at (not_free n p (address_of w) c at (few_there w))) in
      let same : see.cells (Some n) c.object c.value ≡ 0 = subst (λ b. see.cells (Some n) b c.value ≡ 0) (sym (looked_object p w o c l).1) (fits.cell (Some n) c.value) in
      gives c.value _ (
        refl,
        omega (
          arith,
          ti.before f,
          ti.after f,
          u.before f,
          u.after f,
          rest_seen see n 0 s.rest,
          rest_seen see n 0 r2,
          left_unseen see n p.limit w,
          same,
          fits.message_none n w,
        ),
      ))

  -- THE SERVER

  whole : (s2 : Server) → s2.rest.number ≡ n → tot f (server_things s2) ≡ tot f (all_standing n s2.threads) + amount see n s2.rest.partition s2.rest.inbox s2.rest.outbox
  whole s2 e =
      let same : tot f (server_things s2) ≡ tot f (all_standing n s2.threads ++ rest_things n s2.events s2.rest) = subst (λ u. tot f (server_things s2) ≡ tot f (all_standing u s2.threads ++ rest_things u s2.events s2.rest)) e (server_same s2 f) in
      omega (arith, same, tot-append f (all_standing n s2.threads) (rest_things n s2.events s2.rest), rest_seen see n s2.events s2.rest)

  abbrev pub Less : Server × EntryView → Type 0
  Less r = tot f (server_things s) ≤ tot f (server_things r.0)

  beside : (i : ℕ) (g : Work → Option Work) → Gives More (g (received i s).work) → Gives Less (option_map (left_by s.events None None) (beside_threads g (received i s)))
  beside i g h = by (g (received i s).work) h
    where
      by : (o : Option Work) → Gives More o → Gives Less (option_map (left_by s.events None None) (option_map (λ w. record (received i s) { work = w }) o))
      by None h = tt
      by (Some w) h = omega (arith, h.1, whole s refl, whole (left_by s.events None None (record (received i s) { work = w })).0 h.0)

  pub moves_on : (i w : ℕ) (o : ObjNo) (a t : ℕ) → MoveFits see → slice_get s.rest.inbox i ≡ Some (message.Move w o a t) → Gives Less (does k.code k.options s (Deliver i))
  moves_on i w o a t fits q =
      subst (λ m. Gives Less (option_map (left_by s.events None None) (then_some m (λ x. deliver_message k.code x (received i s))))) (sym q) (beside i (deliver_move w o a t) (moves i w o a t fits q))

  pub drops_on : (i w : ℕ) (o : ObjNo) → DropFits o see → slice_get s.rest.inbox i ≡ Some (message.Drop w o) → Gives Less (does k.code k.options s (Deliver i))
  drops_on i w o fits q =
      subst (λ m. Gives Less (option_map (left_by s.events None None) (then_some m (λ x. deliver_message k.code x (received i s))))) (sym q) (beside i (deliver_drop w o) (drops i w o fits q))

-- IN ITS CLUSTER

module _ (k : Cluster) (e : Event) (sound : IsSound k) (few : FewEvents k) (see : Seeing) (go : (s : Server) (here : server_at k.servers e.server ≡ Some s) → Gives (Less k sound e.server s here see) (does k.code k.options s e.what)) where
  abbrev f2 : Thing → ℕ
  f2 x = cell_weight see x

  abbrev Grown : Cluster → Type 0
  Grown c = tot f2 (things_of k) ≤ tot f2 (things_of c)

  acted : Gives (λ (d : Cluster × EntryView). Grown d.0) (act_at k e)
  acted =
      then_gives (λ (d : Cluster × EntryView). Grown d.0) (server_at k.servers e.server) _ (λ s here.
      over_gives (Less k sound e.server s here see) (λ (d : Cluster × EntryView). Grown d.0) (done_at k e.what s) _
      (test_gives (Less k sound e.server s here see) (enabled k.options s e.what) (does k.code k.options s e.what) (λ able. go s here))
      (λ r less. omega (arith, less, (tot-server f2 k.servers e.server s r.0 here).0, (tot-server f2 k.servers e.server s r.0 here).1)))

  grown : Gives (λ (d : Cluster × EntryView). Grown d.0) (apply k e)
  grown = handed_on Grown (λ c a b same g. omega (arith, g, same f2)) k e (each_event_sends k e sound few) acted

-- the message's own server
module _ (k : Cluster) (e : Event) (sound : IsSound k) (few : FewEvents k) (m : Message) (d : Delivers k e m) where
  same_server : (s : Server) → server_at k.servers e.server ≡ Some s → d.server ≡ s
  same_server s here = let it : Some d.server ≡ Some s = sym d.there ∙ here in is it
    where
      is : {a b : Server} → Some a ≡ Some b → a ≡ b
      is e = cc

  pub message_there : (s : Server) → server_at k.servers e.server ≡ Some s → slice_get s.rest.inbox d.place ≡ Some m
  message_there s here = ap (λ (x : Server). slice_get x.rest.inbox d.place) (sym (same_server s here)) ∙ d.message

abbrev Grows : (Seeing → Type 0) → Cluster → Cluster × EntryView → Type 0
Grows Fits k d = (w : (see : Seeing) × Fits see) → tot (cell_weight w.0) (things_of k) ≤ tot (cell_weight w.0) (things_of d.0)

moves_grow : (k : Cluster) (e : Event) (w : ℕ) (o : ObjNo) (a t : ℕ) → Delivers k e (message.Move w o a t) → IsSound k → FewEvents k → Gives (Grows MoveFits k) (apply k e)
moves_grow k e w o a t d sound few =
    all_give (λ (x : (see : Seeing) × MoveFits see) (r : Cluster × EntryView). tot (cell_weight x.0) (things_of k) ≤ tot (cell_weight x.0) (things_of r.0)) (apply k e) (λ x.
    grown k e sound few x.0 (λ s here.
    subst (λ what. Gives (Less k sound e.server s here x.0) (does k.code k.options s what)) (sym d.what) (moves_on k sound e.server s here x.0 d.place w o a t x.1 (message_there k e sound few (message.Move w o a t) d s here))))

drops_grow : (k : Cluster) (e : Event) (w : ℕ) (o : ObjNo) → Delivers k e (message.Drop w o) → IsSound k → FewEvents k → Gives (Grows (DropFits o) k) (apply k e)
drops_grow k e w o d sound few =
    all_give (λ (x : (see : Seeing) × DropFits o see) (r : Cluster × EntryView). tot (cell_weight x.0) (things_of k) ≤ tot (cell_weight x.0) (things_of r.0)) (apply k e) (λ x.
    grown k e sound few x.0 (λ s here.
    subst (λ what. Gives (Less k sound e.server s here x.0) (does k.code k.options s what)) (sym d.what) (drops_on k sound e.server s here x.0 d.place w o x.1 (message_there k e sound few (message.Drop w o) d s here))))

-- WHAT LASTS

abbrev pub None_own : ℕ → Type 0
None_own n = ⊥

abbrev pub None_changed : ObjNo → Type 0
None_changed o = ⊥

abbrev threads_of : (Standing → ℕ) → ℕ → Seeing
threads_of g n = record { cells = λ r o v. 0; messages = λ s m. 0; threads = λ s b u. if_so (u.number == n) (g (record { server = s; packed = b; thread = u })) }

abbrev cells_of : ObjNo → Owned → Seeing
cells_of o v = record { cells = λ r q u. one (same_object q o && same_owned u v); threads = λ s b u. 0; messages = λ s m. 0 }

abbrev asks_of : ℕ → Awaited → Seeing
asks_of n b = record { cells = λ r o v. 0; threads = λ r q u. 0; messages = λ r m. one (asks_for n b m) }

threads_so : (g : Standing → ℕ) (n : ℕ) (x : Thing) → cell_weight (threads_of g n) x ≡ at_thread g n x
threads_so g n (stands s b u) = refl
threads_so g n (lies s a d) = refl
threads_so g n (flies w d) = refl
threads_so g n (sent s m) = refl
threads_so g n _ = refl

cells_so : (o : ObjNo) (v : Owned) (x : Thing) → cell_weight (cells_of o v) x ≡ shows o v x
cells_so o v (stands s b u) = refl
cells_so o v (lies s a d) = refl
cells_so o v (flies w d) = refl
cells_so o v (sent s m) = refl
cells_so o v _ = refl

asks_so : (n : ℕ) (b : Awaited) (x : Thing) → cell_weight (asks_of n b) x ≡ asked_for n b x
asks_so n b (stands s q u) = refl
asks_so n b (lies s a d) = refl
asks_so n b (flies w d) = refl
asks_so n b (sent s m) = refl
asks_so n b _ = refl

weighs : (k c : Cluster) (see : Seeing) (f : Thing → ℕ) → ((x : Thing) → cell_weight see x ≡ f x) → tot (cell_weight see) (things_of k) ≤ tot (cell_weight see) (things_of c) → tot f (things_of k) ≤ tot f (things_of c)
weighs k c see f same l = omega (arith, l, tot_same (cell_weight see) f same (things_of k), tot_same (cell_weight see) f same (things_of c))

move_asks : (n : ℕ) (b : Awaited) (w a t : ℕ) (o : ObjNo) (c : Cell) → c.object ≡ o → one (asks_for n b (message.Move w o a t)) ≤ one (asks_for n b (message.Moved w c t))
move_asks n b w a t o c e =
    let same : asks_for n b (message.Moved w c t) ≡ asks_for n b (message.Move w o a t) = ap (λ q. (t == n && b.comes) && (b.word == w && same_object q b.object)) e in
    let ones : one (asks_for n b (message.Moved w c t)) ≡ one (asks_for n b (message.Move w o a t)) = ap one same in
    omega (arith, ones)

pub moves_last : (k : Cluster) (e : Event) (w : ℕ) (o : ObjNo) (a t : ℕ) → Delivers k e (message.Move w o a t) → IsSound k → FewEvents k → Gives (λ (d : Cluster × EntryView). Lasts k d.0 None_own None_changed) (apply k e)
moves_last k e w o a t d sound few =
    Rattle.law_words_values.proofs.Below.law_counts_sums.Results.weaker (Grows MoveFits k) (λ (r : Cluster × EntryView). Lasts k r.0 None_own None_changed) (apply k e) (moves_grow k e w o a t d sound few) (λ r grows. record {
      threads = λ g n ne. weighs k r.0 (threads_of g n) (at_thread g n) (threads_so g n) (grows (threads_of g n, record { even = λ x y q v. refl; answers = λ m b u v q c f. omega arith }));
      cells = λ q v free. weighs k r.0 (cells_of q v) (shows q v) (cells_so q v) (grows (cells_of q v, record { even = λ x y z u. refl; answers = λ m b u z j c f. omega arith }));
      asked = λ n b. weighs k r.0 (asks_of n b) (asked_for n b) (asks_so n b) (grows (asks_of n b, record { even = λ x y z u. refl; answers = λ m y u z j c f. move_asks n b u y z j c f }));
    })

pub drops_last : (k : Cluster) (e : Event) (w : ℕ) (o : ObjNo) → Delivers k e (message.Drop w o) → IsSound k → FewEvents k → Gives (λ (d : Cluster × EntryView). Lasts k d.0 None_own (λ q. o ≡ q)) (apply k e)
drops_last k e w o d sound few =
    Rattle.law_words_values.proofs.Below.law_counts_sums.Results.weaker (Grows (DropFits o) k) (λ (r : Cluster × EntryView). Lasts k r.0 None_own (λ q. o ≡ q)) (apply k e) (drops_grow k e w o d sound few) (λ r grows. record {
      threads = λ g n ne. weighs k r.0 (threads_of g n) (at_thread g n) (threads_so g n) (grows (threads_of g n, record { cell = λ x v. refl; message_none = λ x y. refl }));
      cells = λ q v free. weighs k r.0 (cells_of q v) (shows q v) (cells_so q v) (grows (cells_of q v, record { cell = λ x u. other q v free u; message_none = λ x y. refl }));
      asked = λ n b. weighs k r.0 (asks_of n b) (asked_for n b) (asks_so n b) (grows (asks_of n b, record { cell = λ x v. refl; message_none = λ x y. refl }));
    })
  where
    other : (q : ObjNo) (v : Owned) → (o ≡ q → ⊥) → (u : Owned) → one (same_object o q && same_owned u v) ≡ 0
    other q v free u = truth_cases (same_object o q) (λ b. one (b && same_owned u v) ≡ 0) (λ e. (let test : IsTest same_object = objects in absurd (free (test.tells o q e)))) (λ e. refl)
