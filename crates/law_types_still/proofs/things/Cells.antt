-- An event that does no plain step leaves cells in agreement with the types of their objects: each is as it was but for words, or is gone.
use Rattle.std.proofs.Common.{◌≡◌, ℕ, true, List, [], ◌∷◌, Option, Some, None, refl, sym, subst, ◌∙◌, arith}
use Rattle.std.specs.Prelude.{slice_get, option_map}
use Rattle.law_counts_things.specs.Below.fr_base.declared.name.ObjNo.{ObjNo}
use Rattle.law_counts_things.specs.Below.fr_typing.Kinds.{Owned as OwnedType, own}
use Rattle.law_counts_things.specs.Below.global_addr.Words.{address_of}
use Rattle.law_counts_things.specs.Below.heap_partition.Plain.{plain_of}
use Rattle.law_counts_things.specs.Below.heap_partition.declared.value.Owned.{Owned}
use Rattle.law_counts_things.specs.Below.heap_partition.declared.value.Owned.TheVariants as owned
use Rattle.law_counts_things.specs.Below.owner_box.Partition.{freed}
use Rattle.law_counts_things.specs.Below.thread_state.declared.value.Value.TheVariants as value
use Rattle.law_counts_things.specs.Below.server_msgs.declared.message.Message.{Message}
use Rattle.law_counts_things.specs.Below.server_msgs.declared.message.Message.TheVariants as message
use Rattle.law_counts_things.specs.Below.journal.declared.act.Act.TheVariants as act
use Rattle.law_counts_things.specs.Below.journal.View.{EntryView}
use Rattle.law_counts_things.specs.Below.server_model.declared.event.What.{What}
use Rattle.law_counts_things.specs.Below.server_model.declared.event.What.TheVariants.{Step, Deliver, Evict, Migrate}
use Rattle.law_counts_things.specs.Below.server_model.Servers.{Rest, Server, Cluster, server_at}
use Rattle.law_counts_things.specs.Below.server_model.Work.{Work, then_some, note, with_partition, look_object}
use Rattle.law_counts_things.specs.Below.server_model.Objects.{deliver_drop}
use Rattle.law_counts_things.specs.Below.server_model.Events.{enabled, deliver_message, received, left_by, does}
use Rattle.law_counts_things.specs.Below.coherent_memory.Names.{tot, other}
use Rattle.law_counts_things.specs.Below.coherent_memory.Things.{Thing, lies, flies, noted, message_things, server_things}
use Rattle.law_counts_things.specs.Below.coherent_memory.Sight.{sight}
use Rattle.law_counts_things.specs.Below.coherent_memory.Coherent.{IsSound}
use Rattle.law_counts_things.specs.Below.law_counts_sums.Laws.{Gives}
use Rattle.law_counts_things.proofs.Below.law_counts_sums.Trades.{tot-append}
use Rattle.law_counts_things.proofs.Below.law_counts_sums.Results.{map_gives, over_gives, weaker}
use Rattle.law_counts_things.proofs.Below.law_counts_sums.Bags.{all_standing, rest_things, of_partition, of_receiving}
use Rattle.law_counts_things.proofs.Below.law_counts_sums.Cells.{looked, frees}
use Rattle.law_counts_things.proofs.Below.law_counts_sums.ObjectMessages.{looked_object}
use Rattle.law_counts_things.specs.Below.coherent_types.Names.{NameTypes, fits}
use Rattle.law_counts_things.specs.Below.coherent_types.ClusterTypes.{misfit}
use Rattle.law_types_still.specs.Below.law_heap_still.events.Shows.{Sign, an_object, sign_of}
use Rattle.law_types_still.proofs.Below.law_heap_still.events.Told.{tot_same}
use Rattle.law_types_still.proofs.Below.law_heap_still.events.PlainValues.{unnoted}
use Rattle.law_types_still.proofs.Below.law_heap_still.events.Counting.{no_values}
use Rattle.law_types_still.proofs.Below.law_heap_still.events.Sites.{shown, begins, Moves, AlikeBy, ServerStill, TakesBy, RestTakesBy, site_takes_by, deliveries_in}
use Rattle.law_types_still.proofs.Below.law_heap_still.events.Addresses.{address_unseen, in_place, lies_alone}
use Rattle.law_types_still.proofs.Below.law_heap_still.events.Leaving.{others, placed_here}
use Rattle.law_types_still.proofs.Below.law_heap_still.events.Back.{gives_up}
use Rattle.law_types_still.proofs.Below.law_heap_still.events.StillKinds.{message_still}
use Rattle.law_types_still.proofs.Below.law_heap_still.events.Evictions.{evictions}
use Rattle.law_types_still.proofs.Below.law_heap_still.events.Arrivals.{migrations}
use Rattle.law_types_still.proofs.Below.law_heap_still.events.Undone.{steps}
use Rattle.law_types_still.proofs.threads.Bare.{bare_owned, temps_bare}

-- WHAT A CELL SHOWS

abbrev pub cell_misfit : NameTypes → Thing → ℕ
cell_misfit n (lies s a c) = misfit n (lies s a c)
cell_misfit n (flies w c) = misfit n (flies w c)
cell_misfit n x = 0

abbrev cell_sign : NameTypes → Sign → ℕ
cell_sign n (an_object o v) = other (fits n (n.object o) (bare_owned v))
cell_sign n x = 0

-- types don't see words
fits_alike : (n : NameTypes) (o : OwnedType) (v : Owned) → other (fits n o v) ≡ other (fits n o (bare_owned (plain_of v)))
fits_alike n o owned.Nothing = refl
fits_alike n o owned.Unit = refl
fits_alike n o (owned.Int i) = refl
fits_alike n o (owned.Box p) = omega (arith, temps_bare n (own o ∷ []) (value.Own (owned.Box p) ∷ []))
fits_alike n o (owned.Mutex m) = refl
fits_alike n o (owned.Task t) = refl

-- so a cell misfits as what it shows
cell_shown : (n : NameTypes) (x : Thing) → cell_misfit n x ≡ cell_sign n (sign_of x)
cell_shown n (lies s a c) = fits_alike n (n.object c.object) c.value
cell_shown n (flies w c) = fits_alike n (n.object c.object) c.value
cell_shown n (noted r x) = unnoted (cell_sign n) refl (λ t d. refl) x.thread x.state
cell_shown n _ = refl

cells_shown : (n : NameTypes) (b : List Thing) → tot (cell_misfit n) b ≡ shown (cell_sign n) b
cells_shown n b = tot_same (cell_misfit n) (λ x. cell_sign n (sign_of x)) (cell_shown n) b

-- AN OBJECT GOES

-- weights of which there was nothing at the server: the object that goes has none
module _ (k : Cluster) (sound : IsSound k) (number : ℕ) (s : Server) (here : server_at k.servers number ≡ Some s) (i w : ℕ) (o : ObjNo) (q : slice_get s.rest.inbox i ≡ Some (message.Drop w o)) where
  abbrev None_of : (Sign → ℕ) → Type 0
  None_of v = shown v (server_things s) ≡ 0

  abbrev came : List Thing
  came = message_things s.rest.number (message.Drop w o)

  abbrev w0 : Work
  w0 = (received i s).work

  goes : Gives (λ (y : Work). RestTakesBy None_of came w0.rest y.rest) (deliver_drop w o w0)
  goes =
      map_gives (λ (y : Work). RestTakesBy None_of came w0.rest y.rest) (look_object s.rest.partition w o) _ (λ c e.
      let n = s.rest.number in
      let p = s.rest.partition in
      let hand : List Thing = lies n (address_of w) c ∷ [] in
      let found = looked_object p w o c e in
      let at : slice_get p.cells (address_of w) ≡ Some (Some c) = looked p w c found.0 in
      let free = lies_alone n p (in_place n s.events s.rest (others k sound number s here) (placed_here k sound number s here)) (address_of w) c at in
      let u = of_partition n 0 w0.rest (freed p w) (frees n p w c at free) in
      let r2 : Rest = record w0.rest { partition = freed p w } in
      let left : Moves came hand w0.rest r2 = record {
        number = refl;
        alike = λ v z. (let g : Thing → ℕ = λ y. v (sign_of y) in omega (arith, z, u.before g, u.after g, address_unseen v z n p.limit w));
      } in record {
        gone = came;
        hand = hand;
        moves = gives_up came hand w0.rest c.value (note (act.Free o w) (with_partition (freed p w) w0)) left;
        counts = λ v z none.
            let g : Thing → ℕ = λ y. v (sign_of y) in
            let t = of_receiving n 0 s.rest i (message.Drop w o) q in
            let unseen : v (an_object c.object (plain_of c.value)) ≡ 0 =
            omega (arith, none, begins s v z, tot-append g (all_standing n s.threads) (rest_things n 0 s.rest), t.before g, t.after g, u.before g) in
            omega (arith, unseen);
      })

  objects_go : Gives (λ r. AlikeBy None_of (server_things s) (server_things r.0)) (does k.code k.options s (Deliver i))
  objects_go =
      deliveries_in None_of k s i (message.Drop w o) q
      (over_gives (λ (y : Work). RestTakesBy None_of came w0.rest y.rest) (TakesBy None_of came (received i s)) (deliver_drop w o w0) (λ y. record (received i s) { work = y }) goes (λ y t. site_takes_by None_of came (received i s) y t))

-- EACH EVENT

module _ (n : NameTypes) (k : Cluster) (sound : IsSound k) (number : ℕ) (s : Server) (here : server_at k.servers number ≡ Some s) (none : tot (cell_misfit n) (server_things s) ≡ 0) where
  abbrev Agree : Server × EntryView → Type 0
  Agree r = tot (cell_misfit n) (server_things r.0) ≡ 0

  -- what cells show is the same
  agree_by : (r : Server × EntryView) → shown (cell_sign n) (server_things s) ≡ shown (cell_sign n) (server_things r.0) → Agree r
  agree_by r e = cells_shown n (server_things r.0) ∙ sym e ∙ sym (cells_shown n (server_things s)) ∙ none

  -- what counts of a cell is whatever it is
  still : (r : Server × EntryView) → ServerStill k s r → Agree r
  still r u = agree_by r (u (cell_sign n) refl (no_values (sight k) (cell_sign n) (λ p v. refl) (λ t d. refl) (λ y. refl)))

  stays : (o : Option (Server × EntryView)) → Gives (ServerStill k s) o → Gives Agree o
  stays o g = weaker (ServerStill k s) Agree o g still

  message_agrees : (i : ℕ) (m : Message) → slice_get s.rest.inbox i ≡ Some m → Gives Agree (does k.code k.options s (Deliver i))
  message_agrees i (message.Drop w o) q =
      weaker (λ r. AlikeBy (None_of k sound number s here i w o q) (server_things s) (server_things r.0)) Agree (does k.code k.options s (Deliver i)) (objects_go k sound number s here i w o q)
      (λ r u. agree_by r (u (cell_sign n) refl (sym (cells_shown n (server_things s)) ∙ none)))
  message_agrees i (message.Fetch w o a t) q = stays _ (message_still k sound number s here i (message.Fetch w o a t) q tt)
  message_agrees i (message.Fetched w c t) q = stays _ (message_still k sound number s here i (message.Fetched w c t) q tt)
  message_agrees i (message.Move w o a t) q = stays _ (message_still k sound number s here i (message.Move w o a t) q tt)
  message_agrees i (message.Moved w c t) q = stays _ (message_still k sound number s here i (message.Moved w c t) q tt)
  message_agrees i (message.Lock m a t) q = stays _ (message_still k sound number s here i (message.Lock m a t) q tt)
  message_agrees i (message.Granted m v t) q = stays _ (message_still k sound number s here i (message.Granted m v t) q tt)
  message_agrees i (message.Unlock m v) q = stays _ (message_still k sound number s here i (message.Unlock m v) q tt)
  message_agrees i (message.Dup m a t) q = stays _ (message_still k sound number s here i (message.Dup m a t) q tt)
  message_agrees i (message.Dupped m t) q = stays _ (message_still k sound number s here i (message.Dupped m t) q tt)
  message_agrees i (message.Release r) q = stays _ (message_still k sound number s here i (message.Release r) q tt)
  message_agrees i (message.Start t) q = stays _ (message_still k sound number s here i (message.Start t) q tt)
  message_agrees i (message.Migrate t) q = stays _ (message_still k sound number s here i (message.Migrate t) q tt)
  message_agrees i (message.Join u a t) q = stays _ (message_still k sound number s here i (message.Join u a t) q tt)
  message_agrees i (message.Joined u v t) q = stays _ (message_still k sound number s here i (message.Joined u v t) q tt)
  message_agrees i (message.Finished u v) q = stays _ (message_still k sound number s here i (message.Finished u v) q tt)

  delivered : (i : ℕ) (o : Option Message) → slice_get s.rest.inbox i ≡ o → Gives Agree (does k.code k.options s (Deliver i))
  delivered i None q = subst (λ o. Gives Agree (option_map (left_by s.events None None) (then_some o (λ m. deliver_message k.code m (received i s))))) (sym q) tt
  delivered i (Some m) q = message_agrees i m q

  abbrev Undone : Server × EntryView → Type 0
  Undone r = r.1.done ≡ None → Agree r

  pub cells_agree : (e : What) → enabled k.options s e ≡ true → Gives Undone (does k.code k.options s e)
  cells_agree (Step t) on = weaker (λ (r : Server × EntryView). r.1.done ≡ None → ServerStill k s r) Undone (does k.code k.options s (Step t)) (steps k sound number s here t on) (λ r u z. still r (u z))
  cells_agree (Deliver i) on = weaker Agree Undone (does k.code k.options s (Deliver i)) (delivered i (slice_get s.rest.inbox i) refl) (λ r u z. u)
  cells_agree (Evict c) on = weaker Agree Undone (does k.code k.options s (Evict c)) (stays _ (evictions k s c)) (λ r u z. u)
  cells_agree (Migrate t target) on = weaker Agree Undone (does k.code k.options s (Migrate t target)) (stays _ (migrations k s t target)) (λ r u z. u)
