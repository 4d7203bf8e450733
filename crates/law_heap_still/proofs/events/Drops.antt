-- An object that goes is one that nothing names: its one owner is the message. Where the places of locks pass named objects alone it leaves the one heap as it was.
use Rattle.std.proofs.Common.{◌≡◌, ℕ, ◌+◌, ◌≤◌, Bool, false, List, [], ◌∷◌, Some, refl, ap, ◌∙◌, arith}
use Rattle.std.specs.Prelude.{slice_get}
use Rattle.law_counts_sums.specs.Below.fr_base.declared.name.ObjNo.{ObjNo}
use Rattle.law_counts_sums.proofs.Below.fr_store.Keys.{object_cases}
use Rattle.law_counts_sums.specs.Below.global_addr.Words.{address_of}
use Rattle.law_counts_sums.specs.Below.heap_partition.Plain.{plain_of}
use Rattle.law_counts_sums.specs.Below.heap_partition.declared.value.Owned.{Owned}
use Rattle.law_counts_sums.specs.Below.heap_partition.declared.value.Owned.TheVariants as owned
use Rattle.law_counts_sums.specs.Below.owner_box.Partition.{freed}
use Rattle.law_counts_sums.specs.Below.server_msgs.declared.message.Message.TheVariants as message
use Rattle.law_counts_sums.specs.Below.journal.declared.act.Act.TheVariants as act
use Rattle.law_counts_sums.specs.Below.server_model.declared.event.What.TheVariants.{Deliver}
use Rattle.law_counts_sums.specs.Below.server_model.Servers.{Rest, Server, Cluster, server_at}
use Rattle.law_counts_sums.specs.Below.server_model.Work.{Work, note, with_partition, look_object}
use Rattle.law_counts_sums.specs.Below.server_model.Objects.{deliver_drop}
use Rattle.law_counts_sums.specs.Below.server_model.Events.{received, does}
use Rattle.law_counts_sums.specs.Below.coherent_memory.Names.{tot, one, some, boxes}
use Rattle.law_counts_sums.specs.Below.coherent_memory.Things.{Thing, holds, lies, flies, sent, message_things, server_things, things_of}
use Rattle.law_counts_sums.specs.Below.coherent_memory.Weights.{drops, owners}
use Rattle.law_counts_sums.specs.Below.coherent_memory.Sight.{sight}
use Rattle.law_counts_sums.specs.Below.coherent_memory.OneHeap.{object_n, owns, names}
use Rattle.law_counts_sums.specs.Below.coherent_memory.Coherent.{IsSound}
use Rattle.law_counts_sums.specs.Laws.{Gives}
use Rattle.law_counts_sums.proofs.Results.{map_gives, over_gives}
use Rattle.law_counts_sums.proofs.Bags.{of_partition}
use Rattle.law_counts_sums.proofs.Cells.{looked, frees}
use Rattle.law_counts_sums.proofs.MutexResults.{has}
use Rattle.law_counts_sums.proofs.ObjectMessages.{looked_object}
use Rattle.law_heap_still.specs.events.Shows.{Sign, an_object, sign_of, is_named}
use Rattle.law_heap_still.proofs.events.Sites.{Moves, AlikeBy, TakesBy, RestTakesBy, site_takes_by, deliveries_in}
use Rattle.law_heap_still.proofs.events.Alike.{Heeds}
use Rattle.law_heap_still.proofs.events.Addresses.{address_unseen, in_place, lies_alone}
use Rattle.law_heap_still.proofs.events.Leaving.{others, placed_here}
use Rattle.law_heap_still.proofs.events.Unnamed.{two_at_most}
use Rattle.law_heap_still.proofs.events.Back.{gives_up}

-- the objects that something names
abbrev pub named : Cluster → ObjNo → Bool
named k o = is_named (sight k) (object_n o)

module _ (o : ObjNo) where
  abbrev names_object : Thing → ℕ
  names_object x = one (names (object_n o) x)

  abbrev dropped : Thing → ℕ
  dropped (sent r m) = drops o m
  dropped x = 0

  object_owned : (v : Owned) → one (owns (object_n o) v) ≤ boxes o v
  object_owned (owned.Box p) = omega arith
  object_owned owned.Nothing = omega arith
  object_owned owned.Unit = omega arith
  object_owned (owned.Int i) = omega arith
  object_owned (owned.Mutex m) = omega arith
  object_owned (owned.Task t) = omega arith

  owned_or_dropped : (x : Thing) → names_object x + dropped x ≤ owners o x
  owned_or_dropped (holds p v) = omega (arith, object_owned v)
  owned_or_dropped (lies r a c) = omega (arith, object_owned c.value)
  owned_or_dropped (flies w c) = omega (arith, object_owned c.value)
  owned_or_dropped (sent r m) = omega arith
  owned_or_dropped _ = omega arith

module _ (k : Cluster) (sound : IsSound k) (number : ℕ) (s : Server) (here : server_at k.servers number ≡ Some s) (i w : ℕ) (o : ObjNo) (q : slice_get s.rest.inbox i ≡ Some (message.Drop w o)) where
  unnamed : named k o ≡ false
  unnamed =
      let a = things_of k in
      let mine : dropped o (sent s.rest.number (message.Drop w o)) ≡ 1 = object_cases (λ b. one b ≡ 1) o o (λ e. refl) (λ ne. absurd (ne refl)) in
      let none : tot (names_object o) a ≡ 0 = omega (arith, mine, has k sound number s here i (message.Drop w o) q (dropped o), two_at_most (names_object o) (dropped o) (owners o) (owned_or_dropped o) a, sound.one_owner.owner_of_each o, sound.one_home.home_of_each o) in
      ap some none

  abbrev Class : (Sign → ℕ) → Type 0
  Class v = Heeds (named k) (sight k) v

  abbrev came : List Thing
  came = message_things s.rest.number (message.Drop w o)

  abbrev w0 : Work
  w0 = (received i s).work

  goes : Gives (λ (y : Work). RestTakesBy Class came w0.rest y.rest) (deliver_drop w o w0)
  goes =
      map_gives (λ (y : Work). RestTakesBy Class came w0.rest y.rest) (look_object s.rest.partition w o) _ (λ c e.
      let n = s.rest.number in
      let p = s.rest.partition in
      let hand : List Thing = lies n (address_of w) c ∷ [] in
      let found = looked_object p w o c e in
      let at : slice_get p.cells (address_of w) ≡ Some (Some c) = looked p w c found.0 in
      let free = lies_alone n p (in_place n s.events s.rest (others k sound number s here) (placed_here k sound number s here)) (address_of w) c at in
      let u = of_partition n 0 w0.rest (freed p w) (frees n p w c at free) in
      let r2 : Rest = record w0.rest { partition = freed p w } in
      let left : Moves came hand w0.rest r2 = record {
        number = refl;
        alike = λ v z. (let g : Thing → ℕ = λ y. v (sign_of y) in omega (arith, z, u.before g, u.after g, address_unseen v z n p.limit w));
      } in record {
        gone = came;
        hand = hand;
        moves = gives_up came hand w0.rest c.value (note (act.Free o w) (with_partition (freed p w) w0)) left;
        counts = λ v z heeds. (let unseen : v (an_object c.object (plain_of c.value)) ≡ 0 = heeds.1 c.object (plain_of c.value) (ap (named k) found.1 ∙ unnamed) in omega (arith, unseen));
      })

  pub objects_go : Gives (λ r. AlikeBy Class (server_things s) (server_things r.0)) (does k.code k.options s (Deliver i))
  objects_go =
      deliveries_in Class k s i (message.Drop w o) q
      (over_gives (λ (y : Work). RestTakesBy Class came w0.rest y.rest) (TakesBy Class came (received i s)) (deliver_drop w o w0) (λ y. record (received i s) { work = y }) goes (λ y t. site_takes_by Class came (received i s) y t))
