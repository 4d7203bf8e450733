-- Each delivery of a `drop` has a legal entry: words stay, and gifts too, as no place passes the object that goes.
use Rattle.std.proofs.Common.{◌≡◌, ℕ, zero, suc, not, Bool, true, false, List, [], ◌∷◌, Option, Some, None, refl, sym, ap, subst, ◌∙◌, arith}
use Rattle.std.specs.Prelude.{⊤, slice_get}
use Rattle.law_runs_whole.specs.Below.law_words_ends.Below.fr_base.declared.instruction.Instr.{Instr}
use Rattle.law_runs_whole.specs.Below.law_words_ends.Below.fr_base.declared.instruction.Instr.TheVariants as instr
use Rattle.law_runs_whole.specs.Below.law_words_ends.Below.fr_base.declared.name.ObjNo.{ObjNo}
use Rattle.law_runs_whole.specs.Below.law_words_ends.Below.global_addr.Words.{address_of}
use Rattle.law_runs_whole.specs.Below.law_words_ends.Below.heap_partition.Plain.{plain_of}
use Rattle.law_runs_whole.specs.Below.law_words_ends.Below.owner_box.Partition.{freed}
use Rattle.law_runs_whole.specs.Below.law_words_ends.Below.server_msgs.declared.message.Message.{Message}
use Rattle.law_runs_whole.specs.Below.law_words_ends.Below.server_msgs.declared.message.Message.TheVariants as message
use Rattle.law_runs_whole.specs.Below.journal.View.{EntryView}
use Rattle.law_runs_whole.specs.Below.journal.declared.act.Act.TheVariants as act
use Rattle.law_runs_whole.specs.Below.server_model.declared.event.What.{What}
use Rattle.law_runs_whole.specs.Below.server_model.declared.event.What.TheVariants.{Deliver}
use Rattle.law_runs_whole.specs.Below.server_model.Servers.{Rest, Server, Cluster, server_at}
use Rattle.law_runs_whole.specs.Below.server_model.Work.{Work, note, with_partition, look_object, then_some}
use Rattle.law_runs_whole.specs.Below.server_model.Objects.{deliver_drop}
use Rattle.law_runs_whole.specs.Below.server_model.Events.{received, does}
use Rattle.law_runs_whole.specs.Below.server_model.Clusters.{apply}
use Rattle.law_runs_whole.specs.Below.coloured_heap.Heap.{Coloured}
use Rattle.law_runs_whole.specs.Below.coherent_memory.Names.{one, same_object}
use Rattle.law_runs_whole.specs.Below.coherent_memory.Things.{Location, at_slot, at_temp, in_cell, Thing, lies, message_things, server_things, things_of}
use Rattle.law_runs_whole.specs.Below.coherent_memory.Follow.{value_behind, leads, locate}
use Rattle.law_runs_whole.specs.Below.coherent_memory.Sight.{sight}
use Rattle.law_runs_whole.specs.Below.coherent_memory.OneHeap.{object_n}
use Rattle.law_runs_whole.specs.Below.coherent_memory.Colours.{StandsColoured}
use Rattle.law_runs_whole.specs.Below.coherent_memory.Coherent.{IsSound}
use Rattle.law_runs_whole.specs.Below.law_words_ends.Below.coherent_types.ClusterTypes.{IsCoherent}
use Rattle.law_runs_whole.specs.Below.law_counts_sums.Kinds.{drop, kind_at, message_kind, instr_kind}
use Rattle.law_runs_whole.specs.Below.law_counts_sums.Laws.{Gives}
use Rattle.law_runs_whole.proofs.Below.law_counts_sums.Bags.{of_partition}
use Rattle.law_runs_whole.proofs.Below.law_counts_sums.Cells.{looked, frees}
use Rattle.law_runs_whole.proofs.Below.law_counts_sums.ObjectMessages.{looked_object}
use Rattle.law_runs_whole.proofs.Below.law_counts_sums.Results.{map_gives, over_gives, both_give, weaker}
use Rattle.law_entries_writes.specs.Below.law_entries_variables.Below.law_heap_still.events.Shows.{Sign, an_object, sign_of, is_named}
use Rattle.law_runs_whole.proofs.Below.law_words_ends.Below.law_heap_still.events.Addresses.{address_unseen, in_place, lies_alone}
use Rattle.law_runs_whole.proofs.Below.law_words_ends.Below.law_heap_still.events.Alike.{SeenAt, Heeds}
use Rattle.law_runs_whole.proofs.Below.law_words_ends.Below.law_heap_still.events.Back.{gives_up}
use Rattle.law_runs_whole.proofs.Below.law_words_ends.Below.law_heap_still.events.Leaving.{others, placed_here}
use Rattle.law_runs_whole.proofs.Below.law_words_ends.Below.law_heap_still.events.Sites.{Moves, AlikeBy, TakesBy, RestTakesBy, site_takes_by, deliveries_in, leads_by}
use Rattle.law_runs_whole.proofs.Below.law_words_ends.Below.law_heap_still.events.Tests.{objects}
use Rattle.law_runs_whole.specs.Below.law_words_ends.Below.law_words_paths.words.Unmoved.{LeavesWords}
use Rattle.law_runs_whole.proofs.Below.law_words_ends.Below.law_words_values.freed.Drops.{drops_leave, message_there as drop_there}
use Rattle.law_runs_whole.proofs.Below.law_words_ends.Below.law_words_values.freed.Lists.{NoneLeads}
use Rattle.law_runs_whole.proofs.Below.law_words_ends.Below.law_words_values.freed.Unled.{none_leads}
use Rattle.law_entries_writes.proofs.Below.law_entries_variables.deliveries.After.{Keeps}
use Rattle.law_entries_writes.proofs.Below.law_entries_variables.deliveries.Applied.{Led, delivered}
use Rattle.law_entries_writes.proofs.Below.law_entries_variables.deliveries.Changed.{message_there}
use Rattle.law_entries_writes.proofs.Below.law_entries_variables.deliveries.Shown.{dropped_by}
use Rattle.law_entries_writes.specs.Below.law_entries_reads.served.Served.{CoherentEntriesLegal}
use Rattle.law_entries_writes.proofs.Below.law_entries_reads.served.CoherentLegal.{KindKeeps, coherent_legal}
use Rattle.law_entries_events.proofs.objects.Delivered.{DeliveryOf, delivery_of}
use Rattle.law_entries_events.proofs.objects.Frees.{drop_legal}
use Rattle.law_entries_events.proofs.objects.Gifts.{GiftsKept, gifts_kept}
use Rattle.law_entries_events.proofs.objects.Owned.{dropped_unnamed}

-- all objects but that one
abbrev but : ObjNo → ObjNo → Bool
but o p = not (same_object p o)

but_that : (o p : ObjNo) → but o p ≡ false → p ≡ o
but_that o p e = by (same_object p o) refl e
  where
    by : (b : Bool) → same_object p o ≡ b → not b ≡ false → p ≡ o
    by true f g = objects.tells p o f
    by false f g = absurd (cc g)

module _ (k : Cluster) (coherent : IsCoherent k) (number : ℕ) (s : Server) (here : server_at k.servers number ≡ Some s) (i w : ℕ) (o : ObjNo) (q : slice_get s.rest.inbox i ≡ Some (message.Drop w o)) where
  abbrev sound : IsSound k
  sound = coherent.sound

  abbrev Class : (Sign → ℕ) → Type 0
  Class v = Heeds (but o) (sight k) v

  -- NO PLACE PASSES IT

  none : NoneLeads k o
  none = let m = drop_there k sound number s here i w o q in none_leads k coherent o m.0 m.1 m.2

  never : (t slot n : ℕ) → locate (sight k).ground t slot n ≡ Some (in_cell o) → ⊥
  never t slot zero e = cc e
  never t slot (suc n) e = by (locate (sight k).ground t slot n) e
    where
      by : (l : Option Location) → leads t (value_behind (sight k).ground l) ≡ Some (in_cell o) → ⊥
      by None f = cc f
      by (Some x) f = none t x f

  passes : (t slot n : ℕ) → SeenAt (but o) (locate (sight k).ground t slot n)
  passes t slot n = by (locate (sight k).ground t slot n) refl
    where
      seen : (p : ObjNo) → locate (sight k).ground t slot n ≡ Some (in_cell p) → (b : Bool) → same_object p o ≡ b → not b ≡ true
      seen p e true f = absurd (never t slot n (subst (λ z. locate (sight k).ground t slot n ≡ Some (in_cell z)) (objects.tells p o f) e))
      seen p e false f = refl

      by : (l : Option Location) → locate (sight k).ground t slot n ≡ l → SeenAt (but o) l
      by None e = tt
      by (Some (at_slot u j)) e = tt
      by (Some (at_temp u j)) e = tt
      by (Some (in_cell p)) e = seen p e (same_object p o) refl

  covers : (p : ObjNo) → but o p ≡ false → is_named (sight k) (object_n p) ≡ false
  covers p e =
      let mine : one (same_object o o) ≡ 1 = ap one (objects.itself o) in
      subst (λ z. is_named (sight k) (object_n z) ≡ false) (sym (but_that o p e)) (dropped_unnamed k sound o (omega (arith, mine, message_there k number s here i (message.Drop w o) q (dropped_by o))))

  -- ALL ELSE SHOWS WHAT IT SHOWED

  abbrev came : List Thing
  came = message_things s.rest.number (message.Drop w o)

  abbrev w0 : Work
  w0 = (received i s).work

  goes : Gives (λ (y : Work). RestTakesBy Class came w0.rest y.rest) (deliver_drop w o w0)
  goes =
      map_gives (λ (y : Work). RestTakesBy Class came w0.rest y.rest) (look_object s.rest.partition w o) _ (λ c e.
      let n = s.rest.number in
      let p = s.rest.partition in
      let hand : List Thing = lies n (address_of w) c ∷ [] in
      let found = looked_object p w o c e in
      let at : slice_get p.cells (address_of w) ≡ Some (Some c) = looked p w c found.0 in
      let free = lies_alone n p (in_place n s.events s.rest (others k sound number s here) (placed_here k sound number s here)) (address_of w) c at in
      let u = of_partition n 0 w0.rest (freed p w) (frees n p w c at free) in
      let r2 : Rest = record w0.rest { partition = freed p w } in
      let left : Moves came hand w0.rest r2 = record {
        number = refl;
        alike = λ v z. (let g : Thing → ℕ = λ y. v (sign_of y) in omega (arith, z, u.before g, u.after g, address_unseen v z n p.limit w));
      } in record {
        gone = came;
        hand = hand;
        moves = gives_up came hand w0.rest c.value (note (act.Free o w) (with_partition (freed p w) w0)) left;
        counts = λ v z heeds. (let unseen : v (an_object c.object (plain_of c.value)) ≡ 0 = heeds.1 c.object (plain_of c.value) (ap (but o) found.1 ∙ ap not (objects.itself o)) in omega (arith, unseen));
      })

  pub shows : Gives (λ r. ⊤ → AlikeBy Class (server_things s) (server_things r.0)) (does k.code k.options s (Deliver i))
  shows =
      weaker (λ r. AlikeBy Class (server_things s) (server_things r.0)) (λ r. ⊤ → AlikeBy Class (server_things s) (server_things r.0)) (does k.code k.options s (Deliver i))
      (deliveries_in Class k s i (message.Drop w o) q
      (over_gives (λ (y : Work). RestTakesBy Class came w0.rest y.rest) (TakesBy Class came (received i s)) (deliver_drop w o w0) (λ y. record (received i s) { work = y }) goes (λ y t. site_takes_by Class came (received i s) y t))) (λ r u sort. u)

  pub keeps_gifts : (d : Cluster) → d.code ≡ k.code → AlikeBy Class (things_of k) (things_of d) → GiftsKept k d
  keeps_gifts d code alike = gifts_kept k d sound code (but o) covers passes alike

-- THE KIND

is_drop : (m : Message) → message_kind m ≡ drop → (w : ℕ) × (o : ObjNo) × (m ≡ message.Drop w o)
is_drop (message.Drop w o) e = (w, o, refl)
is_drop (message.Fetch w o a t) e = absurd (cc e)
is_drop _ e = absurd (cc e)

no_step : (i : Instr) → instr_kind i ≡ drop → ⊥
no_step (instr.Let o) e = cc e
no_step _ e = cc e

-- which message it is
pub record DropHere (s : Server) (w : What) : Type 0 where
  pub place : ℕ
  pub what : w ≡ Deliver place
  pub word : ℕ
  pub object : ObjNo
  pub waits : slice_get s.rest.inbox place ≡ Some (message.Drop word object)

drop_as : (s : Server) (w : What) (d : DeliveryOf s drop w) (u : ℕ) (o : ObjNo) → d.message ≡ message.Drop u o → DropHere s w
drop_as s w d u o e = record { place = d.place; what = d.what; word = u; object = o; waits = d.waits ∙ ap (λ z. Some z) e }

drop_here : (k : Cluster) (s : Server) (w : What) → kind_at k w s ≡ Some drop → DropHere s w
drop_here k s w q = let d = delivery_of k s drop no_step (λ e. cc e) (λ e. cc e) w q in let m = is_drop d.message d.sort in drop_as s w d m.0 m.1 m.2

drops_keep : KindKeeps drop
drops_keep k e q coherent few = by (server_at k.servers e.server) refl
  where
    Kept : Cluster × EntryView → Type 0
    Kept d = Keeps k d.0

    at : (s : Server) → server_at k.servers e.server ≡ Some s → DropHere s e.what → Gives Kept (apply k e)
    at s here d =
        both_give (λ (z : Cluster × EntryView). LeavesWords k z.0) (λ (z : Cluster × EntryView). ⊤ → GiftsKept k z.0) Kept (apply k e)
        (drops_leave k e d.word d.object (record { place = d.place; what = d.what; server = s; there = here; message = d.waits }) coherent few)
        (leads_by (λ r. ⊤) (λ v. Heeds (but d.object) (sight k) v) (GiftsKept k) k e coherent.sound few (λ z code alike. keeps_gifts k coherent e.server s here d.place d.word d.object d.waits z code alike)
        (λ s2 here2 on. subst (λ v. Gives (λ r. ⊤ → AlikeBy (λ u. Heeds (but d.object) (sight k) u) (server_things v) (server_things r.0)) (does k.code k.options v e.what)) (same_server (sym here ∙ here2))
        (subst (λ v. Gives (λ r. ⊤ → AlikeBy (λ u. Heeds (but d.object) (sight k) u) (server_things s) (server_things r.0)) (does k.code k.options s v)) (sym d.what) (shows k coherent e.server s here d.place d.word d.object d.waits))))
        (λ z words gifts. record { words = words.words; gifts = gifts tt })
      where
        same_server : {a b : Server} → Some a ≡ Some b → a ≡ b
        same_server f = cc

    by : (r : Option Server) → server_at k.servers e.server ≡ r → Gives Kept (apply k e)
    by None here = let none : then_some None (kind_at k e.what) ≡ Some drop = subst (λ r. then_some r (kind_at k e.what) ≡ Some drop) here q in absurd (cc none)
    by (Some s) here = at s here (drop_here k s e.what (subst (λ r. then_some r (kind_at k e.what) ≡ Some drop) here q))

pub drops_legal : CoherentEntriesLegal drop
drops_legal = coherent_legal drop drops_keep (λ k number s w c0 coherent few here q is_coloured. led k number s w c0 coherent here is_coloured (drop_here k s w q))
  where
    led : (k : Cluster) (number : ℕ) (s : Server) (w : What) (c0 : Coloured) → IsCoherent k → server_at k.servers number ≡ Some s → StandsColoured k c0 → DropHere s w → Gives (Led k s c0) (does k.code k.options s w)
    led k number s w c0 coherent here is_coloured d =
        subst (λ v. Gives (Led k s c0) (does k.code k.options s v)) (sym d.what)
        (delivered k s d.place (message.Drop d.word d.object) c0 d.waits (drop_legal k coherent.sound number s here c0 is_coloured d.place d.word d.object d.waits))
