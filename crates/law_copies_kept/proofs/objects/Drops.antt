-- Copies are right after the delivery of a `drop`: no place leads to the object that goes, so nobody has asked for a copy of it.
use Rattle.std.proofs.Common.{◌≡◌, ℕ, List, [], ◌∷◌, ◌++◌, Option, Some, None, option_map, refl, sym, ap, subst, arith, ◌∙◌, inl, inr, ⊎_elim}
use Rattle.std.specs.Prelude.{slice_get, length, take, drop as drop_first}
use Rattle.law_copies_kept.specs.Below.fr_base.declared.name.ObjNo.{ObjNo}
use Rattle.law_copies_kept.specs.Below.heap_partition.declared.value.Cell.{Cell}
use Rattle.law_copies_kept.specs.Below.journal.View.{EntryView}
use Rattle.law_copies_kept.specs.Below.server_msgs.declared.message.Message.TheVariants as message
use Rattle.law_copies_kept.specs.Below.server_model.declared.event.Event.{Event}
use Rattle.law_copies_kept.specs.Below.server_model.declared.event.What.TheVariants.{Deliver}
use Rattle.law_copies_kept.specs.Below.server_model.Servers.{Server, Cluster, server_at}
use Rattle.law_copies_kept.specs.Below.server_model.Work.{then_some}
use Rattle.law_copies_kept.specs.Below.server_model.Events.{enabled, does}
use Rattle.law_copies_kept.specs.Below.server_model.Clusters.{with_server, hand_over_newer, done_at, apply}
use Rattle.law_copies_kept.specs.Below.coherent_memory.Names.{Among, tot}
use Rattle.law_copies_kept.specs.Below.coherent_memory.Things.{Thing, holds, in_hand, lies, sent, server_things, servers_things, things_of}
use Rattle.law_copies_kept.specs.Below.coherent_memory.Coherent.{IsSound}
use Rattle.law_copies_kept.specs.Below.coherent_memory.Weights.{cells}
use Rattle.law_copies_kept.specs.Below.coherent_types.ClusterTypes.{IsCoherent}
use Rattle.law_words_borrows.specs.Below.law_words_paths.words.Reworded.{HasPlaces}
use Rattle.law_words_borrows.specs.Below.law_words_paths.words.Unmoved.{LeavesWords}
use Rattle.law_copies_kept.specs.Below.law_counts_sums.Laws.{Gives, GoTo, FewEvents}
use Rattle.law_copies_kept.proofs.Below.law_counts_sums.Results.{test_gives, both_give}
use Rattle.law_copies_kept.proofs.Below.law_counts_sums.Events.{tot-server}
use Rattle.law_copies_kept.proofs.Below.law_counts_sums.Applied.{go_with}
use Rattle.law_copies_kept.proofs.Below.law_counts_sums.Sending.{each_event_sends}
use Rattle.law_words_borrows.proofs.Below.law_words_kept.stays.Alike.{Alike, itself, turned as turned_round, chain}
use Rattle.law_words_borrows.proofs.Below.law_words_kept.stays.Sites.{servers_alike, replaced, handed_over}
use Rattle.law_words_borrows.proofs.Below.law_words_values.carried.Hands.{rooted}
use Rattle.law_words_borrows.proofs.Below.law_words_values.freed.Going.{freed_leaves}
use Rattle.law_words_borrows.proofs.Below.law_words_values.freed.Lists.{NoneLeads, is_freed}
use Rattle.law_words_borrows.proofs.Below.law_words_values.freed.Unled.{none_leads}
use Rattle.law_copies_kept.specs.Below.coherent_memory.Follow.{cells_in}
use Rattle.law_copies_kept.specs.Below.coherent_memory.Sight.{sight}
use Rattle.law_copies_kept.specs.Below.coherent_memory.Words.{HasWords}
use Rattle.law_copies_kept.proofs.Below.coherent_memory.Words.{none_at}
use Rattle.law_copies_kept.specs.Below.law_words_paths.paths.HeapStore.{HasPaths}
use Rattle.law_copies_kept.proofs.Below.law_words_paths.paths.Alike.{coherent_has_paths}
use Rattle.law_words_borrows.proofs.Below.law_words_values.made.Unnamed.{cell_weighs}
use Rattle.law_words_borrows.specs.Below.law_words_values.freed.Freed.{Freed}
use Rattle.law_words_borrows.proofs.Below.law_words_values.freed.Drops.{Goes, server_goes, message_there}
use Rattle.law_copies_kept.proofs.copies.Clean.{cell_thing, cells_on}
use Rattle.law_copies_kept.proofs.references.Kept.{places_before, places_after}
use Rattle.law_copies_kept.proofs.references.Worded.{objects_differ}
use Rattle.law_copies_kept.specs.objects.Fresh.{DeliveredDropsKeepCopies}
use Rattle.law_copies_kept.proofs.objects.Turned.{Unasked, Same, Hidden, Turned, dirty_kept, none_idle, none_or_idle, turned_right}
use Rattle.law_copies_kept.proofs.objects.Asks.{delivery_asks}
use Rattle.law_copies_kept.proofs.objects.Beside.{SameBeside, beside_on, beside_back}
use Rattle.law_copies_kept.proofs.objects.Askers.{ReadsUnder, unasked_by, reads_to}

-- an object that goes, beside all others
module _ (k z : Cluster) (coherent : IsCoherent k) (cz : HasPlaces z) (x : ObjNo) (rest : List Thing) (n w m : ℕ) (e : Cell) (its : e.object ≡ x) (before : Alike k.code (things_of k) (sent n (message.Drop w x) ∷ lies n m e ∷ rest)) (v : Thing)
    (after : Alike k.code (things_of z) (v ∷ rest)) (bare : cells_in (v ∷ rest) ≡ cells_in rest) (none : tot (cells x) rest ≡ 0) (unled : NoneLeads k x) (freed : Freed k z x) where
  abbrev ck : HasPlaces k
  ck = places_before k coherent.sound

  abbrev paths : HasPaths k
  paths = coherent_has_paths k coherent

  abbrev words : HasWords (sight k)
  words = coherent.sound.words.have_words

  abbrev left : LeavesWords k z
  left = freed_leaves k z x ck cz coherent.sound.words.first_at_holder freed

  abbrev words_z : HasWords (sight z)
  words_z = (left.words words).after

  seen : SameBeside k z x
  seen = record { stands = freed.stands; holders = λ l h r a b. (freed.holders l h r a b).0; taken = λ t i. (freed.taken t i).1; takes = freed.takes; took = freed.took }

  -- its cell isn't there
  none_there : (c : Cell) → c.object ≡ x → Among c (cells_in (things_of z)) → ⊥
  none_there c o i =
      let a : Among c (cells_in rest) = subst (λ l. Among c l) bare (cells_on k.code (things_of z) (v ∷ rest) after.on c i) in
      let y = cell_thing rest c a in
      cell_weighs x c y.0 y.2 o (none_at (cells x) y.0 rest none y.1)

  -- and none of it was asked for
  unasked : (c : Cell) → c.object ≡ x → Among c (cells_in (things_of k)) → Unasked k (words.word x)
  unasked c o i =
      subst (λ p. Unasked k (words.word p)) o
      (unasked_by k paths coherent.sound c i (λ (r : ReadsUnder k paths coherent.sound (words.word c.object) c.object). subst (λ p. NoneLeads k p) (sym o) unled r.thread.thread.number r.location (reads_to k paths coherent.sound (words.word c.object) c.object r)))

  goes : (p : ObjNo) → p ≡ x → Hidden k z words words_z p
  goes p s = record {
    hides = λ c o i. absurd (none_there c (o ∙ s) i);
    unasked = λ c o i. inr (subst (λ q. Unasked k (words.word q)) (sym s) (unasked c (o ∙ s) i));
  }

  -- others stay
  stays : (p : ObjNo) → (p ≡ x → ⊥) → Same k z words words_z p
  stays p away = record {
    word = (left.words words).same p;
    on = λ c o i. cells_on k.code (v ∷ rest) (things_of z) after.back c (subst (λ l. Among c l) (sym bare) (other_one c o (cells_on k.code (things_of k) (sent n (message.Drop w x) ∷ lies n m e ∷ rest) before.on c i)));
    back = λ c o i. cells_on k.code (sent n (message.Drop w x) ∷ lies n m e ∷ rest) (things_of k) before.back c (inr (subst (λ l. Among c l) bare (cells_on k.code (things_of z) (v ∷ rest) after.on c i)));
    dirty = dirty_kept k z ck cz (beside_on k z x ck cz coherent.sound.words.first_at_holder seen) (beside_back k z x ck cz coherent.sound.words.first_at_holder seen) p;
  }
    where
      other_one : (c : Cell) → c.object ≡ p → Among c (e ∷ cells_in rest) → Among c (cells_in rest)
      other_one c o (inl s) = absurd (away (sym o ∙ ap (λ (y : Cell). y.object) (sym s) ∙ its))
      other_one c o (inr i) = i

  pub turned : Turned k z words
  turned = record { after = words_z; each = λ p. ⊎_elim (λ (s : p ≡ x). inr (goes p s)) (λ (away : p ≡ x → ⊥). inl (stays p away)) (objects_differ p x) }

-- IN ITS CLUSTER

module _ (k : Cluster) (e : Event) (w : ℕ) (o : ObjNo) (coherent : IsCoherent k) (few : FewEvents k) (i : ℕ) (s : Server) (here : server_at k.servers e.server ≡ Some s) (q : slice_get s.rest.inbox i ≡ Some (message.Drop w o)) where
  abbrev sound : IsSound k
  sound = coherent.sound

  abbrev Turns : Cluster × EntryView → Type 0
  Turns d = Turned k d.0 coherent.sound.words.have_words

  abbrev TurnsThere : Cluster × EntryView → Type 0
  TurnsThere d = HasPlaces d.0 → Turns d

  no_cells : (r : Server × EntryView) (g : Goes k.code w o s r) → cells_in (holds in_hand (g.cell).value ∷ servers_things (with_server k.servers e.server g.mid)) ≡ cells_in (servers_things (with_server k.servers e.server g.mid))
  no_cells r g = refl

  handed : (p : Option (Server × EntryView)) → Gives (Goes k.code w o s) p → Gives (λ (r : Server × EntryView). GoTo (with_server k.servers e.server r.0) (drop_first (length s.rest.outbox) r.0.rest.outbox)) p
      → Gives TurnsThere (option_map (λ r. (record k { servers = hand_over_newer e.server (length s.rest.outbox) r.0 k.servers }, r.1)) p)
  handed None g go = tt
  handed (Some r) g go = λ places.
      let older = length s.rest.outbox in
      let end : Cluster = record k { servers = hand_over_newer e.server older r.0 k.servers } in
      let rest : List Thing = servers_things (with_server k.servers e.server g.mid) in
      let n = s.rest.number in
      let x = g.cell.object in
      let hand : List Thing = sent n (message.Drop w o) ∷ lies n g.address g.cell ∷ [] in
      let before : Alike k.code (things_of k) (hand ++ rest) = chain (servers_alike e.server k.servers s s here (itself (server_things s))) (replaced e.server k.servers s s g.mid hand here g.before) in
      let after : Alike k.code (things_of end) (holds in_hand g.cell.value ∷ rest) =
      chain (turned_round (handed_over e.server older s r.0 k.servers here (go_with k.servers e.server r.0 (take older r.0.rest.outbox) (drop_first older r.0.rest.outbox) go))) (replaced e.server k.servers s r.0 g.mid (holds in_hand g.cell.value ∷ []) here g.after) in
      let here_k : HasPlaces k = places_before k sound in
      let none : tot (cells o) rest ≡ 0 = (let u = tot-server (cells o) k.servers e.server s g.mid here in omega (arith, u.0, u.1, g.fewer, sound.one_home.home_of_each o)) in
      let none_x : tot (cells x) rest ≡ 0 = subst (λ y. tot (cells y) rest ≡ 0) (sym g.object) none in
      let before_x : Alike k.code (things_of k) (sent n (message.Drop w x) ∷ lies n g.address g.cell ∷ rest) = subst (λ y. Alike k.code (things_of k) (sent n (message.Drop w y) ∷ lies n g.address g.cell ∷ rest)) (sym g.object) before in
      let m = message_there k sound e.server s here i w o q in
      let unled : NoneLeads k x = subst (λ y. NoneLeads k y) (sym g.object) (none_leads k coherent o m.0 m.1 m.2) in
      let freed : Freed k end x = is_freed k end here_k places refl rest n n g.address w g.cell none_x before_x after unled (rooted k sound) in
      turned k end coherent places x rest n w g.address g.cell refl before_x (holds in_hand g.cell.value) after refl none_x unled freed

  done : e.what ≡ Deliver i → Gives (Goes k.code w o s) (done_at k e.what s)
  done is = subst (λ p. Gives (Goes k.code w o s) (done_at k p s)) (sym is) (test_gives (Goes k.code w o s) (enabled k.options s (Deliver i)) (does k.code k.options s (Deliver i)) (λ on. server_goes k sound e.server s here i w o q))

  turns : e.what ≡ Deliver i → Gives Turns (apply k e)
  turns is =
      both_give TurnsThere (λ (d : Cluster × EntryView). HasPlaces d.0) Turns (apply k e)
      (subst (λ p. Gives TurnsThere (then_some p (λ x. option_map (λ d. (record k { servers = hand_over_newer e.server (length x.rest.outbox) d.0 k.servers }, d.1)) (done_at k e.what x)))) (sym here)
      (handed (done_at k e.what s) (done is) (each_event_sends k e sound few s here)))
      (places_after k e sound few) (λ d g c. g c)

pub drops_keep : DeliveredDropsKeepCopies
drops_keep k e w o d coherent few =
    turned_right k e coherent.sound few (turns k e w o coherent few d.place d.server d.there d.message d.what) (delivery_asks (none_or_idle k) k e d.place d.what coherent.sound few (none_idle k coherent.sound))
