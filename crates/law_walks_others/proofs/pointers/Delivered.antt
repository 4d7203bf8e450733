-- After the delivery of a `move` or a `drop` each place of each thread leads where it led, over the same pointers, and what is said by these holds.
use Rattle.std.proofs.Common.{◌≡◌, ◌⊎◌, inl, inr, ℕ, zero, suc, ◌≤◌, Bool, true, false, Option, Some, None, refl, sym, ap, subst, ◌∙◌, arith}
use Rattle.std.specs.Prelude.{slice_get}
use Rattle.law_words_values.specs.Below.fr_base.declared.name.ObjNo.{ObjNo}
use Rattle.law_words_values.specs.Below.fr_base.declared.place.Lval.{Lval}
use Rattle.law_words_values.specs.Below.fr_base.Names.{same_object}
use Rattle.law_words_values.specs.Below.heap_partition.declared.value.Cell.{Cell}
use Rattle.law_words_values.specs.Below.server_msgs.declared.message.Message.{Message}
use Rattle.law_words_values.specs.Below.server_msgs.declared.message.Message.TheVariants as message
use Rattle.law_words_values.specs.Below.journal.View.{EntryView}
use Rattle.law_words_values.specs.Below.server_model.declared.event.Event.{Event}
use Rattle.law_words_values.specs.Below.server_model.declared.event.What.TheVariants.{Deliver}
use Rattle.law_words_values.specs.Below.server_model.Servers.{Server, Cluster, server_at}
use Rattle.law_words_values.specs.Below.server_model.Clusters.{apply}
use Rattle.law_words_values.specs.Below.coherent_memory.Names.{tot, one, Among}
use Rattle.law_words_values.specs.Below.coherent_memory.Things.{Location, in_cell, Thing, sent, things_of}
use Rattle.law_words_values.specs.Below.coherent_memory.Follow.{Standing, threads_in, value_behind, leads, locate}
use Rattle.law_words_values.specs.Below.coherent_memory.Sight.{sight}
use Rattle.law_words_values.specs.Below.coherent_memory.Walking.{lost_place, out_of_turn}
use Rattle.law_words_values.specs.Below.coherent_memory.Requests.{old_word}
use Rattle.law_words_values.specs.Below.coherent_memory.Coherent.{Holds, IsSound, passed_in_a_walk, place_followed, waits_in_turn, taken_is_new}
use Rattle.law_words_values.proofs.Below.coherent_memory.Words.{itself, named, none_all}
use Rattle.law_words_values.specs.Below.coherent_types.ClusterTypes.{IsCoherent}
use Rattle.law_words_values.specs.Below.law_words_paths.paths.HeapStore.{GoesOn}
use Rattle.law_words_values.proofs.Below.law_words_paths.paths.Alike.{coherent_has_paths}
use Rattle.law_counts_waiting.specs.Below.law_words_paths.words.Reworded.{HasPlaces}
use Rattle.law_counts_waiting.specs.Below.law_words_paths.words.Unmoved.{Delivers}
use Rattle.law_words_values.specs.Below.law_counts_sums.Laws.{Gives, FewEvents}
use Rattle.law_words_values.proofs.Below.law_counts_sums.Results.{both_give, weaker}
use Rattle.law_words_values.proofs.Below.law_counts_sums.MutexResults.{has}
use Rattle.law_words_values.proofs.Below.law_counts_sums.Sending.{applied_part}
use Rattle.law_words_values.proofs.Below.law_counts_things.things.Sentences.{passed_kept}
use Rattle.law_words_values.proofs.freed.Unled.{none_leads}
use Rattle.law_counts_waiting.specs.waits.Places.{Follows}
use Rattle.law_counts_waiting.proofs.waits.Found.{Weighing, weighing}
use Rattle.law_walks_others.specs.pointers.Pointers.{SamePointers}
use Rattle.law_walks_others.specs.pointers.Deliveries.{DeliveryLeavesPointers, DeliveryKeeps}
use Rattle.law_walks_others.proofs.pointers.Still.{places_of, Lasts, pointers_same}
use Rattle.law_walks_others.proofs.pointers.New.{newly, IsQuiet, new_ones}
use Rattle.law_walks_others.proofs.pointers.Followed.{After, Aside, all_told, same_settings}
use Rattle.law_walks_others.proofs.pointers.Deliveries.{None_own, None_changed, moves_last, drops_last}

-- THE MESSAGE

abbrev drops_it : ObjNo → Message → ℕ
drops_it o (message.Drop w q) = one (same_object q o)
drops_it o m = 0

abbrev dropped : ObjNo → Thing → ℕ
dropped o (sent r m) = drops_it o m
dropped o x = 0

truly : (b : Bool) → 1 ≤ one b → b ≡ true
truly true l = refl
truly false l = absurd (omega (arith, l))

is_drop : (o : ObjNo) (m : Message) → 1 ≤ drops_it o m → (v : ℕ) × (m ≡ message.Drop v o)
is_drop o (message.Drop v x) l = (v, ap (message.Drop v) (named x o (truly (same_object x o) l)))
is_drop o _ l = absurd (omega (arith, l))

-- the `drop` that is delivered is among the things
drop_there : (k : Cluster) (sound : IsSound k) (number : ℕ) (s : Server) (here : server_at k.servers number ≡ Some s) (i w : ℕ) (o : ObjNo) → slice_get s.rest.inbox i ≡ Some (message.Drop w o) → (r v : ℕ) × Among (sent r (message.Drop v o)) (things_of k)
drop_there k sound number s here i w o q = by it.thing it.among it.weighs
  where
    some : 1 ≤ tot (dropped o) (things_of k)
    some = let a : drops_it o (message.Drop w o) ≡ 1 = ap one (itself o o refl) in omega (arith, a, has k sound number s here i (message.Drop w o) q (dropped o))

    it : Weighing (dropped o) (things_of k)
    it = weighing (dropped o) (things_of k) some

    by : (x : Thing) → Among x (things_of k) → 1 ≤ dropped o x → (r v : ℕ) × Among (sent r (message.Drop v o)) (things_of k)
    by (sent r m) h l = let d = is_drop o m l in (r, d.0, subst (λ y. Among (sent r y) (things_of k)) d.1 h)
    by _ h l = absurd (omega (arith, l))

-- so no place leads to its object
drop_aside : (k : Cluster) (coherent : IsCoherent k) (e : Event) (w : ℕ) (o : ObjNo) → Delivers k e (message.Drop w o) → (t slot m : ℕ) (q : ObjNo) → locate (sight k).ground t slot m ≡ Some (in_cell q) → o ≡ q → ⊥
drop_aside k coherent e w o d t slot zero q located same = absurd (cc located)
drop_aside k coherent e w o d t slot (suc m) q located same = by (locate (sight k).ground t slot m) (located ∙ ap (λ a. Some (in_cell a)) (sym same))
  where
    by : (l : Option Location) → leads t (value_behind (sight k).ground l) ≡ Some (in_cell o) → ⊥
    by None e2 = absurd (cc e2)
    by (Some l) e2 = let h = drop_there k coherent.sound e.server d.server d.there d.place w o d.message in none_leads k coherent o h.0 h.1 h.2 t l e2

-- a delivery of another message brings nothing to a thread
quiet : (k : Cluster) (e : Event) (m : Message) → Delivers k e m → ((v : ℕ) (c : Cell) (t : ℕ) → m ≡ message.Moved v c t → ⊥) → ((v : ℕ) (c : Cell) (t : ℕ) → m ≡ message.Fetched v c t → ⊥) → IsQuiet k e
quiet k e m d f g s here i t v c is there = by there
  where
    place_is : {a b : ℕ} → Deliver a ≡ Deliver b → a ≡ b
    place_is h = cc

    server_is : {a b : Server} → Some a ≡ Some b → a ≡ b
    server_is h = cc

    message_is : {a b : Message} → Some a ≡ Some b → a ≡ b
    message_is h = cc

    at : slice_get s.rest.inbox i ≡ Some m
    at = ap (λ (x : Server). slice_get x.rest.inbox i) (server_is (sym here ∙ d.there)) ∙ ap (slice_get d.server.rest.inbox) (place_is (sym is ∙ d.what)) ∙ d.message

    by : (slice_get s.rest.inbox i ≡ Some (message.Moved v c t)) ⊎ (slice_get s.rest.inbox i ≡ Some (message.Fetched v c t)) → ⊥
    by (inl h) = f v c t (message_is (sym at ∙ h))
    by (inr h) = g v c t (message_is (sym at ∙ h))

-- WHAT HOLDS THEN

abbrev pub Three : Cluster × EntryView → Type 0
Three d = Holds d.0 place_followed × Holds d.0 waits_in_turn × Holds d.0 taken_is_new

module _ (k : Cluster) (e : Event) (m : Message) (coherent : IsCoherent k) (few : FewEvents k) (Changed : ObjNo → Type 0) (lasts : Gives (λ (d : Cluster × EntryView). Lasts k d.0 None_own Changed) (apply k e)) (apart : (t slot n : ℕ) (q : ObjNo) → locate (sight k).ground t slot n ≡ Some (in_cell q) → Changed q → ⊥) where
  abbrev aside : Aside k None_own Changed
  aside x g ne w f n q le located h = apart x.thread.number w.slot n q located h

  places : Gives (λ (d : Cluster × EntryView). HasPlaces d.0) (apply k e)
  places = applied_part HasPlaces (λ c s. record { numbers_differ = s.numbers_differ; home_of_each = s.home_of_each; owner_of_each = s.owner_of_each }) k e coherent.sound few

  pub pointers_then : (x : Standing) (w : Lval) → GoesOn k x → Follows k x w → Gives (λ (d : Cluster × EntryView). SamePointers k d.0 x.thread.number w) (apply k e)
  pointers_then x w g f =
      both_give (λ (d : Cluster × EntryView). HasPlaces d.0) (λ (d : Cluster × EntryView). Lasts k d.0 None_own Changed) (λ (d : Cluster × EntryView). SamePointers k d.0 x.thread.number w) (apply k e) places lasts
      (λ d a b. pointers_same k d.0 None_own Changed (places_of coherent) a b (coherent_has_paths k coherent) x g (λ h. h) w (λ n q le located h. apart x.thread.number w.slot n q located h))

  abbrev Settings : Cluster × EntryView → Type 0
  Settings d = (d.0.code ≡ k.code) × (d.0.options ≡ k.options)

  abbrev New : Cluster × EntryView → Type 0
  New d = (tot (newly k) (threads_in (things_of d.0)) ≡ 0) × Holds d.0 passed_in_a_walk

  abbrev Rest : Cluster × EntryView → Type 0
  Rest d = HasPlaces d.0 × New d

  abbrev Known : Cluster × EntryView → Type 0
  Known d = Settings d × Rest d

  pub three_then : IsQuiet k e → Gives Three (apply k e)
  three_then still =
      both_give Known (λ (d : Cluster × EntryView). Lasts k d.0 None_own Changed) Three (apply k e)
      (both_give Settings Rest Known (apply k e) (same_settings k e)
      (both_give (λ (d : Cluster × EntryView). HasPlaces d.0) New Rest (apply k e) places
      (both_give (λ (d : Cluster × EntryView). tot (newly k) (threads_in (things_of d.0)) ≡ 0) (λ (d : Cluster × EntryView). Holds d.0 passed_in_a_walk) New (apply k e) (new_ones k coherent.sound e still few) (passed_kept k e coherent.sound few) (λ d a b. (a, b)))
      (λ d a b. (a, b))) (λ d a b. (a, b))) lasts
      (λ d a b.
      let after : After k d.0 None_own Changed = record { code = a.0.0; options = a.0.1; places = a.1.0; lasts = b; new = a.1.1.0; walks = a.1.1.1 } in (
        none_all (lost_place (sight d.0)) (threads_in (things_of d.0)) (λ y among. (all_told k d.0 None_own Changed coherent (coherent_has_paths k coherent) after aside y among (λ h. h)).0),
        none_all (λ y. out_of_turn (sight d.0) y y.thread.phase) (threads_in (things_of d.0)) (λ y among. (all_told k d.0 None_own Changed coherent (coherent_has_paths k coherent) after aside y among (λ h. h)).1),
        none_all (λ y. old_word (sight d.0) y y.thread.phase) (threads_in (things_of d.0)) (λ y among. (all_told k d.0 None_own Changed coherent (coherent_has_paths k coherent) after aside y among (λ h. h)).2),
      ))

-- AN OBJECT LEAVES

module _ (w : ℕ) (o : ObjNo) (a t : ℕ) where
  move_three : (k : Cluster) (e : Event) → Delivers k e (message.Move w o a t) → (coherent : IsCoherent k) (few : FewEvents k) → Gives Three (apply k e)
  move_three k e d coherent few =
      three_then k e (message.Move w o a t) coherent few None_changed (moves_last k e w o a t d coherent.sound few) (λ u slot n q located h. h) (quiet k e (message.Move w o a t) d (λ v c u f. cc) (λ v c u f. cc))

  pub moves_pointers : DeliveryLeavesPointers (message.Move w o a t)
  moves_pointers k e d coherent few = pointers_then k e (message.Move w o a t) coherent few None_changed (moves_last k e w o a t d coherent.sound few) (λ u slot n q located h. h)

  pub moves_followed : DeliveryKeeps (message.Move w o a t) place_followed
  moves_followed k e d coherent few = weaker Three (λ (r : Cluster × EntryView). Holds r.0 place_followed) (apply k e) (move_three k e d coherent few) (λ r h. h.0)

  pub moves_wait : DeliveryKeeps (message.Move w o a t) waits_in_turn
  moves_wait k e d coherent few = weaker Three (λ (r : Cluster × EntryView). Holds r.0 waits_in_turn) (apply k e) (move_three k e d coherent few) (λ r h. h.1)

  pub moves_taken : DeliveryKeeps (message.Move w o a t) taken_is_new
  moves_taken k e d coherent few = weaker Three (λ (r : Cluster × EntryView). Holds r.0 taken_is_new) (apply k e) (move_three k e d coherent few) (λ r h. h.2)

-- AN OBJECT GOES

module _ (w : ℕ) (o : ObjNo) where
  drop_three : (k : Cluster) (e : Event) → Delivers k e (message.Drop w o) → (coherent : IsCoherent k) (few : FewEvents k) → Gives Three (apply k e)
  drop_three k e d coherent few =
      three_then k e (message.Drop w o) coherent few (λ q. o ≡ q) (drops_last k e w o d coherent.sound few) (drop_aside k coherent e w o d) (quiet k e (message.Drop w o) d (λ v c u f. cc) (λ v c u f. cc))

  pub drops_pointers : DeliveryLeavesPointers (message.Drop w o)
  drops_pointers k e d coherent few = pointers_then k e (message.Drop w o) coherent few (λ q. o ≡ q) (drops_last k e w o d coherent.sound few) (drop_aside k coherent e w o d)

  pub drops_followed : DeliveryKeeps (message.Drop w o) place_followed
  drops_followed k e d coherent few = weaker Three (λ (r : Cluster × EntryView). Holds r.0 place_followed) (apply k e) (drop_three k e d coherent few) (λ r h. h.0)

  pub drops_wait : DeliveryKeeps (message.Drop w o) waits_in_turn
  drops_wait k e d coherent few = weaker Three (λ (r : Cluster × EntryView). Holds r.0 waits_in_turn) (apply k e) (drop_three k e d coherent few) (λ r h. h.1)

  pub drops_taken : DeliveryKeeps (message.Drop w o) taken_is_new
  drops_taken k e d coherent few = weaker Three (λ (r : Cluster × EntryView). Holds r.0 taken_is_new) (apply k e) (drop_three k e d coherent few) (λ r h. h.2)
