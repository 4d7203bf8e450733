-- No place leads to an object that is dropped, and a delivery of a `move` or a `drop` brings nothing to a thread.
use Rattle.std.proofs.Common.{◌≡◌, ◌⊎◌, inl, inr, ℕ, zero, suc, ◌≤◌, Bool, true, false, Option, Some, None, refl, sym, ap, subst, ◌∙◌, arith}
use Rattle.std.specs.Prelude.{slice_get}
use Rattle.law_walks_others.specs.Below.fr_base.declared.name.ObjNo.{ObjNo}
use Rattle.law_walks_others.specs.Below.fr_base.Names.{same_object}
use Rattle.law_walks_others.specs.Below.heap_partition.declared.value.Cell.{Cell}
use Rattle.law_walks_others.specs.Below.server_msgs.declared.message.Message.{Message}
use Rattle.law_walks_others.specs.Below.server_msgs.declared.message.Message.TheVariants as message
use Rattle.law_walks_others.specs.Below.server_model.declared.event.Event.{Event}
use Rattle.law_walks_others.specs.Below.server_model.declared.event.What.TheVariants.{Deliver}
use Rattle.law_walks_others.specs.Below.server_model.Servers.{Server, Cluster, server_at}
use Rattle.law_walks_others.specs.Below.coherent_memory.Names.{tot, one, Among}
use Rattle.law_walks_others.specs.Below.coherent_memory.Things.{Location, in_cell, Thing, sent, things_of}
use Rattle.law_walks_others.specs.Below.coherent_memory.Follow.{value_behind, leads, locate}
use Rattle.law_walks_others.specs.Below.coherent_memory.Sight.{sight}
use Rattle.law_walks_others.specs.Below.coherent_memory.Coherent.{IsSound}
use Rattle.law_walks_others.proofs.Below.coherent_memory.Words.{itself, named}
use Rattle.law_walks_others.specs.Below.coherent_types.ClusterTypes.{IsCoherent}
use Rattle.law_walks_others.specs.Below.law_words_paths.words.Unmoved.{Delivers}
use Rattle.law_walks_others.proofs.Below.law_counts_sums.MutexResults.{has}
use Rattle.law_walks_others.proofs.Below.law_words_values.freed.Unled.{none_leads}
use Rattle.law_walks_others.proofs.Below.law_counts_waiting.waits.Found.{Weighing, weighing}
use Rattle.law_walks_others.proofs.pointers.New.{IsQuiet}

-- THE MESSAGE

abbrev drops_it : ObjNo → Message → ℕ
drops_it o (message.Drop w q) = one (same_object q o)
drops_it o m = 0

abbrev dropped : ObjNo → Thing → ℕ
dropped o (sent r m) = drops_it o m
dropped o x = 0

truly : (b : Bool) → 1 ≤ one b → b ≡ true
truly true l = refl
truly false l = absurd (omega (arith, l))

is_drop : (o : ObjNo) (m : Message) → 1 ≤ drops_it o m → (v : ℕ) × (m ≡ message.Drop v o)
is_drop o (message.Drop v x) l = (v, ap (message.Drop v) (named x o (truly (same_object x o) l)))
is_drop o _ l = absurd (omega (arith, l))

-- the `drop` that is delivered is among the things
drop_there : (k : Cluster) (sound : IsSound k) (number : ℕ) (s : Server) (here : server_at k.servers number ≡ Some s) (i w : ℕ) (o : ObjNo) → slice_get s.rest.inbox i ≡ Some (message.Drop w o) → (r v : ℕ) × Among (sent r (message.Drop v o)) (things_of k)
drop_there k sound number s here i w o q = by it.thing it.among it.weighs
  where
    some : 1 ≤ tot (dropped o) (things_of k)
    some = let a : drops_it o (message.Drop w o) ≡ 1 = ap one (itself o o refl) in omega (arith, a, has k sound number s here i (message.Drop w o) q (dropped o))

    it : Weighing (dropped o) (things_of k)
    it = weighing (dropped o) (things_of k) some

    by : (x : Thing) → Among x (things_of k) → 1 ≤ dropped o x → (r v : ℕ) × Among (sent r (message.Drop v o)) (things_of k)
    by (sent r m) h l = let d = is_drop o m l in (r, d.0, subst (λ y. Among (sent r y) (things_of k)) d.1 h)
    by _ h l = absurd (omega (arith, l))

-- so no place leads to its object
pub drop_aside : (k : Cluster) (coherent : IsCoherent k) (e : Event) (w : ℕ) (o : ObjNo) → Delivers k e (message.Drop w o) → (t slot m : ℕ) (q : ObjNo) → locate (sight k).ground t slot m ≡ Some (in_cell q) → o ≡ q → ⊥
drop_aside k coherent e w o d t slot zero q located same = absurd (cc located)
drop_aside k coherent e w o d t slot (suc m) q located same = by (locate (sight k).ground t slot m) (located ∙ ap (λ a. Some (in_cell a)) (sym same))
  where
    by : (l : Option Location) → leads t (value_behind (sight k).ground l) ≡ Some (in_cell o) → ⊥
    by None e2 = absurd (cc e2)
    by (Some l) e2 = let h = drop_there k coherent.sound e.server d.server d.there d.place w o d.message in none_leads k coherent o h.0 h.1 h.2 t l e2

-- a delivery of another message brings nothing to a thread
pub quiet : (k : Cluster) (e : Event) (m : Message) → Delivers k e m → ((v : ℕ) (c : Cell) (t : ℕ) → m ≡ message.Moved v c t → ⊥) → ((v : ℕ) (c : Cell) (t : ℕ) → m ≡ message.Fetched v c t → ⊥) → IsQuiet k e
quiet k e m d f g s here i t v c is there = by there
  where
    place_is : {a b : ℕ} → Deliver a ≡ Deliver b → a ≡ b
    place_is h = cc

    server_is : {a b : Server} → Some a ≡ Some b → a ≡ b
    server_is h = cc

    message_is : {a b : Message} → Some a ≡ Some b → a ≡ b
    message_is h = cc

    at : slice_get s.rest.inbox i ≡ Some m
    at = ap (λ (x : Server). slice_get x.rest.inbox i) (server_is (sym here ∙ d.there)) ∙ ap (slice_get d.server.rest.inbox) (place_is (sym is ∙ d.what)) ∙ d.message

    by : (slice_get s.rest.inbox i ≡ Some (message.Moved v c t)) ⊎ (slice_get s.rest.inbox i ≡ Some (message.Fetched v c t)) → ⊥
    by (inl h) = f v c t (message_is (sym at ∙ h))
    by (inr h) = g v c t (message_is (sym at ∙ h))
