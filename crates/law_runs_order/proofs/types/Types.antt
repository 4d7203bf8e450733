-- What is counted of types, over things in another order.
use Rattle.std.proofs.Common.{◌≡◌, ℕ, ◌+◌, ◌==◌, ◌&&◌, not, List, [], ◌∷◌, reverse, Option, Some, None, refl, ap, ap₂}
use Rattle.law_runs_rounds.specs.Below.law_runs_coherent.Below.fr_base.declared.place.Lval.{Lval}
use Rattle.law_runs_rounds.specs.Below.law_runs_coherent.Below.law_heap_still.Below.fr_typing.Kinds.{Kind, view, Piece, whole}
use Rattle.law_runs_rounds.specs.Below.law_runs_coherent.Below.law_heap_still.Below.fr_typing.Places.{Slot}
use Rattle.law_runs_rounds.specs.Below.law_runs_coherent.Below.law_heap_still.Below.fr_store.Keys.{Key, slot_k}
use Rattle.law_runs_rounds.specs.Below.law_runs_coherent.Below.law_heap_still.Below.fr_store.Typed.{Exact, owns, refers, KeyTypes}
use Rattle.law_runs_rounds.specs.Below.law_runs_coherent.Below.fr_code.CodeTypes.{Entry, Table}
use Rattle.law_runs_rounds.specs.Below.law_runs_coherent.Below.thread_state.View.{ThreadState, is_over}
use Rattle.law_runs_rounds.specs.Below.law_runs_coherent.Below.thread_state.declared.value.Value.{Value}
use Rattle.law_runs_rounds.specs.Below.law_runs_coherent.Below.thread_state.declared.value.Value.TheVariants as value
use Rattle.law_runs_rounds.specs.Below.law_runs_coherent.Below.server_model.Servers.{Server, Cluster}
use Rattle.law_runs_rounds.specs.Below.law_runs_coherent.Below.coherent_memory.Names.{other, if_so, some}
use Rattle.law_runs_rounds.specs.Below.law_runs_coherent.Below.coherent_memory.Things.{servers_things, things_of}
use Rattle.law_runs_rounds.specs.Below.law_runs_coherent.Below.coherent_memory.Follow.{Standing, Ground, leads, place_at}
use Rattle.law_runs_rounds.specs.Below.law_runs_coherent.Below.coherent_memory.Sight.{Sight, sight}
use Rattle.law_runs_rounds.specs.Below.law_runs_coherent.Below.coherent_memory.Walking.{instr_of}
use Rattle.law_runs_rounds.specs.Below.law_runs_coherent.Below.coherent_memory.Paths.{joined_thread}
use Rattle.law_runs_rounds.specs.Below.law_runs_coherent.Below.coherent_types.Names.{NameTypes}
use Rattle.law_runs_rounds.specs.Below.law_runs_coherent.Below.coherent_types.ClusterTypes.{misfit, content_gift, result_gift, gift_misfit, misfits, entry_wrong, forms_wrong, locked_wrong, parent_sees, unseen, unseen_slots, unseen_temps, views_wrong, ends_wrong, same_place, is_held_at, leads_as, astray_from, astray, all_astray, astray_of, leads_wrong}
use Rattle.law_runs_order.specs.things.SameThings.{Reordered}
use Rattle.law_runs_order.proofs.things.Places.{place_same, at_place_same}
use Rattle.law_runs_order.proofs.things.Sights.{Apart, thread_same, cell_same, threads_there}
use Rattle.law_runs_order.proofs.things.Memory.{over_threads}
use Rattle.law_runs_order.proofs.things.Asked.{locked_same}

module _ (k : Cluster) (servers : List Server) (r : Reordered (things_of k) (servers_things servers)) (once : Apart (servers_things servers)) where
  abbrev s : Sight
  s = sight k

  abbrev t : Sight
  t = sight (record k { servers = servers })

  abbrev g : Ground
  g = s.ground

  abbrev h : Ground
  h = t.ground

  gift_same : (n : NameTypes) (x : Standing) → gift_misfit n s x ≡ gift_misfit n t x
  gift_same n x = ap (λ o. content_gift n o x.thread.gift + result_gift n (joined_thread (instr_of s x) x.thread) x.thread.gift) (locked_same k servers r once x (instr_of s x))

  pub misfits_same : (n : NameTypes) → misfits n s ≡ misfits n t
  misfits_same n = ap₂ (λ i j. i + j) (r.sums (misfit n)) (over_threads k servers r once (gift_misfit n s) (gift_misfit n t) (gift_same n))

  pub forms_same : (table : Table) (n : NameTypes) → forms_wrong table n s ≡ forms_wrong table n t
  forms_same table n = (threads_there k servers r once).sums _

  pub marks_same : (table : Table) (n : NameTypes) → locked_wrong table n s ≡ locked_wrong table n t
  marks_same table n = (threads_there k servers r once).sums _

  pub ends_same : (table : Table) (n : NameTypes) → ends_wrong table n s ≡ ends_wrong table n t
  ends_same table n = (threads_there k servers r once).sums _

  -- VIEWS

  unseen_same : (n : ℕ) (p : Piece) (v : Value) → unseen s n p v ≡ unseen t n p v
  unseen_same n (whole (view o)) (value.Shared q) = ap (λ m. other (some m)) ((threads_there k servers r once).sums (parent_sees n q.object))
  unseen_same n _ _ = refl

  slots_same : (n : ℕ) (e : List Slot) (vs : List Value) → unseen_slots s n e vs ≡ unseen_slots t n e vs
  slots_same n (x ∷ e) (v ∷ vs) = ap₂ (λ i j. i + j) (unseen_same n x.part v) (slots_same n e vs)
  slots_same n [] _ = refl
  slots_same n (x ∷ e) [] = refl

  temps_same : (n : ℕ) (ks : List Kind) (vs : List Value) → unseen_temps s n ks vs ≡ unseen_temps t n ks vs
  temps_same n (q ∷ ks) (v ∷ vs) = ap₂ (λ i j. i + j) (unseen_same n (whole q) v) (temps_same n ks vs)
  temps_same n [] _ = refl
  temps_same n (q ∷ ks) [] = refl

  abbrev sees : Sight → Standing → Entry → ℕ
  sees u x y = unseen_slots u x.thread.number y.env (reverse x.thread.slots) + unseen_temps u x.thread.number y.temps (reverse x.thread.temps)

  entry_same : (f f2 : Entry → ℕ) → ((y : Entry) → f y ≡ f2 y) → (o : Option Entry) → entry_wrong f o ≡ entry_wrong f2 o
  entry_same f f2 e None = refl
  entry_same f f2 e (Some y) = e y

  sees_same : (x : Standing) (y : Entry) → sees s x y ≡ sees t x y
  sees_same x y = ap₂ (λ i j. i + j) (slots_same x.thread.number y.env (reverse x.thread.slots)) (temps_same x.thread.number y.temps (reverse x.thread.temps))

  view_same : (table : Table) (x : Standing) → if_so (not (is_over x.thread.phase)) (entry_wrong (sees s x) (table x.thread.pc)) ≡ if_so (not (is_over x.thread.phase)) (entry_wrong (sees t x) (table x.thread.pc))
  view_same table x = ap (if_so (not (is_over x.thread.phase))) (entry_same (sees s x) (sees t x) (sees_same x) (table x.thread.pc))

  pub views_same : (table : Table) → views_wrong table s ≡ views_wrong table t
  views_same table =
      over_threads k servers r once (λ x. if_so (not (is_over x.thread.phase)) (entry_wrong (sees s x) (table x.thread.pc))) (λ x. if_so (not (is_over x.thread.phase)) (entry_wrong (sees t x) (table x.thread.pc))) (view_same table)

  -- PLACES OF REFERENCES

  place_is : (n : ℕ) (w : Lval) → place_at g n w ≡ place_at h n w
  place_is = place_same g h (thread_same k servers r once) (cell_same k servers r once)

  leads_same : (n : ℕ) (w : Lval) (v : Value) → leads_as g n w v ≡ leads_as h n w v
  leads_same n w (value.Held m) = rw (at_place_same g h (thread_same k servers r once) (cell_same k servers r once) n w) refl
  leads_same n w (value.Mut q) = ap (λ o. same_place (leads n (Some (value.Mut q))) o && is_held_at w.slot w.depth q.holder) (place_is n w)
  leads_same n w value.Gone = ap (same_place (leads n (Some value.Gone))) (place_is n w)
  leads_same n w (value.Own v) = ap (same_place (leads n (Some (value.Own v)))) (place_is n w)
  leads_same n w (value.SharedSlot i) = ap (same_place (leads n (Some (value.SharedSlot i)))) (place_is n w)
  leads_same n w (value.MutSlot i) = ap (same_place (leads n (Some (value.MutSlot i)))) (place_is n w)
  leads_same n w (value.Shared q) = ap (same_place (leads n (Some (value.Shared q)))) (place_is n w)

  from_same : (n : ℕ) (q : Key) (d : ℕ) (v : Value) → astray_from g n q d v ≡ astray_from h n q d v
  from_same n (slot_k u i) d v = ap (λ b. if_so (u == n) (other b)) (leads_same n (record { slot = i; depth = d }) v)
  from_same n _ d v = refl

  astray_same : (n : ℕ) (x : Exact) (v : Value) → astray g n x v ≡ astray h n x v
  astray_same n (owns x) v = refl
  astray_same n (refers m u) v = from_same n u.key u.depth v

  all_same : (exact : KeyTypes) (n : ℕ) (key : ℕ → Key) (i : ℕ) (vs : List Value) → all_astray exact g n key i vs ≡ all_astray exact h n key i vs
  all_same exact n key i [] = refl
  all_same exact n key i (v ∷ vs) = ap₂ (λ a b. a + b) (astray_same n (exact (key i)) v) (all_same exact n key (i + 1) vs)

  of_same : (exact : KeyTypes) (x : ThreadState) → astray_of exact g x ≡ astray_of exact h x
  of_same exact x = ap₂ (λ a b. a + b) (all_same exact x.number (λ i. slot_k x.number i) 0 x.slots) (all_same exact x.number _ 0 x.temps)

  pub leads_wrong_same : (exact : KeyTypes) → leads_wrong exact s ≡ leads_wrong exact t
  leads_wrong_same exact = over_threads k servers r once (λ x. astray_of exact g x.thread) (λ x. astray_of exact h x.thread) (λ x. of_same exact x.thread)
