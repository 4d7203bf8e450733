-- What a par captures as a view is no reference to a slot: its places are in the heap, also behind what was moved before it.
use Rattle.std.proofs.Common.{◌≡◌, ◌≢◌, ◌⊎◌, inl, inr, ⊎_elim, ℕ, zero, suc, ◌<◌, Bool, true, false, length, Some, sym, ap, subst, ◌∙◌, arith}
use Rattle.std.specs.Prelude.{slice_get}
use Rattle.law_results_events.specs.Below.fr_base.declared.place.Lval.{Lval}
use Rattle.law_results_events.specs.Below.fr_typing.Kinds.{Owned as OwnedType, unit, int, box, mutex, task, Kind, own, view, whole, gone}
use Rattle.law_results_events.specs.Below.fr_typing.Places.{Env, IsNested, found, type_at, write_blocked, put_at}
use Rattle.law_results_events.specs.Below.fr_typing.Captures.{by_par, captured_kind}
use Rattle.law_results_events.specs.Below.fr_store.Keys.{Key, slot_k}
use Rattle.law_results_events.specs.Below.fr_store.Store.{Location as StoreLocation, at_key, ref_v, Store, Place as StorePlace, below_key, add}
use Rattle.law_results_events.specs.Below.fr_store.Typed.{hole, Exact, owns, refers, KeyTypes, exact_under, Resolves, here, through, Unnamed, RefFits}
use Rattle.law_results_events.specs.Below.fr_store.Below.{tree_of, SlotsBelow}
use Rattle.law_results_events.specs.Below.fr_store.Rows.{with_type}
use Rattle.law_results_events.specs.Below.fr_store.Thread.{OwnOrForeign}
use Rattle.law_results_events.proofs.Below.fr_store.Keys.{decide_key, key_same, key_other}
use Rattle.law_results_events.proofs.Below.fr_store.Below.{MutPlace, slots_unnamed, res_once}
use Rattle.law_results_events.proofs.Below.fr_store.PutAt.{length_put, nested_put, slots_gone}
use Rattle.law_results_events.proofs.Below.fr_store.Sound.{ref_at}
use Rattle.law_results_events.specs.Below.fr_sound.States.{IsNear, WaitsAbove}
use Rattle.law_results_events.specs.Below.fr_code.Machine.{CodeState}
use Rattle.law_plain_threads.proofs.Below.law_plain_values.acts.Lower.{UpFrom, up_near, above_before}
use Rattle.law_plain_threads.proofs.threads.Views.{viewed, off_object}
use Rattle.law_results_events.specs.Below.thread_state.declared.value.Value.TheVariants as value
use Rattle.law_results_events.specs.Below.server_model.Servers.{Cluster}
use Rattle.law_results_events.specs.Below.coherent_memory.Follow.{Standing}
use Rattle.law_results_events.specs.Below.coherent_memory.OneHeap.{one_heap}
use Rattle.law_results_events.specs.Below.law_words_paths.paths.HeapStore.{heap_store, GoesOn, HasPaths}
use Rattle.law_results_events.proofs.Below.law_words_paths.paths.Alike.{slot_shared_slot}
use Rattle.law_results_events.proofs.Below.law_words_paths.paths.Sole.{some_is}

-- WHAT IS MOVED OUT IS NAMED NOWHERE, so places lead as before

kept_res : (E : KeyTypes) (a : Key) → Unnamed E a → (only : Bool) (k : Key) (d : ℕ) (b : Key) (n : ℕ) (p : Exact) → k ≢ a → Resolves E only k d b n p → Resolves (with_type E a (owns hole)) only k d b n p
kept_res E a free only k d _ _ p ne (here e) = here (ap (exact_under d) (key_other k a (owns hole) (E k) ne) ∙ e)
kept_res E a free only k d b n p ne (through m u e is o de r) =
    through m u e (key_other k a (owns hole) (E k) ne ∙ is) o de (kept_res E a free only u.key (add u.depth e) b n p (free k m u is) r)

-- types of which some became holes
abbrev Fewer : KeyTypes → KeyTypes → Type 0
Fewer E E0 = (j : Key) → (E j ≡ E0 j) ⊎ (E j ≡ owns hole)

no_hole : (o : OwnedType) (d : ℕ) → exact_under d (owns hole) ≡ Some (owns (tree_of o)) → ⊥
no_hole o (suc d) f = absurd cc
no_hole unit zero f = absurd cc
no_hole int zero f = absurd cc
no_hole (box o) zero f = absurd cc
no_hole (mutex o) zero f = absurd cc
no_hole (task o) zero f = absurd cc

refers_still : (E E0 : KeyTypes) → Fewer E E0 → (j : Key) (m : Bool) (u : StorePlace) → E j ≡ refers m u → E0 j ≡ refers m u
refers_still E E0 few j m u is = ⊎_elim (λ (q : E j ≡ E0 j). sym q ∙ is) (λ (q : E j ≡ owns hole). let c : owns hole ≡ refers m u = sym q ∙ is in absurd cc) (few j)

back_res : (E E0 : KeyTypes) → Fewer E E0 → (only : Bool) (k : Key) (d : ℕ) (b : Key) (n : ℕ) (p : Exact) → ((i : ℕ) → exact_under i (owns hole) ≡ Some p → ⊥) → Resolves E only k d b n p → Resolves E0 only k d b n p
back_res E E0 few only k d _ _ p none (here e) =
    ⊎_elim (λ (q : E k ≡ E0 k). let r : Resolves E0 only k d k d p = here (ap (exact_under d) (sym q) ∙ e) in r) (λ (q : E k ≡ owns hole). absurd (none d (sym (ap (exact_under d) q) ∙ e))) (few k)
back_res E E0 few only k d b n p none (through m u e is ok de r) = through m u e (refers_still E E0 few k m u is) ok de (back_res E E0 few only u.key (add u.depth e) b n p none r)

-- THE TYPES BEHIND CAPTURES

-- the environment that is left, under the types that are left
pub record Left (t : ℕ) (E0 E : KeyTypes) (e : Env) : Type 0 where
  pub nested : IsNested e
  pub fits : SlotsBelow (slot_k t) E e
  pub mut : (k : Key) (u : StorePlace) → E k ≡ refers true u → MutPlace E u
  pub alone : (j : Key) (m : Bool) (u : StorePlace) → E j ≡ refers m u → OwnOrForeign (slot_k t) e j u
  pub fewer : (j : Key) → (E j ≡ E0 j) ⊎ (E j ≡ owns hole)

-- an owned variable is moved out
pub moved_out : (t : ℕ) (E0 E : KeyTypes) (e : Env) → Left t E0 E e → (i : ℕ) (o : OwnedType) → write_blocked e i ≡ false → Left t E0 (with_type E (slot_k t i) (owns hole)) (put_at e (record { slot = i; depth = 0 }) (gone (own o)))
moved_out t E0 E e l i o free = record {
  nested = nested_put e w (gone (own o)) tt l.nested;
  fits = slots_gone (slot_k t) E e i (own o) (λ a b q. cc) l.fits unnamed;
  mut = mut;
  alone = alone;
  fewer = fewer;
}
  where
    w : Lval
    w = record { slot = i; depth = 0 }

    E2 : KeyTypes
    E2 = with_type E (slot_k t i) (owns hole)

    unnamed : Unnamed E (slot_k t i)
    unnamed j m u is = by (l.alone j m u is)
      where
        by : OwnOrForeign (slot_k t) e j u → u.key ≢ slot_k t i
        by (inl q) = slots_unnamed (slot_k t) E (λ a b f. cc) e i q.0 m u l.fits free q.1 (ap E (sym q.2) ∙ is)
        by (inr f) = f i

    other : (j : Key) → (E2 j ≡ E j) ⊎ (E2 j ≡ owns hole)
    other j = ⊎_elim (λ (q : j ≡ slot_k t i). inr (ap E2 q ∙ key_same (slot_k t i) (owns hole) (E (slot_k t i)))) (λ (ne : j ≢ slot_k t i). inl (key_other j (slot_k t i) (owns hole) (E j) ne)) (decide_key j (slot_k t i))

    still : (j : Key) (m : Bool) (u : StorePlace) → E2 j ≡ refers m u → E j ≡ refers m u
    still = refers_still E2 E other

    mut : (j : Key) (u : StorePlace) → E2 j ≡ refers true u → MutPlace E2 u
    mut j u is =
        let was = still j true u is in
        let m = l.mut j u was in
        record { base = m.base; boxes = m.boxes; type = m.type; res = kept_res E (slot_k t i) unnamed true u.key u.depth m.base m.boxes m.type (unnamed j true u was) m.res }

    alone : (j : Key) (m : Bool) (u : StorePlace) → E2 j ≡ refers m u → OwnOrForeign (slot_k t) (put_at e w (gone (own o))) j u
    alone j m u is = by (l.alone j m u (still j m u is))
      where
        by : OwnOrForeign (slot_k t) e j u → OwnOrForeign (slot_k t) (put_at e w (gone (own o))) j u
        by (inl q) = inl (q.0, subst (λ n. q.0 < n) (sym (length_put e w (gone (own o)))) q.1, q.2)
        by (inr f) = inr f

    fewer : Fewer E2 E0
    fewer j = ⊎_elim (λ (q : E2 j ≡ E j). ⊎_elim (λ (f : E j ≡ E0 j). inl (q ∙ f)) (λ (f : E j ≡ owns hole). inr (q ∙ f)) (l.fewer j)) (λ (q : E2 j ≡ owns hole). inr q) (other j)

-- VIEWS

ref_is : {a b : StoreLocation} → ref_v a ≡ ref_v b → a ≡ b
ref_is e = cc

module _ (k : Cluster) (c : HasPaths k) (x : Standing) (g : GoesOn k x) where
  abbrev t : ℕ
  t = x.thread.number

  abbrev heap : CodeState
  heap = one_heap k

  abbrev E0 : KeyTypes
  E0 = c.types.typing.exact

  abbrev st : Store
  st = heap_store k c.types

  near : (i : ℕ) (m : Bool) (u : StorePlace) → E0 (slot_k t i) ≡ refers m u → ((j : ℕ) × (u.key ≡ slot_k t j)) ⊎ UpFrom heap t u.key
  near i m u is = by d.near
    where
      d : IsNear heap (slot_k t i) u
      d = c.types.state.near (slot_k t i) m u is

      same : t ≡ d.thread
      same = some_is d.of

      by : (d.owner ≡ d.thread) ⊎ WaitsAbove heap d.owner d.thread → ((j : ℕ) × (u.key ≡ slot_k t j)) ⊎ UpFrom heap t u.key
      by (inl q) = inl (d.slot, d.is ∙ ap (λ v. slot_k v d.slot) (q ∙ sym same))
      by (inr q) = inr (d.owner, d.slot, d.is, subst (WaitsAbove heap d.owner) (sym same) q)

  away : (j : Key) (i : ℕ) → UpFrom heap t j → j ≢ slot_k t i
  away j i up q =
      let h : slot_k up.0 up.1 ≡ slot_k t i = sym up.2 ∙ q in
      let same : up.0 ≡ t = cc in
      let less = above_before c.types.typing heap c.types.state.pairs up.0 t up.3 in
      omega (arith, less, ap c.types.typing.order same)

  -- a reference that is captured as a view stands for no slot
  pub not_slot : (E : KeyTypes) (e : Env) → Left t E0 E e → (i j : ℕ) (q : Kind) (o : OwnedType) → i < length e → type_at e (record { slot = i; depth = 0 }) ≡ found (whole q) → captured_kind by_par e q ≡ Some (view o)
      → slice_get x.thread.slots i ≡ Some (value.SharedSlot j) → ⊥
  not_slot E e l i j q o lt type becomes there =
      let still = refers_still E E0 l.fewer in
      let v =
      viewed (slot_k t) E l.mut (UpFrom heap t) (λ b m u up is. up_near heap E0 c.types.state.near t b m u up (still b m u is)) away (λ b m u is. near b m u (still (slot_k t b) m u is)) e l.nested l.fits i lt q o type becomes in
      let f : RefFits E0 st false v.place (st.at (slot_k t i)) = ref_at c.types.typing.rank E0 st c.types.state.typed (slot_k t i) false v.place (still (slot_k t i) false v.place v.is) in
      let target : at_key (slot_k t j) ≡ f.target = ref_is (sym (slot_shared_slot k c x g i j there) ∙ f.is) in
      let same = res_once E0 false false v.place.key v.place.depth f.base v.base f.boxes v.boxes f.type (owns (tree_of o)) f.res (back_res E E0 l.fewer false v.place.key v.place.depth v.base v.boxes (owns (tree_of o)) (no_hole o) v.res) in
      let leads : below_key st v.base v.boxes ≡ Some (at_key (slot_k t j)) = subst (λ b. below_key st b v.boxes ≡ Some (at_key (slot_k t j))) same.0 (subst (λ m. below_key st f.base m ≡ Some (at_key (slot_k t j))) same.1 (subst (λ q. below_key st f.base f.boxes ≡ Some q) (sym target) f.leads)) in
      off_object (slot_k t) st v.base v.boxes j v.off leads
