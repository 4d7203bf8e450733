-- Where the mutable reference stands that a thread's instruction ends: at a key that no type names.
use Rattle.std.proofs.Common.{◌≡◌, ℕ, zero, suc, ◌-◌, true, false, List, [], ◌∷◌, length, Option, Some, None, refl, sym, ap, subst, ◌∙◌, arith}
use Rattle.std.specs.Prelude.{slice_get}
use Rattle.law_words_kept.specs.Below.fr_base.Lists.{last_of}
use Rattle.law_words_kept.specs.Below.fr_base.declared.place.Lval.{Lval}
use Rattle.law_words_kept.specs.Below.fr_base.declared.instruction.Operand.{Operand}
use Rattle.law_words_kept.specs.Below.fr_base.declared.instruction.Instr.{Instr}
use Rattle.law_words_kept.specs.Below.fr_base.declared.instruction.Instr.TheVariants as instr
use Rattle.law_words_kept.specs.Below.fr_store.Keys.{Key, slot_k, temp_k}
use Rattle.law_words_kept.specs.Below.fr_store.Store.{at_key}
use Rattle.law_words_kept.specs.Below.fr_store.Typed.{KeyTypes, Unnamed}
use Rattle.law_words_kept.specs.Below.fr_code.CodeTable.{Leads}
use Rattle.law_words_kept.specs.Below.mut_borrow.declared.mutable.MutRef.{MutRef}
use Rattle.law_words_kept.specs.Below.thread_state.declared.value.Value.{Value}
use Rattle.law_words_kept.specs.Below.thread_state.declared.value.Value.TheVariants as value
use Rattle.law_words_kept.specs.Below.server_model.Servers.{Cluster}
use Rattle.law_words_kept.specs.Below.coherent_memory.Things.{Location, at_slot, at_temp}
use Rattle.law_words_kept.specs.Below.coherent_memory.Follow.{Standing, Ground, slot_of, temp_of, value_in}
use Rattle.law_words_kept.specs.Below.coherent_memory.Paths.{ends, ending, assigning, taking, path_of}
use Rattle.law_words_kept.specs.Below.coherent_memory.Sight.{sight}
use Rattle.law_words_kept.specs.Below.coherent_memory.Walking.{instr_of, path}
use Rattle.law_words_kept.specs.Below.law_words_paths.paths.HeapStore.{GoesOn, HasPaths}
use Rattle.law_words_kept.specs.Below.law_words_paths.paths.Pointing.{assigns}
use Rattle.law_words_kept.proofs.Below.law_words_paths.paths.Sole.{some_is}
use Rattle.law_words_kept.proofs.Below.law_words_paths.paths.Shown.{stands_there}
use Rattle.law_words_kept.proofs.Below.law_words_paths.paths.Forms.{running_typed}
use Rattle.law_words_kept.proofs.Below.law_words_paths.paths.MayWrites.{may_write_there}
use Rattle.law_words_kept.proofs.Below.law_words_paths.paths.Ended.{newest_free, dropped_at}
use Rattle.law_words_kept.proofs.Below.law_words_paths.paths.Pointers.{temp_unnamed}
use Rattle.law_words_kept.proofs.Below.law_words_paths.paths.FreshPaths.{MutThere, slot_there, temp_there}

same_ref : {q r : MutRef} → ends q ≡ ends r → q ≡ r
same_ref e = cc

-- what an end ends
ending_is : (v : Option Value) (r : MutRef) → ending v ≡ ends r → v ≡ Some (value.Mut r)
ending_is (Some (value.Mut q)) r e = ap (λ z. Some (value.Mut z)) (same_ref e)
ending_is None r e = absurd cc
ending_is (Some value.Gone) r e = absurd cc
ending_is (Some (value.Own v)) r e = absurd cc
ending_is (Some (value.SharedSlot i)) r e = absurd cc
ending_is (Some (value.MutSlot i)) r e = absurd cc
ending_is (Some (value.Shared q)) r e = absurd cc
ending_is (Some (value.Held m)) r e = absurd cc

-- the last of a list
pub last_is : {A : Type 0} (xs : List A) (v : A) → last_of xs ≡ Some v → (i : ℕ) × (length xs ≡ suc i) × (slice_get xs i ≡ Some v)
last_is [] v e = absurd cc
last_is (x ∷ xs) v e = (length xs, refl, ap (slice_get (x ∷ xs)) (one_less (length xs)) ∙ e)
  where
    one_less : (n : ℕ) → n ≡ suc n - 1
    one_less n = omega arith

pub key_of : {a b : Key} → at_key a ≡ at_key b → a ≡ b
key_of e = cc

slots_of_one : {t u i j : ℕ} → slot_k t i ≡ slot_k u j → t ≡ u
slots_of_one e = cc

temp_no_slot : {t u i j : ℕ} → temp_k t i ≡ slot_k u j → ⊥
temp_no_slot e = absurd cc

module _ (k : Cluster) (c : HasPaths k) (x : Standing) (g : GoesOn k x) where
  abbrev n : ℕ
  n = x.thread.number

  abbrev E : KeyTypes
  E = c.types.typing.exact

  abbrev ground : Ground
  ground = (sight k).ground

  -- the reference in the thread, at a key of its own that no type names
  pub record EndsAt (r : MutRef) : Type 0 where
    pub at : Location
    pub stands : value_in ground at ≡ Some (value.Mut r)
    pub there : MutThere k c x at r
    pub free : Unnamed E there.key
    pub own : (t i : ℕ) → there.key ≡ slot_k t i → t ≡ n

  slot_ends : (i : ℕ) (r : MutRef) → slice_get x.thread.slots i ≡ Some (value.Mut r) → Unnamed E (slot_k n i) → EndsAt r
  slot_ends i r e free =
      let m = slot_there k c x g i r e in
      let same : slot_k n i ≡ m.key = key_of m.is in
      record {
        at = at_slot n i;
        stands = ap (λ o. slot_of o i) (stands_there k c x g) ∙ e;
        there = m;
        free = subst (Unnamed E) same free;
        own = λ t j s. sym (slots_of_one (same ∙ s));
      }

  temp_ends : (i : ℕ) (r : MutRef) → slice_get x.thread.temps i ≡ Some (value.Mut r) → EndsAt r
  temp_ends i r e =
      let m = temp_there k c x g i r e in
      let same : temp_k n i ≡ m.key = key_of m.is in
      record {
        at = at_temp n i;
        stands = ap (λ o. temp_of o i) (stands_there k c x g) ∙ e;
        there = m;
        free = subst (Unnamed E) same (temp_unnamed k c n i);
        own = λ t j s. absurd (temp_no_slot (same ∙ s));
      }

  pub ends_at : (r : MutRef) → path (sight k) x ≡ ends r → EndsAt r
  ends_at r e = by (instr_of (sight k) x) refl e
    where
      by_assign : (w : Lval) (o : Operand) → instr_of (sight k) x ≡ Some (instr.Assign w o) → (d : ℕ) → assigning x.thread.slots w d ≡ ends r → EndsAt r
      by_assign w o at zero f = slot_ends w.slot r (ending_is (slice_get x.thread.slots w.slot) r f) (may_write_there k c x g (instr.Assign w o) w at assigns).free
      by_assign w o at (suc d) f = absurd cc

      by_take : (w : Lval) (d : ℕ) → taking w d ≡ ends r → EndsAt r
      by_take w zero f = absurd cc
      by_take w (suc d) f = absurd cc

      by_drop : instr_of (sight k) x ≡ Some instr.DropSlot → ending (last_of x.thread.slots) ≡ ends r → EndsAt r
      by_drop at f =
          let l = last_is x.thread.slots (value.Mut r) (ending_is (last_of x.thread.slots) r f) in
          let entry = (running_typed k c x g).entry in
          let row = c.types.is_table.rows x.thread.pc entry (running_typed k c x g).known in
          let same : row.instruction ≡ instr.DropSlot = some_is (sym row.there ∙ at) in
          let d = dropped_at c.types.table x.thread.pc entry row.successors (subst (λ z. Leads c.types.table x.thread.pc entry z row.successors) same row.leads) in
          slot_ends l.0 r l.2 (newest_free k c x g l.0 l.1 d)

      by_discard : ending (last_of x.thread.temps) ≡ ends r → EndsAt r
      by_discard f = let l = last_is x.thread.temps (value.Mut r) (ending_is (last_of x.thread.temps) r f) in temp_ends l.0 r l.2

      by : (i : Option Instr) → instr_of (sight k) x ≡ i → path_of i x.thread ≡ ends r → EndsAt r
      by (Some (instr.Assign w o)) at f = by_assign w o at w.depth f
      by (Some (instr.Read w true)) at f = by_take w w.depth f
      by (Some instr.DropSlot) at f = by_drop at f
      by (Some instr.Discard) at f = by_discard f
      by None at f = absurd cc
      by (Some (instr.Read w false)) at f = absurd cc
      by (Some (instr.Dup w)) at f = absurd cc
      by (Some (instr.Lock w)) at f = absurd cc
      by (Some (instr.Borrow w)) at f = absurd cc
      by (Some (instr.BorrowMut w)) at f = absurd cc
      by (Some (instr.Let o)) at f = absurd cc
      by (Some (instr.Box o)) at f = absurd cc
      by (Some (instr.Arith op a b)) at f = absurd cc
      by (Some (instr.Print o)) at f = absurd cc
      by (Some (instr.Spawn cs body)) at f = absurd cc
      by (Some (instr.Join o)) at f = absurd cc
      by (Some (instr.Mutex o)) at f = absurd cc
      by (Some instr.Unlock) at f = absurd cc
      by (Some (instr.Par cs body ds other)) at f = absurd cc
      by (Some instr.ParEnd) at f = absurd cc
      by (Some (instr.End o)) at f = absurd cc
