-- What a par captures is there, for both of its threads.
use Rattle.std.proofs.Common.{◌≡◌, ◌≢◌, ◌⊎◌, inl, inr, ℕ, zero, suc, ◌<◌, Bool, true, false, not, List, [], ◌∷◌, ◌++◌, length, reverse, Option, Some, None, refl, sym, ap, subst, ◌∙◌}
use Rattle.std.specs.Prelude.{slice_get, slice_set}
use Rattle.law_results_events.specs.Below.fr_typing.Kinds.{Owned as OwnedType, Kind, own, shared, mutable, view, whole, gone, copies, map_some}
use Rattle.law_results_events.specs.Below.fr_typing.Places.{Env, found, type_at, write_blocked, heap_type, put_at}
use Rattle.law_results_events.specs.Below.fr_typing.Captures.{by_par, captured_kind, captures_copy, captures_move}
use Rattle.law_results_events.specs.Below.fr_code.CodeTypes.{is_variable, SlotPasses, passes, SlotsPass, pass_none, pass_next}
use Rattle.law_results_events.specs.Below.fr_store.Keys.{slot_k}
use Rattle.law_results_events.specs.Below.fr_store.Typed.{hole, owns, KeyTypes}
use Rattle.law_results_events.specs.Below.fr_store.Rows.{with_type}
use Rattle.law_results_events.specs.Below.mut_borrow.declared.shared.SharedRef.{SharedRef}
use Rattle.law_results_events.specs.Below.thread_state.declared.value.Value.{Value}
use Rattle.law_results_events.specs.Below.thread_state.declared.value.Value.TheVariants as value
use Rattle.law_results_events.specs.Below.server_model.Servers.{Cluster}
use Rattle.law_results_events.specs.Below.server_model.Places.{second_of}
use Rattle.law_results_events.specs.Below.server_model.Work.{then_some}
use Rattle.law_results_events.specs.Below.server_model.Start.{captured, left_after, capture_from}
use Rattle.law_results_events.specs.Below.coherent_memory.Follow.{Standing}
use Rattle.law_results_events.specs.Below.coherent_types.Names.{NameTypes}
use Rattle.law_results_events.specs.Below.coherent_types.ClusterTypes.{has_form, slots_wrong}
use Rattle.law_results_events.specs.Below.law_words_paths.paths.HeapStore.{GoesOn, HasPaths}
use Rattle.law_results_events.proofs.Below.law_words_paths.paths.Sole.{some_is}
use Rattle.law_results_events.proofs.Below.law_results_reads.Operands.{owned_form, second_form, Stands, stands}
use Rattle.law_results_events.proofs.enabled.Captures.{set_is, gone_fits, slot_below, named_variable, whole_is}
use Rattle.law_results_events.proofs.enabled.Views.{Left, moved_out, not_slot}

-- a slot that is set to nothing adds no reference
set_found : (xs : List Value) (a i : ℕ) (v : Value) → (v ≢ value.Gone) → slice_get (slice_set xs a value.Gone) i ≡ Some v → slice_get xs i ≡ Some v
set_found [] a i v ne e = absurd (cc e)
set_found (x ∷ xs) zero zero v ne e = absurd (ne (sym (some_is e)))
set_found (x ∷ xs) zero (suc i) v ne e = e
set_found (x ∷ xs) (suc a) zero v ne e = e
set_found (x ∷ xs) (suc a) (suc i) v ne e = set_found xs a i v ne e

-- a view is a reference to an object
view_form : (n : NameTypes) (o : OwnedType) (v : Value) → has_form n (whole (view o)) v ≡ true → (r : SharedRef) × (v ≡ value.Shared r)
view_form n o (value.Shared r) e = (r, refl)
view_form n o _ e = absurd (cc e)

-- a shared reference is one to an object or to a slot
shared_form : (n : NameTypes) (us : List Rattle.law_results_events.specs.Below.fr_base.declared.place.Lval.Lval) (v : Value) → has_form n (whole (shared us)) v ≡ true → ((r : SharedRef) × (v ≡ value.Shared r)) ⊎ ((j : ℕ) × (v ≡ value.SharedSlot j))
shared_form n us (value.Shared r) e = inl (r, refl)
shared_form n us (value.SharedSlot j) e = inr (j, refl)
shared_form n us _ e = absurd (cc e)

-- what moves is owned
moves_owned : (e : Env) (k l : Kind) → captured_kind by_par e k ≡ Some l → copies k ≡ false → (o : OwnedType) × (k ≡ own o) × (l ≡ own o)
moves_owned e (own o) l h c = (o, refl, sym (some_is h))
moves_owned e (view o) l h c = absurd (cc c)
moves_owned e (shared us) l h c = absurd (cc c)
moves_owned e (mutable us) l h c = absurd (cc h)

-- a value that is copied, of a type that is copied
record Copied (l : Kind) (vs : List Value) (i : ℕ) : Type 0 where
  item : Value
  there : slice_get vs i ≡ Some item
  goes : Value
  taken : captured true false item ≡ Some goes
  stays : copies l ≡ true

module _ (k : Cluster) (c : HasPaths k) (x : Standing) (g : GoesOn k x) (n : NameTypes) where
  abbrev t : ℕ
  t = x.thread.number

  -- the slots that are left, under the environment that is left
  pub record Behind (e : Env) (vs : List Value) : Type 0 where
    pub types : KeyTypes
    pub left : Left t c.types.typing.exact types e
    pub fit : slots_wrong n e (reverse vs) ≡ 0
    pub was : (i j : ℕ) → slice_get vs i ≡ Some (value.SharedSlot j) → slice_get x.thread.slots i ≡ Some (value.SharedSlot j)

  copy_case : (e : Env) (vs : List Value) → Behind e vs → (i : ℕ) (q l : Kind) → is_variable e i ≡ true → i < length e → type_at e (record { slot = i; depth = 0 }) ≡ found (whole q) → captured_kind by_par e q ≡ Some l → copies q ≡ true → Copied l vs i
  copy_case e vs b i (own o) l named lt type becomes copied =
      let v = stands n e vs i (whole (own o)) b.fit named type in
      let w = owned_form n o v.item v.form in
      let two = second_form n (own o) v.item copied v.form in
      record { item = v.item; there = v.there; goes = two.0; taken = ap (captured true false) w.1 ∙ sym (ap second_of w.1) ∙ two.1; stays = ap copies (sym (some_is becomes)) ∙ copied }
  copy_case e vs b i (view o) l named lt type becomes copied =
      let v = stands n e vs i (whole (view o)) b.fit named type in
      let w = view_form n o v.item v.form in
      record { item = v.item; there = v.there; goes = value.Shared (record w.0 { pinned = false }); taken = ap (captured true false) w.1; stays = ap copies (sym (some_is becomes)) }
  copy_case e vs b i (shared us) l named lt type becomes copied = by (heap_type e us) becomes (shared_form n us v.item v.form)
    where
      v : Stands n (whole (shared us)) vs i
      v = stands n e vs i (whole (shared us)) b.fit named type

      by : (q : Option OwnedType) → map_some view q ≡ Some l → ((r : SharedRef) × (v.item ≡ value.Shared r)) ⊎ ((j : ℕ) × (v.item ≡ value.SharedSlot j)) → Copied l vs i
      by None h f = absurd (cc h)
      by (Some o) h (inl r) = record { item = v.item; there = v.there; goes = value.Shared (record r.0 { pinned = false }); taken = ap (captured true false) r.1; stays = ap copies (sym (some_is h)) }
      by (Some o) h (inr j) =
          absurd (not_slot k c x g b.types e b.left i j.0 (shared us) o lt type (becomes ∙ ap Some (sym (some_is h))) (b.was i j.0 (v.there ∙ ap Some j.1)))
  copy_case e vs b i (mutable us) l named lt type becomes copied = absurd (cc copied)

  record Took (e : Env) (a : ℕ × Bool) (vs : List Value) : Type 0 where
    item : Value
    there : slice_get vs a.0 ≡ Some item
    goes : Value
    taken : captured true a.1 item ≡ Some goes
    left : Behind e (left_after a.1 vs a.0)

  took : (e e0 e1 e2 : Env) (a : ℕ × Bool) (vs : List Value) → SlotPasses by_par e e0 a e1 e2 → Behind e vs → Took e1 a vs
  took e e0 _ _ _ vs (passes {i = i} {take = take} {k = q} d named (captures_copy {s = s} {k = k2} {l = l} may copied free fresh) part way) b =
      let same_slot : s ≡ i = some_is (sym may.is.named ∙ named) in
      let type : type_at e (record { slot = i; depth = 0 }) ≡ found (whole k2) = subst (λ j. type_at e (record { slot = j; depth = 0 }) ≡ found (whole k2)) same_slot may.is.is in
      let v = copy_case e vs b i k2 l (named_variable e d.name i named) (slot_below e d.name i named) type may.becomes copied in
      let stays : take ≡ false = way ∙ ap (λ z. not (copies z)) (sym (whole_is part)) ∙ ap not v.stays in
      record { item = v.item; there = v.there; goes = v.goes; taken = ap (λ z. captured true z v.item) stays ∙ v.taken; left = subst (λ z. Behind e (left_after z vs i)) (sym stays) b }
  took e e0 _ _ _ vs (passes {i = i} {take = take} {k = q} d named (captures_move {s = s} {k = k2} {l = l} may moved free fresh) part way) b =
      let o = moves_owned e k2 l may.becomes moved in
      let same_slot : s ≡ i = some_is (sym may.is.named ∙ named) in
      let type : type_at e (record { slot = i; depth = 0 }) ≡ found (whole (own o.0)) = subst (λ j. type_at e (record { slot = j; depth = 0 }) ≡ found (whole (own o.0))) same_slot (may.is.is ∙ ap (λ z. found (whole z)) o.1) in
      let is_named = named_variable e d.name i named in
      let v = stands n e vs i (whole (own o.0)) b.fit is_named type in
      let w = owned_form n o.0 v.item v.form in
      let goes : take ≡ true = way ∙ ap (λ z. not (copies z)) (sym (whole_is part) ∙ o.2 ∙ sym o.1) ∙ ap not moved in
      let after : Behind (put_at e (record { slot = i; depth = 0 }) (gone (own o.0))) (slice_set vs i value.Gone) =
      record {
        types = with_type b.types (slot_k t i) (owns hole);
        left = moved_out t c.types.typing.exact b.types e b.left i o.0 (sym (ap (write_blocked e) same_slot) ∙ free);
        fit = ap (slots_wrong n (put_at e (record { slot = i; depth = 0 }) (gone (own o.0)))) (set_is vs i value.Gone) ∙ gone_fits n e (reverse vs) i (own o.0) is_named b.fit;
        was = λ a j h. b.was a j (set_found vs i a (value.SharedSlot j) (λ f. cc) h);
      } in
      record {
        item = v.item;
        there = v.there;
        goes = value.Own w.0;
        taken = ap (λ z. captured true z v.item) goes ∙ ap (captured true true) w.1;
        left =
            subst (λ z. Behind (put_at e (record { slot = s; depth = 0 }) (gone k2)) (left_after z vs i)) (sym goes)
            (subst (λ j. Behind (put_at e (record { slot = j; depth = 0 }) (gone k2)) (slice_set vs i value.Gone)) (sym same_slot)
            (subst (λ z. Behind (put_at e (record { slot = i; depth = 0 }) (gone z)) (slice_set vs i value.Gone)) (sym o.1) after));
      }

  -- all of a list are
  pub record AllTaken (e : Env) (cs : List (ℕ × Bool)) (new vs : List Value) : Type 0 where
    pub result : List Value × List Value
    pub is : capture_from true new cs vs ≡ Some result
    pub left : Behind e result.1

  pub branch_takes : (e e0 e1 e2 : Env) (cs : List (ℕ × Bool)) (new vs : List Value) → SlotsPass by_par e e0 cs e1 e2 → Behind e vs → AllTaken e1 cs new vs
  branch_takes e e0 _ _ _ new vs pass_none b = record { result = (new, vs); is = refl; left = b }
  branch_takes e e0 e2 n2 _ new vs (pass_next {e1 = e1} {n1 = n1} {x = a} {xs = cs} first rest) b =
      let w = took e e0 e1 n1 a vs first b in
      let r = branch_takes e1 n1 e2 n2 cs (new ++ w.goes ∷ []) (left_after a.1 vs a.0) rest w.left in
      record {
        result = r.result;
        is =
            ap (λ o. then_some o (λ v. then_some (captured true a.1 v) (λ u. capture_from true (new ++ u ∷ []) cs (left_after a.1 vs a.0)))) w.there
            ∙ ap (λ o. then_some o (λ u. capture_from true (new ++ u ∷ []) cs (left_after a.1 vs a.0))) w.taken ∙ r.is;
        left = r.left;
      }
