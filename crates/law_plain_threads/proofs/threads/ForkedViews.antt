-- A thread that waits for two may give one of them a view: what a reference into the heap leads to is an object.
use Rattle.std.proofs.Common.{◌≡◌, ◌≢◌, ◌⊎◌, inl, inr, ◌∙◌, ℕ, ◌<◌, Bool, true, false, List, [], length, Some, None, refl, sym, ap, subst, arith}
use Rattle.fr_base.specs.declared.name.ObjNo.{ObjNo}
use Rattle.fr_typing.specs.Kinds.{Owned, unit, Kind, view, whole}
use Rattle.fr_typing.specs.Places.{Env, found, type_at, read_blocked}
use Rattle.fr_typing.specs.Captures.{by_par, captured_kind}
use Rattle.fr_store.specs.Keys.{Key, slot_k}
use Rattle.fr_store.specs.Store.{Location, at_key, ref_v, Store, Place, put_value, below_key}
use Rattle.fr_store.specs.Typed.{owns, refers, Typed, RefFits, Unlent, Resolves, here, exact_under}
use Rattle.fr_store.specs.Below.{tree_of}
use Rattle.fr_store.specs.Rows.{PlaceFound, with_type}
use Rattle.fr_store.proofs.Below.{MutPlace, mut_place, slots_unlent, res_once, res_ref}
use Rattle.fr_store.proofs.Sound.{ref_at}
use Rattle.fr_store.proofs.Rows.{found_place, borrow}
use Rattle.fr_store.proofs.ThreadKept.{seen_with, whole_tree}
use Rattle.fr_plain.specs.declared.value.Value.{Value}
use Rattle.fr_plain.specs.declared.value.Value.TheVariants.{Own, ToSlot, ToObject, Held}
use Rattle.fr_plain.specs.State.{slot_at}
use Rattle.fr_plain.specs.PlainState.{Running, PlainState}
use Rattle.fr_sound.specs.States.{Typing, is_held, WaitsAbove, IsNear}
use Rattle.law_plain_values.specs.acts.Positions.{Position}
use Rattle.law_plain_values.proofs.acts.Lower.{seen_as, UpFrom, up_near, above_before, not_ref}
use Rattle.law_plain_values.proofs.acts.OneThread.{store, Counted}
use Rattle.law_plain_values.proofs.acts.Focus.{Focus}
use Rattle.law_plain_threads.proofs.threads.Views.{Viewed, viewed, off_object}
use Rattle.law_plain_threads.proofs.threads.Given.{Refers, Giver, next_free}
use Rattle.law_plain_threads.proofs.threads.GivenValues.{value_there, stands}
use Rattle.law_plain_threads.proofs.threads.Forked.{Forked, asleep, forked_giver}
use Rattle.law_plain_threads.proofs.threads.GivenCopy.{Copies}

module _ {y : Typing} {a : PlainState Position} {t u w : ℕ} {x xu xw : Running Position} {e n m : Env} {ts : List Kind} {g : Owned} (f : Forked y a t u w x xu xw e n m ts g) (fu : Focus y a u n [] None) (i : ℕ) (lt : i < length e) where
  abbrev s1 : Store
  s1 = store y a

  abbrev from : Key
  from = slot_k t i

  giver : Giver y a t u x xu e n unit
  giver = forked_giver f fu

  there : (v : Value) × (slot_at x.slots i ≡ Some v)
  there = value_there giver i lt

  near : (k : ℕ) (b : Bool) (z : Place) → y.exact (slot_k t k) ≡ refers b z → ((j : ℕ) × (z.key ≡ slot_k t j)) ⊎ UpFrom a t z.key
  near k b z is = by d.near
    where
      d : IsNear a (slot_k t k) z
      d = f.state.near (slot_k t k) b z is

      same : t ≡ d.thread
      same = let q : Some t ≡ Some d.thread = d.of in cc

      by : (d.owner ≡ d.thread) ⊎ WaitsAbove a d.owner d.thread → ((j : ℕ) × (z.key ≡ slot_k t j)) ⊎ UpFrom a t z.key
      by (inl q) = inl (d.slot, d.is ∙ ap (λ v. slot_k v d.slot) (q ∙ sym same))
      by (inr q) = inr (d.owner, d.slot, d.is, subst (WaitsAbove a d.owner) (sym same) q)

  away : (k : Key) (j : ℕ) → UpFrom a t k → k ≢ slot_k t j
  away k j up q =
      let h : slot_k up.0 up.1 ≡ slot_k t j = sym up.2 ∙ q in
      let same : up.0 ≡ t = cc in
      let lt = above_before y a f.state.pairs up.0 t up.3 in
      omega (arith, lt, ap y.order same)

  mut : (k : Key) (z : Place) → y.exact k ≡ refers true z → MutPlace y.exact z
  mut = mut_place y.rank y.exact s1 f.state.typed

  module _ (k : Kind) (o : Owned) (type : type_at e (record { slot = i; depth = 0 }) ≡ found (whole k)) (becomes : captured_kind by_par e k ≡ Some (view o)) (shown : is_held (slot_at x.slots i) ≡ false) where
    seen : Viewed (slot_k t) y.exact mut (UpFrom a t) (up_near a y.exact f.state.near t) away near i o
    seen = viewed (slot_k t) y.exact mut (UpFrom a t) (up_near a y.exact f.state.near t) away near e (asleep f).nested (asleep f).slots i lt k o type becomes

    refers_to : RefFits y.exact s1 false seen.place (s1.at from)
    refers_to = ref_at y.rank y.exact s1 f.state.typed from false seen.place seen.is

    -- it leads to an object
    pub view_there : (q : ObjNo) × (slot_at x.slots i ≡ Some (ToObject q))
    view_there = by there.0 there.1 (sym (stands giver i lt there.0 there.1) ∙ refers_to.is)
      where
        not_own : (j : ℕ) → refers_to.target ≡ at_key (slot_k t j) → ⊥
        not_own j is =
            let same = res_once y.exact false false seen.place.key seen.place.depth refers_to.base seen.base refers_to.boxes seen.boxes refers_to.type (owns (tree_of o)) refers_to.res seen.res in
            off_object (slot_k t) s1 seen.base seen.boxes j seen.off (ap (λ b. below_key s1 b seen.boxes) (sym same.0) ∙ ap (below_key s1 refers_to.base) (sym same.1) ∙ refers_to.leads ∙ ap Some is)

        by : (v : Value) → slot_at x.slots i ≡ Some v → seen_as y.gives t (ref_v (y.marks t i)) (Some v) ≡ ref_v refers_to.target → (q : ObjNo) × (slot_at x.slots i ≡ Some (ToObject q))
        by (Own v) is r = absurd (not_ref y.gives v refers_to.target r)
        by (Held q) is r = let b : true ≡ false = sym (ap is_held is) ∙ shown in absurd cc
        by (ToSlot j) is r = let c : at_key (slot_k t j) ≡ refers_to.target = cc in absurd (not_own j (sym c))
        by (ToObject q) is r = (q, is)

    unlent : read_blocked e i ≡ false → Unlent y.exact from
    unlent blocked j z is q = by (f.foreign j true z is)
      where
        by : ((k : ℕ) × (k < length e) × (j ≡ slot_k t k)) ⊎ ((k : ℕ) → z.key ≡ slot_k t k → (true ≡ false) × Refers (y.exact (slot_k t k))) → ⊥
        by (inl d) = slots_unlent (slot_k t) y.exact (λ b c h. cc) e i d.0 z (asleep f).slots blocked d.1 (ap y.exact (sym d.2) ∙ is) q
        by (inr d) = let c = (d i q).0 in cc

    -- the parent's reference may be named
    abbrev lent : Place
    lent = record { key = slot_k t i; depth = 1 }

    pub view_copies : read_blocked e i ≡ false → (q : ObjNo) → slot_at x.slots i ≡ Some (ToObject q) → Copies y a t u x n (view o) (ToObject q) i (refers false (record { key = slot_k t i; depth = 1 }))
    view_copies blocked q is = record {
      is = is;
      clear = refl;
      typed = subst (λ v. Typed y.rank (with_type y.exact (slot_k u (length n)) (refers false lent)) (put_value s1 (at_key (slot_k u (length n))) v)) (ap ref_v (sym target) ∙ sym refers_to.is)
          (borrow y.rank y.exact s1 (slot_k u (length n)) false lent seen.base seen.boxes (owns (tree_of o)) found_at.loc f.state.typed (next_free giver) res (whole_tree o) (unlent blocked) (λ d. f.differ cc) (f.low i (length n) lt) found_at.at);
      exact = (refl, seen_with (slot_k u) y.exact (slot_k u (length n)) (refers false lent) o lent (next_free giver) (λ d. f.differ cc) (record { foreign = λ j d. f.differ cc; base = seen.base; boxes = seen.boxes; res = res }));
      names = tt;
      view = λ b z d. view b z d;
      plain = λ d. subst Counted (stands giver i lt (ToObject q) is) d;
      sees = λ mark. sym (stands giver i lt (ToObject q) is);
    }
      where
        res : Resolves y.exact false from 1 seen.base seen.boxes (owns (tree_of o))
        res = res_ref y.exact false from 0 from 0 (refers false seen.place) false seen.place seen.base seen.boxes (owns (tree_of o)) (here (ap (exact_under 0) seen.is)) refl (λ z. z) seen.res

        found_at : PlaceFound y.exact s1 lent seen.base seen.boxes (owns (tree_of o))
        found_at = found_place y.rank y.exact s1 false lent seen.base seen.boxes (owns (tree_of o)) f.state.typed res

        same : (seen.base ≡ refers_to.base) × (seen.boxes ≡ refers_to.boxes) × (owns (tree_of o) ≡ refers_to.type)
        same = res_once y.exact false false seen.place.key seen.place.depth seen.base refers_to.base seen.boxes refers_to.boxes (owns (tree_of o)) refers_to.type seen.res refers_to.res

        target : refers_to.target ≡ found_at.loc
        target = some (sym refers_to.leads ∙ ap (λ z. below_key s1 z refers_to.boxes) (sym same.0) ∙ ap (below_key s1 seen.base) (sym same.1) ∙ found_at.chain)
          where
            some : {p q : Location} → Some p ≡ Some q → p ≡ q
            some r = cc

        view : (b : Bool) (z : Place) → refers false lent ≡ refers b z → (b ≡ false) × (z.key ≡ slot_k t i) × Refers (y.exact from)
        view b z d = let c : b ≡ false = cc in let r : z ≡ lent = cc in (c, ap (λ (v : Place). v.key) r, (false, seen.place, seen.is))
