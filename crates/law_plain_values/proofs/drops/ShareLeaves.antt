-- The end of a drop of one value of a mutex of several.
use Rattle.std.proofs.Common.{◌≡◌, ◌≢◌, ⊎_elim, ◌∙◌, ℕ, suc, ◌<◌, Option, Some, None, refl, sym, ap, subst, arith}
use Rattle.fr_base.specs.declared.label.Plain.{Plain}
use Rattle.fr_base.specs.declared.label.Plain.TheVariants as plain
use Rattle.fr_base.specs.declared.name.ObjNo.{ObjNo}
use Rattle.fr_base.specs.declared.name.MutexNo.{MutexNo}
use Rattle.fr_typing.specs.Kinds.{Piece}
use Rattle.fr_store.specs.Keys.{slot_k, content_k}
use Rattle.fr_store.specs.Store.{at_key, gone_v, mutex_v, Store, value_at}
use Rattle.fr_store.specs.Typed.{Tree, hole, owns, KeyTypes}
use Rattle.fr_store.specs.Below.{tree_of}
use Rattle.fr_store.specs.Rows.{with_type}
use Rattle.fr_store.proofs.Keys.{key_other}
use Rattle.fr_plain.specs.MachineThreads.{ended, Shared}
use Rattle.fr_plain.specs.PlainState.{Running, PlainState, place_in}
use Rattle.fr_sound.specs.States.{Typing, content_val, IsKept, IsShare, IsMark, MutexTyped}
use Rattle.law_plain_values.specs.acts.Positions.{Position, PositionTypes}
use Rattle.law_plain_values.proofs.acts.OneThread.{store, typing_with}
use Rattle.law_plain_values.proofs.acts.Mutexes.{decide_mutex}
use Rattle.law_plain_values.proofs.drops.Carrier.{Carries}
use Rattle.law_plain_values.proofs.drops.Shapes.{Went}
use Rattle.law_plain_values.proofs.drops.Fewer.{one_fewer}
use Rattle.law_plain_values.proofs.drops.Leaves.{carrier_leaves, kept_off, none_off, results_by}
use Rattle.law_plain_values.proofs.acts.Refs.{NoneNew, none_owns}

module _ {y : Typing} {a : PlainState Position} {u : ℕ} {p : Piece} {m : MutexNo} (c : Carries y a u p (plain.Mutex m)) (content : Option Plain) (n : ℕ) (was : a.mutex m ≡ Some (record { content = content; shares = suc (suc n) })) (a2 : PlainState Position) (none : a2.thread u ≡ None) (others : (k : ℕ) → k ≢ u → a2.thread k ≡ a.thread k) (pairs : (k : ℕ) → a2.pair k ≡ a.pair k)
    (now : a2.mutex m ≡ Some (record { content = content; shares = suc n })) (mutexes : (k : MutexNo) → k ≢ m → a2.mutex k ≡ a.mutex k) (given : (k : MutexNo) → a2.is_given k ≡ a.is_given k) (objects : (b : ObjNo) → a2.object b ≡ a.object b)
    (made : (b : ObjNo) (w : Plain) (z : Running Position) → a2.object b ≡ Some w → place_in (a2.thread b.thread) ≡ Some z → b.count < a2.made b.thread) where
  abbrev R : Tree
  R = tree_of (y.gives.mutex m)

  abbrev E2 : KeyTypes
  E2 = with_type y.exact (slot_k u 0) (owns hole)

  abbrev s1 : Store
  s1 = store y a

  abbrev s2 : Store
  s2 = store (typing_with y E2 y.marks) a2

  contents : (k : MutexNo) → content_val y.gives (a2.mutex k) ≡ content_val y.gives (a.mutex k)
  contents k = ⊎_elim (λ (e : k ≡ m). ap (λ i. content_val y.gives (a2.mutex i)) e ∙ ap (content_val y.gives) now ∙ sym (ap (content_val y.gives) was) ∙ ap (λ i. content_val y.gives (a.mutex i)) (sym e)) (λ (ne : k ≢ m). ap (content_val y.gives) (mutexes k ne)) (decide_mutex k m)

  abbrev fewer : Shared
  fewer = record { content = content; shares = suc n }

  typed : Went s1 s2 (slot_k u 0) (mutex_v m R) → ((k i : ℕ) → IsMark a m k i → IsMark a2 m k i) → ((k i : ℕ) → IsMark a2 m k i → IsMark a m k i) → MutexTyped (typing_with y E2 y.marks) a2 s2 m fewer
  typed went to back =
      let h = c.state.mutexes m (record { content = content; shares = suc (suc n) }) was in
      record {
        given = given m ∙ h.given;
        shares = one_fewer (IsShare s1 m) (IsShare s2 m) (suc n) (at_key (slot_k u 0)) h.shares (R, ap Some went.was)
            (λ l q. let ne : l ≢ at_key (slot_k u 0) = λ e. (let g : Some gone_v ≡ Some (mutex_v m q.0) = ap Some (sym went.now) ∙ sym (ap (value_at s2) e) ∙ q.1 in cc) in ((q.0, sym (went.same l ne) ∙ q.1), ne))
            (λ l q ne. (q.0, went.same l ne ∙ q.1));
        needed = omega arith;
        out = λ f. let d = h.out f in record { thread = d.thread; slot = d.slot; is = to d.thread d.slot d.is; only = λ k i q. d.only k i (back k i q) };
        unheld = λ w f k i q. h.unheld w f k i (back k i q);
        content = λ w f. key_other (content_k m.home m.count) (slot_k u 0) (owns hole) (y.exact (content_k m.home m.count)) (λ e. cc) ∙ h.content w f;
      }

  pub share_leaves : (z : Typing) × PositionTypes z a2 × (z.gives ≡ y.gives) × NoneNew y.exact z.exact
  share_leaves = (
    typing_with y (with_type y.exact (slot_k u 0) (owns hole)) y.marks,
    carrier_leaves c a2 none (λ k ne. ap place_in (others k ne)) (results_by c a2 none others) pairs contents given objects made
        (λ k r e. sym (others k (λ f. let g : None ≡ Some (ended r) = sym none ∙ ap a2.thread (sym f) ∙ e in cc)) ∙ e)
        (λ o e. cc)
        (λ k h ne. subst IsKept (sym (others k (kept_off c k h))) h)
        (λ k h. (subst IsKept (others k (none_off a2 u none k h)) h, λ r e. cc))
        (λ k ne. mutexes k (λ f. ne R (ap (λ z. mutex_v z R) (sym f))))
        (λ k d e. let same : k ≡ m = cc in (fewer, ap a2.mutex same ∙ now))
        (λ k d e went to back z f.
        let same : m ≡ k = cc in
        let g : Some fewer ≡ Some z = sym now ∙ ap a2.mutex same ∙ f in
        let is : fewer ≡ z = cc in
        subst (λ i. MutexTyped (typing_with y E2 y.marks) a2 s2 i z) same (subst (MutexTyped (typing_with y E2 y.marks) a2 s2 m) is (typed went (λ j i q. subst (λ b. IsMark a2 b j i) (sym same) (to j i (subst (λ b. IsMark a b j i) same q))) (λ j i q. subst (λ b. IsMark a b j i) (sym same) (back j i (subst (λ b. IsMark a2 b j i) same q)))))),
    refl,
    none_owns y.exact (slot_k u 0) hole,
  )
