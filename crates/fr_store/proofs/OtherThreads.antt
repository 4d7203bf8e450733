-- The start, new threads, and threads that another thread leaves as they were.
use Rattle.std.specs.Prelude.{if◌then◌else◌}
use Rattle.fr_store.proofs.Keys.{decide_key, key_other, key_same}
use Rattle.fr_base.specs.declared.name.ObjNo.{ObjNo}
use Rattle.std.proofs.Common.{◌+◌, ◌≢◌, ◌⊎◌, ◌<◌, ◌≡◌, inr, ℕ, zero, suc, Bool, true, false, List, [], ◌∷◌, length, Option, Some, None, refl, sym, ap, subst, ◌∙◌, arith, inl}
use Rattle.fr_typing.specs.Kinds.{Owned, Kind, own, shared, mutable, view, Piece, whole, gone, boxed}
use Rattle.fr_typing.specs.Places.{Slot}
use Rattle.fr_store.specs.Keys.{Key, same_key}
use Rattle.fr_store.specs.Store.{Location, at_key, ref_v, Store, Place, put_value, value_at, gone_v, box_v, at_object, below_key}
use Rattle.fr_store.specs.Typed.{hole, Exact, owns, refers, KeyTypes, exact_under, here, Typed, Stands}
use Rattle.fr_store.specs.Below.{tree_of, Seen, RefOf, ExactOf, SlotsBelow}
use Rattle.fr_store.specs.Rows.{with_type}
use Rattle.fr_store.specs.Thread.{TempIs, ThreadTyped}
use Rattle.fr_store.specs.OwnedRows.{RaiseRow, StartRow, HandRow, AlikeRow, RoomRow}
use Rattle.fr_store.specs.OtherThreads.{ViewRow, OtherRow, SleepRow, WakeRow, NewThreadRow}
use Rattle.fr_store.proofs.Sound.{res_part, ref_at}
use Rattle.fr_store.proofs.Below.{res_once, res_ref}
use Rattle.fr_store.proofs.Frame.{res_in, res_kept}
use Rattle.fr_store.proofs.Rows.{found_place, borrow, same_store}
use Rattle.fr_store.proofs.ThreadKept.{no_temp, seen_with, whole_tree}

-- at the start there is nothing
pub start_row : StartRow
start_row key rank a = record {
  typed = record {
    stands = λ k n p e. only_hole k n p e;
    below = λ k m u e. absurd (no_ref m u e);
    once = λ i j m u v e f k. absurd (no_ref true u e);
    owner = λ x y o e f. absurd (no_box x o e);
  };
  nested = tt;
  over = λ i il. absurd (omega arith);
  slots = tt;
  above = λ i le. refl;
  temp = refl;
  names = tt;
  quiet = λ j m u e. absurd (no_ref m u e);
  alone = λ j m u e ne. absurd (no_ref m u e);
}
  where
    no_ref : (m : Bool) (u : Place) → owns hole ≡ refers m u → ⊥
    no_ref m u e = cc

    no_box : (l : Location) (o : ObjNo) → value_at (record { at = λ _. gone_v; heap = λ _. None }) l ≡ Some (box_v o) → ⊥
    no_box (at_key k) o e = cc
    no_box (at_object q) o e = cc

    only_hole : (k : Key) (n : ℕ) (p : Exact) → exact_under n (owns hole) ≡ Some p → Stands (λ _. owns hole) (record { at = λ _. gone_v; heap = λ _. None }) (at_key k) n p
    only_hole k zero p e = let g : owns hole ≡ p = cc in subst (Stands (λ _. owns hole) (record { at = λ _. gone_v; heap = λ _. None }) (at_key k) zero) g (record { spot = at_key k; value = gone_v; leads = refl; there = refl; fits = refl })
    only_hole k (suc n) p e = absurd cc

-- another key becomes the hand
pub hand_row : HandRow
hand_row key rank a c e E s t ec free over = record {
  typed = t.typed;
  nested = t.nested;
  over = over;
  slots = t.slots;
  above = t.above;
  temp = ec;
  names = tt;
  quiet = free;
  alone = λ j m u js ne. t.alone j m u js (λ z. no_temp E a m u t.temp (ap E (sym z) ∙ js));
}

-- the hand may rank higher
pub raise_row : RaiseRow
raise_row key rank rank2 a e E s o ks t same le = (
  record { differ = ks.differ; off = ks.off; ranks = λ i j lt. let x = slot_rank i in let y = slot_rank j in let z = ks.ranks i j lt in omega (arith, x, y, z) },
  record {
    typed = record { stands = t.typed.stands; below = below; once = t.typed.once; owner = t.typed.owner };
    nested = t.nested;
    over = λ i il. let x = slot_rank i in let y = t.over i il in omega (arith, x, y, le);
    slots = t.slots;
    above = t.above;
    temp = t.temp;
    names = t.names;
    quiet = t.quiet;
    alone = t.alone;
  },
)
  where
    slot_rank : (i : ℕ) → rank2 (key i) ≡ rank (key i)
    slot_rank i = same (key i) (ks.off i)

    below : (k : Key) (m : Bool) (u : Place) → E k ≡ refers m u → rank2 u.key < rank2 k
    below k m u is = by (decide_key k a)
      where
        low : rank2 u.key ≡ rank u.key
        low = same u.key (t.quiet k m u is)

        before : rank u.key < rank k
        before = t.typed.below k m u is

        by : (k ≡ a) ⊎ (k ≢ a) → rank2 u.key < rank2 k
        by (inl z) = let x = ap rank z in let y = ap rank2 z in omega (arith, low, before, x, y, le)
        by (inr z) = let x = same k z in omega (arith, low, before, x)

-- and high enough for one more slot
pub room_row : RoomRow
room_row key rank a e E s o ks t =
    let rank2 : Key → ℕ = λ j. if same_key j a then suc (rank a) + rank (key (length e)) else rank j in
    let at_hand : rank2 a ≡ suc (rank a) + rank (key (length e)) = key_same a (suc (rank a) + rank (key (length e))) (rank a) in
    let same = λ (j : Key) (ne : j ≢ a). key_other j a (suc (rank a) + rank (key (length e))) (rank j) ne in
    let r = raise_row key rank rank2 a e E s o ks t same (omega (arith, at_hand)) in
    let n = same (key (length e)) (ks.off (length e)) in (rank2, r.0, r.1, omega (arith, at_hand, n), same)

-- only what stands at each location counts
pub alike_row : AlikeRow
alike_row key rank a e E s s2 o f = (thread E, λ x. record { env = x.env; thread = thread x.env x.thread; others = x.others; new = x.new })
  where
    thread : (E : KeyTypes) → ThreadTyped key rank a e E s o → ThreadTyped key rank a e E s2 o
    thread E t = record { typed = same_store rank E E s s2 t.typed (λ k. refl) f; nested = t.nested; slots = t.slots; above = t.above; temp = t.temp; names = t.names; quiet = t.quiet; over = t.over; alone = t.alone }

-- par's capture of a view
pub view_row : ViewRow
view_row key2 rank E s k c u b n o t free is r lent kc low far =
    let q : Place = record { key = k; depth = 1 } in
    let f = ref_at rank E s t k false u is in
    let same = res_once E false false u.key u.depth f.base b f.boxes n f.type (owns (tree_of o)) f.res r in
    let res = res_ref E false k zero k zero (refers false u) false u b n (owns (tree_of o)) (here (ap (exact_under zero) is)) refl (λ z. z) r in
    let g = found_place rank E s false q b n (owns (tree_of o)) t res in
    let target : f.target ≡ g.loc = let h : Some f.target ≡ Some g.loc = sym f.leads ∙ ap (λ z. below_key s z f.boxes) same.0 ∙ ap (below_key s b) same.1 ∙ g.chain in cc in
    let typed = borrow rank E s c false q b n (owns (tree_of o)) g.loc t free res (whole_tree o) lent kc low g.at in (
      q,
      subst (λ v. Typed rank (with_type E c (refers false q)) (put_value s (at_key c) v)) (ap ref_v (sym target) ∙ sym f.is) typed,
      (refl, seen_with key2 E c (refers false q) o q free kc (record { foreign = far; base = b; boxes = n; res = res })),
    )

module _ (key : ℕ → Key) (E E2 : KeyTypes) (theirs : Key → Bool) (others : (j : Key) → theirs j ≡ false → E2 j ≡ E j) (nobody : (j : Key) (m : Bool) (u : Place) → theirs j ≡ false → E j ≡ refers m u → theirs u.key ≡ false) where
  -- references of keys that are not theirs stay, and lead to such keys
  other_refs : (k : Key) (m : Bool) (u : Place) → theirs k ≡ false → E k ≡ refers m u → (E2 k ≡ refers m u) × (theirs u.key ≡ false)
  other_refs k m u kn is = (others k kn ∙ is, nobody k m u kn is)

  -- a view of another thread's value stays
  seen_other : (o : Owned) (u : Place) → theirs u.key ≡ false → Seen key E o u → Seen key E2 o u
  seen_other o u ne c = record {
    foreign = c.foreign;
    base = c.base;
    boxes = c.boxes;
    res = res_kept (λ k. theirs k ≡ false) E E2 st st other_refs false u.key u.depth c.base c.boxes (owns (tree_of o)) c.res ne
        (ap (exact_under c.boxes) (others c.base (res_in (λ k. theirs k ≡ false) E E2 st st other_refs false u.key u.depth c.base c.boxes (owns (tree_of o)) c.res ne)) ∙ res_part E false u.key u.depth c.base c.boxes (owns (tree_of o)) c.res);
  }
    where
      st : Store
      st = record { at = λ _. gone_v; heap = λ _. None }

  -- an exact type stays one of its part
  exact_other : (q : Piece) (x : Exact) → ((m : Bool) (u : Place) → x ≡ refers m u → theirs u.key ≡ false) → ExactOf key E q x → ExactOf key E2 q x
  exact_other q (owns t) ne h = h
  exact_other q (refers m u) ne h = by q h
    where
      by : (q : Piece) → RefOf key E q m u → RefOf key E2 q m u
      by (whole (own o)) h = h
      by (whole (shared us)) h = h
      by (whole (mutable us)) h = h
      by (whole (view o)) h = (h.0, seen_other o u (ne m u refl) h.1)
      by (gone k) h = h
      by (boxed r) h = h

  -- a thread's slots keep their exact types
  slots_other : (e : List Slot) → ((i : ℕ) → theirs (key i) ≡ false) → SlotsBelow key E e → SlotsBelow key E2 e
  slots_other [] off h = tt
  slots_other (s ∷ e) off h =
      let n = length e in
      (subst (ExactOf key E2 s.part) (sym (others (key n) (off n))) (exact_other s.part (E (key n)) (λ m u is. nobody (key n) m u (off n) is) h.0), slots_other e off h.1)

-- a choice by a Boolean
by_bool : {A : Type 0} (b : Bool) → (b ≡ true → A) → (b ≡ false → A) → A
by_bool true f g = f refl
by_bool false f g = g refl

-- another thread's step leaves this one as it was
pub other_row : OtherRow
other_row key rank a e E E2 s s2 o theirs t typed others off offa fresh nobody = record {
  typed = typed;
  nested = t.nested;
  over = t.over;
  slots = slots_other key E E2 theirs others nobody e off t.slots;
  above = λ i le. others (key i) (off i) ∙ t.above i le;
  temp = temp_is o t.temp;
  names = t.names;
  quiet = λ j m u js. by_bool (theirs j) (λ z. (fresh j m u z js).1) (λ z. t.quiet j m u (sym (others j z) ∙ js));
  alone = λ j m u js ne. by_bool (theirs j) (λ z. inr (fresh j m u z js).0) (λ z. t.alone j m u (sym (others j z) ∙ js) ne);
}
  where
    temp_is : (o : Option Kind) → TempIs key E a o → TempIs key E2 a o
    temp_is None h = others a offa ∙ h
    temp_is (Some k) h = subst (ExactOf key E2 (whole k)) (sym (others a offa)) (exact_other key E E2 theirs others nobody (whole k) (E a) (λ m u is. nobody a m u offa is) h)

-- and so where this one waits for its branches
pub sleep_row : SleepRow
sleep_row key rank a e E E2 o theirs t others off offa fresh nobody = record {
  nested = t.nested;
  over = t.over;
  slots = slots_other key E E2 theirs others nobody e off t.slots;
  above = λ i le. others (key i) (off i) ∙ t.above i le;
  temp = temp_is o t.temp;
  names = t.names;
  quiet = λ j m u js. by_bool (theirs j) (λ z. fresh j m u z js) (λ z. t.quiet j m u (sym (others j z) ∙ js));
}
  where
    temp_is : (o : Option Kind) → TempIs key E a o → TempIs key E2 a o
    temp_is None h = others a offa ∙ h
    temp_is (Some k) h = subst (ExactOf key E2 (whole k)) (sym (others a offa)) (exact_other key E E2 theirs others nobody (whole k) (E a) (λ m u is. nobody a m u offa is) h)

-- beginning to wait, and going on
pub wake_row : WakeRow
wake_row key rank a e E s o typed alone = (
  (λ t. record { nested = t.nested; slots = t.slots; above = t.above; temp = t.temp; names = t.names; quiet = t.quiet; over = t.over }),
  (λ t. record { typed = typed; nested = t.nested; slots = t.slots; above = t.above; temp = t.temp; names = t.names; quiet = t.quiet; over = t.over; alone = alone }),
)

-- a new thread
pub new_thread_row : NewThreadRow
new_thread_row key rank a E s typed holes free ea fa = record {
  typed = typed;
  nested = tt;
  slots = tt;
  above = λ i le. holes i;
  temp = ea;
  names = tt;
  quiet = fa;
  over = λ i il. absurd (omega arith);
  alone = λ j m u js ne. inr (λ x. free x j m u js);
}
