-- Steps on owned values in the store of one thread that runs alone.
use Rattle.std.specs.Prelude.{if◌then◌else◌}
use Rattle.fr_store.proofs.PutAt.{length_put}
use Rattle.fr_store.proofs.ListPlaces.{alone_local, list_swap, no_view, place_in}
use Rattle.fr_store.proofs.Sound.{ref_at}
use Rattle.fr_store.specs.Tidy.{Tidy}
use Rattle.fr_typing.proofs.PlaceLemmas.{eq_cases}
use Rattle.fr_store.proofs.ThreadKept.{exact_owned, last_unnamed, depth_of_piece}
use Rattle.fr_store.specs.Below.{ExactOf, tree_of, piece_depth}
use Rattle.fr_store.proofs.Keys.{key_same, object_same}
use Rattle.fr_base.specs.declared.name.ObjNo.{ObjNo}
use Rattle.fr_store.proofs.OwnPaths.{assigned, move_row}
use Rattle.fr_typing.specs.Places.{Slot, put_at}
use Rattle.fr_store.specs.Thread.{After, ThreadKeys}
use Rattle.fr_store.proofs.Tidy.{fresh_box, tidy_alike, tidy_drop, tidy_make, tidy_set, tidy_swap}
use Rattle.fr_store.proofs.Rows.{swap_at, swap_hand, make_others, put_other, swap_other, top_fits}
use Rattle.fr_store.proofs.OtherThreads.{alike_row, room_row, start_row}
use Rattle.fr_store.specs.Typed.{Exact, KeyTypes, RefFits, Typed, Unnamed, hole, owns, refers}
use Rattle.fr_store.specs.ListState.{Objects, IsIn, drop_objects, drop_rest, put_in_heap, put_in_slots, put_object, slot_value, nothing, store_of}
use Rattle.fr_store.proofs.ListDrop.{drop_alike, drop_at, list_drop, list_end}
use Rattle.fr_typing.specs.Kinds.{Kind, own, unit, int, box, whole, gone, Piece}
use Rattle.fr_store.specs.Store.{Alike, Location, Store, Val, at_key, at_object, box_v, drop_link, drop_value, gone_v, int_v, make, put_value, ref_v, swap, unit_v, value_at}
use Rattle.fr_store.proofs.SlotRows.{end_row, let_row, rank_next}
use Rattle.fr_store.proofs.ValueRows.{box_row, drop_row, int_row, read_int_row, read_unit_row, unit_row}
use Rattle.fr_store.specs.Keys.{Key, content_k, hand_k, result_k, slot_k, temp_k}
use Rattle.fr_store.specs.ListRows.{AssignList, BoxList, DropList, EndList, IntList, LetList, MoveList, NoneList, ReadIntList, ReadUnitList, StartList, StateTyped, UnitList, AlikeList}
use Rattle.fr_store.proofs.ListState.{at_hand, at_slot, Alike-then, length_put_slot, list_make, list_push, list_put_hand, list_start, slot_above}
use Rattle.std.proofs.Common.{◌≡◌, ◌≢◌, ℕ, zero, suc, List, None, Option, Some, [], ap, arith, length, refl, subst, sym, ◌∙◌, ◌∷◌, ◌≤◌}

-- WHAT A STEP LEFT

-- a step to a store with the same values
state : (t : ℕ) (slots : List Slot) (vs : List Val) (v : Val) (h : Objects) (temp : Option Kind) (rank : Key → ℕ) (E : KeyTypes) (s : Store) → ThreadKeys (slot_k t) rank (hand_k t) → After (slot_k t) rank (hand_k t) E slots s temp
    → Alike s (store_of t vs v h) → length vs ≡ length slots → Tidy s → StateTyped t slots vs v h temp
state t slots vs v h temp rank E s ks f like long td = record {
  rank = rank;
  types = f.env;
  keys = ks;
  typed = (alike_row (slot_k t) rank (hand_k t) slots f.env s (store_of t vs v h) temp like).0 f.thread;
  long = long;
  tidy = tidy_alike s (store_of t vs v h) td like;
}

-- nothing is at hand after a step that leaves nothing
left_none : (t : ℕ) (slots : List Slot) (vs : List Val) (v : Val) (h : Objects) (rank : Key → ℕ) (E : KeyTypes) (s : Store) → After (slot_k t) rank (hand_k t) E slots s None → Alike s (store_of t vs v h) → v ≡ gone_v
left_none t slots vs v h rank E s f like =
    let g : Some v ≡ Some (s.at (hand_k t)) = ap Some (sym (at_hand nothing t vs v h)) ∙ like (at_key (hand_k t)) in
    let e : v ≡ s.at (hand_k t) = cc in
    e ∙ top_fits rank f.env s f.thread.typed (hand_k t) hole f.thread.temp

-- a write changes no number of slots
length_in : (l : Location) (w : Val) (vs : List Val) → length (put_in_slots l w vs) ≡ length vs
length_in (at_object o) w vs = refl
length_in (at_key (slot_k t n)) w vs = length_put_slot vs n w
length_in (at_key (temp_k t n)) w vs = refl
length_in (at_key (content_k t n)) w vs = refl
length_in (at_key (result_k t)) w vs = refl
length_in (at_key (hand_k u)) w vs = refl

-- a location of the thread is not the hand
not_hand : (t : ℕ) (vs : List Val) (l : Location) → IsIn t vs l → l ≢ at_key (hand_k t)
not_hand t vs (at_object o) i e = cc
not_hand t vs (at_key (slot_k u n)) i e = cc
not_hand t vs (at_key (temp_k u n)) i e = i
not_hand t vs (at_key (content_k u n)) i e = i
not_hand t vs (at_key (result_k u)) i e = i
not_hand t vs (at_key (hand_k u)) i e = i

-- the value in the term and that of a location of the thread change places
tidy_swapped : (t : ℕ) (vs : List Val) (v : Val) (h : Objects) (l : Location) (c : Val) → Tidy (store_of t vs v h) → IsIn t vs l → value_at (store_of t vs v h) l ≡ Some c → Tidy (swap (store_of t vs v h) (hand_k t) l)
tidy_swapped t vs v h l c td i there =
    let s = store_of t vs v h in
    tidy_swap s (swap s (hand_k t) l) (hand_k t) l td (swap_other s (hand_k t) l) (swap_at s (hand_k t) l (not_hand t vs l i)) (swap_hand s (hand_k t) l c there)

-- THE STEPS

-- the start
pub start_list : StartList
start_list t = record {
  rank = rank;
  types = λ _. owns hole;
  keys = record { differ = λ x y e. cc; off = λ i e. cc; ranks = λ i j lt. lt };
  typed = (alike_row (slot_k t) rank (hand_k t) [] (λ _. owns hole) (record { at = λ _. gone_v; heap = λ _. None }) (store_of t [] gone_v (λ _. None)) None (list_start t)).0 (start_row (slot_k t) rank (hand_k t));
  long = refl;
  tidy = tidy_alike (record { at = λ _. gone_v; heap = λ _. None }) (store_of t [] gone_v (λ _. None)) (record { alive = λ l o e. absurd (no_box l o e); held = λ o c e. absurd cc }) (list_start t);
}
  where
    rank : Key → ℕ
    rank (slot_k u n) = n
    rank (temp_k u n) = 0
    rank (content_k u n) = 0
    rank (result_k u) = 0
    rank (hand_k u) = 0

    no_box : (l : Location) (o : ObjNo) → value_at (record { at = λ _. gone_v; heap = λ _. None }) l ≡ Some (box_v o) → ⊥
    no_box (at_key k) o e = cc
    no_box (at_object q) o e = cc

-- nothing is at hand where no value is in the term
pub none_list : NoneList
none_list t slots vs v h x = sym (at_hand nothing t vs v h) ∙ top_fits x.rank x.types (store_of t vs v h) x.typed.typed (hand_k t) hole x.typed.temp

-- only what each object holds counts
pub alike_list : AlikeList
alike_list t slots vs v h h2 temp x f = record {
  rank = x.rank;
  types = x.types;
  keys = x.keys;
  typed = (alike_row (slot_k t) x.rank (hand_k t) slots x.types (store_of t vs v h) (store_of t vs v h2) temp like).0 x.typed;
  long = x.long;
  tidy = tidy_alike (store_of t vs v h) (store_of t vs v h2) x.tidy like;
}
  where
    like : Alike (store_of t vs v h) (store_of t vs v h2)
    like (at_key k) = refl
    like (at_object o) = f o

-- a value at hand that owns nothing
tidy_hand : (t : ℕ) (vs : List Val) (v w : Val) (h : Objects) → Tidy (store_of t vs v h) → v ≡ gone_v → ((o : ObjNo) → w ≡ box_v o → ⊥) → Tidy (put_value (store_of t vs v h) (at_key (hand_k t)) w)
tidy_hand t vs v w h td none plain =
    let s = store_of t vs v h in
    tidy_set s (put_value s (at_key (hand_k t)) w) (hand_k t) td (put_other s (at_key (hand_k t)) w) (λ o e. let g : gone_v ≡ box_v o = sym none ∙ sym (at_hand nothing t vs v h) ∙ e in cc) (λ o e. plain o (sym (key_same (hand_k t) w (s.at (hand_k t))) ∙ e))

-- a number
pub int_list : IntList
int_list t slots vs v h n x =
    let s = store_of t vs v h in
    state t slots vs (int_v n) h (Some (own int)) x.rank x.types (put_value s (at_key (hand_k t)) (int_v n)) x.keys (int_row (slot_k t) x.rank (hand_k t) slots x.types s n x.keys x.typed) (list_put_hand nothing t vs v h (int_v n)) x.long (tidy_hand t vs v (int_v n) h x.tidy (none_list t slots vs v h x) (λ o e. cc))

-- `()`
pub unit_list : UnitList
unit_list t slots vs v h x =
    let s = store_of t vs v h in
    state t slots vs unit_v h (Some (own unit)) x.rank x.types (put_value s (at_key (hand_k t)) unit_v) x.keys (unit_row (slot_k t) x.rank (hand_k t) slots x.types s x.keys x.typed) (list_put_hand nothing t vs v h unit_v) x.long (tidy_hand t vs v unit_v h x.tidy (none_list t slots vs v h x) (λ o e. cc))

-- at a place of type int a number stands
pub read_int_list : ReadIntList
read_int_list t slots vs v h temp w x lt is = read_int_row (slot_k t) x.rank (hand_k t) slots x.types (store_of t vs v h) temp w x.keys x.typed lt is

-- at a place of type unit `()` stands
pub read_unit_list : ReadUnitList
read_unit_list t slots vs v h temp w x lt is = read_unit_row (slot_k t) x.rank (hand_k t) slots x.types (store_of t vs v h) temp w x.keys x.typed lt is

-- moving an owned value out of its place
pub move_list : MoveList
move_list t slots vs v h w o x lt is free mine =
    let s = store_of t vs v h in
    let r = move_row (slot_k t) x.rank (hand_k t) slots x.types s w o x.keys x.typed lt is free mine in
    let p = place_in nothing t x.rank slots x.types vs v h None (alone_local t x.rank slots x.types vs v h None x.typed) x.typed w (whole (own o)) r.0 x.long lt is r.1 in
    let l = r.0 in
    let c = p.1.0 in
    let after = state t (put_at slots w (gone (own o))) (put_in_slots l v vs) c (put_in_heap l v h) (Some (own o)) x.rank x.types (swap s (hand_k t) l) x.keys r.2 (list_swap nothing t vs v h l c p.0 p.1.1)
    (length_in l v vs ∙ x.long ∙ sym (length_put slots w (gone (own o)))) (tidy_swapped t vs v h l c x.tidy p.0 p.1.1) in
    (l, c, r.1, p.1.1, subst (λ z. StateTyped t (put_at slots w (gone (own o))) (put_in_slots l z vs) c (put_in_heap l z h) (Some (own o))) (none_list t slots vs v h x) after)

-- `let`
pub let_list : LetList
let_list t slots vs v h k name x =
    let s = store_of t vs v h in
    let r = room_row (slot_k t) x.rank (hand_k t) slots x.types s (Some k) x.keys x.typed in
    let low = rank_next (slot_k t) r.0 (hand_k t) slots x.types s k r.1 r.2 (λ o e. no_view nothing t x.rank slots x.types vs v h (Some k) (alone_local t x.rank slots x.types vs v h (Some k) x.typed) x.typed o (subst (λ z. ExactOf (slot_k t) x.types (whole z) (x.types (hand_k t))) e x.typed.temp)) in
    let f = let_row (slot_k t) r.0 (hand_k t) slots x.types s k name r.1 r.2 low r.3 in
    let n = length vs in
    let there : value_at s (at_key (slot_k t n)) ≡ Some gone_v = ap Some (at_slot nothing t vs v h n ∙ slot_above vs n (omega arith)) in
    let tidy = tidy_swap s (swap s (hand_k t) (at_key (slot_k t n))) (hand_k t) (at_key (slot_k t n)) x.tidy (swap_other s (hand_k t) (at_key (slot_k t n))) (swap_at s (hand_k t) (at_key (slot_k t n)) (λ e. cc)) (swap_hand s (hand_k t) (at_key (slot_k t n)) gone_v there) in
    state t (record { name = name; part = whole k } ∷ slots) (v ∷ vs) gone_v h None r.0 x.types (swap s (hand_k t) (at_key (slot_k t n))) r.1
    (subst (λ m. After (slot_k t) r.0 (hand_k t) x.types (record { name = name; part = whole k } ∷ slots) (swap s (hand_k t) (at_key (slot_k t m))) None) (sym x.long) f)
    (list_push nothing t vs v h) (ap suc x.long) tidy

-- `w = t` on an own path
pub assign_list : AssignList
assign_list t slots vs v h w o q x lt is plain free mine =
    let s = store_of t vs v h in
    let r = assigned (slot_k t) x.rank (hand_k t) slots x.types s w o q x.keys x.typed lt is plain free mine in
    let l = r.loc in
    let p = place_in nothing t x.rank slots x.types vs v h (Some (own o)) (alone_local t x.rank slots x.types vs v h (Some (own o)) x.typed) x.typed w q l x.long lt is r.at in
    let c = p.1.0 in
    let vs2 = put_in_slots l v vs in
    let h2 = put_in_heap l v h in
    let td = tidy_swapped t vs v h l c x.tidy p.0 p.1.1 in (
      l,
      c,
      r.at,
      p.1.1,
      λ n le.
          let s2 = drop_value n (hand_k t) (swap s (hand_k t) l) in
          let f = r.after n le in
          let like = Alike-then s2 (drop_value n (hand_k t) (store_of t vs2 c h2)) (store_of t vs2 (drop_rest n c h2) (drop_objects n c h2)) (drop_alike n (hand_k t) (swap s (hand_k t) l) (store_of t vs2 c h2) (list_swap nothing t vs v h l c p.0 p.1.1)) (list_drop n nothing t vs2 c h2) in
          let none = left_none t (put_at slots w (whole (own o))) vs2 (drop_rest n c h2) (drop_objects n c h2) x.rank x.types s2 f like in
          let deep = depth_of_piece q r.tree r.of in (
            none,
            subst (λ z. StateTyped t (put_at slots w (whole (own o))) vs2 z (drop_objects n c h2) None) none
                (state t (put_at slots w (whole (own o))) vs2 (drop_rest n c h2) (drop_objects n c h2) None x.rank x.types s2 x.keys f like (length_in l v vs ∙ x.long ∙ sym (length_put slots w (whole (own o))))
                (tidy_drop x.rank r.types (swap s (hand_k t) l) (hand_k t) r.tree n r.typed r.free r.owned (omega (arith, deep, le)) td)),
          ),
    )

-- the end of the value in the term
pub drop_list : DropList
drop_list t slots vs v h o n x le =
    let s = store_of t vs v h in
    let s2 = drop_value n (hand_k t) s in
    let f = drop_row (slot_k t) x.rank (hand_k t) slots x.types s o n x.keys x.typed le in
    let like = list_drop n nothing t vs v h in
    let none = left_none t slots vs (drop_rest n v h) (drop_objects n v h) x.rank x.types s2 f like in
    let owned = exact_owned (slot_k t) x.types o (x.types (hand_k t)) x.typed.temp in (
      none,
      subst (λ z. StateTyped t slots vs z (drop_objects n v h) None) none
          (state t slots vs (drop_rest n v h) (drop_objects n v h) None x.rank x.types s2 x.keys f like x.long (tidy_drop x.rank x.types s (hand_k t) (tree_of o) n x.typed.typed x.typed.quiet owned le x.tidy)),
    )

-- `Box::new`
pub box_list : BoxList
box_list t slots vs v h o n x none =
    let s = store_of t vs v h in
    let f = box_row (slot_k t) x.rank (hand_k t) slots x.types s o n x.keys x.typed none (fresh_box s n x.tidy none) in
    state t slots vs (box_v n) (put_object h n v) (Some (own (box o))) x.rank x.types (make s (hand_k t) n) x.keys f (list_make nothing t vs v h n) x.long
    (tidy_make s (make s (hand_k t) n) (hand_k t) n x.tidy (make_others s (hand_k t) n) none (key_same (hand_k t) (box_v n) (s.at (hand_k t))) (object_same n (Some (s.at (hand_k t))) (h n)))

-- a value of a known part, whose key no type names, ends tidily
tidy_ended : (key : ℕ → Key) (rank : Key → ℕ) (E : KeyTypes) (s : Store) (a : Key) (q : Piece) (n : ℕ) → Typed rank E s → Unnamed E a → ExactOf key E q (E a) → piece_depth q ≤ n → Tidy s → Tidy (drop_value n a s)
tidy_ended key rank E s a q n ty free exact le td = by (E a) refl exact
  where
    by : (p : Exact) → E a ≡ p → ExactOf key E q p → Tidy (drop_value n a s)
    by (owns t) is h = let d = depth_of_piece q t h in tidy_drop rank E s a t n ty free is (omega (arith, d, le)) td
    by (refers m u) is h = go_on n
      where
        r : RefFits E s m u (s.at a)
        r = ref_at rank E s ty a m u is

        go_on : (n : ℕ) → Tidy (drop_value n a s)
        go_on zero = td
        go_on (suc n) =
            subst Tidy (sym (ap (drop_link (drop_value n a) s a) r.is))
            (tidy_set s (put_value s (at_key a) gone_v) a td (put_other s (at_key a) gone_v) (λ o e. let g : ref_v r.target ≡ box_v o = sym r.is ∙ e in cc) (λ o e. let g : gone_v ≡ box_v o = sym (key_same a gone_v (s.at a)) ∙ e in cc))

-- a block's end
pub end_list : EndList
end_list t slots last vs old v h temp n x low le =
    let s = store_of t (old ∷ vs) v h in
    let k = slot_k t (length slots) in
    let f = end_row (slot_k t) x.rank (hand_k t) slots last x.types s temp n x.keys x.typed low le in
    let free = last_unnamed (slot_k t) x.rank (hand_k t) (last ∷ slots) x.types s temp (length slots) (length slots) x.keys x.typed low (omega arith) (omega arith) in
    let long : length vs ≡ length slots = let g = x.long in omega (arith, g) in
    let ends : drop_rest n old h ≡ gone_v =
    ap (λ z. drop_rest n z h) (sym (newest t old vs v h) ∙ ap (λ m. s.at (slot_k t m)) long)
    ∙ sym (drop_at n k s) ∙ top_fits x.rank f.env (drop_value n k s) f.thread.typed k hole (f.thread.above (length slots) (omega arith)) in (
      ends,
      state t slots vs v (drop_objects n old h) temp x.rank x.types (drop_value n k s) x.keys f
          (subst (λ m. Alike (drop_value n (slot_k t m) s) (store_of t vs v (drop_objects n old h))) long (list_end n nothing t old vs v h ends)) long
          (tidy_ended (slot_k t) x.rank x.types s k last.part n x.typed.typed free x.typed.slots.0 le x.tidy),
    )
  where
    newest : (t : ℕ) (old : Val) (vs : List Val) (v : Val) (h : Objects) → (store_of t (old ∷ vs) v h).at (slot_k t (length vs)) ≡ old
    newest t old vs v h = at_slot nothing t (old ∷ vs) v h (length vs) ∙ eq_cases (λ b. (if b then old else slot_value vs (length vs)) ≡ old) (length vs) (length vs) (λ _. refl) (λ ne. absurd (ne refl))
