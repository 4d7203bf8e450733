-- Slots of an environment after one of its places has another part.
use Rattle.std.proofs.Common.{◌≡◌, ◌∙◌, ℕ, zero, suc, Bool, [], ◌∷◌, length, Some, refl, sym, ap, subst}
use Rattle.std.specs.Prelude.{◌==◌, if◌then◌else◌}
use Rattle.fr_base.specs.declared.place.Lval.{Lval}
use Rattle.fr_typing.proofs.PlaceLemmas.{eq_cases}
use Rattle.fr_typing.specs.Kinds.{Owned, unit, int, box, mutex, task, own, shared, mutable, view, Piece, whole, gone, boxed, box_of, map_some}
use Rattle.fr_typing.specs.Places.{Slot, Env, found, type_at, put_under, put_at}
use Rattle.fr_store.specs.Keys.{Key}
use Rattle.fr_store.specs.Typed.{Tree, hole, box_tree, KeyTypes, tree_under}
use Rattle.fr_store.specs.Below.{tree_of, TreeOf, ExactOf, SlotsBelow}
use Rattle.fr_store.proofs.PutAt.{length_put}
use Rattle.fr_sound.specs.States.{env_at, part_at, part_of, owned_part, is_hidden}
use Rattle.law_plain_values.proofs.acts.Slots.{owned_in}

-- slots keep their names
pub hidden_put : (e : Env) (w : Lval) (new : Piece) (i : ℕ) → is_hidden (env_at (put_at e w new) i) ≡ is_hidden (env_at e i)
hidden_put [] w new i = refl
hidden_put (s ∷ e) w new i =
    eq_cases (λ b. is_hidden (env_at (if b then record s { part = put_under w.depth new s.part } ∷ e else s ∷ put_at e w new) i) ≡ is_hidden (env_at (s ∷ e) i)) w.slot (length e)
    (λ at. eq_cases (λ b. is_hidden (if b then Some (record s { part = put_under w.depth new s.part }) else env_at e i) ≡ is_hidden (if b then Some s else env_at e i)) i (length e) (λ q. refl) (λ q. refl))
    (λ ne. ap (λ n. is_hidden (if i == n then Some s else env_at (put_at e w new) i)) (length_put e w new)
    ∙ eq_cases (λ b. is_hidden (if b then Some s else env_at (put_at e w new) i) ≡ is_hidden (if b then Some s else env_at e i)) i (length e) (λ q. refl) (λ q. hidden_put e w new i))

-- and their owned types, where the one that is written keeps its own
pub owned_put : (e : Env) (w : Lval) (new : Piece) → ((s : Slot) → env_at e w.slot ≡ Some s → owned_part (put_under w.depth new s.part) ≡ owned_part s.part) → (i : ℕ) → owned_in (part_at (put_at e w new) i) ≡ owned_in (part_at e i)
owned_put [] w new same i = refl
owned_put (s ∷ e) w new same i =
    eq_cases (λ b. w.slot == length e ≡ b → owned_in (part_at (if b then record s { part = put_under w.depth new s.part } ∷ e else s ∷ put_at e w new) i) ≡ owned_in (part_at (s ∷ e) i)) w.slot (length e)
    (λ at q. eq_cases (λ b. owned_in (part_of (if b then Some (record s { part = put_under w.depth new s.part }) else env_at e i)) ≡ owned_in (part_of (if b then Some s else env_at e i))) i (length e)
    (λ k. same s (ap (λ (b : Bool). if b then Some s else env_at e w.slot) q)) (λ k. refl))
    (λ ne q. ap (λ n. owned_in (part_of (if i == n then Some s else env_at (put_at e w new) i))) (length_put e w new)
    ∙ eq_cases (λ b. owned_in (part_of (if b then Some s else env_at (put_at e w new) i)) ≡ owned_in (part_of (if b then Some s else env_at e i))) i (length e) (λ k. refl)
    (λ k. owned_put e w new (λ z h. same z (ap (λ (b : Bool). if b then Some s else env_at e w.slot) q ∙ h)) i))
    refl

-- a slot's part has the exact type of its key
pub part_exact : (key : ℕ → Key) (E : KeyTypes) (e : Env) (x : ℕ) (s : Slot) → SlotsBelow key E e → env_at e x ≡ Some s → ExactOf key E s.part (E (key x))
part_exact key E [] x s h is = cc
part_exact key E (r ∷ e) x s h is =
    eq_cases (λ b. (if b then Some r else env_at e x) ≡ Some s → ExactOf key E s.part (E (key x))) x (length e)
    (λ q f. let same : r ≡ s = cc in subst (λ (z : Slot). ExactOf key E z.part (E (key x))) same (subst (λ n. ExactOf key E r.part (E (key n))) (sym q) h.0))
    (λ ne f. part_exact key E e x s h.1 f)
    is

-- and is the type of the variable
pub part_type : (e : Env) (x : ℕ) (s : Slot) → env_at e x ≡ Some s → type_at e (record { slot = x; depth = 0 }) ≡ found s.part
part_type [] x s is = cc
part_type (r ∷ e) x s is =
    eq_cases (λ b. (if b then Some r else env_at e x) ≡ Some s → (if b then found r.part else type_at e (record { slot = x; depth = 0 })) ≡ found s.part) x (length e)
    (λ q f. let same : r ≡ s = cc in ap (λ (z : Slot). found z.part) same)
    (λ ne f. part_type e x s f)
    is

-- OWNED TYPES OF PARTS

-- a tree is one owned type's
pub same_tree : (a b : Owned) → tree_of a ≡ tree_of b → a ≡ b
same_tree unit unit e = refl
same_tree int int e = refl
same_tree (box a) (box b) e = ap box (same_tree a b (let f : tree_of a ≡ tree_of b = cc in f))
same_tree (mutex a) (mutex b) e = ap mutex (same_tree a b (let f : tree_of a ≡ tree_of b = cc in f))
same_tree (task a) (task b) e = ap task (same_tree a b (let f : tree_of a ≡ tree_of b = cc in f))
same_tree unit int e = cc
same_tree unit (box b) e = cc
same_tree unit (mutex b) e = cc
same_tree unit (task b) e = cc
same_tree int unit e = cc
same_tree int (box b) e = cc
same_tree int (mutex b) e = cc
same_tree int (task b) e = cc
same_tree (box a) unit e = cc
same_tree (box a) int e = cc
same_tree (box a) (mutex b) e = cc
same_tree (box a) (task b) e = cc
same_tree (mutex a) unit e = cc
same_tree (mutex a) int e = cc
same_tree (mutex a) (box b) e = cc
same_tree (mutex a) (task b) e = cc
same_tree (task a) unit e = cc
same_tree (task a) int e = cc
same_tree (task a) (box b) e = cc
same_tree (task a) (mutex b) e = cc

-- a part of an owned type's whole tree is of that type
part_is : (p : Piece) (t : Tree) (o : Owned) → TreeOf p t → t ≡ tree_of o → owned_part p ≡ Some o
part_is (whole (own a)) t o h e = ap Some (same_tree a o (sym h ∙ e))
part_is (whole (shared us)) t o h e = absurd h
part_is (whole (mutable us)) t o h e = absurd h
part_is (whole (view a)) t o h e = absurd h
part_is (gone k) t o h e = absurd (no_hole o (sym h ∙ e))
  where
    no_hole : (o : Owned) → hole ≡ tree_of o → ⊥
    no_hole unit f = cc
    no_hole int f = cc
    no_hole (box a) f = cc
    no_hole (mutex a) f = cc
    no_hole (task a) f = cc
part_is (boxed p) t o h e = by o (sym h.1 ∙ e) (λ a f. part_is p h.0 a h.2 f)
  where
    by : (o : Owned) → box_tree h.0 ≡ tree_of o → ((a : Owned) → h.0 ≡ tree_of a → owned_part p ≡ Some a) → map_some box (owned_part p) ≡ Some o
    by (box a) f go = ap (map_some box) (go a (let g : h.0 ≡ tree_of a = cc in g))
    by unit f go = cc
    by int f go = cc
    by (mutex a) f go = cc
    by (task a) f go = cc

-- a box around a part is of the box's type
pub owned_box : (p : Piece) → owned_part (box_of p) ≡ map_some box (owned_part p)
owned_box (whole (own o)) = refl
owned_box (whole (shared us)) = refl
owned_box (whole (mutable us)) = refl
owned_box (whole (view o)) = refl
owned_box (gone k) = refl
owned_box (boxed p) = refl

-- a part under which a whole value of that type is put, or goes, is of the type that it was of
pub owned_under : (n : ℕ) (new p : Piece) (t : Tree) (o : Owned) → TreeOf p t → tree_under n t ≡ Some (tree_of o) → owned_part new ≡ Some o → owned_part (put_under n new p) ≡ owned_part p
owned_under zero new p t o h e f = f ∙ sym (part_is p t o h (let g : t ≡ tree_of o = cc in g))
owned_under (suc n) new (whole (own (box a))) t o h e f = owned_box (put_under n new (whole (own a))) ∙ ap (map_some box) (owned_under n new (whole (own a)) (tree_of a) o refl (ap (tree_under (suc n)) (sym h) ∙ e) f)
owned_under (suc n) new (boxed p) t o h e f = owned_box (put_under n new p) ∙ ap (map_some box) (owned_under n new p h.0 o h.2 (ap (tree_under (suc n)) (sym h.1) ∙ e) f)
owned_under (suc n) new (whole (own unit)) t o h e f = refl
owned_under (suc n) new (whole (own int)) t o h e f = refl
owned_under (suc n) new (whole (own (mutex a))) t o h e f = refl
owned_under (suc n) new (whole (own (task a))) t o h e f = refl
owned_under (suc n) new (gone k) t o h e f = refl
owned_under (suc n) new (whole (shared us)) t o h e f = refl
owned_under (suc n) new (whole (mutable us)) t o h e f = refl
owned_under (suc n) new (whole (view a)) t o h e f = refl
