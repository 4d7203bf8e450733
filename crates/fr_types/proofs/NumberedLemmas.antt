-- The shapes of slots by their numbers.
use Rattle.std.proofs.Common.{◌≡◌, ℕ, zero, suc, ◌+◌, ◌-◌, ◌<◌, ◌≤◌, Bool, true, false, List, [], ◌∷◌, ◌++◌, length, get_or, Option, Some, None, refl, sym, ap, ◌∙◌, subst, arith}
use Rattle.std.specs.Prelude.{IsSome, option_to_list, drop, if◌then◌else◌}
use Rattle.fr_base.specs.declared.place.Lval.{Lval}
use Rattle.fr_typing.specs.Kinds.{Owned, Kind, shared, view, Piece, map_some}
use Rattle.fr_typing.specs.Places.{Shape, owned_shape, shared_to, first_shape, kind_shape, piece_shape, star_shape, stars_shape, equal_shapes}
use Rattle.fr_typing.proofs.PlaceLemmas.{eq_cases}
use Rattle.fr_types.specs.declared.shape_node.Sort.{Sort}
use Rattle.fr_types.specs.ShapeTables.{shape_no, shape_of_no, IsNumber, wrapped, wrapped_in, wrapped_no, Keeps}
use Rattle.fr_types.specs.SlotShapes.{slot_shape, place_shape, Known, with_part, without_last, shapes_above, shapes_by, AreNumbers, when_known}
use Rattle.fr_types.proofs.ShapeLemmas.{first_place}
use Rattle.fr_types.proofs.ShapeTableLemmas.{shape_no_there, equal_comm}

-- SLOTS

length-shapes_above : (table : List Shape) (below : List (Option Shape)) (ns : List (Option ℕ)) → length (shapes_above table below ns) ≡ length below + length ns
length-shapes_above table below [] = omega arith
length-shapes_above table below (n ∷ ns) = omega (arith, length-shapes_above table (shape_of_no table n ∷ below) ns)

slot_shape-push : (s : Option Shape) (below : List (Option Shape)) (i : ℕ) → i < length below → slot_shape (s ∷ below) i ≡ slot_shape below i
slot_shape-push s below i lt = eq_cases (λ b. (if b then s else slot_shape below i) ≡ slot_shape below i) i (length below) (λ e. absurd (omega arith)) (λ ne. refl)

slot_shape-last : (s : Option Shape) (below : List (Option Shape)) (i : ℕ) → i ≡ length below → slot_shape (s ∷ below) i ≡ s
slot_shape-last s below i e = eq_cases (λ b. (if b then s else slot_shape below i) ≡ s) i (length below) (λ e2. refl) (λ ne. absurd (ne e))

pub slot_shape-past : (ss : List (Option Shape)) (i : ℕ) → length ss ≤ i → slot_shape ss i ≡ None
slot_shape-past [] i le = refl
slot_shape-past (s ∷ below) i le = eq_cases (λ b. (if b then s else slot_shape below i) ≡ None) i (length below) (λ e. absurd (omega arith)) (λ ne. slot_shape-past below i (omega arith))

above_below : (table : List Shape) (below : List (Option Shape)) (ns : List (Option ℕ)) (i : ℕ) → i < length below → slot_shape (shapes_above table below ns) i ≡ slot_shape below i
above_below table below [] i lt = refl
above_below table below (n ∷ ns) i lt =
    above_below table (shape_of_no table n ∷ below) ns i (omega arith) ∙ slot_shape-push (shape_of_no table n) below i lt

above_at : (table : List Shape) (below : List (Option Shape)) (ns : List (Option ℕ)) (k i : ℕ) → i ≡ length below + k → shape_of_no table (get_or ns k None) ≡ slot_shape (shapes_above table below ns) i
above_at table below [] k i at = sym (slot_shape-past below i (omega arith))
above_at table below (n ∷ ns) zero i at =
    sym (above_below table (shape_of_no table n ∷ below) ns i (omega arith) ∙ slot_shape-last (shape_of_no table n) below i (omega arith))
above_at table below (n ∷ ns) (suc k) i at = above_at table (shape_of_no table n ∷ below) ns k i (omega arith)

-- the shape of a slot is that of its number
pub slot_number : (table : List Shape) (ns : List (Option ℕ)) (i : ℕ) → shape_of_no table (get_or ns i None) ≡ slot_shape (shapes_by table ns) i
slot_number table ns i = above_at table [] ns i i (omega arith)

-- each number of a slot is the table's
pub is_number : (table : List Shape) (ns : List (Option ℕ)) (i : ℕ) → AreNumbers table ns → IsNumber table (get_or ns i None)
is_number table [] i h = tt
is_number table (n ∷ ns) zero h = h.0
is_number table (n ∷ ns) (suc i) h = is_number table ns i h.1

-- MORE SHAPES

pub number_kept : (old new : List Shape) (n : Option ℕ) → Keeps old new → IsNumber old n → IsNumber new n
number_kept old new None k h = tt
number_kept old new (Some n) k h = omega (arith, k.longer)

pub shape_kept : (old new : List Shape) (n : Option ℕ) → Keeps old new → IsNumber old n → shape_of_no new n ≡ shape_of_no old n
shape_kept old new None k h = refl
shape_kept old new (Some n) k h = k.same n h

pub numbers_kept : (old new : List Shape) (ns : List (Option ℕ)) → Keeps old new → AreNumbers old ns → AreNumbers new ns
numbers_kept old new [] k h = tt
numbers_kept old new (n ∷ ns) k h = (number_kept old new n k h.0, numbers_kept old new ns k h.1)

above_kept : (old new : List Shape) (below : List (Option Shape)) (ns : List (Option ℕ)) → Keeps old new → AreNumbers old ns → shapes_above new below ns ≡ shapes_above old below ns
above_kept old new below [] k h = refl
above_kept old new below (n ∷ ns) k h =
    ap (λ s. shapes_above new (s ∷ below) ns) (shape_kept old new n k h.0) ∙ above_kept old new (shape_of_no old n ∷ below) ns k h.1

-- the slots have the shapes that they had
pub shapes_kept : (old new : List Shape) (ns : List (Option ℕ)) → Keeps old new → AreNumbers old ns → shapes_by new ns ≡ shapes_by old ns
shapes_kept old new ns k h = above_kept old new [] ns k h

above_push : (table : List Shape) (below : List (Option Shape)) (ns : List (Option ℕ)) (n : Option ℕ) → shapes_above table below (ns ++ n ∷ []) ≡ shape_of_no table n ∷ shapes_above table below ns
above_push table below [] n = refl
above_push table below (m ∷ ns) n = above_push table (shape_of_no table m ∷ below) ns n

-- one more
pub shapes_push : (table : List Shape) (ns : List (Option ℕ)) (n : Option ℕ) → shapes_by table (ns ++ n ∷ []) ≡ shape_of_no table n ∷ shapes_by table ns
shapes_push table ns n = above_push table [] ns n

pub numbers_push : (table : List Shape) (ns : List (Option ℕ)) (n : Option ℕ) → AreNumbers table ns → IsNumber table n → AreNumbers table (ns ++ n ∷ [])
numbers_push table [] n h i = (i, tt)
numbers_push table (m ∷ ns) n h i = (h.0, numbers_push table ns n h.1 i)

-- PLACES

none_more : (s : Option Shape) (n k : ℕ) → stars_shape n s ≡ None → stars_shape (k + n) s ≡ None
none_more s n zero is = let same : n ≡ 0 + n = omega arith in subst (λ m. stars_shape m s ≡ None) same is
none_more s n (suc k) is = let next : suc (k + n) ≡ suc k + n = omega arith in subst (λ m. stars_shape m s ≡ None) next (ap star_shape (none_more s n k is))

-- what has no shape has none under more stars
pub none_under : (s : Option Shape) (n m : ℕ) → n ≤ m → None ≡ stars_shape n s → None ≡ stars_shape m s
none_under s n m le is = let k : m - n + n ≡ m = omega arith in sym (subst (λ x. stars_shape x s ≡ None) k (none_more s n (m - n) (sym is)))

-- one star more
pub star_under : (table : List Shape) (s : Option Shape) (n k : ℕ) (number r : Option ℕ) → shape_of_no table number ≡ stars_shape n s → number ≡ Some k → shape_of_no table r ≡ star_shape (shape_no table k) → shape_of_no table r ≡ stars_shape (n + 1) s
star_under table s n k number r is some next =
    let more : suc n ≡ n + 1 = omega arith in
    subst (λ m. shape_of_no table r ≡ stars_shape m s) more (next ∙ ap star_shape (sym (ap (shape_of_no table) some) ∙ is))

-- TYPES AND PARTS

none_shared : (s : Shape) (o : Option Shape) → equal_shapes (Some (shared_to s)) (map_some shared_to o) ≡ equal_shapes (Some s) o
none_shared s None = refl
none_shared s (Some t) = refl

-- a view and a reference
pub view_shared : (look : Lval → Option Shape) (k m : Kind) (us xs : List Lval) (d : Lval) (o : Owned) (r : Bool) → k ≡ view o → m ≡ shared us → xs ≡ us → 0 < length us → r ≡ equal_shapes (look (get_or xs 0 d)) (Some (owned_shape o)) → r ≡ equal_shapes (kind_shape look k) (kind_shape look m)
view_shared look k m us xs d o r left right same some is =
    is
    ∙ equal_comm (look (get_or xs 0 d)) (Some (owned_shape o))
    ∙ ap (λ l. equal_shapes (Some (owned_shape o)) (look (get_or l 0 d))) same
    ∙ ap (equal_shapes (Some (owned_shape o))) (sym (first_place look us d some))
    ∙ sym (none_shared (owned_shape o) (first_shape look us))
    ∙ ap (λ x. equal_shapes (kind_shape look (view o)) (kind_shape look x)) (sym right)
    ∙ ap (λ x. equal_shapes (kind_shape look x) (kind_shape look m)) (sym left)

-- a part that has a type's shape, the other way round
pub part_comm : (look : Lval → Option Shape) (p q : Piece) (k : Kind) (r : Bool) → piece_shape look p ≡ kind_shape look k → r ≡ equal_shapes (piece_shape look q) (kind_shape look k) → r ≡ equal_shapes (piece_shape look p) (piece_shape look q)
part_comm look p q k r is same =
    same ∙ equal_comm (piece_shape look q) (kind_shape look k) ∙ ap (λ s. equal_shapes s (piece_shape look q)) (sym is)

-- what is made of a place
pub reference_makes : (table : List Shape) (n : ℕ) (sort : Sort) → n < length table → ((s : Shape) → IsSome (wrapped sort s)) → IsSome (wrapped_no table n sort)
reference_makes table n sort lt h =
    let there = shape_no_there table n lt in
    subst (λ o. IsSome (wrapped_in o sort)) (sym there.1) (h there.0)

-- KNOWN SHAPES

-- one slot more
pub push_known : (old new : List Shape) (ns ms xs : List (Option ℕ)) (number : Option ℕ) (p : Piece) (known : Bool) (now : Known) → known ≡ true → when_known known (shapes_by old ns) ≡ now → xs ≡ ns → ms ≡ ns ++ number ∷ [] → Keeps old new → AreNumbers old ns → shape_of_no new number ≡ piece_shape (place_shape (shapes_by old xs)) p → when_known known (shapes_by new ms) ≡ with_part now p
push_known old new ns ms xs number p known now truth seen same pushed kept h is =
    let shapes : shapes_by new ms ≡ piece_shape (place_shape (shapes_by old ns)) p ∷ shapes_by old ns =
    ap (shapes_by new) pushed
    ∙ shapes_push new ns number
    ∙ ap (λ s. s ∷ shapes_by new ns) (is ∙ ap (λ l. piece_shape (place_shape (shapes_by old l)) p) same)
    ∙ ap (λ l. piece_shape (place_shape (shapes_by old ns)) p ∷ l) (shapes_kept old new ns kept h) in
    ap (λ b. when_known b (shapes_by new ms)) truth
    ∙ ap (λ x. Some x) shapes
    ∙ ap (λ k. with_part k p) (sym (ap (λ b. when_known b (shapes_by old ns)) truth) ∙ seen)

-- the same slots, by a longer table
pub same_known : (old new : List Shape) (ns : List (Option ℕ)) (known : Bool) (now : Known) → when_known known (shapes_by old ns) ≡ now → Keeps old new → AreNumbers old ns → when_known known (shapes_by new ns) ≡ now
same_known old new ns known now seen kept h = ap (when_known known) (shapes_kept old new ns kept h) ∙ seen

-- one slot less
pub numbers_pop : (table : List Shape) (ns : List (Option ℕ)) (r : Option (Option ℕ)) → AreNumbers table (ns ++ option_to_list r) → AreNumbers table ns
numbers_pop table [] r h = tt
numbers_pop table (n ∷ ns) r h = (h.0, numbers_pop table ns r h.1)

pop_shapes : (table : List Shape) (ns ms : List (Option ℕ)) (r : Option (Option ℕ)) → ns ≡ ms ++ option_to_list r → (0 < length ns → IsSome r) → shapes_by table ms ≡ drop 1 (shapes_by table ns)
pop_shapes table ns ms (Some n) e some = sym (ap (drop 1) (ap (shapes_by table) e ∙ shapes_push table ms n))
pop_shapes table [] [] None e some = refl
pop_shapes table [] (m ∷ ms) None e some = absurd cc
pop_shapes table (n ∷ ns) ms None e some = let none : IsSome {T = Option ℕ} None = some (omega arith) in absurd cc

pub pop_known : (table : List Shape) (ns ms : List (Option ℕ)) (r : Option (Option ℕ)) (known : Bool) (now : Known) → when_known known (shapes_by table ns) ≡ now → ns ≡ ms ++ option_to_list r → (0 < length ns → IsSome r) → when_known known (shapes_by table ms) ≡ without_last now
pop_known table ns ms r true now seen e some = ap (λ x. Some x) (pop_shapes table ns ms r e some) ∙ ap without_last seen
pop_known table ns ms r false now seen e some = ap without_last seen
