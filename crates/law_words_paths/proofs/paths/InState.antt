-- The object whose cell has the box of an object of the one heap is in the one heap, and what it holds is shown there.
use Rattle.std.proofs.Common.{◌≡◌, ◌⊎◌, inl, inr, ℕ, zero, suc, ◌+◌, ◌≤◌, ◌||◌, Bool, true, false, List, [], ◌∷◌, length, Some, refl, sym, ap, subst, ◌∙◌, arith}
use Rattle.coherent_types.specs.Below.fr_base.declared.name.ObjNo.{ObjNo}
use Rattle.coherent_types.specs.Below.fr_base.declared.label.Plain.{Plain}
use Rattle.coherent_types.specs.Below.heap_partition.Plain.{plain_of}
use Rattle.coherent_types.specs.Below.heap_partition.declared.value.Cell.{Cell}
use Rattle.coherent_types.specs.Below.heap_partition.declared.value.Owned.{Owned}
use Rattle.coherent_types.specs.Below.heap_partition.declared.value.Owned.TheVariants as owned
use Rattle.coherent_types.specs.Below.server_model.Servers.{Cluster}
use Rattle.coherent_types.specs.Below.coherent_memory.Names.{tot, one, Among, boxes, same_object}
use Rattle.coherent_types.specs.Below.coherent_memory.Things.{Thing, holds, lies, flies, things_of}
use Rattle.coherent_types.specs.Below.coherent_memory.Sight.{Sight, sight}
use Rattle.coherent_types.specs.Below.coherent_memory.Weights.{owners, cells}
use Rattle.law_words_paths.specs.paths.HeapStore.{HasPaths}
use Rattle.coherent_types.specs.Below.coherent_memory.OneHeap.{Node, object_n, owns, Owner, a_thread, inside, outside, names, owner_of, named_in, owner_in, any_named, in_state_by, is_in_state, first_shown, cell_value, or_else, if_in, object_value}
use Rattle.coherent_types.proofs.Below.coherent_memory.Words.{itself}

-- THE ONLY ONE

at_least : (f : Thing → ℕ) (x : Thing) (b : List Thing) → Among x b → 1 ≤ f x → 1 ≤ tot f b
at_least f x [] h a = absurd h
at_least f x (y ∷ b) (inl e) a = let here_it : 1 ≤ f y = subst (λ w. 1 ≤ f w) (sym e) a in omega (arith, here_it)
at_least f x (y ∷ b) (inr h) a = omega (arith, at_least f x b h a)

-- of things whose weights are at most one together, two with a weight are the same
pub only_one : (f : Thing → ℕ) (x y : Thing) (b : List Thing) → tot f b ≤ 1 → Among x b → Among y b → 1 ≤ f x → 1 ≤ f y → x ≡ y
only_one f x y [] l p q a c = absurd p
only_one f x y (z ∷ b) l (inl e) (inl d) a c = sym e ∙ d
only_one f x y (z ∷ b) l (inl e) (inr q) a c =
    let here_it : 1 ≤ f z = subst (λ w. 1 ≤ f w) (sym e) a in
    let later = at_least f y b q c in
    absurd (omega (arith, l, here_it, later))
only_one f x y (z ∷ b) l (inr p) (inl d) a c =
    let here_it : 1 ≤ f z = subst (λ w. 1 ≤ f w) (sym d) c in
    let later = at_least f x b p a in
    absurd (omega (arith, l, here_it, later))
only_one f x y (z ∷ b) l (inr p) (inr q) a c = only_one f x y b (omega (arith, l)) p q a c

-- IN THE STATE

or_true : (a b : Bool) → a || b ≡ true → (a ≡ true) ⊎ (b ≡ true)
or_true true b e = inl refl
or_true false b e = inr e

owner_more : (s : Sight) (f g : Node → Bool) → ((n : Node) → f n ≡ true → g n ≡ true) → (o : Owner) → owner_in f o ≡ true → owner_in g o ≡ true
owner_more s f g up a_thread e = refl
owner_more s f g up (inside n) e = up n e
owner_more s f g up outside e = absurd cc

named_more : (s : Sight) (f g : Node → Bool) → ((n : Node) → f n ≡ true → g n ≡ true) → (q : Bool) (o : Owner) → named_in q f o ≡ true → named_in q g o ≡ true
named_more s f g up true o e = owner_more s f g up o e
named_more s f g up false o e = absurd cc

or_more : (a b c d : Bool) → (a ≡ true → c ≡ true) → (b ≡ true → d ≡ true) → a || b ≡ true → c || d ≡ true
or_more true b c d f g e = ap (λ q. q || d) (f refl)
or_more false b true d f g e = refl
or_more false b false d f g e = g e

any_more : (s : Sight) (f g : Node → Bool) → ((n : Node) → f n ≡ true → g n ≡ true) → (n : Node) (b : List Thing) → any_named s f n b ≡ true → any_named s g n b ≡ true
any_more s f g up n [] e = absurd cc
any_more s f g up n (x ∷ b) e =
    or_more (named_in (names n x) f (owner_of s x)) (any_named s f n b) (named_in (names n x) g (owner_of s x)) (any_named s g n b) (named_more s f g up (names n x) (owner_of s x)) (any_more s f g up n b) e

-- who is in the state by so many steps is so by more
in_by_more : (s : Sight) (i : ℕ) (n : Node) → in_state_by i s n ≡ true → in_state_by (suc i) s n ≡ true
in_by_more s zero n e = absurd cc
in_by_more s (suc i) n e = any_more s (in_state_by i s) (in_state_by (suc i) s) (λ m f. in_by_more s i m f) n s.things e

-- who names a node that is in the state
record Namer (s : Sight) (f : Node → Bool) (n : Node) (b : List Thing) : Type 0 where
  thing : Thing
  among : Among thing b
  names_it : names n thing ≡ true
  owner_is_in : owner_in f (owner_of s thing) ≡ true

named_by : (s : Sight) (f : Node → Bool) (n : Node) (b : List Thing) → any_named s f n b ≡ true → Namer s f n b
named_by s f n [] e = absurd cc
named_by s f n (x ∷ b) e = by (names n x) refl (or_true (named_in (names n x) f (owner_of s x)) (any_named s f n b) e) (named_by s f n b)
  where
    by : (q : Bool) → names n x ≡ q → (named_in q f (owner_of s x) ≡ true) ⊎ (any_named s f n b ≡ true) → (any_named s f n b ≡ true → Namer s f n b) → Namer s f n (x ∷ b)
    by true q (inl y) go = record { thing = x; among = inl refl; names_it = q; owner_is_in = y }
    by false q (inl y) go = absurd cc
    by _ q (inr y) go = let w = go y in record { thing = w.thing; among = inr w.among; names_it = w.names_it; owner_is_in = w.owner_is_in }

owned_one : (o : ObjNo) (v : Owned) → owns (object_n o) v ≡ true → 1 ≤ boxes o v
owned_one o (owned.Box p) f = let y : one (same_object p.object o) ≡ 1 = ap one f in omega (arith, y)
owned_one o _ f = absurd cc

names_owner : (o : ObjNo) (x : Thing) → names (object_n o) x ≡ true → 1 ≤ owners o x
names_owner o (holds p v) e = owned_one o v e
names_owner o (lies r a c) e = owned_one o c.value e
names_owner o (flies w c) e = owned_one o c.value e
names_owner o _ e = absurd cc

-- THE OBJECT THAT HAS THE BOX OF AN OBJECT OF THE ONE HEAP

-- what a thing with a cell is
pub data CellThing (c : Cell) : Thing → Type 0 where
  it_lies : (r a : ℕ) → CellThing c (lies r a c)
  it_flies : (w : ℕ) → CellThing c (flies w c)

cell_owner : (o : ObjNo) (c : Cell) (y : Thing) → CellThing c y → 1 ≤ boxes o c.value → 1 ≤ owners o y
cell_owner o c _ (it_lies r a) l = l
cell_owner o c _ (it_flies w) l = l

cell_inside : (s : Sight) (c : Cell) (y : Thing) → CellThing c y → owner_of s y ≡ inside (object_n c.object)
cell_inside s c _ (it_lies r a) = refl
cell_inside s c _ (it_flies w) = refl

cell_weight : (c : Cell) (y : Thing) → CellThing c y → 1 ≤ cells c.object y
cell_weight c _ (it_lies r a) = let y : one (same_object c.object c.object) ≡ 1 = ap one (itself c.object c.object refl) in omega (arith, y)
cell_weight c _ (it_flies w) = let y : one (same_object c.object c.object) ≡ 1 = ap one (itself c.object c.object refl) in omega (arith, y)

holder_in : (s : Sight) (o : ObjNo) (c : Cell) (y : Thing) → tot (owners o) s.things ≤ 1 → CellThing c y → Among y s.things → 1 ≤ boxes o c.value → is_in_state s (object_n o) ≡ true → is_in_state s (object_n c.object) ≡ true
holder_in s o c y few cell h l is = by (length s.things) refl
  where
    by : (i : ℕ) → length s.things ≡ i → is_in_state s (object_n c.object) ≡ true
    by zero e = let q : false ≡ true = sym (ap (λ j. in_state_by j s (object_n o)) e) ∙ is in absurd cc
    by (suc i) e =
        let n = named_by s (in_state_by i s) (object_n o) s.things (sym (ap (λ j. in_state_by j s (object_n o)) e) ∙ is) in
        let same = only_one (owners o) n.thing y s.things few n.among h (names_owner o n.thing n.names_it) (cell_owner o c y cell l) in
        let inner : in_state_by i s (object_n c.object) ≡ true = sym (ap (owner_in (in_state_by i s)) (ap (owner_of s) same ∙ cell_inside s c y cell)) ∙ n.owner_is_in in
        ap (λ j. in_state_by j s (object_n c.object)) e ∙ in_by_more s i (object_n c.object) inner

shown_here : (c : Cell) (y : Thing) (b : List Thing) → CellThing c y → or_else (cell_value c.object y) (first_shown (cell_value c.object) b) ≡ Some (plain_of c.value)
shown_here c _ b (it_lies r a) = ap (λ q. or_else (if_in q (Some (plain_of c.value))) (first_shown (cell_value c.object) b)) (itself c.object c.object refl)
shown_here c _ b (it_flies w) = ap (λ q. or_else (if_in q (Some (plain_of c.value))) (first_shown (cell_value c.object) b)) (itself c.object c.object refl)

shown_past : (o : ObjNo) (v : Plain) (d : Plain) (m : ℕ) (b : List Thing) → 1 ≤ m → first_shown (cell_value o) b ≡ Some v → (q : Bool) → one q + m ≤ 1 → or_else (if_in q (Some d)) (first_shown (cell_value o) b) ≡ Some v
shown_past o v d m b l e true z = absurd (omega (arith, l, z))
shown_past o v d m b l e false z = e

-- the only cell of an object shows its value
shown_only : (c : Cell) (y : Thing) (b : List Thing) → tot (cells c.object) b ≤ 1 → CellThing c y → Among y b → first_shown (cell_value c.object) b ≡ Some (plain_of c.value)
shown_only c y [] few cell h = absurd h
shown_only c y (x ∷ b) few cell (inl e) = subst (λ z. or_else (cell_value c.object z) (first_shown (cell_value c.object) b) ≡ Some (plain_of c.value)) (sym e) (shown_here c y b cell)
shown_only c y (lies r a d ∷ b) few cell (inr h) =
    let later = at_least (cells c.object) y b h (cell_weight c y cell) in
    shown_past c.object (plain_of c.value) (plain_of d.value) (tot (cells c.object) b) b later (shown_only c y b (omega (arith, few)) cell h) (same_object d.object c.object) few
shown_only c y (flies w d ∷ b) few cell (inr h) =
    let later = at_least (cells c.object) y b h (cell_weight c y cell) in
    shown_past c.object (plain_of c.value) (plain_of d.value) (tot (cells c.object) b) b later (shown_only c y b (omega (arith, few)) cell h) (same_object d.object c.object) few
shown_only c y (_ ∷ b) few cell (inr h) = shown_only c y b (omega (arith, few)) cell h

-- an object of the one heap whose box a cell has: the cell's value is shown in the one heap
pub holder_shown : (k : Cluster) → HasPaths k → (o : ObjNo) (c : Cell) (y : Thing) → CellThing c y → Among y (things_of k) → 1 ≤ boxes o c.value → is_in_state (sight k) (object_n o) ≡ true
    → object_value (sight k) c.object ≡ Some (plain_of c.value)
holder_shown k c2 o c y cell h l is =
    let homes = c2.home_of_each in
    let few : tot (owners o) (things_of k) ≤ 1 = omega (arith, c2.owner_of_each o, homes o) in
    let inside_it = holder_in (sight k) o c y few cell h l is in
    ap (λ q. if_in q (first_shown (cell_value c.object) (things_of k))) inside_it ∙ shown_only c y (things_of k) (homes c.object) cell h
