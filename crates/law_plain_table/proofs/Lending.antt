-- The block of a program gives an owned value: no slot of main has a view, and a type of references names some place.
use Rattle.std.proofs.Common.{◌≡◌, ◌==◌, ℕ, zero, suc, Bool, true, false, ◌-◌, List, [], ◌∷◌, length, drop, Option, Some, None, refl, subst, arith}
use Rattle.std.specs.Prelude.{⊤, nat_le, if◌then◌else◌}
use Rattle.std.specs.List.{list_any}
use Rattle.std.proofs.lemmas.Bool.{leb-false}
use Rattle.fr_store.proofs.Below.{or_false}
use Rattle.fr_base.specs.declared.place.Lval.{Lval}
use Rattle.fr_terms.specs.Terms.{Spot, Captured, Term, Items}
use Rattle.fr_typing.specs.Kinds.{Owned, unit, int, box, mutex, task, same_owned, Kind, own, shared, mutable, view, Piece, whole, gone, boxed, box_of, lval_lt, insert_lval, union, SetTest, join_kind, join_piece, map_some}
use Rattle.fr_typing.specs.Places.{Env, Found, found, undefined, no_target, then_found, found_or_none, join_found, join_all, join_set, star, stars, alike, type_at, on_path, is_mutable, put_under, put_at}
use Rattle.fr_typing.specs.Checks.{place_of, names_from, set_through}
use Rattle.fr_typing.specs.Finding.{Has}
use Rattle.fr_typing.specs.Captures.{Capturer, spot_of, Captures, captures_copy, captures_move, CapturesAll, captures_none, captures_next}
use Rattle.fr_typing.specs.Typing.{Types, types_number, types_unit, types_copy, types_move, types_borrow, types_borrow_mut, types_box, types_mutex, types_arith, types_print, types_let, types_assign, types_block, types_join, types_dup, types_lock, types_spawn, types_par, TypesItems, types_none, types_item}

abbrev IsSome : List Lval → Type 0
IsSome [] = ⊥
IsSome (u ∷ us) = ⊤

-- no view, and references to some place
abbrev pub Lends : Kind → Type 0
Lends (own o) = ⊤
Lends (shared us) = IsSome us
Lends (mutable us) = IsSome us
Lends (view o) = ⊥

abbrev LendsPart : Piece → Type 0
LendsPart (whole k) = Lends k
LendsPart (gone k) = Lends k
LendsPart (boxed p) = LendsPart p

abbrev pub AllLend : Env → Type 0
AllLend [] = ⊤
AllLend (s ∷ e) = LendsPart s.part × AllLend e

-- TYPES OF PLACES

some_if : (b c : Bool) (us vs ws : List Lval) → IsSome us → IsSome vs → IsSome ws → IsSome (if b then us else (if c then vs else ws))
some_if true c us vs ws h i j = h
some_if false true us vs ws h i j = i
some_if false false us vs ws h i j = j

some_insert : (u : Lval) (vs : List Lval) → IsSome (insert_lval u vs)
some_insert u [] = tt
some_insert u (v ∷ vs) = some_if (lval_lt u v) (lval_lt v u) (u ∷ v ∷ vs) (v ∷ insert_lval u vs) (v ∷ vs) tt tt tt

some_union : (us vs : List Lval) → IsSome us → IsSome (union us vs)
some_union [] vs h = absurd h
some_union (u ∷ us) vs h = some_insert u (union us vs)

abbrev LendsSome : Option Kind → Type 0
LendsSome None = ⊤
LendsSome (Some k) = Lends k

lends_if : (b : Bool) (o : Option Kind) → LendsSome o → LendsSome (if b then o else None)
lends_if true o h = h
lends_if false o h = tt

lends_join : (same : SetTest) (a b : Kind) → Lends a → LendsSome (join_kind same a b)
lends_join same (own a) (own b) h = lends_if (same_owned a b) (Some (own a)) tt
lends_join same (own a) (shared b) h = tt
lends_join same (own a) (mutable b) h = tt
lends_join same (own a) (view b) h = tt
lends_join same (shared a) (own b) h = tt
lends_join same (shared a) (shared b) h = lends_if (same a b) (Some (shared (union a b))) (some_union a b h)
lends_join same (shared a) (mutable b) h = tt
lends_join same (shared a) (view b) h = tt
lends_join same (mutable a) (own b) h = tt
lends_join same (mutable a) (shared b) h = tt
lends_join same (mutable a) (mutable b) h = lends_if (same a b) (Some (mutable (union a b))) (some_union a b h)
lends_join same (mutable a) (view b) h = tt
lends_join same (view a) (own b) h = absurd h
lends_join same (view a) (shared b) h = absurd h
lends_join same (view a) (mutable b) h = absurd h
lends_join same (view a) (view b) h = absurd h

abbrev LendsSomePart : Option Piece → Type 0
LendsSomePart None = ⊤
LendsSomePart (Some p) = LendsPart p

lends_whole : (o : Option Kind) → LendsSome o → LendsSomePart (map_some whole o)
lends_whole None h = tt
lends_whole (Some k) h = h

lends_gone : (o : Option Kind) → LendsSome o → LendsSomePart (map_some gone o)
lends_gone None h = tt
lends_gone (Some k) h = h

lends_boxed : (o : Option Piece) → LendsSomePart o → LendsSomePart (map_some boxed o)
lends_boxed None h = tt
lends_boxed (Some p) h = h

lends_part : (same : SetTest) (a b : Piece) → LendsPart a → LendsSomePart (join_piece same a b)
lends_part same (whole a) (whole b) h = lends_whole (join_kind same a b) (lends_join same a b h)
lends_part same (whole a) (gone b) h = tt
lends_part same (whole a) (boxed b) h = tt
lends_part same (gone a) (whole b) h = tt
lends_part same (gone a) (gone b) h = lends_gone (join_kind same a b) (lends_join same a b h)
lends_part same (gone a) (boxed b) h = tt
lends_part same (boxed a) (whole b) h = tt
lends_part same (boxed a) (gone b) h = tt
lends_part same (boxed a) (boxed b) h = lends_boxed (join_piece same a b) (lends_part same a b h)

abbrev LendsFound : Found → Type 0
LendsFound (found p) = LendsPart p
LendsFound undefined = ⊤
LendsFound no_target = ⊤

lends_or_none : (o : Option Piece) → LendsSomePart o → LendsFound (found_or_none o)
lends_or_none None h = tt
lends_or_none (Some p) h = h

lends_found : (same : SetTest) (f g : Found) → LendsFound f → LendsFound g → LendsFound (join_found same f g)
lends_found same (found p) (found q) h i = lends_or_none (join_piece same p q) (lends_part same p q h)
lends_found same (found p) undefined h i = tt
lends_found same (found p) no_target h i = tt
lends_found same undefined g h i = tt
lends_found same no_target g h i = tt

lends_all : (same : SetTest) (look : Lval → Found) (f : Found) (us : List Lval) → ((u : Lval) → LendsFound (look u)) → LendsFound f → LendsFound (join_all same look f us)
lends_all same look f [] h i = i
lends_all same look f (u ∷ us) h i = lends_all same look (join_found same f (look u)) us h (lends_found same f (look u) i (h u))

lends_set : (same : SetTest) (look : Lval → Found) (us : List Lval) → ((u : Lval) → LendsFound (look u)) → LendsFound (join_set same look us)
lends_set same look [] h = tt
lends_set same look (u ∷ us) h = lends_all same look (look u) us h (h u)

lends_star : (same : SetTest) (look : Lval → Found) (p : Piece) → ((u : Lval) → LendsFound (look u)) → LendsPart p → LendsFound (star same look p)
lends_star same look (whole (own unit)) h i = tt
lends_star same look (whole (own int)) h i = tt
lends_star same look (whole (own (box o))) h i = tt
lends_star same look (whole (own (mutex o))) h i = tt
lends_star same look (whole (own (task o))) h i = tt
lends_star same look (whole (shared us)) h i = lends_set same look us h
lends_star same look (whole (mutable us)) h i = lends_set same look us h
lends_star same look (whole (view o)) h i = absurd i
lends_star same look (gone k) h i = tt
lends_star same look (boxed p) h i = i

lends_then : (f : Found) (go : Piece → Found) → LendsFound f → ((p : Piece) → LendsPart p → LendsFound (go p)) → LendsFound (then_found f go)
lends_then (found p) go h i = i p h
lends_then undefined go h i = tt
lends_then no_target go h i = tt

lends_stars : (same : SetTest) (look : Lval → Found) (n : ℕ) (p : Piece) → ((u : Lval) → LendsFound (look u)) → LendsPart p → LendsFound (stars same look n p)
lends_stars same look zero p h i = i
lends_stars same look (suc n) p h i = lends_then (stars same look n p) (star same look) (lends_stars same look n p h i) (λ q j. lends_star same look q h j)

either_lends : (b : Bool) (f g : Found) → LendsFound f → LendsFound g → LendsFound (if b then f else g)
either_lends true f g h i = h
either_lends false f g h i = i

lends_at : (e : Env) (w : Lval) → AllLend e → LendsFound (type_at e w)
lends_at [] w h = tt
lends_at (s ∷ e) w h = either_lends (w.slot == length e) (stars (alike e) (type_at e) w.depth s.part) (type_at e w) (lends_stars (alike e) (type_at e) w.depth s.part (λ u. lends_at e u h.1) h.0) (lends_at e w h.1)

lends_has : {e : Env} {w : Spot} {s : ℕ} {k : Kind} → Has e w s (found (whole k)) → AllLend e → Lends k
lends_has {e = e} {w = w} {s = s} f h = subst LendsFound f.is (lends_at e (place_of w s) h)

-- WRITES

lends_box_of : (p : Piece) → LendsPart p → LendsPart (box_of p)
lends_box_of (whole (own o)) h = tt
lends_box_of (whole (shared us)) h = h
lends_box_of (whole (mutable us)) h = h
lends_box_of (whole (view o)) h = h
lends_box_of (gone k) h = h
lends_box_of (boxed p) h = h

lends_put : (n : ℕ) (new p : Piece) → LendsPart new → LendsPart p → LendsPart (put_under n new p)
lends_put zero new p h i = h
lends_put (suc n) new (boxed p) h i = lends_box_of (put_under n new p) (lends_put n new p h i)
lends_put (suc n) new (whole (own (box o))) h i = lends_box_of (put_under n new (whole (own o))) (lends_put n new (whole (own o)) h tt)
lends_put (suc n) new (whole (own unit)) h i = tt
lends_put (suc n) new (whole (own int)) h i = tt
lends_put (suc n) new (whole (own (mutex o))) h i = tt
lends_put (suc n) new (whole (own (task o))) h i = tt
lends_put (suc n) new (whole (shared us)) h i = i
lends_put (suc n) new (whole (mutable us)) h i = i
lends_put (suc n) new (whole (view o)) h i = i
lends_put (suc n) new (gone k) h i = i

either_all : (b : Bool) (e f : Env) → AllLend e → AllLend f → AllLend (if b then e else f)
either_all true e f h i = h
either_all false e f h i = i

lends_put_at : (e : Env) (w : Lval) (new : Piece) → LendsPart new → AllLend e → AllLend (put_at e w new)
lends_put_at [] w new h i = tt
lends_put_at (s ∷ e) w new h i = either_all (w.slot == length e) (record s { part = put_under w.depth new s.part } ∷ e) (s ∷ put_at e w new) (lends_put w.depth new s.part h i.0, i.1) (i.0, lends_put_at e w new h i.1)

lends_through : (e : Env) (w : Lval) (k : Kind) → Lends k → AllLend e → AllLend (set_through e w k)
lends_through e w k h i = either_all (on_path is_mutable e w.slot w.depth) e (put_at e w (whole k)) i (lends_put_at e w (whole k) h i)

lends_drop : (n : ℕ) (e : Env) → AllLend e → AllLend (drop n e)
lends_drop zero e h = h
lends_drop (suc n) [] h = tt
lends_drop (suc n) (s ∷ e) h = lends_drop n e h.1

lends_capture : {by : Capturer} {e n e1 n1 : Env} {c : Captured} → Captures by e n c e1 n1 → AllLend e → AllLend e1
lends_capture (captures_copy p v b m) h = h
lends_capture (captures_move {e = e} {c = c} {s = s} {k = k} p v b m) h = lends_put_at e (place_of (spot_of c) s) (gone k) (lends_has p.is h) h

lends_captures : {by : Capturer} {e n e1 n1 : Env} {cs : List Captured} → CapturesAll by e n cs e1 n1 → AllLend e → AllLend e1
lends_captures captures_none h = h
lends_captures (captures_next c cs) h = lends_captures cs (lends_capture c h)

-- TERMS

mutual
  -- from such an environment a term has such a type, and leaves such an environment
  pub lends : {e e1 : Env} {t : Term} {k : Kind} → Types e t k e1 → AllLend e → Lends k × AllLend e1
  lends types_number h = (tt, h)
  lends types_unit h = (tt, h)
  lends (types_copy f c b) h = (lends_has f h, h)
  lends (types_move {e = e} {w = w} {s = s} {k = k} f c b o) h = (lends_has f h, lends_put_at e (place_of w s) (gone k) (lends_has f h) h)
  lends (types_box t f) h = (tt, (lends t h).1)
  lends (types_print t i) h = (tt, (lends t h).1)
  lends (types_let t n) h = (tt, lends t h)
  lends (types_assign {e1 = e1} {w = w} {k = k} {s = s} t f o out shape low) h = let v = lends t h in (tt, lends_through e1 (place_of w s) k v.0 v.1)
  lends (types_block {e = e} {e1 = e1} ts n) h = let v = lends_items ts tt h in (v.0, lends_drop (length e1 - length e) e1 v.1)
  lends (types_borrow f) h = (tt, h)
  lends (types_borrow_mut f o) h = (tt, h)
  lends (types_arith t i u j) h = (tt, (lends u (lends t h).1).1)
  lends (types_mutex t f) h = (tt, (lends t h).1)
  lends (types_join t) h = (tt, (lends t h).1)
  lends (types_dup f) h = (tt, h)
  lends (types_lock {e = e} {e1 = e1} f n t i c) h = let v = lends t (tt, (tt, h)) in (v.0, lends_drop (length e1 - length e) e1 v.1)
  lends (types_spawn c t f) h = (tt, lends_captures c h)
  lends (types_par c t u i j) h = (tt, lends_captures c.second (lends_captures c.first h))

  lends_items : {e e1 : Env} {ts : Items} {k k1 : Kind} {last last1 : ℕ} → TypesItems e ts k last k1 last1 e1 → Lends k → AllLend e → Lends k1 × AllLend e1
  lends_items types_none i h = (i, h)
  lends_items (types_item t ts) i h = let v = lends t h in lends_items ts v.0 v.1

none_from : (u : Lval) (us : List Lval) → list_any (λ v. nat_le 0 v.slot) (u ∷ us) ≡ false → ⊥
none_from u us n = let l = leb-false 0 u.slot (or_false (nat_le 0 u.slot) (list_any (λ v. nat_le 0 v.slot) us) n).0 in absurd (omega (arith, l))

-- a type that names no slot is owned
pub owned_alone : (k : Kind) → Lends k → names_from 0 k ≡ false → (o : Owned) × (k ≡ own o)
owned_alone (own o) h n = (o, refl)
owned_alone (shared []) h n = absurd h
owned_alone (shared (u ∷ us)) h n = absurd (none_from u us n)
owned_alone (mutable []) h n = absurd h
owned_alone (mutable (u ∷ us)) h n = absurd (none_from u us n)
owned_alone (view o) h n = absurd h
