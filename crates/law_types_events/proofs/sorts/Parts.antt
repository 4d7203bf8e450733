-- How a value looks, as far as no typed one heap tells it, and the parts that it suits: where a part of an environment is written, and where environments join.
use Rattle.std.proofs.Common.{◌≡◌, ◌≢◌, ℕ, zero, suc, ◌==◌, Bool, true, false, if◌then◌else◌, List, [], ◌∷◌, length, Option, Some, None, is_some, refl, sym, ap, subst, ◌∙◌}
use Rattle.law_types_still.specs.Below.fr_base.declared.name.ObjNo.{ObjNo}
use Rattle.law_types_still.specs.Below.fr_base.declared.place.Lval.{Lval}
use Rattle.law_types_still.specs.Below.fr_typing.Kinds.{Owned, unit, int, box, mutex, task, same_owned, Kind, own, shared, mutable, view, Piece, whole, gone, boxed, box_of, SetTest, union, join_kind, join_piece, map_some}
use Rattle.law_types_still.specs.Below.fr_typing.Places.{Slot, Env, Found, found, star, alike, put_under, put_at}
use Rattle.law_types_still.proofs.Below.fr_typing.PlaceLemmas.{eq_cases}
use Rattle.law_types_still.specs.Below.fr_store.JoinRows.{join_more, join_env}
use Rattle.law_types_still.proofs.Below.fr_store.PutAt.{length_put}
use Rattle.law_types_still.specs.Below.fr_sound.States.{env_at, owned_kind, owned_part}
use Rattle.law_types_still.specs.Below.fr_code.Joins.{have_names}
use Rattle.law_types_still.specs.Below.heap_partition.declared.value.Owned.TheVariants as owned
use Rattle.law_types_still.specs.Below.thread_state.declared.value.Value.{Value}
use Rattle.law_types_still.specs.Below.thread_state.declared.value.Value.TheVariants as value

-- an owned value that is nothing; a shared reference to an object that is seen, or isn't; other references; anything else
pub data Look : Type 0 where
  a_nothing : Look
  a_shared : Look
  a_hidden : Look
  a_slot : Look
  a_mutable : Look
  another : Look

abbrev pub seen_look : Bool → Look
seen_look true = a_shared
seen_look false = a_hidden

abbrev pub look_of : (ObjNo → Bool) → Value → Look
look_of sees (value.Own owned.Nothing) = a_nothing
look_of sees (value.Shared r) = seen_look (sees r.object)
look_of sees (value.SharedSlot i) = a_slot
look_of sees (value.Mut r) = a_mutable
look_of sees (value.MutSlot i) = a_mutable
look_of sees v = another

-- a value that looks so may stand in the part
abbrev pub suits : Piece → Look → Bool
suits (whole (shared us)) a_mutable = false
suits (whole (mutable us)) a_shared = false
suits (whole (mutable us)) a_hidden = false
suits (whole (mutable us)) a_slot = false
suits (whole (view o)) a_hidden = false
suits (whole (view o)) a_mutable = false
suits (gone k) a_nothing = false
suits (boxed p) l = is_some (owned_part p)
suits p l = true

-- a slot without a name is the hidden one of a lock
abbrev pub suits_named : Bool → Piece → Look → Bool
suits_named true p l = suits p l
suits_named false p l = true

abbrev pub suits_slot : Option Slot → Look → Bool
suits_slot None l = true
suits_slot (Some s) l = suits_named (is_some s.name) s.part l

abbrev pub suits_at : Env → ℕ → Look → Bool
suits_at e i l = suits_slot (env_at e i) l

-- whom each object is seen by
abbrev pub anyone : ObjNo → Bool
anyone o = true

-- a shared reference suits its type, seen or not, and a view where it is seen
pub shared_any : (us : List Lval) (b : Bool) → suits (whole (shared us)) (seen_look b) ≡ true
shared_any us true = refl
shared_any us false = refl

pub view_seen : (o : Owned) (b : Bool) → b ≡ true → suits (whole (view o)) (seen_look b) ≡ true
view_seen o true e = refl
view_seen o false e = absurd cc

pub seen_view : (o : Owned) (b : Bool) → suits (whole (view o)) (seen_look b) ≡ true → b ≡ true
seen_view o true e = refl
seen_view o false e = absurd cc

-- what is no reference and is there suits where anything does
pub suits_other : (p : Piece) (l : Look) → suits p l ≡ true → suits p another ≡ true
suits_other (whole (own o)) l e = refl
suits_other (whole (shared us)) l e = refl
suits_other (whole (mutable us)) l e = refl
suits_other (whole (view o)) l e = refl
suits_other (gone k) l e = refl
suits_other (boxed p) l e = e

pub slot_other : (o : Option Slot) (l : Look) → suits_slot o l ≡ true → suits_slot o another ≡ true
slot_other None l e = refl
slot_other (Some s) l e = by (is_some s.name) e
  where
    by : (b : Bool) → suits_named b s.part l ≡ true → suits_named b s.part another ≡ true
    by true h = suits_other s.part l h
    by false h = refl

-- OWNED PARTS

abbrev pub IsOwned : Piece → Type 0
IsOwned p = is_some (owned_part p) ≡ true

some_map : (o : Option Owned) → is_some o ≡ true → is_some (map_some box o) ≡ true
some_map (Some x) e = refl
some_map None e = absurd cc

map_is_some : (o : Option Owned) → is_some (map_some box o) ≡ true → is_some o ≡ true
map_is_some (Some x) e = refl
map_is_some None e = absurd cc

-- a box around an owned part is owned, and anything suits it
box_owned : (p : Piece) → IsOwned p → IsOwned (box_of p)
box_owned (whole (own o)) e = refl
box_owned (whole (shared us)) e = absurd cc
box_owned (whole (mutable us)) e = absurd cc
box_owned (whole (view o)) e = absurd cc
box_owned (gone k) e = some_map (owned_kind k) e
box_owned (boxed p) e = some_map (map_some box (owned_part p)) e

box_suits : (p : Piece) (l : Look) → IsOwned p → suits (box_of p) l ≡ true
box_suits (whole (own o)) l e = refl
box_suits (whole (shared us)) l e = absurd cc
box_suits (whole (mutable us)) l e = absurd cc
box_suits (whole (view o)) l e = absurd cc
box_suits (gone k) l e = e
box_suits (boxed p) l e = e

-- an owned part under which an owned one is put is owned
under_owned : (n : ℕ) (new p : Piece) → IsOwned new → IsOwned p → IsOwned (put_under n new p)
under_owned zero new p f e = f
under_owned (suc n) new (boxed p) f e = box_owned (put_under n new p) (under_owned n new p f (map_is_some (owned_part p) e))
under_owned (suc n) new (whole (own (box o))) f e = box_owned (put_under n new (whole (own o))) (under_owned n new (whole (own o)) f refl)
under_owned (suc n) new (whole (own unit)) f e = e
under_owned (suc n) new (whole (own int)) f e = e
under_owned (suc n) new (whole (own (mutex o))) f e = e
under_owned (suc n) new (whole (own (task o))) f e = e
under_owned (suc n) new (whole (shared us)) f e = e
under_owned (suc n) new (whole (mutable us)) f e = e
under_owned (suc n) new (whole (view o)) f e = e
under_owned (suc n) new (gone k) f e = e

-- and it suits what it suited
pub under_suits : (n : ℕ) (new p : Piece) (l : Look) → IsOwned new → suits p l ≡ true → suits (put_under (suc n) new p) l ≡ true
under_suits n new (boxed p) l f e = box_suits (put_under n new p) l (under_owned n new p f e)
under_suits n new (whole (own (box o))) l f e = box_suits (put_under n new (whole (own o))) l (under_owned n new (whole (own o)) f refl)
under_suits n new (whole (own unit)) l f e = e
under_suits n new (whole (own int)) l f e = e
under_suits n new (whole (own (mutex o))) l f e = e
under_suits n new (whole (own (task o))) l f e = e
under_suits n new (whole (shared us)) l f e = e
under_suits n new (whole (mutable us)) l f e = e
under_suits n new (whole (view o)) l f e = e
under_suits n new (gone k) l f e = e

-- WRITTEN PARTS

abbrev changed : ℕ → Piece → Bool → Option Slot → Option Slot
changed d new false o = o
changed d new true None = None
changed d new true (Some s) = Some (record s { part = put_under d new s.part })

changed_none : (d : ℕ) (new : Piece) (b : Bool) → None ≡ changed d new b None
changed_none d new true = refl
changed_none d new false = refl

-- where a place is written its slot has another part, and the others stay
put_slot : (e : Env) (w : Lval) (new : Piece) (i : ℕ) → env_at (put_at e w new) i ≡ changed w.depth new (i == w.slot) (env_at e i)
put_slot [] w new i = changed_none w.depth new (i == w.slot)
put_slot (s ∷ e) w new i =
    let t : Slot = record s { part = put_under w.depth new s.part } in
    eq_cases (λ b. env_at (if b then t ∷ e else s ∷ put_at e w new) i ≡ changed w.depth new (i == w.slot) (env_at (s ∷ e) i)) w.slot (length e)
    (λ at. subst (λ n. (if i == length e then Some t else env_at e i) ≡ changed w.depth new (i == n) (if i == length e then Some s else env_at e i)) (sym at)
    (eq_cases (λ b. (if b then Some t else env_at e i) ≡ changed w.depth new b (if b then Some s else env_at e i)) i (length e) (λ q. refl) (λ q. refl)))
    (λ ne. subst (λ n. (if i == n then Some s else env_at (put_at e w new) i) ≡ changed w.depth new (i == w.slot) (if i == length e then Some s else env_at e i)) (sym (length_put e w new))
    (eq_cases (λ b. (if b then Some s else env_at (put_at e w new) i) ≡ changed w.depth new (i == w.slot) (if b then Some s else env_at e i)) i (length e)
    (λ q. eq_cases (λ b. Some s ≡ changed w.depth new b (Some s)) i w.slot (λ f. absurd (ne (sym f ∙ q))) (λ f. refl)) (λ q. put_slot e w new i)))

-- where a place under stars is written, what suited suits
pub put_suits : (e : Env) (w : Lval) (n : ℕ) (new : Piece) → w.depth ≡ suc n → IsOwned new → (i : ℕ) (l : Look) → suits_at e i l ≡ true → suits_at (put_at e w new) i l ≡ true
put_suits e w n new d f i l g = subst (λ o. suits_slot o l ≡ true) (sym (put_slot e w new i)) (subst (λ m. suits_slot (changed m new (i == w.slot) (env_at e i)) l ≡ true) (sym d) (by (i == w.slot) (env_at e i) g))
  where
    by : (b : Bool) (o : Option Slot) → suits_slot o l ≡ true → suits_slot (changed (suc n) new b o) l ≡ true
    by false o h = h
    by true None h = h
    by true (Some s) h = named (is_some s.name) h
      where
        named : (b : Bool) → suits_named b s.part l ≡ true → suits_named b (put_under (suc n) new s.part) l ≡ true
        named true q = under_suits n new s.part l f q
        named false q = refl

-- where a variable is written, what suits the new part suits it, and other slots stay
pub put_here : (e : Env) (w : Lval) (new : Piece) → w.depth ≡ 0 → (i : ℕ) (l : Look) → (i ≡ w.slot → suits new l ≡ true) → (i ≢ w.slot → suits_at e i l ≡ true) → suits_at (put_at e w new) i l ≡ true
put_here e w new d i l here there =
    subst (λ o. suits_slot o l ≡ true) (sym (put_slot e w new i)) (subst (λ m. suits_slot (changed m new (i == w.slot) (env_at e i)) l ≡ true) (sym d)
    (eq_cases (λ b. suits_slot (changed 0 new b (env_at e i)) l ≡ true) i w.slot (λ q. by (env_at e i) (here q)) (λ q. there q)))
  where
    by : (o : Option Slot) → suits new l ≡ true → suits_slot (changed 0 new true o) l ≡ true
    by None h = refl
    by (Some s) h = named (is_some s.name)
      where
        named : (b : Bool) → suits_named b new l ≡ true
        named true = h
        named false = refl

-- JOINS

owned_kind_join : (same : SetTest) (k l r : Kind) → join_kind same k l ≡ Some r → (is_some (owned_kind k) ≡ true → is_some (owned_kind r) ≡ true) × (is_some (owned_kind l) ≡ true → is_some (owned_kind r) ≡ true)
owned_kind_join same (own a) (own b) r j = by (same_owned a b) j
  where
    by : (t : Bool) → (if t then Some (own a) else None) ≡ Some r → (is_some (owned_kind (own a)) ≡ true → is_some (owned_kind r) ≡ true) × (is_some (owned_kind (own b)) ≡ true → is_some (owned_kind r) ≡ true)
    by true f = let z : own a ≡ r = cc in (λ h. subst (λ k. is_some (owned_kind k) ≡ true) z refl, λ h. subst (λ k. is_some (owned_kind k) ≡ true) z refl)
    by false f = absurd cc
owned_kind_join same (view a) (view b) r j = (λ h. absurd cc, λ h. absurd cc)
owned_kind_join same (shared us) (shared vs) r j = (λ h. absurd cc, λ h. absurd cc)
owned_kind_join same (mutable us) (mutable vs) r j = (λ h. absurd cc, λ h. absurd cc)
owned_kind_join same _ _ r j = absurd cc

abbrev pub Follows : Type 0 → Type 0 → Type 0 → Type 0
Follows a b c = (a → c) × (b → c)

owned_join : (same : SetTest) (p q r : Piece) → join_piece same p q ≡ Some r → Follows (IsOwned p) (IsOwned q) (IsOwned r)
owned_join same (whole a) (whole b) r j = by (join_kind same a b) refl j
  where
    by : (o : Option Kind) → join_kind same a b ≡ o → map_some whole o ≡ Some r → Follows (IsOwned (whole a)) (IsOwned (whole b)) (IsOwned r)
    by None f h = absurd cc
    by (Some k) f h = let z : whole k ≡ r = cc in let g = owned_kind_join same a b k f in (λ x. subst IsOwned z (g.0 x), λ x. subst IsOwned z (g.1 x))
owned_join same (gone a) (gone b) r j = by (join_kind same a b) refl j
  where
    by : (o : Option Kind) → join_kind same a b ≡ o → map_some gone o ≡ Some r → Follows (IsOwned (gone a)) (IsOwned (gone b)) (IsOwned r)
    by None f h = absurd cc
    by (Some k) f h = let z : gone k ≡ r = cc in let g = owned_kind_join same a b k f in (λ x. subst IsOwned z (g.0 x), λ x. subst IsOwned z (g.1 x))
owned_join same (boxed p) (boxed q) r j = by (join_piece same p q) j (λ t f. owned_join same p q t f) refl
  where
    by : (o : Option Piece) → map_some boxed o ≡ Some r → ((t : Piece) → join_piece same p q ≡ Some t → Follows (IsOwned p) (IsOwned q) (IsOwned t)) → join_piece same p q ≡ o → Follows (IsOwned (boxed p)) (IsOwned (boxed q)) (IsOwned r)
    by None h go f = absurd cc
    by (Some t) h go f =
        let z : boxed t ≡ r = cc in
        let g = go t f in
        (λ x. subst IsOwned z (some_map (owned_part t) (g.0 (map_is_some (owned_part p) x))), λ x. subst IsOwned z (some_map (owned_part t) (g.1 (map_is_some (owned_part q) x))))
owned_join same _ _ r j = absurd cc

abbrev pub Suits : Look → Piece → Type 0
Suits l p = suits p l ≡ true

gone_same : (a b : Kind) (l : Look) → Suits l (gone a) → Suits l (gone b)
gone_same a b a_nothing e = absurd cc
gone_same a b a_shared e = refl
gone_same a b a_hidden e = refl
gone_same a b a_slot e = refl
gone_same a b a_mutable e = refl
gone_same a b another e = refl

shared_same : (us vs : List Lval) (l : Look) → Suits l (whole (shared us)) → Suits l (whole (shared vs))
shared_same us vs a_nothing e = refl
shared_same us vs a_shared e = refl
shared_same us vs a_hidden e = refl
shared_same us vs a_slot e = refl
shared_same us vs a_mutable e = absurd cc
shared_same us vs another e = refl

mutable_same : (us vs : List Lval) (l : Look) → Suits l (whole (mutable us)) → Suits l (whole (mutable vs))
mutable_same us vs a_nothing e = refl
mutable_same us vs a_shared e = absurd cc
mutable_same us vs a_hidden e = absurd cc
mutable_same us vs a_slot e = absurd cc
mutable_same us vs a_mutable e = refl
mutable_same us vs another e = refl

view_same : (a b : Owned) (l : Look) → Suits l (whole (view a)) → Suits l (whole (view b))
view_same a b a_nothing e = refl
view_same a b a_shared e = refl
view_same a b a_hidden e = absurd cc
view_same a b a_slot e = refl
view_same a b a_mutable e = absurd cc
view_same a b another e = refl

pub kind_join : (same : SetTest) (l : Look) (a b k : Kind) → join_kind same a b ≡ Some k → Follows (Suits l (whole a)) (Suits l (whole b)) (Suits l (whole k))
kind_join same l (own a) (own b) k j = by (same_owned a b) j
  where
    by : (t : Bool) → (if t then Some (own a) else None) ≡ Some k → Follows (Suits l (whole (own a))) (Suits l (whole (own b))) (Suits l (whole k))
    by true f = let z : own a ≡ k = cc in (λ x. subst (λ m. Suits l (whole m)) z refl, λ x. subst (λ m. Suits l (whole m)) z refl)
    by false f = absurd cc
kind_join same l (view a) (view b) k j = by (same_owned a b) j
  where
    by : (t : Bool) → (if t then Some (view a) else None) ≡ Some k → Follows (Suits l (whole (view a))) (Suits l (whole (view b))) (Suits l (whole k))
    by true f = let z : view a ≡ k = cc in (λ x. subst (λ m. Suits l (whole m)) z x, λ x. subst (λ m. Suits l (whole m)) z (view_same b a l x))
    by false f = absurd cc
kind_join same l (shared us) (shared vs) k j = by (same us vs) j
  where
    by : (t : Bool) → (if t then Some (shared (union us vs)) else None) ≡ Some k → Follows (Suits l (whole (shared us))) (Suits l (whole (shared vs))) (Suits l (whole k))
    by true f =
        let z : shared (union us vs) ≡ k = cc in
        (λ x. subst (λ m. Suits l (whole m)) z (shared_same us (union us vs) l x), λ x. subst (λ m. Suits l (whole m)) z (shared_same vs (union us vs) l x))
    by false f = absurd cc
kind_join same l (mutable us) (mutable vs) k j = by (same us vs) j
  where
    by : (t : Bool) → (if t then Some (mutable (union us vs)) else None) ≡ Some k → Follows (Suits l (whole (mutable us))) (Suits l (whole (mutable vs))) (Suits l (whole k))
    by true f =
        let z : mutable (union us vs) ≡ k = cc in
        (λ x. subst (λ m. Suits l (whole m)) z (mutable_same us (union us vs) l x), λ x. subst (λ m. Suits l (whole m)) z (mutable_same vs (union us vs) l x))
    by false f = absurd cc
kind_join same l _ _ k j = absurd cc

piece_join : (same : SetTest) (l : Look) (p q r : Piece) → join_piece same p q ≡ Some r → Follows (Suits l p) (Suits l q) (Suits l r)
piece_join same l (whole a) (whole b) r j = by (join_kind same a b) refl j
  where
    by : (o : Option Kind) → join_kind same a b ≡ o → map_some whole o ≡ Some r → Follows (Suits l (whole a)) (Suits l (whole b)) (Suits l r)
    by None f h = absurd cc
    by (Some k) f h = let z : whole k ≡ r = cc in let g = kind_join same l a b k f in (λ x. subst (Suits l) z (g.0 x), λ x. subst (Suits l) z (g.1 x))
piece_join same l (gone a) (gone b) r j = by (join_kind same a b) j
  where
    by : (o : Option Kind) → map_some gone o ≡ Some r → Follows (Suits l (gone a)) (Suits l (gone b)) (Suits l r)
    by None h = absurd cc
    by (Some k) h = let z : gone k ≡ r = cc in (λ x. subst (Suits l) z (gone_same a k l x), λ x. subst (Suits l) z (gone_same b k l x))
piece_join same l (boxed p) (boxed q) r j = by (join_piece same p q) refl j
  where
    by : (o : Option Piece) → join_piece same p q ≡ o → map_some boxed o ≡ Some r → Follows (Suits l (boxed p)) (Suits l (boxed q)) (Suits l r)
    by None f h = absurd cc
    by (Some t) f h = let z : boxed t ≡ r = cc in let g = owned_join same p q t f in (λ x. subst (Suits l) z (g.0 x), λ x. subst (Suits l) z (g.1 x))
piece_join same l _ _ r j = absurd cc

named_join : (b c d : Bool) (same : SetTest) (l : Look) (p q r : Piece) → join_piece same p q ≡ Some r → b ≡ d → c ≡ d → Follows (suits_named b p l ≡ true) (suits_named c q l ≡ true) (suits_named d r l ≡ true)
named_join b c false same l p q r j e f = (λ x. refl, λ x. refl)
named_join true true true same l p q r j e f = piece_join same l p q r j
named_join false c true same l p q r j e f = absurd cc
named_join true false true same l p q r j e f = absurd cc

names_length : (e z : Env) → have_names e ≡ have_names z → length e ≡ length z
names_length [] [] h = refl
names_length [] (t ∷ z) h = absurd cc
names_length (s ∷ e) [] h = absurd cc
names_length (s ∷ e) (t ∷ z) h = ap suc (names_length e z (let q : have_names e ≡ have_names z = cc in q))

-- what suits a slot of one of two environments suits that of their join
pub env_join : (e f z : Env) → join_env e f ≡ Some z → have_names e ≡ have_names z → have_names f ≡ have_names z → (i : ℕ) (l : Look) → Follows (suits_at e i l ≡ true) (suits_at f i l ≡ true) (suits_at z i l ≡ true)
env_join [] [] z j m n i l = let q : [] ≡ z = cc in subst (λ (y : Env). Follows (suits_at [] i l ≡ true) (suits_at [] i l ≡ true) (suits_at y i l ≡ true)) q (λ x. refl, λ x. refl)
env_join [] (r ∷ f) z j m n i l = absurd cc
env_join (s ∷ e) [] z j m n i l = absurd cc
env_join (s ∷ e) (r ∷ f) z j m n i l = by (join_env e f) refl j (λ y g a b. env_join e f y g a b i l)
  where
    Goal : Env → Type 0
    Goal y = Follows (suits_at (s ∷ e) i l ≡ true) (suits_at (r ∷ f) i l ≡ true) (suits_at y i l ≡ true)

    with_part : (y : Env) (o : Option Piece) → join_piece (alike y) s.part r.part ≡ o → map_some (λ q. record s { part = q } ∷ y) o ≡ Some z
        → (have_names e ≡ have_names y → have_names f ≡ have_names y → Follows (suits_at e i l ≡ true) (suits_at f i l ≡ true) (suits_at y i l ≡ true)) → Goal z
    with_part y None g h go = absurd cc
    with_part y (Some q) g h go =
        let t : Slot = record s { part = q } in
        let same : t ∷ y ≡ z = cc in
        let left : have_names (s ∷ e) ≡ have_names (t ∷ y) = m ∙ ap have_names (sym same) in
        let right : have_names (r ∷ f) ≡ have_names (t ∷ y) = n ∙ ap have_names (sym same) in
        let left_rest : have_names e ≡ have_names y = cc in
        let right_rest : have_names f ≡ have_names y = cc in
        let left_top : is_some s.name ≡ is_some t.name = cc in
        let right_top : is_some r.name ≡ is_some t.name = cc in
        let below = go left_rest right_rest in
        let top = named_join (is_some s.name) (is_some r.name) (is_some t.name) (alike y) l s.part r.part q g left_top right_top in
        subst Goal same (
        subst (λ a. Follows (suits_slot (if i == a then Some s else env_at e i) l ≡ true) (suits_slot (if i == length f then Some r else env_at f i) l ≡ true) (suits_at (t ∷ y) i l ≡ true)) (sym (names_length e y left_rest))
        (subst (λ a. Follows (suits_slot (if i == length y then Some s else env_at e i) l ≡ true) (suits_slot (if i == a then Some r else env_at f i) l ≡ true) (suits_at (t ∷ y) i l ≡ true)) (sym (names_length f y right_rest))
        (eq_cases (λ b. Follows (suits_slot (if b then Some s else env_at e i) l ≡ true) (suits_slot (if b then Some r else env_at f i) l ≡ true) (suits_slot (if b then Some t else env_at y i) l ≡ true)) i (length y)
        (λ q2. top) (λ q2. below))))

    by : (o : Option Env) → join_env e f ≡ o → join_more s r.part o ≡ Some z
        → ((y : Env) → join_env e f ≡ Some y → have_names e ≡ have_names y → have_names f ≡ have_names y → Follows (suits_at e i l ≡ true) (suits_at f i l ≡ true) (suits_at y i l ≡ true)) → Goal z
    by None g h go = absurd cc
    by (Some y) g h go = with_part y (join_piece (alike y) s.part r.part) refl h (go y g)

-- PATHS OVER BOXES

-- a star of an owned part leads to one
pub star_owned : (same : SetTest) (go : Lval → Found) (p q : Piece) → IsOwned p → star same go p ≡ found q → IsOwned q
star_owned same go (whole (own (box o))) q e f = let z : whole (own o) ≡ q = cc in subst IsOwned z refl
star_owned same go (whole (own unit)) q e f = absurd cc
star_owned same go (whole (own int)) q e f = absurd cc
star_owned same go (whole (own (mutex o))) q e f = absurd cc
star_owned same go (whole (own (task o))) q e f = absurd cc
star_owned same go (whole (shared us)) q e f = absurd cc
star_owned same go (whole (mutable us)) q e f = absurd cc
star_owned same go (whole (view o)) q e f = absurd cc
star_owned same go (gone k) q e f = absurd cc
star_owned same go (boxed p) q e f = let z : p ≡ q = cc in subst IsOwned z (map_is_some (owned_part p) e)
