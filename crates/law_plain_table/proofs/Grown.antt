-- What a typed term leaves of its environment: the slots that were there, under their names, and those that it declares.
use Rattle.std.proofs.Common.{◌≡◌, ℕ, zero, suc, ◌+◌, ◌-◌, ◌<◌, Bool, true, false, List, [], ◌∷◌, length, drop, Option, Some, None, refl, sym, ap, ap₂, ◌∙◌, subst, arith, add-zero}
use Rattle.std.specs.Prelude.{⊤, is_some, if◌then◌else◌}
use Rattle.fr_base.specs.declared.place.Lval.{Lval}
use Rattle.fr_terms.specs.Terms.{Text, Captured, Spot, Term, Items}
use Rattle.fr_typing.specs.Kinds.{Owned, Kind, own, shared, mutable, view, Piece, whole, gone, boxed}
use Rattle.fr_typing.specs.Places.{Slot, Env, found, alike, type_at, stars, on_path, is_mutable, put_under, put_at, slot_of, same_name}
use Rattle.fr_typing.specs.Checks.{place_of, keep, set_through, with_lock, is_whole, has_content}
use Rattle.fr_typing.specs.Finding.{Has}
use Rattle.fr_typing.proofs.PlaceLemmas.{eq_cases}
use Rattle.fr_typing.specs.Captures.{Capturer, Captures, captures_copy, captures_move, CapturesAll, captures_none, captures_next}
use Rattle.fr_typing.specs.Typing.{Types, types_number, types_unit, types_copy, types_move, types_borrow, types_borrow_mut, types_box, types_mutex, types_arith, types_print, types_let, types_assign, types_block, types_join, types_dup, types_lock, types_spawn, types_par, TypesItems, types_none, types_item}
use Rattle.fr_plain.specs.Resolve.{lets_in, lets}
use Rattle.fr_code.specs.CodeTypes.{is_variable, is_locked}
use Rattle.law_plain_table.proofs.OwnedParts.{owned_part, OwnsAs, owned_put, shaped_owns}

-- NAMES

-- a slot that a name has is there, and is a variable
pub slot_below : (e : Env) (x : Text) (n : ℕ) → slot_of e x ≡ Some n → n < length e
slot_below [] x n h = cc
slot_below (s ∷ e) x n h = by (slot_below e x n) (same_name s.name x) h
  where
    by : (slot_of e x ≡ Some n → n < length e) → (b : Bool) → (if b then Some (length e) else slot_of e x) ≡ Some n → n < suc (length e)
    by go true h = let i : length e ≡ n = cc in omega (arith, i)
    by go false h = let l = go h in omega (arith, l)

named_is_some : (o : Option Text) (x : Text) → same_name o x ≡ true → is_some o ≡ true
named_is_some None x h = h
named_is_some (Some y) x h = refl

pub variable : (e : Env) (x : Text) (n : ℕ) → slot_of e x ≡ Some n → is_variable e n ≡ true
variable [] x n h = cc
variable (s ∷ e) x n h = by (variable e x n) (slot_below e x n) (same_name s.name x) refl h
  where
    by : (slot_of e x ≡ Some n → is_variable e n ≡ true) → (slot_of e x ≡ Some n → n < length e) → (b : Bool) → same_name s.name x ≡ b → (if b then Some (length e) else slot_of e x) ≡ Some n → is_variable (s ∷ e) n ≡ true
    by go low true t h = let i : length e ≡ n = cc in eq_cases (λ b. (if b then is_some s.name else is_variable e n) ≡ true) n (length e) (λ same. named_is_some s.name x t) (λ ne. absurd (ne (sym i)))
    by go low false t h = let l = low h in eq_cases (λ b. (if b then is_some s.name else is_variable e n) ≡ true) n (length e) (λ same. absurd (omega (arith, l, same))) (λ ne. go h)

-- LIKE SLOTS

-- the second slot is the first one later: of the same name and the same owned type, and unchanged where it has no name
pub record SlotLike (s t : Slot) : Type 0 where
  pub name : t.name ≡ s.name
  pub hidden : s.name ≡ None → t.part ≡ s.part
  pub owned : OwnsAs s.part t.part

abbrev pub Like : Env → Env → Type 0
Like [] [] = ⊤
Like (s ∷ e) (t ∷ f) = SlotLike s t × Like e f
Like _ _ = ⊥

slot_like : (s : Slot) → SlotLike s s
slot_like s = record { name = refl; hidden = λ h. refl; owned = λ o e. e }

pub like_self : (e : Env) → Like e e
like_self [] = tt
like_self (s ∷ e) = (slot_like s, like_self e)

pub like_on : (e f g : Env) → Like e f → Like f g → Like e g
like_on [] [] [] h i = tt
like_on [] [] (x ∷ g) h i = absurd i
like_on [] (x ∷ f) g h i = absurd h
like_on (s ∷ e) [] g h i = absurd h
like_on (s ∷ e) (t ∷ f) [] h i = absurd i
like_on (s ∷ e) (t ∷ f) (u ∷ g) h i = (record { name = i.0.name ∙ h.0.name; hidden = λ n. i.0.hidden (h.0.name ∙ n) ∙ h.0.hidden n; owned = λ o q. i.0.owned o (h.0.owned o q) }, like_on e f g h.1 i.1)

pub like_length : (e f : Env) → Like e f → length f ≡ length e
like_length [] [] h = refl
like_length [] (x ∷ f) h = absurd h
like_length (s ∷ e) [] h = absurd h
like_length (s ∷ e) (t ∷ f) h = ap suc (like_length e f h.1)

pub like_none : (f : Env) → Like [] f → f ≡ []
like_none [] h = refl
like_none (s ∷ f) h = absurd h

pub like_open : (e f : Env) → Like e f → is_locked e ≡ false → is_locked f ≡ false
like_open [] [] h i = refl
like_open [] (x ∷ f) h i = absurd h
like_open (s ∷ e) [] h i = absurd h
like_open (s ∷ e) (t ∷ f) h i = ap (λ n. Rattle.std.specs.Prelude.not (is_some n)) h.0.name ∙ i

some_is_none : {A B : Type 0} (o : Option A) → is_some o ≡ true → o ≡ None → B
some_is_none None h e = absurd cc
some_is_none (Some x) h e = absurd cc

-- what is written to a place of a variable
pub like_put : (e : Env) (w : Lval) (p new : Piece) → is_variable e w.slot ≡ true → type_at e w ≡ found p → OwnsAs p new → Like e (put_at e w new)
like_put [] w p new v h o = absurd cc
like_put (s ∷ e) w p new v h o =
    eq_cases (λ b. (if b then is_some s.name else is_variable e w.slot) ≡ true → (if b then stars (alike e) (type_at e) w.depth s.part else type_at e w) ≡ found p → Like (s ∷ e) (if b then record s { part = put_under w.depth new s.part } ∷ e else s ∷ put_at e w new)) w.slot (length e)
    (λ same v h. (record { name = refl; hidden = λ n. some_is_none s.name v n; owned = owned_put (alike e) (type_at e) w.depth s.part p new h o }, like_self e))
    (λ ne v h. (slot_like s, like_put e w p new v h o)) v h

-- an assignment
pub like_set : (e : Env) (w : Lval) (p : Piece) (k : Kind) → is_variable e w.slot ≡ true → type_at e w ≡ found p → OwnsAs p (whole k) → Like e (set_through e w k)
like_set e w p k v h o = by (on_path is_mutable e w.slot w.depth)
  where
    by : (b : Bool) → Like e (if b then e else put_at e w (whole k))
    by true = like_self e
    by false = like_put e w p (whole k) v h o

-- a move
pub like_move : {e : Env} {w : Spot} {s : ℕ} {k : Kind} → Has e w s (found (whole k)) → Like e (put_at e (place_of w s) (gone k))
like_move {e = e} {w = w} {s = s} {k = k} h = like_put e (place_of w s) (whole k) (gone k) (variable e w.name s h.named) h.is (λ o q. q)

-- CAPTURES

pub like_capture : {by : Capturer} {e n e1 n1 : Env} {c : Captured} → Captures by e n c e1 n1 → Like e e1
like_capture (captures_copy {e = e} p v b m) = like_self e
like_capture (captures_move p v b m) = like_move p.is

pub like_captures : {by : Capturer} {e n e1 n1 : Env} {cs : List Captured} → CapturesAll by e n cs e1 n1 → Like e e1
like_captures (captures_none {e = e}) = like_self e
like_captures (captures_next {e = e} {e1 = e1} {e2 = e2} h hs) = like_on e e1 e2 (like_capture h) (like_captures hs)

-- MORE SLOTS

-- so many slots with names more, above those that were there
pub data Grown : ℕ → Env → Env → Type 0 where
  kept : {e f : Env} → Like e f → Grown zero e f
  newer : {n : ℕ} {e f : Env} {s : Slot} → Grown n e f → is_some s.name ≡ true → Grown (suc n) e (s ∷ f)

-- those that were there, as they are now
abbrev pub old : {n : ℕ} {e f : Env} → Grown n e f → Env
old (kept {f = f} h) = f
old (newer g s) = old g

pub old_like : {n : ℕ} {e f : Env} (g : Grown n e f) → Like e (old g)
old_like (kept h) = h
old_like (newer g s) = old_like g

pub old_drop : {n : ℕ} {e f : Env} (g : Grown n e f) → drop n f ≡ old g
old_drop (kept h) = refl
old_drop (newer g s) = old_drop g

pub grown_length : {n : ℕ} {e f : Env} → Grown n e f → length f ≡ length e + n
grown_length (kept {e = e} {f = f} h) = like_length e f h ∙ sym (add-zero _)
grown_length (newer {n = n} {e = e} {f = f} g s) = let l = grown_length g in omega (arith, l)

pub grown_open : {n : ℕ} {e f : Env} → Grown n e f → is_locked e ≡ false → is_locked f ≡ false
grown_open (kept {e = e} {f = f} h) i = like_open e f h i
grown_open (newer g s) i = ap Rattle.std.specs.Prelude.not s

grown_like : {n : ℕ} {e f : Env} (g : Env) → Grown n e f → Like f g → Grown n e g
grown_like {e = e} {f = f} g (kept h) i = kept (like_on e f g h i)
grown_like [] (newer h s) i = absurd i
grown_like (t ∷ g) (newer h s) i = newer (grown_like g h i.1) (ap is_some i.0.name ∙ s)

pub by_count : {n m : ℕ} {e f : Env} → n ≡ m → Grown n e f → Grown m e f
by_count {e = e} {f = f} q g = subst (λ z. Grown z e f) q g

pub grown_on : {n m : ℕ} {e f g : Env} → Grown n e f → Grown m f g → Grown (m + n) e g
grown_on {g = g} h (kept i) = by_count (omega arith) (grown_like g h i)
grown_on h (newer i s) = by_count (omega arith) (newer (grown_on h i) s)

-- as many are kept as there were
pub keep_old : {n : ℕ} {e f : Env} (g : Grown n e f) → keep (length e) f ≡ old g
keep_old {n = n} {e = e} {f = f} g =
    let l = grown_length g in
    let d : length f - length e ≡ n = omega (arith, l) in
    ap (λ m. drop m f) d ∙ old_drop g

pub keep_like : {n : ℕ} {e f : Env} (g : Grown n e f) → Like e (keep (length e) f)
keep_like {e = e} g = subst (Like e) (sym (keep_old g)) (old_like g)

-- CAPTURED SLOTS

pub captured_grown : {by : Capturer} {e n e1 n1 : Env} {cs : List Captured} → CapturesAll by e n cs e1 n1 → Grown (length cs) n n1
captured_grown (captures_none {n = n}) = kept (like_self n)
captured_grown (captures_next {cs = cs} h hs) = by_count (omega arith) (grown_on (one h) (captured_grown hs))
  where
    one : {by : Capturer} {e n e1 n1 : Env} {c : Captured} → Captures by e n c e1 n1 → Grown 1 n n1
    one (captures_copy {n = n} p v b m) = newer (kept (like_self n)) refl
    one (captures_move {n = n} p v b m) = newer (kept (like_self n)) refl

-- THE LOCK'S TWO SLOTS

lock_rest : (x : Lval) (name : Text) (o : Owned) (e f : Env) → Like (with_lock e x name o) f → Like e (drop 2 f)
lock_rest x name o e [] h = absurd h
lock_rest x name o e (s ∷ []) h = absurd h.1
lock_rest x name o e (s ∷ t ∷ f) h = h.1.1

drop_more : (n : ℕ) (e : Env) → drop (suc (suc n)) e ≡ drop 2 (drop n e)
drop_more zero e = refl
drop_more (suc n) [] = refl
drop_more (suc n) (s ∷ e) = drop_more n e

-- those below a lock's two slots are kept
pub lock_keep : {n : ℕ} {e f : Env} (x : Lval) (name : Text) (o : Owned) (g : Grown n (with_lock e x name o) f) → keep (length e) f ≡ drop 2 (old g)
lock_keep {n = n} {e = e} {f = f} x name o g =
    let l = grown_length g in
    let d : length f - length e ≡ suc (suc n) = omega (arith, l) in
    ap (λ m. drop m f) d ∙ drop_more n f ∙ ap (drop 2) (old_drop g)

-- behind a lock's body the slots below those of the lock are as they were
pub lock_like : {n : ℕ} {e f : Env} (x : Lval) (name : Text) (o : Owned) → Grown n (with_lock e x name o) f → Like e (keep (length e) f)
lock_like {e = e} x name o g = subst (Like e) (sym (lock_keep x name o g)) (lock_rest x name o e (old g) (old_like g))

-- what stands in a slot that was there
seen_old : {n : ℕ} {e f : Env} (g : Grown n e f) (w : Lval) → w.slot < length (old g) → type_at f w ≡ type_at (old g) w
seen_old (kept h) w lt = refl
seen_old {e = e} (newer {f = f} {s = s} g i) w lt =
    let l = grown_length g in
    let m = like_length e (old g) (old_like g) in
    eq_cases (λ b. (if b then stars (alike f) (type_at f) w.depth s.part else type_at f w) ≡ type_at (old g) w) w.slot (length f) (λ same. absurd (omega (arith, l, m, lt, same))) (λ ne. seen_old g w lt)

whole_is : (p : Piece) (o : Owned) → is_whole (found p) ≡ true → owned_part p ≡ Some o → p ≡ whole (own o)
whole_is (whole (own x)) o h e = let f : x ≡ o = cc in ap (λ z. whole (own z)) f
whole_is (whole (shared us)) o h e = cc
whole_is (whole (mutable us)) o h e = cc
whole_is (whole (view x)) o h e = cc
whole_is (gone k) o h e = cc
whole_is (boxed p) o h e = cc

slot_is : (s : Slot) (n : Option Text) (p : Piece) → s.name ≡ n → s.part ≡ p → s ≡ record { name = n; part = p }
slot_is s n p a b = ap₂ (λ (n : Option Text) (p : Piece). record { name = n; part = p }) a b

lock_is : (x : Lval) (name : Text) (o : Owned) (e f : Env) → Like (with_lock e x name o) f → is_whole (type_at f (record { slot = suc (length e); depth = 0 })) ≡ true → f ≡ with_lock (drop 2 f) x name o
lock_is x name o e [] h c = absurd h
lock_is x name o e (s ∷ []) h c = absurd h.1
lock_is x name o e (s ∷ t ∷ f) h c =
    let l = like_length e f h.1.1 in
    let content = eq_cases (λ b. is_whole (if b then found s.part else type_at (t ∷ f) (record { slot = suc (length e); depth = 0 })) ≡ true → is_whole (found s.part) ≡ true) (suc (length e)) (suc (length f)) (λ same i. i) (λ ne i. absurd (ne (ap suc (sym l)))) c in
    ap₂ (λ (a b : Slot). a ∷ b ∷ f) (slot_is s (Some name) (whole (own o)) h.0.name (whole_is s.part o content (h.0.owned o refl))) (slot_is t None (whole (shared (x ∷ []))) h.1.0.name (h.1.0.hidden refl))

-- both of the lock's slots stand there behind its body, once the slots of the body are gone
pub lock_left : {n : ℕ} {e f : Env} (x : Lval) (name : Text) (o : Owned) (g : Grown n (with_lock e x name o) f) → has_content (length e) f ≡ true → old g ≡ with_lock (keep (length e) f) x name o
lock_left {e = e} x name o g c =
    let m = like_length (with_lock e x name o) (old g) (old_like g) in
    let seen = seen_old g (record { slot = suc (length e); depth = 0 }) (omega (arith, m)) in
    lock_is x name o e (old g) (old_like g) (ap is_whole (sym seen) ∙ c) ∙ ap (λ r. with_lock r x name o) (sym (lock_keep x name o g))

-- TYPED TERMS

mutual
  -- a typed term leaves what was there, and one slot more for each variable that it declares
  pub grown : {e e1 : Env} {t : Term} {k : Kind} → Types e t k e1 → Grown (lets_in t) e e1
  grown (types_number {e = e}) = kept (like_self e)
  grown (types_unit {e = e}) = kept (like_self e)
  grown (types_copy {e = e} f c b) = kept (like_self e)
  grown (types_move f c b o) = kept (like_move f)
  grown (types_box t f) = grown t
  grown (types_print t i) = grown t
  grown (types_let y n) = newer (grown y) refl
  grown (types_assign {e1 = e1} {w = w} {k = k} {s = s} {p = p} t f o out shape low) =
      grown_like (set_through e1 (place_of w s) k) (grown t) (like_set e1 (place_of w s) p k (variable e1 w.name s f.named) f.is (shaped_owns e1 p k shape))
  grown (types_block ts n) = kept (keep_like (grown_items ts))
  grown (types_borrow {e = e} f) = kept (like_self e)
  grown (types_borrow_mut {e = e} f o) = kept (like_self e)
  grown (types_arith {a = a} {b = b} t i g j) = by_count (omega arith) (grown_on (grown t) (grown g))
  grown (types_mutex t f) = grown t
  grown (types_join t) = grown t
  grown (types_dup {e = e} f) = kept (like_self e)
  grown (types_lock {w = w} {x = x} {s = s} {o = o} f n t i g) = kept (lock_like (place_of w s) x o (grown t))
  grown (types_spawn c t f) = kept (like_captures c)
  grown (types_par {e = e} {e2 = e2} c t g i j) = kept (like_on e c.between e2 (like_captures c.first) (like_captures c.second))

  pub grown_items : {e e1 : Env} {ts : Items} {k k1 : Kind} {last last1 : ℕ} → TypesItems e ts k last k1 last1 e1 → Grown (lets ts) e e1
  grown_items (types_none {e = e}) = kept (like_self e)
  grown_items (types_item t ts) = by_count (omega arith) (grown_on (grown t) (grown_items ts))
