-- The copies by age, once one is filled, used, freed or evicted.
use Rattle.std.proofs.Common.{◌≡◌, ◌≢◌, ℕ, ◌+◌, ◌-◌, ◌^◌, ◌≤◌, ◌<◌, Bool, true, false, true≢false, is_some, ◌==◌, nat_lt, cond, if◌then◌else◌, List, [], ◌∷◌, ◌++◌, slice_get, Option, None, Some, option_map, refl, sym, ap, subst, ◌∙◌, arith}
use Rattle.std.proofs.lemmas.Bool.{eq-eqb, eqb-true, ltb-true, ltb-false, lt-ltb, le-ltb}
use Rattle.heap_partition.specs.declared.value.Cell.{Cell}
use Rattle.rank_map.specs.Places.{Place, Entry, place_at, has_place, item_in, item_at, put_first, with_place, with_free, entry_first, entries, Rises}
use Rattle.rank_map.proofs.PlaceLemmas.{rises_with}
use Rattle.rank_map.proofs.RankLemmas.{entry_place}
use Rattle.rank_map.proofs.MarkLemmas.{with_entry, entries_with, keeps_place, free_rises, free_same, free_there}
use Rattle.read_cache.specs.Cache.{Copy, oldest_unused, with_users, without_copy}
use Rattle.read_cache.specs.Slots.{Aged, copies_of}
use Rattle.read_cache.specs.Ages.{word_if, unused_of, AgesRise, ArePlaced, IsAged}
use Rattle.read_cache.proofs.OrderLemmas.{item_of, without_item}

abbrev Places : Type 0
Places = List (Place ℕ)

abbrev pub aged : ℕ → Cell → ℕ → ℕ → Aged
aged w c u a = record { word = w; cell = c; users = u; age = a }

-- the copy under a word
abbrev pub aged_of : List Aged → ℕ → Option Aged
aged_of hs w = item_of (λ h. h.word) hs w

-- the same with so many users, and without it
abbrev pub aged_users : List Aged → ℕ → ℕ → List Aged
aged_users [] w n = []
aged_users (h ∷ hs) w n = if h.word == w then record h { users = n } ∷ hs else h ∷ aged_users hs w n

abbrev pub without_aged : List Aged → ℕ → List Aged
without_aged hs w = without_item (λ h. h.word) hs w

differ : (a b : ℕ) → a ≢ b → (a == b) ≡ false
differ a b d = by (a == b) refl
  where
    by : (q : Bool) → (a == b) ≡ q → q ≡ false
    by true p = absurd (d (eqb-true a b p))
    by false p = refl

none_some : {h : Aged} → None ≡ Some h → true ≡ false
none_some e = cc

-- ages
lower_rise : (hs : List Aged) (lower low high : ℕ) → lower ≤ low → AgesRise low high hs → AgesRise lower high hs
lower_rise [] lower low high l r = omega (arith, l, r)
lower_rise (h ∷ hs) lower low high l r = (omega (arith, l, r.0), r.1)

rise_bound : (hs : List Aged) (low high : ℕ) → AgesRise low high hs → low ≤ high
rise_bound [] low high r = r
rise_bound (h ∷ hs) low high r = omega (arith, r.0, rise_bound hs (h.age + 1) high r.1)

users_rise : (hs : List Aged) (low high w n : ℕ) → AgesRise low high hs → AgesRise low high (aged_users hs w n)
users_rise [] low high w n r = r
users_rise (h ∷ hs) low high w n r = by (h.word == w) (users_rise hs (h.age + 1) high w n r.1)
  where
    by : (b : Bool) → AgesRise (h.age + 1) high (aged_users hs w n) → AgesRise low high (cond b (record h { users = n } ∷ hs) (h ∷ aged_users hs w n))
    by true ih = (r.0, r.1)
    by false ih = (r.0, ih)

without_rise : (hs : List Aged) (low high w : ℕ) → AgesRise low high hs → AgesRise low high (without_aged hs w)
without_rise [] low high w r = r
without_rise (h ∷ hs) low high w r = by (h.word == w) (without_rise hs (h.age + 1) high w r.1)
  where
    by : (b : Bool) → AgesRise (h.age + 1) high (without_aged hs w) → AgesRise low high (cond b hs (h ∷ without_aged hs w))
    by true ih = lower_rise hs low (h.age + 1) high (omega (arith, r.0)) r.1
    by false ih = (r.0, ih)

push_rise : (hs : List Aged) (low next w : ℕ) (c : Cell) → AgesRise low next hs → AgesRise low (next + 1) (hs ++ aged w c 0 next ∷ [])
push_rise [] low next w c r = (r, omega arith)
push_rise (h ∷ hs) low next w c r = (r.0, push_rise hs (h.age + 1) next w c r.1)

age_bounds : (hs : List Aged) (low high w : ℕ) (h : Aged) → AgesRise low high hs → aged_of hs w ≡ Some h → (low ≤ h.age) × (h.age < high)
age_bounds [] low high w h r e = absurd (true≢false (none_some e))
age_bounds (g ∷ hs) low high w h r e = by (g.word == w) refl (age_bounds hs (g.age + 1) high w h r.1)
  where
    by : (b : Bool) → (g.word == w) ≡ b → (aged_of hs w ≡ Some h → (g.age + 1 ≤ h.age) × (h.age < high)) → (low ≤ h.age) × (h.age < high)
    by true p ih = let m : Some g ≡ Some h = (rw p at e) in let s : g ≡ h = cc in rw (← s) (r.0, omega (arith, rise_bound hs (g.age + 1) high r.1))
    by false p ih = let b = ih (rw p at e) in (omega (arith, r.0, b.0), b.1)

-- places
placed_under : (hs : List Aged) (ps qs : Places) → ((k : ℕ) → has_place ps k ≡ true → has_place qs k ≡ true) → ArePlaced hs ps → ArePlaced hs qs
placed_under [] ps qs f p = tt
placed_under (h ∷ hs) ps qs f p = (f h.age p.0, placed_under hs ps qs f p.1)

users_placed : (hs : List Aged) (w n : ℕ) (ps : Places) → ArePlaced hs ps → ArePlaced (aged_users hs w n) ps
users_placed [] w n ps p = tt
users_placed (h ∷ hs) w n ps p = by (h.word == w) (users_placed hs w n ps p.1)
  where
    by : (b : Bool) → ArePlaced (aged_users hs w n) ps → ArePlaced (cond b (record h { users = n } ∷ hs) (h ∷ aged_users hs w n)) ps
    by true ih = (p.0, p.1)
    by false ih = (p.0, ih)

push_placed : (hs : List Aged) (h : Aged) (ps : Places) → ArePlaced hs ps → has_place ps h.age ≡ true → ArePlaced (hs ++ h ∷ []) ps
push_placed [] h ps p e = (e, tt)
push_placed (g ∷ hs) h ps p e = (p.0, push_placed hs h ps p.1 e)

above_placed : (hs : List Aged) (low high a : ℕ) (ps qs : Places) → AgesRise low high hs → a < low → ((k : ℕ) → a ≢ k → has_place ps k ≡ true → has_place qs k ≡ true) → ArePlaced hs ps → ArePlaced hs qs
above_placed [] low high a ps qs r l f p = tt
above_placed (h ∷ hs) low high a ps qs r l f p = (f h.age (λ e. omega (arith, e, l, r.0)) p.0, above_placed hs (h.age + 1) high a ps qs r.1 (omega (arith, l, r.0)) f p.1)

without_placed : (hs : List Aged) (low high w : ℕ) (h : Aged) (ps qs : Places) → AgesRise low high hs → aged_of hs w ≡ Some h → ((k : ℕ) → h.age ≢ k → has_place ps k ≡ true → has_place qs k ≡ true) → ArePlaced hs ps
    → ArePlaced (without_aged hs w) qs
without_placed [] low high w h ps qs r e f p = tt
without_placed (g ∷ hs) low high w h ps qs r e f p = by (g.word == w) refl (λ k. without_placed hs (g.age + 1) high w h ps qs r.1 k f p.1)
  where
    by : (b : Bool) → (g.word == w) ≡ b → (aged_of hs w ≡ Some h → ArePlaced (without_aged hs w) qs) → ArePlaced (cond b hs (g ∷ without_aged hs w)) qs
    by true q ih = let m : Some g ≡ Some h = (rw q at e) in let s : g ≡ h = cc in above_placed hs (g.age + 1) high h.age ps qs r.1 (rw s (omega arith)) f p.1
    by false q ih = let k : aged_of hs w ≡ Some h = (rw q at e) in let b = age_bounds hs (g.age + 1) high w h r.1 k in (f g.age (λ i. omega (arith, i, b.0)) p.0, ih k)

pub held_place : (hs : List Aged) (w : ℕ) (h : Aged) (ps : Places) → aged_of hs w ≡ Some h → ArePlaced hs ps → has_place ps h.age ≡ true
held_place [] w h ps e p = absurd (true≢false (none_some e))
held_place (g ∷ hs) w h ps e p = by (g.word == w) refl (λ k. held_place hs w h ps k p.1)
  where
    by : (b : Bool) → (g.word == w) ≡ b → (aged_of hs w ≡ Some h → has_place ps h.age ≡ true) → has_place ps h.age ≡ true
    by true q ih = let m : Some g ≡ Some h = (rw q at e) in let s : g ≡ h = cc in rw (← s) p.0
    by false q ih = ih (rw q at e)

-- a place goes: the entries, and the other places
entries_less : (ps : Places) (k : ℕ) → entries (with_place ps k None) ≡ entries (with_place ps k (Some None))
entries_less [] k = refl
entries_less (p ∷ ps) k = by (nat_lt k p.key) (p.key == k) (entries_less ps k)
  where
    by : (a b : Bool) → entries (with_place ps k None) ≡ entries (with_place ps k (Some None))
        → entries (if a then put_first k None (p ∷ ps) else (if b then put_first k None ps else p ∷ with_place ps k None))
        ≡ entries (if a then put_first k (Some None) (p ∷ ps) else (if b then put_first k (Some None) ps else p ∷ with_place ps k (Some None)))
    by true b ih = refl
    by false true ih = refl
    by false false ih = ap (λ es. entry_first p.key p.item es) ih

place_elsewhere : (ps : Places) (k j : ℕ) → k ≢ j → has_place ps j ≡ true → has_place (with_place ps k None) j ≡ true
place_elsewhere [] k j d h = h
place_elsewhere (p ∷ ps) k j d h = by (nat_lt k p.key) (p.key == k) refl (place_elsewhere ps k j d)
  where
    rest : (p.key == k) ≡ true → has_place ps j ≡ true
    rest e = sym (ap (λ b. is_some (if b then Some p.item else place_at ps j)) (differ p.key j (λ i. d (sym (eqb-true p.key k e) ∙ i)))) ∙ h

    next : (q : Bool) → (p.key == j) ≡ q → (has_place ps j ≡ true → has_place (with_place ps k None) j ≡ true) → is_some (if q then Some p.item else place_at (with_place ps k None) j) ≡ true
    next true e ih = refl
    next false e ih = ih (sym (ap (λ b. is_some (if b then Some p.item else place_at ps j)) e) ∙ h)

    by : (a b : Bool) → (p.key == k) ≡ b → (has_place ps j ≡ true → has_place (with_place ps k None) j ≡ true)
        → has_place (if a then put_first k None (p ∷ ps) else (if b then put_first k None ps else p ∷ with_place ps k None)) j ≡ true
    by true b e ih = h
    by false true e ih = rest e
    by false false e ih = next (p.key == j) refl ih

free_keeps : (ps : Places) (k j : ℕ) → has_place ps j ≡ true → has_place (with_free ps k) j ≡ true
free_keeps ps k j h = by (has_place ps k)
  where
    by : (b : Bool) → has_place (if b then ps else with_place ps k (Some None)) j ≡ true
    by true = h
    by false = keeps_place ps k j None h

-- the copies that nobody uses, as a list by age
abbrev Unused : Type 0
Unused = List (Entry ℕ)

front_entry : (hs : List Aged) (low high a : ℕ) (y : Option ℕ) → AgesRise low high hs → a < low → with_entry (unused_of hs) a y ≡ entry_first a y (unused_of hs)
front_entry [] low high a y r l = refl
front_entry (h ∷ hs) low high a y r l = by (word_if h.word h.users) (front_entry hs (h.age + 1) high a y r.1 (omega (arith, l, r.0)))
  where
    by : (x : Option ℕ) → with_entry (unused_of hs) a y ≡ entry_first a y (unused_of hs) → with_entry (entry_first h.age x (unused_of hs)) a y ≡ entry_first a y (entry_first h.age x (unused_of hs))
    by None ih = ih
    by (Some x) ih = rw (lt-ltb a h.age (omega (arith, l, r.0))) refl

at_front : (us : Unused) (k : ℕ) (x y : Option ℕ) → with_entry us k y ≡ entry_first k y us → with_entry (entry_first k x us) k y ≡ entry_first k y us
at_front us k None y f = f
at_front us k (Some x) y f = rw (le-ltb k k (omega arith), eq-eqb k k refl) refl

past_front : (us new : Unused) (k j : ℕ) (x y : Option ℕ) → k < j → new ≡ with_entry us j y → entry_first k x new ≡ with_entry (entry_first k x us) j y
past_front us new k j None y l f = f
past_front us new k j (Some x) y l f = rw (le-ltb j k (omega (arith, l)), differ k j (λ e. omega (arith, e, l))) (ap (λ es. record { key = k; item = x } ∷ es) f)

users_entry : (hs : List Aged) (low high w n : ℕ) (h : Aged) → AgesRise low high hs → aged_of hs w ≡ Some h → unused_of (aged_users hs w n) ≡ with_entry (unused_of hs) h.age (word_if w n)
users_entry [] low high w n h r e = absurd (true≢false (none_some e))
users_entry (g ∷ hs) low high w n h r e = by (g.word == w) refl (users_entry hs (g.age + 1) high w n h r.1)
  where
    here : g ≡ h → g.word ≡ w → entry_first g.age (word_if g.word n) (unused_of hs) ≡ with_entry (unused_of (g ∷ hs)) h.age (word_if w n)
    here s v =
        ap (λ z. entry_first g.age (word_if z n) (unused_of hs)) v
        ∙ sym (at_front (unused_of hs) g.age (word_if g.word g.users) (word_if w n) (front_entry hs (g.age + 1) high g.age (word_if w n) r.1 (omega arith)))
        ∙ ap (λ z. with_entry (unused_of (g ∷ hs)) z (word_if w n)) (ap (λ z. z.age) s)

    by : (b : Bool) → (g.word == w) ≡ b → (aged_of hs w ≡ Some h → unused_of (aged_users hs w n) ≡ with_entry (unused_of hs) h.age (word_if w n))
        → unused_of (cond b (record g { users = n } ∷ hs) (g ∷ aged_users hs w n)) ≡ with_entry (unused_of (g ∷ hs)) h.age (word_if w n)
    by true p ih = let m : Some g ≡ Some h = (rw p at e) in let s : g ≡ h = cc in here s (eqb-true g.word w p)
    by false p ih =
        let k : aged_of hs w ≡ Some h = (rw p at e) in
        let b = age_bounds hs (g.age + 1) high w h r.1 k in
        past_front (unused_of hs) (unused_of (aged_users hs w n)) g.age h.age (word_if g.word g.users) (word_if w n) (omega (arith, b.0)) (ih k)

gone_entry : (hs : List Aged) (low high w : ℕ) (h : Aged) → AgesRise low high hs → aged_of hs w ≡ Some h → unused_of (without_aged hs w) ≡ with_entry (unused_of hs) h.age None
gone_entry [] low high w h r e = absurd (true≢false (none_some e))
gone_entry (g ∷ hs) low high w h r e = by (g.word == w) refl (gone_entry hs (g.age + 1) high w h r.1)
  where
    here : g ≡ h → unused_of hs ≡ with_entry (unused_of (g ∷ hs)) h.age None
    here s =
        sym (at_front (unused_of hs) g.age (word_if g.word g.users) None (front_entry hs (g.age + 1) high g.age None r.1 (omega arith)))
        ∙ ap (λ z. with_entry (unused_of (g ∷ hs)) z None) (ap (λ z. z.age) s)

    by : (b : Bool) → (g.word == w) ≡ b → (aged_of hs w ≡ Some h → unused_of (without_aged hs w) ≡ with_entry (unused_of hs) h.age None)
        → unused_of (cond b hs (g ∷ without_aged hs w)) ≡ with_entry (unused_of (g ∷ hs)) h.age None
    by true p ih = let m : Some g ≡ Some h = (rw p at e) in let s : g ≡ h = cc in here s
    by false p ih =
        let k : aged_of hs w ≡ Some h = (rw p at e) in
        let b = age_bounds hs (g.age + 1) high w h r.1 k in
        past_front (unused_of hs) (unused_of (without_aged hs w)) g.age h.age (word_if g.word g.users) None (omega (arith, b.0)) (ih k)

push_entry : (hs : List Aged) (low next w : ℕ) (c : Cell) → AgesRise low next hs → unused_of (hs ++ aged w c 0 next ∷ []) ≡ with_entry (unused_of hs) next (Some w)
push_entry [] low next w c r = refl
push_entry (h ∷ hs) low next w c r =
    past_front (unused_of hs) (unused_of (hs ++ aged w c 0 next ∷ [])) h.age next (word_if h.word h.users) (Some w) (omega (arith, rise_bound hs (h.age + 1) next r.1)) (push_entry hs (h.age + 1) next w c r.1)

same_unused : (hs : List Aged) (w n : ℕ) (h : Aged) → aged_of hs w ≡ Some h → word_if h.word h.users ≡ word_if h.word n → unused_of (aged_users hs w n) ≡ unused_of hs
same_unused [] w n h e s = refl
same_unused (g ∷ hs) w n h e s = by (g.word == w) refl (λ k. same_unused hs w n h k s)
  where
    by : (b : Bool) → (g.word == w) ≡ b → (aged_of hs w ≡ Some h → unused_of (aged_users hs w n) ≡ unused_of hs) → unused_of (cond b (record g { users = n } ∷ hs) (g ∷ aged_users hs w n)) ≡ unused_of (g ∷ hs)
    by true p ih = let m : Some g ≡ Some h = (rw p at e) in let i : h ≡ g = cc in ap (λ x. entry_first g.age x (unused_of hs)) (sym (subst (λ z. word_if z.word z.users ≡ word_if z.word n) i s))
    by false p ih = ap (λ es. entry_first g.age (word_if g.word g.users) es) (ih (rw p at e))

-- the set keeps up with the copies
pub nothing_aged : IsAged [] [] 0 0
nothing_aged = record { rises = omega arith; places = omega arith; same = refl; held = tt; free = λ k l u. absurd (omega (arith, u)); few = omega arith }

module _ {hs : List Aged} {ps : Places} {next rooms : ℕ} (m : IsAged hs ps next rooms) where
  pub roomier : (qs : Places) → next + rooms < 2 ^ 40 → qs ≡ with_free ps (next + rooms) → IsAged hs qs next (rooms + 1)
  roomier qs below is =
      record {
        rises = m.rises;
        places = subst (Rises 0 (2 ^ 40)) (sym is) (free_rises ps (next + rooms) m.places below);
        same = ap entries is ∙ free_same ps (next + rooms) ∙ m.same;
        held = placed_under hs ps qs keeps m.held;
        free = λ k l u. by (nat_lt k (next + rooms)) k refl l u;
        few = omega (arith, below);
      }
    where
      keeps : (k : ℕ) → has_place ps k ≡ true → has_place qs k ≡ true
      keeps k h = ap (λ z. has_place z k) is ∙ free_keeps ps (next + rooms) k h

      by : (b : Bool) (k : ℕ) → nat_lt k (next + rooms) ≡ b → next ≤ k → k < next + (rooms + 1) → has_place qs k ≡ true
      by true k t l u = keeps k (m.free k l (ltb-true k (next + rooms) t))
      by false k t l u =
          let e : next + rooms ≡ k = omega (arith, u, ltb-false k (next + rooms) t) in
          ap (λ z. has_place z k) is ∙ subst (λ z. has_place (with_free ps (next + rooms)) z ≡ true) e (free_there ps (next + rooms))

  pub filled_aged : (qs : Places) (w : ℕ) (c : Cell) → 0 < rooms → qs ≡ with_place ps next (Some (Some w)) → IsAged (hs ++ aged w c 0 next ∷ []) qs (next + 1) (rooms - 1)
  filled_aged qs w c some is =
      record {
        rises = push_rise hs 0 next w c m.rises;
        places = subst (Rises 0 (2 ^ 40)) (sym is) (rises_with ps 0 (2 ^ 40) next (Some (Some w)) m.places (omega arith) (omega (arith, some, m.few)));
        same = ap entries is ∙ entries_with ps 0 (2 ^ 40) next (Some w) m.places ∙ ap (λ es. with_entry es next (Some w)) m.same ∙ sym (push_entry hs 0 next w c m.rises);
        held = push_placed hs (aged w c 0 next) qs (placed_under hs ps qs keeps m.held) (keeps next (m.free next (omega arith) (omega (arith, some))));
        free = λ k l u. keeps k (m.free k (omega (arith, l)) (omega (arith, u, some)));
        few = omega (arith, some, m.few);
      }
    where
      keeps : (k : ℕ) → has_place ps k ≡ true → has_place qs k ≡ true
      keeps k h = ap (λ z. has_place z k) is ∙ keeps_place ps next k (Some w) h

  module _ (w : ℕ) (h : Aged) (e : aged_of hs w ≡ Some h) where
    below : h.age < 2 ^ 40
    below = omega (arith, (age_bounds hs 0 next w h m.rises e).1, m.few)

    set_aged : (qs : Places) (n : ℕ) → qs ≡ with_place ps h.age (Some (word_if w n)) → IsAged (aged_users hs w n) qs next rooms
    set_aged qs n is =
        record {
          rises = users_rise hs 0 next w n m.rises;
          places = subst (Rises 0 (2 ^ 40)) (sym is) (rises_with ps 0 (2 ^ 40) h.age (Some (word_if w n)) m.places (omega arith) below);
          same = ap entries is ∙ entries_with ps 0 (2 ^ 40) h.age (word_if w n) m.places ∙ ap (λ es. with_entry es h.age (word_if w n)) m.same ∙ sym (users_entry hs 0 next w n h m.rises e);
          held = users_placed hs w n qs (placed_under hs ps qs keeps m.held);
          free = λ k l u. keeps k (m.free k l u);
          few = m.few;
        }
      where
        keeps : (k : ℕ) → has_place ps k ≡ true → has_place qs k ≡ true
        keeps k p = ap (λ z. has_place z k) is ∙ keeps_place ps h.age k (word_if w n) p

    same_aged : (qs : Places) (n : ℕ) → word_if h.word h.users ≡ word_if h.word n → qs ≡ ps → IsAged (aged_users hs w n) qs next rooms
    same_aged qs n s is =
        subst (λ z. IsAged (aged_users hs w n) z next rooms) (sym is)
        (record {
          rises = users_rise hs 0 next w n m.rises;
          places = m.places;
          same = m.same ∙ sym (same_unused hs w n h e s);
          held = users_placed hs w n ps m.held;
          free = m.free;
          few = m.few;
        })

    pub gone_aged : (qs : Places) → qs ≡ with_place ps h.age None → IsAged (without_aged hs w) qs next rooms
    gone_aged qs is =
        record {
          rises = without_rise hs 0 next w m.rises;
          places = subst (Rises 0 (2 ^ 40)) (sym is) (rises_with ps 0 (2 ^ 40) h.age None m.places (omega arith) below);
          same =
              ap entries is ∙ entries_less ps h.age ∙ entries_with ps 0 (2 ^ 40) h.age None m.places ∙ ap (λ es. with_entry es h.age None) m.same
              ∙ sym (gone_entry hs 0 next w h m.rises e);
          held = without_placed hs 0 next w h ps qs m.rises e keeps m.held;
          free = λ k l u. keeps k (λ i. omega (arith, i, l, (age_bounds hs 0 next w h m.rises e).1)) (m.free k l u);
          few = m.few;
        }
      where
        keeps : (k : ℕ) → h.age ≢ k → has_place ps k ≡ true → has_place qs k ≡ true
        keeps k d p = ap (λ z. has_place z k) is ∙ place_elsewhere ps h.age k d p

    pub used_aged : (qs : Places) (u : ℕ) → h.users ≡ u → qs ≡ (if u == 0 then with_place ps h.age (Some None) else ps) → IsAged (aged_users hs w (u + 1)) qs next rooms
    used_aged qs u v is = by (u == 0) refl is
      where
        more : word_if w (u + 1) ≡ None
        more = ap (λ b. if b then Some w else None) (differ (u + 1) 0 (λ i. omega (arith, i)))

        by : (b : Bool) → (u == 0) ≡ b → qs ≡ (if b then with_place ps h.age (Some None) else ps) → IsAged (aged_users hs w (u + 1)) qs next rooms
        by true p q = set_aged qs (u + 1) (q ∙ ap (λ y. with_place ps h.age (Some y)) (sym more))
        by false p q =
            same_aged qs (u + 1) (ap (λ b. if b then Some h.word else None) (ap (λ z. z == 0) v ∙ p ∙ sym (differ (u + 1) 0 (λ i. omega (arith, i))))) q

    pub freed_aged : (qs : Places) (u : ℕ) → h.users ≡ u → 0 < u → qs ≡ (if u == 1 then with_place ps h.age (Some (Some w)) else ps) → IsAged (aged_users hs w (u - 1)) qs next rooms
    freed_aged qs u v l is = by (u == 1) refl is
      where
        by : (b : Bool) → (u == 1) ≡ b → qs ≡ (if b then with_place ps h.age (Some (Some w)) else ps) → IsAged (aged_users hs w (u - 1)) qs next rooms
        by true p q =
            let one : u ≡ 1 = eqb-true u 1 p in
            let z : u - 1 ≡ 0 = omega (arith, one) in
            set_aged qs (u - 1) (q ∙ ap (λ y. with_place ps h.age (Some y)) (sym (ap (word_if w) z)))
        by false p q =
            same_aged qs (u - 1) (ap (λ b. if b then Some h.word else None) (ap (λ z. z == 0) v ∙ differ u 0 (λ i. omega (arith, i, l)) ∙ sym (differ (u - 1) 0 (λ i. true≢false (sym (eq-eqb u 1 (omega (arith, i, l))) ∙ p))))) q

  -- the oldest is the first
  oldest_of : (gs : List Aged) → oldest_unused (copies_of gs) ≡ option_map (λ e. e.item) (slice_get (unused_of gs) 0)
  oldest_of [] = refl
  oldest_of (g ∷ gs) = by (g.users == 0) (oldest_of gs)
    where
      by : (b : Bool) → oldest_unused (copies_of gs) ≡ option_map (λ e. e.item) (slice_get (unused_of gs) 0)
          → cond b (Some g.word) (oldest_unused (copies_of gs)) ≡ option_map (λ e. e.item) (slice_get (entry_first g.age (cond b (Some g.word) None) (unused_of gs)) 0)
      by true ih = refl
      by false ih = ih

  pub oldest_is : (age : ℕ) → Some age ≡ option_map (λ e. e.key) (slice_get (entries ps) 0) → oldest_unused (copies_of hs) ≡ item_at ps age
  oldest_is age a = oldest_of hs ∙ ap (λ es. option_map (λ e. e.item) (slice_get es 0)) (sym m.same) ∙ by (slice_get (entries ps) 0) refl a
    where
      by : (o : Option (Entry ℕ)) → slice_get (entries ps) 0 ≡ o → Some age ≡ option_map (λ e. e.key) o → option_map (λ e. e.item) o ≡ item_at ps age
      by None g f = absurd (true≢false (ap is_some f))
      by (Some e) g f =
          let k : age ≡ e.key = cc in
          sym (ap (λ z. item_in (place_at ps z)) k ∙ ap item_in (entry_place ps 0 (2 ^ 40) 0 e m.places g))

  pub none_unused : None ≡ option_map (λ e. e.key) (slice_get (entries ps) 0) → oldest_unused (copies_of hs) ≡ None
  none_unused a = oldest_of hs ∙ ap (λ es. option_map (λ e. e.item) (slice_get es 0)) (sym m.same) ∙ by (slice_get (entries ps) 0) a
    where
      by : (o : Option (Entry ℕ)) → None ≡ option_map (λ e. e.key) o → option_map (λ e. e.item) o ≡ None
      by None f = refl
      by (Some e) f = absurd (true≢false (sym (ap is_some f)))

-- room that isn't used
pub fewer_rooms : {hs : List Aged} {ps : Places} {next rooms : ℕ} → IsAged hs ps next (rooms + 1) → IsAged hs ps next rooms
fewer_rooms m = record { rises = m.rises; places = m.places; same = m.same; held = m.held; free = λ k l u. m.free k l (omega (arith, u)); few = omega (arith, m.few) }

-- what the changes are on the copies that contracts see
pub copies_users : (hs : List Aged) (w n : ℕ) → copies_of (aged_users hs w n) ≡ with_users (copies_of hs) w n
copies_users [] w n = refl
copies_users (h ∷ hs) w n = by (h.word == w) (copies_users hs w n)
  where
    one : ℕ → Copy
    one u = record { word = h.word; cell = h.cell; users = u }

    by : (b : Bool) → copies_of (aged_users hs w n) ≡ with_users (copies_of hs) w n
        → copies_of (cond b (record h { users = n } ∷ hs) (h ∷ aged_users hs w n)) ≡ cond b (one n ∷ copies_of hs) (one h.users ∷ with_users (copies_of hs) w n)
    by true ih = refl
    by false ih = ap (λ cs. one h.users ∷ cs) ih

pub copies_without : (hs : List Aged) (w : ℕ) → copies_of (without_aged hs w) ≡ without_copy (copies_of hs) w
copies_without [] w = refl
copies_without (h ∷ hs) w = by (h.word == w) (copies_without hs w)
  where
    by : (b : Bool) → copies_of (without_aged hs w) ≡ without_copy (copies_of hs) w
        → copies_of (cond b hs (h ∷ without_aged hs w)) ≡ cond b (copies_of hs) (record { word = h.word; cell = h.cell; users = h.users } ∷ without_copy (copies_of hs) w)
    by true ih = refl
    by false ih = ap (λ cs. record { word = h.word; cell = h.cell; users = h.users } ∷ cs) ih

pub copies_push : (hs : List Aged) (h : Aged) → copies_of (hs ++ h ∷ []) ≡ copies_of hs ++ record { word = h.word; cell = h.cell; users = h.users } ∷ []
copies_push [] h = refl
copies_push (g ∷ hs) h = ap (λ cs. record { word = g.word; cell = g.cell; users = g.users } ∷ cs) (copies_push hs h)
