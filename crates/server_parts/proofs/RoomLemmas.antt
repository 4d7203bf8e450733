-- Room that is made stays, whatever else gets room.
use Rattle.std.proofs.Common.{if◌then◌else◌, ◌≡◌, is_some, true≢false, ℕ, ◌≤◌, Bool, true, false, ◌==◌, ◌||◌, nat_lt, List, [], ◌∷◌, ◌++◌, map, Option, None, Some, Result, Ok, Err, OnOk, OnErr, refl, sym, ap, subst, ◌∙◌, arith}
use Rattle.std.proofs.lemmas.Bool.{eq-eqb, eqb-true}
use Rattle.rank_map.specs.Places.{Place, place_at, item_in, item_at, put_first, with_place, with_free, has_place}
use Rattle.read_cache.specs.Cache.{is_cached}
use Rattle.read_cache.specs.View.{CacheView, is_among, with_room}
use Rattle.read_cache.specs.View as copies
use Rattle.rank_map.proofs.MarkLemmas.{keeps_place, free_same, free_there}
use Rattle.thread_state.specs.View.{ThreadState, ThreadView}
use Rattle.server_model.specs.Work.{thread_in, set_thread}
use Rattle.server_parts.specs.Growing.{HasThreadGrown, HaveThreadsGrown}
use Rattle.server_parts.specs.Threads.{states}

-- the place of the key itself
pub new_place : {T : Type 0} (ps : List (Place T)) (k : ℕ) (x : Option T) → place_at (with_place ps k (Some x)) k ≡ Some x
new_place [] k x = ap (λ b. if b then Some x else None) (eq-eqb k k refl)
new_place (p ∷ ps) k x = by (nat_lt k p.key) (p.key == k) refl (new_place ps k x)
  where
    first : (qs : List (Place _)) → place_at (put_first k (Some x) qs) k ≡ Some x
    first qs = ap (λ b. if b then Some x else place_at qs k) (eq-eqb k k refl)

    by : (a b : Bool) → (p.key == k) ≡ b → place_at (with_place ps k (Some x)) k ≡ Some x
        → place_at (if a then put_first k (Some x) (p ∷ ps) else (if b then put_first k (Some x) ps else p ∷ with_place ps k (Some x))) k ≡ Some x
    by true b e ih = first (p ∷ ps)
    by false true e ih = first ps
    by false false e ih = ap (λ b. if b then Some p.item else place_at (with_place ps k (Some x)) k) e ∙ ih

-- and those of the others
pub other_place : {T : Type 0} (ps : List (Place T)) (k j : ℕ) (x : Option T) → (k == j) ≡ false → place_at (with_place ps k (Some x)) j ≡ place_at ps j
other_place [] k j x d = ap (λ b. if b then Some x else None) d
other_place (p ∷ ps) k j x d = by (nat_lt k p.key) (p.key == k) refl (other_place ps k j x d)
  where
    first : (qs : List (Place _)) → place_at (put_first k (Some x) qs) j ≡ place_at qs j
    first qs = ap (λ b. if b then Some x else place_at qs j) d

    second : (q : Bool) → place_at (with_place ps k (Some x)) j ≡ place_at ps j → (if q then Some p.item else place_at (with_place ps k (Some x)) j) ≡ (if q then Some p.item else place_at ps j)
    second true ih = refl
    second false ih = ih

    other : (p.key == k) ≡ true → (p.key == j) ≡ false
    other e = ap (λ i. i == j) (eqb-true p.key k e) ∙ d

    by : (a b : Bool) → (p.key == k) ≡ b → place_at (with_place ps k (Some x)) j ≡ place_at ps j
        → place_at (if a then put_first k (Some x) (p ∷ ps) else (if b then put_first k (Some x) ps else p ∷ with_place ps k (Some x))) j ≡ place_at (p ∷ ps) j
    by true b e ih = first (p ∷ ps)
    by false true e ih = first ps ∙ sym (ap (λ b. if b then Some p.item else place_at ps j) (other e))
    by false false e ih = second (p.key == j) ih

-- a thread in the state in which it stands changes nothing
pub set_same : (ts : List ThreadState) (t : ThreadState) → thread_in ts t.number ≡ Some t → set_thread ts t ≡ ts
set_same [] t h = refl
set_same (x ∷ xs) t h = by (x.number == t.number) refl (λ g. set_same xs t g)
  where
    by : (b : Bool) → (x.number == t.number) ≡ b → (thread_in xs t.number ≡ Some t → set_thread xs t ≡ xs) → (if b then t ∷ xs else x ∷ set_thread xs t) ≡ x ∷ xs
    by true e ih = ap (λ o. item_or o ∷ xs) (sym h ∙ ap (λ b. if b then Some x else thread_in xs t.number) e)
      where
        item_or : Option ThreadState → ThreadState
        item_or None = t
        item_or (Some y) = y
    by false e ih = ap (λ ys. x ∷ ys) (ih (sym (ap (λ b. if b then Some x else thread_in xs t.number) e) ∙ h))

-- the thread at a place has more room
pub record IsRoomier (ps : List (Place ThreadView)) (k : ℕ) (a b : ThreadView) : Type 0 where
  pub there : item_at ps k ≡ Some a
  pub state : b.state ≡ a.state
  pub room : a.room ≤ b.room

grown_same : (o : Option ThreadView) → HasThreadGrown o o
grown_same None = tt
grown_same (Some v) = (refl, omega arith)

pub items_grown : (ps : List (Place ThreadView)) (k : ℕ) (a b : ThreadView) → IsRoomier ps k a b → (j : ℕ) → HasThreadGrown (item_at ps j) (item_at (with_place (with_place ps k (Some None)) k (Some (Some b))) j)
items_grown ps k a b r j = by (k == j) refl
  where
    by : (q : Bool) → (k == j) ≡ q → HasThreadGrown (item_at ps j) (item_at (with_place (with_place ps k (Some None)) k (Some (Some b))) j)
    by true e =
        let same : k ≡ j = eqb-true k j e in
        rw (sym same, r.there, new_place (with_place ps k (Some None)) k (Some b)) (r.state, r.room)
    by false e = rw (other_place (with_place ps k (Some None)) k j (Some b) e, other_place ps k j None e) (grown_same (item_at ps j))

pub places_grown : (ps : List (Place ThreadView)) (k : ℕ) (b : ThreadView) (j : ℕ) → has_place ps j ≡ true → has_place (with_place (with_place ps k (Some None)) k (Some (Some b))) j ≡ true
places_grown ps k b j h = keeps_place (with_place ps k (Some None)) k j (Some b) (keeps_place ps k j None h)

-- a thread taken out and put back with more room in its lists
pub record IsPutBack (old mid new : List (Place ThreadView)) (k : ℕ) (a b : ThreadView) : Type 0 where
  pub roomier : IsRoomier old k a b
  pub number : b.state.number ≡ k
  pub taken : mid ≡ with_place old k (Some None)
  pub put : new ≡ with_place mid b.state.number (Some (Some b))

put_places : {old mid new : List (Place ThreadView)} {k : ℕ} {a b : ThreadView} → IsPutBack old mid new k a b → new ≡ with_place (with_place old k (Some None)) k (Some (Some b))
put_places {mid = mid} {k = k} {b = b} p = p.put ∙ ap (λ i. with_place mid i (Some (Some b))) p.number ∙ ap (λ ps. with_place ps k (Some (Some b))) p.taken

pub lists_grown : {old mid new : List (Place ThreadView)} {k : ℕ} {a b : ThreadView} → IsPutBack old mid new k a b → states new ≡ states old → HaveThreadsGrown old new
lists_grown {old} {mid} {new} {k} {a} {b} p same =
    record {
      states = same;
      items = λ j. subst (λ ps. HasThreadGrown (item_at old j) (item_at ps j)) (sym (put_places p)) (items_grown old k a b p.roomier j);
      places = λ j h. ap (λ ps. has_place ps j) (put_places p) ∙ places_grown old k b j h;
    }

pub put_item : {old mid new : List (Place ThreadView)} {k : ℕ} {a b : ThreadView} → IsPutBack old mid new k a b → item_at new k ≡ Some b
put_item {old} {mid} {new} {k} {a} {b} p = ap (λ ps. item_at ps k) (put_places p) ∙ ap item_in (new_place (with_place old k (Some None)) k (Some b))

pub same_grown : (ps : List (Place ThreadView)) → HaveThreadsGrown ps ps
same_grown ps = record { states = refl; items = λ k. grown_same (item_at ps k); places = λ k h. h }

pub free_grown : (ps : List (Place ThreadView)) (k : ℕ) → HaveThreadsGrown ps (with_free ps k)
free_grown ps k =
    record {
      states = ap (λ es. map (λ v. v.state) (map (λ e. e.item) es)) (free_same ps k);
      items = items;
      places = places;
    }
  where
    by_item : (b : Bool) → has_place ps k ≡ b → (j : ℕ) (q : Bool) → (k == j) ≡ q → HasThreadGrown (item_at ps j) (item_at (if b then ps else with_place ps k (Some None)) j)
    by_item true e j q d = grown_same (item_at ps j)
    by_item false e j false d = rw (other_place ps k j None d) (grown_same (item_at ps j))
    by_item false e j true d = rw (sym (eqb-true k j d), new_place ps k None, none_there (place_at ps k) e) tt
      where
        none_there : (o : Option (Option ThreadView)) → is_some o ≡ false → item_in o ≡ None
        none_there None f = refl
        none_there (Some x) f = absurd (true≢false f)

    items : (j : ℕ) → HasThreadGrown (item_at ps j) (item_at (with_free ps k) j)
    items j = by_item (has_place ps k) refl j (k == j) refl

    by_place : (b : Bool) (j : ℕ) → has_place ps j ≡ true → has_place (if b then ps else with_place ps k (Some None)) j ≡ true
    by_place true j h = h
    by_place false j h = keeps_place ps k j None h

    places : (j : ℕ) → has_place ps j ≡ true → has_place (with_free ps k) j ≡ true
    places j h = by_place (has_place ps k) j h

-- a place that was made or refused
pub reserved_grown : {X E : Type 0} (old new : List (Place ThreadView)) (k : ℕ) (r : Result X E) → OnOk r (new ≡ with_free old k) → OnErr r (new ≡ old) → HaveThreadsGrown old new
reserved_grown old new k (Ok x) made same = subst (HaveThreadsGrown old) (sym made) (free_grown old k)
reserved_grown old new k (Err e) made same = subst (HaveThreadsGrown old) (sym same) (same_grown old)

pub reserved_place : {X E : Type 0} (old new : List (Place ThreadView)) (k : ℕ) (r : Result X E) → OnOk r (new ≡ with_free old k) → OnOk r (has_place new k ≡ true)
reserved_place old new k (Ok x) made = ap (λ ps. has_place ps k) made ∙ free_there old k
reserved_place old new k (Err e) made = tt

among_more : (xs : List ℕ) (y w : ℕ) → is_among xs w ≡ true → is_among (xs ++ y ∷ []) w ≡ true
among_more [] y w h = absurd (true≢false (sym h))
among_more (x ∷ xs) y w h = by (x == w) refl (λ g. among_more xs y w g)
  where
    by : (b : Bool) → (x == w) ≡ b → (is_among xs w ≡ true → is_among (xs ++ y ∷ []) w ≡ true) → (b || is_among (xs ++ y ∷ []) w) ≡ true
    by true e ih = refl
    by false e ih = ih (sym (ap (λ b. b || is_among xs w) e) ∙ h)

more_copies : (v : CacheView) (word w : ℕ) → copies.has_place v w ≡ true → (is_cached v.state w || is_among (with_room v word) w) ≡ true
more_copies v word w h = by (is_cached v.state w) (copies.has_place v word) h
  where
    by : (a b : Bool) → (a || is_among v.rooms w) ≡ true → (a || is_among (if b then v.rooms else v.rooms ++ word ∷ []) w) ≡ true
    by true b h2 = refl
    by false true h2 = h2
    by false false h2 = among_more v.rooms word w h2

-- room for a copy stays where another one gets room, or is refused it
pub copies_stay : {X E : Type 0} (r : Result X E) (old new : CacheView) (word : ℕ) → new.state ≡ old.state → OnOk r (new.rooms ≡ with_room old word) → OnErr r (new ≡ old) → (w : ℕ) → copies.has_place old w ≡ true → copies.has_place new w ≡ true
copies_stay (Ok x) old new word state made same w h = ap (λ s. is_cached s w || is_among new.rooms w) state ∙ ap (λ xs. is_cached old.state w || is_among xs w) made ∙ more_copies old word w h
copies_stay (Err e) old new word state made same w h = ap (λ v. copies.has_place v w) same ∙ h
