-- What the rounds find is stale by the rule, and the other way round.
use Rattle.std.proofs.Common.{◌≡◌, ◌⊎◌, inl, inr, ⊎_elim, ℕ, zero, suc, Bool, true, false, ◌||◌, List, [], ◌∷◌, ◌++◌, Option, Some, None, refl, sym, subst}
use Rattle.server_model.specs.Below.mut_borrow.Refs.{changed}
use Rattle.coherent_memory.specs.Names.{Among}
use Rattle.coherent_memory.specs.Things.{Location}
use Rattle.coherent_memory.specs.Stale.{same_location, is_among, is_held_at, Reference, Stale, changed_above, stale_above, taken_above, if_holder, holders, stale_rounds}

pub or_split : (a b : Bool) → (a || b) ≡ true → (a ≡ true) ⊎ (b ≡ true)
or_split true b e = inl refl
or_split false b e = inr e

pub or_left : (a b : Bool) → a ≡ true → (a || b) ≡ true
or_left true b e = refl
or_left false b e = absurd (cc e)

pub or_right : (a b : Bool) → b ≡ true → (a || b) ≡ true
or_right true b e = refl
or_right false b e = e

pub among_split : (l : Location) (xs ys : List Location) → is_among l (xs ++ ys) ≡ true → (is_among l xs ≡ true) ⊎ (is_among l ys ≡ true)
among_split l [] ys e = inr e
among_split l (x ∷ xs) ys e =
    ⊎_elim (λ h. inl (or_left (same_location x l) (is_among l xs) h)) (λ h. ⊎_elim (λ i. inl (or_right (same_location x l) (is_among l xs) i)) (λ i. inr i) (among_split l xs ys h))
    (or_split (same_location x l) (is_among l (xs ++ ys)) e)

pub among_right : (l : Location) (xs ys : List Location) → is_among l ys ≡ true → is_among l (xs ++ ys) ≡ true
among_right l [] ys e = e
among_right l (x ∷ xs) ys e = or_right (same_location x l) (is_among l (xs ++ ys)) (among_right l xs ys e)

-- some reference of the list was made from there, and is changed or stands at one of the places
pub record Found (l : Location) (ls : List Location) (rs : List Reference) : Type 0 where
  pub reference : Reference
  pub is_of : Among reference rs
  pub held : is_held_at l reference.holder ≡ true
  pub why : (changed reference.reference ≡ true) ⊎ (is_among reference.at ls ≡ true)

later : (l : Location) (ls : List Location) (r : Reference) (rs : List Reference) → Found l ls rs → Found l ls (r ∷ rs)
later l ls r rs f = record { reference = f.reference; is_of = inr f.is_of; held = f.held; why = f.why }

by_holder : (l : Location) (ls : List Location) (r : Reference) (rs : List Reference) (q : Bool) (h : Option Location) → (changed r.reference || is_among r.at ls) ≡ q → r.holder ≡ h
    → (is_among l (holders ls rs) ≡ true → Found l ls rs) → is_among l (if_holder q h (holders ls rs)) ≡ true → Found l ls (r ∷ rs)
by_holder l ls r rs true (Some k) d e go m =
    ⊎_elim (λ s. record { reference = r; is_of = inl refl; held = rw e s; why = or_split (changed r.reference) (is_among r.at ls) d }) (λ s. later l ls r rs (go s)) (or_split (same_location k l) (is_among l (holders ls rs)) m)
by_holder l ls r rs true None d e go m = later l ls r rs (go m)
by_holder l ls r rs false (Some k) d e go m = later l ls r rs (go m)
by_holder l ls r rs false None d e go m = later l ls r rs (go m)

found : (l : Location) (ls : List Location) (rs : List Reference) → is_among l (holders ls rs) ≡ true → Found l ls rs
found l ls [] m = absurd (cc m)
found l ls (r ∷ rs) m = by_holder l ls r rs (changed r.reference || is_among r.at ls) r.holder refl refl (found l ls rs) m

pub sound : (lent : List Location) (rs : List Reference) (n : ℕ) (l : Location) → is_among l (stale_rounds n lent rs) ≡ true → Stale lent rs l
sound lent rs zero l m = taken_above m
sound lent rs (suc n) l m =
    ⊎_elim (λ h. taken_above h) (λ h.
    let f = found l (stale_rounds n lent rs) rs h in
    ⊎_elim (λ c. changed_above f.reference f.is_of f.held c) (λ s. stale_above f.reference f.is_of f.held (sound lent rs n f.reference.at s)) f.why)
    (among_split l lent (holders (stale_rounds n lent rs) rs) m)

pushed : (l : Location) (ls : List Location) (q : Bool) (h : Option Location) → is_among l ls ≡ true → is_among l (if_holder q h ls) ≡ true
pushed l ls true (Some k) m = or_right (same_location k l) (is_among l ls) m
pushed l ls true None m = m
pushed l ls false (Some k) m = m
pushed l ls false None m = m

first : (l : Location) (ls : List Location) (q : Bool) (h : Option Location) → q ≡ true → is_held_at l h ≡ true → is_among l (if_holder q h ls) ≡ true
first l ls true (Some k) e s = or_left (same_location k l) (is_among l ls) s
first l ls true None e s = absurd (cc s)
first l ls false h e s = absurd (cc e)

finds : (l : Location) (ls : List Location) (r : Reference) (rs : List Reference) → Among r rs → is_held_at l r.holder ≡ true → (changed r.reference || is_among r.at ls) ≡ true → is_among l (holders ls rs) ≡ true
finds l ls r [] i h c = absurd i
finds l ls r (q ∷ qs) i h c =
    ⊎_elim (λ (e : q ≡ r). first l (holders ls qs) (changed q.reference || is_among q.at ls) q.holder (subst (λ x. (changed x.reference || is_among x.at ls) ≡ true) (sym e) c) (subst (λ x. is_held_at l x.holder ≡ true) (sym e) h))
    (λ (j : Among r qs). pushed l (holders ls qs) (changed q.reference || is_among q.at ls) q.holder (finds l ls r qs j h c)) i

pub complete : (lent : List Location) (rs : List Reference) (l : Location) → Stale lent rs l → (n : ℕ) × (is_among l (stale_rounds n lent rs) ≡ true)
complete lent rs l (changed_above r i h c) = (1, among_right l lent (holders lent rs) (finds l lent r rs i h (or_left (changed r.reference) (is_among r.at lent) c)))
complete lent rs l (stale_above r i h s) =
    let p = complete lent rs r.at s in
    (suc p.0, among_right l lent (holders (stale_rounds p.0 lent rs) rs) (finds l (stale_rounds p.0 lent rs) r rs i h (or_right (changed r.reference) (is_among r.at (stale_rounds p.0 lent rs)) p.1)))
complete lent rs l (taken_above m) = (0, m)
