-- Codes by which environments are told apart.
use Rattle.std.specs.Prelude.{◌≡◌, ◌⊎◌, ℕ, suc, zero, List, [], ◌∷◌, Option, refl}
use Rattle.std.specs.Coded.{Coded, code_by, coded×, coded⊎, coded_ℕ, coded_list, coded_option}
use Rattle.std.proofs.Common.{ap, inl, inr}
use Rattle.fr_base.specs.declared.place.Lval.{Lval}
use Rattle.fr_typing.specs.Kinds.{Owned, unit, int, box, mutex, task, Kind, own, shared, mutable, view, Piece, whole, gone, boxed}
use Rattle.fr_types.specs.States.{Held}

abbrev pub owned_list : Owned → List ℕ
owned_list unit = []
owned_list int = 3 ∷ []
owned_list (box o) = 0 ∷ owned_list o
owned_list (mutex o) = 1 ∷ owned_list o
owned_list (task o) = 2 ∷ owned_list o

abbrev pub list_owned : List ℕ → Owned
list_owned [] = unit
list_owned (zero ∷ xs) = box (list_owned xs)
list_owned (suc zero ∷ xs) = mutex (list_owned xs)
list_owned (suc (suc zero) ∷ xs) = task (list_owned xs)
list_owned (suc (suc (suc n)) ∷ xs) = int

pub list_owned-owned_list : (o : Owned) → list_owned (owned_list o) ≡ o
list_owned-owned_list unit = refl
list_owned-owned_list int = refl
list_owned-owned_list (box o) = ap box (list_owned-owned_list o)
list_owned-owned_list (mutex o) = ap mutex (list_owned-owned_list o)
list_owned-owned_list (task o) = ap task (list_owned-owned_list o)

abbrev pub owned_code : Coded Owned
owned_code = code_by (List ℕ) (coded_list coded_ℕ) owned_list list_owned list_owned-owned_list

abbrev pub lval_code : Coded Lval
lval_code = code_by (ℕ × ℕ) (coded× coded_ℕ coded_ℕ) (λ w. (w.slot, w.depth)) (λ p. record { slot = p.0; depth = p.1 }) (λ _. refl)

abbrev pub KindSum : Type 0
KindSum = (Owned ⊎ Owned) ⊎ (List Lval ⊎ List Lval)

abbrev pub kind_sum : Kind → KindSum
kind_sum (own o) = inl (inl o)
kind_sum (view o) = inl (inr o)
kind_sum (shared us) = inr (inl us)
kind_sum (mutable us) = inr (inr us)

abbrev pub sum_kind : KindSum → Kind
sum_kind (inl (inl o)) = own o
sum_kind (inl (inr o)) = view o
sum_kind (inr (inl us)) = shared us
sum_kind (inr (inr us)) = mutable us

pub sum_kind-kind_sum : (k : Kind) → sum_kind (kind_sum k) ≡ k
sum_kind-kind_sum (own o) = refl
sum_kind-kind_sum (view o) = refl
sum_kind-kind_sum (shared us) = refl
sum_kind-kind_sum (mutable us) = refl

abbrev pub kind_code : Coded Kind
kind_code = code_by KindSum (coded⊎ (coded⊎ owned_code owned_code) (coded⊎ (coded_list lval_code) (coded_list lval_code))) kind_sum sum_kind sum_kind-kind_sum

-- the number of boxes, and what is inside
abbrev pub Inside : Type 0
Inside = ℕ × (Kind ⊎ Kind)

abbrev pub deeper : Inside → Inside
deeper p = (suc p.0, p.1)

abbrev pub piece_sum : Piece → Inside
piece_sum (whole k) = (0, inl k)
piece_sum (gone k) = (0, inr k)
piece_sum (boxed p) = deeper (piece_sum p)

abbrev pub base_piece : Kind ⊎ Kind → Piece
base_piece (inl k) = whole k
base_piece (inr k) = gone k

abbrev pub boxes : ℕ → Piece → Piece
boxes zero p = p
boxes (suc n) p = boxed (boxes n p)

abbrev pub sum_piece : Inside → Piece
sum_piece p = boxes p.0 (base_piece p.1)

pub sum_piece-piece_sum : (p : Piece) → sum_piece (piece_sum p) ≡ p
sum_piece-piece_sum (whole k) = refl
sum_piece-piece_sum (gone k) = refl
sum_piece-piece_sum (boxed p) = ap boxed (sum_piece-piece_sum p)

abbrev pub piece_code : Coded Piece
piece_code = code_by Inside (coded× coded_ℕ (coded⊎ kind_code kind_code)) piece_sum sum_piece sum_piece-piece_sum

abbrev pub held_code : Coded Held
held_code = code_by (Option ℕ × Piece) (coded× (coded_option coded_ℕ) piece_code) (λ s. (s.name, s.part)) (λ p. record { name = p.0; part = p.1 }) (λ _. refl)

abbrev pub env_code : Coded (List Held)
env_code = coded_list held_code
