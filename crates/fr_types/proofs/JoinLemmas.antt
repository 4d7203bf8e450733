-- Joins, one level down.
use Rattle.std.proofs.Common.{◌≡◌, Bool, true, false, List, Option, Some, None, refl, sym, ap, ◌∙◌}
use Rattle.std.specs.Prelude.{if◌then◌else◌}
use Rattle.fr_base.specs.declared.place.Lval.{Lval}
use Rattle.fr_typing.specs.Kinds.{Kind, shared, mutable, Piece, whole, gone, boxed, union, SetTest, join_kind, join_piece, map_some}

same_pieces : (same : SetTest) (p q a b : Piece) → p ≡ a → q ≡ b → join_piece same a b ≡ join_piece same p q
same_pieces same p q a b left right = ap (λ x. join_piece same x b) (sym left) ∙ ap (join_piece same p) (sym right)

-- whole parts
pub join_whole : (same : SetTest) (p q : Piece) (a b : Kind) (r o : Option Kind) → p ≡ whole a → q ≡ whole b → r ≡ o → o ≡ join_kind same a b → map_some whole r ≡ join_piece same p q
join_whole same p q a b r o left right e is = ap (map_some whole) (e ∙ is) ∙ same_pieces same p q (whole a) (whole b) left right

-- parts that have moved away
pub join_gone : (same : SetTest) (p q : Piece) (a b : Kind) (r o : Option Kind) → p ≡ gone a → q ≡ gone b → r ≡ o → o ≡ join_kind same a b → map_some gone r ≡ join_piece same p q
join_gone same p q a b r o left right e is = ap (map_some gone) (e ∙ is) ∙ same_pieces same p q (gone a) (gone b) left right

-- boxes
pub join_boxed : (same : SetTest) (p q a b : Piece) (r o : Option Piece) → p ≡ boxed a → q ≡ boxed b → r ≡ o → o ≡ join_piece same a b → map_some boxed r ≡ join_piece same p q
join_boxed same p q a b r o left right e is = ap (map_some boxed) (e ∙ is) ∙ same_pieces same p q (boxed a) (boxed b) left right

-- both sets together, where the test holds
pub joined_sets : (b : Bool) (us vs : List Lval) → b ≡ true → us ≡ vs → Some us ≡ (if b then Some vs else None)
joined_sets b us vs is same = ap (λ x. Some x) same ∙ ap (λ t. if t then Some vs else None) (sym is)

pub no_sets : (b : Bool) (us : List Lval) → b ≡ false → None ≡ (if b then Some us else None)
no_sets b us is = ap (λ t. if t then Some us else None) (sym is)

map_test : (b : Bool) (us : List Lval) (make : List Lval → Kind) → map_some make (if b then Some us else None) ≡ (if b then Some (make us) else None)
map_test true us make = refl
map_test false us make = refl

same_kinds : (same : SetTest) (k m a b : Kind) → k ≡ a → m ≡ b → join_kind same a b ≡ join_kind same k m
same_kinds same k m a b left right = ap (λ x. join_kind same x b) (sym left) ∙ ap (join_kind same k) (sym right)

-- shared references
pub join_shared : (same : SetTest) (k m : Kind) (us vs : List Lval) (r o : Option (List Lval)) → k ≡ shared us → m ≡ shared vs → r ≡ o → o ≡ (if same us vs then Some (union us vs) else None) → map_some shared r ≡ join_kind same k m
join_shared same k m us vs r o left right e is = ap (map_some shared) (e ∙ is) ∙ map_test (same us vs) (union us vs) shared ∙ same_kinds same k m (shared us) (shared vs) left right

-- mutable references
pub join_mutable : (same : SetTest) (k m : Kind) (us vs : List Lval) (r o : Option (List Lval)) → k ≡ mutable us → m ≡ mutable vs → r ≡ o → o ≡ (if same us vs then Some (union us vs) else None) → map_some mutable r ≡ join_kind same k m
join_mutable same k m us vs r o left right e is = ap (map_some mutable) (e ∙ is) ∙ map_test (same us vs) (union us vs) mutable ∙ same_kinds same k m (mutable us) (mutable vs) left right
