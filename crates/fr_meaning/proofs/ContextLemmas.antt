-- Moves, settling and depth inside a context.
use Rattle.std.proofs.Common.{◌≡◌, zero, suc, ◌<◌, ◌≤◌, List, [], ◌∷◌, Option, Some, None, refl, ap, ◌∙◌, arith}
use Rattle.fr_plain.specs.Run.{Run, block, last, more, going, after, now, now_parts, settle, Move, next, move}
use Rattle.fr_meaning.specs.declared.frame.Done.TheVariants as done
use Rattle.fr_meaning.specs.Contexts.{Around, in_box, in_bind, in_print, in_join, in_mutex, in_locked, in_assign, in_left, in_right, in_last, in_more, fill, wrap, IsSettled}
use Rattle.fr_forms.specs.Depths.{depth}

-- a term around one that goes on goes on
pub now_fill : (c : Around) (r : Run) → now r ≡ going → now (fill c r) ≡ going
now_fill in_box r h = refl
now_fill in_bind r h = refl
now_fill in_print r h = refl
now_fill in_join r h = refl
now_fill in_mutex r h = refl
now_fill in_locked r h = refl
now_fill (in_assign w) r h = refl
now_fill (in_left f b) r h = refl
now_fill (in_right f d) r h = refl
now_fill (in_last zero) r h = h
now_fill (in_last (suc k)) r h = refl
now_fill (in_more zero is) r h = ap (λ n. after n (now_parts is)) h
now_fill (in_more (suc k) is) r h = refl

-- and so do terms around it
pub now_wrap : (cs : List Around) (r : Run) → now r ≡ going → now (wrap cs r) ≡ going
now_wrap [] r h = h
now_wrap (c ∷ cs) r h = now_fill c (wrap cs r) (now_wrap cs r h)

-- a move inside a move
next_next : {P Q R : Type 0} (f : Q → R) (g : P → Q) (n : Option (Move P)) → next f (next g n) ≡ next (λ r. f (g r)) n
next_next f g None = refl
next_next f g (Some m) = refl

-- a move with nothing around it
next_same : {P : Type 0} (n : Option (Move P)) → n ≡ next (λ r. r) n
next_same None = refl
next_same (Some m) = refl

-- a term's move is that of its part which goes on
pub move_fill : (c : Around) (r : Run) → now r ≡ going → move (fill c r) ≡ next (fill c) (move r)
move_fill in_box r h = rw h refl
move_fill in_bind r h = rw h refl
move_fill in_print r h = rw h refl
move_fill in_join r h = rw h refl
move_fill in_mutex r h = rw h refl
move_fill in_locked r h = rw h refl
move_fill (in_assign w) r h = rw h refl
move_fill (in_left f b) r h = rw h refl
move_fill (in_right f done.Unit) r h = rw h refl
move_fill (in_right f (done.Number n)) r h = rw h refl
move_fill (in_right f (done.Temp v)) r h = rw h refl
move_fill (in_last k) r h = rw h (next_next (block k) last (move r))
move_fill (in_more k is) r h = rw h (next_next (block k) (λ x. more x is) (move r))

-- the same through all that stands around
pub move_wrap : (cs : List Around) (r : Run) → now r ≡ going → move (wrap cs r) ≡ next (wrap cs) (move r)
move_wrap [] r h = next_same (move r)
move_wrap (c ∷ cs) r h = move_fill c (wrap cs r) (now_wrap cs r h) ∙ ap (next (fill c)) (move_wrap cs r h) ∙ next_next (fill c) (wrap cs) (move r)

-- settling goes through to a part that goes on
pub settle_fill : (c : Around) (r : Run) → now (settle r) ≡ going → settle (fill c r) ≡ fill c (settle r)
settle_fill in_box r h = refl
settle_fill in_bind r h = refl
settle_fill in_print r h = refl
settle_fill in_join r h = refl
settle_fill in_mutex r h = refl
settle_fill in_locked r h = refl
settle_fill (in_assign w) r h = refl
settle_fill (in_left f b) r h = rw h refl
settle_fill (in_right f done.Unit) r h = refl
settle_fill (in_right f (done.Number n)) r h = refl
settle_fill (in_right f (done.Temp v)) r h = refl
settle_fill (in_last zero) r h = rw h refl
settle_fill (in_last (suc k)) r h = refl
settle_fill (in_more zero is) r h = rw h refl
settle_fill (in_more (suc k) is) r h = rw h refl

-- the same through all that stands around
pub settle_wrap : (cs : List Around) (r : Run) → now (settle r) ≡ going → settle (wrap cs r) ≡ wrap cs (settle r)
settle_wrap [] r h = refl
settle_wrap (c ∷ cs) r h =
    let i = settle_wrap cs r h in
    settle_fill c (wrap cs r) (ap now i ∙ now_wrap cs (settle r) h) ∙ ap (fill c) i

-- settling sees a part by how it settles
pub settle_same_fill : (c : Around) (r q : Run) → settle r ≡ settle q → settle (fill c r) ≡ settle (fill c q)
settle_same_fill in_box r q h = rw h refl
settle_same_fill in_bind r q h = rw h refl
settle_same_fill in_print r q h = rw h refl
settle_same_fill in_join r q h = rw h refl
settle_same_fill in_mutex r q h = rw h refl
settle_same_fill in_locked r q h = rw h refl
settle_same_fill (in_assign w) r q h = rw h refl
settle_same_fill (in_left f b) r q h = rw h refl
settle_same_fill (in_right f done.Unit) r q h = rw h refl
settle_same_fill (in_right f (done.Number n)) r q h = rw h refl
settle_same_fill (in_right f (done.Temp v)) r q h = rw h refl
settle_same_fill (in_last k) r q h = rw h refl
settle_same_fill (in_more k is) r q h = rw h refl

-- the same through all that stands around
pub settle_same : (cs : List Around) (r q : Run) → settle r ≡ settle q → settle (wrap cs r) ≡ settle (wrap cs q)
settle_same [] r q h = h
settle_same (c ∷ cs) r q h = settle_same_fill c (wrap cs r) (wrap cs q) (settle_same cs r q h)

-- a settled term has settled parts
pub settled_fill : (c : Around) (r : Run) → IsSettled (fill c r) → IsSettled r
settled_fill in_box r h = h
settled_fill in_bind r h = h
settled_fill in_print r h = h
settled_fill in_join r h = h
settled_fill in_mutex r h = h
settled_fill in_locked r h = h
settled_fill (in_assign w) r h = h
settled_fill (in_left f b) r h = h.0
settled_fill (in_right f done.Unit) r h = h.1
settled_fill (in_right f (done.Number n)) r h = h.1
settled_fill (in_right f (done.Temp v)) r h = h.1
settled_fill (in_last k) r h = h.0
settled_fill (in_more k is) r h = h.0

-- the same through all that stands around
pub settled_wrap : (cs : List Around) (r : Run) → IsSettled (wrap cs r) → IsSettled r
settled_wrap [] r h = h
settled_wrap (c ∷ cs) r h = settled_wrap cs r (settled_fill c (wrap cs r) h)

-- a term is as deep as its part lets it
depth_fill : (c : Around) (q r : Run) → depth q ≤ depth r → depth (fill c q) ≤ depth (fill c r)
depth_fill in_box q r h = omega arith
depth_fill in_bind q r h = omega arith
depth_fill in_print q r h = omega arith
depth_fill in_join q r h = omega arith
depth_fill in_mutex q r h = omega arith
depth_fill in_locked q r h = omega arith
depth_fill (in_assign w) q r h = omega arith
depth_fill (in_left f b) q r h = omega arith
depth_fill (in_right f d) q r h = omega arith
depth_fill (in_last k) q r h = omega arith
depth_fill (in_more k is) q r h = omega arith

-- a term is deeper than its part
pub depth_above : (c : Around) (r : Run) → depth r < depth (fill c r)
depth_above in_box r = omega arith
depth_above in_bind r = omega arith
depth_above in_print r = omega arith
depth_above in_join r = omega arith
depth_above in_mutex r = omega arith
depth_above in_locked r = omega arith
depth_above (in_assign w) r = omega arith
depth_above (in_left f b) r = omega arith
depth_above (in_right f d) r = omega arith
depth_above (in_last k) r = omega arith
depth_above (in_more k is) r = omega arith

-- a whole is as deep as its part lets it
pub depth_wrap : (cs : List Around) (q r : Run) → depth q ≤ depth r → depth (wrap cs q) ≤ depth (wrap cs r)
depth_wrap [] q r h = h
depth_wrap (c ∷ cs) q r h = depth_fill c (wrap cs q) (wrap cs r) (depth_wrap cs q r h)
