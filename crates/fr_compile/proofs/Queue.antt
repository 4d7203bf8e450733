-- The threads that wait get their code one after another; once none waits, the code is that of the program.
use Rattle.std.proofs.Common.{◌≡◌, ℕ, zero, suc, ◌+◌, ◌<◌, ◌≤◌, List, [], ◌∷◌, ◌++◌, length, take, drop, Some, refl, sym, ap, ap₂, ◌∙◌, subst, arith, append-nil, length-append}
use Rattle.std.specs.Prelude.{slice_get}
use Rattle.std.proofs.lemmas.Option.{slice_get_within}
use Rattle.fr_base.specs.declared.instruction.Instr.{Instr}
use Rattle.fr_plain.specs.Run.{Run, steps_left}
use Rattle.law_plain_table.specs.Bare.{bare}
use Rattle.law_plain_table.specs.CodeOf.{Piece, thread, threads_of, started_by, size, code_of}
use Rattle.law_plain_table.proofs.Bare.{bare_long}
use Rattle.law_plain_table.proofs.CountedPieces.{count, count_is, counted_thread, count_join}
use Rattle.law_plain_table.proofs.Generations.{begins, thread_long, some_size}
use Rattle.law_plain_table.proofs.Queued.{threads_join, code_queued}
use Rattle.fr_compile.specs.Filling.{filled, Wait, waits, with_place}
use Rattle.fr_compile.proofs.Filled.{filled_long, filled_join, all_filled, runs, runs_join, runs_long, run_at, waits_runs, waits_join, Placed, place_more, place_bare, place_long, begins_long, begins_more}

-- LISTS

take_more : {A : Type 0} (xs ys : List A) (k : ℕ) → k ≤ length xs → take k (xs ++ ys) ≡ take k xs
take_more xs ys zero le = refl
take_more [] ys (suc k) le = absurd (omega (arith, le))
take_more (x ∷ xs) ys (suc k) le = ap (λ zs. x ∷ zs) (take_more xs ys k (omega (arith, le)))

take_next : {A : Type 0} (xs : List A) (k : ℕ) (x : A) → slice_get xs k ≡ Some x → take (suc k) xs ≡ take k xs ++ x ∷ []
take_next [] k x h = absurd cc
take_next (y ∷ xs) zero x h = let e : y ≡ x = cc in ap (λ z. z ∷ []) e
take_next (y ∷ xs) (suc k) x h = ap (λ zs. y ∷ zs) (take_next xs k x h)

take_all : {A : Type 0} (xs : List A) → take (length xs) xs ≡ xs
take_all [] = refl
take_all (x ∷ xs) = ap (λ zs. x ∷ zs) (take_all xs)

take_long : {A : Type 0} (xs : List A) (k : ℕ) → k ≤ length xs → length (take k xs) ≡ k
take_long xs zero le = refl
take_long [] (suc k) le = absurd (omega (arith, le))
take_long (x ∷ xs) (suc k) le = ap suc (take_long xs k (omega (arith, le)))

parted : {A : Type 0} (xs : List A) (k : ℕ) → take k xs ++ drop k xs ≡ xs
parted xs zero = refl
parted [] (suc k) = refl
parted (x ∷ xs) (suc k) = ap (λ zs. x ∷ zs) (parted xs k)

drop_next : {A : Type 0} (xs : List A) (k : ℕ) (x : A) → slice_get xs k ≡ Some x → drop k xs ≡ x ∷ drop (suc k) xs
drop_next [] k x h = absurd cc
drop_next (y ∷ xs) zero x h = let e : y ≡ x = cc in ap (λ z. z ∷ xs) e
drop_next (y ∷ xs) (suc k) x h = drop_next xs k x h

drop_more : {A : Type 0} (xs ys : List A) (k : ℕ) → k ≤ length xs → drop k (xs ++ ys) ≡ drop k xs ++ ys
drop_more xs ys zero le = refl
drop_more [] ys (suc k) le = absurd (omega (arith, le))
drop_more (x ∷ xs) ys (suc k) le = drop_more xs ys k (omega (arith, le))

-- THE THREADS THAT HAVE THEIR CODE

-- main, and the first so many of those that wait
abbrev pub placed_threads : Run → ℕ → List Wait → List Run
placed_threads r k ws = r ∷ take k (runs ws)

-- main and the first so many threads have their code, one behind another, and the places of all these are put in; the threads that wait are those
-- that these start
pub record IsQueued (c : List Instr) (ws : List Wait) (k : ℕ) (r : Run) : Type 0 where
  pub known : k ≤ length ws
  pub waiting : ws ≡ waits 0 (threads_of (placed_threads r k ws))
  pub code : bare c ≡ filled (begins (size r) (take k (runs ws))) (threads_of (placed_threads r k ws))

queued_long : (c : List Instr) (ws : List Wait) (k : ℕ) (r : Run) → IsQueued c ws k r → length c ≡ length (threads_of (placed_threads r k ws))
queued_long c ws k r q = sym (bare_long c) ∙ ap length q.code ∙ filled_long (begins (size r) (take k (runs ws))) (threads_of (placed_threads r k ws))

-- main alone
pub main_queued : (c : List Instr) (ws : List Wait) (r : Run) → bare c ≡ filled [] (thread r) → ws ≡ waits 0 (thread r) → IsQueued c ws 0 r
main_queued c ws r e h =
    let alone = append-nil (thread r) in
    record { known = omega arith; waiting = h ∙ ap (waits 0) (sym alone); code = e ∙ ap (filled []) (sym alone) }

-- HOW MANY STEPS ARE LEFT

-- instructions of the threads that have no code yet, and of all that these start
abbrev pub left : List Wait → ℕ → ℕ
left ws k = count (threads_of (drop k (runs ws)))

count_threads : (rs us : List Run) → count (threads_of (rs ++ us)) ≡ count (threads_of rs) + count (threads_of us)
count_threads rs us = ap count (threads_join rs us) ∙ count_join (threads_of rs) (threads_of us)

-- the code and what is left are as long as the program
pub all_steps : (c : List Instr) (ws : List Wait) (k : ℕ) (r : Run) → IsQueued c ws k r → length c + left ws k ≡ steps_left r + 1
all_steps c ws k r q =
    let us = take k (runs ws) in
    let ps = threads_of (r ∷ us) in
    let found : started_by ps ≡ runs ws = sym (waits_runs 0 ps) ∙ ap runs (sym q.waiting) in
    let split : count (threads_of (started_by ps)) ≡ count (threads_of us) + left ws k =
    ap (λ rs. count (threads_of rs)) (found ∙ sym (parted (runs ws) k)) ∙ count_threads us (drop k (runs ws)) in
    omega (arith, queued_long c ws k r q, count_is ps, split, count_join (thread r) (threads_of us), counted_thread r)

-- ONE THREAD MORE

module _ (c : List Instr) (ws : List Wait) (k : ℕ) (r : Run) (w : Wait) (q : IsQueued c ws k r) (next : slice_get ws k ≡ Some w) where
  abbrev taken : List Run
  taken = take k (runs ws)

  -- the pieces so far
  abbrev front : List Piece
  front = threads_of (r ∷ taken)

  lt : k < length ws
  lt = slice_get_within ws k w next

  put : Placed 0 (length c) (begins (size r) taken) front w
  put = place_more 0 (length c) (begins (size r) taken) front w (subst (λ n. slice_get (waits 0 front) n ≡ Some w) (sym many) (subst (λ us. slice_get us k ≡ Some w) q.waiting next))
    where
      many : length (begins (size r) taken) ≡ k
      many = begins_long (size r) taken ∙ take_long (runs ws) k (let l = runs_long ws in let g = q.known in omega (arith, l, g))

  -- the place is that of the instruction
  at_start : put.at ≡ w.start
  at_start = let h = put.here in omega (arith, h)

  pub starts_within : w.start < length c
  starts_within = let h = put.inside in let e = at_start in let l = queued_long c ws k r q in omega (arith, h, e, l)

module _ (c f : List Instr) (ws vs : List Wait) (k : ℕ) (r : Run) (w : Wait) (q : IsQueued c ws k r) (next : slice_get ws k ≡ Some w) (code : bare f ≡ bare (with_place w.is_second c w.start (length c)) ++ filled [] (thread w.run))
    (waiting : vs ≡ ws ++ waits (length (with_place w.is_second c w.start (length c))) (thread w.run)) where
  abbrev old : List Run
  old = take k (runs ws)

  abbrev so_far : List Piece
  so_far = threads_of (r ∷ old)

  less : k < length ws
  less = slice_get_within ws k w next

  threads_more : take (k + 1) (runs vs) ≡ old ++ w.run ∷ []
  threads_more =
      let added = waits (length (with_place w.is_second c w.start (length c))) (thread w.run) in
      let e : k + 1 ≡ suc k = omega arith in
      let l = runs_long ws in
      ap (λ n. take n (runs vs)) e ∙ ap (λ us. take (suc k) (runs us)) waiting ∙ ap (take (suc k)) (runs_join ws added) ∙ take_more (runs ws) (runs added) (suc k) (omega (arith, l, less)) ∙ take_next (runs ws) k w.run (run_at ws k w next)

  pieces_more : threads_of (placed_threads r (k + 1) vs) ≡ so_far ++ thread w.run
  pieces_more = ap (λ us. threads_of (r ∷ us)) threads_more ∙ threads_join (r ∷ old) (w.run ∷ []) ∙ ap (λ ps. so_far ++ ps) (append-nil (thread w.run))

  places_more : begins (size r) old ++ length c ∷ [] ≡ begins (size r) (take (k + 1) (runs vs))
  places_more =
      let e : length c ≡ size r + length (threads_of old) = queued_long c ws k r q ∙ thread_long r old in
      ap (λ n. begins (size r) old ++ n ∷ []) e ∙ sym (begins_more (size r) old w.run) ∙ ap (begins (size r)) (sym threads_more)

  started_many : length (begins (size r) old ++ length c ∷ []) ≤ length (started_by so_far)
  started_many =
      let found : length (started_by so_far) ≡ length ws = ap length (sym (waits_runs 0 so_far)) ∙ runs_long (waits 0 so_far) ∙ ap length (sym q.waiting) in
      let many = begins_long (size r) old in
      let l = take_long (runs ws) k (let l = runs_long ws in let g = q.known in omega (arith, l, g)) in
      let m = length-append (begins (size r) old) (length c ∷ []) in
      omega (arith, found, many, l, m, less)

  code_more : bare f ≡ filled (begins (size r) (take (k + 1) (runs vs))) (threads_of (placed_threads r (k + 1) vs))
  code_more =
      let ns = begins (size r) old in
      let ms = ns ++ length c ∷ [] in
      let stand = put c ws k r w q next in
      let full : bare (with_place w.is_second c w.start (length c)) ≡ filled ms so_far =
      place_bare w.is_second c w.start (length c) ∙ ap (λ is. with_place w.is_second is w.start (length c)) q.code ∙ ap (λ n. with_place w.is_second (filled ns so_far) n (length c)) (sym (at_start c ws k r w q next)) ∙ stand.is in
      code ∙ ap (λ is. is ++ filled [] (thread w.run)) full ∙ sym (filled_join ms so_far (thread w.run) started_many) ∙ ap₂ (λ (ls : List ℕ) (ps : List Piece). filled ls ps) places_more (sym pieces_more)

  waits_more : vs ≡ waits 0 (threads_of (placed_threads r (k + 1) vs))
  waits_more =
      let e : length (with_place w.is_second c w.start (length c)) ≡ 0 + length so_far = place_long w.is_second c w.start (length c) ∙ queued_long c ws k r q ∙ none_plus (length so_far) in
      waiting ∙ ap₂ (λ (us xs : List Wait). us ++ xs) q.waiting (ap (λ n. waits n (thread w.run)) e) ∙ sym (waits_join 0 so_far (thread w.run)) ∙ ap (waits 0) (sym pieces_more)
    where
      none_plus : (n : ℕ) → n ≡ 0 + n
      none_plus n = omega arith

  pub one_more : IsQueued f vs (k + 1) r
  one_more = record {
    known = (let m = length-append ws (waits (length (with_place w.is_second c w.start (length c))) (thread w.run)) in let e = ap length waiting in omega (arith, m, e, less));
    waiting = waits_more;
    code = code_more;
  }

  -- fewer steps are left
  pub fewer_left : left vs (k + 1) < left ws k
  fewer_left =
      let n = length (with_place w.is_second c w.start (length c)) in
      let added = waits n (thread w.run) in
      let l = runs_long ws in
      let e : k + 1 ≡ suc k = omega arith in
      let rest = drop (suc k) (runs ws) in
      let here : left ws k ≡ count (threads_of (w.run ∷ rest)) = ap (λ rs. count (threads_of rs)) (drop_next (runs ws) k w.run (run_at ws k w next)) in
      let there : left vs (k + 1) ≡ count (threads_of (rest ++ started_by (thread w.run))) =
      ap (λ m. left vs m) e ∙ ap (λ us. left us (suc k)) waiting
      ∙ ap (λ rs. count (threads_of (drop (suc k) rs))) (runs_join ws added)
      ∙ ap (λ rs. count (threads_of rs)) (drop_more (runs ws) (runs added) (suc k) (omega (arith, l, less)) ∙ ap (λ rs. rest ++ rs) (waits_runs n (thread w.run))) in
      omega (arith, here, there, count_threads rest (started_by (thread w.run)), count_join (thread w.run) (threads_of rest), count_is (thread w.run), size_some)
    where
      size_some : 0 < length (thread w.run)
      size_some = some_size w.run

-- NO THREAD WAITS

pub all_queued : (c : List Instr) (ws : List Wait) (k : ℕ) (r : Run) → IsQueued c ws k r → length ws ≤ k → bare c ≡ code_of r
all_queued c ws k r q done =
    let us = runs ws in
    let all : take k us ≡ us =
    let l = runs_long ws in let g = q.known in let e : k ≡ length us = omega (arith, l, g, done) in
    ap (λ n. take n us) e ∙ take_all us in
    let found : us ≡ started_by (threads_of (r ∷ us)) = ap runs q.waiting ∙ waits_runs 0 (threads_of (placed_threads r k ws)) ∙ ap (λ rs. started_by (threads_of (r ∷ rs))) all in
    q.code ∙ ap (λ rs. filled (begins (size r) rs) (threads_of (r ∷ rs))) all ∙ ap (λ rs. filled (begins (size r) rs) (threads_of (r ∷ us))) found ∙ all_filled (size r) (threads_of (r ∷ us)) ∙ sym (code_queued r us found)
