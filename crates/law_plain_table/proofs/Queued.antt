-- Threads that wait in one queue, each behind those that were started before it, stand generation by generation.
use Rattle.std.proofs.Common.{◌≡◌, ℕ, zero, suc, ◌+◌, ◌≤◌, List, [], ◌∷◌, ◌++◌, length, refl, sym, ap, ◌∙◌, arith, append_assoc}
use Rattle.fr_base.specs.declared.instruction.Instr.TheVariants as instr
use Rattle.fr_plain.specs.Run.{Run, steps_left}
use Rattle.law_plain_table.specs.CodeOf.{Piece, does, starts, starts_two, thread, threads_of, started_by, started, size, slots, placed, generations, code_of}
use Rattle.law_plain_table.proofs.CountedPieces.{count, count_is, fewer}
use Rattle.law_plain_table.proofs.Generations.{thread_long, some_size, count_alone}

pub threads_join : (rs us : List Run) → threads_of (rs ++ us) ≡ threads_of rs ++ threads_of us
threads_join [] us = refl
threads_join (r ∷ rs) us = ap (λ ps. thread r ++ ps) (threads_join rs us) ∙ sym (append_assoc (thread r) (threads_of rs) (threads_of us))

pub started_join : (ps qs : List Piece) → started_by (ps ++ qs) ≡ started_by ps ++ started_by qs
started_join [] qs = refl
started_join (does i ∷ ps) qs = started_join ps qs
started_join (starts cs r ∷ ps) qs = ap (λ rs. r ∷ rs) (started_join ps qs)
started_join (starts_two cs a ds b ∷ ps) qs = ap (λ rs. a ∷ b ∷ rs) (started_join ps qs)

-- pieces behind others start their threads behind those
placed_join : (n : ℕ) (ps qs : List Piece) → placed n (ps ++ qs) ≡ placed n ps ++ placed (n + length (threads_of (started_by ps))) qs
placed_join n [] qs = ap (λ m. placed m qs) (plus_none n)
  where
    plus_none : (n : ℕ) → n ≡ n + 0
    plus_none n = omega arith
placed_join n (does i ∷ ps) qs = ap (λ is. i ∷ is) (placed_join n ps qs)
placed_join n (starts cs r ∷ ps) qs =
    let l = thread_long r (started_by ps) in
    let e : n + size r + length (threads_of (started_by ps)) ≡ n + length (threads_of (r ∷ started_by ps)) = omega (arith, l) in
    ap (λ is. instr.Spawn (slots cs) n ∷ is) (placed_join (n + size r) ps qs ∙ ap (λ m. placed (n + size r) ps ++ placed m qs) e)
placed_join n (starts_two cs a ds b ∷ ps) qs =
    let l = thread_long a (b ∷ started_by ps) in
    let k = thread_long b (started_by ps) in
    let e : n + size a + size b + length (threads_of (started_by ps)) ≡ n + length (threads_of (a ∷ b ∷ started_by ps)) = omega (arith, l, k) in
    ap (λ is. instr.Par (slots cs) n (slots ds) (n + size a) ∷ is) (placed_join (n + size a + size b) ps qs ∙ ap (λ m. placed (n + size a + size b) ps ++ placed m qs) e)

-- no threads start just themselves
none_alone : (us : List Run) → us ≡ started_by (threads_of us) → us ≡ []
none_alone [] e = refl
none_alone (u ∷ us) e =
    let k = count_is (threads_of (u ∷ us)) in
    let same = ap (λ rs. count (threads_of rs)) e in
    let l = thread_long u us in
    absurd (omega (arith, k, same, l, some_size u))

-- where behind these threads stand just those that they and the ones behind them start
pub in_generations : (d n : ℕ) (rs us : List Run) → count (threads_of rs) ≤ d → us ≡ started_by (threads_of (rs ++ us)) → generations d n rs ≡ placed n (threads_of (rs ++ us))
in_generations zero n [] us few e = ap (λ vs. placed n (threads_of vs)) (sym (none_alone us e))
in_generations zero n (r ∷ rs) us few e = absurd (omega (arith, few, count_is (threads_of (r ∷ rs)), thread_long r rs, some_size r))
in_generations (suc d) n rs us few e =
    let vs = started rs in
    let ws = started_by (threads_of us) in
    let split : us ≡ vs ++ ws = e ∙ ap started_by (threads_join rs us) ∙ started_join (threads_of rs) (threads_of us) in
    let next = in_generations d (n + length (threads_of vs)) vs ws (fewer rs d few) (ap (λ xs. started_by (threads_of xs)) split) in
    let rest : generations d (n + length (threads_of vs)) vs ≡ placed (n + length (threads_of vs)) (threads_of us) = next ∙ ap (λ xs. placed (n + length (threads_of vs)) (threads_of xs)) (sym split) in
    ap (λ is. placed n (threads_of rs) ++ is) rest ∙ sym (placed_join n (threads_of rs) (threads_of us)) ∙ ap (placed n) (sym (threads_join rs us))

-- the code of a term, from a queue of all threads that are started
pub code_queued : (r : Run) (us : List Run) → us ≡ started_by (threads_of (r ∷ us)) → code_of r ≡ placed (size r) (threads_of (r ∷ us))
code_queued r us e = in_generations (suc (steps_left r)) (size r) (r ∷ []) us (let l = count_alone r in omega (arith, l)) e
