-- The code of a term: its threads stand one behind another, generation by generation.
use Rattle.std.proofs.Common.{◌≡◌, ◌⊎◌, inl, inr, ℕ, zero, suc, ◌+◌, ◌<◌, ◌≤◌, List, [], ◌∷◌, ◌++◌, length, refl, sym, ap, ap₂, ◌∙◌, subst, arith, length-append}
use Rattle.std.specs.Prelude.{slice_get}
use Rattle.std.proofs.lemmas.Option.{slice_get_within}
use Rattle.fr_base.specs.declared.instruction.Instr.{Instr}
use Rattle.fr_base.specs.declared.instruction.Instr.TheVariants as instr
use Rattle.fr_plain.specs.Run.{Run, steps_left}
use Rattle.fr_code.specs.Steps.{captured}
use Rattle.fr_code.specs.StandsFor.{operand_of, IsSource}
use Rattle.law_plain_table.specs.Bare.{bare}
use Rattle.law_plain_table.specs.Layout.{bodies_of, bodies, Rises, IsBehindEnd, AllBehindEnds, AllWithin}
use Rattle.law_plain_table.specs.CodeOf.{Piece, does, starts, starts_two, pieces, thread, threads_of, started_by, started, size, slots, placed, generations, code_of}
use Rattle.law_plain_table.specs.ProgramCodes.{IsItsCode, HasItsCode, RoomyCodesToo}
use Rattle.law_plain_table.proofs.Placed.{In, in_either, above_all, rises_join}
use Rattle.law_plain_table.proofs.Bare.{bare_long, bare_join, bodies_bare, none_bare, plain_there, spawn_there, pair_there}
use Rattle.law_plain_table.proofs.Coded.{AllSource, Has, has_split, Stood, Started, Fits, captured_slots, stood, length_placed, one_longer}
use Rattle.law_plain_table.proofs.CountedPieces.{count, counted_thread, count_is, fewer, AreGood, good_threads, good_started}

-- where a generation ends
abbrev behind : ℕ → List Run → ℕ
behind n rs = n + length (threads_of rs)

started_source : (rs : List Run) → AllSource rs → AllSource (started rs)
started_source rs s = good_started (threads_of rs) (good_threads rs s)

pub thread_long : (r : Run) (rs : List Run) → length (threads_of (r ∷ rs)) ≡ size r + length (threads_of rs)
thread_long r rs = length-append (thread r) (threads_of rs)

pub some_size : (r : Run) → 0 < size r
some_size r = let l = one_longer (pieces r) (does (instr.End (operand_of r))) in omega (arith, l)

-- HOW LONG

pub generations_long : (d n : ℕ) (rs : List Run) → count (threads_of rs) ≤ d → length (generations d n rs) ≡ count (threads_of rs)
generations_long zero n rs few = omega (arith, few)
generations_long (suc d) n rs few =
    let k = generations_long d (behind n (started rs)) (started rs) (fewer rs d few) in
    omega (arith, k, length-append (placed n (threads_of rs)) (generations d (behind n (started rs)) (started rs)), length_placed n (threads_of rs), count_is (threads_of rs))

-- WHAT STANDS WHERE

-- a generation and the code of the next ones, behind it
next_has : (code : List Instr) (d p n : ℕ) (rs : List Run) → n ≡ behind p rs → Has code p (generations (suc d) n rs) → Has code p (placed n (threads_of rs)) × Has code n (generations d (behind n (started rs)) (started rs))
next_has code d p n rs e h =
    let k = has_split code (placed n (threads_of rs)) (generations d (behind n (started rs)) (started rs)) p h in
    let l = length_placed n (threads_of rs) in
    (k.0, subst (λ m. Has code m (generations d (behind n (started rs)) (started rs))) (omega (arith, l, e)) k.1)

-- in a code that has these instructions but for the room of their lists
module _ (code : List Instr) where
  -- where threads stand from that place on, instructions that start them there
  fits : (ps : List Piece) (p n : ℕ) → AreGood ps → Has (bare code) p (placed n ps) → Started code n (started_by ps) → Fits code p ps
  fits [] p n g h s = tt
  fits (does i ∷ ps) p n g h s = (plain_there code p i g.0 h.0, fits ps (p + 1) n g.1 h.1 s)
  fits (starts cs r ∷ ps) p n g h s =
      let f = spawn_there code p (slots cs) n h.0 in
      ((f.slots, n, f.at, ap captured f.items ∙ captured_slots cs, s.0.from), fits ps (p + 1) (n + size r) g.1 h.1 s.1)
  fits (starts_two cs a ds b ∷ ps) p n g h s =
      let f = pair_there code p (slots cs) n (slots ds) (n + size a) h.0 in
      ((f.ours, f.theirs, n, n + size a, f.at, ap captured f.items ∙ captured_slots cs, ap captured f.others ∙ captured_slots ds, s.0.from, s.1.0.from), fits ps (p + 1) (n + size a + size b) g.1 h.1 s.1.1)

  all_started : (d p n : ℕ) (rs : List Run) → n ≡ behind p rs → count (threads_of rs) ≤ d → AllSource rs → Has (bare code) p (generations d n rs) → Started code p rs
  all_started zero p n [] e few s h = tt
  all_started zero p n (r ∷ rs) e few s h = absurd (omega (arith, few, count_is (threads_of (r ∷ rs)), thread_long r rs, some_size r))
  all_started (suc d) p n rs e few s h =
      let k = next_has (bare code) d p n rs e h in
      stood code rs p s (fits (threads_of rs) p n (good_threads rs s) k.0 (all_started d n (behind n (started rs)) (started rs) refl (fewer rs d few) (started_source rs s) k.1))

-- THE PLACES OF THREADS

-- where threads begin that stand one behind another
abbrev pub begins : ℕ → List Run → List ℕ
begins n [] = []
begins n (r ∷ rs) = n ∷ begins (n + size r) rs

bodies_join : (is js : List Instr) → bodies (is ++ js) ≡ bodies is ++ bodies js
bodies_join [] js = refl
bodies_join (i ∷ is) js = ap (λ ns. bodies_of i ++ ns) (bodies_join is js) ∙ sym (joined (bodies_of i) (bodies is) (bodies js))
  where
    joined : (xs ys zs : List ℕ) → (xs ++ ys) ++ zs ≡ xs ++ (ys ++ zs)
    joined [] ys zs = refl
    joined (x ∷ xs) ys zs = ap (λ us. x ∷ us) (joined xs ys zs)

bodies_placed : (n : ℕ) (ps : List Piece) → AreGood ps → bodies (placed n ps) ≡ begins n (started_by ps)
bodies_placed n [] g = refl
bodies_placed n (does i ∷ ps) g = ap (λ ns. ns ++ bodies (placed n ps)) g.0 ∙ bodies_placed n ps g.1
bodies_placed n (starts cs r ∷ ps) g = ap (λ ns. n ∷ ns) (bodies_placed (n + size r) ps g.1)
bodies_placed n (starts_two cs a ds b ∷ ps) g = ap (λ ns. n ∷ (n + size a) ∷ ns) (bodies_placed (n + size a + size b) ps g.1)

bodies_next : (d n : ℕ) (rs : List Run) → AllSource rs → bodies (generations (suc d) n rs) ≡ begins n (started rs) ++ bodies (generations d (behind n (started rs)) (started rs))
bodies_next d n rs s =
    let later = generations d (behind n (started rs)) (started rs) in
    bodies_join (placed n (threads_of rs)) later ∙ ap (λ ns. ns ++ bodies later) (bodies_placed n (threads_of rs) (good_threads rs s))

-- THEY RISE

begins_in : (n m : ℕ) (rs : List Run) → In m (begins n rs) → (n ≤ m) × (m < behind n rs)
begins_in n m [] i = absurd i
begins_in n m (r ∷ rs) (inl e) = (omega (arith, e), omega (arith, e, thread_long r rs, some_size r))
begins_in n m (r ∷ rs) (inr i) = let k = begins_in (n + size r) m rs i in let f = k.0 in let t = k.1 in (omega (arith, f), omega (arith, t, thread_long r rs))

begins_rise : (n : ℕ) (rs : List Run) → Rises (begins n rs)
begins_rise n [] = tt
begins_rise n (r ∷ rs) = (above_all n (begins (n + size r) rs) (λ m i. (let f = (begins_in (n + size r) m rs i).0 in omega (arith, f, some_size r))), begins_rise (n + size r) rs)

record Rising (n : ℕ) (ms : List ℕ) : Type 0 where
  rises : Rises ms
  from : (m : ℕ) → In m ms → n ≤ m

rising_join : (n k : ℕ) (xs ys : List ℕ) → n ≤ k → Rises xs → ((m : ℕ) → In m xs → (n ≤ m) × (m < k)) → Rising k ys → Rising n (xs ++ ys)
rising_join n k xs ys le a b c = record {
  rises = rises_join xs ys a c.rises (λ l m i j. (let t = (b l i).1 in let f = c.from m j in omega (arith, t, f)));
  from = λ m i. by m (in_either m xs ys i);
}
  where
    by : (m : ℕ) → In m xs ⊎ In m ys → n ≤ m
    by m (inl i) = (b m i).0
    by m (inr j) = let f = c.from m j in omega (arith, f, le)

all_rise : (d n : ℕ) (rs : List Run) → AllSource rs → Rising n (bodies (generations d n rs))
all_rise zero n rs s = record { rises = tt; from = λ m i. absurd i }
all_rise (suc d) n rs s =
    let us = started rs in
    subst (Rising n) (sym (bodies_next d n rs s)) (rising_join n (behind n us) (begins n us) (bodies (generations d (behind n us) us)) (omega arith) (begins_rise n us) (λ m i. begins_in n m us i) (all_rise d (behind n us) us (started_source rs s)))

-- EACH IS WITHIN THE CODE, BEHIND AN END

-- these places are within the code, and behind ends
record Fitting (code : List Instr) (ms : List ℕ) : Type 0 where
  within : AllWithin code ms
  behind : AllBehindEnds code ms

within_join : (code : List Instr) (xs ys : List ℕ) → AllWithin code xs → AllWithin code ys → AllWithin code (xs ++ ys)
within_join code [] ys a b = b
within_join code (x ∷ xs) ys a b = (a.0, within_join code xs ys a.1 b)

behind_join : (code : List Instr) (xs ys : List ℕ) → AllBehindEnds code xs → AllBehindEnds code ys → AllBehindEnds code (xs ++ ys)
behind_join code [] ys a b = b
behind_join code (x ∷ xs) ys a b = (a.0, behind_join code xs ys a.1 b)

module _ (code : List Instr) where
  -- behind threads that stand there it is so again
  ends_go_on : (n : ℕ) (rs : List Run) → Started code n rs → IsBehindEnd code n → Fitting code (begins n rs) × IsBehindEnd code (behind n rs)
  ends_go_on n [] s b = (record { within = tt; behind = tt }, subst (IsBehindEnd code) (omega arith) b)
  ends_go_on n (r ∷ rs) s b =
      let from = s.0.from in
      let over = slice_get_within code from.to (instr.End (operand_of r)) from.over in
      let next = s.0.next in
      let k = ends_go_on (n + size r) rs s.1 (record { last = from.to; operand = operand_of r; there = from.over; next = next }) in
      let e : n + size r + length (threads_of rs) ≡ behind n (r ∷ rs) = let l = thread_long r rs in omega (arith, l) in
      let f = k.0 in
      (record { within = (omega (arith, over, next, some_size r), f.within); behind = (b, f.behind) }, subst (IsBehindEnd code) e k.1)

  all_behind : (d p n : ℕ) (rs : List Run) → n ≡ behind p rs → count (threads_of rs) ≤ d → AllSource rs → Has (bare code) p (generations d n rs) → IsBehindEnd code n → Fitting code (bodies (generations d n rs))
  all_behind zero p n rs e few s h b = record { within = tt; behind = tt }
  all_behind (suc d) p n rs e few s h b =
      let us = started rs in
      let later = started_source rs s in
      let k = (next_has (bare code) d p n rs e h).1 in
      let f = ends_go_on n us (all_started code d n (behind n us) us refl (fewer rs d few) later k) b in
      let g = all_behind d n (behind n us) us refl (fewer rs d few) later k f.1 in
      let front = f.0 in
      let rest = bodies (generations d (behind n us) us) in
      subst (Fitting code) (sym (bodies_next d n rs s)) (record { within = within_join code (begins n us) rest front.within g.within; behind = behind_join code (begins n us) rest front.behind g.behind })

-- THE WHOLE

has_shift : (code : List Instr) (i : Instr) (p : ℕ) (is : List Instr) → Has code p is → Has (i ∷ code) (p + 1) is
has_shift code i p [] h = tt
has_shift code i p (j ∷ is) h = (ap (slice_get (i ∷ code)) (plus_one p) ∙ h.0, has_shift code i (p + 1) is h.1)
  where
    plus_one : (n : ℕ) → n + 1 ≡ suc n
    plus_one n = omega arith

has_itself : (code : List Instr) → Has code 0 code
has_itself [] = tt
has_itself (i ∷ code) = (refl, has_shift code i 0 code (has_itself code))

-- what stands behind the first thread stands behind its end
over_first : (code : List Instr) (r : Run) → Stood code 0 r → IsBehindEnd code (size r)
over_first code r h = let e = h.next in record { last = h.from.to; operand = operand_of r; there = h.from.over; next = omega (arith, e) }

no_more : (ps : List Piece) → ps ++ [] ≡ ps
no_more [] = refl
no_more (x ∷ ps) = ap (λ qs. x ∷ qs) (no_more ps)

-- main's thread alone
pub count_alone : (r : Run) → count (threads_of (r ∷ [])) ≡ steps_left r + 1
count_alone r = ap count (no_more (thread r)) ∙ counted_thread r

-- it has the term's code, with whatever room in its lists
pub its_code : (code : List Instr) (r : Run) → IsSource r → bare code ≡ code_of r → IsItsCode code r
its_code code r s same =
    let d = suc (steps_left r) in
    let alone = thread_long r [] in
    let few : count (threads_of (r ∷ [])) ≤ d = let l = count_alone r in omega (arith, l) in
    let e : size r ≡ behind 0 (r ∷ []) = omega (arith, alone) in
    let all : Has (bare code) 0 (code_of r) = subst (Has (bare code) 0) same (has_itself (bare code)) in
    let main = (all_started code d 0 (size r) (r ∷ []) e few (s, tt) all).0 in
    let f = all_behind code d 0 (size r) (r ∷ []) e few (s, tt) all (over_first code r main) in
    let places : bodies (code_of r) ≡ bodies code = ap bodies (sym same) ∙ bodies_bare code in
    record {
      is = main.from;
      laid = record { within = subst (AllWithin code) places f.within; behind = subst (AllBehindEnds code) places f.behind; rises = subst Rises places (all_rise d (size r) (r ∷ []) (s, tt)).rises };
      long = let l = generations_long d (size r) (r ∷ []) few in let k = count_alone r in let m = bare_long code in let o = ap length same in omega (arith, l, k, m, o);
    }

-- WITH NO ROOM

bare_placed : (n : ℕ) (ps : List Piece) → AreGood ps → bare (placed n ps) ≡ placed n ps
bare_placed n [] g = refl
bare_placed n (does i ∷ ps) g = ap₂ (λ (j : Instr) (js : List Instr). j ∷ js) (none_bare i g.0) (bare_placed n ps g.1)
bare_placed n (starts cs r ∷ ps) g = ap (λ js. instr.Spawn (slots cs) n ∷ js) (bare_placed (n + size r) ps g.1)
bare_placed n (starts_two cs a ds b ∷ ps) g = ap (λ js. instr.Par (slots cs) n (slots ds) (n + size a) ∷ js) (bare_placed (n + size a + size b) ps g.1)

bare_generations : (d n : ℕ) (rs : List Run) → AllSource rs → bare (generations d n rs) ≡ generations d n rs
bare_generations zero n rs s = refl
bare_generations (suc d) n rs s =
    let us = started rs in
    bare_join (placed n (threads_of rs)) (generations d (behind n us) us)
    ∙ ap₂ (λ (is js : List Instr). is ++ js) (bare_placed n (threads_of rs) (good_threads rs s)) (bare_generations d (behind n us) us (started_source rs s))

pub has_its_code : (r : Run) → IsSource r → HasItsCode r
has_its_code r s = its_code (code_of r) r s (bare_generations (suc (steps_left r)) (size r) (r ∷ []) (s, tt))

pub roomy_codes : RoomyCodesToo
roomy_codes = its_code
