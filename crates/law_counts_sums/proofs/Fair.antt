-- The sums on who waits for an answer, who is noted as a half of a pair, who goes on and whose result stands somewhere. They see messages, places in
-- queues, notes, and of a thread its number, its phase and its server, and the last its gift and its instruction.
use Rattle.std.proofs.Common.{◌≡◌, ◌≤◌, ℕ, ◌+◌, ◌==◌, ◌&&◌, not, Bool, true, false, List, [], ◌∷◌, ◌++◌, None, refl, sym, ap, ap₂, ◌∙◌, arith}
use Rattle.coherent_memory.specs.Below.fr_base.declared.instruction.Instr.{Instr}
use Rattle.coherent_memory.specs.Below.heap_partition.declared.value.Cell.{Cell}
use Rattle.coherent_memory.specs.Below.thread_state.View.{ThreadState, is_over}
use Rattle.coherent_memory.specs.Below.thread_state.declared.phase.Phase.{Phase}
use Rattle.coherent_memory.specs.Below.thread_state.declared.phase.Phase.TheVariants as phase
use Rattle.coherent_memory.specs.Below.server_msgs.declared.message.Message.{Message}
use Rattle.coherent_memory.specs.Below.server_model.Events.{can_step}
use Rattle.coherent_memory.specs.Names.{tot, one, if_so}
use Rattle.coherent_memory.specs.Below.mutex_home.Mutexes.{Mutex}
use Rattle.coherent_memory.specs.Things.{Thing, at_home, flies, sent, stands, counts}
use Rattle.coherent_memory.specs.Requests.{Branch, waits, whole_answer, message_answer, halves, halves_to, halves_needed, pair_notes, pair_places, branch_places}
use Rattle.coherent_memory.specs.Sharing.{finished_of, joined_of, got_phase, going_notes, goes_on, noted_away, has_ended}
use Rattle.coherent_memory.specs.Balances.{Agree, AtMost}
use Rattle.law_counts_sums.proofs.Trades.{Same, tot-append}
use Rattle.law_counts_sums.proofs.Unseen.{Unseen}
use Rattle.law_counts_sums.proofs.Held.{result_of, owed_of, holds_result, same_held, bare_held}

-- by how much what is owed of each thread's result becomes more, and less
pub record Dues : Type 0 where
  pub code : List Instr
  pub made : ℕ → ℕ
  pub spent : ℕ → ℕ

abbrev pub zeros : ℕ → ℕ
zeros t = 0

-- by nothing
abbrev pub even : List Instr → Dues
even code = record { code = code; made = zeros; spent = zeros }

-- by a step: what its thread holds is spent, and so much is made
abbrev pub pays : List Instr → ThreadState → (ℕ → ℕ) → Dues
pays code y made = record { code = code; made = made; spent = λ t. holds_result code t y }

-- by a task that is let go: what is owed of it is spent
abbrev pub lets : List Instr → ℕ → Dues
lets code u = record { code = code; made = zeros; spent = λ t. one (u == t) }

-- what goes and what comes weigh the same for each of these sums
pub record Fair (dues : Dues) (olds news : List Thing) : Type 0 where
  pub answers : (t : ℕ) → tot (halves_to t) news + tot (halves_needed t) olds ≡ tot (halves_to t) olds + tot (halves_needed t) news
  pub pairs : (b : Branch) → tot (pair_notes b) news + tot (pair_places b) olds ≡ tot (pair_notes b) olds + tot (pair_places b) news
  pub going : (t : ℕ) → tot (going_notes t) news + tot (goes_on t) olds ≡ tot (going_notes t) olds + tot (goes_on t) news
  pub homes : tot noted_away news ≤ tot noted_away olds
  pub ends : (t : ℕ) → tot (result_of dues.code t) news + tot (has_ended t) olds ≤ tot (result_of dues.code t) olds + tot (has_ended t) news
  pub owes : (t : ℕ) → tot (owed_of dues.code t) news + dues.spent t ≡ tot (owed_of dues.code t) olds + dues.made t

-- the sums themselves
pub record Asking (code : List Instr) (b : List Thing) : Type 0 where
  pub one_answer : Agree halves_to halves_needed b
  pub pairs_noted : Agree pair_notes pair_places b
  pub noted_go_on : Agree going_notes goes_on b
  pub noted_at_home : tot noted_away b ≡ 0
  pub one_result : AtMost (result_of code) has_ended b

-- of two threads the number, the phase, the gift, the instruction and the temporary values are the same
pub record SameThread (x y : ThreadState) : Type 0 where
  pub number : x.number ≡ y.number
  pub phase : x.phase ≡ y.phase
  pub gift : x.gift ≡ y.gift
  pub pc : x.pc ≡ y.pc
  pub temps : x.temps ≡ y.temps

pub same_self : (x : ThreadState) → SameThread x x
same_self x = record { number = refl; phase = refl; gift = refl; pc = refl; temps = refl }

-- a weight that sees no more than these do
pub record Hears (f : Thing → ℕ) : Type 0 where
  pub unseen : (n : ℕ) → Unseen f n
  pub flying : (w : ℕ) (c : Cell) → f (flies w c) ≡ 0
  pub home : (s : ℕ) (m : Mutex) → f (at_home s m) ≡ 0
  pub counted : (s a b c d e : ℕ) → f (counts s a b c d e) ≡ 0
  pub thread : (s : ℕ) (p q : Bool) (x y : ThreadState) → SameThread x y → f (stands s p x) ≡ f (stands s q y)

pub halves_heard : (t : ℕ) → Hears (halves_to t)
halves_heard t = record {
  unseen = λ n. record { held = λ p v. refl; shared = λ l r. refl; borrowed = λ l r. refl; locked = λ l m. refl; live = λ a c. refl; free = λ a m. refl; old = λ a. refl; copy = λ s c. refl; used = λ s w. refl };
  flying = λ w c. refl;
  home = λ s m. refl;
  counted = λ s a b c d e. refl;
  thread = λ s p q x y e. refl;
}

pub needed_heard : (t : ℕ) → Hears (halves_needed t)
needed_heard t = record {
  unseen = λ n. record { held = λ p v. refl; shared = λ l r. refl; borrowed = λ l r. refl; locked = λ l m. refl; live = λ a c. refl; free = λ a m. refl; old = λ a. refl; copy = λ s c. refl; used = λ s w. refl };
  flying = λ w c. refl;
  home = λ s m. refl;
  counted = λ s a b c d e. refl;
  thread = λ s p q x y e. ap₂ (λ i j. if_so (i == t && waits j) 2) e.number e.phase;
}

pub notes_heard : (b : Branch) → Hears (pair_notes b)
notes_heard b = record {
  unseen = λ n. record { held = λ p v. refl; shared = λ l r. refl; borrowed = λ l r. refl; locked = λ l m. refl; live = λ a c. refl; free = λ a m. refl; old = λ a. refl; copy = λ s c. refl; used = λ s w. refl };
  flying = λ w c. refl;
  home = λ s m. refl;
  counted = λ s a b c d e. refl;
  thread = λ s p q x y e. refl;
}

pub places_heard : (b : Branch) → Hears (pair_places b)
places_heard b = record {
  unseen = λ n. record { held = λ p v. refl; shared = λ l r. refl; borrowed = λ l r. refl; locked = λ l m. refl; live = λ a c. refl; free = λ a m. refl; old = λ a. refl; copy = λ s c. refl; used = λ s w. refl };
  flying = λ w c. refl;
  home = λ s m. refl;
  counted = λ s a b c d e. refl;
  thread = λ s p q x y e. ap₂ (λ i j. if_so (s == b.server && i == b.parent) (branch_places b.thread j)) e.number e.phase;
}

pub going_heard : (t : ℕ) → Hears (going_notes t)
going_heard t = record {
  unseen = λ n. record { held = λ p v. refl; shared = λ l r. refl; borrowed = λ l r. refl; locked = λ l m. refl; live = λ a c. refl; free = λ a m. refl; old = λ a. refl; copy = λ s c. refl; used = λ s w. refl };
  flying = λ w c. refl;
  home = λ s m. refl;
  counted = λ s a b c d e. refl;
  thread = λ s p q x y e. refl;
}

pub goes_heard : (t : ℕ) → Hears (goes_on t)
goes_heard t = record {
  unseen = λ n. record { held = λ p v. refl; shared = λ l r. refl; borrowed = λ l r. refl; locked = λ l m. refl; live = λ a c. refl; free = λ a m. refl; old = λ a. refl; copy = λ s c. refl; used = λ s w. refl };
  flying = λ w c. refl;
  home = λ s m. refl;
  counted = λ s a b c d e. refl;
  thread = λ s p q x y e. ap₂ (λ i j. one (i == t && (not (i == 0) && not (is_over j)))) e.number e.phase;
}

pub homes_heard : Hears noted_away
homes_heard = record {
  unseen = λ n. record { held = λ p v. refl; shared = λ l r. refl; borrowed = λ l r. refl; locked = λ l m. refl; live = λ a c. refl; free = λ a m. refl; old = λ a. refl; copy = λ s c. refl; used = λ s w. refl };
  flying = λ w c. refl;
  home = λ s m. refl;
  counted = λ s a b c d e. refl;
  thread = λ s p q x y e. refl;
}

pub ended_heard : (t : ℕ) → Hears (has_ended t)
ended_heard t = record {
  unseen = λ n. record { held = λ p v. refl; shared = λ l r. refl; borrowed = λ l r. refl; locked = λ l m. refl; live = λ a c. refl; free = λ a m. refl; old = λ a. refl; copy = λ s c. refl; used = λ s w. refl };
  flying = λ w c. refl;
  home = λ s m. refl;
  counted = λ s a b c d e. refl;
  thread = λ s p q x y e. ap₂ (λ i j. one (i == t && (not (i == 0) && is_over j))) e.number e.phase;
}

pub results_heard : (code : List Instr) (t : ℕ) → Hears (result_of code t)
results_heard code t = record {
  unseen = λ n. record { held = λ p v. refl; shared = λ l r. refl; borrowed = λ l r. refl; locked = λ l m. refl; live = λ a c. refl; free = λ a m. refl; old = λ a. refl; copy = λ s c. refl; used = λ s w. refl };
  flying = λ w c. refl;
  home = λ s m. refl;
  counted = λ s a b c d e. refl;
  thread = λ s p q x y e. ap₂ (λ i j. got_phase t i + j) e.phase (same_held code t x y e.gift e.pc e.temps);
}

pub owed_heard : (code : List Instr) (t : ℕ) → Hears (owed_of code t)
owed_heard code t = record {
  unseen = λ n. record { held = λ p v. refl; shared = λ l r. refl; borrowed = λ l r. refl; locked = λ l m. refl; live = λ a c. refl; free = λ a m. refl; old = λ a. refl; copy = λ s c. refl; used = λ s w. refl };
  flying = λ w c. refl;
  home = λ s m. refl;
  counted = λ s a b c d e. refl;
  thread = λ s p q x y e. same_held code t x y e.gift e.pc e.temps;
}

-- where the weights that see no more change by what goes and what comes, the sums are kept
pub asking_kept : (dues : Dues) (a b olds news : List Thing) → ((f : Thing → ℕ) → Hears f → tot f b + tot f olds ≡ tot f a + tot f news) → Fair dues olds news → Asking dues.code a → Asking dues.code b
asking_kept dues a b olds news change fair k = record {
  one_answer = λ t. omega (arith, change (halves_to t) (halves_heard t), change (halves_needed t) (needed_heard t), fair.answers t, k.one_answer t);
  pairs_noted = λ x. omega (arith, change (pair_notes x) (notes_heard x), change (pair_places x) (places_heard x), fair.pairs x, k.pairs_noted x);
  noted_go_on = λ t. omega (arith, change (going_notes t) (going_heard t), change (goes_on t) (goes_heard t), fair.going t, k.noted_go_on t);
  noted_at_home = omega (arith, change noted_away homes_heard, fair.homes, k.noted_at_home);
  one_result = λ t. omega (arith, change (result_of dues.code t) (results_heard dues.code t), change (has_ended t) (ended_heard t), fair.ends t, k.one_result t);
}

-- and what is owed changes by what is made and spent
pub owed_kept : (dues : Dues) (a b olds news : List Thing) → ((f : Thing → ℕ) → Hears f → tot f b + tot f olds ≡ tot f a + tot f news) → Fair dues olds news → (t : ℕ) → tot (owed_of dues.code t) b + dues.spent t ≡ tot (owed_of dues.code t) a + dues.made t
owed_kept dues a b olds news change fair t = omega (arith, change (owed_of dues.code t) (owed_heard dues.code t), fair.owes t)

-- FAIR CHANGES TOGETHER

pub fair_none : {code : List Instr} → Fair (even code) [] []
fair_none {code} = record { answers = λ t. refl; pairs = λ b. refl; going = λ t. refl; homes = omega arith; ends = λ t. omega arith; owes = λ t. refl }

-- what both make and spend is made and spent
pub fair_sum : (code : List Instr) (m s m1 s1 m2 s2 : ℕ → ℕ) → ((t : ℕ) → m1 t + m2 t ≡ m t) → ((t : ℕ) → s1 t + s2 t ≡ s t) → (a b c d : List Thing) → Fair (record { code = code; made = m1; spent = s1 }) a b → Fair (record { code = code; made = m2; spent = s2 }) c d
    → Fair (record { code = code; made = m; spent = s }) (a ++ c) (b ++ d)
fair_sum code m s m1 s1 m2 s2 made spent a b c d p q = record {
  answers = λ t. omega (arith, p.answers t, q.answers t, tot-append (halves_to t) a c, tot-append (halves_to t) b d, tot-append (halves_needed t) a c, tot-append (halves_needed t) b d);
  pairs = λ x. omega (arith, p.pairs x, q.pairs x, tot-append (pair_notes x) a c, tot-append (pair_notes x) b d, tot-append (pair_places x) a c, tot-append (pair_places x) b d);
  going = λ t. omega (arith, p.going t, q.going t, tot-append (going_notes t) a c, tot-append (going_notes t) b d, tot-append (goes_on t) a c, tot-append (goes_on t) b d);
  homes = omega (arith, p.homes, q.homes, tot-append noted_away a c, tot-append noted_away b d);
  ends = λ t. omega (arith, p.ends t, q.ends t, tot-append (result_of code t) a c, tot-append (result_of code t) b d, tot-append (has_ended t) a c, tot-append (has_ended t) b d);
  owes = λ t. omega (arith, p.owes t, q.owes t, made t, spent t, tot-append (owed_of code t) a c, tot-append (owed_of code t) b d);
}

pub fair_both : {dues : Dues} (a b c d : List Thing) → Fair dues a b → Fair (even dues.code) c d → Fair dues (a ++ c) (b ++ d)
fair_both {dues} a b c d p q = fair_sum dues.code dues.made dues.spent dues.made dues.spent zeros zeros (λ t. omega arith) (λ t. omega arith) a b c d p q

-- A THREAD THAT STEPS

-- it waits for nothing and isn't over
pub calm_waits : (p : Phase) → can_step p ≡ true → waits p ≡ false
calm_waits phase.Ready c = refl
calm_waits phase.Got c = refl
calm_waits (phase.GotPar a b) c = refl
calm_waits (phase.Taken w) c = refl
calm_waits _ c = absurd (cc c)

pub calm_over : (p : Phase) → can_step p ≡ true → is_over p ≡ false
calm_over phase.Ready c = refl
calm_over phase.Got c = refl
calm_over (phase.GotPar a b) c = refl
calm_over (phase.Taken w) c = refl
calm_over _ c = absurd (cc c)

pub calm_places : (t : ℕ) (p : Phase) → can_step p ≡ true → branch_places t p ≡ 0
calm_places t phase.Ready c = refl
calm_places t phase.Got c = refl
calm_places t (phase.GotPar a b) c = refl
calm_places t (phase.Taken w) c = refl
calm_places t _ c = absurd (cc c)

-- nor is it over, nor has it got the results of a pair
pub record Calmly (p : Phase) : Type 0 where
  pub steps : can_step p ≡ true
  pub got : (t : ℕ) → got_phase t p ≡ 0

pub not_ended : (b z o : Bool) → o ≡ false → one (b && (not z && o)) ≡ 0
not_ended true true o e = refl
not_ended true false false e = refl
not_ended true false true e = absurd (cc e)
not_ended false z o e = refl

pub if_none : (b : Bool) (n : ℕ) → n ≡ 0 → if_so b n ≡ 0
if_none true n e = e
if_none false n e = refl

pub needs_none : (b w : Bool) → w ≡ false → if_so (b && w) 2 ≡ 0
needs_none true true e = absurd (cc e)
needs_none true false e = refl
needs_none false w e = refl

pub needs_both : (b w : Bool) → w ≡ true → if_so (b && w) 2 ≡ if_so b 2
needs_both true true e = refl
needs_both true false e = absurd (cc e)
needs_both false w e = refl

-- it stands as it did, in another phase in which it waits for nothing
pub fair_calm : {code : List Instr} (n : ℕ) (y y2 : ThreadState) → y2.number ≡ y.number → y2.gift ≡ None → can_step y.phase ≡ true → Calmly y2.phase → Fair (pays code y zeros) (stands n false y ∷ []) (stands n false y2 ∷ [])
fair_calm {code} n y y2 e bare c calm = let d = calm.steps in record {
  answers = λ t. omega (arith, needs_none (y.number == t) (waits y.phase) (calm_waits y.phase c), needs_none (y2.number == t) (waits y2.phase) (calm_waits y2.phase d));
  pairs = λ x. omega (
    arith,
    if_none (n == x.server && y.number == x.parent) (branch_places x.thread y.phase) (calm_places x.thread y.phase c),
    if_none (n == x.server && y2.number == x.parent) (branch_places x.thread y2.phase) (calm_places x.thread y2.phase d),
  );
  going = λ t. let same = ap₂ (λ i j. one (i == t && (not (i == 0) && not j))) e (calm_over y2.phase d ∙ sym (calm_over y.phase c)) in omega (arith, same);
  homes = omega arith;
  ends = λ t. omega (arith, calm.got t, bare_held code t y2 bare, not_ended (y.number == t) (y.number == 0) (is_over y.phase) (calm_over y.phase c));
  owes = λ t. omega (arith, bare_held code t y2 bare);
}

-- it asks, and waits for the answer
pub record Asks (y2 : ThreadState) (m : Message) : Type 0 where
  pub waiting : waits y2.phase ≡ true
  pub alone : (t : ℕ) → branch_places t y2.phase ≡ 0
  pub lives : is_over y2.phase ≡ false
  pub answer : message_answer m ≡ whole_answer y2.number
  pub goes_on : (t : ℕ) → finished_of t m ≡ 0
  pub no_result : (t : ℕ) → (got_phase t y2.phase ≡ 0) × (joined_of t m ≡ 0)

pub fair_asks : {code : List Instr} (n a : ℕ) (y y2 : ThreadState) (m : Message) → y2.number ≡ y.number → ((t : ℕ) → holds_result code t y2 ≡ 0) → can_step y.phase ≡ true → Asks y2 m → Fair (pays code y zeros) (stands n false y ∷ []) (stands n false y2 ∷ sent a m ∷ [])
fair_asks {code} n a y y2 m e bare c q = record {
  answers = λ t. let is = ap (halves t) q.answer in omega (arith, is, needs_none (y.number == t) (waits y.phase) (calm_waits y.phase c), needs_both (y2.number == t) (waits y2.phase) q.waiting);
  pairs = λ x. omega (
    arith,
    if_none (n == x.server && y.number == x.parent) (branch_places x.thread y.phase) (calm_places x.thread y.phase c),
    if_none (n == x.server && y2.number == x.parent) (branch_places x.thread y2.phase) (q.alone x.thread),
  );
  going = λ t. let same = ap₂ (λ i j. one (i == t && (not (i == 0) && not j))) e (q.lives ∙ sym (calm_over y.phase c)) in omega (arith, same, q.goes_on t);
  homes = omega arith;
  ends = λ t. omega (arith, (q.no_result t).0, (q.no_result t).1, q.goes_on t, bare t, not_ended (y.number == t) (y.number == 0) (is_over y.phase) (calm_over y.phase c));
  owes = λ t. omega (arith, (q.no_result t).1, bare t);
}

-- what weighs nothing more comes beside
pub fair_beside : {dues : Dues} (olds front news more : List Thing) → Fair (even dues.code) [] news → Fair dues olds (front ++ more) → Fair dues olds (front ++ (news ++ more))
fair_beside {dues} olds front news more p q = record {
  answers = λ t. omega (arith, p.answers t, q.answers t, split (halves_to t), split (halves_needed t), whole (halves_to t), whole (halves_needed t));
  pairs = λ x. omega (arith, p.pairs x, q.pairs x, split (pair_notes x), split (pair_places x), whole (pair_notes x), whole (pair_places x));
  going = λ t. omega (arith, p.going t, q.going t, split (going_notes t), split (goes_on t), whole (going_notes t), whole (goes_on t));
  homes = omega (arith, p.homes, q.homes, split noted_away, whole noted_away);
  ends = λ t. omega (arith, p.ends t, q.ends t, split (result_of dues.code t), split (has_ended t), whole (result_of dues.code t), whole (has_ended t));
  owes = λ t. omega (arith, p.owes t, q.owes t, split (owed_of dues.code t), whole (owed_of dues.code t));
}
  where
    split : (f : Thing → ℕ) → tot f (front ++ more) ≡ tot f front + tot f more
    split f = tot-append f front more

    whole : (f : Thing → ℕ) → tot f (front ++ (news ++ more)) ≡ tot f front + (tot f news + tot f more)
    whole f = omega (arith, tot-append f front (news ++ more), tot-append f news more)

-- the same things in another order, and a thread that is the same
pub fair_same : {dues : Dues} (olds news news2 : List Thing) → Same news news2 → Fair dues olds news → Fair dues olds news2
fair_same {dues} olds news news2 e p = record {
  answers = λ t. omega (arith, p.answers t, e (halves_to t), e (halves_needed t));
  pairs = λ x. omega (arith, p.pairs x, e (pair_notes x), e (pair_places x));
  going = λ t. omega (arith, p.going t, e (going_notes t), e (goes_on t));
  homes = omega (arith, p.homes, e noted_away);
  ends = λ t. omega (arith, p.ends t, e (result_of dues.code t), e (has_ended t));
  owes = λ t. omega (arith, p.owes t, e (owed_of dues.code t));
}

pub fair_thread : {dues : Dues} (olds : List Thing) (n : ℕ) (x y : ThreadState) (news : List Thing) → SameThread y x → Fair dues olds (stands n false x ∷ news) → Fair dues olds (stands n false y ∷ news)
fair_thread {dues} olds n x y news e p = record {
  answers = λ t. let a = needed_heard t in omega (arith, p.answers t, a.thread n false false y x e);
  pairs = λ b. let a = places_heard b in omega (arith, p.pairs b, a.thread n false false y x e);
  going = λ t. let a = goes_heard t in omega (arith, p.going t, a.thread n false false y x e);
  homes = omega (arith, p.homes);
  ends = λ t. let a = results_heard dues.code t in let b = ended_heard t in omega (arith, p.ends t, a.thread n false false y x e, b.thread n false false y x e);
  owes = λ t. let a = owed_heard dues.code t in omega (arith, p.owes t, a.thread n false false y x e);
}
