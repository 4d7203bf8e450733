-- A step that isn't done asks for something on its way, or, without a gift, asks a home.
use Rattle.std.proofs.Common.{◌≡◌, ℕ, Option, Some, None, refl, sym, ap, subst, ◌∙◌}
use Rattle.std.specs.Prelude.{option_map}
use Rattle.law_length_asks.specs.Below.law_walks_others.Below.fr_base.declared.name.MutexNo.{MutexNo}
use Rattle.law_length_asks.specs.Below.law_walks_others.Below.fr_base.declared.place.Lval.{Lval}
use Rattle.law_length_asks.specs.Below.law_walks_others.Below.fr_base.declared.step.Fresh.{Fresh}
use Rattle.law_length_asks.specs.Below.law_walks_others.Below.fr_base.declared.step.Fresh.TheVariants as fresh
use Rattle.law_length_asks.specs.Below.law_walks_others.Below.fr_base.declared.instruction.Instr.{Instr}
use Rattle.law_length_asks.specs.Below.law_walks_others.Below.fr_base.declared.instruction.Instr.TheVariants as instr
use Rattle.law_length_asks.specs.Below.law_walks_others.Below.fr_base.declared.instruction.Operand.{Operand}
use Rattle.law_length_asks.specs.Below.law_walks_others.Below.heap_partition.declared.value.Owned.{Owned}
use Rattle.law_length_asks.specs.Below.law_walks_others.Below.server_model.Work.{Hand, then_some, pop, task_of}
use Rattle.law_length_asks.specs.Below.law_walks_others.Below.server_model.Places.{Spot}
use Rattle.law_length_asks.specs.Below.law_walks_others.Below.server_model.Prepare.{Prepared, ready, requested, nothing, access_of, prepare}
use Rattle.law_length_asks.specs.Below.law_walks_others.Below.server_model.Commit.{Committed, done, waits, refused, done_where, waiting, ask_join, join, mutex_at, ask_dup, dup, ask_lock, lock, commit, settle}
use Rattle.law_length_asks.specs.Below.law_walks_others.Below.server_model.Events.{Stepped, done_step, wait_step, committed, prepared, step}
use Rattle.law_length_asks.proofs.Below.law_walks_own.steps.Outcomes.{AsksHome, a_lock, a_dup, a_join}

waits_is : {a b : Hand} → waits a ≡ waits b → a ≡ b
waits_is e = cc

-- WHAT A PLAIN STEP WAITS FOR

no_wait : (names : Fresh) (o : Option Hand) (h2 : Hand) → done_where names o ≡ waits h2 → ⊥
no_wait names None h2 e = cc e
no_wait names (Some h) h2 e = cc e

lock_waits : (w : Lval) (h h2 : Hand) (o : Option MutexNo) → waiting (option_map (ask_lock h) o) ≡ waits h2 → AsksHome (instr.Lock w) h h2
lock_waits w h h2 None e = absurd (cc e)
lock_waits w h h2 (Some m) e = subst (AsksHome (instr.Lock w) h) (waits_is e) (a_lock w m refl)

dup_waits : (w : Lval) (h h2 : Hand) (o : Option MutexNo) → waiting (option_map (ask_dup h) o) ≡ waits h2 → AsksHome (instr.Dup w) h h2
dup_waits w h h2 None e = absurd (cc e)
dup_waits w h h2 (Some m) e = subst (AsksHome (instr.Dup w) h) (waits_is e) (a_dup w m refl)

join_waits : (p : Operand) (h h2 : Hand) (o : Option ℕ) → waiting (option_map (ask_join h) o) ≡ waits h2 → AsksHome (instr.Join p) h h2
join_waits p h h2 None e = absurd (cc e)
join_waits p h h2 (Some u) e = subst (AsksHome (instr.Join p) h) (waits_is e) (a_join p u refl)

-- a home is asked without a gift
abbrev Asked : Instr → Hand → Hand → Type 0
Asked i h h2 = (h.thread.gift ≡ None) × AsksHome i h h2

lock_asks : (w : Lval) (s : Spot) (h h2 : Hand) (g : Option Owned) → h.thread.gift ≡ g → lock s g h ≡ waits h2 → Asked (instr.Lock w) h h2
lock_asks w s h h2 None e f = (e, lock_waits w h h2 (mutex_at h s) f)
lock_asks w s h h2 (Some v) e f = absurd (no_wait fresh.None _ h2 f)

dup_asks : (w : Lval) (s : Spot) (h h2 : Hand) (g : Option Owned) → h.thread.gift ≡ g → dup s g h ≡ waits h2 → Asked (instr.Dup w) h h2
dup_asks w s h h2 None e f = (e, dup_waits w h h2 (mutex_at h s) f)
dup_asks w s h h2 (Some v) e f = absurd (no_wait fresh.None _ h2 f)

join_asks : (p : Operand) (h h2 : Hand) (g : Option Owned) → h.thread.gift ≡ g → join p g h ≡ waits h2 → Asked (instr.Join p) h h2
join_asks p h h2 None e f = (e, join_waits p h h2 (then_some (pop p h) (λ t. task_of t.item)) f)
join_asks p h h2 (Some v) e f = absurd (no_wait fresh.None _ h2 f)

commit_waits : (servers : ℕ) (i : Instr) (s : Spot) (h h2 : Hand) → commit servers i s h ≡ waits h2 → Asked i h h2
commit_waits n (instr.Let o) s h h2 e = absurd (no_wait fresh.None _ h2 e)
commit_waits n (instr.Assign w o) s h h2 e = absurd (no_wait fresh.None _ h2 e)
commit_waits n (instr.Read w take) s h h2 e = absurd (no_wait fresh.None _ h2 e)
commit_waits n (instr.Borrow w) s h h2 e = absurd (no_wait fresh.None _ h2 e)
commit_waits n (instr.BorrowMut w) s h h2 e = absurd (no_wait fresh.None _ h2 e)
commit_waits n (instr.Box o) s h h2 e = absurd (no_wait fresh.None _ h2 e)
commit_waits n (instr.Arith f a b) s h h2 e = absurd (no_wait fresh.None _ h2 e)
commit_waits n (instr.Print o) s h h2 e = absurd (no_wait fresh.None _ h2 e)
commit_waits n instr.Discard s h h2 e = absurd (no_wait fresh.None _ h2 e)
commit_waits n instr.DropSlot s h h2 e = absurd (no_wait fresh.None _ h2 e)
commit_waits n (instr.Spawn cs pc) s h h2 e = absurd (no_wait _ _ h2 e)
commit_waits n (instr.Join o) s h h2 e = join_asks o h h2 h.thread.gift refl e
commit_waits n (instr.Mutex o) s h h2 e = absurd (no_wait _ _ h2 e)
commit_waits n (instr.Dup w) s h h2 e = dup_asks w s h h2 h.thread.gift refl e
commit_waits n (instr.Lock w) s h h2 e = lock_asks w s h h2 h.thread.gift refl e
commit_waits n instr.Unlock s h h2 e = absurd (no_wait fresh.None _ h2 e)
commit_waits n (instr.Par cs pc ds other) s h h2 e = absurd (no_wait _ _ h2 e)
commit_waits n instr.ParEnd s h h2 e = absurd (no_wait fresh.None _ h2 e)
commit_waits n (instr.End o) s h h2 e = absurd (no_wait fresh.None _ h2 e)

-- THE STEP

pub data Undone (i : Instr) (h0 : Hand) (d : Stepped) : Type 0 where
  on_its_way : (h : Hand) → prepare (access_of i h0.thread) h0 ≡ requested h → d ≡ wait_step h → Undone i h0 d
  at_a_home : (h h2 : Hand) (s : Spot) → prepare (access_of i h0.thread) h0 ≡ ready h s → h.thread.gift ≡ None → AsksHome i h h2 → d ≡ wait_step h2 → Undone i h0 d

some_step : {a b : Stepped} → Some a ≡ Some b → b ≡ a
some_step e = cc

-- a step that is done took names
named : (names : Fresh) (o : Option Hand) (d : Stepped) → option_map (done_step names) o ≡ Some d → d.names ≡ None → ⊥
named names None d e f = absurd (cc e)
named names (Some h) d e f = let g : Some names ≡ None = sym (ap (λ (x : Stepped). x.names) (some_step e)) ∙ f in cc g

pub undone : (servers : ℕ) (i : Instr) (h0 : Hand) (d : Stepped) → step servers i h0 ≡ Some d → d.names ≡ None → Undone i h0 d
undone servers i h0 d e none = by (prepare (access_of i h0.thread) h0) refl e
  where
    by_commit : (h : Hand) (s : Spot) → prepare (access_of i h0.thread) h0 ≡ ready h s → (c : Committed) → commit servers i s h ≡ c → committed c ≡ Some d → Undone i h0 d
    by_commit h s q (done names h2) c f = absurd (named names (settle h2) d f none)
    by_commit h s q (waits h2) c f = let a = commit_waits servers i s h h2 c in at_a_home h h2 s q a.0 a.1 (some_step f)
    by_commit h s q refused c f = absurd (cc f)

    by : (p : Prepared) → prepare (access_of i h0.thread) h0 ≡ p → prepared servers i p ≡ Some d → Undone i h0 d
    by (ready h s) q f = by_commit h s q (commit servers i s h) refl f
    by (requested h) q f = on_its_way h q (some_step f)
    by nothing q f = absurd (cc f)
